-- Faults of the parameters and the nodes that a rule declares, in written order.
use Rattle.std.specs.Prelude.{List, [], ◌++◌, take, Bool, true, false, not, ◌&&◌, ◌||◌, is_some, if◌then◌else◌}
use Rattle.std.specs.Option.{option_map_or}
use Rattle.hs_expr.specs.declared.Name.{Name}
use Rattle.hs_expr.specs.Verdict.{each, fault_if}
use Rattle.hs_text.specs.declared.syntax.Mark.{Mark}
use Rattle.hs_text.specs.declared.syntax.Mark.TheVariants.{Preserve, Create, Delete}
use Rattle.hs_text.specs.declared.syntax.Param.{Param}
use Rattle.hs_types.specs.declared.meta.Metamodel.{Metamodel}
use Rattle.hs_faults.specs.declared.nodes.DeclaredNode.{DeclaredNode}
use Rattle.hs_faults.specs.declared.fault.RuleFault.{RuleFault}
use Rattle.hs_faults.specs.declared.fault.RuleFaultKind.TheVariants as kind
use Rattle.hs_faults.specs.Named.{first_named}
use Rattle.hs_faults.specs.Names.{class_number, data_named, has_concrete, is_concrete}
use Rattle.hs_faults.specs.Places.{fault_at}

abbrev pub is_created : Mark → Bool
is_created Preserve = false
is_created Create = true
is_created Delete = false

-- Objects can be of the class, and where one is created it can be made of it. Of a class that isn't
-- there nothing is asked here.
abbrev pub has_objects : Metamodel → Bool → Name → Bool
has_objects m created class =
    option_map_or (λ c. has_concrete m c && (not created || is_concrete m c))
    (class_number m class.text) true

abbrev pub class_name_faults : Metamodel → Bool → Name → List RuleFault
class_name_faults m created class =
    fault_if (not (is_some (class_number m class.text))) (fault_at class.span kind.UnknownClass)
    ++ fault_if (not (has_objects m created class)) (fault_at class.span kind.NoConcrete)

-- A parameter is for data, or of a class.
abbrev pub param_kind_faults : Metamodel → Name → List RuleFault
param_kind_faults m word =
    if is_some (data_named word.text) then [] else class_name_faults m false word

-- An item before has this name.
abbrev pub is_again : {T : Type 0} → (T → Name) → List T → Name → Bool
is_again name_of before name = is_some (first_named name_of before name.text)

-- A parameter has a name of its own.
abbrev pub param_faults : Metamodel → List Param → Param → List RuleFault
param_faults m before param =
    fault_if (is_again (λ other. other.name) before param.name)
    (fault_at param.name.span kind.Twice) ++ param_kind_faults m param.kind

-- A node has a name of its own among those of the kernel and of all blocks.
abbrev pub node_faults : Metamodel → List DeclaredNode → DeclaredNode → List RuleFault
node_faults m before node =
    fault_if (is_again (λ other. other.name) before node.name) (fault_at node.name.span kind.Twice)
    ++ class_name_faults m (is_created node.mark) node.class

abbrev pub faults_of_params : Metamodel → List Param → List RuleFault
faults_of_params m params = each (λ i param. param_faults m (take i params) param) params

abbrev pub faults_of_nodes : Metamodel → List DeclaredNode → List RuleFault
faults_of_nodes m nodes = each (λ i node. node_faults m (take i nodes) node) nodes
