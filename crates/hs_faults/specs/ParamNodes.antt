-- Faults of a rule's parameters with the nodes that have their names.
use Rattle.std.specs.Prelude.{List, ◌++◌, Bool, true, false, not, ◌&&◌, is_some, if◌then◌else◌}
use Rattle.std.specs.Option.{option_map_or}
use Rattle.hs_expr.specs.Verdict.{each, fault_if}
use Rattle.hs_text.specs.declared.syntax.Direction.{Direction}
use Rattle.hs_text.specs.declared.syntax.Direction.TheVariants.{In, Out}
use Rattle.hs_text.specs.declared.syntax.Mark.{Mark}
use Rattle.hs_text.specs.declared.syntax.Mark.TheVariants.{Preserve, Create, Delete}
use Rattle.hs_text.specs.declared.syntax.Param.{Param}
use Rattle.hs_expr.specs.Lists.{same_text}
use Rattle.hs_faults.specs.declared.nodes.DeclaredNode.{DeclaredNode}
use Rattle.hs_faults.specs.declared.nodes.BlockId.{BlockId}
use Rattle.hs_faults.specs.declared.nodes.BlockId.TheVariants.{Kernel, Pattern, Multi}
use Rattle.hs_faults.specs.declared.fault.RuleFault.{RuleFault}
use Rattle.hs_faults.specs.declared.fault.RuleFaultKind.TheVariants as kind
use Rattle.hs_faults.specs.Names.{data_named, node_named}
use Rattle.hs_faults.specs.Places.{fault_at}

abbrev pub is_out : Direction → Bool
is_out In = false
is_out Out = true

abbrev pub is_kernel : BlockId → Bool
is_kernel Kernel = true
is_kernel (Pattern i) = false
is_kernel (Multi i) = false

-- An in parameter's node is on the left side, an out parameter's is there afterwards.
abbrev pub is_on_side : Direction → Mark → Bool
is_on_side In Preserve = true
is_on_side In Create = false
is_on_side In Delete = true
is_on_side Out Preserve = true
is_on_side Out Create = true
is_on_side Out Delete = false

-- The node is one of the kernel, on the parameter's side.
abbrev pub is_node_of : Param → DeclaredNode → Bool
is_node_of param node = is_kernel node.block && is_on_side param.direction node.mark

-- The node has the parameter's class.
abbrev pub is_of_kind : Param → DeclaredNode → Bool
is_of_kind param node = same_text node.class.text param.kind.text

-- A parameter for an object has the name of a node of its class.
abbrev pub object_faults : List DeclaredNode → Param → List RuleFault
object_faults nodes param =
    fault_if (not (option_map_or (is_node_of param) (node_named nodes param.name.text) false))
    (fault_at param.name.span kind.UnknownNode)
    ++ fault_if (not (option_map_or (is_of_kind param) (node_named nodes param.name.text) true))
    (fault_at param.name.span kind.ArgMismatch)

-- A parameter for data is given.
abbrev pub data_faults : Param → List RuleFault
data_faults param = fault_if (is_out param.direction) (fault_at param.name.span kind.ArgMismatch)

abbrev pub fit_faults : List DeclaredNode → Param → List RuleFault
fit_faults nodes param =
    if is_some (data_named param.kind.text) then data_faults param else object_faults nodes param

abbrev pub param_node_faults : List DeclaredNode → List Param → List RuleFault
param_node_faults nodes params = each (λ i param. fit_faults nodes param) params
