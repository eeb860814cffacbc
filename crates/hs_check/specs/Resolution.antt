-- What statements, declarations and calls of a text name, and that it is found.
use Rattle.std.specs.Prelude.{ℕ, ◌≡◌, ◌++◌, List, [], Bool, true, false, ◌&&◌, ◌||◌, is_some, slice_get}
use Rattle.std.specs.List.{list_all}
use Rattle.std.specs.Option.{option_and_then, option_map_or}
use Rattle.hs_expr.specs.Lists.{same_text}
use Rattle.hs_text.specs.declared.syntax.Call.{Call}
use Rattle.hs_text.specs.declared.syntax.Definition.{Definition}
use Rattle.hs_text.specs.declared.syntax.Param.{Param}
use Rattle.hs_text.specs.declared.syntax.Rule.{Rule}
use Rattle.hs_text.specs.declared.syntax.Unit.{Unit as WrittenUnit}
use Rattle.hs_types.specs.declared.meta.Metamodel.{Metamodel}
use Rattle.hs_types.specs.declared.rule.PatternNode.{PatternNode}
use Rattle.hs_faults.specs.declared.nodes.BlockId.{BlockId}
use Rattle.hs_faults.specs.declared.nodes.BlockId.TheVariants.{Kernel, Pattern, Multi}
use Rattle.hs_faults.specs.declared.nodes.DeclaredNode.{DeclaredNode}
use Rattle.hs_faults.specs.Names.{class_number}
use Rattle.hs_faults.specs.Nodes.{declared_nodes}
use Rattle.hs_faults.specs.StatementFaults.{visible_node}
use Rattle.hs_faults.specs.Statements.{Statement, Edge, Set, Where, statements}
use Rattle.hs_faults.specs.UnitFaults.{is_known_kind, rules_of, units_of, written_calls}
use Rattle.hs_check.specs.declared.units.Callees.{Callees}
use Rattle.hs_check.specs.Elements.{node_feature, node_number, nodes_in}
use Rattle.hs_check.specs.Units.{callees, place_among}

-- The nodes whose numbers come before the block's own.
abbrev pub nodes_before : Metamodel → List DeclaredNode → BlockId → List PatternNode
nodes_before m declared Kernel = []
nodes_before m declared (Pattern i) = nodes_in m declared Kernel
nodes_before m declared (Multi i) = nodes_in m declared Kernel

-- The nodes that this part of a rule may name.
abbrev pub nodes_seen : Metamodel → List DeclaredNode → BlockId → List PatternNode
nodes_seen m declared block = nodes_before m declared block ++ nodes_in m declared block

-- The node that is at the number of this name, among those that this part may name, has the name.
abbrev pub is_placed : Metamodel → List DeclaredNode → BlockId → List ℕ → Bool
is_placed m declared block name =
    option_map_or (λ node. same_text name node.name)
    (slice_get (nodes_seen m declared block) (node_number declared name)) false

-- This part may name a node of this name, and its class has a feature of that name.
abbrev pub finds_feature : Metamodel → List DeclaredNode → BlockId → List ℕ → List ℕ → Bool
finds_feature m declared block name feature =
    is_some (option_and_then (node_feature m feature) (visible_node declared block name))

-- The nodes of the statement are found, at their numbers, and its reference or attribute.
abbrev pub statement_resolves : Metamodel → List DeclaredNode → Statement → Bool
statement_resolves m declared (Edge block mark source target reference) =
    finds_feature m declared block source.text reference.text
    && (is_placed m declared block source.text && is_placed m declared block target.text)
statement_resolves m declared (Set block node attribute value) =
    finds_feature m declared block node.text attribute.text && is_placed m declared block node.text
statement_resolves m declared (Where block word test) = true

-- The kind of the parameter is one of data, or a class that is there.
abbrev pub param_resolves : Metamodel → Param → Bool
param_resolves m param = is_known_kind m param.kind.text

abbrev pub node_resolves : Metamodel → DeclaredNode → Bool
node_resolves m node = is_some (class_number m node.class.text)

-- What the call names is a rule or a unit.
abbrev pub call_resolves : Callees → Call → Bool
call_resolves known call =
    is_some (place_among known.rules call.callee.text)
    || is_some (place_among known.units call.callee.text)

abbrev pub rule_resolves : Metamodel → Rule → Bool
rule_resolves m rule =
    list_all (param_resolves m) rule.params
    && (list_all (node_resolves m) (declared_nodes rule.items)
    && list_all (statement_resolves m (declared_nodes rule.items)) (statements rule.items))

abbrev pub unit_resolves : Metamodel → Callees → WrittenUnit → Bool
unit_resolves m known unit =
    list_all (param_resolves m) unit.params
    && list_all (call_resolves known) (written_calls unit.body)

-- What parameters, declared nodes, edges and the targets of sets name is found, and what calls
-- name. Names in expressions and in binds are not spoken of.
abbrev pub Resolve : Metamodel → List Definition → Type 0
Resolve m definitions =
    (list_all (rule_resolves m) (rules_of definitions) ≡ true)
    × (list_all (unit_resolves m (callees definitions)) (units_of definitions) ≡ true)
