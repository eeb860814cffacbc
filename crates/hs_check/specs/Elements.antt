-- What nodes and edges mean, part by part of a rule.
use Rattle.std.specs.Prelude.{ℕ, List, map, Option, Some, None, if◌then◌else◌}
use Rattle.std.specs.List.{filter, filter_map}
use Rattle.std.specs.Option.{option_and_then, option_map_or, unwrap_or}
use Rattle.hs_types.specs.declared.meta.Metamodel.{Metamodel}
use Rattle.hs_types.specs.declared.rule.Mark.{Mark}
use Rattle.hs_types.specs.declared.rule.PatternEdge.{PatternEdge}
use Rattle.hs_types.specs.declared.rule.PatternNode.{PatternNode}
use Rattle.hs_faults.specs.declared.nodes.DeclaredNode.{DeclaredNode}
use Rattle.hs_faults.specs.declared.nodes.BlockId.{BlockId}
use Rattle.hs_faults.specs.declared.statements.CheckedStatement.{CheckedStatement}
use Rattle.hs_faults.specs.Marks.{mark_meant}
use Rattle.hs_faults.specs.Names.{feature_named, node_named}
use Rattle.hs_faults.specs.Statements.{Statement, Edge, Set, Where}
use Rattle.hs_faults.specs.StatementFaults.{node_class, same_block}
use Rattle.hs_check.specs.Parameters.{class_meant}

abbrev pub node_meant : Metamodel → DeclaredNode → PatternNode
node_meant m node = record {
  name = node.name.text;
  class = class_meant m node.class.text;
  mark = mark_meant node.mark;
}

-- The nodes that one part of the rule declares, in written order.
abbrev pub nodes_in : Metamodel → List DeclaredNode → BlockId → List PatternNode
nodes_in m declared part = map (node_meant m) (filter (λ node. same_block part node.block) declared)

-- The number of the node of this name.
abbrev pub node_number : List DeclaredNode → List ℕ → ℕ
node_number declared name = option_map_or (λ node. node.number) (node_named declared name) 0

-- The feature of this name in the class of the node.
abbrev pub node_feature : Metamodel → List ℕ → DeclaredNode → Option ℕ
node_feature m name node = option_and_then (λ class. feature_named m class name) (node_class m node)

-- The feature of this name in the class of the node of that name.
abbrev pub feature_number : Metamodel → List DeclaredNode → List ℕ → List ℕ → ℕ
feature_number m declared node name =
    unwrap_or (option_and_then (node_feature m name) (node_named declared node)) 0

-- An edge by numbers: its reference is looked for in the class of its source.
abbrev pub edge_meant : Metamodel → List DeclaredNode → Mark → List ℕ → List ℕ → List ℕ
    → PatternEdge
edge_meant m declared mark source target reference = record {
  source = node_number declared source;
  reference = feature_number m declared source reference;
  target = node_number declared target;
  mark = mark;
}

-- The edge that a statement means, if it is an edge of this part of the rule.
abbrev pub edge_of : Metamodel → List DeclaredNode → BlockId → Statement → Option PatternEdge
edge_of m declared part (Edge home mark source target reference) =
    if same_block part home then Some
    (edge_meant m declared (mark_meant mark) source.text target.text reference.text) else None
edge_of m declared part (Set home node attribute value) = None
edge_of m declared part (Where home word test) = None

abbrev pub edge_in : Metamodel → List DeclaredNode → BlockId → CheckedStatement
    → Option PatternEdge
edge_in m declared part checked = edge_of m declared part checked.statement

-- The edges of one part of the rule, in written order. The rule declares these nodes.
abbrev pub edges_of_part : Metamodel → List DeclaredNode → List CheckedStatement → BlockId
    → List PatternEdge
edges_of_part m declared statements part = filter_map (edge_in m declared part) statements
