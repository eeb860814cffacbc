-- The conditions and the sets of one part of a rule.
use Rattle.std.specs.Prelude.{ℕ, List, Option, None, if◌then◌else◌}
use Rattle.std.specs.List.{filter_map}
use Rattle.std.specs.Option.{option_map}
use Rattle.hs_expr.specs.declared.Expr.{Expr}
use Rattle.hs_types.specs.declared.meta.Metamodel.{Metamodel}
use Rattle.hs_types.specs.declared.rule.SetItem.{SetItem}
use Rattle.hs_faults.specs.declared.nodes.BlockId.{BlockId}
use Rattle.hs_faults.specs.declared.nodes.DeclaredNode.{DeclaredNode}
use Rattle.hs_faults.specs.declared.statements.CheckedStatement.{CheckedStatement}
use Rattle.hs_faults.specs.Statements.{Statement, Edge, Set, Where}
use Rattle.hs_faults.specs.StatementFaults.{same_block}
use Rattle.hs_check.specs.Elements.{feature_number, node_number}

-- The condition that a statement with this expression means, if it is one of this part of the rule.
abbrev pub where_of : BlockId → Option Expr → Statement → Option Expr
where_of part expr (Edge home mark source target reference) = None
where_of part expr (Set home node attribute value) = None
where_of part expr (Where home word test) = if same_block part home then expr else None

abbrev pub where_in : BlockId → CheckedStatement → Option Expr
where_in part checked = where_of part checked.expr checked.statement

-- The conditions of one part of the rule, in written order.
abbrev pub wheres_in : List CheckedStatement → BlockId → List Expr
wheres_in statements part = filter_map (where_in part) statements

-- The attribute of the node gets this value.
abbrev pub set_meant : Metamodel → List DeclaredNode → List ℕ → List ℕ → Expr → SetItem
set_meant m declared node attribute value = record {
  node = node_number declared node;
  attribute = feature_number m declared node attribute;
  value = value;
}

-- The set that a statement with this expression means, if it is one of this part of the rule.
abbrev pub set_of : Metamodel → List DeclaredNode → BlockId → Option Expr → Statement
    → Option SetItem
set_of m declared part expr (Edge home mark source target reference) = None
set_of m declared part expr (Set home node attribute value) =
    if same_block part home then option_map (set_meant m declared node.text attribute.text) expr
    else None
set_of m declared part expr (Where home word test) = None

abbrev pub set_in : Metamodel → List DeclaredNode → BlockId → CheckedStatement → Option SetItem
set_in m declared part checked = set_of m declared part checked.expr checked.statement

-- The sets of one part of the rule, in written order.
abbrev pub sets_in : Metamodel → List DeclaredNode → List CheckedStatement → BlockId → List SetItem
sets_in m declared statements part = filter_map (set_in m declared part) statements
