-- Faults of the edges, sets and conditions, in written order.
use Rattle.std.specs.Prelude.{ℕ, List, [], ◌∷◌, ◌++◌, Bool, true, false, not, ◌==◌, ◌&&◌, ◌||◌, if◌then◌else◌, Option, Some, None, Result, Ok, Err}
use Rattle.std.specs.List.{list_any}
use Rattle.std.specs.Option.{option_and_then, option_map, option_map_or}
use Rattle.hs_expr.specs.declared.Kind.{Kind}
use Rattle.hs_expr.specs.declared.Kind.TheVariants as sort
use Rattle.hs_expr.specs.declared.Name.{Name}
use Rattle.hs_expr.specs.declared.NameExpr.{NameExpr}
use Rattle.hs_expr.specs.declared.Span.{Span}
use Rattle.hs_expr.specs.Steps.{◌>>=◌, demand, fault_as, needed}
use Rattle.hs_eval.specs.Checking.{Names, check_tree}
use Rattle.hs_eval.specs.Results.{checked_of, ok_map}
use Rattle.hs_eval.specs.declared.checked.Checked.{Checked}
use Rattle.hs_eval.specs.declared.fault.ExprFault.{ExprFault}
use Rattle.hs_eval.specs.declared.fault.Wrong.{Wrong}
use Rattle.hs_eval.specs.declared.fault.Wrong.TheVariants as wrong
use Rattle.hs_text.specs.declared.syntax.Mark.{Mark}
use Rattle.hs_text.specs.declared.syntax.Mark.TheVariants.{Preserve, Create, Delete}
use Rattle.hs_expr.specs.NameExprs.{expr_tree}
use Rattle.hs_types.specs.declared.meta.Metamodel.{Metamodel}
use Rattle.hs_expr.specs.Lists.{same_text}
use Rattle.hs_types.specs.Metamodel.{supers_of}
use Rattle.hs_types.specs.Pattern.{is_left}
use Rattle.hs_types.specs.RuleForm.{joins}
use Rattle.hs_types.specs.Metamodel.{conforms}
use Rattle.hs_faults.specs.declared.data_parameters.DataParam.{DataParam}
use Rattle.hs_faults.specs.declared.nodes.DeclaredNode.{DeclaredNode}
use Rattle.hs_faults.specs.declared.nodes.BlockId.{BlockId}
use Rattle.hs_faults.specs.declared.nodes.BlockId.TheVariants.{Kernel, Pattern, Multi}
use Rattle.hs_faults.specs.declared.fault.RuleFault.{RuleFault}
use Rattle.hs_faults.specs.declared.fault.RuleFaultKind.{RuleFaultKind}
use Rattle.hs_faults.specs.declared.fault.RuleFaultKind.TheVariants as kind
use Rattle.hs_faults.specs.Marks.{mark_meant}
use Rattle.hs_faults.specs.Named.{first_named}
use Rattle.hs_faults.specs.Names.{class_attribute, class_number, node_named, target_named}
use Rattle.hs_faults.specs.Places.{fault_at}
use Rattle.hs_faults.specs.ParamNodes.{is_kernel}
use Rattle.hs_faults.specs.Statements.{Statement, Edge, Set, Where}

abbrev pub same_block : BlockId → BlockId → Bool
same_block Kernel Kernel = true
same_block (Pattern i) (Pattern j) = i == j
same_block (Multi i) (Multi j) = i == j
same_block _ _ = false

-- The elements of a block may name the nodes of the kernel and of that block.
abbrev pub is_visible : BlockId → DeclaredNode → Bool
is_visible block node = is_kernel node.block || same_block block node.block

-- The node of this name, where it may be named from here.
abbrev pub visible_node : List DeclaredNode → BlockId → List ℕ → Option DeclaredNode
visible_node nodes block name =
    option_and_then (λ node. if is_visible block node then Some node else None)
    (node_named nodes name)

-- The node's class, by its number.
abbrev pub node_class : Metamodel → DeclaredNode → Option ℕ
node_class m node = class_number m node.class.text

-- The node's class conforms to this one.
abbrev pub is_of_class : Metamodel → ℕ → DeclaredNode → Bool
is_of_class m class node =
    option_map_or (λ c. conforms (supers_of m) c class) (node_class m node) false

abbrev pub is_deleted : Mark → Bool
is_deleted Preserve = false
is_deleted Create = false
is_deleted Delete = true

-- An edge of a forbid or require block joins nodes that were there before.
abbrev pub may_join : BlockId → Mark → Mark → Bool
may_join Kernel mark end = joins (mark_meant mark) (mark_meant end)
may_join (Pattern i) mark end = is_left (mark_meant end)
may_join (Multi i) mark end = joins (mark_meant mark) (mark_meant end)

-- The class that the reference of this name leads to, from the node's class.
abbrev pub target_from : Metamodel → DeclaredNode → List ℕ → Option ℕ
target_from m node name = option_and_then (λ c. target_named m c name) (node_class m node)

-- The number and the kind of the node's attribute of this name.
abbrev pub attribute_of : Metamodel → DeclaredNode → List ℕ → Option (ℕ × Kind)
attribute_of m node name = option_and_then (λ c. class_attribute m c name) (node_class m node)

-- An edge joins nodes that are open to it, by a reference of the source's class that leads to the
-- target's, and that its mark lets it join.
unfoldable pub edge_checked : Metamodel → List DeclaredNode → BlockId → Mark → Name → Name → Name
    → Result (Unit {0}) RuleFault
edge_checked m nodes block mark source target reference = do
  from ← needed (visible_node nodes block source.text) (fault_at source.span kind.UnknownNode)
  to ← needed (visible_node nodes block target.text) (fault_at target.span kind.UnknownNode)
  class ← needed (target_from m from reference.text) (fault_at reference.span kind.UnknownReference)
  demand (is_of_class m class to && may_join block mark from.mark && may_join block mark to.mark)
      (fault_at reference.span kind.BadEnds)

-- The number and the kind of the data parameter of this name.
abbrev pub data_param_named : List DataParam → List ℕ → Option (ℕ × Kind)
data_param_named params name =
    option_map (λ param. (param.number, param.kind)) (first_named (λ param. param.name) params name)

-- A node that may not be named is known as one that can't be read where it is of a forbid or
-- require block, and isn't known where it is of another multi block.
abbrev pub hidden_read : BlockId → Option Bool
hidden_read Kernel = None
hidden_read (Pattern i) = Some false
hidden_read (Multi i) = None

-- Whether the node can be read from this part of the rule, where it is known there.
abbrev pub can_read : BlockId → DeclaredNode → Option Bool
can_read block node =
    if is_visible block node then Some (is_left (mark_meant node.mark)) else hidden_read node.block

-- The node's number, and whether it can be read.
abbrev pub node_read : BlockId → DeclaredNode → Option (ℕ × Bool)
node_read block node = option_map (λ left. (node.number, left)) (can_read block node)

-- What the names of an expression denote in this block.
abbrev pub rule_scope : Metamodel → List DataParam → List DeclaredNode → BlockId → Names
rule_scope m params nodes block = record {
  param = data_param_named params;
  node = λ name. option_and_then (node_read block) (node_named nodes name);
  attribute =
      λ owner name. option_and_then (λ node. attribute_of m node name) (node_named nodes owner);
}

abbrev pub kind_of_wrong : Wrong → RuleFaultKind
kind_of_wrong wrong.UnknownName = kind.UnknownName
kind_of_wrong wrong.UnknownNode = kind.UnknownNode
kind_of_wrong wrong.NotRead = kind.NotRead
kind_of_wrong wrong.UnknownAttribute = kind.UnknownAttribute
kind_of_wrong wrong.BadKind = kind.BadKind

-- A fault of an expression, as one of the rule.
abbrev pub rule_fault : ExprFault → RuleFault
rule_fault fault = fault_at fault.at (kind_of_wrong fault.kind)

-- What the expression is checked to be, or its first fault.
abbrev pub expr_checked : Names → NameExpr → Result Checked RuleFault
expr_checked names expr =
    fault_as rule_fault (ok_map checked_of (check_tree names (expr_tree expr)))

abbrev pub same_kind : Kind → Kind → Bool
same_kind sort.Int sort.Int = true
same_kind sort.Bool sort.Bool = true
same_kind sort.Text sort.Text = true
same_kind _ _ = false

-- A slot that is set, by the names of its node and its attribute.
pub record Slot : Type 0 where
  pub node : List ℕ
  pub attribute : List ℕ

abbrev pub is_set_before : List Slot → List ℕ → List ℕ → Bool
is_set_before slots node attribute =
    list_any (λ slot. same_text node slot.node && same_text attribute slot.attribute) slots

-- A set writes a slot that was not set before, of a node of its own part of the rule that isn't
-- deleted, with a value of the slot's kind.
unfoldable pub set_checked : Metamodel → List DataParam → List DeclaredNode → List Slot → BlockId
    → Name → Name → NameExpr → Result (Unit {0}) RuleFault
set_checked m params nodes before block node attribute value = do
  written ← needed (visible_node nodes block node.text) (fault_at node.span kind.UnknownNode)
  _ ← demand (not (is_deleted written.mark)) (fault_at node.span kind.WriteOnDeleted)
  _ ← demand (same_block block written.block) (fault_at node.span kind.KernelSlotInCopy)
  wanted ← needed (attribute_of m written attribute.text)
      (fault_at attribute.span kind.UnknownAttribute)
  _ ← demand (not (is_set_before before node.text attribute.text))
      (fault_at attribute.span kind.Twice)
  found ← expr_checked (rule_scope m params nodes block) value
  demand (same_kind found.kind wanted.1) (fault_at attribute.span kind.BadKind)

-- A condition is true or false.
unfoldable pub where_checked : Metamodel → List DataParam → List DeclaredNode → BlockId → Span
    → NameExpr → Result (Unit {0}) RuleFault
where_checked m params nodes block word test = do
  found ← expr_checked (rule_scope m params nodes block) test
  demand (same_kind found.kind sort.Bool) (fault_at word kind.BadKind)

abbrev pub statement_checked : Metamodel → List DataParam → List DeclaredNode → List Slot
    → Statement → Result (Unit {0}) RuleFault
statement_checked m params nodes before (Edge block mark source target reference) =
    edge_checked m nodes block mark source target reference
statement_checked m params nodes before (Set block node attribute value) =
    set_checked m params nodes before block node attribute value
statement_checked m params nodes before (Where block word test) =
    where_checked m params nodes block word test

-- The slot that a statement sets, if it sets one.
abbrev pub slot_set_by : Statement → List Slot
slot_set_by (Edge block mark source target reference) = []
slot_set_by (Set block node attribute value) =
    record { node = node.text; attribute = attribute.text } ∷ []
slot_set_by (Where block word test) = []

-- The first fault, if there is one.
abbrev pub first_fault : {A F : Type 0} → Result A F → List F
first_fault (Ok x) = []
first_fault (Err fault) = fault ∷ []

-- The faults statement by statement. Each is checked with the slots in mind that those before it
-- set.
abbrev pub statement_faults : Metamodel → List DataParam → List DeclaredNode → List Slot
    → List Statement → List RuleFault
statement_faults m params nodes before [] = []
statement_faults m params nodes before (statement ∷ statements) =
    first_fault (statement_checked m params nodes before statement)
    ++ statement_faults m params nodes (before ++ slot_set_by statement) statements
