-- The form of rules: what the check of a rule promises of each that it lets through.
use Rattle.std.specs.Prelude.{ℕ, ◌<◌, ◌≤◌, ◌≡◌, ◌⊎◌, List, ◌++◌, map, length, Bool, true, ◌&&◌, ◌||◌, not, eqb, nat_lt, if◌then◌else◌, Option, Some, None, IsSomeAnd, slice_get}
use Rattle.std.specs.List.{All, filter, find, flat_map, list_any, position_or_len}
use Rattle.std.specs.Option.{option_map, option_and_then}
use Rattle.hs_expr.specs.declared.expr.Expr.{Expr}
use Rattle.hs_expr.specs.declared.expr.SlotRead.{SlotRead}
use Rattle.hs_expr.specs.declared.value.Kind.{Kind}
use Rattle.hs_expr.specs.declared.value.Kind.TheVariants as value
use Rattle.hs_expr.specs.Evaluation.{Scope, kind_in, reads_of}
use Rattle.hs_types.specs.declared.meta.Metamodel.{Metamodel}
use Rattle.hs_types.specs.declared.rule.Direction.{Direction}
use Rattle.hs_types.specs.declared.rule.Direction.TheVariants.{In, Out}
use Rattle.hs_types.specs.declared.rule.Mark.{Mark}
use Rattle.hs_types.specs.declared.rule.Mark.TheVariants.{Keep, Drop, Make}
use Rattle.hs_types.specs.declared.rule.Multi.{Multi}
use Rattle.hs_types.specs.declared.rule.Param.{Param}
use Rattle.hs_types.specs.declared.rule.ParamKind.{ParamKind}
use Rattle.hs_types.specs.declared.rule.ParamKind.TheVariants.{Data, Object}
use Rattle.hs_types.specs.declared.rule.Part.{Part}
use Rattle.hs_types.specs.declared.rule.PatternEdge.{PatternEdge}
use Rattle.hs_types.specs.declared.rule.PatternNode.{PatternNode}
use Rattle.hs_types.specs.declared.rule.PatternSlot.{PatternSlot}
use Rattle.hs_types.specs.declared.rule.Rule.{Rule}
use Rattle.hs_types.specs.declared.rule.SetItem.{SetItem}
use Rattle.hs_types.specs.declared.rule.Shape.{Shape}
use Rattle.hs_types.specs.declared.rule.SlotKind.{SlotKind}
use Rattle.hs_types.specs.declared.rule.SlotKind.TheVariants.{Attribute, Link, Container}
use Rattle.hs_expr.specs.Lists.{has, same_text, Differ, EachPair}
use Rattle.hs_types.specs.Metamodel.{Conforms, HaveCommon, IsConcrete, attributes_of, features_of, kind_of_type, target_of, type_of}
use Rattle.hs_types.specs.Pattern.{inverse_mark, is_drop, is_keep, is_kind, is_left, is_make, node_is}

-- Objects can be of the node's class, and one can be made of it where the node is made.
abbrev pub NodeFits : Metamodel → PatternNode → Type 0
NodeFits m node =
    HaveCommon m node.class node.class × (is_make node.mark ≡ true → IsConcrete m node.class)

-- What an edge may join: a kept one kept nodes, a dropped one left nodes, a made one nodes that are
-- there afterwards.
abbrev pub joins : Mark → Mark → Bool
joins Keep end = is_keep end
joins Drop end = is_left end
joins Make end = not (is_drop end)

-- Node n is there, its mark passes the test, and the fact holds of its class.
abbrev pub EndFits : (Mark → Bool) → List PatternNode → (ℕ → Type 0) → ℕ → Type 0
EndFits test nodes P n =
    IsSomeAnd (slice_get nodes n) (λ node. (test node.mark ≡ true) × P node.class)

-- The edge's reference is a feature of its source's class, and its target's class conforms to the
-- class that the reference leads to.
abbrev pub EdgeFits : Metamodel → (Mark → Bool) → List PatternNode → PatternEdge → Type 0
EdgeFits m test nodes edge =
    EndFits test nodes (λ c. has (features_of m c) edge.reference ≡ true) edge.source
    × IsSomeAnd (target_of m edge.reference)
    (λ class. EndFits test nodes (λ c. Conforms m c class) edge.target)

-- The kinds of what the rule's expressions may read: slots of left nodes, and data parameters that
-- are given.
abbrev pub slot_kind : Metamodel → List PatternNode → ℕ → ℕ → Option Kind
slot_kind m nodes n a =
    option_and_then (λ node. if is_left node.mark && has (attributes_of m node.class) a
    then option_map kind_of_type (type_of m a) else None) (slice_get nodes n)

abbrev pub data_kind : Direction → ParamKind → Option Kind
data_kind In (Data kind) = Some kind
data_kind _ _ = None

abbrev pub scope_of : Metamodel → Rule → List PatternNode → Scope
scope_of m rule nodes = record {
  slot = slot_kind m nodes;
  param = λ n. option_and_then (λ param. data_kind param.direction param.kind)
      (slice_get rule.params n);
}

-- An attribute of a node that stays or is made gets a value of the attribute's kind.
abbrev pub SetFits : Metamodel → Scope → List PatternNode → SetItem → Type 0
SetFits m scope nodes item =
    EndFits (λ mark. not (is_drop mark)) nodes (λ c. has (attributes_of m c) item.attribute ≡ true)
    item.node × (kind_in scope item.value ≡ option_map kind_of_type (type_of m item.attribute))

-- The slots of one class are in the order of its features: attributes, then links, then the
-- container.
abbrev pub KindBefore : List ℕ → SlotKind → SlotKind → Type 0
KindBefore features (Attribute a) (Attribute b) =
    position_or_len (eqb a) features < position_or_len (eqb b) features
KindBefore features (Attribute a) _ = Unit {0}
KindBefore features (Link r) (Link s) =
    position_or_len (eqb r) features < position_or_len (eqb s) features
KindBefore features (Link r) Container = Unit {0}
KindBefore features _ _ = ⊥

abbrev pub SlotBefore : Metamodel → List PatternNode → PatternSlot → PatternSlot → Type 0
SlotBefore m nodes s t =
    (s.node < t.node) ⊎ ((s.node ≡ t.node) × IsSomeAnd (slice_get nodes s.node)
    (λ node. KindBefore (features_of m node.class) s.kind t.kind))

-- A slot of a node.
pub record NodeSlot : Type 0 where
  pub node : ℕ
  pub kind : SlotKind

-- The slots that are read, and those that are set.
abbrev pub slot_of_read : SlotRead → NodeSlot
slot_of_read read = record { node = read.node; kind = Attribute read.attribute }

abbrev pub slot_of_set : SetItem → NodeSlot
slot_of_set item = record { node = item.node; kind = Attribute item.attribute }

abbrev pub slots_read : List SlotRead → List NodeSlot
slots_read reads = map slot_of_read reads

abbrev pub slots_set : List SetItem → List NodeSlot
slots_set sets = map slot_of_set sets

-- The slot is one of these.
abbrev pub is_among : List NodeSlot → PatternSlot → Bool
is_among slots slot = list_any (λ s. eqb s.node slot.node && is_kind s.kind slot.kind) slots

-- One of the slots is this one.
abbrev pub has_slot : List PatternSlot → ℕ → SlotKind → Bool
has_slot slots n kind = list_any (λ slot. eqb slot.node n && is_kind slot.kind kind) slots

-- The slots are those of the nodes from this number on that are read, or that are written at a kept
-- node; each is marked as written where it is.
pub record AreSlots (nodes : List PatternNode) (first : ℕ) (reads writes : List NodeSlot)
    (slots : List PatternSlot) : Type 0 where
  pub needed : All (λ slot. (is_among reads slot || is_among writes slot ≡ true)
      × (slot.written ≡ is_among writes slot)) slots
  pub all_read : All (λ s. first ≤ s.node → has_slot slots s.node s.kind ≡ true) reads
  pub all_written : All
      (λ s. node_is is_keep nodes s.node ≡ true → has_slot slots s.node s.kind ≡ true) writes

-- The form of a shape, whose nodes have the numbers from `first` on among all that it may name: its
-- nodes and edges fit, and its slots are of its own left nodes, each once and in order.
pub record IsShape (m : Metamodel) (nodes : List PatternNode) (first : ℕ)
    (shape : Shape) : Type 0 where
  pub nodes_fit : All (NodeFits m) shape.nodes
  pub edges_fit : All (λ edge. EdgeFits m (joins edge.mark) nodes edge) shape.edges
  pub in_order : EachPair (SlotBefore m nodes) shape.slots
  pub at_own : All (λ slot. (first ≤ slot.node) × (node_is is_left nodes slot.node ≡ true))
      shape.slots

-- The slots that a block's expressions read.
abbrev pub reads_in : List Expr → List SetItem → List SlotRead
reads_in wheres sets = flat_map reads_of wheres ++ flat_map (λ item. reads_of item.value) sets

-- No slot is set twice.
abbrev pub SetOnce : List SetItem → Type 0
SetOnce sets = EachPair (λ a b. (a.node ≡ b.node) × (a.attribute ≡ b.attribute) → ⊥) sets

-- A kernel or a multi-rule, whose nodes have the numbers from `first` on. It may name all these
-- nodes, of which those before its own are the kernel's, and sets no slot of the kernel's nodes
-- from within a multi-rule. The reads are those that make slots of its nodes.
pub record IsBlock (m : Metamodel) (rule : Rule) (nodes : List PatternNode) (first : ℕ)
    (shape : Shape) (wheres : List Expr) (sets : List SetItem)
    (reads : List SlotRead) : Type 0 where
  pub form : IsShape m nodes first shape
  pub wheres_fit : All (λ expr. kind_in (scope_of m rule nodes) expr ≡ Some value.Bool) wheres
  pub sets_fit : All (λ item. (first ≤ item.node) × SetFits m (scope_of m rule nodes) nodes item)
      sets
  pub sets_once : SetOnce sets
  pub slots : AreSlots nodes first (slots_read reads) (slots_set sets) shape.slots

-- A forbid or require part: its nodes and edges are marked as kept, and its edges join left nodes
-- of the kernel and its own.
pub record IsPart (m : Metamodel) (rule : Rule) (part : Part) : Type 0 where
  pub nodes_kept : All (λ node. is_keep node.mark ≡ true) part.nodes
  pub edges_kept : All (λ edge. is_keep edge.mark ≡ true) part.edges
  pub nodes_fit : All (NodeFits m) part.nodes
  pub edges_fit : All (EdgeFits m is_left (rule.shape.nodes ++ part.nodes)) part.edges

abbrev pub IsMulti : Metamodel → Rule → Multi → Type 0
IsMulti m rule multi =
    IsBlock m rule (rule.shape.nodes ++ multi.shape.nodes) (length rule.shape.nodes) multi.shape
    multi.wheres multi.sets (reads_in multi.wheres multi.sets)

-- The node of an in parameter is on the left side, that of an out parameter is there afterwards.
abbrev pub param_side : Direction → Mark → Bool
param_side In mark = is_left mark
param_side Out mark = not (is_drop mark)

-- A parameter for a value is an in parameter. One for an object has the name and the class of a
-- node of the kernel.
abbrev pub ParamFits : List PatternNode → Param → ParamKind → Type 0
ParamFits nodes param (Data kind) = param.direction ≡ In
ParamFits nodes param (Object class) =
    IsSomeAnd (find (λ node. same_text node.name param.name) nodes)
    (λ node. (param_side param.direction node.mark ≡ true) × (node.class ≡ class))

-- All nodes of the rule and its blocks.
abbrev pub all_nodes : Rule → List PatternNode
all_nodes rule =
    rule.shape.nodes ++ flat_map (λ part. part.nodes) rule.forbids ++ flat_map (λ part. part.nodes)
    rule.needs ++ flat_map (λ multi. multi.shape.nodes) rule.multis

-- All reads of the rule, those of its multi-rules among them: a slot of the kernel that a
-- multi-rule reads is the kernel's.
abbrev pub all_reads : Rule → List SlotRead
all_reads rule =
    reads_in rule.wheres rule.sets
    ++ flat_map (λ multi. reads_in multi.wheres multi.sets) rule.multis

-- The reads of the kernel's nodes.
abbrev pub kernel_reads : Rule → List SlotRead
kernel_reads rule = filter (λ read. nat_lt read.node (length rule.shape.nodes)) (all_reads rule)

-- A rule over the metamodel. Parameters have names of their own, and so have the nodes of the
-- kernel and all its blocks.
pub record IsRule (m : Metamodel) (rule : Rule) : Type 0 where
  pub params_differ : Differ (map (λ param. param.name) rule.params)
  pub params_fit : All (λ param. ParamFits rule.shape.nodes param param.kind) rule.params
  pub names_differ : Differ (map (λ node. node.name) (all_nodes rule))
  pub kernel : IsBlock m rule rule.shape.nodes 0 rule.shape rule.wheres rule.sets
      (kernel_reads rule)
  pub forbids : All (IsPart m rule) rule.forbids
  pub needs : All (IsPart m rule) rule.needs
  pub multis : All (IsMulti m rule) rule.multis

-- The inverse of a shape: dropped and made change places, and slots stay.
abbrev pub inverse : Shape → Shape
inverse shape = record {
  nodes =
      map (λ node. record { name = node.name; class = node.class; mark = inverse_mark node.mark })
      shape.nodes;
  edges =
      map (λ edge. record {
        source = edge.source;
        reference = edge.reference;
        target = edge.target;
        mark = inverse_mark edge.mark;
      }) shape.edges;
  slots = shape.slots;
}
