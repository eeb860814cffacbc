-- Copies of multi-rules.
use Rattle.std.specs.Prelude.{ℕ, ◌≡◌, List, [], ◌∷◌, ◌++◌, map, Contains}
use Rattle.std.specs.List.{All, filter, flat_map}
use Rattle.hs_expr.specs.Evaluation.{Env}
use Rattle.hs_types.specs.declared.graph.Graph.{Graph}
use Rattle.hs_types.specs.declared.matching.Extension.{Extension}
use Rattle.hs_types.specs.declared.matching.Match.{Match}
use Rattle.hs_types.specs.declared.meta.Metamodel.{Metamodel}
use Rattle.hs_types.specs.declared.request.Args.{Args}
use Rattle.hs_types.specs.declared.rule.Multi.{Multi}
use Rattle.hs_types.specs.declared.rule.PatternNode.{PatternNode}
use Rattle.hs_types.specs.declared.rule.PatternSlot.{PatternSlot}
use Rattle.hs_types.specs.declared.rule.Rule.{Rule}
use Rattle.hs_types.specs.declared.rule.SlotKind.{SlotKind}
use Rattle.hs_types.specs.Conditions.{env_of, AreTrue, AreFit}
use Rattle.hs_types.specs.Dangling.{dropped_nodes, dropped_edges}
use Rattle.hs_expr.specs.Lists.{Apart, EachPair}
use Rattle.hs_types.specs.MatchOrder.{IsEarlier}
use Rattle.hs_types.specs.PlainMatch.{image, Extends, kernel_of}

-- One application of a multi-rule, beside the kernel's.
pub record Copy : Type 0 where
  pub multi : Multi
  pub found : Extension

-- The nodes that a copy's expressions and edges may name, the kernel's first, and the images of
-- those on the left side.
abbrev pub nodes_of : Rule → Multi → List PatternNode
nodes_of rule multi = rule.shape.nodes ++ multi.shape.nodes

abbrev pub images_of : Extension → Extension → List ℕ
images_of f x = f.nodes ++ x.nodes

abbrev pub copy_env : Graph → Rule → Args → Extension → Copy → Env
copy_env g rule args f copy = env_of g rule args (nodes_of rule copy.multi) (images_of f copy.found)

-- An extension of the kernel's match onto the multi-rule that makes its `where`s true.
abbrev pub IsCopy : Metamodel → Graph → Rule → Args → Extension → Multi → Extension → Type 0
IsCopy m g rule args f multi x =
    Extends m g rule.shape f multi.shape x
    × AreTrue (copy_env g rule args f (record { multi = multi; found = x })) multi.wheres

-- All copies of the multi-rule, in order.
pub record AreCopies (m : Metamodel) (g : Graph) (rule : Rule) (args : Args) (f : Extension)
    (multi : Multi) (copies : List Extension) : Type 0 where
  pub each : All (IsCopy m g rule args f multi) copies
  pub whole : (x : Extension) → IsCopy m g rule args f multi x → Contains copies x
  pub in_order : EachPair IsEarlier copies

-- All copies of a match, multi-rule by multi-rule.
abbrev pub copies_from : List Multi → List (List Extension) → List Copy
copies_from [] lists = []
copies_from (multi ∷ multis) [] = []
copies_from (multi ∷ multis) (found ∷ lists) =
    map (λ x. record { multi = multi; found = x }) found ++ copies_from multis lists

abbrev pub copies_of : Rule → Match → List Copy
copies_of rule f = copies_from rule.multis f.copies

-- The objects, and the edges, that a match drops: the kernel's first, then copy by copy, in written
-- order.
abbrev pub all_dropped_nodes : Rule → Match → List ℕ
all_dropped_nodes rule f =
    dropped_nodes rule.shape (kernel_of f)
    ++ flat_map (λ copy. dropped_nodes copy.multi.shape copy.found) (copies_of rule f)

abbrev pub all_dropped_edges : Rule → Match → List ℕ
all_dropped_edges rule f =
    dropped_edges rule.shape (kernel_of f)
    ++ flat_map (λ copy. dropped_edges copy.multi.shape copy.found) (copies_of rule f)

-- The values that a copy sets fit.
abbrev pub CopyFits : Metamodel → Graph → Rule → Args → Extension → Copy → Type 0
CopyFits m g rule args f copy = AreFit m (copy_env g rule args f copy) copy.multi.sets

-- A slot of an object of the graph.
pub record At : Type 0 where
  pub object : ℕ
  pub slot : SlotKind

abbrev pub slots_at : List PatternNode → List ℕ → List PatternSlot → List At
slots_at nodes images slots =
    map (λ slot. record { object = image nodes images slot.node; slot = slot.kind }) slots

-- The slots that a copy reads or writes, and those that it writes.
abbrev pub used_slots : Rule → Extension → Copy → List At
used_slots rule f copy =
    slots_at (nodes_of rule copy.multi) (images_of f copy.found) copy.multi.shape.slots

abbrev pub written_slots : Rule → Extension → Copy → List At
written_slots rule f copy =
    slots_at (nodes_of rule copy.multi) (images_of f copy.found)
    (filter (λ slot. slot.written) copy.multi.shape.slots)

-- The first copy drops no object and no edge that the second has, and writes no slot that the
-- second reads or writes.
pub record SparesCopy (rule : Rule) (f : Extension) (first second : Copy) : Type 0 where
  pub objects : Apart (dropped_nodes first.multi.shape first.found) second.found.nodes
  pub edges : Apart (dropped_edges first.multi.shape first.found) second.found.edges
  pub slots : All (λ s. All (λ t. s ≡ t → ⊥) (used_slots rule f second))
      (written_slots rule f first)

-- No copy touches another.
abbrev pub NoneTouch : Rule → Match → Type 0
NoneTouch rule f =
    EachPair (λ c d. SparesCopy rule (kernel_of f) c d × SparesCopy rule (kernel_of f) d c)
    (copies_of rule f)
