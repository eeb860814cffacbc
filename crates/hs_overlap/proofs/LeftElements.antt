-- Elements of a left side and of its context.
use Rattle.std.proofs.Common.{ℕ, ◌≡◌, refl, sym, ap, ◌∙◌, inl, inr, Option, Some, None, slice_get}
use Rattle.std.proofs.lemmas.Option.{same_Some}
use Rattle.hs_types.specs.declared.rule.PatternEdge.{PatternEdge}
use Rattle.hs_types.specs.declared.rule.PatternNode.{PatternNode}
use Rattle.hs_types.specs.declared.rule.PatternSlot.{PatternSlot}
use Rattle.hs_types.specs.declared.rule.Shape.{Shape}
use Rattle.hs_types.specs.Pattern.{is_left}
use Rattle.hs_overlap.proofs.Decided.{Decided, decided}
use Rattle.hs_types.specs.Elements.{Element, Node as NodeAt, Edge as EdgeAt, Slot as SlotAt}
use Rattle.hs_overlap.specs.Contexts.{IsDeleted, IsDroppedEdge, IsInContext, IsWrittenSlot, Needs}
use Rattle.hs_overlap.specs.LeftSide.{HasEnds, IsAt, IsGraph, IsLeftEdge, IsLeftNode, IsLeftSlot}

pub node_here : (s : Shape) (i : ℕ) (o : Option PatternNode) → slice_get s.nodes i ≡ o → Decided ((v : PatternNode) × IsLeftNode s i v)
node_here s i None e = inr (λ h. let at = h.1.at in cc)
node_here s i (Some v) e = elim (decided (is_left v.mark)) [
  | inl l ↦ inl (v, record { at = e; left = l })
  | inr away ↦ inr (λ h. let same : v ≡ h.0 = same_Some v h.0 (sym e ∙ h.1.at) in away (rw same h.1.left))
]

pub edge_here : (s : Shape) (x : ℕ) (o : Option PatternEdge) → slice_get s.edges x ≡ o → Decided ((e : PatternEdge) × IsLeftEdge s x e)
edge_here s x None e = inr (λ h. let at = h.1.at in cc)
edge_here s x (Some v) e = elim (decided (is_left v.mark)) [
  | inl l ↦ inl (v, record { at = e; left = l })
  | inr away ↦ inr (λ h. let same : v ≡ h.0 = same_Some v h.0 (sym e ∙ h.1.at) in away (rw same h.1.left))
]

-- Slot k is a left one.
pub record SlotHere (s : Shape) (k : ℕ) : Type 0 where
  pub slot : PatternSlot
  pub node : PatternNode
  pub left : IsLeftSlot s k slot node

pub slot_here : (s : Shape) (k : ℕ) (o : Option PatternSlot) → slice_get s.slots k ≡ o → Decided (SlotHere s k)
slot_here s k None e = inr (λ h. let at = h.left.at in cc)
slot_here s k (Some t) e = elim (node_here s t.node (slice_get s.nodes t.node) refl) [
  | inl h ↦ inl (record { slot = t; node = h.0; left = record { at = e; node = h.1 } })
  | inr away ↦ inr (λ h. let same : h.slot ≡ t = same_Some h.slot t (sym h.left.at ∙ e) in away (h.node, rw same at h.left.node))
]

pub left_node_same : (s : Shape) (i : ℕ) (v w : PatternNode) → IsLeftNode s i v → IsLeftNode s i w → v ≡ w
left_node_same s i v w a b = same_Some v w (sym a.at ∙ b.at)

pub left_edge_same : (s : Shape) (i : ℕ) (v w : PatternEdge) → IsLeftEdge s i v → IsLeftEdge s i w → v ≡ w
left_edge_same s i v w a b = same_Some v w (sym a.at ∙ b.at)

pub moved_node : (s : Shape) (a i : ℕ) (v : PatternNode) → IsLeftNode s a v → a ≡ i → IsLeftNode s i v
moved_node s a i v h e = rw e at h

-- What a left edge is at is a left node.
end_left : (s : Shape) → IsGraph s → (x i : ℕ) (e : PatternEdge) → IsLeftEdge s x e → IsAt e i → (v : PatternNode) × IsLeftNode s i v
end_left s formed x i e left at =
    let ends : HasEnds s e = formed x e left in
    elim at [
      | inl is ↦ (ends.source, moved_node s e.source i ends.source ends.begins is)
      | inr is ↦ (ends.target, moved_node s e.target i ends.target ends.ends is)
    ]

needed_left : (s : Shape) → IsGraph s → (d : Element) (i : ℕ) → IsDeleted s d → Needs s d (NodeAt i) → (v : PatternNode) × IsLeftNode s i v
needed_left s formed (NodeAt k) i h needs = absurd needs
needed_left s formed (EdgeAt x) i h needs =
    let same : h.edge ≡ needs.0 = same_Some h.edge needs.0 (sym h.left.at ∙ needs.1) in
    end_left s formed x i needs.0 (rw same at h.left) needs.2
needed_left s formed (SlotAt k) i h needs =
    let same : h.slot ≡ needs.0 = same_Some h.slot needs.0 (sym h.left.at ∙ needs.1) in
    (h.node, moved_node s h.slot.node i h.node h.left.node (ap (λ (t : PatternSlot). t.node) same ∙ needs.2))

-- A node of the context is a left node.
pub context_left : (s : Shape) → IsGraph s → (i : ℕ) → IsInContext s (NodeAt i) → (v : PatternNode) × IsLeftNode s i v
context_left s formed i c = elim c [ inl h ↦ (h.node, h.left) | inr h ↦ needed_left s formed h.0 i h.1 h.2 ]

-- An edge or a slot of the context is deleted.
pub context_edge : (s : Shape) (x : ℕ) → IsInContext s (EdgeAt x) → IsDroppedEdge s x
context_edge s x c = elim c [ inl h ↦ h | inr h ↦ absurd (not_needed h.0 h.2) ]
  where
    not_needed : (d : Element) → Needs s d (EdgeAt x) → ⊥
    not_needed (NodeAt k) h = h
    not_needed (EdgeAt k) h = h
    not_needed (SlotAt k) h = h

pub context_slot : (s : Shape) (k : ℕ) → IsInContext s (SlotAt k) → IsWrittenSlot s k
context_slot s k c = elim c [ inl h ↦ h | inr h ↦ absurd (not_needed h.0 h.2) ]
  where
    not_needed : (d : Element) → Needs s d (SlotAt k) → ⊥
    not_needed (NodeAt l) h = h
    not_needed (EdgeAt l) h = h
    not_needed (SlotAt l) h = h
