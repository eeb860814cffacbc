-- The context's nodes, as the code tests them.
use Rattle.std.proofs.Common.{ℕ, ◌≡◌, ◌⊎◌, sym, ap, ◌∙◌, ◌<◌, length, subst, inl, inr, Some, slice_get}
use Rattle.std.proofs.lemmas.Option.{same_Some, slice_get_within}
use Rattle.hs_types.specs.Pattern.{is_left}
use Rattle.hs_types.specs.declared.rule.PatternEdge.{PatternEdge}
use Rattle.hs_types.specs.declared.rule.PatternSlot.{PatternSlot}
use Rattle.hs_types.specs.declared.rule.Shape.{Shape}
use Rattle.hs_overlap.specs.LeftSide.{IsGraph, IsLeftNode}
use Rattle.hs_overlap.proofs.LeftElements.{context_left}
use Rattle.hs_types.specs.Elements.{Element, Node as NodeAt, Edge as EdgeAt, Slot as SlotAt}
use Rattle.hs_overlap.specs.Contexts.{IsDeleted, IsDroppedEdge, IsInContext, Needs}
use Rattle.hs_overlap.specs.Tests.{DropsAt, WritesAt, IsNeeded}

of_dropped : (s : Shape) (x : ℕ) (d : IsDroppedEdge s x) (e : PatternEdge) → slice_get s.edges x ≡ Some e → d.edge ≡ e
of_dropped s x d e at = same_Some d.edge e (sym d.left.at ∙ at)

needed_by : (s : Shape) (i : ℕ) (d : Element) → IsDeleted s d → Needs s d (NodeAt i) → ((x : ℕ) × DropsAt s i x) ⊎ ((k : ℕ) × WritesAt s i k)
needed_by s i (NodeAt a) del need = absurd need
needed_by s i (EdgeAt x) del need =
    let same : del.edge ≡ need.0 = of_dropped s x del need.0 need.1 in
    inl (x, record { edge = need.0; there = need.1; dropped = ap (λ (z : PatternEdge). z.mark) (sym same) ∙ del.dropped; at = need.2 })
needed_by s i (SlotAt k) del need =
    let same : del.slot ≡ need.0 = same_Some del.slot need.0 (sym del.left.at ∙ need.1) in
    inr (
      k,
      record {
        slot = need.0;
        there = need.1;
        written = ap (λ (z : PatternSlot). z.written) (sym same) ∙ del.written;
        at = need.2;
        node = del.node;
        left = subst (λ z. IsLeftNode s z del.node) (ap (λ (z : PatternSlot). z.node) same ∙ need.2) del.left.node;
      },
    )

pub context_needed : (s : Shape) (i : ℕ) → IsInContext s (NodeAt i) → IsNeeded s i
context_needed s i (inl d) = inl d
context_needed s i (inr h) = inr (needed_by s i h.0 h.1 h.2)

pub drops_context : (s : Shape) (i x : ℕ) → DropsAt s i x → IsInContext s (NodeAt i)
drops_context s i x h = inr (EdgeAt x, record { edge = h.edge; left = record { at = h.there; left = ap is_left h.dropped }; dropped = h.dropped }, (h.edge, h.there, h.at))

pub writes_context : (s : Shape) (i k : ℕ) → WritesAt s i k → IsInContext s (NodeAt i)
writes_context s i k h = inr (SlotAt k, record { slot = h.slot; node = h.node; left = record { at = h.there; node = subst (λ z. IsLeftNode s z h.node) (sym h.at) h.left }; written = h.written }, (h.slot, h.there, h.at))

pub needed_context : (s : Shape) (i : ℕ) → IsNeeded s i → IsInContext s (NodeAt i)
needed_context s i (inl d) = inl d
needed_context s i (inr (inl h)) = drops_context s i h.0 h.1
needed_context s i (inr (inr h)) = writes_context s i h.0 h.1

pub node_there : (s : Shape) → IsGraph s → (i : ℕ) → IsInContext s (NodeAt i) → i < length s.nodes
node_there s formed i h = let left = context_left s formed i h in slice_get_within s.nodes i left.0 left.1.at
