-- Partners that are filled from a span, pair by pair.
use Rattle.std.proofs.Common.{ℕ, ◌+◌, ◌<◌, ◌≡◌, List, [], ◌∷◌, ◌++◌, length, get_or, take, refl, sym, subst, inl, inr, arith, Contains, Option, Some, None}
use Rattle.std.proofs.lemmas.List.Elements.{Contains-push, Contains-push_cases, Contains-append_left, Contains-get_or}
use Rattle.hs_overlap.specs.declared.pair.Pair.{Pair}
use Rattle.hs_overlap.specs.declared.pair.Pair.TheVariants.{Node, Edge, Slot}
use Rattle.hs_overlap.specs.declared.partners.Partners.{Partners}
use Rattle.hs_overlap.specs.Completions.{partner, put}
use Rattle.hs_overlap.specs.Tests.{Fills, Puts, Adds, IsMap, CannotAdd}
use Rattle.hs_overlap.proofs.Puts.{put_cases, put_here, put_keeps}
use Rattle.hs_overlap.proofs.Taken.{more_at, taken_in}

pub puts_new : (xs ys : List (Option ℕ)) (i j : ℕ) → partner xs i ≡ None → i < length xs → ys ≡ put xs i (Some j) → Puts xs i j ys
puts_new xs ys i j free below e = subst (λ z. Puts xs i j z) (sym e) (record {
  here = put_here xs i (Some j) below;
  cases = λ k l h. put_cases xs i j k l below h;
  keeps = λ k l h. put_keeps xs i k l (Some j) free h;
})

fills_node : (s t : Partners) (qs : List Pair) (i j : ℕ) → Fills s qs → Puts s.nodes i j t.nodes → t.edges ≡ s.edges → Fills t (qs ++ Node i j ∷ [])
fills_node s t qs i j f a e = record {
  nodes = λ k l. (
    (λ h. elim (a.cases k l h) [
      | inl new ↦ subst (λ z. Contains (qs ++ Node i j ∷ []) (Node z l)) (sym new.0) (subst (λ z. Contains (qs ++ Node i j ∷ []) (Node i z)) (sym new.1) (Contains-push qs (Node i j)))
      | inr old ↦ Contains-append_left qs (Node i j ∷ []) (Node k l) ((f.nodes k l).0 old)
    ]),
    (λ c. elim (Contains-push_cases qs (Node i j) (Node k l) c) [
      | inl old ↦ a.keeps k l ((f.nodes k l).1 old)
      | inr same ↦ let one : i ≡ k = cc in let other : j ≡ l = cc in rw (one, other) at a.here
    ]),
  );
  edges = λ k l. (
    (λ h. Contains-append_left qs (Node i j ∷ []) (Edge k l) ((f.edges k l).0 (rw e at h))),
    (λ c. elim (Contains-push_cases qs (Node i j) (Edge k l) c) [ inl old ↦ rw e ((f.edges k l).1 old) | inr same ↦ absurd cc ]),
  );
}

fills_edge : (s t : Partners) (qs : List Pair) (i j : ℕ) → Fills s qs → Puts s.edges i j t.edges → t.nodes ≡ s.nodes → Fills t (qs ++ Edge i j ∷ [])
fills_edge s t qs i j f a e = record {
  edges = λ k l. (
    (λ h. elim (a.cases k l h) [
      | inl new ↦ subst (λ z. Contains (qs ++ Edge i j ∷ []) (Edge z l)) (sym new.0) (subst (λ z. Contains (qs ++ Edge i j ∷ []) (Edge i z)) (sym new.1) (Contains-push qs (Edge i j)))
      | inr old ↦ Contains-append_left qs (Edge i j ∷ []) (Edge k l) ((f.edges k l).0 old)
    ]),
    (λ c. elim (Contains-push_cases qs (Edge i j) (Edge k l) c) [
      | inl old ↦ a.keeps k l ((f.edges k l).1 old)
      | inr same ↦ let one : i ≡ k = cc in let other : j ≡ l = cc in rw (one, other) at a.here
    ]),
  );
  nodes = λ k l. (
    (λ h. Contains-append_left qs (Edge i j ∷ []) (Node k l) ((f.nodes k l).0 (rw e at h))),
    (λ c. elim (Contains-push_cases qs (Edge i j) (Node k l) c) [ inl old ↦ rw e ((f.nodes k l).1 old) | inr same ↦ absurd cc ]),
  );
}

fills_slot : (s : Partners) (qs : List Pair) (i j : ℕ) → Fills s qs → Fills s (qs ++ Slot i j ∷ [])
fills_slot s qs i j f = record {
  nodes = λ k l. (
    (λ h. Contains-append_left qs (Slot i j ∷ []) (Node k l) ((f.nodes k l).0 h)),
    (λ c. elim (Contains-push_cases qs (Slot i j) (Node k l) c) [ inl old ↦ (f.nodes k l).1 old | inr same ↦ absurd cc ]),
  );
  edges = λ k l. (
    (λ h. Contains-append_left qs (Slot i j ∷ []) (Edge k l) ((f.edges k l).0 h)),
    (λ c. elim (Contains-push_cases qs (Slot i j) (Edge k l) c) [ inl old ↦ (f.edges k l).1 old | inr same ↦ absurd cc ]),
  );
}

fills_add : (s t : Partners) (qs : List Pair) (q : Pair) → Fills s qs → Adds s q t → Fills t (qs ++ q ∷ [])
fills_add s t qs (Node i j) f a = fills_node s t qs i j f a.0 a.1
fills_add s t qs (Edge i j) f a = fills_edge s t qs i j f a.0 a.1
fills_add s t qs (Slot i j) f a = rw a (fills_slot s qs i j f)

pub fills_more : (s t : Partners) (span : List Pair) (i : ℕ) (q : Pair) → i < length span → q ≡ get_or span i q → Fills s (take i span) → Adds s q t → Fills t (take (i + 1) span)
fills_more s t span i q l e f a = rw (more_at span i q l e) (fills_add s t (take i span) q f a)

pub refused_never : (s : Partners) (span : List Pair) (i : ℕ) (q : Pair) → i < length span → q ≡ get_or span i q → Fills s (take i span) → CannotAdd s q → IsMap span → ⊥
refused_never s span n (Node i j) l e f (inl big) m =
    let h : i < 12 = m.node_below i j (subst (λ z. Contains span z) (sym e) (Contains-get_or span n (Node i j) l)) in omega arith
refused_never s span n (Node i j) l e f (inr h) m =
    let here : Contains span (Node i j) = subst (λ z. Contains span z) (sym e) (Contains-get_or span n (Node i j) l) in
    let there : Contains span (Node i h.0) = taken_in span n (Node i h.0) l ((f.nodes i h.0).0 h.1) in
    let same : Node i h.0 ≡ Node i j = m.one (Node i h.0) (Node i j) there here refl in
    h.2 cc
refused_never s span n (Edge i j) l e f (inl big) m =
    let h : i < 16 = m.edge_below i j (subst (λ z. Contains span z) (sym e) (Contains-get_or span n (Edge i j) l)) in omega arith
refused_never s span n (Edge i j) l e f (inr h) m =
    let here : Contains span (Edge i j) = subst (λ z. Contains span z) (sym e) (Contains-get_or span n (Edge i j) l) in
    let there : Contains span (Edge i h.0) = taken_in span n (Edge i h.0) l ((f.edges i h.0).0 h.1) in
    let same : Edge i h.0 ≡ Edge i j = m.one (Edge i h.0) (Edge i j) there here refl in
    h.2 cc
refused_never s span n (Slot i j) l e f r m = r
