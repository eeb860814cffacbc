-- The order of pairs, from neighbours to all.
use Rattle.std.proofs.Common.{ℕ, suc, zero, ◌+◌, ◌-◌, ◌<◌, ◌≡◌, List, length, get_or, refl, ◌∙◌, subst, inl, inr, arith, Some, slice_get}
use Rattle.std.specs.List.{AllPairs}
use Rattle.std.proofs.lemmas.Option.{slice_get-get_or, get_or_from_slice_get, slice_get_within}
use Rattle.hs_overlap.specs.declared.pair.Pair.{Pair}
use Rattle.hs_overlap.specs.declared.pair.Pair.TheVariants.{Node, Edge, Slot}
use Rattle.hs_overlap.specs.Reasons.{IsPairBefore, IsLess}

less_trans : (i j k l m n : ℕ) → IsLess i j k l → IsLess k l m n → IsLess i j m n
less_trans i j k l m n (inl a) (inl b) = inl (omega arith)
less_trans i j k l m n (inl a) (inr b) = inl (let e : k ≡ m = b.0 in omega arith)
less_trans i j k l m n (inr a) (inl b) = inl (let e : i ≡ k = a.0 in omega arith)
less_trans i j k l m n (inr a) (inr b) = inr (a.0 ∙ b.0, (let x : j < l = a.1 in let y : l < n = b.1 in omega arith))

pub before_trans : (a b c : Pair) → IsPairBefore a b → IsPairBefore b c → IsPairBefore a c
before_trans (Node i j) (Node k l) (Node m n) h g = less_trans i j k l m n h g
before_trans (Node i j) (Edge k l) (Node m n) h g = absurd g
before_trans (Node i j) (Slot k l) (Node m n) h g = absurd g
before_trans (Node i j) (Node k l) (Edge m n) h g = tt
before_trans (Node i j) (Edge k l) (Edge m n) h g = tt
before_trans (Node i j) (Slot k l) (Edge m n) h g = tt
before_trans (Node i j) (Node k l) (Slot m n) h g = tt
before_trans (Node i j) (Edge k l) (Slot m n) h g = tt
before_trans (Node i j) (Slot k l) (Slot m n) h g = tt
before_trans (Edge i j) (Node k l) (Node m n) h g = absurd h
before_trans (Edge i j) (Node k l) (Edge m n) h g = absurd h
before_trans (Edge i j) (Node k l) (Slot m n) h g = absurd h
before_trans (Edge i j) (Edge k l) (Node m n) h g = absurd g
before_trans (Edge i j) (Edge k l) (Edge m n) h g = less_trans i j k l m n h g
before_trans (Edge i j) (Edge k l) (Slot m n) h g = tt
before_trans (Edge i j) (Slot k l) (Node m n) h g = absurd g
before_trans (Edge i j) (Slot k l) (Edge m n) h g = absurd g
before_trans (Edge i j) (Slot k l) (Slot m n) h g = tt
before_trans (Slot i j) (Node k l) (Node m n) h g = absurd h
before_trans (Slot i j) (Node k l) (Edge m n) h g = absurd h
before_trans (Slot i j) (Node k l) (Slot m n) h g = absurd h
before_trans (Slot i j) (Edge k l) (Node m n) h g = absurd h
before_trans (Slot i j) (Edge k l) (Edge m n) h g = absurd h
before_trans (Slot i j) (Edge k l) (Slot m n) h g = absurd h
before_trans (Slot i j) (Slot k l) (Node m n) h g = absurd g
before_trans (Slot i j) (Slot k l) (Edge m n) h g = absurd g
before_trans (Slot i j) (Slot k l) (Slot m n) h g = less_trans i j k l m n h g

pub pairs_at : (xs : List Pair) → AllPairs IsPairBefore xs → (i j : ℕ) (a b : Pair) → i < j → slice_get xs i ≡ Some a → slice_get xs j ≡ Some b → IsPairBefore a b
pairs_at xs sorted i j a b l at at' =
    let below : j < length xs = slice_get_within xs j b at' in
    let h : IsPairBefore (get_or xs i a) (get_or xs j a) = sorted i j a l below in
    let one : get_or xs i a ≡ a = get_or_from_slice_get xs i a a at in
    let other : get_or xs j a ≡ b = get_or_from_slice_get xs j b a at' in
    rw (one, other) at h

module _ (xs : List Pair) (next : (k : ℕ) (a b : Pair) → slice_get xs k ≡ Some a → slice_get xs (k + 1) ≡ Some b → IsPairBefore a b) where
  next_at : (i : ℕ) (d : Pair) → i + 1 < length xs → IsPairBefore (get_or xs i d) (get_or xs (i + 1) d)
  next_at i d l = next i (get_or xs i d) (get_or xs (i + 1) d) (slice_get-get_or xs i d (omega arith)) (slice_get-get_or xs (i + 1) d l)

  chain : (n i j : ℕ) (d : Pair) → j ≡ i + n + 1 → j < length xs → IsPairBefore (get_or xs i d) (get_or xs j d)
  chain zero i j d e l = let f : i + 1 ≡ j = omega arith in subst (λ z. IsPairBefore (get_or xs i d) (get_or xs z d)) f (next_at i d (omega arith))
  chain (suc n) i j d e l =
      let f : (i + n + 1) + 1 ≡ j = omega arith in
      subst (λ z. IsPairBefore (get_or xs i d) (get_or xs z d)) f
      (before_trans (get_or xs i d) (get_or xs (i + n + 1) d) (get_or xs ((i + n + 1) + 1) d) (chain n i (i + n + 1) d refl (omega arith)) (next_at (i + n + 1) d (omega arith)))

  pub all_from_next : AllPairs IsPairBefore xs
  all_from_next i j d l m = chain (j - i - 1) i j d (omega arith) m
