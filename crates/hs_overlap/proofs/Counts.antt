-- How many numbers a fact holds of, and products of such counts up to the cap.
use Rattle.std.proofs.Common.{ℕ, ◌+◌, ◌*◌, ◌-◌, ◌<◌, ◌≤◌, ◌≡◌, List, [], ◌∷◌, ◌++◌, length, slice_get, min, refl, sym, ap, ◌∙◌, subst, inl, inr, arith}
use Rattle.std.proofs.Math.Nat.{mul_assoc, mul_comm, mul-pos, mul-le-mul, min-eq_left, min-eq_right, le-mul_of_pos_right}
use Rattle.std.proofs.lemmas.Option.{same_Some, slice_get_within}
use Rattle.std.proofs.lemmas.Bool.{cases_eq, cases_lt}
use Rattle.std.proofs.lemmas.List.{length-append}
use Rattle.hs_expr.proofs.Lists.{slice_get-first, slice_get-last}
use Rattle.hs_types.specs.declared.meta.Metamodel.{Metamodel}
use Rattle.hs_types.specs.declared.rule.Shape.{Shape}
use Rattle.hs_overlap.specs.Overlaps.{NodesMeet}
use Rattle.hs_overlap.specs.Weights.{HasCount, HaveOneReference, ArePartnerCounts, IsCappedProduct, IsCappedWeight, ways, capped}
use Rattle.hs_overlap.proofs.Those.{those_none, those_push, those_skip, those_all}

module _ (Is : ℕ → Type 0) where
  pub count_none : HasCount (λ i. (i < 0) × Is i) 0
  count_none = record { numbers = []; those = those_none Is; count = refl }

  pub count_here : (n k : ℕ) → HasCount (λ i. (i < n) × Is i) k → Is n → HasCount (λ i. (i < n + 1) × Is i) (k + 1)
  count_here n k h is = record { numbers = h.numbers ++ n ∷ []; those = those_push Is n h.numbers h.those is; count = length-append h.numbers (n ∷ []) ∙ ap (λ z. z + 1) h.count }

  pub count_past : (n k : ℕ) → HasCount (λ i. (i < n) × Is i) k → (Is n → ⊥) → HasCount (λ i. (i < n + 1) × Is i) k
  count_past n k h is = record { numbers = h.numbers; those = those_skip Is n h.numbers h.those is; count = h.count }

  pub count_all : (n k : ℕ) → HasCount (λ i. (i < n) × Is i) k → ((i : ℕ) → Is i → i < n) → HasCount Is k
  count_all n k h below = record { numbers = h.numbers; those = those_all Is n h.numbers h.those below; count = h.count }

module _ (CanPair : ℕ → ℕ → Type 0) where
  pub counts_none : ArePartnerCounts CanPair 0 []
  counts_none = record { each = refl; exact = λ i k at. absurd cc }

  pub counts_push : (n k : ℕ) (counts : List ℕ) → ArePartnerCounts CanPair n counts → HasCount (CanPair n) k → ArePartnerCounts CanPair (n + 1) (counts ++ k ∷ [])
  counts_push n k counts h here = record {
    each = length-append counts (k ∷ []) ∙ ap (λ z. z + 1) h.each;
    exact = λ i l at. elim (cases_eq i n) [
      | inl e ↦
          let last : slice_get (counts ++ k ∷ []) i ≡ slice_get (k ∷ []) (i - length counts) = slice_get-last counts (k ∷ []) i (omega (arith, h.each)) in
          let none : i - length counts ≡ 0 = omega (arith, h.each) in
          let same : k ≡ l = same_Some k l (sym (last ∙ ap (slice_get (k ∷ [])) none) ∙ at) in
          subst (λ z. HasCount (CanPair z) l) (sym e) (subst (λ z. HasCount (CanPair n) z) same here)
      | inr ne ↦
          let below : i < length (counts ++ k ∷ []) = slice_get_within (counts ++ k ∷ []) i l at in
          let early : i < length counts = omega (arith, length-append counts (k ∷ []), h.each) in
          h.exact i l (sym (slice_get-first counts (k ∷ []) i early) ∙ at)
    ];
  }

pub ways_push : (counts : List ℕ) (k : ℕ) → ways (counts ++ k ∷ []) ≡ ways counts * (1 + k)
ways_push [] k = omega arith
ways_push (c ∷ counts) k = ap (λ z. (1 + c) * z) (ways_push counts k) ∙ sym (mul_assoc (1 + c) (ways counts) (1 + k))

pub ways_positive : (counts : List ℕ) → 0 < ways counts
ways_positive [] = omega arith
ways_positive (c ∷ counts) = mul-pos (omega arith) (ways_positive counts)

-- Where no factor is 0, a factor may be cut at the cap before it is multiplied.
cut_first : (a b c : ℕ) → 0 < b → min (min a c * b) c ≡ min (a * b) c
cut_first a b c positive = elim (cases_lt a c) [
  | inl small ↦ ap (λ z. min (z * b) c) (min-eq_left (omega arith))
  | inr large ↦
      let at : min a c ≡ c = min-eq_right (omega arith) in
      let one : c ≤ c * b = le-mul_of_pos_right c positive in
      let other : c * b ≤ a * b = mul-le-mul (omega arith) (omega arith) in
      ap (λ z. min (z * b) c) at ∙ min-eq_right one ∙ sym (min-eq_right (omega (arith, one, other)))
]

pub product_capped : (a b : ℕ) → 0 < a → 0 < b → capped (capped a * capped b) ≡ capped (a * b)
product_capped a b one other =
    cut_first a (capped b) 1000001 (positive b other)
    ∙ ap (λ z. min z 1000001) (mul_comm a (capped b))
    ∙ cut_first b a 1000001 one
    ∙ ap (λ z. min z 1000001) (mul_comm b a)
  where
    positive : (n : ℕ) → 0 < n → 0 < capped n
    positive n h = elim (cases_lt n 1000001) [ inl small ↦ subst (λ z. 0 < z) (sym (min-eq_left (omega arith))) h | inr large ↦ subst (λ z. 0 < z) (sym (min-eq_right (omega arith))) (omega arith) ]

pub product_none : (CanPair : ℕ → ℕ → Type 0) → IsCappedProduct CanPair 0 1
product_none CanPair = record { counts = []; exact = counts_none CanPair; product = refl }

pub product_push : (CanPair : ℕ → ℕ → Type 0) (n w k : ℕ) → IsCappedProduct CanPair n w → HasCount (CanPair n) k → IsCappedProduct CanPair (n + 1) (capped (w * (1 + k)))
product_push CanPair n w k h here = record {
  counts = h.counts ++ k ∷ [];
  exact = counts_push CanPair n k h.counts h.exact here;
  product = ap (λ z. capped (z * (1 + k))) h.product ∙ cut_first (ways h.counts) (1 + k) 1000001 (omega arith) ∙ ap capped (sym (ways_push h.counts k));
}

pub weight_from : (m : Metamodel) (r p : Shape) (a b : ℕ) → IsCappedProduct (NodesMeet m r p) (length r.nodes) a → IsCappedProduct (HaveOneReference r p) (length r.edges) b → IsCappedWeight m r p (capped (a * b))
weight_from m r p a b one other = record {
  weight = ways one.counts * ways other.counts;
  exact = record { nodes = one.counts; edges = other.counts; node_counts = one.exact; edge_counts = other.exact; product = refl };
  capped = ap (λ z. capped (z * b)) one.product ∙ ap (λ z. capped (capped (ways one.counts) * z)) other.product ∙ product_capped (ways one.counts) (ways other.counts) (ways_positive one.counts) (ways_positive other.counts);
}
