-- Runs of equal keys in lists that are in the order of their keys.
use Rattle.std.proofs.Common.{ℕ, zero, suc, ◌≤◌, ◌≡◌, ◌&&◌, List, [], ◌∷◌, Bool, true, false, not, cond, eqb, ltb, leb, ltb-true, ltb-false, leb-true, leb-false, nat_cmp, Less, Equal, Greater, take, drop, length, refl, ap, sym, ◌∙◌, arith}
use Rattle.std.proofs.lemmas.Bool.{eq-eqb, ne_eqb}
use Rattle.std.proofs.lemmas.Bool.Decides.{nat_tests}
use Rattle.std.proofs.lemmas.List.Elements.{All-cons, All-head, All-nil, All-tail}
use Rattle.std.specs.List.{All, filter}
use Rattle.std.specs.List.Sorted.{IsPartitionPoint, IsStableByKey}
use Rattle.std.specs.Ordering.{is_lt}
use Rattle.hs_types.specs.declared.graph.Edge.{Edge}
use Rattle.hs_graph.specs.Ends.{end_number}
use Rattle.hs_graph.specs.declared.index.End.{End}
use Rattle.hs_graph.specs.declared.index.End.TheVariants.{Source, Target}

abbrev edge_of : ℕ → Edge
edge_of n = record { number = 0; source = n; reference = 0; target = n }

end_number_of_edge : (by : End) (n : ℕ) → end_number by (edge_of n) ≡ n
end_number_of_edge Source n = refl
end_number_of_edge Target n = refl

lower : (x y : Bool) → is_lt (cond x Less (cond y Equal Greater)) ≡ x
lower true y = refl
lower false true = refl
lower false false = refl

same_key : (a b : ℕ) → (not (is_lt (nat_cmp a b)) && not (is_lt (nat_cmp b a))) ≡ eqb b a
same_key a b = rw (lower (ltb a b) (eqb a b), lower (ltb b a) (eqb b a)) (grind (arith, nat_tests))

-- After a stable sort by an end, the edges of an object at that end are the same in the same order.
pub stays_filtered : (by : End) (n : ℕ) (xs ys : List Edge) → IsStableByKey (end_number by) nat_cmp xs ys → filter (λ (e : Edge). eqb (end_number by e) n) ys ≡ filter (λ (e : Edge). eqb (end_number by e) n) xs
stays_filtered by n xs ys stable =
    let is : (e : Edge) → (not (is_lt (nat_cmp (end_number by (edge_of n)) (end_number by e))) && not (is_lt (nat_cmp (end_number by e) (end_number by (edge_of n))))) ≡ eqb (end_number by e) n =
    λ e. rw (end_number_of_edge by n) (same_key n (end_number by e)) in
    ap (λ p. filter p ys) (λ i e. sym (is e) i) ∙ stable (edge_of n) ∙ ap (λ p. filter p xs) (λ i e. is e i)

module _ {E : Type 0} (key : E → ℕ) (n : ℕ) where
  -- Keys below n come before this index, and no others.
  abbrev pub IsBegin : List E → ℕ → Type 0
  IsBegin xs b = IsPartitionPoint (λ (e : E). ltb (key e) n ≡ true) (λ (e : E). ltb (key e) n ≡ false) xs b

  pub next_begin : (x : E) (xs : List E) (b : ℕ) → IsBegin (x ∷ xs) (suc b) → IsBegin xs b
  next_begin x xs b point = (λ k d low high. point.0 (suc k) d (omega arith) (omega (arith, high)), λ k d low high. point.1 (suc k) d (omega (arith, low)) (omega (arith, high)))

  -- What comes before the first key from n on has other keys.
  pub passed_over : (xs : List E) (b : ℕ) → IsBegin xs b → filter (λ (e : E). eqb (key e) n) (drop b xs) ≡ filter (λ (e : E). eqb (key e) n) xs
  passed_over [] zero point = refl
  passed_over [] (suc b) point = refl
  passed_over (x ∷ xs) zero point = refl
  passed_over (x ∷ xs) (suc b) point =
      let below = ltb-true (key x) n (point.0 0 x (omega arith) (omega arith)) in
      rw (ne_eqb (key x) n (λ q. omega (arith, below, q))) (passed_over xs b (next_begin x xs b point))

  pub from_point : (xs : List E) (b : ℕ) → IsBegin xs b → All (λ (e : E). n ≤ key e) (drop b xs)
  from_point [] zero point = All-nil (λ (e : E). n ≤ key e)
  from_point [] (suc b) point = All-nil (λ (e : E). n ≤ key e)
  from_point (x ∷ xs) zero point =
      All-cons (λ (e : E). n ≤ key e) x xs (let not_below = ltb-false (key x) n (point.1 0 x (omega arith) (omega arith)) in omega (arith, not_below))
      (from_point xs zero (λ k d low high. absurd (omega (arith, high)), λ k d low high. point.1 (suc k) d (omega arith) (omega (arith, high))))
  from_point (x ∷ xs) (suc b) point = from_point xs b (next_begin x xs b point)

  abbrev IsEnd : List E → ℕ → Type 0
  IsEnd xs c = IsPartitionPoint (λ (e : E). leb (key e) n ≡ true) (λ (e : E). leb (key e) n ≡ false) xs c

  -- Among keys from n on, those up to n are those that are n.
  pub run_taken : (xs : List E) (c : ℕ) → c ≤ length xs → IsEnd xs c → All (λ (e : E). n ≤ key e) xs → take c xs ≡ filter (λ (e : E). eqb (key e) n) xs
  run_taken [] zero le point from = refl
  run_taken [] (suc c) le point from = absurd (omega (arith, le))
  run_taken (x ∷ xs) zero le point from =
      let above = leb-false (key x) n (point.1 0 x (omega arith) (omega arith)) in
      rw (ne_eqb (key x) n (λ q. omega (arith, above, q)))
      (run_taken xs zero (omega arith) (λ k d low high. absurd (omega (arith, high)), λ k d low high. point.1 (suc k) d (omega arith) (omega (arith, high))) (All-tail (λ (e : E). n ≤ key e) x xs from))
  run_taken (x ∷ xs) (suc c) le point from =
      let below = leb-true (key x) n (point.0 0 x (omega arith) (omega arith)) in
      let here = All-head (λ (e : E). n ≤ key e) x xs from in
      rw (eq-eqb (key x) n (omega (arith, below, here)))
      (ap (λ es. x ∷ es) (run_taken xs c (omega (arith, le)) (λ k d low high. point.0 (suc k) d (omega arith) (omega (arith, high)), λ k d low high. point.1 (suc k) d (omega (arith, low)) (omega (arith, high))) (All-tail (λ (e : E). n ≤ key e) x xs from)))
