-- Items with keys: numbers that rise, and what is set at the place of a key.
use Rattle.std.proofs.Common.{List, map, Bool, ℕ, zero, suc, ◌<◌, ◌≡◌, [], ◌∷◌, length, get_or, slice_set, refl, sym, ap, ◌∙◌, subst, arith, ◌+◌, ◌≤◌}
use Rattle.std.proofs.lemmas.List.Elements.{All-nil, All-cons, All-head, All-tail, All-weaker}
use Rattle.std.specs.List.{All, filter}
use Rattle.hs_expr.proofs.Lists.{All-kept, Rise-filter, below_differs}
use Rattle.hs_expr.specs.Lists.{Differ, Rise}
use Rattle.hs_types.specs.Writing.{AreKeyed}
use Rattle.hs_types.specs.declared.graph.Object.{Object}

-- Numbers that rise differ.
pub rise_above : (low : ℕ) (ns : List ℕ) (high : ℕ) → Rise low ns high → All (λ k. low ≤ k) ns
rise_above low [] high r = All-nil (λ k. low ≤ k)
rise_above low (n ∷ ns) high r = All-cons (λ k. low ≤ k) n ns r.0 (All-weaker (λ k. n + 1 ≤ k) (λ k. low ≤ k) (λ k h. omega (arith, h, r.0)) ns (rise_above (n + 1) ns high r.1))

pub rise_differs : (low : ℕ) (ns : List ℕ) (high : ℕ) → Rise low ns high → Differ ns
rise_differs low [] high r = tt
rise_differs low (n ∷ ns) high r = (All-weaker (λ k. n + 1 ≤ k) (λ k. n ≡ k → ⊥) (λ k h. below_differs n k (omega (arith, h))) ns (rise_above (n + 1) ns high r.1), rise_differs (n + 1) ns high r.1)

-- Where no item has the key nothing changes.
pub unchanged : {A : Type 0} (f : A → ℕ) (u : A → A) (n : ℕ) → ((x : A) → (f x ≡ n → ⊥) → u x ≡ x) → (xs : List A) → All (λ x. f x ≡ n → ⊥) xs → map u xs ≡ xs
unchanged f u n same [] a = refl
unchanged {A} f u n same (x ∷ xs) a = rw (same x (All-head (λ (x : A). f x ≡ n → ⊥) x xs a), unchanged f u n same xs (All-tail (λ (x : A). f x ≡ n → ⊥) x xs a)) refl

-- A key that differs from all differs from each.
differs_from : {A : Type 0} (f : A → ℕ) (k : ℕ) (xs : List A) → All (λ m. k ≡ m → ⊥) (map f xs) → All (λ x. f x ≡ k → ⊥) xs
differs_from f k [] a = All-nil (λ x. f x ≡ k → ⊥)
differs_from f k (x ∷ xs) a = All-cons (λ x. f x ≡ k → ⊥) x xs (λ e. All-head (λ m. k ≡ m → ⊥) (f x) (map f xs) a (sym e)) (differs_from f k xs (All-tail (λ m. k ≡ m → ⊥) (f x) (map f xs) a))

pub set_keyed : {A : Type 0} (f : A → ℕ) (u : A → A) (n : ℕ) → ((x : A) → (f x ≡ n → ⊥) → u x ≡ x) → (xs : List A) (i : ℕ) (d : A) → Differ (map f xs) → i < length xs → f (get_or xs i d) ≡ n → slice_set xs i (u (get_or xs i d)) ≡ map u xs
set_keyed f u n same [] i d h l e = absurd (omega arith)
set_keyed {A} f u n same (x ∷ xs) zero d h l e = ap (λ ys. u x ∷ ys) (sym (unchanged f u n same xs (subst (λ (k : ℕ). All (λ (x : A). f x ≡ k → ⊥) xs) e (differs_from f (f x) xs h.0))))
set_keyed {A} f u n same (x ∷ xs) (suc i) d h l e =
    let other : f x ≡ n → ⊥ = λ k. differs_from f (f x) xs h.0 i d (omega arith) (e ∙ sym k) in
    rw (same x other) (ap (λ ys. x ∷ ys) (set_keyed f u n same xs i d h.1 (omega arith) e))

-- Where some objects go the others stay keyed.
pub keyed_filter : (q : Object → Bool) (os : List Object) → AreKeyed os → AreKeyed (filter q os)
keyed_filter q os keyed = record {
  rise = (keyed.rise.0, Rise-filter (λ (o : Object). o.number) q 0 os keyed.rise.0 keyed.rise.1);
  slots_differ = All-kept D D q os (λ o h d. d) keyed.slots_differ;
}
  where
    D : Object → Type 0
    D o = Differ (map (λ s. s.attribute) o.slots)
