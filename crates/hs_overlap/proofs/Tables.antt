-- Lists of what stands at each number below a bound.
use Rattle.std.proofs.Common.{ℕ, suc, zero, ◌<◌, ◌≤◌, ◌≡◌, List, [], ◌∷◌, ◌++◌, map, eqb, Option, Some, None, refl, sym, ◌∙◌, subst, inl, inr, arith}
use Rattle.std.specs.List.{All, find}
use Rattle.std.specs.Option.{option_map, option_or}
use Rattle.std.proofs.lemmas.Bool.{cases_eq, eq-eqb, ne_eqb}
use Rattle.std.proofs.lemmas.List.Elements.{All-nil, All-cons, All-append}
use Rattle.std.proofs.lemmas.List.Folds.{find-append}
use Rattle.hs_expr.specs.Lists.{EachPair, Rise}
use Rattle.hs_expr.proofs.Lists.{EachPair-append, Rise-append, map-append}

abbrev pub entry : {A B : Type 0} → (A → B) → Option A → List B
entry make None = []
entry make (Some a) = make a ∷ []

-- the list of the entries below n
abbrev pub table : {A B : Type 0} → (ℕ → A → B) → (ℕ → Option A) → ℕ → List B
table make f zero = []
table make f (suc n) = table make f n ++ entry (make n) (f n)

module _ {A B : Type 0} (make : ℕ → A → B) (number : B → ℕ) (same : (k : ℕ) (a : A) → number (make k a) ≡ k) (f : ℕ → Option A) where
  entry_away : (n k : ℕ) → (n ≡ k → ⊥) → (o : Option A) → find (λ x. eqb (number x) k) (entry (make n) o) ≡ None
  entry_away n k away None = refl
  entry_away n k away (Some a) = rw (same n a, ne_eqb n k away) refl

  entry_here : (n : ℕ) (o : Option A) → find (λ x. eqb (number x) n) (entry (make n) o) ≡ option_map (make n) o
  entry_here n None = refl
  entry_here n (Some a) = rw (same n a, eq-eqb n n refl) refl

  pub table_past : (n k : ℕ) → n ≤ k → find (λ x. eqb (number x) k) (table make f n) ≡ None
  table_past zero k l = refl
  table_past (suc n) k l = find-append (λ x. eqb (number x) k) (table make f n) (entry (make n) (f n)) ∙ rw (table_past n k (omega arith)) (entry_away n k (λ e. omega arith) (f n))

  or_none : (o new : Option B) → new ≡ None → option_or o new ≡ o
  or_none None new e = e
  or_none (Some b) new e = refl

  pub table_at : (n k : ℕ) → k < n → find (λ x. eqb (number x) k) (table make f n) ≡ option_map (make k) (f k)
  table_at zero k l = absurd (omega arith)
  table_at (suc n) k l = find-append (λ x. eqb (number x) k) (table make f n) (entry (make n) (f n)) ∙ elim (cases_eq k n) [
    | inl e ↦ let past : find (λ x. eqb (number x) k) (table make f n) ≡ None = table_past n k (omega arith) in rw past (subst (λ j. find (λ x. eqb (number x) j) (entry (make n) (f n)) ≡ option_map (make j) (f j)) (sym e) (entry_here n (f n)))
    | inr ne ↦ or_none (find (λ x. eqb (number x) k) (table make f n)) (find (λ x. eqb (number x) k) (entry (make n) (f n))) (entry_away n k (λ e. ne (sym e)) (f n)) ∙ table_at n k (omega arith)
  ]

  entry_rises : (n : ℕ) (o : Option A) → Rise n (map number (entry (make n) o)) (suc n)
  entry_rises n None = omega arith
  entry_rises n (Some a) = rw (same n a) (omega arith, omega arith)

  pub table_rises : (n : ℕ) → Rise 0 (map number (table make f n)) n
  table_rises zero = omega arith
  table_rises (suc n) = rw (map-append number (table make f n) (entry (make n) (f n))) (Rise-append 0 (map number (table make f n)) n (map number (entry (make n) (f n))) (suc n) (table_rises n) (entry_rises n (f n)))

  entry_all : (P : B → Type 0) (n : ℕ) (o : Option A) → ((a : A) → o ≡ Some a → P (make n a)) → All P (entry (make n) o)
  entry_all P n None h = All-nil P
  entry_all P n (Some a) h = All-cons P (make n a) [] (h a refl) (All-nil P)

  pub table_all : (P : B → Type 0) (n : ℕ) → ((k : ℕ) (a : A) → k < n → f k ≡ Some a → P (make k a)) → All P (table make f n)
  table_all P zero h = All-nil P
  table_all P (suc n) h = All-append P (table make f n) (entry (make n) (f n)) (table_all P n (λ k a l e. h k a (omega arith) e)) (entry_all P n (f n) (λ a e. h n a (omega arith) e))

  -- a relation between each entry and each later one
  entry_pairs : (R : B → B → Type 0) (n : ℕ) (o : Option A) → EachPair R (entry (make n) o)
  entry_pairs R n None = tt
  entry_pairs R n (Some a) = (All-nil (R (make n a)), tt)

  pub table_pairs : (R : B → B → Type 0) (n : ℕ) → ((k l : ℕ) (a b : A) → k < l → R (make k a) (make l b)) → EachPair R (table make f n)
  table_pairs R zero h = tt
  table_pairs R (suc n) h = EachPair-append R (table make f n) (entry (make n) (f n)) (table_pairs R n h) (entry_pairs R n (f n))
      (table_all (λ x. All (R x) (entry (make n) (f n))) n (λ k a l e. entry_all (R (make k a)) n (f n) (λ b e'. h k n a b l)))
