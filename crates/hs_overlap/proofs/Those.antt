-- Numbers below a bound of which a fact holds, in rising order.
use Rattle.std.proofs.Common.{ℕ, ◌+◌, ◌<◌, List, [], ◌∷◌, ◌++◌, get_or, sym, subst, inl, inr, arith, Contains}
use Rattle.std.proofs.lemmas.Bool.{cases_eq}
use Rattle.std.proofs.lemmas.List.Elements.{Contains-push, Contains-push_cases, Contains-append_left, Contains-get_or}
use Rattle.std.proofs.lemmas.List.Quantifiers.{all_pairs_push}
use Rattle.hs_overlap.specs.SubShapes.{AreThose}

module _ (Is : ℕ → Type 0) where
  pub those_none : AreThose (λ i. (i < 0) × Is i) []
  those_none = record { rising = λ i j d l m. absurd (omega arith); exact = λ i. ((λ c. let l : c.0 < 0 = c.1 in absurd (omega arith)), (λ h. let l : i < 0 = h.0 in absurd (omega arith))) }

  pub those_push : (n : ℕ) (xs : List ℕ) → AreThose (λ i. (i < n) × Is i) xs → Is n → AreThose (λ i. (i < n + 1) × Is i) (xs ++ n ∷ [])
  those_push n xs h is = record {
    rising = all_pairs_push (λ i j. i < j) xs n h.rising (λ k d l. ((h.exact (get_or xs k d)).0 (Contains-get_or xs k d l)).0);
    exact = λ i. (
      (λ c. elim (Contains-push_cases xs n i c) [
        | inl early ↦ let q = (h.exact i).0 early in let l : i < n = q.0 in (omega arith, q.1)
        | inr e ↦ subst (λ z. (z < n + 1) × Is z) e (omega arith, is)
      ]),
      (λ q. elim (cases_eq i n) [
        | inl e ↦ subst (λ z. Contains (xs ++ n ∷ []) z) (sym e) (Contains-push xs n)
        | inr ne ↦ let l : i < n + 1 = q.0 in Contains-append_left xs (n ∷ []) i ((h.exact i).1 (omega arith, q.1))
      ]),
    );
  }

  pub those_skip : (n : ℕ) (xs : List ℕ) → AreThose (λ i. (i < n) × Is i) xs → (Is n → ⊥) → AreThose (λ i. (i < n + 1) × Is i) xs
  those_skip n xs h is = record {
    rising = h.rising;
    exact = λ i. (
      (λ c. let q = (h.exact i).0 c in let l : i < n = q.0 in (omega arith, q.1)),
      (λ q. elim (cases_eq i n) [
        | inl e ↦ absurd (is (subst Is e q.1))
        | inr ne ↦ let l : i < n + 1 = q.0 in (h.exact i).1 (omega arith, q.1)
      ]),
    );
  }

  pub those_all : (n : ℕ) (xs : List ℕ) → AreThose (λ i. (i < n) × Is i) xs → ((i : ℕ) → Is i → i < n) → AreThose Is xs
  those_all n xs h below = record { rising = h.rising; exact = λ i. ((λ c. ((h.exact i).0 c).1), (λ q. (h.exact i).1 (below i q, q))) }
