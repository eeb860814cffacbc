-- Numbers with keys that differ.
use Rattle.std.proofs.Common.{ℕ, ◌≡◌, ◌||◌, List, [], ◌∷◌, Bool, true, false, map, eqb, refl, ap, sym, ◌∙◌, subst}
use Rattle.std.proofs.lemmas.Bool.{eqb-true, false≢true}
use Rattle.std.proofs.lemmas.List.Elements.{All-cons, All-head, All-nil, All-tail}
use Rattle.std.specs.List.{All}
use Rattle.hs_expr.specs.Lists.{Differ, has}

pub all_has : {A : Type 0} (P : A → Type 0) (f : ℕ → A) (ns : List ℕ) (n : ℕ) → All P (map f ns) → has ns n ≡ true → P (f n)
all_has P f [] n all h = absurd (false≢true h)
all_has P f (k ∷ ns) n all h = go (eqb n k) refl (all_has P f ns n (All-tail P (f k) (map f ns) all)) h
  where
    go : (b : Bool) → eqb n k ≡ b → (has ns n ≡ true → P (f n)) → (b || has ns n) ≡ true → P (f n)
    go true e rest t = subst (λ j. P (f j)) (sym (eqb-true n k e)) (All-head P (f k) (map f ns) all)
    go false e rest t = rest t

-- Two of the numbers with one key are the same.
pub same_number : {A : Type 0} (f : ℕ → A) (ns : List ℕ) (j n : ℕ) → Differ (map f ns) → has ns j ≡ true → has ns n ≡ true → f j ≡ f n → j ≡ n
same_number f [] j n differ h i e = absurd (false≢true h)
same_number {A} f (k ∷ ns) j n differ h i e = go (eqb j k) (eqb n k) refl refl (λ s t. same_number f ns j n differ.1 s t e) h i
  where
    go : (a b : Bool) → eqb j k ≡ a → eqb n k ≡ b → (has ns j ≡ true → has ns n ≡ true → j ≡ n) → (a || has ns j) ≡ true → (b || has ns n) ≡ true → j ≡ n
    go true true s t rest u v = eqb-true j k s ∙ sym (eqb-true n k t)
    go true false s t rest u v = absurd (all_has (λ (y : A). f k ≡ y → ⊥) f ns n differ.0 v (ap f (sym (eqb-true j k s)) ∙ e))
    go false true s t rest u v = absurd (all_has (λ (y : A). f k ≡ y → ⊥) f ns j differ.0 u (ap f (sym (eqb-true n k t)) ∙ sym e))
    go false false s t rest u v = rest u v

-- Numbers of which the keys differ differ.
pub differ-unmapped : {A : Type 0} (h : ℕ → A) (ns : List ℕ) → Differ (map h ns) → Differ ns
differ-unmapped h [] d = tt
differ-unmapped {A} h (n ∷ ns) d = (apart ns d.0, differ-unmapped h ns d.1)
  where
    apart : (ks : List ℕ) → All (λ (y : A). h n ≡ y → ⊥) (map h ks) → All (λ k. n ≡ k → ⊥) ks
    apart [] a = All-nil (λ k. n ≡ k → ⊥)
    apart (k ∷ ks) a = All-cons (λ k. n ≡ k → ⊥) k ks (λ e. All-head (λ (y : A). h n ≡ y → ⊥) (h k) (map h ks) a (ap h e)) (apart ks (All-tail (λ (y : A). h n ≡ y → ⊥) (h k) (map h ks) a))
