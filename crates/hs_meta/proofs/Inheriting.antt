-- Features that are added supertype by supertype, each once.
use Rattle.std.proofs.Common.{ℕ, ◌≡◌, ◌&&◌, ◌||◌, ◌++◌, List, [], ◌∷◌, Bool, true, false, not, cond, eqb, refl, ap, sym, ◌∙◌, append-nil, append_assoc}
use Rattle.std.proofs.lemmas.Bool.{eqb-true}
use Rattle.std.proofs.lemmas.List.Folds.{list_any-append}
use Rattle.std.specs.List.{filter}
use Rattle.hs_expr.specs.Lists.{each_once, has}
use Rattle.hs_meta.specs.Inheriting.{with_further}

-- What passes both tests.
filter-filter : (p q r : ℕ → Bool) → ((n : ℕ) → r n ≡ (q n && p n)) → (ns : List ℕ) → filter p (filter q ns) ≡ filter r ns
filter-filter p q r h [] = refl
filter-filter p q r h (n ∷ ns) =
    elim (q n) as (λ b. q n ≡ b → filter p (cond b (n ∷ filter q ns) (filter q ns)) ≡ cond (r n) (n ∷ filter r ns) (filter r ns)) [
      | true ↦ λ e. let same : r n ≡ p n = h n ∙ ap (λ b. b && p n) e in ap (λ ms. cond (p n) (n ∷ ms) ms) (filter-filter p q r h ns) ∙ ap (λ b. cond b (n ∷ filter r ns) (filter r ns)) (sym same)
      | false ↦ λ e. let none : r n ≡ false = h n ∙ ap (λ b. b && p n) e in filter-filter p q r h ns ∙ ap (λ b. cond b (n ∷ filter r ns) (filter r ns)) (sym none)
    ] refl

filter-every : (ns : List ℕ) → filter (λ n. true) ns ≡ ns
filter-every [] = refl
filter-every (n ∷ ns) = ap (λ ms. n ∷ ms) (filter-every ns)

pub with_further-none : (ns : List ℕ) → with_further [] ns ≡ each_once ns
with_further-none ns = filter-every (each_once ns)

pub with_further-all : (ns : List ℕ) → with_further ns [] ≡ ns
with_further-all ns = append-nil ns

absent : (ns : List ℕ) (n k : ℕ) → has ns n ≡ true → not (has ns k) ≡ (not (eqb k n) && not (has ns k))
absent ns n k h =
    elim (eqb k n) as (λ b. eqb k n ≡ b → not (has ns k) ≡ (not b && not (has ns k))) [
      | true ↦ λ e. ap (λ j. not (has ns j)) (eqb-true k n e) ∙ ap not h
      | false ↦ λ e. refl
    ] refl

-- A number that is there already.
pub with_further-known : (ns more : List ℕ) (n : ℕ) → has ns n ≡ true → with_further ns (n ∷ more) ≡ with_further ns more
with_further-known ns more n h =
    ap (λ b. ns ++ cond (not b) (n ∷ filter (λ k. not (has ns k)) (filter (λ k. not (eqb k n)) (each_once more))) (filter (λ k. not (has ns k)) (filter (λ k. not (eqb k n)) (each_once more)))) h
    ∙ ap (λ ms. ns ++ ms) (filter-filter (λ k. not (has ns k)) (λ k. not (eqb k n)) (λ k. not (has ns k)) (λ k. absent ns n k h) (each_once more))

neither : (a b : Bool) → not (a || (b || false)) ≡ (not b && not a)
neither true true = refl
neither true false = refl
neither false true = refl
neither false false = refl

-- A new number.
pub with_further-new : (ns more : List ℕ) (n : ℕ) → has ns n ≡ false → with_further ns (n ∷ more) ≡ with_further (ns ++ n ∷ []) more
with_further-new ns more n h =
    ap (λ b. ns ++ cond (not b) (n ∷ filter (λ k. not (has ns k)) (filter (λ k. not (eqb k n)) (each_once more))) (filter (λ k. not (has ns k)) (filter (λ k. not (eqb k n)) (each_once more)))) h
    ∙ ap (λ ms. ns ++ n ∷ ms) (filter-filter (λ k. not (has ns k)) (λ k. not (eqb k n)) (λ k. not (has (ns ++ n ∷ []) k)) (λ k. ap not (list_any-append (eqb k) ns (n ∷ [])) ∙ neither (has ns k) (eqb k n)) (each_once more))
    ∙ sym (append_assoc ns (n ∷ []) (filter (λ k. not (has (ns ++ n ∷ []) k)) (each_once more)))

pub ruleset further = (with_further-none, with_further-all, with_further-known, with_further-new)
