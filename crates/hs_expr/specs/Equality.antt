-- Comparisons that agree with equality.
use Rattle.std.specs.Prelude.{◌≡◌, ◌↔◌, Bool, true, [], ◌∷◌, nat_eq, refl}
use Rattle.std.specs.Cmp.Lexicographic.{pointwise}
use Rattle.std.proofs.Common.{rules, arith}
use Rattle.std.proofs.lemmas.Grind.{common_steps}

-- A test that says whether two values are the same.
abbrev pub IsExact : {A : Type 0} → (A → A → Bool) → Type 0
IsExact {A} eq = (x y : A) → (eq x y ≡ true) ↔ (x ≡ y)

pub nat_exact : IsExact nat_eq
nat_exact x y = search rules

-- Lists are the same where they are the same item by item.
pub lists_exact : {A : Type 0} {eq : A → A → Bool} → IsExact eq → IsExact (pointwise eq)
lists_exact h [] [] = ((λ _. refl), (λ _. refl))
lists_exact h [] (y ∷ ys) = ((λ e. cc), (λ e. cc))
lists_exact h (x ∷ xs) [] = ((λ e. cc), (λ e. cc))
lists_exact {A} {eq} h (x ∷ xs) (y ∷ ys) =
    let head : (eq x y ≡ true) ↔ (x ≡ y) = h x y in
    let tail : (pointwise eq xs ys ≡ true) ↔ (xs ≡ ys) = lists_exact h xs ys in
    grind (arith, common_steps)
