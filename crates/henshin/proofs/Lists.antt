-- A list of one item.
use Rattle.std.proofs.Common.{◌≡◌, ◌↔◌, ◌∙◌, List, [], ◌∷◌, map, length, get_or, ap, sym, arith}

head_same : {B : Type 0} {y b : B} → y ∷ [] ≡ b ∷ [] → y ≡ b
head_same e = cc

-- One item alone, seen through a function.
pub alone : {A B : Type 0} (f : A → B) (xs : List A) (x : A) (b : B) → length xs ≡ 1 → x ≡ get_or xs 0 x → (f x ≡ b) ↔ (map f xs ≡ b ∷ [])
alone f [] x b one is = absurd (omega arith)
alone f (y ∷ []) x b one is = ((λ e. ap (λ z. z ∷ []) (ap f (sym is) ∙ e)), (λ e. ap f is ∙ head_same e))
alone f (y ∷ z ∷ xs) x b one is = absurd (omega arith)
