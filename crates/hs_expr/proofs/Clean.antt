-- What holds where no fault is found.
use Rattle.std.proofs.Common.{ℕ, zero, suc, ◌+◌, ◌≡◌, ◌++◌, List, [], ◌∷◌, Bool, true, false, Some, slice_get, refl, ap, sym, ◌∙◌, arith, add-zero, zero-add}
use Rattle.std.proofs.lemmas.Option.{none-some, same_Some}
use Rattle.hs_expr.specs.Verdict.{each, each_from, fault_if}

pub some-not_none : {A : Type 0} (x : A) (xs : List A) → x ∷ xs ≡ [] → ⊥
some-not_none x xs e = absurd (cc)

pub empty_parts : {A : Type 0} (a b : List A) → a ++ b ≡ [] → (a ≡ []) × (b ≡ [])
empty_parts [] b e = (refl, e)
empty_parts (x ∷ a) b e = absurd (some-not_none x (a ++ b) e)

pub both_empty : {A : Type 0} (a b : List A) → a ≡ [] → b ≡ [] → a ++ b ≡ []
both_empty a b e f = rw (e, f) refl

pub no_test : {E : Type 0} (b : Bool) (f : E) → fault_if b f ≡ [] → b ≡ false
no_test true f e = absurd (some-not_none f [] e)
no_test false f e = refl

pub clean_from : {X E : Type 0} (finds : ℕ → X → List E) (n : ℕ) (xs : List X) → each_from finds n xs ≡ [] → (k : ℕ) (x : X) → slice_get xs k ≡ Some x → finds (n + k) x ≡ []
clean_from finds n [] e k x at = absurd (none-some x at)
clean_from finds n (y ∷ ys) e zero x at =
    ap (λ i. finds i x) (add-zero n) ∙ ap (finds n) (sym (same_Some y x at)) ∙ (empty_parts (finds n y) (each_from finds (n + 1) ys) e).0
clean_from finds n (y ∷ ys) e (suc k) x at =
    let later : n + suc k ≡ n + 1 + k = omega arith in
    ap (λ i. finds i x) later ∙ clean_from finds (n + 1) ys (empty_parts (finds n y) (each_from finds (n + 1) ys) e).1 k x at

-- Nothing is found at an item of a list where nothing is found.
pub clean_at : {X E : Type 0} (finds : ℕ → X → List E) (xs : List X) → each finds xs ≡ [] → (k : ℕ) (x : X) → slice_get xs k ≡ Some x → finds k x ≡ []
clean_at finds xs e k x at = ap (λ i. finds i x) (sym (zero-add k)) ∙ clean_from finds 0 xs e k x at
