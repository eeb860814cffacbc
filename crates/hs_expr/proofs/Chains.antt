-- What it says of each step that steps in order give a value.
use Rattle.std.proofs.Common.{◌≡◌, List, [], ◌∷◌, Result, Ok, Err, refl, ap, sym, ◌∙◌}
use Rattle.hs_expr.specs.Steps.{◌>>=◌, fault_as}
use Rattle.hs_expr.specs.Verdict.{unless}

abbrev value_or : {A F : Type 0} → A → Result A F → A
value_or d (Ok x) = x
value_or d (Err fault) = d

-- Of one result there is one value.
pub same_ok : {A F : Type 0} (x y : A) (made : Result A F) → made ≡ Ok x → made ≡ Ok y → x ≡ y
same_ok x y made e f = ap (value_or x) (sym e ∙ f)

no_ok : {A F : Type 0} (fault : F) (y : A) → Err fault ≡ Ok y → ⊥
no_ok fault y e = absurd (cc)

-- Where two steps give a value, both do.
pub both_give : {A B F : Type 0} (next : A → Result B F) (r : Result A F) (y : B) → (r >>= next) ≡ Ok y → (x : A) × (r ≡ Ok x) × (next x ≡ Ok y)
both_give next (Ok x) y e = (x, refl, e)
both_give next (Err fault) y e = absurd (no_ok fault y e)

-- A value isn't changed by widening the faults.
pub value-from_wide : {A F G : Type 0} (wrap : F → G) (r : Result A F) (y : A) → fault_as wrap r ≡ Ok y → r ≡ Ok y
value-from_wide {A} {F} {G} wrap (Ok x) y e = let at : Result A G = Ok x in ap Ok (same_ok {F = G} x y at refl e)
value-from_wide wrap (Err fault) y e = absurd (no_ok (wrap fault) y e)

-- A value that is given is the one where there is no fault.
pub none-from_wide : {A F G : Type 0} (wrap : F → G) (faults : List F) (x y : A) → fault_as wrap (unless faults x) ≡ Ok y → (faults ≡ []) × (x ≡ y)
none-from_wide {A} {F} {G} wrap [] x y e = let at : Result A G = Ok x in (refl, same_ok {F = G} x y at refl e)
none-from_wide wrap (fault ∷ faults) x y e = absurd (no_ok (wrap fault) y e)
