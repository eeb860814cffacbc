-- What definitions in steps give, and what a look-up in steps has found.
use Rattle.std.proofs.Common.{◌≡◌, Bool, true, false, Option, Some, None, if◌then◌else◌, refl, ap, sym, ◌∙◌}
use Rattle.std.proofs.lemmas.Option.{none-some}
use Rattle.std.specs.Option.{option_and_then, option_map_or}

-- The first step's value, where two steps give one.
pub came : {A B : Type 0} (o : Option A) (next : A → Option B) (y : B) → option_and_then next o ≡ Some y → (x : A) × (o ≡ Some x) × (next x ≡ Some y)
came None next y e = absurd (none-some y e)
came (Some x) next y e = (x, refl, e)

pub tested : {A : Type 0} (b : Bool) (o : Option A) (y : A) → (if b then o else None) ≡ Some y → (b ≡ true) × (o ≡ Some y)
tested true o y e = (refl, e)
tested false o y e = absurd (none-some y e)

pub test_holds : {A : Type 0} (test : A → Bool) (o : Option A) (x : A) → o ≡ Some x → option_map_or test o false ≡ true → test x ≡ true
test_holds test o x is e = sym (ap (λ p. option_map_or test p false) is) ∙ e

-- ---- numbers among others
