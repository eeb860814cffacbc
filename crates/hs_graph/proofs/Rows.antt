-- What is found by number, one item more.
use Rattle.std.proofs.Common.{ℕ, ◌+◌, ◌<◌, ◌≡◌, List, [], ◌∷◌, Bool, cond, Some, None, take, length, get_or}
use Rattle.std.proofs.lemmas.List.{take_more}
use Rattle.std.proofs.lemmas.List.Folds.{find-append}
use Rattle.std.specs.List.{find}
use Rattle.std.specs.Option.{option_or}

-- The first that passes, of one item more.
pub find_more : {X : Type 0} (p : X → Bool) (xs : List X) (i : ℕ) (d : X) → i < length xs →
    find p (take (i + 1) xs) ≡ option_or (find p (take i xs)) (cond (p (get_or xs i d)) (Some (get_or xs i d)) None)
find_more p xs i d h = rw (take_more xs i d h) (find-append p (take i xs) (get_or xs i d ∷ []))
