use Rattle.std.proofs.Common.{ℕ, ◌+◌, ◌<◌, ◌≡◌, List, [], ◌∷◌, ◌++◌, drop, length, get_or, Ok, Err, refl}
use Rattle.std.proofs.lemmas.List.{drop_more}
use Rattle.hs_expr.specs.Verdict.{verdict, each_from}
use Rattle.std.proofs.Common.{slice_get, Some}
use Rattle.std.proofs.lemmas.Option.{get_or_from_slice_get, slice_get_within}

-- faults of the first check come before those of the second
pub verdict-append-ok : {E : Type 0} (a b : List E) → verdict a ≡ Ok tt → verdict (a ++ b) ≡ verdict b
verdict-append-ok [] b e = refl
verdict-append-ok (x ∷ a) b e = cc

pub verdict-append-err : {E : Type 0} (a b : List E) (x : E) → verdict a ≡ Err x → verdict (a ++ b) ≡ Err x
verdict-append-err [] b x e = cc
verdict-append-err (y ∷ a) b x e = e

-- the item at i comes first of those from i on
pub each_from-drop : {X E : Type 0} (f : ℕ → X → List E) (xs : List X) (i : ℕ) (d : X) → i < length xs →
    each_from f i (drop i xs) ≡ f i (get_or xs i d) ++ each_from f (i + 1) (drop (i + 1) xs)
each_from-drop f xs i d h = rw (drop_more xs i d h) refl

pub ruleset each_steps = (verdict-append-ok, verdict-append-err, each_from-drop)

-- after the item at i without fault, the faults of the rest stay
pub verdict-next : {X E : Type 0} (f : ℕ → X → List E) (xs : List X) (i : ℕ) (x : X) → slice_get xs i ≡ Some x → verdict (f i x) ≡ Ok tt →
    verdict (each_from f i (drop i xs)) ≡ verdict (each_from f (i + 1) (drop (i + 1) xs))
verdict-next f xs i x at ok =
    let lt = slice_get_within xs i x at in
    let e = get_or_from_slice_get xs i x x at in
    rw (each_from-drop f xs i x lt, e) (verdict-append-ok (f i x) _ ok)

-- the item at i has the first fault
pub verdict-here : {X E : Type 0} (f : ℕ → X → List E) (xs : List X) (i : ℕ) (x : X) (fault : E) → slice_get xs i ≡ Some x → verdict (f i x) ≡ Err fault →
    verdict (each_from f i (drop i xs)) ≡ Err fault
verdict-here f xs i x fault at err =
    let lt = slice_get_within xs i x at in
    let e = get_or_from_slice_get xs i x x at in
    rw (each_from-drop f xs i x lt, e) (verdict-append-err (f i x) _ fault err)
