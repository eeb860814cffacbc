use Rattle.std.proofs.Common.{ℕ, ◌+◌, ◌<◌, ◌≤◌, ◌≡◌, ◌++◌, List, [], ◌∷◌, Some, Ok, length, take, drop, min, refl, sym, arith}
use Rattle.std.proofs.lemmas.List.{take-append-drop, drop-drop, take_at, length-take-le}

-- What was put at the front of a buffer, with what is left, is what was left before.
pub front_and_rest : (n : ℕ) (left into : List ℕ) → n ≤ length left → left ≡ take n (take n left ++ into) ++ drop n left
front_and_rest n left into h =
    sym (rw (take_at (take n left) into n (length-take-le n left h)) (take-append-drop n left))

-- Where nothing was handed out into a buffer with room, nothing is left.
pub none_left : (n piece : ℕ) (into left : List ℕ) → 1 ≤ piece → n ≡ min (min piece (length into)) (length left) → n ≡ 0 → 0 < length into → drop n left ≡ []
none_left n piece into [] a b c d = rw c refl
none_left n piece into (x ∷ left) a b c d = absurd (omega arith)

pub ruleset handing = (front_and_rest, none_left, drop-drop)
