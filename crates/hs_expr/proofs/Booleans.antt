-- Lemmas on truth values beside std's.
use Rattle.std.proofs.Common.{◌≡◌, ◌&&◌, Bool, true, false, refl, sym}

pub and-true_right : (a b : Bool) → b ≡ true → (a && b) ≡ a
and-true_right true b e = e
and-true_right false b e = refl

-- Two tests that are true together are the same.
pub same_test : (a b : Bool) → (a ≡ true → b ≡ true) → (b ≡ true → a ≡ true) → a ≡ b
same_test true b f g = sym (f refl)
same_test false true f g = g refl
same_test false false f g = refl
