-- Numbers that are written in decimal.
use Rattle.std.proofs.Common.{ℕ, ◌+◌, ◌-◌, ◌*◌, ◌<◌, ◌≡◌, min, List, [], ◌∷◌, length, get_or, drop, ap, sym, ◌∙◌, arith}
use Rattle.std.proofs.lemmas.Int.{clamps}
use Rattle.std.proofs.lemmas.List.{drop_more}
use Rattle.hs_graph.specs.Names.{number_after}

twice_capped : (n : ℕ) → min 3000000001 (min 3000000001 n) ≡ min 3000000001 n
twice_capped n = omega (arith, clamps)

digit_capped : (n d : ℕ) → min 3000000001 (min 3000000001 n * 10 + d) ≡ min 3000000001 (n * 10 + d)
digit_capped n d = omega (arith, clamps)

-- A number that is capped before its last digits is the same.
pub capped_first : (n : ℕ) (bs : List ℕ) → min 3000000001 (number_after (min 3000000001 n) bs) ≡ min 3000000001 (number_after n bs)
capped_first n [] = twice_capped n
capped_first n (b ∷ bs) =
    sym (capped_first (min 3000000001 n * 10 + (b - 48)) bs)
    ∙ ap (λ k. min 3000000001 (number_after k bs)) (digit_capped n (b - 48))
    ∙ capped_first (n * 10 + (b - 48)) bs

pub capped_more : (ds : List ℕ) (i n r k : ℕ) → i < length ds → r ≡ min 3000000001 (n * 10 + (get_or ds i 0 - 48)) →
    min 3000000001 (number_after n (drop i ds)) ≡ k → min 3000000001 (number_after r (drop (i + 1) ds)) ≡ k
capped_more ds i n r k h is left =
    ap (λ j. min 3000000001 (number_after j (drop (i + 1) ds))) is
    ∙ capped_first (n * 10 + (get_or ds i 0 - 48)) (drop (i + 1) ds)
    ∙ ap (λ bs. min 3000000001 (number_after n bs)) (sym (drop_more ds i 0 h))
    ∙ left
