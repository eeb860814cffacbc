use Rattle.std.proofs.Common.{ℕ, ◌+◌, ◌/◌, ◌%◌, ◌<◌, ◌≡◌, ◌==◌, List, [], ◌∷◌, ◌++◌, Bool, true, false, cond, codes, nat_lt, refl, ap, sym, ◌∙◌, arith}
use Rattle.std.specs.List.{AllByRecursion, flat_map}
use Rattle.std.specs.Char.{encode_utf8}
use Rattle.std.proofs.lemmas.Str.{encode_ascii}
use Rattle.std.proofs.lemmas.Bool.Decides.{nat_tests}
use Rattle.hs_text.specs.Canonical.{escape}

-- other characters than the four that have an escape are written as they are
pub plain : (c : ℕ) → (c == 34) ≡ false → (c == 92) ≡ false → (c == 10) ≡ false → (c == 9) ≡ false → escape c ≡ c ∷ []
plain c p q r s = step (c == 34) (c == 92) (c == 10) (c == 9) p q r s where
  step : (x y z w : Bool) → x ≡ false → y ≡ false → z ≡ false → w ≡ false → cond x (codes "\\\"") (cond y (codes "\\\\") (cond z (codes "\\n") (cond w (codes "\\t") (c ∷ [])))) ≡ c ∷ []
  step true y z w p q r s = cc
  step false true z w p q r s = cc
  step false false true w p q r s = cc
  step false false false true p q r s = cc
  step false false false false p q r s = refl

above : (c k : ℕ) → k < c → (c == k) ≡ false
above c k h = grind (arith, nat_tests)

high-plain : (c : ℕ) → 127 < c → escape c ≡ c ∷ []
high-plain c h = plain c (above c 34 (omega arith)) (above c 92 (omega arith)) (above c 10 (omega arith)) (above c 9 (omega arith))

high-same : (bs : List ℕ) → AllByRecursion (λ b. 127 < b) bs → flat_map escape bs ≡ bs
high-same [] h = refl
high-same (b ∷ bs) h = ap (λ x. x ++ flat_map escape bs) (high-plain b h.0) ∙ ap (λ x. b ∷ x) (high-same bs h.1)

abbrev next : ℕ → ℕ
next bits = 128 + bits % 64

encoded-high : (c : ℕ) → 127 < c → AllByRecursion (λ b. 127 < b) (encode_utf8 c)
unfolding encode_utf8
encoded-high c h = step (nat_lt c 128) (nat_lt c 2048) (nat_lt c 65536) (grind (arith, nat_tests)) where
  step : (x y z : Bool) → x ≡ false → AllByRecursion (λ b. 127 < b) (cond x (c ∷ []) (cond y ((192 + c / 64) ∷ next c ∷ []) (cond z ((224 + c / 4096) ∷ next (c / 64) ∷ next c ∷ []) ((240 + c / 262144) ∷ next (c / 4096) ∷ next (c / 64) ∷ next c ∷ []))))
  step true y z e = cc
  step false true z e = (omega arith, (omega arith, tt))
  step false false true e = (omega arith, (omega arith, (omega arith, tt)))
  step false false false e = (omega arith, (omega arith, (omega arith, (omega arith, tt))))

differs : (c k : ℕ) → (c ≡ k → ⊥) → (c == k) ≡ false
differs c k h = grind (arith, nat_tests)

pub as-it-is : (c : ℕ) → (c ≡ 34 → ⊥) → (c ≡ 92 → ⊥) → (c ≡ 10 → ⊥) → (c ≡ 9 → ⊥) → flat_map escape (encode_utf8 c) ≡ encode_utf8 c
as-it-is c p q r s = step (nat_lt c 128) refl where
  step : (x : Bool) → nat_lt c 128 ≡ x → flat_map escape (encode_utf8 c) ≡ encode_utf8 c
  step true e = let one : encode_utf8 c ≡ c ∷ [] = encode_ascii c (grind (arith, nat_tests)) in ap (flat_map escape) one ∙ ap (λ x. x ++ []) (plain c (differs c 34 p) (differs c 92 q) (differs c 10 r) (differs c 9 s)) ∙ sym one
  step false e = high-same (encode_utf8 c) (encoded-high c (grind (arith, nat_tests)))
