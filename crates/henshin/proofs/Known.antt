-- Bytes that are known to be written or read, one call after another.
use Rattle.std.proofs.Common.{ℕ, ◌+◌, ◌-◌, ◌≡◌, List, ◌++◌, length, take, drop, Option, Some, None, refl, ap, sym, ◌∙◌, append_assoc, [], ◌<◌, IfSome, arith, length-append}
use Rattle.std.proofs.lemmas.List.{take-append-drop, take_rest, append-nil}
use Rattle.std.specs.Io.KnownBytes.{Appends, Consumes, IsAtEnd}

pub appends_more : (a b c : Option (List ℕ)) (xs ys : List ℕ) → Appends a b xs → Appends b c ys → Appends a c (xs ++ ys)
appends_more None b c xs ys h k = tt
appends_more (Some x) None c xs ys h k = absurd h
appends_more (Some x) (Some y) None xs ys h k = absurd k
appends_more (Some x) (Some y) (Some z) xs ys h k = k ∙ ap (λ w. w ++ ys) h ∙ append_assoc x xs ys

pub consumes_more : (a b c : Option (List ℕ)) (xs ys : List ℕ) → Consumes a b xs → Consumes b c ys → Consumes a c (xs ++ ys)
consumes_more None b c xs ys h k = tt
consumes_more (Some x) None c xs ys h k = absurd h
consumes_more (Some x) (Some y) None xs ys h k = absurd k
consumes_more (Some x) (Some y) (Some z) xs ys h k = h ∙ ap (λ w. xs ++ w) k ∙ sym (append_assoc xs ys z)

-- What follows a prefix, cut once more.
pub cut : (front rest : List ℕ) (n : ℕ) → front ++ rest ≡ (front ++ take n rest) ++ take (length rest - n) (drop n rest)
cut front rest n = rw (take_rest rest n, append_assoc, take-append-drop n rest) refl

pub consumes_none : (a : Option (List ℕ)) (xs : List ℕ) → xs ≡ [] → Consumes a a xs
consumes_none None xs e = tt
consumes_none (Some x) xs e = rw e refl

-- Nothing more came, and nothing is left: what was read is the whole.
pub read_whole : (a b c : Option (List ℕ)) (xs ys : List ℕ) → Consumes a b xs → Consumes b c ys → ys ≡ [] → IsAtEnd c →
    IfSome a (λ bytes. (xs ≡ bytes) × (c ≡ Some []))
read_whole None b c xs ys h k e end = tt
read_whole (Some x) None c xs ys h k e end = absurd h
read_whole (Some x) (Some y) None xs ys h k e end = absurd k
read_whole (Some x) (Some y) (Some z) xs ys h k e end =
    let rest : y ≡ [] = k ∙ rw (e, end) refl in
    (sym (h ∙ ap (λ w. xs ++ w) rest ∙ append-nil xs), ap Some end)

-- What was read is more than this.
pub read_past : (a b c : Option (List ℕ)) (xs ys : List ℕ) (most : ℕ) → Consumes a b xs → Consumes b c ys → most < length xs + length ys →
    IfSome a (λ bytes. most < length bytes)
read_past None b c xs ys most h k past = tt
read_past (Some x) None c xs ys most h k past = absurd h
read_past (Some x) (Some y) None xs ys most h k past = absurd k
read_past (Some x) (Some y) (Some z) xs ys most h k past = omega (arith, ap length h, ap length k, length-append xs y, length-append ys z)
