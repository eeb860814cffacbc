-- Names `#k` and the numbers that they count.
use Rattle.std.proofs.Common.{ℕ, zero, suc, ◌+◌, ◌-◌, ◌*◌, ◌/◌, ◌%◌, ◌<◌, ◌≤◌, ◌≡◌, ◌&&◌, ◌++◌, ◌==◌, List, [], ◌∷◌, Bool, true, false, not, map, get_or, Some, None, refl, ap, sym, ◌∙◌, subst, arith, rules, append-nil, append_assoc, if◌then◌else◌}
use Rattle.std.proofs.lemmas.Bool.{false≢true, and_parts, and_from}
use Rattle.std.proofs.lemmas.Int.Digits.{all_below_base_digits_of, digits_of_step, first_digits_of, number_digits_of}
use Rattle.std.proofs.lemmas.Option.{none-some, same_Some}
use Rattle.std.specs.Int.Digits.{AllBelowBase, digits_of, number_from_digits_after}
use Rattle.std.specs.List.{list_all}
use Rattle.hs_types.specs.TypedGraph.{hash_name}
use Rattle.hs_graph.specs.Names.{begins_decimal, hash_number, is_decimal, is_decimal_digit, number_after}

-- ---- from a number to its name and back

back_to_digit : (n d : ℕ) → n * 10 + (48 + d - 48) ≡ n * 10 + d
back_to_digit n d = omega arith

number-shown : (n : ℕ) (ds : List ℕ) → number_after n (map (λ d. 48 + d) ds) ≡ number_from_digits_after 10 n ds
number-shown n [] = refl
number-shown n (d ∷ ds) = ap (λ k. number_after k (map (λ d. 48 + d) ds)) (back_to_digit n d) ∙ number-shown (n * 10 + d) ds

digit-shown : (d : ℕ) → d < 10 → is_decimal_digit (48 + d) ≡ true
digit-shown d h = grind (arith, rules)

digits-shown : (ds : List ℕ) → AllBelowBase 10 ds → list_all is_decimal_digit (map (λ d. 48 + d) ds) ≡ true
digits-shown [] below = refl
digits-shown (d ∷ ds) below = rw (digit-shown d below.0) (digits-shown ds below.1)

not_zero : (d : ℕ) → 0 < d → not (48 + d == 48) ≡ true
not_zero d h = grind (arith, rules)

begins-shown : (ds : List ℕ) → 0 < get_or ds 0 0 → begins_decimal (map (λ d. 48 + d) ds) ≡ true
begins-shown [] h = absurd (let e : 0 < 0 = h in omega arith)
begins-shown (d ∷ []) h = refl
begins-shown (d ∷ e ∷ ds) h = not_zero d h

counted : (digits : List ℕ) (k : ℕ) → is_decimal digits ≡ true → number_after 0 digits ≡ k → hash_number (35 ∷ digits) ≡ Some k
counted digits k is e = rw is (ap Some e)

pub number-of_hash : (k : ℕ) → hash_number (hash_name k) ≡ Some k
number-of_hash zero = refl
number-of_hash (suc k) =
    let ds = digits_of 10 (suc k) in
    counted (map (λ d. 48 + d) ds) (suc k)
    (and_from (begins_decimal (map (λ d. 48 + d) ds)) (list_all is_decimal_digit (map (λ d. 48 + d) ds))
    (begins-shown ds (first_digits_of 10 (suc k) (omega arith) (omega arith)))
    (digits-shown ds (all_below_base_digits_of 10 (suc k) (omega arith))))
    (number-shown 0 ds ∙ number_digits_of 10 (suc k) (omega arith))

-- ---- from a name to its number and back

digit-bounds : (b : ℕ) → is_decimal_digit b ≡ true → (48 ≤ b) × (b ≤ 57)
digit-bounds b e = (grind (arith, rules), grind (arith, rules))

tens : (n d : ℕ) → d < 10 → (n * 10 + d) / 10 ≡ n
tens n d h = omega arith

ones : (n d : ℕ) → d < 10 → (n * 10 + d) % 10 ≡ d
ones n d h = omega arith

-- One digit more.
digits-more : (n d : ℕ) → d < 10 → 0 < n * 10 + d → digits_of 10 (n * 10 + d) ≡ digits_of 10 n ++ d ∷ []
digits-more n d h pos =
    digits_of_step 10 (n * 10 + d) (omega arith) pos
    ∙ ap (λ k. digits_of 10 k ++ ((n * 10 + d) % 10) ∷ []) (tens n d h)
    ∙ ap (λ k. digits_of 10 n ++ k ∷ []) (ones n d h)

digits-written : (n : ℕ) (bs : List ℕ) → 0 < n → list_all is_decimal_digit bs ≡ true → digits_of 10 (number_after n bs) ≡ digits_of 10 n ++ map (λ b. b - 48) bs
digits-written n [] pos all = sym (append-nil (digits_of 10 n))
digits-written n (b ∷ bs) pos all =
    let parts = and_parts (is_decimal_digit b) (list_all is_decimal_digit bs) all in
    let bounds = digit-bounds b parts.0 in
    digits-written (n * 10 + (b - 48)) bs (omega arith) parts.1
    ∙ ap (λ ds. ds ++ map (λ b. b - 48) bs) (digits-more n (b - 48) (omega (arith, bounds.0, bounds.1)) (omega arith))
    ∙ append_assoc (digits_of 10 n) ((b - 48) ∷ []) (map (λ b. b - 48) bs)

shown-again : (bs : List ℕ) → list_all is_decimal_digit bs ≡ true → map (λ d. 48 + d) (map (λ b. b - 48) bs) ≡ bs
shown-again [] all = refl
shown-again (b ∷ bs) all =
    let parts = and_parts (is_decimal_digit b) (list_all is_decimal_digit bs) all in
    let bounds = digit-bounds b parts.0 in
    let same : 48 + (b - 48) ≡ b = omega (arith, bounds.0) in
    ap (λ d. d ∷ map (λ d. 48 + d) (map (λ b. b - 48) bs)) same ∙ ap (λ ds. b ∷ ds) (shown-again bs parts.1)

number-grows : (n : ℕ) (bs : List ℕ) → n ≤ number_after n bs
number-grows n [] = omega arith
number-grows n (b ∷ bs) = let more = number-grows (n * 10 + (b - 48)) bs in omega (arith, more)

hash-positive : (k : ℕ) → 0 < k → hash_name k ≡ 35 ∷ map (λ d. 48 + d) (digits_of 10 k)
hash-positive zero h = absurd (omega arith)
hash-positive (suc k) h = refl

-- Digits of which the first isn't 0.
written-positive : (d : ℕ) (bs : List ℕ) → 48 < d → list_all is_decimal_digit (d ∷ bs) ≡ true → 35 ∷ d ∷ bs ≡ hash_name (number_after 0 (d ∷ bs))
written-positive d bs h all =
    let parts = and_parts (is_decimal_digit d) (list_all is_decimal_digit bs) all in
    let bounds = digit-bounds d parts.0 in
    let first = 0 * 10 + (d - 48) in
    let pos : 0 < first = omega (arith, h) in
    let grows = number-grows first bs in
    let digits : digits_of 10 (number_after first bs) ≡ map (λ b. b - 48) (d ∷ bs) =
    digits-written first bs pos parts.1 ∙ ap (λ ds. ds ++ map (λ b. b - 48) bs) (digits-more 0 (d - 48) (omega (arith, bounds.0, bounds.1)) pos) in
    ap (λ ds. 35 ∷ ds) (sym (shown-again (d ∷ bs) all) ∙ ap (map (λ d. 48 + d)) (sym digits))
    ∙ sym (hash-positive (number_after first bs) (omega (arith, pos, grows)))

above_zero : (d : ℕ) → is_decimal_digit d ≡ true → not (d == 48) ≡ true → 48 < d
above_zero d e f = let bounds = digit-bounds d e in grind (arith, rules)

-- The digits of a number are those of its name.
decimal-shown : (digits : List ℕ) → is_decimal digits ≡ true → 35 ∷ digits ≡ hash_name (number_after 0 digits)
decimal-shown [] is = absurd (false≢true is)
decimal-shown (d ∷ []) is = go (d == 48) refl
  where
    go : (zero_is : Bool) → (d == 48) ≡ zero_is → 35 ∷ d ∷ [] ≡ hash_name (number_after 0 (d ∷ []))
    go true e = let same : d ≡ 48 = grind (arith, rules) in subst (λ b. 35 ∷ b ∷ [] ≡ hash_name (number_after 0 (b ∷ []))) (sym same) refl
    go false e = written-positive d [] (above_zero d (and_parts (is_decimal_digit d) true is).0 (ap not e)) is
decimal-shown (d ∷ e ∷ ds) is =
    let parts = and_parts (not (d == 48)) (list_all is_decimal_digit (d ∷ e ∷ ds)) is in
    written-positive d (e ∷ ds) (above_zero d (and_parts (is_decimal_digit d) (list_all is_decimal_digit (e ∷ ds)) parts.1).0 parts.0) parts.1

pub name-of_hash : (name : List ℕ) (k : ℕ) → hash_number name ≡ Some k → name ≡ hash_name k
name-of_hash [] k e = absurd (none-some k e)
name-of_hash (b ∷ digits) k e = go (b == 35 && is_decimal digits) refl e
  where
    go : (test : Bool) → (b == 35 && is_decimal digits) ≡ test → (if test then Some (number_after 0 digits) else None) ≡ Some k → b ∷ digits ≡ hash_name k
    go false t f = absurd (none-some k f)
    go true t f =
        let parts = and_parts (b == 35) (is_decimal digits) t in
        let first : b ≡ 35 = let test = parts.0 in grind (arith, rules) in
        ap (λ c. c ∷ digits) first ∙ decimal-shown digits parts.1 ∙ ap hash_name (same_Some (number_after 0 digits) k f)
