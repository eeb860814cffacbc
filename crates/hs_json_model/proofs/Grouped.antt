-- Items that are in the order of their keys, grouped by key.
use Rattle.std.proofs.Common.{ℕ, ◌≡◌, ◌⊎◌, inl, inr, ◌||◌, ◌++◌, List, [], ◌∷◌, Bool, true, false, not, cond, eqb, refl, ap, sym, ◌∙◌, subst}
use Rattle.std.proofs.lemmas.Bool.{eqb-true, eq-eqb, false≢true, ne_eqb}
use Rattle.std.proofs.lemmas.List.Elements.{All-head, All-tail, All-weaker}
use Rattle.std.specs.List.{All, filter, flat_map}
use Rattle.hs_expr.specs.Lists.{Differ, EachPair, has}
use Rattle.hs_expr.proofs.Lists.{All-has, All-kept, EachPair-filter, EachPair-known, flat_map-same, has_cases}

none_pass : {A : Type 0} (p : A → Bool) (xs : List A) → All (λ x. p x ≡ false) xs → filter p xs ≡ []
none_pass p [] all = refl
none_pass p (x ∷ xs) all = rw (All-head (λ x. p x ≡ false) x xs all) (none_pass p xs (All-tail (λ x. p x ≡ false) x xs all))

all_pass : {A : Type 0} (p : A → Bool) (xs : List A) → All (λ x. p x ≡ false) xs → filter (λ x. not (p x)) xs ≡ xs
all_pass p [] all = refl
all_pass {A} p (x ∷ xs) all = rw (All-head (λ x. p x ≡ false) x xs all) (ap (λ (ys : List A). x ∷ ys) (all_pass p xs (All-tail (λ x. p x ≡ false) x xs all)))

fails_too : (a b : Bool) → (b ≡ true → a ≡ true) → a ≡ false → b ≡ false
fails_too a true h e = absurd (false≢true (sym e ∙ h refl))
fails_too a false h e = refl

-- Those that pass, and then the others, where none that passes follows one of the others.
parted : {A : Type 0} (p : A → Bool) (xs : List A) → EachPair (λ x y. p y ≡ true → p x ≡ true) xs → filter p xs ++ filter (λ x. not (p x)) xs ≡ xs
parted p [] pairs = refl
parted {A} p (x ∷ xs) pairs = go (p x) refl (parted p xs pairs.1)
  where
    go : (b : Bool) → p x ≡ b → filter p xs ++ filter (λ x. not (p x)) xs ≡ xs → cond b (x ∷ filter p xs) (filter p xs) ++ cond (not b) (x ∷ filter (λ x. not (p x)) xs) (filter (λ x. not (p x)) xs) ≡ x ∷ xs
    go true e rest = ap (λ (ys : List A). x ∷ ys) rest
    go false e rest =
        let none : All (λ y. p y ≡ false) xs = All-weaker (λ y. p y ≡ true → p x ≡ true) (λ y. p y ≡ false) (λ y h. fails_too (p x) (p y) h e) xs pairs.0 in
        ap (λ (ys : List A). ys ++ x ∷ filter (λ x. not (p x)) xs) (none_pass p xs none) ∙ ap (λ (ys : List A). x ∷ ys) (all_pass p xs none)

-- Those of another key are among those that don't have this one.
kept_apart : {A : Type 0} (key : A → ℕ) (n k : ℕ) (xs : List A) → (n ≡ k → ⊥) → filter (λ x. eqb (key x) k) xs ≡ filter (λ x. eqb (key x) k) (filter (λ x. not (eqb (key x) n)) xs)
kept_apart key n k [] apart = refl
kept_apart {A} key n k (x ∷ xs) apart = go (eqb (key x) n) refl (kept_apart key n k xs apart)
  where
    others : List A
    others = filter (λ x. not (eqb (key x) n)) xs

    go : (b : Bool) → eqb (key x) n ≡ b → filter (λ x. eqb (key x) k) xs ≡ filter (λ x. eqb (key x) k) others →
        filter (λ x. eqb (key x) k) (x ∷ xs) ≡ filter (λ x. eqb (key x) k) (cond (not b) (x ∷ others) others)
    go true e rest = rw (ne_eqb (key x) k (λ s. apart (sym (eqb-true (key x) n e) ∙ s))) rest
    go false e rest = ap (cond_front (eqb (key x) k)) rest
      where
        cond_front : Bool → List A → List A
        cond_front b ys = cond b (x ∷ ys) ys

other : (a b : Bool) → (a || b) ≡ true → not a ≡ true → b ≡ true
other true b h e = absurd (false≢true e)
other false b h e = h

-- Where items are in the order of their keys, key after key they are the same.
pub grouped : {A : Type 0} (R : ℕ → ℕ → Type 0) (key : A → ℕ) (ns : List ℕ) (xs : List A) → Differ ns → EachPair (λ n k. R k n → ⊥) ns → All (λ x. has ns (key x) ≡ true) xs → EachPair (λ x y. R (key x) (key y)) xs →
    flat_map (λ n. filter (λ x. eqb (key x) n) xs) ns ≡ xs
grouped R key [] [] d r all pairs = refl
grouped R key [] (x ∷ xs) d r all pairs = absurd (false≢true (All-head (λ x. has [] (key x) ≡ true) x xs all))
grouped {A} R key (n ∷ ns) xs d r all pairs =
    let others = filter (λ x. not (eqb (key x) n)) xs in
    ap (λ (ys : List A). filter (λ x. eqb (key x) n) xs ++ ys)
    (flat_map-same (λ k. filter (λ x. eqb (key x) k) xs) (λ k. filter (λ x. eqb (key x) k) others) ns
    (All-weaker (λ k. n ≡ k → ⊥) (λ k. filter (λ x. eqb (key x) k) xs ≡ filter (λ x. eqb (key x) k) others) (λ k apart. kept_apart key n k xs apart) ns d.0)
    ∙ grouped R key ns others d.1 r.1
    (All-kept (λ x. has (n ∷ ns) (key x) ≡ true) (λ x. has ns (key x) ≡ true) (λ x. not (eqb (key x) n)) xs (λ x e h. other (eqb (key x) n) (has ns (key x)) h e) all)
    (EachPair-filter (λ x y. R (key x) (key y)) (λ x. not (eqb (key x) n)) xs pairs))
    ∙ parted (λ x. eqb (key x) n) xs
    (EachPair-known (λ x. has (n ∷ ns) (key x) ≡ true) (λ x y. R (key x) (key y)) (λ x y. eqb (key y) n ≡ true → eqb (key x) n ≡ true) first xs all pairs)
  where
    first : (x y : A) → has (n ∷ ns) (key x) ≡ true → has (n ∷ ns) (key y) ≡ true → R (key x) (key y) → eqb (key y) n ≡ true → eqb (key x) n ≡ true
    first x y h k before e = go (has_cases (key x) n ns h)
      where
        go : (key x ≡ n) ⊎ (has ns (key x) ≡ true) → eqb (key x) n ≡ true
        go (inl s) = eq-eqb (key x) n s
        go (inr l) = absurd (All-has (λ k. R k n → ⊥) ns (key x) r.0 l (subst (R (key x)) (eqb-true (key y) n e) before))
