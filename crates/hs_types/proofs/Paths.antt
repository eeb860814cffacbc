-- Paths, and the marks of the vertices that reach one vertex, round by round.
use Rattle.std.proofs.Common.{ℕ, zero, suc, ◌+◌, ◌-◌, ◌<◌, ◌≤◌, ◌≡◌, ◌⊎◌, inl, inr, ◌↔◌, ◌||◌, ◌++◌, List, [], ◌∷◌, Bool, true, false, eqb, map, length, get_or, slice_get, IsSomeAnd, Option, Some, None, subst, refl, sym, ap, ◌∙◌, arith}
use Rattle.std.proofs.lemmas.Bool.{eqb-true, false≢true, or_left, or_right}
use Rattle.std.proofs.lemmas.List.{length-map}
use Rattle.std.proofs.lemmas.List.FromFn.{get_or-map-range_with_len, map-range_with_len_more}
use Rattle.std.specs.List.{list_any, range_with_len}
use Rattle.hs_expr.specs.Lists.{has}
use Rattle.hs_expr.proofs.Items.{one_passing}
use Rattle.hs_types.specs.Reachability.{HasEdge, Reaches, direct, by_way_of, reaching_within, reaches, is_or_reaches, reach_rows}

-- Marks that one more step leaves as they are stay so.
stay : (supers : List (List ℕ)) (d s j : ℕ) → reaching_within supers d (suc s) ≡ reaching_within supers d s → reaching_within supers d (j + s) ≡ reaching_within supers d s
stay supers d s zero e = let none : 0 + s ≡ s = omega arith in ap (reaching_within supers d) none
stay supers d s (suc j) e =
    let more : suc j + s ≡ suc (j + s) = omega arith in
    ap (reaching_within supers d) more ∙ ap (λ marks. map (list_any (is_or_reaches d marks)) supers) (stay supers d s j e) ∙ e

pub stays_to_the_end : (supers : List (List ℕ)) (d s n : ℕ) → reaching_within supers d (suc s) ≡ reaching_within supers d s → s ≤ n → reaching_within supers d n ≡ reaching_within supers d s
stays_to_the_end supers d s n e h =
    let whole : (n - s) + s ≡ n = omega arith in
    ap (reaching_within supers d) (sym whole) ∙ stay supers d s (n - s) e

-- What is marked here is marked there.
abbrev Inside : List Bool → List Bool → Type 0
Inside [] [] = Unit {0}
Inside (x ∷ xs) (y ∷ ys) = (x ≡ true → y ≡ true) × Inside xs ys
Inside [] (y ∷ ys) = ⊥
Inside (x ∷ xs) [] = ⊥

inside_map : {X : Type 0} (p q : X → Bool) (xs : List X) → ((x : X) → p x ≡ true → q x ≡ true) → Inside (map p xs) (map q xs)
inside_map p q [] h = tt
inside_map p q (x ∷ xs) h = (h x, inside_map p q xs h)

inside_at : (xs ys : List Bool) (i : ℕ) → Inside xs ys → get_or xs i false ≡ true → get_or ys i false ≡ true
inside_at [] [] i h e = e
inside_at (x ∷ xs) (y ∷ ys) zero h e = h.0 e
inside_at (x ∷ xs) (y ∷ ys) (suc i) h e = inside_at xs ys i h.1 e
inside_at [] (y ∷ ys) i h e = absurd h
inside_at (x ∷ xs) [] i h e = absurd h

either : (a b c : Bool) → (b ≡ true → c ≡ true) → (a || b) ≡ true → (a || c) ≡ true
either true b c h e = refl
either false b c h e = h e

any_more : (p q : ℕ → Bool) (ns : List ℕ) → ((n : ℕ) → p n ≡ true → q n ≡ true) → list_any p ns ≡ true → list_any q ns ≡ true
any_more p q [] h e = e
any_more p q (n ∷ ns) h e = both (p n) (q n) (list_any p ns) (list_any q ns) (h n) (any_more p q ns h) e
  where
    both : (a b s t : Bool) → (a ≡ true → b ≡ true) → (s ≡ true → t ≡ true) → (a || s) ≡ true → (b || t) ≡ true
    both true true s t h k e = refl
    both true false s t h k e = absurd (false≢true (h refl))
    both false true s t h k e = refl
    both false false s t h k e = k e

one_more : (supers : List (List ℕ)) (d s : ℕ) → Inside (reaching_within supers d s) (reaching_within supers d (suc s))
one_more supers d zero = inside_map (λ numbers. false) (list_any (is_or_reaches d (reaching_within supers d zero))) supers (λ numbers e. absurd (false≢true e))
one_more supers d (suc s) =
    inside_map (list_any (is_or_reaches d (reaching_within supers d s))) (list_any (is_or_reaches d (reaching_within supers d (suc s)))) supers
    (λ numbers. any_more (is_or_reaches d (reaching_within supers d s)) (is_or_reaches d (reaching_within supers d (suc s))) numbers
    (λ n. either (eqb d n) (get_or (reaching_within supers d s) n false) (get_or (reaching_within supers d (suc s)) n false)
    (inside_at (reaching_within supers d s) (reaching_within supers d (suc s)) n (one_more supers d s))))

-- How many marks there are.
abbrev marked : List Bool → ℕ
marked [] = 0
marked (true ∷ xs) = suc (marked xs)
marked (false ∷ xs) = marked xs

marked-length : (xs : List Bool) → marked xs ≤ length xs
marked-length [] = omega arith
marked-length (true ∷ xs) = let h = marked-length xs in omega arith
marked-length (false ∷ xs) = let h = marked-length xs in omega arith

same_or_more : (xs ys : List Bool) → Inside xs ys → (xs ≡ ys) ⊎ (marked xs < marked ys)
same_or_more [] [] h = inl refl
same_or_more (x ∷ xs) (y ∷ ys) h = go x y h.0 (same_or_more xs ys h.1)
  where
    go : (x y : Bool) → (x ≡ true → y ≡ true) → (xs ≡ ys) ⊎ (marked xs < marked ys) → ((x ∷ xs) ≡ (y ∷ ys)) ⊎ (marked (x ∷ xs) < marked (y ∷ ys))
    go true true k (inl e) = inl (ap (λ zs. true ∷ zs) e)
    go true true k (inr l) = inr (omega arith)
    go true false k r = absurd (false≢true (k refl))
    go false true k (inl e) = inr (let c : marked xs ≡ marked ys = ap marked e in omega arith)
    go false true k (inr l) = inr (omega arith)
    go false false k (inl e) = inl (ap (λ zs. false ∷ zs) e)
    go false false k (inr l) = inr l
same_or_more [] (y ∷ ys) h = absurd h
same_or_more (x ∷ xs) [] h = absurd h

-- After n steps either nothing changes any more, or there are at least n marks.
still_or_many : (supers : List (List ℕ)) (d s : ℕ) → (reaching_within supers d (suc s) ≡ reaching_within supers d s) ⊎ (s ≤ marked (reaching_within supers d s))
still_or_many supers d zero = inr (omega arith)
still_or_many supers d (suc s) = go (still_or_many supers d s) (same_or_more (reaching_within supers d s) (reaching_within supers d (suc s)) (one_more supers d s))
  where
    go : (reaching_within supers d (suc s) ≡ reaching_within supers d s) ⊎ (s ≤ marked (reaching_within supers d s)) → (reaching_within supers d s ≡ reaching_within supers d (suc s)) ⊎ (marked (reaching_within supers d s) < marked (reaching_within supers d (suc s))) → (reaching_within supers d (suc (suc s)) ≡ reaching_within supers d (suc s)) ⊎ (suc s ≤ marked (reaching_within supers d (suc s)))
    go (inl e) r = inl (ap (λ marks. map (list_any (is_or_reaches d marks)) supers) e)
    go (inr m) (inl e) = inl (ap (λ marks. map (list_any (is_or_reaches d marks)) supers) (sym e))
    go (inr m) (inr l) = inr (omega arith)

-- After as many steps as there are classes nothing changes any more.
still : (supers : List (List ℕ)) (d : ℕ) → reaching_within supers d (suc (length supers)) ≡ reaching_within supers d (length supers)
still supers d = go (still_or_many supers d (length supers)) (same_or_more (reaching_within supers d (length supers)) (reaching_within supers d (suc (length supers))) (one_more supers d (length supers)))
  where
    full : marked (reaching_within supers d (suc (length supers))) ≤ length supers
    full = let a = marked-length (reaching_within supers d (suc (length supers))) in
        let b = length-map supers (list_any (is_or_reaches d (reaching_within supers d (length supers)))) in omega arith

    go : (reaching_within supers d (suc (length supers)) ≡ reaching_within supers d (length supers)) ⊎ (length supers ≤ marked (reaching_within supers d (length supers))) → (reaching_within supers d (length supers) ≡ reaching_within supers d (suc (length supers))) ⊎ (marked (reaching_within supers d (length supers)) < marked (reaching_within supers d (suc (length supers)))) → reaching_within supers d (suc (length supers)) ≡ reaching_within supers d (length supers)
    go (inl e) r = e
    go (inr m) (inl e) = sym e
    go (inr m) (inr l) = let f = full in absurd (omega arith)

-- A test of the numbers at a place.
test_at : (p q : List ℕ → Bool) (supers : List (List ℕ)) (c : ℕ) → ((numbers : List ℕ) → q numbers ≡ true → p numbers ≡ true) → IsSomeAnd (slice_get supers c) (λ numbers. q numbers ≡ true) → get_or (map p supers) c false ≡ true
test_at p q [] c h is = absurd is
test_at p q (numbers ∷ supers) zero h is = h numbers is
test_at p q (numbers ∷ supers) (suc c) h is = test_at p q supers c h is

numbers_at : (p : List ℕ → Bool) (supers : List (List ℕ)) (c : ℕ) → get_or (map p supers) c false ≡ true → IsSomeAnd (slice_get supers c) (λ numbers. p numbers ≡ true)
numbers_at p [] c e = absurd (false≢true e)
numbers_at p (numbers ∷ supers) zero e = e
numbers_at p (numbers ∷ supers) (suc c) e = numbers_at p supers c e

weaker_at : (supers : List (List ℕ)) (c : ℕ) (p q : List ℕ → Bool) → ((numbers : List ℕ) → p numbers ≡ true → q numbers ≡ true) → IsSomeAnd (slice_get supers c) (λ numbers. p numbers ≡ true) → IsSomeAnd (slice_get supers c) (λ numbers. q numbers ≡ true)
weaker_at [] c p q h is = is
weaker_at (numbers ∷ supers) zero p q h is = h numbers is
weaker_at (numbers ∷ supers) (suc c) p q h is = weaker_at supers c p q h is

-- One of the numbers is d: then one leads to it.
leads_direct : (d : ℕ) (marks : List Bool) (ns : List ℕ) → has ns d ≡ true → list_any (is_or_reaches d marks) ns ≡ true
leads_direct d marks ns = any_more (eqb d) (is_or_reaches d marks) ns (λ n. or_left (eqb d n) (get_or marks n false))

-- One of the numbers is marked.
leads_marked : (d s : ℕ) (marks : List Bool) → get_or marks s false ≡ true → (ns : List ℕ) → has ns s ≡ true → list_any (is_or_reaches d marks) ns ≡ true
leads_marked d s marks m ns = any_more (eqb s) (is_or_reaches d marks) ns (λ n e. or_right (eqb d n) (get_or marks n false) (ap (λ k. get_or marks k false) (sym (eqb-true s n e)) ∙ m))

-- Every class that is below class d gets its mark.
reached_marked : (supers : List (List ℕ)) (c d : ℕ) → Reaches supers c d → get_or (reaching_within supers d (length supers)) c false ≡ true
reached_marked supers c d (direct _ _ is) =
    ap (λ marks. get_or marks c false) (sym (still supers d)) ∙ test_at (list_any (is_or_reaches d (reaching_within supers d (length supers)))) (λ numbers. has numbers d) supers c (leads_direct d (reaching_within supers d (length supers))) is
reached_marked supers c e (by_way_of _ d _ is below) =
    ap (λ marks. get_or marks c false) (sym (still supers e)) ∙ test_at (list_any (is_or_reaches e (reaching_within supers e (length supers)))) (λ numbers. has numbers d) supers c (leads_marked e d (reaching_within supers e (length supers)) (reached_marked supers d e below)) is

no_marks_at : (supers : List (List ℕ)) (c : ℕ) → get_or (map (λ numbers. false) supers) c false ≡ true → ⊥
no_marks_at [] c e = false≢true e
no_marks_at (numbers ∷ supers) zero e = false≢true e
no_marks_at (numbers ∷ supers) (suc c) e = no_marks_at supers c e

some_numbers : (found : Option (List ℕ)) (p : List ℕ → Bool) → IsSomeAnd found (λ numbers. p numbers ≡ true) → (numbers : List ℕ) × (found ≡ Some numbers) × (p numbers ≡ true)
some_numbers None p is = absurd is
some_numbers (Some numbers) p is = (numbers, refl, is)

extends : (supers : List (List ℕ)) (c d : ℕ) (numbers : List ℕ) → slice_get supers c ≡ Some numbers → has numbers d ≡ true → HasEdge supers c d
extends supers c d numbers at is = rw at is

-- Only a class that is below class d gets a mark.
marked_reached : (supers : List (List ℕ)) (d s c : ℕ) → get_or (reaching_within supers d s) c false ≡ true → Reaches supers c d
marked_reached supers d zero c e = absurd (no_marks_at supers c e)
marked_reached supers d (suc s) c e =
    let here = some_numbers (slice_get supers c) (list_any (is_or_reaches d (reaching_within supers d s))) (numbers_at (list_any (is_or_reaches d (reaching_within supers d s))) supers c e) in
    let found = one_passing (is_or_reaches d (reaching_within supers d s)) here.0 here.2 in
    go found.0 (extends supers c found.0 here.0 here.1 found.1) (marked_reached supers d s found.0) (eqb d found.0) refl found.2
  where
    go : (n : ℕ) → HasEdge supers c n → (get_or (reaching_within supers d s) n false ≡ true → Reaches supers n d) → (b : Bool) → eqb d n ≡ b → (b || get_or (reaching_within supers d s) n false) ≡ true → Reaches supers c d
    go n is later true same e = direct c d (subst (λ k. HasEdge supers c k) (sym (eqb-true d n same)) is)
    go n is later false same e = by_way_of c n d is (later e)

pub row_at : (supers : List (List ℕ)) (c d : ℕ) → d < length supers → get_or (get_or (reach_rows supers) d []) c false ≡ reaches supers c d
row_at supers c d h = ap (λ row. get_or row c false) (get_or-map-range_with_len (λ k. reaching_within supers k (length supers)) 0 (length supers) d d [] h (omega arith))

pub says_reaches : (supers : List (List ℕ)) (c d : ℕ) → (reaches supers c d ≡ true) ↔ Reaches supers c d
says_reaches supers c d = (marked_reached supers d (length supers) c, reached_marked supers c d)

-- One more row at the end.
pub one_row_more : {X : Type 0} (f : ℕ → X) (n : ℕ) → map f (range_with_len 0 (n + 1)) ≡ map f (range_with_len 0 n) ++ f n ∷ []
one_row_more f n = map-range_with_len_more f 0 n n (omega arith)
