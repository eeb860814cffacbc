-- A class that is below another has a higher rank.
use Rattle.std.proofs.Common.{ℕ, zero, suc, ◌<◌, ◌≤◌, ◌≡◌, inl, inr, List, [], ◌∷◌, Bool, true, false, not, cond, length, get_or, refl, ap, sym, ◌∙◌, arith}
use Rattle.std.proofs.lemmas.Bool.{false≢true, true≢false, cases_lt}
use Rattle.std.proofs.lemmas.List.{get_or-map, get_or_past, length-map}
use Rattle.std.proofs.lemmas.List.FromFn.{get_or-map-range_with_len, length-map-range_with_len}
use Rattle.std.proofs.lemmas.List.Sums.{sum_by-cons, count_by-le-length}
use Rattle.std.specs.List.{All, count_by, list_any}
use Rattle.hs_expr.specs.Lists.{has}
use Rattle.hs_meta.specs.Ranks.{AreRanked, ranks}
use Rattle.hs_types.specs.Reachability.{reach_rows}
use Rattle.hs_types.specs.Reachability.{HasEdge, Reaches, reaching_within, by_way_of, direct, reaches, is_or_reaches}
use Rattle.hs_types.proofs.Paths.{says_reaches}
use Rattle.hs_types.proofs.Edges.{edge-from_test}

-- How many marks are missing.
abbrev missing : List Bool → ℕ
missing [] = 0
missing (true ∷ marks) = missing marks
missing (false ∷ marks) = suc (missing marks)

missing_is : (marks : List Bool) → count_by not marks ≡ missing marks
missing_is [] = refl
missing_is (true ∷ marks) = sum_by-cons (λ b. cond (not b) 1 0) true marks ∙ (let e = missing_is marks in omega arith)
missing_is (false ∷ marks) = sum_by-cons (λ b. cond (not b) 1 0) false marks ∙ (let e = missing_is marks in omega arith)

no_more : (xs ys : List Bool) → length xs ≡ length ys → ((k : ℕ) → get_or xs k false ≡ true → get_or ys k false ≡ true) → missing ys ≤ missing xs
no_more [] [] e h = omega arith
no_more (true ∷ xs) (true ∷ ys) e h = no_more xs ys (omega arith) (λ k. h (suc k))
no_more (true ∷ xs) (false ∷ ys) e h = absurd (false≢true (h 0 refl))
no_more (false ∷ xs) (true ∷ ys) e h = let l = no_more xs ys (omega arith) (λ k. h (suc k)) in omega arith
no_more (false ∷ xs) (false ∷ ys) e h = let l = no_more xs ys (omega arith) (λ k. h (suc k)) in omega arith
no_more [] (y ∷ ys) e h = absurd (omega arith)
no_more (x ∷ xs) [] e h = absurd (omega arith)

fewer : (xs ys : List Bool) (i : ℕ) → length xs ≡ length ys → ((k : ℕ) → get_or xs k false ≡ true → get_or ys k false ≡ true) → get_or xs i false ≡ false → get_or ys i false ≡ true → missing ys < missing xs
fewer xs [] i e h none some = absurd (false≢true some)
fewer [] (y ∷ ys) i e h none some = absurd (omega arith)
fewer (true ∷ xs) (y ∷ ys) zero e h none some = absurd (true≢false none)
fewer (false ∷ xs) (true ∷ ys) zero e h none some = let l = no_more xs ys (omega arith) (λ k. h (suc k)) in omega arith
fewer (false ∷ xs) (false ∷ ys) zero e h none some = absurd (false≢true some)
fewer (true ∷ xs) (true ∷ ys) (suc i) e h none some = fewer xs ys i (omega arith) (λ k. h (suc k)) none some
fewer (true ∷ xs) (false ∷ ys) (suc i) e h none some = absurd (false≢true (h 0 refl))
fewer (false ∷ xs) (true ∷ ys) (suc i) e h none some = let l = fewer xs ys i (omega arith) (λ k. h (suc k)) none some in omega arith
fewer (false ∷ xs) (false ∷ ys) (suc i) e h none some = let l = fewer xs ys i (omega arith) (λ k. h (suc k)) none some in omega arith

long_row : (supers : List (List ℕ)) (d s : ℕ) → length (reaching_within supers d s) ≡ length supers
long_row supers d zero = length-map supers (λ numbers. false)
long_row supers d (suc s) = length-map supers (list_any (is_or_reaches d (reaching_within supers d s)))

pub further : (supers : List (List ℕ)) (a b c : ℕ) → Reaches supers a b → Reaches supers b c → Reaches supers a c
further supers a b c (direct _ _ is) h = by_way_of a b c is h
further supers a b c (by_way_of _ m _ is rest) h = by_way_of a m c is (further supers m b c rest h)

pub rank_at : (supers : List (List ℕ)) (c : ℕ) → c < length supers → get_or (ranks (reach_rows supers)) c 0 ≡ count_by not (reaching_within supers c (length supers))
rank_at supers c h =
    let long = length-map-range_with_len (λ d. reaching_within supers d (length supers)) 0 (length supers) in
    get_or-map (λ row. count_by not row) (reach_rows supers) c [] 0 (omega arith)
    ∙ ap (λ row. count_by not row) (get_or-map-range_with_len (λ d. reaching_within supers d (length supers)) 0 (length supers) c c [] h (omega arith))

-- No class is its own supertype.
abbrev pub HasNoCycle : List (List ℕ) → Type 0
HasNoCycle supers = (c : ℕ) → c < length supers → reaches supers c c ≡ false

-- Each supertype is a class.
abbrev pub StandWithin : List (List ℕ) → Type 0
StandWithin supers = (c s : ℕ) → has (get_or supers c []) s ≡ true → s < length supers

within : (supers : List (List ℕ)) (c s : ℕ) → has (get_or supers c []) s ≡ true → c < length supers
within supers c s e = elim (cases_lt c (length supers)) [
  | inl h ↦ h
  | inr h ↦ absurd (false≢true (sym (ap (λ ns. has ns s) (get_or_past supers c [] h)) ∙ e))
]

rises : (supers : List (List ℕ)) → HasNoCycle supers → (c s : ℕ) → c < length supers → s < length supers → HasEdge supers c s → get_or (ranks (reach_rows supers)) s 0 < get_or (ranks (reach_rows supers)) c 0
rises supers no_cycle c s low below is =
    let row : ℕ → List Bool = λ d. reaching_within supers d (length supers) in
    let more : missing (row s) < missing (row c) = fewer (row c) (row s) c (long_row supers c (length supers) ∙ sym (long_row supers s (length supers)))
    (λ k e. (says_reaches supers k s).1 (further supers k c s ((says_reaches supers k c).0 e) (direct c s is)))
    (no_cycle c low) ((says_reaches supers c s).1 (direct c s is)) in
    omega (arith, rank_at supers c low, rank_at supers s below, missing_is (row c), missing_is (row s))

pub ranked : (supers : List (List ℕ)) → StandWithin supers → HasNoCycle supers → AreRanked supers (ranks (reach_rows supers))
ranked supers stand no_cycle c s e = let low = within supers c s e in let below = stand c s e in (below, rises supers no_cycle c s low below (edge-from_test supers c s e))

pub rank_low : (supers : List (List ℕ)) → All (λ rank. rank ≤ length supers) (ranks (reach_rows supers))
rank_low supers k d h =
    let long = length-map-range_with_len (λ d. reaching_within supers d (length supers)) 0 (length supers) in
    let in_all : k < length supers = let e = length-map (reach_rows supers) (λ row. count_by not row) in omega arith in
    let row = reaching_within supers k (length supers) in
    let e : get_or (ranks (reach_rows supers)) k d ≡ count_by not row = get_or-map (λ row. count_by not row) (reach_rows supers) k [] d (omega arith)
    ∙ ap (λ row. count_by not row) (get_or-map-range_with_len (λ d. reaching_within supers d (length supers)) 0 (length supers) k k [] in_all (omega arith)) in
    omega (arith, e, count_by-le-length not row, long_row supers k (length supers))
