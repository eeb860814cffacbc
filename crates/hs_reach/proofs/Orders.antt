-- The order in which vertices are finished.
use Rattle.std.proofs.Common.{ℕ, ◌≡◌, ◌||◌, List, [], ◌∷◌, Bool, true, false, cond, eqb, Some, refl, ap, sym, ◌∙◌}
use Rattle.std.specs.List.{All, find, list_any}
use Rattle.std.proofs.lemmas.Bool.{eqb-true, eq-eqb, false≢true, or_left, or_right, or_parts}
use Rattle.std.proofs.lemmas.Option.{same_Some}
use Rattle.hs_expr.specs.Lists.{has}
use Rattle.hs_reach.specs.Reaching.{Path, advance, has_edge, has_path, stay}
use Rattle.hs_reach.specs.Searching.{finish_order}
use Rattle.hs_reach.proofs.Paths.{any-of, has_path-from, has_path-itself, path-from_test}
use Rattle.hs_expr.proofs.Lists.{All-has}

-- What leads out of the finished vertices leads over the path.
leaves : (graph : List (List ℕ)) (path finished : List ℕ) (n w : ℕ) → ((n k : ℕ) → has finished n ≡ true → has_edge graph n k ≡ true → (has path k || has finished k) ≡ true) → has finished w ≡ false → has finished n ≡ true → Path graph n w → (p : ℕ) × (has path p ≡ true) × Path graph n p
leaves graph path finished n _ closed out here (stay _) = absurd (false≢true (sym out ∙ here))
leaves graph path finished n w closed out here (advance _ k _ edge rest) = go (λ f. leaves graph path finished k w closed out f rest) (has path k) refl (closed n k here edge)
  where
    go : (has finished k ≡ true → (p : ℕ) × (has path p ≡ true) × Path graph k p) → (b : Bool) → has path k ≡ b → (b || has finished k) ≡ true → (p : ℕ) × (has path p ≡ true) × Path graph n p
    go later true e f = (k, e, advance n k k edge (stay k))
    go later false e f = let r = later f in (r.0, r.1, advance n k r.0 edge r.2)

-- ---- the path, and what is finished after it

finish_order-missed : (p : ℕ → Bool) (path ns : List ℕ) → list_any p path ≡ false → find p (finish_order path ns) ≡ find p ns
finish_order-missed p [] ns e = refl
finish_order-missed p (n ∷ path) ns e =
    let parts = or_parts (p n) (list_any p path) e in
    finish_order-missed p path (n ∷ ns) parts.1 ∙ ap (λ b. cond b (Some n) (find p ns)) parts.0

finish_order-same : (p : ℕ → Bool) (path ns ms : List ℕ) → list_any p path ≡ true → find p (finish_order path ns) ≡ find p (finish_order path ms)
finish_order-same p [] ns ms e = absurd (false≢true e)
finish_order-same p (n ∷ path) ns ms e = go (finish_order-same p path (n ∷ ns) (n ∷ ms)) (list_any p path) refl (p n) refl e
  where
    go : (list_any p path ≡ true → find p (finish_order path (n ∷ ns)) ≡ find p (finish_order path (n ∷ ms))) → (b : Bool) → list_any p path ≡ b → (a : Bool) → p n ≡ a → (a || b) ≡ true → find p (finish_order path (n ∷ ns)) ≡ find p (finish_order path (n ∷ ms))
    go later true s a t f = later s
    go later false s true t f =
        finish_order-missed p path (n ∷ ns) s ∙ ap (λ b. cond b (Some n) (find p ns)) t
        ∙ sym (finish_order-missed p path (n ∷ ms) s ∙ ap (λ b. cond b (Some n) (find p ms)) t)
    go later false s false t f = absurd (false≢true f)

finish_order-met : (p : ℕ → Bool) (path ns : List ℕ) (k : ℕ) → list_any p path ≡ true → find p (finish_order path ns) ≡ Some k → has path k ≡ true
finish_order-met p [] ns k e f = absurd (false≢true e)
finish_order-met p (n ∷ path) ns k e f = go (λ s. finish_order-met p path (n ∷ ns) k s f) (list_any p path) refl (p n) refl e
  where
    go : (list_any p path ≡ true → has path k ≡ true) → (b : Bool) → list_any p path ≡ b → (a : Bool) → p n ≡ a → (a || b) ≡ true → has (n ∷ path) k ≡ true
    go later true s a t h = or_right (eqb k n) (has path k) (later s)
    go later false s true t h =
        let first : Some n ≡ Some k = sym (finish_order-missed p path (n ∷ ns) s ∙ ap (λ b. cond b (Some n) (find p ns)) t) ∙ f in
        or_left (eqb k n) (has path k) (eq-eqb k n (sym (same_Some n k first)))
    go later false s false t h = absurd (false≢true h)

-- One vertex more at the end of the path leaves the order as it has to be.
pub orderly-more : (graph : List (List ℕ)) (path finished : List ℕ) (w : ℕ)
    → ((n k : ℕ) → has finished n ≡ true → has_edge graph n k ≡ true → (has path k || has finished k) ≡ true)
    → ((n k : ℕ) → (has path n || has finished n) ≡ true → find (has_path graph n) (finish_order path finished) ≡ Some k → has_path graph k n ≡ true)
    → All (λ p. has_path graph p w ≡ true) path → has finished w ≡ false
    → (n k : ℕ) → (eqb n w || (has path n || has finished n)) ≡ true → find (has_path graph n) (finish_order path (w ∷ finished)) ≡ Some k → has_path graph k n ≡ true
orderly-more graph path finished w closed orderly to_w new n k h e = met (list_any (has_path graph n) path) refl (eqb n w) refl h
  where
    -- where it reaches none on the path, it isn't there
    off : list_any (has_path graph n) path ≡ false → has path n ≡ true → has_path graph k n ≡ true
    off none on = absurd (false≢true (sym none ∙ any-of (has_path graph n) path n on (has_path-itself graph n)))

    over : list_any (has_path graph n) path ≡ false → has finished n ≡ true → has_path graph n w ≡ true → has_path graph k n ≡ true
    over none there out =
        let edges_left = leaves graph path finished n w closed new there (path-from_test graph n w out) in
        absurd (false≢true (sym none ∙ any-of (has_path graph n) path edges_left.0 edges_left.1 (has_path-from graph n edges_left.0 edges_left.2)))

    finished-before : list_any (has_path graph n) path ≡ false → has finished n ≡ true → (b : Bool) → has_path graph n w ≡ b → has_path graph k n ≡ true
    finished-before none there true out = over none there out
    finished-before none there false out =
        orderly n k (or_right (has path n) (has finished n) there)
        (finish_order-missed (has_path graph n) path finished none ∙ ap (λ b. cond b (Some w) (find (has_path graph n) finished)) (sym out) ∙ sym (finish_order-missed (has_path graph n) path (w ∷ finished) none) ∙ e)

    behind : list_any (has_path graph n) path ≡ false → (b : Bool) → has path n ≡ b → (b || has finished n) ≡ true → has_path graph k n ≡ true
    behind none true on f = off none on
    behind none false on f = finished-before none f (has_path graph n w) refl

    itself : list_any (has_path graph n) path ≡ false → n ≡ w → has_path graph k n ≡ true
    itself none same =
        let here : has_path graph n w ≡ true = ap (has_path graph n) (sym same) ∙ has_path-itself graph n in
        let first : Some w ≡ Some k = sym (finish_order-missed (has_path graph n) path (w ∷ finished) none ∙ ap (λ b. cond b (Some w) (find (has_path graph n) finished)) here) ∙ e in
        let is : k ≡ n = sym (same_Some w k first) ∙ sym same in
        ap (λ j. has_path graph j n) is ∙ has_path-itself graph n

    met : (a : Bool) → list_any (has_path graph n) path ≡ a → (b : Bool) → eqb n w ≡ b → (b || (has path n || has finished n)) ≡ true → has_path graph k n ≡ true
    met true some true same f =
        let on = finish_order-met (has_path graph n) path (w ∷ finished) k some e in
        ap (has_path graph k) (eqb-true n w same) ∙ All-has (λ p. has_path graph p w ≡ true) path k to_w on
    met true some false same f = orderly n k f (finish_order-same (has_path graph n) path finished (w ∷ finished) some ∙ e)
    met false none true same f = itself none (eqb-true n w same)
    met false none false same f = behind none (has path n) refl f
