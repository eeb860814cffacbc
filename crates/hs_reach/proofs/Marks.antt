-- Marks that vertices have in common which reach each other.
use Rattle.std.proofs.Common.{ℕ, ◌+◌, ◌<◌, ◌≤◌, ◌≡◌, List, [], Bool, true, false, get_or, is_some, length, map, ltb, Option, Some, None, refl, ap, sym, ◌∙◌, arith, rules}
use Rattle.std.specs.List.{range_with_len}
use Rattle.std.proofs.lemmas.Bool.{eqb-true, eq-eqb, false≢true}
use Rattle.std.proofs.lemmas.List.FromFn.{get_or-map-range_with_len, length-map-range_with_len}
use Rattle.hs_expr.specs.Lists.{has}
use Rattle.hs_types.specs.Reachability.{Reaches, by_way_of, direct, reaches}
use Rattle.hs_types.proofs.Paths.{says_reaches}
use Rattle.hs_reach.specs.Reaching.{AreComponents, AreReversed, IsOrderly, TargetsAreVertices, first_reached, has_edge, edge_leads_back, has_path, same_mark}
use Rattle.hs_reach.specs.Searching.{AreFirst, is_found}
use Rattle.hs_expr.proofs.Booleans.{same_test}
use Rattle.hs_types.proofs.Edges.{edge-test}
use Rattle.hs_reach.proofs.Paths.{any-of, path-from_reaches, first-passes, first-there, path-cases, has_path-from, has_path-itself, path-from_test, has_path-edge, has_path-through, edge-reaches}
use Rattle.hs_reach.proofs.Ranges.{nothing-past, range-has}
use Rattle.hs_reach.proofs.Reversals.{source-within, reversed-has_path}
use Rattle.hs_expr.proofs.Items.{one_passing, find-same}

-- A search from all vertices finishes all.
pub all-finished : (graph : List (List ℕ)) (starts : List (Option ℕ)) (finished : List ℕ) (n : ℕ) → AreFirst graph (range_with_len 0 (length graph)) starts → ((n : ℕ) → is_found starts n ≡ has finished n) → n < length graph → has finished n ≡ true
all-finished graph starts finished n first found within =
    let there = first-there (λ s. has_path graph s n) (range_with_len 0 (length graph)) n (range-has 0 (length graph) n (omega arith) (omega (arith, within))) (has_path-itself graph n) in
    sym (found n) ∙ ap is_some (first n ∙ there.1)

pub components-are : (graph reversed : List (List ℕ)) (order : List ℕ) (marks : List (Option ℕ)) → IsOrderly graph order → ((n : ℕ) → n < length graph → has order n ≡ true) → AreReversed graph reversed → AreFirst reversed order marks → AreComponents graph marks
components-are graph reversed order marks orderly all are first n k n_in k_in = (to, from)
  where
    is : (j : ℕ) → get_or marks j None ≡ first_reached graph order j
    is j = first j ∙ find-same (λ s. has_path reversed s j) (has_path graph j) order (λ s. reversed-has_path graph reversed s j are)

    to : get_or marks n None ≡ get_or marks k None → (has_path graph n k ≡ true) × (has_path graph k n ≡ true)
    to e =
        let there = first-there (has_path graph n) order n (all n n_in) (has_path-itself graph n) in
        let also : first_reached graph order k ≡ Some there.0 = sym (is k) ∙ sym e ∙ is n ∙ there.1 in
        let n_to = first-passes (has_path graph n) order there.0 there.1 in
        let k_to = first-passes (has_path graph k) order there.0 also in
        (has_path-through graph n there.0 k n_to (orderly k there.0 (all k k_in) also), has_path-through graph k there.0 n k_to (orderly n there.0 (all n n_in) there.1))

    from : (has_path graph n k ≡ true) × (has_path graph k n ≡ true) → get_or marks n None ≡ get_or marks k None
    from both =
        is n
        ∙ find-same (has_path graph n) (has_path graph k) order (λ s. same_test (has_path graph n s) (has_path graph k s) (λ t. has_path-through graph k n s both.1 t) (λ t. has_path-through graph n k s both.0 t))
        ∙ sym (is k)

-- ---- the way back

marks-same : (a b : Option ℕ) → same_mark a b ≡ true → a ≡ b
marks-same None None t = refl
marks-same None (Some k) t = absurd (false≢true t)
marks-same (Some n) None t = absurd (false≢true t)
marks-same (Some n) (Some k) t = ap Some (eqb-true n k t)

same-marks : (a b : Option ℕ) → a ≡ b → same_mark a b ≡ true
same-marks a b e = ap (same_mark a) (sym e) ∙ itself a
  where
    itself : (o : Option ℕ) → same_mark o o ≡ true
    itself None = refl
    itself (Some n) = eq-eqb n n refl

opened : (graph : List (List ℕ)) (n k : ℕ) → Reaches graph n k → (j : ℕ) × (has_edge graph n j ≡ true) × (has_path graph j k ≡ true)
opened graph n k (direct _ _ edge) = (k, edge-test graph n k edge, has_path-itself graph k)
opened graph n k (by_way_of _ j _ edge rest) = (j, edge-test graph n j edge, has_path-from graph j k (path-from_reaches graph j k rest))

pub back-says : (graph : List (List ℕ)) (marks : List (Option ℕ)) (n : ℕ) → TargetsAreVertices graph → AreComponents graph marks → edge_leads_back graph marks n ≡ reaches graph n n
back-says graph marks n whole are = same_test (edge_leads_back graph marks n) (reaches graph n n) to (λ t. from ((says_reaches graph n n).0 t))
  where
    to : edge_leads_back graph marks n ≡ true → reaches graph n n ≡ true
    to t =
        let edge = one_passing (λ k. same_mark (get_or marks k None) (get_or marks n None)) (get_or graph n []) t in
        let both = (are edge.0 n (whole n edge.0 edge.1) (source-within graph n edge.0 edge.1)).0 (marks-same (get_or marks edge.0 None) (get_or marks n None) edge.2) in
        (says_reaches graph n n).1 (edge-reaches graph n edge.0 n edge.1 (path-cases graph edge.0 n (path-from_test graph edge.0 n both.0)))

    by : (k : ℕ) → has_edge graph n k ≡ true → has_path graph k n ≡ true → edge_leads_back graph marks n ≡ true
    by k edge back =
        any-of (λ k. same_mark (get_or marks k None) (get_or marks n None)) (get_or graph n []) k edge
        (same-marks (get_or marks k None) (get_or marks n None) ((are k n (whole n k edge) (source-within graph n k edge)).1 (back, has_path-edge graph n k edge)))

    from : Reaches graph n n → edge_leads_back graph marks n ≡ true
    from below = let edge = opened graph n n below in by edge.0 edge.1 edge.2

-- Of each number whether edges lead back to it.
pub each-back : (graph : List (List ℕ)) (marks : List (Option ℕ)) (m k : ℕ) → TargetsAreVertices graph → AreComponents graph marks → length graph ≤ m → get_or (map (edge_leads_back graph marks) (range_with_len 0 m)) k false ≡ reaches graph k k
each-back graph marks m k whole are enough = go (ltb k m) refl
  where
    go : (b : Bool) → ltb k m ≡ b → get_or (map (edge_leads_back graph marks) (range_with_len 0 m)) k false ≡ reaches graph k k
    go true e =
        let within : k < m = grind (arith, rules) in
        let same : 0 + k ≡ k = omega arith in
        get_or-map-range_with_len (edge_leads_back graph marks) 0 m k k false within same ∙ back-says graph marks k whole are
    go false e =
        let past : m ≤ k = grind (arith, rules) in
        let long = length-map-range_with_len (edge_leads_back graph marks) 0 m in
        nothing-past (map (edge_leads_back graph marks) (range_with_len 0 m)) k (omega (arith, past, long)) ∙ sym (none (reaches graph k k) refl past)
      where
        none : (b : Bool) → reaches graph k k ≡ b → m ≤ k → b ≡ false
        none true t past = let edge = opened graph k k ((says_reaches graph k k).0 t) in let within = source-within graph k edge.0 edge.1 in absurd (omega (arith, within, past, enough))
        none false t past = refl
