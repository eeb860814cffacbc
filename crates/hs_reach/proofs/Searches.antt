-- The edges of a search finish_top it as it has to be.
use Rattle.std.proofs.Common.{ℕ, zero, suc, ◌+◌, ◌<◌, ◌≢◌, ◌≡◌, ◌||◌, List, [], ◌∷◌, ◌++◌, Bool, true, false, cond, drop, eqb, get_or, is_some, length, replicate, set, slice_get, Option, Some, None, refl, ap, sym, ◌∙◌, subst, arith, rules, ltb}
use Rattle.std.specs.List.{All}
use Rattle.std.specs.Option.{option_or}
use Rattle.std.proofs.Math.Bool.{or_assoc}
use Rattle.std.proofs.lemmas.Bool.{eqb-true, eq-eqb, false≢true, or_left, or_right, or_parts}
use Rattle.std.proofs.lemmas.List.{drop_more, get_or-set_other, get_or-set_same, length-set}
use Rattle.std.proofs.lemmas.List.Elements.{All-nil, All-cons, All-head, All-tail}
use Rattle.std.proofs.lemmas.List.Folds.{find-append}
use Rattle.std.proofs.lemmas.Option.{get_or_from_slice_get, none-some, slice_get_within}
use Rattle.hs_expr.specs.Lists.{has}
use Rattle.hs_reach.specs.Reaching.{Path, first_to_reach, advance, has_edge, has_path, stay}
use Rattle.hs_reach.specs.Searching.{AreFirst, StartedFrom, IsPath, IsSearchOf, is_found, edges_left, vertices_left, edges_left_count}
use Rattle.hs_reach.proofs.Orders.{orderly-more}
use Rattle.hs_reach.proofs.Paths.{path-from_test, has_path-edge, has_path-through}
use Rattle.hs_expr.proofs.Items.{has_at}

pub apart : (n k : ℕ) → eqb n k ≡ false → n ≢ k
apart n k e = λ same. absurd (false≢true (sym e ∙ eq-eqb n k same))

or_false : (a b : Bool) → b ≡ false → (a || b) ≡ true → a ≡ true
or_false true b e h = refl
or_false false b e h = absurd (false≢true (sym e ∙ h))

-- What is finished leads to what is on the path or finished.
closed : (graph : List (List ℕ)) (tried : List ℕ) (starts : List (Option ℕ)) (path finished : List ℕ) → IsSearchOf graph tried starts path finished →
    (n k : ℕ) → has finished n ≡ true → has_edge graph n k ≡ true → (has path k || has finished k) ≡ true
closed graph tried starts path finished u n k h edge =
    sym (u.found k) ∙ or_false (is_found starts k) (has (edges_left graph tried n) k) (ap (λ ns. has ns k) (u.done n h)) (u.edges n k edge)

-- ---- a vertex is found

found-set : (starts : List (Option ℕ)) (w s n : ℕ) → w < length starts → is_found (set starts w (Some s)) n ≡ (eqb n w || is_found starts n)
found-set starts w s n within = go (eqb n w) refl
  where
    go : (b : Bool) → eqb n w ≡ b → is_found (set starts w (Some s)) n ≡ (b || is_found starts n)
    go true e = ap (λ j. is_found (set starts w (Some s)) j) (eqb-true n w e) ∙ ap is_some (get_or-set_same starts w (Some s) None within)
    go false e = ap is_some (get_or-set_other starts w n (Some s) None (apart n w e))

pub enters : (graph : List (List ℕ)) (tried : List ℕ) (starts : List (Option ℕ)) (path finished : List ℕ) (w s : ℕ) → IsSearchOf graph tried starts path finished →
    All (λ p. has_path graph p w ≡ true) path → is_found starts w ≡ false → w < length starts → IsSearchOf graph tried (set starts w (Some s)) (w ∷ path) finished
enters graph tried starts path finished w s u to_w new within = record {
  counts = u.counts;
  marks = length-set starts w (Some s) ∙ u.marks;
  edges = λ n k h. more k (has (edges_left graph tried n) k) (u.edges n k h);
  done = u.done;
  found = found_then;
  goes = (to_w, u.goes);
  orderly = λ n k f e. orderly-more graph path finished w (closed graph tried starts path finished u) (λ i j h. u.orderly i j (u.found i ∙ h)) to_w
      (or_parts (has path w) (has finished w) (sym (u.found w) ∙ new)).1 n k (sym (found-set starts w s n within ∙ ap (λ b. eqb n w || b) (u.found n)) ∙ f) e;
}
  where
    more : (k : ℕ) (b : Bool) → (is_found starts k || b) ≡ true → (is_found (set starts w (Some s)) k || b) ≡ true
    more k b h = ap (λ a. a || b) (found-set starts w s k within) ∙ or_assoc (eqb k w) (is_found starts k) b ∙ or_right (eqb k w) (is_found starts k || b) h

    found_then : (n : ℕ) → is_found (set starts w (Some s)) n ≡ (has (w ∷ path) n || has finished n)
    found_then n = found-set starts w s n within ∙ ap (λ b. eqb n w || b) (u.found n) ∙ sym (or_assoc (eqb n w) (has path n) (has finished n))

pub comes-enters : (graph : List (List ℕ)) (before : List ℕ) (start : ℕ) (starts : List (Option ℕ)) (path : List ℕ) (w : ℕ) → StartedFrom graph before start starts path →
    has_path graph start w ≡ true → is_found starts w ≡ false → w < length starts → StartedFrom graph before start (set starts w (Some start)) (w ∷ path)
comes-enters graph before start starts path w c to_w new within = record {
  own = λ n s e. own_then n s (eqb n w) refl e;
  other = λ n e. other_then n (eqb n w) refl e;
  reached = All-cons (λ p. has_path graph start p ≡ true) w path to_w c.reached;
}
  where
    nothing : (o : Option ℕ) → is_some o ≡ false → o ≡ None
    nothing None e = refl
    nothing (Some s) e = absurd (false≢true (sym e))

    first : first_to_reach graph (before ++ start ∷ []) w ≡ Some start
    first =
        find-append (λ s. has_path graph s w) before (start ∷ [])
        ∙ ap (λ o. option_or o (cond (has_path graph start w) (Some start) None)) (c.other w (nothing (get_or starts w None) new))
        ∙ ap (λ b. cond b (Some start) None) to_w

    own_then : (n s : ℕ) → (b : Bool) → eqb n w ≡ b → get_or (set starts w (Some start)) n None ≡ Some s → first_to_reach graph (before ++ start ∷ []) n ≡ Some s
    own_then n s true t e =
        let at = eqb-true n w t in
        let here : get_or (set starts w (Some start)) n None ≡ Some start = ap (λ j. get_or (set starts w (Some start)) j None) at ∙ get_or-set_same starts w (Some start) None within in
        ap (first_to_reach graph (before ++ start ∷ [])) at ∙ first ∙ sym here ∙ e
    own_then n s false t e = c.own n s (sym (get_or-set_other starts w n (Some start) None (apart n w t)) ∙ e)

    other_then : (n : ℕ) → (b : Bool) → eqb n w ≡ b → get_or (set starts w (Some start)) n None ≡ None → first_to_reach graph before n ≡ None
    other_then n true t e =
        let here : get_or (set starts w (Some start)) n None ≡ Some start = ap (λ j. get_or (set starts w (Some start)) j None) (eqb-true n w t) ∙ get_or-set_same starts w (Some start) None within in
        absurd (none-some start (sym e ∙ here))
    other_then n false t e = c.other n (sym (get_or-set_other starts w n (Some start) None (apart n w t)) ∙ e)

-- ---- an edge was tried

pub advances : (graph : List (List ℕ)) (tried : List ℕ) (starts : List (Option ℕ)) (path finished : List ℕ) (t w : ℕ) → IsSearchOf graph tried starts path finished →
    slice_get (get_or graph t []) (get_or tried t 0) ≡ Some w → is_found starts w ≡ true → t < length tried → IsSearchOf graph (set tried t (get_or tried t 0 + 1)) starts path finished
advances graph tried starts path finished t w u at there within = record {
  counts = length-set tried t (get_or tried t 0 + 1) ∙ u.counts;
  marks = u.marks;
  edges = λ n k h. edges_then n k (eqb n t) refl (u.edges n k h);
  done = λ n h. done_then n (eqb n t) refl (u.done n h);
  found = u.found;
  goes = u.goes;
  orderly = u.orderly;
}
  where
    opened : edges_left graph tried t ≡ w ∷ drop (get_or tried t 0 + 1) (get_or graph t [])
    opened =
        drop_more (get_or graph t []) (get_or tried t 0) w (slice_get_within (get_or graph t []) (get_or tried t 0) w at)
        ∙ ap (λ x. x ∷ drop (get_or tried t 0 + 1) (get_or graph t [])) (get_or_from_slice_get (get_or graph t []) (get_or tried t 0) w w at)

    here : edges_left graph (set tried t (get_or tried t 0 + 1)) t ≡ drop (get_or tried t 0 + 1) (get_or graph t [])
    here = ap (λ c. drop c (get_or graph t [])) (get_or-set_same tried t (get_or tried t 0 + 1) 0 within)

    elsewhere : (n : ℕ) → eqb n t ≡ false → edges_left graph (set tried t (get_or tried t 0 + 1)) n ≡ edges_left graph tried n
    elsewhere n e = ap (λ c. drop c (get_or graph n [])) (get_or-set_other tried t n (get_or tried t 0 + 1) 0 (apart n t e))

    -- the edge that was tried leads to what is found
    passed : (k : ℕ) (ns : List ℕ) (b : Bool) → eqb k w ≡ b → (is_found starts k || (b || has ns k)) ≡ true → (is_found starts k || has ns k) ≡ true
    passed k ns true e h = or_left (is_found starts k) (has ns k) (ap (is_found starts) (eqb-true k w e) ∙ there)
    passed k ns false e h = h

    edges_then : (n k : ℕ) (b : Bool) → eqb n t ≡ b → (is_found starts k || has (edges_left graph tried n) k) ≡ true → (is_found starts k || has (edges_left graph (set tried t (get_or tried t 0 + 1)) n) k) ≡ true
    edges_then n k true e h =
        let same = eqb-true n t e in
        let now : edges_left graph tried n ≡ w ∷ drop (get_or tried t 0 + 1) (get_or graph t []) = ap (edges_left graph tried) same ∙ opened in
        let then : edges_left graph (set tried t (get_or tried t 0 + 1)) n ≡ drop (get_or tried t 0 + 1) (get_or graph t []) = ap (edges_left graph (set tried t (get_or tried t 0 + 1))) same ∙ here in
        ap (λ ns. is_found starts k || has ns k) then
        ∙ passed k (drop (get_or tried t 0 + 1) (get_or graph t [])) (eqb k w) refl (sym (ap (λ ns. is_found starts k || has ns k) now) ∙ h)
    edges_then n k false e h = ap (λ ns. is_found starts k || has ns k) (elsewhere n e) ∙ h

    done_then : (n : ℕ) (b : Bool) → eqb n t ≡ b → edges_left graph tried n ≡ [] → edges_left graph (set tried t (get_or tried t 0 + 1)) n ≡ []
    done_then n true e h =
        let full : w ∷ drop (get_or tried t 0 + 1) (get_or graph t []) ≡ [] = sym (ap (edges_left graph tried) (eqb-true n t e) ∙ opened) ∙ h in
        absurd (let more = ap length full in omega (arith, more))
    done_then n false e h = elsewhere n e ∙ h

-- ---- the beginning and the end

default-same : {A : Type 0} (m n : ℕ) (a : A) → get_or (replicate m a) n a ≡ a
default-same zero n a = refl
default-same (suc m) zero a = refl
default-same (suc m) (suc n) a = default-same m n a

length-same : {A : Type 0} (m : ℕ) (a : A) → length (replicate m a) ≡ m
length-same zero a = refl
length-same (suc m) a = ap suc (length-same m a)

pub begins : (graph : List (List ℕ)) (m : ℕ) → m ≡ length graph → IsSearchOf graph (replicate m 0) (replicate m None) [] []
begins graph m long = record {
  counts = length-same m 0 ∙ long;
  marks = length-same {A = Option ℕ} m None ∙ long;
  edges = λ n k h. or_right (is_found (replicate m None) k) (has (edges_left graph (replicate m 0) n) k) (ap (λ c. has (drop c (get_or graph n [])) k) (default-same m n 0) ∙ h);
  done = λ n h. absurd (false≢true h);
  found = λ n. ap is_some (default-same {A = Option ℕ} m n None);
  goes = tt;
  orderly = λ n k h e. absurd (false≢true (sym (ap is_some (default-same {A = Option ℕ} m n None)) ∙ h));
}

pub comes-begins : (graph : List (List ℕ)) (before : List ℕ) (start : ℕ) (starts : List (Option ℕ)) → AreFirst graph before starts → StartedFrom graph before start starts []
comes-begins graph before start starts first = record {
  own = λ n s e. find-append (λ q. has_path graph q n) before (start ∷ []) ∙ ap (λ o. option_or o (cond (has_path graph start n) (Some start) None)) (sym (first n) ∙ e);
  other = λ n e. sym (first n) ∙ e;
  reached = All-nil (λ p. has_path graph start p ≡ true);
}

-- At the end of a search all is found that what is found reaches.
found-along : (graph : List (List ℕ)) (tried : List ℕ) (starts : List (Option ℕ)) (finished : List ℕ) (n k : ℕ) → IsSearchOf graph tried starts [] finished → Path graph n k → is_found starts n ≡ true → is_found starts k ≡ true
found-along graph tried starts finished n _ u (stay _) h = h
found-along graph tried starts finished n l u (advance _ k _ edge rest) h =
    found-along graph tried starts finished k l u rest (u.found k ∙ closed graph tried starts [] finished u n k (sym (u.found n) ∙ h) edge)

pub comes-ends : (graph : List (List ℕ)) (before : List ℕ) (start : ℕ) (tried : List ℕ) (starts : List (Option ℕ)) (finished : List ℕ) → IsSearchOf graph tried starts [] finished → StartedFrom graph before start starts [] → is_found starts start ≡ true → AreFirst graph (before ++ start ∷ []) starts
comes-ends graph before start tried starts finished u c begun n = go (get_or starts n None) refl
  where
    not_reached : get_or starts n None ≡ None → (b : Bool) → has_path graph start n ≡ b → None ≡ cond b (Some start) None
    not_reached e true r = absurd (false≢true (sym (ap is_some e) ∙ found-along graph tried starts finished start n u (path-from_test graph start n r) begun))
    not_reached e false r = refl

    go : (o : Option ℕ) → get_or starts n None ≡ o → o ≡ first_to_reach graph (before ++ start ∷ []) n
    go None e =
        not_reached e (has_path graph start n) refl
        ∙ sym (find-append (λ q. has_path graph q n) before (start ∷ []) ∙ ap (λ o. option_or o (cond (has_path graph start n) (Some start) None)) (c.other n e))
    go (Some s) e = sym (c.own n s e)

-- ---- less is left

pub less-vertices : (starts : List (Option ℕ)) (w s : ℕ) → is_found starts w ≡ false → w < length starts → vertices_left (set starts w (Some s)) + 1 ≡ vertices_left starts
less-vertices [] w s e h = absurd (omega (arith, h))
less-vertices (None ∷ starts) zero s e h = refl
less-vertices (Some r ∷ starts) zero s e h = absurd (false≢true (sym e))
less-vertices (None ∷ starts) (suc w) s e h = ap (λ k. k + 1) (less-vertices starts w s e (omega (arith, h)))
less-vertices (Some r ∷ starts) (suc w) s e h = less-vertices starts w s e (omega (arith, h))

pub less-edges : (graph : List (List ℕ)) (tried : List ℕ) (t w : ℕ) → slice_get (get_or graph t []) (get_or tried t 0) ≡ Some w → t < length tried → edges_left_count graph (set tried t (get_or tried t 0 + 1)) + 1 ≡ edges_left_count graph tried
less-edges [] tried t w e h = absurd (none-some w e)
less-edges (row ∷ graph) [] t w e h = absurd (omega (arith, h))
less-edges (row ∷ graph) (k ∷ tried) zero w e h = let within = slice_get_within row k w e in omega (arith, within)
less-edges (row ∷ graph) (k ∷ tried) (suc t) w e h = let rest = less-edges graph tried t w e (omega (arith, h)) in omega (arith, rest)

-- ---- an edge from the end of the path

pub found-within : (starts : List (Option ℕ)) (n : ℕ) → is_found starts n ≡ true → n < length starts
found-within [] n e = absurd (false≢true e)
found-within (s ∷ starts) zero e = omega arith
found-within (s ∷ starts) (suc n) e = let rest = found-within starts n e in omega (arith, rest)

pub end-within : (graph : List (List ℕ)) (tried : List ℕ) (starts : List (Option ℕ)) (path finished : List ℕ) (t : ℕ) (rest : List ℕ) → IsSearchOf graph tried starts path finished → path ≡ t ∷ rest → t < length graph
end-within graph tried starts path finished t rest u at =
    let on : has path t ≡ true = ap (λ ps. has ps t) at ∙ or_left (eqb t t) (has rest t) (eq-eqb t t refl) in
    let within = found-within starts t (u.found t ∙ or_left (has path t) (has finished t) on) in
    let long = u.marks in
    omega (arith, within, long)

edges-on : (graph : List (List ℕ)) (t w : ℕ) (path : List ℕ) → has_edge graph t w ≡ true → All (λ p. has_path graph p t ≡ true) path → All (λ p. has_path graph p w ≡ true) path
edges-on graph t w [] edge a = All-nil (λ p. has_path graph p w ≡ true)
edges-on graph t w (n ∷ path) edge a =
    All-cons (λ p. has_path graph p w ≡ true) n path (has_path-through graph n t w (All-head (λ p. has_path graph p t ≡ true) n path a) (has_path-edge graph t w edge)) (edges-on graph t w path edge (All-tail (λ p. has_path graph p t ≡ true) n path a))

-- What is on the path reaches that to which its end leads.
pub goes-on : (graph : List (List ℕ)) (t w : ℕ) (path rest : List ℕ) → path ≡ t ∷ rest → IsPath graph path → has_edge graph t w ≡ true → All (λ p. has_path graph p w ≡ true) path
goes-on graph t w path rest at goes edge =
    let whole : IsPath graph (t ∷ rest) = subst (IsPath graph) at goes in
    subst (All (λ p. has_path graph p w ≡ true)) (sym at) (All-cons (λ p. has_path graph p w ≡ true) t rest (has_path-edge graph t w edge) (edges-on graph t w rest edge whole.0))

pub start-reaches : (graph : List (List ℕ)) (start t w : ℕ) (path rest : List ℕ) → path ≡ t ∷ rest → All (λ p. has_path graph start p ≡ true) path → has_edge graph t w ≡ true → has_path graph start w ≡ true
start-reaches graph start t w path rest at reached edge =
    has_path-through graph start t w (All-head (λ p. has_path graph start p ≡ true) t rest (subst (All (λ p. has_path graph start p ≡ true)) at reached)) (has_path-edge graph t w edge)

-- ---- the edges as the code makes them

pub leads-at : (graph : List (List ℕ)) (t w c : ℕ) → slice_get (get_or graph t []) c ≡ Some w → has_edge graph t w ≡ true
leads-at graph t w c e = has_at (get_or graph t []) c w e

-- The state after an edge to a vertex: what was tried is given by another list.
pub advances-at : (graph : List (List ℕ)) (before tried : List ℕ) (starts : List (Option ℕ)) (path finished : List ℕ) (t w c : ℕ) → tried ≡ before → c ≡ get_or before t 0 →
    slice_get (get_or graph t []) c ≡ Some w → t < length graph → is_found starts w ≡ true → IsSearchOf graph tried starts path finished → IsSearchOf graph (set tried t (c + 1)) starts path finished
advances-at graph before tried starts path finished t w c same count at within there u =
    let is : c ≡ get_or tried t 0 = count ∙ ap (λ ts. get_or ts t 0) (sym same) in
    let long = u.counts in
    subst (λ k. IsSearchOf graph (set tried t (k + 1)) starts path finished) (sym is)
    (advances graph tried starts path finished t w u (subst (λ k. slice_get (get_or graph t []) k ≡ Some w) is at) there (omega (arith, within, long)))

pub less-at : (graph : List (List ℕ)) (before tried : List ℕ) (t w c : ℕ) → tried ≡ before → c ≡ get_or before t 0 → slice_get (get_or graph t []) c ≡ Some w → t < length tried →
    edges_left_count graph (set tried t (c + 1)) + 1 ≡ edges_left_count graph tried
less-at graph before tried t w c same count at within =
    let is : c ≡ get_or tried t 0 = count ∙ ap (λ ts. get_or ts t 0) (sym same) in
    ap (λ k. edges_left_count graph (set tried t (k + 1)) + 1) is ∙ less-edges graph tried t w (subst (λ k. slice_get (get_or graph t []) k ≡ Some w) is at) within

pub read-at : (row : List ℕ) (i w : ℕ) → true ≡ ltb i (length row) → w ≡ get_or row i w → slice_get row i ≡ Some w
read-at [] i w e h = grind (arith, rules)
read-at (x ∷ row) zero w e h = ap Some (sym h)
read-at (x ∷ row) (suc i) w e h = read-at row i w (e ∙ shift i (length row)) h
  where
    shift : (i n : ℕ) → ltb (suc i) (suc n) ≡ ltb i n
    shift i n = grind (arith, rules)

pub edge-taken : (graph : List (List ℕ)) (t : ℕ) (row : List ℕ) (c w : ℕ) → row ≡ get_or graph t [] → true ≡ ltb c (length row) → w ≡ get_or row c w → slice_get (get_or graph t []) c ≡ Some w
edge-taken graph t row c w same within at = subst (λ ns. slice_get ns c ≡ Some w) same (read-at row c w within at)

pub edge-leads : (graph : List (List ℕ)) (t : ℕ) (row : List ℕ) (c w : ℕ) → row ≡ get_or graph t [] → true ≡ ltb c (length row) → w ≡ get_or row c w → has_edge graph t w ≡ true
edge-leads graph t row c w same within at = leads-at graph t w c (edge-taken graph t row c w same within at)

-- The path without its end.
pub comes-back : (graph : List (List ℕ)) (before : List ℕ) (start : ℕ) (starts starts2 : List (Option ℕ)) (path path2 : List ℕ) (t : ℕ) (rest : List ℕ) → path ≡ t ∷ rest → path2 ≡ rest → starts2 ≡ starts → StartedFrom graph before start starts path → StartedFrom graph before start starts2 path2
comes-back graph before start starts starts2 path path2 t rest at back same c =
    let whole : StartedFrom graph before start starts (t ∷ rest) = subst (StartedFrom graph before start starts) at c in
    let less : StartedFrom graph before start starts rest = record { own = c.own; other = c.other; reached = All-tail (λ p. has_path graph start p ≡ true) t rest whole.reached } in
    let here : StartedFrom graph before start starts path2 = subst (StartedFrom graph before start starts) (sym back) less in
    subst (λ ss. StartedFrom graph before start ss path2) (sym same) here
