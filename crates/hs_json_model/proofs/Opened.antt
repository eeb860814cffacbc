-- A graph from which a journal begins is the same when it is numbered by places.
use Rattle.std.proofs.Common.{ℕ, zero, suc, ◌+◌, ◌<◌, ◌≤◌, ◌≡◌, inl, inr, ◌++◌, List, [], ◌∷◌, Bool, true, false, cond, map, max, length, eqb, Option, Some, None, IsSomeAnd, slice_get, refl, ap, sym, ◌∙◌, subst, arith, zero-add}
use Rattle.std.proofs.lemmas.Bool.{eqb-true, eq-eqb, ne_eqb}
use Rattle.std.proofs.lemmas.Int.{clamps}
use Rattle.std.proofs.lemmas.List.Elements.{All-nil, All-cons, All-head, All-tail, All-weaker}
use Rattle.std.proofs.lemmas.Option.{none-some, same_Some}
use Rattle.std.specs.List.{All, Any, find, flat_map, position_or_len, range_with_len}
use Rattle.std.specs.Option.{option_map_or, unwrap_or}
use Rattle.hs_types.specs.declared.graph.Edge.{Edge}
use Rattle.hs_types.specs.declared.graph.Graph.{Graph}
use Rattle.hs_types.specs.declared.graph.Object.{Object}
use Rattle.hs_types.specs.declared.meta.Metamodel.{Metamodel}
use Rattle.hs_expr.specs.Lists.{Differ, EachPair, Rise, has}
use Rattle.hs_types.specs.Metamodel.{IsMeta, features_of}
use Rattle.hs_types.specs.TypedGraph.{EdgeBefore, IsOpening, IsTyped, Stands, hash_name, object_numbered}
use Rattle.hs_expr.proofs.Lists.{All-kept, EachPair-filter, EachPair-known, EachPair-weaker, Rise-at, find-passes, flat_map-same, has-here, has-later, map-append}
use Rattle.hs_graph.specs.declared.edges.Link.{Link}
use Rattle.hs_graph.specs.Meaning as meaning
use Rattle.hs_graph.specs.Names.{hash_number, next_after}
use Rattle.std.proofs.lemmas.List.{length-map}
use Rattle.hs_json_model.specs.Renumbered.{edges_by, link_between, links_at, links_by_place, objects_by_place, place_in, graph_by_place}
use Rattle.hs_graph.specs.Problems.{edges_leaving}
use Rattle.hs_json_model.proofs.NamesBack.{name_at, names_differ}
use Rattle.hs_types.proofs.Keyed.{rise_above, rise_differs}
use Rattle.hs_json_model.proofs.Grouped.{grouped}
use Rattle.hs_json_model.proofs.LinksBack.{Joins, target_there}
use Rattle.hs_json_model.proofs.NoFaults.{place_found}
use Rattle.hs_expr.proofs.Items.{head_same, tail_same}
use Rattle.hs_expr.proofs.Keys.{differ-unmapped}

-- ---- numbers

-- What is numbered by places from n on is that already.
numbered_same : (n : ℕ) (os : List Object) → map (λ (o : Object). o.number) os ≡ range_with_len n (length os) → objects_by_place n os ≡ os
numbered_same n [] e = refl
numbered_same n (o ∷ os) e =
    let here : o.number ≡ n = head_same o.number n (map (λ (o : Object). o.number) os) (range_with_len (n + 1) (length os)) e in
    ap (λ (k : ℕ). object k ∷ objects_by_place (n + 1) os) (sym here) ∙ ap (λ (xs : List Object). o ∷ xs) (numbered_same (n + 1) os (tail_same o.number n (map (λ (o : Object). o.number) os) (range_with_len (n + 1) (length os)) e))
  where
    object : ℕ → Object
    object k = record { number = k; name = o.name; class = o.class; slots = o.slots }

number_at : (n i : ℕ) (os : List Object) (o : Object) → map (λ (o : Object). o.number) os ≡ range_with_len n (length os) → slice_get os i ≡ Some o → o.number ≡ n + i
number_at n i [] o e at = absurd (none-some o at)
number_at n zero (x ∷ xs) o e at =
    let same : x ≡ o = same_Some x o at in
    let here : x.number ≡ n = head_same x.number n (map (λ (o : Object). o.number) xs) (range_with_len (n + 1) (length xs)) e in
    ap (λ (y : Object). y.number) (sym same) ∙ here ∙ (let plain : n ≡ n + 0 = omega arith in plain)
number_at n (suc i) (x ∷ xs) o e at =
    number_at (n + 1) i xs o (tail_same x.number n (map (λ (o : Object). o.number) xs) (range_with_len (n + 1) (length xs)) e) at ∙ (let later : n + 1 + i ≡ n + suc i = omega arith in later)

-- The place of an object is its number.
place_same : (g : Graph) (t : ℕ) (o : Object) → map (λ (o : Object). o.number) g.objects ≡ range_with_len 0 (length g.objects) → object_numbered g t ≡ Some o → place_in g t ≡ t
place_same g t o e at =
    let spot = place_found (λ (o : Object). eqb o.number t) g.objects o at in
    let p = position_or_len (λ (o : Object). eqb o.number t) g.objects in
    let number : o.number ≡ t = eqb-true o.number t (find-passes (λ (o : Object). eqb o.number t) g.objects o at) in
    ap (λ (i : Option ℕ). unwrap_or i 0) spot.1 ∙ sym (number_at 0 p g.objects o e spot.0 ∙ zero-add p) ∙ number

-- ---- edges

abbrev as_link : Edge → Link
as_link e = record { source = e.source; reference = e.reference; target = e.target }

edges_same : (n : ℕ) (es : List Edge) → map (λ (e : Edge). e.number) es ≡ range_with_len n (length es) → meaning.edges_of_links n (map as_link es) ≡ es
edges_same n [] h = refl
edges_same n (e ∷ es) h =
    let here : e.number ≡ n = head_same e.number n (map (λ (e : Edge). e.number) es) (range_with_len (n + 1) (length es)) h in
    ap (λ (k : ℕ). edge k ∷ meaning.edges_of_links (n + 1) (map as_link es)) (sym here) ∙ ap (λ (xs : List Edge). e ∷ xs) (edges_same (n + 1) es (tail_same e.number n (map (λ (e : Edge). e.number) es) (range_with_len (n + 1) (length es)) h))
  where
    edge : ℕ → Edge
    edge k = record { number = k; source = e.source; reference = e.reference; target = e.target }

mapped_flat : {A B C : Type 0} (h : B → C) (f : A → List B) (xs : List A) → flat_map (λ x. map h (f x)) xs ≡ map h (flat_map f xs)
mapped_flat h f [] = refl
mapped_flat {A} {B} {C} h f (x ∷ xs) = ap (λ (ys : List C). map h (f x) ++ ys) (mapped_flat h f xs) ∙ sym (map-append h (f x) (flat_map f xs))

-- The features of a class, each in its place.
later_place : (fs : List ℕ) → Differ fs → EachPair (λ n k. position_or_len (eqb k) fs ≤ position_or_len (eqb n) fs → ⊥) fs
later_place [] d = tt
later_place (f ∷ fs) d =
    (All-weaker (λ k. f ≡ k → ⊥) (λ k. position_or_len (eqb k) (f ∷ fs) ≤ position_or_len (eqb f) (f ∷ fs) → ⊥) first fs d.0, EachPair-known (λ k. f ≡ k → ⊥) (λ n k. position_or_len (eqb k) fs ≤ position_or_len (eqb n) fs → ⊥) (λ n k. position_or_len (eqb k) (f ∷ fs) ≤ position_or_len (eqb n) (f ∷ fs) → ⊥) rest fs d.0 (later_place fs d.1))
  where
    at_front : position_or_len (eqb f) (f ∷ fs) ≡ 0
    at_front = rw (eq-eqb f f refl) refl

    behind : (k : ℕ) → (f ≡ k → ⊥) → position_or_len (eqb k) (f ∷ fs) ≡ 1 + position_or_len (eqb k) fs
    behind k apart = rw (ne_eqb k f (λ s. apart (sym s))) refl

    none_below : (a b c : ℕ) → a ≡ 1 + c → b ≡ 0 → a ≤ b → ⊥
    none_below a b c e f h = absurd (omega (arith, e, f, h))

    both_above : (a b c d : ℕ) → a ≡ 1 + c → b ≡ 1 + d → a ≤ b → c ≤ d
    both_above a b c d e f h = omega (arith, e, f, h)

    first : (k : ℕ) → (f ≡ k → ⊥) → position_or_len (eqb k) (f ∷ fs) ≤ position_or_len (eqb f) (f ∷ fs) → ⊥
    first k apart h = none_below _ _ _ (behind k apart) at_front h

    rest : (n k : ℕ) → (f ≡ n → ⊥) → (f ≡ k → ⊥) → (position_or_len (eqb k) fs ≤ position_or_len (eqb n) fs → ⊥) → position_or_len (eqb k) (f ∷ fs) ≤ position_or_len (eqb n) (f ∷ fs) → ⊥
    rest n k s t apart h = apart (both_above _ _ _ _ (behind k t) (behind n s) h)

-- The edges from an object, with what is known of each.
abbrev Leaves : Metamodel → Graph → ℕ → Edge → Type 0
Leaves m g n e = (e.source ≡ n) × Joins m g e

leaving : (m : Metamodel) (g : Graph) (n : ℕ) → IsTyped m g → All (Leaves m g n) (edges_leaving g n)
leaving m g n typed = All-kept (Joins m g) (Leaves m g n) (λ (e : Edge). eqb e.source n) g.edges (λ e s j. (eqb-true e.source n s, j)) typed.edges_fit

stands_at : (g : Graph) (P : ℕ → Type 0) (n : ℕ) (o : Object) → object_numbered g n ≡ Some o → Stands g P n → P o.class
stands_at g P n o at is = subst (λ (x : Option Object). IsSomeAnd x (λ object. P object.class)) at is

link_same : (m : Metamodel) (g : Graph) (n f : ℕ) (es : List Edge) → IsOpening m g → All (λ (e : Edge). (e.reference ≡ f) × Leaves m g n e) es → map (link_between g n f) es ≡ map as_link es
link_same m g n f [] is all = refl
link_same m g n f (e ∷ es) is all =
    let h = All-head (λ (e : Edge). (e.reference ≡ f) × Leaves m g n e) e es all in
    let there = target_there m g e h.1.1 in
    ap (λ (l : Link). l ∷ map (link_between g n f) es)
    (ap (λ (s : ℕ). link s f (place_in g e.target)) (sym h.1.0) ∙ ap (λ (k : ℕ). link e.source k (place_in g e.target)) (sym h.0) ∙ ap (link e.source e.reference) (place_same g e.target there.0 is.objects_numbered there.1))
    ∙ ap (λ (ls : List Link). as_link e ∷ ls) (link_same m g n f es is (All-tail (λ (e : Edge). (e.reference ≡ f) × Leaves m g n e) e es all))
  where
    link : ℕ → ℕ → ℕ → Link
    link s r t = record { source = s; reference = r; target = t }

-- The edges from an object are in the order of its class's features.
object_same : (m : Metamodel) (g : Graph) (o : Object) → IsMeta m → IsOpening m g → object_numbered g o.number ≡ Some o → links_at m g o.number o ≡ map as_link (edges_leaving g o.number)
object_same m g o meta is at =
    flat_map-same (λ f. map (link_between g o.number f) (edges_by es f)) (λ f. map as_link (edges_by es f)) fs
    (λ i d h. link_same m g o.number _ (edges_by es _) is (All-kept (Leaves m g o.number) (λ (e : Edge). (e.reference ≡ _) × Leaves m g o.number e) (λ (e : Edge). eqb e.reference _) es (λ e s l. (eqb-true e.reference _ s, l)) leave))
    ∙ mapped_flat as_link (edges_by es) fs
    ∙ ap (map as_link) (grouped (λ a b. position_or_len (eqb a) fs ≤ position_or_len (eqb b) fs) (λ (e : Edge). e.reference) fs es differ (later_place fs differ)
    (All-weaker (Leaves m g o.number) (λ (e : Edge). has fs e.reference ≡ true) owned es leave)
    (EachPair-known (Leaves m g o.number) (EdgeBefore m g) (λ e f. position_or_len (eqb e.reference) fs ≤ position_or_len (eqb f.reference) fs) before es leave (EachPair-filter (EdgeBefore m g) (λ (e : Edge). eqb e.source o.number) g.edges is.edges_in_order)))
  where
    es : List Edge
    es = edges_leaving g o.number

    fs : List ℕ
    fs = features_of m o.class

    differ : Differ (features_of m o.class)
    differ = differ-unmapped (name_at m) (features_of m o.class) (names_differ m o.class meta)

    leave : All (Leaves m g o.number) (edges_leaving g o.number)
    leave = leaving m g o.number is.typed

    owned : (e : Edge) → Leaves m g o.number e → has (features_of m o.class) e.reference ≡ true
    owned e l = stands_at g (λ c. has (features_of m c) e.reference ≡ true) o.number o at (subst (Stands g (λ c. has (features_of m c) e.reference ≡ true)) l.0 l.1.0)

    none_first : (a b n : ℕ) → a ≡ n → b ≡ n → a < b → ⊥
    none_first a b n s t h = absurd (omega (arith, s, t, h))

    before : (e f : Edge) → Leaves m g o.number e → Leaves m g o.number f → EdgeBefore m g e f → position_or_len (eqb e.reference) (features_of m o.class) ≤ position_or_len (eqb f.reference) (features_of m o.class)
    before e f l k (inl h) = absurd (none_first e.source f.source o.number l.0 k.0 h)
    before e f l k (inr h) =
        stands_at g (λ c. position_or_len (eqb e.reference) (features_of m c) ≤ position_or_len (eqb f.reference) (features_of m c)) o.number o at
        (subst (Stands g (λ c. position_or_len (eqb e.reference) (features_of m c) ≤ position_or_len (eqb f.reference) (features_of m c))) l.0 h.1)

objects_same : (m : Metamodel) (g : Graph) (n : ℕ) (os : List Object) → IsMeta m → IsOpening m g → map (λ (o : Object). o.number) os ≡ range_with_len n (length os) → All (λ (o : Object). object_numbered g o.number ≡ Some o) os →
    links_by_place m g n os ≡ map as_link (flat_map (edges_leaving g) (map (λ (o : Object). o.number) os))
objects_same m g n [] meta is e all = refl
objects_same m g n (o ∷ os) meta is e all =
    let here : o.number ≡ n = head_same o.number n (map (λ (o : Object). o.number) os) (range_with_len (n + 1) (length os)) e in
    ap (λ (ls : List Link). ls ++ links_by_place m g (n + 1) os) (ap (λ (k : ℕ). links_at m g k o) (sym here) ∙ object_same m g o meta is (All-head (λ (o : Object). object_numbered g o.number ≡ Some o) o os all))
    ∙ ap (λ (ls : List Link). map as_link (edges_leaving g o.number) ++ ls)
    (objects_same m g (n + 1) os meta is (tail_same o.number n (map (λ (o : Object). o.number) os) (range_with_len (n + 1) (length os)) e) (All-tail (λ (o : Object). object_numbered g o.number ≡ Some o) o os all))
    ∙ sym (map-append as_link (edges_leaving g o.number) (flat_map (edges_leaving g) (map (λ (o : Object). o.number) os)))

risen : (low : ℕ) (ns : List ℕ) (high : ℕ) → Rise low ns high → EachPair (λ n k. k ≤ n → ⊥) ns
risen low [] high r = tt
risen low (n ∷ ns) high r = (All-weaker (λ k. n + 1 ≤ k) (λ k. k ≤ n → ⊥) (λ k h l. not_both n k h l) ns (rise_above (n + 1) ns high r.1), risen (n + 1) ns high r.1)
  where
    not_both : (n k : ℕ) → n + 1 ≤ k → k ≤ n → ⊥
    not_both n k h l = absurd (omega (arith, h, l))

found_has : (os : List Object) (n : ℕ) (P : Object → Type 0) → IsSomeAnd (find (λ (o : Object). eqb o.number n) os) P → has (map (λ (o : Object). o.number) os) n ≡ true
found_has [] n P is = absurd is
found_has (o ∷ os) n P is = go (eqb o.number n) refl is (found_has os n P)
  where
    go : (b : Bool) → eqb o.number n ≡ b → IsSomeAnd (cond b (Some o) (find (λ (o : Object). eqb o.number n) os)) P → (IsSomeAnd (find (λ (o : Object). eqb o.number n) os) P → has (map (λ (o : Object). o.number) os) n ≡ true) → has (map (λ (o : Object). o.number) (o ∷ os)) n ≡ true
    go true e i rest = subst (λ (k : ℕ). has (map (λ (o : Object). o.number) (o ∷ os)) k ≡ true) (eqb-true o.number n e) (has-here o.number (map (λ (o : Object). o.number) os))
    go false e i rest = has-later n o.number (map (λ (o : Object). o.number) os) (rest i)

links_same : (m : Metamodel) (g : Graph) → IsMeta m → IsOpening m g → links_by_place m g 0 g.objects ≡ map as_link g.edges
links_same m g meta is =
    let numbers = map (λ (o : Object). o.number) g.objects in
    objects_same m g 0 g.objects meta is is.objects_numbered
    (All-weaker (λ (o : Object). (0 ≤ o.number) × (object_numbered g o.number ≡ Some o)) (λ (o : Object). object_numbered g o.number ≡ Some o) (λ o h. h.1) g.objects (Rise-at (λ (o : Object). o.number) 0 g.objects g.next_object is.typed.objects_rise))
    ∙ ap (map as_link) (grouped (λ a b. a ≤ b) (λ (e : Edge). e.source) numbers g.edges (rise_differs 0 numbers g.next_object is.typed.objects_rise) (risen 0 numbers g.next_object is.typed.objects_rise)
    (All-weaker (Joins m g) (λ (e : Edge). has numbers e.source ≡ true) (λ e j. found_has g.objects e.source (λ object. has (features_of m object.class) e.reference ≡ true) j.0) g.edges is.typed.edges_fit)
    (EachPair-weaker (EdgeBefore m g) (λ e f. e.source ≤ f.source) before g.edges is.edges_in_order))
  where
    before : (e f : Edge) → EdgeBefore m g e f → e.source ≤ f.source
    before e f (inl h) = omega (arith, h)
    before e f (inr h) = omega (arith, h.0)

-- ---- the next name

abbrev next_name : List Object → ℕ
next_name os = meaning.next_name_after (map (λ (o : Object). o.name) os)

-- A name that counts a number is the one of that number, and that one counts it.
abbrev pub NamesCount : Type 0
NamesCount = (name : List ℕ) (k : ℕ) → hash_number name ≡ Some k → name ≡ hash_name k

abbrev pub NumbersCount : Type 0
NumbersCount = (k : ℕ) → hash_number (hash_name k) ≡ Some k

next_of : NamesCount → (name : List ℕ) (most : ℕ) → ((k : ℕ) → name ≡ hash_name k → k < most) → next_after name ≤ most
next_of names name most below = go (hash_number name) refl
  where
    go : (o : Option ℕ) → hash_number name ≡ o → option_map_or (λ k. k + 1) o 0 ≤ most
    go None e = omega arith
    go (Some k) e = let under = below k (names name k e) in let above : k + 1 ≤ most = omega (arith, under) in above

names_most : NamesCount → (os : List Object) (most : ℕ) → All (λ (o : Object). (k : ℕ) → o.name ≡ hash_name k → k < most) os → next_name os ≤ most
names_most names [] most all = omega arith
names_most names (o ∷ os) most all =
    let here = next_of names o.name most (All-head (λ (o : Object). (k : ℕ) → o.name ≡ hash_name k → k < most) o os all) in
    let rest = names_most names os most (All-tail (λ (o : Object). (k : ℕ) → o.name ≡ hash_name k → k < most) o os all) in
    omega (arith, clamps, here, rest)

names_under : (os : List Object) → All (λ (o : Object). next_after o.name ≤ next_name os) os
names_under [] = All-nil (λ (o : Object). next_after o.name ≤ 0)
names_under (o ∷ os) =
    All-cons (λ (x : Object). next_after x.name ≤ max (next_after o.name) (next_name os)) o os (omega (arith, clamps))
    (All-weaker (λ (x : Object). next_after x.name ≤ next_name os) (λ (x : Object). next_after x.name ≤ max (next_after o.name) (next_name os)) (λ x h. omega (arith, clamps, h)) os (names_under os))

next_least : NumbersCount → (os : List Object) (next : ℕ) → ((k : ℕ) → suc k ≡ next → Any (λ (o : Object). o.name ≡ hash_name k) os) → next ≤ next_name os
next_least numbers os zero there = omega arith
next_least numbers os (suc k) there =
    let any = there k refl in
    let counted : next_after any.1.name ≡ k + 1 = ap (λ (o : Option ℕ). option_map_or (λ k. k + 1) o 0) (ap hash_number any.4 ∙ numbers k) in
    let under = subst (λ (o : Object). next_after o.name ≤ next_name os) any.3 (names_under os any.0 any.1 any.2) in
    omega (arith, counted, under)

next_same : NamesCount → NumbersCount → (m : Metamodel) (g : Graph) → IsOpening m g → next_name g.objects ≡ g.next_name
next_same names numbers m g is =
    let most = names_most names g.objects g.next_name is.typed.names_below in
    let least = next_least numbers g.objects g.next_name is.next_name in
    omega (arith, most, least)

-- ---- the graph

abbrev graph : List Object → List Edge → ℕ → ℕ → ℕ → Graph
graph objects edges next_object next_edge next_name = record { objects = objects; edges = edges; next_object = next_object; next_edge = next_edge; next_name = next_name }

pub opening_same : NamesCount → NumbersCount → (m : Metamodel) (g : Graph) → IsMeta m → IsOpening m g → graph_by_place m g ≡ g
unfolding graph_by_place
opening_same names numbers m g meta is =
    ap (λ (os : List Object). graph os (meaning.edges_of_links 0 (links_by_place m g 0 g.objects)) (length g.objects) (length (links_by_place m g 0 g.objects)) (next_name g.objects)) (numbered_same 0 g.objects is.objects_numbered)
    ∙ ap (λ (ls : List Link). graph g.objects (meaning.edges_of_links 0 ls) (length g.objects) (length ls) (next_name g.objects)) (links_same m g meta is)
    ∙ ap (λ (es : List Edge). graph g.objects es (length g.objects) (length (map as_link g.edges)) (next_name g.objects)) (edges_same 0 g.edges is.edges_numbered)
    ∙ ap (λ (n : ℕ). graph g.objects g.edges n (length (map as_link g.edges)) (next_name g.objects)) (sym is.next_object)
    ∙ ap (λ (n : ℕ). graph g.objects g.edges g.next_object n (next_name g.objects)) (length-map g.edges as_link ∙ sym is.next_edge)
    ∙ ap (graph g.objects g.edges g.next_object g.next_edge) (next_same names numbers m g is)
