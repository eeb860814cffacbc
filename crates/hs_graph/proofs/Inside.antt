-- What is inside what, by counted steps and as a relation.
use Rattle.std.proofs.Common.{ℕ, ◌<◌, ◌≡◌, ◌↔◌, ◌&&◌, ◌||◌, List, [], ◌∷◌, Bool, true, false, cond, eqb, map, length, Option, Some, None, is_some, IsSomeAnd, inl, inr, slice_get, refl, ap, sym, ◌∙◌, subst, arith}
use Rattle.std.specs.List.{All, filter, filter_map}
use Rattle.std.specs.Option.{option_map, option_map_or}
use Rattle.std.proofs.lemmas.Bool.{and_parts, eq-eqb, eqb-true, false≢true, or_left, or_right}
use Rattle.std.proofs.lemmas.List.{length-map}
use Rattle.std.proofs.lemmas.List.Elements.{All-head, All-tail}
use Rattle.std.proofs.lemmas.List.Quantifiers.{position-Some}
use Rattle.std.proofs.lemmas.Option.{same_Some, slice_get-map, slice_get_cases}
use Rattle.hs_types.specs.declared.graph.Edge.{Edge}
use Rattle.hs_types.specs.declared.graph.Graph.{Graph}
use Rattle.hs_types.specs.declared.graph.Object.{Object}
use Rattle.hs_types.specs.declared.meta.Metamodel.{Metamodel}
use Rattle.hs_expr.specs.Lists.{has}
use Rattle.hs_types.specs.Reachability as below
use Rattle.hs_types.specs.Metamodel.{target_of}
use Rattle.hs_types.specs.TypedGraph.{IsOf, IsTyped, Stands, object_numbered}
use Rattle.hs_types.proofs.Paths.{says_reaches}
use Rattle.hs_reach.specs.Reaching.{TargetsAreVertices}
use Rattle.hs_types.proofs.Edges.{edge-from_test}
use Rattle.hs_graph.specs.Problems.{Contains, IsInside, by_way_of, contained_index, contained_objects, containment_lists, direct, edges_leaving, index_of, is_containment, is_in_itself}
use Rattle.hs_graph.proofs.Slots.{found}
use Rattle.hs_expr.proofs.Items.{any_at, is_some-position, position_within}

-- Two tests in order.
pub filter-both : {A : Type 0} (p q : A → Bool) (xs : List A) → filter q (filter p xs) ≡ filter (λ x. p x && q x) xs
filter-both p q [] = refl
filter-both {A} p q (x ∷ xs) = go (p x) (q x) (filter-both p q xs)
  where
    go : (a b : Bool) → filter q (filter p xs) ≡ filter (λ x. p x && q x) xs → filter q (cond a (x ∷ filter p xs) (filter p xs)) ≡ cond (a && q x) (x ∷ filter (λ x. p x && q x) xs) (filter (λ x. p x && q x) xs)
    go true b e = ap (λ ys. cond (q x) (x ∷ ys) ys) e
    go false b e = e

and_turned : (a b : Bool) → (a && b) ≡ (b && a)
and_turned true true = refl
and_turned true false = refl
and_turned false true = refl
and_turned false false = refl

pub filter-turned : {A : Type 0} (p q : A → Bool) (xs : List A) → filter p (filter q xs) ≡ filter q (filter p xs)
filter-turned p q xs = filter-both q p xs ∙ ap (λ t. filter t xs) (λ i x. and_turned (q x) (p x) i) ∙ sym (filter-both p q xs)

pub contents-both : (m : Metamodel) (g : Graph) (n : ℕ) → contained_objects m g n ≡ map (λ (e : Edge). e.target) (filter (λ (e : Edge). eqb e.source n && is_containment m e.reference) g.edges)
contents-both m g n = ap (map (λ (e : Edge). e.target)) (filter-both (λ (e : Edge). eqb e.source n) (λ (e : Edge). is_containment m e.reference) g.edges)

-- ---- objects and their indices

-- What is found at an index has the number.
object_indexed : (g : Graph) (n i : ℕ) → index_of g n ≡ Some i → (o : Object) × (slice_get g.objects i ≡ Some o) × (o.number ≡ n)
object_indexed g n i e =
    let low = position_within (λ (o : Object). eqb o.number n) g.objects i e in
    elim (slice_get_cases g.objects i).1 [
      | inl there ↦
          let passes = (position-Some (λ (o : Object). eqb o.number n) g.objects i there.0 e).1 in
          (there.0, there.2, eqb-true there.0.number n (ap (λ (o : Object). eqb o.number n) (sym there.3) ∙ passes))
      | inr past ↦ absurd (omega (arith, low, past.0))
    ]

-- Two numbers of one index are the same.
same_number : (g : Graph) (n k i : ℕ) → index_of g n ≡ Some i → index_of g k ≡ Some i → n ≡ k
same_number g n k i e f =
    let one = object_indexed g n i e in
    let other = object_indexed g k i f in
    sym one.2 ∙ ap (λ (o : Object). o.number) (same_Some one.0 other.0 (sym one.1 ∙ other.1)) ∙ other.2

-- The number is one of an object.
abbrev HasIndex : Graph → ℕ → Type 0
HasIndex g n = (i : ℕ) × (index_of g n ≡ Some i)

has_index : (g : Graph) (P : ℕ → Type 0) (n : ℕ) → Stands g P n → HasIndex g n
has_index g P n s = go (object_numbered g n) refl s
  where
    indexed : (o : Option ℕ) → index_of g n ≡ o → is_some o ≡ true → HasIndex g n
    indexed None e t = absurd (false≢true t)
    indexed (Some i) e t = (i, e)

    go : (o : Option Object) → object_numbered g n ≡ o → IsSomeAnd o (λ object. P object.class) → HasIndex g n
    go None e t = absurd t
    go (Some object) e t =
        let here = found (λ (object : Object). eqb object.number n) g.objects object e in
        indexed (index_of g n) refl (is_some-position (λ (object : Object). eqb object.number n) g.objects ∙ any_at (λ (object : Object). eqb object.number n) g.objects here.place object here.at here.passes)

-- ---- both ends of a containment are objects

contained-source : (P : ℕ → Type 0) (p : Edge → Bool) (n k : ℕ) (es : List Edge) → All (λ (e : Edge). P e.source) es → has (map (λ (e : Edge). e.target) (filter (λ (e : Edge). eqb e.source n && p e) es)) k ≡ true → P n
contained-source P p n k [] a h = absurd (false≢true h)
contained-source P p n k (e ∷ es) a h = go (contained-source P p n k es (All-tail (λ (e : Edge). P e.source) e es a)) (eqb e.source n && p e) refl h
  where
    go : (has (map (λ (e : Edge). e.target) (filter (λ (e : Edge). eqb e.source n && p e) es)) k ≡ true → P n) → (b : Bool) → (eqb e.source n && p e) ≡ b →
        has (map (λ (e : Edge). e.target) (cond b (e ∷ filter (λ (e : Edge). eqb e.source n && p e) es) (filter (λ (e : Edge). eqb e.source n && p e) es))) k ≡ true → P n
    go later true t f = subst P (eqb-true e.source n (and_parts (eqb e.source n) (p e) t).0) (All-head (λ (e : Edge). P e.source) e es a)
    go later false t f = later f

contained-target : (P : ℕ → Type 0) (p : Edge → Bool) (k : ℕ) (es : List Edge) → All (λ (e : Edge). P e.target) es → has (map (λ (e : Edge). e.target) (filter p es)) k ≡ true → P k
contained-target P p k [] a h = absurd (false≢true h)
contained-target P p k (e ∷ es) a h = go (contained-target P p k es (All-tail (λ (e : Edge). P e.target) e es a)) (p e) h
  where
    here : (b : Bool) → eqb k e.target ≡ b → (has (map (λ (e : Edge). e.target) (filter p es)) k ≡ true → P k) → (b || has (map (λ (e : Edge). e.target) (filter p es)) k) ≡ true → P k
    here true t later f = subst P (sym (eqb-true k e.target t)) (All-head (λ (e : Edge). P e.target) e es a)
    here false t later f = later f

    go : (has (map (λ (e : Edge). e.target) (filter p es)) k ≡ true → P k) → (b : Bool) → has (map (λ (e : Edge). e.target) (cond b (e ∷ filter p es) (filter p es))) k ≡ true → P k
    go later true f = here (eqb k e.target) refl later f
    go later false f = later f

source_indexed : (m : Metamodel) (g : Graph) (n k : ℕ) → IsTyped m g → Contains m g n k → HasIndex g n
source_indexed m g n k typed c =
    contained-source (HasIndex g) (λ (e : Edge). is_containment m e.reference) n k g.edges (λ i e h. has_index g _ _ (typed.edges_fit i e h).0) (ap (λ ks. has ks k) (sym (contents-both m g n)) ∙ c)

target_indexed : (m : Metamodel) (g : Graph) (n k : ℕ) → IsTyped m g → Contains m g n k → HasIndex g k
target_indexed m g n k typed c =
    contained-target (HasIndex g) (λ (e : Edge). eqb e.source n && is_containment m e.reference) k g.edges (λ i e h. go _ (target_of m _) (typed.edges_fit i e h).1) (ap (λ ks. has ks k) (sym (contents-both m g n)) ∙ c)
  where
    go : (n : ℕ) (o : Option ℕ) → IsSomeAnd o (λ class. IsOf m g class n) → HasIndex g n
    go n None s = absurd s
    go n (Some class) s = has_index g _ n s

-- ---- what an object contains, by numbers and by indices

abbrev indices : Metamodel → Graph → List Edge → List ℕ
indices m g es = filter_map (contained_index m g) es

abbrev numbers : Metamodel → List Edge → List ℕ
numbers m es = map (λ (e : Edge). e.target) (filter (λ (e : Edge). is_containment m e.reference) es)

to_index : (m : Metamodel) (g : Graph) (k j : ℕ) (es : List Edge) → has (numbers m es) k ≡ true → index_of g k ≡ Some j → has (indices m g es) j ≡ true
to_index m g k j [] h at = absurd (false≢true h)
to_index m g k j (e ∷ es) h at = go (is_containment m e.reference) refl (λ t. to_index m g k j es t at) h
  where
    beside : (o : Option ℕ) → contained_index m g e ≡ o → has (indices m g es) j ≡ true → has (indices m g (e ∷ es)) j ≡ true
    beside None is t = rw is t
    beside (Some i) is t = rw is (or_right (eqb j i) (has (indices m g es) j) t)

    here : (b : Bool) → eqb k e.target ≡ b → is_containment m e.reference ≡ true → (has (numbers m es) k ≡ true → has (indices m g es) j ≡ true) → (b || has (numbers m es) k) ≡ true → has (indices m g (e ∷ es)) j ≡ true
    here true same contains later f =
        let is : contained_index m g e ≡ Some j = rw contains (ap (index_of g) (sym (eqb-true k e.target same)) ∙ at) in
        rw is (or_left (eqb j j) (has (indices m g es) j) (eq-eqb j j refl))
    here false same contains later f = beside (contained_index m g e) refl (later f)

    go : (b : Bool) → is_containment m e.reference ≡ b → (has (numbers m es) k ≡ true → has (indices m g es) j ≡ true) →
        has (map (λ (e : Edge). e.target) (cond b (e ∷ filter (λ (e : Edge). is_containment m e.reference) es) (filter (λ (e : Edge). is_containment m e.reference) es))) k ≡ true → has (indices m g (e ∷ es)) j ≡ true
    go true contains later f = here (eqb k e.target) refl contains later f
    go false contains later f = beside (contained_index m g e) refl (later f)

-- A number that is contained and has this index.
abbrev IsNumbered : Metamodel → Graph → ℕ → List Edge → ℕ → Type 0
IsNumbered m g j es k = (has (numbers m es) k ≡ true) × (index_of g k ≡ Some j)

from_index : (m : Metamodel) (g : Graph) (j : ℕ) (es : List Edge) → has (indices m g es) j ≡ true → (k : ℕ) × IsNumbered m g j es k
from_index m g j [] h = absurd (false≢true h)
from_index m g j (e ∷ es) h = go (is_containment m e.reference) refl (index_of g e.target) refl (from_index m g j es) h
  where
    contained : is_containment m e.reference ≡ true → numbers m (e ∷ es) ≡ e.target ∷ numbers m es
    contained contains = rw contains refl

    later : (k : ℕ) × IsNumbered m g j es k → (k : ℕ) × IsNumbered m g j (e ∷ es) k
    later rest = (rest.0, (skip (is_containment m e.reference) refl rest.1.0, rest.1.1))
      where
        skip : (b : Bool) → is_containment m e.reference ≡ b → has (numbers m es) rest.0 ≡ true → has (numbers m (e ∷ es)) rest.0 ≡ true
        skip true contains t = rw contains (or_right (eqb rest.0 e.target) (has (numbers m es) rest.0) t)
        skip false contains t = rw contains t

    first : (i : ℕ) (b : Bool) → eqb j i ≡ b → is_containment m e.reference ≡ true → index_of g e.target ≡ Some i → (has (indices m g es) j ≡ true → (k : ℕ) × IsNumbered m g j es k) →
        (b || has (indices m g es) j) ≡ true → (k : ℕ) × IsNumbered m g j (e ∷ es) k
    first i true same contains at rest f =
        (e.target, (rw contains (or_left (eqb e.target e.target) (has (numbers m es) e.target) (eq-eqb e.target e.target refl)), at ∙ ap Some (sym (eqb-true j i same))))
    first i false same contains at rest f = later (rest f)

    go : (b : Bool) → is_containment m e.reference ≡ b → (o : Option ℕ) → index_of g e.target ≡ o → (has (indices m g es) j ≡ true → (k : ℕ) × IsNumbered m g j es k) →
        has (indices m g (e ∷ es)) j ≡ true → (k : ℕ) × IsNumbered m g j (e ∷ es) k
    go true contains (Some i) at rest f = first i (eqb j i) refl contains at rest (let is : contained_index m g e ≡ Some i = rw contains at in rw is at f)
    go true contains None at rest f = later (rest (let is : contained_index m g e ≡ None = rw contains at in rw is at f))
    go false contains o at rest f = later (rest (let is : contained_index m g e ≡ None = rw contains refl in rw is at f))

-- ---- rows and containment

abbrev row_of : Metamodel → Graph → Object → List ℕ
row_of m g object = indices m g (edges_leaving g object.number)

-- What an edge between indices says of numbers.
to_contains : (m : Metamodel) (g : Graph) (n i j : ℕ) → index_of g n ≡ Some i → below.HasEdge (containment_lists m g) i j → (k : ℕ) × Contains m g n k × (index_of g k ≡ Some j)
to_contains m g n i j at edge =
    let here = object_indexed g n i at in
    let row : slice_get (containment_lists m g) i ≡ Some (row_of m g here.0) = slice_get-map (row_of m g) g.objects i ∙ ap (option_map (row_of m g)) here.1 in
    let listed : has (row_of m g here.0) j ≡ true = subst (λ (o : Option (List ℕ)). IsSomeAnd o (λ targets. has targets j ≡ true)) row edge in
    let numbered = from_index m g j (edges_leaving g here.0.number) listed in
    (numbered.0, ap (λ l. has (contained_objects m g l) numbered.0) (sym here.2) ∙ numbered.1.0, numbered.1.1)

to_edge : (m : Metamodel) (g : Graph) (n k i j : ℕ) → index_of g n ≡ Some i → index_of g k ≡ Some j → Contains m g n k → below.HasEdge (containment_lists m g) i j
to_edge m g n k i j at to is =
    let here = object_indexed g n i at in
    let row : slice_get (containment_lists m g) i ≡ Some (row_of m g here.0) = slice_get-map (row_of m g) g.objects i ∙ ap (option_map (row_of m g)) here.1 in
    subst (λ (o : Option (List ℕ)). IsSomeAnd o (λ targets. has targets j ≡ true)) (sym row)
    (to_index m g k j (edges_leaving g here.0.number) (ap (λ l. has (contained_objects m g l) k) here.2 ∙ is) to)

to_inside : (m : Metamodel) (g : Graph) (n k i j : ℕ) → index_of g n ≡ Some i → index_of g k ≡ Some j → below.Reaches (containment_lists m g) i j → IsInside m g n k
to_inside m g n k i j at to (below.direct _ _ step) =
    let one = to_contains m g n i j at step in
    direct n k (subst (Contains m g n) (same_number g one.0 k j one.2 to) one.1)
to_inside m g n k i j at to (below.by_way_of _ l _ step rest) =
    let one = to_contains m g n i l at step in
    by_way_of n one.0 k one.1 (to_inside m g one.0 k l j one.2 to rest)

to_below : (m : Metamodel) (g : Graph) (n k i j : ℕ) → IsTyped m g → index_of g n ≡ Some i → index_of g k ≡ Some j → IsInside m g n k → below.Reaches (containment_lists m g) i j
to_below m g n k i j typed at to (direct _ _ step) = below.direct i j (to_edge m g n k i j at to step)
to_below m g n k i j typed at to (by_way_of _ l _ step rest) =
    let middle = target_indexed m g n l typed step in
    below.by_way_of i middle.0 j (to_edge m g n l i middle.0 at middle.1 step) (to_below m g l k middle.0 j typed middle.1 to rest)

outer : (m : Metamodel) (g : Graph) (n k : ℕ) → IsTyped m g → IsInside m g n k → HasIndex g n
outer m g n k typed (direct _ _ step) = source_indexed m g n k typed step
outer m g n k typed (by_way_of _ l _ step rest) = source_indexed m g n l typed step

-- The counted steps say the relation.
pub inside_says : (m : Metamodel) (g : Graph) (n : ℕ) → IsTyped m g → (is_in_itself m g n ≡ true) ↔ IsInside m g n n
inside_says m g n typed = (λ e. to (index_of g n) refl e, λ inside. from (outer m g n n typed inside) inside)
  where
    to : (o : Option ℕ) → index_of g n ≡ o → option_map_or (λ i. below.reaches (containment_lists m g) i i) o false ≡ true → IsInside m g n n
    to None at e = absurd (false≢true e)
    to (Some i) at e = to_inside m g n n i i at at ((says_reaches (containment_lists m g) i i).0 e)

    from : HasIndex g n → IsInside m g n n → is_in_itself m g n ≡ true
    from at inside = ap (λ (o : Option ℕ). option_map_or (λ i. below.reaches (containment_lists m g) i i) o false) at.1 ∙ (says_reaches (containment_lists m g) at.0 at.0).1 (to_below m g n n at.0 at.0 typed at.1 at.1 inside)

-- What is contained is at an index of an object.
pub contents-whole : (m : Metamodel) (g : Graph) → TargetsAreVertices (containment_lists m g)
contents-whole m g n k step = go (slice_get g.objects n) refl (edge-from_test (containment_lists m g) n k step)
  where
    go : (o : Option Object) → slice_get g.objects n ≡ o → below.HasEdge (containment_lists m g) n k → k < length (containment_lists m g)
    go None at edge = absurd (subst (λ (o : Option (List ℕ)). IsSomeAnd o (λ targets. has targets k ≡ true)) (slice_get-map (row_of m g) g.objects n ∙ ap (option_map (row_of m g)) at) edge)
    go (Some object) at edge =
        let listed : has (row_of m g object) k ≡ true = subst (λ (o : Option (List ℕ)). IsSomeAnd o (λ targets. has targets k ≡ true)) (slice_get-map (row_of m g) g.objects n ∙ ap (option_map (row_of m g)) at) edge in
        let numbered = from_index m g k (edges_leaving g object.number) listed in
        let low = position_within (λ (o : Object). eqb o.number numbered.0) g.objects k numbered.1.1 in
        omega (arith, low, length-map g.objects (row_of m g))
