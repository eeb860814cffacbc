-- The graph that written objects mean, where they have no fault, is one from which a journal begins.
use Rattle.std.proofs.Common.{◌≡◌, ◌≤◌, ◌<◌, ◌+◌, ◌++◌, ◌&&◌, ◌||◌, not, nat_le, nat_lt, ◌⊎◌, inl, inr, ℕ, zero, suc, List, [], ◌∷◌, Bool, true, false, eqb, map, max, length, take, Option, Some, None, IsSomeAnd, slice_get, refl, ap, sym, ◌∙◌, subst, arith, append_assoc, length-append, add-zero, zero-add}
use Rattle.std.specs.List.{All, Any, find, flat_map, list_any, position_or_len, range_with_len}
use Rattle.std.specs.Option.{option_map, option_map_or, unwrap_or}
use Rattle.std.proofs.Math.Nat.{le_refl}
use Rattle.std.proofs.lemmas.Bool.{both_ways, eq-eqb, eqb-true, ne_eqb, or_parts, false≢true}
use Rattle.std.proofs.lemmas.Bool.Decides.{nat_tests}
use Rattle.std.proofs.lemmas.Int.{clamps}
use Rattle.std.proofs.lemmas.List.Elements.{All-nil, All-cons, All-head, All-tail, All-append, All-weaker}
use Rattle.std.proofs.lemmas.Option.{none-some, same_Some, slice_get-map}
use Rattle.std.proofs.lemmas.Slice.Eq.{bytes_eq-Decides}
use Rattle.hs_types.specs.declared.graph.Edge.{Edge}
use Rattle.hs_types.specs.declared.graph.Graph.{Graph}
use Rattle.hs_types.specs.declared.graph.Object.{Object}
use Rattle.hs_types.specs.declared.meta.Metamodel.{Metamodel}
use Rattle.hs_expr.specs.Lists.{Differ, EachPair, Rise, has, same_text}
use Rattle.hs_types.specs.Metamodel.{Conforms, IsMeta, feature_at, features_of, target_of}
use Rattle.hs_types.specs.TypedGraph.{AreSlotsOf, CanJoin, HasFeature, IsOf, IsOpening, Stands, hash_name, object_numbered}
use Rattle.hs_graph.specs.declared.edges.Link.{Link}
use Rattle.hs_graph.specs.declared.fault.GraphPlace.TheVariants as place
use Rattle.hs_graph.specs.declared.raw.RawObject.{RawObject}
use Rattle.hs_graph.specs.declared.raw.RawRef.{RawRef}
use Rattle.hs_graph.specs.Faults.{both_conform, graph_faults, leads_to, reach_faults, ref_faults_at, target_faults_at, targets_faults}
use Rattle.hs_graph.specs.Links.{all_links, link_of, links_of_objects, links_of, targets_at}
use Rattle.hs_graph.specs.Lookups.{class_of_object, classes_of_objects, is_reference, is_reference_named, object_names, place_of, reference_named}
use Rattle.hs_graph.specs.Meaning.{edges_of_links, graph_of, next_name_after, object_of_raw, objects_from}
use Rattle.hs_graph.specs.Names.{hash_number, is_object_name, next_after}
use Rattle.hs_graph.proofs.Clean.{Clean, clean, not_false}
use Rattle.hs_types.proofs.Conforming.{conforms_to}
use Rattle.hs_graph.proofs.Hash.{name-of_hash, number-of_hash}
use Rattle.hs_expr.proofs.Items.{is_some-position, has_at, All-across, EachPair-all}
use Rattle.hs_graph.proofs.Slots.{features-named, found, same_feature, slots-sound, slots-whole}
use Rattle.hs_expr.proofs.Clean.{some-not_none, no_test, clean_at}
use Rattle.hs_expr.proofs.Lists.{EachPair-append, All-rest_of}
use Rattle.hs_expr.proofs.Keys.{differ-unmapped}

-- ---- objects

length-objects : (m : Metamodel) (n : ℕ) (ws : List RawObject) → length (objects_from m n ws) ≡ length ws
length-objects m n [] = refl
length-objects m n (w ∷ ws) = ap suc (length-objects m (n + 1) ws)

length-edges : (n : ℕ) (ls : List Link) → length (edges_of_links n ls) ≡ length ls
length-edges n [] = refl
length-edges n (l ∷ ls) = ap suc (length-edges (n + 1) ls)

found_at : (m : Metamodel) (n k c : ℕ) (ws : List RawObject) (w : RawObject) → slice_get ws k ≡ Some w → c ≡ n + k →
    find (λ (o : Object). eqb o.number c) (objects_from m n ws) ≡ Some (object_of_raw m c w)
found_at m n k c [] w e h = absurd (none-some w e)
found_at m n zero c (v ∷ vs) w e h =
    let here : n ≡ c = sym (h ∙ add-zero n) in
    rw (eq-eqb n c here) (ap (λ i. Some (object_of_raw m i v)) here ∙ ap (λ (x : RawObject). Some (object_of_raw m c x)) (same_Some v w e))
found_at m n (suc k) c (v ∷ vs) w e h =
    rw (ne_eqb n c (λ same. absurd (omega arith))) (found_at m (n + 1) k c vs w e (omega arith))

numbers-objects : (m : Metamodel) (n : ℕ) (ws : List RawObject) → map (λ (o : Object). o.number) (objects_from m n ws) ≡ range_with_len n (length ws)
numbers-objects m n [] = refl
numbers-objects m n (w ∷ ws) = ap (λ ns. n ∷ ns) (numbers-objects m (n + 1) ws)

names-objects : (m : Metamodel) (n : ℕ) (ws : List RawObject) → map (λ (o : Object). o.name) (objects_from m n ws) ≡ object_names ws
names-objects m n [] = refl
names-objects m n (w ∷ ws) = ap (λ ns. w.name ∷ ns) (names-objects m (n + 1) ws)

range-rises : (n k high : ℕ) → n + k ≡ high → Rise n (range_with_len n k) high
range-rises n zero high e = omega arith
range-rises n (suc k) high e = (le_refl n, range-rises (n + 1) k high (omega arith))

-- The objects of these places, as they are in a longer list.
abbrev StandAt : ℕ → List RawObject → List RawObject → Type 0
StandAt n vs ws = (k : ℕ) (v : RawObject) → slice_get vs k ≡ Some v → slice_get ws (n + k) ≡ Some v

next_stand : (n : ℕ) (v : RawObject) (vs ws : List RawObject) → StandAt n (v ∷ vs) ws → StandAt (n + 1) vs ws
next_stand n v vs ws at k u t = ap (slice_get ws) (let same : n + 1 + k ≡ n + suc k = omega arith in same) ∙ at (suc k) u t

first_stands : (n : ℕ) (v : RawObject) (vs ws : List RawObject) → StandAt n (v ∷ vs) ws → slice_get ws n ≡ Some v
first_stands n v vs ws at = ap (slice_get ws) (sym (add-zero n)) ∙ at 0 v refl

objects-fit : (m : Metamodel) (ws : List RawObject) (n : ℕ) (vs : List RawObject) → IsMeta m → Clean m ws → StandAt n vs ws → All (λ (o : Object). AreSlotsOf m o.class o.slots) (objects_from m n vs)
objects-fit m ws n [] is c at = All-nil (λ o. AreSlotsOf m o.class o.slots)
objects-fit m ws n (v ∷ vs) is c at =
    let here = first_stands n v vs ws at in
    All-cons (λ (o : Object). AreSlotsOf m o.class o.slots) (object_of_raw m n v) (objects_from m (n + 1) vs)
    (c.concrete n v here, slots-whole m (class_of_object m v) v.attrs, slots-sound m (class_of_object m v) n v.attrs is (c.attrs n v here))
    (objects-fit m ws (n + 1) vs is c (next_stand n v vs ws at))

-- ---- names

none_same : (names : List (List ℕ)) (name : List ℕ) → ((k : ℕ) (t : List ℕ) → slice_get names k ≡ Some t → list_any (same_text t) (name ∷ take k names) ≡ false) → All (λ t. name ≡ t → ⊥) names
none_same names name h = all_at (λ t. name ≡ t → ⊥) names (λ k t at same. both_ways (same_text t name) (or_parts (same_text t name) (list_any (same_text t) (take k names)) (h k t at)).0 ((bytes_eq-Decides t name).1 (sym same)))
  where
    all_at : {A : Type 0} (P : A → Type 0) (xs : List A) → ((k : ℕ) (x : A) → slice_get xs k ≡ Some x → P x) → All P xs
    all_at P [] h = All-nil P
    all_at P (x ∷ xs) h = All-cons P x xs (h 0 x refl) (all_at P xs (λ k y at. h (suc k) y at))

names-differ : (names : List (List ℕ)) → ((k : ℕ) (t : List ℕ) → slice_get names k ≡ Some t → list_any (same_text t) (take k names) ≡ false) → Differ names
names-differ [] h = tt
names-differ (name ∷ names) h =
    let later = λ (k : ℕ) (t : List ℕ) (at : slice_get names k ≡ Some t). h (suc k) t at in
    (none_same names name later, names-differ names (λ k t at. (or_parts (same_text t name) (list_any (same_text t) (take k names)) (later k t at)).1))

name-at : (ws : List RawObject) (k : ℕ) (t : List ℕ) → slice_get (object_names ws) k ≡ Some t → (w : RawObject) × (slice_get ws k ≡ Some w) × (w.name ≡ t)
name-at [] k t e = absurd (none-some t e)
name-at (w ∷ ws) zero t e = (w, refl, same_Some w.name t e)
name-at (w ∷ ws) (suc k) t e = name-at ws k t e

clean-differ : (m : Metamodel) (ws : List RawObject) → Clean m ws → Differ (object_names ws)
clean-differ m ws c = names-differ (object_names ws) (λ k t at.
    let w = name-at ws k t at in
    ap (λ s. list_any (same_text s) (take k (object_names ws))) (sym w.2)
    ∙ sym (is_some-position (same_text w.0.name) (take k (object_names ws))) ∙ c.apart k w.0 w.1)

after-hash : (name : List ℕ) (k : ℕ) → name ≡ hash_name k → next_after name ≡ k + 1
after-hash name k e = ap next_after e ∙ ap (λ (o : Option ℕ). option_map_or (λ k. k + 1) o 0) (number-of_hash k)

names-below : (m : Metamodel) (n most : ℕ) (ws : List RawObject) → next_name_after (object_names ws) ≤ most → All (λ (o : Object). (k : ℕ) → o.name ≡ hash_name k → k < most) (objects_from m n ws)
names-below m n most [] h = All-nil (λ o. (k : ℕ) → o.name ≡ hash_name k → k < most)
names-below m n most (w ∷ ws) h =
    All-cons (λ (o : Object). (k : ℕ) → o.name ≡ hash_name k → k < most) (object_of_raw m n w) (objects_from m (n + 1) ws)
    (λ k e. let after = after-hash w.name k e in omega (arith, clamps, h, after))
    (names-below m (n + 1) most ws (omega (arith, clamps, h)))

hash-after : (name : List ℕ) (k : ℕ) → next_after name ≡ suc k → name ≡ hash_name k
hash-after name k e = go (hash_number name) refl e
  where
    go : (o : Option ℕ) → hash_number name ≡ o → option_map_or (λ k. k + 1) o 0 ≡ suc k → name ≡ hash_name k
    go None is f = absurd (omega (arith, f))
    go (Some j) is f = let same : j ≡ k = omega (arith, f) in name-of_hash name k (is ∙ ap Some same)

larger-is : (a b c : ℕ) → max a b ≡ c → (a ≡ c) ⊎ (b ≡ c)
larger-is a b c e = go (eqb a c) refl
  where
    go : (t : Bool) → eqb a c ≡ t → (a ≡ c) ⊎ (b ≡ c)
    go true t = inl (eqb-true a c t)
    go false t = inr (grind (arith, clamps, e))

next-there : (m : Metamodel) (n k : ℕ) (ws : List RawObject) → suc k ≡ next_name_after (object_names ws) → Any (λ (o : Object). o.name ≡ hash_name k) (objects_from m n ws)
next-there m n k [] e = absurd (omega (arith, e))
next-there m n k (w ∷ ws) e = go (next-there m (n + 1) k ws) (larger-is (next_after w.name) (next_name_after (object_names ws)) (suc k) (sym e))
  where
    go : (suc k ≡ next_name_after (object_names ws) → Any (λ (o : Object). o.name ≡ hash_name k) (objects_from m (n + 1) ws)) → (next_after w.name ≡ suc k) ⊎ (next_name_after (object_names ws) ≡ suc k) → Any (λ (o : Object). o.name ≡ hash_name k) (objects_from m n (w ∷ ws))
    go later (inl here) = (0, object_of_raw m n w, omega arith, refl, hash-after w.name k here)
    go later (inr there) = let rest = later (sym there) in (suc rest.0, rest.1, omega (arith, rest.2), rest.3, rest.4)

-- ---- what is in the graph

-- The objects of the graph are these.
abbrev HasObjects : Metamodel → List RawObject → Graph → Type 0
HasObjects m ws g = g.objects ≡ objects_from m 0 ws

stands : (m : Metamodel) (ws : List RawObject) (g : Graph) (P : ℕ → Type 0) (n : ℕ) (w : RawObject) → HasObjects m ws g → slice_get ws n ≡ Some w → P (class_of_object m w) → Stands g P n
stands m ws g P n w is e p =
    let at : object_numbered g n ≡ Some (object_of_raw m n w) =
    ap (λ os. find (λ (o : Object). eqb o.number n) os) is ∙ found_at m 0 n n ws w e (omega arith) in
    subst (λ (o : Option Object). IsSomeAnd o (λ object. P object.class)) (sym at) p

-- ---- edges join what they can join

abbrev Joins : Metamodel → Graph → Link → Type 0
Joins m g link = CanJoin m g link.source link.reference link.target

conform-to : (m : Metamodel) (class : ℕ) (o : Option ℕ) → both_conform m (Some class) o ≡ true → IsSomeAnd o (λ above. Conforms m class above)
conform-to m class None e = absurd (false≢true e)
conform-to m class (Some above) e = conforms_to m class above e

some-and : {P Q : ℕ → Type 0} (o : Option ℕ) → ((x : ℕ) → P x → Q x) → IsSomeAnd o P → IsSomeAnd o Q
some-and None h s = s
some-and (Some x) h s = h x s

target-joins : (m : Metamodel) (ws : List RawObject) (g : Graph) (f i r t : ℕ) (name : List ℕ) → HasObjects m ws g → target_faults_at m (object_names ws) (classes_of_objects m ws) f i r t name ≡ [] →
    IsSomeAnd (target_of m f) (λ class. IsOf m g class (unwrap_or (place_of (object_names ws) name) 0))
target-joins m ws g f i r t name is e = placed (place_of (object_names ws) name) e
  where
    of-class : (j : ℕ) (o : Option RawObject) → slice_get ws j ≡ o → both_conform m (option_map (class_of_object m) o) (target_of m f) ≡ true → IsSomeAnd (target_of m f) (λ class. IsOf m g class j)
    of-class j None at e = absurd (false≢true e)
    of-class j (Some w) at e = some-and (target_of m f) (λ above c. stands m ws g (λ k. Conforms m k above) j w is at c) (conform-to m (class_of_object m w) (target_of m f) e)

    placed : (o : Option ℕ) → reach_faults m (classes_of_objects m ws) f (place.Target i r t) o ≡ [] → IsSomeAnd (target_of m f) (λ class. IsOf m g class (unwrap_or o 0))
    placed None e = absurd (some-not_none _ [] e)
    placed (Some j) e = of-class j (slice_get ws j) refl
        (ap (λ (o : Option ℕ). both_conform m o (target_of m f)) (sym (slice_get-map (class_of_object m) ws j)) ∙ not_false (leads_to m (classes_of_objects m ws) f j) (no_test _ _ e))

joins-targets : (m : Metamodel) (ws : List RawObject) (g : Graph) (n f i r : ℕ) (ts : List (List ℕ)) → HasObjects m ws g → HasFeature m g f n →
    ((t : ℕ) (name : List ℕ) → slice_get ts t ≡ Some name → IsSomeAnd (target_of m f) (λ class. IsOf m g class (unwrap_or (place_of (object_names ws) name) 0))) →
    All (Joins m g) (map (link_of (object_names ws) n f) ts)
joins-targets m ws g n f i r [] is has fine = All-nil (Joins m g)
joins-targets m ws g n f i r (t ∷ ts) is has fine =
    All-cons (Joins m g) (link_of (object_names ws) n f t) (map (link_of (object_names ws) n f) ts)
    (has, fine 0 t refl)
    (joins-targets m ws g n f i r ts is has (λ k name at. fine (suc k) name at))

-- The edges of one feature.
joins-feature : (m : Metamodel) (ws : List RawObject) (g : Graph) (n class f : ℕ) (refs : List RawRef) → IsMeta m → HasObjects m ws g → HasFeature m g f n → has (features_of m class) f ≡ true →
    ((r : ℕ) (ref : RawRef) → slice_get refs r ≡ Some ref → ref_faults_at m (object_names ws) (classes_of_objects m ws) class n r ref ≡ []) →
    All (Joins m g) (map (link_of (object_names ws) n f) (targets_at m refs f))
joins-feature m ws g n class f refs meta is has_f h fine = go (find (λ (ref : RawRef). is_reference_named m ref.name f) refs) refl
  where
    go : (o : Option RawRef) → find (λ (ref : RawRef). is_reference_named m ref.name f) refs ≡ o → All (Joins m g) (map (link_of (object_names ws) n f) (option_map_or (λ (ref : RawRef). ref.targets) (find (λ (ref : RawRef). is_reference_named m ref.name f) refs) []))
    go None e = subst (λ (o : Option RawRef). All (Joins m g) (map (link_of (object_names ws) n f) (option_map_or (λ (ref : RawRef). ref.targets) o []))) (sym e) (All-nil (Joins m g))
    go (Some ref) e = subst (λ (o : Option RawRef). All (Joins m g) (map (link_of (object_names ws) n f) (option_map_or (λ (ref : RawRef). ref.targets) o []))) (sym e)
        (let here = found (λ (ref : RawRef). is_reference_named m ref.name f) refs ref e in
        named here.place here.passes (reference_named m class ref.name) refl (fine here.place ref here.at))
      where
        named : (r : ℕ) → is_reference_named m ref.name f ≡ true → (o : Option ℕ) → reference_named m class ref.name ≡ o → targets_faults m (object_names ws) (classes_of_objects m ws) n r ref.targets (reference_named m class ref.name) ≡ [] → All (Joins m g) (map (link_of (object_names ws) n f) ref.targets)
        named r passes None at none = absurd (some-not_none _ [] (sym (ap (targets_faults m (object_names ws) (classes_of_objects m ws) n r ref.targets) at) ∙ none))
        named r passes (Some k) at none =
            let there = found (is_reference_named m ref.name) (features_of m class) k at in
            let same : k ≡ f = same_feature m class is_reference ref.name k f meta (has_at (features_of m class) there.place k there.at) h there.passes passes in
            let clean_targets = clean_at (target_faults_at m (object_names ws) (classes_of_objects m ws) k n r) ref.targets (sym (ap (targets_faults m (object_names ws) (classes_of_objects m ws) n r ref.targets) at) ∙ none) in
            joins-targets m ws g n f n r ref.targets is has_f
            (λ t name stands_at. subst (λ i. IsSomeAnd (target_of m i) (λ class. IsOf m g class (unwrap_or (place_of (object_names ws) name) 0))) same (target-joins m ws g k n r t name is (clean_targets t name stands_at)))

joins-features : (m : Metamodel) (ws : List RawObject) (g : Graph) (n : ℕ) (ts : ℕ → List (List ℕ)) (fs : List ℕ) → ((f : ℕ) → has fs f ≡ true → All (Joins m g) (map (link_of (object_names ws) n f) (ts f))) →
    All (Joins m g) (flat_map (λ f. map (link_of (object_names ws) n f) (ts f)) fs)
joins-features m ws g n ts [] h = All-nil (Joins m g)
joins-features m ws g n ts (f ∷ fs) h =
    All-append (Joins m g) (map (link_of (object_names ws) n f) (ts f)) (flat_map (λ f. map (link_of (object_names ws) n f) (ts f)) fs)
    (h f (here-has f fs))
    (joins-features m ws g n ts fs (λ k t. h k (later-has k f fs t)))
  where
    here-has : (f : ℕ) (fs : List ℕ) → has (f ∷ fs) f ≡ true
    here-has f fs = rw (eq-eqb f f refl) refl

    or_true : (a b : Bool) → b ≡ true → (a || b) ≡ true
    or_true true b t = refl
    or_true false b t = t

    later-has : (k f : ℕ) (fs : List ℕ) → has fs k ≡ true → has (f ∷ fs) k ≡ true
    later-has k f fs t = or_true (eqb k f) (has fs k) t

joins-links : (m : Metamodel) (ws : List RawObject) (g : Graph) (n : ℕ) (vs : List RawObject) → IsMeta m → Clean m ws → HasObjects m ws g → StandAt n vs ws → All (Joins m g) (links_of_objects m (object_names ws) n vs)
joins-links m ws g n [] meta c is at = All-nil (Joins m g)
joins-links m ws g n (v ∷ vs) meta c is at =
    let here = first_stands n v vs ws at in
    All-append (Joins m g) (links_of m (object_names ws) n (class_of_object m v) v.refs) (links_of_objects m (object_names ws) (n + 1) vs)
    (joins-features m ws g n (targets_at m v.refs) (features_of m (class_of_object m v))
    (λ f t. joins-feature m ws g n (class_of_object m v) f v.refs meta is (stands m ws g (λ k. has (features_of m k) f ≡ true) n v is here t) t (c.refs n v here)))
    (joins-links m ws g (n + 1) vs meta c is (next_stand n v vs ws at))

weaker : {A : Type 0} (P Q : A → Type 0) (xs : List A) → ((x : A) → P x → Q x) → All P xs → All Q xs
weaker P Q xs h a = All-weaker P Q h xs a

-- A fact on links, of the edges that they are.
edges-all : (P : ℕ → ℕ → ℕ → Type 0) (n : ℕ) (ls : List Link) → All (λ l. P l.source l.reference l.target) ls → All (λ (e : Edge). P e.source e.reference e.target) (edges_of_links n ls)
edges-all P n [] a = All-nil (λ e. P e.source e.reference e.target)
edges-all P n (l ∷ ls) a =
    All-cons (λ (e : Edge). P e.source e.reference e.target) _ (edges_of_links (n + 1) ls) (All-head (λ (l : Link). P l.source l.reference l.target) l ls a) (edges-all P (n + 1) ls (All-tail (λ (l : Link). P l.source l.reference l.target) l ls a))

numbers-edges : (n : ℕ) (ls : List Link) → map (λ (e : Edge). e.number) (edges_of_links n ls) ≡ range_with_len n (length ls)
numbers-edges n [] = refl
numbers-edges n (l ∷ ls) = ap (λ ns. n ∷ ns) (numbers-edges (n + 1) ls)

-- ---- the order of edges

-- The source comes before, or it is the same and the reference comes no later in its class.
abbrev Before : Metamodel → Graph → ℕ → ℕ → ℕ → ℕ → Type 0
Before m g s f t k = (s < t) ⊎ ((s ≡ t) × Stands g (λ c. position_or_len (eqb f) (features_of m c) ≤ position_or_len (eqb k) (features_of m c)) s)

position-seam : (pre : List ℕ) (f : ℕ) (post : List ℕ) → Differ (pre ++ f ∷ post) → position_or_len (eqb f) (pre ++ f ∷ post) ≡ length pre
position-seam [] f post d = rw (eq-eqb f f refl) refl
position-seam (x ∷ pre) f post d =
    let apart : x ≡ f → ⊥ = All-head (λ y. x ≡ y → ⊥) f post (All-rest_of (λ y. x ≡ y → ⊥) pre (f ∷ post) d.0) in
    rw (ne_eqb f x (λ e. apart (sym e))) (ap (λ n. 1 + n) (position-seam pre f post d.1) ∙ (let e : 1 + length pre ≡ suc (length pre) = omega arith in e))

-- The links of a feature have its number and their source.
chunk : (names : List (List ℕ)) (n f : ℕ) (ts : List (List ℕ)) → All (λ (l : Link). (l.source ≡ n) × (l.reference ≡ f)) (map (link_of names n f) ts)
chunk names n f [] = All-nil (λ l. (l.source ≡ n) × (l.reference ≡ f))
chunk names n f (t ∷ ts) = All-cons (λ (l : Link). (l.source ≡ n) × (l.reference ≡ f)) _ (map (link_of names n f) ts) (refl, refl) (chunk names n f ts)

-- Links from a place in the class's features on.
record Late (all : List ℕ) (n from : ℕ) (l : Link) : Type 0 where
  source : l.source ≡ n
  late : from ≤ position_or_len (eqb l.reference) all

late-links : (all : List ℕ) (names : List (List ℕ)) (n : ℕ) (ts : ℕ → List (List ℕ)) (pre fs : List ℕ) → all ≡ pre ++ fs → Differ all →
    All (Late all n (length pre)) (flat_map (λ f. map (link_of names n f) (ts f)) fs)
late-links all names n ts pre [] e d = All-nil (Late all n (length pre))
late-links all names n ts pre (f ∷ fs) e d =
    let at : position_or_len (eqb f) all ≡ length pre = ap (position_or_len (eqb f)) e ∙ position-seam pre f fs (subst (λ (ks : List ℕ). Differ ks) e d) in
    let rest = flat_map (λ f. map (link_of names n f) (ts f)) fs in
    All-append (Late all n (length pre)) (map (link_of names n f) (ts f)) rest
    (weaker (λ (l : Link). (l.source ≡ n) × (l.reference ≡ f)) (Late all n (length pre)) (map (link_of names n f) (ts f))
    (λ l h. record { source = h.0; late = let same = ap (λ k. position_or_len (eqb k) all) h.1 in omega (arith, same, at) }) (chunk names n f (ts f)))
    (weaker (Late all n (length (pre ++ f ∷ []))) (Late all n (length pre)) rest
    (λ l h. record { source = h.source; late = omega (arith, h.late, length-append pre (f ∷ [])) })
    (late-links all names n ts (pre ++ f ∷ []) fs (e ∙ sym (append_assoc pre (f ∷ []) fs)) d))

abbrev LinkBefore : Metamodel → Graph → Link → Link → Type 0
LinkBefore m g l k = Before m g l.source l.reference k.source k.reference

-- Within one object: reference by reference.
order-object : (m : Metamodel) (g : Graph) (names : List (List ℕ)) (n class : ℕ) (ts : ℕ → List (List ℕ)) → ((P : ℕ → Type 0) → P class → Stands g P n) → (pre fs : List ℕ) → features_of m class ≡ pre ++ fs → Differ (features_of m class) →
    EachPair (LinkBefore m g) (flat_map (λ f. map (link_of names n f) (ts f)) fs)
order-object m g names n class ts at pre [] e d = tt
order-object m g names n class ts at pre (f ∷ fs) e d =
    let all = features_of m class in
    let here : position_or_len (eqb f) all ≡ length pre = ap (position_or_len (eqb f)) e ∙ position-seam pre f fs (subst (λ (ks : List ℕ). Differ ks) e d) in
    let rest = flat_map (λ f. map (link_of names n f) (ts f)) fs in
    let Own = λ (l : Link). (l.source ≡ n) × (l.reference ≡ f) in
    let longer : all ≡ (pre ++ f ∷ []) ++ fs = e ∙ sym (append_assoc pre (f ∷ []) fs) in
    let later = late-links all names n ts (pre ++ f ∷ []) fs longer d in
    let before = λ (l k : Link) (s : l.source ≡ n) (t : k.source ≡ n) (le : position_or_len (eqb l.reference) all ≤ position_or_len (eqb k.reference) all).
    let holds : LinkBefore m g l k = inr (
      s ∙ sym t,
      subst (λ (i : ℕ). Stands g (λ c. position_or_len (eqb l.reference) (features_of m c) ≤ position_or_len (eqb k.reference) (features_of m c)) i) (sym s)
          (at (λ c. position_or_len (eqb l.reference) (features_of m c) ≤ position_or_len (eqb k.reference) (features_of m c)) le),
    ) in holds in
    EachPair-append (LinkBefore m g) (map (link_of names n f) (ts f)) rest
    (EachPair-all (LinkBefore m g) Own (λ l k p q. before l k p.0 q.0 (let same = ap (λ i. position_or_len (eqb i) all) (p.1 ∙ sym q.1) in omega (arith, same))) (map (link_of names n f) (ts f)) (chunk names n f (ts f)))
    (order-object m g names n class ts at (pre ++ f ∷ []) fs longer d)
    (All-across (LinkBefore m g) Own (Late all n (length (pre ++ f ∷ [])))
    (λ l k p q. before l k p.0 q.source (let same = ap (λ i. position_or_len (eqb i) all) p.1 in omega (arith, same, here, q.late, length-append pre (f ∷ []))))
    (map (link_of names n f) (ts f)) rest (chunk names n f (ts f)) later)

sources-object : (m : Metamodel) (names : List (List ℕ)) (n : ℕ) (ts : ℕ → List (List ℕ)) (fs : List ℕ) → All (λ (l : Link). l.source ≡ n) (flat_map (λ f. map (link_of names n f) (ts f)) fs)
sources-object m names n ts [] = All-nil (λ l. l.source ≡ n)
sources-object m names n ts (f ∷ fs) =
    All-append (λ (l : Link). l.source ≡ n) (map (link_of names n f) (ts f)) (flat_map (λ f. map (link_of names n f) (ts f)) fs)
    (weaker (λ (l : Link). (l.source ≡ n) × (l.reference ≡ f)) (λ l. l.source ≡ n) (map (link_of names n f) (ts f)) (λ l h. h.0) (chunk names n f (ts f)))
    (sources-object m names n ts fs)

sources-from : (m : Metamodel) (names : List (List ℕ)) (n : ℕ) (vs : List RawObject) → All (λ (l : Link). n ≤ l.source) (links_of_objects m names n vs)
sources-from m names n [] = All-nil (λ l. n ≤ l.source)
sources-from m names n (v ∷ vs) =
    All-append (λ (l : Link). n ≤ l.source) (links_of m names n (class_of_object m v) v.refs) (links_of_objects m names (n + 1) vs)
    (weaker (λ (l : Link). l.source ≡ n) (λ l. n ≤ l.source) (links_of m names n (class_of_object m v) v.refs) (λ l h. omega (arith, h)) (sources-object m names n (targets_at m v.refs) (features_of m (class_of_object m v))))
    (weaker (λ (l : Link). n + 1 ≤ l.source) (λ l. n ≤ l.source) (links_of_objects m names (n + 1) vs) (λ l h. omega (arith, h)) (sources-from m names (n + 1) vs))

features-differ : (m : Metamodel) (class : ℕ) → IsMeta m → Differ (features_of m class)
features-differ m class is = differ-unmapped (λ f. option_map (λ feature. feature.name) (feature_at m f)) (features_of m class) (features-named m class is)

order-links : (m : Metamodel) (ws : List RawObject) (g : Graph) (n : ℕ) (vs : List RawObject) → IsMeta m → HasObjects m ws g → StandAt n vs ws → EachPair (LinkBefore m g) (links_of_objects m (object_names ws) n vs)
order-links m ws g n [] meta is at = tt
order-links m ws g n (v ∷ vs) meta is at =
    let names = object_names ws in
    let here = first_stands n v vs ws at in
    let own = links_of m names n (class_of_object m v) v.refs in
    EachPair-append (LinkBefore m g) own (links_of_objects m names (n + 1) vs)
    (order-object m g names n (class_of_object m v) (targets_at m v.refs) (λ P p. stands m ws g P n v is here p) [] (features_of m (class_of_object m v)) refl (features-differ m (class_of_object m v) meta))
    (order-links m ws g (n + 1) vs meta is (next_stand n v vs ws at))
    (All-across (LinkBefore m g) (λ (l : Link). l.source ≡ n) (λ (l : Link). n + 1 ≤ l.source) (λ l k p q. inl (omega (arith, p, q))) own (links_of_objects m names (n + 1) vs)
    (sources-object m names n (targets_at m v.refs) (features_of m (class_of_object m v))) (sources-from m names (n + 1) vs))

edges-pairs : (R : ℕ → ℕ → ℕ → ℕ → Type 0) (n : ℕ) (ls : List Link) → EachPair (λ (l k : Link). R l.source l.reference k.source k.reference) ls → EachPair (λ (e f : Edge). R e.source e.reference f.source f.reference) (edges_of_links n ls)
edges-pairs R n [] a = tt
edges-pairs R n (l ∷ ls) a = (edges-all (λ s f t. R l.source l.reference s f) (n + 1) ls a.0, edges-pairs R (n + 1) ls a.1)

-- ---- the graph

clean-opening : (m : Metamodel) (ws : List RawObject) → IsMeta m → Clean m ws → IsOpening m (graph_of m ws)
unfolding graph_of
clean-opening m ws meta c =
    let g = graph_of m ws in
    let same : HasObjects m ws g = refl in
    let there : StandAt 0 ws ws = λ k v e. ap (slice_get ws) (zero-add k) ∙ e in
    record {
      typed = record {
        objects_rise = subst (λ (ns : List ℕ). Rise 0 ns (length ws)) (sym (numbers-objects m 0 ws)) (range-rises 0 (length ws) (length ws) (omega arith));
        edges_rise = subst (λ (ns : List ℕ). Rise 0 ns (length (all_links m ws))) (sym (numbers-edges 0 (all_links m ws))) (range-rises 0 (length (all_links m ws)) (length (all_links m ws)) (omega arith));
        names_differ = subst (λ (ts : List (List ℕ)). Differ ts) (sym (names-objects m 0 ws)) (clean-differ m ws c);
        names_below = names-below m 0 (next_name_after (object_names ws)) ws (le_refl (next_name_after (object_names ws)));
        objects_fit = objects-fit m ws 0 ws meta c there;
        edges_fit = edges-all (λ s f t. CanJoin m g s f t) 0 (all_links m ws) (joins-links m ws g 0 ws meta c same there);
      };
      objects_numbered = numbers-objects m 0 ws ∙ ap (range_with_len 0) (sym (length-objects m 0 ws));
      edges_numbered = numbers-edges 0 (all_links m ws) ∙ ap (range_with_len 0) (sym (length-edges 0 (all_links m ws)));
      edges_in_order = edges-pairs (Before m g) 0 (all_links m ws) (order-links m ws g 0 ws meta same there);
      next_object = sym (length-objects m 0 ws);
      next_edge = sym (length-edges 0 (all_links m ws));
      next_name = λ k e. next-there m 0 k ws e;
    }

pub opening : (m : Metamodel) (ws : List RawObject) → IsMeta m → graph_faults m ws ≡ [] → IsOpening m (graph_of m ws)
opening m ws meta e = clean-opening m ws meta (clean m ws e)

pub few-objects : (m : Metamodel) (ws : List RawObject) → graph_faults m ws ≡ [] → length (graph_of m ws).objects ≤ 200000
unfolding graph_of
few-objects m ws e = let few = (clean m ws e).few in omega (arith, few, length-objects m 0 ws)

pub few-edges : (m : Metamodel) (ws : List RawObject) → graph_faults m ws ≡ [] → length (graph_of m ws).edges ≤ 400000
unfolding graph_of
few-edges m ws e = let few = (clean m ws e).joined in omega (arith, few, length-edges 0 (all_links m ws))

-- A number that isn't far is at most 3,000,000,000, and the next one hardly more.
near-number : (rest : Bool) (number : Option ℕ) → rest && not (option_map_or (nat_lt 3000000000) number false) ≡ true → option_map_or (λ k. k + 1) number 0 ≤ 3000000001
near-number rest None e = omega arith
near-number false (Some k) e = absurd (false≢true e)
near-number true (Some k) e = grind (arith, nat_tests)

near-name : (name : List ℕ) → is_object_name name ≡ true → next_after name ≤ 3000000001
near-name name e = near-number (nat_le 1 (length name) && nat_le (length name) 128) (hash_number name) e

near-names : (ws : List RawObject) → ((k : ℕ) (w : RawObject) → slice_get ws k ≡ Some w → is_object_name w.name ≡ true) → next_name_after (object_names ws) ≤ 3000000001
near-names [] named = omega arith
near-names (w ∷ ws) named = let first = near-name w.name (named 0 w refl) in let rest = near-names ws (λ k v e. named (suc k) v e) in omega (arith, clamps, first, rest)

pub low-names : (m : Metamodel) (ws : List RawObject) → graph_faults m ws ≡ [] → (graph_of m ws).next_name ≤ 3000000001
unfolding graph_of
low-names m ws e = near-names ws (clean m ws e).named
