-- The edges of a written graph are read back.
use Rattle.std.proofs.Common.{ℕ, ◌+◌, ◌≡◌, ◌++◌, List, [], ◌∷◌, Bool, true, false, cond, map, eqb, is_some, Option, Some, None, IsSomeAnd, refl, ap, sym, ◌∙◌, subst}
use Rattle.std.proofs.lemmas.List.Elements.{All-head, All-tail, All-filter, All-weaker}
use Rattle.std.proofs.lemmas.Option.{none-some, same_Some}
use Rattle.std.specs.List.{All, find, position, position_or_len}
use Rattle.std.specs.Option.{option_map, unwrap_or}
use Rattle.hs_types.specs.declared.graph.Edge.{Edge}
use Rattle.hs_types.specs.declared.graph.Graph.{Graph}
use Rattle.hs_types.specs.declared.graph.Object.{Object}
use Rattle.hs_types.specs.declared.meta.Class.{Class}
use Rattle.hs_types.specs.declared.meta.Metamodel.{Metamodel}
use Rattle.hs_expr.specs.Lists.{Differ, has, same_text}
use Rattle.hs_types.specs.Metamodel.{Conforms, IsConcrete, IsMeta, class_at, features_of, target_of}
use Rattle.hs_types.specs.TypedGraph.{CanJoin, IsOf, IsTyped, object_numbered}
use Rattle.hs_expr.proofs.Lists.{All-by_has, All-find, All-of_map, flat_map-same}
use Rattle.hs_graph.specs.declared.edges.Link.{Link}
use Rattle.hs_graph.specs.Links as links
use Rattle.hs_types.specs.Names.{class_named}
use Rattle.hs_graph.specs.Lookups.{class_of_object, classes_of_objects, object_names, place_of}
use Rattle.std.proofs.lemmas.List.{length-map}
use Rattle.hs_json_model.specs.Renumbered.{edges_by, link_between, links_at, links_by_place}
use Rattle.hs_json_model.specs.Written.{class_name, name_in}
use Rattle.hs_graph.specs.Problems.{edges_leaving}
use Rattle.hs_json_model.proofs.FormBack.{is_used, object_written, refs_written, targets_at}
use Rattle.hs_json_model.proofs.NamesBack.{class_back, same_false}
use Rattle.hs_json_model.proofs.RefsBack.{targets_back, used_reference}
use Rattle.hs_expr.proofs.Items.{same_text-from}

-- ---- names and classes

pub names_written : (m : Metamodel) (g : Graph) (os : List Object) → object_names (map (object_written m g) os) ≡ map (λ (o : Object). o.name) os
names_written m g [] = refl
names_written m g (o ∷ os) = ap (λ (ns : List (List ℕ)). o.name ∷ ns) (names_written m g os)

pub class_found : (m : Metamodel) (c : ℕ) → IsMeta m → IsConcrete m c → class_named m (class_name m c) ≡ Some c
class_found m c is concrete = go (class_at m c) refl
  where
    go : (o : Option Class) → class_at m c ≡ o → class_named m (class_name m c) ≡ Some c
    go None at = absurd (subst (λ (o : Option Class). IsSomeAnd o (λ class. class.is_abstract ≡ false)) at concrete)
    go (Some class) at = class_back m c class is at

pub class_written : (m : Metamodel) (g : Graph) (o : Object) → IsMeta m → IsConcrete m o.class → class_of_object m (object_written m g o) ≡ o.class
class_written m g o is concrete = ap (λ (o : Option ℕ). unwrap_or o 0) (class_found m o.class is concrete)

pub classes_written : (m : Metamodel) (g : Graph) (os : List Object) → IsMeta m → All (λ (o : Object). IsConcrete m o.class) os → classes_of_objects m (map (object_written m g) os) ≡ map (λ (o : Object). o.class) os
classes_written m g [] is all = refl
classes_written m g (o ∷ os) is all =
    rw (class_written m g o is (All-head (λ (o : Object). IsConcrete m o.class) o os all)) (ap (λ (ns : List ℕ). o.class ∷ ns) (classes_written m g os is (All-tail (λ (o : Object). IsConcrete m o.class) o os all)))

-- ---- places

first_back : (os : List Object) (t : ℕ) (o : Object) → Differ (map (λ (o : Object). o.name) os) → find (λ (o : Object). eqb o.number t) os ≡ Some o →
    position_or_len (same_text o.name) (map (λ (o : Object). o.name) os) ≡ position_or_len (λ (o : Object). eqb o.number t) os
first_back [] t o d e = absurd (none-some o e)
first_back (x ∷ xs) t o d e = go (eqb x.number t) refl e (λ f. first_back xs t o d.1 f)
  where
    here : position_or_len (same_text x.name) (map (λ (o : Object). o.name) (x ∷ xs)) ≡ 0
    here = rw (same_text-from x.name x.name refl) refl

    go : (b : Bool) → eqb x.number t ≡ b → cond b (Some x) (find (λ (o : Object). eqb o.number t) xs) ≡ Some o →
        (find (λ (o : Object). eqb o.number t) xs ≡ Some o → position_or_len (same_text o.name) (map (λ (o : Object). o.name) xs) ≡ position_or_len (λ (o : Object). eqb o.number t) xs) →
        position_or_len (same_text o.name) (map (λ (o : Object). o.name) (x ∷ xs)) ≡ position_or_len (λ (o : Object). eqb o.number t) (x ∷ xs)
    go true s f rest = rw s (ap (λ (y : Object). position_or_len (same_text y.name) (map (λ (o : Object). o.name) (x ∷ xs))) (sym (same_Some x o f)) ∙ here)
    go false s f rest =
        let apart : x.name ≡ o.name → ⊥ = All-find (λ (y : Object). x.name ≡ y.name → ⊥) (λ (o : Object). eqb o.number t) xs o (All-of_map (λ (l : List ℕ). x.name ≡ l → ⊥) (λ (o : Object). o.name) xs d.0) f in
        rw (s, same_false o.name x.name (λ i. apart (sym i))) (ap (λ n. 1 + n) (rest f))

-- The place of an object's name is the object's.
pub place_back : (os : List Object) (t : ℕ) (o : Object) → Differ (map (λ (o : Object). o.name) os) → find (λ (o : Object). eqb o.number t) os ≡ Some o →
    place_of (map (λ (o : Object). o.name) os) o.name ≡ position (λ (o : Object). eqb o.number t) os
place_back os t o d e = rw (first_back os t o d e, length-map os (λ (o : Object). o.name)) refl

-- ---- edges

-- Where an edge leads.
pub target_there : (m : Metamodel) (g : Graph) (e : Edge) → CanJoin m g e.source e.reference e.target → (o : Object) × (object_numbered g e.target ≡ Some o)
target_there m g e join = go (target_of m e.reference) join.1
  where
    at_number : (class : ℕ) → IsOf m g class e.target → (o : Object) × (object_numbered g e.target ≡ Some o)
    at_number class is = there (object_numbered g e.target) refl
      where
        there : (o : Option Object) → object_numbered g e.target ≡ o → (o : Object) × (object_numbered g e.target ≡ Some o)
        there None at = absurd (subst (λ (o : Option Object). IsSomeAnd o (λ object. Conforms m object.class class)) at is)
        there (Some o) at = (o, at)

    go : (o : Option ℕ) → IsSomeAnd o (λ class. IsOf m g class e.target) → (o : Object) × (object_numbered g e.target ≡ Some o)
    go None is = absurd is
    go (Some class) is = at_number class is

pub link_back : (m : Metamodel) (g : Graph) (source f : ℕ) (e : Edge) → IsTyped m g → CanJoin m g e.source e.reference e.target →
    links.link_of (map (λ (o : Object). o.name) g.objects) source f (name_in g e.target) ≡ link_between g source f e
link_back m g source f e typed join =
    let there = target_there m g e join in
    let name : name_in g e.target ≡ there.0.name = ap (λ (o : Option Object). unwrap_or (option_map (λ (o : Object). o.name) o) []) there.1 in
    ap (λ (o : Option ℕ). link source f (unwrap_or o 0)) (ap (place_of (map (λ (o : Object). o.name) g.objects)) name ∙ place_back g.objects e.target there.0 typed.names_differ there.1)
  where
    link : ℕ → ℕ → ℕ → Link
    link s f t = record { source = s; reference = f; target = t }

-- An edge's reference is one.
pub join_reference : (m : Metamodel) (g : Graph) (e : Edge) → CanJoin m g e.source e.reference e.target → is_some (target_of m e.reference) ≡ true
join_reference m g e join = go (target_of m e.reference) join.1
  where
    go : (o : Option ℕ) → IsSomeAnd o (λ class. IsOf m g class e.target) → is_some o ≡ true
    go None is = absurd is
    go (Some class) is = refl

abbrev pub Joins : Metamodel → Graph → Edge → Type 0
Joins m g e = CanJoin m g e.source e.reference e.target

pub used_is : (m : Metamodel) (g : Graph) (o : Object) → IsTyped m g → (f : ℕ) → is_used (targets_at g o f) ≡ true → is_some (target_of m f) ≡ true
used_is m g o typed f u =
    used_reference m (name_in g) (edges_leaving g o.number) f
    (All-filter (λ (e : Edge). eqb e.source o.number) (λ (e : Edge). is_some (target_of m e.reference) ≡ true) g.edges
    (All-weaker (Joins m g) (λ (e : Edge). is_some (target_of m e.reference) ≡ true) (λ e j. join_reference m g e j) g.edges typed.edges_fit)) u

links_same : (m : Metamodel) (g : Graph) (source f : ℕ) (es : List Edge) → IsTyped m g → All (Joins m g) es →
    map (links.link_of (map (λ (o : Object). o.name) g.objects) source f) (map (λ (e : Edge). name_in g e.target) es) ≡ map (link_between g source f) es
links_same m g source f [] typed all = refl
links_same m g source f (e ∷ es) typed all =
    rw (link_back m g source f e typed (All-head (Joins m g) e es all)) (ap (λ (ls : List Link). link_between g source f e ∷ ls) (links_same m g source f es typed (All-tail (Joins m g) e es all)))

object_links : (m : Metamodel) (g : Graph) (source : ℕ) (o : Object) → IsMeta m → IsTyped m g → IsConcrete m o.class →
    links.links_of m (map (λ (o : Object). o.name) g.objects) source (class_of_object m (object_written m g o)) (object_written m g o).refs ≡ links_at m g source o
object_links m g source o is typed concrete =
    ap (λ (c : ℕ). links.links_of m (map (λ (o : Object). o.name) g.objects) source c (object_written m g o).refs) (class_written m g o is concrete)
    ∙ flat_map-same (λ f. map (links.link_of (map (λ (o : Object). o.name) g.objects) source f) (links.targets_at m (refs_written m (targets_at g o) (features_of m o.class)) f)) (λ f. map (link_between g source f) (edges_by (edges_leaving g o.number) f)) (features_of m o.class)
    (All-by_has (λ (f : ℕ). map (links.link_of (map (λ (o : Object). o.name) g.objects) source f) (links.targets_at m (refs_written m (targets_at g o) (features_of m o.class)) f) ≡ map (link_between g source f) (edges_by (edges_leaving g o.number) f)) (features_of m o.class) each)
  where
    each : (f : ℕ) → has (features_of m o.class) f ≡ true → map (links.link_of (map (λ (o : Object). o.name) g.objects) source f) (links.targets_at m (refs_written m (targets_at g o) (features_of m o.class)) f) ≡ map (link_between g source f) (edges_by (edges_leaving g o.number) f)
    each f h =
        ap (map (links.link_of (map (λ (o : Object). o.name) g.objects) source f)) (targets_back m (targets_at g o) o.class f is (used_is m g o typed) h)
        ∙ links_same m g source f (edges_by (edges_leaving g o.number) f) typed
        (All-filter (λ (e : Edge). eqb e.reference f) (Joins m g) (edges_leaving g o.number) (All-filter (λ (e : Edge). eqb e.source o.number) (Joins m g) g.edges typed.edges_fit))

links_back : (m : Metamodel) (g : Graph) (n : ℕ) (os : List Object) → IsMeta m → IsTyped m g → All (λ (o : Object). IsConcrete m o.class) os →
    links.links_of_objects m (map (λ (o : Object). o.name) g.objects) n (map (object_written m g) os) ≡ links_by_place m g n os
links_back m g n [] is typed all = refl
links_back m g n (o ∷ os) is typed all =
    ap (λ (ls : List Link). ls ++ links.links_of_objects m (map (λ (o : Object). o.name) g.objects) (n + 1) (map (object_written m g) os)) (object_links m g n o is typed (All-head (λ (o : Object). IsConcrete m o.class) o os all))
    ∙ ap (λ (ls : List Link). links_at m g n o ++ ls) (links_back m g (n + 1) os is typed (All-tail (λ (o : Object). IsConcrete m o.class) o os all))

pub classes_concrete : (m : Metamodel) (g : Graph) → IsTyped m g → All (λ (o : Object). IsConcrete m o.class) g.objects
classes_concrete m g typed = λ i o h. (typed.objects_fit i o h).0

-- The edges of all objects.
pub all_links_back : (m : Metamodel) (g : Graph) → IsMeta m → IsTyped m g → links.all_links m (map (object_written m g) g.objects) ≡ links_by_place m g 0 g.objects
all_links_back m g is typed =
    ap (λ (ns : List (List ℕ)). links.links_of_objects m ns 0 (map (object_written m g) g.objects)) (names_written m g g.objects)
    ∙ links_back m g 0 g.objects is typed (classes_concrete m g typed)
