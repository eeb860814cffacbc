-- The form of a written graph is read back: the objects that its lines spell.
use Rattle.std.proofs.Common.{ℕ, ◌+◌, ◌≡◌, ◌^◌, ◌++◌, ℤ, pos, negsuc, List, [], ◌∷◌, Bool, true, false, map, codes, Ok, refl, ap, sym, ◌∙◌}
use Rattle.std.proofs.lemmas.Bool.{false≢true}
use Rattle.std.proofs.lemmas.List.Elements.{All-head, All-tail}
use Rattle.std.specs.List.{All, filter, flat_map}
use Rattle.serde_json.specs.Data.{Data, string, object, Members, no_members}
use Rattle.serde_json.specs.View.{items_of}
use Rattle.hs_expr.specs.declared.value.Value.{Value}
use Rattle.hs_expr.specs.declared.value.Value.TheVariants as value
use Rattle.hs_expr.specs.Evaluation.{is_within}
use Rattle.hs_json_form.specs.Form.{Read, each_item, each_member, entries, items, list_of, text_value}
use Rattle.hs_types.specs.declared.graph.Graph.{Graph}
use Rattle.hs_types.specs.declared.graph.Object.{Object}
use Rattle.hs_types.specs.declared.graph.Slot.{Slot}
use Rattle.hs_types.specs.declared.meta.Metamodel.{Metamodel}
use Rattle.hs_types.specs.Metamodel.{features_of}
use Rattle.hs_graph.specs.declared.raw.RawAttr.{RawAttr}
use Rattle.hs_graph.specs.declared.raw.RawObject.{RawObject}
use Rattle.hs_graph.specs.declared.raw.RawRef.{RawRef}
use Rattle.hs_graph.specs.declared.raw.RawValue.TheVariants.{Given}
use Rattle.hs_json_model.specs.GraphForm.{raw_attr, raw_object, raw_objects, raw_ref, raw_value}
use Rattle.hs_json_model.specs.Written.{Member, with_members, class_name, feature_name, list_data, name_in, object_data, object_line, objects_data, reference_member, refs_members, targets_of, value_data}
use Rattle.hs_graph.specs.Problems.{edges_leaving}
use Rattle.hs_json_model.proofs.Sorted.{all_sorted, members, sorted, with_sorted}

-- ---- lists and members

pub items_back : (ds : List Data) → items (items_of ds) ≡ ds
items_back [] = refl
items_back (d ∷ ds) = ap (λ rest. d ∷ rest) (items_back ds)

each_back : {X Y : Type 0} (read : Data → Read Y) (data_of : X → Data) (made : X → Y) (i : ℕ) (xs : List X) → All (λ x. read (data_of x) ≡ Ok (made x)) xs → each_item read i (map data_of xs) ≡ Ok (map made xs)
each_back read data_of made i [] all = refl
each_back read data_of made i (x ∷ xs) all =
    rw (All-head (λ x. read (data_of x) ≡ Ok (made x)) x xs all, each_back read data_of made (i + 1) xs (All-tail (λ x. read (data_of x) ≡ Ok (made x)) x xs all)) refl

-- A list of which each item is read back.
pub list_back : {X Y : Type 0} (read : Data → Read Y) (data_of : X → Data) (made : X → Y) (xs : List X) → All (λ x. read (data_of x) ≡ Ok (made x)) xs → list_of read (list_data data_of xs) ≡ Ok (map made xs)
list_back read data_of made xs all = ap (each_item read 0) (items_back (map data_of xs)) ∙ each_back read data_of made 0 xs all

-- Members of which each is read back.
pub members_back : {X Y : Type 0} (read : List ℕ → Data → Read Y) (key : X → List ℕ) (data_of : X → Data) (made : X → Y) (xs : List X) → All (λ x. read (key x) (data_of x) ≡ Ok (made x)) xs →
    each_member read (entries (members key data_of xs)) ≡ Ok (map made xs)
members_back read key data_of made [] all = refl
members_back read key data_of made (x ∷ xs) all =
    rw (All-head (λ x. read (key x) (data_of x) ≡ Ok (made x)) x xs all, members_back read key data_of made xs (All-tail (λ x. read (key x) (data_of x) ≡ Ok (made x)) x xs all)) refl

-- ---- values

-- An integer of 64 bits, where the value is one.
abbrev pub IsHeld : Value → Type 0
IsHeld (value.Int n) = is_within (2 ^ 63) n ≡ true
IsHeld (value.Bool b) = Unit {0}
IsHeld (value.Text t) = Unit {0}

pub value_back : (v : Value) → IsHeld v → raw_value (value_data v) ≡ Ok (Given v)
value_back (value.Int n) held = whole n held
  where
    whole : (n : ℤ) → is_within (2 ^ 63) n ≡ true → raw_value (value_data (value.Int n)) ≡ Ok (Given (value.Int n))
    whole (pos k) h = rw h refl
    whole (negsuc k) h = refl
value_back (value.Bool b) held = refl
value_back (value.Text t) held = refl

abbrev pub attr_written : Metamodel → Slot → RawAttr
attr_written m slot = record { name = feature_name m slot.attribute; value = Given slot.value }

attr_back : (m : Metamodel) (slot : Slot) → IsHeld slot.value → raw_attr (feature_name m slot.attribute) (value_data slot.value) ≡ Ok (attr_written m slot)
attr_back m slot held = rw (value_back slot.value held) refl

-- ---- references

texts_back : (ts : List (List ℕ)) → list_of text_value (list_data string ts) ≡ Ok ts
texts_back ts = list_back text_value string (λ t. t) ts (λ i d h. refl) ∙ ap Ok (same ts)
  where
    same : (ts : List (List ℕ)) → map (λ t. t) ts ≡ ts
    same [] = refl
    same (t ∷ ts) = ap (λ rest. t ∷ rest) (same ts)

abbrev pub ref_written : Metamodel → (ℕ → List (List ℕ)) → ℕ → RawRef
ref_written m targets f = record { name = feature_name m f; targets = targets f }

ref_back : (m : Metamodel) (targets : ℕ → List (List ℕ)) (f : ℕ) → raw_ref (feature_name m f) (list_data string (targets f)) ≡ Ok (ref_written m targets f)
ref_back m targets f = rw (texts_back (targets f)) refl

-- There is a target.
abbrev pub is_used : List (List ℕ) → Bool
is_used [] = false
is_used (t ∷ ts) = true

one_listed : (name : List ℕ) (targets : List (List ℕ)) (ms : List Member) → is_used targets ≡ true → reference_member name targets ++ ms ≡ (name, list_data string targets) ∷ ms
one_listed name [] ms e = absurd (false≢true e)
one_listed name (t ∷ ts) ms e = refl

none_listed : (name : List ℕ) (targets : List (List ℕ)) (ms : List Member) → is_used targets ≡ false → reference_member name targets ++ ms ≡ ms
none_listed name [] ms e = refl
none_listed name (t ∷ ts) ms e = absurd (false≢true (sym e))

pub references_listed : (m : Metamodel) (targets : ℕ → List (List ℕ)) (fs : List ℕ) →
    flat_map (λ f. reference_member (feature_name m f) (targets f)) fs ≡ map (λ f. (feature_name m f, list_data string (targets f))) (filter (λ f. is_used (targets f)) fs)
references_listed m targets [] = refl
references_listed m targets (f ∷ fs) = go (is_used (targets f)) refl (references_listed m targets fs)
  where
    go : (b : Bool) → is_used (targets f) ≡ b → flat_map (λ f. reference_member (feature_name m f) (targets f)) fs ≡ map (λ f. (feature_name m f, list_data string (targets f))) (filter (λ f. is_used (targets f)) fs) →
        flat_map (λ f. reference_member (feature_name m f) (targets f)) (f ∷ fs) ≡ map (λ f. (feature_name m f, list_data string (targets f))) (filter (λ f. is_used (targets f)) (f ∷ fs))
    go true e rest = rw e (one_listed (feature_name m f) (targets f) _ e ∙ ap (λ ms. (feature_name m f, list_data string (targets f)) ∷ ms) rest)
    go false e rest = rw e (none_listed (feature_name m f) (targets f) _ e ∙ rest)

-- ---- objects

-- An object as it is in its line: its slots and its references by the order of their names, without references that have no target.
abbrev pub attrs_written : Metamodel → List Slot → List RawAttr
attrs_written m slots = map (attr_written m) (sorted (λ slot. feature_name m slot.attribute) slots)

abbrev pub refs_written : Metamodel → (ℕ → List (List ℕ)) → List ℕ → List RawRef
refs_written m targets fs = map (ref_written m targets) (sorted (feature_name m) (filter (λ f. is_used (targets f)) fs))

abbrev pub targets_at : Graph → Object → ℕ → List (List ℕ)
targets_at g o f = targets_of (name_in g) (edges_leaving g o.number) f

abbrev pub object_written : Metamodel → Graph → Object → RawObject
object_written m g o = record { name = o.name; class = class_name m o.class; attrs = attrs_written m o.slots; refs = refs_written m (targets_at g o) (features_of m o.class) }

attrs_back : (m : Metamodel) (slots : List Slot) → All (λ slot. IsHeld slot.value) slots →
    each_member raw_attr (entries (with_members no_members (map (λ slot. (feature_name m slot.attribute, value_data slot.value)) slots))) ≡ Ok (attrs_written m slots)
attrs_back m slots held =
    let key = λ (slot : Slot). feature_name m slot.attribute in
    let data_of = λ (slot : Slot). value_data slot.value in
    ap (λ ms. each_member raw_attr (entries ms)) (with_sorted key data_of slots)
    ∙ members_back raw_attr key data_of (attr_written m) (sorted key slots) (back (sorted key slots) (all_sorted (λ (slot : Slot). IsHeld slot.value) key slots held))
  where
    back : (slots : List Slot) → All (λ (slot : Slot). IsHeld slot.value) slots → All (λ (slot : Slot). raw_attr (feature_name m slot.attribute) (value_data slot.value) ≡ Ok (attr_written m slot)) slots
    back slots all = λ i d h. attr_back m _ (all i d h)

refs_back : (m : Metamodel) (targets : ℕ → List (List ℕ)) (fs : List ℕ) →
    each_member raw_ref (entries (with_members no_members (flat_map (λ f. reference_member (feature_name m f) (targets f)) fs))) ≡ Ok (refs_written m targets fs)
refs_back m targets fs =
    let used = filter (λ f. is_used (targets f)) fs in
    let data_of = λ (f : ℕ). list_data string (targets f) in
    ap (λ ms. each_member raw_ref (entries (with_members no_members ms))) (references_listed m targets fs)
    ∙ ap (λ ms. each_member raw_ref (entries ms)) (with_sorted (feature_name m) data_of used)
    ∙ members_back raw_ref (feature_name m) data_of (ref_written m targets) (sorted (feature_name m) used) (λ i d h. ref_back m targets _)

-- The four members of an object, by their keys.
object_from : (attrs refs : Members) (class name : List ℕ) (a : List RawAttr) (r : List RawRef) → each_member raw_attr (entries attrs) ≡ Ok a → each_member raw_ref (entries refs) ≡ Ok r →
    raw_object (object_data ((codes "attrs", object attrs) ∷ (codes "class", string class) ∷ (codes "name", string name) ∷ (codes "refs", object refs) ∷ [])) ≡ Ok (record { name = name; class = class; attrs = a; refs = r })
unfolding raw_object
object_from attrs refs class name a r e f = rw (e, f) refl

pub object_back : (m : Metamodel) (g : Graph) (o : Object) → All (λ slot. IsHeld slot.value) o.slots → raw_object (object_line m g o) ≡ Ok (object_written m g o)
object_back m g o held =
    object_from (with_members no_members (map (λ slot. (feature_name m slot.attribute, value_data slot.value)) o.slots)) (with_members no_members (refs_members m (name_in g) (edges_leaving g o.number) (features_of m o.class)))
    (class_name m o.class) o.name (attrs_written m o.slots) (refs_written m (targets_at g o) (features_of m o.class))
    (attrs_back m o.slots held) (refs_back m (targets_at g o) (features_of m o.class))

-- The objects that a graph's lines spell.
pub objects_back : (m : Metamodel) (g : Graph) → All (λ (o : Object). All (λ slot. IsHeld slot.value) o.slots) g.objects → raw_objects (objects_data m g) ≡ Ok (map (object_written m g) g.objects)
objects_back m g held = list_back raw_object (object_line m g) (object_written m g) g.objects (λ i o h. object_back m g _ (held i o h))
