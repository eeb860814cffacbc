-- The slots of a written object are read back.
use Rattle.std.proofs.Common.{ℕ, ◌≡◌, ◌&&◌, List, [], ◌∷◌, Bool, true, false, cond, map, find, is_some, Option, Some, None, refl, ap, sym, ◌∙◌, subst}
use Rattle.std.proofs.lemmas.Bool.{false≢true}
use Rattle.std.proofs.lemmas.List.Elements.{All-nil, All-cons, All-head, All-tail}
use Rattle.std.specs.List.{All, filter, filter_map}
use Rattle.std.specs.Option.{option_and_then, option_map, option_map_or, unwrap_or}
use Rattle.hs_expr.specs.declared.value.Value.{Value}
use Rattle.hs_types.specs.declared.graph.Slot.{Slot}
use Rattle.hs_types.specs.declared.meta.Feature.{Feature}
use Rattle.hs_types.specs.declared.meta.FeatureKind.{FeatureKind}
use Rattle.hs_types.specs.declared.meta.FeatureKind.TheVariants.{Attribute, Reference}
use Rattle.hs_types.specs.declared.meta.Metamodel.{Metamodel}
use Rattle.hs_expr.specs.Lists.{Differ, same_text}
use Rattle.hs_types.specs.Metamodel.{IsMeta, attributes_of, default_of, default_of_kind, feature_at, features_of, is_attribute, type_of, type_of_kind}
use Rattle.hs_graph.specs.declared.raw.RawAttr.{RawAttr}
use Rattle.hs_graph.specs.Lookups.{is_attribute_named}
use Rattle.hs_graph.specs.Meaning.{slot_for, slots_for, written_value, value_of_raw}
use Rattle.hs_json_model.specs.Written.{feature_name}
use Rattle.hs_json_model.proofs.FormBack.{attr_written, attrs_written}
use Rattle.hs_json_model.proofs.NamesBack.{name_at, names_differ, same_false}
use Rattle.hs_json_model.proofs.Sorted.{found_sorted, sorted}
use Rattle.hs_expr.proofs.Items.{find-same, same_text-from, head_same, tail_same}
use Rattle.hs_expr.proofs.Lists.{find-map, All-of_map}
use Rattle.hs_expr.proofs.Booleans.{and-true_right}
use Rattle.hs_expr.proofs.Clean.{some-not_none}
use Rattle.hs_types.proofs.Defaults.{no_type-no_default}

-- ---- what is found in lists

found_later : {X : Type 0} (key : X → List ℕ) (x y : X) (xs : List X) → (key x ≡ key y → ⊥) → find (λ z. same_text (key z) (key y)) xs ≡ Some y → find (λ z. same_text (key z) (key y)) (x ∷ xs) ≡ Some y
found_later key x y xs apart e = rw (same_false (key x) (key y) apart) e

-- Where keys differ, an item is found by its key.
found_itself : {X : Type 0} (key : X → List ℕ) (xs : List X) → Differ (map key xs) → All (λ x. find (λ z. same_text (key z) (key x)) xs ≡ Some x) xs
found_itself key [] differ = All-nil (λ x. find (λ z. same_text (key z) (key x)) [] ≡ Some x)
found_itself {X} key (x ∷ xs) differ =
    All-cons (λ y. find (λ z. same_text (key z) (key y)) (x ∷ xs) ≡ Some y) x xs
    (rw (same_text-from (key x) (key x) refl) refl)
    (later xs (All-of_map (λ l. key x ≡ l → ⊥) key xs differ.0) (found_itself key xs differ.1))
  where
    later : (ys : List X) → All (λ y. key x ≡ key y → ⊥) ys → All (λ y. find (λ z. same_text (key z) (key y)) xs ≡ Some y) ys → All (λ y. find (λ z. same_text (key z) (key y)) (x ∷ xs) ≡ Some y) ys
    later ys apart rest = λ i d h. found_later key x _ xs (apart i d h) (rest i d h)

-- ---- slots

abbrev key_of : Metamodel → Slot → List ℕ
key_of m slot = feature_name m slot.attribute

found_attr : (m : Metamodel) (f : ℕ) (feature : Feature) (slots : List Slot) → feature_at m f ≡ Some feature → is_attribute feature ≡ true → Differ (map (key_of m) slots) →
    find (λ (attr : RawAttr). is_attribute_named m attr.name f) (attrs_written m slots) ≡ option_map (attr_written m) (find (λ slot. same_text (key_of m slot) feature.name) slots)
found_attr m f feature slots at t differ =
    find-map (λ (attr : RawAttr). is_attribute_named m attr.name f) (attr_written m) (sorted (key_of m) slots)
    ∙ ap (option_map (attr_written m)) (find-same (λ slot. is_attribute_named m (key_of m slot) f) (λ slot. same_text (key_of m slot) feature.name) (sorted (key_of m) slots) same ∙ found_sorted (key_of m) feature.name slots differ)
  where
    same : (slot : Slot) → is_attribute_named m (key_of m slot) f ≡ same_text (key_of m slot) feature.name
    same slot =
        ap (λ (o : Option Feature). option_map_or (λ (feature : Feature). same_text (key_of m slot) feature.name && is_attribute feature) o false) at
        ∙ and-true_right (same_text (key_of m slot) feature.name) (is_attribute feature) t

default_there : (kind : FeatureKind) → is_some (type_of_kind kind) ≡ true → (v : Value) × (default_of_kind kind ≡ Some v)
default_there (Attribute data_type default) e = (default, refl)
default_there (Reference target containment lower upper) e = absurd (false≢true e)

-- A slot is read of its attribute among the written ones.
slot_back : (m : Metamodel) (slots : List Slot) (slot : Slot) → is_some (type_of m slot.attribute) ≡ true → Differ (map (key_of m) slots) → find (λ z. same_text (key_of m z) (key_of m slot)) slots ≡ Some slot →
    slot_for m (attrs_written m slots) slot.attribute ≡ Some slot
slot_back m slots slot typed differ found = go (feature_at m slot.attribute) refl
  where
    go : (o : Option Feature) → feature_at m slot.attribute ≡ o → slot_for m (attrs_written m slots) slot.attribute ≡ Some slot
    go None at = absurd (false≢true (sym (ap (λ (o : Option Feature). is_some (option_and_then (λ (feature : Feature). type_of_kind feature.kind) o)) at) ∙ typed))
    go (Some feature) at =
        let attribute : is_attribute feature ≡ true = sym (ap (λ (o : Option Feature). is_some (option_and_then (λ (feature : Feature). type_of_kind feature.kind) o)) at) ∙ typed in
        let default = default_there feature.kind attribute in
        let has_default : default_of m slot.attribute ≡ Some default.0 = ap (option_and_then (λ (feature : Feature). default_of_kind feature.kind)) at ∙ default.1 in
        let name : key_of m slot ≡ feature.name = ap (λ (o : Option Feature). unwrap_or (option_map (λ (feature : Feature). feature.name) o) []) at in
        let here : find (λ z. same_text (key_of m z) feature.name) slots ≡ Some slot = subst (λ (l : List ℕ). find (λ z. same_text (key_of m z) l) slots ≡ Some slot) name found in
        let given : written_value m (attrs_written m slots) slot.attribute ≡ Some slot.value =
        ap (option_and_then (λ (attr : RawAttr). value_of_raw attr.value)) (found_attr m slot.attribute feature slots at attribute differ ∙ ap (option_map (attr_written m)) here) in
        ap (option_map (λ (default : Value). record { attribute = slot.attribute; value = unwrap_or (written_value m (attrs_written m slots) slot.attribute) default })) has_default
        ∙ ap (λ (o : Option Value). Some (record { attribute = slot.attribute; value = unwrap_or o default.0 })) given

-- ---- the slots of an object

slots_made : (m : Metamodel) (attrs : List RawAttr) (fs : List ℕ) (slots : List Slot) → map (λ (slot : Slot). slot.attribute) slots ≡ filter (λ f. is_some (type_of m f)) fs →
    All (λ (slot : Slot). slot_for m attrs slot.attribute ≡ Some slot) slots → filter_map (slot_for m attrs) fs ≡ slots
slots_made m attrs [] [] e all = refl
slots_made m attrs [] (slot ∷ slots) e all = absurd (some-not_none slot.attribute (map (λ (slot : Slot). slot.attribute) slots) e)
slots_made m attrs (f ∷ fs) slots e all = go (is_some (type_of m f)) refl slots (λ ss g a. slots_made m attrs fs ss g a) e all
  where
    go : (b : Bool) → is_some (type_of m f) ≡ b → (slots : List Slot) →
        ((ss : List Slot) → map (λ (slot : Slot). slot.attribute) ss ≡ filter (λ f. is_some (type_of m f)) fs → All (λ (slot : Slot). slot_for m attrs slot.attribute ≡ Some slot) ss → filter_map (slot_for m attrs) fs ≡ ss) →
        map (λ (slot : Slot). slot.attribute) slots ≡ cond b (f ∷ filter (λ f. is_some (type_of m f)) fs) (filter (λ f. is_some (type_of m f)) fs) →
        All (λ (slot : Slot). slot_for m attrs slot.attribute ≡ Some slot) slots → filter_map (slot_for m attrs) (f ∷ fs) ≡ slots
    go false t slots rest e all = rw (no_type-no_default m f t) (rest slots e all)
    go true t [] rest e all = absurd (some-not_none f (filter (λ f. is_some (type_of m f)) fs) (sym e))
    go true t (slot ∷ slots) rest e all =
        let same : slot.attribute ≡ f = head_same slot.attribute f (map (λ (slot : Slot). slot.attribute) slots) (filter (λ f. is_some (type_of m f)) fs) e in
        let here : slot_for m attrs f ≡ Some slot = subst (λ (k : ℕ). slot_for m attrs k ≡ Some slot) same (All-head (λ (slot : Slot). slot_for m attrs slot.attribute ≡ Some slot) slot slots all) in
        put_front (slot_for m attrs) f fs slot here ∙ ap (λ ss. slot ∷ ss)
        (rest slots (tail_same slot.attribute f (map (λ (slot : Slot). slot.attribute) slots) (filter (λ f. is_some (type_of m f)) fs) e) (All-tail (λ (slot : Slot). slot_for m attrs slot.attribute ≡ Some slot) slot slots all))
      where
        put_front : (h : ℕ → Option Slot) (f : ℕ) (fs : List ℕ) (slot : Slot) → h f ≡ Some slot → filter_map h (f ∷ fs) ≡ slot ∷ filter_map h fs
        put_front h f fs slot e = rw e refl

all_typed : (m : Metamodel) (fs : List ℕ) → All (λ f. is_some (type_of m f) ≡ true) (filter (λ f. is_some (type_of m f)) fs)
all_typed m [] = All-nil (λ f. is_some (type_of m f) ≡ true)
all_typed m (f ∷ fs) = go (is_some (type_of m f)) refl (all_typed m fs)
  where
    go : (b : Bool) → is_some (type_of m f) ≡ b → All (λ f. is_some (type_of m f) ≡ true) (filter (λ f. is_some (type_of m f)) fs) → All (λ f. is_some (type_of m f) ≡ true) (cond b (f ∷ filter (λ f. is_some (type_of m f)) fs) (filter (λ f. is_some (type_of m f)) fs))
    go true e rest = All-cons (λ f. is_some (type_of m f) ≡ true) f (filter (λ f. is_some (type_of m f)) fs) e rest
    go false e rest = rest

-- The slots of an object whose slots are those of its class, with names that differ, are read back.
pub slots_back : (m : Metamodel) (c : ℕ) (slots : List Slot) → map (λ (slot : Slot). slot.attribute) slots ≡ attributes_of m c → Differ (map (key_of m) slots) → slots_for m c (attrs_written m slots) ≡ slots
slots_back m c slots whole differ =
    slots_made m (attrs_written m slots) (features_of m c) slots whole
    (each slots (All-of_map (λ f. is_some (type_of m f) ≡ true) (λ (slot : Slot). slot.attribute) slots (subst (λ (ns : List ℕ). All (λ f. is_some (type_of m f) ≡ true) ns) (sym whole) (all_typed m (features_of m c)))) (found_itself (key_of m) slots differ))
  where
    each : (ss : List Slot) → All (λ (slot : Slot). is_some (type_of m slot.attribute) ≡ true) ss → All (λ (slot : Slot). find (λ z. same_text (key_of m z) (key_of m slot)) slots ≡ Some slot) ss → All (λ (slot : Slot). slot_for m (attrs_written m slots) slot.attribute ≡ Some slot) ss
    each ss typed found = λ i d h. slot_back m slots _ (typed i d h) differ (found i d h)

-- ---- names of slots

kept : {A : Type 0} (P : A → Type 0) (g : ℕ → A) (p : ℕ → Bool) (ns : List ℕ) → All P (map g ns) → All P (map g (filter p ns))
kept P g p [] all = all
kept P g p (n ∷ ns) all = go (p n) (kept P g p ns (All-tail P (g n) (map g ns) all))
  where
    go : (b : Bool) → All P (map g (filter p ns)) → All P (map g (cond b (n ∷ filter p ns) (filter p ns)))
    go true rest = All-cons P (g n) (map g (filter p ns)) (All-head P (g n) (map g ns) all) rest
    go false rest = rest

differ_filtered : {A : Type 0} (g : ℕ → A) (p : ℕ → Bool) (ns : List ℕ) → Differ (map g ns) → Differ (map g (filter p ns))
differ_filtered g p [] differ = tt
differ_filtered {A} g p (n ∷ ns) differ = go (p n) (differ_filtered g p ns differ.1)
  where
    go : (b : Bool) → Differ (map g (filter p ns)) → Differ (map g (cond b (n ∷ filter p ns) (filter p ns)))
    go true rest = (kept (λ (y : A). g n ≡ y → ⊥) g p ns differ.0, rest)
    go false rest = rest

some_name : (m : Metamodel) (f : ℕ) → is_some (type_of m f) ≡ true → name_at m f ≡ Some (feature_name m f)
some_name m f typed = go (feature_at m f) typed
  where
    go : (o : Option Feature) → is_some (option_and_then (λ (feature : Feature). type_of_kind feature.kind) o) ≡ true → option_map (λ (feature : Feature). feature.name) o ≡ Some (unwrap_or (option_map (λ (feature : Feature). feature.name) o) [])
    go None e = absurd (false≢true e)
    go (Some feature) e = refl

apart_named : (m : Metamodel) (n : ℕ) (ks : List ℕ) → is_some (type_of m n) ≡ true → All (λ f. is_some (type_of m f) ≡ true) ks →
    All (λ l. name_at m n ≡ l → ⊥) (map (name_at m) ks) → All (λ l. feature_name m n ≡ l → ⊥) (map (feature_name m) ks)
apart_named m n [] here typed all = All-nil (λ l. feature_name m n ≡ l → ⊥)
apart_named m n (k ∷ ks) here typed all =
    All-cons (λ l. feature_name m n ≡ l → ⊥) (feature_name m k) (map (feature_name m) ks)
    (λ e. All-head (λ l. name_at m n ≡ l → ⊥) (name_at m k) (map (name_at m) ks) all (some_name m n here ∙ ap Some e ∙ sym (some_name m k (All-head (λ f. is_some (type_of m f) ≡ true) k ks typed))))
    (apart_named m n ks here (All-tail (λ f. is_some (type_of m f) ≡ true) k ks typed) (All-tail (λ l. name_at m n ≡ l → ⊥) (name_at m k) (map (name_at m) ks) all))

differ_named : (m : Metamodel) (ns : List ℕ) → All (λ f. is_some (type_of m f) ≡ true) ns → Differ (map (name_at m) ns) → Differ (map (feature_name m) ns)
differ_named m [] typed differ = tt
differ_named m (n ∷ ns) typed differ =
    (apart_named m n ns (All-head (λ f. is_some (type_of m f) ≡ true) n ns typed) (All-tail (λ f. is_some (type_of m f) ≡ true) n ns typed) differ.0, differ_named m ns (All-tail (λ f. is_some (type_of m f) ≡ true) n ns typed) differ.1)

keys_listed : (m : Metamodel) (slots : List Slot) → map (key_of m) slots ≡ map (feature_name m) (map (λ (slot : Slot). slot.attribute) slots)
keys_listed m [] = refl
keys_listed m (slot ∷ slots) = ap (λ ks. key_of m slot ∷ ks) (keys_listed m slots)

-- The attributes of a class have names that differ.
pub keys_differ : (m : Metamodel) (c : ℕ) (slots : List Slot) → IsMeta m → map (λ (slot : Slot). slot.attribute) slots ≡ attributes_of m c → Differ (map (key_of m) slots)
keys_differ m c slots is whole =
    subst (λ (ks : List (List ℕ)). Differ ks) (sym (keys_listed m slots ∙ ap (map (feature_name m)) whole))
    (differ_named m (attributes_of m c) (all_typed m (features_of m c)) (differ_filtered (name_at m) (λ f. is_some (type_of m f)) (features_of m c) (names_differ m c is)))
