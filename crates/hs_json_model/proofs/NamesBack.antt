-- What a name in a written graph denotes is found again.
use Rattle.std.proofs.Common.{ℕ, zero, suc, ◌+◌, ◌<◌, ◌≡◌, ◌&&◌, ◌||◌, List, [], ◌∷◌, Bool, true, false, cond, map, find, eqb, ltb, length, take, Option, Some, None, slice_get, refl, ap, sym, ◌∙◌, arith, rules}
use Rattle.std.proofs.lemmas.Bool.{and_parts, eqb-true, eq-eqb, false≢true}
use Rattle.std.proofs.lemmas.Option.{none-some, same_Some, slice_get-map, slice_get_within}
use Rattle.std.proofs.lemmas.Slice.Eq.{bytes_eq-Decides}
use Rattle.std.specs.List.{list_any, position, position_or_len}
use Rattle.std.specs.Option.{option_map, option_map_or, unwrap_or}
use Rattle.hs_types.specs.declared.meta.Class.{Class}
use Rattle.hs_types.specs.declared.meta.Feature.{Feature}
use Rattle.hs_types.specs.declared.meta.Metamodel.{Metamodel}
use Rattle.hs_expr.specs.Lists.{Differ, has, same_text}
use Rattle.hs_expr.proofs.Keys.{same_number}
use Rattle.hs_types.specs.Metamodel.{IsMeta, class_at, feature_at, features_of}
use Rattle.hs_types.specs.Names.{class_named}
use Rattle.hs_json_model.specs.Written.{class_name, feature_name}
use Rattle.hs_expr.proofs.Items.{All-at, same_text-from}

-- ---- items by their keys

pub same_false : (k l : List ℕ) → (k ≡ l → ⊥) → same_text k l ≡ false
same_false k l apart = go (same_text k l) refl
  where
    go : (b : Bool) → same_text k l ≡ b → b ≡ false
    go true e = absurd (apart ((bytes_eq-Decides k l).0 e))
    go false e = refl

first_at : {X : Type 0} (key : X → List ℕ) (k : List ℕ) (i : ℕ) (x : X) (xs : List X) → Differ (map key xs) → slice_get xs i ≡ Some x → key x ≡ k → position_or_len (λ y. same_text k (key y)) xs ≡ i
first_at key k i x [] differ at e = absurd (none-some x at)
first_at key k zero x (y ∷ ys) differ at e =
    rw (same_text-from k (key y) (sym e ∙ ap key (sym (same_Some y x at)))) refl
first_at key k (suc i) x (y ∷ ys) differ at e =
    let there : slice_get (map key ys) i ≡ Some (key x) = slice_get-map key ys i ∙ ap (option_map key) at in
    let apart : key y ≡ key x → ⊥ = All-at (λ l. key y ≡ l → ⊥) (map key ys) i (key x) differ.0 there in
    rw (same_false k (key y) (λ s. apart (sym s ∙ sym e))) (ap (λ n. 1 + n) (first_at key k i x ys differ.1 at e) ∙ (let next : 1 + i ≡ suc i = omega arith in next))

below_true : (i n : ℕ) → i < n → ltb i n ≡ true
below_true i n h = grind (arith, rules)

-- Where keys differ, the place of a key is that of the item that has it.
pub place_at : {X : Type 0} (key : X → List ℕ) (i : ℕ) (x : X) (xs : List X) → Differ (map key xs) → slice_get xs i ≡ Some x → position (λ y. same_text (key x) (key y)) xs ≡ Some i
place_at key i x xs differ at =
    ap (λ n. cond (ltb n (length xs)) (Some n) None) (first_at key (key x) i x xs differ at refl)
    ∙ ap (λ b. cond b (Some i) None) (below_true i (length xs) (slice_get_within xs i x at))

-- No key before has it.
pub none_before : (keys : List (List ℕ)) (i : ℕ) (k : List ℕ) → Differ keys → slice_get keys i ≡ Some k → list_any (same_text k) (take i keys) ≡ false
none_before [] i k differ at = absurd (none-some k at)
none_before (l ∷ keys) zero k differ at = refl
none_before (l ∷ keys) (suc i) k differ at =
    let apart : l ≡ k → ⊥ = All-at (λ j. l ≡ j → ⊥) keys i k differ.0 at in
    rw (same_false k l (λ s. apart (sym s))) (none_before keys i k differ.1 at)

-- ---- classes

pub class_back : (m : Metamodel) (c : ℕ) (class : Class) → IsMeta m → class_at m c ≡ Some class → class_named m (class_name m c) ≡ Some c
class_back m c class is at =
    ap (λ (o : Option Class). class_named m (unwrap_or (option_map (λ (class : Class). class.name) o) [])) at
    ∙ place_at (λ (class : Class). class.name) c class m.classes is.names_differ at

-- ---- features

-- A number that alone passes among these is found.
pub found_alone : (p : ℕ → Bool) (ns : List ℕ) (n : ℕ) → has ns n ≡ true → p n ≡ true → ((k : ℕ) → has ns k ≡ true → p k ≡ true → k ≡ n) → find p ns ≡ Some n
found_alone p [] n h t only = absurd (false≢true h)
found_alone p (k ∷ ns) n h t only =
    go (p k) refl (λ g. found_alone p ns n g t (λ j i s. only j (later j i) s))
  where
    later : (j : ℕ) → has ns j ≡ true → has (k ∷ ns) j ≡ true
    later j i = either (eqb j k) (has ns j) i
      where
        either : (a b : Bool) → b ≡ true → (a || b) ≡ true
        either true b e = refl
        either false b e = e

    here : has (k ∷ ns) k ≡ true
    here = rw (eq-eqb k k refl) refl

    go : (b : Bool) → p k ≡ b → (has ns n ≡ true → find p ns ≡ Some n) → cond b (Some k) (find p ns) ≡ Some n
    go true e rest = ap Some (only k here e)
    go false e rest = rest (behind (eqb n k) refl h)
      where
        behind : (b : Bool) → eqb n k ≡ b → (b || has ns n) ≡ true → has ns n ≡ true
        behind true s f = absurd (false≢true (sym e ∙ ap p (sym (eqb-true n k s)) ∙ t))
        behind false s f = f

-- A feature has this name, and passes the test.
abbrev pub is_named : Metamodel → (Feature → Bool) → List ℕ → ℕ → Bool
is_named m test name f = option_map_or (λ feature. same_text name feature.name && test feature) (feature_at m f) false

abbrev pub name_at : Metamodel → ℕ → Option (List ℕ)
name_at m f = option_map (λ feature. feature.name) (feature_at m f)

pub named_so : (m : Metamodel) (test : Feature → Bool) (name : List ℕ) (f : ℕ) → is_named m test name f ≡ true → name_at m f ≡ Some name
named_so m test name f e = go (feature_at m f) e
  where
    go : (o : Option Feature) → option_map_or (λ feature. same_text name feature.name && test feature) o false ≡ true → option_map (λ feature. feature.name) o ≡ Some name
    go None t = absurd (false≢true t)
    go (Some feature) t = ap Some (sym ((bytes_eq-Decides name feature.name).0 (and_parts (same_text name feature.name) (test feature) t).0))

pub names_differ : (m : Metamodel) (c : ℕ) → IsMeta m → Differ (map (name_at m) (features_of m c))
names_differ m c is = go (class_at m c) refl
  where
    go : (o : Option Class) → class_at m c ≡ o → Differ (map (name_at m) (features_of m c))
    go None e = rw e tt
    go (Some class) e = rw e (All-at (λ (class : Class). Differ (map (name_at m) class.features)) m.classes c class is.features_differ e)

-- Of a class's features the one that is written by its name is found by it.
pub feature_back : (m : Metamodel) (c : ℕ) (test : Feature → Bool) (f : ℕ) (feature : Feature) → IsMeta m → has (features_of m c) f ≡ true → feature_at m f ≡ Some feature → test feature ≡ true →
    find (is_named m test (feature_name m f)) (features_of m c) ≡ Some f
feature_back m c test f feature is h at t =
    let name : feature_name m f ≡ feature.name = ap (λ (o : Option Feature). unwrap_or (option_map (λ (feature : Feature). feature.name) o) []) at in
    let passes : is_named m test (feature_name m f) f ≡ true = ap (λ (o : Option Feature). option_map_or (λ (feature : Feature). same_text (feature_name m f) feature.name && test feature) o false) at ∙ both (same_text (feature_name m f) feature.name) (test feature) (same_text-from (feature_name m f) feature.name name) t in
    found_alone (is_named m test (feature_name m f)) (features_of m c) f h passes
    (λ k j s. same_number (name_at m) (features_of m c) k f (names_differ m c is) j h (named_so m test (feature_name m f) k s ∙ sym (named_so m test (feature_name m f) f passes)))
  where
    both : (a b : Bool) → a ≡ true → b ≡ true → (a && b) ≡ true
    both a b p q = rw (p, q) refl
