-- The targets of a written object's references are read back.
use Rattle.std.proofs.Common.{ℕ, ◌≡◌, ◌&&◌, List, [], ◌∷◌, Bool, true, false, cond, map, eqb, is_some, Option, Some, None, refl, ap, sym, ◌∙◌, subst}
use Rattle.std.proofs.lemmas.Bool.{eqb-true, false≢true}
use Rattle.std.proofs.lemmas.List.Elements.{All-head, All-tail}
use Rattle.std.proofs.lemmas.Slice.Eq.{bytes_eq-Decides}
use Rattle.std.specs.List.{All, filter, find}
use Rattle.std.specs.Option.{option_and_then, option_map, option_map_or, unwrap_or}
use Rattle.hs_types.specs.declared.graph.Edge.{Edge}
use Rattle.hs_types.specs.declared.meta.Feature.{Feature}
use Rattle.hs_types.specs.declared.meta.Metamodel.{Metamodel}
use Rattle.hs_expr.specs.Lists.{has, same_text}
use Rattle.hs_types.specs.Metamodel.{IsMeta, feature_at, features_of, target_of, target_of_kind}
use Rattle.hs_expr.proofs.Lists.{All-by_has, find-map}
use Rattle.hs_graph.specs.declared.raw.RawRef.{RawRef}
use Rattle.hs_graph.specs.Links.{targets_at}
use Rattle.hs_graph.specs.Lookups.{is_reference, is_reference_named}
use Rattle.hs_expr.proofs.Keys.{same_number}
use Rattle.hs_json_model.specs.Written.{feature_name, targets_of}
use Rattle.hs_json_model.proofs.FormBack.{is_used, ref_written, refs_written}
use Rattle.hs_json_model.proofs.NamesBack.{found_alone, name_at, named_so, names_differ}
use Rattle.hs_json_model.proofs.Sorted.{all_sorted, found_sorted, sorted}
use Rattle.hs_json_model.proofs.Finding.{differ_used}
use Rattle.hs_expr.proofs.Items.{find_none, has-filter, has-kept, find-same, same_text-from}
use Rattle.hs_expr.proofs.Booleans.{and-true_right}

-- A feature of which there are edges is a reference.
pub used_reference : (m : Metamodel) (names : ℕ → List ℕ) (es : List Edge) (f : ℕ) → All (λ (e : Edge). is_some (target_of m e.reference) ≡ true) es → is_used (targets_of names es f) ≡ true → is_some (target_of m f) ≡ true
used_reference m names [] f all u = absurd (false≢true u)
used_reference m names (e ∷ es) f all u = go (eqb e.reference f) refl (used_reference m names es f (All-tail (λ (e : Edge). is_some (target_of m e.reference) ≡ true) e es all)) u
  where
    go : (b : Bool) → eqb e.reference f ≡ b → (is_used (targets_of names es f) ≡ true → is_some (target_of m f) ≡ true) →
        is_used (map (λ (e : Edge). names e.target) (cond b (e ∷ filter (λ (e : Edge). eqb e.reference f) es) (filter (λ (e : Edge). eqb e.reference f) es))) ≡ true → is_some (target_of m f) ≡ true
    go true s rest u = subst (λ (k : ℕ). is_some (target_of m k) ≡ true) (eqb-true e.reference f s) (All-head (λ (e : Edge). is_some (target_of m e.reference) ≡ true) e es all)
    go false s rest u = rest u

pub named_reference : (m : Metamodel) (k : ℕ) → is_some (target_of m k) ≡ true → name_at m k ≡ Some (feature_name m k)
named_reference m k t = go (feature_at m k) t
  where
    go : (o : Option Feature) → is_some (option_and_then (λ (feature : Feature). target_of_kind feature.kind) o) ≡ true → option_map (λ (feature : Feature). feature.name) o ≡ Some (unwrap_or (option_map (λ (feature : Feature). feature.name) o) [])
    go None e = absurd (false≢true e)
    go (Some feature) e = refl

-- It is there, and is a reference.
pub reference_there : (m : Metamodel) (f : ℕ) → is_some (target_of m f) ≡ true → (feature : Feature) × (feature_at m f ≡ Some feature) × (is_reference feature ≡ true)
reference_there m f t = go (feature_at m f) refl
  where
    go : (o : Option Feature) → feature_at m f ≡ o → (feature : Feature) × (feature_at m f ≡ Some feature) × (is_reference feature ≡ true)
    go None at = absurd (false≢true (sym (ap (λ (o : Option Feature). is_some (option_and_then (λ (feature : Feature). target_of_kind feature.kind) o)) at) ∙ t))
    go (Some feature) at = (feature, at, sym (ap (λ (o : Option Feature). is_some (option_and_then (λ (feature : Feature). target_of_kind feature.kind) o)) at) ∙ t)

found_used : (m : Metamodel) (q : ℕ → Bool) (c f : ℕ) → IsMeta m → ((k : ℕ) → q k ≡ true → is_some (target_of m k) ≡ true) → has (features_of m c) f ≡ true → q f ≡ true →
    find (λ k. is_reference_named m (feature_name m k) f) (sorted (feature_name m) (filter q (features_of m c))) ≡ Some f
found_used m q c f is known h u =
    let there = reference_there m f (known f u) in
    let used = filter q (features_of m c) in
    let name : feature_name m f ≡ there.0.name = ap (λ (o : Option Feature). unwrap_or (option_map (λ (feature : Feature). feature.name) o) []) there.1 in
    find-same (λ k. is_reference_named m (feature_name m k) f) (λ k. same_text (feature_name m k) there.0.name) (sorted (feature_name m) used) (same there.0 there.1 there.2)
    ∙ found_sorted (feature_name m) there.0.name used (differ_used (name_at m) (feature_name m) q (features_of m c) (λ k t. named_reference m k (known k t)) (names_differ m c is))
    ∙ found_alone (λ k. same_text (feature_name m k) there.0.name) used f (has-kept q (features_of m c) f h u) (same_text-from (feature_name m f) there.0.name name)
    (λ k i s. alone there.0.name name k (has-filter q (features_of m c) k i) s)
  where
    same : (feature : Feature) → feature_at m f ≡ Some feature → is_reference feature ≡ true → (k : ℕ) → is_reference_named m (feature_name m k) f ≡ same_text (feature_name m k) feature.name
    same feature at t k =
        ap (λ (o : Option Feature). option_map_or (λ (feature : Feature). same_text (feature_name m k) feature.name && is_reference feature) o false) at
        ∙ and-true_right (same_text (feature_name m k) feature.name) (is_reference feature) t

    alone : (name : List ℕ) → feature_name m f ≡ name → (k : ℕ) → (has (features_of m c) k ≡ true) × (q k ≡ true) → same_text (feature_name m k) name ≡ true → k ≡ f
    alone name e k i s =
        same_number (name_at m) (features_of m c) k f (names_differ m c is) i.0 h
        (named_reference m k (known k i.1) ∙ ap Some ((bytes_eq-Decides (feature_name m k) name).0 s ∙ sym e) ∙ sym (named_reference m f (known f u)))

not_used : (m : Metamodel) (q : ℕ → Bool) (c f : ℕ) → IsMeta m → ((k : ℕ) → q k ≡ true → is_some (target_of m k) ≡ true) → has (features_of m c) f ≡ true → q f ≡ false →
    find (λ k. is_reference_named m (feature_name m k) f) (sorted (feature_name m) (filter q (features_of m c))) ≡ None
not_used m q c f is known h u =
    find_none (λ k. is_reference_named m (feature_name m k) f) (sorted (feature_name m) used)
    (all_sorted (λ k. is_reference_named m (feature_name m k) f ≡ false) (feature_name m) used (All-by_has (λ k. is_reference_named m (feature_name m k) f ≡ false) used (λ k i. other k (has-filter q (features_of m c) k i) (is_reference_named m (feature_name m k) f) refl)))
  where
    used : List ℕ
    used = filter q (features_of m c)

    other : (k : ℕ) → (has (features_of m c) k ≡ true) × (q k ≡ true) → (b : Bool) → is_reference_named m (feature_name m k) f ≡ b → b ≡ false
    other k i false e = refl
    other k i true e =
        let same : k ≡ f = same_number (name_at m) (features_of m c) k f (names_differ m c is) i.0 h (named_reference m k (known k i.1) ∙ sym (named_so m is_reference (feature_name m k) f e)) in
        absurd (false≢true (sym u ∙ ap q (sym same) ∙ i.1))

unused_none : (ts : List (List ℕ)) → is_used ts ≡ false → [] ≡ ts
unused_none [] e = refl
unused_none (t ∷ ts) e = absurd (false≢true (sym e))

-- The targets that are written for a feature of the object's class.
pub targets_back : (m : Metamodel) (targets : ℕ → List (List ℕ)) (c f : ℕ) → IsMeta m → ((k : ℕ) → is_used (targets k) ≡ true → is_some (target_of m k) ≡ true) → has (features_of m c) f ≡ true →
    targets_at m (refs_written m targets (features_of m c)) f ≡ targets f
targets_back m targets c f is known h =
    ap (λ (o : Option RawRef). option_map_or (λ (ref : RawRef). ref.targets) o []) (find-map (λ (ref : RawRef). is_reference_named m ref.name f) (ref_written m targets) (sorted (feature_name m) (filter (λ f. is_used (targets f)) (features_of m c))))
    ∙ go (is_used (targets f)) refl
  where
    told : Option ℕ → List (List ℕ)
    told o = option_map_or (λ (ref : RawRef). ref.targets) (option_map (ref_written m targets) o) []

    go : (b : Bool) → is_used (targets f) ≡ b → told (find (λ k. is_reference_named m (feature_name m k) f) (sorted (feature_name m) (filter (λ f. is_used (targets f)) (features_of m c)))) ≡ targets f
    go true u = ap told (found_used m (λ f. is_used (targets f)) c f is known h u)
    go false u = ap told (not_used m (λ f. is_used (targets f)) c f is known h u) ∙ unused_none (targets f) u
