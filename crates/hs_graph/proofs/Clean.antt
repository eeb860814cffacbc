-- What is so where there is no fault.
use Rattle.std.proofs.Common.{ℕ, ◌<◌, ◌≤◌, ◌≡◌, List, [], Bool, true, false, not, length, take, nat_lt, Option, Some, None, IsSomeAnd, is_some, slice_get, refl, ap, sym, ◌∙◌, subst, arith, rules}
use Rattle.std.specs.Option.{option_map_or}
use Rattle.hs_expr.specs.Verdict.{each}
use Rattle.hs_types.specs.declared.meta.Class.{Class}
use Rattle.hs_types.specs.declared.meta.Metamodel.{Metamodel}
use Rattle.hs_expr.specs.Lists.{same_text}
use Rattle.hs_types.specs.Metamodel.{IsConcrete}
use Rattle.hs_graph.specs.declared.raw.RawAttr.{RawAttr}
use Rattle.hs_graph.specs.declared.raw.RawObject.{RawObject}
use Rattle.hs_graph.specs.declared.raw.RawRef.{RawRef}
use Rattle.hs_graph.specs.Faults.{attr_faults, attr_faults_at, object_class_faults, object_class_faults_at, graph_faults, is_abstract, known_class_faults, many_edges, many_objects, name_faults, name_faults_at, ref_faults, ref_faults_at}
use Rattle.hs_graph.specs.Links.{all_links}
use Rattle.hs_types.specs.Names.{class_named}
use Rattle.hs_graph.specs.Lookups.{class_of_object, classes_of_objects, object_names, place_of}
use Rattle.hs_graph.specs.Names.{is_object_name}
use Rattle.hs_expr.proofs.Clean.{some-not_none, empty_parts, no_test, clean_at}
use Rattle.hs_expr.proofs.Items.{position_within}
use Rattle.hs_expr.proofs.Lists.{item_within}

within_limit : (most n : ℕ) → nat_lt most n ≡ false → n ≤ most
within_limit most n e = grind (arith, rules)

concrete-from : (m : Metamodel) (c : ℕ) → c < length m.classes → is_abstract m c ≡ false → IsConcrete m c
concrete-from m c h e =
    let found = item_within m.classes c h in
    subst (λ (o : Option Class). IsSomeAnd o (λ class. class.is_abstract ≡ false)) (sym found.1)
    (sym (ap (λ (o : Option Class). option_map_or (λ class. class.is_abstract) o false) found.1) ∙ e)

class-concrete : (m : Metamodel) (i : ℕ) (object : RawObject) → object_class_faults_at m i object ≡ [] → IsConcrete m (class_of_object m object)
class-concrete m i object e = go (class_named m object.class) refl
  where
    go : (o : Option ℕ) → class_named m object.class ≡ o → IsConcrete m (class_of_object m object)
    go None is = absurd (some-not_none _ [] (sym (ap (known_class_faults m i) is) ∙ e))
    go (Some c) is =
        let below = position_within (λ (class : Class). same_text object.class class.name) m.classes c is in
        let here : class_of_object m object ≡ c = rw is refl in
        subst (IsConcrete m) (sym here) (concrete-from m c below (no_test (is_abstract m c) _ (sym (ap (known_class_faults m i) is) ∙ e)))

-- What each object keeps.
pub record Clean (m : Metamodel) (ws : List RawObject) : Type 0 where
  pub few : length ws ≤ 200000
  pub named : (k : ℕ) (w : RawObject) → slice_get ws k ≡ Some w → is_object_name w.name ≡ true
  pub apart : (k : ℕ) (w : RawObject) → slice_get ws k ≡ Some w → is_some (place_of (take k (object_names ws)) w.name) ≡ false
  pub concrete : (k : ℕ) (w : RawObject) → slice_get ws k ≡ Some w → IsConcrete m (class_of_object m w)
  pub attrs : (k : ℕ) (w : RawObject) → slice_get ws k ≡ Some w → (a : ℕ) (attr : RawAttr) → slice_get w.attrs a ≡ Some attr → attr_faults_at m (class_of_object m w) k a attr ≡ []
  pub refs : (k : ℕ) (w : RawObject) → slice_get ws k ≡ Some w → (r : ℕ) (ref : RawRef) → slice_get w.refs r ≡ Some ref → ref_faults_at m (object_names ws) (classes_of_objects m ws) (class_of_object m w) k r ref ≡ []
  pub joined : length (all_links m ws) ≤ 400000

pub not_false : (b : Bool) → not b ≡ false → b ≡ true
not_false true e = refl
not_false false e = sym e

pub clean : (m : Metamodel) (ws : List RawObject) → graph_faults m ws ≡ [] → Clean m ws
clean m ws e =
    let f = empty_parts _ (many_edges m ws) e in
    let d = empty_parts _ (ref_faults m ws) f.0 in
    let c = empty_parts _ (attr_faults m ws) d.0 in
    let b = empty_parts _ (object_class_faults m ws) c.0 in
    let a = empty_parts (many_objects ws) (name_faults ws) b.0 in
    record {
      few = within_limit 200000 (length ws) (no_test _ _ a.0);
      named = λ k w at. not_false _ (no_test _ _ (empty_parts _ _ (clean_at (name_faults_at ws) ws a.1 k w at)).0);
      apart = λ k w at. no_test _ _ (empty_parts _ _ (clean_at (name_faults_at ws) ws a.1 k w at)).1;
      concrete = λ k w at. class-concrete m k w (clean_at (object_class_faults_at m) ws b.1 k w at);
      attrs = λ k w at. clean_at (attr_faults_at m (class_of_object m w) k) w.attrs (clean_at (λ i w. each (attr_faults_at m (class_of_object m w) i) w.attrs) ws c.1 k w at);
      refs = λ k w at. clean_at (ref_faults_at m (object_names ws) (classes_of_objects m ws) (class_of_object m w) k) w.refs (clean_at (λ i w. each (ref_faults_at m (object_names ws) (classes_of_objects m ws) (class_of_object m w) i) w.refs) ws d.1 k w at);
      joined = within_limit 400000 (length (all_links m ws)) (no_test _ _ f.1);
    }
