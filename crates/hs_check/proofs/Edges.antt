-- Edges that a part of a rule means: they join nodes that they may join.
use Rattle.std.proofs.Common.{ℕ, ◌≡◌, ◌++◌, List, Bool, true, slice_get, Option, Some, Ok, refl, ap, sym, ◌∙◌}
use Rattle.std.specs.Option.{option_and_then, option_map_or, unwrap_or}
use Rattle.hs_expr.specs.declared.Name.{Name}
use Rattle.hs_text.specs.declared.syntax.Mark.{Mark as WrittenMark}
use Rattle.hs_types.specs.declared.meta.Metamodel.{Metamodel}
use Rattle.hs_types.specs.declared.rule.Mark.{Mark}
use Rattle.hs_types.specs.declared.rule.PatternEdge.{PatternEdge}
use Rattle.hs_types.specs.declared.rule.PatternNode.{PatternNode}
use Rattle.hs_types.specs.Metamodel.{Conforms, features_of, supers_of, target_of}
use Rattle.hs_types.specs.Metamodel.{conforms}
use Rattle.hs_types.specs.Pattern.{is_left}
use Rattle.hs_expr.specs.Lists.{has}
use Rattle.hs_types.specs.RuleForm.{EdgeFits, joins}
use Rattle.hs_faults.specs.declared.nodes.DeclaredNode.{DeclaredNode}
use Rattle.hs_faults.specs.declared.nodes.BlockId.{BlockId}
use Rattle.hs_faults.specs.declared.nodes.BlockId.TheVariants as home
use Rattle.hs_faults.specs.Names.{feature_named, is_named, target_named}
use Rattle.hs_faults.specs.StatementFaults.{node_class, edge_checked, may_join, target_from}
use Rattle.hs_types.proofs.Conforming.{conforms_to}
use Rattle.hs_faults.specs.Marks.{mark_meant}
use Rattle.hs_check.specs.Elements.{edge_meant, feature_number, node_feature, node_meant, node_number, nodes_in}
use Rattle.hs_check.specs.Parameters.{class_meant}
use Rattle.hs_check.proofs.Visibility.{Opens, Spot}
use Rattle.hs_check.proofs.NoFaults.{sound_edge}
use Rattle.hs_check.proofs.Lookups.{came, test_holds}
use Rattle.hs_expr.proofs.Items.{found-has}

-- The test of an end: in a forbid or require block it is on the left side.
abbrev pub end_test : BlockId → Mark → Mark → Bool
end_test home.Kernel mark = joins mark
end_test (home.Pattern i) mark = is_left
end_test (home.Multi i) mark = joins mark

end_is : (part : BlockId) (mark end : WrittenMark) → may_join part mark end ≡ end_test part (mark_meant mark) (mark_meant end)
end_is home.Kernel mark end = refl
end_is (home.Pattern i) mark end = refl
end_is (home.Multi i) mark end = refl

-- Where the class of a node is known, so is what is found through it.
pub by_class : {A : Type 0} (m : Metamodel) (d : DeclaredNode) (next : ℕ → Option A) (c : ℕ) (x : A) → node_class m d ≡ Some c → option_and_then next (node_class m d) ≡ Some x → next c ≡ Some x
by_class m d next c x of_class e = sym (ap (option_and_then next) of_class) ∙ e

-- The number of a name, and what is there.
pub number_at_spot : (m : Metamodel) (ds : List DeclaredNode) (nodes : List PatternNode) (name : List ℕ) (d : DeclaredNode) → Spot m ds nodes name d → node_number ds name ≡ d.number
number_at_spot m ds nodes name d s = ap (λ (o : Option DeclaredNode). option_map_or (λ node. node.number) o 0) s.named

pub node_at_spot : (m : Metamodel) (ds : List DeclaredNode) (nodes : List PatternNode) (name : List ℕ) (d : DeclaredNode) → Spot m ds nodes name d → slice_get nodes (node_number ds name) ≡ Some (node_meant m d)
node_at_spot m ds nodes name d s = ap (slice_get nodes) (number_at_spot m ds nodes name d s) ∙ s.at

-- The feature of a name in the class of a node.
pub feature_at_spot : (m : Metamodel) (ds : List DeclaredNode) (nodes : List PatternNode) (name feature : List ℕ) (d : DeclaredNode) (f : ℕ) → Spot m ds nodes name d → feature_named m (class_meant m d.class.text) feature ≡ Some f → feature_number m ds name feature ≡ f
feature_at_spot m ds nodes name feature d f s named =
    ap (λ (o : Option DeclaredNode). unwrap_or (option_and_then (node_feature m feature) o) 0) s.named
    ∙ ap (λ (o : Option ℕ). unwrap_or o 0) (ap (option_and_then (λ class. feature_named m class feature)) s.class ∙ named)

-- The reference that a name means at a node, and the class that it leads to.
pub record ReferenceSpot (m : Metamodel) (ds : List DeclaredNode) (name reference : List ℕ) (d : DeclaredNode) (class : ℕ) : Type 0 where
  pub number : ℕ
  pub named : feature_named m (class_meant m d.class.text) reference ≡ Some number
  pub leads : target_of m number ≡ Some class
  pub number_is : feature_number m ds name reference ≡ number

pub reference_spot : (m : Metamodel) (ds : List DeclaredNode) (nodes : List PatternNode) (name reference : List ℕ) (d : DeclaredNode) (class : ℕ) → Spot m ds nodes name d → target_from m d reference ≡ Some class → ReferenceSpot m ds name reference d class
reference_spot m ds nodes name reference d class s e =
    let f = came (feature_named m (class_meant m d.class.text) reference) (target_of m) class (by_class m d (λ c. target_named m c reference) (class_meant m d.class.text) class s.class e) in
    record { number = f.0; named = f.1; leads = f.2; number_is = feature_at_spot m ds nodes name reference d f.0 s f.1 }

pub edge_fits : (m : Metamodel) (ds : List DeclaredNode) (part : BlockId) (before : List PatternNode) → Opens m ds part before → (mark : WrittenMark) (source target reference : Name) →
    edge_checked m ds part mark source target reference ≡ Ok tt → EdgeFits m (end_test part (mark_meant mark)) (before ++ nodes_in m ds part) (edge_meant m ds (mark_meant mark) source.text target.text reference.text)
edge_fits m ds part before opens mark source target reference right =
    let nodes = before ++ nodes_in m ds part in
    let sound = sound_edge m ds part mark source target reference right in
    let from = opens.found source.text sound.from sound.from_open in
    let to = opens.found target.text sound.to sound.to_open in
    let from_at = node_at_spot m ds nodes source.text sound.from from in
    let to_at = node_at_spot m ds nodes target.text sound.to to in
    let class : ℕ = class_meant m sound.from.class.text in
    let by = reference_spot m ds nodes source.text reference.text sound.from sound.class from sound.leads in
    let joins_from : end_test part (mark_meant mark) (mark_meant sound.from.mark) ≡ true = sym (end_is part mark sound.from.mark) ∙ sound.joins_from in
    let joins_to : end_test part (mark_meant mark) (mark_meant sound.to.mark) ≡ true = sym (end_is part mark sound.to.mark) ∙ sound.joins_to in
    let target_class : ℕ = class_meant m sound.to.class.text in
    let below : conforms (supers_of m) target_class sound.class ≡ true = test_holds (λ c. conforms (supers_of m) c sound.class) (node_class m sound.to) target_class to.class sound.below in
    ends m (end_test part (mark_meant mark)) nodes (edge_meant m ds (mark_meant mark) source.text target.text reference.text) (node_meant m sound.from) (node_meant m sound.to) sound.class
    from_at to_at joins_from joins_to (ap (has (features_of m class)) by.number_is ∙ found-has (is_named m reference.text) (features_of m class) by.number by.named) (ap (target_of m) by.number_is ∙ by.leads) (conforms_to m target_class sound.class below)
  where
    ends : (m : Metamodel) (test : Mark → Bool) (nodes : List PatternNode) (edge : PatternEdge) (from to : PatternNode) (class : ℕ) → slice_get nodes edge.source ≡ Some from → slice_get nodes edge.target ≡ Some to → test from.mark ≡ true → test to.mark ≡ true →
        has (features_of m from.class) edge.reference ≡ true → target_of m edge.reference ≡ Some class → Conforms m to.class class → EdgeFits m test nodes edge
    ends m test nodes edge from to class from_at to_at joins_from joins_to there leads below = (rw from_at (joins_from, there), rw leads (rw to_at (joins_to, below)))
