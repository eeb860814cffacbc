-- Parameters and names of a rule without faults.
use Rattle.std.proofs.Common.{ℕ, suc, ◌≡◌, ◌++◌, List, [], ◌∷◌, true, false, not, map, slice_get, Option, Some, None, is_some, if◌then◌else◌, refl, ap, sym, ◌∙◌, subst}
use Rattle.std.proofs.lemmas.Bool.{and_parts, eq-eqb, false≢true}
use Rattle.std.proofs.lemmas.Grind.{flat_map-append}
use Rattle.std.proofs.lemmas.List.Elements.{All-append, All-map, All-nil}
use Rattle.std.proofs.lemmas.Option.{same_Some}
use Rattle.std.specs.Cmp.Lexicographic.{nat_list_eq_equiv}
use Rattle.std.specs.List.{All, find, flat_map}
use Rattle.std.specs.Option.{option_map_or}
use Rattle.hs_expr.specs.declared.Kind.{Kind}
use Rattle.hs_expr.specs.Verdict.{each, fault_if}
use Rattle.hs_text.specs.declared.syntax.Direction.{Direction as WrittenDirection}
use Rattle.hs_text.specs.declared.syntax.Direction.TheVariants as given
use Rattle.hs_text.specs.declared.syntax.Mark.{Mark as WrittenMark}
use Rattle.hs_text.specs.declared.syntax.Mark.TheVariants as written
use Rattle.hs_text.specs.declared.syntax.Param.{Param as WrittenParam}
use Rattle.hs_text.specs.declared.syntax.Rule.{Rule as WrittenRule}
use Rattle.hs_types.specs.declared.meta.Metamodel.{Metamodel}
use Rattle.hs_types.specs.declared.rule.Multi.{Multi}
use Rattle.hs_types.specs.declared.rule.Param.{Param}
use Rattle.hs_types.specs.declared.rule.Part.{Part}
use Rattle.hs_types.specs.declared.rule.ParamKind.TheVariants.{Data, Object}
use Rattle.hs_types.specs.declared.rule.PatternNode.{PatternNode}
use Rattle.hs_expr.specs.Lists.{Differ, EachPair, same_text}
use Rattle.hs_types.specs.RuleForm.{ParamFits, all_nodes, param_side}
use Rattle.hs_faults.specs.declared.nodes.DeclaredNode.{DeclaredNode}
use Rattle.hs_faults.specs.declared.nodes.BlockId.{BlockId}
use Rattle.hs_faults.specs.declared.nodes.BlockId.TheVariants as home
use Rattle.hs_faults.specs.Names.{data_named, node_named}
use Rattle.hs_faults.specs.Nodes.{declared_nodes}
use Rattle.hs_faults.specs.ParamNodes.{data_faults, fit_faults, is_kernel, is_node_of, is_of_kind, is_on_side, is_out, object_faults}
use Rattle.hs_faults.specs.StatementFaults.{same_block}
use Rattle.hs_faults.specs.Marks.{mark_meant}
use Rattle.hs_check.specs.Elements.{node_meant, nodes_in}
use Rattle.hs_check.specs.Parameters.{class_meant, direction_meant, kind_meant, param_meant, params_meant}
use Rattle.hs_check.specs.Rules.{forbid_at, multi_at, multi_meant, part_meant, require_at, rule_meant}
use Rattle.hs_faults.specs.Contents.{rule_contents}
use Rattle.hs_check.proofs.Uniqueness.{HaveOwn, names_apart, one_place}
use Rattle.hs_check.proofs.BlockIds.{Unlike, all_homes, homes_unlike}
use Rattle.hs_check.proofs.Visibility.{called, found_in, homes_same, kernel_home, node_in, node_made, nodes_in-picked}
use Rattle.hs_check.proofs.Parts.{kernel_of}
use Rattle.hs_check.proofs.Scopes.{in_is}
use Rattle.hs_check.proofs.Filters.{All-filter_map, EachPair-filter_map, EachPair-map}
use Rattle.hs_check.proofs.NoFaults.{Clean, yes_test}
use Rattle.hs_expr.proofs.Items.{All-at, All-from, find-same, text_same}
use Rattle.hs_expr.proofs.Lists.{EachPair-append}
use Rattle.hs_expr.proofs.Clean.{empty_parts, no_test}

-- ---- parameters

side_is : (direction : WrittenDirection) (mark : WrittenMark) → param_side (direction_meant direction) (mark_meant mark) ≡ is_on_side direction mark
side_is given.In written.Preserve = refl
side_is given.In written.Create = refl
side_is given.In written.Delete = refl
side_is given.Out written.Preserve = refl
side_is given.Out written.Create = refl
side_is given.Out written.Delete = refl

object_fits : (m : Metamodel) (rule : WrittenRule) (p : WrittenParam) → object_faults (declared_nodes rule.items) p ≡ [] → ParamFits (kernel_of m rule) (param_meant m p) (Object (class_meant m p.kind.text))
object_fits m rule p e =
    let parts = empty_parts (fault_if (not (option_map_or (is_node_of p) (node_named (declared_nodes rule.items) p.name.text) false)) _) (fault_if (not (option_map_or (is_of_kind p) (node_named (declared_nodes rule.items) p.name.text) true)) _) e in
    go (node_named (declared_nodes rule.items) p.name.text) refl
    (yes_test (option_map_or (is_node_of p) (node_named (declared_nodes rule.items) p.name.text) false) _ parts.0)
    (yes_test (option_map_or (is_of_kind p) (node_named (declared_nodes rule.items) p.name.text) true) _ parts.1)
  where
    go : (o : Option DeclaredNode) → node_named (declared_nodes rule.items) p.name.text ≡ o → option_map_or (is_node_of p) o false ≡ true → option_map_or (is_of_kind p) o true ≡ true → ParamFits (kernel_of m rule) (param_meant m p) (Object (class_meant m p.kind.text))
    go None named is of_kind = absurd (false≢true is)
    go (Some d) named is of_kind =
        let both = and_parts (is_kernel d.block) (is_on_side p.direction d.mark) is in
        let found : find (λ (node : PatternNode). same_text node.name p.name.text) (kernel_of m rule) ≡ Some (node_meant m d) =
        find-same (λ (node : PatternNode). same_text node.name p.name.text) (called p.name.text) (kernel_of m rule) (λ node. nat_list_eq_equiv.symm node.name p.name.text)
        ∙ found_in m (declared_nodes rule.items) home.Kernel p.name.text d named (kernel_home d.block ∙ both.0) in
        rw found (side_is p.direction d.mark ∙ both.1, ap (class_meant m) (text_same d.class.text p.kind.text of_kind))

param_fits : (m : Metamodel) (rule : WrittenRule) (p : WrittenParam) → fit_faults (declared_nodes rule.items) p ≡ [] → ParamFits (kernel_of m rule) (param_meant m p) (kind_meant m p.kind.text)
param_fits m rule p e = go (data_named p.kind.text) refl e
  where
    go : (o : Option Kind) → data_named p.kind.text ≡ o → (if is_some o then data_faults p else object_faults (declared_nodes rule.items) p) ≡ [] → ParamFits (kernel_of m rule) (param_meant m p) (option_map_or Data o (Object (class_meant m p.kind.text)))
    go (Some k) is e = in_is p.direction (no_test (is_out p.direction) _ e)
    go None is e = object_fits m rule p e

pub params_fit : (m : Metamodel) (rule : WrittenRule) → Clean m rule → All (λ param. ParamFits (kernel_of m rule) param param.kind) (params_meant m rule.params)
params_fit m rule clean = All-map (λ (param : Param). ParamFits (kernel_of m rule) param param.kind) (param_meant m) rule.params
    (All-from (λ (p : WrittenParam). ParamFits (kernel_of m rule) (param_meant m p) (kind_meant m p.kind.text)) rule.params (λ k p at. param_fits m rule p (clean.params_fit k p at)))

-- ---- names

abbrev NamedApart : PatternNode → PatternNode → Type 0
NamedApart p q = p.name ≡ q.name → ⊥

one_part : (m : Metamodel) (rule : WrittenRule) → Clean m rule → (part : BlockId) → EachPair NamedApart (nodes_in m (declared_nodes rule.items) part)
one_part m rule clean part = subst (EachPair NamedApart) (sym (nodes_in-picked m (declared_nodes rule.items) part))
    (EachPair-filter_map NamedApart (node_in m part) (declared_nodes rule.items) (λ i j d e p q low at_i at_j made_p made_q same.
    names_apart (λ (node : DeclaredNode). node.name) (declared_nodes rule.items) clean.nodes_new i j d e low at_i at_j
    (ap (λ (n : PatternNode). n.name) (node_made m part d p made_p).1 ∙ same ∙ sym (ap (λ (n : PatternNode). n.name) (node_made m part e q made_q).1))))

pub itself : (h : BlockId) → same_block h h ≡ true
itself home.Kernel = refl
itself (home.Pattern i) = eq-eqb i i refl
itself (home.Multi i) = eq-eqb i i refl

two_parts : (m : Metamodel) (ds : List DeclaredNode) → HaveOwn (λ (node : DeclaredNode). node.name) ds → (g h : BlockId) → Unlike g h → All (λ p. All (NamedApart p) (nodes_in m ds h)) (nodes_in m ds g)
two_parts m ds own g h unlike = subst (All (λ (p : PatternNode). All (NamedApart p) (nodes_in m ds h))) (sym (nodes_in-picked m ds g))
    (All-filter_map (λ (p : PatternNode). All (NamedApart p) (nodes_in m ds h)) (node_in m g) ds (λ i d p at_i made_p.
    subst (All (NamedApart p)) (sym (nodes_in-picked m ds h)) (All-filter_map (NamedApart p) (node_in m h) ds (λ j e q at_j made_q same.
    let is_p = node_made m g d p made_p in
    let is_q = node_made m h e q made_q in
    let place = one_place (λ (node : DeclaredNode). node.name) ds own i j d e at_i at_j (ap (λ (n : PatternNode). n.name) is_p.1 ∙ same ∙ sym (ap (λ (n : PatternNode). n.name) is_q.1)) in
    let one : d ≡ e = same_Some d e (sym at_i ∙ ap (slice_get ds) place ∙ at_j) in
    let homes : g ≡ h = homes_same g d.block is_p.0 ∙ ap (λ (n : DeclaredNode). n.block) one ∙ sym (homes_same h e.block is_q.0) in
    false≢true (sym unlike ∙ ap (same_block g) (sym homes) ∙ itself g)))))

-- The nodes of parts that differ have names that differ.
parts_apart : (m : Metamodel) (rule : WrittenRule) → Clean m rule → (parts : List BlockId) → EachPair Unlike parts → EachPair NamedApart (flat_map (nodes_in m (declared_nodes rule.items)) parts)
parts_apart m rule clean [] unlike = tt
parts_apart m rule clean (g ∷ parts) unlike =
    EachPair-append NamedApart (nodes_in m (declared_nodes rule.items) g) (flat_map (nodes_in m (declared_nodes rule.items)) parts) (one_part m rule clean g) (parts_apart m rule clean parts unlike.1)
    (All-from (λ (p : PatternNode). All (NamedApart p) (flat_map (nodes_in m (declared_nodes rule.items)) parts)) (nodes_in m (declared_nodes rule.items) g) (λ k p at.
    all_flat_from (NamedApart p) (nodes_in m (declared_nodes rule.items)) parts (λ l h at_h.
    All-at (λ (p : PatternNode). All (NamedApart p) (nodes_in m (declared_nodes rule.items) h)) (nodes_in m (declared_nodes rule.items) g) k p
    (two_parts m (declared_nodes rule.items) clean.nodes_new g h (All-at (Unlike g) parts l h unlike.0 at_h)) at)))
  where
    all_flat_from : {A B : Type 0} (P : B → Type 0) (f : A → List B) (xs : List A) → ((k : ℕ) (x : A) → slice_get xs k ≡ Some x → All P (f x)) → All P (flat_map f xs)
    all_flat_from P f [] h = All-nil P
    all_flat_from P f (x ∷ xs) h = All-append P (f x) (flat_map f xs) (h 0 x refl) (all_flat_from P f xs (λ k y at. h (suc k) y at))

flat_mapped : {A B C : Type 0} (g : B → List C) (f : A → B) (xs : List A) → flat_map g (map f xs) ≡ flat_map (λ x. g (f x)) xs
flat_mapped g f [] = refl
flat_mapped g f (x ∷ xs) = ap (λ ys. g (f x) ++ ys) (flat_mapped g f xs)

-- All nodes of the rule, part by part.
nodes_by_parts : (m : Metamodel) (rule : WrittenRule) → all_nodes (rule_meant m rule) ≡ flat_map (nodes_in m (declared_nodes rule.items)) (all_homes rule.items)
nodes_by_parts m rule =
    let nodes = nodes_in m (declared_nodes rule.items) in
    let kernel = kernel_of m rule in
    let forbids = each forbid_at rule.items in
    let requires = each require_at rule.items in
    let multis = each multi_at rule.items in
    ap (λ (f : List PatternNode). kernel ++ f ++ flat_map (λ (part : Part). part.nodes) (map (part_meant m (rule_contents m rule)) requires) ++ flat_map (λ (multi : Multi). multi.shape.nodes) (map (multi_meant m (rule_contents m rule) kernel) multis))
    (flat_mapped (λ (part : Part). part.nodes) (part_meant m (rule_contents m rule)) forbids)
    ∙ ap (λ (f : List PatternNode). kernel ++ flat_map nodes forbids ++ f ++ flat_map (λ (multi : Multi). multi.shape.nodes) (map (multi_meant m (rule_contents m rule) kernel) multis))
    (flat_mapped (λ (part : Part). part.nodes) (part_meant m (rule_contents m rule)) requires)
    ∙ ap (λ (f : List PatternNode). kernel ++ flat_map nodes forbids ++ flat_map nodes requires ++ f)
    (flat_mapped (λ (multi : Multi). multi.shape.nodes) (multi_meant m (rule_contents m rule) kernel) multis)
    ∙ joined nodes kernel forbids requires multis
  where
    joined : (nodes : BlockId → List PatternNode) (kernel : List PatternNode) (forbids requires multis : List BlockId) → kernel ++ flat_map nodes forbids ++ flat_map nodes requires ++ flat_map nodes multis ≡ kernel ++ flat_map nodes ((forbids ++ requires) ++ multis)
    joined nodes kernel forbids requires multis =
        grouped kernel (flat_map nodes forbids) (flat_map nodes requires) (flat_map nodes multis)
        ∙ ap (λ (f : List PatternNode). kernel ++ (f ++ flat_map nodes multis)) (sym (flat_map-append nodes forbids requires))
        ∙ ap (λ (f : List PatternNode). kernel ++ f) (sym (flat_map-append nodes (forbids ++ requires) multis))
      where
        grouped : (a b c d : List PatternNode) → a ++ b ++ c ++ d ≡ a ++ ((b ++ c) ++ d)
        grouped [] b c d = refl
        grouped (x ∷ a) b c d = ap (λ ys. x ∷ ys) (grouped a b c d)

pub names_differ : (m : Metamodel) (rule : WrittenRule) → Clean m rule → Differ (map (λ node. node.name) (all_nodes (rule_meant m rule)))
names_differ m rule clean = EachPair-map (λ x y. x ≡ y → ⊥) (λ (node : PatternNode). node.name) (all_nodes (rule_meant m rule))
    (subst (EachPair NamedApart) (sym (nodes_by_parts m rule)) (parts_apart m rule clean (all_homes rule.items) (homes_unlike rule.items)))
