-- A step changes nothing that its plan doesn't name.
use Rattle.std.proofs.Common.{ℕ, ◌+◌, ◌<◌, ◌≡◌, List, [], ◌∷◌, ◌++◌, map, length, Bool, true, false, cond, ◌||◌, eqb, Option, Some, None, refl, sym, ap, ◌∙◌, subst}
use Rattle.std.specs.List.{All, find, flat_map}
use Rattle.std.specs.Option.{option_map, option_or}
use Rattle.std.proofs.lemmas.Bool.{both_ways}
use Rattle.std.proofs.lemmas.List.Elements.{All-head, All-tail, All-filter}
use Rattle.hs_types.specs.declared.graph.Graph.{Graph}
use Rattle.hs_types.specs.declared.graph.Object.{Object}
use Rattle.hs_types.specs.declared.matching.Extension.{Extension}
use Rattle.hs_types.specs.declared.matching.Match.{Match}
use Rattle.hs_types.specs.Plan.{Plan}
use Rattle.hs_types.specs.declared.rule.Multi.{Multi}
use Rattle.hs_types.specs.declared.rule.PatternNode.{PatternNode}
use Rattle.hs_types.specs.declared.rule.Rule.{Rule}
use Rattle.hs_types.specs.Copies.{copies_from, all_dropped_nodes}
use Rattle.hs_types.specs.Dangling.{NoneDangle, dropped_nodes}
use Rattle.hs_expr.specs.Lists.{has, beside}
use Rattle.hs_types.specs.Pattern.{is_drop, is_left, left_nodes}
use Rattle.hs_types.specs.Step.{new_edges, new_objects, object_after, step}
use Rattle.hs_types.specs.TypedGraph.{edge_numbered, object_numbered}
use Rattle.hs_expr.proofs.Lists.{All-each, Rise_missing}
use Rattle.hs_types.proofs.AfterStep.{edge_numbered-step, new_edges-rise, new_objects-rise, object_numbered-step}

pub object-stays : (g : Graph) (p : Plan) (n : ℕ) (x : Object) → has p.drop_objects n ≡ false → object_numbered g n ≡ Some x → object_numbered (step g p) n ≡ Some (object_after p.writes x)
object-stays g p n x d h = object_numbered-step g p n ∙ rw (d, h) refl

pub object-gone : (g : Graph) (p : Plan) (n : ℕ) → n < g.next_object → has p.drop_objects n ≡ true → object_numbered (step g p) n ≡ None
object-gone g p n l d =
    let none : find (λ o. eqb o.number n) (new_objects g.next_object g.next_name p.make_objects) ≡ None = Rise_missing (λ o. o.number) g.next_object (new_objects g.next_object g.next_name p.make_objects) (g.next_object + length p.make_objects) n l (new_objects-rise g.next_object g.next_name p.make_objects) in
    object_numbered-step g p n ∙ rw (d, none) refl

pub edge-gone : (g : Graph) (p : Plan) (n : ℕ) → n < g.next_edge → has p.drop_edges n ≡ true → edge_numbered (step g p) n ≡ None
edge-gone g p n l d =
    let none : find (λ e. eqb e.number n) (new_edges g.next_object g.next_edge p.make_edges) ≡ None = Rise_missing (λ e. e.number) g.next_edge (new_edges g.next_object g.next_edge p.make_edges) (g.next_edge + length p.make_edges) n l (new_edges-rise g.next_object g.next_edge p.make_edges) in
    edge_numbered-step g p n ∙ rw (d, none) refl

pub object-from : (g : Graph) (p : Plan) (n : ℕ) (y : Object) → n < g.next_object → object_numbered (step g p) n ≡ Some y → (x : Object) × (object_numbered g n ≡ Some x) × (has p.drop_objects n ≡ false) × (y ≡ object_after p.writes x)
object-from g p n y l h =
    let none : find (λ o. eqb o.number n) (new_objects g.next_object g.next_name p.make_objects) ≡ None = Rise_missing (λ o. o.number) g.next_object (new_objects g.next_object g.next_name p.make_objects) (g.next_object + length p.make_objects) n l (new_objects-rise g.next_object g.next_name p.make_objects) in
    go (has p.drop_objects n) (object_numbered g n) refl refl (ap (λ o. option_or (option_map (object_after p.writes) (cond (has p.drop_objects n) None (object_numbered g n))) o) (sym none) ∙ (sym (object_numbered-step g p n) ∙ h))
  where
    go : (b : Bool) (o : Option Object) → has p.drop_objects n ≡ b → object_numbered g n ≡ o → option_or (option_map (object_after p.writes) (cond b None o)) None ≡ Some y → (x : Object) × (object_numbered g n ≡ Some x) × (has p.drop_objects n ≡ false) × (y ≡ object_after p.writes x)
    go true o d e k = absurd (cc)
    go false None d e k = absurd (cc)
    go false (Some x) d e k = let same : object_after p.writes x ≡ y = cc in (x, e, d, sym same)

-- Where no node is dropped nothing can dangle.
none_beside : (q : PatternNode → Bool) (xs : List PatternNode) (ns : List ℕ) → All (λ x. q x ≡ false) xs → beside q xs ns ≡ []
none_beside q [] ns a = refl
none_beside q (x ∷ xs) [] a = refl
none_beside q (x ∷ xs) (n ∷ ns) a = rw (All-head (λ x. q x ≡ false) x xs a) (none_beside q xs ns (All-tail (λ x. q x ≡ false) x xs a))

abbrev pub DropsNoNode : List PatternNode → Type 0
DropsNoNode nodes = All (λ node. is_drop node.mark ≡ false) nodes

none_dropped : (nodes : List PatternNode) (ns : List ℕ) → DropsNoNode nodes → beside (λ node. is_drop node.mark) (left_nodes nodes) ns ≡ []
none_dropped nodes ns a = none_beside (λ node. is_drop node.mark) (left_nodes nodes) ns (All-filter (λ node. is_left node.mark) (λ node. is_drop node.mark ≡ false) nodes a)

copies-drop_none : (multis : List Multi) (lists : List (List Extension)) → All (λ multi. DropsNoNode multi.shape.nodes) multis → flat_map (λ copy. dropped_nodes copy.multi.shape copy.found) (copies_from multis lists) ≡ []
copies-drop_none [] lists a = refl
copies-drop_none (multi ∷ multis) [] a = refl
copies-drop_none (multi ∷ multis) (xs ∷ lists) a = go (copies-drop_none multis lists (All-tail D multi multis a)) xs
  where
    D : Multi → Type 0
    D multi = DropsNoNode multi.shape.nodes

    go : flat_map (λ copy. dropped_nodes copy.multi.shape copy.found) (copies_from multis lists) ≡ [] → (xs : List Extension) → flat_map (λ copy. dropped_nodes copy.multi.shape copy.found) (map (λ x. record { multi = multi; found = x }) xs ++ copies_from multis lists) ≡ []
    go rest [] = rest
    go rest (x ∷ xs) = rw (none_dropped multi.shape.nodes x.nodes (All-head D multi multis a)) (go rest xs)

pub none_dropped-all : (rule : Rule) (f : Match) → DropsNoNode rule.shape.nodes → All (λ multi. DropsNoNode multi.shape.nodes) rule.multis → all_dropped_nodes rule f ≡ []
none_dropped-all rule f a b = rw (none_dropped rule.shape.nodes f.nodes a) (copies-drop_none rule.multis f.copies b)

pub never_dangles : (g : Graph) (rule : Rule) (f : Match) (es : List ℕ) → DropsNoNode rule.shape.nodes → All (λ multi. DropsNoNode multi.shape.nodes) rule.multis → NoneDangle (all_dropped_nodes rule f) es g
never_dangles g rule f es a b = subst (λ (ns : List ℕ). NoneDangle ns es g) (sym (none_dropped-all rule f a b)) (All-each (λ edge. (has [] edge.source || has [] edge.target) ≡ true → has es edge.number ≡ true) g.edges (λ edge h. absurd (both_ways false refl h)))
