-- Rules that only keep and make: the test and the fact.
use Rattle.std.proofs.Common.{◌≡◌, ◌↔◌, List, [], ◌∷◌, Bool, true, false, refl, sym, ◌∙◌}
use Rattle.std.specs.Prelude.{◌&&◌, not}
use Rattle.std.specs.List.{All, list_all}
use Rattle.std.proofs.lemmas.Bool.{and_from, and_parts, false≢true, not-true, not_from_false}
use Rattle.std.proofs.lemmas.List.Elements.{All-nil, All-cons, All-head, All-tail}
use Rattle.hs_types.specs.declared.rule.PatternEdge.{PatternEdge}
use Rattle.hs_types.specs.declared.rule.PatternNode.{PatternNode}
use Rattle.hs_types.specs.declared.rule.Rule.{Rule}
use Rattle.hs_expr.proofs.Booleans.{same_test}
use Rattle.hs_types.specs.Additions.{IsUnconditional, OnlyAdds, is_empty, keeps_all, only_adds}
use Rattle.hs_types.specs.Pattern.{is_drop}

pub empty : {A : Type 0} (xs : List A) → is_empty xs ≡ true → xs ≡ []
empty [] e = refl
empty (x ∷ xs) e = absurd (false≢true e)

-- No item passes the test.
none_pass : {A : Type 0} (q : A → Bool) (xs : List A) → list_all (λ x. not (q x)) xs ≡ true → All (λ x. q x ≡ false) xs
none_pass q [] e = All-nil (λ x. q x ≡ false)
none_pass q (x ∷ xs) e =
    let d = and_parts (not (q x)) (list_all (λ y. not (q y)) xs) e in
    All-cons (λ x. q x ≡ false) x xs (not-true (q x) d.0) (none_pass q xs d.1)

none_passes : {A : Type 0} (q : A → Bool) (xs : List A) → All (λ x. q x ≡ false) xs → list_all (λ x. not (q x)) xs ≡ true
none_passes q [] a = refl
none_passes q (x ∷ xs) a = and_from (not (q x)) (list_all (λ y. not (q y)) xs)
    (not_from_false (q x) (All-head (λ x. q x ≡ false) x xs a)) (none_passes q xs (All-tail (λ x. q x ≡ false) x xs a))

pub only_adds-fact : (rule : Rule) → only_adds rule ≡ true → OnlyAdds rule
only_adds-fact rule e =
    let a = and_parts _ (is_empty rule.sets) e in
    let b = and_parts _ (is_empty rule.wheres) a.0 in
    let c = and_parts _ (is_empty rule.multis) b.0 in
    let d = and_parts _ (is_empty rule.needs) c.0 in
    let f = and_parts (keeps_all rule.shape) (is_empty rule.forbids) d.0 in
    let kept = and_parts (list_all (λ (node : PatternNode). not (is_drop node.mark)) rule.shape.nodes) (list_all (λ (edge : PatternEdge). not (is_drop edge.mark)) rule.shape.edges) f.0 in
    record {
      keeps_nodes = none_pass (λ (node : PatternNode). is_drop node.mark) rule.shape.nodes kept.0;
      keeps_edges = none_pass (λ (edge : PatternEdge). is_drop edge.mark) rule.shape.edges kept.1;
      is_unconditional = record {
        forbids = empty rule.forbids f.1;
        needs = empty rule.needs d.1;
        multis = empty rule.multis c.1;
        wheres = empty rule.wheres b.1;
        sets = empty rule.sets a.1;
      };
    }

pub only_adds-test : (rule : Rule) → OnlyAdds rule → only_adds rule ≡ true
only_adds-test rule h =
    let none = h.is_unconditional in
    rw (none.forbids, none.needs, none.multis, none.wheres, none.sets)
    (rw (
      none_passes (λ (node : PatternNode). is_drop node.mark) rule.shape.nodes h.keeps_nodes,
      none_passes (λ (edge : PatternEdge). is_drop edge.mark) rule.shape.edges h.keeps_edges,
    ) refl)

-- A test of both halves is the test, and says the fact.
pub only_adds-is : (rule : Rule) (kept plain both : Bool) →
    (kept ≡ true) ↔ (All (λ node. is_drop node.mark ≡ false) rule.shape.nodes × All (λ edge. is_drop edge.mark ≡ false) rule.shape.edges) →
    (plain ≡ true) ↔ IsUnconditional rule → both ≡ (kept && plain) → both ≡ only_adds rule
only_adds-is rule kept plain both k p e = same_test both (only_adds rule)
    (λ is. let parts = and_parts kept plain (sym e ∙ is) in
    let h = k.0 parts.0 in
    only_adds-test rule (record { keeps_nodes = h.0; keeps_edges = h.1; is_unconditional = p.0 parts.1 }))
    (λ is. let h = only_adds-fact rule is in
    e ∙ and_from kept plain (k.1 (h.keeps_nodes, h.keeps_edges)) (p.1 h.is_unconditional))
