use Rattle.std.proofs.Common.{ℕ, ◌<◌, ◌≡◌, inl, inr, List, [], ◌∷◌, eqb, false, pos, rules, arith, lit<}
use Rattle.std.specs.List.{AllZip}
use Rattle.std.proofs.lemmas.Bool.{ne_eqb}
use Rattle.hs_expr.specs.Lexicographic.{IsBefore}
use Rattle.hs_expr.specs.Lists.{Differ}
use Rattle.hs_types.specs.declared.matching.Match.{Match}
use Rattle.hs_types.specs.declared.rule.PatternEdge.{PatternEdge}
use Rattle.hs_types.specs.declared.rule.PatternNode.{PatternNode}
use Rattle.hs_types.specs.PlainMatch.{IsImage, image}
use Rattle.hs_types.specs.MatchOrder.{IsEarlier}
use Rattle.hs_types.specs.Metamodel.{itself}
use Rattle.hs_types.specs.Pattern.{left_nodes}
use Rattle.hs_types.specs.TypedGraph.{IsOf}
use Rattle.hs_types.specs.ValidMatch.{IsValid}
use Rattle.hs_laws.specs.Bank.{args_of, at_match, model, two, two_accounts}
use Rattle.hs_laws.proofs.refusals.searches_tried.Goals as goal

-- Two different accounts are a match.
valid : (n k : ℕ) → IsOf model (two_accounts (pos 0) (pos 0)) 1 n → IsOf model (two_accounts (pos 0) (pos 0)) 1 k → Differ (n ∷ k ∷ []) → IsValid model (two_accounts (pos 0) (pos 0)) two (args_of []) (at_match (n ∷ k ∷ []) [])
valid n k a b d = record {
  plain = record { nodes_fit = (a, (b, tt)); edges_fit = tt; nodes_differ = d; edges_differ = search rules };
  follows = search rules;
  none_dangle = search rules;
  wheres = search rules;
  sets_fit = search rules;
  forbids = search rules;
  needs = search rules;
  copies = search rules;
  copies_fit = search rules;
  none_touch = search rules;
}

-- Two numbers that differ aren't before 0 and 1.
none_before : (P : PatternNode → ℕ → Type 0) (ns : List ℕ) → AllZip P (left_nodes two.shape.nodes) ns → Differ ns → IsBefore ns (0 ∷ 1 ∷ []) → ⊥
none_before P [] z d b = absurd z
none_before P (n ∷ []) z d b = absurd z.1
none_before P (n ∷ k ∷ []) z d (inl l) = absurd (omega (arith, l))
none_before P (n ∷ k ∷ []) z d (inr (e, inl l)) = d.0 0 k (lit< tt) (omega (arith, e, l))
none_before P (n ∷ k ∷ []) z d (inr (e, inr r)) = absurd r.1
none_before P (n ∷ k ∷ j ∷ ns) z d b = absurd z.1.1

-- Nothing is before no edges.
no_edges : (es : List ℕ) → IsBefore es [] → ⊥
no_edges [] b = b
no_edges (e ∷ es) b = b

first_least : (h : Match) → IsValid model (two_accounts (pos 0) (pos 0)) two (args_of []) h → IsEarlier (record { nodes = h.nodes; edges = h.edges }) (record { nodes = 0 ∷ 1 ∷ []; edges = [] }) → ⊥
first_least h v (inl b) = none_before (λ (node : PatternNode) (n : ℕ). IsOf model (two_accounts (pos 0) (pos 0)) node.class n) h.nodes v.plain.nodes_fit v.plain.nodes_differ b
first_least h v (inr e) = no_edges h.edges e.1

pub returns-clause-first : goal.returns-clause-first
returns-clause-first c = record { valid = valid 0 1 (itself 1) (itself 1) (search rules); least = first_least }

pub returns-clause-not_other : goal.returns-clause-not_other
returns-clause-not_other c h = h.least (at_match (0 ∷ 1 ∷ []) []) (valid 0 1 (itself 1) (itself 1) (search rules)) (inl (inl (lit< tt)))

-- Two numbers of accounts that differ aren't between 0, 1 and 1, 0.
none_between : (ns : List ℕ) → AllZip (λ (node : PatternNode) (n : ℕ). IsOf model (two_accounts (pos 0) (pos 0)) node.class n) (left_nodes two.shape.nodes) ns → IsBefore (0 ∷ 1 ∷ []) ns → IsBefore ns (1 ∷ 0 ∷ []) → ⊥
none_between [] z a b = absurd z
none_between (n ∷ []) z a b = absurd z.1
none_between (n ∷ k ∷ []) z a (inr (e, inl l)) = absurd (omega (arith, l))
none_between (n ∷ k ∷ []) z a (inr (e, inr r)) = absurd r.1
none_between (n ∷ k ∷ []) z (inl m) (inl l) = absurd (omega (arith, l, m))
none_between (n ∷ k ∷ []) z (inr (e, inl m)) (inl l) = not_there k m z.1.0
  where
    not_there : (k : ℕ) → 1 < k → IsOf model (two_accounts (pos 0) (pos 0)) 1 k → ⊥
    not_there k m s = let first : eqb 0 k ≡ false = ne_eqb 0 k (λ e. omega (arith, e, m)) in let second : eqb 1 k ≡ false = ne_eqb 1 k (λ e. omega (arith, e, m)) in rw (first, second) at s
none_between (n ∷ k ∷ []) z (inr (e, inr r)) (inl l) = absurd r.1
none_between (n ∷ k ∷ j ∷ ns) z a b = absurd z.1.1

next_least : (h : Match) → IsValid model (two_accounts (pos 0) (pos 0)) two (args_of []) h → IsEarlier (record { nodes = 0 ∷ 1 ∷ []; edges = [] }) (record { nodes = h.nodes; edges = h.edges }) → IsEarlier (record { nodes = h.nodes; edges = h.edges }) (record { nodes = 1 ∷ 0 ∷ []; edges = [] }) → ⊥
next_least h v (inl a) (inl b) = none_between h.nodes v.plain.nodes_fit a b
next_least h v a (inr e) = no_edges h.edges e.1
next_least h v (inr e) (inl b) = edges_none h.edges v.plain.edges_fit e.1
  where
    edges_none : (es : List ℕ) → AllZip {A = PatternEdge} {B = ℕ} (λ edge n. IsImage (two_accounts (pos 0) (pos 0)) (image two.shape.nodes h.nodes) edge n) [] es → IsBefore [] es → ⊥
    edges_none [] z b = b
    edges_none (e ∷ es) z b = absurd z

pub returns-clause-next : goal.returns-clause-next
returns-clause-next c = record { valid = valid 1 0 (itself 1) (itself 1) (search rules); later = inl (inl (lit< tt)); least = next_least }
