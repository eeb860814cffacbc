use Rattle.std.proofs.Common.{ℕ, ◌≡◌, inl, inr, List, [], ◌∷◌, ◌++◌, false, refl, sym, ap, subst, lit<, eqb, Option, None, Some, codes}
use Rattle.std.specs.List.{AllZip}
use Rattle.std.proofs.lemmas.Bool.{both_ways, cases_Bool, eqb-true}
use Rattle.hs_types.specs.Arguments.{Follows}
use Rattle.hs_types.specs.declared.graph.Graph.{Graph}
use Rattle.hs_types.specs.Dangling.{NoneDangle}
use Rattle.hs_expr.specs.Lists.{beside}
use Rattle.hs_types.specs.Pattern.{is_drop, left_nodes}
use Rattle.hs_types.specs.TypedGraph.{name_at}
use Rattle.hs_laws.specs.Bank.{args_of, drop_client, link, object_arg, pair_with}
use Rattle.hs_expr.proofs.Lists.{below_differs}
use Rattle.hs_laws.proofs.examples.dangling.Goals as goal

pub returns-clause-dangles : goal.returns-clause-dangles
returns-clause-dangles c h = both_ways false refl (h 0 (link 0 0 0 0) (lit< tt) refl)

abbrev initial : Option (List ℕ) → ℕ
initial None = 0
initial (Some []) = 0
initial (Some (x ∷ xs)) = x

-- The node goes to c1, which has number 0.
c1_is_first : (n : ℕ) → name_at (pair_with (link 0 1 2 0 ∷ []) 1) n ≡ Some (codes "c1") → n ≡ 0
c1_is_first n e = elim (cases_Bool (eqb 0 n)) [
  | inl h ↦ sym (eqb-true 0 n h)
  | inr h ↦ elim (cases_Bool (eqb 1 n)) [
    | inl k ↦ absurd (below_differs 97 99 (lit< tt) (ap initial (rw (h, k) at e)))
    | inr k ↦ absurd (below_differs 0 99 (lit< tt) (ap initial (rw (h, k) at e)))
  ]
]

pub returns-clause-none_valid : goal.returns-clause-none_valid
returns-clause-none_valid c f v = go f.nodes v.follows v.none_dangle
  where
    g : Graph
    g = pair_with (link 0 1 2 0 ∷ []) 1

    dropped : List ℕ → List ℕ
    dropped ns = beside (λ node. is_drop node.mark) (left_nodes drop_client.shape.nodes) ns ++ []

    go : (ns : List ℕ) → AllZip (Follows g (args_of (object_arg (codes "c") (codes "c1") ∷ []))) (left_nodes drop_client.shape.nodes) ns → NoneDangle (dropped ns) [] g → ⊥
    go [] h s = h
    go (n ∷ []) h s = both_ways false refl (subst (λ (i : ℕ). NoneDangle (i ∷ []) [] g) (c1_is_first n h.0) s 0 (link 0 0 0 0) (lit< tt) refl)
    go (n ∷ k ∷ ns) h s = h.1
