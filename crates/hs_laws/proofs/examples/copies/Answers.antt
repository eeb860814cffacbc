use Rattle.std.proofs.Common.{ℕ, suc, zero, ◌≡◌, inl, inr, List, [], ◌∷◌, get_or, Bool, true, false, eqb, Option, Some, None, pos, refl, ap, ◌∙◌, rules, arith, lit<, Contains}
use Rattle.std.proofs.lemmas.Bool.{both_ways, cases_Bool, eqb-true}
use Rattle.std.proofs.lemmas.List.Elements.{All-nil}
use Rattle.hs_expr.specs.declared.value.Value.TheVariants as value
use Rattle.hs_expr.specs.Evaluation.{value_of}
use Rattle.hs_types.specs.declared.graph.Edge.{Edge}
use Rattle.hs_types.specs.declared.graph.Graph.{Graph}
use Rattle.hs_types.specs.declared.matching.Extension.{Extension}
use Rattle.hs_types.specs.declared.rule.Mark.TheVariants.{Drop, Keep}
use Rattle.hs_types.specs.declared.rule.Multi.{Multi}
use Rattle.hs_types.specs.Copies.{AreCopies, Copy, IsCopy, SparesCopy}
use Rattle.hs_expr.specs.Lists.{Apart}
use Rattle.hs_types.specs.Metamodel.{itself}
use Rattle.hs_types.specs.PlainMatch.{Extends}
use Rattle.hs_types.specs.TypedGraph.{edge_numbered}
use Rattle.hs_laws.specs.Bank.{arrow, copy, kernel, link, model, node, one_account, purge, purge_args, three_with}
use Rattle.hs_expr.proofs.Lists.{All-one, All-two, below_differs}
use Rattle.hs_laws.proofs.examples.copies.Goals as goal

abbrev client_of : Multi
client_of = record { shape = kernel (node (121 ∷ []) 0 Keep ∷ []) (arrow 1 0 0 Drop ∷ []) []; wheres = []; sets = [] }

abbrev copies_kernel : ℕ → Extension
copies_kernel n = record { nodes = n ∷ []; edges = [] }

pub returns-clause-touching : goal.returns-clause-touching
returns-clause-touching c h = both_ways true ((h.0 0 (record { multi = client_of; found = copy 0 0 }) (lit< tt)).0.objects 0 0 (lit< tt)) refl

-- Without an edge there is no copy.
no_copy : (ns es : List ℕ) → IsCopy model (one_account (pos 0)) purge purge_args (copies_kernel 0) client_of (record { nodes = ns; edges = es }) → ⊥
no_copy [] es i = i.0.nodes_fit
no_copy (n ∷ ns) [] i = i.0.edges_fit
no_copy (n ∷ ns) (e ∷ es) i = nothing i.0.edges_fit.0
  where
    nothing : {x : Edge} → None ≡ Some x → ⊥
    nothing e = absurd (cc)

pub returns-clause-none : goal.returns-clause-none
returns-clause-none c = record {
  plain = record { nodes_fit = (itself 1, tt); edges_fit = tt; nodes_differ = search rules; edges_differ = search rules };
  follows = search rules;
  none_dangle = search rules;
  wheres = search rules;
  sets_fit = search rules;
  forbids = search rules;
  needs = search rules;
  copies = (record { each = search rules; whole = λ x i. absurd (no_copy x.nodes x.edges i); in_order = search rules }, tt);
  copies_fit = search rules;
  none_touch = search rules;
}

abbrev linked : Graph
linked = three_with (link 0 0 0 2 ∷ link 1 1 0 2 ∷ []) 2

is_copy : (n : ℕ) → Extends model linked purge.shape (copies_kernel 2) client_of.shape (copy n n) → IsCopy model linked purge purge_args (copies_kernel 2) client_of (copy n n)
is_copy n e = (e, All-nil (λ expr. value_of _ expr ≡ Some (value.Bool true)))

first_copy : IsCopy model linked purge purge_args (copies_kernel 2) client_of (copy 0 0)
first_copy = is_copy 0 (record { nodes_fit = (itself 0, tt); edges_fit = (refl, tt); nodes_differ = search rules; edges_differ = search rules })

second_copy : IsCopy model linked purge purge_args (copies_kernel 2) client_of (copy 1 1)
second_copy = is_copy 1 (record { nodes_fit = (itself 0, tt); edges_fit = (refl, tt); nodes_differ = search rules; edges_differ = search rules })

abbrev source_of : Option Edge → ℕ
source_of None = 3
source_of (Some edge) = edge.source

abbrev is_found : Option Edge → Bool
is_found None = false
is_found (Some edge) = true

-- Each copy is one of the two.
one_of_two : (ns es : List ℕ) → IsCopy model linked purge purge_args (copies_kernel 2) client_of (record { nodes = ns; edges = es }) → Contains (copy 0 0 ∷ copy 1 1 ∷ []) (record { nodes = ns; edges = es })
one_of_two [] es i = absurd i.0.nodes_fit
one_of_two (n ∷ k ∷ ns) es i = absurd i.0.nodes_fit.1
one_of_two (n ∷ []) [] i = absurd i.0.edges_fit
one_of_two (n ∷ []) (e ∷ f ∷ es) i = absurd i.0.edges_fit.1
one_of_two (n ∷ []) (e ∷ []) i = elim (cases_Bool (eqb 0 e)) [
  | inl h ↦ let source : 0 ≡ n = ap source_of (rw h at at) in (0, lit< tt, same 0 e n (eqb-true 0 e h) source)
  | inr h ↦ elim (cases_Bool (eqb 1 e)) [
    | inl k ↦ let source : 1 ≡ n = ap source_of (rw (h, k) at at) in (1, lit< tt, same 1 e n (eqb-true 1 e k) source)
    | inr k ↦ absurd (both_ways false refl (ap is_found (rw (h, k) at at)))
  ]
]
  where
    at : edge_numbered linked e ≡ Some (record { number = e; source = n; reference = 0; target = 2 })
    at = i.0.edges_fit.0

    same : (j e n : ℕ) → j ≡ e → j ≡ n → copy j j ≡ copy n e
    same j e n a b = ap (λ (x : ℕ). copy x j) b ∙ ap (λ (x : ℕ). copy n x) a

both_copies : AreCopies model linked purge purge_args (copies_kernel 2) client_of (copy 0 0 ∷ copy 1 1 ∷ [])
both_copies = record {
  each = All-two (IsCopy model linked purge purge_args (copies_kernel 2) client_of) (copy 0 0) (copy 1 1) first_copy second_copy;
  whole = λ x i. one_of_two x.nodes x.edges i;
  in_order = search rules;
}

pub returns-clause-both : goal.returns-clause-both
returns-clause-both c = record {
  plain = record { nodes_fit = (itself 1, tt); edges_fit = tt; nodes_differ = search rules; edges_differ = search rules };
  follows = search rules;
  none_dangle = search rules;
  wheres = search rules;
  sets_fit = search rules;
  forbids = search rules;
  needs = search rules;
  copies = (both_copies, tt);
  copies_fit = search rules;
  none_touch = (All-one S (made 1) (spares 0 1 (search rules), spares 1 0 (search rules)), (All-nil T, tt));
}
  where
    made : ℕ → Copy
    made n = record { multi = client_of; found = copy n n }

    S : Copy → Type 0
    S d = SparesCopy purge (copies_kernel 2) (made 0) d × SparesCopy purge (copies_kernel 2) d (made 0)

    T : Copy → Type 0
    T d = SparesCopy purge (copies_kernel 2) (made 1) d × SparesCopy purge (copies_kernel 2) d (made 1)

    spares : (i j : ℕ) → Apart (i ∷ []) (j ∷ []) → SparesCopy purge (copies_kernel 2) (made i) (made j)
    spares i j a = record { objects = search rules; edges = a; slots = search rules }

pub returns-clause-not_one : goal.returns-clause-not_one
returns-clause-not_one c h = missing (h.copies.0.whole (copy 1 1) second_copy)
  where
    first_node : Extension → ℕ
    first_node x = get_or x.nodes 0 0

    missing : Contains (copy 0 0 ∷ []) (copy 1 1) → ⊥
    missing (zero, l, e) = below_differs 0 1 (lit< tt) (ap first_node e)
    missing (suc k, l, e) = absurd (omega arith)
