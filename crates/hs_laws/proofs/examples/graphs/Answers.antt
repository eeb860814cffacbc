use Rattle.std.proofs.Common.{ℕ, ◌<◌, ◌≡◌, [], ◌∷◌, length, refl, sym, ap, rules, arith, lit<, codes, true, false, suc, zero, ◌∙◌}
use Rattle.std.specs.List.{Any}
use Rattle.std.proofs.lemmas.Bool.{both_ways}
use Rattle.std.proofs.lemmas.List.Elements.{All-nil, All-cons}
use Rattle.hs_types.specs.declared.graph.Object.{Object}
use Rattle.hs_types.specs.Metamodel.{Conforms, above}
use Rattle.hs_types.specs.TypedGraph.{hash_name}
use Rattle.hs_laws.specs.Bank.{client, link, model}
use Rattle.hs_laws.specs.Strange.{leaves_a_name_out}
use Rattle.hs_expr.proofs.Lists.{below_differs}
use Rattle.hs_types.proofs.HashNames.{hash_name-same, no_leading_zero}
use Rattle.hs_laws.proofs.examples.graphs.Goals as goal

pub returns-clause-no_abstract_object : goal.returns-clause-no_abstract_object
returns-clause-no_abstract_object c h = both_ways true (h.objects_fit 0 (client 0 []) (lit< tt)).0 refl

pub returns-clause-no_missing_slot : goal.returns-clause-no_missing_slot
returns-clause-no_missing_slot c h = below_differs 0 1 (lit< tt) (ap length (h.objects_fit 0 (client 0 []) (lit< tt)).1)

client_is_no_account : Conforms model 0 1 → ⊥
client_is_no_account (above a d b s k) = both_ways false refl s

pub returns-clause-no_other_target : goal.returns-clause-no_other_target
returns-clause-no_other_target c h = client_is_no_account (h.edges_fit 0 (link 0 0 0 0) (lit< tt)).1

pub returns-clause-no_reused_name : goal.returns-clause-no_reused_name
returns-clause-no_reused_name c h = let l : 0 < 0 = h.names_below 0 (client 0 []) (lit< tt) 0 refl in omega arith

pub returns-clause-opening : goal.returns-clause-opening
returns-clause-opening c = record {
  typed = record {
    objects_rise = search rules;
    edges_rise = search rules;
    names_differ = search rules;
    names_below = All-cons Below (client 0 (codes "#7")) (client 1 (codes "#09") ∷ []) (λ k e. let same : 7 ≡ k = hash_name-same 7 k e in omega arith) (All-cons Below (client 1 (codes "#09")) [] (λ k e. absurd (no_leading_zero k 57 [] (sym e))) (All-nil Below));
    objects_fit = search (rules, All-nil, All-cons);
    edges_fit = search rules;
  };
  objects_numbered = refl;
  edges_numbered = refl;
  edges_in_order = tt;
  next_object = refl;
  next_edge = refl;
  next_name = λ k e. let same : 7 ≡ k = omega arith in (0, client 0 (codes "#7"), lit< tt, refl, ap hash_name same);
}
  where
    Below : Object → Type 0
    Below object = (k : ℕ) → object.name ≡ hash_name k → k < 8

pub returns-clause-no_gap : goal.returns-clause-no_gap
returns-clause-no_gap c h = none (h.next_name 8 refl)
  where
    none : Any (λ object. object.name ≡ hash_name 8) leaves_a_name_out.objects → ⊥
    none (zero, x, l, e, n) = below_differs 7 8 (lit< tt) (hash_name-same 7 8 (ap (λ (object : Object). object.name) e ∙ n))
    none (suc zero, x, l, e, n) = no_leading_zero 8 57 [] (sym (ap (λ (object : Object). object.name) e ∙ n))
    none (suc (suc k), x, l, e, n) = absurd (omega arith)
