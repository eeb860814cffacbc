-- Attempts at the rule that makes a client, in a graph without edges.
use Rattle.std.proofs.Common.{ℕ, ◌<◌, List, [], codes, refl, rules, lit≤, arith}
use Rattle.hs_types.specs.declared.entry.Cause.{Cause}
use Rattle.hs_types.specs.declared.entry.Cause.TheVariants as cause
use Rattle.hs_types.specs.declared.graph.Graph.{Graph}
use Rattle.hs_types.specs.declared.graph.Object.{Object}
use Rattle.hs_types.specs.Journal.{Asks, rank}
use Rattle.hs_types.specs.ValidMatch.{IsValid}
use Rattle.hs_laws.specs.Bank.{all_drawn, args_of, at_match, lone, lone_rules, makes_first, makes_second, model, nothing, one_made}

abbrev graph_of : List Object → ℕ → ℕ → Graph
graph_of objects object name = record { objects = objects; edges = []; next_object = object; next_edge = 0; next_name = name }

pub lone_valid : (objects : List Object) (object name : ℕ) → IsValid model (graph_of objects object name) lone (args_of []) (at_match [] [])
lone_valid objects object name = record {
  plain = record { nodes_fit = tt; edges_fit = tt; nodes_differ = tt; edges_differ = tt };
  follows = tt;
  none_dangle = search rules;
  wheres = search rules;
  sets_fit = search rules;
  forbids = search rules;
  needs = search rules;
  copies = tt;
  copies_fit = search rules;
  none_touch = tt;
}

pub first_lawful : (asked : Cause) → Asks lone_rules nothing (makes_first (codes "#0")) asked
first_lawful cause.Number = tt
first_lawful cause.Rule = search rules
first_lawful cause.Match = lone_valid [] 0 0
first_lawful cause.Valid = tt
first_lawful cause.New = (refl, (lit≤ tt, lit≤ tt))
first_lawful cause.Old = (refl, tt)

pub second_lawful : (asked : Cause) → Asks lone_rules nothing (makes_second (codes "#0")) asked
second_lawful cause.Number = tt
second_lawful cause.Rule = search rules
second_lawful cause.Match = lone_valid [] 0 0
second_lawful cause.Valid = tt
second_lawful cause.New = (refl, (lit≤ tt, lit≤ tt))
second_lawful cause.Old = (refl, tt)

pub after_first_lawful : (asked : Cause) → Asks lone_rules one_made (makes_second (codes "#1")) asked
after_first_lawful cause.Number = tt
after_first_lawful cause.Rule = search rules
after_first_lawful cause.Match = lone_valid one_made.objects 1 1
after_first_lawful cause.Valid = tt
after_first_lawful cause.New = (refl, (lit≤ tt, lit≤ tt))
after_first_lawful cause.Old = (refl, tt)

-- All that is asked before new names.
pub same_name_before : (earlier : Cause) → rank earlier < 4 → Asks lone_rules one_made (makes_second (codes "#0")) earlier
same_name_before cause.Number l = tt
same_name_before cause.Rule l = search rules
same_name_before cause.Match l = lone_valid one_made.objects 1 1
same_name_before cause.Valid l = tt
same_name_before cause.New l = absurd (omega arith)
same_name_before cause.Old l = absurd (omega arith)

pub all_drawn_before : (earlier : Cause) → rank earlier < 4 → Asks lone_rules all_drawn (makes_first (codes "#0")) earlier
all_drawn_before cause.Number l = tt
all_drawn_before cause.Rule l = search rules
all_drawn_before cause.Match l = lone_valid [] 1000000000 0
all_drawn_before cause.Valid l = tt
all_drawn_before cause.New l = absurd (omega arith)
all_drawn_before cause.Old l = absurd (omega arith)
