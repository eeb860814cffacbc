-- Metamodels, graphs, rules and plans that show what the definitions refuse.
use Rattle.std.specs.Prelude.{ℕ, zero, suc, ℤ, pos, List, [], ◌∷◌, true, false, codes}
use Rattle.hs_expr.specs.declared.expr.Expr.{Expr}
use Rattle.hs_expr.specs.declared.expr.Expr.TheVariants as expr
use Rattle.hs_expr.specs.declared.value.Value.TheVariants as value
use Rattle.hs_types.specs.declared.graph.Graph.{Graph}
use Rattle.hs_types.specs.declared.graph.Object.{Object}
use Rattle.hs_types.specs.declared.meta.FeatureKind.{FeatureKind}
use Rattle.hs_types.specs.declared.meta.Metamodel.{Metamodel}
use Rattle.hs_types.specs.declared.plan.End.TheVariants.{Old, New}
use Rattle.hs_types.specs.declared.plan.MadeEdge.{MadeEdge}
use Rattle.hs_types.specs.Plan.{MadeObject, Plan}
use Rattle.hs_types.specs.declared.rule.Mark.{Mark}
use Rattle.hs_types.specs.declared.rule.Mark.TheVariants.{Drop, Keep, Make}
use Rattle.hs_types.specs.declared.rule.Multi.{Multi}
use Rattle.hs_types.specs.declared.rule.PatternSlot.{PatternSlot}
use Rattle.hs_types.specs.declared.rule.Rule.{Rule}
use Rattle.hs_types.specs.declared.rule.SetItem.{SetItem}
use Rattle.hs_laws.specs.Bank.{add, arrow, balance, balance_of, client, kernel, link, node, number, object_param, rule, set_balance}

-- A class that is its own supertype.
abbrev pub looped : Metamodel
looped = record {
  format = 1;
  classes = record { name = codes "A"; is_abstract = false; supers = 0 ∷ []; features = [] } ∷ [];
  features = [];
}

-- An abstract class A, and a class B below it.
abbrev pub family : Metamodel
family = record {
  format = 1;
  classes = record { name = codes "A"; is_abstract = true; supers = []; features = [] }
      ∷ record { name = codes "B"; is_abstract = false; supers = 0 ∷ []; features = [] } ∷ [];
  features = [];
}

abbrev pub only : Object → Graph
only object = record {
  objects = object ∷ [];
  edges = [];
  next_object = 1;
  next_edge = 0;
  next_name = 0;
}

-- An object of the abstract class.
abbrev pub abstract_object : Graph
abstract_object = only (client 0 (codes "a"))

-- An account without its slot.
abbrev pub slotless_account : Graph
slotless_account = only (record { number = 0; name = codes "a1"; class = 1; slots = [] })

-- An edge of the reference accounts to a client.
abbrev pub client_for_account : Graph
client_for_account = record {
  objects = client 0 (codes "c1") ∷ client 1 (codes "c2") ∷ [];
  edges = link 0 0 0 1 ∷ [];
  next_object = 2;
  next_edge = 1;
  next_name = 0;
}

-- An object with the name that the next new object would get.
abbrev pub reused_name : Graph
reused_name = only (client 0 (codes "#0"))

-- Objects named `#7` and `#09`: the next name is `#8`, since a number has no leading zero.
abbrev pub old_names : Graph
old_names = record {
  objects = client 0 (codes "#7") ∷ client 1 (codes "#09") ∷ [];
  edges = [];
  next_object = 2;
  next_edge = 0;
  next_name = 8;
}

-- The same with a name left out.
abbrev pub leaves_a_name_out : Graph
leaves_a_name_out = record old_names { next_name = 9 }

-- rule hang() { delete node a: Client; preserve node b: Account; create edge a -> b: accounts; }
abbrev pub hang : Rule
hang =
    rule [] (kernel (node (codes "a") 0 Drop ∷ node (codes "b") 1 Keep ∷ []) (arrow 0 0 1 Make ∷ [])
    [])

-- The rule add without the slot that it reads and writes.
abbrev pub slotless : Rule
slotless = record add { shape = kernel (node (codes "a") 1 Keep ∷ []) [] [] }

-- A plan that drops one object twice, and one that drops it once.
abbrev pub drops : List ℕ → Plan
drops objects = record {
  drop_objects = objects;
  drop_edges = [];
  writes = [];
  make_objects = [];
  make_edges = [];
}

-- A plan that drops one edge.
abbrev pub drops_edge : ℕ → Plan
drops_edge n = record (drops []) { drop_edges = n ∷ [] }

-- Two classes of these names.
abbrev pub two_classes : List ℕ → List ℕ → Metamodel
two_classes first second = record {
  format = 1;
  classes = record { name = first; is_abstract = false; supers = []; features = [] }
      ∷ record { name = second; is_abstract = false; supers = []; features = [] } ∷ [];
  features = [];
}

-- One class with one feature of this kind.
abbrev pub with_feature : FeatureKind → Metamodel
with_feature kind = record {
  format = 1;
  classes = record { name = codes "A"; is_abstract = false; supers = []; features = 0 ∷ [] } ∷ [];
  features = record { owner = 0; name = codes "f"; kind = kind } ∷ [];
}

-- A rule with one account, these slots and these sets.
abbrev pub with_slots : List PatternSlot → List SetItem → Rule
with_slots slots sets =
    record (rule [] (kernel (node (codes "a") 1 Keep ∷ []) [] slots)) { sets = sets }

-- A rule with one account of this mark, the slot of its balance, and these sets.
abbrev pub rule_that_sets : Mark → List SetItem → Rule
rule_that_sets mark sets =
    record (rule [] (kernel (node (codes "a") 1 mark ∷ []) [] (balance_of 0 ∷ []))) { sets = sets }

-- rule gift() {
--   preserve node x: Account; create node w: Account;
--   multi {
--     preserve node y: Client; preserve edge y -> x: accounts;
--     create node z: Account; set z.balance = x.balance;
--     create edge y -> z: accounts; create edge y -> w: accounts;
--   }
-- }
abbrev pub gift : Rule
gift =
    record (rule [] (kernel (node (codes "x") 1 Keep ∷ node (codes "w") 1 Make ∷ []) []
    (record (balance_of 0) { written = false } ∷ []))) {
      multis = record {
        shape = kernel (node (codes "y") 0 Keep ∷ node (codes "z") 1 Make ∷ [])
            (arrow 2 0 0 Keep ∷ arrow 2 0 3 Make ∷ arrow 2 0 1 Make ∷ []) [];
        wheres = [];
        sets = set_balance 3 (balance 0) ∷ [];
      } ∷ [];
    }

abbrev pub made_account : ℤ → MadeObject
made_account amount = record {
  class = 1;
  slots = record { attribute = 1; value = value.Int amount } ∷ [];
}

-- An edge by accounts from this object to the made object of that number.
abbrev pub made_edge : ℕ → ℕ → MadeEdge
made_edge source made = record { source = Old source; reference = 0; target = New made }

-- rule mark(in x: Client) {
--   preserve node x: Client;
--   multi { preserve node y: Account; preserve edge x -> y: accounts; set y.balance = 1; }
-- }
abbrev pub mark_accounts : Rule
mark_accounts =
    record (rule (object_param (codes "x") 0 ∷ []) (kernel (node (codes "x") 0 Keep ∷ []) [] [])) {
      multis = record {
        shape = kernel (node (codes "y") 1 Keep ∷ []) (arrow 0 0 1 Keep ∷ []) (balance_of 1 ∷ []);
        wheres = [];
        sets = set_balance 1 (number (pos 1)) ∷ [];
      } ∷ [];
    }

abbrev pub empty_multi : Multi
empty_multi = record { shape = kernel [] [] []; wheres = []; sets = [] }

-- `true` under n times `not`.
abbrev pub nots : ℕ → Expr
nots zero = expr.Literal (value.Bool true)
nots (suc n) = expr.Not (nots n)
