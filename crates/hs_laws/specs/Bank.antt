-- A small bank, for examples: clients with accounts, and accounts with a balance and an owner.
use Rattle.std.specs.Prelude.{ℕ, ℤ, pos, List, [], ◌∷◌, Bool, true, false, Some, None, codes}
use Rattle.std.proofs.Common.{lit<, refl}
use Rattle.hs_expr.specs.declared.expr.Expr.{Expr}
use Rattle.hs_expr.specs.declared.expr.Expr.TheVariants as expr
use Rattle.hs_expr.specs.declared.expr.Sign.TheVariants as sign
use Rattle.hs_expr.specs.declared.value.Kind.TheVariants as kind
use Rattle.hs_expr.specs.declared.value.Value.TheVariants as value
use Rattle.hs_types.specs.declared.entry.Entry.{Entry}
use Rattle.hs_types.specs.declared.entry.Outcome.{Outcome}
use Rattle.hs_types.specs.declared.entry.Outcome.TheVariants.{Applied, Missed}
use Rattle.hs_types.specs.declared.entry.Tried.{Tried}
use Rattle.hs_types.specs.declared.entry.What.TheVariants.{One, Group}
use Rattle.hs_types.specs.declared.graph.Edge.{Edge}
use Rattle.hs_types.specs.declared.graph.Graph.{Graph}
use Rattle.hs_types.specs.declared.graph.Object.{Object}
use Rattle.hs_types.specs.declared.matching.Extension.{Extension}
use Rattle.hs_types.specs.declared.matching.Match.{Match}
use Rattle.hs_types.specs.declared.meta.DataType.TheVariants.{EInt}
use Rattle.hs_types.specs.declared.meta.FeatureKind.TheVariants.{Attribute, Reference}
use Rattle.hs_types.specs.declared.meta.Metamodel.{Metamodel}
use Rattle.hs_types.specs.declared.request.Arg.TheVariants as arg
use Rattle.hs_types.specs.declared.request.Args.{Args}
use Rattle.hs_types.specs.declared.request.NamedArg.{NamedArg}
use Rattle.hs_types.specs.declared.rule.Direction.TheVariants.{In, Out}
use Rattle.hs_types.specs.declared.rule.Mark.{Mark}
use Rattle.hs_types.specs.declared.rule.Mark.TheVariants.{Keep, Drop, Make}
use Rattle.hs_types.specs.declared.rule.Param.{Param}
use Rattle.hs_types.specs.declared.rule.ParamKind.TheVariants as param
use Rattle.hs_types.specs.declared.rule.Part.{Part}
use Rattle.hs_types.specs.declared.rule.PatternEdge.{PatternEdge}
use Rattle.hs_types.specs.declared.rule.PatternNode.{PatternNode}
use Rattle.hs_types.specs.declared.rule.PatternSlot.{PatternSlot}
use Rattle.hs_types.specs.declared.rule.Rule.{Rule}
use Rattle.hs_types.specs.declared.rule.SetItem.{SetItem}
use Rattle.hs_types.specs.declared.rule.Shape.{Shape}
use Rattle.hs_types.specs.declared.rule.SlotKind.TheVariants as slot
use Rattle.hs_types.specs.Rules.{Rules}

-- Client is class 0, Account class 1; accounts is feature 0, balance 1, owner 2.
abbrev pub model : Metamodel
model = record {
  format = 1;
  classes = record { name = codes "Client"; is_abstract = false; supers = []; features = 0 ∷ [] }
      ∷ record { name = codes "Account"; is_abstract = false; supers = []; features = 1 ∷ 2 ∷ [] }
      ∷ [];
  features = record { owner = 0; name = codes "accounts"; kind = Reference 1 false 0 None }
      ∷ record { owner = 1; name = codes "balance"; kind = Attribute EInt (value.Int (pos 0)) }
      ∷ record { owner = 1; name = codes "owner"; kind = Reference 0 false 0 (Some 1) }
      ∷ [];
}

abbrev pub client : ℕ → List ℕ → Object
client n name = record { number = n; name = name; class = 0; slots = [] }

abbrev pub account : ℕ → List ℕ → ℤ → Object
account n name balance = record {
  number = n;
  name = name;
  class = 1;
  slots = record { attribute = 1; value = value.Int balance } ∷ [];
}

abbrev pub link : ℕ → ℕ → ℕ → ℕ → Edge
link n source reference target = record {
  number = n;
  source = source;
  reference = reference;
  target = target;
}

abbrev pub node : List ℕ → ℕ → Mark → PatternNode
node name class mark = record { name = name; class = class; mark = mark }

abbrev pub arrow : ℕ → ℕ → ℕ → Mark → PatternEdge
arrow source reference target mark = record {
  source = source;
  reference = reference;
  target = target;
  mark = mark;
}

abbrev pub balance_of : ℕ → PatternSlot
balance_of n = record { node = n; kind = slot.Attribute 1; written = true }

abbrev pub balance : ℕ → Expr
balance n = expr.Slot (record { node = n; attribute = 1 })

abbrev pub number : ℤ → Expr
number n = expr.Literal (value.Int n)

abbrev pub set_balance : ℕ → Expr → SetItem
set_balance n e = record { node = n; attribute = 1; value = e }

abbrev pub object_param : List ℕ → ℕ → Param
object_param name class = record { direction = In; name = name; kind = param.Object class }

abbrev pub object_arg : List ℕ → List ℕ → NamedArg
object_arg name object = record { name = name; arg = arg.Object object }

abbrev pub value_arg : List ℕ → ℤ → NamedArg
value_arg name n = record { name = name; arg = arg.Value (value.Int n) }

-- Two accounts a1 and a2.
abbrev pub two_accounts : ℤ → ℤ → Graph
two_accounts first second = record {
  objects = account 0 (codes "a1") first ∷ account 1 (codes "a2") second ∷ [];
  edges = [];
  next_object = 2;
  next_edge = 0;
  next_name = 0;
}

-- One account a1.
abbrev pub one_account : ℤ → Graph
one_account balance = record {
  objects = account 0 (codes "a1") balance ∷ [];
  edges = [];
  next_object = 1;
  next_edge = 0;
  next_name = 0;
}

-- A client c1 and an account a1, with these edges.
abbrev pub pair_with : List Edge → ℕ → Graph
pair_with edges next = record {
  objects = client 0 (codes "c1") ∷ account 1 (codes "a1") (pos 0) ∷ [];
  edges = edges;
  next_object = 2;
  next_edge = next;
  next_name = 0;
}

-- Clients c1 and c2 and an account a1, with these edges.
abbrev pub three_with : List Edge → ℕ → Graph
three_with edges next = record {
  objects = client 0 (codes "c1") ∷ client 1 (codes "c2") ∷ account 2 (codes "a1") (pos 0) ∷ [];
  edges = edges;
  next_object = 3;
  next_edge = next;
  next_name = 0;
}

abbrev pub kernel : List PatternNode → List PatternEdge → List PatternSlot → Shape
kernel nodes edges slots = record { nodes = nodes; edges = edges; slots = slots }

abbrev pub rule : List Param → Shape → Rule
rule params shape = record {
  name = codes "rule";
  params = params;
  shape = shape;
  forbids = [];
  needs = [];
  multis = [];
  wheres = [];
  sets = [];
}

abbrev pub at_match : List ℕ → List ℕ → Match
at_match nodes edges = record { nodes = nodes; edges = edges; copies = [] }

-- rule transfer(in from: Account, in to: Account, in amount: int) {
--   preserve node from: Account; preserve node to: Account;
--   where (amount > 0) and (from.balance >= amount);
--   set from.balance = from.balance - amount; set to.balance = to.balance + amount;
-- }
abbrev pub transfer : Rule
transfer =
    record (rule (object_param (codes "from") 1 ∷ object_param (codes "to") 1
    ∷ record { direction = In; name = codes "amount"; kind = param.Data kind.Int } ∷ [])
    (kernel (node (codes "from") 1 Keep ∷ node (codes "to") 1 Keep ∷ []) []
    (balance_of 0 ∷ balance_of 1 ∷ []))) {
      wheres =
          expr.Binary sign.And (expr.Binary sign.Greater (expr.Param 2) (number (pos 0)))
          (expr.Binary sign.AtLeast (balance 0) (expr.Param 2)) ∷ [];
      sets =
          set_balance 0 (expr.Binary sign.Minus (balance 0) (expr.Param 2))
          ∷ set_balance 1 (expr.Binary sign.Plus (balance 1) (expr.Param 2)) ∷ [];
    }

abbrev pub transfer_args : ℤ → Args
transfer_args amount = record {
  list = value_arg (codes "amount") amount ∷ object_arg (codes "from") (codes "a1")
      ∷ object_arg (codes "to") (codes "a2") ∷ [];
}

-- rule lone(out c: Client) { create node c: Client; }
abbrev pub lone : Rule
lone =
    rule (record { direction = Out; name = codes "c"; kind = param.Object 0 } ∷ [])
    (kernel (node (codes "c") 0 Make ∷ []) [] [])

-- rule openAccount(in c: Client, out a: Account) {
--   preserve node c: Client; create node a: Account; create edge c -> a: accounts;
-- }
abbrev pub open_account : Rule
open_account =
    rule (object_param (codes "c") 0
    ∷ record { direction = Out; name = codes "a"; kind = param.Object 1 } ∷ [])
    (kernel (node (codes "c") 0 Keep ∷ node (codes "a") 1 Make ∷ []) (arrow 0 0 1 Make ∷ []) [])

-- rule dropClient(in c: Client) { delete node c: Client; }
abbrev pub drop_client : Rule
drop_client = rule (object_param (codes "c") 0 ∷ []) (kernel (node (codes "c") 0 Drop ∷ []) [] [])

-- rule unlink(in c: Client, in a: Account) {
--   preserve node c: Client; preserve node a: Account; delete edge c -> a: accounts;
-- }
abbrev pub unlink : Rule
unlink =
    rule (object_param (codes "c") 0 ∷ object_param (codes "a") 1 ∷ [])
    (kernel (node (codes "c") 0 Keep ∷ node (codes "a") 1 Keep ∷ []) (arrow 0 0 1 Drop ∷ []) [])

-- rule two() { preserve node x: Account; preserve node y: Account; }
abbrev pub two : Rule
two = rule [] (kernel (node (codes "x") 1 Keep ∷ node (codes "y") 1 Keep ∷ []) [] [])

-- rule add(in a: Account) { preserve node a: Account; set a.balance = a.balance + 1; }
abbrev pub add : Rule
add =
    record (rule (object_param (codes "a") 1 ∷ [])
    (kernel (node (codes "a") 1 Keep ∷ []) [] (balance_of 0 ∷ [])))
    { sets = set_balance 0 (expr.Binary sign.Plus (balance 0) (number (pos 1))) ∷ [] }

-- rule touch() {
--   preserve node q: Client; preserve node p: Account;
--   preserve edge q -> p: accounts; preserve edge q -> p: accounts;
-- }
abbrev pub touch : Rule
touch =
    rule [] (kernel (node (codes "q") 0 Keep ∷ node (codes "p") 1 Keep ∷ [])
    (arrow 0 0 1 Keep ∷ arrow 0 0 1 Keep ∷ []) [])

-- forbid or require { node d: Client; edge a -> d: owner; }, after one kernel node a
abbrev pub owned_by_another : Part
owned_by_another = record { nodes = node (codes "d") 0 Keep ∷ []; edges = arrow 0 2 1 Keep ∷ [] }

-- rule reset(in a: Account) {
--   preserve node a: Account; set a.balance = 0;
--   forbid { node d: Client; edge a -> d: owner; }
-- }
abbrev pub reset : Rule
reset =
    record (rule (object_param (codes "a") 1 ∷ [])
    (kernel (node (codes "a") 1 Keep ∷ []) [] (balance_of 0 ∷ [])))
    { forbids = owned_by_another ∷ []; sets = set_balance 0 (number (pos 0)) ∷ [] }

-- rule own(in a: Account) {
--   preserve node a: Account;
--   require { node d: Client; edge a -> d: owner; }
--   set a.balance = 1;
-- }
abbrev pub own : Rule
own =
    record (rule (object_param (codes "a") 1 ∷ [])
    (kernel (node (codes "a") 1 Keep ∷ []) [] (balance_of 0 ∷ [])))
    { needs = owned_by_another ∷ []; sets = set_balance 0 (number (pos 1)) ∷ [] }

-- The same part after kernel nodes a and c, so that d is another client than c.
abbrev pub owned_by_a_third : Part
owned_by_a_third = record { nodes = node (codes "d") 0 Keep ∷ []; edges = arrow 0 2 2 Keep ∷ [] }

-- rule alone() {
--   preserve node a: Account; preserve node c: Client;
--   forbid { node d: Client; edge a -> d: owner; }
-- }
abbrev pub alone : Rule
alone =
    record (rule [] (kernel (node (codes "a") 1 Keep ∷ node (codes "c") 0 Keep ∷ []) [] []))
    { forbids = owned_by_a_third ∷ [] }

-- rule purge(in x: Account) {
--   delete node x: Account;
--   multi { preserve node y: Client; delete edge y -> x: accounts; }
-- }
abbrev pub purge : Rule
purge =
    record (rule (object_param (codes "x") 1 ∷ []) (kernel (node (codes "x") 1 Drop ∷ []) [] [])) {
      multis = record {
        shape = kernel (node (codes "y") 0 Keep ∷ []) (arrow 1 0 0 Drop ∷ [])
            [];
        wheres = [];
        sets = [];
      } ∷ [];
    }

-- rule sweep(in x: Account) {
--   preserve node x: Account;
--   multi { delete node y: Client; delete edge y -> x: accounts; }
-- }
abbrev pub sweep : Rule
sweep =
    record (rule (object_param (codes "x") 1 ∷ []) (kernel (node (codes "x") 1 Keep ∷ []) [] [])) {
      multis = record {
        shape = kernel (node (codes "y") 0 Drop ∷ []) (arrow 1 0 0 Drop ∷ [])
            [];
        wheres = [];
        sets = [];
      } ∷ [];
    }

abbrev pub args_of : List NamedArg → Args
args_of list = record { list = list }

abbrev pub nothing : Graph
nothing = record { objects = []; edges = []; next_object = 0; next_edge = 0; next_name = 0 }

abbrev pub just_client : Graph
just_client = record {
  objects = client 0 (codes "c1") ∷ [];
  edges = [];
  next_object = 1;
  next_edge = 0;
  next_name = 0;
}

-- After openAccount: the new account is the object 1 with the name `#0` and the default balance.
abbrev pub client_with_new_account : Graph
client_with_new_account = record {
  objects = client 0 (codes "c1") ∷ account 1 (codes "#0") (pos 0) ∷ [];
  edges = link 0 0 0 1 ∷ [];
  next_object = 2;
  next_edge = 1;
  next_name = 1;
}

-- After purge: the account and the edges to it are gone, and their numbers are used up.
abbrev pub two_clients : Graph
two_clients = record {
  objects = client 0 (codes "c1") ∷ client 1 (codes "c2") ∷ [];
  edges = [];
  next_object = 3;
  next_edge = 2;
  next_name = 0;
}

abbrev pub purge_args : Args
purge_args = args_of (object_arg (codes "x") (codes "a1") ∷ [])

abbrev pub copy : ℕ → ℕ → Extension
copy node edge = record { nodes = node ∷ []; edges = edge ∷ [] }

-- The first attempt of its request.
abbrev pub tried : ℕ → Args → Outcome → Tried
tried number args outcome = record {
  attempt = 0;
  rule = number;
  args = args;
  outcome = outcome;
  attempt_bound = lit< tt;
}

abbrev pub one : ℕ → Tried → Entry
one request attempt = record { session = 0; request = request; what = One attempt }

-- The first request opens an account `#0`, the second adds to it; of these rules openAccount is 0,
-- add 1.
abbrev pub opens : Entry
opens =
    one 0 (tried 0 (args_of (object_arg (codes "c") (codes "c1") ∷ [])) (Applied
    (record { nodes = codes "c1" ∷ []; edges = []; copies = [] }) (codes "#0" ∷ []) [] []))

abbrev pub adds : Entry
adds =
    one 1 (tried 1 (args_of (object_arg (codes "a") (codes "#0") ∷ []))
    (Applied (record { nodes = codes "#0" ∷ []; edges = []; copies = [] }) []
    (value.Int (pos 0) ∷ []) []))

-- The same two requests the other way round.
abbrev pub adds_first : Entry
adds_first =
    one 0 (tried 1 (args_of (object_arg (codes "a") (codes "#0") ∷ []))
    (Applied (record { nodes = codes "#0" ∷ []; edges = []; copies = [] }) []
    (value.Int (pos 0) ∷ []) []))

abbrev pub opens_second : Entry
opens_second =
    one 1 (tried 0 (args_of (object_arg (codes "c") (codes "c1") ∷ [])) (Applied
    (record { nodes = codes "c1" ∷ []; edges = []; copies = [] }) (codes "#0" ∷ []) [] []))

abbrev pub client_with_one : Graph
client_with_one =
    record client_with_new_account
    { objects = client 0 (codes "c1") ∷ account 1 (codes "#0") (pos 1) ∷ [] }

-- true or (amount + 1 > 0)
abbrev pub always_unless_it_overflows : Expr
always_unless_it_overflows =
    expr.Binary sign.Or (expr.Literal (value.Bool true)) (expr.Binary sign.Greater
    (expr.Binary sign.Plus (expr.Param 2) (number (pos 1))) (number (pos 0)))

-- Rules 0 and 1 of the bank.
abbrev pub bank_rules : Rules
bank_rules = record { meta = model; rules = open_account ∷ add ∷ []; units = [] }

-- Entries that say what wasn't: a match missed that is there, another name than the next, and
-- an object gone that is still there.
abbrev pub open_args : Args
open_args = args_of (object_arg (codes "c") (codes "c1") ∷ [])

abbrev pub opens_missed : Entry
opens_missed = one 0 (tried 0 open_args Missed)

abbrev pub opens_misnamed : Entry
opens_misnamed =
    one 0 (tried 0 open_args (Applied (record { nodes = codes "c1" ∷ []; edges = []; copies = [] })
    (codes "#1" ∷ []) [] []))

abbrev pub opens_and_drops : Entry
opens_and_drops =
    one 0 (tried 0 open_args (Applied (record { nodes = codes "c1" ∷ []; edges = []; copies = [] })
    (codes "#0" ∷ []) [] (record {
      name = codes "c1";
      class = codes "Client";
      values = [];
      in_order = refl;
    } ∷ [])))

-- Rule 0 of these makes a client.
abbrev pub lone_rules : Rules
lone_rules = record { meta = model; rules = lone ∷ []; units = [] }

-- A request's first attempt and its second, each of which made a client of this name.
abbrev pub made_client : List ℕ → Outcome
made_client name =
    Applied (record { nodes = []; edges = []; copies = [] }) (name ∷ []) [] []

abbrev pub makes_first : List ℕ → Tried
makes_first name = tried 0 (args_of []) (made_client name)

abbrev pub makes_second : List ℕ → Tried
makes_second name = record {
  attempt = 1;
  rule = 0;
  args = args_of [];
  outcome = made_client name;
  attempt_bound = lit< tt;
}

abbrev pub grouped : List Tried → Bool → Entry
grouped attempts done = record { session = 0; request = 0; what = Group attempts done }

-- A group of one attempt that isn't done, and one of two that is.
abbrev pub undone : Entry
undone = grouped (makes_first (codes "#0") ∷ []) false

abbrev pub both_done : Entry
both_done = grouped (makes_first (codes "#0") ∷ makes_second (codes "#1") ∷ []) true

-- The graph with one client that was made, and an empty graph that has drawn all numbers.
abbrev pub one_made : Graph
one_made = record {
  objects = client 0 (codes "#0") ∷ [];
  edges = [];
  next_object = 1;
  next_edge = 0;
  next_name = 1;
}

abbrev pub all_drawn : Graph
all_drawn = record {
  objects = [];
  edges = [];
  next_object = 1000000000;
  next_edge = 0;
  next_name = 0;
}

-- The second entry of the bank's journal with another value before.
abbrev pub adds_to_one : Entry
adds_to_one =
    one 1 (tried 1 (args_of (object_arg (codes "a") (codes "#0") ∷ []))
    (Applied (record { nodes = codes "#0" ∷ []; edges = []; copies = [] }) []
    (value.Int (pos 1) ∷ []) []))
