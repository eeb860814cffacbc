-- Small rule sets over the small small_bank, to try their definitions on.
use Rattle.std.specs.Prelude.{ℕ, List, [], ◌∷◌, pos, codes}
use Rattle.hs_expr.specs.declared.Kind.TheVariants as sort
use Rattle.hs_expr.specs.declared.Value.TheVariants as value
use Rattle.hs_types.specs.declared.rule.Direction.{Direction}
use Rattle.hs_types.specs.declared.rule.Direction.TheVariants.{In, Out}
use Rattle.hs_types.specs.declared.rule.Param.{Param}
use Rattle.hs_types.specs.declared.rule.ParamKind.{ParamKind}
use Rattle.hs_types.specs.declared.rule.ParamKind.TheVariants.{Data, Object}
use Rattle.hs_types.specs.declared.rule.Rule.{Rule}
use Rattle.hs_types.specs.declared.unit.Atom.TheVariants as atom
use Rattle.hs_types.specs.declared.unit.Bind.{Bind}
use Rattle.hs_types.specs.declared.unit.Bind.TheVariants.{Give, Take}
use Rattle.hs_types.specs.declared.unit.Body.TheVariants as body
use Rattle.hs_types.specs.declared.unit.Call.{Call}
use Rattle.hs_types.specs.declared.unit.Callee.TheVariants as callee
use Rattle.hs_types.specs.declared.unit.Unit.{Unit as RuleUnit}

-- An empty rule of this name.
abbrev pub empty_rule : List ℕ → Rule
empty_rule name = record {
  name = name;
  params = [];
  shape = record { nodes = []; edges = []; slots = [] };
  forbids = [];
  needs = [];
  multis = [];
  wheres = [];
  sets = [];
}

abbrev pub parameter : Direction → List ℕ → ParamKind → Param
parameter direction name kind = record { direction = direction; name = name; kind = kind }

-- A call of the unit at this place.
abbrev pub unit_call : ℕ → List Bind → Call
unit_call place binds = record { callee = callee.Unit place; binds = binds }

abbrev pub sequence : List ℕ → List Param → List Call → RuleUnit
sequence name params calls = record { name = name; params = params; body = body.Sequential calls }

abbrev pub give_name : List ℕ → List ℕ → Bind
give_name name other = Give name (atom.Name other)

abbrev pub give_int : List ℕ → ℕ → Bind
give_int name n = Give name (atom.Value (value.Int (pos n)))

abbrev pub give_text : List ℕ → List ℕ → Bind
give_text name text = Give name (atom.Value (value.Text text))

-- unit pay(in into: Account, in sum: int, out paid: Account) {}
abbrev pub params_of_pay : List Param
params_of_pay =
    parameter In (codes "into") (Object 1) ∷ parameter In (codes "sum") (Data sort.Int)
    ∷ parameter Out (codes "paid") (Object 1) ∷ []

abbrev pub pay : RuleUnit
pay = sequence (codes "pay") params_of_pay []

-- unit run_unit(in a: Account, in word: text, out o: Client) { pay(into = a, sum = 5, paid > o) }
abbrev pub params_of_run : List Param
params_of_run =
    parameter In (codes "a") (Object 1) ∷ parameter In (codes "word") (Data sort.Text)
    ∷ parameter Out (codes "o") (Object 0) ∷ []

abbrev pub binds_of_run : List Bind
binds_of_run =
    give_name (codes "into") (codes "a") ∷ give_int (codes "sum") 5
    ∷ Take (codes "paid") (codes "o") ∷ []

abbrev pub run_unit : RuleUnit
run_unit = sequence (codes "run") params_of_run (unit_call 1 binds_of_run ∷ [])

-- A unit of this name that calls the unit at this place.
abbrev pub calling : List ℕ → ℕ → RuleUnit
calling name place = sequence name [] (unit_call place [] ∷ [])
