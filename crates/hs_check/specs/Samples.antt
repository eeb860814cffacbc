-- Rules over the small bank, and what they mean.
use Rattle.std.specs.Prelude.{ℕ, List, [], ◌∷◌, codes, refl}
use Rattle.hs_expr.specs.declared.Expr.{Expr}
use Rattle.hs_expr.specs.declared.Expr.TheVariants as expr
use Rattle.hs_expr.specs.declared.Kind.TheVariants as sort
use Rattle.hs_expr.specs.declared.Piece.TheVariants as piece
use Rattle.hs_expr.specs.declared.Sign.TheVariants.{Greater}
use Rattle.hs_text.specs.declared.syntax.Definition.{Definition}
use Rattle.hs_text.specs.declared.syntax.Direction.TheVariants as given
use Rattle.hs_text.specs.declared.syntax.Element.{Element}
use Rattle.hs_text.specs.declared.syntax.Element.TheVariants as element
use Rattle.hs_text.specs.declared.syntax.Item.TheVariants as item
use Rattle.hs_text.specs.declared.syntax.Mark.TheVariants.{Preserve, Create, Delete}
use Rattle.hs_text.specs.declared.syntax.Simple.{Simple}
use Rattle.hs_text.specs.declared.syntax.Simple.TheVariants as simple
use Rattle.hs_types.specs.declared.rule.Direction.TheVariants.{In, Out}
use Rattle.hs_types.specs.declared.rule.Mark.{Mark}
use Rattle.hs_types.specs.declared.rule.Param.{Param}
use Rattle.hs_types.specs.declared.rule.ParamKind.TheVariants.{Data, Object}
use Rattle.hs_types.specs.declared.rule.PatternEdge.{PatternEdge}
use Rattle.hs_types.specs.declared.rule.PatternNode.{PatternNode}
use Rattle.hs_types.specs.declared.rule.SetItem.{SetItem}
use Rattle.hs_faults.specs.Samples.{param, place, rule_definition, word}

-- All words are in column 0: what a text denotes doesn't depend on the positions of its words.
abbrev pub account_node : List ℕ → Element
account_node name = element.Node (word 0 name) (word 0 (codes "Account"))

abbrev pub accounts_edge : List ℕ → List ℕ → Element
accounts_edge source target =
    element.Edge (word 0 source) (word 0 target) (word 0 (codes "accounts"))

abbrev pub balance_set : List ℕ → List ℕ → Simple
balance_set name other =
    simple.Set (word 0 name) (word 0 (codes "balance"))
    (record { pieces = piece.Slot (word 0 other) (word 0 (codes "balance")) ∷ []; one = refl })

-- rule hiring(in a: Account, in n: int, out c: Account) {
--   forbid { node d: Account; edge d -> a: accounts; }
--   preserve node a: Account;
--   multi { preserve node b: Account; delete edge a -> b: accounts; set b.balance = a.balance; }
--   create node c: Account;
--   create edge a -> c: accounts;
--   where a.balance > n;
--   set c.balance = n;
-- }
abbrev pub hiring : Definition
hiring = rule_definition (codes "open")
    (param given.In 0 (codes "a") (codes "Account") ∷ param given.In 0 (codes "n") (codes "int")
    ∷ param given.Out 0 (codes "c") (codes "Account") ∷ [])
    (item.Forbid (account_node (codes "d") ∷ accounts_edge (codes "d") (codes "a") ∷ [])
    ∷ item.Simple (simple.Marked Preserve (account_node (codes "a")))
    ∷ item.Multi (simple.Marked Preserve (account_node (codes "b")) ∷ simple.Marked Delete
    (accounts_edge (codes "a") (codes "b")) ∷ balance_set (codes "b") (codes "a") ∷ [])
    ∷ item.Simple (simple.Marked Create (account_node (codes "c")))
    ∷ item.Simple (simple.Marked Create (accounts_edge (codes "a") (codes "c")))
    ∷ item.Simple (simple.Where (place 0)
    (record {
      pieces = piece.Slot (word 0 (codes "a")) (word 0 (codes "balance"))
          ∷ piece.Name (word 0 (codes "n")) ∷ piece.Binary Greater (place 0) ∷ [];
      one = refl;
    }))
    ∷ item.Simple (simple.Set (word 0 (codes "c")) (word 0 (codes "balance"))
    (record { pieces = piece.Name (word 0 (codes "n")) ∷ []; one = refl }))
    ∷ [])

-- What the parts of these denote.
abbrev pub an_account : List ℕ → Mark → PatternNode
an_account name mark = record { name = name; class = 1; mark = mark }

abbrev pub an_edge : Mark → ℕ → ℕ → PatternEdge
an_edge mark source target = record { source = source; reference = 0; target = target; mark = mark }

abbrev pub balance_slot : ℕ → Expr
balance_slot n = expr.Slot (record { node = n; attribute = 1 })

abbrev pub balance_gets : ℕ → Expr → SetItem
balance_gets n value = record { node = n; attribute = 1; value = value }

abbrev pub params_of_hiring : List Param
params_of_hiring =
    record { direction = In; name = codes "a"; kind = Object 1 }
    ∷ record { direction = In; name = codes "n"; kind = Data sort.Int }
    ∷ record { direction = Out; name = codes "c"; kind = Object 1 }
    ∷ []
