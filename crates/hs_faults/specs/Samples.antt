-- A small bank and parts of rules over it, to try the definitions on.
use Rattle.std.specs.Prelude.{ℕ, pos, List, [], ◌∷◌, false, None, codes, refl}
use Rattle.hs_expr.specs.declared.Name.{Name}
use Rattle.hs_expr.specs.declared.Piece.TheVariants as piece
use Rattle.hs_expr.specs.declared.Span.{Span}
use Rattle.hs_expr.specs.declared.Value.TheVariants as value
use Rattle.hs_text.specs.declared.syntax.Atom.TheVariants as atom
use Rattle.hs_text.specs.declared.syntax.Bind.{Bind}
use Rattle.hs_text.specs.declared.syntax.Bind.TheVariants as bind
use Rattle.hs_text.specs.declared.syntax.Body.TheVariants as body
use Rattle.hs_text.specs.declared.syntax.Call.{Call}
use Rattle.hs_text.specs.declared.syntax.Definition.{Definition}
use Rattle.hs_text.specs.declared.syntax.Definition.TheVariants as definition
use Rattle.hs_text.specs.declared.syntax.Direction.{Direction}
use Rattle.hs_text.specs.declared.syntax.Element.TheVariants as element
use Rattle.hs_text.specs.declared.syntax.Item.{Item}
use Rattle.hs_text.specs.declared.syntax.Item.TheVariants as item
use Rattle.hs_text.specs.declared.syntax.Mark.{Mark}
use Rattle.hs_text.specs.declared.syntax.Param.{Param}
use Rattle.hs_text.specs.declared.syntax.Simple.TheVariants as simple
use Rattle.hs_types.specs.declared.meta.DataType.TheVariants.{EInt}
use Rattle.hs_types.specs.declared.meta.FeatureKind.TheVariants.{Attribute, Reference}
use Rattle.hs_types.specs.declared.meta.Metamodel.{Metamodel}
use Rattle.hs_faults.specs.Nodes.{declared_nodes}
use Rattle.hs_faults.specs.Statements.{statements}
use Rattle.hs_faults.specs.StatementFaults.{statement_faults}
use Rattle.hs_faults.specs.declared.fault.RuleFault.{RuleFault}
use Rattle.hs_faults.specs.declared.fault.RuleFaultKind.{RuleFaultKind}
use Rattle.hs_faults.specs.declared.fault.Within.TheVariants as within

-- Client has accounts, which lead to Account; Account is below Client and has a balance.
abbrev pub small_bank : Metamodel
small_bank = record {
  format = 1;
  classes = record { name = codes "Client"; is_abstract = false; supers = []; features = 0 ∷ [] }
      ∷ record {
        name = codes "Account";
        is_abstract = false;
        supers = 0 ∷ [];
        features = 0 ∷ 1 ∷ [];
      }
      ∷ [];
  features = record { owner = 0; name = codes "accounts"; kind = Reference 1 false 0 None }
      ∷ record { owner = 1; name = codes "balance"; kind = Attribute EInt (value.Int (pos 0)) }
      ∷ [];
}

abbrev pub place : ℕ → Span
place column = record { start = column; end = column; line = 1; column = column }

-- A word in this column.
abbrev pub word : ℕ → List ℕ → Name
word column text = record { text = text; span = place column }

abbrev pub node_item : Mark → ℕ → List ℕ → List ℕ → Item
node_item mark column name class =
    item.Simple (simple.Marked mark (element.Node (word column name) (word column class)))

-- The edge by `accounts` between these two; its words are in this column.
abbrev pub edge : Mark → ℕ → List ℕ → List ℕ → Item
edge mark column source target =
    item.Simple (simple.Marked mark
    (element.Edge (word column source) (word column target) (word column (codes "accounts"))))

-- The node's balance is set to this number.
abbrev pub set : ℕ → List ℕ → ℕ → Item
set column name n =
    item.Simple (simple.Set (word column name) (word column (codes "balance"))
    (record { pieces = piece.Int (pos n) (place column) ∷ []; one = refl }))

abbrev pub param : Direction → ℕ → List ℕ → List ℕ → Param
param direction column name kind = record {
  direction = direction;
  name = word column name;
  kind = word column kind;
}

-- The rule of this name, in column 0.
abbrev pub rule_definition : List ℕ → List Param → List Item → Definition
rule_definition name params items =
    definition.Rule (record { name = word 0 name; params = params; items = items })

-- One fault, in this column.
abbrev pub only_fault : ℕ → RuleFaultKind → List RuleFault
only_fault column kind =
    record { within = within.Rule; line = 1; column = column; kind = kind } ∷ []

-- The unit of this name, in this column, that calls these one by one.
abbrev pub unit : ℕ → List ℕ → List Param → List Call → Definition
unit column name params calls =
    definition.Unit (record {
      name = word column name;
      params = params;
      body = body.Sequential calls;
    })

-- A call of this, in this column.
abbrev pub call : ℕ → List ℕ → List Bind → Call
call column callee binds = record { callee = word column callee; binds = binds }

abbrev pub give : List ℕ → List ℕ → Bind
give name value = bind.Give (word 0 name) (atom.Name (word 0 value))

abbrev pub give_number : List ℕ → ℕ → Bind
give_number name n = bind.Give (word 0 name) (atom.Int false (pos n) (place 0))

abbrev pub take : List ℕ → List ℕ → Bind
take name variable = bind.Take (word 0 name) (word 0 variable)

-- One fault of a unit, in this column.
abbrev pub only_unit : ℕ → RuleFaultKind → List RuleFault
only_unit column kind = record { within = within.Unit; line = 1; column = column; kind = kind } ∷ []

-- What the third pass finds in a rule of these items, without parameters.
abbrev pub statement_faults_of : List Item → List RuleFault
statement_faults_of items =
    statement_faults small_bank [] (declared_nodes items) [] (statements items)
