-- What a bind ties.
use Rattle.hs_expr.specs.declared.Name.{Name}
use Rattle.hs_text.specs.declared.syntax.Bind.{Bind}
use Rattle.hs_text.specs.declared.syntax.Bind.TheVariants as bind

-- The name of the parameter that a bind ties.
abbrev pub tied_name : Bind → Name
tied_name (bind.Give name value) = name
tied_name (bind.Take name variable) = name
