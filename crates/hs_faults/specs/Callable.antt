-- What calls may name.
use Rattle.std.specs.Prelude.{List}
use Rattle.hs_text.specs.declared.syntax.Definition.{Definition}
use Rattle.hs_types.specs.declared.meta.Metamodel.{Metamodel}

-- The definitions of a text, over a metamodel.
pub record Callable : Type 0 where
  pub meta : Metamodel
  pub definitions : List Definition
