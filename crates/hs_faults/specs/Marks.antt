-- What the marks of a text mean.
use Rattle.hs_text.specs.declared.syntax.Mark.{Mark as WrittenMark}
use Rattle.hs_text.specs.declared.syntax.Mark.TheVariants.{Preserve, Create, Delete}
use Rattle.hs_types.specs.declared.rule.Mark.{Mark}
use Rattle.hs_types.specs.declared.rule.Mark.TheVariants.{Keep, Drop, Make}

abbrev pub mark_meant : WrittenMark → Mark
mark_meant Preserve = Keep
mark_meant Create = Make
mark_meant Delete = Drop
