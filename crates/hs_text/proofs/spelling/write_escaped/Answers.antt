use Rattle.std.proofs.Common.{rules}
use Rattle.hs_text.proofs.Escapes.{as-it-is}
use Rattle.hs_text.proofs.spelling.write_escaped.Goals as goal

pub returns : goal.returns
returns c = let same = as-it-is c.args.c c.if-c-eq34.false c.if-c-eq92.false c.if-c-eq10.false c.if-c-eq9.false in rw same (search rules)
