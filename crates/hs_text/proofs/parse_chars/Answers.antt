use Rattle.hs_text.proofs.WellParsed.{well-parsed}
use Rattle.hs_text.proofs.parse_chars.Goals as goal

pub invariant_of-result : goal.invariant_of-result
invariant_of-result c = record { well_formed = well-parsed c.args.source.now c.requires c.positions_move.ensures c.in-Ok.scanned.tokens.items c.in-Ok-read.definitions c.in-Ok.ensures.ok c.in-Ok-read.ensures.ok }
