use Rattle.std.proofs.Common.{◌∙◌, arith}
use Rattle.hs_meta.proofs.Ranked.{found_all}
use Rattle.hs_meta.proofs.features.with_inherited.Goals as goal

pub returns : goal.returns
returns c = c.from_vec.ensures ∙ found_all c.args.supers.now c.args.own c.args.ranks.now c.loop-rank.rank c.loop-rank.made.items c.loop-rank.invariant.long c.requires.ranks c.requires.low (omega arith) c.loop-rank.invariant.found
