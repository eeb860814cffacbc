use Rattle.std.proofs.Common.{◌<◌, length, arith}
use Rattle.std.proofs.lemmas.Option.{slice_get_within}
use Rattle.hs_overlap.proofs.search.forced_edge.Goals as goal

pub returns-clause-none : goal.returns-clause-none
returns-clause-none c = λ t x f. let below : x < length c.args.first.now.edges = slice_get_within c.args.first.now.edges x f.edge f.left.at in c.loop-x.invariant x (omega arith) f
