use Rattle.std.proofs.Common.{◌<◌, length, arith}
use Rattle.std.proofs.lemmas.Option.{slice_get_within}
use Rattle.hs_overlap.specs.Overlaps.{NodesMeet}
use Rattle.hs_overlap.proofs.Counts.{count_all, count_here, count_past}
use Rattle.hs_overlap.proofs.bound.node_partners.Goals as goal
use Rattle.hs_overlap.proofs.bound.node_partners.Goals.{then-nodes_meet, else-nodes_meet}

pub loop-j-preserved : goal.loop-j-preserved
loop-j-preserved c = elim c.if-nodes_meet.branch [
  | then-nodes_meet w ↦
      rw w.count-is (count_here (NodesMeet c.args.meta.now c.args.first.now c.args.second.now c.args.i) c.loop-j.j c.loop-j.count c.loop-j.invariant.0 (c.nodes_meet.ensures.0 w.if-nodes_meet.true), omega (arith, c.loop-j.invariant.1))
  | else-nodes_meet w ↦
      rw w.count-is (count_past (NodesMeet c.args.meta.now c.args.first.now c.args.second.now c.args.i) c.loop-j.j c.loop-j.count c.loop-j.invariant.0 (λ h. let yes = c.nodes_meet.ensures.1 h in let no_ = w.if-nodes_meet.false in cc), omega (arith, c.loop-j.invariant.1))
]

pub returns-clause-exact : goal.returns-clause-exact
returns-clause-exact c = count_all (NodesMeet c.args.meta.now c.args.first.now c.args.second.now c.args.i) c.loop-j.j c.loop-j.count c.loop-j.invariant.0 (λ j h. let l : j < length c.args.second.now.nodes = slice_get_within c.args.second.now.nodes j h.other h.second.at in omega arith)

pub returns-clause-few : goal.returns-clause-few
returns-clause-few c = omega (arith, c.requires, c.loop-j.invariant.1)
