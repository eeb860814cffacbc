use Rattle.std.proofs.Common.{◌<◌, length, arith}
use Rattle.std.proofs.lemmas.Option.{slice_get_within}
use Rattle.hs_overlap.specs.Weights.{HaveOneReference}
use Rattle.hs_overlap.proofs.Counts.{count_all, count_here, count_past}
use Rattle.hs_overlap.proofs.bound.edge_partners.Goals as goal
use Rattle.hs_overlap.proofs.bound.edge_partners.Goals.{then-have_one_reference, else-have_one_reference}

pub loop-y-preserved : goal.loop-y-preserved
loop-y-preserved c = elim c.if-have_one_reference.branch [
  | then-have_one_reference w ↦
      rw w.count-is (count_here (HaveOneReference c.args.first.now c.args.second.now c.args.x) c.loop-y.y c.loop-y.count c.loop-y.invariant.0 (c.have_one_reference.ensures.0 w.if-have_one_reference.true), omega (arith, c.loop-y.invariant.1))
  | else-have_one_reference w ↦
      rw w.count-is (count_past (HaveOneReference c.args.first.now c.args.second.now c.args.x) c.loop-y.y c.loop-y.count c.loop-y.invariant.0 (λ h. let yes = c.have_one_reference.ensures.1 h in let no_ = w.if-have_one_reference.false in cc), omega (arith, c.loop-y.invariant.1))
]

pub returns-clause-exact : goal.returns-clause-exact
returns-clause-exact c = count_all (HaveOneReference c.args.first.now c.args.second.now c.args.x) c.loop-y.y c.loop-y.count c.loop-y.invariant.0 (λ y h. let l : y < length c.args.second.now.edges = slice_get_within c.args.second.now.edges y h.other h.second.at in omega arith)

pub returns-clause-few : goal.returns-clause-few
returns-clause-few c = omega (arith, c.requires, c.loop-y.invariant.1)
