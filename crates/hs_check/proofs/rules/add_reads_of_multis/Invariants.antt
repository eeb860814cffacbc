use Rattle.std.proofs.Common.{◌≡◌, ◌++◌, drop}
use Rattle.std.specs.List.{flat_map}
use Rattle.hs_types.specs.RuleForm.{reads_in}
use Rattle.hs_types.specs.declared.rule.Multi.{Multi}
use Rattle.hs_check.proofs.rules.add_reads_of_multis.Given as goal

abbrev pub invariant-loop-multi : goal.invariant-loop-multi
invariant-loop-multi l = l.reads ++ flat_map (λ (multi : Multi). reads_in multi.wheres multi.sets) (drop l.multi-index l.multis) ≡ l.fn.reads ++ flat_map (λ (multi : Multi). reads_in multi.wheres multi.sets) l.multis
