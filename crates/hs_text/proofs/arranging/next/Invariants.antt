use Rattle.std.proofs.Common.{◌≡◌, length}
use Rattle.hs_text.specs.Arranging.{next_expr, below_expr, before_expr}
use Rattle.hs_text.proofs.arranging.next.Given as goal

abbrev pub invariant-tasks : goal.invariant-tasks
invariant-tasks l = record {
  next : next_expr l.tasks ≡ next_expr l.initial.tasks;
  below : below_expr l.tasks ≡ below_expr l.initial.tasks;
  written : before_expr l.tasks l.texts ≡ before_expr l.initial.tasks l.initial.texts;
}

abbrev pub decreases-tasks : goal.decreases-tasks
decreases-tasks l = length l.tasks
