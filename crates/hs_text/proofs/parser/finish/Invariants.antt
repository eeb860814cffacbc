use Rattle.std.proofs.Common.{[], ◌↔◌}
use Rattle.hs_text.specs.declared.builder.Builder.{Builder}
use Rattle.hs_text.specs.Machine.{Derives}
use Rattle.hs_text.proofs.Steps.{size}
use Rattle.hs_text.proofs.parser.finish.Given as goal

abbrev pub invariant-steps : goal.invariant-steps
invariant-steps l = (f : Builder) → Derives l.source l.initial.stack [] l.initial.builder f ↔ Derives l.source l.stack [] l.builder f

abbrev pub decreases-steps : goal.decreases-steps
decreases-steps l = size l.stack
