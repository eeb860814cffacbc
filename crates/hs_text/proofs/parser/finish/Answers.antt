use Rattle.std.proofs.Common.{◌∷◌, sym, ap, ◌∙◌}
use Rattle.hs_text.proofs.Arms.{end-act-less, end-act, end-sub-less, end-sub, end-cut-off, end-whole}
use Rattle.hs_text.proofs.parser.finish.Goals as goal

pub steps-smaller-in-Continue-1 : goal.steps-smaller-in-Continue-1
steps-smaller-in-Continue-1 c = end-act-less c.args.source.now c.args.stack.now c.args.builder.now c.steps.stack c.steps.builder c.steps.invariant c.in-Act.action c.pop.new.self (c.in-Some.ensures ∙ ap (λ s. s ∷ c.pop.new.self) c.in-Act.is)

pub steps-preserved-in-Continue-1 : goal.steps-preserved-in-Continue-1
steps-preserved-in-Continue-1 c = end-act c.args.source.now c.args.stack.now c.args.builder.now c.steps.stack c.steps.builder c.steps.invariant c.in-Act.action c.pop.new.self c.act.new.self (c.in-Some.ensures ∙ ap (λ s. s ∷ c.pop.new.self) c.in-Act.is) c.in_ok-act-in-Act.ensures

pub steps-smaller : goal.steps-smaller
steps-smaller c = end-sub-less c.args.source.now c.args.stack.now c.args.builder.now c.steps.stack c.steps.builder c.steps.invariant c.in-Sub.part c.pop.new.self c.expand.new.stack c.in-Some-empty.production (c.in-Some.ensures ∙ ap (λ s. s ∷ c.pop.new.self) c.in-Sub.is) (sym c.in-Some-empty.ensures) c.in_ok-expand-in-Some-empty.ensures

pub steps-preserved : goal.steps-preserved
steps-preserved c = end-sub c.args.source.now c.args.stack.now c.args.builder.now c.steps.stack c.steps.builder c.steps.invariant c.in-Sub.part c.pop.new.self c.expand.new.stack c.in-Some-empty.production (c.in-Some.ensures ∙ ap (λ s. s ∷ c.pop.new.self) c.in-Sub.is) (sym c.in-Some-empty.ensures) c.in_ok-expand-in-Some-empty.ensures

pub returns-in-None-clause-cut_off : goal.returns-in-None-clause-cut_off
returns-in-None-clause-cut_off c = end-cut-off c.args.source.now c.args.stack.now c.args.builder.now c.steps.stack c.steps.builder c.steps.invariant c.in-Sub.part c.pop.new.self (c.in-Some.ensures ∙ ap (λ s. s ∷ c.pop.new.self) c.in-Sub.is) (sym c.in-None.ensures)

pub returns-clause-ended : goal.returns-clause-ended
returns-clause-ended c = end-whole c.args.source.now c.args.stack.now c.args.builder.now c.steps.stack c.steps.builder c.steps.invariant c.in_default.ensures.0
