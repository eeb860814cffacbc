use Rattle.std.proofs.Common.{◌∷◌, sym, ap, ◌∙◌}
use Rattle.hs_text.proofs.Arms.{skip-taken, keep-taken, act-less, act-fine, act-texts, sub-less, sub-fine, sub-texts, none-refused}
use Rattle.hs_text.proofs.parser.take.Goals as goal

pub returns-in-Skip-clause-taken : goal.returns-in-Skip-clause-taken
returns-in-Skip-clause-taken c = skip-taken c.args.source.now c.args.stack.now c.args.builder.now c.args.token c.steps.stack c.steps.builder c.steps.invariant.fine c.steps.invariant.same_texts c.is.result c.in-Skip.kind c.pop.new.self c.is.ensures (c.in-Some.ensures ∙ ap (λ s. s ∷ c.pop.new.self) c.in-Skip.is)

pub returns-in-Keep-clause-taken : goal.returns-in-Keep-clause-taken
returns-in-Keep-clause-taken c = keep-taken c.args.source.now c.args.stack.now c.args.builder.now c.args.token c.steps.stack c.steps.builder c.steps.invariant.fine c.steps.invariant.same_texts c.in_ok-kept-in-Keep.kept c.in-Keep.term c.pop.new.self c.keep.new.builder c.in_ok-kept-in-Keep.ensures.may c.in_ok-kept-in-Keep.ensures.held (c.in-Some.ensures ∙ ap (λ s. s ∷ c.pop.new.self) c.in-Keep.is)

pub steps-smaller : goal.steps-smaller
steps-smaller c = sub-less c.args.source.now c.args.stack.now c.args.builder.now c.args.token c.steps.stack c.steps.builder c.steps.invariant.fine c.steps.invariant.same_texts c.in-Sub.part c.pop.new.self c.expand.new.stack c.in-Some-production.production (c.in-Some.ensures ∙ ap (λ s. s ∷ c.pop.new.self) c.in-Sub.is) (sym c.in-Some-production.ensures) c.in_ok-expand-in-Some-production.ensures

pub steps-preserved : goal.steps-preserved
steps-preserved c = record {
  fine = sub-fine c.args.source.now c.args.stack.now c.args.builder.now c.args.token c.steps.stack c.steps.builder c.steps.invariant.fine c.steps.invariant.same_texts c.in-Sub.part c.pop.new.self c.expand.new.stack c.in-Some-production.production (c.in-Some.ensures ∙ ap (λ s. s ∷ c.pop.new.self) c.in-Sub.is) (sym c.in-Some-production.ensures) c.in_ok-expand-in-Some-production.ensures;
  same_texts = sub-texts c.args.source.now c.args.stack.now c.args.builder.now c.args.token c.steps.stack c.steps.builder c.steps.invariant.fine c.steps.invariant.same_texts c.in-Sub.part c.pop.new.self c.expand.new.stack c.in-Some-production.production (c.in-Some.ensures ∙ ap (λ s. s ∷ c.pop.new.self) c.in-Sub.is) (sym c.in-Some-production.ensures) c.in_ok-expand-in-Some-production.ensures;
}

pub returns-in-None-clause-refused : goal.returns-in-None-clause-refused
returns-in-None-clause-refused c = none-refused c.args.source.now c.args.stack.now c.args.builder.now c.args.token c.steps.stack c.steps.builder c.steps.invariant.fine c.steps.invariant.same_texts c.in-Sub.part c.pop.new.self (c.in-Some.ensures ∙ ap (λ s. s ∷ c.pop.new.self) c.in-Sub.is) (sym c.in-None.ensures)

pub steps-smaller-in-Continue-branch-2 : goal.steps-smaller-in-Continue-branch-2
steps-smaller-in-Continue-branch-2 c = act-less c.args.source.now c.args.stack.now c.args.builder.now c.args.token c.steps.stack c.steps.builder c.steps.invariant.fine c.steps.invariant.same_texts c.in-Act.action c.pop.new.self (c.in-Some.ensures ∙ ap (λ s. s ∷ c.pop.new.self) c.in-Act.is)

pub steps-preserved-in-Continue-branch-2 : goal.steps-preserved-in-Continue-branch-2
steps-preserved-in-Continue-branch-2 c = record {
  fine = act-fine c.args.source.now c.args.stack.now c.args.builder.now c.args.token c.steps.stack c.steps.builder c.steps.invariant.fine c.steps.invariant.same_texts c.in-Act.action c.pop.new.self (c.in-Some.ensures ∙ ap (λ s. s ∷ c.pop.new.self) c.in-Act.is);
  same_texts = act-texts c.args.source.now c.args.stack.now c.args.builder.now c.args.token c.steps.stack c.steps.builder c.steps.invariant.fine c.steps.invariant.same_texts c.in-Act.action c.pop.new.self c.act.new.self (c.in-Some.ensures ∙ ap (λ s. s ∷ c.pop.new.self) c.in-Act.is) c.in_ok-act-in-Act.ensures;
}
