use Rattle.std.proofs.Common.{◌∙◌, ap}
use Rattle.hs_types.specs.declared.meta.Metamodel.{Metamodel}
use Rattle.hs_json.specs.Problems.{problems_text}
use Rattle.henshin.proofs.Served.{given_problems}
use Rattle.henshin.proofs.serving.validated.Goals as goal

pub returns : goal.returns
returns c = λ bytes held is. given_problems bytes held c.args.input.now c.in_ok-problems_text.field-0 is (c.in_ok-problems_text.ensures ∙ ap (λ (m : Metamodel). problems_text m c.args.input.now.graph.graph) (c.deref.ensures ∙ c.meta.ensures.value))
