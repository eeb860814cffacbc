use Rattle.henshin.proofs.Served.{given_rules}
use Rattle.henshin.proofs.serving.checked.Goals as goal

pub returns : goal.returns
returns c = λ bytes held is. given_rules bytes held c.args.input.now c.in_ok-print.field-0 is c.in_ok-print.ensures
