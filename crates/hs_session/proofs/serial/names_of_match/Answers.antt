use Rattle.hs_session.proofs.Named.{named_again}
use Rattle.hs_session.proofs.serial.names_of_match.Goals as goal

pub returns : goal.returns
returns c = rw (c.in_ok-names_of.ensures, c.as_slice.ensures, c.new.ensures) (named_again c.args.graph.now.meta c.args.graph.now.graph c.args.rule.now c.args.found c.meta.ensures.typed c.requires.only_adds.is_unconditional.multis c.requires.valid)
