use Rattle.hs_types.proofs.Conforming.{conforms_test}
use Rattle.hs_faults.proofs.names.conforms.Goals as goal

pub returns : goal.returns
returns c = conforms_test c.args.meta.now c.args.class c.args.above c.conforms.result c.conforms.ensures
