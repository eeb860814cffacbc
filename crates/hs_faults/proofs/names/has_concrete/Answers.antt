use Rattle.hs_faults.proofs.Classes.{concrete_test}
use Rattle.hs_faults.proofs.names.has_concrete.Goals as goal

pub returns : goal.returns
returns c = concrete_test c.args.meta.now c.args.class c.have_common.result c.have_common.ensures
