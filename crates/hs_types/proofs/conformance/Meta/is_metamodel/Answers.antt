use Rattle.std.proofs.Common.{subst}
use Rattle.hs_types.specs.Limits.{IsSmallMeta}
use Rattle.hs_types.specs.Metamodel.{IsMeta}
use Rattle.hs_types.proofs.Forms.{meta_of_form}
use Rattle.hs_types.proofs.conformance.Meta.is_metamodel.Goals as goal

pub returns-clause-sound : goal.returns-clause-sound
returns-clause-sound c = subst IsMeta c.self.view_is (meta_of_form c.self.inside.plain c.self.invariant.0).0

pub returns-clause-small : goal.returns-clause-small
returns-clause-small c = subst IsSmallMeta c.self.view_is (meta_of_form c.self.inside.plain c.self.invariant.0).1
