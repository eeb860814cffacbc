use Rattle.std.proofs.Common.{[], false, refl, arith, lit<}
use Rattle.std.proofs.lemmas.Bool.{both_ways}
use Rattle.hs_expr.specs.declared.value.Value.TheVariants as value
use Rattle.hs_types.specs.declared.meta.DataType.TheVariants.{EInt}
use Rattle.hs_types.specs.declared.meta.Feature.{Feature}
use Rattle.hs_types.specs.declared.meta.FeatureKind.TheVariants.{Attribute}
use Rattle.hs_laws.proofs.refusals.metamodels_refused.Goals as goal

any : Feature
any = record { owner = 0; name = []; kind = Attribute EInt (value.Bool false) }

pub returns-clause-other_default : goal.returns-clause-other_default
returns-clause-other_default c h = both_ways false refl (h.features_sound 0 any (lit< tt))

pub returns-clause-no_class : goal.returns-clause-no_class
returns-clause-no_class c h = let e = (h.features_sound 0 any (lit< tt)).0 in absurd (omega (arith, e))

pub returns-clause-no_room : goal.returns-clause-no_room
returns-clause-no_room c h = let e = (h.features_sound 0 any (lit< tt)).1.0 in absurd (omega (arith, e))
