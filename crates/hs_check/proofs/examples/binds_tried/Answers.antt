use Rattle.std.proofs.Common.{◌≡◌, false, refl, sym, lit<, codes}
use Rattle.std.proofs.lemmas.Bool.{both_ways}
use Rattle.hs_expr.specs.declared.Kind.TheVariants as sort
use Rattle.hs_types.specs.declared.rule.Direction.TheVariants.{In, Out}
use Rattle.hs_types.specs.declared.rule.ParamKind.TheVariants.{Data, Object}
use Rattle.hs_types.specs.Metamodel.{Conforms, above}
use Rattle.hs_faults.specs.Samples.{small_bank}
use Rattle.hs_check.specs.SetSamples.{parameter}
use Rattle.hs_check.proofs.examples.binds_tried.Goals as goal

no_int : Data sort.Text ≡ Data sort.Int → ⊥
no_int e = cc

not_given : Out ≡ In → ⊥
not_given e = cc

client_is_no_account : Conforms small_bank 0 1 → ⊥
client_is_no_account (above a d b s k) = both_ways false refl s

pub returns-clause-not_given : goal.returns-clause-not_given
returns-clause-not_given c h = both_ways false refl (h.all_given 0 (parameter In (codes "into") (Object 1)) (lit< tt) refl)

pub returns-clause-twice : goal.returns-clause-twice
returns-clause-twice c h = h.differ.1.0 0 (codes "sum") (lit< tt) refl

pub returns-clause-other_kind : goal.returns-clause-other_kind
returns-clause-other_kind c h = no_int h.1

pub returns-clause-other_class : goal.returns-clause-other_class
returns-clause-other_class c h = client_is_no_account h.1

pub returns-clause-into_given : goal.returns-clause-into_given
returns-clause-into_given c h = not_given (sym h.1.0)

pub returns-clause-text_count : goal.returns-clause-text_count
returns-clause-text_count c h = no_int h.1

pub returns-clause-out_count : goal.returns-clause-out_count
returns-clause-out_count c h = not_given h.0
