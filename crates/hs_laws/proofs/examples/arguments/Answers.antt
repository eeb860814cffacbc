use Rattle.std.proofs.Common.{false, refl, lit<, pos, []}
use Rattle.std.proofs.lemmas.Bool.{both_ways}
use Rattle.hs_laws.specs.Bank.{object_param, value_arg}
use Rattle.hs_laws.proofs.examples.arguments.Goals as goal

pub returns-clause-wrong_kind : goal.returns-clause-wrong_kind
returns-clause-wrong_kind c h = h.each_given 0 (object_param [] 0) (lit< tt) refl

pub returns-clause-too_many : goal.returns-clause-too_many
returns-clause-too_many c h = both_ways false refl (h.each_taken 1 (value_arg [] (pos 0)) (lit< tt))

pub returns-clause-missing : goal.returns-clause-missing
returns-clause-missing c h = h.each_given 0 (object_param [] 0) (lit< tt) refl
