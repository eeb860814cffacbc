use Rattle.std.proofs.Common.{◌≡◌, Ok, Err, IfErr, subst}
use Rattle.std.specs.Str.{chars}
use Rattle.hs_expr.specs.declared.failure.Failure.{Failure}
use Rattle.hs_expr.specs.Failures.{IfFault}
use Rattle.hs_text.specs.Parsing.{IsTextFault}
use Rattle.hs_tokens.specs.declared.fault.TextFault.{TextFault}
use Rattle.hs_input.specs.declared.refusal.Refusal.{Refusal}
use Rattle.hs_input.specs.declared.refusal.Refusal.TheVariants.{BadText}
use Rattle.hs_input.proofs.Refused.{ok_as, told_as}
use Rattle.hs_input.proofs.reading.syntax_of.Goals as goal

abbrev bad_text : TextFault → Refusal
bad_text fault = BadText fault.line fault.column fault.kind

pub returns-clause-parsed : goal.returns-clause-parsed
returns-clause-parsed c = rw (c.fault_as.ensures bad_text (λ fault made h. h)) (ok_as _ bad_text c.parse.result c.parse.ensures.ok)

pub returns-clause-refused : goal.returns-clause-refused
returns-clause-refused c = λ bytes held same answer. rw (c.fault_as.ensures bad_text (λ fault made h. h))
    (told_as bytes bad_text c.parse.result (λ fault is. (held, answer, rw same (subst (λ a. IfErr a (IfFault (IsTextFault (chars c.args.text.now)))) is c.parse.ensures.err))))
