use Rattle.std.proofs.Common.{◌∙◌, ap, subst, ℕ, List, IfOk, IfErr}
use Rattle.std.specs.Str.{all_scalars}
use Rattle.std.proofs.lemmas.Str.{scalars-chars}
use Rattle.hs_expr.specs.Failures.{IfFault}
use Rattle.hs_text.specs.Parsing.{IsSyntaxOf, IsTextFault}
use Rattle.hs_text.proofs.parse.Goals as goal

pub returns-clause-ok : goal.returns-clause-ok
returns-clause-ok c = subst (λ (x : List ℕ). IfOk c.parse_chars.result (IsSyntaxOf x)) (c.as_slice.ensures.value ∙ c.in_ok-source.ensures) c.parse_chars.ensures.ok

pub returns-clause-err : goal.returns-clause-err
returns-clause-err c = subst (λ (x : List ℕ). IfErr c.parse_chars.result (IfFault (IsTextFault x))) (c.as_slice.ensures.value ∙ c.in_ok-source.ensures) c.parse_chars.ensures.err

pub parse_chars-requires : goal.parse_chars-requires
parse_chars-requires c = ap all_scalars (c.as_slice.ensures.value ∙ c.in_ok-source.ensures) ∙ scalars-chars c.args.text.now c.utf8.text
