use Rattle.std.proofs.Common.{ℕ, zero, suc, true, ◌+◌, ◌≡◌, ◌≤◌, ap, ◌∙◌, subst, arith, lit<}
use Rattle.hs_expr.specs.declared.value.Value.TheVariants as value
use Rattle.hs_expr.specs.Evaluation.{nesting}
use Rattle.hs_expr.proofs.Evaluations.{nesting-Literal, nesting-Not}
use Rattle.hs_types.specs.declared.rule.Mark.TheVariants.{Keep}
use Rattle.hs_laws.specs.Bank.{arrow}
use Rattle.hs_laws.specs.Strange.{nots}
use Rattle.hs_laws.proofs.refusals.limits_refused.Goals as goal

pub returns-clause-parallel : goal.returns-clause-parallel
returns-clause-parallel c h = let e : 4 ≤ 3 = h.kernel.few_parallel 0 (arrow 0 0 1 Keep) (lit< tt) in absurd (omega (arith, e))

depth : (n : ℕ) → nesting (nots n) ≡ n
depth zero = nesting-Literal (value.Bool true)
depth (suc n) = let more : nesting (nots n) + 1 ≡ n + 1 = ap (λ k. k + 1) (depth n) in let next : n + 1 ≡ suc n = omega arith in nesting-Not (nots n) ∙ more ∙ next

pub returns-clause-deep : goal.returns-clause-deep
returns-clause-deep c h = let e = h.flat.0 0 (nots 33) (lit< tt) in let l : 33 ≤ 32 = subst (λ n. n ≤ 32) (depth 33) e in absurd (omega (arith, l))
