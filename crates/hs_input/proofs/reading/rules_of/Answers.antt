use Rattle.std.proofs.Common.{◌≡◌, Result, Ok, Err, IfOk, ap, subst, ◌∙◌}
use Rattle.hs_expr.specs.declared.failure.Failure.{Failure}
use Rattle.hs_expr.specs.declared.failure.Failure.TheVariants as failed
use Rattle.hs_expr.specs.Steps.{GivesWhere}
use Rattle.hs_expr.specs.Verdict.{verdict}
use Rattle.hs_types.specs.declared.meta.Metamodel.{Metamodel}
use Rattle.hs_faults.specs.UnitFaults.{faults_of}
use Rattle.hs_check.specs.Meaning.{IsMeant}
use Rattle.hs_input.specs.declared.refusal.Refusal.TheVariants.{BadRule}
use Rattle.hs_input.proofs.Refused.{ok_as, told_as}
use Rattle.hs_input.proofs.reading.rules_of.Goals as goal

right : {A F : Type 0} (P : A → Type 0) (answer : Result A (Failure F)) (told : Result (Unit {0}) F) → GivesWhere P answer told → IfOk answer (λ (x : A). told ≡ Ok tt)
right P (Ok x) told gives = gives.0
right P (Err failure) told gives = tt

holds : {A F : Type 0} (P : A → Type 0) (answer : Result A (Failure F)) (told : Result (Unit {0}) F) → GivesWhere P answer told → IfOk answer P
holds P (Ok x) told gives = gives.1
holds P (Err failure) told gives = tt

pub returns-clause-right : goal.returns-clause-right
returns-clause-right c =
    let set = subst (λ (m : Metamodel). GivesWhere (IsMeant m c.args.syntax.now.definitions) c.check.result (verdict (faults_of m c.args.syntax.now.definitions))) c.meta.ensures.value c.check.ensures.set in
    rw (c.fault_as.ensures BadRule (λ fault made h. h)) (ok_as _ BadRule c.check.result (right _ c.check.result _ set))

pub returns-clause-meant : goal.returns-clause-meant
returns-clause-meant c =
    let set = subst (λ (m : Metamodel). GivesWhere (IsMeant m c.args.syntax.now.definitions) c.check.result (verdict (faults_of m c.args.syntax.now.definitions))) c.meta.ensures.value c.check.ensures.set in
    rw (c.fault_as.ensures BadRule (λ fault made h. h)) (ok_as _ BadRule c.check.result (holds _ c.check.result _ set))

pub returns-clause-model : goal.returns-clause-model
returns-clause-model c =
    rw (c.fault_as.ensures BadRule (λ fault made h. h), ← c.meta.ensures.value) (ok_as _ BadRule c.check.result c.check.ensures.meta)

pub returns-clause-refused : goal.returns-clause-refused
returns-clause-refused c = λ bytes held same answer is_syntax.
    let set = subst (λ (m : Metamodel). GivesWhere (IsMeant m c.args.syntax.now.definitions) c.check.result (verdict (faults_of m c.args.syntax.now.definitions))) c.meta.ensures.value c.check.ensures.set in
    rw (c.fault_as.ensures BadRule (λ fault made h. h))
    (told_as bytes BadRule c.check.result (λ fault is.
    let told = subst (λ a. GivesWhere (IsMeant c.args.graph.now.meta c.args.syntax.now.definitions) a (verdict (faults_of c.args.graph.now.meta c.args.syntax.now.definitions))) is set in
    (held, c.args.syntax.now, answer, is_syntax, ap (λ (m : Metamodel). verdict (faults_of m c.args.syntax.now.definitions)) same ∙ told)))
