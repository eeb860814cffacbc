use Rattle.std.proofs.Common.{◌≡◌, ℕ, List, Result, Ok, Err, IfOk, sym, subst}
use Rattle.hs_expr.specs.declared.failure.Failure.{Failure}
use Rattle.hs_expr.specs.declared.failure.Failure.TheVariants as failed
use Rattle.hs_json.specs.declared.fault.BundleFault.{BundleFault}
use Rattle.hs_json.specs.declared.reading.Bundle.{Bundle}
use Rattle.hs_json.specs.Reading.{Answers, IsBundleAnswer, contents}
use Rattle.hs_input.specs.declared.refusal.Refusal.TheVariants.{NoBundle}
use Rattle.hs_input.proofs.Refused.{ok_as, told_as}
use Rattle.hs_input.proofs.reading.bundle_of.Goals as goal

read : (bytes : List ℕ) (answer : Result Bundle (Failure BundleFault)) → Answers bytes answer → IfOk answer (λ (bundle : Bundle). IsBundleAnswer bytes (Ok (contents bundle)))
read bytes (Ok bundle) answers = answers
read bytes (Err failure) answers = tt

pub returns-clause-read : goal.returns-clause-read
returns-clause-read c = rw (c.fault_as.ensures NoBundle (λ fault made h. h)) (ok_as _ NoBundle c.read_bundle.result (read _ c.read_bundle.result c.read_bundle.ensures.answers))

pub returns-clause-sound : goal.returns-clause-sound
returns-clause-sound c = rw (c.fault_as.ensures NoBundle (λ fault made h. h)) (ok_as _ NoBundle c.read_bundle.result c.read_bundle.ensures.sound)

pub returns-clause-refused : goal.returns-clause-refused
returns-clause-refused c = rw (c.fault_as.ensures NoBundle (λ fault made h. h))
    (told_as c.args.bytes.now NoBundle c.read_bundle.result (λ fault same. subst (λ answer. Answers c.args.bytes.now answer) same c.read_bundle.ensures.answers))
