use Rattle.std.proofs.Common.{ℕ, List, subst}
use Rattle.hs_json.specs.Reading.{Contents}
use Rattle.hs_input.specs.Input.{IsInput}
use Rattle.henshin.proofs.serving.serve.Goals as goal
use Rattle.henshin.proofs.serving.serve.Goals.{in-Apply+in_ok-applied-in-Apply, in-Validate+in_ok-validated-in-Validate, in-Check+in_ok-checked-in-Check}

pub returns-clause-gives : goal.returns-clause-gives
returns-clause-gives c =
    let read = subst (λ (bytes : List ℕ). (held : Contents) × IsInput bytes held c.in_ok-input.input) c.as_slice.ensures.value c.in_ok-input.ensures.read in
    elim c.match-command.branch [
      | in-Apply+in_ok-applied-in-Apply w ↦ rw (w.in-Apply.is, w.result-is) (w.in_ok-applied-in-Apply.ensures c.args.bytes.items read.0 read.1)
      | in-Validate+in_ok-validated-in-Validate w ↦ rw (w.in-Validate.is, w.result-is) (w.in_ok-validated-in-Validate.ensures c.args.bytes.items read.0 read.1)
      | in-Check+in_ok-checked-in-Check w ↦ rw (w.in-Check.is, w.result-is) (w.in_ok-checked-in-Check.ensures c.args.bytes.items read.0 read.1)
    ]
