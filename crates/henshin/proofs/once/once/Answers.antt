use Rattle.std.proofs.Common.{◌≡◌, ℕ, List, [], Some, Err, ap, subst}
use Rattle.hs_expr.specs.declared.failure.Failure.{Failure}
use Rattle.hs_input.specs.declared.refusal.Refusal.{Refusal}
use Rattle.hs_input.specs.Refusing.{Refuses, Tells}
use Rattle.henshin.specs.declared.once.Outcome.{Outcome}
use Rattle.henshin.proofs.Served.{refused_left, same_refusal}
use Rattle.henshin.proofs.once.once.Goals as goal

pub returns-in-Err-Fault-clause-refused : goal.returns-in-Err-Fault-clause-refused
returns-in-Err-Fault-clause-refused g c = λ refusal same.
    let cause = subst (λ (f : Failure Refusal). Tells {X = Unit {0}} c.in-Ok.bytes.items (Err f)) c.in-Err-Fault.field-0-is c.in-Err-Fault.ensures.refused in
    let told = same_refusal c.in-Err-Fault.refusal refusal c.ended-in-Err-Fault.result.status (ap (λ (o : Outcome). o.status) c.ended-in-Err-Fault.ensures) same in
    refused_left (g.S.Source.left c.args.source.now) (λ (bytes : List ℕ). g.S.Source.left c.read_all.new.source ≡ Some []) c.in-Ok.bytes.items refusal c.in-Ok.ensures.whole
    (subst (λ (r : Refusal). Refuses c.in-Ok.bytes.items r) told cause)
