use Rattle.std.proofs.Common.{◌≡◌, ◌+◌, ◌-◌, length, sym, ap, subst, ◌∙◌, arith, take, ◌∷◌, false}
use Rattle.std.proofs.lemmas.List.{take_all}
use Rattle.hs_text.specs.declared.arranging.Task.TheVariants.{Expr}
use Rattle.hs_text.specs.Arranging.{tasks_after, texts_after}
use Rattle.hs_text.specs.Canonical.{expr_text}
use Rattle.hs_text.proofs.Arranged.{IsArranged, arranged-first, arranged-next, arranged-last}
use Rattle.hs_text.proofs.arranging.texts_of.Goals as goal

pub returns : goal.returns
returns c = arranged-last c.as_slice-pieces.result.now c.loop-i.i c.loop-i.tasks c.loop-i.texts c.next-2.new.texts (expr_text c.args.expr.now) c.loop-i-test.false c.loop-i.invariant c.in_ok-next-2.ensures.written

pub loop-i-preserved : goal.loop-i-preserved
loop-i-preserved c =
    let pieces = c.as_slice-pieces.result.now in
    let i = c.loop-i.i in
    let j = length pieces - 1 - i in
    let n : j + 1 ≡ length pieces - i = omega arith in
    let m : j ≡ length pieces - (i + 1) = omega arith in
    let p = c.index-pieces-pieces.result in
    let parens = c.unwrap_or-parens.result in
    subst (λ x. IsArranged (take x pieces) c.put_tasks.new.tasks c.put_text.new.texts (expr_text c.args.expr.now)) m
    (arranged-next pieces i j p c.loop-i.tasks c.next.new.tasks c.put_tasks.new.tasks c.loop-i.texts c.next.new.texts c.put_text.new.texts parens c.in_ok-next.field-0 (expr_text c.args.expr.now) n c.loop-i-test.true c.loop-i.invariant
    c.in_ok-next.ensures.next c.in_ok-next.ensures.below c.in_ok-next.ensures.written c.unwrap_or-parens.ensures
    (c.in_ok-put_tasks.ensures ∙ ap (λ x. tasks_after x parens c.next.new.tasks) c.index-pieces-pieces.is)
    (c.in_ok-put_text.ensures ∙ ap (λ x. texts_after x parens c.next.new.texts) c.index-pieces-pieces.is))

pub loop-i-init : goal.loop-i-init
loop-i-init c =
    let pieces = c.as_slice-pieces.result.now in
    let all : take (length pieces - 0) pieces ≡ pieces = take_all (length pieces - 0) pieces (omega arith) in
    subst (λ x. IsArranged x c.push.new.self c.new-texts.result (expr_text c.args.expr.now)) (sym all)
    (arranged-first c.args.expr.now pieces c.push.new.self c.new-texts.result c.as_slice-pieces.ensures (c.in_ok-push.ensures.ok ∙ ap (λ x. Expr false ∷ x) c.new-tasks.ensures) c.new-texts.ensures)
