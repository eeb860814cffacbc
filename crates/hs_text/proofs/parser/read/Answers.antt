use Rattle.hs_text.proofs.Whole.{order-fault, end-fault, whole-text}
use Rattle.hs_text.proofs.parser.read.Goals as goal

pub returns-then-not-branch-clause-err : goal.returns-then-not-branch-clause-err
returns-then-not-branch-clause-err c = order-fault c.args.source.now c.args.scanned.now.tokens.items c.as_slice-token-items.result.now c.args.scanned.now.end c.loop-token.token-index c.loop-token.stack c.loop-token.builder c.as_slice-token-items.ensures.value c.loop-token.invariant _ c.in_ok-take.field-0 c.token_fault.result c.loop-token-test.true c.if-not-branch.true c.in_ok-take.ensures.refused c.token_fault.ensures

pub returns-then-not-branch-2-clause-err : goal.returns-then-not-branch-2-clause-err
returns-then-not-branch-2-clause-err c = end-fault c.args.source.now c.args.scanned.now.tokens.items c.as_slice-token-items.result.now c.args.scanned.now.end c.loop-token.token-index c.loop-token.stack c.loop-token.builder c.as_slice-token-items.ensures.value c.loop-token.invariant c.in_ok-finish.field-0 c.fault.result c.loop-token-test.false c.if-not-branch-2.true c.in_ok-finish.ensures.cut_off c.fault.ensures

pub returns-clause-ok : goal.returns-clause-ok
returns-clause-ok c = whole-text c.args.source.now c.args.scanned.now.tokens.items c.as_slice-token-items.result.now c.args.scanned.now.end c.loop-token.token-index c.loop-token.stack c.loop-token.builder c.as_slice-token-items.ensures.value c.loop-token.invariant c.in_ok-finish.field-0 c.finish.new.builder c.replace.result c.loop-token-test.false c.if-not-branch-2.false c.in_ok-finish.ensures.ended c.replace.ensures.value
