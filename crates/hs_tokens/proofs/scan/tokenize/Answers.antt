use Rattle.std.proofs.Common.{◌-◌, length, drop, arith, take}
use Rattle.std.proofs.lemmas.List.{take_rest}
use Rattle.hs_tokens.proofs.Positions.{read-on, read-whole}
use Rattle.hs_tokens.proofs.scan.tokenize.Goals as goal

pub returns-clause-ok : goal.returns-clause-ok
returns-clause-ok c = read-whole c.args.chars.now c.loop-position.position c.loop-position.tokens.items c.loop-position.invariant c.loop-position-test.false

pub loop-position-preserved : goal.loop-position-preserved
loop-position-preserved c =
    (read-on c.args.chars.now (take (length c.args.chars.now - c.loop-position.position.index) (drop c.loop-position.position.index c.args.chars.now)) c.loop-position.position c.position_after-position.result c.loop-position.tokens.items c.keep.new.tokens.items c.in-Ok.len c.in-Ok.found
    c.loop-position.invariant (take_rest c.args.chars.now c.loop-position.position.index) c.in-Ok.ensures.ok c.position_after-position.ensures c.in_ok-keep-in-Ok.ensures).0

pub loop-position-smaller : goal.loop-position-smaller
loop-position-smaller c =
    let on = read-on c.args.chars.now (take (length c.args.chars.now - c.loop-position.position.index) (drop c.loop-position.position.index c.args.chars.now)) c.loop-position.position c.position_after-position.result c.loop-position.tokens.items c.keep.new.tokens.items c.in-Ok.len c.in-Ok.found
    c.loop-position.invariant (take_rest c.args.chars.now c.loop-position.position.index) c.in-Ok.ensures.ok c.position_after-position.ensures c.in_ok-keep-in-Ok.ensures in
    omega (arith, on.0.within, on.1)
