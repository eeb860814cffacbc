use Rattle.std.proofs.Common.{rules, ◌≡◌, ◌≤◌, ◌+◌, ◌*◌, ◌-◌, min, get_or, arith}
use Rattle.std.proofs.lemmas.Int.{clamps}
use Rattle.hs_graph.proofs.Decimals.{capped_more}
use Rattle.hs_graph.proofs.names.capped_number.Goals as goal

pub loop-digit-preserved : goal.loop-digit-preserved
loop-digit-preserved c =
    let is : c.capped-number.result ≡ min 3000000001 (c.loop-digit.number * 10 + (get_or c.args.digits.now c.loop-digit.digit-index 0 - 48)) = search rules in
    let low : c.capped-number.result ≤ 3000000001 = omega (arith, clamps, is) in
    record {
      low = low;
      left = capped_more _ _ _ _ _ c.loop-digit-test.true is c.loop-digit.invariant.left;
    }
