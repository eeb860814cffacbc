use Rattle.std.proofs.Common.{◌≡◌, ◌<◌, ◌++◌, ◌∙◌, [], length, take, ap, arith, refl, length-append}
use Rattle.std.proofs.lemmas.Grind.{common_steps}
use Rattle.henshin.proofs.Known.{consumes_none, consumes_more, read_whole, read_past}
use Rattle.henshin.proofs.reading.read_by_pieces.Goals as goal

pub loop-count-init : goal.loop-count-init
loop-count-init g c =
    record { front = consumes_none _ _ c.new-bytes.ensures.items; fits = omega (arith, ap length c.new-bytes.ensures.items); room = c.requires; well = refl }

pub returns-then-count-eq0-clause-whole : goal.returns-then-count-eq0-clause-whole
returns-then-count-eq0-clause-whole g c =
    let bytes = c.in-Ok.ensures.bytes in
    let nothing : take c.in-Ok.count c.read.new.into ≡ [] = rw c.if-count-eq0.true refl in
    let room : 0 < length c.read.new.into = omega (arith, c.loop-count.invariant.room) in
    read_whole _ _ _ c.loop-count.bytes.items _ c.loop-count.invariant.front bytes.0 nothing (bytes.1 c.if-count-eq0.true room)

pub returns-then-count-most-clause-too_long : goal.returns-then-count-most-clause-too_long
returns-then-count-most-clause-too_long g c = λ _.
    read_past _ _ _ c.loop-count.bytes.items _ c.args.most c.loop-count.invariant.front c.in-Ok.ensures.bytes.0 (omega (arith, c.in-Ok.ensures.bound.1))

pub loop-count-preserved : goal.loop-count-preserved
loop-count-preserved g c =
    let count = c.in-Ok.count in
    let longer : c.extend_from_slice.new.self.items ≡ c.loop-count.bytes.items ++ take count c.read.new.into = grind (arith, common_steps) in
    record {
      front = rw longer (consumes_more _ _ _ c.loop-count.bytes.items (take count c.read.new.into) c.loop-count.invariant.front c.in-Ok.ensures.bytes.0);
      fits = omega (arith, ap length longer, length-append c.loop-count.bytes.items (take count c.read.new.into), c.in-Ok.ensures.bound.1);
      room = omega (arith, c.loop-count.invariant.room);
      well = c.in-Ok.ensures.counted ∙ c.loop-count.invariant.well;
    }
