use Rattle.std.proofs.Common.{◌++◌, ◌∙◌, take}
use Rattle.henshin.proofs.Known.{appends_more, cut}
use Rattle.henshin.proofs.writing.write_all.Goals as goal

pub loop-rest-preserved : goal.loop-rest-preserved
loop-rest-preserved g c =
    let so_far = c.loop-rest.invariant in
    let rest = c.loop-rest.rest.now in
    let count = c.in_ok-count.count in (
      so_far.0 ++ take count rest,
      so_far.1 ∙ cut so_far.0 rest count,
      appends_more _ _ _ so_far.0 (take count rest) so_far.2 c.in_ok-count.ensures.bytes,
      c.in_ok-count.ensures.counted ∙ so_far.3,
    )
