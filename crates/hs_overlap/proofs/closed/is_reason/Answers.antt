use Rattle.std.proofs.Common.{◌↔◌, rules}
use Rattle.hs_overlap.specs.Overlaps.{HasClosedOverlap}
use Rattle.hs_overlap.specs.Reasons.{MeetExactly}
use Rattle.hs_overlap.proofs.closed.is_reason.Goals as goal

pub returns : goal.returns
returns c =
    let m = c.args.meta.now in let r = c.args.first.now in let p = c.args.second.now in let span = c.args.span.now in
    let same : MeetExactly m r p span ↔ HasClosedOverlap m r p span = c.glue.ensures m r p c.requires.metamodel c.requires.one c.requires.other span in (
      (λ t. record { listed = c.is_listed.ensures.0 (search rules); deleted = c.has_deleted.ensures.0 (search rules); meet = same.1 (c.has_closed_overlap.ensures.0 t) }),
      (λ h. c.has_closed_overlap.ensures.1 (same.0 h.meet)),
    )
