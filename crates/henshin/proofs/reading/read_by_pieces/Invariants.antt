use Rattle.std.proofs.Common.{◌≡◌, ◌<◌, ◌≤◌, ◌-◌, length}
use Rattle.std.specs.Io.KnownBytes.{Consumes}
use Rattle.henshin.proofs.reading.read_by_pieces.Given as goal

-- what was read so far is a front of the source, and no call has failed
abbrev pub invariant-loop-count : goal.invariant-loop-count
invariant-loop-count g l =
    record {
      front : Consumes (g.S.Source.left l.fn.source) (g.S.Source.left l.source) l.bytes.items;
      fits : length l.bytes.items ≤ l.most;
      room : 0 < length l.piece;
      well : g.S.Source.faults l.source ≡ g.S.Source.faults l.fn.source;
    }

abbrev pub decreases-loop-count : goal.decreases-loop-count
decreases-loop-count g l = l.most - length l.bytes.items
