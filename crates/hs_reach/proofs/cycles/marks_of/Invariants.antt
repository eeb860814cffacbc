use Rattle.std.proofs.Common.{◌≡◌, map}
use Rattle.std.specs.List.{range_with_len}
use Rattle.hs_reach.specs.Reaching.{edge_leads_back}
use Rattle.hs_reach.proofs.cycles.marks_of.Given as goal

abbrev pub invariant-loop-vertex : goal.invariant-loop-vertex
invariant-loop-vertex l = l.marks ≡ map (edge_leads_back l.graph l.components) (range_with_len 0 l.vertex)
