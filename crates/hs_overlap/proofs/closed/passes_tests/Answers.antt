use Rattle.std.proofs.Common.{rules}
use Rattle.hs_overlap.proofs.closed.passes_tests.Goals as goal

pub returns-then-drops_its_edges : goal.returns-then-drops_its_edges
returns-then-drops_its_edges c = (
  (λ t. record {
    well = c.pairs_fit.ensures.0 (search rules);
    nodes = c.all_differ.ensures.0 (search rules);
    edges = c.all_differ-else-not-all_differ.ensures.0 (search rules);
    slots = c.slots_held.ensures.0 (search rules);
    first_drops = c.drops_its_edges.ensures.0 (search rules);
    second_drops = c.drops_its_edges-then-drops_its_edges.ensures.0 t;
  }),
  (λ h. c.drops_its_edges-then-drops_its_edges.ensures.1 h.second_drops),
)
