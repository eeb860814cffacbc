use Rattle.std.proofs.Common.{◌≡◌, ◌+◌, ◌++◌, drop, vec_len, vec_capacity}
use Rattle.hs_types.specs.Step.{new_edges}
use Rattle.hs_types.proofs.stepping.add_edges.Given as goal

-- what was added, and what is left to add, is all
abbrev pub invariant-loop-edge : goal.invariant-loop-edge
invariant-loop-edge l =
    record {
      whole : l.edges.items ++ new_edges l.fn.next l.number (drop l.edge-index l.made) ≡ l.fn.edges.items ++ new_edges l.fn.next l.fn.first l.made;
      numbers : l.number ≡ l.fn.first + l.edge-index;
      length : vec_len l.edges ≡ vec_len l.fn.edges + l.edge-index;
      capacity : vec_capacity l.edges ≡ vec_capacity l.fn.edges;
    }
