-- Graphs and plans at the limits of hosts.
use Rattle.std.specs.Prelude.{ℕ, [], ◌∷◌}
use Rattle.hs_types.specs.declared.graph.Graph.{Graph}
use Rattle.hs_types.specs.Plan.{Plan}
use Rattle.hs_laws.specs.Bank.{link}

-- Two loops, at the objects 0 and 1, and an edge between them.
abbrev pub two_loops : Graph
two_loops = record {
  objects = [];
  edges = link 0 0 0 0 ∷ link 1 1 0 1 ∷ link 2 0 0 1 ∷ [];
  next_object = 2;
  next_edge = 3;
  next_name = 0;
}

-- No object, with these next numbers.
abbrev pub numbered_from : ℕ → ℕ → ℕ → Graph
numbered_from object edge name = record {
  objects = [];
  edges = [];
  next_object = object;
  next_edge = edge;
  next_name = name;
}

-- One object of the class is made.
abbrev pub makes_an_object : ℕ → Plan
makes_an_object class = record {
  drop_objects = [];
  drop_edges = [];
  writes = [];
  make_objects = record { class = class; slots = [] } ∷ [];
  make_edges = [];
}
