-- Reachability in a directed graph given by adjacency lists: for each vertex, the vertices that its
-- edges lead to.
use Rattle.std.specs.Prelude.{ℕ, zero, suc, ◌≡◌, ◌↔◌, List, map, length, Bool, true, false, eqb, ◌||◌, get_or, IsSomeAnd, slice_get}
use Rattle.std.specs.List.{list_any, range_with_len}
use Rattle.hs_expr.specs.Lists.{has}

-- An edge leads from v to w.
abbrev pub HasEdge : List (List ℕ) → ℕ → ℕ → Type 0
HasEdge graph v w = IsSomeAnd (slice_get graph v) (λ targets. has targets w ≡ true)

-- A path of one edge or more leads from one vertex to another.
pub data Reaches (graph : List (List ℕ)) : ℕ → ℕ → Type 0 where
  direct : (v w : ℕ) → HasEdge graph v w → Reaches graph v w
  by_way_of : (v w x : ℕ) → HasEdge graph v w → Reaches graph w x → Reaches graph v x

-- Vertex v is w, or is marked as reaching it.
abbrev pub is_or_reaches : ℕ → List Bool → ℕ → Bool
is_or_reaches w marks v = eqb w v || get_or marks v false

-- For each vertex, whether a path of at most this many edges leads from it to w.
abbrev pub reaching_within : List (List ℕ) → ℕ → ℕ → List Bool
reaching_within graph w zero = map (λ targets. false) graph
reaching_within graph w (suc steps) =
    map (list_any (is_or_reaches w (reaching_within graph w steps))) graph

-- Whether v reaches w. No path needs more edges than there are vertices.
abbrev pub reaches : List (List ℕ) → ℕ → ℕ → Bool
reaches graph v w = get_or (reaching_within graph w (length graph)) v false

-- The test is the relation.
abbrev pub SaysReaches : Type 0
SaysReaches = (graph : List (List ℕ)) (v w : ℕ) → (reaches graph v w ≡ true) ↔ Reaches graph v w

-- For each vertex w a row with, for each vertex, whether it reaches w.
abbrev pub reach_rows : List (List ℕ) → List (List Bool)
reach_rows graph =
    map (λ w. reaching_within graph w (length graph)) (range_with_len 0 (length graph))
