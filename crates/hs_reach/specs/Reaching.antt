-- Which vertices of a graph reach which. A graph gives of each vertex the vertices that its edges
-- lead to.
use Rattle.std.specs.Prelude.{ℕ, ◌≡◌, ◌<◌, ◌↔◌, List, [], Bool, true, eqb, ◌||◌, get_or, length, Option, Some, None, false}
use Rattle.std.specs.List.{find, list_any}
use Rattle.hs_expr.specs.Lists.{has}
use Rattle.hs_types.specs.Reachability.{reaches}

-- An edge leads from vertex n to vertex k.
abbrev pub has_edge : List (List ℕ) → ℕ → ℕ → Bool
has_edge graph n k = has (get_or graph n []) k

-- Each edge leads to a vertex of the graph.
abbrev pub TargetsAreVertices : List (List ℕ) → Type 0
TargetsAreVertices graph = (n k : ℕ) → has_edge graph n k ≡ true → k < length graph

-- A path of zero edges or more.
pub data Path (graph : List (List ℕ)) : ℕ → ℕ → Type 0 where
  stay : (n : ℕ) → Path graph n n
  advance : (n k l : ℕ) → has_edge graph n k ≡ true → Path graph k l → Path graph n l

-- Whether there is a path.
unfoldable pub has_path : List (List ℕ) → ℕ → ℕ → Bool
has_path graph n k = eqb n k || reaches graph n k

-- The first of these vertices that reaches vertex n.
abbrev pub first_to_reach : List (List ℕ) → List ℕ → ℕ → Option ℕ
first_to_reach graph starts n = find (λ s. has_path graph s n) starts

-- The first of these vertices that vertex n reaches.
abbrev pub first_reached : List (List ℕ) → List ℕ → ℕ → Option ℕ
first_reached graph order n = find (has_path graph n) order

-- Of the vertices in this order, each is reached from the first one that it reaches.
abbrev pub IsOrderly : List (List ℕ) → List ℕ → Type 0
IsOrderly graph order =
    (n k : ℕ) → has order n ≡ true → first_reached graph order n ≡ Some k
    → has_path graph k n ≡ true

-- The second graph has the edges of the first, reversed.
abbrev pub AreReversed : List (List ℕ) → List (List ℕ) → Type 0
AreReversed graph reversed = (n k : ℕ) → has_edge reversed k n ≡ has_edge graph n k

-- Two vertices have the same mark exactly where each reaches the other.
abbrev pub AreComponents : List (List ℕ) → List (Option ℕ) → Type 0
AreComponents graph marks =
    (n k : ℕ) → n < length graph → k < length graph → (get_or marks n None ≡ get_or marks k None) ↔
    ((has_path graph n k ≡ true) × (has_path graph k n ≡ true))

abbrev pub same_mark : Option ℕ → Option ℕ → Bool
same_mark None None = true
same_mark None (Some k) = false
same_mark (Some n) None = false
same_mark (Some n) (Some k) = eqb n k

-- An edge leads from vertex n to a vertex with the same mark.
abbrev pub edge_leads_back : List (List ℕ) → List (Option ℕ) → ℕ → Bool
edge_leads_back graph marks n =
    list_any (λ k. same_mark (get_or marks k None) (get_or marks n None)) (get_or graph n [])
