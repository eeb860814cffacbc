-- What is known during a depth-first search.
use Rattle.std.specs.Prelude.{ℕ, ◌+◌, ◌-◌, ◌≡◌, ◌||◌, List, [], ◌∷◌, ◌++◌, Bool, true, drop, get_or, is_some, length, Option, Some, None}
use Rattle.std.specs.List.{All}
use Rattle.hs_expr.specs.Lists.{has}
use Rattle.hs_reach.specs.declared.depth_first.Search.{Search}
use Rattle.hs_reach.specs.Reaching.{first_reached, first_to_reach, has_edge, has_path}

-- The edges of vertex n that aren't followed yet; of each vertex `tried` many were followed.
abbrev pub edges_left : List (List ℕ) → List ℕ → ℕ → List ℕ
edges_left graph tried n = drop (get_or tried n 0) (get_or graph n [])

-- A vertex is found where it has a start from which it was found.
abbrev pub is_found : List (Option ℕ) → ℕ → Bool
is_found starts n = is_some (get_or starts n None)

-- The finish order, latest first, if the vertices on the path finished now, deepest first.
abbrev pub finish_order : List ℕ → List ℕ → List ℕ
finish_order [] finished = finished
finish_order (n ∷ path) finished = finish_order path (n ∷ finished)

-- The path, its end first: each vertex is reached from those after it.
abbrev pub IsPath : List (List ℕ) → List ℕ → Type 0
IsPath graph [] = Unit {0}
IsPath graph (n ∷ path) = All (λ p. has_path graph p n ≡ true) path × IsPath graph path

-- Edges that were followed lead to vertices that were found, and these are on the path or
-- finished; each is reached from the first one that it reaches.
pub record IsSearchOf (graph : List (List ℕ)) (tried : List ℕ) (starts : List (Option ℕ))
    (path finished : List ℕ) : Type 0 where
  pub counts : length tried ≡ length graph
  pub marks : length starts ≡ length graph
  pub edges : (n k : ℕ) → has_edge graph n k ≡ true
      → (is_found starts k || has (edges_left graph tried n) k) ≡ true
  pub done : (n : ℕ) → has finished n ≡ true → edges_left graph tried n ≡ []
  pub found : (n : ℕ) → is_found starts n ≡ (has path n || has finished n)
  pub goes : IsPath graph path
  pub orderly : (n k : ℕ) → is_found starts n ≡ true
      → first_reached graph (finish_order path finished) n ≡ Some k → has_path graph k n ≡ true

-- While one start is searched, after others: what is found has as its start the first that reaches
-- it, what isn't found is reached from none of the others, and the path comes from this one.
pub record StartedFrom (graph : List (List ℕ)) (before : List ℕ) (start : ℕ)
    (starts : List (Option ℕ)) (path : List ℕ) : Type 0 where
  pub own : (n s : ℕ) → get_or starts n None ≡ Some s
      → first_to_reach graph (before ++ start ∷ []) n ≡ Some s
  pub other : (n : ℕ) → get_or starts n None ≡ None → first_to_reach graph before n ≡ None
  pub reached : All (λ p. has_path graph start p ≡ true) path

-- Each vertex has as its start the first of these that reaches it, and none where none does.
abbrev pub AreFirst : List (List ℕ) → List ℕ → List (Option ℕ) → Type 0
AreFirst graph from starts = (n : ℕ) → get_or starts n None ≡ first_to_reach graph from n

-- How many edges of all vertices aren't followed yet.
abbrev pub edges_left_count : List (List ℕ) → List ℕ → ℕ
edges_left_count [] tried = 0
edges_left_count (row ∷ graph) [] = 0
edges_left_count (row ∷ graph) (k ∷ tried) = (length row - k) + edges_left_count graph tried

-- How many vertices aren't found.
abbrev pub vertices_left : List (Option ℕ) → ℕ
vertices_left [] = 0
vertices_left (None ∷ starts) = vertices_left starts + 1
vertices_left (Some s ∷ starts) = vertices_left starts

-- What a search has still to do: it falls with each edge.
abbrev pub work_left : List (List ℕ) → List ℕ → List (Option ℕ) → List ℕ → ℕ
work_left graph tried starts path =
    edges_left_count graph tried + (vertices_left starts + vertices_left starts) + length path

-- The same of the state that the search is in.
abbrev pub IsSearchState : List (List ℕ) → Search → Type 0
IsSearchState graph s = IsSearchOf graph s.tried.items s.starts.items s.path s.finished

abbrev pub IsSearchFrom : List (List ℕ) → List ℕ → ℕ → Search → Type 0
IsSearchFrom graph before start s = StartedFrom graph before start s.starts.items s.path

abbrev pub work : List (List ℕ) → Search → ℕ
work graph s = work_left graph s.tried.items s.starts.items s.path
