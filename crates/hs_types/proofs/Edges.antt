-- Edges of a graph, by look-ups that give no targets where there is no vertex.
use Rattle.std.proofs.Common.{ℕ, zero, suc, ◌≡◌, List, [], ◌∷◌, true, get_or}
use Rattle.std.proofs.lemmas.Bool.{false≢true}
use Rattle.hs_expr.specs.Lists.{has}
use Rattle.hs_types.specs.Reachability.{HasEdge}

pub edge-from_test : (graph : List (List ℕ)) (n k : ℕ) → has (get_or graph n []) k ≡ true → HasEdge graph n k
edge-from_test [] n k h = absurd (false≢true h)
edge-from_test (row ∷ graph) zero k h = h
edge-from_test (row ∷ graph) (suc n) k h = edge-from_test graph n k h

pub edge-test : (graph : List (List ℕ)) (n k : ℕ) → HasEdge graph n k → has (get_or graph n []) k ≡ true
edge-test [] n k h = absurd h
edge-test (row ∷ graph) zero k h = h
edge-test (row ∷ graph) (suc n) k h = edge-test graph n k h
