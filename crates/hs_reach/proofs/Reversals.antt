-- Edges that are reversed.
use Rattle.std.proofs.Common.{ℕ, zero, suc, ◌<◌, ◌≡◌, List, [], ◌∷◌, true, length, sym, ◌∙◌, arith}
use Rattle.std.proofs.lemmas.Bool.{false≢true}
use Rattle.hs_reach.specs.Reaching.{AreReversed, Path, advance, has_edge, has_path, stay}
use Rattle.hs_expr.proofs.Booleans.{same_test}
use Rattle.hs_reach.proofs.Paths.{has_path-from, path-from_test, through}

reversed-path : (graph reversed : List (List ℕ)) (k n : ℕ) → AreReversed graph reversed → Path reversed k n → Path graph n k
reversed-path graph reversed k _ are (stay _) = stay k
reversed-path graph reversed k n are (advance _ j _ edge rest) = through graph n j k (reversed-path graph reversed j n are rest) (advance j k k (sym (are j k) ∙ edge) (stay k))

pub reversed-has_path : (graph reversed : List (List ℕ)) (k n : ℕ) → AreReversed graph reversed → has_path reversed k n ≡ has_path graph n k
reversed-has_path graph reversed k n are =
    same_test (has_path reversed k n) (has_path graph n k)
    (λ t. has_path-from graph n k (reversed-path graph reversed k n are (path-from_test reversed k n t)))
    (λ t. has_path-from reversed k n (reversed-path reversed graph n k (λ i j. sym (are j i)) (path-from_test graph n k t)))

-- Edges lead to vertices of the reversed graph, since they come from vertices of the graph.
pub source-within : (graph : List (List ℕ)) (n k : ℕ) → has_edge graph n k ≡ true → n < length graph
source-within [] n k h = absurd (false≢true h)
source-within (row ∷ graph) zero k h = omega arith
source-within (row ∷ graph) (suc n) k h = let rest = source-within graph n k h in omega (arith, rest)
