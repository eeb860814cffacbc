-- Lists that are made item by item of the items that are left.
use Rattle.std.proofs.Common.{ℕ, ◌+◌, ◌≡◌, ◌++◌, List, ◌∷◌, ap, sym, ◌∙◌, append_assoc}
use Rattle.hs_expr.specs.Verdict.{each_from}

-- What is made of one more item is after what was made.
pub made_more : {X E : Type 0} (finds : ℕ → X → List E) (made whole new : List E) (x : X) (items rest : List X) (n m : ℕ) → items ≡ x ∷ rest → m ≡ n + 1 →
    made ++ each_from finds n items ≡ whole → new ≡ made ++ finds n x → new ++ each_from finds m rest ≡ whole
made_more finds made whole new x items rest n m split next so_far put =
    ap (λ ys. ys ++ each_from finds m rest) put ∙ ap (λ k. made ++ finds n x ++ each_from finds k rest) next ∙ append_assoc made (finds n x) (each_from finds (n + 1) rest)
    ∙ sym (ap (λ ys. made ++ each_from finds n ys) split) ∙ so_far
