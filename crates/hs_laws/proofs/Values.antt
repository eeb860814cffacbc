-- Values of expressions.
use Rattle.std.proofs.Common.{ℕ, ◌≡◌, List, [], Option, refl, sym, ap, ◌∙◌, subst}
use Rattle.std.specs.List.{All}
use Rattle.std.specs.Option.{option_and_then}
use Rattle.std.proofs.lemmas.List.Elements.{All-head}
use Rattle.hs_expr.proofs.Evaluations.{value_roll}
use Rattle.hs_expr.specs.declared.expr.Expr.{Expr, ind-Expr, map-Expr, roll-Expr, fold-roll-Expr}
use Rattle.hs_expr.specs.declared.expr.Expr.TheOpen.{Expr-F}
use Rattle.hs_expr.specs.declared.expr.SlotRead.{SlotRead}
use Rattle.hs_expr.specs.declared.value.Value.{Value}
use Rattle.hs_expr.specs.Evaluation.{Env, binary_value, level, not_value, minus_value, value_of, reads_of, reads_of_level}
use Rattle.hs_expr.proofs.Lists.{All-front, All-rest_of}

-- Both give the same for each slot that is read.
abbrev pub Agree : Env → Env → List SlotRead → Type 0
Agree a b reads = All (λ read. a.slot read.node read.attribute ≡ b.slot read.node read.attribute) reads

-- An expression has the same value wherever its slots and the parameters have the same.
pub value_of-same : (a b : Env) → ((n : ℕ) → a.param n ≡ b.param n) → (expr : Expr) → Agree a b (reads_of expr) → value_of a expr ≡ value_of b expr
value_of-same a b params = ind-Expr P (λ x y h. subst (λ (x : Expr-F Expr). P (roll-Expr x)) h (go y))
  where
    P : Expr → Type 0
    P expr = Agree a b (reads_of expr) → value_of a expr ≡ value_of b expr

    reads_roll : (x : Expr-F Expr) → reads_of (roll-Expr x) ≡ reads_of_level (map-Expr Expr (List SlotRead) reads_of x)
    reads_roll x = fold-roll-Expr (List SlotRead) reads_of_level x

    from : (x : Expr-F Expr) → (Agree a b (reads_of_level (map-Expr Expr (List SlotRead) reads_of x)) → level a (map-Expr Expr (Option Value) (value_of a) x) ≡ level b (map-Expr Expr (Option Value) (value_of b) x)) → P (roll-Expr x)
    from x f k = value_roll a x ∙ (f (subst (Agree a b) (reads_roll x) k) ∙ sym (value_roll b x))

    go : (y : Expr-F ((e : Expr) × P e)) → P (roll-Expr (map-Expr ((e : Expr) × P e) Expr (λ e. e.0) y))
    go (Expr-F.Literal v) = from (Expr-F.Literal v) (λ k. refl)
    go (Expr-F.Slot read) = from (Expr-F.Slot read) (λ k. All-head (λ read. a.slot read.node read.attribute ≡ b.slot read.node read.attribute) read [] k)
    go (Expr-F.Param n) = from (Expr-F.Param n) (λ k. params n)
    go (Expr-F.Not e) = from (Expr-F.Not e.0) (λ k. ap (option_and_then not_value) (e.1 k))
    go (Expr-F.Minus e) = from (Expr-F.Minus e.0) (λ k. ap (option_and_then minus_value) (e.1 k))
    go (Expr-F.Binary sign e f) = from (Expr-F.Binary sign e.0 f.0) (λ k.
        let S : SlotRead → Type 0 = λ read. a.slot read.node read.attribute ≡ b.slot read.node read.attribute in
        let x = e.1 (All-front S (reads_of e.0) (reads_of f.0) k) in
        let y = f.1 (All-rest_of S (reads_of e.0) (reads_of f.0) k) in
        ap (λ (o : Option Value). option_and_then (λ u. option_and_then (binary_value sign u) (value_of a f.0)) o) x ∙ ap (λ (o : Option Value). option_and_then (λ u. option_and_then (binary_value sign u) o) (value_of b e.0)) y)
