-- Values have the kinds of their expressions.
use Rattle.std.proofs.Common.{ℕ, ℤ, ◌+ℤ◌, ◌-ℤ◌, ◌*ℤ◌, neg_ℤ, ◌≡◌, inl, inr, ◌^◌, Bool, Option, Some, None, sym, ap, ◌∙◌, subst}
use Rattle.std.specs.Option.{option_and_then}
use Rattle.std.proofs.lemmas.Bool.{cases_Bool}
use Rattle.hs_expr.specs.declared.expr.Expr.{Expr, ind-Expr, map-Expr, roll-Expr, fold-roll-Expr}
use Rattle.hs_expr.specs.declared.expr.Expr.TheOpen.{Expr-F}
use Rattle.hs_expr.specs.declared.expr.Sign.{Sign}
use Rattle.hs_expr.specs.declared.expr.Sign.TheVariants as sign
use Rattle.hs_expr.specs.declared.value.Kind.{Kind}
use Rattle.hs_expr.specs.declared.value.Kind.TheVariants as kind
use Rattle.hs_expr.specs.declared.value.Value.{Value}
use Rattle.hs_expr.specs.declared.value.Value.TheVariants as value
use Rattle.hs_expr.specs.Evaluation.{Env, Scope, is_within, binary_value, kind_in, binary_kind, not_kind, kind_of, kind_of_level, minus_kind, level, not_value, minus_value, value_of, int_value}
use Rattle.hs_laws.proofs.Reading.{and_then-some}

-- The kind of what a sign gives.
abbrev given_by : Sign → Kind
given_by sign.Or = kind.Bool
given_by sign.And = kind.Bool
given_by sign.Equal = kind.Bool
given_by sign.NotEqual = kind.Bool
given_by sign.Less = kind.Bool
given_by sign.AtMost = kind.Bool
given_by sign.Greater = kind.Bool
given_by sign.AtLeast = kind.Bool
given_by sign.Plus = kind.Int
given_by sign.Minus = kind.Int
given_by sign.Times = kind.Int

whole-kind : (n : ℤ) (v : Value) → int_value n ≡ Some v → kind_of v ≡ kind.Int
whole-kind n v e = elim (cases_Bool (is_within (2 ^ 63) n)) [
  | inl h ↦ let k : Some (value.Int n) ≡ Some v = rw h at e in let same : value.Int n ≡ v = cc in ap kind_of (sym same)
  | inr h ↦ let k : None ≡ Some v = rw h at e in absurd (cc)
]

truth-kind : (b : Bool) (v : Value) → Some (value.Bool b) ≡ Some v → kind_of v ≡ kind.Bool
truth-kind b v e = let same : value.Bool b ≡ v = cc in ap kind_of (sym same)

joined-kind : (s : Sign) (x y v : Value) → binary_value s x y ≡ Some v → kind_of v ≡ given_by s
joined-kind sign.Or (value.Bool a) (value.Bool b) v e = truth-kind _ v e
joined-kind sign.Or _ _ v e = absurd (cc)
joined-kind sign.And (value.Bool a) (value.Bool b) v e = truth-kind _ v e
joined-kind sign.And _ _ v e = absurd (cc)
joined-kind sign.Equal x y v e = truth-kind _ v e
joined-kind sign.NotEqual x y v e = truth-kind _ v e
joined-kind sign.Less (value.Int m) (value.Int n) v e = truth-kind _ v e
joined-kind sign.Less _ _ v e = absurd (cc)
joined-kind sign.AtMost (value.Int m) (value.Int n) v e = truth-kind _ v e
joined-kind sign.AtMost _ _ v e = absurd (cc)
joined-kind sign.Greater (value.Int m) (value.Int n) v e = truth-kind _ v e
joined-kind sign.Greater _ _ v e = absurd (cc)
joined-kind sign.AtLeast (value.Int m) (value.Int n) v e = truth-kind _ v e
joined-kind sign.AtLeast _ _ v e = absurd (cc)
joined-kind sign.Plus (value.Int m) (value.Int n) v e = whole-kind (m +ℤ n) v e
joined-kind sign.Plus _ _ v e = absurd (cc)
joined-kind sign.Minus (value.Int m) (value.Int n) v e = whole-kind (m -ℤ n) v e
joined-kind sign.Minus _ _ v e = absurd (cc)
joined-kind sign.Times (value.Int m) (value.Int n) v e = whole-kind (m *ℤ n) v e
joined-kind sign.Times _ _ v e = absurd (cc)

kind_joined-is : (s : Sign) (j k l : Kind) → binary_kind s j k ≡ Some l → l ≡ given_by s
kind_joined-is sign.Or kind.Bool kind.Bool l e = cc
kind_joined-is sign.Or _ _ l e = absurd (cc)
kind_joined-is sign.And kind.Bool kind.Bool l e = cc
kind_joined-is sign.And _ _ l e = absurd (cc)
kind_joined-is sign.Equal kind.Int kind.Int l e = cc
kind_joined-is sign.Equal kind.Bool kind.Bool l e = cc
kind_joined-is sign.Equal kind.Text kind.Text l e = cc
kind_joined-is sign.Equal _ _ l e = absurd (cc)
kind_joined-is sign.NotEqual kind.Int kind.Int l e = cc
kind_joined-is sign.NotEqual kind.Bool kind.Bool l e = cc
kind_joined-is sign.NotEqual kind.Text kind.Text l e = cc
kind_joined-is sign.NotEqual _ _ l e = absurd (cc)
kind_joined-is sign.Less kind.Int kind.Int l e = cc
kind_joined-is sign.Less _ _ l e = absurd (cc)
kind_joined-is sign.AtMost kind.Int kind.Int l e = cc
kind_joined-is sign.AtMost _ _ l e = absurd (cc)
kind_joined-is sign.Greater kind.Int kind.Int l e = cc
kind_joined-is sign.Greater _ _ l e = absurd (cc)
kind_joined-is sign.AtLeast kind.Int kind.Int l e = cc
kind_joined-is sign.AtLeast _ _ l e = absurd (cc)
kind_joined-is sign.Plus kind.Int kind.Int l e = cc
kind_joined-is sign.Plus _ _ l e = absurd (cc)
kind_joined-is sign.Minus kind.Int kind.Int l e = cc
kind_joined-is sign.Minus _ _ l e = absurd (cc)
kind_joined-is sign.Times kind.Int kind.Int l e = cc
kind_joined-is sign.Times _ _ l e = absurd (cc)

negated-kind : (x v : Value) → not_value x ≡ Some v → kind_of v ≡ kind.Bool
negated-kind (value.Bool b) v e = truth-kind _ v e
negated-kind _ v e = absurd (cc)

kind_negated-is : (j l : Kind) → not_kind j ≡ Some l → l ≡ kind.Bool
kind_negated-is kind.Bool l e = cc
kind_negated-is _ l e = absurd (cc)

opposite-kind : (x v : Value) → minus_value x ≡ Some v → kind_of v ≡ kind.Int
opposite-kind (value.Int n) v e = whole-kind (neg_ℤ n) v e
opposite-kind _ v e = absurd (cc)

kind_opposite-is : (j l : Kind) → minus_kind j ≡ Some l → l ≡ kind.Int
kind_opposite-is kind.Int l e = cc
kind_opposite-is _ l e = absurd (cc)

-- Where slots and parameters have the kinds that the scope gives them, so has the whole.
pub values-have_kinds : (env : Env) (scope : Scope) → ((n a : ℕ) (k : Kind) (v : Value) → scope.slot n a ≡ Some k → env.slot n a ≡ Some v → kind_of v ≡ k) → ((n : ℕ) (k : Kind) (v : Value) → scope.param n ≡ Some k → env.param n ≡ Some v → kind_of v ≡ k) → (expr : Expr) (k : Kind) (v : Value) → kind_in scope expr ≡ Some k → value_of env expr ≡ Some v → kind_of v ≡ k
values-have_kinds env scope slots params = ind-Expr P (λ x y h. subst (λ (x : Expr-F Expr). P (roll-Expr x)) h (go y))
  where
    P : Expr → Type 0
    P expr = (k : Kind) (v : Value) → kind_in scope expr ≡ Some k → value_of env expr ≡ Some v → kind_of v ≡ k

    from : (x : Expr-F Expr) → ((k : Kind) (v : Value) → kind_of_level scope (map-Expr Expr (Option Kind) (kind_in scope) x) ≡ Some k → level env (map-Expr Expr (Option Value) (value_of env) x) ≡ Some v → kind_of v ≡ k) → P (roll-Expr x)
    from x f k v a b = f k v (sym (fold-roll-Expr (Option Kind) (kind_of_level scope) x) ∙ a) (sym (fold-roll-Expr (Option Value) (level env) x) ∙ b)

    go : (y : Expr-F ((e : Expr) × P e)) → P (roll-Expr (map-Expr ((e : Expr) × P e) Expr (λ e. e.0) y))
    go (Expr-F.Literal u) = from (Expr-F.Literal u) (λ k v a b. let same : u ≡ v = cc in let here : kind_of u ≡ k = cc in ap kind_of (sym same) ∙ here)
    go (Expr-F.Slot read) = from (Expr-F.Slot read) (λ k v a b. slots read.node read.attribute k v a b)
    go (Expr-F.Param n) = from (Expr-F.Param n) (λ k v a b. params n k v a b)
    go (Expr-F.Not e) = from (Expr-F.Not e.0) (λ k v a b. let i = and_then-some not_kind (kind_in scope e.0) k a in let j = and_then-some not_value (value_of env e.0) v b in negated-kind j.0 v j.2 ∙ sym (kind_negated-is i.0 k i.2))
    go (Expr-F.Minus e) = from (Expr-F.Minus e.0) (λ k v a b. let i = and_then-some minus_kind (kind_in scope e.0) k a in let j = and_then-some minus_value (value_of env e.0) v b in opposite-kind j.0 v j.2 ∙ sym (kind_opposite-is i.0 k i.2))
    go (Expr-F.Binary s e f) = from (Expr-F.Binary s e.0 f.0) (λ k v a b.
        let i = and_then-some (λ x. option_and_then (binary_kind s x) (kind_in scope f.0)) (kind_in scope e.0) k a in
        let i' = and_then-some (binary_kind s i.0) (kind_in scope f.0) k i.2 in
        let j = and_then-some (λ x. option_and_then (binary_value s x) (value_of env f.0)) (value_of env e.0) v b in
        let j' = and_then-some (binary_value s j.0) (value_of env f.0) v j.2 in
        joined-kind s j.0 j'.0 v j'.2 ∙ sym (kind_joined-is s i.0 i'.0 k i'.2))
