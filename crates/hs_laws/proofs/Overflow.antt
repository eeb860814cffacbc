-- An expression has no value exactly where some arithmetic in it leaves 64 bits.
use Rattle.std.proofs.Common.{ℤ, ◌+ℤ◌, ◌-ℤ◌, ◌*ℤ◌, neg_ℤ, ◌≡◌, ◌⊎◌, inl, inr, ◌^◌, Option, Some, None, refl, sym, ◌∙◌, subst}
use Rattle.std.specs.Option.{option_and_then}
use Rattle.std.proofs.lemmas.Bool.{cases_Bool}
use Rattle.hs_expr.proofs.Evaluations.{value_roll}
use Rattle.hs_expr.specs.declared.expr.Expr.{Expr, ind-Expr, map-Expr, rec-roll-Expr, roll-Expr, fold-roll-Expr}
use Rattle.hs_expr.specs.declared.expr.Expr.TheOpen.{Expr-F}
use Rattle.hs_expr.specs.declared.expr.Sign.{Sign}
use Rattle.hs_expr.specs.declared.expr.Sign.TheVariants as sign
use Rattle.hs_expr.specs.declared.value.Kind.{Kind}
use Rattle.hs_expr.specs.declared.value.Value.{Value}
use Rattle.hs_expr.specs.declared.value.Value.TheVariants as value
use Rattle.hs_expr.specs.Evaluation.{Env, IsComplete, IsOut, Overflows, OverflowsBinary, OverflowsLevel, OverflowsMinus, Scope, is_within, binary_value, kind_in, binary_kind, not_kind, kind_of, kind_of_level, minus_kind, level, not_value, minus_value, value_of, int_value}
use Rattle.hs_laws.proofs.Reading.{and_then-some}
use Rattle.hs_laws.proofs.ValueKinds.{values-have_kinds}

whole_none : (n : ℤ) → int_value n ≡ None → IsOut n
whole_none n e = elim (cases_Bool (is_within (2 ^ 63) n)) [
  | inl h ↦ let k : Some (value.Int n) ≡ None = rw h at e in absurd (cc)
  | inr h ↦ h
]

none_out : (n : ℤ) → IsOut n → int_value n ≡ None
none_out n h = rw h refl

-- Operands of the right kinds without a result leave 64 bits, and those that leave it have no result.
joined_none : (s : Sign) (x y : Value) (k : Kind) → binary_kind s (kind_of x) (kind_of y) ≡ Some k → binary_value s x y ≡ None → OverflowsBinary s (Some x) (Some y)
joined_none sign.Or (value.Bool a) (value.Bool b) k h e = absurd (cc)
joined_none sign.Or _ _ k h e = absurd (cc)
joined_none sign.And (value.Bool a) (value.Bool b) k h e = absurd (cc)
joined_none sign.And _ _ k h e = absurd (cc)
joined_none sign.Equal x y k h e = absurd (cc)
joined_none sign.NotEqual x y k h e = absurd (cc)
joined_none sign.Less (value.Int m) (value.Int n) k h e = absurd (cc)
joined_none sign.Less _ _ k h e = absurd (cc)
joined_none sign.AtMost (value.Int m) (value.Int n) k h e = absurd (cc)
joined_none sign.AtMost _ _ k h e = absurd (cc)
joined_none sign.Greater (value.Int m) (value.Int n) k h e = absurd (cc)
joined_none sign.Greater _ _ k h e = absurd (cc)
joined_none sign.AtLeast (value.Int m) (value.Int n) k h e = absurd (cc)
joined_none sign.AtLeast _ _ k h e = absurd (cc)
joined_none sign.Plus (value.Int m) (value.Int n) k h e = whole_none (m +ℤ n) e
joined_none sign.Plus _ _ k h e = absurd (cc)
joined_none sign.Minus (value.Int m) (value.Int n) k h e = whole_none (m -ℤ n) e
joined_none sign.Minus _ _ k h e = absurd (cc)
joined_none sign.Times (value.Int m) (value.Int n) k h e = whole_none (m *ℤ n) e
joined_none sign.Times _ _ k h e = absurd (cc)

joined_out : (s : Sign) (o p : Option Value) → OverflowsBinary s o p → option_and_then (λ x. option_and_then (binary_value s x) p) o ≡ None
joined_out sign.Or o p h = absurd h
joined_out sign.And o p h = absurd h
joined_out sign.Equal o p h = absurd h
joined_out sign.NotEqual o p h = absurd h
joined_out sign.Less o p h = absurd h
joined_out sign.AtMost o p h = absurd h
joined_out sign.Greater o p h = absurd h
joined_out sign.AtLeast o p h = absurd h
joined_out sign.Plus (Some (value.Int m)) (Some (value.Int n)) h = none_out (m +ℤ n) h
joined_out sign.Plus _ _ h = absurd h
joined_out sign.Minus (Some (value.Int m)) (Some (value.Int n)) h = none_out (m -ℤ n) h
joined_out sign.Minus _ _ h = absurd h
joined_out sign.Times (Some (value.Int m)) (Some (value.Int n)) h = none_out (m *ℤ n) h
joined_out sign.Times _ _ h = absurd h

opposite_none : (x : Value) (k : Kind) → minus_kind (kind_of x) ≡ Some k → minus_value x ≡ None → OverflowsMinus (Some x)
opposite_none (value.Int n) k h e = whole_none (neg_ℤ n) e
opposite_none _ k h e = absurd (cc)

opposite_out : (o : Option Value) → OverflowsMinus o → option_and_then minus_value o ≡ None
opposite_out (Some (value.Int n)) h = none_out (neg_ℤ n) h
opposite_out _ h = absurd h

negated_none : (x : Value) (k : Kind) → not_kind (kind_of x) ≡ Some k → not_value x ≡ None → ⊥
negated_none (value.Bool b) k h e = absurd (cc)
negated_none _ k h e = absurd (cc)

and_then_none : (f : Value → Option Value) (o : Option Value) → o ≡ None → option_and_then f o ≡ None
and_then_none f o e = rw e refl

second_none : (f : Value → Value → Option Value) (o p : Option Value) → p ≡ None → option_and_then (λ x. option_and_then (f x) p) o ≡ None
second_none f None p e = refl
second_none f (Some x) p e = rw e refl

cases_option : (o : Option Value) → (o ≡ None) ⊎ ((v : Value) × (o ≡ Some v))
cases_option None = inl refl
cases_option (Some v) = inr (v, refl)

natural : (env : Env) (X : Type 0) (v : X → Expr) (k : Expr → Type 0) (x : Expr-F X) → OverflowsLevel env X v (λ p. k (v p)) x ≡ OverflowsLevel env Expr (λ y. y) k (map-Expr X Expr v x)
natural env X v k (Expr-F.Literal u) = refl
natural env X v k (Expr-F.Slot read) = refl
natural env X v k (Expr-F.Param n) = refl
natural env X v k (Expr-F.Not a) = refl
natural env X v k (Expr-F.Minus a) = refl
natural env X v k (Expr-F.Binary s a b) = refl

-- One level of what leaves 64 bits.
open_level : (env : Env) (x : Expr-F Expr) → Overflows env (roll-Expr x) → OverflowsLevel env Expr (λ e. e) (Overflows env) x
open_level env x h = subst (λ (T : Type 0). T) (rec-roll-Expr (Type 0) (OverflowsLevel env) (natural env) x) h

close_level : (env : Env) (x : Expr-F Expr) → OverflowsLevel env Expr (λ e. e) (Overflows env) x → Overflows env (roll-Expr x)
close_level env x h = subst (λ (T : Type 0). T) (sym (rec-roll-Expr (Type 0) (OverflowsLevel env) (natural env) x)) h

pub leaves-none : (env : Env) (expr : Expr) → Overflows env expr → value_of env expr ≡ None
leaves-none env = ind-Expr P (λ x y h. subst (λ (x : Expr-F Expr). P (roll-Expr x)) h (go y))
  where
    P : Expr → Type 0
    P expr = Overflows env expr → value_of env expr ≡ None

    from : (x : Expr-F Expr) → (OverflowsLevel env Expr (λ e. e) (Overflows env) x → level env (map-Expr Expr (Option Value) (value_of env) x) ≡ None) → P (roll-Expr x)
    from x f h = value_roll env x ∙ f (open_level env x h)

    go : (y : Expr-F ((e : Expr) × P e)) → P (roll-Expr (map-Expr ((e : Expr) × P e) Expr (λ e. e.0) y))
    go (Expr-F.Literal v) = from (Expr-F.Literal v) (λ h. absurd h)
    go (Expr-F.Slot read) = from (Expr-F.Slot read) (λ h. absurd h)
    go (Expr-F.Param n) = from (Expr-F.Param n) (λ h. absurd h)
    go (Expr-F.Not e) = from (Expr-F.Not e.0) (λ h. and_then_none not_value (value_of env e.0) (e.1 h))
    go (Expr-F.Minus e) = from (Expr-F.Minus e.0) (λ h. elim h [ inl k ↦ and_then_none minus_value (value_of env e.0) (e.1 k) | inr k ↦ opposite_out (value_of env e.0) k ])
    go (Expr-F.Binary s e f) = from (Expr-F.Binary s e.0 f.0) (λ h. elim h [
      | inl k ↦ and_then_none (λ x. option_and_then (binary_value s x) (value_of env f.0)) (value_of env e.0) (e.1 k)
      | inr (inl k) ↦ second_none (binary_value s) (value_of env e.0) (value_of env f.0) (f.1 k)
      | inr (inr k) ↦ joined_out s (value_of env e.0) (value_of env f.0) k
    ])

pub none-leaves : (env : Env) (scope : Scope) → IsComplete env scope → (expr : Expr) (k : Kind) → kind_in scope expr ≡ Some k → value_of env expr ≡ None → Overflows env expr
none-leaves env scope c = ind-Expr P (λ x y h. subst (λ (x : Expr-F Expr). P (roll-Expr x)) h (go y))
  where
    P : Expr → Type 0
    P expr = (k : Kind) → kind_in scope expr ≡ Some k → value_of env expr ≡ None → Overflows env expr

    kinds : (expr : Expr) (k : Kind) (v : Value) → kind_in scope expr ≡ Some k → value_of env expr ≡ Some v → kind_of v ≡ k
    kinds = values-have_kinds env scope (λ n a k v h e. let w = c.slots n a k h in let same : w.0 ≡ v = same_value (env.slot n a) w.0 v w.1 e in subst (λ (u : Value). kind_of u ≡ k) same w.2) (λ n k v h e. let w = c.params n k h in let same : w.0 ≡ v = same_value (env.param n) w.0 v w.1 e in subst (λ (u : Value). kind_of u ≡ k) same w.2)
      where
        same_value : (o : Option Value) (u v : Value) → o ≡ Some u → o ≡ Some v → u ≡ v
        same_value o u v a b = cc

    from : (x : Expr-F Expr) → ((k : Kind) → kind_of_level scope (map-Expr Expr (Option Kind) (kind_in scope) x) ≡ Some k → level env (map-Expr Expr (Option Value) (value_of env) x) ≡ None → OverflowsLevel env Expr (λ e. e) (Overflows env) x) → P (roll-Expr x)
    from x f k a b = close_level env x (f k (sym (fold-roll-Expr (Option Kind) (kind_of_level scope) x) ∙ a) (sym (value_roll env x) ∙ b))

    no_value : (o : Option Value) (v : Value) → o ≡ Some v → o ≡ None → ⊥
    no_value o v a b = absurd (cc)

    go : (y : Expr-F ((e : Expr) × P e)) → P (roll-Expr (map-Expr ((e : Expr) × P e) Expr (λ e. e.0) y))
    go (Expr-F.Literal v) = from (Expr-F.Literal v) (λ k a b. absurd (cc))
    go (Expr-F.Slot read) = from (Expr-F.Slot read) (λ k a b. let w = c.slots read.node read.attribute k a in no_value (env.slot read.node read.attribute) w.0 w.1 b)
    go (Expr-F.Param n) = from (Expr-F.Param n) (λ k a b. let w = c.params n k a in no_value (env.param n) w.0 w.1 b)
    go (Expr-F.Not e) = from (Expr-F.Not e.0) (λ k a b.
        let i = and_then-some not_kind (kind_in scope e.0) k a in
        elim (cases_option (value_of env e.0)) [
          | inl n ↦ e.1 i.0 i.1 n
          | inr w ↦ let h : not_kind (kind_of w.0) ≡ Some k = rw (kinds e.0 i.0 w.0 i.1 w.1) i.2 in let none : not_value w.0 ≡ None = rw w.1 at b in absurd (negated_none w.0 k h none)
        ])
    go (Expr-F.Minus e) = from (Expr-F.Minus e.0) (λ k a b.
        let i = and_then-some minus_kind (kind_in scope e.0) k a in
        elim (cases_option (value_of env e.0)) [
          | inl n ↦ inl (e.1 i.0 i.1 n)
          | inr w ↦ let h : minus_kind (kind_of w.0) ≡ Some k = rw (kinds e.0 i.0 w.0 i.1 w.1) i.2 in let none : minus_value w.0 ≡ None = rw w.1 at b in inr (subst OverflowsMinus (sym w.1) (opposite_none w.0 k h none))
        ])
    go (Expr-F.Binary s e f) = from (Expr-F.Binary s e.0 f.0) (λ k a b.
        let i = and_then-some (λ x. option_and_then (binary_kind s x) (kind_in scope f.0)) (kind_in scope e.0) k a in
        let j = and_then-some (binary_kind s i.0) (kind_in scope f.0) k i.2 in
        elim (cases_option (value_of env e.0)) [
          | inl n ↦ inl (e.1 i.0 i.1 n)
          | inr w ↦ elim (cases_option (value_of env f.0)) [
            | inl n ↦ inr (inl (f.1 j.0 j.1 n))
            | inr u ↦ let h : binary_kind s (kind_of w.0) (kind_of u.0) ≡ Some k = rw (kinds e.0 i.0 w.0 i.1 w.1, kinds f.0 j.0 u.0 j.1 u.1) j.2 in
                let none : binary_value s w.0 u.0 ≡ None = rw (w.1, u.1) at b in
                inr (inr (subst (λ (o : Option Value). OverflowsBinary s o (value_of env f.0)) (sym w.1) (subst (λ (o : Option Value). OverflowsBinary s (Some w.0) o) (sym u.1) (joined_none s w.0 u.0 k h none))))
          ]
        ])
