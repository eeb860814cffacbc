-- What a checked expression is worth, and of what kind.
use Rattle.std.proofs.Common.{ℕ, ◌≡◌, Bool, true, false, Option, Some, None, Ok, Err, refl, sym, ap, ap₂, subst, ◌∙◌}
use Rattle.std.specs.Option.{option_and_then}
use Rattle.hs_expr.specs.declared.Expr.{Expr}
use Rattle.hs_expr.specs.declared.Expr.TheVariants as expr
use Rattle.hs_expr.specs.declared.Kind.{Kind}
use Rattle.hs_expr.specs.declared.Kind.TheVariants as kind
use Rattle.hs_expr.specs.declared.Name.{Name}
use Rattle.hs_expr.specs.declared.Piece.{Piece}
use Rattle.hs_expr.specs.declared.Piece.TheVariants as piece
use Rattle.hs_expr.specs.declared.Value.TheVariants as value
use Rattle.hs_expr.specs.Evaluation.{Env, Scope, binary_value, kind_in, binary_kind, not_kind, minus_kind, not_value, minus_value, value_of}
use Rattle.hs_expr.proofs.Evaluations.{kind_in-Binary, kind_in-Literal, kind_in-Minus, kind_in-Not, kind_in-Param, kind_in-Slot, value_of-Binary, value_of-Literal, value_of-Minus, value_of-Not, value_of-Param, value_of-Slot}
use Rattle.hs_expr.specs.Steps.{◌>>=◌, demand, needed}
use Rattle.hs_expr.specs.Trees.{Tree, Leaf, Not, Minus, Binary}
use Rattle.hs_eval.specs.declared.fault.ExprFault.{ExprFault}
use Rattle.hs_eval.specs.declared.fault.Wrong.TheVariants.{NotRead, UnknownAttribute}
use Rattle.hs_eval.specs.Checking.{Names, Outcome, check_tree, leaf, param_read, slot_read, wrong_at}
use Rattle.hs_eval.specs.Naming.{Agrees, value_by_names}

abbrev well : Expr × Kind → Outcome
well x = Ok x

inside : (x y : Expr × Kind) → well x ≡ well y → x ≡ y
inside x y e = cc

-- what two steps came of
needed-ok : {X : Type 0} (o : Option X) (fault : ExprFault) (next : X → Outcome) (r : Expr × Kind) → (needed o fault >>= next) ≡ Ok r →
    (x : X) × (o ≡ Some x) × (next x ≡ Ok r)
needed-ok None fault next r e = cc
needed-ok (Some x) fault next r e = (x, refl, e)

steps-ok : (c : Outcome) (next : Expr × Kind → Outcome) (r : Expr × Kind) → (c >>= next) ≡ Ok r → (x : Expr × Kind) × (c ≡ Ok x) × (next x ≡ Ok r)
steps-ok (Err f) next r e = cc
steps-ok (Ok x) next r e = (x, refl, e)

-- What a slot that is read was found by: its node, which is on the left side, and its attribute.
pub record SlotFound (names : Names) (owner name : Name) (r : Expr × Kind) : Type 0 where
  pub n : ℕ
  pub a : ℕ × Kind
  pub node : names.node owner.text ≡ Some (n, true)
  pub attribute : names.attribute owner.text name.text ≡ Some a
  pub whole : (expr.Slot (record { node = n; attribute = a.0 }), a.1) ≡ r

pub slot_found : (names : Names) (owner name : Name) (r : Expr × Kind) → slot_read names owner name ≡ Ok r → SlotFound names owner name r
slot_found names owner name r e = let n = needed-ok (names.node owner.text) _ _ r e in go n.0 n.1 n.2
  where
    read : ℕ → Outcome
    read n = needed (names.attribute owner.text name.text) (wrong_at name.span UnknownAttribute) >>= (λ (a : ℕ × Kind). well (expr.Slot (record { node = n; attribute = a.0 }), a.1))

    go : (n : ℕ × Bool) → names.node owner.text ≡ Some n → (demand n.1 (wrong_at owner.span NotRead) >>= (λ (u : Unit {0}). read n.0)) ≡ Ok r → SlotFound names owner name r
    go (n, true) is h =
        let a = needed-ok (names.attribute owner.text name.text) _ _ r h in
        record { n = n; a = a.0; node = is; attribute = a.1; whole = inside (expr.Slot (record { node = n; attribute = a.0.0 }), a.0.1) r a.2 }
    go (n, false) is h = cc

-- VALUES

abbrev Same : Names → Env → Tree → Expr × Kind → Type 0
Same names env tree r = value_of env r.0 ≡ value_by_names names env tree

param-same : (names : Names) (env : Env) (name : Name) (r : Expr × Kind) → param_read names name ≡ Ok r → Same names env (Leaf (piece.Name name)) r
param-same names env name r e =
    let f = needed-ok (names.param name.text) _ _ r e in
    subst (Same names env (Leaf (piece.Name name))) (inside (expr.Param f.0.0, f.0.1) r f.2)
    (value_of-Param env f.0.0 ∙ sym (ap (option_and_then (λ p. env.param p.0)) f.1))

slot-same : (names : Names) (env : Env) (owner name : Name) (r : Expr × Kind) → slot_read names owner name ≡ Ok r → Same names env (Leaf (piece.Slot owner name)) r
slot-same names env owner name r e =
    let f = slot_found names owner name r e in
    subst (Same names env (Leaf (piece.Slot owner name))) f.whole
    (value_of-Slot env (record { node = f.n; attribute = f.a.0 })
    ∙ sym (ap (option_and_then (λ a. env.slot f.n a.0)) f.attribute)
    ∙ sym (ap (option_and_then (λ n. option_and_then (λ a. env.slot n.0 a.0) (names.attribute owner.text name.text))) f.node))

leaf-same : (names : Names) (env : Env) (p : Piece) (r : Expr × Kind) → leaf names p ≡ Ok r → Same names env (Leaf p) r
leaf-same names env (piece.Int n span) r e = subst (Same names env (Leaf (piece.Int n span))) (inside (expr.Literal (value.Int n), kind.Int) r e) (value_of-Literal env (value.Int n))
leaf-same names env (piece.Text t span) r e = subst (Same names env (Leaf (piece.Text t span))) (inside (expr.Literal (value.Text t), kind.Text) r e) (value_of-Literal env (value.Text t))
leaf-same names env (piece.Bool b span) r e = subst (Same names env (Leaf (piece.Bool b span))) (inside (expr.Literal (value.Bool b), kind.Bool) r e) (value_of-Literal env (value.Bool b))
leaf-same names env (piece.Name name) r e = param-same names env name r e
leaf-same names env (piece.Slot owner name) r e = slot-same names env owner name r e
leaf-same names env (piece.Not span) r e = cc
leaf-same names env (piece.Minus span) r e = cc
leaf-same names env (piece.Binary sign span) r e = cc

pub same-value : (names : Names) (env : Env) (tree : Tree) (r : Expr × Kind) → check_tree names tree ≡ Ok r → Same names env tree r
same-value names env (Leaf p) r e = leaf-same names env p r e
same-value names env (Not span a) r e =
    let x = steps-ok (check_tree names a) _ r e in
    let f = needed-ok (not_kind x.0.1) _ _ r x.2 in
    subst (Same names env (Not span a)) (inside (expr.Not x.0.0, f.0) r f.2)
    (value_of-Not env x.0.0 ∙ ap (option_and_then not_value) (same-value names env a x.0 x.1))
same-value names env (Minus span a) r e =
    let x = steps-ok (check_tree names a) _ r e in
    let f = needed-ok (minus_kind x.0.1) _ _ r x.2 in
    subst (Same names env (Minus span a)) (inside (expr.Minus x.0.0, f.0) r f.2)
    (value_of-Minus env x.0.0 ∙ ap (option_and_then minus_value) (same-value names env a x.0 x.1))
same-value names env (Binary sign span a b) r e =
    let x = steps-ok (check_tree names a) _ r e in
    let y = steps-ok (check_tree names b) _ r x.2 in
    let f = needed-ok (binary_kind sign x.0.1 y.0.1) _ _ r y.2 in
    subst (Same names env (Binary sign span a b)) (inside (expr.Binary sign x.0.0 y.0.0, f.0) r f.2)
    (value_of-Binary env sign x.0.0 y.0.0
    ∙ ap₂ (λ u v. option_and_then (λ w. option_and_then (binary_value sign w) v) u) (same-value names env a x.0 x.1) (same-value names env b y.0 y.1))

-- KINDS

abbrev Kinded : Scope → Expr × Kind → Type 0
Kinded scope r = kind_in scope r.0 ≡ Some r.1

leaf-kinded : (names : Names) (scope : Scope) → Agrees names scope → (p : Piece) (r : Expr × Kind) → leaf names p ≡ Ok r → Kinded scope r
leaf-kinded names scope h (piece.Int n span) r e = subst (Kinded scope) (inside (expr.Literal (value.Int n), kind.Int) r e) (kind_in-Literal scope (value.Int n))
leaf-kinded names scope h (piece.Text t span) r e = subst (Kinded scope) (inside (expr.Literal (value.Text t), kind.Text) r e) (kind_in-Literal scope (value.Text t))
leaf-kinded names scope h (piece.Bool b span) r e = subst (Kinded scope) (inside (expr.Literal (value.Bool b), kind.Bool) r e) (kind_in-Literal scope (value.Bool b))
leaf-kinded names scope h (piece.Name name) r e =
    let f = needed-ok (names.param name.text) _ _ r e in
    subst (Kinded scope) (inside (expr.Param f.0.0, f.0.1) r f.2) (kind_in-Param scope f.0.0 ∙ h.params name.text f.0.0 f.0.1 f.1)
leaf-kinded names scope h (piece.Slot owner name) r e =
    let f = slot_found names owner name r e in
    subst (Kinded scope) f.whole
    (kind_in-Slot scope (record { node = f.n; attribute = f.a.0 }) ∙ h.slots owner.text name.text f.n f.a.0 f.a.1 f.node f.attribute)
leaf-kinded names scope h (piece.Not span) r e = cc
leaf-kinded names scope h (piece.Minus span) r e = cc
leaf-kinded names scope h (piece.Binary sign span) r e = cc

pub its-kind : (names : Names) (scope : Scope) → Agrees names scope → (tree : Tree) (r : Expr × Kind) → check_tree names tree ≡ Ok r → Kinded scope r
its-kind names scope h (Leaf p) r e = leaf-kinded names scope h p r e
its-kind names scope h (Not span a) r e =
    let x = steps-ok (check_tree names a) _ r e in
    let f = needed-ok (not_kind x.0.1) _ _ r x.2 in
    subst (Kinded scope) (inside (expr.Not x.0.0, f.0) r f.2)
    (kind_in-Not scope x.0.0 ∙ ap (option_and_then not_kind) (its-kind names scope h a x.0 x.1) ∙ f.1)
its-kind names scope h (Minus span a) r e =
    let x = steps-ok (check_tree names a) _ r e in
    let f = needed-ok (minus_kind x.0.1) _ _ r x.2 in
    subst (Kinded scope) (inside (expr.Minus x.0.0, f.0) r f.2)
    (kind_in-Minus scope x.0.0 ∙ ap (option_and_then minus_kind) (its-kind names scope h a x.0 x.1) ∙ f.1)
its-kind names scope h (Binary sign span a b) r e =
    let x = steps-ok (check_tree names a) _ r e in
    let y = steps-ok (check_tree names b) _ r x.2 in
    let f = needed-ok (binary_kind sign x.0.1 y.0.1) _ _ r y.2 in
    subst (Kinded scope) (inside (expr.Binary sign x.0.0 y.0.0, f.0) r f.2)
    (kind_in-Binary scope sign x.0.0 y.0.0
    ∙ ap₂ (λ u v. option_and_then (λ w. option_and_then (binary_kind sign w) v) u) (its-kind names scope h a x.0 x.1) (its-kind names scope h b y.0 y.1) ∙ f.1)
