-- A checked expression in a scope that its names agree with: its kind, and what it reads.
use Rattle.std.proofs.Common.{ℕ, ◌≡◌, [], Bool, true, Some, Ok, is_some, sym, ap, ap₂, subst, ◌∙◌}
use Rattle.std.proofs.lemmas.List.Elements.{All-append, All-cons, All-nil}
use Rattle.std.specs.List.{All}
use Rattle.std.specs.Option.{option_and_then}
use Rattle.hs_expr.specs.declared.Expr.{Expr}
use Rattle.hs_expr.specs.declared.Expr.TheVariants as expr
use Rattle.hs_expr.specs.declared.Kind.{Kind}
use Rattle.hs_expr.specs.declared.Kind.TheVariants as kind
use Rattle.hs_expr.specs.declared.Name.{Name}
use Rattle.hs_expr.specs.declared.Piece.{Piece}
use Rattle.hs_expr.specs.declared.Piece.TheVariants as piece
use Rattle.hs_expr.specs.declared.SlotRead.{SlotRead}
use Rattle.hs_expr.specs.declared.Value.{Value}
use Rattle.hs_expr.specs.declared.Value.TheVariants as value
use Rattle.hs_expr.specs.Evaluation.{Scope, kind_in, binary_kind, not_kind, minus_kind, reads_of}
use Rattle.hs_expr.proofs.Evaluations.{kind_in-Binary, kind_in-Literal, kind_in-Minus, kind_in-Not, kind_in-Param, kind_in-Slot, reads_of-Binary, reads_of-Literal, reads_of-Minus, reads_of-Not, reads_of-Param, reads_of-Slot}
use Rattle.hs_expr.specs.Trees.{Tree, Leaf, Not, Minus, Binary}
use Rattle.hs_eval.specs.Checking.{Names, Outcome, check_tree, leaf, slot_read}
use Rattle.hs_eval.specs.Naming.{Agrees}
use Rattle.hs_check.proofs.NoFaults.{demand-ok, needed-ok, steps-ok}

-- The scope knows the slot.
abbrev pub IsKnown : Scope → SlotRead → Type 0
IsKnown scope read = is_some (scope.slot read.node read.attribute) ≡ true

-- The expression has its kind also in the scope, which knows all that it reads.
pub record Fits (scope : Scope) (r : Expr × Kind) : Type 0 where
  pub inside : kind_in scope r.0 ≡ Some r.1
  pub known : All (IsKnown scope) (reads_of r.0)

abbrev pub ok : Expr × Kind → Outcome
ok x = Ok x

pub inside : (x y : Expr × Kind) → ok x ≡ ok y → x ≡ y
inside x y e = cc

-- The slot that is read, by its parts.
pub record Read (names : Names) (owner name : Name) (r : Expr × Kind) : Type 0 where
  pub n : ℕ × Bool
  pub a : ℕ × Kind
  pub node : names.node owner.text ≡ Some n
  pub left : n.1 ≡ true
  pub attribute : names.attribute owner.text name.text ≡ Some a
  pub whole : (expr.Slot (record { node = n.0; attribute = a.0 }), a.1) ≡ r

pub read : (names : Names) (owner name : Name) (r : Expr × Kind) → slot_read names owner name ≡ Ok r → Read names owner name r
read names owner name r e =
    let n = needed-ok (names.node owner.text) _ _ r e in
    let left = demand-ok n.0.1 _ _ r n.2 in
    let a = needed-ok (names.attribute owner.text name.text) _ _ r left.1 in
    record { n = n.0; a = a.0; node = n.1; left = left.0; attribute = a.1; whole = inside (expr.Slot (record { node = n.0.0; attribute = a.0.0 }), a.0.1) r a.2 }

literal : (scope : Scope) (v : Value) (k : Kind) (r : Expr × Kind) → ok (expr.Literal v, k) ≡ Ok r → kind_in scope (expr.Literal v) ≡ Some k → Fits scope r
literal scope v k r e in_scope = subst (Fits scope) (inside (expr.Literal v, k) r e) (record { inside = in_scope; known = subst (All (IsKnown scope)) (sym (reads_of-Literal v)) (All-nil (IsKnown scope)) })

leaf-fits : (names : Names) (scope : Scope) → Agrees names scope → (p : Piece) (r : Expr × Kind) → leaf names p ≡ Ok r → Fits scope r
leaf-fits names scope h (piece.Int n span) r e = literal scope (value.Int n) kind.Int r e (kind_in-Literal scope (value.Int n))
leaf-fits names scope h (piece.Text t span) r e = literal scope (value.Text t) kind.Text r e (kind_in-Literal scope (value.Text t))
leaf-fits names scope h (piece.Bool b span) r e = literal scope (value.Bool b) kind.Bool r e (kind_in-Literal scope (value.Bool b))
leaf-fits names scope h (piece.Name name) r e =
    let p = needed-ok (names.param name.text) _ _ r e in
    subst (Fits scope) (inside (expr.Param p.0.0, p.0.1) r p.2) (record {
      inside = kind_in-Param scope p.0.0 ∙ h.params name.text p.0.0 p.0.1 p.1;
      known = subst (All (IsKnown scope)) (sym (reads_of-Param p.0.0)) (All-nil (IsKnown scope));
    })
leaf-fits names scope h (piece.Slot owner name) r e =
    let c = read names owner name r e in
    let at : SlotRead = record { node = c.n.0; attribute = c.a.0 } in
    let is = h.slots owner.text name.text c.n.0 c.a.0 c.a.1 (c.node ∙ ap (λ (b : Bool). Some (c.n.0, b)) c.left) c.attribute in
    subst (Fits scope) c.whole (record {
      inside = kind_in-Slot scope at ∙ is;
      known = subst (All (IsKnown scope)) (sym (reads_of-Slot at)) (All-cons (IsKnown scope) at [] (ap is_some is) (All-nil (IsKnown scope)));
    })
leaf-fits names scope h (piece.Not span) r e = cc
leaf-fits names scope h (piece.Minus span) r e = cc
leaf-fits names scope h (piece.Binary sign span) r e = cc

-- An expression that is checked fits.
pub fits : (names : Names) (scope : Scope) → Agrees names scope → (tree : Tree) (r : Expr × Kind) → check_tree names tree ≡ Ok r → Fits scope r
fits names scope h (Leaf p) r e = leaf-fits names scope h p r e
fits names scope h (Not span a) r e =
    let x = steps-ok (check_tree names a) _ r e in
    let f = needed-ok (not_kind x.0.1) _ _ r x.2 in
    let is = fits names scope h a x.0 x.1 in
    subst (Fits scope) (inside (expr.Not x.0.0, f.0) r f.2) (record {
      inside = kind_in-Not scope x.0.0 ∙ ap (option_and_then not_kind) is.inside ∙ f.1;
      known = subst (All (IsKnown scope)) (sym (reads_of-Not x.0.0)) is.known;
    })
fits names scope h (Minus span a) r e =
    let x = steps-ok (check_tree names a) _ r e in
    let f = needed-ok (minus_kind x.0.1) _ _ r x.2 in
    let is = fits names scope h a x.0 x.1 in
    subst (Fits scope) (inside (expr.Minus x.0.0, f.0) r f.2) (record {
      inside = kind_in-Minus scope x.0.0 ∙ ap (option_and_then minus_kind) is.inside ∙ f.1;
      known = subst (All (IsKnown scope)) (sym (reads_of-Minus x.0.0)) is.known;
    })
fits names scope h (Binary sign span a b) r e =
    let x = steps-ok (check_tree names a) _ r e in
    let y = steps-ok (check_tree names b) _ r x.2 in
    let f = needed-ok (binary_kind sign x.0.1 y.0.1) _ _ r y.2 in
    let is = fits names scope h a x.0 x.1 in
    let too = fits names scope h b y.0 y.1 in
    subst (Fits scope) (inside (expr.Binary sign x.0.0 y.0.0, f.0) r f.2) (record {
      inside = kind_in-Binary scope sign x.0.0 y.0.0 ∙ ap₂ (λ u t. option_and_then (λ z. option_and_then (binary_kind sign z) t) u) is.inside too.inside ∙ f.1;
      known = subst (All (IsKnown scope)) (sym (reads_of-Binary sign x.0.0 y.0.0)) (All-append (IsKnown scope) (reads_of x.0.0) (reads_of y.0.0) is.known too.known);
    })
