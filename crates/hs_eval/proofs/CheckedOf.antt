-- What is kept is what was checked.
use Rattle.hs_expr.specs.declared.expr.TheConstants.{MAX_NESTING}
use Rattle.std.proofs.Common.{◌≡◌, ◌≤◌, Bool, true, false, if◌then◌else◌, nat_le, Some, None, Result, Ok, Err, refl, sym, ap, ap₂, subst, ◌∙◌}
use Rattle.std.proofs.lemmas.Bool.{leb-true}
use Rattle.hs_expr.specs.declared.Expr.{Expr}
use Rattle.hs_expr.specs.declared.Kind.{Kind}
use Rattle.hs_expr.specs.Evaluation.{nesting}
use Rattle.hs_eval.specs.declared.checked.Checked.{Checked}
use Rattle.hs_eval.specs.declared.fault.ExprFault.{ExprFault}
use Rattle.hs_eval.specs.Checking.{Outcome}
use Rattle.hs_eval.specs.Results.{checked_of, ok_map}

abbrev well : Checked → Result Checked ExprFault
well x = Ok x

same-checked : (x y : Checked) → well x ≡ well y → x ≡ y
same-checked x y e = cc

same-expr : (x y : Expr) → Some x ≡ Some y → x ≡ y
same-expr x y e = cc

abbrev IsOf : Outcome → Checked → Expr → Type 0
IsOf c reported e = (c ≡ Ok (e, reported.kind)) × (nesting e ≤ MAX_NESTING)

pub kept-checked : (c : Outcome) (reported : Checked) (e : Expr) → ok_map checked_of c ≡ Ok reported → reported.expr ≡ Some e → IsOf c reported e
kept-checked (Err fault) reported e h is = cc
kept-checked (Ok x) reported e h is = go (nat_le (nesting x.0) MAX_NESTING) refl (ap (λ (c : Checked). c.expr) same ∙ is) where
  same : checked_of x ≡ reported
  same = same-checked (checked_of x) reported h

  go : (b : Bool) → nat_le (nesting x.0) MAX_NESTING ≡ b → (checked_of x).expr ≡ Some e → IsOf (Ok x) reported e
  go true t k =
      let it : x.0 ≡ e = same-expr x.0 e (sym (ap (λ (b : Bool). if b then Some x.0 else None) t) ∙ k) in
      (ap₂ (λ (a : Expr) (k : Kind). Ok (a, k)) it (ap (λ (c : Checked). c.kind) same), subst (λ (a : Expr). nesting a ≤ MAX_NESTING) it (leb-true (nesting x.0) MAX_NESTING t))
  go false t k = absurd (none (sym (ap (λ (b : Bool). if b then Some x.0 else None) t) ∙ k)) where
    none : None ≡ Some e → ⊥
    none h = cc
