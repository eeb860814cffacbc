-- Checked expressions as they are given to the caller.
use Rattle.std.specs.Prelude.{if◌then◌else◌, Some, None, Result, Ok, Err, nat_le}
use Rattle.hs_eval.specs.declared.checked.Checked.{Checked}
use Rattle.hs_expr.specs.declared.Expr.{Expr}
use Rattle.hs_expr.specs.declared.expr.TheConstants.{MAX_NESTING}
use Rattle.hs_expr.specs.declared.Kind.{Kind}
use Rattle.hs_expr.specs.Evaluation.{nesting}

-- The value seen through a function, or the fault.
abbrev pub ok_map : {A B F : Type 0} → (A → B) → Result A F → Result B F
ok_map see (Ok x) = Ok (see x)
ok_map see (Err fault) = Err fault

-- The kind, and the expression itself where it nests at most MAX_NESTING deep.
abbrev pub checked_of : Expr × Kind → Checked
checked_of x = record {
  kind = x.1;
  expr = if nat_le (nesting x.0) MAX_NESTING then Some x.0 else None;
}
