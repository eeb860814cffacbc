use Rattle.std.proofs.Common.{◌≡◌, ℕ, List, take, true}
use Rattle.std.specs.List.{list_any}
use Rattle.hs_expr.specs.Lists.{same_text}
use Rattle.hs_meta.specs.Names as spec
use Rattle.hs_meta.proofs.names.differ.Given as goal

abbrev pub invariant-loop-name : goal.invariant-loop-name
invariant-loop-name l = record {
  apart : spec.differ (take l.name-index l.names) ≡ true;
  known : (text : List ℕ) → spec.is_seen l.seen text ≡ list_any (same_text text) (take l.name-index l.names);
}
