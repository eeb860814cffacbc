use Rattle.std.proofs.Common.{◌≡◌, length, map}
use Rattle.hs_tokens.specs.Tokens.{lookup}
use Rattle.hs_tokens.proofs.scan.lookup.Given as goal

abbrev pub invariant-loop-table : goal.invariant-loop-table
invariant-loop-table l = lookup (map (λ entry. (entry.0.now, entry.1)) l.table) l.chars ≡ lookup (map (λ entry. (entry.0.now, entry.1)) l.initial.table) l.chars

abbrev pub decreases-loop-table : goal.decreases-loop-table
decreases-loop-table l = length l.table
