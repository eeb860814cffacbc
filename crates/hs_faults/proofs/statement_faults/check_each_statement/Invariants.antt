use Rattle.std.proofs.Common.{◌≡◌, [], drop, take}
use Rattle.std.specs.List.{flat_map, list_all}
use Rattle.hs_expr.specs.Verdict.{verdict}
use Rattle.hs_faults.specs.Contents.{checked_statements}
use Rattle.hs_faults.specs.Depths.{is_complete, is_flat}
use Rattle.hs_faults.specs.StatementFaults.{slot_set_by, statement_faults}
use Rattle.hs_faults.specs.Written.{HasSlots}
use Rattle.hs_faults.proofs.statement_faults.check_each_statement.Given as goal

abbrev pub invariant-loop-statement : goal.invariant-loop-statement
invariant-loop-statement l = record {
  written : HasSlots l.written (flat_map slot_set_by (take l.statement-index l.statements));
  checked : l.checked ≡ checked_statements l.meta l.params l.nodes (take l.statement-index l.statements);
  depth : list_all is_complete l.checked ≡ list_all (is_flat l.meta l.params l.nodes) (take l.statement-index l.statements);
  rest : verdict (statement_faults l.meta l.params l.nodes (flat_map slot_set_by (take l.statement-index l.statements)) (drop l.statement-index l.statements)) ≡ verdict (statement_faults l.meta l.params l.nodes [] l.statements);
}
