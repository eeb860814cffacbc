use Rattle.std.proofs.Common.{◌≡◌, drop, Bor, map}
use Rattle.serde_json.specs.Data.{Data}
use Rattle.serde_json.specs.View.{view}
use Rattle.serde_json.specs.declared.value.Value.{Value}
use Rattle.hs_expr.specs.Steps.{Gives}
use Rattle.hs_json_form.specs.Form.{Read, each_item}
use Rattle.hs_json_form.specs.contracts.reading.read_each.F-Fn.{words}
use Rattle.hs_json_form.proofs.Members.{with_front}
use Rattle.hs_json_form.proofs.reading.read_each.Given as goal

abbrev pub invariant-loop-i : goal.invariant-loop-i
invariant-loop-i g l = (reads : Data → Read g.row.T.Denot) →
    ((v : Bor Value) (r : _) → (words g.row.T g.row.F g.F.Fn).post l.read v r → Gives r (reads (view v.now))) →
    with_front l.items (each_item reads l.i (map view (drop l.i l.values))) ≡ each_item reads 0 (map view l.values)
