use Rattle.std.proofs.Common.{◌≡◌, ℕ, List, Bor}
use Rattle.serde_json.specs.Data.{Data}
use Rattle.serde_json.specs.View.{view, members_view}
use Rattle.serde_json.specs.declared.value.Value.{Value}
use Rattle.hs_expr.specs.Steps.{Gives}
use Rattle.hs_json_form.specs.Form.{Read, each_member, entries}
use Rattle.hs_json_form.specs.contracts.reading.each_member.F-Fn.{words}
use Rattle.hs_json_form.proofs.Members.{with_front}
use Rattle.hs_json_form.proofs.reading.each_member.Given as goal

abbrev pub invariant-loop-key : goal.invariant-loop-key
invariant-loop-key g l = (reads : List ℕ → Data → Read g.row.T.Denot) →
    ((k : Bor (List ℕ)) (v : Bor Value) (r : _) → (words g.row.T g.row.F g.F.Fn).post l.read k v r → Gives r (reads k.now (view v.now))) →
    with_front l.items (each_member reads (entries (members_view l.key-iterator))) ≡ each_member reads (entries (members_view l.members.entries))
