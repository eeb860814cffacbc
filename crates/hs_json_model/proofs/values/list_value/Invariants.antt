use Rattle.std.proofs.Common.{◌≡◌, ◌++◌, map, drop, Bor, IfOk}
use Rattle.serde_json.specs.Data.{Data}
use Rattle.serde_json.specs.View.{view}
use Rattle.hs_json_model.specs.contracts.values.list_value.F-Fn.{words}
use Rattle.hs_json_model.proofs.values.list_value.Given as goal

-- the values so far, and those of the items that are left, are those of all
abbrev pub invariant-loop-item : goal.invariant-loop-item
invariant-loop-item g l = (data_of : g.row.T.Denot → Data) →
    ((x : Bor g.row.T.Denot) (r : _) → (words g.row.T g.row.F g.F.Fn).post l.one x r → IfOk r (λ v. view v ≡ data_of x.now)) →
    map view l.values.items ++ map data_of (drop l.item-index l.item-items) ≡ map data_of l.item-items
