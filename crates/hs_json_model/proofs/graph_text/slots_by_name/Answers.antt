use Rattle.std.proofs.Common.{◌∙◌, List, ℕ, ap}
use Rattle.hs_types.specs.declared.graph.Slot.{Slot}
use Rattle.hs_json_model.specs.Written.{Member, feature_name, value_data}
use Rattle.hs_json_model.proofs.ByName.{entry_more}
use Rattle.hs_json_model.proofs.graph_text.slots_by_name.Goals as goal

pub loop-slot-preserved : goal.loop-slot-preserved
loop-slot-preserved c =
    let member_of : Slot → Member = λ slot. (feature_name c.args.meta.now slot.attribute, value_data slot.value) in
    entry_more (λ slot. value_data slot.now.value) member_of c.loop-slot.found.entries c.insert.new.self.entries c.feature_name.result _ c.as_slice-slot-items.result.now
    c.loop-slot.slot-index c.slot-item.result _ c.loop-slot-test.true c.in_ok-insert.ensures.entries
    (ap (λ (name : List ℕ). (name, value_data c.slot-item.result.value)) c.feature_name.ensures ∙ ap member_of c.slot-item.is) c.loop-slot.invariant
