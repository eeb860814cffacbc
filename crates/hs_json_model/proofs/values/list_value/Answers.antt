use Rattle.std.proofs.Common.{◌∙◌, ap}
use Rattle.serde_json.specs.Data.{array}
use Rattle.serde_json.specs.View.{items_of}
use Rattle.serde_json.proofs.Views.{view-Array}
use Rattle.hs_json_model.proofs.Lists.{none_left}
use Rattle.hs_json_model.proofs.values.list_value.Goals as goal

pub returns : goal.returns
returns g c = λ data_of h. rw (← c.as_slice-item-items.ensures) (
    view-Array c.loop-item.values
    ∙ ap (λ ds. array (items_of ds)) (none_left data_of _ _ c.as_slice-item-items.result.now c.loop-item.item-index c.loop-item-test.false (c.loop-item.invariant data_of h)))
