use Rattle.std.proofs.Common.{◌≡◌, ◌++◌, slice_get, ◌∙◌}
use Rattle.std.specs.Prelude.{option_copied}
use Rattle.std.proofs.lemmas.Option.{unwrap_or-slice_get}
use Rattle.std.proofs.lemmas.Iterator.{YieldsList-from_slice}
use Rattle.std.proofs.lemmas.Iterator.Consumers.{nth_from_yields_List, YieldsList-from_chain}
use Rattle.hs_types.proofs.pattern.image_of.Goals as goal

pub returns : goal.returns
returns c =
    let found : option_copied c.nth.result ≡ slice_get (c.args.base_images.now ++ c.args.images.now) c.left_nodes_before-before.result =
    nth_from_yields_List c.nth.result c.nth.new.self c.left_nodes_before-before.result c.nth.ensures.ran
    (YieldsList-from_chain (YieldsList-from_slice c.args.base_images.now (rw c.chain.ensures.first c.iter.ensures.rest)) (YieldsList-from_slice c.args.images.now (rw c.chain.ensures.second c.iter-2.ensures.rest)) c.chain.ensures.first_done c.chain.ensures.second_done) in
    rw (← c.left_nodes_before-before.ensures) (c.unwrap_or.ensures ∙ rw (c.copied.ensures, found) (unwrap_or-slice_get (c.args.base_images.now ++ c.args.images.now) c.left_nodes_before-before.result 0))
