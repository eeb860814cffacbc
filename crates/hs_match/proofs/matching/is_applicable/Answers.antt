use Rattle.std.proofs.Common.{◌∙◌}
use Rattle.hs_match.proofs.Valid.{answer_of}
use Rattle.hs_match.proofs.matching.is_applicable.Goals as goal

pub returns : goal.returns
returns c =
    let found = answer_of c.args.meta.now c.args.graph.now.graph c.args.rule.now c.first_images.result c.requires.only_adds c.first_images.ensures.least c.first_images.ensures.none in
    (found.0, found.1, c.is_some.ensures ∙ found.2)
