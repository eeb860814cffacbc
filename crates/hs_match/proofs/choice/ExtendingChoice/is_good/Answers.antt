use Rattle.std.proofs.Common.{refl}
use Rattle.hs_match.specs.View.{sought}
use Rattle.hs_match.proofs.Images.{fits_good}
use Rattle.hs_match.proofs.choice.ExtendingChoice.is_good.Goals as goal

pub returns : goal.returns
returns c =
    let e = c.args.self.now in
    ((λ _. fits_good (sought e) c.args._all.now (rw (e.nodes_counted, e.edges_counted) at c.requires.whole) c.requires.each_fits e.images_differ e.edge_images_differ), (λ _. refl))
