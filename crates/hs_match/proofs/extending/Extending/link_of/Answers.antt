use Rattle.std.proofs.Common.{◌≡◌, ◌++◌, ◌∷◌, sym, ◌∙◌}
use Rattle.hs_types.specs.PlainMatch.{image}
use Rattle.hs_match.proofs.Links.{image_here, image_before, linked_from, linked_into}
use Rattle.hs_match.proofs.extending.Extending.link_of.Goals as goal

pub returns-then-source-here : goal.returns-then-source-here
returns-then-source-here c = λ y rest n found.
    let nodes = c.args.self.now.base_nodes.now ++ c.args.self.now.nodes.now in
    let base = c.args.self.now.base_images.now in
    let front = c.args.front.now in
    let edge = c.args.edge.now in
    let begins : image nodes (base ++ (front ++ y ∷ rest)) edge.source ≡ c.image-source.result =
    image_before nodes base front (y ∷ rest) edge.source (rw c.left_nodes_before-source.ensures at c.if-source-here.true) ∙ sym c.image-source.ensures in
    let ends : image nodes (base ++ (front ++ y ∷ rest)) edge.target ≡ y = image_here nodes base front y rest edge.target (sym c.left_nodes_before-target.ensures ∙ c.if-target-here.true) in
    linked_from c.args.self.now.graph.now.graph (image nodes (base ++ (front ++ y ∷ rest))) edge n c.image-source.result y found begins ends

pub returns-then-target-here-2 : goal.returns-then-target-here-2
returns-then-target-here-2 c = λ y rest n found.
    let nodes = c.args.self.now.base_nodes.now ++ c.args.self.now.nodes.now in
    let base = c.args.self.now.base_images.now in
    let front = c.args.front.now in
    let edge = c.args.edge.now in
    let ends : image nodes (base ++ (front ++ y ∷ rest)) edge.target ≡ c.image-target.result =
    image_before nodes base front (y ∷ rest) edge.target (rw c.left_nodes_before-target.ensures at c.if-target-here-2.true) ∙ sym c.image-target.ensures in
    let begins : image nodes (base ++ (front ++ y ∷ rest)) edge.source ≡ y = image_here nodes base front y rest edge.source (sym c.left_nodes_before-source.ensures ∙ c.if-source-here-2.true) in
    linked_into c.args.self.now.graph.now.graph (image nodes (base ++ (front ++ y ∷ rest))) edge n c.image-target.result y found ends begins
