use Rattle.std.proofs.Common.{◌≡◌, ◌++◌, ◌∷◌, [], List, ℕ, Bor, ap, cond, ◌∙◌}
use Rattle.hs_expr.specs.Lists.{same_text}
use Rattle.hs_faults.specs.Written.{attributes_in}
use Rattle.hs_faults.proofs.Slots.{put_back}
use Rattle.hs_faults.proofs.written.add_attribute.Goals as goal

pub returns : goal.returns
returns c = λ name.
    let grown : c.push.new.self ≡ attributes_in c.args.written.now c.args.node.now ++ c.args.attribute ∷ [] = c.in_ok-push.ensures.ok ∙ ap (λ (xs : List (Bor (List ℕ))). xs ++ c.args.attribute ∷ []) c.take_attributes-attributes.ensures.taken in
    put_back c.args.node.now c.args.written.now c.take_attributes-attributes.new.written c.insert.new.self c.push.new.self c.take_attributes-attributes.ensures.left c.in_ok-insert.ensures.updates name
    ∙ ap (λ (xs : List (Bor (List ℕ))). cond (same_text c.args.node.now name) xs (attributes_in c.args.written.now name)) grown
