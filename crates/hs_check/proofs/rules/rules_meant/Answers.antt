use Rattle.std.proofs.Common.{◌≡◌, ◌+◌, ◌++◌, ◌∷◌, [], map, take, ap, ap₂, sym, ◌∙◌}
use Rattle.std.proofs.lemmas.List.{map-append, take_more}
use Rattle.hs_check.specs.Rules.{rule_from}
use Rattle.hs_check.proofs.rules.rules_meant.Goals as goal

pub loop-contents-preserved : goal.loop-contents-preserved
loop-contents-preserved c =
    let f = rule_from c.args.meta.now in
    let all = c.args.all.now in
    let i = c.loop-contents.contents-index in
    let item = c.contents-item.result in
    let next : take (i + 1) all ≡ take i all ++ item ∷ [] = take_more all i item c.loop-contents-test.true ∙ ap (λ x. take i all ++ x ∷ []) (sym c.contents-item.is) in
    c.in_ok-push.ensures.ok ∙ ap₂ (λ rules rule. rules ++ rule ∷ []) c.loop-contents.invariant c.in_ok-rule_from.ensures
    ∙ sym (map-append f (take i all) (item ∷ [])) ∙ ap (map f) (sym next)
