use Rattle.std.proofs.Common.{◌≡◌, ◌∙◌, List, ℕ, not, is_some, Some, refl, ap, subst}
use Rattle.std.specs.Str.{bytes_eq}
use Rattle.indexmap.specs.IndexMap.{UpdatesBy, get_by}
use Rattle.hs_expr.specs.declared.Name.{Name}
use Rattle.hs_faults.proofs.Index.{known_more, known_there, new_is, not_there}
use Rattle.hs_faults.specs.Named.{first_named}
use Rattle.hs_faults.proofs.names_seen.add_named.Goals as goal

pub returns : goal.returns
returns g c = λ before knows.
    let name = (g.T.Named.named c.args.item.now).text in
    let key : c.as_str.result.now ≡ name = c.as_str.ensures ∙ ap (λ (n : Name). n.text) c.name.ensures in
    let old : c.in_ok-old.old ≡ get_by (λ k. bytes_eq name k.now) c.args.known.now = c.in_ok-old.ensures.old ∙ ap (λ (n : List ℕ). get_by (λ k. bytes_eq n k.now) c.args.known.now) key in
    let there : is_some c.in_ok-old.old ≡ is_some (first_named g.T.Named.named before name) = known_there g.T.Named.named before c.args.known.now name c.in_ok-old.old knows old in
    let reported : c.is_none.result ≡ not (is_some (first_named g.T.Named.named before name)) = new_is (is_some c.in_ok-old.old) c.is_none.result (is_some (first_named g.T.Named.named before name)) c.is_none.ensures there in (
      reported,
      λ new. known_more g.T.Named.named before c.args.item.now c.args.item c.args.known.now c.insert.new.self knows refl (not_there c.is_none.result (is_some (first_named g.T.Named.named before name)) reported new)
          (subst (λ (n : List ℕ). UpdatesBy (λ x y. bytes_eq x.now y.now) (λ k. bytes_eq n k.now) c.args.known.now c.insert.new.self (Some c.args.item)) key c.in_ok-old.ensures.updates),
    )
