use Rattle.std.proofs.Common.{◌≡◌, ◌∙◌, ap, sym, cond, is_some, Some, string_bytes}
use Rattle.std.proofs.lemmas.Map.Text.{btree_map_updates_text}
use Rattle.std.specs.BTreeMap.{get_by_text}
use Rattle.hs_expr.specs.Lists.{same_text}
use Rattle.hs_meta.proofs.Places.{place_kept, place_new}
use Rattle.hs_meta.proofs.numbers.add_class.Goals as goal

pub returns-then-contains_key : goal.returns-then-contains_key
returns-then-contains_key c = λ classes at known name.
    let here = ap is_some (sym (known c.args.class.now.name)) ∙ ap (λ t. is_some (get_by_text c.args.numbers.now t)) (sym c.as_str.ensures) ∙ sym c.contains_key.ensures ∙ c.if-contains_key.true in
    known name ∙ sym (place_kept classes c.args.number c.args.class.now name at here)

pub returns : goal.returns
returns c = λ classes at known name.
    let here = ap is_some (sym (known c.args.class.now.name)) ∙ ap (λ t. is_some (get_by_text c.args.numbers.now t)) (sym c.as_str.ensures) ∙ sym c.contains_key.ensures ∙ c.if-contains_key.false in
    let text : string_bytes c.in_ok-name.name ≡ c.args.class.now.name = c.in_ok-name.ensures.ok ∙ c.as_str-2.ensures in
    btree_map_updates_text (string_bytes c.in_ok-name.name) c.args.numbers.now c.insert.new.self _ c.in_ok-insert.ensures.updates name
    ∙ ap (λ t. cond (same_text t name) (Some c.args.number) (get_by_text c.args.numbers.now name)) text
    ∙ ap (cond (same_text c.args.class.now.name name) (Some c.args.number)) (known name)
    ∙ sym (place_new classes c.args.number c.args.class.now name at here)
