use Rattle.std.proofs.Common.{rules, ◌≡◌, ◌∙◌, ap, sym, ◌++◌, ◌∷◌, [], Ok, string_bytes}
use Rattle.std.specs.Map.Iter.{deref_pair}
use Rattle.std.proofs.lemmas.Map.Iter.{rest_more}
use Rattle.serde_json.specs.View.{members_view, view}
use Rattle.hs_expr.specs.Steps.{Gives}
use Rattle.hs_json_form.specs.Form.{each_member, entries, at_step}
use Rattle.hs_json_form.specs.declared.path.Step.TheVariants.{Key}
use Rattle.hs_json_form.proofs.Members.{member-next, with_front}
use Rattle.hs_json_form.proofs.reading.each_member.Goals as goal

pub loop-key-preserved : goal.loop-key-preserved
loop-key-preserved g c = λ reads h.
    let rest = c.next.new.self in
    let items = c.loop-key.items in
    let key = string_bytes c.in-Some.key.now in
    let d = view c.in-Some.value.now in
    let taken = rest_more deref_pair c.loop-key.key-iterator rest c.next.result (c.in-Some.key, c.in-Some.value) c.in-Some.is c.next.ensures.steps in
    let called : Gives c.read.result (reads c.as_str-in-loop-key.result.now d) = h _ _ _ c.read.ensures in
    let told : Gives c.at_key.result (at_step (Key c.as_str.result.now) (reads c.as_str-in-loop-key.result.now d)) = c.at_key.ensures _ called in
    let read : at_step (Key key) (reads key d) ≡ Ok c.in-Ok.item = rw (c.in-Ok.is, c.as_str.ensures.value, c.as_str-in-loop-key.ensures.value) at told in
    let pushed : c.push.new.self ≡ items ++ c.in-Ok.item ∷ [] = search rules in
    ap (λ front. with_front front (each_member reads (entries (members_view rest)))) pushed
    ∙ sym (member-next reads items key d (entries (members_view rest)) c.in-Ok.item read)
    ∙ ap (λ es. with_front items (each_member reads (entries (members_view es)))) (sym taken)
    ∙ c.loop-key.invariant reads h
