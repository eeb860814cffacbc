use Rattle.std.proofs.Common.{◌≡◌, ◌∙◌, ◌++◌, ◌∷◌, ◌+◌, ℕ, List, [], cond, drop, take, true, false, ap, sym}
use Rattle.std.proofs.lemmas.List.{drop_more, take-append-drop, take_more}
use Rattle.std.specs.List.{list_any}
use Rattle.hs_expr.specs.Lists.{same_text}
use Rattle.hs_meta.specs.Names as spec
use Rattle.hs_meta.proofs.Repeats.{among_more, differ_more, differ_not}
use Rattle.hs_meta.proofs.names.differ.Goals as goal

pub returns-then-branch : goal.returns-then-branch
returns-then-branch c =
    let names = c.args.names.now in
    let i = c.loop-name.name-index in
    let name = c.name-item.result in
    let known : list_any (same_text name) (take i names) ≡ true =
    sym (c.loop-name.invariant.known name) ∙ ap (spec.is_seen c.loop-name.seen) (sym c.as_str.ensures) ∙ sym c.in_ok-add_name.ensures.known ∙ c.if-branch.true in
    let split : take i names ++ name ∷ drop (i + 1) names ≡ names =
    ap (λ (ns : List (List ℕ)). take i names ++ ns) (ap (λ n. n ∷ drop (i + 1) names) c.name-item.is ∙ sym (drop_more names i name c.loop-name-test.true)) ∙ take-append-drop i names in
    sym (ap spec.differ (sym split) ∙ differ_not (take i names) (drop (i + 1) names) name known)

pub loop-name-preserved : goal.loop-name-preserved
loop-name-preserved c =
    let names = c.args.names.now in
    let i = c.loop-name.name-index in
    let name = c.name-item.result in
    let more : take (i + 1) names ≡ take i names ++ name ∷ [] = take_more names i name c.loop-name-test.true ∙ ap (λ n. take i names ++ n ∷ []) (sym c.name-item.is) in
    let new : list_any (same_text name) (take i names) ≡ false =
    sym (c.loop-name.invariant.known name) ∙ ap (spec.is_seen c.loop-name.seen) (sym c.as_str.ensures) ∙ sym c.in_ok-add_name.ensures.known ∙ c.if-branch.false in
    record {
      apart = ap spec.differ more ∙ differ_more (take i names) name c.loop-name.invariant.apart new;
      known = λ text.
          c.in_ok-add_name.ensures.added text
          ∙ ap (λ n. cond (same_text n text) true (spec.is_seen c.loop-name.seen text)) c.as_str.ensures
          ∙ ap (cond (same_text name text) true) (c.loop-name.invariant.known text)
          ∙ sym (ap (list_any (same_text text)) more ∙ among_more (take i names) name text);
    }
