-- The steps of a path, from the last one on.
use Rattle.std.proofs.Common.{ℕ, ◌+◌, ◌-◌, ◌<◌, ◌≤◌, ◌≡◌, ◌++◌, List, [], length, drop, get_or, reverse, ap, sym, ◌∙◌}
use Rattle.std.proofs.lemmas.List.{drop_all, drop_more, get_or-reverse, length-reverse}
use Rattle.std.specs.List.{flat_map}
use Rattle.hs_json_form.specs.declared.path.Step.{Step}
use Rattle.hs_json_form.specs.PathText.{step_text}

pub next_step : (xs : List Step) (i : ℕ) (x : Step) → i < length xs → x ≡ get_or xs (length xs - 1 - i) x → flat_map step_text (drop i (reverse xs)) ≡ step_text x ++ flat_map step_text (drop (i + 1) (reverse xs))
next_step xs i x h e =
    let long : i < length (reverse xs) = rw length-reverse h in
    let here : get_or (reverse xs) i x ≡ x = get_or-reverse xs i x h ∙ sym e in
    ap (flat_map step_text) (drop_more (reverse xs) i x long) ∙ ap (λ y. step_text y ++ flat_map step_text (drop (i + 1) (reverse xs))) here

pub none_left : (xs : List Step) (i : ℕ) → length xs ≤ i → flat_map step_text (drop i (reverse xs)) ≡ []
none_left xs i h =
    let all : length (reverse xs) ≤ i = rw length-reverse h in
    ap (flat_map step_text) (drop_all i (reverse xs) all)
