use Rattle.std.proofs.Common.{◌≡◌, ◌∙◌, ◌++◌, List, ℕ, ap, sym, subst, string_bytes}
use Rattle.std.proofs.lemmas.Str.{IsUtf8-string_bytes}
use Rattle.std.specs.Str.{IsUtf8}
use Rattle.json.specs.Print.{print}
use Rattle.json.specs.Tree.{json_tokens}
use Rattle.serde_json.proofs.Texts.{print-outline}
use Rattle.serde_json.specs.Written.{outline}
use Rattle.hs_json_model.specs.Written.{graph_data}
use Rattle.hs_json_model.proofs.graph_text.with_graph.Goals as goal

pub text_of-requires : goal.text_of-requires
text_of-requires c =
    let before : c.add_graph.new.out.before ≡ string_bytes c.args.text = c.in_ok-add_graph.ensures.before ∙ c.new-out.ensures.before ∙ ap (λ v. v.items) c.into_bytes.ensures.value in
    subst IsUtf8 (sym before) (IsUtf8-string_bytes c.args.text)

pub returns : goal.returns
returns c =
    let whole = graph_data c.args.meta.now c.args.graph.now.graph in
    let before : c.add_graph.new.out.before ≡ string_bytes c.args.text = c.in_ok-add_graph.ensures.before ∙ c.new-out.ensures.before ∙ ap (λ v. v.items) c.into_bytes.ensures.value in
    let tokens : c.add_graph.new.out.tokens ≡ json_tokens (outline whole) = c.in_ok-add_graph.ensures.ok ∙ ap (λ ts. ts ++ json_tokens (outline whole)) c.new-out.ensures.tokens in
    c.text_of.ensures ∙ ap (λ (bs : List ℕ). bs ++ print c.add_graph.new.out.tokens) before
    ∙ ap (λ (s : List ℕ). string_bytes c.args.text ++ s) (ap print tokens ∙ print-outline whole)
