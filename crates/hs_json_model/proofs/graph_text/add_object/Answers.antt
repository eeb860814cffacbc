use Rattle.std.proofs.Common.{◌≡◌, ◌∙◌, ◌++◌, ℕ, List, OnOk, sym, subst}
use Rattle.json.specs.Tree.{json_tokens}
use Rattle.serde_json.specs.Written.{outline}
use Rattle.hs_types.specs.declared.graph.Edge.{Edge}
use Rattle.hs_graph.specs.Index.{indexed_name}
use Rattle.hs_json_model.specs.Written.{name_in, object_data, object_members}
use Rattle.hs_graph.specs.Problems.{edges_leaving}
use Rattle.hs_json_model.proofs.Lists.{named}
use Rattle.hs_json_model.proofs.graph_text.add_object.Goals as goal

pub returns-clause-ok : goal.returns-clause-ok
returns-clause-ok c = λ g objects outgoing.
    let m = c.args.meta.now in
    let o = c.args.object.now in
    let old = c.args.out.now.tokens in
    let edges : c.edges_of-edges.result.now ≡ edges_leaving g o.number = c.edges_of-edges.ensures ∙ outgoing o.number in
    let names : name_in g ≡ indexed_name c.args.objects.now = λ i n. named _ _ (objects n) i in
    subst (λ (found : ℕ → List ℕ). OnOk c.add_parts.result (c.add_parts.new.out.tokens ≡ old ++ json_tokens (outline (object_data (object_members m found (edges_leaving g o.number) o))))) (sym names)
    (subst (λ (found : List Edge). OnOk c.add_parts.result (c.add_parts.new.out.tokens ≡ old ++ json_tokens (outline (object_data (object_members m (indexed_name c.args.objects.now) found o))))) edges c.add_parts.ensures.ok)
