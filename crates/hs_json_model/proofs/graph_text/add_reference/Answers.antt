use Rattle.std.proofs.Common.{◌∙◌, ℕ, ap, sym}
use Rattle.serde_json.specs.Data.{Data, put, string}
use Rattle.hs_json_model.specs.ByName.{entry_members}
use Rattle.hs_json_model.specs.Written.{feature_name, list_data, targets_of, with_members}
use Rattle.hs_json_model.proofs.ByName.{entry_put, left_out, stays}
use Rattle.hs_json_model.proofs.graph_text.add_reference.Goals as goal

pub returns-in_ok-insert : goal.returns-in_ok-insert
returns-in_ok-insert c = λ names.
    let data_of : ℕ → Data = λ f. list_data string (targets_of names c.args.edges.now f) in
    let old = entry_members data_of c.args.found.now.entries in
    ap (λ entries. entry_members data_of entries) c.in_ok-insert.ensures.entries
    ∙ entry_put data_of c.args.found.now.entries c.feature_name.result c.args.feature
    ∙ ap (λ name. put name (data_of c.args.feature) old) c.feature_name.ensures
    ∙ ap (λ members. with_members old members) (sym (stays (feature_name c.args.meta.now c.args.feature) names c.args.edges.now c.args.feature (sym c.has_edge.ensures ∙ c.if-has_edge.true)))

pub returns-else-has_edge : goal.returns-else-has_edge
returns-else-has_edge c = λ names.
    let old = entry_members (λ f. list_data string (targets_of names c.args.edges.now f)) c.args.found.now.entries in
    ap (λ members. with_members old members) (sym (left_out (feature_name c.args.meta.now c.args.feature) names c.args.edges.now c.args.feature (sym c.has_edge.ensures ∙ c.if-has_edge.false)))
