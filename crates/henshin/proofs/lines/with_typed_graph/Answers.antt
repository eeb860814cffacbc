use Rattle.std.proofs.Common.{◌≡◌, ◌++◌, ◌∙◌, IfOk, subst, string_bytes}
use Rattle.serde_json.specs.Written.{compact_text}
use Rattle.hs_json_model.specs.Written.{graph_data}
use Rattle.hs_types.specs.declared.meta.Metamodel.{Metamodel}
use Rattle.henshin.proofs.lines.with_typed_graph.Goals as goal

pub returns : goal.returns
returns c = subst (λ (m : Metamodel). IfOk c.with_graph.result (λ written. string_bytes written ≡ string_bytes c.args.text ++ compact_text (graph_data m c.args.graph.now.graph))) (c.deref.ensures ∙ c.meta.ensures.value) c.with_graph.ensures
