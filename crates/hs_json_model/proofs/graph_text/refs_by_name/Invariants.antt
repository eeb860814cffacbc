use Rattle.std.proofs.Common.{◌≡◌, ℕ, List, drop}
use Rattle.serde_json.specs.Data.{no_members, string}
use Rattle.hs_json_model.specs.ByName.{entry_members}
use Rattle.hs_json_model.specs.Written.{list_data, refs_members, targets_of, with_members}
use Rattle.hs_json_model.proofs.graph_text.refs_by_name.Given as goal

-- the members so far, with those of the features that are left, are those of all
abbrev pub invariant-loop-feature : goal.invariant-loop-feature
invariant-loop-feature l = (names : ℕ → List ℕ) →
    with_members (entry_members (λ f. list_data string (targets_of names l.edges f)) l.found.entries) (refs_members l.meta names l.edges (drop l.feature-index l.feature-items))
    ≡ with_members no_members (refs_members l.meta names l.edges l.feature-items)
