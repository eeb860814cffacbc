-- Faults of bundles as they are printed.
use Rattle.std.specs.Prelude.{ℕ, List, ◌++◌, codes}
use Rattle.hs_json_form.specs.PathText.{path_text}
use Rattle.hs_graph.specs.Words.{graph_word}
use Rattle.hs_json_model.specs.Words.{fault_text}
use Rattle.hs_meta.specs.Words.{model_word}
use Rattle.hs_json.specs.declared.fault.BundleFault.{BundleFault}
use Rattle.hs_json.specs.declared.fault.BundleFault.TheVariants.{BadJson, BadBundle, BadModel, BadGraph}

-- The line of a fault.
abbrev pub bundle_fault_line : BundleFault → List ℕ
bundle_fault_line BadJson = codes "henshin: bad-json"
bundle_fault_line (BadBundle path) = codes "henshin: bad-bundle " ++ path_text path
bundle_fault_line (BadModel fault) = codes "henshin: bad-model " ++ fault_text model_word fault
bundle_fault_line (BadGraph fault) = codes "henshin: bad-graph " ++ fault_text graph_word fault
