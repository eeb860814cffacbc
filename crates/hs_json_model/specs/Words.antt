-- Faults as they are printed.
use Rattle.std.specs.Prelude.{ℕ, List, ◌∷◌, ◌++◌, codes}
use Rattle.hs_json_form.specs.PathText.{path_text}
use Rattle.hs_json_model.specs.declared.fault.Fault.{Fault}
use Rattle.hs_json_model.specs.declared.fault.Wrong.{Wrong}
use Rattle.hs_json_model.specs.declared.fault.Wrong.TheVariants.{Form, Meaning}

abbrev pub wrong_word : {K : Type 0} → (K → List ℕ) → Wrong K → List ℕ
wrong_word word Form = codes "form"
wrong_word word (Meaning kind) = word kind

-- A path, a space and the word of what is wrong there.
abbrev pub fault_text : {K : Type 0} → (K → List ℕ) → Fault K → List ℕ
fault_text word fault = path_text fault.path ++ (32 ∷ wrong_word word fault.wrong)
