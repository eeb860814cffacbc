-- The metamodel that a JSON value is, or its first fault.
use Rattle.std.specs.Prelude.{ℕ, List, [], ◌∷◌, Result, codes}
use Rattle.serde_json.specs.Data.{Data}
use Rattle.hs_expr.specs.Steps.{◌>>=◌, fault_as}
use Rattle.hs_json_form.specs.declared.path.Step.{Step}
use Rattle.hs_json_form.specs.declared.path.Step.TheVariants.{Key, Place}
use Rattle.hs_meta.specs.declared.fault.ModelFault.{ModelFault}
use Rattle.hs_meta.specs.declared.fault.ModelFaultKind.{ModelFaultKind}
use Rattle.hs_meta.specs.declared.fault.ModelPlace.{ModelPlace}
use Rattle.hs_meta.specs.declared.fault.ModelPlace.TheVariants as place
use Rattle.hs_expr.specs.Verdict.{unless}
use Rattle.hs_meta.specs.Faults.{model_faults}
use Rattle.hs_meta.specs.Meaning.{metamodel_of}
use Rattle.hs_types.specs.declared.meta.Metamodel.{Metamodel}
use Rattle.hs_json_model.specs.declared.fault.Fault.{Fault}
use Rattle.hs_json_model.specs.declared.fault.Wrong.TheVariants.{Form, Meaning}
use Rattle.hs_json_model.specs.MetaForm.{raw_meta}

-- A fault of form at this path.
abbrev pub form_fault : {K : Type 0} → List Step → Fault K
form_fault path = record { path = path; wrong = Form }

-- The path within a class, and to a class's part of this number.
abbrev pub in_class : ℕ → List Step → List Step
in_class class inner = Key (codes "classes") ∷ Place class ∷ inner

abbrev pub in_part : ℕ → List ℕ → ℕ → List Step → List Step
in_part class part number inner = in_class class (Key part ∷ Place number ∷ inner)

-- The path of a place in a metamodel.
abbrev pub model_path : ModelPlace → List Step
model_path place.Classes = Key (codes "classes") ∷ []
model_path (place.Class class) = in_class class []
model_path (place.ClassName class) = in_class class (Key (codes "name") ∷ [])
model_path (place.Super class number) = in_part class (codes "supers") number []
model_path (place.AttributeName class number) =
    in_part class (codes "attributes") number (Key (codes "name") ∷ [])
model_path (place.AttributeType class number) =
    in_part class (codes "attributes") number (Key (codes "type") ∷ [])
model_path (place.AttributeDefault class number) =
    in_part class (codes "attributes") number (Key (codes "default") ∷ [])
model_path (place.Reference class number) = in_part class (codes "references") number []
model_path (place.ReferenceName class number) =
    in_part class (codes "references") number (Key (codes "name") ∷ [])
model_path (place.ReferenceTarget class number) =
    in_part class (codes "references") number (Key (codes "target") ∷ [])

-- A fault at its path.
abbrev pub model_fault_at : ModelFault → Fault ModelFaultKind
model_fault_at fault = record { path = model_path fault.place; wrong = Meaning fault.kind }

-- The metamodel that a value is: of its form, and then of its meaning.
unfoldable pub meta_at : Data → Result Metamodel (Fault ModelFaultKind)
meta_at d = do
  raw ← fault_as form_fault (raw_meta d)
  fault_as model_fault_at (unless (model_faults raw.classes) (metamodel_of raw))
