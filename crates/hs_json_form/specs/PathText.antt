-- Paths as they are printed.
use Rattle.std.specs.Prelude.{ℕ, List, [], ◌∷◌}
use Rattle.std.specs.Fmt.{decimal}
use Rattle.std.specs.List.{flat_map}
use Rattle.hs_json_form.specs.declared.path.Step.{Step}
use Rattle.hs_json_form.specs.declared.path.Step.TheVariants.{Key, Place}

-- A slash, and the key, or the place in decimal digits.
abbrev pub step_text : Step → List ℕ
step_text (Key key) = 47 ∷ key
step_text (Place place) = 47 ∷ decimal place

-- The steps in order; a slash for the value itself.
abbrev pub path_text : List Step → List ℕ
path_text [] = 47 ∷ []
path_text (step ∷ steps) = flat_map step_text (step ∷ steps)
