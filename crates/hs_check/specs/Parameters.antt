-- What parameters mean. What isn't found has the number 0, here and in the files beside this one; a
-- text without faults names nothing such.
use Rattle.std.specs.Prelude.{ℕ, List, map}
use Rattle.std.specs.Option.{option_map_or, unwrap_or}
use Rattle.hs_text.specs.declared.syntax.Direction.{Direction as WrittenDirection}
use Rattle.hs_text.specs.declared.syntax.Direction.TheVariants as written
use Rattle.hs_text.specs.declared.syntax.Param.{Param as WrittenParam}
use Rattle.hs_types.specs.declared.meta.Metamodel.{Metamodel}
use Rattle.hs_types.specs.declared.rule.Direction.{Direction}
use Rattle.hs_types.specs.declared.rule.Direction.TheVariants.{In, Out}
use Rattle.hs_types.specs.declared.rule.Param.{Param}
use Rattle.hs_types.specs.declared.rule.ParamKind.{ParamKind}
use Rattle.hs_types.specs.declared.rule.ParamKind.TheVariants.{Data, Object}
use Rattle.hs_faults.specs.Names.{class_number, data_named}

abbrev pub direction_meant : WrittenDirection → Direction
direction_meant written.In = In
direction_meant written.Out = Out

-- The class of this name, by its number.
abbrev pub class_meant : Metamodel → List ℕ → ℕ
class_meant m name = unwrap_or (class_number m name) 0

-- A parameter is for data of a kind, or else for an object of a class.
abbrev pub kind_meant : Metamodel → List ℕ → ParamKind
kind_meant m word = option_map_or Data (data_named word) (Object (class_meant m word))

abbrev pub param_meant : Metamodel → WrittenParam → Param
param_meant m param = record {
  direction = direction_meant param.direction;
  name = param.name.text;
  kind = kind_meant m param.kind.text;
}

-- The parameters of a rule or a unit, in written order.
abbrev pub params_meant : Metamodel → List WrittenParam → List Param
params_meant m params = map (param_meant m) params
