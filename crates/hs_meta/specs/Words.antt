-- The words that faults of metamodels are printed as.
use Rattle.std.specs.Prelude.{ℕ, List, codes}
use Rattle.hs_meta.specs.declared.fault.ModelFaultKind.{ModelFaultKind}
use Rattle.hs_meta.specs.declared.fault.ModelFaultKind.TheVariants.{Name, Twice, UnknownSuper, SuperCycle, UnknownType, BadDefault, BadBounds, Limit}

abbrev pub model_word : ModelFaultKind → List ℕ
model_word Name = codes "name"
model_word Twice = codes "twice"
model_word UnknownSuper = codes "unknownsuper"
model_word SuperCycle = codes "supercycle"
model_word UnknownType = codes "unknowntype"
model_word BadDefault = codes "baddefault"
model_word BadBounds = codes "badbounds"
model_word Limit = codes "limit"
