-- Numbers of classes, by their names.
use Rattle.std.specs.Prelude.{ℕ, ◌≡◌, List, String}
use Rattle.std.specs.BTreeMap.{BTreeMap, get_by_text}
use Rattle.hs_meta.specs.declared.raw.RawClass.{RawClass}
use Rattle.hs_meta.specs.Names.{raw_class_number}

-- The map has for each name the number of the first class that has it.
abbrev pub KnowsClasses : {Y : Type 0} → BTreeMap (String Y) ℕ → List RawClass → Type 0
KnowsClasses numbers classes =
    (name : List ℕ) → get_by_text numbers name ≡ raw_class_number classes name
