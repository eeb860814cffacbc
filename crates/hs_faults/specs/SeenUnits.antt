-- The units of a text that are checked so far.
use Rattle.std.specs.Prelude.{◌≡◌, List, length}
use Rattle.hs_text.specs.declared.syntax.Unit.{Unit as WrittenUnit}
use Rattle.hs_faults.specs.declared.units.SeenUnits.{SeenUnits}
use Rattle.hs_faults.specs.Named.{Knows}

-- They are these.
abbrev pub HasSeenUnits : SeenUnits → List WrittenUnit → Type 0
HasSeenUnits seen units =
    Knows (λ other. other.name) seen.by_name units × (seen.count ≡ length units)
