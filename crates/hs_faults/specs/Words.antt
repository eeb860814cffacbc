-- The words by which faults of rules and units are reported.
use Rattle.std.specs.Prelude.{ℕ, List, codes}
use Rattle.hs_faults.specs.declared.fault.RuleFaultKind.{RuleFaultKind}
use Rattle.hs_faults.specs.declared.fault.RuleFaultKind.TheVariants as kind

abbrev pub fault_word : RuleFaultKind → List ℕ
fault_word kind.Twice = codes "twice"
fault_word kind.UnknownClass = codes "unknownclass"
fault_word kind.NoConcrete = codes "noconcrete"
fault_word kind.ArgMismatch = codes "argmismatch"
fault_word kind.UnknownNode = codes "unknownnode"
fault_word kind.UnknownReference = codes "unknownreference"
fault_word kind.BadEnds = codes "badends"
fault_word kind.WriteOnDeleted = codes "writeondeleted"
fault_word kind.KernelSlotInCopy = codes "kernelslotincopy"
fault_word kind.UnknownAttribute = codes "unknownattribute"
fault_word kind.UnknownName = codes "unknownname"
fault_word kind.NotRead = codes "notread"
fault_word kind.BadKind = codes "badkind"
fault_word kind.UnknownUnit = codes "unknownunit"
fault_word kind.UnitCycle = codes "unitcycle"
fault_word kind.Limit = codes "limit"
