-- The exit status of each way to end, and the line that reports it.
use Rattle.std.specs.Prelude.{ℕ, List, codes, Option, Some, None}
use Rattle.hs_json.specs.declared.fault.BundleFault.{BundleFault}
use Rattle.hs_faults.specs.declared.fault.Within.{Within}
use Rattle.hs_faults.specs.declared.fault.Within.TheVariants.{Rule, Unit}
use Rattle.hs_json.specs.declared.fault.BundleFault.TheVariants.{BadJson, BadBundle, BadModel, BadGraph}
use Rattle.hs_input.specs.declared.refusal.Refusal.{Refusal}
use Rattle.hs_input.specs.declared.refusal.Refusal.TheVariants.{NoBundle, BadText, BadRule, NotBuilt}
use Rattle.hs_input.specs.Lines.{refusal_line}
use Rattle.henshin.specs.declared.status.Status.{Status}
use Rattle.henshin.specs.declared.status.Status.TheVariants.{Done, Usage, ReadFault, TooLong, Refused, WriteFault, NoMemory}

abbrev pub bundle_number : BundleFault → ℕ
bundle_number BadJson = 5
bundle_number (BadBundle path) = 6
bundle_number (BadModel fault) = 7
bundle_number (BadGraph fault) = 8

abbrev pub rule_number : Within → ℕ
rule_number Rule = 10
rule_number Unit = 11

abbrev pub refusal_number : Refusal → ℕ
refusal_number (NoBundle fault) = bundle_number fault
refusal_number (BadText line column kind) = 9
refusal_number (BadRule fault) = rule_number fault.within
refusal_number NotBuilt = 21

abbrev pub exit_number : Status → ℕ
exit_number Done = 0
exit_number Usage = 2
exit_number ReadFault = 3
exit_number TooLong = 4
exit_number (Refused refusal) = refusal_number refusal
exit_number WriteFault = 18
exit_number NoMemory = 20

-- Where all is well there is none.
abbrev pub fault_line : Status → Option (List ℕ)
fault_line Done = None
fault_line Usage = Some (codes "henshin: usage")
fault_line ReadFault = Some (codes "henshin: read")
fault_line TooLong = Some (codes "henshin: too-long")
fault_line (Refused refusal) = Some (refusal_line refusal)
fault_line WriteFault = Some (codes "henshin: write")
fault_line NoMemory = Some (codes "henshin: memory")
