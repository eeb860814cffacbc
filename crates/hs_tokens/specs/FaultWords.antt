-- The words by which faults of texts are printed.
use Rattle.std.specs.Prelude.{ℕ, List, codes}
use Rattle.hs_tokens.specs.declared.fault.FaultKind.{FaultKind}
use Rattle.hs_tokens.specs.declared.fault.FaultKind.TheVariants as fault

abbrev pub text_fault_word : FaultKind → List ℕ
text_fault_word fault.Character = codes "character"
text_fault_word fault.Number = codes "number"
text_fault_word fault.Order = codes "order"
text_fault_word fault.End = codes "end"
