-- Refusals as they are printed.
use Rattle.std.specs.Prelude.{ℕ, List, ◌++◌, codes}
use Rattle.std.specs.Fmt.{decimal}
use Rattle.hs_tokens.specs.FaultWords.{text_fault_word}
use Rattle.hs_json.specs.Lines.{bundle_fault_line}
use Rattle.hs_faults.specs.declared.fault.Within.{Within}
use Rattle.hs_faults.specs.declared.fault.Within.TheVariants.{Rule, Unit}
use Rattle.hs_faults.specs.Words.{fault_word}
use Rattle.hs_input.specs.declared.refusal.Refusal.{Refusal}
use Rattle.hs_input.specs.declared.refusal.Refusal.TheVariants.{NoBundle, BadText, BadRule, NotBuilt}

-- A place in the text of the rules, and the word of what is wrong there.
abbrev pub place_text : ℕ → ℕ → List ℕ → List ℕ
place_text line column word = decimal line ++ (codes ":" ++ (decimal column ++ (codes " " ++ word)))

abbrev pub rule_front : Within → List ℕ
rule_front Unit = codes "henshin: bad-unit "
rule_front Rule = codes "henshin: bad-rule "

-- The line that reports a refusal.
abbrev pub refusal_line : Refusal → List ℕ
refusal_line (NoBundle fault) = bundle_fault_line fault
refusal_line (BadText line column kind) =
    codes "henshin: bad-text " ++ place_text line column (text_fault_word kind)
refusal_line (BadRule fault) =
    rule_front fault.within ++ place_text fault.line fault.column (fault_word fault.kind)
refusal_line NotBuilt = codes "henshin: not-built"
