use Rattle.std.proofs.Common.{◌≡◌, ◌++◌, map, drop, string_bytes}
use Rattle.std.specs.List.{enumerate_from}
use Rattle.henshin.specs.ReportText.{entry_data}
use Rattle.hs_json_model.specs.Written.{lines_of}
use Rattle.henshin.proofs.lines.add_entries.Given as goal

-- the text so far, with the lines of the entries that are left, is the whole
abbrev pub invariant-loop-place : goal.invariant-loop-place
invariant-loop-place l =
    string_bytes l.text ++ lines_of (map (λ e. entry_data l.rules e.0 e.1) (enumerate_from l.place (drop l.place l.entries)))
    ≡ string_bytes l.fn.text ++ lines_of (map (λ e. entry_data l.rules e.0 e.1) (enumerate_from 0 l.entries))
