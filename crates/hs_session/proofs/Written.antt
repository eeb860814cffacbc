-- A lawful journal with its places is lawful as it is written.
use Rattle.std.proofs.Common.{ℕ, ◌+◌, ◌≡◌, List, [], ◌∷◌, map, length, refl, sym, ap, subst}
use Rattle.std.specs.List.{enumerate_from, range_with_len}
use Rattle.hs_types.specs.declared.entry.Entry.{Entry}
use Rattle.hs_types.specs.declared.graph.Graph.{Graph}
use Rattle.hs_types.specs.Rules.{Rules}
use Rattle.hs_types.specs.Journal.{IsLawful, IsLawfulWritten}

places_of : (n : ℕ) (journal : List Entry) → map (λ e. e.0) (enumerate_from n journal) ≡ range_with_len n (length (enumerate_from n journal))
places_of n [] = refl
places_of n (e ∷ es) = ap (λ l. n ∷ l) (places_of (n + 1) es)

entries_of_written : (n : ℕ) (journal : List Entry) → map (λ e. e.1) (enumerate_from n journal) ≡ journal
entries_of_written n [] = refl
entries_of_written n (e ∷ es) = ap (λ l. e ∷ l) (entries_of_written (n + 1) es)

pub written_lawful : (rules : Rules) (opening : Graph) (journal : List Entry) → IsLawful rules opening journal → IsLawfulWritten rules opening (enumerate_from 0 journal)
written_lawful rules opening journal lawful = (places_of 0 journal, subst (IsLawful rules opening) (sym (entries_of_written 0 journal)) lawful)
