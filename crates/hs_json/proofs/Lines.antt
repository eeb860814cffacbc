-- Texts that are built line by line.
use Rattle.std.proofs.Common.{◌≡◌, ◌<◌, ◌+◌, ◌++◌, ℕ, List, length, get_or, drop}
use Rattle.std.specs.List.{flat_map}
use Rattle.std.proofs.lemmas.List.{drop_more}
use Rattle.std.proofs.Common.{append_assoc}

-- One item more has its line in the text, and one fewer is left.
pub one_line_more : {A : Type 0} (line : A → List ℕ) (old new whole : List ℕ) (xs : List A) (i : ℕ) (d : A) → i < length xs →
    new ≡ old ++ line (get_or xs i d) → old ++ flat_map line (drop i xs) ≡ whole → new ++ flat_map line (drop (i + 1) xs) ≡ whole
one_line_more line old new whole xs i d h pushed e = rw (pushed, append_assoc) (rw (drop_more xs i d h) at e)
