-- The order of matches, extensions and copies.
use Rattle.std.specs.Prelude.{◌≡◌, ◌⊎◌, Option, MatchOption}
use Rattle.hs_expr.specs.Lexicographic.{IsBefore}
use Rattle.hs_types.specs.declared.matching.Extension.{Extension}

-- The numbers of the objects decide, in written order of the nodes; where they are the same, those
-- of the edges do.
abbrev pub IsEarlier : Extension → Extension → Type 0
IsEarlier x y = IsBefore x.nodes y.nodes ⊎ ((x.nodes ≡ y.nodes) × IsBefore x.edges y.edges)

-- It is one of those, and none of them is earlier.
abbrev pub IsLeastOf : (Extension → Type 0) → Extension → Type 0
IsLeastOf P x = P x × ((y : Extension) → P y → IsEarlier y x → ⊥)

-- The least of those, or nothing where there is none.
abbrev pub IsFirstOf : (Extension → Type 0) → Option Extension → Type 0
IsFirstOf P answer = MatchOption answer ((x : Extension) → P x → ⊥) (IsLeastOf P)

-- The least of those that come after one, or nothing where there is none.
abbrev pub IsNextOf : (Extension → Type 0) → Extension → Option Extension → Type 0
IsNextOf P after answer = IsFirstOf (λ x. P x × IsEarlier after x) answer
