-- Items by their names.
use Rattle.std.specs.Prelude.{ℕ, ◌≡◌, List, Option, option_copied}
use Rattle.std.specs.List.{find}
use Rattle.std.specs.Str.{bytes_eq}
use denote.Ref.{Bor}
use Rattle.indexmap.specs.IndexMap.{IndexMap, get_by}
use Rattle.hs_expr.specs.declared.Name.{Name}
use Rattle.hs_expr.specs.Lists.{same_text}

-- The first item of this name.
abbrev pub first_named : {T : Type 0} → (T → Name) → List T → List ℕ → Option T
first_named name_of items name = find (λ item. same_text name (name_of item).text) items

-- The map has each name's first item.
abbrev pub Knows : {T S : Type 0} → (T → Name) → IndexMap (Bor (List ℕ)) (Bor T) S → List T → Type 0
Knows name_of known items =
    (name : List ℕ) → option_copied (get_by (λ k. bytes_eq name k.now) known)
    ≡ first_named name_of items name
