-- The words of the commands.
use Rattle.std.specs.Prelude.{ℕ, ◌≡◌, List, [], ◌∷◌, codes}
use Rattle.henshin.specs.declared.words.Command.{Command}
use Rattle.henshin.specs.declared.words.Command.TheVariants.{Apply, Validate, Check}

abbrev pub word_of : Command → List ℕ
word_of Apply = codes "apply"
word_of Validate = codes "validate"
word_of Check = codes "check"

-- These are the words of this command: its own, and no more.
abbrev pub AreWords : List (List ℕ) → Command → Type 0
AreWords words command = words ≡ word_of command ∷ []
