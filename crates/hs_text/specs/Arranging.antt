-- How an expression is written from its end to its beginning, by its pieces from the last to the
-- first.
-- The tasks are what is still to be written, the last one first.
use Rattle.std.specs.Prelude.{ℕ, Bool, true, false, List, [], ◌∷◌, Option, Some, None, codes}
use Rattle.hs_expr.specs.declared.Piece.{Piece}
use Rattle.hs_expr.specs.declared.Piece.TheVariants as piece
use Rattle.hs_text.specs.declared.arranging.Task.{Task}
use Rattle.hs_text.specs.declared.arranging.Task.TheVariants.{Text, Expr}
use Rattle.hs_text.specs.Canonical.{piece_text}

-- The next expression that is to be written: whether it is in parentheses if an operator makes it.
abbrev pub next_expr : List Task → Option Bool
next_expr [] = None
next_expr (Text text ∷ tasks) = next_expr tasks
next_expr (Expr parens ∷ tasks) = Some parens

-- The tasks below it.
abbrev pub below_expr : List Task → List Task
below_expr [] = []
below_expr (Text text ∷ tasks) = below_expr tasks
below_expr (Expr parens ∷ tasks) = tasks

-- The texts, with those before it that come last.
abbrev pub before_expr : List Task → List (List ℕ) → List (List ℕ)
before_expr [] texts = texts
before_expr (Text text ∷ tasks) texts = before_expr tasks (text ∷ texts)
before_expr (Expr parens ∷ tasks) texts = texts

abbrev pub paren_tasks : Bool → List Task → List Task
paren_tasks true tasks = Text (codes "(") ∷ tasks
paren_tasks false tasks = tasks

abbrev pub paren_texts : Bool → List (List ℕ) → List (List ℕ)
paren_texts true texts = codes ")" ∷ texts
paren_texts false texts = texts

-- The tasks and the texts after the last piece of an expression.
abbrev pub tasks_after : Piece → Bool → List Task → List Task
tasks_after (piece.Not span) parens tasks =
    Expr true ∷ Text (piece_text (piece.Not span)) ∷ paren_tasks parens tasks
tasks_after (piece.Minus span) parens tasks =
    Expr true ∷ Text (piece_text (piece.Minus span)) ∷ paren_tasks parens tasks
tasks_after (piece.Binary sign span) parens tasks =
    Expr true ∷ Text (piece_text (piece.Binary sign span)) ∷ Expr true ∷ paren_tasks parens tasks
tasks_after _ parens tasks = tasks

abbrev pub texts_after : Piece → Bool → List (List ℕ) → List (List ℕ)
texts_after (piece.Not span) parens texts = paren_texts parens texts
texts_after (piece.Minus span) parens texts = paren_texts parens texts
texts_after (piece.Binary sign span) parens texts = paren_texts parens texts
texts_after p parens texts = piece_text p ∷ texts
