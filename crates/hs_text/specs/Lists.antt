-- How the grammar repeats and joins. A relation says of which tokens something is the syntax.
use Rattle.std.specs.Prelude.{List, [], ◌∷◌, ◌++◌, Option, Some, None}
use Rattle.hs_tokens.specs.declared.token.Token.{Token}
use Rattle.hs_text.specs.declared.grammar.Term.{Term}
use Rattle.hs_text.specs.Terms.{Is}

-- `{ x }`: any number, one after another.
pub data Many {X : Type 0} (P : List Token → X → Type 0) : List Token → List X → Type 0 where
  none : Many P [] []
  more : {ts us : List Token} {x : X} {xs : List X} → P ts x → Many P us xs
      → Many P (ts ++ us) (x ∷ xs)

-- `[ x ]`: one, or nothing.
pub data Optional {X : Type 0} (P : List Token → X → Type 0) : List Token → Option X → Type 0 where
  absent : Optional P [] None
  present : {ts : List Token} {x : X} → P ts x → Optional P ts (Some x)

-- `t x`: a token, and then one.
pub data After {X : Type 0} (term : Term) (P : List Token → X → Type 0) : List Token → X
    → Type 0 where
  after_token : (t : Token) {ts : List Token} {x : X} → Is term t → P ts x → After term P (t ∷ ts) x

-- `x t`: one, and then a token.
pub data Before {X : Type 0} (P : List Token → X → Type 0) (term : Term) : List Token → X
    → Type 0 where
  before : (t : Token) {ts : List Token} {x : X} → P ts x → Is term t
      → Before P term (ts ++ t ∷ []) x

-- `[ x { t x } ]`: any number, with a token between each two.
pub data Separated {X : Type 0} (P : List Token → X → Type 0) (term : Term) : List Token → List X
    → Type 0 where
  no_items : Separated P term [] []
  items : {ts us : List Token} {x : X} {xs : List X} → P ts x → Many (After term P) us xs
      → Separated P term (ts ++ us) (x ∷ xs)
