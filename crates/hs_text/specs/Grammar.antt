-- The grammar, production by production: which tokens are the text of which syntax. `source` has
-- the characters of the text, of which names and texts are parts.
use Rattle.std.specs.Prelude.{ℕ, true, List, [], ◌∷◌, ◌++◌, Option}
use Rattle.hs_expr.specs.declared.Piece.{Piece}
use Rattle.hs_expr.specs.declared.Piece.TheVariants as piece
use Rattle.hs_expr.specs.declared.NameExpr.{NameExpr}
use Rattle.hs_tokens.specs.declared.token.Kind.TheVariants as kind
use Rattle.hs_tokens.specs.declared.token.Token.{Token}
use Rattle.hs_text.specs.declared.grammar.Term.TheVariants as term
use Rattle.hs_text.specs.declared.syntax.Param.{Param}
use Rattle.hs_text.specs.declared.syntax.Element.{Element}
use Rattle.hs_text.specs.declared.syntax.Element.TheVariants as element
use Rattle.hs_text.specs.declared.syntax.Simple.{Simple}
use Rattle.hs_text.specs.declared.syntax.Simple.TheVariants as simple
use Rattle.hs_text.specs.declared.syntax.Item.{Item}
use Rattle.hs_text.specs.declared.syntax.Item.TheVariants as item
use Rattle.hs_text.specs.declared.syntax.Atom.{Atom}
use Rattle.hs_text.specs.declared.syntax.Atom.TheVariants as atom
use Rattle.hs_text.specs.declared.syntax.Bind.{Bind}
use Rattle.hs_text.specs.declared.syntax.Bind.TheVariants as bind
use Rattle.hs_text.specs.declared.syntax.Call.{Call}
use Rattle.hs_text.specs.declared.syntax.Body.{Body}
use Rattle.hs_text.specs.declared.syntax.Body.TheVariants as body
use Rattle.hs_text.specs.declared.syntax.Definition.{Definition}
use Rattle.hs_text.specs.declared.syntax.Definition.TheVariants as definition
use Rattle.hs_text.specs.Terms.{Is}
use Rattle.hs_text.specs.Words.{name_of, direction_of, mark_of, sign_of, literal_of, atom_of, count_of, list_body}
use Rattle.hs_text.specs.Lists.{Many, Optional, After, Before, Separated}

-- The parts of expressions.
pub data Level : Type 0 where
  Expr : Level
  Or : Level
  Conj : Level
  And : Level
  Neg : Level
  Cmp : Level
  Comparison : Level
  Sum : Level
  Addition : Level
  Prod : Level
  Product : Level
  Fact : Level

-- Expressions. Their parts are in postfix order, each operator after its operands, so that chains
-- associate to the left: `a - b - c` is `a b - c -`.
pub data Expression (source : List ℕ) : Level → List Token → List Piece → Type 0 where
  -- expr = conj { "or" conj }
  expr : {ts us : List Token} {a b : List Piece} → Expression source Conj ts a
      → Expression source Or us b → Expression source Expr (ts ++ us) (a ++ b)
  no_or : Expression source Or [] []
  or : (t : Token) {ts us : List Token} {a b : List Piece} → Is (term.Just kind.Or) t
      → Expression source Conj ts a → Expression source Or us b
      → Expression source Or (t ∷ (ts ++ us)) (a ++ (piece.Binary (sign_of t.kind) t.span ∷ b))
  -- conj = neg { "and" neg }
  conj : {ts us : List Token} {a b : List Piece} → Expression source Neg ts a
      → Expression source And us b → Expression source Conj (ts ++ us) (a ++ b)
  no_and : Expression source And [] []
  and : (t : Token) {ts us : List Token} {a b : List Piece} → Is (term.Just kind.And) t
      → Expression source Neg ts a → Expression source And us b
      → Expression source And (t ∷ (ts ++ us)) (a ++ (piece.Binary (sign_of t.kind) t.span ∷ b))
  -- neg = "not" neg | cmp
  not : (t : Token) {ts : List Token} {a : List Piece} → Is (term.Just kind.Not) t
      → Expression source Neg ts a → Expression source Neg (t ∷ ts) (a ++ (piece.Not t.span ∷ []))
  neg : {ts : List Token} {a : List Piece} → Expression source Cmp ts a → Expression source Neg ts a
  -- cmp = sum [ ("==" | "!=" | "<" | "<=" | ">" | ">=") sum ]
  cmp : {ts us : List Token} {a b : List Piece} → Expression source Sum ts a
      → Expression source Comparison us b → Expression source Cmp (ts ++ us) (a ++ b)
  no_comparison : Expression source Comparison [] []
  comparison : (t : Token) {ts : List Token} {a : List Piece} → Is term.Comparison t
      → Expression source Sum ts a
      → Expression source Comparison (t ∷ ts) (a ++ (piece.Binary (sign_of t.kind) t.span ∷ []))
  -- sum = prod { ("+" | "-") prod }
  sum : {ts us : List Token} {a b : List Piece} → Expression source Prod ts a
      → Expression source Addition us b → Expression source Sum (ts ++ us) (a ++ b)
  no_addition : Expression source Addition [] []
  addition : (t : Token) {ts us : List Token} {a b : List Piece} → Is term.Addition t
      → Expression source Prod ts a → Expression source Addition us b
      → Expression source Addition (t ∷ (ts ++ us))
      (a ++ (piece.Binary (sign_of t.kind) t.span ∷ b))
  -- prod = fact { "*" fact }
  prod : {ts us : List Token} {a b : List Piece} → Expression source Fact ts a
      → Expression source Product us b → Expression source Prod (ts ++ us) (a ++ b)
  no_product : Expression source Product [] []
  product : (t : Token) {ts us : List Token} {a b : List Piece} → Is (term.Just kind.Times) t
      → Expression source Fact ts a → Expression source Product us b
      → Expression source Product (t ∷ (ts ++ us)) (a ++ (piece.Binary (sign_of t.kind) t.span ∷ b))
  -- fact = INT | TEXT | "true" | "false" | NAME | NAME "." WORD | "(" expr ")" | "-" fact
  literal : (t : Token) → Is term.Literal t
      → Expression source Fact (t ∷ []) (literal_of source t ∷ [])
  name : (n : Token) → Is (term.Just kind.Name) n
      → Expression source Fact (n ∷ []) (piece.Name (name_of source n) ∷ [])
  slot : (n d w : Token) → Is (term.Just kind.Name) n → Is (term.Just kind.Dot) d → Is term.Word w
      → Expression source Fact (n ∷ d ∷ w ∷ [])
      (piece.Slot (name_of source n) (name_of source w) ∷ [])
  parens : (o c : Token) {ts : List Token} {a : List Piece} → Is (term.Just kind.LeftParen) o
      → Expression source Expr ts a → Is (term.Just kind.RightParen) c
      → Expression source Fact (o ∷ (ts ++ c ∷ [])) a
  minus : (t : Token) {ts : List Token} {a : List Piece} → Is (term.Just kind.Minus) t → Expression
      source Fact ts a → Expression source Fact (t ∷ ts) (a ++ (piece.Minus t.span ∷ []))

-- params = "(" [ param { "," param } ] ")"
-- param = ("in" | "out") NAME ":" WORD
pub data IsParam (source : List ℕ) : List Token → Param → Type 0 where
  param : (d n c w : Token) → Is term.Direction d → Is (term.Just kind.Name) n
      → Is (term.Just kind.Colon) c → Is term.Word w
      → IsParam source (d ∷ n ∷ c ∷ w ∷ [])
      (record {
        direction = direction_of d.kind;
        name = name_of source n;
        kind = name_of source w;
      })

pub data IsParams (source : List ℕ) : List Token → List Param → Type 0 where
  params : (o c : Token) {ts : List Token} {ps : List Param} → Is (term.Just kind.LeftParen) o
      → Separated (IsParam source) (term.Just kind.Comma) ts ps → Is (term.Just kind.RightParen) c
      → IsParams source (o ∷ (ts ++ c ∷ [])) ps

-- elem = "node" NAME ":" WORD | "edge" NAME "->" NAME ":" WORD
pub data IsElement (source : List ℕ) : List Token → Element → Type 0 where
  node : (k n c w : Token) → Is (term.Just kind.Node) k → Is (term.Just kind.Name) n
      → Is (term.Just kind.Colon) c → Is term.Word w
      → IsElement source (k ∷ n ∷ c ∷ w ∷ []) (element.Node (name_of source n) (name_of source w))
  edge : (k n a m c w : Token) → Is (term.Just kind.Edge) k → Is (term.Just kind.Name) n
      → Is (term.Just kind.Arrow) a → Is (term.Just kind.Name) m → Is (term.Just kind.Colon) c
      → Is term.Word w
      → IsElement source (k ∷ n ∷ a ∷ m ∷ c ∷ w ∷ [])
      (element.Edge (name_of source n) (name_of source m) (name_of source w))

-- simple = ("preserve" | "create" | "delete") elem ";" | "set" NAME "." WORD "=" expr ";" | "where"
-- expr ";"
pub data IsSimple (source : List ℕ) : List Token → Simple → Type 0 where
  mark_element : (m s : Token) {ts : List Token} {e : Element} → Is term.Mark m
      → IsElement source ts e → Is (term.Just kind.Semicolon) s
      → IsSimple source (m ∷ (ts ++ s ∷ [])) (simple.Marked (mark_of m.kind) e)
  set : (k n d w a s : Token) (e : NameExpr) {ts : List Token} → Is (term.Just kind.Set) k
      → Is (term.Just kind.Name) n → Is (term.Just kind.Dot) d → Is term.Word w
      → Is (term.Just kind.Assign) a
      → Expression source Expr ts e.pieces → Is (term.Just kind.Semicolon) s
      → IsSimple source (k ∷ n ∷ d ∷ w ∷ a ∷ (ts ++ s ∷ []))
      (simple.Set (name_of source n) (name_of source w) e)
  test : (k s : Token) (e : NameExpr) {ts : List Token} → Is (term.Just kind.Where) k
      → Expression source Expr ts e.pieces → Is (term.Just kind.Semicolon) s
      → IsSimple source (k ∷ (ts ++ s ∷ [])) (simple.Where k.span e)

-- { elem ";" }
abbrev pub Elements : List ℕ → List Token → List Element → Type 0
Elements source = Many (Before (IsElement source) (term.Just kind.Semicolon))

-- item = simple | ("forbid" | "require") "{" { elem ";" } "}" | "multi" "{" { simple } "}"
pub data IsItem (source : List ℕ) : List Token → Item → Type 0 where
  simple_item : {ts : List Token} {s : Simple} → IsSimple source ts s
      → IsItem source ts (item.Simple s)
  forbid : (k o c : Token) {ts : List Token} {es : List Element} → Is (term.Just kind.Forbid) k
      → Is (term.Just kind.LeftBrace) o → Elements source ts es → Is (term.Just kind.RightBrace) c
      → IsItem source (k ∷ o ∷ (ts ++ c ∷ [])) (item.Forbid es)
  require : (k o c : Token) {ts : List Token} {es : List Element} → Is (term.Just kind.Require) k
      → Is (term.Just kind.LeftBrace) o → Elements source ts es → Is (term.Just kind.RightBrace) c
      → IsItem source (k ∷ o ∷ (ts ++ c ∷ [])) (item.Require es)
  multi : (k o c : Token) {ts : List Token} {ss : List Simple} → Is (term.Just kind.Multi) k → Is
      (term.Just kind.LeftBrace) o → Many (IsSimple source) ts ss → Is (term.Just kind.RightBrace) c
      → IsItem source (k ∷ o ∷ (ts ++ c ∷ [])) (item.Multi ss)

-- atom = INT | "-" INT | TEXT | "true" | "false" | NAME
pub data IsAtom (source : List ℕ) : List Token → Atom → Type 0 where
  value : (t : Token) → Is term.Atom t → IsAtom source (t ∷ []) (atom_of source t)
  negative : (m t : Token) → Is (term.Just kind.Minus) m → Is (term.Just kind.Int) t
      → IsAtom source (m ∷ t ∷ []) (atom.Int true t.number t.span)

-- bind = NAME "=" atom | NAME ">" NAME
pub data IsBind (source : List ℕ) : List Token → Bind → Type 0 where
  give : (n e : Token) {ts : List Token} {a : Atom} → Is (term.Just kind.Name) n
      → Is (term.Just kind.Assign) e → IsAtom source ts a
      → IsBind source (n ∷ e ∷ ts) (bind.Give (name_of source n) a)
  take : (n g v : Token) → Is (term.Just kind.Name) n → Is (term.Just kind.Greater) g
      → Is (term.Just kind.Name) v
      → IsBind source (n ∷ g ∷ v ∷ []) (bind.Take (name_of source n) (name_of source v))

-- call = NAME "(" [ bind { "," bind } ] ")"
pub data IsCall (source : List ℕ) : List Token → Call → Type 0 where
  call : (n o c : Token) {ts : List Token} {bs : List Bind} → Is (term.Just kind.Name) n
      → Is (term.Just kind.LeftParen) o → Separated (IsBind source) (term.Just kind.Comma) ts bs
      → Is (term.Just kind.RightParen) c
      → IsCall source (n ∷ o ∷ (ts ++ c ∷ [])) (record { callee = name_of source n; binds = bs })

-- call ";"
abbrev pub CallThen : List ℕ → List Token → Call → Type 0
CallThen source = Before (IsCall source) (term.Just kind.Semicolon)

-- body = ("sequential" | "independent" | "priority") "{" { call ";" } "}"
--      | "conditional" "{" "if" call ";" "then" call ";" [ "else" call ";" ] "}"
--      | "loop" "{" call ";" "}" | "iterated" count "{" call ";" "}"
-- count = INT | NAME
pub data IsBody (source : List ℕ) : List Token → Body → Type 0 where
  call_list : (k o c : Token) {ts : List Token} {cs : List Call} → Is term.Order k → Is
      (term.Just kind.LeftBrace) o → Many (CallThen source) ts cs → Is (term.Just kind.RightBrace) c
      → IsBody source (k ∷ o ∷ (ts ++ c ∷ [])) (list_body k.kind cs)
  conditional : (k o i h c : Token) {ts us vs : List Token} {a b : Call} {e : Option Call}
      → Is (term.Just kind.Conditional) k → Is (term.Just kind.LeftBrace) o
      → Is (term.Just kind.If) i → CallThen source ts a → Is (term.Just kind.Then) h
      → CallThen source us b → Optional (After (term.Just kind.Else) (CallThen source)) vs e
      → Is (term.Just kind.RightBrace) c
      → IsBody source (k ∷ o ∷ i ∷ (ts ++ (h ∷ (us ++ (vs ++ c ∷ []))))) (body.Conditional a b e)
  loop : (k o c : Token) {ts : List Token} {a : Call} → Is (term.Just kind.Loop) k
      → Is (term.Just kind.LeftBrace) o → CallThen source ts a → Is (term.Just kind.RightBrace) c
      → IsBody source (k ∷ o ∷ (ts ++ c ∷ [])) (body.Loop a)
  iterated : (k n o c : Token) {ts : List Token} {a : Call} → Is (term.Just kind.Iterated) k
      → Is term.Count n → Is (term.Just kind.LeftBrace) o → CallThen source ts a
      → Is (term.Just kind.RightBrace) c
      → IsBody source (k ∷ n ∷ o ∷ (ts ++ c ∷ [])) (body.Iterated (count_of source n) a)

-- rule = "rule" NAME params "{" { item } "}"
-- unit = "unit" NAME params body
pub data IsDefinition (source : List ℕ) : List Token → Definition → Type 0 where
  rule : (k n o c : Token) {ts us : List Token} {ps : List Param} {is : List Item}
      → Is (term.Just kind.Rule) k → Is (term.Just kind.Name) n → IsParams source ts ps
      → Is (term.Just kind.LeftBrace) o → Many (IsItem source) us is
      → Is (term.Just kind.RightBrace) c
      → IsDefinition source (k ∷ n ∷ (ts ++ (o ∷ (us ++ c ∷ []))))
      (definition.Rule (record { name = name_of source n; params = ps; items = is }))
  unit : (k n : Token) {ts us : List Token} {ps : List Param} {b : Body} → Is (term.Just kind.Unit)
      k → Is (term.Just kind.Name) n → IsParams source ts ps → IsBody source us b
      → IsDefinition source (k ∷ n ∷ (ts ++ us))
      (definition.Unit (record { name = name_of source n; params = ps; body = b }))

-- text = { rule | unit }
abbrev pub IsText : List ℕ → List Token → List Definition → Type 0
IsText source = Many (IsDefinition source)
