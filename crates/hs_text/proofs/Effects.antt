use Rattle.std.proofs.Common.{ℕ, ◌≡◌, ◌⊎◌, List, [], ◌∷◌, ◌++◌, reverse, Option, Some, None, refl, ap, sym, ◌∙◌, append_assoc}
use Rattle.std.proofs.lemmas.List.{reverse-append, reverse-reverse, append-nil}
use Rattle.hs_expr.specs.declared.NameExpr.{NameExpr}
use Rattle.hs_expr.specs.NameExprs.{name_expr}
use Rattle.hs_expr.proofs.OneTree.{expr-found}
use Rattle.hs_expr.specs.declared.Piece.{Piece}
use Rattle.hs_tokens.specs.declared.token.Kind.TheVariants as kind
use Rattle.hs_tokens.specs.declared.token.Token.{Token}
use Rattle.hs_text.specs.declared.grammar.Part.{Part}
use Rattle.hs_text.specs.declared.grammar.Part.TheVariants as part
use Rattle.hs_text.specs.declared.grammar.Action.TheVariants as action
use Rattle.hs_text.specs.declared.grammar.Term.TheVariants as term
use Rattle.hs_text.specs.declared.syntax.Param.{Param}
use Rattle.hs_text.specs.declared.syntax.Element.{Element}
use Rattle.hs_text.specs.declared.syntax.Simple.{Simple}
use Rattle.hs_text.specs.declared.syntax.Simple.TheVariants as simple
use Rattle.hs_text.specs.declared.syntax.Item.{Item}
use Rattle.hs_text.specs.declared.syntax.Item.TheVariants as item
use Rattle.hs_text.specs.declared.syntax.Atom.{Atom}
use Rattle.hs_text.specs.declared.syntax.Bind.{Bind}
use Rattle.hs_text.specs.declared.syntax.Call.{Call}
use Rattle.hs_text.specs.declared.syntax.Body.{Body}
use Rattle.hs_text.specs.declared.syntax.Body.TheVariants as body
use Rattle.hs_text.specs.declared.syntax.Definition.{Definition}
use Rattle.hs_text.specs.declared.syntax.Definition.TheVariants as definition
use Rattle.hs_text.specs.declared.builder.Builder.{Builder}
use Rattle.hs_text.specs.Terms.{Is}
use Rattle.hs_text.specs.Words.{name_of, list_body, count_of}
use Rattle.hs_text.specs.Lists.{Many, Optional, After, Separated}
use Rattle.hs_text.specs.Grammar.{Level, Expr, Or, Conj, And, Neg, Cmp, Comparison, Sum, Addition, Prod, Product, Fact, Expression, IsParam, IsParams, IsElement, IsSimple, Elements, IsItem, IsAtom, IsBind, IsCall, CallThen, IsBody, IsDefinition, IsText}
use Rattle.hs_text.specs.Building.{with_token, builder_after, with_unit, with_value, last_token, below_one, with_set, with_test}

-- WHAT IS EMPTY BEFORE A PART

abbrev pub Scratch : Builder → Type 0
Scratch b = (b.elements ≡ []) × (b.simples ≡ []) × (b.pieces ≡ [])

abbrev pub Fresh : Builder → Type 0
Fresh b = (b.params ≡ []) × (b.items ≡ []) × (b.elements ≡ []) × (b.simples ≡ []) × (b.pieces ≡ []) × (b.calls ≡ []) × (b.binds ≡ [])

-- WHAT A PART MAKES OF THE BUILDER, with what it is the text of

abbrev pub Writes : List ℕ → Level → List Token → Builder → Builder → Type 0
Writes source l us b m = (ps : List Piece) × Expression source l us ps × (m ≡ record b { pieces = b.pieces ++ ps })

abbrev pub SlotEffect : List ℕ → List Token → Builder → Builder → Type 0
SlotEffect source us b m = ((us ≡ []) × (m ≡ builder_after source action.Name b))
    ⊎ ((d : Token) × (w : Token) × (us ≡ d ∷ w ∷ []) × Is (term.Just kind.Dot) d × Is term.Word w × (m ≡ builder_after source action.Slot (with_token w b)))

abbrev pub else_built : List ℕ → Builder → Option Call → Builder
else_built source b None = builder_after source action.If b
else_built source b (Some call) = builder_after source action.IfElse (record b { calls = call ∷ b.calls })

abbrev pub ElseEffect : List ℕ → List Token → Builder → Builder → Type 0
ElseEffect source us b m = (e : Option Call) × (vs : List Token) × (c : Token) × (us ≡ vs ++ c ∷ []) × Optional (After (term.Just kind.Else) (CallThen source)) vs e × Is (term.Just kind.RightBrace) c × (m ≡ else_built source b e)

abbrev pub ValueEffect : List ℕ → List Token → Builder → Builder → Type 0
ValueEffect source us b m = (a : Atom) × IsAtom source us a × (m ≡ with_value source b (last_token b) (below_one b) a)

abbrev pub BoundEffect : List ℕ → List Token → Builder → Builder → Type 0
BoundEffect source us b m = ((e : Token) × (vs : List Token) × (us ≡ e ∷ vs) × Is (term.Just kind.Assign) e × ValueEffect source vs b m)
    ⊎ ((g : Token) × (v : Token) × (us ≡ g ∷ v ∷ []) × Is (term.Just kind.Greater) g × Is (term.Just kind.Name) v × (m ≡ builder_after source action.Variable (with_token v b)))

abbrev pub Effect : List ℕ → Part → List Token → Builder → Builder → Type 0
Effect source part.Text us b m = Fresh b → (ds : List Definition) × IsText source us ds × (m ≡ record b { definitions = b.definitions ++ ds })
Effect source part.Definition us b m = Fresh b → (d : Definition) × IsDefinition source us d × (m ≡ record b { definitions = b.definitions ++ d ∷ [] })
Effect source part.Params us b m = (ps : List Param) × IsParams source us ps × (m ≡ record b { params = b.params ++ ps })
Effect source part.ParamList us b m = (ps : List Param) × Separated (IsParam source) (term.Just kind.Comma) us ps × (m ≡ record b { params = b.params ++ ps })
Effect source part.ParamsTail us b m = (ps : List Param) × Many (After (term.Just kind.Comma) (IsParam source)) us ps × (m ≡ record b { params = b.params ++ ps })
Effect source part.Param us b m = (p : Param) × IsParam source us p × (m ≡ record b { params = b.params ++ p ∷ [] })
Effect source part.Items us b m = Scratch b → (is : List Item) × Many (IsItem source) us is × (m ≡ record b { items = b.items ++ is })
Effect source part.Item us b m = Scratch b → (i : Item) × IsItem source us i × (m ≡ record b { items = b.items ++ i ∷ [] })
Effect source part.Elements us b m = (es : List Element) × Elements source us es × (m ≡ record b { elements = reverse es ++ b.elements })
Effect source part.Simples us b m = b.pieces ≡ [] → (ss : List Simple) × Many (IsSimple source) us ss × (m ≡ record b { simples = reverse ss ++ b.simples })
Effect source part.Simple us b m = b.pieces ≡ [] → (s : Simple) × IsSimple source us s × (m ≡ record b { simples = s ∷ b.simples })
Effect source part.Element us b m = (e : Element) × IsElement source us e × (m ≡ record b { elements = e ∷ b.elements })
Effect source part.Expr us b m = Writes source Expr us b m
Effect source part.OrTail us b m = Writes source Or us b m
Effect source part.Conj us b m = Writes source Conj us b m
Effect source part.AndTail us b m = Writes source And us b m
Effect source part.Neg us b m = Writes source Neg us b m
Effect source part.Cmp us b m = Writes source Cmp us b m
Effect source part.CmpTail us b m = Writes source Comparison us b m
Effect source part.Sum us b m = Writes source Sum us b m
Effect source part.SumTail us b m = Writes source Addition us b m
Effect source part.Prod us b m = Writes source Prod us b m
Effect source part.ProdTail us b m = Writes source Product us b m
Effect source part.Fact us b m = Writes source Fact us b m
Effect source part.Slot us b m = SlotEffect source us b m
Effect source part.Body us b m = b.calls ≡ [] → b.binds ≡ [] → (y : Body) × IsBody source us y × (m ≡ with_unit source b y)
Effect source part.Else us b m = b.binds ≡ [] → ElseEffect source us b m
Effect source part.Calls us b m = b.binds ≡ [] → (cs : List Call) × Many (CallThen source) us cs × (m ≡ record b { calls = reverse cs ++ b.calls })
Effect source part.Call us b m = b.binds ≡ [] → (c : Call) × IsCall source us c × (m ≡ record b { calls = c ∷ b.calls })
Effect source part.BindList us b m = (bs : List Bind) × Separated (IsBind source) (term.Just kind.Comma) us bs × (m ≡ record b { binds = b.binds ++ bs })
Effect source part.BindsTail us b m = (bs : List Bind) × Many (After (term.Just kind.Comma) (IsBind source)) us bs × (m ≡ record b { binds = b.binds ++ bs })
Effect source part.Bind us b m = (x : Bind) × IsBind source us x × (m ≡ record b { binds = b.binds ++ x ∷ [] })
Effect source part.Bound us b m = BoundEffect source us b m
Effect source part.Value us b m = ValueEffect source us b m

-- WHAT ACTIONS MAKE OF LISTS THAT WERE EMPTY

pub rev-more : {A : Type 0} (x : A) (xs ys : List A) → reverse xs ++ (x ∷ ys) ≡ reverse (x ∷ xs) ++ ys
rev-more x xs ys = sym (ap (λ z. z ++ ys) (reverse-append (x ∷ []) xs) ∙ append_assoc (reverse xs) (x ∷ []) ys)

pub rev-all : {A : Type 0} (xs : List A) → reverse (reverse xs ++ []) ≡ xs
rev-all xs = ap reverse (append-nil (reverse xs)) ∙ reverse-reverse xs

pub forbid-same : (source : List ℕ) (b : Builder) (es : List Element) → b.elements ≡ [] → builder_after source action.Forbid (record b { elements = reverse es ++ b.elements }) ≡ record b { items = b.items ++ item.Forbid es ∷ [] }
forbid-same source b es h = rw (h, rev-all es) refl

pub require-same : (source : List ℕ) (b : Builder) (es : List Element) → b.elements ≡ [] → builder_after source action.Require (record b { elements = reverse es ++ b.elements }) ≡ record b { items = b.items ++ item.Require es ∷ [] }
require-same source b es h = rw (h, rev-all es) refl

pub multi-same : (source : List ℕ) (b : Builder) (ss : List Simple) → b.simples ≡ [] → builder_after source action.Multi (record b { simples = reverse ss ++ b.simples }) ≡ record b { items = b.items ++ item.Multi ss ∷ [] }
multi-same source b ss h = rw (h, rev-all ss) refl

pub set-same : (source : List ℕ) (b : Builder) (n w : Token) (e : NameExpr) → b.pieces ≡ [] → builder_after source action.Set (record (with_token w (with_token n b)) { pieces = b.pieces ++ e.pieces }) ≡ record b { simples = simple.Set (name_of source n) (name_of source w) e ∷ b.simples }
set-same source b n w e h =
    ap (with_set source (record (with_token w (with_token n b)) { pieces = b.pieces ++ e.pieces })) (ap (λ ps. name_expr (ps ++ e.pieces)) h ∙ expr-found e)
    ∙ ap (λ ps. record b { pieces = ps; simples = simple.Set (name_of source n) (name_of source w) e ∷ b.simples }) (sym h)

pub where-same : (source : List ℕ) (b : Builder) (k : Token) (e : NameExpr) → b.pieces ≡ [] → builder_after source action.Where (record (with_token k b) { pieces = b.pieces ++ e.pieces }) ≡ record b { simples = simple.Where k.span e ∷ b.simples }
where-same source b k e h =
    ap (with_test (record (with_token k b) { pieces = b.pieces ++ e.pieces })) (ap (λ ps. name_expr (ps ++ e.pieces)) h ∙ expr-found e)
    ∙ ap (λ ps. record b { pieces = ps; simples = simple.Where k.span e ∷ b.simples }) (sym h)

pub rule-same : (source : List ℕ) (b : Builder) (n : Token) (ps : List Param) (is : List Item) → b.params ≡ [] → b.items ≡ []
    → builder_after source action.Rule (record (with_token n b) { params = b.params ++ ps; items = b.items ++ is }) ≡ record b { definitions = b.definitions ++ definition.Rule (record { name = name_of source n; params = ps; items = is }) ∷ [] }
rule-same source b n ps is h i = rw (h, i) refl

pub unit-same : (source : List ℕ) (b : Builder) (n : Token) (ps : List Param) (y : Body) → b.params ≡ []
    → with_unit source (record (with_token n b) { params = b.params ++ ps }) y ≡ record b { definitions = b.definitions ++ definition.Unit (record { name = name_of source n; params = ps; body = y }) ∷ [] }
unit-same source b n ps y h = rw h refl

pub call-same : (source : List ℕ) (b : Builder) (n : Token) (bs : List Bind) → b.binds ≡ [] → builder_after source action.Call (record (with_token n b) { binds = b.binds ++ bs }) ≡ record b { calls = record { callee = name_of source n; binds = bs } ∷ b.calls }
call-same source b n bs h = rw h refl

pub listed-same : (source : List ℕ) (b : Builder) (k : Token) (cs : List Call) → b.calls ≡ [] → builder_after source action.Listed (record (with_token k b) { calls = reverse cs ++ b.calls }) ≡ with_unit source b (list_body k.kind cs)
listed-same source b k cs h = rw (h, rev-all cs) refl

pub else-same : (source : List ℕ) (b : Builder) (a c : Call) (e : Option Call) → else_built source (record b { calls = c ∷ a ∷ b.calls }) e ≡ with_unit source b (body.Conditional a c e)
else-same source b a c None = refl
else-same source b a c (Some d) = refl

-- expressions: the pieces of one after those of another
pub no-pieces : (b : Builder) → b ≡ record b { pieces = b.pieces ++ [] }
no-pieces b = ap (λ x. record b { pieces = x }) (sym (append-nil b.pieces))

pub then-pieces : (b : Builder) (ps qs : List Piece) → record b { pieces = (b.pieces ++ ps) ++ qs } ≡ record b { pieces = b.pieces ++ (ps ++ qs) }
then-pieces b ps qs = ap (λ x. record b { pieces = x }) (append_assoc b.pieces ps qs)

pub chain-pieces : (b : Builder) (ps qs : List Piece) (p : Piece) → record b { pieces = ((b.pieces ++ ps) ++ p ∷ []) ++ qs } ≡ record b { pieces = b.pieces ++ (ps ++ (p ∷ qs)) }
chain-pieces b ps qs p = ap (λ x. record b { pieces = x }) (append_assoc (b.pieces ++ ps) (p ∷ []) qs ∙ append_assoc b.pieces ps (p ∷ qs))
