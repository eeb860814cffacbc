-- What is made of the tokens that the grammar takes.
use Rattle.std.specs.Prelude.{ℕ, List, [], ◌∷◌, ◌++◌, reverse, Option, Some, None, true, pos}
use Rattle.hs_expr.specs.declared.Piece.{Piece}
use Rattle.hs_expr.specs.declared.Piece.TheVariants as piece
use Rattle.hs_expr.specs.declared.NameExpr.{NameExpr}
use Rattle.hs_expr.specs.NameExprs.{name_expr}
use Rattle.hs_tokens.specs.declared.token.Kind.TheVariants as kind
use Rattle.hs_tokens.specs.declared.token.Token.{Token}
use Rattle.hs_text.specs.declared.grammar.Action.{Action}
use Rattle.hs_text.specs.declared.grammar.Action.TheVariants as action
use Rattle.hs_text.specs.declared.syntax.Element.{Element}
use Rattle.hs_text.specs.declared.syntax.Element.TheVariants as element
use Rattle.hs_text.specs.declared.syntax.Simple.{Simple}
use Rattle.hs_text.specs.declared.syntax.Simple.TheVariants as simple
use Rattle.hs_text.specs.declared.syntax.Item.TheVariants as item
use Rattle.hs_text.specs.declared.syntax.Atom.{Atom}
use Rattle.hs_text.specs.declared.syntax.Atom.TheVariants as atom
use Rattle.hs_text.specs.declared.syntax.Bind.TheVariants as bind
use Rattle.hs_text.specs.declared.syntax.Call.{Call}
use Rattle.hs_text.specs.declared.syntax.Body.{Body}
use Rattle.hs_text.specs.declared.syntax.Body.TheVariants as body
use Rattle.hs_text.specs.declared.syntax.Definition.TheVariants as definition
use Rattle.hs_text.specs.declared.builder.Builder.{Builder}
use Rattle.hs_text.specs.Words.{name_of, direction_of, mark_of, sign_of, literal_of, atom_of, count_of, list_body}

-- A token of no text.
abbrev pub no_token : Token
no_token = record {
  kind = kind.Name;
  number = pos 0;
  span = record { start = 0; end = 0; line = 0; column = 0 };
}

abbrev pub top : List Token → Token
top [] = no_token
top (t ∷ ts) = t

abbrev pub below : List Token → List Token
below [] = []
below (t ∷ ts) = ts

-- The builder with one token more.
abbrev pub with_token : Token → Builder → Builder
with_token t b = record b { held = t ∷ b.held }

-- The last three tokens that it holds, and the tokens below them.
abbrev pub last_token : Builder → Token
last_token b = top b.held

abbrev pub last_but_one : Builder → Token
last_but_one b = top (below b.held)

abbrev pub last_but_two : Builder → Token
last_but_two b = top (below (below b.held))

abbrev pub below_one : Builder → List Token
below_one b = below b.held

abbrev pub below_two : Builder → List Token
below_two b = below (below b.held)

abbrev pub below_three : Builder → List Token
below_three b = below (below (below b.held))

abbrev pub simple_of_element : Builder → List Element → Builder
simple_of_element b [] = record b { held = below_one b; elements = [] }
simple_of_element b (e ∷ es) =
    record b {
      held = below_one b;
      elements = es;
      simples = simple.Marked (mark_of (last_token b).kind) e ∷ b.simples;
    }

abbrev pub item_of_simple : Builder → List Simple → Builder
item_of_simple b [] = record b { simples = [] }
item_of_simple b (s ∷ ss) = record b { simples = ss; items = b.items ++ item.Simple s ∷ [] }

-- One unit more, of the name that is held and the parameters that are there.
abbrev pub with_unit : List ℕ → Builder → Body → Builder
with_unit source b body =
    record b {
      held = below_one b;
      params = [];
      definitions = b.definitions ++ definition.Unit
          (record { name = name_of source (last_token b); params = b.params; body = body }) ∷ [];
    }

abbrev pub with_calls : Builder → List Call → Builder
with_calls b calls = record b { calls = calls }

abbrev pub conditional_unit : List ℕ → Builder → List Call → Builder
conditional_unit source b [] = record b { calls = [] }
conditional_unit source b (c ∷ []) = record b { calls = [] }
conditional_unit source b (c ∷ a ∷ calls) =
    with_unit source (with_calls b calls) (body.Conditional a c None)

abbrev pub alternative_unit : List ℕ → Builder → List Call → Builder
alternative_unit source b [] = record b { calls = [] }
alternative_unit source b (c ∷ []) = record b { calls = [] }
alternative_unit source b (c ∷ d ∷ []) = record b { calls = [] }
alternative_unit source b (c ∷ d ∷ a ∷ calls) =
    with_unit source (with_calls b calls) (body.Conditional a d (Some c))

abbrev pub loop_unit : List ℕ → Builder → List Call → Builder
loop_unit source b [] = record b { calls = [] }
loop_unit source b (c ∷ calls) = with_unit source (with_calls b calls) (body.Loop c)

abbrev pub iterated_unit : List ℕ → Builder → List Call → Builder
iterated_unit source b [] = record b { calls = [] }
iterated_unit source b (c ∷ calls) =
    with_unit source (record b { held = below_one b; calls = calls })
    (body.Iterated (count_of source (last_token b)) c)

abbrev pub with_piece : Piece → List Token → Builder → Builder
with_piece p held b = record b { held = held; pieces = b.pieces ++ p ∷ [] }

-- One bind more: a value for a parameter.
abbrev pub with_value : List ℕ → Builder → Token → List Token → Atom → Builder
with_value source b parameter held value =
    record b { held = held; binds = b.binds ++ bind.Give (name_of source parameter) value ∷ [] }

-- The pieces are an expression, which is assigned or tested.
abbrev pub with_set : List ℕ → Builder → Option NameExpr → Builder
with_set source b None = record b { held = below_two b; pieces = [] }
with_set source b (Some e) =
    record b {
      held = below_two b;
      pieces = [];
      simples = simple.Set
          (name_of source (last_but_one b)) (name_of source (last_token b)) e ∷ b.simples;
    }

abbrev pub with_test : Builder → Option NameExpr → Builder
with_test b None = record b { held = below_one b; pieces = [] }
with_test b (Some e) =
    record b {
      held = below_one b;
      pieces = [];
      simples = simple.Where (last_token b).span e ∷ b.simples;
    }

-- The builder after an action.
abbrev pub builder_after : List ℕ → Action → Builder → Builder
builder_after source action.Rule b =
    record b {
      held = below_one b;
      params = [];
      items = [];
      definitions = b.definitions ++ definition.Rule
          (record { name = name_of source (last_token b); params = b.params; items = b.items })
          ∷ [];
    }
builder_after source action.Param b =
    record b {
      held = below_three b;
      params = b.params ++ record {
        direction = direction_of (last_but_two b).kind;
        name = name_of source (last_but_one b);
        kind = name_of source (last_token b);
      } ∷ [];
    }
builder_after source action.Plain b = item_of_simple b b.simples
builder_after source action.Forbid b =
    record b { elements = []; items = b.items ++ item.Forbid (reverse b.elements) ∷ [] }
builder_after source action.Require b =
    record b { elements = []; items = b.items ++ item.Require (reverse b.elements) ∷ [] }
builder_after source action.Multi b =
    record b { simples = []; items = b.items ++ item.Multi (reverse b.simples) ∷ [] }
builder_after source action.Marked b = simple_of_element b b.elements
builder_after source action.Set b = with_set source b (name_expr b.pieces)
builder_after source action.Where b = with_test b (name_expr b.pieces)
builder_after source action.Node b =
    record b {
      held = below_two b;
      elements = element.Node (name_of source (last_but_one b))
          (name_of source (last_token b)) ∷ b.elements;
    }
builder_after source action.Edge b =
    record b {
      held = below_three b;
      elements = element.Edge (name_of source (last_but_two b))
          (name_of source (last_but_one b)) (name_of source (last_token b)) ∷ b.elements;
    }
builder_after source action.Binary b =
    with_piece (piece.Binary (sign_of (last_token b).kind) (last_token b).span) (below_one b) b
builder_after source action.Not b = with_piece (piece.Not (last_token b).span) (below_one b) b
builder_after source action.Minus b = with_piece (piece.Minus (last_token b).span) (below_one b) b
builder_after source action.Literal b =
    with_piece (literal_of source (last_token b)) (below_one b) b
builder_after source action.Name b =
    with_piece (piece.Name (name_of source (last_token b))) (below_one b) b
builder_after source action.Slot b =
    with_piece (piece.Slot (name_of source (last_but_one b)) (name_of source (last_token b)))
    (below_two b) b
builder_after source action.Listed b =
    with_unit source (record b { held = below_one b; calls = [] })
    (list_body (last_token b).kind (reverse b.calls))
builder_after source action.If b = conditional_unit source b b.calls
builder_after source action.IfElse b = alternative_unit source b b.calls
builder_after source action.Loop b = loop_unit source b b.calls
builder_after source action.Iterated b = iterated_unit source b b.calls
builder_after source action.Call b =
    record b {
      held = below_one b;
      binds = [];
      calls = record { callee = name_of source (last_token b); binds = b.binds } ∷ b.calls;
    }
builder_after source action.Variable b =
    record b {
      held = below_two b;
      binds = b.binds
          ++ bind.Take (name_of source (last_but_one b)) (name_of source (last_token b)) ∷ [];
    }
builder_after source action.Atom b =
    with_value source b (last_but_one b) (below_two b) (atom_of source (last_token b))
builder_after source action.MinusAtom b =
    with_value source b (last_but_one b) (below_two b)
    (atom.Int true (last_token b).number (last_token b).span)

-- Nothing is made yet.
abbrev pub no_builder : Builder
no_builder = record {
  held = [];
  definitions = [];
  params = [];
  items = [];
  elements = [];
  simples = [];
  pieces = [];
  calls = [];
  binds = [];
}
