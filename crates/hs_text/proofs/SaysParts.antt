use Rattle.std.proofs.Common.{ℕ, ◌≡◌, List, [], ◌∷◌, ◌++◌, map, true, codes, refl, ap, sym, subst, ◌∙◌, append_assoc}
use Rattle.std.specs.List.{AllByRecursion, flat_map}
use Rattle.hs_expr.specs.declared.Name.{Name}
use Rattle.hs_expr.specs.declared.NameExpr.{NameExpr}
use Rattle.hs_expr.specs.declared.Piece.{Piece}
use Rattle.hs_tokens.specs.declared.token.Kind.TheVariants as kind
use Rattle.hs_tokens.specs.declared.token.Token.{Token}
use Rattle.hs_text.specs.declared.grammar.Term.TheVariants as term
use Rattle.hs_text.specs.declared.syntax.Direction.{Direction}
use Rattle.hs_text.specs.declared.syntax.Direction.TheVariants as direction
use Rattle.hs_text.specs.declared.syntax.Param.{Param}
use Rattle.hs_text.specs.declared.syntax.Mark as marking
use Rattle.hs_text.specs.declared.syntax.Mark.TheVariants as mark
use Rattle.hs_text.specs.declared.syntax.Element.{Element}
use Rattle.hs_text.specs.declared.syntax.Element.TheVariants as element
use Rattle.hs_text.specs.declared.syntax.Simple.{Simple}
use Rattle.hs_text.specs.declared.syntax.Simple.TheVariants as simple
use Rattle.hs_text.specs.declared.syntax.Item.{Item}
use Rattle.hs_text.specs.declared.syntax.Item.TheVariants as item
use Rattle.hs_text.specs.Terms.{Is}
use Rattle.hs_text.specs.Words.{name_of, direction_of, mark_of}
use Rattle.hs_text.specs.Lists.{Many, Before, Separated}
use Rattle.hs_text.specs.Grammar.{Expr, Expression, IsParam, param, IsParams, params, IsElement, node, edge, IsSimple, mark_element, set, test, IsItem, simple_item, forbid, require, multi}
use Rattle.hs_text.specs.WellFormed.{IsWord, IsName, IsParamFine, IsElementFine, IsSimpleFine, IsItemFine}
use Rattle.hs_text.specs.Canonical.{direction_text, param_text, params_text, mark_text, element_text, simple_text, element_line, simple_line, item_text}
use Rattle.hs_text.specs.Unplaced.{nowhere, unplaced_name, unplaced_piece, unplaced_expr, unplaced_param, unplaced_element, unplaced_simple, unplaced_item, unplaced_expr}
use Rattle.hs_text.proofs.Marks.{Mark, Lexeme, Blank, spelled, words, IsSpaced, stops, sign-mark, spaced-mark, word-mark, blank-mark, IsSpelled, Spells, and_token}
use Rattle.hs_text.proofs.Says.{Read, Says, term-is, name-is, word-is, same-name}
use Rattle.hs_expr.proofs.OneTree.{record_of, same-expr}
use Rattle.hs_text.proofs.Expressions.{expression-one}
use Rattle.hs_text.proofs.SaysExpr.{expr_marks, says-expr}
use Rattle.hs_text.proofs.SaysLists.{One, Two, SaysLine, semicolon, spaces, margin, ended, end-spaced, lines_marks, commas_marks, Braced, brace, braced_marks, says-ended, says-indented, says-lines, says-commas, says-braced}

-- THE PARTS OF A RULE

abbrev pub lit : List ℕ → Mark
lit cs = Lexeme cs cs

abbrev pub param_marks : Param → List Mark → List Mark
param_marks p rest = lit (direction_text p.direction) ∷ Blank 32 ∷ lit p.name.text ∷ lit (codes ":") ∷ Blank 32 ∷ lit p.kind.text ∷ rest

abbrev pub params_marks : List Param → List Mark → List Mark
params_marks ps rest = lit (codes "(") ∷ commas_marks param_marks ps (lit (codes ")") ∷ rest)

abbrev pub element_marks : Element → List Mark → List Mark
element_marks (element.Node n c) rest = lit (codes "node") ∷ Blank 32 ∷ lit n.text ∷ lit (codes ":") ∷ Blank 32 ∷ lit c.text ∷ rest
element_marks (element.Edge s t r) rest = lit (codes "edge") ∷ Blank 32 ∷ lit s.text ∷ Blank 32 ∷ lit (codes "->") ∷ Blank 32 ∷ lit t.text ∷ lit (codes ":") ∷ Blank 32 ∷ lit r.text ∷ rest

abbrev pub simple_marks : Simple → List Mark → List Mark
simple_marks (simple.Marked m e) rest = lit (mark_text m) ∷ Blank 32 ∷ ended (element_marks e) rest
simple_marks (simple.Set n a v) rest = lit (codes "set") ∷ Blank 32 ∷ lit n.text ∷ lit (codes ".") ∷ lit a.text ∷ Blank 32 ∷ lit (codes "=") ∷ Blank 32 ∷ ended (expr_marks v) rest
simple_marks (simple.Where w v) rest = lit (codes "where") ∷ Blank 32 ∷ ended (expr_marks v) rest

-- a name and what its kind is
abbrev typed : Name → Name → List Mark → List Mark
typed n c rest = lit n.text ∷ lit (codes ":") ∷ Blank 32 ∷ lit c.text ∷ rest

typed-spaced : (n c : Name) (rest : List Mark) → IsName n → IsWord c → stops (spelled rest) ≡ true → IsSpaced rest → IsSpaced (typed n c rest)
typed-spaced n c rest h k t s = word-mark n.text (lit (codes ":") ∷ Blank 32 ∷ lit c.text ∷ rest) h.0 refl (spaced-mark (codes ":") (lit c.text ∷ rest) refl refl refl (λ m. refl) (word-mark c.text rest k t s))

direction-spaced : (d : Direction) (ms : List Mark) → IsSpaced ms → IsSpaced (lit (direction_text d) ∷ Blank 32 ∷ ms)
direction-spaced direction.In ms s = spaced-mark (codes "in") ms refl refl refl (λ m. refl) s
direction-spaced direction.Out ms s = spaced-mark (codes "out") ms refl refl refl (λ m. refl) s

mark-spaced : (m : marking.Mark) (ms : List Mark) → IsSpaced ms → IsSpaced (lit (mark_text m) ∷ Blank 32 ∷ ms)
mark-spaced mark.Preserve ms s = spaced-mark (codes "preserve") ms refl refl refl (λ m. refl) s
mark-spaced mark.Create ms s = spaced-mark (codes "create") ms refl refl refl (λ m. refl) s
mark-spaced mark.Delete ms s = spaced-mark (codes "delete") ms refl refl refl (λ m. refl) s

module _ (source : List ℕ) where
  direction-is : (d : Direction) (t : Token) → IsSpelled source (direction_text d) t → Is term.Direction t × (direction_of t.kind ≡ d)
  direction-is direction.In t s = (term-is source term.Direction (codes "in") t s refl, ap direction_of s.kind)
  direction-is direction.Out t s = (term-is source term.Direction (codes "out") t s refl, ap direction_of s.kind)

  mark-is : (m : marking.Mark) (t : Token) → IsSpelled source (mark_text m) t → Is term.Mark t × (mark_of t.kind ≡ m)
  mark-is mark.Preserve t s = (term-is source term.Mark (codes "preserve") t s refl, ap mark_of s.kind)
  mark-is mark.Create t s = (term-is source term.Mark (codes "create") t s refl, ap mark_of s.kind)
  mark-is mark.Delete t s = (term-is source term.Mark (codes "delete") t s refl, ap mark_of s.kind)

  colon-is : (t : Token) → IsSpelled source (codes ":") t → Is (term.Just kind.Colon) t
  colon-is t s = term-is source (term.Just kind.Colon) (codes ":") t s refl

  param-read : (p : Param) (ws : List (List ℕ)) (ts : List Token) → IsParamFine p → Spells source (direction_text p.direction ∷ p.name.text ∷ codes ":" ∷ p.kind.text ∷ ws) ts → Read source (IsParam source) unplaced_param p ws ts
  param-read p ws _ h (and_token _ d sd (and_token _ n sn (and_token _ c sc (and_token _ w sw {ts} r)))) =
      let k = direction-is p.direction d sd in record {
        front = d ∷ n ∷ c ∷ w ∷ [];
        back = ts;
        made = record { direction = direction_of d.kind; name = name_of source n; kind = name_of source w };
        whole = refl;
        left = r;
        is = param d n c w k.0 (name-is source p.name n h.0 sn) (colon-is c sc) (word-is source p.kind w h.1 sw);
        same = ap (λ (x : Direction). record { direction = x; name = unplaced_name (name_of source n); kind = unplaced_name (name_of source w) }) k.1
            ∙ ap (λ (x : Name). record { direction = p.direction; name = x; kind = unplaced_name (name_of source w) }) (same-name source p.name n h.0.0 sn)
            ∙ ap (λ (x : Name). record { direction = p.direction; name = unplaced_name p.name; kind = x }) (same-name source p.kind w h.1 sw);
      }

  says-param : (p : Param) → IsParamFine p → Says source (IsParam source) unplaced_param p (param_marks p) (param_text p)
  says-param p h = record {
    spaced = λ rest t s. direction-spaced p.direction (typed p.name p.kind rest) (typed-spaced p.name p.kind rest h.0 h.1 t s);
    text = λ rest. simp append_assoc;
    read = λ rest ts s. param-read p (words rest) ts h s;
  }

  params-closed : (ps made : List Param) (o : Token) (ws : List (List ℕ)) (front back : List Token) → IsSpelled source (codes "(") o → (Separated (IsParam source) (term.Just kind.Comma)) front made → map unplaced_param made ≡ map unplaced_param ps → Spells source (codes ")" ∷ ws) back → Read source (IsParams source) (map unplaced_param) ps ws (o ∷ (front ++ back))
  params-closed ps made o ws front _ so p w (and_token _ c s {ts} r) = record {
    front = o ∷ (front ++ c ∷ []);
    back = ts;
    made = made;
    whole = ap (λ z. o ∷ z) (sym (append_assoc front (c ∷ []) ts));
    left = r;
    is = params o c (term-is source (term.Just kind.LeftParen) (codes "(") o so refl) p (term-is source (term.Just kind.RightParen) (codes ")") c s refl);
    same = w;
  }

  params-read : (ps : List Param) (ws inner : List (List ℕ)) (ts : List Token) → ((us : List Token) → Spells source inner us → Read source (Separated (IsParam source) (term.Just kind.Comma)) (map unplaced_param) ps (codes ")" ∷ ws) us) → Spells source (codes "(" ∷ inner) ts → Read source (IsParams source) (map unplaced_param) ps ws ts
  params-read ps ws inner _ f (and_token _ o so {ts} r) =
      let q = f ts r in
      subst (λ z. Read source (IsParams source) (map unplaced_param) ps ws (o ∷ z)) (sym q.whole) (params-closed ps q.made o ws q.front q.back so q.is q.same q.left)

  pub says-params : (ps : List Param) → AllByRecursion IsParamFine ps → SaysLine source (IsParams source) (map unplaced_param) ps (params_marks ps) (params_text ps)
  says-params ps h =
      let w = says-commas source (IsParam source) unplaced_param IsParamFine param_marks param_text says-param ps h in record {
        spaced = λ rest s. sign-mark (codes "(") (commas_marks param_marks ps (lit (codes ")") ∷ rest)) refl refl refl (λ d m. refl) (w.spaced (lit (codes ")") ∷ rest) refl (sign-mark (codes ")") rest refl refl refl (λ d m. refl) s));
        text = λ rest. ap (λ z. codes "(" ++ z) (w.text (lit (codes ")") ∷ rest)) ∙ (simp append_assoc);
        read = λ rest ts s. params-read ps (words rest) (words (commas_marks param_marks ps (lit (codes ")") ∷ rest))) ts (λ us r. w.read (lit (codes ")") ∷ rest) us r) s;
      }

  node-read : (n c : Name) (ws : List (List ℕ)) (ts : List Token) → IsName n → IsWord c → Spells source (codes "node" ∷ n.text ∷ codes ":" ∷ c.text ∷ ws) ts → Read source (IsElement source) unplaced_element (element.Node n c) ws ts
  node-read n c ws _ h k (and_token _ a sa (and_token _ x sx (and_token _ d sd (and_token _ w sw {ts} r)))) = record {
    front = a ∷ x ∷ d ∷ w ∷ [];
    back = ts;
    made = element.Node (name_of source x) (name_of source w);
    whole = refl;
    left = r;
    is = node a x d w (term-is source (term.Just kind.Node) (codes "node") a sa refl) (name-is source n x h sx) (colon-is d sd) (word-is source c w k sw);
    same = ap (λ z. element.Node z (unplaced_name (name_of source w))) (same-name source n x h.0 sx) ∙ ap (λ z. element.Node (unplaced_name n) z) (same-name source c w k sw);
  }

  edge-read : (n m c : Name) (ws : List (List ℕ)) (ts : List Token) → IsName n → IsName m → IsWord c → Spells source (codes "edge" ∷ n.text ∷ codes "->" ∷ m.text ∷ codes ":" ∷ c.text ∷ ws) ts → Read source (IsElement source) unplaced_element (element.Edge n m c) ws ts
  edge-read n m c ws _ h l k (and_token _ a sa (and_token _ x sx (and_token _ b sb (and_token _ y sy (and_token _ d sd (and_token _ w sw {ts} r)))))) = record {
    front = a ∷ x ∷ b ∷ y ∷ d ∷ w ∷ [];
    back = ts;
    made = element.Edge (name_of source x) (name_of source y) (name_of source w);
    whole = refl;
    left = r;
    is = edge a x b y d w (term-is source (term.Just kind.Edge) (codes "edge") a sa refl) (name-is source n x h sx) (term-is source (term.Just kind.Arrow) (codes "->") b sb refl) (name-is source m y l sy) (colon-is d sd) (word-is source c w k sw);
    same = ap (λ z. element.Edge z (unplaced_name (name_of source y)) (unplaced_name (name_of source w))) (same-name source n x h.0 sx)
        ∙ ap (λ z. element.Edge (unplaced_name n) z (unplaced_name (name_of source w))) (same-name source m y l.0 sy)
        ∙ ap (λ z. element.Edge (unplaced_name n) (unplaced_name m) z) (same-name source c w k sw);
  }

  says-element : (e : Element) → IsElementFine e → Says source (IsElement source) unplaced_element e (element_marks e) (element_text e)
  says-element (element.Node n c) h = record {
    spaced = λ rest t s. spaced-mark (codes "node") (typed n c rest) refl refl refl (λ m. refl) (typed-spaced n c rest h.0 h.1 t s);
    text = λ rest. simp append_assoc;
    read = λ rest ts s. node-read n c (words rest) ts h.0 h.1 s;
  }
  says-element (element.Edge n m c) h = record {
    spaced = λ rest t s. spaced-mark (codes "edge") (lit n.text ∷ Blank 32 ∷ lit (codes "->") ∷ Blank 32 ∷ typed m c rest) refl refl refl (λ m. refl)
        (word-mark n.text (Blank 32 ∷ lit (codes "->") ∷ Blank 32 ∷ typed m c rest) h.0.0 refl (blank-mark 32 (lit (codes "->") ∷ Blank 32 ∷ typed m c rest) refl refl (spaced-mark (codes "->") (typed m c rest) refl refl refl (λ m. refl) (typed-spaced m c rest h.1 h.2 t s))));
    text = λ rest. simp append_assoc;
    read = λ rest ts s. edge-read n m c (words rest) ts h.0 h.1 h.2 s;
  }

  -- simple items, with their semicolons
  marked-end : (m : marking.Mark) (e made : Element) (t : Token) (ws : List (List ℕ)) (front back : List Token) → IsSpelled source (mark_text m) t → IsElement source front made → unplaced_element made ≡ unplaced_element e → Spells source (codes ";" ∷ ws) back → Read source (IsSimple source) unplaced_simple (simple.Marked m e) ws (t ∷ (front ++ back))
  marked-end m e made t ws front _ st p w (and_token _ c s {ts} r) =
      let k = mark-is m t st in record {
        front = t ∷ (front ++ c ∷ []);
        back = ts;
        made = simple.Marked (mark_of t.kind) made;
        whole = ap (λ z. t ∷ z) (sym (append_assoc front (c ∷ []) ts));
        left = r;
        is = mark_element t c k.0 p (term-is source (term.Just kind.Semicolon) (codes ";") c s refl);
        same = ap (λ z. simple.Marked z (unplaced_element made)) k.1 ∙ ap (λ z. simple.Marked m z) w;
      }

  marked-read : (m : marking.Mark) (e : Element) (ws inner : List (List ℕ)) (ts : List Token) → ((us : List Token) → Spells source inner us → Read source (IsElement source) unplaced_element e (codes ";" ∷ ws) us) → Spells source (mark_text m ∷ inner) ts → Read source (IsSimple source) unplaced_simple (simple.Marked m e) ws ts
  marked-read m e ws inner _ f (and_token _ t st {ts} r) =
      let q = f ts r in
      subst (λ z. Read source (IsSimple source) unplaced_simple (simple.Marked m e) ws (t ∷ z)) (sym q.whole) (marked-end m e q.made t ws q.front q.back st q.is q.same q.left)

  same-unplaced : (x e : NameExpr) → map unplaced_piece x.pieces ≡ map unplaced_piece e.pieces → unplaced_expr x ≡ unplaced_expr e
  same-unplaced x e v = same-expr (map unplaced_piece x.pieces) (map unplaced_piece e.pieces) (unplaced_expr x).one (unplaced_expr e).one v

  abbrev ExprRead : NameExpr → List (List ℕ) → List Token → Type 0
  ExprRead e ws us = Read source (Expression source Expr) (map unplaced_piece) e.pieces ws us

  test-end : (w : _) (e : NameExpr) (made : List Piece) (t : Token) (ws : List (List ℕ)) (front back : List Token) → IsSpelled source (codes "where") t → Expression source Expr front made → map unplaced_piece made ≡ map unplaced_piece e.pieces → Spells source (codes ";" ∷ ws) back → Read source (IsSimple source) unplaced_simple (simple.Where w e) ws (t ∷ (front ++ back))
  test-end w e made t ws front _ st p v (and_token _ c s {ts} r) = let x = record_of made (expression-one p) in record {
    front = t ∷ (front ++ c ∷ []);
    back = ts;
    made = simple.Where t.span x;
    whole = ap (λ z. t ∷ z) (sym (append_assoc front (c ∷ []) ts));
    left = r;
    is = test t c x (term-is source (term.Just kind.Where) (codes "where") t st refl) p (term-is source (term.Just kind.Semicolon) (codes ";") c s refl);
    same = ap (λ z. simple.Where nowhere z) (same-unplaced x e v);
  }

  test-read : (w : _) (e : NameExpr) (ws inner : List (List ℕ)) (ts : List Token) → ((us : List Token) → Spells source inner us → ExprRead e (codes ";" ∷ ws) us) → Spells source (codes "where" ∷ inner) ts → Read source (IsSimple source) unplaced_simple (simple.Where w e) ws ts
  test-read w e ws inner _ f (and_token _ t st {ts} r) =
      let q = f ts r in
      subst (λ z. Read source (IsSimple source) unplaced_simple (simple.Where w e) ws (t ∷ z)) (sym q.whole) (test-end w e q.made t ws q.front q.back st q.is q.same q.left)

  set-end : (n a : Name) (e : NameExpr) (made : List Piece) (k x d y g : Token) (ws : List (List ℕ)) (front back : List Token) → IsName n → IsWord a → IsSpelled source (codes "set") k → IsSpelled source n.text x → IsSpelled source (codes ".") d → IsSpelled source a.text y → IsSpelled source (codes "=") g
      → Expression source Expr front made → map unplaced_piece made ≡ map unplaced_piece e.pieces → Spells source (codes ";" ∷ ws) back → Read source (IsSimple source) unplaced_simple (simple.Set n a e) ws (k ∷ x ∷ d ∷ y ∷ g ∷ (front ++ back))
  set-end n a e made k x d y g ws front _ h l sk sx sd sy sg p v (and_token _ c s {ts} r) = let z = record_of made (expression-one p) in record {
    front = k ∷ x ∷ d ∷ y ∷ g ∷ (front ++ c ∷ []);
    back = ts;
    made = simple.Set (name_of source x) (name_of source y) z;
    whole = ap (λ z. k ∷ x ∷ d ∷ y ∷ g ∷ z) (sym (append_assoc front (c ∷ []) ts));
    left = r;
    is = set k x d y g c z (term-is source (term.Just kind.Set) (codes "set") k sk refl) (name-is source n x h sx) (term-is source (term.Just kind.Dot) (codes ".") d sd refl) (word-is source a y l sy) (term-is source (term.Just kind.Assign) (codes "=") g sg refl) p (term-is source (term.Just kind.Semicolon) (codes ";") c s refl);
    same = ap (λ m. simple.Set m (unplaced_name (name_of source y)) (unplaced_expr z)) (same-name source n x h.0 sx)
        ∙ ap (λ m. simple.Set (unplaced_name n) m (unplaced_expr z)) (same-name source a y l sy)
        ∙ ap (λ v. simple.Set (unplaced_name n) (unplaced_name a) v) (same-unplaced z e v);
  }

  set-read : (n a : Name) (e : NameExpr) (ws inner : List (List ℕ)) (ts : List Token) → IsName n → IsWord a → ((us : List Token) → Spells source inner us → ExprRead e (codes ";" ∷ ws) us) → Spells source (codes "set" ∷ n.text ∷ codes "." ∷ a.text ∷ codes "=" ∷ inner) ts → Read source (IsSimple source) unplaced_simple (simple.Set n a e) ws ts
  set-read n a e ws inner _ h l f (and_token _ k sk (and_token _ x sx (and_token _ d sd (and_token _ y sy (and_token _ g sg {ts} r))))) =
      let q = f ts r in
      subst (λ z. Read source (IsSimple source) unplaced_simple (simple.Set n a e) ws (k ∷ x ∷ d ∷ y ∷ g ∷ z)) (sym q.whole) (set-end n a e q.made k x d y g ws q.front q.back h l sk sx sd sy sg q.is q.same q.left)

  pub says-simple : (s : Simple) → IsSimpleFine s → SaysLine source (IsSimple source) unplaced_simple s (simple_marks s) (simple_text s ++ codes ";\n")
  says-simple (simple.Marked m e) h =
      let w = says-element e h in record {
        spaced = λ rest s. mark-spaced m (ended (element_marks e) rest) (w.spaced (semicolon ∷ Blank 10 ∷ rest) refl (end-spaced rest s));
        text = λ rest. ap (λ z. mark_text m ++ (32 ∷ z)) (w.text (semicolon ∷ Blank 10 ∷ rest)) ∙ (simp append_assoc);
        read = λ rest ts s. marked-read m e (words rest) (words (ended (element_marks e) rest)) ts (λ us r. w.read (semicolon ∷ Blank 10 ∷ rest) us r) s;
      }
  says-simple (simple.Set n a e) h =
      let w = says-expr source e h.2 in record {
        spaced = λ rest s. spaced-mark (codes "set") (lit n.text ∷ lit (codes ".") ∷ lit a.text ∷ Blank 32 ∷ lit (codes "=") ∷ Blank 32 ∷ ended (expr_marks e) rest) refl refl refl (λ m. refl)
            (word-mark n.text (lit (codes ".") ∷ lit a.text ∷ Blank 32 ∷ lit (codes "=") ∷ Blank 32 ∷ ended (expr_marks e) rest) h.0.0 refl
            (sign-mark (codes ".") (lit a.text ∷ Blank 32 ∷ lit (codes "=") ∷ Blank 32 ∷ ended (expr_marks e) rest) refl refl refl (λ d m. refl)
            (word-mark a.text (Blank 32 ∷ lit (codes "=") ∷ Blank 32 ∷ ended (expr_marks e) rest) h.1 refl
            (blank-mark 32 (lit (codes "=") ∷ Blank 32 ∷ ended (expr_marks e) rest) refl refl
            (spaced-mark (codes "=") (ended (expr_marks e) rest) refl refl refl (λ m. refl) (w.spaced (semicolon ∷ Blank 10 ∷ rest) refl (end-spaced rest s)))))));
        text = λ rest. ap (λ z. codes "set " ++ (n.text ++ (codes "." ++ (a.text ++ (codes " = " ++ z))))) (w.text (semicolon ∷ Blank 10 ∷ rest)) ∙ (simp append_assoc);
        read = λ rest ts s. set-read n a e (words rest) (words (ended (expr_marks e) rest)) ts h.0 h.1 (λ us r. w.read (semicolon ∷ Blank 10 ∷ rest) us r) s;
      }
  says-simple (simple.Where v e) h =
      let w = says-expr source e h in record {
        spaced = λ rest s. spaced-mark (codes "where") (ended (expr_marks e) rest) refl refl refl (λ m. refl) (w.spaced (semicolon ∷ Blank 10 ∷ rest) refl (end-spaced rest s));
        text = λ rest. ap (λ z. codes "where " ++ z) (w.text (semicolon ∷ Blank 10 ∷ rest)) ∙ (simp append_assoc);
        read = λ rest ts s. test-read v e (words rest) (words (ended (expr_marks e) rest)) ts (λ us r. w.read (semicolon ∷ Blank 10 ∷ rest) us r) s;
      }

  -- items
  abbrev element_lines : List Element → List Mark → List Mark
  element_lines = lines_marks (λ e rest. spaces Two (ended (element_marks e) rest))

  abbrev simple_lines : List Simple → List Mark → List Mark
  simple_lines = lines_marks (λ s rest. spaces Two (simple_marks s rest))

  says-element-line : (e : Element) → IsElementFine e → SaysLine source (Before (IsElement source) (term.Just kind.Semicolon)) unplaced_element e (λ rest. spaces Two (ended (element_marks e) rest)) (element_line e)
  says-element-line e h = says-indented source Two (Before (IsElement source) (term.Just kind.Semicolon)) unplaced_element e (ended (element_marks e)) (element_text e ++ codes ";\n") (says-ended source (IsElement source) unplaced_element e (element_marks e) (element_text e) (says-element e h))

  says-simple-line : (s : Simple) → IsSimpleFine s → SaysLine source (IsSimple source) unplaced_simple s (λ rest. spaces Two (simple_marks s rest)) (simple_line s)
  says-simple-line s h = says-indented source Two (IsSimple source) unplaced_simple s (simple_marks s) (simple_text s ++ codes ";\n") (says-simple s h)

  abbrev Elements : List Token → List Element → Type 0
  Elements = Many (Before (IsElement source) (term.Just kind.Semicolon))

  says-elements : (es : List Element) → AllByRecursion IsElementFine es → SaysLine source (Braced Elements) (map unplaced_element) es (braced_marks One (element_lines es)) (codes "{\n" ++ flat_map element_line es ++ margin One ++ codes "}\n")
  says-elements es h = says-braced source One Elements (map unplaced_element) es (element_lines es) (flat_map element_line es)
      (says-lines source (Before (IsElement source) (term.Just kind.Semicolon)) unplaced_element IsElementFine (λ e rest. spaces Two (ended (element_marks e) rest)) element_line says-element-line es h)

  says-simples : (ss : List Simple) → AllByRecursion IsSimpleFine ss → SaysLine source (Braced (Many (IsSimple source))) (map unplaced_simple) ss (braced_marks One (simple_lines ss)) (codes "{\n" ++ flat_map simple_line ss ++ margin One ++ codes "}\n")
  says-simples ss h = says-braced source One (Many (IsSimple source)) (map unplaced_simple) ss (simple_lines ss) (flat_map simple_line ss)
      (says-lines source (IsSimple source) unplaced_simple IsSimpleFine (λ s rest. spaces Two (simple_marks s rest)) simple_line says-simple-line ss h)

  forbid-is : (k : Token) {us : List Token} {es : List Element} → Is (term.Just kind.Forbid) k → Braced Elements us es → IsItem source (k ∷ us) (item.Forbid es)
  forbid-is k i (brace o c j p l) = forbid k o c i j p l

  require-is : (k : Token) {us : List Token} {es : List Element} → Is (term.Just kind.Require) k → Braced Elements us es → IsItem source (k ∷ us) (item.Require es)
  require-is k i (brace o c j p l) = require k o c i j p l

  multi-is : (k : Token) {us : List Token} {ss : List Simple} → Is (term.Just kind.Multi) k → Braced (Many (IsSimple source)) us ss → IsItem source (k ∷ us) (item.Multi ss)
  multi-is k i (brace o c j p l) = multi k o c i j p l

  forbid-read : (es : List Element) (ws inner : List (List ℕ)) (ts : List Token) → ((us : List Token) → Spells source inner us → Read source (Braced Elements) (map unplaced_element) es ws us) → Spells source (codes "forbid" ∷ inner) ts → Read source (IsItem source) unplaced_item (item.Forbid es) ws ts
  forbid-read es ws inner _ f (and_token _ k sk {ts} r) =
      let q = f ts r in record { front = k ∷ q.front; back = q.back; made = item.Forbid q.made; whole = ap (λ z. k ∷ z) q.whole; left = q.left; is = forbid-is k (term-is source (term.Just kind.Forbid) (codes "forbid") k sk refl) q.is; same = ap (λ z. item.Forbid z) q.same }

  require-read : (es : List Element) (ws inner : List (List ℕ)) (ts : List Token) → ((us : List Token) → Spells source inner us → Read source (Braced Elements) (map unplaced_element) es ws us) → Spells source (codes "require" ∷ inner) ts → Read source (IsItem source) unplaced_item (item.Require es) ws ts
  require-read es ws inner _ f (and_token _ k sk {ts} r) =
      let q = f ts r in record { front = k ∷ q.front; back = q.back; made = item.Require q.made; whole = ap (λ z. k ∷ z) q.whole; left = q.left; is = require-is k (term-is source (term.Just kind.Require) (codes "require") k sk refl) q.is; same = ap (λ z. item.Require z) q.same }

  multi-read : (ss : List Simple) (ws inner : List (List ℕ)) (ts : List Token) → ((us : List Token) → Spells source inner us → Read source (Braced (Many (IsSimple source))) (map unplaced_simple) ss ws us) → Spells source (codes "multi" ∷ inner) ts → Read source (IsItem source) unplaced_item (item.Multi ss) ws ts
  multi-read ss ws inner _ f (and_token _ k sk {ts} r) =
      let q = f ts r in record { front = k ∷ q.front; back = q.back; made = item.Multi q.made; whole = ap (λ z. k ∷ z) q.whole; left = q.left; is = multi-is k (term-is source (term.Just kind.Multi) (codes "multi") k sk refl) q.is; same = ap (λ z. item.Multi z) q.same }

abbrev pub item_marks : Item → List Mark → List Mark
item_marks (item.Simple s) rest = spaces One (simple_marks s rest)
item_marks (item.Forbid es) rest = spaces One (lit (codes "forbid") ∷ Blank 32 ∷ braced_marks One (lines_marks (λ e more. spaces Two (ended (element_marks e) more)) es) rest)
item_marks (item.Require es) rest = spaces One (lit (codes "require") ∷ Blank 32 ∷ braced_marks One (lines_marks (λ e more. spaces Two (ended (element_marks e) more)) es) rest)
item_marks (item.Multi ss) rest = spaces One (lit (codes "multi") ∷ Blank 32 ∷ braced_marks One (lines_marks (λ s more. spaces Two (simple_marks s more)) ss) rest)

module _ (source : List ℕ) where
  pub says-item : (i : Item) → IsItemFine i → SaysLine source (IsItem source) unplaced_item i (item_marks i) (item_text i)
  says-item (item.Simple s) h =
      let w = says-simple source s h in
      says-indented source One (IsItem source) unplaced_item (item.Simple s) (simple_marks s) (simple_text s ++ codes ";\n") (record {
        spaced = w.spaced;
        text = w.text;
        read = λ rest ts r. let q = w.read rest ts r in record { front = q.front; back = q.back; made = item.Simple q.made; whole = q.whole; left = q.left; is = simple_item q.is; same = ap (λ z. item.Simple z) q.same };
      })
  says-item (item.Forbid es) h =
      let w = says-elements source es h in
      says-indented source One (IsItem source) unplaced_item (item.Forbid es) (λ rest. lit (codes "forbid") ∷ Blank 32 ∷ braced_marks One (element_lines source es) rest) (codes "forbid {\n" ++ flat_map element_line es ++ margin One ++ codes "}\n") (record {
        spaced = λ rest s. spaced-mark (codes "forbid") (braced_marks One (element_lines source es) rest) refl refl refl (λ m. refl) (w.spaced rest s);
        text = λ rest. ap (λ z. codes "forbid " ++ z) (w.text rest);
        read = λ rest ts r. forbid-read source es (words rest) (words (braced_marks One (element_lines source es) rest)) ts (λ us v. w.read rest us v) r;
      })
  says-item (item.Require es) h =
      let w = says-elements source es h in
      says-indented source One (IsItem source) unplaced_item (item.Require es) (λ rest. lit (codes "require") ∷ Blank 32 ∷ braced_marks One (element_lines source es) rest) (codes "require {\n" ++ flat_map element_line es ++ margin One ++ codes "}\n") (record {
        spaced = λ rest s. spaced-mark (codes "require") (braced_marks One (element_lines source es) rest) refl refl refl (λ m. refl) (w.spaced rest s);
        text = λ rest. ap (λ z. codes "require " ++ z) (w.text rest);
        read = λ rest ts r. require-read source es (words rest) (words (braced_marks One (element_lines source es) rest)) ts (λ us v. w.read rest us v) r;
      })
  says-item (item.Multi ss) h =
      let w = says-simples source ss h in
      says-indented source One (IsItem source) unplaced_item (item.Multi ss) (λ rest. lit (codes "multi") ∷ Blank 32 ∷ braced_marks One (simple_lines source ss) rest) (codes "multi {\n" ++ flat_map simple_line ss ++ margin One ++ codes "}\n") (record {
        spaced = λ rest s. spaced-mark (codes "multi") (braced_marks One (simple_lines source ss) rest) refl refl refl (λ m. refl) (w.spaced rest s);
        text = λ rest. ap (λ z. codes "multi " ++ z) (w.text rest);
        read = λ rest ts r. multi-read source ss (words rest) (words (braced_marks One (simple_lines source ss) rest)) ts (λ us v. w.read rest us v) r;
      })
