use Rattle.std.proofs.Common.{ℕ, ◌^◌, ◌≡◌, List, [], ◌∷◌, ◌++◌, map, Bool, true, false, nat_lt, pos, negsuc, codes, lit<, refl, ap, sym, subst, ◌∙◌, append_assoc}
use Rattle.std.proofs.lemmas.Bool.{and_parts}
use Rattle.std.specs.List.{AllByRecursion, list_all}
use Rattle.std.specs.Fmt.{decimal}
use Rattle.std.proofs.lemmas.List.{append-nil, map-append}
use Rattle.hs_expr.specs.declared.Span.{Span}
use Rattle.hs_expr.specs.declared.Name.{Name}
use Rattle.hs_expr.specs.declared.Sign.{Sign}
use Rattle.hs_expr.specs.declared.Sign.TheVariants as sign
use Rattle.hs_expr.specs.declared.Piece.{Piece}
use Rattle.hs_expr.specs.declared.Piece.TheVariants as piece
use Rattle.hs_expr.specs.declared.NameExpr.{NameExpr}
use Rattle.hs_tokens.specs.declared.token.Kind.TheVariants as kind
use Rattle.hs_tokens.specs.declared.token.Token.{Token}
use Rattle.hs_expr.specs.Characters.{is_letter, is_digit, is_word_part}
use Rattle.hs_tokens.specs.Tokens.{is_word, is_integer, token_kind}
use Rattle.hs_text.specs.declared.grammar.Term.TheVariants as term
use Rattle.hs_text.specs.Terms.{matches}
use Rattle.hs_text.specs.Words.{name_of, sign_of, literal_by, literal_of}
use Rattle.hs_text.specs.Grammar.{Level, Expr, Conj, Neg, Cmp, Sum, Prod, Fact, Expression, expr, no_or, or, conj, no_and, and, not, neg, cmp, no_comparison, comparison, sum, no_addition, addition, prod, no_product, product, literal, name, slot, parens, minus}
use Rattle.hs_expr.specs.Trees.{Tree, Leaf, Not, Minus, Binary, postfix}
use Rattle.hs_expr.specs.NameExprs.{expr_tree}
use Rattle.hs_expr.proofs.OneTree.{tree-found}
use Rattle.hs_text.specs.WellFormed.{IsWord, IsName, IsAllowed, IsPieceFine, IsExprFine}
use Rattle.hs_text.specs.Canonical.{truth_text, sign_text, piece_text, operand, tree_text, expr_text}
use Rattle.hs_text.specs.Unplaced.{nowhere, unplaced_name, unplaced_piece}
use Rattle.hs_text.proofs.Grown.{IsLeaf, IsProper, tree-holds}
use Rattle.hs_text.proofs.Marks.{Mark, Lexeme, Blank, spelled, written, words, IsSpaced, no_arrow, minus-longest, low-same, sign-mark, spaced-mark, word-mark, blank-mark, IsSpelled, Spells, and_token}
use Rattle.hs_text.proofs.Written.{number-is, quoted_chars, text-mark, number-mark, leaf_marks, wrapped, tree_marks, IsTreeFine, first-letter, first-digit, number-below}
use Rattle.hs_text.proofs.Spellings.{both-kept}
use Rattle.hs_text.proofs.Says.{Read, Says, term-is, name-is, word-is, same-name, number-token, text-token, truth-token}

-- NO ARROW BEGINS AN OPERAND

word-arrow : (cs rest : List ℕ) → is_word cs ≡ true → no_arrow (cs ++ rest) ≡ true
word-arrow [] rest h = cc
word-arrow (c ∷ cs) rest h = first-letter c (both-kept (is_letter c) (list_all is_word_part cs) _ h).0

pub integer-arrow : (cs rest : List ℕ) → is_integer cs ≡ true → no_arrow (cs ++ rest) ≡ true
integer-arrow [] rest h = cc
integer-arrow (c ∷ cs) rest h = first-digit c ((and_parts (is_digit c) (list_all is_digit cs) h).0)

leaf-arrow : (p : Piece) (rest : List Mark) → IsLeaf p → IsPieceFine p → no_arrow (spelled (leaf_marks p rest)) ≡ true
leaf-arrow (piece.Int (pos n) span) rest l h = integer-arrow (decimal n) (spelled rest) (number-is n (number-below n h)).0
leaf-arrow (piece.Int (negsuc n) span) rest l h = cc
leaf-arrow (piece.Text value span) rest l h = refl
leaf-arrow (piece.Bool true span) rest l h = refl
leaf-arrow (piece.Bool false span) rest l h = refl
leaf-arrow (piece.Name n) rest l h = word-arrow n.text (spelled rest) h.0
leaf-arrow (piece.Slot n a) rest l h = word-arrow n.text (spelled (Lexeme (codes ".") (codes ".") ∷ Lexeme a.text a.text ∷ rest)) h.0.0
leaf-arrow (piece.Not span) rest l h = absurd l
leaf-arrow (piece.Minus span) rest l h = absurd l
leaf-arrow (piece.Binary sign span) rest l h = absurd l

operand-arrow : (a : Tree) (rest : List Mark) → IsTreeFine a → no_arrow (spelled (wrapped a (tree_marks a) rest)) ≡ true
operand-arrow (Leaf p) rest h = leaf-arrow p rest h.0 h.1
operand-arrow (Not span a) rest h = refl
operand-arrow (Minus span a) rest h = refl
operand-arrow (Binary sign span a b) rest h = refl

-- LEVELS OF EXPRESSIONS

module _ (source : List ℕ) where
  abbrev At : Level → List Token → List Piece → Type 0
  At l = Expression source l

  without-ends : (l : Level) {ts : List Token} {ps : List Piece} → At l (ts ++ []) (ps ++ []) → At l ts ps
  without-ends l {ts} {ps} e = subst (λ x. At l x ps) (append-nil ts) (subst (λ x. At l (ts ++ []) x) (append-nil ps) e)

  to-prod : {ts : List Token} {ps : List Piece} → At Fact ts ps → At Prod ts ps
  to-prod e = without-ends Prod (prod e no_product)

  to-sum : {ts : List Token} {ps : List Piece} → At Prod ts ps → At Sum ts ps
  to-sum e = without-ends Sum (sum e no_addition)

  to-neg : {ts : List Token} {ps : List Piece} → At Sum ts ps → At Neg ts ps
  to-neg e = neg (without-ends Cmp (cmp e no_comparison))

  to-conj : {ts : List Token} {ps : List Piece} → At Neg ts ps → At Conj ts ps
  to-conj e = without-ends Conj (conj e no_and)

  to-expr : {ts : List Token} {ps : List Piece} → At Conj ts ps → At Expr ts ps
  to-expr e = without-ends Expr (expr e no_or)

  fact-neg : {ts : List Token} {ps : List Piece} → At Fact ts ps → At Neg ts ps
  fact-neg e = to-neg (to-sum (to-prod e))

  neg-expr : {ts : List Token} {ps : List Piece} → At Neg ts ps → At Expr ts ps
  neg-expr e = to-expr (to-conj e)

  chain-end : (l : Level) (t : Token) (g : Sign) (ts us : List Token) (ps qs : List Piece) → sign_of t.kind ≡ g → At l (ts ++ (t ∷ (us ++ []))) (ps ++ (qs ++ (piece.Binary (sign_of t.kind) t.span ∷ []))) → At l (ts ++ (t ∷ us)) (ps ++ (qs ++ piece.Binary g t.span ∷ []))
  chain-end l t g ts us ps qs w e =
      subst (λ (x : Sign). At l (ts ++ (t ∷ us)) (ps ++ (qs ++ piece.Binary x t.span ∷ []))) w
      (subst (λ x. At l (ts ++ (t ∷ x)) (ps ++ (qs ++ (piece.Binary (sign_of t.kind) t.span ∷ [])))) (append-nil us) e)

  sign-end : (l : Level) (t : Token) (g : Sign) (ts us : List Token) (ps qs : List Piece) → sign_of t.kind ≡ g → At l (ts ++ (t ∷ us)) (ps ++ (qs ++ (piece.Binary (sign_of t.kind) t.span ∷ []))) → At l (ts ++ (t ∷ us)) (ps ++ (qs ++ piece.Binary g t.span ∷ []))
  sign-end l t g ts us ps qs w e = subst (λ (x : Sign). At l (ts ++ (t ∷ us)) (ps ++ (qs ++ piece.Binary x t.span ∷ []))) w e

  -- two operands and the sign between them
  joined : (g : Sign) (t : Token) (ts us : List Token) (ps qs : List Piece) → t.kind ≡ token_kind (sign_text g) → At Fact ts ps → At Fact us qs → At Expr (ts ++ (t ∷ us)) (ps ++ (qs ++ piece.Binary g t.span ∷ []))
  joined sign.Or t ts us ps qs k e f = chain-end Expr t sign.Or ts us ps qs (ap sign_of k) (expr (to-conj (fact-neg e)) (or t (ap (matches (term.Just kind.Or)) k) (to-conj (fact-neg f)) no_or))
  joined sign.And t ts us ps qs k e f = to-expr (chain-end Conj t sign.And ts us ps qs (ap sign_of k) (conj (fact-neg e) (and t (ap (matches (term.Just kind.And)) k) (fact-neg f) no_and)))
  joined sign.Equal t ts us ps qs k e f = neg-expr (neg (sign-end Cmp t sign.Equal ts us ps qs (ap sign_of k) (cmp (to-sum (to-prod e)) (comparison t (ap (matches term.Comparison) k) (to-sum (to-prod f))))))
  joined sign.NotEqual t ts us ps qs k e f = neg-expr (neg (sign-end Cmp t sign.NotEqual ts us ps qs (ap sign_of k) (cmp (to-sum (to-prod e)) (comparison t (ap (matches term.Comparison) k) (to-sum (to-prod f))))))
  joined sign.Less t ts us ps qs k e f = neg-expr (neg (sign-end Cmp t sign.Less ts us ps qs (ap sign_of k) (cmp (to-sum (to-prod e)) (comparison t (ap (matches term.Comparison) k) (to-sum (to-prod f))))))
  joined sign.AtMost t ts us ps qs k e f = neg-expr (neg (sign-end Cmp t sign.AtMost ts us ps qs (ap sign_of k) (cmp (to-sum (to-prod e)) (comparison t (ap (matches term.Comparison) k) (to-sum (to-prod f))))))
  joined sign.Greater t ts us ps qs k e f = neg-expr (neg (sign-end Cmp t sign.Greater ts us ps qs (ap sign_of k) (cmp (to-sum (to-prod e)) (comparison t (ap (matches term.Comparison) k) (to-sum (to-prod f))))))
  joined sign.AtLeast t ts us ps qs k e f = neg-expr (neg (sign-end Cmp t sign.AtLeast ts us ps qs (ap sign_of k) (cmp (to-sum (to-prod e)) (comparison t (ap (matches term.Comparison) k) (to-sum (to-prod f))))))
  joined sign.Plus t ts us ps qs k e f = neg-expr (to-neg (chain-end Sum t sign.Plus ts us ps qs (ap sign_of k) (sum (to-prod e) (addition t (ap (matches term.Addition) k) (to-prod f) no_addition))))
  joined sign.Minus t ts us ps qs k e f = neg-expr (to-neg (chain-end Sum t sign.Minus ts us ps qs (ap sign_of k) (sum (to-prod e) (addition t (ap (matches term.Addition) k) (to-prod f) no_addition))))
  joined sign.Times t ts us ps qs k e f = neg-expr (to-neg (to-sum (chain-end Prod t sign.Times ts us ps qs (ap sign_of k) (prod e (product t (ap (matches (term.Just kind.Times)) k) f no_product)))))

  abbrev bare : List Piece → List Piece
  bare = map unplaced_piece

  -- LEAVES

  abbrev Leafed : Piece → Type 0
  Leafed p = Says source (At Fact) bare (p ∷ []) (leaf_marks p) (piece_text p)

  leaf-read : (p : Piece) (t : Token) (ws : List (List ℕ)) (us : List Token) → Spells source ws us → (q : Piece) → At Fact (t ∷ []) (q ∷ []) → unplaced_piece q ≡ unplaced_piece p → Read source (At Fact) bare (p ∷ []) ws (t ∷ us)
  leaf-read p t ws us s q e w = record { front = t ∷ []; back = us; made = q ∷ []; whole = refl; left = s; is = e; same = ap (λ x. x ∷ []) w }

  read-int : (n : ℕ) (span : Span) (ws : List (List ℕ)) (ts : List Token) → nat_lt n (2 ^ 63) ≡ true → Spells source (decimal n ∷ ws) ts → Read source (At Fact) bare (piece.Int (pos n) span ∷ []) ws ts
  read-int n span ws _ h (and_token _ t s {ts} r) =
      let k = number-token source n t h s in
      leaf-read (piece.Int (pos n) span) t ws ts r (literal_of source t) (literal t (ap (matches term.Literal) k.0)) (ap (λ x. unplaced_piece (literal_by x source t)) k.0 ∙ ap (λ x. piece.Int x nowhere) k.1)

  read-text : (v : List ℕ) (span : Span) (ws : List (List ℕ)) (ts : List Token) → IsAllowed v → Spells source (quoted_chars v ∷ ws) ts → Read source (At Fact) bare (piece.Text v span ∷ []) ws ts
  read-text v span ws _ h (and_token _ t s {ts} r) =
      let k = text-token source v t h s in
      leaf-read (piece.Text v span) t ws ts r (literal_of source t) (literal t (ap (matches term.Literal) k.0)) (ap (λ x. unplaced_piece (literal_by x source t)) k.0 ∙ ap (λ x. piece.Text x nowhere) k.1)

  read-truth : (b : Bool) (span : Span) (ws : List (List ℕ)) (ts : List Token) → Spells source (truth_text b ∷ ws) ts → Read source (At Fact) bare (piece.Bool b span ∷ []) ws ts
  read-truth b span ws _ (and_token _ t s {ts} r) =
      let k = truth-token source b t s in
      leaf-read (piece.Bool b span) t ws ts r (literal_of source t) (literal t (ap (matches term.Literal) k.1 ∙ k.3)) (ap (λ x. unplaced_piece (literal_by x source t)) k.1 ∙ ap unplaced_piece k.5 ∙ ap (λ x. piece.Bool x nowhere) k.2)

  read-name : (n : Name) (ws : List (List ℕ)) (ts : List Token) → IsName n → Spells source (n.text ∷ ws) ts → Read source (At Fact) bare (piece.Name n ∷ []) ws ts
  read-name n ws _ h (and_token _ t s {ts} r) = leaf-read (piece.Name n) t ws ts r (piece.Name (name_of source t)) (name t (name-is source n t h s)) (ap (λ x. piece.Name x) (same-name source n t h.0 s))

  read-slot : (n a : Name) (ws : List (List ℕ)) (ts : List Token) → IsName n → IsWord a → Spells source (n.text ∷ codes "." ∷ a.text ∷ ws) ts → Read source (At Fact) bare (piece.Slot n a ∷ []) ws ts
  read-slot n a ws _ h k (and_token _ t s (and_token _ d x (and_token _ w y {ts} r))) = record {
    front = t ∷ d ∷ w ∷ [];
    back = ts;
    made = piece.Slot (name_of source t) (name_of source w) ∷ [];
    whole = refl;
    left = r;
    is = slot t d w (name-is source n t h s) (term-is source (term.Just kind.Dot) (codes ".") d x refl) (word-is source a w k y);
    same = ap (λ z. z ∷ []) (ap (λ z. piece.Slot z (unplaced_name (name_of source w))) (same-name source n t h.0 s) ∙ ap (λ z. piece.Slot (unplaced_name n) z) (same-name source a w k y));
  }

  leafed : (p : Piece) → IsLeaf p → IsPieceFine p → Leafed p
  leafed (piece.Int (pos n) span) l h = record {
    spaced = λ rest t s. number-mark n rest h t s;
    text = λ rest. refl;
    read = λ rest ts s. read-int n span (words rest) ts h s;
  }
  leafed (piece.Int (negsuc n) span) l h = cc
  leafed (piece.Text v span) l h = record {
    spaced = λ rest t s. text-mark v rest h s;
    text = λ rest. refl;
    read = λ rest ts s. read-text v span (words rest) ts h s;
  }
  leafed (piece.Bool true span) l h = record {
    spaced = λ rest t s. word-mark (codes "true") rest refl t s;
    text = λ rest. refl;
    read = λ rest ts s. read-truth true span (words rest) ts s;
  }
  leafed (piece.Bool false span) l h = record {
    spaced = λ rest t s. word-mark (codes "false") rest refl t s;
    text = λ rest. refl;
    read = λ rest ts s. read-truth false span (words rest) ts s;
  }
  leafed (piece.Name n) l h = record {
    spaced = λ rest t s. word-mark n.text rest h.0 t s;
    text = λ rest. refl;
    read = λ rest ts s. read-name n (words rest) ts h s;
  }
  leafed (piece.Slot n a) l h = record {
    spaced = λ rest t s. word-mark n.text (Lexeme (codes ".") (codes ".") ∷ Lexeme a.text a.text ∷ rest) h.0.0 refl (sign-mark (codes ".") (Lexeme a.text a.text ∷ rest) refl refl refl (λ d m. refl) (word-mark a.text rest h.1 t s));
    text = λ rest. simp append_assoc;
    read = λ rest ts s. read-slot n a (words rest) ts h.0 h.1 s;
  }
  leafed (piece.Not span) l h = absurd l
  leafed (piece.Minus span) l h = absurd l
  leafed (piece.Binary sign span) l h = absurd l

  -- OPERATORS

  -- parentheses
  closed-read : (o : Token) (x : List Piece) (ws : List (List ℕ)) (front back : List Token) (made : List Piece) → IsSpelled source (codes "(") o → At Expr front made → bare made ≡ bare x → Spells source (codes ")" ∷ ws) back → Read source (At Fact) bare x ws (o ∷ (front ++ back))
  closed-read o x ws front _ made so e w (and_token _ c sc {ts} r) = record {
    front = o ∷ (front ++ c ∷ []);
    back = ts;
    made = made;
    whole = ap (λ z. o ∷ z) (sym (append_assoc front (c ∷ []) ts));
    left = r;
    is = parens o c (term-is source (term.Just kind.LeftParen) (codes "(") o so refl) e (term-is source (term.Just kind.RightParen) (codes ")") c sc refl);
    same = w;
  }

  opened-read : (x : List Piece) (ws : List (List ℕ)) (inner : List (List ℕ)) (ts : List Token) → ((us : List Token) → Spells source inner us → Read source (At Expr) bare x (codes ")" ∷ ws) us) → Spells source (codes "(" ∷ inner) ts → Read source (At Fact) bare x ws ts
  opened-read x ws inner _ f (and_token _ o so {ts} r) =
      let q = f ts r in
      subst (λ z. Read source (At Fact) bare x ws (o ∷ z)) (sym q.whole) (closed-read o x ws q.front q.back q.made so q.is q.same q.left)

  abbrev left_paren : Mark
  left_paren = Lexeme (codes "(") (codes "(")

  abbrev right_paren : Mark
  right_paren = Lexeme (codes ")") (codes ")")

  in-parens : (x : List Piece) (marks : List Mark → List Mark) (bytes : List ℕ) → Says source (At Expr) bare x marks bytes → Says source (At Fact) bare x (λ rest. left_paren ∷ marks (right_paren ∷ rest)) (codes "(" ++ bytes ++ codes ")")
  in-parens x marks bytes w = record {
    spaced = λ rest t s. sign-mark (codes "(") (marks (right_paren ∷ rest)) refl refl refl (λ d m. refl) (w.spaced (right_paren ∷ rest) refl (sign-mark (codes ")") rest refl refl refl (λ d m. refl) s));
    text = λ rest. ap (λ z. 40 ∷ z) (w.text (right_paren ∷ rest) ∙ sym (append_assoc bytes (codes ")") (written rest)));
    read = λ rest ts s. opened-read x (words rest) (words (marks (right_paren ∷ rest))) ts (λ us r. w.read (right_paren ∷ rest) us r) s;
  }

  -- one operand
  bare-both : (ps qs : List Piece) → bare (ps ++ qs) ≡ bare ps ++ bare qs
  bare-both ps qs = map-append unplaced_piece ps qs

  read-not : (x : List Piece) (span : Span) (ws inner : List (List ℕ)) (ts : List Token) → ((us : List Token) → Spells source inner us → Read source (At Fact) bare x ws us) → Spells source (codes "not" ∷ inner) ts → Read source (At Expr) bare (x ++ piece.Not span ∷ []) ws ts
  read-not x span ws inner _ f (and_token _ t st {ts} r) =
      let q = f ts r in record {
        front = t ∷ q.front;
        back = q.back;
        made = q.made ++ piece.Not t.span ∷ [];
        whole = ap (λ z. t ∷ z) q.whole;
        left = q.left;
        is = neg-expr (not t (term-is source (term.Just kind.Not) (codes "not") t st refl) (fact-neg q.is));
        same = bare-both q.made (piece.Not t.span ∷ []) ∙ ap (λ z. z ++ piece.Not nowhere ∷ []) q.same ∙ sym (bare-both x (piece.Not span ∷ []));
      }

  read-minus : (x : List Piece) (span : Span) (ws inner : List (List ℕ)) (ts : List Token) → ((us : List Token) → Spells source inner us → Read source (At Fact) bare x ws us) → Spells source (codes "-" ∷ inner) ts → Read source (At Expr) bare (x ++ piece.Minus span ∷ []) ws ts
  read-minus x span ws inner _ f (and_token _ t st {ts} r) =
      let q = f ts r in record {
        front = t ∷ q.front;
        back = q.back;
        made = q.made ++ piece.Minus t.span ∷ [];
        whole = ap (λ z. t ∷ z) q.whole;
        left = q.left;
        is = neg-expr (fact-neg (minus t (term-is source (term.Just kind.Minus) (codes "-") t st refl) q.is));
        same = bare-both q.made (piece.Minus t.span ∷ []) ∙ ap (λ z. z ++ piece.Minus nowhere ∷ []) q.same ∙ sym (bare-both x (piece.Minus span ∷ []));
      }

  -- two operands
  behind-read : (x y : List Piece) (g : Sign) (span : Span) (ws inner : List (List ℕ)) (front back : List Token) (made : List Piece) → ((us : List Token) → Spells source inner us → Read source (At Fact) bare y ws us) → At Fact front made → bare made ≡ bare x
      → Spells source (sign_text g ∷ inner) back → Read source (At Expr) bare (x ++ (y ++ piece.Binary g span ∷ [])) ws (front ++ back)
  behind-read x y g span ws inner front _ made f e w (and_token _ t st {ts} r) =
      let q = f ts r in record {
        front = front ++ (t ∷ q.front);
        back = q.back;
        made = made ++ (q.made ++ piece.Binary g t.span ∷ []);
        whole = ap (λ z. front ++ (t ∷ z)) q.whole ∙ sym (append_assoc front (t ∷ q.front) q.back);
        left = q.left;
        is = joined g t front q.front made q.made st.kind e q.is;
        same = bare-both made (q.made ++ piece.Binary g t.span ∷ []) ∙ ap (λ z. z ++ bare (q.made ++ piece.Binary g t.span ∷ [])) w
            ∙ ap (λ z. bare x ++ z) (bare-both q.made (piece.Binary g t.span ∷ []) ∙ ap (λ z. z ++ piece.Binary g nowhere ∷ []) q.same ∙ sym (bare-both y (piece.Binary g span ∷ [])))
            ∙ sym (bare-both x (y ++ piece.Binary g span ∷ []));
      }

  sign-spaced : (g : Sign) (ms : List Mark) → IsSpaced ms → IsSpaced (Blank 32 ∷ Lexeme (sign_text g) (sign_text g) ∷ Blank 32 ∷ ms)
  sign-spaced sign.Or ms s = blank-mark 32 (Lexeme (codes "or") (codes "or") ∷ Blank 32 ∷ ms) refl refl (spaced-mark (codes "or") ms refl refl refl (λ m. refl) s)
  sign-spaced sign.And ms s = blank-mark 32 (Lexeme (codes "and") (codes "and") ∷ Blank 32 ∷ ms) refl refl (spaced-mark (codes "and") ms refl refl refl (λ m. refl) s)
  sign-spaced sign.Equal ms s = blank-mark 32 (Lexeme (codes "==") (codes "==") ∷ Blank 32 ∷ ms) refl refl (spaced-mark (codes "==") ms refl refl refl (λ m. refl) s)
  sign-spaced sign.NotEqual ms s = blank-mark 32 (Lexeme (codes "!=") (codes "!=") ∷ Blank 32 ∷ ms) refl refl (spaced-mark (codes "!=") ms refl refl refl (λ m. refl) s)
  sign-spaced sign.Less ms s = blank-mark 32 (Lexeme (codes "<") (codes "<") ∷ Blank 32 ∷ ms) refl refl (spaced-mark (codes "<") ms refl refl refl (λ m. refl) s)
  sign-spaced sign.AtMost ms s = blank-mark 32 (Lexeme (codes "<=") (codes "<=") ∷ Blank 32 ∷ ms) refl refl (spaced-mark (codes "<=") ms refl refl refl (λ m. refl) s)
  sign-spaced sign.Greater ms s = blank-mark 32 (Lexeme (codes ">") (codes ">") ∷ Blank 32 ∷ ms) refl refl (spaced-mark (codes ">") ms refl refl refl (λ m. refl) s)
  sign-spaced sign.AtLeast ms s = blank-mark 32 (Lexeme (codes ">=") (codes ">=") ∷ Blank 32 ∷ ms) refl refl (spaced-mark (codes ">=") ms refl refl refl (λ m. refl) s)
  sign-spaced sign.Plus ms s = blank-mark 32 (Lexeme (codes "+") (codes "+") ∷ Blank 32 ∷ ms) refl refl (spaced-mark (codes "+") ms refl refl refl (λ m. refl) s)
  sign-spaced sign.Minus ms s = blank-mark 32 (Lexeme (codes "-") (codes "-") ∷ Blank 32 ∷ ms) refl refl (spaced-mark (codes "-") ms refl refl refl (λ m. refl) s)
  sign-spaced sign.Times ms s = blank-mark 32 (Lexeme (codes "*") (codes "*") ∷ Blank 32 ∷ ms) refl refl (spaced-mark (codes "*") ms refl refl refl (λ m. refl) s)

  abbrev Operand : Tree → Type 0
  Operand a = Says source (At Fact) bare (postfix a) (wrapped a (tree_marks a)) (operand a (tree_text a))

  abbrev Whole : Tree → Type 0
  Whole a = Says source (At Expr) bare (postfix a) (tree_marks a) (tree_text a)

  lifted : (x : List Piece) (marks : List Mark → List Mark) (bytes : List ℕ) → Says source (At Fact) bare x marks bytes → Says source (At Expr) bare x marks bytes
  lifted x marks bytes w = record {
    spaced = w.spaced;
    text = w.text;
    read = λ rest ts s. let q = w.read rest ts s in record { front = q.front; back = q.back; made = q.made; whole = q.whole; left = q.left; is = neg-expr (fact-neg q.is); same = q.same };
  }

  both-say : (a : Tree) → IsTreeFine a → Operand a × Whole a
  both-say (Leaf p) h = let l = leafed p h.0 h.1 in (l, lifted (p ∷ []) (leaf_marks p) (piece_text p) l)
  both-say (Not span a) h =
      let o = (both-say a h).0 in
      let whole : Whole (Not span a) = record {
        spaced = λ rest t s. spaced-mark (codes "not") (wrapped a (tree_marks a) rest) refl refl refl (λ m. refl) (o.spaced rest t s);
        text = λ rest. ap (λ z. codes "not " ++ z) (o.text rest);
        read = λ rest ts s. read-not (postfix a) span (words rest) (words (wrapped a (tree_marks a) rest)) ts (λ us r. o.read rest us r) s;
      } in
      (in-parens (postfix (Not span a)) (tree_marks (Not span a)) (tree_text (Not span a)) whole, whole)
  both-say (Minus span a) h =
      let o = (both-say a h).0 in
      let whole : Whole (Minus span a) = record {
        spaced = λ rest t s. ((λ begin. minus-longest (spelled (wrapped a (tree_marks a) rest)) (operand-arrow a rest h)), lit< tt, low-same (codes "-") refl, refl, o.spaced rest t s);
        text = λ rest. ap (λ z. 45 ∷ z) (o.text rest);
        read = λ rest ts s. read-minus (postfix a) span (words rest) (words (wrapped a (tree_marks a) rest)) ts (λ us r. o.read rest us r) s;
      } in
      (in-parens (postfix (Minus span a)) (tree_marks (Minus span a)) (tree_text (Minus span a)) whole, whole)
  both-say (Binary g span a b) h =
      let o = (both-say a h.0).0 in
      let p = (both-say b h.1).0 in
      let whole : Whole (Binary g span a b) = record {
        spaced = λ rest t s. o.spaced (Blank 32 ∷ Lexeme (sign_text g) (sign_text g) ∷ Blank 32 ∷ wrapped b (tree_marks b) rest) refl (sign-spaced g (wrapped b (tree_marks b) rest) (p.spaced rest t s));
        text = λ rest. o.text (Blank 32 ∷ Lexeme (sign_text g) (sign_text g) ∷ Blank 32 ∷ wrapped b (tree_marks b) rest)
            ∙ ap (λ z. operand a (tree_text a) ++ (32 ∷ (sign_text g ++ (32 ∷ z)))) (p.text rest) ∙ (simp append_assoc);
        read = λ rest ts s.
            let q = o.read (Blank 32 ∷ Lexeme (sign_text g) (sign_text g) ∷ Blank 32 ∷ wrapped b (tree_marks b) rest) ts s in
            subst (λ z. Read source (At Expr) bare (postfix (Binary g span a b)) (words rest) z) (sym q.whole)
            (behind-read (postfix a) (postfix b) g span (words rest) (words (wrapped b (tree_marks b) rest)) q.front q.back q.made (λ us r. p.read rest us r) q.is q.same q.left);
      } in
      (in-parens (postfix (Binary g span a b)) (tree_marks (Binary g span a b)) (tree_text (Binary g span a b)) whole, whole)

-- THE EXPRESSION OF A SYNTAX

every-left : {X : Type 0} (P : X → Type 0) (xs ys : List X) → AllByRecursion P (xs ++ ys) → AllByRecursion P xs
every-left P [] ys h = tt
every-left P (x ∷ xs) ys h = (h.0, every-left P xs ys h.1)

every-right : {X : Type 0} (P : X → Type 0) (xs ys : List X) → AllByRecursion P (xs ++ ys) → AllByRecursion P ys
every-right P [] ys h = h
every-right P (x ∷ xs) ys h = every-right P xs ys h.1

tree-fine : (a : Tree) → IsProper a → AllByRecursion IsPieceFine (postfix a) → IsTreeFine a
tree-fine (Leaf p) h k = (h, k.0)
tree-fine (Not span a) h k = tree-fine a h (every-left IsPieceFine (postfix a) (piece.Not span ∷ []) k)
tree-fine (Minus span a) h k = tree-fine a h (every-left IsPieceFine (postfix a) (piece.Minus span ∷ []) k)
tree-fine (Binary g span a b) h k = (
  tree-fine a h.0 (every-left IsPieceFine (postfix a) (postfix b ++ piece.Binary g span ∷ []) k),
  tree-fine b h.1 (every-left IsPieceFine (postfix b) (piece.Binary g span ∷ []) (every-right IsPieceFine (postfix a) (postfix b ++ piece.Binary g span ∷ []) k)),
)

abbrev pub expr_marks : NameExpr → List Mark → List Mark
expr_marks e rest = tree_marks (expr_tree e) rest

pub says-expr : (source : List ℕ) (e : NameExpr) → IsExprFine e → Says source (Expression source Expr) (map unplaced_piece) e.pieces (expr_marks e) (expr_text e)
says-expr source e h =
    let a = expr_tree e in
    let t = tree-holds e.pieces a (tree-found e) in
    let fine : IsTreeFine a = tree-fine a t.0 (subst (AllByRecursion IsPieceFine) (sym t.1) h) in
    subst (λ z. Says source (Expression source Expr) (map unplaced_piece) z (tree_marks a) (tree_text a)) t.1 (both-say source a fine).1
