use Rattle.std.proofs.Common.{ℕ, ◌^◌, ◌≡◌, List, [], ◌∷◌, ◌++◌, map, Bool, true, false, Option, Some, None, codes, lit<, nat_lt, pos, negsuc, refl, ap, sym, subst, ◌∙◌, append_assoc}
use Rattle.std.specs.List.{AllByRecursion, flat_map}
use Rattle.std.specs.Fmt.{decimal, signed_decimal}
use Rattle.hs_expr.specs.declared.Span.{Span}
use Rattle.hs_expr.specs.declared.Name.{Name}
use Rattle.hs_tokens.specs.declared.token.Kind.TheVariants as kind
use Rattle.hs_tokens.specs.declared.token.Token.{Token}
use Rattle.hs_text.specs.declared.grammar.Term.TheVariants as term
use Rattle.hs_text.specs.declared.syntax.Atom.{Atom}
use Rattle.hs_text.specs.declared.syntax.Atom.TheVariants as atom
use Rattle.hs_text.specs.declared.syntax.Bind.{Bind}
use Rattle.hs_text.specs.declared.syntax.Bind.TheVariants as bind
use Rattle.hs_text.specs.declared.syntax.Call.{Call}
use Rattle.hs_text.specs.declared.syntax.Count.{Count}
use Rattle.hs_text.specs.declared.syntax.Count.TheVariants as count
use Rattle.hs_text.specs.declared.syntax.Body.{Body}
use Rattle.hs_text.specs.declared.syntax.Body.TheVariants as body
use Rattle.hs_text.specs.Terms.{matches, Is}
use Rattle.hs_tokens.specs.Tokens.{token_kind}
use Rattle.hs_text.specs.Words.{name_of, atom_by, atom_of, count_by, count_of, list_body}
use Rattle.hs_text.specs.Lists.{Many, Optional, absent, present, After, after_token, Separated}
use Rattle.hs_text.specs.Grammar.{IsAtom, value, negative, IsBind, give, take, IsCall, call, CallThen, IsBody, call_list, conditional, loop, iterated}
use Rattle.hs_text.specs.WellFormed.{IsName, IsAllowed, IsAtomFine, IsBindFine, IsCallFine, IsElseFine, IsBodyFine}
use Rattle.hs_text.specs.Canonical.{quoted_text, truth_text, atom_text, bind_text, call_text, call_line, body_kind, else_line, body_lines}
use Rattle.hs_text.specs.Unplaced.{nowhere, unplaced_name, unplaced_atom, unplaced_bind, unplaced_call, unplaced_count, unplaced_else, unplaced_body}
use Rattle.hs_text.proofs.Marks.{Mark, Lexeme, Blank, spelled, written, words, minus-longest, low-same, sign-mark, spaced-mark, word-mark, blank-mark, IsSpelled, Spells, and_token}
use Rattle.hs_text.proofs.Written.{number-is, quoted_chars, text-mark, number-mark, number-below}
use Rattle.hs_text.proofs.Says.{Read, Says, term-is, name-is, name-kind, same-name, number-token, text-token}
use Rattle.hs_text.proofs.SaysExpr.{integer-arrow}
use Rattle.hs_text.proofs.SaysLists.{Top, One, SaysLine, spaces, margin, ended, lines_marks, commas_marks, Braced, brace, braced_marks, says-ended, says-indented, says-lines, says-commas, says-braced}
use Rattle.hs_text.proofs.SaysParts.{lit}

-- THE PARTS OF A UNIT

abbrev pub atom_marks : Atom → List Mark → List Mark
atom_marks (atom.Int true v span) rest = lit (codes "-") ∷ lit (signed_decimal v) ∷ rest
atom_marks (atom.Int false v span) rest = lit (signed_decimal v) ∷ rest
atom_marks (atom.Text v span) rest = Lexeme (quoted_chars v) (quoted_text v) ∷ rest
atom_marks (atom.Bool v span) rest = lit (truth_text v) ∷ rest
atom_marks (atom.Name n) rest = lit n.text ∷ rest

abbrev pub bind_marks : Bind → List Mark → List Mark
bind_marks (bind.Give p v) rest = lit p.text ∷ Blank 32 ∷ lit (codes "=") ∷ Blank 32 ∷ atom_marks v rest
bind_marks (bind.Take p v) rest = lit p.text ∷ Blank 32 ∷ lit (codes ">") ∷ Blank 32 ∷ lit v.text ∷ rest

abbrev pub call_marks : Call → List Mark → List Mark
call_marks c rest = lit c.callee.text ∷ lit (codes "(") ∷ commas_marks bind_marks c.binds (lit (codes ")") ∷ rest)

abbrev pub call_lines : Call → List Mark → List Mark
call_lines c rest = spaces One (ended (call_marks c) rest)

abbrev pub count_marks : Count → List Mark → List Mark
count_marks (count.Int v span) rest = lit (signed_decimal v) ∷ rest
count_marks (count.Param n) rest = lit n.text ∷ rest

abbrev pub else_marks : Option Call → List Mark → List Mark
else_marks None rest = rest
else_marks (Some c) rest = spaces One (lit (codes "else") ∷ Blank 32 ∷ ended (call_marks c) rest)

module _ (source : List ℕ) where
  -- VALUES

  one-read : (a : Atom) (t : Token) (ws : List (List ℕ)) (us : List Token) → Spells source ws us → Is term.Atom t → unplaced_atom (atom_of source t) ≡ unplaced_atom a → Read source (IsAtom source) unplaced_atom a ws (t ∷ us)
  one-read a t ws us s i w = record { front = t ∷ []; back = us; made = atom_of source t; whole = refl; left = s; is = value t i; same = w }

  read-int : (n : ℕ) (span : Span) (ws : List (List ℕ)) (ts : List Token) → nat_lt n (2 ^ 63) ≡ true → Spells source (decimal n ∷ ws) ts → Read source (IsAtom source) unplaced_atom (atom.Int false (pos n) span) ws ts
  read-int n span ws _ h (and_token _ t s {ts} r) =
      let k = number-token source n t h s in
      one-read (atom.Int false (pos n) span) t ws ts r (ap (matches term.Atom) k.0) (ap (λ x. unplaced_atom (atom_by x source t)) k.0 ∙ ap (λ x. atom.Int false x nowhere) k.1)

  read-negative : (n : ℕ) (span : Span) (ws : List (List ℕ)) (ts : List Token) → nat_lt n (2 ^ 63) ≡ true → Spells source (codes "-" ∷ decimal n ∷ ws) ts → Read source (IsAtom source) unplaced_atom (atom.Int true (pos n) span) ws ts
  read-negative n span ws _ h (and_token _ m sm (and_token _ t s {ts} r)) =
      let k = number-token source n t h s in record {
        front = m ∷ t ∷ [];
        back = ts;
        made = atom.Int true t.number t.span;
        whole = refl;
        left = r;
        is = negative m t (term-is source (term.Just kind.Minus) (codes "-") m sm refl) (ap (matches (term.Just kind.Int)) k.0);
        same = ap (λ x. atom.Int true x nowhere) k.1;
      }

  read-text : (v : List ℕ) (span : Span) (ws : List (List ℕ)) (ts : List Token) → IsAllowed v → Spells source (quoted_chars v ∷ ws) ts → Read source (IsAtom source) unplaced_atom (atom.Text v span) ws ts
  read-text v span ws _ h (and_token _ t s {ts} r) =
      let k = text-token source v t h s in
      one-read (atom.Text v span) t ws ts r (ap (matches term.Atom) k.0) (ap (λ x. unplaced_atom (atom_by x source t)) k.0 ∙ ap (λ x. atom.Text x nowhere) k.1)

  read-truth : (b : Bool) (span : Span) (ws : List (List ℕ)) (ts : List Token) → Spells source (truth_text b ∷ ws) ts → Read source (IsAtom source) unplaced_atom (atom.Bool b span) ws ts
  read-truth true span ws _ (and_token _ t s {ts} r) = one-read (atom.Bool true span) t ws ts r (ap (matches term.Atom) s.kind) (ap (λ x. unplaced_atom (atom_by x source t)) s.kind)
  read-truth false span ws _ (and_token _ t s {ts} r) = one-read (atom.Bool false span) t ws ts r (ap (matches term.Atom) s.kind) (ap (λ x. unplaced_atom (atom_by x source t)) s.kind)

  read-name : (n : Name) (ws : List (List ℕ)) (ts : List Token) → IsName n → Spells source (n.text ∷ ws) ts → Read source (IsAtom source) unplaced_atom (atom.Name n) ws ts
  read-name n ws _ h (and_token _ t s {ts} r) =
      let k : t.kind ≡ kind.Name = s.kind ∙ name-kind n h in
      one-read (atom.Name n) t ws ts r (ap (matches term.Atom) k) (ap (λ x. unplaced_atom (atom_by x source t)) k ∙ ap (λ x. atom.Name x) (same-name source n t h.0 s))

  says-atom : (a : Atom) → IsAtomFine a → Says source (IsAtom source) unplaced_atom a (atom_marks a) (atom_text a)
  says-atom (atom.Int true (pos n) span) h = record {
    spaced = λ rest t s. ((λ begin. minus-longest (decimal n ++ spelled rest) (integer-arrow (decimal n) (spelled rest) (number-is n (number-below n h)).0)), lit< tt, low-same (codes "-") refl, refl, number-mark n rest h t s);
    text = λ rest. refl;
    read = λ rest ts s. read-negative n span (words rest) ts h s;
  }
  says-atom (atom.Int true (negsuc n) span) h = cc
  says-atom (atom.Int false (pos n) span) h = record {
    spaced = λ rest t s. number-mark n rest h t s;
    text = λ rest. refl;
    read = λ rest ts s. read-int n span (words rest) ts h s;
  }
  says-atom (atom.Int false (negsuc n) span) h = cc
  says-atom (atom.Text v span) h = record {
    spaced = λ rest t s. text-mark v rest h s;
    text = λ rest. refl;
    read = λ rest ts s. read-text v span (words rest) ts h s;
  }
  says-atom (atom.Bool true span) h = record {
    spaced = λ rest t s. word-mark (codes "true") rest refl t s;
    text = λ rest. refl;
    read = λ rest ts s. read-truth true span (words rest) ts s;
  }
  says-atom (atom.Bool false span) h = record {
    spaced = λ rest t s. word-mark (codes "false") rest refl t s;
    text = λ rest. refl;
    read = λ rest ts s. read-truth false span (words rest) ts s;
  }
  says-atom (atom.Name n) h = record {
    spaced = λ rest t s. word-mark n.text rest h.0 t s;
    text = λ rest. refl;
    read = λ rest ts s. read-name n (words rest) ts h s;
  }

  -- CALLS

  give-read : (p : Name) (v : Atom) (ws inner : List (List ℕ)) (ts : List Token) → IsName p → ((us : List Token) → Spells source inner us → Read source (IsAtom source) unplaced_atom v ws us) → Spells source (p.text ∷ codes "=" ∷ inner) ts → Read source (IsBind source) unplaced_bind (bind.Give p v) ws ts
  give-read p v ws inner _ h f (and_token _ n sn (and_token _ e se {ts} r)) =
      let q = f ts r in record {
        front = n ∷ e ∷ q.front;
        back = q.back;
        made = bind.Give (name_of source n) q.made;
        whole = ap (λ z. n ∷ e ∷ z) q.whole;
        left = q.left;
        is = give n e (name-is source p n h sn) (term-is source (term.Just kind.Assign) (codes "=") e se refl) q.is;
        same = ap (λ z. bind.Give z (unplaced_atom q.made)) (same-name source p n h.0 sn) ∙ ap (λ z. bind.Give (unplaced_name p) z) q.same;
      }

  take-read : (p v : Name) (ws : List (List ℕ)) (ts : List Token) → IsName p → IsName v → Spells source (p.text ∷ codes ">" ∷ v.text ∷ ws) ts → Read source (IsBind source) unplaced_bind (bind.Take p v) ws ts
  take-read p v ws _ h k (and_token _ n sn (and_token _ g sg (and_token _ x sx {ts} r))) = record {
    front = n ∷ g ∷ x ∷ [];
    back = ts;
    made = bind.Take (name_of source n) (name_of source x);
    whole = refl;
    left = r;
    is = take n g x (name-is source p n h sn) (term-is source (term.Just kind.Greater) (codes ">") g sg refl) (name-is source v x k sx);
    same = ap (λ z. bind.Take z (unplaced_name (name_of source x))) (same-name source p n h.0 sn) ∙ ap (λ z. bind.Take (unplaced_name p) z) (same-name source v x k.0 sx);
  }

  says-bind : (b : Bind) → IsBindFine b → Says source (IsBind source) unplaced_bind b (bind_marks b) (bind_text b)
  says-bind (bind.Give p v) h =
      let w = says-atom v h.1 in record {
        spaced = λ rest t s. word-mark p.text (Blank 32 ∷ lit (codes "=") ∷ Blank 32 ∷ atom_marks v rest) h.0.0 refl (blank-mark 32 (lit (codes "=") ∷ Blank 32 ∷ atom_marks v rest) refl refl (spaced-mark (codes "=") (atom_marks v rest) refl refl refl (λ m. refl) (w.spaced rest t s)));
        text = λ rest. ap (λ z. p.text ++ (codes " = " ++ z)) (w.text rest) ∙ (simp append_assoc);
        read = λ rest ts s. give-read p v (words rest) (words (atom_marks v rest)) ts h.0 (λ us r. w.read rest us r) s;
      }
  says-bind (bind.Take p v) h = record {
    spaced = λ rest t s. word-mark p.text (Blank 32 ∷ lit (codes ">") ∷ Blank 32 ∷ lit v.text ∷ rest) h.0.0 refl (blank-mark 32 (lit (codes ">") ∷ Blank 32 ∷ lit v.text ∷ rest) refl refl (spaced-mark (codes ">") (lit v.text ∷ rest) refl refl refl (λ m. refl) (word-mark v.text rest h.1.0 t s)));
    text = λ rest. simp append_assoc;
    read = λ rest ts s. take-read p v (words rest) ts h.0 h.1 s;
  }

  abbrev Binds : List Token → List Bind → Type 0
  Binds = Separated (IsBind source) (term.Just kind.Comma)

  call-end : (c : Call) (made : List Bind) (n o : Token) (ws : List (List ℕ)) (front back : List Token) → IsName c.callee → IsSpelled source c.callee.text n → IsSpelled source (codes "(") o → Binds front made → map unplaced_bind made ≡ map unplaced_bind c.binds → Spells source (codes ")" ∷ ws) back → Read source (IsCall source) unplaced_call c ws (n ∷ o ∷ (front ++ back))
  call-end c made n o ws front _ h sn so p w (and_token _ e s {ts} r) = record {
    front = n ∷ o ∷ (front ++ e ∷ []);
    back = ts;
    made = record { callee = name_of source n; binds = made };
    whole = ap (λ z. n ∷ o ∷ z) (sym (append_assoc front (e ∷ []) ts));
    left = r;
    is = call n o e (name-is source c.callee n h sn) (term-is source (term.Just kind.LeftParen) (codes "(") o so refl) p (term-is source (term.Just kind.RightParen) (codes ")") e s refl);
    same = ap (λ (z : Name). record { callee = z; binds = map unplaced_bind made }) (same-name source c.callee n h.0 sn) ∙ ap (λ (z : List Bind). record { callee = unplaced_name c.callee; binds = z }) w;
  }

  call-read : (c : Call) (ws inner : List (List ℕ)) (ts : List Token) → IsName c.callee → ((us : List Token) → Spells source inner us → Read source Binds (map unplaced_bind) c.binds (codes ")" ∷ ws) us) → Spells source (c.callee.text ∷ codes "(" ∷ inner) ts → Read source (IsCall source) unplaced_call c ws ts
  call-read c ws inner _ h f (and_token _ n sn (and_token _ o so {ts} r)) =
      let q = f ts r in
      subst (λ z. Read source (IsCall source) unplaced_call c ws (n ∷ o ∷ z)) (sym q.whole) (call-end c q.made n o ws q.front q.back h sn so q.is q.same q.left)

  says-call : (c : Call) → IsCallFine c → Says source (IsCall source) unplaced_call c (call_marks c) (call_text c)
  says-call c h =
      let w = says-commas source (IsBind source) unplaced_bind IsBindFine bind_marks bind_text says-bind c.binds h.1 in record {
        spaced = λ rest t s. word-mark c.callee.text (lit (codes "(") ∷ commas_marks bind_marks c.binds (lit (codes ")") ∷ rest)) h.0.0 refl
            (sign-mark (codes "(") (commas_marks bind_marks c.binds (lit (codes ")") ∷ rest)) refl refl refl (λ d m. refl) (w.spaced (lit (codes ")") ∷ rest) refl (sign-mark (codes ")") rest refl refl refl (λ d m. refl) s)));
        text = λ rest. ap (λ z. c.callee.text ++ (codes "(" ++ z)) (w.text (lit (codes ")") ∷ rest)) ∙ (simp append_assoc);
        read = λ rest ts s. call-read c (words rest) (words (commas_marks bind_marks c.binds (lit (codes ")") ∷ rest))) ts h.0 (λ us r. w.read (lit (codes ")") ∷ rest) us r) s;
      }

  abbrev Then : List Token → Call → Type 0
  Then = CallThen source

  pub says-then : (c : Call) → IsCallFine c → SaysLine source Then unplaced_call c (ended (call_marks c)) (call_text c ++ codes ";\n")
  says-then c h = says-ended source (IsCall source) unplaced_call c (call_marks c) (call_text c) (says-call c h)

  says-call-line : (c : Call) → IsCallFine c → SaysLine source Then unplaced_call c (call_lines c) (call_line [] c)
  says-call-line c h = says-indented source One Then unplaced_call c (ended (call_marks c)) (call_text c ++ codes ";\n") (says-then c h)

  -- BODIES

  pub says-calls : (cs : List Call) → AllByRecursion IsCallFine cs → SaysLine source (Braced (Many Then)) (map unplaced_call) cs (braced_marks Top (lines_marks call_lines cs)) (codes "{\n" ++ flat_map (call_line []) cs ++ margin Top ++ codes "}\n")
  says-calls cs h = says-braced source Top (Many Then) (map unplaced_call) cs (lines_marks call_lines cs) (flat_map (call_line []) cs) (says-lines source Then unplaced_call IsCallFine call_lines (call_line []) says-call-line cs h)

  listed-is : (k : Token) {us : List Token} {cs : List Call} → Is term.Order k → Braced (Many Then) us cs → IsBody source (k ∷ us) (list_body k.kind cs)
  listed-is k i (brace o c j p l) = call_list k o c i j p l

  pub listed-read : (word : List ℕ) (b : List Call → Body) (cs : List Call) (ws inner : List (List ℕ)) (ts : List Token) → matches term.Order (token_kind word) ≡ true → ((xs : List Call) → list_body (token_kind word) xs ≡ b xs) → ((xs : List Call) → map unplaced_call xs ≡ map unplaced_call cs → unplaced_body (b xs) ≡ unplaced_body (b cs))
      → ((us : List Token) → Spells source inner us → Read source (Braced (Many Then)) (map unplaced_call) cs ws us) → Spells source (word ∷ inner) ts → Read source (IsBody source) unplaced_body (b cs) ws ts
  listed-read word b cs ws inner _ order is-b same-b f (and_token _ k sk {ts} r) =
      let q = f ts r in record {
        front = k ∷ q.front;
        back = q.back;
        made = list_body k.kind q.made;
        whole = ap (λ z. k ∷ z) q.whole;
        left = q.left;
        is = listed-is k (term-is source term.Order word k sk order) q.is;
        same = ap unplaced_body (ap (λ z. list_body z q.made) sk.kind ∙ is-b q.made) ∙ same-b q.made q.same;
      }

  loop-is : (k : Token) {us : List Token} {c : Call} → Is (term.Just kind.Loop) k → Braced Then us c → IsBody source (k ∷ us) (body.Loop c)
  loop-is k i (brace o c j p l) = loop k o c i j p l

  loop-read : (c : Call) (ws inner : List (List ℕ)) (ts : List Token) → ((us : List Token) → Spells source inner us → Read source (Braced Then) unplaced_call c ws us) → Spells source (codes "loop" ∷ inner) ts → Read source (IsBody source) unplaced_body (body.Loop c) ws ts
  loop-read c ws inner _ f (and_token _ k sk {ts} r) =
      let q = f ts r in record { front = k ∷ q.front; back = q.back; made = body.Loop q.made; whole = ap (λ z. k ∷ z) q.whole; left = q.left; is = loop-is k (term-is source (term.Just kind.Loop) (codes "loop") k sk refl) q.is; same = ap (λ z. body.Loop z) q.same }

  iterated-is : (k n : Token) {us : List Token} {c : Call} → Is (term.Just kind.Iterated) k → Is term.Count n → Braced Then us c → IsBody source (k ∷ n ∷ us) (body.Iterated (count_of source n) c)
  iterated-is k n i h (brace o c j p l) = iterated k n o c i h j p l

  iterated-read : (word : List ℕ) (x : Count) (c : Call) (ws inner : List (List ℕ)) (ts : List Token) → ((n : Token) → IsSpelled source word n → Is term.Count n × (unplaced_count (count_of source n) ≡ unplaced_count x)) → ((us : List Token) → Spells source inner us → Read source (Braced Then) unplaced_call c ws us)
      → Spells source (codes "iterated" ∷ word ∷ inner) ts → Read source (IsBody source) unplaced_body (body.Iterated x c) ws ts
  iterated-read word x c ws inner _ g f (and_token _ k sk (and_token _ n sn {ts} r)) =
      let q = f ts r in
      let y = g n sn in record {
        front = k ∷ n ∷ q.front;
        back = q.back;
        made = body.Iterated (count_of source n) q.made;
        whole = ap (λ z. k ∷ n ∷ z) q.whole;
        left = q.left;
        is = iterated-is k n (term-is source (term.Just kind.Iterated) (codes "iterated") k sk refl) y.0 q.is;
        same = ap (λ z. body.Iterated z (unplaced_call q.made)) y.1 ∙ ap (λ z. body.Iterated (unplaced_count x) z) q.same;
      }

  number-count : (m : ℕ) (span : Span) → nat_lt m (2 ^ 63) ≡ true → (n : Token) → IsSpelled source (decimal m) n → Is term.Count n × (unplaced_count (count_of source n) ≡ unplaced_count (count.Int (pos m) span))
  number-count m span h n s =
      let k = number-token source m n h s in
      (ap (matches term.Count) k.0, ap (λ x. unplaced_count (count_by x source n)) k.0 ∙ ap (λ x. count.Int x nowhere) k.1)

  name-count : (x : Name) → IsName x → (n : Token) → IsSpelled source x.text n → Is term.Count n × (unplaced_count (count_of source n) ≡ unplaced_count (count.Param x))
  name-count x h n s =
      let k : n.kind ≡ kind.Name = s.kind ∙ name-kind x h in
      (ap (matches term.Count) k, ap (λ z. unplaced_count (count_by z source n)) k ∙ ap (λ z. count.Param z) (same-name source x n h.0 s))

  pub says-once : (c : Call) → IsCallFine c → SaysLine source (Braced Then) unplaced_call c (braced_marks Top (call_lines c)) (codes "{\n" ++ call_line [] c ++ margin Top ++ codes "}\n")
  says-once c h = says-braced source Top Then unplaced_call c (call_lines c) (call_line [] c) (says-call-line c h)

-- the calls of a conditional
record Branches : Type 0 where
  test : Call
  chosen : Call
  otherwise : Option Call

abbrev bare_branches : Branches → Branches
bare_branches b = record { test = unplaced_call b.test; chosen = unplaced_call b.chosen; otherwise = unplaced_else b.otherwise }

data IsBranches (source : List ℕ) : List Token → Branches → Type 0 where
  branches : (i h : Token) {ts us vs : List Token} {a b : Call} {e : Option Call} → Is (term.Just kind.If) i → CallThen source ts a → Is (term.Just kind.Then) h → CallThen source us b → Optional (After (term.Just kind.Else) (CallThen source)) vs e
      → IsBranches source (i ∷ (ts ++ (h ∷ (us ++ vs)))) (record { test = a; chosen = b; otherwise = e })

module _ (source : List ℕ) where
  abbrev Otherwise : List Token → Option Call → Type 0
  Otherwise = Optional (After (term.Just kind.Else) (CallThen source))

  else-read : (c : Call) (ws inner : List (List ℕ)) (ts : List Token) → ((us : List Token) → Spells source inner us → Read source (CallThen source) unplaced_call c ws us) → Spells source (codes "else" ∷ inner) ts → Read source Otherwise unplaced_else (Some c) ws ts
  else-read c ws inner _ f (and_token _ k sk {ts} r) =
      let q = f ts r in record { front = k ∷ q.front; back = q.back; made = Some q.made; whole = ap (λ z. k ∷ z) q.whole; left = q.left; is = present (after_token k (term-is source (term.Just kind.Else) (codes "else") k sk refl) q.is); same = ap (λ z. Some z) q.same }

  says-else : (e : Option Call) → IsElseFine e → SaysLine source Otherwise unplaced_else e (else_marks e) (else_line e)
  says-else None h = record {
    spaced = λ rest s. s;
    text = λ rest. refl;
    read = λ rest ts s. record { front = []; back = ts; made = None; whole = refl; left = s; is = absent; same = refl };
  }
  says-else (Some c) h =
      let w = says-then source c h in
      says-indented source One Otherwise unplaced_else (Some c) (λ rest. lit (codes "else") ∷ Blank 32 ∷ ended (call_marks c) rest) ((codes "else " ++ call_text c) ++ codes ";\n") (record {
        spaced = λ rest s. spaced-mark (codes "else") (ended (call_marks c) rest) refl refl refl (λ m. refl) (w.spaced rest s);
        text = λ rest. ap (λ z. codes "else " ++ z) (w.text rest) ∙ (simp append_assoc);
        read = λ rest ts s. else-read c (words rest) (words (ended (call_marks c) rest)) ts (λ us r. w.read rest us r) s;
      })

  abbrev branch_marks : Call → Call → Option Call → List Mark → List Mark
  branch_marks a b e rest = spaces One (lit (codes "if") ∷ Blank 32 ∷ ended (call_marks a) (spaces One (lit (codes "then") ∷ Blank 32 ∷ ended (call_marks b) (else_marks e rest))))

  then-end : (a b : Call) (e : Option Call) (i : Token) (ws inner more : List (List ℕ)) (front back : List Token) (made : Call) → IsSpelled source (codes "if") i → CallThen source front made → unplaced_call made ≡ unplaced_call a
      → ((us : List Token) → Spells source inner us → Read source (CallThen source) unplaced_call b more us) → ((us : List Token) → Spells source more us → Read source Otherwise unplaced_else e ws us) → Spells source (codes "then" ∷ inner) back
      → Read source (IsBranches source) bare_branches (record { test = a; chosen = b; otherwise = e }) ws (i ∷ (front ++ back))
  then-end a b e i ws inner more front _ made si p w f g (and_token _ h sh {ts} r) =
      let q = f ts r in
      let o = g q.back q.left in record {
        front = i ∷ (front ++ (h ∷ (q.front ++ o.front)));
        back = o.back;
        made = record { test = made; chosen = q.made; otherwise = o.made };
        whole = ap (λ z. i ∷ (front ++ (h ∷ z))) (q.whole ∙ ap (λ z. q.front ++ z) o.whole ∙ sym (append_assoc q.front o.front o.back)) ∙ ap (λ z. i ∷ z) (sym (append_assoc front (h ∷ (q.front ++ o.front)) o.back));
        left = o.left;
        is = branches i h (term-is source (term.Just kind.If) (codes "if") i si refl) p (term-is source (term.Just kind.Then) (codes "then") h sh refl) q.is o.is;
        same = ap (λ (z : Call). record { test = z; chosen = unplaced_call q.made; otherwise = unplaced_else o.made }) w
            ∙ ap (λ (z : Call). record { test = unplaced_call a; chosen = z; otherwise = unplaced_else o.made }) q.same
            ∙ ap (λ (z : Option Call). record { test = unplaced_call a; chosen = unplaced_call b; otherwise = z }) o.same;
      }

  branches-read : (a b : Call) (e : Option Call) (ws first inner more : List (List ℕ)) (ts : List Token) → ((us : List Token) → Spells source first us → Read source (CallThen source) unplaced_call a (codes "then" ∷ inner) us)
      → ((us : List Token) → Spells source inner us → Read source (CallThen source) unplaced_call b more us) → ((us : List Token) → Spells source more us → Read source Otherwise unplaced_else e ws us) → Spells source (codes "if" ∷ first) ts
      → Read source (IsBranches source) bare_branches (record { test = a; chosen = b; otherwise = e }) ws ts
  branches-read a b e ws first inner more _ k f g (and_token _ i si {ts} r) =
      let q = k ts r in
      subst (λ z. Read source (IsBranches source) bare_branches (record { test = a; chosen = b; otherwise = e }) ws (i ∷ z)) (sym q.whole) (then-end a b e i ws inner more q.front q.back q.made si q.is q.same f g q.left)

  abbrev branch_text : Call → Call → Option Call → List ℕ
  branch_text a b e = call_line (codes "if ") a ++ call_line (codes "then ") b ++ else_line e

  says-branches : (a b : Call) (e : Option Call) → IsCallFine a → IsCallFine b → IsElseFine e → SaysLine source (IsBranches source) bare_branches (record { test = a; chosen = b; otherwise = e }) (branch_marks a b e) (branch_text a b e)
  says-branches a b e h k l =
      let u = says-then source a h in
      let v = says-then source b k in
      let w = says-else e l in record {
        spaced = λ rest s. blank-mark 32 (Blank 32 ∷ lit (codes "if") ∷ Blank 32 ∷ ended (call_marks a) (spaces One (lit (codes "then") ∷ Blank 32 ∷ ended (call_marks b) (else_marks e rest)))) refl refl
            (blank-mark 32 (lit (codes "if") ∷ Blank 32 ∷ ended (call_marks a) (spaces One (lit (codes "then") ∷ Blank 32 ∷ ended (call_marks b) (else_marks e rest)))) refl refl
            (spaced-mark (codes "if") (ended (call_marks a) (spaces One (lit (codes "then") ∷ Blank 32 ∷ ended (call_marks b) (else_marks e rest)))) refl refl refl (λ m. refl)
            (u.spaced (spaces One (lit (codes "then") ∷ Blank 32 ∷ ended (call_marks b) (else_marks e rest)))
            (blank-mark 32 (Blank 32 ∷ lit (codes "then") ∷ Blank 32 ∷ ended (call_marks b) (else_marks e rest)) refl refl
            (blank-mark 32 (lit (codes "then") ∷ Blank 32 ∷ ended (call_marks b) (else_marks e rest)) refl refl
            (spaced-mark (codes "then") (ended (call_marks b) (else_marks e rest)) refl refl refl (λ m. refl) (v.spaced (else_marks e rest) (w.spaced rest s))))))));
        text = λ rest. ap (λ z. codes "  if " ++ z) (u.text (spaces One (lit (codes "then") ∷ Blank 32 ∷ ended (call_marks b) (else_marks e rest)))
            ∙ ap (λ z. (call_text a ++ codes ";\n") ++ (codes "  then " ++ z)) (v.text (else_marks e rest) ∙ ap (λ z. (call_text b ++ codes ";\n") ++ z) (w.text rest))) ∙ (simp append_assoc);
        read = λ rest ts s. branches-read a b e (words rest) (words (ended (call_marks a) (spaces One (lit (codes "then") ∷ Blank 32 ∷ ended (call_marks b) (else_marks e rest))))) (words (ended (call_marks b) (else_marks e rest))) (words (else_marks e rest)) ts
            (λ us r. u.read (spaces One (lit (codes "then") ∷ Blank 32 ∷ ended (call_marks b) (else_marks e rest))) us r) (λ us r. v.read (else_marks e rest) us r) (λ us r. w.read rest us r) s;
      }

  conditional-is : (k : Token) {us : List Token} {x : Branches} → Is (term.Just kind.Conditional) k → Braced (IsBranches source) us x → IsBody source (k ∷ us) (body.Conditional x.test x.chosen x.otherwise)
  conditional-is k i (brace o c j (branches f h {ts} {us} {vs} {a} {b} {e} p q r s t) l) =
      subst (λ z. IsBody source (k ∷ o ∷ f ∷ z) (body.Conditional a b e))
      (sym (append_assoc ts (h ∷ (us ++ vs)) (c ∷ []) ∙ ap (λ z. ts ++ (h ∷ z)) (append_assoc us vs (c ∷ []))))
      (conditional k o f h c i j p q r s t l)

  abbrev as_body : Branches → Body
  as_body x = body.Conditional x.test x.chosen x.otherwise

  conditional-read : (x : Branches) (ws inner : List (List ℕ)) (ts : List Token) → ((us : List Token) → Spells source inner us → Read source (Braced (IsBranches source)) bare_branches x ws us) → Spells source (codes "conditional" ∷ inner) ts → Read source (IsBody source) unplaced_body (as_body x) ws ts
  conditional-read x ws inner _ f (and_token _ k sk {ts} r) =
      let q = f ts r in record {
        front = k ∷ q.front;
        back = q.back;
        made = as_body q.made;
        whole = ap (λ z. k ∷ z) q.whole;
        left = q.left;
        is = conditional-is k (term-is source (term.Just kind.Conditional) (codes "conditional") k sk refl) q.is;
        same = ap as_body q.same;
      }

abbrev pub body_marks : Body → List Mark → List Mark
body_marks (body.Sequential cs) rest = lit (codes "sequential") ∷ Blank 32 ∷ braced_marks Top (lines_marks call_lines cs) rest
body_marks (body.Independent cs) rest = lit (codes "independent") ∷ Blank 32 ∷ braced_marks Top (lines_marks call_lines cs) rest
body_marks (body.Priority cs) rest = lit (codes "priority") ∷ Blank 32 ∷ braced_marks Top (lines_marks call_lines cs) rest
body_marks (body.Conditional a b e) rest = lit (codes "conditional") ∷ Blank 32 ∷ braced_marks Top (λ more. spaces One (lit (codes "if") ∷ Blank 32 ∷ ended (call_marks a) (spaces One (lit (codes "then") ∷ Blank 32 ∷ ended (call_marks b) (else_marks e more))))) rest
body_marks (body.Loop c) rest = lit (codes "loop") ∷ Blank 32 ∷ braced_marks Top (call_lines c) rest
body_marks (body.Iterated n c) rest = lit (codes "iterated") ∷ Blank 32 ∷ count_marks n (Blank 32 ∷ braced_marks Top (call_lines c) rest)

regroup : (i d k l m e r : List ℕ) → i ++ (d ++ ((((k ++ l) ++ m) ++ e) ++ r)) ≡ (((((i ++ d) ++ k) ++ l) ++ m) ++ e) ++ r
regroup i d k l m e r = simp append_assoc

abbrev pub body_text : Body → List ℕ
body_text b = body_kind b ++ codes " {\n" ++ body_lines b ++ margin Top ++ codes "}\n"

module _ (source : List ℕ) where
  pub says-body : (b : Body) → IsBodyFine b → SaysLine source (IsBody source) unplaced_body b (body_marks b) (body_text b)
  says-body (body.Sequential cs) h =
      let w = says-calls source cs h in record {
        spaced = λ rest s. spaced-mark (codes "sequential") (braced_marks Top (lines_marks call_lines cs) rest) refl refl refl (λ m. refl) (w.spaced rest s);
        text = λ rest. ap (λ z. codes "sequential " ++ z) (w.text rest);
        read = λ rest ts s. listed-read source (codes "sequential") (λ xs. body.Sequential xs) cs (words rest) (words (braced_marks Top (lines_marks call_lines cs) rest)) ts refl (λ xs. refl) (λ xs e. ap (λ z. body.Sequential z) e) (λ us r. w.read rest us r) s;
      }
  says-body (body.Independent cs) h =
      let w = says-calls source cs h in record {
        spaced = λ rest s. spaced-mark (codes "independent") (braced_marks Top (lines_marks call_lines cs) rest) refl refl refl (λ m. refl) (w.spaced rest s);
        text = λ rest. ap (λ z. codes "independent " ++ z) (w.text rest);
        read = λ rest ts s. listed-read source (codes "independent") (λ xs. body.Independent xs) cs (words rest) (words (braced_marks Top (lines_marks call_lines cs) rest)) ts refl (λ xs. refl) (λ xs e. ap (λ z. body.Independent z) e) (λ us r. w.read rest us r) s;
      }
  says-body (body.Priority cs) h =
      let w = says-calls source cs h in record {
        spaced = λ rest s. spaced-mark (codes "priority") (braced_marks Top (lines_marks call_lines cs) rest) refl refl refl (λ m. refl) (w.spaced rest s);
        text = λ rest. ap (λ z. codes "priority " ++ z) (w.text rest);
        read = λ rest ts s. listed-read source (codes "priority") (λ xs. body.Priority xs) cs (words rest) (words (braced_marks Top (lines_marks call_lines cs) rest)) ts refl (λ xs. refl) (λ xs e. ap (λ z. body.Priority z) e) (λ us r. w.read rest us r) s;
      }
  says-body (body.Conditional a b e) h =
      let x : Branches = record { test = a; chosen = b; otherwise = e } in
      let w = says-braced source Top (IsBranches source) bare_branches x (branch_marks source a b e) (branch_text source a b e) (says-branches source a b e h.0 h.1 h.2) in record {
        spaced = λ rest s. spaced-mark (codes "conditional") (braced_marks Top (branch_marks source a b e) rest) refl refl refl (λ m. refl) (w.spaced rest s);
        text = λ rest. ap (λ z. codes "conditional " ++ z) (w.text rest);
        read = λ rest ts s. conditional-read source x (words rest) (words (braced_marks Top (branch_marks source a b e) rest)) ts (λ us r. w.read rest us r) s;
      }
  says-body (body.Loop c) h =
      let w = says-once source c h in record {
        spaced = λ rest s. spaced-mark (codes "loop") (braced_marks Top (call_lines c) rest) refl refl refl (λ m. refl) (w.spaced rest s);
        text = λ rest. ap (λ z. codes "loop " ++ z) (w.text rest);
        read = λ rest ts s. loop-read source c (words rest) (words (braced_marks Top (call_lines c) rest)) ts (λ us r. w.read rest us r) s;
      }
  says-body (body.Iterated (count.Int (pos m) span) c) h =
      let w = says-once source c h.1 in record {
        spaced = λ rest s. spaced-mark (codes "iterated") (lit (decimal m) ∷ Blank 32 ∷ braced_marks Top (call_lines c) rest) refl refl refl (λ m. refl) (number-mark m (Blank 32 ∷ braced_marks Top (call_lines c) rest) h.0 refl (blank-mark 32 (braced_marks Top (call_lines c) rest) refl refl (w.spaced rest s)));
        text = λ rest. ap (λ z. codes "iterated " ++ (decimal m ++ (32 ∷ z))) (w.text rest) ∙ regroup (codes "iterated ") (decimal m) (codes " {\n") (call_line [] c) [] (codes "}\n") (written rest);
        read = λ rest ts s. iterated-read source (decimal m) (count.Int (pos m) span) c (words rest) (words (braced_marks Top (call_lines c) rest)) ts (number-count source m span h.0) (λ us r. w.read rest us r) s;
      }
  says-body (body.Iterated (count.Int (negsuc m) span) c) h = cc (h.0)
  says-body (body.Iterated (count.Param n) c) h =
      let w = says-once source c h.1 in record {
        spaced = λ rest s. spaced-mark (codes "iterated") (lit n.text ∷ Blank 32 ∷ braced_marks Top (call_lines c) rest) refl refl refl (λ m. refl) (word-mark n.text (Blank 32 ∷ braced_marks Top (call_lines c) rest) h.0.0 refl (blank-mark 32 (braced_marks Top (call_lines c) rest) refl refl (w.spaced rest s)));
        text = λ rest. ap (λ z. codes "iterated " ++ (n.text ++ (32 ∷ z))) (w.text rest) ∙ regroup (codes "iterated ") n.text (codes " {\n") (call_line [] c) [] (codes "}\n") (written rest);
        read = λ rest ts s. iterated-read source n.text (count.Param n) c (words rest) (words (braced_marks Top (call_lines c) rest)) ts (name-count source n h.0) (λ us r. w.read rest us r) s;
      }
