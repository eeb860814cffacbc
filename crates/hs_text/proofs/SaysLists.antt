use Rattle.std.proofs.Common.{ℕ, ◌≡◌, List, [], ◌∷◌, ◌++◌, map, true, codes, refl, ap, sym, subst, ◌∙◌, append_assoc}
use Rattle.std.specs.List.{AllByRecursion, flat_map}
use Rattle.hs_tokens.specs.declared.token.Kind.TheVariants as kind
use Rattle.hs_tokens.specs.declared.token.Token.{Token}
use Rattle.hs_text.specs.declared.grammar.Term.TheVariants as term
use Rattle.hs_text.specs.Terms.{Is}
use Rattle.hs_text.specs.Lists.{Many, none, more, After, after_token, Before, before, Separated, no_items, items}
use Rattle.hs_text.specs.Canonical.{commas}
use Rattle.hs_text.proofs.Marks.{Mark, Lexeme, Blank, spelled, written, words, IsSpaced, stops, sign-mark, spaced-mark, blank-mark, IsSpelled, Spells, and_token}
use Rattle.hs_text.proofs.Says.{Read, Says, term-is}

-- LISTS, LINES AND BLOCKS

-- As `Says`, whatever follows.
pub record SaysLine {X : Type 0} (source : List ℕ) (P : List Token → X → Type 0) (bare : X → X) (x : X) (marks : List Mark → List Mark) (bytes : List ℕ) : Type 0 where
  pub spaced : (rest : List Mark) → IsSpaced rest → IsSpaced (marks rest)
  pub text : (rest : List Mark) → written (marks rest) ≡ bytes ++ written rest
  pub read : (rest : List Mark) (ts : List Token) → Spells source (words (marks rest)) ts → Read source P bare x (words rest) ts

abbrev pub semicolon : Mark
semicolon = Lexeme (codes ";") (codes ";")

abbrev pub comma : Mark
comma = Lexeme (codes ",") (codes ",")

-- how far a line is from the left
pub data Depth : Type 0 where
  Top : Depth
  One : Depth
  Two : Depth

abbrev pub spaces : Depth → List Mark → List Mark
spaces Top ms = ms
spaces One ms = Blank 32 ∷ Blank 32 ∷ ms
spaces Two ms = Blank 32 ∷ Blank 32 ∷ Blank 32 ∷ Blank 32 ∷ ms

abbrev pub margin : Depth → List ℕ
margin Top = []
margin One = codes "  "
margin Two = codes "    "

pub spaces-spaced : (n : Depth) (ms : List Mark) → IsSpaced ms → IsSpaced (spaces n ms)
spaces-spaced Top ms s = s
spaces-spaced One ms s = blank-mark 32 (Blank 32 ∷ ms) refl refl (blank-mark 32 ms refl refl s)
spaces-spaced Two ms s = blank-mark 32 (Blank 32 ∷ Blank 32 ∷ Blank 32 ∷ ms) refl refl (blank-mark 32 (Blank 32 ∷ Blank 32 ∷ ms) refl refl (blank-mark 32 (Blank 32 ∷ ms) refl refl (blank-mark 32 ms refl refl s)))

pub spaces-words : (n : Depth) (ms : List Mark) → words (spaces n ms) ≡ words ms
spaces-words Top ms = refl
spaces-words One ms = refl
spaces-words Two ms = refl

pub spaces-written : (n : Depth) (ms : List Mark) → written (spaces n ms) ≡ margin n ++ written ms
spaces-written Top ms = refl
spaces-written One ms = refl
spaces-written Two ms = refl

abbrev pub ended : (List Mark → List Mark) → List Mark → List Mark
ended marks rest = marks (semicolon ∷ Blank 10 ∷ rest)

pub end-spaced : (rest : List Mark) → IsSpaced rest → IsSpaced (semicolon ∷ Blank 10 ∷ rest)
end-spaced rest s = sign-mark (codes ";") (Blank 10 ∷ rest) refl refl refl (λ d m. refl) (blank-mark 10 rest refl refl s)

abbrev pub lines_marks : {X : Type 0} → (X → List Mark → List Mark) → List X → List Mark → List Mark
lines_marks f [] rest = rest
lines_marks f (x ∷ xs) rest = f x (lines_marks f xs rest)

abbrev pub more_marks : {X : Type 0} → (X → List Mark → List Mark) → List X → List Mark → List Mark
more_marks f [] rest = rest
more_marks f (x ∷ xs) rest = comma ∷ Blank 32 ∷ f x (more_marks f xs rest)

abbrev pub commas_marks : {X : Type 0} → (X → List Mark → List Mark) → List X → List Mark → List Mark
commas_marks f [] rest = rest
commas_marks f (x ∷ xs) rest = f x (more_marks f xs rest)

-- `{ x }`, as a block
pub data Braced {X : Type 0} (P : List Token → X → Type 0) : List Token → X → Type 0 where
  brace : (o c : Token) {ts : List Token} {x : X} → Is (term.Just kind.LeftBrace) o → P ts x → Is (term.Just kind.RightBrace) c → Braced P (o ∷ (ts ++ c ∷ [])) x

abbrev pub closing : Depth → List Mark → List Mark
closing n rest = spaces n (Lexeme (codes "}") (codes "}") ∷ Blank 10 ∷ rest)

abbrev pub braced_marks : Depth → (List Mark → List Mark) → List Mark → List Mark
braced_marks n inner rest = Lexeme (codes "{") (codes "{") ∷ Blank 10 ∷ inner (closing n rest)

module _ (source : List ℕ) where
  -- a line with its semicolon
  ended-read : {X : Type 0} (P : List Token → X → Type 0) (bare : X → X) (x made : X) (ws : List (List ℕ)) (front back : List Token) → P front made → bare made ≡ bare x → Spells source (codes ";" ∷ ws) back → Read source (Before P (term.Just kind.Semicolon)) bare x ws (front ++ back)
  ended-read P bare x made ws front _ p w (and_token _ t s {ts} r) = record {
    front = front ++ t ∷ [];
    back = ts;
    made = made;
    whole = sym (append_assoc front (t ∷ []) ts);
    left = r;
    is = before t p (term-is source (term.Just kind.Semicolon) (codes ";") t s refl);
    same = w;
  }

  pub says-ended : {X : Type 0} (P : List Token → X → Type 0) (bare : X → X) (x : X) (marks : List Mark → List Mark) (bytes : List ℕ) → Says source P bare x marks bytes → SaysLine source (Before P (term.Just kind.Semicolon)) bare x (ended marks) (bytes ++ codes ";\n")
  says-ended P bare x marks bytes w = record {
    spaced = λ rest s. w.spaced (semicolon ∷ Blank 10 ∷ rest) refl (end-spaced rest s);
    text = λ rest. w.text (semicolon ∷ Blank 10 ∷ rest) ∙ sym (append_assoc bytes (codes ";\n") (written rest));
    read = λ rest ts s.
        let q = w.read (semicolon ∷ Blank 10 ∷ rest) ts s in
        subst (λ z. Read source (Before P (term.Just kind.Semicolon)) bare x (words rest) z) (sym q.whole) (ended-read P bare x q.made (words rest) q.front q.back q.is q.same q.left);
  }

  -- at a margin
  pub says-indented : {X : Type 0} (n : Depth) (P : List Token → X → Type 0) (bare : X → X) (x : X) (marks : List Mark → List Mark) (bytes : List ℕ) → SaysLine source P bare x marks bytes → SaysLine source P bare x (λ rest. spaces n (marks rest)) (margin n ++ bytes)
  says-indented n P bare x marks bytes w = record {
    spaced = λ rest s. spaces-spaced n (marks rest) (w.spaced rest s);
    text = λ rest. spaces-written n (marks rest) ∙ ap (λ z. margin n ++ z) (w.text rest) ∙ sym (append_assoc (margin n) bytes (written rest));
    read = λ rest ts s. w.read rest ts (subst (λ z. Spells source z ts) (spaces-words n (marks rest)) s);
  }

  -- lines
  pub line-then : {X : Type 0} (P : List Token → X → Type 0) (bare : X → X) (x : X) (xs : List X) (ws inner : List (List ℕ)) (front back : List Token) (made : X) → P front made → bare made ≡ bare x → Spells source inner back
      → ((us : List Token) → Spells source inner us → Read source (Many P) (map bare) xs ws us) → Read source (Many P) (map bare) (x ∷ xs) ws (front ++ back)
  line-then P bare x xs ws inner front back made p w s f =
      let q = f back s in record {
        front = front ++ q.front;
        back = q.back;
        made = made ∷ q.made;
        whole = ap (λ z. front ++ z) q.whole ∙ sym (append_assoc front q.front q.back);
        left = q.left;
        is = more p q.is;
        same = ap (λ z. z ∷ map bare q.made) w ∙ ap (λ z. bare x ∷ z) q.same;
      }

  pub says-lines : {X : Type 0} (P : List Token → X → Type 0) (bare : X → X) (fine : X → Type 0) (marks : X → List Mark → List Mark) (bytes : X → List ℕ) → ((x : X) → fine x → SaysLine source P bare x (marks x) (bytes x))
      → (xs : List X) → AllByRecursion fine xs → SaysLine source (Many P) (map bare) xs (lines_marks marks xs) (flat_map bytes xs)
  says-lines P bare fine marks bytes f [] h = record {
    spaced = λ rest s. s;
    text = λ rest. refl;
    read = λ rest ts s. record { front = []; back = ts; made = []; whole = refl; left = s; is = none; same = refl };
  }
  says-lines P bare fine marks bytes f (x ∷ xs) h =
      let w = f x h.0 in
      let v = says-lines P bare fine marks bytes f xs h.1 in record {
        spaced = λ rest s. w.spaced (lines_marks marks xs rest) (v.spaced rest s);
        text = λ rest. w.text (lines_marks marks xs rest) ∙ ap (λ z. bytes x ++ z) (v.text rest) ∙ sym (append_assoc (bytes x) (flat_map bytes xs) (written rest));
        read = λ rest ts s.
            let q = w.read (lines_marks marks xs rest) ts s in
            subst (λ z. Read source (Many P) (map bare) (x ∷ xs) (words rest) z) (sym q.whole) (line-then P bare x xs (words rest) (words (lines_marks marks xs rest)) q.front q.back q.made q.is q.same q.left (λ us r. v.read rest us r));
      }

  -- lists with commas
  comma-read : {X : Type 0} (P : List Token → X → Type 0) (bare : X → X) (x : X) (ws inner : List (List ℕ)) (ts : List Token) → ((us : List Token) → Spells source inner us → Read source P bare x ws us) → Spells source (codes "," ∷ inner) ts → Read source (After (term.Just kind.Comma) P) bare x ws ts
  comma-read P bare x ws inner _ f (and_token _ t s {ts} r) =
      let q = f ts r in record {
        front = t ∷ q.front;
        back = q.back;
        made = q.made;
        whole = ap (λ z. t ∷ z) q.whole;
        left = q.left;
        is = after_token t (term-is source (term.Just kind.Comma) (codes ",") t s refl) q.is;
        same = q.same;
      }

  more-stop : {X : Type 0} (marks : X → List Mark → List Mark) (xs : List X) (rest : List Mark) → stops (spelled rest) ≡ true → stops (spelled (more_marks marks xs rest)) ≡ true
  more-stop marks [] rest t = t
  more-stop marks (x ∷ xs) rest t = refl

  says-more : {X : Type 0} (P : List Token → X → Type 0) (bare : X → X) (fine : X → Type 0) (marks : X → List Mark → List Mark) (bytes : X → List ℕ) → ((x : X) → fine x → Says source P bare x (marks x) (bytes x))
      → (xs : List X) → AllByRecursion fine xs → Says source (Many (After (term.Just kind.Comma) P)) (map bare) xs (more_marks marks xs) (flat_map (λ next. codes ", " ++ next) (map bytes xs))
  says-more P bare fine marks bytes f [] h = record {
    spaced = λ rest t s. s;
    text = λ rest. refl;
    read = λ rest ts s. record { front = []; back = ts; made = []; whole = refl; left = s; is = none; same = refl };
  }
  says-more P bare fine marks bytes f (x ∷ xs) h =
      let w = f x h.0 in
      let v = says-more P bare fine marks bytes f xs h.1 in record {
        spaced = λ rest t s. spaced-mark (codes ",") (marks x (more_marks marks xs rest)) refl refl refl (λ m. refl) (w.spaced (more_marks marks xs rest) (more-stop marks xs rest t) (v.spaced rest t s));
        text = λ rest. ap (λ z. codes ", " ++ z) (w.text (more_marks marks xs rest) ∙ ap (λ z. bytes x ++ z) (v.text rest) ∙ sym (append_assoc (bytes x) (flat_map (λ next. codes ", " ++ next) (map bytes xs)) (written rest)));
        read = λ rest ts s.
            let q = comma-read P bare x (words (more_marks marks xs rest)) (words (marks x (more_marks marks xs rest))) ts (λ us r. w.read (more_marks marks xs rest) us r) s in
            subst (λ z. Read source (Many (After (term.Just kind.Comma) P)) (map bare) (x ∷ xs) (words rest) z) (sym q.whole)
            (line-then (After (term.Just kind.Comma) P) bare x xs (words rest) (words (more_marks marks xs rest)) q.front q.back q.made q.is q.same q.left (λ us r. v.read rest us r));
      }

  first-then : {X : Type 0} (P : List Token → X → Type 0) (bare : X → X) (x : X) (xs : List X) (ws inner : List (List ℕ)) (front back : List Token) (made : X) → P front made → bare made ≡ bare x → Spells source inner back
      → ((us : List Token) → Spells source inner us → Read source (Many (After (term.Just kind.Comma) P)) (map bare) xs ws us) → Read source (Separated P (term.Just kind.Comma)) (map bare) (x ∷ xs) ws (front ++ back)
  first-then P bare x xs ws inner front back made p w s f =
      let q = f back s in record {
        front = front ++ q.front;
        back = q.back;
        made = made ∷ q.made;
        whole = ap (λ z. front ++ z) q.whole ∙ sym (append_assoc front q.front q.back);
        left = q.left;
        is = items p q.is;
        same = ap (λ z. z ∷ map bare q.made) w ∙ ap (λ z. bare x ∷ z) q.same;
      }

  pub says-commas : {X : Type 0} (P : List Token → X → Type 0) (bare : X → X) (fine : X → Type 0) (marks : X → List Mark → List Mark) (bytes : X → List ℕ) → ((x : X) → fine x → Says source P bare x (marks x) (bytes x))
      → (xs : List X) → AllByRecursion fine xs → Says source (Separated P (term.Just kind.Comma)) (map bare) xs (commas_marks marks xs) (commas (map bytes xs))
  says-commas P bare fine marks bytes f [] h = record {
    spaced = λ rest t s. s;
    text = λ rest. refl;
    read = λ rest ts s. record { front = []; back = ts; made = []; whole = refl; left = s; is = no_items; same = refl };
  }
  says-commas P bare fine marks bytes f (x ∷ xs) h =
      let w = f x h.0 in
      let v = says-more P bare fine marks bytes f xs h.1 in record {
        spaced = λ rest t s. w.spaced (more_marks marks xs rest) (more-stop marks xs rest t) (v.spaced rest t s);
        text = λ rest. w.text (more_marks marks xs rest) ∙ ap (λ z. bytes x ++ z) (v.text rest) ∙ sym (append_assoc (bytes x) (flat_map (λ next. codes ", " ++ next) (map bytes xs)) (written rest));
        read = λ rest ts s.
            let q = w.read (more_marks marks xs rest) ts s in
            subst (λ z. Read source (Separated P (term.Just kind.Comma)) (map bare) (x ∷ xs) (words rest) z) (sym q.whole)
            (first-then P bare x xs (words rest) (words (more_marks marks xs rest)) q.front q.back q.made q.is q.same q.left (λ us r. v.read rest us r));
      }

  -- blocks
  closed-brace : {X : Type 0} (P : List Token → X → Type 0) (bare : X → X) (x made : X) (o : Token) (ws : List (List ℕ)) (front back : List Token) → IsSpelled source (codes "{") o → P front made → bare made ≡ bare x → Spells source (codes "}" ∷ ws) back → Read source (Braced P) bare x ws (o ∷ (front ++ back))
  closed-brace P bare x made o ws front _ so p w (and_token _ c s {ts} r) = record {
    front = o ∷ (front ++ c ∷ []);
    back = ts;
    made = made;
    whole = ap (λ z. o ∷ z) (sym (append_assoc front (c ∷ []) ts));
    left = r;
    is = brace o c (term-is source (term.Just kind.LeftBrace) (codes "{") o so refl) p (term-is source (term.Just kind.RightBrace) (codes "}") c s refl);
    same = w;
  }

  braced-read : {X : Type 0} (P : List Token → X → Type 0) (bare : X → X) (x : X) (ws inner : List (List ℕ)) (ts : List Token) → ((us : List Token) → Spells source inner us → Read source P bare x (codes "}" ∷ ws) us) → Spells source (codes "{" ∷ inner) ts → Read source (Braced P) bare x ws ts
  braced-read P bare x ws inner _ f (and_token _ o so {ts} r) =
      let q = f ts r in
      subst (λ z. Read source (Braced P) bare x ws (o ∷ z)) (sym q.whole) (closed-brace P bare x q.made o ws q.front q.back so q.is q.same q.left)

  pub says-braced : {X : Type 0} (n : Depth) (P : List Token → X → Type 0) (bare : X → X) (x : X) (inner : List Mark → List Mark) (bytes : List ℕ) → SaysLine source P bare x inner bytes → SaysLine source (Braced P) bare x (braced_marks n inner) (codes "{\n" ++ bytes ++ margin n ++ codes "}\n")
  says-braced n P bare x inner bytes w = record {
    spaced = λ rest s. sign-mark (codes "{") (Blank 10 ∷ inner (closing n rest)) refl refl refl (λ d m. refl) (blank-mark 10 (inner (closing n rest)) refl refl (w.spaced (closing n rest)
        (spaces-spaced n (Lexeme (codes "}") (codes "}") ∷ Blank 10 ∷ rest) (sign-mark (codes "}") (Blank 10 ∷ rest) refl refl refl (λ d m. refl) (blank-mark 10 rest refl refl s)))));
    text = λ rest. ap (λ z. codes "{\n" ++ z) (w.text (closing n rest) ∙ ap (λ z. bytes ++ z) (spaces-written n (Lexeme (codes "}") (codes "}") ∷ Blank 10 ∷ rest))) ∙ (simp append_assoc);
    read = λ rest ts s. braced-read P bare x (words rest) (words (inner (closing n rest))) ts
        (λ us r. subst (λ z. Read source P bare x z us) (spaces-words n (Lexeme (codes "}") (codes "}") ∷ Blank 10 ∷ rest)) (w.read (closing n rest) us r)) s;
  }
