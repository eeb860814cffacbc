use Rattle.std.proofs.Common.{◌≡◌, ◌<◌, ◌≤◌, ◌+◌, ◌-◌, ◌++◌, ◌==◌, ℕ, List, [], ◌∷◌, length, take, drop, Bool, true, false, Option, cond, refl, sym, ap, subst, ◌∙◌, arith, append_assoc, option_to_list}
use Rattle.std.proofs.lemmas.List.{length-take-le, append-nil, length-drop, drop-drop}
use Rattle.std.proofs.Math.Seq.{take-add}
use Rattle.hs_tokens.specs.declared.token.Token.{Token}
use Rattle.hs_tokens.specs.declared.token.Position.{Position}
use Rattle.hs_tokens.specs.Tokens.{next, after, text_start}
use Rattle.hs_tokens.specs.Lexing.{Ending, Whole, Lexes, nothing}
use Rattle.hs_tokens.proofs.Longest.{no-more}
use Rattle.hs_tokens.specs.Scanning.{Advances}

pub after-append : (p : Position) (xs ys : List ℕ) → after p (xs ++ ys) ≡ after (after p xs) ys
after-append p [] ys = refl
after-append p (x ∷ xs) ys = after-append (next p x) xs ys

next-moves : (p : Position) (c : ℕ) → ((next p c).index ≡ p.index + 1) × ((next p c).line ≤ p.line + 1) × ((next p c).column ≤ p.column + 1)
next-moves p c = step (c == 10) where
  step : (t : Bool) → let q : Position = cond t (record { index = p.index + 1; line = p.line + 1; column = 1 }) (record { index = p.index + 1; line = p.line; column = p.column + 1 }) in (q.index ≡ p.index + 1) × (q.line ≤ p.line + 1) × (q.column ≤ p.column + 1)
  step true = (refl, (omega arith), omega arith)
  step false = (refl, (omega arith), omega arith)

-- the position moves by as many characters, and by at most as many lines and columns
pub record Moves (p q : Position) (n : ℕ) : Type 0 where
  pub index : q.index ≡ p.index + n
  pub line : q.line ≤ p.line + n
  pub column : q.column ≤ p.column + n

pub after-moves : (p : Position) (xs : List ℕ) → Moves p (after p xs) (length xs)
after-moves p [] = record { index = omega arith; line = omega arith; column = omega arith }
after-moves p (x ∷ xs) =
    let a = next-moves p x in
    let b = after-moves (next p x) xs in
    record { index = omega (arith, a.0, b.index); line = omega (arith, a.1, b.line); column = omega (arith, a.2, b.column) }

-- what is known of a text that is read so far
pub record ReadSoFar (chars : List ℕ) (position : Position) (tokens : List Token) : Type 0 where
  pub within : position.index ≤ length chars
  pub line : position.line ≤ position.index + 1
  pub column : position.column ≤ position.index + 1
  pub here : position ≡ after text_start (take position.index chars)
  pub onward : (ts : List Token) (e : Ending) → Lexes position (drop position.index chars) ts e → Lexes text_start chars (tokens ++ ts) e

pub read-on : (chars rest : List ℕ) (p q : Position) (tokens more : List Token) (n : ℕ) (found : Option Token) → ReadSoFar chars p tokens → rest ≡ drop p.index chars → Advances p rest n found
    → q ≡ after p (take n rest) → more ≡ tokens ++ option_to_list found → ReadSoFar chars q more × (p.index < q.index)
read-on chars rest p q tokens more n found so_far is_rest read is_q is_more =
    let len : length rest ≡ length chars - p.index = rw is_rest (length-drop p.index chars) in
    let taken : length (take n rest) ≡ n = length-take-le n rest read.within in
    let moves : Moves p q (length (take n rest)) = rw is_q (after-moves p (take n rest)) in
    let index : q.index ≡ p.index + n = moves.index ∙ ap (λ k. p.index + k) taken in
    let front : take q.index chars ≡ take p.index chars ++ take n rest = rw (index, is_rest) (take-add p.index n chars) in
    let behind : drop q.index chars ≡ drop n rest = rw (index, is_rest) (sym (drop-drop n p.index chars)) in (
      record {
        within = omega (arith, so_far.within, read.within);
        line = omega (arith, so_far.line, moves.line);
        column = omega (arith, so_far.column, moves.column);
        here = is_q ∙ ap (λ (x : Position). after x (take n rest)) so_far.here ∙ sym (ap (after text_start) front ∙ after-append text_start (take p.index chars) (take n rest));
        onward = λ ts e l.
            let a : Lexes (after p (take n rest)) (drop n rest) ts e = subst (λ (x : Position). Lexes x (drop n rest) ts e) is_q (subst (λ x. Lexes q x ts e) behind l) in
            let b : Lexes p (drop p.index chars) (option_to_list found ++ ts) e = subst (λ x. Lexes p x (option_to_list found ++ ts) e) is_rest (read.on ts e a) in
            subst (λ x. Lexes text_start chars x e) (sym (ap (λ x. x ++ ts) is_more ∙ append_assoc tokens (option_to_list found) ts)) (so_far.onward (option_to_list found ++ ts) e b);
      },
      omega (arith, read.some),
    )

pub read-whole : (chars : List ℕ) (p : Position) (tokens : List Token) → ReadSoFar chars p tokens → length chars ≤ p.index → Lexes text_start chars tokens Whole
read-whole chars p tokens so_far h =
    let e : drop p.index chars ≡ [] = no-more (drop p.index chars) (omega (arith, length-drop p.index chars)) in
    rw append-nil at (so_far.onward [] Whole (rw e nothing))
