use Rattle.std.proofs.Common.{ℕ, ◌≡◌, List, [], ◌∷◌, ◌++◌, map, true, codes, refl, ap, sym, subst, ◌∙◌, append_assoc, encode_utf8_all}
use Rattle.std.specs.List.{AllByRecursion, flat_map}
use Rattle.std.specs.Str.{chars, all_scalars}
use Rattle.std.proofs.lemmas.List.{append-nil}
use Rattle.std.proofs.lemmas.Str.{chars-encodes}
use Rattle.hs_expr.specs.declared.Name.{Name}
use Rattle.hs_tokens.specs.declared.token.Kind.TheVariants as kind
use Rattle.hs_tokens.specs.declared.token.Token.{Token}
use Rattle.hs_tokens.specs.Tokens.{text_start}
use Rattle.hs_text.specs.declared.grammar.Term.TheVariants as term
use Rattle.hs_text.specs.declared.syntax.Param.{Param}
use Rattle.hs_text.specs.declared.syntax.Item.{Item}
use Rattle.hs_text.specs.declared.syntax.Body.{Body}
use Rattle.hs_text.specs.declared.syntax.Rule.{Rule}
use Rattle.hs_text.specs.declared.syntax.Unit as units
use Rattle.hs_text.specs.declared.syntax.Definition.{Definition}
use Rattle.hs_text.specs.declared.syntax.Definition.TheVariants as definition
use Rattle.hs_text.specs.Terms.{Is}
use Rattle.hs_text.specs.Words.{name_of}
use Rattle.hs_text.specs.Lists.{Many, none}
use Rattle.hs_text.specs.Grammar.{IsParams, IsItem, IsBody, IsDefinition, rule, unit, IsText}
use Rattle.hs_text.specs.declared.syntax.Syntax.{Syntax}
use Rattle.hs_text.specs.Parsing.{AreTokens, IsSyntaxOf}
use Rattle.hs_text.proofs.Placeless.{text-bare}
use Rattle.hs_text.proofs.Spelt.{PositionsMove}
use Rattle.hs_text.proofs.ReadOnce.{LexedOnce, same-made}
use Rattle.hs_text.proofs.WellParsed.{well-parsed}
use Rattle.hs_text.specs.WellFormed.{IsName, IsItemFine, IsDefinitionFine}
use Rattle.hs_text.specs.Canonical.{params_text, item_text, body_kind, body_lines, definition_text, canonical_text}
use Rattle.hs_text.specs.Unplaced.{unplaced_name, unplaced_param, unplaced_item, unplaced_body, unplaced_definition, unplaced}
use Rattle.hs_text.proofs.Marks.{Mark, Blank, LexemesBegin, spelled, written, words, IsSpaced, tokens_from, marks-lex, marks-written, marks-scalars, marks-spell, spaced-mark, word-mark, blank-mark, IsSpelled, Spells, no_tokens, and_token}
use Rattle.hs_text.proofs.Says.{Read, term-is, name-is, same-name}
use Rattle.hs_text.proofs.SaysLists.{Top, SaysLine, lines_marks, Braced, brace, braced_marks, says-lines, says-braced, line-then}
use Rattle.hs_text.proofs.SaysParts.{lit, params_marks, says-params, item_marks, says-item}
use Rattle.hs_text.proofs.SaysUnits.{body_marks, says-body}

-- WHAT IS PRINTED IS READ BACK

abbrev definition_marks : Definition → List Mark → List Mark
definition_marks (definition.Rule r) rest = lit (codes "rule") ∷ Blank 32 ∷ lit r.name.text ∷ params_marks r.params (Blank 32 ∷ braced_marks Top (lines_marks item_marks r.items) rest)
definition_marks (definition.Unit u) rest = lit (codes "unit") ∷ Blank 32 ∷ lit u.name.text ∷ params_marks u.params (Blank 32 ∷ body_marks u.body rest)

regroup : (w n p k l m e r : List ℕ) → w ++ (n ++ (p ++ ((((k ++ l) ++ m) ++ e) ++ r))) ≡ ((((((w ++ n) ++ p) ++ k) ++ l) ++ m) ++ e) ++ r
regroup w n p k l m e r = simp append_assoc

regroup-unit : (w n p s b k l m e r : List ℕ) → w ++ (n ++ (p ++ (s ++ (((((b ++ k) ++ l) ++ m) ++ e) ++ r)))) ≡ ((((((((w ++ n) ++ p) ++ s) ++ b) ++ k) ++ l) ++ m) ++ e) ++ r
regroup-unit w n p s b k l m e r = simp append_assoc

module _ (source : List ℕ) where
  rule-is : (k n : Token) {us vs : List Token} {ps : List Param} {is : List Item} → Is (term.Just kind.Rule) k → Is (term.Just kind.Name) n → IsParams source us ps → Braced (Many (IsItem source)) vs is → IsDefinition source (k ∷ n ∷ (us ++ vs)) (definition.Rule (record { name = name_of source n; params = ps; items = is }))
  rule-is k n i h p (brace o c j q l) = rule k n o c i h p j q l

  rule-end : (r : Rule) (k n : Token) (ws inner : List (List ℕ)) (front back : List Token) (made : List Param) → IsName r.name → IsSpelled source (codes "rule") k → IsSpelled source r.name.text n → IsParams source front made → map unplaced_param made ≡ map unplaced_param r.params
      → ((us : List Token) → Spells source inner us → Read source (Braced (Many (IsItem source))) (map unplaced_item) r.items ws us) → Spells source inner back → Read source (IsDefinition source) unplaced_definition (definition.Rule r) ws (k ∷ n ∷ (front ++ back))
  rule-end r k n ws inner front back made h sk sn p w f s =
      let q = f back s in record {
        front = k ∷ n ∷ (front ++ q.front);
        back = q.back;
        made = definition.Rule (record { name = name_of source n; params = made; items = q.made });
        whole = ap (λ z. k ∷ n ∷ (front ++ z)) q.whole ∙ ap (λ z. k ∷ n ∷ z) (sym (append_assoc front q.front q.back));
        left = q.left;
        is = rule-is k n (term-is source (term.Just kind.Rule) (codes "rule") k sk refl) (name-is source r.name n h sn) p q.is;
        same = ap (λ (z : Name). definition.Rule (record { name = z; params = map unplaced_param made; items = map unplaced_item q.made })) (same-name source r.name n h.0 sn)
            ∙ ap (λ (z : List Param). definition.Rule (record { name = unplaced_name r.name; params = z; items = map unplaced_item q.made })) w
            ∙ ap (λ (z : List Item). definition.Rule (record { name = unplaced_name r.name; params = map unplaced_param r.params; items = z })) q.same;
      }

  rule-read : (r : Rule) (ws first inner : List (List ℕ)) (ts : List Token) → IsName r.name → ((us : List Token) → Spells source first us → Read source (IsParams source) (map unplaced_param) r.params inner us)
      → ((us : List Token) → Spells source inner us → Read source (Braced (Many (IsItem source))) (map unplaced_item) r.items ws us) → Spells source (codes "rule" ∷ r.name.text ∷ first) ts → Read source (IsDefinition source) unplaced_definition (definition.Rule r) ws ts
  rule-read r ws first inner _ h g f (and_token _ k sk (and_token _ n sn {ts} s)) =
      let q = g ts s in
      subst (λ z. Read source (IsDefinition source) unplaced_definition (definition.Rule r) ws (k ∷ n ∷ z)) (sym q.whole) (rule-end r k n ws inner q.front q.back q.made h sk sn q.is q.same f q.left)

  unit-read : (u : units.Unit) (ws first inner : List (List ℕ)) (ts : List Token) → IsName u.name → ((us : List Token) → Spells source first us → Read source (IsParams source) (map unplaced_param) u.params inner us)
      → ((us : List Token) → Spells source inner us → Read source (IsBody source) unplaced_body u.body ws us) → Spells source (codes "unit" ∷ u.name.text ∷ first) ts → Read source (IsDefinition source) unplaced_definition (definition.Unit u) ws ts
  unit-read u ws first inner _ h g f (and_token _ k sk (and_token _ n sn {ts} s)) =
      let p = g ts s in
      let q = f p.back p.left in record {
        front = k ∷ n ∷ (p.front ++ q.front);
        back = q.back;
        made = definition.Unit (record { name = name_of source n; params = p.made; body = q.made });
        whole = ap (λ z. k ∷ n ∷ z) (p.whole ∙ ap (λ z. p.front ++ z) q.whole ∙ sym (append_assoc p.front q.front q.back));
        left = q.left;
        is = unit k n (term-is source (term.Just kind.Unit) (codes "unit") k sk refl) (name-is source u.name n h sn) p.is q.is;
        same = ap (λ (z : Name). definition.Unit (record { name = z; params = map unplaced_param p.made; body = unplaced_body q.made })) (same-name source u.name n h.0 sn)
            ∙ ap (λ (z : List Param). definition.Unit (record { name = unplaced_name u.name; params = z; body = unplaced_body q.made })) p.same
            ∙ ap (λ (z : Body). definition.Unit (record { name = unplaced_name u.name; params = map unplaced_param u.params; body = z })) q.same;
      }

  says-definition : (d : Definition) → IsDefinitionFine d → SaysLine source (IsDefinition source) unplaced_definition d (definition_marks d) (definition_text d)
  says-definition (definition.Rule r) h =
      let p = says-params source r.params h.1 in
      let w = says-braced source Top (Many (IsItem source)) (map unplaced_item) r.items (lines_marks item_marks r.items) (flat_map item_text r.items) (says-lines source (IsItem source) unplaced_item IsItemFine item_marks item_text (says-item source) r.items h.2) in record {
        spaced = λ rest s. spaced-mark (codes "rule") (lit r.name.text ∷ params_marks r.params (Blank 32 ∷ braced_marks Top (lines_marks item_marks r.items) rest)) refl refl refl (λ m. refl)
            (word-mark r.name.text (params_marks r.params (Blank 32 ∷ braced_marks Top (lines_marks item_marks r.items) rest)) h.0.0 refl
            (p.spaced (Blank 32 ∷ braced_marks Top (lines_marks item_marks r.items) rest) (blank-mark 32 (braced_marks Top (lines_marks item_marks r.items) rest) refl refl (w.spaced rest s))));
        text = λ rest. ap (λ z. codes "rule " ++ (r.name.text ++ z)) (p.text (Blank 32 ∷ braced_marks Top (lines_marks item_marks r.items) rest) ∙ ap (λ z. params_text r.params ++ (32 ∷ z)) (w.text rest))
            ∙ regroup (codes "rule ") r.name.text (params_text r.params) (codes " {\n") (flat_map item_text r.items) [] (codes "}\n") (written rest);
        read = λ rest ts s. rule-read r (words rest) (words (params_marks r.params (Blank 32 ∷ braced_marks Top (lines_marks item_marks r.items) rest))) (words (braced_marks Top (lines_marks item_marks r.items) rest)) ts h.0
            (λ us t. p.read (Blank 32 ∷ braced_marks Top (lines_marks item_marks r.items) rest) us t) (λ us t. w.read rest us t) s;
      }
  says-definition (definition.Unit u) h =
      let p = says-params source u.params h.1 in
      let w = says-body source u.body h.2 in record {
        spaced = λ rest s. spaced-mark (codes "unit") (lit u.name.text ∷ params_marks u.params (Blank 32 ∷ body_marks u.body rest)) refl refl refl (λ m. refl)
            (word-mark u.name.text (params_marks u.params (Blank 32 ∷ body_marks u.body rest)) h.0.0 refl
            (p.spaced (Blank 32 ∷ body_marks u.body rest) (blank-mark 32 (body_marks u.body rest) refl refl (w.spaced rest s))));
        text = λ rest. ap (λ z. codes "unit " ++ (u.name.text ++ z)) (p.text (Blank 32 ∷ body_marks u.body rest) ∙ ap (λ z. params_text u.params ++ (32 ∷ z)) (w.text rest))
            ∙ regroup-unit (codes "unit ") u.name.text (params_text u.params) (codes " ") (body_kind u.body) (codes " {\n") (body_lines u.body) [] (codes "}\n") (written rest);
        read = λ rest ts s. unit-read u (words rest) (words (params_marks u.params (Blank 32 ∷ body_marks u.body rest))) (words (body_marks u.body rest)) ts h.0
            (λ us t. p.read (Blank 32 ∷ body_marks u.body rest) us t) (λ us t. w.read rest us t) s;
      }

  says-next : (d : Definition) → IsDefinitionFine d → SaysLine source (IsDefinition source) unplaced_definition d (λ rest. Blank 10 ∷ definition_marks d rest) (codes "\n" ++ definition_text d)
  says-next d h =
      let w = says-definition d h in record {
        spaced = λ rest s. blank-mark 10 (definition_marks d rest) refl refl (w.spaced rest s);
        text = λ rest. ap (λ z. codes "\n" ++ z) (w.text rest);
        read = λ rest ts s. w.read rest ts s;
      }

abbrev text_marks : List Definition → List Mark → List Mark
text_marks [] rest = rest
text_marks (d ∷ ds) rest = definition_marks d (lines_marks (λ e more. Blank 10 ∷ definition_marks e more) ds rest)

says-text : (source : List ℕ) (ds : List Definition) → AllByRecursion IsDefinitionFine ds → SaysLine source (IsText source) unplaced ds (text_marks ds) (canonical_text ds)
says-text source [] h = record {
  spaced = λ rest s. s;
  text = λ rest. refl;
  read = λ rest ts s. record { front = []; back = ts; made = []; whole = refl; left = s; is = none; same = refl };
}
says-text source (d ∷ ds) h =
    let w = says-definition source d h.0 in
    let next = λ (e : Definition) (more : List Mark). Blank 10 ∷ definition_marks e more in
    let v = says-lines source (IsDefinition source) unplaced_definition IsDefinitionFine next (λ e. codes "\n" ++ definition_text e) (says-next source) ds h.1 in record {
      spaced = λ rest s. w.spaced (lines_marks next ds rest) (v.spaced rest s);
      text = λ rest. w.text (lines_marks next ds rest) ∙ ap (λ z. definition_text d ++ z) (v.text rest) ∙ sym (append_assoc (definition_text d) (flat_map (λ e. codes "\n" ++ definition_text e) ds) (written rest));
      read = λ rest ts s.
          let q = w.read (lines_marks next ds rest) ts s in
          subst (λ z. Read source (IsText source) unplaced (d ∷ ds) (words rest) z) (sym q.whole)
          (line-then source (IsDefinition source) unplaced_definition d ds (words rest) (words (lines_marks next ds rest)) q.front q.back q.made q.is q.same q.left (λ us r. v.read rest us r));
    }

-- Nothing is left after the last token.
all-read : (source : List ℕ) (ds : List Definition) (ts : List Token) → Read source (IsText source) unplaced ds [] ts → (es : List Definition) × IsText source ts es × (unplaced es ≡ unplaced ds)
all-read source ds ts r = step r.front r.back r.made r.whole r.left r.is r.same where
  step : (front back : List Token) (made : List Definition) → ts ≡ front ++ back → Spells source [] back → IsText source front made → unplaced made ≡ unplaced ds → (es : List Definition) × IsText source ts es × (unplaced es ≡ unplaced ds)
  step front _ made w no_tokens p e = (made, subst (λ z. IsText source z made) (sym (w ∙ append-nil front)) p, e)

-- the tokens of a canonical text are a text of the same definitions but for spans
record IsReadBack (ds : List Definition) : Type 0 where
  tokens : List Token
  made : List Definition
  scalars : all_scalars (chars (canonical_text ds)) ≡ true
  lexed : AreTokens (chars (canonical_text ds)) tokens
  is : IsText (chars (canonical_text ds)) tokens made
  same : unplaced made ≡ unplaced ds

module _ (begin : LexemesBegin) (moves : PositionsMove) where
  read-back : (ds : List Definition) → AllByRecursion IsDefinitionFine ds → IsReadBack ds
  read-back ds h =
      let ms = text_marks ds [] in
      let source = spelled ms in
      let w = says-text source ds h in
      let spaced : IsSpaced ms = w.spaced [] tt in
      let bytes : encode_utf8_all source ≡ canonical_text ds = marks-written ms spaced ∙ w.text [] ∙ append-nil (canonical_text ds) in
      let same : chars (canonical_text ds) ≡ source = ap chars (sym bytes) ∙ chars-encodes source (marks-scalars ms spaced) in
      let ts = tokens_from text_start ms in
      let lexes : AreTokens source ts = marks-lex begin text_start ms spaced in
      let r = all-read source ds ts (w.read [] ts (marks-spell moves source [] text_start ms refl refl)) in
      record {
        tokens = ts;
        made = r.0;
        scalars = ap all_scalars same ∙ marks-scalars ms spaced;
        lexed = subst (λ z. AreTokens z ts) (sym same) lexes;
        is = subst (λ z. IsText z ts r.0) (sym same) r.1;
        same = r.2;
      }

  pub printed-reads : (s : Syntax) → (t : Syntax) × IsSyntaxOf (chars (canonical_text s.definitions)) t
  printed-reads s =
      let r = read-back s.definitions s.well_formed.0 in
      (record { definitions = r.made; well_formed = well-parsed (chars (canonical_text s.definitions)) r.scalars moves r.tokens r.made r.lexed r.is }, (r.tokens, r.lexed, r.is))

  module _ (lexed_once : LexedOnce) where
    pub printed-same : (s t : Syntax) → IsSyntaxOf (chars (canonical_text s.definitions)) t → unplaced t.definitions ≡ unplaced s.definitions
    printed-same s t h =
        let r = read-back s.definitions s.well_formed.0 in
        let made : t.definitions ≡ r.made = same-made lexed_once (chars (canonical_text s.definitions)) h.0 r.tokens t.definitions r.made h.1 h.2 r.lexed r.is in
        ap unplaced made ∙ r.same

    pub printed-again : (s t : Syntax) → IsSyntaxOf (chars (canonical_text s.definitions)) t → canonical_text t.definitions ≡ canonical_text s.definitions
    printed-again s t h = sym (text-bare t.definitions) ∙ ap canonical_text (printed-same s t h) ∙ text-bare s.definitions
