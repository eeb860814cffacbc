-- The tokens of a list and of an object, part by part.
use Rattle.std.proofs.Common.{ℕ, ◌+◌, ◌<◌, ◌≡◌, ◌++◌, List, [], ◌∷◌, map, drop, length, get_or, append_assoc}
use Rattle.std.proofs.lemmas.List.{drop_more}
use Rattle.json.specs.Token.{Token}
use Rattle.json.specs.Tree.{items_tokens, json_tokens}
use Rattle.serde_json.specs.Data.{Data}
use Rattle.serde_json.specs.View.{items_of}
use Rattle.serde_json.specs.Written.{items_outline, outline}

-- One item more is written, and one fewer is left.
pub item_more : {A : Type 0} (data_of : A → Data) (old new whole : List Token) (xs : List A) (i : ℕ) (d : A) → i < length xs →
    new ≡ old ++ json_tokens (outline (data_of (get_or xs i d))) → old ++ items_tokens (items_outline (items_of (map data_of (drop i xs)))) ≡ whole →
    new ++ items_tokens (items_outline (items_of (map data_of (drop (i + 1) xs)))) ≡ whole
item_more data_of old new whole xs i d h pushed all = rw (pushed, append_assoc) (rw (drop_more xs i d h) at all)

-- An object of four members, of which two are texts.
pub parts : {X : Type 0} (t0 t1 t2 t3 t4 t5 t6 t7 t8 first last : List X) (a b c d e f g h : X) →
    t1 ≡ t0 ++ a ∷ [] → t2 ≡ t1 ++ b ∷ [] → t3 ≡ t2 ++ first → t4 ≡ t3 ++ c ∷ d ∷ [] → t5 ≡ t4 ++ e ∷ f ∷ [] → t6 ≡ t5 ++ g ∷ [] → t7 ≡ t6 ++ last → t8 ≡ t7 ++ h ∷ [] →
    t8 ≡ t0 ++ (a ∷ b ∷ (first ++ (c ∷ d ∷ e ∷ f ∷ g ∷ (last ++ h ∷ []))))
parts t0 t1 t2 t3 t4 t5 t6 t7 t8 first last a b c d e f g h e1 e2 e3 e4 e5 e6 e7 e8 = rw (e8, e7, e6, e5, e4, e3, e2, e1) (simp append_assoc)
