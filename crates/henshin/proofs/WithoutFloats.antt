-- What is written of models has no float.
use Rattle.std.proofs.Common.{ℕ, ◌≡◌, List, [], ◌∷◌, map, Bool, false, ◌||◌, refl, pos, negsuc}
use Rattle.std.proofs.lemmas.Bool.{or_parts}
use Rattle.std.specs.Ordering.{nat_cmp, match_ordering}
use Rattle.std.specs.declared.cmp.Ordering.{Ordering}
use Rattle.std.specs.declared.cmp.Ordering.TheVariants.{Less, Equal, Greater}
use Rattle.std.specs.Cmp.Lexicographic.{slice_cmp}
use Rattle.serde_json.specs.Data.{Data, Members, no_members, member, put}
use Rattle.serde_json.specs.Written.{has_float, members_have_float}
use Rattle.hs_expr.specs.declared.value.Value.{Value}
use Rattle.hs_expr.specs.declared.value.Value.TheVariants as value
use Rattle.hs_json_model.specs.Written.{Member, with_members, object_data, list_data, value_data}

abbrev pub HaveNone : List Member → Type 0
HaveNone [] = Unit {0}
HaveNone (m ∷ ms) = (has_float m.1 ≡ false) × HaveNone ms

or_none : (a b : Bool) → a ≡ false → b ≡ false → (a || b) ≡ false
or_none a b g h = rw g h

-- wherever the new member is put
put_here : (o : Ordering) (k l : List ℕ) (d e : Data) (ms rest : Members) → has_float d ≡ false → members_have_float (member l e ms) ≡ false →
    members_have_float rest ≡ false → members_have_float (match_ordering o (member k d (member l e ms)) (member l d ms) (member l e rest)) ≡ false
put_here Less k l d e ms rest a b r = or_none _ _ a b
put_here Equal k l d e ms rest a b r = or_none _ _ a (or_parts (has_float e) _ b).1
put_here Greater k l d e ms rest a b r = or_none _ _ (or_parts (has_float e) (members_have_float ms) b).0 r

pub put_none : (k : List ℕ) (d : Data) (ms : Members) → has_float d ≡ false → members_have_float ms ≡ false → members_have_float (put k d ms) ≡ false
put_none k d no_members a b = or_none _ _ a refl
put_none k d (member l e ms) a b = put_here (slice_cmp nat_cmp k l) k l d e ms (put k d ms) a b (put_none k d ms a (or_parts (has_float e) _ b).1)

pub with_none : (ms : Members) (xs : List Member) → members_have_float ms ≡ false → HaveNone xs → members_have_float (with_members ms xs) ≡ false
with_none ms [] a b = a
with_none ms (x ∷ xs) a b = with_none (put x.0 x.1 ms) xs (put_none x.0 x.1 ms b.0 a) b.1

pub object_none : (xs : List Member) → HaveNone xs → has_float (object_data xs) ≡ false
object_none xs b = with_none no_members xs refl b

pub list_none : {A : Type 0} (one : A → Data) (xs : List A) → ((x : A) → has_float (one x) ≡ false) → has_float (list_data one xs) ≡ false
list_none one [] h = refl
list_none one (x ∷ xs) h = or_none _ _ (h x) (list_none one xs h)

pub map_none : {A : Type 0} (f : A → Member) (xs : List A) → ((x : A) → has_float (f x).1 ≡ false) → HaveNone (map f xs)
map_none f [] h = tt
map_none f (x ∷ xs) h = (h x, map_none f xs h)

pub value_none : (v : Value) → has_float (value_data v) ≡ false
value_none (value.Int n) = elim n as (λ z. has_float (value_data (value.Int z)) ≡ false) [ pos k ↦ refl | negsuc k ↦ refl ]
value_none (value.Bool b) = refl
value_none (value.Text t) = refl
