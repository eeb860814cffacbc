-- Classes in the order of their ranks, each after its supertypes.
use Rattle.std.proofs.Common.{ℕ, zero, suc, ◌+◌, ◌<◌, ◌≤◌, ◌≡◌, ◌&&◌, ◌||◌, ◌++◌, List, [], ◌∷◌, true, false, eqb, nat_lt, get_or, set, map, length, refl, ap, sym, ◌∙◌, arith, inl, inr, if◌then◌else◌}
use Rattle.std.proofs.lemmas.Bool.{cases_eq, ne_eqb, lt-ltb, or_left, or_right}
use Rattle.std.proofs.lemmas.Bool.Decides.{nat_tests}
use Rattle.std.proofs.lemmas.List.{get_or-set_same, get_or-set_other}
use Rattle.std.proofs.lemmas.List.FromFn.{fill_by_all}
use Rattle.std.specs.List.{All, flat_map, range_with_len}
use Rattle.hs_expr.specs.Lists.{each_once, has}
use Rattle.hs_meta.specs.Inheriting.{AreFoundBefore, comes_before}
use Rattle.hs_meta.specs.Meaning.{features_within}
use Rattle.hs_meta.specs.Ranks.{AreRanked}
use Rattle.hs_expr.proofs.Lists.{has-here}

pub has-tail : (n k : ℕ) (ns : List ℕ) → has ns k ≡ true → has (n ∷ ns) k ≡ true
has-tail n k ns h = or_right (eqb k n) (has ns k) h

pub flat_map_agree : (f g : ℕ → List ℕ) (ns : List ℕ) → ((n : ℕ) → has ns n ≡ true → f n ≡ g n) → flat_map f ns ≡ flat_map g ns
flat_map_agree f g [] h = refl
flat_map_agree f g (n ∷ ns) h =
    ap (λ ms. ms ++ flat_map f ns) (h n (has-here n ns)) ∙ ap (λ ms. g n ++ ms) (flat_map_agree f g ns (λ k e. h k (has-tail n k ns e)))

none : (ns : List ℕ) → ((n : ℕ) → has ns n ≡ true → ⊥) → ns ≡ []
none [] h = refl
none (n ∷ ns) h = absurd (h n (has-here n ns))

module _ (supers own : List (List ℕ)) (ranks : List ℕ) (ranked : AreRanked supers ranks) where
  -- Beyond a class's rank more steps find nothing more.
  pub steady : (n c : ℕ) → get_or ranks c 0 ≤ n → features_within supers own (suc n) c ≡ features_within supers own n c
  steady zero c h =
      ap (λ ns. each_once (flat_map (features_within supers own zero) ns) ++ get_or own c []) (none (get_or supers c []) (λ s e. let r = ranked c s e in absurd (omega arith)))
  steady (suc n) c h =
      ap (λ ns. each_once ns ++ get_or own c []) (flat_map_agree (features_within supers own (suc n)) (features_within supers own n) (get_or supers c [])
      (λ s e. steady n s (let r = ranked c s e in omega arith)))

same_before : (ranks : List ℕ) (rank c k : ℕ) → (k ≡ c → get_or ranks c 0 ≡ rank → ⊥) → comes_before ranks rank c k ≡ comes_before ranks rank (c + 1) k
same_before ranks rank c k h = elim (cases_eq k c) [
  | inl same ↦ let e : eqb (get_or ranks k 0) rank ≡ false = ne_eqb (get_or ranks k 0) rank (λ e. h same (ap (λ j. get_or ranks j 0) (sym same) ∙ e)) in
      ap (λ b. nat_lt (get_or ranks k 0) rank || (b && nat_lt k c)) e ∙ sym (ap (λ b. nat_lt (get_or ranks k 0) rank || (b && nat_lt k (c + 1))) e)
  | inr apart ↦ let e : nat_lt k c ≡ nat_lt k (c + 1) = grind (arith, nat_tests) in ap (λ b. nat_lt (get_or ranks k 0) rank || (eqb (get_or ranks k 0) rank && b)) e
]

-- A class of another rank is passed over.
pub found_passed : (supers own : List (List ℕ)) (ranks : List ℕ) (rank c : ℕ) (made : List (List ℕ)) → (get_or ranks c 0 ≡ rank → ⊥) →
    AreFoundBefore supers own ranks rank c made → AreFoundBefore supers own ranks rank (c + 1) made
found_passed supers own ranks rank c made other found = record {
  each_class = λ k h. found.each_class k h ∙ ap (λ b. if b then features_within supers own (length supers) k else get_or own k []) (same_before ranks rank c k (λ same e. other e));
}

-- A class of this rank gets the features that it inherits.
pub found_put : (supers own : List (List ℕ)) (ranks : List ℕ) (rank c : ℕ) (made new : List (List ℕ)) → length made ≡ length supers → length ranks ≡ length supers → AreRanked supers ranks → All (λ r. r ≤ length supers) ranks → c < length supers → get_or ranks c 0 ≡ rank →
    new ≡ set made c (each_once (flat_map (λ s. get_or made s []) (get_or supers c [])) ++ get_or made c []) →
    AreFoundBefore supers own ranks rank c made → AreFoundBefore supers own ranks rank (c + 1) new
found_put supers own ranks rank c made new long as_long ranked low within this put found = record {
  each_class = λ k h. elim (cases_eq k c) [ inl same ↦ here k same | inr apart ↦ there k apart h ];
}
  where
    all_of : ℕ → List ℕ
    all_of = features_within supers own (length supers)

    before_it : (s : ℕ) → has (get_or supers c []) s ≡ true → get_or made s [] ≡ all_of s
    before_it s e =
        let r = ranked c s e in
        let b : comes_before ranks rank c s ≡ true = or_left (nat_lt (get_or ranks s 0) rank) _ (lt-ltb (get_or ranks s 0) rank (omega arith)) in
        found.each_class s r.0 ∙ ap (λ b. if b then all_of s else get_or own s []) b

    not_yet : comes_before ranks rank c c ≡ false
    not_yet = grind (arith, nat_tests)

    put_now : comes_before ranks rank (c + 1) c ≡ true
    put_now = grind (arith, nat_tests)

    low_here : get_or ranks c 0 ≤ length supers
    low_here = low c 0 (omega arith)

    whole : each_once (flat_map (λ s. get_or made s []) (get_or supers c [])) ++ get_or made c [] ≡ all_of c
    whole =
        ap (λ ns. each_once ns ++ get_or made c []) (flat_map_agree (λ s. get_or made s []) all_of (get_or supers c []) before_it)
        ∙ ap (λ ns. each_once (flat_map all_of (get_or supers c [])) ++ ns) (found.each_class c within ∙ ap (λ b. if b then all_of c else get_or own c []) not_yet)
        ∙ steady supers own ranks ranked (length supers) c low_here

    here : (k : ℕ) → k ≡ c → get_or new k [] ≡ (if comes_before ranks rank (c + 1) k then all_of k else get_or own k [])
    here k same =
        ap (λ j. get_or new j []) same ∙ ap (λ ls. get_or ls c []) put ∙ get_or-set_same made c _ [] (omega arith) ∙ whole
        ∙ sym (ap (λ b. if b then all_of c else get_or own c []) put_now)
        ∙ ap (λ j. if comes_before ranks rank (c + 1) j then all_of j else get_or own j []) (sym same)

    there : (k : ℕ) → (k ≡ c → ⊥) → k < length supers → get_or new k [] ≡ (if comes_before ranks rank (c + 1) k then all_of k else get_or own k [])
    there k apart h =
        ap (λ ls. get_or ls k []) put ∙ get_or-set_other made c k _ [] apart ∙ found.each_class k h
        ∙ ap (λ b. if b then all_of k else get_or own k []) (same_before ranks rank c k (λ same e. apart same))

-- After the last class the next rank begins.
pub found_next : (supers own : List (List ℕ)) (ranks : List ℕ) (rank n : ℕ) (made : List (List ℕ)) → length supers ≤ n →
    AreFoundBefore supers own ranks rank n made → AreFoundBefore supers own ranks (rank + 1) 0 made
found_next supers own ranks rank n made long found = record {
  each_class = λ k h. let e : comes_before ranks rank n k ≡ comes_before ranks (rank + 1) 0 k = next k h in found.each_class k h ∙ ap (λ b. if b then features_within supers own (length supers) k else get_or own k []) e;
}
  where
    next : (k : ℕ) → k < length supers → comes_before ranks rank n k ≡ comes_before ranks (rank + 1) 0 k
    next k h = grind (arith, nat_tests)

-- After the highest rank all is found.
pub found_all : (supers own : List (List ℕ)) (ranks : List ℕ) (rank : ℕ) (made : List (List ℕ)) → length made ≡ length supers → length ranks ≡ length supers → All (λ r. r ≤ length supers) ranks → length supers < rank →
    AreFoundBefore supers own ranks rank 0 made → made ≡ map (features_within supers own (length supers)) (range_with_len 0 (length supers))
found_all supers own ranks rank made long as_long low above found =
    fill_by_all (features_within supers own (length supers)) made (length supers) [] long each_class
  where
    each_class : (k : ℕ) → k < length supers → get_or made k [] ≡ features_within supers own (length supers) k
    each_class k h =
        let l = low k 0 (omega arith) in
        let e : comes_before ranks rank 0 k ≡ true = or_left (nat_lt (get_or ranks k 0) rank) _ (lt-ltb (get_or ranks k 0) rank (omega arith)) in
        found.each_class k h ∙ ap (λ b. if b then features_within supers own (length supers) k else get_or own k []) e

pub ruleset turns = (found_passed, found_put, found_next)
