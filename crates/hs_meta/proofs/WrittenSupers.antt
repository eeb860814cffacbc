-- Rows of supertypes, one for each written class.
use Rattle.std.proofs.Common.{ℕ, zero, suc, ◌≡◌, ◌||◌, List, [], ◌∷◌, Bool, true, false, not, cond, eqb, length, map, refl, sym, ap, ◌∙◌}
use Rattle.std.proofs.lemmas.Bool.{eqb-true}
use Rattle.std.specs.List.{filter, filter_map, list_any, range_with_len}
use Rattle.std.proofs.lemmas.List.{length-map}
use Rattle.hs_expr.specs.Lists.{each_once}
use Rattle.hs_types.specs.Reachability.{is_or_reaches, reaching_within, reach_rows}
use Rattle.hs_meta.specs.declared.raw.RawClass.{RawClass}
use Rattle.hs_meta.specs.Names.{raw_class_number}
use Rattle.hs_meta.specs.WrittenSupers.{written_supers}

-- There are as many lists of supertypes as classes.
pub supers_each : (classes : List RawClass) → length (written_supers classes) ≡ length classes
supers_each classes = length-map classes (λ class. filter_map (raw_class_number classes) class.supers)

-- A number that doesn't pass the test can be left out.
any-without : (p : ℕ → Bool) (n : ℕ) → p n ≡ false → (ms : List ℕ) → list_any p (filter (λ k. not (eqb k n)) ms) ≡ list_any p ms
any-without p n h [] = refl
any-without p n h (m ∷ ms) =
    elim (eqb m n) as (λ b. eqb m n ≡ b → list_any p (cond (not b) (m ∷ filter (λ k. not (eqb k n)) ms) (filter (λ k. not (eqb k n)) ms)) ≡ (p m || list_any p ms)) [
      | true ↦ λ e. any-without p n h ms ∙ ap (λ b. b || list_any p ms) (sym (ap p (eqb-true m n e) ∙ h))
      | false ↦ λ e. ap (λ b. p m || b) (any-without p n h ms)
    ] refl

any-once : (p : ℕ → Bool) (ns : List ℕ) → list_any p (each_once ns) ≡ list_any p ns
any-once p [] = refl
any-once p (n ∷ ns) =
    elim (p n) as (λ b. p n ≡ b → (b || list_any p (filter (λ k. not (eqb k n)) (each_once ns))) ≡ (b || list_any p ns)) [
      | true ↦ λ e. refl
      | false ↦ λ e. any-without p n e (each_once ns) ∙ any-once p ns
    ] refl

marks-once : (p q : List ℕ → Bool) → ((ns : List ℕ) → p (each_once ns) ≡ q ns) → (graph : List (List ℕ)) → map p (map each_once graph) ≡ map q graph
marks-once p q h [] = refl
marks-once p q h (ns ∷ graph) = ap (λ b. b ∷ map p (map each_once graph)) (h ns) ∙ ap (λ bs. q ns ∷ bs) (marks-once p q h graph)

within-once : (graph : List (List ℕ)) (w s : ℕ) → reaching_within (map each_once graph) w s ≡ reaching_within graph w s
within-once graph w zero = marks-once (λ targets. false) (λ targets. false) (λ ns. refl) graph
within-once graph w (suc s) =
    marks-once (list_any (is_or_reaches w (reaching_within (map each_once graph) w s))) (list_any (is_or_reaches w (reaching_within graph w s)))
    (λ ns. any-once (is_or_reaches w (reaching_within (map each_once graph) w s)) ns ∙ ap (λ marks. list_any (is_or_reaches w marks) ns) (within-once graph w s)) graph

-- An edge that comes many times leads no farther.
pub rows_once : (graph : List (List ℕ)) → reach_rows (map each_once graph) ≡ reach_rows graph
rows_once graph = rw (length-map graph each_once) (λ i. map (λ w. within-once graph w (length graph) i) (range_with_len 0 (length graph)))
