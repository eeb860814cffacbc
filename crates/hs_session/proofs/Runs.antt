-- The attempts of a run from one graph on are determined, as far as it goes.
use Rattle.std.proofs.Common.{ℕ, ◌+◌, ◌≡◌, List, [], ◌∷◌, ◌++◌, map, length, true, refl, sym, ap, ◌∙◌, subst}
use Rattle.std.specs.List.{All, flat_map, range_with_len}
use Rattle.std.proofs.lemmas.List.Elements.{All-head, All-tail}
use Rattle.hs_types.specs.declared.entry.Entry.{Entry}
use Rattle.hs_types.specs.declared.entry.Tried.{Tried}
use Rattle.hs_types.specs.declared.entry.What.{What}
use Rattle.hs_types.specs.declared.entry.What.TheVariants.{One, Group}
use Rattle.hs_types.specs.declared.graph.Graph.{Graph}
use Rattle.hs_types.specs.declared.request.Args.{Args}
use Rattle.hs_types.specs.Rules.{AreFormed, Rules}
use Rattle.hs_types.specs.Journal.{AreLawfulTries, IsLawfulTry, after_entry, after_try, tries_in, tries_made}
use Rattle.hs_types.specs.TypedGraph.{IsTyped}
use Rattle.hs_unit.specs.Courses.{Asks, Course}
use Rattle.hs_session.specs.Runs.{ComesTo, IsOver, Run, rest_after}
use Rattle.hs_session.specs.Standing.{Standing, made_along, made_in, outcome_made, standing_after}
use Rattle.hs_session.specs.Requests.{Asked, is_of}
use Rattle.hs_session.specs.Replies.{IsSingle}
use Rattle.hs_session.specs.SerialReport.{IsLeastTry}
use Rattle.hs_session.proofs.Sound.{IsSound}
use Rattle.hs_session.proofs.Tries.{LeastIsOne, try-same}
use Rattle.hs_session.proofs.Requests.{is_of-same}

-- What laws say of all graphs.
abbrev TriesTyped : Type 0
TriesTyped = (rules : Rules) (g : Graph) (tried : Tried) → AreFormed rules → IsTyped rules.meta g → IsLawfulTry rules g tried → IsTyped rules.meta (after_try rules g tried)

abbrev EntriesTyped : Type 0
EntriesTyped = (rules : Rules) (g : Graph) (entry : Entry) → AreFormed rules → IsTyped rules.meta g → AreLawfulTries rules g (tries_in entry.what) → IsTyped rules.meta (after_entry rules g entry)

-- The rules are in their form, the graph is typed, and what the laws say: of one graph there is
-- one least match, and attempts and entries leave a typed graph.
pub record IsWell (rules : Rules) (g : Graph) : Type 0 where
  pub formed : AreFormed rules
  pub typed : IsTyped rules.meta g
  pub one_least : LeastIsOne
  pub tries_typed : TriesTyped
  pub entries_typed : EntriesTyped

pub asks_rule : {a b : ℕ} {x y : Args} → Asks a x ≡ Asks b y → a ≡ b
asks_rule e = cc

pub asks_args : {a b : ℕ} {x y : Args} → Asks a x ≡ Asks b y → x ≡ y
asks_args e = cc

first_same : {m n : ℕ} {ms ns : List ℕ} → m ∷ ms ≡ n ∷ ns → m ≡ n
first_same e = cc

rest_same : {m n : ℕ} {ms ns : List ℕ} → m ∷ ms ≡ n ∷ ns → ms ≡ ns
rest_same e = cc

not_over : (run : Run) (rule : ℕ) (args : Args) (c : Course) → run [] ≡ c → run [] ≡ Asks rule args → IsOver c → ⊥
not_over run rule args c is asks over = subst IsOver (sym is ∙ asks) over

pub well_after : (rules : Rules) (g : Graph) (t : Tried) → IsWell rules g → IsLawfulTry rules g t → IsWell rules (after_try rules g t)
well_after rules g t well lawful = record { formed = well.formed; typed = well.tries_typed rules g t well.formed well.typed lawful; one_least = well.one_least; tries_typed = well.tries_typed; entries_typed = well.entries_typed }

pub well_after_entry : (rules : Rules) (g : Graph) (e : Entry) → IsWell rules g → AreLawfulTries rules g (tries_in e.what) → IsWell rules (after_entry rules g e)
well_after_entry rules g e well lawful = record { formed = well.formed; typed = well.entries_typed rules g e well.formed well.typed lawful; one_least = well.one_least; tries_typed = well.tries_typed; entries_typed = well.entries_typed }

-- What a serial report says of the attempts of one entry.
pub record AreTries (rules : Rules) (g : Graph) (n : ℕ) (ts : List Tried) : Type 0 where
  pub lawful : AreLawfulTries rules g ts
  pub least : All (IsLeastTry rules) (made_along rules g ts)
  pub numbered : map (λ t. t.attempt) ts ≡ range_with_len n (length ts)

pub tries_of_entry : (rules : Rules) (a : Asked) (before : List Entry) (g : Graph) (e : Entry) (w : What) → e.what ≡ w → IsSound rules (record { before = before; graph = g; entry = e }) → is_of a e ≡ true →
    AreTries rules g (tries_made before a.session a.number) (tries_in w)
tries_of_entry rules a before g e w is sound theirs = subst (λ (w : What). AreTries rules g (tries_made before a.session a.number) (tries_in w)) is (record {
  lawful = sound.0.tries;
  least = sound.1;
  numbered = sound.0.numbered.tries_numbered ∙ ap (λ k. range_with_len (tries_made before k e.request) (length (tries_in e.what))) (is_of-same a e theirs).0 ∙ ap (λ k. range_with_len (tries_made before a.session k) (length (tries_in e.what))) (is_of-same a e theirs).1;
})

-- The attempts of one group.
pub tries_same : (rules : Rules) (g : Graph) (run : Run) (n : ℕ) (ss ts : List Tried) (c d : Course) → IsWell rules g → AreTries rules g n ss → AreTries rules g n ts →
    ComesTo rules run (made_along rules g ss) c → ComesTo rules run (made_along rules g ts) d → IsOver c → IsOver d → (ss ≡ ts) × (c ≡ d)
tries_same rules g run n [] [] c d well a b p q over over' = (refl, sym p ∙ q)
tries_same rules g run n [] (t ∷ ts) c d well a b p q over over' = absurd (not_over run t.rule t.args c p q.0 over)
tries_same rules g run n (s ∷ ss) [] c d well a b p q over over' = absurd (not_over run s.rule s.args d q p.0 over')
tries_same rules g run n (s ∷ ss) (t ∷ ts) c d well a b p q over over' =
    let asks : Asks s.rule s.args ≡ Asks t.rule t.args = sym p.0 ∙ q.0 in
    let number_s : s.attempt ≡ n = first_same a.numbered in
    let number_t : t.attempt ≡ n = first_same b.numbered in
    let here : s ≡ t = try-same well.one_least rules g s t well.typed a.lawful.0 b.lawful.0 (All-head (IsLeastTry rules) (record { graph = g; tried = s }) (made_along rules (after_try rules g s) ss) a.least)
    (All-head (IsLeastTry rules) (record { graph = g; tried = t }) (made_along rules (after_try rules g t) ts) b.least) (number_s ∙ sym number_t) (asks_rule asks) (asks_args asks) in
    let more_s : AreTries rules (after_try rules g s) (n + 1) ss = record { lawful = a.lawful.1; least = All-tail (IsLeastTry rules) (record { graph = g; tried = s }) (made_along rules (after_try rules g s) ss) a.least; numbered = rest_same a.numbered } in
    let more_t : AreTries rules (after_try rules g t) (n + 1) ts = record { lawful = b.lawful.1; least = All-tail (IsLeastTry rules) (record { graph = g; tried = t }) (made_along rules (after_try rules g t) ts) b.least; numbered = rest_same b.numbered } in
    let more_t' : AreTries rules (after_try rules g s) (n + 1) ts = subst (λ (x : Tried). AreTries rules (after_try rules g x) (n + 1) ts) (sym here) more_t in
    let q' : ComesTo rules (rest_after (outcome_made rules (record { graph = g; tried = s })) run) (made_along rules (after_try rules g s) ts) d =
    subst (λ (x : Tried). ComesTo rules (rest_after (outcome_made rules (record { graph = g; tried = x })) run) (made_along rules (after_try rules g x) ts) d) (sym here) q.1 in
    let rest = tries_same rules (after_try rules g s) (rest_after (outcome_made rules (record { graph = g; tried = s })) run) (n + 1) ss ts c d (well_after rules g s well a.lawful.0) more_s more_t' p.1 q' over over' in
    ((λ i. here i ∷ rest.0 i), rest.1)

single_try : (w : What) → IsSingle w → (t : Tried) × (w ≡ One t)
single_try (One t) single = (t, refl)
single_try (Group attempts done) single = absurd single

pub entry_same : (e f : Entry) → e.session ≡ f.session → e.request ≡ f.request → e.what ≡ f.what → e ≡ f
entry_same e f s r w = λ i. record { session = s i; request = r i; what = w i }

pub same_request : (a : Asked) (e f : Entry) → is_of a e ≡ true → is_of a f ≡ true → e.what ≡ f.what → e ≡ f
same_request a e f p q w = let m = is_of-same a e p in let n = is_of-same a f q in entry_same e f (m.0 ∙ sym n.0) (m.1 ∙ sym n.1) w

abbrev pub AreSingle : List Standing → Type 0
AreSingle entries = All (λ s. IsSingle s.entry.what) entries

-- The entries of a request that isn't grouped.
pub singles_same : (rules : Rules) (a : Asked) (before : List Entry) (g : Graph) (run : Run) (xs ys : List Entry) (c d : Course) → IsWell rules g →
    All (IsSound rules) (standing_after rules before g xs) → All (IsSound rules) (standing_after rules before g ys) → All (λ e. is_of a e ≡ true) xs → All (λ e. is_of a e ≡ true) ys →
    AreSingle (standing_after rules before g xs) → AreSingle (standing_after rules before g ys) →
    ComesTo rules run (flat_map (made_in rules) (standing_after rules before g xs)) c → ComesTo rules run (flat_map (made_in rules) (standing_after rules before g ys)) d → IsOver c → IsOver d → (xs ≡ ys) × (c ≡ d)
singles_same rules a before g run [] [] c d well sx sy ax ay ox oy p q over over' = (refl, sym p ∙ q)
singles_same rules a before g run [] (y ∷ ys) c d well sx sy ax ay ox oy p q over over' =
    let here : Standing = record { before = before; graph = g; entry = y } in
    let more : List Standing = standing_after rules (before ++ y ∷ []) (after_entry rules g y) ys in
    let t = single_try y.what (All-head (λ s. IsSingle s.entry.what) here more oy) in
    let q' : ComesTo rules run (made_along rules g (t.0 ∷ []) ++ flat_map (made_in rules) more) d = subst (λ (w : What). ComesTo rules run (made_along rules g (tries_in w) ++ flat_map (made_in rules) more) d) t.1 q in
    absurd (not_over run t.0.rule t.0.args c p q'.0 over)
singles_same rules a before g run (x ∷ xs) [] c d well sx sy ax ay ox oy p q over over' =
    let here : Standing = record { before = before; graph = g; entry = x } in
    let more : List Standing = standing_after rules (before ++ x ∷ []) (after_entry rules g x) xs in
    let t = single_try x.what (All-head (λ s. IsSingle s.entry.what) here more ox) in
    let p' : ComesTo rules run (made_along rules g (t.0 ∷ []) ++ flat_map (made_in rules) more) c = subst (λ (w : What). ComesTo rules run (made_along rules g (tries_in w) ++ flat_map (made_in rules) more) c) t.1 p in
    absurd (not_over run t.0.rule t.0.args d q p'.0 over')
singles_same rules a before g run (x ∷ xs) (y ∷ ys) c d well sx sy ax ay ox oy p q over over' =
    let here_x : Standing = record { before = before; graph = g; entry = x } in
    let here_y : Standing = record { before = before; graph = g; entry = y } in
    let more_x : List Standing = standing_after rules (before ++ x ∷ []) (after_entry rules g x) xs in
    let more_y : List Standing = standing_after rules (before ++ y ∷ []) (after_entry rules g y) ys in
    let s = single_try x.what (All-head (λ s. IsSingle s.entry.what) here_x more_x ox) in
    let t = single_try y.what (All-head (λ s. IsSingle s.entry.what) here_y more_y oy) in
    let theirs_x = All-head (λ e. is_of a e ≡ true) x xs ax in
    let theirs_y = All-head (λ e. is_of a e ≡ true) y ys ay in
    let tries_x = tries_of_entry rules a before g x (One s.0) s.1 (All-head (IsSound rules) here_x more_x sx) theirs_x in
    let tries_y = tries_of_entry rules a before g y (One t.0) t.1 (All-head (IsSound rules) here_y more_y sy) theirs_y in
    let p' : ComesTo rules run (made_along rules g (s.0 ∷ []) ++ flat_map (made_in rules) more_x) c = subst (λ (w : What). ComesTo rules run (made_along rules g (tries_in w) ++ flat_map (made_in rules) more_x) c) s.1 p in
    let q' : ComesTo rules run (made_along rules g (t.0 ∷ []) ++ flat_map (made_in rules) more_y) d = subst (λ (w : What). ComesTo rules run (made_along rules g (tries_in w) ++ flat_map (made_in rules) more_y) d) t.1 q in
    let asks : Asks s.0.rule s.0.args ≡ Asks t.0.rule t.0.args = sym p'.0 ∙ q'.0 in
    let attempts : s.0.attempt ≡ t.0.attempt = first_same tries_x.numbered ∙ sym (first_same tries_y.numbered) in
    let tried : s.0 ≡ t.0 = try-same well.one_least rules g s.0 t.0 well.typed tries_x.lawful.0 tries_y.lawful.0 (All-head (IsLeastTry rules) (record { graph = g; tried = s.0 }) [] tries_x.least) (All-head (IsLeastTry rules) (record { graph = g; tried = t.0 }) [] tries_y.least) attempts (asks_rule asks) (asks_args asks) in
    let entry : x ≡ y = same_request a x y theirs_x theirs_y (s.1 ∙ ap One tried ∙ sym t.1) in
    let sy' : All (IsSound rules) (standing_after rules (before ++ x ∷ []) (after_entry rules g x) ys) = subst (λ (e : Entry). All (IsSound rules) (standing_after rules (before ++ e ∷ []) (after_entry rules g e) ys)) (sym entry) (All-tail (IsSound rules) here_y more_y sy) in
    let oy' : AreSingle (standing_after rules (before ++ x ∷ []) (after_entry rules g x) ys) = subst (λ (e : Entry). AreSingle (standing_after rules (before ++ e ∷ []) (after_entry rules g e) ys)) (sym entry) (All-tail (λ s. IsSingle s.entry.what) here_y more_y oy) in
    let run' : Run = rest_after (outcome_made rules (record { graph = g; tried = s.0 })) run in
    let q_tried : ComesTo rules run' (flat_map (made_in rules) more_y) d = subst (λ (u : Tried). ComesTo rules (rest_after (outcome_made rules (record { graph = g; tried = u })) run) (flat_map (made_in rules) more_y) d) (sym tried) q'.1 in
    let q_entry : ComesTo rules run' (flat_map (made_in rules) (standing_after rules (before ++ x ∷ []) (after_entry rules g x) ys)) d = subst (λ (e : Entry). ComesTo rules run' (flat_map (made_in rules) (standing_after rules (before ++ e ∷ []) (after_entry rules g e) ys)) d) (sym entry) q_tried in
    let rest = singles_same rules a (before ++ x ∷ []) (after_entry rules g x) run' xs ys c d (well_after_entry rules g x well (All-head (IsSound rules) here_x more_x sx).0.tries) (All-tail (IsSound rules) here_x more_x sx) sy'
    (All-tail (λ e. is_of a e ≡ true) x xs ax) (All-tail (λ e. is_of a e ≡ true) y ys ay) (All-tail (λ s. IsSingle s.entry.what) here_x more_x ox) oy' p'.1 q_entry over over' in
    ((λ i. entry i ∷ rest.0 i), rest.1)
