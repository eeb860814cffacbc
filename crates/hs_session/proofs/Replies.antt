-- Of a request from one graph on, there is one list of entries and one reply.
use Rattle.std.proofs.Common.{◌≡◌, ◌⊎◌, inl, inr, List, [], ◌∷◌, map, Bool, true, false, Option, Some, None, refl, sym, ap, ◌∙◌, subst}
use Rattle.std.specs.List.{All}
use Rattle.std.proofs.lemmas.List.Elements.{All-head}
use Rattle.hs_types.specs.declared.entry.Entry.{Entry}
use Rattle.hs_types.specs.declared.entry.Tried.{Tried}
use Rattle.hs_types.specs.declared.entry.What.{What}
use Rattle.hs_types.specs.declared.entry.What.TheVariants.{Group}
use Rattle.hs_types.specs.declared.graph.Graph.{Graph}
use Rattle.hs_types.specs.declared.unit.Callee.{Callee}
use Rattle.hs_types.specs.Rules.{Rules}
use Rattle.hs_types.specs.Journal.{tries_in, tries_made}
use Rattle.hs_session.specs.declared.report.Reply.{Reply}
use Rattle.hs_session.specs.declared.report.Word.{Word}
use Rattle.hs_session.specs.declared.report.Word.TheVariants as word
use Rattle.hs_unit.specs.Courses.{Asks, Course, Done, Failed, Fuel}
use Rattle.hs_session.specs.Runs.{ComesTo, IsOver, Run}
use Rattle.hs_session.specs.Standing.{Standing, made_along, made_in, entry_place, standing_after}
use Rattle.hs_session.specs.Requests.{Asked, callee_named, is_of}
use Rattle.hs_session.specs.Replies.{run_for, IsBegun, IsCalled, IsDropped, IsGroup, IsRefused, IsReply, IsUngrouped, IsDue, Says, is_ok, outs_for, word_for}
use Rattle.hs_session.specs.SerialReport.{IsDecided}
use Rattle.hs_session.proofs.Sound.{IsSound}
use Rattle.hs_session.proofs.Placing.{nothing-placed}
use Rattle.hs_session.proofs.Runs.{IsWell, same_request, singles_same, tries_of_entry, tries_same}

pub word_is : (due said : Word) → Says due said → (said ≡ word.Memory → ⊥) → said ≡ due
word_is due said (inl e) memory = e
word_is due said (inr e) memory = absurd (memory e)

pub is_over : (callee : Callee) (c : Course) (reply : Reply) → Says (word_for callee c) reply.word → IsDecided reply → IsOver c
is_over callee (Done left) reply says decided = tt
is_over callee (Failed left) reply says decided = tt
is_over callee Fuel reply says decided = tt
is_over callee (Asks rule args) reply says decided = absurd (decided.1 (word_is word.Full reply.word says decided.0))

record AreAlike (xs ys : List Entry) (r q : Reply) : Type 0 where
  entries : xs ≡ ys
  words : r.word ≡ q.word
  outs : r.outs ≡ q.outs

-- Neither was begun.
refused_alike : (rules : Rules) (before : List Entry) (g : Graph) (xs ys : List Entry) (r q : Reply) (due : Word) →
    IsRefused due (standing_after rules before g xs) r → IsRefused due (standing_after rules before g ys) q → IsDecided r → IsDecided q → AreAlike xs ys r q
refused_alike rules before g xs ys r q due a b dr dq = record {
  entries = nothing-placed rules before g xs a.no_entry ∙ sym (nothing-placed rules before g ys b.no_entry);
  words = word_is due r.word a.says dr.0 ∙ sym (word_is due q.word b.says dq.0);
  outs = a.gives ∙ sym b.gives;
}

words_alike : (callee : Callee) (c d : Course) (r q : Reply) → c ≡ d → Says (word_for callee c) r.word → Says (word_for callee d) q.word → IsDecided r → IsDecided q → r.word ≡ q.word
words_alike callee c d r q same a b dr dq = word_is (word_for callee c) r.word a dr.0 ∙ ap (word_for callee) same ∙ sym (word_is (word_for callee d) q.word b dq.0)

outs_alike : (c d : Course) (r q : Reply) → c ≡ d → r.word ≡ q.word → r.outs ≡ outs_for r.word c → q.outs ≡ outs_for q.word d → r.outs ≡ q.outs
outs_alike c d r q same words a b = a ∙ ap (λ w. outs_for w c) words ∙ ap (outs_for q.word) same ∙ sym b

module _ (rules : Rules) (opening : Graph) (first second : List Entry) (a : Asked) (before : List Entry) (g : Graph) (well : IsWell rules g) where
  run_alike : (callee : Callee) (run : Run) (xs ys : List Entry) (r q : Reply) → All (IsSound rules) (standing_after rules before g xs) → All (IsSound rules) (standing_after rules before g ys) →
      All (λ e. is_of a e ≡ true) xs → All (λ e. is_of a e ≡ true) ys → IsDecided r → IsDecided q →
      IsUngrouped rules opening first a callee run (standing_after rules before g xs) r → IsUngrouped rules opening second a callee run (standing_after rules before g ys) q → AreAlike xs ys r q
  run_alike callee run xs ys r q sx sy ax ay dr dq m n =
      let same = singles_same rules a before g run xs ys m.course n.course well sx sy ax ay m.single n.single m.comes_to n.comes_to (is_over callee m.course r m.says dr) (is_over callee n.course q n.says dq) in
      let words = words_alike callee m.course n.course r q same.1 m.says n.says dr dq in
      record { entries = same.0; words = words; outs = outs_alike m.course n.course r q same.1 words m.gives n.gives }

  kept : (done : Bool) (r : Reply) → (done ≡ is_ok r.word) ⊎ (r.word ≡ word.Memory) → IsDecided r → done ≡ is_ok r.word
  kept done r (inl e) decided = e
  kept done r (inr e) decided = absurd (decided.0 e)

  -- The one entry of a group.
  one_placed : (xs : List Entry) (s : Standing) → standing_after rules before g xs ≡ s ∷ [] → (x : Entry) × (xs ≡ x ∷ []) × (s ≡ record { before = before; graph = g; entry = x })
  one_placed [] s e = absurd (cc)
  one_placed (x ∷ []) s e = (x, refl, sym (first_of e))
    where
      first_of : {A : Type 0} {x y : A} {xs ys : List A} → x ∷ xs ≡ y ∷ ys → x ≡ y
      first_of e = cc
  one_placed (x ∷ y ∷ ys) s e = absurd (cc)

  -- A group by its entry.
  record IsGroupEntry (callee : Callee) (run : Run) (x : Entry) (r : Reply) : Type 0 where
    attempts : List Tried
    done : Bool
    group : x.what ≡ Group attempts done
    course : Course
    comes_to : ComesTo rules run (made_along rules g attempts) course
    over : IsOver course
    says : Says (word_for callee course) r.word
    keeps : done ≡ is_ok r.word
    gives : r.outs ≡ outs_for r.word course

  group_entry : (callee : Callee) (run : Run) (xs : List Entry) (r : Reply) → IsDecided r → IsGroup rules callee run (standing_after rules before g xs) r → (x : Entry) × (xs ≡ x ∷ []) × IsGroupEntry callee run x r
  group_entry callee run xs r decided m =
      let placed = one_placed xs m.at m.one_entry in
      let what : placed.0.what ≡ Group m.attempts m.done = ap (λ (s : Standing). s.entry.what) (sym placed.2) ∙ m.group in
      let there : ComesTo rules run (made_in rules (record { before = before; graph = g; entry = placed.0 })) m.course = subst (λ (s : Standing). ComesTo rules run (made_in rules s) m.course) placed.2 m.comes_to in (
        placed.0,
        placed.1,
        record {
          attempts = m.attempts;
          done = m.done;
          group = what;
          course = m.course;
          comes_to = subst (λ (w : What). ComesTo rules run (made_along rules g (tries_in w)) m.course) what there;
          over = m.over;
          says = m.says;
          keeps = kept m.done r m.keeps decided;
          gives = m.gives;
        },
      )

  group_alike : (callee : Callee) (run : Run) (xs ys : List Entry) (r q : Reply) → All (IsSound rules) (standing_after rules before g xs) → All (IsSound rules) (standing_after rules before g ys) →
      All (λ e. is_of a e ≡ true) xs → All (λ e. is_of a e ≡ true) ys → IsDecided r → IsDecided q →
      IsGroup rules callee run (standing_after rules before g xs) r → IsGroup rules callee run (standing_after rules before g ys) q → AreAlike xs ys r q
  group_alike callee run xs ys r q sx sy ax ay dr dq m n =
      let x = group_entry callee run xs r dr m in
      let y = group_entry callee run ys q dq n in
      let sx' : All (IsSound rules) (standing_after rules before g (x.0 ∷ [])) = subst (λ (l : List Entry). All (IsSound rules) (standing_after rules before g l)) x.1 sx in
      let sy' : All (IsSound rules) (standing_after rules before g (y.0 ∷ [])) = subst (λ (l : List Entry). All (IsSound rules) (standing_after rules before g l)) y.1 sy in
      let theirs_x = All-head (λ e. is_of a e ≡ true) x.0 [] (subst (All (λ e. is_of a e ≡ true)) x.1 ax) in
      let theirs_y = All-head (λ e. is_of a e ≡ true) y.0 [] (subst (All (λ e. is_of a e ≡ true)) y.1 ay) in
      let tries_x = tries_of_entry rules a before g x.0 (Group x.2.attempts x.2.done) x.2.group (All-head (IsSound rules) (record { before = before; graph = g; entry = x.0 }) [] sx') theirs_x in
      let tries_y = tries_of_entry rules a before g y.0 (Group y.2.attempts y.2.done) y.2.group (All-head (IsSound rules) (record { before = before; graph = g; entry = y.0 }) [] sy') theirs_y in
      let same = tries_same rules g run (tries_made before a.session a.number) x.2.attempts y.2.attempts x.2.course y.2.course well tries_x tries_y x.2.comes_to y.2.comes_to x.2.over y.2.over in
      let words = words_alike callee x.2.course y.2.course r q same.1 x.2.says y.2.says dr dq in
      let dones : x.2.done ≡ y.2.done = x.2.keeps ∙ ap is_ok words ∙ sym y.2.keeps in
      let entry : x.0 ≡ y.0 = same_request a x.0 y.0 theirs_x theirs_y (x.2.group ∙ (λ i. Group (same.0 i) (dones i)) ∙ sym y.2.group) in
      record { entries = x.1 ∙ ap (λ (e : Entry). e ∷ []) entry ∙ sym y.1; words = words; outs = outs_alike x.2.course y.2.course r q same.1 words x.2.gives y.2.gives }

  never_dropped : (run : Run) (journal : List Entry) (entries : List Standing) (r : Reply) → IsDecided r → IsDropped rules opening journal a run entries r → ⊥
  never_dropped run journal entries r decided d = decided.1 (word_is word.Full r.word d.says decided.0)

  begun_alike : (callee : Callee) (run : Run) (grouped : Bool) (xs ys : List Entry) (r q : Reply) → All (IsSound rules) (standing_after rules before g xs) → All (IsSound rules) (standing_after rules before g ys) →
      All (λ e. is_of a e ≡ true) xs → All (λ e. is_of a e ≡ true) ys → IsDecided r → IsDecided q →
      IsBegun rules opening first a callee run (standing_after rules before g xs) r grouped → IsBegun rules opening second a callee run (standing_after rules before g ys) q grouped → AreAlike xs ys r q
  begun_alike callee run false xs ys r q sx sy ax ay dr dq m n = run_alike callee run xs ys r q sx sy ax ay dr dq m n
  begun_alike callee run true xs ys r q sx sy ax ay dr dq (inl m) (inl n) = group_alike callee run xs ys r q sx sy ax ay dr dq m n
  begun_alike callee run true xs ys r q sx sy ax ay dr dq (inl m) (inr n) = absurd (never_dropped run second (standing_after rules before g ys) q dq n)
  begun_alike callee run true xs ys r q sx sy ax ay dr dq (inr m) n = absurd (never_dropped run first (standing_after rules before g xs) r dr m)

  called_alike : (callee : Callee) (xs ys : List Entry) (r q : Reply) → All (IsSound rules) (standing_after rules before g xs) → All (IsSound rules) (standing_after rules before g ys) →
      All (λ e. is_of a e ≡ true) xs → All (λ e. is_of a e ≡ true) ys → IsDecided r → IsDecided q →
      IsCalled rules opening first a (standing_after rules before g xs) r callee → IsCalled rules opening second a (standing_after rules before g ys) q callee → AreAlike xs ys r q
  called_alike callee xs ys r q sx sy ax ay dr dq (inl m) (inl n) = refused_alike rules before g xs ys r q word.BadArgs m.1 n.1 dr dq
  called_alike callee xs ys r q sx sy ax ay dr dq (inl m) (inr n) = absurd (m.0 n.0)
  called_alike callee xs ys r q sx sy ax ay dr dq (inr m) (inl n) = absurd (n.0 m.0)
  called_alike callee xs ys r q sx sy ax ay dr dq (inr m) (inr n) =
      begun_alike callee (run_for rules a callee) a.request.group xs ys r q sx sy ax ay dr dq m.1 n.1

  served_alike : (callee : Option Callee) (xs ys : List Entry) (r q : Reply) → All (IsSound rules) (standing_after rules before g xs) → All (IsSound rules) (standing_after rules before g ys) →
      All (λ e. is_of a e ≡ true) xs → All (λ e. is_of a e ≡ true) ys → IsDecided r → IsDecided q →
      IsDue rules opening first a (standing_after rules before g xs) r callee → IsDue rules opening second a (standing_after rules before g ys) q callee → AreAlike xs ys r q
  served_alike None xs ys r q sx sy ax ay dr dq m n = refused_alike rules before g xs ys r q word.NoCall m n dr dq
  served_alike (Some callee) xs ys r q sx sy ax ay dr dq m n = called_alike callee xs ys r q sx sy ax ay dr dq m n

  -- Two answers to one request, from the same entries on.
  pub answers_same : (xs ys : List Entry) (r q : Reply) → All (IsSound rules) (standing_after rules before g xs) → All (IsSound rules) (standing_after rules before g ys) →
      All (λ e. is_of a e ≡ true) xs → All (λ e. is_of a e ≡ true) ys → IsDecided r → IsDecided q →
      IsReply rules opening first a (standing_after rules before g xs) r → IsReply rules opening second a (standing_after rules before g ys) q → (xs ≡ ys) × (r ≡ q)
  answers_same xs ys r q sx sy ax ay dr dq m n =
      let alike = served_alike (callee_named rules a.request.call) xs ys r q sx sy ax ay dr dq m.served n.served in
      let sessions : r.session ≡ q.session = m.of_session ∙ sym n.of_session in
      let requests : r.request ≡ q.request = m.of_request ∙ sym n.of_request in
      let places : r.places ≡ q.places = m.at_places ∙ ap (λ (l : List Entry). map entry_place (standing_after rules before g l)) alike.entries ∙ sym n.at_places in
      (alike.entries, λ i. record { session = sessions i; request = requests i; word = alike.words i; places = places i; outs = alike.outs i })
