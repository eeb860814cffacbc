-- Two serial reports in which each request was served to its end are one.
use Rattle.std.proofs.Common.{◌≡◌, List, [], ◌∷◌, ◌++◌, true, false, refl, sym, ap, ◌∙◌, subst}
use Rattle.std.specs.List.{All, AllZip}
use Rattle.std.proofs.lemmas.List.Elements.{All-head, All-tail, All-weaker}
use Rattle.hs_types.specs.declared.entry.Entry.{Entry}
use Rattle.hs_types.specs.declared.graph.Graph.{Graph}
use Rattle.hs_types.specs.declared.request.Request.{Request}
use Rattle.hs_types.specs.Rules.{Rules}
use Rattle.hs_types.specs.Journal.{after_entry, after_journal}
use Rattle.hs_expr.specs.Lists.{EachPair}
use Rattle.hs_expr.proofs.Lists.{All-both, All-front, All-rest_of}
use Rattle.hs_session.specs.declared.report.Reply.{Reply}
use Rattle.hs_session.specs.declared.report.Report.{Report}
use Rattle.hs_session.specs.Standing.{Standing, standing_after}
use Rattle.hs_session.specs.Replies.{IsReply, entries_of}
use Rattle.hs_session.specs.Requests.{Asked, IsAsked, all_asked, is_of}
use Rattle.hs_session.specs.SerialReport.{AreLeast, IsDecided, IsSerialReport, NotAfter}
use Rattle.hs_session.proofs.Sound.{IsAmong, IsSound}
use Rattle.hs_session.proofs.Fronts.{parts}
use Rattle.hs_session.proofs.Placing.{IsLawfulAt, front_theirs, lawful_along, rest_theirs, standing-append}
use Rattle.hs_session.proofs.Replies.{answers_same}
use Rattle.hs_session.proofs.Requests.{AskedBefore, asked_among, earlier_is_not, requests_rise}
use Rattle.hs_session.proofs.Runs.{IsWell, well_after_entry}

-- The graph after sound entries is as well formed.
well_along : (rules : Rules) (before : List Entry) (g : Graph) (xs : List Entry) → IsWell rules g → All (IsSound rules) (standing_after rules before g xs) → IsWell rules (after_journal rules g xs)
well_along rules before g [] well sound = well
well_along rules before g (x ∷ xs) well sound =
    let here : Standing = record { before = before; graph = g; entry = x } in
    let more : List Standing = standing_after rules (before ++ x ∷ []) (after_entry rules g x) xs in
    well_along rules (before ++ x ∷ []) (after_entry rules g x) xs (well_after_entry rules g x well (All-head (IsSound rules) here more sound).0.tries) (All-tail (IsSound rules) here more sound)

module _ (rules : Rules) (opening : Graph) where
  -- The entries after these answer the requests, one by one.
  abbrev AnswerFrom : List Entry → List Entry → Graph → List Entry → Asked → Reply → Type 0
  AnswerFrom journal before g rest asked reply = IsReply rules opening journal asked (entries_of asked (standing_after rules before g rest)) reply

  rest_answered : (journal : List Entry) (a : Asked) (before : List Entry) (g : Graph) (xs rest : List Entry) (ks : List Asked) (rs : List Reply) → All (λ e. is_of a e ≡ true) xs → All (AskedBefore a) ks →
      AllZip (AnswerFrom journal before g (xs ++ rest)) ks rs → AllZip (AnswerFrom journal (before ++ xs) (after_journal rules g xs) rest) ks rs
  rest_answered journal a before g xs rest [] [] theirs first zip = tt
  rest_answered journal a before g xs rest [] (r ∷ rs) theirs first zip = absurd zip
  rest_answered journal a before g xs rest (k ∷ ks) [] theirs first zip = absurd zip
  rest_answered journal a before g xs rest (k ∷ ks) (r ∷ rs) theirs first zip = (
    subst (λ (l : List Standing). IsReply rules opening journal k l r) (rest_theirs rules k before g xs rest (All-weaker (λ e. is_of a e ≡ true) (λ e. is_of k e ≡ false) (λ e t. earlier_is_not a k e (All-head (AskedBefore a) k ks first) t) xs theirs)) zip.0,
    rest_answered journal a before g xs rest ks rs theirs (All-tail (AskedBefore a) k ks first) zip.1,
  )

  -- What a journal's rest is, before these requests are served.
  record IsRest (journal : List Entry) (before : List Entry) (g : Graph) (ks : List Asked) (rest : List Entry) (replies : List Reply) : Type 0 where
    sound : All (IsSound rules) (standing_after rules before g rest)
    in_order : EachPair NotAfter rest
    among : All (IsAmong ks) rest
    answered : AllZip (AnswerFrom journal before g rest) ks replies
    decided : All IsDecided replies

  -- The first request's entries, its reply, and the rest.
  record IsFirst (journal : List Entry) (before : List Entry) (g : Graph) (a : Asked) (ks : List Asked) (rest : List Entry) (replies : List Reply) : Type 0 where
    front : List Entry
    later : List Entry
    reply : Reply
    more_replies : List Reply
    whole : rest ≡ front ++ later
    whole_replies : replies ≡ reply ∷ more_replies
    sound : All (IsSound rules) (standing_after rules before g front)
    theirs : All (λ e. is_of a e ≡ true) front
    answer : IsReply rules opening journal a (standing_after rules before g front) reply
    decided : IsDecided reply
    more : IsRest journal (before ++ front) (after_journal rules g front) ks later more_replies

  first_of : (journal : List Entry) (before : List Entry) (g : Graph) (a : Asked) (ks : List Asked) (rest : List Entry) (replies : List Reply) → All (AskedBefore a) ks → IsRest journal before g (a ∷ ks) rest replies → IsFirst journal before g a ks rest replies
  first_of journal before g a ks rest [] first m = absurd m.answered
  first_of journal before g a ks rest (r ∷ rs) first m =
      let p = parts a ks rest first m.in_order m.among in
      let sound : All (IsSound rules) (standing_after rules before g p.front ++ standing_after rules (before ++ p.front) (after_journal rules g p.front) p.rest) =
      subst (All (IsSound rules)) (standing-append rules before g p.front p.rest) (subst (λ (l : List Entry). All (IsSound rules) (standing_after rules before g l)) p.whole m.sound) in
      let zip : AllZip (AnswerFrom journal before g (p.front ++ p.rest)) (a ∷ ks) (r ∷ rs) = subst (λ (l : List Entry). AllZip (AnswerFrom journal before g l) (a ∷ ks) (r ∷ rs)) p.whole m.answered in
      record {
        front = p.front;
        later = p.rest;
        reply = r;
        more_replies = rs;
        whole = p.whole;
        whole_replies = refl;
        sound = All-front (IsSound rules) (standing_after rules before g p.front) (standing_after rules (before ++ p.front) (after_journal rules g p.front) p.rest) sound;
        theirs = p.theirs;
        answer = subst (λ (l : List Standing). IsReply rules opening journal a l r) (front_theirs rules a before g p.front p.rest p.theirs p.none) zip.0;
        decided = All-head IsDecided r rs m.decided;
        more = record {
          sound = All-rest_of (IsSound rules) (standing_after rules before g p.front) (standing_after rules (before ++ p.front) (after_journal rules g p.front) p.rest) sound;
          in_order = p.in_order;
          among = p.among;
          answered = rest_answered journal a before g p.front p.rest ks rs p.theirs first zip.1;
          decided = All-tail IsDecided r rs m.decided;
        };
      }

  no_entry : (rest : List Entry) → All (IsAmong []) rest → rest ≡ []
  no_entry [] among = refl
  no_entry (e ∷ es) among = absurd (All-head (IsAmong []) e es among)

  no_reply : (journal : List Entry) (before : List Entry) (g : Graph) (rest : List Entry) (replies : List Reply) → AllZip (AnswerFrom journal before g rest) [] replies → replies ≡ []
  no_reply journal before g rest [] zip = refl
  no_reply journal before g rest (r ∷ rs) zip = absurd zip

  rests_same : (first second : List Entry) (ks : List Asked) (before : List Entry) (g : Graph) (xs ys : List Entry) (rs qs : List Reply) → IsWell rules g → EachPair AskedBefore ks →
      IsRest first before g ks xs rs → IsRest second before g ks ys qs → (xs ≡ ys) × (rs ≡ qs)
  rests_same first second [] before g xs ys rs qs well rise m n = (no_entry xs m.among ∙ sym (no_entry ys n.among), no_reply first before g xs rs m.answered ∙ sym (no_reply second before g ys qs n.answered))
  rests_same first second (a ∷ ks) before g xs ys rs qs well rise m n =
      let x = first_of first before g a ks xs rs rise.0 m in
      let y = first_of second before g a ks ys qs rise.0 n in
      let here = answers_same rules opening first second a before g well x.front y.front x.reply y.reply x.sound y.sound x.theirs y.theirs x.decided y.decided x.answer y.answer in
      let more_y : IsRest second (before ++ x.front) (after_journal rules g x.front) ks y.later y.more_replies = subst (λ (l : List Entry). IsRest second (before ++ l) (after_journal rules g l) ks y.later y.more_replies) (sym here.0) y.more in
      let rest = rests_same first second ks (before ++ x.front) (after_journal rules g x.front) x.later y.later x.more_replies y.more_replies (well_along rules before g x.front well x.sound) rise.1 x.more more_y in
      (x.whole ∙ (λ i. here.0 i ++ rest.0 i) ∙ sym y.whole, x.whole_replies ∙ (λ i. here.1 i ∷ rest.1 i) ∙ sym y.whole_replies)

  whole_rest : (sessions : List (List Request)) (report : Report) → IsSerialReport rules opening sessions report → All IsDecided report.replies → IsRest report.journal [] opening (all_asked sessions) report.journal report.replies
  whole_rest sessions report serial decided = record {
    sound = All-both (IsLawfulAt rules) (AreLeast rules) (standing_after rules [] opening report.journal) (lawful_along rules opening [] opening report.journal refl serial.lawful.lawful) serial.least;
    in_order = serial.in_order;
    among = All-weaker (IsAsked sessions) (IsAmong (all_asked sessions)) (λ e h. asked_among sessions e h) report.journal serial.lawful.all_were_asked;
    answered = serial.lawful.answered;
    decided = decided;
  }

  pub one_report : (sessions : List (List Request)) (a b : Report) → IsWell rules opening → IsSerialReport rules opening sessions a → IsSerialReport rules opening sessions b → All IsDecided a.replies → All IsDecided b.replies →
      (a.journal ≡ b.journal) × (a.replies ≡ b.replies) × (a.graph.graph ≡ b.graph.graph)
  one_report sessions a b well sa sb da db =
      let same = rests_same a.journal b.journal (all_asked sessions) [] opening a.journal b.journal a.replies b.replies well (requests_rise sessions) (whole_rest sessions a sa da) (whole_rest sessions b sb db) in
      (same.0, same.1, sa.lawful.graph_after ∙ ap (after_journal rules opening) same.0 ∙ sym sb.lawful.graph_after)
