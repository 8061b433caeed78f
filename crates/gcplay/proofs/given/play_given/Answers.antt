use Rattle.std.proofs.Common.{◌≡◌, ◌∙◌, ◌<◌, ◌⊎◌, ℕ, List, [], ◌∷◌, ap, refl, sym, subst, append-nil, ⊎_elim, inl, inr, map, arith, true, false}
use Rattle.std.specs.Prelude.{Contains, IfSome}
use Rattle.play_report.specs.Causes.{Rose}
use Rattle.std.specs.String.{string_bytes}
use Rattle.play_words.specs.Answers.{IsAnswer}
use Rattle.gc_play.specs.Promise.{FromSource, HasItsText, Wrote, enough_for, reads_source, wanted}
use Rattle.gc_play.specs.Reading.{IsSpent, TakesAtMost}
use Rattle.play_words.specs.Running.{IsRunText}
use Rattle.play_words.proofs.Promised.{answers_follow}
use Rattle.gc_play.specs.Given.{words_behind}
use Rattle.gcplay.proofs.Handed.{five-or-other, front-handed, keeps-handed, keeps-none, rose-more, sorts, whole-text, wrote-handed}
use Rattle.gcplay.proofs.given.play_given.Goals as goal

-- the words are those that were given
same : (g : _) (c : goal.After-drop-words-2 g) → map string_bytes c.as_slice.result.now ≡ words_behind c.args.given
same g c = ap (map string_bytes) c.as_slice.ensures.value ∙ c.in-Some.ensures

-- the status is that of the command, or that of a fault of the sink
status-is : (g : _) (c : goal.After-drop-words-2 g) → (c.settle.result.0 ≡ 5 → ⊥) → c.settle.result.0 ≡ c.play_words-status.result
status-is g c other = ⊎_elim (λ is. is) (λ five. absurd (other five)) c.settle.ensures.status

-- what was gathered at first is what the sink has
was : (g : _) (c : goal.After-drop-words-2 g) → c.in-Ok.gathered.faults ≡ g.K.Sink.faults c.args.sink
was g c = ap (λ s. s.faults) c.in-Ok.ensures

-- what the command wrote
wrote : (g : _) (c : goal.After-drop-words-2 g) → Wrote (IsAnswer (wanted (words_behind c.args.given)) (g.S.Source.left c.args.source.now)) c.play_words-status.result c.in-Ok.gathered.bytes c.play_words-status.new.sink.bytes
wrote g c =
    let left = g.S.Source.left c.args.source.now in
    let all = c.play_words-status.ensures in
    subst (λ (ws : List (List ℕ)). Wrote (IsAnswer (wanted ws) left) c.play_words-status.result c.in-Ok.gathered.bytes c.play_words-status.new.sink.bytes) (same g c)
    (answers_follow (wanted (map string_bytes c.as_slice.result.now)) left c.in-Ok.gathered.bytes c.play_words-status.new.sink.bytes c.play_words-status.result
    (record {
      run = all.run_or_fault;
      load = all.load;
      gen = all.generate;
      convert = all.convert;
      schedule = all.schedule;
      dump = all.dump;
      undump = all.undump;
      census = all.census;
      batch = all.batch;
      usage = all.usage;
    }))

pub returns-clause-answers : goal.returns-clause-answers
returns-clause-answers g c text =
    let left = g.S.Source.left c.args.source.now in
    let other = whole-text c.settle.result.0 text in
    let asked : Wrote (IsAnswer (wanted (words_behind c.args.given)) left) c.settle.result.0 c.in-Ok.gathered.bytes c.play_words-status.new.sink.bytes =
    subst (λ (n : ℕ). Wrote (IsAnswer (wanted (words_behind c.args.given)) left) n c.in-Ok.gathered.bytes c.play_words-status.new.sink.bytes) (sym (status-is g c other)) (wrote g c) in
    wrote-handed _ _ _ _ (IsAnswer (wanted (words_behind c.args.given)) left c.settle.result.0) (ap (λ s. s.bytes) c.in-Ok.ensures) (asked.whole text) (c.settle.ensures.whole other).0

pub returns-clause-run : goal.returns-clause-run
returns-clause-run g c o asked done =
    let other : c.settle.result.0 ≡ 5 → ⊥ = λ five. omega (arith, five, done) in
    wrote-handed _ _ _ _ (FromSource (IsRunText o) (g.S.Source.left c.args.source.now)) (ap (λ s. s.bytes) c.in-Ok.ensures)
    (c.play_words-status.ensures.run o (ap wanted (same g c) ∙ asked) (sym (status-is g c other) ∙ done)) (c.settle.ensures.whole other).0

pub returns-clause-statuses : goal.returns-clause-statuses
returns-clause-statuses g c = ⊎_elim (λ (is : c.settle.result.0 ≡ c.play_words-status.result). subst (λ (n : ℕ). Contains (0 ∷ 1 ∷ 2 ∷ 3 ∷ 4 ∷ 5 ∷ 6 ∷ 7 ∷ []) n) (sym is) c.play_words-status.ensures.statuses)
    (λ (five : c.settle.result.0 ≡ 5). (5, omega arith, sym five)) c.settle.ensures.status

pub returns-in_default-clause-statuses : goal.returns-in_default-clause-statuses
returns-in_default-clause-statuses g c = (6, omega arith, refl)

pub returns-in-Err-clause-statuses : goal.returns-in-Err-clause-statuses
returns-in-Err-clause-statuses g c = (6, omega arith, refl)

pub returns-clause-prefix : goal.returns-clause-prefix
returns-clause-prefix g c five =
    let n = c.play_words-status.result in
    let handed = c.settle.ensures.prefix in
    let first = ap (λ s. s.bytes) c.in-Ok.ensures in
    let w = wrote g c in
    ⊎_elim (λ (text : HasItsText n). let some = w.whole text in (some.0, inr (n, some.1), front-handed _ _ _ _ some.0 [] some.0 first (sym (append-nil some.0)) some.2 handed))
    (λ (rest : (n ≡ 5) ⊎ ((n ≡ 4) ⊎ (n ≡ 6))).
    ⊎_elim (λ (failed : n ≡ 5). let some = w.front failed in (some.0, inr some.1, front-handed _ _ _ _ some.2.0 some.2.1 some.0 first some.2.2 some.2.3 handed))
    (λ (quiet : (n ≡ 4) ⊎ (n ≡ 6)). ([], inl refl, front-handed _ _ _ _ [] [] [] first refl (keeps-none _ _ (c.play_words-status.ensures.silent quiet)) handed)) rest)
    (sorts n c.play_words-status.ensures.statuses)

pub returns-clause-silent : goal.returns-clause-silent
returns-clause-silent g c quiet =
    let other : c.settle.result.0 ≡ 5 → ⊥ = λ five. ⊎_elim (λ four. omega (arith, five, four)) (λ six. omega (arith, five, six)) quiet in
    let status = status-is g c other in
    keeps-handed _ _ _ _ (ap (λ s. s.bytes) c.in-Ok.ensures)
    (c.play_words-status.ensures.silent (⊎_elim (λ four. inl (sym status ∙ four)) (λ six. inr (sym status ∙ six)) quiet)) (c.settle.ensures.whole other).0

pub returns-clause-read_fault : goal.returns-clause-read_fault
returns-clause-read_fault g c four = c.play_words-status.ensures.read_fault (sym (status-is g c (λ five. omega (arith, four, five))) ∙ four)

pub returns-clause-read_rose : goal.returns-clause-read_rose
returns-clause-read_rose g c rose =
    ⊎_elim (λ (is : c.settle.result.0 ≡ c.play_words-status.result). ⊎_elim (λ four. inl (is ∙ four)) (λ six. inr (inr (is ∙ six))) (c.play_words-status.ensures.read_rose rose))
    (λ (five : c.settle.result.0 ≡ 5). inr (inl five)) c.settle.ensures.status

pub returns-clause-write_fault : goal.returns-clause-write_fault
returns-clause-write_fault g c five =
    let n = c.play_words-status.result in
    let now = g.K.Sink.faults c.settle.result.1 in
    ⊎_elim
    (λ (failed : n ≡ 5).
    subst (λ (k : ℕ). g.K.Sink.faults c.args.sink < k) (sym (c.settle.ensures.stopped failed).1)
    (subst (λ (k : ℕ). k < c.play_words-status.new.sink.faults) (was g c) (c.play_words-status.ensures.write_fault failed)))
    (λ (other : n ≡ 5 → ⊥).
    let same_count : c.play_words-status.new.sink.faults ≡ g.K.Sink.faults c.args.sink = c.play_words-status.ensures.write_stays other ∙ was g c in
    rose-more (g.K.Sink.faults c.args.sink) now c.requires.sink (subst (λ (k : ℕ). Rose k now) same_count (c.settle.ensures.fault other five)))
    (five-or-other n)

pub returns-clause-write_stays : goal.returns-clause-write_stays
returns-clause-write_stays g c other =
    (c.settle.ensures.whole other).1 ∙ (c.play_words-status.ensures.write_stays (λ five. other (status-is g c other ∙ five)) ∙ was g c)

pub returns-clause-spent : goal.returns-clause-spent
returns-clause-spent g c reads text =
    let left = g.S.Source.left c.args.source.now in
    let now = g.S.Source.left c.play_words-status.new.source in
    let its : HasItsText c.play_words-status.result = subst HasItsText (status-is g c (whole-text c.settle.result.0 text)) text in
    subst (λ (ws : List (List ℕ)). reads_source (wanted ws) ≡ true → IfSome left (λ bytes. IsSpent (enough_for (wanted ws)) bytes now)) (same g c) (λ reads. c.play_words-status.ensures.spent reads its) reads

pub returns-clause-most : goal.returns-clause-most
returns-clause-most g c =
    subst (λ (ws : List (List ℕ)). TakesAtMost (enough_for (wanted ws)) (g.S.Source.left c.args.source.now) (g.S.Source.left c.play_words-status.new.source)) (same g c) c.play_words-status.ensures.most

pub returns-clause-untouched : goal.returns-clause-untouched
returns-clause-untouched g c unread = c.play_words-status.ensures.untouched (ap (λ (ws : List (List ℕ)). reads_source (wanted ws)) (same g c) ∙ unread)
