-- Whoever took a weak reference, a seat that finds the object's cell free, or another object there, finds it lost.
use Rattle.std.proofs.Common.{ℕ, ◌≡◌, ◌≢◌, ◌%◌, ◌∙◌, arith, List, [], ◌∷◌, ◌++◌, append_assoc, ap, refl, subst, sym, true, false, inl, inr, None, Some}
use Rattle.std.specs.Prelude.{slice_get, slice_index}
use Rattle.std.specs.List.{All}
use Rattle.std.proofs.lemmas.Bool.{true≢false}
use Rattle.std.proofs.lemmas.Option.{same_Some}
use Rattle.mark_core.specs.Bits.{cell_bit, has_bit}
use Rattle.mark_core.specs.Laws.{IsCore}
use Rattle.mark_core.specs.Layout.{region_sizes, words_of}
use Rattle.mark_core.specs.Shapes.{IsShape}
use Rattle.mark_core.specs.Steps.{Core, after_event, failing_part, first_refused, run_of, start_core}
use Rattle.mark_core.specs.Weak.{IsGone, IsWeak}
use Rattle.mark_core.specs.declared.kinds.Event.{Event}
use Rattle.mark_core.specs.declared.kinds.Shape.{Shape}
use Rattle.mark_core.specs.declared.kinds.Step.{Step}
use Rattle.mark_core.specs.declared.kinds.Step.TheVariants.{ReadIdent, ReadWeak}
use Rattle.mark_core.specs.declared.seat.SeatState.{SeatState}
use Rattle.mark_core.proofs.Blocks.BlocksStopped.{Taken, in-place}
use Rattle.mark_core.proofs.Consequences.WeakKept.{gone-kept, weak-kept, weak_stays}
use Rattle.mark_core.proofs.CoreKept.{core_kept, core-starts}
use Rattle.mark_core.proofs.Known.{Acted, acts}
use Rattle.mark_core.proofs.References.ReferencesRoots.{weak-bit}
use Rattle.mark_core.proofs.Writing.Places.{words-get}
use Rattle.gc_table.specs.AgreementLaws.{world_run}
use Rattle.gc_table.specs.Past.{LeadTo, log_from, word_told}
use Rattle.gc_table.specs.RunWorlds.{World, start_world}
use Rattle.gc_table.specs.Weak.{IsLostForGood}
use Rattle.gc_table.specs.declared.view.Entry.{Entry}
use Rattle.gc_table.proofs.History.Past.{Fits}
use Rattle.gc_table.proofs.Kept.{agrees-starts}
use Rattle.gc_table.proofs.Losing.{lost_for_good}
use Rattle.gc_table.proofs.Remembering.{histories_keep_weak}
use Rattle.gc_table.proofs.Winning.{run_whole}
use Rattle.seat_steps.specs.Received.{DeathKnown, FindsDead}
use Rattle.seat_steps.proofs.Entered.{EnteredBy, InTwo, all-back, all-front, entered-at, in-two, rest_same}

-- the words that a step told, if its seat's record is this
abbrev Tells : Core → ℕ → Step → ℕ → Type 0
Tells d i step n = (s : SeatState) → slice_get d.seats i ≡ Some s → word_told d s step ≡ n

-- no published object was found in the cell
gone-free : (d : Core) (i c id bits : ℕ) → IsCore d → failing_part d (record { seat = i; step = ReadWeak c }) ≡ None → Tells d i (ReadWeak c) bits → has_bit bits (c % 64) ≡ false → IsWeak d id c → IsGone d id
gone-free d i c id bits core ok told clear weak =
    let acted : (s : SeatState) × Acted d (record { seat = i; step = ReadWeak c }) s = acts d (record { seat = i; step = ReadWeak c }) core ok in
    let taken : Taken d i acted.0 (ReadWeak c) = record { core = core; got = acted.1.seat; live = acted.1.live; ok = acted.1.ok } in
    let free : cell_bit (words_of d.shape d.words).allocs c ≡ false = sym (weak-bit d i acted.0 c taken) ∙ (ap (λ (w : ℕ). has_bit w (c % 64)) (told acted.0 acted.1.seat) ∙ clear) in
    record {
      given = weak.given;
      seated = weak.seated;
      only = λ y low used is. let p = weak.only y low used is in true≢false (sym (subst (λ (z : ℕ). cell_bit (words_of d.shape d.words).allocs z ≡ true) p.0 p.1) ∙ free);
    }

-- another object was found there
gone-other : (d : Core) (i c id other : ℕ) → IsCore d → failing_part d (record { seat = i; step = ReadIdent c }) ≡ None → Tells d i (ReadIdent c) other → other ≢ id → IsWeak d id c → IsGone d id
gone-other d i c id other core ok told differs weak =
    let acted : (s : SeatState) × Acted d (record { seat = i; step = ReadIdent c }) s = acts d (record { seat = i; step = ReadIdent c }) core ok in
    let taken : Taken d i acted.0 (ReadIdent c) = record { core = core; got = acted.1.seat; live = acted.1.live; ok = acted.1.ok } in
    let there : slice_index (words_of d.shape d.words).identities c ≡ other = sym (words-get (region_sizes d.shape) 9 d.words c 0 (in-place d i acted.0 (ReadIdent c) taken)) ∙ told acted.0 acted.1.seat in
    record {
      given = weak.given;
      seated = weak.seated;
      only = λ y low used is. differs (sym there ∙ subst (λ (z : ℕ). slice_index (words_of d.shape d.words).identities z ≡ id) (weak.only y low used is).0 is);
    }

event_is : (e : Event) (step : Step) → e.step ≡ step → e ≡ record { seat = e.seat; step = step }
event_is e step is = λ y. record { seat = e.seat; step = is y }

-- by the event of the entry
gone-at : (i c id : ℕ) (end : Core) (a : Entry) (t : EnteredBy i (λ d. IsWeak d id c) end a) → FindsDead c id a → IsGone t.core id
gone-at i c id end a t (inl (bits, is, clear)) =
    let step : t.at.step ≡ ReadWeak c = ap (λ (x : Entry). x.step) (t.told ∙ is) in
    let word : word_told t.core t.seat t.at.step ≡ bits = ap (λ (x : Entry). x.found) (t.told ∙ is) in
    gone-free t.core t.at.seat c id bits t.whole (subst (λ (e : Event). failing_part t.core e ≡ None) (event_is t.at (ReadWeak c) step) t.allowed)
    (λ s g. ap (λ (o : SeatState). word_told t.core o (ReadWeak c)) (same_Some s t.seat (sym g ∙ t.there)) ∙ subst (λ (z : Step). word_told t.core t.seat z ≡ bits) step word) clear t.holds
gone-at i c id end a t (inr (other, is, differs)) =
    let step : t.at.step ≡ ReadIdent c = ap (λ (x : Entry). x.step) (t.told ∙ is) in
    let word : word_told t.core t.seat t.at.step ≡ other = ap (λ (x : Entry). x.found) (t.told ∙ is) in
    gone-other t.core t.at.seat c id other t.whole (subst (λ (e : Event). failing_part t.core e ≡ None) (event_is t.at (ReadIdent c) step) t.allowed)
    (λ s g. ap (λ (o : SeatState). word_told t.core o (ReadIdent c)) (same_Some s t.seat (sym g ∙ t.there)) ∙ subst (λ (z : Step). word_told t.core t.seat z ≡ other) step word) differs t.holds

-- so it is gone at the end
gone-on : (i c id : ℕ) (end : Core) (a : Entry) → EnteredBy i (λ d. IsWeak d id c) end a → FindsDead c id a → IsGone end id
gone-on i c id end a t found =
    let next : Core = after_event t.core t.at in
    let gone : IsGone next id = gone-kept t.core t.at id t.whole t.allowed (gone-at i c id end a t found) in
    subst (λ (d : Core). IsGone d id) t.ends (weak_stays.gone id next t.rest (core_kept t.core t.at t.whole t.fits t.allowed) t.fit gone)

-- what is gone at the end of a history is lost for good
lost-at-end : (sh : Shape) (es : List Event) (end : Core) (id : ℕ) → IsShape sh → LeadTo sh es end → IsGone end id → IsLostForGood end (world_run es (start_core sh 1) (start_world sh)) id
lost-at-end sh es end id shaped led gone =
    let start : Core = start_core sh 1 in
    let world : World = world_run es start (start_world sh) in
    let all = run_whole es start (start_world sh) (core-starts sh 1 shaped (omega arith) (omega arith)) (agrees-starts sh 1 shaped) led.fit in
    subst (λ (d : Core). IsLostForGood d world id) led.leads (λ later fit. lost_for_good (run_of es start) world later id all.0 all.1 fit (subst (λ (d : Core). IsGone d id) (sym led.leads) gone))

pub death_known : DeathKnown
death_known sh es end c id i log a shaped led taken found done =
    let start : Core = start_core sh 1 in
    let core : IsCore start = core-starts sh 1 shaped (omega arith) (omega arith) in
    let past : List Event = taken.past in
    let more : List Event = taken.begins.0 in
    let is : es ≡ past ++ more = taken.begins.1 in
    let fit : All Fits (past ++ more) = subst (λ (xs : List Event). All Fits xs) is led.fit in
    let two : InTwo 0 i past more start = in-two 0 i past more start (subst (λ (xs : List Event). first_refused 0 xs start ≡ None) is led.allowed) in
    let mid : Core = run_of past start in
    let weak : IsWeak mid id c = histories_keep_weak sh past mid taken.taken.0 c id shaped (record { allowed = two.first; fit = all-front past more fit; leads = refl }) taken.taken.1 in
    let own : List Entry = log_from i start past in
    let between : List Entry = taken.before.0 in
    let parts : own ++ log_from i mid more ≡ own ++ (between ++ a ∷ done.0) =
    sym two.log
    ∙ (ap (λ (xs : List Event). log_from i start xs) (sym is)
    ∙ (done.1
    ∙ (ap (λ (l : List Entry). (l ++ a ∷ []) ++ done.0) taken.before.1
    ∙ (append_assoc (own ++ between) (a ∷ []) done.0 ∙ append_assoc own between (a ∷ done.0))))) in
    let whole : IsCore mid = (run_whole past start (start_world sh) core (agrees-starts sh 1 shaped) (all-front past more fit)).0 in
    let t : EnteredBy i (λ d. IsWeak d id c) (run_of more mid) a =
    entered-at i (λ d. IsWeak d id c) (λ d e k ok w. weak-kept d e id c k ok w) two.number more mid whole weak two.then (all-back past more fit) between a done.0 (rest_same own (log_from i mid more) (between ++ a ∷ done.0) parts) in
    let ends : run_of more mid ≡ end = sym two.ends ∙ (ap (λ (xs : List Event). run_of xs start) (sym is) ∙ led.leads) in
    lost-at-end sh es end id shaped led (subst (λ (d : Core). IsGone d id) ends (gone-on i c id (run_of more mid) a t found))
