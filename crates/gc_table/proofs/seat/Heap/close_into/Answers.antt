use Rattle.std.proofs.Common.{ℕ, ◌≡◌, ◌<◌, List, length, Option, Some, None, inl, inr, ⊎_elim, sym, ap, ◌∙◌, subst, arith}
use Rattle.std.specs.Prelude.{slice_get, nat_lt, if◌then◌else◌, Contains}
use Rattle.std.proofs.Math.Logic.{∥∥₁_elim}
use Rattle.std.proofs.Props.{props}
use Rattle.mark_core.specs.Start.{spent_seat}
use Rattle.mark_core.specs.declared.kinds.Shape.{Shape}
use Rattle.mark_core.specs.declared.seat.SeatState.{SeatState}
use Rattle.gc_table.specs.Rule.{IsPossible, IsFinal, HasLog, HasSection, KnowsFull, Leads}
use Rattle.gc_table.specs.TableState.{start_state}
use Rattle.gc_table.specs.Past.{LeadTo, log_of}
use Rattle.gc_table.specs.declared.view.Entry.{Entry}
use Rattle.gc_table.proofs.History.Past.{log-none}
use Rattle.std.proofs.lemmas.List.{get_or-take}
use Rattle.mark_core.specs.Notes.{word_at}
use Rattle.mark_core.specs.Places.{the_phase}
use Rattle.mark_core.specs.Seats.{phase_of}
use Rattle.mark_core.specs.Layout.{words_of}
use Rattle.mark_core.specs.declared.kinds.Phase.TheVariants.{Full}
use Rattle.gc_table.specs.Seats.{seen_of, view_of, IsOutside}
use Rattle.gc_table.specs.Seen.{Begins}
use Rattle.mark_core.specs.declared.kinds.Event.{Event}
use Rattle.gc_table.specs.Ends.{AreWords, IsResting, IsEnd}
use Rattle.gc_table.specs.declared.view.View.{View}
use Rattle.gc_table.specs.declared.view.SectionState.{SectionState}
use Rattle.gc_table.specs.declared.seat.HeapSeat.{HeapSeat}
use Rattle.gc_table.specs.declared.words.Words.{Words}
use Rattle.gc_table.proofs.Asking.{own-number}
use Rattle.gc_table.proofs.Joining.{same-got, some-at}
use Rattle.std.specs.Slots.{slots_items}
use Rattle.gc_table.proofs.TokensClosed.{closes-history}
use Rattle.gc_table.proofs.seat.Heap.close_into.Goals as goal

-- A closed heap is in a state in which each section is as its own seat left it, and of the seats with sections only the first is left.
-- the section of seat j, if there are n sections
abbrev numbered : ℕ → ℕ → Option ℕ
numbered j n = if nat_lt j n then Some j else None

section_is : (sh : Shape) (j : ℕ) (v : View) → IsPossible v → v.shape ≡ sh → v.state.number ≡ j → v.state.section ≡ numbered j sh.sections
section_is sh j v p shaped number =
    let seat = p.whole.core.formed.seats p.index v.state p.agrees.seat in
    seat.section ∙ (λ y. numbered ((sym seat.number ∙ number) y) ((sym p.agrees.shape ∙ shaped) y).sections)

-- the seats are of this shape, in order, and outside
abbrev pub AreGiven : Shape → List HeapSeat → Type 0
AreGiven sh seats = (i : ℕ) (s : HeapSeat) → slice_get seats i ≡ Some s → ((view_of s).shape ≡ sh) × ((view_of s).state.number ≡ i) × IsOutside (view_of s)

-- the view is the first seat's, with all sections
abbrev pub IsFirst : List HeapSeat → View → Type 0
IsFirst seats v = (s : HeapSeat) → slice_get seats 0 ≡ Some s → (v.state ≡ (view_of s).state) × (v.plan ≡ (view_of s).plan) × (v.opened ≡ (view_of s).opened)

abbrev pub HasAll : List HeapSeat → View → Type 0
HasAll seats v = (i : ℕ) (s : HeapSeat) (k : ℕ) → slice_get seats i ≡ Some s → (view_of s).state.section ≡ Some k → HasSection v k (view_of s).own

abbrev pub HasLogs : List HeapSeat → View → Type 0
HasLogs seats v = (i : ℕ) (s : HeapSeat) → slice_get seats i ≡ Some s → HasLog v i (view_of s).log

abbrev pub TellsFull : List HeapSeat → View → Type 0
TellsFull seats v = (i : ℕ) (s : HeapSeat) → slice_get seats i ≡ Some s → KnowsFull (view_of s) → KnowsFull v

-- if the last seat knows that the heap was found full, it is
found_full : (sh : Shape) (v : View) (ws : List ℕ) (w : Words) (f : IsFinal v ws) → f.state.core.shape ≡ sh → AreWords sh f.state.core.words w → KnowsFull v → w.phase ≡ Full
found_full sh v ws w f same words k =
    let c = f.state.core in
    let at : word_at c.shape c.words the_phase ≡ 5 = (f.agrees.noted the_phase 5 k).1 in
    let read : (words_of sh c.words).phase ≡ 5 = sym (get_or-take 11 c.words 1 0 (omega arith)) ∙ at in
    words.phase ∙ ap phase_of read

final-shape : (sh : Shape) (v : View) (ws : List ℕ) (f : IsFinal v ws) → v.shape ≡ sh → f.state.core.shape ≡ sh
final-shape sh v ws f shaped = sym f.agrees.shape ∙ shaped

-- a section is as its seat left it
section_left : (v : View) (ws : List ℕ) (f : IsFinal v ws) (k : ℕ) (x : SectionState) → HasSection v k x → slice_get f.state.sections k ≡ Some x
section_left v ws f k x h =
    ⊎_elim
    (λ (o : (v.state.section ≡ Some k) × (v.own ≡ x)). f.agrees.own k o.0 ∙ ap Some o.1)
    (λ (i : Contains v.joined (k, x)). (f.agrees.joined k x i).0)
    h

-- a log is its seat's part of what has happened
log_left : (v : View) (ws : List ℕ) (f : IsFinal v ws) (i : ℕ) (l : List Entry) → HasLog v i l → l ≡ log_of f.state.core.shape f.past i
log_left v ws f i l h =
    ⊎_elim
    (λ (o : (v.state.number ≡ i) × (v.log ≡ l)).
    let at : f.index ≡ i = sym ((f.whole.core.formed.seats f.index v.state f.agrees.seat).number) ∙ o.0 in
    sym o.1 ∙ (f.logged.log ∙ ap (log_of f.state.core.shape f.past) at))
    (λ (h : Contains v.logs (i, l)). (f.logged.logs i l h).0)
    h

-- a record with a section is spent, or that of the last seat
at_rest : (seats : List HeapSeat) (v : View) (ws : List ℕ) (f : IsFinal v ws) (k : ℕ) (x : SectionState) (r : SeatState) → ((s : HeapSeat) × (slice_get seats 0 ≡ Some s) × (v.state ≡ (view_of s).state) × IsOutside (view_of s)) → slice_get f.state.core.seats k ≡ Some r → HasSection v k x
    → IsResting seats r
at_rest seats v ws f k x r z got h =
    let c = f.state.core in
    ⊎_elim
    (λ (o : (v.state.section ≡ Some k) × (v.own ≡ x)).
    let at : k ≡ f.index = own-number c f.index k v.state f.whole.core f.agrees.seat o.0 in
    let is : r ≡ v.state = same-got c.seats k r v.state got (ap (slice_get c.seats) at ∙ f.agrees.seat) in
    inr (z.0, z.1, is ∙ z.2, z.3))
    (λ (i : Contains v.joined (k, x)). inl (c.shape, k, same-got c.seats k r (spent_seat c.shape k) got (f.agrees.joined k x i).1))
    h

ends : (sh : Shape) (seats : List HeapSeat) (v : View) (ws : List ℕ) (w : Words) → 0 < length seats → AreGiven sh seats → v.shape ≡ sh → IsFirst seats v → HasAll seats v → HasLogs seats v → TellsFull seats v → (f : IsFinal v ws) → ((i : ℕ) (s : HeapSeat) → slice_get seats i ≡ Some s → Begins (seen_of s) f.past) → AreWords sh ws w → IsEnd sh seats w
ends sh seats v ws w some given shaped first all logs tells f since words =
    let c = f.state.core in
    let same : c.shape ≡ sh = final-shape sh v ws f shaped in
    record {
      state = f.state;
      whole = f.whole;
      shape = same;
      plan = λ s h. sym f.agrees.plan ∙ (first s h).1;
      words = subst (λ (xs : List ℕ). AreWords sh xs w) (sym f.words) words;
      full = λ i s h k. found_full sh v ws w f same (subst (λ (xs : List ℕ). AreWords sh xs w) (sym f.words) words) (tells i s h k);
      sections = λ i s k h e. section_left v ws f k (view_of s).own (all i s k h e);
      past = f.past;
      since = since;
      led = subst (λ (x : Shape). LeadTo x f.past c) same f.led;
      came = subst (λ (x : Shape). Leads f.past (start_state x f.state.plan 1) f.state) same f.came;
      logs = λ i s h. log_left v ws f i (view_of s).log (logs i s h) ∙ ap (λ (x : Shape). log_of x f.past i) same;
      theirs = λ s h count i far.
          let number : v.state.number ≡ 0 = ap (λ (r : SeatState). r.number) (first s h).0 ∙ (given 0 s h).1 in
          log-none sh f.past c i (subst (λ (x : Shape). LeadTo x f.past c) same f.led) (omega (arith, far, sym (f.opened number), (first s h).2, count));
      resting = λ j r k l got e.
          let seat = some-at seats j l in
          let s : HeapSeat = seat.0 in
          let q = given j s seat.1 in
          let zero = some-at seats 0 some in
          let ours : (view_of s).state.section ≡ numbered j sh.sections = ∥∥₁_elim s.possible (Prim.hlevel props) (λ (p : IsPossible (view_of s)). section_is sh j (view_of s) p q.0 q.1) in
          let theirs : r.section ≡ numbered j c.shape.sections = (f.whole.core.formed.seats j r got).section in
          let mine : (view_of s).state.section ≡ Some k = ours ∙ (ap (λ (x : Shape). numbered j x.sections) (sym same) ∙ (sym theirs ∙ e)) in
          let at : k ≡ j = own-number c j k r f.whole.core got e in
          at_rest seats v ws f k (view_of s).own r (zero.0, zero.1, (first zero.0 zero.1).0, (given 0 zero.0 zero.1).2) (ap (slice_get c.seats) at ∙ got) (all j s k seat.1 mine);
    }

pub returns : goal.returns
returns c =
    let s = c.args.seats in
    let sh = c.args.self.shape in
    let j = c.join_all-first.ensures in
    let v = c.join_all-first.result.me.0.view in
    let ws : List ℕ = slots_items c.close_with-closed.result.words in
    let some : 0 < length s.items = omega (arith, s.ok, c.requires.some) in
    let k = c.join_all-first.result.me.0 in
    let last = closes-history _ _ _ _ _ _ j.left.seated j.left.live c.close_with-closed.ensures.values.2 in
    let final : IsFinal v ws = last.0 in
    let since : (i : ℕ) (x : HeapSeat) → slice_get s.items i ≡ Some x → Begins (seen_of x) final.past = λ i x e.
    ⊎_elim
    (λ (same : k.seen ≡ seen_of x). subst (λ (es : List Event). Begins es final.past) same last.1)
    (λ (told : Contains k.heard (seen_of x)). last.2 (seen_of x) told)
    (j.seen i x e) in
    ends sh s.items v ws c.words_of-words.result some (λ i x e. let q = c.requires.seats i x e in (q.0.1, q.1, q.2)) j.left.shape j.first j.sections j.logs j.full final since (subst (λ (x : Shape). AreWords x ws c.words_of-words.result) c.args.self.based c.words_of-words.ensures)
