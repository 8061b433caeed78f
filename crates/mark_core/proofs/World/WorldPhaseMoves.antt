-- The moves between the phases keep the rule of the phase.
use Rattle.std.proofs.Common.{ℕ, ◌/◌, ◌%◌, ◌≡◌, ◌+◌, ◌<◌, List, set, get_or, length, refl, sym, ap, ◌∙◌, subst, Bool, true, false, eqb, cond}
use Rattle.std.specs.Prelude.{IsTrue, IsFalse}
use Rattle.std.specs.List.{All}
use Rattle.std.proofs.lemmas.Bool.{and_parts, true≢false, false≢true, eqb-true}
use Rattle.std.proofs.lemmas.List.{length-map, get_or-map}
use Rattle.std.proofs.lemmas.List.Elements.{All-set}
use Rattle.mark_core.specs.Layout.{Words, words_of}
use Rattle.mark_core.specs.Bits.{has_bit}
use Rattle.mark_core.specs.Held.{holds_any}
use Rattle.mark_core.specs.Views.{Standing, standings, standing_of, some_knows}
use Rattle.mark_core.specs.Rules.WorldRules.{is_tracing, is_resting, NoneActive, NoneAdmitted}
use Rattle.mark_core.specs.Steps.WorldSteps.{phase_after, none_marked}
use Rattle.mark_core.specs.Parts.{parts}
use Rattle.mark_core.specs.Steps.{Core, AllTrue}
use Rattle.mark_core.specs.WellFormed.{IsWellFormed}
use Rattle.mark_core.specs.Laws.{ArePacketsSound}
use Rattle.mark_core.proofs.Count.CountMoves.{follows}
use Rattle.mark_core.proofs.Consequences.QuietReading.{quiet-hands, quiet-heads}
use Rattle.mark_core.proofs.World.WorldReading.{StandsRight, passes-any, any-passes, some-passes, passes-counted, at-standing}
use Rattle.mark_core.proofs.World.WorldPhases.{Sees, InPhase, IsWhite, IsStill}
use Rattle.mark_core.proofs.World.WorldPhaseKept.{knowers-set}
use Rattle.mark_core.proofs.Writing.CellBits.{no-bit}
use Rattle.mark_core.proofs.Basics.{all-zero}
use Rattle.mark_core.specs.declared.kinds.Phase.{Phase}
use Rattle.mark_core.specs.declared.kinds.Phase.TheVariants.{Idle, Marking, Drain, Sweep, Clear, Full}
use Rattle.mark_core.specs.declared.kinds.Step.TheVariants.{StorePhase}
use Rattle.mark_core.specs.declared.seat.SeatState.{SeatState}

-- what is needed of the state in which seat i moves the phase
pub record Moving (c : Core) (i : ℕ) (s : SeatState) : Type 0 where
  pub seat : i < length c.seats
  pub is : get_or c.seats i s ≡ s
  pub formed : IsWellFormed c
  pub packets : ArePacketsSound c
  pub phase : InPhase c.shape (words_of c.shape c.words).phase (words_of c.shape c.words).marks (words_of c.shape c.words).heads c.seats
  pub stands : StandsRight (words_of c.shape c.words).world (words_of c.shape c.words).help (standings c.seats)

-- a fact of each standing, at that of this seat
my_standing : (c : Core) (i : ℕ) (s : SeatState) (P : Standing → Type 0) → Moving c i s → All P (standings c.seats) → P (standing_of s)
my_standing c i s P k a = subst P (get_or-map standing_of c.seats i s (standing_of s) k.seat ∙ ap standing_of k.is) (a i (standing_of s) (rw length-map k.seat))

their_standing : (c : Core) (j : ℕ) (d : SeatState) (P : Standing → Type 0) → j < length c.seats → All P (standings c.seats) → P (standing_of (get_or c.seats j d))
their_standing c j d P h a = at-standing P c.seats j d h a

-- while a seat knows and is alone, nobody is active and nobody is admitted: so all sights are right in any phase
all_calm : (c : Core) (i : ℕ) (s : SeatState) (phase : ℕ) → Moving c i s → s.knows ≡ true → s.alone ≡ true → All (Sees phase) c.seats
all_calm c i s phase k knows alone j d h =
    let none : NoneActive (standings c.seats) = my_standing c i s (λ (x : Standing). IsTrue x.knows → NoneActive (standings c.seats)) k k.stands.knows_stopped knows in
    let unhelped : NoneAdmitted (standings c.seats) = my_standing c i s (λ (x : Standing). IsTrue x.alone → NoneAdmitted (standings c.seats)) k k.stands.alone_unhelped alone in
    let active : IsFalse (get_or c.seats j d).active = their_standing c j d (λ (x : Standing). IsFalse x.active) h none in
    let admitted : IsFalse (get_or c.seats j d).admitted = their_standing c j d (λ (x : Standing). IsFalse x.admitted) h unhelped in
    record { marking = λ a m. absurd (true≢false (sym a ∙ active)); helper = λ a. absurd (true≢false (sym a ∙ admitted)) }

-- a seat that knows is one that does
knower : (c : Core) (i : ℕ) (s : SeatState) → Moving c i s → s.knows ≡ true → some_knows (standings c.seats) ≡ true
knower c i s k e =
    let ss : List Standing = standings c.seats in
    let at : get_or ss i (standing_of s) ≡ standing_of s = get_or-map standing_of c.seats i s (standing_of s) k.seat ∙ ap standing_of k.is in
    passes-any (λ (x : Standing). x.knows) ss (passes-counted (λ (x : Standing). x.knows) ss i (standing_of s) (rw length-map k.seat) (ap (λ (x : Standing). x.knows) at ∙ e))

-- in the quiet no seat holds a packet and no head names an entry
at_rest : (c : Core) (i : ℕ) (s : SeatState) → Moving c i s → eqb (words_of c.shape c.words).empty (64 + c.shape.packets) ≡ true → IsStill c.shape (words_of c.shape c.words).heads c.seats
at_rest c i s k e = let n = eqb-true (words_of c.shape c.words).empty (64 + c.shape.packets) e in (quiet-hands c k.formed k.packets n, quiet-heads c k.packets n)

-- if every word of marks is zero, no cell is marked
pub white-words : (c : Core) → none_marked (words_of c.shape c.words).marks ≡ true → IsWhite c.shape (words_of c.shape c.words).marks
white-words c e x h = let ws : List ℕ = (words_of c.shape c.words).marks in ap (λ w. has_bit w (x % 64)) (all-zero ws e (x / 64)) ∙ no-bit (x % 64)

-- if a mutator runs, no helper is admitted
none_helps : (c : Core) (i : ℕ) (s : SeatState) → Moving c i s → s.active ≡ true → (j : ℕ) (d : SeatState) (P : Type 0) → j < length c.seats → IsTrue (get_or c.seats j d).admitted → P
none_helps c i s k run j d P h a =
    let ss : List Standing = standings c.seats in
    let known : some_knows ss ≡ true = their_standing c j d (λ (x : Standing). IsTrue x.admitted → IsTrue (some_knows ss)) h k.stands.admitted_stopped a in
    let one = some-passes (λ (x : Standing). x.knows) ss (any-passes (λ (x : Standing). x.knows) ss known) in
    let none : NoneActive ss = k.stands.knows_stopped one.0 (standing_of s) one.1 (one.2 (standing_of s)) in
    let still : IsFalse s.active = my_standing c i s (λ (x : Standing). IsFalse x.active) k none in
    absurd (true≢false (sym run ∙ still))

-- a mutator begins marking if the phase is Idle, and else leaves it
begun : (c : Core) (i : ℕ) (s : SeatState) (b : Bool) → Moving c i s → s.active ≡ true
    → InPhase c.shape (cond b 1 (words_of c.shape c.words).phase) (words_of c.shape c.words).marks (words_of c.shape c.words).heads c.seats
begun c i s true k run =
    record {
      sees = λ j d h. record { marking = λ a m. refl; helper = λ a. none_helps c i s k run j d _ h a };
      stopped = λ e. absurd (false≢true e);
      white = λ e. absurd (false≢true e);
      still = λ e. absurd (true≢false e);
    }
begun c i s false k run = k.phase

moved_to : (c : Core) (i : ℕ) (s : SeatState) (to : Phase) → Moving c i s → AllTrue (parts c.shape (words_of c.shape c.words) c.seats s (StorePhase to))
    → InPhase c.shape (phase_after (words_of c.shape c.words).phase to) (words_of c.shape c.words).marks (words_of c.shape c.words).heads c.seats
moved_to c i s Idle k ok =
    let w : Words = words_of c.shape c.words in
    let asks = and_parts s.knows _ ok.1.0 in
    let from : w.phase ≡ 3 = eqb-true w.phase 3 ok.0 in
    record {
      sees = all_calm c i s 0 k asks.0 (follows s.knows s.alone ok.1.1.0 asks.0);
      stopped = λ e. absurd (false≢true e);
      white = λ e. white-words c (and_parts _ _ asks.1).1;
      still = λ e. k.phase.still (ap is_tracing from);
    }
moved_to c i s Marking k ok = begun c i s (eqb (words_of c.shape c.words).phase 0) k ok.1.0
moved_to c i s Drain k ok =
    let knows = (and_parts s.knows _ ok.1.0).0 in
    record {
      sees = all_calm c i s 2 k knows (follows s.knows s.alone ok.1.1.0 knows);
      stopped = λ e. knower c i s k knows;
      white = λ e. absurd (false≢true e);
      still = λ e. absurd (true≢false e);
    }
moved_to c i s Sweep k ok =
    let w : Words = words_of c.shape c.words in
    let asks = and_parts s.knows _ (and_parts _ _ (and_parts _ _ (and_parts _ _ ok.1.0).0).0).0 in
    record {
      sees = all_calm c i s 3 k asks.0 (follows s.knows s.alone ok.1.1.0 asks.0);
      stopped = λ e. knower c i s k asks.0;
      white = λ e. absurd (false≢true e);
      still = λ e. at_rest c i s k (and_parts _ _ asks.1).0;
    }
moved_to c i s Clear k ok =
    let asks = and_parts s.knows _ (and_parts _ _ ok.1.0).0 in
    record {
      sees = all_calm c i s 4 k asks.0 (follows s.knows s.alone ok.1.1.0 asks.0);
      stopped = λ e. knower c i s k asks.0;
      white = λ e. absurd (false≢true e);
      still = λ e. at_rest c i s k (and_parts _ _ asks.1).0;
    }
moved_to c i s Full k ok =
    let w : Words = words_of c.shape c.words in
    let knows = (and_parts s.knows _ (and_parts _ _ ok.1.0).0).0 in
    let from : w.phase ≡ 0 = eqb-true w.phase 0 ok.0 in
    record {
      sees = all_calm c i s 5 k knows (follows s.knows s.alone ok.1.1.0 knows);
      stopped = λ e. absurd (false≢true e);
      white = λ e. k.phase.white (ap is_resting from);
      still = λ e. k.phase.still (ap is_tracing from);
    }

-- 30: the rule of the phase is kept by a move
pub phase-moves : (c : Core) (i : ℕ) (s : SeatState) (to : Phase) (b : Bool) → Moving c i s → AllTrue (parts c.shape (words_of c.shape c.words) c.seats s (StorePhase to))
    → InPhase c.shape (phase_after (words_of c.shape c.words).phase to) (words_of c.shape c.words).marks (words_of c.shape c.words).heads (set c.seats i (record s { exact = b }))
phase-moves c i s to b k ok =
    let p : ℕ = phase_after (words_of c.shape c.words).phase to in
    let m = moved_to c i s to k ok in
    let t : SeatState = record s { exact = b } in
    let mine : Sees p s = subst (Sees p) k.is (m.sees i s k.seat) in
    let hand = λ (e : IsFalse (is_tracing p)). subst (λ (x : SeatState). IsFalse (holds_any x.held)) k.is ((m.still e).0 i s k.seat) in
    record {
      sees = All-set (Sees p) c.seats i t (record { marking = mine.marking; helper = mine.helper }) m.sees;
      stopped = λ e. knowers-set c.seats i s t k.seat k.is (λ x. x) (m.stopped e);
      white = m.white;
      still = λ e. (All-set (λ (x : SeatState). IsFalse (holds_any x.held)) c.seats i t (hand e) (m.still e).0, (m.still e).1);
    }
