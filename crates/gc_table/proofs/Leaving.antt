-- What a step of one seat leaves, and what each seat knows of it.
use Rattle.std.proofs.Common.{ℕ, ◌≡◌, ◌≢◌, ◌<◌, List, [], ◌∷◌, set, arith, refl, sym, ap, ◌∙◌, subst, ⊎_elim, Bool, true, false, Some, None, cond}
use Rattle.std.specs.Prelude.{slice_get, slice_index, IsFalse, ◌&&◌, ◌==◌}
use Rattle.std.proofs.lemmas.Bool.{cases_Bool, ne_eqb}
use Rattle.mark_core.specs.Layout.{words_of, address}
use Rattle.mark_core.specs.Parts.{parts}
use Rattle.mark_core.specs.Effects.{place, written, seat_after}
use Rattle.mark_core.specs.Steps.{Core, AllTrue, failing_part, others_after, after_of, after_event}
use Rattle.mark_core.specs.Laws.{NumbersFit}
use Rattle.mark_core.specs.Notes.{same_place, word_at, steady, keeps_bound, resets}
use Rattle.mark_core.proofs.Notes.NotesKept.{notes_kept, word-found, word-elsewhere}
use Rattle.mark_core.proofs.Notes.NotesBounds.{bounds_kept}
use Rattle.mark_core.proofs.Writing.Ranges.{word-here, IsPlace}
use Rattle.mark_core.proofs.Pool.PoolsKept.{shape-kept}
use Rattle.mark_core.proofs.Blocks.BlocksStopped.{in-place}
use Rattle.mark_core.specs.declared.kinds.Shape.{Shape}
use Rattle.mark_core.specs.declared.kinds.Step.{Step}
use Rattle.mark_core.specs.declared.kinds.Step.TheVariants.{Reserve, Split, Join}
use Rattle.mark_core.specs.declared.seat.SeatState.{SeatState}
use Rattle.gc_table.specs.declared.view.View.{View}
use Rattle.gc_table.specs.Notes.{look, noting}
use Rattle.gc_table.specs.Rule.{IsState, Noted, Floored, Agrees}
use Rattle.gc_table.specs.Taking.{IsOwn}
use Rattle.gc_table.proofs.Noticing.{place-same, place-apart, some-is, noted-after}
use Rattle.gc_table.proofs.Records.{found-here, found-else}
use Rattle.std.specs.Prelude.{Option, Contains}
use Rattle.std.proofs.Common.{true≢false}
use Rattle.std.proofs.lemmas.Option.{get_or_from_slice_get}
use Rattle.mark_core.specs.Start.{spent_seat}
use Rattle.gc_table.specs.declared.view.SectionState.{SectionState}
use Rattle.gc_table.specs.Sections.{section_after}
use Rattle.gc_table.specs.TableState.{TableState, no_section, section_at, with_section, state_after}
use Rattle.gc_table.proofs.State.StateSteps.{Goes, event, may-happen, sections-left}
use Rattle.gc_table.proofs.State.StateKept.{whole-kept}
use Rattle.std.proofs.Common.{◌%◌, ◌++◌, ◌⊎◌, eq-eqb}
use Rattle.mark_core.specs.Bits.{has_bit}
use Rattle.mark_core.specs.Cells.{or_else}
use Rattle.mark_core.specs.Held.{holds, has_length}
use Rattle.mark_core.specs.Places.{head_at}
use Rattle.mark_core.proofs.Writing.RegionWrites.{touches_heads}
use Rattle.mark_core.specs.declared.kinds.Step.TheVariants.{StoreLength, ReadLength}
use Rattle.mark_core.specs.Places.{the_phase}
use Rattle.mark_core.specs.Strong.{IsStrongSeat}
use Rattle.mark_core.specs.Rules.WorldRules.{is_stopped_phase}
use Rattle.mark_core.specs.declared.kinds.Step.TheVariants.{ReadPhase}
use Rattle.mark_core.proofs.Notes.NotesBeside.{sits, of-sits}
use Rattle.mark_core.proofs.Notes.NotesKept.{single-word}
use Rattle.gc_table.specs.Stopping.{moves_on, has_moved, Unmoved}
use Rattle.gc_table.proofs.Unmoved.{moved-last, none-knows, not-phase, knows-by, knower-steady}
use Rattle.gc_table.specs.Fetching.{taken_out, last_pool, is_in_range, Fetched}
use Rattle.gc_table.specs.Taking.{won}
use Rattle.gc_table.proofs.Fetching.{Took, Kept, take-stores, fetched-record, heads-of, last-snoc, not-head, one-hand, range-of, store-asks, take-asks, take-pool, taken-told}
use Rattle.gc_table.proofs.Asking.{asked-in, own-number}
use Rattle.gc_table.specs.Taking.{Asked}

pub spent-stays : (sh : Shape) (s : SeatState) (step : Step) (n : ℕ) → (seat_after sh s step n).spent ≡ s.spent
spent-stays sh s Reserve n = refl
spent-stays sh s step n = refl

pub own-fits : (step : Step) → IsOwn step → NumbersFit step
own-fits Split h = absurd h
own-fits (Join other) h = absurd h
own-fits step h = h

own-alone : (sh : Shape) (step : Step) (xs : List SeatState) → IsOwn step → others_after sh step xs ≡ xs
own-alone sh Split xs h = absurd h
own-alone sh (Join other) xs h = absurd h
own-alone sh step xs h = refl

section-stays : (sh : Shape) (s : SeatState) (step : Step) (n : ℕ) → (seat_after sh s step n).section ≡ s.section
section-stays sh s Reserve n = refl
section-stays sh s step n = refl

pub some-seat : (s t : SeatState) → Some s ≡ Some t → s ≡ t
some-seat s t e = cc

-- the seat's own section after a step, and another one
own-left : (f : SectionState → SectionState) (o : Option ℕ) (k : ℕ) (y : SectionState) (xs : List SectionState) → o ≡ Some k → slice_get xs k ≡ Some y → slice_get (with_section o f xs) k ≡ Some (f y)
own-left f o k y xs e h =
    ap (λ (p : Option ℕ). slice_get (with_section p f xs) k) e ∙ (found-here xs k y (f (section_at xs k)) h ∙ ap (λ (z : SectionState). Some (f z)) (get_or_from_slice_get xs k y no_section h))

other-left : (f : SectionState → SectionState) (o : Option ℕ) (k : ℕ) (xs : List SectionState) → (o ≡ Some k → ⊥) → slice_get (with_section o f xs) k ≡ slice_get xs k
other-left f None k xs n = refl
other-left f (Some j) k xs n = found-else xs j k (f (section_at xs j)) (λ e. n (ap Some (sym e)))

-- an unspent seat that takes a step whose condition holds, and which meets what is asked besides
pub record Takes (x : TableState) (i : ℕ) (v : View) (step : Step) : Type 0 where
  pub whole : IsState x
  pub agrees : Agrees x i v
  pub live : IsFalse v.state.spent
  pub ok : AllTrue (parts x.core.shape (words_of x.core.shape x.core.words) x.core.seats v.state step)
  pub own : IsOwn step
  pub asked : Asked step v

module _ (x : TableState) (i : ℕ) (v : View) (step : Step) (t : Takes x i v step) where
  abbrev c : Core
  c = x.core

  pub goes : Goes x i v.state step
  goes = record { whole = t.whole; got = t.agrees.seat; live = t.live; ok = t.ok; fits = own-fits step t.own; asks = asked-in x i v step t.whole t.agrees t.ok t.asked }

  pub allowed : failing_part c (event i step) ≡ None
  allowed = may-happen x i v.state step goes

  pub placed-at : IsPlace c.shape (place c.shape v.state step)
  placed-at = in-place c i v.state step (record { core = t.whole.core; got = t.agrees.seat; live = t.live; ok = t.ok })

  -- the word that the step finds
  abbrev pub finds : ℕ
  finds = slice_index c.words (address c.shape (place c.shape v.state step))

  pub found-there : finds ≡ word_at c.shape c.words (place c.shape v.state step)
  found-there = word-found c.shape c.words (place c.shape v.state step) placed-at

  -- the state that it leaves
  abbrev pub left_whole : TableState
  left_whole = state_after x (event i step)

  abbrev pub left : Core
  left = after_event c (event i step)

  pub left-words : left.words ≡ set c.words (address c.shape (place c.shape v.state step)) (written c.shape v.state step finds)
  left-words = ap (λ o. (after_of c i o step).words) t.agrees.seat

  pub left-seats : left.seats ≡ set c.seats i (seat_after c.shape v.state step finds)
  left-seats = ap (λ o. (after_of c i o step).seats) t.agrees.seat ∙ own-alone c.shape step _ t.own

  pub left-shape : left.shape ≡ c.shape
  left-shape = shape-kept c (event i step)

  pub left-state : IsState left_whole
  left-state = whole-kept x i v.state step goes

  -- a word after the step, by its place
  word-left : (at : ℕ × ℕ) → word_at left.shape left.words at ≡ word_at c.shape (set c.words (address c.shape (place c.shape v.state step)) (written c.shape v.state step finds)) at
  word-left at = ap (λ (sh : Shape). word_at sh left.words at) left-shape ∙ ap (λ ws. word_at c.shape ws at) left-words

  here-left : (at : ℕ × ℕ) → same_place (place c.shape v.state step) at ≡ true → word_at left.shape left.words at ≡ written c.shape v.state step finds
  here-left at e =
      word-left at
      ∙ ap (word_at c.shape (set c.words (address c.shape (place c.shape v.state step)) (written c.shape v.state step finds))) (sym (place-same (place c.shape v.state step) at e))
      ∙ word-here c.shape c.words (place c.shape v.state step) (written c.shape v.state step finds) t.whole.core.formed.words placed-at

  else-left : (at : ℕ × ℕ) → same_place (place c.shape v.state step) at ≡ false → word_at left.shape left.words at ≡ word_at c.shape c.words at
  else-left at e = word-left at ∙ word-elsewhere c.shape c.words at (place c.shape v.state step) (written c.shape v.state step finds) placed-at (place-apart (place c.shape v.state step) at e)

  -- a head that the step doesn't store
  head-stays : (p : ℕ) → (step ≡ StoreLength p → ⊥) → word_at left.shape left.words (head_at p) ≡ word_at c.shape c.words (head_at p)
  head-stays p far =
      ⊎_elim
      (λ (e : touches_heads step ≡ false). else-left (head_at p) (not-head c.shape v.state step p e))
      (λ (x : ((r : ℕ) × (step ≡ StoreLength r)) ⊎ ((r : ℕ) × (step ≡ ReadLength r))).
      ⊎_elim
      (λ (y : (r : ℕ) × (step ≡ StoreLength r)). else-left (head_at p) (ap (λ z. same_place (place c.shape v.state z) (head_at p)) y.1 ∙ ne_eqb y.0 p (λ e. far (y.1 ∙ ap StoreLength e))))
      (λ (y : (r : ℕ) × (step ≡ ReadLength r)).
      ⊎_elim
      (λ (e : same_place (place c.shape v.state step) (head_at p) ≡ true). here-left (head_at p) e ∙ (ap (λ z. written c.shape v.state z finds) y.1 ∙ (found-there ∙ ap (word_at c.shape c.words) (place-same (place c.shape v.state step) (head_at p) e))))
      (λ (e : same_place (place c.shape v.state step) (head_at p) ≡ false). else-left (head_at p) e)
      (cases_Bool (same_place (place c.shape v.state step) (head_at p))))
      x)
      (heads-of step)

  head-taken : (p : ℕ) (k : Took v.state step finds p) → p < c.shape.packets → is_in_range c.shape k.pool (word_at c.shape c.words (head_at p)) ≡ true
  head-taken p k there =
      range-of c t.whole.core k.pool p (take-pool c v.state step t.ok k.pool p k.is) there
      (ap (λ n. has_bit n (p % 64)) (sym (found-there ∙ ap (λ z. word_at c.shape c.words (place c.shape v.state z)) k.is)) ∙ k.bit)

  -- a section whose seat was joined into another
  still-joined : (k : ℕ) (y : SectionState) → (slice_get x.sections k ≡ Some y) × (slice_get c.seats k ≡ Some (spent_seat c.shape k)) → (slice_get left_whole.sections k ≡ Some y) × (slice_get left.seats k ≡ Some (spent_seat left.shape k))
  still-joined k y h =
      let apart : k ≢ i = λ e. true≢false (ap (λ (s : SeatState). s.spent) (some-seat (spent_seat c.shape k) v.state (sym h.1 ∙ (ap (slice_get c.seats) e ∙ t.agrees.seat))) ∙ t.live) in (
        ap (λ xs. slice_get xs k) (sections-left x i v.state step goes) ∙ (other-left (section_after c.shape x.plan v.state step) v.state.section k x.sections (λ e. apart (own-number c i k v.state t.whole.core t.agrees.seat e)) ∙ h.0),
        ap (λ xs. slice_get xs k) left-seats ∙ (found-else c.seats i k (seat_after c.shape v.state step finds) apart ∙ (h.1 ∙ ap (λ (sh : Shape). Some (spent_seat sh k)) (sym left-shape))),
      )

  -- what the seat that took the step knows
  module _ (w : View) (shaped : w.shape ≡ c.shape) (state : w.state ≡ seat_after c.shape v.state step finds) where
    own-noted : w.known ≡ noting (steady w.state) (place c.shape v.state step) (written c.shape v.state step finds) v.known → Noted left w
    own-noted known at n h =
        let q = noted-after (steady w.state) (place c.shape v.state step) at (written c.shape v.state step finds) n v.known (sym (ap (look at) known) ∙ h) in (
          q.0,
          ⊎_elim
              (λ (e : same_place (place c.shape v.state step) at ≡ true). here-left at e ∙ some-is _ _ (sym (ap (λ (b : Bool). cond b (Some (written c.shape v.state step finds)) (look at v.known)) e) ∙ q.1))
              (λ (e : same_place (place c.shape v.state step) at ≡ false). else-left at e ∙ (t.agrees.noted at n (sym (ap (λ (b : Bool). cond b (Some (written c.shape v.state step finds)) (look at v.known)) e) ∙ q.1)).1)
              (cases_Bool (same_place (place c.shape v.state step) at)),
        )

    own-floored : w.floors ≡ noting (λ at m. keeps_bound w.state at) (place c.shape v.state step) (written c.shape v.state step finds) v.floors → Floored left w
    own-floored floors at n h =
        let q = noted-after (λ p m. keeps_bound w.state p) (place c.shape v.state step) at (written c.shape v.state step finds) n v.floors (sym (ap (look at) floors) ∙ h) in (
          q.0,
          ⊎_elim
              (λ (e : same_place (place c.shape v.state step) at ≡ true). omega (arith, here-left at e, some-is _ _ (sym (ap (λ (b : Bool). cond b (Some (written c.shape v.state step finds)) (look at v.floors)) e) ∙ q.1)))
              (λ (e : same_place (place c.shape v.state step) at ≡ false). omega (arith, else-left at e, (t.agrees.floored at n (sym (ap (λ (b : Bool). cond b (Some (written c.shape v.state step finds)) (look at v.floors)) e) ∙ q.1)).1))
              (cases_Bool (same_place (place c.shape v.state step) at)),
        )

    own-fetched : (told : ℕ) → w.log ≡ v.log ++ record { step = step; found = told; won = won step told } ∷ [] → seat_after c.shape v.state step told ≡ seat_after c.shape v.state step finds → Fetched left w
    own-fetched told log tells p q there h u last =
        let in_range : p < c.shape.packets = subst (λ (sh : Shape). p < sh.packets) shaped there in
        let pooled : or_else (taken_out p step finds) (last_pool p v.log) ≡ Some q =
        ap (λ o. or_else o (last_pool p v.log)) (sym (taken-told c.shape v.state step told finds p (take-asks c v.state step t.ok) tells)) ∙ (sym (last-snoc p v.log (record { step = step; found = told; won = won step told })) ∙ (ap (last_pool p) (sym log) ∙ last)) in
        let ends = λ (far : step ≡ StoreLength p → ⊥) (r : is_in_range c.shape q (word_at c.shape c.words (head_at p)) ≡ true). ap (λ (sh : Shape). is_in_range sh q (word_at left.shape left.words (head_at p))) shaped ∙ (ap (is_in_range c.shape q) (head-stays p far) ∙ r) in
        ⊎_elim
        (λ (k : Took v.state step finds p).
        let out : taken_out p step finds ≡ Some k.pool = ap (λ z. taken_out p z finds) k.is ∙ (ap (λ (b : Bool). cond (b && has_bit finds (p % 64)) (Some k.pool) None) (eq-eqb p p refl) ∙ ap (λ (b : Bool). cond b (Some k.pool) None) k.bit) in
        let same : k.pool ≡ q = some-is k.pool q (ap (λ o. or_else o (last_pool p v.log)) (sym out) ∙ pooled) in
        ends (λ e. absurd (take-stores k.pool p (sym k.is ∙ e))) (subst (λ x. is_in_range c.shape x (word_at c.shape c.words (head_at p)) ≡ true) same (head-taken p k in_range)))
        (λ (k : Kept v.state step finds p).
        ends k.unstored
        (ap (λ (sh : Shape). is_in_range sh q (word_at c.shape c.words (head_at p))) (sym t.agrees.shape) ∙ t.agrees.fetched p q (subst (λ (sh : Shape). p < sh.packets) (sym t.agrees.shape) in_range) k.held k.unread (ap (λ o. or_else o (last_pool p v.log)) (sym k.none) ∙ pooled)))
        (fetched-record c.shape v.state step finds p (ap (λ (s : SeatState). holds s.held p) (sym state) ∙ h) (ap (λ (s : SeatState). has_length s.held p) (sym state) ∙ u))

    -- the seat hasn't moved the phase, and knows that the world is stopped
    own-stopped : (told : ℕ) → w.log ≡ v.log ++ record { step = step; found = told; won = won step told } ∷ [] → Unmoved left w
    own-stopped told log knows still =
        let on : moves_on (has_moved v.log) step ≡ false = sym (moved-last v.log (record { step = step; found = told; won = won step told })) ∙ (ap has_moved (sym log) ∙ still) in
        let strong = of-sits (IsStrongSeat c.shape) c i v.state (sits c i v.state t.agrees.seat) t.whole.core.strong.seats_strong in
        let phase : word_at left.shape left.words the_phase ≡ word_at c.shape c.words the_phase =
        ⊎_elim
        (λ (e : same_place (place c.shape v.state step) the_phase ≡ false). else-left the_phase e)
        (λ (e : step ≡ ReadPhase). here-left the_phase (ap (λ z. same_place (place c.shape v.state z) the_phase) e) ∙ (ap (λ z. written c.shape v.state z finds) e ∙ (found-there ∙ ap (λ z. word_at c.shape c.words (place c.shape v.state z)) e)))
        (not-phase c.shape v.state step (has_moved v.log) on) in
        ap is_stopped_phase phase
        ∙ ⊎_elim
        (λ (h : (v.state.knows ≡ true) × (has_moved v.log ≡ false)). t.agrees.stopped h.0 h.1)
        (λ (h : (v.state.raised ≡ true) × (v.state.knows ≡ false)). ap is_stopped_phase (single-word c.shape c.words 1 (omega arith)) ∙ none-knows c i v.state t.whole.core t.agrees.seat h.0 h.1)
        (knows-by c v.state step finds (has_moved v.log) strong.knows_is_raised t.ok (ap (λ (s : SeatState). s.knows) (sym state) ∙ knows) on)

    pub own-agrees : w.known ≡ noting (steady w.state) (place c.shape v.state step) (written c.shape v.state step finds) v.known
        → w.floors ≡ noting (λ at m. keeps_bound w.state at) (place c.shape v.state step) (written c.shape v.state step finds) v.floors → (told : ℕ) → w.log ≡ v.log ++ record { step = step; found = told; won = won step told } ∷ [] → seat_after c.shape v.state step told ≡ seat_after c.shape v.state step finds
        → w.plan ≡ v.plan → w.own ≡ section_after c.shape x.plan v.state step v.own → w.joined ≡ v.joined → Agrees left_whole i w
    own-agrees known floors told log tells plan own joined =
        record {
          shape = shaped ∙ sym left-shape;
          seat = ap (λ xs. slice_get xs i) left-seats ∙ (found-here c.seats i v.state (seat_after c.shape v.state step finds) t.agrees.seat ∙ ap Some (sym state));
          noted = own-noted known;
          floored = own-floored floors;
          fetched = own-fetched told log tells;
          stopped = own-stopped told log;
          plan = plan ∙ t.agrees.plan;
          own = λ k e.
              let mine : v.state.section ≡ Some k = sym (section-stays c.shape v.state step finds) ∙ ap (λ (s : SeatState). s.section) (sym state) ∙ e in
              ap (λ xs. slice_get xs k) (sections-left x i v.state step goes) ∙ (own-left (section_after c.shape x.plan v.state step) v.state.section k v.own x.sections mine (t.agrees.own k mine) ∙ ap Some (sym own));
          joined = λ k y h. still-joined k y (t.agrees.joined k y (subst (λ l. Contains l (k, y)) joined h));
        }

  -- what another seat knows
  pub other-agrees : (j : ℕ) (u : View) → j ≢ i → Agrees x j u → Agrees left_whole j u
  other-agrees j u n a =
      record {
        shape = a.shape ∙ sym left-shape;
        seat = ap (λ xs. slice_get xs j) left-seats ∙ (found-else c.seats i j (seat_after c.shape v.state step finds) n ∙ a.seat);
        noted = λ at m h.
            let q = a.noted at m h in (q.0, ap (λ (sh : Shape). word_at sh left.words at) left-shape ∙ notes_kept c (event i step) t.whole.core allowed j u.state n a.seat at m q.0 q.1);
        floored = λ at m h.
            let q = a.floored at m h in
            let not_own : IsFalse ((i == j) && resets step at) = ap (λ (b : Bool). b && resets step at) (ne_eqb i j (λ e. n (sym e))) in
            let low = bounds_kept c (event i step) t.whole.core allowed j u.state a.seat at q.0 not_own in
            (q.0, omega (arith, q.1, low, ap (λ (sh : Shape). word_at sh left.words at) left-shape));
        fetched = λ p q there h m last.
            let far : step ≡ StoreLength p → ⊥ = λ e. n (sym (one-hand c t.whole.core i j p v.state u.state t.agrees.seat a.seat (subst (λ (sh : Shape). p < sh.packets) a.shape there) (store-asks c v.state step t.ok p e) h)) in
            ap (is_in_range u.shape q) (head-stays p far) ∙ a.fetched p q there h m last;
        stopped = λ h m.
            ap is_stopped_phase (ap (λ (sh : Shape). word_at sh left.words the_phase) left-shape ∙ notes_kept c (event i step) t.whole.core allowed j u.state n a.seat the_phase (word_at c.shape c.words the_phase) (knower-steady u.state (word_at c.shape c.words the_phase) h) refl) ∙ a.stopped h m;
        plan = a.plan;
        own = λ k e.
            let there : k ≡ j = own-number c j k u.state t.whole.core a.seat e in
            ap (λ xs. slice_get xs k) (sections-left x i v.state step goes)
            ∙ (other-left (section_after c.shape x.plan v.state step) v.state.section k x.sections (λ h. n (sym there ∙ own-number c i k v.state t.whole.core t.agrees.seat h)) ∙ a.own k e);
        joined = λ k y h. still-joined k y (a.joined k y h);
      }
