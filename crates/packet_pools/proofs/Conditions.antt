-- When the steps of this crate may be taken, by what the seat knows.
use Rattle.std.proofs.Common.{ℕ, ◌≡◌, ◌<◌, arith, refl, sym, ap, ◌∙◌, subst, Bool, true, false, not, ◌&&◌, ◌||◌, Some, None, Option, eqb, eqb-true, eq-eqb, ⊎_elim}
use Rattle.std.specs.Prelude.{IfSome, nat_lt, ◌==◌}
use Rattle.std.proofs.lemmas.Bool.{true≢false, and_parts, and_from, or_cases, lt-ltb, not_from_false}
use Rattle.mark_core.specs.Layout.{words_of, pool_words}
use Rattle.gc_table.specs.TableState.{TableState}
use Rattle.mark_core.specs.Numbers.{empty_pool_number, pools_in_all}
use Rattle.mark_core.specs.Places.{the_phase}
use Rattle.mark_core.specs.Held.{holds, has_length, length_in_hand, has_entry, is_stored, has_free_slot, holds_another}
use Rattle.mark_core.specs.Seats.{may_trace, saw, is_the, is_phase, work_in_hand, is_unpublished}
use Rattle.mark_core.specs.Steps.PacketSteps.{may_push}
use Rattle.mark_core.specs.Notes.{steady}
use Rattle.mark_core.specs.WellFormed.{IsSeat}
use Rattle.mark_core.proofs.Notes.NotesKept.{single-word}
use Rattle.mark_core.specs.declared.kinds.Shape.{Shape}
use Rattle.mark_core.specs.declared.kinds.Phase.TheVariants.{Marking, Drain}
use Rattle.mark_core.specs.declared.kinds.Step.TheVariants.{Reserve, Take, Give, Credit, Push, Pop, Look, ReadCount, StoreLength, ReadLength}
use Rattle.mark_core.specs.declared.seat.SeatState.{SeatState}
use Rattle.gc_table.specs.declared.view.View.{View}
use Rattle.gc_table.specs.Notes.{look}
use Rattle.gc_table.specs.Rule.{Agrees}
use Rattle.gc_table.specs.Taking.{May}
use Rattle.packet_pools.specs.OnlyTraced.{OnlyTracedBy}
use Rattle.packet_pools.specs.Tracing.{notes_drain, traces, Traces}

pub some-is : (o : Option ℕ) (n : ℕ) → is_the o n ≡ true → o ≡ Some n
some-is None n e = absurd (true≢false (sym e))
some-is (Some m) n e = ap Some (eqb-true m n e)

pub or-mono : (a b c d : Bool) → (b ≡ true → c ≡ true) → (a || b || d) ≡ true → (a || c || d) ≡ true
or-mono true b c d h e = refl
or-mono false true c d h e = rw (h refl) refl
or-mono false false true d h e = refl
or-mono false false false d h e = e

drains : (c : TableState) (i : ℕ) (v : View) → Agrees c i v → (v.state.knows && notes_drain v) ≡ true → (v.state.knows && is_phase (words_of c.core.shape c.core.words).phase Drain) ≡ true
drains c i v a e =
    let both = and_parts v.state.knows (notes_drain v) e in
    let word = (a.noted the_phase 2 (some-is (look the_phase v.known) 2 both.1)).1 in
    and_from v.state.knows (is_phase (words_of c.core.shape c.core.words).phase Drain) both.0 (eq-eqb (words_of c.core.shape c.core.words).phase 2 (sym (single-word c.core.shape c.core.words 1 (omega arith)) ∙ word))

-- the seat may trace in each state that agrees with its view
pub may-trace : (c : TableState) (i : ℕ) (v : View) → Agrees c i v → traces v ≡ true → may_trace (words_of c.core.shape c.core.words).phase v.state ≡ true
may-trace c i v a e = or-mono _ _ _ _ (drains c i v a) e

drain-steady : (s : SeatState) → s.knows ≡ true → steady s the_phase 2 ≡ true
drain-steady s k = rw k (by_alone s.alone)
  where
    by_alone : (b : Bool) → (b || true) ≡ true
    by_alone true = refl
    by_alone false = refl

drain-later : {b : Bool} (v w : View) → OnlyTracedBy b v w → (v.state.knows && notes_drain v) ≡ true → (w.state.knows && notes_drain w) ≡ true
drain-later v w k e =
    let both = and_parts v.state.knows (notes_drain v) e in
    let noted = k.notes the_phase 2 refl (drain-steady v.state both.0) (some-is (look the_phase v.known) 2 both.1) in
    and_from w.state.knows (notes_drain w) (ap (λ (s : SeatState). s.knows) k.rest ∙ both.0) (ap (λ o. is_the o 2) noted)

-- a seat that may trace still may after a call
pub traces-later : {b : Bool} (v w : View) → OnlyTracedBy b v w → traces v ≡ true → traces w ≡ true
traces-later v w k e =
    ap (λ (s : SeatState). (s.active && saw s.phase_seen Marking) || (w.state.knows && notes_drain w) || (s.admitted && saw s.phase_seen Drain)) k.rest
    ∙ or-mono _ _ _ _ (drain-later v w k) e

module _ (v : View) where
  pub may-reserve : Traces v → May Reserve v
  may-reserve t c i w a = (may-trace c i v a t.may, (rw (t.unreserved, t.uncredited) refl, tt))

  pub may-take : (q p : ℕ) → traces v ≡ true → q < pools_in_all → p < v.shape.packets → holds v.state.held p ≡ false → v.state.reserved ≡ (q == empty_pool_number) → has_free_slot v.state.held ≡ true → May (Take q p) v
  may-take q p t below there unheld reserved free c i w a = (
    and_from _ _ (and_from _ _ (lt-ltb q pools_in_all below) (lt-ltb p c.core.shape.packets (subst (λ (sh : Shape). p < sh.packets) a.shape there))) (may-trace c i v a t),
    (rw unheld refl, (rw reserved (either (q == empty_pool_number)), (free, tt))),
  )
    where
      either : (b : Bool) → (not b || b) ≡ true
      either true = refl
      either false = refl

  pub may-look : (q g : ℕ) → q < pools_in_all → g < pool_words v.shape → May (Look q g) v
  may-look q g below there c i w a = (and_from _ _ (lt-ltb q pools_in_all below) (lt-ltb g (pool_words c.core.shape) (subst (λ (sh : Shape). g < pool_words sh) a.shape there)), tt)

  pub may-read_count : May ReadCount v
  may-read_count c i w a = tt

  within : (c : TableState) (i p : ℕ) → Agrees c i v → p < v.shape.packets → holds v.state.held p ≡ true → (nat_lt p c.core.shape.packets && holds v.state.held p) ≡ true
  within c i p a there h = and_from _ _ (lt-ltb p c.core.shape.packets (subst (λ (sh : Shape). p < sh.packets) a.shape there)) h

  pub may-read_length : (p : ℕ) → p < v.shape.packets → holds v.state.held p ≡ true → has_length v.state.held p ≡ false → May (ReadLength p) v
  may-read_length p there h n c i w a = (within c i p a there h, (not_from_false _ n, tt))

  pub may-store_length : (p : ℕ) → p < v.shape.packets → holds v.state.held p ≡ true → has_length v.state.held p ≡ true → May (StoreLength p) v
  may-store_length p there h n c i w a = (within c i p a there h, (n, tt))

  pub may-give : (p : ℕ) (deferred : Bool) → p < v.shape.packets → holds v.state.held p ≡ true → has_length v.state.held p ≡ true → (deferred ≡ true → has_entry v.state.held p ≡ true) → (work_in_hand v.shape.fields v.state ≡ true → holds_another v.state.held p ≡ true)
      → v.state.reserved ≡ false → v.state.credit ≡ false → is_stored v.state.held p ≡ true → May (Give p deferred) v
  may-give p deferred there h n entry work reserved credit stored c i w a = (
    within c i p a there h,
    (
      and_from _ _ n (unless deferred (has_entry v.state.held p) entry),
      (unless (work_in_hand c.core.shape.fields v.state) (holds_another v.state.held p) (λ e. work (ap (λ (sh : Shape). work_in_hand sh.fields v.state) a.shape ∙ e)), (rw (reserved, credit) refl, (stored, tt))),
    ),
  )
    where
      unless : (a b : Bool) → (a ≡ true → b ≡ true) → (not a || b) ≡ true
      unless true b h = h refl
      unless false b h = refl

  pub may-credit : (v.state.credit || v.state.reserved) ≡ true → May Credit v
  may-credit e c i w a = (e, tt)

  pub may-pop : (p : ℕ) → traces v ≡ true → p < v.shape.packets → holds v.state.held p ≡ true → has_entry v.state.held p ≡ true → work_in_hand v.shape.fields v.state ≡ false → May (Pop p) v
  may-pop p t there h entry work c i w a = (within c i p a there h, (entry, (not_from_false _ (sym (ap (λ (sh : Shape). work_in_hand sh.fields v.state) a.shape) ∙ work), (may-trace c i v a t, tt))))

  pub may-push-in : (p x : ℕ) → p < v.shape.packets → holds v.state.held p ≡ true → has_length v.state.held p ≡ true → length_in_hand v.state.held p < v.shape.entries → may_push v.state x ≡ true → May (Push p x) v
  may-push-in p x there h n room may c i w a = (
    and_from _ _ (and_from _ _ (lt-ltb p c.core.shape.packets (subst (λ (sh : Shape). p < sh.packets) a.shape there)) (lt-ltb x c.core.shape.cells (cell_below c.core.shape i v.state x (w.core.formed.seats i v.state a.seat) may))) h,
    (and_from _ _ n (lt-ltb _ _ (subst (λ (sh : Shape). length_in_hand v.state.held p < sh.entries) a.shape room)), (may, tt)),
  )
    where
      the-cell : (sh : Shape) (o : Option ℕ) (x : ℕ) → IfSome o (λ c. c < sh.cells) → is_the o x ≡ true → x < sh.cells
      the-cell sh None x h e = absurd (true≢false (sym e))
      the-cell sh (Some c) x h e = subst (λ n. n < sh.cells) (eqb-true c x e) h

      popped-cell : (sh : Shape) (o : Option (ℕ × Bool)) (x : ℕ) → IfSome o (λ c. c.0 < sh.cells) → is_unpublished o x ≡ true → x < sh.cells
      popped-cell sh None x h e = absurd (true≢false (sym e))
      popped-cell sh (Some c) x h e = subst (λ n. n < sh.cells) (eqb-true c.0 x (and_parts (eqb c.0 x) c.1 e).0) h

      cell_below : (sh : Shape) (i : ℕ) (s : SeatState) (x : ℕ) → IsSeat sh i s → may_push s x ≡ true → x < sh.cells
      cell_below sh i s x f e = ⊎_elim (the-cell sh s.fresh x f.fresh) (popped-cell sh s.popped x f.popped) (or_cases (is_the s.fresh x) (is_unpublished s.popped x) e)
