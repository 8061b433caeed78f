-- What the steps of cleaning don't do, for a pass over all cards.
use Rattle.std.proofs.Common.{ℕ, zero, suc, ◌≡◌, ◌+◌, ◌-◌, ◌*◌, ◌%◌, List, [], ◌∷◌, ◌++◌, refl, sym, ap, ◌∙◌, Bool, true, false, not, ⊎_elim, ◌⊎◌, inl, inr, ◌&&◌, subst, eqb-true}
use Rattle.std.specs.Prelude.{◌==◌, if◌then◌else◌, min}
use Rattle.std.proofs.lemmas.Bool.{not-true, or_from, false≢true}
use Rattle.mark_core.specs.Cards.{block_of_card}
use Rattle.mark_core.specs.Layout.{card_count}
use Rattle.mark_core.specs.Numbers.{deferred_pool_number}
use Rattle.mark_core.specs.declared.kinds.Shape.{Shape}
use Rattle.mark_core.specs.declared.kinds.Step.{Step}
use Rattle.mark_core.specs.declared.kinds.Step.TheVariants.{ClearCard, DirtyCard, ReadAlloc, ReadCard, ReadMarks, NextOfCards, Pop, ReadRoot, ReadStat, LoadSlot, Take}
use Rattle.gc_table.specs.Log.{event, all_steps, events}
use Rattle.gc_table.specs.declared.view.Entry.{Entry}
use Rattle.packet_pools.specs.Counts.{scans_object, only_scans}
use Rattle.packet_pools.specs.Seeking.{in_pools, moves_packet, output_pools, some_event, only_moves}
use Rattle.card_clean.specs.Cleaning.{Cleans, FoundClean, FoundDirty}
use Rattle.card_clean.specs.DirtyCards.{CleanedFrom, CleanedWhereDirty, CleansStretch, CleansStretches, stretch_cards, stretch_count}
use Rattle.card_clean.specs.Taking.{CleansWithPacket}
use Rattle.card_clean.specs.declared.cleaned.Cleaned.{Cleaned}
use Rattle.gc_cycle.specs.Events.{never, Sort}
use Rattle.gc_cycle.proofs.Ends.Finishes.{never-both}
use Rattle.gc_table.specs.declared.view.View.{View}
use Rattle.packet_pools.specs.OnlyTraced.{OnlyTracedBy, traces_cells}
use Rattle.card_clean.specs.Drained.{sees_roots}
use Rattle.tracer.specs.Roots.{only_roots, scans_roots}
use Rattle.tracer.specs.Tally.{only_traces, is_trace_step}
use Rattle.gc_cycle.specs.Sorts.{draws_or_clears, pops, reads_counter, reads_pace, reads_root, takes_deferred}
use Rattle.gc_cycle.proofs.Sequences.{none-of-steps}

-- Steps that the calls which trace don't take.
-- a test of all events by their steps, in the words of the crate that makes it

pub trace-steps : (es : List Entry) → only_traces es ≡ all_steps is_trace_step es
trace-steps [] = refl
trace-steps (e ∷ es) = ap (λ b. is_trace_step e.step && b) (trace-steps es)

pub root-steps : (es : List Entry) → only_roots es ≡ all_steps scans_roots es
root-steps [] = refl
root-steps (e ∷ es) = ap (λ b. scans_roots e.step && b) (root-steps es)

pub move-steps : (qs : List ℕ) (es : List Entry) → only_moves qs es ≡ all_steps (moves_packet qs) es
move-steps qs [] = refl
move-steps qs (e ∷ es) = ap (λ b. moves_packet qs e.step && b) (move-steps qs es)

pub scan-steps : (es : List Entry) → only_scans es ≡ all_steps scans_object es
scan-steps [] = refl
scan-steps (e ∷ es) = ap (λ b. scans_object e.step && b) (scan-steps es)

-- no step of such a sort is like this
abbrev pub Spares : (Step → Bool) → Sort → Type 0
Spares P f = (step : Step) (n : ℕ) → P step ≡ true → f step n ≡ false

pub untaken : (P : Step → Bool) (f : Sort) → Spares P f → (es : List Entry) → all_steps P es ≡ true → never f es ≡ true
untaken P f h es a = ap not (none-of-steps P f h es a)

pub trace-uncleaned : Spares is_trace_step draws_or_clears
trace-uncleaned NextOfCards n e = absurd (false≢true e)
trace-uncleaned (ClearCard card) n e = absurd (false≢true e)
trace-uncleaned step n e = refl

pub trace-unrooted : Spares is_trace_step reads_root
trace-unrooted (ReadRoot section v) n e = absurd (false≢true e)
trace-unrooted (LoadSlot section k) n e = absurd (false≢true e)
trace-unrooted step n e = refl

pub roots-uncleaned : Spares scans_roots draws_or_clears
roots-uncleaned NextOfCards n e = absurd (false≢true e)
roots-uncleaned (ClearCard card) n e = absurd (false≢true e)
roots-uncleaned step n e = refl

pub roots-unpopped : Spares scans_roots pops
roots-unpopped (Pop p) n e = absurd (false≢true e)
roots-unpopped step n e = refl

pub sees-unpopped : Spares sees_roots pops
sees-unpopped (Pop p) n e = absurd (false≢true e)
sees-unpopped step n e = refl

pub scan-unpopped : Spares scans_object pops
scan-unpopped (Pop p) n e = absurd (false≢true e)
scan-unpopped step n e = refl

pub scan-unrooted : Spares scans_object reads_root
scan-unrooted (ReadRoot section v) n e = absurd (false≢true e)
scan-unrooted (LoadSlot section k) n e = absurd (false≢true e)
scan-unrooted step n e = refl

pub moves-uncleaned : (qs : List ℕ) → Spares (moves_packet qs) draws_or_clears
moves-uncleaned qs NextOfCards n e = absurd (false≢true e)
moves-uncleaned qs (ClearCard card) n e = absurd (false≢true e)
moves-uncleaned qs step n e = refl

pub moves-unpopped : (qs : List ℕ) → Spares (moves_packet qs) pops
moves-unpopped qs (Pop p) n e = absurd (false≢true e)
moves-unpopped qs step n e = refl

pub moves-unrooted : (qs : List ℕ) → Spares (moves_packet qs) reads_root
moves-unrooted qs (ReadRoot section v) n e = absurd (false≢true e)
moves-unrooted qs (LoadSlot section k) n e = absurd (false≢true e)
moves-unrooted qs step n e = refl

-- the deferred pool is none of those in which a packet with room is looked for
outputs-other : (pool : ℕ) → in_pools pool output_pools ≡ true → (pool == deferred_pool_number) ≡ false
outputs-other pool e = by_test (pool == deferred_pool_number) refl
  where
    by_test : (b : Bool) → (pool == deferred_pool_number) ≡ b → b ≡ false
    by_test true h = absurd (false≢true (subst (λ q. in_pools q output_pools ≡ true) (eqb-true pool deferred_pool_number h) e))
    by_test false h = refl

pub moves-undeferred : Spares (moves_packet output_pools) takes_deferred
moves-undeferred (Take pool packet) n e = outputs-other pool e
moves-undeferred step n e = refl

pub scan-undeferred : Spares scans_object takes_deferred
scan-undeferred (Take pool packet) n e = outputs-other pool e
scan-undeferred step n e = refl

pub roots-undeferred : Spares scans_roots takes_deferred
roots-undeferred (Take pool packet) n e = outputs-other pool e
roots-undeferred step n e = refl

-- only moves of packets
pub moved-untaken : (qs : List ℕ) (f : Sort) → Spares (moves_packet qs) f → (es : List Entry) → only_moves qs es ≡ true → never f es ≡ true
moved-untaken qs f h es m = untaken (moves_packet qs) f h es (sym (move-steps qs es) ∙ m)

packets-unread : Spares traces_cells reads_pace
packets-unread (ReadStat which) n e = absurd (false≢true e)
packets-unread step n e = refl

-- a call that traces reads none of the numbers that pace a cycle
pub unread-of : {b : Bool} (v w : View) → OnlyTracedBy b v w → never reads_pace (events v w) ≡ true
unread-of v w l = untaken traces_cells reads_pace packets-unread (events v w) l.only

packets-uncounted : Spares traces_cells reads_counter
packets-uncounted (ReadStat which) n e = absurd (false≢true e)
packets-uncounted step n e = refl

-- nor the counter of cards
pub uncounted-of : {b : Bool} (v w : View) → OnlyTracedBy b v w → never reads_counter (events v w) ≡ true
uncounted-of v w l = untaken traces_cells reads_counter packets-uncounted (events v w) l.only

-- the card is dirtied again if it has to be
abbrev ending : ℕ → Bool → List Entry
ending card b = if b then event (DirtyCard card) 1 ∷ [] else []

-- what is neither a move of packets nor a step of a scan, and isn't one of the steps of cleaning itself, isn't there
module _ (f : Sort) (h : Spares (moves_packet output_pools) f) (k : Spares scans_object f) (cleared : (card n : ℕ) → f (ClearCard card) n ≡ false) (marks : (b n : ℕ) → f (ReadMarks b) n ≡ false) (allocs : (b n : ℕ) → f (ReadAlloc b) n ≡ false) (dirtied : (card n : ℕ) → f (DirtyCard card) n ≡ false) where
  one : (step : Step) (n : ℕ) (es : List Entry) → f step n ≡ false → never f es ≡ true → never f (event step n ∷ es) ≡ true
  one step n es a b = ap not (or_from (f step n) (some_event f es) a (not-true _ b))

  none-ending : (card : ℕ) (b : Bool) → never f (ending card b) ≡ true
  none-ending card true = one (DirtyCard card) 1 [] (dirtied card 1) refl
  none-ending card false = refl

  pub none-cleaning : (sh : Shape) (card : ℕ) (r : Cleaned) (es : List Entry) → FoundClean card r es ⊎ FoundDirty sh card r es → never f es ≡ true
  none-cleaning sh card r es c =
      ⊎_elim
      (λ (a : FoundClean card r es). ap (never f) a.events_are ∙ one (ClearCard card) 0 [] (cleared card 0) refl)
      (λ (a : FoundDirty sh card r es).
      let x = a.2 in
      let rest : List Entry = x.scan ++ ending card r.redirtied in
      ap (never f) (a.1 ∙ ap (λ l. event (ClearCard card) 1 ∷ l) x.events_are)
      ∙ one (ClearCard card) 1 (event (ReadMarks (block_of_card card)) x.marks ∷ event (ReadAlloc (block_of_card card)) x.allocs ∷ rest) (cleared card 1)
      (one (ReadMarks (block_of_card card)) x.marks (event (ReadAlloc (block_of_card card)) x.allocs ∷ rest) (marks (block_of_card card) x.marks)
      (one (ReadAlloc (block_of_card card)) x.allocs rest (allocs (block_of_card card) x.allocs)
      (never-both f x.scan (ending card r.redirtied) (untaken scans_object f k x.scan (sym (scan-steps x.scan) ∙ x.rescans.counts.scans)) (none-ending card r.redirtied)))))
      c

  none-where : (sh : Shape) (card n : ℕ) (es : List Entry) → ((k m : ℕ) → f (ReadCard k) m ≡ false) → CleanedWhereDirty sh card n es → never f es ≡ true
  none-where sh card n es looks c =
      ⊎_elim
      (λ (a : (n ≡ 0) × (es ≡ event (ReadCard card) 0 ∷ []) × (c.cleaning ≡ [])). ap (never f) a.1 ∙ one (ReadCard card) 0 [] (looks card 0) refl)
      (λ (a : (r : Cleaned) × (n ≡ r.rescanned) × (es ≡ event (ReadCard card) 1 ∷ c.cleaning) × Cleans sh card r c.cleaning).
      ap (never f) a.2 ∙ one (ReadCard card) 1 c.cleaning (looks card 1) (none-cleaning sh card a.0 c.cleaning a.3))
      c.told

  pub none-from : (sh : Shape) (from k n : ℕ) (es : List Entry) → ((k m : ℕ) → f (ReadCard k) m ≡ false) → CleanedFrom sh from k n es → never f es ≡ true
  none-from sh from zero n es looks c = ap (never f) c.1
  none-from sh from (suc k) n es looks c = ap (never f) c.4 ∙ never-both f c.2 c.3 (none-from sh from k c.0 c.2 looks c.6) (none-where sh (from + k) c.1 c.3 looks c.7)

  -- with a packet that was taken for it
  pub none-with : (sh : Shape) (from k n : ℕ) (es : List Entry) → ((k m : ℕ) → f (ReadCard k) m ≡ false) → CleansWithPacket sh (CleanedFrom sh from k n) es → never f es ≡ true
  none-with sh from k n es looks c =
      ap (never f) c.events_are
      ∙ never-both f c.taking (c.cleaning ++ c.giving) (moved-untaken output_pools f h c.taking c.takes)
      (never-both f c.cleaning c.giving (none-from sh from k n c.cleaning looks c.cleans) (moved-untaken output_pools f h c.giving c.gives))

  none-stretch : (sh : Shape) (s n : ℕ) (es : List Entry) → ((k m : ℕ) → f (ReadCard k) m ≡ false) → CleansStretch sh s n es → never f es ≡ true
  none-stretch sh s n es looks (inl c) = moved-untaken output_pools f h es c.2
  none-stretch sh s n es looks (inr c) = none-with sh (s * stretch_cards) (min (s * stretch_cards + stretch_cards) (card_count sh) - s * stretch_cards) n es looks c

  pub none-stretches : (sh : Shape) (first k n : ℕ) (es : List Entry) → ((k m : ℕ) → f (ReadCard k) m ≡ false) → CleansStretches sh first k n es → never f es ≡ true
  none-stretches sh first zero n es looks c = ap (never f) c.1
  none-stretches sh first (suc k) n es looks c = ap (never f) c.4 ∙ never-both f c.2 c.3 (none-stretches sh first k c.0 c.2 looks c.6) (none-stretch sh ((first + k) % stretch_count sh) c.1 c.3 looks c.7)
