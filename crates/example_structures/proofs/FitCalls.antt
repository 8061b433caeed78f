-- That what a call of a mutator did fits a queue, and what its log tells of the variables then.
use Rattle.std.proofs.Common.{ℕ, ◌≡◌, ◌≢◌, ◌<◌, ◌+◌, ◌*◌, ◌==◌, ◌&&◌, ◌∙◌, ⊎_elim, List, [], ◌++◌, append_assoc, ap, arith, drop, get_or, get_or-set_other, length, not, refl, subst, sym, true}
use Rattle.std.specs.Prelude.{if◌then◌else◌, nat_lt}
use Rattle.std.proofs.lemmas.Bool.{and_from, and_parts, false≢true, ltb-true, ne_eqb}
use Rattle.mark_core.specs.Bits.{nil_or, reference_in}
use Rattle.mark_core.specs.Cells.{field}
use Rattle.mark_core.specs.Layout.{region_sizes, words_of}
use Rattle.mark_core.specs.Numbers.{section_variables}
use Rattle.mark_core.specs.Seats.{may_mutate}
use Rattle.mark_core.specs.Steps.{Core}
use Rattle.mark_core.specs.Steps.MutatorSteps.{seat_variable as word_in}
use Rattle.mark_core.specs.declared.kinds.Step.{Step}
use Rattle.mark_core.specs.declared.kinds.Step.TheVariants.{ExchangeField, ReadOwn, StoreRoot, HoldRoot}
use Rattle.mark_core.specs.declared.seat.SeatState.{SeatState}
use Rattle.mark_core.proofs.Blocks.BlocksStopped.{Taken, in-place}
use Rattle.mark_core.proofs.Known.{acts, found}
use Rattle.mark_core.proofs.References.ReferencesRoots.{Used, known-used, mutator-is, read-field, read-whole}
use Rattle.mark_core.proofs.Writing.Places.{words-get}
use Rattle.gc_table.specs.Lending.{leaves_variable}
use Rattle.gc_table.specs.Log.{all_steps}
use Rattle.gc_table.specs.Running.{Ran}
use Rattle.gc_table.specs.Seats.{did, state_of, view_of}
use Rattle.gc_table.specs.Taking.{Finds}
use Rattle.gc_table.specs.declared.view.Entry.{Entry}
use Rattle.gc_table.specs.declared.view.View.{View}
use Rattle.gc_table.proofs.History.Log.{drop-own, events-after}
use Rattle.gc_table.proofs.Running.{ran-found, ran-shape}
use Rattle.mutator_ops.specs.Sharing.{FollowsFound, LendsFound, SetsVariable}
use Rattle.seat_turns.specs.Sharing.{FollowsField, spares_heap}
use Rattle.queue_laws.specs.Making.{Making, makings, nothing_made}
use Rattle.queue_laws.specs.QueueLogs.{is_fresh}
use Rattle.queue_laws.specs.Reads.{Reading, readings, starting}
use Rattle.queue_laws.proofs.MakeLogs.{makings_join}
use Rattle.queue_laws.proofs.ReadLogs.{readings_join}
use Rattle.shared_heap.specs.Calls.{FindsValue, IsSame}
use Rattle.shared_heap.specs.declared.mutator.SharedMutator.{SharedMutator}
use Rattle.example_structures.specs.Fitting.{AddsFitting, Began, FitsSince, HasFresh, HasRead, fit_all, hands, since}
use Rattle.example_structures.proofs.Called.{env-long, ran-log}
use Rattle.example_structures.proofs.Changed.{all-join, all-more, heap-objects, spares_objects}
use Rattle.example_structures.proofs.FitLogs.{fit-join, fit-spared, held-kept, keeps_made, made-kept, variable-set, word-kept}

-- what a mutator read in a field of an object is a whole reference
pub own-whole : (v : View) (x j n : ℕ) → Finds (ReadOwn x j) n v → reference_in n ≡ n
own-whole v x j n f =
    let c : Core = f.state.core in
    let step : Step = ReadOwn x j in
    let a = acts c (record { seat = f.index; step = step }) f.whole.core f.allowed in
    let s : SeatState = a.0 in
    let k : Taken c f.index s step = record { core = f.whole.core; got = a.1.seat; live = a.1.live; ok = a.1.ok } in
    let b = and_parts _ (may_mutate s) k.ok.0 in
    let d = and_parts (nat_lt x c.shape.cells) (nat_lt j c.shape.fields) b.0 in
    let old : found c s step ≡ field c.shape (words_of c.shape c.words).fields x j = words-get (region_sizes c.shape) 11 c.words (x * c.shape.fields + j) 0 (in-place c f.index s step k) in
    let e : nil_or (Used c) (found c s step) ≡ true =
    subst (λ (r : ℕ). nil_or (Used c) r ≡ true) (sym old) (read-field c f.index s step x j k (mutator-is s b.1).0 (ltb-true x c.shape.cells d.0) (known-used c f.index s step x k k.ok.1.0) (ltb-true j c.shape.fields d.1)) in
    subst (λ (r : ℕ). reference_in r ≡ r) (old ∙ f.word) (read-whole c f.index s step (found c s step) k e)

pub heap-leaves : (v : ℕ) (step : Step) → spares_heap step ≡ true → leaves_variable v step ≡ true
heap-leaves v (StoreRoot u r) e = absurd (false≢true e)
heap-leaves v (HoldRoot u r) e = absurd (false≢true e)
heap-leaves v step e = refl

heap_made : (o : ℕ) (step : Step) → spares_heap step ≡ true → keeps_made o step ≡ true
heap_made o (ExchangeField v i x y) e = absurd (false≢true e)
heap_made o (StoreRoot u r) e = absurd (false≢true e)
heap_made o (HoldRoot u r) e = absurd (false≢true e)
heap_made o step e = refl

module _ (x y : SharedMutator) where
  -- what was done since a run began
  pub since-ran : (b : Began) → (view_of x.seat).log ≡ b.log ++ since b x → Ran (view_of x.seat) (view_of y.seat) → since b y ≡ since b x ++ did x.seat y.seat
  since-ran b log r =
      let more : List Entry = did x.seat y.seat in
      ap (drop (length b.log)) (ran-log (view_of x.seat) (view_of y.seat) r ∙ (ap (λ (l : List Entry). l ++ more) log ∙ append_assoc b.log (since b x) more)) ∙ drop-own b.log (since b x ++ more)

  -- a call took these steps, and left the variables of which P is so
  pub record Leaves (P : ℕ → Type 0) : Type 0 where
    pub ran : Ran (view_of x.seat) (view_of y.seat)
    pub spares : (v : ℕ) → P v → all_steps (leaves_variable v) (did x.seat y.seat) ≡ true
    pub words : (v : ℕ) → P v → word_in (state_of y.seat) v ≡ word_in (state_of x.seat) v

  module _ (q : ℕ) (b : Began) (p : FitsSince q b x) where
    -- the words that the log tells then
    abbrev Tells : Type 0
    Tells = (v u f : ℕ) → v < section_variables → (readings v u f (readings v u f (starting b.seat v) (since b x)) (did x.seat y.seat)).word ≡ word_in (state_of y.seat) v

    -- what was done fits
    pub adds : Ran (view_of x.seat) (view_of y.seat) → fit_all b.fields b.seat (hands q) (since b x) (did x.seat y.seat) ≡ true → all_steps (leaves_variable q) (did x.seat y.seat) ≡ true → Tells → FitsSince q b y
    adds r fit left told =
        let more : List Entry = did x.seat y.seat in
        let is = since-ran b p.log r in
        record {
          shape = ap (λ sh. sh.fields) (ran-shape (view_of x.seat) (view_of y.seat) r) ∙ p.shape;
          log = ran-log (view_of x.seat) (view_of y.seat) r ∙ (ap (λ (l : List Entry). l ++ more) p.log ∙ (append_assoc b.log (since b x) more ∙ ap (λ (l : List Entry). b.log ++ l) (sym is)));
          fit = subst (λ (l : List Entry). fit_all b.fields b.seat (hands q) [] l ≡ true) (sym is) (fit-join b.fields b.seat (hands q) [] (since b x) more p.fit fit);
          left = subst (λ (l : List Entry). all_steps (leaves_variable q) l ≡ true) (sym is) (all-join (leaves_variable q) (since b x) more p.left left);
          told =
              λ v u f below.
              ap (λ (l : List Entry). (readings v u f (starting b.seat v) l).word) is ∙ (ap (λ (k : Reading). k.word) (readings_join v u f (starting b.seat v) (since b x) more) ∙ told v u f below);
        }

    -- if it left all variables
    pub leaves-fits : (P : ℕ → Type 0) → ((v : ℕ) → P v) → Leaves P → fit_all b.fields b.seat (hands q) (since b x) (did x.seat y.seat) ≡ true → FitsSince q b y
    leaves-fits P all k fit =
        adds k.ran fit (k.spares q (all q))
        (λ v u f below. word-kept v u f (readings v u f (starting b.seat v) (since b x)) (did x.seat y.seat) (k.spares v (all v)) ∙ (p.told v u f below ∙ sym (k.words v (all v))))

    -- variables that were left have what they had
    pub leaves-read : (P : ℕ → Type 0) (v u f : ℕ) → Leaves P → P v → P u → HasRead v u f b x → HasRead v u f b y
    leaves-read P v u f k pv pu had = λ some.
        let before = had (subst (λ (n : ℕ). 0 < n) (k.words u pu) some) in
        ap (λ (l : List Entry). (readings v u f (starting b.seat v) l).held) (since-ran b p.log k.ran)
        ∙ (ap (λ (z : Reading). z.held) (readings_join v u f (starting b.seat v) (since b x) (did x.seat y.seat))
        ∙ (held-kept v u f (readings v u f (starting b.seat v) (since b x)) (did x.seat y.seat) (k.spares v pv) (k.spares u pu) ∙ before))

    -- so has variable 20, if besides no reference was exchanged
    pub leaves-fresh : Ran (view_of x.seat) (view_of y.seat) → all_steps (keeps_made 20) (did x.seat y.seat) ≡ true → HasFresh b x → HasFresh b y
    leaves-fresh r a had =
        ap (λ (l : List Entry). is_fresh b.fields 20 l) (since-ran b p.log r)
        ∙ (ap (λ (z : Making). z.fresh) (makings_join b.fields 20 nothing_made (since b x) (did x.seat y.seat)) ∙ (made-kept b.fields 20 (makings b.fields 20 nothing_made (since b x)) (did x.seat y.seat) a ∙ had))

  -- nothing was done that a plain heap sees
  pub same-leaves : IsSame x y → Leaves (λ (v : ℕ). Unit {0})
  same-leaves s = record { ran = s.leaves.ran; spares = λ v a. all-more spares_heap (leaves_variable v) (heap-leaves v) (did x.seat y.seat) s.leaves.only; words = λ v a. ap (λ (l : List ℕ). get_or l v 0) s.leaves.words }

  pub same-fits : (q : ℕ) → IsSame x y → AddsFitting q x y
  same-fits q s = λ b p.
      leaves-fits q b p (λ (v : ℕ). Unit {0}) (λ v. tt) (same-leaves s) (fit-spared b.fields b.seat (hands q) (since b x) (did x.seat y.seat) (all-more spares_heap spares_objects heap-objects (did x.seat y.seat) s.leaves.only))

  pub same-fresh : (q : ℕ) (b : Began) → FitsSince q b x → IsSame x y → HasFresh b x → HasFresh b y
  same-fresh q b p s = leaves-fresh q b p s.leaves.ran (all-more spares_heap (keeps_made 20) (heap_made 20) (did x.seat y.seat) s.leaves.only)

  -- a value was read
  pub value-leaves : (v n : ℕ) → FindsValue v n (view_of x.seat) (view_of y.seat) → Leaves (λ (u : ℕ). Unit {0})
  value-leaves v n s =
      record {
        ran = ran-found (view_of x.seat) (view_of y.seat) _ n refl s.1;
        spares = λ u a. subst (λ (es : List Entry). all_steps (leaves_variable u) es ≡ true) (sym (events-after (view_of x.seat) (view_of y.seat) _ n s.1.0)) refl;
        words = λ u a. ap (λ (z : View). word_in z.state u) s.1.0;
      }

  pub value-fits : (q v n : ℕ) → FindsValue v n (view_of x.seat) (view_of y.seat) → AddsFitting q x y
  value-fits q v n s = λ b p.
      leaves-fits q b p (λ (u : ℕ). Unit {0}) (λ u. tt) (value-leaves v n s)
      (fit-spared b.fields b.seat (hands q) (since b x) (did x.seat y.seat) (subst (λ (es : List Entry). all_steps spares_objects es ≡ true) (sym (events-after (view_of x.seat) (view_of y.seat) _ n s.1.0)) refl))

  -- one variable was assigned
  abbrev pub But : ℕ → ℕ → Type 0
  But w v = w ≢ v

  other : (u v : ℕ) → u ≢ v → not (u == v) && true ≡ true
  other u v ne = and_from (not (u == v)) true (ap not (ne_eqb u v ne)) refl

  pub variable-leaves : (w r : ℕ) → SetsVariable w r (view_of x.seat) (view_of y.seat) → Leaves (But w)
  variable-leaves w r s =
      record {
        ran = s.ran;
        spares = λ v ne. subst (λ (es : List Entry). all_steps (leaves_variable v) es ≡ true) (sym s.events_are) (other w v ne);
        words = λ v ne. ap (λ (z : SeatState). word_in z v) s.state ∙ get_or-set_other (state_of x.seat).env w v (reference_in r) 0 (λ z. ne (sym z));
      }

  pub found-leaves : (w v i : ℕ) → FollowsFound w v i (view_of x.seat) (view_of y.seat) → Leaves (But w)
  found-leaves w v i s =
      record {
        ran = s.ran;
        spares = λ u ne. subst (λ (es : List Entry). all_steps (leaves_variable u) es ≡ true) (sym s.events_are) (other w u ne);
        words = λ u ne. ap (λ (z : SeatState). word_in z u) s.state ∙ get_or-set_other (state_of x.seat).env w u (reference_in s.found) 0 (λ z. ne (sym z));
      }

  pub get-leaves : (w v i : ℕ) → FollowsField w v i (view_of x.seat) (view_of y.seat) → Leaves (But w)
  get-leaves w v i = ⊎_elim (λ t. variable-leaves w 0 t.1) (λ t. found-leaves w v i t.1)

  long : length (state_of x.seat).env ≡ section_variables
  long = env-long (view_of x.seat) x.seat.possible

  pub variable-fits : (q w r : ℕ) → w ≢ q → SetsVariable w r (view_of x.seat) (view_of y.seat) → AddsFitting q x y
  variable-fits q w r ne s = λ b p.
      adds q b p s.ran (fit-spared b.fields b.seat (hands q) (since b x) (did x.seat y.seat) (subst (λ (es : List Entry). all_steps spares_objects es ≡ true) (sym s.events_are) refl))
      (subst (λ (es : List Entry). all_steps (leaves_variable q) es ≡ true) (sym s.events_are) (other w q ne))
      (λ v u f below.
      ap (λ (es : List Entry). (readings v u f (readings v u f (starting b.seat v) (since b x)) es).word) s.events_are
      ∙ (variable-set (state_of x.seat).env w v (reference_in r) (readings v u f (starting b.seat v) (since b x)).word long below (p.told v u f below) ∙ sym (ap (λ (z : SeatState). word_in z v) s.state)))

  twice : (n : ℕ) → reference_in (reference_in n) ≡ reference_in n
  twice n = omega arith

  pub found-fits : (q w v i : ℕ) → w ≢ q → FollowsFound w v i (view_of x.seat) (view_of y.seat) → AddsFitting q x y
  found-fits q w z i ne s = λ b p.
      adds q b p s.ran (fit-spared b.fields b.seat (hands q) (since b x) (did x.seat y.seat) (subst (λ (es : List Entry). all_steps spares_objects es ≡ true) (sym s.events_are) refl))
      (subst (λ (es : List Entry). all_steps (leaves_variable q) es ≡ true) (sym s.events_are) (other w q ne))
      (λ v u f below.
      ap (λ (es : List Entry). (readings v u f (readings v u f (starting b.seat v) (since b x)) es).word) s.events_are
      ∙ (ap (λ (n : ℕ). if w == v then n else (readings v u f (starting b.seat v) (since b x)).word) (twice s.found)
      ∙ (variable-set (state_of x.seat).env w v (reference_in s.found) (readings v u f (starting b.seat v) (since b x)).word long below (p.told v u f below) ∙ sym (ap (λ (a : SeatState). word_in a v) s.state))))

  -- a variable was assigned what section 0 lends
  pub lent-fits : (q w z : ℕ) → w ≢ q → LendsFound w z (view_of x.seat) (view_of y.seat) → AddsFitting q x y
  lent-fits q w z ne s = λ b p.
      adds q b p s.ran (fit-spared b.fields b.seat (hands q) (since b x) (did x.seat y.seat) (subst (λ (es : List Entry). all_steps spares_objects es ≡ true) (sym s.events_are) refl))
      (subst (λ (es : List Entry). all_steps (leaves_variable q) es ≡ true) (sym s.events_are) (other w q ne))
      (λ v u f below.
      ap (λ (es : List Entry). (readings v u f (readings v u f (starting b.seat v) (since b x)) es).word) s.events_are
      ∙ (ap (λ (n : ℕ). if w == v then n else (readings v u f (starting b.seat v) (since b x)).word) (twice s.found)
      ∙ (variable-set (state_of x.seat).env w v (reference_in s.found) (readings v u f (starting b.seat v) (since b x)).word long below (p.told v u f below) ∙ sym (ap (λ (a : SeatState). word_in a v) s.state))))

  pub get-fits : (q w v i : ℕ) → w ≢ q → FollowsField w v i (view_of x.seat) (view_of y.seat) → AddsFitting q x y
  get-fits q w v i ne = ⊎_elim (λ t. variable-fits q w 0 ne t.1) (λ t. found-fits q w v i ne t.1)

  pub variable-fresh : (q w r : ℕ) (b : Began) → FitsSince q b x → w ≢ 20 → SetsVariable w r (view_of x.seat) (view_of y.seat) → HasFresh b x → HasFresh b y
  variable-fresh q w r b p ne s = leaves-fresh q b p s.ran (subst (λ (es : List Entry). all_steps (keeps_made 20) es ≡ true) (sym s.events_are) (other w 20 ne))

  pub get-fresh : (q w v i : ℕ) (b : Began) → FitsSince q b x → w ≢ 20 → FollowsField w v i (view_of x.seat) (view_of y.seat) → HasFresh b x → HasFresh b y
  get-fresh q w v i b p ne =
      ⊎_elim (λ t. variable-fresh q w 0 b p ne t.1) (λ t. leaves-fresh q b p t.1.ran (subst (λ (es : List Entry). all_steps (keeps_made 20) es ≡ true) (sym t.1.events_are) (other w 20 ne)))
