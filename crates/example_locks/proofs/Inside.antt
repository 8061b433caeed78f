-- Who has the lock finds the pair whole until it stores in a field itself.
use Rattle.std.proofs.Common.{ℕ, ◌≡◌, ◌≢◌, ◌+◌, ◌<◌, ◌≤◌, ◌∙◌, zero, suc, List, [], ◌∷◌, ◌++◌, length, arith, refl, sym, ap, subst, Bool, true, false, Option, None, Some, ⊎_elim}
use Rattle.std.specs.Prelude.{is_none, slice_get, slice_index_or}
use Rattle.std.proofs.lemmas.Bool.{and_parts, cases_Bool, cases_eq, cases_lt, false≢true, true≢false}
use Rattle.std.proofs.lemmas.Option.{same_Some}
use Rattle.plain_heap.specs.Paths.{Name}
use Rattle.mark_core.specs.declared.kinds.Event.{Event}
use Rattle.mark_core.specs.declared.kinds.Shape.{Shape}
use Rattle.mark_core.specs.declared.kinds.Step.{Step}
use Rattle.mark_core.specs.declared.kinds.Step.TheVariants.{ExchangeField, ExchangeValue, ReadOwn, StoreField}
use Rattle.mark_core.specs.declared.seat.SeatState.{SeatState}
use Rattle.mark_core.specs.Steps.{Core}
use Rattle.gc_table.specs.AgreementLaws.{TellsIn, TellsOf, found_of}
use Rattle.gc_table.specs.Past.{adds}
use Rattle.gc_table.specs.RunWorlds.{World, WorldObject, object_of, reference_of}
use Rattle.gc_table.specs.Runs.{core_after}
use Rattle.gc_table.specs.Sharing.{heap_after_events}
use Rattle.gc_table.specs.Single.{is_inside, turned}
use Rattle.gc_table.specs.declared.view.Entry.{Entry}
use Rattle.heap_laws.specs.LentLocks.{LockByLog}
use Rattle.heap_laws.specs.Pairs.{IsWholePair, KeepsPair, PairByLog, fits_pair, fits_pairs, pending, pending_after}
use Rattle.heap_laws.proofs.Fields.{kept_refs, stores_field}
use Rattle.heap_laws.proofs.LentLocks.{Happening, core, event_at, split}
use Rattle.heap_laws.proofs.PairLogs.{fits_split}
use Rattle.heap_laws.proofs.PairSteps.{Free, Inside, fits, inside_other, log, quiet_free, waits, waits_own}
use Rattle.shared_heap.specs.Rooting.{spares_fields}
use Rattle.example_locks.specs.Guarding.{FindsWhole, IsVisit, Reads, ReadsAlike}

-- Who is outside isn't half done.
none_some : (q : Option (Option ℕ)) → is_none q ≡ true → q ≡ None
none_some None e = refl
none_some (Some x) e = absurd (false≢true e)

next_none : (b : Bool) (q : Option (Option ℕ)) (step : Step) (won : Bool) → (b ≡ false → q ≡ None) → fits_pair b q step ≡ true → turned b step won ≡ false → pending_after q step ≡ None
next_none b q (StoreField v i x) won h fit out = absurd (true≢false (sym (and_parts b _ fit).0 ∙ out))
next_none b q (ExchangeValue v m n) won h fit out = none_some q fit
next_none b q step won h fit out = h out

outside_none : (b : Bool) (q : Option (Option ℕ)) (l : List Entry) → (b ≡ false → q ≡ None) → fits_pairs b q l ≡ true → is_inside b l ≡ false → pending q l ≡ None
outside_none b q [] h fit out = h out
outside_none b q (x ∷ xs) h fit out =
    let p = and_parts (fits_pair b q x.step) (fits_pairs (turned b x.step x.won) (pending_after q x.step) xs) fit in
    outside_none (turned b x.step x.won) (pending_after q x.step) xs (next_none b q x.step x.won h p.0) p.1 out

-- nor does it store in a field
out_quiet : (q : Option (Option ℕ)) (step : Step) → fits_pair false q step ≡ true → stores_field step ≡ false
out_quiet q (StoreField v i x) fit = absurd (false≢true fit)
out_quiet q (ExchangeField v i x y) fit = absurd (false≢true fit)
out_quiet q step fit = refl

quiet_none : (step : Step) → stores_field step ≡ false → pending_after None step ≡ None
quiet_none (StoreField v i x) e = absurd (true≢false e)
quiet_none step e = refl

spared_field : (step : Step) → spares_fields step ≡ true → stores_field step ≡ false
spared_field (StoreField v i x) e = absurd (false≢true e)
spared_field (ExchangeField v i x y) e = absurd (false≢true e)
spared_field step e = refl

module _ (sh : Shape) (es : List Event) (u : ℕ) (name : Name) (p : KeepsPair sh es u name) (alone : LockByLog) (pair : PairByLog) where
  -- the log of a seat so far is of the kind
  fits_log : (k : ℕ) (x : Happening sh es u name p.takes k) (i : ℕ) → fits_pairs false None (log sh es u name p (suc k) i) ≡ true
  fits_log k x i =
      let it = split sh es u name p.takes k x i in
      let front : List Entry = log sh es u name p k i ++ adds i (core sh es u name p.takes k) x.event in
      let all : fits_pairs false None (front ++ it.rest) ≡ true = subst (λ (z : List Entry). fits_pairs false None z ≡ true) it.whole (p.pairs i) in
      ap (fits_pairs false None) it.more ∙ (fits_split false None front it.rest all).0

  fits_before : (k : ℕ) (x : Happening sh es u name p.takes k) (i : ℕ) → fits_pairs false None (log sh es u name p k i) ≡ true
  fits_before k x i =
      let it = split sh es u name p.takes k x i in
      (fits_split false None (log sh es u name p k i) (adds i (core sh es u name p.takes k) x.event) (subst (λ (z : List Entry). fits_pairs false None z ≡ true) it.more (fits_log k x i))).0

  -- Once a seat has come in nobody is half done.
  came : (k i : ℕ) → k < length es → Inside sh es u name p k i ≡ false → Inside sh es u name p (suc k) i ≡ true → Free sh es u name p (suc k)
  came k i h out come = record { none = none; whole = subst (λ (n : ℕ). IsWholePair (heap_after_events sh es n) name) minus (pair sh es u name p k i h out (subst (λ (n : ℕ). Inside sh es u name p n i ≡ true) plus come)).1 }
    where
      plus : suc k ≡ k + 1
      plus = omega arith

      minus : k + 1 ≡ suc k
      minus = omega arith

      x : Happening sh es u name p.takes k
      x = event_at sh es u name p.takes k h

      own_turn : i ≡ x.event.seat
      own_turn = ⊎_elim (λ (same : i ≡ x.event.seat). same) (λ (d : i ≢ x.event.seat). absurd (true≢false (sym come ∙ (inside_other sh es u name p k x i d ∙ out)))) (cases_eq i x.event.seat)

      before : waits sh es u name p k x.event.seat ≡ None
      before = outside_none false None (log sh es u name p k x.event.seat) (λ e. refl) (fits_before k x x.event.seat) (ap (Inside sh es u name p k) (sym own_turn) ∙ out)

      mine : waits sh es u name p (suc k) x.event.seat ≡ None
      mine =
          let fit : fits_pair (Inside sh es u name p k x.event.seat) (waits sh es u name p k x.event.seat) x.event.step ≡ true = fits sh es u name p k x in
          let quiet = out_quiet (waits sh es u name p k x.event.seat) x.event.step (ap (λ (b : Bool). fits_pair b (waits sh es u name p k x.event.seat) x.event.step) (sym (ap (Inside sh es u name p k) (sym own_turn) ∙ out)) ∙ fit) in
          waits_own sh es u name p k x ∙ (ap (λ (q : Option (Option ℕ)). pending_after q x.event.step) before ∙ quiet_none x.event.step quiet)

      none : (j : ℕ) → waits sh es u name p (suc k) j ≡ None
      none j =
          ⊎_elim
          (λ (t : Inside sh es u name p (suc k) j ≡ true). ap (waits sh es u name p (suc k)) (alone sh es u name p.takes (suc k) j i t come ∙ own_turn) ∙ mine)
          (λ (f : Inside sh es u name p (suc k) j ≡ false). outside_none false None (log sh es u name p (suc k) j) (λ e. refl) (fits_log k x j) f)
          (cases_Bool (Inside sh es u name p (suc k) j))

  -- As long as it stores in no field, nobody does.
  quiet : (k i : ℕ) (x : Happening sh es u name p.takes k) → Inside sh es u name p k i ≡ true → ((e : Event) → slice_get es k ≡ Some e → e.seat ≡ i → spares_fields e.step ≡ true) → stores_field x.event.step ≡ false
  quiet k i x inside spared =
      ⊎_elim
      (λ (same : j ≡ i). spared_field x.event.step (spared x.event x.there same))
      (λ (d : j ≢ i). out_quiet (waits sh es u name p k j) x.event.step (ap (λ (b : Bool). fits_pair b (waits sh es u name p k j) x.event.step) (sym (out d)) ∙ fits sh es u name p k x))
      (cases_eq j i)
    where
      j : ℕ
      j = x.event.seat

      out : j ≢ i → Inside sh es u name p k j ≡ false
      out d = ⊎_elim (λ (t : Inside sh es u name p k j ≡ true). absurd (d (alone sh es u name p.takes k j i t inside))) (λ (f : Inside sh es u name p k j ≡ false). f) (cases_Bool (Inside sh es u name p k j))

  -- So the pair stays whole.
  stays : (k i : ℕ) → Free sh es u name p k → Inside sh es u name p k i ≡ true → k < length es → ((e : Event) → slice_get es k ≡ Some e → e.seat ≡ i → spares_fields e.step ≡ true) → Free sh es u name p (suc k)
  stays k i free inside h spared = let x : Happening sh es u name p.takes k = event_at sh es u name p.takes k h in quiet_free sh es u name p k x (quiet k i x inside spared) free

  free_at : (k m i : ℕ) → IsVisit sh es i k m → Free sh es u name p m
  free_at k zero i v = absurd (omega (arith, v.later))
  free_at k (suc n) i v =
      ⊎_elim
      (λ (same : n ≡ k).
      let plus : k + 1 ≡ suc k = omega arith in
      let below : k < length es = omega (arith, same, v.within) in
      subst (λ (z : ℕ). Free sh es u name p (suc z)) (sym same) (came k i below v.outside (subst (λ (z : ℕ). Inside sh es u name p z i ≡ true) plus (v.inside (k + 1) (omega arith) (omega (arith, same))))))
      (λ (d : n ≢ k).
      let more : k < n = omega (arith, d, v.later) in
      stays n i
      (free_at k n i (record {
        outside = v.outside;
        later = more;
        within = omega (arith, v.within);
        inside = λ l a b. v.inside l a (omega (arith, b));
        unstored = λ l e a b at own. v.unstored l e a (omega (arith, b)) at own;
      }))
      (v.inside n more (omega arith)) (omega (arith, v.within)) (λ e at own. v.unstored n e more (omega arith) at own))
      (cases_eq n k)

  -- Nor do the fields of the root change.
  abbrev Refers : WorldObject → ℕ → Type 0
  Refers object n = (after : WorldObject) × (object_of (heap_after_events sh es n) name ≡ Some after) × (after.refs ≡ object.refs)

  refers_next : (object was : WorldObject) (j : ℕ) (world : World) → heap_after_events sh es (suc j) ≡ world → (new : WorldObject) × (object_of world name ≡ Some new) × (new.refs ≡ was.refs) → was.refs ≡ object.refs → Refers object (suc j)
  refers_next object was j world after new old = (new.0, ap (λ (w : World). object_of w name) after ∙ new.1, new.2 ∙ old)

  refs_kept : (k m i : ℕ) → IsVisit sh es i k m → (a : ℕ) (object : WorldObject) → k < a → object_of (heap_after_events sh es a) name ≡ Some object → (n : ℕ) → a ≤ n → n ≤ m → Refers object n
  refs_kept k m i v a object after there zero above below = absurd (omega (arith, after, above))
  refs_kept k m i v a object after there (suc j) above below =
      ⊎_elim
      (λ (same : a ≡ suc j). (object, ap (λ (n : ℕ). object_of (heap_after_events sh es n) name) (sym same) ∙ there, refl))
      (λ (d : a ≢ suc j).
      let before : a ≤ j = omega (arith, d, above) in
      let more : k < j = omega (arith, after, before) in
      let less : j < m = omega (arith, below) in
      let within : j < length es = omega (arith, less, v.within) in
      let least : j ≤ m = omega (arith, less) in
      let x : Happening sh es u name p.takes j = event_at sh es u name p.takes j within in
      let old : Refers object j = refs_kept k m i v a object after there j before least in
      let none : stores_field x.event.step ≡ false = quiet j i x (v.inside j more least) (λ e at own. v.unstored j e more less at own) in
      refers_next object old.0 j _ x.after (kept_refs (core sh es u name p.takes j) x.event x.seat (heap_after_events sh es j) name old.0 x.taken.got none old.1) old.2)
      (cases_eq a (suc j))

  -- What is read of a field is what the root has there.
  abbrev Tells : Type 0
  Tells = (n : ℕ) (e : Event) → slice_get es n ≡ Some e → TellsOf (core_after sh 1 es n) (heap_after_events sh es n) (slice_get (core_after sh 1 es n).seats e.seat) e.step

  read_of : Tells → (n f : ℕ) (to : Option Name) → Reads sh es name n f to → (object : WorldObject) × (object_of (heap_after_events sh es n) name ≡ Some object) × (to ≡ reference_of object f)
  read_of tells n f to r =
      let c : Core = core_after sh 1 es n in
      let world : World = heap_after_events sh es n in
      let of_seat : TellsOf c world (Some r.seat) r.event.step = subst (λ (o : Option SeatState). TellsOf c world o r.event.step) r.took (tells n r.event r.there) in
      let told : TellsIn c world r.seat (ReadOwn r.cell f) (found_of c (Some r.seat) r.event.step) = subst (λ (s : Step). TellsIn c world r.seat s (found_of c (Some r.seat) r.event.step)) r.step of_seat in
      (told.0, subst (λ (m : Name). object_of world m ≡ Some told.0) r.names told.1.1, sym r.found ∙ told.3)

  alike : Tells → (k m i a b : ℕ) (x y : Option Name) → IsVisit sh es i k m → k < a → a < m → k < b → b < m → Reads sh es name a 0 x → Reads sh es name b 1 y → IsWholePair (heap_after_events sh es a) name → x ≡ y
  alike tells k m i a b x y v ka am kb bm r q whole =
      let one = read_of tells a 0 x r in
      let two = read_of tells b 1 y q in
      one.2 ∙ (whole one.0 one.1 ∙ (ap (λ (l : List (Option Name)). slice_index_or l 1 None) (same_refs one.0 one.1 two.0 two.1) ∙ sym two.2))
    where
      same_refs : (o : WorldObject) → object_of (heap_after_events sh es a) name ≡ Some o → (t : WorldObject) → object_of (heap_after_events sh es b) name ≡ Some t → o.refs ≡ t.refs
      same_refs o at t there =
          ⊎_elim
          (λ (less : a < b).
          let new = refs_kept k m i v a o ka at b (omega (arith, less)) (omega (arith, bm)) in
          sym new.2 ∙ ap (λ (z : WorldObject). z.refs) (same_Some new.0 t (sym new.1 ∙ there)))
          (λ (more : b ≤ a).
          let new = refs_kept k m i v b t kb there a more (omega (arith, am)) in
          ap (λ (z : WorldObject). z.refs) (same_Some o new.0 (sym at ∙ new.1)) ∙ new.2)
          (cases_lt a b)

  -- a visit so far
  so_far : (k m i : ℕ) → IsVisit sh es i k m → (n : ℕ) → k < n → n < m → IsVisit sh es i k n
  so_far k m i v n more less =
      record {
        outside = v.outside;
        later = more;
        within = omega (arith, less, v.within);
        inside = λ l a b. v.inside l a (omega (arith, b, less));
        unstored = λ l e a b at own. v.unstored l e a (omega (arith, b, less)) at own;
      }

pub finds-whole : LockByLog → PairByLog → (sh : Shape) (es : List Event) (u : ℕ) (name : Name) → KeepsPair sh es u name → FindsWhole sh es name
finds-whole alone pair sh es u name p k m i v = (free_at sh es u name p alone pair k m i v).whole

pub reads-alike : LockByLog → PairByLog → (sh : Shape) (es : List Event) (u : ℕ) (name : Name) → KeepsPair sh es u name
    → ((n : ℕ) (e : Event) → slice_get es n ≡ Some e → TellsOf (core_after sh 1 es n) (heap_after_events sh es n) (slice_get (core_after sh 1 es n).seats e.seat) e.step) → FindsWhole sh es name → ReadsAlike sh es name
reads-alike alone pair sh es u name p tells finds k m i a b x y v ka am kb bm r q =
    alike sh es u name p alone pair tells k m i a b x y v ka am kb bm r q (finds k a i (so_far sh es u name p alone pair k m i v a ka am))
