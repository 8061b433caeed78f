-- 23: a field or the value of a new cell is stored.
use Rattle.mark_core.proofs.References.ReferencesNow.{the-roots}
use Rattle.mark_core.proofs.Lagging.{now-seat}
use Rattle.std.proofs.Common.{ℕ, ◌≡◌, ◌≢◌, ◌+◌, ◌*◌, ◌<◌, ◌≤◌, List, set, length, arith, refl, sym, ap, ◌∙◌, subst, true, Option, Some, None, inl, ⊎_elim}
use Rattle.std.specs.Prelude.{IsFalse, IfSome, slice_index}
use Rattle.std.proofs.lemmas.Bool.{true≢false, false≢true, eq-eqb}
use Rattle.mark_core.specs.Layout.{Words, words_of}
use Rattle.mark_core.specs.Seats.{is_the, free_in, has_making, makes, scans}
use Rattle.mark_core.specs.Views.{makers, maker_of}
use Rattle.mark_core.specs.Cells.{field}
use Rattle.mark_core.specs.Rules.HeapRules.{section_of_cell, NumbersBelow}
use Rattle.mark_core.specs.Steps.MutatorSteps.{with_making}
use Rattle.mark_core.specs.Steps.{Core}
use Rattle.mark_core.proofs.Blocks.BlocksStopped.{Taken}
use Rattle.mark_core.proofs.Caches.CachesAt.{maker-at}
use Rattle.mark_core.proofs.Formed.FormedLearns.{one-of}
use Rattle.mark_core.proofs.References.ReferencesRoots.{Used}
use Rattle.mark_core.specs.declared.kinds.Shape.{Shape}
use Rattle.mark_core.specs.declared.kinds.Step.{Step}
use Rattle.mark_core.specs.declared.kinds.Step.TheVariants.{ReadCount, StoreNew}
use Rattle.mark_core.specs.declared.seat.SeatState.{SeatState}
use Rattle.mark_core.specs.declared.seat.CacheState.{CacheState}
use Rattle.gc_table.specs.StandsFor.{object_count, IsForNextObject, SeatStands, StandsFor}
use Rattle.gc_table.specs.declared.view.Meaning.{Meaning}
use Rattle.gc_table.specs.PlainSteps.{meaning_of}
use Rattle.gc_table.proofs.Stands.StandsAgree.{Stays, agrees-on}
use Rattle.gc_table.proofs.Stands.StandsFrame.{cell-on, Moves, had-meaning, counts-grow}
use Rattle.gc_table.proofs.Stands.StandsSeat.{Mutates, looks, making-is-free, free-not-used, free-apart}
use Rattle.gc_table.proofs.NewParts.{making_is, making_last}
use Rattle.mark_core.specs.Numbers.{value_bound, section_span}

scanning : (o : Option (ℕ × ℕ)) (c part : ℕ) → scans o c part ≡ true → (y : ℕ × ℕ) × (o ≡ Some y)
scanning None c part e = absurd (false≢true e)
scanning (Some y) c part e = (y, refl)

pub makes-one : (o : Option CacheState) (c part : ℕ) → makes o c part ≡ true → has_making o ≡ true
makes-one None c part e = absurd (false≢true e)
makes-one (Some x) c part e = let y = scanning x.making c part e in rw y.1 refl

-- while a cell is made, each cell that was made has its object
pub all-made : (sh : Shape) (ids values : List ℕ) (p : ℕ → ℕ) (i : ℕ) (s : SeatState) (m : Meaning) (x part : ℕ) → SeatStands sh ids values p i s m → makes s.cache x part ≡ true → length m.heap.objects ≡ s.made
all-made sh ids values p i s m x part k e =
    ⊎_elim
    (λ (h : length m.heap.objects ≡ s.made). h)
    (λ (h : (length m.heap.objects + 1 ≡ s.made) × IsFalse (has_making s.cache)). absurd (true≢false (sym (makes-one s.cache x part e) ∙ h.1)))
    k.made

-- then no cell in use is made for the next object
pub no-next : (c : Core) (i : ℕ) (s : SeatState) (step : Step) (ms : List Meaning) (y : ℕ) → Taken c i s step → Mutates c i s ms → length (meaning_of ms i).heap.objects ≡ s.made → y < c.shape.cells → Used c y ≡ true → section_of_cell (words_of c.shape c.words).identities y ≡ i
    → IsForNextObject c.shape (words_of c.shape c.words).identities (words_of c.shape c.words).values (words_of c.shape c.words).fields (meaning_of ms i) y → ⊥
no-next c i s step ms y k a room h u e o =
    let w : Words = words_of c.shape c.words in
    let below : NumbersBelow c.shape w.allocs w.identities (makers c.seats) (maker_of s) = one-of (NumbersBelow c.shape w.allocs w.identities (makers c.seats)) (makers c.seats) i (maker_of s) (maker-at c.seats i s k.got) k.core.sound.caches.numbers_below in
    let mine : is_the s.section (section_of_cell w.identities y) ≡ true = subst (λ (z : Option ℕ). is_the z (section_of_cell w.identities y) ≡ true) (sym a.section) (eq-eqb i (section_of_cell w.identities y) (sym e)) in
    omega (arith, below k.live y h u mine, o.number, room)

-- the words of other cells stay, and the new cell has its value once it is stored
pub record NewWords (c : Core) (x part : ℕ) (values fields : List ℕ) (value : ℕ) : Type 0 where
  pub other_values : (y : ℕ) → y ≢ x → slice_index values y ≡ slice_index (words_of c.shape c.words).values y
  pub other_fields : (y j : ℕ) → y ≢ x → j < c.shape.fields → field c.shape fields y j ≡ field c.shape (words_of c.shape c.words).fields y j
  pub stored : part ≡ c.shape.fields → slice_index values x ≡ value
  pub fits : value < value_bound

-- a part of a new cell that isn't the last
pub part-moves : (c : Core) (i : ℕ) (s : SeatState) (x part word : ℕ) (ms : List Meaning) (values fields : List ℕ) (value : ℕ) → Taken c i s (StoreNew x part word) → StandsFor c ms → (a : Mutates c i s ms) → free_in s.cache x ≡ true → length (meaning_of ms i).heap.objects ≡ s.made
    → part ≤ c.shape.fields → NewWords c x part values fields value
    → Moves c i s (StoreNew x part word) (record (words_of c.shape c.words) { values = values; fields = fields }) (record s { cache = with_making s.cache x (part + 1) }) (record (meaning_of ms i) { value = value }) ms
part-moves c i s x part word ms values fields value k st a free room few r = record {
  numbered = let before = st.numbered i m a.there in (before.0, before.1, before.2, r.fits, before.4);
  more = omega arith;
  identities_kept = λ y u. refl;
  now_roots = the-roots c;
  now = now-seat w.roots c.seats i s (record s { cache = with_making s.cache x (part + 1) }) k.got refl refl;
  other_roots = λ j u d h. refl;
  slots_nil = st.slots_nil;
  own_roots = λ u h. agrees-on w.identities w.identities (object_count ms) q i _ _ (λ some. refl) more (st.roots_agree i m a.there u h);
  cells =
      λ y h u.
      let before = had-meaning c i s step ms y k st (λ z. omega (arith, z.1, few)) h u in
      let d : y ≢ x = used_other y before.0 in
      let stays : Stays c.shape w.identities w.identities w.values values w.fields fields (object_count ms) q y =
      record { identity = refl; value = r.other_values y d; each_field = λ j l. r.other_fields y j d l; targets = λ j l some. refl; more = more } in
      cell-on c.shape w.identities w.identities w.values values w.fields fields ms i m n y a.there stays (λ e o. refl) (λ e o. absurd (no-next c i s step ms y k a room h before.0 e o)) before.1;
  other_making =
      λ j o d g live y part' e.
      r.other_values y (λ z. d (free-apart c i j s o step ReadCount x k (looks c j o k.core g live) free (subst (λ b. free_in o.cache b ≡ true) z (making-is-free c j o ReadCount y part' (looks c j o k.core g live) e))));
  own_seat =
      λ live.
      record {
        got = agrees-on w.identities w.identities (object_count ms) q i s.got m.got (λ some. refl) more mine.got;
        made = inl room;
        making = λ y p e l. let b = making_is s.cache x (part + 1) y p e in ap (λ j. slice_index values j) b.0 ∙ r.stored (omega (arith, b.1, l, few));
        last = subst (λ (o : Option ℕ). IfSome o (λ y. (slice_index w.identities y + 1 ≡ i * section_span + s.made) × (0 < s.made))) (sym (making_last s.cache x (part + 1))) mine.last;
      };
}
  where
    step : Step
    step = StoreNew x part word

    w : Words
    w = words_of c.shape c.words

    m : Meaning
    m = meaning_of ms i

    n : Meaning
    n = record m { value = value }

    q : ℕ → ℕ
    q = object_count (set ms i n)

    more : (j : ℕ) → object_count ms j ≤ q j
    more = counts-grow ms i m n a.there (omega arith)

    mine : SeatStands c.shape w.identities w.values (object_count ms) i s m
    mine = st.seats_agree i s m k.got a.there k.live

    used_other : (y : ℕ) → Used c y ≡ true → y ≢ x
    used_other y u e = true≢false (sym u ∙ ap (Used c) e ∙ free-not-used c i s step x k free)
