-- What agrees with the heap still does if words, records and the heap stay, and the agreement put together after one seat has acted.
use Rattle.std.proofs.Common.{ℕ, ◌≡◌, ◌≢◌, ◌+◌, ◌*◌, ◌<◌, ◌≤◌, zero, suc, List, set, length, arith, refl, sym, ap, ◌∙◌, subst, true, Option, Some, None, ◌⊎◌, inl, inr, ⊎_elim, ◌%◌, Bool, false, cond}
use Rattle.std.specs.Prelude.{IsTrue, IsFalse, IfSome, slice_get, slice_index, nat_lt, is_none, unwrap_or}
use Rattle.std.proofs.lemmas.Bool.{cases_eq, true≢false, false≢true, or_left, ltb-true}
use Rattle.std.proofs.lemmas.List.{length-set}
use Rattle.mark_core.specs.Layout.{Words, words_of}
use Rattle.mark_core.specs.Numbers.{section_span}
use Rattle.mark_core.specs.Seats.{makes, last_made, free_in, used_in, may_mutate}
use Rattle.mark_core.specs.Cells.{field}
use Rattle.mark_core.specs.Steps.{Core}
use Rattle.mark_core.proofs.Blocks.BlocksStopped.{Taken, within, mine as own-fact}
use Rattle.mark_core.proofs.Formed.FormedLearns.{set-here, set-there}
use Rattle.mark_core.proofs.References.ReferencesRoots.{Used, UsedAfter, own-used, seat-formed, mutator-is}
use Rattle.mark_core.proofs.References.ReferencesNow.{the-roots, now-used}
use Rattle.mark_core.specs.Variables.{roots_now}
use Rattle.mark_core.proofs.Used.UsedKept.{used-back}
use Rattle.mark_core.proofs.Used.UsedSeats.{IsMadeBy}
use Rattle.mark_core.specs.declared.kinds.Shape.{Shape}
use Rattle.mark_core.specs.declared.kinds.Step.{Step}
use Rattle.mark_core.specs.declared.kinds.Step.TheVariants.{ReadCount}
use Rattle.mark_core.specs.declared.seat.SeatState.{SeatState}
use Rattle.gc_table.specs.RunWorlds.{World, WorldObject, section_of, variable_of, object_of, name_in, name_at, referred, own_section}
use Rattle.gc_table.specs.Agreement.{HoldsObject, SeatAgrees, Agrees, AgreesWith}
use Rattle.mark_core.specs.Bits.{nil_or}
use Rattle.mark_core.specs.Views.{makers, maker_of}
use Rattle.mark_core.specs.Rules.HeapRules.{NamesInUse}
use Rattle.mark_core.specs.WellFormed.{IsCache}
use Rattle.mark_core.specs.Laws.{IsCore}
use Rattle.mark_core.proofs.HeldBlock.{allocs-length}
use Rattle.mark_core.proofs.Caches.CachesAt.{caching, maker-at}
use Rattle.mark_core.proofs.Caches.CachesSeat.{all-facts, CacheFacts, making-free, free-block}
use Rattle.mark_core.proofs.Caches.CachesClaims.{free-unused, same-seat}
use Rattle.mark_core.proofs.Consequences.Closing.{goes-to}
use Rattle.mark_core.proofs.Known.{all-makers, in_use-below}
use Rattle.mark_core.proofs.References.ReferencesEnv.{section-is}
use Rattle.mark_core.specs.declared.seat.CacheState.{CacheState}

-- What is known of the cells that a seat names and makes, and of a mutator's section.
-- any seat that isn't spent may look at a count
pub looks : (c : Core) (w : ℕ) (s : SeatState) → IsCore c → slice_get c.seats w ≡ Some s → IsFalse s.spent → Taken c w s ReadCount
looks c w s k g live = record { core = k; got = g; live = live; ok = tt }

-- a reference that isn't nil goes where it may
pub names : (p : ℕ → Bool) (r x : ℕ) → r ≡ suc x → nil_or p r ≡ true → p x ≡ true
names p r x e n = goes-to p r x (omega (arith, e)) n

-- the cell in the register is in use
pub got-used : (c : Core) (i : ℕ) (s : SeatState) (step : Step) (x : ℕ) → Taken c i s step → s.got ≡ suc x → Used c x ≡ true
got-used c i s step x k e = names (Used c) s.got x e (own-fact c i s step (NamesInUse (words_of c.shape c.words).allocs (makers c.seats)) k k.core.sound.references.seats_in_use).1

pub last_in : (sh : Shape) (o : Option CacheState) (x : ℕ) → IfSome o (IsCache sh) → last_made o ≡ Some x → used_in o x ≡ true
last_in sh None x k e = absurd (true≢false (ap is_none e))
last_in sh (Some y) x k e = subst (λ (o : Option ℕ). IfSome o (λ d. IsTrue (used_in (Some y) d))) e k.last

-- the cell made last is in use
pub last-used : (c : Core) (i : ℕ) (s : SeatState) (step : Step) (x : ℕ) → Taken c i s step → last_made s.cache ≡ Some x → Used c x ≡ true
last-used c i s step x k e = own-used c i s step x k (last_in c.shape s.cache x (seat-formed c i s step k).cache e)

-- a cell in use exists
pub used-exists : (c : Core) → IsCore c → (x : ℕ) → Used c x ≡ true → x < c.shape.cells
used-exists c k x u = in_use-below c.shape (words_of c.shape c.words).allocs (makers c.seats) x k.formed.shaped (allocs-length c k) (all-makers c.shape c.seats (λ j t g. (k.formed.seats j t g).cache)) u

-- what the seat's cache says of itself
own_facts : (c : Core) (i : ℕ) (s : SeatState) (step : Step) → Taken c i s step → CacheFacts s.cache
own_facts c i s step k = own-fact c i s step (λ (t : SeatState). CacheFacts t.cache) k (all-facts c k.core)

-- the cell being made is free
pub making-is-free : (c : Core) (i : ℕ) (s : SeatState) (step : Step) (x part : ℕ) → Taken c i s step → makes s.cache x part ≡ true → free_in s.cache x ≡ true
making-is-free c i s step x part k e = making-free s.cache x part (own_facts c i s step k).made_from_free e

cached_below : (sh : Shape) (o : Option CacheState) (x : ℕ) → (sh.cells % 64 ≡ 0) → IfSome o (IsCache sh) → free_in o x ≡ true → x < sh.cells
cached_below sh None x z k e = absurd (false≢true e)
cached_below sh (Some y) x z k e = omega (arith, z, k.block, free-block y x e)

pub free-below : (c : Core) (i : ℕ) (s : SeatState) (step : Step) (x : ℕ) → Taken c i s step → free_in s.cache x ≡ true → x < c.shape.cells
free-below c i s step x k e = cached_below c.shape s.cache x k.core.formed.shaped.whole_blocks (seat-formed c i s step k).cache e

-- a free cell isn't in use
pub free-not-used : (c : Core) (i : ℕ) (s : SeatState) (step : Step) (x : ℕ) → Taken c i s step → free_in s.cache x ≡ true → Used c x ≡ false
free-not-used c i s step x k e =
    let r = caching c k.core in
    free-unused c.shape (words_of c.shape c.words).owners (words_of c.shape c.words).allocs (makers c.seats) i x (maker_of s) r.shaped r.caches.owned r.caches.unpublished (own_facts c i s step k) (maker-at c.seats i s k.got)
    (free-below c i s step x k e) e

-- two seats in whose caches one cell is free are one seat
pub free-apart : (c : Core) (i j : ℕ) (s t : SeatState) (a b : Step) (x : ℕ) → Taken c i s a → Taken c j t b → free_in s.cache x ≡ true → free_in t.cache x ≡ true → j ≡ i
free-apart c i j s t a b x k l e f =
    let r = caching c k.core in
    same-seat c.shape (words_of c.shape c.words).owners (makers c.seats) i j x (maker_of s) (maker_of t) r.shaped r.caches.owned (maker-at c.seats i s k.got) (maker-at c.seats j t l.got) (free-below c i s a x k e) (or_left (free_in s.cache x) (used_in s.cache x) e)
    (or_left (free_in t.cache x) (used_in t.cache x) f)

-- a cell in use isn't being made
pub not-making : (c : Core) (i : ℕ) (s : SeatState) (step : Step) (x y part : ℕ) → Taken c i s step → Used c y ≡ true → makes s.cache x part ≡ true → x ≡ y → ⊥
not-making c i s step x y part k u e same = true≢false (sym u ∙ ap (Used c) (sym same) ∙ free-not-used c i s step x k (making-is-free c i s step x part k e))

-- a root that isn't nil names a cell in use
pub root-used : (c : Core) (k x : ℕ) → IsCore c → slice_index (the-roots c) k ≡ suc x → Used c x ≡ true
root-used c k x core e = names (Used c) (slice_index (the-roots c) k) x e (now-used c k core)

-- a mutator and its section
pub record Mutates (c : Core) (i : ℕ) (s : SeatState) : Type 0 where
  pub active : s.active ≡ true
  pub section : s.section ≡ Some i
  pub own : own_section s ≡ i
  pub inside : i < c.shape.sections

pub inside_by : (b : Bool) (i w : ℕ) (o : Option ℕ) → o ≡ cond b (Some i) None → o ≡ Some w → b ≡ true
inside_by true i w o e f = refl
inside_by false i w o e f = absurd (true≢false (ap is_none (sym e ∙ f)))

pub mutates : (c : Core) (i : ℕ) (s : SeatState) (step : Step) → Taken c i s step → may_mutate s ≡ true → Mutates c i s
mutates c i s step k e =
    let a = mutator-is s e in
    let formed = (seat-formed c i s step k).section in
    let at : a.1.0 ≡ i = section-is c.shape.sections i a.1.0 s.section formed a.1.1 in
    record {
      active = a.0;
      section = a.1.1 ∙ ap (λ j. Some j) at;
      own = ap (λ o. unwrap_or o 0) a.1.1 ∙ at;
      inside = ltb-true i c.shape.sections (inside_by (nat_lt i c.shape.sections) i a.1.0 s.section formed a.1.1);
    }

-- a word refers to the same object, if the cell that it names keeps its identity
pub referred-on : (ids ids' : List ℕ) (word : ℕ) → ((c : ℕ) → word ≡ suc c → slice_index ids' c ≡ slice_index ids c) → referred ids' word ≡ referred ids word
referred-on ids ids' zero same = refl
referred-on ids ids' (suc c) same = ap (λ (n : ℕ). Some (name_in n)) (same c refl)

-- what is known of the cell made last, by its identity
abbrev pub IsLast : List ℕ → ℕ → ℕ → Option ℕ → Type 0
IsLast ids w made o = IfSome o (λ c. (slice_index ids c + 1 ≡ w * section_span + made) × (0 < made))

pub last-on : (ids ids' : List ℕ) (w made : ℕ) (o : Option ℕ) → ((c : ℕ) → o ≡ Some c → slice_index ids' c ≡ slice_index ids c) → IsLast ids w made o → IsLast ids' w made o
last-on ids ids' w made None same h = tt
last-on ids ids' w made (Some c) same h = (ap (λ (n : ℕ). n + 1) (same c refl) ∙ h.0, h.1)

-- what stays of cell c: its words, what its fields refer to, and its object
pub record Stays (sh : Shape) (ids ids' values values' fields fields' : List ℕ) (world after : World) (c : ℕ) : Type 0 where
  pub identity : slice_index ids' c ≡ slice_index ids c
  pub value : slice_index values' c ≡ slice_index values c
  pub each_field : (i : ℕ) → i < sh.fields → field sh fields' c i ≡ field sh fields c i
  pub targets : (i : ℕ) → i < sh.fields → (d : ℕ) → field sh fields c i ≡ suc d → slice_index ids' d ≡ slice_index ids d
  pub object : (o : WorldObject) → object_of world (name_at ids c) ≡ Some o → object_of after (name_at ids c) ≡ Some o

pub holds-on : (sh : Shape) (ids ids' values values' fields fields' : List ℕ) (world after : World) (c : ℕ) → Stays sh ids ids' values values' fields fields' world after c → HoldsObject sh ids values fields world c → HoldsObject sh ids' values' fields' after c
holds-on sh ids ids' values values' fields fields' world after c k h =
    record {
      object = h.object;
      there = ap (λ (n : ℕ). object_of after (name_in n)) k.identity ∙ k.object h.object h.there;
      room = h.room;
      value = k.value ∙ h.value;
      each_field = λ i l. ap (referred ids') (k.each_field i l) ∙ referred-on ids ids' (field sh fields c i) (k.targets i l) ∙ h.each_field i l;
    }

-- a step that leaves roots, identities, values and fields of cells in use, and the heap
pub agrees-same : (sh : Shape) (roots ids values fields : List ℕ) (used used' : ℕ → Type 0) (seats seats' : List SeatState) (world : World) → ((c : ℕ) → c < sh.cells → used' c → used c)
    → ((w : ℕ) (s : SeatState) → slice_get seats' w ≡ Some s → w < sh.sections → IsFalse s.spent → SeatAgrees sh ids values world w s) → length seats ≤ length seats' → Agrees sh roots ids values fields used seats world
    → Agrees sh roots ids values fields used' seats' world
agrees-same sh roots ids values fields used used' seats seats' world fewer each longer k =
    record {
      sections = k.sections;
      variables = k.variables;
      roots_agree = k.roots_agree;
      slots_agree = k.slots_agree;
      cells_agree = λ c h u. k.cells_agree c h (fewer c h u);
      seats_agree = each;
      unseated = λ w l h. k.unseated w (omega (arith, l, longer)) h;
    }

-- the words become x, the record of the seat t, and the heap `after`
pub record Moves (c : Core) (i : ℕ) (s : SeatState) (step : Step) (x : Words) (t : SeatState) (world after : World) : Type 0 where
  pub sections : length after ≡ length world
  pub variables : (w : ℕ) → w < c.shape.sections → length (section_of after w).variables ≡ length (section_of world w).variables
  pub identities_kept : (y : ℕ) → Used c y ≡ true → slice_index x.identities y ≡ slice_index (words_of c.shape c.words).identities y
  -- the roots as the seats have them
  pub now_roots : List ℕ
  pub now : roots_now x.roots (set c.seats i t) ≡ now_roots
  pub roots : (w v : ℕ) → w < c.shape.sections → v < 32 → referred x.identities (slice_index now_roots (w * 32 + v)) ≡ variable_of after w v
  pub slots : (w k : ℕ) → w < c.shape.sections → k < c.shape.slots → referred x.identities (slice_index now_roots (c.shape.sections * 32 + (w * c.shape.slots + k))) ≡ variable_of after w (32 + k)
  pub cells : (y : ℕ) → y < c.shape.cells → UsedAfter c i s step y ≡ true → HoldsObject c.shape x.identities x.values x.fields after y
  pub other_register : (w : ℕ) → w ≢ i → (section_of after w).register ≡ (section_of world w).register
  pub other_made : (w : ℕ) → w ≢ i → length (section_of after w).objects ≡ length (section_of world w).objects
  pub other_coming : (w : ℕ) → w ≢ i → (section_of after w).coming ≡ (section_of world w).coming
  pub other_making : (w : ℕ) (o : SeatState) → w ≢ i → slice_get c.seats w ≡ Some o → IsFalse o.spent → (y part : ℕ) → makes o.cache y part ≡ true → slice_index x.values y ≡ slice_index (words_of c.shape c.words).values y
  pub own_seat : i < c.shape.sections → IsFalse t.spent → SeatAgrees c.shape x.identities x.values after i t

pub moved : (c : Core) (i : ℕ) (s : SeatState) (step : Step) (x : Words) (t : SeatState) (world after : World) → Taken c i s step → AgreesWith c world → Moves c i s step x t world after
    → Agrees c.shape (roots_now x.roots (set c.seats i t)) x.identities x.values x.fields (λ y. IsTrue (UsedAfter c i s step y)) (set c.seats i t) after
moved c i s step x t world after k a m = subst (λ (rs : List ℕ). Agrees c.shape rs x.identities x.values x.fields (λ y. IsTrue (UsedAfter c i s step y)) (set c.seats i t) after) (sym m.now) (record {
  sections = m.sections ∙ a.sections;
  variables = λ w h. m.variables w h ∙ a.variables w h;
  roots_agree = m.roots;
  slots_agree = m.slots;
  cells_agree = m.cells;
  seats_agree = λ w o g h live. seated w o g h live (cases_eq w i);
  unseated =
      λ w l h.
      let far : w ≢ i = λ e. omega (arith, e, l, length-set c.seats i t, within c i s step k) in
      let before = a.unseated w (omega (arith, l, length-set c.seats i t)) h in
      (m.other_register w far ∙ before.0, m.other_made w far ∙ before.1);
})
  where
    ids : List ℕ
    ids = (words_of c.shape c.words).identities

    seated : (w : ℕ) (o : SeatState) → slice_get (set c.seats i t) w ≡ Some o → w < c.shape.sections → IsFalse o.spent → (w ≡ i) ⊎ (w ≢ i) → SeatAgrees c.shape x.identities x.values after w o
    seated w o g h live (inl e) =
        let record_is : t ≡ o = set-here c.seats i t o (subst (λ (j : ℕ). slice_get (set c.seats i t) j ≡ Some o) e g) in
        subst (λ (j : ℕ). SeatAgrees c.shape x.identities x.values after j o) (sym e)
        (subst (λ (y : SeatState). IsFalse y.spent → SeatAgrees c.shape x.identities x.values after i y) record_is (m.own_seat (subst (λ (j : ℕ). j < c.shape.sections) e h)) live)
    seated w o g h live (inr d) =
        let before : slice_get c.seats w ≡ Some o = set-there c.seats i w t o d g in
        let had : SeatAgrees c.shape ids (words_of c.shape c.words).values world w o = a.seats_agree w o before h live in
        record {
          register = referred-on ids x.identities o.got (λ y e. m.identities_kept y (got-used c w o ReadCount y (looks c w o k.core before live) e)) ∙ had.register ∙ sym (m.other_register w d);
          made = m.other_made w d ∙ had.made;
          making = λ y part e l. m.other_making w o d before live y part e ∙ had.making y part e l ∙ sym (m.other_coming w d);
          last = last-on ids x.identities w o.made (last_made o.cache) (λ y e. m.identities_kept y (last-used c w o ReadCount y (looks c w o k.core before live) e)) had.last;
        }

-- a cell in use after a step that makes none was in use before, and had its object
pub had-object : (c : Core) (i : ℕ) (s : SeatState) (step : Step) (world : World) (y : ℕ) → Taken c i s step → AgreesWith c world → (IsMadeBy c.shape step y → ⊥) → y < c.shape.cells → UsedAfter c i s step y ≡ true
    → (Used c y ≡ true) × HoldsObject c.shape (words_of c.shape c.words).identities (words_of c.shape c.words).values (words_of c.shape c.words).fields world y
had-object c i s step world y k a none h u =
    let before : Used c y ≡ true = ⊎_elim (λ (e : Used c y ≡ true). e) (λ (e : IsMadeBy c.shape step y). absurd (none e)) (used-back c i s step y k u) in
    (before, a.cells_agree y h before)
