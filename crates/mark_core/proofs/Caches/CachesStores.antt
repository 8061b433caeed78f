-- The rule of caches after a part of a new cell was stored.
use Rattle.std.proofs.Common.{ℕ, ◌≡◌, ◌+◌, ◌*◌, ◌/◌, ◌%◌, ◌<◌, List, set, length, arith, refl, sym, ap, ◌∙◌, Bool, true, false, Some, ◌⊎◌, ⊎_elim, ◌≢◌, ◌^◌, get_or, subst, ◌||◌, Option, None, eqb, inl, inr}
use Rattle.std.specs.Prelude.{slice_get, slice_index}
use Rattle.std.proofs.lemmas.Bool.{eq-eqb, true≢false, and_parts, and_from, or_cases, or_left, or_right, cases_eq, eqb-true, false≢true}
use Rattle.std.proofs.lemmas.List.{length-set, get_or-set_same, get_or-set_other}
use Rattle.std.proofs.lemmas.Option.{slice_get_within}
use Rattle.mark_core.specs.Seats.{is_the, free_in, used_in}
use Rattle.mark_core.specs.Views.{Maker}
use Rattle.mark_core.specs.Rules.HeapRules.{section_of_cell, number_of_cell, Caches, CachesUnpublished, MakesNil, UsedOwn}
use Rattle.mark_core.proofs.Formed.FormedLearns.{one-of, all-but}
use Rattle.mark_core.proofs.Caches.CachesSteps.{Given, Names, use-set, use-published, use-mine, use-made, Caching, with_cache, names-of, caches-set, cache-set, making-next, making_block, made_block, made_makes}
use Rattle.mark_core.specs.declared.kinds.Shape.{Shape}
use Rattle.mark_core.specs.Numbers.{section_span}
use Rattle.std.specs.List.{All}
use Rattle.mark_core.specs.Bits.{has_bit, with_bit, without_bit, complement}
use Rattle.mark_core.specs.Cells.{in_use, field}
use Rattle.mark_core.specs.Steps.MutatorSteps.{with_making, with_made}
use Rattle.mark_core.proofs.Caches.CachesSeat.{is_next, next-free, next-makes, free-block, CacheFacts}
use Rattle.mark_core.proofs.Caches.CachesClaims.{free-unused, owns-same}
use Rattle.mark_core.proofs.Writing.CellBits.{with_other, bit-first}
use Rattle.mark_core.proofs.Used.UsedSeats.{making-used}
use Rattle.mark_core.specs.declared.seat.CacheState.{CacheState}

-- The identities of the cells in use, once a new cell has got its own.
-- seat i gives cell c, which wasn't in use, the next number of its section
pub record Naming (sh : Shape) (ids : List ℕ) (used used' : ℕ → Bool) (ms : List Maker) (i c word : ℕ) (m n : Maker) : Type 0 where
  pub seat : slice_get ms i ≡ Some m
  pub live : m.spent ≡ false
  pub stored : c < length ids
  pub unused : used c ≡ false
  pub section : m.section ≡ Some i
  pub others : (j : ℕ) (x : Maker) (z : ℕ) → slice_get ms j ≡ Some x → is_the x.section z ≡ true → z ≡ j
  pub identity : word ≡ i * section_span + m.made
  pub room : m.made < section_span
  pub same_section : n.section ≡ m.section
  pub counts : n.made ≡ m.made + 1
  pub fewer : (d : ℕ) → d < sh.cells → used' d ≡ true → (d ≡ c) ⊎ (used d ≡ true)

section_made : (i made : ℕ) → made < section_span → (i * section_span + made) / section_span ≡ i
section_made i made h = omega (arith, h)

number_made : (i made : ℕ) → made < section_span → (i * section_span + made) % section_span ≡ made
number_made i made h = omega (arith, h)

-- the identity of the new cell, and of another
new_word : (sh : Shape) (ids : List ℕ) (used used' : ℕ → Bool) (ms : List Maker) (i c word : ℕ) (m n : Maker) → Naming sh ids used used' ms i c word m n → slice_index (set ids c word) c ≡ i * section_span + m.made
new_word sh ids used used' ms i c word m n k = get_or-set_same ids c word 0 k.stored ∙ k.identity

pub other-word : (ids : List ℕ) (c word d : ℕ) (used : ℕ → Bool) → used c ≡ false → used d ≡ true → slice_index (set ids c word) d ≡ slice_index ids d
other-word ids c word d used f e = get_or-set_other ids c d word 0 (λ s. true≢false (sym e ∙ ap used s ∙ f))

-- the section of the new cell
pub new-section : (sh : Shape) (ids : List ℕ) (used used' : ℕ → Bool) (ms : List Maker) (i c word : ℕ) (m n : Maker) → Naming sh ids used used' ms i c word m n → section_of_cell (set ids c word) c ≡ i
new-section sh ids used used' ms i c word m n k = ap (λ x. x / section_span) (new_word sh ids used used' ms i c word m n k) ∙ section_made i m.made k.room

-- no cell in use has the new identity
unique : (sh : Shape) (ids : List ℕ) (used used' : ℕ → Bool) (ms : List Maker) (i c word d : ℕ) (m n : Maker) → Naming sh ids used used' ms i c word m n → Names sh ids used ms → d < sh.cells → used d ≡ true → slice_index ids d ≡ i * section_span + m.made → ⊥
unique sh ids used used' ms i c word d m n k names hd u e =
    let section : section_of_cell ids d ≡ i = ap (λ x. x / section_span) e ∙ section_made i m.made k.room in
    let number : number_of_cell ids d ≡ m.made = ap (λ x. x % section_span) e ∙ number_made i m.made k.room in
    let given : Given sh ids used m = one-of (Given sh ids used) ms i m k.seat names.numbers_below in
    let own : is_the m.section (section_of_cell ids d) ≡ true = rw (k.section, section) (eq-eqb i i refl) in
    omega (arith, number, given k.live d hd u own)

pub names-new : (sh : Shape) (ids : List ℕ) (used used' : ℕ → Bool) (ms : List Maker) (i c word : ℕ) (m n : Maker) → Naming sh ids used used' ms i c word m n → Names sh ids used ms → Names sh (set ids c word) used' (set ms i n)
names-new sh ids used used' ms i c word m n k names =
    let ids' : List ℕ = set ids c word in
    let fresh : slice_index ids' c ≡ i * section_span + m.made = new_word sh ids used used' ms i c word m n k in
    let keep = λ (d : ℕ) (u : used d ≡ true). other-word ids c word d used k.unused u in
    let never = λ (d : ℕ) (h : d < sh.cells) (u : used d ≡ true) (e : slice_index ids d ≡ i * section_span + m.made). unique sh ids used used' ms i c word d m n k names h u e in
    let section : section_of_cell ids' c ≡ i = new-section sh ids used used' ms i c word m n k in
    let number : number_of_cell ids' c ≡ m.made = ap (λ x. x % section_span) fresh ∙ number_made i m.made k.room in
    record {
      distinct =
          λ a ha b hb u v e.
          ⊎_elim
          (λ (p : a ≡ c).
          ⊎_elim
          (λ (q : b ≡ c). p ∙ sym q)
          (λ (q : used b ≡ true). absurd (never b hb q (sym (keep b q) ∙ sym e ∙ ap (λ x. slice_index ids' x) p ∙ fresh)))
          (k.fewer b hb v))
          (λ (p : used a ≡ true).
          ⊎_elim
          (λ (q : b ≡ c). absurd (never a ha p (sym (keep a p) ∙ e ∙ ap (λ x. slice_index ids' x) q ∙ fresh)))
          (λ (q : used b ≡ true). names.distinct a ha b hb p q (sym (keep a p) ∙ e ∙ keep b q))
          (k.fewer b hb v))
          (k.fewer a ha u);
      numbers_below =
          all-but (Given sh ids' used') ms i n
          (λ live d hd u s.
          ⊎_elim
          (λ (p : d ≡ c). omega (arith, ap (number_of_cell ids') p, number, k.counts))
          (λ (p : used d ≡ true).
          let own : is_the m.section (section_of_cell ids d) ≡ true = sym (ap (λ x. is_the m.section (x / section_span)) (keep d p)) ∙ sym (ap (λ o. is_the o (section_of_cell ids' d)) k.same_section) ∙ s in
          omega (arith, ap (λ x. x % section_span) (keep d p), k.counts, one-of (Given sh ids used) ms i m k.seat names.numbers_below k.live d hd p own))
          (k.fewer d hd u))
          (λ j x ne g live d hd u s.
          ⊎_elim
          (λ (p : d ≡ c). absurd (ne (sym (k.others j x (section_of_cell ids' d) g s) ∙ ap (section_of_cell ids') p ∙ section)))
          (λ (p : used d ≡ true).
          let own : is_the x.section (section_of_cell ids d) ≡ true = sym (ap (λ y. is_the x.section (y / section_span)) (keep d p)) ∙ s in
          omega (arith, ap (λ y. y % section_span) (keep d p), one-of (Given sh ids used) ms j x g names.numbers_below live d hd p own))
          (k.fewer d hd u));
      sections_seated =
          λ d hd u l.
          ⊎_elim
          (λ (p : d ≡ c). rw length-set (omega (arith, ap (section_of_cell ids') p, section, slice_get_within ms i m k.seat)))
          (λ (p : used d ≡ true).
          let same : section_of_cell ids' d ≡ section_of_cell ids d = ap (λ y. y / section_span) (keep d p) in
          rw length-set (omega (arith, same, names.sections_seated d hd p (omega (arith, l, same)))))
          (k.fewer d hd u);
    }

-- seat i may store this part of cell c next
pub record Storing (sh : Shape) (owners allocs ids fields : List ℕ) (ms : List Maker) (i c part : ℕ) (m : Maker) : Type 0 where
  pub rule : Caching sh owners allocs ids fields ms
  pub seat : slice_get ms i ≡ Some m
  pub cell : c < sh.cells
  pub next : is_next m.cache c part ≡ true

-- the fields before this part are nil
before : (sh : Shape) (owners allocs ids fields : List ℕ) (ms : List Maker) (i c part : ℕ) (m : Maker) → Storing sh owners allocs ids fields ms i c part m → (j : ℕ) → j < part → j < sh.fields → field sh fields c j ≡ 0
before sh owners allocs ids fields ms i c part m k j l f =
    let nil : MakesNil sh fields m = one-of (MakesNil sh fields) ms i m k.seat k.rule.caches.making_nil in
    nil c part j (next-makes m.cache c part (λ z. omega (arith, z, l)) k.next) l f

same_cells : (o : Option CacheState) (d part c : ℕ) → (free_in (with_making o d part) c || used_in (with_making o d part) c) ≡ (free_in o c || used_in o c)
same_cells None d part c = refl
same_cells (Some x) d part c = refl

-- a part that isn't the last: a field, which becomes nil, or the value
pub part-kept : (sh : Shape) (owners allocs ids fields fields' : List ℕ) (ms : List Maker) (i c part : ℕ) (m : Maker) → Storing sh owners allocs ids fields ms i c part m → ((x : Maker) → MakesNil sh fields x → MakesNil sh fields' x) → ((j : ℕ) → field sh fields c j ≡ 0 → field sh fields' c j ≡ 0)
    → (part < sh.fields → field sh fields' c part ≡ 0) → Caches sh owners allocs ids fields' (set ms i (with_cache m (with_making m.cache c (part + 1))))
part-kept sh owners allocs ids fields fields' ms i c part m k stays nil now =
    let o : Option CacheState = with_making m.cache c (part + 1) in
    let mine : CachesUnpublished sh allocs m = one-of (CachesUnpublished sh allocs) ms i m k.seat k.rule.caches.unpublished in
    let a : Caches sh owners allocs ids fields ms = k.rule.caches in
    let now_nil : All (MakesNil sh fields') ms = λ j d h. stays (get_or ms j d) (a.making_nil j d h) in
    let after : Caching sh owners allocs ids fields' ms =
    record {
      shaped = k.rule.shaped;
      owners_long = k.rule.owners_long;
      allocs_long = k.rule.allocs_long;
      ids_long = k.rule.ids_long;
      caches =
          record { owned = a.owned; owners_exist = a.owners_exist; unpublished = a.unpublished; making_nil = now_nil; used_own = a.used_own; distinct = a.distinct; numbers_below = a.numbers_below; sections_seated = a.sections_seated };
      facts = k.rule.facts;
      ranges = k.rule.ranges;
      sections = k.rule.sections;
    } in
    cache-set sh owners owners allocs ids fields' ms i m o after k.seat (owns-same sh owners ms i m (with_cache m o) k.seat (making_block m.cache c (part + 1)) a.owned) a.owners_exist
    (λ x h e. mine x h (sym (same_cells m.cache c (part + 1) x) ∙ e))
    (λ x q j e l f. making-next sh fields' m.cache c part x q j (λ p u v. nil p (before sh owners allocs ids fields ms i c part m k p u v)) now e l f)
    (λ x e. sym (making-used m.cache c (part + 1) x) ∙ e)

same_cell : (b c d : ℕ) → b ≡ d / 64 → b ≡ c / 64 → c % 64 ≡ d % 64 → c ≡ d
same_cell b c d e f g = omega (arith, e, f, g)

-- the used cells are those before and the cell that was made
made_used : (o : Option CacheState) (d c : ℕ) → free_in o d ≡ true → used_in (with_made o d) c ≡ true → (c ≡ d) ⊎ (used_in o c ≡ true)
made_used None d c f e = absurd (false≢true e)
made_used (Some x) d c f e =
    let a = and_parts (eqb x.block (c / 64)) (has_bit (with_bit x.used (d % 64)) (c % 64)) e in
    ⊎_elim
    (λ (s : c % 64 ≡ d % 64). inl (same_cell x.block c d (free-block x d f) (eqb-true _ _ a.0) s))
    (λ (n : c % 64 ≢ d % 64). inr (and_from _ _ a.0 (sym (with_other x.used (d % 64) (c % 64) n) ∙ a.1)))
    (cases_eq (c % 64) (d % 64))

-- no cell became free by the making of one
made_free : (o : Option CacheState) (d c : ℕ) → free_in (with_made o d) c ≡ true → free_in o c ≡ true
made_free None d c e = e
made_free (Some x) d c e =
    let a = and_parts (eqb x.block (c / 64)) (has_bit (without_bit x.free (d % 64)) (c % 64)) e in and_from _ _ a.0 (bit-first x.free (complement (2 ^ (d % 64))) (c % 64) a.1)

made_cells : (o : Option CacheState) (d c : ℕ) → free_in o d ≡ true → (free_in (with_made o d) c || used_in (with_made o d) c) ≡ true → (free_in o c || used_in o c) ≡ true
made_cells o d c f e =
    ⊎_elim
    (λ (a : free_in (with_made o d) c ≡ true). or_left (free_in o c) (used_in o c) (made_free o d c a))
    (λ (a : used_in (with_made o d) c ≡ true).
    ⊎_elim
    (λ (s : c ≡ d). or_left (free_in o c) (used_in o c) (subst (λ z. free_in o z ≡ true) (sym s) f))
    (λ (u : used_in o c ≡ true). or_right (free_in o c) (used_in o c) u)
    (made_used o d c f a))
    (or_cases (free_in (with_made o d) c) (used_in (with_made o d) c) e)

-- the seat with the cell that it made
abbrev pub maker_made : Maker → ℕ → Maker
maker_made m c = record m { cache = with_made m.cache c; made = m.made + 1 }

-- the last part: the identity
pub made-kept : (sh : Shape) (owners allocs ids fields : List ℕ) (ms : List Maker) (i c part word : ℕ) (m : Maker) → Storing sh owners allocs ids fields ms i c part m → m.spent ≡ false → m.section ≡ Some i → word ≡ i * section_span + m.made → m.made < section_span
    → ((j : ℕ) (x : Maker) (z : ℕ) → slice_get ms j ≡ Some x → is_the x.section z ≡ true → z ≡ j) → Caches sh owners allocs (set ids c word) fields (set ms i (maker_made m c))
made-kept sh owners allocs ids fields ms i c part word m k live section identity room others =
    let n : Maker = maker_made m c in
    let a : Caches sh owners allocs ids fields ms = k.rule.caches in
    let facts : CacheFacts m.cache = one-of (λ (x : Maker). CacheFacts x.cache) ms i m k.seat k.rule.facts in
    let free : free_in m.cache c ≡ true = next-free m.cache c part facts.made_from_free k.next in
    let mine : CachesUnpublished sh allocs m = one-of (CachesUnpublished sh allocs) ms i m k.seat a.unpublished in
    let names : Names sh ids (in_use allocs ms) ms = names-of sh owners allocs ids fields ms a in
    let naming : Naming sh ids (in_use allocs ms) (in_use allocs (set ms i n)) ms i c word m n =
    record {
      seat = k.seat;
      live = live;
      stored = omega (arith, k.cell, k.rule.ids_long);
      unused = free-unused sh owners allocs ms i c m k.rule.shaped a.owned a.unpublished facts k.seat k.cell free;
      section = section;
      others = others;
      identity = identity;
      room = room;
      same_section = refl;
      counts = refl;
      fewer =
          λ d h u.
          use-set ((d ≡ c) ⊎ (in_use allocs ms d ≡ true)) allocs ms i d n (λ b. inr (use-published allocs ms d b))
          (λ b. ⊎_elim (λ (s : d ≡ c). inl s) (λ (v : used_in m.cache d ≡ true). inr (use-mine allocs ms i d m k.seat v)) (made_used m.cache c d free b))
          (λ b. inr (use-made allocs ms d b))
          u;
    } in
    caches-set sh owners allocs (set ids c word) fields ms i n (owns-same sh owners ms i m n k.seat (made_block m.cache c) a.owned) a.owners_exist
    (λ x h e. mine x h (made_cells m.cache c x free e))
    (λ j x d e. one-of (CachesUnpublished sh allocs) ms j x e a.unpublished)
    (λ x q j e l f. absurd (false≢true (sym (made_makes m.cache c x q) ∙ e)))
    (λ j x d e. one-of (MakesNil sh fields) ms j x e a.making_nil)
    (λ d h e.
    ⊎_elim
    (λ (s : d ≡ c). rw (section, ap (section_of_cell (set ids c word)) s, new-section sh ids (in_use allocs ms) (in_use allocs (set ms i n)) ms i c word m n naming) (eq-eqb i i refl))
    (λ (u : used_in m.cache d ≡ true).
    subst (λ (y : ℕ). is_the m.section (y / section_span) ≡ true) (sym (other-word ids c word d (in_use allocs ms) naming.unused (use-mine allocs ms i d m k.seat u)))
    (one-of (UsedOwn sh ids) ms i m k.seat a.used_own d h u))
    (made_used m.cache c d free e))
    (λ j x ne g d h u.
    subst (λ (y : ℕ). is_the x.section (y / section_span) ≡ true) (sym (other-word ids c word d (in_use allocs ms) naming.unused (use-mine allocs ms j d x g u)))
    (one-of (UsedOwn sh ids) ms j x g a.used_own d h u))
    (names-new sh ids (in_use allocs ms) (in_use allocs (set ms i n)) ms i c word m n naming names)
