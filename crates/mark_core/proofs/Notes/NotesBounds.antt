-- The counters of a cycle don't fall while a seat helps or knows that the world is stopped, unless this seat resets them.
use Rattle.std.proofs.Common.{ℕ, ◌≡◌, ◌+◌, ◌%◌, ◌≤◌, List, arith, refl, sym, ap, ◌∙◌, subst, Bool, true, false, ◌&&◌, ◌||◌, cond, eqb, Some, ⊎_elim}
use Rattle.std.specs.Prelude.{slice_get, nat_le, IsTrue, IsFalse, ◌==◌, None}
use Rattle.std.proofs.lemmas.Bool.{cases_Bool, and_parts, or_cases, eqb-true, eqb-false, leb-true, ne_eqb, true≢false, false≢true}
use Rattle.mark_core.specs.Layout.{Words, words_of, put_word}
use Rattle.mark_core.specs.Places.{the_next_card, the_next_block, counter_at}
use Rattle.mark_core.specs.Notes.{word_at, same_place, keeps_bound, resets}
use Rattle.mark_core.specs.Effects.{written}
use Rattle.mark_core.specs.Steps.{Core, failing_part, after_event}
use Rattle.mark_core.specs.Laws.{IsCore}
use Rattle.mark_core.proofs.Known.{Acted, found, words_left, acts}
use Rattle.mark_core.proofs.Writing.Writes.{next_card-kept, next_block-kept}
use Rattle.mark_core.proofs.Blocks.BlocksStopped.{Taken, words-read}
use Rattle.mark_core.proofs.Blocks.BlocksWords.{statistic}
use Rattle.mark_core.proofs.Notes.NotesBeside.{Beside, sits, beside}
use Rattle.mark_core.proofs.Notes.NotesKept.{single-word, pairs}
use Rattle.mark_core.specs.declared.kinds.Event.{Event}
use Rattle.mark_core.specs.declared.kinds.Step.{Step}
use Rattle.mark_core.specs.declared.kinds.Step.TheVariants.{NextBlock, NextOfCards, Reset, AddStat, ReadStat}
use Rattle.mark_core.specs.declared.seat.SeatState.{SeatState}
use Rattle.mark_core.specs.Numbers.{done_count, last_count, free_count}

-- the counters after a step are no less
abbrev CardsGrow : Core → SeatState → Step → Type 0
CardsGrow c s step = (words_of c.shape c.words).next_card ≤ (words_left c s step).next_card

abbrev BlocksGrow : Core → SeatState → Step → Type 0
BlocksGrow c s step = (words_of c.shape c.words).next_block ≤ (words_left c s step).next_block

-- a word elsewhere is written
elsewhere : (a b : Bool) (v x : ℕ) → (a && b) ≡ false → x ≤ cond a (cond b v x) x
elsewhere true true v x e = absurd (true≢false e)
elsewhere true false v x e = omega arith
elsewhere false b v x e = omega arith

-- a statistic is neither counter
no_counter : (w : Words) (which v : ℕ) → last_count ≤ which → which ≤ done_count → (w.next_card ≤ (put_word (counter_at which) v w).next_card) × (w.next_block ≤ (put_word (counter_at which) v w).next_block)
no_counter w which v h g =
    let none = λ (k : ℕ) (l : k ≤ 5). ne_eqb (4 + which) k (λ e. omega (arith, h, l, e)) in
    statistic (λ at. (w.next_card ≤ (put_word at v w).next_card) × (w.next_block ≤ (put_word at v w).next_block)) which h g (rw (none 3 (omega arith)) (omega arith), rw (none 4 (omega arith)) (omega arith))

stat_grows : (c : Core) (i : ℕ) (s : SeatState) (which by : ℕ) (down : Bool) → Taken c i s (AddStat which by down) → CardsGrow c s (AddStat which by down) × BlocksGrow c s (AddStat which by down)
stat_grows c i s which by down t =
    let range = and_parts (nat_le last_count which) (nat_le which done_count) (and_parts _ _ t.ok.0).0 in
    no_counter (words_of c.shape c.words) which (written c.shape s (AddStat which by down) (found c s (AddStat which by down))) (leb-true last_count which range.0) (leb-true which done_count range.1)

cards_grow : (c : Core) (i : ℕ) (s : SeatState) (step : Step) → Taken c i s step → resets step the_next_card ≡ false → CardsGrow c s step
cards_grow c i s NextOfCards t e =
    let n : ℕ = (words_of c.shape c.words).next_card in
    let room : (n + 1) % 18446744073709551616 ≡ n + 1 = omega (arith, t.core.sound.sweeping.cards_bounded, t.core.formed.shaped.cells) in
    omega (arith, room)
cards_grow c i s (Reset which) t e = let at : ℕ × ℕ = counter_at which in elsewhere (eqb at.0 0) (eqb at.1 3) 0 (words_of c.shape c.words).next_card e
cards_grow c i s (AddStat which by down) t e = (stat_grows c i s which by down t).0
cards_grow c i s (ReadStat which) t e = omega (arith, ap (λ (v : Words). v.next_card) (words-read c i s (ReadStat which) t refl))
cards_grow c i s step t e = omega (arith, next_card-kept c.shape s step (written c.shape s step (found c s step)) (words_of c.shape c.words) refl)

blocks_grow : (c : Core) (i : ℕ) (s : SeatState) (step : Step) → Taken c i s step → resets step the_next_block ≡ false → BlocksGrow c s step
blocks_grow c i s NextBlock t e =
    let n : ℕ = (words_of c.shape c.words).next_block in
    let m : ℕ = n + c.shape.stretch in
    let room : m % 18446744073709551616 ≡ m = omega (arith, t.core.sound.sweeping.blocks_bounded, t.core.formed.shaped.cells, t.core.formed.shaped.stretch) in
    omega (arith, room)
blocks_grow c i s (Reset which) t e = let at : ℕ × ℕ = counter_at which in elsewhere (eqb at.0 0) (eqb at.1 4) 0 (words_of c.shape c.words).next_block e
blocks_grow c i s (AddStat which by down) t e = (stat_grows c i s which by down t).1
blocks_grow c i s (ReadStat which) t e = omega (arith, ap (λ (v : Words). v.next_block) (words-read c i s (ReadStat which) t refl))
blocks_grow c i s step t e = omega (arith, next_block-kept c.shape s step (written c.shape s step (found c s step)) (words_of c.shape c.words) refl)

part_of : (a k d : Bool) → (d || k) ≡ true → (a || k || d) ≡ true
part_of true k d e = refl
part_of false true d e = refl
part_of false false true e = refl
part_of false false false e = absurd (false≢true e)

-- another seat doesn't reset a counter while this one helps or knows
none_resets : (s t : SeatState) (c : Core) (i : ℕ) (step : Step) (at : ℕ × ℕ) → Taken c i s step → Beside s t → (t.admitted || t.knows) ≡ true → resets step at ≡ false
none_resets s t c i (Reset which) at k b e =
    let alone = (and_parts (nat_le which free_count) s.alone (and_parts _ _ k.ok.0).0).1 in
    absurd (true≢false (sym (part_of t.active t.knows t.admitted e) ∙ b.alone_quiet alone))
none_resets s t c i step at k b e = refl

not_reset : (c : Core) (i j : ℕ) (s t : SeatState) (step : Step) (at : ℕ × ℕ) → Taken c i s step → slice_get c.seats j ≡ Some t → (t.admitted || t.knows) ≡ true → (eqb i j && resets step at) ≡ false → resets step at ≡ false
not_reset c i j s t step at k got e f =
    ⊎_elim
    (λ (g : eqb i j ≡ true). ap (λ b. b && resets step at) (sym g) ∙ f)
    (λ (g : eqb i j ≡ false). none_resets s t c i step at k (beside c i j s t k.core (eqb-false i j g) (sits c i s k.got) (sits c j t got)) e)
    (cases_Bool (eqb i j))

the_place : (at to : ℕ × ℕ) → same_place at to ≡ true → at ≡ to
the_place at to e = let two = and_parts (eqb at.0 to.0) (eqb at.1 to.1) e in pairs at to (eqb-true at.0 to.0 two.0) (eqb-true at.1 to.1 two.1)

-- so a bound on a counter stays
pub bounds_kept : (c : Core) (e : Event) → IsCore c → failing_part c e ≡ None → (j : ℕ) (t : SeatState) → slice_get c.seats j ≡ Some t → (at : ℕ × ℕ) → IsTrue (keeps_bound t at) → IsFalse ((e.seat == j) && resets e.step at)
    → word_at c.shape c.words at ≤ word_at c.shape (after_event c e).words at
bounds_kept c e k f j t got at keeps own =
    let r : (s : SeatState) × Acted c e s = acts c e k f in
    let a : Acted c e r.0 = r.1 in
    let s : SeatState = r.0 in
    let taken : Taken c e.seat s e.step = record { core = k; got = a.seat; live = a.live; ok = a.ok } in
    let both = and_parts (same_place at the_next_card || same_place at the_next_block) (t.admitted || t.knows) keeps in
    let none : resets e.step at ≡ false = not_reset c e.seat j s t e.step at taken got both.1 own in
    let ws : List ℕ = (after_event c e).words in
    ⊎_elim
    (λ (g : same_place at the_next_card ≡ true).
    let is : at ≡ the_next_card = the_place at the_next_card g in
    let grow = cards_grow c e.seat s e.step taken (subst (λ x. resets e.step x ≡ false) is none) in
    let same = ap (λ (w : Words). w.next_card) a.words in
    subst (λ x. word_at c.shape c.words x ≤ word_at c.shape ws x) (sym is) (omega (arith, single-word c.shape c.words 3 (omega arith), single-word c.shape ws 3 (omega arith), grow, same)))
    (λ (g : same_place at the_next_block ≡ true).
    let is : at ≡ the_next_block = the_place at the_next_block g in
    let grow = blocks_grow c e.seat s e.step taken (subst (λ x. resets e.step x ≡ false) is none) in
    let same = ap (λ (w : Words). w.next_block) a.words in
    subst (λ x. word_at c.shape c.words x ≤ word_at c.shape ws x) (sym is) (omega (arith, single-word c.shape c.words 4 (omega arith), single-word c.shape ws 4 (omega arith), grow, same)))
    (or_cases (same_place at the_next_card) (same_place at the_next_block) both.0)
