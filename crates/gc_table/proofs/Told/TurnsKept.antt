-- Each plain step and each object was in a turn of its section, and the last plain step left the plain heap as it is.
use Rattle.std.proofs.Common.{ℕ, ◌≡◌, ◌+◌, ◌<◌, ◌≤◌, List, [], ◌∷◌, ◌++◌, arith, refl, sym, ap, ◌∙◌, subst, Bool, true, false, ◌&&◌, cond, eqb, Option, Some}
use Rattle.std.specs.Prelude.{IsTrue, nat_lt, nat_le, unwrap_or, slice_get}
use Rattle.std.proofs.lemmas.Bool.{true≢false, and_parts, lt-ltb}
use Rattle.std.proofs.lemmas.Option.{same_Some}
use Rattle.mark_core.specs.Layout.{words_of}
use Rattle.mark_core.specs.Seats.{has_turn, may_mutate}
use Rattle.mark_core.specs.Steps.{Core}
use Rattle.mark_core.proofs.Known.{words_left}
use Rattle.mark_core.proofs.Blocks.BlocksStopped.{Taken}
use Rattle.mark_core.proofs.Formed.FormedLearns.{EachAt, each-push}
use Rattle.mark_core.specs.declared.kinds.Shape.{Shape}
use Rattle.mark_core.specs.declared.kinds.Step.{Step}
use Rattle.mark_core.specs.declared.kinds.Step.TheVariants.{StoreField, StoreValue, StoreRoot, StoreNew, NextSeason, HoldRoot}
use Rattle.mark_core.specs.declared.seat.SeatState.{SeatState}
use Rattle.plain_heap.specs.PlainHeap.{Heap, empty_heap}
use Rattle.plain_heap.specs.declared.operation.Op.{Op}
use Rattle.gc_table.specs.declared.view.Meaning.{Meaning}
use Rattle.gc_table.specs.declared.view.Place.{Place}
use Rattle.gc_table.specs.declared.view.PlainStep.{PlainStep}
use Rattle.gc_table.specs.declared.view.SectionState.{SectionState}
use Rattle.gc_table.specs.PlainSteps.{with_part, changes_heap}
use Rattle.gc_table.specs.Sections.{season_of, seen_by, meaning_by, with_plain_step, placed, section_after}
use Rattle.gc_table.specs.TableState.{TableState, state_after}
use Rattle.gc_table.specs.Told.{EachSection, heap_before, Turns}
use Rattle.gc_table.proofs.State.StateSteps.{Goes, event, taken, sections_left, kept-whole, each-left}
use Rattle.gc_table.proofs.Told.SeasonsKept.{season_in, moves_season, season-same, season-next, in-turn, storer-mutates}
use Rattle.gc_table.proofs.Told.ApartHeaps.{before-next as heap_next}

-- what happened by the season, in a turn of the section
abbrev Past : ℕ → ℕ → ℕ → Type 0
Past season w z = (z ≤ season) × IsTrue (has_turn (Some w) (Some z))

-- what is said of each section
record InTurns (sh : Shape) (season w : ℕ) (y : SectionState) : Type 0 where
  pub turns_past : (n : ℕ) (t : PlainStep) → slice_get y.history n ≡ Some t → Past season w t.season
  pub places_past : (n : ℕ) (p : Place) → slice_get y.places n ≡ Some p → Past season w p.season
  pub last : y.meaning.heap ≡ heap_before (season + 1) (empty_heap sh.fields w) y.history

-- the last turn leaves its heap
heap_last : (season : ℕ) (heap : Heap) (ts : List PlainStep) (t : PlainStep) → t.season < season → heap_before season heap (ts ++ t ∷ []) ≡ t.heap
heap_last season heap [] t h = ap (λ (b : Bool). cond b t.heap heap) (lt-ltb t.season season h)
heap_last season heap (u ∷ ts) t h = heap_last season (cond (nat_lt u.season season) u.heap heap) ts t h

past_next : (season w z : ℕ) → Past season w z → Past (season + 1) w z
past_next season w z p = (omega (arith, p.0), p.1)

-- the season moves on
in_next : (sh : Shape) (season w : ℕ) (y : SectionState) → InTurns sh season w y → InTurns sh (season + 1) w y
in_next sh season w y k = record {
  turns_past = λ n t e. past_next season w t.season (k.turns_past n t e);
  places_past = λ n p e. past_next season w p.season (k.places_past n p e);
  last = k.last ∙ heap_next (season + 1) (empty_heap sh.fields w) y.history (λ n t e. let h : t.season ≤ season = (k.turns_past n t e).0 in omega (arith, h));
}

past_now : (season w z : ℕ) → z ≡ season → has_turn (Some w) (Some season) ≡ true → Past season w z
past_now season w z e h = (omega (arith, e), subst (λ (j : ℕ). IsTrue (has_turn (Some w) (Some j))) (sym e) h)

-- a plain step
in_turned : (sh : Shape) (s : SeatState) (season w : ℕ) (m : Meaning) (y : SectionState) → season_of s ≡ season → has_turn (Some w) (Some season) ≡ true → InTurns sh season w y → InTurns sh season w (with_plain_step s (record y { meaning = m }))
in_turned sh s season w m y seen turn k = record {
  turns_past = each-push (λ n (t : PlainStep). Past season w t.season) y.history (record { season = season_of s; heap = m.heap }) (past_now season w (season_of s) seen turn) k.turns_past;
  places_past = k.places_past;
  last = sym (heap_last (season + 1) (empty_heap sh.fields w) y.history (record { season = season_of s; heap = m.heap }) (omega (arith, seen)));
}

-- a place more, when the last word of a new cell is stored
place_more : (season w : ℕ) (b : Bool) (ps : List Place) (p : Place) → Past season w p.season → EachAt (λ n (o : Place). Past season w o.season) ps → EachAt (λ n (o : Place). Past season w o.season) (cond b (ps ++ p ∷ []) ps)
place_more season w true ps p h a = each-push (λ n (o : Place). Past season w o.season) ps p h a
place_more season w false ps p h a = a

in_placed : (sh : Shape) (s : SeatState) (season w c part word : ℕ) (y : SectionState) → season_of s ≡ season → has_turn (Some w) (Some season) ≡ true → InTurns sh season w y
    → InTurns sh season w (placed sh s c part (record y { meaning = with_part sh part word y.meaning }))
in_placed sh s season w c part word y seen turn k = record {
  turns_past = k.turns_past;
  places_past = place_more season w (eqb part (sh.fields + 1)) y.places (record { cell = c; season = season_of s; heap = y.meaning.heap }) (past_now season w (season_of s) seen turn) k.places_past;
  last = k.last;
}

-- a seat that may mutate is in its turn
own_turn : (c : Core) (i : ℕ) (s : SeatState) (step : Step) (w : ℕ) → Taken c i s step → s.section ≡ Some w → may_mutate s ≡ true → (season_of s ≡ season_in c) × (has_turn (Some w) (Some (season_in c)) ≡ true)
own_turn c i s step w k e h =
    let a = in-turn c i s step k h in
    (ap (λ (o : Option ℕ). unwrap_or o 0) a.2, subst (λ (j : ℕ). has_turn (Some j) (Some (season_in c)) ≡ true) (same_Some a.0 w (sym a.1 ∙ e)) a.3)

in_stored : (c : Core) (i : ℕ) (s : SeatState) (step : Step) (w : ℕ) (m : Meaning) (y : SectionState) → Taken c i s step → s.section ≡ Some w → changes_heap step ≡ true → InTurns c.shape (season_in c) w y
    → InTurns c.shape (season_in c) w (with_plain_step s (record y { meaning = m }))
in_stored c i s step w m y k e h b = let a = own_turn c i s step w k e (storer-mutates c i s step k h) in in_turned c.shape s (season_in c) w m y a.0 a.1 b

-- the seat's own section after a step that leaves the season
own_after : (c : Core) (plan : List (List Op)) (i : ℕ) (s : SeatState) (step : Step) (w : ℕ) (y : SectionState) → Taken c i s step → s.section ≡ Some w → moves_season step ≡ false → InTurns c.shape (season_in c) w y
    → InTurns c.shape (season_in c) w (section_after c.shape plan s step y)
own_after c plan i s (StoreField v j o) w y k e f b = in_stored c i s (StoreField v j o) w (meaning_by c.shape s (seen_by c.shape plan s) (StoreField v j o) y.meaning) y k e refl b
own_after c plan i s (StoreValue v n) w y k e f b = in_stored c i s (StoreValue v n) w (meaning_by c.shape s (seen_by c.shape plan s) (StoreValue v n) y.meaning) y k e refl b
own_after c plan i s (StoreRoot v r) w y k e f b = in_stored c i s (StoreRoot v r) w (meaning_by c.shape s (seen_by c.shape plan s) (StoreRoot v r) y.meaning) y k e refl b
own_after c plan i s (HoldRoot v r) w y k e f b = in_stored c i s (HoldRoot v r) w (meaning_by c.shape s (seen_by c.shape plan s) (HoldRoot v r) y.meaning) y k e refl b
own_after c plan i s (StoreNew x part word) w y k e f b =
    let h = and_parts (nat_lt x c.shape.cells && nat_le part (c.shape.fields + 1)) (may_mutate s) k.ok.0 in
    let a = own_turn c i s (StoreNew x part word) w k e h.1 in
    in_placed c.shape s (season_in c) w x part word y a.0 a.1 b
own_after c plan i s NextSeason w y k e f b = absurd (true≢false f)
own_after c plan i s step w y k e f b = record { turns_past = b.turns_past; places_past = b.places_past; last = b.last }

before : (x : TableState) → Turns x.core.shape (season_in x.core) x.sections → EachSection x.sections (InTurns x.core.shape (season_in x.core))
before x k w y h = record { turns_past = k.turns_past w y h; places_past = k.places_past w y h; last = k.last w y h }

-- all sections after the step
each_in : (x : TableState) (i : ℕ) (s : SeatState) (step : Step) → Goes x i s step → EachSection (sections_left x s step) (InTurns x.core.shape (words_left x.core s step).season)
each_in x i s NextSeason g =
    let sh : Shape = x.core.shape in
    subst (λ (z : ℕ). EachSection (sections_left x s NextSeason) (InTurns sh z)) (sym (season-next x.core i s (taken x i s NextSeason g)))
    (each-left (InTurns sh (season_in x.core + 1)) (section_after sh x.plan s NextSeason) s.section x.sections (λ w y h d. in_next sh (season_in x.core) w y (before x g.whole.told.turns w y h))
    (λ w y h e. let n = in_next sh (season_in x.core) w y (before x g.whole.told.turns w y h) in record { turns_past = n.turns_past; places_past = n.places_past; last = n.last }))
each_in x i s step g =
    let sh : Shape = x.core.shape in
    let k : Taken x.core i s step = taken x i s step g in
    subst (λ (z : ℕ). EachSection (sections_left x s step) (InTurns sh z)) (sym (season-same x.core i s step k refl))
    (each-left (InTurns sh (season_in x.core)) (section_after sh x.plan s step) s.section x.sections (λ w y h d. before x g.whole.told.turns w y h) (λ w y h e. own_after x.core x.plan i s step w y k e refl (before x g.whole.told.turns w y h)))

turns_left : (x : TableState) (i : ℕ) (s : SeatState) (step : Step) → Goes x i s step → Turns x.core.shape (words_left x.core s step).season (sections_left x s step)
turns_left x i s step g =
    let a = each_in x i s step g in record { turns_past = λ w y h. (a w y h).turns_past; places_past = λ w y h. (a w y h).places_past; last = λ w y h. (a w y h).last }

pub turns-kept : (x : TableState) (i : ℕ) (s : SeatState) (step : Step) → Goes x i s step
    → Turns (state_after x (event i step)).core.shape (words_of (state_after x (event i step)).core.shape (state_after x (event i step)).core.words).season (state_after x (event i step)).sections
turns-kept x i s step g = kept-whole (λ sh w seats xs. Turns sh w.season xs) x i s step g (turns_left x i s step g)
