-- The words that a seat has as its variables refer to what the plain heap has there.
use Rattle.std.proofs.Common.{ℕ, ◌≡◌, ◌+◌, ◌*◌, ◌%◌, ◌<◌, suc, List, arith, refl, sym, ap, ◌∙◌, subst, true, false, Option, Some, None, Bool, ◌&&◌}
use Rattle.std.specs.Prelude.{IfSome, IsFalse, slice_get, slice_index, nat_lt, if◌then◌else◌}
use Rattle.std.proofs.lemmas.Bool.{and_parts, lt-ltb, ltb-true}
use Rattle.std.proofs.lemmas.Option.{slice_get_within, get_or_from_slice_get, same_Some}
use Rattle.mark_core.specs.Bits.{has_bit}
use Rattle.mark_core.specs.Layout.{words_of, region_sizes}
use Rattle.mark_core.specs.Seats.{may_mutate}
use Rattle.mark_core.proofs.Writing.Places.{words-get}
use Rattle.mark_core.specs.Rules.HeapRules.{EnvIsRoots}
use Rattle.mark_core.specs.Variables.{held_word, roots_now}
use Rattle.mark_core.specs.Steps.{Core}
use Rattle.mark_core.specs.Steps.MutatorSteps.{seat_variable}
use Rattle.mark_core.specs.declared.kinds.Event.{Event}
use Rattle.mark_core.specs.declared.kinds.Step.{Step}
use Rattle.mark_core.specs.declared.kinds.Step.TheVariants.{ReadIdent, ReadOwn, ReadValue}
use Rattle.mark_core.specs.declared.seat.SeatState.{SeatState}
use Rattle.mark_core.proofs.HeldBlock.{roots-length}
use Rattle.mark_core.proofs.Known.{Acted, acts}
use Rattle.mark_core.proofs.Lagging.{held-here, now-at, was-own}
use Rattle.mark_core.proofs.Blocks.BlocksStopped.{Taken, in-place}
use Rattle.gc_table.specs.AgreementLaws.{TellsIn, TellsOf, found_of}
use Rattle.gc_table.specs.RunWorlds.{World, name_at, name_in, own_section, referred, variable_of}
use Rattle.gc_table.proofs.Frame.{Mutates, mutates}
use Rattle.gc_table.proofs.Stores.{not-nil}
use Rattle.gc_table.proofs.Telling.{tells-once}
use Rattle.mark_core.specs.Effects.{place}
use Rattle.mark_core.proofs.Writing.Ranges.{IsPlace}
use Rattle.mark_core.proofs.Notes.NotesKept.{word-found}
use Rattle.gc_table.specs.Finding.{heap_found}
use Rattle.gc_table.specs.Taking.{Finds}
use Rattle.gc_table.specs.declared.view.View.{View}
use Rattle.gc_table.proofs.Finding.{steps-find}
use Rattle.gc_table.proofs.Reading.{none-some}
use Rattle.heap_laws.specs.Moments.{IsMoment}
use Rattle.heap_laws.specs.Variables.{FindsOf, StepsRead, VariablesNamed, VariablesRead}

-- a seat's section is its own, if there is one
pub own-section : (c : Core) (world : World) (i : ℕ) (s : SeatState) → IsMoment c world → slice_get c.seats i ≡ Some s → i < c.shape.sections → s.section ≡ Some i
own-section c world i s m got inside = (m.core.formed.seats i s got).section ∙ ap (λ (b : Bool). if b then Some i else None) (lt-ltb i c.shape.sections inside)

pub variables_named : VariablesNamed
variables_named c world m i s got live inside v below =
    let roots : List ℕ = (words_of c.shape c.words).roots in
    let at : ℕ = i * 32 + v in
    let low : at % 32 ≡ v = omega (arith, below) in
    let env : EnvIsRoots roots s =
    subst (EnvIsRoots roots) (get_or_from_slice_get c.seats i s s got) (m.core.sound.references.env_is_roots i s (slice_get_within c.seats i s got)) in
    let shown : IsFalse (has_bit s.lags v) → slice_index s.env v ≡ slice_index roots at =
    subst (λ (o : Option ℕ). IfSome o (λ w. (u : ℕ) → u < 32 → IsFalse (has_bit s.lags u) → slice_index s.env u ≡ slice_index roots (w * 32 + u))) (own-section c world i s m got inside) (env live) v below in
    let same : slice_index (roots_now roots c.seats) at ≡ slice_index s.env v =
    now-at roots c.seats at (omega (arith, inside, below, roots-length c m.core))
    ∙ was-own roots c.seats i at s got (omega (arith, below))
    ∙ ap (λ (u : ℕ). held_word (Some s) u (slice_index roots at)) low
    ∙ held-here s v (slice_index roots at) shown in
    ap (referred (words_of c.shape c.words).identities) (sym same) ∙ m.agrees.roots_agree i v inside below

-- a mutator's variable that names cell x refers to the object there
names : (c : Core) (world : World) (i : ℕ) (s : SeatState) (step : Step) (v x : ℕ) → IsMoment c world → Taken c i s step → may_mutate s ≡ true → v < 32 → seat_variable s v ≡ x + 1
    → variable_of world (own_section s) v ≡ Some (name_at (words_of c.shape c.words).identities x)
names c world i s step v x m t may below e =
    let mu : Mutates c i s = mutates c i s step t may in
    let word : seat_variable s v ≡ suc x = omega (arith, e) in
    ap (λ (w : ℕ). variable_of world w v) mu.own
    ∙ (sym (variables_named c world m i s t.got t.live mu.inside v below) ∙ not-nil (words_of c.shape c.words).identities (seat_variable s v) x word)

finds_of : (c : Core) (world : World) (i : ℕ) (s : SeatState) (step : Step) (v : ℕ) → IsMoment c world → Taken c i s step → v < 32 → TellsIn c world s step (found_of c (Some s) step) → FindsOf c world s step v (found_of c (Some s) step)
finds_of c world i s (ReadValue x) v m t below tells =
    λ e.
    let may : may_mutate s ≡ true = (and_parts (nat_lt x c.shape.cells) (may_mutate s) t.ok.0).1 in
    (name_at (words_of c.shape c.words).identities x, tells.0, names c world i s (ReadValue x) v x m t may below e, tells.1.1, tells.2)
finds_of c world i s (ReadOwn x j) v m t below tells =
    λ e.
    let may : may_mutate s ≡ true = (and_parts (nat_lt x c.shape.cells && nat_lt j c.shape.fields) (may_mutate s) t.ok.0).1 in
    (name_at (words_of c.shape c.words).identities x, tells.0, names c world i s (ReadOwn x j) v x m t may below e, tells.1.1, tells.2, tells.3)
finds_of c world i s (ReadIdent x) v m t below tells =
    λ e.
    let may : may_mutate s ≡ true = (and_parts (nat_lt x c.shape.cells) (may_mutate s) t.ok.0).1 in
    let old : found_of c (Some s) (ReadIdent x) ≡ slice_index (words_of c.shape c.words).identities x = words-get (region_sizes c.shape) 9 c.words x 0 (in-place c i s (ReadIdent x) t) in
    names c world i s (ReadIdent x) v x m t may below e ∙ ap (λ (id : ℕ). Some (name_in id)) (sym old)
finds_of c world i s step v m t below tells = tt

pub variables_read : VariablesRead
variables_read c world m e s ok got v below =
    let r : (t : SeatState) × Acted c e t = acts c e m.core ok in
    let same : r.0 ≡ s = same_Some r.0 s (sym r.1.seat ∙ got) in
    let taken : Taken c e.seat s e.step = subst (λ (t : SeatState). Taken c e.seat t e.step) same (record { core = m.core; got = r.1.seat; live = r.1.live; ok = r.1.ok }) in
    let tells : TellsIn c world s e.step (found_of c (Some s) e.step) = subst (λ (o : Option SeatState). TellsOf c world o e.step) got (tells-once c world e m.core m.agrees ok) in
    finds_of c world e.seat s e.step v m taken below tells

-- a step on an open heap
open_moment : (step : Step) (n : ℕ) (v : View) (f : Finds step n v) → IsMoment f.state.core (heap_found step n v f)
open_moment step n v f = record { core = f.whole.core; agrees = (steps-find step n v f).0 }

of_section : (b : Bool) (i w : ℕ) (o : Option ℕ) → o ≡ (if b then Some i else None) → o ≡ Some w → (b ≡ true) × (i ≡ w)
of_section true i w o e f = (refl, same_Some i w (sym e ∙ f))
of_section false i w o e f = absurd (none-some w (sym e ∙ f))

variables_at : (step : Step) (n : ℕ) (v : View) (f : Finds step n v) (w u : ℕ) → v.state.section ≡ Some w → u < 32
    → referred (words_of f.state.core.shape f.state.core.words).identities (seat_variable v.state u) ≡ variable_of (heap_found step n v f) w u
variables_at step n v f w u section below =
    let c : Core = f.state.core in
    let r : (t : SeatState) × Acted c (record { seat = f.index; step = step }) t = acts c (record { seat = f.index; step = step }) f.whole.core f.allowed in
    let same : r.0 ≡ v.state = same_Some r.0 v.state (sym r.1.seat ∙ f.agrees.seat) in
    let live : v.state.spent ≡ false = subst (λ (t : SeatState). t.spent ≡ false) same r.1.live in
    let own = of_section (nat_lt f.index c.shape.sections) f.index w v.state.section (f.whole.core.formed.seats f.index v.state f.agrees.seat).section section in
    variables_named c (heap_found step n v f) (open_moment step n v f) f.index v.state f.agrees.seat live (ltb-true f.index c.shape.sections own.0) u below
    ∙ ap (λ (z : ℕ). variable_of (heap_found step n v f) z u) own.1

reads_at : (step : Step) (n : ℕ) (v : View) (f : Finds step n v) (u : ℕ) → u < 32 → FindsOf f.state.core (heap_found step n v f) v.state step u n
reads_at step n v f u below =
    let c : Core = f.state.core in
    let world : World = heap_found step n v f in
    let e : Event = record { seat = f.index; step = step } in
    let r : (t : SeatState) × Acted c e t = acts c e f.whole.core f.allowed in
    let same : r.0 ≡ v.state = same_Some r.0 v.state (sym r.1.seat ∙ f.agrees.seat) in
    let here : IsPlace c.shape (place c.shape v.state step) = subst (λ (t : SeatState). IsPlace c.shape (place c.shape t step)) same (in-place c f.index r.0 step (record { core = f.whole.core; got = r.1.seat; live = r.1.live; ok = r.1.ok })) in
    subst (FindsOf c world v.state step u) (word-found c.shape c.words (place c.shape v.state step) here ∙ f.word) (variables_read c world (open_moment step n v f) e v.state f.allowed f.agrees.seat u below)

pub steps_read : StepsRead
steps_read = record { variables = variables_at; reads = reads_at }
