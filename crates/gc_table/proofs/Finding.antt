-- A step finds what the plain heap of all sections had just before it.
use Rattle.std.proofs.Common.{ℕ, ◌≡◌, ◌∙◌, sym, subst, arith, Option, Some}
use Rattle.std.specs.Prelude.{slice_get}
use Rattle.mark_core.specs.Effects.{place}
use Rattle.mark_core.specs.Steps.{Core, start_core}
use Rattle.mark_core.specs.declared.kinds.Event.{Event}
use Rattle.mark_core.specs.declared.seat.SeatState.{SeatState}
use Rattle.mark_core.proofs.Known.{Acted, acts}
use Rattle.mark_core.proofs.Blocks.BlocksStopped.{in-place}
use Rattle.mark_core.proofs.Writing.Ranges.{IsPlace}
use Rattle.mark_core.proofs.Notes.NotesKept.{word-found}
use Rattle.gc_table.proofs.State.StateSteps.{some-same}
use Rattle.gc_table.specs.Agreement.{AgreesWith}
use Rattle.gc_table.specs.AgreementLaws.{TellsIn, TellsOf, found_of}
use Rattle.gc_table.specs.RunWorlds.{World}
use Rattle.gc_table.proofs.Kept.{runs_agree}
use Rattle.gc_table.proofs.Telling.{tells-once}
use Rattle.gc_table.specs.Finding.{StepsFind, heap_found}

pub steps-find : StepsFind
steps-find step n v f =
    let c : Core = f.state.core in
    let world : World = heap_found step n v f in
    let e : Event = record { seat = f.index; step = step } in
    let agrees : AgreesWith c world = subst (λ (d : Core). AgreesWith d world) f.led.leads (runs_agree c.shape 1 f.past f.whole.core.formed.shaped (omega arith) (omega arith) f.led.fit) in
    let tells : TellsIn c world v.state step (found_of c (Some v.state) step) = subst (λ (o : Option SeatState). TellsOf c world o step) f.agrees.seat (tells-once c world e f.whole.core agrees f.allowed) in
    let acted : (s : SeatState) × Acted c e s = acts c e f.whole.core f.allowed in
    let same : acted.0 ≡ v.state = some-same acted.0 v.state (sym acted.1.seat ∙ f.agrees.seat) in
    let here : IsPlace c.shape (place c.shape v.state step) = subst (λ (s : SeatState). IsPlace c.shape (place c.shape s step)) same (in-place c f.index acted.0 step (record { core = f.whole.core; got = acted.1.seat; live = acted.1.live; ok = acted.1.ok })) in
    (agrees, subst (TellsIn c world v.state step) (word-found c.shape c.words (place c.shape v.state step) here ∙ f.word) tells)
