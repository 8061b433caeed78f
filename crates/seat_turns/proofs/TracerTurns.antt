-- A turn that waits is one that doesn't, and then the seat helps if it has to.
use Rattle.std.proofs.Common.{◌≡◌, inl, inr, true}
use Rattle.mark_core.specs.declared.kinds.Phase.TheVariants as phases
use Rattle.gc_table.specs.Log.{events}
use Rattle.gc_table.specs.Running.{Ran}
use Rattle.gc_table.specs.declared.view.View.{View}
use Rattle.gc_cycle.specs.Turns.{HelpsInTurns}
use Rattle.gc_cycle.specs.Polling.{saw_resumed}
use Rattle.seat_turns.specs.Tracing.{TracerTakesTurn}
use Rattle.seat_turns.specs.TracerTries.{TriesTurn}
use Rattle.seat_turns.specs.declared.background.Turn.TheVariants as turns
use Rattle.seat_turns.specs.declared.try_turns.TryTurn.TheVariants as tries

pub marked : (v w : View) → TriesTurn tries.Marked v w → TracerTakesTurn turns.Going v w
marked v w t = record { dismissals = t.dismissals; looked = t.looked; looks = t.looks; takes = (t.takes.0, inr (phases.Marking, (λ e. absurd (cc e)), t.takes.1)) }

pub idle : (v w : View) → TriesTurn tries.Idle v w → TracerTakesTurn turns.Going v w
idle v w t = let f = t.takes.1 in record { dismissals = t.dismissals; looked = t.looked; looks = t.looks; takes = (t.takes.0, inr (f.0, f.2, f.3)) }

pub dismissed : (v w : View) → TriesTurn tries.Dismissed v w → TracerTakesTurn turns.Dismissed v w
dismissed v w t = record { dismissals = t.dismissals; looked = t.looked; looks = t.looks; takes = t.takes }

pub full : (v w : View) → TriesTurn tries.Full v w → TracerTakesTurn turns.Full v w
full v w t = record { dismissals = t.dismissals; looked = t.looked; looks = t.looks; takes = t.takes }

pub helped : (v x w : View) → TriesTurn tries.Stopped v x → Ran x w → HelpsInTurns x w → saw_resumed (events x w) ≡ true → TracerTakesTurn turns.Going v w
helped v x w t r h s =
    record { dismissals = t.dismissals; looked = t.looked; looks = t.looks; takes = (t.takes.0, inl (record { back = x; turns_back = t.takes.1; ran = r; helps = h; resumed = s })) }
