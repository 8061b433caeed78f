-- That the numbers of what each seat puts into a queue and takes out are those that its log tells.
use Rattle.std.specs.Prelude.{ℕ, ◌≡◌, ◌≤◌, List, [], ◌∷◌, Option, None, Some, length, slice_get, take}
use Rattle.mark_core.specs.Steps.{Core}
use Rattle.mark_core.specs.declared.kinds.Event.{Event}
use Rattle.mark_core.specs.declared.seat.SeatState.{SeatState}
use Rattle.gc_table.specs.Past.{log_from}
use Rattle.gc_table.specs.RunWorlds.{World}
use Rattle.queue_laws.specs.NumberLogs.{puts_told, takes_told, telling_at}
use Rattle.queue_laws.specs.QueueLogs.{FitsQueue, Hands}
use Rattle.queue_laws.specs.Queues.{Item, Queue, by_seat, puts, takes}

-- these items have the numbers that are told, one for each
abbrev pub AreNumbers : List (Option ℕ) → List Item → Type 0
AreNumbers [] [] = Unit {0}
AreNumbers (None ∷ ns) (x ∷ xs) = AreNumbers ns xs
AreNumbers (Some n ∷ ns) (x ∷ xs) = (x.number ≡ n) × AreNumbers ns xs
AreNumbers [] (x ∷ xs) = ⊥
AreNumbers (n ∷ ns) [] = ⊥

-- of the first k events, seat i puts in and takes out as many as the log tells, with the numbers that it tells
pub record NumbersTold (q : Queue) (c : Core) (world : World) (es : List Event) (h : Hands) (i k : ℕ) (s : SeatState) : Type 0 where
  pub put : AreNumbers (puts_told c.shape.fields h (telling_at h s) (log_from i c (take k es))) (by_seat i (puts q c world es k))
  pub taken : AreNumbers (takes_told c.shape.fields h (telling_at h s) (log_from i c (take k es))) (by_seat i (takes q c world es k))

pub record NumbersByLog : Type 0 where
  -- so it is of each seat whose record at the start this is
  pub told : (q : Queue) (c : Core) (world : World) (es : List Event) (h : Hands) → FitsQueue q c world es h → (k : ℕ) → k ≤ length es → (i : ℕ) (s : SeatState) → slice_get c.seats i ≡ Some s → NumbersTold q c world es h i k s
  -- and no other seat puts in or takes out
  pub put_by : (q : Queue) (c : Core) (world : World) (es : List Event) (h : Hands) → FitsQueue q c world es h → (k : ℕ) → k ≤ length es → (p : ℕ) (x : Item) → slice_get (puts q c world es k) p ≡ Some x → (s : SeatState) × (slice_get c.seats x.seat ≡ Some s)
  pub taken_by : (q : Queue) (c : Core) (world : World) (es : List Event) (h : Hands) → FitsQueue q c world es h → (k : ℕ) → k ≤ length es → (p : ℕ) (x : Item) → slice_get (takes q c world es k) p ≡ Some x → (s : SeatState) × (slice_get c.seats x.seat ≡ Some s)
