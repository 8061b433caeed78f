-- The rules of the world, of the phase, and of the season.
use Rattle.std.specs.Prelude.{ℕ, ◌≡◌, ◌+◌, ◌≤◌, List, Bool, ◌||◌, IsTrue, IsFalse, IfSome, None}
use Rattle.std.specs.List.{All, count_by, list_any}
use Rattle.mark_core.specs.Shapes.{EachCell, EachPacket}
use Rattle.mark_core.specs.Bits.{flag_where, cell_bit}
use Rattle.mark_core.specs.Held.{Slots, holds_any}
use Rattle.mark_core.specs.Seats.{phase_number, is_phase, saw, takes_part, may_mutate, work_in_hand, has_used, has_making}
use Rattle.mark_core.specs.Views.{Standing, some_knows}
use Rattle.mark_core.specs.Cells.{packet_length}
use Rattle.mark_core.specs.declared.kinds.Shape.{Shape}
use Rattle.mark_core.specs.declared.kinds.Phase.TheVariants.{Idle, Marking, Drain, Sweep, Clear, Full}
use Rattle.mark_core.specs.declared.seat.SeatState.{SeatState}

-- the seat is in the world's number
abbrev pub is_in_world : Standing → Bool
is_in_world s = s.counted

-- the flag of the world is the seat's own
abbrev pub is_raised : Standing → Bool
is_raised s = s.raised

-- the seat is in the number of helpers
abbrev pub is_helping : Standing → Bool
is_helping s = s.helping

-- the flag of help is the seat's own
abbrev pub is_opened : Standing → Bool
is_opened s = s.opened

-- no seat is active
abbrev pub NoneActive : List Standing → Type 0
NoneActive ss = All (λ (s : Standing). IsFalse s.active) ss

-- no helper is admitted
abbrev pub NoneAdmitted : List Standing → Type 0
NoneAdmitted ss = All (λ (s : Standing). IsFalse s.admitted) ss

-- an admitted seat is helping, and neither counted nor raised
abbrev pub HelpsOnly : Standing → Type 0
HelpsOnly s = IsTrue s.admitted → IsTrue s.helping × IsFalse s.counted × IsFalse s.raised

-- what a seat doesn't have outside the world, its stop and its help
pub record IsEmpty (sh : Shape) (s : SeatState) : Type 0 where
  pub no_packet : IsFalse (holds_any s.held)
  pub no_reservation : IsFalse s.reserved
  pub no_credit : IsFalse s.credit
  pub no_work : IsFalse (work_in_hand sh.fields s)
  pub no_cache : s.cache ≡ None
  pub no_block : s.block ≡ None

-- what a seat doesn't have unless it is active
pub record IsCalm (s : SeatState) : Type 0 where
  pub no_card_owed : s.owes ≡ None
  pub no_used_cell : IsFalse (has_used s.cache)
  pub no_cell_made : IsFalse (has_making s.cache)
  pub register_nil : s.got ≡ 0

-- who is inside the world, who stopped it, and who helps
pub record World (sh : Shape) (world help : ℕ) (ss : List Standing) (seats : List SeatState) : Type 0 where
  -- the world's number is that of the counted seats, and its flag is set if a seat is raised
  pub world_word : world ≡ count_by is_in_world ss + flag_where (list_any is_raised ss)
  pub one_raised : count_by is_raised ss ≤ 1
  -- the number of help is that of the helping seats, and its flag is set if a seat has opened
  pub help_word : help ≡ count_by is_helping ss + flag_where (list_any is_opened ss)
  pub opened_knows : All (λ (s : Standing). IsTrue s.opened → IsTrue s.knows × IsFalse s.alone) ss
  pub active_counted : All (λ (s : Standing). IsTrue s.active → IsTrue s.counted) ss
  pub admitted_helps : All HelpsOnly ss
  -- helpers are admitted while the world is stopped
  pub admitted_stopped : All (λ (s : Standing). IsTrue s.admitted → IsTrue (some_knows ss)) ss
  pub knows_stopped : All (λ (s : Standing). IsTrue s.knows → NoneActive ss) ss
  pub alone_unhelped : All (λ (s : Standing). IsTrue s.alone → NoneAdmitted ss) ss
  pub outside_empty : All (λ s. IsFalse (takes_part s) → IsEmpty sh s) seats
  pub inactive_calm : All (λ (s : SeatState). IsFalse s.active → IsCalm s) seats

-- cells are marked and packets are filled
abbrev pub is_tracing : ℕ → Bool
is_tracing phase = is_phase phase Marking || is_phase phase Drain

-- the world stays stopped in this phase
abbrev pub is_stopped_phase : ℕ → Bool
is_stopped_phase phase = is_phase phase Drain || is_phase phase Sweep || is_phase phase Clear

-- outside a cycle
abbrev pub is_resting : ℕ → Bool
is_resting phase = is_phase phase Idle || is_phase phase Full

-- what seats have seen of the phase, and what there is in each phase
pub record Phases (sh : Shape) (phase : ℕ) (marks heads : List ℕ) (hs : List Slots) (ss : List Standing) (seats : List SeatState) : Type 0 where
  -- a mutator that saw Marking is in Marking
  pub marking_seen : All (λ (s : SeatState). IsTrue s.active → IsTrue (saw s.phase_seen Marking) → phase ≡ 1) seats
  -- a helper knows the phase
  pub helper_seen : All (λ (s : SeatState). IsTrue s.admitted → IfSome s.phase_seen (λ x. phase ≡ phase_number x)) seats
  pub stopped : IsTrue (is_stopped_phase phase) → IsTrue (some_knows ss)
  -- outside a cycle all cells are white
  pub resting_white : IsTrue (is_resting phase) → EachCell sh (λ c. IsFalse (cell_bit marks c))
  pub packets_empty : IsFalse (is_tracing phase) → EachPacket sh (λ p. packet_length heads hs p ≡ 0)
  pub hands_empty : IsFalse (is_tracing phase) → All (λ h. IsFalse (holds_any h)) hs

-- an active seat that has read the season knows it
pub record Season (season : ℕ) (seats : List SeatState) : Type 0 where
  pub season_known : All (λ (s : SeatState). IsTrue s.active → IfSome s.season_seen (λ z. season ≡ z)) seats
  -- the variables of a seat lag only while it mutates
  pub lags_in_turn : All (λ (s : SeatState). IsFalse (may_mutate s) → s.lags ≡ 0) seats
