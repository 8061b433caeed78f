-- What is claimed of a play and of its end, as statements for proofs to meet.
use Rattle.std.specs.Prelude.{ℕ, ◌≡◌, ◌+◌, ◌-◌, ◌*◌, ◌<◌, ◌≤◌, IsTrue, IsFalse, List, false, [], ◌∷◌, ◌++◌, slice_index_or, not, length, map, Option, Some, true, if◌then◌else◌}
use Rattle.mark_core.specs.Numbers.{most_seats}
use Rattle.mark_core.specs.declared.kinds.Event.{Event}
use Rattle.mark_core.specs.declared.kinds.Shape.{Shape}
use Rattle.plain_heap.specs.declared.operation.Op.{Op}
use Rattle.plain_heap.specs.PlainHeap.{Heap}
use Rattle.plain_heap.specs.PlainStep.{heap_after, line_of}
use Rattle.plain_heap.specs.Sections.{Execution, Sections, Parts, part_of, end_of, section_numbers, IsNext}
use Rattle.plain_heap.specs.PlainRun.{Printed, seen_catalogue, with_label, plan_of}
use Rattle.plain_heap.specs.Paths.{Name, IsReachable, Survivor, AreSurvivors}
use Rattle.gc_table.specs.declared.view.SectionState.{SectionState}
use Rattle.gc_table.specs.Sections.{start_section, seen_by, season_of, planned}
use Rattle.gc_table.specs.PlainSteps.{Asks, changes_heap}
use Rattle.gc_table.specs.Seats.{IsPlainStep}
use Rattle.gc_table.specs.Taking.{after}
use Rattle.gc_table.specs.Log.{Only}
use Rattle.gc_table.specs.Running.{Ran}
use Rattle.gc_table.specs.declared.view.View.{View}
use Rattle.gc_table.specs.declared.view.Place.{Place}
use Rattle.mark_core.specs.declared.kinds.Step.{Step}
use Rattle.mark_core.specs.declared.kinds.Step.TheVariants.{ReadPhase, StoreNew, StorePhase}
use Rattle.plain_heap.specs.declared.operation.Op.TheVariants as ops
use Rattle.play_end.specs.Playing.{leaves_play, keeps_play, moves_phase, Stores, Places, HasTurn, drops, stores_nothing}
use Rattle.play_end.specs.Alike.{AreAlike, AreAmong}
use Rattle.play_end.specs.Done.{turn_word, HasDone, HasSaid, HasPlayed, HasStoppedInPart, IsKept, IsStill, SectionDoes, PlacedSoFar}
use Rattle.gc_table.specs.Rule.{IsPossible, KnowsFull, Leads}
use Rattle.play_end.specs.Parts.{Player, PlaysPart, HasLeft, DoesCommand, SaysSame}
use Rattle.play_end.specs.declared.played.Played.TheVariants as plays
use Rattle.play_end.specs.Ended.{AreCommandsInRange, IsStateOf, HasOnlyReachable, AreListed, AreCellsOfPlaces, DidAll, IsHeapOf, ArePositions, HaveStopped}
use Rattle.play_report.specs.Order.{heaps_done, IsPlaced}
use Rattle.plain_heap.specs.Placement.{IsNew, IsFilled}
use Rattle.mark_core.specs.Bits.{reference_in}
use Rattle.mark_core.specs.declared.kinds.Phase.TheVariants.{Full}
use Rattle.gc_table.specs.declared.seat.HeapSeat.{HeapSeat}
use Rattle.gc_table.specs.declared.words.Words.{Words}
use Rattle.play_report.specs.declared.report.Report.{Report}
use Rattle.play_end.specs.Answers.{IsReport}
use Rattle.play_end.specs.Reported.{AreParts, ListsWords, IsShort}
use Rattle.play_end.specs.Closed.{IsClosed, PlayedAll, EndsWell, SeatsStopped, ArePositionsFilled}
use Rattle.gc_table.specs.TableState.{TableState, start_state}
use Rattle.mark_core.specs.Shapes.{IsShape}
use Rattle.mark_core.specs.Layout.{words_of}

-- heaps that are alike are so after the same operation, print the same, and reach the same objects
pub record AlikeGoOn : Type 0 where
  pub after : (a b : Heap) (catalogue : Option Heap) (op : Op) → AreAlike a b → AreAlike (heap_after a catalogue op) (heap_after b catalogue op)
  pub line : (a b : Heap) (catalogue : Option Heap) (op : Op) → AreAlike a b → line_of a catalogue op ≡ line_of b catalogue op
  pub reached : (few all : List Heap) (name : Name) → AreAmong few all → IsReachable few name → IsReachable all name

-- a section begins with no command done; it stays where it is while nothing is stored and made; and each command takes it one further
pub record DoneGoesOn : Type 0 where
  pub start : (s : Sections) (sh : Shape) (w : ℕ) → sh.fields ≡ s.fields → HasPlayed s w 0 (start_section sh w)
  pub still : (s : Sections) (w k : ℕ) (x y : SectionState) → HasDone s w k x → IsStill x y → HasDone s w k y
  pub next : (s : Sections) (w k z : ℕ) (e : Execution) (x y : SectionState) → HasDone s w k x → IsNext s w k z e → SectionDoes (seen_catalogue s w z) (turn_word w z) e.op x y → HasDone s w (k + 1) y
  pub said : (s : Sections) (w k z : ℕ) (e : Execution) (said said' : List Printed) (dropped dropped' : ℕ) (cells cells' : List ℕ) (x y : SectionState) → HasDone s w k x → HasSaid s w k said dropped cells x → IsNext s w k z e
      → said' ≡ said ++ with_label e.label (line_of x.meaning.heap (seen_catalogue s w z) e.op) [] → dropped' ≡ dropped + (if drops x.meaning.heap e.op then 1 else 0) → cells' ≡ map (λ (p : Place). p.cell) y.places
      → HasSaid s w (k + 1) said' dropped' cells' y
  -- a part ends when its last command is done, and it stops when the heap is full
  pub ends : (s : Sections) (w z : ℕ) (x y : SectionState) → HasDone s w (end_of s w z) x → IsFalse x.full → IsStill x y → y.position ≡ end_of s w z → HasPlayed s w z y
  pub stops : (s : Sections) (w z k : ℕ) (x y : SectionState) → HasDone s w k x → 0 < z → end_of s w (z - 1) ≤ k → k ≤ end_of s w z → IsKept x y → y.position ≡ k
      → (IsTrue y.full → (e : Execution) × IsNext s w k z e × IsNew e.op) → HasStoppedInPart s w z k y
  -- if a turn is cut short, a section that played its part stopped at its end, and one that didn't begin it where it began
  pub played : (s : Sections) (w z : ℕ) (x : SectionState) → 0 < z → HasPlayed s w z x → HasStoppedInPart s w z (end_of s w z) x
  pub waiting : (s : Sections) (w z : ℕ) (x : SectionState) → 0 < z → HasPlayed s w (z - 1) x → HasStoppedInPart s w z (end_of s w (z - 1)) x
  -- a part that is missing is played at once
  pub missing : (s : Sections) (w z : ℕ) (x : SectionState) → part_of s w (z + 1) ≡ [] → HasPlayed s w z x → HasPlayed s w (z + 1) x
  -- if the catalogue played its part, its plain heap is exactly what the plan says, as the next season asks
  pub planned_end : (s : Sections) (sh : Shape) (z : ℕ) (x : SectionState) → sh.fields ≡ s.fields → 0 < z → x.seasons ≡ 2 * z - 2 → HasPlayed s 0 z x → x.meaning.heap ≡ planned sh (plan_of s) (x.seasons + 1)

-- a part is played from its first command to its last
pub record PartsGoOn : Type 0 where
  -- at first all its commands are left
  pub all : (section : Parts) (z : ℕ) (old : Player) → HasLeft section z (slice_index_or section.parts (z - 1) []) old old
  -- each that is done leaves one fewer
  pub next : (section : Parts) (z : ℕ) (e : Execution) (rest : List Execution) (old x y : Player) → 0 < z → x.view.state.season_seen ≡ Some (turn_word section.number z) → HasLeft section z (e ∷ rest) old x → DoesCommand e x y → HasLeft section z rest old y
  -- with none left the part is played, once the position is stored
  pub done : (section : Parts) (z : ℕ) (old x y : Player) → 0 < z → HasLeft section z [] old x → IsStill x.view.own y.view.own → SaysSame x y → y.view.own.position ≡ x.count → PlaysPart plays.Done section z old y
  -- it stops if the phase was seen as full
  pub full : (section : Parts) (z : ℕ) (rest : List Execution) (old x y : Player) → 0 < z → HasLeft section z rest old x → IsKept x.view.own y.view.own → y.view.own.position ≡ x.count
      → (IsTrue y.view.own.full → (e : Execution) × (more : List Execution) × (rest ≡ e ∷ more) × IsNew e.op) → KnowsFull y.view → PlaysPart plays.Full section z old y

-- a seat that read the phase as full, or moved it there, knows it from then on
pub record FullIsKnown : Type 0 where
  pub read : (v : View) → KnowsFull (after ReadPhase 5 v)
  pub found : (v : View) (n : ℕ) → KnowsFull (after (StorePhase Full) n v)
  pub kept : (v w : View) → Ran v w → Only (λ step. not (moves_phase step)) v w → KnowsFull v → KnowsFull w

-- by a seat's own view, its section's places so far are legal on what the seat can tell
abbrev pub PlacesSoFarAreLegal : Type 0
PlacesSoFarAreLegal =
    (s : Sections) (w k cells : ℕ) (v : View) → IsPossible v → IsFalse v.shape.sharing → v.shape.cells ≡ cells → v.shape.fields ≡ s.fields → v.plan ≡ plan_of s → v.state.section ≡ Some w → HasDone s w k v.own
    → PlacedSoFar s w k cells (map (λ (p : Place). p.cell) v.own.places)

-- the steps of a seat make up its section's commands
pub record StepsMakeCommands : Type 0 where
  -- a step of another sort leaves the play
  pub still : (v : View) (step : Step) (n : ℕ) → leaves_play v.shape.fields step ≡ true → IsStill v.own (after step n v).own
  pub kept : (v : View) (step : Step) (n : ℕ) → keeps_play v.shape.fields step ≡ true → IsKept v.own (after step n v).own
  -- a call of such steps leaves the play, too
  pub still_call : (v w : View) → Ran v w → Only (leaves_play v.shape.fields) v w → IsStill v.own w.own
  pub kept_call : (v w : View) → Ran v w → Only (keeps_play v.shape.fields) v w → IsKept v.own w.own
  -- a store of a mutator is one plain step
  pub stores : (v w : View) (step : Step) (n : ℕ) (op : Op) → IsFalse v.shape.sharing → changes_heap step ≡ true → w ≡ after step n v → Asks v.state v.own.meaning (seen_by v.shape v.plan v.state) step op → IsPlainStep step v w
      → Stores (seen_by v.shape v.plan v.state) (season_of v.state) op v.own w.own
  -- the last word of a new cell gives the next object its place
  pub places : (v : View) (c part word n : ℕ) → part ≡ v.shape.fields + 1 → Places (season_of v.state) c v.own (after (StoreNew c part word) n v).own
  -- a command that stores, in an object of the section or in a variable
  pub stored : (catalogue : Option Heap) (season : ℕ) (op : Op) (x y : SectionState) → (IsNew op → ⊥) → drops x.meaning.heap op ≡ false → Stores catalogue season op x y → SectionDoes catalogue season op x y
  -- one that makes an object
  pub made : (catalogue : Option Heap) (season cell : ℕ) (op : Op) (x m y : SectionState) → IsNew op → Places season cell x m → Stores catalogue season op m y → SectionDoes catalogue season op x y
  -- one that only reads, or stores at nil or in an object of the catalogue
  pub read : (catalogue : Option Heap) (season : ℕ) (op : Op) (x y : SectionState) → stores_nothing x.meaning.heap op ≡ true → IsStill x y → SectionDoes catalogue season op x y
  -- such a one that gives up the register by a plain step which changes nothing
  pub let_go : (catalogue : Option Heap) (season v : ℕ) (op : Op) (x y : SectionState) → stores_nothing x.meaning.heap op ≡ true → Stores catalogue season (ops.Let v v) x y → SectionDoes catalogue season op x y
  -- other steps before and after it
  pub around : (catalogue : Option Heap) (season : ℕ) (op : Op) (x a b y : SectionState) → IsStill x a → SectionDoes catalogue season op a b → IsStill b y → SectionDoes catalogue season op x y
  -- the seat's season and what it sees of the catalogue are those of the plain run
  pub season : (s : Sections) (w z : ℕ) (v : View) → HasTurn s w z v → season_of v.state ≡ turn_word w z
  pub sees : (s : Sections) (w z : ℕ) (v : View) → HasTurn s w z v → seen_by v.shape v.plan v.state ≡ seen_catalogue s w z

-- the state in which nothing has happened is that of each script, at the start of each section
abbrev pub StartIsState : Type 0
StartIsState =
    (s : Sections) (sh : Shape) (n : ℕ) → IsShape sh → IsFalse sh.sharing → 1 ≤ n → n ≤ most_seats → sh.fields ≡ s.fields → sh.sections ≡ length (section_numbers s) → IsStateOf s sh.cells [] (start_state sh (plan_of s) n)

-- if each cell in use is published and reachable, the objects in allocated cells are exactly the reachable ones, with their values
abbrev pub ListedSurvive : Type 0
ListedSurvive =
    (s : Sections) (cells : ℕ) (done : List ℕ) (x : TableState) (listed : List Survivor) → AreCommandsInRange s → IsStateOf s cells done x → HasOnlyReachable x.core
    → AreListed cells (words_of x.core.shape x.core.words).identities (words_of x.core.shape x.core.words).values (words_of x.core.shape x.core.words).allocs listed
    → AreSurvivors (heaps_done s done) listed

-- if each section did all its parts, by events that led to this state and on whose way each state met the rule, each object of each section has a legal place
abbrev pub PlacesAreLegal : Type 0
PlacesAreLegal =
    (s : Sections) (cells : ℕ) (done : List ℕ) (x : TableState) (places : List (List ℕ)) (es : List Event) → IsStateOf s cells done x → DidAll s done → AreCellsOfPlaces s x places
    → Leads es (start_state x.core.shape x.plan 1) x → IsPlaced s cells places

-- if the heap was found full, and each section stopped or ended its part of one turn, its positions are filled for the section that is named
abbrev pub StoppedIsFilled : Type 0
StoppedIsFilled =
    (s : Sections) (cells z named : ℕ) (done : List ℕ) (x : TableState) → IsHeapOf s cells x → HaveStopped s z x.sections → ArePositions s x done → (words_of x.core.shape x.core.words).phase ≡ 5
    → named ≡ reference_in (words_of x.core.shape x.core.words).named → IsFilled s cells named done

-- a heap that is closed after all parts, and after an exact cycle, gives the survivors and the places
abbrev pub PlayEndsWell : Type 0
PlayEndsWell = (s : Sections) (cells : ℕ) (sh : Shape) (seats : List HeapSeat) (w : Words) → AreCommandsInRange s → IsClosed s cells sh seats w → PlayedAll s seats → EndsWell s cells seats w

-- a heap that is closed in phase Full gives positions that are filled
abbrev pub PlayEndsFull : Type 0
PlayEndsFull = (s : Sections) (cells : ℕ) (sh : Shape) (seats : List HeapSeat) (w : Words) (z : ℕ) → IsClosed s cells sh seats w → SeatsStopped s z seats → w.phase ≡ Full → ArePositionsFilled s cells w

-- the report of a closed heap is what the plain run gives
abbrev pub EndIsReported : Type 0
EndIsReported =
    (s : Sections) (cells : ℕ) (sh : Shape) (seats : List HeapSeat) (w : Words) (r : Report) → IsShort s → AreCommandsInRange s → IsClosed s cells sh seats w → PlayedAll s seats → AreParts s seats r.parts.items → ListsWords cells w r → IsReport s cells r
