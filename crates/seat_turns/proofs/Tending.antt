-- The steps of a tracer inside the world, and what they pop.
use Rattle.std.proofs.Common.{ℕ, ◌≡◌, ◌+◌, List, [], ◌∷◌, refl, sym, ap, ◌∙◌, arith, Bool, true, false, cond}
use Rattle.std.proofs.lemmas.Bool.{true≢false, and_parts}
use Rattle.mark_core.specs.declared.kinds.Step.{Step}
use Rattle.mark_core.specs.declared.kinds.Step.TheVariants.{NextOfCards, Pop, ReadStat}
use Rattle.gc_table.specs.Log.{Only, all_steps, events}
use Rattle.gc_table.specs.Running.{Ran, changes_section}
use Rattle.gc_table.specs.declared.view.Entry.{Entry}
use Rattle.gc_table.specs.declared.view.View.{View}
use Rattle.gc_table.proofs.History.Log.{events-none, only-more, only-none}
use Rattle.gc_table.proofs.Running.{own-kept, ran-events, ran-join, ran-only, ran-refl}
use Rattle.packet_pools.specs.Counts.{count_of}
use Rattle.packet_pools.specs.OnlyTraced.{OnlyTracedBy, traces_cells}
use Rattle.packet_pools.specs.Seeking.{moves_packet, only_moves}
use Rattle.packet_pools.proofs.Counting.{count-join}
use Rattle.tracer.specs.Tally.{pops}
use Rattle.cache_refills.specs.Pace.Payment.{reads_number}
use Rattle.seat_turns.specs.Tending.{MarksAndRecycles, MarksSome, Tends, tends_inside}

-- a step of tracing is one that a tracer may take inside
traces-tend : (step : Step) → traces_cells step ≡ true → tends_inside step ≡ true
traces-tend NextOfCards e = refl
traces-tend (ReadStat which) e = absurd (true≢false (sym e))
traces-tend step e = e

pub tends-later : {b : Bool} (v w : View) → OnlyTracedBy b v w → Only tends_inside v w
tends-later v w k = only-more traces_cells tends_inside traces-tend v w k.only

pub tends-none : (v : View) → Tends 0 v v
tends-none v = record { ran = ran-refl v; only = only-none tends_inside v; done = ap (count_of pops) (events-none v); own = refl }

pub tends-join : (m n k : ℕ) (u v w : View) → m + n ≡ k → Tends m u v → Tends n v w → Tends k u w
tends-join m n k u v w e a b =
    record {
      ran = ran-join u v w a.ran b.ran;
      only = ran-only tends_inside u v w a.ran b.ran a.only b.only;
      done = ap (count_of pops) (ran-events u v w a.ran b.ran) ∙ (count-join pops (events u v) (events v w) ∙ ((λ i. a.done i + b.done i) ∙ e));
      own = b.own ∙ a.own;
    }

-- steps of tracing that popped this many cells
pub tends-by : {b : Bool} (n : ℕ) (v w : View) → OnlyTracedBy b v w → count_of pops (events v w) ≡ n → Tends n v w
tends-by n v w k done = record { ran = k.ran; only = tends-later v w k; done = done; own = k.own }

-- a move of packets pops nothing
move-pops : (qs : List ℕ) (step : Step) (n : ℕ) → moves_packet qs step ≡ true → pops step n ≡ false
move-pops qs (Pop p) n e = sym e
move-pops qs step n e = refl

pub moves-pop : (qs : List ℕ) (es : List Entry) → only_moves qs es ≡ true → count_of pops es ≡ 0
moves-pop qs [] e = refl
moves-pop qs (x ∷ xs) e =
    let h = and_parts (moves_packet qs x.step) (only_moves qs xs) e in
    λ i. cond (move-pops qs x.step x.found h.0 i) 1 0 + moves-pop qs xs h.1 i

-- a number that is read pops nothing, and changes nothing either
reads-pop : (es : List Entry) → all_steps reads_number es ≡ true → count_of pops es ≡ 0
reads-pop [] e = refl
reads-pop (x ∷ xs) e =
    let h = and_parts (reads_number x.step) (all_steps reads_number xs) e in
    λ i. cond (one x.step x.found h.0 i) 1 0 + reads-pop xs h.1 i
  where
    one : (step : Step) (n : ℕ) → reads_number step ≡ true → pops step n ≡ false
    one (Pop p) n k = absurd (true≢false (sym k))
    one step n k = refl

reads-tend : (step : Step) → reads_number step ≡ true → tends_inside step ≡ true
reads-tend (ReadStat which) e = e
reads-tend step e = absurd (true≢false (sym e))

reads-own : (step : Step) → reads_number step ≡ true → changes_section step ≡ false
reads-own (ReadStat which) e = refl
reads-own step e = absurd (true≢false (sym e))

pub tends-read : (v w : View) → Ran v w → Only reads_number v w → Tends 0 v w
tends-read v w ran only =
    record {
      ran = ran;
      only = only-more reads_number tends_inside reads-tend v w only;
      done = reads-pop (events v w) only;
      own = own-kept reads_number reads-own v w ran only;
    }

-- a turn's marking as a whole
pub marks-tend : (n : ℕ) (v w : View) → MarksSome n v w → Tends n v w
marks-tend n v w m = tends-join n 0 n v m.between w (omega arith) m.traces.tends m.cards.tends

pub recycles-tend : (n : ℕ) (v w : View) → MarksAndRecycles n v w → Tends n v w
recycles-tend n v w m = tends-join n 0 n v m.between w (omega arith) m.traces.tends m.tends
