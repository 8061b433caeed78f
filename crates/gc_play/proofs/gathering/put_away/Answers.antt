use Rattle.std.proofs.Common.{ℕ, ◌∷◌, List, length, get_or, ap, sym, ◌∙◌, subst, add_comm, arith}
use Rattle.play_report.specs.declared.report.Part.{Part}
use Rattle.gc_table.specs.declared.seat.HeapSeat.{HeapSeat}
use Rattle.gc_play.specs.Crews.{AreAfter, AreSaid, IsSeatLeftBy, KnowsEnd, Numbered, SettlesEnd}
use Rattle.gc_play.proofs.Parts.{numbered-front, one-before}
use Rattle.gc_play.proofs.Leaving.{catalogue-left, catalogue-says, crew-knows, crew-settles, handed-seat, said-front}
use Rattle.gc_play.proofs.gathering.put_away.Goals as goal

pub returns-in-Ok-hand_over-clause-left : goal.returns-in-Ok-hand_over-clause-left
returns-in-Ok-hand_over-clause-left c =
    let r = c.args.ended in
    let h = c.args.heap.now in
    let s = c.args.script.now.sections in
    let z = c.args.season in
    let crew = c.args.crew in
    let o = c.hand_catalogue-first.result in
    let x : HeapSeat = o.0 in
    let xs = c.gather.new.seats.items in
    let part : Part = record { said = o.1; dropped = o.3; places = o.2 } in
    let P : ℕ → HeapSeat → Type 0 = IsSeatLeftBy r h s z in
    let e = c.in-Ok-hand_over.ensures in
    let first = handed-seat crew.catalogue x o.1.items o.2.items o.3 c.hand_catalogue-first.ensures in
    record {
      season = c.requires.season;
      all = c.requires.all;
      left = subst (Numbered P 0) (sym e.seats) (numbered-front P 0 x xs (catalogue-left r h s z crew x first c.requires.crew) c.in-Ok.ensures.seats);
      parts = omega (arith, ap length e.parts, c.in-Ok.ensures.parts);
      said =
          subst (λ xs. AreSaid r s z 0 xs c.hand_over.new.parts.items) (sym e.seats)
          (subst (AreSaid r s z 0 (x ∷ xs)) (sym e.parts) (said-front r s z 0 x part xs c.gather.new.parts.items (catalogue-says r h s z crew x part c.requires.crew c.hand_catalogue-first.ensures) c.in-Ok.ensures.said));
      knows = subst (KnowsEnd r) (sym e.seats) (crew-knows r h s z crew x xs first c.requires.crew c.in-Ok.ensures.knows);
      settles = subst (SettlesEnd r) (sym e.seats) (crew-settles r h s z crew x xs first c.requires.crew);
    }

pub returns-in-Ok-hand_over-clause-tracers : goal.returns-in-Ok-hand_over-clause-tracers
returns-in-Ok-hand_over-clause-tracers c =
    let n = length c.args.script.now.sections.warehouses in
    subst (λ k. AreAfter k c.args.crew.tracers.items c.hand_over.new.seats.items) (add_comm n 1)
    (one-before c.hand_catalogue-first.result.0 n c.args.crew.tracers.items c.gather.new.seats.items c.hand_over.new.seats.items c.in-Ok.ensures.tracers c.in-Ok-hand_over.ensures.seats)

pub returns-in-Ok-hand_over-clause-first : goal.returns-in-Ok-hand_over-clause-first
returns-in-Ok-hand_over-clause-first c d =
    let o = c.hand_catalogue-first.result in
    ap (λ (l : List HeapSeat). get_or l 0 d) c.in-Ok-hand_over.ensures.seats ∙ sym (handed-seat c.args.crew.catalogue o.0 o.1.items o.2.items o.3 c.hand_catalogue-first.ensures)
