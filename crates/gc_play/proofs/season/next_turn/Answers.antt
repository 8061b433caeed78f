use Rattle.std.proofs.Common.{sym, subst}
use Rattle.gc_table.specs.Seats.{view_of}
use Rattle.warehouse.specs.Turns.{TurnEnds}
use Rattle.gc_play.specs.declared.crew.Catalogue.{Catalogue}
use Rattle.gc_play.specs.Crews.{seat_in}
use Rattle.gc_play.proofs.Catalogues.{stop-absent, stop-playing}
use Rattle.gc_play.proofs.season.next_turn.Goals as goal

pub returns-in-Playing-clause-leaves : goal.returns-in-Playing-clause-leaves
returns-in-Playing-clause-leaves g c = stop-playing c.args.heap.now c.in-Playing.mutator c.next_turn.new.self c.args.catalogue.now c.in-Playing.is c.next_turn.ensures.kept c.next_turn.ensures.seat c.next_turn.ensures.keeps

pub returns-in-Playing-clause-ends : goal.returns-in-Playing-clause-ends
returns-in-Playing-clause-ends g c = subst (λ (b : Catalogue). TurnEnds c.next_turn.result (view_of (seat_in b)) (view_of c.next_turn.new.self.seat)) (sym c.in-Playing.is) c.next_turn.ensures.ends

pub returns-in-Absent-clause-leaves : goal.returns-in-Absent-clause-leaves
returns-in-Absent-clause-leaves g c = stop-absent c.args.heap.now c.in-Absent.seat c.turn_season.new.seat c.args.catalogue.now c.in-Absent.is c.turn_season.ensures.seat c.turn_season.ensures.keeps

pub returns-in-Absent-clause-ends : goal.returns-in-Absent-clause-ends
returns-in-Absent-clause-ends g c = subst (λ (b : Catalogue). TurnEnds c.turn_season.result (view_of (seat_in b)) (view_of c.turn_season.new.seat)) (sym c.in-Absent.is) c.turn_season.ensures.ends
