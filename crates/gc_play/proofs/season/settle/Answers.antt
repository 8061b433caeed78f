use Rattle.std.proofs.Common.{sym, subst}
use Rattle.gc_table.specs.Seats.{view_of}
use Rattle.warehouse.specs.Ending.{PlaySettles}
use Rattle.warehouse.specs.Turns.{TurnEnds}
use Rattle.gc_play.specs.declared.crew.Catalogue.{Catalogue}
use Rattle.gc_play.specs.Crews.{seat_in}
use Rattle.gc_play.proofs.Catalogues.{stop-absent, stop-playing}
use Rattle.gc_play.proofs.season.settle.Goals as goal

pub returns-in-Playing-clause-leaves : goal.returns-in-Playing-clause-leaves
returns-in-Playing-clause-leaves g c = stop-playing c.args.heap.now c.in-Playing.mutator c.end_play.new.self c.args.catalogue.now c.in-Playing.is c.end_play.ensures.kept c.end_play.ensures.seat c.end_play.ensures.keeps

pub returns-in-Playing-clause-ends : goal.returns-in-Playing-clause-ends
returns-in-Playing-clause-ends g c = subst (λ (b : Catalogue). TurnEnds c.end_play.result (view_of (seat_in b)) (view_of c.end_play.new.self.seat)) (sym c.in-Playing.is) c.end_play.ensures.ends

pub returns-in-Playing-clause-settles : goal.returns-in-Playing-clause-settles
returns-in-Playing-clause-settles g c = subst (λ (b : Catalogue). PlaySettles c.end_play.result (view_of (seat_in b)) (view_of c.end_play.new.self.seat)) (sym c.in-Playing.is) c.end_play.ensures.settles

pub returns-in-Absent-clause-leaves : goal.returns-in-Absent-clause-leaves
returns-in-Absent-clause-leaves g c = stop-absent c.args.heap.now c.in-Absent.seat c.end_play-in-Absent.new.seat c.args.catalogue.now c.in-Absent.is c.end_play-in-Absent.ensures.seat c.end_play-in-Absent.ensures.keeps

pub returns-in-Absent-clause-ends : goal.returns-in-Absent-clause-ends
returns-in-Absent-clause-ends g c = subst (λ (b : Catalogue). TurnEnds c.end_play-in-Absent.result (view_of (seat_in b)) (view_of c.end_play-in-Absent.new.seat)) (sym c.in-Absent.is) c.end_play-in-Absent.ensures.ends

pub returns-in-Absent-clause-settles : goal.returns-in-Absent-clause-settles
returns-in-Absent-clause-settles g c = subst (λ (b : Catalogue). PlaySettles c.end_play-in-Absent.result (view_of (seat_in b)) (view_of c.end_play-in-Absent.new.seat)) (sym c.in-Absent.is) c.end_play-in-Absent.ensures.settles
