use Rattle.std.proofs.Common.{◌≡◌, ◌+◌, ◌%◌, ◌<◌, List, [], ◌∷◌, ◌++◌, length, map, All, get_or, sym, ap, ◌∙◌, subst, arith}
use Rattle.std.specs.Prelude.{vec_len}
use Rattle.std.proofs.lemmas.List.{map-append, length-map}
use Rattle.std.proofs.lemmas.List.Elements.{All-set, All-push}
use Rattle.plain_heap.specs.Sections.{Parts, section_of, counted, joined, parts_of}
use Rattle.warehouse.specs.Playing.{HasRoomForCommands}
use Rattle.warehouse.specs.declared.mutator.Mutator.{Mutator}
use Rattle.gc_play.specs.declared.workers.Worker.{Worker}
use Rattle.gc_play.specs.Dealing.{StandsAt, seat_number, sections_of_worker}
use Rattle.gc_play.proofs.Dealt.{dealt-at, turn-low}
use Rattle.gc_play.proofs.Parts.{counted-long, counted-at}
use Rattle.gc_play.proofs.Starting.{new-number, new-made, new-objects, new-stands}
use Rattle.gc_play.proofs.crew.deal_one.Goals as goal

pub bounds-warehouses-at : goal.bounds-warehouses-at
bounds-warehouses-at c =
    let s = c.args.script.now.sections in
    omega (arith, c.requires.at, ap length c.warehouses.ensures.same, length-map (counted 1 (length s.warehouses)) (section_of s), counted-long 1 (length s.warehouses))

abbrev given-to : goal.In-Ok-push → Worker
given-to c = record { mutators = c.push.new.self; full = c.index_mut.result.now.full }

turn-is : (c : goal.In-Ok-push) → c.args.at % c.len.result ≡ c.args.at % vec_len c.args.workers.now
turn-is c = ap (λ i. c.args.at % i) c.len.ensures

pub returns-in-Ok-push-clause-dealt : goal.returns-in-Ok-push-clause-dealt
returns-in-Ok-push-clause-dealt c =
    let x : Worker = c.index_mut.result.now in
    let m : Mutator = c.in-Ok.mutator in
    let num : seat_number m ≡ c.args.at + 1 = new-number c.args._heap.now c.args.script.now.sections (c.args.at + 1) c.args.seat c.requires.seat m c.in-Ok.ensures.made.0 in
    dealt-at (vec_len c.args.workers.now) c.args.at (c.args.at % c.len.result) c.args.workers.now.items x (given-to c) c.requires.some (turn-is c) c.requires.dealt c.index_mut.ensures.value
    (ap (map seat_number) c.in-Ok-push.ensures.items ∙ (map-append seat_number x.mutators.items (m ∷ []) ∙ ap (λ v. sections_of_worker x ++ v ∷ []) num))

-- the section that the player was made for
room-of : (c : goal.In-Ok-push) → HasRoomForCommands (joined (parts_of c.args.script.now.sections (c.args.at + 1))) c.in-Ok.mutator
room-of c =
    let s = c.args.script.now.sections in
    let place : c.index-warehouses-at.result ≡ section_of s (c.args.at + 1) = c.index-warehouses-at.is ∙ (ap (λ l. get_or l c.args.at c.index-warehouses-at.result) c.warehouses.ensures.same ∙ (counted-at s 1 (length s.warehouses) c.args.at c.index-warehouses-at.result c.requires.at ∙ ap (section_of s) (let k : 1 + c.args.at ≡ c.args.at + 1 = omega arith in k))) in
    subst (λ (p : Parts). HasRoomForCommands (joined p.parts) c.in-Ok.mutator) place (c.in-Ok.ensures.room (new-made c.args._heap.now s (c.args.at + 1) c.args.seat c.requires.seat) (new-objects c.args._heap.now s (c.args.at + 1) c.args.seat c.requires.seat))

pub returns-in-Ok-push-clause-played : goal.returns-in-Ok-push-clause-played
returns-in-Ok-push-clause-played c =
    let P : Mutator → Type 0 = StandsAt c.args._heap.now c.args.script.now.sections 0 in
    let ws : List Worker = c.args.workers.now.items in
    let x : Worker = c.index_mut.result.now in
    let m : Mutator = c.in-Ok.mutator in
    let t = c.args.at % c.len.result in
    let low : t < length ws = turn-low (vec_len c.args.workers.now) c.args.at c.args.at t ws c.requires.some (turn-is c) c.requires.dealt in
    let all : All P x.mutators.items = subst (λ (y : Worker). All P y.mutators.items) (sym c.index_mut.ensures.value) (c.requires.played t x low) in
    let one : P m = new-stands c.args._heap.now c.args.script.now.sections (c.args.at + 1) c.args.seat c.requires.seat m c.in-Ok.ensures.made.0 (omega arith) (omega (arith, c.requires.at)) c.in-Ok.ensures.made.1 c.in-Ok.ensures.made.2 c.in-Ok.ensures.made.3 c.in-Ok.ensures.made.4 (room-of c) in
    All-set (λ (y : Worker). All P y.mutators.items) ws t (given-to c) (subst (All P) (sym c.in-Ok-push.ensures.items) (All-push P x.mutators.items m all one)) c.requires.played
