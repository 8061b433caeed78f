use Rattle.std.proofs.Common.{◌≡◌, ◌+◌, ◌%◌, ◌<◌, List, [], ◌∷◌, ◌++◌, length, map, get_or, set, sym, ap, ◌∙◌, subst}
use Rattle.std.specs.Prelude.{vec_len}
use Rattle.std.proofs.lemmas.List.{length-set, get_or-set_same, get_or-set_other, get_or_default, map-append}
use Rattle.gc_play.specs.declared.workers.Worker.{Worker}
use Rattle.gc_play.specs.Dealing.{TakesLast, seat_number, sections_of_worker, share}
use Rattle.gc_play.proofs.Dealt.{undealt-at, turn-low, last-share, last-same}
use Rattle.gc_play.proofs.gathering.take_back.Goals as goal

abbrev left-of : goal.In-Some → Worker
left-of c = record { mutators = c.pop.new.self; full = c.index_mut.result.now.full }

turn-is : (c : goal.In-Some) → c.args.at % c.len.result ≡ c.args.at % vec_len c.args.workers.now
turn-is c = ap (λ i. c.args.at % i) c.len.ensures

numbers-are : (c : goal.In-Some) → sections_of_worker c.index_mut.result.now ≡ sections_of_worker (left-of c) ++ seat_number c.in-Some.mutator ∷ []
numbers-are c = ap (map seat_number) c.in-Some.ensures.items ∙ map-append seat_number c.pop.new.self.items (c.in-Some.mutator ∷ [])

number-is : (c : goal.In-Some) → seat_number c.in-Some.mutator ≡ c.args.at + 1
number-is c =
    let n = vec_len c.args.workers.now in
    let ws : List Worker = c.args.workers.now.items in
    let x : Worker = c.index_mut.result.now in
    last-same (sections_of_worker (left-of c)) (share n (c.args.at % n) c.args.at) _ _
    (sym (numbers-are c) ∙ last-share n c.args.at ws x c.requires.some c.requires.dealt (c.index_mut.ensures.value ∙ ap (λ i. get_or ws i x) (turn-is c)))

pub returns-clause-dealt : goal.returns-clause-dealt
returns-clause-dealt c =
    undealt-at (vec_len c.args.workers.now) c.args.at (c.args.at % c.len.result) c.args.workers.now.items c.index_mut.result.now (left-of c) c.requires.some (turn-is c) c.requires.dealt c.index_mut.ensures.value
    (numbers-are c ∙ ap (λ v. sections_of_worker (left-of c) ++ v ∷ []) (number-is c))

pub returns-clause-number : goal.returns-clause-number
returns-clause-number c = number-is c

pub returns-clause-takes : goal.returns-clause-takes
returns-clause-takes c =
    let ws : List Worker = c.args.workers.now.items in
    let x : Worker = c.index_mut.result.now in
    let t = c.args.at % c.len.result in
    let low : t < length ws = turn-low (vec_len c.args.workers.now) c.args.at (c.args.at + 1) t ws c.requires.some (turn-is c) c.requires.dealt in
    let new : List Worker = set ws t (left-of c) in
    subst (λ i. TakesLast i c.in-Some.mutator ws new) (turn-is c)
    (record {
      turn = low;
      count = length-set ws t (left-of c);
      last =
          λ d.
          ap (λ (y : Worker). y.mutators.items) (get_or_default ws t d x low ∙ sym c.index_mut.ensures.value)
          ∙ (c.in-Some.ensures.items ∙ ap (λ (y : Worker). y.mutators.items ++ c.in-Some.mutator ∷ []) (sym (get_or-set_same ws t (left-of c) d low)));
      others = λ j d apart. get_or-set_other ws t j (left-of c) d apart;
    })
