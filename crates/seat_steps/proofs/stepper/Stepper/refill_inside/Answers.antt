use Rattle.std.proofs.Common.{◌≡◌, ◌-◌, arith, refl}
use Rattle.gc_table.specs.Seats.{view_of}
use Rattle.cache_refills.specs.declared.pieces.Piece.TheVariants as pieces
use Rattle.seat_steps.specs.Refilling.{blocks_of, reach}
use Rattle.seat_steps.proofs.Answered.{cycle-kept}
use Rattle.seat_steps.proofs.Counted.{pays-refill, refill-at}
use Rattle.seat_steps.proofs.Refilled.{ended-of, fails-at, free-of, next-of, next-within, refills-done, refills-ended, refills-next, refills-out, seeks-at}
use Rattle.seat_steps.proofs.stepper.Stepper.refill_inside.Goals as goal

pub note_seen-requires : goal.note_seen-requires
note_seen-requires c =
    let x = c.args.self.now in
    let w = view_of c.refill_once.new.seat in
    let a = c.in-Ok-Next in
    let first = c.saturating_sub.ensures in
    let second = c.min-most.ensures in
    let blocks = c.blocks-blocks.ensures in
    let reaches : c.min-most.result ≡ reach c.args.most x = omega (arith, first, second, blocks) in
    let t = next-of x.block c.min-most.result a.next a.field-0 (view_of x.seat) w a.field-0-is a.ensures.sought in
    let below = next-within c.args.most x w (x.inside c.requires.inside).holds.sits.1 a.next (seeks-at c.min-most.result c.args.most (pieces.Next a.next) x w reaches t) in
    let is = a.next-is in
    record { next = omega (arith, below, is) }

pub returns-in-Ok-Free : goal.returns-in-Ok-Free
returns-in-Ok-Free c =
    let x = c.args.self.now in
    let a = c.in-Ok-Free in
    let first = c.saturating_sub.ensures in
    let second = c.min-most.ensures in
    let blocks = c.blocks-blocks.ensures in
    let reaches : c.min-most.result ≡ reach c.args.most x = omega (arith, first, second, blocks) in
    record {
      refills =
          refills-done c.args.most c.min-most.result x _ c.begin_search.new.self reaches (x.inside c.requires.inside).holds.sits.1
          (free-of x.block c.min-most.result a.field-0 (view_of x.seat) (view_of c.refill_once.new.seat) a.field-0-is a.ensures.sought)
          c.begin_search.ensures.begins
          c.requires.inside
          c.requires.inside
          (record { heap = c.refill_once.ensures.same; leaves = c.refill_once.ensures.leaves; world = refl; name_is = refl; stops = refl; cycle = cycle-kept x _ refl });
      pays = let b = c.begin_search.ensures.begins in pays-refill c.args.most c.min-most.result c.refill_once.new.paid c.refill_once.new.seat x c.begin_search.new.self reaches b.seat b.paid_is c.refill_once.ensures.pays;
    }

pub returns-in-Ok-Next : goal.returns-in-Ok-Next
returns-in-Ok-Next c =
    let x = c.args.self.now in
    let a = c.in-Ok-Next in
    let first = c.saturating_sub.ensures in
    let second = c.min-most.ensures in
    let blocks = c.blocks-blocks.ensures in
    let reaches : c.min-most.result ≡ reach c.args.most x = omega (arith, first, second, blocks) in
    record {
      refills =
          refills-next c.args.most c.min-most.result x _ c.note_seen.new.self reaches (x.inside c.requires.inside).holds.sits.1 refl refl c.requires.inside c.requires.inside
          (record { heap = c.refill_once.ensures.same; leaves = c.refill_once.ensures.leaves; world = refl; name_is = refl; stops = refl; cycle = cycle-kept x _ refl })
          _
          a.next
          c.note_seen.result
          a.next-is
          (next-of x.block c.min-most.result a.next a.field-0 (view_of x.seat) (view_of c.refill_once.new.seat) a.field-0-is a.ensures.sought)
          c.note_seen.ensures.notes;
      pays = let b = c.note_seen.ensures.notes in pays-refill c.args.most c.min-most.result c.refill_once.new.paid c.refill_once.new.seat x c.note_seen.new.self reaches b.seat b.paid_is c.refill_once.ensures.pays;
    }

pub returns-in-Ok-Ended : goal.returns-in-Ok-Ended
returns-in-Ok-Ended c =
    let x = c.args.self.now in
    let a = c.in-Ok-Ended in
    let first = c.saturating_sub.ensures in
    let second = c.min-most.ensures in
    let blocks = c.blocks-blocks.ensures in
    let reaches : c.min-most.result ≡ reach c.args.most x = omega (arith, first, second, blocks) in
    let left : c.blocks-blocks.result - x.block ≡ blocks_of x - x.block = omega (arith, blocks) in
    record {
      refills =
          refills-ended c.args.most c.min-most.result x _ c.note_seen-in-Ok-Ended.new.self reaches (x.inside c.requires.inside).holds.sits.1 refl refl c.requires.inside c.requires.inside
          (record { heap = c.refill_once.ensures.same; leaves = c.refill_once.ensures.leaves; world = refl; name_is = refl; stops = refl; cycle = cycle-kept x _ refl })
          _
          c.note_seen-in-Ok-Ended.result
          left
          x.within
          (ended-of x.block c.min-most.result a.field-0 (view_of x.seat) (view_of c.refill_once.new.seat) a.field-0-is a.ensures.sought)
          c.note_seen-in-Ok-Ended.ensures.notes;
      pays = let b = c.note_seen-in-Ok-Ended.ensures.notes in pays-refill c.args.most c.min-most.result c.refill_once.new.paid c.refill_once.new.seat x c.note_seen-in-Ok-Ended.new.self reaches b.seat b.paid_is c.refill_once.ensures.pays;
    }

pub returns-in-Err : goal.returns-in-Err
returns-in-Err c =
    let x = c.args.self.now in
    let e = c.in-Err.ensures in
    let first = c.saturating_sub.ensures in
    let second = c.min-most.ensures in
    let blocks = c.blocks-blocks.ensures in
    let reaches : c.min-most.result ≡ reach c.args.most x = omega (arith, first, second, blocks) in
    record {
      refills =
          refills-out c.args.most c.in-Err.came c.deref.result.now x _ (x.inside c.requires.inside).holds.sits.1 e.err (fails-at c.min-most.result c.args.most c.in-Err.came x (view_of c.refill_once.new.seat) reaches e.found) c.requires.inside refl
          (record { heap = c.refill_once.ensures.same; leaves = c.refill_once.ensures.leaves; world = refl; name_is = refl; stops = refl; cycle = cycle-kept x _ refl })
          (record { block = refl; seen = refl });
      pays = refill-at c.args.most c.min-most.result c.refill_once.new.paid x (view_of c.refill_once.new.seat) reaches c.refill_once.ensures.pays;
    }

pub returns-in-Ok-MarkingDone-clause-pays : goal.returns-in-Ok-MarkingDone-clause-pays
returns-in-Ok-MarkingDone-clause-pays c =
    let x = c.args.self.now in
    let first = c.saturating_sub.ensures in
    let second = c.min-most.ensures in
    let blocks = c.blocks-blocks.ensures in
    let reaches : c.min-most.result ≡ reach c.args.most x = omega (arith, first, second, blocks) in
    refill-at c.args.most c.min-most.result c.refill_once.new.paid x (view_of c.refill_once.new.seat) reaches c.refill_once.ensures.pays
