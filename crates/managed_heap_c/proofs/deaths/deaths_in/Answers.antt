use Rattle.std.proofs.Common.{inl, inr, refl}
use Rattle.std.proofs.lemmas.Bool.{OnFalse_at, OnTrue_at}
use Rattle.managed_heap_c.proofs.deaths.deaths_in.Goals as goal

pub returns-then-not-has_room : goal.returns-then-not-has_room
returns-then-not-has_room c = record { deaths = inl (inl (refl, OnFalse_at c.if-not-has_room.true c.has_room.ensures.none, refl), refl, refl) }

pub returns-in-Done : goal.returns-in-Done
returns-in-Done c =
    let g = c.go_through in
    record {
      deaths = inr (
        OnTrue_at c.if-not-has_room.false c.has_room.ensures.room,
        record { emptied = c.forget.new.self; empties = c.in-Done.ensures.operates; within = g.ensures.within; goes = g.ensures.goes },
      );
    }

pub returns-in_default : goal.returns-in_default
returns-in_default c = record { deaths = inl (inr (OnTrue_at c.if-not-has_room.false c.has_room.ensures.room, c.in_default.not-Done, c.forget.ensures.operates), refl, refl) }
