use Rattle.std.proofs.Common.{refl, ap, ◌∙◌, inl}
use Rattle.mark_core.specs.declared.kinds.Phase.TheVariants.{Drain}
use Rattle.mark_core.specs.declared.seat.SeatState.{SeatState}
use Rattle.test_operations.proofs.tests.stops.begins_drain.Goals as goal

pub drains-requires-clause-begins : goal.drains-requires-clause-begins
drains-requires-clause-begins c = inl c.requires.1

pub returns-clause-openable : goal.returns-clause-openable
returns-clause-openable c =
    let e = c.drains.ensures in record { knows = e.alone.knows; closed = e.opened ∙ ap (λ (s : SeatState). s.opened) c.requires.0.1; phase = Drain; shared = refl; known = e.alone.phase }
