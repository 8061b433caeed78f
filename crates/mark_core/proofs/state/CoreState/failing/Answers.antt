use Rattle.std.proofs.Common.{◌<◌, ◌≤◌, length, arith, ap, ◌∙◌}
use Rattle.mark_core.specs.Steps.{Core, failing_part}
use Rattle.mark_core.proofs.Doing.{core_of, failing_past, failing_spent, failing_at}
use Rattle.mark_core.proofs.state.CoreState.failing.Goals as goal

pub returns-then-i-len : goal.returns-then-i-len
returns-then-i-len c =
    let core : Core = core_of c.self.inside.shape c.self.inside.words.items c.self.inside.seats.items in
    let past : length core.seats ≤ c.args.event.now.seat = omega (arith, c.len.ensures, c.if-i-len.true, c.self.inside.seats.ok.0) in
    failing_past core c.args.event.now past ∙ ap (λ (d : Core). failing_part d c.args.event.now) c.self.view_is

pub returns-then-s : goal.returns-then-s
returns-then-s c =
    let core : Core = core_of c.self.inside.shape c.self.inside.words.items c.self.inside.seats.items in
    let inside : c.args.event.now.seat < length core.seats = omega (arith, c.len.ensures, c.if-i-len.false, c.self.inside.seats.ok.0) in
    failing_spent core c.args.event.now c.index-s.result.now inside c.index-s.ensures c.if-s.true ∙ ap (λ (d : Core). failing_part d c.args.event.now) c.self.view_is

pub returns : goal.returns
returns c =
    let core : Core = core_of c.self.inside.shape c.self.inside.words.items c.self.inside.seats.items in
    let inside : c.args.event.now.seat < length core.seats = omega (arith, c.len.ensures, c.if-i-len.false, c.self.inside.seats.ok.0) in
    failing_at core c.args.event.now c.index-s.result.now c.failing_part.result inside c.index-s.ensures c.if-s.false (rw (c.as_slice.ensures.value, c.as_slice-2.ensures.value) at c.failing_part.ensures)
    ∙ ap (λ (d : Core). failing_part d c.args.event.now) c.self.view_is
