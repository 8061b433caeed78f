use Rattle.std.proofs.Common.{Bool, ◌≡◌, false, rules, subst}
use Rattle.gc_table.specs.Seats.{Across, view_of}
use Rattle.mutator_ops.specs.Upgrading.{Upgrades}
use Rattle.seat_turns.specs.Weak.{identity_of}
use Rattle.seat_steps.proofs.Taken.{upgrade-told}
use Rattle.seat_steps.proofs.Whoever.{upgrade-known}
use Rattle.seat_steps.proofs.stepper.Stepper.upgrade.Goals as goal

pub returns-in-Ok-false-clause-told : goal.returns-in-Ok-false-clause-told
returns-in-Ok-false-clause-told c = λ h.
    let weak = c.args.weak in
    let none : c.in-Ok-false.field-0 ≡ false = search rules in
    let s = c.args.self.now.seat in
    let t = c.upgrade_here.new.self.seat in
    upgrade-told c.args.v weak.place (identity_of weak) (view_of s) (view_of t) h (subst (λ (b : Bool). Across (Upgrades c.args.v weak.place (identity_of weak) b) s t) none c.in-Ok-false.ensures.upgrades.acts)

pub returns-in-Ok-false-clause-whoever : goal.returns-in-Ok-false-clause-whoever
returns-in-Ok-false-clause-whoever c =
    let weak = c.args.weak in
    let none : c.in-Ok-false.field-0 ≡ false = search rules in
    let s = c.args.self.now.seat in
    let t = c.upgrade_here.new.self.seat in
    upgrade-known c.args.v weak.place (identity_of weak) (view_of s) (view_of t) (subst (λ (b : Bool). Across (Upgrades c.args.v weak.place (identity_of weak) b) s t) none c.in-Ok-false.ensures.upgrades.acts)
