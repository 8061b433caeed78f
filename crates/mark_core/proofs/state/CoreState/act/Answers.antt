use Rattle.std.proofs.Common.{◌≡◌, set, sym, subst, None, ◌∙◌, ap}
use Rattle.mark_core.specs.Steps.{Core, failing_part, after_event}
use Rattle.mark_core.specs.Bounds.{IsBounded}
use Rattle.mark_core.specs.Laws.{IsCore, NumbersFit}
use Rattle.mark_core.proofs.CoreKept.{core_kept}
use Rattle.mark_core.proofs.Doing.{Ready, ready, seat-within, core_of, done, numbers-fit}
use Rattle.mark_core.proofs.state.CoreState.act.Goals as goal

pub index-requires : goal.index-requires
index-requires c =
    let core : Core = core_of c.self.inside.shape c.self.inside.words.items c.self.inside.seats.items in
    let P : Core → Type 0 = λ d. failing_part d c.args.event.now ≡ None in
    rw c.self.inside.seats.ok.0 (seat-within core c.args.event.now (subst P (sym c.self.view_is) c.requires))

pub index-old-requires : goal.index-old-requires
index-old-requires c =
    let core : Core = core_of c.self.inside.shape c.self.inside.words.items c.self.inside.seats.items in
    let P : Core → Type 0 = λ d. failing_part d c.args.event.now ≡ None in
    let r : Ready core c.args.event.now c.index.result.now = ready core c.args.event.now c.index.result.now c.self.invariant.0 (subst P (sym c.self.view_is) c.requires) c.index.ensures in
    rw (c.address-at.ensures, c.self.inside.words.ok.0) r.within

pub act-word-requires : goal.act-word-requires
act-word-requires c =
    let core : Core = core_of c.self.inside.shape c.self.inside.words.items c.self.inside.seats.items in
    let P : Core → Type 0 = λ d. failing_part d c.args.event.now ≡ None in
    let r : Ready core c.args.event.now c.index.result.now = ready core c.args.event.now c.index.result.now c.self.invariant.0 (subst P (sym c.self.view_is) c.requires) c.index.ensures in
    record { room = r.room; number = r.number }

pub index_mut-requires : goal.index_mut-requires
index_mut-requires c =
    let core : Core = core_of c.self.inside.shape c.self.inside.words.items c.self.inside.seats.items in
    let P : Core → Type 0 = λ d. failing_part d c.args.event.now ≡ None in
    let r : Ready core c.args.event.now c.index.result.now = ready core c.args.event.now c.index.result.now c.self.invariant.0 (subst P (sym c.self.view_is) c.requires) c.index.ensures in
    rw (c.address-at.ensures, c.self.inside.words.ok.0) r.within

pub index_mut-requires-2 : goal.index_mut-requires-2
index_mut-requires-2 c =
    let core : Core = core_of c.self.inside.shape c.self.inside.words.items c.self.inside.seats.items in
    let P : Core → Type 0 = λ d. failing_part d c.args.event.now ≡ None in
    let r : Ready core c.args.event.now c.index.result.now = ready core c.args.event.now c.index.result.now c.self.invariant.0 (subst P (sym c.self.view_is) c.requires) c.index.ensures in
    rw c.self.inside.seats.ok.0 r.seat

pub change_others-requires-clause-few : goal.change_others-requires-clause-few
change_others-requires-clause-few c =
    λ e.
    let core : Core = core_of c.self.inside.shape c.self.inside.words.items c.self.inside.seats.items in
    let P : Core → Type 0 = λ d. failing_part d c.args.event.now ≡ None in
    let r : Ready core c.args.event.now c.index.result.now = ready core c.args.event.now c.index.result.now c.self.invariant.0 (subst P (sym c.self.view_is) c.requires) c.index.ensures in
    rw c.self.inside.seats.ok.0 (r.split e)

pub invariant_of-self : goal.invariant_of-self
invariant_of-self c =
    let core : Core = core_of c.self.inside.shape c.self.inside.words.items c.self.inside.seats.items in
    let P : Core → Type 0 = λ d. failing_part d c.args.event.now ≡ None in
    let r : Ready core c.args.event.now c.index.result.now = ready core c.args.event.now c.index.result.now c.self.invariant.0 (subst P (sym c.self.view_is) c.requires) c.index.ensures in
    let d = done core c.args.event.now c.index.result.now c.act-word.new.s c.address-at.result c.index-old.result.now c.act-word.result c.change_others.new.seats.items r c.index.ensures c.address-at.ensures c.index-old.ensures c.act-word.ensures.word c.act-word.ensures.seat c.change_others.ensures.seats in
    let after : core_of c.self.inside.shape (set c.self.inside.words.items c.address-at.result c.act-word.result) c.change_others.new.seats.items ≡ after_event core c.args.event.now = d ∙ sym r.after in
    let fits : NumbersFit c.args.event.now.step = numbers-fit c.self.inside.shape c.index.result.now c.args.event.now.step c.index-old.result.now c.act-word.result c.act-word.ensures.word c.act-word.type_inv c.has_value.ensures in
    (subst IsBounded (sym d) r.bounded, c.change_others.ensures.room, subst IsCore (sym after) (core_kept core c.args.event.now c.self.invariant.2 fits (subst P (sym c.self.view_is) c.requires)))

pub returns : goal.returns
returns c =
    let core : Core = core_of c.self.inside.shape c.self.inside.words.items c.self.inside.seats.items in
    let P : Core → Type 0 = λ d. failing_part d c.args.event.now ≡ None in
    let r : Ready core c.args.event.now c.index.result.now = ready core c.args.event.now c.index.result.now c.self.invariant.0 (subst P (sym c.self.view_is) c.requires) c.index.ensures in
    let d = done core c.args.event.now c.index.result.now c.act-word.new.s c.address-at.result c.index-old.result.now c.act-word.result c.change_others.new.seats.items r c.index.ensures c.address-at.ensures c.index-old.ensures c.act-word.ensures.word c.act-word.ensures.seat c.change_others.ensures.seats in
    d ∙ sym r.after ∙ ap (λ (x : Core). after_event x c.args.event.now) c.self.view_is
