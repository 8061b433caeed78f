use Rattle.std.proofs.Common.{ℕ, ◌≡◌, [], ◌∷◌, ◌++◌, refl, ap, ◌∙◌, true}
use Rattle.mark_core.specs.declared.kinds.Step.TheVariants.{ReadCount, SeeHelp}
use Rattle.gc_table.specs.Seats.{view_of}
use Rattle.gc_table.specs.Log.{events, event}
use Rattle.gc_table.specs.declared.view.View.{View}
use Rattle.gc_table.specs.Running.{Ran}
use Rattle.gc_table.specs.Taking.{after}
use Rattle.gc_table.proofs.History.Log.{events-after, only-after}
use Rattle.gc_table.proofs.Running.{ran-events, ran-join, ran-only, ran-took}
use Rattle.gc_cycle.specs.Mutating.{stays_calm}
use Rattle.gc_cycle.specs.Events.{Sort, never}
use Rattle.gc_cycle.specs.Sorts.{joins, leaves}
use Rattle.gc_cycle.specs.Statistics.{leaves_numbers}
use Rattle.gc_cycle.proofs.Ends.Finishes.{never-both}
use Rattle.gc_cycle.proofs.SectionKept.{goes-out, out-join}
use Rattle.gc_cycle.proofs.stopping.is_wanted.Goals as goal

pub returns-then-not-has_flag-clause-out : goal.returns-then-not-has_flag-clause-out
returns-then-not-has_flag-clause-out c =
    let v : View = view_of c.args.seat.now in
    let w : View = view_of c.see_help.new.seat in
    let e = c.see_help.ensures.view in
    goes-out v w (ran-took v w SeeHelp refl (c.see_help.result, e)) (only-after stays_calm v w SeeHelp c.see_help.result refl e.0)

pub returns-then-not-all_empty-clause-out : goal.returns-then-not-all_empty-clause-out
returns-then-not-all_empty-clause-out c =
    let v : View = view_of c.args.seat.now in
    let w : View = view_of c.see_help.new.seat in
    let x : View = view_of c.all_empty.new.seat in
    let e = c.see_help.ensures.view in
    let t = c.all_empty.ensures.count in
    out-join v w x (goes-out v w (ran-took v w SeeHelp refl (c.see_help.result, e)) (only-after stays_calm v w SeeHelp c.see_help.result refl e.0))
    (goes-out w x c.all_empty.ensures.only.ran (only-after stays_calm w x ReadCount t.0 refl t.1))

pub returns-clause-out : goal.returns-clause-out
returns-clause-out c =
    let v : View = view_of c.args.seat.now in
    let w : View = view_of c.see_help.new.seat in
    let x : View = view_of c.all_empty.new.seat in
    let e = c.see_help.ensures.view in
    let t = c.all_empty.ensures.count in
    out-join v x (view_of c.has_blocks_left.new.seat)
    (out-join v w x (goes-out v w (ran-took v w SeeHelp refl (c.see_help.result, e)) (only-after stays_calm v w SeeHelp c.see_help.result refl e.0))
    (goes-out w x c.all_empty.ensures.only.ran (only-after stays_calm w x ReadCount t.0 refl t.1)))
    c.has_blocks_left.ensures.out

pub returns-clause-numbers : goal.returns-clause-numbers
returns-clause-numbers c =
    let v : View = view_of c.args.seat.now in
    let w : View = view_of c.see_help.new.seat in
    let x : View = view_of c.all_empty.new.seat in
    let y : View = view_of c.has_blocks_left.new.seat in
    let e = c.see_help.ensures.view in
    let t = c.all_empty.ensures.count in
    let looked = ran-took v w SeeHelp refl (c.see_help.result, e) in
    let counted = c.all_empty.ensures.only.ran in
    ran-only leaves_numbers v x y (ran-join v w x looked counted) c.has_blocks_left.ensures.out.ran
    (ran-only leaves_numbers v w x looked counted (only-after leaves_numbers v w SeeHelp c.see_help.result refl e.0) (only-after leaves_numbers w x ReadCount t.0 refl t.1)) c.has_blocks_left.ensures.numbers

-- two looks, and then what has no such event
without : (f : Sort) (v w x y : View) (r : Ran v w) (s : Ran w x) (t : Ran x y) (n m : ℕ) → w ≡ after SeeHelp n v → x ≡ after ReadCount m w → never f (event SeeHelp n ∷ event ReadCount m ∷ []) ≡ true → never f (events x y) ≡ true → never f (events v y) ≡ true
without f v w x y r s t n m a b first last =
    let looks : events v x ≡ event SeeHelp n ∷ event ReadCount m ∷ [] = ran-events v w x r s ∙ (λ z. events-after v w SeeHelp n a z ++ events-after w x ReadCount m b z) in
    ap (never f) (ran-events v x y (ran-join v w x r s) t) ∙ never-both f (events v x) (events x y) (ap (never f) looks ∙ first) last

pub returns-clause-inside : goal.returns-clause-inside
returns-clause-inside c =
    let v : View = view_of c.args.seat.now in
    let w : View = view_of c.see_help.new.seat in
    let x : View = view_of c.all_empty.new.seat in
    let e = c.see_help.ensures.view in
    let t = c.all_empty.ensures.count in
    let rest = c.has_blocks_left.ensures in
    without leaves v w x (view_of c.has_blocks_left.new.seat) (ran-took v w SeeHelp refl (c.see_help.result, e)) c.all_empty.ensures.only.ran rest.out.ran c.see_help.result t.0 e.0 t.1 refl rest.inside

pub returns-clause-apart : goal.returns-clause-apart
returns-clause-apart c =
    let v : View = view_of c.args.seat.now in
    let w : View = view_of c.see_help.new.seat in
    let x : View = view_of c.all_empty.new.seat in
    let e = c.see_help.ensures.view in
    let t = c.all_empty.ensures.count in
    let rest = c.has_blocks_left.ensures in
    without joins v w x (view_of c.has_blocks_left.new.seat) (ran-took v w SeeHelp refl (c.see_help.result, e)) c.all_empty.ensures.only.ran rest.out.ran c.see_help.result t.0 e.0 t.1 refl rest.apart
