-- A section without commands is counted.
use Rattle.std.proofs.Common.{◌≡◌, List, [], ◌∷◌, refl, sym, ap, ◌∙◌, subst, ◌&&◌, true, false, not}
use Rattle.std.proofs.lemmas.Bool.{and_from}
use Rattle.mark_core.specs.Steps.WorldSteps.{has_nothing}
use Rattle.mark_core.specs.declared.kinds.Step.TheVariants.{AddStat, LeaveStep}
use Rattle.gc_table.specs.Seats.{Took}
use Rattle.gc_table.specs.declared.view.Entry.{Entry}
use Rattle.gc_table.specs.declared.view.View.{View}
use Rattle.gc_table.proofs.History.Log.{events-after, only-after}
use Rattle.gc_table.proofs.Running.{ran-took}
use Rattle.gc_cycle.specs.Cycles.{never_fills}
use Rattle.gc_cycle.specs.Events.{never}
use Rattle.gc_cycle.specs.Mutating.{HasEntered}
use Rattle.gc_cycle.specs.Sorts.{raises_flag, tries_marking}
use Rattle.mark_core.specs.Numbers.{done_count}
use Rattle.gc_cycle.specs.Sparing.{spares_part}
use Rattle.gc_cycle.specs.Standing.{IsOut, Mutates}
use Rattle.gc_cycle.specs.Statistics.{ChangesBy, leaves_numbers}
use Rattle.gc_cycle.proofs.Changes.{by-join, changes-after, only-changes}
use Rattle.gc_cycle.proofs.Stops.OutAndIn.{mutator-nothing}
use Rattle.gc_table.specs.Log.{Only, events}
use Rattle.play_end.specs.Done.{IsStill}
use Rattle.stop_world.proofs.Standing.{active-counted, strong, unless}
use Rattle.warehouse.specs.Commands.{Leaves}
use Rattle.warehouse.specs.Ending.{CountsAbsent}
use Rattle.warehouse.specs.Pacing.{CountsOne}
use Rattle.warehouse.specs.Turns.{KeepsPart}
use Rattle.warehouse.proofs.Counting.{spares-seasons}
use Rattle.warehouse.proofs.Leavings.{leaves-calm, leaves-counted, leaves-join}
use Rattle.warehouse.proofs.Pacing.{counted-by, counted-untried, ends-calm, ends-step, paces-after, paces-out}
use Rattle.warehouse.proofs.InTheStop.{keeps-join, spared-keeps}
use Rattle.cache_refills.proofs.Refills.Payment.{never-run as never-join}

-- the seat entered (v), and counted the part (w)
module _ (u v w : View) (entered : HasEntered u v) (spares : Only spares_part u v) (numbers : Only leaves_numbers u v) (mutates : Mutates v) (count : Took (AddStat done_count 1 false) v w) where
  pub counted-nothing : has_nothing w.shape w.state ≡ true
  counted-nothing = subst (λ (y : View). has_nothing y.shape y.state ≡ true) (sym count.1.0) (mutator-nothing v mutates entered.cache)

  pub counted-active : w.state.active ≡ true
  counted-active = ap (λ (y : View). y.state.active) count.1.0 ∙ mutates.active

  count_keeps : KeepsPart v w
  count_keeps =
      record {
        ran = ran-took v w (AddStat done_count 1 false) refl count;
        still = subst (λ (y : View). IsStill v.own y.own) (sym count.1.0) (record { heap = refl; turns = refl; places = refl; full = refl });
        position = ap (λ (y : View). y.own.position) count.1.0;
        made = ap (λ (y : View). y.state.made) count.1.0;
        unfilled = ap (λ (es : List Entry). never_fills es) (events-after v w (AddStat done_count 1 false) count.0 count.1.0);
      }

  -- and left
  module _ (x : View) (leave : Took LeaveStep w x) where
    pub absent-out : IsOut x
    absent-out =
        let f = leave.1.1 in
        let counted = active-counted f.state f.index w f.whole f.agrees counted-active in
        let rules = strong f.state f.index w f.whole f.agrees in
        let unraised : w.state.raised ≡ false = unless w.state.raised (not w.state.counted) (λ e. ap not (rules.raised_not_counted e)) (ap not counted) in
        let unhelping : w.state.helping ≡ false = ap (λ (y : View). y.state.helping) count.1.0 ∙ mutates.unhelping in
        subst IsOut (sym leave.1.0)
        (record { bare = and_from (not false && not w.state.raised) (not w.state.helping) (ap not unraised) (ap not unhelping); rest = counted-nothing })

    counts_one : CountsOne u x
    counts_one =
        let left = ran-took w x LeaveStep refl leave in
        let out = ends-step LeaveStep leave.0 w x refl refl left leave.1.0 in
        let later : ChangesBy (AddStat done_count 1 false ∷ []) v x = by-join (AddStat done_count 1 false ∷ []) [] v w x (counted-by v w count) (changes-after w x LeaveStep leave.0 refl left leave.1.0) in
        record {
          changed = by-join [] (AddStat done_count 1 false ∷ []) u v x (only-changes u v entered.out.ran numbers) later;
          unbegun =
              never-join tries_marking u v x entered.out.ran later.ran (ends-calm u v entered.out.ran entered.out.only numbers).unbegun
              (never-join tries_marking v w x (counted-by v w count).ran left (counted-untried v w count) out.unbegun);
        }

    pub counts-absent : CountsAbsent u x
    counts-absent =
        let gone = only-after spares_part w x LeaveStep leave.0 refl leave.1.0 in
        let left = ran-took w x LeaveStep refl leave in
        let calm : never raises_flag (events w x) ≡ true = ap (λ (es : List Entry). never raises_flag es) (events-after w x LeaveStep leave.0 leave.1.0) in
        let entering : Leaves 0 u v = leaves-calm u v entered.out.ran spares entered.out.calm (paces-out u v entered.out numbers) in
        let counting : Leaves 1 v x = leaves-join 1 0 1 v w x (leaves-counted v w count) (leaves-calm w x left gone calm (paces-after LeaveStep leave.0 w x refl refl left leave.1.0)) refl in
        record {
          keeps =
              keeps-join u v x (spared-keeps u v entered.out.ran spares entered.position)
              (keeps-join v w x count_keeps (spared-keeps w x left gone (ap (λ (y : View). y.own.position) leave.1.0)));
          counted = (leaves-join 0 1 1 u v x entering counting refl).counted;
          counts = counts_one;
          seasons = spares-seasons w x left gone ∙ (ap (λ (y : View). y.own.seasons) count.1.0 ∙ spares-seasons u v entered.out.ran spares);
        }
