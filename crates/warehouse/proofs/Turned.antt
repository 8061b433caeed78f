-- The season moved on, or the heap was found full.
use Rattle.std.proofs.Common.{ℕ, ◌≡◌, ◌+◌, ◌++◌, ◌%◌, ◌==◌, List, [], ◌∷◌, refl, sym, ap, ◌∙◌, subst, Bool, true, false, not, Some, arith, eq-eqb}
use Rattle.std.proofs.lemmas.Bool.{false_from_ne_true, false≢true, lt-ltb, not-true}
use Rattle.std.proofs.lemmas.Option.{get_or_from_slice_get}
use Rattle.mark_core.specs.Layout.{words_of}
use Rattle.mark_core.specs.declared.kinds.Phase.TheVariants.{Full, Idle}
use Rattle.mark_core.specs.Seats.{phase_number}
use Rattle.mark_core.specs.Rules.WorldRules.{is_resting}
use Rattle.mark_core.specs.Steps.WorldSteps.{has_nothing}
use Rattle.mark_core.specs.declared.kinds.Phase.{Phase}
use Rattle.mark_core.specs.declared.kinds.Step.TheVariants.{NextSeason}
use Rattle.gc_table.specs.Log.{event, events}
use Rattle.gc_table.specs.Rule.{Agrees, IsState}
use Rattle.gc_table.specs.Running.{Alone, Ran, ends_alone}
use Rattle.gc_table.specs.Sections.{planned}
use Rattle.gc_table.specs.Seats.{Took}
use Rattle.gc_table.specs.Taking.{Asked, May}
use Rattle.gc_table.specs.TableState.{TableState, no_section}
use Rattle.gc_table.specs.declared.view.Entry.{Entry}
use Rattle.gc_table.specs.declared.view.SectionState.{SectionState}
use Rattle.gc_table.specs.declared.view.View.{View}
use Rattle.gc_table.proofs.History.Log.{events-after, only-after}
use Rattle.gc_table.proofs.Noticing.{alone-kept}
use Rattle.gc_table.proofs.Running.{ran-events, ran-join, ran-plan, ran-section, ran-shape, ran-took}
use Rattle.packet_pools.specs.Counts.{count_of}
use Rattle.packet_pools.specs.Seeking.{some_event}
use Rattle.packet_pools.proofs.Counting.{count-join}
use Rattle.packet_pools.proofs.Searches.{some-left, some-right}
use Rattle.play_end.specs.Done.{IsStill}
use Rattle.play_end.specs.declared.played.Played.{Played}
use Rattle.play_end.specs.declared.played.Played.TheVariants as plays
use Rattle.stop_world.proofs.Passing.{phase-is}
use Rattle.gc_cycle.specs.Cycles.{never_fills}
use Rattle.gc_cycle.specs.Events.{never}
use Rattle.gc_cycle.specs.Polling.{saw_full}
use Rattle.gc_cycle.specs.Sorts.{raises_flag, reads_phase}
use Rattle.gc_cycle.proofs.Since.{since-more}
use Rattle.gc_cycle.proofs.Sequences.{some-none as neither, count-none as none-count}
use Rattle.warehouse.specs.Turns.{AloneAfter, LeavesNoCycle, EndsTurn, KeepsPart, LeavesStop, MayTurnSeason, StopsAt, TurnEnds, in_stop, turns_season}
use Rattle.warehouse.proofs.InTheStop.{keeps-join}
use Rattle.cache_refills.proofs.Refills.Payment.{never-run as never-join}

-- the season is what the catalogue's seat made it
season_there : (x : TableState) (i : ℕ) (v : View) → IsState x → Agrees x i v → v.state.section ≡ Some 0 → (words_of x.core.shape x.core.words).season ≡ v.own.seasons
season_there x i v st a e = st.told.seasons.moved ∙ ap (λ (s : SectionState). s.seasons) (get_or_from_slice_get x.sections 0 v.own no_section (a.own 0 e))

module _ (u v w : View) (may : MayTurnSeason u) (stop : StopsAt u v) where
  module _ (b : Bool) (end : LeavesNoCycle b v w) where
    both : KeepsPart u w
    both = keeps-join u v w stop.keeps end.keeps

    seasons_are : w.own.seasons ≡ u.own.seasons
    seasons_are = end.seasons ∙ stop.seasons

    section_is : w.state.section ≡ Some 0
    section_is = ran-section u w both.ran ∙ may.catalogue

    pub may-turn : Alone Idle w → May NextSeason w
    may-turn alone x i st a =
        let season = season_there x i w st a section_is ∙ seasons_are in
        (alone.knows, (eq-eqb (words_of x.core.shape x.core.words).phase 0 (phase-is x i w 0 a alone.phase), (lt-ltb (words_of x.core.shape x.core.words).season 128 (omega (arith, season, may.early)), tt)))

    pub asked-turn : Asked NextSeason w
    asked-turn = (
      section_is,
      λ even.
          both.still.heap
          ∙ (may.planned_is (ap (λ n. n % 2 == 0) (sym seasons_are) ∙ even)
          ∙ ((λ i. planned (sym (ran-shape u w both.ran) i) (sym (ran-plan u w both.ran) i) (sym seasons_are i + 1)))),
    )

  -- the phase was read as Full
  turned_full : (z : View) → LeavesNoCycle true v w → Alone Full w → LeavesStop w z → KeepsPart u z × TurnEnds plays.Full u z
  turned_full z end alone leaves =
      let later : KeepsPart v z = keeps-join v w z end.keeps leaves.keeps in
      let calm : never raises_flag (events v z) ≡ true = never-join raises_flag v w z end.keeps.ran leaves.keeps.ran end.calm leaves.calm in
      let here : in_stop (events u z) ≡ in_stop (events u v) ++ events v z =
      ap in_stop (ran-events u v z stop.keeps.ran later.ran) ∙ since-more raises_flag (events u v) (events v z) stop.raised (not-true (some_event raises_flag (events v z)) calm) in
      let read : saw_full (events v z) ≡ true = ap saw_full (ran-events v w z end.keeps.ran leaves.keeps.ran) ∙ some-left (reads_phase Full) (events v w) (events w z) end.read in (
        keeps-join u v z stop.keeps later,
        (
          never-join turns_season u v z stop.keeps.ran later.ran stop.unturned (never-join turns_season v w z end.keeps.ran leaves.keeps.ran end.unturned leaves.unturned),
          ap saw_full here ∙ some-right (reads_phase Full) (in_stop (events u v)) (events v z) read,
          leaves.seasons ∙ (end.seasons ∙ stop.seasons),
          leaves.known alone.phase,
        ),
      )

  -- the season moved on
  module _ (x : View) (end : LeavesNoCycle false v w) (took : Took NextSeason w x) where
    turn_ran : Ran w x
    turn_ran = ran-took w x NextSeason refl took

    turn_event : events w x ≡ event NextSeason took.0 ∷ []
    turn_event = events-after w x NextSeason took.0 took.1.0

    turn_keeps : KeepsPart w x
    turn_keeps =
        record {
          ran = turn_ran;
          still = subst (λ (y : View). IsStill w.own y.own) (sym took.1.0) (record { heap = refl; turns = refl; places = refl; full = refl });
          position = ap (λ (y : View). y.own.position) took.1.0;
          made = ap (λ (y : View). y.state.made) took.1.0;
          unfilled = ap (λ (es : List Entry). never_fills es) turn_event;
        }

    turn_alone : Alone Idle w → Alone Idle x
    turn_alone a = alone-kept Idle (λ step. not (ends_alone step)) (λ step b. not-true (ends_alone step) b) w x turn_ran (only-after (λ step. not (ends_alone step)) w x NextSeason took.0 refl took.1.0) a

    turned_done : (z : View) → LeavesStop x z → KeepsPart u z × TurnEnds plays.Done u z
    turned_done z leaves =
        let last : KeepsPart w z = keeps-join w x z turn_keeps leaves.keeps in
        let later : KeepsPart v z = keeps-join v w z end.keeps last in
        let calm : never raises_flag (events v z) ≡ true =
        never-join raises_flag v w z end.keeps.ran last.ran end.calm (never-join raises_flag w x z turn_ran leaves.keeps.ran (ap (λ (es : List Entry). never raises_flag es) turn_event) leaves.calm) in
        let here : in_stop (events u z) ≡ in_stop (events u v) ++ events v z =
        ap in_stop (ran-events u v z stop.keeps.ran later.ran) ∙ since-more raises_flag (events u v) (events v z) stop.raised (not-true (some_event raises_flag (events v z)) calm) in
        let unread : saw_full (events v z) ≡ false =
        ap saw_full (ran-events v w z end.keeps.ran last.ran)
        ∙ neither (reads_phase Full) (events v w) (events w z) end.read
        (ap saw_full (ran-events w x z turn_ran leaves.keeps.ran) ∙ neither (reads_phase Full) (events w x) (events x z) (ap saw_full turn_event) leaves.unread) in
        let before : saw_full (in_stop (events u v)) ≡ false = false_from_ne_true (saw_full (in_stop (events u v))) (λ h. false≢true (end.found (stop.told h))) in (
          keeps-join u v z stop.keeps later,
          (
            counts,
            ap saw_full here ∙ neither (reads_phase Full) (in_stop (events u v)) (events v z) before unread,
            leaves.seasons ∙ (ap (λ (y : View). y.own.seasons) took.1.0 ∙ ap (λ n. n + 1) (end.seasons ∙ stop.seasons)),
          ),
        )
      where
        zero_of : (a b : View) → never turns_season (events a b) ≡ true → count_of turns_season (events a b) ≡ 0
        zero_of a b h = none-count turns_season (events a b) (not-true (some_event turns_season (events a b)) h)

        split : (a b c : View) → Ran a b → Ran b c → count_of turns_season (events a c) ≡ count_of turns_season (events a b) + count_of turns_season (events b c)
        split a b c r s = ap (count_of turns_season) (ran-events a b c r s) ∙ count-join turns_season (events a b) (events b c)

        one : count_of turns_season (events w x) ≡ 1
        one = ap (count_of turns_season) turn_event

        counts : count_of turns_season (events u z) ≡ 1
        counts =
            omega (
              arith,
              split u v z stop.keeps.ran (ran-join v w z end.keeps.ran (ran-join w x z turn_ran leaves.keeps.ran)),
              split v w z end.keeps.ran (ran-join w x z turn_ran leaves.keeps.ran),
              split w x z turn_ran leaves.keeps.ran,
              zero_of u v stop.unturned,
              zero_of v w end.unturned,
              one,
              zero_of x z leaves.unturned,
            )

    pub ends-done : Alone Idle w → EndsTurn plays.Done u x
    ends-done alone =
        let a = turn_alone alone in
        record {
          rest = record { knows = a.knows; alone = a.alone; rest = subst (λ (y : View). has_nothing y.shape y.state ≡ true) (sym took.1.0) end.rest.rest };
          unhelping = ap (λ (y : View). y.state.helping) took.1.0 ∙ (end.unhelping ∙ stop.unhelping);
          alone = a;
          catalogue = ap (λ (y : View). y.state.section) took.1.0 ∙ section_is false end;
          turned = λ _. ap (λ (y : View). y.own.seasons) took.1.0 ∙ ap (λ n. n + 1) (seasons_are false end);
          ends = turned_done;
        }

  pub ends-full : LeavesNoCycle true v w → Alone Full w → EndsTurn plays.Full u w
  ends-full end alone =
      record {
        rest = end.rest;
        unhelping = end.unhelping ∙ stop.unhelping;
        alone = alone;
        catalogue = section_is true end;
        turned = λ e. absurd (not_done e);
        ends = λ z leaves. turned_full z end alone leaves;
      }
    where
      done_or : Played → Bool
      done_or plays.Done = true
      done_or plays.Full = false

      not_done : plays.Full ≡ plays.Done → ⊥
      not_done e = false≢true (ap done_or e)

-- no cycle is under way after it
pub resting-after : (played : Played) (w : View) → AloneAfter played w → (p : Phase) × (is_resting (phase_number p) ≡ true) × Alone p w
resting-after plays.Done w a = (Idle, refl, a)
resting-after plays.Full w a = (Full, refl, a)
