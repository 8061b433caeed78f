-- What mutators pay, computed.
use Rattle.std.proofs.Common.{ℕ, ◌≡◌, ◌≤◌, arith, refl, sym, ap, ◌∙◌, List, [], ◌∷◌, ◌++◌, Bool, true, false, Option, Some, None}
use Rattle.std.specs.Prelude.{◌==◌}
use Rattle.mark_core.specs.Numbers.{free_count, last_count, rescanned_count, traced_count}
use Rattle.mark_core.specs.Seats.{is_the}
use Rattle.std.proofs.lemmas.Bool.{true≢false}
use Rattle.mark_core.specs.declared.kinds.Phase.TheVariants.{Marking}
use Rattle.mark_core.specs.declared.kinds.Step.TheVariants.{AddStat, DropStep, NextOfCards, ReadPhase, ReadRoot, ReadStat, RaiseStep, StorePhase}
use Rattle.gc_table.specs.declared.view.Entry.{Entry}
use Rattle.tracer.specs.declared.traced.Stopped.TheVariants.{Quota, NoWork}
use Rattle.gc_cycle.specs.declared.counts.Paid.{Paid}
use Rattle.gc_cycle.specs.Events.{is_just}
use Rattle.cache_refills.specs.Pace.Pacing.{due_seen, KicksOff, quota_seen}
use Rattle.cache_refills.specs.Pace.Paying.{Pays, in_marking, in_idle, in_stop}
use Rattle.gc_cycle.specs.Roots.{roots_scanned}
use Rattle.gc_cycle.proofs.Rows.CycleRows.{small, did, at_rest, claiming, flagged, marker, nil_roots, no_input_looks}

-- the numbers of cells marked last, rescanned last, traced and free
abbrev numbers : ℕ → ℕ → ℕ → ℕ → List Entry
numbers last rescanned traced free = did (ReadStat last_count) last ∷ did (ReadStat rescanned_count) rescanned ∷ did (ReadStat traced_count) traced ∷ did (ReadStat free_count) free ∷ []

abbrev free_of_charge : Paid
free_of_charge = record { quota = 0; done = 0; stopped = Quota }

-- no cycle was due and none is under way
abbrev in_peace : List Entry
in_peace = did (ReadStat last_count) 0 ∷ did (ReadStat rescanned_count) 0 ∷ did (ReadStat free_count) 64 ∷ claiming 0 64 ++ did ReadPhase 0 ∷ []

pays_nothing : Pays small 1 64 free_of_charge (at_rest marker) in_peace
pays_nothing = in_idle (record { outside = refl; read = refl; unmarked = refl; unpopped = refl; untold = refl; free = (refl, refl, refl); few = omega arith; cause = refl })

-- a cycle was due, and the mutator began none
abbrev never_begins : List Entry
never_begins = did (ReadStat last_count) 576 ∷ did (ReadStat rescanned_count) 0 ∷ did (ReadStat free_count) 64 ∷ claiming 0 64 ++ did ReadPhase 0 ∷ []

due : due_seen never_begins ≡ Some true
due = refl

-- none of the three ways to pay fits
refused-begins : Pays small 1 64 free_of_charge (at_rest marker) never_begins → ⊥
refused-begins (in_marking p) = absurd (true≢false (sym p.read))
refused-begins (in_idle p) = absurd (true≢false (sym p.cause))
refused-begins (in_stop p) = absurd (true≢false (sym p.inside))

-- it didn't even read the numbers
abbrev reads_nothing : List Entry
reads_nothing = claiming 0 64 ++ did ReadPhase 0 ∷ []

refused-unread : Pays small 1 64 free_of_charge (at_rest marker) reads_nothing → ⊥
refused-unread (in_marking p) = absurd (true≢false (sym p.read))
refused-unread (in_idle p) = absurd (true≢false (sym p.cause))
refused-unread (in_stop p) = absurd (true≢false (sym p.inside))

-- it read the phase until no cycle was under way any more
abbrev reads_again : List Entry
reads_again = did (ReadStat last_count) 0 ∷ did (ReadStat rescanned_count) 0 ∷ did (ReadStat free_count) 64 ∷ claiming 0 64 ++ (did ReadPhase 1 ∷ did ReadPhase 0 ∷ [])

refused-again : Pays small 1 64 free_of_charge (at_rest marker) reads_again → ⊥
refused-again (in_marking p) = absurd (true≢false (sym p.roots))
refused-again (in_idle p) = absurd (true≢false (sym p.unmarked))
refused-again (in_stop p) = absurd (true≢false (sym p.inside))

-- it told the others that it traced
abbrev tells_in_peace : List Entry
tells_in_peace = in_peace ++ did (AddStat traced_count 10000000 false) 40 ∷ []

refused-told : Pays small 1 64 free_of_charge (at_rest marker) tells_in_peace → ⊥
refused-told (in_marking p) = absurd (true≢false (sym p.read))
refused-told (in_idle p) = absurd (true≢false (ap (is_just 10000000) p.untold))
refused-told (in_stop p) = absurd (true≢false (sym p.inside))

-- in its own stop neither
abbrev in_own_stop : List Entry
in_own_stop = did RaiseStep 0 ∷ did (StorePhase Marking) 1 ∷ claiming 0 64 ++ (did DropStep (flagged 0) ∷ did ReadPhase 1 ∷ [])

abbrev tells_in_stop : List Entry
tells_in_stop = in_own_stop ++ did (AddStat traced_count 10000000 false) 40 ∷ []

refused-told_in_stop : Pays small 1 64 free_of_charge (at_rest marker) tells_in_stop → ⊥
refused-told_in_stop (in_marking p) = absurd (true≢false p.outside)
refused-told_in_stop (in_idle p) = absurd (true≢false p.outside)
refused-told_in_stop (in_stop p) = absurd (true≢false (ap (is_just 10000000) p.untold))

-- a payment without a read of the phase is refused
refused-blind : Pays small 1 64 free_of_charge (at_rest marker) (claiming 0 64) → ⊥
refused-blind (in_marking p) = absurd (true≢false (sym p.read))
refused-blind (in_idle p) = absurd (true≢false (sym p.read))
refused-blind (in_stop p) = absurd (true≢false (sym p.inside))

-- in its own stop it pays nothing
pays_in_stop : Pays small 1 64 free_of_charge (at_rest marker) in_own_stop
pays_in_stop = in_stop (record { inside = refl; unpopped = refl; untold = refl; free = (refl, refl, refl) })

-- in Marking: the roots are nil, so there is no work
abbrev with_roots : List Entry
with_roots = claiming 0 64 ++ (did ReadPhase 1 ∷ nil_roots ++ (numbers 100 20 40 160 ++ (no_input_looks ++ did (AddStat traced_count 0 false) 40 ∷ [])))

abbrev no_work : Paid
no_work = record { quota = 32; done = 0; stopped = NoWork }

pays_for_work : Pays small 1 64 no_work (at_rest marker) with_roots
pays_for_work = in_marking (record { outside = refl; read = refl; roots = refl; owed = refl; early = refl; done = refl; most = omega arith; short = omega arith; looked = omega arith; stopped = (differ, refl); told = refl })
  where
    differ : (◌≡◌ {A = ℕ} 0 32) → ⊥
    differ e = absurd (true≢false (sym (ap (λ n. n == 32) e)))

-- the roots were left to the stop
abbrev without_roots : List Entry
without_roots = claiming 0 64 ++ (did ReadPhase 1 ∷ numbers 100 20 40 160 ++ (no_input_looks ++ did (AddStat traced_count 0 false) 40 ∷ []))

refused-roots : (paid : Paid) → Pays small 1 64 paid (at_rest marker) without_roots → ⊥
refused-roots paid (in_marking p) = absurd (true≢false (sym p.roots))
refused-roots paid (in_idle p) = absurd (true≢false (sym p.read))
refused-roots paid (in_stop p) = absurd (true≢false (sym p.inside))

-- another quota than the numbers give, as one of 0
refused-quota : Pays small 1 64 free_of_charge (at_rest marker) with_roots → ⊥
refused-quota (in_marking p) = other p.owed
  where
    other : (◌≡◌ {A = Option ℕ} (Some 32) (Some 0)) → ⊥
    other e = true≢false (ap (λ o. is_the o 32) e)
refused-quota (in_idle p) = absurd (true≢false (sym p.read))
refused-quota (in_stop p) = absurd (true≢false (sym p.inside))

-- as much is traced as the last cycle left, so the quota is 0; objects made since are left, and the floor is owed
abbrev after_all : List Entry
after_all = claiming 0 64 ++ (did ReadPhase 1 ∷ nil_roots ++ (numbers 1600 0 1600 64 ++ (no_input_looks ++ did (AddStat traced_count 0 false) 40 ∷ [])))

quota_of_all : quota_seen 64 (numbers 1600 0 1600 64) ≡ Some 0
quota_of_all = refl

pays_floor : Pays small 1 64 (record { quota = 100; done = 0; stopped = NoWork }) (at_rest marker) after_all
pays_floor = in_marking (record { outside = refl; read = refl; roots = refl; owed = refl; early = refl; done = refl; most = omega arith; short = omega arith; looked = omega arith; stopped = (differ, refl); told = refl })
  where
    differ : (◌≡◌ {A = ℕ} 0 100) → ⊥
    differ e = absurd (true≢false (sym (ap (λ n. n == 100) e)))

refused-floor : Pays small 1 64 free_of_charge (at_rest marker) after_all → ⊥
refused-floor (in_marking p) = other p.owed
  where
    other : (◌≡◌ {A = Option ℕ} (Some 100) (Some 0)) → ⊥
    other e = true≢false (ap (λ o. is_the o 100) e)
refused-floor (in_idle p) = absurd (true≢false (sym p.read))
refused-floor (in_stop p) = absurd (true≢false (sym p.inside))

-- no packet was looked for
abbrev idle_in_marking : List Entry
idle_in_marking = claiming 0 64 ++ (did ReadPhase 1 ∷ nil_roots ++ (numbers 100 20 40 160 ++ did (AddStat traced_count 0 false) 40 ∷ []))

refused-idle : Pays small 1 64 no_work (at_rest marker) idle_in_marking → ⊥
refused-idle (in_marking p) = absurd (true≢false (sym p.stopped.1))
refused-idle (in_idle p) = absurd (true≢false (sym p.read))
refused-idle (in_stop p) = absurd (true≢false (sym p.inside))

-- a card of the pass was drawn, though the cycle wasn't far on by the numbers read
abbrev looks_early : List Entry
looks_early = claiming 0 64 ++ (did ReadPhase 1 ∷ nil_roots ++ (numbers 100 20 40 160 ++ (no_input_looks ++ did NextOfCards 3 ∷ did (AddStat traced_count 0 false) 40 ∷ [])))

refused-look : Pays small 1 64 no_work (at_rest marker) looks_early → ⊥
refused-look (in_marking p) = none p.looked
  where
    none : 1 ≤ 0 → ⊥
    none l = absurd (omega (arith, l))
refused-look (in_idle p) = absurd (true≢false (sym p.read))
refused-look (in_stop p) = absurd (true≢false (sym p.inside))

-- a root that isn't nil, and that nobody marked
root_unmarked : roots_scanned 1 (did (ReadRoot 1 0) 6 ∷ nil_roots) ≡ true
root_unmarked = refl

root_left : roots_scanned 1 (did (ReadRoot 1 31) 6 ∷ []) ≡ false
root_left = refl

-- a cycle begins, another seat was first, and none was due
begins : KicksOff true (did (ReadStat last_count) 576 ∷ did (ReadStat rescanned_count) 0 ∷ did (ReadStat free_count) 64 ∷ did (StorePhase Marking) 0 ∷ [])
begins = record { due = true; read = refl; tried = refl; answer = refl }

another_was_first : KicksOff false (did (ReadStat last_count) 576 ∷ did (ReadStat rescanned_count) 0 ∷ did (ReadStat free_count) 64 ∷ did (StorePhase Marking) 1 ∷ [])
another_was_first = record { due = true; read = refl; tried = refl; answer = refl }

none_due : KicksOff false (did (ReadStat last_count) 512 ∷ did (ReadStat rescanned_count) 0 ∷ did (ReadStat free_count) 64 ∷ [])
none_due = record { due = false; read = refl; tried = refl; answer = refl }

-- it must try if a cycle is due
refused-try : (began : Bool) → KicksOff began (did (ReadStat last_count) 576 ∷ did (ReadStat rescanned_count) 0 ∷ did (ReadStat free_count) 64 ∷ []) → ⊥
refused-try began k = true≢false (ap or-false k.read ∙ sym k.tried)
  where
    or-false : Option Bool → Bool
    or-false None = false
    or-false (Some d) = d
