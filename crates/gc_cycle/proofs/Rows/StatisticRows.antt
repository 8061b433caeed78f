-- Changes of the statistics, computed.
use Rattle.std.proofs.Common.{◌≡◌, refl, sym, ap, List, [], ◌∷◌, ◌++◌, Bool, true, false, Some, None}
use Rattle.std.specs.Prelude.{◌==◌, ◌&&◌}
use Rattle.std.specs.Int.Count.{ones}
use Rattle.std.proofs.lemmas.Bool.{true≢false}
use Rattle.mark_core.specs.Numbers.{free_count, last_count, rescanned_count, traced_count}
use Rattle.mark_core.specs.declared.kinds.Phase.TheVariants.{Drain}
use Rattle.mark_core.specs.declared.kinds.Step.{Step}
use Rattle.mark_core.specs.declared.kinds.Step.TheVariants.{AddStat, ClaimBlock, PublishCells, ReadFree, ReadPhase, ReadStat, ReleaseBlock, Reset, StorePhase}
use Rattle.gc_table.specs.Log.{all_steps}
use Rattle.gc_table.specs.declared.view.Entry.{Entry}
use Rattle.alloc_cache.specs.declared.cache.Cache.{Cache}
use Rattle.gc_cycle.specs.OneCycle.{EndsCycle}
use Rattle.gc_cycle.specs.declared.counts.Counts.{Counts}
use Rattle.gc_cycle.specs.Statistics.{ChangesNumbers, given_up, gives_back, GivesUp, leaves_numbers, numbers_changed, taken, takes_off, tells}
use Rattle.gc_cycle.proofs.Changes.{by-none, keeps-up, numbers-one}
use Rattle.gc_cycle.proofs.Rows.CycleRows.{did, marker, seen_by, stopper}

-- a cache of two free cells
abbrev two_cells : Cache
two_cells = record { block = 0; cells = 3 }

-- it is claimed, and one cell is traced for it
abbrev claims : List Entry
claims = did (ClaimBlock 0) 0 ∷ did ReadFree 18446744073709551612 ∷ did (takes_off two_cells) 100 ∷ did ReadPhase 1 ∷ []

claims_only : numbers_changed claims ≡ takes_off two_cells ∷ []
claims_only = refl

claims_and_tells : numbers_changed (claims ++ did (tells 1) 40 ∷ []) ≡ takes_off two_cells ∷ tells 1 ∷ []
claims_and_tells = refl

-- it is claimed and given up
claims_and_returns : numbers_changed (claims ++ did PublishCells 0 ∷ did (gives_back two_cells) 100 ∷ did ReleaseBlock 1 ∷ []) ≡ takes_off two_cells ∷ gives_back two_cells ∷ []
claims_and_returns = refl

-- by how much the free cells fall
two_fewer : takes_off two_cells ≡ AddStat free_count 2 true
unfolding lib.Count.ones
two_fewer = refl

-- whether a change is only one of a claim, as far as numbers go
abbrev claims_two : List Step → Bool
claims_two (AddStat which by down ∷ []) = (which == free_count) && (by == 2) && down
claims_two steps = false

of_claim : claims_two (numbers_changed (did (AddStat free_count 2 true) 100 ∷ [])) ≡ true
of_claim = refl

-- the numbers of the last cycle fall below 0 before they are read, so that no cycle is due
lowers_last : claims_two (numbers_changed (did (AddStat last_count 4294967295 true) 576 ∷ did (AddStat rescanned_count 4294967295 true) 0 ∷ did (ReadStat last_count) 18446744069414584897 ∷ did (AddStat free_count 2 true) 100 ∷ [])) ≡ false
lowers_last = refl

-- the number of traced cells is raised before the claim, so that each quota is 0
raises_traced : claims_two (numbers_changed (did (AddStat traced_count 10000000 false) 40 ∷ did (AddStat free_count 2 true) 100 ∷ [])) ≡ false
raises_traced = refl

-- what a cycle marked is taken off again
lowers_marked : claims_two (numbers_changed (did (AddStat last_count 20 true) 20 ∷ did (AddStat free_count 2 true) 100 ∷ [])) ≡ false
lowers_marked = refl

-- the number of free cells is raised while it is read
raises_free : claims_two (numbers_changed (did (AddStat free_count 1000 false) 10 ∷ did (ReadStat free_count) 1010 ∷ did (AddStat free_count 1000 true) 1010 ∷ did (AddStat free_count 2 true) 100 ∷ [])) ≡ false
raises_free = refl

resets_last : claims_two (numbers_changed (did (Reset last_count) 0 ∷ did (AddStat free_count 2 true) 100 ∷ [])) ≡ false
resets_last = refl

-- a mutator that keeps its cache changes nothing, and one that gives it up counts its free cells again
keeps_it : given_up (Some two_cells) (Some two_cells) ≡ []
keeps_it = refl

gives_it_up : given_up (Some two_cells) None ≡ gives_back two_cells ∷ []
gives_it_up = refl

had_none : given_up None None ≡ []
had_none = refl

found_none : taken None ≡ []
found_none = refl

-- looks change nothing
looks_only : all_steps leaves_numbers (did (ReadStat free_count) 10 ∷ did ReadPhase 0 ∷ []) ≡ true
looks_only = refl

tells_some : all_steps leaves_numbers (did (ReadStat free_count) 10 ∷ did (AddStat traced_count 0 false) 0 ∷ []) ≡ false
tells_some = refl

-- a call without steps
does_nothing : ChangesNumbers [] (seen_by marker) (seen_by marker)
does_nothing = numbers-one [] (seen_by marker) (seen_by marker) (by-none (seen_by marker))

keeps_all : GivesUp (Some two_cells) (Some two_cells) (seen_by marker) (seen_by marker)
keeps_all = keeps-up (Some two_cells) (seen_by marker) (seen_by marker) (by-none (seen_by marker))

-- one that counted the free cells without giving the cache up
abbrev nothing : List Step → Bool
nothing [] = true
nothing (s ∷ ss) = false

refused-kept : GivesUp (Some two_cells) (Some two_cells) (seen_by marker) (record (seen_by marker) { log = did (gives_back two_cells) 100 ∷ [] }) → ⊥
refused-kept h = absurd (true≢false (sym (ap nothing h.changed.all)))

-- a cycle ended only if help was let in for its drain and its sweep
refused-end : (counts : Counts) → EndsCycle counts (seen_by stopper) (seen_by stopper) → ⊥
refused-end counts e = absurd (true≢false (sym e.help))

refused-drain : (counts : Counts) → EndsCycle counts (seen_by stopper) (record (seen_by stopper) { log = did (StorePhase Drain) 1 ∷ [] }) → ⊥
refused-drain counts e = absurd (true≢false (sym e.help))
