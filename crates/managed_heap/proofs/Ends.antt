-- A call that ended a cycle has the entry of that end; so has each of a mutator's collections.
use Rattle.std.proofs.Common.{ℕ, ◌≡◌, ◌∙◌, List, [], ◌∷◌, ap, refl, sym, ⊎_elim, Bool, true, false, not}
use Rattle.std.specs.Prelude.{◌&&◌, IsTrue}
use Rattle.std.proofs.lemmas.Bool.{and_parts, false≢true, or_cases}
use Rattle.mark_core.specs.declared.kinds.Phase.TheVariants.{Idle}
use Rattle.mark_core.specs.declared.kinds.Step.{Step}
use Rattle.mark_core.specs.declared.kinds.Step.TheVariants.{StorePhase}
use Rattle.packet_pools.specs.Seeking.{some_event}
use Rattle.gc_table.specs.Log.{all_steps}
use Rattle.gc_table.specs.Running.{Ran}
use Rattle.gc_table.specs.Seats.{Across, did, view_of}
use Rattle.gc_table.specs.declared.seat.HeapSeat.{HeapSeat}
use Rattle.gc_table.specs.declared.view.Entry.{Entry}
use Rattle.garbage_laws.specs.Calls.{ended_cycle}
use Rattle.garbage_laws.specs.Garbage.{ends_cycle}
use Rattle.gc_cycle.specs.Cycles.{collects}
use Rattle.gc_cycle.specs.Sorts.{begins_exactly, ends_cycle as moves_back}
use Rattle.work_laws.proofs.Tidy.{tidy_few}
use Rattle.managed_heap.specs.Working.{CollectionsAreBounded, IsEndIn, WorksAgain}
use Rattle.managed_heap.proofs.Working.{works-again, works-since, works-until}

abbrev HasEnd : List Entry → Type 0
HasEnd es = (own : List Entry) × (e : Entry) × IsEndIn own e es

end_first : (e : Entry) (es : List Entry) → e.step ≡ StorePhase Idle → HasEnd (e ∷ es)
end_first e es is = ([], e, record { later = es; parts = refl; moves = is })

end_next : (e : Entry) (es : List Entry) → HasEnd es → HasEnd (e ∷ es)
end_next e es (own, d, h) = (e ∷ own, d, record { later = h.later; parts = ap (λ (l : List Entry). e ∷ l) h.parts; moves = h.moves })

ends_is : (step : Step) → ends_cycle step ≡ true → step ≡ StorePhase Idle
ends_is (StorePhase Idle) e = refl
ends_is step e = absurd (false≢true e)

moves_is : (step : Step) (n : ℕ) → moves_back step n ≡ true → step ≡ StorePhase Idle
moves_is (StorePhase Idle) n e = refl
moves_is step n e = absurd (false≢true e)

end_after : (e : Entry) (es : List Entry) (b : Bool) → ends_cycle e.step ≡ b → ended_cycle (e ∷ es) ≡ true → (ended_cycle es ≡ true → HasEnd es) → HasEnd (e ∷ es)
end_after e es true is ended rest = end_first e es (ends_is e.step is)
end_after e es false is ended rest = end_next e es (rest (ap (λ (b : Bool). not (not b && all_steps (λ step. not (ends_cycle step)) es)) (sym is) ∙ ended))

has_end : (es : List Entry) → ended_cycle es ≡ true → HasEnd es
has_end [] ended = absurd (false≢true ended)
has_end (e ∷ es) ended = end_after e es (ends_cycle e.step) refl ended (has_end es)

end_of_some : (es : List Entry) → some_event moves_back es ≡ true → HasEnd es
end_of_some [] some = absurd (false≢true some)
end_of_some (e ∷ es) some =
    ⊎_elim
    (λ (here : moves_back e.step e.found ≡ true). end_first e es (moves_is e.step e.found here))
    (λ (later : some_event moves_back es ≡ true). end_next e es (end_of_some es later))
    (or_cases (moves_back e.step e.found) (some_event moves_back es) some)

end_collected : (es : List Entry) → collects es ≡ true → HasEnd es
end_collected [] c = absurd (false≢true c)
end_collected (e ∷ es) c =
    ⊎_elim
    (λ (here : (begins_exactly e.step e.found && some_event moves_back es) ≡ true). end_next e es (end_of_some es (and_parts (begins_exactly e.step e.found) (some_event moves_back es) here).1))
    (λ (later : collects es ≡ true). end_next e es (end_collected es later))
    (or_cases (begins_exactly e.step e.found && some_event moves_back es) (collects es) c)

works_collected : (s t x y : HeapSeat) → Across Ran s t → IsTrue (collects (did s t)) → Across Ran t x → Across Ran x y → IsTrue (collects (did x y)) → WorksAgain s t x y
works_collected s t x y ran one between again two =
    let a : HasEnd (did s t) = end_collected (did s t) one in
    let b : HasEnd (did x y) = end_collected (did x y) two in
    record {
      own = a.0;
      end = a.1;
      ended = a.2;
      more = b.0;
      next = b.1;
      ends = b.2;
      works = works-again (view_of s) (view_of t) (view_of x) (view_of y) ran between again a.0 b.0 a.1 b.1 a.2 b.2;
    }

pub collections_bounded : CollectionsAreBounded
collections_bounded = record { ends = has_end; calls = works-until; since_own = works-since; again = works-again; collected = works_collected; few = tidy_few }
