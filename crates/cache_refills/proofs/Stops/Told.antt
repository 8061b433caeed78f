-- Steps of which a watch isn't told, and a stop of which it is.
use Rattle.std.proofs.Common.{ℕ, ◌≡◌, List, [], ◌∷◌, ◌++◌, refl, sym, ap, ◌∙◌, subst, Bool, true, false, not, ◌||◌, Some, None, Option}
use Rattle.std.specs.Prelude.{IfNone, IfSome}
use Rattle.std.proofs.lemmas.Bool.{false≢true, not-true, true≢false}
use Rattle.mark_core.specs.declared.kinds.Phase.{Phase}
use Rattle.mark_core.specs.declared.kinds.Phase.TheVariants.{Marking}
use Rattle.mark_core.specs.declared.kinds.Shape.{Shape}
use Rattle.mark_core.specs.declared.kinds.Step.{Step}
use Rattle.mark_core.specs.declared.kinds.Step.TheVariants.{ClaimBlock, DropStep, RaiseStep, StorePhase}
use Rattle.gc_table.specs.Log.{events, Only}
use Rattle.gc_table.specs.Running.{Ran}
use Rattle.gc_table.specs.Seats.{Took}
use Rattle.gc_table.specs.declared.view.Entry.{Entry}
use Rattle.gc_table.specs.declared.view.View.{View}
use Rattle.gc_table.proofs.History.Log.{events-after, only-more}
use Rattle.gc_table.proofs.Running.{ran-events, ran-join, ran-took}
use Rattle.packet_pools.specs.Seeking.{some_event}
use Rattle.packet_pools.proofs.Searches.{some-left, some-right}
use Rattle.alloc_cache.specs.Claiming.{Claims, claimed_by, seeks_block}
use Rattle.alloc_cache.specs.declared.cache.Cache.{Cache}
use Rattle.gc_cycle.specs.Answering.{answers}
use Rattle.gc_cycle.specs.Events.{never, since_last}
use Rattle.gc_cycle.specs.Finishing.{IsPart, stays}
use Rattle.gc_cycle.specs.Mutating.{AsksOnce, spares_world, stays_calm}
use Rattle.gc_cycle.specs.Sorts.{claims, comes_in, resumes}
use Rattle.gc_cycle.specs.Sparing.{spares_part}
use Rattle.gc_cycle.proofs.Parts.{part-stays}
use Rattle.gc_cycle.proofs.Since.{since-more}
use Rattle.gc_cycle.proofs.Sequences.{none-of-steps, some-none}
use Rattle.gc_cycle.proofs.Stops.Spared.{only-without, spares-answers}
use Rattle.cache_refills.specs.Notices.{Hears, IsTold, Notice}
use Rattle.cache_refills.specs.Notices as notices
use Rattle.cache_refills.specs.Pace.Paying.{claimed_in_stop}
use Rattle.cache_refills.specs.Refilling.{ClaimsAlone, EndsClaimed, prepares}
use Rattle.cache_refills.specs.Telling.{IsUntold, TellsStops}
use Rattle.cache_refills.proofs.Refills.Claimed.{claim-only, claims_block, claims-prepare, seeks-claim}
use Rattle.cache_refills.proofs.Stops.InStop.{ClaimsNone}
use Rattle.cache_refills.proofs.Telling.{blocks-untold, hears-join, stops-asking, stops-join, stops-last, stops-resuming}

-- on the way to a block

prepares-world : (step : Step) → prepares step ≡ true → spares_world step ≡ true
prepares-world RaiseStep e = absurd (false≢true e)
prepares-world DropStep e = absurd (false≢true e)
prepares-world (StorePhase Marking) e = refl
prepares-world (StorePhase to) e = absurd (false≢true e)
prepares-world step e = refl

pub prepared-untold : (v w : View) → Ran v w → Only prepares v w → IsUntold v w
prepared-untold v w r o = (r, only-more prepares spares_world prepares-world v w o)

pub claims-untold : (sh : Shape) (o : Option Cache) (v w : View) → Ran v w → IfSome o (λ h. Claims h v w) → IfNone o (ClaimsNone sh v w) → IsUntold v w
claims-untold sh None v w r s n = prepared-untold v w r (only-more seeks_block prepares (λ step e. claims-prepare step (seeks-claim step e)) v w n.3)
claims-untold sh (Some h) v w r s n = prepared-untold v w r (only-more claims_block prepares claims-prepare v w (claim-only h v w s))

-- a part of a stop

stays-world : (step : Step) → stays step ≡ true → spares_world step ≡ true
stays-world RaiseStep e = absurd (false≢true e)
stays-world DropStep e = absurd (false≢true e)
stays-world (StorePhase to) e = absurd (false≢true e)
stays-world step e = refl

pub part-untold : (p : Phase) (v w : View) → IsPart p v w → IsUntold v w
part-untold p v w k = (k.ran, only-more stays spares_world stays-world v w (part-stays p v w k))

-- an answer, and a payment

pub answers-untold : (v w : View) → Ran v w → Only answers v w → IsUntold v w
answers-untold v w r o = blocks-untold v w r (spares-answers v w o)

calm-world : (step : Step) (n : ℕ) → stays_calm step ≡ true → comes_in step n ≡ false → spares_world step ≡ true
calm-world RaiseStep n e c = absurd (false≢true e)
calm-world (StorePhase to) n e c = absurd (false≢true e)
calm-world DropStep n e c = absurd (true≢false c)
calm-world step n e c = refl

pub calm-untold : (v w : View) → Ran v w → Only stays_calm v w → never comes_in (events v w) ≡ true → IsUntold v w
calm-untold v w r o i = (r, only-without stays_calm spares_world comes_in calm-world (events v w) o (not-true _ i))

-- a stop: it was asked for, things were done in it, it ended, and the seat looked at the phase

answers-unclaimed : (step : Step) (n : ℕ) → answers step ≡ true → claims step n ≡ false
answers-unclaimed (ClaimBlock b) n e = absurd (false≢true e)
answers-unclaimed step n e = refl

module _ (v w x y : View) (d : Took DropStep w x) (q : Ran x y) (a : Only answers x y) where
  last-untold : IsUntold x y
  last-untold = answers-untold x y q a

  dropped : Ran w x
  dropped = ran-took w x DropStep refl d

  pub stop-told : {S : Type 0} (hears : S → Notice → S → Type 0) (u : View) (r s t z : S) → AsksOnce u v → hears r notices.asks s → IsTold hears (λ ns. TellsStops ns v w) s t → hears t notices.resumes z → IsTold hears (λ ns. TellsStops ns u y) r z
  stop-told hears u r s t z k h i j =
      let end : List Notice = notices.resumes ∷ [] in
      record {
        notices = notices.asks ∷ (i.notices ++ end);
        heard = (s, h, hears-join hears i.notices end s t z i.heard (z, j, refl));
        tells =
            stops-join (notices.asks ∷ []) (i.notices ++ end) u v y (stops-asking u v k)
            (stops-join i.notices end v w y i.tells (stops-last end w x y (stops-resuming w x d) last-untold));
      }

  pub stop-inside : (o : Option Cache) (h : Cache) (u : View) → Ran u v → ClaimsAlone o v w → Some h ≡ o → (some_event claims (events u y) ≡ true) × (claimed_in_stop (events u y) ≡ true)
  stop-inside o h u r c e =
      let all = subst (λ p. IfSome p (λ z. (first : List Entry) × EndsClaimed z first v w)) (sym e) (some-end o c.some) in
      let before = ran-join u v w r c.ran in
      let after = ran-join w x y dropped q in
      let claimed : some_event claims (events u w) ≡ true =
      ap (some_event claims) (ran-events u v w r c.ran)
      ∙ some-right claims (events u v) (events v w) (ap (some_event claims) all.1.all ∙ some-right claims all.0 (claimed_by h all.1.word all.1.count) refl) in
      let end = ran-events w x y dropped q in
      let none : some_event claims (events w y) ≡ false =
      ap (some_event claims) end
      ∙ some-none claims (events w x) (events x y) (ap (some_event claims) (events-after w x DropStep d.0 d.1.0)) (none-of-steps answers claims answers-unclaimed (events x y) a) in
      let resumed : some_event resumes (events w y) ≡ true =
      ap (some_event resumes) end ∙ some-left resumes (events w x) (events x y) (ap (some_event resumes) (events-after w x DropStep d.0 d.1.0)) in
      let es = ran-events u w y before after in (
        ap (some_event claims) es ∙ some-left claims (events u w) (events w y) claimed,
        ap claimed_in_stop es
            ∙ (ap (some_event resumes) (since-more claims (events u w) (events w y) claimed none) ∙ some-right resumes (since_last claims (events u w)) (events w y) resumed),
      )
    where
      some-end : (p : Option Cache) → IfSome p (λ z. Only spares_part v w × ((first : List Entry) × EndsClaimed z first v w)) → IfSome p (λ z. (first : List Entry) × EndsClaimed z first v w)
      some-end None k = tt
      some-end (Some z) k = k.1
