-- What the searches of a call tried, as cards are cleaned.
use Rattle.std.proofs.Common.{ℕ, ◌≡◌, List, [], ◌∷◌, arith, refl, sym, ap, ◌∙◌, subst, Bool, true, false, cond}
use Rattle.std.proofs.lemmas.Bool.{or_from}
use Rattle.mark_core.specs.declared.kinds.Shape.{Shape}
use Rattle.mark_core.specs.declared.kinds.Step.{Step}
use Rattle.mark_core.specs.declared.kinds.Step.TheVariants.{DirtyCard}
use Rattle.gc_table.specs.declared.view.Entry.{Entry}
use Rattle.gc_table.specs.declared.view.View.{View}
use Rattle.gc_table.specs.Log.{event, events}
use Rattle.gc_table.specs.Taking.{after}
use Rattle.gc_table.proofs.History.Log.{events-after, events-none}
use Rattle.packet_pools.specs.declared.held.Held.{Held}
use Rattle.packet_pools.specs.declared.search.Search.{Search}
use Rattle.packet_pools.specs.Counts.{dirties}
use Rattle.packet_pools.specs.Seeking.{gets, some_event, was_got}
use Rattle.packet_pools.specs.Tried.{Leads, SearchesOn, SearchesThrough}
use Rattle.packet_pools.proofs.Tried.{leads-on, searches-still}
use Rattle.packet_pools.proofs.Overflows.{overflows-none}

-- nothing was done
pub searches-none : (sh : Shape) (s : Search) (h : Held) (v : View) → SearchesOn sh s s h h (events v v)
searches-none sh s h v = subst (SearchesOn sh s s h h) (sym (events-none v)) (searches-still sh s h [] refl (λ p. refl))

-- no packet was taken
pub leads-still : (sh : Shape) (s : Search) (h : Held) (es : List Entry) → ((p : ℕ) → was_got p es ≡ false) → Leads sh s s h h es
leads-still sh s h es none = leads-on sh s h h es refl (omega arith) none

-- the card may have been dirtied
pub dirties-ungot : (b : Bool) (card p : ℕ) → was_got p (cond b (event (DirtyCard card) 1 ∷ []) []) ≡ false
dirties-ungot true card p = refl
dirties-ungot false card p = refl

-- one step that takes no packet and dirties no card
pub overflows-still : (sh : Shape) (s : Search) (h : Held) (step : Step) (n : ℕ) (v w : View) → w ≡ after step n v → dirties step n ≡ false → ((p : ℕ) → gets p step n ≡ false) → SearchesThrough sh s s h h (events v w)
overflows-still sh s h step n v w e quiet none =
    let one = events-after v w step n e in
    overflows-none sh s s h h (events v w) (ap (some_event dirties) one ∙ or_from _ _ quiet refl) (leads-still sh s h (events v w) (λ p. ap (was_got p) one ∙ or_from _ _ (none p) refl))
