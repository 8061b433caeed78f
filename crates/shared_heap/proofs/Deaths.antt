-- A mutator that took a weak reference is told the object's death.
use Rattle.std.proofs.Common.{ℕ, ◌≡◌, ◌≢◌, ◌%◌, ◌∙◌, ⊎_elim, List, [], ◌∷◌, ◌++◌, ap, true, false, inl, inr, refl, subst, sym, None, Option, Some}
use Rattle.std.specs.Prelude.{IfSome}
use Rattle.mark_core.specs.Bits.{has_bit}
use Rattle.mark_core.specs.Cards.{block_cells}
use Rattle.mark_core.specs.Laws.{IsCore}
use Rattle.mark_core.specs.Steps.{Core}
use Rattle.mark_core.specs.Steps.MutatorSteps.{seat_variable as word_in}
use Rattle.mark_core.specs.Weak.{IsAt, IsWeak}
use Rattle.mark_core.specs.declared.kinds.Step.TheVariants.{HoldRoot, ReadIdent, ReadWeak}
use Rattle.gc_table.specs.Agreement.{AgreesWith}
use Rattle.gc_table.specs.AgreementLaws.{IsLost}
use Rattle.gc_table.specs.Entries.{event}
use Rattle.gc_table.specs.Finding.{heap_found}
use Rattle.gc_table.specs.Log.{events}
use Rattle.gc_table.specs.Running.{Ran}
use Rattle.gc_table.specs.RunWorlds.{World}
use Rattle.gc_table.specs.Seats.{Across, view_of}
use Rattle.gc_table.specs.Taking.{after}
use Rattle.gc_table.specs.Weak.{HasWeak, IsLostForGood}
use Rattle.gc_table.specs.declared.view.Entry.{Entry}
use Rattle.gc_table.specs.declared.view.View.{View}
use Rattle.gc_table.proofs.History.Log.{events-of}
use Rattle.gc_table.proofs.Losing.{lost_for_good}
use Rattle.gc_table.proofs.Remembering.{weak-more, weak_remembered}
use Rattle.gc_table.proofs.Running.{ran-grows}
use Rattle.mutator_ops.specs.Upgrading.{FindsIdentity, FindsNothing, Upgrades}
use Rattle.seat_turns.specs.Weak.{TakesWeakIn, identity_of}
use Rattle.seat_turns.specs.declared.weak.Upgraded.TheVariants.{Dead}
use Rattle.seat_turns.specs.declared.weak.Weak.{Weak}
use Rattle.seat_steps.proofs.Whoever.{death-reaches, upgrade-known}
use Rattle.shared_heap.specs.Calls.{SharerActs}
use Rattle.shared_heap.specs.Deaths.{DeathReceived, HasTaken, IsDeadToAll, TakenStays, TellsDeath}
use Rattle.shared_heap.specs.Finding.{FindsHeap}
use Rattle.shared_heap.specs.Weak.{CanUpgrade}
use Rattle.shared_heap.specs.declared.mutator.SharedMutator.{SharedMutator}
use Rattle.shared_heap.proofs.Lost.{another-lost, found-one, found-two}

-- what a call did stands behind what was there
log_is : (v w : View) → Ran v w → w.log ≡ v.log ++ events v w
log_is v w ran = let g = ran-grows v w ran in g.1 ∙ ap (λ (l : List Entry). v.log ++ l) (sym (events-of v w g.0 g.1))

pub taken-stays : TakenStays
taken-stays weak x y ran h =
    subst (HasWeak weak.place (identity_of weak)) (sym (log_is (view_of x.seat) (view_of y.seat) ran)) (weak-more weak.place (identity_of weak) (view_of x.seat).log (events (view_of x.seat) (view_of y.seat)) h)

-- who takes one has it
takes-it : (name v : ℕ) (weak : Weak) (x z : View) → TakesWeakIn name v weak x z → HasWeak weak.place (identity_of weak) z.log
takes-it name v weak x z t =
    let finds = t.takes.finds in
    let own : View = t.takes.own in
    let reads : events own z ≡ event (ReadWeak weak.place) finds.bits ∷ event (ReadIdent weak.place) (identity_of weak) ∷ event (HoldRoot v (word_in x.state v)) finds.old ∷ [] =
    subst (λ (c : ℕ). events own z ≡ event (ReadWeak c) finds.bits ∷ event (ReadIdent c) (identity_of weak) ∷ event (HoldRoot v (word_in x.state v)) finds.old ∷ []) (sym t.place_is) finds.events_are in
    record {
      bits = finds.bits;
      before = own.log;
      later = event (HoldRoot v (word_in x.state v)) finds.old ∷ [];
      published = subst (λ (c : ℕ). has_bit finds.bits (c % block_cells) ≡ true) (sym t.place_is) t.takes.published;
      reads = log_is own z finds.ran ∙ ap (λ (l : List Entry). own.log ++ l) reads;
    }

pub taken-some : (name v : ℕ) (weak : Option Weak) (x z : View) → IfSome weak (λ w. TakesWeakIn name v w x z) → IfSome weak (λ w. HasWeak w.place (identity_of w) z.log)
taken-some name v (Some weak) x z t = takes-it name v weak x z t
taken-some name v None x z t = t

for_good : (c : Core) (world : World) (id : ℕ) → IsCore c → AgreesWith c world → IsLost c world id → IsLostForGood c world id
for_good c world id core agrees l later fit = lost_for_good c world later id core agrees fit l.gone

-- nothing was found in the cell
none-dead : (u c id : ℕ) (x y : SharedMutator) → HasWeak c id (view_of x.seat).log → FindsNothing u c (view_of x.seat) (view_of y.seat) → TellsDeath u c id (view_of x.seat) (view_of y.seat)
none-dead u c id x y h e =
    let asked : FindsHeap (ReadWeak c) e.bits (view_of x.seat) = (found-one u c x y e).0 refl in
    let d : Core = asked.finds.state.core in
    let world : World = heap_found (ReadWeak c) e.bits (view_of x.seat) asked.finds in
    let weak : IsWeak d id c = weak_remembered (ReadWeak c) e.bits c id (view_of x.seat) asked.finds h in
    inl (e.bits, e.old, e.events_are, record { asked = asked; lost = for_good d world id asked.finds.whole.core asked.agrees (asked.tells.none e.none id (inl weak)) })

-- another object was
another-dead : (u c id other : ℕ) (x y : SharedMutator) → HasWeak c id (view_of x.seat).log → other ≢ id → FindsIdentity u c other 0 (view_of x.seat) (view_of y.seat) → TellsDeath u c id (view_of x.seat) (view_of y.seat)
another-dead u c id other x y h differs e =
    let v : View = view_of x.seat in
    let read : FindsHeap (ReadIdent c) other (after (ReadWeak c) e.bits v) = (found-two u c other 0 x y e).1.0 refl in
    let d : Core = read.finds.state.core in
    let world : World = heap_found (ReadIdent c) other (after (ReadWeak c) e.bits v) read.finds in
    let weak : IsWeak d id c = weak_remembered (ReadIdent c) other c id (after (ReadWeak c) e.bits v) read.finds (weak-more c id v.log (event (ReadWeak c) e.bits ∷ []) h) in
    let at : IsAt d id c = record { given = weak.given; seated = weak.seated; only = λ z low used is. (weak.only z low used is).0 } in
    inr (e.bits, other, e.old, e.events_are, record { asked = read; lost = for_good d world id read.finds.whole.core read.agrees (another-lost c id other (after (ReadWeak c) e.bits v) read differs at) })

pub told-dead : (weak : Weak) (v : ℕ) (x y : SharedMutator) → SharerActs (CanUpgrade x weak v) (Upgrades v weak.place (identity_of weak) false) x y → HasTaken weak x → Across (TellsDeath v weak.place (identity_of weak)) x.seat y.seat
told-dead weak v x y e h =
    ⊎_elim (λ (n : FindsNothing v weak.place (view_of x.seat) (view_of y.seat)). none-dead v weak.place (identity_of weak) x y h n)
    (λ (o : (other : ℕ) × (other ≢ identity_of weak) × FindsIdentity v weak.place other 0 (view_of x.seat) (view_of y.seat)). another-dead v weak.place (identity_of weak) o.0 x y h o.1 o.2) e.does

-- whoever took it
pub known-dead : (weak : Weak) (v : ℕ) (x y : SharedMutator) → SharerActs (CanUpgrade x weak v) (Upgrades v weak.place (identity_of weak) false) x y → IsDeadToAll Dead weak x y
known-dead weak v x y e = upgrade-known v weak.place (identity_of weak) (view_of x.seat) (view_of y.seat) e.does

pub death-received : DeathReceived
death-received weak a m n x y z d es end taken stamps goes same ran dead b led done =
    death-reaches weak a.stamp m.seat y.seat z.seat d.seat es end taken stamps.of same goes.told ran dead b led done
