-- What a seat that is alone in a drain has noted stays while it traces: by the steps that it takes alone.
use Rattle.mark_core.specs.Layout.{root_count}
use Rattle.std.proofs.Common.{ℕ, ◌≡◌, ◌-◌, ◌<◌, inl, inr, refl, subst, Bool, true, false, ⊎_elim}
use Rattle.std.proofs.lemmas.Bool.{false≢true}
use Rattle.mark_core.specs.Places.{the_next_block}
use Rattle.mark_core.specs.declared.kinds.Phase.TheVariants.{Drain}
use Rattle.mark_core.specs.declared.kinds.Shape.{Shape}
use Rattle.mark_core.specs.declared.kinds.Step.{Step}
use Rattle.mark_core.specs.declared.kinds.Step.TheVariants.{ReadRoot, ReadCat, StoreRoot, Reset, AddStat, ReadStat, StoreNew, NextBlock, LoadSlot, ReadSlot, StoreSlot, HoldRoot, FlushRoot}
use Rattle.gc_table.specs.declared.view.View.{View}
use Rattle.gc_table.specs.Log.{Only}
use Rattle.gc_table.specs.Running.{Ran, ends_alone}
use Rattle.gc_table.proofs.Noticing.{Spares, alone-kept, alone-steady, known-alone}
use Rattle.gc_table.proofs.Running.{ran-shape}
use Rattle.packet_pools.specs.OnlyTraced.{IsNotedMarked, traces_cells}
use Rattle.packet_pools.proofs.TracedSteps.{marked-stays, tracing-alone}
use Rattle.card_clean.specs.Drained.{IsBeforeSweep, IsNotedRoot, IsRooted}

-- by steps of any sort with which the seat stays alone, and which clear no mark and write neither the counter of blocks nor a root
module _ (P : Step → Bool) (quiet : (step : Step) → P step ≡ true → ends_alone step ≡ false) (block : Spares P the_next_block) (root : (i : ℕ) → Spares P (2, i))
    (marks : (v w : View) → Ran v w → Only P v w → (c : ℕ) → v.state.alone ≡ true → IsNotedMarked v c → IsNotedMarked w c) (v w : View) (r : Ran v w) (o : Only P v w) where
  pub root-by : (i : ℕ) → v.state.alone ≡ true → IsNotedRoot i v → IsNotedRoot i w
  root-by i alone k =
      record {
        word = k.word;
        noted = (known-alone P (2, i) k.word quiet (root i) refl v w r o alone (k.noted, alone-steady v.state (2, i) k.word refl alone)).0;
        marked = ⊎_elim (λ (z : k.word ≡ 0). inl z) (λ (m : IsNotedMarked v (k.word - 1)). inr (marks v w r o (k.word - 1) alone m)) k.marked;
      }

  pub ready-by : IsBeforeSweep v → IsBeforeSweep w
  ready-by k =
      record {
        drains = alone-kept Drain P quiet v w r o k.drains;
        next_block = (known-alone P the_next_block 0 quiet block refl v w r o k.drains.alone (k.next_block, alone-steady v.state the_next_block 0 refl k.drains.alone)).0;
      }

  pub rooted-by : IsRooted v → IsRooted w
  rooted-by k = record { ready = ready-by k.ready; roots = λ i h. root-by i k.ready.drains.alone (k.roots i (subst (λ (sh : Shape). i < root_count sh) (ran-shape v w r) h)) }

spares-block : Spares traces_cells the_next_block
spares-block sh s NextBlock p = absurd (false≢true p)
spares-block sh s (Reset which) p = absurd (false≢true p)
spares-block sh s (AddStat which by down) p = absurd (false≢true p)
spares-block sh s (ReadStat which) p = absurd (false≢true p)
spares-block sh s (StoreNew c part word) p = absurd (false≢true p)
spares-block sh s step p = inl refl

spares-root : (i : ℕ) → Spares traces_cells (2, i)
spares-root i sh s (ReadRoot section v) p = inr refl
spares-root i sh s (LoadSlot section k) p = inr refl
spares-root i sh s (ReadSlot k) p = absurd (false≢true p)
spares-root i sh s (StoreSlot k q) p = absurd (false≢true p)
spares-root i sh s (ReadCat v) p = absurd (false≢true p)
spares-root i sh s (StoreRoot v r) p = absurd (false≢true p)
spares-root i sh s (HoldRoot v r) p = absurd (false≢true p)
spares-root i sh s (FlushRoot v) p = absurd (false≢true p)
spares-root i sh s (Reset which) p = absurd (false≢true p)
spares-root i sh s (AddStat which by down) p = absurd (false≢true p)
spares-root i sh s (ReadStat which) p = absurd (false≢true p)
spares-root i sh s (StoreNew c part word) p = absurd (false≢true p)
spares-root i sh s step p = inl refl

-- while it traces
module _ (v w : View) (r : Ran v w) (o : Only traces_cells v w) where
  pub root-stays : (i : ℕ) → v.state.alone ≡ true → IsNotedRoot i v → IsNotedRoot i w
  root-stays = root-by traces_cells tracing-alone spares-block spares-root marked-stays v w r o

  pub ready-stays : IsBeforeSweep v → IsBeforeSweep w
  ready-stays = ready-by traces_cells tracing-alone spares-block spares-root marked-stays v w r o

  pub rooted-stays : IsRooted v → IsRooted w
  rooted-stays = rooted-by traces_cells tracing-alone spares-block spares-root marked-stays v w r o
