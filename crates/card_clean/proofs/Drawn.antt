-- What a seat that is alone in a drain has noted stays while it draws cards of the pass.
use Rattle.std.proofs.Common.{ℕ, ◌≡◌, ◌/◌, inl, inr, refl, true, false}
use Rattle.std.proofs.lemmas.Bool.{false≢true}
use Rattle.mark_core.specs.Cards.{block_cells}
use Rattle.mark_core.specs.Notes.{same_place}
use Rattle.mark_core.specs.Places.{mark_at, the_next_block, the_next_card}
use Rattle.mark_core.specs.declared.kinds.Step.{Step}
use Rattle.mark_core.specs.declared.kinds.Step.TheVariants.{DropStep, NextOfCards, OpenStep, ReadStat, StorePhase}
use Rattle.gc_table.specs.declared.view.View.{View}
use Rattle.gc_table.specs.Log.{Only}
use Rattle.gc_table.specs.Running.{Ran, ends_alone}
use Rattle.gc_table.proofs.Noticing.{Spares, alone-steady, known-alone}
use Rattle.packet_pools.specs.OnlyTraced.{IsNotedMarked}
use Rattle.card_clean.specs.Drained.{IsBeforeSweep, IsNotedRoot, IsRooted}
use Rattle.card_clean.specs.Passing.{draws_card}
use Rattle.card_clean.proofs.Staying.{ready-by, root-by, rooted-by}

-- the pass writes only its counter
spares-drawn : (at : ℕ × ℕ) → same_place the_next_card at ≡ false → Spares draws_card at
spares-drawn at apart sh s NextOfCards p = inl apart
spares-drawn at apart sh s (ReadStat which) p = inr refl
spares-drawn at apart sh s step p = absurd (false≢true p)

drawing-alone : (step : Step) → draws_card step ≡ true → ends_alone step ≡ false
drawing-alone OpenStep p = absurd (false≢true p)
drawing-alone DropStep p = absurd (false≢true p)
drawing-alone (StorePhase to) p = absurd (false≢true p)
drawing-alone step p = refl

marked-drawn : (v w : View) → Ran v w → Only draws_card v w → (c : ℕ) → v.state.alone ≡ true → IsNotedMarked v c → IsNotedMarked w c
marked-drawn v w r o c alone m =
    let at : ℕ × ℕ = mark_at (c / block_cells) in
    (m.0, (known-alone draws_card at m.0 drawing-alone (spares-drawn at refl) refl v w r o alone (m.1, alone-steady v.state at m.0 refl alone)).0, m.2)

module _ (v w : View) (r : Ran v w) (o : Only draws_card v w) where
  pub root-drawn : (i : ℕ) → v.state.alone ≡ true → IsNotedRoot i v → IsNotedRoot i w
  root-drawn = root-by draws_card drawing-alone (spares-drawn the_next_block refl) (λ i. spares-drawn (2, i) refl) marked-drawn v w r o

  pub ready-drawn : IsBeforeSweep v → IsBeforeSweep w
  ready-drawn = ready-by draws_card drawing-alone (spares-drawn the_next_block refl) (λ i. spares-drawn (2, i) refl) marked-drawn v w r o

  -- the roots are seen to still
  pub rooted-drawn : IsRooted v → IsRooted w
  rooted-drawn = rooted-by draws_card drawing-alone (spares-drawn the_next_block refl) (λ i. spares-drawn (2, i) refl) marked-drawn v w r o
