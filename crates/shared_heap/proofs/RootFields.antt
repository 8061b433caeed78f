-- The seat of section 0 stores in no field.
use Rattle.std.proofs.Common.{ℕ, ◌≡◌, ◌∙◌, ◌+◌, List, [], ◌∷◌, ◌++◌, ap, map, refl, true}
use Rattle.std.specs.List.{range_with_len}
use Rattle.std.proofs.lemmas.Bool.{and_from, false≢true}
use Rattle.mark_core.specs.declared.kinds.Step.{Step}
use Rattle.mark_core.specs.declared.kinds.Step.TheVariants.{ExchangeField, HoldRoot, StoreField, StoreNew}
use Rattle.alloc_cache.specs.Making.{making_steps, nil_fields}
use Rattle.gc_table.specs.Log.{all_steps, events, steps_of}
use Rattle.gc_table.specs.declared.view.Entry.{Entry}
use Rattle.gc_table.specs.declared.view.View.{View}
use Rattle.seat_turns.specs.Sharing.{spares_heap}
use Rattle.shared_heap.specs.Rooting.{MakesRoot, spares_fields, spares_season}
use Rattle.shared_heap.proofs.Once.{root-log}
use Rattle.shared_heap.proofs.Rooted.{all-join, all-more}

pub field-spared : (step : Step) → spares_heap step ≡ true → spares_fields step ≡ true
field-spared (StoreField v i x) e = absurd (false≢true e)
field-spared (ExchangeField v i x y) e = absurd (false≢true e)
field-spared step e = refl

season_field : (step : Step) → spares_season step ≡ true → spares_fields step ≡ true
season_field (StoreField v i x) e = absurd (false≢true e)
season_field (ExchangeField v i x y) e = absurd (false≢true e)
season_field step e = refl

-- a list of steps none of which stores in a field
abbrev AllSpare : List Step → Type 0
AllSpare [] = Unit {0}
AllSpare (s ∷ ss) = (spares_fields s ≡ true) × AllSpare ss

spare_join : (xs ys : List Step) → AllSpare xs → AllSpare ys → AllSpare (xs ++ ys)
spare_join [] ys a b = b
spare_join (x ∷ xs) ys a b = (a.0, spare_join xs ys a.1 b)

new_spared : (c : ℕ) (ns : List ℕ) → AllSpare (map (λ i. StoreNew c i 0) ns)
new_spared c [] = tt
new_spared c (n ∷ ns) = (refl, new_spared c ns)

made_spared : (fields c value identity r : ℕ) → AllSpare (making_steps fields c value identity ++ HoldRoot 0 r ∷ [])
made_spared fields c value identity r =
    spare_join (making_steps fields c value identity) (HoldRoot 0 r ∷ [])
    (spare_join (nil_fields c fields) (StoreNew c fields value ∷ StoreNew c (fields + 1) identity ∷ []) (new_spared c (range_with_len 0 fields)) (refl, (refl, tt)))
    (refl, tt)

steps_spared : (es : List Entry) (ss : List Step) → steps_of es ≡ ss → AllSpare ss → all_steps spares_fields es ≡ true
steps_spared [] ss e a = refl
steps_spared (x ∷ xs) [] e a = absurd (cc)
steps_spared (x ∷ xs) (s ∷ ss) e a = and_from (spares_fields x.step) (all_steps spares_fields xs) (ap spares_fields (head_is e) ∙ a.0) (steps_spared xs ss (tail_is e) a.1)
  where
    head_is : x.step ∷ steps_of xs ≡ s ∷ ss → x.step ≡ s
    head_is h = cc

    tail_is : x.step ∷ steps_of xs ≡ s ∷ ss → steps_of xs ≡ ss
    tail_is h = cc

-- what the seat of section 0 did stores in no field
pub root-fields : (start w : View) → start.log ≡ [] → MakesRoot start w → all_steps spares_fields w.log ≡ true
root-fields start w empty m =
    let front = all-more spares_season spares_fields season_field (events start m.before) m.comes.only in
    let mids = steps_spared (events m.before m.made) _ m.creates.steps_are (made_spared _ _ _ _ _) in
    let back = all-more spares_heap spares_fields field-spared (events m.made w) m.rest.only in
    ap (all_steps spares_fields) (root-log start w empty m)
    ∙ all-join spares_fields (events start m.before) (events m.before m.made ++ events m.made w) front (all-join spares_fields (events m.before m.made) (events m.made w) mids back)
