-- What the log of a seat that lays a queue out tells, one step after the other.
use Rattle.std.proofs.Common.{ℕ, ◌≡◌, ◌≢◌, ◌⊎◌, ◌+◌, ◌==◌, ◌∙◌, List, [], ◌∷◌, ◌++◌, length, length-set, refl, ap, not, inl, inr, ⊎_elim, Bool, true, false, Option, None, Some}
use Rattle.std.specs.Prelude.{if◌then◌else◌}
use Rattle.std.proofs.lemmas.Bool.{and_parts, cases_eq, false≢true, true≢false}
use Rattle.plain_heap.specs.Paths.{Name}
use Rattle.mark_core.specs.Layout.{words_of}
use Rattle.mark_core.specs.Steps.{Core}
use Rattle.mark_core.specs.declared.kinds.Step.{Step}
use Rattle.mark_core.specs.declared.kinds.Step.TheVariants.{ExchangeField, ExchangeValue, HoldRoot, Join, ReadCat, ReadOwn, ReadSlot, ReadWeak, Split, StoreField, StoreNew, StoreRoot, StoreSlot, StoreValue}
use Rattle.mark_core.specs.declared.seat.SeatState.{SeatState}
use Rattle.mark_core.proofs.Blocks.BlocksStopped.{Taken}
use Rattle.gc_table.specs.Lending.{leaves_variable}
use Rattle.gc_table.specs.Past.{entries_of, word_told}
use Rattle.gc_table.specs.RunWorlds.{World, WorldObject, WorldSection, own_section, replaced, section_of, variable_of, with_object, with_part, with_register, with_variable, world_by}
use Rattle.gc_table.specs.declared.view.Entry.{Entry}
use Rattle.gc_table.proofs.Frame.{Mutates}
use Rattle.gc_table.proofs.Reading.{section-other}
use Rattle.heap_laws.specs.Lent.{holds_lent}
use Rattle.heap_laws.proofs.Fields.{stores_field}
use Rattle.heap_laws.proofs.Sections.{change_keeps, mutator_of}
use Rattle.queue_laws.specs.LentQueues.{Laying, laid_after, laying_after, layings, makes_none, only_lays}
use Rattle.queue_laws.specs.QueueLogs.{Hands}

-- What a log tells, one part after the other.
pub layings_join : (u : ℕ) (h : Hands) (k : Laying) (xs ys : List Entry) → layings u h k (xs ++ ys) ≡ layings u h (layings u h k xs) ys
layings_join u h k [] ys = refl
layings_join u h k (x ∷ xs) ys = layings_join u h (laying_after u h k x.step x.found) xs ys

pub lent_told : (u : ℕ) (h : Hands) (k : Laying) (es : List Entry) → (layings u h k es).lent ≡ holds_lent u h.queue k.loaded k.lent es
lent_told u h k [] = refl
lent_told u h k (e ∷ es) = lent_told u h (laying_after u h k e.step e.found) es

pub only_before : (u : ℕ) (h : Hands) (k : Laying) (es : List Entry) → (layings u h k es).only ≡ true → k.only ≡ true
only_before u h k [] e = e
only_before u h k (x ∷ xs) e = (and_parts k.only (only_lays h k.lent x.step) (only_before u h (laying_after u h k x.step x.found) xs e)).0

-- what the entries of one step tell, if it is logged
pub data_none : (u : ℕ) (h : Hands) (k : Laying) (c : Core) (s : SeatState) (step : Step) → ((layings u h k (entries_of c (Some s) step) ≡ k) × ((v : ℕ) → leaves_variable v step ≡ true)) ⊎ (layings u h k (entries_of c (Some s) step) ≡ laying_after u h k step (word_told c s step))
data_none u h k c s Split = inl (refl, λ v. refl)
data_none u h k c s (Join other) = inl (refl, λ v. refl)
data_none u h k c s step = inr refl

-- How many objects a section has.
pub object_count : (world : World) (to : Option Name) (f : WorldObject → WorldObject) (k : ℕ) → length (section_of (with_object world to f) k).objects ≡ length (section_of world k).objects
object_count world None f k = refl
object_count world (Some name) f k = change_keeps (λ (x : WorldSection). length x.objects) world name.section k (λ x. record x { objects = replaced x.objects name.number f }) (λ x. length-set x.objects name.number _)

pub none_next : (c : Core) (j : ℕ) (s : SeatState) (step : Step) (world : World) (m : ℕ) → Taken c j s step → (m ≡ j → makes_none step ≡ true) → length (section_of (world_by c.shape (words_of c.shape c.words) s step world) m).objects ≡ length (section_of world m).objects
none_next c j s (StoreField v i x) world m t e = object_count world (variable_of world (own_section s) v) _ m
none_next c j s (StoreValue v n) world m t e = object_count world (variable_of world (own_section s) v) _ m
none_next c j s (ExchangeField v i x y) world m t e = object_count world (variable_of world (own_section s) v) _ m
none_next c j s (ExchangeValue v a n) world m t e = object_count world (variable_of world (own_section s) v) _ m
none_next c j s (StoreRoot v r) world m t e = change_keeps (λ (x : WorldSection). length x.objects) world (own_section s) m (with_variable v _) (λ x. refl)
none_next c j s (HoldRoot v r) world m t e = change_keeps (λ (x : WorldSection). length x.objects) world (own_section s) m (with_variable v _) (λ x. refl)
none_next c j s (StoreSlot v r) world m t e = change_keeps (λ (x : WorldSection). length x.objects) world (own_section s) m (with_variable (32 + v) _) (λ x. refl)
none_next c j s (ReadSlot v) world m t e = change_keeps (λ (x : WorldSection). length x.objects) world (own_section s) m (with_register _) (λ x. refl)
none_next c j s (ReadWeak v) world m t e = change_keeps (λ (x : WorldSection). length x.objects) world (own_section s) m (with_register _) (λ x. refl)
none_next c j s (ReadOwn v i) world m t e = change_keeps (λ (x : WorldSection). length x.objects) world (own_section s) m (with_register _) (λ x. refl)
none_next c j s (ReadCat v) world m t e = change_keeps (λ (x : WorldSection). length x.objects) world (own_section s) m (with_register _) (λ x. refl)
none_next c j s (StoreNew x part word) world m t e =
    let mu : Mutates c j s = mutator_of c j s (StoreNew x part word) t refl in
    ⊎_elim
    (λ (same : m ≡ j). absurd (false≢true (e same)))
    (λ (d : m ≢ j). ap (λ (y : WorldSection). length y.objects) (section-other world (own_section s) m (with_part c.shape.fields part word) (λ z. d (z ∙ mu.own))))
    (cases_eq m j)
none_next c j s step world m t e = refl

-- what is laid stays so after a step that stores in no field
pub laid_kept : (own f : ℕ) (b : Bool) (step : Step) → stores_field step ≡ false → laid_after own f b step ≡ true → (b ≡ true) × (leaves_variable own step ≡ true)
laid_kept own f b (StoreField v i x) none e = absurd (true≢false none)
laid_kept own f b (StoreRoot v r) none e = by_own (v == own) e
  where
    by_own : (q : Bool) → (if q then false else b) ≡ true → (b ≡ true) × (not q ≡ true)
    by_own true t = absurd (false≢true t)
    by_own false t = (t, refl)
laid_kept own f b (HoldRoot v r) none e = by_own (v == own) e
  where
    by_own : (q : Bool) → (if q then false else b) ≡ true → (b ≡ true) × (not q ≡ true)
    by_own true t = absurd (false≢true t)
    by_own false t = (t, refl)
laid_kept own f b step none e = (e, refl)
