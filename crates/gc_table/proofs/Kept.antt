-- Each event that is allowed leads to a state that agrees with the heap after it, and so does every run.
use Rattle.mark_core.proofs.References.ReferencesNow.{the-roots, now-stores, now-holds, now-slots}
use Rattle.mark_core.proofs.Lagging.{now-length, now-still, Shows}
use Rattle.mark_core.specs.Variables.{roots_now}
use Rattle.mark_core.specs.Bits.{with_bit}
use Rattle.mark_core.proofs.Used.UsedSeats.{IsMadeBy}
use Rattle.mark_core.proofs.Pool.PoolPlaces.{same_place}
use Rattle.mark_core.specs.Bits.{reference_in}
use Rattle.std.proofs.Common.{ℕ, ◌≡◌, ◌≢◌, ◌+◌, ◌*◌, ◌<◌, List, set, length, arith, refl, sym, ap, ◌∙◌, subst, Option, None, ◌⊎◌, inl, inr, ⊎_elim, [], ◌∷◌, eqb, Some}
use Rattle.std.specs.Prelude.{slice_index, slice_index_or, nat_lt, is_none, if◌then◌else◌}
use Rattle.std.proofs.lemmas.Bool.{and_parts, ltb-true, cases_eq, true≢false, false≢true}
use Rattle.std.proofs.lemmas.List.{get_or-set_same, get_or-set_other, length-set, get_or-replicate, length-replicate}
use Rattle.plain_heap.specs.Paths.{Name}
use Rattle.mark_core.specs.Layout.{Words, words_of, root_count}
use Rattle.mark_core.specs.Seats.{may_mutate}
use Rattle.mark_core.specs.Effects.{seat_after}
use Rattle.mark_core.specs.Steps.{Core, failing_part, after_event, run_of, start_core}
use Rattle.mark_core.proofs.Known.{found, words_left, seats_left}
use Rattle.mark_core.proofs.HeldBlock.{roots-length}
use Rattle.mark_core.proofs.Blocks.BlocksStopped.{Taken, in-place, kept-after}
use Rattle.mark_core.specs.declared.kinds.Step.{Step}
use Rattle.mark_core.specs.declared.kinds.Step.TheVariants.{StoreRoot, StoreSlot, ReadOwn, ReadCat, StoreField, StoreValue, ClaimBlock, ReleaseBlock, ReadFree, StoreNew, PublishCells, Split, Join, ExchangeField, ExchangeValue, ReadSlot, ReadWeak, HoldRoot}
use Rattle.mark_core.specs.declared.seat.SeatState.{SeatState}
use Rattle.gc_table.specs.RunWorlds.{World, WorldSection, section_of, variable_of, in_section, with_variable, name_at, referred, own_section, new_section, world_by, start_world, start_section}
use Rattle.gc_table.specs.Agreement.{SeatAgrees, AgreesIn, AgreesWith}
use Rattle.gc_table.proofs.Reading.{section-same, section-other, sections-kept, view-kept, object-kept, read-own, read-cat, read-slot, read-weak}
use Rattle.gc_table.proofs.Frame.{holds-on, Moves, moved, had-object, Mutates, mutates}
use Rattle.gc_table.proofs.Exchanges.{exchange-field, exchange-value}
use Rattle.std.proofs.lemmas.List.Elements.{All-head, All-tail}
use Rattle.mark_core.specs.Start.{start_words, start_seats}
use Rattle.mark_core.proofs.Pool.PoolStart.{each-seat}
use Rattle.mark_core.specs.Laws.{IsCore, NumbersFit, AllNumbersFit}
use Rattle.mark_core.proofs.CoreKept.{core_kept, core-starts}
use Rattle.mark_core.proofs.Formed.FormedSeats.{seat-at}
use Rattle.mark_core.proofs.References.ReferencesRoots.{no-root, none-used}
use Rattle.mark_core.specs.declared.kinds.Event.{Event}
use Rattle.mark_core.specs.declared.kinds.Shape.{Shape}
use Rattle.gc_table.specs.AgreementLaws.{StartAgrees, EventsAgree, RunsAgree, world_of, world_after, world_run}
use Rattle.gc_table.proofs.Still.{same-making, none-making, free-making, published-making, claimed-making, still-seat, still-split, still-join}
use Rattle.gc_table.proofs.NewObjects.{store-new}
use Rattle.gc_table.proofs.Stores.{store-field, store-value}

-- 19 and 52: a root is stored, a variable or a slot: it refers to what the word refers to.
-- variable u of section j, whose root has this index, is variable v of section i, whose root is stored, or both are others
abbrev Beside : ℕ → ℕ → ℕ → ℕ → ℕ → ℕ → Type 0
Beside i v at j u index = ((j ≡ i) × (u ≡ v) × (index ≡ at)) ⊎ ((j ≡ i → u ≢ v) × (index ≢ at))

-- the variable that is stored, and another one
variable_stored : (world : World) (i v : ℕ) (to : Option Name) → i < length world → v < length (section_of world i).variables → variable_of (in_section world i (with_variable v to)) i v ≡ to
variable_stored world i v to h hv =
    ap (λ (x : WorldSection). slice_index_or x.variables v None) (section-same world i (with_variable v to) h) ∙ get_or-set_same (section_of world i).variables v to None hv

variable_other : (world : World) (i v : ℕ) (to : Option Name) (j u : ℕ) → i < length world → (j ≡ i → u ≢ v) → variable_of (in_section world i (with_variable v to)) j u ≡ variable_of world j u
variable_other world i v to j u h d =
    ⊎_elim
    (λ (e : j ≡ i).
    subst (λ (y : ℕ). variable_of (in_section world i (with_variable v to)) y u ≡ variable_of world y u) (sym e)
    (ap (λ (x : WorldSection). slice_index_or x.variables u None) (section-same world i (with_variable v to) h) ∙ get_or-set_other (section_of world i).variables v u to None (d e)))
    (λ (n : j ≢ i). ap (λ (x : WorldSection). slice_index_or x.variables u None) (section-other world i j (with_variable v to) n))
    (cases_eq j i)

root_agrees : (ids roots : List ℕ) (world : World) (i v at r j u index : ℕ) → i < length world → v < length (section_of world i).variables → at < length roots → Beside i v at j u index → referred ids (slice_index roots index) ≡ variable_of world j u
    → referred ids (slice_index (set roots at r) index) ≡ variable_of (in_section world i (with_variable v (referred ids r))) j u
root_agrees ids roots world i v at r j u index h hv ha (inl e) before = rw (e.0, e.1, e.2) (ap (referred ids) (get_or-set_same roots at r 0 ha) ∙ sym (variable_stored world i v (referred ids r) h hv))
root_agrees ids roots world i v at r j u index h hv ha (inr d) before = ap (referred ids) (get_or-set_other roots at index r 0 d.1) ∙ before ∙ sym (variable_other world i v (referred ids r) j u h d.0)

root_moves : (c : Core) (i : ℕ) (s : SeatState) (step : Step) (v at r : ℕ) (words env : List ℕ) (lags : ℕ) (world : World) → roots_now words (set c.seats i (record s { env = env; lags = lags; got = 0 })) ≡ set (the-roots c) at r → Taken c i s step → AgreesWith c world → Mutates c i s → ((y : ℕ) → IsMadeBy c.shape step y → ⊥) → v < 32 + c.shape.slots → at < root_count c.shape
    → ((j u : ℕ) → j < c.shape.sections → u < 32 → Beside i v at j u (j * 32 + u)) → ((j q : ℕ) → j < c.shape.sections → q < c.shape.slots → Beside i v at j (32 + q) (c.shape.sections * 32 + (j * c.shape.slots + q)))
    → Moves c i s step (record (words_of c.shape c.words) { roots = words }) (record s { env = env; lags = lags; got = 0 }) world (in_section world i (with_variable v (referred (words_of c.shape c.words).identities r)))
root_moves c i s step v at r words env lags world kept k a mu none hv here roots slots = record {
  sections = sections-kept world i f;
  variables = λ j h. view-kept (λ (x : WorldSection). length x.variables) world i j f inside (length-set (section_of world i).variables v (referred w.identities r));
  identities_kept = λ y u. refl;
  now_roots = set (the-roots c) at r;
  now = kept;
  roots = λ j u h hu. root_agrees w.identities (the-roots c) world i v at r j u (j * 32 + u) inside exists within (roots j u h hu) (a.roots_agree j u h hu);
  slots = λ j q h hq. root_agrees w.identities (the-roots c) world i v at r j (32 + q) (c.shape.sections * 32 + (j * c.shape.slots + q)) inside exists within (slots j q h hq) (a.slots_agree j q h hq);
  cells =
      λ y h u.
      holds-on c.shape w.identities w.identities w.values w.values w.fields w.fields world after y
      (record { identity = refl; value = refl; each_field = λ j l. refl; targets = λ j l d e. refl; object = λ o e. object-kept world i f (name_at w.identities y) inside refl ∙ e })
      (had-object c i s step world y k a (none y) h u).1;
  other_register = λ j d. ap (λ (x : WorldSection). x.register) (section-other world i j f d);
  other_made = λ j d. ap (λ (x : WorldSection). length x.objects) (section-other world i j f d);
  other_coming = λ j d. ap (λ (x : WorldSection). x.coming) (section-other world i j f d);
  other_making = λ j o d g live y part e. refl;
  own_seat =
      λ h live.
      record {
        register = sym (ap (λ (x : WorldSection). x.register) (section-same world i f inside));
        made = ap (λ (x : WorldSection). length x.objects) (section-same world i f inside) ∙ had.made;
        making = λ y part e l. had.making y part e l ∙ sym (ap (λ (x : WorldSection). x.coming) (section-same world i f inside));
        last = had.last;
      };
}
  where
    w : Words
    w = words_of c.shape c.words

    f : WorldSection → WorldSection
    f = with_variable v (referred w.identities r)

    after : World
    after = in_section world i f

    inside : i < length world
    inside = omega (arith, mu.inside, a.sections)

    had : SeatAgrees c.shape w.identities w.values world i s
    had = a.seats_agree i s k.got mu.inside k.live

    exists : v < length (section_of world i).variables
    exists = omega (arith, hv, a.variables i mu.inside)

    within : at < length (the-roots c)
    within = omega (arith, here, roots-length c k.core, now-length w.roots c.seats)

-- the root of a variable is stored
root_root : (i o v j u : ℕ) → o ≡ i → v < 32 → u < 32 → Beside i v (o * 32 + v) j u (j * 32 + u)
root_root i o v j u own hv hu =
    ⊎_elim
    (λ (e : j ≡ i). ⊎_elim (λ (f : u ≡ v). inl (e, f, omega (arith, e, f, own))) (λ (n : u ≢ v). inr ((λ g. n), (λ z. n (omega (arith, z, e, own))))) (cases_eq u v))
    (λ (n : j ≢ i). inr ((λ e. absurd (n e)), (λ z. n (omega (arith, z, own, hv, hu)))))
    (cases_eq j i)

root_slot : (i o v j q n m : ℕ) → o ≡ i → i < n → v < 32 → Beside i v (o * 32 + v) j (32 + q) (n * 32 + (j * m + q))
root_slot i o v j q n m own h hv = inr ((λ e z. omega (arith, z, hv)), (λ z. omega (arith, z, own, h, hv)))

-- a slot is stored
slot_root : (i o p j u n m : ℕ) → j < n → u < 32 → Beside i (32 + p) (n * 32 + (o * m + p)) j u (j * 32 + u)
slot_root i o p j u n m h hu = inr ((λ e z. omega (arith, z, hu)), (λ z. omega (arith, z, h, hu)))

slot_slot : (i o p j q n m : ℕ) → o ≡ i → p < m → q < m → Beside i (32 + p) (n * 32 + (o * m + p)) j (32 + q) (n * 32 + (j * m + q))
slot_slot i o p j q n m own hp hq =
    ⊎_elim
    (λ (e : j ≡ i).
    ⊎_elim
    (λ (f : q ≡ p). inl (e, ap (λ (x : ℕ). 32 + x) f, rw (e, f, own) refl))
    (λ (d : q ≢ p). inr ((λ g z. d (omega (arith, z))), (λ z. d (same_place m j o q p hq hp (omega (arith, z))).1)))
    (cases_eq q p))
    (λ (d : j ≢ i). inr ((λ e. absurd (d e)), (λ z. d ((same_place m j o q p hq hp (omega (arith, z))).0 ∙ own))))
    (cases_eq j i)

pub store-root : (c : Core) (i : ℕ) (s : SeatState) (v r : ℕ) (world : World) → Taken c i s (StoreRoot v r) → AgreesWith c world
    → AgreesIn c.shape (words_left c s (StoreRoot v r)) (seats_left c i s (StoreRoot v r)) (in_section world (own_section s) (with_variable v (referred (words_of c.shape c.words).identities r)))
store-root c i s v r world k a =
    let step : Step = StoreRoot v r in
    let b = and_parts (nat_lt v 32) (may_mutate s) k.ok.0 in
    let here : own_section s * 32 + v < root_count c.shape = in-place c i s step k in
    let mu : Mutates c i s = mutates c i s step k b.1 in
    let hv : v < 32 = ltb-true v 32 b.0 in
    let to : Option Name = referred (words_of c.shape c.words).identities r in
    subst (λ (j : ℕ). AgreesIn c.shape (words_left c s step) (seats_left c i s step) (in_section world j (with_variable v to))) (sym mu.own)
    (moved c i s step (words_left c s step) (seat_after c.shape s step (found c s step)) world (in_section world i (with_variable v to)) k a
    (root_moves c i s step v (i * 32 + v) r (words_left c s step).roots (set s.env v (reference_in r)) s.lags world (now-stores c i s v r k) k a mu (λ y e. e) (omega (arith, hv)) (omega (arith, here, mu.own))
    (λ j u h hu. root_root i i v j u refl hv hu) (λ j q h hq. root_slot i i v j q c.shape.sections c.shape.slots refl mu.inside hv)))

-- 54: a variable is held
pub hold-root : (c : Core) (i : ℕ) (s : SeatState) (v r : ℕ) (world : World) → Taken c i s (HoldRoot v r) → AgreesWith c world
    → AgreesIn c.shape (words_left c s (HoldRoot v r)) (seats_left c i s (HoldRoot v r)) (in_section world (own_section s) (with_variable v (referred (words_of c.shape c.words).identities r)))
hold-root c i s v r world k a =
    let step : Step = HoldRoot v r in
    let b = and_parts (nat_lt v 32) (may_mutate s) k.ok.0 in
    let here : own_section s * 32 + v < root_count c.shape = in-place c i s step k in
    let mu : Mutates c i s = mutates c i s step k b.1 in
    let hv : v < 32 = ltb-true v 32 b.0 in
    let to : Option Name = referred (words_of c.shape c.words).identities r in
    subst (λ (j : ℕ). AgreesIn c.shape (words_left c s step) (seats_left c i s step) (in_section world j (with_variable v to))) (sym mu.own)
    (moved c i s step (words_left c s step) (seat_after c.shape s step (found c s step)) world (in_section world i (with_variable v to)) k a
    (root_moves c i s step v (i * 32 + v) r (words_left c s step).roots (set s.env v (reference_in r)) (with_bit s.lags v) world (now-holds c i s v r k) k a mu (λ y e. e) (omega (arith, hv)) (omega (arith, here, mu.own))
    (λ j u h hu. root_root i i v j u refl hv hu) (λ j q h hq. root_slot i i v j q c.shape.sections c.shape.slots refl mu.inside hv)))

pub store-slot : (c : Core) (i : ℕ) (s : SeatState) (p r : ℕ) (world : World) → Taken c i s (StoreSlot p r) → AgreesWith c world
    → AgreesIn c.shape (words_left c s (StoreSlot p r)) (seats_left c i s (StoreSlot p r)) (in_section world (own_section s) (with_variable (32 + p) (referred (words_of c.shape c.words).identities r)))
store-slot c i s p r world k a =
    let step : Step = StoreSlot p r in
    let b = and_parts (nat_lt p c.shape.slots) (may_mutate s) k.ok.0 in
    let mu : Mutates c i s = mutates c i s step k b.1 in
    let hp : p < c.shape.slots = ltb-true p c.shape.slots b.0 in
    let to : Option Name = referred (words_of c.shape c.words).identities r in
    subst (λ (j : ℕ). AgreesIn c.shape (words_left c s step) (seats_left c i s step) (in_section world j (with_variable (32 + p) to))) (sym mu.own)
    (moved c i s step (words_left c s step) (seat_after c.shape s step (found c s step)) world (in_section world i (with_variable (32 + p) to)) k a
    (root_moves c i s step (32 + p) (c.shape.sections * 32 + (own_section s * c.shape.slots + p)) r (words_left c s step).roots s.env s.lags world (now-slots c i s p r k) k a mu (λ y e. e) (omega (arith, hp)) (in-place c i s step k)
    (λ j u h hu. slot_root i (own_section s) p j u c.shape.sections c.shape.slots h hu) (λ j q h hq. slot_slot i (own_section s) p j q c.shape.sections c.shape.slots mu.own hp hq)))

agrees_at : (c : Core) (i : ℕ) (s : SeatState) (step : Step) (world : World) → Taken c i s step → AgreesWith c world → AgreesIn c.shape (words_left c s step) (seats_left c i s step) (world_by c.shape (words_of c.shape c.words) s step world)
agrees_at c i s (ReadOwn x j) world k a = read-own c i s x j world k a
agrees_at c i s (ReadCat v) world k a = read-cat c i s v world k a
agrees_at c i s (StoreField v j o) world k a = store-field c i s v j o world k a
agrees_at c i s (StoreValue v n) world k a = store-value c i s v n world k a
agrees_at c i s (ExchangeField v j x o) world k a = exchange-field c i s v j x o world k a
agrees_at c i s (ExchangeValue v m n) world k a = exchange-value c i s v m n world k a
agrees_at c i s (StoreRoot v r) world k a = store-root c i s v r world k a
agrees_at c i s (HoldRoot v r) world k a = hold-root c i s v r world k a
agrees_at c i s (StoreSlot j r) world k a = store-slot c i s j r world k a
agrees_at c i s (ReadSlot j) world k a = read-slot c i s j world k a
agrees_at c i s (ReadWeak x) world k a = read-weak c i s x world k a
agrees_at c i s (StoreNew x part word) world k a = store-new c i s x part word world k a
agrees_at c i s Split world k a = still-split c i s world k a
agrees_at c i s (Join other) world k a = still-join c i s other world k a
agrees_at c i s (ClaimBlock b) world k a = still-seat c i s (ClaimBlock b) world k a refl refl (λ x e. e) refl refl refl (claimed-making (eqb (found c s (ClaimBlock b)) 0) b s.cache)
agrees_at c i s ReleaseBlock world k a = still-seat c i s ReleaseBlock world k a refl refl (λ x e. e) refl refl refl (none-making s.cache)
agrees_at c i s ReadFree world k a = still-seat c i s ReadFree world k a refl refl (λ x e. e) refl refl refl (free-making s.cache (found c s ReadFree))
agrees_at c i s PublishCells world k a = still-seat c i s PublishCells world k a refl refl (λ x e. e) refl refl refl (published-making s.cache)
agrees_at c i s step world k a = still-seat c i s step world k a refl refl (λ x e. e) refl refl refl (same-making s.cache)

pub agrees-kept : EventsAgree
agrees-kept c e world k a f =
    kept-after (λ sh w seats. AgreesIn sh w seats (world_after c e world)) c e k f
    (λ s acted t. subst (λ (o : Option SeatState). AgreesIn c.shape (words_left c s e.step) (seats_left c e.seat s e.step) (world_of c o e.step world)) (sym acted.seat) (agrees_at c e.seat s e.step world t a))

-- each section at the start
start-section : (sh : Shape) (w : ℕ) → w < sh.sections → section_of (start_world sh) w ≡ start_section sh
start-section sh w h = get_or-replicate sh.sections w (start_section sh) new_section h

abbrev none_name : Option Name
none_name = None

pub agrees-starts : StartAgrees
agrees-starts sh n z =
    let w : Words = words_of sh (start_words sh) in
    let same : roots_now w.roots (start_seats sh n) ≡ w.roots = now-still w.roots (start_seats sh n) (each-seat Shows sh n (λ k. refl)) in
    record {
      sections = length-replicate sh.sections (start_section sh);
      variables = λ j h. ap (λ (x : WorldSection). length x.variables) (start-section sh j h) ∙ length-replicate (32 + sh.slots) (none_name);
      roots_agree =
          λ j v h hv.
          ap (referred w.identities) (ap (λ (rs : List ℕ). slice_index rs (j * 32 + v)) same ∙ no-root sh (j * 32 + v)) ∙ sym (ap (λ (x : WorldSection). slice_index_or x.variables v None) (start-section sh j h) ∙ get_or-replicate (32 + sh.slots) v None None (omega (arith, hv)));
      slots_agree =
          λ j q h hq.
          ap (referred w.identities) (ap (λ (rs : List ℕ). slice_index rs (sh.sections * 32 + (j * sh.slots + q))) same ∙ no-root sh (sh.sections * 32 + (j * sh.slots + q))) ∙ sym (ap (λ (x : WorldSection). slice_index_or x.variables (32 + q) None) (start-section sh j h) ∙ get_or-replicate (32 + sh.slots) (32 + q) None None (omega (arith, hq)));
      cells_agree = λ y h u. absurd (true≢false (sym u ∙ none-used sh n z y h));
      seats_agree =
          λ j s f h live.
          subst (λ (t : SeatState). SeatAgrees sh w.identities w.values (start_world sh) j t) (sym (seat-at sh 0 n j s f))
          (record {
            register = sym (ap (λ (x : WorldSection). x.register) (start-section sh j h));
            made = ap (λ (x : WorldSection). length x.objects) (start-section sh j h);
            making = λ y part e l. absurd (false≢true e);
            last = tt;
          });
      unseated = λ j l h. (ap (λ (x : WorldSection). x.register) (start-section sh j h), ap (λ (x : WorldSection). length x.objects) (start-section sh j h));
    }

-- a run from a state that agrees, by whether its first event is allowed
run_by : (e : Event) (es : List Event) (c : Core) (world : World) → AgreesWith c world → (failing_part c e ≡ None → AgreesWith (run_of es (after_event c e)) (world_run es (after_event c e) (world_after c e world))) → (o : Option ℕ) → failing_part c e ≡ o
    → AgreesWith (if is_none o then run_of es (after_event c e) else c) (if is_none o then world_run es (after_event c e) (world_after c e world) else world)
run_by e es c world a later None f = later f
run_by e es c world a later (Some part) f = a

run_from : (es : List Event) (c : Core) (world : World) → IsCore c → AgreesWith c world → AllNumbersFit es → AgreesWith (run_of es c) (world_run es c world)
run_from [] c world k a fit = a
run_from (e ∷ es) c world k a fit =
    run_by e es c world a
    (λ f.
    run_from es (after_event c e) (world_after c e world) (core_kept c e k (All-head (λ (x : Event). NumbersFit x.step) e es fit) f) (agrees-kept c e world k a f)
    (All-tail (λ (x : Event). NumbersFit x.step) e es fit)) (failing_part c e) refl

pub runs_agree : RunsAgree
runs_agree sh n es z some few fit = run_from es (start_core sh n) (start_world sh) (core-starts sh n z some few) (agrees-starts sh n z) fit
