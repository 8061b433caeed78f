-- Whatever a mutator reads of an object is what the heap has there.
use Rattle.gc_table.proofs.Losing.{finds-cell}
use Rattle.gc_table.proofs.Winning.{finds-reference, finds-value}
use Rattle.std.proofs.Common.{ℕ, ◌≡◌, ◌+◌, ◌-◌, ◌*◌, ◌<◌, zero, suc, List, [], ◌∷◌, get_or, length, arith, sym, ap, ◌∙◌, subst, true, not, ◌||◌, ◌&&◌, eqb, Option, Some, None, inl, inr, ⊎_elim}
use Rattle.std.specs.Prelude.{slice_get, slice_index, nat_lt}
use Rattle.std.specs.List.{list_any}
use Rattle.std.proofs.lemmas.Bool.{false≢true, and_parts, or_cases, eqb-true, ltb-true}
use Rattle.plain_heap.specs.Paths.{Name}
use Rattle.mark_core.specs.Layout.{Words, words_of, region_sizes}
use Rattle.mark_core.specs.Numbers.{section_span}
use Rattle.mark_core.specs.Seats.{may_mutate, is_the, last_made}
use Rattle.mark_core.specs.Steps.MutatorSteps.{knows_cell, has_reference, names_last}
use Rattle.mark_core.specs.Steps.{Core, failing_part, run_of, start_core}
use Rattle.mark_core.specs.Laws.{IsCore}
use Rattle.mark_core.proofs.Known.{Acted, found, acts}
use Rattle.mark_core.proofs.CoreKept.{runs_sound}
use Rattle.mark_core.proofs.Blocks.BlocksStopped.{Taken, in-place}
use Rattle.mark_core.proofs.Writing.Places.{words-get}
use Rattle.mark_core.proofs.References.ReferencesRoots.{known-used, seat-formed}
use Rattle.mark_core.specs.declared.kinds.Event.{Event}
use Rattle.mark_core.specs.declared.kinds.Step.{Step}
use Rattle.mark_core.specs.declared.kinds.Step.TheVariants.{ReadOwn, ReadValue, ReadIdent, ReadCat, StoreRoot, ExchangeField, ExchangeValue, StoreSlot, ReadSlot, ReadWeak, HoldRoot}
use Rattle.mark_core.specs.declared.seat.SeatState.{SeatState}
use Rattle.gc_table.specs.RunWorlds.{World, WorldObject, section_of, variable_of, object_of, followed, name_in, name_at, referred, own_section, start_world}
use Rattle.gc_table.specs.Agreement.{HoldsObject, SeatAgrees, AgreesWith}
use Rattle.gc_table.specs.AgreementLaws.{KnowsName, MayHold, TellsIn, TellsOf, ReadsTell, world_run}
use Rattle.gc_table.proofs.Frame.{IsLast, Mutates, mutates}
use Rattle.gc_table.proofs.Kept.{runs_agree}
use Rattle.gc_table.proofs.Reading.{own-found, cat-found, slot-found}
use Rattle.gc_table.proofs.Stores.{env-agrees, not-nil}
use Rattle.gc_table.proofs.Stands.StandsRoots.{last-is as is-the}

-- a word among others has a place
pub word-found : (xs : List ℕ) (word : ℕ) → list_any (λ (x : ℕ). eqb x word) xs ≡ true → (p : ℕ) × (p < length xs) × (get_or xs p 0 ≡ word)
word-found [] word e = absurd (false≢true e)
word-found (x ∷ xs) word e =
    ⊎_elim
    (λ (f : eqb x word ≡ true). (0, omega arith, eqb-true x word f))
    (λ (f : list_any (λ (y : ℕ). eqb y word) xs ≡ true). let r = word-found xs word f in (suc r.0, omega (arith, r.1), r.2))
    (or_cases (eqb x word) (list_any (λ (y : ℕ). eqb y word) xs) e)

-- variable v names the object of the word that it has
variable_names : (c : Core) (i : ℕ) (s : SeatState) (step : Step) (world : World) (v x : ℕ) → Taken c i s step → AgreesWith c world → Mutates c i s → v < 32 → slice_index s.env v ≡ suc x → variable_of world i v ≡ Some (name_at (words_of c.shape c.words).identities x)
variable_names c i s step world v x k a mu h e = sym (env-agrees c i s step world v k a mu h) ∙ not-nil (words_of c.shape c.words).identities (slice_index s.env v) x e

register_names : (c : Core) (i : ℕ) (s : SeatState) (step : Step) (world : World) (x : ℕ) → Taken c i s step → AgreesWith c world → Mutates c i s → s.got ≡ suc x → (section_of world i).register ≡ Some (name_at (words_of c.shape c.words).identities x)
register_names c i s step world x k a mu e = sym (a.seats_agree i s k.got mu.inside k.live).register ∙ not-nil (words_of c.shape c.words).identities s.got x e

-- a cell that the seat knows has the object to which its register or one of its variables refers
pub known-name : (c : Core) (i : ℕ) (s : SeatState) (step : Step) (world : World) (x : ℕ) → Taken c i s step → AgreesWith c world → Mutates c i s → knows_cell s x ≡ true → KnowsName world i (name_at (words_of c.shape c.words).identities x)
known-name c i s step world x k a mu e =
    ⊎_elim
    (λ (f : eqb s.got (x + 1) ≡ true). inl (register_names c i s step world x k a mu (omega (arith, eqb-true s.got (x + 1) f))))
    (λ (f : list_any (λ (y : ℕ). eqb y (x + 1)) s.env ≡ true).
    let r = word-found s.env (x + 1) f in
    let h : r.0 < 32 = omega (arith, r.1, (seat-formed c i s step k).env) in
    inr (r.0, h, variable_names c i s step world r.0 x k a mu h (omega (arith, r.2))))
    (or_cases (eqb s.got (x + 1)) (list_any (λ (y : ℕ). eqb y (x + 1)) s.env) e)

-- the cell made last has the section's last object
last_name : (c : Core) (i : ℕ) (s : SeatState) (step : Step) (world : World) (x : ℕ) → Taken c i s step → AgreesWith c world → Mutates c i s → last_made s.cache ≡ Some x
    → ((name_at (words_of c.shape c.words).identities x).section ≡ i) × ((name_at (words_of c.shape c.words).identities x).number + 1 ≡ length (section_of world i).objects)
last_name c i s step world x k a mu e =
    let ids : List ℕ = (words_of c.shape c.words).identities in
    let had : SeatAgrees c.shape ids (words_of c.shape c.words).values world i s = a.seats_agree i s k.got mu.inside k.live in
    let last : (slice_index ids x + 1 ≡ i * section_span + s.made) × (0 < s.made) = subst (IsLast ids i s.made) e had.last in
    let few : s.made < section_span = omega (arith, (seat-formed c i s step k).made, k.core.formed.shaped.objects) in
    (omega (arith, last.0, last.1, few), omega (arith, last.0, last.1, few, had.made))

-- a reference that a seat has is nil, or one to an object that its section knows or made last
held : (c : Core) (i : ℕ) (s : SeatState) (step : Step) (world : World) (r : ℕ) → Taken c i s step → AgreesWith c world → Mutates c i s → has_reference s r ≡ true → MayHold world i (referred (words_of c.shape c.words).identities r)
held c i s step world zero k a mu e = tt
held c i s step world (suc x) k a mu e =
    ⊎_elim
    (λ (f : (eqb (suc x) 0 || eqb (suc x) s.got || list_any (λ (y : ℕ). eqb y (suc x)) s.env) ≡ true).
    ⊎_elim
    (λ (g : (eqb (suc x) 0 || eqb (suc x) s.got) ≡ true).
    ⊎_elim
    (λ (z : eqb (suc x) 0 ≡ true). absurd (omega (arith, eqb-true (suc x) 0 z)))
    (λ (z : eqb (suc x) s.got ≡ true). inl (inl (register_names c i s step world x k a mu (sym (eqb-true (suc x) s.got z)))))
    (or_cases (eqb (suc x) 0) (eqb (suc x) s.got) g))
    (λ (g : list_any (λ (y : ℕ). eqb y (suc x)) s.env ≡ true).
    let q = word-found s.env (suc x) g in
    let h : q.0 < 32 = omega (arith, q.1, (seat-formed c i s step k).env) in
    inl (inr (q.0, h, variable_names c i s step world q.0 x k a mu h q.2)))
    (or_cases (eqb (suc x) 0 || eqb (suc x) s.got) (list_any (λ (y : ℕ). eqb y (suc x)) s.env) f))
    (λ (f : names_last s.cache (suc x) ≡ true).
    let p : suc x - 1 ≡ x = omega arith in
    let last : is_the (last_made s.cache) x ≡ true = subst (λ (y : ℕ). is_the (last_made s.cache) y ≡ true) p (and_parts (not (eqb (suc x) 0)) (is_the (last_made s.cache) (suc x - 1)) f).1 in
    inr (last_name c i s step world x k a mu (is-the (last_made s.cache) x last)))
    (or_cases (eqb (suc x) 0 || eqb (suc x) s.got || list_any (λ (y : ℕ). eqb y (suc x)) s.env) (names_last s.cache (suc x)) e)

tells_at : (c : Core) (i : ℕ) (s : SeatState) (step : Step) (world : World) → Taken c i s step → AgreesWith c world → TellsIn c world s step (found c s step)
tells_at c i s (ReadValue x) world k a =
    let w : Words = words_of c.shape c.words in
    let step : Step = ReadValue x in
    let b = and_parts (nat_lt x c.shape.cells) (may_mutate s) k.ok.0 in
    let mu : Mutates c i s = mutates c i s step k b.1 in
    let h : HoldsObject c.shape w.identities w.values w.fields world x = a.cells_agree x (ltb-true x c.shape.cells b.0) (known-used c i s step x k k.ok.1.0) in
    let old : found c s step ≡ slice_index w.values x = words-get (region_sizes c.shape) 10 c.words x 0 (in-place c i s step k) in
    (h.object, (subst (λ (j : ℕ). KnowsName world j (name_at w.identities x)) (sym mu.own) (known-name c i s step world x k a mu k.ok.1.0), h.there), old ∙ h.value)
tells_at c i s (ReadOwn x j) world k a =
    let w : Words = words_of c.shape c.words in
    let step : Step = ReadOwn x j in
    let b = and_parts (nat_lt x c.shape.cells && nat_lt j c.shape.fields) (may_mutate s) k.ok.0 in
    let d = and_parts (nat_lt x c.shape.cells) (nat_lt j c.shape.fields) b.0 in
    let hj : j < c.shape.fields = ltb-true j c.shape.fields d.1 in
    let mu : Mutates c i s = mutates c i s step k b.1 in
    let h : HoldsObject c.shape w.identities w.values w.fields world x = a.cells_agree x (ltb-true x c.shape.cells d.0) (known-used c i s step x k k.ok.1.0) in (
      h.object,
      (subst (λ (o : ℕ). KnowsName world o (name_at w.identities x)) (sym mu.own) (known-name c i s step world x k a mu k.ok.1.0), h.there),
      omega (arith, hj, h.room),
      (own-found c i s x j world k a).1 ∙ ap (λ (o : Option WorldObject). followed o j) h.there,
    )
tells_at c i s (ReadIdent x) world k a =
    let w : Words = words_of c.shape c.words in
    let step : Step = ReadIdent x in
    let b = and_parts (nat_lt x c.shape.cells) (may_mutate s) k.ok.0 in
    let mu : Mutates c i s = mutates c i s step k b.1 in
    let h : HoldsObject c.shape w.identities w.values w.fields world x = a.cells_agree x (ltb-true x c.shape.cells b.0) (known-used c i s step x k k.ok.1.0) in
    let old : found c s step ≡ slice_index w.identities x = words-get (region_sizes c.shape) 9 c.words x 0 (in-place c i s step k) in
    let P : Name → Type 0 = λ name. (object : WorldObject) × (KnowsName world (own_section s) name × (object_of world name ≡ Some object)) in
    subst P (sym (ap name_in old)) (h.object, (subst (λ (o : ℕ). KnowsName world o (name_at w.identities x)) (sym mu.own) (known-name c i s step world x k a mu k.ok.1.0), h.there))
tells_at c i s (ReadCat v) world k a = (cat-found c i s v world k a).1
tells_at c i s (StoreRoot v r) world k a =
    let mu : Mutates c i s = mutates c i s (StoreRoot v r) k (and_parts (nat_lt v 32) (may_mutate s) k.ok.0).1 in
    subst (λ (o : ℕ). MayHold world o (referred (words_of c.shape c.words).identities r)) (sym mu.own) (held c i s (StoreRoot v r) world r k a mu k.ok.1.0)
tells_at c i s (HoldRoot v r) world k a =
    let mu : Mutates c i s = mutates c i s (HoldRoot v r) k (and_parts (nat_lt v 32) (may_mutate s) k.ok.0).1 in
    subst (λ (o : ℕ). MayHold world o (referred (words_of c.shape c.words).identities r)) (sym mu.own) (held c i s (HoldRoot v r) world r k a mu k.ok.1.0)
tells_at c i s (StoreSlot j r) world k a =
    let mu : Mutates c i s = mutates c i s (StoreSlot j r) k (and_parts (nat_lt j c.shape.slots) (may_mutate s) k.ok.0).1 in
    subst (λ (o : ℕ). MayHold world o (referred (words_of c.shape c.words).identities r)) (sym mu.own) (held c i s (StoreSlot j r) world r k a mu k.ok.1.0)
tells_at c i s (ReadSlot j) world k a = (slot-found c i s j world k a).1
tells_at c i s (ReadWeak x) world k a = finds-cell c i s x world k a
tells_at c i s (ExchangeField v j x o) world k a = finds-reference c i s v j x o world k a
tells_at c i s (ExchangeValue v m n) world k a = finds-value c i s v m n world k a
tells_at c i s step world k a = tt

-- what an allowed event finds, in a state that agrees with a heap
pub tells-once : (c : Core) (world : World) (e : Event) → IsCore c → AgreesWith c world → failing_part c e ≡ None → TellsOf c world (slice_get c.seats e.seat) e.step
tells-once c world e k a f =
    let r : (s : SeatState) × Acted c e s = acts c e k f in
    let t : Taken c e.seat r.0 e.step = record { core = k; got = r.1.seat; live = r.1.live; ok = r.1.ok } in
    subst (λ (o : Option SeatState). TellsOf c world o e.step) (sym r.1.seat) (tells_at c e.seat r.0 e.step world t a)

pub reads-tell : ReadsTell
reads-tell sh n es z some few fit e f =
    tells-once (run_of es (start_core sh n)) (world_run es (start_core sh n) (start_world sh)) e (runs_sound sh n es z some few fit) (runs_agree sh n es z some few fit) f
