-- What the words of a section mean after a step is told without its plain step: the record of the seat says which one it is.
use Rattle.std.proofs.Common.{ℕ, ◌≡◌, ◌+◌, ◌-◌, ◌*◌, ◌<◌, zero, suc, List, get_or, length, arith, refl, sym, ap, ◌∙◌, subst, Bool, true, false, not, ◌&&◌, eqb, Option, Some, None, inl, inr, ◌%◌, [], ◌∷◌}
use Rattle.std.specs.Prelude.{IfSome, slice_index, if◌then◌else◌, IsTrue, IsFalse, slice_get, unwrap_or}
use Rattle.std.specs.List.{list_any}
use Rattle.std.proofs.lemmas.Bool.{and_parts, or_left, or_right, not-true, eqb-true, eqb-false, eq-eqb, false_from_ne_true, true≢false, ne_eqb}
use Rattle.std.proofs.lemmas.List.Folds.{list_any_at}
use Rattle.mark_core.specs.Layout.{words_of}
use Rattle.mark_core.specs.Seats.{is_the, last_made, may_mutate, has_turn}
use Rattle.mark_core.specs.Rules.HeapRules.{section_of_cell, number_of_cell}
use Rattle.mark_core.specs.Steps.MutatorSteps.{names_last, knows_cell, seat_variable as word_in}
use Rattle.mark_core.specs.Steps.{Core, AllTrue}
use Rattle.mark_core.proofs.Blocks.BlocksStopped.{Taken, mine as own-fact}
use Rattle.mark_core.proofs.References.ReferencesRoots.{seat-formed}
use Rattle.mark_core.specs.declared.kinds.Step.{Step}
use Rattle.mark_core.specs.declared.kinds.Step.TheVariants.{StoreField, StoreValue, StoreRoot, ReadCount, HoldRoot}
use Rattle.mark_core.specs.declared.seat.SeatState.{SeatState}
use Rattle.plain_heap.specs.declared.object.Ref.{Ref}
use Rattle.plain_heap.specs.declared.object.Ref.TheVariants as refs
use Rattle.plain_heap.specs.declared.operation.Op.{Op}
use Rattle.plain_heap.specs.declared.operation.Op.TheVariants as ops
use Rattle.plain_heap.specs.PlainHeap.{Heap, variable}
use Rattle.plain_heap.specs.Paths.{Name, Names}
use Rattle.plain_heap.specs.PlainStep.{heap_after, assigned, with_new, with_field, stored_at, followed, lent_variable}
use Rattle.gc_table.specs.StandsFor.{object_count, objects_in, WordAgrees, SeatStands, StandsFor}
use Rattle.gc_table.specs.declared.view.Meaning.{Meaning}
use Rattle.gc_table.specs.PlainSteps.{meaning_of, known_as, with_got, IsSet, IsAssignment, meaning_after, Asks, catalogue_seen, changes_heap, heap_in, own_section}
use Rattle.gc_table.specs.Sections.{named_by, stored_ref, rooted, meaning_by, seen_by, section_after, planned, seen_of, season_of}
use Rattle.gc_table.proofs.Stands.StandsAgree.{nil-is}
use Rattle.gc_table.proofs.Stands.StandsRoots.{last-is}
use Rattle.gc_table.proofs.Stands.StandsSeat.{Mutates, mutates, env-agrees, known-agrees, mutates-in, looks}
use Rattle.mark_core.specs.Numbers.{section_span}
use Rattle.std.proofs.lemmas.Option.{get_or_from_slice_get, slice_get-map, slice_get-get_or}
use Rattle.mark_core.specs.Parts.{parts}
use Rattle.mark_core.specs.declared.kinds.Shape.{Shape}
use Rattle.gc_table.specs.declared.view.View.{View}
use Rattle.gc_table.specs.TableState.{TableState, no_section, meanings_of, section_at}
use Rattle.gc_table.specs.Rule.{IsState, Agrees, IsPossible}
use Rattle.std.specs.Option.{option_map}
use Rattle.std.proofs.lemmas.List.{length-map}
use Rattle.gc_table.specs.declared.view.SectionState.{SectionState}
use Rattle.std.proofs.Math.Logic.{∥∥₁_elim}
use Rattle.std.proofs.Props.{props}
use Rattle.gc_table.specs.Taking.{May}

-- an object has one reference in a section
pub names-ref : (w : ℕ) (a b : Ref) (name : Name) → Names w a name → Names w b name → a ≡ b
names-ref w refs.Nil b name x y = absurd x
names-ref w (refs.Own n) refs.Nil name x y = absurd y
names-ref w (refs.Own n) (refs.Own k) name x y = ap (λ (j : ℕ). refs.Own j) (sym x.1 ∙ y.1)
names-ref zero (refs.Own n) (refs.Cat k) name x y = absurd y
names-ref (suc w) (refs.Own n) (refs.Cat k) name x y = absurd (omega (arith, x.0, y.0))
names-ref zero (refs.Cat n) b name x y = absurd x
names-ref (suc w) (refs.Cat n) refs.Nil name x y = absurd y
names-ref (suc w) (refs.Cat n) (refs.Own k) name x y = absurd (omega (arith, x.0, y.0))
names-ref (suc w) (refs.Cat n) (refs.Cat k) name x y = ap (λ (j : ℕ). refs.Cat j) (sym x.1 ∙ y.1)

-- two references that agree with one word in one section are the same
pub agrees-one : (ids : List ℕ) (p : ℕ → ℕ) (w word : ℕ) (a b : Ref) → WordAgrees ids p w word a → WordAgrees ids p w word b → a ≡ b
agrees-one ids p w word a b (inl x) (inl y) = x.1 ∙ sym y.1
agrees-one ids p w word a b (inl x) (inr y) = absurd (omega (arith, x.0, y.0))
agrees-one ids p w word a b (inr x) (inl y) = absurd (omega (arith, x.0, y.0))
agrees-one ids p w word a b (inr x) (inr y) = names-ref w a b _ x.1 y.1

-- the reference goes to a cell that is made for the next object
abbrev is_next : SeatState → Meaning → ℕ → Bool
is_next s m r = names_last s.cache r && eqb (length m.heap.objects + 1) s.made

-- a word that agrees with a reference goes to no cell that is made for the next object
has_object : (c : Core) (i : ℕ) (s : SeatState) (step : Step) (ms : List Meaning) (r : ℕ) (ref : Ref) → Taken c i s step → StandsFor c ms → Mutates c i s ms → WordAgrees (words_of c.shape c.words).identities (object_count ms) i r ref
    → is_next s (meaning_of ms i) r ≡ false
has_object c i s step ms r ref k st a h = false_from_ne_true (is_next s m r) (λ e. of h (and_parts (names_last s.cache r) (eqb (length m.heap.objects + 1) s.made) e))
  where
    m : Meaning
    m = meaning_of ms i

    ids : List ℕ
    ids = (words_of c.shape c.words).identities

    mine : SeatStands c.shape ids (words_of c.shape c.words).values (object_count ms) i s m
    mine = st.seats_agree i s m k.got a.there k.live

    of : WordAgrees ids (object_count ms) i r ref → (names_last s.cache r ≡ true) × (eqb (length m.heap.objects + 1) s.made ≡ true) → ⊥
    of (inl z) e = eqb-false r 0 (not-true (eqb r 0) (and_parts (not (eqb r 0)) (is_the (last_made s.cache) (r - 1)) e.0).0) z.0
    of (inr (some, names, below)) e =
        let last = last-is (last_made s.cache) (r - 1) (and_parts (not (eqb r 0)) (is_the (last_made s.cache) (r - 1)) e.0).1 in
        let identity : (slice_index ids (r - 1) + 1 ≡ i * section_span + s.made) × (0 < s.made) = subst (λ (o : Option ℕ). IfSome o (λ x. (slice_index ids x + 1 ≡ i * section_span + s.made) × (0 < s.made))) last mine.last in
        let few : s.made < section_span = omega (arith, (seat-formed c i s step k).made, k.core.formed.shaped.objects) in
        let room : length m.heap.objects + 1 ≡ s.made = eqb-true (length m.heap.objects + 1) s.made e.1 in
        let section : section_of_cell ids (r - 1) ≡ i = omega (arith, identity.0, identity.1, few) in
        let number : number_of_cell ids (r - 1) ≡ length m.heap.objects = omega (arith, identity.0, identity.1, few, room) in
        let count : object_count ms (section_of_cell ids (r - 1)) ≡ length m.heap.objects = ap (λ j. object_count ms j) section ∙ ap objects_in a.there in
        omega (arith, below, number, count)

-- a seat knows a word that it has by the reference that agrees with it
named_as : (c : Core) (i : ℕ) (s : SeatState) (step : Step) (ms : List Meaning) (r : ℕ) (ref : Ref) → Taken c i s step → StandsFor c ms → Mutates c i s ms → WordAgrees (words_of c.shape c.words).identities (object_count ms) i r ref
    → ((x : ℕ) → r ≡ x + 1 → knows_cell s x ≡ true) → named_by s (meaning_of ms i) r ≡ ref
named_as c i s step ms zero ref k st a h knows = sym (nil-is (words_of c.shape c.words).identities (object_count ms) i ref h)
named_as c i s step ms (suc x) ref k st a h knows =
    let ids : List ℕ = (words_of c.shape c.words).identities in
    let e : suc x ≡ x + 1 = omega arith in
    agrees-one ids (object_count ms) i (x + 1) (known_as s (meaning_of ms i) x) ref (known-agrees c i s step ms x k st a (knows x e)) (subst (λ (word : ℕ). WordAgrees ids (object_count ms) i word ref) e h)

knows_got : (s : SeatState) (r : ℕ) → r ≡ s.got → (x : ℕ) → r ≡ x + 1 → knows_cell s x ≡ true
knows_got s r e x f = or_left (eqb s.got (x + 1)) (list_any (λ (y : ℕ). eqb y (x + 1)) s.env) (eq-eqb s.got (x + 1) (sym e ∙ f))

knows_variable : (s : SeatState) (r v : ℕ) → v < length s.env → r ≡ word_in s v → (x : ℕ) → r ≡ x + 1 → knows_cell s x ≡ true
knows_variable s r v h e x f =
    or_right (eqb s.got (x + 1)) (list_any (λ (y : ℕ). eqb y (x + 1)) s.env) (list_any_at (λ (y : ℕ). eqb y (x + 1)) s.env v 0 h (eq-eqb (get_or s.env v 0) (x + 1) (sym e ∙ f)))

-- a variable gets a reference that the seat has
assigned_is : (c : Core) (i : ℕ) (s : SeatState) (step : Step) (ms : List Meaning) (v r : ℕ) (ref : Ref) → Taken c i s step → StandsFor c ms → Mutates c i s ms → WordAgrees (words_of c.shape c.words).identities (object_count ms) i r ref
    → ((x : ℕ) → r ≡ x + 1 → knows_cell s x ≡ true) → assigned (meaning_of ms i).heap v ref ≡ rooted s (meaning_of ms i) v r
assigned_is c i s step ms v r ref k st a h knows =
    let m : Meaning = meaning_of ms i in
    sym
    (ap (λ (b : Bool). if b then with_new m.heap v m.value else assigned m.heap v (named_by s m r)) (has_object c i s step ms r ref k st a h)
    ∙ ap (λ (x : Ref). assigned m.heap v x) (named_as c i s step ms r ref k st a h knows))

register_is : (c : Core) (i : ℕ) (s : SeatState) (step : Step) (ms : List Meaning) (u v r : ℕ) (ref : Ref) → Taken c i s step → StandsFor c ms → Mutates c i s ms → u ≡ v → r ≡ s.got → (meaning_of ms i).got ≡ ref
    → assigned (meaning_of ms i).heap u ref ≡ rooted s (meaning_of ms i) v r
register_is c i s step ms u v r ref k st a e word is =
    let ids : List ℕ = (words_of c.shape c.words).identities in
    let m : Meaning = meaning_of ms i in
    let mine : SeatStands c.shape ids (words_of c.shape c.words).values (object_count ms) i s m = st.seats_agree i s m k.got a.there k.live in
    let agrees : WordAgrees ids (object_count ms) i r ref = subst (λ (y : ℕ). WordAgrees ids (object_count ms) i y ref) (sym word) (subst (λ (z : Ref). WordAgrees ids (object_count ms) i s.got z) is mine.got) in
    ap (λ (z : ℕ). assigned m.heap z ref) e ∙ assigned_is c i s step ms v r ref k st a agrees (knows_got s r word)

-- the plain step of a stored root is the one that the word tells
root_told : (c : Core) (i : ℕ) (s : SeatState) (step : Step) (ms : List Meaning) (catalogue : Option Heap) (v r : ℕ) (op : Op) → Taken c i s step → StandsFor c ms → Mutates c i s ms → IsAssignment s (meaning_of ms i) catalogue v r op
    → heap_after (meaning_of ms i).heap catalogue op ≡ rooted s (meaning_of ms i) v r
root_told c i s step ms catalogue v r (ops.New u n) k st a (e, value, last, room) =
    let m : Meaning = meaning_of ms i in
    let next : is_next s m r ≡ true = ap (λ (b : Bool). b && eqb (length m.heap.objects + 1) s.made) last ∙ eq-eqb (length m.heap.objects + 1) s.made room in
    ap (λ (z : ℕ). with_new m.heap z n) e ∙ ap (λ (z : ℕ). with_new m.heap v z) value
    ∙ sym (ap (λ (b : Bool). if b then with_new m.heap v m.value else assigned m.heap v (named_by s m r)) next)
root_told c i s step ms catalogue v r (ops.Nil u) k st a (e, nil) =
    ap (λ (z : ℕ). assigned (meaning_of ms i).heap z refs.Nil) e
    ∙ assigned_is c i s step ms v r refs.Nil k st a (inl (nil, refl)) (λ x f. absurd (omega (arith, nil, f)))
root_told c i s step ms catalogue v r (ops.Let u x) k st a (e, h, word) =
    let ids : List ℕ = (words_of c.shape c.words).identities in
    let m : Meaning = meaning_of ms i in
    let ref : Ref = variable m.heap x in
    let agrees : WordAgrees ids (object_count ms) i r ref = subst (λ (y : ℕ). WordAgrees ids (object_count ms) i y ref) (sym word) (env-agrees c i s step ms x k st a h) in
    ap (λ (z : ℕ). assigned m.heap z ref) e ∙ assigned_is c i s step ms v r ref k st a agrees (knows_variable s r x (omega (arith, h, (seat-formed c i s step k).env)) word)
root_told c i s step ms catalogue v r (ops.Get u x j) k st a (e, word, is, x_below, j_below) = register_is c i s step ms u v r (followed (meaning_of ms i).heap catalogue (variable (meaning_of ms i).heap x) j) k st a e word is
root_told c i s step ms catalogue v r (ops.Cat u x) k st a (e, word, is, x_below) = register_is c i s step ms u v r (lent_variable catalogue x) k st a e word is
root_told c i s step ms catalogue v r (ops.Set u x y) k st a z = absurd z
root_told c i s step ms catalogue v r (ops.Put u x) k st a z = absurd z
root_told c i s step ms catalogue v r (ops.Say u) k st a z = absurd z
root_told c i s step ms catalogue v r (ops.Sum u x y) k st a z = absurd z
root_told c i s step ms catalogue v r ops.Collect k st a z = absurd z

field_told : (heap : Heap) (catalogue : Option Heap) (v j : ℕ) (o : Option ℕ) (op : Op) → IsSet heap v j o op → heap_after heap catalogue op ≡ stored_at heap (variable heap v) (λ object. with_field object j (stored_ref heap o))
field_told heap catalogue v j None op (u, below, nil, is) = ap (λ (x : Op). heap_after heap catalogue x) is ∙ ap (λ (x : Ref). stored_at heap (variable heap v) (λ object. with_field object j x)) nil
field_told heap catalogue v j (Some w) op is = ap (λ (x : Op). heap_after heap catalogue x) is

-- what a step means, told without its plain step
pub meaning-told : (c : Core) (i : ℕ) (s : SeatState) (step : Step) (op : Op) (ms : List Meaning) (catalogue : Option Heap) → Taken c i s step → StandsFor c ms → Asks s (meaning_of ms i) catalogue step op
    → meaning_after c.shape s catalogue step op (meaning_of ms i) ≡ meaning_by c.shape s catalogue step (meaning_of ms i)
meaning-told c i s (StoreField v j o) op ms catalogue k st asks =
    ap (λ (x : Heap). record (meaning_of ms i) { heap = x }) (field_told (meaning_of ms i).heap catalogue v j o op asks.1)
meaning-told c i s (StoreValue v n) op ms catalogue k st asks = ap (λ (x : Op). record (meaning_of ms i) { heap = heap_after (meaning_of ms i).heap catalogue x }) asks.1
meaning-told c i s (StoreRoot v r) op ms catalogue k st asks =
    let a : Mutates c i s ms = mutates c i s (StoreRoot v r) ms k st (and_parts _ (may_mutate s) k.ok.0).1 in
    ap (λ (x : Heap). with_got refs.Nil (record (meaning_of ms i) { heap = x })) (root_told c i s (StoreRoot v r) ms catalogue v r op k st a asks.1)
meaning-told c i s (HoldRoot v r) op ms catalogue k st asks =
    let a : Mutates c i s ms = mutates c i s (HoldRoot v r) ms k st (and_parts _ (may_mutate s) k.ok.0).1 in
    ap (λ (x : Heap). with_got refs.Nil (record (meaning_of ms i) { heap = x })) (root_told c i s (HoldRoot v r) ms catalogue v r op k st a asks.1)
meaning-told c i s step op ms catalogue k st asks = refl

-- What a mutator's view says of its section is what the state has there, and a store changes the plain heap of the view by its plain step.
-- What a mutator sees of the catalogue by the plan is what is there.
-- what the words of a section mean, looked up in either order
pub meaning-at : (xs : List SectionState) (w : ℕ) → meaning_of (meanings_of xs) w ≡ (section_at xs w).meaning
meaning-at [] w = refl
meaning-at (x ∷ xs) zero = refl
meaning-at (x ∷ xs) (suc w) = meaning-at xs w

pub meaning-there : (xs : List SectionState) (w : ℕ) → w < length xs → slice_get (meanings_of xs) w ≡ Some (section_at xs w).meaning
meaning-there xs w h = slice_get-map (λ (x : SectionState). x.meaning) xs w ∙ ap (option_map (λ (x : SectionState). x.meaning)) (slice_get-get_or xs w no_section h)

pub sections-length : (x : TableState) → IsState x → length x.sections ≡ x.core.shape.sections
sections-length x k = k.sections

-- there is a meaning for each section
pub meanings-length : (x : TableState) → IsState x → length (meanings_of x.sections) ≡ x.core.shape.sections
meanings-length x k = length-map x.sections (λ (y : SectionState). y.meaning) ∙ k.sections

-- a warehouse has its turn in odd seasons
warehouse_turn : (w : ℕ) (o : Option ℕ) → has_turn (Some (suc w)) o ≡ true → (z : ℕ) × (o ≡ Some z) × (z % 2 ≡ 1)
warehouse_turn w None e = absurd (true≢false (sym e))
warehouse_turn w (Some z) e = (z, refl, eqb-true (z % 2) (if eqb (suc w) 0 then 0 else 1) e ∙ ap (λ (b : Bool). if b then 0 else 1) (ne_eqb (suc w) 0 (λ n. omega (arith, n))))

-- the season that a mutator has read is the season
pub season-read : (x : TableState) (i : ℕ) (s : SeatState) (z : ℕ) → Taken x.core i s ReadCount → s.active ≡ true → s.season_seen ≡ Some z → (words_of x.core.shape x.core.words).season ≡ z
season-read x i s z k a e =
    let season : ℕ = (words_of x.core.shape x.core.words).season in
    let known : IsTrue s.active → IfSome s.season_seen (λ y. season ≡ y) = own-fact x.core i s ReadCount (λ (t : SeatState). IsTrue t.active → IfSome t.season_seen (λ y. season ≡ y)) k k.core.sound.season.season_known in
    subst (λ (o : Option ℕ). IfSome o (λ y. season ≡ y)) e (known a)

seen_at : (x : TableState) (i w : ℕ) (s : SeatState) → IsState x → Taken x.core i s ReadCount → s.active ≡ true → s.section ≡ Some w → has_turn (Some w) s.season_seen ≡ true → w < length x.sections
    → seen_of x.core.shape x.plan (Some w) (season_of s) ≡ catalogue_seen (meanings_of x.sections) w
seen_at x i zero s k t a e turn h = refl
seen_at x i (suc w) s k t a e turn h =
    let seen = warehouse_turn w s.season_seen turn in
    let season : ℕ = (words_of x.core.shape x.core.words).season in
    let now : season ≡ seen.0 = season-read x i s seen.0 t a seen.1 in
    let read : season_of s ≡ season = ap (λ (o : Option ℕ). unwrap_or o 0) seen.1 ∙ sym now in
    let there : (section_at x.sections 0).meaning.heap ≡ planned x.core.shape x.plan season = k.told.seasons.planned_there (ap (λ n. n % 2) now ∙ seen.2) in
    ap (λ n. Some (planned x.core.shape x.plan n)) read ∙ ap (λ n. Some n) (sym there) ∙ sym (ap heap_in (meaning-there x.sections 0 (omega (arith, h))))

-- a mutator sees the catalogue as it is
pub seen-is : (x : TableState) (i : ℕ) (s : SeatState) → IsState x → slice_get x.core.seats i ≡ Some s → IsFalse s.spent → may_mutate s ≡ true → seen_by x.core.shape x.plan s ≡ catalogue_seen (meanings_of x.sections) (own_section s)
seen-is x i s k g live may =
    let t : Taken x.core i s ReadCount = looks x.core i s k.core g live in
    let a : Mutates x.core i s (meanings_of x.sections) = mutates-in x.core i s ReadCount (meanings_of x.sections) t (meanings-length x k) may in
    let b = and_parts s.active (has_turn s.section s.season_seen) may in
    let turn : has_turn (Some i) s.season_seen ≡ true = subst (λ (o : Option ℕ). has_turn o s.season_seen ≡ true) a.section b.1 in
    ap (λ (o : Option ℕ). seen_of x.core.shape x.plan o (season_of s)) a.section
    ∙ seen_at x i i s k t a.active a.section turn (omega (arith, a.inside, sections-length x k)) ∙ ap (λ n. catalogue_seen (meanings_of x.sections) n) (sym a.own)

-- the seat of this view may take the step
pub record Acts (x : TableState) (i : ℕ) (v : View) (step : Step) : Type 0 where
  pub whole : IsState x
  pub agrees : Agrees x i v
  pub live : IsFalse v.state.spent
  pub ok : AllTrue (parts x.core.shape (words_of x.core.shape x.core.words) x.core.seats v.state step)

pub acts-taken : (x : TableState) (i : ℕ) (v : View) (step : Step) → Acts x i v step → Taken x.core i v.state step
acts-taken x i v step k = record { core = k.whole.core; got = k.agrees.seat; live = k.live; ok = k.ok }

-- the view has its own section
pub own-section : (x : TableState) (i w : ℕ) (v : View) → Agrees x i v → v.state.section ≡ Some w → section_at x.sections w ≡ v.own
own-section x i w v k e = get_or_from_slice_get x.sections w v.own no_section (k.own w e)

-- what the view of a mutator says
pub record Views (x : TableState) (i : ℕ) (v : View) : Type 0 where
  pub mutates : Mutates x.core i v.state (meanings_of x.sections)
  pub meaning : meaning_of (meanings_of x.sections) i ≡ v.own.meaning
  pub seen : seen_by v.shape v.plan v.state ≡ catalogue_seen (meanings_of x.sections) i

pub views : (x : TableState) (i : ℕ) (v : View) (step : Step) → Acts x i v step → may_mutate v.state ≡ true → Views x i v
views x i v step k may =
    let a : Mutates x.core i v.state (meanings_of x.sections) = mutates-in x.core i v.state step (meanings_of x.sections) (acts-taken x i v step k) (meanings-length x k.whole) may in
    record {
      mutates = a;
      meaning = meaning-at x.sections i ∙ ap (λ y. y.meaning) (own-section x i i v k.agrees a.section);
      seen =
          ap (λ (sh : Shape). seen_by sh v.plan v.state) k.agrees.shape ∙ ap (λ (p : List (List Op)). seen_by x.core.shape p v.state) k.agrees.plan
          ∙ seen-is x i v.state k.whole k.agrees.seat k.live may ∙ ap (λ n. catalogue_seen (meanings_of x.sections) n) a.own;
    }

-- the meaning after a step of a mutator, told with its plain step
told_by : (x : TableState) (i : ℕ) (v : View) (step : Step) (op : Op) → IsFalse x.core.shape.sharing → Acts x i v step → may_mutate v.state ≡ true → Asks v.state v.own.meaning (seen_by v.shape v.plan v.state) step op
    → meaning_after x.core.shape v.state (seen_by v.shape v.plan v.state) step op v.own.meaning ≡ meaning_by x.core.shape v.state (seen_by v.shape v.plan v.state) step v.own.meaning
told_by x i v step op alone k may asks =
    let catalogue : Option Heap = seen_by v.shape v.plan v.state in
    let same : meaning_of (meanings_of x.sections) i ≡ v.own.meaning = (views x i v step k may).meaning in
    subst (λ (m : Meaning). meaning_after x.core.shape v.state catalogue step op m ≡ meaning_by x.core.shape v.state catalogue step m) same
    (meaning-told x.core i v.state step op (meanings_of x.sections) catalogue (acts-taken x i v step k) (k.whole.stands alone) (subst (λ (m : Meaning). Asks v.state m catalogue step op) (sym same) asks))

plain_of : (x : TableState) (i : ℕ) (v : View) (step : Step) (op : Op) → IsFalse x.core.shape.sharing → Acts x i v step → Asks v.state v.own.meaning (seen_by v.shape v.plan v.state) step op → IsTrue (changes_heap step)
    → (section_after v.shape v.plan v.state step v.own).meaning.heap ≡ heap_after v.own.meaning.heap (seen_by v.shape v.plan v.state) op
plain_of x i v (StoreField a j o) op alone k asks c = sym (ap (λ (m : Meaning). m.heap) (told_by x i v (StoreField a j o) op alone k (and_parts _ (may_mutate v.state) k.ok.0).1 asks))
plain_of x i v (StoreValue a n) op alone k asks c = sym (ap (λ (m : Meaning). m.heap) (told_by x i v (StoreValue a n) op alone k (and_parts _ (may_mutate v.state) k.ok.0).1 asks))
plain_of x i v (StoreRoot a r) op alone k asks c = sym (ap (λ (m : Meaning). m.heap) (told_by x i v (StoreRoot a r) op alone k (and_parts _ (may_mutate v.state) k.ok.0).1 asks))
plain_of x i v (HoldRoot a r) op alone k asks c = sym (ap (λ (m : Meaning). m.heap) (told_by x i v (HoldRoot a r) op alone k (and_parts _ (may_mutate v.state) k.ok.0).1 asks))
plain_of x i v step op alone k asks c = absurd (true≢false (sym c))

-- a store changes the plain heap by its plain step
pub plain-by : (x : TableState) (i : ℕ) (v : View) (step : Step) (op : Op) → IsFalse v.shape.sharing → IsState x → Agrees x i v → IsFalse v.state.spent → AllTrue (parts x.core.shape (words_of x.core.shape x.core.words) x.core.seats v.state step)
    → Asks v.state v.own.meaning (seen_by v.shape v.plan v.state) step op → IsTrue (changes_heap step) → (section_after v.shape v.plan v.state step v.own).meaning.heap ≡ heap_after v.own.meaning.heap (seen_by v.shape v.plan v.state) op
plain-by x i v step op alone whole agrees live ok asks c = plain_of x i v step op (subst (λ (sh : Shape). IsFalse sh.sharing) agrees.shape alone) (record { whole = whole; agrees = agrees; live = live; ok = ok }) asks c

-- A store of a mutator is the plain step that it was asked for, as the views by themselves tell.
pub plain-told : (v : View) (step : Step) (op : Op) → IsFalse v.shape.sharing → ∥ IsPossible v ∥₁ → May step v → Asks v.state v.own.meaning (seen_by v.shape v.plan v.state) step op → IsTrue (changes_heap step)
    → (section_after v.shape v.plan v.state step v.own).meaning.heap ≡ heap_after v.own.meaning.heap (seen_by v.shape v.plan v.state) op
plain-told v step op alone h may asks e = ∥∥₁_elim h (Prim.hlevel props) (λ p. plain-by p.state p.index v step op alone p.whole p.agrees p.live (may p.state p.index p.whole p.agrees) asks e)
