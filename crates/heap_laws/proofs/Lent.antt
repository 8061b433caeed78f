-- A variable refers to what was lent, as long as the log of its seat says so.
use Rattle.std.proofs.Common.{ℕ, ◌≡◌, ◌≢◌, ◌⊎◌, ◌+◌, ◌<◌, ◌==◌, ◌&&◌, zero, suc, List, [], ◌∷◌, ◌++◌, set, take, length, length-set, length-append, arith, refl, sym, ap, ◌∙◌, subst, not, Bool, true, false, Option, None, Some, eqb-true, ⊎_elim}
use Rattle.std.specs.Prelude.{if◌then◌else◌, nat_lt, slice_get, slice_index_or}
use Rattle.std.proofs.lemmas.Bool.{and_parts, cases_eq, eqb-false, false≢true, not-true, true≢false}
use Rattle.std.proofs.lemmas.List.{get_or-set_other, get_or-set_same}
use Rattle.std.proofs.lemmas.Option.{same_Some, slice_get-get_or, slice_get_within}
use Rattle.plain_heap.specs.Paths.{Name}
use Rattle.mark_core.specs.Bits.{reference_in}
use Rattle.mark_core.specs.Effects.{seat_after}
use Rattle.mark_core.specs.Layout.{words_of}
use Rattle.mark_core.specs.Start.{spent_seat, start_seat}
use Rattle.mark_core.specs.Steps.{Core, after_event, start_core}
use Rattle.mark_core.specs.declared.kinds.Event.{Event}
use Rattle.mark_core.specs.declared.kinds.Step.{Step}
use Rattle.mark_core.specs.declared.kinds.Step.TheVariants.{ExchangeField, ExchangeValue, Join, ReadCat, ReadOwn, ReadSlot, ReadWeak, Split, StoreField, StoreNew, StoreRoot, StoreSlot, StoreValue, HoldRoot}
use Rattle.mark_core.specs.declared.seat.SeatState.{SeatState}
use Rattle.mark_core.proofs.Known.{found, seats_left}
use Rattle.mark_core.proofs.Blocks.BlocksStopped.{Taken, kept-after}
use Rattle.gc_table.specs.Agreement.{AgreesWith}
use Rattle.gc_table.specs.AgreementLaws.{world_after, world_of, world_run}
use Rattle.gc_table.specs.Past.{adds, entries_of, log_from, word_told}
use Rattle.gc_table.specs.RunWorlds.{World, WorldSection, in_section, own_section, referred, section_of, start_world, variable_of, with_new, with_part, with_register, with_variable, world_by}
use Rattle.gc_table.specs.Runs.{AreAllowed}
use Rattle.gc_table.specs.declared.view.Entry.{Entry}
use Rattle.gc_table.proofs.Counted.{other_adds, own_adds}
use Rattle.gc_table.proofs.Frame.{Mutates}
use Rattle.gc_table.proofs.Kept.{agrees-kept, agrees-starts}
use Rattle.gc_table.proofs.Lending.{Sound, later-sound, world-first}
use Rattle.gc_table.proofs.Reading.{cat-found, get-front, get-set_other, get-set_same, none-some, section-same}
use Rattle.heap_laws.specs.Lent.{LentByLog, holds_lent, is_lent, lent_after, read_by}
use Rattle.heap_laws.proofs.Moments.{each-allowed}
use Rattle.heap_laws.proofs.Sections.{change_keeps, moves_section, mutator_of, object_keeps, part_variable, section_stays}

-- What is known of a seat by its log.
-- the register's reference, and the object of variable v
record Knows (seats : List SeatState) (world : World) (i v : ℕ) (name : Name) (r : Option ℕ) (b : Bool) : Type 0 where
  register : (x : ℕ) → r ≡ Some x → (i < length seats) × ((section_of world i).register ≡ Some name) × ((s : SeatState) → slice_get seats i ≡ Some s → s.spent ≡ false → s.got ≡ x)
  variable : b ≡ true → variable_of world i v ≡ Some name

-- the record of seat i after a step of seat j is as it was, or spent
Same : List SeatState → List SeatState → ℕ → Type 0
Same seats after i = (t : SeatState) → slice_get after i ≡ Some t → t.spent ≡ false → slice_get seats i ≡ Some t

others_same : (c : Core) (j : ℕ) (s : SeatState) (step : Step) (i : ℕ) → Taken c j s step → i ≢ j → i < length c.seats → Same c.seats (seats_left c j s step) i
unfolding Same
others_same c j s Split i t d h u at live =
    let here : slice_get (set c.seats j s ++ start_seat c.shape (length (set c.seats j s)) ∷ []) i ≡ slice_get c.seats i = get-front (set c.seats j s) (start_seat c.shape (length (set c.seats j s))) i (omega (arith, h, length-set c.seats j s)) ∙ get-set_other c.seats j i s d in
    sym here ∙ at
others_same c j s (Join other) i t d h u at live =
    ⊎_elim
    (λ (e : i ≡ other).
    let old : List SeatState = set c.seats j s in
    let there : slice_get old i ≡ slice_get c.seats i = get-set_other c.seats j i s d in
    let some : slice_get c.seats i ≡ Some (slice_index_or c.seats i s) = slice_get-get_or c.seats i s h in
    let gone : slice_get (set old i (spent_seat c.shape other)) i ≡ Some (spent_seat c.shape other) = get-set_same old i (slice_index_or c.seats i s) (spent_seat c.shape other) (there ∙ some) in
    let same : spent_seat c.shape other ≡ u = same_Some (spent_seat c.shape other) u (sym gone ∙ subst (λ (k : ℕ). slice_get (set old k (spent_seat c.shape other)) i ≡ Some u) (sym e) at) in
    absurd (true≢false (ap (λ (x : SeatState). x.spent) same ∙ live)))
    (λ (n : i ≢ other). sym (get-set_other (set c.seats j s) other i (spent_seat c.shape other) n ∙ get-set_other c.seats j i s d) ∙ at)
    (cases_eq i other)
others_same c j s step i t d h u at live = sym (get-set_other c.seats j i (seat_after c.shape s step (found c s step)) d) ∙ at

seats_long : (c : Core) (j : ℕ) (s : SeatState) (step : Step) (i : ℕ) → i < length c.seats → i < length (seats_left c j s step)
seats_long c j s Split i h = omega (arith, h, length-set c.seats j s, length-append (set c.seats j s) (start_seat c.shape (length (set c.seats j s)) ∷ []))
seats_long c j s (Join other) i h = omega (arith, h, length-set c.seats j s, length-set (set c.seats j s) other (spent_seat c.shape other))
seats_long c j s step i h = omega (arith, h, length-set c.seats j (seat_after c.shape s step (found c s step)))

-- after a step of another seat
other_next : (c : Core) (j : ℕ) (s : SeatState) (step : Step) (world : World) (i v : ℕ) (name : Name) (r : Option ℕ) (b : Bool) → Taken c j s step → i ≢ j → Knows c.seats world i v name r b
    → Knows (seats_left c j s step) (world_by c.shape (words_of c.shape c.words) s step world) i v name r b
unfolding Same
other_next c j s step world i v name r b t d k =
    record {
      register =
          λ x e.
          let a = k.register x e in
          (seats_long c j s step i a.0, section_stays (λ (y : WorldSection). y.register) (λ y objects. refl) c j s step world i t d ∙ a.1, λ u at live. a.2 u (others_same c j s step i t d a.0 u at live) live);
      variable = λ e. section_stays (λ (y : WorldSection). slice_index_or y.variables v None) (λ y objects. refl) c j s step world i t d ∙ k.variable e;
    }

-- the own record after a step
own_record : (c : Core) (i : ℕ) (s : SeatState) (step : Step) → Taken c i s step → (u : SeatState) → slice_get (seats_left c i s step) i ≡ Some u → u.spent ≡ false → u.got ≡ (seat_after c.shape s step (found c s step)).got
own_record c i s Split t u at live =
    let h : i < length c.seats = slice_get_within c.seats i s t.got in
    let here = get-front (set c.seats i s) (start_seat c.shape (length (set c.seats i s))) i (omega (arith, h, length-set c.seats i s)) ∙ get-set_same c.seats i s s t.got in
    ap (λ (x : SeatState). x.got) (same_Some u s (sym at ∙ here))
own_record c i s (Join other) t u at live =
    let old : List SeatState = set c.seats i s in
    ⊎_elim
    (λ (e : i ≡ other).
    let gone : slice_get (set old i (spent_seat c.shape other)) i ≡ Some (spent_seat c.shape other) = get-set_same old i s (spent_seat c.shape other) (get-set_same c.seats i s s t.got) in
    let same : spent_seat c.shape other ≡ u = same_Some (spent_seat c.shape other) u (sym gone ∙ subst (λ (k : ℕ). slice_get (set old k (spent_seat c.shape other)) i ≡ Some u) (sym e) at) in
    absurd (true≢false (ap (λ (x : SeatState). x.spent) same ∙ live)))
    (λ (n : i ≢ other). ap (λ (x : SeatState). x.got) (same_Some u s (sym at ∙ (get-set_other old other i (spent_seat c.shape other) n ∙ get-set_same c.seats i s s t.got))))
    (cases_eq i other)
own_record c i s step t u at live = ap (λ (x : SeatState). x.got) (same_Some u (seat_after c.shape s step (found c s step)) (sym at ∙ get-set_same c.seats i s (seat_after c.shape s step (found c s step)) t.got))

-- a step that leaves the register and the variable
still : (c : Core) (i : ℕ) (s : SeatState) (step : Step) (world after : World) (v : ℕ) (name : Name) (r : Option ℕ) (b : Bool) → Taken c i s step → (seat_after c.shape s step (found c s step)).got ≡ s.got → (section_of after i).register ≡ (section_of world i).register
    → variable_of after i v ≡ variable_of world i v → Knows c.seats world i v name r b → Knows (seats_left c i s step) after i v name r b
still c i s step world after v name r b t got register same k =
    record {
      register = λ x e. let a = k.register x e in (seats_long c i s step i a.0, register ∙ a.1, λ u at live. own_record c i s step t u at live ∙ (got ∙ a.2 s t.got t.live));
      variable = λ e. same ∙ k.variable e;
    }

-- a step after which nothing is known of the register
forgets : (seats after_seats : List SeatState) (world after : World) (i v : ℕ) (name : Name) (r : Option ℕ) (b : Bool) → variable_of after i v ≡ variable_of world i v → Knows seats world i v name r b → Knows after_seats after i v name None b
forgets seats after_seats world after i v name r b same k = record { register = λ x e. absurd (none-some x e); variable = λ e. same ∙ k.variable e }

-- a variable after a change of the register, and after that of another variable
register_keeps : (world : World) (w : ℕ) (to : Option Name) (i v : ℕ) → variable_of (in_section world w (with_register to)) i v ≡ variable_of world i v
register_keeps world w to i v = change_keeps (λ (x : WorldSection). slice_index_or x.variables v None) world w i (with_register to) (λ x. refl)

other_variable : (world : World) (w : ℕ) (to : Option Name) (i v z : ℕ) → v ≢ z → variable_of (in_section world w (with_variable z to)) i v ≡ variable_of world i v
other_variable world w to i v z d = change_keeps (λ (x : WorldSection). slice_index_or x.variables v None) world w i (with_variable z to) (λ x. get_or-set_other x.variables z v to None d)

-- the variable that is stored
stored_variable : (world : World) (i : ℕ) (to : Option Name) (v : ℕ) → i < length world → v < length (section_of world i).variables → variable_of (in_section world i (with_variable v to)) i v ≡ to
stored_variable world i to v h hv = ap (λ (x : WorldSection). slice_index_or x.variables v None) (section-same world i (with_variable v to) h) ∙ get_or-set_same (section_of world i).variables v to None hv

-- a part of a new cell leaves the register
part_register : (a q : Bool) (x y z : WorldSection) → y.register ≡ x.register → z.register ≡ x.register → (if a then x else if q then y else z).register ≡ x.register
part_register true q x y z e f = refl
part_register false true x y z e f = e
part_register false false x y z e f = f

-- a read of what is lent
lent_read : (c : Core) (i : ℕ) (s : SeatState) (w u : ℕ) (world : World) (v : ℕ) (name : Name) (r : Option ℕ) (b : Bool) → Taken c i s (ReadCat w) → AgreesWith c world → (variable_of world 0 u ≡ None) ⊎ (variable_of world 0 u ≡ Some name) → Knows c.seats world i v name r b
    → Knows (seats_left c i s (ReadCat w)) (in_section world (own_section s) (with_register (variable_of world 0 w))) i v name (read_by u r (ReadCat w) (found c s (ReadCat w))) b
lent_read c i s w u world v name r b t a lent k = by_lent ((w == u) && not (reference_in word == 0)) refl
  where
    step : Step
    step = ReadCat w

    word : ℕ
    word = found c s step

    after : World
    after = in_section world (own_section s) (with_register (variable_of world 0 w))

    same : variable_of after i v ≡ variable_of world i v
    same = register_keeps world (own_section s) (variable_of world 0 w) i v

    mu : Mutates c i s
    mu = mutator_of c i s step t refl

    refers : (x : ℕ) → word ≡ x → x ≢ 0 → variable_of world 0 w ≡ None → ⊥
    refers zero e d f = d refl
    refers (suc x) e d f = none-some _ (sym f ∙ (sym (cat-found c i s w world t a).1 ∙ ap (referred (words_of c.shape c.words).identities) e))

    by_lent : (q : Bool) → ((w == u) && not (reference_in word == 0)) ≡ q → Knows (seats_left c i s step) after i v name (if q then Some (reference_in word) else None) b
    by_lent false e = forgets c.seats (seats_left c i s step) world after i v name r b same k
    by_lent true e =
        let p = and_parts (w == u) (not (reference_in word == 0)) e in
        let is : w ≡ u = eqb-true w u p.0 in
        let whole : reference_in word ≡ word = (cat-found c i s w world t a).0 in
        let some : word ≢ 0 = λ z. eqb-false (reference_in word) 0 (not-true (reference_in word == 0) p.1) (whole ∙ z) in
        let to : variable_of world 0 w ≡ Some name =
        ⊎_elim
        (λ (n : variable_of world 0 u ≡ None). absurd (refers word refl some (ap (variable_of world 0) is ∙ n)))
        (λ (y : variable_of world 0 u ≡ Some name). ap (variable_of world 0) is ∙ y)
        lent in
        let inside : i < length world = omega (arith, mu.inside, a.sections) in
        let register : (section_of after i).register ≡ Some name =
        subst (λ (z : ℕ). (section_of (in_section world z (with_register (variable_of world 0 w))) i).register ≡ Some name) (sym mu.own)
        (ap (λ (x : WorldSection). x.register) (section-same world i (with_register (variable_of world 0 w)) inside) ∙ to) in
        record {
          register = λ x f. (
            seats_long c i s step i (slice_get_within c.seats i s t.got),
            register,
            λ y at live. own_record c i s step t y at live ∙ same_Some (reference_in word) x f,
          );
          variable = λ f. same ∙ k.variable f;
        }

-- variable w is assigned, in its root or in the seat's record only
lent_store : (c : Core) (i : ℕ) (s : SeatState) (step : Step) (w x : ℕ) (world : World) (v : ℕ) (name : Name) (r : Option ℕ) (b : Bool) → Taken c i s step → moves_section step ≡ true → AgreesWith c world → v < 32 → Knows c.seats world i v name r b
    → Knows (seats_left c i s step) (in_section world (own_section s) (with_variable w (referred (words_of c.shape c.words).identities x))) i v name None (if w == v then is_lent r x else b)
lent_store c i s step w x world v name r b t moves a hv k = record { register = λ y e. absurd (none-some y e); variable = by_variable (w == v) refl }
  where
    ids : List ℕ
    ids = (words_of c.shape c.words).identities

    mu : Mutates c i s
    mu = mutator_of c i s step t moves

    after : World
    after = in_section world (own_section s) (with_variable w (referred ids x))

    lent : (o : Option ℕ) → r ≡ o → is_lent o x ≡ true → referred ids x ≡ Some name
    lent None e f = absurd (false≢true f)
    lent (Some y) e f =
        let known = k.register y e in
        let got : s.got ≡ x = known.2 s t.got t.live ∙ eqb-true y x f in
        ap (referred ids) (sym got) ∙ ((a.seats_agree i s t.got mu.inside t.live).register ∙ known.1)

    by_variable : (q : Bool) → (w == v) ≡ q → (if q then is_lent r x else b) ≡ true → variable_of after i v ≡ Some name
    by_variable true e f =
        let is : w ≡ v = eqb-true w v e in
        let inside : i < length world = omega (arith, mu.inside, a.sections) in
        let exists : v < length (section_of world i).variables = omega (arith, hv, a.variables i mu.inside) in
        subst (λ (z : ℕ). variable_of (in_section world z (with_variable w (referred ids x))) i v ≡ Some name) (sym mu.own)
        (subst (λ (z : ℕ). variable_of (in_section world i (with_variable z (referred ids x))) i v ≡ Some name) (sym is) (stored_variable world i (referred ids x) v inside exists ∙ lent r refl f))
    by_variable false e f = other_variable world (own_section s) (referred ids x) i v w (λ z. eqb-false w v e (sym z)) ∙ k.variable f

-- after a step of the own seat
own_next : (c : Core) (i : ℕ) (s : SeatState) (step : Step) (world : World) (u v : ℕ) (name : Name) (r : Option ℕ) (b : Bool) → Taken c i s step → AgreesWith c world → v < 32 → (variable_of world 0 u ≡ None) ⊎ (variable_of world 0 u ≡ Some name) → Knows c.seats world i v name r b
    → Knows (seats_left c i s step) (world_by c.shape (words_of c.shape c.words) s step world) i v name (read_by u r step (word_told c s step)) (lent_after v r b step)
own_next c i s (StoreField w k x) world u v name r b t a hv lent known =
    still c i s (StoreField w k x) world _ v name r b t refl (object_keeps (λ (y : WorldSection). y.register) (λ y objects. refl) world (variable_of world (own_section s) w) _ i)
    (object_keeps (λ (y : WorldSection). slice_index_or y.variables v None) (λ y objects. refl) world (variable_of world (own_section s) w) _ i) known
own_next c i s (StoreValue w n) world u v name r b t a hv lent known =
    still c i s (StoreValue w n) world _ v name r b t refl (object_keeps (λ (y : WorldSection). y.register) (λ y objects. refl) world (variable_of world (own_section s) w) _ i)
    (object_keeps (λ (y : WorldSection). slice_index_or y.variables v None) (λ y objects. refl) world (variable_of world (own_section s) w) _ i) known
own_next c i s (ExchangeField w k x y) world u v name r b t a hv lent known =
    still c i s (ExchangeField w k x y) world _ v name r b t refl (object_keeps (λ (z : WorldSection). z.register) (λ z objects. refl) world (variable_of world (own_section s) w) _ i)
    (object_keeps (λ (z : WorldSection). slice_index_or z.variables v None) (λ z objects. refl) world (variable_of world (own_section s) w) _ i) known
own_next c i s (ExchangeValue w m n) world u v name r b t a hv lent known =
    still c i s (ExchangeValue w m n) world _ v name r b t refl (object_keeps (λ (z : WorldSection). z.register) (λ z objects. refl) world (variable_of world (own_section s) w) _ i)
    (object_keeps (λ (z : WorldSection). slice_index_or z.variables v None) (λ z objects. refl) world (variable_of world (own_section s) w) _ i) known
own_next c i s (ReadCat w) world u v name r b t a hv lent known = lent_read c i s w u world v name r b t a lent known
own_next c i s (StoreRoot w x) world u v name r b t a hv lent known = lent_store c i s (StoreRoot w x) w x world v name r b t refl a hv known
own_next c i s (HoldRoot w x) world u v name r b t a hv lent known = lent_store c i s (HoldRoot w x) w x world v name r b t refl a hv known
own_next c i s (StoreSlot k x) world u v name r b t a hv lent known =
    forgets c.seats (seats_left c i s (StoreSlot k x)) world _ i v name r b (other_variable world (own_section s) _ i v (32 + k) (λ z. omega (arith, z, hv))) known
own_next c i s (ReadSlot k) world u v name r b t a hv lent known = forgets c.seats (seats_left c i s (ReadSlot k)) world _ i v name r b (register_keeps world (own_section s) _ i v) known
own_next c i s (ReadWeak x) world u v name r b t a hv lent known = forgets c.seats (seats_left c i s (ReadWeak x)) world _ i v name r b (register_keeps world (own_section s) _ i v) known
own_next c i s (ReadOwn x k) world u v name r b t a hv lent known = forgets c.seats (seats_left c i s (ReadOwn x k)) world _ i v name r b (register_keeps world (own_section s) _ i v) known
own_next c i s (StoreNew x part word) world u v name r b t a hv lent known =
    let f : WorldSection → WorldSection = with_part c.shape.fields part word in
    still c i s (StoreNew x part word) world (in_section world (own_section s) f) v name r b t refl
    (change_keeps (λ (y : WorldSection). y.register) world (own_section s) i f (λ y. part_register (nat_lt part c.shape.fields) (part == c.shape.fields) y (record y { coming = word }) (with_new c.shape.fields y) refl refl))
    (change_keeps (λ (y : WorldSection). slice_index_or y.variables v None) world (own_section s) i f (λ y. part_variable (nat_lt part c.shape.fields) (part == c.shape.fields) y (record y { coming = word }) (with_new c.shape.fields y) v refl refl))
    known
own_next c i s step world u v name r b t a hv lent known = still c i s step world world v name r b t refl refl refl known

-- What is known after the entries of a log.
abbrev register_after : ℕ → Option ℕ → List Entry → Option ℕ
register_after u r [] = r
register_after u r (e ∷ es) = register_after u (read_by u r e.step e.found) es

lent_join : (u v : ℕ) (r : Option ℕ) (b : Bool) (xs ys : List Entry) → holds_lent u v r b (xs ++ ys) ≡ holds_lent u v (register_after u r xs) (holds_lent u v r b xs) ys
lent_join u v r b [] ys = refl
lent_join u v r b (x ∷ xs) ys = lent_join u v (read_by u r x.step x.found) (lent_after v r b x.step) xs ys

-- the entries of one step tell the same
entry_tells : (c : Core) (i : ℕ) (s : SeatState) (step : Step) (seats : List SeatState) (world : World) (u v : ℕ) (name : Name) (r : Option ℕ) (b : Bool) → Knows seats world i v name (read_by u r step (word_told c s step)) (lent_after v r b step)
    → Knows seats world i v name (register_after u r (entries_of c (Some s) step)) (holds_lent u v r b (entries_of c (Some s) step))
entry_tells c i s Split seats world u v name r b k = k
entry_tells c i s (Join other) seats world u v name r b k = k
entry_tells c i s step seats world u v name r b k = k

-- one event
lent_next : (c : Core) (e : Event) (s : SeatState) (world : World) (i u v : ℕ) (name : Name) (r : Option ℕ) (b : Bool) → Taken c e.seat s e.step → AgreesWith c world → v < 32 → (variable_of world 0 u ≡ None) ⊎ (variable_of world 0 u ≡ Some name) → Knows c.seats world i v name r b
    → Knows (seats_left c e.seat s e.step) (world_by c.shape (words_of c.shape c.words) s e.step world) i v name (register_after u r (adds i c e)) (holds_lent u v r b (adds i c e))
lent_next c e s world i u v name r b t a hv lent k =
    ⊎_elim
    (λ (same : i ≡ e.seat).
    let own : adds i c e ≡ entries_of c (Some s) e.step = ap (λ (j : ℕ). adds j c e) same ∙ own_adds c e s t.got in
    let mine : Taken c i s e.step = subst (λ (j : ℕ). Taken c j s e.step) (sym same) t in
    let next = own_next c i s e.step world u v name r b mine a hv lent k in
    let after : World = world_by c.shape (words_of c.shape c.words) s e.step world in
    let told = entry_tells c i s e.step (seats_left c i s e.step) after u v name r b next in
    subst (λ (j : ℕ). Knows (seats_left c j s e.step) after i v name (register_after u r (adds i c e)) (holds_lent u v r b (adds i c e))) same
    (subst (λ (l : List Entry). Knows (seats_left c i s e.step) after i v name (register_after u r l) (holds_lent u v r b l)) (sym own) told))
    (λ (d : i ≢ e.seat).
    subst (λ (l : List Entry). Knows (seats_left c e.seat s e.step) (world_by c.shape (words_of c.shape c.words) s e.step world) i v name (register_after u r l) (holds_lent u v r b l)) (sym (other_adds i c e d))
    (other_next c e.seat s e.step world i v name r b t d k))
    (cases_eq i e.seat)

-- after the first k events variable u of section 0 refers to nothing, or to the object
abbrev Lends : List Event → Core → World → ℕ → Name → ℕ → Type 0
Lends es c world u name k = (variable_of (world_run (take k es) c world) 0 u ≡ None) ⊎ (variable_of (world_run (take k es) c world) 0 u ≡ Some name)

lent_on : (es : List Event) (c : Core) (world : World) (i u v : ℕ) (name : Name) (r : Option ℕ) (b : Bool) → Sound c es → AreAllowed c es → AgreesWith c world → v < 32 → ((k : ℕ) → Lends es c world u name k) → Knows c.seats world i v name r b
    → (k : ℕ) → holds_lent u v r b (log_from i c (take k es)) ≡ true → variable_of (world_run (take k es) c world) i v ≡ Some name
lent_on [] c world i u v name r b sound ok a hv lends known zero h = known.variable h
lent_on [] c world i u v name r b sound ok a hv lends known (suc k) h = known.variable h
lent_on (e ∷ es) c world i u v name r b sound ok a hv lends known zero h = known.variable h
lent_on (e ∷ es) c world i u v name r b sound ok a hv lends known (suc k) h =
    let d : Core = after_event c e in
    let next : World = world_after c e world in
    let first : List Entry = adds i c e in
    let after : Knows d.seats next i v name (register_after u r first) (holds_lent u v r b first) =
    kept-after (λ sh w seats. Knows seats next i v name (register_after u r first) (holds_lent u v r b first)) c e (sound 0) ok.0
    (λ s acted t.
    subst (λ (w : World). Knows (seats_left c e.seat s e.step) w i v name (register_after u r first) (holds_lent u v r b first)) (sym (ap (λ (o : Option SeatState). world_of c o e.step world) acted.seat))
    (lent_next c e s world i u v name r b t a hv (lends 0) known)) in
    let later : (n : ℕ) → Lends es d next u name n = λ n. subst (λ (w : World). (variable_of w 0 u ≡ None) ⊎ (variable_of w 0 u ≡ Some name)) (world-first c e (take n es) world ok.0) (lends (suc n)) in
    let rest = lent_on es d next i u v name (register_after u r first) (holds_lent u v r b first) (later-sound c e es ok.0 sound) ok.1 (agrees-kept c e world (sound 0) a ok.0) hv later after k (sym (lent_join u v r b first (log_from i d (take k es))) ∙ h) in
    ap (λ (w : World). variable_of w i v) (world-first c e (take k es) world ok.0) ∙ rest

pub lent_by_log : LentByLog
lent_by_log sh es h u name hu lends i v k hv held =
    lent_on es (start_core sh 1) (start_world sh) i u v name None false h.sound (each-allowed sh es h) (agrees-starts sh 1 (h.sound 0).formed.shaped) hv lends
    (record { register = λ x e. absurd (none-some x e); variable = λ e. absurd (false≢true e) }) k held
