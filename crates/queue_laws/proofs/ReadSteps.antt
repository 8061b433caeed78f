-- A variable has what was read in a field of another's object, as long as the log of its seat says so: one step.
use Rattle.std.proofs.Common.{ℕ, ◌≡◌, ◌≢◌, ◌+◌, ◌<◌, ◌==◌, ◌&&◌, zero, suc, List, set, length, length-set, arith, refl, sym, ap, ◌∙◌, subst, not, Bool, true, false, Option, None, Some, eqb-true, ⊎_elim}
use Rattle.std.specs.Prelude.{if◌then◌else◌, nat_lt, slice_get, slice_index, slice_index_or}
use Rattle.std.proofs.lemmas.Bool.{and_parts, cases_eq, eqb-false, false≢true, not-true, true≢false}
use Rattle.std.proofs.lemmas.List.{get_or-set_other, get_or-set_same}
use Rattle.std.proofs.lemmas.Option.{same_Some, slice_get_within}
use Rattle.plain_heap.specs.Paths.{Name}
use Rattle.mark_core.specs.Bits.{reference_in}
use Rattle.mark_core.specs.Effects.{seat_after}
use Rattle.mark_core.specs.Layout.{words_of}
use Rattle.mark_core.specs.Start.{spent_seat, start_seat}
use Rattle.mark_core.specs.Steps.{Core}
use Rattle.mark_core.specs.declared.kinds.Step.{Step}
use Rattle.mark_core.specs.declared.kinds.Step.TheVariants.{ExchangeField, ExchangeValue, Join, ReadCat, ReadOwn, ReadSlot, ReadWeak, Split, StoreField, StoreNew, StoreRoot, StoreSlot, StoreValue, HoldRoot}
use Rattle.mark_core.specs.declared.seat.SeatState.{SeatState}
use Rattle.mark_core.proofs.Known.{found, seats_left}
use Rattle.mark_core.proofs.Blocks.BlocksStopped.{Taken}
use Rattle.mark_core.proofs.Consequences.WeakKept.{seated-left}
use Rattle.mark_core.proofs.Consequences.WeakTold.{other_stays}
use Rattle.mark_core.proofs.References.ReferencesRoots.{seat-formed}
use Rattle.gc_table.specs.Agreement.{AgreesWith}
use Rattle.gc_table.specs.AgreementLaws.{HasReference}
use Rattle.gc_table.specs.Past.{word_told}
use Rattle.gc_table.specs.RunWorlds.{World, WorldObject, WorldSection, followed, in_section, name_at, object_of, own_section, reference_of, referred, section_of, variable_of, with_new, with_part, with_register, with_variable, world_by}
use Rattle.gc_table.proofs.Frame.{Mutates}
use Rattle.gc_table.proofs.Reading.{get-front, get-set_other, get-set_same, none-some, own-found, section-same}
use Rattle.gc_table.proofs.Stores.{env-agrees}
use Rattle.heap_laws.specs.Lent.{is_lent}
use Rattle.heap_laws.proofs.Sections.{change_keeps, moves_section, mutator_of, object_keeps, part_variable, section_stays}
use Rattle.queue_laws.specs.Reads.{Reading, assigned, reading_after}

-- the record of a seat after its own step
pub left_own : (c : Core) (i : ℕ) (s : SeatState) (step : Step) → Taken c i s step → (t : SeatState) → slice_get (seats_left c i s step) i ≡ Some t → t.spent ≡ false → t ≡ seat_after c.shape s step (found c s step)
left_own c i s Split k t at live =
    let h : i < length c.seats = slice_get_within c.seats i s k.got in
    let here = get-front (set c.seats i s) (start_seat c.shape (length (set c.seats i s))) i (omega (arith, h, length-set c.seats i s)) ∙ get-set_same c.seats i s s k.got in
    same_Some t s (sym at ∙ here)
left_own c i s (Join other) k t at live =
    let old : List SeatState = set c.seats i s in
    ⊎_elim
    (λ (e : i ≡ other).
    let gone : slice_get (set old i (spent_seat c.shape other)) i ≡ Some (spent_seat c.shape other) = get-set_same old i s (spent_seat c.shape other) (get-set_same c.seats i s s k.got) in
    let same : spent_seat c.shape other ≡ t = same_Some (spent_seat c.shape other) t (sym gone ∙ subst (λ (j : ℕ). slice_get (set old j (spent_seat c.shape other)) i ≡ Some t) (sym e) at) in
    absurd (true≢false (ap (λ (x : SeatState). x.spent) same ∙ live)))
    (λ (n : i ≢ other). same_Some t s (sym at ∙ (get-set_other old other i (spent_seat c.shape other) n ∙ get-set_same c.seats i s s k.got)))
    (cases_eq i other)
left_own c i s step k t at live = same_Some t (seat_after c.shape s step (found c s step)) (sym at ∙ get-set_same c.seats i s (seat_after c.shape s step (found c s step)) k.got)

-- both refer to objects, of which this is known
abbrev pub Pair : (Name → Name → Type 0) → Option Name → Option Name → Type 0
Pair W a b = (from : Name) × (to : Name) × (a ≡ Some from) × (b ≡ Some to) × W from to

pair_same : (W : Name → Name → Type 0) (a b x y : Option Name) → x ≡ a → y ≡ b → Pair W a b → Pair W x y
pair_same W a b x y e f p = (p.0, p.1, e ∙ p.2, f ∙ p.3, p.4)

-- a variable after a change of the register, and after that of another variable
pub register_keeps : (world : World) (w : ℕ) (to : Option Name) (i v : ℕ) → variable_of (in_section world w (with_register to)) i v ≡ variable_of world i v
register_keeps world w to i v = change_keeps (λ (x : WorldSection). slice_index_or x.variables v None) world w i (with_register to) (λ x. refl)

pub other_variable : (world : World) (w : ℕ) (to : Option Name) (i v z : ℕ) → v ≢ z → variable_of (in_section world w (with_variable z to)) i v ≡ variable_of world i v
other_variable world w to i v z d = change_keeps (λ (x : WorldSection). slice_index_or x.variables v None) world w i (with_variable z to) (λ x. get_or-set_other x.variables z v to None d)

-- the variable that is stored
pub stored_variable : (world : World) (i : ℕ) (to : Option Name) (v : ℕ) → i < length world → v < length (section_of world i).variables → variable_of (in_section world i (with_variable v to)) i v ≡ to
stored_variable world i to v h hv = ap (λ (x : WorldSection). slice_index_or x.variables v None) (section-same world i (with_variable v to) h) ∙ get_or-set_same (section_of world i).variables v to None hv

-- a part of a new cell leaves the register
pub part_register : (a q : Bool) (x y z : WorldSection) → y.register ≡ x.register → z.register ≡ x.register → (if a then x else if q then y else z).register ≡ x.register
part_register true q x y z e f = refl
part_register false true x y z e f = e
part_register false false x y z e f = f

module _ (i v u f : ℕ) (hv : v < 32) (hu : u < 32) (d : v ≢ u) (W : Name → Name → Type 0) where
  -- what is known of seat i
  pub record Knows (seats : List SeatState) (world : World) (known : Reading) : Type 0 where
    pub there : i < length seats
    pub word : (t : SeatState) → slice_get seats i ≡ Some t → t.spent ≡ false → slice_index t.env v ≡ known.word
    pub got : (x : ℕ) → known.loaded ≡ Some x → (t : SeatState) → slice_get seats i ≡ Some t → t.spent ≡ false → t.got ≡ x
    pub loaded : (x : ℕ) → known.loaded ≡ Some x → Pair W (variable_of world i v) (section_of world i).register
    pub held : known.held ≡ true → Pair W (variable_of world i v) (variable_of world i u)

  -- after a step of another seat
  pub other_next : (c : Core) (j : ℕ) (s : SeatState) (step : Step) (world : World) (known : Reading) → Taken c j s step → i ≢ j → Knows c.seats world known → Knows (seats_left c j s step) (world_by c.shape (words_of c.shape c.words) s step world) known
  other_next c j s step world known k n o =
      let after : World = world_by c.shape (words_of c.shape c.words) s step world in
      let kept : (x : ℕ) → variable_of after i x ≡ variable_of world i x = λ x. section_stays (λ (y : WorldSection). slice_index_or y.variables x None) (λ y objects. refl) c j s step world i k n in
      let register : (section_of after i).register ≡ (section_of world i).register = section_stays (λ (y : WorldSection). y.register) (λ y objects. refl) c j s step world i k n in
      let long = seated-left c j s step in
      record {
        there = omega (arith, long, o.there);
        word = λ t at live. o.word t (other_stays c j i s t step k n o.there at live) live;
        got = λ x e t at live. o.got x e t (other_stays c j i s t step k n o.there at live) live;
        loaded = λ x e. pair_same W (variable_of world i v) (section_of world i).register (variable_of after i v) (section_of after i).register (kept v) register (o.loaded x e);
        held = λ e. pair_same W (variable_of world i v) (variable_of world i u) (variable_of after i v) (variable_of after i u) (kept v) (kept u) (o.held e);
      }

  module _ (c : Core) (s : SeatState) (step : Step) (world : World) (known : Reading) (k : Taken c i s step) (a : AgreesWith c world) (o : Knows c.seats world known) where
    abbrev next : SeatState
    next = seat_after c.shape s step (found c s step)

    there_next : i < length (seats_left c i s step)
    there_next = let long = seated-left c i s step in let now = o.there in omega (arith, long, now)

    word_next : next.env ≡ s.env → (t : SeatState) → slice_get (seats_left c i s step) i ≡ Some t → t.spent ≡ false → slice_index t.env v ≡ known.word
    word_next env t at live = ap (λ (x : SeatState). slice_index x.env v) (left_own c i s step k t at live) ∙ (ap (λ (xs : List ℕ). slice_index xs v) env ∙ o.word s k.got k.live)

    -- a step that leaves the register and both variables
    stays_known : (after : World) → next.env ≡ s.env → next.got ≡ s.got → (section_of after i).register ≡ (section_of world i).register → ((x : ℕ) → x < 32 → variable_of after i x ≡ variable_of world i x) → Knows (seats_left c i s step) after known
    stays_known after env got register kept =
        record {
          there = there_next;
          word = word_next env;
          got = λ x e t at live. ap (λ (y : SeatState). y.got) (left_own c i s step k t at live) ∙ (got ∙ o.got x e s k.got k.live);
          loaded = λ x e. pair_same W (variable_of world i v) (section_of world i).register (variable_of after i v) (section_of after i).register (kept v hv) register (o.loaded x e);
          held = λ e. pair_same W (variable_of world i v) (variable_of world i u) (variable_of after i v) (variable_of after i u) (kept v hv) (kept u hu) (o.held e);
        }

    -- one after which nothing is known of the register
    forgets : (after : World) → next.env ≡ s.env → ((x : ℕ) → x < 32 → variable_of after i x ≡ variable_of world i x) → Knows (seats_left c i s step) after (record known { loaded = None })
    forgets after env kept =
        record {
          there = there_next;
          word = word_next env;
          got = λ x e t at live. absurd (none-some x e);
          loaded = λ x e. absurd (none-some x e);
          held = λ e. pair_same W (variable_of world i v) (variable_of world i u) (variable_of after i v) (variable_of after i u) (kept v hv) (kept u hu) (o.held e);
        }

  -- a read of a field of an object
  read_next : (c : Core) (s : SeatState) (x j : ℕ) (world : World) (known : Reading) → Taken c i s (ReadOwn x j) → AgreesWith c world → Knows c.seats world known → ((from to : Name) → HasReference world from f (Some to) → W from to)
      → Knows (seats_left c i s (ReadOwn x j)) (in_section world (own_section s) (with_register (followed (object_of world (name_at (words_of c.shape c.words).identities x)) j))) (reading_after v u f known (ReadOwn x j) (found c s (ReadOwn x j)))
  read_next c s x j world known k a o new = by_test ((known.word == x + 1) && ((j == f) && not (word == 0))) refl
    where
      step : Step
      step = ReadOwn x j

      word : ℕ
      word = found c s (ReadOwn x j)

      ids : List ℕ
      ids = (words_of c.shape c.words).identities

      to : Option Name
      to = followed (object_of world (name_at (words_of c.shape c.words).identities x)) j

      after : World
      after = in_section world (own_section s) (with_register to)

      mu : Mutates c i s
      mu = mutator_of c i s step k refl

      kept : (y : ℕ) → y < 32 → variable_of after i y ≡ variable_of world i y
      kept y h = register_keeps world (own_section s) to i y

      names : (n : ℕ) → word ≡ n → n ≢ 0 → (name : Name) × (to ≡ Some name)
      names zero e z = absurd (z refl)
      names (suc n) e z = (name_at ids n, sym (own-found c i s x j world k a).1 ∙ ap (referred ids) e)

      by_test : (b : Bool) → ((known.word == x + 1) && ((j == f) && not (word == 0))) ≡ b → Knows (seats_left c i s step) after (record known { loaded = if b then Some word else None })
      by_test false e = forgets c s step world known k a o after refl kept
      by_test true e =
          let p = and_parts (known.word == x + 1) ((j == f) && not (word == 0)) e in
          let q = and_parts (j == f) (not (word == 0)) p.1 in
          let named = names word refl (eqb-false word 0 (not-true (word == 0) q.1)) in
          let own = own-found c i s x j world k a in
          let plus : x + 1 ≡ suc x = omega arith in
          let env : slice_index s.env v ≡ suc x = o.word s k.got k.live ∙ (eqb-true known.word (x + 1) p.0 ∙ plus) in
          let at : variable_of world i v ≡ Some (name_at ids x) = sym (env-agrees c i s step world v k a mu hv) ∙ ap (referred ids) env in
          let points : reference_of own.2.0 f ≡ Some named.0 =
          ap (reference_of own.2.0) (sym (eqb-true j f q.0)) ∙ (ap (λ (z : Option WorldObject). followed z j) (sym own.2.1) ∙ named.1) in
          let inside : i < length world = omega (arith, mu.inside, a.sections) in
          let register : (section_of after i).register ≡ Some named.0 =
          subst (λ (z : ℕ). (section_of (in_section world z (with_register to)) i).register ≡ Some named.0) (sym mu.own)
          (ap (λ (y : WorldSection). y.register) (section-same world i (with_register to) inside) ∙ named.1) in
          record {
            there = there_next c s step world known k a o;
            word = word_next c s step world known k a o refl;
            got = λ y g t here live. ap (λ (z : SeatState). z.got) (left_own c i s step k t here live) ∙ (own.0 ∙ same_Some word y g);
            loaded = λ y g. (name_at ids x, named.0, kept v hv ∙ at, register, new (name_at ids x) named.0 (own.2.0, own.2.1, points));
            held = λ g. pair_same W (variable_of world i v) (variable_of world i u) (variable_of after i v) (variable_of after i u) (kept v hv) (kept u hu) (o.held g);
          }

  -- a variable is assigned, in its root or in the seat's record only
  assign_next : (c : Core) (s : SeatState) (step : Step) (x r : ℕ) (world : World) (known : Reading) → Taken c i s step → moves_section step ≡ true → AgreesWith c world → Knows c.seats world known
      → (seat_after c.shape s step (found c s step)).env ≡ set s.env x (reference_in r)
      → Knows (seats_left c i s step) (in_section world (own_section s) (with_variable x (referred (words_of c.shape c.words).identities r))) (assigned v u known x r)
  assign_next c s step x r world known k moves a o env =
      record {
        there = there_next c s step world known k a o;
        word = λ t here live. ap (λ (y : SeatState). slice_index y.env v) (left_own c i s step k t here live) ∙ (ap (λ (xs : List ℕ). slice_index xs v) env ∙ by_word (x == v) refl);
        got = λ y e t here live. absurd (none-some y e);
        loaded = λ y e. absurd (none-some y e);
        held = by_held (x == v) refl (x == u) refl;
      }
    where
      ids : List ℕ
      ids = (words_of c.shape c.words).identities

      mu : Mutates c i s
      mu = mutator_of c i s step k moves

      after : World
      after = in_section world (own_section s) (with_variable x (referred ids r))

      by_word : (b : Bool) → (x == v) ≡ b → slice_index (set s.env x (reference_in r)) v ≡ (if b then reference_in r else known.word)
      by_word true e =
          let long = (seat-formed c i s step k).env in
          let same : v ≡ x = sym (eqb-true x v e) in
          let below : v < length s.env = omega (arith, long, hv) in
          subst (λ (n : ℕ). slice_index (set s.env n (reference_in r)) v ≡ reference_in r) same (get_or-set_same s.env v (reference_in r) 0 below)
      by_word false e = get_or-set_other s.env x v (reference_in r) 0 (λ z. eqb-false x v e (sym z)) ∙ o.word s k.got k.live

      other : (z : ℕ) → z ≢ x → variable_of after i z ≡ variable_of world i z
      other z n = other_variable world (own_section s) (referred ids r) i z x n

      stored : x ≡ u → variable_of after i u ≡ referred ids r
      stored same =
          let inside : i < length world = omega (arith, mu.inside, a.sections) in
          let exists : u < length (section_of world i).variables = omega (arith, hu, a.variables i mu.inside) in
          subst (λ (z : ℕ). variable_of (in_section world z (with_variable x (referred ids r))) i u ≡ referred ids r) (sym mu.own)
          (subst (λ (z : ℕ). variable_of (in_section world i (with_variable z (referred ids r))) i u ≡ referred ids r) (sym same) (stored_variable world i (referred ids r) u inside exists))

      lent : (l : Option ℕ) → known.loaded ≡ l → is_lent l r ≡ true → x ≡ u → Pair W (variable_of after i v) (variable_of after i u)
      lent None e t same = absurd (false≢true t)
      lent (Some y) e t same =
          let p = o.loaded y e in
          let got : s.got ≡ r = o.got y e s k.got k.live ∙ eqb-true y r t in
          (p.0, p.1, other v (λ z. d (z ∙ same)) ∙ p.2, stored same ∙ (ap (referred ids) (sym got) ∙ ((a.seats_agree i s k.got mu.inside k.live).register ∙ p.3)), p.4)

      by_held : (b : Bool) → (x == v) ≡ b → (q : Bool) → (x == u) ≡ q → (if b then false else if q then is_lent known.loaded r else known.held) ≡ true → Pair W (variable_of after i v) (variable_of after i u)
      by_held true e q g t = absurd (false≢true t)
      by_held false e true g t = lent known.loaded refl t (eqb-true x u g)
      by_held false e false g t =
          pair_same W (variable_of world i v) (variable_of world i u) (variable_of after i v) (variable_of after i u) (other v (λ z. eqb-false x v e (sym z))) (other u (λ z. eqb-false x u g (sym z))) (o.held t)

  -- after a step of the own seat
  pub own_next : (c : Core) (s : SeatState) (step : Step) (world : World) (known : Reading) → Taken c i s step → AgreesWith c world → Knows c.seats world known → ((from to : Name) → HasReference world from f (Some to) → W from to)
      → Knows (seats_left c i s step) (world_by c.shape (words_of c.shape c.words) s step world) (reading_after v u f known step (word_told c s step))
  own_next c s (StoreField x j y) world known k a o new =
      stays_known c s (StoreField x j y) world known k a o _ refl refl (object_keeps (λ (z : WorldSection). z.register) (λ z objects. refl) world (variable_of world (own_section s) x) _ i)
      (λ n h. object_keeps (λ (z : WorldSection). slice_index_or z.variables n None) (λ z objects. refl) world (variable_of world (own_section s) x) _ i)
  own_next c s (StoreValue x m) world known k a o new =
      stays_known c s (StoreValue x m) world known k a o _ refl refl (object_keeps (λ (z : WorldSection). z.register) (λ z objects. refl) world (variable_of world (own_section s) x) _ i)
      (λ n h. object_keeps (λ (z : WorldSection). slice_index_or z.variables n None) (λ z objects. refl) world (variable_of world (own_section s) x) _ i)
  own_next c s (ExchangeField x j y q) world known k a o new =
      stays_known c s (ExchangeField x j y q) world known k a o _ refl refl (object_keeps (λ (z : WorldSection). z.register) (λ z objects. refl) world (variable_of world (own_section s) x) _ i)
      (λ n h. object_keeps (λ (z : WorldSection). slice_index_or z.variables n None) (λ z objects. refl) world (variable_of world (own_section s) x) _ i)
  own_next c s (ExchangeValue x m l) world known k a o new =
      stays_known c s (ExchangeValue x m l) world known k a o _ refl refl (object_keeps (λ (z : WorldSection). z.register) (λ z objects. refl) world (variable_of world (own_section s) x) _ i)
      (λ n h. object_keeps (λ (z : WorldSection). slice_index_or z.variables n None) (λ z objects. refl) world (variable_of world (own_section s) x) _ i)
  own_next c s (ReadOwn x j) world known k a o new = read_next c s x j world known k a o new
  own_next c s (ReadCat x) world known k a o new = forgets c s (ReadCat x) world known k a o _ refl (λ n h. register_keeps world (own_section s) _ i n)
  own_next c s (ReadSlot x) world known k a o new = forgets c s (ReadSlot x) world known k a o _ refl (λ n h. register_keeps world (own_section s) _ i n)
  own_next c s (ReadWeak x) world known k a o new = forgets c s (ReadWeak x) world known k a o _ refl (λ n h. register_keeps world (own_section s) _ i n)
  own_next c s (StoreSlot x r) world known k a o new = forgets c s (StoreSlot x r) world known k a o _ refl (λ n h. other_variable world (own_section s) _ i n (32 + x) (λ z. omega (arith, z, h)))
  own_next c s (StoreRoot x r) world known k a o new = assign_next c s (StoreRoot x r) x r world known k refl a o refl
  own_next c s (HoldRoot x r) world known k a o new = assign_next c s (HoldRoot x r) x r world known k refl a o refl
  own_next c s (StoreNew x part word) world known k a o new =
      let g : WorldSection → WorldSection = with_part c.shape.fields part word in
      stays_known c s (StoreNew x part word) world known k a o (in_section world (own_section s) g) refl refl
      (change_keeps (λ (y : WorldSection). y.register) world (own_section s) i g (λ y. part_register (nat_lt part c.shape.fields) (part == c.shape.fields) y (record y { coming = word }) (with_new c.shape.fields y) refl refl))
      (λ n h. change_keeps (λ (y : WorldSection). slice_index_or y.variables n None) world (own_section s) i g (λ y. part_variable (nat_lt part c.shape.fields) (part == c.shape.fields) y (record y { coming = word }) (with_new c.shape.fields y) n refl refl))
  own_next c s step world known k a o new = stays_known c s step world known k a o world refl refl refl (λ n h. refl)
