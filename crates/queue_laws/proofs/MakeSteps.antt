-- A variable has a new object of its seat, as long as the log of the seat says so: one step.
use Rattle.std.proofs.Common.{ℕ, ◌≡◌, ◌≢◌, ◌+◌, ◌*◌, ◌-◌, ◌/◌, ◌%◌, ◌<◌, ◌≤◌, ◌==◌, suc, List, length, arith, refl, sym, ap, ◌∙◌, subst, Bool, true, false, Option, None, Some, eqb-true}
use Rattle.std.specs.Prelude.{if◌then◌else◌, nat_le, nat_lt, slice_get, slice_index, slice_index_or, IfSome}
use Rattle.std.proofs.lemmas.Bool.{and_parts, eqb-false, false≢true}
use Rattle.std.proofs.lemmas.Option.{same_Some, slice_get_past}
use Rattle.plain_heap.specs.Paths.{Name}
use Rattle.mark_core.specs.Layout.{words_of}
use Rattle.mark_core.specs.Numbers.{section_span}
use Rattle.mark_core.specs.Seats.{last_made}
use Rattle.mark_core.specs.Steps.{Core}
use Rattle.mark_core.specs.Steps.MutatorSteps.{with_made, with_making}
use Rattle.mark_core.specs.declared.kinds.Step.{Step}
use Rattle.mark_core.specs.declared.kinds.Step.TheVariants.{ExchangeField, ExchangeValue, Join, ReadCat, ReadOwn, ReadSlot, ReadWeak, Split, StoreField, StoreNew, StoreRoot, StoreSlot, StoreValue, HoldRoot}
use Rattle.mark_core.specs.declared.seat.SeatState.{SeatState}
use Rattle.mark_core.proofs.Blocks.BlocksStopped.{Taken, mine as own-fact}
use Rattle.mark_core.proofs.Caches.CachesSeat.{CacheFacts, all-facts, next-free}
use Rattle.mark_core.proofs.Known.{seats_left}
use Rattle.mark_core.proofs.Consequences.WeakKept.{seated-left}
use Rattle.mark_core.proofs.Consequences.WeakTold.{other_stays}
use Rattle.mark_core.proofs.References.ReferencesRoots.{seat-formed}
use Rattle.gc_table.specs.Agreement.{AgreesWith, SeatAgrees}
use Rattle.gc_table.specs.Past.{entries_of}
use Rattle.gc_table.specs.RunWorlds.{World, WorldSection, in_section, name_at, name_in, object_of, own_section, referred, section_of, variable_of, with_new, with_part, with_variable, world_by}
use Rattle.gc_table.proofs.Forgetting.{name-is}
use Rattle.gc_table.proofs.Frame.{Mutates}
use Rattle.gc_table.proofs.NewObjects.{made_last}
use Rattle.gc_table.proofs.Reading.{none-some}
use Rattle.heap_laws.specs.Lent.{is_lent}
use Rattle.heap_laws.proofs.Sections.{change_keeps, moves_section, mutator_of, object_keeps, part_variable, section_stays}
use Rattle.queue_laws.specs.Making.{Making, makings}
use Rattle.queue_laws.proofs.ReadSteps.{left_own, other_variable, register_keeps, stored_variable}

-- the name of the n-th object of section i
abbrev pub numbered : ℕ → ℕ → Name
numbered i n = record { section = i; number = n }

-- the name in the identity of the last of so many objects
pub last_name : (i n identity : ℕ) → identity + 1 ≡ i * section_span + n → 0 < n → n ≤ section_span → name_in identity ≡ numbered i (n - 1)
last_name i n identity e some few =
    let section : identity / section_span ≡ i = omega (arith, e, some, few) in
    let number : identity % section_span ≡ n - 1 = omega (arith, e, some, few) in
    name-is (name_in identity) (numbered i (n - 1)) (sym section) (sym number)

module _ (i o : ℕ) (ho : o < 32) (New : Name → Type 0) where
  -- the variable has a new object of the section
  abbrev pub HasNew : Option Name → Type 0
  HasNew a = (name : Name) × (a ≡ Some name) × (name.section ≡ i) × New name

  has_same : (a b : Option Name) → b ≡ a → HasNew a → HasNew b
  has_same a b e p = (p.0, e ∙ p.1, p.2, p.3)

  -- what is known of seat i
  pub record Knows (seats : List SeatState) (world : World) (known : Making) : Type 0 where
    pub there : i < length seats
    pub newest : (x : ℕ) → known.newest ≡ Some x → (t : SeatState) → slice_get seats i ≡ Some t → t.spent ≡ false → (c : ℕ) × (x ≡ suc c) × (last_made t.cache ≡ Some c) × New (numbered i (t.made - 1))
    pub fresh : known.fresh ≡ true → HasNew (variable_of world i o)

  -- after a step of another seat
  pub other_next : (c : Core) (j : ℕ) (s : SeatState) (step : Step) (world : World) (known : Making) → Taken c j s step → i ≢ j → Knows c.seats world known → Knows (seats_left c j s step) (world_by c.shape (words_of c.shape c.words) s step world) known
  other_next c j s step world known k n a =
      let after : World = world_by c.shape (words_of c.shape c.words) s step world in
      let kept : variable_of after i o ≡ variable_of world i o = section_stays (λ (y : WorldSection). slice_index_or y.variables o None) (λ y objects. refl) c j s step world i k n in
      let long = seated-left c j s step in
      record {
        there = let now = a.there in omega (arith, long, now);
        newest = λ x e t at live. a.newest x e t (other_stays c j i s t step k n a.there at live) live;
        fresh = λ e. has_same (variable_of world i o) (variable_of after i o) kept (a.fresh e);
      }

  module _ (c : Core) (s : SeatState) (step : Step) (world : World) (known : Making) (k : Taken c i s step) (a : Knows c.seats world known) where
    there_next : i < length (seats_left c i s step)
    there_next = let long = seated-left c i s step in let now = a.there in omega (arith, long, now)

    -- nothing was made last, and the variable is as it was
    forgets : (after : World) → variable_of after i o ≡ variable_of world i o → Knows (seats_left c i s step) after (record { newest = None; fresh = known.fresh })
    forgets after kept =
        record {
          there = there_next;
          newest = λ x e t at live. absurd (none-some x e);
          fresh = λ e. has_same (variable_of world i o) (variable_of after i o) kept (a.fresh e);
        }

  -- a variable is assigned
  assign_next : (c : Core) (s : SeatState) (step : Step) (x r : ℕ) (world : World) (known : Making) → Taken c i s step → moves_section step ≡ true → AgreesWith c world → Knows c.seats world known
      → Knows (seats_left c i s step) (in_section world (own_section s) (with_variable x (referred (words_of c.shape c.words).identities r))) (record { newest = None; fresh = if x == o then is_lent known.newest r else known.fresh })
  assign_next c s step x r world known k moves agrees a =
      record {
        there = there_next c s step world known k a;
        newest = λ y e t at live. absurd (none-some y e);
        fresh = by_fresh (x == o) refl;
      }
    where
      ids : List ℕ
      ids = (words_of c.shape c.words).identities

      mu : Mutates c i s
      mu = mutator_of c i s step k moves

      after : World
      after = in_section world (own_section s) (with_variable x (referred ids r))

      stored : x ≡ o → variable_of after i o ≡ referred ids r
      stored same =
          let inside : i < length world = omega (arith, mu.inside, agrees.sections) in
          let exists : o < length (section_of world i).variables = omega (arith, ho, agrees.variables i mu.inside) in
          subst (λ (z : ℕ). variable_of (in_section world z (with_variable x (referred ids r))) i o ≡ referred ids r) (sym mu.own)
          (subst (λ (z : ℕ). variable_of (in_section world i (with_variable z (referred ids r))) i o ≡ referred ids r) (sym same) (stored_variable world i (referred ids r) o inside exists))

      had : SeatAgrees c.shape (words_of c.shape c.words).identities (words_of c.shape c.words).values world i s
      had = agrees.seats_agree i s k.got mu.inside k.live

      -- the cell made last has the last object
      named : (y : ℕ) → last_made s.cache ≡ Some y → name_at ids y ≡ numbered i (s.made - 1)
      named y e =
          let last = subst (λ (z : Option ℕ). IfSome z (λ m. (slice_index ids m + 1 ≡ i * section_span + s.made) × (0 < s.made))) e had.last in
          let few : s.made ≤ section_span = omega (arith, (seat-formed c i s step k).made, k.core.formed.shaped.objects) in
          last_name i s.made (slice_index ids y) last.0 last.1 few

      lent : (l : Option ℕ) → known.newest ≡ l → is_lent l r ≡ true → x ≡ o → HasNew (variable_of after i o)
      lent None e t same = absurd (false≢true t)
      lent (Some y) e t same =
          let p = a.newest y e s k.got k.live in
          let is : r ≡ suc p.0 = sym (eqb-true y r t) ∙ p.1 in
          (numbered i (s.made - 1), stored same ∙ (ap (referred ids) is ∙ ap (λ (n : Name). Some n) (named p.0 p.2)), refl, p.3)

      by_fresh : (b : Bool) → (x == o) ≡ b → (if b then is_lent known.newest r else known.fresh) ≡ true → HasNew (variable_of after i o)
      by_fresh true e t = lent known.newest refl t (eqb-true x o e)
      by_fresh false e t = has_same (variable_of world i o) (variable_of after i o) (other_variable world (own_section s) (referred ids r) i o x (λ z. eqb-false x o e (sym z))) (a.fresh t)

  -- a part of a new cell is stored
  make_next : (c : Core) (s : SeatState) (x part word : ℕ) (world : World) (known : Making) → Taken c i s (StoreNew x part word) → AgreesWith c world → Knows c.seats world known → ((name : Name) → object_of world name ≡ None → New name)
      → Knows (seats_left c i s (StoreNew x part word)) (in_section world (own_section s) (with_part c.shape.fields part word)) (record { newest = if nat_le part c.shape.fields then None else Some (x + 1); fresh = known.fresh })
  make_next c s x part word world known k agrees a new = by_part (nat_le part c.shape.fields) refl
    where
      step : Step
      step = StoreNew x part word

      g : WorldSection → WorldSection
      g = with_part c.shape.fields part word

      after : World
      after = in_section world (own_section s) g

      kept : variable_of after i o ≡ variable_of world i o
      kept = change_keeps (λ (y : WorldSection). slice_index_or y.variables o None) world (own_section s) i g (λ y. part_variable (nat_lt part c.shape.fields) (part == c.shape.fields) y (record y { coming = word }) (with_new c.shape.fields y) o refl refl)

      mu : Mutates c i s
      mu = mutator_of c i s step k refl

      by_part : (b : Bool) → nat_le part c.shape.fields ≡ b → Knows (seats_left c i s step) after (record { newest = if b then None else Some (x + 1); fresh = known.fresh })
      by_part true e = forgets c s step world known k a after kept
      by_part false e =
          let facts : CacheFacts s.cache = own-fact c i s step (λ (t : SeatState). CacheFacts t.cache) k (all-facts c k.core) in
          let plus : x + 1 ≡ suc x = omega arith in
          let made : length (section_of world i).objects ≡ s.made = (agrees.seats_agree i s k.got mu.inside k.live).made in
          let none : object_of world (numbered i s.made) ≡ None = slice_get_past (section_of world i).objects s.made (omega (arith, made)) in
          record {
            there = there_next c s step world known k a;
            newest =
                λ y f t at live.
                let is = left_own c i s step k t at live in
                let cache = ap (λ (z : SeatState). last_made z.cache) is ∙ ap (λ (b : Bool). last_made (if b then with_making s.cache x (part + 1) else with_made s.cache x)) e in
                let count : t.made ≡ s.made + 1 = ap (λ (z : SeatState). z.made) is ∙ ap (λ (b : Bool). if b then s.made else s.made + 1) e in
                let less : t.made - 1 ≡ s.made = omega (arith, count) in
                (x, sym (same_Some (x + 1) y f) ∙ plus, cache ∙ made_last s.cache x (next-free s.cache x part facts.made_from_free k.ok.1.0), subst (λ (n : ℕ). New (numbered i n)) (sym less) (new (numbered i s.made) none));
            fresh = λ f. has_same (variable_of world i o) (variable_of after i o) kept (a.fresh f);
          }

  -- a step that no log has
  unlogged : (c : Core) (s : SeatState) (step : Step) (world : World) (known : Making) → Taken c i s step → Knows c.seats world known → ((t : SeatState) → slice_get (seats_left c i s step) i ≡ Some t → t.spent ≡ false → t ≡ s) → Knows (seats_left c i s step) world known
  unlogged c s step world known k a same =
      record {
        there = there_next c s step world known k a;
        newest = λ x e t at live. subst (λ (z : SeatState). (y : ℕ) × (x ≡ suc y) × (last_made z.cache ≡ Some y) × New (numbered i (z.made - 1))) (sym (same t at live)) (a.newest x e s k.got k.live);
        fresh = a.fresh;
      }

  -- after a step of the own seat
  pub own_next : (c : Core) (s : SeatState) (step : Step) (world : World) (known : Making) → Taken c i s step → AgreesWith c world → Knows c.seats world known → ((name : Name) → object_of world name ≡ None → New name)
      → Knows (seats_left c i s step) (world_by c.shape (words_of c.shape c.words) s step world) (makings c.shape.fields o known (entries_of c (Some s) step))
  own_next c s (StoreField x j y) world known k agrees a new = forgets c s (StoreField x j y) world known k a _ (object_keeps (λ (z : WorldSection). slice_index_or z.variables o None) (λ z objects. refl) world (variable_of world (own_section s) x) _ i)
  own_next c s (StoreValue x m) world known k agrees a new = forgets c s (StoreValue x m) world known k a _ (object_keeps (λ (z : WorldSection). slice_index_or z.variables o None) (λ z objects. refl) world (variable_of world (own_section s) x) _ i)
  own_next c s (ExchangeValue x m l) world known k agrees a new = forgets c s (ExchangeValue x m l) world known k a _ (object_keeps (λ (z : WorldSection). slice_index_or z.variables o None) (λ z objects. refl) world (variable_of world (own_section s) x) _ i)
  own_next c s (ExchangeField x j y q) world known k agrees a new =
      record {
        there = there_next c s (ExchangeField x j y q) world known k a;
        newest = λ z e t at live. absurd (none-some z e);
        fresh =
            λ e.
            has_same (variable_of world i o) _ (object_keeps (λ (z : WorldSection). slice_index_or z.variables o None) (λ z objects. refl) world (variable_of world (own_section s) x) _ i)
            (a.fresh (and_parts known.fresh _ e).0);
      }
  own_next c s (ReadOwn x j) world known k agrees a new = forgets c s (ReadOwn x j) world known k a _ (register_keeps world (own_section s) _ i o)
  own_next c s (ReadCat x) world known k agrees a new = forgets c s (ReadCat x) world known k a _ (register_keeps world (own_section s) _ i o)
  own_next c s (ReadSlot x) world known k agrees a new = forgets c s (ReadSlot x) world known k a _ (register_keeps world (own_section s) _ i o)
  own_next c s (ReadWeak x) world known k agrees a new = forgets c s (ReadWeak x) world known k a _ (register_keeps world (own_section s) _ i o)
  own_next c s (StoreSlot x r) world known k agrees a new = forgets c s (StoreSlot x r) world known k a _ (other_variable world (own_section s) _ i o (32 + x) (λ z. omega (arith, z, ho)))
  own_next c s (StoreRoot x r) world known k agrees a new = assign_next c s (StoreRoot x r) x r world known k refl agrees a
  own_next c s (HoldRoot x r) world known k agrees a new = assign_next c s (HoldRoot x r) x r world known k refl agrees a
  own_next c s (StoreNew x part word) world known k agrees a new = make_next c s x part word world known k agrees a new
  own_next c s Split world known k agrees a new = unlogged c s Split world known k a (λ t at live. left_own c i s Split k t at live)
  own_next c s (Join other) world known k agrees a new = unlogged c s (Join other) world known k a (λ t at live. left_own c i s (Join other) k t at live)
  own_next c s step world known k agrees a new = forgets c s step world known k a world refl
