-- A variable's object has the value that the log of its seat tells: one step.
use Rattle.std.proofs.Common.{ℕ, ◌≡◌, ◌≢◌, ◌+◌, ◌*◌, ◌-◌, ◌<◌, ◌≤◌, ◌==◌, suc, List, [], ◌∷◌, ◌++◌, length, arith, refl, sym, ap, ◌∙◌, subst, Bool, true, false, Option, None, Some, eqb-true}
use Rattle.std.specs.Prelude.{if◌then◌else◌, nat_le, nat_lt, replicate, slice_get, slice_index, slice_index_or, IfSome}
use Rattle.std.proofs.lemmas.Bool.{and_parts, eqb-false, false≢true, le-leb, ltb-true}
use Rattle.std.proofs.lemmas.Option.{same_Some}
use Rattle.plain_heap.specs.Paths.{Name}
use Rattle.mark_core.specs.Layout.{words_of}
use Rattle.mark_core.specs.Numbers.{section_span}
use Rattle.mark_core.specs.Seats.{last_made, may_mutate}
use Rattle.mark_core.specs.Steps.{Core}
use Rattle.mark_core.specs.Steps.MutatorSteps.{with_made, with_making}
use Rattle.mark_core.specs.declared.kinds.Step.{Step}
use Rattle.mark_core.specs.declared.kinds.Step.TheVariants.{ExchangeField, ExchangeValue, HoldRoot, Join, ReadCat, ReadOwn, ReadSlot, ReadValue, ReadWeak, Split, StoreField, StoreNew, StoreRoot, StoreSlot, StoreValue}
use Rattle.mark_core.specs.declared.seat.SeatState.{SeatState}
use Rattle.mark_core.proofs.Blocks.BlocksStopped.{Taken, mine as own-fact}
use Rattle.mark_core.proofs.Caches.CachesSeat.{CacheFacts, all-facts, next-free}
use Rattle.mark_core.proofs.Known.{seats_left}
use Rattle.mark_core.proofs.Consequences.WeakKept.{seated-left}
use Rattle.mark_core.proofs.Consequences.WeakTold.{other_stays}
use Rattle.mark_core.proofs.References.ReferencesRoots.{seat-formed}
use Rattle.gc_table.specs.Agreement.{AgreesWith, SeatAgrees}
use Rattle.gc_table.specs.AgreementLaws.{HasValue, found_of}
use Rattle.gc_table.specs.Past.{entries_of}
use Rattle.gc_table.specs.RunWorlds.{World, WorldObject, WorldSection, in_section, name_at, object_of, own_section, referred, section_of, variable_of, with_new, with_object, with_part, with_register, with_variable, world_by}
use Rattle.gc_table.proofs.Frame.{Mutates, mutates}
use Rattle.gc_table.proofs.NewObjects.{made_last}
use Rattle.gc_table.proofs.Reading.{get-added, none-some, section-same}
use Rattle.heap_laws.specs.Lent.{is_lent}
use Rattle.heap_laws.specs.Variables.{FindsOf}
use Rattle.heap_laws.proofs.Sections.{change_keeps, moves_section, mutator_of, object_keeps, part_variable, section_stays}
use Rattle.queue_laws.specs.NumberLogs.{Numbering, assigned_number, first_of, numbering_after, numberings}
use Rattle.queue_laws.proofs.MakeSteps.{last_name, numbered}
use Rattle.queue_laws.proofs.ReadSteps.{left_own, other_variable, register_keeps, stored_variable}

module _ (i o : ℕ) (ho : o < 32) (V : Name → ℕ → Type 0) where
  -- the variable has an object of this value
  abbrev pub HasNumber : Option Name → ℕ → Type 0
  HasNumber a n = (name : Name) × (a ≡ Some name) × V name n

  number_same : (a b : Option Name) (n : ℕ) → b ≡ a → HasNumber a n → HasNumber b n
  number_same a b n e p = (p.0, e ∙ p.1, p.2)

  -- what is known of seat i
  pub record Knows (seats : List SeatState) (world : World) (known : Numbering) : Type 0 where
    pub there : i < length seats
    pub coming : (n : ℕ) → known.coming ≡ Some n → (section_of world i).coming ≡ n
    pub newest : (x : ℕ) → known.newest ≡ Some x → (t : SeatState) → slice_get seats i ≡ Some t → t.spent ≡ false → (c : ℕ) × (x ≡ suc c) × (last_made t.cache ≡ Some c) × ((n : ℕ) → known.coming ≡ Some n → V (numbered i (t.made - 1)) n)
    pub number : (n : ℕ) → known.number ≡ Some n → HasNumber (variable_of world i o) n

  -- after a step of another seat
  pub other_next : (c : Core) (j : ℕ) (s : SeatState) (step : Step) (world : World) (known : Numbering) → Taken c j s step → i ≢ j → Knows c.seats world known → Knows (seats_left c j s step) (world_by c.shape (words_of c.shape c.words) s step world) known
  other_next c j s step world known k n a =
      let after : World = world_by c.shape (words_of c.shape c.words) s step world in
      let kept : variable_of after i o ≡ variable_of world i o = section_stays (λ (y : WorldSection). slice_index_or y.variables o None) (λ y objects. refl) c j s step world i k n in
      let long = seated-left c j s step in
      record {
        there = let now = a.there in omega (arith, long, now);
        coming = λ m e. section_stays (λ (y : WorldSection). y.coming) (λ y objects. refl) c j s step world i k n ∙ a.coming m e;
        newest = λ x e t at live. a.newest x e t (other_stays c j i s t step k n a.there at live) live;
        number = λ m e. number_same (variable_of world i o) (variable_of after i o) m kept (a.number m e);
      }

  module _ (c : Core) (s : SeatState) (step : Step) (world : World) (known : Numbering) (k : Taken c i s step) (a : Knows c.seats world known) where
    there_next : i < length (seats_left c i s step)
    there_next = let long = seated-left c i s step in let now = a.there in omega (arith, long, now)

    -- nothing was made last, and the variable is as it was
    forgets : (after : World) → variable_of after i o ≡ variable_of world i o → (section_of after i).coming ≡ (section_of world i).coming → Knows (seats_left c i s step) after (record known { newest = None })
    forgets after kept coming =
        record {
          there = there_next;
          coming = λ n e. coming ∙ a.coming n e;
          newest = λ x e t at live. absurd (none-some x e);
          number = λ n e. number_same (variable_of world i o) (variable_of after i o) n kept (a.number n e);
        }

    -- besides, nothing is known of its object's value
    drops : (after : World) → (section_of after i).coming ≡ (section_of world i).coming → Knows (seats_left c i s step) after (record known { newest = None; number = None })
    drops after coming =
        record {
          there = there_next;
          coming = λ n e. coming ∙ a.coming n e;
          newest = λ x e t at live. absurd (none-some x e);
          number = λ n e. absurd (none-some n e);
        }

  -- a variable is assigned
  assign_next : (c : Core) (s : SeatState) (step : Step) (x r : ℕ) (world : World) (known : Numbering) → Taken c i s step → moves_section step ≡ true → AgreesWith c world → Knows c.seats world known
      → Knows (seats_left c i s step) (in_section world (own_section s) (with_variable x (referred (words_of c.shape c.words).identities r))) (assigned_number o known x r)
  assign_next c s step x r world known k moves agrees a =
      record {
        there = there_next c s step world known k a;
        coming = λ n e. change_keeps (λ (y : WorldSection). y.coming) world (own_section s) i (with_variable x (referred ids r)) (λ y. refl) ∙ a.coming n e;
        newest = λ y e t at live. absurd (none-some y e);
        number = λ n. by_number n (x == o) refl;
      }
    where
      ids : List ℕ
      ids = (words_of c.shape c.words).identities

      mu : Mutates c i s
      mu = mutator_of c i s step k moves

      after : World
      after = in_section world (own_section s) (with_variable x (referred ids r))

      stored : x ≡ o → variable_of after i o ≡ referred ids r
      stored same =
          let inside : i < length world = omega (arith, mu.inside, agrees.sections) in
          let exists : o < length (section_of world i).variables = omega (arith, ho, agrees.variables i mu.inside) in
          subst (λ (z : ℕ). variable_of (in_section world z (with_variable x (referred ids r))) i o ≡ referred ids r) (sym mu.own)
          (subst (λ (z : ℕ). variable_of (in_section world i (with_variable z (referred ids r))) i o ≡ referred ids r) (sym same) (stored_variable world i (referred ids r) o inside exists))

      had : SeatAgrees c.shape (words_of c.shape c.words).identities (words_of c.shape c.words).values world i s
      had = agrees.seats_agree i s k.got mu.inside k.live

      -- the cell made last has the last object
      last_is : (y : ℕ) → last_made s.cache ≡ Some y → name_at ids y ≡ numbered i (s.made - 1)
      last_is y e =
          let last = subst (λ (z : Option ℕ). IfSome z (λ m. (slice_index ids m + 1 ≡ i * section_span + s.made) × (0 < s.made))) e had.last in
          let few : s.made ≤ section_span = omega (arith, (seat-formed c i s step k).made, k.core.formed.shaped.objects) in
          last_name i s.made (slice_index ids y) last.0 last.1 few

      lent : (n : ℕ) (l : Option ℕ) → known.newest ≡ l → (b : Bool) → is_lent l r ≡ b → (if b then known.coming else None) ≡ Some n → x ≡ o → HasNumber (variable_of after i o) n
      lent n l e false t g same = absurd (none-some n g)
      lent n None e true t g same = absurd (false≢true t)
      lent n (Some y) e true t g same =
          let p = a.newest y e s k.got k.live in
          let is : r ≡ suc p.0 = sym (eqb-true y r t) ∙ p.1 in
          (numbered i (s.made - 1), stored same ∙ (ap (referred ids) is ∙ ap (λ (m : Name). Some m) (last_is p.0 p.2)), p.3 n g)

      by_number : (n : ℕ) (b : Bool) → (x == o) ≡ b → (if b then (if is_lent known.newest r then known.coming else None) else known.number) ≡ Some n → HasNumber (variable_of after i o) n
      by_number n true e t = lent n known.newest refl (is_lent known.newest r) refl t (eqb-true x o e)
      by_number n false e t = number_same (variable_of world i o) (variable_of after i o) n (other_variable world (own_section s) (referred ids r) i o x (λ z. eqb-false x o e (sym z))) (a.number n t)

  -- a part of a new cell is stored
  make_next : (c : Core) (s : SeatState) (x part word : ℕ) (world : World) (known : Numbering) → Taken c i s (StoreNew x part word) → AgreesWith c world → Knows c.seats world known
      → ((name : Name) (n : ℕ) → HasValue (in_section world (own_section s) (with_part c.shape.fields part word)) name n → V name n)
      → Knows (seats_left c i s (StoreNew x part word)) (in_section world (own_section s) (with_part c.shape.fields part word)) (numbering_after c.shape.fields o known (StoreNew x part word) word)
  make_next c s x part word world known k agrees a new =
      record {
        there = there_next c s step world known k a;
        coming = λ n. by_coming n (part == c.shape.fields) refl;
        newest = λ y e. by_part y (nat_le part c.shape.fields) refl e;
        number = λ n e. number_same (variable_of world i o) (variable_of after i o) n kept (a.number n e);
      }
    where
      step : Step
      step = StoreNew x part word

      g : WorldSection → WorldSection
      g = with_part c.shape.fields part word

      after : World
      after = in_section world (own_section s) g

      kept : variable_of after i o ≡ variable_of world i o
      kept = change_keeps (λ (y : WorldSection). slice_index_or y.variables o None) world (own_section s) i g (λ y. part_variable (nat_lt part c.shape.fields) (part == c.shape.fields) y (record y { coming = word }) (with_new c.shape.fields y) o refl refl)

      mu : Mutates c i s
      mu = mutator_of c i s step k refl

      inside : i < length world
      inside = omega (arith, mu.inside, agrees.sections)

      here : section_of after i ≡ g (section_of world i)
      here = subst (λ (z : ℕ). section_of (in_section world z g) i ≡ g (section_of world i)) (sym mu.own) (section-same world i g inside)

      not_less : part ≡ c.shape.fields → nat_lt part c.shape.fields ≡ false
      not_less e = no_less (nat_lt part c.shape.fields) refl
        where
          no_less : (b : Bool) → nat_lt part c.shape.fields ≡ b → b ≡ false
          no_less true f = let less = ltb-true part c.shape.fields f in absurd (omega (arith, less, e))
          no_less false f = refl

      coming_kept : (a2 q : Bool) (n : ℕ) → q ≡ false → (section_of world i).coming ≡ n → (if a2 then section_of world i else if q then record (section_of world i) { coming = word } else with_new c.shape.fields (section_of world i)).coming ≡ n
      coming_kept true q n e f = f
      coming_kept false true n e f = absurd (false≢true (sym e))
      coming_kept false false n e f = f

      by_coming : (n : ℕ) (b : Bool) → (part == c.shape.fields) ≡ b → (if b then Some word else known.coming) ≡ Some n → (section_of after i).coming ≡ n
      by_coming n true e t =
          ap (λ (y : WorldSection). y.coming) here
          ∙ (ap (λ (b : Bool). (if b then section_of world i else if (part == c.shape.fields) then record (section_of world i) { coming = word } else with_new c.shape.fields (section_of world i)).coming) (not_less (eqb-true part c.shape.fields e))
          ∙ (ap (λ (b : Bool). (if b then record (section_of world i) { coming = word } else with_new c.shape.fields (section_of world i)).coming) e ∙ same_Some word n t))
      by_coming n false e t = ap (λ (y : WorldSection). y.coming) here ∙ coming_kept (nat_lt part c.shape.fields) (part == c.shape.fields) n e (a.coming n t)

      past : nat_le part c.shape.fields ≡ false → (nat_lt part c.shape.fields ≡ false) × ((part == c.shape.fields) ≡ false)
      past e = (no_less (nat_lt part c.shape.fields) refl, no_same (part == c.shape.fields) refl)
        where
          no_less : (b : Bool) → nat_lt part c.shape.fields ≡ b → b ≡ false
          no_less true f = let less = ltb-true part c.shape.fields f in absurd (false≢true (sym e ∙ le-leb part c.shape.fields (omega (arith, less))))
          no_less false f = refl

          no_same : (b : Bool) → (part == c.shape.fields) ≡ b → b ≡ false
          no_same true f = let is = eqb-true part c.shape.fields f in absurd (false≢true (sym e ∙ le-leb part c.shape.fields (omega (arith, is))))
          no_same false f = refl

      by_part : (y : ℕ) (b : Bool) → nat_le part c.shape.fields ≡ b → (if b then None else Some (x + 1)) ≡ Some y → (t : SeatState) → slice_get (seats_left c i s step) i ≡ Some t → t.spent ≡ false
          → (d : ℕ) × (y ≡ suc d) × (last_made t.cache ≡ Some d) × ((n : ℕ) → (if part == c.shape.fields then Some word else known.coming) ≡ Some n → V (numbered i (t.made - 1)) n)
      by_part y true e f t at live = absurd (none-some y f)
      by_part y false e f t at live =
          let facts : CacheFacts s.cache = own-fact c i s step (λ (t : SeatState). CacheFacts t.cache) k (all-facts c k.core) in
          let plus : x + 1 ≡ suc x = omega arith in
          let made : length (section_of world i).objects ≡ s.made = (agrees.seats_agree i s k.got mu.inside k.live).made in
          let is = left_own c i s step k t at live in
          let cache = ap (λ (z : SeatState). last_made z.cache) is ∙ ap (λ (b : Bool). last_made (if b then with_making s.cache x (part + 1) else with_made s.cache x)) e in
          let count : t.made ≡ s.made + 1 = ap (λ (z : SeatState). z.made) is ∙ ap (λ (b : Bool). if b then s.made else s.made + 1) e in
          let less : t.made - 1 ≡ s.made = omega (arith, count) in
          let beyond = past e in
          let sect : section_of after i ≡ with_new c.shape.fields (section_of world i) =
          here
          ∙ (ap (λ (b : Bool). if b then section_of world i else if (part == c.shape.fields) then record (section_of world i) { coming = word } else with_new c.shape.fields (section_of world i)) beyond.0
          ∙ ap (λ (b : Bool). if b then record (section_of world i) { coming = word } else with_new c.shape.fields (section_of world i)) beyond.1) in
          let object : WorldObject = record { value = (section_of world i).coming; refs = replicate c.shape.fields None } in
          let there : object_of after (numbered i s.made) ≡ Some object =
          ap (λ (z : WorldSection). slice_get z.objects s.made) sect
          ∙ (ap (λ (m : ℕ). slice_get ((section_of world i).objects ++ object ∷ []) m) (sym made) ∙ get-added (section_of world i).objects object) in (
            x,
            sym (same_Some (x + 1) y f) ∙ plus,
            cache ∙ made_last s.cache x (next-free s.cache x part facts.made_from_free k.ok.1.0),
            λ n g.
                subst (λ (m : ℕ). V (numbered i m) n) (sym less)
                (new (numbered i s.made) n (object, there, a.coming n (sym (ap (λ (b : Bool). if b then Some word else known.coming) beyond.1) ∙ g))),
          )

  -- a value is read
  read_next : (c : Core) (s : SeatState) (x : ℕ) (world : World) (known : Numbering) → Taken c i s (ReadValue x) → Knows c.seats world known → slice_index s.env o ≡ known.word → FindsOf c world s (ReadValue x) o (found_of c (Some s) (ReadValue x))
      → ((name : Name) (n : ℕ) → HasValue world name n → V name n) → Knows (seats_left c i s (ReadValue x)) world (numbering_after c.shape.fields o known (ReadValue x) (found_of c (Some s) (ReadValue x)))
  read_next c s x world known k a word finds old =
      record {
        there = there_next c s (ReadValue x) world known k a;
        coming = a.coming;
        newest = λ y e t at live. absurd (none-some y e);
        number = λ n. by_first n known.number refl;
      }
    where
      read : ℕ
      read = found_of c (Some s) (ReadValue x)

      by_word : (n : ℕ) (b : Bool) → (known.word == x + 1) ≡ b → (if b then Some read else None) ≡ Some n → HasNumber (variable_of world i o) n
      by_word n false e t = absurd (none-some n t)
      by_word n true e t =
          let r = finds (word ∙ eqb-true known.word (x + 1) e) in
          let mu : Mutates c i s = mutates c i s (ReadValue x) k (and_parts (nat_lt x c.shape.cells) (may_mutate s) k.ok.0).1 in
          (r.0, ap (λ (w : ℕ). variable_of world w o) (sym mu.own) ∙ r.2, old r.0 n (r.1, r.3, sym r.4 ∙ same_Some read n t))

      by_first : (n : ℕ) (m : Option ℕ) → known.number ≡ m → first_of m (if known.word == x + 1 then Some read else None) ≡ Some n → HasNumber (variable_of world i o) n
      by_first n (Some m) e t = a.number n (e ∙ t)
      by_first n None e t = by_word n (known.word == x + 1) refl t

  -- a step that no log has
  unlogged : (c : Core) (s : SeatState) (step : Step) (world : World) (known : Numbering) → Taken c i s step → Knows c.seats world known → ((t : SeatState) → slice_get (seats_left c i s step) i ≡ Some t → t.spent ≡ false → t ≡ s) → Knows (seats_left c i s step) world known
  unlogged c s step world known k a same =
      record {
        there = there_next c s step world known k a;
        coming = a.coming;
        newest =
            λ x e t at live.
            subst (λ (z : SeatState). (y : ℕ) × (x ≡ suc y) × (last_made z.cache ≡ Some y) × ((n : ℕ) → known.coming ≡ Some n → V (numbered i (z.made - 1)) n)) (sym (same t at live)) (a.newest x e s k.got k.live);
        number = a.number;
      }

  object_variable : (world : World) (to : Option Name) (f : WorldObject → WorldObject) → variable_of (with_object world to f) i o ≡ variable_of world i o
  object_variable world to f = object_keeps (λ (z : WorldSection). slice_index_or z.variables o None) (λ z objects. refl) world to f i

  object_coming : (world : World) (to : Option Name) (f : WorldObject → WorldObject) → (section_of (with_object world to f) i).coming ≡ (section_of world i).coming
  object_coming world to f = object_keeps (λ (z : WorldSection). z.coming) (λ z objects. refl) world to f i

  register_coming : (world : World) (w : ℕ) (to : Option Name) → (section_of (in_section world w (with_register to)) i).coming ≡ (section_of world i).coming
  register_coming world w to = change_keeps (λ (z : WorldSection). z.coming) world w i (with_register to) (λ z. refl)

  -- after a step of the own seat
  pub own_next : (c : Core) (s : SeatState) (step : Step) (world : World) (known : Numbering) → Taken c i s step → AgreesWith c world → Knows c.seats world known → slice_index s.env o ≡ known.word → FindsOf c world s step o (found_of c (Some s) step)
      → ((name : Name) (n : ℕ) → HasValue world name n → V name n) → ((name : Name) (n : ℕ) → HasValue (world_by c.shape (words_of c.shape c.words) s step world) name n → V name n)
      → Knows (seats_left c i s step) (world_by c.shape (words_of c.shape c.words) s step world) (numberings c.shape.fields o known (entries_of c (Some s) step))
  own_next c s (StoreField x j y) world known k agrees a word finds old new = forgets c s (StoreField x j y) world known k a _ (object_variable world (variable_of world (own_section s) x) _) (object_coming world (variable_of world (own_section s) x) _)
  own_next c s (ExchangeField x j y q) world known k agrees a word finds old new = forgets c s (ExchangeField x j y q) world known k a _ (object_variable world (variable_of world (own_section s) x) _) (object_coming world (variable_of world (own_section s) x) _)
  own_next c s (StoreValue x m) world known k agrees a word finds old new = drops c s (StoreValue x m) world known k a _ (object_coming world (variable_of world (own_section s) x) _)
  own_next c s (ExchangeValue x m l) world known k agrees a word finds old new = drops c s (ExchangeValue x m l) world known k a _ (object_coming world (variable_of world (own_section s) x) _)
  own_next c s (ReadOwn x j) world known k agrees a word finds old new = forgets c s (ReadOwn x j) world known k a _ (register_keeps world (own_section s) _ i o) (register_coming world (own_section s) _)
  own_next c s (ReadCat x) world known k agrees a word finds old new = forgets c s (ReadCat x) world known k a _ (register_keeps world (own_section s) _ i o) (register_coming world (own_section s) _)
  own_next c s (ReadSlot x) world known k agrees a word finds old new = forgets c s (ReadSlot x) world known k a _ (register_keeps world (own_section s) _ i o) (register_coming world (own_section s) _)
  own_next c s (ReadWeak x) world known k agrees a word finds old new = forgets c s (ReadWeak x) world known k a _ (register_keeps world (own_section s) _ i o) (register_coming world (own_section s) _)
  own_next c s (StoreSlot x r) world known k agrees a word finds old new =
      forgets c s (StoreSlot x r) world known k a _ (other_variable world (own_section s) _ i o (32 + x) (λ z. omega (arith, z, ho))) (change_keeps (λ (z : WorldSection). z.coming) world (own_section s) i (with_variable (32 + x) _) (λ z. refl))
  own_next c s (StoreRoot x r) world known k agrees a word finds old new = assign_next c s (StoreRoot x r) x r world known k refl agrees a
  own_next c s (HoldRoot x r) world known k agrees a word finds old new = assign_next c s (HoldRoot x r) x r world known k refl agrees a
  own_next c s (StoreNew x part word) world known k agrees a same finds old new = make_next c s x part word world known k agrees a new
  own_next c s (ReadValue x) world known k agrees a word finds old new = read_next c s x world known k a word finds old
  own_next c s Split world known k agrees a word finds old new = unlogged c s Split world known k a (λ t at live. left_own c i s Split k t at live)
  own_next c s (Join other) world known k agrees a word finds old new = unlogged c s (Join other) world known k a (λ t at live. left_own c i s (Join other) k t at live)
  own_next c s step world known k agrees a word finds old new = forgets c s step world known k a world refl refl
