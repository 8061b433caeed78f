-- No two logs of a run contradict each other, if no log takes anything back.
use Rattle.std.proofs.Common.{ℕ, zero, suc, ◌≡◌, ◌≢◌, ◌+◌, ◌<◌, ◌≤◌, ◌==◌, ◌&&◌, ◌∙◌, List, [], ◌∷◌, ◌++◌, ap, append_assoc, arith, eqb-true, length, not, refl, subst, sym, ⊎_elim, Bool, true, false, Option, None, Some}
use Rattle.std.specs.Prelude.{nat_lt, slice_index}
use Rattle.std.proofs.lemmas.Bool.{and_parts, cases_eq, cases_lt, eq-eqb, false≢true, true≢false}
use Rattle.std.proofs.lemmas.Option.{same_Some}
use Rattle.plain_heap.specs.Paths.{Name}
use Rattle.mark_core.specs.Bits.{reference_in}
use Rattle.mark_core.specs.Layout.{words_of}
use Rattle.mark_core.specs.Seats.{may_mutate}
use Rattle.mark_core.specs.Steps.{Core, start_core}
use Rattle.mark_core.specs.declared.kinds.Event.{Event}
use Rattle.mark_core.specs.declared.kinds.Shape.{Shape}
use Rattle.mark_core.specs.declared.kinds.Step.{Step}
use Rattle.mark_core.specs.declared.kinds.Step.TheVariants.{ReadOwn, ReadValue}
use Rattle.mark_core.proofs.Blocks.BlocksStopped.{Taken}
use Rattle.gc_table.specs.AgreementLaws.{found_of}
use Rattle.gc_table.specs.Entries.{event}
use Rattle.gc_table.specs.Lending.{RefersTo}
use Rattle.gc_table.specs.Past.{adds, log_of, word_told}
use Rattle.gc_table.specs.RunWorlds.{WorldObject, object_of, own_section, referred, reference_of, variable_of}
use Rattle.gc_table.specs.declared.view.Entry.{Entry}
use Rattle.gc_table.proofs.Counted.{other_adds}
use Rattle.gc_table.proofs.Frame.{Mutates, mutates}
use Rattle.gc_table.proofs.Reading.{none-some, own-found}
use Rattle.heap_laws.specs.Lent.{LentByLog, holds_lent}
use Rattle.heap_laws.specs.Moments.{IsHistory}
use Rattle.heap_laws.specs.Variables.{FindsOf, VariablesRead}
use Rattle.example_orders.specs.Orders.{Contradict, FieldThenValue, OnlyFills, ValueThenField, is_root}
use Rattle.example_orders.specs.Variables.{Variables, after_log, after_step, all_nil}
use Rattle.example_orders.proofs.Filling.{FirstRefers, one-on, refers-on}
use Rattle.example_orders.proofs.Happening.{Happening, core, event_at, heap, known, log, ok, own}
use Rattle.example_orders.proofs.Positions.{Place, entry-is, later-place, place-of}

-- whether variable 0 has what was lent is told as `holds_lent` tells it
lent_is : (k : Variables) (es : List Entry) → (after_log k es).lent ≡ holds_lent 0 0 k.loaded k.lent es
lent_is k [] = refl
lent_is k (e ∷ es) = lent_is (after_step k e.step e.found) es

no_entries : (e : Entry) → [] ≡ e ∷ [] → ⊥
no_entries e is = cc

-- what a word refers to, if it is told whole
nil_told : (ids : List ℕ) (word : ℕ) → reference_in word ≡ word → (reference_in word == 0) ≡ true → referred ids word ≡ None
nil_told ids word whole e = ap (referred ids) (sym whole ∙ eqb-true (reference_in word) 0 e)

some_told : (ids : List ℕ) (word : ℕ) → reference_in word ≡ word → referred ids word ≡ None → (reference_in word == 0) ≡ true
some_told ids word whole none = eq-eqb (reference_in word) 0 (whole ∙ is_nil word none)
  where
    is_nil : (n : ℕ) → referred ids n ≡ None → n ≡ 0
    is_nil zero e = refl
    is_nil (suc n) e = absurd (none-some _ (sym e))

module _ (sh : Shape) (es : List Event) (h : IsHistory sh es) (lent : LentByLog) (reads : VariablesRead) (root : Name) (lends : (k : ℕ) → RefersTo sh es 0 root k) where
  -- an entry of a log, as an event of the run
  record Entered (i : ℕ) (before : List Entry) (step : Step) (word at : ℕ) : Type 0 where
    happens : Happening sh es h at
    within : at < length es
    is_own : happens.event.seat ≡ i
    so_far : log sh es h at i ≡ before
    is : happens.event.step ≡ step
    told : word_told (core sh es h at) happens.seat step ≡ word

  entered : (i : ℕ) (before : List Entry) (e : Entry) (step : Step) (word : ℕ) (p : Place i es (start_core sh 1) before e) → e ≡ event step word → Entered i before step word p.at
  entered i before e step word p told = record { happens = x; within = p.within; is_own = mine; so_far = p.so_far; is = stepped; told = subst (λ (a : Step). word_told (core sh es h p.at) x.seat a ≡ word) stepped found_it }
    where
      x : Happening sh es h p.at
      x = event_at sh es h p.at p.within

      same : x.event ≡ p.event
      same = same_Some x.event p.event (sym x.there ∙ p.there)

      added : adds i (core sh es h p.at) x.event ≡ e ∷ []
      added = ap (adds i (core sh es h p.at)) same ∙ p.adds_it

      mine : x.event.seat ≡ i
      mine = ⊎_elim (λ (s : i ≡ x.event.seat). sym s) (λ (d : i ≢ x.event.seat). absurd (no_entries e (sym (other_adds i (core sh es h p.at) x.event d) ∙ added))) (cases_eq i x.event.seat)

      entry : event x.event.step (word_told (core sh es h p.at) x.seat x.event.step) ≡ event step word
      entry = entry-is (core sh es h p.at) x.seat x.event.step e (sym (own sh es h p.at x) ∙ subst (λ (j : ℕ). adds j (core sh es h p.at) x.event ≡ e ∷ []) (sym mine) added) ∙ told

      stepped : x.event.step ≡ step
      stepped = ap (λ (y : Entry). y.step) entry

      found_it : word_told (core sh es h p.at) x.seat x.event.step ≡ word
      found_it = ap (λ (y : Entry). y.found) entry

  -- what is read by way of variable 0 is the root's
  module _ (i cell : ℕ) (before : List Entry) (step : Step) (word at : ℕ) (e : Entered i before step word at) (by : is_root (after_log all_nil before) cell ≡ true) where
    parts : ((after_log all_nil before).lent ≡ true) × (((after_log all_nil before).first == cell + 1) ≡ true)
    parts = and_parts (after_log all_nil before).lent ((after_log all_nil before).first == cell + 1) by

    names_root : variable_of (heap sh es h at) i 0 ≡ Some root
    names_root = lent sh es h 0 root (omega arith) lends i 0 at (omega arith) (ap (holds_lent 0 0 None false) e.so_far ∙ (sym (lent_is all_nil before) ∙ parts.0))

    word_is : slice_index e.happens.seat.env 0 ≡ cell + 1
    word_is =
        let w = e.within in
        (known sh es h at (omega (arith, w)) e.happens.event.seat).first e.happens.seat e.happens.taken.got e.happens.taken.live
        ∙ (ap (λ (j : ℕ). (after_log all_nil (log sh es h at j)).first) e.is_own ∙ (ap (λ (l : List Entry). (after_log all_nil l).first) e.so_far ∙ eqb-true (after_log all_nil before).first (cell + 1) parts.1))

    taken : Taken (core sh es h at) e.happens.event.seat e.happens.seat step
    taken = subst (λ (a : Step). Taken (core sh es h at) e.happens.event.seat e.happens.seat a) e.is e.happens.taken

    finds : FindsOf (core sh es h at) (heap sh es h at) e.happens.seat step 0 (found_of (core sh es h at) (Some e.happens.seat) step)
    finds =
        subst (λ (a : Step). FindsOf (core sh es h at) (heap sh es h at) e.happens.seat a 0 (found_of (core sh es h at) (Some e.happens.seat) a)) e.is
        (reads (core sh es h at) (heap sh es h at) e.happens.moment e.happens.event e.happens.seat e.happens.allowed e.happens.taken.got 0 (omega arith))

    -- the object of variable 0
    is_the_root : own_section e.happens.seat ≡ e.happens.event.seat → (name : Name) (object : WorldObject) → variable_of (heap sh es h at) (own_section e.happens.seat) 0 ≡ Some name → object_of (heap sh es h at) name ≡ Some object → object_of (heap sh es h at) root ≡ Some object
    is_the_root own_is name object variable there =
        ap (object_of (heap sh es h at)) (same_Some root name (sym names_root ∙ (ap (λ (j : ℕ). variable_of (heap sh es h at) j 0) (sym e.is_own ∙ sym own_is) ∙ variable))) ∙ there

  -- The value.
  record FoundValue (i : ℕ) (before : List Entry) (n at : ℕ) : Type 0 where
    within : at < length es
    object : WorldObject
    there : object_of (heap sh es h at) root ≡ Some object
    value : object.value ≡ n

  value_at : (i cell n : ℕ) (before : List Entry) (at : ℕ) (e : Entered i before (ReadValue cell) n at) → is_root (after_log all_nil before) cell ≡ true → FoundValue i before n at
  value_at i cell n before at e by =
      let t : Taken (core sh es h at) e.happens.event.seat e.happens.seat (ReadValue cell) = taken i cell before (ReadValue cell) n at e by in
      let mu : Mutates (core sh es h at) e.happens.event.seat e.happens.seat = mutates (core sh es h at) e.happens.event.seat e.happens.seat (ReadValue cell) t (and_parts (nat_lt cell (core sh es h at).shape.cells) (may_mutate e.happens.seat) t.ok.0).1 in
      let f = finds i cell before (ReadValue cell) n at e by (word_is i cell before (ReadValue cell) n at e by) in
      record {
        within = e.within;
        object = f.1;
        there = is_the_root i cell before (ReadValue cell) n at e by mu.own f.0 f.1 f.2 f.3;
        value = sym f.4 ∙ e.told;
      }

  -- The field.
  record FoundField (i : ℕ) (before : List Entry) (some : Bool) (at : ℕ) : Type 0 where
    within : at < length es
    object : WorldObject
    there : object_of (heap sh es h at) root ≡ Some object
    nil : some ≡ false → reference_of object 0 ≡ None
    refers : some ≡ true → reference_of object 0 ≡ None → ⊥

  field_at : (i cell word : ℕ) (some : Bool) (before : List Entry) (at : ℕ) (e : Entered i before (ReadOwn cell 0) word at) → is_root (after_log all_nil before) cell ≡ true → some ≡ not (reference_in word == 0) → FoundField i before some at
  field_at i cell word some before at e by is =
      let step : Step = ReadOwn cell 0 in
      let c : Core = core sh es h at in
      let ids : List ℕ = (words_of c.shape c.words).identities in
      let t : Taken c e.happens.event.seat e.happens.seat step = taken i cell before step word at e by in
      let mu : Mutates c e.happens.event.seat e.happens.seat = mutates c e.happens.event.seat e.happens.seat step t (and_parts (nat_lt cell c.shape.cells && nat_lt 0 c.shape.fields) (may_mutate e.happens.seat) t.ok.0).1 in
      let f = finds i cell before step word at e by (word_is i cell before step word at e by) in
      let whole : reference_in word ≡ word = subst (λ (w : ℕ). reference_in w ≡ w) e.told (own-found c e.happens.event.seat e.happens.seat cell 0 (heap sh es h at) t e.happens.moment.agrees).0 in
      let same : referred ids word ≡ reference_of f.1 0 = ap (referred ids) (sym e.told) ∙ f.5 in
      record {
        within = e.within;
        object = f.1;
        there = is_the_root i cell before step word at e by mu.own f.0 f.1 f.2 f.3;
        nil = λ no. sym same ∙ nil_told ids word whole (of_not (reference_in word == 0) (sym is ∙ no));
        refers = λ yes none. not_both (reference_in word == 0) (some_told ids word whole (same ∙ none)) (sym is ∙ yes);
      }
    where
      of_not : (b : Bool) → not b ≡ false → b ≡ true
      of_not true e = refl
      of_not false e = absurd (true≢false e)

      not_both : (b : Bool) → b ≡ true → not b ≡ true → ⊥
      not_both true p q = false≢true q
      not_both false p q = false≢true p

  module _ (fill : (i : ℕ) → OnlyFills (log_of sh es i)) where
    -- who found 0 read before all who found 1
    zero_first : (j k : ℕ) (i g : ℕ) (before other : List Entry) → FoundValue i before 1 j → FoundValue g other 0 k → k < j
    zero_first j k i g before other one none =
        ⊎_elim
        (λ (l : k < j). l)
        (λ (l : j ≤ k).
        let w = none.within in
        let o = one-on sh es h fill root j k l (omega (arith, w)) (one.object, one.there, one.value) in
        let both : 1 ≡ 0 = sym o.2 ∙ (ap (λ (z : WorldObject). z.value) (same_Some o.0 none.object (sym o.1 ∙ none.there)) ∙ none.value) in
        absurd (omega (arith, both)))
        (cases_lt k j)

    -- and who found nil before all who found an object
    nil_first : (j k : ℕ) (i g : ℕ) (before other : List Entry) → FoundField i before true j → FoundField g other false k → k < j
    nil_first j k i g before other some none =
        ⊎_elim
        (λ (l : k < j). l)
        (λ (l : j ≤ k).
        let w = none.within in
        let r = refers-on sh es h fill root j k l (omega (arith, w)) (some.object, some.there, to (reference_of some.object 0) refl) in
        absurd (none-some r.2.0 (sym (none.nil refl) ∙ (ap (λ (z : WorldObject). reference_of z 0) (same_Some none.object r.0 (sym none.there ∙ r.1)) ∙ r.2.1))))
        (cases_lt k j)
      where
        to : (o : Option Name) → reference_of some.object 0 ≡ o → FirstRefers some.object.refs
        to None e = absurd (some.refers refl e)
        to (Some name) e = (name, e)

    pub none-contradict : (i j : ℕ) → Contradict (log_of sh es i) (log_of sh es j) → ⊥
    none-contradict i j both =
        let v : ValueThenField 1 false (log_of sh es i) = both.0 in
        let f : FieldThenValue true 0 (log_of sh es j) = both.1 in
        let start : Core = start_core sh 1 in
        let all = ok sh es h in
        let a : Place i es start v.before v.first = place-of i es start all v.before (v.between ++ v.second ∷ v.after) v.first v.is in
        let b : Place i es start (v.before ++ v.first ∷ v.between) v.second = place-of i es start all (v.before ++ v.first ∷ v.between) v.after v.second (v.is ∙ sym (append_assoc v.before (v.first ∷ v.between) (v.second ∷ v.after))) in
        let c : Place j es start f.before f.first = place-of j es start all f.before (f.between ++ f.second ∷ f.after) f.first f.is in
        let d : Place j es start (f.before ++ f.first ∷ f.between) f.second = place-of j es start all (f.before ++ f.first ∷ f.between) f.after f.second (f.is ∙ sym (append_assoc f.before (f.first ∷ f.between) (f.second ∷ f.after))) in
        let one = value_at i v.value.0 1 v.before a.at (entered i v.before v.first (ReadValue v.value.0) 1 a v.value.1) v.value.2 in
        let nil = field_at i v.field.0 v.field.1 false (v.before ++ v.first ∷ v.between) b.at (entered i (v.before ++ v.first ∷ v.between) v.second (ReadOwn v.field.0 0) v.field.1 b v.field.2) v.field.3 v.field.4 in
        let some = field_at j f.field.0 f.field.1 true f.before c.at (entered j f.before f.first (ReadOwn f.field.0 0) f.field.1 c f.field.2) f.field.3 f.field.4 in
        let zero = value_at j f.value.0 0 (f.before ++ f.first ∷ f.between) d.at (entered j (f.before ++ f.first ∷ f.between) f.second (ReadValue f.value.0) 0 d f.value.1) f.value.2 in
        let ab = later-place i es start v.before v.between v.first v.second a b in
        let cd = later-place j es start f.before f.between f.first f.second c d in
        let da = zero_first a.at d.at i j v.before (f.before ++ f.first ∷ f.between) one zero in
        let bc = nil_first c.at b.at j i f.before (v.before ++ v.first ∷ v.between) some nil in
        omega (arith, ab, cd, da, bc)
