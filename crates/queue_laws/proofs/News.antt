-- What a seat put in is there, so what was made since it last exchanged a field isn't among it.
use Rattle.std.proofs.Common.{ℕ, ◌≡◌, ◌≢◌, ◌⊎◌, ◌+◌, ◌-◌, ◌<◌, ◌≤◌, ◌==◌, ◌&&◌, ◌||◌, zero, suc, List, [], ◌∷◌, ◌++◌, append_assoc, take, length, not, arith, refl, sym, ap, ◌∙◌, subst, Bool, true, false, Option, None, Some, eq-eqb, eqb-true, inl, inr, ne_eqb, ⊎_elim}
use Rattle.std.specs.Prelude.{if◌then◌else◌, nat_le}
use Rattle.std.proofs.lemmas.Bool.{and_from, and_parts, cases_eq, false_from_ne_true, false≢true, leb-true, ltb-true, not-true, or_cases, or_left, or_right, true≢false}
use Rattle.std.proofs.lemmas.List.{append-nil, append_cancel_left}
use Rattle.plain_heap.specs.Paths.{Name}
use Rattle.mark_core.specs.Layout.{words_of}
use Rattle.mark_core.specs.Steps.{Core, run_of}
use Rattle.mark_core.specs.Steps.MutatorSteps.{in_variables}
use Rattle.mark_core.specs.declared.kinds.Event.{Event}
use Rattle.mark_core.specs.declared.kinds.Step.{Step}
use Rattle.mark_core.specs.declared.kinds.Step.TheVariants.{ExchangeField, Join, Split}
use Rattle.mark_core.specs.declared.seat.SeatState.{SeatState}
use Rattle.mark_core.proofs.Blocks.BlocksStopped.{Taken}
use Rattle.gc_table.specs.AgreementLaws.{FindsReference, found_of, world_of}
use Rattle.gc_table.specs.Entries.{is_logged}
use Rattle.gc_table.specs.Past.{adds, entries_of, log_from, word_told}
use Rattle.gc_table.specs.RunWorlds.{World, WorldObject, followed, is_same, object_of, own_section, referred, stored, variable_of}
use Rattle.gc_table.specs.declared.view.Entry.{Entry}
use Rattle.gc_table.proofs.Counted.{own_adds}
use Rattle.gc_table.proofs.Exchanges.{Compares, compares}
use Rattle.gc_table.proofs.Reached.{along}
use Rattle.gc_table.proofs.Reading.{none-some}
use Rattle.gc_table.proofs.Winning.{finds-reference}
use Rattle.heap_laws.specs.Labels.{field_of}
use Rattle.heap_laws.specs.Named.{through}
use Rattle.heap_laws.specs.Pairs.{is_source}
use Rattle.heap_laws.proofs.SplitLogs.{split_log}
use Rattle.heap_laws.proofs.Values.{value-next}
use Rattle.queue_laws.specs.Making.{IsNew, gives, gives_none}
use Rattle.queue_laws.specs.QueueLogs.{FitsQueue, Hands, advances, fits, follows, is_callers, links}
use Rattle.queue_laws.specs.Queues.{Item, Queue, by_seat, heap_at, is_in, is_node_at, item_of, nodes_of, put_by, put_of, puts, value_of, wins}
use Rattle.queue_laws.proofs.Chains.{by_append, in_snoc, nodes_append}
use Rattle.queue_laws.proofs.FitSteps.{At, at, fit, nil}
use Rattle.queue_laws.proofs.Happening.{gathered_next}
use Rattle.queue_laws.proofs.LinkLogs.{IsLink, link_parts}
use Rattle.queue_laws.proofs.Moves.{no_last, no_second}
use Rattle.queue_laws.proofs.Tries.{cell_there}

-- what is among a seat's is among all
own_in : (i : ℕ) (xs : List Item) (name : Name) → is_in (nodes_of (by_seat i xs)) name ≡ true → is_in (nodes_of xs) name ≡ true
own_in i [] name e = e
own_in i (x ∷ xs) name e = by_same (x.seat == i) e (λ f. own_in i xs name f)
  where
    by_same : (b : Bool) → is_in (nodes_of (if b then x ∷ by_seat i xs else by_seat i xs)) name ≡ true → (is_in (nodes_of (by_seat i xs)) name ≡ true → is_in (nodes_of xs) name ≡ true) → is_in (nodes_of (x ∷ xs)) name ≡ true
    by_same true f rest =
        ⊎_elim
        (λ (t : is_same (Some x.node) (Some name) ≡ true). or_left (is_same (Some x.node) (Some name)) (is_in (nodes_of xs) name) t)
        (λ (t : is_in (nodes_of (by_seat i xs)) name ≡ true). or_right (is_same (Some x.node) (Some name)) (is_in (nodes_of xs) name) (rest t))
        (or_cases (is_same (Some x.node) (Some name)) (is_in (nodes_of (by_seat i xs)) name) f)
    by_same false f rest = or_right (is_same (Some x.node) (Some name)) (is_in (nodes_of xs) name) (rest f)

-- an item of another seat isn't among a seat's
pub others_none : (i j : ℕ) (w : World) (o : Option Name) → i ≢ j → by_seat i (item_of w j o) ≡ []
others_none i j w None d = refl
others_none i j w (Some name) d =
    let item : Item = record { seat = j; node = name; number = value_of (object_of w name) } in
    ap (λ (b : Bool). if b then item ∷ [] else []) (ne_eqb j i (λ z. d (sym z)))

-- the entries of one list and of another one
quiet_split : (o : ℕ) (xs ys : List Entry) → gives_none o (xs ++ ys) ≡ true → (gives_none o xs ≡ true) × (gives_none o ys ≡ true)
quiet_split o [] ys e = (refl, e)
quiet_split o (x ∷ xs) ys e =
    let p = and_parts (not (gives o x.step x.found)) (gives_none o (xs ++ ys)) e in
    let r = quiet_split o xs ys p.1 in
    (and_from (not (gives o x.step x.found)) (gives_none o xs) p.0 r.0, r.1)

quiet_step : (o : ℕ) (c : Core) (s : SeatState) (step : Step) → gives_none o (entries_of c (Some s) step) ≡ true → gives o step (word_told c s step) ≡ false
quiet_step o c s Split e = refl
quiet_step o c s (Join other) e = refl
quiet_step o c s step e = not-true (gives o step (word_told c s step)) (and_parts (not (gives o step (word_told c s step))) true e).0

-- an exchange of field 0 that fits links or advances
pub zero_kinds : (fields : ℕ) (s : SeatState) (h : Hands) (log : List Entry) (v f : ℕ) (x y : Option ℕ) → f ≡ 0 → fits fields s h log (ExchangeField v f x y) ≡ true → (links fields s h log v f x y ≡ true) ⊎ (advances s h log v f x y ≡ true)
zero_kinds fields s h log v f x y none e =
    ⊎_elim
    (λ (t : nat_le 2 f ≡ true). absurd (let low = leb-true 2 f t in omega (arith, low, none)))
    (λ (t : (links fields s h log v f x y || (advances s h log v f x y || follows s h log v f y)) ≡ true).
    ⊎_elim
    (λ (u : links fields s h log v f x y ≡ true). inl u)
    (λ (u : (advances s h log v f x y || follows s h log v f y) ≡ true).
    ⊎_elim
    (λ (w : advances s h log v f x y ≡ true). inr w)
    (λ (w : follows s h log v f y ≡ true). absurd (let one : f ≡ 1 = eqb-true f 1 (and_parts (f == 1) _ (and_parts (v == h.queue) _ w).1).0 in omega (arith, one, none)))
    (or_cases (advances s h log v f x y) (follows s h log v f y) u))
    (or_cases (links fields s h log v f x y) (advances s h log v f x y || follows s h log v f y) t))
    (or_cases (nat_le 2 f) (links fields s h log v f x y || (advances s h log v f x y || follows s h log v f y)) e)

no_reference : (ids : List ℕ) (word : ℕ) → (word == 0) ≡ false → is_same (referred ids word) None ≡ false
no_reference ids zero e = absurd (true≢false e)
no_reference ids (suc n) e = refl

module _ (q : Queue) (c : Core) (world : World) (es : List Event) (h : Hands) (p : FitsQueue q c world es h) where
  abbrev core : ℕ → Core
  core k = run_of (take k es) c

  abbrev heap : ℕ → World
  heap k = heap_at c world es k

  abbrev log : ℕ → ℕ → List Entry
  log i k = log_from i c (take k es)

  abbrev put : ℕ → List Item
  put k = puts q c world es k

  module _ (k : ℕ) (x : At q c world es h p k) where
    abbrev given : Option Name
    given = put_by q (heap k) (own_section x.seat) x.event.step

    put_is : put (suc k) ≡ put k ++ item_of (heap k) x.event.seat given
    put_is = gathered_next (put_of q) es c world p.begins.run.allowed k x.event x.there ∙ ap (λ (o : Option SeatState). put k ++ put_of q (heap k) x.event.seat o x.event.step) x.act.got

    -- an exchange that doesn't give the own node puts nothing in
    lost : (v f : ℕ) (y z : Option ℕ) → x.event.step ≡ ExchangeField v f y z → gives h.own (ExchangeField v f y z) (word_told (core k) x.seat (ExchangeField v f y z)) ≡ false → put_by q (heap k) (own_section x.seat) (ExchangeField v f y z) ≡ None
    lost v f y z is quiet =
        ⊎_elim
        (λ (one : f ≡ 0).
        ⊎_elim (linked one) advanced
        (zero_kinds c.shape.fields x.first h (log x.event.seat k) v f y z one (subst (λ (s : Step). fits c.shape.fields x.first h (log x.event.seat k) s ≡ true) is (fit q c world es h p k x (ap is_logged is)))))
        (λ (d : f ≢ 0).
        ap (λ (b : Bool). if (b && (is_node_at q (variable_of (heap k) (own_section x.seat) v) && wins (heap k) (own_section x.seat) v f y)) then stored (heap k) (own_section x.seat) z else None) (ne_eqb f 0 d))
        (cases_eq f 0)
      where
        act : Taken (core k) x.event.seat x.seat (ExchangeField v f y z)
        act = subst (λ (s : Step). Taken (core k) x.event.seat x.seat s) is x.act

        r : Compares (core k) x.event.seat x.seat v f y z (heap k)
        r = compares (core k) x.event.seat x.seat v f y z (heap k) act x.agrees

        finds : FindsReference (core k) (heap k) x.seat v f y z (found_of (core k) (Some x.seat) (ExchangeField v f y z))
        finds = finds-reference (core k) x.event.seat x.seat v f y z (heap k) act x.agrees

        advanced : advances x.first h (log x.event.seat k) v f y z ≡ true → put_by q (heap k) (own_section x.seat) (ExchangeField v f y z) ≡ None
        advanced a =
            let at_queue : v ≡ h.queue = eqb-true v h.queue (and_parts (v == h.queue) _ a).0 in
            let none_of : f ≡ 0 = eqb-true f 0 (and_parts (f == 0) _ (and_parts (v == h.queue) _ a).1).0 in
            let low : is_callers x.event.step ≡ false = ap is_callers is ∙ false_from_ne_true (nat_le 2 f) (λ t. let two = leb-true 2 f t in omega (arith, two, none_of)) in
            let named : variable_of (heap k) (own_section x.seat) v ≡ Some q.object =
            ap (λ (n : ℕ). variable_of (heap k) n v) r.mutator.own ∙ (ap (variable_of (heap k) x.event.seat) at_queue ∙ p.names k x.event v x.there (ap through is) low) in
            let none : is_node_at q (variable_of (heap k) (own_section x.seat) v) ≡ false = ap (is_node_at q) named ∙ p.begins.apart in
            ap (λ (b : Bool). if ((f == 0) && (b && wins (heap k) (own_section x.seat) v f y)) then stored (heap k) (own_section x.seat) z else None) none
            ∙ ap (λ (b : Bool). if b then stored (heap k) (own_section x.seat) z else None) (no_second (f == 0) (wins (heap k) (own_section x.seat) v f y))

        linked : f ≡ 0 → links c.shape.fields x.first h (log x.event.seat k) v f y z ≡ true → put_by q (heap k) (own_section x.seat) (ExchangeField v f y z) ≡ None
        linked one e =
            let l : IsLink h v f y z c.shape.fields x.first (log x.event.seat k) = link_parts h v f y z c.shape.fields x.first (log x.event.seat k) e in
            let expected : stored (heap k) (own_section x.seat) y ≡ None =
            ap (λ (n : ℕ). stored (heap k) n y) r.mutator.own ∙ (ap (stored (heap k) x.event.seat) l.expects ∙ nil q c world es h p k x (ap is_logged is) r.mutator l.saw) in
            let source : is_source z (Some h.own) ≡ true = ap (λ (o : Option ℕ). is_source o (Some h.own)) l.gives ∙ eq-eqb h.own h.own refl in
            let some : (word_told (core k) x.seat (ExchangeField v f y z) == 0) ≡ false =
            false_from_ne_true (word_told (core k) x.seat (ExchangeField v f y z) == 0)
            (λ t. true≢false (sym (and_from (f == 0) _ (eq-eqb f 0 one) (and_from (is_source z (Some h.own)) (word_told (core k) x.seat (ExchangeField v f y z) == 0) source t)) ∙ quiet)) in
            let fails : wins (heap k) (own_section x.seat) v f y ≡ false =
            ap (λ (o : Option Name). is_same (field_of (heap k) o f) (stored (heap k) (own_section x.seat) y)) finds.variable
            ∙ (ap (λ (o : Option WorldObject). is_same (followed o f) (stored (heap k) (own_section x.seat) y)) finds.there
            ∙ (ap (λ (o : Option Name). is_same o (stored (heap k) (own_section x.seat) y)) (sym finds.found)
            ∙ (ap (λ (o : Option Name). is_same (referred (words_of (core k).shape (core k).words).identities (found_of (core k) (Some x.seat) (ExchangeField v f y z))) o) expected
            ∙ no_reference (words_of (core k).shape (core k).words).identities (found_of (core k) (Some x.seat) (ExchangeField v f y z)) some))) in
            ap (λ (b : Bool). if ((f == 0) && (is_node_at q (variable_of (heap k) (own_section x.seat) v) && b)) then stored (heap k) (own_section x.seat) z else None) fails
            ∙ ap (λ (b : Bool). if b then stored (heap k) (own_section x.seat) z else None) (no_last (f == 0) (is_node_at q (variable_of (heap k) (own_section x.seat) v)))

    quiet_none : (a : Step) → x.event.step ≡ a → gives h.own a (word_told (core k) x.seat a) ≡ false → put_by q (heap k) (own_section x.seat) a ≡ None
    quiet_none (ExchangeField v f y z) is e = lost v f y z is e
    quiet_none a is e = refl

    -- an event that doesn't give the own node adds nothing to what its seat put in
    quiet_put : (i : ℕ) → gives_none h.own (adds i (core k) x.event) ≡ true → by_seat i (put (suc k)) ≡ by_seat i (put k)
    quiet_put i quiet =
        ap (by_seat i) put_is
        ∙ (by_append i (put k) (item_of (heap k) x.event.seat given) ∙ (ap (λ (l : List Item). by_seat i (put k) ++ l) none ∙ append-nil (by_seat i (put k))))
      where
        none : by_seat i (item_of (heap k) x.event.seat given) ≡ []
        none =
            ⊎_elim
            (λ (same : i ≡ x.event.seat).
            let entries : adds i (core k) x.event ≡ entries_of (core k) (Some x.seat) x.event.step = ap (λ (j : ℕ). adds j (core k) x.event) same ∙ own_adds (core k) x.event x.seat x.act.got in
            let still = quiet_step h.own (core k) x.seat x.event.step (subst (λ (l : List Entry). gives_none h.own l ≡ true) entries quiet) in
            ap (λ (o : Option Name). by_seat i (item_of (heap k) x.event.seat o)) (quiet_none x.event.step refl still))
            (λ (d : i ≢ x.event.seat). others_none i x.event.seat (heap k) given d)
            (cases_eq i x.event.seat)

    -- an object is there after the event
    there_next : (name : Name) (object : WorldObject) → object_of (heap k) name ≡ Some object → (o : WorldObject) × (object_of (heap (suc k)) name ≡ Some o)
    there_next name object there =
        let r = value-next (core k) x.event x.seat (heap k) name object x.act.got there in
        (r.0, ap (λ (z : World). object_of z name) (x.after ∙ sym (ap (λ (o : Option SeatState). world_of (core k) o x.event.step (heap k)) x.act.got)) ∙ r.1)

    -- what is put in is there
    given_there : (a : Step) → x.event.step ≡ a → (name : Name) → put_by q (heap k) (own_section x.seat) a ≡ Some name → (o : WorldObject) × (object_of (heap k) name ≡ Some o)
    given_there (ExchangeField v f y z) is name e =
        let act : Taken (core k) x.event.seat x.seat (ExchangeField v f y z) = subst (λ (s : Step). Taken (core k) x.event.seat x.seat s) is x.act in
        let r : Compares (core k) x.event.seat x.seat v f y z (heap k) = compares (core k) x.event.seat x.seat v f y z (heap k) act x.agrees in
        stored_there z r.new_exists (by_test _ e)
      where
        by_test : (b : Bool) → (if b then stored (heap k) (own_section x.seat) z else None) ≡ Some name → stored (heap k) (own_section x.seat) z ≡ Some name
        by_test true g = g
        by_test false g = absurd (none-some name g)

        stored_there : (o : Option ℕ) → in_variables o ≡ true → stored (heap k) (own_section x.seat) o ≡ Some name → (object : WorldObject) × (object_of (heap k) name ≡ Some object)
        stored_there None low g = absurd (none-some name g)
        stored_there (Some u) low g =
            let act : Taken (core k) x.event.seat x.seat (ExchangeField v f y z) = subst (λ (s : Step). Taken (core k) x.event.seat x.seat s) is x.act in
            let r : Compares (core k) x.event.seat x.seat v f y z (heap k) = compares (core k) x.event.seat x.seat v f y z (heap k) act x.agrees in
            let inside : own_section x.seat < (core k).shape.sections = omega (arith, r.mutator.own, r.mutator.inside) in
            let sections = x.agrees.sections in
            let long = x.agrees.variables (own_section x.seat) inside in
            let below : u < 32 = ltb-true u 32 low in
            cell_there (core k) (heap k) name (along (core k) (heap k) name [] x.act.core x.agrees (own_section x.seat, u, omega (arith, inside, sections), omega (arith, below, long), g))
    given_there a is name e = absurd (none-some name e)

    in_next : (o : Option Name) → given ≡ o → (name : Name) → is_in (nodes_of (put k ++ item_of (heap k) x.event.seat o)) name ≡ true → (is_in (nodes_of (put k)) name ≡ true) ⊎ (given ≡ Some name)
    in_next None e name i = inl (subst (λ (l : List Item). is_in (nodes_of l) name ≡ true) (append-nil (put k)) i)
    in_next (Some new) e name i =
        ⊎_elim (λ (t : is_in (nodes_of (put k)) name ≡ true). inl t) (λ (t : new ≡ name). inr (e ∙ ap (λ (n : Name). Some n) t))
        (in_snoc (nodes_of (put k)) new name (subst (λ (l : List Name). is_in l name ≡ true) (nodes_append (put k) (item_of (heap k) x.event.seat (Some new))) i))

  -- each node that was put in is there
  exist : (k : ℕ) → k ≤ length es → (name : Name) → is_in (nodes_of (put k)) name ≡ true → (o : WorldObject) × (object_of (heap k) name ≡ Some o)
  exist zero l name e = absurd (false≢true e)
  exist (suc k) l name e =
      let x : At q c world es h p k = at q c world es h p k (omega (arith, l)) in
      let before : (o : WorldObject) × (object_of (heap k) name ≡ Some o) =
      ⊎_elim
      (λ (t : is_in (nodes_of (put k)) name ≡ true). exist k (omega (arith, l)) name t)
      (λ (t : put_by q (heap k) (own_section x.seat) x.event.step ≡ Some name). given_there k x x.event.step refl name t)
      (in_next k x (put_by q (heap k) (own_section x.seat) x.event.step) refl name (subst (λ (ps : List Item). is_in (nodes_of ps) name ≡ true) (put_is k x) e)) in
      there_next k x name before.0 before.1

  -- what a seat put in since a moment, if its log has exchanged no field
  since : (i j m : ℕ) → j + m ≤ length es → (mid : List Entry) × (log i (j + m) ≡ log i j ++ mid) × (gives_none h.own mid ≡ true → by_seat i (put (j + m)) ≡ by_seat i (put j))
  since i j zero l =
      let same : j + 0 ≡ j = omega arith in
      ([], ap (log i) same ∙ sym (append-nil (log i j)), λ t. ap (λ (n : ℕ). by_seat i (put n)) same)
  since i j (suc m) l =
      let same : j + suc m ≡ suc (j + m) = omega arith in
      let x : At q c world es h p (j + m) = at q c world es h p (j + m) (omega (arith, l)) in
      let r = since i j m (omega (arith, l)) in
      let new : List Entry = adds i (core (j + m)) x.event in (
        r.0 ++ new,
        ap (log i) same
            ∙ ((split_log i es c p.begins.run.allowed (j + m) x.event x.there).more ∙ (ap (λ (l : List Entry). l ++ new) r.1 ∙ append_assoc (log i j) r.0 new)),
        λ t.
            let both = quiet_split h.own r.0 new t in
            ap (λ (n : ℕ). by_seat i (put n)) same ∙ (quiet_put (j + m) x i both.1 ∙ r.2 both.0),
      )

  unused_by : (i k m : ℕ) → k ≤ length es → (name : Name) (n : IsNew c world es i h.own k name) → n.moment + m ≡ k → is_in (nodes_of (by_seat i (put k))) name ≡ false
  unused_by i k m l name n same =
      let low = n.before in
      let r = since i n.moment m (omega (arith, same, l)) in
      let mid : r.0 ≡ n.since = append_cancel_left (log i n.moment) r.0 n.since (sym r.1 ∙ (ap (log i) same ∙ n.log)) in
      let puts_same : by_seat i (put k) ≡ by_seat i (put n.moment) = ap (λ (z : ℕ). by_seat i (put z)) (sym same) ∙ r.2 (ap (gives_none h.own) mid ∙ n.quiet) in
      false_from_ne_true (is_in (nodes_of (by_seat i (put k))) name)
      (λ t.
      let there = exist n.moment (omega (arith, low, l)) name (own_in i (put n.moment) name (subst (λ (ps : List Item). is_in (nodes_of ps) name ≡ true) puts_same t)) in
      none-some there.0 (sym n.none ∙ there.1))

  pub unused : (i k : ℕ) → k ≤ length es → (name : Name) → IsNew c world es i h.own k name → is_in (nodes_of (by_seat i (put k))) name ≡ false
  unused i k l name n = unused_by i k (k - n.moment) l name n (let low = n.before in omega (arith, low))
