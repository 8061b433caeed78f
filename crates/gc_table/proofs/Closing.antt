-- The rule holds when a seat takes in another, and says what the words are in the end.
use Rattle.std.proofs.Common.{ℕ, ◌≡◌, ◌≢◌, ◌+◌, List, set, length, refl, sym, ap, ◌∙◌, subst, ⊎_elim, Bool, true, false, Option, Some, None, eqb, length-set}
use Rattle.std.specs.Prelude.{slice_get, slice_index, IsTrue, IsFalse, not, ◌&&◌, is_none}
use Rattle.std.specs.List.{All}
use Rattle.std.proofs.lemmas.Bool.{true≢false, and_parts, and_from, or_from, not_from_false, false_from_ne_true, ne_eqb, eq-eqb}
use Rattle.std.proofs.lemmas.List.{set-get_or}
use mathlib.Core.Option.{some}
use lib.ListN.{get_elem?}
use Rattle.atomic_table.specs.Table.{Final, Seen}
use Rattle.atomic_table.proofs.Lists.{at_set, set_else}
use Rattle.mark_core.specs.Layout.{address}
use Rattle.mark_core.specs.Places.{the_world}
use Rattle.mark_core.specs.Seats.{is_bare, takes_part, empty_handed}
use Rattle.mark_core.specs.Views.{Standing, standing_of, standings}
use Rattle.mark_core.specs.Rules.WorldRules.{IsEmpty, IsCalm, HelpsOnly}
use Rattle.mark_core.specs.Steps.WorldSteps.{has_nothing, may_be_joined, other_has_nothing}
use Rattle.mark_core.specs.Start.{spent_seat}
use Rattle.mark_core.specs.Steps.{Core, after_of, after_event}
use Rattle.mark_core.specs.Laws.{IsCore}
use Rattle.mark_core.proofs.Lagging.{LagsInTurn, idle-lags}
use Rattle.mark_core.proofs.Notes.NotesBeside.{sits, of-sits}
use Rattle.mark_core.proofs.World.WorldReading.{at-standing}
use Rattle.mark_core.specs.declared.kinds.Event.{Event}
use Rattle.mark_core.specs.declared.kinds.Shape.{Shape}
use Rattle.mark_core.specs.declared.kinds.Step.TheVariants.{Join}
use Rattle.mark_core.specs.declared.seat.SeatState.{SeatState}
use Rattle.gc_table.specs.declared.view.View.{View}
use Rattle.std.specs.Prelude.{Contains}
use Rattle.std.proofs.Common.{[], ◌∷◌, ◌++◌, zero, suc, arith}
use Rattle.std.proofs.lemmas.List.Elements.{Contains-append_cases}
use Rattle.plain_heap.specs.declared.operation.Op.{Op}
use Rattle.gc_table.specs.declared.view.SectionState.{SectionState}
use Rattle.gc_table.specs.TableState.{TableState, state_after, start_state}
use Rattle.gc_table.specs.Rule.{records_from, table_state, IsState, HasJoined, Agrees, Holds, IsFinal, nobody, own_entry, takes_in}
use Rattle.gc_table.proofs.Asking.{own-number}
use Rattle.gc_table.proofs.Allowed.{St}
use Rattle.gc_table.proofs.Tokens.{Kept}
use Rattle.gc_table.proofs.Joining.{both-noted}
use Rattle.gc_table.proofs.Opening.{none-in, record-at, still-sections, zero-plus}
use Rattle.gc_table.specs.Past.{IsLogOf, IsLogged, log_of}
use Rattle.gc_table.specs.declared.view.Entry.{Entry}
use Rattle.gc_table.proofs.History.Moments.{leads-on}
use Rattle.gc_table.proofs.History.Past.{led-on, log-still}
use Rattle.gc_table.proofs.Records.{record-live, records-length, records-set, found-here, found-else}
use Rattle.gc_table.proofs.State.StateSteps.{Goes, event, may-happen, sections-left}
use Rattle.gc_table.proofs.State.StateKept.{whole-kept}
use Rattle.gc_table.proofs.Leaving.{some-seat as some_seat}

unset : (b : Bool) → not b ≡ true → b ≡ false
unset true e = absurd (true≢false (sym e))
unset false e = refl

none-there : {A : Type 0} (o : Option A) → o ≡ None → is_none o ≡ true
none-there o e = ap is_none e

-- a seat that is outside the world, its stop and its help has nothing
pub bare-nothing : (c : Core) (i : ℕ) (s : SeatState) → IsCore c → slice_get c.seats i ≡ Some s → is_bare s ≡ true → has_nothing c.shape s ≡ true
bare-nothing c i s core got bare =
    let k = sits c i s got in
    let outer = and_parts (not s.counted && not s.raised) (not s.helping) bare in
    let inner = and_parts (not s.counted) (not s.raised) outer.0 in
    let counted : s.counted ≡ false = unset s.counted inner.0 in
    let raised : s.raised ≡ false = unset s.raised inner.1 in
    let helping : s.helping ≡ false = unset s.helping outer.1 in
    let stands = λ (P : Standing → Type 0) (a : All P (standings c.seats)). subst (λ (x : SeatState). P (standing_of x)) k.is (at-standing P c.seats i s k.within a) in
    let active : s.active ≡ false = false_from_ne_true s.active (λ e. true≢false (sym (stands (λ (x : Standing). IsTrue x.active → IsTrue x.counted) core.sound.world.active_counted e) ∙ counted)) in
    let knows : s.knows ≡ false = false_from_ne_true s.knows (λ e. true≢false (sym (of-sits (λ (x : SeatState). IsTrue x.knows → IsTrue x.raised) c i s k (λ j d h. (core.strong.seats_strong j d h).knows_is_raised) e) ∙ raised)) in
    let admitted : s.admitted ≡ false = false_from_ne_true s.admitted (λ e. true≢false (sym ((stands HelpsOnly core.sound.world.admitted_helps e).0) ∙ helping)) in
    let out : takes_part s ≡ false = or_from _ _ (or_from _ _ active knows) admitted in
    let empty : IsEmpty c.shape s = of-sits (λ (x : SeatState). IsFalse (takes_part x) → IsEmpty c.shape x) c i s k core.sound.world.outside_empty out in
    let calm : IsCalm s = of-sits (λ (x : SeatState). IsFalse x.active → IsCalm x) c i s k core.sound.world.inactive_calm active in
    let shows : s.lags ≡ 0 = idle-lags s active (of-sits LagsInTurn c i s k core.sound.season.lags_in_turn) in
    let hands : empty_handed s ≡ true = and_from _ _ (and_from _ _ (not_from_false _ empty.no_packet) (not_from_false _ empty.no_reservation)) (not_from_false _ empty.no_credit) in
    and_from _ _ (and_from _ _ (and_from _ _ (and_from _ _ (and_from _ _ hands (not_from_false _ empty.no_work)) (none-there s.owes calm.no_card_owed)) (none-there s.cache empty.no_cache)) (none-there s.block empty.no_block)) (and_from _ _ (eq-eqb s.got 0 calm.register_nil) (eq-eqb s.lags 0 shows))

one_in : {A : Type 0} (a b : A) → Contains (a ∷ []) b → a ≡ b
one_in a b (zero, l, e) = e
one_in a b (suc k, l, e) = absurd (omega (arith, l))

-- the section of the seat that is taken in is as its view has it
entry_is : (o : Option ℕ) (x y : SectionState) (w : ℕ) → Contains (own_entry o x) (w, y) → (o ≡ Some w) × (x ≡ y)
entry_is None x y w h = absurd (none-in (w, y) h)
entry_is (Some k) x y w h = let e : (k, x) ≡ (w, y) = one_in (k, x) (w, y) h in (ap (λ (p : ℕ × SectionState). Some p.0) e, ap (λ (p : ℕ × SectionState). p.1) e)

-- a seat takes in another, while both are outside
pub joins : (sh : Shape) (plan : List (List Op)) (id : ℕ) (v : View) (other : ℕ) (w : View) → IsFalse v.state.spent → IsTrue (is_bare v.state) → IsFalse w.state.spent → IsTrue (is_bare w.state) → w.state.number ≢ 0 → (s : St) (o : Holds sh plan s) → get_elem? s.views id ≡ some v → other ≢ id → get_elem? (set s.views id (takes_in v w)) other ≡ some w
    → Kept sh plan (record { words = s.words; homes = s.homes; views = set (set s.views id (takes_in v w)) other nobody }) (o.past ++ event id (Join other) ∷ [])
joins sh plan id v other w live bare live' bare' second s o me apart there' =
    let x : TableState = table_state sh plan o.sections s in
    let c : Core = x.core in
    let there : get_elem? s.views other ≡ some w = sym (set_else s.views id other (takes_in v w) apart) ∙ there' in
    let a : Agrees x id v = o.each id v me live in
    let b : Agrees x other w = o.each other w there live' in
    let far : other ≢ 0 = λ e. second ((o.whole.core.formed.seats other w.state b.seat).number ∙ e) in
    let number : v.state.number ≡ id = (o.whole.core.formed.seats id v.state a.seat).number in
    let first : (not (eqb other v.state.number) && may_be_joined (slice_get c.seats other) && is_bare v.state) ≡ true =
    and_from _ _ (and_from _ _ (ap not (ne_eqb other v.state.number (λ z. apart (z ∙ number)))) (ap may_be_joined b.seat ∙ and_from _ _ (not_from_false _ live') bare')) bare in
    let nothing : (has_nothing sh v.state && other_has_nothing sh (slice_get c.seats other)) ≡ true =
    and_from _ _ (bare-nothing c id v.state o.whole.core a.seat bare) (ap (other_has_nothing sh) b.seat ∙ bare-nothing c other w.state o.whole.core b.seat bare') in
    let g : Goes x id v.state (Join other) = record { whole = o.whole; got = a.seat; live = live; ok = (first, (nothing, tt)); fits = tt; asks = tt } in
    let after : after_event c (event id (Join other)) ≡ after_of c id (Some v.state) (Join other) = ap (λ p. after_of c id p (Join other)) a.seat in
    let sections : (state_after x (event id (Join other))).sections ≡ o.sections = sections-left x id v.state (Join other) g ∙ still-sections v.state.section o.sections in
    let words : set s.words (address sh the_world) (slice_index s.words (address sh the_world)) ≡ s.words = set-get_or s.words (address sh the_world) 0 in
    let both : View = takes_in v w in
    let vs : List View = set (set s.views id both) other nobody in
    let kept : records_from sh 0 (set s.views id both) ≡ set (records_from sh 0 s.views) id v.state = records-set sh 0 s.views id both ∙ ap (set (records_from sh 0 s.views) id) (record-live sh (0 + id) both live) in
    let seats : records_from sh 0 vs ≡ set (set (records_from sh 0 s.views) id v.state) other (spent_seat sh other) =
    records-set sh 0 (set s.views id both) other nobody
    ∙ (λ y. set (kept y) other (spent_seat sh (zero-plus other y))) in
    let gone : (k : ℕ) → slice_get c.seats k ≡ Some (spent_seat sh k) → slice_get (records_from sh 0 vs) k ≡ Some (spent_seat sh k) = λ k h.
    let not_other : k ≢ other = λ e. true≢false (ap (λ (t : SeatState). t.spent) (some_seat (spent_seat sh k) w.state (sym h ∙ (ap (slice_get c.seats) e ∙ b.seat))) ∙ live') in
    let not_own : k ≢ id = λ e. true≢false (ap (λ (t : SeatState). t.spent) (some_seat (spent_seat sh k) v.state (sym h ∙ (ap (slice_get c.seats) e ∙ a.seat))) ∙ live) in
    ap (λ xs. slice_get xs k) seats ∙ (found-else (set c.seats id v.state) other k (spent_seat sh other) not_other ∙ (found-else c.seats id k v.state not_own ∙ h)) in
    let left : TableState = table_state sh plan o.sections (record { words = s.words; homes = s.homes; views = vs }) in
    let joined : (u : View) → HasJoined x u → HasJoined left u = λ u h k y i. let q = h k y i in (q.0, gone k q.1) in
    let core : after_event c (event id (Join other)) ≡ record { shape = sh; words = s.words; seats = records_from sh 0 vs } = after ∙ (λ y. record { shape = sh; words = words y; seats = sym seats y }) in
    let past : List Event = o.past ++ event id (Join other) ∷ [] in
    let silent : (k : ℕ) → log_of sh past k ≡ log_of sh o.past k = λ k. log-still sh o.past c (event id (Join other)) k o.led refl in
    let still : (k : ℕ) (l : List Entry) → IsLogOf sh o.past c k l → IsLogOf sh past left.core k l = λ k l q. (q.0 ∙ sym (silent k), gone k q.1) in
    let mine : IsLogged sh o.past c id v = o.logged id v me live in
    let theirs : IsLogged sh o.past c other w = o.logged other w there live' in
    let ended : slice_get left.core.seats other ≡ Some (spent_seat sh other) = ap (λ xs. slice_get xs other) seats ∙ found-here (set c.seats id v.state) other w.state (spent_seat sh other) (found-else c.seats id other v.state apart ∙ b.seat) in
    let number' : w.state.number ≡ other = (o.whole.core.formed.seats other w.state b.seat).number in
    let both_logs : (k : ℕ) (l : List Entry) → Contains both.logs (k, l) → IsLogOf sh past left.core k l = λ k l i.
    ⊎_elim
    (λ (i : Contains v.logs (k, l)). still k l (mine.logs k l i))
    (λ (i : Contains ((w.state.number, w.log) ∷ w.logs) (k, l)).
    ⊎_elim
    (λ (i : Contains ((w.state.number, w.log) ∷ []) (k, l)).
    let e : (w.state.number, w.log) ≡ (k, l) = one_in (w.state.number, w.log) (k, l) i in
    subst (λ (z : ℕ × List Entry). IsLogOf sh past left.core z.0 z.1) ((λ y. (sym number' y, w.log)) ∙ e) (theirs.log ∙ sym (silent other), ended))
    (λ (i : Contains w.logs (k, l)). still k l (theirs.logs k l i))
    (Contains-append_cases ((w.state.number, w.log) ∷ []) w.logs (k, l) i))
    (Contains-append_cases v.logs ((w.state.number, w.log) ∷ w.logs) (k, l) i) in (
      record {
        sections = o.sections;
        whole = subst IsState (λ y. record { core = core y; plan = plan; sections = sections y }) (whole-kept x id v.state (Join other) g);
        each = λ j u h l.
            let seat = record-at sh vs j u h l in
            ⊎_elim
            (λ (p : (j ≡ other) × (nobody ≡ u)). absurd (true≢false (ap (λ (y : View). y.state.spent) p.1 ∙ l)))
            (λ (p : (j ≢ other) × (get_elem? (set s.views id both) j ≡ some u)).
            ⊎_elim
            (λ (q : (j ≡ id) × (both ≡ u)).
            let mine : HasJoined left both = λ k y i.
            ⊎_elim
            (λ (i : Contains v.joined (k, y)). joined v a.joined k y i)
            (λ (i : Contains (own_entry w.state.section w.own ++ w.joined) (k, y)).
            ⊎_elim
            (λ (i : Contains (own_entry w.state.section w.own) (k, y)).
            let e = entry_is w.state.section w.own y k i in
            let at : k ≡ other = own-number c other k w.state o.whole.core b.seat e.0 in
            (b.own k e.0 ∙ ap Some e.1, ap (λ xs. slice_get xs k) seats ∙ (ap (slice_get (set (set c.seats id v.state) other (spent_seat sh other))) at ∙ (found-here (set c.seats id v.state) other w.state (spent_seat sh other) (found-else c.seats id other v.state apart ∙ b.seat) ∙ ap (λ (m : ℕ). Some (spent_seat sh m)) (sym at)))))
            (λ (i : Contains w.joined (k, y)). joined w b.joined k y i)
            (Contains-append_cases (own_entry w.state.section w.own) w.joined (k, y) i))
            (Contains-append_cases v.joined (own_entry w.state.section w.own ++ w.joined) (k, y) i) in
            subst (λ (z : View). Agrees left j z) q.1 (record { shape = a.shape; seat = seat ∙ ap (λ (z : View). Some z.state) (sym q.1); noted = both-noted x.core v w a.noted b.noted; floored = a.floored; fetched = a.fetched; stopped = a.stopped; plan = a.plan; own = a.own; joined = mine }))
            (λ (q : (j ≢ id) × (get_elem? s.views j ≡ some u)). let z = o.each j u q.1 l in record { shape = z.shape; seat = seat; noted = z.noted; floored = z.floored; fetched = z.fetched; stopped = z.stopped; plan = z.plan; own = z.own; joined = joined u z.joined })
            (at_set s.views id j both u p.1))
            (at_set (set s.views id both) other j nobody u h);
        past = past;
        led = led-on sh o.past c left.core (event id (Join other)) o.led tt (may-happen x id v.state (Join other) g) core;
        came = leads-on o.past (event id (Join other)) (start_state sh plan 1) x left o.came o.whole (may-happen x id v.state (Join other) g) (λ y. record { core = core y; plan = plan; sections = sections y });
        logged = λ j u h l.
            ⊎_elim
            (λ (p : (j ≡ other) × (nobody ≡ u)). absurd (true≢false (ap (λ (y : View). y.state.spent) p.1 ∙ l)))
            (λ (p : (j ≢ other) × (get_elem? (set s.views id both) j ≡ some u)).
            ⊎_elim
            (λ (q : (j ≡ id) × (both ≡ u)). subst (λ (z : ℕ × View). IsLogged sh past left.core z.0 z.1) (λ y. (sym q.0 y, q.1 y)) (record { log = mine.log ∙ sym (silent id); logs = both_logs }))
            (λ (q : (j ≢ id) × (get_elem? s.views j ≡ some u)). let b = o.logged j u q.1 l in record { log = b.log ∙ sym (silent j); logs = λ k m i. still k m (b.logs k m i) })
            (at_set s.views id j both u p.1))
            (at_set (set s.views id both) other j nobody u h);
        opened = λ u h.
            let long : length vs ≡ length s.views = length-set (set s.views id both) other nobody ∙ length-set s.views id both in
            ⊎_elim
            (λ (p : (0 ≡ other) × (nobody ≡ u)). absurd (far (sym p.0)))
            (λ (p : (0 ≢ other) × (get_elem? (set s.views id both) 0 ≡ some u)).
            ⊎_elim
            (λ (q : (0 ≡ id) × (both ≡ u)). ap (λ (y : View). y.opened) (sym q.1) ∙ (o.opened v (ap (get_elem? s.views) q.0 ∙ me) ∙ sym long))
            (λ (q : (0 ≢ id) × (get_elem? s.views 0 ≡ some u)). o.opened u q.1 ∙ sym long)
            (at_set s.views id 0 both u p.1))
            (at_set (set s.views id both) other 0 nobody u h);
      },
      refl,
    )

-- the words in the end, and what the last seat's view says of all sections
pub closes : (sh : Shape) (plan : List (List Op)) (id : ℕ) (v : View) (ws : List ℕ) (xs : List (Unit {0})) → IsFalse v.state.spent → (f : Final (Seen (Holds sh plan) id v) ws xs) → (g : IsFinal v ws) × (g.past ≡ f.1.0.past)
closes sh plan id v ws xs live f =
    let s = f.0 in
    let o = f.1.0 in
    let agrees = o.each id v f.1.1 live in (
      record {
        state = table_state sh plan o.sections s;
        whole = o.whole;
        words = f.2;
        index = id;
        agrees = agrees;
        past = o.past;
        led = o.led;
        came = o.came;
        logged = o.logged id v f.1.1 live;
        opened = λ zero_is.
            let first : id ≡ 0 = sym ((o.whole.core.formed.seats id v.state agrees.seat).number) ∙ zero_is in
            o.opened v (ap (get_elem? s.views) (sym first) ∙ f.1.1) ∙ sym (records-length sh 0 s.views);
      },
      refl,
    )
