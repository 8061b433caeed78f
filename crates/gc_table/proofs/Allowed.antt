-- Each step that a seat may take keeps the rule.
use Rattle.std.proofs.Common.{ℕ, ◌≡◌, ◌≢◌, ◌+◌, ◌<◌, List, [], ◌∷◌, ◌++◌, set, arith, refl, sym, ap, ◌∙◌, subst, ⊎_elim, Bool, cond, true≢false, length-set}
use Rattle.std.specs.Prelude.{slice_index, slice_get, IsTrue, IsFalse, Contains}
use mathlib.Core.Option.{some}
use Rattle.std.proofs.lemmas.List.{set-get_or}
use lib.ListN.{get_elem?}
use Rattle.atomic_table.specs.Table.{State, keeps, stepped, Allows}
use Rattle.atomic_table.proofs.Lists.{at_set, set_again}
use Rattle.mark_core.specs.Layout.{address}
use Rattle.mark_core.specs.Effects.{place, written, seat_after}
use Rattle.mark_core.specs.Steps.{Core}
use Rattle.mark_core.specs.Notes.{steady, keeps_bound}
use Rattle.mark_core.specs.declared.kinds.Shape.{Shape}
use Rattle.mark_core.specs.declared.kinds.Step.{Step}
use Rattle.gc_table.specs.declared.view.View.{View}
use Rattle.gc_table.specs.Notes.{noting}
use Rattle.gc_table.specs.Rule.{record_of, records_from, IsState, Agrees, Holds, IsPossible}
use Rattle.gc_table.specs.Seen.{Begins, OneHistory, Learns, Recalls, Saw, StepsOn, rank, seats_in, seats_of, sees, WereAll}
use Rattle.gc_table.specs.declared.view.TokenState.{TokenState}
use Rattle.gc_table.proofs.Tokens.{Kept, begins-more, begins-on, begins-self, history-set, recalls-all, seats-get, seats-set, set-got}
use Rattle.gc_table.specs.Operations.{MayTake, Token, Writes}
use Rattle.gc_table.specs.Taking.{after, May, IsOwn, IsBlind}
use Rattle.gc_table.specs.declared.seat.Heap.{Heap}
use Rattle.gc_table.proofs.Records.{found-else, record-live, records-set}
use Rattle.plain_heap.specs.declared.operation.Op.{Op}
use Rattle.gc_table.specs.Sections.{section_after}
use Rattle.gc_table.specs.TableState.{TableState, start_state}
use Rattle.gc_table.specs.Rule.{table_state}
use Rattle.gc_table.specs.Taking.{Asked}
use Rattle.gc_table.specs.Reads.{Reads}
use Rattle.gc_table.proofs.State.StateReads.{reads-true}
use Rattle.gc_table.proofs.Leaving.{Takes, allowed, finds, found-there, left_whole, left-words, left-seats, left-shape, left-state, own-agrees, own-fits, other-agrees, spent-stays}
use Rattle.mark_core.specs.Start.{spent_seat}
use Rattle.mark_core.specs.declared.kinds.Event.{Event}
use Rattle.mark_core.specs.declared.seat.SeatState.{SeatState}
use Rattle.gc_table.specs.declared.view.Entry.{Entry}
use Rattle.gc_table.specs.Entries.{event, is_store}
use Rattle.gc_table.specs.Past.{word_told, IsLogOf, IsLogged}
use Rattle.gc_table.specs.Rule.{core_of}
use Rattle.gc_table.proofs.History.Moments.{leads-on}
use Rattle.gc_table.proofs.History.Past.{led-on, log-other, log-own, own-logged}
use Rattle.gc_table.proofs.State.StateSteps.{some-same}

abbrev pub St : Type 0
St = State (Unit {0}) View

zero-plus : (n : ℕ) → 0 + n ≡ n
zero-plus n = omega arith

-- the rule after a step, if the seat's view is then w
pub rule-kept : (sh : Shape) (plan : List (List Op)) (s : St) (id : ℕ) (v w : View) (step : Step) (o : Holds sh plan s) (t : Takes (table_state sh plan o.sections s) id v step) → get_elem? s.views id ≡ some v → IsFalse w.state.spent → w.opened ≡ v.opened → (told : ℕ) → told ≡ word_told (core_of sh s) v.state step → w.log ≡ v.log ++ event step told ∷ [] → w.logs ≡ v.logs
    → w.state ≡ seat_after sh v.state step (finds (table_state sh plan o.sections s) id v step t) → Agrees (left_whole (table_state sh plan o.sections s) id v step t) id w
    → Kept sh plan (stepped s (address sh (place sh v.state step)) (written sh v.state step (finds (table_state sh plan o.sections s) id v step t)) id [] w keeps) (o.past ++ record { seat = id; step = step } ∷ [])
rule-kept sh plan s id v w step o t me live same told is_told log logs state agrees =
    let x : TableState = table_state sh plan o.sections s in
    let d : TableState = left_whole x id v step t in
    let s' : St = stepped s (address sh (place sh v.state step)) (written sh v.state step (finds x id v step t)) id [] w keeps in
    let words : s'.words ≡ d.core.words = sym (left-words x id v step t) in
    let seats : records_from sh 0 s'.views ≡ d.core.seats = records-set sh 0 s.views id w ∙ (ap (λ (n : ℕ). set (records_from sh 0 s.views) id (record_of sh n w)) (zero-plus id) ∙ ap (set (records_from sh 0 s.views) id) (record-live sh id w live ∙ state) ∙ sym (left-seats x id v step t)) in
    let is : table_state sh plan d.sections s' ≡ d = (λ y. record { core = record { shape = sym (left-shape x id v step t) y; words = words y; seats = seats y }; plan = plan; sections = d.sections }) in
    let e : Event = record { seat = id; step = step } in
    let mine : IsLogged sh o.past x.core id v = o.logged id v me t.live in
    -- a seat that was joined into another is none that takes a step
    let still : (k : ℕ) (l : List Entry) → IsLogOf sh o.past x.core k l → IsLogOf sh (o.past ++ e ∷ []) (core_of sh s') k l = λ k l q.
    let far : k ≢ id = λ y. true≢false (ap (λ (z : SeatState). z.spent) (some-same (spent_seat sh k) v.state (sym q.1 ∙ (ap (slice_get x.core.seats) y ∙ t.agrees.seat))) ∙ t.live) in (
      q.0 ∙ sym (log-other sh o.past x.core e k o.led (λ y. far (sym y))),
      ap (λ xs. slice_get xs k) (seats ∙ left-seats x id v step t) ∙ (found-else x.core.seats id k (seat_after sh v.state step (finds x id v step t)) far ∙ q.1),
    ) in (
      record {
        past = o.past ++ e ∷ [];
        led = led-on sh o.past x.core (core_of sh s') e o.led (own-fits step t.own) (allowed x id v step t) (ap (λ (y : TableState). y.core) (sym is));
        came = leads-on o.past e (start_state sh plan 1) x (table_state sh plan d.sections s') o.came o.whole (allowed x id v step t) (sym is);
        logged = λ j u h l.
            ⊎_elim
            (λ (p : (j ≡ id) × (w ≡ u)). subst (λ (q : ℕ × View). IsLogged sh (o.past ++ e ∷ []) (core_of sh s') q.0 q.1) (λ y. (sym p.0 y, p.1 y))
            (record {
              log = log ∙ ((λ y. mine.log y ++ event step (is_told y) ∷ []) ∙ sym (log-own sh o.past x.core e v.state o.led t.agrees.seat (own-logged step t.own)));
              logs = λ k m i. still k m (mine.logs k m (subst (λ xs. Contains xs (k, m)) logs i));
            }))
            (λ (p : (j ≢ id) × (get_elem? s.views j ≡ some u)).
            let b = o.logged j u p.1 l in
            record { log = b.log ∙ sym (log-other sh o.past x.core e j o.led (λ y. p.0 (sym y))); logs = λ k m i. still k m (b.logs k m i) })
            (at_set s.views id j w u h);
        sections = d.sections;
        whole = subst IsState (sym is) (left-state x id v step t);
        each = λ j u h l.
            ⊎_elim
            (λ (p : (j ≡ id) × (w ≡ u)). subst (λ (q : TableState × ℕ × View). Agrees q.0 q.1 q.2) (λ y. (sym is y, sym p.0 y, p.1 y)) agrees)
            (λ (p : (j ≢ id) × (get_elem? s.views j ≡ some u)). subst (λ (q : TableState). Agrees q j u) (sym is) (other-agrees x id v step t j u p.0 (o.each j u p.1 l)))
            (at_set s.views id j w u h);
        opened = λ u h.
            ⊎_elim
            (λ (p : (0 ≡ id) × (w ≡ u)). ap (λ (y : View). y.opened) (sym p.1) ∙ (same ∙ (o.opened v (ap (get_elem? s.views) p.0 ∙ me) ∙ sym (length-set s.views id w))))
            (λ (p : (0 ≢ id) × (get_elem? s.views 0 ≡ some u)). o.opened u p.1 ∙ sym (length-set s.views id w))
            (at_set s.views id 0 w u h);
      },
      refl,
    )

-- the view after a step, if the word that it is told tells as much as the word that was there
pub after-agrees : (x : TableState) (i : ℕ) (v : View) (step : Step) (t : Takes x i v step) (n : ℕ) → seat_after v.shape v.state step n ≡ seat_after v.shape v.state step (finds x i v step t)
    → written v.shape v.state step n ≡ written v.shape v.state step (finds x i v step t) → Agrees (left_whole x i v step t) i (after step n v)
after-agrees x i v step t n state word =
    let c : Core = x.core in
    let P : Shape → Type 0 = λ sh. (seat_after sh v.state step n ≡ seat_after sh v.state step (finds x i v step t)) × (written sh v.state step n ≡ written sh v.state step (finds x i v step t)) × (place v.shape v.state step ≡ place sh v.state step) × (seat_after v.shape v.state step n ≡ seat_after sh v.state step n) × (written v.shape v.state step n ≡ written sh v.state step n) in
    let q : P c.shape = subst P t.agrees.shape (state, word, refl, refl, refl) in
    own-agrees x i v step t (after step n v) t.agrees.shape (q.3 ∙ q.0)
    (λ y. noting (steady (seat_after v.shape v.state step n)) (q.2 y) ((q.4 ∙ q.1) y) v.known)
    (λ y. noting (λ at m. keeps_bound (seat_after v.shape v.state step n) at) (q.2 y) ((q.4 ∙ q.1) y) v.floors)
    n refl q.0
    refl (λ y. section_after (t.agrees.shape y) (t.agrees.plan y) v.state step v.own) refl

-- a step that is told n, if n tells as much as the word that was there
takes-told : (sh : Shape) (plan : List (List Op)) (s : St) (id : ℕ) (v : View) (step : Step) (at word n : ℕ) (carried : List (ℕ × Unit {0})) (o : Holds sh plan s) (t : Takes (table_state sh plan o.sections s) id v step) → get_elem? s.views id ≡ some v → at ≡ address sh (place sh v.state step)
    → word ≡ written sh v.state step (finds (table_state sh plan o.sections s) id v step t) → seat_after v.shape v.state step n ≡ seat_after v.shape v.state step (finds (table_state sh plan o.sections s) id v step t)
    → written v.shape v.state step n ≡ written v.shape v.state step (finds (table_state sh plan o.sections s) id v step t) → n ≡ word_told (core_of sh s) v.state step → carried ≡ [] → Kept sh plan (stepped s at word id carried (after step n v) keeps) (o.past ++ record { seat = id; step = step } ∷ []) × IsPossible (after step n v)
takes-told sh plan s id v step at word n carried o t here there is state left_there told bare =
    let x : TableState = table_state sh plan o.sections s in
    let w : View = after step n v in
    let live : IsFalse w.state.spent = spent-stays v.shape v.state step n ∙ t.live in
    let agrees : Agrees (left_whole x id v step t) id w = after-agrees x id v step t n state left_there in
    let record_is : w.state ≡ seat_after sh v.state step (finds x id v step t) = state ∙ ap (λ (y : Shape). seat_after y v.state step (finds x id v step t)) t.agrees.shape in
    let kept : Kept sh plan (stepped s (address sh (place sh v.state step)) (written sh v.state step (finds x id v step t)) id [] w keeps) (o.past ++ record { seat = id; step = step } ∷ []) = rule-kept sh plan s id v w step o t here live refl n told refl refl record_is agrees in (
      subst (λ (y : ℕ × ℕ × List (ℕ × Unit {0})). Kept sh plan (stepped s y.0 y.1 id y.2 w keeps) (o.past ++ record { seat = id; step = step } ∷ [])) (λ y. (sym there y, sym is y, sym bare y)) kept,
      record { state = left_whole x id v step t; index = id; whole = left-state x id v step t; agrees = agrees; live = live },
    )

-- a token of a seat takes the step of its seat
step_on : (sh : Shape) (plan : List (List Op)) (s : State (Unit {0}) TokenState) (o : OneHistory sh plan s) (id at word : ℕ) (m : TokenState × List (ℕ × Unit {0})) (w : View) (es : List Event) → get_elem? s.views id ≡ some m.0 → IsFalse m.0.stamp → IsFalse w.state.spent
    → Kept sh plan (stepped (seats_in s) at word (rank s.views id) m.1 w keeps) es → Begins o.holds.past es → OneHistory sh plan (stepped s at word id m.1 (sees m.0 w es) keeps) × Recalls (sees m.0 w es)
step_on sh plan s o id at word m w es me seat live kept on =
    let k : TokenState = m.0 in
    let l : TokenState = sees k w es in
    let s' : State (Unit {0}) TokenState = stepped s at word id m.1 l keeps in
    let views : seats_of (set s.views id l) ≡ set (seats_of s.views) (rank s.views id) w = seats-set s.views id k l me seat seat in
    let kept' : Kept sh plan (seats_in s') es = subst (λ (vs : List View). Kept sh plan (record { words = s'.words; homes = s'.homes; views = vs }) es) (sym views) kept in
    let got : get_elem? (set s.views id l) id ≡ some l = set-got s.views id k l me in (
      history-set sh plan s s' o id l es refl kept' on (begins-self es) (λ fs c. begins-on fs o.holds.past es (o.heard id k fs me c) on),
      recalls-all sh plan (seats_in s') kept'.0 (rank (set s.views id l) id) l (seats-get (set s.views id l) id l got seat) live kept'.1,
    )

pub allows : (sh : Shape) (plan : List (List Op)) (slots id : ℕ) (m : TokenState × List (ℕ × Unit {0})) (step : Step) (at : ℕ) (f : ℕ → ℕ) → m.1 ≡ [] → IsFalse m.0.stamp → IsFalse m.0.view.state.spent → at ≡ address m.0.view.shape (place m.0.view.shape m.0.view.state step) → ((n : ℕ) → written m.0.view.shape m.0.view.state step n ≡ f n) → IsFalse (is_store step) → IsOwn step
    → May step m.0.view → Asked step m.0.view → Allows (OneHistory sh plan) slots id m at f (λ found a. (a ≡ (sees m.0 (after step found m.0.view) a.0.seen, [])) × IsPossible a.0.view × Recalls a.0 × Saw step found m.0 a.0)
allows sh plan slots id m step at f bare seat live here does reads own may asked s k _ me small =
    let v : View = m.0.view in
    let o : Holds sh plan (seats_in s) = k.holds in
    let j : ℕ = rank s.views id in
    let got : get_elem? (seats_of s.views) j ≡ some v = seats-get s.views id m.0 me seat in
    let x : TableState = table_state sh plan o.sections (seats_in s) in
    let ag : Agrees x j v = o.each j v got live in
    let t : Takes x j v step = record { whole = o.whole; agrees = ag; live = live; ok = may x j o.whole ag; own = own; asked = asked } in
    let there : at ≡ address sh (place sh v.state step) = here ∙ ap (λ (y : Shape). address y (place y v.state step)) ag.shape in
    let n : ℕ = slice_index s.words at in
    let same : n ≡ finds x j v step t = ap (slice_index s.words) there in
    let is : f n ≡ written sh v.state step (finds x j v step t) = sym (does n) ∙ ap (λ (y : Shape). written y v.state step n) ag.shape ∙ ap (written sh v.state step) same in
    let r = takes-told sh plan (seats_in s) j v step at (f n) n m.1 o t got there is (ap (seat_after v.shape v.state step) same) (ap (written v.shape v.state step) same) (same ∙ sym (ap (λ (b : Bool). cond b (written sh v.state step 0) (finds x j v step t)) reads)) bare in
    let e : Event = record { seat = j; step = step } in
    let es : List Event = o.past ++ e ∷ [] in
    let q = step_on sh plan s k id at (f n) m (after step n v) es me seat (spent-stays v.shape v.state step n ∙ live) r.0 (begins-more o.past o.past e (begins-self o.past)) in (
      sees m.0 (after step n v) es,
      keeps,
      tt,
      q.0,
      (
        ap (λ (l : List (ℕ × Unit {0})). (sees m.0 (after step n v) es, l)) bare,
        r.1,
        q.1,
        (
          record {
            state = x;
            index = j;
            whole = o.whole;
            agrees = ag;
            word = sym (found-there x j v step t) ∙ sym same;
            reads = subst (λ (k : ℕ). Reads step k v) (sym same) (reads-true x j v step o.whole ag live t.ok);
            allowed = allowed x j v step t;
            past = o.past;
            led = o.led;
            came = o.came;
            logged = o.logged j v got live;
          },
          k.seen id m.0 me,
          refl,
        ),
      ),
    )

pub allows-store : (sh : Shape) (plan : List (List Op)) (slots id : ℕ) (m : TokenState × List (ℕ × Unit {0})) (step : Step) (at new : ℕ) → m.1 ≡ [] → IsFalse m.0.stamp → IsFalse m.0.view.state.spent → at ≡ address m.0.view.shape (place m.0.view.shape m.0.view.state step) → ((n : ℕ) → written m.0.view.shape m.0.view.state step n ≡ new) → IsBlind step m.0.view → IsTrue (is_store step)
    → IsOwn step → May step m.0.view → Asked step m.0.view → Allows (OneHistory sh plan) slots id m at (λ _. new) (λ _ a. (a ≡ (sees m.0 (after step new m.0.view) a.0.seen, [])) × IsPossible a.0.view × Recalls a.0 × StepsOn step m.0 a.0)
allows-store sh plan slots id m step at new bare seat live here does blind stores own may asked s k _ me small =
    let v : View = m.0.view in
    let o : Holds sh plan (seats_in s) = k.holds in
    let j : ℕ = rank s.views id in
    let got : get_elem? (seats_of s.views) j ≡ some v = seats-get s.views id m.0 me seat in
    let x : TableState = table_state sh plan o.sections (seats_in s) in
    let ag : Agrees x j v = o.each j v got live in
    let t : Takes x j v step = record { whole = o.whole; agrees = ag; live = live; ok = may x j o.whole ag; own = own; asked = asked } in
    let there : at ≡ address sh (place sh v.state step) = here ∙ ap (λ (y : Shape). address y (place y v.state step)) ag.shape in
    let is : new ≡ written sh v.state step (finds x j v step t) = sym (does (finds x j v step t)) ∙ ap (λ (y : Shape). written y v.state step (finds x j v step t)) ag.shape in
    let r = takes-told sh plan (seats_in s) j v step at new new m.1 o t got there is (blind new (finds x j v step t)).0 (does new ∙ sym (does (finds x j v step t))) (sym (does 0) ∙ (ap (λ (y : Shape). written y v.state step 0) ag.shape ∙ sym (ap (λ (b : Bool). cond b (written sh v.state step 0) (finds x j v step t)) stores))) bare in
    let e : Event = record { seat = j; step = step } in
    let es : List Event = o.past ++ e ∷ [] in
    let q = step_on sh plan s k id at new m (after step new v) es me seat (spent-stays v.shape v.state step new ∙ live) r.0 (begins-more o.past o.past e (begins-self o.past)) in (
      sees m.0 (after step new v) es,
      keeps,
      tt,
      q.0,
      (ap (λ (l : List (ℕ × Unit {0})). (sees m.0 (after step new v) es, l)) bare, r.1, q.1, (o.past, k.seen id m.0 me, (j, refl))),
    )

-- a seat puts together what it has seen and what it was told, as it loads a word
pub allows-look : (sh : Shape) (plan : List (List Op)) (slots id : ℕ) (m : TokenState × List (ℕ × Unit {0})) (at : ℕ) → m.1 ≡ [] → IsFalse m.0.stamp → IsFalse m.0.view.state.spent → Allows (OneHistory sh plan) slots id m at (λ n. n) (λ found a. (a ≡ (sees m.0 m.0.view a.0.seen, [])) × Recalls a.0 × Learns m.0 a.0)
allows-look sh plan slots id m at bare seat live s k _ me small =
    let v : View = m.0.view in
    let o : Holds sh plan (seats_in s) = k.holds in
    let got : get_elem? (seats_of s.views) (rank s.views id) ≡ some v = seats-get s.views id m.0 me seat in
    let ag : Agrees (table_state sh plan o.sections (seats_in s)) (rank s.views id) v = o.each (rank s.views id) v got live in
    let words : set s.words at (slice_index s.words at) ≡ s.words = set-get_or s.words at 0 in
    let views : set (seats_of s.views) (rank s.views id) v ≡ seats_of s.views = set_again (seats_of s.views) (rank s.views id) v got in
    let kept : Kept sh plan (stepped (seats_in s) at (slice_index s.words at) (rank s.views id) m.1 v keeps) o.past = subst (λ (p : List ℕ × List View). Kept sh plan (record { words = p.0; homes = s.homes; views = p.1 }) o.past) (λ y. (sym words y, sym views y)) (o, refl) in
    let q = step_on sh plan s k id at (slice_index s.words at) m v o.past me seat live kept (begins-self o.past) in (
      sees m.0 v o.past,
      keeps,
      tt,
      q.0,
      (ap (λ (l : List (ℕ × Unit {0})). (sees m.0 v o.past, l)) bare, q.1, (k.seen id m.0 me, λ es c. k.heard id m.0 es me c, subst (λ (p : Shape × List (List Op)). WereAll p.0 p.1 o.past) (λ y. (sym ag.shape y, sym ag.plan y)) (s, k, refl))),
    )

-- what the table asks of an operation that makes f of the word that it finds
pub allows-found : (sh : Shape) (plan : List (List Op)) (slots id : ℕ) (h : Heap) (t : Token) (word : ℕ) (step : Step) (f : ℕ → ℕ) → MayTake h t word step → Writes step f t.me.0.view → IsFalse (is_store step)
    → (t.table_id ≡ h.table.shared.table_id) × (word < h.table.shared.table_id.words) × Allows (OneHistory sh plan) slots id t.me word f (λ found a. (a ≡ (sees t.me.0 (after step found t.me.0.view) a.0.seen, [])) × IsPossible a.0.view × Recalls a.0 × Saw step found t.me.0 a.0)
allows-found sh plan slots id h t word step f q writes reads = (q.table, q.within, allows sh plan slots id t.me step word f q.bare q.seated q.live q.there writes reads q.own q.may q.asked)

-- what the table asks of an operation that stores a word, whatever it finds
pub allows-stored : (sh : Shape) (plan : List (List Op)) (slots id : ℕ) (h : Heap) (t : Token) (word : ℕ) (step : Step) (new : ℕ) → MayTake h t word step → Writes step (λ _. new) t.me.0.view → IsBlind step t.me.0.view → IsTrue (is_store step)
    → (t.table_id ≡ h.table.shared.table_id) × (word < h.table.shared.table_id.words) × Allows (OneHistory sh plan) slots id t.me word (λ _. new) (λ _ a. (a ≡ (sees t.me.0 (after step new t.me.0.view) a.0.seen, [])) × IsPossible a.0.view × Recalls a.0 × StepsOn step t.me.0 a.0)
allows-stored sh plan slots id h t word step new q writes blind stores = (q.table, q.within, allows-store sh plan slots id t.me step word new q.bare q.seated q.live q.there writes blind stores q.own q.may q.asked)
