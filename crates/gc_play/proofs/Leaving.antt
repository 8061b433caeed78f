-- The seats, as a play left them.
use Rattle.std.proofs.Common.{ℕ, zero, suc, ◌≡◌, ◌+◌, ◌-◌, ◌*◌, ◌<◌, ⊎_elim, inl, inr, List, [], ◌∷◌, length, map, get_or, refl, sym, ap, ◌∙◌, subst, arith}
use Rattle.plain_heap.specs.Sections.{Sections, end_of}
use Rattle.plain_heap.specs.PlainRun.{plain, printed_before}
use Rattle.play_report.specs.Report.{printed_of}
use Rattle.play_report.specs.declared.report.Said.{Said}
use Rattle.gc_table.specs.declared.view.Place.{Place}
use Rattle.gc_table.specs.Seats.{view_of}
use Rattle.gc_table.specs.declared.seat.Heap.{Heap}
use Rattle.gc_table.specs.declared.seat.HeapSeat.{HeapSeat}
use Rattle.play_report.specs.declared.report.Part.{Part}
use Rattle.play_end.specs.Done.{HasPlayed}
use Rattle.play_end.specs.Ended.{CameTo}
use Rattle.play_end.proofs.Doing.{waiting-stops}
use Rattle.warehouse.specs.declared.mutator.Mutator.{Mutator}
use Rattle.gc_play.specs.declared.season.Ended.{Ended}
use Rattle.gc_play.specs.declared.season.Ended.TheVariants.{Done, First, Later}
use Rattle.gc_play.specs.Standing.{IsSeated}
use Rattle.gc_play.specs.Dealing.{StandsAt, WarehouseStopsAt, HaltsAt, seat_number}
use Rattle.gc_play.specs.declared.crew.Crew.{Crew}
use Rattle.gc_play.specs.Crews.{AreSaid, CameIn, CatalogueAt, WarehouseEndsAt, HandsOver, IsSeatLeftBy, KnowsEnd, PlayEnds, SaysOfSection, SettlesEnd, SomeKnows, SomeSeatKnows, own_of, seat_in}
use Rattle.gc_play.specs.declared.crew.Catalogue.{Catalogue}
use Rattle.gc_play.specs.declared.crew.Catalogue.TheVariants.{Playing, Absent}
use Rattle.gc_play.proofs.Catalogues.{absent-end}
use Rattle.gc_play.proofs.Handing.{some-ahead, some-first}
use Rattle.gc_table.specs.Rule.{KnowsFull}
use Rattle.plain_heap.specs.PlainHeap.{Heap as PlainHeap, empty_heap}
use Rattle.plain_heap.proofs.Turns.{at-start, at-start-printed}
use Rattle.std.specs.Prelude.{IsTrue}

halts-seated : (h : Heap) (s : Sections) (z : ℕ) (m : Mutator) → HaltsAt h s z m → IsSeated h s (seat_number m) m.seat
halts-seated h s z m e = ⊎_elim (λ (x : StandsAt h s (z - 1) m). x.played.seated) (λ y. ⊎_elim (λ (x : StandsAt h s z m). x.played.seated) (λ (x : WarehouseStopsAt h s z m). x.stopped.seated) y) e

ends-seated : (r : Ended) (h : Heap) (s : Sections) (z : ℕ) (m : Mutator) → WarehouseEndsAt r h s z m → IsSeated h s (seat_number m) m.seat
ends-seated Done h s z m e = e.played.seated
ends-seated First h s z m e = e.played.seated
ends-seated Later h s z m e = halts-seated h s z m e

halts-came : (h : Heap) (s : Sections) (z : ℕ) (m : Mutator) → 0 < z → HaltsAt h s z m → CameTo s (seat_number m) z (view_of m.seat).own
halts-came h s z m season e =
    ⊎_elim (λ (x : StandsAt h s (z - 1) m). inr (end_of s (seat_number m) (z - 1), waiting-stops s (seat_number m) z (view_of m.seat).own season x.played.after.played))
    (λ y. ⊎_elim (λ (x : StandsAt h s z m). inl x.played.after.played) (λ (x : WarehouseStopsAt h s z m). inr (x.stopped.at, x.stopped.stopped)) y) e

ends-came : (r : Ended) (h : Heap) (s : Sections) (z w : ℕ) (m : Mutator) → 0 < z → seat_number m ≡ suc w → WarehouseEndsAt r h s z m → CameIn r s z (suc w) (view_of m.seat).own
ends-came Done h s z w m season num e = subst (λ k. HasPlayed s k z (view_of m.seat).own) num e.played.after.played
ends-came First h s z w m season num e = subst (λ k. HasPlayed s k (z - 1) (view_of m.seat).own) num e.played.after.played
ends-came Later h s z w m season num e = subst (λ k. CameTo s k z (view_of m.seat).own) num (halts-came h s z m season e)

-- a seat that a warehouse hands back
pub warehouse-left : (r : Ended) (h : Heap) (s : Sections) (z w : ℕ) (m : Mutator) (x : HeapSeat) → 0 < z → x ≡ m.seat → seat_number m ≡ suc w → WarehouseEndsAt r h s z m → IsSeatLeftBy r h s z (suc w) x
warehouse-left r h s z w m x season same num e =
    subst (IsSeatLeftBy r h s z (suc w)) (sym same)
    (let q : IsSeated h s (suc w) m.seat = subst (λ k. IsSeated h s k m.seat) num (ends-seated r h s z m e) in
    record {
      sits = q.rests.sits;
      number = q.number;
      outside = q.rests.outside;
      of_section = λ _. record { section = q.section; plan_is = q.plan_is; came = ends-came r h s z w m season num e };
    })

-- what its player hands back besides is its part of the report
pub warehouse-says : (r : Ended) (h : Heap) (s : Sections) (z w : ℕ) (m : Mutator) (x : HeapSeat) (p : Part) → x ≡ m.seat → p.said.items ≡ m.said.items → p.places.items ≡ m.places.items → p.dropped ≡ m.dropped → seat_number m ≡ suc w → WarehouseEndsAt r h s z m → SaysOfSection r s z (suc w) x p
warehouse-says Done h s z w m x p same said places dropped num e =
    let q = e.played.after.after.said in
    record {
      said_is = ap (λ (v : List Said). map printed_of v) said ∙ (q.said_is ∙ ap (λ k. printed_before s k (end_of s k z)) num);
      dropped_is = dropped ∙ (q.dropped_is ∙ ap (λ k. (plain s k (end_of s k z)).dropped) num);
      cells_are = places ∙ (q.cells_are ∙ ap (λ (y : HeapSeat). map (λ (o : Place). o.cell) (view_of y).own.places) (sym same));
    }
warehouse-says First h s z w m x p same said places dropped num e = tt
warehouse-says Later h s z w m x p same said places dropped num e = tt

crew-seated : (r : Ended) (h : Heap) (s : Sections) (z : ℕ) (c : Crew) → PlayEnds r h s z c → IsSeated h s 0 (seat_in c.catalogue)
crew-seated Done h s z c e = e.0.catalogue.seated
crew-seated First h s z c e = e.catalogue.seated
crew-seated Later h s z c e = e.catalogue.seated

crew-came : (r : Ended) (h : Heap) (s : Sections) (z : ℕ) (c : Crew) → PlayEnds r h s z c → CameIn r s z 0 (own_of c.catalogue)
crew-came Done h s z c e = e.0.catalogue.played
crew-came First h s z c e = (e.catalogue.at, e.catalogue.stopped)
crew-came Later h s z c e = e.catalogue.played

-- the seat of section 0
pub catalogue-left : (r : Ended) (h : Heap) (s : Sections) (z : ℕ) (c : Crew) (x : HeapSeat) → seat_in c.catalogue ≡ x → PlayEnds r h s z c → IsSeatLeftBy r h s z 0 x
catalogue-left r h s z c x same e =
    subst (IsSeatLeftBy r h s z 0) same
    (let q = crew-seated r h s z c e in
    record { sits = q.rests.sits; number = q.number; outside = q.rests.outside; of_section = λ _. record { section = q.section; plan_is = q.plan_is; came = crew-came r h s z c e } })

-- one more part of the report in front of those that are there
pub said-front : (r : Ended) (s : Sections) (z n : ℕ) (x : HeapSeat) (p : Part) (xs : List HeapSeat) (ps : List Part) → SaysOfSection r s z n x p → AreSaid r s z (n + 1) xs ps → AreSaid r s z n (x ∷ xs) (p ∷ ps)
said-front r s z n x p xs ps one all zero d q low = subst (λ k. SaysOfSection r s z k x p) (omega arith) one
said-front r s z n x p xs ps one all (suc i) d q low = subst (λ k. SaysOfSection r s z k (get_or xs i d) (get_or ps i q)) (omega arith) (all i d q (omega (arith, low)))

empty-list : {X : Type 0} (xs : List X) → length xs ≡ 0 → xs ≡ []
empty-list [] e = refl
empty-list (x ∷ xs) e = absurd (omega (arith, e))

-- what section 0 hands over is its part of the report
says-first : (h : Heap) (s : Sections) (z moved : ℕ) (c : Catalogue) (x : HeapSeat) (p : Part) → CatalogueAt h s z moved c → HandsOver c x p.said.items p.places.items p.dropped → SaysOfSection Done s z 0 x p
says-first h s z moved (Playing m) x p e o =
    let q = e.goes_on.1.after.after.said in
    record {
      said_is = ap (λ (v : List Said). map printed_of v) o.1 ∙ q.said_is;
      dropped_is = o.3 ∙ q.dropped_is;
      cells_are = o.2 ∙ (q.cells_are ∙ ap (λ (y : HeapSeat). map (λ (a : Place). a.cell) (view_of y).own.places) (sym o.0));
    }
says-first h s z moved (Absent y) x p e o =
    let none : 0 ≡ end_of s 0 z = sym (absent-end h s z z e.goes_on) in
    let clear : plain s 0 (end_of s 0 z) ≡ empty_heap s.fields 0 = ap (plain s 0) (sym none) ∙ at-start s 0 in
    let places : (view_of y).own.places ≡ [] = empty-list (view_of y).own.places (e.played.done.counted ∙ ap (λ (g : PlainHeap). length g.objects) clear) in
    record {
      said_is = ap (λ (v : List Said). map printed_of v) o.1 ∙ (sym (at-start-printed s 0) ∙ ap (printed_before s 0) none);
      dropped_is = o.3 ∙ ap (λ (g : PlainHeap). g.dropped) (sym clear);
      cells_are = o.2 ∙ (ap (λ (ps : List Place). map (λ (a : Place). a.cell) ps) (sym places) ∙ ap (λ (v : HeapSeat). map (λ (a : Place). a.cell) (view_of v).own.places) (sym o.0));
    }

pub catalogue-says : (r : Ended) (h : Heap) (s : Sections) (z : ℕ) (c : Crew) (x : HeapSeat) (p : Part) → PlayEnds r h s z c → HandsOver c.catalogue x p.said.items p.places.items p.dropped → SaysOfSection r s z 0 x p
catalogue-says Done h s z c x p e o = says-first h s z (2 * z) c.catalogue x p e.0.catalogue o
catalogue-says First h s z c x p e o = tt
catalogue-says Later h s z c x p e o = tt

pub handed-seat : (c : Catalogue) (x : HeapSeat) (said : List Said) (places : List ℕ) (dropped : ℕ) → HandsOver c x said places dropped → seat_in c ≡ x
handed-seat (Playing m) x said places dropped o = sym o.0
handed-seat (Absent y) x said places dropped o = sym o.0

knows : HeapSeat → Type 0
knows x = KnowsFull (view_of x)

-- if the heap is full, some seat knows it
pub crew-knows : (r : Ended) (h : Heap) (s : Sections) (z : ℕ) (c : Crew) (x : HeapSeat) (xs : List HeapSeat) → seat_in c.catalogue ≡ x → PlayEnds r h s z c → (SomeKnows c.workers.items → SomeSeatKnows xs) → KnowsEnd r (x ∷ xs)
unfolding knows
crew-knows Done h s z c x xs same e f = tt
crew-knows First h s z c x xs same e f = some-first knows x xs (subst knows same e.catalogue.full)
crew-knows Later h s z c x xs same e f = ⊎_elim (λ (k : KnowsFull (view_of (seat_in c.catalogue))). some-first knows x xs (subst knows same k)) (λ (k : SomeKnows c.workers.items). some-ahead knows x xs (f k)) e.known

-- if all was played, the catalogue's seat ended an exact cycle
pub crew-settles : (r : Ended) (h : Heap) (s : Sections) (z : ℕ) (c : Crew) (x : HeapSeat) (xs : List HeapSeat) → seat_in c.catalogue ≡ x → PlayEnds r h s z c → SettlesEnd r (x ∷ xs)
crew-settles Done h s z c x xs same e = λ d. subst (λ (y : HeapSeat). IsTrue (view_of y).own.settled) same e.1
crew-settles First h s z c x xs same e = tt
crew-settles Later h s z c x xs same e = tt
