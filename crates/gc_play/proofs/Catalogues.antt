-- What section 0 comes to: in its parts, and in the stops of its seat.
use Rattle.std.proofs.Common.{ℕ, zero, suc, ◌∷◌, ◌≡◌, ◌+◌, ◌-◌, ◌*◌, ◌%◌, ◌<◌, ◌⊎◌, ⊎_elim, List, [], length, map, Option, None, Some, refl, sym, ap, ◌∙◌, subst, arith, true, eqb-true, take}
use Rattle.std.specs.Prelude.{◌==◌, IsTrue, IsNone, unwrap_or, slice_index_or}
use Rattle.std.proofs.lemmas.Bool.{true≢false}
use Rattle.plain_heap.specs.Sections.{Sections, Execution, Parts, section_of, parts_of, part_of, end_of, joined}
use Rattle.plain_heap.specs.PlainHeap.{Heap as PlainHeap}
use Rattle.plain_heap.specs.declared.operation.Op.{Op}
use Rattle.gc_table.specs.Sections.{planned}
use Rattle.gc_table.specs.Seats.{view_of}
use Rattle.gc_table.specs.declared.seat.Heap.{Heap}
use Rattle.gc_table.specs.declared.seat.HeapSeat.{HeapSeat}
use Rattle.gc_table.specs.declared.view.Place.{Place}
use Rattle.gc_table.specs.declared.view.View.{View}
use Rattle.gc_table.proofs.Running.{ran-shape}
use Rattle.mark_core.specs.declared.kinds.Shape.{Shape}
use Rattle.play_end.specs.Done.{HasPlayed}
use Rattle.play_end.specs.declared.played.Played.{Played}
use Rattle.play_end.specs.declared.played.Played.TheVariants.{Done, Full}
use Rattle.play_end.proofs.Doing.{done-still, played-missing, waiting-stops}
use Rattle.play_end.proofs.CatalogueEnd.{catalogue-planned}
use Rattle.warehouse.specs.declared.mutator.Mutator.{Mutator}
use Rattle.warehouse.specs.Playing.{IsPartPlayed}
use Rattle.gc_table.specs.Seats.{Sits}
use Rattle.warehouse.specs.Ending.{CountsAbsent, PlaySettles as Settles}
use Rattle.gc_cycle.specs.Standing.{IsOut}
use Rattle.warehouse.specs.Turns.{KeepsPart, MayTurnSeason, TurnEnds as Turns}
use Rattle.gc_play.specs.declared.crew.Catalogue.{Catalogue}
use Rattle.gc_play.specs.declared.crew.Catalogue.TheVariants.{Playing, Absent}
use Rattle.gc_play.specs.Standing.{IsSeated, PlayedTo}
use Rattle.gc_play.specs.Crews.{CatalogueAt, CatalogueEnds, CatalogueStarts, CatalogueSettles, LeavesCatalogue, TurnMoves, own_of, seat_in}
use Rattle.gc_play.proofs.Parts.{part-done, part-full, rests-out, seated-ran}

-- a call left the seat outside, and what its section came to
pub record Leaves (h : Heap) (x y : HeapSeat) : Type 0 where
  pub seat : Sits h y × IsOut (view_of y)
  pub keeps : KeepsPart (view_of x) (view_of y)

-- so it is with a player's seat, and with one alone
pub stop-playing : (h : Heap) (m n : Mutator) (c : Catalogue) → c ≡ Playing m → n ≡ record m { seat = n.seat } → Sits h n.seat × IsOut (view_of n.seat) → KeepsPart (view_of m.seat) (view_of n.seat) → LeavesCatalogue h c (Playing n)
stop-playing h m n c is kept seat keeps = subst (λ (b : Catalogue). LeavesCatalogue h b (Playing n)) (sym is) (record { kept = ap (λ (a : Mutator). Playing a) kept; seat = seat; keeps = keeps })

pub stop-absent : (h : Heap) (x y : HeapSeat) (c : Catalogue) → c ≡ Absent x → Sits h y × IsOut (view_of y) → KeepsPart (view_of x) (view_of y) → LeavesCatalogue h c (Absent y)
stop-absent h x y c is seat keeps = subst (λ (b : Catalogue). LeavesCatalogue h b (Absent y)) (sym is) (record { kept = refl; seat = seat; keeps = keeps })

take-none : {X : Type 0} (n : ℕ) (xs : List X) → xs ≡ [] → take n xs ≡ []
take-none zero [] e = refl
take-none (suc n) [] e = refl
take-none n (x ∷ xs) e = absurd (cc)

module _ (h : Heap) (s : Sections) (z : ℕ) where
  -- the catalogue's part
  pub catalogue-part : (r : Played) (moved : ℕ) (m n : Mutator) (a : Parts) → a ≡ section_of s 0 → CatalogueAt h s (z - 1) moved (Playing m) → IsPartPlayed r h a z m n → CatalogueEnds r h s z moved (Playing n)
  catalogue-part Done moved m n a is e x =
      let q = part-done h s 0 z m n e.goes_on.1 (subst (λ (y : Parts). IsPartPlayed Done h y z m n) is x) in
      record { seated = q.seated; played = q.after.played; moved_is = x.seasons ∙ e.moved_is; goes_on = (e.goes_on.0, q) }
  catalogue-part Full moved m n a is e x =
      let q = part-full h s 0 z m n e.goes_on.1 (subst (λ (y : Parts). IsPartPlayed Full h y z m n) is x) in
      record { seated = q.seated; moved_is = x.seasons ∙ e.moved_is; at = q.at; stopped = q.stopped; full = q.full }

  none-parts : (o : Option (List (List Execution))) → IsNone o → unwrap_or o [] ≡ []
  none-parts None e = refl
  none-parts (Some x) e = absurd (true≢false e)

  pub absent-end : (k : ℕ) → IsNone s.catalogue → end_of s 0 k ≡ 0
  absent-end k none = ap (λ (ps : List (List Execution)). length (joined ps)) (take-none k (parts_of s 0) (none-parts s.catalogue none))

  -- a stop leaves what the section came to
  left-played : (k : ℕ) (x y : HeapSeat) → Leaves h x y → HasPlayed s 0 k (view_of x).own → HasPlayed s 0 k (view_of y).own
  left-played k x y l p = record {
    done = done-still s 0 (end_of s 0 k) (view_of x).own (view_of y).own p.done l.keeps.still;
    position = l.keeps.position ∙ p.position;
    found_room = l.keeps.still.full ∙ p.found_room;
  }

  left-seated : (x y : HeapSeat) → Leaves h x y → IsSeated h s 0 x → IsSeated h s 0 y
  left-seated x y l p = seated-ran h s 0 x y l.keeps.ran l.seat.0 l.seat.1 p

  -- the part that a script without catalogue doesn't have
  pub catalogue-absent : (moved : ℕ) (x y : HeapSeat) → 0 < z → CatalogueAt h s (z - 1) moved (Absent x) → Sits h y × IsOut (view_of y) → CountsAbsent (view_of x) (view_of y) → CatalogueAt h s z moved (Absent y)
  catalogue-absent moved x y season e seat c =
      let l : Leaves h x y = record { seat = seat; keeps = c.keeps } in
      let p : HasPlayed s 0 (z - 1) (view_of y).own = left-played (z - 1) x y l e.played in
      let none : part_of s 0 (z - 1 + 1) ≡ [] = ap (λ (ps : List (List Execution)). slice_index_or ps (z - 1 + 1 - 1) []) (none-parts s.catalogue e.goes_on) in
      record {
        seated = left-seated x y l e.seated;
        played = subst (λ k. HasPlayed s 0 k (view_of y).own) (let q : z - 1 + 1 ≡ z = omega (arith, season) in q) (played-missing s 0 (z - 1) (view_of y).own none p);
        moved_is = c.seasons ∙ e.moved_is;
        goes_on = e.goes_on;
      }

  -- a player keeps what it has
  seated-in : (m : Mutator) (y : HeapSeat) → Leaves h m.seat y → PlayedTo h s 0 z m → PlayedTo h s 0 z (record m { seat = y })
  seated-in m y l q =
      let p : HasPlayed s 0 z (view_of y).own = left-played z m.seat y l q.after.played in
      record {
        seated = left-seated m.seat y l q.seated;
        after =
            record {
              after =
                  record {
                    count = q.after.after.count;
                    done = p.done;
                    said =
                        record {
                          said_is = q.after.after.said.said_is;
                          dropped_is = q.after.after.said.dropped_is;
                          cells_are = q.after.after.said.cells_are ∙ ap (λ (ps : List Place). map (λ (o : Place). o.cell) ps) (sym l.keeps.still.places);
                        };
                  };
              played = p;
            };
        counted = ap (λ (g : PlainHeap). length g.objects) l.keeps.still.heap ∙ (q.counted ∙ sym l.keeps.made);
        room = record { said = q.room.said; places = q.room.places; count = q.room.count; made = omega (arith, q.room.made, l.keeps.made, ap (λ (sh : Shape). sh.objects) (ran-shape (view_of m.seat) (view_of y) l.keeps.ran)); dropped = q.room.dropped };
      }

  pub player-left : (m n : Mutator) → n ≡ record m { seat = n.seat } → Leaves h m.seat n.seat → PlayedTo h s 0 z m → PlayedTo h s 0 z n
  player-left m n kept l q = subst (PlayedTo h s 0 z) (sym kept) (seated-in m n.seat l q)

  -- a stop between two turns
  turned-playing : (r : Played) (moved : ℕ) (m n : Mutator) → n ≡ record m { seat = n.seat } → Leaves h m.seat n.seat → Turns r (view_of m.seat) (view_of n.seat) → CatalogueAt h s z moved (Playing m) → TurnMoves r h s z moved (Playing n)
  turned-playing Done moved m n kept l t e =
      let q = player-left m n kept l e.goes_on.1 in
      record { seated = q.seated; played = q.after.played; moved_is = t.2 ∙ ap (λ k. k + 1) e.moved_is; goes_on = (e.goes_on.0, q) }
  turned-playing Full moved m n kept l t e =
      let q = player-left m n kept l e.goes_on.1 in
      (record { seated = q.seated; moved_is = t.2 ∙ e.moved_is; played = q.after.played }, t.3)

  turned-absent : (r : Played) (moved : ℕ) (x y : HeapSeat) → Leaves h x y → Turns r (view_of x) (view_of y) → CatalogueAt h s z moved (Absent x) → TurnMoves r h s z moved (Absent y)
  turned-absent Done moved x y l t e = record {
    seated = left-seated x y l e.seated;
    played = left-played z x y l e.played;
    moved_is = t.2 ∙ ap (λ k. k + 1) e.moved_is;
    goes_on = e.goes_on;
  }
  turned-absent Full moved x y l t e = (record { seated = left-seated x y l e.seated; moved_is = t.2 ∙ e.moved_is; played = left-played z x y l e.played }, t.3)

  pub turned : (r : Played) (moved : ℕ) (c d : Catalogue) → LeavesCatalogue h c d → Turns r (view_of (seat_in c)) (view_of (seat_in d)) → CatalogueAt h s z moved c → TurnMoves r h s z moved d
  turned r moved (Playing m) d l t e = subst (λ (b : Catalogue). TurnMoves r h s z moved b) (sym l.kept) (turned-playing r moved m (record m { seat = seat_in d }) refl (record { seat = l.seat; keeps = l.keeps }) t e)
  turned r moved (Absent x) d l t e = subst (λ (b : Catalogue). TurnMoves r h s z moved b) (sym l.kept) (turned-absent r moved x (seat_in d) (record { seat = l.seat; keeps = l.keeps }) t e)

  odd : (n : ℕ) → 0 < z → n ≡ 2 * z - 1 → IsTrue (n % 2 == 1)
  odd n season e = eq-true (n % 2) 1 (omega (arith, season, e))
    where
      eq-true : (a b : ℕ) → a ≡ b → (a == b) ≡ true
      eq-true a b q = grind (arith, q)

  -- the last stop
  settled-playing : (r : Played) (m n : Mutator) → 0 < z → n ≡ record m { seat = n.seat } → Leaves h m.seat n.seat → Turns r (view_of m.seat) (view_of n.seat) → Settles r (view_of m.seat) (view_of n.seat) → CatalogueAt h s z (2 * z - 1) (Playing m) → CatalogueSettles r h s z (Playing n)
  settled-playing Done m n season kept l w t e =
      let q = player-left m n kept l e.goes_on.1 in (
        record { seated = q.seated; played = q.after.played; moved_is = t.0 ∙ omega (arith, e.moved_is, season); goes_on = (e.goes_on.0, q) },
        t.1 (odd (view_of m.seat).own.seasons season e.moved_is),
      )
  settled-playing Full m n season kept l w t e =
      let q = player-left m n kept l e.goes_on.1 in
      (record { seated = q.seated; moved_is = w.2 ∙ e.moved_is; played = q.after.played }, t)

  settled-absent : (r : Played) (x y : HeapSeat) → 0 < z → Leaves h x y → Turns r (view_of x) (view_of y) → Settles r (view_of x) (view_of y) → CatalogueAt h s z (2 * z - 1) (Absent x) → CatalogueSettles r h s z (Absent y)
  settled-absent Done x y season l w t e = (
    record {
      seated = left-seated x y l e.seated;
      played = left-played z x y l e.played;
      moved_is = t.0 ∙ omega (arith, e.moved_is, season);
      goes_on = e.goes_on;
    },
    t.1 (odd (view_of x).own.seasons season e.moved_is),
  )
  settled-absent Full x y season l w t e = (record { seated = left-seated x y l e.seated; moved_is = w.2 ∙ e.moved_is; played = left-played z x y l e.played }, t)

  pub settled : (r : Played) (c d : Catalogue) → 0 < z → LeavesCatalogue h c d → Turns r (view_of (seat_in c)) (view_of (seat_in d)) → Settles r (view_of (seat_in c)) (view_of (seat_in d)) → CatalogueAt h s z (2 * z - 1) c → CatalogueSettles r h s z d
  settled r (Playing m) d season l w t e = subst (λ (b : Catalogue). CatalogueSettles r h s z b) (sym l.kept) (settled-playing r m (record m { seat = seat_in d }) season refl (record { seat = l.seat; keeps = l.keeps }) w t e)
  settled r (Absent x) d season l w t e = subst (λ (b : Catalogue). CatalogueSettles r h s z b) (sym l.kept) (settled-absent r x (seat_in d) season (record { seat = l.seat; keeps = l.keeps }) w t e)

  -- when the season may be moved on
  pub may-move : (moved : ℕ) (c : Catalogue) → 0 < z → moved < 128 → (moved ≡ 2 * z - 2) ⊎ (moved ≡ 2 * z - 1) → CatalogueAt h s z moved c → (Sits h (seat_in c) × IsOut (view_of (seat_in c))) × MayTurnSeason (view_of (seat_in c))
  may-move moved c season few turn e =
      let v : View = view_of (seat_in c) in (
        (e.seated.rests.sits, rests-out h (seat_in c) e.seated.rests),
        record {
          catalogue = e.seated.section;
          early = subst (λ n. n < 128) (sym e.moved_is) few;
          planned_is =
              λ even.
              ⊎_elim
              (λ (first : moved ≡ 2 * z - 2).
              catalogue-planned s v.shape z v.own e.seated.fields season (e.moved_is ∙ first) e.played
              ∙ ap (λ (p : List (List Op)). planned v.shape p (v.own.seasons + 1)) (sym e.seated.plan_is))
              (λ (later : moved ≡ 2 * z - 1). absurd (omega (arith, eqb-true (v.own.seasons % 2) 0 even, e.moved_is, later, season)))
              turn;
        },
      )

-- a part that was played to its end
pub part-ended : (r : Played) (h : Heap) (s : Sections) (z moved : ℕ) (c : Catalogue) → (r ≡ Full → ⊥) → CatalogueEnds r h s z moved c → CatalogueAt h s z moved c
part-ended Done h s z moved c n e = e
part-ended Full h s z moved c n e = absurd (n refl)

-- and a stop that moved the season on
pub turn-moved : (r : Played) (h : Heap) (s : Sections) (z moved : ℕ) (c : Catalogue) → (r ≡ Full → ⊥) → TurnMoves r h s z moved c → CatalogueAt h s z (moved + 1) c
turn-moved Done h s z moved c n e = e
turn-moved Full h s z moved c n e = absurd (n refl)

-- the next season begins
pub starts-after : (r : Played) (h : Heap) (s : Sections) (z moved : ℕ) (c : Catalogue) → 1 < z → moved ≡ 2 * z - 3 → TurnMoves r h s (z - 1) moved c → CatalogueStarts r h s z c
starts-after Done h s z moved c season e t = subst (λ n. CatalogueAt h s (z - 1) n c) (omega (arith, season, e)) t
starts-after Full h s z moved c season e t = record { seated = t.0.seated; moved_is = t.0.moved_is ∙ e; at = end_of s 0 (z - 1); stopped = waiting-stops s 0 z (own_of c) (omega (arith, season)) t.0.played; full = t.1 }
