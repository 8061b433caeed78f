-- Seats that have done nothing.
use Rattle.std.proofs.Common.{ℕ, ◌≡◌, ◌<◌, ◌≤◌, [], length, map, sym, ap, ◌∙◌, subst, arith, Bool, cond, Some, None}
use Rattle.std.proofs.lemmas.Bool.{lt-ltb, le-ltb}
use Rattle.mark_core.specs.Seats.{is_bare}
use Rattle.mark_core.specs.Steps.WorldSteps.{has_nothing}
use Rattle.mark_core.specs.declared.seat.SeatState.{SeatState}
use Rattle.mark_core.specs.declared.kinds.Shape.{Shape}
use Rattle.plain_heap.specs.Sections.{Sections, joined, parts_of}
use Rattle.plain_heap.specs.PlainHeap.{Heap as PlainHeap}
use Rattle.plain_heap.proofs.Turns.{at-start, at-start-printed}
use Rattle.play_report.specs.Report.{printed_of}
use Rattle.gc_table.specs.Sections.{start_section}
use Rattle.gc_table.specs.declared.view.Place.{Place}
use Rattle.play_end.specs.Done.{HasPlayed}
use Rattle.play_end.proofs.Doing.{played-start}
use Rattle.warehouse.specs.Playing.{HasRoomForCommands}
use Rattle.gc_table.specs.Seats.{view_of}
use Rattle.gc_table.specs.declared.seat.Heap.{Heap}
use Rattle.gc_table.specs.declared.seat.HeapSeat.{HeapSeat}
use Rattle.gc_table.specs.declared.view.SectionState.{SectionState}
use Rattle.warehouse.specs.declared.mutator.Mutator.{Mutator}
use Rattle.gc_play.specs.Standing.{IsSeated, IsTracerSeat, PlayedTo, Rests}
use Rattle.gc_play.specs.Crews.{IsNewSeatOfPlay}
use Rattle.gc_play.specs.Dealing.{StandsAt, seat_number}

module _ (h : Heap) (s : Sections) (n : ℕ) (x : HeapSeat) (new : IsNewSeatOfPlay h s n x) where
  pub new-rests : Rests h x
  new-rests = record { sits = new.sits; outside = ap is_bare new.fresh.state; idle = ap (has_nothing h.shape) new.fresh.state }

  pub new-seated : n ≤ length s.warehouses → IsSeated h s n x
  new-seated low =
      record {
        rests = new-rests;
        owned = ap (λ (y : Shape). y.sharing) new.fresh.shape ∙ new.owned;
        number = ap (λ (y : SeatState). y.number) new.fresh.state;
        section = ap (λ (y : SeatState). y.section) new.fresh.state ∙ ap (λ (b : Bool). cond b (Some n) None) (lt-ltb n h.shape.sections (omega (arith, low, new.sections)));
        plan_is = new.fresh.plan_is;
        fields = ap (λ (y : Shape). y.fields) new.fresh.shape ∙ new.fields;
      }

  pub new-tracer : length s.warehouses < n → IsTracerSeat h n x
  new-tracer high =
      record {
        rests = new-rests;
        number = ap (λ (y : SeatState). y.number) new.fresh.state;
        section = ap (λ (y : SeatState). y.section) new.fresh.state ∙ ap (λ (b : Bool). cond b (Some n) None) (le-ltb n h.shape.sections (omega (arith, high, new.sections)));
      }

  pub new-number : (m : Mutator) → m.seat ≡ x → seat_number m ≡ n
  new-number m same = ap (λ (y : HeapSeat). (view_of y).state.number) same ∙ ap (λ (y : SeatState). y.number) new.fresh.state

  -- a player that was made for the seat did nothing
  pub new-played : (m : Mutator) → m.seat ≡ x → n ≤ length s.warehouses → m.said.items ≡ [] → m.places.items ≡ [] → m.dropped ≡ 0 → m.count ≡ 0 → HasRoomForCommands (joined (parts_of s n)) m → PlayedTo h s n 0 m
  new-played m same low said places dropped count room =
      let own : (view_of m.seat).own ≡ start_section h.shape n = ap (λ (y : HeapSeat). (view_of y).own) same ∙ new.fresh.own in
      let start : HasPlayed s n 0 (start_section h.shape n) = played-start s h.shape n new.fields in
      let played : HasPlayed s n 0 (view_of m.seat).own = subst (HasPlayed s n 0) (sym own) start in
      record {
        seated = subst (IsSeated h s n) (sym same) (new-seated low);
        after =
            record {
              after =
                  record {
                    count = count;
                    done = played.done;
                    said =
                        record {
                          said_is = ap (map printed_of) said ∙ sym (at-start-printed s n);
                          dropped_is = dropped ∙ ap (λ (g : PlainHeap). g.dropped) (sym (at-start s n));
                          cells_are = places ∙ ap (λ (o : SectionState). map (λ (p : Place). p.cell) o.places) (sym own);
                        };
                  };
              played = played;
            };
        counted =
            ap (λ (o : SectionState). length o.meaning.heap.objects) own
            ∙ sym (ap (λ (y : HeapSeat). (view_of y).state.made) same ∙ ap (λ (y : SeatState). y.made) new.fresh.state);
        room = room;
      }

  pub new-made : (view_of x).state.made ≡ 0
  new-made = ap (λ (y : SeatState). y.made) new.fresh.state

  -- there is room for all that a script may make
  pub new-objects : 2000000 ≤ (view_of x).shape.objects
  new-objects = omega (arith, ap (λ (y : Shape). y.objects) new.fresh.shape, new.objects)

  pub new-stands : (m : Mutator) → m.seat ≡ x → 1 ≤ n → n ≤ length s.warehouses → m.said.items ≡ [] → m.places.items ≡ [] → m.dropped ≡ 0 → m.count ≡ 0 → HasRoomForCommands (joined (parts_of s n)) m → StandsAt h s 0 m
  new-stands m same first last said places dropped count room =
      let num : seat_number m ≡ n = new-number m same in
      record {
        warehouse = record { first = subst (λ k. 1 ≤ k) (sym num) first; last = subst (λ k. k ≤ length s.warehouses) (sym num) last };
        played = subst (λ k. PlayedTo h s k 0 m) (sym num) (new-played m same last said places dropped count room);
      }
