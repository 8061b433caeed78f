-- By stamps two threads come after a third mutator, and this one after them.
use Rattle.std.proofs.Common.{ℕ, ◌≡◌, ◌+◌, ◌∙◌, List, [], ◌∷◌, ◌++◌, append-nil, append_assoc, take, length, length-append, arith, ap, refl, subst, sym}
use Rattle.std.proofs.Math.Logic.{∥∥₁_elim}
use Rattle.std.proofs.Math.Seq.{take-length}
use Rattle.std.proofs.Props.{props}
use Rattle.std.specs.Arc.{arc_value}
use Rattle.mark_core.specs.Steps.{Core, after_event, start_core}
use Rattle.mark_core.specs.declared.kinds.Event.{Event}
use Rattle.mark_core.specs.declared.kinds.Shape.{Shape}
use Rattle.gc_table.specs.OpenRuns.{LogBegins}
use Rattle.gc_table.specs.Past.{adds, log_from, log_of}
use Rattle.gc_table.specs.Seats.{seen_of, view_of}
use Rattle.gc_table.specs.Seen.{Begins}
use Rattle.gc_table.specs.Stamps.{OrderKept, StampFits, seen_by_stamp, stamp_view}
use Rattle.gc_table.specs.declared.seat.Heap.{Heap}
use Rattle.gc_table.specs.declared.seat.Stamp.{Stamp}
use Rattle.gc_table.specs.declared.view.Entry.{Entry}
use Rattle.gc_table.specs.declared.view.View.{View}
use Rattle.seat_steps.specs.declared.stamping.Stamp.{Stamp as named}
use Rattle.shared_heap.specs.Stamping.{GoesOnFrom, Stamps}
use Rattle.shared_heap.specs.declared.mutator.SharedMutator.{SharedMutator}
use Rattle.example_queues.specs.Lines.{AreInLine, HasAll}

-- a log grows with what happened
log_split : (i : ℕ) (c : Core) (es fs : List Event) → (more : List Entry) × (log_from i c (es ++ fs) ≡ log_from i c es ++ more)
log_split i c [] fs = (log_from i c fs, refl)
log_split i c (e ∷ es) fs =
    let rest = log_split i (after_event c e) es fs in
    (rest.0, ap (λ l. adds i c e ++ l) rest.1 ∙ sym (append_assoc (adds i c e) (log_from i (after_event c e) es) rest.0))

begins_self : (es : List Event) → Begins es es
begins_self es = ([], sym (append-nil es))

pub begins-on : (es fs gs : List Event) → Begins es fs → Begins fs gs → Begins es gs
begins-on es fs gs a b = (a.0 ++ b.0, b.1 ∙ (ap (λ (l : List Event). l ++ b.0) a.1 ∙ append_assoc es a.0 b.0))

-- what a stamp's seat has seen has all that it did
own_log : OrderKept → (m : Stamp) → length (log_of (stamp_view m).shape (seen_by_stamp m) (stamp_view m).state.number) ≡ length (stamp_view m).log
own_log law m =
    ∥∥₁_elim (law m m (seen_by_stamp m) refl (begins_self (seen_by_stamp m)) (begins_self (seen_by_stamp m))) (Prim.hlevel props)
    (λ p. ap (λ (es : List Event). length (log_of (stamp_view m).shape es (stamp_view m).state.number)) (sym (take-length (seen_by_stamp m))) ∙ ap (λ (l : List Entry). length l) p.1)

-- what was seen between two stamps of a seat that did nothing has all that it did
between_log : OrderKept → (f m l : Stamp) → (stamp_view f).shape ≡ (stamp_view m).shape → (stamp_view m).shape ≡ (stamp_view l).shape → Begins (seen_by_stamp f) (seen_by_stamp m) → Begins (seen_by_stamp m) (seen_by_stamp l) → stamp_view l ≡ stamp_view f
    → length (log_of (stamp_view m).shape (seen_by_stamp m) (stamp_view f).state.number) ≡ length (stamp_view f).log
between_log law f m l same there before after view =
    ∥∥₁_elim (law f m (seen_by_stamp m) same before (begins_self (seen_by_stamp m))) (Prim.hlevel props)
    (λ p. ∥∥₁_elim (law m l (seen_by_stamp l) there after (begins_self (seen_by_stamp l))) (Prim.hlevel props) (λ q. both p q))
  where
    n : ℕ
    n = (stamp_view f).state.number

    sh : Shape
    sh = (stamp_view m).shape

    both : LogBegins (stamp_view f).log (log_of sh (take (length (seen_by_stamp m)) (seen_by_stamp m)) n) × (log_of sh (take (length (seen_by_stamp m)) (seen_by_stamp m)) (stamp_view m).state.number ≡ (stamp_view m).log)
        → LogBegins (stamp_view m).log (log_of (stamp_view l).shape (take (length (seen_by_stamp l)) (seen_by_stamp l)) (stamp_view m).state.number) × (log_of (stamp_view l).shape (take (length (seen_by_stamp l)) (seen_by_stamp l)) (stamp_view l).state.number ≡ (stamp_view l).log)
        → length (log_of sh (seen_by_stamp m) n) ≡ length (stamp_view f).log
    both p q =
        let low : length (log_of sh (seen_by_stamp m) n) ≡ length (stamp_view f).log + length p.0.0 =
        ap (λ (es : List Event). length (log_of sh es n)) (sym (take-length (seen_by_stamp m))) ∙ (ap (λ (z : List Entry). length z) p.0.1 ∙ length-append (stamp_view f).log p.0.0) in
        let more = log_split n (start_core sh 1) (seen_by_stamp m) after.0 in
        let high : length (log_of sh (seen_by_stamp l) n) ≡ length (log_of sh (seen_by_stamp m) n) + length more.0 =
        ap (λ (es : List Event). length (log_of sh es n)) after.1 ∙ (ap (λ (z : List Entry). length z) more.1 ∙ length-append (log_of sh (seen_by_stamp m) n) more.0) in
        let end : length (log_of sh (seen_by_stamp l) n) ≡ length (stamp_view f).log =
        ap (λ (z : Shape). length (log_of z (seen_by_stamp l) n)) there
        ∙ (ap (λ (v : View). length (log_of (stamp_view l).shape (seen_by_stamp l) v.state.number)) (sym view)
        ∙ (ap (λ (es : List Event). length (log_of (stamp_view l).shape es (stamp_view l).state.number)) (sym (take-length (seen_by_stamp l)))
        ∙ (ap (λ (z : List Entry). length z) q.1 ∙ ap (λ (v : View). length v.log) view))) in
        omega (arith, low, high, end)

module _ (law : OrderKept) (a a1 a2 a3 b b1 b2 b3 c c1 c2 c3 c4 : SharedMutator) (one two laid again e1 e2 : named) (ha : arc_value a.heap ≡ arc_value c.heap) (hb : arc_value b.heap ≡ arc_value c.heap) where
  pub in-line : Stamps one a a1 → Stamps two b b1 → GoesOnFrom one c c1 → GoesOnFrom two c1 c2 → Stamps laid c2 c3 → Stamps again c3 c4 → GoesOnFrom laid a1 a2 → GoesOnFrom again b1 b2 → Stamps e1 a2 a3 → Stamps e2 b2 b3 → AreInLine e1 e2 a b c a3 b3 c4
  in-line s1 s2 g1 g2 s3 s4 g3 g4 s5 s6 =
      record {
        first = record { view = view_a; place = s5.place ∙ (g3.place ∙ s1.place); world = s5.world ∙ (g3.world ∙ s1.world); name_is = s5.name_is ∙ (g3.name_is ∙ s1.name_is) };
        second = record { view = view_b; place = s6.place ∙ (g4.place ∙ s2.place); world = s6.world ∙ (g4.world ∙ s2.world); name_is = s6.name_is ∙ (g4.name_is ∙ s2.name_is) };
        maker = record { view = view_c; place = s4.place ∙ (s3.place ∙ (g2.place ∙ g1.place)); world = heap_c; name_is = s4.name_is ∙ (s3.name_is ∙ (g2.name_is ∙ g1.name_is)) };
        first_shape = ap (λ (v : View). v.shape) (view_a ∙ sym s1.of.1) ∙ shape_one;
        second_shape = ap (λ (v : View). v.shape) (view_b ∙ sym s2.of.1) ∙ shape_two;
        past = past;
        has_first = has_by one.stamp a3 (s1.of.1 ∙ sym view_a) shape_one (between_log law one.stamp laid.stamp e1.stamp (shape_one ∙ sym shape_laid) (shape_laid ∙ sym shape_e1) one_before after_one (s5.of.1 ∙ (g3.sees.view ∙ (s1.view ∙ sym s1.of.1))));
        has_second = has_by two.stamp b3 (s2.of.1 ∙ sym view_b) shape_two (between_log law two.stamp laid.stamp e2.stamp (shape_two ∙ sym shape_laid) (shape_laid ∙ sym shape_e2) two_before after_two (s6.of.1 ∙ (g4.sees.view ∙ (s2.view ∙ sym s2.of.1))));
        has_maker = has_by laid.stamp c4 (s3.of.1 ∙ (g2.sees.view ∙ (g1.sees.view ∙ sym view_c))) shape_laid (own_log law laid.stamp);
        one_goes_on = after_one;
        two_goes_on = after_two;
        one_fits = subst (λ (h : Heap). StampFits h e1.stamp) (g3.world ∙ (s1.world ∙ ha)) s5.fits;
        two_fits = subst (λ (h : Heap). StampFits h e2.stamp) (g4.world ∙ (s2.world ∙ hb)) s6.fits;
      }
    where
      past : List Event
      past = seen_by_stamp laid.stamp

      sh : Shape
      sh = (arc_value c.heap).shape

      view_a : view_of a3.seat ≡ view_of a.seat
      view_a = s5.view ∙ (g3.sees.view ∙ s1.view)

      view_b : view_of b3.seat ≡ view_of b.seat
      view_b = s6.view ∙ (g4.sees.view ∙ s2.view)

      view_c : view_of c4.seat ≡ view_of c.seat
      view_c = s4.view ∙ (s3.view ∙ (g2.sees.view ∙ g1.sees.view))

      heap_c : arc_value c4.heap ≡ arc_value c.heap
      heap_c = s4.world ∙ (s3.world ∙ (g2.world ∙ g1.world))

      shape_one : (stamp_view one.stamp).shape ≡ sh
      shape_one = s1.fits.1 ∙ ap (λ (h : Heap). h.shape) ha

      shape_two : (stamp_view two.stamp).shape ≡ sh
      shape_two = s2.fits.1 ∙ ap (λ (h : Heap). h.shape) hb

      shape_laid : (stamp_view laid.stamp).shape ≡ sh
      shape_laid = s3.fits.1 ∙ ap (λ (h : Heap). h.shape) (g2.world ∙ g1.world)

      shape_e1 : (stamp_view e1.stamp).shape ≡ sh
      shape_e1 = s5.fits.1 ∙ ap (λ (h : Heap). h.shape) (g3.world ∙ (s1.world ∙ ha))

      shape_e2 : (stamp_view e2.stamp).shape ≡ sh
      shape_e2 = s6.fits.1 ∙ ap (λ (h : Heap). h.shape) (g4.world ∙ (s2.world ∙ hb))

      one_before : Begins (seen_by_stamp one.stamp) past
      one_before = subst (λ (es : List Event). Begins (seen_by_stamp one.stamp) es) (sym s3.of.0) (begins-on (seen_by_stamp one.stamp) (seen_of c1.seat) (seen_of c2.seat) g1.told g2.sees.own)

      two_before : Begins (seen_by_stamp two.stamp) past
      two_before = subst (λ (es : List Event). Begins (seen_by_stamp two.stamp) es) (sym s3.of.0) g2.told

      after_one : Begins past (seen_by_stamp e1.stamp)
      after_one = subst (λ (es : List Event). Begins past es) (sym s5.of.0) g3.told

      after_two : Begins past (seen_by_stamp e2.stamp)
      after_two = subst (λ (es : List Event). Begins past es) (sym s6.of.0) (subst (λ (es : List Event). Begins es (seen_of b2.seat)) (s4.of.0 ∙ (s3.seen ∙ sym s3.of.0)) g4.told)

      has_by : (f : Stamp) (m : SharedMutator) → stamp_view f ≡ view_of m.seat → (stamp_view f).shape ≡ sh → length (log_of (stamp_view laid.stamp).shape past (stamp_view f).state.number) ≡ length (stamp_view f).log → HasAll sh past m
      has_by f m view shape e =
          subst (λ (v : View). length (log_of sh past v.state.number) ≡ length v.log) view (subst (λ (z : Shape). length (log_of z past (stamp_view f).state.number) ≡ length (stamp_view f).log) shape_laid e)
