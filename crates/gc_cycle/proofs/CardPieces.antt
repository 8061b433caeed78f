-- A seat that is alone traces, looks at cards and cleans them, in pieces.
use Rattle.std.proofs.Common.{ℕ, ◌≡◌, ◌≤◌, ◌<◌, ◌+◌, ◌-◌, ⊎_elim, arith, refl, sym, ap, ◌∙◌, subst, Some, List, [], ◌∷◌, length, true}
use Rattle.std.specs.List.{range_with_len}
use Rattle.std.proofs.lemmas.Bool.{cases_lt, not-true}
use Rattle.std.proofs.lemmas.List.{length-append, length-map}
use Rattle.std.proofs.lemmas.List.FromFn.{length-range_with_len}
use Rattle.mark_core.specs.Layout.{card_count}
use Rattle.mark_core.specs.Numbers.{empty_offset}
use Rattle.mark_core.specs.Places.{the_empty_count}
use Rattle.mark_core.specs.declared.kinds.Phase.TheVariants.{Drain}
use Rattle.mark_core.specs.declared.kinds.Shape.{Shape}
use Rattle.mark_core.specs.declared.kinds.Step.TheVariants.{ReadCard, ReadCount}
use Rattle.gc_table.specs.Log.{event}
use Rattle.gc_table.specs.Notes.{look}
use Rattle.gc_table.specs.Taking.{after, Finds}
use Rattle.gc_table.specs.declared.view.Entry.{Entry}
use Rattle.gc_table.specs.declared.view.View.{View}
use Rattle.gc_table.proofs.History.Log.{events-none}
use Rattle.gc_table.proofs.Running.{ran-shape}
use Rattle.packet_pools.specs.OnlyTraced.{OnlyTraced}
use Rattle.card_clean.specs.Drained.{AreNotedClean}
use Rattle.card_clean.specs.Looking.{KeepsAllNotes, looks_clean, looks_dirty}
use Rattle.card_clean.proofs.CardLooks.{clean-kept, count-noted, look-keeps}
use Rattle.gc_cycle.specs.Finishing.{IsAloneIn, IsPart}
use Rattle.gc_cycle.specs.Lower.{HasTraced}
use Rattle.gc_cycle.specs.Standing.{is_at_rest}
use Rattle.gc_cycle.proofs.Ends.Moving.{no-work}
use Rattle.gc_cycle.proofs.Idling.{traced-of}
use Rattle.gc_cycle.proofs.Traced.{nothing-rest, traced-part}
use Rattle.gc_cycle.specs.Pieces.{CleansCards, HasLooked, LooksFrom}
use Rattle.gc_cycle.specs.Stepping.{Drains, HasMarkedAll}
use Rattle.gc_cycle.proofs.Stepped.{drains-of, part-owner, rooted-back}

pub alone-of : (v : View) → Drains v → IsAloneIn Drain v
alone-of v d = record { rest = d.rest; alone = d.drain }

pub rest-of : (v : View) → Drains v → is_at_rest v.shape v.state ≡ true
rest-of v d = nothing-rest v.shape v.state d.rest.rest

-- a piece of the drain, and where the seat is after it
pub drains-part : (v w : View) → Drains v → HasTraced v w → IsPart Drain v w
drains-part v w d t = traced-part v w (alone-of v d) t

pub drains-still : (v w : View) → Drains v → HasTraced v w → Drains w
drains-still v w d t = drains-of w (part-owner Drain v w (drains-part v w d t) d.owner) (t.rooted (rooted-back v d))

-- it only looked
pub looked-traced : (v w : View) → Drains v → OnlyTraced v w → w.state ≡ v.state → HasTraced v w
looked-traced v w d o e = traced-of v w o ((λ i. is_at_rest (o.shape i) (e i)) ∙ rest-of v d)

-- cards below one were clean, and so were those from it on
pub clean-further : (from to : ℕ) (v w : View) → KeepsAllNotes v w → AreNotedClean 0 from v → AreNotedClean from to w → AreNotedClean 0 to w
clean-further from to v w k before since card low high = ⊎_elim (λ (h : card < from). clean-kept 0 from v w k before card low h) (λ (h : from ≤ card). since card h high) (cases_lt card from)

pub looks-further : (from to : ℕ) (v w : View) → LooksFrom from v → HasTraced v w → KeepsAllNotes v w → AreNotedClean from to w → LooksFrom to w
looks-further from to v w l t k c = record { drains = drains-still v w l.drains t; below = clean-further from to v w k l.below c }

-- no card is left
pub looked-all : (n : ℕ) (v : View) → LooksFrom n v → card_count v.shape ≤ n → HasLooked v
looked-all n v l all = record { drains = l.drains; cards = λ card low high. l.below card low (omega (arith, all, high)) }

-- how many looks there were
clean-long : (from to : ℕ) → length (looks_clean from to) ≡ to - from
clean-long from to = length-map (range_with_len from (to - from)) (λ k. event (ReadCard k) 0) ∙ length-range_with_len from (to - from)

pub clean-few : (from n most : ℕ) (es : List Entry) → es ≡ looks_clean from (from + n) → n ≤ most → length es ≤ most
clean-few from n most es e l = let long = ap length e ∙ clean-long from (from + n) in omega (arith, long, l)

pub dirty-few : (from card most : ℕ) (es : List Entry) → es ≡ looks_dirty from card → from ≤ card → card < from + most → length es ≤ most
dirty-few from card most es e low high =
    let long = ap length e ∙ length-append (looks_clean from card) (event (ReadCard card) 1 ∷ []) in
    let some = clean-long from card in
    omega (arith, long, some, low, high)

-- no card was passed
pub cleans-none : (from : ℕ) (v : View) → CleansCards from 0 v v
cleans-none from v = (0, record { taking = []; cleaning = []; giving = []; events_are = events-none v; takes = refl; cleans = (refl, refl); tried = refl; gives = refl })

-- the count said all packets, after each card was seen clean
pub marked-all : (v w : View) (n : ℕ) → HasLooked v → HasTraced v w → w ≡ after ReadCount n v → Finds ReadCount n v → n ≡ empty_offset + v.shape.packets → HasMarkedAll w
marked-all v w n l t e f all =
    let shape : w.shape ≡ v.shape = ran-shape v w t.ran in
    let still : Drains w = drains-still v w l.drains t in
    let rooted = rooted-back w still in
    record {
      owner = still.owner;
      drained =
          record {
            rest = rooted.rest;
            drained =
                record {
                  rooted = rooted.rooted;
                  cards =
                      subst (λ (sh : Shape). AreNotedClean 0 (card_count sh) w) (sym shape)
                      (clean-kept 0 (card_count v.shape) v w (subst (KeepsAllNotes v) (sym e) (look-keeps v ReadCount n refl refl f)) l.cards);
                  empty = ap (λ (x : View). look the_empty_count x.known) e ∙ (count-noted v n l.drains.rest.alone ∙ ap Some (all ∙ ap (λ (sh : Shape). empty_offset + sh.packets) (sym shape)));
                  work = not-true _ (no-work w rooted.rest);
                };
          };
    }
