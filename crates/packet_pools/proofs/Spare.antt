-- The high pool is searched after the empty and the low one.
use Rattle.std.proofs.Common.{ℕ, ◌≡◌, ◌<◌, ◌*◌, List, [], ◌∷◌, ◌++◌, arith, refl, sym, ap, ◌∙◌, subst, ⊎_elim, inl, inr, Bool, true, false}
use Rattle.std.specs.List.{range_with_len}
use Rattle.std.proofs.lemmas.Bool.{false≢true, and_from, and_parts}
use Rattle.mark_core.specs.Held.{holds}
use Rattle.mark_core.specs.Layout.{pool_words}
use Rattle.mark_core.specs.Numbers.{empty_pool_number, high_pool_number, low_pool_number, word_bits}
use Rattle.mark_core.specs.declared.kinds.Shape.{Shape}
use Rattle.mark_core.specs.declared.seat.SeatState.{SeatState}
use Rattle.gc_table.specs.declared.view.Entry.{Entry}
use Rattle.gc_table.specs.declared.view.View.{View}
use Rattle.gc_table.specs.Log.{events}
use Rattle.gc_table.proofs.History.Log.{events-join}
use Rattle.packet_pools.specs.declared.held.Held.{Held}
use Rattle.packet_pools.specs.Gains.{Brings, ComesFrom, Gains, MissesPackets, Takes, TakesNone, missed}
use Rattle.packet_pools.specs.Hands.{with_packet}
use Rattle.packet_pools.specs.OnlyTraced.{OnlyTraced}
use Rattle.packet_pools.specs.Seeking.{NoOutput, all_missed, in_pools, only_moves, output_pools, was_missed, was_missed_in, was_roomless}
use Rattle.packet_pools.specs.Tried.{NoSpare, spare_pools}
use Rattle.packet_pools.proofs.Searches.{all-both, all-missed-left, all-more, all-range, below-words, comes-right, either-way, missed-in-left, missed-right, moves-join, moves-more, next-pools}

-- one of these pools, and one more
pool-more : (x : ℕ) (qs : List ℕ) (q : ℕ) → in_pools q qs ≡ true → in_pools q (qs ++ x ∷ []) ≡ true
pool-more x [] q e = absurd (false≢true e)
pool-more x (y ∷ ys) q e = either-way _ _ _ _ (λ a. a) (pool-more x ys q) e

pub moves-spare : (es : List Entry) → only_moves spare_pools es ≡ true → only_moves output_pools es ≡ true
moves-spare es m = moves-more spare_pools output_pools (pool-more high_pool_number spare_pools) es m

pub moves-high : (es : List Entry) → only_moves (high_pool_number ∷ []) es ≡ true → only_moves output_pools es ≡ true
moves-high es m = next-pools empty_pool_number (low_pool_number ∷ high_pool_number ∷ []) es (next-pools low_pool_number (high_pool_number ∷ []) es m)

pub takes-spare : (h : Held) (v w : View) → Takes spare_pools h v w → Takes output_pools h v w
takes-spare h v w t =
    record {
      unheld = t.unheld;
      held = t.held;
      state = t.state;
      from = ⊎_elim (λ a. inl a) (λ b. inr (b.0, ⊎_elim (λ a. inl a) (λ d. absurd d.1) b.1)) t.from;
      moves = moves-spare (events v w) t.moves;
    }

module _ (sh : Shape) (v u w : View) (shape : v.shape ≡ sh) (a : OnlyTraced v u) (b : OnlyTraced u w) (same : u.state ≡ v.state) (none : NoSpare sh (events v u)) (moves : only_moves spare_pools (events v u) ≡ true) where
  both : events v w ≡ events v u ++ events u w
  both = events-join v u w a.log b.log

  -- no packet of one of them
  pool : (q : ℕ) → ((p : ℕ) → was_missed_in spare_pools p (events v u) ≡ true → was_missed q p (events v u) ≡ true) → all_missed v.shape (q ∷ []) (events v w) ≡ true
  pool q this =
      ap (all_missed v.shape (q ∷ [])) both
      ∙ all-missed-left v.shape (q ∷ []) (events v u) (events u w)
      (subst (λ (s : Shape). all_missed s (q ∷ []) (events v u) ≡ true) (sym shape)
      (all-more (λ p. was_missed_in spare_pools p (events v u)) (λ p. was_missed_in (q ∷ []) p (events v u)) (λ p e. and_from _ _ (this p e) refl) (range_with_len 0 sh.packets) none.missed))

  parts : (p : ℕ) → was_missed_in spare_pools p (events v u) ≡ true → (was_missed empty_pool_number p (events v u) ≡ true) × (was_missed low_pool_number p (events v u) ≡ true)
  parts p e =
      let x = and_parts (was_missed empty_pool_number p (events v u)) (was_missed_in (low_pool_number ∷ []) p (events v u)) e in
      (x.0, (and_parts (was_missed low_pool_number p (events v u)) true x.1).0)

  pub takes-last : (h : Held) → Takes (high_pool_number ∷ []) h u w → Takes output_pools h v w
  takes-last h t =
      record {
        unheld = ap (λ (s : SeatState). holds s.held h.packet) (sym same) ∙ t.unheld;
        held = t.held;
        state = t.state ∙ ap (λ (s : SeatState). record s { held = with_packet s.held h.packet h.length }) same;
        from = inr (
          pool empty_pool_number (λ p e. (parts p e).0),
          inr (
            pool low_pool_number (λ p e. (parts p e).1),
            subst (ComesFrom v.shape (high_pool_number ∷ []) h) (sym both)
                (comes-right v.shape (high_pool_number ∷ []) h (events v u) (events u w) none.ungot (subst (λ (s : Shape). ComesFrom s (high_pool_number ∷ []) h (events u w)) a.shape t.from)),
          ),
        );
        moves = ap (only_moves output_pools) both ∙ moves-join output_pools (events v u) (events u w) (moves-spare (events v u) moves) (moves-high (events u w) t.moves);
      }

  pub none-last : (w.state ≡ u.state) × MissesPackets sh high_pool_number true 0 (word_bits * pool_words sh) (events u w) → TakesNone (NoOutput sh) output_pools v w
  none-last n = (
    n.0 ∙ same,
    subst (NoOutput sh) (sym both)
        (all-both (λ p. was_missed_in spare_pools p (events v u)) (λ p. missed sh.entries high_pool_number true p (events u w)) (λ p. was_roomless sh.entries p (events v u ++ events u w))
        (λ p x y. and_from _ _ (missed-in-left spare_pools p (events v u) (events u w) x) (missed-right sh.entries high_pool_number true p (events v u) (events u w) (none.ungot p) y))
        (range_with_len 0 sh.packets)
        none.missed
        (all-range (λ p. missed sh.entries high_pool_number true p (events u w)) 0 sh.packets (λ p l. let low : p < sh.packets = omega (arith, l) in n.1.all p (omega arith) (below-words sh p low) low))),
    ap (only_moves output_pools) both ∙ moves-join output_pools (events v u) (events u w) (moves-spare (events v u) moves) (moves-high (events u w) n.1.moves),
  )

-- a packet that the seat hadn't, whatever pool it came from
pub gains-brings : (q : ℕ) (room : Bool) (h : Held) (v w : View) → v.state.reserved ≡ false → Gains q room h v w → Brings h v w
gains-brings q room h v w r g = record { unheld = g.unheld; held = g.held; state = g.state ∙ (λ i. record v.state { held = with_packet v.state.held h.packet h.length; reserved = sym r i }) }

pub brings-later : (h : Held) (v u w : View) → u.state ≡ v.state → Brings h u w → Brings h v w
brings-later h v u w same b =
    record {
      unheld = ap (λ (s : SeatState). holds s.held h.packet) (sym same) ∙ b.unheld;
      held = b.held;
      state = b.state ∙ ap (λ (s : SeatState). record s { held = with_packet s.held h.packet h.length }) same;
    }
