-- The search of the high pool for a packet with room, packet by packet.
use Rattle.std.proofs.Common.{ℕ, ◌≡◌, ◌<◌, ◌≤◌, ◌+◌, ◌-◌, ◌*◌, ◌/◌, ◌%◌, [], ◌∷◌, ◌++◌, length, arith, refl, sym, ap, ◌∙◌, subst, ⊎_elim, Bool, true, false, eq-eqb}
use Rattle.std.specs.Prelude.{IsTrue}
use Rattle.std.proofs.lemmas.Bool.{and_from, not_from_false, false≢true, or_left, true≢false}
use Rattle.mark_core.specs.Bits.{has_bit}
use Rattle.mark_core.specs.Held.{holds}
use Rattle.mark_core.specs.Numbers.{high_pool_number, word_bits}
use Rattle.mark_core.specs.declared.kinds.Shape.{Shape}
use Rattle.mark_core.specs.declared.kinds.Step.TheVariants.{Look, ReadLength, Take}
use Rattle.mark_core.specs.declared.seat.SeatState.{SeatState}
use Rattle.gc_table.specs.declared.view.View.{View}
use Rattle.gc_table.specs.Log.{events, steps_of}
use Rattle.gc_table.specs.Seats.{Found}
use Rattle.gc_table.proofs.History.Log.{entry_of, events-after, events-join, events-none}
use Rattle.packet_pools.specs.declared.held.Held.{Held}
use Rattle.packet_pools.specs.Gains.{FindsNone, Gains, GainsFirst, MissesPackets, Seeks, missed}
use Rattle.packet_pools.specs.OnlyTraced.{OnlyTraced}
use Rattle.packet_pools.specs.Seeking.{gets, only_moves, was_got}
use Rattle.packet_pools.proofs.Doing.{traced-look}
use Rattle.packet_pools.proofs.Few.{few-after, few-join, few-none, few-steps}
use Rattle.packet_pools.proofs.Searches.{misses-join, misses-none, missed-left, missed-right, moves-join, some-parts}
use Rattle.packet_pools.proofs.TakenOne.{one-taken}
use Rattle.packet_pools.proofs.TracedSteps.{traced-join, traced-refl}
use Rattle.packet_pools.proofs.WordSearch.{gains-from, seeks-on, shown-unheld}

-- the word of packet p was read
module _ (sh : Shape) (p n : ℕ) (v w : View) (looked : Found (Look high_pool_number (p / word_bits)) n v w) where
  pub look-traced : OnlyTraced v w
  look-traced = traced-look v w n high_pool_number (p / word_bits) looked.1 looked.0

  look-state : w.state ≡ v.state
  look-state = ap (λ (z : View). z.state) looked.0

  look-events : events v w ≡ entry_of (Look high_pool_number (p / word_bits)) n ∷ []
  look-events = events-after v w (Look high_pool_number (p / word_bits)) n looked.0

  look-ungot : (x : ℕ) → was_got x (events v w) ≡ false
  look-ungot x = ap (was_got x) look-events

  look-moves : only_moves (high_pool_number ∷ []) (events v w) ≡ true
  look-moves = ap (only_moves (high_pool_number ∷ [])) look-events

  pub look-seeks : Seeks high_pool_number v → Seeks high_pool_number w
  look-seeks k = seeks-on high_pool_number v w look-traced look-state k

  pub look-unheld : p < v.shape.packets → has_bit n (p % word_bits) ≡ true → holds w.state.held p ≡ false
  look-unheld low bit = ap (λ (s : SeatState). holds s.held p) look-state ∙ shown-unheld v high_pool_number (p / word_bits) n p looked.1 (omega arith) low refl bit

  module _ (u : View) (later : OnlyTraced w u) where
    both : events v u ≡ events v w ++ events w u
    both = events-join v w u look-traced.log later.log

    -- then the packet was taken
    pub look-gains : (h : Held) → Gains high_pool_number true h w u → h.packet ≡ p → steps_of (events w u) ≡ Take high_pool_number p ∷ ReadLength p ∷ [] → GainsFirst sh high_pool_number p h v u × (h.packet ≡ p)
    look-gains h g is steps = (
      record {
        gains = gains-from high_pool_number true h v w u look-traced later look-state look-moves g;
        late = omega (arith, is);
        all = λ x l m. absurd (omega (arith, is, l, m));
        got =
            λ x e.
            ⊎_elim
            (λ a. absurd (true≢false (sym a ∙ look-ungot x)))
            (λ b. let same = one-taken x high_pool_number p (events w u) steps b in omega (arith, is, same))
            (some-parts (gets x) (events v w) (events w u) (ap (was_got x) (sym both) ∙ e));
      },
      is,
    )

    pub look-steps : (h : Held) → steps_of (events w u) ≡ Take high_pool_number p ∷ ReadLength p ∷ [] → length (events v u) ≤ 3
    look-steps h steps =
        few-join 1 2 v w u look-traced.ran later.ran (few-after v w (Look high_pool_number (p / word_bits)) n looked.0) (few-steps 2 w u (Take high_pool_number p ∷ ReadLength p ∷ []) steps (omega arith))

    pub look-tries : length (events w u) ≤ 4 → length (events v u) ≤ 5
    look-tries few = few-join 1 4 v w u look-traced.ran later.ran (few-after v w (Look high_pool_number (p / word_bits)) n looked.0) few

    -- or it couldn't be had with room
    this : p < sh.packets → (p < sh.packets → has_bit n (p % word_bits) ≡ true → missed sh.entries high_pool_number true p (events w u) ≡ true) → (b : Bool) → has_bit n (p % word_bits) ≡ b → missed sh.entries high_pool_number true p (events v w ++ events w u) ≡ true
    this low miss true e = missed-right sh.entries high_pool_number true p (events v w) (events w u) (look-ungot p) (miss low e)
    this low miss false e =
        missed-left sh.entries high_pool_number true p (events v w) (events w u)
        (ap (missed sh.entries high_pool_number true p) look-events
        ∙ or_left _ _ (or_left _ _ (or_left _ _ (and_from _ _ (eq-eqb (p / word_bits) (p / word_bits) refl) (not_from_false _ e)))))

    pub look-none : (u.state ≡ w.state) × ((x : ℕ) → IsTrue (was_got x (events w u)) → IsTrue true × (x < p + 1)) × (p < sh.packets → IsTrue (has_bit n (p % word_bits)) → IsTrue (missed sh.entries high_pool_number true p (events w u))) × IsTrue (only_moves (high_pool_number ∷ []) (events w u)) → FindsNone sh high_pool_number true p (p + 1) v u
    look-none k = (
      k.0 ∙ look-state,
      record {
        all =
            λ x l m low.
            let is : p ≡ x = omega (arith, l, m) in
            subst (λ y. missed sh.entries high_pool_number true y (events v u) ≡ true) is
            (ap (missed sh.entries high_pool_number true p) both ∙ this (subst (λ y. y < sh.packets) (sym is) low) k.2 (has_bit n (p % word_bits)) refl);
        got =
            λ x e.
            ⊎_elim
            (λ a. absurd (true≢false (sym a ∙ look-ungot x)))
            (λ b. k.1 x b)
            (some-parts (gets x) (events v w) (events w u) (ap (was_got x) (sym both) ∙ e));
        moves = ap (only_moves (high_pool_number ∷ [])) both ∙ moves-join (high_pool_number ∷ []) (events v w) (events w u) look-moves k.3;
      },
    )

-- so far no packet from this one on and below p had room
pub record Passes (sh : Shape) (from p : ℕ) (v w : View) : Type 0 where
  pub only : OnlyTraced v w
  pub state : w.state ≡ v.state
  pub misses : MissesPackets sh high_pool_number true from p (events v w)
  pub there : (x : ℕ) → IsTrue (was_got x (events v w)) → x < sh.packets
  pub few : length (events v w) ≤ 5 * (p - from)
  pub most : length (events v w) ≤ 5 * (sh.packets - from)

pub passes-start : (sh : Shape) (from : ℕ) (v : View) → Passes sh from from v v
passes-start sh from v =
    let none = events-none v in
    record {
      only = traced-refl v;
      state = refl;
      misses = subst (MissesPackets sh high_pool_number true from from) (sym none) (misses-none sh high_pool_number true from);
      there = λ x e. absurd (false≢true (ap (was_got x) (sym none) ∙ e));
      few = let zero = few-none v in omega (arith, zero);
      most = let zero = few-none v in omega (arith, zero);
    }

module _ (sh : Shape) (from p : ℕ) (v w : View) (late : from ≤ p) (low : p < sh.packets) (k : Passes sh from p v w) where
  pub passes-next : (u : View) → OnlyTraced w u → FindsNone sh high_pool_number true p (p + 1) w u → length (events w u) ≤ 5 → Passes sh from (p + 1) v u
  passes-next u later none few =
      let both = events-join v w u k.only.log later.log in
      let all = few-join (5 * (p - from)) 5 v w u k.only.ran later.ran k.few few in
      record {
        only = traced-join v w u k.only later;
        state = none.0 ∙ k.state;
        misses = subst (MissesPackets sh high_pool_number true from (p + 1)) (sym both) (misses-join sh high_pool_number true from p (p + 1) (events v w) (events w u) (omega arith) k.misses none.1);
        there =
            λ x e.
            ⊎_elim
            (λ a. k.there x a)
            (λ b. let l = (none.1.got x b).1 in omega (arith, l, low))
            (some-parts (gets x) (events v w) (events w u) (ap (was_got x) (sym both) ∙ e));
        few = omega (arith, all, late);
        most = omega (arith, all, late, low);
      }

  pub passes-gains : (h : Held) (u : View) → OnlyTraced w u → GainsFirst sh high_pool_number p h w u × (h.packet ≡ p) → GainsFirst sh high_pool_number from h v u
  passes-gains h u later g =
      let both = events-join v w u k.only.log later.log in
      let is = g.1 in
      record {
        gains = gains-from high_pool_number true h v w u k.only later k.state k.misses.moves g.0.gains;
        late = omega (arith, is, late);
        all = λ x l m. ap (missed sh.entries high_pool_number true x) both ∙ missed-left sh.entries high_pool_number true x (events v w) (events w u) (k.misses.all x l (omega (arith, m, is)) (omega (arith, m, is, low)));
        got =
            λ x e.
            ⊎_elim
            (λ a. let l = (k.misses.got x a).1 in omega (arith, l, is))
            (λ b. g.0.got x b)
            (some-parts (gets x) (events v w) (events w u) (ap (was_got x) (sym both) ∙ e));
      }

  pub passes-few : (h : Held) (u : View) → OnlyTraced w u → h.packet ≡ p → length (events w u) ≤ 3 → length (events v u) ≤ 5 * (h.packet - from) + 3
  passes-few h u later is few = let all = few-join (5 * (p - from)) 3 v w u k.only.ran later.ran k.few few in omega (arith, all, is)

pub passes-end : (sh : Shape) (from p : ℕ) (v w : View) → sh.packets ≤ p → Passes sh from p v w → FindsNone sh high_pool_number true from sh.packets v w
passes-end sh from p v w past k = (
  k.state,
  record {
    all = λ x l m low. k.misses.all x l (omega (arith, m, past)) low;
    got = λ x e. (refl, k.there x e);
    moves = k.misses.moves;
  },
)
