-- What the search for a block has seen, and the view after it.
use Rattle.std.proofs.Common.{ℕ, ◌≡◌, ◌<◌, ◌≤◌, ◌+◌, ◌-◌, ◌*◌, length, List, [], ◌∷◌, ◌++◌, arith, refl, sym, ap, ◌∙◌, subst, Bool, true, false, not, ◌&&◌, ◌||◌, cond, Some, None, Option, ◌⊎◌, ⊎_elim, append_assoc}
use Rattle.std.specs.Prelude.{◌==◌, is_some, IfSome, IfNone}
use Rattle.std.specs.List.{range_with_len}
use Rattle.std.specs.Int.Count.{ones}
use Rattle.std.proofs.lemmas.Bool.{false≢true, and_from, and_parts, or_left, or_right, or_cases, eq-eqb, eqb-true, not_from_false}
use Rattle.mark_core.specs.Bits.{all_ones, complement}
use Rattle.mark_core.specs.Effects.{place, written, seat_after}
use Rattle.mark_core.specs.Layout.{block_count}
use Rattle.mark_core.specs.Numbers.{free_count}
use Rattle.mark_core.specs.Steps.MutatorSteps.{with_free}
use Rattle.mark_core.specs.Notes.{same_place, steady}
use Rattle.mark_core.specs.Places.{the_phase}
use Rattle.mark_core.specs.Seats.{is_the}
use Rattle.mark_core.specs.declared.kinds.Shape.{Shape}
use Rattle.mark_core.specs.declared.kinds.Step.{Step}
use Rattle.mark_core.specs.declared.kinds.Step.TheVariants.{ClaimBlock, ReadFree, ReleaseBlock, AddStat}
use Rattle.mark_core.specs.declared.seat.CacheState.{CacheState}
use Rattle.mark_core.specs.declared.seat.SeatState.{SeatState}
use Rattle.gc_table.specs.declared.view.Entry.{Entry}
use Rattle.gc_table.specs.declared.view.View.{View}
use Rattle.gc_table.specs.Notes.{look}
use Rattle.gc_table.specs.Seats.{Found, Stored}
use Rattle.gc_table.specs.Taking.{after}
use Rattle.gc_table.proofs.Noticing.{knows-steady, note-stays}
use Rattle.gc_table.specs.Log.{events, all_steps, Only}
use Rattle.gc_table.specs.Running.{Ran}
use Rattle.gc_table.proofs.History.Log.{entry_of, events-none, events-after}
use Rattle.gc_table.proofs.Running.{ran-found, ran-stored, ran-join, ran-events}
use Rattle.alloc_cache.specs.Caching.{cached}
use Rattle.alloc_cache.specs.Claiming.{MayClaim, Misses, NoBlock, Claims, ClaimsFirst, blocks_tried, claimed_by, finds_claimed, full_first, gets_block, notes_idle, seeks_block, seen_taken}
use Rattle.alloc_cache.specs.declared.cache.Cache.{Cache}
use Rattle.alloc_cache.proofs.Conditions.{some-is}
use Rattle.alloc_cache.proofs.Tried.{few-join, one-few, one-tried, tried-join}

may-by : (a k n m : Bool) → (k ≡ true → n ≡ true → m ≡ true) → (a || (k && n)) ≡ true → (a || (k && m)) ≡ true
may-by true k n m h e = refl
may-by false true n m h e = h refl e
may-by false false n m h e = e

-- a step on another word leaves the note of the phase
idle-after : (v w : View) (step : Step) (n : ℕ) → w ≡ after step n v → same_place (place v.shape v.state step) the_phase ≡ false → (seat_after v.shape v.state step n).knows ≡ v.state.knows → v.state.knows ≡ true → notes_idle v ≡ true → notes_idle w ≡ true
idle-after v w step n e apart same knows idle =
    let s : SeatState = seat_after v.shape v.state step n in
    ap notes_idle e
    ∙ ap (λ (o : Option ℕ). is_the o 0)
    (note-stays (steady s) (place v.shape v.state step) the_phase (written v.shape v.state step n) 0 v.known apart (knows-steady s 0 (same ∙ knows)) (some-is (look the_phase v.known) 0 idle))

-- so a seat that may claim still may, if it has no cache
pub may-after : (v w : View) (step : Step) (n : ℕ) → w ≡ after step n v → same_place (place v.shape v.state step) the_phase ≡ false → (o : Option CacheState) → seat_after v.shape v.state step n ≡ record v.state { cache = o }
    → (v.state.active || (v.state.knows && notes_idle v)) ≡ true → (w.state.active || (w.state.knows && notes_idle w)) ≡ true
may-after v w step n e apart o is may =
    let state : w.state ≡ record v.state { cache = o } = ap (λ (x : View). x.state) e ∙ is in
    ap (λ (s : SeatState). s.active || (s.knows && notes_idle w)) state
    ∙ may-by v.state.active v.state.knows (notes_idle v) (notes_idle w) (λ k i. idle-after v w step n e apart (ap (λ (s : SeatState). s.knows) is) k i) may

-- what was seen is seen in more events
full-front : (xs ys : List Entry) → full_first xs ≡ true → full_first (xs ++ ys) ≡ true
full-front [] ys e = absurd (false≢true e)
full-front (x ∷ xs) ys e = e

and-more : (a b c : Bool) → (b ≡ true → c ≡ true) → (a && b) ≡ true → (a && c) ≡ true
and-more true b c h e = h e
and-more false b c h e = e

pub seen-front : (b : ℕ) (xs ys : List Entry) → seen_taken b xs ≡ true → seen_taken b (xs ++ ys) ≡ true
seen-front b [] ys e = absurd (false≢true e)
seen-front b (x ∷ xs) ys e =
    let f : Bool = finds_claimed b x.step x.found in
    let g : Bool = gets_block b x.step x.found in
    ⊎_elim
    (λ (h : (f || g && full_first xs) ≡ true).
    or_left (f || g && full_first (xs ++ ys)) (seen_taken b (xs ++ ys))
    (⊎_elim (λ (k : f ≡ true). or_left f (g && full_first (xs ++ ys)) k) (λ (k : (g && full_first xs) ≡ true). or_right f (g && full_first (xs ++ ys)) (and-more g (full_first xs) (full_first (xs ++ ys)) (full-front xs ys) k)) (or_cases f (g && full_first xs) h)))
    (λ (h : seen_taken b xs ≡ true). or_right (f || g && full_first (xs ++ ys)) (seen_taken b (xs ++ ys)) (seen-front b xs ys h))
    (or_cases (f || g && full_first xs) (seen_taken b xs) e)

pub seen-back : (b : ℕ) (xs ys : List Entry) → seen_taken b ys ≡ true → seen_taken b (xs ++ ys) ≡ true
seen-back b [] ys e = e
seen-back b (x ∷ xs) ys e = or_right (finds_claimed b x.step x.found || gets_block b x.step x.found && full_first (xs ++ ys)) (seen_taken b (xs ++ ys)) (seen-back b xs ys e)

seeks-join : (xs ys : List Entry) → all_steps seeks_block xs ≡ true → all_steps seeks_block ys ≡ true → all_steps seeks_block (xs ++ ys) ≡ true
seeks-join [] ys a b = b
seeks-join (x ∷ xs) ys a b = let p = and_parts (seeks_block x.step) (all_steps seeks_block xs) a in and_from _ _ p.0 (seeks-join xs ys p.1 b)

-- nothing was looked at
pub misses-none : (lo : ℕ) (v : View) → MayClaim v → Misses lo lo v v
misses-none lo v m =
    let none : 0 ≡ lo - lo = omega arith in
    let long = ap length (events-none v) in
    record {
      order = omega arith;
      state = refl;
      own = refl;
      may = m;
      all = λ b l h. absurd (omega (arith, l, h));
      seeks = ap (all_steps seeks_block) (events-none v);
      tried = ap blocks_tried (events-none v) ∙ ap (range_with_len lo) none;
      few = omega (arith, long);
    }

below-or : (k mid : ℕ) → (k < mid) ⊎ (mid ≤ k)
below-or k mid = grind arith

-- more blocks were missed after others
pub misses-join : (lo mid hi : ℕ) (v w x : View) → Ran v w → Ran w x → Misses lo mid v w → Misses mid hi w x → Misses lo hi v x
misses-join lo mid hi v w x a b m n =
    let both : events v x ≡ events v w ++ events w x = ran-events v w x a b in
    let low = m.order in
    let high = n.order in
    record {
      order = omega (arith, low, high);
      state = n.state ∙ m.state;
      own = n.own ∙ m.own;
      may = n.may;
      all =
          λ k l h.
          ap (seen_taken k) both
          ∙ ⊎_elim (λ (e : k < mid). seen-front k (events v w) (events w x) (m.all k l e)) (λ (e : mid ≤ k). seen-back k (events v w) (events w x) (n.all k e h)) (below-or k mid);
      seeks = ap (all_steps seeks_block) both ∙ seeks-join (events v w) (events w x) m.seeks n.seeks;
      tried = tried-join lo mid hi v w x low high a b m.tried n.tried;
      few = few-join lo mid hi v w x low high a b m.few n.few;
    }

-- a block was got after others were missed
pub claims-after : (lo mid : ℕ) (h : Cache) (v w x : View) → Ran v w → Ran w x → w.shape ≡ v.shape → Misses lo mid v w → Claims h w x → Claims h v x
claims-after lo mid h v w x a b shape m k =
    let both : events v x ≡ events v w ++ events w x = ran-events v w x a b in
    let e = k.events_are in
    record {
      block = subst (λ sh. h.block < block_count sh) shape k.block;
      some = k.some;
      state = k.state ∙ ap (λ (s : SeatState). record s { cache = cached h.block h.cells 0 None }) m.state;
      own = k.own ∙ m.own;
      events_are = (
        events v w ++ e.0,
        e.1,
        e.2,
        both ∙ ap (λ l. events v w ++ l) e.3 ∙ sym (append_assoc (events v w) e.0 (claimed_by h e.1 e.2)),
        e.4,
        seeks-join (events v w) e.0 m.seeks e.5,
      );
    }

-- the first block with a free cell, after others that were missed
pub first-after : (lo mid end hi : ℕ) (h : Cache) (v w x : View) → end ≤ hi → Ran v w → Ran w x → w.shape ≡ v.shape → Misses lo mid v w → ClaimsFirst mid end h w x → ClaimsFirst lo hi h v x
first-after lo mid end hi h v w x long a b shape m k =
    let both : events v x ≡ events v w ++ events w x = ran-events v w x a b in
    let low = m.order in
    let at = k.within.0 in
    let below = k.within.1 in
    let last : mid ≤ h.block + 1 = omega (arith, at) in
    record {
      claims = claims-after lo mid h v w x a b shape m k.claims;
      within = (omega (arith, low, at), omega (arith, below, long));
      before =
          λ j l e.
          ap (seen_taken j) both
          ∙ ⊎_elim (λ (g : j < mid). seen-front j (events v w) (events w x) (m.all j l g)) (λ (g : mid ≤ j). seen-back j (events v w) (events w x) (k.before j g e)) (below-or j mid);
      tried = tried-join lo mid (h.block + 1) v w x low last a b m.tried k.tried;
      few = few-join lo mid (h.block + 1) v w x low last a b m.few k.few;
    }

-- the record after a try to claim a block, by whether it had an owner
claim-state : (s : SeatState) (b n : ℕ) (free : Bool) → (n == 0) ≡ free → seat_after (record { cells = 0; packets = 0; entries = 0; sections = 0; fields = 0; objects = 0; sharing = false; slots = 0; stretch = 0 }) s (ClaimBlock b) n ≡ record s { cache = cond free (Some (record { block = b; unread = true; free = 0; used = 0; making = None; last = None })) s.cache }
claim-state s b n free e = ap (λ (q : Bool). record s { cache = cond q (Some (record { block = b; unread = true; free = 0; used = 0; making = None; last = None })) s.cache }) e

-- another seat has the block
pub block-lost : (b n : ℕ) (v w : View) → MayClaim v → (n == 0) ≡ false → Found (ClaimBlock b) n v w → Misses b (b + 1) v w
block-lost b n v w m lost f =
    let is = claim-state v.state b n false lost in
    let state : w.state ≡ v.state = ap (λ (x : View). x.state) f.0 ∙ is in
    let one : events v w ≡ entry_of (ClaimBlock b) n ∷ [] = events-after v w (ClaimBlock b) n f.0 in
    record {
      order = omega arith;
      state = state;
      own = ap (λ (x : View). x.own) f.0;
      may =
          record {
            section = ap (λ (s : SeatState). is_some s.section) state ∙ m.section;
            none = ap (λ (s : SeatState). s.cache) state ∙ m.none;
            may = may-after v w (ClaimBlock b) n f.0 refl v.state.cache is m.may;
          };
      all =
          λ k l h.
          let at : b ≡ k = omega (arith, l, h) in
          ap (seen_taken k) one ∙ or_left (finds_claimed k (ClaimBlock b) n || gets_block k (ClaimBlock b) n && false) false (or_left (finds_claimed k (ClaimBlock b) n) (gets_block k (ClaimBlock b) n && false) (and_from (b == k) (not (n == 0)) (eq-eqb b k at) (not_from_false (n == 0) lost)));
      seeks = ap (all_steps seeks_block) one;
      tried = one-tried b v w _ one refl;
      few = one-few b v w _ one (omega arith);
    }

-- the record after the block was got, and read
pub read-state : (b n word : ℕ) (v w x : View) → (n == 0) ≡ true → Found (ClaimBlock b) n v w → Found ReadFree word w x → x.state ≡ record v.state { cache = cached b (complement word) 0 None }
read-state b n word v w x got f g =
    ap (λ (y : View). y.state) g.0 ∙ ap (λ (s : SeatState). record s { cache = with_free s.cache word }) (ap (λ (y : View). y.state) f.0 ∙ claim-state v.state b n true got)

-- no cell of the block is free
pub block-full : (b n word : ℕ) (v w x y : View) → MayClaim v → (n == 0) ≡ true → word ≡ all_ones → Found (ClaimBlock b) n v w → Found ReadFree word w x → Stored ReleaseBlock x y → Misses b (b + 1) v y
block-full b n word v w x y m got full f g r =
    let one : Ran v w = ran-found v w (ClaimBlock b) n refl f in
    let two : Ran w x = ran-found w x ReadFree word refl g in
    let three : Ran x y = ran-stored x y ReleaseBlock refl r in
    let new : Option CacheState = Some (record { block = b; unread = true; free = 0; used = 0; making = None; last = None }) in
    let is_w = claim-state v.state b n true got in
    let at_w : w.state ≡ record v.state { cache = new } = ap (λ (z : View). z.state) f.0 ∙ is_w in
    let at_x : x.state ≡ record v.state { cache = cached b (complement word) 0 None } = read-state b n word v w x got f g in
    let state : y.state ≡ v.state = ap (λ (z : View). z.state) r ∙ ap (λ (s : SeatState). record s { cache = None }) at_x ∙ ap (λ (o : Option CacheState). record v.state { cache = o }) (sym m.none) in
    let all : events v y ≡ entry_of (ClaimBlock b) n ∷ entry_of ReadFree word ∷ entry_of ReleaseBlock 0 ∷ [] =
    ran-events v w y one (ran-join w x y two three)
    ∙ (λ i. events-after v w (ClaimBlock b) n f.0 i ++ (ran-events w x y two three ∙ (λ j. events-after w x ReadFree word g.0 j ++ events-after x y ReleaseBlock 0 r j)) i) in
    record {
      order = omega arith;
      state = state;
      own = ap (λ (z : View). z.own) r ∙ ap (λ (z : View). z.own) g.0 ∙ ap (λ (z : View). z.own) f.0;
      may =
          record {
            section = ap (λ (s : SeatState). is_some s.section) state ∙ m.section;
            none = ap (λ (s : SeatState). s.cache) state ∙ m.none;
            may =
                may-after x y ReleaseBlock 0 r refl None refl
                (may-after w x ReadFree word g.0 refl (with_free w.state.cache word) refl (may-after v w (ClaimBlock b) n f.0 refl new is_w m.may));
          };
      all =
          λ k l h.
          let at : b ≡ k = omega (arith, l, h) in
          ap (seen_taken k) all
          ∙ or_left (finds_claimed k (ClaimBlock b) n || gets_block k (ClaimBlock b) n && (word == all_ones)) _ (or_right (finds_claimed k (ClaimBlock b) n) (gets_block k (ClaimBlock b) n && (word == all_ones)) (and_from (gets_block k (ClaimBlock b) n) (word == all_ones) (and_from (b == k) (n == 0) (eq-eqb b k at) got) (eq-eqb word all_ones full)));
      seeks = ap (all_steps seeks_block) all;
      tried = one-tried b v y _ all refl;
      few = one-few b v y _ all (omega arith);
    }

-- it has free cells
pub block-got : (b n word count : ℕ) (h : Cache) (v w x y : View) → MayClaim v → b < block_count v.shape → (n == 0) ≡ true → h.block ≡ b → h.cells ≡ complement word → 0 < h.cells → Found (ClaimBlock b) n v w → Found ReadFree word w x
    → Found (AddStat free_count (ones h.cells) true) count x y → ClaimsFirst b (b + 1) h v y
block-got b n word count h v w x y m there got block cells some f g r =
    let one : Ran v w = ran-found v w (ClaimBlock b) n refl f in
    let two : Ran w x = ran-found w x ReadFree word refl g in
    let three : Ran x y = ran-found x y (AddStat free_count (ones h.cells) true) count refl r in
    let none : n ≡ 0 = eqb-true n 0 got in
    let all : events v y ≡ claimed_by h word count =
    ran-events v w y one (ran-join w x y two three)
    ∙ (λ i. events-after v w (ClaimBlock b) n f.0 i ++ (ran-events w x y two three ∙ (λ j. events-after w x ReadFree word g.0 j ++ events-after x y (AddStat free_count (ones h.cells) true) count r.0 j)) i)
    ∙ (λ i. entry_of (ClaimBlock (sym block i)) (none i) ∷ entry_of ReadFree word ∷ entry_of (AddStat free_count (ones h.cells) true) count ∷ []) in
    let end : b + 1 - b ≡ h.block + 1 - b = ap (λ k. k + 1 - b) (sym block) in
    record {
      claims =
          record {
            block = subst (λ k. k < block_count v.shape) (sym block) there;
            some = some;
            state = ap (λ (z : View). z.state) r.0 ∙ read-state b n word v w x got f g ∙ (λ i. record v.state { cache = cached (sym block i) (sym cells i) 0 None });
            own = ap (λ (z : View). z.own) r.0 ∙ ap (λ (z : View). z.own) g.0 ∙ ap (λ (z : View). z.own) f.0;
            events_are = (
              [],
              word,
              count,
              all,
              cells,
              refl,
            );
          };
      within = (omega (arith, block), omega (arith, block));
      before = λ j l e. absurd (omega (arith, block, l, e));
      tried = one-tried b v y _ all (ap (λ k. k ∷ []) block) ∙ ap (range_with_len b) end;
      few = subst (λ k. length (events v y) ≤ 3 * k) end (one-few b v y _ all (omega arith));
    }

-- what holds of an answer gives more of it
pub some-more : {X : Type 0} (o : Option X) (P Q : X → Type 0) → ((x : X) → P x → Q x) → IfSome o P → IfSome o Q
some-more None P Q f h = h
some-more (Some x) P Q f h = f x h

pub none-more : {X : Type 0} (o : Option X) (A B : Type 0) → (A → B) → IfNone o A → IfNone o B
none-more None A B f h = f h
none-more (Some x) A B f h = h

-- all blocks were missed, from one on and before it
pub none-left : (sh : Shape) (first : ℕ) (v w x : View) → Ran v w → Ran w x → Misses first (block_count sh) v w → Misses 0 first w x → (x.state ≡ v.state) × (x.own ≡ v.own) × NoBlock sh (events v x) × Only seeks_block v x
none-left sh first v w x a b m n =
    let both : events v x ≡ events v w ++ events w x = ran-events v w x a b in (
      n.state ∙ m.state,
      n.own ∙ m.own,
      λ k there.
          ap (seen_taken k) both
          ∙ ⊎_elim (λ (e : first ≤ k). seen-front k (events v w) (events w x) (m.all k e there)) (λ (e : k < first). seen-back k (events v w) (events w x) (n.all k (omega arith) e)) (either first k),
      ap (all_steps seeks_block) both ∙ seeks-join (events v w) (events w x) m.seeks n.seeks,
    )
  where
    either : (first k : ℕ) → (first ≤ k) ⊎ (k < first)
    either first k = grind arith
