-- What a call has tried of the packets with room, as more events come.
use Rattle.std.proofs.Common.{ℕ, ◌≡◌, ◌<◌, ◌≤◌, ◌+◌, ◌⊎◌, ⊎_elim, inl, inr, List, [], ◌∷◌, ◌++◌, arith, refl, sym, ap, ◌∙◌, subst, Bool, true, false, cond, eqb, eqb-true, eq-eqb}
use Rattle.std.specs.Prelude.{IsTrue, nat_le, ◌||◌, ◌&&◌, ◌==◌, ◌%◌}
use Rattle.std.proofs.lemmas.Bool.{false≢true, true≢false, and_parts, and_from, or_right, or_cases, le-leb, leb-true, cases_lt}
use Rattle.std.proofs.lemmas.List.{append_assoc}
use Rattle.mark_core.specs.Bits.{has_bit, reference_in}
use Rattle.mark_core.specs.Numbers.{high_pool_number, word_bits}
use Rattle.mark_core.specs.declared.kinds.Shape.{Shape}
use Rattle.mark_core.specs.declared.kinds.Step.{Step}
use Rattle.mark_core.specs.declared.kinds.Step.TheVariants.{DirtyCard, Push, ReadLength, Take}
use Rattle.gc_table.specs.declared.view.Entry.{Entry}
use Rattle.gc_table.specs.declared.view.View.{View}
use Rattle.gc_table.specs.Log.{events}
use Rattle.gc_table.proofs.History.Log.{entry_of}
use Rattle.packet_pools.specs.declared.held.Held.{Held}
use Rattle.packet_pools.specs.declared.search.Search.{Search}
use Rattle.packet_pools.specs.declared.search.Search.TheVariants.{Open, Tried}
use Rattle.packet_pools.specs.Counts.{count_of, dirties}
use Rattle.packet_pools.specs.Gains.{GainsFirst, MissesPackets, missed}
use Rattle.packet_pools.specs.Orders.{some_end}
use Rattle.packet_pools.specs.Seeking.{gets, gets_from, reads_full, some_event, was_full, was_got, was_got_from}
use Rattle.packet_pools.specs.Tried.{DirtiesTried, HasTried, IsTried, Leads, LeadsFull, NoSpare, SearchesOn, StaysFull, all_tried, fill_of, is_spent, pushes_into, reads_with, spare_pools, was_filled}
use Rattle.packet_pools.proofs.Counting.{after-join, after-none, count-join, end-more, end-whole}
use Rattle.packet_pools.proofs.Searches.{all-missed-left, all-range, either-way, some-left, some-parts, some-right, was-missed-left, was-missed-right}

-- more cells came in, and no more are asked for
reads-on : (a b m n p : ℕ) (step : Step) (found : ℕ) → n + a ≤ m + b → reads_with a m p step found ≡ true → reads_with b n p step found ≡ true
reads-on a b m n p (ReadLength x) found more h =
    let k = and_parts (eqb x p) (nat_le m (reference_in found + a)) h in
    let le = leb-true m (reference_in found + a) k.1 in
    and_from _ _ k.0 (le-leb n (reference_in found + b) (omega (arith, le, more)))
reads-on a b m n p step found more h = absurd (false≢true h)

filled-on : (p m n : ℕ) (xs ys : List Entry) → n ≤ m + count_of (pushes_into p) ys → was_filled m p xs ≡ true → was_filled n p (xs ++ ys) ≡ true
filled-on p m n [] ys more h = absurd (false≢true h)
filled-on p m n (x ∷ xs) ys more h =
    let all = count-join (pushes_into p) xs ys in
    either-way _ _ _ _
    (λ e. reads-on (count_of (pushes_into p) xs) (count_of (pushes_into p) (xs ++ ys)) m n p x.step x.found (omega (arith, all, more)) e)
    (λ e. filled-on p m n xs ys more e)
    h

pub filled-right : (p m : ℕ) (xs ys : List Entry) → was_filled m p ys ≡ true → was_filled m p (xs ++ ys) ≡ true
filled-right p m [] ys h = h
filled-right p m (x ∷ xs) ys h = or_right (reads_with (count_of (pushes_into p) (xs ++ ys)) m p x.step x.found) _ (filled-right p m xs ys h)

-- a packet that was read as full
full-read : (entries more p : ℕ) (step : Step) (found : ℕ) → reads_full entries p step found ≡ true → reads_with more entries p step found ≡ true
full-read entries more p (ReadLength x) found h =
    let k = and_parts (eqb x p) (nat_le entries (reference_in found)) h in
    let le = leb-true entries (reference_in found) k.1 in
    and_from _ _ k.0 (le-leb entries (reference_in found + more) (omega (arith, le)))
full-read entries more p step found h = absurd (false≢true h)

some-full : (entries p : ℕ) (es : List Entry) → some_event (reads_full entries p) es ≡ true → was_filled entries p es ≡ true
some-full entries p [] h = absurd (false≢true h)
some-full entries p (e ∷ es) h = either-way _ _ _ _ (λ a. full-read entries (count_of (pushes_into p) es) p e.step e.found a) (λ a. some-full entries p es a) h

full-filled : (entries p : ℕ) (es : List Entry) → was_full entries p es ≡ true → was_filled entries p es ≡ true
full-filled entries p [] h = absurd (false≢true h)
full-filled entries p (e ∷ es) h =
    or_right (reads_with (count_of (pushes_into p) es) entries p e.step e.found) _
    (⊎_elim
    (λ a. some-full entries p es (and_parts _ (some_event (reads_full entries p) es) a).1)
    (λ a. full-filled entries p es a)
    (or_cases _ (was_full entries p es) h))

-- and taken before
got-one : (q p : ℕ) (step : Step) (found : ℕ) → gets_from q p step found ≡ true → gets p step found ≡ true
got-one q p (Take pool packet) found h =
    let a = and_parts ((pool == q) && (packet == p)) (has_bit found (p % word_bits)) h in
    and_from _ _ (and_parts (pool == q) (packet == p) a.0).1 a.1
got-one q p step found h = absurd (false≢true h)

got-from : (q p : ℕ) (es : List Entry) → was_got_from q p es ≡ true → was_got p es ≡ true
got-from q p [] h = absurd (false≢true h)
got-from q p (e ∷ es) h = either-way _ _ _ _ (got-one q p e.step e.found) (got-from q p es) h

full-got : (entries p : ℕ) (es : List Entry) → was_full entries p es ≡ true → was_got p es ≡ true
full-got entries p [] h = absurd (false≢true h)
full-got entries p (e ∷ es) h =
    either-way _ _ _ _
    (λ a. got-one high_pool_number p e.step e.found (and_parts (gets_from high_pool_number p e.step e.found) (some_event (reads_full entries p) es) a).0)
    (full-got entries p es)
    h

-- a packet that was spent, with events after and before
spent-on : (p m n : ℕ) (xs ys : List Entry) → n ≤ m + count_of (pushes_into p) ys → is_spent m p xs ≡ true → is_spent n p (xs ++ ys) ≡ true
spent-on p m n xs ys more h =
    either-way _ _ _ _ (was-missed-left high_pool_number p xs ys)
    (λ e. let b = and_parts (was_got p xs) (was_filled m p xs) e in and_from _ _ (some-left (gets p) xs ys b.0) (filled-on p m n xs ys more b.1))
    h

spent-right : (entries p : ℕ) (xs ys : List Entry) → was_got p xs ≡ false → missed entries high_pool_number true p ys ≡ true → is_spent entries p (xs ++ ys) ≡ true
spent-right entries p xs ys none h = either-way _ _ _ _ (was-missed-right high_pool_number p xs ys none) (λ e. and_from _ _ (some-right (gets p) xs ys (full-got entries p ys e)) (filled-right p entries xs ys (full-filled entries p ys e))) h

-- what is asked of a packet
fill-this : (sh : Shape) (h : Held) → fill_of sh h h.packet ≡ h.length
fill-this sh h = ap (λ (b : Bool). cond b h.length sh.entries) (eq-eqb h.packet h.packet refl)

fill-other : (sh : Shape) (h : Held) (p : ℕ) → eqb p h.packet ≡ false → fill_of sh h p ≡ sh.entries
fill-other sh h p e = ap (λ (b : Bool). cond b h.length sh.entries) e

fill-full : (sh : Shape) (h : Held) (p : ℕ) → h.length ≡ sh.entries → fill_of sh h p ≡ sh.entries
fill-full sh h p full = either (eqb p h.packet)
  where
    either : (b : Bool) → cond b h.length sh.entries ≡ sh.entries
    either true = full
    either false = refl

fill-more : (sh : Shape) (h k : Held) (p : ℕ) (es : List Entry) → k.packet ≡ h.packet → k.length ≤ h.length + count_of (pushes_into h.packet) es → fill_of sh k p ≤ fill_of sh h p + count_of (pushes_into p) es
fill-more sh h k p es same more = by_packet (eqb p h.packet) refl
  where
    by_packet : (b : Bool) → eqb p h.packet ≡ b → fill_of sh k p ≤ fill_of sh h p + count_of (pushes_into p) es
    by_packet true e =
        let is = eqb-true p h.packet e in
        let mine = fill-this sh h in
        let this = ap (fill_of sh k) (sym same) ∙ fill-this sh k in
        subst (λ x. fill_of sh k x ≤ fill_of sh h x + count_of (pushes_into x) es) (sym is) (omega (arith, mine, this, more))
    by_packet false e =
        let mine = fill-other sh h p e in
        let this = fill-other sh k p (ap (eqb p) same ∙ e) in
        omega (arith, mine, this)

-- an excuse stands
or-on : (a b c : Bool) → (b ≡ true → c ≡ true) → (a || b) ≡ true → (a || c) ≡ true
or-on a b c f h = either-way a b a c (λ e. e) f h

-- events that take no packet, and put cells into the one that is filled
pub leads-on : (sh : Shape) (s : Search) (h k : Held) (es : List Entry) → k.packet ≡ h.packet → k.length ≤ h.length + count_of (pushes_into h.packet) es → ((p : ℕ) → was_got p es ≡ false) → Leads sh s s h k es
leads-on sh Open h k es same more none = λ excused before i. i
leads-on sh (Tried n) h k es same more none = λ excused before i.
    let later : List Entry = i.1 in
    let t = i.3 in (
      i.0,
      later ++ es,
      ap (λ l. l ++ es) i.2 ∙ append_assoc i.0 later es,
      record {
        missed = all-missed-left sh spare_pools later es t.missed;
        spent =
            λ p low which.
            or-on (excused p) (is_spent (fill_of sh h p) p later) (is_spent (fill_of sh k p) p (later ++ es))
            (spent-on p (fill_of sh h p) (fill_of sh k p) later es (fill-more sh h k p es same more))
            (t.spent p low
            (⊎_elim
            (λ (l : p < n). inl l)
            (λ g. ⊎_elim (λ a. inr a) (λ b. absurd (true≢false (sym b ∙ none p))) (some-parts (gets p) later es g))
            which));
      },
    )

-- no packet of the empty or the low pool was found
pub leads-first : (sh : Shape) (h : Held) (es : List Entry) → NoSpare sh es → Leads sh Open (Tried 0) h h es
leads-first sh h es none = λ excused before i. (
  before,
  es,
  refl,
  record {
    missed = none.missed;
    spent =
        λ p low which.
        absurd (⊎_elim (λ (l : p < 0). omega (arith, l)) (λ g. true≢false (sym g ∙ none.ungot p)) which);
  },
)

-- a packet that was spent before, while all that are filled are full
spent-before : (sh : Shape) (excused : ℕ → Bool) (h : Held) (p : ℕ) (xs ys : List Entry) → h.length ≡ sh.entries → (excused p || is_spent (fill_of sh h p) p xs) ≡ true → (excused p || is_spent sh.entries p (xs ++ ys)) ≡ true
spent-before sh excused h p xs ys full e =
    or-on (excused p) (is_spent (fill_of sh h p) p xs) (is_spent sh.entries p (xs ++ ys))
    (let fill = fill-full sh h p full in spent-on p (fill_of sh h p) sh.entries xs ys (omega (arith, fill)))
    e

-- a packet that is tried, if it wasn't before
spent-now : (sh : Shape) (excused : ℕ → Bool) (from : ℕ) (h : Held) (p : ℕ) (xs ys : List Entry) → h.length ≡ sh.entries → p < sh.packets → HasTried sh excused from h xs → (from ≤ p → (was_got p xs ≡ false) → IsTrue (missed sh.entries high_pool_number true p ys)) → (excused p || is_spent sh.entries p (xs ++ ys)) ≡ true
spent-now sh excused from h p xs ys full low t now =
    ⊎_elim
    (λ (l : p < from). spent-before sh excused h p xs ys full (t.spent p low (inl l)))
    (λ (l : from ≤ p). by_got l (was_got p xs) refl)
    (cases_lt p from)
  where
    by_got : from ≤ p → (b : Bool) → was_got p xs ≡ b → (excused p || is_spent sh.entries p (xs ++ ys)) ≡ true
    by_got l true e = spent-before sh excused h p xs ys full (t.spent p low (inr e))
    by_got l false e = or_right (excused p) _ (spent-right sh.entries p xs ys e (now l e))

-- no packet from this one on had room in the high pool
pub leads-past : (sh : Shape) (from : ℕ) (es : List Entry) → MissesPackets sh high_pool_number true from sh.packets es → StaysFull sh (Tried from) (Tried sh.packets) es
leads-past sh from es m = λ h full excused before i.
    let later : List Entry = i.1 in
    let t = i.3 in (
      i.0,
      later ++ es,
      ap (λ l. l ++ es) i.2 ∙ append_assoc i.0 later es,
      record {
        missed = all-missed-left sh spare_pools later es t.missed;
        spent =
            λ p low which.
            ap (λ n. excused p || is_spent n p (later ++ es)) (fill-full sh h p full)
            ∙ spent-now sh excused from h p later es full low t (λ l e. m.all p l low low);
      },
    )

-- packet k was the first with room
pub leads-found : (sh : Shape) (from : ℕ) (k : Held) (v w : View) → GainsFirst sh high_pool_number from k v w → LeadsFull sh (Tried from) (Tried (k.packet + 1)) k (events v w)
leads-found sh from k v w g = λ h full excused before i.
    let later : List Entry = i.1 in
    let es : List Entry = events v w in
    let t = i.3 in (
      i.0,
      later ++ es,
      ap (λ l. l ++ es) i.2 ∙ append_assoc i.0 later es,
      record {
        missed = all-missed-left sh spare_pools later es t.missed;
        spent = λ p low which. by_packet h full excused later t p low which (eqb p k.packet) refl;
      },
    )
  where
    es : List Entry
    es = events v w

    -- up to packet k, if it wasn't taken before
    within : (later : List Entry) (p : ℕ) → (p < k.packet + 1) ⊎ IsTrue (was_got p (later ++ es)) → was_got p later ≡ false → p ≤ k.packet
    within later p which none =
        ⊎_elim
        (λ (l : p < k.packet + 1). omega (arith, l))
        (λ e. ⊎_elim (λ a. absurd (true≢false (sym a ∙ none))) (λ b. g.got p b) (some-parts (gets p) later es e))
        which

    other : (p : ℕ) → eqb p k.packet ≡ false → p ≤ k.packet → p < k.packet
    other p e l = ⊎_elim (λ (a : p < k.packet). a) (λ (b : k.packet ≤ p). absurd (true≢false (sym (eq-eqb p k.packet (omega (arith, l, b))) ∙ e))) (cases_lt p k.packet)

    by_packet : (h : Held) → h.length ≡ sh.entries → (excused : ℕ → Bool) (later : List Entry) → HasTried sh excused from h later → (p : ℕ) → p < sh.packets → (p < k.packet + 1) ⊎ IsTrue (was_got p (later ++ es)) → (b : Bool) → eqb p k.packet ≡ b
        → (excused p || is_spent (fill_of sh k p) p (later ++ es)) ≡ true
    by_packet h full excused later t p low which true e =
        or_right (excused p) _
        (or_right _ _
        (subst (λ x. (was_got x (later ++ es) && was_filled (fill_of sh k x) x (later ++ es)) ≡ true) (sym (eqb-true p k.packet e))
        (ap (λ n. was_got k.packet (later ++ es) && was_filled n k.packet (later ++ es)) (fill-this sh k)
        ∙ and_from _ _ (some-right (gets k.packet) later es (got-from high_pool_number k.packet es g.gains.got)) (filled-right k.packet k.length later es g.gains.read))))
    by_packet h full excused later t p low which false e =
        ap (λ n. excused p || is_spent n p (later ++ es)) (fill-other sh k p e)
        ∙ spent-now sh excused from h p later es full low t (λ l none. g.all p l (other p e (within later p which none)))

-- one call after another
pub leads-join : (sh : Shape) (s t u : Search) (h k l : Held) (xs ys es : List Entry) → es ≡ xs ++ ys → Leads sh s t h k xs → Leads sh t u k l ys → Leads sh s u h l es
leads-join sh s t u h k l xs ys es all a b = λ excused before i.
    subst (IsTried sh excused u l) (append_assoc before xs ys ∙ ap (λ zs. before ++ zs) (sym all)) (b excused (before ++ xs) (a excused before i))

pub searches-join : (sh : Shape) (s t u : Search) (h k l : Held) (xs ys es : List Entry) → es ≡ xs ++ ys → SearchesOn sh s t h k xs → SearchesOn sh t u k l ys → SearchesOn sh s u h l es
searches-join sh s t u h k l xs ys es all a b =
    record {
      cause =
          λ excused before i.
          subst (DirtiesTried sh excused before) (sym all)
          (after-join (some_end (all_tried sh excused)) dirties before xs ys (a.cause excused before i) (b.cause excused (before ++ xs) (a.leads excused before i)));
      leads = leads-join sh s t u h k l xs ys es all a.leads b.leads;
    }

-- no card was dirtied
pub searches-quiet : (sh : Shape) (s t : Search) (h k : Held) (es : List Entry) → some_event dirties es ≡ false → Leads sh s t h k es → SearchesOn sh s t h k es
searches-quiet sh s t h k es quiet leads = record { cause = λ excused before i. after-none (some_end (all_tried sh excused)) dirties before es quiet; leads = leads }

-- all packets were tried
all-tried : (sh : Shape) (excused : ℕ → Bool) (h : Held) (es : List Entry) → h.length ≡ sh.entries → IsTried sh excused (Tried sh.packets) h es → some_end (all_tried sh excused) es ≡ true
all-tried sh excused h es full i =
    ap (some_end (all_tried sh excused)) i.2
    ∙ end-more (all_tried sh excused) i.0 i.1
    (end-whole (all_tried sh excused) i.1
    (and_from _ _ i.3.missed
    (all-range (λ p. excused p || is_spent sh.entries p i.1) 0 sh.packets
    (λ p l. let low : p < sh.packets = omega (arith, l) in ap (λ n. excused p || is_spent n p i.1) (sym (fill-full sh h p full)) ∙ i.3.spent p low (inl low)))))

-- then a card was dirtied
pub searches-lost : (sh : Shape) (h : Held) (card n : ℕ) → h.length ≡ sh.entries → SearchesOn sh (Tried sh.packets) (Tried sh.packets) h h (entry_of (DirtyCard card) n ∷ [])
searches-lost sh h card n full =
    record {
      cause = λ excused before i. and_from _ _ (all-tried sh excused h before full i) refl;
      leads = leads-on sh (Tried sh.packets) h h (entry_of (DirtyCard card) n ∷ []) refl (omega arith) (λ p. refl);
    }

-- a cell was pushed into the packet that is filled
pub searches-push : (sh : Shape) (s : Search) (h : Held) (cell n : ℕ) → SearchesOn sh s s h (record h { length = h.length + 1 }) (entry_of (Push h.packet cell) n ∷ [])
searches-push sh s h cell n =
    searches-quiet sh s s h (record h { length = h.length + 1 }) (entry_of (Push h.packet cell) n ∷ []) refl
    (leads-on sh s h (record h { length = h.length + 1 }) (entry_of (Push h.packet cell) n ∷ []) refl (let one = ap (λ (b : Bool). cond b 1 0 + 0) (eq-eqb h.packet h.packet refl) in omega (arith, one)) (λ p. refl))

-- nothing was searched for, and no card dirtied
pub searches-still : (sh : Shape) (s : Search) (h : Held) (es : List Entry) → some_event dirties es ≡ false → ((p : ℕ) → was_got p es ≡ false) → SearchesOn sh s s h h es
searches-still sh s h es quiet none = searches-quiet sh s s h h es quiet (leads-on sh s h h es refl (omega arith) none)
