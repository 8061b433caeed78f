-- The scan of one root after another.
use Rattle.std.proofs.Common.{ℕ, zero, suc, inl, inr, ◌≡◌, ◌<◌, ◌+◌, ◌-◌, List, [], ◌∷◌, ◌++◌, refl, sym, ap, ◌∙◌, subst, arith, cond, Bool, true, false, Some, None, Option, ⊎_elim}
use Rattle.std.specs.Prelude.{◌==◌, ◌&&◌, ◌||◌, ◌⊎◌, is_some, nat_lt}
use Rattle.std.specs.List.{list_all, range_with_len}
use Rattle.std.proofs.lemmas.Bool.{and_from, and_parts, cases_Bool, eq-eqb, false≢true, lt-ltb, ltb-false, ltb-true, not_from_false, or_cases, or_left, or_parts, or_right}
use Rattle.mark_core.specs.Bits.{cell_named, cell_of}
use Rattle.mark_core.specs.Effects.{seat_after}
use Rattle.mark_core.specs.Held.{holds_any}
use Rattle.mark_core.specs.Numbers.{section_variables}
use Rattle.mark_core.specs.Seats.{cleaning_left, is_the, scan_left, work_in_hand}
use Rattle.mark_core.specs.declared.kinds.Shape.{Shape}
use Rattle.mark_core.specs.declared.kinds.Step.{Step}
use Rattle.mark_core.specs.declared.kinds.Step.TheVariants.{DirtyCard, Give, Push, ReadRoot, ReadField, SetMark, Reserve, Take, Credit, Look, StoreLength, ReadLength}
use Rattle.mark_core.specs.declared.seat.SeatState.{SeatState}
use Rattle.mark_core.proofs.Pool.PoolSlots.{any-held}
use Rattle.gc_table.specs.declared.view.Entry.{Entry}
use Rattle.gc_table.specs.declared.view.View.{View}
use Rattle.gc_table.specs.Taking.{May, after}
use Rattle.packet_pools.specs.declared.held.Held.{Held}
use Rattle.gc_table.specs.Running.{after_all}
use Rattle.packet_pools.specs.OnlyTraced.{OnlyTraced}
use Rattle.gc_table.specs.Log.{events}
use Rattle.packet_pools.specs.Tracing.{traces}
use Rattle.packet_pools.specs.Scanning.{InHand, Pushes}
use Rattle.packet_pools.specs.Seeking.{only_moves, output_pools, some_event}
use Rattle.packet_pools.specs.Counts.{count_of, CountsMarked, dirties, marks_white, only_scans, scans_object}
use Rattle.packet_pools.specs.Fields.{AsksToMark, cells_asked, picked}
use Rattle.packet_pools.proofs.Conditions.{may-trace}
use Rattle.packet_pools.proofs.Counting.{count-join, counts-moves}
use Rattle.packet_pools.proofs.Exchanged.{known-held}
use Rattle.gc_table.proofs.History.Log.{entry_of}
use Rattle.packet_pools.proofs.Reading.{asks-moves, fields-next, picked-join}
use Rattle.packet_pools.proofs.Searches.{some-left}
use Rattle.packet_pools.proofs.Settled.{settles-left}
use Rattle.tracer.specs.Hands.{Carries}
use Rattle.tracer.specs.Roots.{cells_rooted, FollowsRoots, only_roots, root_marked, roots_of, roots_read, roots_scanned, scans_roots, shows_marked, shows_root}
use Rattle.tracer.proofs.Hand.{free-of, none-of, work-of}

-- a step of the scan of an object reads no root
unrooted-one : (step : Step) (n : ℕ) → scans_object step ≡ true → (roots_read step n ≡ []) × (cells_rooted step n ≡ []) × (scans_roots step ≡ true)
unrooted-one (ReadRoot s v) n m = absurd (false≢true m)
unrooted-one step n m = (refl, refl, m)

pub record Unrooted (es : List Entry) : Type 0 where
  pub read : picked roots_read es ≡ []
  pub named : picked cells_rooted es ≡ []
  pub steps : only_roots es ≡ true

pub unrooted : (es : List Entry) → only_scans es ≡ true → Unrooted es
unrooted [] m = record { read = refl; named = refl; steps = refl }
unrooted (e ∷ es) m =
    let h = and_parts (scans_object e.step) (only_scans es) m in
    let k = unrooted-one e.step e.found h.0 in
    let r = unrooted es h.1 in
    record { read = λ i. k.0 i ++ r.read i; named = λ i. k.1 i ++ r.named i; steps = and_from _ _ k.2 r.steps }

pub roots-moves : (sh : Shape) (es : List Entry) → only_moves output_pools es ≡ true → FollowsRoots sh [] 0 0 es
roots-moves sh es m =
    let c = counts-moves sh es m in
    let u = unrooted es c.scans in
    record { read = u.read; asked = (asks-moves es m).asked ∙ sym u.named; marked = c.marked; dirtied = c.overflowed; steps = u.steps }

-- a nil root
pub root-nil : (sh : Shape) (s v n : ℕ) (es : List Entry) → es ≡ entry_of (ReadRoot s v) n ∷ [] → n ≡ 0 → FollowsRoots sh ((s, v) ∷ []) 0 0 es
root-nil sh s v n es all e =
    record {
      read = ap (picked roots_read) all;
      asked = ap (picked cells_asked) all ∙ sym (ap (picked cells_rooted) all ∙ ap (λ (m : ℕ). cond (m == 0) [] (cell_of m ∷ []) ++ []) e);
      marked = ap (count_of marks_white) all;
      dirtied = ap (count_of dirties) all;
      steps = ap only_roots all;
    }

-- a root that refers to a cell, which then is to be marked
pub root-cell : (sh : Shape) (s v n white kept lost : ℕ) (ys es : List Entry) → es ≡ entry_of (ReadRoot s v) n ∷ ys → (n == 0) ≡ false → AsksToMark (cell_of n ∷ []) ys → CountsMarked sh white kept lost ys → FollowsRoots sh ((s, v) ∷ []) white lost es
root-cell sh s v n white kept lost ys es all e a c =
    let u = unrooted ys c.scans in
    let one : List Entry = entry_of (ReadRoot s v) n ∷ [] in
    record {
      read = ap (picked roots_read) all ∙ ap (λ l. (s, v) ∷ l) u.read;
      asked = ap (picked cells_asked) all ∙ (a.asked ∙ sym (ap (picked cells_rooted) all ∙ (λ j. cond (e j) [] (cell_of n ∷ []) ++ u.named j)));
      marked = ap (count_of marks_white) all ∙ (zero-plus (count_of marks_white ys) ∙ c.marked);
      dirtied = ap (count_of dirties) all ∙ (zero-plus (count_of dirties ys) ∙ c.overflowed);
      steps = ap only_roots all ∙ u.steps;
    }
  where
    zero-plus : (m : ℕ) → 0 + m ≡ m
    zero-plus m = omega arith

roots-append : (xs ys : List Entry) → only_roots xs ≡ true → only_roots ys ≡ true → only_roots (xs ++ ys) ≡ true
roots-append [] ys a b = b
roots-append (x ∷ xs) ys a b = let h = and_parts (scans_roots x.step) (only_roots xs) a in and_from _ _ h.0 (roots-append xs ys h.1 b)

pub roots-join : (sh : Shape) (fs gs : List (ℕ × ℕ)) (a b c k l m : ℕ) (xs ys es : List Entry) → es ≡ xs ++ ys → a + b ≡ c → k + l ≡ m → FollowsRoots sh fs a k xs → FollowsRoots sh gs b l ys → FollowsRoots sh (fs ++ gs) c m es
roots-join sh fs gs a b c k l m xs ys es all ab kl f g =
    record {
      read = ap (picked roots_read) all ∙ (picked-join roots_read xs ys ∙ (λ i. f.read i ++ g.read i));
      asked =
          ap (picked cells_asked) all
          ∙ (picked-join cells_asked xs ys ∙ ((λ i. f.asked i ++ g.asked i) ∙ sym (ap (picked cells_rooted) all ∙ picked-join cells_rooted xs ys)));
      marked = ap (count_of marks_white) all ∙ (count-join marks_white xs ys ∙ ((λ i. f.marked i + g.marked i) ∙ ab));
      dirtied = ap (count_of dirties) all ∙ (count-join dirties xs ys ∙ ((λ i. f.dirtied i + g.dirtied i) ∙ kl));
      steps = ap only_roots all ∙ roots-append xs ys f.steps g.steps;
    }

-- one root more
pub roots-next : (section n : ℕ) → roots_of section n ++ (section, n) ∷ [] ≡ roots_of section (n + 1)
roots-next section n =
    let a : n - 0 ≡ n = omega arith in
    let b : n + 1 - 0 ≡ n + 1 = omega arith in
    ap (λ m. roots_of section m ++ (section, n) ∷ []) (sym a) ∙ (fields-next section 0 n (omega arith) ∙ ap (roots_of section) b)

-- a packet is held
pub holds-one : (h : Held) (hs : List Held) (v : View) → Carries (h ∷ hs) v → holds_any v.state.held ≡ true
holds-one h hs v c = any-held v.state.held h.packet (known-held v.state.held h.packet h.length c.held.0)

pub may-read_root : (v : View) (section variable : ℕ) → traces v ≡ true → section < v.shape.sections → variable < section_variables → holds_any v.state.held ≡ true → work_in_hand v.shape.fields v.state ≡ false → May (ReadRoot section variable) v
may-read_root v section variable t s l h work x i w a = (
  and_from _ _
      (and_from _ _ (and_from _ _ (lt-ltb section x.core.shape.sections (subst (λ (sh : Shape). section < sh.sections) a.shape s)) (lt-ltb variable section_variables l)) (may-trace x i v a t))
      h,
  (not_from_false _ (sym (ap (λ (sh : Shape). work_in_hand sh.fields v.state) a.shape) ∙ work), tt),
)

module _ (v w : View) (section variable n : ℕ) (e : w ≡ after (ReadRoot section variable) n v) where
  module _ (fields : ℕ) (idle : work_in_hand fields v.state ≡ false) where
    none-popped : v.state.popped ≡ None
    none-popped = none-of v.state.popped (or_parts _ _ (or_parts _ _ (or_parts _ _ (or_parts _ _ idle).0).0).0).0

    -- the root is nil
    pub nil-work : n ≡ 0 → work_in_hand fields w.state ≡ false
    nil-work z =
        let f = free-of fields v.state idle in
        work-of fields w.state (ap (λ (z : View). is_some z.state.popped) e ∙ ap (λ (o : Option (ℕ × Bool)). is_some o) none-popped)
        (record {
          scan = ap (λ (z : View). scan_left fields z.state.scan) e ∙ f.scan;
          value = ap (λ (z : View). is_some z.state.value) e ∙ ap (λ m. is_some (cell_named m)) z;
          fresh = ap (λ (z : View). is_some z.state.fresh) e ∙ f.fresh;
          cleaning = ap (λ (z : View). cleaning_left z.state.cleaning) e ∙ f.cleaning;
        })

    -- it refers to a cell
    pub loaded : (n == 0) ≡ false → InHand (Some (cell_of n)) None w.state
    loaded z =
        record {
          popped = ap (λ (z : View). z.state.popped) e ∙ none-popped;
          value = ap (λ (z : View). z.state.value) e ∙ ap (λ (b : Bool). cond b None (Some (cell_of n))) z;
          fresh = ap (λ (z : View). z.state.fresh) e ∙ none-of v.state.fresh (free-of fields v.state idle).fresh;
        }

    -- which was marked then, and pushed
    pub marked-work : (x : View) (h k : Held) → Pushes h k w.state.scan w.state.cleaning w x → work_in_hand fields x.state ≡ false
    marked-work x h k p =
        let f = free-of fields v.state idle in
        work-of fields x.state (ap (λ (o : Option (ℕ × Bool)). is_some o) p.hand.popped)
        (record {
          scan = ap (scan_left fields) p.scan ∙ (ap (λ (z : View). scan_left fields z.state.scan) e ∙ f.scan);
          value = ap (λ (o : Option ℕ). is_some o) p.hand.value;
          fresh = ap (λ (o : Option ℕ). is_some o) p.hand.fresh;
          cleaning = settles-left w.state.cleaning x.state.cleaning p.cleaning (ap (λ (z : View). cleaning_left z.state.cleaning) e ∙ f.cleaning);
        })

-- no card comes to be owed
root-owes : (sh : Shape) (s : SeatState) (step : Step) (n : ℕ) → scans_roots step ≡ true → s.owes ≡ None → (seat_after sh s step n).owes ≡ None
root-owes sh s (DirtyCard card) n t e = ap (λ (o : Option ℕ). cond (is_the o card) None o) e
root-owes sh s (Push p c) n t e = e
root-owes sh s (ReadRoot section v) n t e = e
root-owes sh s (ReadField c i) n t e = e
root-owes sh s (SetMark c) n t e = e
root-owes sh s (Give p d) n t e = e
root-owes sh s Reserve n t e = e
root-owes sh s (Take q p) n t e = e
root-owes sh s Credit n t e = e
root-owes sh s (Look q g) n t e = e
root-owes sh s (StoreLength p) n t e = e
root-owes sh s (ReadLength p) n t e = e
root-owes sh s step n t e = absurd (false≢true t)

all-owe : (es : List Entry) (v : View) → only_roots es ≡ true → v.state.owes ≡ None → (after_all es v).state.owes ≡ None
all-owe [] v t e = e
all-owe (x ∷ es) v t e = let h = and_parts (scans_roots x.step) (only_roots es) t in all-owe es (after x.step x.found v) h.1 (root-owes v.shape v.state x.step x.found h.0 e)

pub roots-owe : (v w : View) → OnlyTraced v w → only_roots (events v w) ≡ true → v.state.owes ≡ None → w.state.owes ≡ None
roots-owe v w l steps e = ap (λ (z : View). z.state.owes) l.ran.steps ∙ all-owe (events v w) v steps e

-- a cell that was asked for is shown marked
asked-marked : (c : ℕ) (es : List Entry) → picked cells_asked es ≡ c ∷ [] → some_event (shows_marked c) es ≡ true
asked-marked c [] a = let x : [] ≡ c ∷ [] = a in absurd (cc x)
asked-marked c (e ∷ es) a = by_step e.step e.found a (asked-marked c es)
  where
    by_step : (step : Step) (n : ℕ) → cells_asked step n ++ picked cells_asked es ≡ c ∷ [] → (picked cells_asked es ≡ c ∷ [] → some_event (shows_marked c) es ≡ true) → (shows_marked c step n || some_event (shows_marked c) es) ≡ true
    by_step (SetMark cell) n a later = or_left _ _ (eq-eqb cell c (cc a))
    by_step step n a later = or_right (shows_marked c step n) _ (later a)

-- a nil root is seen to
pub nil-seen : (s v n : ℕ) (es : List Entry) → es ≡ entry_of (ReadRoot s v) n ∷ [] → n ≡ 0 → root_marked s v es ≡ true
nil-seen s v n es all z = ap (root_marked s v) all ∙ or_left _ _ (and_from _ _ (and_from _ _ (eq-eqb s s refl) (eq-eqb v v refl)) (or_left _ _ (eq-eqb n 0 z)))

-- a root is seen to if its cell is asked for afterwards
pub cell-seen : (s v n : ℕ) (ys es : List Entry) → es ≡ entry_of (ReadRoot s v) n ∷ ys → picked cells_asked ys ≡ cell_of n ∷ [] → root_marked s v es ≡ true
cell-seen s v n ys es all a =
    ap (root_marked s v) all
    ∙ or_left _ _ (and_from _ _ (and_from _ _ (eq-eqb s s refl) (eq-eqb v v refl)) (or_right (n == 0) _ (asked-marked (cell_of n) ys a)))

-- it stays so among more events
shows-left : (s v : ℕ) (step : Step) (n : ℕ) (xs ys : List Entry) → shows_root s v step n xs ≡ true → shows_root s v step n (xs ++ ys) ≡ true
shows-left s v (ReadRoot w u) n xs ys h =
    let p = and_parts ((w == s) && (u == v)) ((n == 0) || some_event (shows_marked (cell_of n)) xs) h in
    and_from _ _ p.0 (⊎_elim (λ (z : (n == 0) ≡ true). or_left _ _ z) (λ (z : some_event (shows_marked (cell_of n)) xs ≡ true). or_right (n == 0) _ (some-left (shows_marked (cell_of n)) xs ys z)) (or_cases (n == 0) _ p.1))
shows-left s v step n xs ys h = h

pub seen-left : (s v : ℕ) (xs ys : List Entry) → root_marked s v xs ≡ true → root_marked s v (xs ++ ys) ≡ true
seen-left s v [] ys h = absurd (false≢true h)
seen-left s v (x ∷ xs) ys h =
    ⊎_elim
    (λ (a : shows_root s v x.step x.found xs ≡ true). or_left _ _ (shows-left s v x.step x.found xs ys a))
    (λ (b : root_marked s v xs ≡ true). or_right (shows_root s v x.step x.found (xs ++ ys)) _ (seen-left s v xs ys b))
    (or_cases (shows_root s v x.step x.found xs) _ h)

pub seen-right : (s v : ℕ) (xs ys : List Entry) → root_marked s v ys ≡ true → root_marked s v (xs ++ ys) ≡ true
seen-right s v [] ys h = h
seen-right s v (x ∷ xs) ys h = or_right (shows_root s v x.step x.found (xs ++ ys)) _ (seen-right s v xs ys h)

-- one variable more
pub seen-next : (s n : ℕ) (xs ys es : List Entry) → es ≡ xs ++ ys → ((v : ℕ) → v < n → root_marked s v xs ≡ true) → root_marked s n ys ≡ true → (v : ℕ) → v < n + 1 → root_marked s v es ≡ true
seen-next s n xs ys es all before now v l = ap (root_marked s v) all ∙ ⊎_elim (λ (a : v < n). seen-left s v xs ys (before v a)) (λ (b : v ≡ n). subst (λ u. root_marked s u (xs ++ ys) ≡ true) (sym b) (seen-right s n xs ys now)) (split v n l)
  where
    split : (v n : ℕ) → v < n + 1 → (v < n) ⊎ (v ≡ n)
    split v n l = ⊎_elim (λ (a : nat_lt v n ≡ true). inl (ltb-true v n a)) (λ (b : nat_lt v n ≡ false). let k = ltb-false v n b in inr (omega (arith, l, k))) (cases_Bool (nat_lt v n))

all-in : (f : ℕ → Bool) (a n : ℕ) → ((v : ℕ) → v < a + n → f v ≡ true) → list_all f (range_with_len a n) ≡ true
all-in f a zero h = refl
all-in f a (suc n) h = and_from _ _ (h a (omega arith)) (all-in f (a + 1) n (λ v l. h v (omega (arith, l))))

-- all variables
pub seen-all : (s n : ℕ) (xs ys es : List Entry) → es ≡ xs ++ ys → n ≡ section_variables → ((v : ℕ) → v < n → root_marked s v xs ≡ true) → roots_scanned s es ≡ true
seen-all s n xs ys es all e h = ap (roots_scanned s) all ∙ all-in (λ v. root_marked s v (xs ++ ys)) 0 section_variables (λ v l. seen-left s v xs ys (h v (omega (arith, l, e))))
