-- What the events of a scan count, as more events come.
use Rattle.std.proofs.Common.{ℕ, ◌≡◌, ◌+◌, List, [], ◌∷◌, ◌++◌, arith, refl, ap, ◌∙◌, ◌%◌, subst, Bool, true, false, not, cond, sym, ◌||◌, ⊎_elim}
use Rattle.std.proofs.lemmas.Bool.{and_parts, and_from, false≢true, or_from, or_cases, or_left, or_parts, or_right}
use Rattle.std.proofs.lemmas.List.{append-nil, append_assoc}
use Rattle.mark_core.specs.Bits.{has_bit}
use Rattle.mark_core.specs.Cards.{block_cells}
use Rattle.mark_core.specs.declared.kinds.Shape.{Shape}
use Rattle.mark_core.specs.declared.kinds.Step.{Step}
use Rattle.mark_core.specs.declared.kinds.Step.TheVariants.{Push, ReadField, SetMark, DirtyCard, Give, Credit, StoreLength}
use Rattle.gc_table.specs.declared.view.Entry.{Entry}
use Rattle.gc_table.specs.Log.{steps_of}
use Rattle.packet_pools.specs.Seeking.{moves_packet, only_moves, some_event, output_pools}
use Rattle.packet_pools.specs.Counts.{marks_white, pushes, dirties, scans_object, count_of, only_scans, CountsMarked}
use Rattle.packet_pools.specs.Orders.{each_after, some_end}
use Rattle.gc_table.proofs.History.Log.{entry_of}
use Rattle.packet_pools.proofs.Searches.{moves-steps, all_move}

-- Events that have to come after others, as more events come.
-- no event is like it
pub after-none : (test : List Entry → Bool) (f : Step → ℕ → Bool) (earlier es : List Entry) → some_event f es ≡ false → each_after test f earlier es ≡ true
after-none test f earlier [] n = refl
after-none test f earlier (e ∷ es) n =
    let p = or_parts (f e.step e.found) (some_event f es) n in
    and_from (not (f e.step e.found) || test earlier) _ (or_left (not (f e.step e.found)) (test earlier) (ap not p.0)) (after-none test f (earlier ++ e ∷ []) es p.1)

-- the events of two calls
pub after-join : (test : List Entry → Bool) (f : Step → ℕ → Bool) (earlier xs ys : List Entry) → each_after test f earlier xs ≡ true → each_after test f (earlier ++ xs) ys ≡ true → each_after test f earlier (xs ++ ys) ≡ true
after-join test f earlier [] ys a b = subst (λ es. each_after test f es ys ≡ true) (append-nil earlier) b
after-join test f earlier (x ∷ xs) ys a b =
    let p = and_parts (not (f x.step x.found) || test earlier) (each_after test f (earlier ++ x ∷ []) xs) a in
    and_from (not (f x.step x.found) || test earlier) _ p.0
    (after-join test f (earlier ++ x ∷ []) xs ys p.1 (subst (λ es. each_after test f es ys ≡ true) (sym (append_assoc earlier (x ∷ []) xs)) b))

-- what came before in a later call, seen from the whole
pub after-earlier : (small large : List Entry → Bool) (f : Step → ℕ → Bool) (earlier : List Entry) → ((es : List Entry) → small es ≡ true → large (earlier ++ es) ≡ true) → (xs ys : List Entry) → each_after small f xs ys ≡ true → each_after large f (earlier ++ xs) ys ≡ true
after-earlier small large f earlier more xs [] a = refl
after-earlier small large f earlier more xs (y ∷ ys) a =
    let p = and_parts (not (f y.step y.found) || small xs) (each_after small f (xs ++ y ∷ []) ys) a in
    and_from (not (f y.step y.found) || large (earlier ++ xs)) _
    (⊎_elim
    (λ (n : not (f y.step y.found) ≡ true). or_left (not (f y.step y.found)) (large (earlier ++ xs)) n)
    (λ (t : small xs ≡ true). or_right (not (f y.step y.found)) (large (earlier ++ xs)) (more xs t))
    (or_cases (not (f y.step y.found)) (small xs) p.0))
    (subst (λ es. each_after large f es ys ≡ true) (sym (append_assoc earlier xs (y ∷ []))) (after-earlier small large f earlier more (xs ++ y ∷ []) ys p.1))

-- the end is the whole
pub end-whole : (test : List Entry → Bool) (es : List Entry) → test es ≡ true → some_end test es ≡ true
end-whole test [] t = t
end-whole test (e ∷ es) t = or_left _ _ t

-- the end of more events that came before
pub end-more : (test : List Entry → Bool) (xs es : List Entry) → some_end test es ≡ true → some_end test (xs ++ es) ≡ true
end-more test [] es t = t
end-more test (x ∷ xs) es t = or_right _ _ (end-more test xs es t)

pub count-join : (f : Step → ℕ → Bool) (xs ys : List Entry) → count_of f (xs ++ ys) ≡ count_of f xs + count_of f ys
count-join f [] ys = omega arith
count-join f (x ∷ xs) ys = let e = count-join f xs ys in omega (arith, e)

pub scans-join : (xs ys : List Entry) → only_scans xs ≡ true → only_scans ys ≡ true → only_scans (xs ++ ys) ≡ true
scans-join [] ys a b = b
scans-join (x ∷ xs) ys a b = let h = and_parts (scans_object x.step) (only_scans xs) a in and_from _ _ h.0 (scans-join xs ys h.1 b)

-- one part of a scan after another
pub counts-join : (sh : Shape) (a b s k l r m n t : ℕ) (xs ys es : List Entry) → es ≡ xs ++ ys → a + b ≡ s → k + l ≡ r → m + n ≡ t → CountsMarked sh a k m xs → CountsMarked sh b l n ys → CountsMarked sh s r t es
counts-join sh a b s k l r m n t xs ys es all white kept lost f g =
    record {
      marked = ap (count_of marks_white) all ∙ (count-join marks_white xs ys ∙ ((λ i. f.marked i + g.marked i) ∙ white));
      pushed = ap (count_of pushes) all ∙ (count-join pushes xs ys ∙ ((λ i. f.pushed i + g.pushed i) ∙ kept));
      overflowed = ap (count_of dirties) all ∙ (count-join dirties xs ys ∙ ((λ i. f.overflowed i + g.overflowed i) ∙ lost));
      scans = ap only_scans all ∙ scans-join xs ys f.scans g.scans;
    }

pub counts-none : (sh : Shape) → CountsMarked sh 0 0 0 []
counts-none sh = record { marked = refl; pushed = refl; overflowed = refl; scans = refl }

-- a step that moves a packet is none that counts
idle : (step : Step) (found : ℕ) → moves_packet output_pools step ≡ true → (marks_white step found ≡ false) × (pushes step found ≡ false) × (dirties step found ≡ false) × (scans_object step ≡ true)
idle (SetMark c) found m = absurd (false≢true m)
idle (DirtyCard card) found m = absurd (false≢true m)
idle (Push p cell) found m = absurd (false≢true m)
idle (ReadField c i) found m = absurd (false≢true m)
idle step found m = (refl, refl, refl, m)

-- steps that move packets dirty no card
pub quiet : (es : List Entry) → only_moves output_pools es ≡ true → some_event dirties es ≡ false
quiet [] m = refl
quiet (e ∷ es) m = let h = and_parts (moves_packet output_pools e.step) (only_moves output_pools es) m in or_from _ _ (idle e.step e.found h.0).2 (quiet es h.1)

pub counts-moves : (sh : Shape) (es : List Entry) → only_moves output_pools es ≡ true → CountsMarked sh 0 0 0 es
counts-moves sh [] m = counts-none sh
counts-moves sh (e ∷ es) m =
    let h = and_parts (moves_packet output_pools e.step) (only_moves output_pools es) m in
    let k = idle e.step e.found h.0 in
    let r = counts-moves sh es h.1 in
    record {
      marked = (λ i. cond (k.0 i) 1 0 + r.marked i);
      pushed = (λ i. cond (k.1 i) 1 0 + r.pushed i);
      overflowed = (λ i. cond (k.2 i) 1 0 + r.overflowed i);
      scans = and_from _ _ k.3 r.scans;
    }

-- a packet that is given back
pub given-moves : (qs : List ℕ) (p : ℕ) (b : Bool) (es : List Entry) → steps_of es ≡ StoreLength p ∷ Give p false ∷ (cond b (Credit ∷ []) []) → only_moves qs es ≡ true
given-moves qs p b es e = moves-steps qs es ∙ (ap (all_move qs) e ∙ moving b)
  where
    moving : (c : Bool) → all_move qs (StoreLength p ∷ Give p false ∷ (cond c (Credit ∷ []) [])) ≡ true
    moving true = refl
    moving false = refl

-- a cell that was pushed
pub counts-push : (sh : Shape) (p c n : ℕ) → CountsMarked sh 0 1 0 (entry_of (Push p c) n ∷ [])
counts-push sh p c n = record { marked = refl; pushed = refl; overflowed = refl; scans = refl }

-- a field that was read
pub counts-read : (sh : Shape) (c i n : ℕ) → CountsMarked sh 0 0 0 (entry_of (ReadField c i) n ∷ [])
counts-read sh c i n = record { marked = refl; pushed = refl; overflowed = refl; scans = refl }

-- a cell that was tried
pub counts-mark : (sh : Shape) (c n : ℕ) (b : Bool) → has_bit n (c % block_cells) ≡ b → CountsMarked sh (cond b 0 1) 0 0 (entry_of (SetMark c) n ∷ [])
counts-mark sh c n b e =
    record { marked = ap (λ d. cond (not d) 1 0 + 0) e ∙ either b; pushed = refl; overflowed = refl; scans = refl }
  where
    either : (d : Bool) → cond (not d) 1 0 + 0 ≡ cond d 0 1
    either true = refl
    either false = refl

-- a card that was dirtied
pub counts-dirty : (sh : Shape) (card n : ℕ) → CountsMarked sh 0 0 1 (entry_of (DirtyCard card) n ∷ [])
counts-dirty sh card n = record { marked = refl; pushed = refl; overflowed = refl; scans = refl }
