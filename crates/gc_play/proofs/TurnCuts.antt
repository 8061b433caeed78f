-- How the events of a tracer are cut into turns, at each read of the number of parts.
use Rattle.std.proofs.Common.{ℕ, ◌≡◌, List, [], ◌∷◌, ◌++◌, refl, sym, ap, ◌∙◌, Bool, true, false, not, cond}
use Rattle.std.specs.Prelude.{IsTrue}
use Rattle.std.proofs.lemmas.Bool.{true≢false, and_parts, and_from, or_left, or_parts}
use Rattle.mark_core.specs.Effects.{seat_after}
use Rattle.mark_core.specs.declared.kinds.Shape.{Shape}
use Rattle.mark_core.specs.declared.kinds.Step.{Step}
use Rattle.mark_core.specs.declared.kinds.Step.TheVariants.{EnterStep, LeaveStep}
use Rattle.mark_core.specs.declared.seat.SeatState.{SeatState}
use Rattle.gc_table.specs.declared.view.Entry.{Entry}
use Rattle.gc_table.specs.Log.{all_steps}
use Rattle.gc_table.specs.Entries.{event}
use Rattle.packet_pools.specs.Counts.{count_of}
use Rattle.packet_pools.specs.Seeking.{some_event}
use Rattle.tracer.specs.Tally.{pops}
use Rattle.gc_cycle.specs.Sorts.{enters, enters_freely}
use Rattle.gc_cycle.specs.Statistics.{changing_step, numbers_changed}
use Rattle.gc_cycle.proofs.Ends.Swept.{unless as not-true}
use Rattle.gc_cycle.proofs.Ends.Finishes.{never-both as never-join}
use Rattle.gc_play.specs.Turns.{Turn, leaves_done, is_read_of_done, lead, turns_of, record_after, each_visit, EachPays, ReadsNoParts, WaitsOutside, payment, payments, until_leave}

tail : List Entry → List Entry
tail [] = []
tail (x ∷ xs) = xs

pub kept-head : (b : Bool) (x : Entry) (xs ls : List Entry) → cond b [] (x ∷ ls) ≡ x ∷ xs → (b ≡ false) × (ls ≡ xs)
unfolding tail
kept-head true x xs ls e = absurd (cc)
kept-head false x xs ls e = (refl, ap tail e)

quiet-lead : (xs ys : List Entry) → lead xs ≡ xs → lead (xs ++ ys) ≡ xs ++ lead ys
quiet-lead [] ys e = refl
quiet-lead (x ∷ xs) ys e =
    let q = kept-head (is_read_of_done x.step) x xs (lead xs) e in
    ap (λ (b : Bool). cond b [] (x ∷ lead (xs ++ ys))) q.0 ∙ ap (λ l. x ∷ l) (quiet-lead xs ys q.1)

pub quiet-turns : (sh : Shape) (s : SeatState) (xs ys : List Entry) → lead xs ≡ xs → turns_of sh s (xs ++ ys) ≡ turns_of sh (record_after sh s xs) ys
quiet-turns sh s [] ys e = refl
quiet-turns sh s (x ∷ xs) ys e =
    let q = kept-head (is_read_of_done x.step) x xs (lead xs) e in
    let u : SeatState = seat_after sh s x.step x.found in
    let t : Turn = record { found = x.found; state = u; rest = lead (xs ++ ys) } in
    ap (λ (b : Bool). cond b (t ∷ turns_of sh u (xs ++ ys)) (turns_of sh u (xs ++ ys))) q.0 ∙ quiet-turns sh u xs ys q.1

pub quiet-join : (xs ys : List Entry) → ReadsNoParts xs → ReadsNoParts ys → ReadsNoParts (xs ++ ys)
quiet-join xs ys a b = quiet-lead xs ys a ∙ ap (λ l. xs ++ l) b

pub quiet-one : (step : Step) (n : ℕ) → is_read_of_done step ≡ false → ReadsNoParts (event step n ∷ [])
quiet-one step n e = ap (λ (b : Bool). cond b [] (event step n ∷ [])) e

-- events that read no number of parts
pub quiet-only : (es : List Entry) → IsTrue (all_steps leaves_done es) → ReadsNoParts es
quiet-only [] o = refl
quiet-only (e ∷ es) o =
    let p = and_parts (leaves_done e.step) (all_steps leaves_done es) o in
    ap (λ b. cond b [] (e ∷ lead es)) (not-true (is_read_of_done e.step) p.0) ∙ ap (λ l. e ∷ l) (quiet-only es p.1)

pub waits-join : (xs ys : List Entry) → WaitsOutside xs → WaitsOutside ys → WaitsOutside (xs ++ ys)
waits-join xs ys a b = record { quiet = quiet-join xs ys a.quiet b.quiet; outside = never-join enters xs ys a.outside b.outside }

-- a step that isn't an entry is none without a stop
freely : (step : Step) (n : ℕ) → enters step n ≡ false → enters_freely step n ≡ false
freely EnterStep n o = absurd (true≢false o)
freely step n o = refl

-- a seat that doesn't enter makes no visit, and owes nothing
pub visits-none : (sh : Shape) (es : List Entry) (s : SeatState) → some_event enters es ≡ false → each_visit sh s es ≡ true
visits-none sh [] s o = refl
visits-none sh (e ∷ es) s o =
    let p = or_parts (enters e.step e.found) (some_event enters es) o in
    and_from _ _ (or_left _ _ (ap not (freely e.step e.found p.0))) (visits-none sh es (seat_after sh s e.step e.found) p.1)

pub pays-none : (es : List Entry) → some_event enters es ≡ false → EachPays es
pays-none [] o = tt
pays-none (e ∷ es) o =
    let p = or_parts (enters e.step e.found) (some_event enters es) o in (λ f. absurd (true≢false (sym f ∙ freely e.step e.found p.0)), pays-none es p.1)

-- nor has it to tell of one
pub payments-none : (es : List Entry) → some_event enters es ≡ false → payments es ≡ []
payments-none [] o = refl
payments-none (e ∷ es) o =
    let p = or_parts (enters e.step e.found) (some_event enters es) o in
    ap (λ (b : Bool). cond b (payment (count_of pops (until_leave es))) [] ++ payments es) (freely e.step e.found p.0) ∙ payments-none es p.1

pub changes-left : (es : List Entry) (n : ℕ) → numbers_changed (es ++ event LeaveStep n ∷ []) ≡ numbers_changed es
changes-left [] n = refl
changes-left (e ∷ es) n = ap (λ l. changing_step e.step e.found ++ l) (changes-left es n)

pub lead-more : (xs ys : List Entry) → lead ys ≡ [] → lead (xs ++ ys) ≡ lead xs
lead-more [] ys e = e
lead-more (x ∷ xs) ys e = ap (λ l. cond (is_read_of_done x.step) [] (x ∷ l)) (lead-more xs ys e)

by-read : (b : Bool) (n : ℕ) (s : SeatState) (xs ys : List Entry) (ts us : List Turn) → xs ≡ ys → ts ≡ us → cond b (record { found = n; state = s; rest = xs } ∷ ts) ts ≡ cond b (record { found = n; state = s; rest = ys } ∷ us) us
by-read true n s xs ys ts us e f = ap (λ l. record { found = n; state = s; rest = l } ∷ ts) e ∙ ap (λ l. record { found = n; state = s; rest = ys } ∷ l) f
by-read false n s xs ys ts us e f = f

cond-append : (b : Bool) (t : Turn) (ts us : List Turn) → cond b (t ∷ (ts ++ us)) (ts ++ us) ≡ cond b (t ∷ ts) ts ++ us
cond-append true t ts us = refl
cond-append false t ts us = refl

pub turns-more : (sh : Shape) (s : SeatState) (xs ys : List Entry) → lead ys ≡ [] → turns_of sh s (xs ++ ys) ≡ turns_of sh s xs ++ turns_of sh (record_after sh s xs) ys
turns-more sh s [] ys e = refl
turns-more sh s (x ∷ xs) ys e =
    let u : SeatState = seat_after sh s x.step x.found in
    by-read (is_read_of_done x.step) x.found u (lead (xs ++ ys)) (lead xs) (turns_of sh u (xs ++ ys)) (turns_of sh u xs ++ turns_of sh (record_after sh u xs) ys) (lead-more xs ys e) (turns-more sh u xs ys e)
    ∙ cond-append (is_read_of_done x.step) (record { found = x.found; state = u; rest = lead xs }) (turns_of sh u xs) (turns_of sh (record_after sh u xs) ys)
