-- A cell that is an entry of a packet is one after each step, unless it is popped.
use Rattle.std.proofs.Common.{ℕ, ◌≡◌, ◌+◌, ◌-◌, ◌*◌, ◌<◌, List, arith, sym, ap, ◌∙◌, ◌⊎◌, inl, inr, ⊎_elim, false, Some}
use Rattle.std.specs.Prelude.{slice_get}
use Rattle.std.proofs.lemmas.Bool.{cases_eq}
use Rattle.std.proofs.lemmas.List.{get_or-set_same}
use Rattle.mark_core.specs.Layout.{Words, words_of}
use Rattle.mark_core.specs.Bits.{cell_of}
use Rattle.mark_core.specs.Held.{Slots, length_in_hand}
use Rattle.mark_core.specs.Cells.{packet_length, entry, IsQueued}
use Rattle.mark_core.specs.Views.{hands}
use Rattle.mark_core.specs.Parts.{parts}
use Rattle.mark_core.specs.Steps.{Core, AllTrue}
use Rattle.mark_core.specs.Laws.{IsCore}
use Rattle.mark_core.proofs.Known.{found, words_left, seats_left}
use Rattle.mark_core.proofs.Marks.MarksBefore.{Pushes, entry-stays}
use Rattle.mark_core.proofs.Marks.MarksQueues.{fills, pushes-on, pops-off, popped-back, lengths-stay, entries-stay}
use Rattle.mark_core.specs.declared.kinds.Shape.{Shape}
use Rattle.mark_core.specs.declared.kinds.Step.{Step}
use Rattle.mark_core.specs.declared.kinds.Step.TheVariants.{Push, Pop}
use Rattle.mark_core.specs.declared.seat.SeatState.{SeatState}

-- the cell is an entry of a packet, and after a step
abbrev pub QueuedNow : Core → ℕ → Type 0
QueuedNow c x = IsQueued c.shape (words_of c.shape c.words).heads (words_of c.shape c.words).entries (hands c.seats) x

abbrev pub QueuedAfter : Core → ℕ → SeatState → Step → ℕ → Type 0
QueuedAfter c i s step x = IsQueued c.shape (words_left c s step).heads (words_left c s step).entries (hands (seats_left c i s step)) x

-- packets stay as long
queued_same : (sh : Shape) (heads heads' entries : List ℕ) (hss gss : List Slots) (x : ℕ) → ((q : ℕ) → packet_length heads' gss q ≡ packet_length heads hss q) → IsQueued sh heads entries hss x → IsQueued sh heads' entries gss x
queued_same sh heads heads' entries hss gss x l a = (a.0, a.1, a.2, rw l a.3, a.4)

pub queued-stays : (c : Core) (i : ℕ) (s : SeatState) (step : Step) → IsCore c → slice_get c.seats i ≡ Some s → AllTrue (parts c.shape (words_of c.shape c.words) c.seats s step) → fills step ≡ false → (x : ℕ) → QueuedNow c x → QueuedAfter c i s step x
queued-stays c i s step k g ok f x a =
    let w : Words = words_of c.shape c.words in
    rw (entries-stay c i s step k g ok f) (queued_same c.shape w.heads (words_left c s step).heads w.entries (hands c.seats) (hands (seats_left c i s step)) x (lengths-stay c i s step k g ok f) a)

-- 5: the others stay, and the cell that is pushed is one
longer : (sh : Shape) (heads entries : List ℕ) (hss gss : List Slots) (p n q k : ℕ) → Pushes sh heads entries hss gss p n → k < packet_length heads hss q → k < packet_length heads gss q
longer sh heads entries hss gss p n q k u h = ⊎_elim (λ (e : q ≡ p). rw e (omega (arith, rw e at h, u.before, u.after))) (λ (d : q ≡ p → ⊥). omega (arith, h, u.others q d)) (cases_eq q p)

pub queued-pushed : (c : Core) (i : ℕ) (s : SeatState) (p y x : ℕ) → IsCore c → slice_get c.seats i ≡ Some s → AllTrue (parts c.shape (words_of c.shape c.words) c.seats s (Push p y)) → QueuedNow c x → QueuedAfter c i s (Push p y) x
queued-pushed c i s p y x k g ok a =
    let sh : Shape = c.shape in
    let w : Words = words_of sh c.words in
    let n : ℕ = length_in_hand s.held p in
    let gss : List Slots = hands (seats_left c i s (Push p y)) in
    let u = pushes-on c i s p y k g ok in (
      a.0,
      a.1,
      a.2,
      longer sh w.heads w.entries (hands c.seats) gss p n a.0 a.1 u a.3,
      entry-stays sh w.heads w.entries (hands c.seats) gss p n (y + 1) a.0 a.1 u a.2 a.3 (λ e f. omega (arith, rw e at a.3, f, u.before)) ∙ a.4,
    )

pub queued-new : (c : Core) (i : ℕ) (s : SeatState) (p y : ℕ) → IsCore c → slice_get c.seats i ≡ Some s → AllTrue (parts c.shape (words_of c.shape c.words) c.seats s (Push p y)) → p < c.shape.packets → QueuedAfter c i s (Push p y) y
queued-new c i s p y k g ok h =
    let w : Words = words_of c.shape c.words in
    let n : ℕ = length_in_hand s.held p in
    let u = pushes-on c i s p y k g ok in
    (p, n, h, omega (arith, u.after), get_or-set_same w.entries (p * c.shape.entries + n) (y + 1) 0 u.place)

-- 6: the last entry is popped, and the others stay
pub queued-popped : (c : Core) (i : ℕ) (s : SeatState) (p x : ℕ) → IsCore c → slice_get c.seats i ≡ Some s → AllTrue (parts c.shape (words_of c.shape c.words) c.seats s (Pop p)) → x < 16777216 → QueuedNow c x
    → (QueuedAfter c i s (Pop p) x) ⊎ (cell_of (found c s (Pop p)) ≡ x)
queued-popped c i s p x k g ok h a =
    let w : Words = words_of c.shape c.words in
    let n : ℕ = length_in_hand s.held p in
    let o = pops-off c i s p k g ok in
    let gss : List Slots = hands (seats_left c i s (Pop p)) in
    let stays : a.1 < packet_length w.heads gss a.0 → QueuedAfter c i s (Pop p) x = λ l. rw (popped-back c i s p k g ok) (a.0, a.1, a.2, l, a.4) in
    ⊎_elim
    (λ (e : a.0 ≡ p).
    ⊎_elim
    (λ (f : a.1 ≡ n - 1). inr (let word : found c s (Pop p) ≡ x + 1 = o.word ∙ (ap (entry c.shape w.entries p) (sym f) ∙ (ap (λ q. entry c.shape w.entries q a.1) (sym e) ∙ a.4)) in omega (arith, word, h)))
    (λ (d : a.1 ≡ n - 1 → ⊥). inl (stays (rw e (omega (arith, rw e at a.3, d, o.before, o.after)))))
    (cases_eq a.1 (n - 1)))
    (λ (d : a.0 ≡ p → ⊥). inl (stays (omega (arith, a.3, o.others a.0 d))))
    (cases_eq a.0 p)
