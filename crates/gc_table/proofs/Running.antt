-- What a call keeps, by the steps that it took.
use Rattle.std.proofs.Common.{ℕ, ◌≡◌, List, [], ◌∷◌, ◌++◌, refl, sym, ap, ◌∙◌, subst, Bool, true, false, true≢false}
use Rattle.std.proofs.lemmas.Bool.{and_parts}
use Rattle.mark_core.specs.Effects.{seat_after, written}
use Rattle.mark_core.specs.declared.kinds.Shape.{Shape}
use Rattle.mark_core.specs.declared.kinds.Step.{Step}
use Rattle.mark_core.specs.declared.kinds.Step.TheVariants.{ReadOwn, ReadCat, StoreField, StoreValue, StoreRoot, StoreNew, StorePosition, StorePhase, NextSeason, ExchangeField, ExchangeValue, StoreSlot, ReadSlot, HoldRoot}
use Rattle.mark_core.specs.declared.seat.SeatState.{SeatState}
use Rattle.mark_core.proofs.Writing.Frames.{identity_of, identity-kept}
use Rattle.plain_heap.specs.declared.operation.Op.{Op}
use Rattle.gc_table.specs.declared.view.Entry.{Entry}
use Rattle.gc_table.specs.declared.view.View.{View}
use Rattle.gc_table.specs.declared.view.SectionState.{SectionState}
use Rattle.gc_table.specs.Log.{events, Grows, all_steps, Only}
use Rattle.gc_table.specs.Running.{is_store, IsSeen, after_all, AllSeen, Ran, changes_section}
use Rattle.gc_table.specs.Sections.{section_after}
use Rattle.gc_table.specs.Seats.{Found, Took, Answered, Stored}
use Rattle.gc_table.specs.Taking.{after}
use Rattle.gc_table.proofs.History.Log.{grows-refl, grows-join, grows-after, events-none, events-after, events-join, only-join}

grows-all : (es : List Entry) (v : View) → Grows v (after_all es v)
grows-all [] v = grows-refl v
grows-all (e ∷ es) v = grows-join v (after e.step e.found v) (after_all es (after e.step e.found v)) (grows-after v e.step e.found) (grows-all es (after e.step e.found v))

pub after-join : (es fs : List Entry) (v : View) → after_all (es ++ fs) v ≡ after_all fs (after_all es v)
after-join [] fs v = refl
after-join (e ∷ es) fs v = after-join es fs (after e.step e.found v)

pub seen-join : (es fs : List Entry) (v : View) → AllSeen es v → AllSeen fs (after_all es v) → AllSeen (es ++ fs) v
seen-join [] fs v a b = b
seen-join (e ∷ es) fs v a b = (a.0, seen-join es fs (after e.step e.found v) a.1 b)

pub ran-grows : (v w : View) → Ran v w → Grows v w
ran-grows v w r = subst (Grows v) (sym r.steps) (grows-all (events v w) v)

-- no step
pub ran-refl : (v : View) → Ran v v
ran-refl v =
    record {
      steps = ap (λ (es : List Entry). after_all es v) (sym (events-none v));
      seen = subst (λ (es : List Entry). AllSeen es v) (sym (events-none v)) tt;
    }

-- one step
pub ran-after : (v w : View) (step : Step) (n : ℕ) → w ≡ after step n v → IsSeen step n v → Ran v w
ran-after v w step n e s =
    let one = events-after v w step n e in
    record {
      steps = e ∙ ap (λ (es : List Entry). after_all es v) (sym one);
      seen = subst (λ (es : List Entry). AllSeen es v) (sym one) (s, tt);
    }

pub ran-found : (v w : View) (step : Step) (n : ℕ) → is_store step ≡ false → Found step n v w → Ran v w
ran-found v w step n k f = ran-after v w step n f.0 (record { found = λ _. f.1; stored = λ t. absurd (true≢false (sym t ∙ k)) })

pub ran-took : (v w : View) (step : Step) → is_store step ≡ false → Took step v w → Ran v w
ran-took v w step k t = ran-found v w step t.0 k t.1

pub ran-answered : (v w : View) (step : Step) (P : ℕ → Type 0) → is_store step ≡ false → Answered step P v w → Ran v w
ran-answered v w step P k t = ran-found v w step t.0 k (t.1, t.2)

pub ran-stored : (v w : View) (step : Step) → is_store step ≡ true → Stored step v w → Ran v w
ran-stored v w step k e = ran-after v w step (written v.shape v.state step 0) e (record { found = λ f. absurd (true≢false (sym k ∙ f)); stored = λ _. refl })

-- one call after another
pub ran-join : (u v w : View) → Ran u v → Ran v w → Ran u w
ran-join u v w a b =
    let both : events u w ≡ events u v ++ events v w = events-join u v w (ran-grows u v a) (ran-grows v w b) in
    record {
      steps = b.steps ∙ (ap (after_all (events v w)) a.steps ∙ (sym (after-join (events u v) (events v w) u) ∙ ap (λ (es : List Entry). after_all es u) (sym both)));
      seen = subst (λ (es : List Entry). AllSeen es u) (sym both) (seen-join (events u v) (events v w) u a.seen (subst (AllSeen (events v w)) a.steps b.seen));
    }

-- the events of both
pub ran-events : (u v w : View) → Ran u v → Ran v w → events u w ≡ events u v ++ events v w
ran-events u v w a b = events-join u v w (ran-grows u v a) (ran-grows v w b)

pub ran-only : (P : Step → Bool) (u v w : View) → Ran u v → Ran v w → Only P u v → Only P v w → Only P u w
ran-only P u v w a b h k = only-join P u v w (ran-grows u v a) (ran-grows v w b) h k

all-keep : (P : Step → Bool) (Q : View → Type 0) → ((x : View) (step : Step) (n : ℕ) → P step ≡ true → IsSeen step n x → Q x → Q (after step n x)) → (es : List Entry) (v : View) → all_steps P es ≡ true → AllSeen es v → Q v → Q (after_all es v)
all-keep P Q h [] v o s q = q
all-keep P Q h (e ∷ es) v o s q = let p = and_parts (P e.step) (all_steps P es) o in all-keep P Q h es (after e.step e.found v) p.1 s.1 (h v e.step e.found p.0 s.0 q)

-- what each step of a sort keeps, a call of such steps keeps
pub run-keeps : (P : Step → Bool) (Q : View → Type 0) → ((x : View) (step : Step) (n : ℕ) → P step ≡ true → IsSeen step n x → Q x → Q (after step n x)) → (v w : View) → Ran v w → Only P v w → Q v → Q w
run-keeps P Q h v w r o q = subst Q (sym r.steps) (all-keep P Q h (events v w) v o r.seen q)

each-keeps : (Q : View → Type 0) → ((x : View) (step : Step) (n : ℕ) → Q x → Q (after step n x)) → (es : List Entry) (v : View) → Q v → Q (after_all es v)
each-keeps Q h [] v q = q
each-keeps Q h (e ∷ es) v q = each-keeps Q h es (after e.step e.found v) (h v e.step e.found q)

-- what every step keeps, every call keeps
pub ran-keeps : (Q : View → Type 0) → ((x : View) (step : Step) (n : ℕ) → Q x → Q (after step n x)) → (v w : View) → Ran v w → Q v → Q w
ran-keeps Q h v w r q = subst Q (sym r.steps) (each-keeps Q h (events v w) v q)

module _ (v w : View) (r : Ran v w) where
  pub ran-shape : w.shape ≡ v.shape
  ran-shape = ran-keeps (λ (x : View). x.shape ≡ v.shape) (λ x step n q. q) v w r refl

  pub ran-plan : w.plan ≡ v.plan
  ran-plan = ran-keeps (λ (x : View). x.plan ≡ v.plan) (λ x step n q. q) v w r refl

  pub ran-opened : w.opened ≡ v.opened
  ran-opened = ran-keeps (λ (x : View). x.opened ≡ v.opened) (λ x step n q. q) v w r refl

  pub ran-joined : w.joined ≡ v.joined
  ran-joined = ran-keeps (λ (x : View). x.joined ≡ v.joined) (λ x step n q. q) v w r refl

  -- number, section and whether the seat is spent
  pub ran-identity : identity_of w.state ≡ identity_of v.state
  ran-identity = ran-keeps (λ (x : View). identity_of x.state ≡ identity_of v.state) (λ x step n q. identity-kept x.shape x.state step n ∙ q) v w r refl

  pub ran-number : w.state.number ≡ v.state.number
  ran-number = ap (λ p. p.0) ran-identity

  pub ran-section : w.state.section ≡ v.state.section
  ran-section = ap (λ p. p.1) ran-identity

-- a part of the record that no step of this sort changes, as a function of `mark_core.proofs.Frames`
pub state-kept : {X : Type 0} (f : SeatState → X) (P : Step → Bool) → ((sh : Shape) (s : SeatState) (step : Step) (old : ℕ) → P step ≡ true → f (seat_after sh s step old) ≡ f s) → (v w : View) → Ran v w → Only P v w → f w.state ≡ f v.state
state-kept f P h v w r o = run-keeps P (λ (x : View). f x.state ≡ f v.state) (λ x step n p s q. h x.shape x.state step n p ∙ q) v w r o refl

-- a step that changes nothing of its seat's section
section-kept : (sh : Shape) (plan : List (List Op)) (s : SeatState) (step : Step) (x : SectionState) → changes_section step ≡ false → section_after sh plan s step x ≡ x
section-kept sh plan s (ReadOwn c i) x e = absurd (true≢false e)
section-kept sh plan s (ReadCat v) x e = absurd (true≢false e)
section-kept sh plan s (ReadSlot k) x e = absurd (true≢false e)
section-kept sh plan s (StoreSlot k r) x e = absurd (true≢false e)
section-kept sh plan s (StoreField v i w) x e = absurd (true≢false e)
section-kept sh plan s (ExchangeField v i y z) x e = absurd (true≢false e)
section-kept sh plan s (ExchangeValue v m n) x e = absurd (true≢false e)
section-kept sh plan s (StoreValue v n) x e = absurd (true≢false e)
section-kept sh plan s (StoreRoot v r) x e = absurd (true≢false e)
section-kept sh plan s (HoldRoot v r) x e = absurd (true≢false e)
section-kept sh plan s (StoreNew c part word) x e = absurd (true≢false e)
section-kept sh plan s (StorePosition done) x e = absurd (true≢false e)
section-kept sh plan s (StorePhase to) x e = absurd (true≢false e)
section-kept sh plan s NextSeason x e = absurd (true≢false e)
section-kept sh plan s step x e = refl

-- what the seat's section has come to stays
pub own-kept : (P : Step → Bool) → ((step : Step) → P step ≡ true → changes_section step ≡ false) → (v w : View) → Ran v w → Only P v w → w.own ≡ v.own
own-kept P h v w r o = run-keeps P (λ (x : View). x.own ≡ v.own) (λ x step n p s q. section-kept x.shape x.plan x.state step x.own (h step p) ∙ q) v w r o refl
