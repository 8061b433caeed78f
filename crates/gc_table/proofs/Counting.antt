-- A counter that is only raised has grown by the number of exchanges that were won.
use Rattle.std.proofs.Common.{ℕ, ◌≡◌, ◌+◌, ◌==◌, ◌&&◌, ◌∙◌, [], ◌∷◌, ap, arith, refl, subst, sym, ⊎_elim, Bool, true, false, Option, None, Some}
use Rattle.std.specs.Prelude.{if◌then◌else◌, slice_get}
use Rattle.std.proofs.lemmas.Bool.{and_from, and_parts, eq-eqb, eqb-true, false≢true}
use Rattle.std.proofs.lemmas.Option.{same_Some}
use Rattle.plain_heap.specs.Paths.{Name}
use Rattle.mark_core.specs.Layout.{Words, words_of}
use Rattle.mark_core.specs.Steps.{Core, after_event}
use Rattle.mark_core.specs.declared.kinds.Shape.{Shape}
use Rattle.mark_core.specs.declared.kinds.Step.{Step}
use Rattle.mark_core.specs.declared.kinds.Step.TheVariants.{ExchangeValue}
use Rattle.mark_core.specs.declared.seat.SeatState.{SeatState}
use Rattle.gc_table.specs.Entries.{won}
use Rattle.gc_table.specs.AgreementLaws.{FindsValue, StoresIn, StoresOf, TellsOf, found_of, world_after, world_of}
use Rattle.gc_table.specs.RunWorlds.{World, WorldObject, is_same, object_of, own_section, variable_of, with_exchanged_value, with_object, with_value, world_by}
use Rattle.gc_table.proofs.Forgetting.{none_forgotten, same-is}
use Rattle.gc_table.proofs.Reading.{object-changed}
use Rattle.gc_table.proofs.Telling.{tells-once}
use Rattle.gc_table.specs.Counting.{IsRaise, RaisesCounted, WinsTold, has_value, wins_in}
use Rattle.gc_table.proofs.Lending.{world-first}

-- what comes of the object by one step, which is won or not
abbrev Raised : World → Name → WorldObject → Bool → Type 0
Raised after name object b = (p : WorldObject) × (object_of after name ≡ Some p) × (p.value ≡ object.value + (if b then 1 else 0))

same_name : (name : Name) → is_same (Some name) (Some name) ≡ true
same_name name = and_from (name.section == name.section) (name.number == name.number) (eq-eqb name.section name.section refl) (eq-eqb name.number name.number refl)

-- an exchange
module _ (sh : Shape) (w : Words) (s : SeatState) (v m n : ℕ) (world : World) (name : Name) (object : WorldObject) (there : object_of world name ≡ Some object) (only : StoresIn world (own_section s) (ExchangeValue v m n) name → n ≡ m + 1) where
  abbrev to : Option Name
  to = variable_of world (own_section s) v

  won_by : to ≡ Some name → object.value ≡ m → Raised (world_by sh w s (ExchangeValue v m n) world) name object true
  won_by at is =
      let f : WorldObject → WorldObject = with_exchanged_value m n in
      let next : n ≡ m + 1 = only (at, (object, there, is)) in
      let after : object_of (with_object world to f) name ≡ Some (f object) = subst (λ (o : Option Name). object_of (with_object world o f) name ≡ Some (f object)) (sym at) (object-changed world name f object there) in
      let changed : f object ≡ with_value n object = ap (λ (b : Bool). if b then with_value n object else object) (eq-eqb object.value m is) in
      (with_value n object, after ∙ ap (λ (p : WorldObject). Some p) changed, omega (arith, next, is))

  lost_by : (to ≡ Some name → object.value ≡ m → ⊥) → Raised (world_by sh w s (ExchangeValue v m n) world) name object false
  lost_by not_won =
      let r = none_forgotten sh w s (ExchangeValue v m n) world name object there in
      ⊎_elim
      (λ (same : r.0 ≡ object). (r.0, r.1, let e = ap (λ (p : WorldObject). p.value) same in omega (arith, e)))
      (λ (stores : StoresIn world (own_section s) (ExchangeValue v m n) name).
      let same : stores.1.0 ≡ object = same_Some stores.1.0 object (sym stores.1.1 ∙ there) in
      absurd (not_won stores.0 (ap (λ (p : WorldObject). p.value) (sym same) ∙ stores.1.2)))
      r.2

  exchanged_by : (b : Bool) → (is_same to (Some name) && has_value (object_of world name) m) ≡ b → Raised (world_by sh w s (ExchangeValue v m n) world) name object b
  exchanged_by true e =
      let p = and_parts (is_same to (Some name)) (has_value (object_of world name) m) e in
      won_by (same-is to (Some name) p.0) (eqb-true object.value m (ap (λ (o : Option WorldObject). has_value o m) (sym there) ∙ p.1))
  exchanged_by false e =
      lost_by (λ at is.
      false≢true (sym e ∙ and_from (is_same to (Some name)) (has_value (object_of world name) m) (ap (λ (o : Option Name). is_same o (Some name)) at ∙ same_name name) (ap (λ (o : Option WorldObject). has_value o m) there ∙ eq-eqb object.value m is)))

-- another step leaves the object
left_by : (sh : Shape) (w : Words) (s : SeatState) (step : Step) (world : World) (name : Name) (object : WorldObject) → object_of world name ≡ Some object → (StoresIn world (own_section s) step name → ⊥) → Raised (world_by sh w s step world) name object false
left_by sh w s step world name object there none =
    let r = none_forgotten sh w s step world name object there in
    ⊎_elim (λ (same : r.0 ≡ object). (r.0, r.1, let e = ap (λ (p : WorldObject). p.value) same in omega (arith, e))) (λ (stores : StoresIn world (own_section s) step name). absurd (none stores)) r.2

raised_at : (c : Core) (s : SeatState) (step : Step) (world : World) (name : Name) (object : WorldObject) → object_of world name ≡ Some object → (StoresIn world (own_section s) step name → IsRaise step)
    → Raised (world_by c.shape (words_of c.shape c.words) s step world) name object (wins_in world (Some s) step name)
raised_at c s (ExchangeValue v m n) world name object there only = exchanged_by c.shape (words_of c.shape c.words) s v m n world name object there only _ refl
raised_at c s step world name object there only = left_by c.shape (words_of c.shape c.words) s step world name object there only

raised_of : (c : Core) (o : Option SeatState) (step : Step) (world : World) (name : Name) (object : WorldObject) → object_of world name ≡ Some object → (StoresOf world o step name → IsRaise step) → Raised (world_of c o step world) name object (wins_in world o step name)
raised_of c None step world name object there only = (object, there, omega arith)
raised_of c (Some s) step world name object there only = raised_at c s step world name object there only

pub raises_counted : RaisesCounted
raises_counted c world [] ok name object there only = (object, there, omega arith)
raises_counted c world (e ∷ es) ok name object there only =
    let d : Core = after_event c e in
    let next : World = world_after c e world in
    let one = raised_of c (slice_get c.seats e.seat) e.step world name object there only.0 in
    let rest = raises_counted d next es ok.1 name one.0 one.1 only.1 in
    let grown = one.2 in
    let later = rest.2 in
    (rest.0, ap (λ (x : World). object_of x name) (world-first c e es world ok.0) ∙ rest.1, omega (arith, grown, later))

-- what an exchange finds tells whether it is won
told : (c : Core) (world : World) (s : SeatState) (v m n word : ℕ) (name : Name) → variable_of world (own_section s) v ≡ Some name → FindsValue c world s v m n word → wins_in world (Some s) (ExchangeValue v m n) name ≡ (word == m)
told c world s v m n word name at f =
    let same : f.name ≡ name = same_Some f.name name (sym f.variable ∙ at) in
    let there : object_of world name ≡ Some f.object = subst (λ (x : Name). object_of world x ≡ Some f.object) same f.there in
    ap (λ (b : Bool). b && has_value (object_of world name) m) (ap (λ (o : Option Name). is_same o (Some name)) at ∙ same_name name)
    ∙ (ap (λ (o : Option WorldObject). has_value o m) there ∙ ap (λ (x : ℕ). x == m) (sym f.found))

pub wins-told : WinsTold
wins-told c world e s v m n name core agrees ok got is at =
    let tells : TellsOf c world (Some s) e.step = subst (λ (o : Option SeatState). TellsOf c world o e.step) got (tells-once c world e core agrees ok) in
    subst (λ (step : Step). TellsOf c world (Some s) step → wins_in world (Some s) step name ≡ won step (found_of c (Some s) step)) (sym is) (λ t. told c world s v m n (found_of c (Some s) (ExchangeValue v m n)) name at t) tells
