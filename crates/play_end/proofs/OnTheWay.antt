-- What is known of each state on the way to the last one.
use Rattle.std.proofs.Common.{◌≡◌, ℕ, ◌+◌, ◌<◌, ◌≤◌, ap, sym, ◌∙◌, subst, arith, List, [], ◌∷◌, ◌++◌, Bool, true, false, cond, eqb, append_assoc, ⊎_elim, Option, Some, None}
use Rattle.std.specs.Prelude.{IsFalse, slice_get}
use Rattle.std.specs.List.{All}
use Rattle.std.proofs.lemmas.Bool.{cases_eq}
use Rattle.std.proofs.lemmas.List.{append-nil}
use Rattle.std.proofs.lemmas.List.Elements.{All-nil, All-cons}
use Rattle.std.proofs.lemmas.Option.{slice_get_within, slice_get-get_or}
use Rattle.mark_core.proofs.Pool.PoolsKept.{shape-kept}
use Rattle.mark_core.specs.declared.kinds.Event.{Event}
use Rattle.mark_core.specs.declared.kinds.Shape.{Shape}
use Rattle.mark_core.specs.declared.kinds.Step.{Step}
use Rattle.mark_core.specs.declared.kinds.Step.TheVariants.{StoreNew}
use Rattle.mark_core.specs.declared.seat.SeatState.{SeatState}
use Rattle.plain_heap.specs.declared.operation.Op.{Op}
use Rattle.gc_table.specs.declared.view.Place.{Place}
use Rattle.gc_table.specs.declared.view.PlainStep.{PlainStep}
use Rattle.gc_table.specs.declared.view.SectionState.{SectionState}
use Rattle.gc_table.specs.Rule.{IsState, Leads}
use Rattle.gc_table.specs.Sections.{season_of, section_after}
use Rattle.gc_table.specs.TableState.{TableState, no_section, section_at, sections_after, state_after}
use Rattle.play_end.proofs.Doing.{got-left}
use Rattle.play_end.proofs.OneEvent.{season_in, Rests, Steps, kept-at, one-event}

-- an object that has a place
abbrev HasPlace : SectionState → ℕ → Place → Type 0
HasPlace y k p = slice_get y.places k ≡ Some p

-- it keeps it
abbrev KeepsPlaces : SectionState → SectionState → Type 0
KeepsPlaces y z = (k : ℕ) (p : Place) → HasPlace y k p → HasPlace z k p

place-more : (b : Bool) (ps : List Place) (q : Place) (k : ℕ) (p : Place) → slice_get ps k ≡ Some p → slice_get (cond b (ps ++ q ∷ []) ps) k ≡ Some p
place-more true ps q k p at = got-left ps (q ∷ []) k (slice_get_within ps k p at) ∙ at
place-more false ps q k p at = at

step-keeps : (sh : Shape) (plan : List (List Op)) (s : SeatState) (step : Step) (y : SectionState) → KeepsPlaces y (section_after sh plan s step y)
step-keeps sh plan s (StoreNew c part word) y k p at = place-more (eqb part (sh.fields + 1)) y.places (record { cell = c; season = season_of s; heap = y.meaning.heap }) k p at
step-keeps sh plan s step y k p at = at

event-keeps : (sh : Shape) (plan : List (List Op)) (o : Option SeatState) (step : Step) (xs : List SectionState) (w : ℕ) → KeepsPlaces (section_at xs w) (section_at (sections_after sh plan o step xs) w)
event-keeps sh plan None step xs w = λ k p at. at
event-keeps sh plan (Some s) step xs w = kept-at KeepsPlaces (λ y k p at. at) s.section (section_after sh plan s step) xs (step-keeps sh plan s step) w

module _ (f : TableState) (whole : IsState f) (alone : IsFalse f.core.shape.sharing) where
  -- the sizes of the heap are the same on the way
  pub same-shape : (es : List Event) (y : TableState) → Leads es y f → y.core.shape ≡ f.core.shape
  same-shape [] y l = ap (λ (x : TableState). x.core.shape) l
  same-shape (e ∷ es) y l = sym (shape-kept y.core e) ∙ same-shape es (state_after y e) l.2

  pub way-whole : (es : List Event) (y : TableState) → Leads es y f → IsState y
  way-whole [] y l = subst IsState (sym l) whole
  way-whole (e ∷ es) y l = l.0

  pub way-alone : (es : List Event) (y : TableState) → Leads es y f → IsFalse y.core.shape.sharing
  way-alone es y l = ap (λ (sh : Shape). sh.sharing) (same-shape es y l) ∙ alone

  -- a section of the last state is there
  pub way-there : (es : List Event) (y : TableState) (w : ℕ) → Leads es y f → w < f.core.shape.sections → slice_get y.sections w ≡ Some (section_at y.sections w)
  way-there es y w l inside = slice_get-get_or y.sections w no_section (omega (arith, inside, (way-whole es y l).sections, ap (λ (sh : Shape). sh.sections) (same-shape es y l)))

  -- a place that an object has on the way it has in the end
  pub places-led : (es : List Event) (y : TableState) → Leads es y f → (w : ℕ) → KeepsPlaces (section_at y.sections w) (section_at f.sections w)
  places-led [] y l w k p at = subst (λ (x : TableState). HasPlace (section_at x.sections w) k p) l at
  places-led (e ∷ es) y l w k p at = places-led es (state_after y e) l.2 w k p (event-keeps y.core.shape y.plan (slice_get y.core.seats e.seat) e.step y.sections w k p at)

  -- the plain steps that section w makes from this state on come in this season and later ones
  pub record Later (y : TableState) (w : ℕ) : Type 0 where
    pub more : List PlainStep
    pub history : (section_at f.sections w).history ≡ (section_at y.sections w).history ++ more
    pub late : All (λ (t : PlainStep). season_in y.sections ≤ t.season) more

  later-rests : (y d : TableState) (w : ℕ) → Rests y.sections d.sections → Later d w → Later y w
  later-rests y d w r n = record {
    more = n.more;
    history = n.history ∙ ap (λ (l : List PlainStep). l ++ n.more) (r.history w);
    late = λ k t low.
        ⊎_elim (λ (e : season_in d.sections ≡ season_in y.sections). omega (arith, e, n.late k t low)) (λ (e : season_in d.sections ≡ season_in y.sections + 1). omega (arith, e, n.late k t low)) r.season;
  }

  later-steps : (y d : TableState) (w : ℕ) → Steps y d.sections → Later d w → Later y w
  later-steps y d w r n = ⊎_elim here else (cases_eq w r.section)
    where
      late : All (λ (t : PlainStep). season_in y.sections ≤ t.season) n.more
      late k t low = omega (arith, n.late k t low, r.season)

      here : w ≡ r.section → Later y w
      here e = record {
        more = r.step ∷ n.more;
        history = n.history
            ∙ (ap (λ (l : List PlainStep). l ++ n.more) (subst (λ (v : ℕ). (section_at d.sections v).history ≡ (section_at y.sections v).history ++ r.step ∷ []) (sym e) r.history)
            ∙ append_assoc (section_at y.sections w).history (r.step ∷ []) n.more);
        late = All-cons (λ (t : PlainStep). season_in y.sections ≤ t.season) r.step n.more (omega (arith, r.now)) late;
      }

      else : (w ≡ r.section → ⊥) → Later y w
      else far = record { more = n.more; history = n.history ∙ ap (λ (x : SectionState). x.history ++ n.more) (r.others w far); late = late }

  pub later : (es : List Event) (y : TableState) → Leads es y f → (w : ℕ) → Later y w
  later [] y l w = record {
    more = [];
    history = ap (λ (x : TableState). (section_at x.sections w).history) (sym l) ∙ sym (append-nil (section_at y.sections w).history);
    late = All-nil (λ (t : PlainStep). season_in y.sections ≤ t.season);
  }
  later (e ∷ es) y l w =
      ⊎_elim
      (λ (r : Rests y.sections (state_after y e).sections). later-rests y (state_after y e) w r (later es (state_after y e) l.2 w))
      (λ (r : Steps y (state_after y e).sections). later-steps y (state_after y e) w r (later es (state_after y e) l.2 w))
      (one-event y e l.0 (way-alone (e ∷ es) y l) l.1)
