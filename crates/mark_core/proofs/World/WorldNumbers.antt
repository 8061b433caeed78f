-- The rule on the numbers of seats is kept by each step.
use Rattle.std.proofs.Common.{ℕ, ◌≡◌, ◌<◌, ◌≤◌, List, [], ◌∷◌, ◌++◌, set, get_or, length, arith, refl, sym, ap, subst, Bool, true, false, not, ◌&&◌, ◌||◌, eqb, ◌+◌, ◌∙◌, None, ⊎_elim}
use Rattle.std.specs.List.{All, count_by}
use Rattle.std.proofs.lemmas.Bool.{and_parts, not-true, eqb-true, cases_Bool, true≢false, false≢true}
use Rattle.std.proofs.lemmas.List.Elements.{All-set, All-push, All-get_or}
use Rattle.std.proofs.lemmas.List.Sums.{sum_by_push}
use Rattle.mark_core.specs.Seats.{is_bare, takes_part, may_trace, may_sweep, work_in_hand, has_used, has_making}
use Rattle.mark_core.specs.Views.{Standing, standing_of}
use Rattle.mark_core.specs.Steps.WorldSteps.{is_stopped}
use Rattle.mark_core.proofs.Count.CountMoves.{bit}
use Rattle.mark_core.proofs.World.WorldMoves.{Census, census, others, nowhere, nowhere-fits, Fits, IsTally, census-set, census-now, others-fit, others-few, Stands, Bare, observes, sees}
use Rattle.mark_core.specs.declared.seat.SeatState.{SeatState}
use Rattle.std.specs.Prelude.{IsTrue, IsFalse, is_some}
use Rattle.mark_core.specs.Held.{holds_any}
use Rattle.mark_core.specs.declared.kinds.Shape.{Shape}

-- the rule of the world, as numbers
pub record Numbers (world help : ℕ) (ss : List Standing) : Type 0 where
  pub fits : All Fits ss
  pub tally : IsTally world help (census ss)

-- seat i among the others
pub stands : (world help : ℕ) (ss : List Standing) (i : ℕ) (x : Standing) → Numbers world help ss → length ss ≤ 41 → i < length ss → get_or ss i x ≡ x → Stands world help (others ss i) x
stands world help ss i x k few h is =
    record {
      fits = subst Fits is (All-get_or Fits ss i x h k.fits);
      tally = subst (IsTally world help) (census-now ss i x h is) k.tally;
      others = others-fit ss i k.fits;
      few = others-few ss i few;
    }

-- the numbers count the other seats, and seat i as it stands now
pub numbers-moved : (world help world' help' : ℕ) (ss : List Standing) (i : ℕ) (y : Standing) → Numbers world help ss → i < length ss → Stands world' help' (others ss i) y → Numbers world' help' (set ss i y)
numbers-moved world help world' help' ss i y k h m =
    record {
      fits = All-set Fits ss i y m.fits k.fits;
      tally = subst (IsTally world' help') (sym (census-set ss i y h)) m.tally;
    }

pub bare-from : (s : SeatState) → is_bare s ≡ true → Bare (standing_of s)
bare-from s e =
    let a = and_parts (not s.counted && not s.raised) (not s.helping) e in
    let b = and_parts (not s.counted) (not s.raised) a.0 in
    record { counted = ap bit (not-true _ b.0); raised = ap bit (not-true _ b.1); helping = ap bit (not-true _ a.1) }

or_none : (a : Bool) → a ≡ (a || false)
or_none true = refl
or_none false = refl

or_all : (a : Bool) → true ≡ (a || true)
or_all true = refl
or_all false = refl

-- nothing was learned
as_before : (world help : ℕ) (r : Census) (x : Standing) (k a : Bool) → Stands world help r x → x.knows ≡ k → x.alone ≡ a → Stands world help r (record x { knows = k; alone = a })
as_before world help r x k a m e f =
    subst (λ (b : Bool). Stands world help r (record x { knows = k; alone = b })) f (subst (λ (b : Bool). Stands world help r (record x { knows = b; alone = x.alone })) e m)

observed_by : (world help : ℕ) (r : Census) (x : Standing) (k z : Bool) → Stands world help r x → x.knows ≡ k → (x.raised && is_stopped world) ≡ z → Stands world help r (record x { knows = k || z; alone = x.alone || (z && not k) })
observed_by world help r x true true m e f = as_before world help r x true (x.alone || false) m e (or_none x.alone)
observed_by world help r x true false m e f = as_before world help r x true (x.alone || false) m e (or_none x.alone)
observed_by world help r x false false m e f = as_before world help r x false (x.alone || false) m e (or_none x.alone)
observed_by world help r x false true m e f =
    let a = and_parts x.raised (is_stopped world) f in
    subst (λ (b : Bool). Stands world help r (record x { knows = true; alone = b })) (or_all x.alone) (observes world help r x m (eqb-true _ _ a.1) (ap bit a.0) (ap bit e))

-- 28: the seat looks whether the world has stopped
pub observed : (world help : ℕ) (r : Census) (x : Standing) → Stands world help r x → Stands world help r (record x { knows = x.knows || (x.raised && is_stopped world); alone = x.alone || (x.raised && is_stopped world && not x.knows) })
observed world help r x m = observed_by world help r x x.knows (x.raised && is_stopped world) m refl refl

seen_by : (world help : ℕ) (r : Census) (x : Standing) (z : Bool) → Stands world help r x → (x.knows && not x.opened && eqb help 0) ≡ z → Stands world help r (record x { alone = x.alone || z })
seen_by world help r x false m e = subst (λ (b : Bool). Stands world help r (record x { alone = b })) (or_none x.alone) m
seen_by world help r x true m e =
    let a = and_parts (x.knows && not x.opened) (eqb help 0) e in
    let b = and_parts x.knows (not x.opened) a.0 in
    subst (λ (c : Bool). Stands world help r (record x { alone = c })) (or_all x.alone) (sees world help r x m (eqb-true help 0 a.1) (ap bit b.0) (ap bit (not-true _ b.1)))

-- 47: the seat looks whether a helper is left
pub seen : (world help : ℕ) (r : Census) (x : Standing) → Stands world help r x → Stands world help r (record x { alone = x.alone || (x.knows && not x.opened && eqb help 0) })
seen world help r x m = seen_by world help r x (x.knows && not x.opened && eqb help 0) m refl

counts_push : (f : Standing → Bool) (ss : List Standing) → f nowhere ≡ false → count_by f (ss ++ nowhere ∷ []) ≡ count_by f ss
counts_push f ss z = let e = sum_by_push (λ (s : Standing). bit (f s)) ss nowhere in omega (arith, e, ap bit z)

census_push : (ss : List Standing) → census (ss ++ nowhere ∷ []) ≡ census ss
census_push ss =
    rw (
      counts_push (λ (s : Standing). s.counted) ss refl,
      counts_push (λ (s : Standing). s.active) ss refl,
      counts_push (λ (s : Standing). s.raised) ss refl,
      counts_push (λ (s : Standing). s.knows) ss refl,
      counts_push (λ (s : Standing). s.helping) ss refl,
      counts_push (λ (s : Standing). s.admitted) ss refl,
      counts_push (λ (s : Standing). s.opened) ss refl,
      counts_push (λ (s : Standing). s.alone) ss refl,
    )
    refl

-- 31: a further seat
pub numbers-push : (world help : ℕ) (ss : List Standing) → Numbers world help ss → Numbers world help (ss ++ nowhere ∷ [])
numbers-push world help ss k = record { fits = All-push Fits ss nowhere k.fits nowhere-fits; tally = subst (IsTally world help) (sym (census_push ss)) k.tally }

ended : (world help : ℕ) (r : Census) (x : Standing) → Stands world help r x → Bare x → Stands world help r nowhere
ended world help r x k b =
    let t = k.tally in
    let f = k.fits in
    record {
      fits = nowhere-fits;
      tally =
          record {
            world_word = omega arith;
            one_raised = omega arith;
            help_word = omega arith;
            admitted_stopped = λ h. omega arith;
            knows_stopped = λ h. omega arith;
            alone_unhelped = λ h. omega arith;
          };
      others = k.others;
      few = k.few;
    }

-- 32: the record of a bare seat ends
pub numbers-end : (world help : ℕ) (ss : List Standing) (i : ℕ) (x : Standing) → Numbers world help ss → length ss ≤ 41 → i < length ss → get_or ss i x ≡ x → Bare x → Numbers world help (set ss i nowhere)
numbers-end world help ss i x k few h is b = numbers-moved world help world help ss i nowhere k h (ended world help (others ss i) x (stands world help ss i x k few h is) b)

-- What a seat doesn't have outside the world, and unless it is active: kept by each step of the seat.
-- what a seat doesn't have outside
abbrev pub HasNothing : Shape → SeatState → Type 0
HasNothing sh s = IsFalse (holds_any s.held) × IsFalse s.reserved × IsFalse s.credit × IsFalse (work_in_hand sh.fields s) × (s.cache ≡ None) × (s.block ≡ None)

-- what the rule of the world says of one seat outside, inactive or admitted, by the fields of its record
pub record Local (sh : Shape) (s : SeatState) : Type 0 where
  pub outside : IsFalse (takes_part s) → HasNothing sh s
  pub calm : IsFalse s.active → (s.owes ≡ None) × IsFalse (has_used s.cache) × IsFalse (has_making s.cache) × (s.got ≡ 0)
  pub unseen : IsFalse (takes_part s) → s.phase_seen ≡ None
  pub uncached : IsTrue s.admitted → s.cache ≡ None

-- a seat that takes part isn't outside
pub inside : (s : SeatState) (P : Type 0) → takes_part s ≡ true → IsFalse (takes_part s) → P
inside s P e f = absurd (true≢false (sym e ∙ f))

active_runs : (s : SeatState) (P : Type 0) → s.active ≡ true → IsFalse s.active → P
active_runs s P e f = absurd (true≢false (sym e ∙ f))

-- a step that is allowed only inside, and leaves what else is told of the seat
pub stays : (sh : Shape) (s t : SeatState) → Local sh s → takes_part s ≡ true → takes_part t ≡ takes_part s → t.active ≡ s.active → t.admitted ≡ s.admitted → (IsFalse s.active → t.owes ≡ None) → t.cache ≡ s.cache → t.got ≡ s.got → Local sh t
stays sh s t k e part active admitted owes cache got =
    record {
      outside = inside t _ (part ∙ e);
      calm = λ f. let a : IsFalse s.active = sym active ∙ f in let o = k.calm a in rw (cache, got) (owes a, o.1, o.2, o.3);
      unseen = inside t _ (part ∙ e);
      uncached = λ f. cache ∙ k.uncached (sym admitted ∙ f);
    }

-- a step of a mutator
pub mutates : (sh : Shape) (s t : SeatState) → Local sh s → s.active ≡ true → takes_part s ≡ true → takes_part t ≡ takes_part s → t.active ≡ s.active → (IsTrue s.admitted → t.cache ≡ None) → t.admitted ≡ s.admitted → Local sh t
mutates sh s t k run e part active cache admitted =
    record {
      outside = inside t _ (part ∙ e);
      calm = active_runs t _ (active ∙ run);
      unseen = inside t _ (part ∙ e);
      uncached = λ f. cache (sym admitted ∙ f);
    }

part_from_trace : (a k d x y z : Bool) → ((a && x) || (k && y) || (d && z)) ≡ true → (a || k || d) ≡ true
part_from_trace true k d x y z e = refl
part_from_trace false true d x y z e = refl
part_from_trace false false true x y z e = refl
part_from_trace false false false x y z e = absurd (false≢true e)

part_from_sweep : (a k d y z : Bool) → ((k && y) || (d && z)) ≡ true → (a || k || d) ≡ true
part_from_sweep true k d y z e = refl
part_from_sweep false true d y z e = refl
part_from_sweep false false true y z e = refl
part_from_sweep false false false y z e = absurd (false≢true e)

pub part-from_active : (a k d : Bool) → (a || k) ≡ true → (a || k || d) ≡ true
part-from_active true k d e = refl
part-from_active false true d e = refl
part-from_active false false d e = absurd (false≢true e)

pub tracer-in : (phase : ℕ) (s : SeatState) → may_trace phase s ≡ true → takes_part s ≡ true
tracer-in phase s e = part_from_trace s.active s.knows s.admitted _ _ _ e

pub sweeper-in : (phase : ℕ) (s : SeatState) → may_sweep phase s ≡ true → takes_part s ≡ true
sweeper-in phase s e = part_from_sweep s.active s.knows s.admitted _ _ e

pub runner-in : (s : SeatState) → s.active ≡ true → takes_part s ≡ true
runner-in s e = rw e refl

-- a seat with a packet, with work, or with a block takes part
pub holder-in : (sh : Shape) (s : SeatState) → Local sh s → holds_any s.held ≡ true → takes_part s ≡ true
holder-in sh s k e =
    ⊎_elim
    (λ (f : takes_part s ≡ true). f)
    (λ (f : takes_part s ≡ false). absurd (true≢false (sym e ∙ (k.outside f).0)))
    (cases_Bool (takes_part s))

pub worker-in : (sh : Shape) (s : SeatState) → Local sh s → work_in_hand sh.fields s ≡ true → takes_part s ≡ true
worker-in sh s k e =
    ⊎_elim
    (λ (f : takes_part s ≡ true). f)
    (λ (f : takes_part s ≡ false). absurd (true≢false (sym e ∙ (k.outside f).3)))
    (cases_Bool (takes_part s))

pub block-in : (sh : Shape) (s : SeatState) → Local sh s → is_some s.block ≡ true → takes_part s ≡ true
block-in sh s k e =
    ⊎_elim
    (λ (f : takes_part s ≡ true). f)
    (λ (f : takes_part s ≡ false). absurd (true≢false (sym e ∙ ap is_some (k.outside f).5)))
    (cases_Bool (takes_part s))

pub cache-in : (sh : Shape) (s : SeatState) → Local sh s → is_some s.cache ≡ true → takes_part s ≡ true
cache-in sh s k e =
    ⊎_elim
    (λ (f : takes_part s ≡ true). f)
    (λ (f : takes_part s ≡ false). absurd (true≢false (sym e ∙ ap is_some (k.outside f).4)))
    (cases_Bool (takes_part s))

pub none-takes : (a k d : Bool) → bit a + bit k + bit d ≡ 0 → (a || k || d) ≡ false
none-takes true k d e = absurd (omega arith)
none-takes false true d e = absurd (omega arith)
none-takes false false true e = absurd (omega arith)
none-takes false false false e = refl

-- a seat that is bare is outside
pub bare-out : (s : SeatState) → Fits (standing_of s) → is_bare s ≡ true → takes_part s ≡ false
bare-out s f e = let b = bare-from s e in none-takes s.active s.knows s.admitted (omega (arith, b.counted, b.raised, b.helping, f.active_counted, f.knows_raised, f.admitted_helps))
