-- A cycle begins only if one is due.
use Rattle.std.proofs.Common.{ℕ, ◌≡◌, ◌+◌, ◌*◌, List, [], ◌∷◌, ◌++◌, refl, ap, ◌∙◌, subst, true, false, Some, None, Option, sym, Bool, not, ◌&&◌, ◌||◌}
use Rattle.std.specs.Prelude.{nat_lt}
use Rattle.std.proofs.lemmas.Bool.{and_from, false≢true, not-true, true≢false, false_from_ne_true}
use Rattle.std.proofs.lemmas.List.{append-nil}
use Rattle.mark_core.specs.Cells.{or_else}
use Rattle.mark_core.specs.Numbers.{free_count, last_count, rescanned_count}
use Rattle.mark_core.specs.declared.kinds.Step.{Step}
use Rattle.mark_core.specs.declared.kinds.Step.TheVariants.{StorePhase, ReadStat}
use Rattle.mark_core.specs.declared.kinds.Phase.TheVariants.{Marking, Idle}
use Rattle.gc_table.specs.Log.{event, events, Only}
use Rattle.gc_table.specs.Running.{Ran}
use Rattle.gc_table.specs.declared.view.Entry.{Entry}
use Rattle.gc_table.specs.declared.view.View.{View}
use Rattle.gc_table.proofs.History.Log.{events-none, events-after}
use Rattle.gc_table.proofs.Running.{ran-events, ran-join}
use Rattle.gc_cycle.specs.Events.{each_after}
use Rattle.gc_cycle.specs.Mutating.{stays_calm}
use Rattle.gc_cycle.proofs.Sequences.{none-of-steps}
use Rattle.cache_refills.specs.InStops.{begins_none}
use Rattle.cache_refills.specs.Pace.Pacing.{begins_where_due, due_by, is_due, last_read, read_of, statistic, tries_marking, was_due, KicksOff}
use Rattle.cache_refills.specs.Refilling.{looks_for_end}
use Rattle.cache_refills.proofs.Causes.{after-earlier, after-join, after-none}
use Rattle.mark_core.specs.Seats.{is_phase}
use Rattle.gc_table.specs.Taking.{after, May, won}
use Rattle.gc_table.specs.Rule.{IsState, Agrees}
use Rattle.gc_table.specs.TableState.{TableState}
use Rattle.stop_world.proofs.Standing.{active-counted, strong, unless}

-- A cycle begins.
-- three statistics are read
abbrev pub three : ℕ → ℕ → ℕ → List Entry
three a b d = event (ReadStat last_count) a ∷ event (ReadStat rescanned_count) b ∷ event (ReadStat free_count) d ∷ []

pub two-events : (u v w : View) (s t : Step) (m n : ℕ) → Ran u v → Ran v w → v ≡ after s m u → w ≡ after t n v → events u w ≡ event s m ∷ event t n ∷ []
two-events u v w s t m n f g a b = ran-events u v w f g ∙ (ap (λ es. es ++ events v w) (events-after u v s m a) ∙ ap (λ es. event s m ∷ es) (events-after v w t n b))

pub three-events : (v u w x : View) (a b d : ℕ) → Ran v u → Ran u w → Ran w x → u ≡ after (ReadStat last_count) a v → w ≡ after (ReadStat rescanned_count) b u → x ≡ after (ReadStat free_count) d w → events v x ≡ three a b d
three-events v u w x a b d f g h p q r =
    ran-events v u x f (ran-join u w x g h)
    ∙ (ap (λ es. es ++ events u x) (events-after v u (ReadStat last_count) a p) ∙ ap (λ es. event (ReadStat last_count) a ∷ es) (two-events u w x (ReadStat rescanned_count) (ReadStat free_count) b d g h q r))

pub none-due : (a b d : ℕ) → nat_lt (8 * statistic d) (statistic a + statistic b) ≡ false → KicksOff false (three a b d)
none-due a b d e = record { due = false; read = ap Some e; tried = refl; answer = refl }

same-twice : (b : Bool) → b ≡ ((true && b) && b) || false
same-twice true = refl
same-twice false = refl

pub one-due : (a b d m : ℕ) (r : Bool) → nat_lt (8 * statistic d) (statistic a + statistic b) ≡ true → r ≡ won (StorePhase Marking) m → KicksOff r (three a b d ++ event (StorePhase Marking) m ∷ [])
one-due a b d m r e f = record { due = true; read = ap Some e; tried = refl; answer = f ∙ same-twice (is_phase m Idle) }

-- an active seat hasn't stopped the world
pub active-unknowing : (x : TableState) (i : ℕ) (v : View) → IsState x → Agrees x i v → v.state.active ≡ true → v.state.knows ≡ false
active-unknowing x i v k a active =
    let s = strong x i v k a in
    let counted = active-counted x i v k a active in
    unless v.state.knows v.state.raised (λ e. s.knows_is_raised e) (false_from_ne_true v.state.raised (λ e. true≢false (sym counted ∙ s.raised_not_counted e)))

pub may-try : (v : View) → v.state.active ≡ true → May (StorePhase Marking) v
may-try v active x i k a = (refl, (active, (ap (λ b. not b || v.state.alone) (active-unknowing x i v k a active), tt)))

keeps-exact : (b : Bool) → b || false ≡ b
keeps-exact true = refl
keeps-exact false = refl

pub tried-state : (v w : View) (n : ℕ) → w ≡ after (StorePhase Marking) n v → w.state ≡ v.state
tried-state v w n e = ap (λ (x : View). x.state) e ∙ ap (λ b. record v.state { exact = b }) (keeps-exact v.state.exact)

due-more : (a b d x y z : Option ℕ) → is_due (due_by a b d) ≡ true → is_due (due_by (or_else a x) (or_else b y) (or_else d z)) ≡ true
due-more (Some a) (Some b) (Some d) x y z e = e
due-more None b d x y z e = absurd (false≢true e)
due-more (Some a) None d x y z e = absurd (false≢true e)
due-more (Some a) (Some b) None x y z e = absurd (false≢true e)

-- what was read before changes nothing of it
due-later : (xs ys : List Entry) → was_due ys ≡ true → was_due (xs ++ ys) ≡ true
due-later [] ys h = h
due-later (x ∷ xs) ys h = due-more (last_read last_count (xs ++ ys)) (last_read rescanned_count (xs ++ ys)) (last_read free_count (xs ++ ys)) (read_of last_count x.step x.found) (read_of rescanned_count x.step x.found) (read_of free_count x.step x.found) (due-later xs ys h)

-- no cycle was begun
pub due-none : (es : List Entry) → begins_none es ≡ true → begins_where_due es ≡ true
due-none es h = after-none was_due tries_marking [] es (not-true _ h)

pub due-empty : (v : View) → begins_where_due (events v v) ≡ true
due-empty v = ap begins_where_due (events-none v)

-- one call after another
pub due-join : (u v w : View) → Ran u v → Ran v w → begins_where_due (events u v) ≡ true → begins_where_due (events v w) ≡ true → begins_where_due (events u w) ≡ true
due-join u v w r q a b = ap begins_where_due (ran-events u v w r q) ∙ after-join was_due tries_marking [] (events u v) (events v w) a (again (events u v) (events v w) b)
  where
    again : (es fs : List Entry) → begins_where_due fs ≡ true → each_after was_due tries_marking es fs ≡ true
    again es fs c = subst (λ zs. each_after was_due tries_marking zs fs ≡ true) (append-nil es) (after-earlier was_due was_due tries_marking es (λ zs k. due-later es zs k) [] fs c)

-- steps that begin no cycle
calm-untried : (step : Step) (n : ℕ) → stays_calm step ≡ true → tries_marking step n ≡ false
calm-untried (StorePhase to) n e = absurd (false≢true e)
calm-untried step n e = refl

looks-untried : (step : Step) (n : ℕ) → looks_for_end step ≡ true → tries_marking step n ≡ false
looks-untried (StorePhase to) n e = absurd (false≢true e)
looks-untried step n e = refl

pub due-calm : (v w : View) → Only stays_calm v w → begins_where_due (events v w) ≡ true
due-calm v w o = after-none was_due tries_marking [] (events v w) (none-of-steps stays_calm tries_marking calm-untried (events v w) o)

pub due-looks : (v w : View) → Only looks_for_end v w → begins_where_due (events v w) ≡ true
due-looks v w o = after-none was_due tries_marking [] (events v w) (none-of-steps looks_for_end tries_marking looks-untried (events v w) o)

-- the numbers were read, and by them a cycle was begun
pub due-begun : (a b d m : ℕ) → nat_lt (8 * statistic d) (statistic a + statistic b) ≡ true → begins_where_due (three a b d ++ event (StorePhase Marking) m ∷ []) ≡ true
due-begun a b d m e = and_from (nat_lt (8 * statistic d) (statistic a + statistic b)) true e refl
