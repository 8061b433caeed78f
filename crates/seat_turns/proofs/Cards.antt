-- What a tracer does with cards: it cleans one only once for each that it draws, and takes no packet out of the deferred pool.
use Rattle.std.proofs.Common.{ℕ, ◌≡◌, ◌+◌, inl, inr, refl, sym, ap, ◌∙◌, subst, arith, Bool, true, false, not, eqb-true, Option, Some, None}
use Rattle.std.specs.Prelude.{◌==◌, IfNone, IfSome}
use Rattle.std.proofs.lemmas.Bool.{false≢true}
use Rattle.mark_core.specs.Numbers.{card_counter, done_count}
use Rattle.mark_core.specs.declared.kinds.Step.{Step}
use Rattle.mark_core.specs.declared.kinds.Step.TheVariants.{ClearCard, NextOfCards, ReadStat}
use Rattle.gc_table.specs.Log.{Only, events}
use Rattle.gc_table.specs.Running.{Ran}
use Rattle.gc_table.specs.declared.view.View.{View}
use Rattle.gc_table.proofs.History.Log.{events-none, only-more}
use Rattle.gc_table.proofs.Running.{ran-events}
use Rattle.packet_pools.specs.Counts.{count_of}
use Rattle.packet_pools.proofs.Counting.{count-join}
use Rattle.packet_pools.proofs.Few.{few-none}
use Rattle.card_clean.specs.Cleaning.{clears}
use Rattle.card_clean.specs.NextCards.{OnlyPassed, PassesNextCards, PassesNone, passes_cards}
use Rattle.tracer.specs.Tally.{pops}
use Rattle.gc_cycle.specs.Events.{never}
use Rattle.gc_cycle.specs.Sorts.{draws, takes_deferred}
use Rattle.gc_cycle.proofs.CleaningSpares.{Spares, untaken}
use Rattle.gc_cycle.proofs.NextCards.{passed-any}
use Rattle.gc_cycle.proofs.Stops.Admitted.{count-none}
use Rattle.cache_refills.specs.Pace.Payment.{reads_number}
use Rattle.cache_refills.proofs.Refills.Apart.{read-untaken}
use Rattle.cache_refills.proofs.Refills.Payment.{never-run}
use Rattle.seat_turns.specs.CardPass.{PassesSome, turn_cards}
use Rattle.seat_turns.specs.Tending.{TendsCards, tends_inside}
use Rattle.seat_turns.proofs.Tending.{tends-join, tends-none, tends-read}

-- what two runs count, one after the other
parts : (f : Step → ℕ → Bool) (u v w : View) → Ran u v → Ran v w → count_of f (events u w) ≡ count_of f (events u v) + count_of f (events v w)
parts f u v w a b = ap (count_of f) (ran-events u v w a b) ∙ count-join f (events u v) (events v w)

pub cards-none : (v : View) → TendsCards 0 v v
cards-none v =
    let none : count_of clears (events v v) ≡ 0 = ap (count_of clears) (events-none v) in
    record { tends = tends-none v; untaken = ap (never takes_deferred) (events-none v); once = omega (arith, none) }

pub cards-join : (m n k : ℕ) (u v w : View) → m + n ≡ k → TendsCards m u v → TendsCards n v w → TendsCards k u w
cards-join m n k u v w e a b =
    let cleared = parts clears u v w a.tends.ran b.tends.ran in
    let drawn = parts draws u v w a.tends.ran b.tends.ran in
    let one = a.once in
    let two = b.once in
    record {
      tends = tends-join 0 0 0 u v w refl a.tends b.tends;
      untaken = never-run takes_deferred u v w a.tends.ran b.tends.ran a.untaken b.untaken;
      once = omega (arith, e, one, two, cleared, drawn);
    }

-- the next cards were passed
passes-tend : (step : Step) → passes_cards step ≡ true → tends_inside step ≡ true
passes-tend NextOfCards e = refl
passes-tend (ReadStat which) e = subst (λ (w : ℕ). not (w == done_count) ≡ true) (sym (eqb-true which card_counter e)) refl
passes-tend step e = e

pub cards-passed : (o : Option ℕ) (early : Bool) (looks : ℕ) (v w : View) → OnlyPassed v w → IfSome o (λ left. PassesNextCards early left looks v w) → IfNone o (PassesNone looks v w) → TendsCards 0 v w
cards-passed o early looks v w l s n =
    let p = passed-any o early looks v w s n in
    let once = p.once in
    record {
      tends = record { ran = l.ran; only = only-more passes_cards tends_inside passes-tend v w l.only; done = count-none pops (events v w) p.piece.unpopped; own = l.own };
      untaken = p.piece.undeferred;
      once = omega (arith, p.piece.draws_are, p.piece.clears_are, once);
    }

pub passes-some : (o : Option ℕ) (v w : View) → IfSome o (λ left. PassesNextCards false left turn_cards v w) → IfNone o (PassesNone turn_cards v w) → PassesSome v w
passes-some (Some left) v w s n = inr (left, s)
passes-some None v w s n = inl n

-- numbers are read
number-uncleared : Spares reads_number clears
number-uncleared (ClearCard card) n e = absurd (false≢true e)
number-uncleared step n e = refl

pub cards-read : (v w : View) → Ran v w → Only reads_number v w → TendsCards 0 v w
cards-read v w ran only =
    let none : count_of clears (events v w) ≡ 0 = count-none clears (events v w) (untaken reads_number clears number-uncleared (events v w) only) in
    record { tends = tends-read v w ran only; untaken = read-untaken v w only; once = omega (arith, none) }

pub ruleset tends_nothing = (cards-none, few-none)
