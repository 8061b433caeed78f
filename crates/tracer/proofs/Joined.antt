-- One part of a trace after another.
use Rattle.std.proofs.Common.{ℕ, ◌≡◌, ◌+◌, List, ◌++◌, sym, ap, ◌∙◌, Option}
use Rattle.mark_core.specs.Numbers.{deferred_pool_number}
use Rattle.mark_core.specs.Seats.{is_the}
use Rattle.gc_table.specs.declared.view.Entry.{Entry}
use Rattle.gc_table.specs.declared.view.View.{View}
use Rattle.gc_table.specs.Running.{after_all}
use Rattle.packet_pools.specs.OnlyTraced.{OnlyTraced}
use Rattle.gc_table.specs.Log.{events}
use Rattle.packet_pools.specs.Seeking.{gets_from, was_got_from}
use Rattle.packet_pools.specs.Counts.{count_of, dirties}
use Rattle.gc_table.proofs.History.Log.{events-join}
use Rattle.packet_pools.proofs.Counting.{count-join}
use Rattle.tracer.specs.Deferral.{waits, pops_waiting, defers}
use Rattle.tracer.specs.Tally.{pops, count_by, only_traces}
use Rattle.tracer.specs.Parts.{Did}
use Rattle.tracer.proofs.Whole.{by-join, none-join, popped-join, traces-join, waits-join}

module _ (o q r : Option ℕ) (d e f g l m x y z : ℕ) (u v : View) (xs ys es : List Entry) (all : es ≡ xs ++ ys) (at : v ≡ after_all xs u) (dx : d + e ≡ x) (fy : f + g ≡ y) (lz : l + m ≡ z) where
  pub did-join : Did o q d f l u xs → Did q r e g m v ys → Did o r x y z u es
  did-join a b =
      record {
        waiting =
            λ p.
            ap (λ zs. waits p u zs (is_the o p)) all
            ∙ (waits-join p xs ys u (is_the o p) ∙ ((λ i. waits p (sym at i) ys (a.waiting p i)) ∙ b.waiting p));
        kept =
            λ p.
            ap (λ zs. pops_waiting p u zs (is_the o p)) all
            ∙ popped-join p xs ys u (is_the o p) (a.kept p) ((λ i. pops_waiting p (sym at i) ys (a.waiting p i)) ∙ b.kept p);
        undeferred = λ p. ap (was_got_from deferred_pool_number p) all ∙ none-join (gets_from deferred_pool_number p) xs ys (a.undeferred p) (b.undeferred p);
        done = ap (count_of pops) all ∙ (count-join pops xs ys ∙ ((λ i. a.done i + b.done i) ∙ dx));
        deferred = ap (count_by defers u) all ∙ (by-join defers xs ys u ∙ ((λ i. a.deferred i + (ap (λ t. count_by defers t ys) (sym at) ∙ b.deferred) i) ∙ fy));
        dirtied = ap (count_of dirties) all ∙ (count-join dirties xs ys ∙ ((λ i. a.dirtied i + b.dirtied i) ∙ lz));
        steps = ap only_traces all ∙ traces-join xs ys a.steps b.steps;
      }

-- one call after another
pub did-then : (o q r : Option ℕ) (d e f g l m x y z : ℕ) (u v w : View) → OnlyTraced u v → OnlyTraced v w → d + e ≡ x → f + g ≡ y → l + m ≡ z → Did o q d f l u (events u v) → Did q r e g m v (events v w) → Did o r x y z u (events u w)
did-then o q r d e f g l m x y z u v w a b dx fy lz = did-join o q r d e f g l m x y z u v (events u v) (events v w) (events u w) (events-join u v w a.log b.log) a.ran.steps dx fy lz
