-- What the calls of a mutator do to a queue of which all that was done before fits.
use Rattle.std.proofs.Common.{ℕ, ◌≡◌, ◌++◌, ◌∙◌, List, arith, append-nil, ap, subst, sym, refl, true}
use Rattle.std.specs.Prelude.{[]}
use Rattle.gc_table.specs.Lending.{leaves_variable}
use Rattle.gc_table.specs.Log.{all_steps}
use Rattle.gc_table.specs.Seats.{state_of, view_of}
use Rattle.gc_table.specs.declared.view.Entry.{Entry}
use Rattle.gc_table.proofs.History.Log.{events-none}
use Rattle.queue_laws.specs.QueueLogs.{fits}
use Rattle.queue_laws.specs.Reads.{readings, starting}
use Rattle.shared_heap.specs.declared.mutator.SharedMutator.{SharedMutator}
use Rattle.example_structures.specs.Fitting.{FitsSince, fit_all, hands, since}
use Rattle.example_structures.specs.FitLaws.{FitsByCalls, began}
use Rattle.example_structures.proofs.FitCalls.{get-fits, lent-fits, same-fits, value-fits, variable-fits}
use Rattle.example_structures.proofs.FitChanges.{made-fits}
use Rattle.example_structures.proofs.FitLogs.{fit-each}

starts : (q : ℕ) (m : SharedMutator) → FitsSince q (began m) m
starts q m =
    let none : since (began m) m ≡ [] = events-none (view_of m.seat) in
    record {
      shape = refl;
      log = sym (append-nil (view_of m.seat).log) ∙ ap (λ (l : List Entry). (view_of m.seat).log ++ l) (sym none);
      fit = ap (λ (l : List Entry). fit_all (began m).fields (began m).seat (hands q) [] l) none;
      left = ap (λ (l : List Entry). all_steps (leaves_variable q) l) none;
      told = λ v u f below. ap (λ (l : List Entry). (readings v u f (starting (state_of m.seat) v) l).word) none;
    }

pub by-calls : FitsByCalls
by-calls =
    record {
      are_hands =
          λ q low.
          record {
            exist = (omega (arith, low), omega arith, omega arith, omega arith, omega arith);
            differ = ((λ e. omega (arith, e, low)), (λ e. omega (arith, e, low)), (λ e. omega (arith, e)), (λ e. omega (arith, e)), (λ e. omega (arith, e)));
          };
      starts = starts;
      fit =
          λ q c es i b m is all before after x e.
          subst (λ (n : ℕ). fits n b.seat (hands q) before x.step ≡ true) is.fields
          (fit-each b.fields b.seat (hands q) [] before after x (subst (λ (l : List Entry). fit_all b.fields b.seat (hands q) [] l ≡ true) (is.log ∙ e) all.fit));
      left = λ q b m all. all.left;
      same = λ q x y. same-fits x y q;
      reads = λ q x y. value-fits x y q;
      gets = λ q x y. get-fits x y q;
      lends = λ q x y. lent-fits x y q;
      assigns = λ q x y. variable-fits x y q;
      makes = λ q x y w n below other k. made-fits x y w n k below q other;
    }
