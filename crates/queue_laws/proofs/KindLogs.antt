-- Which exchanges are of a queue's kinds, as the log of a seat tells.
use Rattle.std.proofs.Common.{ℕ, ◌≡◌, ◌≢◌, ◌⊎◌, ◌<◌, ◌≤◌, List, length, false, take, arith, sym, ap, ◌∙◌, subst, Some, inl, inr, ⊎_elim}
use Rattle.std.specs.Prelude.{slice_get, slice_index}
use Rattle.std.proofs.lemmas.Bool.{cases_eq}
use Rattle.std.proofs.lemmas.Option.{same_Some}
use Rattle.plain_heap.specs.Paths.{Name}
use Rattle.mark_core.specs.Layout.{words_of}
use Rattle.mark_core.specs.Steps.{Core, run_of}
use Rattle.mark_core.specs.declared.kinds.Event.{Event}
use Rattle.mark_core.specs.declared.seat.SeatState.{SeatState}
use Rattle.gc_table.specs.Past.{log_from}
use Rattle.gc_table.specs.RunWorlds.{World, referred, variable_of}
use Rattle.gc_table.proofs.Lending.{agree-on}
use Rattle.heap_laws.specs.Named.{IsRunOn}
use Rattle.heap_laws.proofs.Variables.{variables_named}
use Rattle.queue_laws.specs.Kinds.{IsRead, KindsByLog, Refers}
use Rattle.queue_laws.specs.Orders.{Was}
use Rattle.queue_laws.specs.Queues.{Queue, heap_at}
use Rattle.queue_laws.specs.Making.{MadeByLog}
use Rattle.queue_laws.specs.Reads.{ReadByLog, readings, starting}
use Rattle.queue_laws.proofs.MakeLogs as making
use Rattle.queue_laws.proofs.ReadLogs as reading

pub read_by_log : ReadByLog
read_by_log c world es run i v u f s at hv hu d k l held = (reading.status c world es run i v u f s at hv hu d k l).held held

-- the word of the first variable
pub known-at : (c : Core) (world : World) (es : List Event) → IsRunOn c world es → (i v u f : ℕ) (s : SeatState) → slice_get c.seats i ≡ Some s → v < 32 → u < 32 → v ≢ u → (k : ℕ) → k ≤ length es → (t : SeatState)
    → slice_get (run_of (take k es) c).seats i ≡ Some t → t.spent ≡ false → slice_index t.env v ≡ (readings v u f (starting s v) (log_from i c (take k es))).word
known-at c world es run i v u f s at hv hu d k l t now live = (reading.status c world es run i v u f s at hv hu d k l).word t now live

pub made_by_log : MadeByLog
made_by_log c world es run i o s at ho k l fresh = (making.status c world es run i o s at ho k l).fresh fresh

-- what is read
abbrev IsFound : Core → World → List Event → ℕ → ℕ → ℕ → ℕ → ℕ → Type 0
IsFound c world es i v u f k = (from : Name) × (to : Name) × (variable_of (heap_at c world es k) i v ≡ Some from) × (variable_of (heap_at c world es k) i u ≡ Some to) × Was c world es k from f to

reads : (q : Queue) (c : Core) (world : World) (es : List Event) (i p v u f k : ℕ) → Refers q c world es i p k → IsRead c es i v u f k → IsFound c world es i v u f k
reads q c world es i p v u f k r d = read_by_log c world es r.run i v u f d.seat d.there d.exists.0 d.exists.1 d.others k r.within d.held

-- what is read in the queue
of_queue : (q : Queue) (c : Core) (world : World) (es : List Event) (i p v f k : ℕ) → Refers q c world es i p k → IsRead c es i p v f k → (name : Name) → variable_of (heap_at c world es k) i v ≡ Some name → Was c world es k q.object f name
of_queue q c world es i p v f k r d name at =
    let a = reads q c world es i p p v f k r d in
    let from : a.0 ≡ q.object = same_Some a.0 q.object (sym a.2 ∙ r.names) in
    let to : a.1 ≡ name = same_Some a.1 name (sym a.3 ∙ at) in
    subst (λ (z : Name). Was c world es k z f name) from (subst (λ (z : Name). Was c world es k a.0 f z) to a.4)

first_or_last : (f : ℕ) → f < 2 → (f ≡ 0) ⊎ (f ≡ 1)
first_or_last f h = ⊎_elim (λ (e : f ≡ 0). inl e) (λ (n : f ≢ 0). inr (omega (arith, h, n))) (cases_eq f 0)

pub kinds_by_log : KindsByLog
kinds_by_log =
    record {
      advances =
          λ q c world es i p v u k r d.
          let a = reads q c world es i p v u 0 k r d in
          record { old = a.0; new = a.1; expects = a.2; gives = a.3; next = a.4 };
      follows =
          λ q c world es i p v u f k r h d e.
          let a = reads q c world es i p v u 0 k r e in
          let was : Was c world es k q.object f a.0 = of_queue q c world es i p v f k r d a.0 a.2 in
          record {
            before = a.0;
            new = a.1;
            found =
                ⊎_elim
                (λ (z : f ≡ 0). inl (subst (λ (n : ℕ). Was c world es k q.object n a.0) z was))
                (λ (z : f ≡ 1). inr (subst (λ (n : ℕ). Was c world es k q.object n a.0) z was))
                (first_or_last f h);
            gives = a.3;
            next = a.4;
          };
      last = λ q c world es i p v k r d name at. of_queue q c world es i p v 1 k r d name at;
      nil =
          λ q c world es i p v u f k s t r at exists others now live inside none.
          let d : Core = run_of (take k es) c in
          let world_now : World = heap_at c world es k in
          let word = known-at c world es r.run i v u f s at exists.0 exists.1 others k r.within t now live in
          sym (variables_named d world_now (record { core = r.run.sound k; agrees = agree-on es c world r.run.sound r.run.allowed r.run.agrees k }) i t now live inside v exists.0)
          ∙ ap (referred (words_of d.shape d.words).identities) (word ∙ none);
    }
