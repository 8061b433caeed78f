-- A run in two parts: the first events, and the rest.
use Rattle.std.proofs.Common.{ℕ, ◌≡◌, ◌+◌, ◌<◌, ◌≤◌, ◌∙◌, zero, suc, List, [], ◌∷◌, ◌++◌, append_assoc, take, length, arith, refl, sym, ap, subst, ⊎_elim, Option, None}
use Rattle.std.proofs.lemmas.Bool.{cases_lt}
use Rattle.std.proofs.lemmas.List.{take-append-le, take_all}
use Rattle.std.proofs.Math.Seq.{take-append-add, take-append_seam}
use Rattle.mark_core.specs.Kinds.{kind_of}
use Rattle.mark_core.specs.Laws.{IsCore}
use Rattle.mark_core.specs.Steps.{Core, after_event, first_refused, refused_with, run_of, start_core}
use Rattle.mark_core.specs.declared.kinds.Event.{Event}
use Rattle.mark_core.specs.declared.kinds.Shape.{Shape}
use Rattle.gc_table.specs.Agreement.{AgreesWith}
use Rattle.gc_table.specs.AgreementLaws.{world_after, world_run}
use Rattle.gc_table.specs.Past.{adds, log_from}
use Rattle.gc_table.specs.RunWorlds.{World, start_world}
use Rattle.gc_table.specs.Runs.{AreAllowed}
use Rattle.gc_table.specs.declared.view.Entry.{Entry}
use Rattle.gc_table.proofs.History.Past.{first-allowed, run-first}
use Rattle.gc_table.proofs.Kept.{agrees-starts}
use Rattle.gc_table.proofs.Lending.{agree-on, world-first}
use Rattle.heap_laws.specs.Moments.{IsHistory}
use Rattle.heap_laws.specs.Named.{IsRunOn}
use Rattle.heap_laws.proofs.Moments.{each-allowed}
use Rattle.queue_laws.specs.LentQueues.{core_past, heap_past}

pub allowed-front : (xs ys : List Event) (c : Core) → AreAllowed c (xs ++ ys) → AreAllowed c xs
allowed-front [] ys c ok = tt
allowed-front (x ∷ xs) ys c ok = (ok.0, allowed-front xs ys (after_event c x) ok.1)

pub run-join : (xs ys : List Event) (c : Core) → AreAllowed c (xs ++ ys) → run_of (xs ++ ys) c ≡ run_of ys (run_of xs c)
run-join [] ys c ok = refl
run-join (x ∷ xs) ys c ok = run-first c x (xs ++ ys) ok.0 ∙ (run-join xs ys (after_event c x) ok.1 ∙ ap (run_of ys) (sym (run-first c x xs ok.0)))

pub allowed-back : (xs ys : List Event) (c : Core) → AreAllowed c (xs ++ ys) → AreAllowed (run_of xs c) ys
allowed-back [] ys c ok = ok
allowed-back (x ∷ xs) ys c ok = subst (λ (d : Core). AreAllowed d ys) (sym (run-first c x xs ok.0)) (allowed-back xs ys (after_event c x) ok.1)

pub world-join : (xs ys : List Event) (c : Core) (world : World) → AreAllowed c (xs ++ ys) → world_run (xs ++ ys) c world ≡ world_run ys (run_of xs c) (world_run xs c world)
world-join [] ys c world ok = refl
world-join (x ∷ xs) ys c world ok =
    let d : Core = after_event c x in
    let after : World = world_after c x world in
    world-first c x (xs ++ ys) world ok.0
    ∙ (world-join xs ys d after ok.1
    ∙ (ap (λ (w : World). world_run ys (run_of xs d) w) (sym (world-first c x xs world ok.0)) ∙ ap (λ (e : Core). world_run ys e (world_run (x ∷ xs) c world)) (sym (run-first c x xs ok.0))))

pub log-join : (i : ℕ) (xs ys : List Event) (c : Core) → AreAllowed c (xs ++ ys) → log_from i c (xs ++ ys) ≡ log_from i c xs ++ log_from i (run_of xs c) ys
log-join i [] ys c ok = refl
log-join i (x ∷ xs) ys c ok =
    let d : Core = after_event c x in
    ap (λ (l : List Entry). adds i c x ++ l) (log-join i xs ys d ok.1)
    ∙ (sym (append_assoc (adds i c x) (log_from i d xs) (log_from i (run_of xs d) ys)) ∙ ap (λ (e : Core). (adds i c x ++ log_from i d xs) ++ log_from i e ys) (sym (run-first c x xs ok.0)))

refused_front : (k : ℕ) (xs ys : List Event) (c : Core) → first_refused k (xs ++ ys) c ≡ None → first_refused k xs c ≡ None
refused_front k [] ys c h = refl
refused_front k (x ∷ xs) ys c h =
    let q = first-allowed k x (xs ++ ys) c h in
    ap (λ (o : Option ℕ). refused_with k (kind_of x.step) o (first_refused (k + 1) xs (after_event c x))) q.0 ∙ refused_front (k + 1) xs ys (after_event c x) q.1

module _ (sh : Shape) (past rest : List Event) (h : IsHistory sh (past ++ rest)) where
  abbrev start : Core
  start = start_core sh 1

  all : AreAllowed start (past ++ rest)
  all = each-allowed sh (past ++ rest) h

  -- the run up to one of the later events
  some_more : (n : ℕ) → AreAllowed start (past ++ take n rest)
  some_more n = more n rest all
    where
      more : (m : ℕ) (ys : List Event) → AreAllowed start (past ++ ys) → AreAllowed start (past ++ take m ys)
      more m ys ok = cut past ys start ok
        where
          cut_own : (j : ℕ) (zs : List Event) (c : Core) → AreAllowed c zs → AreAllowed c (take j zs)
          cut_own zero zs c a = tt
          cut_own (suc j) [] c a = tt
          cut_own (suc j) (z ∷ zs) c a = (a.0, cut_own j zs (after_event c z) a.1)

          cut : (xs zs : List Event) (c : Core) → AreAllowed c (xs ++ zs) → AreAllowed c (xs ++ take m zs)
          cut [] zs c a = cut_own m zs c a
          cut (x ∷ xs) zs c a = (a.0, cut xs zs (after_event c x) a.1)

  pub core-more : (n : ℕ) → run_of (take n rest) (core_past sh past) ≡ run_of (take (length past + n) (past ++ rest)) start
  core-more n = sym (run-join past (take n rest) start (some_more n)) ∙ ap (λ (es : List Event). run_of es start) (sym (take-append-add past rest n))

  pub heap-more : (n : ℕ) → world_run (take n rest) (core_past sh past) (heap_past sh past) ≡ world_run (take (length past + n) (past ++ rest)) start (start_world sh)
  heap-more n = sym (world-join past (take n rest) start (start_world sh) (some_more n)) ∙ ap (λ (es : List Event). world_run es start (start_world sh)) (sym (take-append-add past rest n))

  pub log-more : (i n : ℕ) → log_from i start (take (length past + n) (past ++ rest)) ≡ log_from i start past ++ log_from i (core_past sh past) (take n rest)
  log-more i n = ap (log_from i start) (take-append-add past rest n) ∙ log-join i past (take n rest) start (some_more n)

  -- the rest is a run of its own
  pub rest-run : IsRunOn (core_past sh past) (heap_past sh past) rest
  rest-run =
      record {
        agrees =
            subst (λ (es : List Event). AgreesWith (run_of es start) (world_run es start (start_world sh))) (take-append_seam past rest)
            (agree-on (past ++ rest) start (start_world sh) h.sound all (agrees-starts sh 1 (h.sound 0).formed.shaped) (length past));
        allowed = allowed-back past rest start all;
        sound = λ n. subst IsCore (sym (core-more n)) (h.sound (length past + n));
      }

  -- a moment of the first events is one of all
  pub part-at : (n : ℕ) → (m : ℕ) × (take n past ≡ take m (past ++ rest))
  part-at n =
      ⊎_elim
      (λ (low : n < length past). (n, sym (take-append-le n past rest (omega (arith, low)))))
      (λ (high : length past ≤ n). (length past, take_all n past high ∙ sym (take-append_seam past rest)))
      (cases_lt n (length past))

  -- the first events are a history
  pub past-history : IsHistory sh past
  past-history = record { allowed = refused_front 0 past rest start h.allowed; sound = λ n. let p = part-at n in subst (λ (es : List Event). IsCore (run_of es start)) (sym p.1) (h.sound p.0) }
