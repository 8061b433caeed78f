-- What a seat does to an object is a part of its log; and a history goes on from each of its moments.
use Rattle.std.proofs.Common.{ℕ, ◌≡◌, ◌+◌, ◌≤◌, zero, suc, List, [], ◌∷◌, ◌++◌, take, drop, length, append_assoc, arith, refl, sym, ap, ◌∙◌, subst, Bool, true, false, Some}
use Rattle.std.specs.Prelude.{if◌then◌else◌, slice_get}
use Rattle.std.proofs.lemmas.List.{append-nil}
use Rattle.std.proofs.lemmas.Option.{same_Some}
use Rattle.plain_heap.specs.Paths.{Name}
use Rattle.mark_core.specs.Steps.{Core, after_event, run_of, start_core}
use Rattle.mark_core.specs.declared.kinds.Event.{Event}
use Rattle.gc_table.specs.AgreementLaws.{world_after, world_run}
use Rattle.gc_table.specs.Past.{adds, log_from}
use Rattle.gc_table.specs.RunWorlds.{World, start_world}
use Rattle.gc_table.specs.Runs.{AreAllowed}
use Rattle.gc_table.specs.declared.view.Entry.{Entry}
use Rattle.gc_table.proofs.History.Past.{run-first}
use Rattle.gc_table.proofs.Kept.{agrees-kept, agrees-starts}
use Rattle.gc_table.proofs.Lending.{later-sound, world-first}
use Rattle.gc_table.proofs.Reading.{none-some}
use Rattle.heap_laws.specs.Named.{IsRunOn, NamedLogs, acts_on, adds_on, log_on, marked}
use Rattle.heap_laws.proofs.Moments.{each-allowed}

-- all of these entries are marked, or none
abbrev all_marked : Bool → List Entry → List Bool
all_marked b [] = []
all_marked b (x ∷ xs) = b ∷ all_marked b xs

marked_long : (b : Bool) (xs ys : List Entry) (bs : List Bool) → length bs ≡ length ys → length (all_marked b xs ++ bs) ≡ length (xs ++ ys)
marked_long b [] ys bs e = e
marked_long b (x ∷ xs) ys bs e = ap (λ (n : ℕ). suc n) (marked_long b xs ys bs e)

marked_all : (xs ys : List Entry) (bs : List Bool) → marked (all_marked true xs ++ bs) (xs ++ ys) ≡ xs ++ marked bs ys
marked_all [] ys bs = refl
marked_all (x ∷ xs) ys bs = ap (λ (l : List Entry). x ∷ l) (marked_all xs ys bs)

marked_none : (xs ys : List Entry) (bs : List Bool) → marked (all_marked false xs ++ bs) (xs ++ ys) ≡ marked bs ys
marked_none [] ys bs = refl
marked_none (x ∷ xs) ys bs = marked_none xs ys bs

marked_by : (b : Bool) (xs ys : List Entry) (bs : List Bool) → (if b then xs else []) ++ marked bs ys ≡ marked (all_marked b xs ++ bs) (xs ++ ys)
marked_by true xs ys bs = sym (marked_all xs ys bs)
marked_by false xs ys bs = sym (marked_none xs ys bs)

part_of : (name : Name) (i : ℕ) (es : List Event) (c : Core) (world : World) → (marks : List Bool) × (length marks ≡ length (log_from i c es)) × (log_on name i es c world ≡ marked marks (log_from i c es))
part_of name i [] c world = ([], refl, refl)
part_of name i (e ∷ es) c world =
    let d : Core = after_event c e in
    let rest = part_of name i es d (world_after c e world) in
    let b : Bool = acts_on world (slice_get c.seats e.seat) e.step name in (
      all_marked b (adds i c e) ++ rest.0,
      marked_long b (adds i c e) (log_from i d es) rest.0 rest.1,
      ap (λ (l : List Entry). adds_on name i c world e ++ l) rest.2 ∙ marked_by b (adds i c e) (log_from i d es) rest.0,
    )

-- what the next event adds
pub log-next : (name : Name) (i : ℕ) (es : List Event) (c : Core) (world : World) → AreAllowed c es → (k : ℕ) (f : Event) → slice_get es k ≡ Some f
    → log_on name i (take (suc k) es) c world ≡ log_on name i (take k es) c world ++ adds_on name i (run_of (take k es) c) (world_run (take k es) c world) f
log-next name i [] c world ok zero f at = absurd (none-some f at)
log-next name i [] c world ok (suc k) f at = absurd (none-some f at)
log-next name i (e ∷ es) c world ok zero f at = append-nil (adds_on name i c world e) ∙ ap (λ (x : Event). adds_on name i c world x) (same_Some e f at)
log-next name i (e ∷ es) c world ok (suc k) f at =
    let d : Core = after_event c e in
    let after : World = world_after c e world in
    let first : List Entry = adds_on name i c world e in
    let front : List Entry = log_on name i (take k es) d after in
    let now : run_of (e ∷ take k es) c ≡ run_of (take k es) d = run-first c e (take k es) ok.0 in
    let heap : world_run (e ∷ take k es) c world ≡ world_run (take k es) d after = world-first c e (take k es) world ok.0 in
    ap (λ (x : List Entry). first ++ x) (log-next name i es d after ok.1 k f at)
    ∙ (sym (append_assoc first front (adds_on name i (run_of (take k es) d) (world_run (take k es) d after) f))
    ∙ (ap (λ (x : Core). (first ++ front) ++ adds_on name i x (world_run (take k es) d after) f) (sym now)
    ∙ ap (λ (w : World). (first ++ front) ++ adds_on name i (run_of (e ∷ take k es) c) w f) (sym heap)))

-- a run goes on from each of its moments
abbrev TailOf : List Event → Core → World → ℕ → Core → World → Type 0
TailOf es c world k d after =
    IsRunOn d after (drop k es) × ((l : ℕ) → (run_of (take l (drop k es)) d ≡ run_of (take (k + l) es) c) × (world_run (take l (drop k es)) d after ≡ world_run (take (k + l) es) c world))

tail_at : (es : List Event) (c : Core) (world : World) → IsRunOn c world es → (k : ℕ) → k ≤ length es → TailOf es c world k (run_of (take k es) c) (world_run (take k es) c world)
tail_at es c world run zero h = (run, λ l. let same : l ≡ 0 + l = omega arith in (ap (λ (n : ℕ). run_of (take n es) c) same, ap (λ (n : ℕ). world_run (take n es) c world) same))
tail_at [] c world run (suc k) h = absurd (omega (arith, h))
tail_at (e ∷ es) c world run (suc k) h =
    let d : Core = after_event c e in
    let after : World = world_after c e world in
    let ok = run.allowed in
    let rest : IsRunOn d after es = record { agrees = agrees-kept c e world (run.sound 0) run.agrees ok.0; allowed = ok.1; sound = later-sound c e es ok.0 run.sound } in
    let r : TailOf es d after k (run_of (take k es) d) (world_run (take k es) d after) = tail_at es d after rest k (omega (arith, h)) in
    let now : run_of (e ∷ take k es) c ≡ run_of (take k es) d = run-first c e (take k es) ok.0 in
    let heap : world_run (e ∷ take k es) c world ≡ world_run (take k es) d after = world-first c e (take k es) world ok.0 in
    let here : TailOf (e ∷ es) c world (suc k) (run_of (take k es) d) (world_run (take k es) d after) = (
      r.0,
      λ l. let more : suc (k + l) ≡ suc k + l = omega arith in let told = r.1 l in (
        told.0 ∙ (sym (run-first c e (take (k + l) es) ok.0) ∙ ap (λ (n : ℕ). run_of (take n (e ∷ es)) c) more),
        told.1 ∙ (sym (world-first c e (take (k + l) es) world ok.0) ∙ ap (λ (n : ℕ). world_run (take n (e ∷ es)) c world) more),
      ),
    ) in
    subst (λ (x : Core). TailOf (e ∷ es) c world (suc k) x (world_run (e ∷ take k es) c world)) (sym now)
    (subst (λ (w : World). TailOf (e ∷ es) c world (suc k) (run_of (take k es) d) w) (sym heap) here)

pub named_logs : NamedLogs
named_logs =
    record {
      tails =
          λ sh es h k b.
          tail_at es (start_core sh 1) (start_world sh) (record { agrees = agrees-starts sh 1 (h.sound 0).formed.shaped; allowed = each-allowed sh es h; sound = h.sound }) k b;
      parts = part_of;
    }
