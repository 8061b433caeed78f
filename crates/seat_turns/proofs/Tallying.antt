-- What is told as traced, step by step and call by call.
use Rattle.std.proofs.Common.{ℕ, ◌≡◌, ◌+◌, ◌^◌, ◌%◌, ◌/◌, List, [], ◌∷◌, ◌++◌, refl, ap, ◌∙◌, arith, Bool, true, false}
use Rattle.std.proofs.Math.Nat.{mod-add-div'}
use Rattle.std.proofs.lemmas.Bool.{and_parts, false≢true}
use Rattle.mark_core.specs.Numbers.{done_count, traced_count}
use Rattle.mark_core.specs.declared.kinds.Step.{Step}
use Rattle.mark_core.specs.declared.kinds.Step.TheVariants.{AddStat, ReadStat}
use Rattle.gc_table.specs.Log.{Only, all_steps, events}
use Rattle.gc_table.specs.Running.{Ran}
use Rattle.gc_table.specs.Seats.{Found, Took}
use Rattle.gc_table.specs.Taking.{after}
use Rattle.gc_table.specs.declared.view.Entry.{Entry}
use Rattle.gc_table.specs.declared.view.View.{View}
use Rattle.gc_table.proofs.History.Log.{events-after, events-none}
use Rattle.gc_table.proofs.Running.{ran-events, ran-join, ran-refl, ran-took}
use Rattle.stop_world.specs.Gates.{Enters, TurnsBack}
use Rattle.gc_cycle.specs.Statistics.{leaves_numbers}
use Rattle.seat_turns.specs.Tending.{MarksSome, tends_inside}
use Rattle.seat_turns.specs.Tallying.{Tallies, told_by, told_in}

told-join : (xs ys : List Entry) → told_in (xs ++ ys) ≡ told_in xs + told_in ys
told-join [] ys = omega arith
told-join (x ∷ xs) ys = let rest = told-join xs ys in omega (arith, rest)

told-none : (P : Step → Bool) → ((step : Step) → P step ≡ true → told_by step ≡ 0) → (es : List Entry) → all_steps P es ≡ true → told_in es ≡ 0
told-none P f [] a = refl
told-none P f (e ∷ es) a =
    let p = and_parts (P e.step) (all_steps P es) a in
    let this = f e.step p.0 in
    let rest = told-none P f es p.1 in
    omega (arith, this, rest)

leaves-untold : (step : Step) → leaves_numbers step ≡ true → told_by step ≡ 0
leaves-untold (AddStat which by down) e = absurd (false≢true e)
leaves-untold step e = refl

tends-untold : (step : Step) → tends_inside step ≡ true → told_by step ≡ 0
tends-untold (AddStat which by down) e = absurd (false≢true e)
tends-untold step e = refl

-- one after the other
pub tallies-join : (a b c : ℕ) (u v w : View) → Tallies a b u v → Tallies b c v w → Tallies a c u w
tallies-join a b c u v w x y =
    let all = ap told_in (ran-events u v w x.ran y.ran) ∙ told-join (events u v) (events v w) in
    record { ran = ran-join u v w x.ran y.ran; wraps = x.wraps + y.wraps; counts = omega (arith, all, x.counts, y.counts) }

-- nothing is told
pub tallies-by : (a : ℕ) (v w : View) → Ran v w → told_in (events v w) ≡ 0 → Tallies a a v w
tallies-by a v w r e = record { ran = r; wraps = 0; counts = omega (arith, e) }

pub tallies-none : (a : ℕ) (v : View) → Tallies a a v v
tallies-none a v = tallies-by a v v (ran-refl v) (ap told_in (events-none v))

pub tallies-found : (a : ℕ) (v w : View) (step : Step) (n : ℕ) → told_by step ≡ 0 → Ran v w → w ≡ after step n v → Tallies a a v w
tallies-found a v w step n zero ran e = let one = ap told_in (events-after v w step n e) in tallies-by a v w ran (omega (arith, one, zero))

pub tallies-listed : (a : ℕ) (v w : View) (es : List Entry) → Ran v w → events v w ≡ es → told_in es ≡ 0 → Tallies a a v w
tallies-listed a v w es ran e none = tallies-by a v w ran (ap told_in e ∙ none)

pub tallies-only : (a : ℕ) (v w : View) → Ran v w → Only leaves_numbers v w → Tallies a a v w
tallies-only a v w ran o = tallies-by a v w ran (told-none leaves_numbers leaves-untold (events v w) o)

-- some were traced and then told
pub tallies-marked : (a n : ℕ) (v u w : View) → MarksSome n v u → Took (AddStat traced_count n false) u w → Tallies a ((a + n) % 2 ^ 64) v w
tallies-marked a n v u w m t =
    let traced = told-none tends_inside tends-untold (events v m.between) m.traces.tends.only in
    let tended = told-none tends_inside tends-untold (events m.between u) m.cards.tends.only in
    let ran = ran-join v m.between u m.traces.tends.ran m.cards.tends.ran in
    let marked = ap told_in (ran-events v m.between u m.traces.tends.ran m.cards.tends.ran) ∙ told-join (events v m.between) (events m.between u) in
    let last = ran-took u w (AddStat traced_count n false) refl t in
    let all = ap told_in (ran-events v u w ran last) ∙ told-join (events v u) (events u w) in
    let one = ap told_in (events-after u w (AddStat traced_count n false) t.0 t.1.0) in
    let whole = mod-add-div' (a + n) (2 ^ 64) in
    record { ran = ran-join v u w ran last; wraps = (a + n) / 2 ^ 64; counts = whole ∙ (let e : a + n ≡ a + told_in (events v w) = omega (arith, traced, tended, marked, all, one) in e) }

-- a turn begins with a look at the dismissals
pub tallies-read : (a n : ℕ) (v u : View) → Ran v u → Found (ReadStat done_count) n v u → Tallies a a v u
tallies-read a n v u r f = tallies-found a v u (ReadStat done_count) n refl r f.0

-- then the seat turns back
pub tallies-back : (a n : ℕ) (v u w : View) → Ran v u → Found (ReadStat done_count) n v u → Ran u w → TurnsBack u w → Tallies a a v w
tallies-back a n v u w r f q back = tallies-join a a a v u w (tallies-read a n v u r f) (tallies-listed a u w _ q back.events refl)

-- or it enters, and goes on
pub tallies-went : (a b n : ℕ) (v u x w : View) → Ran v u → Found (ReadStat done_count) n v u → Ran u x → Enters u x → Tallies a b x w → Tallies a b v w
tallies-went a b n v u x w r f q enters t = tallies-join a a b v u w (tallies-read a n v u r f) (tallies-join a a b u x w (tallies-listed a u x _ q enters.events refl) t)
