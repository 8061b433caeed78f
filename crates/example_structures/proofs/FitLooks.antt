-- What the log tells after the calls by which a queue is looked at.
use Rattle.std.proofs.Common.{ℕ, ◌≡◌, ◌≢◌, ◌<◌, arith, subst, sym, zero, suc, refl, Bool, true, false}
use Rattle.std.specs.Prelude.{IfOk}
use Rattle.std.specs.declared.result.Result.{Result}
use Rattle.std.specs.declared.result.Result.TheVariants.{Err, Ok}
use Rattle.mark_core.specs.Steps.MutatorSteps.{seat_variable as word_in}
use Rattle.gc_table.specs.Seats.{state_of, view_of}
use Rattle.mutator_ops.specs.Sharing.{SetsVariable}
use Rattle.seat_turns.specs.Sharing.{FollowsField}
use Rattle.shared_heap.specs.Calls.{FindsValue}
use Rattle.shared_heap.specs.declared.mutator.SharedMutator.{SharedMutator}
use Rattle.example_structures.specs.Fitting.{AddsFitting, Began, FitsSince, HasFresh, HasRead, KeepsRead, SeesFirst, StaysFresh}
use Rattle.example_structures.proofs.FitCalls.{Leaves, get-fits, get-fresh, get-leaves, leaves-read, value-fits, value-leaves, variable-fits, variable-leaves}
use Rattle.example_structures.proofs.FitChanges.{get-read}

pub above : (n : ℕ) → (n ≡ 0 → ⊥) → 0 < n
above zero f = absurd (f refl)
above (suc n) f = omega arith

pub stays : (b : Began) (y : SharedMutator) → HasFresh b y → (won : Bool) → StaysFresh b y won
stays b y f true = tt
stays b y f false = f

pub if-lost : (b : Began) (y : SharedMutator) (won : Bool) → won ≡ false → StaysFresh b y won → HasFresh b y
if-lost b y won e = subst (λ (a : Bool). StaysFresh b y a → HasFresh b y) (sym e) (λ f. f)

pub stays-kept : (b : Began) (x y : SharedMutator) (won : Bool) → (HasFresh b x → HasFresh b y) → StaysFresh b x won → StaysFresh b y won
stays-kept b x y true f k = tt
stays-kept b x y false f k = f k

pub each-ok : {A E : Type 0} (r : Result A E) (P : A → Type 0) → ((a : A) → P a) → IfOk r P
each-ok (Ok a) P f = f a
each-ok (Err e) P f = tt

-- the queue's last was read, and what is behind it
pub record SeesLast (q : ℕ) (b : Began) (m : SharedMutator) : Type 0 where
  pub fits : FitsSince q b m
  pub fresh : HasFresh b m
  pub last : HasRead q 22 1 b m
  pub behind : HasRead 22 21 0 b m
  pub some : 0 < word_in (state_of m.seat) 21 → 0 < word_in (state_of m.seat) 22

module _ (q : ℕ) (low : q < 20) where
  pub sees-last : (x y z : SharedMutator) → FollowsField 22 q 1 (view_of x.seat) (view_of y.seat) → FollowsField 21 22 0 (view_of y.seat) (view_of z.seat) → (b : Began) → FitsSince q b x → HasFresh b x → SeesLast q b z
  sees-last x y z g h b p f =
      let p1 = get-fits x y q 22 q 1 (λ e. omega (arith, e, low)) g b p in
      let r1 = get-read x y q 22 q 1 b p (λ e. omega (arith, e, low)) (omega (arith, low)) (omega arith) g in
      let left = get-leaves y z 21 22 0 h in
      let n2 = get-read y z q 21 22 0 b p1 (λ e. omega (arith, e)) (omega arith) (omega arith) h in
      record {
        fits = get-fits y z q 21 22 0 (λ e. omega (arith, e, low)) h b p1;
        fresh = get-fresh y z q 21 22 0 b p1 (λ e. omega (arith, e)) h (get-fresh x y q 22 q 1 b p (λ e. omega (arith, e)) g f);
        last = leaves-read y z q b p1 (λ v. 21 ≢ v) q 22 1 left (λ e. omega (arith, e, low)) (λ e. omega (arith, e)) r1.0;
        behind = n2.0;
        some = λ a. let here = n2.1 a in let same = left.words 22 (λ e. omega (arith, e)) in omega (arith, here, same);
      }

  -- calls that leave the queue's variable, and what was seen of its first
  pub first-left : (x y : SharedMutator) (P : ℕ → Type 0) → Leaves x y P → P q → P 21 → P 23 → (b : Began) → FitsSince q b x → SeesFirst q b x → SeesFirst q b y
  first-left x y P k pq seen next b p s =
      record {
        first = leaves-read x y q b p P q 21 0 k pq seen s.first;
        behind = leaves-read x y q b p P 21 23 0 k seen next s.behind;
        some = λ a. subst (λ (n : ℕ). 0 < n) (sym (k.words 21 seen)) (s.some (subst (λ (n : ℕ). 0 < n) (k.words 23 next) a));
      }

  pub first-kept : (x y : SharedMutator) → KeepsRead q x y → (b : Began) → FitsSince q b x → SeesFirst q b x → SeesFirst q b y
  first-kept x y k b p s =
      record {
        first = k.read b p q 21 0 s.first;
        behind = k.read b p 21 23 0 s.behind;
        some = λ a. subst (λ (n : ℕ). 0 < n) (sym (k.words 21)) (s.some (subst (λ (n : ℕ). 0 < n) (k.words 23) a));
      }

  pub sees-first : (x y z w : SharedMutator) → FollowsField 21 q 0 (view_of x.seat) (view_of y.seat) → FollowsField 22 q 1 (view_of y.seat) (view_of z.seat) → FollowsField 23 21 0 (view_of z.seat) (view_of w.seat)
      → (b : Began) → FitsSince q b x → FitsSince q b w × SeesFirst q b w
  sees-first x y z w g h k b p =
      let p1 = get-fits x y q 21 q 0 (λ e. omega (arith, e, low)) g b p in
      let r1 = get-read x y q 21 q 0 b p (λ e. omega (arith, e, low)) (omega (arith, low)) (omega arith) g in
      let p2 = get-fits y z q 22 q 1 (λ e. omega (arith, e, low)) h b p1 in
      let r2 = leaves-read y z q b p1 (λ v. 22 ≢ v) q 21 0 (get-leaves y z 22 q 1 h) (λ e. omega (arith, e, low)) (λ e. omega (arith, e)) r1.0 in
      let left = get-leaves z w 23 21 0 k in
      let n3 = get-read z w q 23 21 0 b p2 (λ e. omega (arith, e)) (omega arith) (omega arith) k in (
        get-fits z w q 23 21 0 (λ e. omega (arith, e, low)) k b p2,
        record {
          first = leaves-read z w q b p2 (λ v. 23 ≢ v) q 21 0 left (λ e. omega (arith, e, low)) (λ e. omega (arith, e)) r2;
          behind = n3.0;
          some = λ a. let here = n3.1 a in let same = left.words 21 (λ e. omega (arith, e)) in omega (arith, here, same);
        },
      )

  -- the value of the one behind the first was read, and its object
  pub record SeesNext (b : Began) (m : SharedMutator) : Type 0 where
    pub fits : FitsSince q b m
    pub first : SeesFirst q b m
    pub next : 0 < word_in (state_of m.seat) 23

  pub sees-next : (x y z : SharedMutator) (n : ℕ) → FindsValue 23 n (view_of x.seat) (view_of y.seat) → FollowsField 24 23 1 (view_of y.seat) (view_of z.seat) → (b : Began) → FitsSince q b x → SeesFirst q b x → SeesNext b z
  sees-next x y z n s g b p k =
      let all = value-leaves x y 23 n s in
      let left = get-leaves y z 24 23 1 g in
      let p1 = value-fits x y q 23 n s b p in
      record {
        fits = get-fits y z q 24 23 1 (λ e. omega (arith, e, low)) g b p1;
        first = first-left y z (λ v. 24 ≢ v) left (λ e. omega (arith, e, low)) (λ e. omega (arith, e)) (λ e. omega (arith, e)) b p1 (first-left x y (λ v. Unit {0}) all tt tt tt b p k);
        next = let some = s.0 in let same = all.words 23 tt in let then = left.words 23 (λ e. omega (arith, e)) in omega (arith, some, same, then);
      }

  -- the caller's variable became its object, and variable 24 refers to nothing
  pub next-copied : (x y z : SharedMutator) (item r : ℕ) → item < 20 → item ≢ q → SetsVariable item r (view_of x.seat) (view_of y.seat) → SetsVariable 24 0 (view_of y.seat) (view_of z.seat) → (b : Began) → SeesNext b x → SeesNext b z
  next-copied x y z item r below ne g h b k =
      let one = variable-leaves x y item r g in
      let two = variable-leaves y z 24 0 h in
      let p1 = variable-fits x y q item r ne g b k.fits in
      record {
        fits = variable-fits y z q 24 0 (λ e. omega (arith, e, low)) h b p1;
        first =
            first-left y z (λ v. 24 ≢ v) two (λ e. omega (arith, e, low)) (λ e. omega (arith, e)) (λ e. omega (arith, e)) b p1
            (first-left x y (λ v. item ≢ v) one ne (λ e. omega (arith, e, below)) (λ e. omega (arith, e, below)) b k.fits k.first);
        next = let some = k.next in let same = one.words 23 (λ e. omega (arith, e, below)) in let then = two.words 23 (λ e. omega (arith, e)) in omega (arith, some, same, then);
      }

  pub next-kept : (x y : SharedMutator) → KeepsRead q x y → (b : Began) → FitsSince q b y → SeesNext b x → SeesNext b y
  next-kept x y k b p s = record { fits = p; first = first-kept x y k b s.fits s.first; next = subst (λ (n : ℕ). 0 < n) (sym (k.words 23)) s.next }

  -- four variables were made to refer to nothing
  pub all-forgotten : (x y z w v : SharedMutator) → SetsVariable 21 0 (view_of x.seat) (view_of y.seat) → SetsVariable 22 0 (view_of y.seat) (view_of z.seat) → SetsVariable 23 0 (view_of z.seat) (view_of w.seat) → SetsVariable 24 0 (view_of w.seat) (view_of v.seat)
      → AddsFitting q x v
  all-forgotten x y z w v g h k l = λ b p. variable-fits w v q 24 0 (λ e. omega (arith, e, low)) l b (variable-fits z w q 23 0 (λ e. omega (arith, e, low)) k b (variable-fits y z q 22 0 (λ e. omega (arith, e, low)) h b (variable-fits x y q 21 0 (λ e. omega (arith, e, low)) g b p)))
