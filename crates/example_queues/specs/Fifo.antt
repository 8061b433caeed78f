-- Numbers that two threads put into a queue and take out: first in, first out.
use Rattle.std.specs.Prelude.{ℕ, ◌≡◌, ◌+◌, ◌≤◌, ◌==◌, if◌then◌else◌, List, [], ◌∷◌, ◌++◌, Bool, length}
use Rattle.queue_laws.specs.Queues.{Item}

-- the numbers at places that are marked, and those at the others
abbrev pub at_marked : List Bool → List ℕ → List ℕ
at_marked [] ns = []
at_marked (b ∷ bs) [] = []
at_marked (b ∷ bs) (n ∷ ns) = if b then n ∷ at_marked bs ns else at_marked bs ns

abbrev pub at_others : List Bool → List ℕ → List ℕ
at_others [] ns = []
at_others (b ∷ bs) [] = []
at_others (b ∷ bs) (n ∷ ns) = if b then at_others bs ns else n ∷ at_others bs ns

-- a list is made of two, each in its order
pub record IsMerge (xs ys both : List ℕ) : Type 0 where
  pub marks : List Bool
  pub one_each : length marks ≡ length both
  pub first : at_marked marks both ≡ xs
  pub second : at_others marks both ≡ ys

-- how often a number is in a list
abbrev pub times_in : ℕ → List ℕ → ℕ
times_in n [] = 0
times_in n (m ∷ ms) = (if m == n then 1 else 0) + times_in n ms

-- all numbers that were put in stand in one order, in which each thread's are in the order in which it put them in; so do all that were taken out; and these are the
-- first of those
pub record IsFifo (put_first put_second taken_first taken_second : List ℕ) : Type 0 where
  pub puts : List ℕ
  pub takes : List ℕ
  pub left : List ℕ
  pub put : IsMerge put_first put_second puts
  pub taken : IsMerge taken_first taken_second takes
  pub order : puts ≡ takes ++ left
  -- so no number is taken more often than it was put in
  pub often : (n : ℕ) → times_in n taken_first + times_in n taken_second ≤ times_in n put_first + times_in n put_second

-- the numbers of items
abbrev pub numbers_of : List Item → List ℕ
numbers_of [] = []
numbers_of (x ∷ xs) = x.number ∷ numbers_of xs
