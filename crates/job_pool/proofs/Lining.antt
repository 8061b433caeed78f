-- The jobs of a batch, in the order in which they are put in line.
use Rattle.std.proofs.Common.{◌≡◌, ◌+◌, ℕ, List, [], ◌∷◌, ◌++◌, length, arith}
use Rattle.job_pool.specs.Scripts.{Scripted, AreNumbered}

-- the job behind these has the next number
pub next_number : (from : ℕ) (put : List Scripted) (j : Scripted) (left : List Scripted) → AreNumbered from (put ++ j ∷ left) → j.number ≡ from + length put
next_number from [] j left of = let is = of.0 in omega (arith, is)
next_number from (i ∷ put) j left of = let more = next_number (from + 1) put j left of.1 in omega (arith, more)

-- one more at the end
pub numbered_more : (from : ℕ) (js : List Scripted) (j : Scripted) → AreNumbered from js → j.number ≡ from + length js → AreNumbered from (js ++ j ∷ [])
numbered_more from [] j of is = (omega (arith, is), tt)
numbered_more from (i ∷ js) j of is = (of.0, numbered_more (from + 1) js j of.1 (omega (arith, is)))
