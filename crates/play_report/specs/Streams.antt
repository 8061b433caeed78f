-- Sources and sinks as their callers see them.
use Rattle.std.specs.Prelude.{ℕ, ◌+◌, ◌-◌, ◌^◌, List, min, Option}

-- the count after one more, which stops at the end of its type
abbrev pub count_one_more : ℕ → ℕ
count_one_more n = min (n + 1) (2 ^ 64 - 1)

-- a stream of the outside: the bytes that it tells of, if it does, and how often it has failed
pub record Stream : Type 0 where
  pub bytes : Option (List ℕ)
  pub faults : ℕ

-- a source in memory: the bytes that are left, how many of them a call gives at most, which calls fail, and how many were made and have failed
pub record Supply : Type 0 where
  pub left : List ℕ
  pub per_call : ℕ
  pub failing : List ℕ
  pub calls : ℕ
  pub faults : ℕ

-- a sink in memory: the bytes that were written, for how many more there is room, and the rest as in a `Supply`
pub record Store : Type 0 where
  pub written : List ℕ
  pub room : ℕ
  pub per_call : ℕ
  pub failing : List ℕ
  pub calls : ℕ
  pub faults : ℕ

-- a sink that gathers: all bytes that it has taken, those that the sink behind it has, and how often that has failed
pub record Gathering : Type 0 where
  pub bytes : Option (List ℕ)
  pub handed : Option (List ℕ)
  pub faults : ℕ
