-- In which order the events of a call came.
use Rattle.std.specs.Prelude.{ℕ, ◌&&◌, ◌||◌, not, List, [], ◌∷◌, ◌++◌, Bool, true}
use Rattle.mark_core.specs.declared.kinds.Step.{Step}
use Rattle.gc_table.specs.declared.view.Entry.{Entry}

-- the events of the call before each one like f meet this test; `earlier` are those that came before the list
abbrev pub each_after : (List Entry → Bool) → (Step → ℕ → Bool) → List Entry → List Entry → Bool
each_after test f earlier [] = true
each_after test f earlier (e ∷ es) = (not (f e.step e.found) || test earlier) && each_after test f (earlier ++ e ∷ []) es

-- the events end with some that meet this test
abbrev pub some_end : (List Entry → Bool) → List Entry → Bool
some_end test [] = test []
some_end test (e ∷ es) = test (e ∷ es) || some_end test es
