-- What the count of empty packets tells.
use Rattle.std.specs.Prelude.{ℕ, ◌≡◌}
use Rattle.mark_core.specs.Layout.{words_of}
use Rattle.mark_core.specs.Closed.{IsQuiet}
use Rattle.gc_table.specs.TableState.{TableState}
use Rattle.mark_core.specs.declared.kinds.Shape.{Shape}
use Rattle.gc_table.specs.Rule.{IsState}

-- if the word is n, no packet holds work and no seat has work in hand, in whatever state that meets the rule
abbrev pub IsQuietAt : Shape → ℕ → Type 0
IsQuietAt sh n = (x : TableState) → IsState x → x.core.shape ≡ sh → (words_of x.core.shape x.core.words).empty ≡ n → IsQuiet x.core.shape (words_of x.core.shape x.core.words).heads x.core.seats
