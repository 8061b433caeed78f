-- Where a text's first line ends.
use Rattle.std.specs.Prelude.{ℕ, ◌+◌, ◌==◌, List, length, position, Option, Some, None}

-- how many bytes its first line has, with its line feed; all, if there is none
abbrev pub line_end : List ℕ → Option ℕ → ℕ
line_end text None = length text
line_end text (Some k) = k + 1

-- how many bytes the first line has, with its line feed
abbrev pub first_line : List ℕ → ℕ
first_line text = line_end text (position (λ b. b == 10) text)
