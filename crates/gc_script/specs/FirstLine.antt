-- The first line of a text, and what is left of it once a piece is cut off.
use Rattle.std.specs.Prelude.{ℕ, ◌≡◌, List, [], ◌∷◌, length, Bool, true, false, ◌||◌, ◌==◌, if◌then◌else◌}
use Rattle.std.specs.List.{before_first, after_first}
use Rattle.gc_script.specs.ScriptText.{words}

-- a byte at which a piece of a line ends
abbrev pub ends_piece : ℕ → Bool
ends_piece b = (b == 32) || (b == 10)

-- what stands before the first line feed
abbrev pub first_line : List ℕ → List ℕ
first_line text = before_first (λ b. b == 10) text

-- what follows the first line
abbrev pub after_line : List ℕ → List ℕ
after_line text = after_first (λ b. b == 10) text

-- the words of the first line that are left, if it goes on
abbrev pub words_left : Bool → List ℕ → List (List ℕ)
words_left true rest = words (first_line rest)
words_left false rest = []

-- what follows the first line, of what is left
abbrev pub after_left : Bool → List ℕ → List ℕ
after_left true rest = after_line rest
after_left false rest = rest

-- a piece is cut off a text, whose first line may go on after it
pub record IsCut (piece : List ℕ) (goes_on : Bool) (rest : List ℕ) (text : List ℕ) : Type 0 where
  pub line : words (first_line text) ≡ (if length piece == 0 then words_left goes_on rest else piece ∷ words_left goes_on rest)
  pub after : after_left goes_on rest ≡ after_line text
