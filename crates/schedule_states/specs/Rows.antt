-- Rows: arrays of JSON, each on a line of its own, of a name and numbers.
use Rattle.std.specs.Prelude.{ℕ, List, ◌++◌, codes, decimal}
use Rattle.std.specs.List.{flat_map}

-- a number behind a name, or behind another number
unfoldable pub number_text : ℕ → List ℕ
number_text n = codes "," ++ decimal n

-- the numbers of a row
abbrev pub numbers_text : List ℕ → List ℕ
numbers_text ns = flat_map number_text ns

-- a row's beginning
unfoldable pub name_text : List ℕ → List ℕ
name_text name = codes "[\"" ++ name ++ codes "\""

-- what follows a row's name
abbrev pub rest_text : List ℕ → List ℕ
rest_text ns = numbers_text ns ++ codes "]\n"

-- a row of this name and these numbers
abbrev pub row_text : List ℕ → List ℕ → List ℕ
row_text name ns = name_text name ++ rest_text ns
