-- What the program is given.
use Rattle.std.specs.Prelude.{ℕ, List, [], drop, map, Result, Ok, Err}
use Rattle.std.specs.String.{string_bytes}
use Rattle.std.specs.Vec.Iter.{into_iter_items}
use Rattle.std.specs.declared.vec.IntoIter.{IntoIter}
use Rattle.std.specs.declared.string.String.{String}

-- the words behind the program's name; none if std gives no words
abbrev pub words_behind : {E A B : Type 0} → Result (IntoIter (String A) B) E → List (List ℕ)
words_behind (Ok given) = drop 1 (map string_bytes (into_iter_items given))
words_behind (Err e) = []
