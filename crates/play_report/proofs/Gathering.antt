-- Bytes that are gathered, and handed on later.
use Rattle.std.proofs.Common.{ℕ, ◌+◌, List, ◌++◌, take, drop, ap, sym, ◌∙◌, take-append-drop}
use Rattle.std.specs.Prelude.{Option}
use Rattle.std.specs.Io.KnownBytes.{Appends, Keeps, append_known}
use Rattle.std.proofs.KnownBytes.{append_known-moved, Keeps-trans}
use lib.Seq.{drop-drop}

-- one turn of a loop that hands on what was gathered
pub handed_turn : (a b c : Option (List ℕ)) (bytes : List ℕ) (first at n : ℕ) → Keeps (append_known a (drop first bytes)) (append_known b (drop at bytes)) → Appends b c (take n (drop at bytes))
    → Keeps (append_known a (drop first bytes)) (append_known c (drop (at + n) bytes))
handed_turn a b c bytes first at n p q =
    Keeps-trans _ _ _ p (append_known-moved b c (take n (drop at bytes)) (drop (at + n) bytes) (drop at bytes) q (sym (take-append-drop n (drop at bytes)) ∙ ap (λ l. take n (drop at bytes) ++ l) (drop-drop n at bytes)))
