-- A catalogue that reads no variable of a catalogue.
use Rattle.std.proofs.Common.{◌≡◌, List, [], ◌∷◌, refl, false}
use Rattle.std.specs.List.{All, list_any}
use Rattle.std.specs.Prelude.{IsFalse}
use Rattle.std.proofs.lemmas.Bool.{or_from}
use Rattle.std.proofs.lemmas.List.Elements.{All-head, All-tail}
use Rattle.plain_heap.specs.Sections.{Execution, lends}

pub none_lends : (es : List Execution) → All (λ e. IsFalse (lends e.op)) es → list_any (λ e. lends e.op) es ≡ false
none_lends [] a = refl
none_lends (e ∷ es) a =
    or_from _ _ (All-head (λ (x : Execution). IsFalse (lends x.op)) e es a) (none_lends es (All-tail (λ (x : Execution). IsFalse (lends x.op)) e es a))
