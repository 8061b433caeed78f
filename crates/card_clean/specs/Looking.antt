-- A call that only looks at cards.
use Rattle.std.specs.Prelude.{ℕ, ◌≡◌, ◌-◌, List, [], ◌∷◌, ◌++◌, map, Some}
use Rattle.std.specs.List.{range_with_len}
use Rattle.mark_core.specs.declared.kinds.Step.TheVariants.{ReadCard}
use Rattle.gc_table.specs.declared.view.Entry.{Entry}
use Rattle.gc_table.specs.declared.view.View.{View}
use Rattle.gc_table.specs.Log.{event}
use Rattle.gc_table.specs.Notes.{look}

-- each note stays
abbrev pub KeepsAllNotes : View → View → Type 0
KeepsAllNotes v w = (at : ℕ × ℕ) (n : ℕ) → look at v.known ≡ Some n → look at w.known ≡ Some n

-- the cards from this one on and below that one were looked at, one after another, and found clean
abbrev pub looks_clean : ℕ → ℕ → List Entry
looks_clean from to = map (λ k. event (ReadCard k) 0) (range_with_len from (to - from))

-- the cards from this one on were looked at, one after another, and found clean; then that one was found dirty
abbrev pub looks_dirty : ℕ → ℕ → List Entry
looks_dirty from card = looks_clean from card ++ event (ReadCard card) 1 ∷ []
