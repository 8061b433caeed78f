-- Lines with too few words, and sizes within their limits.
use Rattle.std.proofs.Common.{◌≡◌, ℕ, ◌≤◌, ◌<◌, List, [], ◌∷◌, length, map, refl, Bor, arith, true}
use Rattle.std.proofs.lemmas.Bool.Decides.{nat_tests}
use Rattle.std.specs.Prelude.{None}
use Rattle.mark_core.specs.Shapes.{IsShape}
use Rattle.mark_core.specs.declared.kinds.Shape.{Shape}
use Rattle.schedule_check.specs.declared.line.Line.{Line}
use Rattle.schedule_check.specs.Schedule.{event_line, shape_line, is_in_limits, objects_in_schedule}
use Rattle.schedule_check.specs.Shown.{IsLegalSchedule}

abbrev now : List (Bor (List ℕ)) → List (List ℕ)
now xs = map (λ (s : Bor (List ℕ)). s.now) xs

pub short_event : (xs : List (Bor (List ℕ))) → length xs < 2 → None ≡ event_line (now xs)
short_event [] h = refl
short_event (x ∷ []) h = refl
short_event (x ∷ y ∷ xs) h = grind (arith)

pub short_shape : (xs : List (Bor (List ℕ))) → length xs < 4 → None ≡ shape_line (now xs)
short_shape [] h = refl
short_shape (x ∷ []) h = refl
short_shape (x ∷ y ∷ []) h = refl
short_shape (x ∷ y ∷ z ∷ []) h = refl
short_shape (x ∷ y ∷ z ∷ u ∷ xs) h = grind (arith)

limits : (s : Shape) (n : ℕ) → is_in_limits s n ≡ true → s.objects ≡ objects_in_schedule → s.slots ≡ 0 → s.stretch ≡ 1 → IsShape s × (1 ≤ n) × (n ≤ 41)
limits s n h o z y = (
  record {
    cells = (grind (arith, nat_tests), grind (arith, nat_tests));
    whole_blocks = grind (arith, nat_tests);
    packets = (grind (arith, nat_tests), grind (arith, nat_tests));
    entries = (grind (arith, nat_tests), grind (arith, nat_tests));
    sections = (grind (arith, nat_tests), grind (arith, nat_tests));
    fields = (grind (arith, nat_tests), grind (arith, nat_tests));
    objects = (omega (arith, o), omega (arith, o));
    slots = omega (arith, z);
    stretch = (omega (arith, y), omega (arith, y));
  },
  grind (arith, nat_tests),
  grind (arith, nat_tests),
)

pub legal : (s : Shape) (n : ℕ) (es : List Line) → is_in_limits s n ≡ true → s.objects ≡ objects_in_schedule → s.slots ≡ 0 → s.stretch ≡ 1 → es ≡ [] → IsLegalSchedule (record { shape = s; seats = n; events = es })
legal s n [] h o z y e = let l = limits s n h o z y in record { shape = l.0; seats = (l.1, l.2); few = omega arith }
legal s n (x ∷ es) h o z y e = cc
