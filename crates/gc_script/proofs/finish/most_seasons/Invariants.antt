use Rattle.std.proofs.Common.{◌≡◌, max, take, map, length, []}
use Rattle.std.specs.Prelude.{option_map, unwrap_or}
use Rattle.std.specs.List.{fold}
use Rattle.gc_script.proofs.finish.most_seasons.Given as goal

abbrev pub invariant-loop-section : goal.invariant-loop-section
invariant-loop-section l = l.most ≡ fold (λ most p. max most (length p)) (max 1 (length (unwrap_or (option_map (λ c. c.parts) l.catalogue) []))) (map (λ w. w.parts) (take l.section-index l.warehouses))
