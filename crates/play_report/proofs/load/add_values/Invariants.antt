use Rattle.std.proofs.Common.{◌≡◌, ◌≤◌, ◌*◌, take, sum_by}
use Rattle.play_report.proofs.load.add_values.Given as goal

abbrev pub invariant-loop-s : goal.invariant-loop-s
invariant-loop-s l = (l.total ≡ sum_by (λ s. s.value) (take l.s-index l.survivors)) × (l.total ≤ l.s-index * 4294967295)
