use Rattle.mark_core.specs.Steps.{run_of, start_core}
use Rattle.mark_core.proofs.CoreKept.{runs_sound}
use Rattle.gc_table.specs.RunWorlds.{start_world}
use Rattle.gc_table.specs.AgreementLaws.{ReachedHaveCells, world_run}
use Rattle.gc_table.proofs.Kept.{runs_agree}
use Rattle.gc_table.proofs.Reached.{along}
use Rattle.gc_table.proofs.run_laws.reached_have_cells.Goals as goal

reached-cells : ReachedHaveCells
reached-cells sh n es z some few fit name reached =
    along (run_of es (start_core sh n)) (world_run es (start_core sh n) (start_world sh)) name reached.0 (runs_sound sh n es z some few fit) (runs_agree sh n es z some few fit) reached.1

pub returns : goal.returns
returns c = reached-cells
