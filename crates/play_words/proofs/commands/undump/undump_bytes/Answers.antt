use Rattle.std.proofs.Common.{refl}
use Rattle.play_words.specs.Undumping.{IsUndumpAnswer, IsUndumpText}
use Rattle.gc_play.proofs.Taking.{text_ends}
use Rattle.play_words.proofs.ReadDumps.{read_fault, read_done}
use Rattle.play_words.proofs.commands.undump.undump_bytes.Goals as goal

pub returns-in-Err : goal.returns-in-Err
returns-in-Err g c =
    text_ends (IsUndumpAnswer c.args.bytes.now) _ _ _ _ _ _ _ _ c.after.ensures tt (read_fault IsUndumpText c.args.bytes.now c.in-Err.fault c.in-Err.ensures.exact) c.write_dump_fault.ensures

pub returns-in-Ok : goal.returns-in-Ok
returns-in-Ok g c =
    text_ends (IsUndumpAnswer c.args.bytes.now) _ _ _ _ _ _ _ _ c.after-in-Ok.ensures tt
    (read_done IsUndumpText c.args.bytes.now c.in-Ok.dump _ c.in-Ok.ensures.exact c.in-Ok.ensures.found.0 refl) c.write_undump.ensures
