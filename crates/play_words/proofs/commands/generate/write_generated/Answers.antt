use Rattle.std.proofs.Common.{refl, ◌∙◌}
use Rattle.play_words.specs.Generating.{IsGenAnswer}
use Rattle.gc_play.proofs.Taking.{text_ends}
use Rattle.play_words.proofs.commands.generate.write_generated.Goals as goal

pub returns-in-Ok : goal.returns-in-Ok
returns-in-Ok g c = text_ends (IsGenAnswer c.args.number c.args.size) _ _ _ _ _ _ _ _ c.after.ensures tt (refl, c.as_bytes.ensures.value ∙ c.in-Ok.ensures.text) c.write_lines.ensures
