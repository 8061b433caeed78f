use Rattle.std.proofs.Common.{ap, sym, ◌∙◌, map, refl}
use Rattle.std.specs.Prelude.{option_map}
use Rattle.std.specs.String.{string_bytes}
use Rattle.command_words.specs.Commands.{command_of}
use Rattle.play_words.specs.Answers.{IsAnswer}
use Rattle.gc_play.specs.Promise.{wanted}
use Rattle.gc_play.proofs.Taking.{command_ends, text_ends}
use Rattle.play_words.proofs.Promised.{refusal}
use Rattle.play_words.proofs.program.do_words.Goals as goal

pub returns-in-Ok-None-clause-ends : goal.returns-in-Ok-None-clause-ends
returns-in-Ok-None-clause-ends g c =
    command_ends (IsAnswer (wanted (map string_bytes c.args.words.now)) _) _ _ _ _ _ _ _ refl
    (text_ends (IsAnswer (wanted (map string_bytes c.args.words.now)) _) _ _ _ _ _ _ _ _ c.after.ensures tt
    (refusal (wanted (map string_bytes c.args.words.now)) _ (sym (ap (option_map command_of) c.in-Ok-None.field-0-is) ∙ c.in-Ok-None.ensures.asked)) c.write_usage.ensures)
