use Rattle.play_words.proofs.commands.do_command.Goals as goal

pub returns-in-Batch-clause-ends : goal.returns-in-Batch-clause-ends
returns-in-Batch-clause-ends g c = rw c.in-Batch.is c.play_batch.ensures.ends

pub returns-in-Dump-clause-ends : goal.returns-in-Dump-clause-ends
returns-in-Dump-clause-ends g c = rw c.in-Dump.is c.dump_source.ensures.ends

pub returns-in-Run-clause-ends : goal.returns-in-Run-clause-ends
returns-in-Run-clause-ends g c = rw c.in-Run.is c.play_source.ensures.ends

pub returns-in-Convert-clause-ends : goal.returns-in-Convert-clause-ends
returns-in-Convert-clause-ends g c = rw c.in-Convert.is c.convert_source.ensures.ends

pub returns-in-Schedule-clause-ends : goal.returns-in-Schedule-clause-ends
returns-in-Schedule-clause-ends g c = rw c.in-Schedule.is c.check_source.ensures.ends

pub returns-in-Batch-clause-spent : goal.returns-in-Batch-clause-spent
returns-in-Batch-clause-spent g c = rw c.in-Batch.is (λ reads text. c.play_batch.ensures.spent text)
