-- What the values of the code mean.
use Rattle.std.specs.Prelude.{◌≤◌}
use Rattle.command_words.specs.Words.{Options, Command, Run, Gen, Load, Convert, Schedule, Dump, Undump, Census, Batch}
use Rattle.play_end.specs.declared.options.Options.{Options as PlayOptions}
use Rattle.play_end.specs.Answers.{AreInRange}
use Rattle.command_words.specs.declared.asked.Asked.{Asked}
use Rattle.command_words.specs.declared.asked.Asked.TheVariants as asked

-- the options of a play, as the definitions have them
abbrev pub options_of : PlayOptions → Options
options_of o = record { cells = o.cells; workers = o.workers; tracers = o.tracers; packets = o.packets; entries = o.entries; place = o.place }

-- the command that the code answers
abbrev pub command_of : Asked → Command
command_of (asked.Run options) = Run (options_of options)
command_of (asked.Gen number size) = Gen number size
command_of (asked.Load options number size) = Load (options_of options) number size
command_of asked.Convert = Convert
command_of asked.Schedule = Schedule
command_of (asked.Dump options) = Dump (options_of options)
command_of asked.Undump = Undump
command_of asked.Census = Census
command_of (asked.Batch options runners) = Batch (options_of options) runners

-- the values of a command's options are in their ranges
abbrev pub IsCommandInRange : Asked → Type 0
IsCommandInRange (asked.Run options) = AreInRange options
IsCommandInRange (asked.Gen number size) = (1 ≤ size) × (size ≤ 20000)
IsCommandInRange (asked.Load options number size) = AreInRange options × (1 ≤ size) × (size ≤ 20000)
IsCommandInRange asked.Convert = Unit {0}
IsCommandInRange asked.Schedule = Unit {0}
IsCommandInRange (asked.Dump options) = AreInRange options
IsCommandInRange asked.Undump = Unit {0}
IsCommandInRange asked.Census = Unit {0}
IsCommandInRange (asked.Batch options runners) = AreInRange options × (1 ≤ runners) × (runners ≤ 8)
