-- What the functions that build commands make.
use Rattle.std.specs.Prelude.{◌≡◌, ◌++◌, ◌∷◌, [], List, false, map}
use Rattle.std.specs.Borrow.{Bor}
use Rattle.clap.specs.Walk.{Text}
use Rattle.clap.specs.Simple.{App, app_of, with_subcommand}
use Rattle.clap.specs.declared.builder.command.Command.{Command}
use Rattle.clap.specs.declared.builder.command.Command.TheViews.{out-Command}
use Rattle.command_words.specs.Parsing.{asked_command, asked_rule}
use Rattle.command_words.specs.declared.program.Form.{Form as WrittenForm}

-- a command with more options
abbrev pub with_options : App → List Text → App
with_options app names = record app { top = record app.top { rules = app.top.rules ++ map asked_rule names } }

-- `new` is `old` with more options
pub record HasMore (old : Command) (names : List Text) (new : Command) : Type 0 where
  pub shape : app_of new ≡ with_options (app_of old) names
  pub local : (out-Command new).has_globals ≡ (out-Command old).has_globals

-- the command of this name, with these options and no subcommand
pub record IsCommand (name : Text) (names : List Text) (c : Command) : Type 0 where
  pub shape : app_of c ≡ record { top = asked_command name names; subs = [] }
  pub local : (out-Command c).has_globals ≡ false

-- the texts that are borrowed
abbrev pub texts_of : List (Bor Text) → List Text
texts_of = map (λ t. t.now)

-- a program with a command for each of these lines
abbrev pub with_commands : App → List WrittenForm → App
with_commands app [] = app
with_commands app (f ∷ fs) = with_commands (with_subcommand app (asked_command f.name.now (texts_of f.options.now))) fs
