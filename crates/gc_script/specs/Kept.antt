-- What the reader keeps, seen as the definitions have it.
use Rattle.std.specs.Prelude.{ℕ, map, Option, Some, None, option_map}
use Rattle.gc_script.specs.Faults.{Fault}
use Rattle.gc_script.specs.Context.{Context}
use Rattle.gc_script.specs.Shown.{fault_of}
use Rattle.gc_script.specs.declared.script.ScriptError.{ScriptError}
use Rattle.gc_script.specs.declared.context.Opened.{Opened}
use Rattle.gc_script.specs.declared.context.Context as code

-- the line of a `repeat` that has no `end` yet, and how often it repeats
abbrev pub opened_of : Opened → ℕ × ℕ
opened_of o = (o.line, o.times)

-- what the reader keeps of the lines before, as the definitions have it
abbrev pub context_shown : code.Context → Context
context_shown c = record {
  version = c.version;
  line = c.line;
  fields = c.fields;
  section = c.section;
  warehouses = c.warehouses;
  seasons = c.seasons;
  opened = option_map opened_of c.opened;
  names = map (λ n. n.now) c.names.items;
  catalogue = map (λ n. n.now) c.catalogue.items;
}

-- the fault of a line, as the reader tells it
abbrev pub told : Option ScriptError → Option Fault
told None = None
told (Some e) = fault_of e
