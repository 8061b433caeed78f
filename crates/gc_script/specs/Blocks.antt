-- Blocks of commands, seen as what is executed.
use Rattle.std.specs.Prelude.{List, map, flat_map, Bool, true}
use Rattle.plain_heap.specs.declared.operation.Op.{Op}
use Rattle.plain_heap.specs.Sections.{Execution, makes_object, prints_line}
use Rattle.gc_script.specs.Script.{repeated}
use Rattle.gc_script.specs.Shown.{execution_of}
use Rattle.gc_script.specs.declared.block.Block as block
use Rattle.gc_script.specs.declared.block.Part as part
use Rattle.gc_script.specs.declared.block.Kind.{Kind}
use Rattle.gc_script.specs.declared.block.Kind.TheVariants.{All, Making, Printing}

-- an operation is of a kind
abbrev pub is_counted : Kind → Op → Bool
is_counted All op = true
is_counted Making op = makes_object op
is_counted Printing op = prints_line op

-- a command is of a kind
abbrev pub counts : Kind → Execution → Bool
counts kind e = is_counted kind e.op

-- what a block executes: its commands, as often as it repeats them
abbrev pub block_shown : block.Block → List Execution
block_shown b = repeated b.times (map execution_of b.body.items)

-- what these blocks execute, one after another
abbrev pub blocks_shown : List block.Block → List Execution
blocks_shown bs = flat_map block_shown bs

-- what a part executes
abbrev pub part_shown : part.Part → List Execution
part_shown p = blocks_shown p.blocks.items
