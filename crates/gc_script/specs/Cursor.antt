-- What is left of the commands that are lent.
use Rattle.std.specs.Prelude.{ℕ, ◌+◌, List, ◌++◌, map, sum_by}
use Rattle.plain_heap.specs.Sections.{Execution, joined}
use Rattle.gc_script.specs.Script.{repeated}
use Rattle.gc_script.specs.Shown.{execution_of}
use Rattle.gc_script.specs.Blocks.{blocks_shown, part_shown}
use Rattle.gc_script.specs.declared.block.Block as block
use Rattle.gc_script.specs.declared.block.Part as part
use Rattle.gc_script.specs.declared.commands.Cursor.{Cursor}

-- what is still to be executed: the rest of a body, its repetitions, the blocks after it, and the parts after them
abbrev pub commands_left : Cursor → List Execution
commands_left c =
    map execution_of c.rest.now ++ (repeated c.again (map execution_of c.body.now) ++ (blocks_shown c.blocks.now ++ joined (map part_shown c.parts.now)))

-- how often a block, its repetition or a part is still to be entered
abbrev pub block_steps : block.Block → ℕ
block_steps b = b.times + 1

-- how often a part, and its blocks and their repetitions, are entered
abbrev pub part_steps : part.Part → ℕ
part_steps p = sum_by block_steps p.blocks.items + 1

-- how often a part, a block or a repetition is still to be entered, which falls at each entry
abbrev pub steps_left : Cursor → ℕ
steps_left c = c.again + (sum_by block_steps c.blocks.now + sum_by part_steps c.parts.now)
