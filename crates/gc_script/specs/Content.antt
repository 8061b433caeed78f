-- What the reader keeps of the commands before a line.
use Rattle.std.specs.Prelude.{ℕ, List, [], ◌∷◌, ◌++◌, map, Option, option_map}
use Rattle.std.specs.Option.{option_or}
use Rattle.plain_heap.specs.Sections.{Execution}
use Rattle.gc_script.specs.Statement.{Statement, Catalogue, Warehouse, Season, Repeat, End, Command}
use Rattle.gc_script.specs.Earlier.{open_repeat}
use Rattle.gc_script.specs.Script.{repeated, repetitions, pending, ended_parts, if_warehouse, if_catalogue, closed_warehouses, closed_catalogue}
use Rattle.gc_script.specs.Context.{Context, execution_in}
use Rattle.gc_script.specs.Shown.{execution_of}
use Rattle.gc_script.specs.Blocks.{blocks_shown, part_shown}
use Rattle.gc_script.specs.declared.kept.Kept.{Kept}

-- the sections before the one that was started last, and of that one the parts before the one that was begun last;
-- of that part, the commands before the last line that cuts them, and those since
pub record Content : Type 0 where
  pub catalogue : Option (List (List Execution))
  pub warehouses : List (List (List Execution))
  pub ended : List (List Execution)
  pub settled : List Execution
  pub pending : List Execution

-- the executed commands of the part that was begun last, before those that are pending
abbrev pub settled : List (List ℕ) → List Statement → List Execution
settled catalogue [] = []
settled catalogue (Catalogue ∷ earlier) = []
settled catalogue (Warehouse ∷ earlier) = []
settled catalogue (Season ∷ earlier) = []
settled catalogue (Repeat n ∷ earlier) = settled catalogue earlier ++ repeated 1 (pending catalogue earlier)
settled catalogue (End ∷ earlier) = settled catalogue earlier ++ repeated (repetitions (open_repeat earlier)) (pending catalogue earlier)
settled catalogue (statement ∷ earlier) = settled catalogue earlier

-- the content after these lines, latest first
abbrev pub content_of : List (List ℕ) → List Statement → Content
content_of catalogue earlier = record {
  catalogue = closed_catalogue catalogue earlier;
  warehouses = closed_warehouses catalogue earlier;
  ended = ended_parts catalogue earlier;
  settled = settled catalogue earlier;
  pending = pending catalogue earlier;
}

-- the pending commands are executed so often
abbrev pub settle : ℕ → Content → Content
settle n content = record content { settled = content.settled ++ repeated n content.pending; pending = [] }

-- the part ends that was begun last
abbrev pub end_part : Content → Content
end_part content = record content { ended = content.ended ++ (content.settled ++ repeated 1 content.pending) ∷ []; settled = []; pending = [] }

-- the section of these parts is closed
abbrev pub close : Option ℕ → Content → Content
close section content = record content {
  catalogue = option_or (if_catalogue section content.ended) content.catalogue;
  warehouses = content.warehouses ++ if_warehouse section content.ended;
  ended = [];
}

-- the content after a line without a fault
abbrev pub content_after : Context → Content → Statement → Content
content_after c content Warehouse = close c.section (end_part content)
content_after c content Season = end_part content
content_after c content (Repeat n) = settle 1 content
content_after c content End = settle (repetitions c.opened) content
content_after c content (Command spoken) = record content { pending = content.pending ++ execution_in c spoken ∷ [] }
content_after c content statement = content

-- what the reader keeps of the commands, as the definitions have it
abbrev pub kept_shown : Kept → Content
kept_shown k = record {
  catalogue = option_map (λ parts. map part_shown parts.items) k.catalogue;
  warehouses = map (λ parts. map part_shown parts.items) k.warehouses.items;
  ended = map part_shown k.ended.items;
  settled = blocks_shown k.blocks.items;
  pending = map execution_of k.body.items;
}
