-- A dump as a text, and the texts of its faults.
use Rattle.std.specs.Prelude.{ℕ, List, ◌++◌, length, codes, decimal, flat_map}
use Rattle.play_report.specs.Text.{named_text, triple_text}
use Rattle.heap_dump.specs.declared.fault.DumpError.{DumpError}
use Rattle.heap_dump.specs.declared.fault.DumpError.TheVariants.{Cut, BadMagic, BadShape, TooMuch, BadRoot, BadRecord, BadRef}
use Rattle.heap_dump.specs.Final.{Object, DumpedHeap}

-- how many sections, fields and records there are
unfoldable pub sizes_text : ℕ → ℕ → ℕ → List ℕ
sizes_text sections fields records =
    codes "sections " ++ decimal sections ++ codes " fields " ++ decimal fields ++ codes " records " ++ decimal records ++ codes "\n"

-- a record's section, number and value
abbrev pub object_text : Object → List ℕ
object_text o = triple_text o.section o.number o.value

-- a line for the sizes, and one for each record
abbrev pub undump_text : DumpedHeap → List ℕ
undump_text h = sizes_text h.sections h.fields (length h.records) ++ flat_map object_text h.records

-- the fault of a field of a record
unfoldable pub reference_fault_text : ℕ → ℕ → List ℕ
reference_fault_text k field = codes "37 BadRef record " ++ decimal k ++ codes " field " ++ decimal field ++ codes "\n"

-- the number and the name of a fault, and its place
abbrev pub dump_fault_text : DumpError → List ℕ
dump_fault_text (Cut needed) = named_text (codes "31 Cut needed ") needed
dump_fault_text BadMagic = codes "32 BadMagic\n"
dump_fault_text BadShape = codes "33 BadShape\n"
dump_fault_text TooMuch = codes "34 TooMuch\n"
dump_fault_text (BadRoot index) = named_text (codes "35 BadRoot index ") index
dump_fault_text (BadRecord k) = named_text (codes "36 BadRecord record ") k
dump_fault_text (BadRef k field) = reference_fault_text k field
