-- A small script by its sections, computed by the definitions. The expected values were worked out by hand.
use Rattle.std.proofs.Common.{◌≡◌, List, [], ◌∷◌, refl, lit<}
use Rattle.std.specs.Prelude.{Some, None}
use Rattle.plain_heap.specs.declared.object.Ref.TheVariants as refs
use Rattle.plain_heap.specs.declared.operation.Op.{Op}
use Rattle.plain_heap.specs.declared.operation.Op.TheVariants as ops
use Rattle.plain_heap.specs.declared.operation.Line.TheVariants as lines
use Rattle.plain_heap.specs.PlainHeap.{empty_heap, variable}
use Rattle.plain_heap.specs.Sections.{Execution, Sections, IsNext, first_of, seasons, end_of, section_of, executed_of, executed_total, printed_total, made_by, printed_by}
use Rattle.plain_heap.specs.PlainRun.{plain, last_heap, heaps_at, printed_before, transcript}
use Rattle.plain_heap.specs.Placement.{LiesIn}

abbrev execution : Op → Execution
execution op = record { line = 0; label = []; op = op }

-- the catalogue has another object in each season
abbrev catalogue : List (List Execution)
catalogue = (execution (ops.New 0 40) ∷ []) ∷ (execution (ops.New 0 41) ∷ []) ∷ []

-- a warehouse that reads the catalogue in each of its three seasons
abbrev warehouse : List (List Execution)
warehouse =
    (execution (ops.New 1 5) ∷ execution (ops.Cat 0 0) ∷ execution (ops.Say 0) ∷ [])
    ∷ (execution (ops.Cat 0 0) ∷ execution (ops.Say 0) ∷ [])
    ∷ (execution (ops.Sum 1 0 9) ∷ [])
    ∷ []

abbrev script : Sections
script = record { fields = 4; catalogue = Some catalogue; warehouses = warehouse ∷ [] }

cut_in_a_part : first_of 4 warehouse ≡ (execution (ops.New 1 5) ∷ execution (ops.Cat 0 0) ∷ execution (ops.Say 0) ∷ []) ∷ (execution (ops.Cat 0 0) ∷ []) ∷ [] ∷ []
cut_in_a_part = refl

most_parts : seasons script ≡ 3
most_parts = refl

at_least_one_season : seasons (record { fields = 4; catalogue = None; warehouses = [] }) ≡ 1
at_least_one_season = refl

ends : (end_of script 1 0 ≡ 0) × (end_of script 1 1 ≡ 3) × (end_of script 1 2 ≡ 5) × (end_of script 1 3 ≡ 6) × (end_of script 0 3 ≡ 2)
ends = (refl, refl, refl, refl, refl)

by_itself : section_of script 1 ≡ record { number = 1; fields = 4; parts = warehouse }
by_itself = refl

made : made_by (executed_of script 1) ≡ 1
made = refl

printed : printed_by (executed_of script 1) ≡ 3
printed = refl

in_all : (executed_total script ≡ 8) × (printed_total script ≡ 3)
in_all = (refl, refl)

-- after four commands of the warehouse its next one is the second of its second part
next : IsNext script 1 4 2 (execution (ops.Say 0))
next = record { season = lit< tt; place = 1; before = refl; there = refl }

-- each season reads the catalogue as it is at the end of that season
says_each_season : transcript script 1
    ≡ record { label = []; line = lines.Value 40 } ∷ record { label = []; line = lines.Value 41 } ∷ record { label = []; line = lines.Walk 1 5 } ∷ []
says_each_season = refl

-- its first four commands print one line
says_so_far : printed_before script 1 4 ≡ record { label = []; line = lines.Value 40 } ∷ []
says_so_far = refl

plain_at_start : plain script 1 0 ≡ empty_heap 4 1
plain_at_start = refl

plain_in_second_season : variable (plain script 1 4) 0 ≡ refs.Cat 1
plain_in_second_season = refl

plain_at_end : plain script 1 6 ≡ last_heap script 1
plain_at_end = refl

-- the catalogue's second season finds the warehouse after its first part, and the warehouse's finds the catalogue after its second
beside_catalogue : heaps_at script 0 1 2 ≡ plain script 0 1 ∷ plain script 1 3 ∷ []
beside_catalogue = refl

beside_warehouse : heaps_at script 1 4 2 ≡ plain script 0 2 ∷ plain script 1 4 ∷ []
beside_warehouse = refl

lies : LiesIn ((12 ∷ 15 ∷ []) ∷ (9 ∷ []) ∷ []) (record { section = 0; number = 1 }) 15
lies = refl
