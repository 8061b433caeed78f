-- What the words ask for has values in their ranges.
use Rattle.std.proofs.Common.{◌≡◌, ◌≤◌, ◌%◌, ◌&&◌, ◌==◌, ℕ, List, [], ◌∷◌, Bool, true, false, refl, sym, subst, arith}
use Rattle.std.proofs.lemmas.Bool.Decides.{nat_tests}
use Rattle.std.specs.Prelude.{Option, Some, None, IfSome, option_map, option_and_then, if◌then◌else◌, nat_le, codes}
use Rattle.std.specs.Str.{bytes_eq}
use Rattle.gc_script.specs.ScriptText.{number_of}
use Rattle.command_words.specs.Words.{Options, Setting, Command, Run, Gen, Load, Convert, Schedule, Dump, Undump, Census, Batch, command, by_name, settings, allowing, given, chosen, number_in, is_set, cells, workers, tracers, packets, entries, runners, options, number, size, run, gen, load, dump_command, batch_command, play_names, made_names}
use Rattle.command_words.specs.Commands.{IsCommandInRange, command_of, options_of}
use Rattle.play_end.specs.Answers.{AreInRange}
use Rattle.play_end.specs.declared.options.Options.{Options as PlayOptions}
use Rattle.command_words.specs.declared.asked.Asked.{Asked}
use Rattle.command_words.specs.declared.asked.Asked.TheVariants as asked

-- a number, if there is one, lies in a range
abbrev In : ℕ → ℕ → Option ℕ → Type 0
In least greatest None = Unit {0}
In least greatest (Some n) = (least ≤ n) × (n ≤ greatest)

both : (least greatest n : ℕ) → (nat_le least n && nat_le n greatest) ≡ true → (least ≤ n) × (n ≤ greatest)
both least greatest n e = (grind (arith, nat_tests), grind (arith, nat_tests))

tested : (least greatest n : ℕ) (b : Bool) → b ≡ (nat_le least n && nat_le n greatest) → In least greatest (if b then Some n else None)
tested least greatest n true e = both least greatest n (sym e)
tested least greatest n false e = tt

number_of_in : (least greatest : ℕ) (n : Option ℕ) → In least greatest (option_and_then (λ n. if nat_le least n && nat_le n greatest then Some n else None) n)
number_of_in least greatest None = tt
number_of_in least greatest (Some n) = tested least greatest n (nat_le least n && nat_le n greatest) refl

number_in_in : (least greatest : ℕ) (text : List ℕ) → In least greatest (number_in least greatest text)
number_in_in least greatest [] = tt
number_in_in least greatest (digit ∷ digits) = number_of_in least greatest (number_of (digit ∷ digits))

chosen_in : (least greatest : ℕ) (default : Option ℕ) (values : List (Option (List ℕ))) → In least greatest default → In least greatest (chosen least greatest default values)
chosen_in least greatest default [] h = h
chosen_in least greatest default (Some value ∷ []) h = number_in_in least greatest value
chosen_in least greatest default (None ∷ []) h = tt
chosen_in least greatest default (value ∷ other ∷ others) h = tt

-- a number of cells
abbrev AreCells : Option ℕ → Type 0
AreCells None = Unit {0}
AreCells (Some n) = (64 ≤ n) × (n ≤ 65536) × (n % 64 ≡ 0)

cells_tested : (n : ℕ) (b : Bool) → b ≡ (n % 64 == 0) → (64 ≤ n) × (n ≤ 65536) → AreCells (if b then Some n else None)
cells_tested n true e h = (h.0, h.1, grind (arith, nat_tests))
cells_tested n false e h = tt

cells_in : (n : Option ℕ) → In 64 65536 n → AreCells (option_and_then (λ n. if n % 64 == 0 then Some n else None) n)
cells_in None h = tt
cells_in (Some n) h = cells_tested n (n % 64 == 0) refl h

-- each option lies in its range
abbrev AreIn : Option Options → Type 0
AreIn None = Unit {0}
AreIn (Some o) =
    ((64 ≤ o.cells) × (o.cells ≤ 65536) × (o.cells % 64 ≡ 0)) × ((1 ≤ o.workers) × (o.workers ≤ 32)) × ((0 ≤ o.tracers) × (o.tracers ≤ 8))
    × ((2 ≤ o.packets) × (o.packets ≤ 1024)) × ((2 ≤ o.entries) × (o.entries ≤ 512))

made_in : (cells workers tracers packets entries : Option ℕ) (place : Option Bool) → AreCells cells → In 1 32 workers → In 0 8 tracers → In 2 1024 packets → In 2 512 entries
    → AreIn (option_and_then (λ cells. option_and_then (λ workers. option_and_then (λ tracers. option_and_then (λ packets. option_and_then (λ entries. option_and_then (λ place.
    Some (record { cells = cells; workers = workers; tracers = tracers; packets = packets; entries = entries; place = place }))
    place) entries) packets) tracers) workers) cells)
made_in None workers tracers packets entries place c w t p e = tt
made_in (Some cells) None tracers packets entries place c w t p e = tt
made_in (Some cells) (Some workers) None packets entries place c w t p e = tt
made_in (Some cells) (Some workers) (Some tracers) None entries place c w t p e = tt
made_in (Some cells) (Some workers) (Some tracers) (Some packets) None place c w t p e = tt
made_in (Some cells) (Some workers) (Some tracers) (Some packets) (Some entries) None c w t p e = tt
made_in (Some cells) (Some workers) (Some tracers) (Some packets) (Some entries) (Some place) c w t p e = (c, w, t, p, e)

options_in : (all : List Setting) → AreIn (options all)
options_in all =
    made_in (cells all) (workers all) (tracers all) (packets all) (entries all) (is_set (given (codes "--place") all))
    (cells_in (chosen 64 65536 (Some 4096) (given (codes "--cells") all)) (chosen_in 64 65536 (Some 4096) (given (codes "--cells") all) (omega arith, omega arith)))
    (chosen_in 1 32 (Some 4) (given (codes "--workers") all) (omega arith, omega arith))
    (chosen_in 0 8 (Some 1) (given (codes "--tracers") all) (omega arith, omega arith))
    (chosen_in 2 1024 (Some 64) (given (codes "--packets") all) (omega arith, omega arith))
    (chosen_in 2 512 (Some 32) (given (codes "--entries") all) (omega arith, omega arith))

-- the values of a command are in their ranges
abbrev IsFine : Option Command → Type 0
IsFine (Some (Run o)) = AreIn (Some o)
IsFine (Some (Gen number size)) = In 1 20000 (Some size)
IsFine (Some (Load o number size)) = AreIn (Some o) × In 1 20000 (Some size)
IsFine (Some (Dump o)) = AreIn (Some o)
IsFine (Some (Batch o runners)) = AreIn (Some o) × In 1 8 (Some runners)
IsFine other = Unit {0}

one_of : (b : Bool) (x y : Option Command) → IsFine x → IsFine y → IsFine (if b then x else y)
one_of true x y h k = h
one_of false x y h k = k

allowed : (names : List (List ℕ)) (all : List Setting) (x : Option Command) → IsFine x → IsFine (allowing names all x)
allowed names all x h = one_of _ x None h tt

run_fine : (o : Option Options) → AreIn o → IsFine (option_and_then (λ o. Some (Run o)) o)
run_fine None h = tt
run_fine (Some o) h = h

gen_fine : (number size : Option ℕ) → In 1 20000 size → IsFine (option_and_then (λ n. option_and_then (λ m. Some (Gen n m)) size) number)
gen_fine None size h = tt
gen_fine (Some n) None h = tt
gen_fine (Some n) (Some m) h = h

load_fine : (o : Option Options) (number size : Option ℕ) → AreIn o → In 1 20000 size
    → IsFine (option_and_then (λ o. option_and_then (λ n. option_and_then (λ m. Some (Load o n m)) size) number) o)
load_fine None number size h k = tt
load_fine (Some o) None size h k = tt
load_fine (Some o) (Some n) None h k = tt
load_fine (Some o) (Some n) (Some m) h k = (h, k)

dump_fine : (o : Option Options) → AreIn o → IsFine (option_and_then (λ o. Some (Dump o)) o)
dump_fine None h = tt
dump_fine (Some o) h = h

batch_fine : (o : Option Options) (runners : Option ℕ) → AreIn o → In 1 8 runners → IsFine (option_and_then (λ o. option_and_then (λ r. Some (Batch o r)) runners) o)
batch_fine None runners h k = tt
batch_fine (Some o) None h k = tt
batch_fine (Some o) (Some r) h k = (h, k)

size_in : (all : List Setting) → In 1 20000 (size all)
size_in all = chosen_in 1 20000 None (given (codes "--size") all) tt

runners_in : (all : List Setting) → In 1 8 (runners all)
runners_in all = chosen_in 1 8 (Some 2) (given (codes "--runners") all) (omega arith, omega arith)

-- the first of nine commands whose name is given
first_of : (a b c d e f g h i : Bool) (r s t u v w x y z : Option Command) → IsFine r → IsFine s → IsFine t → IsFine u → IsFine v → IsFine w → IsFine x → IsFine y → IsFine z
    → IsFine (if a then r else (if b then s else (if c then t else (if d then u else (if e then v else (if f then w else (if g then x else (if h then y else (if i then z else None)))))))))
first_of true b c d e f g h i r s t u v w x y z r_in s_in t_in u_in v_in w_in x_in y_in z_in = r_in
first_of false true c d e f g h i r s t u v w x y z r_in s_in t_in u_in v_in w_in x_in y_in z_in = s_in
first_of false false true d e f g h i r s t u v w x y z r_in s_in t_in u_in v_in w_in x_in y_in z_in = t_in
first_of false false false true e f g h i r s t u v w x y z r_in s_in t_in u_in v_in w_in x_in y_in z_in = u_in
first_of false false false false true f g h i r s t u v w x y z r_in s_in t_in u_in v_in w_in x_in y_in z_in = v_in
first_of false false false false false true g h i r s t u v w x y z r_in s_in t_in u_in v_in w_in x_in y_in z_in = w_in
first_of false false false false false false true h i r s t u v w x y z r_in s_in t_in u_in v_in w_in x_in y_in z_in = x_in
first_of false false false false false false false true i r s t u v w x y z r_in s_in t_in u_in v_in w_in x_in y_in z_in = y_in
first_of false false false false false false false false true r s t u v w x y z r_in s_in t_in u_in v_in w_in x_in y_in z_in = z_in
first_of false false false false false false false false false r s t u v w x y z r_in s_in t_in u_in v_in w_in x_in y_in z_in = tt

named_fine : (name : List ℕ) (all : List Setting) → IsFine (by_name name all)
named_fine name all =
    first_of (bytes_eq name (codes "run")) (bytes_eq name (codes "gen")) (bytes_eq name (codes "load")) (bytes_eq name (codes "convert")) (bytes_eq name (codes "schedule"))
    (bytes_eq name (codes "dump")) (bytes_eq name (codes "undump")) (bytes_eq name (codes "census")) (bytes_eq name (codes "batch"))
    (run all) (gen all) (load all) (allowing [] all (Some Convert)) (allowing [] all (Some Schedule)) (dump_command all) (allowing [] all (Some Undump)) (allowing [] all (Some Census)) (batch_command all)
    (allowed (codes "--place" ∷ play_names) all (option_and_then (λ o. Some (Run o)) (options all)) (run_fine (options all) (options_in all)))
    (allowed made_names all (option_and_then (λ n. option_and_then (λ m. Some (Gen n m)) (size all)) (number all)) (gen_fine (number all) (size all) (size_in all)))
    (allowed (codes "--number" ∷ codes "--size" ∷ play_names) all (option_and_then (λ o. option_and_then (λ n. option_and_then (λ m. Some (Load o n m)) (size all)) (number all)) (options all))
    (load_fine (options all) (number all) (size all) (options_in all) (size_in all)))
    (allowed [] all (Some Convert) tt)
    (allowed [] all (Some Schedule) tt)
    (allowed play_names all (option_and_then (λ o. Some (Dump o)) (options all)) (dump_fine (options all) (options_in all)))
    (allowed [] all (Some Undump) tt)
    (allowed [] all (Some Census) tt)
    (allowed (codes "--runners" ∷ play_names) all (option_and_then (λ o. option_and_then (λ r. Some (Batch o r)) (runners all)) (options all)) (batch_fine (options all) (runners all) (options_in all) (runners_in all)))

with_settings : (name : List ℕ) (all : Option (List Setting)) → IsFine (option_and_then (by_name name) all)
with_settings name None = tt
with_settings name (Some all) = named_fine name all

command_fine : (words : List (List ℕ)) → IsFine (command words)
command_fine [] = tt
command_fine (name ∷ words) = with_settings name (settings words None)

options_fine : (o : PlayOptions) → AreIn (Some (options_of o)) → AreInRange o
options_fine o h = record { cells = h.0; workers = h.1; tracers = h.2.1; packets = h.3; entries = h.4 }

range_of : (a : Asked) → IsFine (Some (command_of a)) → IsCommandInRange a
range_of (asked.Run o) h = options_fine o h
range_of (asked.Gen number size) h = h
range_of (asked.Load o number size) h = (options_fine o h.0, h.1.0, h.1.1)
range_of asked.Convert h = tt
range_of asked.Schedule h = tt
range_of (asked.Dump o) h = options_fine o h
range_of asked.Undump h = tt
range_of asked.Census h = tt
range_of (asked.Batch o runners) h = (options_fine o h.0, h.1.0, h.1.1)

-- what the words ask for is in range
in_range : (words : List (List ℕ)) (a : Asked) → Some (command_of a) ≡ command words → IsCommandInRange a
in_range words a e = range_of a (subst IsFine (sym e) (command_fine words))

pub all_in_range : (words : List (List ℕ)) (a : Option Asked) → option_map command_of a ≡ command words → IfSome a IsCommandInRange
all_in_range words None e = tt
all_in_range words (Some a) e = in_range words a e

-- the size of a generated script that is played
pub load_size : (words : List (List ℕ)) (o : Options) (number size : ℕ) → command words ≡ Some (Load o number size) → size ≤ 20000
load_size words o number size e = (subst IsFine e (command_fine words)).1.1
