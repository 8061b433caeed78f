-- What the reader says of a line, seen as the definitions have it.
use Rattle.std.specs.Prelude.{ℕ, List, min, codes, if◌then◌else◌}
use Rattle.std.specs.Str.{bytes_eq}
use Rattle.gc_script.specs.Statement.{Spoken, NewOf, LetOf, NilOf, SetOf, GetOf, CatOf, PutOf, SayOf, SumOf, CollectOf, Statement, Blank, Fields, Catalogue, Warehouse, Season, Repeat, End, Command, Wrong, alone, new_line, let_line, nil_line, set_line, get_line, cat_line, put_line, say_line, sum_line, repeat_line}
use Rattle.gc_script.specs.declared.statement.Spoken as spoken_code
use Rattle.gc_script.specs.declared.statement.Spoken.TheVariants as spoken
use Rattle.gc_script.specs.declared.statement.Statement as statement_code
use Rattle.gc_script.specs.declared.statement.Statement.TheVariants as says

-- a number, or a number past every greatest value if it is larger
abbrev pub capped_number : ℕ → ℕ
capped_number n = min n 4294967296

-- a command with its numbers capped
abbrev pub capped_command : Spoken → Spoken
capped_command (NewOf v n) = NewOf v (capped_number n)
capped_command (LetOf v w) = LetOf v w
capped_command (NilOf v) = NilOf v
capped_command (SetOf v i w) = SetOf v (capped_number i) w
capped_command (GetOf v w i) = GetOf v w (capped_number i)
capped_command (CatOf v name) = CatOf v name
capped_command (PutOf v n) = PutOf v (capped_number n)
capped_command (SayOf label v) = SayOf label v
capped_command (SumOf label v i limit) = SumOf label v (capped_number i) (capped_number limit)
capped_command CollectOf = CollectOf

-- a line with its numbers capped
abbrev pub capped : Statement → Statement
capped Blank = Blank
capped (Fields n) = Fields (capped_number n)
capped Catalogue = Catalogue
capped Warehouse = Warehouse
capped Season = Season
capped (Repeat n) = Repeat (capped_number n)
capped End = End
capped (Command spoken) = Command (capped_command spoken)
capped Wrong = Wrong

-- a command as the reader has it
abbrev pub said_command : spoken_code.Spoken → Spoken
said_command (spoken.New v n) = NewOf v.now n
said_command (spoken.Let v w) = LetOf v.now w.now
said_command (spoken.Nil v) = NilOf v.now
said_command (spoken.Set v i w) = SetOf v.now i w.now
said_command (spoken.Get v w i) = GetOf v.now w.now i
said_command (spoken.Cat v name) = CatOf v.now name.now
said_command (spoken.Put v n) = PutOf v.now n
said_command (spoken.Say label v) = SayOf label.text.now v.now
said_command (spoken.Sum label v i limit) = SumOf label.text.now v.now i limit
said_command spoken.Collect = CollectOf

-- a line as the reader has it
abbrev pub said : statement_code.Statement → Statement
said says.Blank = Blank
said (says.Fields n) = Fields n
said says.Catalogue = Catalogue
said says.Warehouse = Warehouse
said says.Season = Season
said (says.Repeat n) = Repeat n
said says.End = End
said (says.Command spoken) = Command (said_command spoken)
said says.Wrong = Wrong

-- a line by its first word, from `say` on
abbrev pub by_block : List ℕ → List (List ℕ) → Statement
by_block keyword words =
    if bytes_eq keyword (codes "say") then say_line words
    else (if bytes_eq keyword (codes "sum") then sum_line words
    else (if bytes_eq keyword (codes "collect") then alone words (Command CollectOf)
    else (if bytes_eq keyword (codes "repeat") then repeat_line words
    else (if bytes_eq keyword (codes "end") then alone words End
    else Wrong))))

-- a line by its first word, from `new` on
abbrev pub by_assigning : List ℕ → List (List ℕ) → Statement
by_assigning keyword words =
    if bytes_eq keyword (codes "new") then new_line words
    else (if bytes_eq keyword (codes "let") then let_line words
    else (if bytes_eq keyword (codes "nil") then nil_line words
    else (if bytes_eq keyword (codes "set") then set_line words
    else (if bytes_eq keyword (codes "get") then get_line words
    else (if bytes_eq keyword (codes "cat") then cat_line words
    else (if bytes_eq keyword (codes "put") then put_line words
    else by_block keyword words))))))
