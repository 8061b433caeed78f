-- The loop over the lines of a text.
use Rattle.std.proofs.Common.{◌≡◌, ℕ, ◌+◌, List, [], ◌∷◌, ◌++◌, length, refl, ap, sym, ◌∙◌, cond, Bool, true, false, codes, ◌≤◌, ◌<◌, map, Bor, arith}
use Rattle.std.proofs.lemmas.List.{append_assoc, append-nil, length-append, nil_from_length}
use Rattle.std.specs.Prelude.{Option, Some, None, Result, Ok, Err, nat_lt}
use Rattle.mark_core.specs.declared.kinds.Event.{Event}
use Rattle.mark_core.specs.declared.kinds.Shape.{Shape}
use Rattle.schedule_check.specs.declared.line.Line.{Line}
use Rattle.schedule_check.specs.Faults.{FaultOfSchedule, TooManyEvents, BadHeader}
use Rattle.std.specs.Str.{bytes_eq}
use Rattle.schedule_check.specs.Forms.{number_word}
use Rattle.schedule_check.specs.Table.{all_three, triple}
use Rattle.schedule_check.specs.Schedule.{Schedule, without_events, sized, objects_in_schedule, is_in_limits, is_skipped, shape_line, event_line, events_from, with_event, put_first, with_events, of_shape, schedule_body, is_header, of_schedule_lines}
use Rattle.schedule_check.specs.Reading.{reading, and_then, after_words, with_more, begun_schedule, ended, after_schedule_line}
use Rattle.gc_script.specs.ScriptText.{words, lines}
use Rattle.gc_script.specs.FirstLine.{first_line, after_line as rest_after}
use Rattle.gc_script.proofs.Bytes.{few_lines}
use Rattle.gc_script.proofs.Cuts.{lines_step}
use Rattle.schedule_check.specs.Shown.{is_schedule_refused}

-- Reading line by line comes to what the definition says.
-- the schedule with these events more
abbrev pub more : Schedule → Result (List Line) FaultOfSchedule → Result Schedule FaultOfSchedule
more s (Ok events) = Ok (record s { events = s.events ++ events })
more s (Err fault) = Err fault

abbrev with_last : Schedule → Line → Schedule
with_last s l = record s { events = s.events ++ l ∷ [] }

more_first : (s : Schedule) (l : Line) (r : Result (List Line) FaultOfSchedule) → more (with_last s l) r ≡ more s (put_first l r)
more_first s l (Ok rest) = ap (λ (es : List Line). Ok (record s { events = es })) (append_assoc s.events (l ∷ []) rest)
more_first s l (Err fault) = refl

abbrev pub Goes : ℕ → List (List (List ℕ)) → Type 0
Goes line ls = (s : Schedule) → reading (Some s) line ls ≡ more s (events_from line (length s.events) ls)

longer : (s : Schedule) (l : Line) → length (with_last s l).events ≡ length s.events + 1
longer s l = length-append s.events (l ∷ [])

one_more : (s : Schedule) (line : ℕ) (e : Event) (ls : List (List (List ℕ))) → Goes (line + 1) ls → (few : Bool)
    → and_then (cond few (Ok (Some (with_last s (record { line = line; event = e })))) (Err (TooManyEvents line))) (λ next. reading next (line + 1) ls)
    ≡ more s (cond few (put_first (record { line = line; event = e }) (events_from (line + 1) (length s.events + 1) ls)) (Err (TooManyEvents line)))
one_more s line e ls h true =
    let l : Line = record { line = line; event = e } in
    h (with_last s l) ∙ ap (λ (n : ℕ). more (with_last s l) (events_from (line + 1) n ls)) (longer s l) ∙ more_first s l (events_from (line + 1) (length s.events + 1) ls)
one_more s line e ls h false = refl

said : (s : Schedule) (line : ℕ) (o : Option Event) (ls : List (List (List ℕ))) → Goes (line + 1) ls
    → and_then (with_more s line o) (λ next. reading next (line + 1) ls) ≡ more s (with_event line (length s.events) o (events_from (line + 1) (length s.events + 1) ls))
said s line None ls h = refl
said s line (Some e) ls h = one_more s line e ls h (nat_lt (length s.events) 100000)

skips : (s : Schedule) (line : ℕ) (ws : List (List ℕ)) (ls : List (List (List ℕ))) → Goes (line + 1) ls → (skipped : Bool)
    → and_then (cond skipped (Ok (Some s)) (after_words (Some s) line ws)) (λ next. reading next (line + 1) ls)
    ≡ more s (cond skipped (events_from (line + 1) (length s.events) ls) (with_event line (length s.events) (event_line ws) (events_from (line + 1) (length s.events + 1) ls)))
skips s line ws ls h true = h s
skips s line ws ls h false = said s line (event_line ws) ls h

-- from a schedule on, the lines add their events
pub goes : (line : ℕ) (ls : List (List (List ℕ))) → Goes line ls
goes line [] s = ap (λ (es : List Line). Ok (record s { events = es })) (sym (append-nil s.events))
goes line (ws ∷ ls) s = skips s line ws ls (goes (line + 1) ls) (is_skipped ws)

-- a schedule, if any, without events
abbrev pub IsPlain : Option Schedule → Type 0
IsPlain None = Unit {0}
IsPlain (Some s) = s.events ≡ []

plain_more : (s : Schedule) (r : Result (List Line) FaultOfSchedule) → s.events ≡ [] → more s r ≡ with_events s r
plain_more s (Ok es) h = ap (λ (xs : List Line). Ok (record s { events = xs ++ es })) h
plain_more s (Err fault) h = refl

begins : (o : Option Schedule) (line : ℕ) (ls : List (List (List ℕ))) → IsPlain o → and_then (begun_schedule o) (λ next. reading next line ls) ≡ of_shape o line ls
begins None line ls h = refl
begins (Some s) line ls h = goes line ls s ∙ ap (λ (n : ℕ). more s (events_from line n ls)) (ap length h) ∙ plain_more s (events_from line 0 ls) h

limits_plain : (shape : Shape) (n : ℕ) (b : Bool) → IsPlain (cond b (Some (without_events shape n)) None)
limits_plain shape n true = refl
limits_plain shape n false = tt

sized_plain : (x y : Option (ℕ × ℕ × ℕ)) → IsPlain (sized x y)
sized_plain None y = tt
sized_plain (Some x) None = tt
sized_plain (Some x) (Some y) =
    limits_plain (record { cells = x.0; packets = x.1; entries = x.2; sections = y.0; fields = y.1; objects = objects_in_schedule; sharing = false; slots = 0; stretch = 1 }) y.2 (is_in_limits (record { cells = x.0; packets = x.1; entries = x.2; sections = y.0; fields = y.1; objects = objects_in_schedule; sharing = false; slots = 0; stretch = 1 }) y.2)

shape_test : (x y : Option (ℕ × ℕ × ℕ)) (b : Bool) → IsPlain (cond b (sized x y) None)
shape_test x y true = sized_plain x y
shape_test x y false = tt

shape_plain : (ws : List (List ℕ)) → IsPlain (shape_line ws)
shape_plain [] = tt
shape_plain (w ∷ []) = tt
shape_plain (w ∷ c ∷ []) = tt
shape_plain (w ∷ c ∷ p ∷ []) = tt
shape_plain (w ∷ c ∷ p ∷ e ∷ ws) = shape_test (all_three (number_word c) (number_word p) (number_word e)) (triple number_word number_word number_word ws) (bytes_eq w (codes "shape"))

body_skips : (line : ℕ) (ws : List (List ℕ)) (ls : List (List (List ℕ))) → reading None (line + 1) ls ≡ schedule_body (line + 1) ls → (skipped : Bool)
    → and_then (cond skipped (Ok None) (after_words None line ws)) (λ next. reading next (line + 1) ls) ≡ cond skipped (schedule_body (line + 1) ls) (of_shape (shape_line ws) (line + 1) ls)
body_skips line ws ls h true = h
body_skips line ws ls h false = begins (shape_line ws) (line + 1) ls (shape_plain ws)

-- from no schedule on, the lines are a body
pub body_is : (line : ℕ) (ls : List (List (List ℕ))) → reading None line ls ≡ schedule_body line ls
body_is line [] = refl
body_is line (ws ∷ ls) = body_skips line ws ls (body_is (line + 1) ls) (is_skipped ws)

abbrev pub worded : List ℕ → List (List (List ℕ))
worded text = map words (lines text)

-- what is left of a text reads, in this state, as the whole text does
abbrev pub GoesOn : List ℕ → List ℕ → ℕ → Option Schedule → Type 0
GoesOn text rest line state = reading state line (worded rest) ≡ schedule_body 2 (worded text)

pub goes_on_at_first : (text : List ℕ) → GoesOn text text 2 None
goes_on_at_first text = body_is 2 (worded text)

-- the reading of what is left, by its first line
by_line : (rest : List ℕ) (line : ℕ) (state : Option Schedule) → 0 < length rest
    → reading state line (worded rest) ≡ and_then (after_schedule_line state line (words (first_line rest))) (λ next. reading next (line + 1) (worded (rest_after rest)))
by_line rest line state some = ap (λ (ls : List (List ℕ)). reading state line (map words ls)) (lines_step rest some)

pub goes_on : (text rest left : List ℕ) (line : ℕ) (state next : Option Schedule) → 0 < length rest → GoesOn text rest line state → after_schedule_line state line (words (first_line rest)) ≡ Ok next
    → left ≡ rest_after rest → GoesOn text left (line + 1) next
goes_on text rest left line state next some h a e =
    ap (λ (t : List ℕ). reading next (line + 1) (worded t)) e ∙ sym (ap (λ (r : Result (Option Schedule) FaultOfSchedule). and_then r (λ n. reading n (line + 1) (worded (rest_after rest)))) a)
    ∙ sym (by_line rest line state some) ∙ h

pub refused_here : (text rest : List ℕ) (line : ℕ) (state : Option Schedule) (told : Option FaultOfSchedule) → 0 < length rest → GoesOn text rest line state
    → is_schedule_refused told (after_schedule_line state line (words (first_line rest))) → is_schedule_refused told (schedule_body 2 (worded text))
refused_here text rest line state None some h a = tt
refused_here text rest line state (Some fault) some h a =
    sym h ∙ by_line rest line state some ∙ ap (λ (r : Result (Option Schedule) FaultOfSchedule). and_then r (λ n. reading n (line + 1) (worded (rest_after rest)))) a

pub at_end : (text rest : List ℕ) (line : ℕ) (state : Option Schedule) → length rest ≡ 0 → GoesOn text rest line state → ended state ≡ schedule_body 2 (worded text)
at_end text rest line state none h = ap (λ (t : List ℕ). reading state line (worded t)) (sym (nil_from_length rest none)) ∙ h

-- the lines that are left are one fewer after each
pub fewer_left : (rest left : List ℕ) (line most : ℕ) → 0 < length rest → left ≡ rest_after rest → line + length (lines rest) ≤ most → line + 1 + length (lines left) ≤ most
fewer_left rest left line most some e h =
    let cut : length (lines rest) ≡ length (first_line rest ∷ lines (rest_after rest)) = ap length (lines_step rest some) in
    let same : length (lines left) ≡ length (lines (rest_after rest)) = ap (λ (t : List ℕ). length (lines t)) e in
    omega arith

pub few_at_first : (text : List ℕ) → length text < 8388608 → 2 + length (lines text) ≤ 8388611
few_at_first text short = omega (arith, few_lines text)

-- the first line is the header, also if there is none
pub by_first : (text : List ℕ) (b : Bool) → b ≡ is_header (words (first_line text)) → of_schedule_lines (worded text) ≡ cond b (schedule_body 2 (worded (rest_after text))) (Err BadHeader)
by_first [] b e = ap (λ (t : Bool). cond t (schedule_body 2 (worded [])) (Err BadHeader)) (sym e)
by_first (x ∷ xs) b e =
    ap (λ (ls : List (List ℕ)). of_schedule_lines (map words ls)) (lines_step (x ∷ xs) (omega arith)) ∙ ap (λ (t : Bool). cond t (schedule_body 2 (worded (rest_after (x ∷ xs)))) (Err BadHeader)) (sym e)

pub header_of : (b : Bool) (slice items : List (Bor (List ℕ))) (found : List (List ℕ)) → b ≡ is_header (map (λ w. w.now) slice) → slice ≡ items → map (λ w. w.now) items ≡ found → b ≡ is_header found
header_of b slice items found e f g = e ∙ ap (λ (ws : List (Bor (List ℕ))). is_header (map (λ w. w.now) ws)) f ∙ ap is_header g
