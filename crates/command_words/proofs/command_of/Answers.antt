use Rattle.std.proofs.Common.{◌≡◌, refl, true, ◌∙◌, sym, ap, subst, map, List, ℕ, Result, Ok, Err, IfOk, option_map, string_bytes, false, true≢false, is_some}
use Rattle.clap.specs.Simple.{is_simple, App, HasMatchesOf}
use Rattle.clap.specs.Faults.{is_simple_and_free, fault_of}
use Rattle.command_words.specs.Parsing.{asked_program}
use Rattle.clap.specs.Walk.{rows_of}
use Rattle.clap.specs.Matches.{found_of, has_subcommand}
use Rattle.clap.specs.Kinds.{FailsBy, HasKind}
use Rattle.clap.specs.declared.error.Error.{Error}
use Rattle.clap.specs.declared.error.kind.ErrorKind.TheVariants.{OutOfMemory}
use Rattle.clap.specs.declared.parser.matches.ArgMatches.{ArgMatches}
use Rattle.command_words.proofs.CommandTable.{asked_is, none_after_fault, none_with_dashes, some_entered}
use Rattle.command_words.proofs.InRange.{all_in_range}
use Rattle.command_words.proofs.command_of.Goals as goal

-- The program as it is built is simple, and a parse reads it as its table says.
program_is_simple : is_simple_and_free asked_program ≡ true
program_is_simple = refl

program_has_matches : is_simple asked_program ≡ true
program_has_matches = refl

-- what the parse says, of the program as it is asked for
fails_as : (a : App) (words : List (List ℕ)) (r s : Result ArgMatches Error) → a ≡ asked_program → r ≡ s → (is_simple_and_free a ≡ true → FailsBy (fault_of a words) r)
    → FailsBy (fault_of asked_program words) s
fails_as a words r s app is kinds =
    subst (λ x. FailsBy (fault_of asked_program words) x) is (subst (λ p. FailsBy (fault_of p words) r) app (kinds (ap is_simple_and_free app ∙ program_is_simple)))

matches_as : (a : App) (words : List (List ℕ)) (r : Result ArgMatches Error) (m : ArgMatches) → a ≡ asked_program → r ≡ Ok m → IfOk r (HasMatchesOf a words) → HasMatchesOf asked_program words m
matches_as a words r m app is matches = subst (λ p. HasMatchesOf p words m) app (subst (λ x. IfOk x (HasMatchesOf a words)) is matches)

pub returns-then-not-has_no_dashes-clause-asked : goal.returns-then-not-has_no_dashes-clause-asked
returns-then-not-has_no_dashes-clause-asked c = none_with_dashes (map string_bytes c.args.words.now) (sym c.has_no_dashes.ensures ∙ c.if-not-has_no_dashes.true)

pub returns-in-Err-2-clause-asked : goal.returns-in-Err-2-clause-asked
returns-in-Err-2-clause-asked c =
    let words = map string_bytes c.args.words.now in
    let e = c.in-Err.error in
    let has : HasKind (fault_of asked_program words) e = fails_as _ words c.try_get_matches_from.result (Err e) c.in_ok-program.ensures c.in-Err.is c.try_get_matches_from.ensures.kinds in
    none_after_fault words e (sym c.has_no_dashes.ensures ∙ c.if-not-has_no_dashes.false) has
    (λ memory.
    let kind_is : c.kind.result ≡ OutOfMemory = c.kind.ensures ∙ memory in
    let same : c.eq.result ≡ true = rw kind_is at c.eq.ensures in
    absurd (true≢false (sym same ∙ c.if-eq.false)))

entered : goal.returns-in-Some-clause-asked
entered c =
    let words = map string_bytes c.args.words.now in
    let m = c.in-Ok.matches in
    let none = fails_as _ words c.try_get_matches_from.result (Ok m) c.in_ok-program.ensures c.in-Ok.is c.try_get_matches_from.ensures.kinds in
    let matches = matches_as _ words c.try_get_matches_from.result m c.in_ok-program.ensures c.in-Ok.is c.try_get_matches_from.ensures.matches in
    asked_is words m c.in-Some.name.now (rows_of (found_of c.in-Some.own.now)) _ (sym c.has_no_dashes.ensures ∙ c.if-not-has_no_dashes.false) none (matches program_has_matches).1
    (ap (option_map (λ p. p.0.now)) (sym c.in-Some.is) ∙ c.subcommand.ensures.name)
    (ap (option_map (λ p. rows_of (found_of p.1.now))) (sym c.in-Some.is) ∙ c.subcommand.ensures.rows)
    c.by_name.ensures

pub returns-in-Some-clause-asked : goal.returns-in-Some-clause-asked
returns-in-Some-clause-asked c = entered c

pub returns-in-Some-clause-range : goal.returns-in-Some-clause-range
returns-in-Some-clause-range c = all_in_range (map string_bytes c.args.words.now) c.by_name.result (entered c)

pub returns-clause-asked : goal.returns-clause-asked
returns-clause-asked c =
    let words = map string_bytes c.args.words.now in
    let m = c.in-Ok.matches in
    let none = fails_as _ words c.try_get_matches_from.result (Ok m) c.in_ok-program.ensures c.in-Ok.is c.try_get_matches_from.ensures.kinds in
    let matches = matches_as _ words c.try_get_matches_from.result m c.in_ok-program.ensures c.in-Ok.is c.try_get_matches_from.ensures.matches in
    let entered : has_subcommand m ≡ true = some_entered words m (sym c.has_no_dashes.ensures ∙ c.if-not-has_no_dashes.false) none (matches program_has_matches).1 in
    let missed : has_subcommand m ≡ false = sym (ap is_some (sym c.in-None.is) ∙ c.subcommand.ensures.variant) in
    absurd (true≢false (sym entered ∙ missed))
