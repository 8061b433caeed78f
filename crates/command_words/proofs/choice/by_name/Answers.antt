use Rattle.std.proofs.Common.{◌∙◌, ◌&&◌, not, sym, ap, is_some, true, true≢false}
use Rattle.command_words.specs.Parsing.{forms}
use Rattle.command_words.proofs.CommandTable.{unknown_form}
use Rattle.command_words.proofs.choice.by_name.Goals as goal

pub returns-else-eq-9 : goal.returns-else-eq-9
returns-else-eq-9 c = λ all asked.
    let run = sym c.eq.ensures ∙ c.if-eq.false in
    let generate = sym c.eq-else-eq.ensures ∙ c.if-eq-2.false in
    let load = sym c.eq-else-eq-2.ensures ∙ c.if-eq-3.false in
    let convert = sym c.eq-else-eq-3.ensures ∙ c.if-eq-4.false in
    let schedule = sym c.eq-else-eq-4.ensures ∙ c.if-eq-5.false in
    let dump = sym c.eq-else-eq-5.ensures ∙ c.if-eq-6.false in
    let undump = sym c.eq-else-eq-6.ensures ∙ c.if-eq-7.false in
    let census = sym c.eq-else-eq-7.ensures ∙ c.if-eq-8.false in
    let batch = sym c.eq-else-eq-8.ensures ∙ c.if-eq-9.false in
    let none = unknown_form forms c.args.name.now (λ i. not (run i) && (not (generate i) && (not (load i) && (not (convert i) && (not (schedule i) && (not (dump i) && (not (undump i) && (not (census i) && (not (batch i) && true))))))))) in
    absurd (true≢false (ap is_some (sym asked.known ∙ none)))
