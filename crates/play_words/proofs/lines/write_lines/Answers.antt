use Rattle.std.proofs.Common.{◌≡◌, ◌∙◌, ℕ, List, ◌++◌, ap, ap₂, sym, subst, take-append-drop}
use Rattle.std.specs.Io.KnownBytes.{Appends}
use Rattle.play_report.proofs.Turns.{piece_turn, more_stopped}
use Rattle.play_words.proofs.lines.write_lines.Goals as goal

pub loop-rest-preserved : goal.loop-rest-preserved
loop-rest-preserved g c =
    let line = subst (λ (l : List ℕ). Appends (g.K.Sink.written c.loop-rest.sink) (g.K.Sink.written c.write_all.new.sink) l) c.split_at.ensures.front c.in-Ok.ensures.0 in
    (piece_turn _ _ _ _ c.loop-rest.rest.now _ c.first_line.result c.loop-rest.invariant.0 line c.split_at.ensures.back, c.in-Ok.ensures.1 ∙ c.loop-rest.invariant.1)

pub returns-in-Err : goal.returns-in-Err
returns-in-Err g c =
    let front : List ℕ = c.loop-rest.invariant.0.0 in
    let parted : c.loop-rest.rest.now ≡ c.split_at.result.0.now ++ c.split_at.result.1.now =
    sym (ap₂ (λ (x y : List ℕ). x ++ y) c.split_at.ensures.front c.split_at.ensures.back ∙ take-append-drop c.first_line.result c.loop-rest.rest.now) in
    more_stopped _ _ _ _ _ _ front c.split_at.result.0.now c.split_at.result.1.now _ (c.loop-rest.invariant.0.1 ∙ ap (λ (l : List ℕ). front ++ l) parted) (c.loop-rest.invariant.0.2, c.loop-rest.invariant.1)
    c.in-Err.ensures
