use Rattle.std.proofs.Common.{ℕ, map, subst, inl, arith}
use Rattle.std.specs.Prelude.{Option, Some, None}
use Rattle.std.specs.String.{string_bytes}
use Rattle.command_words.specs.Words.{Command, Run, Gen, Load, Convert, Schedule, Dump, Undump, Census, Batch}
use Rattle.command_words.proofs.InRange.{load_size}
use Rattle.play_words.specs.Answers.{IsAnswer}
use Rattle.gc_play.specs.Promise.{wanted, WritesSome}
use Rattle.play_words.proofs.Meant.{done_run, full_run}
use Rattle.play_words.proofs.Roomy.{full-few, load-fits}
use Rattle.play_words.proofs.Statuses.{count_stays, text_written, wrote_as, usage_comes, refused_comes, complete}
use Rattle.play_words.proofs.program.play_words.Goals as goal

pub returns-clause-run : goal.returns-clause-run
returns-clause-run g c o asked zero =
    done_run o (g.S.Source.left c.args.source.now) _ _ _
    (wrote_as _ _ _ _ _ _ (wanted (map string_bytes c.args.words.now)) (g.S.Source.left c.args.source.now) c.do_words.result _ c.code.ensures c.do_words.ensures.ends (Some (Run o)) asked) zero

pub returns-clause-run_full : goal.returns-clause-run_full
returns-clause-run_full g c o asked three =
    full_run o (g.S.Source.left c.args.source.now) _ _ _
    (wrote_as _ _ _ _ _ _ (wanted (map string_bytes c.args.words.now)) (g.S.Source.left c.args.source.now) c.do_words.result _ c.code.ensures c.do_words.ensures.ends (Some (Run o)) asked) three

pub returns-clause-run_or_fault : goal.returns-clause-run_or_fault
returns-clause-run_or_fault g c o asked =
    wrote_as _ _ _ _ _ _ (wanted (map string_bytes c.args.words.now)) (g.S.Source.left c.args.source.now) c.do_words.result _ c.code.ensures c.do_words.ensures.ends (Some (Run o)) asked

pub returns-clause-load : goal.returns-clause-load
returns-clause-load g c o number size asked =
    wrote_as _ _ _ _ _ _ (wanted (map string_bytes c.args.words.now)) (g.S.Source.left c.args.source.now) c.do_words.result _ c.code.ensures c.do_words.ensures.ends (Some (Load o number size)) asked

pub returns-clause-generate : goal.returns-clause-generate
returns-clause-generate g c number size asked =
    wrote_as _ _ _ _ _ _ (wanted (map string_bytes c.args.words.now)) (g.S.Source.left c.args.source.now) c.do_words.result _ c.code.ensures c.do_words.ensures.ends (Some (Gen number size)) asked

pub returns-clause-convert : goal.returns-clause-convert
returns-clause-convert g c asked =
    wrote_as _ _ _ _ _ _ (wanted (map string_bytes c.args.words.now)) (g.S.Source.left c.args.source.now) c.do_words.result _ c.code.ensures c.do_words.ensures.ends (Some Convert) asked

pub returns-clause-schedule : goal.returns-clause-schedule
returns-clause-schedule g c asked =
    wrote_as _ _ _ _ _ _ (wanted (map string_bytes c.args.words.now)) (g.S.Source.left c.args.source.now) c.do_words.result _ c.code.ensures c.do_words.ensures.ends (Some Schedule) asked

pub returns-clause-dump : goal.returns-clause-dump
returns-clause-dump g c o asked =
    wrote_as _ _ _ _ _ _ (wanted (map string_bytes c.args.words.now)) (g.S.Source.left c.args.source.now) c.do_words.result _ c.code.ensures c.do_words.ensures.ends (Some (Dump o)) asked

pub returns-clause-undump : goal.returns-clause-undump
returns-clause-undump g c asked =
    wrote_as _ _ _ _ _ _ (wanted (map string_bytes c.args.words.now)) (g.S.Source.left c.args.source.now) c.do_words.result _ c.code.ensures c.do_words.ensures.ends (Some Undump) asked

pub returns-clause-census : goal.returns-clause-census
returns-clause-census g c asked =
    wrote_as _ _ _ _ _ _ (wanted (map string_bytes c.args.words.now)) (g.S.Source.left c.args.source.now) c.do_words.result _ c.code.ensures c.do_words.ensures.ends (Some Census) asked

pub returns-clause-batch : goal.returns-clause-batch
returns-clause-batch g c o runners asked =
    wrote_as _ _ _ _ _ _ (wanted (map string_bytes c.args.words.now)) (g.S.Source.left c.args.source.now) c.do_words.result _ c.code.ensures c.do_words.ensures.ends (Some (Batch o runners)) asked

pub returns-clause-usage : goal.returns-clause-usage
returns-clause-usage g c asked =
    wrote_as _ _ _ _ _ _ (wanted (map string_bytes c.args.words.now)) (g.S.Source.left c.args.source.now) c.do_words.result _ c.code.ensures c.do_words.ensures.ends (None) asked

pub returns-clause-asked : goal.returns-clause-asked
returns-clause-asked g c =
    usage_comes _ _ (g.K.Sink.written c.args.sink.now) (g.K.Sink.written c.do_words.new.sink) _ _ (wanted (map string_bytes c.args.words.now)) (g.S.Source.left c.args.source.now) c.do_words.result _
    c.code.ensures c.do_words.ensures.ends

pub returns-clause-complete : goal.returns-clause-complete
returns-clause-complete g c reads writes =
    complete _ _ (g.K.Sink.written c.args.sink.now) (g.K.Sink.written c.do_words.new.sink) _ _ (wanted (map string_bytes c.args.words.now)) (g.S.Source.left c.args.source.now)
    c.requires.source c.requires.sink reads writes c.do_words.result _ c.code.ensures c.do_words.ensures.ends

pub returns-clause-write_stays : goal.returns-clause-write_stays
returns-clause-write_stays g c =
    count_stays _ _ (g.K.Sink.written c.args.sink.now) (g.K.Sink.written c.do_words.new.sink) _ _ (IsAnswer (wanted (map string_bytes c.args.words.now)) (g.S.Source.left c.args.source.now)) c.do_words.result _
    c.code.ensures c.do_words.ensures.ends

pub returns-clause-roomy : goal.returns-clause-roomy
returns-clause-roomy g c three =
    let some =
    subst (λ (n : ℕ). WritesSome (g.K.Sink.written c.args.sink.now) (g.K.Sink.written c.do_words.new.sink) (IsAnswer (wanted (map string_bytes c.args.words.now)) (g.S.Source.left c.args.source.now) n)) three
    (text_written _ _ _ _ _ _ (IsAnswer (wanted (map string_bytes c.args.words.now)) (g.S.Source.left c.args.source.now)) c.do_words.result _ c.code.ensures c.do_words.ensures.ends (inl (omega (arith, three)))) in
    full-few (wanted (map string_bytes c.args.words.now)) (g.S.Source.left c.args.source.now) some.0 some.1

pub returns-clause-load_fits : goal.returns-clause-load_fits
returns-clause-load_fits g c o number size asked room three =
    let some =
    subst (λ (n : ℕ). WritesSome (g.K.Sink.written c.args.sink.now) (g.K.Sink.written c.do_words.new.sink) (IsAnswer (wanted (map string_bytes c.args.words.now)) (g.S.Source.left c.args.source.now) n)) three
    (text_written _ _ _ _ _ _ (IsAnswer (wanted (map string_bytes c.args.words.now)) (g.S.Source.left c.args.source.now)) c.do_words.result _ c.code.ensures c.do_words.ensures.ends (inl (omega (arith, three)))) in
    load-fits o number size (g.S.Source.left c.args.source.now) some.0 (load_size (map string_bytes c.args.words.now) o number size asked) room
    (subst (λ (a : Option Command). IsAnswer a (g.S.Source.left c.args.source.now) 3 some.0) asked some.1)

pub returns-clause-refuses : goal.returns-clause-refuses
returns-clause-refuses g c =
    refused_comes _ _ (g.K.Sink.written c.args.sink.now) (g.K.Sink.written c.do_words.new.sink) _ _ (wanted (map string_bytes c.args.words.now)) (g.S.Source.left c.args.source.now) c.do_words.result _
    c.code.ensures c.do_words.ensures.ends
