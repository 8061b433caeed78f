use Rattle.std.proofs.Common.{◌<◌, ℕ, List, [], ap, sym, ◌∙◌, refl, subst, take, drop, Bool, false, nat_eq}
use Rattle.std.specs.Prelude.{slice_index, slice_index_or, ◌+◌}
use Rattle.gc_script.specs.FirstLine.{IsCut}
use Rattle.gc_script.proofs.FirstLine.{ends_ascii, is_cut_at, is_cut_whole}
use Rattle.gc_script.proofs.cutting.cut.Goals as goal

pub cut_at-requires-clause-ascii : goal.cut_at-requires-clause-ascii
cut_at-requires-clause-ascii c =
    let end : ℕ = c.piece_end-end.result in
    subst (λ (t : List ℕ). slice_index t end < 128) c.as_bytes-bytes.ensures.value (ends_ascii c.as_bytes-bytes.result.now end c.piece_end-end.ensures.end c.if-end-bytes.true)

pub returns-then-end-bytes-clause-cut : goal.returns-then-end-bytes-clause-cut
returns-then-end-bytes-clause-cut c =
    let bytes : List ℕ = c.as_bytes-bytes.result.now in
    let end : ℕ = c.piece_end-end.result in
    let goes_on : Bool = nat_eq (slice_index_or bytes end 0) 32 in
    let same = c.as_bytes-bytes.ensures.value in
    let before = c.cut_at.ensures.before ∙ ap (take end) (sym same) in
    let after = c.cut_at.ensures.after ∙ ap (drop (end + 1)) (sym same) in
    subst (λ (t : List ℕ). IsCut c.cut_at.result.0.now goes_on c.cut_at.result.1.now t) same
    (is_cut_at bytes c.cut_at.result.0.now c.cut_at.result.1.now end goes_on c.piece_end-end.ensures.end c.if-end-bytes.true before after refl)

pub returns-clause-cut : goal.returns-clause-cut
returns-clause-cut c =
    subst (λ (t : List ℕ). IsCut t false [] t) c.as_bytes-bytes.ensures.value (is_cut_whole c.as_bytes-bytes.result.now c.piece_end-end.result c.piece_end-end.ensures.end c.if-end-bytes.false)
