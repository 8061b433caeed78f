use Rattle.std.proofs.Common.{◌≡◌, ◌∙◌, ℕ, Option, cond, map, ap, arith}
use Rattle.std.specs.Prelude.{sum}
use Rattle.std.proofs.lemmas.List.Sums.{sum-map, count_by-le-length}
use Rattle.rayon.proofs.ToStd.{slice-map}
use Rattle.dump_census.specs.Rounds.{is_unknown}
use Rattle.dump_census.proofs.counting.count_unreached.Goals as goal

abbrev adds : Option ℕ → ℕ
adds o = cond (is_unknown o) 1 0

pub sum-requires-clause-fits : goal.sum-requires-clause-fits
sum-requires-clause-fits g c κs within = λ ys h.
    let slice = ap (λ it. it.slice.now) c.map.ensures.base ∙ c.par_iter.ensures in
    let is : ys ≡ map adds c.args.found.now = slice-map h.0 c.args.found.now (h.1 ∙ slice) adds ys h.2 in
    omega (arith, ap sum is, sum-map adds c.args.found.now, count_by-le-length is_unknown c.args.found.now, c.requires)

pub returns : goal.returns
returns g c =
    let slice = ap (λ it. it.slice.now) c.map.ensures.base ∙ c.par_iter.ensures in
    let done = c.sum.ensures in
    done.2 ∙ ap sum (slice-map done.1.0 c.args.found.now (done.1.1 ∙ slice) adds done.0 done.1.2) ∙ sum-map adds c.args.found.now
