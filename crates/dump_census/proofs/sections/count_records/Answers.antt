use Rattle.std.proofs.Common.{◌≡◌, ◌∙◌, ℕ, cond, map, ap, arith}
use Rattle.std.specs.Prelude.{sum, sum_by, nat_eq}
use Rattle.std.proofs.lemmas.List.Sums.{sum-map}
use Rattle.rayon.proofs.ToStd.{slice-map}
use Rattle.dump_census.specs.declared.entries.Entry.{Entry}
use Rattle.dump_census.proofs.Adding.{ones_small}
use Rattle.dump_census.proofs.sections.count_records.Goals as goal

-- what an entry adds, for the section as the closure holds it
abbrev adds : ℕ → Entry → ℕ
adds w e = cond (nat_eq e.section w) 1 0

pub sum-requires-clause-fits : goal.sum-requires-clause-fits
sum-requires-clause-fits g c κs within = λ ys h.
    let slice = ap (λ it. it.slice.now) c.map.ensures.base ∙ c.par_iter.ensures in
    let w = c.map.result.f.0.now in
    let is : ys ≡ map (adds w) c.args.entries.now = slice-map h.0 c.args.entries.now (h.1 ∙ slice) (adds w) ys h.2 in
    omega (arith, ap sum is, ones_small w c.args.entries.now c.requires)

pub returns : goal.returns
returns g c =
    let slice = ap (λ it. it.slice.now) c.map.ensures.base ∙ c.par_iter.ensures in
    let w = c.map.result.f.0.now in
    let done = c.sum.ensures in
    done.2 ∙ ap sum (slice-map done.1.0 c.args.entries.now (done.1.1 ∙ slice) (adds w) done.0 done.1.2) ∙ sum-map (adds w) c.args.entries.now
    ∙ ap (λ s. sum_by (adds s) c.args.entries.now) (ap (λ f. f.0.now) c.map.ensures.f)
