use Rattle.std.proofs.Common.{◌≡◌, ◌∙◌, List, ℕ, ap, sym}
use Rattle.heap_dump.specs.Reading.{heap_of_dump}
use Rattle.dump_census.specs.Rounds.{Progress}
use Rattle.dump_census.proofs.Leveling.{cleared, round_made, fresh_within, on_ok}
use Rattle.dump_census.proofs.levels.next_round.Goals as goal

pub reach_from-requires-clause-records : goal.reach_from-requires-clause-records
reach_from-requires-clause-records c =
    let front = c.as_slice.ensures.value ∙ ap (λ v. v.items) c.replace-front.ensures.value ∙ ap (λ (p : Progress). p.fresh) c.search.view_is in
    fresh_within (heap_of_dump c.args.dump.now) c.args.search.now c.args.counts.now.items _ c.requires.leveling front

pub returns-clause-leveling : goal.returns-clause-leveling
returns-clause-leveling c =
    let front = c.as_slice.ensures.value ∙ ap (λ v. v.items) c.replace-front.ensures.value ∙ ap (λ (p : Progress). p.fresh) c.search.view_is in
    let before : record { found = c.search.inside.found.items; fresh = c.replace-front.new.dest.items } ≡ cleared c.args.search.now =
    ap (λ v. record { found = c.search.inside.found.items; fresh = v.items }) c.replace-front.ensures.after ∙ ap (λ (ks : List ℕ). record { found = c.search.inside.found.items; fresh = ks }) c.new.ensures.items ∙ ap cleared c.search.view_is in
    on_ok c.reach_from.result _ _ (λ made. (round_made (heap_of_dump c.args.dump.now) c.args.search.now _ c.reach_from.new.self c.args.counts.now.items c.push.new.self.items c.as_slice.result.now c.len.result c.len-2.result
    c.requires.legal c.requires.leveling c.requires.some before front (c.len.ensures ∙ sym c.as_slice.ensures.len) c.in-Ok.ensures.items (c.len-2.ensures ∙ c.push.new.self.ok.0) made).0) c.reach_from.ensures

pub returns-clause-falls : goal.returns-clause-falls
returns-clause-falls c =
    let front = c.as_slice.ensures.value ∙ ap (λ v. v.items) c.replace-front.ensures.value ∙ ap (λ (p : Progress). p.fresh) c.search.view_is in
    let before : record { found = c.search.inside.found.items; fresh = c.replace-front.new.dest.items } ≡ cleared c.args.search.now =
    ap (λ v. record { found = c.search.inside.found.items; fresh = v.items }) c.replace-front.ensures.after ∙ ap (λ (ks : List ℕ). record { found = c.search.inside.found.items; fresh = ks }) c.new.ensures.items ∙ ap cleared c.search.view_is in
    on_ok c.reach_from.result _ _ (λ made. (round_made (heap_of_dump c.args.dump.now) c.args.search.now _ c.reach_from.new.self c.args.counts.now.items c.push.new.self.items c.as_slice.result.now c.len.result c.len-2.result
    c.requires.legal c.requires.leveling c.requires.some before front (c.len.ensures ∙ sym c.as_slice.ensures.len) c.in-Ok.ensures.items (c.len-2.ensures ∙ c.push.new.self.ok.0) made).1) c.reach_from.ensures
