use Rattle.std.proofs.Common.{◌≡◌, sym, ap, refl, ◌∙◌, ◌==◌, length, arith}
use Rattle.std.specs.Prelude.{vec_len}
use Rattle.gc_script.specs.Content.{kept_shown}
use Rattle.gc_script.proofs.Sectioning.{settle_nothing}
use Rattle.gc_script.proofs.kept.Kept.settle.Goals as goal

pub returns-then-is_empty : goal.returns-then-is_empty
returns-then-is_empty c =
    let long : length c.args.self.now.body.items ≡ vec_len c.args.self.now.body = omega (arith, c.args.self.now.body.ok.0) in
    let none = ap (λ v. vec_len v == 0) (sym c.replace-body.ensures.value) in
    let empty = ap (λ v. v.items) c.replace-body.ensures.after ∙ c.new.ensures.items in
    settle_nothing c.args.times (kept_shown c.args.self.now) c.args.self.now.body.items c.replace-body.new.dest.items refl (ap (λ n. n == 0) long ∙ none ∙ sym c.is_empty.ensures ∙ c.if-is_empty.true) empty
