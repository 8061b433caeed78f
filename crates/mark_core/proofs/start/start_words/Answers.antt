use Rattle.std.proofs.Common.{ℕ, ◌≡◌, ◌-◌, List, ◌++◌, replicate, take, vec_len, arith, refl, ap, ◌∙◌}
use Rattle.mark_core.proofs.Opening.{put-together}
use Rattle.mark_core.proofs.start.start_words.Goals as goal

pub returns : goal.returns
returns c =
    let w1 = c.extend_from_slice.new.self.items in
    let w2 = c.resize.new.self.items in
    let w3 = c.extend_from_slice-2.new.self.items in
    let p : ℕ = c.pools.result in
    let t : ℕ = c.total_words-total.result in
    let eleven : vec_len c.extend_from_slice.new.self ≡ 11 = omega (arith, c.in_ok-extend_from_slice.ensures.len, c.in_ok-words.ensures.len) in
    put-together
    c.args.shape.now
    w1
    w2
    w3
    c.resize-2.new.self.items
    c.in_ok-full_pool.field-0.items
    p
    t
    (rw (c.in_ok-extend_from_slice.ensures.items, c.in_ok-words.ensures.items, c.from-empty.ensures, c.from.ensures) refl)
    c.pools.ensures
    (c.in_ok-resize.ensures.items ∙ ap (λ (n : ℕ). take p w1 ++ replicate (p - n) 0) eleven)
    c.in_ok-full_pool.ensures
    (c.in_ok-extend_from_slice-2.ensures.items ∙ ap (λ (xs : List ℕ). w2 ++ xs) c.as_slice.ensures.value)
    c.total_words-total.ensures
    (c.in_ok-resize-2.ensures.items ∙ ap (λ (n : ℕ). take t w3 ++ replicate (t - n) 0) c.extend_from_slice-2.new.self.ok.0)
