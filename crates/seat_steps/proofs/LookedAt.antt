-- A pass over cards that saw each clean, up to the look at the count of packets.
use Rattle.std.proofs.Common.{ℕ, ◌≡◌, ◌==◌, ◌<◌, ◌+◌, ◌-◌, ◌++◌, map, arith, sym, ap, ◌∙◌, subst, Bool, true, false}
use Rattle.std.specs.List.{range_with_len}
use Rattle.std.proofs.lemmas.Bool.{eq-eqb, eqb-true, false≢true}
use Rattle.mark_core.specs.Layout.{card_count}
use Rattle.mark_core.specs.Numbers.{empty_offset}
use Rattle.mark_core.specs.declared.kinds.Shape.{Shape}
use Rattle.mark_core.specs.declared.kinds.Step.TheVariants.{ReadCard}
use Rattle.gc_table.specs.Log.{event, events}
use Rattle.gc_table.specs.Running.{Ran}
use Rattle.gc_table.specs.declared.view.View.{View}
use Rattle.gc_table.proofs.Running.{ran-events, ran-shape}
use Rattle.card_clean.specs.Looking.{looks_clean}
use Rattle.gc_cycle.specs.Pieces.{LooksAt, ReadsCount}
use Rattle.gc_cycle.specs.declared.card_steps.Look.TheVariants as looks
use Rattle.seat_steps.specs.Passes.{FindsPacketLeft, LooksToEnd}
use Rattle.seat_steps.proofs.Amounts.{all-left}

to_end : (from all n : ℕ) → n ≡ all - from → looks_clean from (from + n) ≡ looks_clean from all
to_end from all n e = let same : from + n - from ≡ all - from = omega (arith, e) in ap (λ k. map (λ card. event (ReadCard card) 0) (range_with_len from k)) same

module _ (all : Bool) (sh : Shape) (from n most : ℕ) (u v w : View) (shape : u.shape ≡ sh) (r : Ran u v) (q : Ran v w) (l : LooksAt sh from most (looks.Clean n) (events u v)) (fewer : n ≡ most → ⊥) (c : ReadsCount all v w) where
  pub cards-left : card_count sh - from < most
  cards-left = (all-left n most (card_count sh - from) l.0 fewer).0

  looks_to_end : LooksToEnd from c.0 u w
  looks_to_end =
      let left = (all-left n most (card_count sh - from) l.0 fewer).1 in
      let clean = l.1 ∙ (to_end from (card_count sh) n left ∙ ap (λ (x : Shape). looks_clean from (card_count x)) (sym shape)) in
      ran-events u v w r q ∙ (λ i. clean i ++ c.1 i)

  told : all ≡ (c.0 == empty_offset + u.shape.packets)
  told = c.2 ∙ ap (λ (x : Shape). c.0 == empty_offset + x.packets) (ran-shape u v r)

  pub packet-left : all ≡ false → FindsPacketLeft from u w
  packet-left is = (c.0, λ e. absurd (false≢true (sym is ∙ (told ∙ eq-eqb c.0 (empty_offset + u.shape.packets) e))), looks_to_end)

  pub all-empty : all ≡ true → LooksToEnd from (empty_offset + u.shape.packets) u w
  all-empty is = subst (λ k. LooksToEnd from k u w) (eqb-true c.0 (empty_offset + u.shape.packets) (sym told ∙ is)) looks_to_end
