-- The loops over the lines and the warehouses, by what is still to be written.
use Rattle.std.proofs.Common.{◌≡◌, ℕ, ◌+◌, ◌-◌, ◌%◌, ◌<◌, suc, List, ◌++◌, ap, sym, ◌∙◌, append_assoc, arith, codes}
use Rattle.load_gen.specs.Generated.{generated_line, state_after_line, lines_text, last_state, generated_warehouses}

one_fewer : (n i : ℕ) → i < n → n - i ≡ suc (n - (i + 1))
one_fewer n i h = omega arith

lines_more : (size i state : ℕ) → i < size → lines_text (size - i) i state ≡ generated_line (i % 64) (state_after_line (i % 64) state) ++ codes "\n" ++ lines_text (size - (i + 1)) (i + 1) (state_after_line (i % 64) state)
lines_more size i state h = ap (λ (n : ℕ). lines_text n i state) (one_fewer size i h)

last_more : (size i state : ℕ) → i < size → last_state (size - i) i state ≡ last_state (size - (i + 1)) (i + 1) (state_after_line (i % 64) state)
last_more size i state h = ap (λ (n : ℕ). last_state n i state) (one_fewer size i h)

warehouses_more : (n i size state : ℕ) → i < n → generated_warehouses (n - i) size state ≡ codes "warehouse\n" ++ lines_text size 0 state ++ generated_warehouses (n - (i + 1)) size (last_state size 0 state)
warehouses_more n i size state h = ap (λ (k : ℕ). generated_warehouses k size state) (one_fewer n i h)

-- the bytes so far, and those still to be written, are the whole
pub record AreLines (written whole : List ℕ) (size i from last : ℕ) : Type 0 where
  pub text : written ++ lines_text (size - i) i from ≡ whole
  pub state : last_state (size - i) i from ≡ last

pub next_lines : (written next whole : List ℕ) (size i from after last : ℕ) → i < size → after ≡ state_after_line (i % 64) from → next ≡ written ++ generated_line (i % 64) (state_after_line (i % 64) from) ++ codes "\n"
    → AreLines written whole size i from last → AreLines next whole size (i + 1) after last
next_lines written next whole size i from after last h a e l =
    let more : written ++ (generated_line (i % 64) (state_after_line (i % 64) from) ++ codes "\n" ++ lines_text (size - (i + 1)) (i + 1) (state_after_line (i % 64) from)) ≡ whole =
    sym (ap (λ (rest : List ℕ). written ++ rest) (lines_more size i from h)) ∙ l.text in
    record {
      text = ap (λ (s : ℕ). next ++ lines_text (size - (i + 1)) (i + 1) s) a ∙ ap (λ (t : List ℕ). t ++ lines_text (size - (i + 1)) (i + 1) (state_after_line (i % 64) from)) e ∙ simp append_assoc (simp append_assoc at more);
      state = ap (λ (s : ℕ). last_state (size - (i + 1)) (i + 1) s) a ∙ sym (last_more size i from h) ∙ l.state;
    }

pub next_warehouse : (text next whole : List ℕ) (n i size state after : ℕ) → i < n → after ≡ last_state size 0 state → next ≡ text ++ codes "warehouse\n" ++ lines_text size 0 state
    → text ++ generated_warehouses (n - i) size state ≡ whole → next ++ generated_warehouses (n - (i + 1)) size after ≡ whole
next_warehouse text next whole n i size state after h a e l =
    let more : text ++ (codes "warehouse\n" ++ lines_text size 0 state ++ generated_warehouses (n - (i + 1)) size (last_state size 0 state)) ≡ whole =
    sym (ap (λ (rest : List ℕ). text ++ rest) (warehouses_more n i size state h)) ∙ l in
    ap (λ (t : List ℕ). t ++ generated_warehouses (n - (i + 1)) size after) e
    ∙ ap (λ (s : ℕ). text ++ codes "warehouse\n" ++ lines_text size 0 state ++ generated_warehouses (n - (i + 1)) size s) a
    ∙ simp append_assoc (simp append_assoc at more)
