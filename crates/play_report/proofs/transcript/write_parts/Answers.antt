use Rattle.std.proofs.Common.{◌≡◌, ◌≤◌, ◌-◌, List, [], ◌∷◌, length, take, drop, map, ap, sym, ◌∙◌, arith}
use Rattle.std.proofs.lemmas.List.{take_all}
use Rattle.play_report.specs.declared.report.Part.{Part}
use Rattle.play_report.specs.Report.{outcome_of}
use Rattle.play_report.specs.Text.{numbered_texts, outcome_text, warehouses_text}
use Rattle.play_report.proofs.Turns.{numbered-map, same_writes}
use Rattle.play_report.proofs.transcript.write_parts.Goals as goal

-- the texts of the parts after section 0
warehouses : (ps : List Part) → 1 ≤ length ps → numbered_texts (λ w (p : Part). outcome_text w (outcome_of p)) 1 (take (length ps - 1) (drop 1 ps)) ≡ warehouses_text (map outcome_of ps)
warehouses [] h = absurd (omega arith)
warehouses (p ∷ ps) h =
    ap (numbered_texts (λ w (q : Part). outcome_text w (outcome_of q)) 1) (take_all (length (p ∷ ps) - 1) ps (omega arith))
    ∙ sym (numbered-map outcome_text outcome_of 1 ps)

pub returns-in-len1-up : goal.returns-in-len1-up
returns-in-len1-up g c = same_writes _ _ _ _ _ _ _ (warehouses c.args.parts.now c.in-len1-up.len_at_least) c.write_warehouses.ensures
