use Rattle.std.proofs.Common.{◌≡◌, ◌++◌, List, [], ℕ, append_assoc}
use Rattle.play_report.proofs.Turns.{same_writes}
use Rattle.schedule_check.specs.Text.{refused_text}
use Rattle.schedule_check.proofs.writer.write_refused.Goals as goal

whole : (l0 l1 l2 l3 l4 l5 l6 l7 a x b y c z d : List ℕ) → l0 ≡ [] → l1 ≡ l0 ++ a → l2 ≡ l1 ++ x → l3 ≡ l2 ++ b → l4 ≡ l3 ++ y → l5 ≡ l4 ++ c → l6 ≡ l5 ++ z → l7 ≡ l6 ++ d
    → l7 ≡ a ++ x ++ b ++ y ++ c ++ z ++ d
whole l0 l1 l2 l3 l4 l5 l6 l7 a x b y c z d e0 e1 e2 e3 e4 e5 e6 e7 = rw (e7, e6, e5, e4, e3, e2, e1, e0) (simp append_assoc)

pub returns : goal.returns
unfolding refused_text
returns g c =
    same_writes _ _ _ _ _ _ _
    (whole _ _ _ _ _ _ _ _ _ _ _ _ _ _ _ c.new-line.ensures c.push.ensures c.push_number.ensures.number c.push-2.ensures c.push_number-2.ensures.number c.push-3.ensures c.push_number-3.ensures.number c.push-4.ensures)
    c.write.ensures
