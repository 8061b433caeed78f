-- The searches of a tracer move only packets.
use Rattle.std.proofs.Common.{ℕ, ◌≡◌, ap, ◌∙◌, List, refl, Bool, true, false, Some, None, Option}
use Rattle.std.specs.Prelude.{◌||◌, ◌==◌, IfSome, IfNone}
use Rattle.std.proofs.lemmas.Bool.{false≢true}
use Rattle.gc_table.specs.declared.view.Entry.{Entry}
use Rattle.packet_pools.specs.declared.held.Held.{Held}
use Rattle.packet_pools.specs.Seeking.{input_pools, only_moves, output_pools}
use Rattle.gc_table.specs.declared.view.View.{View}
use Rattle.gc_table.specs.Log.{events}
use Rattle.gc_table.proofs.History.Log.{events-join}
use Rattle.packet_pools.specs.OnlyTraced.{OnlyTraced}
use Rattle.packet_pools.proofs.Searches.{moves-join, moves-more}

more : (a b c : Bool) → (b || (a || false)) ≡ true → (c || (a || (b || false))) ≡ true
more a b true e = refl
more true b false e = refl
more false true false e = refl
more false false false e = absurd (false≢true e)

pub input-moves : (es : List Entry) → only_moves input_pools es ≡ true → only_moves output_pools es ≡ true
input-moves es m = moves-more input_pools output_pools (λ q e. more (1 == q) (2 == q) (0 == q) e) es m

-- one search after another
pub moves-then : (qs : List ℕ) (u v w : View) → OnlyTraced u v → OnlyTraced v w → only_moves qs (events u v) ≡ true → only_moves qs (events v w) ≡ true → only_moves qs (events u w) ≡ true
moves-then qs u v w a b m n = ap (only_moves qs) (events-join u v w a.log b.log) ∙ moves-join qs (events u v) (events v w) m n

-- what holds whether a packet was found or not
pub either-way : (r : Option Held) (P : Type 0) → IfSome r (λ h. P) → IfNone r P → P
either-way None P some none = none
either-way (Some h) P some none = some

-- there is one
pub sure-some : {X : Type 0} (r : Option X) (P : X → Type 0) (Q : Type 0) → IfSome r P → IfNone r Q → (Q → ⊥) → (x : X) × (r ≡ Some x) × P x
sure-some None P Q some none never = absurd (never none)
sure-some (Some x) P Q some none never = (x, refl, some)
