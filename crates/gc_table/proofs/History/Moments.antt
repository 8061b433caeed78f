-- The states to which the events of a heap led, one after another.
use Rattle.std.proofs.Common.{◌≡◌, List, [], ◌∷◌, ◌++◌, None, sym, subst}
use Rattle.mark_core.specs.Steps.{failing_part}
use Rattle.mark_core.specs.declared.kinds.Event.{Event}
use Rattle.gc_table.specs.Rule.{IsState, Leads}
use Rattle.gc_table.specs.TableState.{TableState, state_after}

-- one event more leads on
pub leads-on : (es : List Event) (e : Event) (x y z : TableState) → Leads es x y → IsState y → failing_part y.core e ≡ None → state_after y e ≡ z → Leads (es ++ e ∷ []) x z
leads-on [] e x y z same whole ok is = subst (λ (u : TableState). Leads (e ∷ []) u z) (sym same) (whole, ok, is)
leads-on (f ∷ es) e x y z l whole ok is = (l.0, l.1, leads-on es e (state_after x f) y z l.2 whole ok is)
