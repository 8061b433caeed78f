use Rattle.std.proofs.Common.{ℕ, ◌≡◌, ◌-◌, ◌<◌, List, sym, ap, ◌∙◌, subst, Bool, true, false, not, ◌||◌, ◌&&◌, eqb, Option, Some}
use Rattle.std.specs.Prelude.{nat_lt}
use Rattle.std.proofs.lemmas.Bool.{and_parts, ltb-true, eqb-true, true≢false}
use Rattle.std.proofs.lemmas.Option.{same_Some}
use Rattle.plain_heap.specs.Paths.{Name}
use Rattle.mark_core.specs.Layout.{words_of}
use Rattle.mark_core.specs.Seats.{may_mutate, is_the}
use Rattle.mark_core.specs.Steps.MutatorSteps.{in_variables, may_change, seat_variable as word_in}
use Rattle.mark_core.specs.Rules.HeapRules.{section_of_cell}
use Rattle.mark_core.specs.Steps.{Core, run_of, start_core}
use Rattle.mark_core.proofs.Known.{Acted, acts}
use Rattle.mark_core.proofs.CoreKept.{runs_sound}
use Rattle.mark_core.proofs.Blocks.BlocksStopped.{Taken}
use Rattle.mark_core.specs.declared.kinds.Step.{Step}
use Rattle.mark_core.specs.declared.kinds.Step.TheVariants.{StoreField, StoreValue, ExchangeField, ExchangeValue}
use Rattle.mark_core.specs.declared.seat.SeatState.{SeatState}
use Rattle.gc_table.specs.RunWorlds.{World, variable_of, name_at, own_section, start_world}
use Rattle.gc_table.specs.Agreement.{AgreesWith}
use Rattle.gc_table.specs.AgreementLaws.{StoresIn, UnsharedStores, world_run}
use Rattle.gc_table.proofs.Kept.{runs_agree}
use Rattle.gc_table.proofs.Frame.{Mutates, mutates}
use Rattle.gc_table.proofs.Stores.{Refers, refers}
use Rattle.gc_table.proofs.run_laws.unshared_stores.Goals as goal

-- If a heap isn't shared, a seat stores in no other section's objects.
-- the object to which a variable refers whose object may change
own_name : (c : Core) (i : ℕ) (s : SeatState) (step : Step) (v : ℕ) (world : World) (name : Name) → Taken c i s step → AgreesWith c world → Mutates c i s → v < 32 → may_change c.shape (words_of c.shape c.words).identities s v ≡ true → c.shape.sharing ≡ false
    → variable_of world (own_section s) v ≡ Some name → name.section ≡ own_section s
own_name c i s step v world name k a mu hv e unshared is =
    let ids : List ℕ = (words_of c.shape c.words).identities in
    let y : ℕ = word_in s v - 1 in
    let there : Refers c i s v world y = refers c i s step v world k a mu hv e in
    let same : name ≡ name_at ids y = same_Some name (name_at ids y) (sym is ∙ ap (λ (j : ℕ). variable_of world j v) mu.own ∙ there.variable) in
    let either : (c.shape.sharing || is_the s.section (section_of_cell ids y)) ≡ true = (and_parts (not (eqb (word_in s v) 0)) (c.shape.sharing || is_the s.section (section_of_cell ids y)) e).1 in
    let mine : is_the s.section (section_of_cell ids y) ≡ true = subst (λ (b : Bool). (b || is_the s.section (section_of_cell ids y)) ≡ true) unshared either in
    let own : i ≡ section_of_cell ids y = eqb-true i (section_of_cell ids y) (subst (λ (o : Option ℕ). is_the o (section_of_cell ids y) ≡ true) mu.section mine) in
    ap (λ (n : Name). n.section) same ∙ (sym own ∙ sym mu.own)

unshared_at : (c : Core) (i : ℕ) (s : SeatState) (step : Step) (world : World) (name : Name) → Taken c i s step → AgreesWith c world → c.shape.sharing ≡ false → StoresIn world (own_section s) step name → name.section ≡ own_section s
unshared_at c i s (StoreField v j o) world name k a unshared stores =
    let b = and_parts (nat_lt v 32 && nat_lt j c.shape.fields && in_variables o) (may_mutate s) k.ok.0 in
    let d = and_parts (nat_lt v 32 && nat_lt j c.shape.fields) (in_variables o) b.0 in
    own_name c i s (StoreField v j o) v world name k a (mutates c i s (StoreField v j o) k b.1) (ltb-true v 32 (and_parts (nat_lt v 32) (nat_lt j c.shape.fields) d.0).0) k.ok.1.0 unshared stores
unshared_at c i s (StoreValue v n) world name k a unshared stores =
    let b = and_parts (nat_lt v 32) (may_mutate s) k.ok.0 in own_name c i s (StoreValue v n) v world name k a (mutates c i s (StoreValue v n) k b.1) (ltb-true v 32 b.0) k.ok.1.0 unshared stores
unshared_at c i s (ExchangeField v j x o) world name k a unshared stores = absurd (true≢false (sym (and_parts (not (eqb (word_in s v) 0)) c.shape.sharing k.ok.1.0).1 ∙ unshared))
unshared_at c i s (ExchangeValue v m n) world name k a unshared stores = absurd (true≢false (sym (and_parts (not (eqb (word_in s v) 0)) c.shape.sharing k.ok.1.0).1 ∙ unshared))
unshared_at c i s step world name k a unshared stores = absurd stores

unshared-stores : UnsharedStores
unshared-stores sh n es z some few fit e s f g unshared name stores =
    let c : Core = run_of es (start_core sh n) in
    let r : (t : SeatState) × Acted c e t = acts c e (runs_sound sh n es z some few fit) f in
    let same : r.0 ≡ s = same_Some r.0 s (sym r.1.seat ∙ g) in
    let taken : Taken c e.seat s e.step = subst (λ (t : SeatState). Taken c e.seat t e.step) same (record { core = runs_sound sh n es z some few fit; got = r.1.seat; live = r.1.live; ok = r.1.ok }) in
    unshared_at c e.seat s e.step (world_run es (start_core sh n) (start_world sh)) name taken (runs_agree sh n es z some few fit) unshared stores

pub returns : goal.returns
returns c = unshared-stores
