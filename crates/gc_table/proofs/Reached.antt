-- Each object to which a path leads has a reachable cell with its words.
use Rattle.mark_core.proofs.References.ReferencesNow.{the-roots}
use Rattle.mark_core.proofs.Lagging.{now-length}
use Rattle.mark_core.proofs.Writing.Ranges.{in-row}
use Rattle.std.proofs.Common.{ℕ, ◌≡◌, ◌+◌, ◌*◌, ◌<◌, zero, suc, List, [], ◌∷◌, length, arith, refl, sym, ap, ◌∙◌, true, Some, ⊎_elim, ◌-◌, ◌≤◌}
use Rattle.std.specs.Prelude.{slice_index}
use Rattle.std.proofs.lemmas.Bool.{cases_lt}
use Rattle.std.proofs.lemmas.Option.{same_Some}
use Rattle.plain_heap.specs.Paths.{Name}
use Rattle.mark_core.specs.Layout.{Words, words_of, root_count}
use Rattle.mark_core.specs.Cells.{field}
use Rattle.mark_core.specs.Closed.{IsReachableIn}
use Rattle.mark_core.specs.Steps.{Core}
use Rattle.mark_core.specs.Laws.{IsCore}
use Rattle.mark_core.proofs.References.ReferencesRoots.{Used}
use Rattle.mark_core.proofs.HeldBlock.{roots-length}
use Rattle.mark_core.proofs.Exacts.ExactsDrain.{reach-root, reach-field}
use Rattle.gc_table.specs.RunWorlds.{World, WorldObject, object_of, reference_of, name_at, referred, variable_of}
use Rattle.gc_table.specs.Agreement.{HoldsObject, AgreesWith}
use Rattle.gc_table.specs.AgreementLaws.{IsWorldPath, IsCellFor}
use Rattle.gc_table.proofs.Reading.{none-some}
use Rattle.gc_table.proofs.Frame.{used-exists}
use Rattle.gc_table.proofs.Stands.StandsStores.{reachable-used}

-- a word that refers to an object names a cell with its name
word_names : (ids : List ℕ) (word : ℕ) (name : Name) → referred ids word ≡ Some name → (x : ℕ) × (word ≡ suc x) × (name_at ids x ≡ name)
word_names ids zero name e = absurd (none-some name e)
word_names ids (suc x) name e = (x, refl, same_Some (name_at ids x) name e)

-- a reachable cell has its object
cell_for : (c : Core) (world : World) (name : Name) (x : ℕ) → IsCore c → AgreesWith c world → IsReachableIn c x → name_at (words_of c.shape c.words).identities x ≡ name → IsCellFor c world name x
cell_for c world name x k a reach e = let u : Used c x ≡ true = reachable-used c x k reach in (u, reach, e, a.cells_agree x (used-exists c k x u) u)

-- a root that refers to an object names a cell that is reachable
from_root : (c : Core) (world : World) (name : Name) (at : ℕ) → IsCore c → AgreesWith c world → at < root_count c.shape → referred (words_of c.shape c.words).identities (slice_index (the-roots c) at) ≡ Some name → (x : ℕ) × IsCellFor c world name x
from_root c world name at k a h e =
    let w : Words = words_of c.shape c.words in
    let r = word_names w.identities (slice_index (the-roots c) at) name e in
    let there : at < length (the-roots c) = omega (arith, h, roots-length c k, now-length w.roots c.seats) in
    (r.0, cell_for c world name r.0 k a (reach-root c.shape (the-roots c) w.fields at r.0 there (omega (arith, r.1))) r.2)

-- along a path each object has a cell
pub along : (c : Core) (world : World) (name : Name) (path : List Name) → IsCore c → AgreesWith c world → IsWorldPath world name path → (x : ℕ) × IsCellFor c world name x
along c world name [] k a (j, v, hj, hv, e) =
    let inside : j < c.shape.sections = omega (arith, hj, a.sections) in
    ⊎_elim
    (λ (h : v < 32). from_root c world name (j * 32 + v) k a (omega (arith, in-row j c.shape.sections 32 v inside h)) (a.roots_agree j v inside h ∙ e))
    (λ (h : 32 ≤ v).
    let q : ℕ = v - 32 in
    let hq : q < c.shape.slots = omega (arith, h, hv, a.variables j inside) in
    let is : 32 + q ≡ v = omega (arith, h) in
    from_root c world name (c.shape.sections * 32 + (j * c.shape.slots + q)) k a (omega (arith, in-row j c.shape.sections c.shape.slots q inside hq)) (a.slots_agree j q inside hq ∙ ap (variable_of world j) is ∙ e))
    (cases_lt v 32)
along c world name (before ∷ path) k a (leads, p) =
    let w : Words = words_of c.shape c.words in
    let d = along c world before path k a p in
    let h : HoldsObject c.shape w.identities w.values w.fields world d.0 = d.1.3 in
    let same : h.object ≡ leads.0 = same_Some h.object leads.0 (sym h.there ∙ (ap (object_of world) d.1.2 ∙ leads.1)) in
    let i : ℕ = leads.2.0 in
    let low : i < c.shape.fields = omega (arith, leads.2.1, ap (λ (o : WorldObject). length o.refs) same, h.room) in
    let r = word_names w.identities (field c.shape w.fields d.0 i) name (h.each_field i low ∙ (ap (λ (o : WorldObject). reference_of o i) same ∙ leads.2.2)) in
    (r.0, cell_for c world name r.0 k a (reach-field c.shape (the-roots c) w.fields d.0 i r.0 d.1.1 low (omega (arith, r.1))) r.2)
