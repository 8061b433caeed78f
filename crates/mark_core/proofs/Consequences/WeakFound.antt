-- What a seat may conclude that reads a cell which it needn't know.
use Rattle.std.proofs.Common.{ℕ, ◌≡◌, ◌+◌, ◌*◌, ◌/◌, ◌%◌, ◌<◌, ◌≤◌, List, get_or, length, arith, refl, sym, ap, ◌∙◌, subst, Bool, true, false, ◌||◌, eqb, cond, Option, Some, None, ⊎_elim, ◌⊎◌, inl, inr, [], ◌∷◌, set}
use Rattle.std.specs.Prelude.{IsTrue, IsFalse, slice_get, slice_index, nat_lt, IfSome}
use Rattle.std.specs.List.{All, list_any}
use Rattle.std.proofs.lemmas.Bool.{and_parts, or_cases, or_left, or_right, true≢false, ltb-true, eqb-true, cases_Bool, cases_lt}
use Rattle.std.proofs.lemmas.List.{length-map}
use Rattle.mark_core.specs.Layout.{Words, words_of, region_sizes}
use Rattle.mark_core.specs.Bits.{cell_bit, has_bit, reference_in}
use Rattle.mark_core.specs.Seats.{is_the, used_in, is_phase}
use Rattle.mark_core.specs.Views.{Maker, makers, maker_of, blocks}
use Rattle.mark_core.specs.Cells.{in_use, used_by, field, is_swept_block, IsCellPath, IsReachableCell}
use Rattle.mark_core.specs.Rules.WorldRules.{is_stopped_phase}
use Rattle.mark_core.specs.Rules.HeapRules.{NumbersBelow, UsedOwn}
use Rattle.mark_core.specs.Steps.MutatorSteps.{weak_reference}
use Rattle.mark_core.specs.Closed.{IsReachableIn, is_published}
use Rattle.mark_core.specs.Steps.{Core, failing_part}
use Rattle.mark_core.specs.Laws.{IsCore}
use Rattle.mark_core.specs.Numbers.{section_span}
use Rattle.mark_core.specs.Weak.{HasGiven, IsOnly, IsAt, IsWeak, IsGone, WeakIsMade, GoneIsUnreachable, MayConclude, FindsWeak, WeakReadsTell}
use Rattle.mark_core.proofs.Known.{HasCache, in_use-below, all-makers, found, Acted, acts}
use Rattle.mark_core.proofs.HeldBlock.{allocs-length}
use Rattle.mark_core.proofs.Blocks.BlocksStopped.{Taken, still-stopped}
use Rattle.mark_core.proofs.Caches.CachesAt.{caching, maker-at}
use Rattle.mark_core.proofs.Caches.CachesClaims.{user}
use Rattle.mark_core.proofs.Caches.CachesKept.{section-seat}
use Rattle.mark_core.proofs.Consequences.Closing.{goes-to, path-kept, either-way, roots-still}
use Rattle.mark_core.proofs.Formed.FormedLearns.{one-of, used-exists}
use Rattle.mark_core.proofs.References.ReferencesKept.{kept-used}
use Rattle.mark_core.proofs.References.ReferencesRoots.{Used, known-used, own-used}
use Rattle.mark_core.proofs.References.ReferencesNow.{the-roots, now-used}
use Rattle.mark_core.specs.declared.kinds.Shape.{Shape}
use Rattle.mark_core.specs.declared.kinds.Event.{Event}
use Rattle.mark_core.specs.declared.kinds.Phase.TheVariants.{Sweep}
use Rattle.mark_core.specs.declared.kinds.Step.TheVariants.{ReadWeak}
use Rattle.mark_core.specs.declared.seat.SeatState.{SeatState}
use Rattle.std.proofs.lemmas.Option.{slice_get-get_or, same_Some}

-- every reachable cell is in use, in the sweep too
path_used : (c : Core) → IsCore c → is_phase (words_of c.shape c.words).phase Sweep ≡ false → (x : ℕ) (ds : List ℕ) → IsCellPath c.shape (the-roots c) (words_of c.shape c.words).fields (x ∷ ds) → Used c x ≡ true
path_used c k e x [] p = goes-to (Used c) (slice_index (the-roots c) p.0) x p.2 (now-used c p.0 k)
path_used c k e x (d ∷ ds) p =
    let u : Used c d ≡ true = path_used c k e d ds p.1 in
    goes-to (Used c) (field c.shape (words_of c.shape c.words).fields d p.0.0) x p.0.2 (k.sound.references.fields_in_use e d (used-exists c d k.formed u) u p.0.0 p.0.1)

reachable_used : (c : Core) (x : ℕ) → IsCore c → IsReachableIn c x → Used c x ≡ true
reachable_used c x k r =
    ⊎_elim
    (λ (e : is_phase (words_of c.shape c.words).phase Sweep ≡ true).
    let still = still-stopped c k (ap is_stopped_phase (eqb-true (words_of c.shape c.words).phase 3 e)) in
    let q : IsReachableCell c.shape (words_of c.shape c.words).roots (words_of c.shape c.words).fields x =
    subst (λ (rs : List ℕ). IsReachableCell c.shape rs (words_of c.shape c.words).fields x) (roots-still c k.sound still) r in
    kept-used c x k (path-kept c k e x q.0 q.1))
    (λ (e : is_phase (words_of c.shape c.words).phase Sweep ≡ false). path_used c k e x r.0 r.1)
    (cases_Bool (is_phase (words_of c.shape c.words).phase Sweep))

pub gone_is_unreachable : GoneIsUnreachable
gone_is_unreachable c id x k gone r e = let u : Used c x ≡ true = reachable_used c x k r in gone.only x (used-exists c x k.formed u) u e

-- Whoever knows a cell in use by its identity knows where its object is.
used_given : (c : Core) (x : ℕ) → IsCore c → Used c x ≡ true → All (HasGiven (slice_index (words_of c.shape c.words).identities x)) c.seats
used_given c x k u j d h live z =
    let w : Words = words_of c.shape c.words in
    let t : SeatState = get_or c.seats j d in
    one-of (NumbersBelow c.shape w.allocs w.identities (makers c.seats)) (makers c.seats) j (maker_of t) (maker-at c.seats j t (slice_get-get_or c.seats j d h)) k.sound.caches.numbers_below live x (used-exists c x k.formed u) u z

used_seated : (c : Core) (x : ℕ) → IsCore c → Used c x ≡ true → slice_index (words_of c.shape c.words).identities x / section_span < c.shape.sections → slice_index (words_of c.shape c.words).identities x / section_span < length c.seats
used_seated c x k u h =
    subst (λ (n : ℕ). slice_index (words_of c.shape c.words).identities x / section_span < n) (length-map c.seats maker_of) (k.sound.caches.sections_seated x (used-exists c x k.formed u) u h)

used_is_at : (c : Core) (x : ℕ) → IsCore c → Used c x ≡ true → IsAt c (slice_index (words_of c.shape c.words).identities x) x
used_is_at c x k u =
    record {
      given = used_given c x k u;
      seated = used_seated c x k u;
      only = λ y h v e. k.sound.caches.distinct y h x (used-exists c x k.formed u) v u e;
    }

pub published-is_weak : (c : Core) (x : ℕ) → IsCore c → cell_bit (words_of c.shape c.words).allocs x ≡ true → IsWeak c (slice_index (words_of c.shape c.words).identities x) x
published-is_weak c x k b =
    let u : Used c x ≡ true = or_left (cell_bit (words_of c.shape c.words).allocs x) (list_any (used_by x) (makers c.seats)) b in
    record {
      given = used_given c x k u;
      seated = used_seated c x k u;
      only =
          λ y h v e.
          let same : y ≡ x = k.sound.caches.distinct y h x (used-exists c x k.formed u) v u e in
          (same, subst (λ (z : ℕ). cell_bit (words_of c.shape c.words).allocs z ≡ true) (sym same) b);
    }

pub weak_is_made : WeakIsMade
weak_is_made = record { used = used_is_at; published = published-is_weak }

-- What a seat may conclude.
chosen : (b : Bool) (n x : ℕ) (U : Type 0) → n ≡ x + 1 → (b ≡ true → U) → (cond b n 0 ≡ 0) ⊎ ((cond b n 0 ≡ x + 1) × U)
chosen true n x U e f = inr (e, f refl)
chosen false n x U e f = inl refl

none_chosen : (b : Bool) (n x : ℕ) → n ≡ x + 1 → cond b n 0 ≡ 0 → b ≡ false
none_chosen true n x e z = absurd (omega (arith, e, z))
none_chosen false n x e z = refl

neither : (a b : Bool) → (a || b) ≡ false → (a ≡ false) × (b ≡ false)
neither true b e = absurd (true≢false e)
neither false b e = (refl, e)

-- a cell of the seat's section that isn't published is used by the seat itself
own_used : (c : Core) (i : ℕ) (s : SeatState) (y : ℕ) → IsCore c → slice_get c.seats i ≡ Some s → y < c.shape.cells → is_the s.section (slice_index (words_of c.shape c.words).identities y / section_span) ≡ true → list_any (used_by y) (makers c.seats) ≡ true → used_in s.cache y ≡ true
own_used c i s y k g h mine e =
    let w : Words = words_of c.shape c.words in
    let r = user (makers c.seats) y e in
    let z : ℕ = slice_index w.identities y / section_span in
    let theirs : is_the r.1.section z ≡ true = one-of (UsedOwn c.shape w.identities) (makers c.seats) r.0 r.1 r.2 k.sound.caches.used_own y h r.3 in
    let section = λ (j : ℕ) (m : Maker) (l : slice_get (makers c.seats) j ≡ Some m) (f : is_the m.section z ≡ true). section-seat c.shape.sections j z (nat_lt j c.shape.sections) (ap (λ (o : Option ℕ). is_the o z) (sym ((caching c k).sections j m l)) ∙ f) in
    let me : slice_get (makers c.seats) i ≡ Some (maker_of s) = maker-at c.seats i s g in
    let one : r.0 ≡ i = sym (section r.0 r.1 r.2 theirs) ∙ section i (maker_of s) me mine in
    let same : r.1 ≡ maker_of s = same_Some r.1 (maker_of s) (sym r.2 ∙ ap (λ (j : ℕ). slice_get (makers c.seats) j) one ∙ me) in
    ap (λ (m : Maker). used_in m.cache y) (sym same) ∙ r.3

pub finds-at : (c : Core) (i : ℕ) (s : SeatState) (x : ℕ) → Taken c i s (ReadWeak x) → FindsWeak c s x (weak_reference s x (slice_index (words_of c.shape c.words).allocs (x / 64)))
finds-at c i s x k =
    let w : Words = words_of c.shape c.words in
    let h : x < c.shape.cells = ltb-true x c.shape.cells (and_parts _ _ k.ok.0).0 in
    let whole : reference_in (x + 1) ≡ x + 1 = omega (arith, h, k.core.formed.shaped.cells) in
    let bit : Bool = cell_bit w.allocs x in
    let mine : Bool = used_in s.cache x in
    record {
      found = chosen (bit || mine) (reference_in (x + 1)) x (Used c x ≡ true) whole (λ e. ⊎_elim (λ (a : bit ≡ true). or_left bit (list_any (used_by x) (makers c.seats)) a) (λ (a : mine ≡ true). own-used c i s (ReadWeak x) x k a) (or_cases bit mine e));
      none =
          λ z id may.
          let no = neither bit mine (none_chosen (bit || mine) (reference_in (x + 1)) x whole z) in
          ⊎_elim
          (λ (a : IsWeak c id x).
          record {
            given = a.given;
            seated = a.seated;
            only = λ y l u e. let p = a.only y l u e in true≢false (sym (subst (λ (j : ℕ). cell_bit w.allocs j ≡ true) p.0 p.1) ∙ no.0);
          })
          (λ (b : IsAt c id x × (is_the s.section (id / section_span) ≡ true)).
          record {
            given = b.0.given;
            seated = b.0.seated;
            only =
                λ y l u e.
                let p : y ≡ x = b.0.only y l u e in
                ⊎_elim
                (λ (a : cell_bit w.allocs y ≡ true). true≢false (sym (subst (λ (j : ℕ). cell_bit w.allocs j ≡ true) p a) ∙ no.0))
                (λ (a : list_any (used_by y) (makers c.seats) ≡ true).
                let used : used_in s.cache y ≡ true = own_used c i s y k.core k.got l (ap (λ (n : ℕ). is_the s.section (n / section_span)) e ∙ b.1) a in
                true≢false (sym (subst (λ (j : ℕ). used_in s.cache j ≡ true) p used) ∙ no.1))
                (or_cases (cell_bit w.allocs y) (list_any (used_by y) (makers c.seats)) u);
          })
          may;
      unpublished =
          λ z e.
          let no = neither bit mine (none_chosen (bit || mine) (reference_in (x + 1)) x whole z) in
          let others : Bool = list_any (used_by x) (makers c.seats) in (
            ⊎_elim
                (λ (a : bit ≡ true). absurd (true≢false (sym a ∙ no.0)))
                (λ (b : others ≡ true). b)
                (or_cases bit others (known-used c i s (ReadWeak x) x k e)),
            no.1,
          );
      another =
          λ id a other.
          record {
            given = a.given;
            seated = a.seated;
            only = λ y l u e. let p : y ≡ x = a.only y l u e in other (subst (λ (j : ℕ). slice_index w.identities j ≡ id) p e);
          };
    }

pub weak_reads_tell : WeakReadsTell
weak_reads_tell c i s x k g f =
    let e : Event = record { seat = i; step = ReadWeak x } in
    let r : (t : SeatState) × Acted c e t = acts c e k f in
    let t : SeatState = r.0 in
    let a : Acted c e t = r.1 in
    let here : Taken c i t (ReadWeak x) = record { core = k; got = a.seat; live = a.live; ok = a.ok } in
    subst (λ (o : SeatState). FindsWeak c o x (weak_reference o x (slice_index (words_of c.shape c.words).allocs (x / 64)))) (same_Some t s (sym a.seat ∙ g)) (finds-at c i t x here)
