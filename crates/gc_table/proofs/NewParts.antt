-- 23: a part of a new cell is stored that isn't the last: the cell isn't in use yet, and what was agrees as before.
use Rattle.mark_core.proofs.References.ReferencesNow.{the-roots}
use Rattle.mark_core.proofs.Lagging.{now-seat}
use Rattle.std.proofs.Common.{ℕ, ◌≡◌, ◌≢◌, ◌+◌, ◌<◌, ◌≤◌, List, length, arith, refl, sym, ap, ◌∙◌, subst, true, eqb, Option, Some, None}
use Rattle.std.specs.Prelude.{slice_index, slice_index_or}
use Rattle.std.proofs.lemmas.Bool.{true≢false, false≢true, and_parts, eqb-true}
use Rattle.plain_heap.specs.Paths.{Name}
use Rattle.mark_core.specs.Layout.{Words, words_of}
use Rattle.mark_core.specs.Seats.{free_in, makes, last_made}
use Rattle.mark_core.specs.Cells.{field}
use Rattle.mark_core.specs.Steps.MutatorSteps.{with_making}
use Rattle.mark_core.specs.Steps.{Core}
use Rattle.mark_core.proofs.Blocks.BlocksStopped.{Taken}
use Rattle.mark_core.proofs.References.ReferencesRoots.{Used}
use Rattle.mark_core.specs.declared.kinds.Step.{Step}
use Rattle.mark_core.specs.declared.kinds.Step.TheVariants.{ReadCount, StoreNew}
use Rattle.mark_core.specs.declared.seat.SeatState.{SeatState}
use Rattle.mark_core.specs.declared.seat.CacheState.{CacheState}
use Rattle.gc_table.specs.RunWorlds.{World, WorldObject, WorldSection, section_of, in_section, name_at}
use Rattle.gc_table.specs.Agreement.{SeatAgrees, AgreesWith}
use Rattle.gc_table.proofs.Reading.{section-same, section-other, sections-kept, view-kept, object-kept}
use Rattle.gc_table.proofs.Frame.{IsLast, holds-on, Moves, had-object, Mutates, looks, making-is-free, free-not-used, free-apart}

pub making_is : (o : Option CacheState) (x p y part : ℕ) → makes (with_making o x p) y part ≡ true → (y ≡ x) × (part ≡ p)
making_is None x p y part e = absurd (false≢true e)
making_is (Some z) x p y part e = let a = and_parts (eqb x y) (eqb p part) e in (sym (eqb-true x y a.0), sym (eqb-true p part a.1))

pub making_last : (o : Option CacheState) (x p : ℕ) → last_made (with_making o x p) ≡ last_made o
making_last None x p = refl
making_last (Some z) x p = refl

-- what is known if a part of a new cell may be stored
pub record MakesPart (c : Core) (i : ℕ) (s : SeatState) (x part word : ℕ) (world : World) : Type 0 where
  pub taken : Taken c i s (StoreNew x part word)
  pub agrees : AgreesWith c world
  pub mutates : Mutates c i s
  pub cell : x < c.shape.cells
  pub free : free_in s.cache x ≡ true
  pub next : 0 < part → makes s.cache x part ≡ true

-- the words of other cells stay
pub record OthersStay (c : Core) (x : ℕ) (values fields : List ℕ) : Type 0 where
  pub other_values : (y : ℕ) → y ≢ x → slice_index values y ≡ slice_index (words_of c.shape c.words).values y
  pub other_fields : (y j : ℕ) → y ≢ x → j < c.shape.fields → field c.shape fields y j ≡ field c.shape (words_of c.shape c.words).fields y j

-- the section keeps all but the value that is to come
pub record KeepsRest (f : WorldSection → WorldSection) (x : WorldSection) : Type 0 where
  pub objects : (f x).objects ≡ x.objects
  pub variables : (f x).variables ≡ x.variables
  pub register : (f x).register ≡ x.register

-- a part of a new cell that isn't the last
pub part_moves : (c : Core) (i : ℕ) (s : SeatState) (x part word : ℕ) (world : World) (values fields : List ℕ) (f : WorldSection → WorldSection) → MakesPart c i s x part word world → part ≤ c.shape.fields → OthersStay c x values fields
    → KeepsRest f (section_of world i) → (part ≡ c.shape.fields → slice_index values x ≡ (f (section_of world i)).coming)
    → Moves c i s (StoreNew x part word) (record (words_of c.shape c.words) { values = values; fields = fields }) (record s { cache = with_making s.cache x (part + 1) }) world (in_section world i f)
part_moves c i s x part word world values fields f p few r keeps value = record {
  sections = sections-kept world i f;
  variables = λ j h. view-kept (λ (z : WorldSection). length z.variables) world i j f inside (ap (λ (vs : List (Option Name)). length vs) keeps.variables);
  identities_kept = λ y u. refl;
  now_roots = the-roots c;
  now = now-seat w.roots c.seats i s (record s { cache = with_making s.cache x (part + 1) }) k.got refl refl;
  roots = λ j v h hv. a.roots_agree j v h hv ∙ sym (view-kept (λ (z : WorldSection). slice_index_or z.variables v None) world i j f inside (ap (λ (vs : List (Option Name)). slice_index_or vs v None) keeps.variables));
  slots = λ j q h hq. a.slots_agree j q h hq ∙ sym (view-kept (λ (z : WorldSection). slice_index_or z.variables (32 + q) None) world i j f inside (ap (λ (vs : List (Option Name)). slice_index_or vs (32 + q) None) keeps.variables));
  cells =
      λ y h u.
      let before = had-object c i s step world y k a (λ z. omega (arith, z.1, few)) h u in
      let d : y ≢ x = used_other y before.0 in
      holds-on c.shape w.identities w.identities w.values values w.fields fields world (in_section world i f) y
      (record { identity = refl; value = r.other_values y d; each_field = λ j l. r.other_fields y j d l; targets = λ j l e q. refl; object = λ o e. object-kept world i f (name_at w.identities y) inside keeps.objects ∙ e }) before.1;
  other_register = λ j d. ap (λ (z : WorldSection). z.register) (section-other world i j f d);
  other_made = λ j d. ap (λ (z : WorldSection). length z.objects) (section-other world i j f d);
  other_coming = λ j d. ap (λ (z : WorldSection). z.coming) (section-other world i j f d);
  other_making =
      λ j o d g live y q e.
      r.other_values y (λ z. d (free-apart c i j s o step ReadCount x k (looks c j o k.core g live) p.free (subst (λ b. free_in o.cache b ≡ true) z (making-is-free c j o ReadCount y q (looks c j o k.core g live) e))));
  own_seat =
      λ h live.
      record {
        register = had.register ∙ sym keeps.register ∙ sym (ap (λ (z : WorldSection). z.register) (section-same world i f inside));
        made = ap (λ (z : WorldSection). length z.objects) (section-same world i f inside) ∙ ap (λ (os : List WorldObject). length os) keeps.objects ∙ had.made;
        making =
            λ y q e l.
            let b = making_is s.cache x (part + 1) y q e in
            ap (λ j. slice_index values j) b.0 ∙ value (omega (arith, b.1, l, few)) ∙ sym (ap (λ (z : WorldSection). z.coming) (section-same world i f inside));
        last = subst (IsLast w.identities i s.made) (sym (making_last s.cache x (part + 1))) had.last;
      };
}
  where
    step : Step
    step = StoreNew x part word

    k : Taken c i s step
    k = p.taken

    a : AgreesWith c world
    a = p.agrees

    w : Words
    w = words_of c.shape c.words

    inside : i < length world
    inside = omega (arith, p.mutates.inside, a.sections)

    had : SeatAgrees c.shape w.identities w.values world i s
    had = a.seats_agree i s k.got p.mutates.inside k.live

    used_other : (y : ℕ) → Used c y ≡ true → y ≢ x
    used_other y u e = true≢false (sym u ∙ ap (Used c) e ∙ free-not-used c i s step x k p.free)
