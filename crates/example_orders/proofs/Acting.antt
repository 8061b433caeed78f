-- What each thread adds in all.
use Rattle.std.proofs.Common.{ℕ, ◌≡◌, ◌+◌, ◌==◌, ◌∙◌, List, [], ◌∷◌, ◌++◌, append_assoc, ap, arith, not, refl, subst, sym, Bool, true, Some}
use Rattle.std.proofs.lemmas.Bool.{and_parts, ne_eqb}
use Rattle.mark_core.specs.Steps.MutatorSteps.{seat_variable as word_in}
use Rattle.mark_core.specs.declared.kinds.Step.TheVariants.{ExchangeValue, ReadOwn, ReadValue, StoreField}
use Rattle.gc_table.specs.Entries.{event}
use Rattle.gc_table.specs.Log.{all_steps}
use Rattle.gc_table.specs.Seats.{state_of}
use Rattle.gc_table.specs.declared.view.Entry.{Entry}
use Rattle.shared_heap.specs.Calls.{FindsValue, SharerActs}
use Rattle.shared_heap.specs.Logs.{Adds}
use Rattle.shared_heap.specs.declared.mutator.SharedMutator.{SharedMutator}
use Rattle.shared_heap.proofs.Logs.{adds-join}
use Rattle.example_orders.specs.Orders.{FieldThenValue, ValueThenField}
use Rattle.example_orders.specs.Threads.{ComesToRoot, FindsRoot, Looks, StoresField, StoresNone, StoresValue, spares_root}
use Rattle.example_orders.specs.Variables.{Variables, after_log, all_nil}
use Rattle.example_orders.proofs.Calls.{AreSpared, Made, Stored, value-adds}
use Rattle.example_orders.proofs.Happening.{log_join}
use Rattle.example_orders.proofs.Pieces.{field-value, root-then, steps-join, stores-none, value-field}

-- the root was found, and then all of this was added
record Behind (cell : ℕ) (P : List Entry → Type 0) (es : List Entry) : Type 0 where
  before : List Entry
  rest : List Entry
  is : es ≡ before ++ rest
  root : FindsRoot cell before
  are : P rest

module _ (cell : ℕ) (x y z : SharedMutator) where
  behind : (P : List Entry → Type 0) → Adds (FindsRoot cell) x y → Adds P y z → Adds (Behind cell P) x z
  behind P a b = adds-join (FindsRoot cell) P (Behind cell P) (λ xs ys r p. record { before = xs; rest = ys; is = refl; root = r; are = p }) x y z a b

  behind_then : (P Q R : List Entry → Type 0) → ((xs ys : List Entry) → P xs → Q ys → R (xs ++ ys)) → Adds (Behind cell P) x y → Adds Q y z → Adds (Behind cell R) x z
  behind_then P Q R join a b =
      adds-join (Behind cell P) Q (Behind cell R)
      (λ xs ys p q. record { before = p.before; rest = p.rest ++ ys; is = ap (λ (l : List Entry). l ++ ys) p.is ∙ append_assoc p.before p.rest ys; root = p.root; are = join p.rest ys p.are q }) x y z a b

-- the root is lent after what found it
lent_of : (cell : ℕ) (es : List Entry) → FindsRoot cell es → (after_log all_nil es).lent ≡ true
lent_of cell es f = (and_parts (after_log all_nil es).lent ((after_log all_nil es).first == cell + 1) f.root).0

-- The value is stored.
record Exchanged (es : List Entry) : Type 0 where
  found : ℕ
  rest : List Entry
  is : es ≡ event (ExchangeValue 0 0 1) found ∷ rest
  spares : all_steps spares_root rest ≡ true

exchanged_log : (cell : ℕ) (es : List Entry) → Behind cell Exchanged es → StoresValue es
exchanged_log cell es b =
    let whole : es ≡ b.before ++ event (ExchangeValue 0 0 1) b.are.found ∷ b.are.rest = b.is ∙ ap (λ (l : List Entry). b.before ++ l) b.are.is in
    record { before = b.before; found = b.are.found; after = b.are.rest; is = whole; root = lent_of cell b.before b.root; once = (b.root.none, stores-none b.are.rest b.are.spares) }

pub stores-value : (found : ℕ) (x y z w : SharedMutator) → ComesToRoot x y → Adds (λ es. es ≡ event (ExchangeValue 0 0 1) found ∷ []) y z → Adds AreSpared z w → Adds StoresValue x w
stores-value found x y z w c e l =
    adds_log c.cell (behind_then c.cell x z w (λ es. es ≡ event (ExchangeValue 0 0 1) found ∷ []) AreSpared Exchanged (λ xs ys is a. record { found = found; rest = ys; is = ap (λ (l : List Entry). l ++ ys) is; spares = a }) (behind c.cell x y z (λ es. es ≡ event (ExchangeValue 0 0 1) found ∷ []) c.adds e) l)
  where
    adds_log : (cell : ℕ) → Adds (Behind cell Exchanged) x w → Adds StoresValue x w
    adds_log cell a = record { heap = a.heap; more = a.more; log = a.log; are = exchanged_log cell a.more a.are }

-- The field is stored.
record MadeStored (c : ℕ) (es : List Entry) : Type 0 where
  made : List Entry
  first : Entry
  rest : List Entry
  is : es ≡ made ++ first ∷ rest
  are : Made c made
  step : first.step ≡ StoreField 0 0 (Some 1)
  spares : all_steps spares_root rest ≡ true

stored_log : (cell c : ℕ) (es : List Entry) → Behind cell (MadeStored c) es → StoresField es
stored_log cell c es b =
    let m = b.are in
    let front : List Entry = b.before ++ m.made in
    let whole : es ≡ front ++ m.first ∷ m.rest = b.is ∙ (ap (λ (l : List Entry). b.before ++ l) m.is ∙ sym (append_assoc b.before m.made (m.first ∷ m.rest))) in
    let root : FindsRoot cell front = root-then cell b.before m.made m.are.spares b.root in
    let second : (after_log all_nil front).second ≡ c + 1 = ap (λ (k : Variables). k.second) (log_join all_nil b.before m.made) ∙ m.are.second (after_log all_nil b.before) in
    record {
      before = front;
      stored = m.first;
      after = m.rest;
      is = whole;
      step = m.step;
      root = lent_of cell front root;
      object = ap not (ne_eqb (after_log all_nil front).second 0 (λ z. omega (arith, z, second)));
      once = (root.none, stores-none m.rest m.spares);
    }

pub stores-field : (c : ℕ) (x y z w u : SharedMutator) → ComesToRoot x y → Adds (Made c) y z → Adds Stored z w → Adds AreSpared w u → Adds StoresField x u
stores-field c x y z w u r m s l = adds_log r.cell (behind_then r.cell x w u (MadeStored c) AreSpared (MadeStored c) more (behind_then r.cell x z w (Made c) Stored (MadeStored c) one (behind r.cell x y z (Made c) r.adds m) s) l)
  where
    one : (xs ys : List Entry) → Made c xs → Stored ys → MadeStored c (xs ++ ys)
    one xs ys a b = record { made = xs; first = b.first; rest = b.rest; is = ap (λ (l : List Entry). xs ++ l) b.is; are = a; step = b.step; spares = b.spares }

    more : (xs ys : List Entry) → MadeStored c xs → AreSpared ys → MadeStored c (xs ++ ys)
    more xs ys a b =
        record {
          made = a.made;
          first = a.first;
          rest = a.rest ++ ys;
          is = ap (λ (l : List Entry). l ++ ys) a.is ∙ append_assoc a.made (a.first ∷ a.rest) ys;
          are = a.are;
          step = a.step;
          spares = steps-join spares_root a.rest ys a.spares b;
        }

    adds_log : (cell : ℕ) → Adds (Behind cell (MadeStored c)) x u → Adds StoresField x u
    adds_log cell a = record { heap = a.heap; more = a.more; log = a.log; are = stored_log cell c a.more a.are }

-- Both words are read.
-- these entries, and behind them what leaves variable 0, and all values and fields
record Then (front : List Entry) (es : List Entry) : Type 0 where
  rest : List Entry
  is : es ≡ front ++ rest
  spares : all_steps spares_root rest ≡ true

then_rest : (front xs ys : List Entry) → xs ≡ front → all_steps spares_root ys ≡ true → Then front (xs ++ ys)
then_rest front xs ys is a = record { rest = ys; is = ap (λ (l : List Entry). l ++ ys) is; spares = a }

joined : (a b xs ys : List Entry) → xs ≡ a → ys ≡ b → xs ++ ys ≡ a ++ b
joined a b xs ys p q = ap (λ (l : List Entry). l ++ ys) p ∙ ap (λ (l : List Entry). a ++ l) q

module _ (range : Type 0) (n : ℕ) (some : Bool) (x y z w u : SharedMutator) (c : ComesToRoot x y) where
  abbrev value : Entry
  value = event (ReadValue c.cell) n

  pub reads-value-first : SharerActs range (FindsValue 0 n) y z → ((cell : ℕ) → word_in (state_of z.seat) 0 ≡ cell + 1 → Looks cell some z w) → Adds AreSpared w u → Adds (λ es. ValueThenField n some es × StoresNone es) x u
  reads-value-first s look l = record { heap = all.heap; more = all.more; log = all.log; are = are }
    where
      v : Adds (λ es. es ≡ event (ReadValue c.cell) n ∷ []) y z × (word_in (state_of z.seat) 0 ≡ c.cell + 1)
      v = value-adds range y z n c.cell s c.word

      f : Looks c.cell some z w
      f = look c.cell v.1

      field : List Entry
      field = event (ReadOwn c.cell 0) f.found ∷ f.rest

      both : Adds (Behind c.cell (λ es. es ≡ event (ReadValue c.cell) n ∷ event (ReadOwn c.cell 0) f.found ∷ f.rest)) x w
      both = behind_then c.cell x z w (λ es. es ≡ value ∷ []) (λ es. es ≡ field) (λ es. es ≡ value ∷ field) (λ xs ys p q. joined (value ∷ []) field xs ys p q) (behind c.cell x y z (λ es. es ≡ value ∷ []) c.adds v.0) f.adds

      all : Adds (Behind c.cell (Then (event (ReadValue c.cell) n ∷ event (ReadOwn c.cell 0) f.found ∷ f.rest))) x u
      all = behind_then c.cell x w u (λ es. es ≡ value ∷ field) AreSpared (Then (value ∷ field)) (then_rest (value ∷ field)) both l

      are : ValueThenField n some all.more × StoresNone all.more
      are =
          let b = all.are in
          subst (λ (es : List Entry). ValueThenField n some es × StoresNone es) (sym (b.is ∙ ap (λ (es : List Entry). b.before ++ es) b.are.is))
          (value-field c.cell n f.found some b.before (f.rest ++ b.are.rest) b.root (steps-join spares_root f.rest b.are.rest f.spares b.are.spares) f.is)

module _ (range : Type 0) (n : ℕ) (some : Bool) (x y z w u : SharedMutator) (c : ComesToRoot x y) where
  pub reads-field-first : ((cell : ℕ) → word_in (state_of y.seat) 0 ≡ cell + 1 → Looks cell some y z) → SharerActs range (FindsValue 0 n) z w → Adds AreSpared w u → Adds (λ es. FieldThenValue some n es × StoresNone es) x u
  reads-field-first look s l = record { heap = all.heap; more = all.more; log = all.log; are = are }
    where
      f : Looks c.cell some y z
      f = look c.cell c.word

      v : Adds (λ es. es ≡ event (ReadValue c.cell) n ∷ []) z w × (word_in (state_of w.seat) 0 ≡ c.cell + 1)
      v = value-adds range z w n c.cell s f.word

      value : List Entry
      value = event (ReadValue c.cell) n ∷ []

      field : List Entry
      field = event (ReadOwn c.cell 0) f.found ∷ f.rest

      both : Adds (Behind c.cell (λ es. es ≡ (event (ReadOwn c.cell 0) f.found ∷ f.rest) ++ event (ReadValue c.cell) n ∷ [])) x w
      both = behind_then c.cell x z w (λ es. es ≡ field) (λ es. es ≡ value) (λ es. es ≡ field ++ value) (λ xs ys p q. joined field value xs ys p q) (behind c.cell x y z (λ es. es ≡ field) c.adds f.adds) v.0

      all : Adds (Behind c.cell (Then ((event (ReadOwn c.cell 0) f.found ∷ f.rest) ++ event (ReadValue c.cell) n ∷ []))) x u
      all = behind_then c.cell x w u (λ es. es ≡ field ++ value) AreSpared (Then (field ++ value)) (then_rest (field ++ value)) both l

      are : FieldThenValue some n all.more × StoresNone all.more
      are =
          let b = all.are in
          subst (λ (es : List Entry). FieldThenValue some n es × StoresNone es) (sym (b.is ∙ ap (λ (es : List Entry). b.before ++ es) (b.are.is ∙ append_assoc field value b.are.rest)))
          (field-value c.cell n f.found some b.before f.rest b.are.rest b.root f.spares b.are.spares f.is)
