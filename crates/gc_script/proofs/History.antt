-- What holds of lines without a fault, latest first.
use Rattle.std.proofs.Common.{◌≡◌, ℕ, zero, suc, List, [], ◌∷◌, ◌++◌, refl, ap, sym, ◌∙◌, cond, true}
use Rattle.std.proofs.lemmas.List.{append-nil, append_assoc}
use Rattle.std.specs.Prelude.{Option, Some, None, is_none, is_some, ◌&&◌}
use Rattle.plain_heap.specs.Sections.{Execution}
use Rattle.plain_heap.specs.declared.operation.Op.{Op}
use Rattle.gc_script.specs.Statement.{Spoken, NewOf, LetOf, NilOf, SetOf, GetOf, CatOf, PutOf, SayOf, SumOf, CollectOf, Statement, Blank, Fields, Catalogue, Warehouse, Season, Repeat, End, Command, Wrong}
use Rattle.gc_script.specs.Earlier.{next_line, place, known_names, open_repeat, open_section}
use Rattle.gc_script.specs.Script.{repeated, repetitions, pending, executed, execution, operation, label_of, ended_parts}
use Rattle.gc_script.specs.Context.{context_of, closed_names, IsClear, AreClear, IsCatalogueKnown, execution_in}
use Rattle.gc_script.specs.Content.{settled, content_of, content_after, close}
use Rattle.gc_script.proofs.Clear.{right, left}

pub none_is : {A : Type 0} (o : Option A) → is_none o ≡ true → o ≡ None
none_is None e = refl
none_is (Some a) e = cc

-- what is executed of the pending commands, before their block ends
abbrev outside : Option (ℕ × ℕ) → List Execution → List Execution
outside None p = p
outside (Some opened) p = []

once : (p : List Execution) → repeated 1 p ≡ p
once p = append-nil p

outside_none : (o : Option (ℕ × ℕ)) (p : List Execution) → o ≡ None → outside o p ≡ p
outside_none o p e = ap (λ q. outside q p) e

outside_nothing : (o : Option (ℕ × ℕ)) → outside o [] ≡ []
outside_nothing None = refl
outside_nothing (Some opened) = refl

outside_some : (o : Option (ℕ × ℕ)) (p : List Execution) → is_some o ≡ true → outside o p ≡ []
outside_some None p e = cc
outside_some (Some opened) p e = refl

-- a command more, outside or inside a `repeat`
one_more : (o : Option (ℕ × ℕ)) (x s p : List Execution) (d : Execution) → x ≡ s ++ outside o p
    → cond (is_some o) x (x ++ d ∷ []) ≡ s ++ outside o (p ++ d ∷ [])
one_more None x s p d e = ap (λ l. l ++ d ∷ []) e ∙ append_assoc s p (d ∷ [])
one_more (Some opened) x s p d e = e

-- the executed commands of the open part: those that are settled, and those that are pending outside a `repeat`
pub executed_is : (version : ℕ) (catalogue : List (List ℕ)) (e : List Statement) → AreClear version e
    → executed catalogue e ≡ settled catalogue e ++ outside (open_repeat e) (pending catalogue e)
executed_is version catalogue [] h = refl
executed_is version catalogue (Blank ∷ e) h = executed_is version catalogue e h.1
executed_is version catalogue (Fields n ∷ e) h = executed_is version catalogue e h.1
executed_is version catalogue (Catalogue ∷ e) h = refl
executed_is version catalogue (Warehouse ∷ e) h = refl
executed_is version catalogue (Season ∷ e) h = sym (outside_nothing (open_repeat e))
executed_is version catalogue (Repeat n ∷ e) h =
    executed_is version catalogue e h.1
    ∙ ap (λ l. settled catalogue e ++ l) (outside_none _ (pending catalogue e) (none_is (open_repeat e) (right (is_some (open_section e)) _ h.0.placed)) ∙ sym (once (pending catalogue e)))
    ∙ sym (append-nil _)
executed_is version catalogue (End ∷ e) h =
    ap (λ l. l ++ repeated (repetitions (open_repeat e)) (pending catalogue e))
    (executed_is version catalogue e h.1 ∙ ap (λ l. settled catalogue e ++ l) (outside_some (open_repeat e) (pending catalogue e) h.0.placed) ∙ append-nil (settled catalogue e))
    ∙ sym (append-nil _)
executed_is version catalogue (Command spoken ∷ e) h =
    one_more (open_repeat e) _ (settled catalogue e) (pending catalogue e) (execution catalogue e spoken) (executed_is version catalogue e h.1)
executed_is version catalogue (Wrong ∷ e) h = executed_is version catalogue e h.1

-- if no `repeat` is open
pub executed_outside : (version : ℕ) (catalogue : List (List ℕ)) (e : List Statement) → AreClear version e → open_repeat e ≡ None
    → executed catalogue e ≡ settled catalogue e ++ repeated 1 (pending catalogue e)
executed_outside version catalogue e h o =
    executed_is version catalogue e h ∙ ap (λ l. settled catalogue e ++ l) (outside_none _ (pending catalogue e) o ∙ sym (once (pending catalogue e)))

-- before the first section nothing is executed
pub record IsBare (catalogue : List (List ℕ)) (e : List Statement) : Type 0 where
  pub settled : settled catalogue e ≡ []
  pub pending : pending catalogue e ≡ []
  pub executed : executed catalogue e ≡ []
  pub ended : ended_parts catalogue e ≡ []
  pub names : closed_names e ≡ []

not_none : (o : Option ℕ) → is_some o ≡ true → o ≡ None → ⊥
not_none None h e = cc
not_none (Some n) h e = cc

pub stands : (o : Option ℕ) (s : Spoken) → Rattle.gc_script.specs.Faults.may_stand o s ≡ true → o ≡ None → ⊥
stands None s h e = cc
stands (Some n) s h e = cc

some_open : (version : ℕ) (e : List Statement) → AreClear version e → is_some (open_repeat e) ≡ true → is_some (open_section e) ≡ true
some_open version [] h o = cc
some_open version (Blank ∷ e) h o = some_open version e h.1 o
some_open version (Fields n ∷ e) h o = some_open version e h.1 o
some_open version (Catalogue ∷ e) h o = refl
some_open version (Warehouse ∷ e) h o = refl
some_open version (Season ∷ e) h o = some_open version e h.1 o
some_open version (Repeat n ∷ e) h o = left (is_some (open_section e)) _ h.0.placed
some_open version (End ∷ e) h o = cc
some_open version (Command spoken ∷ e) h o = some_open version e h.1 o
some_open version (Wrong ∷ e) h o = some_open version e h.1 o

pub bare : (version : ℕ) (catalogue : List (List ℕ)) (e : List Statement) → AreClear version e → open_section e ≡ None → IsBare catalogue e
bare version catalogue [] h o = record { settled = refl; pending = refl; executed = refl; ended = refl; names = refl }
bare version catalogue (Blank ∷ e) h o = let b = bare version catalogue e h.1 o in record { settled = b.settled; pending = b.pending; executed = b.executed; ended = b.ended; names = b.names }
bare version catalogue (Fields n ∷ e) h o = let b = bare version catalogue e h.1 o in record { settled = b.settled; pending = b.pending; executed = b.executed; ended = b.ended; names = b.names }
bare version catalogue (Catalogue ∷ e) h o = cc
bare version catalogue (Warehouse ∷ e) h o = cc
bare version catalogue (Season ∷ e) h o = absurd (not_none _ (left (is_some (open_section e)) _ (right _ _ h.0.placed)) o)
bare version catalogue (Repeat n ∷ e) h o = absurd (not_none _ (left (is_some (open_section e)) _ h.0.placed) o)
bare version catalogue (End ∷ e) h o = absurd (not_none _ (some_open version e h.1 h.0.placed) o)
bare version catalogue (Command spoken ∷ e) h o = absurd (stands _ spoken h.0.placed o)
bare version catalogue (Wrong ∷ e) h o = let b = bare version catalogue e h.1 o in record { settled = b.settled; pending = b.pending; executed = b.executed; ended = b.ended; names = b.names }

same_operation : (at : List ℕ → ℕ) (a b : List (List ℕ)) (o : Option ℕ) (s : Spoken) → Rattle.gc_script.specs.Faults.may_stand o s ≡ true → ((w : ℕ) → o ≡ Some (suc w) → a ≡ b)
    → operation at (place a) s ≡ operation at (place b) s
same_operation at a b o (NewOf v n) h f = refl
same_operation at a b o (LetOf v w) h f = refl
same_operation at a b o (NilOf v) h f = refl
same_operation at a b o (SetOf v i w) h f = refl
same_operation at a b o (GetOf v w i) h f = refl
same_operation at a b None (CatOf v name) h f = cc
same_operation at a b (Some zero) (CatOf v name) h f = cc
same_operation at a b (Some (suc w)) (CatOf v name) h f = ap (λ names. operation at (place names) (CatOf v name)) (f w refl)
same_operation at a b o (PutOf v n) h f = refl
same_operation at a b o (SayOf label v) h f = refl
same_operation at a b o (SumOf label v i limit) h f = refl
same_operation at a b o CollectOf h f = refl

pub same_execution : (version : ℕ) (catalogue : List (List ℕ)) (e : List Statement) (s : Spoken) → IsCatalogueKnown catalogue e → IsClear (context_of version e) (Command s)
    → execution catalogue e s ≡ execution_in (context_of version e) s
same_execution version catalogue e s a h =
    ap (λ (op : Op). record { line = next_line e; label = label_of s; op = op }) (sym (same_operation (place (known_names e)) (closed_names e) catalogue (open_section e) s h.placed a))

-- the content after one line more
pub content_step : (version : ℕ) (catalogue : List (List ℕ)) (e : List Statement) (s : Statement) → AreClear version e → IsClear (context_of version e) s → IsCatalogueKnown catalogue e
    → content_of catalogue (s ∷ e) ≡ content_after (context_of version e) (content_of catalogue e) s
content_step version catalogue e Blank h k a = refl
content_step version catalogue e (Fields n) h k a = refl
content_step version catalogue e Catalogue h k a =
    let b = bare version catalogue e h (none_is _ (right _ _ k.placed)) in
    ap (λ (l : List (List Execution)). record (content_of catalogue e) { ended = l; settled = []; pending = [] }) (sym b.ended)
    ∙ ap (λ (l : List Execution). record (content_of catalogue e) { settled = l; pending = [] }) (sym b.settled)
    ∙ ap (λ (l : List Execution). record (content_of catalogue e) { pending = l }) (sym b.pending)
content_step version catalogue e Warehouse h k a =
    ap (λ (l : List Execution). close (open_section e) (record (content_of catalogue e) { ended = ended_parts catalogue e ++ l ∷ []; settled = []; pending = [] }))
    (executed_outside version catalogue e h (none_is _ (k.uncut refl)))
content_step version catalogue e Season h k a =
    ap (λ (l : List Execution). record (content_of catalogue e) { ended = ended_parts catalogue e ++ l ∷ []; settled = []; pending = [] })
    (executed_outside version catalogue e h (none_is _ (right (is_some (open_section e)) _ (right _ _ k.placed))))
content_step version catalogue e (Repeat n) h k a = refl
content_step version catalogue e End h k a = refl
content_step version catalogue e (Command spoken) h k a =
    ap (λ (d : Execution). record (content_of catalogue e) { pending = pending catalogue e ++ d ∷ [] }) (same_execution version catalogue e spoken a k)
content_step version catalogue e Wrong h k a = refl
