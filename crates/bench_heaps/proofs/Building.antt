-- A node is made and joined to its subtrees.
use Rattle.std.proofs.Common.{ℕ, suc, ◌≡◌, ◌≢◌, ◌+◌, ◌<◌, List, [], ◌∷◌, ◌++◌, length, refl, sym, ap, ◌∙◌, subst, arith, zero, ◌*◌, ◌≤◌, ◌^◌}
use Rattle.std.specs.Prelude.{Some, slice_get, slice_set, slice_index_or, None}
use Rattle.std.proofs.lemmas.List.{get_or-set_same, get_or-set_other, append-nil}
use Rattle.plain_heap.specs.declared.object.Ref.TheVariants as refs
use Rattle.plain_heap.specs.declared.object.Object.{Object}
use Rattle.plain_heap.specs.declared.operation.Op.TheVariants as ops
use Rattle.plain_heap.specs.PlainHeap.{Heap, heap_variables, variable}
use Rattle.plain_heap.specs.PlainStep.{field_of, new_object, replaced_by, stored_at, with_field, followed}
use Rattle.seat_turns.specs.Plain.{Steps}
use Rattle.bench_heaps.specs.Trees.{Builds, IsTree, JoinsTrees, full, nodes, LeavesObjects, GrowsHeap}
use Rattle.std.proofs.Math.Nat.{pow-suc, pow-le-pow_right}
use Rattle.plain_heap.specs.declared.object.Ref.{Ref}

-- The nodes of a tree.
-- they are only those of the objects
pub followed-same : (x y : Heap) (ref : Ref) (i : ℕ) → y.objects ≡ x.objects → followed y None ref i ≡ followed x None ref i
followed-same x y refs.Nil i e = refl
followed-same x y (refs.Own n) i e = ap (λ os. field_of (slice_get os n) i) e
followed-same x y (refs.Cat n) i e = refl

pub nodes-same : (x y : Heap) (k : ℕ) (ref : Ref) → y.objects ≡ x.objects → nodes y k ref ≡ nodes x k ref
nodes-same x y zero refs.Nil e = refl
nodes-same x y (suc k) refs.Nil e = refl
nodes-same x y zero (refs.Own n) e = refl
nodes-same x y zero (refs.Cat n) e = refl
nodes-same x y (suc k) (refs.Own n) e =
    let f = λ (i : ℕ). ap (nodes y k) (followed-same x y (refs.Own n) i e) ∙ nodes-same x y k (followed x None (refs.Own n) i) e in
    λ j. 1 + f 0 j + f 1 j
nodes-same x y (suc k) (refs.Cat n) e =
    let f = λ (i : ℕ). ap (nodes y k) (followed-same x y (refs.Cat n) i e) ∙ nodes-same x y k (followed x None (refs.Cat n) i) e in
    λ j. 1 + f 0 j + f 1 j

-- they are at most those of a whole tree
pub nodes-few : (x : Heap) (k : ℕ) (ref : Ref) → nodes x k ref ≤ full k
nodes-few x zero refs.Nil = omega arith
nodes-few x (suc k) refs.Nil = omega arith
nodes-few x zero (refs.Own n) = omega arith
nodes-few x zero (refs.Cat n) = omega arith
nodes-few x (suc k) (refs.Own n) = omega (arith, nodes-few x k (followed x None (refs.Own n) 0), nodes-few x k (followed x None (refs.Own n) 1))
nodes-few x (suc k) (refs.Cat n) = omega (arith, nodes-few x k (followed x None (refs.Cat n) 0), nodes-few x k (followed x None (refs.Cat n) 1))

-- of a whole tree they are all
pub tree-nodes : (x : Heap) (d : ℕ) (ref : Ref) → IsTree x.objects d ref → nodes x (suc d) ref ≡ full d
tree-nodes x zero ref t =
    let left : followed x None (refs.Own t.0) 0 ≡ refs.Nil = ap (λ o. field_of o 0) t.3 ∙ t.4 in
    let right : followed x None (refs.Own t.0) 1 ≡ refs.Nil = ap (λ o. field_of o 1) t.3 ∙ t.5 in
    ap (nodes x 1) t.2 ∙ (λ j. 1 + nodes x 0 (left j) + nodes x 0 (right j))
tree-nodes x (suc d) ref t =
    let left : followed x None (refs.Own t.0) 0 ≡ field_of (Some t.1) 0 = ap (λ o. field_of o 0) t.3 in
    let right : followed x None (refs.Own t.0) 1 ≡ field_of (Some t.1) 1 = ap (λ o. field_of o 1) t.3 in
    let a : nodes x (suc d) (followed x None (refs.Own t.0) 0) ≡ full d = ap (nodes x (suc d)) left ∙ tree-nodes x d (field_of (Some t.1) 0) t.4 in
    let b : nodes x (suc d) (followed x None (refs.Own t.0) 1) ≡ full d = ap (nodes x (suc d)) right ∙ tree-nodes x d (field_of (Some t.1) 1) t.5 in
    ap (nodes x (suc (suc d))) t.2 ∙ omega (arith, a, b)

-- so many, as they are mostly told
pub full-power : (d : ℕ) → full d + 1 ≡ 2 ^ (d + 1)
full-power zero = refl
full-power (suc d) =
    let e = full-power d in
    let next : suc d + 1 ≡ suc (d + 1) = omega arith in
    let p : 2 ^ (suc d + 1) ≡ 2 ^ (d + 1) * 2 = ap (λ k. 2 ^ k) next ∙ pow-suc 2 (d + 1) in
    omega (arith, e, p)

pub full-small : (d m : ℕ) → d ≤ m → full d < 2 ^ (m + 1)
full-small d m low = let p : 2 ^ (d + 1) ≤ 2 ^ (m + 1) = pow-le-pow_right (omega arith) (omega (arith, low)) in omega (arith, full-power d, p)

-- A walk of a tree, node by node.
-- A tree stays one while objects are made.
-- what is found in a list is found in a longer one
pub got-on : {A : Type 0} (xs ys : List A) (n : ℕ) (x : A) → slice_get xs n ≡ Some x → slice_get (xs ++ ys) n ≡ Some x
got-on [] ys n x e = absurd (cc)
got-on (z ∷ zs) ys zero x e = e
got-on (z ∷ zs) ys (suc n) x e = got-on zs ys n x e

pub tree-on : (xs ys : List Object) (d : ℕ) (ref : Ref) → IsTree xs d ref → IsTree (xs ++ ys) d ref
tree-on xs ys zero ref t = (t.0, t.1, t.2, got-on xs ys t.0 t.1 t.3, t.4, t.5)
tree-on xs ys (suc d) ref t =
    (t.0, t.1, t.2, got-on xs ys t.0 t.1 t.3, tree-on xs ys d (field_of (Some t.1) 0) t.4, tree-on xs ys d (field_of (Some t.1) 1) t.5)

-- a tree in a variable that stays is a tree after the heap has grown
pub tree-grows : (v u d : ℕ) (x y : Heap) → u < v → GrowsHeap v x y → IsTree x.objects d (variable x u) → IsTree y.objects d (variable y u)
tree-grows v u d x y low g t =
    subst (λ r. IsTree y.objects d r) (sym (g.variables u low)) (subst (λ os. IsTree os d (variable x u)) (sym g.objects) (tree-on x.objects g.more d (variable x u) t))

append_same : {A : Type 0} (xs ys zs : List A) → (xs ++ ys) ++ zs ≡ xs ++ (ys ++ zs)
append_same [] ys zs = refl
append_same (x ∷ xs) ys zs = ap (λ l. x ∷ l) (append_same xs ys zs)

pub grows-none : (v : ℕ) (x : Heap) → GrowsHeap v x x
grows-none v x = record { more = []; objects = sym (append-nil x.objects); variables = λ u low. refl }

pub grows-join : (v : ℕ) (x y z : Heap) → GrowsHeap v x y → GrowsHeap v y z → GrowsHeap v x z
grows-join v x y z a b =
    record {
      more = a.more ++ b.more;
      objects = b.objects ∙ (ap (λ l. l ++ b.more) a.objects ∙ append_same x.objects a.more b.more);
      variables = λ u low. b.variables u low ∙ a.variables u low;
    }

pub grows-less : (v u : ℕ) (x y : Heap) → u ≤ v → GrowsHeap v x y → GrowsHeap u x y
grows-less v u x y low g = record { more = g.more; objects = g.objects; variables = λ w lower. g.variables w (omega (arith, lower, low)) }

pub grows-leaves : (v : ℕ) (x y : Heap) → LeavesObjects v x y → GrowsHeap v x y
grows-leaves v x y l = record { more = []; objects = l.objects ∙ sym (append-nil x.objects); variables = l.variables }

pub leaves-join : (v : ℕ) (x y z : Heap) → LeavesObjects v x y → LeavesObjects v y z → LeavesObjects v x z
leaves-join v x y z a b = record { objects = b.objects ∙ a.objects; variables = λ u low. b.variables u low ∙ a.variables u low }

pub leaves-less : (v u : ℕ) (x y : Heap) → u ≤ v → LeavesObjects v x y → LeavesObjects u x y
leaves-less v u x y low l = record { objects = l.objects; variables = λ w lower. l.variables w (omega (arith, lower, low)) }

nodes_more : (x : Heap) (k : ℕ) (ref : Ref) → (ref ≡ refs.Nil → ⊥) → nodes x (suc k) ref ≡ 1 + nodes x k (followed x None ref 0) + nodes x k (followed x None ref 1)
nodes_more x k refs.Nil some = absurd (some refl)
nodes_more x k (refs.Own n) some = refl
nodes_more x k (refs.Cat n) some = refl

-- variable w becomes subtree i of the node in variable v
pub looked : (w v i : ℕ) (x y : Heap) → w < heap_variables → Steps (ops.Get w v i) x y → (variable y w ≡ followed x None (variable x v) i) × LeavesObjects w x y
looked w v i x y low s = (
  ap (λ vs. slice_index_or vs w refs.Nil) s.variables ∙ get_or-set_same x.variables w (followed x None (variable x v) i) refs.Nil (omega (arith, low, s.count)),
  record {
    objects = s.objects;
    variables = λ u lower. ap (λ vs. slice_index_or vs u refs.Nil) s.variables ∙ get_or-set_other x.variables w u (followed x None (variable x v) i) refs.Nil (λ e. let e' : u ≡ w = e in omega (arith, e', lower));
  },
)

-- a variable is made nil
pub forgotten : (v : ℕ) (x y : Heap) → Steps (ops.Nil v) x y → LeavesObjects v x y
forgotten v x y s =
    record {
      objects = s.objects;
      variables = λ u lower. ap (λ vs. slice_index_or vs u refs.Nil) s.variables ∙ get_or-set_other x.variables v u refs.Nil refs.Nil (λ e. let e' : u ≡ v = e in omega (arith, e', lower));
    }

-- both subtrees were counted, one after the other
pub counted-both :
    (v k l r : ℕ) (x y z w q : Heap) → (variable x v ≡ refs.Nil → ⊥) → v + 1 < heap_variables → Steps (ops.Get (v + 1) v 0) x y → l ≡ nodes y k (variable y (v + 1)) → LeavesObjects (v + 1 + 1) y z
    → Steps (ops.Get (v + 1) v 1) z w → r ≡ nodes w k (variable w (v + 1)) → LeavesObjects (v + 1 + 1) w q → (1 + l + r ≡ nodes x (suc k) (variable x v)) × LeavesObjects (v + 1) x q
counted-both v k l r x y z w q some low first left leaves second right leaves' =
    let a = looked (v + 1) v 0 x y low first in
    let b = looked (v + 1) v 1 z w low second in
    let one : LeavesObjects (v + 1) y z = leaves-less (v + 1 + 1) (v + 1) y z (omega arith) leaves in
    let upto : LeavesObjects (v + 1) x z = leaves-join (v + 1) x y z a.1 one in
    let same : variable z v ≡ variable x v = upto.variables v (omega arith) in
    let l' : l ≡ nodes x k (followed x None (variable x v) 0) = left ∙ (nodes-same x y k (variable y (v + 1)) a.1.objects ∙ ap (nodes x k) a.0) in
    let there : variable w (v + 1) ≡ followed x None (variable x v) 1 = b.0 ∙ (followed-same x z (variable z v) 1 upto.objects ∙ ap (λ ref. followed x None ref 1) same) in
    let r' : r ≡ nodes x k (followed x None (variable x v) 1) = right ∙ (nodes-same x w k (variable w (v + 1)) (b.1.objects ∙ upto.objects) ∙ ap (nodes x k) there) in (
      (λ i. 1 + l' i + r' i) ∙ sym (nodes_more x k (variable x v) some),
      leaves-join (v + 1) x z q upto (leaves-join (v + 1) z w q b.1 (leaves-less (v + 1 + 1) (v + 1) w q (omega arith) leaves')),
    )

got_last : {A : Type 0} (xs : List A) (x : A) → slice_get (xs ++ x ∷ []) (length xs) ≡ Some x
got_last [] x = refl
got_last (y ∷ ys) x = got_last ys x

set_last : {A : Type 0} (xs : List A) (x y : A) → slice_set (xs ++ x ∷ []) (length xs) y ≡ xs ++ y ∷ []
set_last [] x y = refl
set_last (z ∷ zs) x y = ap (λ l. z ∷ l) (set_last zs x y)

-- the newest object stands in variable v, and these were made before
pub record IsNewest (v : ℕ) (before : List Object) (object : Object) (x : Heap) : Type 0 where
  pub objects : x.objects ≡ before ++ object ∷ []
  pub names : variable x v ≡ refs.Own (length before)

-- it was made
pub newest-made : (v : ℕ) (x y : Heap) → v < heap_variables → Steps (ops.New v 0) x y → IsNewest v x.objects (new_object 0) y × ((u : ℕ) → u ≢ v → variable y u ≡ variable x u)
newest-made v x y low s = (
  record { objects = s.objects; names = ap (λ vs. slice_index_or vs v refs.Nil) s.variables ∙ get_or-set_same x.variables v (refs.Own (length x.objects)) refs.Nil (omega (arith, low, s.count)) },
  λ u other. ap (λ vs. slice_index_or vs u refs.Nil) s.variables ∙ get_or-set_other x.variables v u (refs.Own (length x.objects)) refs.Nil other,
)

-- a subtree was stored in it
pub newest-stored : (v i w : ℕ) (before : List Object) (o : Object) (x y : Heap) → IsNewest v before o x → Steps (ops.Set v i w) x y
    → IsNewest v before (with_field o i (variable x w)) y × (y.variables ≡ x.variables)
newest-stored v i w before o x y n s =
    let f = λ (object : Object). with_field object i (variable x w) in
    let got : slice_get x.objects (length before) ≡ Some o = ap (λ os. slice_get os (length before)) n.objects ∙ got_last before o in
    let stays : y.variables ≡ x.variables = s.variables ∙ (ap (λ r. (stored_at x r f).variables) n.names ∙ ap (λ q. (replaced_by x (length before) f q).variables) got) in (
      record {
        objects =
            s.objects ∙ (ap (λ r. (stored_at x r f).objects) n.names ∙ (ap (λ q. (replaced_by x (length before) f q).objects) got ∙ (ap (λ os. slice_set os (length before) (f o)) n.objects ∙ set_last before o (f o))));
        names = ap (λ vs. slice_index_or vs v refs.Nil) stays ∙ n.names;
      },
      stays,
    )

-- a leaf
pub leaf-built : (v : ℕ) (x y : Heap) → v < heap_variables → Steps (ops.New v 0) x y → Builds 0 v x y
leaf-built v x y low s =
    let m = newest-made v x y low s in
    record {
      grows = record { more = new_object 0 ∷ []; objects = m.0.objects; variables = λ u lower. m.1 u (λ e. let e' : u ≡ v = e in omega (arith, e', lower)) };
      tree = (length x.objects, new_object 0, m.0.names, ap (λ os. slice_get os (length x.objects)) m.0.objects ∙ got_last x.objects (new_object 0), refl, refl);
    }

-- a node, with the trees of two variables
pub node-joined : (v : ℕ) (x y z w : Heap) → v < heap_variables → Steps (ops.New v 0) x y → Steps (ops.Set v 0 (v + 1)) y z → Steps (ops.Set v 1 (v + 2)) z w → JoinsTrees v x w
node-joined v x y z w low new first second = λ d left right.
    let m = newest-made v x y low new in
    let p = newest-stored v 0 (v + 1) x.objects (new_object 0) y z m.0 first in
    let q = newest-stored v 1 (v + 2) x.objects (with_field (new_object 0) 0 (variable y (v + 1))) z w p.0 second in
    let o : Object = with_field (with_field (new_object 0) 0 (variable y (v + 1))) 1 (variable z (v + 2)) in
    let l : variable y (v + 1) ≡ variable x (v + 1) = m.1 (v + 1) (λ e. let e' : v + 1 ≡ v = e in omega (arith, e')) in
    let r : variable z (v + 2) ≡ variable x (v + 2) = ap (λ vs. slice_index_or vs (v + 2) refs.Nil) p.1 ∙ m.1 (v + 2) (λ e. let e' : v + 2 ≡ v = e in omega (arith, e')) in
    record {
      grows =
          record {
            more = o ∷ [];
            objects = q.0.objects;
            variables = λ u lower. ap (λ vs. slice_index_or vs u refs.Nil) (q.1 ∙ p.1) ∙ m.1 u (λ e. let e' : u ≡ v = e in omega (arith, e', lower));
          };
      tree = (
        length x.objects,
        o,
        q.0.names,
        ap (λ os. slice_get os (length x.objects)) q.0.objects ∙ got_last x.objects o,
        subst (λ os. IsTree os d (field_of (Some o) 0)) (sym q.0.objects) (tree-on x.objects (o ∷ []) d (field_of (Some o) 0) (subst (λ ref. IsTree x.objects d ref) (sym l) left)),
        subst (λ os. IsTree os d (field_of (Some o) 1)) (sym q.0.objects) (tree-on x.objects (o ∷ []) d (field_of (Some o) 1) (subst (λ ref. IsTree x.objects d ref) (sym r) right)),
      );
    }

-- both subtrees were made before it
pub tree-built : (d v : ℕ) (x a b w : Heap) → Builds d (v + 1) x a → Builds d (v + 2) a b → JoinsTrees v b w → Builds (suc d) v x w
tree-built d v x a b w left right joins =
    let n = joins d (tree-grows (v + 2) (v + 1) d a b (omega arith) right.grows left.tree) right.tree in
    record { grows = grows-join v x a w (grows-less (v + 1) v x a (omega arith) left.grows) (grows-join v a b w (grows-less (v + 2) v a b (omega arith) right.grows) n.grows); tree = n.tree }
