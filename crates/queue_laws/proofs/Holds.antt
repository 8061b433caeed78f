-- What is known of a queue between two events, by what was put in and what was taken out; and what the three kinds of event make of it.
use Rattle.std.proofs.Common.{ℕ, ◌≡◌, ◌⊎◌, suc, List, [], ◌∷◌, ◌++◌, length, refl, sym, ap, ◌∙◌, subst, Bool, true, false, Option, None, Some, ⊎_elim}
use Rattle.std.specs.Prelude.{if◌then◌else◌, slice_get}
use Rattle.std.proofs.lemmas.Bool.{false_from_ne_true, true≢false}
use Rattle.std.proofs.lemmas.Option.{same_Some}
use Rattle.plain_heap.specs.Paths.{Name}
use Rattle.gc_table.specs.AgreementLaws.{HasValue}
use Rattle.gc_table.specs.RunWorlds.{World, WorldObject, is_same, object_of, reference_of}
use Rattle.gc_table.proofs.Reading.{none-some}
use Rattle.queue_laws.specs.Queues.{AreDistinct, Item, Queue, behind, is_in, nodes_of, value_of}
use Rattle.queue_laws.proofs.Chains.{behind_none, distinct_snoc, get_in, get_more, in_more, in_snoc, length_snoc, next_at, next_snoc, node_at, node_of, nodes_append, same_name, snoc_cases}
use Rattle.queue_laws.proofs.Owners.{AreOwned}

module _ (q : Queue) where
  -- the nodes in order
  abbrev pub line : List Item → List Name
  line ps = q.dummy ∷ nodes_of ps

  pub record Holds (w : World) (ps ts : List Item) : Type 0 where
    pub chain : (name : Name) (object : WorldObject) → q.is_node name ≡ true → object_of w name ≡ Some object → reference_of object 0 ≡ behind (line ps) name
    pub distinct : AreDistinct (line ps)
    pub members : (name : Name) → is_in (line ps) name ≡ true → q.is_node name ≡ true
    pub exist : (name : Name) → is_in (line ps) name ≡ true → (object : WorldObject) × (object_of w name ≡ Some object)
    pub head : WorldObject
    pub there : object_of w q.object ≡ Some head
    pub node : Name
    pub is_at : slice_get (line ps) (length ts) ≡ Some node
    pub first : reference_of head 0 ≡ Some node
    pub last : (name : Name) → reference_of head 1 ≡ Some name → is_in (line ps) name ≡ true
    pub fifo : (p : ℕ) (x : Item) → slice_get ts p ≡ Some x → (y : Item) × (slice_get ps p ≡ Some y) × (y.node ≡ x.node) × (y.number ≡ x.number)
    pub numbers : (p : ℕ) (x : Item) → slice_get ps p ≡ Some x → HasValue w x.node x.number
    pub owned : AreOwned ps

  -- what an event does to nodes and to the queue's object: nodes keep their values, new ones refer to nothing, and fields change by these functions
  pub record Becomes (before after : World) (link : Name → Option Name → Option Name) (first last : Option Name → Option Name) : Type 0 where
    pub nodes : (name : Name) (object : WorldObject) → q.is_node name ≡ true → object_of before name ≡ Some object → (a : WorldObject) × (object_of after name ≡ Some a) × (reference_of a 0 ≡ link name (reference_of object 0)) × (a.value ≡ object.value)
    pub queue : (object : WorldObject) → object_of before q.object ≡ Some object → (a : WorldObject) × (object_of after q.object ≡ Some a) × (reference_of a 0 ≡ first (reference_of object 0)) × (reference_of a 1 ≡ last (reference_of object 1))
    pub made : (name : Name) (object : WorldObject) → object_of before name ≡ None → object_of after name ≡ Some object → reference_of object 0 ≡ None

  -- nodes and field 0 of the queue's object stay
  abbrev pub stays : Name → Option Name → Option Name
  stays name r = r

  abbrev pub remains : Option Name → Option Name
  remains r = r

  -- a node is put behind another
  abbrev pub linked : Name → Name → Name → Option Name → Option Name
  linked m n name r = if is_same (Some m) (Some name) then Some n else r

  -- a field of the queue's object changes
  abbrev pub moved : Name → Option Name → Option Name
  moved n r = Some n

  module _ (before after : World) (ps ts : List Item) (h : Holds before ps ts) where
    -- each node's field 0 afterwards
    chain_after : (link : Name → Option Name → Option Name) (first last : Option Name → Option Name) → Becomes before after link first last → ((name : Name) → is_in (line ps) name ≡ false → link name None ≡ None) → (name : Name) (object : WorldObject)
        → q.is_node name ≡ true → object_of after name ≡ Some object → reference_of object 0 ≡ link name (behind (line ps) name)
    chain_after link first last b quiet name object is at = by_object (object_of before name) refl
      where
        by_object : (o : Option WorldObject) → object_of before name ≡ o → reference_of object 0 ≡ link name (behind (line ps) name)
        by_object (Some old) there =
            let r = b.nodes name old is there in
            ap (λ (x : WorldObject). reference_of x 0) (same_Some object r.0 (sym at ∙ r.1)) ∙ (r.2 ∙ ap (link name) (h.chain name old is there))
        by_object None there =
            let out : is_in (line ps) name ≡ false = false_from_ne_true (is_in (line ps) name) (λ t. let x = h.exist name t in none-some x.0 (sym there ∙ x.1)) in
            b.made name object there at ∙ (sym (quiet name out) ∙ ap (link name) (sym (behind_none (line ps) name out)))

    exist_after : (link : Name → Option Name → Option Name) (first last : Option Name → Option Name) → Becomes before after link first last → (name : Name) → is_in (line ps) name ≡ true → (object : WorldObject) × (object_of after name ≡ Some object)
    exist_after link first last b name i = let x = h.exist name i in let r = b.nodes name x.0 (h.members name i) x.1 in (r.0, r.1)

    numbers_after : (link : Name → Option Name → Option Name) (first last : Option Name → Option Name) → Becomes before after link first last → (p : ℕ) (x : Item) → slice_get ps p ≡ Some x → HasValue after x.node x.number
    numbers_after link first last b p x e =
        let v = h.numbers p x e in
        let r = b.nodes x.node v.0 (h.members x.node (get_in (line ps) (suc p) x.node (node_of ps p x e))) v.1 in
        (r.0, r.1, r.3 ∙ v.2)

    -- nothing is put in or taken out
    pub rests : (last : Option Name → Option Name) → Becomes before after stays remains last → ((name : Name) → last (reference_of h.head 1) ≡ Some name → is_in (line ps) name ≡ true) → Holds after ps ts
    rests last b ends =
        let r = b.queue h.head h.there in
        record {
          chain = chain_after stays remains last b (λ name out. refl);
          distinct = h.distinct;
          members = h.members;
          exist = exist_after stays remains last b;
          head = r.0;
          there = r.1;
          node = h.node;
          is_at = h.is_at;
          first = r.2 ∙ h.first;
          last = λ name e. ends name (sym r.3 ∙ e);
          fifo = h.fifo;
          numbers = numbers_after stays remains last b;
          owned = h.owned;
        }

    -- the node behind the first becomes the first
    pub advances : (i : ℕ) (new : Name) → Becomes before after stays (moved new) remains → behind (line ps) h.node ≡ Some new → Holds after ps (ts ++ record { seat = i; node = new; number = value_of (object_of before new) } ∷ [])
    advances i new b next =
        let r = b.queue h.head h.there in
        record {
          chain = chain_after stays (moved new) remains b (λ name out. refl);
          distinct = h.distinct;
          members = h.members;
          exist = exist_after stays (moved new) remains b;
          head = r.0;
          there = r.1;
          node = new;
          is_at = ap (λ (n : ℕ). slice_get (line ps) n) (length_snoc ts item) ∙ second;
          first = r.2;
          last = λ name e. h.last name (sym r.3 ∙ e);
          fifo =
              λ p x e.
              ⊎_elim
              (λ (f : slice_get ts p ≡ Some x). h.fifo p x f)
              (λ (f : (p ≡ length ts) × (x ≡ item)).
              let y = node_at ps (length ts) new second in
              let v = h.numbers (length ts) y.0 y.1 in (
                y.0,
                ap (λ (n : ℕ). slice_get ps n) f.0 ∙ y.1,
                y.2 ∙ ap (λ (z : Item). z.node) (sym f.1),
                sym v.2 ∙ (ap value_of (sym (ap (λ (n : Name). object_of before n) (sym y.2) ∙ v.1)) ∙ ap (λ (z : Item). z.number) (sym f.1)),
              ))
              (snoc_cases ts item x p e);
          numbers = numbers_after stays (moved new) remains b;
          owned = h.owned;
        }
      where
        item : Item
        item = record { seat = i; node = new; number = value_of (object_of before new) }

        second : slice_get (nodes_of ps) (length ts) ≡ Some new
        second = sym (next_at (line ps) (length ts) h.node h.distinct h.is_at) ∙ next

    -- a node comes behind one, behind which there was none
    pub links : (i : ℕ) (m new : Name) (object : WorldObject) → Becomes before after (linked m new) remains remains → is_in (line ps) m ≡ true → behind (line ps) m ≡ None → q.is_node new ≡ true → is_in (line ps) new ≡ false → new.section ≡ i → object_of before new ≡ Some object
        → Holds after (ps ++ record { seat = i; node = new; number = value_of (object_of before new) } ∷ []) ts
    links i m new object b within alone is fresh own exists =
        let r = b.queue h.head h.there in
        record {
          chain =
              λ name o is_node at.
              chain_after (linked m new) remains remains b out_of name o is_node at
              ∙ (sym (next_snoc (line ps) m new name within alone) ∙ ap (λ (l : List Name). behind l name) (sym longer));
          distinct = subst AreDistinct (sym longer) (distinct_snoc (line ps) new h.distinct fresh);
          members = λ name t. ⊎_elim (λ (f : is_in (line ps) name ≡ true). h.members name f) (λ (f : new ≡ name). subst (λ (z : Name). q.is_node z ≡ true) f is) (in_new name t);
          exist = λ name t. ⊎_elim (λ (f : is_in (line ps) name ≡ true). exist_after (linked m new) remains remains b name f) (λ (f : new ≡ name). subst (λ (z : Name). (o : WorldObject) × (object_of after z ≡ Some o)) f (kept.0, kept.1)) (in_new name t);
          head = r.0;
          there = r.1;
          node = h.node;
          is_at = ap (λ (l : List Name). slice_get l (length ts)) longer ∙ get_more (line ps) (new ∷ []) (length ts) h.node h.is_at;
          first = r.2 ∙ h.first;
          last = λ name e. subst (λ (l : List Name). is_in l name ≡ true) (sym longer) (in_more (line ps) (new ∷ []) name (h.last name (sym r.3 ∙ e)));
          fifo = λ p x e. let y = h.fifo p x e in (y.0, get_more ps (item ∷ []) p y.0 y.1, y.2, y.3);
          numbers =
              λ p x e.
              ⊎_elim
              (λ (f : slice_get ps p ≡ Some x). numbers_after (linked m new) remains remains b p x f)
              (λ (f : (p ≡ length ps) × (x ≡ item)). subst (λ (z : Item). HasValue after z.node z.number) (sym f.1) (kept.0, kept.1, kept.3 ∙ ap value_of (sym exists)))
              (snoc_cases ps item x p e);
          owned =
              λ p x e.
              ⊎_elim
              (λ (f : slice_get ps p ≡ Some x). h.owned p x f)
              (λ (f : (p ≡ length ps) × (x ≡ item)). subst (λ (z : Item). z.node.section ≡ z.seat) (sym f.1) own)
              (snoc_cases ps item x p e);
        }
      where
        item : Item
        item = record { seat = i; node = new; number = value_of (object_of before new) }

        longer : line (ps ++ item ∷ []) ≡ line ps ++ new ∷ []
        longer = ap (λ (l : List Name). q.dummy ∷ l) (nodes_append ps (item ∷ []))

        in_new : (name : Name) → is_in (line (ps ++ item ∷ [])) name ≡ true → (is_in (line ps) name ≡ true) ⊎ (new ≡ name)
        in_new name t = in_snoc (line ps) new name (subst (λ (l : List Name). is_in l name ≡ true) longer t)

        kept : (a : WorldObject) × (object_of after new ≡ Some a) × (reference_of a 0 ≡ linked m new new (reference_of object 0)) × (a.value ≡ object.value)
        kept = b.nodes new object is exists

        out_of : (name : Name) → is_in (line ps) name ≡ false → linked m new name None ≡ None
        out_of name out =
            ap (λ (z : Bool). if z then Some new else None)
            (false_from_ne_true (is_same (Some m) (Some name)) (λ t. true≢false (sym (subst (λ (z : Name). is_in (line ps) z ≡ true) (same_name m name t) within) ∙ out)))
