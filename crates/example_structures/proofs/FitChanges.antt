-- That a call which makes or changes an object fits a queue, and what its log tells of the variables then.
use Rattle.std.proofs.Common.{ℕ, ◌≡◌, ◌≢◌, ◌<◌, ◌+◌, ◌-◌, ◌==◌, ◌&&◌, ◌||◌, ◌∙◌, ⊎_elim, List, [], ◌∷◌, ◌++◌, append_assoc, ap, arith, get_or-set_same, length, not, refl, subst, sym, Bool, true, false, None, Some}
use Rattle.std.specs.Prelude.{if◌then◌else◌}
use Rattle.std.proofs.lemmas.Bool.{and_from, cases_eq, ne_eqb}
use Rattle.mark_core.specs.Bits.{reference_in}
use Rattle.mark_core.specs.Cards.{card_of}
use Rattle.mark_core.specs.Numbers.{section_variables}
use Rattle.mark_core.specs.Seats.{used_in}
use Rattle.mark_core.specs.Steps.MutatorSteps.{seat_variable as word_in}
use Rattle.mark_core.specs.declared.kinds.Step.{Step}
use Rattle.mark_core.specs.declared.kinds.Step.TheVariants.{CheckCard, DirtyCard, ExchangeField, HoldRoot, StoreField, StoreNew}
use Rattle.mark_core.specs.declared.seat.SeatState.{SeatState}
use Rattle.alloc_cache.specs.Making.{making_steps, nil_fields}
use Rattle.card_clean.specs.Barrier.{card_steps, cell_in, seen_to, was_dirty}
use Rattle.gc_table.specs.Lending.{leaves_variable}
use Rattle.gc_table.specs.Log.{all_steps, event, events, steps_of}
use Rattle.gc_table.specs.Running.{AllSeen}
use Rattle.gc_table.specs.Seats.{did, state_of, view_of}
use Rattle.gc_table.specs.declared.view.Entry.{Entry}
use Rattle.gc_table.proofs.Running.{ran-events, ran-shape}
use Rattle.mutator_ops.specs.Sharing.{FollowsFound, SetsField, next_word}
use Rattle.seat_turns.specs.Exchanging.{ExchangesField}
use Rattle.seat_turns.specs.Sharing.{FollowsField, MakesSharedAfter}
use Rattle.queue_laws.specs.Making.{Making, makings, nothing_made}
use Rattle.queue_laws.specs.QueueLogs.{fits, is_fresh, is_linked}
use Rattle.queue_laws.specs.Reads.{Reading, readings, starting}
use Rattle.queue_laws.proofs.FitSteps.{linked_join}
use Rattle.queue_laws.proofs.MakeLogs.{makings_join}
use Rattle.queue_laws.proofs.ReadLogs.{readings_join}
use Rattle.shared_heap.specs.declared.mutator.SharedMutator.{SharedMutator}
use Rattle.example_structures.specs.Fitting.{AddsFitting, Began, FitsSince, HasFresh, HasRead, fit_all, hands, since}
use Rattle.example_structures.proofs.Called.{env-long, made-all, made-other, made-ran}
use Rattle.example_structures.proofs.Changed.{all_of, heap-objects, spares_objects, steps-all}
use Rattle.example_structures.proofs.FitCalls.{Leaves, adds, heap-leaves, leaves-fits, leaves-fresh, own-whole, since-ran}
use Rattle.example_structures.proofs.FitLogs.{fit-spared, keeps_made, linked-kept, made-assigned, made-kept, read-held, word-assigned, word-kept}

steps_join : (xs ys : List Entry) → steps_of (xs ++ ys) ≡ steps_of xs ++ steps_of ys
steps_join [] ys = refl
steps_join (x ∷ xs) ys = ap (λ (l : List Step). x.step ∷ l) (steps_join xs ys)

-- the first step fits, and those behind it change no object
fit_first : (fields : ℕ) (s : SeatState) (q : ℕ) (before es : List Entry) (step : Step) (ss : List Step) → steps_of es ≡ step ∷ ss → fits fields s (hands q) before step ≡ true → all_of spares_objects ss ≡ true → fit_all fields s (hands q) before es ≡ true
fit_first fields s q before [] step ss e a c = absurd (cc)
fit_first fields s q before (x ∷ xs) step ss e a c =
    let head : x.step ≡ step = cc in
    let rest : steps_of xs ≡ ss = cc in
    and_from (fits fields s (hands q) before x.step) (fit_all fields s (hands q) (before ++ x ∷ []) xs) (ap (fits fields s (hands q) before) head ∙ a)
    (fit-spared fields s (hands q) (before ++ x ∷ []) xs (steps-all spares_objects xs ∙ (ap (all_of spares_objects) rest ∙ c)))

module _ (x y : SharedMutator) where
  -- what a field was found to have, its variable has now
  pub get-read : (q w v i : ℕ) (b : Began) → FitsSince q b x → v ≢ w → v < section_variables → w < section_variables → FollowsField w v i (view_of x.seat) (view_of y.seat) → HasRead v w i b y × (0 < word_in (state_of y.seat) w → 0 < word_in (state_of x.seat) v)
  get-read q w v i b p ne below low =
      ⊎_elim
      (λ t.
      let nil : word_in (state_of y.seat) w ≡ 0 = ap (λ (z : SeatState). word_in z w) t.1.state ∙ get_or-set_same (state_of x.seat).env w (reference_in 0) 0 inside in
      ((λ some. absurd (omega (arith, nil, some))), (λ some. absurd (omega (arith, nil, some)))))
      (λ t. ((λ some. found t.0 t.1 some), (λ some. t.0)))
    where
      inside : w < length (state_of x.seat).env
      inside = let long = env-long (view_of x.seat) x.seat.possible in omega (arith, low, long)

      found : 0 < word_in (state_of x.seat) v → (s : FollowsFound w v i (view_of x.seat) (view_of y.seat)) → 0 < word_in (state_of y.seat) w → (readings v w i (starting b.seat v) (since b y)).held ≡ true
      found is s some =
          let known : Reading = readings v w i (starting b.seat v) (since b x) in
          let seen = subst (λ (es : List Entry). AllSeen es (view_of x.seat)) s.events_are s.ran.seen in
          let whole : reference_in s.found ≡ s.found = own-whole (view_of x.seat) (word_in (state_of x.seat) v - 1) i s.found (seen.0.found refl) in
          let now : word_in (state_of y.seat) w ≡ reference_in s.found = ap (λ (z : SeatState). word_in z w) s.state ∙ get_or-set_same (state_of x.seat).env w (reference_in s.found) 0 inside in
          let told = p.told v w i below in
          ap (λ (l : List Entry). (readings v w i (starting b.seat v) l).held) (since-ran x y b p.log s.ran)
          ∙ (ap (λ (z : Reading). z.held) (readings_join v w i (starting b.seat v) (since b x) (did x.seat y.seat))
          ∙ (ap (λ (es : List Entry). (readings v w i known es).held) s.events_are ∙ read-held v w i (word_in (state_of x.seat) v - 1) s.found known ne (omega (arith, told, is)) (omega (arith, now, whole, some)) whole))

  -- an object was made
  module _ (w n : ℕ) (k : MakesSharedAfter w n (view_of x.seat) (view_of y.seat)) where
    abbrev cell : ℕ
    cell = k.makes.cell

    abbrev number : ℕ
    number = next_word k.came.state

    steps_are : steps_of (did x.seat y.seat) ≡ (steps_of (events (view_of x.seat) k.came) ++ making_steps k.came.shape.fields cell n number) ++ HoldRoot w (cell + 1) ∷ []
    steps_are =
        ap steps_of (ran-events (view_of x.seat) k.came (view_of y.seat) k.leaves.ran k.makes.creates.ran)
        ∙ (steps_join (events (view_of x.seat) k.came) (events k.came (view_of y.seat))
        ∙ (ap (λ (l : List Step). steps_of (events (view_of x.seat) k.came) ++ l) k.makes.creates.steps_are
        ∙ sym (append_assoc (steps_of (events (view_of x.seat) k.came)) (making_steps k.came.shape.fields cell n number) (HoldRoot w (cell + 1) ∷ []))))

    pub made-fits : w < section_variables → (q : ℕ) → w ≢ q → AddsFitting q x y
    made-fits low q other = λ b p.
        adds x y q b p (made-ran x y w n k) (fit-spared b.fields b.seat (hands q) (since b x) (did x.seat y.seat) (made-all x y spares_objects w n k heap-objects (λ c part word. refl) refl))
        (made-all x y (leaves_variable q) w n k (heap-leaves q) (λ c part word. refl) (ap not (ne_eqb w q other)))
        (λ v u f below.
        ⊎_elim
        (λ (same : v ≡ w).
        subst (λ (z : ℕ). (readings z u f (readings z u f (starting b.seat z) (since b x)) (did x.seat y.seat)).word ≡ word_in (state_of y.seat) z) (sym same)
        (word-assigned w u f (cell + 1) (readings w u f (starting b.seat w) (since b x)) (steps_of (events (view_of x.seat) k.came) ++ making_steps k.came.shape.fields cell n number) (did x.seat y.seat) steps_are
        ∙ sym (ap (λ (z : SeatState). word_in z w) k.makes.creates.state ∙ get_or-set_same k.came.state.env w (reference_in (cell + 1)) 0 inside)))
        (λ (ne : v ≢ w).
        word-kept v u f (readings v u f (starting b.seat v) (since b x)) (did x.seat y.seat) (made-all x y (leaves_variable v) w n k (heap-leaves v) (λ c part word. refl) (ap not (ne_eqb w v (λ e. ne (sym e)))))
        ∙ (p.told v u f below ∙ sym (made-other x y v w n ne k)))
        (cases_eq v w))
      where
        inside : w < length k.came.state.env
        inside =
            let long = env-long (view_of x.seat) x.seat.possible in
            let same : length k.came.state.env ≡ length (state_of x.seat).env = ap (λ (l : List ℕ). length l) k.leaves.words in
            omega (arith, low, long, same)

  -- the steps by which a node was made for variable 20
  pub making_is : (q n : ℕ) (b : Began) → FitsSince q b x → (k : MakesSharedAfter 20 n (view_of x.seat) (view_of y.seat))
      → (id : ℕ) × (ss : List Step) × (steps_of (did x.seat y.seat) ≡ ss ++ StoreNew k.makes.cell b.fields n ∷ StoreNew k.makes.cell (b.fields + 1) id ∷ HoldRoot 20 (k.makes.cell + 1) ∷ [])
  making_is q n b p k =
      let c : ℕ = k.makes.cell in
      let id : ℕ = next_word k.came.state in
      let first : List Step = steps_of (events (view_of x.seat) k.came) in
      let fields : k.came.shape.fields ≡ b.fields = ap (λ sh. sh.fields) (ran-shape (view_of x.seat) k.came k.leaves.ran) ∙ p.shape in (
        id,
        first ++ nil_fields c b.fields,
        steps_are 20 n k
            ∙ (ap (λ (z : ℕ). (first ++ making_steps z c n id) ++ HoldRoot 20 (c + 1) ∷ []) fields
            ∙ (ap (λ (l : List Step). l ++ HoldRoot 20 (c + 1) ∷ []) (sym (append_assoc first (nil_fields c b.fields) (StoreNew c b.fields n ∷ StoreNew c (b.fields + 1) id ∷ [])))
            ∙ append_assoc (first ++ nil_fields c b.fields) (StoreNew c b.fields n ∷ StoreNew c (b.fields + 1) id ∷ []) (HoldRoot 20 (c + 1) ∷ []))),
      )

  pub made-fresh : (q n : ℕ) (b : Began) → FitsSince q b x → MakesSharedAfter 20 n (view_of x.seat) (view_of y.seat) → HasFresh b y
  made-fresh q n b p k =
      let m = making_is q n b p k in
      ap (λ (l : List Entry). is_fresh b.fields 20 l) (since-ran x y b p.log (made-ran x y 20 n k))
      ∙ (ap (λ (z : Making). z.fresh) (makings_join b.fields 20 nothing_made (since b x) (did x.seat y.seat)) ∙ made-assigned b.fields 20 k.makes.cell n m.0 (makings b.fields 20 nothing_made (since b x)) m.1 (did x.seat y.seat) m.2)

  -- a reference was stored in a field
  setting_all : (P : Step → Bool) (v i w : ℕ) (b : Bool) (card : ℕ) (is_new dirty : Bool) → P (StoreField v i (Some w)) ≡ true → P (CheckCard card) ≡ true → P (DirtyCard card) ≡ true
      → all_of P (if b then [] else StoreField v i (Some w) ∷ (if is_new then [] else card_steps card dirty)) ≡ true
  setting_all P v i w true card is_new dirty a c d = refl
  setting_all P v i w false card true dirty a c d = and_from _ true a refl
  setting_all P v i w false card false true a c d = and_from _ _ a (and_from _ true c refl)
  setting_all P v i w false card false false a c d = and_from _ _ a (and_from _ _ c (and_from _ true d refl))

  pub set_all : (P : Step → Bool) (v i w : ℕ) → SetsField v i w (view_of x.seat) (view_of y.seat) → P (StoreField v i (Some w)) ≡ true → ((card : ℕ) → P (CheckCard card) ≡ true) → ((card : ℕ) → P (DirtyCard card) ≡ true) → all_steps P (did x.seat y.seat) ≡ true
  set_all P v i w s a c d =
      let card : ℕ = card_of (cell_in (state_of x.seat) v) in
      steps-all P (did x.seat y.seat)
      ∙ (ap (all_of P) s.steps_are ∙ setting_all P v i w (word_in (state_of x.seat) v == 0) card (used_in (state_of x.seat).cache (cell_in (state_of x.seat) v)) (was_dirty (did x.seat y.seat)) a (c card) (d card))

  pub set-leaves : (v i w : ℕ) → SetsField v i w (view_of x.seat) (view_of y.seat) → Leaves x y (λ (u : ℕ). Unit {0})
  set-leaves v i w s = record { ran = s.ran; spares = λ u a. set_all (leaves_variable u) v i w s refl (λ card. refl) (λ card. refl); words = λ u a. ap (λ (z : SeatState). word_in z u) s.state }

  pub set-fresh : (q v i w : ℕ) (b : Began) → FitsSince q b x → SetsField v i w (view_of x.seat) (view_of y.seat) → HasFresh b x → HasFresh b y
  set-fresh q v i w b p s = leaves-fresh x y q b p s.ran (set_all (keeps_made 20) v i w s refl (λ card. refl) (λ card. refl))

  card_rest : (b d : Bool) (card : ℕ) → all_of spares_objects (if b then [] else card_steps card d) ≡ true
  card_rest true d card = refl
  card_rest false true card = refl
  card_rest false false card = refl

  set_by : (nil is_new dirty : Bool) (q v i w card : ℕ) (b : Began) → steps_of (did x.seat y.seat) ≡ (if nil then [] else StoreField v i (Some w) ∷ (if is_new then [] else card_steps card dirty)) → fits b.fields b.seat (hands q) (since b x) (StoreField v i (Some w)) ≡ true
      → fit_all b.fields b.seat (hands q) (since b x) (did x.seat y.seat) ≡ true
  set_by true is_new dirty q v i w card b e a = fit-spared b.fields b.seat (hands q) (since b x) (did x.seat y.seat) (steps-all spares_objects (did x.seat y.seat) ∙ ap (all_of spares_objects) e)
  set_by false is_new dirty q v i w card b e a = fit_first b.fields b.seat q (since b x) (did x.seat y.seat) (StoreField v i (Some w)) (if is_new then [] else card_steps card dirty) e a (card_rest is_new dirty card)

  pub set-fits : (q v i w : ℕ) (b : Began) → FitsSince q b x → SetsField v i w (view_of x.seat) (view_of y.seat) → fits b.fields b.seat (hands q) (since b x) (StoreField v i (Some w)) ≡ true → FitsSince q b y
  set-fits q v i w b p s a =
      leaves-fits x y q b p (λ (u : ℕ). Unit {0}) (λ u. tt) (set-leaves v i w s)
      (set_by (word_in (state_of x.seat) v == 0) (used_in (state_of x.seat).cache (cell_in (state_of x.seat) v)) (was_dirty (did x.seat y.seat)) q v i w (card_of (cell_in (state_of x.seat) v)) b s.steps_are a)

  -- a field was exchanged
  pub rest_all : (P : Step → Bool) (u word : ℕ) (won : Bool) → ((card : ℕ) → P (CheckCard card) ≡ true) → ((card : ℕ) → P (DirtyCard card) ≡ true) → all_steps P (if won then seen_to (state_of x.seat) u word else []) ≡ true
  rest_all P u word false c d = refl
  rest_all P u word true c d = by_card (used_in (state_of x.seat).cache (cell_in (state_of x.seat) u)) (word == 1) (card_of (cell_in (state_of x.seat) u))
    where
      by_card : (is_new dirty : Bool) (card : ℕ) → all_steps P (if is_new then [] else event (CheckCard card) word ∷ (if dirty then [] else event (DirtyCard card) 1 ∷ [])) ≡ true
      by_card true dirty card = refl
      by_card false true card = and_from _ true (c card) refl
      by_card false false card = and_from _ _ (c card) (and_from _ true (d card) refl)

  module _ (u i e n : ℕ) (won : Bool) (s : ExchangesField u i e n won (view_of x.seat) (view_of y.seat)) where
    abbrev rest : List Entry
    rest = if won then seen_to (state_of x.seat) u s.exchanged.card_word else []

    pub exchanged-leaves : Leaves x y (λ (v : ℕ). Unit {0})
    exchanged-leaves =
        record {
          ran = s.ran;
          spares = λ v a. ap (all_steps (leaves_variable v)) s.exchanged.did_are ∙ rest_all (leaves_variable v) u s.exchanged.card_word won (λ card. refl) (λ card. refl);
          words = λ v a. ap (λ (z : SeatState). word_in z v) s.state;
        }

    pub exchanged-fits : (q : ℕ) (b : Began) → FitsSince q b x → fits b.fields b.seat (hands q) (since b x) (ExchangeField u i (Some e) (Some n)) ≡ true → FitsSince q b y
    exchanged-fits q b p a =
        let first : Entry = event (ExchangeField u i (Some e) (Some n)) s.exchanged.found in
        leaves-fits x y q b p (λ (v : ℕ). Unit {0}) (λ v. tt) exchanged-leaves
        (ap (λ (es : List Entry). fit_all b.fields b.seat (hands q) (since b x) es) s.exchanged.did_are
        ∙ and_from (fits b.fields b.seat (hands q) (since b x) (ExchangeField u i (Some e) (Some n))) _ a
        (fit-spared b.fields b.seat (hands q) (since b x ++ first ∷ []) rest (rest_all spares_objects u s.exchanged.card_word won (λ card. refl) (λ card. refl))))

  -- an exchange that expects nil, and lost, gave no node; one that won put it in
  lost_keeps : (a f : Bool) → a ≡ true → f ≡ false → a && not f ≡ true
  lost_keeps a f e g = and_from a (not f) e (ap not g)

  pub lost-fresh : (q : ℕ) (b : Began) → FitsSince q b x → ExchangesField 22 0 21 20 false (view_of x.seat) (view_of y.seat) → word_in (state_of x.seat) 21 ≡ 0 → HasFresh b x → HasFresh b y
  lost-fresh q b p s nil had =
      let none : (s.exchanged.found == 0) ≡ false = ap (λ (z : ℕ). s.exchanged.found == z) (sym nil) ∙ sym s.exchanged.won_by in
      ap (λ (l : List Entry). is_fresh b.fields 20 l) (since-ran x y b p.log s.ran)
      ∙ (ap (λ (z : Making). z.fresh) (makings_join b.fields 20 nothing_made (since b x) (did x.seat y.seat))
      ∙ (ap (λ (es : List Entry). (makings b.fields 20 (makings b.fields 20 nothing_made (since b x)) es).fresh) s.exchanged.did_are
      ∙ lost_keeps (makings b.fields 20 nothing_made (since b x)).fresh (s.exchanged.found == 0) had none))

  both : (a : Bool) → a ≡ true → a && true ≡ true
  both a e = and_from a true e refl

  -- an exchange of field 1 gives none
  pub beside-fresh : (q u e n : ℕ) (won : Bool) (b : Began) → FitsSince q b x → ExchangesField u 1 e n won (view_of x.seat) (view_of y.seat) → HasFresh b x → HasFresh b y
  beside-fresh q u e n won b p s had =
      let known : Making = makings b.fields 20 nothing_made (since b x) in
      ap (λ (l : List Entry). is_fresh b.fields 20 l) (since-ran x y b p.log s.ran)
      ∙ (ap (λ (z : Making). z.fresh) (makings_join b.fields 20 nothing_made (since b x) (did x.seat y.seat))
      ∙ (ap (λ (es : List Entry). (makings b.fields 20 known es).fresh) s.exchanged.did_are
      ∙ (made-kept b.fields 20 (record { newest = None; fresh = known.fresh && true }) (rest u 1 e n won s) (rest_all (keeps_made 20) u s.exchanged.card_word won (λ card. refl) (λ card. refl)) ∙ both known.fresh had)))

  linked_by : (a : Bool) → a || true ≡ true
  linked_by true = refl
  linked_by false = refl

  pub won-linked : (q : ℕ) (b : Began) → FitsSince q b x → ExchangesField 22 0 21 20 true (view_of x.seat) (view_of y.seat) → word_in (state_of x.seat) 21 ≡ 0 → is_linked (hands q) false (since b y) ≡ true
  won-linked q b p s nil =
      let before : Bool = is_linked (hands q) false (since b x) in
      let cards : List Entry = seen_to (state_of x.seat) 22 s.exchanged.card_word in
      let here : (s.exchanged.found == 0) ≡ true = ap (λ (z : ℕ). s.exchanged.found == z) (sym nil) ∙ sym s.exchanged.won_by in
      ap (λ (l : List Entry). is_linked (hands q) false l) (since-ran x y b p.log s.ran)
      ∙ (linked_join (hands q) false (since b x) (did x.seat y.seat)
      ∙ (ap (λ (es : List Entry). is_linked (hands q) before es) s.exchanged.did_are
      ∙ (ap (λ (a : Bool). is_linked (hands q) (before || a) cards) here
      ∙ (ap (λ (a : Bool). is_linked (hands q) a cards) (linked_by before)
      ∙ linked-kept (hands q) cards (rest_all (leaves_variable 22) 22 s.exchanged.card_word true (λ card. refl) (λ card. refl)) (rest_all (leaves_variable 20) 22 s.exchanged.card_word true (λ card. refl) (λ card. refl))))))
