-- One turn of a loop that writes a text for each element.
use Rattle.std.proofs.Common.{◌≡◌, ℕ, ◌+◌, ◌<◌, List, [], ◌∷◌, ◌++◌, length, take, drop, map, get_or, refl, ap, sym, ◌∙◌, append_assoc, append-nil, take-append-drop, arith, length-take, subst}
use Rattle.std.proofs.lemmas.List.{take_more, drop_more}
use Rattle.std.proofs.lemmas.Grind.{flat_map-append}
use Rattle.std.specs.Prelude.{Option, Some, None, Result, Ok, Err}
use Rattle.std.specs.List.{flat_map}
use Rattle.std.specs.Io.KnownBytes.{Appends}
use Rattle.play_report.specs.Causes.{Rose, AppendsPrefix, WritesText}
use Rattle.play_report.specs.Text.{numbered_texts}

-- One text after another.
pub appends_then : (a b c : Option (List ℕ)) (x y : List ℕ) → Appends a b x → Appends b c y → Appends a c (x ++ y)
appends_then None b c x y p q = tt
appends_then (Some xs) None c x y p q = absurd p
appends_then (Some xs) (Some ys) None x y p q = absurd q
appends_then (Some xs) (Some ys) (Some zs) x y p q = q ∙ ap (λ (l : List ℕ). l ++ y) p ∙ append_assoc xs x y

-- a prefix of the second text was written after the first
pub grows_later : (a b c : Option (List ℕ)) (x y : List ℕ) → Appends a b x → AppendsPrefix b c y → AppendsPrefix a c (x ++ y)
grows_later a b c x y p (front, back, e, q) = (x ++ front, back, ap (λ (l : List ℕ). x ++ l) e ∙ sym (append_assoc x front back), appends_then a b c x front p q)

-- a prefix of the first text is one of both
pub grows_sooner : (a b : Option (List ℕ)) (x y : List ℕ) → AppendsPrefix a b x → AppendsPrefix a b (x ++ y)
grows_sooner a b x y (front, back, e, q) = (front, back ++ y, ap (λ (l : List ℕ). l ++ y) e ∙ append_assoc front back y, q)

-- an answer of the second after an Ok of the first
pub then_writes : {T E : Type 0} (r : Result T E) (a b c : Option (List ℕ)) (f g h : ℕ) (x y : List ℕ) → Appends a b x → g ≡ f → WritesText r b c g h y → WritesText r a c f h (x ++ y)
then_writes (Ok u) a b c f g h x y p e q = (appends_then a b c x y p q.0, q.1 ∙ e)
then_writes (Err u) a b c f g h x y p e q = (grows_later a b c x y p q.0, subst (λ (n : ℕ). Rose n h) e q.1)

-- an Err of the first
pub stops_writes : (a b : Option (List ℕ)) (f g : ℕ) (x y : List ℕ) → AppendsPrefix a b x × Rose f g → AppendsPrefix a b (x ++ y) × Rose f g
stops_writes a b f g x y p = (grows_sooner a b x y p.0, p.1)

pub rose_from : (f g h : ℕ) → g ≡ f → Rose g h → Rose f h
rose_from f g h e r = subst (λ (n : ℕ). Rose n h) e r

-- a further text after what was written
pub more_written : (a b c : Option (List ℕ)) (f g h : ℕ) (x y z : List ℕ) → z ≡ x ++ y → Appends a b x × (g ≡ f) → Appends b c y × (h ≡ g) → Appends a c z × (h ≡ f)
more_written a b c f g h x y z e p q = (subst (λ (l : List ℕ). Appends a c l) (sym e) (appends_then a b c x y p.0 q.0), q.1 ∙ p.1)

-- a prefix of a further text after what was written
pub more_stopped : (a b c : Option (List ℕ)) (f g h : ℕ) (x y rest z : List ℕ) → z ≡ x ++ (y ++ rest) → Appends a b x × (g ≡ f) → AppendsPrefix b c y × Rose g h → AppendsPrefix a c z × Rose f h
more_stopped a b c f g h x y rest z e p q = (
  subst (λ (l : List ℕ). AppendsPrefix a c l) (sym e) (grows_later a b c x (y ++ rest) p.0 (grows_sooner b c y rest q.0)),
  rose_from f g h p.1 q.1,
)

-- one turn of a loop that hands on what is left
pub piece_turn : (a b c : Option (List ℕ)) (piece rest after : List ℕ) (n : ℕ) → (front : List ℕ) × (piece ≡ front ++ rest) × Appends a b front → Appends b c (take n rest) → after ≡ drop n rest
    → (front : List ℕ) × (piece ≡ front ++ after) × Appends a c front
piece_turn a b c piece rest after n (front, e, p) q s = (
  front ++ take n rest,
  e ∙ ap (λ (l : List ℕ). front ++ l) (sym (take-append-drop n rest)) ∙ sym (append_assoc front (take n rest) (drop n rest)) ∙ ap (λ (l : List ℕ). (front ++ take n rest) ++ l) (sym s),
  appends_then a b c front (take n rest) p q,
)

-- an answer for a text is one for an equal text
pub same_writes : {T E : Type 0} (r : Result T E) (a b : Option (List ℕ)) (f g : ℕ) (x y : List ℕ) → x ≡ y → WritesText r a b f g x → WritesText r a b f g y
same_writes r a b f g x y e p = subst (λ (t : List ℕ). WritesText r a b f g t) e p

pub same_stops : (a b : Option (List ℕ)) (f g : ℕ) (x y : List ℕ) → x ≡ y → AppendsPrefix a b x × Rose f g → AppendsPrefix a b y × Rose f g
same_stops a b f g x y e p = subst (λ (t : List ℕ). AppendsPrefix a b t × Rose f g) e p

module _ {X : Type 0} (text : X → List ℕ) where
  flat_map-more : (xs : List X) (i : ℕ) (d : X) → i < length xs → flat_map text (take (i + 1) xs) ≡ flat_map text (take i xs) ++ text (get_or xs i d)
  flat_map-more xs i d h =
      ap (flat_map text) (take_more xs i d h) ∙ flat_map-append text (take i xs) (get_or xs i d ∷ [])
      ∙ ap (λ (l : List ℕ). flat_map text (take i xs) ++ l) (append-nil (text (get_or xs i d)))

  flat_map-parted : (xs : List X) (i : ℕ) (d : X) → i < length xs
      → flat_map text xs ≡ flat_map text (take i xs) ++ (text (get_or xs i d) ++ flat_map text (drop (i + 1) xs))
  flat_map-parted xs i d h =
      ap (flat_map text) (sym (take-append-drop i xs) ∙ ap (λ (l : List X). take i xs ++ l) (drop_more xs i d h))
      ∙ flat_map-append text (take i xs) (get_or xs i d ∷ drop (i + 1) xs)

  -- the turn wrote the text of its element x
  pub turn_ok : (xs : List X) (i : ℕ) (d x : X) (a b c : Option (List ℕ)) (f g h : ℕ) → i < length xs → x ≡ get_or xs i d
      → Appends a b (flat_map text (take i xs)) × (g ≡ f) → Appends b c (text x) × (h ≡ g)
      → Appends a c (flat_map text (take (i + 1) xs)) × (h ≡ f)
  turn_ok xs i d x a b c f g h within is before turn =
      more_written a b c f g h _ _ _ (flat_map-more xs i d within ∙ ap (λ (y : X). flat_map text (take i xs) ++ text y) (sym is)) before turn

  -- the turn wrote a prefix of that text
  pub turn_err : (xs : List X) (i : ℕ) (d x : X) (a b c : Option (List ℕ)) (f g h : ℕ) → i < length xs → x ≡ get_or xs i d
      → Appends a b (flat_map text (take i xs)) × (g ≡ f) → AppendsPrefix b c (text x) × Rose g h
      → AppendsPrefix a c (flat_map text xs) × Rose f h
  turn_err xs i d x a b c f g h within is before turn =
      more_stopped a b c f g h _ _ _ _
      (flat_map-parted xs i d within ∙ ap (λ (y : X). flat_map text (take i xs) ++ (text y ++ flat_map text (drop (i + 1) xs))) (sym is)) before turn

numbered-append : {X : Type 0} (text : ℕ → X → List ℕ) (n : ℕ) (xs ys : List X) → numbered_texts text n (xs ++ ys) ≡ numbered_texts text n xs ++ numbered_texts text (n + length xs) ys
numbered-append text n [] ys = let none : n ≡ n + 0 = omega arith in ap (λ (m : ℕ). numbered_texts text m ys) none
numbered-append text n (x ∷ xs) ys =
    let next : (n + 1) + length xs ≡ n + length (x ∷ xs) = omega arith in
    ap (λ (l : List ℕ). text n x ++ l) (numbered-append text (n + 1) xs ys ∙ ap (λ (m : ℕ). numbered_texts text (n + 1) xs ++ numbered_texts text m ys) next)
    ∙ sym (append_assoc (text n x) (numbered_texts text (n + 1) xs) (numbered_texts text (n + length (x ∷ xs)) ys))

pub numbered-map : {X Y : Type 0} (text : ℕ → Y → List ℕ) (f : X → Y) (n : ℕ) (xs : List X) → numbered_texts text n (map f xs) ≡ numbered_texts (λ k x. text k (f x)) n xs
numbered-map text f n [] = refl
numbered-map text f n (x ∷ xs) = ap (λ (l : List ℕ). text n (f x) ++ l) (numbered-map text f (n + 1) xs)

module _ {X : Type 0} (text : ℕ → X → List ℕ) (n : ℕ) where
  -- the number of element i
  at_take : (xs : List X) (i m : ℕ) → i < length xs → m ≡ n + i → n + length (take i xs) ≡ m
  at_take xs i m h e = omega (arith, length-take i xs)

  numbered-more : (xs : List X) (i m : ℕ) (d : X) → i < length xs → m ≡ n + i → numbered_texts text n (take (i + 1) xs) ≡ numbered_texts text n (take i xs) ++ text m (get_or xs i d)
  numbered-more xs i m d h e =
      ap (numbered_texts text n) (take_more xs i d h) ∙ numbered-append text n (take i xs) (get_or xs i d ∷ [])
      ∙ ap (λ (l : List ℕ). numbered_texts text n (take i xs) ++ l) (append-nil (text (n + length (take i xs)) (get_or xs i d)))
      ∙ ap (λ (k : ℕ). numbered_texts text n (take i xs) ++ text k (get_or xs i d)) (at_take xs i m h e)

  numbered-parted : (xs : List X) (i m : ℕ) (d : X) → i < length xs → m ≡ n + i
      → numbered_texts text n xs ≡ numbered_texts text n (take i xs) ++ (text m (get_or xs i d) ++ numbered_texts text (m + 1) (drop (i + 1) xs))
  numbered-parted xs i m d h e =
      ap (numbered_texts text n) (sym (take-append-drop i xs) ∙ ap (λ (l : List X). take i xs ++ l) (drop_more xs i d h))
      ∙ numbered-append text n (take i xs) (get_or xs i d ∷ drop (i + 1) xs)
      ∙ ap (λ (k : ℕ). numbered_texts text n (take i xs) ++ (text k (get_or xs i d) ++ numbered_texts text (k + 1) (drop (i + 1) xs))) (at_take xs i m h e)

  -- the turn wrote the text of its element x, whose number is m
  pub numbered_ok : (xs : List X) (i m : ℕ) (d x : X) (a b c : Option (List ℕ)) (f g h : ℕ) → i < length xs → m ≡ n + i → x ≡ get_or xs i d
      → Appends a b (numbered_texts text n (take i xs)) × (g ≡ f) → Appends b c (text m x) × (h ≡ g)
      → Appends a c (numbered_texts text n (take (i + 1) xs)) × (h ≡ f)
  numbered_ok xs i m d x a b c f g h within number is before turn =
      more_written a b c f g h _ _ _ (numbered-more xs i m d within number ∙ ap (λ (y : X). numbered_texts text n (take i xs) ++ text m y) (sym is)) before turn

  -- the turn wrote a prefix of that text
  pub numbered_err : (xs : List X) (i m : ℕ) (d x : X) (a b c : Option (List ℕ)) (f g h : ℕ) → i < length xs → m ≡ n + i → x ≡ get_or xs i d
      → Appends a b (numbered_texts text n (take i xs)) × (g ≡ f) → AppendsPrefix b c (text m x) × Rose g h
      → AppendsPrefix a c (numbered_texts text n xs) × Rose f h
  numbered_err xs i m d x a b c f g h within number is before turn =
      more_stopped a b c f g h _ _ _ _
      (numbered-parted xs i m d within number ∙ ap (λ (y : X). numbered_texts text n (take i xs) ++ (text m y ++ numbered_texts text (m + 1) (drop (i + 1) xs))) (sym is)) before turn
