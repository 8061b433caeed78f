-- Scripts that play alike have the same texts.
use Rattle.std.proofs.Common.{◌≡◌, ℕ, zero, suc, ◌+◌, ◌-◌, ◌<◌, ◌≤◌, refl, ap, ap₂, sym, ◌∙◌, subst, List, [], ◌∷◌, length, take, map, arith, inl, inr}
use Rattle.std.specs.Prelude.{Bool, true, false, MatchBool, count_by, slice_index_or, ◌==◌, Result, Ok, Err}
use Rattle.plain_heap.specs.PlainHeap.{Heap}
use Rattle.plain_heap.specs.Sections.{Sections, section_numbers, executed_of, seasons, IsNext}
use Rattle.plain_heap.specs.PlainRun.{Printed, plain, last_heap, last_heaps}
use Rattle.plain_heap.specs.Paths.{IsReachable, AreReachable, AreSurvivors}
use Rattle.plain_heap.specs.Placement.{IsFilled, IsNew, AreOfTurn, position, LiesIn}
use Rattle.plain_heap.proofs.Turns.{last-end}
use Rattle.play_report.specs.Order.{done_in, heaps_done, IsOrder, TakesFreeCell, IsPlaced}
use Rattle.play_report.specs.Report.{Outcome}
use Rattle.play_report.specs.Text.{IsReportText, IsFullText, outcome, report_text}
use Rattle.play_words.proofs.Unlined.{PlaysAlike, lines-off, lines-on}
use Rattle.gc_script.specs.Faults.{Fault}
use Rattle.gc_script.specs.Script.{Script, script}
use Rattle.gc_script.specs.Convert.{Conversion, convert, converted, converted_text, without_lines}
use Rattle.gc_script.proofs.Meaning.{keeps_meaning}
use Rattle.play_end.proofs.SectionLists.{one-text}
use Rattle.command_words.specs.Words.{Options}
use Rattle.play_words.specs.Converting.{IsConversion}
use Rattle.gc_play.specs.RunAnswers.{PlaysTo, IsRunAnswer}
use Rattle.play_words.specs.Laws.{ConversionsAnswer, ConversionsRunAlike}
use Rattle.gc_play.specs.Promise.{OfRead}

module _ (s t : Sections) (same : PlaysAlike s t) (back : PlaysAlike t s) where
  map-alike : {X : Type 0} (f g : ℕ → X) → ((w : ℕ) → f w ≡ g w) → (ws : List ℕ) → map f ws ≡ map g ws
  map-alike f g each [] = refl
  map-alike {X} f g each (w ∷ ws) = ap₂ (λ (x : X) (l : List X). x ∷ l) (each w) (map-alike f g each ws)

  over : {X : Type 0} (f g : ℕ → X) → ((w : ℕ) → f w ≡ g w) → map f (section_numbers s) ≡ map g (section_numbers t)
  over f g each = map-alike f g each (section_numbers s) ∙ ap (map g) same.numbers

  lasts : last_heaps s ≡ last_heaps t
  lasts = over (last_heap s) (last_heap t) same.last

  outcome-alike : (places : List (List ℕ)) (w : ℕ) → outcome s places w ≡ outcome t places w
  outcome-alike places w =
      ap₂ (λ (said : List Printed) (h : Heap). record { said = said; dropped = h.dropped; places = slice_index_or places w [] }) (same.said w) (same.last w)

  done-alike : (order : List ℕ) → done_in s order ≡ done_in t order
  done-alike order = ap (map (λ w. count_by (λ v. v == w) order)) same.numbers

  heaps-alike : (done : List ℕ) → heaps_done s done ≡ heaps_done t done
  heaps-alike done = over (λ w. plain s w (position done w)) (λ w. plain t w (position done w)) (λ w. same.heaps w (position done w))

  -- how many commands there are
  all-alike : (w : ℕ) → length (executed_of s w) ≡ length (executed_of t w)
  all-alike w = sym (last-end s w (seasons s + seasons t) (omega arith)) ∙ (same.ends w (seasons s + seasons t) ∙ last-end t w (seasons s + seasons t) (omega arith))

  turn-alike : (done : List ℕ) (section z : ℕ) → AreOfTurn s done section z → AreOfTurn t done section z
  turn-alike done zero z a = (
    subst (λ (n : ℕ). n ≤ position done 0) (same.ends 0 (z - 1)) a.0,
    subst (λ (n : ℕ). position done 0 ≤ n) (same.ends 0 z) a.1,
    λ w some low. a.2 w some low ∙ same.ends w (z - 1),
  )
  turn-alike done (suc section) z a = (
    a.0 ∙ same.ends 0 z,
    λ w some low. let both = a.1 w some low in
        (subst (λ (n : ℕ). n ≤ position done w) (same.ends w (z - 1)) both.0, subst (λ (n : ℕ). position done w ≤ n) (same.ends w z) both.1),
  )

  order-alike : (order : List ℕ) → IsOrder s order → IsOrder t order
  order-alike order o = record {
    whole = λ w low. subst (λ (d : List ℕ). position d w ≡ length (executed_of t w)) (done-alike order) (o.whole w (subst (λ (l : List ℕ). w < length l) (sym same.numbers) low) ∙ all-alike w);
    turns = λ k w z e at next.
        let d = done-alike (take k order) in
        let found = back.next w (position (done_in t (take k order)) w) z e next in
        subst (λ (l : List ℕ). AreOfTurn t l w z) d (turn-alike (done_in s (take k order)) w z (o.turns k w z found.0 at (subst (λ (l : List ℕ). IsNext s w (position l w) z found.0) (sym d) found.1)));
  }

  free-alike : (places : List (List ℕ)) (done : List ℕ) (w : ℕ) → TakesFreeCell s places done w → TakesFreeCell t places done w
  free-alike places done w f z e next new name cell reachable lies made =
      let found = back.next w (position done w) z e next in
      f z found.0 found.1 (subst IsNew (sym found.2) new) name cell (subst (λ (l : List Heap). IsReachable l name) (sym (heaps-alike done)) reachable) lies
      (subst (λ (h : Heap). LiesIn places (record { section = w; number = length h.objects }) cell) (sym (same.heaps w (position done w))) made)

  placed-alike : (cells : ℕ) (places : List (List ℕ)) → IsPlaced s cells places → IsPlaced t cells places
  placed-alike cells places p = record {
    sections = p.sections ∙ ap length same.numbers;
    each = λ w low. p.each w low ∙ ap (λ (h : Heap). length h.objects) (same.last w);
    below = p.below;
    order = p.order;
    is_order = order-alike p.order p.is_order;
    free = λ k w at. subst (λ (d : List ℕ). TakesFreeCell t places d w) (done-alike (take k p.order)) (free-alike places (done_in s (take k p.order)) w (p.free k w at));
    apart = λ a b cell x y. p.apart a b cell (subst (λ (l : List Heap). IsReachable l a) (sym lasts) x) (subst (λ (l : List Heap). IsReachable l b) (sym lasts) y);
  }

  placed-where : (cells : ℕ) (place : Bool) (places : List (List ℕ)) → MatchBool place (IsPlaced s cells places) (Unit {0}) → MatchBool place (IsPlaced t cells places) (Unit {0})
  placed-where cells true places p = placed-alike cells places p
  placed-where cells false places p = p

  pub report-alike : (cells : ℕ) (place : Bool) (text : List ℕ) → IsReportText s cells place text → IsReportText t cells place text
  report-alike cells place text r = record {
    survivors = r.survivors;
    reached = subst (λ (l : List Heap). AreSurvivors l r.survivors) lasts r.reached;
    places = r.places;
    placed = placed-where cells place r.places r.placed;
    written = r.written ∙ ap (λ (os : List Outcome). report_text os r.survivors place) (over (outcome s r.places) (outcome t r.places) (outcome-alike r.places));
  }

  filled-alike : (cells section : ℕ) (done : List ℕ) → IsFilled s cells section done → IsFilled t cells section done
  filled-alike cells section done f =
      let found = same.next section (position done section) f.season f.next f.is_next in
      record {
        sections = f.sections ∙ ap length same.numbers;
        is_section = f.is_section;
        names = f.names;
        reachable = subst (λ (l : List Heap). AreReachable l f.names)
            (over (λ w. plain s w (position done w)) (λ w. plain t w (position done w)) (λ w. same.heaps w (position done w))) f.reachable;
        full = f.full;
        season = f.season;
        next = found.0;
        is_next = found.1;
        is_new = subst IsNew (sym found.2) f.is_new;
        turn = turn-alike done section f.season f.turn;
      }

  pub full-alike : (cells : ℕ) (text : List ℕ) → IsFullText s cells text → IsFullText t cells text
  full-alike cells text r = record { section = r.section; positions = r.positions; filled = filled-alike cells r.section r.positions r.filled; written = r.written }

-- A conversion answers as its source does.
-- the two scripts, whose sections differ only by lines
abbrev AreApartByLines : List ℕ → List ℕ → Type 0
AreApartByLines bytes text = (s t : Script) × (script bytes ≡ Ok s) × (script text ≡ Ok t) × (without_lines t.sections ≡ without_lines s.sections)

no-fault : (bytes : List ℕ) (c : Conversion) (q : Result Script Fault) → script bytes ≡ q → convert bytes ≡ Ok c → AreApartByLines bytes (converted_text c)
no-fault bytes c (Err fault) is made = absurd (never (sym (ap (λ (q : Result Script Fault). converted q bytes) is) ∙ made))
  where
    never : Err fault ≡ Ok c → ⊥
    never = cc
no-fault bytes c (Ok s) is made = let kept = keeps_meaning bytes c s made is in (s, kept.0, is, kept.1, kept.2)

scripts-of : (bytes text : List ℕ) (r : Result Conversion Fault) → convert bytes ≡ r → OfRead IsConversion r 0 text → AreApartByLines bytes text
scripts-of bytes text (Err fault) is a = absurd (omega (arith, a.0))
scripts-of bytes text (Ok c) is a = subst (AreApartByLines bytes) (sym a.1) (no-fault bytes c (script bytes) refl is)

plays-through : (o : Options) (status : ℕ) (text : List ℕ) (s t : Script) → without_lines t.sections ≡ without_lines s.sections → PlaysTo o s status text → PlaysTo o t status text
plays-through o status text s t is (inl a) =
    let bare : IsReportText (without_lines s.sections) o.cells o.place text =
    report-alike s.sections (without_lines s.sections) (lines-off s.sections) (lines-on s.sections) o.cells o.place text a.1 in
    inl (
      a.0,
      report-alike (without_lines t.sections) t.sections (lines-on t.sections) (lines-off t.sections) o.cells o.place text
          (subst (λ (u : Sections). IsReportText u o.cells o.place text) (sym is) bare),
    )
plays-through o status text s t is (inr a) =
    let bare : IsFullText (without_lines s.sections) o.cells text = full-alike s.sections (without_lines s.sections) (lines-off s.sections) (lines-on s.sections) o.cells text a.1 in
    inr (
      a.0,
      full-alike (without_lines t.sections) t.sections (lines-on t.sections) (lines-off t.sections) o.cells text
          (subst (λ (u : Sections). IsFullText u o.cells text) (sym is) bare),
    )

answers-through : (o : Options) (status : ℕ) (text from to : List ℕ) (s t : Script) → script from ≡ Ok s → script to ≡ Ok t → without_lines t.sections ≡ without_lines s.sections
    → IsRunAnswer o from status text → IsRunAnswer o to status text
answers-through o status text from to s t of_from of_to is a =
    subst (λ (r : Result Script Fault). OfRead (PlaysTo o) r status text) (sym of_to)
    (plays-through o status text s t is (subst (λ (r : Result Script Fault). OfRead (PlaysTo o) r status text) of_from a))

pub conversions_answer : ConversionsAnswer
conversions_answer o bytes text status answer made =
    let both = scripts-of bytes text (convert bytes) refl made in (
      answers-through o status answer bytes text both.0 both.1 both.2 both.3 both.4,
      answers-through o status answer text bytes both.1 both.0 both.3 both.2 (sym both.4),
    )

written-alike : (o p : Options) (r : Result Script Fault) (a b : List ℕ) → o.place ≡ false → p.place ≡ false → OfRead (PlaysTo o) r 0 a → OfRead (PlaysTo p) r 0 b → a ≡ b
written-alike o p (Err fault) a b f g x y = absurd (omega (arith, x.0))
written-alike o p (Ok s) a b f g (inr x) y = absurd (omega (arith, x.0))
written-alike o p (Ok s) a b f g (inl x) (inr y) = absurd (omega (arith, y.0))
written-alike o p (Ok s) a b f g (inl x) (inl y) =
    one-text s.sections o.cells p.cells a b
    (subst (λ (place : Bool). IsReportText s.sections o.cells place a) f x.1) (subst (λ (place : Bool). IsReportText s.sections p.cells place b) g y.1)

pub conversions_run_alike : ConversionsRunAlike
conversions_run_alike o p bytes text a b f g made x y = written-alike o p (script bytes) a b f g x ((conversions_answer p bytes text 0 b made).1 y)
