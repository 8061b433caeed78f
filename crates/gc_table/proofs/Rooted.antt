-- Whoever reads the root at his turn finds it.
use Rattle.std.proofs.Common.{ℕ, zero, suc, ◌≡◌, ◌⊎◌, ◌+◌, ◌<◌, ◌==◌, ◌%◌, ◌&&◌, ◌∙◌, List, [], ◌∷◌, ◌++◌, length, map, take, ap, arith, inl, inr, not, refl, subst, sym, ⊎_elim, Bool, true, false, Option, None, Some, eqb-true}
use Rattle.std.specs.Prelude.{if◌then◌else◌, nat_lt, slice_index_or}
use Rattle.std.specs.List.{range_with_len}
use Rattle.std.proofs.lemmas.Bool.{and_parts, false≢true, ne_eqb, not-true}
use Rattle.std.proofs.lemmas.List.{get_or-set_same}
use Rattle.std.proofs.lemmas.Option.{get_or_from_slice_get}
use Rattle.plain_heap.specs.Paths.{Name}
use Rattle.mark_core.specs.Bits.{reference_in}
use Rattle.mark_core.specs.Laws.{IsCore}
use Rattle.mark_core.specs.Layout.{words_of}
use Rattle.mark_core.specs.Seats.{has_turn, is_the, may_mutate}
use Rattle.mark_core.specs.Shapes.{IsShape}
use Rattle.mark_core.specs.Steps.{Core, after_event, failing_part, run_of, start_core}
use Rattle.mark_core.specs.declared.kinds.Event.{Event}
use Rattle.mark_core.specs.declared.kinds.Shape.{Shape}
use Rattle.mark_core.specs.declared.kinds.Step.{Step}
use Rattle.mark_core.specs.declared.kinds.Step.TheVariants.{ReadCat, StoreRoot, HoldRoot}
use Rattle.mark_core.specs.declared.seat.SeatState.{SeatState}
use Rattle.mark_core.proofs.Known.{Acted, found, acts}
use Rattle.mark_core.proofs.Blocks.BlocksStopped.{Taken}
use Rattle.gc_table.specs.Entries.{event, is_logged}
use Rattle.gc_table.specs.Laws.{IsRunOf}
use Rattle.gc_table.specs.Log.{all_steps}
use Rattle.gc_table.specs.Past.{adds, log_from, word_told}
use Rattle.gc_table.specs.Sections.{start_section}
use Rattle.gc_table.specs.Seats.{view_of}
use Rattle.gc_table.specs.TableState.{no_section, section_at}
use Rattle.gc_table.specs.declared.view.Entry.{Entry}
use Rattle.gc_table.specs.declared.view.SectionState.{SectionState}
use Rattle.gc_table.proofs.History.Past.{run-first, ended}
use Rattle.gc_table.proofs.State.StateStart.{told-starts}
use Rattle.gc_table.proofs.Told.SeasonsKept.{in-turn, season_in}
use Rattle.gc_table.specs.Agreement.{AgreesWith}
use Rattle.gc_table.specs.AgreementLaws.{world_after, world_of}
use Rattle.gc_table.specs.RunWorlds.{World, WorldSection, in_section, name_at, referred, section_of, start_world, variable_of, with_variable, world_by}
use Rattle.gc_table.proofs.Reading.{section-same, cat-found}
use Rattle.gc_table.proofs.Kept.{agrees-kept, agrees-starts}
use Rattle.gc_table.proofs.Frame.{Mutates, mutates}
use Rattle.gc_table.specs.Lending.{leaves_variable, stores_once}
use Rattle.gc_table.specs.Rooted.{FindsSome, RootFound, fills_first, fills_variable, moves_season, season_count}
use Rattle.gc_table.specs.Runs.{AreAllowed}
use Rattle.gc_table.proofs.Lending.{after_some, event_keeps, first_more, none_starts, none_stores, Sound, agree-on, later-sound, tells-on}
use Rattle.gc_table.proofs.Freeing.{allowed}
use Rattle.gc_table.proofs.SeasonMoves.{adds-cases, bit, none_more, Counted, season_by}

-- a word that isn't nil refers to something
named : (ids : List ℕ) (r : ℕ) → not (r == 0) ≡ true → (name : Name) × (referred ids r ≡ Some name)
named ids zero e = absurd (false≢true e)
named ids (suc x) e = (name_at ids x, refl)

some_word : (ids : List ℕ) (r : ℕ) (name : Name) → referred ids r ≡ Some name → 0 < r
some_word ids zero name e = absurd (cc)
some_word ids (suc x) name e = omega arith

-- the seat of section 0 stores an object in its variable v
filled : (c : Core) (s : SeatState) (step : Step) (world : World) (v : ℕ) → Taken c 0 s step → AgreesWith c world → v < 32 → fills_variable v step ≡ true → (name : Name) × (variable_of (world_by c.shape (words_of c.shape c.words) s step world) 0 v ≡ Some name)
filled c s (StoreRoot u r) world v k a below e =
    let p = and_parts (u == v) (not (r == 0)) e in
    let ids : List ℕ = (words_of c.shape c.words).identities in
    let mu : Mutates c 0 s = mutates c 0 s (StoreRoot u r) k (and_parts (nat_lt u 32) (may_mutate s) k.ok.0).1 in
    let f : WorldSection → WorldSection = with_variable u (referred ids r) in
    let inside : 0 < length world = omega (arith, mu.inside, a.sections) in
    let same : u ≡ v = eqb-true u v p.0 in
    let room : u < length (section_of world 0).variables = omega (arith, below, same, a.variables 0 mu.inside) in
    let is = named ids r p.1 in (
      is.0,
      ap (λ (w : ℕ). variable_of (in_section world w f) 0 v) mu.own
          ∙ (ap (λ (x : WorldSection). slice_index_or x.variables v None) (section-same world 0 f inside)
          ∙ (ap (λ (j : ℕ). slice_index_or (f (section_of world 0)).variables j None) (sym same) ∙ (get_or-set_same (section_of world 0).variables u (referred ids r) None room ∙ is.1))),
    )
filled c s (HoldRoot u r) world v k a below e =
    let p = and_parts (u == v) (not (r == 0)) e in
    let ids : List ℕ = (words_of c.shape c.words).identities in
    let mu : Mutates c 0 s = mutates c 0 s (HoldRoot u r) k (and_parts (nat_lt u 32) (may_mutate s) k.ok.0).1 in
    let f : WorldSection → WorldSection = with_variable u (referred ids r) in
    let inside : 0 < length world = omega (arith, mu.inside, a.sections) in
    let same : u ≡ v = eqb-true u v p.0 in
    let room : u < length (section_of world 0).variables = omega (arith, below, same, a.variables 0 mu.inside) in
    let is = named ids r p.1 in (
      is.0,
      ap (λ (w : ℕ). variable_of (in_section world w f) 0 v) mu.own
          ∙ (ap (λ (x : WorldSection). slice_index_or x.variables v None) (section-same world 0 f inside)
          ∙ (ap (λ (j : ℕ). slice_index_or (f (section_of world 0)).variables j None) (sym same) ∙ (get_or-set_same (section_of world 0).variables u (referred ids r) None room ∙ is.1))),
    )
filled c s step world v k a below e = absurd (false≢true e)

filled_of : (c : Core) (e : Event) (s : SeatState) (world : World) (v : ℕ) → IsCore c → Acted c e s → e.seat ≡ 0 → AgreesWith c world → v < 32 → fills_variable v e.step ≡ true → (name : Name) × (variable_of (world_after c e world) 0 v ≡ Some name)
filled_of c e s world v k r at a below fills =
    let t : Taken c 0 s e.step = subst (λ (i : ℕ). Taken c i s e.step) at (record { core = k; got = r.seat; live = r.live; ok = r.ok }) in
    let is = filled c s e.step world v t a below fills in
    (is.0, ap (λ (o : Option SeatState). variable_of (world_of c o e.step world) 0 v) r.seat ∙ is.1)

-- nothing, and it is the first season, or this object, after each number of events
abbrev pub IsLent : List Event → Core → World → ℕ → Name → ℕ → Type 0
IsLent es c world v name k = ((after_some es c world v k ≡ None) × (season_in (run_of (take k es) c) ≡ 0)) ⊎ (after_some es c world v k ≡ Some name)

abbrev Lent : List Event → Core → World → ℕ → Type 0
Lent es c world v = (name : Name) × ((k : ℕ) → IsLent es c world v name k)

lent_more : (e : Event) (es : List Event) (c : Core) (world : World) (v : ℕ) (name : Name) → failing_part c e ≡ None → IsLent (e ∷ es) c world v name 0 → ((k : ℕ) → IsLent es (after_event c e) (world_after c e world) v name k) → (k : ℕ) → IsLent (e ∷ es) c world v name k
lent_more e es c world v name ok now rest zero = now
lent_more e es c world v name ok now rest (suc k) =
    subst (λ (q : Option Name × Core). ((q.0 ≡ None) × (season_in q.1 ≡ 0)) ⊎ (q.0 ≡ Some name)) (λ i. (sym (first_more e es c world v k ok) i, sym (run-first c e (take k es) ok) i)) (rest k)

lent_on : (es : List Event) (c : Core) (world : World) (v : ℕ) → Sound c es → AreAllowed c es → AgreesWith c world → v < 32 → stores_once v (log_from 0 c es) ≡ true → fills_first v (log_from 0 c es) ≡ true → Counted es c → season_in c ≡ 0 → variable_of world 0 v ≡ None → Lent es c world v
lent_on [] c world v sound ok a below once first counted new none = absurd (false≢true first)
lent_on (e ∷ es) c world v sound ok a below once first counted new none =
    adds-cases By 0 c e r.0 r.1.seat (without (λ x y z n. lent_on es d after v later ok.1 agrees below x y moved.1 z n)) (with_entry (λ x y z n. lent_on es d after v later ok.1 agrees below x y moved.1 z n)) refl once first moved.0
  where
    d : Core
    d = after_event c e

    after : World
    after = world_after c e world

    later : Sound d es
    later = later-sound c e es ok.0 sound

    agrees : AgreesWith d after
    agrees = agrees-kept c e world (sound 0) a ok.0

    r : (s : SeatState) × Acted c e s
    r = acts c e (sound 0) ok.0

    moved : (season_in d ≡ season_count (adds 0 c e) + season_in c) × Counted es d
    moved = season_by e es c sound ok counted

    rest : List Entry
    rest = log_from 0 d es

    -- what is so, if the event adds this to the log
    By : List Entry → Type 0
    By l = l ≡ adds 0 c e → stores_once v (l ++ rest) ≡ true → fills_first v (l ++ rest) ≡ true → season_in d ≡ season_count l + season_in c → Lent (e ∷ es) c world v

    with_rest : Lent es d after v → Lent (e ∷ es) c world v
    with_rest l = (l.0, lent_more e es c world v l.0 ok.0 (inl (none, new)) l.1)

    -- what is shown of the events after it
    Later : Type 0
    Later = stores_once v rest ≡ true → fills_first v rest ≡ true → season_in d ≡ 0 → variable_of after 0 v ≡ None → Lent es d after v

    goes_on : Later → all_steps (leaves_variable v) (adds 0 c e) ≡ true → stores_once v rest ≡ true → fills_first v rest ≡ true → season_in d ≡ 0 → Lent (e ∷ es) c world v
    goes_on l all more next still = with_rest (l more next still (event_keeps c e world v (sound 0) ok.0 below all ∙ none))

    without : Later → By []
    without l is more next season = goes_on l (subst (λ (l : List Entry). all_steps (leaves_variable v) l ≡ true) is refl) more next (omega (arith, season, new))

    with_entry : Later → e.seat ≡ 0 → is_logged e.step ≡ true → By (event e.step (word_told c r.0 e.step) ∷ [])
    with_entry l at logged is more next season = of (leaves_variable v e.step) refl more next
      where
        of : (b : Bool) → leaves_variable v e.step ≡ b → (if b then stores_once v rest else all_steps (leaves_variable v) rest) ≡ true → (if b then not (moves_season e.step) && fills_first v rest else fills_variable v e.step) ≡ true → Lent (e ∷ es) c world v
        of true leaves more next =
            let p = and_parts (not (moves_season e.step)) (fills_first v rest) next in
            let quiet : bit (moves_season e.step) ≡ 0 = ap bit (not-true (moves_season e.step) p.0) in
            let stays : season_in d ≡ 0 = omega (arith, season, quiet, new) in
            goes_on l (subst (λ (q : List Entry). all_steps (leaves_variable v) q ≡ true) is (ap (λ (b : Bool). b && true) leaves)) more p.1 stays
        of false leaves all fills =
            let f = filled_of c e r.0 world v (sound 0) r.1 at a below fills in
            (f.0, lent_more e es c world v f.0 ok.0 (inl (none, new)) (λ k. inr (none_stores es d after v later ok.1 below all k ∙ f.1)))

pub odd_turn : (w z : ℕ) → has_turn (Some (suc w)) (Some z) ≡ true → z % 2 ≡ 1
odd_turn w z e = eqb-true (z % 2) 1 (ap (λ (b : Bool). (z % 2) == (if b then 0 else 1)) (sym (ne_eqb (suc w) 0 (λ q. omega (arith, q)))) ∙ e)

-- a turn of another section than 0 is in no first season
turn_odd : (w z : ℕ) → not (w == 0) ≡ true → has_turn (Some w) (Some z) ≡ true → z ≡ 0 → ⊥
turn_odd zero z e t n = false≢true e
turn_odd (suc w) z e t n = let odd : z % 2 ≡ 1 = odd_turn w z t in omega (arith, odd, n)

-- who reads the root finds it
cat_some : (c : Core) (i : ℕ) (s : SeatState) (v : ℕ) (world : World) (name : Name) → Taken c i s (ReadCat v) → AgreesWith c world → ((variable_of world 0 v ≡ None) × (season_in c ≡ 0)) ⊎ (variable_of world 0 v ≡ Some name) → 0 < reference_in (found c s (ReadCat v))
cat_some c i s v world name k a lent =
    let b = and_parts (nat_lt v 32) (may_mutate s) k.ok.0 in
    let t = in-turn c i s (ReadCat v) k b.1 in
    let other : not (t.0 == 0) ≡ true = ap (λ (o : Option ℕ). not (is_the o 0)) (sym t.1) ∙ k.ok.1.0 in
    let is = cat-found c i s v world k a in
    ⊎_elim
    (λ (z : (variable_of world 0 v ≡ None) × (season_in c ≡ 0)). absurd (turn_odd t.0 (season_in c) other t.3 z.1))
    (λ (z : variable_of world 0 v ≡ Some name). let some = some_word (words_of c.shape c.words).identities (found c s (ReadCat v)) name (is.1 ∙ z) in omega (arith, some, is.0))
    lent

entry_some : (c : Core) (i : ℕ) (s : SeatState) (step : Step) (v : ℕ) (world : World) (name : Name) → Taken c i s step → AgreesWith c world → ((variable_of world 0 v ≡ None) × (season_in c ≡ 0)) ⊎ (variable_of world 0 v ≡ Some name) → step ≡ ReadCat v → 0 < reference_in (word_told c s step)
entry_some c i s step v world name k a lent is =
    subst (λ (z : Step). Taken c i s z → 0 < reference_in (word_told c s z)) (sym is) (λ t. cat_some c i s v world name t a lent) k

finds_join : (v : ℕ) (xs ys : List Entry) → FindsSome v xs → FindsSome v ys → FindsSome v (xs ++ ys)
finds_join v [] ys a b = b
finds_join v (x ∷ xs) ys a b = (a.0, finds_join v xs ys a.1 b)

lent_rest : (e : Event) (es : List Event) (c : Core) (world : World) (v : ℕ) (name : Name) → failing_part c e ≡ None → ((k : ℕ) → IsLent (e ∷ es) c world v name k) → (k : ℕ) → IsLent es (after_event c e) (world_after c e world) v name k
lent_rest e es c world v name ok lent k =
    subst (λ (q : Option Name × Core). ((q.0 ≡ None) × (season_in q.1 ≡ 0)) ⊎ (q.0 ≡ Some name)) (λ i. (first_more e es c world v k ok i, run-first c e (take k es) ok i)) (lent (suc k))

finds_on : (es : List Event) (c : Core) (world : World) (v : ℕ) (name : Name) → Sound c es → AreAllowed c es → AgreesWith c world → ((k : ℕ) → IsLent es c world v name k) → (i : ℕ) → FindsSome v (log_from i c es)
finds_on [] c world v name sound ok a lent i = tt
finds_on (e ∷ es) c world v name sound ok a lent i =
    let r : (s : SeatState) × Acted c e s = acts c e (sound 0) ok.0 in
    let d : Core = after_event c e in
    finds_join v (adds i c e) (log_from i d es)
    (adds-cases (FindsSome v) i c e r.0 r.1.seat tt (λ at logged. (entry_some c e.seat r.0 e.step v world name (record { core = sound 0; got = r.1.seat; live = r.1.live; ok = r.1.ok }) a (lent 0), tt)))
    (finds_on es d (world_after c e world) v name (later-sound c e es ok.0 sound) ok.1 (agrees-kept c e world (sound 0) a ok.0) (lent_rest e es c world v name ok.0 lent) i)

-- no season has gone by at the start
seasons_at : (sh : Shape) (n : ℕ) → (section_at (map (start_section sh) (range_with_len 0 n)) 0).seasons ≡ 0
seasons_at sh zero = refl
seasons_at sh (suc n) = refl

season_starts : (sh : Shape) → IsShape sh → season_in (start_core sh 1) ≡ 0
season_starts sh shaped = (told-starts sh [] 1 shaped (omega arith) (omega arith)).seasons.moved ∙ seasons_at sh sh.sections

pub root-found : RootFound
root-found sh seats w end first at v below keeps =
    let es : List Event = end.past in
    let run : IsRunOf sh seats w es = ended sh seats w end in
    let start : Core = start_core sh 1 in
    let shaped : IsShape sh = (run.sound 0).formed.shaped in
    let all : AreAllowed start es = allowed 0 es start run.allowed in
    let agrees : AgreesWith start (start_world sh) = agrees-starts sh 1 shaped in
    let log : (view_of first).log ≡ log_from 0 start es = run.parts 0 first at in
    let own : section_at end.state.sections 0 ≡ (view_of first).own = get_or_from_slice_get end.state.sections 0 (view_of first).own no_section (end.sections 0 first 0 at keeps.section) in
    let counted : Counted es start =
    ap season_in end.led.leads
    ∙ (end.whole.told.seasons.moved
    ∙ (ap (λ (x : SectionState). x.seasons) own
    ∙ (keeps.seasons
    ∙ (ap season_count log
    ∙ (none_more (season_count (log_from 0 start es)) ∙ ap (λ (n : ℕ). season_count (log_from 0 start es) + n) (sym (season_starts sh shaped))))))) in
    let lent =
    lent_on es start (start_world sh) v run.sound all agrees below (subst (λ (l : List Entry). stores_once v l ≡ true) log keeps.once) (subst (λ (l : List Entry). fills_first v l ≡ true) log keeps.first) counted (season_starts sh shaped)
    (none_starts sh.sections sh v) in (
      es,
      record {
        run = run;
        agrees = agree-on es start (start_world sh) run.sound all agrees;
        tells = tells-on es start (start_world sh) run.sound all agrees;
        root = lent.0;
        kept = lent.1;
        found =
            λ i s there. subst (FindsSome v) (sym (run.parts i s there)) (finds_on es start (start_world sh) v lent.0 run.sound all agrees lent.1 i);
      },
    )
