-- The sections of a script are few, numbered and counted.
use Rattle.std.proofs.Common.{◌≡◌, ℕ, ◌≤◌, List, [], ◌∷◌, length, map, refl, ap, sym, ◌∙◌, subst, max, arith}
use Rattle.std.proofs.lemmas.List.Elements.{All-nil, All-cons, All-head, All-tail}
use Rattle.std.proofs.lemmas.List.Sums.{sum_by-cons}
use Rattle.std.specs.Prelude.{Option, Some, None, unwrap_or, option_map}
use Rattle.std.specs.List.{sum_by, fold}
use Rattle.std.specs.List.{All}
use Rattle.plain_heap.specs.Sections.{Execution, Sections, Parts, joined}
use Rattle.gc_script.specs.Blocks.{counts}
use Rattle.gc_script.specs.Sectioned.{IsLegal, IsSmall, AreLegal, AreSmall, in_parts, in_sections, sections_numbered, sections_shown, is_catalogue, AreCounted}
use Rattle.gc_script.specs.declared.block.Kind.TheVariants.{All as AllOf, Printing}
use Rattle.gc_script.proofs.Sectioning.{counted_all}
use Rattle.gc_script.proofs.Numbers.{numbered_are, numbered_parts, executed_is, printed_is, seasons_are}

small_one : (fields : ℕ) (parts : List (List Execution)) → IsLegal fields parts → in_parts (counts AllOf) parts ≤ 2000000 → IsSmall fields parts
small_one fields parts h few = record { range = h.range; few = omega (arith, counted_all (joined parts), few); seasons = h.seasons }

smalls : (fields : ℕ) (ws : List (List (List Execution))) → All (IsLegal fields) ws → sum_by (in_parts (counts AllOf)) ws ≤ 2000000 → All (IsSmall fields) ws
smalls fields [] h few = All-nil (IsSmall fields)
smalls fields (w ∷ ws) h few =
    let sum = sum_by-cons (in_parts (counts AllOf)) w ws in
    All-cons (IsSmall fields) w ws (small_one fields w (All-head (IsLegal fields) w ws h) (omega arith)) (smalls fields ws (All-tail (IsLegal fields) w ws h) (omega arith))

pub small : (fields : ℕ) (catalogue : Option (List (List Execution))) (warehouses : List (List (List Execution))) → AreLegal fields catalogue warehouses → in_sections (counts AllOf) catalogue warehouses ≤ 2000000
    → AreSmall fields catalogue warehouses
small fields catalogue warehouses h few = record {
  first = small_one fields (unwrap_or catalogue []) h.first (omega arith);
  others = smalls fields warehouses h.others (omega arith);
  count = h.count;
  most = h.most;
  least = h.least;
  alone = h.alone;
  few = few;
}

-- the most parts of a section are no more than each has at the most
most_within : (ws : List (List (List Execution))) (n most : ℕ) → n ≤ most → All (λ (p : List (List Execution)). length p ≤ most) ws → fold (λ m p. max m (length p)) n ws ≤ most
most_within [] n most h k = h
most_within (w ∷ ws) n most h k =
    most_within ws (max n (length w)) most (max_within n (length w) most h (All-head (λ (p : List (List Execution)). length p ≤ most) w ws k)) (All-tail (λ (p : List (List Execution)). length p ≤ most) w ws k)
  where
    max_within : (a b c : ℕ) → a ≤ c → b ≤ c → max a b ≤ c
    max_within a b c h k = omega (arith, h, k)

short_sections : (fields : ℕ) (c : Option (List (List Execution))) (ws : List (List (List Execution))) → AreSmall fields c ws
    → fold (λ m p. max m (length p)) (max 1 (length (unwrap_or c []))) ws ≤ 64
short_sections fields c ws m = most_within ws (max 1 (length (unwrap_or c []))) 64 (first (length (unwrap_or c [])) m.first.seasons) (λ k d h. (m.others k d h).seasons)
  where
    first : (n : ℕ) → n ≤ 64 → max 1 n ≤ 64
    first n h = omega (arith, h)

first_of : (fields : ℕ) (c : Option (List (List Execution))) → option_map (λ (p : Parts). p.parts) (option_map (λ (p : List (List Execution)). record { number = 0; fields = fields; parts = p }) c) ≡ c
first_of fields None = refl
first_of fields (Some p) = refl

-- the sections as they are kept
pub shown : (fields : ℕ) (first : Option Parts) (others : List Parts) (c : Option (List (List Execution))) (ws : List (List (List Execution)))
    → first ≡ option_map (λ (p : List (List Execution)). record { number = 0; fields = fields; parts = p }) c → others ≡ sections_numbered fields 1 ws
    → sections_shown fields first others ≡ record { fields = fields; catalogue = c; warehouses = ws }
shown fields first others c ws e f =
    ap (λ (o : Option (List (List Execution))). record { fields = fields; catalogue = o; warehouses = map (λ (w : Parts). w.parts) others }) (ap (option_map (λ (p : Parts). p.parts)) e ∙ first_of fields c)
    ∙ ap (λ (l : List (List (List Execution))). record { fields = fields; catalogue = c; warehouses = l }) (ap (map (λ (p : Parts). p.parts)) f ∙ numbered_parts fields 1 ws)

first_is : (fields : ℕ) (c : Option (List (List Execution))) (ws : List (List (List Execution)))
    → is_catalogue (record { fields = fields; catalogue = c; warehouses = ws }) (option_map (λ (p : List (List Execution)). record { number = 0; fields = fields; parts = p }) c)
first_is fields None ws = tt
first_is fields (Some p) ws = refl

pub counted_sections : (fields : ℕ) (first : Option Parts) (others slice : List Parts) (c : Option (List (List Execution))) (ws : List (List (List Execution))) (commands lines parts : ℕ)
    → first ≡ option_map (λ (p : List (List Execution)). record { number = 0; fields = fields; parts = p }) c → others ≡ sections_numbered fields 1 ws → slice ≡ others
    → commands ≡ in_sections (counts AllOf) c ws → lines ≡ in_sections (counts Printing) c ws
    → parts ≡ fold (λ most p. max most (length p)) (max 1 (length (unwrap_or (option_map (λ (p : Parts). p.parts) first) []))) (map (λ (w : Parts). w.parts) slice)
    → AreSmall fields c ws → AreCounted (sections_shown fields first others) first others commands lines parts
counted_sections fields first others slice c ws commands lines parts e f g x y z m =
    let s : Sections = record { fields = fields; catalogue = c; warehouses = ws } in
    let same : sections_shown fields first others ≡ s = shown fields first others c ws e f in
    let counted : AreCounted s first others commands lines parts = record {
      first_is = subst (is_catalogue s) (sym e) (first_is fields c ws);
      others_are = f ∙ numbered_are s;
      commands_are = x ∙ executed_is s;
      lines_are = y ∙ printed_is s;
      parts_are =
          z ∙ ap (λ (l : List Parts). fold (λ most p. max most (length p)) (max 1 (length (unwrap_or (option_map (λ (p : Parts). p.parts) first) []))) (map (λ (w : Parts). w.parts) l)) g
          ∙ ap (λ (t : Sections). fold (λ most p. max most (length p)) (max 1 (length (unwrap_or t.catalogue []))) t.warehouses) same ∙ seasons_are s;
      most = m.most;
      least = m.least;
      alone = m.alone;
      count = m.count;
      short = subst (λ (n : ℕ). n ≤ 64) (seasons_are s) (short_sections fields c ws m);
      few = omega (arith, x, executed_is s, m.few);
    } in
    subst (λ (t : Sections). AreCounted t first others commands lines parts) (sym same) counted
