-- How long the canonical text of a valid problem is at most.
use Rattle.std.proofs.Common.{◌≡◌, ◌⊎◌, inl, inr, ◌≤◌, ◌<◌, ◌+◌, ◌*◌, ◌/◌, ◌%◌, ◌==◌, ◌||◌, ◌++◌}
use Rattle.std.proofs.Common.{◌∷◌, [], Bool, true, false, if◌then◌else◌, ℕ, zero, suc, ℤ, pos}
use Rattle.std.proofs.Common.{List, length, map, flat_map, codes, decimal, unsigned_abs, int_lt}
use Rattle.std.proofs.Common.{refl, sym, ap, ◌∙◌, arith, leb-true}
use Rattle.std.proofs.lemmas.Bool.{and_parts, or_parts, or_cases, or_from}
use Rattle.std.proofs.lemmas.List.{length-append, length-map}
use Rattle.std.proofs.lemmas.Grind.{flat_map-append}
use Rattle.std.proofs.lemmas.Fmt.{length-decimal-le}
use Rattle.std.proofs.Math.Nat.{mul-suc}
use Rattle.studio.specs.number_sets.Sets.{has, with_number, IsRising, AreBelow}
use Rattle.studio.proofs.number_sets.Cited.{has-with_number, IsRising-with_number}
use Rattle.studio.proofs.number_sets.Cited.{length-with_number}
use Rattle.studio.proofs.number_sets.Cited.{length_below, below_from, has_below}
use Rattle.studio.specs.problem_rules.Each.{Each}
use Rattle.studio.specs.problem_rules.Names.{is_name}
use Rattle.studio.specs.problem_rules.Problem.{Problem, Kind, raw_material, intermediate, product}
use Rattle.studio.specs.problem_rules.Problem.{Material, Term, OperatingUnit, Exclusion}
use Rattle.studio.specs.problem_rules.Problem.{material_names}
use Rattle.studio.specs.problem_rules.Problem.{unit_names, terms_have}
use Rattle.studio.specs.problem_rules.Validity.{repeats_material, shares_material}
use Rattle.studio.specs.problem_rules.WellFormed.{IsWellFormed, IsWellFormedMaterial}
use Rattle.studio.specs.problem_rules.WellFormed.{IsWellFormedTerm}
use Rattle.studio.specs.problem_rules.WellFormed.{IsWellFormedUnit, IsWellFormedExclusion}
use Rattle.studio.specs.problem_rules.WellFormed.{AreRisingFrom}
use Rattle.studio.specs.problem_rules.WellFormed.{IsInRange, ValidIsWellFormed}
use Rattle.studio.proofs.problem_rules.Cited.{known_material}
use Rattle.studio.specs.text_rules.Printed.{digits, places, amount_bytes}
use Rattle.studio.specs.text_rules.Canonical.{joined, spaced, item_line, field, kind_word}
use Rattle.studio.specs.text_rules.Canonical.{material_items}
use Rattle.studio.specs.text_rules.Canonical.{is_zero, field_unless_zero, unit_items, name_at}
use Rattle.studio.specs.text_rules.Canonical.{term_tokens}
use Rattle.studio.specs.text_rules.Canonical.{side_tokens, rates_tokens, named, token_text}
use Rattle.studio.specs.text_rules.Canonical.{section_lines}
use Rattle.studio.specs.text_rules.Canonical.{material_lines, unit_lines, rates_lines}
use Rattle.studio.specs.text_rules.Canonical.{exclusion_lines}
use Rattle.studio.specs.text_rules.Canonical.{payout_lines, exclusion_section, canonical}
use Rattle.studio.proofs.text_laws.Cited.{each-to}
use Rattle.call_laws.specs.TextLaws.{CanonicalIsShort}

-- ---- lines and tokens

abbrev size : List (List ℕ) → ℕ
size lines = length (flat_map (λ line. line ++ 10 ∷ []) lines)

size-cons : (l : List ℕ) (ls : List (List ℕ)) → size (l ∷ ls) ≡ length l + 1 + size ls
size-cons l ls =
    let a = length-append (l ++ 10 ∷ []) (flat_map (λ line. line ++ 10 ∷ []) ls) in
    let b = length-append l (10 ∷ []) in omega (arith, a, b)

size-append : (xs ys : List (List ℕ)) → size (xs ++ ys) ≡ size xs + size ys
size-append xs ys =
    ap length (flat_map-append (λ line. line ++ 10 ∷ []) xs ys)
    ∙ length-append (flat_map (λ line. line ++ 10 ∷ []) xs) (flat_map (λ line. line ++ 10 ∷ []) ys)

size_map : {X : Type 0} (f : X → List ℕ) (k : ℕ) (xs : List X) → Each (λ x. length (f x) ≤ k) xs
    → size (map f xs) ≤ (k + 1) * length xs
size_map f k [] each = omega arith
size_map f k (x ∷ xs) each =
    let a = size-cons (f x) (map f xs) in
    let m = mul-suc (k + 1) (length xs) in
    let one = each.0 in
    let more = size_map f k xs each.1 in
    omega (arith, a, m, one, more)

-- the bytes of tokens, two more for each
abbrev weight : List (List ℕ) → ℕ
weight [] = 0
weight (t ∷ ts) = length t + 2 + weight ts

weight-append : (xs ys : List (List ℕ)) → weight (xs ++ ys) ≡ weight xs + weight ys
weight-append [] ys = omega arith
weight-append (x ∷ xs) ys = let more = weight-append xs ys in omega (arith, more)

weight_each : (k : ℕ) (ts : List (List ℕ)) → Each (λ t. length t ≤ k) ts
    → weight ts ≤ (k + 2) * length ts
weight_each k [] each = omega arith
weight_each k (t ∷ ts) each =
    let m = mul-suc (k + 2) (length ts) in
    let one = each.0 in
    let more = weight_each k ts each.1 in
    omega (arith, m, one, more)

joined_size : (mark : ℕ) (ts : List (List ℕ)) → length (joined mark ts) ≤ weight ts
joined_size mark [] = omega arith
joined_size mark (t ∷ []) = omega arith
joined_size mark (t ∷ u ∷ us) =
    let a = length-append t (mark ∷ joined mark (u ∷ us)) in
    let more = joined_size mark (u ∷ us) in omega (arith, a, more)

behind_size : (ts : List (List ℕ)) → length (joined 44 (map (λ next. 32 ∷ next) ts)) ≤ weight ts
behind_size [] = omega arith
behind_size (t ∷ []) = omega arith
behind_size (t ∷ u ∷ us) =
    let a = length-append t (44 ∷ joined 44 (map (λ next. 32 ∷ next) (u ∷ us))) in
    let more = behind_size (u ∷ us) in omega (arith, a, more)

spaced_size : (ts : List (List ℕ)) → length (joined 44 (spaced ts)) ≤ weight ts
spaced_size [] = omega arith
spaced_size (t ∷ []) = omega arith
spaced_size (t ∷ u ∷ us) =
    let a = length-append t (44 ∷ joined 44 (map (λ next. 32 ∷ next) (u ∷ us))) in
    let more = behind_size (u ∷ us) in omega (arith, a, more)

item_size : (name : List ℕ) (items : List (List ℕ))
    → length (item_line name items) ≤ length name + 2 + weight items
item_size name items =
    let a = length-append name (58 ∷ 32 ∷ joined 44 (spaced items)) in
    let more = spaced_size items in omega (arith, a, more)

-- ---- names and amounts

name_size : (name : List ℕ) → is_name name ≡ true → length name ≤ 64
name_size name is = leb-true (length name) 64
    (and_parts _ _ (and_parts _ _ (and_parts _ _ is).0).0).1

short_at : (names : List (List ℕ)) (k : ℕ) → Each (λ n. length n ≤ 64) names
    → length (name_at names k) ≤ 64
short_at [] k each = omega arith
short_at (n ∷ ns) zero each = each.0
short_at (n ∷ ns) (suc k) each = short_at ns k each.1

short_names : {X : Type 0} (name : X → List ℕ) (xs : List X)
    → Each (λ x. is_name (name x) ≡ true) xs → Each (λ n. length n ≤ 64) (map name xs)
short_names name [] each = tt
short_names name (x ∷ xs) each = (name_size (name x) each.0, short_names name xs each.1)

digits_size : (k n : ℕ) → length (digits k n) ≡ k
digits_size zero n = refl
digits_size (suc k) n = let a = length-append (digits k (n / 10)) ((48 + n % 10) ∷ []) in
    let more = digits_size k (n / 10) in omega (arith, a, more)

places_size : (k n : ℕ) → length (places k n) ≤ k
places_size zero n = omega arith
places_size (suc k) n = at (n % 10 == 0) (places_size k (n / 10))
  where
    at : (b : Bool) → length (places k (n / 10)) ≤ k
        → length (if b then places k (n / 10) else digits (suc k) n) ≤ suc k
    at true more = omega (arith, more)
    at false more = let a = digits_size (suc k) n in omega (arith, a)

sign_size : (b : Bool) → length {A = ℕ} (if b then 45 ∷ [] else []) ≤ 1
sign_size true = omega arith
sign_size false = omega arith

fraction_size : (n : ℕ) (b : Bool) → length {A = ℕ} (if b then [] else 46 ∷ places 6 n) ≤ 7
fraction_size n true = omega arith
fraction_size n false = let p = places_size 6 n in omega (arith, p)

parts_size : (sign whole fraction : List ℕ) → length sign ≤ 1 → length whole ≤ 10
    → length fraction ≤ 7 → length ((sign ++ whole) ++ fraction) ≤ 18
parts_size sign whole fraction s w f =
    let a = length-append sign whole in
    let b = length-append (sign ++ whole) fraction in
    omega (arith, a, b, s, w, f)

amount_size : (z : ℤ) → IsInRange z → length (amount_bytes z) ≤ 18
amount_size z in_range =
    let n : ℕ = unsigned_abs z in
    let few : n ≤ 1000000000000000 = in_range in
    parts_size (if int_lt z (pos 0) then 45 ∷ [] else []) (decimal (unsigned_abs z / 1000000))
    (if unsigned_abs z % 1000000 == 0 then [] else 46 ∷ places 6 (unsigned_abs z % 1000000))
    (sign_size (int_lt z (pos 0)))
    (length-decimal-le 10 (unsigned_abs z / 1000000) (omega arith) (omega (arith, few))
    (omega (arith, few)))
    (fraction_size (unsigned_abs z % 1000000) (unsigned_abs z % 1000000 == 0))

field_size : (key value : List ℕ) (k : ℕ) → length key ≡ k → length (field key value)
    ≡ k + 1 + length value
field_size key value k is = let a = length-append key (61 ∷ value) in omega (arith, a, is)

kind_size : (k : Kind) → length (kind_word k) ≤ 12
kind_size raw_material = omega arith
kind_size intermediate = omega arith
kind_size product = omega arith

-- ---- materials and units

material_size : (m : Material) → IsWellFormedMaterial m
    → length (item_line m.name (material_items m)) ≤ 200
material_size m good =
    let a = item_size m.name (material_items m) in
    let n = name_size m.name good.named in
    let k = kind_size m.kind in
    let x = field_size (codes "price") (amount_bytes m.price) 5 refl in
    let y = field_size (codes "flow_rate_lower_bound") (amount_bytes m.lower) 21 refl in
    let z = field_size (codes "flow_rate_upper_bound") (amount_bytes m.upper) 21 refl in
    let x' = amount_size m.price good.price_in_range in
    let y' = amount_size m.lower good.bounds.lower_bound.in_range in
    let z' = amount_size m.upper good.bounds.upper_bound.in_range in
    omega (arith, a, n, k, x, y, z, x', y', z')

optional_size : (key : List ℕ) (z : ℤ) (k : ℕ) → length key ≡ k → IsInRange z
    → weight (field_unless_zero key z) ≤ k + 21
optional_size key z k is in_range = at (is_zero z)
  where
    at : (b : Bool) → weight (if b then [] else field key (amount_bytes z) ∷ []) ≤ k + 21
    at true = omega arith
    at false = let a = field_size key (amount_bytes z) k is in let b = amount_size z in_range in
        omega (arith, a, b)

unit_size : (n : ℕ) (u : OperatingUnit) → IsWellFormedUnit n u
    → length (item_line u.name (unit_items u)) ≤ 400
unit_size n u good =
    let a = item_size u.name (unit_items u) in
    let m = name_size u.name good.named in
    let e = field_size (codes "capacity_lower_bound") (amount_bytes u.lower) 20 refl in
    let f = field_size (codes "capacity_upper_bound") (amount_bytes u.upper) 20 refl in
    let g = field_size (codes "fix_cost") (amount_bytes u.fix) 8 refl in
    let h = field_size (codes "proportional_cost") (amount_bytes u.proportional) 17 refl in
    let e' = amount_size u.lower good.bounds.lower_bound.in_range in
    let f' = amount_size u.upper good.bounds.upper_bound.in_range in
    let g' = amount_size u.fix good.fix.in_range in
    let h' = amount_size u.proportional good.proportional in
    let i = optional_size (codes "investment_fix_cost") u.investment_fix 19 refl
    good.investment_fix.in_range in
    let j = optional_size (codes "investment_proportional_cost") u.investment_proportional 28 refl
    good.investment_proportional in
    let w = weight-append (field_unless_zero (codes "investment_fix_cost") u.investment_fix)
    (field_unless_zero (codes "investment_proportional_cost") u.investment_proportional) in
    omega (arith, a, m, e, f, g, h, e', f', g', h', i, j, w)

-- ---- rates

-- the materials of terms, with others
to_set : List Term → List ℕ → List ℕ
to_set [] base = base
to_set (t ∷ ts) base = with_number t.material (to_set ts base)

group : (a b c : Bool) → (a || (b || c)) ≡ ((a || b) || c)
group true b c = refl
group false b c = refl

has-to_set : (ts : List Term) (base : List ℕ) (x : ℕ) → has (to_set ts base) x
    ≡ (terms_have ts x || has base x)
unfolding to_set
has-to_set [] base x = refl
has-to_set (t ∷ ts) base x =
    has-with_number t.material (to_set ts base) x
    ∙ (ap (λ (b : Bool). (t.material == x) || b) (has-to_set ts base x)
    ∙ group (t.material == x) (terms_have ts x) (has base x))

rising_set : (ts : List Term) (base : List ℕ) → IsRising base → IsRising (to_set ts base)
unfolding to_set
rising_set [] base rising = rising
rising_set (t ∷ ts) base rising =
    IsRising-with_number t.material (to_set ts base) (rising_set ts base rising)

below_set : (n : ℕ) (ts : List Term) (base : List ℕ) → Each (IsWellFormedTerm n) ts
    → AreBelow n base → AreBelow n (to_set ts base)
below_set n ts base good below =
    below_from n (to_set ts base) (λ x e. at x
    (or_cases (terms_have ts x) (has base x) (sym (has-to_set ts base x) ∙ e)))
  where
    at : (x : ℕ) → (terms_have ts x ≡ true) ⊎ (has base x ≡ true) → x < n
    at x (inl e) = known_material n ts x good e
    at x (inr e) = has_below n base x below e

set_size : (ts : List Term) (base : List ℕ) → repeats_material ts ≡ false
    → Each (λ t. has base t.material ≡ false) ts → length (to_set ts base) ≡ length ts + length base
unfolding to_set
set_size [] base once off = omega arith
set_size (t ∷ ts) base once off =
    let parts = or_parts (terms_have ts t.material) (repeats_material ts) once in
    let more = set_size ts base parts.1 off.1 in
    let one = length-with_number t.material (to_set ts base)
    (has-to_set ts base t.material
    ∙ or_from (terms_have ts t.material) (has base t.material) parts.0 off.0) in
    omega (arith, more, one)

apart : (ins outs : List Term) → shares_material ins outs ≡ false
    → Each (λ t. has (to_set ins []) t.material ≡ false) outs
apart ins [] off = tt
apart ins (t ∷ ts) off =
    let parts = or_parts (terms_have ins t.material) (shares_material ins ts) off in (
      has-to_set ins [] t.material ∙ or_from
          (terms_have ins t.material) false parts.0 refl,
      apart ins ts parts.1,
    )

none_off : (ts : List Term) → Each (λ t. has [] t.material ≡ false) ts
none_off [] = tt
none_off (t ∷ ts) = (refl, none_off ts)

few_terms : (n : ℕ) (u : OperatingUnit) → IsWellFormedUnit n u
    → length u.inputs + length u.outputs ≤ n
few_terms n u good =
    let base : List ℕ = to_set u.inputs [] in
    let one = set_size u.inputs [] good.inputs.once (none_off u.inputs) in
    let both = set_size u.outputs (to_set u.inputs []) good.outputs.once
    (apart u.inputs u.outputs good.sides_apart) in
    let rising = rising_set u.outputs (to_set u.inputs []) (rising_set u.inputs [] tt) in
    let below = below_set n u.outputs (to_set u.inputs []) good.outputs.terms_formed
    (below_set n u.inputs [] good.inputs.terms_formed tt) in
    let most = length_below n (to_set u.outputs (to_set u.inputs [])) rising below in
    omega (arith, one, both, most)

term_size : (n : ℕ) (names : List (List ℕ)) (t : Term) → Each (λ n. length n ≤ 64) names
    → IsWellFormedTerm n t → weight (term_tokens names t) ≤ 86
term_size n names t short good = at (unsigned_abs t.rate == 1000000)
  where
    at : (b : Bool) → weight (if b then name_at names t.material ∷ [] else amount_bytes t.rate ∷
        name_at names t.material ∷ []) ≤ 86
    at true = let a = short_at names t.material short in omega (arith, a)
    at false = let a = short_at names t.material short in
        let b = amount_size t.rate good.in_range in omega (arith, a, b)

side_size : (n : ℕ) (names : List (List ℕ)) (ts : List Term) → Each (λ n. length n ≤ 64) names
    → Each (IsWellFormedTerm n) ts → weight (side_tokens names ts) ≤ 89 * length ts
side_size n names [] short good = omega arith
side_size n names (t ∷ []) short good = let a = term_size n names t short good.0 in omega (arith, a)
side_size n names (t ∷ u ∷ us) short good =
    let a = term_size n names t short good.0 in
    let w = weight-append (term_tokens names t) (codes "+" ∷ side_tokens names (u ∷ us)) in
    let more = side_size n names (u ∷ us) short good.1 in
    omega (arith, a, w, more)

rates_size : (n : ℕ) (names : List (List ℕ)) (u : OperatingUnit) → n ≤ 256
    → Each (λ n. length n ≤ 64) names → IsWellFormedUnit n u
    → length (named u.name (token_text (rates_tokens names u))) ≤ 23000
rates_size n names u most short good =
    let a = length-append u.name (58 ∷ 32 ∷ joined 32 (rates_tokens names u)) in
    let m = name_size u.name good.named in
    let j = joined_size 32 (rates_tokens names u) in
    let w = weight-append (side_tokens names u.inputs) (codes "=>" ∷ side_tokens names u.outputs) in
    let i = side_size n names u.inputs short good.inputs.terms_formed in
    let o = side_size n names u.outputs short good.outputs.terms_formed in
    let few = few_terms n u good in
    omega (arith, a, m, j, w, i, o, few, most)

-- ---- exclusions

rise_count : (n least : ℕ) (us : List ℕ) → least ≤ n → AreRisingFrom n least us
    → length us + least ≤ n
rise_count n least [] le rising = omega (arith, le)
rise_count n least (u ∷ us) le rising =
    let a = rising.0 in let b = rising.1 in
    let more = rise_count n (u + 1) us (omega (arith, b)) rising.2 in omega (arith, a, more)

exclusion_size : (n : ℕ) (names : List (List ℕ)) (e : Exclusion) → n ≤ 128
    → Each (λ n. length n ≤ 64) names → IsWellFormedExclusion n e
    → length (item_line e.name (map (name_at names) e.units)) ≤ 8600
exclusion_size n names e most short good =
    let a = item_size e.name (map (name_at names) e.units) in
    let m = name_size e.name good.named in
    let w = weight_each 64 (map (name_at names) e.units) (each_short e.units) in
    let l = length-map e.units (name_at names) in
    let c = rise_count n 0 e.units (omega arith) good.rising in
    omega (arith, a, m, w, l, c, most)
  where
    each_short : (us : List ℕ) → Each (λ t. length t ≤ 64) (map (name_at names) us)
    each_short [] = tt
    each_short (u ∷ us) = (short_at names u short, each_short us)

-- ---- the text

section_size : (header : List ℕ) (lines : List (List ℕ)) → size (section_lines header lines)
    ≡ length header + 3 + size lines
section_size header lines =
    let a = size-cons [] ((header ++ 58 ∷ []) ∷ lines) in
    let b = size-cons (header ++ 58 ∷ []) lines in
    let c = length-append header (58 ∷ []) in omega (arith, a, b, c)

payout_size : (payout : ℤ) → unsigned_abs payout ≤ 100 → size (payout_lines payout) ≤ 40
payout_size payout most = at (unsigned_abs payout == 1)
  where
    at : (b : Bool) → size (if b then [] else section_lines (codes "defaults")
        (field (codes "payout_period") (decimal (unsigned_abs payout)) ∷ [])) ≤ 40
    at true = omega arith
    at false =
        let s = section_size (codes "defaults")
        (field (codes "payout_period") (decimal (unsigned_abs payout)) ∷ []) in
        let c = size-cons (field (codes "payout_period") (decimal (unsigned_abs payout))) [] in
        let f = field_size (codes "payout_period") (decimal (unsigned_abs payout)) 13 refl in
        let d = length-decimal-le 3 (unsigned_abs payout) (omega arith) (omega (arith, most))
        (omega (arith, most)) in
        omega (arith, s, c, f, d)

last_size : (lines : List (List ℕ)) → size (exclusion_section lines) ≤ 20 + size lines
last_size [] = omega arith
last_size (line ∷ lines) = let s = section_size (codes "mutual_exclusions") (line ∷ lines) in
    omega (arith, s)

text_size : (p : Problem) → IsWellFormed p → length (canonical p) ≤ 4194304
text_size p good =
    let materials : List (List ℕ) = material_names p.materials in
    let short = short_names (λ (m : Material). m.name) p.materials
    (each-to IsWellFormedMaterial (λ m. is_name m.name ≡ true)
    (λ m g. g.named) p.materials good.materials_formed) in
    let units = short_names (λ (u : OperatingUnit). u.name) p.units
    (each-to (IsWellFormedUnit (length p.materials)) (λ u. is_name u.name ≡ true)
    (λ u g. g.named) p.units good.units_formed) in
    let m = size_map (λ (m : Material). item_line m.name (material_items m)) 200 p.materials
    (each-to IsWellFormedMaterial (λ m. length (item_line m.name (material_items m)) ≤ 200)
    material_size p.materials good.materials_formed) in
    let u = size_map (λ (u : OperatingUnit). item_line u.name (unit_items u)) 400 p.units
    (each-to (IsWellFormedUnit (length p.materials))
    (λ u. length (item_line u.name (unit_items u)) ≤ 400)
    (unit_size (length p.materials)) p.units good.units_formed) in
    let r = size_map (λ (u : OperatingUnit). named u.name
    (token_text (rates_tokens (material_names p.materials) u))) 23000 p.units
    (each-to (IsWellFormedUnit (length p.materials))
    (λ u. length (named u.name (token_text (rates_tokens (material_names p.materials) u))) ≤
    23000) (λ u. rates_size (length p.materials)
    (material_names p.materials) u good.few_materials short) p.units good.units_formed) in
    let x = size_map (λ (e : Exclusion). item_line e.name
    (map (name_at (unit_names p.units)) e.units)) 8600 p.exclusions
    (each-to (IsWellFormedExclusion (length p.units))
    (λ e. length (item_line e.name (map (name_at (unit_names p.units)) e.units)) ≤ 8600)
    (λ e. exclusion_size (length p.units) (unit_names p.units) e good.few_units units)
    p.exclusions good.exclusions_formed) in
    let s1 = section_size (codes "materials") (material_lines p) in
    let s2 = section_size (codes "operating_units") (unit_lines p) in
    let s3 = section_size (codes "material_to_operating_unit_flow_rates") (rates_lines p) in
    let s4 = last_size (exclusion_lines p) in
    let y = payout_size p.payout good.payout_limit in
    let a1 = size-append (section_lines (codes "material_to_operating_unit_flow_rates")
    (rates_lines p)) (exclusion_section (exclusion_lines p)) in
    let a2 = size-append (section_lines (codes "operating_units") (unit_lines p))
    (section_lines (codes "material_to_operating_unit_flow_rates")
    (rates_lines p) ++ exclusion_section (exclusion_lines p)) in
    let a3 = size-append (section_lines (codes "materials") (material_lines p))
    (section_lines (codes "operating_units") (unit_lines p) ++
    (section_lines (codes "material_to_operating_unit_flow_rates")
    (rates_lines p) ++ exclusion_section (exclusion_lines p))) in
    let a4 = size-append (payout_lines p.payout)
    (section_lines (codes "materials") (material_lines p) ++
    (section_lines (codes "operating_units") (unit_lines p) ++
    (section_lines (codes "material_to_operating_unit_flow_rates")
    (rates_lines p) ++ exclusion_section (exclusion_lines p)))) in
    let c = size-cons (codes "file_type=PNS_problem_v1")
    (payout_lines p.payout ++ (section_lines (codes "materials") (material_lines p) ++
    (section_lines (codes "operating_units") (unit_lines p) ++
    (section_lines (codes "material_to_operating_unit_flow_rates")
    (rates_lines p) ++ exclusion_section (exclusion_lines p))))) in
    let few1 = good.few_materials in let few2 = good.few_units in let few3 = good.few_exclusions in
    omega (arith, m, u, r, x, s1, s2, s3, s4, y, a1, a2, a3, a4, c, few1, few2, few3)

pub canonical_is_short : ValidIsWellFormed → CanonicalIsShort
canonical_is_short well p valid = text_size p ((well p).0 valid)
