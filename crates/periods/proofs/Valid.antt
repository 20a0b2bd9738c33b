-- A plan that is read is one for the problem: its amounts are within 10^9, its bounds are not below
-- 0 and in order, it has a period, and it is not too wide.
use Rattle.std.proofs.Common.{◌≡◌, ◌<◌, ◌+◌, ◌==◌, Bool, true, false, ℕ, zero, suc, Option, Some}
use Rattle.std.proofs.Common.{None, List, [], ◌∷◌, map, length, Result, Ok, Err, IfOk, IfNone, ℤ}
use Rattle.std.proofs.Common.{pos, refl, sym, subst, ap, ◌∙◌, arith, if◌then◌else◌}
use Rattle.std.specs.Prelude.{int_lt, slice_index_or, slice_set}
use Rattle.std.proofs.lemmas.Bool.{eqb-false}
use Rattle.std.proofs.lemmas.List.{length-map, length-set}
use Rattle.plan_laws.specs.problem_rules.Each.{Each}
use Rattle.plan_laws.specs.problem_rules.Problem.{Problem, Material}
use Rattle.plan_laws.specs.problem_rules.WellFormed.{IsInRange, AreBounds, IsWellFormedMaterial}
use Rattle.plan_laws.specs.problem_rules.WellFormed.{IsWellFormed}
use Rattle.plan_laws.specs.edit_rules.Formed.{AreSignedBounds}
use Rattle.plan_laws.specs.edit_rules.Place.{has_material, material_place}
use Rattle.edit_scripts.proofs.Cited.{amount_formed, bounds_formed}
use Rattle.plan_laws.specs.edit_rules.declared.EditKind.{EditKind}
use Rattle.plan_laws.specs.edit_rules.Line.{tokens_of, script_lines}
use Rattle.plan_laws.specs.edit_rules.Read.{amount_read, bounds_read}
use Rattle.plan_laws.specs.plan_rules.declared.PlanKind.{PlanKind}
use Rattle.plan_laws.specs.plan_rules.declared.PlanKind.TheVariants.{FileType, BadLine, DoubleLine}
use Rattle.plan_laws.specs.plan_rules.declared.PlanKind.TheVariants.{UnknownName, LowAboveHigh}
use Rattle.plan_laws.specs.plan_rules.declared.PlanKind.TheVariants.{NoPeriod}
use Rattle.plan_laws.specs.plan_rules.declared.PlanKind.TheVariants.{TooWide}
use Rattle.plan_laws.specs.plan_rules.declared.PlanWord.{PlanWord}
use Rattle.plan_laws.specs.plan_rules.declared.PlanWord.TheVariants as words
use Rattle.plan_laws.specs.plan_rules.Line.{file_type, Entry, begins, price, bounds, entry_by}
use Rattle.plan_laws.specs.plan_rules.Line.{word_named}
use Rattle.plan_laws.specs.plan_rules.Line.{worded_read, tokens_read, line_read}
use Rattle.plan_laws.specs.plan_rules.Meaning.{entry_fault, at_line, lines_fault, period_count}
use Rattle.plan_laws.specs.plan_rules.Meaning.{or_behind}
use Rattle.plan_laws.specs.plan_rules.Meaning.{own_period, changed, period_from, periods_of, judged}
use Rattle.plan_laws.specs.plan_rules.Meaning.{lines_judged, read_plan}
use Rattle.plan_laws.specs.plan_rules.Plan.{Period, Plan, IsPeriod, is_too_wide, IsPlan}
use Rattle.plan_laws.specs.plan_rules.Read.{Fault, Line, Seen, is_begin, is_double, seen_past}
use Rattle.plan_laws.specs.plan_rules.Read.{nothing_seen}
use Rattle.plan_laws.specs.plan_rules.Read.{placed, with_line, lines_read, text_read, read_lines}
use Rattle.std.specs.Str.{bytes_eq}

either : {A : Type 0} (P : A → Type 0) (b : Bool) (x y : A) → P x → P y → P (if b then x else y)
either P true x y one two = one
either P false x y one two = two

-- ---- lines alone

-- amounts as a line can have them
abbrev Formed : Entry → Type 0
Formed begins = Unit {0}
Formed (price name value) = IsInRange value
Formed (bounds name lower upper) = AreSignedBounds lower upper

abbrev IsFormed : Result Entry PlanKind → Type 0
IsFormed r = IfOk r Formed

entry_formed : {A : Type 0} (entry : A → Entry) (r : Result A EditKind)
    → ((v : A) → r ≡ Ok v → Formed (entry v)) → IsFormed (entry_by entry r)
entry_formed entry (Ok v) h = h v refl
entry_formed entry (Err kind) h = tt

worded_formed : (word : Option PlanWord) (fields : List (List ℕ))
    → IsFormed (worded_read word fields)
worded_formed None fields = tt
worded_formed (Some words.Period) [] = tt
worded_formed (Some words.Period) (field ∷ fields) = tt
worded_formed (Some words.Price) fields =
    entry_formed (λ (read : List ℕ × ℤ). price read.0 read.1) (amount_read fields)
    (λ v good. (amount_formed fields v good).1)
worded_formed (Some words.Bounds) fields =
    entry_formed (λ (read : List ℕ × (ℤ × ℤ)). bounds read.0 read.1.0 read.1.1) (bounds_read fields)
    (λ v good. (bounds_formed fields v good).1)

tokens_formed : (tokens : List (List ℕ)) → IsFormed (tokens_read tokens)
tokens_formed [] = tt
tokens_formed (word ∷ fields) = worded_formed (word_named word) fields

placed_formed : (seen : Seen) (r : Result Entry PlanKind) → IsFormed r → IsFormed (placed seen r)
placed_formed seen (Err kind) formed = either IsFormed seen.started (Err kind) (Err BadLine) tt tt
placed_formed seen (Ok entry) formed =
    either IsFormed (is_begin entry) (Ok entry)
    (if seen.started then (if is_double seen entry then Err DoubleLine else Ok entry) else Err
    BadLine) formed
    (either IsFormed seen.started (if is_double seen entry then Err DoubleLine else Ok entry)
    (Err BadLine) (either IsFormed (is_double seen entry) (Err DoubleLine) (Ok entry) tt formed)
    tt)

-- ---- all lines

abbrev AreFormed : List Line → Type 0
AreFormed lines = Each (λ (line : Line). Formed line.entry) lines

with_formed : (number : ℕ) (r : Result Entry PlanKind) (rest : Result (List Line) Fault)
    → IsFormed r → IfOk rest AreFormed → IfOk (with_line number r rest) AreFormed
with_formed number (Err kind) rest one all = tt
with_formed number (Ok entry) (Err fault) one all = tt
with_formed number (Ok entry) (Ok lines) one all = (one, all)

lines_formed : (number : ℕ) (seen : Seen) (texts : List (List ℕ))
    → IfOk (lines_read number seen texts) AreFormed
lines_formed number seen [] = tt
lines_formed number seen ([] ∷ texts) = lines_formed (number + 1) seen texts
lines_formed number seen ((c ∷ cs) ∷ texts) =
    let read : Result Entry PlanKind = line_read (c ∷ cs) in
    with_formed number (placed seen read) (lines_read (number + 1) (seen_past seen read) texts)
    (placed_formed seen read (tokens_formed (tokens_of (c ∷ cs))))
    (lines_formed (number + 1) (seen_past seen read) texts)

text_formed : (texts : List (List ℕ)) → IfOk (text_read texts) AreFormed
text_formed [] = tt
text_formed (first ∷ texts) =
    either (λ r. IfOk r AreFormed) (bytes_eq first file_type) (lines_read 2 nothing_seen texts)
    (Err (1, FileType)) (lines_formed 2 nothing_seen texts) tt

-- ---- lines without a fault of meaning

abbrev Good : Entry → Type 0
Good begins = Unit {0}
Good (price name value) = IsInRange value
Good (bounds name lower upper) = AreBounds lower upper

abbrev AreGood : List Line → Type 0
AreGood lines = Each (λ (line : Line). Good line.entry) lines

in_order : (P : Type 0) (known above : Bool) → (above ≡ false → P)
    → IfNone (if known then (if above then Some LowAboveHigh else None) else Some UnknownName) P
in_order P true true good = tt
in_order P true false good = good refl
in_order P false above good = tt

good_of : (p : Problem) (entry : Entry) → Formed entry → IfNone (entry_fault p entry) (Good entry)
good_of p begins formed = tt
good_of p (price name value) formed =
    either (λ (fault : Option PlanKind). IfNone fault (IsInRange value)) (has_material p name) None
    (Some UnknownName) formed tt
good_of p (bounds name lower upper) formed =
    in_order (AreBounds lower upper) (has_material p name) (int_lt upper lower)
    (λ ordered. record {
      lower_bound = formed.lower_bound;
      upper_bound =
          formed.upper_bound;
      ordered = ordered;
    })

at_good : (P Q : Type 0) (number : ℕ) (fault : Option PlanKind) (rest : Option Fault)
    → IfNone fault P → IfNone rest Q → IfNone (at_line number fault rest) (P × Q)
at_good P Q number (Some kind) rest one all = tt
at_good P Q number None (Some fault) one all = tt
at_good P Q number None None one all = (one, all)

lines_good : (p : Problem) (lines : List Line) → AreFormed lines
    → IfNone (lines_fault p lines) (AreGood lines)
lines_good p [] formed = tt
lines_good p (line ∷ lines) formed =
    at_good (Good line.entry) (AreGood lines) line.number (entry_fault p line.entry)
    (lines_fault p lines) (good_of p line.entry formed.0) (lines_good p lines formed.1)

-- ---- periods

in_place : (P : ℤ → ℤ → Type 0) (xs ys : List ℤ) (k : ℕ) (v w : ℤ) → length xs ≡ length ys
    → ((j : ℕ) → j < length xs → P (slice_index_or xs j (pos 0)) (slice_index_or ys j (pos 0)))
    → P v w
    → (j : ℕ) → j < length xs
    → P (slice_index_or (slice_set xs k v) j (pos 0))
    (slice_index_or (slice_set ys k w) j (pos 0))
in_place P [] ys k v w long all new j lt = absurd (omega (arith, lt))
in_place P (x ∷ xs) [] k v w long all new j lt = absurd (omega (arith, long))
in_place P (x ∷ xs) (y ∷ ys) zero v w long all new zero lt = new
in_place P (x ∷ xs) (y ∷ ys) zero v w long all new (suc j) lt = all (suc j) lt
in_place P (x ∷ xs) (y ∷ ys) (suc k) v w long all new zero lt = all zero lt
in_place P (x ∷ xs) (y ∷ ys) (suc k) v w long all new (suc j) lt =
    in_place P xs ys k v w (omega (arith, long)) (λ i less. all (suc i) (omega (arith, less))) new j
    (omega (arith, lt))

changed_formed : (p : Problem) (m : ℕ) (q : Period) (entry : Entry) → IsPeriod m q → Good entry
    → IsPeriod m (changed p q entry)
changed_formed p m q begins formed good = formed
changed_formed p m q (price name value) formed good = record {
  all_prices = length-set q.prices (material_place p name) value ∙ formed.all_prices;
  all_lowers = formed.all_lowers;
  all_uppers = formed.all_uppers;
  prices_in_range =
      λ j lt. in_place (λ x y. IsInRange x) q.prices q.prices (material_place p name) value value
      refl
      (λ i less. formed.prices_in_range i (omega (arith, less, formed.all_prices))) good j
      (omega (arith, lt, formed.all_prices));
  bounds = formed.bounds;
}
changed_formed p m q (bounds name lower upper) formed good = record {
  all_prices = formed.all_prices;
  all_lowers = length-set q.lowers (material_place p name) lower ∙ formed.all_lowers;
  all_uppers = length-set q.uppers (material_place p name) upper ∙ formed.all_uppers;
  prices_in_range = formed.prices_in_range;
  bounds =
      λ j lt. in_place AreBounds q.lowers q.uppers (material_place p name) lower upper
      (formed.all_lowers ∙ sym formed.all_uppers)
      (λ i less. formed.bounds i (omega (arith, less, formed.all_lowers))) good j
      (omega (arith, lt, formed.all_lowers));
}

own_price : (ms : List Material) (j : ℕ) → Each IsWellFormedMaterial ms → j < length ms
    → IsInRange (slice_index_or (map (λ (m : Material). m.price) ms) j (pos 0))
own_price [] j each lt = absurd (omega (arith, lt))
own_price (m ∷ ms) zero each lt = each.0.price_in_range
own_price (m ∷ ms) (suc j) each lt = own_price ms j each.1 (omega (arith, lt))

own_bounds : (ms : List Material) (j : ℕ) → Each IsWellFormedMaterial ms → j < length ms
    → AreBounds (slice_index_or (map (λ (m : Material). m.lower) ms) j (pos 0))
    (slice_index_or (map (λ (m : Material). m.upper) ms) j (pos 0))
own_bounds [] j each lt = absurd (omega (arith, lt))
own_bounds (m ∷ ms) zero each lt = each.0.bounds
own_bounds (m ∷ ms) (suc j) each lt = own_bounds ms j each.1 (omega (arith, lt))

own_formed : (p : Problem) → IsWellFormed p → IsPeriod (length p.materials) (own_period p)
own_formed p good = record {
  all_prices = length-map p.materials (λ (m : Material). m.price);
  all_lowers = length-map p.materials (λ (m : Material). m.lower);
  all_uppers = length-map p.materials (λ (m : Material). m.upper);
  prices_in_range = λ j lt. own_price p.materials j good.materials_formed lt;
  bounds = λ j lt. own_bounds p.materials j good.materials_formed lt;
}

period_formed : (p : Problem) (m : ℕ) (q : Period) (lines : List Line) → IsPeriod m q
    → AreGood lines → IsPeriod m (period_from p q lines)
period_formed p m q [] formed good = formed
period_formed p m q (line ∷ lines) formed good =
    either (IsPeriod m) (is_begin line.entry) q (period_from p (changed p q line.entry) lines)
    formed
    (period_formed p m (changed p q line.entry) lines
    (changed_formed p m q line.entry formed good.0) good.1)

periods_formed : (p : Problem) (m : ℕ) (lines : List Line) → IsPeriod m (own_period p)
    → AreGood lines → Each (IsPeriod m) (periods_of p lines)
periods_formed p m [] own good = tt
periods_formed p m (line ∷ lines) own good =
    either (Each (IsPeriod m)) (is_begin line.entry)
    (period_from p (own_period p) lines ∷ periods_of p lines) (periods_of p lines)
    (period_formed p m (own_period p) lines own good.1, periods_formed p m lines own good.1)
    (periods_formed p m lines own good.1)

one_each : (b : Bool) (q : Period) (qs : List Period) (n : ℕ) → length qs ≡ n
    → length (if b then q ∷ qs else qs) ≡ (if b then suc n else n)
one_each true q qs n e = ap suc e
one_each false q qs n e = e

pub periods_counted : (p : Problem) (lines : List Line)
    → length (periods_of p lines) ≡ period_count lines
periods_counted p [] = refl
periods_counted p (line ∷ lines) =
    one_each (is_begin line.entry) (period_from p (own_period p) lines) (periods_of p lines)
    (period_count lines) (periods_counted p lines)

-- ---- the plan

plan_by : (p : Problem) (number : ℕ) (lines : List Line) (none wide : Bool)
    → (period_count lines == 0) ≡ none
    → is_too_wide (length p.units) (length p.materials) (period_count lines) ≡ wide → IsWellFormed p
    → AreGood lines
    → IfOk
    (judged p lines
    (at_line number (if none then Some NoPeriod else if wide then Some TooWide else None) None))
    (IsPlan p)
plan_by p number lines true wide some narrow formed good = tt
plan_by p number lines false true some narrow formed good = tt
plan_by p number lines false false some narrow formed good =
    let same = periods_counted p lines in
    record {
      some =
          positive (period_count lines) (length (periods_of p lines))
          (eqb-false (period_count lines) 0 some) same;
      periods_formed = periods_formed p (length p.materials) lines (own_formed p formed) good;
      narrow = ap (is_too_wide (length p.units) (length p.materials)) same ∙ narrow;
    }
  where
    positive : (n k : ℕ) → (n ≡ 0 → ⊥) → k ≡ n → 0 < k
    positive zero k not e = absurd (not refl)
    positive (suc n) k not e = omega (arith, e)

judged_valid : (p : Problem) (count : ℕ) (lines : List Line) (fault : Option Fault) → IsWellFormed p
    → IfNone fault (AreGood lines)
    → IfOk (judged p lines (or_behind p count lines fault)) (IsPlan p)
judged_valid p count lines (Some fault) formed good = tt
judged_valid p count lines None formed good =
    plan_by p (count + 1) lines (period_count lines == 0)
    (is_too_wide (length p.units) (length p.materials) (period_count lines)) refl refl formed good

lines_valid : (p : Problem) (count : ℕ) (r : Result (List Line) Fault) → IsWellFormed p
    → IfOk r AreFormed → IfOk (lines_judged p count r) (IsPlan p)
lines_valid p count (Err fault) formed lines = tt
lines_valid p count (Ok lines) formed all =
    judged_valid p count lines (lines_fault p lines) formed (lines_good p lines all)

pub read_valid : {E : Type 0} (p : Problem) (bytes : List ℕ) (result : Result Plan E)
    → IsWellFormed p → IfOk result (λ plan. read_plan p bytes ≡ Ok plan) → IfOk result (IsPlan p)
read_valid p bytes (Ok plan) formed e =
    let whole : IfOk (read_plan p bytes) (IsPlan p) =
    lines_valid p (length (script_lines bytes)) (read_lines bytes) formed
    (text_formed (script_lines bytes)) in
    subst (λ (r : Result Plan Fault). IfOk r (IsPlan p)) e whole
read_valid p bytes (Err fault) formed e = tt
