-- There are at most as many lines of a section as lines, and a place in a list is below its length.
use Rattle.std.proofs.Common.{◌≡◌, ◌≤◌, ◌<◌, ◌+◌, ◌&&◌, Bool, true, false, cond, not, nat_lt, ℕ}
use Rattle.std.proofs.Common.{suc, List, [], ◌∷◌, length, map, filter, Some, None, unwrap_or, refl}
use Rattle.std.proofs.Common.{arith, length-append, ltb-true}
use Rattle.std.specs.List.{position, position_or_len}
use Rattle.std.proofs.lemmas.List.{length-map}
use Rattle.std.proofs.lemmas.List.Sums.{length-filter, count_by-le-length}
use Rattle.text_lines.specs.text_rules.declared.Section.{Section}
use Rattle.text_lines.specs.text_rules.declared.Section.TheVariants.{OperatingUnits, Rates}
use Rattle.text_lines.specs.problem_rules.Names.{is_among}
use Rattle.text_lines.specs.text_rules.Line.{Placed, is_section, head_of, is_at, lines_at, heads_at}
use Rattle.text_lines.specs.text_rules.Value.{bare_lines, unit_names_from}

place_few : (b : Bool) (at long limit : ℕ) → nat_lt at long ≡ b → long < limit
    → unwrap_or (cond b (Some at) None) 0 < limit
place_few true at long limit e few = let below = ltb-true at long e in omega (arith, below, few)
place_few false at long limit e few = omega (arith, few)

pub position_few : {X : Type 0} (p : X → Bool) (xs : List X) (limit : ℕ) → length xs < limit
    → unwrap_or (position p xs) 0 < limit
position_few p xs limit few =
    place_few (nat_lt (position_or_len p xs) (length xs)) (position_or_len p xs) (length xs) limit
    refl few

filter_few : {X : Type 0} (p : X → Bool) (xs : List X) → length (filter p xs) ≤ length xs
filter_few p xs = let e = length-filter p xs in let le =
    count_by-le-length p xs in omega (arith, e, le)

pub heads_few : (section : Section) (lines : List Placed)
    → length (heads_at section lines) ≤ length lines
heads_few section lines =
    let e = length-map (lines_at section lines) (λ (line : Placed). head_of line.text) in
    let le = filter_few (is_at section) lines in
    omega (arith, e, le)

-- a line is in one section
pub apart : (section : Section) (header : Bool)
    → ((is_section OperatingUnits section && not header) &&
    (is_section Rates section && not header)) ≡ false
apart OperatingUnits true = refl
apart OperatingUnits false = refl
apart section header = refl

two : (b c : Bool) (x : Placed) (xs ys : List Placed) (n : ℕ) → (b && c) ≡ false
    → length xs + length ys ≤ n → length (cond b (x ∷ xs) xs) + length (cond c (x ∷ ys) ys) ≤ suc n
two true true x xs ys n e le = cc
two true false x xs ys n e le = omega (arith, le)
two false true x xs ys n e le = omega (arith, le)
two false false x xs ys n e le = omega (arith, le)

both_few : (lines : List Placed)
    → length (lines_at OperatingUnits lines) + length (lines_at Rates lines) ≤ length lines
both_few [] = omega arith
both_few (line ∷ lines) =
    two (is_at OperatingUnits line) (is_at Rates line) line (lines_at OperatingUnits lines)
    (lines_at Rates lines) (length lines) (apart line.section line.header) (both_few lines)

pub units_few : (lines : List Placed) → length (unit_names_from lines) ≤ length lines
units_few lines =
    let units : List (List ℕ) = heads_at OperatingUnits lines in
    let bare : List (List ℕ) =
    map (λ (line : Placed). head_of line.text) (bare_lines units lines) in
    let all = length-append units bare in
    let one = length-map (lines_at OperatingUnits lines) (λ (line : Placed). head_of line.text) in
    let other = length-map (bare_lines units lines) (λ (line : Placed). head_of line.text) in
    let few =
    filter_few (λ (line : Placed). not (is_among units (head_of line.text)))
    (lines_at Rates lines) in
    let le = both_few lines in
    omega (arith, all, one, other, few, le)
