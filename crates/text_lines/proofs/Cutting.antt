-- A list that is split at the first element that passes.
use Rattle.std.proofs.Common.{◌≡◌, ◌==◌, ◌<◌, ◌≤◌, ◌+◌, ◌-◌, ℕ, Bool, true, false, cond, not, List}
use Rattle.std.proofs.Common.{[], ◌∷◌, length, map, take, drop, zero, suc, slice_index_or}
use Rattle.std.proofs.Common.{if◌then◌else◌, refl, ap, sym, ◌∙◌, arith, nat_lt, inl, inr}
use Rattle.std.proofs.Common.{length-drop}
use Rattle.std.proofs.lemmas.Bool.{cond-true, cond-false, cases_lt, ne_eqb, lt-ltb, le-ltb}
use Rattle.std.proofs.lemmas.List.{take_all}
use Rattle.std.specs.List.{slice_split, onto_first, position_or_len}
use Rattle.std.proofs.lemmas.List.Splits.{slice_split_first, slice_split-cons_no}
use Rattle.std.proofs.lemmas.List.Splits.{length-slice_split}
use Rattle.edit_rules.specs.text_rules.Line.{without_empty_last}
use Rattle.text_lines.specs.Lines.{line_by, lines_by}
use Rattle.text_lines.specs.declared.lines.Drops.{Drops}
use Rattle.text_lines.specs.declared.lines.Drops.TheVariants.{Return, ReturnAndBlanks}

-- split at the first element that passes
pub split-at : {X : Type 0} (p : X → Bool) (xs : List X) (d : X) (at : ℕ)
    → at ≡ position_or_len p xs → at < length xs
    → slice_split p xs ≡ take at xs ∷ slice_split p (drop (at + 1) xs)
split-at {X} p xs d at e lt =
    let short : position_or_len p xs < length xs = omega arith in
    slice_split_first p xs d short
    ∙ ap (λ (k : ℕ). take k xs ∷ slice_split p (drop (k + 1) xs)) (sym e)

none_step : {X : Type 0} (p : X → Bool) (x : X) (xs : List X) (b : Bool) → p x ≡ b
    → suc (length xs) ≤ cond (not b) (1 + position_or_len p xs) 0
    → (length xs ≤ position_or_len p xs → slice_split p xs ≡ xs ∷ [])
    → slice_split p (x ∷ xs) ≡ (x ∷ xs) ∷ []
none_step p x xs true e le rest = absurd (omega arith)
none_step {X} p x xs false e le rest =
    slice_split-cons_no p x xs e
    ∙ ap (λ (parts : List (List X)). onto_first x parts) (rest (omega arith))

-- if none passes
pub split-none : {X : Type 0} (p : X → Bool) (xs : List X) → length xs ≤ position_or_len p xs
    → slice_split p xs ≡ xs ∷ []
split-none p [] le = refl
split-none p (x ∷ xs) le = none_step p x xs (p x) refl le (split-none p xs)

-- the parts after the first
pub behind : {X : Type 0} → (X → Bool) → List X → ℕ → List (List X)
behind p xs at = cond (nat_lt at (length xs)) (slice_split p (drop (at + 1) xs)) []

pub behind-some : {X : Type 0} (p : X → Bool) (xs : List X) (at : ℕ) → at < length xs
    → behind p xs at ≡ slice_split p (drop (at + 1) xs)
unfolding behind
behind-some p xs at lt =
    cond-true (nat_lt at (length xs)) (slice_split p (drop (at + 1) xs)) []
    (lt-ltb at (length xs) lt)

pub behind-none : {X : Type 0} (p : X → Bool) (xs : List X) (at : ℕ) → length xs ≤ at
    → behind p xs at ≡ []
unfolding behind
behind-none p xs at le =
    cond-false (nat_lt at (length xs)) (slice_split p (drop (at + 1) xs)) []
    (le-ltb at (length xs) le)

-- the first part, wherever it ends
pub split-first : {X : Type 0} (p : X → Bool) (xs : List X) (d : X) (at : ℕ)
    → at ≡ position_or_len p xs → slice_split p xs ≡ take at xs ∷ behind p xs at
split-first {X} p xs d at e =
    elim (cases_lt at (length xs)) as (λ _. slice_split p xs ≡ take at xs ∷ behind p xs at) [
      | inl lt ↦ split-at p xs d at e lt
          ∙ ap (λ (parts : List (List X)). take at xs ∷ parts) (sym (behind-some p xs at lt))
      | inr le ↦
          let long : length xs ≤ position_or_len p xs = omega arith in
          let all : take at xs ≡ xs = take_all at xs le in
          split-none p xs long ∙ ap (λ (front : List X). front ∷ []) (sym all)
          ∙ ap (λ (parts : List (List X)). take at xs ∷ parts) (sym (behind-none p xs at le))
    ]

-- the last part of two or more
if_last : (b : Bool) (x : List ℕ) (k : ℕ) (rest : List (List ℕ))
    → (if b then x ∷ take k rest else x ∷ rest) ≡ x ∷ (if b then take k rest else rest)
if_last true x k rest = refl
if_last false x k rest = refl

without_last : ℕ → List (List ℕ) → List (List ℕ)
without_last k parts = if length (slice_index_or parts k (0 ∷ [])) == 0 then take k parts else parts

last-more : (x y : List ℕ) (ys : List (List ℕ))
    → without_empty_last (x ∷ y ∷ ys) ≡ x ∷ without_empty_last (y ∷ ys)
unfolding without_last
last-more x y ys =
    let long : length (x ∷ y ∷ ys) - 1 ≡ suc (length ys) = omega arith in
    let short : length (y ∷ ys) - 1 ≡ length ys = omega arith in
    ap (λ (k : ℕ). without_last k (x ∷ y ∷ ys)) long
    ∙ if_last (length (slice_index_or (y ∷ ys) (length ys) (0 ∷ [])) == 0) x (length ys) (y ∷ ys)
    ∙ ap (λ (k : ℕ). x ∷ without_last k (y ∷ ys)) (sym short)

pub more_parts : (x : List ℕ) (parts : List (List ℕ)) → 0 < length parts
    → without_empty_last (x ∷ parts) ≡ x ∷ without_empty_last parts
more_parts x [] lt = absurd (omega arith)
more_parts x (y ∷ ys) lt = last-more x y ys

pub parts_some : (p : ℕ → Bool) (xs : List ℕ) → 0 < length (slice_split p xs)
parts_some p xs = let long = length-slice_split p xs in omega (arith, long)

pub last_one : (x : ℕ) (xs : List ℕ) → without_empty_last ((x ∷ xs) ∷ []) ≡ (x ∷ xs) ∷ []
last_one x xs =
    cond-false (suc (length xs) == 0) [] ((x ∷ xs) ∷ [])
    (ne_eqb (suc (length xs)) 0 (λ e. omega (arith, e)))

-- the lines, whatever is dropped at their ends
lines_are : (drops : Drops) (rest : List ℕ)
    → lines_by drops rest ≡ map (line_by drops)
    (without_empty_last (slice_split (λ c. c == 10) rest))
lines_are Return rest = refl
lines_are ReturnAndBlanks rest = refl

-- a line that ends with a line feed, and the last line if there is none
pub lines_cut : (drops : Drops) (rest : List ℕ) (at : ℕ) → at ≡ position_or_len (λ c. c == 10) rest
    → at < length rest → lines_by drops rest ≡ line_by drops (take at rest)
    ∷ lines_by drops (drop (at + 1) rest)
lines_cut drops rest at e lt =
    lines_are drops rest
    ∙ ap (λ (parts : List (List ℕ)). map (line_by drops) (without_empty_last parts))
    (split-at (λ (c : ℕ). c == 10) rest 0 at e lt)
    ∙ ap (map (line_by drops))
    (more_parts (take at rest) (slice_split (λ c. c == 10) (drop (at + 1) rest))
    (parts_some (λ c. c == 10) (drop (at + 1) rest)))
    ∙ ap (λ (lines : List (List ℕ)). line_by drops (take at rest) ∷ lines)
    (sym (lines_are drops (drop (at + 1) rest)))

lines_none : (drops : Drops) → [] ≡ lines_by drops []
lines_none Return = refl
lines_none ReturnAndBlanks = refl

pub lines_last : (drops : Drops) (rest : List ℕ) → 0 < length rest
    → length rest ≤ position_or_len (λ c. c == 10) rest
    → lines_by drops rest ≡ line_by drops rest ∷ lines_by drops []
lines_last drops [] lt le = absurd (omega arith)
lines_last drops (x ∷ xs) lt le =
    lines_are drops (x ∷ xs)
    ∙ ap (λ (parts : List (List ℕ)). map (line_by drops) (without_empty_last parts))
    (split-none (λ (c : ℕ). c == 10) (x ∷ xs) le)
    ∙ ap (map (line_by drops)) (last_one x xs)
    ∙ ap (λ (lines : List (List ℕ)). line_by drops (x ∷ xs) ∷ lines) (lines_none drops)

-- each line has a byte or more
lines_short_by : (drops : Drops) (n : ℕ) (rest : List ℕ) → length rest ≤ n
    → length (lines_by drops rest) ≤ length rest
lines_short_by drops n [] le = let none =
    ap (λ (lines : List (List ℕ)). length lines) (lines_none drops) in omega (arith, none)
lines_short_by drops zero (x ∷ xs) le = absurd (omega arith)
lines_short_by drops (suc n) (x ∷ xs) le =
    let rest : List ℕ = x ∷ xs in
    let at : ℕ = position_or_len (λ c. c == 10) rest in
    elim (cases_lt at (length rest)) [
      | inl lt ↦
          let cut =
          ap (λ (lines : List (List ℕ)). length lines) (lines_cut drops rest at refl lt) in
          let less : length (drop (at + 1) rest) ≡ length rest - (at + 1) =
          length-drop (at + 1) rest in
          let more = lines_short_by drops n (drop (at + 1) rest) (omega (arith, less)) in
          omega (arith, cut, less, more)
      | inr le ↦
          let last =
          ap (λ (lines : List (List ℕ)). length lines)
          (lines_last drops rest (omega arith) le) in
          let none = ap (λ (lines : List (List ℕ)). length lines) (lines_none drops) in
          omega (arith, last, none)
    ]

pub lines_short : (drops : Drops) (rest : List ℕ) → length (lines_by drops rest) ≤ length rest
lines_short drops rest = lines_short_by drops (length rest) rest (omega arith)
