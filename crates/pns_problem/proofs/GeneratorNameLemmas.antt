-- Numbered names are names, and they differ from one another.
use Rattle.std.proofs.Common.{◌≡◌, ℕ, zero, suc, ◌+◌, ◌<◌, ◌≤◌, ◌^◌, true, false, List, [], ◌∷◌}
use Rattle.std.proofs.Common.{◌++◌, map, codes, refl, arith}
use Rattle.std.specs.Prelude.{decimal}
use Rattle.std.specs.Fmt.{digits}
use Rattle.std.specs.List.{range_with_len}
use Rattle.std.specs.Str.{bytes_eq}
use Rattle.std.proofs.lemmas.Bool.{or_from, false_from_ne_true, agree_below_at}
use Rattle.std.proofs.lemmas.Slice.Eq.{bytes_eq-Decides}
use Rattle.std.proofs.lemmas.Fmt.{decimal_injective}
use Rattle.text_rules.specs.problem_rules.Problem.{Material, material_names, unit_names}
use Rattle.text_rules.specs.problem_rules.Names.{is_name, is_among, has_double}
use Rattle.text_rules.specs.problem_rules.Generated.{numbered, intermediate_of, end_product}
use Rattle.text_rules.specs.problem_rules.Generated.{materials_of}
use Rattle.text_rules.specs.problem_rules.Generated.{unit_in_turn, units_of}

-- ---- names

pub intermediate_is_name : (number : ℕ) → number < 128
    → is_name (numbered (codes "M") number) ≡ true
unfolding digits
intermediate_is_name number h =
    agree_below_at (λ i. is_name (numbered (codes "M") i)) (λ i. true) 128 number refl h

pub raw_is_name : (number : ℕ) → number < 3 → is_name (numbered (codes "R") number) ≡ true
unfolding digits
raw_is_name number h =
    agree_below_at (λ i. is_name (numbered (codes "R") i)) (λ i. true) 3 number refl h

pub unit_is_name : (number : ℕ) → number < 128 → is_name (numbered (codes "U") number) ≡ true
unfolding digits
unit_is_name number h =
    agree_below_at (λ i. is_name (numbered (codes "U") i)) (λ i. true) 128 number refl h

-- ---- names that differ

numbers_apart : (i j : ℕ) → i < j → j < 2 ^ 64 → bytes_eq (decimal j) (decimal i) ≡ false
numbers_apart i j h g =
    false_from_ne_true (bytes_eq (decimal j) (decimal i))
    (λ e. let same : j ≡ i =
    decimal_injective j i g (omega arith) ((bytes_eq-Decides (decimal j) (decimal i)).0 e) in
    omega arith)

-- no unit's name from `a` on is that of an earlier unit
no_unit : (count state i a n : ℕ) → i < a → a + n ≤ 128
    → is_among (unit_names (map (unit_in_turn count state) (range_with_len a n)))
    (numbered (codes "U") i) ≡ false
no_unit count state i a zero h g = refl
no_unit count state i a (suc n) h g =
    or_from (bytes_eq (numbered (codes "U") a) (numbered (codes "U") i))
    (is_among (unit_names (map (unit_in_turn count state) (range_with_len (a + 1) n)))
    (numbered (codes "U") i))
    (numbers_apart i a h (omega arith))
    (no_unit count state i (a + 1) n (omega arith) (omega arith))

units_apart_from : (count state a n : ℕ) → a + n ≤ 128
    → has_double (unit_names (map (unit_in_turn count state) (range_with_len a n))) ≡ false
units_apart_from count state a zero h = refl
units_apart_from count state a (suc n) h =
    or_from
    (is_among (unit_names (map (unit_in_turn count state) (range_with_len (a + 1) n)))
    (numbered (codes "U") a))
    (has_double (unit_names (map (unit_in_turn count state) (range_with_len (a + 1) n))))
    (no_unit count state a (a + 1) n (omega arith) (omega arith))
    (units_apart_from count state (a + 1) n (omega arith))

pub units_apart : (count state units : ℕ) → units ≤ 128
    → has_double (unit_names (units_of count state units)) ≡ false
units_apart count state units h = units_apart_from count state 0 units (omega arith)

-- the intermediates from `a` on, and the product
abbrev tail : ℕ → ℕ → List Material
tail a n = map intermediate_of (range_with_len a n) ++ end_product ∷ []

no_intermediate : (i a n : ℕ) → i < a → a + n ≤ 128
    → is_among (material_names (tail a n)) (numbered (codes "M") i) ≡ false
no_intermediate i a zero h g = refl
no_intermediate i a (suc n) h g =
    or_from (bytes_eq (numbered (codes "M") a) (numbered (codes "M") i))
    (is_among (material_names (tail (a + 1) n)) (numbered (codes "M") i))
    (numbers_apart i a h (omega arith)) (no_intermediate i (a + 1) n (omega arith) (omega arith))

tail_apart : (a n : ℕ) → a + n ≤ 128 → has_double (material_names (tail a n)) ≡ false
tail_apart a zero h = refl
tail_apart a (suc n) h =
    or_from (is_among (material_names (tail (a + 1) n)) (numbered (codes "M") a))
    (has_double (material_names (tail (a + 1) n)))
    (no_intermediate a (a + 1) n (omega arith) (omega arith)) (tail_apart (a + 1) n (omega arith))

-- the name of a raw material begins with another letter than those of the intermediates and of the
-- product
no_raw : (rest : List ℕ) (a n : ℕ)
    → is_among (material_names (tail a n)) (codes "R" ++ rest) ≡ false
no_raw rest a zero = refl
no_raw rest a (suc n) = no_raw rest (a + 1) n

pub materials_apart : (count state : ℕ) → count ≤ 128
    → has_double (material_names (materials_of count state)) ≡ false
unfolding digits
materials_apart count state h =
    or_from (is_among (material_names (tail 0 count)) (codes "R0")) _ (no_raw (codes "0") 0 count)
    (or_from (is_among (material_names (tail 0 count)) (codes "R1")) _ (no_raw (codes "1") 0 count)
    (or_from (is_among (material_names (tail 0 count)) (codes "R2")) _ (no_raw (codes "2") 0 count)
    (tail_apart 0 count (omega arith))))
