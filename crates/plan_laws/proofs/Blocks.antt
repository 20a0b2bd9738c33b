-- Numbers in blocks of one width: block t has the numbers t * w + i with i below w.
use Rattle.std.proofs.Common.{◌≡◌, ◌<◌, ◌≤◌, ◌+◌, ◌-◌, ◌*◌, ℕ, zero, suc, Bool, true, false, cond}
use Rattle.std.proofs.Common.{nat_lt, List, [], ◌∷◌, ◌++◌, flat_map, length, refl, sym, ap, ◌∙◌}
use Rattle.std.proofs.Common.{inl, inr, ◌⊎◌, arith, ℤ, pos, ◌+ℤ◌}
use Rattle.std.specs.Prelude.{slice_index_or}
use Rattle.std.specs.List.{range_with_len}
use Rattle.std.proofs.lemmas.Int.{ints}
use Rattle.std.proofs.lemmas.Bool.{cases_lt, lt-ltb, le-ltb, false_from_ne_true, ltb-true}
use Rattle.std.proofs.lemmas.List.{get_or_append_left, get_or-append_right}
use Rattle.std.proofs.Math.Nat.{mul-le-mul_right}
use Rattle.plan_rules.specs.integer_laws.Total.{total_below}
use Rattle.plan_rules.proofs.integer_laws.Cited.{total_below-split}
use Rattle.plan_laws.proofs.Lists.{times_more}

-- the end of a block is at most the start of the next
pub block_ends : (t k w : ℕ) → t < k → t * w + w ≤ k * w
block_ends t k w less = let le : suc t * w ≤ k * w = mul-le-mul_right w less in let more =
    times_more t w in omega (arith, le, more)

pub in_blocks : (t i k w : ℕ) → t < k → i < w → t * w + i < k * w
in_blocks t i k w lt less = let ends = block_ends t k w lt in omega (arith, ends, less)

-- a number is in one block alone, at one place
pub same_block : (s t i j w : ℕ) → i < w → j < w → s * w + i ≡ t * w + j → (s ≡ t) × (i ≡ j)
same_block s t i j w l k e =
    elim (cases_lt s t) as (λ _. (s ≡ t) × (i ≡ j)) [
      | inl less ↦ let ends = block_ends s t w less in absurd (omega (arith, ends, l, e))
      | inr more ↦ elim (cases_lt t s) as (λ _. (s ≡ t) × (i ≡ j)) [
        | inl less ↦ let ends = block_ends t s w less in absurd (omega (arith, ends, k, e))
        | inr le ↦
            let same : s ≡ t = omega (arith, more, le) in
            let starts : s * w ≡ t * w = ap (λ n. n * w) same in
            (same, omega (arith, starts, e))
      ]
    ]

-- the place of a number
pub record InBlock (w k x : ℕ) : Type 0 where
  pub block : ℕ
  pub place : ℕ
  pub known : block < k
  pub within : place < w
  pub is : x ≡ block * w + place

pub find_block : (w k x : ℕ) → x < k * w → InBlock w k x
find_block w zero x lt = absurd (omega (arith, lt))
find_block w (suc k) x lt =
    elim (cases_lt x (k * w)) as (λ _. InBlock w (suc k) x) [
      | inl less ↦ let b = find_block w k x less in
          record {
            block = b.block;
            place = b.place;
            known = omega (arith, b.known);
            within =
                b.within;
            is = b.is;
          }
      | inr more ↦
          let next = times_more k w in
          record {
            block = k;
            place = x - k * w;
            known = omega arith;
            within =
                omega (arith, lt, next, more);
            is = omega (arith, more);
          }
    ]

-- ---- a value for each number of each block

abbrev pub by_block : {A : Type 0} → ℕ → ℕ → (ℕ → ℕ → A) → A → ℕ → A
by_block zero w f d x = d
by_block (suc k) w f d x = cond (nat_lt x (k * w)) (by_block k w f d x) (f k (x - k * w))

pub by_block_is : {A : Type 0} (k w : ℕ) (f : ℕ → ℕ → A) (d : A) (t i : ℕ) → t < k → i < w
    → by_block k w f d (t * w + i) ≡ f t i
by_block_is {A} zero w f d t i lt less = absurd (omega (arith, lt))
by_block_is {A} (suc k) w f d t i lt less =
    elim (cases_lt t k) as (λ _. by_block (suc k) w f d (t * w + i) ≡ f t i) [
      | inl before ↦
          ap (λ b. cond b (by_block k w f d (t * w + i)) (f k ((t * w + i) - k * w)))
          (lt-ltb (t * w + i) (k * w) (in_blocks t i k w before less))
          ∙ by_block_is k w f d t i before less
      | inr from ↦
          let same : t ≡ k = omega (arith, lt, from) in
          let starts : t * w ≡ k * w = ap (λ n. n * w) same in
          let rest : (t * w + i) - k * w ≡ i = omega (arith, starts) in
          ap (λ b. cond b (by_block k w f d (t * w + i)) (f k ((t * w + i) - k * w)))
          (le-ltb (t * w + i) (k * w) (omega (arith, starts)))
          ∙ (ap (λ j. f k j) rest ∙ ap (λ s. f s i) (sym same))
    ]

-- ---- lists made block by block

pub block_item : {X : Type 0} (f : ℕ → List X) (w a k t i : ℕ) (d : X)
    → ((s : ℕ) → length (f s) ≡ w) → t < k → i < w
    → slice_index_or (flat_map f (range_with_len a k)) (t * w + i) d
    ≡ slice_index_or (f (a + t)) i d
block_item {X} f w a zero t i d long lt less = absurd (omega (arith, lt))
block_item {X} f w a (suc k) zero i d long lt less =
    let all = long a in
    let here : 0 * w + i ≡ i = omega arith in
    ap (λ x. slice_index_or (f a ++ flat_map f (range_with_len (a + 1) k)) x d) here
    ∙ get_or_append_left (f a) (flat_map f (range_with_len (a + 1) k)) d i
    (omega (arith, all, less)) ∙ ap (λ s. slice_index_or (f s) i d) (omega arith)
block_item {X} f w a (suc k) (suc t) i d long lt less =
    let next = times_more t w in
    let rest : (suc t * w + i) - w ≡ t * w + i = omega (arith, next) in
    get_or-append_right (f a) (flat_map f (range_with_len (a + 1) k)) w (suc t * w + i) d (long a)
    (omega (arith, next))
    ∙ (ap (λ x. slice_index_or (flat_map f (range_with_len (a + 1) k)) x d) rest
    ∙ (block_item f w (a + 1) k t i d long (omega (arith, lt)) less
    ∙ ap (λ s. slice_index_or (f s) i d) (omega arith)))

pub block_at : {X : Type 0} (f : ℕ → List X) (w k t i : ℕ) (d : X) → ((s : ℕ) → length (f s) ≡ w)
    → t < k → i < w → slice_index_or (flat_map f (range_with_len 0 k)) (t * w + i) d
    ≡ slice_index_or (f t) i d
block_at f w k t i d long lt less = block_item f w 0 k t i d long lt less
    ∙ ap (λ s. slice_index_or (f s) i d) (omega arith)

-- ---- sums

pub total_blocks : (k w : ℕ) (f : ℕ → ℤ)
    → total_below (k * w) f ≡ total_below k (λ t. total_below w (λ i. f (t * w + i)))
total_blocks zero w f = let none : 0 * w ≡ 0 = omega arith in ap (λ n. total_below n f) none
total_blocks (suc k) w f =
    ap (λ n. total_below n f) (times_more k w)
    ∙ (total_below-split (k * w) w f
    ∙ ap (λ x. x +ℤ total_below w (λ i. f (k * w + i))) (total_blocks k w f))
