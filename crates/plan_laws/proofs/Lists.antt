-- Lists that are made for a range of numbers, item by item and block by block.
use Rattle.std.proofs.Common.{◌≡◌, ◌<◌, ◌≤◌, ◌+◌, ◌*◌, ℕ, zero, suc, Bool, true, false, ◌||◌, List}
use Rattle.std.proofs.Common.{[], ◌∷◌, ◌++◌, map, flat_map, length, refl, sym, ap, ◌∙◌, inl, inr}
use Rattle.std.proofs.Common.{arith, length-append, append_assoc, append-nil, add-one, take, get_or}
use Rattle.std.proofs.lemmas.Grind.{flat_map-append}
use Rattle.std.proofs.lemmas.List.{map-append, take_more}
use Rattle.std.specs.Prelude.{slice_index_or}
use Rattle.std.specs.List.{list_any, range_with_len}
use Rattle.std.proofs.lemmas.Bool.{true≢false, or_left, or_right, cases_lt}
use Rattle.std.proofs.lemmas.List.Folds.{list_any-append}
use Rattle.plan_rules.specs.problem_rules.Each.{Each}
use Rattle.text_laws.proofs.Cited.{each-append}

pub times_more : (n w : ℕ) → suc n * w ≡ n * w + w
times_more n w = omega arith

module _ {X : Type 0} (P : X → Type 0) where
  pub each_in_range : (f : ℕ → X) (a n : ℕ) → ((i : ℕ) → a ≤ i → i < a + n → P (f i))
      → Each P (map f (range_with_len a n))
  each_in_range f a zero h = tt
  each_in_range f a (suc n) h = (
    h a (omega arith) (omega arith),
    each_in_range f (a + 1) n (λ i g k. h i (omega arith) (omega arith)),
  )

  pub each_in_blocks : (f : ℕ → List X) (a n : ℕ) → ((i : ℕ) → a ≤ i → i < a + n → Each P (f i))
      → Each P (flat_map f (range_with_len a n))
  each_in_blocks f a zero h = tt
  each_in_blocks f a (suc n) h =
      each-append P (f a) (flat_map f (range_with_len (a + 1) n)) (h a (omega arith) (omega arith))
      (each_in_blocks f (a + 1) n (λ i g k. h i (omega arith) (omega arith)))

  pub each_at : (xs : List X) (i : ℕ) (d : X) → Each P xs → i < length xs
      → P (slice_index_or xs i d)
  each_at [] i d each lt = absurd (omega (arith, lt))
  each_at (x ∷ xs) zero d each lt = each.0
  each_at (x ∷ xs) (suc i) d each lt = each_at xs i d each.1 (omega (arith, lt))

-- an item that is in the list does not depend on the default
pub same_default : {X : Type 0} (xs : List X) (i : ℕ) (d e : X) → i < length xs
    → slice_index_or xs i d ≡ slice_index_or xs i e
same_default [] i d e lt = absurd (omega (arith, lt))
same_default (x ∷ xs) zero d e lt = refl
same_default (x ∷ xs) (suc i) d e lt = same_default xs i d e (omega (arith, lt))

pub length_of_blocks : {X : Type 0} (f : ℕ → List X) (w a n : ℕ) → ((i : ℕ) → length (f i) ≡ w)
    → length (flat_map f (range_with_len a n)) ≡ n * w
length_of_blocks f w a zero h = omega arith
length_of_blocks f w a (suc n) h =
    let both = length-append (f a) (flat_map f (range_with_len (a + 1) n)) in
    let rest = length_of_blocks f w (a + 1) n h in
    let one = h a in
    let more = times_more n w in
    omega (arith, both, rest, one, more)

-- a place at which an item passes
pub record Passes {X : Type 0} (test : X → Bool) (xs : List X) (d : X) : Type 0 where
  pub at : ℕ
  pub within : at < length xs
  pub passes : test (slice_index_or xs at d) ≡ true

passing_step : {X : Type 0} (test : X → Bool) (x : X) (xs : List X) (d : X)
    → (test x || list_any test xs) ≡ true → (list_any test xs ≡ true → Passes test xs d)
    → Passes test (x ∷ xs) d
passing_step test x xs d e rest = at (test x) refl where
  at : (b : Bool) → test x ≡ b → Passes test (x ∷ xs) d
  at true is = record { at = 0; within = omega arith; passes = is }
  at false is =
      let found = rest (sym (ap (λ b. b || list_any test xs) is) ∙ e) in
      record { at = suc found.at; within = omega (arith, found.within); passes = found.passes }

pub passing : {X : Type 0} (test : X → Bool) (xs : List X) (d : X) → list_any test xs ≡ true
    → Passes test xs d
passing test [] d e = absurd (true≢false (sym e))
passing test (x ∷ xs) d e = passing_step test x xs d e (passing test xs d)

any_step : (b rest : Bool) (a j : ℕ) → a ≤ j → (a ≡ j → b ≡ true) → (a + 1 ≤ j → rest ≡ true)
    → (b || rest) ≡ true
any_step b rest a j le here later = elim (cases_lt a j) as (λ _. (b || rest) ≡ true) [
  | inl less ↦ or_right b rest (later (omega (arith, less)))
  | inr more ↦ or_left b rest (here (omega (arith, le, more)))
]

pub any_in_range : {X : Type 0} (test : X → Bool) (f : ℕ → X) (a n j : ℕ) → a ≤ j → j < a + n
    → test (f j) ≡ true → list_any test (map f (range_with_len a n)) ≡ true
any_in_range test f a zero j le lt e = absurd (omega (arith, le, lt))
any_in_range test f a (suc n) j le lt e =
    any_step (test (f a)) (list_any test (map f (range_with_len (a + 1) n))) a j le
    (λ same. ap (λ k. test (f k)) same ∙ e)
    (λ more. any_in_range test f (a + 1) n j more (omega (arith, lt)) e)

pub any_in_blocks : {X : Type 0} (test : X → Bool) (f : ℕ → List X) (a n : ℕ) → 0 < n
    → list_any test (f a) ≡ true → list_any test (flat_map f (range_with_len a n)) ≡ true
any_in_blocks test f a zero some e = absurd (omega (arith, some))
any_in_blocks test f a (suc n) some e =
    list_any-append test (f a) (flat_map f (range_with_len (a + 1) n))
    ∙ or_left (list_any test (f a)) (list_any test (flat_map f (range_with_len (a + 1) n))) e

-- ---- one item more, and one block more

range_more : (a n : ℕ) → range_with_len a (suc n) ≡ range_with_len a n ++ (a + n) ∷ []
range_more a zero = ap (λ (k : ℕ). k ∷ []) (omega arith)
range_more a (suc n) =
    ap (λ (ks : List ℕ). a ∷ ks)
    (range_more (a + 1) n ∙ ap (λ k. range_with_len (a + 1) n ++ k ∷ []) (omega arith))

range_next : (n : ℕ) → range_with_len 0 (n + 1) ≡ range_with_len 0 n ++ n ∷ []
range_next n = ap (range_with_len 0) (add-one n) ∙ range_more 0 n
    ∙ ap (λ k. range_with_len 0 n ++ k ∷ []) (omega arith)

pub made_more : {X : Type 0} (f : ℕ → X) (old before after : List X) (n : ℕ) (x : X)
    → before ≡ old ++ map f (range_with_len 0 n) → x ≡ f n → after ≡ before ++ x ∷ []
    → after ≡ old ++ map f (range_with_len 0 (n + 1))
made_more f old before after n x e h g =
    g ∙ ap (λ l. l ++ x ∷ []) e ∙ append_assoc old (map f (range_with_len 0 n)) (x ∷ [])
    ∙ ap (λ l. old ++ l) (ap (λ y. map f (range_with_len 0 n) ++ y ∷ []) h
    ∙ sym (ap (map f) (range_next n) ∙ map-append f (range_with_len 0 n) (n ∷ [])))

pub blocks_more : {X : Type 0} (f : ℕ → List X) (old before after : List X) (n : ℕ)
    → before ≡ old ++ flat_map f (range_with_len 0 n) → after ≡ before ++ f n
    → after ≡ old ++ flat_map f (range_with_len 0 (n + 1))
blocks_more f old before after n e g =
    g ∙ ap (λ l. l ++ f n) e ∙ append_assoc old (flat_map f (range_with_len 0 n)) (f n)
    ∙ ap (λ l. old ++ l) (ap (λ l. flat_map f (range_with_len 0 n) ++ l) (sym (append-nil (f n)))
    ∙ sym (ap (flat_map f) (range_next n) ∙ flat_map-append f (range_with_len 0 n) (n ∷ [])))

pub taken_more : {X Y : Type 0} (f : X → Y) (xs : List X) (before after : List Y) (i : ℕ) (d : X)
    → i < length xs → before ≡ map f (take i xs) → after ≡ before ++ f (get_or xs i d) ∷ []
    → after ≡ map f (take (i + 1) xs)
taken_more f xs before after i d lt e g =
    g ∙ ap (λ l. l ++ f (get_or xs i d) ∷ []) e
    ∙ sym (ap (map f) (take_more xs i d lt) ∙ map-append f (take i xs) (get_or xs i d ∷ []))
