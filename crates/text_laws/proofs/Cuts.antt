-- Texts without certain bytes: trimmed, ended at the first mark, split, and joined again.
use Rattle.std.proofs.Common.{◌≡◌, ◌<◌, ◌+◌, ◌-◌, ◌||◌, ◌==◌, Bool, true, false, not, ℕ, suc, List}
use Rattle.std.proofs.Common.{[], ◌∷◌, ◌++◌, length, take, drop, reverse, All, refl, sym, ◌∙◌, ap}
use Rattle.std.proofs.Common.{arith, length-append, take_all, add-one, one-add}
use Rattle.std.specs.List.{list_all, list_any, prefix_len, suffix_len, position_or_len}
use Rattle.std.specs.List.{before_first, after_first, slice_split}
use Rattle.std.proofs.lemmas.Bool.{true≢false, cond-true, cond-false, ne_eqb, or_parts, or_from}
use Rattle.std.proofs.lemmas.Bool.{and_parts}
use Rattle.std.proofs.lemmas.List.{reverse-append, length-reverse}
use Rattle.std.proofs.lemmas.List.Elements.{All-cons, All-nil}
use Rattle.std.proofs.lemmas.List.Folds.{list_any-append, prefix_len-append}
use Rattle.std.proofs.lemmas.List.Splits.{slice_split_none, slice_split_at}
use Rattle.text_rules.specs.problem_rules.Each.{Each}
use Rattle.text_rules.specs.Blanks.{is_blank, trim, trim_back}
use Rattle.text_rules.specs.Canonical.{joined}

-- a byte that passes is not the mark, because the mark does not pass
pub not_mark : (p : ℕ → Bool) (k c : ℕ) → p k ≡ false → p c ≡ true → (c == k) ≡ false
not_mark p k c off is = ne_eqb c k (λ e. true≢false (sym is ∙ ap p e ∙ off))

pub none_from_all : (p q : ℕ → Bool) → ((c : ℕ) → p c ≡ true → q c ≡ false) → (xs : List ℕ)
    → list_all p xs ≡ true → list_any q xs ≡ false
none_from_all p q each [] all = refl
none_from_all p q each (x ∷ xs) all =
    let parts : (p x ≡ true) × (list_all p xs ≡ true) = and_parts (p x) (list_all p xs) all in
    or_from (q x) (list_any q xs) (each x parts.0) (none_from_all p q each xs parts.1)

module _ {A : Type 0} (p : A → Bool) where
  pub all_false : (xs : List A) → list_any p xs ≡ false → All (λ x. p x ≡ false) xs
  all_false [] none = All-nil (λ x. p x ≡ false)
  all_false (x ∷ xs) none =
      let parts : (p x ≡ false) × (list_any p xs ≡ false) = or_parts (p x) (list_any p xs) none in
      All-cons (λ x. p x ≡ false) x xs parts.0 (all_false xs parts.1)

  pub none-append : (xs ys : List A) → list_any p xs ≡ false → list_any p ys ≡ false
      → list_any p (xs ++ ys) ≡ false
  none-append xs ys one two = list_any-append p xs ys
      ∙ or_from (list_any p xs) (list_any p ys) one two

  pub split_at : (xs : List A) (y : A) (ys : List A) → list_any p xs ≡ false → p y ≡ true
      → slice_split p (xs ++ y ∷ ys) ≡ xs ∷ slice_split p ys
  split_at xs y ys none is = slice_split_at p xs y ys (all_false xs none) is

  pub split_none : (xs : List A) → list_any p xs ≡ false → slice_split p xs ≡ xs ∷ []
  split_none xs none = slice_split_none p xs (all_false xs none)

  pub first_place : (xs : List A) (y : A) (ys : List A) → list_any p xs ≡ false → p y ≡ true
      → position_or_len p (xs ++ y ∷ ys) ≡ length xs
  first_place [] y ys none is = cond-false (not (p y)) (1 + position_or_len p ys) 0 (ap not is)
  first_place (x ∷ xs) y ys none is =
      let parts : (p x ≡ false) × (list_any p xs ≡ false) = or_parts (p x) (list_any p xs) none in
      cond-true (not (p x)) (1 + position_or_len p (xs ++ y ∷ ys)) 0 (ap not parts.0)
      ∙ ap (λ n. 1 + n) (first_place xs y ys parts.1 is) ∙ one-add (length xs)

  pub take_front : (xs ys : List A) → take (length xs) (xs ++ ys) ≡ xs
  take_front [] ys = refl
  take_front (x ∷ xs) ys = ap (λ (zs : List A). x ∷ zs) (take_front xs ys)

  pub drop_front : (xs : List A) (y : A) (ys : List A) → drop (suc (length xs)) (xs ++ y ∷ ys) ≡ ys
  drop_front [] y ys = refl
  drop_front (x ∷ xs) y ys = drop_front xs y ys

  pub before_mark : (xs : List A) (y : A) (ys : List A) → list_any p xs ≡ false → p y ≡ true
      → before_first p (xs ++ y ∷ ys) ≡ xs
  before_mark xs y ys none is = ap (λ n. take n (xs ++ y ∷ ys)) (first_place xs y ys none is)
      ∙ take_front xs (y ∷ ys)

  pub after_mark : (xs : List A) (y : A) (ys : List A) → list_any p xs ≡ false → p y ≡ true
      → after_first p (xs ++ y ∷ ys) ≡ ys
  after_mark xs y ys none is = ap (λ n. drop (n + 1) (xs ++ y ∷ ys)) (first_place xs y ys none is)
      ∙ ap (λ n. drop n (xs ++ y ∷ ys)) (add-one (length xs)) ∙ drop_front xs y ys

  pub any_mark : (xs : List A) (y : A) (ys : List A) → p y ≡ true → list_any p (xs ++ y ∷ ys) ≡ true
  any_mark [] y ys is = ap (λ b. b || list_any p ys) is
  any_mark (x ∷ xs) y ys is = first (p x) (list_any p (xs ++ y ∷ ys)) (any_mark xs y ys is) where
    first : (a b : Bool) → b ≡ true → (a || b) ≡ true
    first true b e = refl
    first false b e = e

  -- the front of a list whose first element does not pass is empty
  pub no_prefix : (x : A) (xs : List A) → p x ≡ false → prefix_len p (x ∷ xs) ≡ 0
  no_prefix x xs off = cond-false (p x) (1 + prefix_len p xs) 0 off

  -- one more element in front does not change the end
  suffix_step : (y x : A) (xs : List A) → suffix_len p (x ∷ xs) ≡ 0 → suffix_len p (y ∷ x ∷ xs) ≡ 0
  suffix_step y x xs none =
      let zs : List A = reverse (x ∷ xs) in
      let long : length zs ≡ suc (length xs) = length-reverse (x ∷ xs) in
      let some : (prefix_len p zs == length zs) ≡ false =
      ne_eqb (prefix_len p zs) (length zs) (λ e. absurd (omega (arith, e, none, long))) in
      ap (prefix_len p) (reverse-append (y ∷ []) (x ∷ xs)) ∙ prefix_len-append p zs (y ∷ [])
      ∙ cond-false (prefix_len p zs == length zs) (length zs + prefix_len p (y ∷ []))
      (prefix_len p zs) some ∙ none

  pub suffix_behind : (ys : List A) (x : A) (xs : List A) → suffix_len p (x ∷ xs) ≡ 0
      → suffix_len p (ys ++ x ∷ xs) ≡ 0
  suffix_behind [] x xs none = none
  suffix_behind (y ∷ []) x xs none = suffix_step y x xs none
  suffix_behind (y ∷ z ∷ ys) x xs none =
      suffix_step y z (ys ++ x ∷ xs) (suffix_behind (z ∷ ys) x xs none)

  pub suffix_none : (xs : List A) → list_any p xs ≡ false → suffix_len p xs ≡ 0
  suffix_none [] none = refl
  suffix_none (x ∷ []) none = no_prefix x [] ((or_parts (p x) false none).0)
  suffix_none (x ∷ y ∷ xs) none =
      let parts : (p x ≡ false) × (list_any p (y ∷ xs) ≡ false) =
      or_parts (p x) (list_any p (y ∷ xs)) none in
      suffix_behind (x ∷ []) y xs (suffix_none (y ∷ xs) parts.1)

  pub prefix_none : (xs : List A) → list_any p xs ≡ false → prefix_len p xs ≡ 0
  prefix_none [] none = refl
  prefix_none (x ∷ xs) none = no_prefix x xs ((or_parts (p x) (list_any p xs) none).0)

-- a text that neither begins nor ends with a blank
pub trim_solid : (xs : List ℕ) → prefix_len is_blank xs ≡ 0 → suffix_len is_blank xs ≡ 0
    → trim xs ≡ xs
trim_solid xs front back =
    ap (λ n. trim_back (drop n xs)) front ∙ ap (λ n. take (length xs - n) xs) back
    ∙ take_all (length xs - 0) xs (omega arith)

pub trim_none : (xs : List ℕ) → list_any is_blank xs ≡ false → trim xs ≡ xs
trim_none xs none = trim_solid xs (prefix_none is_blank xs none) (suffix_none is_blank xs none)

-- a space in front is dropped
pub trim_space : (xs : List ℕ) → prefix_len is_blank xs ≡ 0 → suffix_len is_blank xs ≡ 0
    → trim (32 ∷ xs) ≡ xs
trim_space xs front back =
    ap (λ n. trim_back (drop (1 + n) (32 ∷ xs))) front ∙ ap (λ n. take (length xs - n) xs) back
    ∙ take_all (length xs - 0) xs (omega arith)

-- ---- pieces that are joined by a mark

-- splitting at the mark gives the pieces
pub split_joined : {A : Type 0} (q : A → Bool) (mark : A) (piece : List A) (pieces : List (List A))
    → q mark ≡ true → list_any q piece ≡ false → Each (λ piece. list_any q piece ≡ false) pieces
    → slice_split q (joined mark (piece ∷ pieces)) ≡ piece ∷ pieces
split_joined q mark piece [] on one each = split_none q piece one
split_joined q mark piece (next ∷ pieces) on one each =
    split_at q piece mark (joined mark (next ∷ pieces)) one on
    ∙ ap (λ rest. piece ∷ rest) (split_joined q mark next pieces on each.0 each.1)

-- nothing passes if the mark does not pass and no element of a piece does
pub joined_none : {A : Type 0} (q : A → Bool) (mark : A) (pieces : List (List A)) → q mark ≡ false
    → Each (λ piece. list_any q piece ≡ false) pieces → list_any q (joined mark pieces) ≡ false
joined_none q mark [] off each = refl
joined_none q mark (piece ∷ []) off each = each.0
joined_none q mark (piece ∷ next ∷ pieces) off each =
    none-append q piece (mark ∷ joined mark (next ∷ pieces)) each.0
    (or_from (q mark) (list_any q (joined mark (next ∷ pieces))) off
    (joined_none q mark (next ∷ pieces) off each.1))

pub joined_some : {A : Type 0} (mark : A) (piece : List A) (pieces : List (List A))
    → 0 < length piece → 0 < length (joined mark (piece ∷ pieces))
joined_some mark piece [] some = some
joined_some mark piece (next ∷ pieces) some =
    omega (arith, length-append piece (mark ∷ joined mark (next ∷ pieces)))
