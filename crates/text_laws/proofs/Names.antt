-- Equal texts, and names that are or are not among others.
use Rattle.std.proofs.Common.{◌≡◌, ◌||◌, true, false, ℕ, List, [], ◌∷◌, ◌++◌, bytes_eq, refl, sym}
use Rattle.std.proofs.Common.{◌∙◌}
use Rattle.std.proofs.lemmas.List.Folds.{list_any-append}
use Rattle.std.proofs.lemmas.Bool.{or_parts, or_from, or_left, or_right, true≢false}
use Rattle.std.proofs.lemmas.Bool.{false_from_ne_true}
use Rattle.std.proofs.lemmas.Slice.Eq.{bytes_eq-Decides}
use Rattle.text_rules.specs.problem_rules.Names.{is_among}
use Rattle.text_rules.specs.problem_rules.Each.{Each}
use Rattle.text_laws.proofs.Each.{each-to}

-- equal texts, in both directions
pub bytes_same : (xs : List ℕ) → bytes_eq xs xs ≡ true
bytes_same xs = (bytes_eq-Decides xs xs).1 refl

pub bytes_differ : (xs ys : List ℕ) → bytes_eq xs ys ≡ false → bytes_eq ys xs ≡ false
bytes_differ xs ys off = false_from_ne_true (bytes_eq ys xs) (λ same.
    let e : ys ≡ xs = (bytes_eq-Decides ys xs).0 same in
    true≢false (sym ((bytes_eq-Decides xs ys).1 (sym e)) ∙ off))

-- each name is among the names
pub among_self : (names : List (List ℕ)) → Each (λ name. is_among names name ≡ true) names
among_self [] = tt
among_self (name ∷ names) = (
  or_left (bytes_eq name name) (is_among names name) (bytes_same name),
  each-to (λ x. is_among names x ≡ true) (λ x. is_among (name ∷ names) x ≡ true)
      (λ x e. or_right (bytes_eq name x) (is_among names x) e) names (among_self names),
)

-- names that are not among others
abbrev pub Fresh : List (List ℕ) → List (List ℕ) → Type 0
Fresh old names = Each (λ name. is_among old name ≡ false) names

pub fresh-nil : (names : List (List ℕ)) → Fresh [] names
fresh-nil [] = tt
fresh-nil (x ∷ xs) = (refl, fresh-nil xs)

pub fresh-last : (old : List (List ℕ)) (x : List ℕ) (xs : List (List ℕ)) → is_among xs x ≡ false
    → Fresh old xs → Fresh (old ++ x ∷ []) xs
fresh-last old x [] none fresh = tt
fresh-last old x (y ∷ ys) none fresh =
    let parts : (bytes_eq y x ≡ false) × (is_among ys x ≡ false) =
    or_parts (bytes_eq y x) (is_among ys x) none in (
      list_any-append (λ word. bytes_eq word y) old (x ∷ [])
          ∙ or_from (is_among old y) (bytes_eq x y || false) fresh.0
          (or_from (bytes_eq x y) false (bytes_differ y x parts.0) refl),
      fresh-last old x ys parts.1 fresh.1,
    )
