-- Names differ if a number can be read from each, and these numbers follow one another.
use Rattle.std.proofs.Common.{◌≡◌, ◌<◌, ◌≤◌, ◌+◌, ◌*◌, ℕ, zero, suc, false, List, [], ◌∷◌, ◌++◌}
use Rattle.std.proofs.Common.{map, flat_map, length, refl, ap, subst, arith}
use Rattle.std.specs.List.{range_with_len}
use Rattle.std.specs.Str.{bytes_eq}
use Rattle.std.proofs.lemmas.Bool.{or_from, false_from_ne_true}
use Rattle.std.proofs.lemmas.Slice.Eq.{bytes_eq-Decides}
use Rattle.plan_rules.specs.problem_rules.Names.{is_among, has_double}
use Rattle.plan_laws.proofs.Lists.{times_more}

module _ {X : Type 0} (name : X → List ℕ) (rank : List ℕ → ℕ) where
  -- the numbers of the items' names are `a`, the next, and so on
  abbrev pub Follow : ℕ → List X → Type 0
  Follow a [] = Unit {0}
  Follow a (x ∷ xs) = (rank (name x) ≡ a) × Follow (a + 1) xs

  not_among : (a : ℕ) (xs : List X) (text : List ℕ) → Follow a xs → rank text < a
      → is_among (map name xs) text ≡ false
  not_among a [] text follow less = refl
  not_among a (x ∷ xs) text follow less =
      or_from (bytes_eq (name x) text) (is_among (map name xs) text)
      (false_from_ne_true (bytes_eq (name x) text)
      (λ e. let same = ap rank ((bytes_eq-Decides (name x) text).0 e) in
      absurd (omega (arith, same, follow.0, less))))
      (not_among (a + 1) xs text follow.1 (omega (arith, less)))

  pub apart : (a : ℕ) (xs : List X) → Follow a xs → has_double (map name xs) ≡ false
  apart a [] follow = refl
  apart a (x ∷ xs) follow =
      or_from (is_among (map name xs) (name x)) (has_double (map name xs))
      (not_among (a + 1) xs (name x) follow.1 (omega (arith, follow.0)))
      (apart (a + 1) xs follow.1)

  pub follow-append : (a b : ℕ) (xs ys : List X) → Follow a xs → b ≡ a + length xs → Follow b ys
      → Follow a (xs ++ ys)
  follow-append a b [] ys one e two = subst (λ n. Follow n ys) (omega (arith, e)) two
  follow-append a b (x ∷ xs) ys one e two =
      (one.0, follow-append (a + 1) b xs ys one.1 (omega (arith, e)) two)

  pub follow_in_range : (f : ℕ → X) (a s n : ℕ)
      → ((i : ℕ) → s ≤ i → i < s + n → rank (name (f i)) + s ≡ a + i)
      → Follow a (map f (range_with_len s n))
  follow_in_range f a s zero h = tt
  follow_in_range f a s (suc n) h =
      let first = h s (omega arith) (omega arith) in (
        omega (arith, first),
        follow_in_range f (a + 1) (s + 1) n
            (λ i g k. let here = h i (omega arith) (omega arith) in omega (arith, here)),
      )

  -- blocks of the same width
  pub follow_in_blocks : (f : ℕ → List X) (w a s n : ℕ) → ((i : ℕ) → length (f i) ≡ w)
      → ((i : ℕ) → s ≤ i → i < s + n → Follow (a + i * w) (f i))
      → Follow (a + s * w) (flat_map f (range_with_len s n))
  follow_in_blocks f w a s zero long h = tt
  follow_in_blocks f w a s (suc n) long h =
      follow-append (a + s * w) (a + (s + 1) * w) (f s) (flat_map f (range_with_len (s + 1) n))
      (h s (omega arith) (omega arith))
      (let one = long s in let more = times_more s w in let same : (s + 1) * w ≡ suc s * w =
      ap (λ k. k * w) (omega arith) in omega (arith, one, more, same))
      (follow_in_blocks f w a (s + 1) n long (λ i g k. h i (omega arith) (omega arith)))
