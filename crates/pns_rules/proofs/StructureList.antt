-- The clash-free solution structures of a small shape are computed: of all unit sets those that
-- pass the tests.
use Rattle.std.proofs.Common.{◌≡◌, ⊎_elim, ℕ, zero, suc, ◌<◌, ◌+◌, Bool, true, false, ◌&&◌, cond}
use Rattle.std.proofs.Common.{List, [], ◌∷◌, refl, sym, subst, inl, inr, None, arith, ◌==◌, eq-eqb}
use Rattle.std.proofs.lemmas.Bool.{both_ways, and_parts, and_from, or_left, or_right, cases_eq}
use Rattle.number_sets.specs.Sets.{has, IsRising, AreBelow, IsBelowAll}
use Rattle.number_sets.specs.Options.{IsIn, subsets}
use Rattle.number_sets.proofs.Cited.{has_below, subset_sound, subset_complete}
use Rattle.pns_rules.specs.Shape.{Shape, IsProper}
use Rattle.pns_rules.specs.Structure.{IsStructure, IsAllowed}
use Rattle.pns_rules.specs.Listing.{IsInOrder, IsListing}
use Rattle.pns_rules.proofs.DecideLemmas.{meets_axioms, is_allowed, structure_if, if_structure}
use Rattle.pns_rules.proofs.DecideLemmas.{allowed_if, if_allowed}

-- the numbers from a on, n of them
abbrev pub numbers : ℕ → ℕ → List ℕ
numbers a zero = []
numbers a (suc n) = a ∷ numbers (suc a) n

abbrev pub passing : (List ℕ → Bool) → List (List ℕ) → List (List ℕ)
passing test [] = []
passing test (t ∷ ts) = cond (test t) (t ∷ passing test ts) (passing test ts)

abbrev pub structures_of : Shape → List (List ℕ)
structures_of g =
    passing (λ s. meets_axioms g (has s) && is_allowed g (has s)) (subsets (numbers 0 g.units))

numbers_above : (a b n : ℕ) → a < b → IsBelowAll a (numbers b n)
numbers_above a b zero h = tt
numbers_above a b (suc n) h = (h, numbers_above a (suc b) n (omega arith))

numbers_rise : (a n : ℕ) → IsRising (numbers a n)
numbers_rise a zero = tt
numbers_rise a (suc n) = (numbers_above a (suc a) n (omega arith), numbers_rise (suc a) n)

numbers_below : (a n k : ℕ) → a + n ≡ k → AreBelow k (numbers a n)
numbers_below a zero k e = tt
numbers_below a (suc n) k e = (omega arith, numbers_below (suc a) n k (omega arith))

numbers_have : (a n u : ℕ) → (a < suc u) → u < a + n → has (numbers a n) u ≡ true
numbers_have a zero u h k = absurd (omega arith)
numbers_have a (suc n) u h k =
    ⊎_elim (λ e. or_left (a == u) (has (numbers (suc a) n) u) (eq-eqb a u e))
    (λ ne. or_right (a == u) (has (numbers (suc a) n) u)
    (numbers_have (suc a) n u (omega arith) (omega arith))) (cases_eq a u)

in_passing : (test : List ℕ → Bool) (s : List ℕ) (ts : List (List ℕ)) → IsIn s ts → test s ≡ true
    → IsIn s (passing test ts)
in_passing test s [] h e = absurd h
in_passing test s (t ∷ ts) h e = at (test t) refl h (λ k. in_passing test s ts k e)
  where
    at : (b : Bool) → test t ≡ b → IsIn s (t ∷ ts) → (IsIn s ts → IsIn s (passing test ts))
        → IsIn s (cond b (t ∷ passing test ts) (passing test ts))
    at true q (inl k) ih = inl k
    at true q (inr k) ih = inr (ih k)
    at false q (inl k) ih = absurd (both_ways (test t) q (subst (λ x. test x ≡ true) k e))
    at false q (inr k) ih = ih k

passing_from : (test : List ℕ → Bool) (s : List ℕ) (ts : List (List ℕ)) → IsIn s (passing test ts)
    → IsIn s ts × (test s ≡ true)
passing_from test s [] h = absurd h
passing_from test s (t ∷ ts) h = at (test t) refl h (λ k. passing_from test s ts k)
  where
    at : (b : Bool) → test t ≡ b → IsIn s (cond b (t ∷ passing test ts) (passing test ts))
        → (IsIn s (passing test ts) → IsIn s ts × (test s ≡ true)) → IsIn s (t ∷ ts)
        × (test s ≡ true)
    at true q (inl k) ih = (inl k, subst (λ x. test x ≡ true) (sym k) q)
    at true q (inr k) ih = let r = ih k in (inr r.0, r.1)
    at false q k ih = let r = ih k in (inr r.0, r.1)

module _ (g : Shape) (proper : IsProper g) where
  -- the list of them in the order of their numbers has just them
  pub is_structure_in : (s : List ℕ) → IsIn s (structures_of g) → IsRising s × IsStructure g (has s)
      × IsAllowed g (has s)
  is_structure_in s h =
      let k =
      passing_from (λ s. meets_axioms g (has s) && is_allowed g (has s)) s
      (subsets (numbers 0 g.units)) h in
      let r = subset_sound (numbers 0 g.units) s (numbers_rise 0 g.units) k.0 in
      let known : (u : ℕ) → has s u ≡ true → u < g.units =
      λ u e. has_below g.units (numbers 0 g.units) u
      (numbers_below 0 g.units g.units (omega arith)) (r.1 u e) in
      let p = and_parts (meets_axioms g (has s)) (is_allowed g (has s)) k.1 in
      (r.0, structure_if g proper (has s) known p.0, allowed_if g proper (has s) known p.1)

  pub structure_is_in : (s : List ℕ) → IsRising s → IsStructure g (has s) → IsAllowed g (has s)
      → IsIn s (structures_of g)
  structure_is_in s r h a =
      in_passing (λ s. meets_axioms g (has s) && is_allowed g (has s)) s
      (subsets (numbers 0 g.units))
      (subset_complete (numbers 0 g.units) s (numbers_rise 0 g.units) r
      (λ u e. numbers_have 0 g.units u (omega arith) (omega (arith, h.s3 u e))))
      (and_from (meets_axioms g (has s)) (is_allowed g (has s))
      (if_structure g proper (has s) h.s3 h) (if_allowed g proper (has s) h.s3 a))

  -- if they are in the order of their traces too, this is the listing
  pub listing_is : (xs : List (List ℕ)) → structures_of g ≡ xs → IsInOrder g xs
      → IsListing g None xs
  listing_is xs e up = record {
    in_order = up;
    has_all = λ s l. subst (λ ys. IsIn s ys) e (structure_is_in s l.rising l.meets l.allowed);
    no_more = λ s h. let k = is_structure_in s (subst (λ ys. IsIn s ys) (sym e) h) in
        record { rising = k.0; meets = k.1; allowed = k.2; later = tt };
  }
