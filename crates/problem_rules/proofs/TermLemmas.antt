-- The terms of a side, and the members of an exclusion, from the tests on them.
use Rattle.std.proofs.Common.{◌≡◌, ◌<◌, ◌==◌, ℕ, ◌+◌, nat_lt, nat_le, Bool, true, false, ◌||◌, List}
use Rattle.std.proofs.Common.{[], ◌∷◌, length, pos, refl, arith}
use Rattle.std.specs.Prelude.{int_lt}
use Rattle.std.proofs.lemmas.Bool.{or_parts, or_from, ltb-false, leb-false, le-ltb, lt-leb}
use Rattle.std.proofs.lemmas.Bool.{eqb-true}
use Rattle.problem_rules.specs.Problem.{Term, rates_of, terms_have}
use Rattle.problem_rules.specs.Each.{Each}
use Rattle.problem_rules.specs.Validity.{is_out_of_range, any_out_of_range, any_below_one}
use Rattle.problem_rules.specs.Validity.{names_no_material, repeats_material, shares_material}
use Rattle.problem_rules.specs.Validity.{is_empty, breaks_rise}
use Rattle.problem_rules.specs.WellFormed.{IsWellFormedTerm, IsWellFormedSide, AreRisingFrom}
use Rattle.problem_rules.proofs.AmountLemmas.{in_range, from_range, positive, from_positive}

terms_formed : (n : ℕ) (ts : List Term) → any_out_of_range (rates_of ts) ≡ false
    → any_below_one (rates_of ts) ≡ false → names_no_material n ts ≡ false
    → Each (IsWellFormedTerm n) ts
terms_formed n [] e f g = tt
terms_formed n (t ∷ ts) e f g =
    let p = or_parts (is_out_of_range t.rate) (any_out_of_range (rates_of ts)) e in
    let q = or_parts (int_lt t.rate (pos 1)) (any_below_one (rates_of ts)) f in
    let r = or_parts (nat_le n t.material) (names_no_material n ts) g in (
      record {
        known = leb-false n t.material r.0;
        in_range = in_range t.rate p.0;
        positive =
            positive t.rate q.0;
      },
      terms_formed n ts p.1 q.1 r.1,
    )

pub rates_in_range : (n : ℕ) (ts : List Term) → Each (IsWellFormedTerm n) ts
    → any_out_of_range (rates_of ts) ≡ false
rates_in_range n [] h = refl
rates_in_range n (t ∷ ts) h =
    or_from (is_out_of_range t.rate) (any_out_of_range (rates_of ts))
    (from_range t.rate h.0.in_range) (rates_in_range n ts h.1)

pub rates_positive : (n : ℕ) (ts : List Term) → Each (IsWellFormedTerm n) ts
    → any_below_one (rates_of ts) ≡ false
rates_positive n [] h = refl
rates_positive n (t ∷ ts) h =
    or_from (int_lt t.rate (pos 1)) (any_below_one (rates_of ts))
    (from_positive t.rate h.0.positive) (rates_positive n ts h.1)

pub materials_known : (n : ℕ) (ts : List Term) → Each (IsWellFormedTerm n) ts
    → names_no_material n ts ≡ false
materials_known n [] h = refl
materials_known n (t ∷ ts) h =
    or_from (nat_le n t.material) (names_no_material n ts) (lt-leb n t.material h.0.known)
    (materials_known n ts h.1)

pub some_terms : (ts : List Term) → is_empty ts ≡ false → 0 < length ts
some_terms [] e = cc
some_terms (t ∷ ts) e = omega arith

pub not_empty : (ts : List Term) → 0 < length ts → is_empty ts ≡ false
not_empty [] h = absurd (omega arith)
not_empty (t ∷ ts) h = refl

pub side_formed : (n : ℕ) (ts : List Term) → any_out_of_range (rates_of ts) ≡ false
    → any_below_one (rates_of ts) ≡ false → names_no_material n ts ≡ false
    → repeats_material ts ≡ false → is_empty ts ≡ false → IsWellFormedSide n ts
side_formed n ts e f g h i =
    record { some = some_terms ts i; terms_formed = terms_formed n ts e f g; once = h }

-- ---- materials of terms

same_or_later : (t : Term) (ts : List Term) (x : ℕ) (P : Type 0) → terms_have (t ∷ ts) x ≡ true
    → (t.material ≡ x → P) → (terms_have ts x ≡ true → P) → P
same_or_later t ts x P e here later = at (t.material == x) refl e
  where
    at : (b : Bool) → (t.material == x) ≡ b → (b || terms_have ts x) ≡ true → P
    at true is e = here (eqb-true t.material x is)
    at false is e = later e

-- each material of a side is one of the problem's
pub known_material : (n : ℕ) (ts : List Term) (x : ℕ) → Each (IsWellFormedTerm n) ts
    → terms_have ts x ≡ true → x < n
known_material n [] x h e = cc
known_material n (t ∷ ts) x h e =
    same_or_later t ts x (x < n) e (λ is. let k = h.0.known in omega arith)
    (λ later. known_material n ts x h.1 later)

-- no material is on both of two sides that share none
pub sides_apart : (ins outs : List Term) (x : ℕ) → shares_material ins outs ≡ false
    → terms_have ins x ≡ true → terms_have outs x ≡ true → ⊥
sides_apart ins [] x e f g = cc
sides_apart ins (t ∷ outs) x e f g =
    let p = or_parts (terms_have ins t.material) (shares_material ins outs) e in
    same_or_later t outs x ⊥ g (λ is. apart t.material is p.0)
    (λ later. sides_apart ins outs x p.1 f later)
  where
    apart : (y : ℕ) → y ≡ x → terms_have ins y ≡ false → ⊥
    apart y is no_term = cc

-- ---- members of an exclusion

pub rising : (n least : ℕ) (us : List ℕ) → breaks_rise n least us ≡ false → AreRisingFrom n least us
rising n least [] e = tt
rising n least (u ∷ us) e =
    let p = or_parts (nat_lt u least || nat_le n u) (breaks_rise n (u + 1) us) e in
    let q = or_parts (nat_lt u least) (nat_le n u) p.0 in
    (ltb-false u least q.0, leb-false n u q.1, rising n (u + 1) us p.1)

pub from_rising : (n least : ℕ) (us : List ℕ) → AreRisingFrom n least us
    → breaks_rise n least us ≡ false
from_rising n least [] h = refl
from_rising n least (u ∷ us) h =
    or_from (nat_lt u least || nat_le n u) (breaks_rise n (u + 1) us)
    (or_from (nat_lt u least) (nat_le n u) (le-ltb u least h.0) (lt-leb n u h.1))
    (from_rising n (u + 1) us h.2)
