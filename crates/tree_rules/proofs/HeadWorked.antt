-- What is computed of worked numbers: whether steps are in range, whether one number is at most
-- another, and what is true of each number below a few.
use Rattle.std.proofs.Common.{◌≡◌, ℕ, zero, suc, ◌<◌, ◌^◌, ℤ, ◌≤ℤ◌, ◌<ℤ◌, Bool, true, false, not}
use Rattle.std.proofs.Common.{◌&&◌, List, [], ◌∷◌, unsigned_abs, nat_lt, refl, sym, subst, inl, inr}
use Rattle.std.proofs.Common.{arith}
use Rattle.std.proofs.lemmas.Bool.{and_parts, both_ways, ltb-true, cases_eq}
use Rattle.std.proofs.lemmas.Int.{ints}
use Rattle.std.specs.Int.Signed.{lt_z, lt_z_no, lt_z_yes}
use Rattle.std.specs.Prelude.{T}
use Rattle.flow_rules.specs.Steps.{AreInRange}

abbrev pub are_small : List ℤ → Bool
are_small [] = true
are_small (z ∷ zs) = nat_lt (unsigned_abs z) (2 ^ 127) && are_small zs

pub in_range : (zs : List ℤ) → are_small zs ≡ true → AreInRange zs
in_range [] e = tt
in_range (z ∷ zs) e =
    let p = and_parts (nat_lt (unsigned_abs z) (2 ^ 127)) (are_small zs) e in
    (ltb-true (unsigned_abs z) (2 ^ 127) p.0, in_range zs p.1)

pub at_most : (a b : ℤ) → T (not (lt_z b a)) → a ≤ℤ b
at_most a b t = lt_z_no t

pub not_at_most : (a b : ℤ) → T (lt_z b a) → a ≤ℤ b → ⊥
not_at_most a b t h = let less : b <ℤ a = lt_z_yes t in omega (arith, ints)

abbrev pub EachBelow : ℕ → (ℕ → Type 0) → Type 0
EachBelow zero P = Unit {0}
EachBelow (suc n) P = EachBelow n P × P n

pub each_below : (n : ℕ) (P : ℕ → Type 0) → EachBelow n P → (i : ℕ) → i < n → P i
each_below zero P h i lt = absurd (omega arith)
each_below (suc n) P h i lt = elim (cases_eq i n) [
  | inl same ↦ subst (λ (k : ℕ). P k) (sym same) h.1
  | inr apart ↦ each_below n P h.0 i (omega arith)
]

pub no_case : {A : Type 0} → false ≡ true → A
no_case e = absurd (both_ways false refl e)

pub no_other : {A : Type 0} → true ≡ false → A
no_other e = absurd (both_ways true e refl)
