-- The first round: the common denominator, unit after unit.
use Rattle.std.proofs.Common.{◌≡◌, ℕ, suc, ◌+◌, ◌-◌, ◌<◌, inl, inr, true, false, ℤ, pos, ◌<ℤ◌, List}
use Rattle.std.proofs.Common.{[], ◌∷◌, ◌++◌, sym, ap, ◌∙◌, subst, arith}
use Rattle.std.specs.Prelude.{unsigned_abs, Option, Some, None, IfSome, IfNone}
use Rattle.std.specs.List.{range_with_len}
use Rattle.std.proofs.lemmas.Int.{ints}
use Rattle.flow_program.specs.integer_laws.Lowest.{IsLowest}
use Rattle.flow_program.specs.integer_laws.Range.{InRange}
use Rattle.flow_program.specs.flow_rules.LinearProgram.{LinearProgram}
use Rattle.flow_program.specs.flow_rules.ReadFlows.{IsLcm, Formed, Lcm, lcms, sizes, rounds}
use Rattle.dual_simplex.specs.Rows.{Rows, table, basis}
use Rattle.dual_simplex.specs.Choice.{columns_of}
use Rattle.dual_simplex.specs.Reading.{Reading, IsFormedTo, IsFirstOut, formed_of, second_round}
use Rattle.dual_simplex.proofs.ReadingLemmas.{bool_cases}
use Rattle.dual_simplex.proofs.RoundLemmas.{formed_none, formed_more, formed_out, out_here}
use Rattle.dual_simplex.proofs.ValueLemmas.{value_same, next_same, next_past}

pub found_next : (r : Rows) (i : ℕ) (den right own : ℤ) (found : Option ℤ) → i < r.units
    → basis r i ≡ true → pos 0 <ℤ table r i i
    → IsLowest (table r i (columns_of r)) (table r i i) right own
    → IfSome found (λ m. IsLcm (unsigned_abs den) (unsigned_abs own) (unsigned_abs m))
    → IfSome found (λ m. pos 0 <ℤ m)
    → IfSome found (λ next. (p : LinearProgram) (v : Reading p r) → den ≡ v.den i
    → next ≡ v.den (suc i))
found_next r i den right own None h b positive low lcm above = tt
found_next r i den right own (Some next) h b positive low lcm above =
    λ p v e. next_same v i den own next h e ((value_same v i right own h b positive low).1) above
    lcm

pub missed_next : (r : Rows) (i : ℕ) (den right own : ℤ) (found : Option ℤ) → i < r.units
    → basis r i ≡ true → pos 0 <ℤ table r i i
    → IsLowest (table r i (columns_of r)) (table r i i) right own
    → IfNone found ((m : ℤ) → IsLcm (unsigned_abs den) (unsigned_abs own) (unsigned_abs m)
    → ¬ InRange m)
    → IfNone found ((p : LinearProgram) (v : Reading p r) → den ≡ v.den i
    → ¬ InRange (v.den (suc i)))
missed_next r i den right own None h b positive low past =
    λ p v e. past (v.den (suc i))
    (next_past v i den own h e ((value_same v i right own h b positive low).1))
missed_next r i den right own (Some next) h b positive low past = tt

-- ---- the numbers of the round

abbrev pub lcm_step : ℕ → Formed
lcm_step i = record { unit = i; step = Lcm }

-- what is formed from m units before the end on
abbrev pub from_unit : Rows → ℕ → ℕ → List Formed
from_unit r i m = lcms (basis r) (range_with_len i m) ++ second_round r

pub from_basic : (r : Rows) (i m : ℕ) → basis r i ≡ true
    → from_unit r i (suc m) ≡ (lcm_step i ∷ []) ++ from_unit r (i + 1) m
from_basic r i m b = rw b

pub from_outside : (r : Rows) (i m : ℕ) → basis r i ≡ false
    → from_unit r i (suc m) ≡ from_unit r (i + 1) m
from_outside r i m b = rw b

-- the denominator before unit i, all numbers before which are in range
pub record IsFirstRound (r : Rows) (i : ℕ) (den : ℤ) : Type 0 where
  pub positive : pos 0 <ℤ den
  pub in_range : InRange den
  pub last : (p : LinearProgram) (v : Reading p r) → den ≡ v.den i
  pub formed : (p : LinearProgram) (v : Reading p r) (m : ℕ) → i + m ≡ r.units
      → IsFormedTo (formed_of v) (rounds p (basis r)) (from_unit r i m)

pub first_round_start : (r : Rows) → IsFirstRound r 0 (pos 1)
first_round_start r = record {
  positive = omega (arith, ints);
  in_range = omega (arith, ints);
  last = λ p v. sym v.values.first;
  formed = λ p v m e.
      let n : p.units ≡ m = omega (arith, v.size.units) in
      let k : p.units ≡ r.units = v.size.units in
      formed_none (formed_of v) (rounds p (basis r)) (from_unit r 0 m)
      (ap (λ (x : ℕ). lcms (basis r) (range_with_len 0 x) ++ sizes (range_with_len 0 p.units)) n
      ∙ ap (λ (x : ℕ). lcms (basis r) (range_with_len 0 m) ++ sizes (range_with_len 0 x)) k);
}

pub first_round_more : (r : Rows) (i : ℕ) (den next : ℤ) → IsFirstRound r i den → pos 0 <ℤ next
    → InRange next → ((p : LinearProgram) (v : Reading p r) → den ≡ v.den i → next ≡ v.den (suc i))
    → IsFirstRound r (i + 1) next
first_round_more r i den next so_far positive range is = record {
  positive = positive;
  in_range = range;
  last = λ p v. let e : suc i ≡ i + 1 =
      omega arith in is p v (so_far.last p v) ∙ ap (λ (k : ℕ). v.den k) e;
  formed = λ p v m e.
      let before : IsFormedTo (formed_of v) (rounds p (basis r)) (from_unit r i (suc m)) =
      so_far.formed p v (suc m) (omega arith) in
      let now : next ≡ v.den (suc i) = is p v (so_far.last p v) in
      elim (bool_cases (basis r i)) [
        | inl b
            ↦ formed_more (formed_of v) (rounds p (basis r)) (lcm_step i ∷ [])
            (from_unit r (i + 1) m)
            (subst (λ (fs : List Formed). IsFormedTo (formed_of v) (rounds p (basis r)) fs)
            (from_basic r i m b) before) (subst InRange now range, tt)
        | inr b
            ↦ subst (λ (fs : List Formed). IsFormedTo (formed_of v) (rounds p (basis r)) fs)
            (from_outside r i m b) before
      ];
}

pub first_round_end : (r : Rows) (i : ℕ) (den : ℤ) → i ≡ r.units → IsFirstRound r i den
    → (p : LinearProgram) (v : Reading p r)
    → IsFormedTo (formed_of v) (rounds p (basis r)) (second_round r)
first_round_end r i den e so_far p v = so_far.formed p v 0 (omega arith)

pub first_round_past : (r : Rows) (i : ℕ) (den : ℤ) → i < r.units → IsFirstRound r i den
    → basis r i ≡ true
    → ((p : LinearProgram) (v : Reading p r) → den ≡ v.den i → ¬ InRange (v.den (suc i)))
    → (p : LinearProgram) (v : Reading p r)
    → IsFirstOut (formed_of v) (rounds p (basis r)) (lcm_step i)
first_round_past r i den h so_far b past p v =
    let m = r.units - suc i in
    let before : IsFormedTo (formed_of v) (rounds p (basis r)) (from_unit r i (suc m)) =
    so_far.formed p v (suc m) (omega arith) in
    let here : IsFormedTo (formed_of v) (rounds p (basis r)) (lcm_step i ∷ from_unit r (i + 1) m) =
    subst (λ (fs : List Formed). IsFormedTo (formed_of v) (rounds p (basis r)) fs)
    (from_basic r i m b) before in
    formed_out (formed_of v) (rounds p (basis r)) (lcm_step i ∷ from_unit r (i + 1) m) (lcm_step i)
    here
    (out_here (formed_of v) (lcm_step i) (from_unit r (i + 1) m) (past p v (so_far.last p v)))
