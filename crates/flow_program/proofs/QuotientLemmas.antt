-- A number over d compared with a whole number, by the floor of its quotient and the remainder.
use Rattle.std.proofs.Common.{◌≡◌, ℕ, suc, zero, ◌+◌, ◌*◌, ◌/◌, ◌%◌, ◌-◌, ◌<◌, ap, ◌∙◌, arith, pos}
use Rattle.std.proofs.Common.{negsuc, ℤ, ◌+ℤ◌, ◌*ℤ◌, ◌≤ℤ◌, ◌<ℤ◌, ◌↔◌}
use Rattle.std.specs.Int.{int_div_euclid, int_rem_euclid}
use Rattle.std.proofs.lemmas.Int.{ints, by_lt_z}
use Rattle.exact_numbers.proofs.integer_laws.Cited.{ring_z, mul-le_right}

pub record IsQuotient (number d floor rest : ℤ) : Type 0 where
  pub whole : floor *ℤ d +ℤ rest ≡ number
  pub at_least : pos 0 ≤ℤ rest
  pub less : rest <ℤ d

module _ (number d floor rest : ℤ) (q : IsQuotient number d floor rest) where
  -- at least a whole number exactly if the floor is
  low_from : (low : ℤ) → low ≤ℤ floor → (low *ℤ d) ≤ℤ number
  low_from low h =
      let e = q.whole in
      let a = q.at_least in
      let b = q.less in
      let m : (low *ℤ d) ≤ℤ (floor *ℤ d) = mul-le_right low floor d h (omega (arith, ints)) in
      omega (arith, ints)

  low_to : (low : ℤ) → (low *ℤ d) ≤ℤ number → low ≤ℤ floor
  low_to low h =
      let e = q.whole in
      let a = q.at_least in
      let b = q.less in
      by_lt_z floor low
      (λ less.
      let m : ((floor +ℤ pos 1) *ℤ d) ≤ℤ (low *ℤ d) =
      mul-le_right (floor +ℤ pos 1) low d (omega (arith, ints)) (omega (arith, ints)) in
      absurd (omega (arith, ring_z)))
      (λ done. done)

  high_from : (high : ℤ) → floor <ℤ high → number ≤ℤ (high *ℤ d)
  high_from high h =
      let e = q.whole in
      let a = q.at_least in
      let b = q.less in
      let m : ((floor +ℤ pos 1) *ℤ d) ≤ℤ (high *ℤ d) =
      mul-le_right (floor +ℤ pos 1) high d (omega (arith, ints)) (omega (arith, ints)) in
      omega (arith, ring_z)

  high_from_whole : (high : ℤ) → rest ≤ℤ pos 0 → floor ≤ℤ high → number ≤ℤ (high *ℤ d)
  high_from_whole high none h =
      let e = q.whole in
      let b = q.less in
      let a = q.at_least in
      let m : (floor *ℤ d) ≤ℤ (high *ℤ d) = mul-le_right floor high d h (omega (arith, ints)) in
      omega (arith, ints)

  high_to_whole : (high : ℤ) → number ≤ℤ (high *ℤ d) → floor ≤ℤ high
  high_to_whole high h =
      let e = q.whole in
      let a = q.at_least in
      let b = q.less in
      by_lt_z high floor
      (λ more.
      let m : ((high +ℤ pos 1) *ℤ d) ≤ℤ (floor *ℤ d) =
      mul-le_right (high +ℤ pos 1) floor d (omega (arith, ints)) (omega (arith, ints)) in
      absurd (omega (arith, ring_z)))
      (λ done. done)

  -- a remainder takes the number above its floor
  high_to : (high : ℤ) → pos 0 <ℤ rest → number ≤ℤ (high *ℤ d) → floor <ℤ high
  high_to high some h =
      let e = q.whole in
      let a = q.at_least in
      let b = q.less in
      by_lt_z floor high
      (λ done. done)
      (λ more.
      let m : (high *ℤ d) ≤ℤ (floor *ℤ d) = mul-le_right high floor d more (omega (arith, ints)) in
      absurd (omega (arith, ints)))

  pub within_above : (low high : ℤ) → pos 0 <ℤ rest → ((low ≤ℤ floor) × (floor <ℤ high))
      ↔ (((low *ℤ d) ≤ℤ number) × (number ≤ℤ (high *ℤ d)))
  within_above low high some =
      (λ h. (low_from low h.0, high_from high h.1), λ h. (low_to low h.0, high_to high some h.1))

  pub within_whole : (low high : ℤ) → rest ≤ℤ pos 0 → ((low ≤ℤ floor) × (floor ≤ℤ high))
      ↔ (((low *ℤ d) ≤ℤ number) × (number ≤ℤ (high *ℤ d)))
  within_whole low high none = (
    λ h. (low_from low h.0, high_from_whole high none h.1),
    λ h. (low_to low h.0, high_to_whole high h.1),
  )

-- what the machine's division by a positive number gives
pub is_quotient : (number d : ℤ) → pos 1 ≤ℤ d
    → IsQuotient number d (int_div_euclid number d) (int_rem_euclid number d)
is_quotient (pos a) (pos d) h =
    record {
      whole = omega (arith, ints);
      at_least = omega (arith, ints);
      less =
          omega (arith, ints);
    }
is_quotient (negsuc a) (pos d) h =
    record {
      whole = omega (arith, ints);
      at_least = omega (arith, ints);
      less =
          omega (arith, ints);
    }
is_quotient number (negsuc d) h = absurd h.le
