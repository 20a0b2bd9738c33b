-- One step after another: what is left to form leads to the whole.
use Rattle.std.proofs.Common.{◌≡◌, ℕ, zero, suc, ◌+◌, ◌≤◌, refl, arith, ℤ, List, [], ◌∷◌, ◌++◌}
use Rattle.std.proofs.Common.{length, subst}
use Rattle.std.proofs.lemmas.List.{length-append}
use Rattle.integer_laws.specs.Range.{InRange}
use Rattle.flow_rules.specs.Steps.{AreInRange, IsFirstPast}

pub IsFirstPast-left : (a b : List ℤ) (k : ℕ) → IsFirstPast a k → IsFirstPast (a ++ b) k
IsFirstPast-left [] b k h = absurd h
IsFirstPast-left (z ∷ a) b zero h = h
IsFirstPast-left (z ∷ a) b (suc k) h = (h.0, IsFirstPast-left a b k h.1)

pub IsFirstPast-right : (a b : List ℤ) (k n : ℕ) → n ≡ length a + k → AreInRange a → IsFirstPast b k
    → IsFirstPast (a ++ b) n
IsFirstPast-right [] b k n e h p = let f : n ≡ k = omega arith in rw f p
IsFirstPast-right (z ∷ a) b k zero e h p = absurd (omega arith)
IsFirstPast-right (z ∷ a) b k (suc n) e h p = (h.0, IsFirstPast-right a b k n (omega arith) h.1 p)

pub AreInRange-append : (a b : List ℤ) → AreInRange a → AreInRange b → AreInRange (a ++ b)
AreInRange-append [] b h k = k
AreInRange-append (z ∷ a) b h k = (h.0, AreInRange-append a b h.1 k)

-- a step cannot be the first out of range if all are in range
pub not_both : (steps : List ℤ) (k : ℕ) → AreInRange steps → IsFirstPast steps k → ⊥
not_both [] k h p = p
not_both (z ∷ zs) zero h p = p h.0
not_both (z ∷ zs) (suc k) h p = not_both zs k h.1 p.1

-- What is left to form, `rest`, is the end of `whole`. The steps before it are in range, and the
-- next has the number `at` if those of `whole` are numbered from `start`.
pub record Leads (whole rest : List ℤ) (start at : ℕ) : Type 0 where
  pub from_start : start ≤ at
  pub count : at + length rest ≡ start + length whole
  pub in_range : AreInRange rest → AreInRange whole
  pub past : (k n : ℕ) → n + start ≡ at + k → IsFirstPast rest k → IsFirstPast whole n

pub leads_none : (whole : List ℤ) (start : ℕ) → Leads whole whole start start
leads_none whole start =
    record {
      from_start = omega arith;
      count = refl;
      in_range = λ h. h;
      past =
          λ k n e h. let f : n ≡ k = omega arith in rw f h;
    }

-- one step more
pub leads_one : (whole rest : List ℤ) (z : ℤ) (start at : ℕ) → Leads whole (z ∷ rest) start at
    → InRange z → Leads whole rest start (at + 1)
leads_one whole rest z start at l h = record {
  from_start = let a = l.from_start in omega arith;
  count = let a = l.count in omega arith;
  in_range = λ r. l.in_range (h, r);
  past = λ k n e r. l.past (suc k) n (omega arith) (h, r);
}

-- a whole list of steps more
pub leads_part : (whole part rest : List ℤ) (start at : ℕ) → Leads whole (part ++ rest) start at
    → AreInRange part → Leads whole rest start (at + length part)
leads_part whole part rest start at l h = record {
  from_start = let a = l.from_start in omega arith;
  count = let a = l.count in omega (arith, length-append part rest);
  in_range = λ r. l.in_range (AreInRange-append part rest h r);
  past =
      λ k n e r. l.past (length part + k) n (omega arith)
      (IsFirstPast-right part rest k (length part + k) refl h r);
}

-- the next step is out of range, or some step of the next list
pub leads_past : (whole rest : List ℤ) (z : ℤ) (start at n : ℕ) → Leads whole (z ∷ rest) start at
    → ¬ InRange z → n + start ≡ at → IsFirstPast whole n
leads_past whole rest z start at n l h e = l.past 0 n (omega arith) h

pub leads_past_in : (whole part rest : List ℤ) (start at k n : ℕ)
    → Leads whole (part ++ rest) start at → IsFirstPast part k → n + start ≡ at + k
    → IsFirstPast whole n
leads_past_in whole part rest start at k n l h e = l.past k n e (IsFirstPast-left part rest k h)

pub leads_all : (whole : List ℤ) (start at : ℕ) → Leads whole [] start at → AreInRange whole
leads_all whole start at l = l.in_range tt

pub leads_same : (whole rest other : List ℤ) (start at : ℕ) → rest ≡ other
    → Leads whole rest start at → Leads whole other start at
leads_same whole rest other start at e l = subst (λ (xs : List ℤ). Leads whole xs start at) e l
