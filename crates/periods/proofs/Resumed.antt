-- Periods that continue with the lines that remain.
use Rattle.std.proofs.Common.{◌≡◌, ◌<◌, ◌≤◌, ◌+◌, ◌++◌, ◌*◌, ℕ, zero, suc, Bool, true, false, ◌||◌}
use Rattle.std.proofs.Common.{nat_lt, List, [], ◌∷◌, length, Option, Some, None, Err, refl, sym, ap}
use Rattle.std.proofs.Common.{◌∙◌, arith, get_or, if◌then◌else◌}
use Rattle.std.specs.Prelude.{slice_set}
use Rattle.std.proofs.lemmas.Bool.{or_left, or_right, ltb-true, lt-ltb, ne_eqb}
use Rattle.std.proofs.lemmas.List.{length-set}
use Rattle.std.proofs.Math.Nat.{mul-le-mul_left}
use Rattle.plan_laws.specs.problem_rules.Problem.{Problem}
use Rattle.plan_laws.specs.plan_rules.declared.PlanKind.TheVariants.{NoPeriod, TooWide}
use Rattle.plan_laws.specs.plan_rules.Line.{Entry, begins, price, bounds}
use Rattle.plan_laws.specs.plan_rules.Meaning.{count_fault, own_period, changed}
use Rattle.plan_laws.specs.plan_rules.Plan.{Period, is_too_wide}
use Rattle.plan_laws.specs.plan_rules.Read.{Fault, Line, is_begin}
use Rattle.periods.specs.Reading.{resumed, ended}

-- ---- one line more

-- a period begins
pub begun : (p : Problem) (periods : List Period) (number : ℕ) (lines : List Line)
    → resumed p (periods ++ own_period p ∷ []) lines
    ≡ resumed p periods (record { number = number; entry = begins } ∷ lines)
begun p [] number lines = refl
begun p (q ∷ []) number lines = refl
begun p (q ∷ r ∷ rs) number lines =
    ap (λ (qs : List Period). q ∷ qs) (begun p (r ∷ rs) number lines)

-- a line changes the last period
last_changed : (p : Problem) (q : Period) (number : ℕ) (entry : Entry) (lines : List Line)
    → is_begin entry ≡ false
    → resumed p (changed p q entry ∷ []) lines
    ≡ resumed p (q ∷ []) (record { number = number; entry = entry } ∷ lines)
last_changed p q number begins lines e = cc
last_changed p q number (price name value) lines e = refl
last_changed p q number (bounds name lower upper) lines e = refl

behind_first : (p : Problem) (q : Period) (qs : List Period) (lines : List Line) → 0 < length qs
    → resumed p (q ∷ qs) lines ≡ q ∷ resumed p qs lines
behind_first p q [] lines some = absurd (omega (arith, some))
behind_first p q (r ∷ rs) lines some = refl

pub gone_on : (p : Problem) (periods : List Period) (k number : ℕ) (entry : Entry) (q d : Period)
    (lines : List Line) → k + 1 ≡ length periods → is_begin entry ≡ false
    → q ≡ changed p (get_or periods k d) entry
    → resumed p (slice_set periods k q) lines
    ≡ resumed p periods (record { number = number; entry = entry } ∷ lines)
gone_on p [] k number entry q d lines last e is = absurd (omega (arith, last))
gone_on p (q0 ∷ []) zero number entry q d lines last e is =
    ap (λ (r : Period). resumed p (r ∷ []) lines) is ∙ last_changed p q0 number entry lines e
gone_on p (q0 ∷ []) (suc k) number entry q d lines last e is = absurd (omega (arith, last))
gone_on p (q0 ∷ q1 ∷ qs) zero number entry q d lines last e is = absurd (omega (arith, last))
gone_on p (q0 ∷ q1 ∷ qs) (suc k) number entry q d lines last e is =
    let long = length-set (q1 ∷ qs) k q in
    behind_first p q0 (slice_set (q1 ∷ qs) k q) lines (omega (arith, long))
    ∙ ap (λ (rs : List Period). q0 ∷ rs)
    (gone_on p (q1 ∷ qs) k number entry q d lines (omega (arith, last)) e is)

-- ---- plans that are too wide

or_more : (a b c d : Bool) → (a ≡ true → c ≡ true) → (b ≡ true → d ≡ true) → (a || b) ≡ true
    → (c || d) ≡ true
or_more true b c d one other e = or_left c d (one refl)
or_more false b c d one other e = or_right c d (other e)

pub wide_more : (u m n k : ℕ) → n ≤ k → is_too_wide u m n ≡ true → is_too_wide u m k ≡ true
wide_more u m n k le wide =
    let units : u * (n + 1) ≤ u * (k + 1) = mul-le-mul_left u (omega (arith, le)) in
    let all : (m + u) * n ≤ (m + u) * k = mul-le-mul_left (m + u) le in
    or_more (nat_lt 128 (u * (n + 1))) (nat_lt 256 ((m + u) * n + u)) (nat_lt 128 (u * (k + 1)))
    (nat_lt 256 ((m + u) * k + u))
    (λ e. let over = ltb-true 128 (u * (n + 1)) e in
    lt-ltb 128 (u * (k + 1)) (omega (arith, over, units)))
    (λ e. let over = ltb-true 256 ((m + u) * n + u) e in
    lt-ltb 256 ((m + u) * k + u) (omega (arith, over, all))) wide

pub at_least : (p : Problem) (periods : List Period) (lines : List Line)
    → length periods ≤ length (resumed p periods lines)
at_least p [] lines = omega arith
at_least p (q ∷ []) lines = omega arith
at_least p (q ∷ r ∷ rs) lines = let more = at_least p (r ∷ rs) lines in omega (arith, more)

pub told_wide : (p : Problem) (n : ℕ) → 0 < n
    → is_too_wide (length p.units) (length p.materials) n ≡ true → count_fault p n ≡ Some TooWide
told_wide p n some wide =
    ap (λ b. if b then Some NoPeriod else if is_too_wide (length p.units) (length p.materials) n
    then Some TooWide else None) (ne_eqb n 0 (λ e. omega (arith, some, e)))
    ∙ ap (λ b. if b then Some TooWide else None) wide

pub ended_wide : (p : Problem) (behind : ℕ) (fault : Option Fault) (one other : List Period)
    → count_fault p (length one) ≡ Some TooWide → count_fault p (length other) ≡ Some TooWide
    → ended p behind fault one ≡ ended p behind fault other
ended_wide p behind (Some fault) one other e f = refl
ended_wide p behind None one other e f = wide one e ∙ sym (wide other f) where
  wide : (periods : List Period) → count_fault p (length periods) ≡ Some TooWide
      → ended p behind None periods ≡ Err (behind, TooWide)
  wide periods e = rw e
