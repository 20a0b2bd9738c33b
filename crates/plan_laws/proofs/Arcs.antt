-- What the units of an expanded problem use and make, and at which rates.
use Rattle.std.proofs.Common.{◌≡◌, ◌<◌, ◌≤◌, ◌+◌, ◌*◌, ◌==◌, ◌||◌, ℕ, Bool, true, false, List, []}
use Rattle.std.proofs.Common.{◌∷◌, ◌++◌, length, ℤ, pos, neg_ℤ, ◌-ℤ◌, refl, sym, ap, subst, ◌∙◌}
use Rattle.std.proofs.Common.{inl, inr, ◌⊎◌, arith}
use Rattle.std.proofs.lemmas.Int.{ints}
use Rattle.std.proofs.lemmas.Bool.{or_cases, or_left, or_right, eq-eqb, eqb-true, true≢false}
use Rattle.std.proofs.lemmas.Bool.{false_from_ne_true}
use Rattle.plan_rules.specs.problem_rules.Problem.{Problem, OperatingUnit, Term, unit_at}
use Rattle.plan_rules.specs.problem_rules.Problem.{terms_have, rate_in}
use Rattle.plan_rules.specs.problem_rules.Problem.{rate_of}
use Rattle.plan_rules.proofs.flow_rules.Cited.{no_rate_in}
use Rattle.plan_rules.specs.pns_rules.Shape.{Shape, shape_of, IsProper}
use Rattle.plan_rules.specs.Expanded.{first_of, copy_of, capacity_of, at_rate_one, one, built}
use Rattle.plan_rules.specs.Expanded.{side_in, running, expanded}
use Rattle.plan_rules.specs.Plan.{Plan}
use Rattle.plan_laws.proofs.Terms.{moved, moved_have, have-append}
use Rattle.plan_rules.specs.Folded.{running_number}
use Rattle.plan_laws.proofs.Places.{built_at, running_at, same_copy, same_capacity}
use Rattle.plan_laws.proofs.Places.{copy_no_capacity}
use Rattle.plan_laws.proofs.Sides.{ones, ones_have, ones_have_some, ones_rate, moved_some}
use Rattle.plan_laws.proofs.Sides.{moved_rate, append_rate, append_rate_left}

module _ (p : Problem) (plan : Plan) (proper : IsProper (shape_of p)) where
  abbrev n : ℕ
  n = length p.units

  abbrev m : ℕ
  m = length p.materials

  abbrev periods : ℕ
  periods = length plan.periods

  abbrev g : Shape
  g = shape_of (expanded p plan)

  abbrev h : Shape
  h = shape_of p

  abbrev rate : ℕ → ℕ → ℤ
  rate = rate_of (expanded p plan)

  -- ---- units that build

  pub built_uses_site : (i : ℕ) → i < n → g.uses i i ≡ true
  built_uses_site i lt = ap (λ (u : OperatingUnit). terms_have u.inputs i) (built_at p plan i lt)
      ∙ or_left (i == i) false (eq-eqb i i refl)

  pub built_uses : (i x : ℕ) → i < n → g.uses i x ≡ true → x ≡ i
  built_uses i x lt e =
      elim
      (or_cases (i == x) false
      (sym (ap (λ (u : OperatingUnit). terms_have u.inputs x) (built_at p plan i lt))
      ∙ e)) as (λ _. x ≡ i) [
        | inl is ↦ sym (eqb-true i x is)
        | inr never ↦ absurd (true≢false (sym never))
      ]

  pub built_makes_capacity : (t i : ℕ) → t < periods → i < n → g.makes i (capacity_of p t i) ≡ true
  built_makes_capacity t i lt less =
      ap (λ (u : OperatingUnit). terms_have u.outputs (capacity_of p t i)) (built_at p plan i less)
      ∙ ones_have (λ s. capacity_of p s i) 0 periods t (capacity_of p t i) (omega arith)
      (omega (arith, lt)) refl

  pub built_makes : (i x : ℕ) → i < n → g.makes i x ≡ true → (t : ℕ) × (t < periods)
      × (x ≡ capacity_of p t i)
  built_makes i x lt e =
      let some =
      ones_have_some (λ s. capacity_of p s i) 0 periods x
      (sym (ap (λ (u : OperatingUnit). terms_have u.outputs x) (built_at p plan i lt)) ∙ e) in
      (some.0, omega (arith, some.2), sym some.3)

  -- ---- units that run

  pub running_uses_copy : (t i j : ℕ) → t < periods → i < n → h.uses i j ≡ true
      → g.uses (running_number p t i) (copy_of p t j) ≡ true
  running_uses_copy t i j lt less e =
      ap (λ (u : OperatingUnit). terms_have u.inputs (copy_of p t j))
      (running_at p plan t i lt less)
      ∙ (have-append (side_in p t (unit_at p i).inputs) (at_rate_one (capacity_of p t i) ∷ [])
      (copy_of p t j)
      ∙ or_left (terms_have (side_in p t (unit_at p i).inputs) (copy_of p t j))
      (terms_have (at_rate_one (capacity_of p t i) ∷ []) (copy_of p t j))
      (moved_have (first_of p t) (unit_at p i).inputs j ∙ e))

  pub running_uses_capacity : (t i : ℕ) → t < periods → i < n
      → g.uses (running_number p t i) (capacity_of p t i) ≡ true
  running_uses_capacity t i lt less =
      ap (λ (u : OperatingUnit). terms_have u.inputs (capacity_of p t i))
      (running_at p plan t i lt less)
      ∙ (have-append (side_in p t (unit_at p i).inputs) (at_rate_one (capacity_of p t i) ∷ [])
      (capacity_of p t i)
      ∙ or_right (terms_have (side_in p t (unit_at p i).inputs) (capacity_of p t i))
      (terms_have (at_rate_one (capacity_of p t i) ∷ []) (capacity_of p t i))
      (or_left (capacity_of p t i == capacity_of p t i) false
      (eq-eqb (capacity_of p t i) (capacity_of p t i) refl)))

  pub running_uses : (t i x : ℕ) → t < periods → i < n → g.uses (running_number p t i) x ≡ true
      → ((j : ℕ) × (j < m) × (x ≡ copy_of p t j) × (h.uses i j ≡ true)) ⊎ (x ≡ capacity_of p t i)
  running_uses t i x lt less e =
      let all =
      sym (have-append (side_in p t (unit_at p i).inputs) (at_rate_one (capacity_of p t i) ∷ [])
      x) ∙ (sym
      (ap (λ (u : OperatingUnit). terms_have u.inputs x) (running_at p plan t i lt less))
      ∙ e) in
      elim
      (or_cases (terms_have (side_in p t (unit_at p i).inputs) x)
      (terms_have (at_rate_one (capacity_of p t i) ∷ []) x) all) as (λ _.
      ((j : ℕ) × (j < m) × (x ≡ copy_of p t j) × (h.uses i j ≡ true)) ⊎ (x ≡ capacity_of p t i)) [
        | inl own ↦ let some = moved_some (first_of p t) (unit_at p i).inputs x own in
            inl (some.0, proper.input_known i some.0 some.2, some.1, some.2)
        | inr last
            ↦ elim
            (or_cases (capacity_of p t i == x) false last) as (λ _.
            ((j : ℕ) × (j < m) × (x ≡ copy_of p t j) × (h.uses i j ≡ true))
            ⊎ (x ≡ capacity_of p t i)) [
              | inl is ↦ inr (sym (eqb-true (capacity_of p t i) x is))
              | inr never ↦ absurd (true≢false (sym never))
            ]
      ]

  pub running_makes_copy : (t i j : ℕ) → t < periods → i < n → h.makes i j ≡ true
      → g.makes (running_number p t i) (copy_of p t j) ≡ true
  running_makes_copy t i j lt less e =
      ap (λ (u : OperatingUnit). terms_have u.outputs (copy_of p t j))
      (running_at p plan t i lt less) ∙ (moved_have (first_of p t) (unit_at p i).outputs j ∙ e)

  pub running_makes : (t i x : ℕ) → t < periods → i < n → g.makes (running_number p t i) x ≡ true
      → (j : ℕ) × (j < m) × (x ≡ copy_of p t j) × (h.makes i j ≡ true)
  running_makes t i x lt less e =
      let some =
      moved_some (first_of p t) (unit_at p i).outputs x
      (sym (ap (λ (u : OperatingUnit). terms_have u.outputs x) (running_at p plan t i lt less))
      ∙ e) in
      (some.0, proper.output_known i some.0 some.2, some.1, some.2)

  -- ---- which units use and make a material

  pub built_uses_no_copy : (t i j : ℕ) → i < n → g.uses i (copy_of p t j) ≡ true → ⊥
  built_uses_no_copy t i j lt e = let is =
      built_uses i (copy_of p t j) lt e in absurd (omega (arith, is, lt))

  pub built_makes_no_copy : (t i j : ℕ) → i < n → j < m → g.makes i (copy_of p t j) ≡ true → ⊥
  built_makes_no_copy t i j lt less e = let some =
      built_makes i (copy_of p t j) lt e in copy_no_capacity p plan t some.0 j i less lt some.2

  pub running_uses_its : (s t i j : ℕ) → s < periods → i < n → j < m
      → g.uses (running_number p s i) (copy_of p t j) ≡ true → (s ≡ t) × (h.uses i j ≡ true)
  running_uses_its s t i j lt less known e =
      elim (running_uses s i (copy_of p t j) lt less e) as (λ _. (s ≡ t) × (h.uses i j ≡ true)) [
        | inl c ↦ let same = same_copy p plan t s j c.0 known c.1 c.2 in
            (sym same.0, ap (h.uses i) same.1 ∙ c.3)
        | inr is ↦ absurd (copy_no_capacity p plan t s j i known less is)
      ]

  pub running_makes_its : (s t i j : ℕ) → s < periods → i < n → j < m
      → g.makes (running_number p s i) (copy_of p t j) ≡ true → (s ≡ t) × (h.makes i j ≡ true)
  running_makes_its s t i j lt less known e =
      let c = running_makes s i (copy_of p t j) lt less e in
      let same = same_copy p plan t s j c.0 known c.1 c.2 in
      (sym same.0, ap (h.makes i) same.1 ∙ c.3)

  pub built_uses_no_capacity : (t i j : ℕ) → i < n → g.uses i (capacity_of p t j) ≡ true → ⊥
  built_uses_no_capacity t i j lt e = let is =
      built_uses i (capacity_of p t j) lt e in absurd (omega (arith, is, lt))

  pub built_makes_its : (t i j : ℕ) → i < n → j < n → g.makes i (capacity_of p t j) ≡ true → i ≡ j
  built_makes_its t i j lt less e = let some =
      built_makes i (capacity_of p t j) lt e in
      sym (same_capacity p plan t some.0 j i less lt some.2).1

  pub running_uses_its_capacity : (s t i j : ℕ) → s < periods → i < n → j < n
      → g.uses (running_number p s i) (capacity_of p t j) ≡ true → (s ≡ t) × (i ≡ j)
  running_uses_its_capacity s t i j lt less known e =
      elim (running_uses s i (capacity_of p t j) lt less e) as (λ _. (s ≡ t) × (i ≡ j)) [
        | inl c ↦ absurd (copy_no_capacity p plan s t c.0 j c.1 known (sym c.2))
        | inr is ↦ let same = same_capacity p plan t s j i known less is in (sym same.0, sym same.1)
      ]

  pub running_makes_no_capacity : (s t i j : ℕ) → s < periods → i < n → j < n
      → g.makes (running_number p s i) (capacity_of p t j) ≡ true → ⊥
  running_makes_no_capacity s t i j lt less known e = let c =
      running_makes s i (capacity_of p t j) lt less e in
      copy_no_capacity p plan s t c.0 j c.1 known (sym c.2)

  pub site_is_used : (i j : ℕ) → i < n → j < n → g.uses i j ≡ true → j ≡ i
  site_is_used i j lt less e = built_uses i j lt e

  pub built_makes_no_site : (i j : ℕ) → i < n → j < n → g.makes i j ≡ true → ⊥
  built_makes_no_site i j lt less e = let some = built_makes i j lt e in let is =
      some.2 in absurd (omega (arith, is, less))

  pub running_uses_no_site : (t i j : ℕ) → t < periods → i < n → j < n
      → g.uses (running_number p t i) j ≡ true → ⊥
  running_uses_no_site t i j lt less known e =
      elim (running_uses t i j lt less e) as (λ _. ⊥) [
        | inl c ↦ let is = c.2 in absurd (omega (arith, is, known))
        | inr is ↦ absurd (omega (arith, is, known))
      ]

  pub running_makes_no_site : (t i j : ℕ) → t < periods → i < n → j < n
      → g.makes (running_number p t i) j ≡ true → ⊥
  running_makes_no_site t i j lt less known e = let c = running_makes t i j lt less e in let is =
      c.2 in absurd (omega (arith, is, known))

  -- ---- rates

  no_rate : (x u : ℕ) → (g.uses u x ≡ true → ⊥) → (g.makes u x ≡ true → ⊥) → rate x u ≡ pos 0
  no_rate x u used made =
      let inputs =
      no_rate_in (unit_at (expanded p plan) u).inputs x
      (false_from_ne_true (g.uses u x) used) in
      let outputs =
      no_rate_in (unit_at (expanded p plan) u).outputs x
      (false_from_ne_true (g.makes u x) made) in
      rw inputs (rw outputs (omega (arith, ints)))

  pub site_rate : (i : ℕ) → i < n → rate i i ≡ neg_ℤ one
  site_rate i lt =
      let outputs =
      no_rate_in (unit_at (expanded p plan) i).outputs i
      (false_from_ne_true (g.makes i i) (built_makes_no_site i i lt lt)) in
      let first : rate_in (at_rate_one i ∷ []) i ≡ one = rw (rate_in, eq-eqb i i refl) refl in
      let inputs : rate_in (unit_at (expanded p plan) i).inputs i ≡ one =
      ap (λ (u : OperatingUnit). rate_in u.inputs i) (built_at p plan i lt) ∙ first in
      rw inputs (rw outputs (omega (arith, ints)))

  pub site_rate_other : (i j : ℕ) → i < n → j < n → (j ≡ i → ⊥) → rate j i ≡ pos 0
  site_rate_other i j lt less other =
      no_rate j i (λ e. other (built_uses i j lt e)) (built_makes_no_site i j lt less)

  pub site_rate_running : (t i j : ℕ) → t < periods → i < n → j < n
      → rate j (running_number p t i) ≡ pos 0
  site_rate_running t i j lt less known =
      no_rate j (running_number p t i) (running_uses_no_site t i j lt less known)
      (running_makes_no_site t i j lt less known)

  pub copy_rate_built : (t i j : ℕ) → i < n → j < m → rate (copy_of p t j) i ≡ pos 0
  copy_rate_built t i j lt less =
      no_rate (copy_of p t j) i (built_uses_no_copy t i j lt) (built_makes_no_copy t i j lt less)

  pub copy_rate : (t i j : ℕ) → t < periods → i < n → j < m
      → rate (copy_of p t j) (running_number p t i) ≡ rate_of p j i
  copy_rate t i j lt less known =
      let x : ℕ = copy_of p t j in
      let outputs : rate_in (unit_at (expanded p plan) (running_number p t i)).outputs x
      ≡ rate_in (unit_at p i).outputs j =
      ap (λ (u : OperatingUnit). rate_in u.outputs x) (running_at p plan t i lt less)
      ∙ moved_rate (first_of p t) (unit_at p i).outputs j in
      let none : rate_in (at_rate_one (capacity_of p t i) ∷ []) x ≡ pos 0 =
      no_rate_in (at_rate_one (capacity_of p t i) ∷ []) x
      (false_from_ne_true (terms_have (at_rate_one (capacity_of p t i) ∷ []) x) (λ e.
      elim (or_cases (capacity_of p t i == x) false e) as (λ _. ⊥) [
        | inl is
            ↦ copy_no_capacity p plan t t j i known less (sym (eqb-true (capacity_of p t i) x is))
        | inr never ↦ true≢false (sym never)
      ])) in
      let inputs : rate_in (unit_at (expanded p plan) (running_number p t i)).inputs x
      ≡ rate_in (unit_at p i).inputs j =
      ap (λ (u : OperatingUnit). rate_in u.inputs x) (running_at p plan t i lt less)
      ∙ (append_rate_left (side_in p t (unit_at p i).inputs) (at_rate_one (capacity_of p t i) ∷ [])
      x none ∙ moved_rate (first_of p t) (unit_at p i).inputs j) in
      rw inputs (rw outputs refl)

  pub copy_rate_other : (s t i j : ℕ) → s < periods → i < n → j < m → (s ≡ t → ⊥)
      → rate (copy_of p t j) (running_number p s i) ≡ pos 0
  copy_rate_other s t i j lt less known other =
      no_rate (copy_of p t j) (running_number p s i)
      (λ e. other (running_uses_its s t i j lt less known e).0)
      (λ e. other (running_makes_its s t i j lt less known e).0)

  pub capacity_rate : (t i : ℕ) → t < periods → i < n → rate (capacity_of p t i) i ≡ one
  capacity_rate t i lt less =
      let x : ℕ = capacity_of p t i in
      let inputs =
      no_rate_in (unit_at (expanded p plan) i).inputs x
      (false_from_ne_true (g.uses i x) (built_uses_no_capacity t i i less)) in
      let have =
      ones_have (λ s. capacity_of p s i) 0 periods t x (omega arith) (omega (arith, lt)) refl in
      let outputs : rate_in (unit_at (expanded p plan) i).outputs x ≡ one =
      ap (λ (u : OperatingUnit). rate_in u.outputs x) (built_at p plan i less)
      ∙ ones_rate (λ s. capacity_of p s i) 0 periods x have in
      rw inputs (rw outputs (omega (arith, ints)))

  pub capacity_rate_other : (t i j : ℕ) → i < n → j < n → (i ≡ j → ⊥)
      → rate (capacity_of p t j) i ≡ pos 0
  capacity_rate_other t i j lt less other =
      no_rate (capacity_of p t j) i (built_uses_no_capacity t i j lt)
      (λ e. other (built_makes_its t i j lt less e))

  pub capacity_rate_running : (t i : ℕ) → t < periods → i < n
      → rate (capacity_of p t i) (running_number p t i) ≡ neg_ℤ one
  capacity_rate_running t i lt less =
      let x : ℕ = capacity_of p t i in
      let outputs =
      no_rate_in (unit_at (expanded p plan) (running_number p t i)).outputs x
      (false_from_ne_true (g.makes (running_number p t i) x)
      (running_makes_no_capacity t t i i lt less less)) in
      let own : terms_have (side_in p t (unit_at p i).inputs) x ≡ false =
      false_from_ne_true (terms_have (side_in p t (unit_at p i).inputs) x) (λ e.
      let some = moved_some (first_of p t) (unit_at p i).inputs x e in
      copy_no_capacity p plan t t some.0 i (proper.input_known i some.0 some.2) less
      (sym some.1)) in
      let last : rate_in (at_rate_one x ∷ []) x ≡ one = rw (rate_in, eq-eqb x x refl) refl in
      let inputs : rate_in (unit_at (expanded p plan) (running_number p t i)).inputs x ≡ one =
      ap (λ (u : OperatingUnit). rate_in u.inputs x) (running_at p plan t i lt less)
      ∙ (append_rate (side_in p t (unit_at p i).inputs) (at_rate_one x ∷ []) x own ∙ last) in
      rw inputs (rw outputs (omega (arith, ints)))

  pub capacity_rate_running_other : (s t i j : ℕ) → s < periods → i < n → j < n
      → ((s ≡ t) × (i ≡ j) → ⊥) → rate (capacity_of p t j) (running_number p s i) ≡ pos 0
  capacity_rate_running_other s t i j lt less known other =
      no_rate (capacity_of p t j) (running_number p s i)
      (λ e. other (running_uses_its_capacity s t i j lt less known e))
      (running_makes_no_capacity s t i j lt less known)
