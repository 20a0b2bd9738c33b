-- The places of the units and materials of an expanded problem.
use Rattle.std.proofs.Common.{◌≡◌, ◌<◌, ◌≤◌, ◌+◌, ◌-◌, ◌*◌, ℕ, List, ◌++◌, map, flat_map, length}
use Rattle.std.proofs.Common.{refl, sym, ap, ◌∙◌, inl, inr, ◌⊎◌, arith, length-append}
use Rattle.std.specs.Prelude.{slice_index_or}
use Rattle.std.specs.List.{range_with_len}
use Rattle.std.proofs.lemmas.Bool.{cases_lt}
use Rattle.std.proofs.lemmas.List.{get_or_append_left, get_or-append_right}
use Rattle.std.proofs.lemmas.List.FromFn.{length-map-range_with_len, get_or-map-range_with_len}
use Rattle.plan_rules.specs.problem_rules.Problem.{Problem, Material, OperatingUnit, material_at}
use Rattle.plan_rules.specs.problem_rules.Problem.{unit_at}
use Rattle.plan_rules.specs.problem_rules.Problem.{no_material, no_unit}
use Rattle.plan_rules.specs.Expanded.{first_of, copy_of, capacity_of, site, sites, copy, copies}
use Rattle.plan_rules.specs.Expanded.{capacity, capacities, period_materials, materials_of, built}
use Rattle.plan_rules.specs.Expanded.{built_units, running, period_units, units_of, expanded}
use Rattle.plan_rules.specs.Plan.{Plan, period_at}
use Rattle.plan_laws.proofs.Lists.{length_of_blocks}
use Rattle.plan_rules.specs.Folded.{running_number}
use Rattle.plan_laws.proofs.Blocks.{in_blocks, find_block, block_at, same_block}

module _ (p : Problem) (plan : Plan) where
  abbrev pub n : ℕ
  n = length p.units

  abbrev pub m : ℕ
  m = length p.materials

  abbrev pub periods : ℕ
  periods = length plan.periods

  -- ---- counts

  block_units : (t : ℕ) → length (period_units p t) ≡ n
  block_units t = length-map-range_with_len (running p t) 0 n

  block_materials : (t : ℕ) → length (period_materials p plan t) ≡ m + n
  block_materials t =
      let both = length-append (copies p (period_at plan t) t) (capacities p t) in
      let one = length-map-range_with_len (copy p (period_at plan t) t) 0 m in
      let two = length-map-range_with_len (capacity t) 0 n in
      omega (arith, both, one, two)

  pub unit_count : length (expanded p plan).units ≡ n + periods * n
  unit_count =
      let both =
      length-append (built_units p periods)
      (flat_map (period_units p) (range_with_len 0 periods)) in
      let one = length-map-range_with_len (built p periods) 0 n in
      let two = length_of_blocks (period_units p) n 0 periods block_units in
      omega (arith, both, one, two)

  pub material_count : length (expanded p plan).materials ≡ n + periods * (m + n)
  material_count =
      let both =
      length-append (sites p) (flat_map (period_materials p plan) (range_with_len 0 periods)) in
      let one = length-map-range_with_len site 0 n in
      let two = length_of_blocks (period_materials p plan) (m + n) 0 periods block_materials in
      omega (arith, both, one, two)

  -- ---- units

  pub built_at : (i : ℕ) → i < n → unit_at (expanded p plan) i ≡ built p periods i
  built_at i lt =
      let long = length-map-range_with_len (built p periods) 0 n in
      get_or_append_left (built_units p periods)
      (flat_map (period_units p) (range_with_len 0 periods)) no_unit i (omega (arith, long, lt))
      ∙ get_or-map-range_with_len (built p periods) 0 n i i no_unit lt (omega arith)

  pub running_at : (t i : ℕ) → t < periods → i < n
      → unit_at (expanded p plan) (running_number p t i) ≡ running p t i
  running_at t i lt less =
      let long = length-map-range_with_len (built p periods) 0 n in
      let rest : running_number p t i - n ≡ t * n + i = omega arith in
      get_or-append_right (built_units p periods)
      (flat_map (period_units p) (range_with_len 0 periods)) n (running_number p t i) no_unit
      long (omega arith)
      ∙ (ap (λ x. slice_index_or (flat_map (period_units p) (range_with_len 0 periods)) x no_unit)
      rest
      ∙ (block_at (period_units p) n periods t i no_unit block_units lt less
      ∙ get_or-map-range_with_len (running p t) 0 n i i no_unit less (omega arith)))

  -- ---- materials

  pub site_at : (i : ℕ) → i < n → material_at (expanded p plan) i ≡ site i
  site_at i lt =
      let long = length-map-range_with_len site 0 n in
      get_or_append_left (sites p) (flat_map (period_materials p plan) (range_with_len 0 periods))
      no_material i (omega (arith, long, lt))
      ∙ get_or-map-range_with_len site 0 n i i no_material lt (omega arith)

  in_period_at : (t x : ℕ) → t < periods → x < m + n
      → material_at (expanded p plan) (first_of p t + x)
      ≡ slice_index_or (period_materials p plan t) x no_material
  in_period_at t x lt less =
      let long = length-map-range_with_len site 0 n in
      let rest : (first_of p t + x) - n ≡ t * (m + n) + x = omega arith in
      get_or-append_right (sites p) (flat_map (period_materials p plan) (range_with_len 0 periods))
      n (first_of p t + x) no_material long (omega arith)
      ∙ (ap
      (λ y. slice_index_or (flat_map (period_materials p plan) (range_with_len 0 periods)) y
      no_material) rest
      ∙ block_at (period_materials p plan) (m + n) periods t x no_material block_materials lt less)

  pub copy_at : (t j : ℕ) → t < periods → j < m
      → material_at (expanded p plan) (copy_of p t j) ≡ copy p (period_at plan t) t j
  copy_at t j lt less =
      let long = length-map-range_with_len (copy p (period_at plan t) t) 0 m in
      in_period_at t j lt (omega (arith, less))
      ∙ (get_or_append_left (copies p (period_at plan t) t) (capacities p t) no_material j
      (omega (arith, long, less))
      ∙ get_or-map-range_with_len (copy p (period_at plan t) t) 0 m j j no_material less
      (omega arith))

  pub capacity_at : (t i : ℕ) → t < periods → i < n
      → material_at (expanded p plan) (capacity_of p t i) ≡ capacity t i
  capacity_at t i lt less =
      let long = length-map-range_with_len (copy p (period_at plan t) t) 0 m in
      let rest : (m + i) - m ≡ i = omega arith in
      let place : capacity_of p t i ≡ first_of p t + (m + i) = omega arith in
      ap (material_at (expanded p plan)) place
      ∙ (in_period_at t (m + i) lt (omega (arith, less))
      ∙ (get_or-append_right (copies p (period_at plan t) t) (capacities p t) m (m + i) no_material
      long (omega arith)
      ∙ (ap (λ y. slice_index_or (capacities p t) y no_material) rest
      ∙ get_or-map-range_with_len (capacity t) 0 n i i no_material less (omega arith))))

  -- ---- which unit and which material a number is

  pub data UnitPlace (k : ℕ) : Type 0 where
    is_built : (i : ℕ) → i < n → k ≡ i → UnitPlace k
    is_running : (t i : ℕ) → t < periods → i < n → k ≡ running_number p t i → UnitPlace k

  pub unit_place : (k : ℕ) → k < length (expanded p plan).units → UnitPlace k
  unit_place k lt =
      elim (cases_lt k n) as (λ _. UnitPlace k) [
        | inl less ↦ is_built k less refl
        | inr more ↦
            let count = unit_count in
            let b = find_block n periods (k - n) (omega (arith, count, lt, more)) in
            is_running b.block b.place b.known b.within (let is = b.is in omega (arith, is, more))
      ]

  pub data MaterialPlace (x : ℕ) : Type 0 where
    is_site : (i : ℕ) → i < n → x ≡ i → MaterialPlace x
    is_copy : (t j : ℕ) → t < periods → j < m → x ≡ copy_of p t j → MaterialPlace x
    is_capacity : (t i : ℕ) → t < periods → i < n → x ≡ capacity_of p t i → MaterialPlace x

  pub material_place : (x : ℕ) → x < length (expanded p plan).materials → MaterialPlace x
  material_place x lt =
      elim (cases_lt x n) as (λ _. MaterialPlace x) [
        | inl less ↦ is_site x less refl
        | inr more ↦
            let count = material_count in
            let b = find_block (m + n) periods (x - n) (omega (arith, count, lt, more)) in
            let is = b.is in
            elim (cases_lt b.place m) as (λ _. MaterialPlace x) [
              | inl less ↦ is_copy b.block b.place b.known less (omega (arith, is, more))
              | inr from
                  ↦ is_capacity b.block (b.place - m) b.known
                  (let within = b.within in omega (arith, within, from))
                  (omega (arith, is, more, from))
            ]
      ]

  -- ---- numbers that are apart

  pub same_running : (s t i j : ℕ) → i < n → j < n → running_number p s i ≡ running_number p t j
      → (s ≡ t) × (i ≡ j)
  same_running s t i j l k e = same_block s t i j n l k (omega (arith, e))

  pub same_copy : (s t i j : ℕ) → i < m → j < m → copy_of p s i ≡ copy_of p t j → (s ≡ t) × (i ≡ j)
  same_copy s t i j l k e =
      same_block s t i j (m + n) (omega (arith, l)) (omega (arith, k)) (omega (arith, e))

  pub same_capacity : (s t i j : ℕ) → i < n → j < n → capacity_of p s i ≡ capacity_of p t j
      → (s ≡ t) × (i ≡ j)
  same_capacity s t i j l k e =
      let both =
      same_block s t (m + i) (m + j) (m + n) (omega (arith, l)) (omega (arith, k))
      (omega (arith, e)) in
      (both.0, let after = both.1 in omega (arith, after))

  pub copy_no_capacity : (s t j i : ℕ) → j < m → i < n → copy_of p s j ≡ capacity_of p t i → ⊥
  copy_no_capacity s t j i l k e =
      let both =
      same_block s t j (m + i) (m + n) (omega (arith, l)) (omega (arith, k))
      (omega (arith, e)) in
      let after = both.1 in
      absurd (omega (arith, after, l))
