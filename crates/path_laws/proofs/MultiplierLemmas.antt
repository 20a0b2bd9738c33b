-- Multipliers without their common factor.
use Rattle.std.proofs.Common.{◌≡◌, ℕ, zero, suc, ◌<◌, arith, ap, sym, ◌∙◌, List, length, get_or}
use Rattle.std.specs.Prelude.{ℤ, pos, ◌*ℤ◌, ◌<ℤ◌, ◌≤ℤ◌, max}
use Rattle.std.proofs.lemmas.Int.{ints}
use Rattle.std.proofs.lemmas.List.{get_or-map}
use Rattle.std.proofs.lemmas.List.FromFn.{length-map-range_with_len}
use Rattle.flow_rules.specs.integer_laws.Reduced.{scaled}
use Rattle.flow_rules.specs.pns_rules.Nodes.{Node}
use Rattle.flow_rules.specs.Net.{Net, beside}
use Rattle.flow_rules.specs.Relaxed as node
use Rattle.flow_rules.specs.Relaxed.{rows}
use Rattle.flow_rules.specs.LinearProgram.{LinearProgram, linear}
use Rattle.flow_rules.specs.Columns.{scale_at}
use Rattle.flow_rules.specs.Multipliers.{multiplier, multipliers, AreMultipliers, AreRefuting}
use Rattle.path_laws.proofs.Relaxed.{bound}
use Rattle.path_laws.proofs.PlaceLemmas.{length_map}
use Rattle.path_laws.proofs.EndProgramLemmas.{at_range, row, bound_is, beside_row}
use Rattle.path_laws.proofs.ReadLemmas.{bound_times}

-- the scale D and the multipliers of a row are g times d and ys
pub record IsScaled (p : LinearProgram) (r : ℕ → ℤ) (D d : ℤ) (ys : List ℤ) : Type 0 where
  pub factor : ℤ
  pub positive : pos 0 <ℤ factor
  pub count : length ys ≡ p.rows
  pub scale : D ≡ factor *ℤ d
  pub at : (j : ℕ) → j < p.rows → multiplier p r j ≡ factor *ℤ get_or ys j (pos 0)

at_least_one : (c : ℕ) → pos 0 <ℤ pos (max 1 c)
at_least_one zero = omega (arith, ints)
at_least_one (suc c) = omega (arith, ints)

at_scaled : (g : ℕ) (ys : List ℤ) (j : ℕ) → j < length ys
    → get_or (scaled g ys) j (pos 0) ≡ pos g *ℤ get_or ys j (pos 0)
at_scaled g ys j h = get_or-map (λ x. pos g *ℤ x) ys j (pos 0) (pos 0) h

pub costs_scaled : (p : LinearProgram) (r : ℕ → ℤ) (d : ℤ) (ys : List ℤ) → AreMultipliers p r d ys
    → IsScaled p r (r (scale_at p)) d ys
costs_scaled p r d ys m =
    let g = max 1 m.common in
    let l : length (multipliers p r) ≡ length (scaled g ys) = drop (ap length m.old-is) in
    let count : length ys ≡ p.rows = sym (length_map (λ x. pos g *ℤ x) ys) ∙ sym l
    ∙ length-map-range_with_len (multiplier p r) 0 p.rows in
    record {
      factor = pos g;
      positive = at_least_one m.common;
      count = count;
      scale = ap (λ (xs : List ℤ). get_or xs 0 (pos 0)) m.old-is;
      at = λ j h. sym (at_range (multiplier p r) p.rows j h)
          ∙ ap (λ (xs : List ℤ). get_or xs (suc j) (pos 0)) m.old-is
          ∙ at_scaled g ys j (omega (arith, count));
    }
  where
    drop : {a b : ℕ} → suc a ≡ suc b → a ≡ b
    drop e = omega (arith, e)

pub row_scaled : (p : LinearProgram) (r : ℕ → ℤ) (ys : List ℤ) → AreRefuting p r ys
    → IsScaled p r (pos 0) (pos 0) ys
row_scaled p r ys m =
    let g = max 1 m.common in
    let count : length ys ≡ p.rows = sym (length_map (λ x. pos g *ℤ x) ys)
    ∙ sym (ap length m.old-is) ∙ length-map-range_with_len (multiplier p r) 0 p.rows in
    record {
      factor = pos g;
      positive = at_least_one m.common;
      count = count;
      scale = nothing (pos g);
      at = λ j h. sym (at_range (multiplier p r) p.rows j h)
          ∙ ap (λ (xs : List ℤ). get_or xs j (pos 0)) m.old-is
          ∙ at_scaled g ys j (omega (arith, count));
    }
  where
    nothing : (g : ℤ) → pos 0 ≡ g *ℤ pos 0
    nothing g = omega (arith, ints)

weaker : (z : ℤ) → pos 0 <ℤ z → pos 0 ≤ℤ z
weaker z h = omega (arith, ints)

module _ (net : Net) (n : Node) (r : ℕ → ℤ) (D d : ℤ) (ys : List ℤ)
    (s : IsScaled (linear net n) r D d ys) where
  abbrev pub multiple : ℕ → ℤ
  multiple m = s.factor *ℤ beside (rows net n) ys m

  multiplier_is : (j : ℕ) → j < length (rows net n)
      → multiplier (linear net n) r j ≡ multiple (row net n j)
  multiplier_is j h = s.at j h ∙ ap (λ z. s.factor *ℤ z) (beside_row net n ys s.count j h)

  -- the bound of the multipliers of the row, in the words of the node
  pub row_bound_is : bound (linear net n) D (multiplier (linear net n) r)
      ≡ node.bound net n D multiple
  row_bound_is = bound_is net n D multiple (multiplier (linear net n) r) multiplier_is

  -- is g times that of d and ys
  pub scaled_bound : bound (linear net n) D (multiplier (linear net n) r)
      ≡ s.factor *ℤ node.bound net n d (beside (rows net n) ys)
  scaled_bound =
      ap (λ z. bound (linear net n) z (multiplier (linear net n) r)) s.scale
      ∙ bound_is net n (s.factor *ℤ d) multiple (multiplier (linear net n) r) multiplier_is
      ∙ sym
      (bound_is net n (s.factor *ℤ d) multiple (λ j. s.factor *ℤ get_or ys j (pos 0))
      (λ j h. ap (λ z. s.factor *ℤ z) (beside_row net n ys s.count j h)))
      ∙ bound_times (linear net n) s.factor d (λ j. get_or ys j (pos 0))
      (weaker s.factor s.positive)
      ∙ ap (λ z. s.factor *ℤ z)
      (bound_is net n d (beside (rows net n) ys) (λ j. get_or ys j (pos 0))
      (λ j h. beside_row net n ys s.count j h))
