-- Optimality by the signs of prices, over any lists of columns and rows.
use Rattle.std.proofs.Common.{◌≡◌, inl, inr, ap, ◌∙◌, arith, pos, ℤ, ◌+ℤ◌, ◌-ℤ◌, ◌*ℤ◌, ◌≤ℤ◌, ◌<ℤ◌}
use Rattle.std.proofs.Common.{List}
use Rattle.std.specs.List.{AllByRecursion}
use Rattle.std.proofs.lemmas.Int.{ints}
use Rattle.tree_rules.specs.integer_laws.Total.{total}
use Rattle.tree_rules.proofs.integer_laws.Cited.{ring_z, V, ◌⊗◌, ring, mul_comm_z, mul-zero_z}
use Rattle.tree_rules.proofs.integer_laws.Cited.{sign_cases}
use Rattle.tree_rules.proofs.integer_laws.Cited.{zero_cases, mul_nonneg, mul-le_left}
use Rattle.tree_rules.proofs.integer_laws.Cited.{mul-le_left_neg}
use Rattle.tree_rules.proofs.integer_laws.Cited.{cancel_le, total-le, total-mul, reduced_costs}
use Rattle.scaled_flows.specs.Settled.{IsSettled}

-- the factors in another order
turned : (p d e m : ℤ) → m *ℤ (p *ℤ (e *ℤ d)) ≡ (p *ℤ d) *ℤ (e *ℤ m)
turned p d e m = ring (V m ⊗ (V p ⊗ (V e ⊗ V d))) ((V p ⊗ V d) ⊗ (V e ⊗ V m)) (omega arith)

carried : (p d w : ℤ) → (p *ℤ d) *ℤ w ≡ d *ℤ (p *ℤ w)
carried p d w = ring ((V p ⊗ V d) ⊗ V w) (V d ⊗ (V p ⊗ V w)) (omega arith)

join : (a b c e : ℤ) → a ≡ b → b ≤ℤ c → c ≡ e → a ≤ℤ e
join a b c e p h q = omega (arith, ints)

no_price : (p d z w m : ℤ) → p ≡ pos 0 → (m *ℤ (p *ℤ z)) ≤ℤ (d *ℤ (p *ℤ w))
no_price p d z w m e =
    let a : m *ℤ (p *ℤ z) ≡ pos 0 = ap (λ (x : ℤ). m *ℤ x) (none p z e) ∙ mul-zero_z m in
    let b : d *ℤ (p *ℤ w) ≡ pos 0 = ap (λ (x : ℤ). d *ℤ x) (none p w e) ∙ mul-zero_z d in
    both_zero (m *ℤ (p *ℤ z)) (d *ℤ (p *ℤ w)) a b
  where
    none : (p z : ℤ) → p ≡ pos 0 → p *ℤ z ≡ pos 0
    none p z e = ap (λ (x : ℤ). x *ℤ z) e ∙ mul_comm_z (pos 0) z ∙ mul-zero_z z

    both_zero : (a b : ℤ) → a ≡ pos 0 → b ≡ pos 0 → a ≤ℤ b
    both_zero a b e f = omega (arith, ints)

-- a settled number over d costs, at its price, no more than any number over m in the range
pub settled_least : (low high d z p w m : ℤ) → IsSettled low high d z p → pos 0 ≤ℤ d
    → (low *ℤ m) ≤ℤ w → w ≤ℤ (high *ℤ m) → (m *ℤ (p *ℤ z)) ≤ℤ (d *ℤ (p *ℤ w))
settled_least low high d z p w m h dn lo hi =
    elim (sign_cases p) [
      | inl above ↦
          let at : m *ℤ (p *ℤ z) ≡ (p *ℤ d) *ℤ (low *ℤ m) =
          ap (λ (x : ℤ). m *ℤ (p *ℤ x)) (h.at_low above) ∙ turned p d low m in
          join (m *ℤ (p *ℤ z)) ((p *ℤ d) *ℤ (low *ℤ m)) ((p *ℤ d) *ℤ w) (d *ℤ (p *ℤ w)) at
          (mul-le_left (p *ℤ d) (low *ℤ m) w lo (mul_nonneg p d (omega (arith, ints)) dn))
          (carried p d w)
      | inr rest ↦ elim (zero_cases p rest) [
        | inl none ↦ no_price p d z w m none
        | inr below ↦
            let at : m *ℤ (p *ℤ z) ≡ (p *ℤ d) *ℤ (high *ℤ m) =
            ap (λ (x : ℤ). m *ℤ (p *ℤ x)) (h.at_high below) ∙ turned p d high m in
            join (m *ℤ (p *ℤ z)) ((p *ℤ d) *ℤ (high *ℤ m)) ((p *ℤ d) *ℤ w) (d *ℤ (p *ℤ w)) at
            (mul-le_left_neg (p *ℤ d) w (high *ℤ m) hi (negative p d (omega (arith, ints)) dn))
            (carried p d w)
      ]
    ]
  where
    negative : (a b : ℤ) → a ≤ℤ pos 0 → pos 0 ≤ℤ b → (a *ℤ b) ≤ℤ pos 0
    negative a b h k = let f : (a *ℤ b) ≤ℤ (a *ℤ pos 0) =
        mul-le_left_neg a (pos 0) b k h in omega (arith, ints)

-- E + Y = D C for both sizes, so what is left of the costs has the same order
both_parts : (m d D Ez Ew Yz Yw Cz Cw : ℤ) → Ez ≡ D *ℤ Cz -ℤ Yz → Ew ≡ D *ℤ Cw -ℤ Yw
    → (m *ℤ Ez) ≤ℤ (d *ℤ Ew) → (m *ℤ Yz) ≤ℤ (d *ℤ Yw) → (m *ℤ (D *ℤ Cz)) ≤ℤ (d *ℤ (D *ℤ Cw))
both_parts m d D Ez Ew Yz Yw Cz Cw e f h k =
    let x : m *ℤ Ez +ℤ m *ℤ Yz ≡ m *ℤ (D *ℤ Cz) = whole m Ez Yz (D *ℤ Cz) e in
    let y : d *ℤ Ew +ℤ d *ℤ Yw ≡ d *ℤ (D *ℤ Cw) = whole d Ew Yw (D *ℤ Cw) f in
    added (m *ℤ Ez) (m *ℤ Yz) (m *ℤ (D *ℤ Cz)) (d *ℤ Ew) (d *ℤ Yw) (d *ℤ (D *ℤ Cw)) x y h k
  where
    whole : (m e y c : ℤ) → e ≡ c -ℤ y → m *ℤ e +ℤ m *ℤ y ≡ m *ℤ c
    whole m e y c h = rw h (omega (arith, ring_z))

    added : (a b c e f g : ℤ) → a +ℤ b ≡ c → e +ℤ f ≡ g → a ≤ℤ e → b ≤ℤ f → c ≤ℤ g
    added a b c e f g x y h k = omega (arith, ints)

-- if no column and no row of w is cheaper, w costs no less: the two sums exchanged
pub optimal_by_signs : {X Y : Type 0} (columns : List X) (rows : List Y) (rate : Y → X → ℤ)
    (c z w : X → ℤ) (y : Y → ℤ) (D d m : ℤ) → pos 0 <ℤ D
    → AllByRecursion
    (λ i. (m *ℤ ((D *ℤ c i -ℤ total (λ j. y j *ℤ rate j i) rows) *ℤ z i))
    ≤ℤ (d *ℤ ((D *ℤ c i -ℤ total (λ j. y j *ℤ rate j i) rows) *ℤ w i))) columns
    → AllByRecursion
    (λ j. (m *ℤ (y j *ℤ total (λ i. rate j i *ℤ z i) columns))
    ≤ℤ (d *ℤ (y j *ℤ total (λ i. rate j i *ℤ w i) columns))) rows
    → (m *ℤ total (λ i. c i *ℤ z i) columns) ≤ℤ (d *ℤ total (λ i. c i *ℤ w i) columns)
optimal_by_signs {X} {Y} columns rows rate c z w y D d m positive boxes ranges =
    let e : X → ℤ = λ i. D *ℤ c i -ℤ total (λ j. y j *ℤ rate j i) rows in
    let gz : Y → ℤ = λ j. y j *ℤ total (λ i. rate j i *ℤ z i) columns in
    let gw : Y → ℤ = λ j. y j *ℤ total (λ i. rate j i *ℤ w i) columns in
    let Cz = total (λ i. c i *ℤ z i) columns in
    let Cw = total (λ i. c i *ℤ w i) columns in
    let box = total-le (λ i. m *ℤ (e i *ℤ z i)) (λ i. d *ℤ (e i *ℤ w i)) columns boxes in
    let range = total-le (λ j. m *ℤ gz j) (λ j. d *ℤ gw j) rows ranges in
    let scaled =
    both_parts m d D (total (λ i. e i *ℤ z i) columns) (total (λ i. e i *ℤ w i) columns)
    (total gz rows) (total gw rows) Cz Cw
    (reduced_costs columns rows rate c z y D) (reduced_costs columns rows rate c w y D)
    (rw (total-mul m (λ i. e i *ℤ z i) columns, total-mul d (λ i. e i *ℤ w i) columns) at box)
    (rw (total-mul m gz rows, total-mul d gw rows) at range) in
    cancel_le D (m *ℤ Cz) (d *ℤ Cw) positive
    (join (D *ℤ (m *ℤ Cz)) (m *ℤ (D *ℤ Cz)) (d *ℤ (D *ℤ Cw)) (D *ℤ (d *ℤ Cw)) (swapped D m Cz)
    scaled (swapped d D Cw))
  where
    swapped : (a b c : ℤ) → a *ℤ (b *ℤ c) ≡ b *ℤ (a *ℤ c)
    swapped a b c = ring (V a ⊗ (V b ⊗ V c)) (V b ⊗ (V a ⊗ V c)) (omega arith)
