-- The arithmetic of weak duality in linear programming, over any list of columns and any list of
-- rows.
use Rattle.std.proofs.Common.{◌≡◌, sym, ap, ◌∙◌, arith, ℤ, ◌+ℤ◌, ◌-ℤ◌, ◌*ℤ◌, ◌≤ℤ◌, List}
use Rattle.std.specs.List.{AllByRecursion}
use Rattle.integer_laws.specs.Total.{total}
use Rattle.integer_laws.proofs.Ring.{ring_z, mul_assoc_z}
use Rattle.integer_laws.proofs.Totals.{total-add, total-sub, total-mul, total-mul_right}
use Rattle.integer_laws.proofs.Totals.{total-exchange, total-le, total-same}

split_one : (D c t z : ℤ) → (D *ℤ c -ℤ t) *ℤ z ≡ D *ℤ (c *ℤ z) -ℤ t *ℤ z
split_one D c t z = omega (arith, ring_z)

-- the sum of e_i Z_i with e_i = D c_i - sum of Y_j A(j,i): the two sums exchanged
pub reduced_costs : {X Y : Type 0} (columns : List X) (rows : List Y) (rate : Y → X → ℤ)
    (c z : X → ℤ) (y : Y → ℤ) (D : ℤ)
    → total (λ i. (D *ℤ c i -ℤ total (λ j. y j *ℤ rate j i) rows) *ℤ z i) columns
    ≡ D *ℤ total (λ i. c i *ℤ z i) columns -ℤ total
    (λ j. y j *ℤ total (λ i. rate j i *ℤ z i) columns) rows
reduced_costs {X} {Y} columns rows rate c z y D =
    let T : X → ℤ = λ i. total (λ j. y j *ℤ rate j i) rows in
    let split : total (λ i. (D *ℤ c i -ℤ T i) *ℤ z i) columns
    ≡ total (λ i. D *ℤ (c i *ℤ z i) -ℤ T i *ℤ z i) columns
    = total-same (λ i. (D *ℤ c i -ℤ T i) *ℤ z i) (λ i. D *ℤ (c i *ℤ z i) -ℤ T i *ℤ z i)
    (λ i. split_one D (c i) (T i) (z i)) columns in
    let parts = total-sub (λ i. D *ℤ (c i *ℤ z i)) (λ i. T i *ℤ z i) columns in
    let costs = total-mul D (λ i. c i *ℤ z i) columns in
    let inside : total (λ i. T i *ℤ z i) columns
    ≡ total (λ i. total (λ j. (y j *ℤ rate j i) *ℤ z i) rows) columns
    = total-same (λ i. T i *ℤ z i) (λ i. total (λ j. (y j *ℤ rate j i) *ℤ z i) rows)
    (λ i. sym (total-mul_right (z i) (λ j. y j *ℤ rate j i) rows)) columns in
    let exchanged = total-exchange (λ i j. (y j *ℤ rate j i) *ℤ z i) columns rows in
    let outside : total (λ j. total (λ i. (y j *ℤ rate j i) *ℤ z i) columns) rows
    ≡ total (λ j. y j *ℤ total (λ i. rate j i *ℤ z i) columns) rows
    = total-same (λ j. total (λ i. (y j *ℤ rate j i) *ℤ z i) columns)
    (λ j. y j *ℤ total (λ i. rate j i *ℤ z i) columns)
    (λ j. total-same (λ i. (y j *ℤ rate j i) *ℤ z i) (λ i. y j *ℤ (rate j i *ℤ z i))
    (λ i. mul_assoc_z (y j) (rate j i) (z i)) columns
    ∙ total-mul (y j) (λ i. rate j i *ℤ z i) columns) rows in
    split ∙ parts ∙ ap (λ a. a -ℤ total (λ i. T i *ℤ z i) columns) costs
    ∙ ap (λ b. D *ℤ total (λ i. c i *ℤ z i) columns -ℤ b) (inside ∙ exchanged ∙ outside)

final : (d D K R U T E C Y : ℤ) → (d *ℤ U) ≤ℤ E → E ≡ D *ℤ C -ℤ Y → (d *ℤ R) ≤ℤ Y
    → (d *ℤ (D *ℤ K) +ℤ D *ℤ C) ≤ℤ (D *ℤ T) → (d *ℤ (D *ℤ K +ℤ R +ℤ U)) ≤ℤ (D *ℤ T)
final d D K R U T E C Y h e k l = omega (arith, ring_z)

-- the part of the bound that is from each column and row is at most its part of the cost, so the
-- bound is at most the cost
--     k, r, u      what a column gives to the fixed part, and what a row and a column give to the
--                  rest of the bound
--     t      the cost of a column
pub weak_duality : {X Y : Type 0} (columns : List X) (rows : List Y) (rate : Y → X → ℤ)
    (c z k u t : X → ℤ) (y r : Y → ℤ) (D d : ℤ)
    → AllByRecursion (λ i. (d *ℤ u i) ≤ℤ ((D *ℤ c i -ℤ total (λ j. y j *ℤ rate j i) rows) *ℤ z i))
    columns
    → AllByRecursion (λ j. (d *ℤ r j) ≤ℤ (y j *ℤ total (λ i. rate j i *ℤ z i) columns)) rows
    → AllByRecursion (λ i. (d *ℤ (D *ℤ k i) +ℤ D *ℤ (c i *ℤ z i)) ≤ℤ (D *ℤ t i)) columns
    → (d *ℤ (D *ℤ total k columns +ℤ total r rows +ℤ total u columns)) ≤ℤ (D *ℤ total t columns)
weak_duality {X} {Y} columns rows rate c z k u t y r D d boxes ranges costs =
    let e : X → ℤ = λ i. D *ℤ c i -ℤ total (λ j. y j *ℤ rate j i) rows in
    let g : Y → ℤ = λ j. y j *ℤ total (λ i. rate j i *ℤ z i) columns in
    let box = total-le (λ i. d *ℤ u i) (λ i. e i *ℤ z i) columns boxes in
    let range = total-le (λ j. d *ℤ r j) g rows ranges in
    let cost = total-le (λ i. d *ℤ (D *ℤ k i) +ℤ D *ℤ (c i *ℤ z i)) (λ i. D *ℤ t i) columns costs in
    let cost-left = total-add (λ i. d *ℤ (D *ℤ k i)) (λ i. D *ℤ (c i *ℤ z i)) columns
    ∙ ap (λ a. a +ℤ total (λ i. D *ℤ (c i *ℤ z i)) columns)
    (total-mul d (λ i. D *ℤ k i) columns ∙ ap (λ a. d *ℤ a) (total-mul D k columns))
    ∙ ap (λ a. d *ℤ (D *ℤ total k columns) +ℤ a) (total-mul D (λ i. c i *ℤ z i) columns) in
    final d D (total k columns) (total r rows) (total u columns) (total t columns)
    (total (λ i. e i *ℤ z i) columns) (total (λ i. c i *ℤ z i) columns) (total g rows)
    (rw (total-mul d u columns) at box) (reduced_costs columns rows rate c z y D)
    (rw (total-mul d r rows) at range) (rw (cost-left, total-mul D t columns) at cost)
