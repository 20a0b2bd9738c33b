-- A basis fixes its tableau.
use Rattle.std.proofs.Common.{◌≡◌, ℕ, zero, suc, ◌+◌, ◌*◌, ◌-◌, ◌/◌, ◌<◌, ◌≤◌, inl, inr, arith, ap}
use Rattle.std.proofs.Common.{sym, ◌∙◌, subst}
use Rattle.std.specs.Prelude.{ℤ, pos, negsuc, ◌-ℤ◌, ◌*ℤ◌, ◌<ℤ◌}
use Rattle.std.specs.Prelude.{unsigned_abs}
use Rattle.std.specs.Int.{◌∣◌}
use Rattle.std.proofs.lemmas.Int.{ints, unsigned_abs-mul}
use Rattle.std.proofs.lemmas.Bool.{cases_order}
use Rattle.std.proofs.lemmas.Bool.Decides.{eqb_tells}
use Rattle.std.proofs.Math.Nat.{dvd_refl, dvd-add, dvd-sub, dvd_antisymm, dvd-mul_right}
use Rattle.std.proofs.Math.Nat.{dvd_of_mul-dvd-mul_left, mul-div_cancel'}
use Rattle.flow_rules.proofs.integer_laws.Cited.{cancel, V, ◌⊖◌, ◌⊗◌, ring}
use Rattle.flow_rules.specs.Columns.{Basis, Has, scale_at}
use Rattle.flow_rules.specs.LinearProgram.{LinearProgram}
use Rattle.flow_rules.specs.Tableau.{IsRowOf, IsPrimitive, IsIndependent}
use Rattle.path_laws.proofs.CombinationLemmas.{Mixes, mixed}

-- Euclid's differences: a set of numbers with their differences has a common divisor of them
divisor_in : (P : ℕ → Type 0) → ((a b : ℕ) → b ≤ a → P a → P b → P (a - b)) → (n a b : ℕ)
    → a + b ≤ n → 0 < a → 0 < b → P a → P b → (g : ℕ) × P g × (g ∣ a) × (g ∣ b)
divisor_in P s zero a b h pa pb x y = absurd (omega arith)
divisor_in P s (suc n) a b h pa pb x y =
    elim (cases_order a b) [
      | inl e ↦ (a, x, dvd_refl a, subst (λ k. a ∣ k) e (dvd_refl a))
      | inr o ↦ elim o [
        | inl l ↦
            let (g, p, ga, gb) =
            divisor_in P s n a (b - a) (omega arith) pa (omega arith) x
            (s b a (omega arith) y x) in
            (g, p, ga, subst (λ k. g ∣ k) (rejoin a b (omega arith)) (dvd-add g ga gb))
        | inr l ↦
            let (g, p, ga, gb) =
            divisor_in P s n (a - b) b (omega arith) (omega arith) pb (s a b (omega arith) x y)
            y in
            (g, p, subst (λ k. g ∣ k) (rejoin b a (omega arith)) (dvd-add g gb ga), gb)
      ]
    ]
  where
    rejoin : (a b : ℕ) → a ≤ b → a + (b - a) ≡ b
    rejoin a b h = omega arith

-- a number that divides the multiples by m of numbers without a common divisor divides m
pub divides : (n a m : ℕ) (x : ℕ → ℕ) → 0 < a → 0 < m
    → ((d : ℕ) → ((k : ℕ) → k < n → d ∣ x k) → d ≡ 1) → ((k : ℕ) → k < n → a ∣ m * x k) → a ∣ m
divides n a m x pa pm prim h =
    let P : ℕ → Type 0 = λ g. (k : ℕ) → k < n → a ∣ g * x k in
    let (g, p, ga, gm) =
    divisor_in P
    (λ c d le pc pd k l. subst (λ z. a ∣ z) (minus c d (x k) le) (dvd-sub a (pc k l) (pd k l)))
    (a + m) a m (omega arith) pa pm (λ k l. dvd-mul_right a (x k)) h in
    let e : g * (a / g) ≡ a = mul-div_cancel' g ga in
    let pg : 0 < g = above g a (a / g) pa e in
    let one : a / g ≡ 1 =
    prim (a / g)
    (λ k l. dvd_of_mul-dvd-mul_left (a / g) pg (subst (λ z. z ∣ g * x k) (sym e) (p k l))) in
    let same : g ≡ a = omega (arith, e, ap (λ z. g * z) one) in
    subst (λ z. z ∣ m) same gm
  where
    minus : (c d y : ℕ) → d ≤ c → c * y - d * y ≡ (c - d) * y
    minus c d y h =
        let e : c ≡ (c - d) + d = omega arith in
        ap (λ n. n * y - d * y) e ∙ step (c - d) d y
      where
        step : (t d y : ℕ) → (t + d) * y - d * y ≡ t * y
        step t d y = let e : (t + d) * y ≡ t * y + d * y = omega arith in omega arith

    above : (g a q : ℕ) → 0 < a → g * q ≡ a → 0 < g
    above zero a q p e = absurd (omega arith)
    above (suc g) a q p e = omega arith

pub same_factor : (n : ℕ) (a b : ℤ) (r q : ℕ → ℤ) → pos 0 <ℤ a → pos 0 <ℤ b → IsPrimitive n r
    → IsPrimitive n q → ((k : ℕ) → k < n → a *ℤ r k ≡ b *ℤ q k) → a ≡ b
same_factor n a b r q pa pb pr pq e =
    let f = λ (k : ℕ) (l : k < n). sym (unsigned_abs-mul a (r k)) ∙ ap unsigned_abs (e k l)
    ∙ unsigned_abs-mul b (q k) in
    let x : unsigned_abs a ∣ unsigned_abs b =
    divides n (unsigned_abs a) (unsigned_abs b) (λ k. unsigned_abs (q k)) (size a pa)
    (size b pb) pq
    (λ k l. subst (λ z. unsigned_abs a ∣ z) (f k l)
    (dvd-mul_right (unsigned_abs a) (unsigned_abs (r k)))) in
    let y : unsigned_abs b ∣ unsigned_abs a =
    divides n (unsigned_abs b) (unsigned_abs a) (λ k. unsigned_abs (r k)) (size b pb)
    (size a pa) pr
    (λ k l. subst (λ z. unsigned_abs b ∣ z) (sym (f k l))
    (dvd-mul_right (unsigned_abs b) (unsigned_abs (q k)))) in
    same a b pa pb (dvd_antisymm x y)
  where
    size : (z : ℤ) → pos 0 <ℤ z → 0 < unsigned_abs z
    size (pos m) h = omega (arith, ints)
    size (negsuc m) h = absurd (omega (arith, ints))

    same : (a b : ℤ) → pos 0 <ℤ a → pos 0 <ℤ b → unsigned_abs a ≡ unsigned_abs b → a ≡ b
    same (pos m) (pos k) h i e = ap pos e
    same (negsuc m) b h i e = absurd (omega (arith, ints))
    same (pos m) (negsuc k) h i e = absurd (omega (arith, ints))

-- the tableau row of a basis column is the only one
pub row_unique : (p : LinearProgram) (b : Basis) (c : ℕ) (r q : ℕ → ℤ) → IsIndependent p b
    → IsRowOf p b c r → IsRowOf p b c q → (k : ℕ) → k ≤ scale_at p → r k ≡ q k
row_unique p b c r q ind hr hq k l =
    cancel (r c) (r k) (q k) hr.own (ap (λ z. z *ℤ r k) (sym same) ∙ multiple k l)
  where
    m : ℕ → ℤ
    m k = q c *ℤ r k -ℤ r c *ℤ q k

    mix : (k : ℕ) → Mixes (pos 1) (q c) (r c) (m k) (r k) (q k)
    mix k =
        record {
          is =
              ring (V (pos 1) ⊗ (V (q c) ⊗ V (r k) ⊖ V (r c) ⊗ V (q k)))
              (V (q c) ⊗ V (r k) ⊖ V (r c) ⊗ V (q k)) (omega arith);
        }

    clear : (k : ℕ) → Has b k → m k ≡ pos 0
    clear k h = elim (eqb_tells k c) [
      | inl (_, kc) ↦ ap m kc
          ∙ ring (V (q c) ⊗ V (r c) ⊖ V (r c) ⊗ V (q c)) (V (pos 0)) (omega arith)
      | inr (_, kc) ↦ ap (λ x. q c *ℤ x -ℤ r c *ℤ q k) (hr.others k h kc)
          ∙ ap (λ x. q c *ℤ pos 0 -ℤ r c *ℤ x) (hq.others k h kc)
          ∙ ring (V (q c) ⊗ V (pos 0) ⊖ V (r c) ⊗ V (pos 0)) (V (pos 0)) (omega arith)
    ]

    multiple : (k : ℕ) → k ≤ scale_at p → q c *ℤ r k ≡ r c *ℤ q k
    multiple k l = let z =
        ind m
        (mixed p (pos 1) (q c) (r c) q r m (omega (arith, ints)) mix hq.combination hr.combination)
        clear k l in
        omega (arith, ints, z)

    same : q c ≡ r c
    same =
        same_factor (suc (scale_at p)) (q c) (r c) r q hq.own hr.own hr.primitive hq.primitive
        (λ k l. multiple k (omega arith))
