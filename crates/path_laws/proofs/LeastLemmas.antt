-- The order of columns by their gains over their entries: it is transitive, and two columns outside
-- the basis are never level.
use Rattle.std.proofs.Common.{◌≡◌, ◌≢◌, ℕ, suc, ◌<◌, inl, inr, false, arith, ap, sym, ◌∙◌, subst}
use Rattle.std.specs.Prelude.{ℤ, pos, ◌-ℤ◌, ◌*ℤ◌, ◌<ℤ◌}
use Rattle.std.proofs.lemmas.Int.{ints}
use Rattle.std.proofs.lemmas.Bool.{cases_order}
use Rattle.flow_rules.proofs.integer_laws.Cited.{mul_pos, cancel, pos_of-mul, V, ◌⊖◌, ◌⊗◌, ring}
use Rattle.flow_rules.proofs.integer_laws.Cited.{ring_lt}
use Rattle.flow_rules.proofs.integer_laws.Cited.{read_equal, read_lt}
use Rattle.path_laws.proofs.VectorLemmas.{gain-own, gain-other}
use Rattle.flow_rules.specs.Columns.{Basis}
use Rattle.flow_rules.specs.Lexicographic.{IsBefore}
use Rattle.flow_rules.specs.Vectors.{gain}

-- one place: a, b, c are the entries of three columns, x, y, z their gains
pub level_level : (a b c x y z : ℤ) → pos 0 <ℤ b → b *ℤ x ≡ a *ℤ y → c *ℤ y ≡ b *ℤ z
    → c *ℤ x ≡ a *ℤ z
level_level a b c x y z p e f =
    cancel b (c *ℤ x) (a *ℤ z) p
    (ring (V b ⊗ (V c ⊗ V x)) (V c ⊗ (V b ⊗ V x)) (omega arith) ∙ ap (λ n. c *ℤ n) e
    ∙ ring (V c ⊗ (V a ⊗ V y)) (V a ⊗ (V c ⊗ V y)) (omega arith) ∙ ap (λ n. a *ℤ n) f
    ∙ ring (V a ⊗ (V b ⊗ V z)) (V b ⊗ (V a ⊗ V z)) (omega arith))

apart : (x y : ℤ) → x <ℤ y → pos 0 <ℤ (y -ℤ x)
apart x y h = omega (arith, ints)

joined : (x y : ℤ) → pos 0 <ℤ (y -ℤ x) → x <ℤ y
joined x y h = omega (arith, ints)

pub less_less : (a b c x y z : ℤ) → pos 0 <ℤ a → pos 0 <ℤ b → pos 0 <ℤ c → (b *ℤ x) <ℤ (a *ℤ y)
    → (c *ℤ y) <ℤ (b *ℤ z) → (c *ℤ x) <ℤ (a *ℤ z)
less_less a b c x y z pa pb pc e f =
    let u =
    read_lt (V (pos 0)) (V c ⊗ (V a ⊗ V y ⊖ V b ⊗ V x))
    (mul_pos c (a *ℤ y -ℤ b *ℤ x) pc (apart (b *ℤ x) (a *ℤ y) e)) in
    let v =
    read_lt (V (pos 0)) (V a ⊗ (V b ⊗ V z ⊖ V c ⊗ V y))
    (mul_pos a (b *ℤ z -ℤ c *ℤ y) pa (apart (c *ℤ y) (b *ℤ z) f)) in
    joined (c *ℤ x) (a *ℤ z)
    (pos_of-mul b (a *ℤ z -ℤ c *ℤ x) pb
    (ring_lt (V (pos 0)) (V b ⊗ (V a ⊗ V z ⊖ V c ⊗ V x)) (omega (arith, u, v))))

pub less_level : (a b c x y z : ℤ) → pos 0 <ℤ b → pos 0 <ℤ c → (b *ℤ x) <ℤ (a *ℤ y)
    → c *ℤ y ≡ b *ℤ z → (c *ℤ x) <ℤ (a *ℤ z)
less_level a b c x y z pb pc e f =
    let u =
    read_lt (V (pos 0)) (V c ⊗ (V a ⊗ V y ⊖ V b ⊗ V x))
    (mul_pos c (a *ℤ y -ℤ b *ℤ x) pc (apart (b *ℤ x) (a *ℤ y) e)) in
    let v = read_equal (V a ⊗ (V c ⊗ V y)) (V a ⊗ (V b ⊗ V z)) (ap (λ n. a *ℤ n) f) in
    joined (c *ℤ x) (a *ℤ z)
    (pos_of-mul b (a *ℤ z -ℤ c *ℤ x) pb
    (ring_lt (V (pos 0)) (V b ⊗ (V a ⊗ V z ⊖ V c ⊗ V x)) (omega (arith, u, v))))

pub level_less : (a b c x y z : ℤ) → pos 0 <ℤ a → pos 0 <ℤ b → b *ℤ x ≡ a *ℤ y
    → (c *ℤ y) <ℤ (b *ℤ z) → (c *ℤ x) <ℤ (a *ℤ z)
level_less a b c x y z pa pb e f =
    let u = read_equal (V c ⊗ (V b ⊗ V x)) (V c ⊗ (V a ⊗ V y)) (ap (λ n. c *ℤ n) e) in
    let v =
    read_lt (V (pos 0)) (V a ⊗ (V b ⊗ V z ⊖ V c ⊗ V y))
    (mul_pos a (b *ℤ z -ℤ c *ℤ y) pa (apart (c *ℤ y) (b *ℤ z) f)) in
    joined (c *ℤ x) (a *ℤ z)
    (pos_of-mul b (a *ℤ z -ℤ c *ℤ x) pb
    (ring_lt (V (pos 0)) (V b ⊗ (V a ⊗ V z ⊖ V c ⊗ V x)) (omega (arith, u, v))))

-- a, b, c: the entries above 0 of three columns; f, g, h: their gains
pub before_trans : (n : ℕ) (a b c : ℤ) (f g h : ℕ → ℤ) → pos 0 <ℤ a → pos 0 <ℤ b → pos 0 <ℤ c
    → IsBefore n (λ q. b *ℤ f q) (λ q. a *ℤ g q) → IsBefore n (λ q. c *ℤ g q) (λ q. b *ℤ h q)
    → IsBefore n (λ q. c *ℤ f q) (λ q. a *ℤ h q)
before_trans n a b c f g h pa pb pc r s =
    elim (cases_order r.at s.at) [
      | inl e ↦ record {
        at = r.at;
        below = r.below;
        same = λ i l. let l' : i < s.at =
            omega (arith, e) in level_level a b c (f i) (g i) (h i) pb (r.same i l) (s.same i l');
        less =
            less_less a b c (f r.at) (g r.at) (h r.at) pa pb pc r.less
            (subst (λ q. (c *ℤ g q) <ℤ (b *ℤ h q)) (sym e) s.less);
      }
      | inr o ↦ elim o [
        | inl l ↦ record {
          at = r.at;
          below = r.below;
          same = λ i m. let l' : i < s.at =
              omega (arith, l) in level_level a b c (f i) (g i) (h i) pb (r.same i m) (s.same i l');
          less = less_level a b c (f r.at) (g r.at) (h r.at) pb pc r.less (s.same r.at l);
        }
        | inr l ↦ record {
          at = s.at;
          below = s.below;
          same = λ i m. let l' : i < r.at =
              omega (arith, l) in level_level a b c (f i) (g i) (h i) pb (r.same i l') (s.same i m);
          less = level_less a b c (f s.at) (g s.at) (h s.at) pa pb (r.same s.at l) s.less;
        }
      ]
    ]

-- two columns outside the basis differ at the place of either
pub never_level : (b : Basis) (T : ℕ → ℕ → ℤ) (s i j : ℕ) (x y : ℤ) → b i ≡ false → i ≢ j
    → pos 0 <ℤ y → y *ℤ gain b T s i (suc i) ≡ x *ℤ gain b T s j (suc i) → ⊥
never_level b T s i j x y bi n py e =
    let g = gain-own b T s i bi in
    let h = gain-other b T s j i bi n in
    clash x y py (sym (ap (λ z. y *ℤ z) g) ∙ e ∙ ap (λ z. x *ℤ z) h)
  where
    clash : (x y : ℤ) → pos 0 <ℤ y → y *ℤ pos 1 ≡ x *ℤ pos 0 → ⊥
    clash x y p e = omega (arith, ints)
