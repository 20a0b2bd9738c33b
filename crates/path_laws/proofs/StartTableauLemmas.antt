-- The start has a tableau: its rows, written down.
use Rattle.std.proofs.Common.{◌≡◌, ◌≢◌, ℕ, suc, ◌+◌, ◌-◌, ◌<◌, ◌≤◌, inl, inr, Bool, true, false}
use Rattle.std.proofs.Common.{cond, arith, refl, ap, ◌∙◌}
use Rattle.std.specs.Prelude.{ℤ, pos, ◌-ℤ◌, neg_ℤ, nat_lt, nat_eq}
use Rattle.std.proofs.lemmas.Bool.Decides.{eqb_tells, leb_tells}
use Rattle.flow_rules.specs.LinearProgram.{LinearProgram, low_flow}
use Rattle.flow_rules.specs.Columns.{Has, x_at, s_at, t_at, w_at, right_at, scale_at, start}
use Rattle.flow_rules.specs.Start.{one_at, IsStart}
use Rattle.path_laws.proofs.StartBasisLemmas.{start-has}
use Rattle.path_laws.proofs.CanonicalLemmas.{canonical, canonical-at}

-- an entry at x, by the kind of the row's column
unfoldable pub x_entry : LinearProgram → ℕ → ℕ → ℤ
x_entry p c k =
    cond (nat_lt c (p.units + p.units)) (one_at (c - p.units) k)
    (cond (nat_lt c (p.units + p.units + p.rows)) (neg_ℤ (p.rate (c - (p.units + p.units)) k))
    (cond (nat_lt c (right_at p)) (p.rate (c - (p.units + p.units + p.rows)) k) (p.cost k)))

unfoldable pub right_entry : LinearProgram → ℕ → ℤ
right_entry p c =
    cond (nat_lt c (p.units + p.units)) (p.high (c - p.units) -ℤ p.low (c - p.units))
    (cond (nat_lt c (p.units + p.units + p.rows))
    (neg_ℤ (p.floor (c - (p.units + p.units)) -ℤ low_flow p (c - (p.units + p.units))))
    (cond (nat_lt c (right_at p))
    (p.ceiling (c - (p.units + p.units + p.rows)) -ℤ low_flow p
    (c - (p.units + p.units + p.rows))) (pos 0)))

unfoldable pub start_rows : LinearProgram → ℕ → ℕ → ℤ
start_rows p c k =
    cond (nat_lt k p.units) (x_entry p c k)
    (cond (nat_eq k (right_at p)) (right_entry p c) (one_at c k))

is_below : (a b : ℕ) → a < b → nat_lt a b ≡ true
is_below a b h = elim (leb_tells (suc a) b) [ inl (g, _) ↦ g | inr (_, q) ↦ absurd (omega arith) ]

not_below : (a b : ℕ) → b ≤ a → nat_lt a b ≡ false
not_below a b h = elim (leb_tells (suc a) b) [ inl (_, q) ↦ absurd (omega arith) | inr (g, _) ↦ g ]

not_equal : (a b : ℕ) → a ≢ b → nat_eq a b ≡ false
not_equal a b n = elim (eqb_tells a b) [ inl (_, q) ↦ absurd (n q) | inr (g, _) ↦ g ]

is_equal : (a : ℕ) → nat_eq a a ≡ true
is_equal a = elim (eqb_tells a a) [ inl (g, _) ↦ g | inr (_, q) ↦ absurd (q refl) ]

second : {A : Type 0} (b c : Bool) (x y z : A) → b ≡ false → c ≡ true → cond b x (cond c y z) ≡ y
second b c x y z e f = rw (e, f) refl

third : {A : Type 0} (b c d : Bool) (x y z w : A) → b ≡ false → c ≡ false → d ≡ true
    → cond b x (cond c y (cond d z w)) ≡ z
third b c d x y z w e f g = rw (e, f, g) refl

fourth : {A : Type 0} (b c d : Bool) (x y z w : A) → b ≡ false → c ≡ false → d ≡ false
    → cond b x (cond c y (cond d z w)) ≡ w
fourth b c d x y z w e f g = rw (e, f, g) refl

first : {A : Type 0} (b : Bool) (x y : A) → b ≡ true → cond b x y ≡ x
first b x y e = rw e refl

last : {A : Type 0} (b c : Bool) (x y z : A) → b ≡ false → c ≡ false → cond b x (cond c y z) ≡ z
last b c x y z e f = rw (e, f) refl

module _ (p : LinearProgram) where
  n2 : ℕ
  n2 = p.units + p.units

  at_x : (c k : ℕ) → k < p.units → start_rows p c (x_at p k) ≡ x_entry p c k
  unfolding start_rows
  at_x c k h =
      first (nat_lt k p.units) (x_entry p c k)
      (cond (nat_eq k (right_at p)) (right_entry p c) (one_at c k)) (is_below k p.units h)

  at_right : (c : ℕ) → start_rows p c (right_at p) ≡ right_entry p c
  unfolding start_rows
  at_right c =
      second (nat_lt (right_at p) p.units) (nat_eq (right_at p) (right_at p))
      (x_entry p c (right_at p)) (right_entry p c) (one_at c (right_at p))
      (not_below (right_at p) p.units (omega arith)) (is_equal (right_at p))

  at_other : (c k : ℕ) → p.units ≤ k → k ≢ right_at p → start_rows p c k ≡ one_at c k
  unfolding start_rows
  at_other c k h n =
      last (nat_lt k p.units) (nat_eq k (right_at p)) (x_entry p c k) (right_entry p c) (one_at c k)
      (not_below k p.units h) (not_equal k (right_at p) n)

  s_entry : {A : Type 0} (f : ℕ → A) (y z w : A) (i : ℕ) → i < p.units
      → cond (nat_lt (s_at p i) (p.units + p.units)) (f (s_at p i - p.units))
      (cond (nat_lt (s_at p i) (p.units + p.units + p.rows)) y
      (cond (nat_lt (s_at p i) (right_at p)) z w)) ≡ f i
  s_entry f y z w i h =
      first (nat_lt (s_at p i) (p.units + p.units)) (f (s_at p i - p.units))
      (cond (nat_lt (s_at p i) (p.units + p.units + p.rows)) y
      (cond (nat_lt (s_at p i) (right_at p)) z w))
      (is_below (s_at p i) (p.units + p.units) (omega arith))
      ∙ ap f (omega arith)

  t_entry : {A : Type 0} (f : ℕ → A) (x z w : A) (j : ℕ) → j < p.rows
      → cond (nat_lt (t_at p j) (p.units + p.units)) x
      (cond (nat_lt (t_at p j) (p.units + p.units + p.rows)) (f (t_at p j - (p.units + p.units)))
      (cond (nat_lt (t_at p j) (right_at p)) z w)) ≡ f j
  t_entry f x z w j h =
      second (nat_lt (t_at p j) (p.units + p.units))
      (nat_lt (t_at p j) (p.units + p.units + p.rows)) x (f (t_at p j - (p.units + p.units)))
      (cond (nat_lt (t_at p j) (right_at p)) z w)
      (not_below (t_at p j) (p.units + p.units) (omega arith))
      (is_below (t_at p j) (p.units + p.units + p.rows) (omega arith))
      ∙ ap f (omega arith)

  w_entry : {A : Type 0} (f : ℕ → A) (x y w : A) (j : ℕ) → j < p.rows
      → cond (nat_lt (w_at p j) (p.units + p.units)) x
      (cond (nat_lt (w_at p j) (p.units + p.units + p.rows)) y
      (cond (nat_lt (w_at p j) (right_at p)) (f (w_at p j - (p.units + p.units + p.rows))) w)) ≡ f j
  w_entry f x y w j h =
      third (nat_lt (w_at p j) (p.units + p.units)) (nat_lt (w_at p j) (p.units + p.units + p.rows))
      (nat_lt (w_at p j) (right_at p)) x y (f (w_at p j - (p.units + p.units + p.rows))) w
      (not_below (w_at p j) (p.units + p.units) (omega arith))
      (not_below (w_at p j) (p.units + p.units + p.rows) (omega arith))
      (is_below (w_at p j) (right_at p) (omega arith))
      ∙ ap f (omega arith)

  scale_entry : {A : Type 0} (x y z w : A)
      → cond (nat_lt (scale_at p) (p.units + p.units)) x
      (cond (nat_lt (scale_at p) (p.units + p.units + p.rows)) y
      (cond (nat_lt (scale_at p) (right_at p)) z w)) ≡ w
  scale_entry x y z w =
      fourth (nat_lt (scale_at p) (p.units + p.units))
      (nat_lt (scale_at p) (p.units + p.units + p.rows)) (nat_lt (scale_at p) (right_at p)) x y
      z w
      (not_below (scale_at p) (p.units + p.units) (omega arith))
      (not_below (scale_at p) (p.units + p.units + p.rows) (omega arith))
      (not_below (scale_at p) (right_at p) (omega arith))

  pub start_exists : IsStart p (start_rows p)
  unfolding x_entry right_entry
  start_exists = record {
    own = λ c k h l m n. at_other c k l n;
    s_x = λ i k h l. at_x (s_at p i) k l
        ∙ s_entry (λ u. one_at u k) (neg_ℤ (p.rate (s_at p i - (p.units + p.units)) k))
        (p.rate (s_at p i - (p.units + p.units + p.rows)) k) (p.cost k) i h;
    s_right = λ i h. at_right (s_at p i)
        ∙ s_entry (λ u. p.high u -ℤ p.low u)
        (neg_ℤ
        (p.floor (s_at p i - (p.units + p.units)) -ℤ low_flow p (s_at p i - (p.units + p.units))))
        (p.ceiling (s_at p i - (p.units + p.units + p.rows)) -ℤ low_flow p
        (s_at p i - (p.units + p.units + p.rows))) (pos 0) i h;
    t_x = λ j k h l. at_x (t_at p j) k l
        ∙ t_entry (λ u. neg_ℤ (p.rate u k)) (one_at (t_at p j - p.units) k)
        (p.rate (t_at p j - (p.units + p.units + p.rows)) k) (p.cost k) j h;
    t_right = λ j h. at_right (t_at p j)
        ∙ t_entry (λ u. neg_ℤ (p.floor u -ℤ low_flow p u))
        (p.high (t_at p j - p.units) -ℤ p.low (t_at p j - p.units))
        (p.ceiling (t_at p j - (p.units + p.units + p.rows)) -ℤ low_flow p
        (t_at p j - (p.units + p.units + p.rows))) (pos 0) j h;
    w_x = λ j k h l. at_x (w_at p j) k l
        ∙ w_entry (λ u. p.rate u k) (one_at (w_at p j - p.units) k)
        (neg_ℤ (p.rate (w_at p j - (p.units + p.units)) k)) (p.cost k) j h;
    w_right = λ j h. at_right (w_at p j)
        ∙ w_entry (λ u. p.ceiling u -ℤ low_flow p u)
        (p.high (w_at p j - p.units) -ℤ p.low (w_at p j - p.units))
        (neg_ℤ
        (p.floor (w_at p j - (p.units + p.units)) -ℤ low_flow p (w_at p j - (p.units + p.units))))
        (pos 0) j h;
    scale_x = λ k h. at_x (scale_at p) k h
        ∙ scale_entry (one_at (scale_at p - p.units) k)
        (neg_ℤ (p.rate (scale_at p - (p.units + p.units)) k))
        (p.rate (scale_at p - (p.units + p.units + p.rows)) k) (p.cost k);
    scale_right = at_right (scale_at p)
        ∙ scale_entry (p.high (scale_at p - p.units) -ℤ p.low (scale_at p - p.units))
        (neg_ℤ
        (p.floor (scale_at p - (p.units + p.units)) -ℤ low_flow p
        (scale_at p - (p.units + p.units))))
        (p.ceiling (scale_at p - (p.units + p.units + p.rows)) -ℤ low_flow p
        (scale_at p - (p.units + p.units + p.rows))) (pos 0);
  }

  has_column : (k : ℕ) → p.units ≤ k → k ≤ scale_at p → k ≢ right_at p → Has (start p) k
  has_column k h l n = start-has p k h l n

  -- with 0 at each place at which an entry does not matter they are still start rows
  pub canonical_start : (T : ℕ → ℕ → ℤ) → IsStart p T → IsStart p (canonical p (start p) T)
  canonical_start T s = record {
    own = λ c k h l m n. canonical-at p (start p) T c k h m ∙ s.own c k h l m n;
    s_x =
        λ i k h l. canonical-at p (start p) T (s_at p i) (x_at p k)
        (has_column (s_at p i) (omega arith) (omega arith) (λ q. absurd (omega arith)))
        (omega arith) ∙ s.s_x i k h l;
    s_right =
        λ i h. canonical-at p (start p) T (s_at p i) (right_at p)
        (has_column (s_at p i) (omega arith) (omega arith) (λ q. absurd (omega arith)))
        (omega arith) ∙ s.s_right i h;
    t_x =
        λ j k h l. canonical-at p (start p) T (t_at p j) (x_at p k)
        (has_column (t_at p j) (omega arith) (omega arith) (λ q. absurd (omega arith)))
        (omega arith) ∙ s.t_x j k h l;
    t_right =
        λ j h. canonical-at p (start p) T (t_at p j) (right_at p)
        (has_column (t_at p j) (omega arith) (omega arith) (λ q. absurd (omega arith)))
        (omega arith) ∙ s.t_right j h;
    w_x =
        λ j k h l. canonical-at p (start p) T (w_at p j) (x_at p k)
        (has_column (w_at p j) (omega arith) (omega arith) (λ q. absurd (omega arith)))
        (omega arith) ∙ s.w_x j k h l;
    w_right =
        λ j h. canonical-at p (start p) T (w_at p j) (right_at p)
        (has_column (w_at p j) (omega arith) (omega arith) (λ q. absurd (omega arith)))
        (omega arith) ∙ s.w_right j h;
    scale_x =
        λ k h. canonical-at p (start p) T (scale_at p) (x_at p k)
        (has_column (scale_at p) (omega arith) (omega arith) (λ q. absurd (omega arith)))
        (omega arith) ∙ s.scale_x k h;
    scale_right =
        canonical-at p (start p) T (scale_at p) (right_at p)
        (has_column (scale_at p) (omega arith) (omega arith) (λ q. absurd (omega arith)))
        (omega arith) ∙ s.scale_right;
  }
