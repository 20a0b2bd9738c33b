-- Straight lines: a sum or a multiple of them is one, and one that is not below 0 at two values is
-- not below 0 between them.
use Rattle.std.proofs.Common.{◌≡◌, ℕ, zero, suc, Bool, true, false, cond, List, [], ◌∷◌, inl, inr}
use Rattle.std.proofs.Common.{ℤ, pos, ◌+ℤ◌, ◌-ℤ◌, ◌*ℤ◌, ◌≤ℤ◌, ap, ◌∙◌, arith}
use Rattle.std.proofs.lemmas.Int.{ints}
use Rattle.report_rules.specs.integer_laws.Total.{total, total_below}
use Rattle.report_rules.proofs.integer_laws.Cited.{ring_z, sign_cases, mul-le_left, mul-le_left_neg}
use Rattle.stability_laws.specs.Laws.{IsLine}

pub constant : (c : ℤ) → IsLine (λ v. c)
constant c = record { start = c; slope = pos 0; is_line = λ v. omega (arith, ring_z) }

pub itself : IsLine (λ v. v)
itself = record { start = pos 0; slope = pos 1; is_line = λ v. omega (arith, ring_z) }

pub added : (f g : ℤ → ℤ) → IsLine f → IsLine g → IsLine (λ v. f v +ℤ g v)
added f g a b = record {
  start = a.start +ℤ b.start;
  slope = a.slope +ℤ b.slope;
  is_line = λ v. let x = a.is_line v in let y = b.is_line v in omega (arith, ring_z, x, y);
}

pub subtracted : (f g : ℤ → ℤ) → IsLine f → IsLine g → IsLine (λ v. f v -ℤ g v)
subtracted f g a b = record {
  start = a.start -ℤ b.start;
  slope = a.slope -ℤ b.slope;
  is_line = λ v. let x = a.is_line v in let y = b.is_line v in
      (λ i. x i -ℤ y i) ∙ subtract_lines a.start a.slope b.start b.slope v;
}
  where
    subtract_lines : (s p t q v : ℤ) → (s +ℤ p *ℤ v) -ℤ (t +ℤ q *ℤ v) ≡ (s -ℤ t) +ℤ (p -ℤ q) *ℤ v
    subtract_lines s p t q v = omega (arith, ring_z)

times_line : (c s p v : ℤ) → c *ℤ (s +ℤ p *ℤ v) ≡ c *ℤ s +ℤ (c *ℤ p) *ℤ v
times_line c s p v = omega (arith, ring_z)

line_times : (c s p v : ℤ) → (s +ℤ p *ℤ v) *ℤ c ≡ s *ℤ c +ℤ (p *ℤ c) *ℤ v
line_times c s p v = omega (arith, ring_z)

pub times : (c : ℤ) (f : ℤ → ℤ) → IsLine f → IsLine (λ v. c *ℤ f v)
times c f a = record {
  start = c *ℤ a.start;
  slope = c *ℤ a.slope;
  is_line = λ v. ap (λ (x : ℤ). c *ℤ x) (a.is_line v) ∙ times_line c a.start a.slope v;
}

pub by : (c : ℤ) (f : ℤ → ℤ) → IsLine f → IsLine (λ v. f v *ℤ c)
by c f a = record {
  start = a.start *ℤ c;
  slope = a.slope *ℤ c;
  is_line = λ v. ap (λ (x : ℤ). x *ℤ c) (a.is_line v) ∙ line_times c a.start a.slope v;
}

pub either_line : (b : Bool) (f g : ℤ → ℤ) → IsLine f → IsLine g → IsLine (λ v. cond b (f v) (g v))
either_line true f g a c = a
either_line false f g a c = c

pub total_line : {X : Type 0} (f : ℤ → X → ℤ) → ((x : X) → IsLine (λ v. f v x)) → (xs : List X)
    → IsLine (λ v. total (f v) xs)
total_line f h [] = constant (pos 0)
total_line f h (x ∷ xs) = added (λ v. f v x) (λ v. total (f v) xs) (h x) (total_line f h xs)

pub total_below_line : (n : ℕ) (f : ℤ → ℕ → ℤ) → ((x : ℕ) → IsLine (λ v. f v x))
    → IsLine (λ v. total_below n (f v))
total_below_line zero f h = constant (pos 0)
total_below_line (suc n) f h =
    added (λ v. total_below n (f v)) (λ v. f v n) (total_below_line n f h) (h n)

pub not_below : (f : ℤ → ℤ) → IsLine f → (x y v : ℤ) → x ≤ℤ v → v ≤ℤ y → pos 0 ≤ℤ f x → pos 0 ≤ℤ f y
    → pos 0 ≤ℤ f v
not_below f a x y v l r at_x at_y =
    let ex = a.is_line x in
    let ey = a.is_line y in
    let ev = a.is_line v in
    elim (sign_cases a.slope) [
      | inl up ↦
          let k : pos 0 ≤ℤ a.slope = omega (arith, ints) in
          let h = mul-le_left a.slope x v l k in
          omega (arith, ints, h, ex, ev)
      | inr down ↦
          let h = mul-le_left_neg a.slope v y r down in
          omega (arith, ints, h, ey, ev)
    ]
