-- When a number over d is settled, and ranges divided.
use Rattle.std.proofs.Common.{◌≡◌, ◌↔◌, sym, subst, arith, pos, ℤ, ◌*ℤ◌, ◌≤ℤ◌, ◌<ℤ◌}
use Rattle.std.specs.Prelude.{int_div}
use Rattle.std.proofs.lemmas.Int.{ints}
use Rattle.tree_rules.proofs.integer_laws.Cited.{mul-le_right, cancel_le}
use Rattle.scaled_flows.specs.Divisors.{Divides}
use Rattle.scaled_flows.specs.Settled.{IsSettled}

same_le : (a b : ℤ) → a ≡ b → a ≤ℤ b
same_le a b e = omega (arith, ints)

at_end : (a b c : ℤ) → a ≡ b → b ≤ℤ c → a ≤ℤ c
at_end a b c e h = omega (arith, ints)

from_end : (a b c : ℤ) → c ≡ b → a ≤ℤ b → a ≤ℤ c
from_end a b c e h = omega (arith, ints)

module _ (low high d number price : ℤ) (positive : pos 1 ≤ℤ d) (ordered : low ≤ℤ high) where
  ends : (low *ℤ d) ≤ℤ (high *ℤ d)
  ends = mul-le_right low high d ordered (omega (arith, ints))

  pub settled_low : pos 0 <ℤ price → (number ≡ low *ℤ d) ↔ IsSettled low high d number price
  settled_low above = (
    λ e. record {
      at_least = same_le (low *ℤ d) number (sym e);
      at_most = at_end number (low *ℤ d) (high *ℤ d) e ends;
      at_low = λ h. e;
      at_high = λ h. absurd (omega (arith, ints));
    },
    λ h. h.at_low above,
  )

  pub settled_high : price <ℤ pos 0 → (number ≡ high *ℤ d) ↔ IsSettled low high d number price
  settled_high below = (
    λ e. record {
      at_least = from_end (low *ℤ d) (high *ℤ d) number e ends;
      at_most = same_le number (high *ℤ d) e;
      at_low = λ h. absurd (omega (arith, ints));
      at_high = λ h. e;
    },
    λ h. h.at_high below,
  )

  pub settled_within : price ≤ℤ pos 0 → pos 0 ≤ℤ price
      → (((low *ℤ d) ≤ℤ number) × (number ≤ℤ (high *ℤ d))) ↔ IsSettled low high d number price
  settled_within p q = (
    λ h. record {
      at_least = h.0;
      at_most = h.1;
      at_low = λ k. absurd (omega (arith, ints));
      at_high = λ k. absurd (omega (arith, ints));
    },
    λ h. (h.at_least, h.at_most),
  )

-- the order of two numbers is that of what is left after division
pub divided_order : (g a b x y : ℤ) → pos 1 ≤ℤ g → Divides g a → Divides g b → a ≤ℤ b
    → x ≡ int_div a g → y ≡ int_div b g → x ≤ℤ y
divided_order g a b x y p da db h e f =
    subst (λ (v : ℤ). x ≤ℤ v) (sym f)
    (subst (λ (v : ℤ). v ≤ℤ int_div b g) (sym e)
    (cancel_le g (int_div a g) (int_div b g) (omega (arith, ints))
    (subst (λ (v : ℤ). (g *ℤ int_div a g) ≤ℤ v) (sym db) (subst (λ (v : ℤ). v ≤ℤ b) (sym da) h))))

pub product_positive : (a b : ℤ) → pos 1 ≤ℤ a → pos 1 ≤ℤ b → pos 1 ≤ℤ (a *ℤ b)
product_positive a b p q =
    let h : (pos 1 *ℤ b) ≤ℤ (a *ℤ b) = mul-le_right (pos 1) a b p (omega (arith, ints)) in
    omega (arith, ints)
