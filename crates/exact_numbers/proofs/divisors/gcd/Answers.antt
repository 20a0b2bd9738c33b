use Rattle.std.proofs.Common.{◌≡◌, pos, ◌<◌, ◌^◌, ℕ, arith, ℤ, to_z, rules}
use Rattle.std.proofs.lemmas.Int.{to_z-of_z, to_z_pos}
use Rattle.std.proofs.lemmas.Nat.Gcd.{IsGcd-from_zero, IsGcd-from_mod}
use Rattle.std.specs.Int.{w128}
use Rattle.std.specs.Prelude.{unsigned_abs}
use Rattle.exact_numbers.proofs.divisors.gcd.Invariants.{IsEuclid}
use Rattle.exact_numbers.proofs.divisors.gcd.Goals as goal

start : (a b : ℤ) (x y : ℕ) → x ≡ unsigned_abs a → y ≡ unsigned_abs b → unsigned_abs a < 2 ^ 127
    → unsigned_abs b < 2 ^ 127 → IsEuclid (unsigned_abs a) (unsigned_abs b) x y
start a b x y h k f g =
    record { x_in_range = omega arith; y_in_range = omega arith; same = λ g'. rw h (rw k (λ p. p)) }

pub loop-y-init : goal.loop-y-init
loop-y-init c =
    simp (to_z-of_z w128 c.args.a c.ranges.a, to_z-of_z w128 c.args.b c.ranges.b)
    (start c.args.a c.args.b c.unsigned_abs-x.result c.unsigned_abs-y.result (search rules)
    (search rules) c.requires.a_in_range c.requires.b_in_range)

pub loop-y-preserved : goal.loop-y-preserved
loop-y-preserved c = record {
  x_in_range = c.loop-y.invariant.y_in_range;
  y_in_range = omega (arith, c.loop-y.invariant.y_in_range);
  same = λ g h. c.loop-y.invariant.same g (IsGcd-from_mod _ _ g h);
}

pub returns-then-y-eq0-clause-greatest : goal.returns-then-y-eq0-clause-greatest
returns-then-y-eq0-clause-greatest c =
    let x_is : to_z w128 c.loop-y.x ≡ pos c.loop-y.x =
    to_z_pos w128 c.loop-y.x c.loop-y.invariant.x_in_range in
    rw x_is
    (simp (
      to_z-of_z w128 c.args.a c.ranges.a,
      to_z-of_z w128 c.args.b c.ranges.b,
    ) at (c.loop-y.invariant.same _
    (IsGcd-from_zero _ _ c.if-y-eq0.true)))

pub returns-clause-greatest : goal.returns-clause-greatest
returns-clause-greatest c =
    let g_is : to_z w128 c.narrow_gcd-2.result ≡ pos c.narrow_gcd-2.result =
    to_z_pos w128 c.narrow_gcd-2.result (omega (arith, c.narrow_gcd-2.type_inv)) in
    rw g_is
    (simp (
      to_z-of_z w128 c.args.a c.ranges.a,
      to_z-of_z w128 c.args.b c.ranges.b,
    ) at (c.loop-y.invariant.same _
    (IsGcd-from_mod c.loop-y.x c.loop-y.y c.narrow_gcd-2.result c.narrow_gcd-2.ensures)))

pub returns-then-x-le-WIDE-clause-greatest : goal.returns-then-x-le-WIDE-clause-greatest
returns-then-x-le-WIDE-clause-greatest c =
    let g_is : to_z w128 c.narrow_gcd.result ≡ pos c.narrow_gcd.result =
    to_z_pos w128 c.narrow_gcd.result (omega (arith, c.narrow_gcd.type_inv)) in
    rw g_is
    (simp (
      to_z-of_z w128 c.args.a c.ranges.a,
      to_z-of_z w128 c.args.b c.ranges.b,
    ) at (c.loop-y.invariant.same _ c.narrow_gcd.ensures))
