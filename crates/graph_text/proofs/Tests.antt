-- Tests of two parts.
use Rattle.std.proofs.Common.{◌≡◌, ℕ, Bool, true, false, refl}
use Rattle.std.specs.Prelude.{◌&&◌, not, if◌then◌else◌}

pub unless : (a b x : Bool) → a ≡ false → x ≡ b → x ≡ (not a && b)
unless false b x e f = f
unless true b x e f = let g : true ≡ false = e in cc

-- one of two tests
pub test_true : (b : Bool) (f g : ℕ → Bool) → b ≡ true → f ≡ (λ i. if b then f i else g i)
test_true true f g e = refl
test_true false f g e = let h : false ≡ true = e in cc

pub test_false : (b : Bool) (f g : ℕ → Bool) → b ≡ false → g ≡ (λ i. if b then f i else g i)
test_false false f g e = refl
test_false true f g e = let h : true ≡ false = e in cc
