-- A test is true or false.
use Rattle.std.proofs.Common.{◌≡◌, ◌⊎◌, inl, inr, Bool, true, false, refl}

pub bool_cases : (x : Bool) → (x ≡ true) ⊎ (x ≡ false)
bool_cases true = inl refl
bool_cases false = inr refl
