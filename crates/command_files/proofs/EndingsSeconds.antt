-- Second lines that are fixed.
use Rattle.std.proofs.Common.{◌≡◌, ◌≤◌, ◌∷◌, [], ℕ, List, Bool, true, ◌&&◌, leb, leb-true}
use Rattle.std.proofs.lemmas.Bool.{and_parts}
use Rattle.pns_text.specs.problem_rules.Each.{Each}

-- all bytes are printable
abbrev pub printable : List ℕ → Bool
printable [] = true
printable (byte ∷ bytes) = (leb 32 byte && leb byte 126) && printable bytes

-- as a computation shows
pub printable_line : (bytes : List ℕ) → printable bytes ≡ true
    → Each (λ byte. (32 ≤ byte) × (byte ≤ 126)) bytes
printable_line [] e = tt
printable_line (byte ∷ bytes) e =
    let both = and_parts (leb 32 byte && leb byte 126) (printable bytes) e in
    let within = and_parts (leb 32 byte) (leb byte 126) both.0 in
    ((leb-true 32 byte within.0, leb-true byte 126 within.1), printable_line bytes both.1)
