-- Numbers that are read and printed, and names.
use Rattle.std.proofs.Common.{◌≡◌, ℕ, Bool, true, false, List, [], ◌∷◌, map, codes, refl, Result}
use Rattle.std.proofs.Common.{Ok, Err, ℤ, pos, negsuc}
use Rattle.std.specs.Fmt.{digits}
use Rattle.problem_rules.specs.Names.{is_name}
use Rattle.text_rules.specs.declared.TextKind.{TextKind}
use Rattle.text_rules.specs.declared.TextKind.TheVariants.{BadNumber, TooFine, TooLarge}
use Rattle.text_rules.specs.Amount.{amount_of}
use Rattle.text_rules.specs.Printed.{amount_bytes}

amounts : List (List ℕ × Result ℤ TextKind)
amounts =
    (codes "0", Ok (pos 0))
    ∷ (codes "-0", Ok (pos 0))
    ∷ (codes "+1", Ok (pos 1000000))
    ∷ (codes "1.", Ok (pos 1000000))
    ∷ (codes ".5", Ok (pos 500000))
    ∷ (codes "-12.340001", Ok (negsuc 12340000))
    ∷ (codes "-.0010e+3", Ok (negsuc 999999))
    ∷ (codes "1e-6", Ok (pos 1))
    ∷ (codes "1000000e-012", Ok (pos 1))
    ∷ (codes "2.50000000000000000000", Ok (pos 2500000))
    ∷ (codes "1E+09", Ok (pos 1000000000000000))
    ∷ (codes "-1e9", Ok (negsuc 999999999999999))
    ∷ (codes "0e999", Ok (pos 0))
    ∷ (codes "0e-999", Ok (pos 0))
    ∷ (codes "000000000000000000000000000001", Ok (pos 1000000))
    ∷ (codes "000000000000000.00000000000000e100", Ok (pos 0))
    ∷ (codes "0000000000000000000000000000001", Err BadNumber)
    ∷ (codes "0000000000000000.000000000000001", Err BadNumber)
    ∷ (codes "", Err BadNumber)
    ∷ (codes ".", Err BadNumber)
    ∷ (codes "-", Err BadNumber)
    ∷ (codes "e5", Err BadNumber)
    ∷ (codes "1e", Err BadNumber)
    ∷ (codes "1e+", Err BadNumber)
    ∷ (codes "1e0001", Err BadNumber)
    ∷ (codes "1e1.0", Err BadNumber)
    ∷ (codes "1e5e5", Err BadNumber)
    ∷ (codes "1.2.3", Err BadNumber)
    ∷ (codes "--1", Err BadNumber)
    ∷ (codes "1-", Err BadNumber)
    ∷ (codes " 1", Err BadNumber)
    ∷ (codes "1 000", Err BadNumber)
    ∷ (codes "1,5", Err BadNumber)
    ∷ (codes "0x10", Err BadNumber)
    ∷ (codes "2.0000001", Err TooFine)
    ∷ (codes "1e-7", Err TooFine)
    ∷ (codes "-1e-999", Err TooFine)
    ∷ (codes "1000000000000.0000001", Err TooFine)
    ∷ (codes "1000000000.000001", Err TooLarge)
    ∷ (codes "-1000000000.000001", Err TooLarge)
    ∷ (codes "1e999", Err TooLarge)
    ∷ []

amounts_read : map (λ row. amount_of (row.0)) amounts ≡ map (λ row. row.1) amounts
unfolding amounts
amounts_read = refl

printed : List (ℤ × List ℕ)
printed =
    (pos 0, codes "0")
    ∷ (pos 1, codes "0.000001")
    ∷ (negsuc 0, codes "-0.000001")
    ∷ (pos 500000, codes "0.5")
    ∷ (pos 1000000, codes "1")
    ∷ (pos 2500000, codes "2.5")
    ∷ (negsuc 12340000, codes "-12.340001")
    ∷ (pos 10000010, codes "10.00001")
    ∷ (pos 1000000000000000, codes "1000000000")
    ∷ (negsuc 999999999999999, codes "-1000000000")
    ∷ []

amounts_printed : map (λ row. amount_bytes (row.0)) printed ≡ map (λ row. row.1) printed
unfolding printed digits
amounts_printed = refl

names : List (List ℕ × Bool)
names =
    (codes "A", true)
    ∷ (codes "_", true)
    ∷ (codes "A-1.b_", true)
    ∷ (codes "a234567890123456789012345678901234567890123456789012345678901234", true)
    ∷ (codes "a2345678901234567890123456789012345678901234567890123456789012345", false)
    ∷ (codes "", false)
    ∷ (codes "1A", false)
    ∷ (codes "-A", false)
    ∷ (codes ".A", false)
    ∷ (codes "A B", false)
    ∷ (codes "A+", false)
    ∷ ((65 ∷ 195 ∷ 164 ∷ []), false)
    ∷ []

names_told : map (λ row. is_name (row.0)) names ≡ map (λ row. row.1) names
unfolding names
names_told = refl
