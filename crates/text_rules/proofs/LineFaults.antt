-- Lines under each header, each with the kind of fault that is reported.
use Rattle.std.proofs.Common.{ℕ, List, [], ◌∷◌, codes, refl}
use Rattle.text_rules.specs.declared.TextKind.{TextKind}
use Rattle.text_rules.specs.declared.TextKind.TheVariants.{UnknownSection, BadLine, BadName}
use Rattle.text_rules.specs.declared.TextKind.TheVariants.{UnknownKey, DoubleKey, BadNumber}
use Rattle.text_rules.specs.declared.TextKind.TheVariants.{TooFine, TooLarge, Negative, UnknownKind}
use Rattle.text_rules.specs.declared.TextKind.TheVariants.{ZeroRate, DoubleTerm, BothSides}
use Rattle.text_rules.specs.declared.TextKind.TheVariants.{EmptySide, DoubleMember, FewMembers}
use Rattle.text_rules.specs.declared.TextKind.TheVariants.{BadPayout, UnknownMaterial}
use Rattle.text_rules.proofs.Texts.{Told}

measurement_rows : List (List ℕ × TextKind)
measurement_rows =
    (codes "mass_unit", BadLine)
    ∷ (codes "A:", UnknownSection)
    ∷ (codes "9:", BadLine)
    ∷ []

measurement_told : Told (codes "measurement_units:") measurement_rows
unfolding measurement_rows
measurement_told = refl

default_rows : List (List ℕ × TextKind)
default_rows =
    (codes "A:", UnknownSection)
    ∷ (codes "price", BadLine)
    ∷ (codes "price=1", UnknownKey)
    ∷ (codes "=1", UnknownKey)
    ∷ (codes "material_rate=1", UnknownKey)
    ∷ (codes "material_price=", BadNumber)
    ∷ (codes "material_price=1,5", BadNumber)
    ∷ (codes "material_price=1=2", BadNumber)
    ∷ (codes "material_price=2.0000001", TooFine)
    ∷ (codes "material_price=1000000000.000001", TooLarge)
    ∷ (codes "material_flow_rate_lower_bound=-1", Negative)
    ∷ (codes "material_flow_rate_upper_bound=-1", Negative)
    ∷ (codes "operating_unit_capacity_lower_bound=-1", Negative)
    ∷ (codes "operating_unit_capacity_upper_bound=-1", Negative)
    ∷ (codes "operating_unit_fix_cost=-0.000001", Negative)
    ∷ (codes "operating_unit_investment_fix_cost=-1", Negative)
    ∷ (codes "material_type=", UnknownKind)
    ∷ (codes "material_type=waste", UnknownKind)
    ∷ (codes "payout_period=x", BadNumber)
    ∷ (codes "payout_period=1.0000001", TooFine)
    ∷ (codes "payout_period=1e10", TooLarge)
    ∷ (codes "payout_period=-1", BadPayout)
    ∷ (codes "payout_period=-0", BadPayout)
    ∷ (codes "payout_period=0", BadPayout)
    ∷ (codes "payout_period=0.5", BadPayout)
    ∷ (codes "payout_period=1.5", BadPayout)
    ∷ (codes "payout_period=101", BadPayout)
    ∷ []

defaults_told : Told (codes "defaults:") default_rows
unfolding default_rows
defaults_told = refl

material_rows : List (List ℕ × TextKind)
material_rows =
    (codes "A:", UnknownSection)
    ∷ (codes "A :", UnknownSection)
    ∷ (codes "9:", BadLine)
    ∷ (codes ":", BadLine)
    ∷ (codes "a2345678901234567890123456789012345678901234567890123456789012345:", BadLine)
    ∷ (codes "A: product,", BadLine)
    ∷ (codes "A: , product", BadLine)
    ∷ (codes "A: price=1,, product", BadLine)
    ∷ (codes "9: foo,", BadLine)
    ∷ (codes "A, product", BadName)
    ∷ (codes "A=1", BadName)
    ∷ (codes "A product", BadName)
    ∷ (codes "A=1: product", BadName)
    ∷ (codes ": product", BadName)
    ∷ (codes "9", BadName)
    ∷ (codes "-A", BadName)
    ∷ (codes "9: foo=1", BadName)
    ∷ (codes "a2345678901234567890123456789012345678901234567890123456789012345", BadName)
    ∷ (codes "A: =1", UnknownKey)
    ∷ (codes "A: q=1, q=2", UnknownKey)
    ∷ (codes "A: material_price=1", UnknownKey)
    ∷ (codes "A: material_type=product", UnknownKey)
    ∷ (codes "A: product=1", UnknownKey)
    ∷ (codes "A: payout_period=2", UnknownKey)
    ∷ (codes "A: fix_cost=2", UnknownKey)
    ∷ (codes "A: price=x, price=y", DoubleKey)
    ∷ (codes "A: price=1, price=1", DoubleKey)
    ∷ (codes "A: product, raw_material", DoubleKey)
    ∷ (codes "A: product, product", DoubleKey)
    ∷ (codes "A: price=", BadNumber)
    ∷ (codes "A: price=1 2", BadNumber)
    ∷ (codes "A: price=0000000000000000000000000000001", BadNumber)
    ∷ (codes "A: price=1e0001", BadNumber)
    ∷ (codes "A: price=1000000000000.0000001", TooFine)
    ∷ (codes "A: price=1e12, flow_rate_lower_bound=1e-9", TooFine)
    ∷ (codes "A: price=1e-999", TooFine)
    ∷ (codes "A: price=-1000000000.000001", TooLarge)
    ∷ (codes "A: flow_rate_lower_bound=-1e12", TooLarge)
    ∷ (codes "A: flow_rate_lower_bound=-1", Negative)
    ∷ (codes "A: flow_rate_upper_bound=-1, foo", Negative)
    ∷ (codes "A: foo", UnknownKind)
    ∷ (codes "A: foo, bar", UnknownKind)
    ∷ (codes "A: product, foo", UnknownKind)
    ∷ (codes "A: Product", UnknownKind)
    ∷ []

materials_told : Told (codes "materials:") material_rows
unfolding material_rows
materials_told = refl

unit_rows : List (List ℕ × TextKind)
unit_rows =
    (codes "U:", UnknownSection)
    ∷ (codes "9:", BadLine)
    ∷ (codes "U: product", BadLine)
    ∷ (codes "U: fix_cost", BadLine)
    ∷ (codes "U: fix_cost=1,", BadLine)
    ∷ (codes "U, fix_cost=1", BadName)
    ∷ (codes "U V", BadName)
    ∷ (codes "U: operating_unit_fix_cost=1", UnknownKey)
    ∷ (codes "U: price=1", UnknownKey)
    ∷ (codes "U: fix_cost=1, fix_cost=1", DoubleKey)
    ∷ (codes "U: proportional_cost=1-", BadNumber)
    ∷ (codes "U: proportional_cost=0.0000001", TooFine)
    ∷ (codes "U: proportional_cost=1e10", TooLarge)
    ∷ (codes "U: capacity_lower_bound=-1", Negative)
    ∷ (codes "U: capacity_upper_bound=-1", Negative)
    ∷ (codes "U: fix_cost=-1", Negative)
    ∷ (codes "U: investment_fix_cost=-1", Negative)
    ∷ []

units_told : Told (codes "operating_units:") unit_rows
unfolding unit_rows
units_told = refl

rates_rows : List (List ℕ × TextKind)
rates_rows =
    (codes "U:", UnknownSection)
    ∷ (codes "9:", BadLine)
    ∷ (codes "9: A", BadLine)
    ∷ (codes "U A => P", BadLine)
    ∷ (codes "U: A", BadLine)
    ∷ (codes "U: A =", BadLine)
    ∷ (codes "U: A=>P", BadLine)
    ∷ (codes "U: A => B => P", BadLine)
    ∷ (codes "U: + => P", BadLine)
    ∷ (codes "U: A + => P", BadLine)
    ∷ (codes "U: A + + B => P", BadLine)
    ∷ (codes "U: 9 + A B C => P", BadLine)
    ∷ (codes "U: => 1 2 B", BadLine)
    ∷ (codes "U: A : B => P", BadLine)
    ∷ (codes "U V: A => P", BadName)
    ∷ (codes "U => V: A => P", BadName)
    ∷ (codes ": A => P", BadName)
    ∷ (codes "U: 5 => P", BadName)
    ∷ (codes "U: 5 5 => P", BadName)
    ∷ (codes "U: A: => P", BadName)
    ∷ (codes "U: A+B => P", BadName)
    ∷ (codes "U: A, => P", BadName)
    ∷ (codes "U: A B => P", BadNumber)
    ∷ (codes "U: 1e-7 A => P", TooFine)
    ∷ (codes "U: 1e10 A => P", TooLarge)
    ∷ (codes "U: -1 A => P", Negative)
    ∷ (codes "U: 0 A => P", ZeroRate)
    ∷ (codes "U: -0 A => P", ZeroRate)
    ∷ (codes "U: 0 A =>", ZeroRate)
    ∷ (codes "U: A + 2 A => P", DoubleTerm)
    ∷ (codes "U: A => P + P", DoubleTerm)
    ∷ (codes "U: A + A =>", DoubleTerm)
    ∷ (codes "U: A + B => P + A", BothSides)
    ∷ (codes "U: A =>", EmptySide)
    ∷ (codes "U: => P", EmptySide)
    ∷ (codes "U: =>", EmptySide)
    ∷ (codes "U: 1e+5 A => P", UnknownMaterial)
    ∷ []

rates_told : Told (codes "material_to_operating_unit_flow_rates:") rates_rows
unfolding rates_rows
rates_told = refl

exclusion_rows : List (List ℕ × TextKind)
exclusion_rows =
    (codes "X:", UnknownSection)
    ∷ (codes "9:", BadLine)
    ∷ (codes "X", BadLine)
    ∷ (codes "X: U1,", BadLine)
    ∷ (codes "X: U1, , U2", BadLine)
    ∷ (codes "X Y: U1, U2", BadName)
    ∷ (codes "X: U1, a b", BadName)
    ∷ (codes "X: 9, 9", BadName)
    ∷ (codes "X: U1, U1", DoubleMember)
    ∷ (codes "X: Q, Q", DoubleMember)
    ∷ (codes "X: U1", FewMembers)
    ∷ []

exclusions_told : Told (codes "mutual_exclusions:") exclusion_rows
unfolding exclusion_rows
exclusions_told = refl
