-- Units of measure of texts, and headings with and without them.
use Rattle.std.proofs.Common.{◌≡◌, ◌++◌, ℕ, List, [], ◌∷◌, Option, Some, None, flat_map, codes}
use Rattle.std.proofs.Common.{refl}
use Rattle.std.specs.Prelude.{replicate}
use Rattle.report_rules.specs.Measures.{Measures, measure_of, measures_of}
use Rattle.report_rules.specs.Measures.{price_measure}
use Rattle.report_rules.specs.Ranked.{ranking_heading}
use Rattle.report_rules.specs.Report.{time_line, unit_heading, material_heading, money_heading}

-- each line with its line feed, after the first line
text_of : List (List ℕ) → List ℕ
text_of lines = flat_map (λ line. line ++ 10 ∷ []) (codes "file_type=PNS_problem_v1" ∷ lines)

money_of : List (List ℕ) → Option (List ℕ)
money_of lines = measure_of (codes "money_unit") (text_of lines)

abbrev none : Measures
none = record { money = None; mass = None; time = None }

abbrev some : Measures
some = record {
  money = Some (codes "kEUR");
  mass = Some (codes "t");
  time = Some (codes "month");
}

-- ---- texts

in_section : measures_of (text_of (codes "file_name=a" ∷ codes "measurement_units:"
    ∷ codes "energy_unit=GWh" ∷ codes "mass_unit = t" ∷ codes "time_unit=month"
    ∷ codes "money_unit=kEUR" ∷ codes "materials:" ∷ codes "A: raw_material" ∷ [])) ≡ some
unfolding text_of
in_section = refl

not_named : measures_of (text_of (codes "materials:" ∷ codes "A: raw_material" ∷ [])) ≡ none
unfolding text_of
not_named = refl

-- the first line with the key counts; one before the first section is one, a remark is none
first_counts : money_of (codes "# money_unit=x" ∷ codes "money_unit=EUR" ∷ codes "defaults:"
    ∷ codes "measurement_units:" ∷ codes "money_unit=USD" ∷ []) ≡ Some (codes "EUR")
unfolding text_of money_of
first_counts = refl

-- lines of other sections name none
elsewhere : money_of (codes "materials:" ∷ codes "money_unit=EUR" ∷ []) ≡ None
unfolding text_of money_of
elsewhere = refl

-- a value that is no unit of measure, though a later line has one: it has a byte that is not
-- printable, no byte, or more than 32
not_printable : money_of ((codes "money_unit=" ++ 226 ∷ 130 ∷ 172 ∷ [])
    ∷ codes "money_unit=EUR" ∷ []) ≡ None
unfolding text_of money_of
not_printable = refl

without_value : money_of (codes "money_unit=" ∷ codes "money_unit=EUR" ∷ []) ≡ None
unfolding text_of money_of
without_value = refl

longest : money_of ((codes "money_unit=" ++ replicate 32 120) ∷ []) ≡ Some (replicate 32 120)
unfolding text_of money_of
longest = refl

too_long : money_of ((codes "money_unit=" ++ replicate 33 120) ∷ []) ≡ None
unfolding text_of money_of
too_long = refl

-- ---- headings

units_named : unit_heading some ≡ codes "unit" ∷ codes "size" ∷ codes "share %" ∷ codes "limit"
    ∷ codes "fixed [kEUR]" ∷ codes "proportional [kEUR]" ∷ codes "investment [kEUR]"
    ∷ codes "total [kEUR]" ∷ codes "marginal [kEUR]" ∷ []
units_named = refl

materials_named : material_heading some ≡ codes "material" ∷ codes "kind" ∷ codes "made [t]"
    ∷ codes "used [t]" ∷ codes "net [t]" ∷ codes "limit" ∷ codes "price [kEUR/t]"
    ∷ codes "cost [kEUR]" ∷ codes "marginal [kEUR/t]" ∷ []
materials_named = refl

money_named : money_heading some ≡ codes "in 1 month" ∷ codes "money [kEUR]" ∷ []
money_named = refl

ranking_named : ranking_heading some ≡ codes "place" ∷ codes "cost [kEUR]" ∷ codes "above [kEUR]"
    ∷ codes "above %" ∷ codes "change" ∷ codes "idle" ∷ []
ranking_named = refl

time_named : time_line some ≡ codes "Money is for 1 month: costs are above 0, incomes below."
time_named = refl

-- a price of what has no unit of measure, and one in no money
price_of_any : price_measure (Some (codes "kEUR")) None ≡ Some (codes "kEUR")
price_of_any = refl

price_in_none : price_measure None (Some (codes "t")) ≡ None
price_in_none = refl

-- without units of measure the words are alone
units_plain : unit_heading none ≡ codes "unit" ∷ codes "size" ∷ codes "share %" ∷ codes "limit"
    ∷ codes "fixed" ∷ codes "proportional" ∷ codes "investment" ∷ codes "total"
    ∷ codes "marginal" ∷ []
units_plain = refl

materials_plain : material_heading none ≡ codes "material" ∷ codes "kind" ∷ codes "made"
    ∷ codes "used" ∷ codes "net" ∷ codes "limit" ∷ codes "price" ∷ codes "cost"
    ∷ codes "marginal" ∷ []
materials_plain = refl

money_plain : money_heading none ≡ codes "in one year" ∷ codes "money" ∷ []
money_plain = refl

ranking_plain : ranking_heading none ≡ codes "place" ∷ codes "cost" ∷ codes "above"
    ∷ codes "above %" ∷ codes "change" ∷ codes "idle" ∷ []
ranking_plain = refl

time_plain : time_line none ≡ codes "Money is for one year: costs are above 0, incomes below."
time_plain = refl
