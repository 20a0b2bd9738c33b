-- Scripts without a fault, and what is printed of them: each form of a line, and numbers in several
-- spellings.
use Rattle.std.proofs.Common.{◌≡◌, ◌++◌, ℕ, List, [], ◌∷◌, codes, refl, Ok, pos, negsuc}
use Rattle.std.specs.Fmt.{digits}
use Rattle.text_rules.specs.problem_rules.Problem.{raw_material, product}
use Rattle.text_rules.specs.problem_rules.Problem as problem
use Rattle.edit_rules.specs.Edit.{Edit, price, bounds, kind, capacity, fix, proportional}
use Rattle.edit_rules.specs.Edit.{rename_material, rename_unit, add_material, remove_material}
use Rattle.edit_rules.specs.Edit.{add_unit, remove_unit, exclude, unexclude, investment, payout}
use Rattle.edit_rules.specs.Formed.{script_of}
use Rattle.edit_rules.specs.Printed.{script_text}
use Rattle.edit_rules.specs.Read.{read_script}
use Rattle.edit_rules.proofs.Texts.{body, Reads, Prints}

-- one line of each form, as it is printed
forms : List (List ℕ × Edit)
forms =
    (codes "price A -2.5", price (codes "A") (negsuc 2499999))
    ∷ (codes "bounds A 0 1000000000", bounds (codes "A") (pos 0) (pos 1000000000000000))
    ∷ (codes "kind A raw_material", kind (codes "A") raw_material)
    ∷ (codes "kind A intermediate", kind (codes "A") problem.intermediate)
    ∷ (codes "capacity U 5 4", capacity (codes "U") (pos 5000000) (pos 4000000))
    ∷ (codes "fix U 0.000001", fix (codes "U") (pos 1))
    ∷ (codes "proportional U -1", proportional (codes "U") (negsuc 999999))
    ∷ (codes "rename_material A A", rename_material (codes "A") (codes "A"))
    ∷ (codes "rename_unit U V", rename_unit (codes "U") (codes "V"))
    ∷ (
      codes "add_material 4294967295 A product 1 2 3",
      add_material 4294967295 (codes "A") product (pos 1000000) (pos 2000000) (pos 3000000),
    )
    ∷ (codes "remove_material A", remove_material (codes "A"))
    ∷ (
      codes "add_unit 1 U2 0 100 1 1 : B => C",
      add_unit 1 (codes "U2") (pos 0) (pos 100000000) (pos 1000000) (pos 1000000)
          (record { name = codes "B"; rate = pos 1000000 } ∷ [])
          (record { name = codes "C"; rate = pos 1000000 } ∷ []),
    )
    ∷ (
      codes "add_unit 0 U 0 1 0 -7 : 2 A + B => 0.5 C",
      add_unit 0 (codes "U") (pos 0) (pos 1000000) (pos 0) (negsuc 6999999)
          (record { name = codes "A"; rate = pos 2000000 }
          ∷ record { name = codes "B"; rate = pos 1000000 } ∷ [])
          (record { name = codes "C"; rate = pos 500000 } ∷ []),
    )
    ∷ (codes "remove_unit U2", remove_unit (codes "U2"))
    ∷ (
      codes "exclude 10 X U2 U1 U3",
      exclude 10 (codes "X") (codes "U2" ∷ codes "U1" ∷ codes "U3" ∷ []),
    )
    ∷ (codes "unexclude X", unexclude (codes "X"))
    ∷ (codes "investment U 100 10", investment (codes "U") (pos 100000000) (pos 10000000))
    ∷ (codes "payout 100", payout (pos 100))
    ∷ []

forms_read : Reads forms
unfolding forms
forms_read = refl

forms_printed : Prints forms
unfolding forms digits
forms_printed = refl

-- other spellings
spellings : List (List ℕ × Edit)
spellings =
    (codes "price A +1e-6", price (codes "A") (pos 1))
    ∷ (codes "price A -0", price (codes "A") (pos 0))
    ∷ (codes "price A 002.50", price (codes "A") (pos 2500000))
    ∷ (codes "bounds A -0 .5", bounds (codes "A") (pos 0) (pos 500000))
    ∷ (
      codes "add_unit 0 U 0 1 0 0 : 1 A => 1.0 B",
      add_unit 0 (codes "U") (pos 0) (pos 1000000) (pos 0) (pos 0)
          (record { name = codes "A"; rate = pos 1000000 } ∷ [])
          (record { name = codes "B"; rate = pos 1000000 } ∷ []),
    )
    ∷ (codes "price price 1", price (codes "price") (pos 1000000))
    ∷ []

spellings_read : Reads spellings
unfolding spellings
spellings_read = refl

-- lines with carriage returns, empty lines between, and a last line without its line feed
apart : List ℕ
apart = codes "file_type=PNS_edits_v1" ++ 13 ∷ 10 ∷ 13 ∷ 10 ∷ codes "remove_unit U" ++ 13 ∷ 10 ∷ 10
    ∷ codes "payout 2"

apart_read : read_script apart
    ≡ Ok (record { edits = remove_unit (codes "U") ∷ payout (pos 2) ∷ []; lines = 3 ∷ 5 ∷ [] })
unfolding apart
apart_read = refl

-- remarks: one has blanks before it, and one is a line that would be an edit without its sign
remarked : List ℕ
remarked =
    body (codes "# a remark" ∷ codes "remove_unit U" ∷ (32 ∷ 9 ∷ codes "# 2") ∷ codes "#payout 3"
    ∷ (codes "payout 2" ++ 13 ∷ []) ∷ (35 ∷ 13 ∷ []) ∷ [])

remarked_read : read_script remarked
    ≡ Ok (record { edits = remove_unit (codes "U") ∷ payout (pos 2) ∷ []; lines = 3 ∷ 6 ∷ [] })
unfolding remarked
remarked_read = refl

-- the first line alone
nothing_read : read_script (codes "file_type=PNS_edits_v1") ≡ Ok (script_of [])
nothing_read = refl

-- a migration over ten years, printed and read back
migration : List Edit
migration =
    payout (pos 10) ∷ fix (codes "U1") (pos 0) ∷ proportional (codes "U1") (pos 0)
    ∷ investment (codes "U1") (pos 100000000) (pos 10000000)
    ∷ fix (codes "U2") (pos 0) ∷ proportional (codes "U2") (pos 0)
    ∷ investment (codes "U2") (pos 10000000) (pos 10000000)
    ∷ fix (codes "U3") (pos 0) ∷ proportional (codes "U3") (pos 0)
    ∷ investment (codes "U3") (pos 50000000) (pos 0) ∷ []

migration_lines : List (List ℕ)
migration_lines =
    codes "payout 10" ∷ codes "fix U1 0" ∷ codes "proportional U1 0" ∷ codes "investment U1 100 10"
    ∷ codes "fix U2 0" ∷ codes "proportional U2 0"
    ∷ codes "investment U2 10 10" ∷ codes "fix U3 0" ∷ codes "proportional U3 0"
    ∷ codes "investment U3 50 0" ∷ []

migration_read : read_script (body migration_lines) ≡ Ok (script_of migration)
unfolding migration migration_lines
migration_read = refl

migration_printed : script_text migration ≡ body migration_lines
unfolding migration migration_lines digits
migration_printed = refl
