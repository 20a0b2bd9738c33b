-- Each kind of fault of form together with its neighbours in the order: of several faults of a line
-- the least number is reported.
use Rattle.std.proofs.Common.{◌++◌, List, [], ◌∷◌, codes, refl, ℕ}
use Rattle.edit_rules.specs.declared.EditKind.{EditKind}
use Rattle.edit_rules.specs.declared.EditKind.TheVariants.{FileType, BadLine, BadName, BadNumber}
use Rattle.edit_rules.specs.declared.EditKind.TheVariants.{TooFine, TooLarge, Sign, BadTerms}
use Rattle.edit_rules.specs.declared.EditKind.TheVariants.{BadMembers}
use Rattle.edit_rules.specs.ScriptFault.{Fault}
use Rattle.edit_rules.proofs.Texts.{text_of, body, Told, First}

-- a bad form
bad_lines : List (List ℕ × EditKind)
bad_lines =
    (codes "x", BadLine) ∷
    (codes "price A", BadLine) ∷
    (codes "price A 1 2", BadLine) ∷
    (codes "price", BadLine) ∷
    (codes "Price A 1", BadLine) ∷
    (codes " price A 1", BadLine) ∷
    (codes "price A 1 ", BadLine) ∷
    (codes "price  A 1", BadLine) ∷
    (codes " ", BadLine) ∷
    (codes "   ", BadLine) ∷
    (codes "kind 9 raw", BadLine) ∷
    (codes "kind A Product", BadLine) ∷
    (codes "kind A", BadLine) ∷
    (codes "exclude 0 X U1", BadLine) ∷
    (codes "exclude 0 X", BadLine) ∷
    (codes "exclude 9x 9 U1", BadLine) ∷
    (codes "exclude 0 X U1 ", BadLine) ∷
    (codes "add_unit 0 U 0 1 0 0 A => B", BadLine) ∷
    (codes "add_unit 0 U 0 1 0 : A => B", BadLine) ∷
    (codes "add_unit 0 U 0 1 0 0 : A B", BadLine) ∷
    (codes "add_unit 0 U 0 1 0 0 : A => B => C", BadLine) ∷
    (codes "add_unit 0 U 0 1 0 0 : + => B", BadLine) ∷
    (codes "add_unit 0 U 0 1 0 0 : A + => B", BadLine) ∷
    (codes "add_unit 0 U 0 1 0 0 : 1 2 A => B", BadLine) ∷
    (codes "add_unit 0 U 0 1 0 0 : A =>  B", BadLine) ∷
    (codes "add_unit 0 U 0 1 0 0 : A => ", BadLine) ∷
    (codes "add_unit x 9 0 1 0 0 : 1 2 9 =>", BadLine) ∷
    (codes "add_material 0 A raw 0 0 0", BadLine) ∷
    (codes "add_material 0 A 0 0 0", BadLine) ∷
    (codes "remove_unit", BadLine) ∷
    (codes "unexclude X Y", BadLine) ∷
    (codes "payout", BadLine) ∷
    (codes "investment U 1", BadLine) ∷
    (codes "price A 1 # 2", BadLine) ∷
    []

bad_lines_told : Told bad_lines
unfolding bad_lines
bad_lines_told = refl

-- bad names
bad_names : List (List ℕ × EditKind)
bad_names =
    (codes "price 9 x", BadName) ∷
    (codes "rename_unit U 9", BadName) ∷
    (codes "rename_material 9 A", BadName) ∷
    (codes "add_material x 9 product 0 0 0", BadName) ∷
    (codes "add_unit x U 0 1 0 0 : 9 => B", BadName) ∷
    (codes "add_unit 0 U 0 1 0 0 : A+B => C", BadName) ∷
    (codes "add_unit 0 U 0 1 0 0 : A : + B => C", BadName) ∷
    (codes "exclude x X U1 9", BadName) ∷
    (codes "remove_unit 9", BadName) ∷
    (codes "unexclude a,b", BadName) ∷
    (codes "investment 9 x 1", BadName) ∷
    (codes "fix A: 1", BadName) ∷
    (codes "remove_unit #U", BadName) ∷
    []

bad_names_told : Told bad_names
unfolding bad_names
bad_names_told = refl

-- bad numbers, places or years
bad_numbers : List (List ℕ × EditKind)
bad_numbers =
    (codes "price A 1e1000", BadNumber) ∷
    (codes "bounds A 0.0000001 x", BadNumber) ∷
    (codes "add_material 01 A product 0 0 0", BadNumber) ∷
    (codes "add_material 4294967296 A product 0 0 0", BadNumber) ∷
    (codes "exclude -1 X U1 U1", BadNumber) ∷
    (codes "add_unit +1 U 0 1 0 0 : A => B", BadNumber) ∷
    (codes "payout 0", BadNumber) ∷
    (codes "payout 101", BadNumber) ∷
    (codes "payout 01", BadNumber) ∷
    (codes "payout 1.0", BadNumber) ∷
    (codes "payout 1e1", BadNumber) ∷
    (codes "payout -1", BadNumber) ∷
    (codes "add_unit 0 U 0 1 0 0 : x A => B", BadNumber) ∷
    (codes "capacity U 1e10 x", BadNumber) ∷
    []

bad_numbers_told : Told bad_numbers
unfolding bad_numbers
bad_numbers_told = refl

-- too fine
too_fine : List (List ℕ × EditKind)
too_fine =
    (codes "price A 1000000000.0000001", TooFine) ∷
    (codes "bounds A 1e10 0.0000001", TooFine) ∷
    []

too_fine_told : Told too_fine
unfolding too_fine
too_fine_told = refl

-- too large
too_large : List (List ℕ × EditKind)
too_large =
    (codes "price A 1e10", TooLarge) ∷
    (codes "fix U -1e10", TooLarge) ∷
    (codes "bounds A -1 1e10", TooLarge) ∷
    (codes "add_unit 0 U 0 1 -1 0 : 1e10 A => B", TooLarge) ∷
    []

too_large_told : Told too_large
unfolding too_large
too_large_told = refl

-- below 0
signs : List (List ℕ × EditKind)
signs =
    (codes "bounds A -1 1", Sign) ∷
    (codes "bounds A 0 -1", Sign) ∷
    (codes "capacity U -0.000001 1", Sign) ∷
    (codes "fix U -1", Sign) ∷
    (codes "investment U -1 -1", Sign) ∷
    (codes "add_unit 0 U 0 1 -1 0 : A => A", Sign) ∷
    (codes "add_unit 0 U 0 1 0 0 : -1 A => A", Sign) ∷
    (codes "add_material 0 A product -1 -1 0", Sign) ∷
    []

signs_told : Told signs
unfolding signs
signs_told = refl

-- terms
bad_terms : List (List ℕ × EditKind)
bad_terms =
    (codes "add_unit 0 U6 0 1 0 0 : A => A", BadTerms) ∷
    (codes "add_unit 0 U 0 1 0 0 : A + A => B", BadTerms) ∷
    (codes "add_unit 0 U 0 1 0 0 : A => B + 2 B", BadTerms) ∷
    (codes "add_unit 0 U 0 1 0 0 : 0 A => B", BadTerms) ∷
    (codes "add_unit 0 U 0 1 0 0 : -0 A => B", BadTerms) ∷
    (codes "add_unit 0 U 0 1 0 0 : => B", BadTerms) ∷
    (codes "add_unit 0 U 0 1 0 0 : A =>", BadTerms) ∷
    (codes "add_unit 0 U 0 1 0 0 : =>", BadTerms) ∷
    []

bad_terms_told : Told bad_terms
unfolding bad_terms
bad_terms_told = refl

-- units of an exclusion
bad_members : List (List ℕ × EditKind)
bad_members =
    (codes "exclude 0 X U1 U1", BadMembers) ∷
    (codes "exclude 7 X Q R Q", BadMembers) ∷
    []

bad_members_told : Told bad_members
unfolding bad_members
bad_members_told = refl

-- Whole texts. The fault of the first line is reported, and an empty line and a remark are counted.
-- A carriage return is dropped only at a line's end; neither a byte order mark nor a tab is
-- dropped.
texts : List (List ℕ × Fault)
texts =
    ([], (1, FileType))
    ∷ (10 ∷ body [], (1, FileType))
    ∷ (239 ∷ 187 ∷ 191 ∷ body [], (1, FileType))
    ∷ (codes "# a remark" ++ 10 ∷ body [], (1, FileType))
    ∷ (codes "#file_type=PNS_edits_v1", (1, FileType))
    ∷ (text_of (codes "file_type=PNS_problem_v1" ∷ []), (1, FileType))
    ∷ (text_of (codes "file_type=PNS_edits_v1 " ∷ []), (1, FileType))
    ∷ (body ([] ∷ [] ∷ codes "x" ∷ codes "price 9 x" ∷ []), (4, BadLine))
    ∷ (
      body (codes "# a remark" ∷ (32 ∷ 9 ∷ codes "#") ∷ codes "x" ∷ codes "price 9 x" ∷ []),
      (4, BadLine),
    )
    ∷ (body ((13 ∷ codes "# a remark") ∷ []), (2, BadLine))
    ∷ (body (codes "exclude 0 X U1 U1" ∷ codes "x" ∷ []), (2, BadMembers))
    ∷ (body (codes "payout 0" ∷ codes "x" ∷ []), (2, BadNumber))
    ∷ (body [] ++ codes "remove_unit 9", (2, BadName))
    ∷ (
      body ((codes "remove_unit U" ++ 13 ∷ []) ∷ (codes "remove_unit U" ++ 13 ∷ 13 ∷ []) ∷ []),
      (3, BadName),
    )
    ∷ (body ((9 ∷ []) ∷ []), (2, BadLine))
    ∷ (body ((codes "payout" ++ 9 ∷ codes "1") ∷ []), (2, BadLine))
    ∷ []

texts_first : First texts
unfolding texts
texts_first = refl
