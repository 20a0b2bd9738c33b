-- The records of two tables as lines.
use Rattle.std.proofs.Common.{◌≡◌, ◌++◌, ◌∷◌, [], ℕ, List, refl, sym, ap, ◌∙◌, append_assoc, map}
use Rattle.std.specs.Prelude.{if◌then◌else◌}
use Rattle.csv.specs.Writing.{default_writer, row_text, row_body, is_blank, quote_mark}
use Rattle.verdicts.specs.problem_rules.Problem.{Problem}
use Rattle.verdicts.specs.tree_rules.Claim.{Network}
use Rattle.verdicts.specs.report_rules.Table.{AreUnitRows, AreMaterialRows, unit_heading}
use Rattle.verdicts.specs.report_rules.Table.{material_heading}
use Rattle.verdicts.specs.report_rules.Table.{records_text}
use Rattle.command_files.specs.studio_rules.Lines.{line, text_of}
use Rattle.command_files.specs.studio_rules.Table.{AreTables}

-- a record without its line feed
abbrev record_line : List (List ℕ) → List ℕ
record_line fields = row_body default_writer fields
    ++ (if is_blank default_writer fields then quote_mark ∷ quote_mark ∷ [] else [])

line_is : (fields : List (List ℕ)) → line (record_line fields) ≡ row_text default_writer fields
line_is fields =
    append_assoc (row_body default_writer fields)
    (if is_blank default_writer fields then quote_mark ∷ quote_mark ∷ [] else []) (10 ∷ [])

map-append : {X Y : Type 0} (f : X → Y) (xs ys : List X) → map f (xs ++ ys) ≡ map f xs ++ map f ys
map-append f [] ys = refl
map-append f (x ∷ xs) ys = ap (λ zs. f x ∷ zs) (map-append f xs ys)

lines_are : (rows : List (List (List ℕ)))
    → map line (map record_line rows) ≡ map (row_text default_writer) rows
lines_are [] = refl
lines_are (row ∷ rows) = λ i. line_is row i ∷ lines_are rows i

text_is : (rows : List (List (List ℕ))) → text_of (map record_line rows) ≡ records_text rows
text_is [] = refl
text_is (row ∷ rows) = λ i. line_is row i ++ text_is rows i

text-append : (xs ys : List (List ℕ)) → text_of (xs ++ ys) ≡ text_of xs ++ text_of ys
text-append [] ys = refl
text-append (x ∷ xs) ys = ap (λ t. line x ++ t) (text-append xs ys)
    ∙ sym (append_assoc (line x) (text_of xs) (text_of ys))

pub tables_told : (p : Problem) (w : Network) (units materials : List (List (List ℕ)))
    → AreUnitRows p w units → AreMaterialRows p w materials
    → (bytes : List ℕ) → bytes ≡ (records_text (unit_heading ∷ units) ++ 10 ∷ [])
    ++ records_text (material_heading ∷ materials)
    → (lines : List (List ℕ)) × AreTables p w lines × (bytes ≡ text_of lines)
tables_told p w units materials us ms bytes e = (
  all,
  record {
    units = units;
    materials = materials;
    unit_rows = us;
    material_rows = ms;
    lines_are = map-append line above ([] ∷ below)
        ∙ (λ i. lines_are (unit_heading ∷ units) i ++ line []
        ∷ lines_are (material_heading ∷ materials) i);
  },
  e ∙ append_assoc (records_text (unit_heading ∷ units)) (10 ∷ [])
      (records_text (material_heading ∷ materials)) ∙ sym text,
)
  where
    above : List (List ℕ)
    above = map record_line (unit_heading ∷ units)

    below : List (List ℕ)
    below = map record_line (material_heading ∷ materials)

    all : List (List ℕ)
    all = above ++ [] ∷ below

    text : text_of all ≡ records_text (unit_heading ∷ units) ++ 10
        ∷ records_text (material_heading ∷ materials)
    text = text-append above ([] ∷ below)
        ∙ (λ i. text_is (unit_heading ∷ units) i ++ 10 ∷ text_is (material_heading ∷ materials) i)
