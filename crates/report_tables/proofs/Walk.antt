-- Steps along columns and spaces.
use Rattle.std.proofs.Common.{◌≡◌, ℕ, zero, suc, ◌+◌, ◌-◌, ◌<◌, Bool, List, [], ◌∷◌, ◌++◌, drop}
use Rattle.std.proofs.Common.{length, get_or, refl, sym, ap, ◌∙◌, append_assoc, arith}
use Rattle.std.proofs.lemmas.List.{drop_more}
use Rattle.report_amounts.specs.report_rules.declared.column.Sort.{Sort}
use Rattle.report_amounts.specs.report_rules.Aligned.{spaces, cell_at, Column, column_at}
use Rattle.report_amounts.specs.report_rules.Aligned.{columns_from, cell_text}
use Rattle.report_amounts.specs.report_rules.Aligned.{gap_behind, line_text}

pub next_space : (n : ℕ) → 0 < n → spaces n ≡ 32 ∷ spaces (n - 1)
next_space zero h = absurd (omega arith)
next_space (suc n) h = let e : suc n - 1 ≡ n = omega arith in rw e refl

-- a space more
pub space_more : (text new whole : List ℕ) (n : ℕ) → 0 < n → new ≡ text ++ 32 ∷ []
    → text ++ spaces n ≡ whole → new ++ spaces (n - 1) ≡ whole
space_more text new whole n h e f =
    ap (λ (t : List ℕ). t ++ spaces (n - 1)) e ∙ append_assoc text (32 ∷ []) (spaces (n - 1))
    ∙ ap (λ (t : List ℕ). text ++ t) (sym (next_space n h)) ∙ f

-- a column more
pub column_more : (sorts : List Sort) (k : ℕ) (s : Sort) (heading : List (List ℕ))
    (rows : List (List (List ℕ))) (some new whole : List Column) → k < length sorts
    → s ≡ get_or sorts k s
    → new ≡ some ++ column_at s k heading rows ∷ []
    → some ++ columns_from k (drop k sorts) heading rows ≡ whole
    → new ++ columns_from (k + 1) (drop (k + 1) sorts) heading rows ≡ whole
column_more sorts k s heading rows some new whole less is e f =
    let rest = columns_from (k + 1) (drop (k + 1) sorts) heading rows in
    ap (λ (cs : List Column). cs ++ rest) e
    ∙ append_assoc some (column_at s k heading rows ∷ []) rest
    ∙ ap (λ (ss : List Sort). some ++ columns_from k ss heading rows)
    (sym (drop_more sorts k s less ∙ ap (λ (t : Sort). t ∷ drop (k + 1) sorts) (sym is))) ∙ f

-- a cell more
pub cell_more : (heading : Bool) (columns : List Column) (k : ℕ) (c : Column) (row : List (List ℕ))
    (text new gap gap' whole : List ℕ) → k < length columns → c ≡ get_or columns k c
    → new ≡ text ++ cell_text heading c gap (cell_at k row)
    → gap' ≡ gap_behind heading c gap (cell_at k row)
    → text ++ line_text heading k gap (drop k columns) row ≡ whole
    → new ++ line_text heading (k + 1) gap' (drop (k + 1) columns) row ≡ whole
cell_more heading columns k c row text new gap gap' whole less is en eg h =
    let cell = cell_at k row in
    let cs = drop (k + 1) columns in
    let rest = line_text heading (k + 1) (gap_behind heading c gap cell) cs row in
    (λ i. en i ++ line_text heading (k + 1) (eg i) cs row)
    ∙ append_assoc text (cell_text heading c gap cell) rest
    ∙ ap (λ (ds : List Column). text ++ line_text heading k gap ds row)
    (sym (drop_more columns k c less ∙ ap (λ (d : Column). d ∷ cs) (sym is))) ∙ h
