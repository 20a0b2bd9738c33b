-- Fields that are appended one after another make the line of an edit.
use Rattle.std.proofs.Common.{◌≡◌, ◌<◌, ◌-◌, take, arith, ℕ, List, [], ◌∷◌, ◌++◌, codes, length}
use Rattle.std.proofs.Common.{drop, get_or, refl, sym, ap, ◌∙◌, append_assoc, append-nil}
use Rattle.std.proofs.lemmas.List.{take_all}
use Rattle.std.proofs.lemmas.List.Sums.{fold-append}
use Rattle.text_lines.specs.edit_rules.Edit.{NamedTerm, Edit, price, bounds, kind, capacity, fix}
use Rattle.text_lines.specs.edit_rules.Edit.{proportional}
use Rattle.text_lines.specs.edit_rules.Edit.{rename_material, rename_unit, add_material}
use Rattle.text_lines.specs.edit_rules.Edit.{remove_material}
use Rattle.text_lines.specs.edit_rules.Edit.{add_unit, remove_unit, exclude, unexclude, investment}
use Rattle.text_lines.specs.edit_rules.Edit.{payout}
use Rattle.text_lines.specs.text_rules.Canonical.{joined}
use Rattle.text_lines.specs.edit_rules.Printed.{term_tokens, side_tokens, fields_of}
use Rattle.edit_scripts.specs.Printing.{appended, further_terms, head_of, amounts_of, tail_of}

-- after a word, joined by spaces
line_appended : (text word : List ℕ) (fields : List (List ℕ))
    → appended (text ++ word) fields ≡ text ++ joined 32 (word ∷ fields)
line_appended text word [] = refl
line_appended text word (field ∷ fields) =
    ap (λ (t : List ℕ). appended t fields) (append_assoc text word (32 ∷ field))
    ∙ ap (λ (t : List ℕ). appended t fields)
    (ap (λ (t : List ℕ). text ++ t) (sym (append_assoc word (32 ∷ []) field))
    ∙ sym (append_assoc text (word ++ 32 ∷ []) field))
    ∙ line_appended (text ++ (word ++ 32 ∷ [])) field fields
    ∙ append_assoc text (word ++ 32 ∷ []) (joined 32 (field ∷ fields))
    ∙ ap (λ (t : List ℕ). text ++ t) (append_assoc word (32 ∷ []) (joined 32 (field ∷ fields)))

-- the fields of an edit are its place, names and kind, then its amounts, then the rest
columns : (text : List ℕ) (edit : Edit)
    → appended (appended (appended text (head_of edit)) (amounts_of edit)) (tail_of edit)
    ≡ appended text (fields_of edit)
columns text (price material value) = refl
columns text (bounds material lower upper) = refl
columns text (kind material k) = refl
columns text (capacity unit lower upper) = refl
columns text (fix unit value) = refl
columns text (proportional unit value) = refl
columns text (rename_material old new) = refl
columns text (rename_unit old new) = refl
columns text (add_material at name k value lower upper) = refl
columns text (remove_material material) = refl
columns text (add_unit at name lower upper fixed per_size inputs outputs) = refl
columns text (remove_unit unit) = refl
columns text (exclude at name units) = refl
columns text (unexclude name) = refl
columns text (investment unit fixed per_size) = refl
columns text (payout years) = refl

pub line_of : (text word : List ℕ) (edit : Edit)
    → appended (appended (appended (text ++ word) (head_of edit)) (amounts_of edit)) (tail_of edit)
    ≡ text ++ joined 32 (word ∷ fields_of edit)
line_of text word edit = columns (text ++ word) edit ∙ line_appended text word (fields_of edit)

-- two sides, one after the other
pub two_sides : (text : List ℕ) (ins outs : List (List ℕ))
    → appended (appended (appended (appended text (codes ":" ∷ [])) ins) (codes "=>" ∷ [])) outs
    ≡ appended text (codes ":" ∷ ins ++ codes "=>" ∷ outs)
two_sides text ins outs =
    sym (fold-append (λ text field. text ++ 32 ∷ field) (appended text (codes ":" ∷ [])) ins
    (codes "=>" ∷ outs))

-- a side is its first term and the further ones
pub side_is : (t : NamedTerm) (ts : List NamedTerm)
    → side_tokens (t ∷ ts) ≡ term_tokens t ++ further_terms ts
side_is t [] = sym (append-nil (term_tokens t))
side_is t (next ∷ ts) =
    ap (λ (rest : List (List ℕ)). term_tokens t ++ codes "+" ∷ rest) (side_is next ts)

-- a side from its first term on
pub side_of_terms : (terms : List NamedTerm) (t d : NamedTerm) (text : List ℕ) → 0 < length terms
    → t ≡ get_or terms 0 d
    → appended (appended text (term_tokens t))
    (further_terms (take (length terms - 1) (drop 1 terms))) ≡ appended text (side_tokens terms)
side_of_terms [] t d text some is = absurd (omega arith)
side_of_terms (first ∷ rest) t d text some is =
    ap (λ (u : NamedTerm). appended (appended text (term_tokens u))
    (further_terms (take (length (first ∷ rest) - 1) rest))) is
    ∙ ap (λ (ts : List NamedTerm). appended (appended text (term_tokens first)) (further_terms ts))
    (take_all (length (first ∷ rest) - 1) rest (omega arith))
    ∙ sym
    (fold-append (λ text field. text ++ 32 ∷ field) text (term_tokens first)
    (further_terms rest))
    ∙ ap (appended text) (sym (side_is first rest))
