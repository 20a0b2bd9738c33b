-- The tokens after a line's first token, by their number.
use Rattle.std.proofs.Common.{◌≡◌, ◌≤◌, ◌<◌, ◌-◌, ◌||◌, Bool, ℕ, true, false, not, nat_lt, List, []}
use Rattle.std.proofs.Common.{◌∷◌, length, take, drop, get_or, Option, Some, Result, Err, codes}
use Rattle.std.proofs.Common.{refl, ap, sym, ◌∙◌, arith}
use Rattle.std.proofs.lemmas.Bool.{cond-true, ltb-true}
use Rattle.std.specs.Str.{bytes_eq}
use Rattle.std.proofs.lemmas.List.{take_all}
use Rattle.std.specs.Borrow.{Bor}
use Rattle.text_lines.specs.View.{texts}
use Rattle.text_lines.specs.edit_rules.declared.EditKind.TheVariants.{BadLine}
use Rattle.text_lines.specs.edit_rules.declared.EditKind.{EditKind}
use Rattle.text_lines.specs.edit_rules.Edit.{Edit, exclude}
use Rattle.text_lines.specs.edit_rules.ScriptFault.{least, place_of, place_fault, name_fault}
use Rattle.text_lines.specs.edit_rules.ScriptFault.{names_fault}
use Rattle.text_lines.specs.edit_rules.ScriptFault.{members_fault}
use Rattle.text_lines.specs.edit_rules.Term.{Pair, sides_of}
use Rattle.text_lines.specs.edit_rules.Read.{told, judged, material_read, with_sides, unit_read}
use Rattle.text_lines.specs.edit_rules.Read.{exclusion_read}

-- the token at a place, without its address
abbrev at : List (Bor (List ℕ)) → ℕ → List ℕ
at xs i = (get_or xs i (record { ref_ptr = (0, 0); now = [] })).now

-- what is true of fewer or more tokens than two, or than three
pub not_two : (xs : List (Bor (List ℕ))) (P : List (List ℕ) → Type 0)
    → (nat_lt (length xs) 2 || not (nat_lt (length xs) 3)) ≡ true
    → P [] → ((x : List ℕ) → P (x ∷ []))
    → ((x y z : List ℕ) (rest : List (List ℕ)) → P (x ∷ y ∷ z ∷ rest)) → P (texts xs)
not_two [] P other none one more = none
not_two (x ∷ []) P other none one more = one x.now
not_two (x ∷ y ∷ []) P other none one more = cc
not_two (x ∷ y ∷ z ∷ xs) P other none one more = more x.now y.now z.now (texts xs)

pub not_three : (xs : List (Bor (List ℕ))) (P : List (List ℕ) → Type 0)
    → (nat_lt (length xs) 3 || not (nat_lt (length xs) 4)) ≡ true
    → P [] → ((x : List ℕ) → P (x ∷ [])) → ((x y : List ℕ) → P (x ∷ y ∷ []))
    → ((x y z u : List ℕ) (rest : List (List ℕ)) → P (x ∷ y ∷ z ∷ u ∷ rest)) → P (texts xs)
not_three [] P other none one two more = none
not_three (x ∷ []) P other none one two more = one x.now
not_three (x ∷ y ∷ []) P other none one two more = two x.now y.now
not_three (x ∷ y ∷ z ∷ []) P other none one two more = cc
not_three (x ∷ y ∷ z ∷ u ∷ xs) P other none one two more = more x.now y.now z.now u.now (texts xs)

-- tokens of which one has a fault
pub refused : {A : Type 0} (found faults : List (Option EditKind)) (value : A) (kind : EditKind)
    → found ≡ faults → least found ≡ Some kind → judged faults value ≡ Err kind
refused found faults value kind same e =
    ap (λ (fault : Option EditKind). told fault value) (ap least (sym same) ∙ e)

pub two : (xs : List (Bor (List ℕ))) → 2 ≤ length xs → length xs < 3
    → texts xs ≡ at xs 0 ∷ at xs 1 ∷ []
two [] least most = absurd (omega arith)
two (x0 ∷ []) least most = absurd (omega arith)
two (x0 ∷ x1 ∷ []) least most = refl
two (x0 ∷ x1 ∷ x2 ∷ xs) least most = absurd (omega arith)

pub three : (xs : List (Bor (List ℕ))) → 3 ≤ length xs → length xs < 4
    → texts xs ≡ at xs 0 ∷ at xs 1 ∷ at xs 2 ∷ []
three [] least most = absurd (omega arith)
three (x0 ∷ []) least most = absurd (omega arith)
three (x0 ∷ x1 ∷ []) least most = absurd (omega arith)
three (x0 ∷ x1 ∷ x2 ∷ []) least most = refl
three (x0 ∷ x1 ∷ x2 ∷ x3 ∷ xs) least most = absurd (omega arith)

pub six : (xs : List (Bor (List ℕ))) → 6 ≤ length xs → length xs < 7
    → texts xs ≡ at xs 0 ∷ at xs 1 ∷ at xs 2 ∷ at xs 3 ∷ at xs 4 ∷ at xs 5 ∷ []
six [] least most = absurd (omega arith)
six (x0 ∷ []) least most = absurd (omega arith)
six (x0 ∷ x1 ∷ []) least most = absurd (omega arith)
six (x0 ∷ x1 ∷ x2 ∷ []) least most = absurd (omega arith)
six (x0 ∷ x1 ∷ x2 ∷ x3 ∷ []) least most = absurd (omega arith)
six (x0 ∷ x1 ∷ x2 ∷ x3 ∷ x4 ∷ []) least most = absurd (omega arith)
six (x0 ∷ x1 ∷ x2 ∷ x3 ∷ x4 ∷ x5 ∷ []) least most = refl
six (x0 ∷ x1 ∷ x2 ∷ x3 ∷ x4 ∷ x5 ∷ x6 ∷ xs) least most = absurd (omega arith)

pub not_material : (xs : List (Bor (List ℕ)))
    → (nat_lt (length xs) 6 || not (nat_lt (length xs) 7)) ≡ true
    → material_read (texts xs) ≡ Err BadLine
not_material [] other = refl
not_material (x0 ∷ []) other = refl
not_material (x0 ∷ x1 ∷ []) other = refl
not_material (x0 ∷ x1 ∷ x2 ∷ []) other = refl
not_material (x0 ∷ x1 ∷ x2 ∷ x3 ∷ []) other = refl
not_material (x0 ∷ x1 ∷ x2 ∷ x3 ∷ x4 ∷ []) other = refl
not_material (x0 ∷ x1 ∷ x2 ∷ x3 ∷ x4 ∷ x5 ∷ []) other = cc
not_material (x0 ∷ x1 ∷ x2 ∷ x3 ∷ x4 ∷ x5 ∷ x6 ∷ xs) other = refl

-- a unit with too few tokens, and the sides after its colon
pub not_unit : (xs : List (Bor (List ℕ))) → nat_lt (length xs) 7 ≡ true
    → unit_read (texts xs) ≡ Err BadLine
not_unit [] few = refl
not_unit (x0 ∷ []) few = refl
not_unit (x0 ∷ x1 ∷ []) few = refl
not_unit (x0 ∷ x1 ∷ x2 ∷ []) few = refl
not_unit (x0 ∷ x1 ∷ x2 ∷ x3 ∷ []) few = refl
not_unit (x0 ∷ x1 ∷ x2 ∷ x3 ∷ x4 ∷ []) few = refl
not_unit (x0 ∷ x1 ∷ x2 ∷ x3 ∷ x4 ∷ x5 ∷ []) few = refl
not_unit (x0 ∷ x1 ∷ x2 ∷ x3 ∷ x4 ∷ x5 ∷ x6 ∷ xs) few = let lt =
    ltb-true (length (x0 ∷ x1 ∷ x2 ∷ x3 ∷ x4 ∷ x5 ∷ x6 ∷ xs)) 7 few in absurd (omega arith)

pub seven_up : (xs : List (Bor (List ℕ))) → 7 ≤ length xs
    → texts xs ≡ at xs 0 ∷ at xs 1 ∷ at xs 2 ∷ at xs 3 ∷ at xs 4 ∷ at xs 5 ∷ at xs 6
    ∷ texts (take (length xs - 7) (drop 7 xs))
seven_up [] least = absurd (omega arith)
seven_up (x0 ∷ []) least = absurd (omega arith)
seven_up (x0 ∷ x1 ∷ []) least = absurd (omega arith)
seven_up (x0 ∷ x1 ∷ x2 ∷ []) least = absurd (omega arith)
seven_up (x0 ∷ x1 ∷ x2 ∷ x3 ∷ []) least = absurd (omega arith)
seven_up (x0 ∷ x1 ∷ x2 ∷ x3 ∷ x4 ∷ []) least = absurd (omega arith)
seven_up (x0 ∷ x1 ∷ x2 ∷ x3 ∷ x4 ∷ x5 ∷ []) least = absurd (omega arith)
seven_up (x0 ∷ x1 ∷ x2 ∷ x3 ∷ x4 ∷ x5 ∷ x6 ∷ xs) least =
    ap (λ (rest : List (Bor (List ℕ))). texts (x0 ∷ x1 ∷ x2 ∷ x3 ∷ x4 ∷ x5 ∷ x6 ∷ rest))
    (sym (take_all (length (x0 ∷ x1 ∷ x2 ∷ x3 ∷ x4 ∷ x5 ∷ x6 ∷ xs) - 7) xs (omega arith)))

abbrev unit_from : List (Bor (List ℕ)) → Option (List Pair × List Pair) → Result Edit EditKind
unit_from xs = with_sides (at xs 0) (at xs 1) (at xs 2) (at xs 3) (at xs 4) (at xs 5)

meets : (b : Bool) → false ≡ not b → b ≡ true
meets true e = refl
meets false e = cc

pub unit_at : (xs : List (Bor (List ℕ))) (sides : List Pair × List Pair) (colon : List ℕ)
    → 7 ≤ length xs → colon ≡ codes ":" → false ≡ not (bytes_eq (at xs 6) colon)
    → sides_of (texts (take (length xs - 7) (drop 7 xs))) ≡ Some sides
    → unit_read (texts xs) ≡ unit_from xs (Some sides)
unit_at xs sides colon least same met is =
    ap unit_read (seven_up xs least)
    ∙ cond-true (bytes_eq (at xs 6) (codes ":"))
    (unit_from xs (sides_of (texts (take (length xs - 7) (drop 7 xs))))) (Err BadLine)
    (ap (bytes_eq (at xs 6)) (sym same) ∙ meets _ met)
    ∙ ap (unit_from xs) is

-- fewer than two units, and two or more
pub not_exclusion : (xs : List (Bor (List ℕ))) → nat_lt (length xs) 4 ≡ true
    → exclusion_read (texts xs) ≡ Err BadLine
not_exclusion [] few = refl
not_exclusion (x0 ∷ []) few = refl
not_exclusion (x0 ∷ x1 ∷ []) few = refl
not_exclusion (x0 ∷ x1 ∷ x2 ∷ []) few = refl
not_exclusion (x0 ∷ x1 ∷ x2 ∷ x3 ∷ xs) few = let lt =
    ltb-true (length (x0 ∷ x1 ∷ x2 ∷ x3 ∷ xs)) 4 few in absurd (omega arith)

abbrev exclusion_from : List ℕ → List ℕ → List (List ℕ) → Result Edit EditKind
exclusion_from place name units =
    judged (place_fault place ∷ name_fault name ∷ names_fault units ∷ members_fault units ∷ [])
    (exclude (place_of place) name units)

pub exclusion_at : (xs : List (Bor (List ℕ))) → 4 ≤ length xs
    → exclusion_read (texts xs)
    ≡ exclusion_from (at xs 0) (at xs 1) (texts (take (length xs - 2) (drop 2 xs)))
exclusion_at [] least = absurd (omega arith)
exclusion_at (x0 ∷ []) least = absurd (omega arith)
exclusion_at (x0 ∷ x1 ∷ []) least = absurd (omega arith)
exclusion_at (x0 ∷ x1 ∷ x2 ∷ []) least = absurd (omega arith)
exclusion_at (x0 ∷ x1 ∷ x2 ∷ x3 ∷ xs) least =
    ap (λ (units : List (Bor (List ℕ))). exclusion_from x0.now x1.now (texts units))
    (sym (take_all (length (x0 ∷ x1 ∷ x2 ∷ x3 ∷ xs) - 2) (x2 ∷ x3 ∷ xs) (omega arith)))
