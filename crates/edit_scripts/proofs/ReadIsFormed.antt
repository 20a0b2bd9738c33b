-- What is read of a line without a fault is an edit without a fault of form.
use Rattle.std.proofs.Common.{◌≡◌, ◌<◌, ◌+◌, ◌||◌, ◌==◌, Bool, true, false, ℕ, suc, Option, Some}
use Rattle.std.proofs.Common.{None, List, [], ◌∷◌, map, length, Result, Ok, Err, ℤ, pos, refl}
use Rattle.std.proofs.Common.{subst, ap, ◌∙◌, arith, codes, if◌then◌else◌}
use Rattle.std.specs.List.{list_any}
use Rattle.std.specs.Str.{bytes_eq}
use Rattle.std.proofs.lemmas.Bool.{or_parts, eqb-false}
use Rattle.std.proofs.lemmas.List.{length-map}
use Rattle.text_lines.specs.problem_rules.Each.{Each}
use Rattle.text_lines.specs.problem_rules.Names.{is_among, has_double}
use Rattle.text_lines.specs.problem_rules.Problem.{Kind}
use Rattle.text_lines.specs.problem_rules.WellFormed.{IsInRange, IsBound}
use Rattle.text_lines.specs.edit_rules.Edit.{Edit, price, bounds, kind, capacity, fix, proportional}
use Rattle.text_lines.specs.edit_rules.Edit.{rename_material, rename_unit, add_material, add_unit}
use Rattle.text_lines.specs.edit_rules.Edit.{exclude}
use Rattle.text_lines.specs.edit_rules.Edit.{remove_material, remove_unit, unexclude, investment}
use Rattle.text_lines.specs.edit_rules.Edit.{payout}
use Rattle.text_lines.specs.edit_rules.Edit.{Script}
use Rattle.text_lines.specs.edit_rules.Formed.{IsName, IsFormed, IsFormedTerm, IsFormedSide}
use Rattle.text_lines.specs.edit_rules.Formed.{AreFormedSides}
use Rattle.text_lines.specs.edit_rules.Formed.{AreSignedBounds, AreRising, IsFormedScript, IsPayout}
use Rattle.text_lines.specs.edit_rules.Formed.{term_names}
use Rattle.text_lines.specs.text_rules.Fault.{millionths}
use Rattle.text_lines.specs.edit_rules.declared.EditKind.{EditKind}
use Rattle.text_lines.specs.edit_rules.declared.EditKind.TheVariants as kinds
use Rattle.text_lines.specs.edit_rules.declared.Word.{Word}
use Rattle.text_lines.specs.edit_rules.declared.Word.TheVariants as words
use Rattle.text_lines.specs.text_rules.Value.{kind_of}
use Rattle.text_lines.specs.edit_rules.ScriptFault.{Fault, place_of, years_of, name_fault}
use Rattle.text_lines.specs.edit_rules.ScriptFault.{kind_fault}
use Rattle.text_lines.specs.edit_rules.ScriptFault.{amount_fault, bound_fault, place_fault}
use Rattle.text_lines.specs.edit_rules.ScriptFault.{years_fault}
use Rattle.text_lines.specs.edit_rules.ScriptFault.{names_fault, members_fault}
use Rattle.text_lines.specs.edit_rules.Line.{tokens_of, word_named}
use Rattle.text_lines.specs.edit_rules.Read.{name_read, names_read, kind_read, amount_read}
use Rattle.text_lines.specs.edit_rules.Read.{fixed_read}
use Rattle.text_lines.specs.edit_rules.Read.{bounds_read, costs_read, years_read, material_read}
use Rattle.text_lines.specs.edit_rules.Read.{with_sides}
use Rattle.text_lines.specs.edit_rules.Read.{unit_read, exclusion_read, edit_by, fields_read}
use Rattle.text_lines.specs.edit_rules.Read.{worded_read}
use Rattle.text_lines.specs.edit_rules.Read.{tokens_read, line_read, with_line, lines_read}
use Rattle.text_lines.specs.edit_rules.Term.{Pair, sides_of, term_fault, terms_fault, sides_fault}
use Rattle.text_lines.specs.edit_rules.Term.{materials_of, are_bad_sides, term_read}
use Rattle.edit_scripts.proofs.Clear.{err_not_ok, ok_same, judged_good, both_clear, not_clear}
use Rattle.edit_scripts.proofs.Clear.{name_clear, names_clear, range_of, bound_clear, rate_clear}
use Rattle.edit_scripts.proofs.Clear.{place_clear, years_clear}

name_formed : (fields : List (List ℕ)) (value : List ℕ) → name_read fields ≡ Ok value
    → IsName value
name_formed [] value e = absurd (err_not_ok _ value e)
name_formed (x0 ∷ []) value e =
    judged_good (name_fault x0 ∷ []) x0 value (λ (v : List ℕ). IsName v) e
    (λ clear. name_clear x0 clear.0)
name_formed (x0 ∷ x1 ∷ xs) value e = absurd (err_not_ok _ value e)

names_formed : (fields : List (List ℕ)) (value : List ℕ × List ℕ) → names_read fields ≡ Ok value
    → IsName value.0 × IsName value.1
names_formed [] value e = absurd (err_not_ok _ value e)
names_formed (x0 ∷ []) value e = absurd (err_not_ok _ value e)
names_formed (x0 ∷ x1 ∷ []) value e =
    judged_good (name_fault x0 ∷ name_fault x1 ∷ []) (x0, x1) value
    (λ (v : List ℕ × List ℕ). IsName v.0 × IsName v.1) e
    (λ clear. (name_clear x0 clear.0, name_clear x1 clear.1.0))
names_formed (x0 ∷ x1 ∷ x2 ∷ xs) value e = absurd (err_not_ok _ value e)

kind_formed : (fields : List (List ℕ)) (value : List ℕ × Kind) → kind_read fields ≡ Ok value
    → IsName value.0
kind_formed [] value e = absurd (err_not_ok _ value e)
kind_formed (x0 ∷ []) value e = absurd (err_not_ok _ value e)
kind_formed (x0 ∷ x1 ∷ []) value e =
    judged_good (name_fault x0 ∷ kind_fault x1 ∷ []) (x0, kind_of x1) value
    (λ (v : List ℕ × Kind). IsName v.0) e
    (λ clear. name_clear x0 clear.0)
kind_formed (x0 ∷ x1 ∷ x2 ∷ xs) value e = absurd (err_not_ok _ value e)

pub amount_formed : (fields : List (List ℕ)) (value : List ℕ × ℤ) → amount_read fields ≡ Ok value
    → IsName value.0 × IsInRange value.1
amount_formed [] value e = absurd (err_not_ok _ value e)
amount_formed (x0 ∷ []) value e = absurd (err_not_ok _ value e)
amount_formed (x0 ∷ x1 ∷ []) value e =
    judged_good (name_fault x0 ∷ amount_fault x1 ∷ []) (x0, millionths x1) value
    (λ (v : List ℕ × ℤ). IsName v.0 × IsInRange v.1) e
    (λ clear. (name_clear x0 clear.0, range_of x1))
amount_formed (x0 ∷ x1 ∷ x2 ∷ xs) value e = absurd (err_not_ok _ value e)

fixed_formed : (fields : List (List ℕ)) (value : List ℕ × ℤ) → fixed_read fields ≡ Ok value
    → IsName value.0 × IsBound value.1
fixed_formed [] value e = absurd (err_not_ok _ value e)
fixed_formed (x0 ∷ []) value e = absurd (err_not_ok _ value e)
fixed_formed (x0 ∷ x1 ∷ []) value e =
    judged_good (name_fault x0 ∷ bound_fault x1 ∷ []) (x0, millionths x1) value
    (λ (v : List ℕ × ℤ). IsName v.0 × IsBound v.1) e
    (λ clear. (name_clear x0 clear.0, bound_clear x1 clear.1.0))
fixed_formed (x0 ∷ x1 ∷ x2 ∷ xs) value e = absurd (err_not_ok _ value e)

pub bounds_formed : (fields : List (List ℕ)) (value : List ℕ × (ℤ × ℤ))
    → bounds_read fields ≡ Ok value → IsName value.0 × AreSignedBounds value.1.0 value.1.1
bounds_formed [] value e = absurd (err_not_ok _ value e)
bounds_formed (x0 ∷ []) value e = absurd (err_not_ok _ value e)
bounds_formed (x0 ∷ x1 ∷ []) value e = absurd (err_not_ok _ value e)
bounds_formed (x0 ∷ x1 ∷ x2 ∷ []) value e =
    judged_good (name_fault x0 ∷ bound_fault x1 ∷ bound_fault x2 ∷ [])
    (x0, (millionths x1, millionths x2)) value
    (λ (v : List ℕ × (ℤ × ℤ)). IsName v.0 × AreSignedBounds v.1.0 v.1.1) e
    (λ clear. (
      name_clear x0 clear.0,
      record {
        lower_bound = bound_clear x1 clear.1.0;
        upper_bound =
            bound_clear x2 clear.1.1.0;
      },
    ))
bounds_formed (x0 ∷ x1 ∷ x2 ∷ x3 ∷ xs) value e = absurd (err_not_ok _ value e)

costs_formed : (fields : List (List ℕ)) (value : List ℕ × (ℤ × ℤ)) → costs_read fields ≡ Ok value
    → IsName value.0 × IsBound value.1.0 × IsInRange value.1.1
costs_formed [] value e = absurd (err_not_ok _ value e)
costs_formed (x0 ∷ []) value e = absurd (err_not_ok _ value e)
costs_formed (x0 ∷ x1 ∷ []) value e = absurd (err_not_ok _ value e)
costs_formed (x0 ∷ x1 ∷ x2 ∷ []) value e =
    judged_good (name_fault x0 ∷ bound_fault x1 ∷ amount_fault x2 ∷ [])
    (x0, (millionths x1, millionths x2)) value
    (λ (v : List ℕ × (ℤ × ℤ)). IsName v.0 × IsBound v.1.0 × IsInRange v.1.1) e
    (λ clear. (name_clear x0 clear.0, bound_clear x1 clear.1.0, range_of x2))
costs_formed (x0 ∷ x1 ∷ x2 ∷ x3 ∷ xs) value e = absurd (err_not_ok _ value e)

years_formed : (fields : List (List ℕ)) (value : ℕ) → years_read fields ≡ Ok value
    → IsPayout (pos value)
years_formed [] value e = absurd (err_not_ok _ value e)
years_formed (x0 ∷ []) value e =
    judged_good (years_fault x0 ∷ []) (years_of x0) value (λ (v : ℕ). IsPayout (pos v)) e
    (λ clear. years_clear x0 clear.0)
years_formed (x0 ∷ x1 ∷ xs) value e = absurd (err_not_ok _ value e)

material_formed : (fields : List (List ℕ)) (value : Edit) → material_read fields ≡ Ok value
    → IsFormed value
material_formed [] value e = absurd (err_not_ok _ value e)
material_formed (x0 ∷ []) value e = absurd (err_not_ok _ value e)
material_formed (x0 ∷ x1 ∷ []) value e = absurd (err_not_ok _ value e)
material_formed (x0 ∷ x1 ∷ x2 ∷ []) value e = absurd (err_not_ok _ value e)
material_formed (x0 ∷ x1 ∷ x2 ∷ x3 ∷ []) value e = absurd (err_not_ok _ value e)
material_formed (x0 ∷ x1 ∷ x2 ∷ x3 ∷ x4 ∷ []) value e = absurd (err_not_ok _ value e)
material_formed (x0 ∷ x1 ∷ x2 ∷ x3 ∷ x4 ∷ x5 ∷ []) value e =
    judged_good
    (place_fault x0 ∷ name_fault x1 ∷ kind_fault x2 ∷ amount_fault x3 ∷ bound_fault x4
    ∷ bound_fault x5 ∷ [])
    (add_material (place_of x0) x1 (kind_of x2) (millionths x3) (millionths x4) (millionths x5))
    value IsFormed e
    (λ clear. record {
      place = place_clear x0;
      named = name_clear x1 clear.1.0;
      price_in_range =
          range_of x3;
      bounds =
          record {
            lower_bound = bound_clear x4 clear.1.1.1.1.0;
            upper_bound =
                bound_clear x5 clear.1.1.1.1.1.0;
          };
    })
material_formed (x0 ∷ x1 ∷ x2 ∷ x3 ∷ x4 ∷ x5 ∷ x6 ∷ xs) value e = absurd (err_not_ok _ value e)

-- sides
names_same : (pairs : List Pair) → term_names (map term_read pairs) ≡ materials_of pairs
names_same [] = refl
names_same (pair ∷ pairs) = ap (λ (names : List (List ℕ)). pair.1 ∷ names) (names_same pairs)

terms_formed : (pairs : List Pair) → terms_fault pairs ≡ None
    → Each IsFormedTerm (map term_read pairs)
terms_formed [] e = tt
terms_formed (pair ∷ pairs) e =
    let here = both_clear (term_fault pair) (terms_fault pairs) e in
    let parts = both_clear _ _ here.0 in (
      record {
        named = name_clear pair.1 parts.1;
        in_range = range_of pair.0;
        positive =
            rate_clear pair.0 parts.0;
      },
      terms_formed pairs here.1,
    )

side_formed : (pairs : List Pair) → terms_fault pairs ≡ None → (length pairs == 0) ≡ false
    → has_double (materials_of pairs) ≡ false → IsFormedSide (map term_read pairs)
side_formed pairs e some once = record {
  some = let n = eqb-false (length pairs) 0 some in let same =
      length-map pairs term_read in omega (arith, n, same);
  terms_formed = terms_formed pairs e;
  once = ap has_double (names_same pairs) ∙ once;
}

sides_formed : (inputs outputs : List Pair) → terms_fault inputs ≡ None
    → terms_fault outputs ≡ None
    → are_bad_sides inputs outputs ≡ false
    → AreFormedSides (map term_read inputs) (map term_read outputs)
sides_formed inputs outputs ins outs good =
    let p1 =
    or_parts
    (length inputs == 0 || length outputs == 0 || has_double (materials_of inputs) || has_double
    (materials_of outputs)) _ good in
    let p2 =
    or_parts (length inputs == 0 || length outputs == 0 || has_double (materials_of inputs)) _
    p1.0 in
    let p3 = or_parts (length inputs == 0 || length outputs == 0) _ p2.0 in
    let p4 = or_parts (length inputs == 0) _ p3.0 in
    record {
      inputs_formed = side_formed inputs ins p4.0 p3.1;
      outputs_formed = side_formed outputs outs p4.1 p2.1;
      apart =
          ap (λ (names : List (List ℕ)). list_any (is_among names)
          (term_names (map term_read inputs))) (names_same outputs)
          ∙ ap (list_any (is_among (materials_of outputs))) (names_same inputs) ∙ p1.1;
    }

sided_formed : (x0 x1 x2 x3 x4 x5 : List ℕ) (sides : Option (List Pair × List Pair)) (edit : Edit)
    → with_sides x0 x1 x2 x3 x4 x5 sides ≡ Ok edit → IsFormed edit
sided_formed x0 x1 x2 x3 x4 x5 None edit e = absurd (err_not_ok _ edit e)
sided_formed x0 x1 x2 x3 x4 x5 (Some (inputs, outputs)) edit e =
    judged_good
    (place_fault x0 ∷ name_fault x1 ∷ bound_fault x2 ∷ bound_fault x3 ∷ bound_fault x4
    ∷ amount_fault x5 ∷ terms_fault inputs ∷ terms_fault outputs ∷ sides_fault inputs outputs
    ∷ [])
    (add_unit (place_of x0) x1 (millionths x2) (millionths x3) (millionths x4) (millionths x5)
    (map term_read inputs) (map term_read outputs)) edit IsFormed e
    (λ clear. record {
      place = place_clear x0;
      named = name_clear x1 clear.1.0;
      bounds =
          record {
            lower_bound = bound_clear x2 clear.1.1.0;
            upper_bound =
                bound_clear x3 clear.1.1.1.0;
          };
      fix_bound = bound_clear x4 clear.1.1.1.1.0;
      proportional_in_range = range_of x5;
      sides =
          sides_formed inputs outputs clear.1.1.1.1.1.1.0 clear.1.1.1.1.1.1.1.0
          (not_clear (are_bad_sides inputs outputs) kinds.BadTerms clear.1.1.1.1.1.1.1.1.0);
    })

unit_formed : (fields : List (List ℕ)) (edit : Edit) → unit_read fields ≡ Ok edit → IsFormed edit
unit_formed [] edit e = absurd (err_not_ok _ edit e)
unit_formed (x0 ∷ []) edit e = absurd (err_not_ok _ edit e)
unit_formed (x0 ∷ x1 ∷ []) edit e = absurd (err_not_ok _ edit e)
unit_formed (x0 ∷ x1 ∷ x2 ∷ []) edit e = absurd (err_not_ok _ edit e)
unit_formed (x0 ∷ x1 ∷ x2 ∷ x3 ∷ []) edit e = absurd (err_not_ok _ edit e)
unit_formed (x0 ∷ x1 ∷ x2 ∷ x3 ∷ x4 ∷ []) edit e = absurd (err_not_ok _ edit e)
unit_formed (x0 ∷ x1 ∷ x2 ∷ x3 ∷ x4 ∷ x5 ∷ []) edit e = absurd (err_not_ok _ edit e)
unit_formed (x0 ∷ x1 ∷ x2 ∷ x3 ∷ x4 ∷ x5 ∷ colon ∷ tokens) edit e =
    by (bytes_eq colon (codes ":")) e where
      by : (b : Bool)
          → (if b then with_sides x0 x1 x2 x3 x4 x5 (sides_of tokens) else Err kinds.BadLine)
          ≡ Ok edit
          → IsFormed edit
      by true e = sided_formed x0 x1 x2 x3 x4 x5 (sides_of tokens) edit e
      by false e = absurd (err_not_ok _ edit e)

exclusion_formed : (fields : List (List ℕ)) (edit : Edit) → exclusion_read fields ≡ Ok edit
    → IsFormed edit
exclusion_formed [] edit e = absurd (err_not_ok _ edit e)
exclusion_formed (x0 ∷ []) edit e = absurd (err_not_ok _ edit e)
exclusion_formed (x0 ∷ x1 ∷ []) edit e = absurd (err_not_ok _ edit e)
exclusion_formed (x0 ∷ x1 ∷ x2 ∷ []) edit e = absurd (err_not_ok _ edit e)
exclusion_formed (x0 ∷ x1 ∷ x2 ∷ x3 ∷ more) edit e =
    let units : List (List ℕ) = x2 ∷ x3 ∷ more in
    judged_good (place_fault x0 ∷ name_fault x1 ∷ names_fault units ∷ members_fault units ∷ [])
    (exclude (place_of x0) x1 units) edit IsFormed e
    (λ clear. record {
      place = place_clear x0;
      named = name_clear x1 clear.1.0;
      members_named =
          names_clear units clear.1.1.0;
      enough = omega arith;
      once =
          not_clear (has_double units) kinds.BadMembers clear.1.1.1.0;
    })

by_formed : {A : Type 0} (edit : A → Edit) (read : Result A EditKind)
    → ((value : A) → read ≡ Ok value → IsFormed (edit value)) → (e : Edit)
    → edit_by edit read ≡ Ok e → IsFormed e
by_formed edit (Ok value) says e same =
    subst IsFormed (ok_same (edit value) e same) (says value refl)
by_formed edit (Err cause) says e same = absurd (err_not_ok cause e same)

fields_formed : (word : Word) (fields : List (List ℕ)) (e : Edit) → fields_read word fields ≡ Ok e
    → IsFormed e
fields_formed words.Price fields e same =
    by_formed (λ read. price read.0 read.1) (amount_read fields) (amount_formed fields) e same
fields_formed words.Bounds fields e same =
    by_formed (λ read. bounds read.0 read.1.0 read.1.1) (bounds_read fields)
    (bounds_formed fields)
    e same
fields_formed words.Kind fields e same =
    by_formed (λ read. kind read.0 read.1) (kind_read fields) (kind_formed fields) e same
fields_formed words.Capacity fields e same =
    by_formed (λ read. capacity read.0 read.1.0 read.1.1) (bounds_read fields)
    (bounds_formed fields) e same
fields_formed words.Fix fields e same =
    by_formed (λ read. fix read.0 read.1) (fixed_read fields) (fixed_formed fields) e same
fields_formed words.Proportional fields e same =
    by_formed (λ read. proportional read.0 read.1) (amount_read fields) (amount_formed fields) e
    same
fields_formed words.RenameMaterial fields e same =
    by_formed (λ read. rename_material read.0 read.1) (names_read fields) (names_formed fields) e
    same
fields_formed words.RenameUnit fields e same =
    by_formed (λ read. rename_unit read.0 read.1) (names_read fields) (names_formed fields) e same
fields_formed words.AddMaterial fields e same = material_formed fields e same
fields_formed words.RemoveMaterial fields e same =
    by_formed (remove_material) (name_read fields) (name_formed fields) e same
fields_formed words.AddUnit fields e same = unit_formed fields e same
fields_formed words.RemoveUnit fields e same =
    by_formed (remove_unit) (name_read fields) (name_formed fields) e same
fields_formed words.Exclude fields e same = exclusion_formed fields e same
fields_formed words.Unexclude fields e same =
    by_formed (unexclude) (name_read fields) (name_formed fields) e same
fields_formed words.Investment fields e same =
    by_formed (λ read. investment read.0 read.1.0 read.1.1) (costs_read fields)
    (costs_formed fields) e same
fields_formed words.Payout fields e same =
    by_formed (λ read. payout (pos read)) (years_read fields) (years_formed fields) e same

worded_formed : (word : Option Word) (fields : List (List ℕ)) (e : Edit)
    → worded_read word fields ≡ Ok e → IsFormed e
worded_formed (Some word) fields e same = fields_formed word fields e same
worded_formed None fields e same = absurd (err_not_ok _ e same)

tokens_formed : (tokens : List (List ℕ)) (e : Edit) → tokens_read tokens ≡ Ok e → IsFormed e
tokens_formed [] e same = absurd (err_not_ok _ e same)
tokens_formed (word ∷ fields) e same = worded_formed (word_named word) fields e same

line_formed : (text : List ℕ) (e : Edit) → line_read text ≡ Ok e → IsFormed e
line_formed text e same = tokens_formed (tokens_of text) e same

-- edits of lines after this one
record AreFormedBehind (low : ℕ) (s : Script) : Type 0 where
  edits_formed : Each IsFormed s.edits
  one_line_each : length s.lines ≡ length s.edits
  rising : AreRising low s.lines

with_formed : (low number : ℕ) (read : Result Edit EditKind) (rest : Result Script Fault)
    → ((e : Edit) → read ≡ Ok e → IsFormed e)
    → ((t : Script) → rest ≡ Ok t → AreFormedBehind number t)
    → low < number → (s : Script) → with_line number read rest ≡ Ok s → AreFormedBehind low s
with_formed low number (Err cause) rest here behind less s same = absurd (err_not_ok _ s same)
with_formed low number (Ok edit) (Err fault) here behind less s same =
    absurd (err_not_ok _ s same)
with_formed low number (Ok edit) (Ok script) here behind less s same =
    let more = behind script refl in
    subst (λ (t : Script). AreFormedBehind low t) (ok_same _ s same)
    (record {
      edits_formed = (here edit refl, more.edits_formed);
      one_line_each =
          ap suc more.one_line_each;
      rising = (less, more.rising);
    })

lines_formed : (low number : ℕ) (texts : List (List ℕ)) → low < number → (s : Script)
    → lines_read number texts ≡ Ok s → AreFormedBehind low s
lines_formed low number [] less s same =
    subst (λ (t : Script). AreFormedBehind low t) (ok_same _ s same)
    (record { edits_formed = tt; one_line_each = refl; rising = tt })
lines_formed low number ([] ∷ texts) less s same =
    lines_formed low (number + 1) texts (omega (arith, less)) s same
lines_formed low number ((c ∷ cs) ∷ texts) less s same =
    with_formed low number (line_read (c ∷ cs)) (lines_read (number + 1) texts)
    (line_formed (c ∷ cs)) (lines_formed number (number + 1) texts (omega arith)) less s same

-- the lines after the first
pub read_formed : (texts : List (List ℕ)) (s : Script) → lines_read 2 texts ≡ Ok s
    → IsFormedScript s
read_formed texts s same =
    let formed = lines_formed 1 2 texts (omega arith) s same in
    record {
      edits_formed = formed.edits_formed;
      one_line_each = formed.one_line_each;
      rising =
          formed.rising;
    }
