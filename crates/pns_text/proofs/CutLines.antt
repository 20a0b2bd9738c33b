-- What is read of a line that was split is what the grammar reads of its text.
use Rattle.std.proofs.Common.{◌≡◌, Bool, true, false, ℕ, List, [], ◌∷◌, ◌++◌, map, slice_index_or}
use Rattle.std.proofs.Common.{Some, None, if◌then◌else◌, refl, sym, ◌∙◌, ap, subst, option_map}
use Rattle.std.proofs.Common.{Option, find}
use Rattle.std.proofs.lemmas.Simd.{map-map}
use Rattle.std.specs.Str.{bytes_eq}
use Rattle.text_lines.specs.problem_rules.Problem as rules
use Rattle.text_lines.specs.text_rules.declared.TextKind.{TextKind}
use Rattle.text_lines.specs.text_rules.declared.Section.{Section}
use Rattle.text_lines.specs.text_rules.declared.Section.TheVariants.{Defaults, Materials}
use Rattle.text_lines.specs.text_rules.declared.Section.TheVariants.{OperatingUnits}
use Rattle.text_lines.specs.text_rules.declared.Section.TheVariants.{Rates, Exclusions}
use Rattle.text_lines.specs.text_rules.Line.{Placed, head_of, lines_at}
use Rattle.text_lines.specs.text_rules.Field.{sides_of}
use Rattle.text_lines.specs.text_rules.Term.{Pair, pair_of, has_bad_sides, sides_read, pairs_at}
use Rattle.text_lines.specs.text_rules.Value.{item_fields, Settings, Names, material_kind}
use Rattle.text_lines.specs.text_rules.Value.{unit_kind}
use Rattle.text_lines.specs.text_rules.Value.{rates_kind, exclusion_kind, line_meaning, term_from}
use Rattle.text_lines.specs.text_rules.Value.{both_from}
use Rattle.text_lines.specs.text_rules.Value.{sides_or, sides_named}
use Rattle.text_lines.specs.View.{texts}
use Rattle.text_lines.specs.Terms.{sides_view, term_view, terms_view}
use Rattle.text_lines.specs.declared.term.Sides.{Sides}
use Rattle.text_lines.specs.declared.term.Term.{Term}
use Rattle.pns_text.specs.Walk.{kept_after}
use Rattle.pns_text.specs.Cut.{section_of, IsCutOf, IsCutAt, line_cut}
use Rattle.pns_text.specs.declared.cut.Cut.{Cut}
use Rattle.pns_text.specs.declared.cut.Cut.TheVariants.{Default, Material, OperatingUnit, Flows}
use Rattle.pns_text.specs.declared.cut.Cut.TheVariants.{Exclusion}

are_by : (b : Bool) (found sides : List Pair × List Pair)
    → Some found ≡ (if b then None else Some sides) → found ≡ sides
are_by true found sides e = cc
are_by false found sides e = cc

sides_are : (sides : List (List (List (List ℕ)))) (found : List Pair × List Pair)
    → Some found ≡ sides_read sides
    → found ≡ (map pair_of (slice_index_or sides 0 []), map pair_of (slice_index_or sides 1 []))
sides_are sides found e =
    are_by (has_bad_sides sides) found
    (map pair_of (slice_index_or sides 0 []), map pair_of (slice_index_or sides 1 [])) e

-- the sides of a line of rates
pub sides_cut : (text : List ℕ) (found : List Pair × List Pair)
    → Some found ≡ sides_read (sides_of text) → found ≡ pairs_at text
sides_cut text found e = sides_are (sides_of text) found e

found_sides : (names : List (List ℕ)) (line : Option Placed) (found : List Pair × List Pair)
    → Some found ≡ option_map (λ (line : Placed). pairs_at line.text) line
    → both_from names found ≡ sides_or names line
found_sides names None found e = cc
found_sides names (Some line) found e =
    ap (both_from names) (found_is found (pairs_at line.text) e) where
      found_is : (xs ys : List Pair × List Pair) → Some xs ≡ Some ys → xs ≡ ys
      found_is xs ys e = cc

terms_are : (names : List (List ℕ)) (terms borrowed : List Term) (read : List rules.Term)
    → borrowed ≡ terms → read ≡ map (λ one. term_from names (term_view one)) borrowed
    → read ≡ map (term_from names) (terms_view terms)
terms_are names terms borrowed read same e =
    e ∙ (λ i. map (λ one. term_from names (term_view one)) (same i))
    ∙ sym (map-map (term_from names) term_view terms)

-- the terms of both sides of the line that has the name
pub sides_found : (names : List (List ℕ)) (lines : List Placed) (name : List ℕ) (sides : Sides)
    (left right : List Term) (inputs outputs : List rules.Term)
    → Some (sides_view sides) ≡ option_map (λ (line : Placed). pairs_at line.text)
    (find (λ (line : Placed). bytes_eq (head_of line.text) name) (lines_at Rates lines))
    → left ≡ sides.inputs.items → right ≡ sides.outputs.items
    → inputs ≡ map (λ one. term_from names (term_view one)) left
    → outputs ≡ map (λ one. term_from names (term_view one)) right
    → (inputs, outputs) ≡ sides_named names lines name
sides_found names lines name sides left right inputs outputs found l r i o =
    (λ k. (
      terms_are names sides.inputs.items left inputs l i k,
      terms_are names sides.outputs.items right outputs r o k,
    ))
    ∙ found_sides names
    (find (λ (line : Placed). bytes_eq (head_of line.text) name) (lines_at Rates lines))
    (sides_view sides) found

pub sides_missing : (names : List (List ℕ)) (line : Option Placed)
    → None ≡ option_map (λ (line : Placed). pairs_at line.text) line
    → ([], []) ≡ sides_or names line
sides_missing names None e = refl
sides_missing names (Some line) e = cc

-- the fault of meaning of a line, from its parts
abbrev pub cut_meaning : Settings → Names → List ℕ → Cut → Option TextKind
cut_meaning s names text Default = None
cut_meaning s names text (Material items) = material_kind s (item_fields items.items)
cut_meaning s names text (OperatingUnit items) =
    unit_kind s names (head_of text) (item_fields items.items)
cut_meaning s names text (Flows sides) = rates_kind s names (head_of text) (sides_view sides)
cut_meaning s names text (Exclusion members) = exclusion_kind names (texts members.items)

pub meaning_cut : (s : Settings) (names : Names) (number : ℕ) (text : List ℕ) (cut : Cut)
    → IsCutOf text cut → cut_meaning s names text cut
    ≡ line_meaning s names (line_cut number text cut)
meaning_cut s names number text Default is = refl
meaning_cut s names number text (Material items) is =
    ap (λ (all : List (List ℕ)). material_kind s (item_fields all)) is
meaning_cut s names number text (OperatingUnit items) is =
    ap (λ (all : List (List ℕ)). unit_kind s names (head_of text) (item_fields all)) is
meaning_cut s names number text (Flows sides) is = ap (rates_kind s names (head_of text)) is
meaning_cut s names number text (Exclusion members) is = ap (exclusion_kind names) is.0

-- a line that matters is kept, with its number and its text
one_kept : (cut : Cut) (kept : List Placed) (number : ℕ) (section : Section) (header : Bool)
    (text : List ℕ) → section_of cut ≡ section → header ≡ false
    → kept ++ line_cut number text cut ∷ []
    ≡ kept_after kept
    (record { number = number; section = section; header = header; text = text })
one_kept Default kept number Defaults false text s h = refl
one_kept (Material items) kept number Materials false text s h = refl
one_kept (OperatingUnit items) kept number OperatingUnits false text s h = refl
one_kept (Flows sides) kept number Rates false text s h = refl
one_kept (Exclusion members) kept number Exclusions false text s h = refl
one_kept cut kept number section header text s h = cc

pub line_kept : (line : Placed) (cut : Cut) (kept : List Placed) → IsCutAt line cut
    → kept ++ line_cut line.number line.text cut ∷ [] ≡ kept_after kept line
line_kept line cut kept is =
    one_kept cut kept line.number line.section line.header line.text is.section is.header

pub none_kept : (b : Bool) (line : Placed) (kept : List Placed) → b ≡ false
    → kept ≡ (if b then kept ++ line ∷ [] else kept)
none_kept true line kept e = cc
none_kept false line kept e = refl

-- the same of a line of rates
pub flows_meaning : (s : Settings) (names : Names) (number : ℕ) (text head : List ℕ) (cut : Cut)
    (sides : Sides) (line : Placed) → cut ≡ Flows sides → head ≡ head_of text → IsCutOf text cut
    → line_cut number text cut ≡ line
    → rates_kind s names head (sides_view sides) ≡ line_meaning s names line
flows_meaning s names number text head cut sides line is named parts view =
    let pairs : sides_view sides ≡ pairs_at text = subst (λ (k : Cut). IsCutOf text k) is parts in
    (λ i. rates_kind s names (named i) (pairs i))
    ∙ ap (λ (k : Cut). line_meaning s names (line_cut number text k)) (sym is)
    ∙ ap (line_meaning s names) view
