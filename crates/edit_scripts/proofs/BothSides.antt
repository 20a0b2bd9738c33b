-- Bad sides of a unit, and lists of terms that are read one by one.
use Rattle.std.proofs.Common.{◌≡◌, ◌≤◌, ◌<◌, ◌+◌, ◌==◌, ◌||◌, Bool, true, false, ℕ, Option, Some}
use Rattle.std.proofs.Common.{None, is_some, List, [], ◌∷◌, ◌++◌, map, take, length, get_or}
use Rattle.std.proofs.Common.{if◌then◌else◌, ℤ, refl, sym, ap, ◌∙◌}
use Rattle.std.specs.List.{list_any}
use Rattle.std.specs.Borrow.{Bor}
use Rattle.std.proofs.lemmas.List.{map-append, take_all}
use Rattle.text_lines.specs.problem_rules.Names.{is_among, has_double}
use Rattle.text_lines.specs.edit_rules.Edit.{NamedTerm}
use Rattle.text_lines.specs.text_rules.Fault.{millionths}
use Rattle.text_lines.specs.View.{texts}
use Rattle.text_lines.specs.Once.{once}
use Rattle.text_lines.specs.Terms.{term_view, terms_view}
use Rattle.text_lines.specs.declared.term.Term.{Term}
use Rattle.text_lines.proofs.Cited.{maps_more}
use Rattle.text_lines.specs.edit_rules.Term.{Pair, materials_of, are_bad_sides, term_read}

-- one material more
pub listed : (terms : List Term) (i : ℕ) (d : Term) (old new : List (Bor (List ℕ)))
    → i < length terms → texts old ≡ materials_of (terms_view (take i terms))
    → new ≡ old ++ (get_or terms i d).name ∷ []
    → texts new ≡ materials_of (terms_view (take (i + 1) terms))
listed terms i d old new lt before same =
    ap texts same
    ∙ map-append (λ (name : Bor (List ℕ)). name.now) old ((get_or terms i d).name ∷ [])
    ∙ ap (λ (names : List (List ℕ)). names ++ (get_or terms i d).name.now ∷ []) before
    ∙ sym (maps_more (λ (pair : Pair). pair.1) term_view terms i d lt)

pub all_listed : (terms : List Term) (i : ℕ) (names shown : List (Bor (List ℕ))) → length terms ≤ i
    → shown ≡ names → texts names ≡ materials_of (terms_view (take i terms))
    → texts shown ≡ materials_of (terms_view terms)
all_listed terms i names shown all same listed =
    ap texts same ∙ listed
    ∙ ap (λ (ts : List Term). materials_of (terms_view ts)) (take_all i terms all)

-- one term more, with its name
pub named : (terms : List Term) (i : ℕ) (d : Term) (old new : List NamedTerm) (name : List ℕ)
    (rate : ℤ) → i < length terms → old ≡ map term_read (terms_view (take i terms))
    → new ≡ old ++ record { name = name; rate = rate } ∷ [] → name ≡ (get_or terms i d).name.now
    → rate ≡ millionths (get_or terms i d).number.now
    → new ≡ map term_read (terms_view (take (i + 1) terms))
named terms i d old new name rate lt before same here this =
    same ∙ (λ j. before j ++ record { name = here j; rate = this j } ∷ [])
    ∙ sym (maps_more term_read term_view terms i d lt)

none_double : (b : Bool) (names : List (List ℕ)) → is_some (if b then None else Some names) ≡ false
    → b ≡ true
none_double true names e = refl
none_double false names e = cc

third : (a c d : Bool) → true ≡ (((a || true) || c) || d)
third true c d = refl
third false c d = refl

fourth : (a d : Bool) → true ≡ ((a || true) || d)
fourth true d = refl
fourth false d = refl

-- a material twice among the inputs, or among the outputs
pub double_input : (found : Option (List (List ℕ))) (ins outs : List Pair)
    → found ≡ once (materials_of ins) → is_some found ≡ false → true ≡ are_bad_sides ins outs
double_input found ins outs same none =
    third (length ins == 0 || length outs == 0) (has_double (materials_of outs))
    (list_any (is_among (materials_of outs)) (materials_of ins))
    ∙ ap
    (λ (b : Bool).
    (((length ins == 0 || length outs == 0) || b) || has_double (materials_of outs)) || list_any
    (is_among (materials_of outs)) (materials_of ins))
    (sym
    (none_double (has_double (materials_of ins)) (materials_of ins)
    (ap is_some (sym same) ∙ none)))

pub double_output : (ins outs : List Pair) → None ≡ once (materials_of outs)
    → true ≡ are_bad_sides ins outs
double_output ins outs none =
    fourth ((length ins == 0 || length outs == 0) || has_double (materials_of ins))
    (list_any (is_among (materials_of outs)) (materials_of ins))
    ∙ ap
    (λ (b : Bool).
    (((length ins == 0 || length outs == 0) || has_double (materials_of ins)) || b) || list_any
    (is_among (materials_of outs)) (materials_of ins))
    (sym (none_double (has_double (materials_of outs)) (materials_of outs) (ap is_some (sym none))))
