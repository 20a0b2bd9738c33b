-- The printed sides of a unit are found again.
use Rattle.std.proofs.Common.{◌≡◌, ◌<◌, ◌==◌, Bool, true, false, not, ℕ, Option, Some, None, List}
use Rattle.std.proofs.Common.{[], ◌∷◌, ◌++◌, length, map, codes, ℤ, pos, negsuc, int_lt}
use Rattle.std.proofs.Common.{unsigned_abs, refl, sym, ◌∙◌, ap, arith, if◌then◌else◌}
use Rattle.std.specs.List.{list_any}
use Rattle.std.proofs.lemmas.Bool.{or_from, cond_both, ne_eqb, eqb-true, true≢false}
use Rattle.std.proofs.lemmas.List.{length-map}
use Rattle.edit_rules.specs.problem_rules.Each.{Each}
use Rattle.edit_rules.specs.problem_rules.Names.{is_among, has_double}
use Rattle.edit_rules.specs.text_rules.Fault.{millionths}
use Rattle.edit_rules.specs.text_rules.Field.{terms_of}
use Rattle.edit_rules.specs.text_rules.Printed.{amount_bytes}
use Rattle.text_laws.proofs.Cited.{split_at, split_none, joined_none, split_joined, joined_some}
use Rattle.text_laws.proofs.Cited.{each-append, each-to, none_from_each, IsWord, name_word}
use Rattle.text_laws.proofs.Cited.{amount_word, is_plus, word_no_plus, word_no_arrow, terms_split}
use Rattle.edit_rules.specs.Edit.{NamedTerm}
use Rattle.edit_rules.specs.Formed.{IsFormedTerm, IsFormedSide, AreFormedSides, term_names}
use Rattle.edit_rules.specs.declared.EditKind.{EditKind}
use Rattle.edit_rules.specs.declared.EditKind.TheVariants as kinds
use Rattle.edit_rules.specs.ScriptFault.{lesser, name_fault, rate_fault}
use Rattle.edit_rules.specs.Printed.{term_tokens, side_tokens}
use Rattle.edit_rules.specs.Term.{Pair, pair_of, with_pair, pairs_of, both, both_sides, is_arrow}
use Rattle.edit_rules.specs.Term.{sides_of, term_fault, terms_fault, materials_of, are_bad_sides}
use Rattle.edit_rules.specs.Term.{sides_fault, term_read}
use Rattle.edit_laws.proofs.Tokens.{IsToken, word_token}
use Rattle.edit_laws.proofs.TokensRead.{name_none, rate_none, millionths_back, unless_true}

-- the text of the rate of a term, also if it is left out
abbrev rate_text : NamedTerm → List ℕ
rate_text t = if unsigned_abs t.rate == 1000000 then codes "1" else amount_bytes t.rate

abbrev pub pair_at : NamedTerm → Pair
pair_at t = (rate_text t, t.name)

term_pair : (t : NamedTerm) → pair_of (term_tokens t) ≡ Some (pair_at t)
term_pair t = by (unsigned_abs t.rate == 1000000) where
  by : (b : Bool) → pair_of (if b then t.name ∷ [] else amount_bytes t.rate ∷ t.name ∷ [])
      ≡ Some ((if b then codes "1" else amount_bytes t.rate), t.name)
  by true = refl
  by false = refl

term_words : (t : NamedTerm) → IsFormedTerm t → Each IsWord (term_tokens t)
term_words t is =
    let name : IsWord t.name = name_word t.name is.named in
    cond_both (unsigned_abs t.rate == 1000000) (t.name ∷ []) (amount_bytes t.rate ∷ t.name ∷ [])
    (λ ts. Each IsWord ts) (λ e. (name, tt)) (λ e. (amount_word t.rate is.in_range, (name, tt)))

term_some : (t : NamedTerm) → 0 < length (term_tokens t)
term_some t =
    cond_both (unsigned_abs t.rate == 1000000) (t.name ∷ []) (amount_bytes t.rate ∷ t.name ∷ [])
    (λ ts. 0 < length ts) (λ e. omega arith) (λ e. omega arith)

terms_none : (q : List ℕ → Bool) → ((t : List ℕ) → IsWord t → q t ≡ false)
    → (terms : List NamedTerm) → Each IsFormedTerm terms
    → Each (λ piece. list_any q piece ≡ false) (map term_tokens terms)
terms_none q says [] each = tt
terms_none q says (t ∷ terms) each = (
  none_from_each q (term_tokens t)
      (each-to IsWord (λ w. q w ≡ false) says (term_tokens t) (term_words t each.0)),
  terms_none q says terms each.1,
)

side_terms : (terms : List NamedTerm) → IsFormedSide terms
    → terms_of (side_tokens terms) ≡ map term_tokens terms
side_terms [] is = absurd (omega (arith, is.some))
side_terms (t ∷ terms) is =
    let none = terms_none is_plus word_no_plus (t ∷ terms) is.terms_formed in
    terms_split (side_tokens (t ∷ terms))
    (joined_some (codes "+") (term_tokens t) (map term_tokens terms) (term_some t))
    ∙ split_joined is_plus (codes "+") (term_tokens t) (map term_tokens terms) refl none.0 none.1

pairs_back : (terms : List NamedTerm) → pairs_of (map term_tokens terms) ≡ Some (map pair_at terms)
pairs_back [] = refl
pairs_back (t ∷ terms) =
    ap (λ (p : Option Pair). with_pair p (pairs_of (map term_tokens terms))) (term_pair t)
    ∙ ap (with_pair (Some (pair_at t))) (pairs_back terms)

side_pairs : (terms : List NamedTerm) → IsFormedSide terms
    → pairs_of (terms_of (side_tokens terms)) ≡ Some (map pair_at terms)
side_pairs terms is = ap pairs_of (side_terms terms is) ∙ pairs_back terms

side_no_arrow : (terms : List NamedTerm) → Each IsFormedTerm terms
    → list_any is_arrow (side_tokens terms) ≡ false
side_no_arrow terms each =
    joined_none is_arrow (codes "+") (map term_tokens terms) refl
    (terms_none is_arrow word_no_arrow terms each)

pub sides_back : (ins outs : List NamedTerm) → AreFormedSides ins outs
    → sides_of (side_tokens ins ++ codes "=>" ∷ side_tokens outs)
    ≡ Some (map pair_at ins, map pair_at outs)
sides_back ins outs is =
    ap both_sides
    (split_at is_arrow (side_tokens ins) (codes "=>") (side_tokens outs)
    (side_no_arrow ins is.inputs_formed.terms_formed) refl)
    ∙ ap (λ (rest : List (List (List ℕ))). both_sides (side_tokens ins ∷ rest))
    (split_none is_arrow (side_tokens outs) (side_no_arrow outs is.outputs_formed.terms_formed))
    ∙ ap (λ (found : Option (List Pair)). both found (pairs_of (terms_of (side_tokens outs))))
    (side_pairs ins is.inputs_formed)
    ∙ ap (both (Some (map pair_at ins))) (side_pairs outs is.outputs_formed)

-- a rate above 0 whose absolute value is that of 1 is 1
rate_one : (z : ℤ) → int_lt (pos 0) z ≡ true → unsigned_abs z ≡ 1000000 → pos 1000000 ≡ z
rate_one (pos n) above e = ap pos (sym e)
rate_one (negsuc n) above e = absurd (true≢false (sym above))

term_back : (t : NamedTerm) → IsFormedTerm t → term_read (pair_at t) ≡ t
term_back t is =
    ap (λ (z : ℤ). record { name = t.name; rate = z })
    (by (unsigned_abs t.rate == 1000000) refl) where
      by : (b : Bool) → (unsigned_abs t.rate == 1000000) ≡ b
          → millionths (if b then codes "1" else amount_bytes t.rate) ≡ t.rate
      by true e = rate_one t.rate is.positive (eqb-true (unsigned_abs t.rate) 1000000 e)
      by false e = millionths_back t.rate is.in_range

pub terms_back : (terms : List NamedTerm) → Each IsFormedTerm terms
    → map term_read (map pair_at terms) ≡ terms
terms_back [] each = refl
terms_back (t ∷ terms) each =
    ap (λ (u : NamedTerm). u ∷ map term_read (map pair_at terms)) (term_back t each.0)
    ∙ ap (λ (ts : List NamedTerm). t ∷ ts) (terms_back terms each.1)

term_none : (t : NamedTerm) → IsFormedTerm t → term_fault (pair_at t) ≡ None
term_none t is =
    ap (λ (k : Option EditKind). lesser k (name_fault t.name))
    (cond_both (unsigned_abs t.rate == 1000000) (codes "1") (amount_bytes t.rate)
    (λ (text : List ℕ). rate_fault text ≡ None) (λ e. refl)
    (λ e. rate_none t.rate is.in_range is.positive))
    ∙ name_none t.name is.named

pub terms_clear : (terms : List NamedTerm) → Each IsFormedTerm terms
    → terms_fault (map pair_at terms) ≡ None
terms_clear [] each = refl
terms_clear (t ∷ terms) each =
    ap (λ (k : Option EditKind). lesser k (terms_fault (map pair_at terms))) (term_none t each.0)
    ∙ terms_clear terms each.1

materials_same : (terms : List NamedTerm) → materials_of (map pair_at terms) ≡ term_names terms
materials_same [] = refl
materials_same (t ∷ terms) = ap (λ (names : List (List ℕ)). t.name ∷ names) (materials_same terms)

side_some : (terms : List NamedTerm) → 0 < length terms → (length (map pair_at terms) == 0) ≡ false
side_some terms some =
    ne_eqb (length (map pair_at terms)) 0 (λ e. omega (arith, e, some, length-map terms pair_at))

pub sides_clear : (ins outs : List NamedTerm) → AreFormedSides ins outs
    → sides_fault (map pair_at ins) (map pair_at outs) ≡ None
sides_clear ins outs is =
    let left = materials_same ins in
    let right = materials_same outs in
    let good : are_bad_sides (map pair_at ins) (map pair_at outs) ≡ false =
    or_from _ _
    (or_from _ _
    (or_from _ _
    (or_from _ _ (side_some ins is.inputs_formed.some) (side_some outs is.outputs_formed.some))
    (ap has_double left ∙ is.inputs_formed.once)) (ap has_double right ∙ is.outputs_formed.once))
    (ap (λ (names : List (List ℕ)). list_any (is_among names) (materials_of (map pair_at ins)))
    right ∙ ap (list_any (is_among (term_names outs))) left ∙ is.apart) in
    unless_true (not (are_bad_sides (map pair_at ins) (map pair_at outs))) kinds.BadTerms
    (ap not good)

-- the tokens of a side are tokens
pub side_each : (terms : List NamedTerm) → Each IsFormedTerm terms
    → Each IsToken (side_tokens terms)
side_each [] each = tt
side_each (t ∷ []) each = each-to IsWord IsToken word_token (term_tokens t) (term_words t each.0)
side_each (t ∷ next ∷ terms) each =
    each-append IsToken (term_tokens t) (codes "+" ∷ side_tokens (next ∷ terms))
    (each-to IsWord IsToken word_token (term_tokens t) (term_words t each.0))
    (refl, side_each (next ∷ terms) each.1)
