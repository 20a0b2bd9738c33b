-- The lines of a tail, both ways.
use Rattle.std.proofs.Common.{◌≡◌, List, [], ◌∷◌, map, decimal, Option, Some, Result, Ok, refl, ◌∙◌}
use Rattle.std.proofs.Common.{ap, subst}
use Rattle.tree_text_rules.specs.problem_rules.Each.{Each}
use Rattle.tree_text_rules.specs.problem_rules.Problem.{Problem}
use Rattle.tree_text_rules.specs.problem_rules.WellFormed.{IsWellFormed}
use Rattle.tree_text_rules.specs.flow_rules.declared.place.Column.{Column}
use Rattle.tree_text_rules.specs.flow_rules.declared.place.Place.{Place}
use Rattle.tree_text_rules.specs.tree_rules.Known.{KnowsColumn}
use Rattle.tree_text_rules.specs.Line.{Token, Line, word_text, word_of, fields_of}
use Rattle.tree_text_rules.specs.LineRead.{formed, one, two, behind_nodes, TailOpening, whole}
use Rattle.tree_text_rules.specs.LineRead.{spent, past, tail_opening_by, tail_opening_read}
use Rattle.tree_text_rules.specs.LineRead.{nonbasic_by, nonbasic_read, place_by, place_read}
use Rattle.tree_text_rules.specs.LineRead.{close_by, close_read}
use Rattle.tree_text_rules.specs.Spelling.{column_text, place_fields}
use Rattle.tree_text_rules.specs.Token.{mapped, each, count_of, options_of, column_of}
use Rattle.tree_text_rules.specs.declared.TreeKind.{TreeKind}
use Rattle.tree_text_rules.specs.declared.Word.{Word}
use Rattle.tree_text_rules.specs.declared.Word.TheVariants as words
use Rattle.tree_text_laws.specs.LineFits.{IsCount, IsOptionCount, FitsPlace}
use Rattle.tree_text_laws.proofs.Codes.{alone_ok, AreFields, one_fields, two_fields, each_fields}
use Rattle.tree_text_laws.proofs.Codes.{IsBy, line_by}
use Rattle.tree_text_laws.proofs.Columns.{column_code}
use Rattle.tree_text_laws.proofs.Decimals.{counts, option_counts}
use Rattle.tree_text_laws.proofs.NodeLines.{mapped_back}
use Rattle.tree_text_laws.specs.Codes.{line_of, IsToken, IsLineCode}
use Rattle.tree_text_laws.proofs.Places.{place_back, place_again, place_tokens}
use Rattle.tree_text_laws.proofs.Said.{says_word}

-- ---- a place at which a node's line would be one too many

behind_ok : {A : Type 0} (word : Option Word) (r : Result A TreeKind) (a : A)
    → behind_nodes word r ≡ Ok a → r ≡ Ok a
behind_ok (Some words.Node) r a e = absurd cc
behind_ok word r a e = e

behind_again : {A : Type 0} (word : Word) (r : Result A TreeKind) → (word ≡ words.Node → ⊥)
    → behind_nodes (Some word) r ≡ r
behind_again words.Node r other = absurd (other refl)
behind_again word r other = refl

module _ {A : Type 0} (by : Option Word → List Token → Result A TreeKind) (first : A → Word)
    (fields : A → List Token) (Fits : A → Type 0) (is : IsBy by first fields Fits)
    (other : (a : A) → first a ≡ words.Node → ⊥) where
  lines : IsLineCode (λ line. formed line (by (word_of line) (fields_of line)))
      (λ a. word_text (first a) ∷ fields a) Fits
  lines = line_by by first fields Fits is

  tail_by : IsLineCode
      (λ line. behind_nodes (word_of line) (formed line (by (word_of line) (fields_of line))))
      (λ a. word_text (first a) ∷ fields a) Fits
  tail_by = record {
    back =
        λ line a e. lines.back line a
        (behind_ok (word_of line) (formed line (by (word_of line) (fields_of line))) a e);
    again = λ a fits.
        let line : Line = line_of (word_text (first a) ∷ fields a) in
        let read : Result A TreeKind = formed line (by (word_of line) (fields_of line)) in
        ap (λ (w : Option Word). behind_nodes w read)
        (says_word (first a) (fields a) (is.tokens a fits)).word_is
        ∙ behind_again (first a) read (other a) ∙ lines.again a fits;
    tokens = lines.tokens;
  }

-- ---- the first line

abbrev tail_word : TailOpening → Word
tail_word whole = words.End
tail_word (spent next options) = words.Spent
tail_word (past node) = words.Past

abbrev tail_fields : TailOpening → List Token
tail_fields whole = []
tail_fields (spent next options) = decimal next ∷ decimal options ∷ []
tail_fields (past node) = decimal node ∷ []

abbrev pub tail_line : TailOpening → List Token
tail_line o = word_text (tail_word o) ∷ tail_fields o

abbrev pub FitsTailOpening : TailOpening → Type 0
FitsTailOpening whole = Unit {0}
FitsTailOpening (spent next options) = IsCount next × IsOptionCount options
FitsTailOpening (past node) = IsCount node

spending : AreFields (two count_of options_of) (λ c. decimal c.0 ∷ decimal c.1 ∷ [])
    (λ c. IsCount c.0 × IsOptionCount c.1)
spending = two_fields count_of decimal IsCount counts options_of decimal IsOptionCount option_counts

passing : AreFields (one count_of) (λ n. decimal n ∷ []) IsCount
passing = one_fields count_of decimal IsCount counts

tail_tokens : (o : TailOpening) → FitsTailOpening o → Each IsToken (tail_fields o)
tail_tokens whole fits = tt
tail_tokens (spent next options) fits = spending.tokens (next, options) fits
tail_tokens (past node) fits = passing.tokens node fits

tail_again : (o : TailOpening) → FitsTailOpening o
    → tail_opening_by (Some (tail_word o)) (tail_fields o) ≡ Ok o
tail_again whole fits = refl
tail_again (spent next options) fits =
    ap (mapped (λ found. spent found.0 found.1)) (spending.again (next, options) fits)
tail_again (past node) fits = ap (mapped past) (passing.again node fits)

abbrev SpellsTail : Option Word → List Token → TailOpening → Type 0
SpellsTail word tokens o = (word ≡ Some (tail_word o)) × (tokens ≡ tail_fields o)
    × FitsTailOpening o

tail_back : (word : Option Word) (tokens : List Token) (o : TailOpening)
    → tail_opening_by word tokens ≡ Ok o → SpellsTail word tokens o
tail_back (Some words.End) tokens o e =
    let a = alone_ok whole o tokens e in
    subst (λ (x : TailOpening). SpellsTail (Some words.End) tokens x) a.1 (refl, a.0, tt)
tail_back (Some words.Spent) tokens o e =
    mapped_back (λ found. spent found.0 found.1) (two count_of options_of)
    (λ c. decimal c.0 ∷ decimal c.1 ∷ []) (λ c. IsCount c.0 × IsOptionCount c.1) spending
    (SpellsTail (Some words.Spent) tokens) tokens (λ c is fits. (refl, is, fits)) o e
tail_back (Some words.Past) tokens o e =
    mapped_back past (one count_of) (λ n. decimal n ∷ []) IsCount passing
    (SpellsTail (Some words.Past) tokens) tokens (λ n is fits. (refl, is, fits)) o e
tail_back word tokens o e = absurd cc

tail_other : (o : TailOpening) → tail_word o ≡ words.Node → ⊥
tail_other whole e = cc
tail_other (spent next options) e = cc
tail_other (past node) e = cc

pub tail_lines_of : IsLineCode tail_opening_read tail_line FitsTailOpening
tail_lines_of =
    tail_by tail_opening_by tail_word tail_fields FitsTailOpening
    (record { back = tail_back; again = tail_again; tokens = tail_tokens }) tail_other

-- ---- the last line

close_back : (word : Option Word) (tokens : List Token) (u : Unit {0}) → close_by word tokens ≡ Ok u
    → (word ≡ Some words.End) × (tokens ≡ []) × Unit {0}
close_back (Some words.End) tokens u e = (refl, (alone_ok tt u tokens e).0, tt)
close_back word tokens u e = absurd cc

pub close_line : IsLineCode close_read (λ u. word_text words.End ∷ []) (λ u. Unit {0})
close_line =
    tail_by close_by (λ u. words.End) (λ u. []) (λ u. Unit {0})
    (record { back = close_back; again = λ u fits. refl; tokens = λ u fits. tt }) (λ u e. cc)

-- ---- the place at which a number is out of range

module _ (p : Problem) (good : IsWellFormed p) where
  nonbasic_fields : AreFields (each (column_of p)) (map (column_text p)) (Each (KnowsColumn p))
  nonbasic_fields = each_fields (column_of p) (column_text p) (KnowsColumn p) (column_code p good)

  nonbasic_back : (word : Option Word) (tokens : List Token) (cs : List Column)
      → nonbasic_by p word tokens ≡ Ok cs → (word ≡ Some words.Nonbasic)
      × (tokens ≡ map (column_text p) cs) × Each (KnowsColumn p) cs
  nonbasic_back (Some words.Nonbasic) tokens cs e = let b =
      nonbasic_fields.back tokens cs e in (refl, b.0, b.1)
  nonbasic_back word tokens cs e = absurd cc

  pub nonbasic_line : IsLineCode (nonbasic_read p)
      (λ cs. word_text words.Nonbasic ∷ map (column_text p) cs) (Each (KnowsColumn p))
  nonbasic_line =
      tail_by (nonbasic_by p) (λ cs. words.Nonbasic) (map (column_text p)) (Each (KnowsColumn p))
      (record {
        back = nonbasic_back;
        again = nonbasic_fields.again;
        tokens =
            nonbasic_fields.tokens;
      }) (λ cs e. cc)

  place_by_back : (word : Option Word) (tokens : List Token) (place : Place)
      → place_by p word tokens ≡ Ok place → (word ≡ Some words.Place)
      × (tokens ≡ place_fields p place) × FitsPlace p place
  place_by_back (Some words.Place) tokens place e = let b =
      place_back p good tokens place e in (refl, b.0, b.1)
  place_by_back word tokens place e = absurd cc

  pub place_line : IsLineCode (place_read p) (λ place. word_text words.Place ∷ place_fields p place)
      (FitsPlace p)
  place_line =
      tail_by (place_by p) (λ place. words.Place) (place_fields p) (FitsPlace p)
      (record { back = place_by_back; again = place_again p good; tokens = place_tokens p good })
      (λ place e. cc)
