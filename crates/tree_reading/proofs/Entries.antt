-- Tokens of a place that are read together: two, or an entry's five.
use Rattle.std.proofs.Common.{◌≡◌, List, [], ◌∷◌, Option, Result, ap, sym, ◌∙◌}
use Rattle.tree_text_rules.specs.integer_laws.declared.which.Which.{Which}
use Rattle.tree_text_rules.specs.flow_rules.declared.place.Column.{Column}
use Rattle.tree_text_rules.specs.flow_rules.declared.place.Place.{Place}
use Rattle.tree_text_rules.specs.flow_rules.declared.place.Place.TheVariants.{Entry}
use Rattle.tree_text_rules.specs.problem_rules.Problem.{Problem}
use Rattle.tree_text_rules.specs.Line.{Token}
use Rattle.tree_text_rules.specs.LineRead.{two, entry_of}
use Rattle.tree_text_rules.specs.Token.{both, mapped, column_of, row_of, which_of}
use Rattle.tree_text_rules.specs.declared.TreeKind.{TreeKind}

pub two_read : {A B C : Type 0} (f : A × B → C) (read : Token → Result A TreeKind)
    (read' : Token → Result B TreeKind) (tokens : List Token) {token next : Token}
    {a : Result A TreeKind} {b : Result B TreeKind} (found : Result (A × B) TreeKind)
    → tokens ≡ token ∷ next ∷ [] → a ≡ read token → b ≡ read' next → found ≡ both a b
    → mapped f found ≡ mapped f (two read read' tokens)
two_read f read read' tokens found cut one other all =
    ap (mapped f) (all ∙ (λ i. both (one i) (other i)) ∙ ap (two read read') (sym cut))

abbrev pub Found : Type 0
Found = Column × (Column × (Option Column × (Column × Which)))

abbrev pub entry : Found → Place
entry found = Entry found.0 found.1.0 found.1.1.0 found.1.1.1.0 found.1.1.1.1

module _ (p : Problem) {leave enter row column which : Token} {l e k : Result Column TreeKind}
    {r : Result (Option Column) TreeKind} {w : Result Which TreeKind}
    {from_column : Result (Column × Which) TreeKind}
    {from_row : Result (Option Column × (Column × Which)) TreeKind}
    {from_enter : Result (Column × (Option Column × (Column × Which))) TreeKind} where
  pub entry_read : (tokens : List Token) (found : Result Found TreeKind)
      → tokens ≡ leave ∷ enter ∷ row ∷ column ∷ which ∷ []
      → l ≡ column_of p leave → e ≡ column_of p enter → r ≡ row_of p row → k ≡ column_of p column
      → w ≡ which_of which
      → from_column ≡ both k w → from_row ≡ both r from_column → from_enter ≡ both e from_row
      → found ≡ both l from_enter → mapped entry found ≡ entry_of p tokens
  entry_read tokens found cut left entered at stood word last more most all =
      let four : from_column ≡ both (column_of p column) (which_of which) =
      last ∙ (λ i. both (stood i) (word i)) in
      let three : from_row ≡ both (row_of p row) (both (column_of p column) (which_of which)) =
      more ∙ (λ i. both (at i) (four i)) in
      let two : from_enter ≡ both (column_of p enter)
      (both (row_of p row) (both (column_of p column) (which_of which))) =
      most ∙ (λ i. both (entered i) (three i)) in
      ap (mapped entry) (all ∙ (λ i. both (left i) (two i))) ∙ ap (entry_of p) (sym cut)
