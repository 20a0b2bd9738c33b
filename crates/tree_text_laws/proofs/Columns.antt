-- Columns, rows and steps of a number, both ways.
use Rattle.std.proofs.Common.{◌≡◌, ◌||◌, ◌==◌, Bool, true, false, not, ℕ, suc, ◌∷◌, ◌++◌, length}
use Rattle.std.proofs.Common.{take, drop, codes, Option, Some, None, Result, Ok, Err, refl, sym}
use Rattle.std.proofs.Common.{◌∙◌, ap, subst, arith, ne_eqb, take-append-drop, if◌then◌else◌}
use Rattle.std.specs.List.{list_any}
use Rattle.std.specs.Str.{bytes_eq}
use Rattle.std.proofs.lemmas.Slice.Eq.{bytes_eq-Decides}
use Rattle.tree_text_rules.specs.problem_rules.Problem.{Problem}
use Rattle.tree_text_rules.specs.problem_rules.WellFormed.{IsWellFormed}
use Rattle.tree_text_rules.specs.integer_laws.declared.which.Which.{Which}
use Rattle.tree_text_rules.specs.integer_laws.declared.which.Which.TheVariants as whiches
use Rattle.tree_text_rules.specs.flow_rules.declared.place.Column.{Column}
use Rattle.tree_text_rules.specs.flow_rules.declared.place.Column.TheVariants as columns
use Rattle.tree_text_rules.specs.flow_rules.declared.place.FlowStep.{FlowStep}
use Rattle.tree_text_rules.specs.flow_rules.declared.place.FlowStep.TheVariants as flows
use Rattle.tree_text_rules.specs.tree_rules.Known.{IsUnit, IsMaterial, KnowsColumn, KnowsRow}
use Rattle.tree_text_rules.specs.Line.{Token}
use Rattle.tree_text_rules.specs.Spelling.{unit_name, material_name, column_text, row_text}
use Rattle.tree_text_rules.specs.Spelling.{which_text, flow_text}
use Rattle.tree_text_rules.specs.Token.{mapped, begins, unit_of, material_of, column_of, row_of}
use Rattle.tree_text_rules.specs.Token.{which_of, flow_of}
use Rattle.tree_text_rules.specs.declared.TreeKind.{TreeKind}
use Rattle.tree_text_rules.specs.declared.TreeKind.TheVariants.{BadLine}
use Rattle.tree_text_laws.specs.Codes.{IsToken, IsCode}
use Rattle.tree_text_laws.specs.LineLaws.{Any}
use Rattle.tree_text_laws.proofs.Codes.{done, done_is, mapped_ok}
use Rattle.tree_text_laws.proofs.Names.{unit_code, material_code}

-- the choice if the test is true, or else what follows
pub choice_ok : {A : Type 0} (b : Bool) (r s : Result A TreeKind) (a : A) (P : A → Type 0)
    → (b ≡ true → r ≡ Ok a → P a) → (s ≡ Ok a → P a) → (if b then r else s) ≡ Ok a → P a
choice_ok true r s a P here later e = here refl e
choice_ok false r s a P here later e = later e

pub none_ok : {A : Type 0} (a : A) (P : A → Type 0) → Err BadLine ≡ done a → P a
none_ok a P e = absurd cc

pub same_text : (token text : Token) → bytes_eq token text ≡ true → token ≡ text
same_text token text e = (bytes_eq-Decides token text).0 e

-- a text of two bytes in front
front_of : (token front : Token) → begins token front ≡ true
    → token ≡ front ++ drop (length front) token
front_of token front e =
    let same : front ≡ take (length front) token =
    (bytes_eq-Decides front (take (length front) token)).0 e in
    sym (take-append-drop (length front) token)
    ∙ ap (λ (t : Token). t ++ drop (length front) token) (sym same)

-- two bytes more in front of a token
token_behind : (c d : ℕ) (text : Token) → (c == 32) ≡ false → (d == 32) ≡ false → (c == 10) ≡ false
    → (d == 10) ≡ false → IsToken text → IsToken (c ∷ d ∷ text)
token_behind c d text c-space d-space c-feed d-feed is = record {
  some = ap not (ne_eqb (suc (suc (length text))) 0 (λ e. omega (arith, e)));
  space = ap (λ (b : Bool). b || ((d == 32) || list_any (λ c. c == 32) text)) c-space
      ∙ ap (λ (b : Bool). b || list_any (λ c. c == 32) text) d-space ∙ is.space;
  feed = ap (λ (b : Bool). b || ((d == 10) || list_any (λ c. c == 10) text)) c-feed
      ∙ ap (λ (b : Bool). b || list_any (λ c. c == 10) text) d-feed ∙ is.feed;
}

module _ (p : Problem) (good : IsWellFormed p) where
  -- what is to be shown of a token that stands for a column
  abbrev Spells : Token → Column → Type 0
  Spells token column = (token ≡ column_text p column) × KnowsColumn p column

  unit_column : (token front : Token) (f : ℕ → Column)
      → ((u : ℕ) → column_text p (f u) ≡ front ++ unit_name p u)
      → ((u : ℕ) → IsUnit p u → KnowsColumn p (f u))
      → (column : Column) → begins token front ≡ true
      → mapped f (unit_of p (drop (length front) token)) ≡ Ok column → Spells token column
  unit_column token front f spelled known column holds e =
      let m = mapped_ok f (unit_of p (drop (length front) token)) column e in
      let b = (unit_code p good).back (drop (length front) token) m.0 m.1 in
      subst (λ (c : Column). Spells token c) m.2 (
        front_of token front holds ∙ ap (λ (t : Token). front ++ t) b.0 ∙ sym (spelled m.0),
        known m.0 b.1,
      )

  material_column : (token front : Token) (f : ℕ → Column)
      → ((x : ℕ) → column_text p (f x) ≡ front ++ material_name p x)
      → ((x : ℕ) → IsMaterial p x → KnowsColumn p (f x))
      → (column : Column) → begins token front ≡ true
      → mapped f (material_of p (drop (length front) token)) ≡ Ok column → Spells token column
  material_column token front f spelled known column holds e =
      let m = mapped_ok f (material_of p (drop (length front) token)) column e in
      let b = (material_code p good).back (drop (length front) token) m.0 m.1 in
      subst (λ (c : Column). Spells token c) m.2 (
        front_of token front holds ∙ ap (λ (t : Token). front ++ t) b.0 ∙ sym (spelled m.0),
        known m.0 b.1,
      )

  plain_column : (token : Token) (is : Column) → KnowsColumn p is → (column : Column)
      → bytes_eq token (column_text p is) ≡ true → done is ≡ Ok column → Spells token column
  plain_column token is known column holds e =
      subst (λ (c : Column). Spells token c) (done_is is column e)
      (same_text token (column_text p is) holds, known)

  column_back : (token : Token) (column : Column) → column_of p token ≡ Ok column
      → Spells token column
  column_back token column =
      let P : Column → Type 0 = λ c. Spells token c in
      choice_ok _ _ _ column P
      (unit_column token (codes "x:") columns.X (λ u. refl) (λ u k. k) column)
      (choice_ok _ _ _ column P
      (unit_column token (codes "s:") columns.S (λ u. refl) (λ u k. k) column)
      (choice_ok _ _ _ column P
      (material_column token (codes "t:") columns.T (λ x. refl) (λ x k. k) column)
      (choice_ok _ _ _ column P
      (material_column token (codes "w:") columns.W (λ x. refl) (λ x k. k) column)
      (choice_ok _ _ _ column P (plain_column token columns.Right tt column)
      (choice_ok _ _ _ column P (plain_column token columns.Scale tt column)
      (none_ok column P))))))

  column_again : (column : Column) → KnowsColumn p column
      → column_of p (column_text p column) ≡ Ok column
  column_again (columns.X u) known = ap (mapped columns.X) ((unit_code p good).again u known)
  column_again (columns.S u) known = ap (mapped columns.S) ((unit_code p good).again u known)
  column_again (columns.T x) known = ap (mapped columns.T) ((material_code p good).again x known)
  column_again (columns.W x) known = ap (mapped columns.W) ((material_code p good).again x known)
  column_again columns.Right known = refl
  column_again columns.Scale known = refl

  column_token : (column : Column) → KnowsColumn p column → IsToken (column_text p column)
  column_token (columns.X u) known =
      token_behind 120 58 (unit_name p u) refl refl refl refl ((unit_code p good).token u known)
  column_token (columns.S u) known =
      token_behind 115 58 (unit_name p u) refl refl refl refl ((unit_code p good).token u known)
  column_token (columns.T x) known =
      token_behind 116 58 (material_name p x) refl refl refl refl
      ((material_code p good).token x known)
  column_token (columns.W x) known =
      token_behind 119 58 (material_name p x) refl refl refl refl
      ((material_code p good).token x known)
  column_token columns.Right known = record { some = refl; space = refl; feed = refl }
  column_token columns.Scale known = record { some = refl; space = refl; feed = refl }

  pub column_code : IsCode (column_of p) (column_text p) (KnowsColumn p)
  column_code = record { back = column_back; again = column_again; token = column_token }

  -- ---- rows

  abbrev SpellsRow : Token → Option Column → Type 0
  SpellsRow token row = (token ≡ row_text p row) × KnowsRow p row

  row_back : (token : Token) (row : Option Column) → row_of p token ≡ Ok row → SpellsRow token row
  row_back token row =
      choice_ok _ _ _ row (λ r. SpellsRow token r)
      (λ holds e. subst (λ (r : Option Column). SpellsRow token r) (done_is None row e)
      (same_text token (codes "cost") holds, tt))
      (λ e.
      let m = mapped_ok (λ (c : Column). Some c) (column_of p token) row e in
      subst (λ (r : Option Column). SpellsRow token r) m.2 (column_back token m.0 m.1))

  row_again : (row : Option Column) → KnowsRow p row → row_of p (row_text p row) ≡ Ok row
  row_again None known = refl
  row_again (Some (columns.X u)) known =
      ap (mapped (λ (c : Column). Some c)) (column_again (columns.X u) known)
  row_again (Some (columns.S u)) known =
      ap (mapped (λ (c : Column). Some c)) (column_again (columns.S u) known)
  row_again (Some (columns.T x)) known =
      ap (mapped (λ (c : Column). Some c)) (column_again (columns.T x) known)
  row_again (Some (columns.W x)) known =
      ap (mapped (λ (c : Column). Some c)) (column_again (columns.W x) known)
  row_again (Some columns.Right) known = refl
  row_again (Some columns.Scale) known = refl

  row_token : (row : Option Column) → KnowsRow p row → IsToken (row_text p row)
  row_token None known = record { some = refl; space = refl; feed = refl }
  row_token (Some column) known = column_token column known

  pub row_code : IsCode (row_of p) (row_text p) (KnowsRow p)
  row_code = record { back = row_back; again = row_again; token = row_token }

-- ---- which number of an entry or of a flow

which_is : (token : Token) (is which : Which) → bytes_eq token (which_text is) ≡ true
    → done is ≡ Ok which → (token ≡ which_text which) × Any which
which_is token is which holds e =
    subst (λ (w : Which). (token ≡ which_text w) × Any w) (done_is is which e)
    (same_text token (which_text is) holds, tt)

which_back : (token : Token) (which : Which) → which_of token ≡ Ok which
    → (token ≡ which_text which) × Any which
which_back token which =
    let P : Which → Type 0 = λ w. (token ≡ which_text w) × Any w in
    choice_ok _ _ _ which P (which_is token whiches.Left which)
    (choice_ok _ _ _ which P (which_is token whiches.Right which)
    (choice_ok _ _ _ which P (which_is token whiches.Difference which)
    (none_ok which P)))

which_again : (which : Which) → Any which → which_of (which_text which) ≡ Ok which
which_again whiches.Left any = refl
which_again whiches.Right any = refl
which_again whiches.Difference any = refl

which_token : (which : Which) → Any which → IsToken (which_text which)
which_token whiches.Left any = record { some = refl; space = refl; feed = refl }
which_token whiches.Right any = record { some = refl; space = refl; feed = refl }
which_token whiches.Difference any = record { some = refl; space = refl; feed = refl }

pub which_code : IsCode which_of which_text Any
which_code = record { back = which_back; again = which_again; token = which_token }

flow_is : (token : Token) (is flow : FlowStep) → bytes_eq token (flow_text is) ≡ true
    → done is ≡ Ok flow → (token ≡ flow_text flow) × Any flow
flow_is token is flow holds e =
    subst (λ (w : FlowStep). (token ≡ flow_text w) × Any w) (done_is is flow e)
    (same_text token (flow_text is) holds, tt)

flow_back : (token : Token) (flow : FlowStep) → flow_of token ≡ Ok flow → (token ≡ flow_text flow)
    × Any flow
flow_back token flow =
    let P : FlowStep → Type 0 = λ w. (token ≡ flow_text w) × Any w in
    choice_ok _ _ _ flow P (flow_is token flows.Lcm flow)
    (choice_ok _ _ _ flow P (flow_is token flows.Shift flow)
    (choice_ok _ _ _ flow P (flow_is token flows.Scaled flow)
    (choice_ok _ _ _ flow P (flow_is token flows.Total flow)
    (none_ok flow P))))

flow_again : (flow : FlowStep) → Any flow → flow_of (flow_text flow) ≡ Ok flow
flow_again flows.Lcm any = refl
flow_again flows.Shift any = refl
flow_again flows.Scaled any = refl
flow_again flows.Total any = refl

flow_token : (flow : FlowStep) → Any flow → IsToken (flow_text flow)
flow_token flows.Lcm any = record { some = refl; space = refl; feed = refl }
flow_token flows.Shift any = record { some = refl; space = refl; feed = refl }
flow_token flows.Scaled any = record { some = refl; space = refl; feed = refl }
flow_token flows.Total any = record { some = refl; space = refl; feed = refl }

pub flow_code : IsCode flow_of flow_text Any
flow_code = record { back = flow_back; again = flow_again; token = flow_token }
