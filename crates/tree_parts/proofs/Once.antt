-- A text of a part is read in one way.
use Rattle.std.proofs.Common.{◌≡◌, ◌≤◌, Bool, true, false, ℕ, List, [], ◌∷◌, length, codes, Result}
use Rattle.std.proofs.Common.{Ok, Err, refl, sym, ap, ◌∙◌, subst, inl, inr, ◌⊎◌}
use Rattle.tree_text_laws.specs.problem_rules.Problem.{Problem}
use Rattle.tree_text_laws.specs.pns_rules.Tokens.{token_of}
use Rattle.cert_check.proofs.structure_list.Cited.{token_one}
use Rattle.tree_text_laws.specs.tree_text_rules.Line.{Token, Line, tokens_of, lines_of}
use Rattle.tree_text_laws.specs.tree_text_rules.Read.{Fault, rest_taken}
use Rattle.tree_text_laws.specs.tree_text_rules.declared.TreeKind.{TreeKind}
use Rattle.tree_text_laws.specs.tree_text_rules.declared.TreeKind.TheVariants.{FileType, BadLine}
use Rattle.tree_text_laws.specs.tree_text_rules.declared.TreeKind.TheVariants.{UnknownName}
use Rattle.tree_text_laws.specs.tree_text_rules.declared.TreeKind.TheVariants.{BadNumber, Order}
use Rattle.tree_text_laws.specs.tree_text_rules.declared.TreeKind.TheVariants.{WrongCount}
use Rattle.tree_text_laws.specs.tree_text_rules.declared.TreeKind.TheVariants.{MoreNodes}
use Rattle.tree_text_laws.specs.tree_text_rules.declared.TreeKind.TheVariants.{FewerNodes, AfterEnd}
use Rattle.tree_text_laws.specs.tree_text_rules.Part.{Part}
use Rattle.tree_parts.proofs.Tokens.{wider}
use Rattle.tree_text_laws.specs.tree_text_rules.PartRead.{PartReads, LinesRead, StartReads}
use Rattle.tree_text_laws.specs.tree_text_rules.PartRead.{FirstLine, BehindType, SetLine}
use Rattle.tree_text_laws.specs.tree_text_rules.PartRead.{is_file_type, with_start}

module _ (p : Problem) (few : length p.units ≤ 128) where
  -- ---- a line of a word and a set

  module _ (before : List ℕ) (word : Token) (line : Line) where
    same_token : (a b : Token) → tokens_of line ≡ word ∷ a ∷ [] → tokens_of line ≡ word ∷ b ∷ []
        → a ≡ b
    same_token a b e f = let both : word ∷ a ∷ [] ≡ word ∷ b ∷ [] = sym e ∙ f in cc

    -- the line has not its form, or its token is none of a set that fits
    abbrev IsBad : TreeKind → Type 0
    IsBad kind = ((kind ≡ BadLine) × SetLine p before word line (Err BadLine))
        ⊎ ((kind ≡ BadNumber) × SetLine p before word line (Err BadNumber))

    is_bad : (kind : TreeKind) → SetLine p before word line (Err kind) → IsBad kind
    is_bad FileType h = absurd h
    is_bad BadLine h = inl (refl, h)
    is_bad UnknownName h = absurd h
    is_bad BadNumber h = inr (refl, h)
    is_bad Order h = absurd h
    is_bad WrongCount h = absurd h
    is_bad MoreNodes h = absurd h
    is_bad FewerNodes h = absurd h
    is_bad AfterEnd h = absurd h

    not_both : (kind : TreeKind) (units : List ℕ) → IsBad kind
        → SetLine p before word line (Ok units) → ⊥
    not_both kind units (inl (e, bad)) ok = bad (token_of units) ok.0
    not_both kind units (inr (e, bad)) ok =
        bad.2 units ok.1 (same_token bad.0 (token_of units) bad.1.1 ok.0.1)

    one_kind : (kind other : TreeKind) → IsBad kind → IsBad other → kind ≡ other
    one_kind kind other (inl (e, bad)) (inl (f, worse)) = e ∙ sym f
    one_kind kind other (inl (e, bad)) (inr (f, worse)) = absurd (bad worse.0 worse.1)
    one_kind kind other (inr (e, bad)) (inl (f, worse)) = absurd (worse bad.0 bad.1)
    one_kind kind other (inr (e, bad)) (inr (f, worse)) = e ∙ sym f

    one_set : (units others : List ℕ) → SetLine p before word line (Ok units)
        → SetLine p before word line (Ok others) → units ≡ others
    one_set units others h g =
        token_one units others (wider (length p.units) units few h.1.0)
        (wider (length p.units) others few g.1.0)
        (same_token (token_of units) (token_of others) h.0.1 g.0.1)

  -- ---- lines one after another

  module _ (before : List ℕ) (word : Token) (number : ℕ)
      (Read : List ℕ → List Line → Result Part Fault → Type 0)
      (once : (units : List ℕ) (lines : List Line) (r s : Result Part Fault) → Read units lines r
      → Read units lines s → r ≡ s) where
    first_once : (lines : List Line) (r s : Result Part Fault)
        → FirstLine (SetLine p before word) number lines Read r
        → FirstLine (SetLine p before word) number lines Read s → r ≡ s
    first_once [] r s e f = e ∙ sym f
    first_once (line ∷ lines) r s (inl h) (inl g) =
        h.2 ∙ ap (λ (k : TreeKind). Err (number, k))
        (one_kind before word line h.0 g.0 (is_bad before word line h.0 h.1)
        (is_bad before word line g.0 g.1)) ∙ sym g.2
    first_once (line ∷ lines) r s (inl h) (inr g) =
        absurd (not_both before word line h.0 g.0 (is_bad before word line h.0 h.1) g.1)
    first_once (line ∷ lines) r s (inr h) (inl g) =
        absurd (not_both before word line g.0 h.0 (is_bad before word line g.0 g.1) h.1)
    first_once (line ∷ lines) r s (inr h) (inr g) =
        once g.0 lines r s
        (subst (λ (us : List ℕ). Read us lines r) (one_set before word line h.0 g.0 h.1 g.1)
        h.2) g.2

  start_once : (lines : List Line) (r s : Result Part Fault) → StartReads p lines r
      → StartReads p lines s → r ≡ s
  start_once =
      first_once [] (codes "inside") 2
      (λ inside lines. FirstLine (SetLine p inside (codes "outside")) 3 lines
      (λ outside lines result. result ≡ with_start inside outside (rest_taken p 4 lines)))
      (λ inside. first_once inside (codes "outside") 3
      (λ outside lines result. result ≡ with_start inside outside (rest_taken p 4 lines))
      (λ outside lines r s e f. e ∙ sym f))

  lines_once : (lines : List Line) (r s : Result Part Fault) → LinesRead p lines r
      → LinesRead p lines s → r ≡ s
  lines_once [] r s e f = e ∙ sym f
  lines_once (line ∷ lines) r s h g = at (is_file_type line) h g
    where
      at : (b : Bool) → BehindType b p lines r → BehindType b p lines s → r ≡ s
      at true h g = start_once lines r s h g
      at false e f = e ∙ sym f

  pub text_once : (bytes : List ℕ) (r s : Result Part Fault) → PartReads p bytes r
      → PartReads p bytes s → r ≡ s
  text_once bytes r s = lines_once (lines_of bytes) r s
