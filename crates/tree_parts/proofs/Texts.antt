-- The text of a part reads as the part, and no other text does.
use Rattle.std.proofs.Common.{◌≡◌, Bool, true, false, ℕ, List, [], ◌∷◌, ◌++◌, map, codes, Result}
use Rattle.std.proofs.Common.{Ok, Err, refl, sym, ap, ap₂, ◌∙◌, subst, inl, inr, append_assoc}
use Rattle.std.specs.List.{slice_split}
use Rattle.std.specs.Str.{bytes_eq}
use Rattle.std.proofs.lemmas.Bool.{and_parts}
use Rattle.std.proofs.lemmas.Slice.Eq.{bytes_eq-Decides}
use Rattle.tree_text_laws.specs.text_rules.Canonical.{joined}
use Rattle.tree_text_laws.proofs.text_laws.Cited.{split_at}
use Rattle.tree_reading.proofs.text_lines.Cited.{parts_some}
use Rattle.tree_reading.proofs.Cited.{more_pieces}
use Rattle.tree_text_laws.specs.problem_rules.Each.{Each}
use Rattle.tree_text_laws.specs.problem_rules.Problem.{Problem}
use Rattle.tree_text_laws.specs.problem_rules.Validity.{IsValid}
use Rattle.tree_text_laws.specs.pns_rules.Tokens.{token_of}
use Rattle.tree_text_laws.specs.tree_text_rules.Line as trees
use Rattle.tree_text_laws.specs.tree_text_rules.Line.{Token, Line, is_feed, lines_from, lines_of}
use Rattle.tree_text_laws.specs.tree_text_rules.Read.{Fault, Certificate, rest_taken, lines_taken}
use Rattle.tree_text_laws.specs.tree_text_rules.Spelling.{rest_lines, line_text, text_of, tree_text}
use Rattle.tree_text_laws.specs.Codes.{line_of, IsToken}
use Rattle.tree_text_laws.proofs.Cited.{text_back, HasNoFeed, no_feed, tokens_said, formed_said}
use Rattle.tree_text_laws.proofs.Cited.{line_from}
use Rattle.tree_text_laws.specs.Fits as fits
use Rattle.tree_text_laws.specs.Laws.{RestsAreRead, SpelledTextsRead}
use Rattle.tree_text_laws.specs.tree_text_rules.Part.{Part}
use Rattle.tree_text_laws.specs.tree_text_rules.PartRead as reads
use Rattle.tree_text_laws.specs.tree_text_rules.PartRead.{PartReads, LinesRead, StartReads}
use Rattle.tree_text_laws.specs.tree_text_rules.PartRead.{BehindType, IsFormedAs}
use Rattle.tree_text_laws.specs.tree_text_rules.PartRead.{with_start, is_file_type}
use Rattle.tree_text_laws.specs.tree_text_rules.PartSpelling.{file_type, set_line, part_text_lines}
use Rattle.tree_text_laws.specs.tree_text_rules.PartSpelling.{part_text}
use Rattle.tree_parts.specs.PartLaws.{certificate_of, Fits, IsSpelled}
use Rattle.tree_parts.proofs.Tokens.{set_is_token}

-- ---- a line of tokens in front of a text is its first

line_in_front : (tokens : List Token) (rest : List ℕ) → HasNoFeed tokens
    → lines_of (line_text tokens ++ rest) ≡ line_of tokens ∷ lines_of rest
line_in_front tokens rest clear =
    ap lines_of (append_assoc (joined 32 tokens) (10 ∷ []) rest)
    ∙ ap lines_from (split_at is_feed (joined 32 tokens) 10 rest clear refl)
    ∙ more_pieces (joined 32 tokens) (slice_split is_feed rest) (parts_some is_feed rest)

-- the lines of tokens after that line
line_ahead : (tokens : List Token) (behind : List (List Token)) → HasNoFeed tokens
    → lines_of (text_of behind) ≡ map line_of behind
    → lines_of (text_of (tokens ∷ behind)) ≡ map line_of (tokens ∷ behind)
line_ahead tokens behind clear e = line_in_front tokens (text_of behind) clear
    ∙ ap (λ (ls : List Line). line_of tokens ∷ ls) e

-- ---- a line of a word and a set

module _ (word : Token) (word_is : IsToken word) (units : List ℕ) where
  token_is : Each IsToken (token_of units ∷ [])
  token_is = (set_is_token units, tt)

  set_formed : IsFormedAs (line_of (set_line word units)) (set_line word units)
  set_formed = (
    formed_said word (token_of units ∷ []) word_is token_is,
    tokens_said word (token_of units ∷ []) word_is token_is,
  )

  set_clear : HasNoFeed (set_line word units)
  set_clear = no_feed (set_line word units) (word_is, token_is)

inside_word : IsToken (codes "inside")
inside_word = record { some = refl; space = refl; feed = refl }

outside_word : IsToken (codes "outside")
outside_word = record { some = refl; space = refl; feed = refl }

type_back : (line : Line) → is_file_type line ≡ true → line ≡ line_of (file_type ∷ [])
type_back line e =
    let both = and_parts line.ended (bytes_eq line.text file_type) e in
    ap₂ (λ (t : List ℕ) (b : Bool). let l : Line = record { text = t; ended = b } in l)
    ((bytes_eq-Decides line.text file_type).0 both.1) both.0

module _ (p : Problem) (valid : IsValid p) (rests : RestsAreRead) where
  abbrev lines_behind : Part → List (List Token)
  lines_behind part = rest_lines p part.claim part.tree part.tail

  abbrev start_lines : Part → List (List Token)
  start_lines part = set_line (codes "inside") part.inside ∷ set_line (codes "outside") part.outside
      ∷ lines_behind part

  -- ---- the text reads as the part

  module _ (texts : SpelledTextsRead) where
    behind_said : (part : Part) → fits.Fits p (certificate_of part)
        → lines_of (text_of (lines_behind part)) ≡ map line_of (lines_behind part)
    behind_said part fit =
        let rest : List ℕ = text_of (lines_behind part) in
        let cut : lines_of (tree_text p part.claim part.tree part.tail)
        ≡ line_of (trees.file_type ∷ []) ∷ lines_of rest =
        line_in_front (trees.file_type ∷ []) rest refl in
        let read : rest_taken p 2 (lines_of rest) ≡ Ok (certificate_of part) =
        sym (ap (lines_taken p) cut) ∙ texts p valid (certificate_of part) fit in
        (rests p valid).lines_are 2 (lines_of rest) (certificate_of part) read

    text_said : (part : Part) → fits.Fits p (certificate_of part)
        → lines_of (part_text p part) ≡ map line_of (part_text_lines p part)
    text_said part fit =
        line_ahead (file_type ∷ []) (start_lines part) refl
        (line_ahead (set_line (codes "inside") part.inside)
        (set_line (codes "outside") part.outside ∷ lines_behind part)
        (set_clear (codes "inside") inside_word part.inside)
        (line_ahead (set_line (codes "outside") part.outside) (lines_behind part)
        (set_clear (codes "outside") outside_word part.outside) (behind_said part fit)))

    pub part_read : (part : Part) → Fits p part → PartReads p (part_text p part) (Ok part)
    part_read part fit =
        let last : Ok part ≡ with_start part.inside part.outside
        (rest_taken p 4 (map line_of (lines_behind part))) =
        sym (ap (with_start part.inside part.outside)
        ((rests p valid).reads (certificate_of part) 4 fit.rest)) in
        let start : StartReads p (map line_of (start_lines part)) (Ok part) =
        inr (
          part.inside,
          (set_formed (codes "inside") inside_word part.inside, (fit.inside, λ u h. absurd cc)),
          inr (
            part.outside,
            (set_formed (codes "outside") outside_word part.outside, (fit.outside, fit.apart)),
            last,
          ),
        ) in
        subst (λ (ls : List Line). LinesRead p ls (Ok part)) (sym (text_said part fit.rest)) start

  -- ---- no other text does

  -- the lines of the part, which fits
  abbrev Spells : List Line → List (List Token) → Part → Type 0
  Spells lines spelled part = (lines ≡ map line_of spelled) × Fits p part

  rest_back : (inside outside : List ℕ) (part : Part) (lines : List Line)
      (r : Result Certificate Fault) → rest_taken p 4 lines ≡ r → reads.Fits p [] inside
      → reads.Fits p inside outside → Ok part ≡ with_start inside outside r
      → (inside ≡ part.inside) × (outside ≡ part.outside) × Spells lines (lines_behind part) part
  rest_back inside outside part lines (Err fault) read one two e = absurd cc
  rest_back inside outside part lines (Ok c) read one two e =
      let made : Part =
      record {
        inside = inside;
        outside = outside;
        claim = c.claim;
        tree = c.tree;
        tail =
            c.tail;
      } in
      let same : made ≡ part = cc in
      subst (λ (x : Part). (inside ≡ x.inside) × (outside ≡ x.outside)
      × Spells lines (lines_behind x) x) same (
        refl,
        refl,
        (
          (rests p valid).lines_are 4 lines c read,
          record {
            inside = one.0;
            outside = two.0;
            apart = two.1;
            rest =
                (rests p valid).fits 4 lines c read;
          },
        ),
      )

  start_back : (lines : List Line) (part : Part) → StartReads p lines (Ok part)
      → Spells lines (start_lines part) part
  start_back [] part e = absurd cc
  start_back (line ∷ []) part (inl h) = absurd (let e = h.2 in cc)
  start_back (line ∷ []) part (inr h) = absurd (let e = h.2 in cc)
  start_back (line ∷ next ∷ lines) part (inl h) = absurd (let e = h.2 in cc)
  start_back (line ∷ next ∷ lines) part (inr (inside, one, inl h)) = absurd (let e = h.2 in cc)
  start_back (line ∷ next ∷ lines) part (inr (inside, one, inr (outside, two, e))) =
      let back = rest_back inside outside part lines (rest_taken p 4 lines) refl one.1 two.1 e in
      let first = line_from line (set_line (codes "inside") inside) one.0.0 one.0.1
      ∙ ap (λ (us : List ℕ). line_of (set_line (codes "inside") us)) back.0 in
      let second = line_from next (set_line (codes "outside") outside) two.0.0 two.0.1
      ∙ ap (λ (us : List ℕ). line_of (set_line (codes "outside") us)) back.1 in
      (λ i. first i ∷ second i ∷ back.2.0 i, back.2.1)

  lines_back : (lines : List Line) (part : Part) → LinesRead p lines (Ok part)
      → Spells lines (part_text_lines p part) part
  lines_back [] part e = absurd cc
  lines_back (line ∷ lines) part h = at (is_file_type line) refl h
    where
      at : (b : Bool) → is_file_type line ≡ b → BehindType b p lines (Ok part)
          → Spells (line ∷ lines) (part_text_lines p part) part
      at true e r = let back = start_back lines part r in let first =
          type_back line e in (λ i. first i ∷ back.0 i, back.1)
      at false e r = absurd cc

  pub part_back : (bytes : List ℕ) (part : Part) → PartReads p bytes (Ok part)
      → IsSpelled p bytes part
  part_back bytes part h = let back = lines_back (lines_of bytes) part h in
      record { text = text_back bytes (part_text_lines p part) back.0; fits = back.1 }
