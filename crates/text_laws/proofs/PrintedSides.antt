-- The sides of a printed rates line are found again.
use Rattle.std.proofs.Common.{◌≡◌, ◌<◌, ◌==◌, Bool, false, ℕ, List, [], ◌∷◌, length, map, codes}
use Rattle.std.proofs.Common.{unsigned_abs, refl, ◌∙◌, ap, arith, length-append}
use Rattle.std.specs.List.{list_any, slice_split}
use Rattle.std.proofs.lemmas.Bool.{cond_both}
use Rattle.text_rules.specs.Printed.{amount_bytes}
use Rattle.text_rules.specs.problem_rules.Problem.{Term, OperatingUnit}
use Rattle.text_rules.specs.Field.{tokens_of, terms_of, sides_of}
use Rattle.text_rules.specs.Canonical.{joined, named, name_at, term_tokens, side_tokens, token_text}
use Rattle.text_rules.specs.Canonical.{rates_tokens}
use Rattle.text_rules.specs.problem_rules.Each.{Each}
use Rattle.text_laws.proofs.Each.{each-append, each-map, each-to, none_from_each}
use Rattle.text_laws.proofs.Cuts.{split_at, split_none, joined_none, split_joined, joined_some}
use Rattle.text_laws.proofs.Words.{IsWord, is_plus, is_arrow, word_no_plus, word_no_arrow}
use Rattle.text_laws.proofs.Words.{terms_split}
use Rattle.text_laws.proofs.Pieces.{IsPiece, IsTail, IsNamed, word_piece, named_apart, tokens_tail}
use Rattle.text_laws.proofs.Pieces.{tokens_apart}
use Rattle.text_rules.specs.problem_rules.WellFormed.{IsWellFormedTerm, IsWellFormedUnit}
use Rattle.text_laws.proofs.PrintedItems.{term_words}

plus_piece : IsPiece (codes "+")
plus_piece = record { all = refl; some = omega arith }

arrow_piece : IsPiece (codes "=>")
arrow_piece = record { all = refl; some = omega arith }

-- pieces that are joined stay pieces
joined_each : {A : Type 0} (P : A → Type 0) (mark : A) (pieces : List (List A)) → P mark
    → Each (λ piece. Each P piece) pieces → Each P (joined mark pieces)
joined_each P mark [] one each = tt
joined_each P mark (piece ∷ []) one each = each.0
joined_each P mark (piece ∷ next ∷ pieces) one each =
    each-append P piece (mark ∷ joined mark (next ∷ pieces)) each.0
    (one, joined_each P mark (next ∷ pieces) one each.1)

module _ (names : List (List ℕ)) (words : Each IsWord names) where
  -- the tokens of each term
  term_each : (terms : List Term) → Each (IsWellFormedTerm (length names)) terms
      → Each (λ piece. Each IsWord piece) (map (term_tokens names) terms)
  term_each terms good =
      each-map (λ piece. Each IsWord piece) (term_tokens names) terms
      (each-to (IsWellFormedTerm (length names)) (λ t. Each IsWord (term_tokens names t))
      (λ t is. term_words names t words is) terms good)

  none_in : (q : List ℕ → Bool) → ((t : List ℕ) → IsWord t → q t ≡ false) → (terms : List Term)
      → Each (IsWellFormedTerm (length names)) terms
      → Each (λ piece. list_any q piece ≡ false) (map (term_tokens names) terms)
  none_in q says terms good =
      each-to (λ piece. Each IsWord piece) (λ piece. list_any q piece ≡ false)
      (λ piece each. none_from_each q piece (each-to IsWord (λ t. q t ≡ false) says piece each))
      (map (term_tokens names) terms) (term_each terms good)

  term_some : (t : Term) → 0 < length (term_tokens names t)
  term_some t =
      cond_both (unsigned_abs t.rate == 1000000) (name_at names t.material ∷ [])
      (amount_bytes t.rate ∷ name_at names t.material ∷ []) (λ ts. 0 < length ts) (λ e. omega arith)
      (λ e. omega arith)

  pub side_pieces : (terms : List Term) → Each (IsWellFormedTerm (length names)) terms
      → Each IsPiece (side_tokens names terms)
  side_pieces terms good =
      joined_each IsPiece (codes "+") (map (term_tokens names) terms) plus_piece
      (each-to (λ piece. Each IsWord piece) (λ piece. Each IsPiece piece)
      (λ piece each. each-to IsWord IsPiece word_piece piece each)
      (map (term_tokens names) terms) (term_each terms good))

  side_some : (terms : List Term) → 0 < length terms → 0 < length (side_tokens names terms)
  side_some [] some = absurd (omega arith)
  side_some (t ∷ terms) some =
      joined_some (codes "+") (term_tokens names t) (map (term_tokens names) terms) (term_some t)

  side_terms : (terms : List Term) → 0 < length terms → Each (IsWellFormedTerm (length names)) terms
      → terms_of (side_tokens names terms) ≡ map (term_tokens names) terms
  side_terms [] some good = absurd (omega arith)
  side_terms (t ∷ terms) some good =
      let none = none_in is_plus word_no_plus (t ∷ terms) good in
      terms_split (side_tokens names (t ∷ terms)) (side_some (t ∷ terms) (omega arith))
      ∙ split_joined is_plus (codes "+") (term_tokens names t) (map (term_tokens names) terms) refl
      none.0 none.1

  no_arrow : (terms : List Term) → Each (IsWellFormedTerm (length names)) terms
      → list_any is_arrow (side_tokens names terms) ≡ false
  no_arrow terms good =
      joined_none is_arrow (codes "+") (map (term_tokens names) terms) refl
      (none_in is_arrow word_no_arrow terms good)

  module _ (u : OperatingUnit) (good : IsWellFormedUnit (length names) u) where
    all_pieces : Each IsPiece (rates_tokens names u)
    all_pieces =
        each-append IsPiece (side_tokens names u.inputs) (codes "=>" ∷ side_tokens names u.outputs)
        (side_pieces u.inputs good.inputs.terms_formed)
        (arrow_piece, side_pieces u.outputs good.outputs.terms_formed)

    pub rates_tail : IsTail (token_text (rates_tokens names u))
    rates_tail =
        from (rates_tokens names u)
        (omega (
          arith,
          length-append (side_tokens names u.inputs) (codes "=>" ∷ side_tokens names u.outputs),
        ))
        all_pieces where
          from : (tokens : List (List ℕ)) → 0 < length tokens → Each IsPiece tokens
              → IsTail (token_text tokens)
          from [] some each = absurd (omega arith)
          from (token ∷ tokens) some each = tokens_tail token tokens each.0 each.1

    rates_tokens_apart : tokens_of (token_text (rates_tokens names u)) ≡ rates_tokens names u
    rates_tokens_apart =
        from (rates_tokens names u)
        (omega (
          arith,
          length-append (side_tokens names u.inputs) (codes "=>" ∷ side_tokens names u.outputs),
        ))
        all_pieces where
          from : (tokens : List (List ℕ)) → 0 < length tokens → Each IsPiece tokens
              → tokens_of (token_text tokens) ≡ tokens
          from [] some each = absurd (omega arith)
          from (token ∷ tokens) some each = tokens_apart token tokens each.0 each.1

    pub sides_apart : (name : List ℕ) → IsWord name
        → sides_of (named name (token_text (rates_tokens names u)))
        ≡ map (term_tokens names) u.inputs ∷ map (term_tokens names) u.outputs ∷ []
    sides_apart name word =
        let is : IsNamed name (token_text (rates_tokens names u)) =
        named_apart name (token_text (rates_tokens names u)) word rates_tail in
        ap (λ (t : List ℕ). map terms_of (slice_split is_arrow (tokens_of t))) is.tail
        ∙ ap (λ (ts : List (List ℕ)). map terms_of (slice_split is_arrow ts)) rates_tokens_apart
        ∙ ap (map terms_of)
        (split_at is_arrow (side_tokens names u.inputs) (codes "=>")
        (side_tokens names u.outputs) (no_arrow u.inputs good.inputs.terms_formed) refl)
        ∙ ap (λ (rest : List (List (List ℕ))). terms_of (side_tokens names u.inputs)
        ∷ map terms_of rest)
        (split_none is_arrow (side_tokens names u.outputs)
        (no_arrow u.outputs good.outputs.terms_formed))
        ∙ ap (λ (s : List (List (List ℕ))). s ∷ terms_of (side_tokens names u.outputs) ∷ [])
        (side_terms u.inputs good.inputs.some good.inputs.terms_formed)
        ∙ ap (λ (s : List (List (List ℕ))). map (term_tokens names) u.inputs ∷ s ∷ [])
        (side_terms u.outputs good.outputs.some good.outputs.terms_formed)
