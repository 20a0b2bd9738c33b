-- The words of a line, token by token.
use Rattle.std.proofs.Common.{◌≡◌, ◌∷◌, ◌∙◌, ap, true, false, List, ℕ, filter}
use Rattle.std.proofs.lemmas.Bool.{cond-true, cond-false}
use Rattle.report_rules.specs.tree_text_rules.Line.{Token, has_bytes}

pub word_found : (token : Token) (behind all : List Token) → all ≡ token ∷ behind
    → has_bytes token ≡ true → filter has_bytes all ≡ token ∷ filter has_bytes behind
word_found token behind all e h =
    ap (λ (ts : List Token). filter has_bytes ts) e
    ∙ cond-true (has_bytes token) (token ∷ filter has_bytes behind) (filter has_bytes behind) h

pub word_skipped : (token : Token) (behind all : List Token) → all ≡ token ∷ behind
    → has_bytes token ≡ false → filter has_bytes all ≡ filter has_bytes behind
word_skipped token behind all e h =
    ap (λ (ts : List Token). filter has_bytes ts) e
    ∙ cond-false (has_bytes token) (token ∷ filter has_bytes behind) (filter has_bytes behind) h
