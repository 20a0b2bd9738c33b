-- The tokens of a printed line are found again.
use Rattle.std.proofs.Common.{◌≡◌, ◌<◌, ◌^◌, ◌||◌, ◌==◌, Bool, true, false, ℕ, List, decimal}
use Rattle.std.specs.List.{list_all, list_any}
use Rattle.std.specs.Char.{is_ascii_digit}
use Rattle.std.proofs.lemmas.Bool.{or_left}
use Rattle.std.proofs.lemmas.Fmt.{decimal_nonempty}
use Rattle.edit_rules.specs.problem_rules.Each.{Each}
use Rattle.edit_rules.specs.problem_rules.Names.{continues_name}
use Rattle.edit_rules.specs.text_rules.Canonical.{joined}
use Rattle.text_laws.proofs.Cited.{not_mark, none_from_all, joined_none, decimal_reads, each-to}
use Rattle.text_laws.proofs.Cited.{all_to, IsWord, digit_continues}

-- the bytes of tokens: those of names and numbers, and `:`, `+`, `=`, `>`
abbrev pub is_token_byte : ℕ → Bool
is_token_byte c = continues_name c || c == 58 || c == 43 || c == 61 || c == 62

abbrev pub IsToken : List ℕ → Type 0
IsToken text = list_all is_token_byte text ≡ true

continues_token : (c : ℕ) → continues_name c ≡ true → is_token_byte c ≡ true
continues_token c is =
    or_left _ _ (or_left _ _ (or_left _ _ (or_left (continues_name c) (c == 58) is)))

pub word_token : (text : List ℕ) → IsWord text → IsToken text
word_token text w = all_to continues_name is_token_byte continues_token text w.all

pub decimal_word : (n : ℕ) → n < 2 ^ 64 → IsWord (decimal n)
decimal_word n lt =
    record {
      all =
          all_to is_ascii_digit continues_name digit_continues (decimal n) (decimal_reads n lt).0;
      some =
          decimal_nonempty n lt;
    }

-- what no token has
pub token_none : (k : ℕ) → is_token_byte k ≡ false → (text : List ℕ) → IsToken text
    → list_any (λ c. c == k) text ≡ false
token_none k off text is =
    none_from_all is_token_byte (λ c. c == k) (λ c at. not_mark is_token_byte k c off at) text is

-- nor do tokens that are joined by spaces have it
pub tokens_none : (k : ℕ) → is_token_byte k ≡ false → (32 == k) ≡ false → (tokens : List (List ℕ))
    → Each IsToken tokens → list_any (λ c. c == k) (joined 32 tokens) ≡ false
tokens_none k off other tokens each =
    joined_none (λ c. c == k) 32 tokens other
    (each-to IsToken (λ token. list_any (λ c. c == k) token ≡ false) (token_none k off) tokens each)
