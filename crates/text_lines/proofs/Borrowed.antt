-- Parts of a list of borrowed texts.
use Rattle.std.proofs.Common.{◌≡◌, ◌+◌, ◌-◌, ℕ, List, length, take, drop, ap, sym, ◌∙◌, arith}
use Rattle.std.specs.Borrow.{Bor}
use Rattle.std.proofs.lemmas.List.{take_rest, take-map, drop-map, length-map}
use Rattle.text_lines.specs.View.{texts}

pub rest_all : (xs : List (Bor (List ℕ))) (at : ℕ)
    → take (length xs - (at + 1)) (drop (at + 1) xs) ≡ drop (at + 1) xs
rest_all xs at = take_rest xs (at + 1)

pub texts-behind : (xs : List (Bor (List ℕ))) (at : ℕ)
    → texts (take (length xs - (at + 1)) (drop (at + 1) xs)) ≡ drop (at + 1) (texts xs)
texts-behind xs at = ap texts (rest_all xs at)
    ∙ sym (drop-map (λ (text : Bor (List ℕ)). text.now) (at + 1) xs)

pub texts-front : (xs : List (Bor (List ℕ))) (at : ℕ) → texts (take at xs) ≡ take at (texts xs)
texts-front xs at = sym (take-map (λ (text : Bor (List ℕ)). text.now) at xs)

pub texts-long : (xs : List (Bor (List ℕ))) → length (texts xs) ≡ length xs
texts-long xs = length-map xs (λ (text : Bor (List ℕ)). text.now)
