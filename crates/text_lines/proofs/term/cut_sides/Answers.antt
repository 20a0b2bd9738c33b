use Rattle.std.proofs.Common.{◌≡◌, ◌+◌, ◌-◌, ◌<◌, ◌≤◌, Some, ℕ, List, ap, sym, ◌∙◌, arith, take}
use Rattle.std.proofs.Common.{drop, length}
use Rattle.std.specs.List.{position_or_len}
use Rattle.std.specs.Borrow.{Bor}
use Rattle.text_lines.specs.View.{texts}
use Rattle.text_lines.specs.Terms.{is_arrow}
use Rattle.text_lines.proofs.Borrowed.{texts-behind, texts-front, texts-long}
use Rattle.text_lines.proofs.Sides.{none_parted, twice_parted, once_parted}
use Rattle.text_lines.proofs.term.cut_sides.Goals as goal

pub returns-then-at-tokens : goal.returns-then-at-tokens
returns-then-at-tokens c =
    let tokens : List (List ℕ) = texts c.args.tokens.now in
    let le : length tokens ≤ position_or_len is_arrow tokens = let e =
    c.place_of-at.ensures.place in let b =
    c.if-at-tokens.true in omega (arith, texts-long c.args.tokens.now) in
    sym (none_parted tokens le)

pub returns-then-place_of-right : goal.returns-then-place_of-right
returns-then-place_of-right c =
    let at : ℕ = c.place_of-at.result in
    let tokens : List (List ℕ) = texts c.args.tokens.now in
    let lt : at < length tokens = let a = c.place_of-at.ensures.within in let b =
    c.if-at-tokens.false in omega (arith, texts-long c.args.tokens.now) in
    let right : List (Bor (List ℕ)) =
    take (length c.args.tokens.now - (at + 1)) (drop (at + 1) c.args.tokens.now) in
    let place : position_or_len is_arrow (drop (at + 1) tokens) ≡ c.place_of.result =
    ap (λ (xs : List (List ℕ)). position_or_len is_arrow xs)
    (sym (texts-behind c.args.tokens.now at)) ∙ sym c.place_of.ensures.place in
    let long : length (drop (at + 1) tokens) ≡ length right =
    ap (λ (xs : List (List ℕ)). length xs) (sym (texts-behind c.args.tokens.now at))
    ∙ texts-long right in
    let more : position_or_len is_arrow (drop (at + 1) tokens) < length (drop (at + 1) tokens) =
    let b = c.if-place_of-right.true in omega (arith, place, long, b) in
    sym (twice_parted tokens at c.place_of-at.ensures.place lt more)

pub returns : goal.returns
returns c =
    let at : ℕ = c.place_of-at.result in
    let tokens : List (List ℕ) = texts c.args.tokens.now in
    let lt : at < length tokens = let a = c.place_of-at.ensures.within in let b =
    c.if-at-tokens.false in omega (arith, texts-long c.args.tokens.now) in
    let right : List (Bor (List ℕ)) =
    take (length c.args.tokens.now - (at + 1)) (drop (at + 1) c.args.tokens.now) in
    let place : position_or_len is_arrow (drop (at + 1) tokens) ≡ c.place_of.result =
    ap (λ (xs : List (List ℕ)). position_or_len is_arrow xs)
    (sym (texts-behind c.args.tokens.now at)) ∙ sym c.place_of.ensures.place in
    let long : length (drop (at + 1) tokens) ≡ length right =
    ap (λ (xs : List (List ℕ)). length xs) (sym (texts-behind c.args.tokens.now at))
    ∙ texts-long right in
    let none : length (drop (at + 1) tokens) ≤ position_or_len is_arrow (drop (at + 1) tokens) =
    let b = c.if-place_of-right.false in omega (arith, place, long, b) in
    ap (λ (xs : List (List ℕ)). Some (xs, texts right)) (texts-front c.args.tokens.now at)
    ∙ ap (λ (xs : List (List ℕ)). Some (take at tokens, xs)) (texts-behind c.args.tokens.now at)
    ∙ sym (once_parted tokens at c.place_of-at.ensures.place lt none)
