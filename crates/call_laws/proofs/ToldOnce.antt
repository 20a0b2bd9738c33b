-- Lines give one cost.
use Rattle.std.proofs.Common.{◌≡◌, ◌<◌, ◌^◌, ◌==◌, ◌++◌, ◌∷◌, [], true, ℕ, suc}
use Rattle.std.proofs.Common.{ℤ, pos, negsuc, List, Some, None, map, drop, codes}
use Rattle.std.proofs.Common.{decimal, get_or, refl, sym, ap, ap₂, ◌∙◌, arith, append-nil}
use Rattle.std.specs.Fmt.{signed_decimal}
use Rattle.std.specs.List.{list_any, list_all}
use Rattle.std.specs.Char.{is_ascii_digit}
use Rattle.std.proofs.lemmas.Bool.{or_parts, true≢false}
use Rattle.studio.specs.integer_laws.Range.{InRange}
use Rattle.studio.specs.text_rules.Amount.{number_from}
use Rattle.studio.specs.text_rules.Canonical.{joined}
use Rattle.studio.proofs.text_laws.Cited.{not_mark, none_from_all, decimal_printed}
use Rattle.studio.specs.tree_text_rules.Line.{is_space, word_text}
use Rattle.studio.specs.tree_text_rules.declared.Word.TheVariants as words
use Rattle.call_laws.specs.OptimumLaws.{OneCostIsTold}
use Rattle.call_laws.proofs.UnitNames.{IsSolid}

-- ---- numbers

digits_solid : (ds : List ℕ) → list_all is_ascii_digit ds ≡ true → IsSolid ds
digits_solid ds all = none_from_all is_ascii_digit is_space
    (λ c h. not_mark is_ascii_digit 32 c refl h) ds all

number_solid : (z : ℤ) → InRange z → IsSolid (signed_decimal z)
number_solid (pos n) in_range =
    let small : n < 2 ^ 127 = in_range in
    digits_solid (decimal n) (decimal_printed n (omega (arith, small))).all
number_solid (negsuc n) in_range =
    let small : suc n < 2 ^ 127 = in_range in
    digits_solid (decimal (suc n)) (decimal_printed (suc n) (omega (arith, small))).all

decimal_one : (m n : ℕ) → m < 2 ^ 127 → n < 2 ^ 127 → decimal m ≡ decimal n → m ≡ n
decimal_one m n p q e =
    sym (decimal_printed m (omega (arith, p))).value
    ∙ (ap (number_from 0) e ∙ (decimal_printed n (omega (arith, q))).value)

no_sign : (m n : ℕ) → m < 2 ^ 127 → decimal m ≡ 45 ∷ decimal (suc n) → ⊥
no_sign m n p e = true≢false (sym (decimal_printed m (omega (arith, p))).all
    ∙ ap (list_all is_ascii_digit) e)

number_one : (y z : ℤ) → InRange y → InRange z → signed_decimal y ≡ signed_decimal z → y ≡ z
number_one (pos m) (pos n) p q e = ap pos (decimal_one m n p q e)
number_one (pos m) (negsuc n) p q e = absurd (no_sign m n p e)
number_one (negsuc m) (pos n) p q e = absurd (no_sign n m q (sym e))
number_one (negsuc m) (negsuc n) p q e =
    let same : suc m ≡ suc n = decimal_one (suc m) (suc n) p q (ap (drop 1) e) in
    let one : m ≡ n = omega (arith, same) in ap negsuc one

-- ---- tokens

-- nothing, or a space in front
abbrev Stops : List ℕ → Type 0
Stops [] = Unit {0}
Stops (c ∷ cs) = c ≡ 32

not_solid : (y : ℕ) (ys r q : List ℕ) → IsSolid (y ∷ ys) → Stops r → r ≡ y ∷ q → ⊥
not_solid y ys [] q solid stops e = cc
not_solid y ys (c ∷ cs) q solid stops e =
    let one : c ≡ y = cc in
    true≢false (sym (ap (λ (x : ℕ). x == 32) (sym one ∙ stops))
    ∙ (or_parts (is_space y) (list_any is_space ys) solid).0)

-- the first token of a line
cut : (n m r q : List ℕ) → IsSolid n → IsSolid m → Stops r → Stops q → n ++ r ≡ m ++ q → n ≡ m
cut [] [] r q solid other stops ends e = refl
cut [] (y ∷ ys) r q solid other stops ends e = absurd (not_solid y ys r (ys ++ q) other stops e)
cut (x ∷ xs) [] r q solid other stops ends e =
    absurd (not_solid x xs q (xs ++ r) solid ends (sym e))
cut (x ∷ xs) (y ∷ ys) r q solid other stops ends e =
    let one : x ≡ y = cc in
    let rest : xs ++ r ≡ ys ++ q = cc in
    ap₂ (λ (c : ℕ) (cs : List ℕ). c ∷ cs) one
    (cut xs ys r q (or_parts (is_space x) (list_any is_space xs) solid).1
    (or_parts (is_space y) (list_any is_space ys) other).1 stops ends rest)

-- what follows the first token
behind : List (List ℕ) → List ℕ
behind [] = []
behind (x ∷ xs) = 32 ∷ joined 32 (x ∷ xs)

front : (x : List ℕ) (xs : List (List ℕ)) → joined 32 (x ∷ xs) ≡ x ++ behind xs
unfolding behind
front x [] = sym (append-nil x)
front x (y ∷ ys) = refl

stops : (xs : List (List ℕ)) → Stops (behind xs)
unfolding behind
stops [] = tt
stops (x ∷ xs) = refl

first_number : (y z : ℤ) (ys zs : List (List ℕ)) → InRange y → InRange z
    → joined 32 (signed_decimal y ∷ ys) ≡ joined 32 (signed_decimal z ∷ zs) → y ≡ z
first_number y z ys zs p q e =
    number_one y z p q
    (cut (signed_decimal y) (signed_decimal z) (behind ys) (behind zs) (number_solid y p)
    (number_solid z q) (stops ys) (stops zs)
    (sym (front (signed_decimal y) ys) ∙ (e ∙ front (signed_decimal z) zs)))

-- ---- lines

other_word : (names : List (List ℕ)) → joined 32 (word_text words.Network ∷ names)
    ≡ codes "infeasible" → ⊥
other_word [] e = absurd (let first = ap (λ (t : List ℕ). get_or t 0 0) e in omega (arith, first))
other_word (n ∷ ns) e = absurd (let first = ap (λ (t : List ℕ). get_or t 0 0) e in
    omega (arith, first))

line_at : ℕ → List (List ℕ) → List ℕ
line_at k lines = get_or lines k []

pub one_cost_is_told : OneCostIsTold
unfolding line_at
one_cost_is_told lines (Some v) (Some w) p q (ms, (sizes, rest, e)) (ns, (others, more, f)) =
    let same = sym e ∙ f in
    let d : v.d ≡ w.d = first_number v.d w.d (map signed_decimal sizes)
    (map signed_decimal others) p.1 q.1
    (ap (λ (ls : List (List ℕ)). drop 6 (line_at 1 ls)) same) in
    let cost : v.cost ≡ w.cost = first_number v.cost w.cost [] [] p.0 q.0
    (ap (λ (ls : List (List ℕ)). drop 5 (line_at 2 ls)) same) in
    ap₂ (λ (c e : ℤ). Some (record { cost = c; d = e })) cost d
one_cost_is_told lines (Some v) None p q (ms, (sizes, rest, e)) (more, f) =
    absurd (other_word ms (ap (line_at 0) (sym e ∙ f)))
one_cost_is_told lines None (Some w) p q (more, f) (ns, (others, rest, e)) =
    absurd (other_word ns (ap (line_at 0) (sym e ∙ f)))
one_cost_is_told lines None None p q told again = refl
