-- A line in a text is one of its lines, if each of these is one line.
use Rattle.std.proofs.Common.{◌≡◌, ◌⊎◌, ◌+◌, ◌/◌, ◌%◌, ◌==◌, ◌++◌, ◌∷◌, [], ℕ, zero}
use Rattle.std.proofs.Common.{suc, Bool, true, false, List, nat_lt, decimal, if◌then◌else◌, refl}
use Rattle.std.proofs.Common.{sym, ap, subst, ◌∙◌, arith, inl, inr, append_assoc}
use Rattle.std.specs.Fmt.{digit_glyph, digits_onto, digits}
use Rattle.std.proofs.lemmas.Grind.{flat_map-append}
use Rattle.studio.specs.problem_rules.Each.{Each}
use Rattle.studio.specs.studio_rules.Lines.{line, text_of}

-- no byte is a line feed
abbrev pub IsOneLine : List ℕ → Type 0
IsOneLine [] = Unit {0}
IsOneLine (b ∷ bs) = (b ≡ 10 → ⊥) × IsOneLine bs

-- the line is one of these
abbrev pub IsLineOf : List ℕ → List (List ℕ) → Type 0
IsLineOf l [] = ⊥
IsLineOf l (x ∷ xs) = (l ≡ x) ⊎ IsLineOf l xs

-- no byte, or the last is a line feed
abbrev IsWhole : List ℕ → Type 0
IsWhole [] = Unit {0}
IsWhole (b ∷ []) = b ≡ 10
IsWhole (b ∷ c ∷ bs) = IsWhole (c ∷ bs)

whole_behind : (b : ℕ) (bs : List ℕ) → IsWhole (b ∷ bs) → IsWhole bs
whole_behind b [] h = tt
whole_behind b (c ∷ bs) h = h

whole_line : (xs ys : List ℕ) → IsWhole ys → IsWhole (xs ++ 10 ∷ ys)
whole_line [] [] h = refl
whole_line [] (y ∷ ys) h = h
whole_line (x ∷ []) ys h = whole_line [] ys h
whole_line (x ∷ y ∷ xs) ys h = whole_line (y ∷ xs) ys h

whole_text : (xs : List (List ℕ)) → IsWhole (text_of xs)
whole_text [] = tt
whole_text (x ∷ xs) = subst IsWhole (sym (append_assoc x (10 ∷ []) (text_of xs)))
    (whole_line x (text_of xs) (whole_text xs))

heads : (a b : ℕ) (xs ys : List ℕ) → a ∷ xs ≡ b ∷ ys → (a ≡ b) × (xs ≡ ys)
heads a b xs ys e = (cc, cc)

-- two first lines of one text
first_line : (l x r s : List ℕ) → IsOneLine l → IsOneLine x → l ++ 10 ∷ r ≡ x ++ 10 ∷ s → l ≡ x
first_line [] [] r s one other e = refl
first_line [] (b ∷ x) r s one other e = absurd (other.0 (sym (heads 10 b r (x ++ 10 ∷ s) e).0))
first_line (a ∷ l) [] r s one other e = absurd (one.0 (heads a 10 (l ++ 10 ∷ r) s e).0)
first_line (a ∷ l) (b ∷ x) r s one other e =
    let h = heads a b (l ++ 10 ∷ r) (x ++ 10 ∷ s) e in
    let rest = first_line l x r s one.1 other.1 h.1 in λ i. h.0 i ∷ rest i

-- what follows the first line of whole lines
behind_line : (a x r s : List ℕ) → IsOneLine x → IsWhole a → (a ≡ [] → ⊥) → a ++ r ≡ x ++ 10 ∷ s
    → (b : List ℕ) × IsWhole b × (b ++ r ≡ s)
behind_line [] x r s one h some e = absurd (some refl)
behind_line (c ∷ a) [] r s one h some e = (a, whole_behind c a h, (heads c 10 (a ++ r) s e).1)
behind_line (c ∷ []) (d ∷ x) r s one h some e =
    absurd (one.0 (sym (heads c d r (x ++ 10 ∷ s) e).0 ∙ h))
behind_line (c ∷ k ∷ a) (d ∷ x) r s one h some e =
    behind_line (k ∷ a) x r s one.1 h (λ q. cc) (heads c d (k ∷ a ++ r) (x ++ 10 ∷ s) e).1

-- a line that follows whole lines
among : (xs : List (List ℕ)) (a l r : List ℕ) → Each IsOneLine xs → IsOneLine l → IsWhole a
    → a ++ (l ++ 10 ∷ r) ≡ text_of xs → IsLineOf l xs
among [] a l r all one h e = absurd (not_empty a l r e)
  where
    not_empty : (a l r : List ℕ) → a ++ (l ++ 10 ∷ r) ≡ [] → ⊥
    not_empty [] [] r e = cc
    not_empty [] (b ∷ l) r e = cc
    not_empty (b ∷ a) l r e = cc
among (x ∷ xs) [] l r all one h e = inl
    (first_line l x r (text_of xs) one all.0 (e ∙ append_assoc x (10 ∷ []) (text_of xs)))
among (x ∷ xs) (b ∷ a) l r all one h e =
    let behind = behind_line (b ∷ a) x (l ++ 10 ∷ r) (text_of xs) all.0 h (λ q. cc)
    (e ∙ append_assoc x (10 ∷ []) (text_of xs)) in
    inr (among xs behind.0 l r all.1 one behind.1 behind.2)

pub line_among : (xs fs bs : List (List ℕ)) (l : List ℕ) → Each IsOneLine xs → IsOneLine l
    → text_of (fs ++ l ∷ bs) ≡ text_of xs → IsLineOf l xs
line_among xs fs bs l all one e =
    among xs (text_of fs) l (text_of bs) all one (whole_text fs)
    (ap (λ (t : List ℕ). text_of fs ++ t) (sym (append_assoc l (10 ∷ []) (text_of bs)))
    ∙ (sym (flat_map-append line fs (l ∷ bs)) ∙ e))

-- ---- lines without a line feed

pub one_line-append : (xs ys : List ℕ) → IsOneLine xs → IsOneLine ys → IsOneLine (xs ++ ys)
one_line-append [] ys h k = k
one_line-append (x ∷ xs) ys h k = (h.0, one_line-append xs ys h.1 k)

glyph_one : (d : ℕ) → digit_glyph false d ≡ 10 → ⊥
glyph_one d = at (nat_lt d 10)
  where
    at : (b : Bool) → (if b then 48 + d else (if false then 55 + d else 87 + d)) ≡ 10 → ⊥
    at true e = absurd (omega (arith, e))
    at false e = absurd (omega (arith, e))

digits_one : (k n : ℕ) (acc : List ℕ) → IsOneLine acc → IsOneLine (digits_onto k 10 false n acc)
digits_one zero n acc h = h
digits_one (suc k) n acc h = at (n / 10 == 0)
    (digits_one k (n / 10) (digit_glyph false (n % 10) ∷ acc) (glyph_one (n % 10), h))
  where
    at : (b : Bool) → IsOneLine (digits_onto k 10 false (n / 10) (digit_glyph false (n % 10) ∷ acc))
        → IsOneLine (if b then digit_glyph false (n % 10) ∷ acc else digits_onto k 10 false (n / 10)
        (digit_glyph false (n % 10) ∷ acc))
    at true more = (glyph_one (n % 10), h)
    at false more = more

pub decimal_one_line : (n : ℕ) → IsOneLine (decimal n)
unfolding digits
decimal_one_line n = digits_one 64 n [] tt
