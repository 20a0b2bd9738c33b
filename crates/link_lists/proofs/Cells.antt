-- Lists of cells: a cell more, a cell less, and how many there are.
use Rattle.std.proofs.Common.{◌≡◌, ℕ, zero, suc, ◌<◌, ◌≤◌, ◌==◌, Bool, true, false, cond, not, ◌&&◌}
use Rattle.std.proofs.Common.{◌||◌, List, [], ◌∷◌, ◌++◌, length, map, refl, sym, ap, ◌∙◌, subst}
use Rattle.std.proofs.Common.{inl, inr, ◌⊎◌, eqb-true, eq-eqb, ne_eqb, arith}
use Rattle.std.proofs.lemmas.Bool.{or_cases, or_left, or_right, or_from, or_parts, and_parts}
use Rattle.std.proofs.lemmas.Bool.{and_right, both_ways, false_from_ne_true, not-true, cases_eq}
use Rattle.std.proofs.lemmas.Bool.{eqb-false}
use Rattle.std.specs.List.{filter}
use Rattle.link_lists.specs.Lists.{row, has, without, pushed, inserted, IsOnce}

-- ---- cells of a list

pub has-here : (x : ℕ) (xs : List ℕ) → has (x ∷ xs) x ≡ true
has-here x xs = or_left (x == x) (has xs x) (eq-eqb x x refl)

pub has-later : (x c : ℕ) (xs : List ℕ) → has xs c ≡ true → has (x ∷ xs) c ≡ true
has-later x c xs h = or_right (x == c) (has xs c) h

pub has-append : (xs ys : List ℕ) (u : ℕ) → has (xs ++ ys) u ≡ (has xs u || has ys u)
has-append [] ys u = refl
has-append (x ∷ xs) ys u =
    elim (x == u) as (λ b. (b || has (xs ++ ys) u) ≡ ((b || has xs u) || has ys u))
    [ true ↦ refl | false ↦ has-append xs ys u ]

has-filter_at : (t : ℕ → Bool) (x : ℕ) (xs : List ℕ) (u : ℕ) (b c : Bool) → t x ≡ b → (x == u) ≡ c
    → has (filter t xs) u ≡ (has xs u && t u)
    → has (cond b (x ∷ filter t xs) (filter t xs)) u ≡ ((c || has xs u) && t u)
has-filter_at t x xs u true true e q ih =
    ap (λ d. d || has (filter t xs) u) q ∙ sym (subst (λ v. t v ≡ true) (eqb-true x u q) e)
has-filter_at t x xs u true false e q ih = ap (λ d. d || has (filter t xs) u) q ∙ ih
has-filter_at t x xs u false true e q ih =
    let no : t u ≡ false = subst (λ v. t v ≡ false) (eqb-true x u q) e in
    ih ∙ (and_right (has xs u) (t u) no ∙ sym no)
has-filter_at t x xs u false false e q ih = ih

pub has-filter : (t : ℕ → Bool) (xs : List ℕ) (u : ℕ) → has (filter t xs) u ≡ (has xs u && t u)
has-filter t [] u = refl
has-filter t (x ∷ xs) u = has-filter_at t x xs u (t x) (x == u) refl refl (has-filter t xs u)

pub has-without : (c : ℕ) (xs : List ℕ) (d : ℕ) → has (without c xs) d ≡ (has xs d && not (c == d))
has-without c xs d = has-filter (λ v. not (c == v)) xs d

pub without-none : (c : ℕ) (xs : List ℕ) → has xs c ≡ false → without c xs ≡ xs
without-none c [] h = refl
without-none c (x ∷ xs) h =
    let p = or_parts (x == c) (has xs c) h in
    let ne : (c == x) ≡ false = ne_eqb c x (λ q. eqb-false x c p.0 (sym q)) in
    ap (λ b. cond (not b) (x ∷ without c xs) (without c xs)) ne
    ∙ ap (λ ys. x ∷ ys) (without-none c xs p.1)

pub without-here : (c : ℕ) (xs : List ℕ) → has xs c ≡ false → without c (c ∷ xs) ≡ xs
without-here c xs h = ap (λ b. cond (not b) (c ∷ without c xs) (without c xs)) (eq-eqb c c refl)
    ∙ without-none c xs h

pub without-later : (c x : ℕ) (xs : List ℕ) → (c ≡ x → ⊥) → without c (x ∷ xs) ≡ x ∷ without c xs
without-later c x xs ne = ap (λ b. cond (not b) (x ∷ without c xs) (without c xs)) (ne_eqb c x ne)

pub IsOnce-without : (c : ℕ) (xs : List ℕ) → IsOnce xs → IsOnce (without c xs)
IsOnce-without c [] o = tt
IsOnce-without c (x ∷ xs) o = elim (cases_eq c x) [
  | inl e
      ↦ subst IsOnce (sym (ap (λ b. cond (not b) (x ∷ without c xs) (without c xs)) (eq-eqb c x e)))
      (IsOnce-without c xs o.1)
  | inr ne ↦ subst IsOnce (sym (without-later c x xs ne)) (
    false_from_ne_true (has (without c xs) x)
        (λ h. both_ways (has xs x) o.0
        (and_parts (has xs x) (not (c == x)) (sym (has-without c xs x) ∙ h)).0),
    IsOnce-without c xs o.1,
  )
]

-- ---- the number of cells of a list

-- a list that has each cell once loses at most one cell
length-without : (c : ℕ) (xs : List ℕ) → IsOnce xs → length xs ≤ suc (length (without c xs))
length-without c [] o = omega arith
length-without c (x ∷ xs) o = elim (cases_eq c x) [
  | inl e ↦
      let out : has xs c ≡ false = subst (λ k. has xs k ≡ false) (sym e) o.0 in
      let w : length (without c (x ∷ xs)) ≡ length xs =
      ap length (ap (λ b. cond (not b) (x ∷ without c xs) (without c xs)) (eq-eqb c x e)
      ∙ without-none c xs out) in
      omega arith
  | inr ne ↦
      let w : length (without c (x ∷ xs)) ≡ suc (length (without c xs)) =
      ap length (without-later c x xs ne) in
      let ih = length-without c xs o.1 in
      omega arith
]

-- of distinct numbers below n there are at most n
pub once_length : (n : ℕ) (xs : List ℕ) → IsOnce xs → ((c : ℕ) → has xs c ≡ true → c < n)
    → length xs ≤ n
once_length zero [] o below = omega arith
once_length zero (x ∷ xs) o below = let h = below x (has-here x xs) in absurd (omega arith)
once_length (suc n) xs o below =
    let ih = once_length n (without n xs) (IsOnce-without n xs o) lower in
    let w = length-without n xs o in
    omega arith
  where
    lower : (c : ℕ) → has (without n xs) c ≡ true → c < n
    lower c h =
        let p = and_parts (has xs c) (not (n == c)) (sym (has-without n xs c) ∙ h) in
        let lt = below c p.0 in
        let ne : n ≡ c → ⊥ = λ e. both_ways (n == c) (not-true (n == c) p.1) (eq-eqb n c e) in
        omega arith

-- ---- rows

pub row-map : (h : List ℕ → List ℕ) (ls : List (List ℕ)) (l : ℕ) → h [] ≡ []
    → row (map h ls) l ≡ h (row ls l)
row-map h [] l e = sym e
row-map h (xs ∷ ls) zero e = refl
row-map h (xs ∷ ls) (suc l) e = row-map h ls l e

pub row-without : (c : ℕ) (ls : List (List ℕ)) (l : ℕ)
    → row (map (without c) ls) l ≡ without c (row ls l)
row-without c ls l = row-map (without c) ls l refl

-- ---- a cell put at the end of a list

pub row-pushed : (ls : List (List ℕ)) (l c : ℕ) → l < length ls
    → row (pushed ls l c) l ≡ row ls l ++ c ∷ []
row-pushed [] l c h = absurd (omega arith)
row-pushed (xs ∷ ls) zero c h = refl
row-pushed (xs ∷ ls) (suc l) c h = row-pushed ls l c (omega arith)

pub row-pushed_other : (ls : List (List ℕ)) (l m c : ℕ) → (m ≡ l → ⊥)
    → row (pushed ls l c) m ≡ row ls m
row-pushed_other [] l m c ne = refl
row-pushed_other (xs ∷ ls) zero zero c ne = absurd (ne refl)
row-pushed_other (xs ∷ ls) zero (suc m) c ne = refl
row-pushed_other (xs ∷ ls) (suc l) zero c ne = refl
row-pushed_other (xs ∷ ls) (suc l) (suc m) c ne = row-pushed_other ls l m c (λ q. ne (ap suc q))

pub length-pushed : (ls : List (List ℕ)) (l c : ℕ) → length (pushed ls l c) ≡ length ls
length-pushed [] l c = refl
length-pushed (xs ∷ ls) zero c = refl
length-pushed (xs ∷ ls) (suc l) c = ap suc (length-pushed ls l c)

pub IsOnce-push : (xs : List ℕ) (c : ℕ) → IsOnce xs → has xs c ≡ false → IsOnce (xs ++ c ∷ [])
IsOnce-push [] c o h = (refl, tt)
IsOnce-push (x ∷ xs) c o h =
    let p = or_parts (x == c) (has xs c) h in (
      has-append xs (c ∷ []) x
          ∙ or_from (has xs x) ((c == x) || false) o.0
          (or_from (c == x) false (ne_eqb c x (λ q. eqb-false x c p.0 (sym q))) refl),
      IsOnce-push xs c o.1 p.1,
    )

-- ---- a cell put before another

pub inserted-none : (c b : ℕ) (xs : List ℕ) → has xs b ≡ false → inserted c b xs ≡ xs
inserted-none c b [] h = refl
inserted-none c b (x ∷ xs) h =
    let p = or_parts (x == b) (has xs b) h in
    ap (λ t. cond t (c ∷ x ∷ xs) (x ∷ inserted c b xs)) p.0
    ∙ ap (λ ys. x ∷ ys) (inserted-none c b xs p.1)

-- what the list has after that
pub has-inserted : (c b : ℕ) (xs : List ℕ) (d : ℕ) → has (inserted c b xs) d ≡ true
    → (has xs d ≡ true) ⊎ ((d ≡ c) × (has xs b ≡ true))
has-inserted c b [] d h = inl h
has-inserted c b (x ∷ xs) d h = elim (cases_eq x b) [
  | inl same ↦
      let k = sym (ap (λ t. has (cond t (c ∷ x ∷ xs) (x ∷ inserted c b xs)) d) (eq-eqb x b same))
      ∙ h in
      elim (or_cases (c == d) ((x == d) || has xs d) k) [
        | inl s ↦ inr (sym (eqb-true c d s), or_left (x == b) (has xs b) (eq-eqb x b same))
        | inr t ↦ inl t
      ]
  | inr ne ↦
      let k = sym (ap (λ t. has (cond t (c ∷ x ∷ xs) (x ∷ inserted c b xs)) d) (ne_eqb x b ne))
      ∙ h in
      elim (or_cases (x == d) (has (inserted c b xs) d) k) [
        | inl s ↦ inl (or_left (x == d) (has xs d) s)
        | inr t ↦ elim (has-inserted c b xs d t) [
          | inl p ↦ inl (or_right (x == d) (has xs d) p)
          | inr p ↦ inr (p.0, or_right (x == b) (has xs b) p.1)
        ]
      ]
]

pub IsOnce-inserted : (c b : ℕ) (xs : List ℕ) → has xs c ≡ false → IsOnce xs
    → IsOnce (inserted c b xs)
IsOnce-inserted c b [] out o = tt
IsOnce-inserted c b (x ∷ xs) out o = elim (cases_eq x b) [
  | inl same
      ↦ subst IsOnce (sym (ap (λ t. cond t (c ∷ x ∷ xs) (x ∷ inserted c b xs)) (eq-eqb x b same)))
      (out, o)
  | inr ne
      ↦ subst IsOnce (sym (ap (λ t. cond t (c ∷ x ∷ xs) (x ∷ inserted c b xs)) (ne_eqb x b ne))) (
        false_from_ne_true (has (inserted c b xs) x) (λ h. elim (has-inserted c b xs x h) [
          | inl p ↦ both_ways (has xs x) o.0 p
          | inr p ↦ eqb-false x c (or_parts (x == c) (has xs c) out).0 p.0
        ]),
        IsOnce-inserted c b xs (or_parts (x == c) (has xs c) out).1 o.1,
      )
]

pub row-inserted : (c b : ℕ) (ls : List (List ℕ)) (l : ℕ)
    → row (map (inserted c b) ls) l ≡ inserted c b (row ls l)
row-inserted c b ls l = row-map (inserted c b) ls l refl
