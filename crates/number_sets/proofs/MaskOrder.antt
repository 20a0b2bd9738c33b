-- The order of sets by their numbers: at the greatest number in which two sets differ, the one that
-- has it is the greater.
use Rattle.std.proofs.Common.{◌&&◌, ◌≡◌, ⊎_elim, ℕ, zero, suc, ◌+◌, ◌^◌, ◌<◌, ◌≤◌, ◌==◌, Bool, true}
use Rattle.std.proofs.Common.{false, cond, ◌||◌, List, [], ◌∷◌, refl, sym, ap, ◌∙◌, subst, arith}
use Rattle.std.proofs.Common.{inl, inr, ◌⊎◌, pow-suc}
use Rattle.std.proofs.lemmas.Bool.{cases_eq, ne_eqb, eq-eqb, eqb-true, both_ways, lt-ltb}
use Rattle.number_sets.specs.Sets.{has, IsRising, AreBelow, IsSet, IsWithin, mask_of, listed}
use Rattle.number_sets.proofs.SetLemmas.{below_not_had, has-listed, IsSet-listed, listed-same}

-- the number of the numbers below n that pass
abbrev pub weight : ℕ → (ℕ → Bool) → ℕ
weight zero s = 0
weight (suc n) s = cond (s n) (2 ^ n) 0 + weight n s

pub weight-same : (n : ℕ) (s t : ℕ → Bool) → ((u : ℕ) → u < n → s u ≡ t u) → weight n s ≡ weight n t
weight-same zero s t h = refl
weight-same (suc n) s t h =
    λ i. cond (h n (omega arith) i) (2 ^ n) 0 + weight-same n s t (λ u less. h u (omega arith)) i

weight-none : (n : ℕ) (s : ℕ → Bool) → ((u : ℕ) → u < n → s u ≡ false) → weight n s ≡ 0
weight-none zero s h = refl
weight-none (suc n) s h = ap (λ b. cond b (2 ^ n) 0 + weight n s) (h n (omega arith))
    ∙ (let e = weight-none n s (λ u less. h u (omega arith)) in omega arith)

cond_or : (a b : Bool) (w : ℕ) → (a ≡ true → b ≡ true → ⊥)
    → cond (a || b) w 0 ≡ cond a w 0 + cond b w 0
cond_or true true w h = absurd (h refl refl)
cond_or true false w h = omega arith
cond_or false b w h = omega arith

weight-or : (n : ℕ) (s t : ℕ → Bool) → ((u : ℕ) → s u ≡ true → t u ≡ true → ⊥)
    → weight n (λ u. s u || t u) ≡ weight n s + weight n t
weight-or zero s t h = refl
weight-or (suc n) s t h = let e = cond_or (s n) (t n) (2 ^ n) (h n) in let r =
    weight-or n s t h in omega arith

weight-single : (n x : ℕ) → x < n → weight n (λ u. x == u) ≡ 2 ^ x
weight-single zero x h = absurd (omega arith)
weight-single (suc n) x h =
    ⊎_elim here (λ ne. there ne (λ less. weight-single n x less)) (cases_eq x n)
  where
    here : x ≡ n → weight (suc n) (λ u. x == u) ≡ 2 ^ x
    here e =
        let none = weight-none n (λ u. x == u) (λ u less. ne_eqb x u (λ q. omega arith)) in
        let a : cond (x == n) (2 ^ n) 0 ≡ 2 ^ x =
        ap (λ b. cond b (2 ^ n) 0) (eq-eqb x n e) ∙ ap (λ v. 2 ^ v) (sym e) in
        omega arith

    there : (x ≡ n → ⊥) → (x < n → weight n (λ u. x == u) ≡ 2 ^ x)
        → weight (suc n) (λ u. x == u) ≡ 2 ^ x
    there ne ih =
        let a : cond (x == n) (2 ^ n) 0 ≡ 0 = ap (λ b. cond b (2 ^ n) 0) (ne_eqb x n ne) in
        let r = ih (omega arith) in
        omega arith

-- the number of a set is that of its test
mask-weight_at : (n : ℕ) (xs : List ℕ) → IsRising xs → AreBelow n xs
    → mask_of xs ≡ weight n (has xs)
mask-weight_at n [] r b = sym (weight-none n (λ u. false) (λ u less. refl))
mask-weight_at n (x ∷ xs) r b =
    let apart : (u : ℕ) → (x == u) ≡ true → has xs u ≡ true → ⊥ = λ u p q. let e =
    eqb-true x u p in both_ways (has xs u) (below_not_had x u xs (omega arith) r.0) q in
    let sum = weight-or n (λ u. x == u) (has xs) apart in
    let one = weight-single n x b.0 in
    let rest = mask-weight_at n xs r.1 b.1 in
    omega arith

pub mask-weight : (n : ℕ) (xs : List ℕ) → IsSet n xs → mask_of xs ≡ weight n (has xs)
mask-weight n xs s = mask-weight_at n xs s.rising s.below

-- ---- more numbers, a greater number

cond_within : (a b : Bool) (w : ℕ) → (a ≡ true → b ≡ true) → cond a w 0 ≤ cond b w 0
cond_within true b w h = let e : b ≡ true = h refl in rw e (omega arith)
cond_within false b w h = omega arith

weight-within : (n : ℕ) (s t : ℕ → Bool) → IsWithin s t → weight n s ≤ weight n t
weight-within zero s t h = omega arith
weight-within (suc n) s t h = let a = cond_within (s n) (t n) (2 ^ n) (h n) in let r =
    weight-within n s t h in omega arith

pub mask-within : (n : ℕ) (xs ys : List ℕ) → IsSet n xs → IsSet n ys → IsWithin (has xs) (has ys)
    → mask_of xs ≤ mask_of ys
mask-within n xs ys r s w =
    let a = mask-weight n xs r in let b = mask-weight n ys s in let c =
    weight-within n (has xs) (has ys) w in omega arith

-- ---- the greatest number in which two sets differ

-- d is in t and not in s, and the two agree at all greater numbers
pub record IsLessAt (n : ℕ) (s t : ℕ → Bool) (d : ℕ) : Type 0 where
  pub within : d < n
  pub lacks : s d ≡ false
  pub holds : t d ≡ true
  pub above : (v : ℕ) → d < v → v < n → s v ≡ t v

weight-lt : (n : ℕ) (s : ℕ → Bool) → weight n s < 2 ^ n
weight-lt zero s = omega arith
weight-lt (suc n) s = at (s n) (weight-lt n s)
  where
    at : (b : Bool) → weight n s < 2 ^ n → cond b (2 ^ n) 0 + weight n s < 2 ^ suc n
    at true h = omega (arith, pow-suc 2 n)
    at false h = omega (arith, pow-suc 2 n)

weight-less : (n : ℕ) (s t : ℕ → Bool) (d : ℕ) → IsLessAt n s t d → weight n s < weight n t
weight-less zero s t d l = absurd (let h = l.within in omega arith)
weight-less (suc n) s t d l =
    ⊎_elim here (λ ne. there (let h = l.within in omega arith) (λ less. weight-less n s t d less))
    (cases_eq d n)
  where
    here : d ≡ n → weight (suc n) s < weight (suc n) t
    here e =
        let a : s n ≡ false = ap (λ v. s v) (sym e) ∙ l.lacks in
        let b : t n ≡ true = ap (λ v. t v) (sym e) ∙ l.holds in
        let h = weight-lt n s in
        rw (a, b) (omega arith)

    there : d < n → (IsLessAt n s t d → weight n s < weight n t)
        → weight (suc n) s < weight (suc n) t
    there less ih =
        let same : s n ≡ t n = l.above n less (omega arith) in
        let rest =
        ih record {
          within = less;
          lacks = l.lacks;
          holds = l.holds;
          above =
              λ v h k. l.above v h (omega arith);
        } in
        rw same (omega arith)

pub mask-less : (n : ℕ) (xs ys : List ℕ) (d : ℕ) → IsSet n xs → IsSet n ys
    → IsLessAt n (has xs) (has ys) d → mask_of xs < mask_of ys
mask-less n xs ys d r s l =
    let a = mask-weight n xs r in let b = mask-weight n ys s in let c =
    weight-less n (has xs) (has ys) d l in omega arith

-- two sets agree, or differ at a greatest number
abbrev pub Compared : ℕ → (ℕ → Bool) → (ℕ → Bool) → Type 0
Compared n s t = ((u : ℕ) → u < n → s u ≡ t u)
    ⊎ (((d : ℕ) × IsLessAt n s t d) ⊎ ((d : ℕ) × IsLessAt n t s d))

longer : (n : ℕ) (s t : ℕ → Bool) (d : ℕ) → s n ≡ t n → IsLessAt n s t d → IsLessAt (suc n) s t d
longer n s t d e l = record {
  within = let h = l.within in omega arith;
  lacks = l.lacks;
  holds = l.holds;
  above =
      λ v h k. ⊎_elim (λ q. subst (λ w. s w ≡ t w) (sym q) e) (λ ne. l.above v h (omega arith))
      (cases_eq v n);
}

top : (n : ℕ) (s t : ℕ → Bool) → s n ≡ false → t n ≡ true → IsLessAt (suc n) s t n
top n s t a b =
    record { within = omega arith; lacks = a; holds = b; above = λ v h k. absurd (omega arith) }

pub compared : (n : ℕ) (s t : ℕ → Bool) → Compared n s t
compared zero s t = inl (λ u h. absurd (omega arith))
compared (suc n) s t = at (s n) (t n) refl refl (compared n s t)
  where
    same : s n ≡ t n → Compared n s t → Compared (suc n) s t
    same e (inl agree) =
        inl (λ u h. ⊎_elim (λ q. subst (λ w. s w ≡ t w) (sym q) e) (λ ne. agree u (omega arith))
        (cases_eq u n))
    same e (inr (inl l)) = inr (inl (l.0, longer n s t l.0 e l.1))
    same e (inr (inr l)) = inr (inr (l.0, longer n t s l.0 (sym e) l.1))

    at : (a b : Bool) → s n ≡ a → t n ≡ b → Compared n s t → Compared (suc n) s t
    at true true p q c = same (p ∙ sym q) c
    at false false p q c = same (p ∙ sym q) c
    at false true p q c = inr (inl (n, top n s t p q))
    at true false p q c = inr (inr (n, top n t s q p))

-- ---- the numbers below n that pass

pub mask-listed : (n : ℕ) (s : ℕ → Bool) → mask_of (listed n s) ≡ weight n s
mask-listed n s = mask-weight n (listed n s) (IsSet-listed n s)
    ∙ weight-same n (has (listed n s)) s
    (λ u less. has-listed n s u ∙ ap (λ b. b && s u) (lt-ltb u n less))

pub listed-less : (n : ℕ) (s t : ℕ → Bool) (d : ℕ) → IsLessAt n s t d
    → mask_of (listed n s) < mask_of (listed n t)
listed-less n s t d l = let a = mask-listed n s in let b = mask-listed n t in let c =
    weight-less n s t d l in omega arith

-- tests with one number list the same
pub listed-same_mask : (n : ℕ) (s t : ℕ → Bool) → mask_of (listed n s) ≡ mask_of (listed n t)
    → listed n s ≡ listed n t
listed-same_mask n s t e = at (compared n s t)
  where
    at : Compared n s t → listed n s ≡ listed n t
    at (inl same) = listed-same n s t same
    at (inr (inl l)) = absurd (let less = listed-less n s t l.0 l.1 in omega arith)
    at (inr (inr l)) = absurd (let less = listed-less n t s l.0 l.1 in omega arith)
