-- Rising leaves: each leaf after one that has at least some value has at least this value too, and
-- a new leaf keeps the order.
use Rattle.std.proofs.Common.{◌≡◌, ℕ, zero, suc, ◌<◌, ◌==◌, Bool, true, false, cond, not, List, []}
use Rattle.std.proofs.Common.{◌∷◌, ◌++◌, length, Option, Some, None, slice_set, refl, sym, ap, ◌∙◌}
use Rattle.std.proofs.Common.{subst, inl, inr, ◌⊎◌, eqb-true, eq-eqb, ne_eqb, length-append, arith}
use Rattle.std.proofs.lemmas.Bool.{or_cases, or_left, both_ways, false_from_ne_true, not-true}
use Rattle.std.proofs.lemmas.Bool.{and_parts}
use Rattle.std.specs.List.{slice_get, find}
use Rattle.std.specs.Ordering.{is_le, ordering_reverse}
use Rattle.std.specs.declared.cmp.Ordering.{Ordering}
use Rattle.std.specs.declared.cmp.Ordering.TheVariants.{Less, Equal, Greater}
use Rattle.exact_numbers.specs.declared.number.Mixed.{Mixed}
use Rattle.exact_numbers.specs.MixedOrder.{mixed_cmp}
use Rattle.exact_numbers.specs.MixedOrderLaws.{mixed_cmp_total}
use Rattle.link_lists.specs.Lists.{has, without, inserted}
use Rattle.link_lists.proofs.Cited.{has-here, has-later, has-without}
use Rattle.node_pool.specs.Order.{at_most, is_at_least, placed, IsAtMost, IsRising, put_before}
use Rattle.node_pool.proofs.Places.{StaysTrue}

-- ---- the order of two values

le_not_greater : (o : Ordering) → is_le o ≡ true → o ≡ Greater → ⊥
le_not_greater Less h e = cc
le_not_greater Equal h e = cc
le_not_greater Greater h e = both_ways false refl h

not_greater_le : (o : Ordering) → (o ≡ Greater → ⊥) → is_le o ≡ true
not_greater_le Less h = refl
not_greater_le Equal h = refl
not_greater_le Greater h = absurd (h refl)

less_at_most : (u v w : Mixed) → mixed_cmp u v ≡ Less → (mixed_cmp v w ≡ Greater → ⊥)
    → mixed_cmp u w ≡ Less
less_at_most u v w l fits = by (mixed_cmp v w) refl
  where
    by : (o : Ordering) → mixed_cmp v w ≡ o → mixed_cmp u w ≡ Less
    by Less e = mixed_cmp_total.trans u v w l e
    by Greater e = absurd (fits e)
    by Equal e =
        let back : mixed_cmp v u ≡ Greater = mixed_cmp_total.antisymm v u ∙ ap ordering_reverse l in
        let same : mixed_cmp w u ≡ Greater = sym (mixed_cmp_total.congr v w u e) ∙ back in
        mixed_cmp_total.antisymm u w ∙ ap ordering_reverse same

le_at_most : (u v w : Mixed) → is_le (mixed_cmp u v) ≡ true → (mixed_cmp v w ≡ Greater → ⊥)
    → is_le (mixed_cmp u w) ≡ true
le_at_most u v w l fits = by (mixed_cmp u v) refl
  where
    by : (o : Ordering) → mixed_cmp u v ≡ o → is_le (mixed_cmp u w) ≡ true
    by Less e = ap is_le (less_at_most u v w e fits)
    by Equal e = ap is_le (mixed_cmp_total.congr u v w e) ∙ not_greater_le (mixed_cmp v w) fits
    by Greater e = absurd (le_not_greater (mixed_cmp u v) l e)

-- ---- the values that are there

slice_get_at : (vs : List Mixed) (c : ℕ) → c < length vs → (v : Mixed) × (slice_get vs c ≡ Some v)
slice_get_at [] c lt = absurd (omega arith)
slice_get_at (v ∷ vs) zero lt = (v, refl)
slice_get_at (v ∷ vs) (suc c) lt = slice_get_at vs c (omega arith)

slice_get_push : (vs : List Mixed) (v : Mixed) (c : ℕ) → c < length vs
    → slice_get (vs ++ v ∷ []) c ≡ slice_get vs c
slice_get_push [] v c lt = absurd (omega arith)
slice_get_push (w ∷ vs) v zero lt = refl
slice_get_push (w ∷ vs) v (suc c) lt = slice_get_push vs v c (omega arith)

slice_get_new : (vs : List Mixed) (v : Mixed) → slice_get (vs ++ v ∷ []) (length vs) ≡ Some v
slice_get_new [] v = refl
slice_get_new (w ∷ vs) v = slice_get_new vs v

slice_get_other : (vs : List Mixed) (i : ℕ) (v : Mixed) (c : ℕ) → (c ≡ i → ⊥)
    → slice_get (slice_set vs i v) c ≡ slice_get vs c
slice_get_other [] i v c ne = refl
slice_get_other (w ∷ vs) zero v zero ne = absurd (ne refl)
slice_get_other (w ∷ vs) zero v (suc c) ne = refl
slice_get_other (w ∷ vs) (suc i) v zero ne = refl
slice_get_other (w ∷ vs) (suc i) v (suc c) ne = slice_get_other vs i v c (λ s. ne (ap suc s))

pub slice_get_set : (vs : List Mixed) (i : ℕ) (v : Mixed) → i < length vs
    → slice_get (slice_set vs i v) i ≡ Some v
slice_get_set [] i v lt = absurd (omega arith)
slice_get_set (w ∷ vs) zero v lt = refl
slice_get_set (w ∷ vs) (suc i) v lt = slice_get_set vs i v (omega arith)

at_least_by : (vs : List Mixed) (v w : Mixed) (c : ℕ) → slice_get vs c ≡ Some w
    → is_at_least vs v c ≡ is_le (mixed_cmp v w)
at_least_by vs v w c e = ap (at_most v) e

-- ---- the leaves after one that has at least the value

pub stays_at_least : (vs : List Mixed) (v : Mixed) (xs : List ℕ)
    → ((c : ℕ) → has xs c ≡ true → c < length vs) → IsRising vs xs → StaysTrue (is_at_least vs v) xs
stays_at_least vs v [] known r = tt
stays_at_least vs v (x ∷ xs) known r = (
  λ high y hy.
      let a = slice_get_at vs x (known x (has-here x xs)) in
      let b = slice_get_at vs y (known y (has-later x y xs hy)) in
      at_least_by vs v b.0 y b.1
      ∙ le_at_most v a.0 b.0 (sym (at_least_by vs v a.0 x a.1) ∙ high)
      (r.0 y hy a.0 b.0 a.1 b.1),
  stays_at_least vs v xs (λ c h. known c (has-later x c xs h)) r.1,
)

-- ---- a new leaf

found_true : (t : ℕ → Bool) (xs : List ℕ) (c : ℕ) → find t xs ≡ Some c → t c ≡ true
found_true t [] c e = cc
found_true t (x ∷ xs) c e = by (t x) refl (λ q. found_true t xs c q)
  where
    by : (b : Bool) → t x ≡ b → (find t xs ≡ Some c → t c ≡ true) → t c ≡ true
    by true q ih = let s : x ≡ c = let u =
        sym (ap (λ b. cond b (Some x) (find t xs)) q) ∙ e in cc in ap t (sym s) ∙ q
    by false q ih = ih (sym (ap (λ b. cond b (Some x) (find t xs)) q) ∙ e)

pub placed_by : (vs : List Mixed) (v : Mixed) (c : ℕ) (xs : List ℕ) (o : Option ℕ)
    → o ≡ find (is_at_least vs v) xs → put_before c o xs ≡ placed vs v c xs
placed_by vs v c [] None e = refl
placed_by vs v c [] (Some b) e = cc
placed_by vs v c (x ∷ xs) o e = by (is_at_least vs v x) refl (λ p q. placed_by vs v c xs p q)
  where
    by : (b : Bool) → is_at_least vs v x ≡ b
        → ((p : Option ℕ) → p ≡ find (is_at_least vs v) xs → put_before c p xs ≡ placed vs v c xs)
        → put_before c o (x ∷ xs) ≡ placed vs v c (x ∷ xs)
    by true q ih =
        ap (λ p. put_before c p (x ∷ xs))
        (e ∙ ap (λ t. cond t (Some x) (find (is_at_least vs v) xs)) q)
        ∙ (ap (λ t. cond t (c ∷ x ∷ xs) (x ∷ inserted c x xs)) (eq-eqb x x refl)
        ∙ sym (ap (λ t. cond t (c ∷ x ∷ xs) (x ∷ placed vs v c xs)) q))
    by false q ih = later o (e ∙ ap (λ t. cond t (Some x) (find (is_at_least vs v) xs)) q)
        ∙ sym (ap (λ t. cond t (c ∷ x ∷ xs) (x ∷ placed vs v c xs)) q)
      where
        later : (p : Option ℕ) → p ≡ find (is_at_least vs v) xs
            → put_before c p (x ∷ xs) ≡ x ∷ placed vs v c xs
        later None f = ap (λ ys. x ∷ ys) (ih None f)
        later (Some b) f =
            ap (λ t. cond t (c ∷ x ∷ xs) (x ∷ inserted c b xs)) (ne_eqb x b (differ b f))
            ∙ ap (λ ys. x ∷ ys) (ih (Some b) f)
          where
            differ : (b : ℕ) → Some b ≡ find (is_at_least vs v) xs → x ≡ b → ⊥
            differ b f s =
                both_ways (is_at_least vs v x) q
                (ap (is_at_least vs v) s ∙ found_true (is_at_least vs v) xs b (sym f))

pub has-placed : (vs : List Mixed) (v : Mixed) (c : ℕ) (xs : List ℕ) (d : ℕ)
    → has (placed vs v c xs) d ≡ true → (d ≡ c) ⊎ (has xs d ≡ true)
has-placed vs v c [] d h =
    elim (or_cases (c == d) false h) [ inl s ↦ inl (sym (eqb-true c d s)) | inr t ↦ inr t ]
has-placed vs v c (x ∷ xs) d h = by (is_at_least vs v x) h (λ q. has-placed vs v c xs d q)
  where
    by : (b : Bool) → has (cond b (c ∷ x ∷ xs) (x ∷ placed vs v c xs)) d ≡ true
        → (has (placed vs v c xs) d ≡ true → (d ≡ c) ⊎ (has xs d ≡ true)) → (d ≡ c)
        ⊎ (has (x ∷ xs) d ≡ true)
    by true q ih =
        elim (or_cases (c == d) (has (x ∷ xs) d) q)
        [ inl s ↦ inl (sym (eqb-true c d s)) | inr t ↦ inr t ]
    by false q ih = elim (or_cases (x == d) (has (placed vs v c xs) d) q) [
      | inl s ↦ inr (or_left (x == d) (has xs d) s)
      | inr t ↦ elim (ih t) [ inl e ↦ inl e | inr u ↦ inr (has-later x d xs u) ]
    ]

-- the order of the leaves, and with one more
new_at_most : (vs : List Mixed) (v : Mixed) (c y : ℕ) → slice_get vs c ≡ Some v
    → is_at_least vs v y ≡ true → IsAtMost vs c y
new_at_most vs v c y e high a b ea eb g =
    let s : v ≡ a = let f : Some v ≡ Some a = sym e ∙ ea in cc in
    le_not_greater (mixed_cmp v b) (sym (at_least_by vs v b y eb) ∙ high)
    (ap (λ (w : Mixed). mixed_cmp w b) s ∙ g)

at_most_new : (vs : List Mixed) (v : Mixed) (c x : ℕ) → slice_get vs c ≡ Some v
    → is_at_least vs v x ≡ false → IsAtMost vs x c
at_most_new vs v c x e low a b ea eb g =
    let s : v ≡ b = let f : Some v ≡ Some b = sym e ∙ eb in cc in
    let back : mixed_cmp b a ≡ Less = mixed_cmp_total.antisymm b a ∙ ap ordering_reverse g in
    let l : is_le (mixed_cmp v a) ≡ true =
    ap (λ (w : Mixed). is_le (mixed_cmp w a)) s ∙ ap is_le back in
    both_ways (is_at_least vs v x) low (at_least_by vs v a x ea ∙ l)

pub rising_with : (vs : List Mixed) (v : Mixed) (c : ℕ) (xs : List ℕ) → slice_get vs c ≡ Some v
    → ((d : ℕ) → has xs d ≡ true → d < length vs) → IsRising vs xs → IsRising vs (placed vs v c xs)
rising_with vs v c [] e known r = (λ y h. absurd (both_ways false refl h), tt)
rising_with vs v c (x ∷ xs) e known r =
    by (is_at_least vs v x) refl (rising_with vs v c xs e (λ d h. known d (has-later x d xs h)) r.1)
  where
    by : (b : Bool) → is_at_least vs v x ≡ b → IsRising vs (placed vs v c xs)
        → IsRising vs (cond b (c ∷ x ∷ xs) (x ∷ placed vs v c xs))
    by true q ih = (
      λ y hy. new_at_most vs v c y e (elim (or_cases (x == y) (has xs y) hy) [
        | inl s ↦ ap (is_at_least vs v) (sym (eqb-true x y s)) ∙ q
        | inr t ↦ (stays_at_least vs v (x ∷ xs) known r).0 q y t
      ]),
      r,
    )
    by false q ih = (
      λ y hy. elim (has-placed vs v c xs y hy) [
        | inl s ↦ subst (IsAtMost vs x) (sym s) (at_most_new vs v c x e q)
        | inr t ↦ r.0 y t
      ],
      ih,
    )

-- ---- other values elsewhere

-- the leaves have the same values in both
abbrev HaveSame : List Mixed → List Mixed → List ℕ → Type 0
HaveSame vs ws xs = (c : ℕ) → has xs c ≡ true → slice_get ws c ≡ slice_get vs c

rising_same : (vs ws : List Mixed) (xs : List ℕ) → HaveSame vs ws xs → IsRising vs xs
    → IsRising ws xs
rising_same vs ws [] same r = tt
rising_same vs ws (x ∷ xs) same r = (
  λ y hy a b ea eb. r.0 y hy a b (sym (same x (has-here x xs)) ∙ ea)
      (sym (same y (has-later x y xs hy)) ∙ eb),
  rising_same vs ws xs (λ c h. same c (has-later x c xs h)) r.1,
)

placed_same : (vs ws : List Mixed) (v : Mixed) (c : ℕ) (xs : List ℕ) → HaveSame vs ws xs
    → placed ws v c xs ≡ placed vs v c xs
placed_same vs ws v c [] same = refl
placed_same vs ws v c (x ∷ xs) same =
    ap (λ t. cond t (c ∷ x ∷ xs) (x ∷ placed ws v c xs)) (ap (at_most v) (same x (has-here x xs)))
    ∙ ap (λ ys. cond (is_at_least vs v x) (c ∷ x ∷ xs) (x ∷ ys))
    (placed_same vs ws v c xs (λ d h. same d (has-later x d xs h)))

pub rising_placed : (vs : List Mixed) (v : Mixed) (xs : List ℕ)
    → ((c : ℕ) → has xs c ≡ true → c < length vs) → IsRising vs xs
    → IsRising (vs ++ v ∷ []) (placed vs v (length vs) xs)
rising_placed vs v xs known r =
    let ws = vs ++ v ∷ [] in
    let more = length-append vs (v ∷ []) in
    let same : HaveSame vs ws xs = λ c h. slice_get_push vs v c (known c h) in
    subst (IsRising ws) (placed_same vs ws v (length vs) xs same)
    (rising_with ws v (length vs) xs (slice_get_new vs v) (λ c h. let k = known c h in omega arith)
    (rising_same vs ws xs same r))

-- another value of a leaf that is not among them
pub rising_set : (vs : List Mixed) (i : ℕ) (v : Mixed) (xs : List ℕ) → has xs i ≡ false
    → IsRising vs xs → IsRising (slice_set vs i v) xs
rising_set vs i v xs out r =
    rising_same vs (slice_set vs i v) xs
    (λ c h. slice_get_other vs i v c
    (λ s. both_ways (has xs i) out (subst (λ k. has xs k ≡ true) s h))) r

-- ---- one leaf less

pub has-less : (c : ℕ) (xs : List ℕ) (d : ℕ) → has (without c xs) d ≡ true → has xs d ≡ true
has-less c xs d h = (and_parts (has xs d) (not (c == d)) (sym (has-without c xs d) ∙ h)).0

pub rising_without : (vs : List Mixed) (c : ℕ) (xs : List ℕ) → IsRising vs xs
    → IsRising vs (without c xs)
rising_without vs c [] r = tt
rising_without vs c (x ∷ xs) r = by (not (c == x)) (rising_without vs c xs r.1)
  where
    by : (b : Bool) → IsRising vs (without c xs)
        → IsRising vs (cond b (x ∷ without c xs) (without c xs))
    by true ih = (λ y hy. r.0 y (has-less c xs y hy), ih)
    by false ih = ih

pub without_out : (c : ℕ) (xs : List ℕ) → has (without c xs) c ≡ false
without_out c xs =
    false_from_ne_true (has (without c xs) c)
    (λ h. both_ways (c == c)
    (not-true (c == c) (and_parts (has xs c) (not (c == c)) (sym (has-without c xs c) ∙ h)).1)
    (eq-eqb c c refl))
