-- The list of all options has just the options, in numeric order. So its first entry is the first
-- option, and after each option the next one follows.
use Rattle.std.proofs.Common.{◌≡◌, ⊎_elim, ℕ, ◌<◌, ◌≤◌, ◌==◌, true, false, ◌||◌, List, [], ◌∷◌}
use Rattle.std.proofs.Common.{◌++◌, refl, sym, ap, ◌∙◌, subst, arith, inl, inr, ◌⊎◌, eq-eqb}
use Rattle.std.proofs.Common.{eqb-true, ne_eqb}
use Rattle.std.proofs.lemmas.Bool.{cases_order, or_cases, or_left, or_right, or_from, and_from}
use Rattle.std.proofs.lemmas.Bool.{and_parts, both_ways, false_from_ne_true}
use Rattle.std.proofs.lemmas.Nat.{pow_pos}
use Rattle.number_sets.specs.Sets.{has, IsBelowAll, IsRising, IsSet, IsWithin, Avoids, mask_of}
use Rattle.number_sets.specs.Sets.{union, meet}
use Rattle.number_sets.specs.Options.{IsBetween, IsOption, IsFirstOption, IsNextOption}
use Rattle.number_sets.specs.Options.{IsLastOption, without_and_with, subsets, with_base}
use Rattle.number_sets.specs.Options.{non_empty}
use Rattle.number_sets.specs.Options.{all_options, IsIn, IsBelowEach, IsAscending}
use Rattle.number_sets.proofs.SetLemmas.{below_not_had, has_below, below_from, has-union}
use Rattle.number_sets.proofs.SetLemmas.{has-meet}
use Rattle.number_sets.proofs.SetLemmas.{IsRising-union, IsRising-kept, same_sets, same_tests}
use Rattle.number_sets.proofs.SetLemmas.{IsBelowAll-lower}
use Rattle.number_sets.proofs.MaskOrder.{IsLessAt, Compared, compared, mask-less, mask-weight}
use Rattle.number_sets.proofs.MaskOrder.{weight-same}
use Rattle.number_sets.proofs.OptionLemmas.{between_set}

-- ---- what is in a list

in_right : (t : List ℕ) (xs ys : List (List ℕ)) → IsIn t ys → IsIn t (xs ++ ys)
in_right t [] ys h = h
in_right t (x ∷ xs) ys h = inr (in_right t xs ys h)

pub below_each : (t s : List ℕ) (ss : List (List ℕ)) → IsBelowEach t ss → IsIn s ss
    → mask_of t < mask_of s
below_each t s [] b h = absurd h
below_each t s (r ∷ rs) b (inl e) = subst (λ k. mask_of t < mask_of k) (sym e) b.0
below_each t s (r ∷ rs) b (inr h) = below_each t s rs b.1 h

all_each : (t : List ℕ) (ss : List (List ℕ)) → ((s : List ℕ) → IsIn s ss → mask_of t < mask_of s)
    → IsBelowEach t ss
all_each t [] h = tt
all_each t (s ∷ ss) h = (h s (inl refl), all_each t ss (λ k q. h k (inr q)))

-- ---- sets with one number

-- sets below n with one number are equal
pub same-mask : (n : ℕ) (xs ys : List ℕ) → IsSet n xs → IsSet n ys → mask_of xs ≡ mask_of ys
    → xs ≡ ys
same-mask n xs ys r s e = at (compared n (has xs) (has ys))
  where
    has_same : ((u : ℕ) → u < n → has xs u ≡ has ys u) → (u : ℕ) → has xs u ≡ has ys u
    has_same h u =
        same_tests (has xs u) (has ys u) (λ q. sym (h u (has_below n xs u r.below q)) ∙ q)
        (λ q. h u (has_below n ys u s.below q) ∙ q)

    at : Compared n (has xs) (has ys) → xs ≡ ys
    at (inl same) = same_sets xs ys r.rising s.rising (has_same same)
    at (inr (inl l)) = absurd (let less = mask-less n xs ys l.0 r s l.1 in omega arith)
    at (inr (inr l)) = absurd (let less = mask-less n ys xs l.0 s r l.1 in omega arith)

-- the lesser of two sets lacks a number that the greater has, above which they agree
pub differ_at : (n : ℕ) (xs ys : List ℕ) → IsSet n xs → IsSet n ys → mask_of xs < mask_of ys
    → (d : ℕ) × IsLessAt n (has xs) (has ys) d
differ_at n xs ys r s less = at (compared n (has xs) (has ys))
  where
    at : Compared n (has xs) (has ys) → (d : ℕ) × IsLessAt n (has xs) (has ys) d
    at (inl same) =
        absurd (let a = mask-weight n xs r in let b = mask-weight n ys s in let e =
        weight-same n (has xs) (has ys) same in omega arith)
    at (inr (inl l)) = l
    at (inr (inr l)) = absurd (let more = mask-less n ys xs l.0 s r l.1 in omega arith)

-- ---- subsets

in_double : (u : ℕ) (t : List ℕ) (ts : List (List ℕ)) → IsIn t ts → IsIn t (without_and_with u ts)
    × IsIn (u ∷ t) (without_and_with u ts)
in_double u t [] h = absurd h
in_double u t (s ∷ ss) (inl e) = (inl e, inr (inl (ap (λ k. u ∷ k) e)))
in_double u t (s ∷ ss) (inr h) = let rest =
    in_double u t ss h in (inr (inr rest.0), inr (inr rest.1))

double_from : (u : ℕ) (t : List ℕ) (ts : List (List ℕ)) → IsIn t (without_and_with u ts)
    → IsIn t ts
    ⊎ ((s : List ℕ) × (t ≡ u ∷ s) × IsIn s ts)
double_from u t [] h = absurd h
double_from u t (s ∷ ss) (inl e) = inl (inl e)
double_from u t (s ∷ ss) (inr (inl e)) = inr (s, e, inl refl)
double_from u t (s ∷ ss) (inr (inr h)) =
    elim (double_from u t ss h) [ inl k ↦ inl (inr k) | inr k ↦ inr (k.0, k.1, inr k.2) ]

above_within : (u : ℕ) (us t : List ℕ) → IsBelowAll u us → IsWithin (has t) (has us)
    → IsBelowAll u t
above_within u us [] a w = tt
above_within u us (x ∷ xs) a w = (
  above u us x a (w x (or_left (x == x) (has xs x) (eq-eqb x x refl))),
  above_within u us xs a (λ v e. w v (or_right (x == v) (has xs v) e)),
)
  where
    above : (u : ℕ) (us : List ℕ) (x : ℕ) → IsBelowAll u us → has us x ≡ true → u < x
    above u [] x a e = absurd (both_ways false refl e)
    above u (y ∷ ys) x a e =
        ⊎_elim (λ q. let g = eqb-true y x q in let c = a.0 in omega arith)
        (λ q. above u ys x a.1 q)
        (or_cases (y == x) (has ys x) e)

pub subset_sound : (us t : List ℕ) → IsRising us → IsIn t (subsets us) → IsRising t
    × IsWithin (has t) (has us)
subset_sound [] t r (inl e) =
    subst (λ k. IsRising k × IsWithin (has k) (λ v. false)) (sym e) (tt, λ u q. q)
subset_sound [] t r (inr h) = absurd h
subset_sound (u ∷ us) t r h = at (double_from u t (subsets us) h) (λ s k. subset_sound us s r.1 k)
  where
    at : IsIn t (subsets us) ⊎ ((s : List ℕ) × (t ≡ u ∷ s) × IsIn s (subsets us))
        → ((s : List ℕ) → IsIn s (subsets us) → IsRising s × IsWithin (has s) (has us))
        → IsRising t
        × IsWithin (has t) (has (u ∷ us))
    at (inl k) ih = let s = ih t k in (s.0, λ v e. or_right (u == v) (has us v) (s.1 v e))
    at (inr (s, e, k)) ih =
        let h = ih s k in
        subst (λ k. IsRising k × IsWithin (has k) (has (u ∷ us))) (sym e) (
          (above_within u us s r.0 h.1, h.0),
          λ v q. ⊎_elim (λ p. or_left (u == v) (has us v) p)
              (λ p. or_right (u == v) (has us v) (h.1 v p)) (or_cases (u == v) (has s v) q),
        )

pub subset_complete : (us t : List ℕ) → IsRising us → IsRising t → IsWithin (has t) (has us)
    → IsIn t (subsets us)
subset_complete [] [] r s w = inl refl
subset_complete [] (x ∷ xs) r s w =
    absurd (both_ways false refl (w x (or_left (x == x) (has xs x) (eq-eqb x x refl))))
subset_complete (u ∷ us) [] r s w =
    (in_double u [] (subsets us)
    (subset_complete us [] r.1 tt (λ v e. absurd (both_ways false refl e)))).0
subset_complete (u ∷ us) (x ∷ xs) r s w =
    at (λ t b c. subset_complete us t r.1 b c) (cases_order u x)
  where
    -- what is above u and within u ∷ us is within us
    rest : (t : List ℕ) → IsBelowAll u t → IsWithin (has t) (has (u ∷ us))
        → IsWithin (has t) (has us)
    rest t a k v e =
        ⊎_elim
        (λ q. absurd
        (both_ways (has t v) (below_not_had u v t (let g = eqb-true u v q in omega arith) a) e))
        (λ q. q) (or_cases (u == v) (has us v) (k v e))

    at : ((t : List ℕ) → IsRising t → IsWithin (has t) (has us) → IsIn t (subsets us)) → (u ≡ x)
        ⊎ ((u < x) ⊎ (x < u)) → IsIn (x ∷ xs) (subsets (u ∷ us))
    at ih (inl e) =
        let a : IsBelowAll u xs = subst (λ k. IsBelowAll k xs) (sym e) s.0 in
        subst (λ k. IsIn (k ∷ xs) (without_and_with u (subsets us))) e
        (in_double u xs (subsets us)
        (ih xs s.1 (rest xs a (λ v q. w v (or_right (x == v) (has xs v) q))))).1
    at ih (inr (inl lt)) =
        let a : IsBelowAll u (x ∷ xs) = (lt, IsBelowAll-lower u x xs (omega arith) s.0) in
        (in_double u (x ∷ xs) (subsets us) (ih (x ∷ xs) s (rest (x ∷ xs) a w))).0
    at ih (inr (inr gt)) =
        absurd
        (both_ways (has (u ∷ us) x)
        (or_from (u == x) (has us x) (ne_eqb u x (λ e. omega arith))
        (below_not_had u x us (omega arith) r.0))
        (w x (or_left (x == x) (has xs x) (eq-eqb x x refl))))

-- ---- in numeric order

module _ (n : ℕ) where
  subset_set : (us t : List ℕ) → IsSet n us → IsIn t (subsets us) → IsSet n t
  subset_set us t s h = let k = subset_sound us t s.rising h in
      record { rising = k.0; below = below_from n t (λ u e. has_below n us u s.below (k.1 u e)) }

  -- with u, which is below all, a set stays below a greater one
  with_below : (u : ℕ) (t s : List ℕ) → u < n → IsSet n t → IsSet n s → IsBelowAll u t
      → IsBelowAll u s → mask_of t < mask_of s → mask_of (u ∷ t) < mask_of s
  with_below u t s lt a b p q less = at (differ_at n t s a b less)
    where
      at : ((d : ℕ) × IsLessAt n (has t) (has s) d) → mask_of (u ∷ t) < mask_of s
      at (d, l) =
          ⊎_elim (λ le. absurd (both_ways (has s d) (below_not_had u d s le q) l.holds))
          (λ gt. above gt) (cases_le d u)
        where
          cases_le : (d u : ℕ) → (d ≤ u) ⊎ (u < d)
          cases_le d u =
              elim (cases_order d u) [
                | inl e ↦ inl (omega arith)
                | inr r
                    ↦ elim r [ inl lt ↦ inl (omega arith) | inr gt ↦ inr gt ]
              ]

          above : u < d → mask_of (u ∷ t) < mask_of s
          above gt =
              mask-less n (u ∷ t) s d record { rising = (p, a.rising); below = (lt, a.below) } b
              record {
                within = l.within;
                lacks = or_from (u == d) (has t d) (ne_eqb u d (λ e. omega arith)) l.lacks;
                holds = l.holds;
                above = λ v h k. ap (λ c. c || has t v) (ne_eqb u v (λ e. omega arith))
                    ∙ l.above v h k;
              }

  doubled : (u : ℕ) (ts : List (List ℕ)) → u < n
      → ((t : List ℕ) → IsIn t ts → IsSet n t × IsBelowAll u t) → IsAscending ts
      → IsAscending (without_and_with u ts)
  doubled u [] lt a up = tt
  doubled u (t ∷ ts) lt a up = (first, (second, doubled u ts lt (λ s h. a s (inr h)) up.1))
    where
      more : (s : List ℕ) → mask_of s < mask_of (u ∷ s)
      more s = omega (arith, pow_pos u)

      plain : (s : List ℕ) → IsIn s (without_and_with u ts) → mask_of t < mask_of s
      plain s h = at (double_from u s ts h)
        where
          at : IsIn s ts ⊎ ((r : List ℕ) × (s ≡ u ∷ r) × IsIn r ts) → mask_of t < mask_of s
          at (inl k) = below_each t s ts up.0 k
          at (inr (r, e, k)) =
              subst (λ x. mask_of t < mask_of x) (sym e)
              (let b = below_each t r ts up.0 k in let m = more r in omega arith)

      with_u : (s : List ℕ) → IsIn s (without_and_with u ts) → mask_of (u ∷ t) < mask_of s
      with_u s h = at (double_from u s ts h)
        where
          at : IsIn s ts ⊎ ((r : List ℕ) × (s ≡ u ∷ r) × IsIn r ts) → mask_of (u ∷ t) < mask_of s
          at (inl k) = let x = a t (inl refl) in let y =
              a s (inr k) in with_below u t s lt x.0 y.0 x.1 y.1 (below_each t s ts up.0 k)
          at (inr (r, e, k)) =
              subst (λ x. mask_of (u ∷ t) < mask_of x) (sym e)
              (let b = below_each t r ts up.0 k in omega arith)

      first : IsBelowEach t ((u ∷ t) ∷ without_and_with u ts)
      first = (more t, all_each t (without_and_with u ts) plain)

      second : IsBelowEach (u ∷ t) (without_and_with u ts)
      second = all_each (u ∷ t) (without_and_with u ts) with_u

  subsets_ascend : (us : List ℕ) → IsSet n us → IsAscending (subsets us)
  subsets_ascend [] s = (tt, tt)
  subsets_ascend (u ∷ us) s =
      let rest : IsSet n us = record { rising = s.rising.1; below = s.below.1 } in
      doubled u (subsets us) s.below.0
      (λ t h. (
        subset_set us t rest h,
        above_within u us t s.rising.0 (subset_sound us t rest.rising h).1,
      ))
      (subsets_ascend us rest)

-- ---- with a base

in_base : (base t : List ℕ) (ts : List (List ℕ)) → IsIn t ts
    → IsIn (union base t) (with_base base ts)
in_base base t [] h = absurd h
in_base base t (s ∷ ss) (inl e) = inl (ap (λ k. union base k) e)
in_base base t (s ∷ ss) (inr h) = inr (in_base base t ss h)

base_from : (base t : List ℕ) (ts : List (List ℕ)) → IsIn t (with_base base ts) → (s : List ℕ)
    × (t ≡ union base s) × IsIn s ts
base_from base t [] h = absurd h
base_from base t (s ∷ ss) (inl e) = (s, e, inl refl)
base_from base t (s ∷ ss) (inr h) = let k = base_from base t ss h in (k.0, k.1, inr k.2)

in_non_empty : (t : List ℕ) (ts : List (List ℕ)) → (t ≡ [] → ⊥) → IsIn t ts
    → IsIn t (non_empty ts)
in_non_empty t [] some h = h
in_non_empty t ([] ∷ ts) some (inl e) = absurd (some e)
in_non_empty t ([] ∷ ts) some (inr h) = in_non_empty t ts some h
in_non_empty t ((u ∷ us) ∷ ts) some (inl e) = inl e
in_non_empty t ((u ∷ us) ∷ ts) some (inr h) = inr (in_non_empty t ts some h)

non_empty_from : (t : List ℕ) (ts : List (List ℕ)) → IsIn t (non_empty ts) → (t ≡ [] → ⊥)
    × IsIn t ts
non_empty_from t [] h = absurd h
non_empty_from t ([] ∷ ts) h = let k = non_empty_from t ts h in (k.0, inr k.1)
non_empty_from t ((u ∷ us) ∷ ts) (inl e) = (λ q. cc (e, q), inl e)
non_empty_from t ((u ∷ us) ∷ ts) (inr h) = let k = non_empty_from t ts h in (k.0, inr k.1)

non_empty_ascends : (ts : List (List ℕ)) → IsAscending ts → IsAscending (non_empty ts)
non_empty_ascends [] up = tt
non_empty_ascends ([] ∷ ts) up = non_empty_ascends ts up.1
non_empty_ascends ((u ∷ us) ∷ ts) up = (
  all_each (u ∷ us) (non_empty ts)
      (λ s h. below_each (u ∷ us) s ts up.0 (non_empty_from s ts h).1),
  non_empty_ascends ts up.1,
)

module _ (n : ℕ) (base free : List ℕ) (base_set : IsSet n base) (free_set : IsSet n free)
    (apart : Avoids (has base) (has free)) where
  joined_between : (s : List ℕ) → IsRising s → IsWithin (has s) (has free)
      → IsBetween base free (union base s)
  joined_between s r w = record {
    rising = IsRising-union base s r;
    has_base = λ u e. has-union base s u ∙ or_left (has base u) (has s u) e;
    within =
        λ u e. ⊎_elim (λ b. or_left (has base u) (has free u) b)
        (λ f. or_right (has base u) (has free u) (w u f))
        (or_cases (has base u) (has s u) (sym (has-union base s u) ∙ e));
  }

  -- a set between is the base united with its free numbers
  split_between : (t : List ℕ) → IsBetween base free t → t ≡ union base (meet t free)
  split_between t b =
      same_sets t (union base (meet t free)) b.rising
      (IsRising-union base (meet t free) (IsRising-kept (has free) t b.rising)) (λ u.
      same_tests (has t u) (has (union base (meet t free)) u)
      (λ e. has-union base (meet t free) u
      ∙ ⊎_elim (λ p. or_left (has base u) (has (meet t free) u) p)
      (λ f. or_right (has base u) (has (meet t free) u)
      (has-meet t free u ∙ and_from (has t u) (has free u) e f))
      (or_cases (has base u) (has free u) (b.within u e)))
      (λ e. ⊎_elim (λ p. b.has_base u p)
      (λ f. (and_parts (has t u) (has free u) (sym (has-meet t free u) ∙ f)).0)
      (or_cases (has base u) (has (meet t free) u) (sym (has-union base (meet t free) u) ∙ e))))

  pub option_in : (t : List ℕ) → IsOption base free t → IsIn t (all_options base free)
  option_in t o =
      let b = o.between in
      let part =
      subset_complete free (meet t free) free_set.rising (IsRising-kept (has free) t b.rising)
      (λ u e. (and_parts (has t u) (has free u) (sym (has-meet t free u) ∙ e)).1) in
      in_non_empty t (with_base base (subsets free)) o.some
      (subst (λ k. IsIn k (with_base base (subsets free))) (sym (split_between t b))
      (in_base base (meet t free) (subsets free) part))

  pub in_option : (t : List ℕ) → IsIn t (all_options base free) → IsOption base free t
  in_option t h =
      let k = non_empty_from t (with_base base (subsets free)) h in
      let s = base_from base t (subsets free) k.1 in
      let r = subset_sound free s.0 free_set.rising s.2 in
      record {
        between = subst (λ x. IsBetween base free x) (sym s.1) (joined_between s.0 r.0 r.1);
        some = k.0;
      }

  -- the base does not change the order of two sets of free numbers
  joined_less : (t s : List ℕ) → IsIn t (subsets free) → IsIn s (subsets free)
      → mask_of t < mask_of s → mask_of (union base t) < mask_of (union base s)
  joined_less t s it is less =
      let kt = subset_sound free t free_set.rising it in
      let ks = subset_sound free s free_set.rising is in
      let d =
      differ_at n t s (subset_set n free t free_set it) (subset_set n free s free_set is)
      less in
      let l = d.1 in
      let not_base : has base d.0 ≡ false =
      false_from_ne_true (has base d.0) (λ e. apart d.0 e (ks.1 d.0 l.holds)) in
      mask-less n (union base t) (union base s) d.0
      (between_set n base free base_set free_set apart (union base t)
      (joined_between t kt.0 kt.1))
      (between_set n base free base_set free_set apart (union base s)
      (joined_between s ks.0 ks.1))
      record {
        within = l.within;
        lacks = has-union base t d.0 ∙ or_from (has base d.0) (has t d.0) not_base l.lacks;
        holds = has-union base s d.0 ∙ or_right (has base d.0) (has s d.0) l.holds;
        above = λ v h k. has-union base t v
            ∙ (ap (λ c. has base v || c) (l.above v h k) ∙ sym (has-union base s v));
      }

  joined_ascend : (ts : List (List ℕ)) → ((t : List ℕ) → IsIn t ts → IsIn t (subsets free))
      → IsAscending ts → IsAscending (with_base base ts)
  joined_ascend [] h up = tt
  joined_ascend (t ∷ ts) h up = (
    all_each (union base t) (with_base base ts) (λ s k.
        let r = base_from base s ts k in
        subst (λ x. mask_of (union base t) < mask_of x) (sym r.1)
        (joined_less t r.0 (h t (inl refl)) (h r.0 (inr r.2)) (below_each t r.0 ts up.0 r.2))),
    joined_ascend ts (λ s k. h s (inr k)) up.1,
  )

  pub options_ascend : IsAscending (all_options base free)
  options_ascend =
      non_empty_ascends (with_base base (subsets free))
      (joined_ascend (subsets free) (λ t h. h) (subsets_ascend n free free_set))

  -- ---- the walk along the options

  -- if the whole list rises, the options after the first ones rise too
  rest_ascends : (ys ts : List (List ℕ)) → IsAscending (ys ++ ts) → IsAscending ts
  rest_ascends [] ts up = up
  rest_ascends (y ∷ ys) ts up = rest_ascends ys ts up.1

  before_rest : (ys : List (List ℕ)) (t : List ℕ) (ts : List (List ℕ)) (x : List ℕ)
      → IsAscending (ys ++ t ∷ ts) → IsIn x (ys ++ t ∷ ts) → (mask_of x ≤ mask_of t) ⊎ IsIn x ts
  before_rest [] t ts x up (inl e) =
      inl (subst (λ k. mask_of k ≤ mask_of t) (sym e) (omega arith))
  before_rest [] t ts x up (inr h) = inr h
  before_rest (y ∷ ys) t ts x up (inl e) =
      inl (subst (λ k. mask_of k ≤ mask_of t) (sym e)
      (let less = below_each y t (ys ++ t ∷ ts) up.0 (in_right t ys (t ∷ ts) (inl refl)) in
      omega arith))
  before_rest (y ∷ ys) t ts x up (inr h) = before_rest ys t ts x up.1 h

  -- a set with a greater number than some other set is not empty
  more_is_option : (s t : List ℕ) → IsBetween base free t → mask_of s < mask_of t
      → IsOption base free t
  more_is_option s t b less =
      record { between = b; some = λ e. at (subst (λ k. mask_of s < mask_of k) e less) }
    where
      at : mask_of s < 0 → ⊥
      at h = omega (arith, h)

  pub head_is_first : (t : List ℕ) (ts : List (List ℕ)) → all_options base free ≡ t ∷ ts
      → IsFirstOption base free t
  head_is_first t ts e = record {
    option = in_option t (subst (λ k. IsIn t k) (sym e) (inl refl));
    least = λ s o. at s (subst (λ k. IsIn s k) e (option_in s o));
  }
    where
      up : IsAscending (t ∷ ts)
      up = subst IsAscending e options_ascend

      at : (s : List ℕ) → IsIn s (t ∷ ts) → mask_of t ≤ mask_of s
      at s (inl q) = subst (λ k. mask_of t ≤ mask_of k) (sym q) (omega arith)
      at s (inr h) = let less = below_each t s ts up.0 h in omega arith

  pub step_is_next : (ys : List (List ℕ)) (t s : List ℕ) (ts : List (List ℕ))
      → all_options base free ≡ ys ++ t ∷ s ∷ ts → IsNextOption base free t s
  step_is_next ys t s ts e = record {
    between =
        (in_option s
        (subst (λ k. IsIn s k) (sym e) (in_right s ys (t ∷ s ∷ ts) (inr (inl refl))))).between;
    greater = (rest_ascends ys (t ∷ s ∷ ts) up).0.0;
    least =
        λ x b less. at x less
        (before_rest ys t (s ∷ ts) x up
        (subst (λ k. IsIn x k) e (option_in x (more_is_option t x b less))));
  }
    where
      up : IsAscending (ys ++ t ∷ s ∷ ts)
      up = subst IsAscending e options_ascend

      at : (x : List ℕ) → mask_of t < mask_of x → (mask_of x ≤ mask_of t) ⊎ IsIn x (s ∷ ts)
          → mask_of s ≤ mask_of x
      at x less (inl le) = absurd (omega (arith, less, le))
      at x less (inr (inl q)) = subst (λ k. mask_of s ≤ mask_of k) (sym q) (omega arith)
      at x less (inr (inr h)) = let more =
          below_each s x ts (rest_ascends ys (t ∷ s ∷ ts) up).1.0 h in omega arith

  pub end_is_last : (ys : List (List ℕ)) (t : List ℕ) → all_options base free ≡ ys ++ t ∷ []
      → IsLastOption base free t
  end_is_last ys t e x b = elim (cases_order (mask_of t) (mask_of x)) [
    | inl same ↦ omega arith
    | inr r ↦ elim r [
      | inl less
          ↦ elim
          (before_rest ys t [] x (subst IsAscending e options_ascend)
          (subst (λ k. IsIn x k) e (option_in x (more_is_option t x b less))))
          [ inl le ↦ le | inr h ↦ absurd h ]
      | inr gt ↦ omega arith
    ]
  ]

  -- there is one first option, and one that comes next
  pub one_first : (r s : List ℕ) → IsFirstOption base free r → IsFirstOption base free s → r ≡ s
  one_first r s a b =
      let p = a.least s b.option in
      let q = b.least r a.option in
      same-mask n r s (between_set n base free base_set free_set apart r a.option.between)
      (between_set n base free base_set free_set apart s b.option.between) (omega arith)

  pub one_next : (t r s : List ℕ) → IsNextOption base free t r → IsNextOption base free t s
      → r ≡ s
  one_next t r s a b =
      let p = a.least s b.between b.greater in
      let q = b.least r a.between a.greater in
      same-mask n r s (between_set n base free base_set free_set apart r a.between)
      (between_set n base free base_set free_set apart s b.between) (omega arith)
