-- The first option, the option that comes next, and the last.
use Rattle.std.proofs.Common.{◌≡◌, ⊎_elim, ℕ, ◌^◌, ◌<◌, ◌≤◌, ◌==◌, Bool, true, false, ◌||◌, List}
use Rattle.std.proofs.Common.{[], ◌∷◌, refl, sym, ◌∙◌, subst, arith, Some, None, lit<, inl, inr}
use Rattle.std.proofs.Common.{◌⊎◌}
use Rattle.std.proofs.lemmas.Bool.{cases_order, eq-eqb, eqb-true, or_cases, or_left, or_right}
use Rattle.std.proofs.lemmas.Bool.{both_ways, cases_Bool}
use Rattle.std.proofs.Math.Nat.{pow-le-pow_right}
use Rattle.number_sets.specs.Sets.{has, first, IsBelowAll, IsRising, IsSet, IsWithin, Avoids}
use Rattle.number_sets.specs.Sets.{mask_of}
use Rattle.number_sets.specs.Options.{IsBetween, IsOption, IsFirstOption, IsNextOption}
use Rattle.number_sets.specs.Options.{IsLastOption}
use Rattle.number_sets.proofs.SetLemmas.{has_below, below_from}
use Rattle.number_sets.proofs.MaskOrder.{IsLessAt, Compared, compared, mask-less, mask-within}
use Rattle.number_sets.proofs.MaskOrder.{mask-weight, weight-same}

-- k is the least free number that s lacks, and r is s with k and without the free numbers below it
pub record IsCarried (free s r : ℕ → Bool) (k : ℕ) : Type 0 where
  pub is_free : free k ≡ true
  pub was_out : s k ≡ false
  pub were_in : (v : ℕ) → v < k → free v ≡ true → s v ≡ true
  pub is_in : r k ≡ true
  pub are_out : (v : ℕ) → v < k → free v ≡ true → r v ≡ false
  pub same_below : (v : ℕ) → v < k → free v ≡ false → r v ≡ s v
  pub same_above : (v : ℕ) → k < v → r v ≡ s v

module _ (n : ℕ) (base free : List ℕ) (base_set : IsSet n base) (free_set : IsSet n free)
    (apart : Avoids (has base) (has free)) where
  pub between_set : (t : List ℕ) → IsBetween base free t → IsSet n t
  between_set t b = record {
    rising = b.rising;
    below =
        below_from n t
        (λ u e. ⊎_elim (λ x. has_below n base u base_set.below x)
        (λ y. has_below n free u free_set.below y)
        (or_cases (has base u) (has free u) (b.within u e)));
  }

  -- what is in one of two sets between and not in the other is free
  differs_free : (s t : List ℕ) (u : ℕ) → IsBetween base free s → IsBetween base free t
      → has s u ≡ false → has t u ≡ true → has free u ≡ true
  differs_free s t u bs bt out held =
      ⊎_elim (λ x. absurd (both_ways (has s u) out (bs.has_base u x))) (λ y. y)
      (or_cases (has base u) (has free u) (bt.within u held))

  module _ (s r : List ℕ) (k : ℕ) (bs : IsBetween base free s) (r_rising : IsRising r)
      (c : IsCarried (has free) (has s) (has r) k) where
    not_base : (u : ℕ) → has free u ≡ true → has base u ≡ true → ⊥
    not_base u f b = apart u b f

    carried_between : IsBetween base free r
    carried_between = record {
      rising = r_rising;
      has_base = λ u e. kept_base u e (cases_order u k);
      within = λ u e. from_r u e (cases_order u k);
    }
      where
        not_free : (u : ℕ) → has base u ≡ true → has free u ≡ false
        not_free u e = ⊎_elim (λ q. absurd (apart u e q)) (λ q. q) (cases_Bool (has free u))

        kept_base : (u : ℕ) → has base u ≡ true → (u ≡ k) ⊎ ((u < k) ⊎ (k < u)) → has r u ≡ true
        kept_base u e (inl q) = subst (λ v. has r v ≡ true) (sym q) c.is_in
        kept_base u e (inr (inl lt)) = c.same_below u lt (not_free u e) ∙ bs.has_base u e
        kept_base u e (inr (inr gt)) = c.same_above u gt ∙ bs.has_base u e

        from_r : (u : ℕ) → has r u ≡ true → (u ≡ k) ⊎ ((u < k) ⊎ (k < u))
            → (has base u || has free u) ≡ true
        from_r u e (inl q) =
            or_right (has base u) (has free u) (subst (λ v. has free v ≡ true) (sym q) c.is_free)
        from_r u e (inr (inl lt)) =
            ⊎_elim (λ f. or_right (has base u) (has free u) f)
            (λ f. bs.within u (sym (c.same_below u lt f) ∙ e)) (cases_Bool (has free u))
        from_r u e (inr (inr gt)) = bs.within u (sym (c.same_above u gt) ∙ e)

    k_below : k < n
    k_below = has_below n free k free_set.below c.is_free

    s_set : IsSet n s
    s_set = between_set s bs

    r_set : IsSet n r
    r_set = between_set r carried_between

    -- a set that differs from s at a greatest number, which it has
    least_at : (t : List ℕ) (d : ℕ) → IsBetween base free t → IsLessAt n (has s) (has t) d → (d ≡ k)
        ⊎ ((d < k) ⊎ (k < d)) → mask_of r ≤ mask_of t
    least_at t d bt l (inr (inl lt)) =
        absurd
        (both_ways (has s d) l.lacks (c.were_in d lt (differs_free s t d bs bt l.lacks l.holds)))
    least_at t d bt l (inr (inr gt)) =
        let less = mask-less n r t d r_set (between_set t bt) record {
          within = l.within;
          lacks = c.same_above d gt ∙ l.lacks;
          holds = l.holds;
          above = λ v h w. c.same_above v (omega arith) ∙ l.above v h w;
        } in
        omega arith
    least_at t d bt l (inl q) =
        mask-within n r t r_set (between_set t bt) (λ u e. inside u e (cases_order u k))
      where
        inside : (u : ℕ) → has r u ≡ true → (u ≡ k) ⊎ ((u < k) ⊎ (k < u)) → has t u ≡ true
        inside u e (inl p) = subst (λ v. has t v ≡ true) (q ∙ sym p) l.holds
        inside u e (inr (inl lt)) =
            ⊎_elim (λ f. absurd (both_ways (has r u) (c.are_out u lt f) e))
            (λ f. ⊎_elim (λ b. bt.has_base u b) (λ g. absurd (both_ways (has free u) f g))
            (or_cases (has base u) (has free u) (bs.within u (sym (c.same_below u lt f) ∙ e))))
            (cases_Bool (has free u))
        inside u e (inr (inr gt)) = sym (l.above u (omega arith) (has_below n r u r_set.below e))
            ∙ (sym (c.same_above u gt) ∙ e)

    pub next_is : IsNextOption base free s r
    next_is = record {
      between = carried_between;
      greater =
          mask-less n s r k s_set r_set
          record {
            within = k_below;
            lacks = c.was_out;
            holds = c.is_in;
            above =
                λ v h w. sym (c.same_above v h);
          };
      least = λ t bt less. by_case t bt less (compared n (has s) (has t));
    }
      where
        by_case : (t : List ℕ) → IsBetween base free t → mask_of s < mask_of t
            → Compared n (has s) (has t) → mask_of r ≤ mask_of t
        by_case t bt less (inl same) =
            absurd (let a = mask-weight n s s_set in let b =
            mask-weight n t (between_set t bt) in let e =
            weight-same n (has s) (has t) same in omega arith)
        by_case t bt less (inr (inl l)) = least_at t l.0 bt l.1 (cases_order l.0 k)
        by_case t bt less (inr (inr l)) =
            absurd (let more = mask-less n t s l.0 (between_set t bt) s_set l.1 in omega arith)

  pub last_is : (s : List ℕ) → IsBetween base free s → IsWithin (has free) (has s)
      → IsLastOption base free s
  last_is s bs all t bt =
      mask-within n t s (between_set t bt) (between_set s bs)
      (λ u e. ⊎_elim (λ x. bs.has_base u x) (λ y. all u y)
      (or_cases (has base u) (has free u) (bt.within u e)))

  pub base_first : (base ≡ [] → ⊥) → IsFirstOption base free base
  base_first some = record {
    option =
        record {
          between =
              record {
                rising = base_set.rising;
                has_base = λ u e. e;
                within =
                    λ u e. or_left (has base u) (has free u) e;
              };
          some = some;
        };
    least = λ t o. mask-within n base t base_set (between_set t o.between) o.between.has_base;
  }

-- ---- the first option without a base

above_first : (u : ℕ) (fs : List ℕ) (x : ℕ) → IsBelowAll u fs → has fs x ≡ true → u < x
above_first u [] x b e = cc
above_first u (y ∷ ys) x b e =
    ⊎_elim (λ here. let g = eqb-true y x here in let c = b.0 in omega arith)
    (λ there. above_first u ys x b.1 there) (or_cases (y == x) (has ys x) e)

pub from_first : (free : List ℕ) (u x : ℕ) → IsRising free → first free ≡ Some u → has free x ≡ true
    → u ≤ x
from_first [] u x r e h = cc
from_first (y ∷ ys) u x r e h =
    let s : y ≡ u = cc in
    ⊎_elim (λ here. let g = eqb-true y x here in omega arith)
    (λ there. let g = above_first y ys x r.0 there in omega arith)
    (or_cases (y == x) (has ys x) h)

pub first_had : (free : List ℕ) (u : ℕ) → first free ≡ Some u → has free u ≡ true
first_had [] u e = cc
first_had (y ∷ ys) u e = or_left (y == u) (has ys u) (eq-eqb y u cc)

pub least_first : (free : List ℕ) (u : ℕ) → IsRising free → first free ≡ Some u
    → IsFirstOption [] free (u ∷ [])
least_first free u r e = record {
  option = record {
    between =
        record {
          rising = (tt, tt);
          has_base = λ v q. cc;
          within =
              λ v q. ⊎_elim
              (λ here. subst (λ w. has free w ≡ true) (eqb-true u v here) (first_had free u e))
              (λ there. cc) (or_cases (u == v) false q);
        };
    some = λ q. cc;
  };
  least = λ t o. at t o;
}
  where
    at : (t : List ℕ) → IsOption [] free t → mask_of (u ∷ []) ≤ mask_of t
    at [] o = absurd (o.some refl)
    at (x ∷ xs) o =
        let le =
        from_first free u x r e
        (o.between.within x (or_left (x == x) (has xs x) (eq-eqb x x refl))) in
        let p : 2 ^ u ≤ 2 ^ x = pow-le-pow_right {n = 2} (lit< tt) le in
        omega arith

pub first_none : (xs : List ℕ) → first xs ≡ None → xs ≡ []
first_none [] e = refl
first_none (x ∷ xs) e = cc
