-- There is at most one listing. It begins with the first structure after `after`, and goes on with
-- the listing after that.
use Rattle.std.proofs.Common.{◌≡◌, ℕ, Bool, List, [], ◌∷◌, ◌++◌, refl, sym, ap, ap₂, ◌∙◌, subst}
use Rattle.std.proofs.Common.{inl, inr, ◌⊎◌, Option, Some, None}
use Rattle.number_sets.specs.Sets.{has}
use Rattle.pns_rules.specs.Shape.{Shape}
use Rattle.pns_rules.specs.Trace.{IsBefore}
use Rattle.number_sets.proofs.Cited.{same_sets}
use Rattle.number_sets.specs.Options.{IsIn}
use Rattle.pns_rules.specs.Listing.{IsLater, IsListed, IsBeforeAll, IsInOrder, IsListing}
use Rattle.pns_rules.proofs.OrderLemmas.{before_strict, before_trans, before_not_after}

-- the two sets are the same, or the first is before the second
abbrev pub IsUpTo : Shape → (ℕ → Bool) → (ℕ → Bool) → Type 0
IsUpTo g s t = ((u : ℕ) → s u ≡ t u) ⊎ IsBefore g s t

module _ (g : Shape) where
  -- s is before each set of the list
  pub in_after : (s t : List ℕ) (ts : List (List ℕ)) → IsBeforeAll g s ts → IsIn t ts
      → IsBefore g (has s) (has t)
  in_after s t [] b h = absurd h
  in_after s t (x ∷ ts) b (inl e) = subst (λ k. IsBefore g (has s) (has k)) (sym e) b.0
  in_after s t (x ∷ ts) b (inr h) = in_after s t ts b.1 h

  pub all_after : (s : List ℕ) (ts : List (List ℕ))
      → ((t : List ℕ) → IsIn t ts → IsBefore g (has s) (has t)) → IsBeforeAll g s ts
  all_after s [] h = tt
  all_after s (t ∷ ts) h = (h t (inl refl), all_after s ts (λ k q. h k (inr q)))

  -- two lists in order with the same members are equal
  pub same_lists : (xs ys : List (List ℕ)) → IsInOrder g xs → IsInOrder g ys
      → ((s : List ℕ) → IsIn s xs → IsIn s ys) → ((s : List ℕ) → IsIn s ys → IsIn s xs) → xs ≡ ys
  same_lists [] [] a b to from = refl
  same_lists [] (y ∷ ys) a b to from = absurd (from y (inl refl))
  same_lists (x ∷ xs) [] a b to from = absurd (to x (inl refl))
  same_lists (x ∷ xs) (y ∷ ys) a b to from =
      let e = heads (to x (inl refl)) (from y (inl refl)) in
      ap₂ (λ z zs. z ∷ zs) e
      (same_lists xs ys a.1 b.1 (λ s h. later_to s h (to s (inr h)) e)
      (λ s h. later_from s h (from s (inr h)) e))
    where
      heads : IsIn x (y ∷ ys) → IsIn y (x ∷ xs) → x ≡ y
      heads (inl e) k = e
      heads (inr h) (inl e) = sym e
      heads (inr h) (inr k) =
          absurd
          (before_not_after g (has x) (has y) (in_after x y xs a.0 k) (in_after y x ys b.0 h))

      later_to : (s : List ℕ) → IsIn s xs → IsIn s (y ∷ ys) → x ≡ y → IsIn s ys
      later_to s h (inl q) e =
          absurd
          (before_strict g (has s)
          (subst (λ k. IsBefore g (has k) (has s)) (e ∙ sym q) (in_after x s xs a.0 h)))
      later_to s h (inr k) e = k

      later_from : (s : List ℕ) → IsIn s ys → IsIn s (x ∷ xs) → x ≡ y → IsIn s xs
      later_from s h (inl q) e =
          absurd
          (before_strict g (has s)
          (subst (λ k. IsBefore g (has k) (has s)) (sym e ∙ sym q) (in_after y s ys b.0 h)))
      later_from s h (inr k) e = k

pub listing_is_one : (g : Shape) (after : Option (List ℕ)) (xs ys : List (List ℕ))
    → IsListing g after xs → IsListing g after ys → xs ≡ ys
listing_is_one g after xs ys a b =
    same_lists g xs ys a.in_order b.in_order (λ s h. b.has_all s (a.no_more s h))
    (λ s h. a.has_all s (b.no_more s h))

module _ (g : Shape) (after : Option (List ℕ)) where
  pub listing_ends : ((s : List ℕ) → IsListed g after s → ⊥) → IsListing g after []
  listing_ends none = record { in_order = tt; has_all = λ s h. none s h; no_more = λ s h. absurd h }

  -- what is later than a later structure is later
  later_still : (r s : List ℕ) (o : Option (List ℕ)) → IsLater g o (has r)
      → IsBefore g (has r) (has s) → IsLater g o (has s)
  later_still r s None a b = tt
  later_still r s (Some t) a b = before_trans g (has t) (has r) (has s) a b

  module _ (r : List ℕ) (is : IsListed g after r)
      (first : (s : List ℕ) → IsListed g after s → IsUpTo g (has r) (has s)) where
    further : (s : List ℕ) → IsListed g (Some r) s → IsListed g after s
    further s h =
        record {
          rising = h.rising;
          meets = h.meets;
          allowed = h.allowed;
          later =
              later_still r s after is.later h.later;
        }

    same_or_later : (s : List ℕ) → IsListed g after s → (s ≡ r) ⊎ IsListed g (Some r) s
    same_or_later s h = at (first s h)
      where
        at : IsUpTo g (has r) (has s) → (s ≡ r) ⊎ IsListed g (Some r) s
        at (inl same) = inl (same_sets s r h.rising is.rising (λ u. sym (same u)))
        at (inr b) =
            inr (record { rising = h.rising; meets = h.meets; allowed = h.allowed; later = b })

    -- r, and then what is listed after r
    pub goes_on : (xs : List (List ℕ)) → IsListing g (Some r) xs → IsListing g after (r ∷ xs)
    goes_on xs k = record {
      in_order = (all_after g r xs (λ t h. (k.no_more t h).later), k.in_order);
      has_all = λ s h. there s (same_or_later s h);
      no_more = λ s h. from s h;
    }
      where
        there : (s : List ℕ) → (s ≡ r) ⊎ IsListed g (Some r) s → IsIn s (r ∷ xs)
        there s (inl e) = inl e
        there s (inr h) = inr (k.has_all s h)

        from : (s : List ℕ) → IsIn s (r ∷ xs) → IsListed g after s
        from s (inl e) = subst (λ x. IsListed g after x) (sym e) is
        from s (inr h) = further s (k.no_more s h)

    pub goes_back : (xs : List (List ℕ)) → IsListing g after (r ∷ xs) → IsListing g (Some r) xs
    goes_back xs k = record {
      in_order = k.in_order.1;
      has_all = λ s h. rest s h (k.has_all s (further s h));
      no_more = λ s h. at s h (same_or_later s (k.no_more s (inr h)));
    }
      where
        rest : (s : List ℕ) → IsListed g (Some r) s → IsIn s (r ∷ xs) → IsIn s xs
        rest s h (inl e) =
            absurd (before_strict g (has r) (subst (λ x. IsBefore g (has r) (has x)) e h.later))
        rest s h (inr q) = q

        at : (s : List ℕ) → IsIn s xs → (s ≡ r) ⊎ IsListed g (Some r) s → IsListed g (Some r) s
        at s h (inl e) =
            absurd
            (before_strict g (has r)
            (subst (λ x. IsBefore g (has r) (has x)) e (in_after g r s xs k.in_order.0 h)))
        at s h (inr q) = q

-- what comes after the head is the listing after the head
pub listing_tail : (g : Shape) (after : Option (List ℕ)) (r : List ℕ) (xs : List (List ℕ))
    → IsListing g after (r ∷ xs) → IsListing g (Some r) xs
listing_tail g after r xs k =
    goes_back g after r (k.no_more r (inl refl)) (λ s h. at s (k.has_all s h)) xs k
  where
    at : (s : List ℕ) → IsIn s (r ∷ xs) → IsUpTo g (has r) (has s)
    at s (inl e) = inl (λ u. ap (λ x. has x u) (sym e))
    at s (inr h) = inr (in_after g r s xs k.in_order.0 h)

-- a listing that is taken in parts, each after the last of the part before, is the listing taken at
-- once
pub listing_resumes : (g : Shape) (after : Option (List ℕ)) (ys : List (List ℕ)) (z : List ℕ)
    (xs : List (List ℕ)) → IsListing g after (ys ++ z ∷ xs) → IsListing g (Some z) xs
listing_resumes g after [] z xs k = listing_tail g after z xs k
listing_resumes g after (y ∷ ys) z xs k =
    listing_resumes g (Some y) ys z xs (listing_tail g after y (ys ++ z ∷ xs) k)
