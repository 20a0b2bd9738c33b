-- There is a listing: all unit sets, filtered and put in order.
use Rattle.std.proofs.Common.{◌≡◌, ℕ, zero, suc, ◌<◌, nat_lt, Bool, true, false, cond, List, []}
use Rattle.std.proofs.Common.{◌∷◌, ◌++◌, refl, sym, ap, ◌∙◌, subst, inl, inr, ◌⊎◌, Option, Some}
use Rattle.std.proofs.Common.{None, ltb-true}
use Rattle.std.proofs.lemmas.Bool.{and_parts}
use Rattle.number_sets.specs.Sets.{has, listed, IsRising}
use Rattle.pns_rules.specs.Structure.{IsStructure, IsAllowed}
use Rattle.pns_rules.specs.Trace.{IsBefore}
use Rattle.number_sets.proofs.Cited.{same_sets, IsRising-listed, has-listed, listed-is, below_from}
use Rattle.pns_rules.specs.Shape.{Shape, IsProper}
use Rattle.number_sets.specs.Options.{IsIn}
use Rattle.pns_rules.specs.Listing.{IsLater, IsListed, IsInOrder, IsListing}
use Rattle.pns_rules.proofs.OrderLemmas.{before_trans, before_or_not, order_is_total}
use Rattle.pns_rules.proofs.ListingLemmas.{in_after, all_after}
use Rattle.pns_rules.proofs.DecideLemmas.{structure_or_not, allowed_or_not}

-- ---- all sets of numbers below n

all_with : ℕ → List (List ℕ) → List (List ℕ)
all_with n [] = []
all_with n (s ∷ ss) = (s ++ n ∷ []) ∷ all_with n ss

all_sets : ℕ → List (List ℕ)
all_sets zero = [] ∷ []
all_sets (suc n) = all_sets n ++ all_with n (all_sets n)

in_left : (s : List ℕ) (xs ys : List (List ℕ)) → IsIn s xs → IsIn s (xs ++ ys)
in_left s [] ys h = absurd h
in_left s (x ∷ xs) ys (inl e) = inl e
in_left s (x ∷ xs) ys (inr h) = inr (in_left s xs ys h)

in_right : (s : List ℕ) (xs ys : List (List ℕ)) → IsIn s ys → IsIn s (xs ++ ys)
in_right s [] ys h = h
in_right s (x ∷ xs) ys h = inr (in_right s xs ys h)

in_with : (n : ℕ) (s : List ℕ) (ss : List (List ℕ)) → IsIn s ss
    → IsIn (s ++ n ∷ []) (all_with n ss)
unfolding all_with
in_with n s [] h = absurd h
in_with n s (t ∷ ts) (inl e) = inl (ap (λ xs. xs ++ n ∷ []) e)
in_with n s (t ∷ ts) (inr h) = inr (in_with n s ts h)

append_none : (xs : List ℕ) → xs ++ [] ≡ xs
append_none [] = refl
append_none (x ∷ xs) = ap (λ w. x ∷ w) (append_none xs)

last_in : (n : ℕ) (t : ℕ → Bool) (b : Bool) (ss : List (List ℕ)) → IsIn (listed n t) ss
    → IsIn (listed n t ++ cond b (n ∷ []) []) (ss ++ all_with n ss)
last_in n t true ss h =
    in_right (listed n t ++ n ∷ []) ss (all_with n ss) (in_with n (listed n t) ss h)
last_in n t false ss h =
    subst (λ x. IsIn x (ss ++ all_with n ss)) (sym (append_none (listed n t)))
    (in_left (listed n t) ss (all_with n ss) h)

listed_in : (n : ℕ) (t : ℕ → Bool) → IsIn (listed n t) (all_sets n)
unfolding listed all_sets
listed_in zero t = inl refl
listed_in (suc n) t = last_in n t (t n) (all_sets n) (listed_in n t)

-- a set of numbers below n is one of them
set_in : (n : ℕ) (s : List ℕ) → IsRising s → ((u : ℕ) → has s u ≡ true → u < n)
    → IsIn s (all_sets n)
set_in n s up below =
    subst (λ x. IsIn x (all_sets n))
    (listed-is n s record { rising = up; below = below_from n s below }) (listed_in n (has s))

-- ---- in order

module _ (g : Shape) (proper : IsProper g) (after : Option (List ℕ)) where
  abbrev Listed : List ℕ → Type 0
  Listed s = IsListed g after s

  -- a list of what is to be listed, in order
  record IsPart (xs : List (List ℕ)) : Type 0 where
    in_order : IsInOrder g xs
    no_more : (s : List ℕ) → IsIn s xs → IsListed g after s

  -- with one more
  record IsMore (y : List ℕ) (xs ys : List (List ℕ)) : Type 0 where
    part : IsPart ys
    has_new : IsIn y ys
    has_old : (s : List ℕ) → IsIn s xs → IsIn s ys
    from : (s : List ℕ) → IsIn s ys → (s ≡ y) ⊎ IsIn s xs

  rest_of : (x : List ℕ) (xs : List (List ℕ)) → IsPart (x ∷ xs) → IsPart xs
  rest_of x xs p = record { in_order = p.in_order.1; no_more = λ s h. p.no_more s (inr h) }

  order_of : (s t : List ℕ) → Listed s → Listed t → (s ≡ t)
      ⊎ (IsBefore g (has s) (has t) ⊎ IsBefore g (has t) (has s))
  order_of s t hs ht = at (order_is_total g (has s) (has t) proper hs.meets ht.meets)
    where
      at : ((u : ℕ) → has s u ≡ has t u)
          ⊎ (IsBefore g (has s) (has t) ⊎ IsBefore g (has t) (has s))
          → (s ≡ t) ⊎ (IsBefore g (has s) (has t) ⊎ IsBefore g (has t) (has s))
      at (inl same) = inl (same_sets s t hs.rising ht.rising same)
      at (inr b) = inr b

  put_first : (y x : List ℕ) (xs : List (List ℕ)) → Listed y → IsPart (x ∷ xs)
      → IsBefore g (has y) (has x) → IsMore y (x ∷ xs) (y ∷ x ∷ xs)
  put_first y x xs hy p b = record {
    part = record {
      in_order = (
        (
          b,
          all_after g y xs
              (λ t h. before_trans g (has y) (has x) (has t) b
              (in_after g x t xs p.in_order.0 h)),
        ),
        p.in_order,
      );
      no_more = λ s h. new s h;
    };
    has_new = inl refl;
    has_old = λ s h. inr h;
    from = λ s h. h;
  }
    where
      new : (s : List ℕ) → IsIn s (y ∷ x ∷ xs) → IsListed g after s
      new s (inl e) = subst (λ k. IsListed g after k) (sym e) hy
      new s (inr h) = p.no_more s h

  put_later : (y x : List ℕ) (xs ys : List (List ℕ)) → IsPart (x ∷ xs)
      → IsBefore g (has x) (has y)
      → IsMore y xs ys → IsMore y (x ∷ xs) (x ∷ ys)
  put_later y x xs ys p b m = record {
    part = record {
      in_order = (all_after g x ys (λ t h. later t (m.from t h)), m.part.in_order);
      no_more = λ s h. new s h;
    };
    has_new = inr m.has_new;
    has_old = λ s h. old s h;
    from = λ s h. back s h;
  }
    where
      later : (t : List ℕ) → (t ≡ y) ⊎ IsIn t xs → IsBefore g (has x) (has t)
      later t (inl e) = subst (λ k. IsBefore g (has x) (has k)) (sym e) b
      later t (inr h) = in_after g x t xs p.in_order.0 h

      new : (s : List ℕ) → IsIn s (x ∷ ys) → IsListed g after s
      new s (inl e) = p.no_more s (inl e)
      new s (inr h) = m.part.no_more s h

      old : (s : List ℕ) → IsIn s (x ∷ xs) → IsIn s (x ∷ ys)
      old s (inl e) = inl e
      old s (inr h) = inr (m.has_old s h)

      back : (s : List ℕ) → IsIn s (x ∷ ys) → (s ≡ y) ⊎ IsIn s (x ∷ xs)
      back s (inl e) = inr (inl e)
      back s (inr h) = elim (m.from s h) [ inl e ↦ inl e | inr k ↦ inr (inr k) ]

  put : (y : List ℕ) (xs : List (List ℕ)) → Listed y → IsPart xs → (ys : List (List ℕ))
      × IsMore y xs ys
  put y [] hy p = (
    y ∷ [],
    record {
      part =
          record {
            in_order = (tt, tt);
            no_more =
                λ s h. elim h [
                  | inl e ↦ subst (λ k. IsListed g after k) (sym e) hy
                  | inr k
                      ↦ absurd k
                ];
          };
      has_new = inl refl;
      has_old = λ s h. absurd h;
      from = λ s h. h;
    },
  )
  put y (x ∷ xs) hy p =
      at (order_of y x hy (p.no_more x (inl refl))) (put y xs hy (rest_of x xs p))
    where
      at : (y ≡ x) ⊎ (IsBefore g (has y) (has x) ⊎ IsBefore g (has x) (has y))
          → ((ys : List (List ℕ)) × IsMore y xs ys) → (ys : List (List ℕ)) × IsMore y (x ∷ xs) ys
      at (inl e) r =
          (x ∷ xs, record { part = p; has_new = inl e; has_old = λ s h. h; from = λ s h. inr h })
      at (inr (inl b)) r = (y ∷ x ∷ xs, put_first y x xs hy p b)
      at (inr (inr b)) r = (x ∷ r.0, put_later y x xs r.0 p b r.1)

  -- whether a set is to be listed
  later_or_not : (s : List ℕ) (o : Option (List ℕ)) → IsLater g o (has s)
      ⊎ (IsLater g o (has s) → ⊥)
  later_or_not s None = inl tt
  later_or_not s (Some t) = before_or_not g (has t) (has s)

  listed_or_not : (s : List ℕ) → IsRising s → ((u : ℕ) → has s u ≡ true → u < g.units) → Listed s
      ⊎ (Listed s → ⊥)
  listed_or_not s up known =
      at (structure_or_not g proper (has s) known) (allowed_or_not g proper (has s) known)
      (later_or_not s after)
    where
      at : IsStructure g (has s) ⊎ (IsStructure g (has s) → ⊥) → IsAllowed g (has s)
          ⊎ (IsAllowed g (has s) → ⊥) → IsLater g after (has s) ⊎ (IsLater g after (has s) → ⊥)
          → IsListed g after s ⊎ (IsListed g after s → ⊥)
      at (inl a) (inl b) (inl d) = inl (record { rising = up; meets = a; allowed = b; later = d })
      at (inr a) b d = inr (λ h. a h.meets)
      at (inl a) (inr b) d = inr (λ h. b h.allowed)
      at (inl a) (inl b) (inr d) = inr (λ h. d h.later)

  -- a listing of those sets of a list that are to be listed
  record IsSorted (ss xs : List (List ℕ)) : Type 0 where
    part : IsPart xs
    has_all : (s : List ℕ) → IsListed g after s → IsIn s ss → IsIn s xs

  sort : (ss : List (List ℕ)) → (xs : List (List ℕ)) × IsSorted ss xs
  sort [] = (
    [],
    record { part = record { in_order = tt; no_more = λ s h. absurd h }; has_all = λ s a h. h },
  )
  sort (t ∷ ts) =
      at (sort ts) (listed_or_not (listed g.units (has t)) (IsRising-listed g.units (has t))
      (λ u h. ltb-true u g.units
      (and_parts (nat_lt u g.units) (has t u) (sym (has-listed g.units (has t) u) ∙ h)).0))
    where
      same : (s : List ℕ) → IsListed g after s → s ≡ t → s ≡ listed g.units (has t)
      same s a e =
          sym (listed-is g.units s record {
            rising = a.rising;
            below =
                below_from g.units s a.meets.s3;
          }) ∙ ap (λ x. listed g.units (has x)) e

      at : ((xs : List (List ℕ)) × IsSorted ts xs) → Listed (listed g.units (has t))
          ⊎ (Listed (listed g.units (has t)) → ⊥) → (xs : List (List ℕ)) × IsSorted (t ∷ ts) xs
      at r (inl is) =
          let m = put (listed g.units (has t)) r.0 is r.1.part in (
            m.0,
            record {
              part = m.1.part;
              has_all =
                  λ s a h. elim h [
                    | inl e ↦ subst (λ x. IsIn x m.0) (sym (same s a e)) m.1.has_new
                    | inr q
                        ↦ m.1.has_old s (r.1.has_all s a q)
                  ];
            },
          )
      at r (inr is_not) = (
        r.0,
        record {
          part = r.1.part;
          has_all =
              λ s a h. elim h [
                | inl e ↦ absurd (is_not (subst (λ x. IsListed g after x) (same s a e) a))
                | inr q
                    ↦ r.1.has_all s a q
              ];
        },
      )

  pub a_listing : (xs : List (List ℕ)) × IsListing g after xs
  a_listing =
      let r = sort (all_sets g.units) in (
        r.0,
        record {
          in_order = r.1.part.in_order;
          has_all = λ s a. r.1.has_all s a (set_in g.units s a.rising a.meets.s3);
          no_more = r.1.part.no_more;
        },
      )
