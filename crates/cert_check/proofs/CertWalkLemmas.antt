-- The walk along the list of all options next to a list that was given.
use Rattle.std.proofs.Common.{◌≡◌, ℕ, zero, suc, ◌<◌, ◌≤◌, List, [], ◌∷◌, ◌++◌, length, drop}
use Rattle.std.proofs.Common.{get_or, Option, Some, None, refl, sym, ap, ap₂, ◌∙◌, subst, arith}
use Rattle.std.proofs.Common.{append_assoc, ◌↔◌, inl, inr}
use Rattle.std.specs.Prelude.{IfSome, IfNone}
use Rattle.tree_text_rules.specs.number_sets.Sets.{has, IsSet, Avoids}
use Rattle.tree_text_rules.specs.number_sets.Options.{IsBetween, IsFirstOption, IsNextOption}
use Rattle.tree_text_rules.specs.number_sets.Options.{IsLastOption}
use Rattle.tree_text_rules.specs.number_sets.Options.{all_options, IsIn}
use Rattle.tree_text_rules.proofs.number_sets.Cited as lists

abbrev pub head_of : List (List ℕ) → Option (List ℕ)
head_of [] = None
head_of (t ∷ ts) = Some t

-- the first i options are those found before place i, and the first of the rest is expected next
pub record Expects (base free : List ℕ) (found : List (List ℕ)) (i : ℕ)
    (expected : Option (List ℕ)) : Type 0 where
  pub before : List (List ℕ)
  pub rest : List (List ℕ)
  pub whole : all_options base free ≡ before ++ rest
  pub first : expected ≡ head_of rest
  pub same : (found ≡ all_options base free) ↔ (drop i found ≡ rest)

-- what was found from place i on
pub ahead : (found : List (List ℕ)) (i : ℕ) (x : List ℕ) → i < length found → x ≡ get_or found i x
    → drop i found ≡ x ∷ drop (suc i) found
ahead [] i x h e = absurd (omega arith)
ahead (y ∷ ys) zero x h e = ap (λ (w : List ℕ). w ∷ ys) (sym e)
ahead (y ∷ ys) (suc i) x h e = ahead ys i x (omega arith) e

module _ (base free : List ℕ) (base_set : IsSet 128 base) (free_set : IsSet 128 free)
    (apart : Avoids (has base) (has free)) where
  abbrev os : List (List ℕ)
  os = all_options base free

  in_middle : (t : List ℕ) (xs ys : List (List ℕ)) → IsIn t (xs ++ t ∷ ys)
  in_middle t [] ys = inl refl
  in_middle t (x ∷ xs) ys = inr (in_middle t xs ys)

  -- what the first option is, as the list has it
  first_is : (r : Option (List ℕ)) → IfSome r (IsFirstOption base free)
      → IfNone r ((base ≡ []) × (free ≡ [])) → r ≡ head_of os
  first_is r some none = at r os refl some none
    where
      at : (r : Option (List ℕ)) (ts : List (List ℕ)) → os ≡ ts → IfSome r (IsFirstOption base free)
          → IfNone r ((base ≡ []) × (free ≡ [])) → r ≡ head_of ts
      at None [] e s n = refl
      at None (t ∷ ts) e s n =
          absurd (let q : [] ≡ (t ∷ ts) =
          sym (ap₂ (λ (b f : List ℕ). all_options b f) n.0 n.1) ∙ e in cc)
      at (Some x) [] e s n =
          absurd
          (subst (λ (k : List (List ℕ)). IsIn x k) e
          (lists.option_in 128 base free base_set free_set apart x s.option))
      at (Some x) (t ∷ ts) e s n =
          ap (λ (k : List ℕ). Some k)
          (lists.one_first 128 base free base_set free_set apart x t s
          (lists.head_is_first 128 base free base_set free_set apart t ts e))

  -- and what comes next
  next_is : (before : List (List ℕ)) (t : List ℕ) (ts : List (List ℕ)) (r : Option (List ℕ))
      → os ≡ before ++ t ∷ ts → IfSome r (IsNextOption base free t)
      → IfNone r (IsLastOption base free t) → r ≡ head_of ts
  next_is before t [] None e some none = refl
  next_is before t [] (Some s) e some none =
      absurd (let le =
      lists.end_is_last 128 base free base_set free_set apart before t e s some.between in let lt =
      some.greater in omega arith)
  next_is before t (u ∷ us) None e some none =
      absurd (let k = lists.step_is_next 128 base free base_set free_set apart before t u us e in
      let le = none u k.between in let lt = k.greater in omega arith)
  next_is before t (u ∷ us) (Some s) e some none =
      ap (λ (k : List ℕ). Some k)
      (lists.one_next 128 base free base_set free_set apart t s u some
      (lists.step_is_next 128 base free base_set free_set apart before t u us e))

  pub expects_all : (found : List (List ℕ)) (r : Option (List ℕ))
      → IfSome r (IsFirstOption base free) → IfNone r ((base ≡ []) × (free ≡ []))
      → Expects base free found 0 r
  expects_all found r some none = record {
    before = [];
    rest = os;
    whole = refl;
    first = first_is r some none;
    same = ((λ h. h), (λ h. h));
  }

  -- what is expected is an option
  pub expected_between : (found : List (List ℕ)) (i : ℕ) (t : List ℕ)
      → Expects base free found i (Some t) → IsBetween base free t
  expected_between found i t e = at e.rest e.first e.whole
    where
      at : (rest : List (List ℕ)) → Some t ≡ head_of rest → os ≡ e.before ++ rest
          → IsBetween base free t
      at [] f w = absurd cc
      at (s ∷ ss) f w =
          let q : t ≡ s = cc in
          (lists.in_option 128 base free base_set free_set apart t
          (subst (λ (k : List ℕ). IsIn k os) (sym q)
          (subst (λ (k : List (List ℕ)). IsIn s k) (sym w) (in_middle s e.before ss)))).between

  module _ (found : List (List ℕ)) (i : ℕ) (x : List ℕ)
      (here : drop i found ≡ x ∷ drop (suc i) found) where
    -- there is no such option any more
    pub too_many : Expects base free found i None → found ≡ os → ⊥
    too_many e h = at e.rest e.first (sym here ∙ e.same.0 h)
      where
        at : (rest : List (List ℕ)) → None ≡ head_of rest → (x ∷ drop (suc i) found) ≡ rest → ⊥
        at [] f q = cc
        at (t ∷ ts) f q = cc

    pub another : (t : List ℕ) → Expects base free found i (Some t) → (x ≡ t → ⊥) → found ≡ os → ⊥
    another t e apart h = at e.rest e.first (sym here ∙ e.same.0 h)
      where
        at : (rest : List (List ℕ)) → Some t ≡ head_of rest → (x ∷ drop (suc i) found) ≡ rest → ⊥
        at [] f q = cc
        at (s ∷ ss) f q = apart cc

    pub the_same : (t : List ℕ) (r : Option (List ℕ)) → Expects base free found i (Some t) → x ≡ t
        → IfSome r (IsNextOption base free t) → IfNone r (IsLastOption base free t)
        → Expects base free found (suc i) r
    the_same t r e q some none = at e.rest e.first e.whole e.same
      where
        at : (rest : List (List ℕ)) → Some t ≡ head_of rest → os ≡ e.before ++ rest → (found ≡ os)
            ↔ (drop i found ≡ rest) → Expects base free found (suc i) r
        at [] f w s = absurd cc
        at (u ∷ us) f w s =
            let p : t ≡ u = cc in
            let w' : os ≡ e.before ++ t ∷ us =
            w ∙ ap (λ (k : List ℕ). e.before ++ k ∷ us) (sym p) in
            record {
              before = e.before ++ t ∷ [];
              rest = us;
              whole = w' ∙ sym (append_assoc e.before (t ∷ []) us);
              first = next_is e.before t us r w' some none;
              same = (
                (λ h. tails (sym here ∙ s.0 h)),
                (λ h. s.1 (here ∙ ap₂ (λ (k : List ℕ) (ks : List (List ℕ)). k ∷ ks) (q ∙ p) h)),
              );
            }
          where
            tails : (x ∷ drop (suc i) found) ≡ (u ∷ us) → drop (suc i) found ≡ us
            tails h = cc

  drop_all : (found : List (List ℕ)) (i : ℕ) → length found ≤ i → drop i found ≡ []
  drop_all [] zero h = refl
  drop_all [] (suc i) h = refl
  drop_all (x ∷ xs) zero h = absurd (omega arith)
  drop_all (x ∷ xs) (suc i) h = drop_all xs i (omega arith)

  pub all_met : (found : List (List ℕ)) (i : ℕ) (r : Option (List ℕ)) → Expects base free found i r
      → length found ≤ i → (r ≡ None) ↔ (found ≡ os)
  all_met found i r e le = at e.rest e.first e.same
    where
      none : drop i found ≡ []
      none = drop_all found i le

      at : (rest : List (List ℕ)) → r ≡ head_of rest → (found ≡ os) ↔ (drop i found ≡ rest)
          → (r ≡ None) ↔ (found ≡ os)
      at [] f s = ((λ h. s.1 none), (λ h. f))
      at (t ∷ ts) f s = (
        (λ h. absurd (let q : None ≡ Some t = sym h ∙ f in cc)),
        (λ h. absurd (let q : [] ≡ (t ∷ ts) = sym none ∙ s.0 h in cc)),
      )
