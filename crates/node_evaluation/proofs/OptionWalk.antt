-- The walk along all options of a material.
use Rattle.std.proofs.Common.{◌≡◌, ℕ, ◌<◌, List, [], ◌∷◌, ◌++◌, length, Option, Some, None, refl}
use Rattle.std.proofs.Common.{sym, ap, ap₂, ◌∙◌, subst, arith, append_assoc, length-append, inl}
use Rattle.std.proofs.Common.{inr}
use Rattle.std.proofs.lemmas.List.{append-nil}
use Rattle.std.specs.Prelude.{IfSome, IfNone}
use Rattle.structure_list.specs.number_sets.Sets.{has, IsSet, Avoids}
use Rattle.structure_list.specs.number_sets.Options.{IsBetween, IsFirstOption, IsNextOption}
use Rattle.structure_list.specs.number_sets.Options.{IsLastOption}
use Rattle.structure_list.specs.number_sets.Options.{all_options, IsIn}
use Rattle.structure_list.proofs.number_sets.Cited as lists

abbrev pub head_of : List (List ℕ) → Option (List ℕ)
head_of [] = None
head_of (t ∷ ts) = Some t

-- the options that were met, and the one that comes next
pub record IsAhead (base free : List ℕ) (done : List (List ℕ)) (next : Option (List ℕ)) : Type
    0 where
  pub rest : List (List ℕ)
  pub whole : all_options base free ≡ done ++ rest
  pub first : next ≡ head_of rest

module _ (base free : List ℕ) (base_set : IsSet 128 base) (free_set : IsSet 128 free)
    (apart : Avoids (has base) (has free)) where
  abbrev os : List (List ℕ)
  os = all_options base free

  in_middle : (t : List ℕ) (xs ys : List (List ℕ)) → IsIn t (xs ++ t ∷ ys)
  in_middle t [] ys = inl refl
  in_middle t (x ∷ xs) ys = inr (in_middle t xs ys)

  first_is : (r : Option (List ℕ)) → IfSome r (IsFirstOption base free)
      → IfNone r ((base ≡ []) × (free ≡ [])) → r ≡ head_of (all_options base free)
  first_is r some none = at r (all_options base free) refl some none
    where
      at : (r : Option (List ℕ)) (ts : List (List ℕ)) → all_options base free ≡ ts
          → IfSome r (IsFirstOption base free) → IfNone r ((base ≡ []) × (free ≡ []))
          → r ≡ head_of ts
      at None [] e s n = refl
      at None (t ∷ ts) e s n =
          absurd (let q : [] ≡ (t ∷ ts) =
          sym (ap₂ (λ (b f : List ℕ). all_options b f) n.0 n.1) ∙ e in cc)
      at (Some x) [] e s n =
          absurd
          (subst (λ (k : List (List ℕ)). IsIn x k) e
          (lists.option_in 128 base free base_set free_set apart x s.option))
      at (Some x) (t ∷ ts) e s n =
          ap (λ (k : List ℕ). Some k)
          (lists.one_first 128 base free base_set free_set apart x t s
          (lists.head_is_first 128 base free base_set free_set apart t ts e))

  next_is : (before : List (List ℕ)) (t : List ℕ) (ts : List (List ℕ)) (r : Option (List ℕ))
      → all_options base free ≡ before ++ t ∷ ts → IfSome r (IsNextOption base free t)
      → IfNone r (IsLastOption base free t) → r ≡ head_of ts
  next_is before t [] None e some none = refl
  next_is before t [] (Some s) e some none =
      absurd (let le =
      lists.end_is_last 128 base free base_set free_set apart before t e s some.between in let lt =
      some.greater in omega arith)
  next_is before t (u ∷ us) None e some none =
      absurd (let k = lists.step_is_next 128 base free base_set free_set apart before t u us e in
      let le = none u k.between in let lt = k.greater in omega arith)
  next_is before t (u ∷ us) (Some s) e some none =
      ap (λ (k : List ℕ). Some k)
      (lists.one_next 128 base free base_set free_set apart t s u some
      (lists.step_is_next 128 base free base_set free_set apart before t u us e))

  pub ahead_first : (r : Option (List ℕ)) → IfSome r (IsFirstOption base free)
      → IfNone r ((base ≡ []) × (free ≡ [])) → IsAhead base free [] r
  ahead_first r some none =
      record { rest = all_options base free; whole = refl; first = first_is r some none }

  -- what comes next is an option
  pub is_in : (done : List (List ℕ)) (t : List ℕ) → IsAhead base free done (Some t)
      → IsIn t (all_options base free)
  is_in done t a = at a.rest a.first a.whole
    where
      at : (rest : List (List ℕ)) → Some t ≡ head_of rest → all_options base free ≡ done ++ rest
          → IsIn t (all_options base free)
      at [] f w = absurd cc
      at (s ∷ ss) f w = let q : t ≡ s =
          cc in
          subst (λ (k : List (List ℕ)). IsIn t k) (sym w)
          (subst (λ (k : List ℕ). IsIn t (done ++ k ∷ ss)) q (in_middle t done ss))

  pub is_between : (done : List (List ℕ)) (t : List ℕ) → IsAhead base free done (Some t)
      → IsBetween base free t
  is_between done t a =
      (lists.in_option 128 base free base_set free_set apart t (is_in done t a)).between

  pub ahead_next : (done : List (List ℕ)) (t : List ℕ) (r : Option (List ℕ))
      → IsAhead base free done (Some t) → IfSome r (IsNextOption base free t)
      → IfNone r (IsLastOption base free t)
      → IsAhead base free (done ++ t ∷ []) r
  ahead_next done t r a some none = at a.rest a.first a.whole
    where
      at : (rest : List (List ℕ)) → Some t ≡ head_of rest → all_options base free ≡ done ++ rest
          → IsAhead base free (done ++ t ∷ []) r
      at [] f w = absurd cc
      at (u ∷ us) f w =
          let p : t ≡ u = cc in
          let w' : all_options base free ≡ done ++ t ∷ us =
          w ∙ ap (λ (k : List ℕ). done ++ k ∷ us) (sym p) in
          record {
            rest = us;
            whole = w' ∙ sym (append_assoc done (t ∷ []) us);
            first =
                next_is done t us r w' some none;
          }

  -- none comes after all
  pub all_done : (done : List (List ℕ)) → IsAhead base free done None → done ≡ all_options base free
  all_done done a = at a.rest a.first a.whole
    where
      at : (rest : List (List ℕ)) → None ≡ head_of rest → all_options base free ≡ done ++ rest
          → done ≡ all_options base free
      at [] f w = sym (w ∙ append-nil done)
      at (u ∷ us) f w = absurd cc

  pub some_left : (done : List (List ℕ)) (t : List ℕ) → IsAhead base free done (Some t)
      → length done < length (all_options base free)
  some_left done t a = at a.rest a.first a.whole
    where
      at : (rest : List (List ℕ)) → Some t ≡ head_of rest → all_options base free ≡ done ++ rest
          → length done < length (all_options base free)
      at [] f w = absurd cc
      at (u ∷ us) f w = let e = ap (λ (k : List (List ℕ)). length k) w
          ∙ length-append done (u ∷ us) in omega (arith, e)
