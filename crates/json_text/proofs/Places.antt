-- Values of networks that are counted from 1.
use Rattle.std.proofs.Common.{◌≡◌, ℕ, zero, suc, ◌+◌, ◌<◌, List, [], ◌∷◌, ◌++◌, length, drop}
use Rattle.std.proofs.Common.{get_or, Option, Some, None, refl, sym, ap, ◌∙◌, append_assoc}
use Rattle.std.specs.List.{slice_get}
use Rattle.std.proofs.lemmas.Option.{slice_get_read}
use Rattle.report_rules.specs.problem_rules.Problem.{Problem}
use Rattle.report_rules.specs.tree_rules.Claim.{Network}
use Rattle.report_rules.specs.JsonRanked.{network_json, network_values}

module _ (p : Problem) (first : Network) (place : ℕ) where
  -- the value of the network that is read comes first
  next_value : (ws : List Network) (i : ℕ) (w : Network) → slice_get ws i ≡ Some w
      → network_values p first place (drop i ws)
      ≡ network_json p first place w ∷ network_values p first (place + 1) (drop (suc i) ws)
  next_value [] i w h = absurd (let q : None ≡ Some w = h in cc)
  next_value (x ∷ xs) zero w h =
      let q : x ≡ w = cc in
      ap (λ (v : Network). network_json p first place v ∷ network_values p first (place + 1) xs) q
  next_value (x ∷ xs) (suc i) w h = next_value xs i w h

  module _ (ws : List Network) (i j : ℕ) (w : Network) (lt : i < length ws)
      (read : w ≡ get_or ws i w) (next : j ≡ suc i) where
    -- with one value more, those that are left are fewer by it
    pub one_more : (values new whole : List (List ℕ)) (v : List ℕ)
        → v ≡ network_json p first place w → new ≡ values ++ v ∷ []
        → values ++ network_values p first place (drop i ws) ≡ whole
        → new ++ network_values p first (place + 1) (drop j ws) ≡ whole
    one_more values new whole v is more so_far =
        ap (λ (n : ℕ). new ++ network_values p first (place + 1) (drop n ws)) next
        ∙ ap (λ (xs : List (List ℕ)). xs ++ rest) more
        ∙ append_assoc values (v ∷ []) rest
        ∙ ap (λ (x : List ℕ). values ++ x ∷ rest) is
        ∙ ap (λ (xs : List (List ℕ)). values ++ xs)
        (sym (next_value ws i w (slice_get_read ws (length ws) i w refl lt read)))
        ∙ so_far
      where
        rest : List (List ℕ)
        rest = network_values p first (place + 1) (drop (suc i) ws)
