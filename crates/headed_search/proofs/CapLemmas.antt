-- A capped plant stays capped if one more unit is put down.
use Rattle.std.proofs.Common.{◌≡◌, ℕ, zero, suc, ◌<◌, ℤ, ◌≤ℤ◌, List, [], ◌∷◌, length, slice_set}
use Rattle.std.proofs.Common.{get_or, refl, sym, ap, ◌∙◌, subst, arith}
use Rattle.std.proofs.lemmas.Int.{ints}
use Rattle.tree_parts.specs.problem_rules.Problem.{Problem, OperatingUnit, no_unit, unit_at}
use Rattle.tree_parts.specs.tree_laws.Capped.{IsCappedUnit, AreCapped, IsCapped}
use Rattle.tree_parts.proofs.tree_laws.Cited.{capped_self, capped_at}

pub all_themselves : (us : List OperatingUnit) → AreCapped us us
all_themselves [] = tt
all_themselves (u ∷ us) = (capped_self u, all_themselves us)

pub itself : (p : Problem) → IsCapped p p
itself p =
    record { materials = refl; units = all_themselves p.units; exclusions = refl; payout = refl }

lower_still : (u v : OperatingUnit) (size : ℤ) → IsCappedUnit u v → size ≤ℤ v.upper
    → IsCappedUnit u (record v { upper = size })
lower_still u v size h k = record {
  rest = ap (λ (w : OperatingUnit). record w { upper = size }) h.rest;
  no_more = let a : v.upper ≤ℤ u.upper = h.no_more in omega (arith, ints);
}

put_down : (us vs : List OperatingUnit) → AreCapped us vs → (i : ℕ) (w : OperatingUnit)
    → IsCappedUnit (get_or us i no_unit) w → AreCapped us (slice_set vs i w)
put_down [] [] h i w k = tt
put_down [] (v ∷ vs) h i w k = absurd h
put_down (u ∷ us) [] h i w k = absurd h
put_down (u ∷ us) (v ∷ vs) h zero w k = (k, h.1)
put_down (u ∷ us) (v ∷ vs) h (suc i) w k = (h.0, put_down us vs h.1 i w k)

-- the plant with another greatest size of a unit
abbrev pub with_upper : Problem → ℕ → ℤ → Problem
with_upper q i size =
    record q { units = slice_set q.units i (record (unit_at q i) { upper = size }) }

pub capped_more : (p q : Problem) → IsCapped p q → (i : ℕ) (size : ℤ)
    → size ≤ℤ (unit_at q i).upper → IsCapped p (with_upper q i size)
capped_more p q h i size k = record {
  materials = h.materials;
  units =
      put_down p.units q.units h.units i (record (unit_at q i) { upper = size })
      (lower_still (unit_at p i) (unit_at q i) size (capped_at p.units q.units h.units i) k);
  exclusions = h.exclusions;
  payout = h.payout;
}

-- an item that is there
item_there : (xs : List OperatingUnit) (i : ℕ) (x : OperatingUnit) → i < length xs
    → x ≡ get_or xs i x → x ≡ get_or xs i no_unit
item_there [] i x h e = absurd (omega arith)
item_there (y ∷ ys) zero x h e = e
item_there (y ∷ ys) (suc i) x h e = item_there ys i x (omega (arith, h)) e

pub size_there : (us vs : List OperatingUnit) → us ≡ vs → (i : ℕ) (x : OperatingUnit)
    → i < length us → x ≡ get_or vs i x → (size : ℤ) → size ≤ℤ x.upper
    → size ≤ℤ (get_or us i no_unit).upper
size_there us vs same i x h e size k =
    subst (λ (w : OperatingUnit). size ≤ℤ w.upper)
    (item_there us i x h (e ∙ ap (λ (ws : List OperatingUnit). get_or ws i x) (sym same))) k
