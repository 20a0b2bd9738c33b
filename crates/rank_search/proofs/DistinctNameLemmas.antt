-- The names of leaves, and the first plants of a list.
use Rattle.std.specs.Prelude.{get_or}
use Rattle.std.proofs.Common.{◌≡◌, ◌⊎◌, ℕ, zero, suc, ◌+◌, ◌<◌, ◌≤◌, true, List, [], ◌∷◌}
use Rattle.std.proofs.Common.{length, take, Option, Some, None, refl, sym, ap, ◌∙◌, subst, arith}
use Rattle.std.proofs.Common.{◌++◌, inl, inr, Bool, cond, ne_eqb}
use Rattle.std.specs.List.{slice_get}
use Rattle.std.proofs.lemmas.Bool.{cases_eq, cases_lt}
use Rattle.std.proofs.lemmas.List.{get_or_past, get_or_append_left, length-map}
use Rattle.std.proofs.lemmas.Option.{slice_get_within}
use Rattle.rank_check.proofs.number_sets.Cited.{below_from}
use Rattle.rank_check.specs.problem_rules.Each.{Each}
use Rattle.rank_check.specs.problem_rules.Problem.{Problem}
use Rattle.rank_check.specs.tree_rules.Claim.{Network, IsFeasible, IsSized}
use Rattle.rank_check.specs.tree_rules.Costs.{HasFallen}
use Rattle.rank_check.specs.exact_numbers.declared.number.Mixed.{Mixed}
use Rattle.rank_check.specs.rank_rules.Networks.{cost_of, last_cost, IsNoCheaper, RisesFrom}
use Rattle.rank_check.specs.rank_rules.Networks.{IsNewTo}
use Rattle.rank_check.specs.rank_rules.Networks.{ArePassing}
use Rattle.rank_check.specs.Known.{KnowsNetwork}
use Rattle.abb_search.specs.search_tree.Cells.{Cell, cell_at}
use Rattle.rank_search.specs.Found.{FoundAt, networks_of, AreRising, undercut_by}
use Rattle.rank_search.specs.Listed.{AreScaled}
use Rattle.rank_search.specs.Naming.{Names, name_at}
use Rattle.rank_search.proofs.NameLemmas.{IsCountedName}
use Rattle.rank_search.proofs.CostLemmas.{last_at}
use Rattle.rank_search.proofs.NamedLeafLemmas.{undercut_is}
use Rattle.rank_search.proofs.PlaceLemmas.{rising_taken, length_taken, take_whole}
use Rattle.rank_search.specs.Plants.{IsApartFrom, AreApart, AreDistinct, IsInList}
use Rattle.rank_search.specs.Listing.{reached_of}
use Rattle.rank_search.specs.Names.{IsNameFor, AreNamesFor}
use Rattle.rank_search.proofs.PlantLemmas.{IsBelow, all_below}

-- ---- names are counted from 1

from_one : (k at : ℕ) → k ≡ 1 + at → 1 ≤ k
from_one k at e = omega (arith, e)

name_counted : (fs : List FoundAt) (inside : List ℕ) (o : Option Mixed) (name : Option ℕ)
    → IsNameFor fs inside o name → IsCountedName name
name_counted fs inside None name h = subst IsCountedName (sym h) tt
name_counted fs inside (Some v) None h = tt
name_counted fs inside (Some v) (Some k) h = from_one k h.0 h.1

pub names_counted : (cells : List Cell) (fs : List FoundAt) (os : List (Option Mixed))
    (names : Names) → AreNamesFor cells fs os names → (j : ℕ) → IsCountedName (name_at names j)
names_counted cells fs os names h j = elim (cases_lt j (length os)) [
  | inl lt ↦ name_counted fs (cell_at cells j).node.inside (reached_of os j) (name_at names j)
      (h.each j lt)
  | inr le ↦
      subst IsCountedName
      (sym (get_or_past names j None (let e = h.as_many in omega (arith, le, e)))) tt
]

-- ---- names in turn

pub got_is : {X : Type 0} (xs : List X) (i : ℕ) (x d : X) → slice_get xs i ≡ Some x
    → get_or xs i d ≡ x
got_is [] i x d e = absurd (let q : None ≡ Some x = e in cc)
got_is (y ∷ ys) zero x d e = let q : Some y ≡ Some x = e in cc
got_is (y ∷ ys) (suc i) x d e = got_is ys i x d e

last_name : (names : Names) (name : Option ℕ) → name_at (names ++ name ∷ []) (length names) ≡ name
last_name [] name = refl
last_name (n ∷ ns) name = last_name ns name

pub names_next : (cells : List Cell) (fs : List FoundAt) (os : List (Option Mixed))
    (names : Names) (name : Option ℕ) (i : ℕ) → length names ≡ i
    → ((j : ℕ) → j < i
    → IsNameFor fs (cell_at cells j).node.inside (reached_of os j) (name_at names j))
    → IsNameFor fs (cell_at cells i).node.inside (reached_of os i) name → (j : ℕ) → j < i + 1
    → IsNameFor fs (cell_at cells j).node.inside (reached_of os j)
    (name_at (names ++ name ∷ []) j)
names_next cells fs os names name i e each h j lt = elim (cases_eq j i) [
  | inl same
      ↦ subst
      (λ k. IsNameFor fs (cell_at cells k).node.inside (reached_of os k)
      (name_at (names ++ name ∷ []) k)) (sym same)
      (subst
      (λ (n : Option ℕ). IsNameFor fs (cell_at cells i).node.inside (reached_of os i) n)
      (sym (ap (λ k. name_at (names ++ name ∷ []) k) (sym e) ∙ last_name names name)) h)
  | inr ne ↦
      let less : j < i = omega (arith, lt, ne) in
      subst
      (λ (n : Option ℕ). IsNameFor fs (cell_at cells j).node.inside (reached_of os j) n)
      (sym (get_or_append_left names (name ∷ []) None j (omega (arith, e, less)))) (each j less)
]

-- ---- the first plants of a list

apart_from_taken : (n : ℕ) (f : FoundAt) (fs : List FoundAt) → IsApartFrom f fs
    → IsApartFrom f (take n fs)
apart_from_taken zero f fs h = tt
apart_from_taken (suc n) f [] h = tt
apart_from_taken (suc n) f (g ∷ gs) h = (h.0, apart_from_taken n f gs h.1)

apart_taken : (n : ℕ) (fs : List FoundAt) → AreApart fs → AreApart (take n fs)
apart_taken zero fs h = tt
apart_taken (suc n) [] h = tt
apart_taken (suc n) (f ∷ fs) h = (apart_from_taken n f fs h.0, apart_taken n fs h.1)

sized_taken : (n : ℕ) (fs : List FoundAt) → Each IsSized (networks_of fs)
    → Each IsSized (networks_of (take n fs))
sized_taken zero fs h = tt
sized_taken (suc n) [] h = tt
sized_taken (suc n) (f ∷ fs) h = (h.0, sized_taken n fs h.1)

pub distinct_taken : (n : ℕ) (fs : List FoundAt) → AreDistinct fs → AreDistinct (take n fs)
distinct_taken n fs d = record {
  rising = rising_taken n fs d.rising;
  sized = sized_taken n fs d.sized;
  apart = apart_taken n fs d.apart;
}

pub in_taken : (n : ℕ) (fs : List FoundAt) (w : Network) → IsInList w (take n fs) → IsInList w fs
in_taken zero fs w i = absurd i
in_taken (suc n) [] w i = absurd i
in_taken (suc n) (f ∷ fs) w (inl e) = inl e
in_taken (suc n) (f ∷ fs) w (inr o) = inr (in_taken n fs w o)

in_below : (f : FoundAt) (fs : List FoundAt) (w : Network) → IsBelow f fs → IsInList w fs
    → IsNoCheaper f.network w
in_below f [] w b i = absurd i
in_below f (g ∷ gs) w b (inl e) = subst (λ (v : Network). IsNoCheaper f.network v) e b.0
in_below f (g ∷ gs) w b (inr o) = in_below f gs w b.1 o

-- a plant that is not among them costs at least what the last of them does
pub taken_or_last : (n : ℕ) → 1 ≤ n → (fs : List FoundAt) → AreRising fs → AreScaled fs
    → (w : Network) → IsInList w fs
    → IsInList w (take n fs)
    ⊎ ((length (take n fs) ≡ n)
    × HasFallen (Some (cost_of w)) (last_cost (networks_of (take n fs))))
taken_or_last zero some fs rising scaled w i = absurd (omega (arith, some))
taken_or_last (suc n) some [] rising scaled w i = absurd i
taken_or_last (suc zero) some (f ∷ fs) rising scaled w (inl e) = inl (inl e)
taken_or_last (suc zero) some (f ∷ fs) rising scaled w (inr o) =
    inr (refl, in_below f fs w (all_below f fs rising scaled) o)
taken_or_last (suc (suc n)) some (f ∷ []) rising scaled w (inl e) = inl (inl e)
taken_or_last (suc (suc n)) some (f ∷ []) rising scaled w (inr o) = absurd o
taken_or_last (suc (suc n)) some (f ∷ g ∷ gs) rising scaled w (inl e) = inl (inl e)
taken_or_last (suc (suc n)) some (f ∷ g ∷ gs) rising scaled w (inr o) =
    elim (taken_or_last (suc n) (omega arith) (g ∷ gs) rising.1 scaled.1 w o) [
      | inl k ↦ inl (inr k)
      | inr k ↦ inr ((let e = k.0 in omega (arith, e)), k.1)
    ]

-- ---- the cost that is to be undercut in the end

taken_at : {X : Type 0} (n k : ℕ) (xs : List X) (x : X) → k < n → slice_get xs k ≡ Some x
    → slice_get (take n xs) k ≡ Some x
taken_at zero k xs x lt e = absurd (omega (arith, lt))
taken_at (suc n) k [] x lt e = absurd (let q : None ≡ Some x = e in cc)
taken_at (suc n) zero (y ∷ ys) x lt e = e
taken_at (suc n) (suc k) (y ∷ ys) x lt e = taken_at n k ys x (omega (arith, lt)) e

-- it is that of the plant of this number
pub numbered_some : (n k : ℕ) (fs : List FoundAt) (f : FoundAt) → n ≡ suc k
    → slice_get fs k ≡ Some f → Some (cost_of f.network) ≡ undercut_by n (take n fs)
numbered_some n k fs f e there =
    let w = slice_get_within fs k f there in
    let long = length_taken n fs (omega (arith, e, w)) in
    last_at (take n fs) k f (long ∙ e) (taken_at n k fs f (omega (arith, e)) there)
    ∙ sym (undercut_is n (take n fs) long)

-- if there is none, nothing is to be undercut
pub numbered_none : (n : ℕ) (fs : List FoundAt) → length fs < n
    → undercut_by n (take n fs) ≡ None
numbered_none n fs lt =
    let short : length (networks_of (take n fs)) ≡ length fs =
    length-map (take n fs) (λ (f : FoundAt). f.network)
    ∙ ap (λ (gs : List FoundAt). length gs) (take_whole n fs (omega (arith, lt))) in
    ap (λ (b : Bool). cond b (last_cost (networks_of (take n fs))) None)
    (ne_eqb (length (networks_of (take n fs))) n (λ e. absurd (omega (arith, lt, short, e))))

-- ---- the plants pass as a list of alternatives

-- they rise, also from the last of the earlier ones
abbrev RisesOn : List Network → List FoundAt → Type 0
RisesOn [] fs = AreRising fs
RisesOn (v ∷ vs) [] = Unit {0}
RisesOn (v ∷ vs) (f ∷ fs) = IsNoCheaper v f.network × AreRising (f ∷ fs)

rises_from : (earlier : List Network) (f : FoundAt) (fs : List FoundAt) → RisesOn earlier (f ∷ fs)
    → RisesFrom earlier f.network
rises_from [] f fs h = tt
rises_from (v ∷ vs) f fs h = h.0

rises_now : (earlier : List Network) (f : FoundAt) (fs : List FoundAt) → RisesOn earlier (f ∷ fs)
    → AreRising (f ∷ fs)
rises_now [] f fs h = h
rises_now (v ∷ vs) f fs h = h.1

rises_next : (earlier : List Network) (f : FoundAt) (fs : List FoundAt) → AreRising (f ∷ fs)
    → RisesOn (f.network ∷ earlier) fs
rises_next earlier f [] h = tt
rises_next earlier f (g ∷ gs) h = (h.0, h.1)

-- each is new to the earlier ones
abbrev AreNew : List Network → List FoundAt → Type 0
AreNew earlier [] = Unit {0}
AreNew earlier (f ∷ fs) = IsNewTo true earlier f.network × AreNew earlier fs

new_first : (fs : List FoundAt) → AreNew [] fs
new_first [] = tt
new_first (f ∷ fs) = (tt, new_first fs)

new_next : (f : FoundAt) (earlier : List Network) (fs : List FoundAt) → IsApartFrom f fs
    → AreNew earlier fs → AreNew (f.network ∷ earlier) fs
new_next f earlier [] h a = tt
new_next f earlier (g ∷ gs) h a = ((h.0, a.0), new_next f earlier gs h.1 a.1)

pass_behind : (p : Problem) (earlier : List Network) (fs : List FoundAt)
    → ((w : Network) → IsInList w fs → IsFeasible p w) → AreNew earlier fs → AreApart fs
    → RisesOn earlier fs → ArePassing true p earlier (networks_of fs)
pass_behind p earlier [] feasible new apart rise = tt
pass_behind p earlier (f ∷ fs) feasible new apart rise = (
  feasible f.network (inl refl),
  (rises_from earlier f fs rise, new.0),
  pass_behind p (f.network ∷ earlier) fs (λ w i. feasible w (inr i))
      (new_next f earlier fs apart.0 new.1) apart.1
      (rises_next earlier f fs (rises_now earlier f fs rise)),
)

pub plants_pass : (p : Problem) (fs : List FoundAt) → AreDistinct fs
    → ((w : Network) → IsInList w fs → IsFeasible p w) → ArePassing true p [] (networks_of fs)
plants_pass p fs d feasible = pass_behind p [] fs feasible (new_first fs) d.apart d.rising

pub knows_plants : (p : Problem) (fs : List FoundAt) → Each IsSized (networks_of fs)
    → ((w : Network) → IsInList w fs → IsFeasible p w) → Each (KnowsNetwork p) (networks_of fs)
knows_plants p [] s feasible = tt
knows_plants p (f ∷ fs) s feasible = (
  record {
    rising = s.0.unit_set.rising;
    below =
        below_from (length p.units) f.network.units
        (feasible f.network (inl refl)).structure.s3;
  },
  knows_plants p fs s.1 (λ w i. feasible w (inr i)),
)
