-- What holds of the best networks and the cells of a search, if a leaf is branched and networks are
-- found at its children.
use Rattle.std.proofs.Common.{◌≡◌, ◌⊎◌, ℕ, zero, suc, ◌+◌, ◌<◌, ◌≤◌, pos, ℤ, ◌≤ℤ◌, true, false}
use Rattle.std.proofs.Common.{List, [], ◌∷◌, ◌++◌, length, take, slice_set, Option, Some, None}
use Rattle.std.proofs.Common.{inl}
use Rattle.std.proofs.Common.{inr, refl, sym, ap, ◌∙◌, subst, arith, true≢false, length-append}
use Rattle.std.proofs.Common.{append_assoc}
use Rattle.std.specs.List.{slice_get}
use Rattle.std.proofs.lemmas.Bool.{cases_eq}
use Rattle.std.proofs.lemmas.List.{get_or_append_left, get_or-append-add, get_or-set_same}
use Rattle.std.proofs.lemmas.List.{get_or-set_other, length-set}
use Rattle.rank_check.specs.problem_rules.Each.{Each}
use Rattle.rank_check.specs.problem_rules.Problem.{Problem}
use Rattle.rank_check.specs.tree_rules.Tree.{End, leaf}
use Rattle.rank_check.specs.tree_rules.Claim.{Network, CostOver}
use Rattle.rank_check.specs.tree_rules.Leaf.{Leaf, bounded, untried, IsBounded}
use Rattle.rank_check.specs.rank_rules.Networks.{cost_of, last_cost}
use Rattle.abb_search.specs.search_tree.Growth.{EndsOpen}
use Rattle.abb_search.specs.search_tree.Cells.{Cell, no_cell, place_of, cell_at}
use Rattle.rank_check.specs.tree_rules.Costs.{HasFallen}
use Rattle.abb_search.proofs.search_tree.Cited.{leaf_fallen}
use Rattle.abb_search.specs.node_evaluation.Looks.{is_bounded, is_charged, IsFoundAt}
use Rattle.abb_search.specs.node_evaluation.Children.{IsSolvedAs, IsSolvedBy, AreSolvedBy}
use Rattle.rank_search.specs.Found.{FoundAt, networks_of, IsOfLeaf, AreApart, AreRising}
use Rattle.rank_search.specs.Found.{IsFoundThere, IsListedOrBeaten, AreBest}
use Rattle.rank_search.specs.Listed.{Listed, AreScaled, IsListed, IsAdded, IsSomeAdded, AreAdded}
use Rattle.rank_search.proofs.PlaceLemmas.{no_cheaper_trans, rising_between, scaled_between}
use Rattle.rank_search.proofs.PlaceLemmas.{listed_more}
use Rattle.rank_search.proofs.CostLemmas.{last_positive, still_full, last_falls, AreScaledAll}

-- ---- the front of a list

module _ {X : Type 0} (P : X → Type 0) where
  each_at : (xs : List X) → Each P xs → (k : ℕ) (x : X) → slice_get xs k ≡ Some x → P x
  each_at [] h k x e = absurd (let q : None ≡ Some x = e in cc)
  each_at (y ∷ ys) h zero x e =
      subst P (let q : Some y ≡ Some x = e in let r : y ≡ x = cc in r) h.0
  each_at (y ∷ ys) h (suc k) x e = each_at ys h.1 k x e

  each_from : (xs : List X) → ((k : ℕ) (x : X) → slice_get xs k ≡ Some x → P x) → Each P xs
  each_from [] h = tt
  each_from (x ∷ xs) h = (h 0 x refl, each_from xs (λ k y e. h (suc k) y e))

  each_taken : (n : ℕ) (xs : List X) → Each P xs → Each P (take n xs)
  each_taken zero xs h = tt
  each_taken (suc n) [] h = tt
  each_taken (suc n) (x ∷ xs) h = (h.0, each_taken n xs h.1)

  each_between : (xs ys : List X) (x : X) → P x → Each P (xs ++ ys) → Each P (xs ++ x ∷ ys)
  each_between [] ys x p h = (p, h)
  each_between (y ∷ xs) ys x p h = (h.0, each_between xs ys x p h.1)

-- ---- leaves of a list

of_leaf_between : (j : ℕ) (before after : List FoundAt) (f : FoundAt)
    → IsOfLeaf j (before ++ after)
    → IsOfLeaf j (before ++ f ∷ after)
of_leaf_between j [] after f h = inr h
of_leaf_between j (g ∷ gs) after f (inl e) = inl e
of_leaf_between j (g ∷ gs) after f (inr h) = inr (of_leaf_between j gs after f h)

of_leaf_here : (before after : List FoundAt) (f : FoundAt) → IsOfLeaf f.leaf (before ++ f ∷ after)
of_leaf_here [] after f = inl refl
of_leaf_here (g ∷ gs) after f = inr (of_leaf_here gs after f)

of_leaf_other : (j : ℕ) (before after : List FoundAt) (f : FoundAt)
    → IsOfLeaf j (before ++ f ∷ after) → (f.leaf ≡ j) ⊎ IsOfLeaf j (before ++ after)
of_leaf_other j [] after f (inl e) = inl e
of_leaf_other j [] after f (inr h) = inr h
of_leaf_other j (g ∷ gs) after f (inl e) = inr (inl e)
of_leaf_other j (g ∷ gs) after f (inr h) =
    elim (of_leaf_other j gs after f h) [ inl e ↦ inl e | inr o ↦ inr (inr o) ]

of_leaf_taken : (j n : ℕ) (fs : List FoundAt) → IsOfLeaf j (take n fs) → IsOfLeaf j fs
of_leaf_taken j zero fs h = absurd h
of_leaf_taken j (suc n) [] h = absurd h
of_leaf_taken j (suc n) (f ∷ fs) (inl e) = inl e
of_leaf_taken j (suc n) (f ∷ fs) (inr h) = inr (of_leaf_taken j n fs h)

apart_between : (before after : List FoundAt) (f : FoundAt)
    → (IsOfLeaf f.leaf (before ++ after) → ⊥) → AreApart (before ++ after)
    → AreApart (before ++ f ∷ after)
apart_between [] after f new h = (new, h)
apart_between (g ∷ gs) after f new h = (
  λ o. elim (of_leaf_other g.leaf gs after f o) [ inl e ↦ new (inl (sym e)) | inr k ↦ h.0 k ],
  apart_between gs after f (λ o. new (inr o)) h.1,
)

apart_taken : (n : ℕ) (fs : List FoundAt) → AreApart fs → AreApart (take n fs)
apart_taken zero fs h = tt
apart_taken (suc n) [] h = tt
apart_taken (suc n) (f ∷ fs) h = (λ o. h.0 (of_leaf_taken f.leaf n fs o), apart_taken n fs h.1)

-- ---- what drops out costs at least what the last one then does

-- one of them, at this leaf, which has the property and costs at least this much
record IsOne (P : FoundAt → Type 0) (fs : List FoundAt) (j : ℕ) (cost : Option CostOver) : Type
    0 where
  pub found : FoundAt
  pub leaf_is : found.leaf ≡ j
  pub has : P found
  pub scaled : pos 1 ≤ℤ found.network.d
  pub costs : HasFallen (Some (cost_of found.network)) cost

module _ (P : FoundAt → Type 0) (j : ℕ) where
  behind : (f : FoundAt) (fs : List FoundAt) → Each P fs → AreRising (f ∷ fs) → AreScaled (f ∷ fs)
      → IsOfLeaf j fs → IsOne P fs j (Some (cost_of f.network))
  behind f [] each rising scaled o = absurd o
  behind f (g ∷ gs) each rising scaled (inl e) =
      record { found = g; leaf_is = e; has = each.0; scaled = scaled.1.0; costs = rising.0 }
  behind f (g ∷ gs) each rising scaled (inr o) =
      let k = behind g gs each.1 rising.1 scaled.1 o in
      record {
        found = k.found;
        leaf_is = k.leaf_is;
        has = k.has;
        scaled = k.scaled;
        costs =
            no_cheaper_trans f.network g.network k.found.network scaled.0 scaled.1.0 k.scaled
            rising.0 k.costs;
      }

  kept_or_dropped : (n : ℕ) → 1 ≤ n → (fs : List FoundAt) → Each P fs → AreRising fs
      → AreScaled fs
      → IsOfLeaf j fs
      → IsOfLeaf j (take n fs)
      ⊎ ((length (take n fs) ≡ n) × IsOne P fs j (last_cost (networks_of (take n fs))))
  kept_or_dropped zero some fs each rising scaled o = absurd (omega (arith, some))
  kept_or_dropped (suc n) some [] each rising scaled o = absurd o
  kept_or_dropped (suc zero) some (f ∷ fs) each rising scaled (inl e) = inl (inl e)
  kept_or_dropped (suc zero) some (f ∷ fs) each rising scaled (inr o) =
      let k = behind f fs each.1 rising scaled o in
      inr (
        refl,
        record {
          found = k.found;
          leaf_is = k.leaf_is;
          has = k.has;
          scaled = k.scaled;
          costs =
              k.costs;
        },
      )
  kept_or_dropped (suc (suc n)) some (f ∷ []) each rising scaled o = inl o
  kept_or_dropped (suc (suc n)) some (f ∷ g ∷ gs) each rising scaled (inl e) = inl (inl e)
  kept_or_dropped (suc (suc n)) some (f ∷ g ∷ gs) each rising scaled (inr o) =
      elim (kept_or_dropped (suc n) (omega arith) (g ∷ gs) each.1 rising.1 scaled.1 o) [
        | inl k ↦ inl (inr k)
        | inr k ↦
            let one = k.1 in
            inr (
              (let e = k.0 in omega (arith, e)),
              record {
                found = one.found;
                leaf_is = one.leaf_is;
                has = one.has;
                scaled =
                    one.scaled;
                costs = one.costs;
              },
            )
      ]

-- ---- one cell more

pub record AreBestNow (p : Problem) (cells : List Cell) (l m : Listed) : Type 0 where
  pub best : AreBest p m.count cells m.found
  pub listed : IsListed m
  pub count_is : m.count ≡ l.count

bounded_is : (e : End Leaf) (d : ℤ) (ys : List ℤ) → e ≡ leaf (bounded d ys) → is_bounded e ≡ true
bounded_is e d ys h = ap (λ (k : End Leaf). is_bounded k) h

module _ (p : Problem) (cells : List Cell) (c : Cell) where
  abbrev more : List Cell
  more = cells ++ c ∷ []

  before : (j : ℕ) → j < length cells → cell_at (cells ++ c ∷ []) j ≡ cell_at cells j
  before j lt = get_or_append_left cells (c ∷ []) no_cell j lt

  last_is : cell_at (cells ++ c ∷ []) (length cells) ≡ c
  last_is = ap (λ i. cell_at (cells ++ c ∷ []) i) (plus (length cells))
      ∙ get_or-append-add cells (c ∷ []) 0 no_cell
    where
      plus : (n : ℕ) → n ≡ n + 0
      plus n = omega arith

  pub longer : length (cells ++ c ∷ []) ≡ suc (length cells)
  longer = let e = length-append cells (c ∷ []) in omega (arith, e)

  there_more : (f : FoundAt) → IsFoundThere p cells f → IsFoundThere p more f
  there_more f h =
      let e = before f.leaf h.there in
      record {
        there = let a = h.there in let b = longer in omega (arith, a, b);
        d = h.d;
        ys = h.ys;
        end_is = ap (λ (k : Cell). k.end) e ∙ h.end_is;
        found = subst (λ (k : Cell). IsFoundAt p (place_of k) f.network) (sym e) h.found;
        bound =
            subst (λ (k : Cell). IsBounded p (Some (cost_of f.network)) (place_of k) h.d h.ys)
            (sym e) h.bound;
      }

  each_there : (fs : List FoundAt) → Each (IsFoundThere p cells) fs
      → Each (IsFoundThere p more) fs
  each_there [] h = tt
  each_there (f ∷ fs) h = (there_more f h.0, each_there fs h.1)

  -- ---- nothing is found there
  -- nor is a node charged
  uncharged_more : ((j : ℕ) → j < length cells → is_charged (cell_at cells j).end ≡ false)
      → is_charged c.end ≡ false → (j : ℕ) → j < length more
      → is_charged (cell_at more j).end ≡ false
  uncharged_more h none j lt = elim (cases_eq j (length cells)) [
    | inl same ↦ ap (λ i. is_charged (cell_at more i).end) same
        ∙ (ap (λ (k : Cell). is_charged k.end) last_is ∙ none)
    | inr ne ↦
        let less : j < length cells = let n = longer in omega (arith, lt, n, ne) in
        ap (λ (k : Cell). is_charged k.end) (before j less) ∙ h j less
  ]

  unsolved : (count : ℕ) (fs : List FoundAt) → is_bounded c.end ≡ false → is_charged c.end ≡ false
      → AreBest p count cells fs → AreBest p count more fs
  unsolved count fs none uncharged b = record {
    there = λ k f e. there_more f (b.there k f e);
    apart = b.apart;
    rising = b.rising;
    few = b.few;
    leaves = λ j lt. elim (cases_eq j (length cells)) [
      | inl same
          ↦ λ d ys e. absurd
          (true≢false (sym (bounded_is (cell_at more j).end d ys e)
          ∙ (ap (λ i. is_bounded (cell_at more i).end) same
          ∙ (ap (λ (k : Cell). is_bounded k.end) last_is ∙ none))))
      | inr ne ↦
          let less : j < length cells = let n = longer in omega (arith, lt, n, ne) in
          subst (λ (k : Cell). (d : ℤ) (ys : List ℤ) → k.end ≡ leaf (bounded d ys) → IsOfLeaf j fs
          ⊎ ((length fs ≡ count) × IsBounded p (last_cost (networks_of fs)) (place_of k) d ys))
          (sym (before j less)) (b.leaves j less)
    ];
    uncharged = uncharged_more b.uncharged uncharged;
  }

  -- ---- a network is found there
  module _ (l m : Listed) (w : Network) (listed : IsListed l)
      (b : AreBest p l.count cells l.found)
      (solved : IsSolvedAs p c w)
      (a : IsAdded l m (record { network = w; leaf = length cells })) where
    abbrev found : FoundAt
    found = record { network = w; leaf = length cells }

    abbrev all : List FoundAt
    all = a.before ++ found ∷ a.after

    there_now : IsFoundThere p more found
    there_now = record {
      there = let n = longer in omega (arith, n);
      d = solved.d;
      ys = solved.ys;
      end_is = ap (λ (k : Cell). k.end) last_is ∙ solved.end_is;
      found = subst (λ (k : Cell). IsFoundAt p (place_of k) w) (sym last_is) solved.found;
      bound =
          subst (λ (k : Cell). IsBounded p (Some (cost_of w)) (place_of k) solved.d solved.ys)
          (sym last_is) solved.bounded;
    }

    old_there : Each (IsFoundThere p cells) l.found
    old_there = each_from (IsFoundThere p cells) l.found b.there

    all_there : Each (IsFoundThere p more) all
    all_there = each_between (IsFoundThere p more) a.before a.after found there_now
        (each_there (a.before ++ a.after)
        (subst (λ (fs : List FoundAt). Each (IsFoundThere p cells) fs) a.old_is old_there))

    scale : pos 1 ≤ℤ w.d
    scale = solved.found.positive

    all_rising : AreRising all
    all_rising =
        rising_between a.before a.after found a.no_dearer a.dearer
        (subst (λ (fs : List FoundAt). AreRising fs) a.old_is listed.rising)

    all_scaled : AreScaled all
    all_scaled =
        scaled_between a.before a.after found scale
        (subst (λ (fs : List FoundAt). AreScaled fs) a.old_is listed.scaled)

    new_listed : IsListed m
    new_listed = listed_more l m found listed scale a

    no_leaf : (fs : List FoundAt) → Each (IsFoundThere p cells) fs → IsOfLeaf (length cells) fs
        → ⊥
    no_leaf [] h o = o
    no_leaf (f ∷ fs) h (inl e) = let lt = h.0.there in absurd (omega (arith, lt, e))
    no_leaf (f ∷ fs) h (inr o) = no_leaf fs h.1 o

    all_apart : AreApart all
    all_apart =
        apart_between a.before a.after found
        (no_leaf (a.before ++ a.after)
        (subst (λ (fs : List FoundAt). Each (IsFoundThere p cells) fs) a.old_is old_there))
        (subst (λ (fs : List FoundAt). AreApart fs) a.old_is b.apart)

    -- one of all is still there, or costs at least what the last one does
    listed_or_beaten : (j : ℕ) → IsOfLeaf j all → IsListedOrBeaten p m.count m.found more j
    listed_or_beaten j o d ys e =
        elim
        (kept_or_dropped (IsFoundThere p more) j l.count listed.asked all all_there all_rising
        all_scaled o) [
          | inl k ↦ inl (subst (λ (fs : List FoundAt). IsOfLeaf j fs) (sym a.new_is) k)
          | inr k ↦ inr (
            ap (λ (fs : List FoundAt). length fs) a.new_is ∙ (k.0 ∙ sym a.count_is),
            beaten k.1,
          )
        ]
      where
        beaten : IsOne (IsFoundThere p more) all j (last_cost (networks_of (take l.count all)))
            → IsBounded p (last_cost (networks_of m.found)) (place_of (cell_at more j)) d ys
        beaten k =
            let q : leaf (bounded k.has.d k.has.ys) ≡ leaf (bounded d ys) =
            sym k.has.end_is ∙ (ap (λ i. (cell_at more i).end) k.leaf_is ∙ e) in
            let ed : k.has.d ≡ d = cc in
            let ey : k.has.ys ≡ ys = cc in
            let costs : HasFallen (Some (cost_of k.found.network))
            (last_cost (networks_of m.found)) =
            subst
            (λ (fs : List FoundAt). HasFallen (Some (cost_of k.found.network))
            (last_cost (networks_of fs))) (sym a.new_is) k.costs in
            let here : IsBounded p (last_cost (networks_of m.found))
            (place_of (cell_at more k.found.leaf)) k.has.d k.has.ys
            = leaf_fallen p (Some (cost_of k.found.network)) (last_cost (networks_of m.found))
            (place_of (cell_at more k.found.leaf)) (bounded k.has.d k.has.ys) costs k.scaled
            (last_positive m.found new_listed.scaled) k.has.bound in
            subst
            (λ i. IsBounded p (last_cost (networks_of m.found)) (place_of (cell_at more i)) d
            ys) k.leaf_is
            (subst
            (λ (z : ℤ). IsBounded p (last_cost (networks_of m.found))
            (place_of (cell_at more k.found.leaf)) z ys) ed
            (subst
            (λ (zs : List ℤ). IsBounded p (last_cost (networks_of m.found))
            (place_of (cell_at more k.found.leaf)) k.has.d zs) ey here))

    old_leaf : (j : ℕ) → j < length cells → IsListedOrBeaten p m.count m.found more j
    old_leaf j lt d ys e =
        elim (b.leaves j lt d ys (ap (λ (k : Cell). k.end) (sym (before j lt)) ∙ e)) [
          | inl o
              ↦ listed_or_beaten j
              (of_leaf_between j a.before a.after found
              (subst (λ (fs : List FoundAt). IsOfLeaf j fs) a.old_is o)) d ys e
          | inr k ↦ inr (
            still_full l m found listed scale a k.0,
            subst (λ (i : Cell). IsBounded p (last_cost (networks_of m.found)) (place_of i) d ys)
                (sym (before j lt))
                (leaf_fallen p (last_cost (networks_of l.found)) (last_cost (networks_of m.found))
                (place_of (cell_at cells j)) (bounded d ys)
                (last_falls l m found listed scale a k.0)
                (last_positive l.found listed.scaled) (last_positive m.found new_listed.scaled)
                k.1),
          )
        ]

    solved_best : AreBest p m.count more m.found
    solved_best = record {
      there =
          each_at (IsFoundThere p more) m.found
          (subst (λ (fs : List FoundAt). Each (IsFoundThere p more) fs) (sym a.new_is)
          (each_taken (IsFoundThere p more) l.count all all_there));
      apart =
          subst (λ (fs : List FoundAt). AreApart fs) (sym a.new_is)
          (apart_taken l.count all all_apart);
      rising = new_listed.rising;
      few = new_listed.few;
      leaves = λ j lt. elim (cases_eq j (length cells)) [
        | inl same
            ↦ listed_or_beaten j
            (subst (λ i. IsOfLeaf i all) (sym same) (of_leaf_here a.before a.after found))
        | inr ne ↦ old_leaf j (let n = longer in omega (arith, lt, n, ne))
      ];
      uncharged = uncharged_more b.uncharged (ap (λ (e : End Leaf). is_charged e) solved.end_is);
    }

  one_more : (w : Option Network) (l m : Listed) → IsListed l → AreBest p l.count cells l.found
      → IsSolvedBy p c w → IsSomeAdded l m (length cells) w → AreBestNow p more l m
  one_more None l m listed b s e = record {
    best =
        subst (λ (k : Listed). AreBest p k.count more k.found) (sym e)
        (unsolved l.count l.found s.0 s.1 b);
    listed = subst IsListed (sym e) listed;
    count_is = ap (λ (k : Listed). k.count) e;
  }
  one_more (Some w) l m listed b s a = record {
    best = solved_best l m w listed b s a;
    listed = new_listed l m w listed b s a;
    count_is = a.count_is;
  }

-- ---- all children

pub all_more : (p : Problem) (children : List Cell) (ws : List (Option Network))
    (cells : List Cell)
    (l m : Listed) → IsListed l → AreBest p l.count cells l.found → AreSolvedBy p children ws
    → AreAdded l m (length cells) ws → AreBestNow p (cells ++ children) l m
all_more p [] [] cells l m listed b s e = record {
  best =
      subst (λ (k : Listed). AreBest p k.count (cells ++ []) k.found) (sym e)
      (subst (λ (cs : List Cell). AreBest p l.count cs l.found) (nothing cells) b);
  listed = subst IsListed (sym e) listed;
  count_is = ap (λ (k : Listed). k.count) e;
}
  where
    nothing : (cs : List Cell) → cs ≡ cs ++ []
    nothing [] = refl
    nothing (c ∷ cs) = ap (λ ds. c ∷ ds) (nothing cs)
all_more p [] (w ∷ ws) cells l m listed b s e = absurd s
all_more p (c ∷ cs) [] cells l m listed b s e = absurd s
all_more p (c ∷ cs) (w ∷ ws) cells l m listed b s a =
    let one = one_more p cells c w l a.0 listed b s.0 a.1 in
    let rest =
    all_more p cs ws (cells ++ c ∷ []) a.0 m one.listed one.best s.1
    (subst (λ n. AreAdded a.0 m n ws) (sym (longer p cells c)) a.2) in
    record {
      best =
          subst (λ (ds : List Cell). AreBest p m.count ds m.found)
          (append_assoc cells (c ∷ []) cs)
          rest.best;
      listed = rest.listed;
      count_is = rest.count_is ∙ one.count_is;
    }

-- the scales of networks that are found at leaves are above 0
pub found_scaled : (p : Problem) (children : List Cell) (ws : List (Option Network))
    → AreSolvedBy p children ws → AreScaledAll ws
found_scaled p [] [] s = tt
found_scaled p [] (w ∷ ws) s = absurd s
found_scaled p (c ∷ cs) [] s = absurd s
found_scaled p (c ∷ cs) (None ∷ ws) s = found_scaled p cs ws s.1
found_scaled p (c ∷ cs) (Some w ∷ ws) s = (s.0.found.positive, found_scaled p cs ws s.1)

-- there are none before the first cell
pub no_cells : (p : Problem) (count : ℕ) → AreBest p count [] []
no_cells p count = record {
  there = λ k f e. absurd (let q : None ≡ Some f = e in cc);
  apart = tt;
  rising = tt;
  few = omega arith;
  leaves = λ j lt. absurd (omega (arith, lt));
  uncharged = λ j lt. absurd (omega (arith, lt));
}

-- ---- an open leaf is branched

pub as_branch : (p : Problem) (count : ℕ) (cells : List Cell) (fs : List FoundAt) (at : ℕ)
    (now : Cell) → AreBest p count cells fs → at < length cells → EndsOpen (cell_at cells at).end
    → is_bounded now.end ≡ false → is_charged now.end ≡ false
    → AreBest p count (slice_set cells at now) fs
as_branch p count cells fs at now b there was_open none uncharged = record {
  there = λ k f e.
      let h = b.there k f e in
      let same =
      get_or-set_other cells at f.leaf now no_cell
      (λ (q : f.leaf ≡ at). let r : leaf (bounded h.d h.ys) ≡ leaf (untried was_open.0) =
      sym h.end_is ∙ (ap (λ i. (cell_at cells i).end) q ∙ was_open.1) in cc) in
      record {
        there = let a = h.there in let n = length-set cells at now in omega (arith, a, n);
        d = h.d;
        ys = h.ys;
        end_is = ap (λ (c : Cell). c.end) same ∙ h.end_is;
        found = subst (λ (c : Cell). IsFoundAt p (place_of c) f.network) (sym same) h.found;
        bound =
            subst (λ (c : Cell). IsBounded p (Some (cost_of f.network)) (place_of c) h.d h.ys)
            (sym same) h.bound;
      };
  apart = b.apart;
  rising = b.rising;
  few = b.few;
  leaves = λ j lt. elim (cases_eq j at) [
    | inl same
        ↦ λ d ys e. absurd
        (true≢false (sym (bounded_is (cell_at (slice_set cells at now) j).end d ys e)
        ∙ (ap (λ i. is_bounded (cell_at (slice_set cells at now) i).end) same
        ∙ (ap (λ (c : Cell). is_bounded c.end) (get_or-set_same cells at now no_cell there)
        ∙ none))))
    | inr ne ↦
        subst (λ (c : Cell). (d : ℤ) (ys : List ℤ) → c.end ≡ leaf (bounded d ys) → IsOfLeaf j fs
        ⊎ ((length fs ≡ count) × IsBounded p (last_cost (networks_of fs)) (place_of c) d ys))
        (sym (get_or-set_other cells at j now no_cell ne))
        (b.leaves j (let n = length-set cells at now in omega (arith, lt, n)))
  ];
  uncharged = λ j lt. elim (cases_eq j at) [
    | inl same ↦ ap (λ i. is_charged (cell_at (slice_set cells at now) i).end) same
        ∙ (ap (λ (c : Cell). is_charged c.end) (get_or-set_same cells at now no_cell there)
        ∙ uncharged)
    | inr ne ↦
        ap (λ (c : Cell). is_charged c.end) (get_or-set_other cells at j now no_cell ne)
        ∙ b.uncharged j (let n = length-set cells at now in omega (arith, lt, n))
  ];
}
