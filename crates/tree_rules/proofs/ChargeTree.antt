-- The example with U3 in or out (`EitherTree`) in three nodes in place of seven, each leaf by a
-- charge. With the sizes that are found at a head it is one node: that is worked out in
-- `tree_rules`.
--
-- If U3 is in, C and P are at 2. The row of P gives 2 * 20 = 40, U3 owes its 20 and U4 its 5. A
-- size of U1 costs 2 + 1 and earns 2, and one of U2 costs 4 and earns 2: at size 0 they owe 10 and
-- 1, or they are left out and owe nothing. Together 65, the claimed cost. A bound lets U1 pay 10 /
-- 100 for each unit of size and U2 1 / 100, which is not enough: so the tree of bounds decides U1
-- and U2 too.
--
-- If U3 is out, C and P are at 2.95, and U1 and U2 are a set with the weight 1: U4 uses C, so each
-- structure has one of them. The row of P gives 59, the set 1, and U4 owes 5. U1 is paid 1 and owes
-- 9 or nothing; U2 is paid all that it owes. Together 65 again, and 64 without the set.
use Rattle.std.proofs.Common.{◌≡◌, ℕ, ◌<◌, ◌==◌, ℤ, pos, negsuc, Bool, true, false, ◌&&◌, List, []}
use Rattle.std.proofs.Common.{◌∷◌, None, refl, sym, subst, arith, inl, inr}
use Rattle.std.proofs.lemmas.Bool.{cases_Bool, or_left, or_cases, and_from, and_parts, eqb-true}
use Rattle.std.proofs.lemmas.Int.{ints}
use Rattle.flow_rules.specs.number_sets.Sets.{has, any_below, listed}
use Rattle.flow_rules.proofs.number_sets.Cited.{any_below-from, has_below}
use Rattle.flow_rules.specs.pns_rules.Structure.{is_made, is_used, mats, IsBetween}
use Rattle.flow_rules.specs.pns_rules.Nodes.{Node}
use Rattle.flow_rules.proofs.pns_rules.Cited.{is_made-some, is_used-from, structure_if}
use Rattle.flow_rules.specs.ChargeFacts.{own_facts}
use Rattle.flow_rules.specs.Cover.{Cover, IsCover, Covers, IsFree}
use Rattle.flow_rules.specs.ChargeSteps.{charge_steps}
use Rattle.flow_rules.specs.ChargeLeaf.{Handed, charge_of}
use Rattle.flow_rules.specs.ChargeLeaf as charges
use Rattle.flow_rules.specs.declared.charge_why.ChargeWhy.TheVariants as charge_causes
use Rattle.tree_rules.specs.declared.why.Why.{Why}
use Rattle.tree_rules.specs.declared.why.Why.TheVariants as causes
use Rattle.tree_rules.specs.Ways.{either}
use Rattle.tree_rules.specs.Tree.{TreeNode, leaf, IsTree}
use Rattle.tree_rules.specs.Claim.{network, infeasible, claimed_cost}
use Rattle.tree_rules.specs.Leaf.{Leaf, charged, LeafPasses, LeafFails}
use Rattle.tree_rules.specs.Accepted.{Tree, first_node, IsAccepted}
use Rattle.tree_rules.proofs.EitherProblem.{example}
use Rattle.tree_rules.proofs.EitherTree.{g, net, claim, root_by, three_in, three_out, its_steps}
use Rattle.tree_rules.proofs.EitherTree.{three_may, is_feasible, proper}
use Rattle.tree_rules.proofs.Worked.{in_range, at_most, not_at_most, EachBelow, each_below, no_case}
use Rattle.tree_rules.proofs.Worked.{no_other}

abbrev set_of : List ℕ → Cover
set_of us = record { weight = pos 1000000000000000000; beside = None; units = us }

abbrev at_two : Handed
at_two = record { d = pos 1; ys = pos 0 ∷ pos 0 ∷ pos 2000000 ∷ pos 2000000 ∷ []; covers = [] }

abbrev with_sets : List Cover → Handed
with_sets covers =
    record { d = pos 1; ys = pos 0 ∷ pos 0 ∷ pos 2950000 ∷ pos 2950000 ∷ []; covers = covers }

abbrev with_set : Handed
with_set = with_sets (set_of (0 ∷ 1 ∷ []) ∷ [])

abbrev charge_by : List ℕ → Handed → TreeNode Leaf
charge_by t h = record { option = t; steps = []; end = leaf (charged h) }

abbrev tree : Tree
tree = root_by (either 2) ∷ charge_by (2 ∷ []) at_two ∷ charge_by [] with_set ∷ []

is_tree : IsTree tree
is_tree = (refl, (omega arith, (tt, (tt, tt))))

-- ---- the charges

abbrev charged_at : Node → Handed → ℤ
charged_at n h = charge_of example n (own_facts net) h

values : (charged_at three_in at_two ≡ pos 65000000000000000000)
    × (charged_at three_out with_set ≡ pos 65000000000000000000)
    × (charged_at three_out (with_sets []) ≡ pos 64000000000000000000)
unfolding listed
values = (refl, refl, refl)

abbrev steps_of : Node → Handed → List ℤ
steps_of n h = charge_steps net n (own_facts net) h.d (charges.multiplier example n h) h.covers

-- ---- the set

module _ (s : ℕ → Bool) (between : IsBetween g three_out.inside three_out.outside s) where
  is_there : mats g s 2 ≡ true
  is_there =
      or_left (is_used g s 2) (is_made g s 2)
      (is_used-from g s 3 2 (omega arith) (between.contains 3 refl) refl)

  has_maker : is_made g s 2 ≡ true
  has_maker = elim (cases_Bool (is_made g s 2)) [
    | inl e ↦ e
    | inr e ↦ no_case ((between.meets.s2 2 is_there).0 e)
  ]

  abbrev Has : Type 0
  Has = any_below 4 (λ u. s u && has (0 ∷ 1 ∷ []) u) ≡ true

  has_at : (u : ℕ) → u < 4 → has (0 ∷ 1 ∷ []) u ≡ true → s u ≡ true → Has
  has_at u lt e h =
      any_below-from 4 (λ v. s v && has (0 ∷ 1 ∷ []) v) u lt
      (and_from (s u) (has (0 ∷ 1 ∷ []) u) h e)

  by_maker : EachBelow 4 (λ u. s u ≡ true → g.makes u 2 ≡ true → Has)
  by_maker = (
    (
      ((tt, λ h e. has_at 0 (omega arith) refl h), λ h e. has_at 1 (omega arith) refl h),
      λ h e. absurd (between.avoids 2 h refl),
    ),
    λ h e. no_case e,
  )

  one_of_two : Has
  one_of_two =
      let k = is_made-some g s 2 has_maker in
      each_below 4 (λ u. s u ≡ true → g.makes u 2 ≡ true → Has) by_maker k.0 k.1 k.2 k.3

covers : Covers g three_out (set_of (0 ∷ 1 ∷ []))
covers s between beside = one_of_two s between

both_free : EachBelow 2 (λ u. has (0 ∷ 1 ∷ []) u ≡ true → IsFree g three_out u)
both_free = (
  (tt, λ e. record { known = omega arith; not_inside = refl; not_outside = refl }),
  λ e. record { known = omega arith; not_inside = refl; not_outside = refl },
)

is_cover : IsCover g three_out (set_of (0 ∷ 1 ∷ []))
is_cover = record {
  set = record { rising = ((omega arith, tt), (tt, tt)); below = (omega arith, (omega arith, tt)) };
  some = λ e. let q : 0 ∷ 1 ∷ [] ≡ [] = e in cc;
  free =
      λ u e. each_below 2 (λ v. has (0 ∷ 1 ∷ []) v ≡ true → IsFree g three_out v) both_free u
      (has_below 2 (0 ∷ 1 ∷ []) u (omega arith, (omega arith, tt)) e) e;
  beside_free = tt;
  apart = tt;
}

-- ---- the tree is accepted

abbrev Charges : Node → Handed → Type 0
Charges n h = LeafPasses false example (claimed_cost (network claim)) n (charged h)

in_charged : Charges three_in at_two
unfolding listed
in_charged = record {
  scale = inr (at_most _ _ tt, tt);
  each_row = refl;
  covered = tt;
  formed = in_range (steps_of three_in at_two) refl;
  reaches = inl (at_most _ _ tt, at_most _ _ tt);
}

out_charged : Charges three_out with_set
unfolding listed
out_charged = record {
  scale = inr (at_most _ _ tt, tt);
  each_row = refl;
  covered = (record { formed = is_cover; weight = at_most _ _ tt; covers = covers }, tt);
  formed = in_range (steps_of three_out with_set) refl;
  reaches = inl (at_most _ _ tt, at_most _ _ tt);
}

is_accepted : IsAccepted example first_node (network claim) tree
is_accepted = record {
  claimed = is_feasible;
  passes = (its_steps, (three_may, refl), (tt, in_charged, (tt, out_charged, tt)));
}

-- ---- faults of the leaf where U3 is out

abbrev Fails : Handed → Why → Type 0
Fails h why = LeafFails false example (claimed_cost (network claim)) three_out (charged h) why

-- without the set the charge is below the claimed cost
without_set : Fails (with_sets []) causes.Bound
unfolding listed
without_set = (
  charge_causes.Bound,
  refl,
  inr (
    (inr (at_most _ _ tt, tt), refl),
    inr (
      tt,
      inr (
        in_range (steps_of three_out (with_sets [])) refl,
        inl (
          refl,
          λ h. elim h [
            | inl k ↦ not_at_most (pos 65000000000000000000) (pos 64000000000000000000) tt k.1
            | inr k ↦ let none : pos 1 ≡ pos 0 = k.0 in omega (arith, ints)
          ],
        ),
      ),
    ),
  ),
)

-- U1 and U4 are a structure that has not U2
one_and_four : IsBetween g three_out.inside three_out.outside (has (0 ∷ 3 ∷ []))
unfolding listed
one_and_four = record {
  meets =
      structure_if g proper (has (0 ∷ 3 ∷ []))
      (λ u e. has_below 4 (0 ∷ 3 ∷ []) u (omega arith, (omega arith, tt)) e) refl;
  contains = λ u e. elim (or_cases (3 == u) false e) [
    | inl h ↦ subst (λ (v : ℕ). has (0 ∷ 3 ∷ []) v ≡ true) (eqb-true 3 u h) refl
    | inr h ↦ no_case h
  ];
  avoids = λ u e o. elim (or_cases ((2 == u) && true) false o) [
    | inl h
        ↦ no_case
        (subst (λ (v : ℕ). has (0 ∷ 3 ∷ []) v ≡ true)
        (sym (eqb-true 2 u (and_parts (2 == u) true h).0)) e)
    | inr h ↦ no_case h
  ];
}

misses_one : Fails (with_sets (set_of (1 ∷ []) ∷ [])) causes.Cover
unfolding listed
misses_one = (
  charge_causes.Cover,
  refl,
  inr (
    (inr (at_most _ _ tt, tt), refl),
    inl (refl, λ h. no_case (h.0.covers (has (0 ∷ 3 ∷ [])) one_and_four tt)),
  ),
)

-- U3 is left out here
not_free : Fails (with_sets (set_of (0 ∷ 1 ∷ 2 ∷ []) ∷ [])) causes.Cover
unfolding listed
not_free = (
  charge_causes.Cover,
  refl,
  inr (
    (inr (at_most _ _ tt, tt), refl),
    inl (refl, λ h. no_other (h.0.formed.free 2 refl).not_outside),
  ),
)

abbrev below_zero : Cover
below_zero = record { weight = negsuc 0; beside = None; units = 0 ∷ 1 ∷ [] }

weighs_less : Fails (with_sets (below_zero ∷ [])) causes.Cover
unfolding listed
weighs_less = (
  charge_causes.Cover,
  refl,
  inr (
    (inr (at_most _ _ tt, tt), refl),
    inl (refl, λ h. not_at_most (pos 0) (negsuc 0) tt h.0.weight),
  ),
)

-- nothing is claimed that a charge could reach
no_cost_to_reach : LeafFails false example (claimed_cost infeasible) three_out (charged with_set)
    causes.Bound
no_cost_to_reach = (
  charge_causes.Bound,
  refl,
  inl (
    refl,
    λ h. elim h.0 [
      | inl k ↦ let none : pos 1 ≡ pos 0 = k in omega (arith, ints)
      | inr k ↦ k.1
    ],
  ),
)
