-- Cells of three networks of a plant with three units. The first costs 75 and has U1 and U3. The
-- second costs 76 and has U2 too, which is idle: 1 more, which is 1.3 % of 75. The third costs 86
-- and has U2 in place of U1: 11 more, which is 14.7 %. Costs are in 10^-18 here.
use Rattle.std.proofs.Common.{◌≡◌, ◌++◌, ℕ, pos, List, [], ◌∷◌, codes, decimal, refl}
use Rattle.rank_rules.specs.problem_rules.Problem.{Problem, OperatingUnit}
use Rattle.rank_rules.specs.tree_rules.Claim.{Network}
use Rattle.report_rules.specs.Amounts.{quotient}
use Rattle.report_rules.specs.Ranked.{share_above_cell, with_idle, change_cell, idle_cell}
use Rattle.report_rules.specs.Graph.{change_words}

abbrev unit_of : List ℕ → OperatingUnit
unit_of name = record {
  name = name;
  lower = pos 0;
  upper = pos 100000000;
  fix = pos 0;
  proportional = pos 0;
  investment_fix = pos 0;
  investment_proportional = pos 0;
  inputs = [];
  outputs = [];
}

abbrev plant : Problem
plant = record {
  materials = [];
  units = unit_of (codes "U1") ∷ unit_of (codes "U2") ∷ unit_of (codes "U3") ∷ [];
  exclusions = [];
  payout = pos 1;
}

abbrev first : Network
first = record {
  units = 0 ∷ 2 ∷ [];
  sizes = pos 20000000 ∷ pos 20000000 ∷ [];
  d = pos 1;
  cost = pos 75;
}

abbrev second : Network
second = record {
  units = 0 ∷ 1 ∷ 2 ∷ [];
  sizes = pos 20000000 ∷ pos 0 ∷ pos 20000000 ∷ [];
  d = pos 1;
  cost = pos 76;
}

abbrev third : Network
third = record {
  units = 1 ∷ 2 ∷ [];
  sizes = pos 20000000 ∷ pos 20000000 ∷ [];
  d = pos 1;
  cost = pos 86;
}

-- the second takes in U2, which is idle; against the second the first leaves it out
taken_in : change_cell plant first second ≡ codes "+U2"
taken_in = refl

left_out : change_cell plant second first ≡ codes "-U2"
left_out = refl

exchanged : change_cell plant first third ≡ codes "+U2 -U1"
exchanged = refl

idle : idle_cell plant second ≡ codes "U2"
unfolding with_idle
idle = refl

-- 1 of 75, and 11 of 75
a_little : share_above_cell first second ≡ decimal 1 ++ codes ".3"
unfolding quotient share_above_cell
a_little = refl

more : share_above_cell first third ≡ decimal 14 ++ codes ".7"
unfolding quotient share_above_cell
more = refl

-- in a graph the change comes after a comma, if there is one
with_change : change_words (change_cell plant first third) ≡ codes ", +U2 -U1"
with_change = refl

without_change : change_words (change_cell plant first first) ≡ []
without_change = refl
