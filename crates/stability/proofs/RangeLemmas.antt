-- The range from its two ends, and what a refusal means.
use Rattle.std.proofs.Common.{◌≡◌, ℕ, ◌+◌, ◌/◌, ◌<◌, ◌≤◌, inl, inr, ℤ, pos, ◌+ℤ◌, ◌-ℤ◌, ◌*ℤ◌, Some}
use Rattle.std.proofs.Common.{None, refl, sym, ap, ◌∙◌, subst, arith}
use Rattle.std.proofs.lemmas.Int.{ints}
use Rattle.stability_laws.specs.problem_rules.Problem.{Problem}
use Rattle.stability_laws.specs.problem_rules.Validity.{IsValid}
use Rattle.stability_laws.specs.number_sets.Sets.{has}
use Rattle.stability_laws.specs.flow_rules.Net.{net_of}
use Rattle.stability_laws.specs.flow_rules.Flows.{cost}
use Rattle.stability_laws.specs.tree_rules.Claim.{Network, size_in, IsFeasible}
use Rattle.stability_laws.specs.tree_rules.Accepted.{first_node}
use Rattle.solver.specs.abb_search.Found.{IsFound}
use Rattle.solver.specs.abb_search.declared.outcome.Found.TheVariants as founds
use Rattle.stability_laws.specs.report_rules.declared.spot.Spot.{Spot}
use Rattle.stability_laws.specs.report_rules.declared.side.Side.{Side}
use Rattle.stability_laws.specs.report_rules.declared.side.Side.TheVariants.{Below, Above}
use Rattle.stability_laws.specs.report_rules.Spot.{KnowsSpot, value_at, valued, IsAllowedValue}
use Rattle.stability_laws.specs.report_rules.Spot.{value_on}
use Rattle.stability_laws.specs.report_rules.Spot.{limit_on}
use Rattle.stability_laws.specs.report_rules.Range.{cost_at, IsBestAt, IsCheaper, IsCheaperAt}
use Rattle.stability_laws.specs.report_rules.Range.{beyond, IsRange}
use Rattle.stability_laws.specs.report_rules.Range.{IsHalfProved, MayWant, IsPastCost}
use Rattle.stability_laws.specs.report_rules.Rise.{least_rise}
use Rattle.stability_laws.specs.Laws.{ValuedIsSame, BestBetween, BestAway}
use Rattle.stability.specs.Case.{Case}
use Rattle.stability.specs.Refusal.{IsSearchStop, IsStopAt, IsRefusal}
use Rattle.stability.specs.Side.{there, IsBeyond, IsBracket, IsSettledAs, IsEnd}
use Rattle.stability.specs.declared.outcome.RangeFault.{RangeFault}
use Rattle.stability.specs.declared.outcome.RangeFault.TheVariants.{NotBest, Spent, Past, PastCost}
use Rattle.stability.specs.declared.outcome.RangeFault.TheVariants.{Memory}
use Rattle.stability.specs.declared.side.Beyond.{Beyond}
use Rattle.stability.specs.declared.side.Beyond.TheVariants.{Cheaper, Wanting}
use Rattle.stability.specs.declared.side.Bracket.{Bracket}
use Rattle.stability.specs.declared.side.End.{End}
use Rattle.stability.proofs.SideLemmas.{nearer_allowed, limit_allowed, nowhere, not_present}
use Rattle.stability.proofs.SideLemmas.{one_beyond}

-- ---- what is nearer than a value at which the network is optimal

pub best_nearer : BestBetween → (p : Problem) (spot : Spot) → KnowsSpot p spot
    → (w : Network) (side : Side) (far near : ℕ) → near ≤ far
    → IsBestAt p spot w (value_at p spot) → IsBestAt p spot w (value_on side (value_at p spot) far)
    → IsBestAt p spot w (value_on side (value_at p spot) near)
best_nearer between p spot known w Below far near less now away =
    between p spot known w (value_at p spot -ℤ pos far) (value_at p spot)
    (value_at p spot -ℤ pos near) away now (omega (arith, ints)) (omega (arith, ints))
best_nearer between p spot known w Above far near less now away =
    between p spot known w (value_at p spot) (value_at p spot +ℤ pos far)
    (value_at p spot +ℤ pos near) now away (omega (arith, ints)) (omega (arith, ints))

-- ---- refusals

pub refused_now : (p : Problem) (spot : Spot) (w : Network) (budget : ℕ) (fault : RangeFault)
    → IsAllowedValue spot (value_at p spot) → IsSearchStop p spot budget (value_at p spot) fault
    → IsRefusal p spot w budget fault
refused_now p spot w budget (NotBest n) a h = absurd h
refused_now p spot w budget (Spent value best tree next options) a h =
    subst (λ (x : ℤ). IsAllowedValue spot x × MayWant p spot w x
    × IsFound (valued p spot x) first_node budget (founds.Spent best tree next options))
    (sym h.0) (a, inl refl, h.1)
refused_now p spot w budget (Past value best tree node nonbasic place) a h =
    subst (λ (x : ℤ). IsAllowedValue spot x × MayWant p spot w x
    × IsFound (valued p spot x) first_node budget (founds.Past best tree node nonbasic place))
    (sym h.0) (a, inl refl, h.1)
refused_now p spot w budget (PastCost value at) a h = absurd h
refused_now p spot w budget Memory a h = tt

refused_far : (p : Problem) (spot : Spot) (w : Network) (budget : ℕ) (v : ℤ) (fault : RangeFault)
    → IsAllowedValue spot v → (IsHalfProved p spot w v) → IsStopAt p spot w budget v fault
    → IsRefusal p spot w budget fault
refused_far p spot w budget v (NotBest n) a half h = absurd h
refused_far p spot w budget v (Spent value best tree next options) a half h =
    subst (λ (x : ℤ). IsAllowedValue spot x × MayWant p spot w x
    × IsFound (valued p spot x) first_node budget (founds.Spent best tree next options))
    (sym h.0) (a, inr half, h.1)
refused_far p spot w budget v (Past value best tree node nonbasic place) a half h =
    subst (λ (x : ℤ). IsAllowedValue spot x × MayWant p spot w x
    × IsFound (valued p spot x) first_node budget (founds.Past best tree node nonbasic place))
    (sym h.0) (a, inr half, h.1)
refused_far p spot w budget v (PastCost value at) a half h =
    subst (λ (x : ℤ). IsAllowedValue spot x × IsHalfProved p spot w x × IsPastCost p spot w x at)
    (sym h.0) (a, half, h.1)
refused_far p spot w budget v Memory a half h = tt

half_proved : BestBetween → (c : Case) → KnowsSpot c.problem c.spot → (side : Side) (b : Bracket)
    → IsBracket c side b → b.bad / 2 ≤ b.good
    → IsHalfProved c.problem c.spot c.network (there c side b.bad)
half_proved between c known side b h half =
    let less = h.less in
    record {
      side = side;
      away = b.bad;
      value_is = refl;
      far = not_present side (value_at c.problem c.spot) b.bad (omega arith);
      best_now = h.best_now;
      best_half =
          best_nearer between c.problem c.spot known c.network side b.good (b.bad / 2) half
          h.best_now h.best_good;
    }

-- ---- what a bracket says

told_fault : BestBetween → (c : Case) → KnowsSpot c.problem c.spot → (side : Side) (b : Bracket)
    → IsBracket c side b → (fault : RangeFault)
    → IsStopAt c.problem c.spot c.network c.budget (there c side b.bad) fault
    → IsSettledAs b.good b.bad (Wanting fault)
    → IsRefusal c.problem c.spot c.network c.budget fault
told_fault between c known side b h (NotBest n) stop settled = absurd stop
told_fault between c known side b h (Spent value best tree next options) stop settled =
    refused_far c.problem c.spot c.network c.budget (there c side b.bad)
    (Spent value best tree next options) h.allowed
    (half_proved between c known side b h settled) stop
told_fault between c known side b h (Past value best tree node nonbasic place) stop settled =
    refused_far c.problem c.spot c.network c.budget (there c side b.bad)
    (Past value best tree node nonbasic place) h.allowed
    (half_proved between c known side b h settled) stop
told_fault between c known side b h (PastCost value at) stop settled =
    refused_far c.problem c.spot c.network c.budget (there c side b.bad) (PastCost value at)
    h.allowed (half_proved between c known side b h settled) stop
told_fault between c known side b h Memory stop settled = tt

pub told_wanting : BestBetween → (c : Case) (side : Side) (b : Bracket) → IsBracket c side b
    → (fault : RangeFault) → b.beyond ≡ Wanting fault
    → IsSettledAs b.good b.bad b.beyond → IsRefusal c.problem c.spot c.network c.budget fault
told_wanting between c side b h fault is settled =
    told_fault between c h.known side b h fault
    (subst (IsBeyond c (there c side b.bad)) is h.is_beyond)
    (subst (IsSettledAs b.good b.bad) is settled)

pub told_cheaper : (c : Case) (side : Side) (b : Bracket) → IsBracket c side b → (n : Network)
    → b.beyond ≡ Cheaper n
    → IsSettledAs b.good b.bad b.beyond → IsEnd c side (record { away = b.good; beyond = Some n })
told_cheaper c side b h n is settled =
    let one : b.bad ≡ b.good + 1 = subst (IsSettledAs b.good b.bad) is settled in
    let present = value_at c.problem c.spot in
    let less = h.less in
    let at : there c side b.bad ≡ beyond side (there c side b.good) =
    ap (λ (k : ℕ). value_on side present k) one ∙ one_beyond side present b.good in
    record {
      allowed =
          nearer_allowed c.spot side present b.good b.bad h.now_allowed h.allowed (omega arith);
      best = h.best_good;
      ends = (
        subst (λ (v : ℤ). IsAllowedValue c.spot v) at h.allowed,
        subst
            (λ (v : ℤ). IsCheaperAt c.problem c.spot c.network v n) at (subst
            (IsBeyond c (there c side b.bad)) is h.is_beyond),
      );
    }

-- ---- the range

pub range_from : BestBetween → (c : Case) → KnowsSpot c.problem c.spot → (b a : End)
    → IsEnd c Below b → IsEnd c Above a
    → IsRange c.problem c.spot c.network (there c Below b.away) (there c Above a.away) b.beyond
    a.beyond
range_from between c known b a low high = record {
  starts = (low.allowed.low, omega (arith, ints));
  stops = (omega (arith, ints), high.allowed.high);
  best =
      λ v l r. between c.problem c.spot known c.network (there c Below b.away)
      (there c Above a.away) v low.best high.best l r;
  ends_below = low.ends;
  ends_above = high.ends;
}

-- ---- where the search of a side begins

pub end_here : (c : Case) (side : Side) (room : ℕ) → room ≡ 0
    → IsAllowedValue c.spot (value_at c.problem c.spot) → there c side room ≡ limit_on side c.spot
    → IsBestAt c.problem c.spot c.network (value_at c.problem c.spot)
    → IsEnd c side (record { away = 0; beyond = None })
end_here c side room none allowed limit best =
    let at : value_at c.problem c.spot ≡ there c side 0 =
    sym (nowhere side (value_at c.problem c.spot)) in
    record {
      allowed = subst (λ (v : ℤ). IsAllowedValue c.spot v) at allowed;
      best = subst (λ (v : ℤ). IsBestAt c.problem c.spot c.network v) at best;
      ends = ap (λ (k : ℕ). there c side k) (sym none) ∙ limit;
    }

-- a network whose cost rises as little as any can is optimal up to the limit
pub end_far : BestAway → (c : Case) → IsValid c.problem → IsFeasible c.problem c.network
    → KnowsSpot c.problem c.spot → (side : Side) (room : ℕ)
    → IsAllowedValue c.spot (value_at c.problem c.spot) → there c side room ≡ limit_on side c.spot
    → IsBestAt c.problem c.spot c.network (value_at c.problem c.spot)
    → cost_at c.problem c.spot c.network (there c side 1)
    ≡ c.network.cost +ℤ least_rise c.problem c.spot side *ℤ c.network.d
    → IsEnd c side (record { away = room; beyond = None })
end_far away c valid feasible known side room allowed limit best little = record {
  allowed = limit_allowed c.spot side (value_at c.problem c.spot) room allowed limit;
  best = away c.problem valid c.spot known c.network feasible best side little room;
  ends = limit;
}

pub first_bracket : (c : Case) (side : Side) (room : ℕ) (b : Beyond) → (room ≡ 0 → ⊥)
    → KnowsSpot c.problem c.spot → IsAllowedValue c.spot (value_at c.problem c.spot)
    → there c side room ≡ limit_on side c.spot
    → IsBestAt c.problem c.spot c.network (value_at c.problem c.spot)
    → IsBeyond c (there c side room) b
    → IsBracket c side (record { good = 0; bad = room; beyond = b })
first_bracket c side room b some known allowed limit best beyond_is = record {
  known = known;
  now_allowed = allowed;
  best_now = best;
  best_good =
      subst (λ (v : ℤ). IsBestAt c.problem c.spot c.network v)
      (sym (nowhere side (value_at c.problem c.spot))) best;
  less = positive room some;
  allowed = limit_allowed c.spot side (value_at c.problem c.spot) room allowed limit;
  is_beyond = beyond_is;
}
  where
    positive : (n : ℕ) → (n ≡ 0 → ⊥) → 0 < n
    positive n h = omega (arith, h)

-- a network that is cheaper at the present value is cheaper
pub cheaper_now : ValuedIsSame → (p : Problem) (spot : Spot) (w : Network) → IsFeasible p w
    → (n : Network) → IsCheaperAt p spot w (value_at p spot) n
    → IsCheaper p (record { cost = w.cost; d = w.d }) n
cheaper_now same p spot w f n h =
    subst (λ (z : ℤ). IsCheaper p (record { cost = z; d = w.d }) n) f.cost_is
    (subst
    (λ (q : Problem). IsCheaper q
    (record { cost = cost (net_of q) (has w.units) (size_in w) w.d; d = w.d }) n) (same p spot)
    h)
