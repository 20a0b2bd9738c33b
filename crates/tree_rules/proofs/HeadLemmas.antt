-- Lines that pass lose nothing that costs less than what is claimed, and what is known after them
-- are facts.
use Rattle.std.proofs.Common.{◌≡◌, ℕ, ◌==◌, inl, inr, refl, sym, ap, ◌∙◌, subst, arith, pos, ℤ}
use Rattle.std.proofs.Common.{◌*ℤ◌, ◌≤ℤ◌, ◌<ℤ◌, List, [], ◌∷◌, not, Bool, true, false, eqb-true}
use Rattle.std.specs.Prelude.{Option, None}
use Rattle.std.proofs.lemmas.Int.{ints, by_lt_z}
use Rattle.std.proofs.lemmas.Bool.{or_cases, cases_Bool, both_ways, false_from_ne_true}
use Rattle.flow_rules.proofs.integer_laws.Cited.{le_trans_z}
use Rattle.flow_rules.specs.number_sets.Sets.{IsWithin}
use Rattle.flow_rules.specs.problem_rules.Problem.{Problem}
use Rattle.flow_rules.specs.problem_rules.Validity.{IsValid}
use Rattle.flow_rules.specs.pns_rules.Shape.{Shape, shape_of}
use Rattle.flow_rules.specs.pns_rules.Structure.{IsBetween, InFamily}
use Rattle.flow_rules.specs.pns_rules.Nodes.{Node}
use Rattle.flow_rules.proofs.pns_rules.Cited.{proper_if_valid, steps_keep_families}
use Rattle.flow_rules.specs.Net.{million, net_of}
use Rattle.flow_rules.specs.Relaxed.{stays}
use Rattle.flow_rules.proofs.Cited.{net_of_valid, own_facts_hold, flows_fit}
use Rattle.flow_rules.specs.ChargeFacts.{AreFacts, use_of}
use Rattle.tree_rules.specs.Claim.{CostOver}
use Rattle.tree_rules.specs.Trim.{trimmed_size}
use Rattle.tree_rules.specs.Head.{HeadLine, step, cap, out, trim, uses, Known, known_first}
use Rattle.tree_rules.specs.Head.{with_in, with_out, with_least, with_most, with_used, with_demand}
use Rattle.tree_rules.specs.Head.{after_line, after_lines, LinePasses, LinesPass}
use Rattle.tree_rules.specs.Keeps.{MayFit}
use Rattle.tree_rules.specs.HeadLaws.{IsCost, HeadKeeps, HeadHasFacts, HeadKeepsLeast}
use Rattle.tree_rules.proofs.ChargedLemmas.{charged_is_empty}
use Rattle.tree_rules.proofs.FactLemmas.{with_most_facts, with_least_facts, with_used_facts}
use Rattle.tree_rules.proofs.FactLemmas.{with_demand_facts, with_most_fit, with_least_fit}
use Rattle.tree_rules.proofs.FactLemmas.{with_used_fit, with_demand_fit}
use Rattle.tree_rules.proofs.TrimLemmas.{trimmed_least, trim_fits}

-- ---- facts

line_keeps_least : (p : Problem) (k : Known) (line : HeadLine) (i : ℕ)
    → (after_line p k line).facts.least i ≡ k.facts.least i
line_keeps_least p k (step s) i = refl
line_keeps_least p k (cap u v d ys covers) i = refl
line_keeps_least p k (out u d ys covers) i = refl
line_keeps_least p k (trim u) i = refl
line_keeps_least p k (uses q d ys covers) i = refl

lines_keep_least : (p : Problem) (k : Known) (lines : List HeadLine) (i : ℕ)
    → (after_lines p k lines).facts.least i ≡ k.facts.least i
lines_keep_least p k [] i = refl
lines_keep_least p k (line ∷ lines) i =
    lines_keep_least p (after_line p k line) lines i ∙ line_keeps_least p k line i

-- what is known are facts, with the problem's own least sizes, and no use is asked for
record AreKnown (p : Problem) (k : Known) : Type 0 where
  facts : AreFacts (net_of p) k.facts
  least : (i : ℕ) → k.facts.least i ≡ (net_of p).least i
  no_demand : k.facts.demand ≡ None

line_keeps_facts : (p : Problem) (claimed : Option CostOver) (k : Known) → AreKnown p k
    → (line : HeadLine) → LinePasses p claimed k line → AreKnown p (after_line p k line)
line_keeps_facts p claimed k known (step s) h =
    record { facts = known.facts; least = known.least; no_demand = known.no_demand }
line_keeps_facts p claimed k known (cap u v d ys covers) h = record {
  facts =
      with_most_facts (net_of p) k.facts known.facts u v
      (subst (λ (x : ℤ). x ≤ℤ v) (sym (known.least u)) h.at_least);
  least = known.least;
  no_demand = known.no_demand;
}
line_keeps_facts p claimed k known (out u d ys covers) h =
    record { facts = known.facts; least = known.least; no_demand = known.no_demand }
line_keeps_facts p claimed k known (trim u) h = record {
  facts =
      with_most_facts (net_of p) k.facts known.facts u (trimmed_size (net_of p) k.node k.facts u)
      (subst (λ (x : ℤ). x ≤ℤ trimmed_size (net_of p) k.node k.facts u) (sym (known.least u))
      (trimmed_least (net_of p) k.node k.facts u));
  least = known.least;
  no_demand = known.no_demand;
}
line_keeps_facts p claimed k known (uses q d ys covers) h = record {
  facts = with_used_facts (net_of p) k.facts known.facts q.of q.amount h.at_least;
  least = known.least;
  no_demand = known.no_demand;
}

lines_keep_facts : (p : Problem) (claimed : Option CostOver) (k : Known) → AreKnown p k
    → (lines : List HeadLine) → LinesPass p claimed k lines → AreKnown p (after_lines p k lines)
lines_keep_facts p claimed k known [] h = known
lines_keep_facts p claimed k known (line ∷ lines) h =
    lines_keep_facts p claimed (after_line p k line)
    (line_keeps_facts p claimed k known line h.0) lines h.1

known_at_first : (p : Problem) → IsValid p → (start : Node) → AreKnown p (known_first p start)
known_at_first p valid start =
    record { facts = own_facts_hold p valid; least = λ i. refl; no_demand = refl }

-- ---- one line

-- a structure of the node that has the unit is one of the node with the unit taken in
taken_in : (g : Shape) (n : Node) (u : ℕ) (s : ℕ → Bool) → s u ≡ true
    → IsBetween g n.inside n.outside s
    → IsBetween g (with_in n u).inside (with_in n u).outside s
taken_in g n u s e f = record {
  meets = f.meets;
  contains = λ i h. elim (or_cases (u == i) (n.inside i) h) [
    | inl q ↦ subst (λ (k : ℕ). s k ≡ true) (eqb-true u i q) e
    | inr q ↦ f.contains i q
  ];
  avoids = f.avoids;
}

-- and one that does not have it is one of the node with the unit left out
left_out : (g : Shape) (n : Node) (u : ℕ) (s : ℕ → Bool) → s u ≡ false
    → InFamily g n.inside n.outside s
    → InFamily g (with_out n u).inside (with_out n u).outside s
left_out g n u s e f = record {
  between = record {
    meets = f.between.meets;
    contains = f.between.contains;
    avoids = λ i k h. elim (or_cases (u == i) (n.outside i) h) [
      | inl q ↦ both_ways (s i) (subst (λ (m : ℕ). s m ≡ false) (eqb-true u i q) e) k
      | inr q ↦ f.between.avoids i k q
    ];
  };
  allowed = f.allowed;
}

line_keeps : (p : Problem) → IsValid p → (claimed : Option CostOver) → IsCost claimed
    → (k : Known) → AreKnown p k → (line : HeadLine) → LinePasses p claimed k line
    → (s : ℕ → Bool) → InFamily (shape_of p) k.node.inside k.node.outside s
    → MayFit p claimed s k.facts
    → InFamily (shape_of p) (after_line p k line).node.inside (after_line p k line).node.outside s
    × MayFit p claimed s (after_line p k line).facts
line_keeps p valid claimed over k known (step st) h s fam fit =
    ((steps_keep_families (shape_of p) k.node st (proper_if_valid p valid) h s).0 fam, fit)
line_keeps p valid claimed over k known (cap u v d ys covers) h s fam fit = (
  fam,
  record {
    sizes = fit.sizes;
    d = fit.d;
    undercuts = fit.undercuts;
    fit = with_most_fit (net_of p) k.facts s fit.sizes fit.d fit.fit u v under;
  },
)
  where
    low : pos 0 ≤ℤ v
    low =
        le_trans_z (pos 0) ((net_of p).least u) v
        ((net_of_valid p valid).least_not_negative u h.known) h.at_least

    less : (x y : ℤ) → x <ℤ y → x ≤ℤ y
    less x y a = omega (arith, ints)

    under : s u ≡ true → fit.sizes u ≤ℤ (v *ℤ fit.d)
    under e =
        by_lt_z (fit.sizes u) (v *ℤ fit.d) (less (fit.sizes u) (v *ℤ fit.d))
        (λ larger. absurd (charged_is_empty p valid claimed over (with_in k.node u)
        (with_least k.facts u v)
        (with_least_facts (net_of p) k.facts known.facts u v low h.at_most) d ys covers h.charged s
        (taken_in (shape_of p) k.node u s e fam.between) fit.sizes fit.d fit.undercuts
        (with_least_fit (net_of p) k.facts s fit.sizes fit.d fit.fit u v larger)))
line_keeps p valid claimed over k known (out u d ys covers) h s fam fit = (
  left_out (shape_of p) k.node u s
      (false_from_ne_true (s u)
      (λ e. charged_is_empty p valid claimed over (with_in k.node u) k.facts known.facts d ys covers
      h.charged s (taken_in (shape_of p) k.node u s e fam.between) fit.sizes fit.d fit.undercuts
      fit.fit)) fam,
  fit,
)
line_keeps p valid claimed over k known (trim u) h s fam fit = (
  fam,
  elim (cases_Bool (s u))
      [ inl e ↦ has e | inr e ↦ same (λ q. absurd (both_ways (s u) e q)) ],
)
  where
    v : ℤ
    v = trimmed_size (net_of p) k.node k.facts u

    same : (s u ≡ true → fit.sizes u ≤ℤ (v *ℤ fit.d)) → MayFit p claimed s (with_most k.facts u v)
    same under = record {
      sizes = fit.sizes;
      d = fit.d;
      undercuts = fit.undercuts;
      fit = with_most_fit (net_of p) k.facts s fit.sizes fit.d fit.fit u v under;
    }

    weak : (x y : ℤ) → x <ℤ y → x ≤ℤ y
    weak x y a = omega (arith, ints)

    within : IsWithin s (stays k.node)
    within i e =
        ap (λ (b : Bool). not b) (false_from_ne_true (k.node.outside i) (fam.between.avoids i e))

    has : s u ≡ true → MayFit p claimed s (with_most k.facts u v)
    has e =
        by_lt_z (v *ℤ fit.d) (fit.sizes u)
        (λ over_it. trim_fits p (net_of_valid p valid) claimed over k.node k.facts known.facts
        known.least known.no_demand u h s within e fit.sizes fit.d fit.undercuts fit.fit
        (weak (v *ℤ fit.d) (fit.sizes u) over_it))
        (λ under. same (λ q. under))
line_keeps p valid claimed over k known (uses q d ys covers) h s fam fit = (
  fam,
  record {
    sizes = fit.sizes;
    d = fit.d;
    undercuts = fit.undercuts;
    fit = with_used_fit (net_of p) k.facts s fit.sizes fit.d fit.fit q.of q.amount less_used;
  },
)
  where
    used : ℤ
    used = use_of (net_of p) s fit.sizes q.of

    asked : ℤ
    asked = million *ℤ q.amount *ℤ fit.d

    less : (x y : ℤ) → x <ℤ y → x ≤ℤ y
    less x y a = omega (arith, ints)

    -- if as much were used, the node would be charged what is claimed
    less_used : used ≤ℤ asked
    less_used =
        by_lt_z used asked (less used asked)
        (λ as_much. absurd (charged_is_empty p valid claimed over k.node (with_demand k.facts q)
        (with_demand_facts (net_of p) k.facts known.facts q h.worth) d ys covers h.charged s
        fam.between fit.sizes fit.d fit.undercuts
        (with_demand_fit (net_of p) k.facts s fit.sizes fit.d fit.fit q as_much)))

-- ---- all lines

lines_keep : (p : Problem) → IsValid p → (claimed : Option CostOver) → IsCost claimed
    → (k : Known) → AreKnown p k → (lines : List HeadLine) → LinesPass p claimed k lines
    → (s : ℕ → Bool) → InFamily (shape_of p) k.node.inside k.node.outside s
    → MayFit p claimed s k.facts
    → InFamily (shape_of p) (after_lines p k lines).node.inside (after_lines p k lines).node.outside
    s
    × MayFit p claimed s (after_lines p k lines).facts
lines_keep p valid claimed over k known [] h s fam fit = (fam, fit)
lines_keep p valid claimed over k known (line ∷ lines) h s fam fit =
    let next = line_keeps p valid claimed over k known line h.0 s fam fit in
    lines_keep p valid claimed over (after_line p k line)
    (line_keeps_facts p claimed k known line h.0)
    lines h.1 s next.0 next.1

pub head_keeps : HeadKeeps
head_keeps p valid claimed over start lines h s fam z d under =
    lines_keep p valid claimed over (known_first p start) (known_at_first p valid start) lines h s
    fam
    (record { sizes = z; d = d; undercuts = under; fit = flows_fit p s z d under.flows })

pub head_has_facts : HeadHasFacts
head_has_facts p valid claimed start lines h =
    (lines_keep_facts p claimed (known_first p start) (known_at_first p valid start) lines h).facts

pub head_keeps_least : HeadKeepsLeast
head_keeps_least p start lines i = lines_keep_least p (known_first p start) lines i
