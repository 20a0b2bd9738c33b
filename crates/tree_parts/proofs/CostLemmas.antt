-- What is claimed at the end of several merges: a network that costs no more than any that was
-- claimed, and is one of those.
use Rattle.std.proofs.Common.{◌≡◌, ◌⊎◌, inl, inr, pos, ◌*ℤ◌, ◌≤ℤ◌, Bool, true, false, int_lt, List}
use Rattle.std.proofs.Common.{[], ◌∷◌, refl, sym, ap, ◌∙◌, subst, arith, if◌then◌else◌}
use Rattle.std.proofs.lemmas.Int.{ints}
use Rattle.tree_text_laws.specs.problem_rules.Each.{Each}
use Rattle.tree_text_laws.specs.problem_rules.Problem.{Problem}
use Rattle.tree_text_laws.specs.tree_rules.Claim.{Network, Claim, network, infeasible, unknown}
use Rattle.tree_text_laws.specs.tree_rules.Claim.{ClaimPasses}
use Rattle.tree_text_laws.specs.tree_rules.Accepted.{Tree}
use Rattle.tree_text_laws.specs.tree_text_rules.Graft.{has_open, claim_of_both}
use Rattle.tree_text_laws.specs.tree_text_rules.Part.{Part}
use Rattle.tree_text_laws.specs.tree_text_rules.Several.{AreMerged}
use Rattle.tree_parts.specs.Order.{SameCost}
use Rattle.tree_parts.specs.Splices.{settled}
use Rattle.tree_parts.proofs.ClaimLemmas.{cost_of, IsNoDearer, at_least_too, same_cost}
use Rattle.tree_parts.proofs.ReorderLemmas.{Reorders, each_reordered, turned_back, none_left}

-- ---- claims that cost no more than others

-- a network is claimed, and it costs no more than v
record HasAsCheap (claim : Claim) (v : Network) : Type 0 where
  cheap : Network
  is : claim ≡ network cheap
  positive : pos 1 ≤ℤ cheap.d
  less : IsNoDearer (cost_of cheap) (cost_of v)

-- if the second claims a network over a number of at least 1
abbrev IsUnder : Claim → Claim → Type 0
IsUnder claim (network v) = pos 1 ≤ℤ v.d → HasAsCheap claim v
IsUnder claim infeasible = Unit {0}
IsUnder claim unknown = Unit {0}

under_itself : (c : Claim) → IsUnder c c
under_itself (network w) =
    λ h. record { cheap = w; is = refl; positive = h; less = same_cost w }
under_itself infeasible = tt
under_itself unknown = tt

under_next : (a b c : Claim) → IsUnder a b → IsUnder b c → IsUnder a c
under_next a b infeasible h k = tt
under_next a b unknown h k = tt
under_next a b (network v) h k = λ positive.
    let q : HasAsCheap b v = k positive in
    let r : HasAsCheap a q.cheap = (subst (λ (d : Claim). IsUnder a d) q.is h) q.positive in
    record {
      cheap = r.cheap;
      is = r.is;
      positive = r.positive;
      less =
          at_least_too (cost_of r.cheap) (cost_of q.cheap) v.cost v.d r.positive q.positive positive
          r.less q.less;
    }

-- ---- one merge

abbrev HasScale : Claim → Type 0
HasScale c = (w : Network) → c ≡ network w → pos 1 ≤ℤ w.d

-- the claim is under both
abbrev IsUnderBoth : Claim → Claim → Claim → Type 0
IsUnderBoth claim c d = IsUnder claim c × IsUnder claim d

two_under : (w v : Network) (t : Bool) → int_lt (v.cost *ℤ w.d) (w.cost *ℤ v.d) ≡ t
    → HasScale (network (if t then v else w))
    → IsUnderBoth (network (if t then v else w)) (network w) (network v)
two_under w v true e scale =
    let le : (v.cost *ℤ w.d) ≤ℤ (w.cost *ℤ v.d) = omega (arith, ints) in (
      (λ h. record { cheap = v; is = refl; positive = scale v refl; less = le }),
      under_itself (network v),
    )
two_under w v false e scale =
    let le : (w.cost *ℤ v.d) ≤ℤ (v.cost *ℤ w.d) = omega (arith, ints) in (
      under_itself (network w),
      (λ h. record { cheap = w; is = refl; positive = scale w refl; less = le }),
    )

both_under : (c d : Claim) (ts : Tree) → HasScale (claim_of_both c d ts)
    → IsUnderBoth (claim_of_both c d ts) c d
both_under (network w) (network v) ts scale =
    two_under w v (int_lt (v.cost *ℤ w.d) (w.cost *ℤ v.d)) refl scale
both_under (network w) infeasible ts scale = (under_itself (network w), tt)
both_under (network w) unknown ts scale = (under_itself (network w), tt)
both_under infeasible (network v) ts scale = (tt, under_itself (network v))
both_under infeasible infeasible ts scale = (tt, tt)
both_under infeasible unknown ts scale = (tt, tt)
both_under unknown (network v) ts scale = (tt, under_itself (network v))
both_under unknown infeasible ts scale = (tt, tt)
both_under unknown unknown ts scale = (tt, tt)

module _ (Q : Claim → Type 0) (none : Q infeasible) (nothing : Q unknown) where
  of_two : (w v : Network) (t : Bool) → Q (network w) → Q (network v)
      → Q (network (if t then v else w))
  of_two w v true h k = k
  of_two w v false h k = h

  of_neither : (t : Bool) → Q (if t then unknown else infeasible)
  of_neither true = nothing
  of_neither false = none

  of_both : (c d : Claim) (ts : Tree) → Q c → Q d → Q (claim_of_both c d ts)
  of_both (network w) (network v) ts h k =
      of_two w v (int_lt (v.cost *ℤ w.d) (w.cost *ℤ v.d)) h k
  of_both (network w) infeasible ts h k = h
  of_both (network w) unknown ts h k = h
  of_both infeasible (network v) ts h k = k
  of_both infeasible infeasible ts h k = of_neither (has_open ts)
  of_both infeasible unknown ts h k = of_neither (has_open ts)
  of_both unknown (network v) ts h k = k
  of_both unknown infeasible ts h k = of_neither (has_open ts)
  of_both unknown unknown ts h k = of_neither (has_open ts)

settled_neither : (t : Bool) (ts : Tree) → has_open ts ≡ t
    → (if t then unknown else infeasible) ≡ settled (if t then unknown else infeasible) ts
settled_neither true ts e = ap (λ (b : Bool). if b then unknown else infeasible) (sym e)
settled_neither false ts e = ap (λ (b : Bool). if b then unknown else infeasible) (sym e)

settled_both : (c d : Claim) (ts : Tree) → claim_of_both c d ts ≡ settled (claim_of_both c d ts) ts
settled_both (network w) (network v) ts = refl
settled_both (network w) infeasible ts = refl
settled_both (network w) unknown ts = refl
settled_both infeasible (network v) ts = refl
settled_both infeasible infeasible ts = settled_neither (has_open ts) ts refl
settled_both infeasible unknown ts = settled_neither (has_open ts) ts refl
settled_both unknown (network v) ts = refl
settled_both unknown infeasible ts = settled_neither (has_open ts) ts refl
settled_both unknown unknown ts = settled_neither (has_open ts) ts refl

-- ---- several merges

scale_of : (p : Problem) (c : Claim) → ClaimPasses true p c → HasScale c
scale_of p c h w e = (subst (λ (d : Claim). ClaimPasses true p d) e h).flows.positive

-- what the last of them leaves
record IsLast (p : Problem) (both : Claim) (whole : Tree) : Type 0 where
  passes : ClaimPasses true p both
  is_settled : both ≡ settled both whole

module _ (p : Problem) where
  -- what is claimed after them is under all that was claimed
  under_all : (claim both : Claim) (tree whole : Tree) (ps : List Part)
      → AreMerged p claim tree ps both whole
      → IsUnder both claim × Each (λ part. IsUnder both part.claim) ps
  under_all claim both tree whole [] h =
      (subst (λ (c : Claim). IsUnder c claim) (sym h.0) (under_itself claim), tt)
  under_all claim both tree whole (part ∷ more) h =
      let m = h.2 in
      let rest = under_all h.0 both h.1 whole more h.3 in
      let scale : HasScale (claim_of_both claim part.claim h.1)
      = λ w e. scale_of p h.0 m.partial.claimed w (m.claim_is ∙ e) in
      let here : IsUnderBoth h.0 claim part.claim
      = subst (λ (c : Claim). IsUnderBoth c claim part.claim) (sym m.claim_is)
      (both_under claim part.claim h.1 scale) in (
        under_next both h.0 claim rest.0 here.0,
        (under_next both h.0 part.claim rest.0 here.1, rest.1),
      )

  -- and is one of those, if it is a network
  of_all : (Q : Claim → Type 0) → Q infeasible → Q unknown → (claim both : Claim)
      (tree whole : Tree) (ps : List Part) → AreMerged p claim tree ps both whole
      → Q claim → Each (λ part. Q part.claim) ps → Q both
  of_all Q i u claim both tree whole [] h q each = subst Q (sym h.0) q
  of_all Q i u claim both tree whole (part ∷ more) h q each =
      let here = subst Q (sym h.2.claim_is) (of_both Q i u claim part.claim h.1 q each.0) in
      of_all Q i u h.0 both h.1 whole more h.3 here each.1

  last_of : (claim both : Claim) (tree whole : Tree) (part : Part) (more : List Part)
      → AreMerged p claim tree (part ∷ more) both whole → IsLast p both whole
  last_of claim both tree whole part [] h =
      let e : h.0 ≡ settled h.0 h.1
      = subst (λ (c : Claim). c ≡ settled c h.1) (sym h.2.claim_is)
      (settled_both claim part.claim h.1) in
      subst (λ (c : Claim). IsLast p c whole) (sym h.3.0)
      (subst (λ (ts : Tree). IsLast p h.0 ts) (sym h.3.1)
      (record { passes = h.2.partial.claimed; is_settled = e }))
  last_of claim both tree whole part (other ∷ more) h =
      last_of h.0 both h.1 whole other more h.3

  claims_none : (c : Claim) (w : Network) → IsUnder c (network w) → ClaimPasses true p (network w)
      → (c ≡ infeasible) ⊎ (c ≡ unknown) → ⊥
  claims_none c w under h none =
      let cheap : HasAsCheap c w = under (scale_of p (network w) h w refl) in
      let e = cheap.is in
      elim none [ inl i ↦ absurd cc | inr i ↦ absurd cc ]

  -- two of them that are under each other
  agree : (one other : Claim) (whole : Tree) → IsLast p one whole → IsLast p other whole
      → IsUnder one other → IsUnder other one → SameCost one other
  agree (network w) (network v) whole h k a b =
      let c : HasAsCheap (network w) v = a (scale_of p (network v) k.passes v refl) in
      let d : HasAsCheap (network v) w = b (scale_of p (network w) h.passes w refl) in
      let c_is : c.cheap ≡ w = (let e = c.is in cc) in
      let d_is : d.cheap ≡ v = (let e = d.is in cc) in
      let le : IsNoDearer (cost_of w) (cost_of v)
      = subst (λ (x : Network). IsNoDearer (cost_of x) (cost_of v)) c_is c.less in
      let ge : IsNoDearer (cost_of v) (cost_of w)
      = subst (λ (x : Network). IsNoDearer (cost_of x) (cost_of w)) d_is d.less in
      omega (arith, ints)
  agree (network w) infeasible whole h k a b = claims_none infeasible w b h.passes (inl refl)
  agree (network w) unknown whole h k a b = claims_none unknown w b h.passes (inr refl)
  agree infeasible (network v) whole h k a b = claims_none infeasible v a k.passes (inl refl)
  agree unknown (network v) whole h k a b = claims_none unknown v a k.passes (inr refl)
  agree infeasible infeasible whole h k a b = tt
  agree unknown unknown whole h k a b = tt
  agree infeasible unknown whole h k a b =
      let e = h.is_settled in
      let f = k.is_settled in
      absurd cc
  agree unknown infeasible whole h k a b =
      let e = h.is_settled in
      let f = k.is_settled in
      absurd cc

  costs_itself : (c : Claim) → SameCost c c
  costs_itself (network w) = refl
  costs_itself infeasible = tt
  costs_itself unknown = tt

  pub costs_agree : (claim : Claim) (tree : Tree) (ps qs : List Part) (one other : Claim)
      (whole : Tree) → Reorders ps qs
      → AreMerged p claim tree ps one whole → AreMerged p claim tree qs other whole
      → SameCost one other
  costs_agree claim tree [] [] one other whole r h k =
      subst (λ (c : Claim). SameCost c other) (sym h.0)
      (subst (λ (c : Claim). SameCost claim c) (sym k.0) (costs_itself claim))
  costs_agree claim tree [] (q ∷ qs) one other whole r h k =
      let e = none_left [] (q ∷ qs) r refl in
      absurd cc
  costs_agree claim tree (x ∷ ps) [] one other whole r h k =
      let e = none_left [] (x ∷ ps) (turned_back (x ∷ ps) [] r) refl in
      absurd cc
  costs_agree claim tree (x ∷ ps) (q ∷ qs) one other whole r h k =
      let a = under_all claim one tree whole (x ∷ ps) h in
      let b = under_all claim other tree whole (q ∷ qs) k in
      let there = each_reordered (λ part. IsUnder one part.claim) (x ∷ ps) (q ∷ qs) r a.1 in
      let back
      = each_reordered (λ part. IsUnder other part.claim) (q ∷ qs) (x ∷ ps)
      (turned_back (x ∷ ps) (q ∷ qs) r) b.1 in
      agree one other whole
      (last_of claim one tree whole x ps h) (last_of claim other tree whole q qs k)
      (of_all (λ c. IsUnder one c) tt tt claim other tree whole (q ∷ qs) k a.0 there)
      (of_all (λ c. IsUnder other c) tt tt claim one tree whole (x ∷ ps) h b.0 back)
