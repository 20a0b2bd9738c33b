-- One line of a head: what it needs to pass, what is known after it, and why it fails.
use Rattle.std.proofs.Common.{◌≡◌, ℕ, ◌<◌, ℤ, ◌≤ℤ◌, ◌==◌, ◌||◌, false, List, [], ◌∷◌, Option}
use Rattle.std.proofs.Common.{refl, sym, ap, ◌∙◌, subst, inl, inr, eqb-true}
use Rattle.std.proofs.lemmas.Bool.{or_cases}
use Rattle.tree_text_rules.specs.problem_rules.Problem.{Problem}
use Rattle.tree_text_rules.specs.pns_rules.Shape.{Shape, shape_of}
use Rattle.tree_text_rules.specs.pns_rules.Nodes as nodes
use Rattle.tree_text_rules.specs.pns_rules.Nodes.{IsPossible, after}
use Rattle.tree_text_rules.specs.tree_rules.Tree.{StepsPass, after_all}
use Rattle.tree_text_rules.specs.tree_rules.Claim.{CostOver, IsAtLeast}
use Rattle.tree_text_rules.specs.tree_rules.Leaf.{IsClaimed}
use Rattle.tree_text_rules.specs.flow_rules.ChargeFacts.{Demand, Facts}
use Rattle.tree_text_rules.specs.flow_rules.Cover.{Cover, IsFree}
use Rattle.tree_text_rules.specs.flow_rules.ChargeLeaf.{Handed}
use Rattle.tree_text_rules.specs.flow_rules.Net.{net_of}
use Rattle.cert_check.specs.Known.{KnowsInside}
use Rattle.tree_text_rules.specs.tree_rules.declared.line_why.LineWhy.{LineWhy}
use Rattle.tree_text_rules.specs.tree_rules.declared.line_why.LineWhy.TheVariants as causes
use Rattle.tree_text_rules.specs.tree_rules.Charged.{IsCharged}
use Rattle.tree_text_rules.specs.tree_rules.Trim.{trimmed_size, MayTrim}
use Rattle.tree_text_rules.specs.tree_rules.Head as rules
use Rattle.tree_text_rules.specs.tree_rules.Head.{step, cap, out, trim, uses, with_in, with_out}
use Rattle.tree_text_rules.specs.tree_rules.Head.{with_least}
use Rattle.tree_text_rules.specs.tree_rules.Head.{with_most, with_used, with_demand, MayCap}
use Rattle.tree_text_rules.specs.tree_rules.Head.{MayLeave, LinePasses}
use Rattle.tree_text_rules.specs.tree_rules.Head.{after_line}
use Rattle.tree_text_rules.specs.tree_rules.HeadFaults.{ChargeFails, IsSize, IsUse, LineFails}

-- ---- what a charge hands in

abbrev pub handed_by : ℤ → List ℤ → List Cover → Handed
handed_by d ys covers = record { d = d; ys = ys; covers = covers }

pub handed_is : (d e : ℤ) (ys zs : List ℤ) (cs bs : List Cover) → d ≡ e → ys ≡ zs → cs ≡ bs
    → handed_by d ys cs ≡ handed_by e zs bs
handed_is d e ys zs cs bs h k m =
    ap (λ (x : ℤ). handed_by x ys cs) h
    ∙ (ap (λ (xs : List ℤ). handed_by e xs cs) k ∙ ap (λ (xs : List Cover). handed_by e zs xs) m)

-- ---- the unit of a line taken in

pub inside_with : (g : Shape) (n m : nodes.Node) (u : ℕ) → m ≡ with_in n u → u < g.units
    → KnowsInside g n → KnowsInside g m
inside_with g n m u e l known =
    subst (λ (k : nodes.Node). KnowsInside g k) (sym e)
    (λ v h. elim (or_cases (u == v) (n.inside v) h)
    [ inl s ↦ subst (λ (k : ℕ). k < g.units) (eqb-true u v s) l | inr q ↦ known v q ])

pub inside_out : (g : Shape) (n m : nodes.Node) (u : ℕ) → m ≡ with_out n u → KnowsInside g n
    → KnowsInside g m
inside_out g n m u e known = subst (λ (k : nodes.Node). KnowsInside g k) (sym e) known

abbrev pub known_by : nodes.Node → Facts → rules.Known
known_by n f = record { node = n; facts = f }

pub same_known : (n m : nodes.Node) (f e : Facts) → n ≡ m → f ≡ e → known_by n f ≡ known_by m e
same_known n m f e h k =
    ap (λ (x : nodes.Node). known_by x f) h ∙ ap (λ (x : Facts). known_by m x) k

module _ (p : Problem) (claimed : Option CostOver) (k : rules.Known) where
  -- ---- steps

  pub step_passes : (g : Shape) → g ≡ shape_of p → (s : nodes.Step)
      → StepsPass g k.node (s ∷ []) → LinePasses p claimed k (step s)
  step_passes g e s h = subst (λ (q : Shape). IsPossible q k.node s) e h.0

  pub step_leads : (g : Shape) → g ≡ shape_of p → (s : nodes.Step) (m : nodes.Node)
      → m ≡ after_all g k.node (s ∷ []) → known_by m k.facts ≡ after_line p k (step s)
  step_leads g e s m h =
      same_known m (after (shape_of p) k.node s) k.facts k.facts
      (h ∙ ap (λ (q : Shape). after q k.node s) e) refl

  pub step_fails : (g : Shape) → g ≡ shape_of p → (s : nodes.Step)
      → (StepsPass g k.node (s ∷ []) → ⊥) → LineFails p claimed k (step s) causes.Step
  step_fails g e s never =
      inl (refl, λ h. never (subst (λ (q : Shape). IsPossible q k.node s) (sym e) h, tt))

  -- ---- sizes

  module _ (u : ℕ) (v d : ℤ) (ys : List ℤ) (covers : List Cover) where
    pub size_fails : (IsSize p k u v → ⊥) → LineFails p claimed k (cap u v d ys covers) causes.Fact
    size_fails never = inl (refl, never)

    module _ (is : IsSize p k u v) (w : ℤ) (same : w ≡ v) (n : nodes.Node) (f : Facts)
        (n_is : n ≡ with_in k.node u) (f_is : f ≡ with_least k.facts u w) where
      facts_are : f ≡ with_least k.facts u v
      facts_are = f_is ∙ ap (λ (x : ℤ). with_least k.facts u x) same

      pub cap_passes : IsCharged p claimed n f d ys covers
          → LinePasses p claimed k (cap u v d ys covers)
      cap_passes charged = record {
        known = is.0;
        not_outside = is.1;
        at_least = is.2;
        at_most = is.3;
        charged =
            subst
            (λ (c : nodes.Node × Facts). IsCharged p claimed c.0 c.1 d ys covers)
            (λ i. (n_is i, facts_are i)) charged;
      }

      pub cap_fails : (why : LineWhy) → ChargeFails p claimed n f d ys covers why
          → LineFails p claimed k (cap u v d ys covers) why
      cap_fails why fails =
          inr (
            is,
            subst (λ (c : nodes.Node × Facts). ChargeFails p claimed c.0 c.1 d ys covers why)
                (λ i. (n_is i, facts_are i)) fails,
          )

    pub cap_leads : (w : ℤ) → w ≡ v → (f : Facts) → f ≡ with_most k.facts u w
        → known_by k.node f ≡ after_line p k (cap u v d ys covers)
    cap_leads w same f e =
        same_known k.node k.node f (with_most k.facts u v) refl
        (e ∙ ap (λ (x : ℤ). with_most k.facts u x) same)

  -- ---- units that are left out

  module _ (u : ℕ) (d : ℤ) (ys : List ℤ) (covers : List Cover) where
    pub free_fails : (IsFree (shape_of p) k.node u → ⊥)
        → LineFails p claimed k (out u d ys covers) causes.Fact
    free_fails never = inl (refl, never)

    module _ (is : IsFree (shape_of p) k.node u) (n : nodes.Node) (n_is : n ≡ with_in k.node u)
      where
        pub out_passes : IsCharged p claimed n k.facts d ys covers
            → LinePasses p claimed k (out u d ys covers)
        out_passes charged = record {
          free = is;
          charged =
              subst (λ (m : nodes.Node). IsCharged p claimed m k.facts d ys covers) n_is charged;
        }

        pub out_fails : (why : LineWhy) → ChargeFails p claimed n k.facts d ys covers why
            → LineFails p claimed k (out u d ys covers) why
        out_fails why fails =
            inr (
              is,
              subst (λ (m : nodes.Node). ChargeFails p claimed m k.facts d ys covers why) n_is
                  fails,
            )

    pub out_leads : (n : nodes.Node) → n ≡ with_out k.node u
        → known_by n k.facts ≡ after_line p k (out u d ys covers)
    out_leads n e = same_known n (with_out k.node u) k.facts k.facts e refl

  -- ---- units of which no more is of use

  pub trim_leads : (u : ℕ) (w : ℤ) → w ≡ trimmed_size (net_of p) k.node k.facts u → (f : Facts)
      → f ≡ with_most k.facts u w → known_by k.node f ≡ after_line p k (trim u)
  trim_leads u w same f e =
      same_known k.node k.node f
      (with_most k.facts u (trimmed_size (net_of p) k.node k.facts u)) refl
      (e ∙ ap (λ (x : ℤ). with_most k.facts u x) same)

  pub trim_fails : (u : ℕ) → (MayTrim (net_of p) k.node k.facts u → ⊥)
      → LineFails p claimed k (trim u) causes.Trim
  trim_fails u never = inl (refl, never)

  -- ---- uses of materials

  module _ (q : Demand) (d : ℤ) (ys : List ℤ) (covers : List Cover) where
    pub amount_fails : (IsUse p k q → ⊥) → LineFails p claimed k (uses q d ys covers) causes.Fact
    amount_fails never = inl (refl, never)

    module _ (is : IsUse p k q) (f : Facts) (f_is : f ≡ with_demand k.facts q) where
      pub use_passes : IsCharged p claimed k.node f d ys covers
          → LinePasses p claimed k (uses q d ys covers)
      use_passes charged = record {
        row = is.0;
        not_raw = is.1;
        at_least = is.2;
        at_most = is.3;
        less = is.4;
        worth = is.5;
        charged = subst (λ (e : Facts). IsCharged p claimed k.node e d ys covers) f_is charged;
      }

      pub use_fails : (why : LineWhy) → ChargeFails p claimed k.node f d ys covers why
          → LineFails p claimed k (uses q d ys covers) why
      use_fails why fails =
          inr (
            is,
            subst (λ (e : Facts). ChargeFails p claimed k.node e d ys covers why) f_is fails,
          )

    pub use_leads : (w : ℤ) → w ≡ q.amount → (f : Facts) → f ≡ with_used k.facts q.of w
        → known_by k.node f ≡ after_line p k (uses q d ys covers)
    use_leads w same f e =
        same_known k.node k.node f (with_used k.facts q.of q.amount) refl
        (e ∙ ap (λ (x : ℤ). with_used k.facts q.of x) same)
