-- What `expand` prints gives the expanded problem, and `solve` and `periods` print one cost of it.
use Rattle.std.proofs.Common.{◌≡◌, ◌⊎◌, ℕ, List, Some, Result, Ok, Err, refl, sym, ap, ◌∙◌, subst}
use Rattle.std.proofs.Common.{inl, inr}
use Rattle.studio.specs.text_rules.Fault as texts
use Rattle.studio.specs.text_rules.Outside.{Told}
use Rattle.studio.specs.text_rules.Value.{read_text}
use Rattle.studio.specs.text_laws.Laws.{CanonicalReads}
use Rattle.studio.specs.problem_rules.Problem.{Problem}
use Rattle.studio.specs.plan_rules.Expanded.{expanded}
use Rattle.studio.specs.plan_rules.Plan.{Plan}
use Rattle.studio.specs.plan_rules.Read as plans
use Rattle.studio.specs.plan_laws.Laws.{ExpandedIsValid}
use Rattle.studio.specs.tree_rules.Claim.{Claim, network, infeasible, unknown}
use Rattle.studio.specs.plan_rules.Folded.{folded}
use Rattle.studio.specs.studio_rules.Expand.{ExpandWork}
use Rattle.studio.specs.studio_rules.Lines.{text_of}
use Rattle.studio.specs.studio_rules.Periods.{PeriodsWork}
use Rattle.studio.specs.studio_rules.Plan.{GivesPlan, OnPlan}
use Rattle.studio.specs.studio_rules.Reading.{LongFile, OnFile, file_limit}
use Rattle.studio.specs.studio_rules.Solve.{HasProof, SolveWork}
use Rattle.studio.specs.studio_rules.declared.status.Status.{Status}
use Rattle.studio.specs.studio_rules.declared.status.Status.TheVariants.{Done, BadProblem, TooLong}
use Rattle.call_laws.specs.Costs.{ClaimSame, OneCost}
use Rattle.call_laws.specs.Periods.{ReadIsPlan, IsExpanded, ExpandedIsRead, PlansClaim, Certifies}
use Rattle.call_laws.specs.Periods.{PeriodsAreCertified}
use Rattle.studio.proofs.Cited.{is_held, one_problem}
use Rattle.call_laws.proofs.CostLemmas.{solved, on_file}

-- the plan of a call that ends with status 0, and what the call does with it
on_plan : (work : Problem → Plan → Status → List (List ℕ) → Type 0) (held : List ℕ → Told)
    (name script : List ℕ) (p : Problem) (lines : List (List ℕ)) → held name ≡ Some (Some script)
    → OnPlan work held name p Done lines
    → (plan : Plan) × GivesPlan p script plan × work p plan Done lines
on_plan work held name script p lines is (file, there, inl fault) = absurd fault
on_plan work held name script p lines is (file, there, inr (plan, gives, does)) = (
  plan,
  subst (λ (b : List ℕ). GivesPlan p b plan)
      (is_held (held name) script file is there) gives,
  does,
)

one_plan : (p : Problem) (script : List ℕ) (x y : Plan) → GivesPlan p script x
    → GivesPlan p script y → y ≡ x
one_plan p script x y gives other = let e : ◌≡◌ {A = Result Plan plans.Fault} (Ok y) (Ok x) =
    sym other.1 ∙ gives.1 in cc

-- what a call says of a file whose text stands for the problem
of_text : (budget : ℕ) (held : List ℕ → Told) (name text : List ℕ) (p : Problem) (s : Status)
    (lines : List (List ℕ)) → read_text text ≡ Ok p → held name ≡ Some (Some text)
    → OnFile (SolveWork budget) held name s lines
    → LongFile held name file_limit s lines ⊎ SolveWork budget p s lines
of_text budget held name text p TooLong lines reads is (file, there, inl fault) = inl
    (refl, (file, there, fault))
of_text budget held name text p BadProblem lines reads is (file, there, inl fault) =
    let e : ◌≡◌ {A = Result Problem texts.Fault} (Ok p) (Err (fault.1.0, fault.1.1)) =
    sym reads ∙ (ap read_text (sym (is_held (held name) text file is there)) ∙ fault.1.2) in cc
of_text budget held name text p s lines reads is (file, there, inl fault) = absurd fault
of_text budget held name text p s lines reads is (file, there, inr (q, gives, does)) =
    let e : ◌≡◌ {A = Result Problem texts.Fault} (Ok q) (Ok p) =
    sym gives.reads ∙ (ap read_text (is_held (held name) text file is there) ∙ reads) in
    let same : q ≡ p = cc in
    inr (subst (λ (r : Problem). SolveWork budget r s lines) same does)

module _ (plans_read : ReadIsPlan) (valid : ExpandedIsValid) (canonical : CanonicalReads) where
  pub expanded_is_read : ExpandedIsRead
  expanded_is_read held file bytes plan script lines is is_plan said =
      let read = on_file (λ p. OnPlan ExpandWork held plan p) held file bytes lines is said in
      let planned = on_plan ExpandWork held plan script read.0 lines is_plan read.2 in
      let q = expanded read.0 planned.0 in
      let good = valid read.0 planned.0 read.1.valid
      (plans_read read.0 read.1.valid script planned.0 planned.1.1) in
      let reads : read_text (text_of lines) ≡ Ok q =
      ap (λ (ls : List (List ℕ)). read_text (text_of ls)) planned.2.1 ∙ canonical q good in
      record {
        plant = read.0;
        plan = planned.0;
        gives = record { problem = read.1; periods = planned.1 };
        printed = planned.2.1;
        reads = λ within. record { within = within; reads = reads; valid = good };
        solves = λ later kept budget s solved keeps says. of_text budget later kept
            (text_of lines) q s solved reads keeps says;
      }

module _ (reads : ExpandedIsRead) (one : OneCost) where
  -- the cost of a proof, compared with what `periods` prints
  plans_claim : (other : ℕ) (p : Problem) (plan : Plan) (claim : Claim) (lines : List (List ℕ))
      → HasProof (expanded p plan) claim → PeriodsWork other p plan Done lines
      → PlansClaim p plan claim lines
  plans_claim other p plan claim lines proof (inl least) =
      of claim (one (expanded p plan)
      (network least.network_of) claim least.proof proof)
    where
      of : (claim : Claim) → ClaimSame (network least.network_of) claim
          → PlansClaim p plan claim lines
      of (network v) same = (folded p plan least.network_of, least.design, same, least.text)
      of infeasible same = absurd same
      of unknown same = absurd same
  plans_claim other p plan claim lines proof (inr none) =
      subst (λ (c : Claim). PlansClaim p plan c lines)
      (sym (one (expanded p plan) infeasible claim (inl (none.tree, none.solves)) proof))
      (none.none, none.text)

  pub periods_are_certified : PeriodsAreCertified
  periods_are_certified held later last file bytes plan script kept budget other lines solves
      planned is is_plan expands keeps answers here is_its plans =
      let e = reads held file bytes plan script lines is is_plan expands in
      let read = on_file (λ p. OnPlan (PeriodsWork other) last plan p) last file bytes planned here
      plans in
      let same : read.0 ≡ e.plant = one_problem bytes e.plant read.0 e.gives.problem read.1 in
      let its = on_plan (PeriodsWork other) last plan script e.plant planned is_its
      (subst (λ (p : Problem). OnPlan (PeriodsWork other) last plan p Done planned) same
      read.2) in
      let x : its.0 ≡ e.plan = one_plan e.plant script e.plan its.0 e.gives.periods its.1 in
      by e (subst (λ (y : Plan). PeriodsWork other e.plant y Done planned) x its.2)
      (e.solves later kept budget Done solves keeps answers)
    where
      by : (e : IsExpanded bytes script lines) → PeriodsWork other e.plant e.plan Done planned
          → LongFile later kept file_limit Done solves
          ⊎ SolveWork budget (expanded e.plant e.plan) Done solves
          → Certifies bytes script solves planned
      by e works (inl long) = let d : Done ≡ TooLong = long.0 in cc
      by e works (inr does) =
          let proof = solved budget (expanded e.plant e.plan) solves does in
          record {
            plant = e.plant;
            plan = e.plan;
            claim = proof.claim;
            gives = e.gives;
            solve_prints = proof.text;
            periods_prints = plans_claim other e.plant e.plan proof.claim planned proof.proof works;
          }
