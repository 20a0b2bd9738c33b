-- What `solve` prints of the plant after an edit of a number, compared with the range that `stable`
-- prints.
use Rattle.std.proofs.Common.{◌≡◌, ℕ, zero, suc, ◌≤◌, Bool, cond, List, [], ◌∷◌, Option, Some, None}
use Rattle.std.proofs.Common.{IfSome, Result, Ok, Err, length, ℤ, ◌*ℤ◌, ◌≤ℤ◌, refl, sym, ap, ◌∙◌}
use Rattle.std.proofs.Common.{subst, arith, inl, inr}
use Rattle.std.proofs.lemmas.Int.{ints}
use Rattle.studio.specs.number_sets.Sets.{has}
use Rattle.studio.specs.text_rules.Canonical.{canonical_lines}
use Rattle.studio.specs.text_rules.Fault as texts
use Rattle.studio.specs.text_rules.Value as values
use Rattle.studio.specs.text_laws.Laws.{CanonicalReads}
use Rattle.studio.specs.problem_rules.Problem.{Problem}
use Rattle.studio.specs.pns_rules.Shape.{Shape}
use Rattle.studio.specs.pns_rules.Structure.{IsStructure, IsAllowed}
use Rattle.studio.specs.edit_rules.Edit.{Edit, Script}
use Rattle.studio.specs.edit_rules.Effect.{effect}
use Rattle.studio.specs.edit_rules.Fault as faults
use Rattle.studio.specs.edit_rules.Formed.{script_of}
use Rattle.studio.specs.edit_rules.Script.{applied, IsFirstFault}
use Rattle.studio.specs.edit_laws.ScriptLaws.{PrintedScriptsRead}
use Rattle.studio.specs.edit_rules.ScriptFault as scripts
use Rattle.studio.specs.edit_rules.Printed.{script_text}
use Rattle.studio.specs.edit_rules.Read.{read_script}
use Rattle.studio.specs.tree_rules.Claim.{Network, Claim, network, infeasible, unknown, CostOver}
use Rattle.studio.specs.tree_rules.Claim.{size_in}
use Rattle.studio.specs.tree_rules.Claim.{claimed_cost, IsAtLeast, IsFeasible}
use Rattle.studio.specs.report_rules.declared.spot.Spot.{Spot}
use Rattle.studio.specs.report_rules.declared.spot.SpotKind.{SpotKind}
use Rattle.studio.specs.report_rules.declared.side.Side.{Side}
use Rattle.studio.specs.report_rules.declared.side.Side.TheVariants.{Below, Above}
use Rattle.studio.specs.report_rules.Spot.{valued, IsAllowedValue}
use Rattle.studio.specs.report_rules.Range.{IsLeast, repriced, EndsAt, IsRange, beyond}
use Rattle.studio.specs.stability_laws.Laws.{ValuedIsValid}
use Rattle.studio.proofs.stability_laws.Cited.{shape_stays, flows_to}
use Rattle.studio.specs.studio_rules.Edits.{EditWork}
use Rattle.studio.specs.studio_rules.Lines.{text_of}
use Rattle.studio.specs.studio_rules.Reading.{GivesProblem, file_limit}
use Rattle.studio.specs.studio_rules.Script.{ScriptFault, ScriptSays}
use Rattle.studio.specs.studio_rules.Solve.{HasProof, SolveWork}
use Rattle.studio.specs.studio_rules.Stable.{spot_named, NamedWork, StableWork}
use Rattle.studio.specs.studio_rules.HeadedFile.{AnyHead, OnHeaded}
use Rattle.studio.specs.studio_rules.declared.status.Status.{Status}
use Rattle.studio.specs.studio_rules.declared.status.Status.TheVariants.{Done, BadClaim}
use Rattle.studio.specs.studio_rules.declared.status.Status.TheVariants.{BadEdit, TooLong}
use Rattle.studio.specs.studio_rules.declared.status.Status.TheVariants.{UnknownName}
use Rattle.call_laws.specs.Costs.{cost_of, ClaimsCost, PrintsClaim, PrintsCost}
use Rattle.call_laws.specs.Ranges.{setting, SettingsSetSpots, ValuesAreEdited, BestIsClaimed}
use Rattle.call_laws.specs.Ranges.{EditedCosts, RangeIsSolved, RangesAreSolved}
use Rattle.studio.proofs.Cited.{is_held, no_fault, one_problem}
use Rattle.call_laws.proofs.CostLemmas.{antisym, IsBest, is_best, claims_no_more, solved, on_file}
use Rattle.call_laws.proofs.SpotLemmas.{spot_known}
use Rattle.call_laws.proofs.ScriptLengths.{script-le}

-- ---- the claim

-- a proof claims a cost that no structure undercuts, if the proof claims no more
claims : (p : Problem) (claim : Claim) (much : CostOver) → IsBest p claim
    → IsAtLeast (claimed_cost claim) much.cost much.d → IsLeast p much → ClaimsCost claim much
claims p (network n) much proved low least =
    let f = proved.feasible n refl in
    let high : (much.cost *ℤ n.d) ≤ℤ (n.cost *ℤ much.d) =
    subst (λ (c : ℤ). (much.cost *ℤ n.d) ≤ℤ (c *ℤ much.d)) f.cost_is
    (least (has n.units) f.structure f.allowed (size_in n) n.d f.flows) in
    antisym (n.cost *ℤ much.d) (much.cost *ℤ n.d) low high
claims p infeasible much proved low least = low
claims p unknown much proved low least = low

pub best_is_claimed : BestIsClaimed
best_is_claimed p spot known w feasible v best claim proof =
    let proved = is_best (valued p spot v) claim proof in
    let shape = sym (shape_stays p spot known v) in
    let structure = subst (λ (g : Shape). IsStructure g (has w.units)) shape feasible.structure in
    let allowed = subst (λ (g : Shape). IsAllowed g (has w.units)) shape feasible.allowed in
    let flows = flows_to p spot known v (has w.units) (size_in w) w.d feasible.flows in
    claims (valued p spot v) claim (cost_of (repriced p spot w v)) proved
    (proved.least (has w.units) structure allowed (size_in w) w.d flows) best

-- ---- the edit

-- an edit without a fault of meaning has no first one
none_first : (cs : List faults.Check) (fault : faults.Fault) → faults.AreClear cs
    → faults.first_fault cs ≡ Some fault → ⊥
none_first [] fault clear e = cc
none_first (c ∷ cs) fault clear e =
    none_first cs fault clear.1 (sym
    (ap (λ (b : Bool). cond b (Some c.fault) (faults.first_fault cs)) clear.0) ∙ e)

-- the edit of a number, as the one line of a script
module _ (p : Problem) (edit : Edit) (text : List ℕ)
    (reads : read_script text ≡ Ok (script_of (edit ∷ [])))
    (clear : faults.AreClear (faults.checks p edit)) where
  script_is : (s : Script) → read_script text ≡ Ok s → s ≡ script_of (edit ∷ [])
  script_is s is = let e : ◌≡◌ {A =
      Result Script scripts.Fault} (Ok s) (Ok (script_of (edit ∷ []))) = sym is ∙ reads in cc

  no_first : (k : ℕ) (fault : faults.Fault) → IsFirstFault p (edit ∷ []) k fault → ⊥
  no_first zero fault first = none_first (faults.checks p edit) fault clear first
  no_first (suc k) fault first = first.1

  no_edit_fault : (name : List ℕ) (s : Status) (lines : List (List ℕ)) → length text ≤ file_limit
      → ScriptFault name p text s lines → ⊥
  no_edit_fault name TooLong lines short fault = let b = fault.0 in absurd (omega (arith, short, b))
  no_edit_fault name BadEdit lines short (long, (line, kind, inl is, told)) =
      let e : ◌≡◌ {A = Result Script scripts.Fault} (Ok (script_of (edit ∷ [])))
      (Err (line, kind)) = sym reads ∙ is in cc
  no_edit_fault name BadEdit lines short (long, (line, kind, inr (s, is, fault), told)) =
      no_first fault.stands.edit fault.fault
      (subst (λ (t : Script). IsFirstFault p t.edits fault.stands.edit fault.fault)
      (script_is s is) fault.stands.first)
  no_edit_fault name s lines short fault = absurd fault

  -- so the problem after it is printed
  edited : (name : List ℕ) (s : Status) (lines : List (List ℕ)) → length text ≤ file_limit
      → ScriptSays EditWork name p text s lines → (s ≡ Done)
      × (lines ≡ canonical_lines (effect p edit))
  edited name s lines short (inl fault) = absurd (no_edit_fault name s lines short fault)
  edited name s lines short (inr (script, gives, work)) = (
    work.0,
    work.1 ∙ ap (λ (t : Script). canonical_lines (applied p t.edits))
        (script_is script gives.reads),
  )

module _ (sets : SettingsSetSpots) (prints : PrintedScriptsRead) where
  pub values_are_edited : ValuesAreEdited
  values_are_edited held file bytes script p kind name spot v is given spot_is allowed script_is
      status lines (f, there, inl fault) =
      absurd (no_fault file f p status lines
      (subst (λ (b : List ℕ). GivesProblem b p)
      (sym (is_held (held file) bytes f is there)) given) fault)
  values_are_edited held file bytes script p kind name spot v is given spot_is allowed script_is
      status lines (f, there, inr (q, gives, (t, told, says))) =
      let edit = setting kind name v in
      let set = sets p given.valid kind name spot spot_is v allowed in
      let same : q ≡ p = one_problem bytes p q given
      (subst (λ (b : List ℕ). GivesProblem b q) (is_held (held file) bytes f is there) gives) in
      let text : t ≡ script_text (edit ∷ []) =
      is_held (held script) (script_text (edit ∷ [])) t script_is told in
      let here : ScriptSays EditWork script p (script_text (edit ∷ [])) status lines =
      subst (λ (b : List ℕ). ScriptSays EditWork script p b status lines) text
      (subst (λ (r : Problem). ScriptSays EditWork script r t status lines) same says) in
      let done = edited p edit (script_text (edit ∷ []))
      (prints (edit ∷ []) (set.formed, tt)) set.clear script status lines
      (script-le kind name v set.formed) here in
      (done.0, done.1 ∙ ap canonical_lines set.effect_is)

-- ---- the range

module _ (edits : ValuesAreEdited) (best : BestIsClaimed) (stays : ValuedIsValid)
    (canonical : CanonicalReads) (bytes : List ℕ) (p : Problem) (given : GivesProblem bytes p)
    (kind : SpotKind) (name : List ℕ) (spot : Spot)
    (spot_is : spot_named p kind name ≡ Some spot) where
  costs : (q : Problem) (much : CostOver) (lines : List (List ℕ)) (claim : Claim)
      → ClaimsCost claim much → PrintsClaim q claim lines → PrintsCost q much lines
  costs q much lines (network n) same prints =
      record { network_of = n; prints = prints; same_cost = same }
  costs q much lines infeasible same prints = absurd same
  costs q much lines unknown same prints = absurd same

  edited_costs : (v : ℤ) → IsAllowedValue spot v → (much : CostOver)
      → ((claim : Claim) → HasProof (valued p spot v) claim → ClaimsCost claim much)
      → EditedCosts bytes (setting kind name v) (valued p spot v) much
  edited_costs v allowed much told held later file script edited status changed lines budget is
      script_held edits_to kept solves =
      let q = valued p spot v in
      let e = edits held file bytes script p kind name spot v is given spot_is allowed script_held
      status changed edits_to in
      let s = on_file (SolveWork budget) later edited (text_of changed) lines kept solves in
      let reads : values.read_text (text_of changed) ≡ Ok q =
      ap (λ (ls : List (List ℕ)). values.read_text (text_of ls)) e.1
      ∙ canonical q (stays p given.valid spot
      (spot_known p kind name spot spot_is) v allowed) in
      let same : s.0 ≡ q = let o : ◌≡◌ {A = Result Problem texts.Fault} (Ok s.0) (Ok q) =
      sym s.1.reads ∙ reads in cc in
      let x = solved budget q lines (subst
      (λ (r : Problem). SolveWork budget r Done lines) same s.2) in
      costs q much lines x.claim (told x.claim x.proof) x.text

  module _ (w : Network) (feasible : IsFeasible p w) where
    inside : (from to : ℤ) (below above : Option Network) → IsRange p spot w from to below above
        → (v : ℤ) → from ≤ℤ v → v ≤ℤ to
        → EditedCosts bytes (setting kind name v) (valued p spot v)
        (cost_of (repriced p spot w v))
    inside from to below above range v low high =
        let a = range.starts.0 in let b = range.stops.1 in
        edited_costs v (record {
          low = omega (arith, ints, a, low);
          high =
              omega (arith, ints, b, high);
        }) (cost_of (repriced p spot w v))
        (best p spot (spot_known p kind name spot spot_is) w feasible v (range.best v low high))

    outside : (side : Side) (end : ℤ) (o : Option Network) → EndsAt p spot w side end o
        → IfSome o (λ n. EditedCosts bytes (setting kind name (beyond side end))
        (valued p spot (beyond side end)) (cost_of n))
    outside side end None ends = tt
    outside side end (Some n) ends =
        edited_costs (beyond side end) ends.0 (cost_of n)
        (λ claim proof.
        let proved = is_best (valued p spot (beyond side end)) claim proof in
        claims (valued p spot (beyond side end)) claim (cost_of n) proved
        (claims_no_more (valued p spot (beyond side end)) claim proved n ends.1.feasible)
        ends.1.least)

module _ (edits : ValuesAreEdited) (best : BestIsClaimed) (stays : ValuedIsValid)
    (canonical : CanonicalReads) where
  pub ranges_are_solved : RangesAreSolved
  ranges_are_solved held file bytes tree kind name budget ranged is said =
      let read =
      on_file (λ p. OnHeaded (AnyHead (StableWork kind name budget)) held tree p) held file bytes
      ranged is said in
      on_tree read.0 read.1 read.2
    where
      on_tree : (p : Problem) → GivesProblem bytes p
          → OnHeaded (AnyHead (StableWork kind name budget)) held tree p Done ranged
          → RangeIsSolved EditedCosts held bytes tree kind name ranged
      on_tree p given (its, told, inl fault) = absurd fault
      on_tree p given (its, told, inr (text, gives, work)) =
          by (spot_named p kind name) refl work
        where
          by : (o : Option Spot) → spot_named p kind name ≡ o
              → NamedWork o budget p text.claim text.tree Done ranged
              → RangeIsSolved EditedCosts held bytes tree kind name ranged
          by None e does = let d : Done ≡ UnknownName = does.0 in cc
          by (Some spot) e (inl refused) = let d : Done ≡ BadClaim = refused.0 in cc
          by (Some spot) e (inr (w, of_w, (from, to, below, above, range, are))) =
              record {
                told = record {
                  problem = p;
                  spot = spot;
                  network_of = w;
                  range = record { from = from; to = to; below = below; above = above };
                  gives = given;
                  spot_is = e;
                  claimed = (its, text, told, gives, of_w.0);
                  printed = are;
                };
                inside = inside edits best stays canonical bytes p given kind name spot e w of_w.1
                    from to below above range;
                under = outside edits best stays canonical bytes p given kind name spot e w of_w.1
                    Below from below range.ends_below;
                over = outside edits best stays canonical bytes p given kind name spot e w of_w.1
                    Above to above range.ends_above;
              }
