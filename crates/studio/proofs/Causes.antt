-- A status of `caused` comes just if it has its cause.
use Rattle.std.specs.List.{Contains}
use Rattle.std.proofs.Common.{Bool, sym, ◌∙◌, ◌≡◌, ◌⊎◌, ◌<◌, ◌≤◌, ◌∷◌, [], zero, suc, false, true}
use Rattle.std.proofs.Common.{Some, None, IsSome, refl, inl, inr, List, ℕ, Option, Result, Ok}
use Rattle.std.proofs.Common.{Err}
use Rattle.std.proofs.Common.{subst, ap, arith, length, take, get_or, pos}
use Rattle.structure_commands.specs.problem_rules.Problem.{Problem}
use Rattle.structure_commands.specs.problem_rules.Validity.{IsValid}
use Rattle.structure_commands.specs.pns_rules.Shape.{shape_of}
use Rattle.structure_commands.specs.text_rules.Fault as problems
use Rattle.structure_commands.specs.edit_rules.Edit.{Edit, Script}
use Rattle.structure_commands.specs.edit_rules.Effect.{effect}
use Rattle.structure_commands.specs.edit_rules.Fault as edits
use Rattle.structure_commands.specs.edit_rules.Script.{CanApply, IsFirstFault}
use Rattle.structure_commands.specs.edit_rules.declared.EditKind.{EditKind}
use Rattle.structure_commands.specs.edit_rules.ScriptFault as scripts
use Rattle.structure_commands.specs.plan_rules.declared.PlanKind.{PlanKind}
use Rattle.structure_commands.specs.plan_rules.Plan.{Plan}
use Rattle.structure_commands.specs.plan_rules.Read as plans
use Rattle.structure_commands.specs.text_rules.Outside.{Told}
use Rattle.structure_commands.specs.text_rules.State.{ShelfState, OutputsState}
use Rattle.structure_commands.specs.tree_rules.Claim.{Claim, Network}
use Rattle.structure_commands.specs.tree_rules.Accepted.{Tree}
use Rattle.structure_commands.specs.tree_text_rules.Read as trees
use Rattle.structure_commands.specs.tree_text_rules.Part.{Part}
use Rattle.structure_commands.specs.tree_text_rules.PartRead.{PartReads}
use Rattle.part_commands.specs.tree_parts.PartLaws.{PartsAreReadOnce}
use Rattle.structure_commands.specs.rank_rules.Text.{Text}
use Rattle.structure_commands.specs.report_rules.declared.spot.Spot.{Spot}
use Rattle.structure_commands.specs.report_rules.declared.spot.SpotKind.{SpotKind}
use Rattle.structure_commands.specs.problem_rules.Generated.{generated}
use Rattle.structure_commands.specs.studio_rules.Ending.{Ends, IsOneOf}
use Rattle.structure_commands.specs.studio_rules.declared.status.Status.{Status}
use Rattle.structure_commands.specs.studio_rules.declared.status.Status.TheVariants.{Done, Refused}
use Rattle.structure_commands.specs.studio_rules.declared.status.Status.TheVariants.{Past, Spent}
use Rattle.structure_commands.specs.studio_rules.declared.status.Status.TheVariants.{ReadFault}
use Rattle.structure_commands.specs.studio_rules.declared.status.Status.TheVariants.{WriteFault}
use Rattle.structure_commands.specs.studio_rules.declared.status.Status.TheVariants.{Memory}
use Rattle.structure_commands.specs.studio_rules.declared.status.Status.TheVariants.{BadProblem}
use Rattle.structure_commands.specs.studio_rules.declared.status.Status.TheVariants.{BadToken}
use Rattle.structure_commands.specs.studio_rules.declared.status.Status.TheVariants.{BadTree}
use Rattle.structure_commands.specs.studio_rules.declared.status.Status.TheVariants.{BadEdit}
use Rattle.structure_commands.specs.studio_rules.declared.status.Status.TheVariants.{TooLong}
use Rattle.structure_commands.specs.studio_rules.declared.status.Status.TheVariants.{UnknownName}
use Rattle.structure_commands.specs.studio_rules.declared.status.Status.TheVariants.{NotMigrated}
use Rattle.structure_commands.specs.studio_rules.declared.status.Status.TheVariants.{BadNode}
use Rattle.structure_commands.specs.studio_rules.declared.status.Status.TheVariants.{BadPlan}
use Rattle.structure_commands.specs.studio_rules.declared.status.Status.TheVariants.{BadClaim}
use Rattle.structure_commands.specs.studio_rules.declared.status.Status.TheVariants.{NotBest}
use Rattle.structure_commands.specs.studio_rules.Reading.{AreHeld, FileFault, GivesProblem, OnFile}
use Rattle.structure_commands.specs.studio_rules.Reading.{OnText}
use Rattle.structure_commands.specs.studio_rules.Reading.{file_limit}
use Rattle.structure_commands.specs.studio_rules.Script.{ScriptFault, GivesScript, HasEditFault}
use Rattle.structure_commands.specs.studio_rules.Script.{OnScript}
use Rattle.structure_commands.specs.studio_rules.Plan.{PlanFileFault, GivesPlan, OnPlan}
use Rattle.structure_commands.specs.studio_rules.TreeFile.{TreeFault, GivesTree, OnTree, tree_limit}
use Rattle.structure_commands.specs.studio_rules.Max.{MaxWork}
use Rattle.structure_commands.specs.studio_rules.Lint.{LintWork}
use Rattle.structure_commands.specs.studio_rules.Axioms.{AxiomsWork, first_stranger}
use Rattle.structure_commands.specs.studio_rules.Listing.{ListingWork}
use Rattle.structure_commands.specs.studio_rules.Migrate.{MigrateWork}
use Rattle.structure_commands.specs.studio_rules.Edits.{EditWork, UndoWork}
use Rattle.structure_commands.specs.studio_rules.Flows.{FlowsWork}
use Rattle.structure_commands.specs.studio_rules.HeadedFile.{AnyHead, HeadedFault, HeadedSays}
use Rattle.structure_commands.specs.studio_rules.HeadedFile.{GivesHeaded, OnHeaded}
use Rattle.structure_commands.specs.studio_rules.Check.{CheckWork}
use Rattle.structure_commands.specs.studio_rules.Rankcheck.{RankFault, GivesRanking, OnRank}
use Rattle.structure_commands.specs.studio_rules.Rankcheck.{RankcheckWork}
use Rattle.structure_commands.specs.studio_rules.Rank.{RankWork}
use Rattle.structure_commands.specs.studio_rules.Alternates.{AlternatesWork}
use Rattle.structure_commands.specs.studio_rules.Network.{OnNetwork}
use Rattle.structure_commands.specs.studio_rules.Table.{TableWork}
use Rattle.structure_commands.specs.report_rules.Measures.{measures_of}
use Rattle.structure_commands.specs.studio_rules.Report.{ReportWork}
use Rattle.structure_commands.specs.studio_rules.Json.{JsonWork}
use Rattle.structure_commands.specs.studio_rules.RankReport.{RankReportWork, ReportsOn}
use Rattle.structure_commands.specs.studio_rules.RankJson.{RankJsonWork}
use Rattle.structure_commands.specs.studio_rules.RankGraph.{RankGraphWork}
use Rattle.structure_commands.specs.studio_rules.TextFile.{by_kind, RankSays, EitherSays, OnEither}
use Rattle.structure_commands.specs.studio_rules.RangesJson.{TableSays, AnySays, OnAny}
use Rattle.structure_commands.specs.report_rules.RangeTable.{is_table, read_table}
use Rattle.structure_commands.specs.report_rules.declared.row.Row.{Row}
use Rattle.structure_commands.specs.rank_rules.Headed.{is_ranking}
use Rattle.structure_commands.specs.studio_rules.Graph.{PlantGraphWork, NetworkGraphWork}
use Rattle.structure_commands.specs.studio_rules.Expand.{ExpandWork}
use Rattle.structure_commands.specs.studio_rules.Periods.{PeriodsWork}
use Rattle.structure_commands.specs.studio_rules.Split.{SplitWork}
use Rattle.structure_commands.specs.studio_rules.PartFile.{PartFault, PartFaults, GivesPart}
use Rattle.structure_commands.specs.studio_rules.PartFile.{GiveParts, FirstFault}
use Rattle.structure_commands.specs.studio_rules.PartFile.{are_several}
use Rattle.structure_commands.specs.studio_rules.Merge.{MergeWork}
use Rattle.structure_commands.specs.studio_rules.Start.{OnStart}
use Rattle.structure_commands.specs.studio_rules.Part.{PartSays, PartWork, ClaimSays, AgainstWork}
use Rattle.structure_commands.specs.studio_rules.Solve.{SolveWork}
use Rattle.structure_commands.specs.studio_rules.Show.{ShowWork}
use Rattle.structure_commands.specs.studio_rules.Stable.{spot_named, NamedWork, StableWork}
use Rattle.structure_commands.specs.studio_rules.StableTable.{RangesWork}
use Rattle.structure_commands.specs.studio_rules.Command.{Command, Max, Axioms, Flows, Listing}
use Rattle.structure_commands.specs.studio_rules.Command.{Linting, Make}
use Rattle.structure_commands.specs.studio_rules.Command.{Migrate}
use Rattle.structure_commands.specs.studio_rules.Command.{Editing, Undoing, Checking, RankChecking}
use Rattle.structure_commands.specs.studio_rules.Command.{Solving, Showing}
use Rattle.structure_commands.specs.studio_rules.Command.{Alternatives, RangingAll}
use Rattle.structure_commands.specs.studio_rules.Command.{Ranking, Trial, Telling, Table, Splitting}
use Rattle.structure_commands.specs.studio_rules.Command.{Expanding}
use Rattle.structure_commands.specs.studio_rules.Command.{Drawing, DrawingNetwork, Reporting, Json}
use Rattle.structure_commands.specs.studio_rules.Command.{Ranging}
use Rattle.structure_commands.specs.studio_rules.Command.{Planning}
use Rattle.structure_commands.specs.studio_rules.Command.{Parting, PartingAgainst, Merging}
use Rattle.structure_commands.specs.studio_rules.Command.{command_of}
use Rattle.structure_commands.specs.studio_rules.Answers.{AnswersTo, CommandAnswers, WordsSay}
use Rattle.structure_commands.specs.studio_rules.Causes.{caused, FileCause, HasProblemFault}
use Rattle.structure_commands.specs.studio_rules.Causes.{HasScriptFault}
use Rattle.structure_commands.specs.studio_rules.Causes.{HasPlanFault, HasTreeFault, HasHeadedFault}
use Rattle.structure_commands.specs.studio_rules.Causes.{HasRankFault}
use Rattle.structure_commands.specs.studio_rules.Causes.{HasPartFault}
use Rattle.structure_commands.specs.studio_rules.Causes.{NoCause, TokenCause, MigrationCause}
use Rattle.structure_commands.specs.studio_rules.Causes.{NameCause, InFile}
use Rattle.structure_commands.specs.studio_rules.Causes.{InScript, InPlan, InRank, InTree, InHeaded}
use Rattle.structure_commands.specs.studio_rules.Causes.{InEither, InAny}
use Rattle.structure_commands.specs.studio_rules.Causes.{InParts, HasTableFault, HasEitherFault}
use Rattle.structure_commands.specs.studio_rules.Causes.{AtNode, CauseOf}
use Rattle.structure_commands.specs.studio_rules.Causes.{AreTold, EndsExactly}
use Rattle.studio.proofs.Accepted.{no_fault, one_problem}
use Rattle.studio.proofs.Statuses.{max_status, lint_status, names_status, flows_status}
use Rattle.studio.proofs.Statuses.{check_status, rankcheck_status, split_status, table_status}
use Rattle.studio.proofs.Statuses.{report_status, json_status, network_status, solve_status}
use Rattle.studio.proofs.Statuses.{rank_report_status, rank_json_status, rank_graph_status}
use Rattle.studio.proofs.Statuses.{show_status, rank_status, search_status, plant_graph_status}
use Rattle.studio.proofs.Statuses.{alternatives_status}
use Rattle.studio.proofs.Statuses.{graph_status, periods_status, part_status, claim_status}
use Rattle.studio.proofs.Statuses.{merge_fault_status, spot_status, table_of_ranges_status}

-- the same statuses, by cases
abbrev pub Caused : Status → Type 0
Caused BadProblem = Unit {0}
Caused BadToken = Unit {0}
Caused BadTree = Unit {0}
Caused BadEdit = Unit {0}
Caused TooLong = Unit {0}
Caused UnknownName = Unit {0}
Caused NotMigrated = Unit {0}
Caused BadNode = Unit {0}
Caused BadPlan = Unit {0}
Caused status = ⊥

pub by_cases : (s : Status) → IsOneOf caused s → Caused s
by_cases s (inl e) = subst Caused (sym e) tt
by_cases s (inr (inl e)) = subst Caused (sym e) tt
by_cases s (inr (inr (inl e))) = subst Caused (sym e) tt
by_cases s (inr (inr (inr (inl e)))) = subst Caused (sym e) tt
by_cases s (inr (inr (inr (inr (inl e))))) = subst Caused (sym e) tt
by_cases s (inr (inr (inr (inr (inr (inl e)))))) = subst Caused (sym e) tt
by_cases s (inr (inr (inr (inr (inr (inr (inl e))))))) = subst Caused (sym e) tt
by_cases s (inr (inr (inr (inr (inr (inr (inr (inl e)))))))) = subst Caused (sym e) tt
by_cases s (inr (inr (inr (inr (inr (inr (inr (inr (inl e))))))))) = subst Caused (sym e) tt
by_cases s (inr (inr (inr (inr (inr (inr (inr (inr (inr none))))))))) = absurd none

-- An answer with such a status has its cause. If a status has its cause, each answer has the
-- status.
abbrev pub Only : (Status → List (List ℕ) → Type 0) → (Status → Type 0) → Type 0
Only answers cause = (s : Status) (lines : List (List ℕ)) → Caused s → answers s lines → cause s

abbrev pub Always : (Status → List (List ℕ) → Type 0) → (Status → Type 0) → Type 0
Always answers cause = (status s : Status) (lines : List (List ℕ)) → cause status
    → answers s lines
    → s ≡ status

-- ---- a file

one_cause : (limit : ℕ) (bad : Status) (HasFault : List ℕ → Type 0) (file : List ℕ) (s t : Status)
    → FileCause limit bad HasFault file s → FileCause limit bad HasFault file t → s ≡ t
one_cause limit bad HasFault file s t (inl h) (inl g) = h.0 ∙ sym g.0
one_cause limit bad HasFault file s t (inl h) (inr g) = let a = h.1 in let b =
    g.1 in absurd (omega (arith, a, b))
one_cause limit bad HasFault file s t (inr h) (inl g) = let a = h.1 in let b =
    g.1 in absurd (omega (arith, a, b))
one_cause limit bad HasFault file s t (inr h) (inr g) = h.0 ∙ sym g.0

pub same_file : (told : Told) (file other : List ℕ) → IsSome told → AreHeld told file
    → AreHeld told other → other ≡ file
same_file None file other some h g = let none : false ≡ true = some in cc
same_file (Some None) file other some h g = absurd h
same_file (Some (Some bytes)) file other some h g = g ∙ sym h

-- a file that is judged, with work on what it gives
module _ {G : Type 0} (limit : ℕ) (bad : Status) (HasFault : List ℕ → Type 0)
    (Gives : List ℕ → G → Type 0) (Fault : List ℕ → Status → List (List ℕ) → Type 0)
    (work : G → Status → List (List ℕ) → Type 0) (cause : G → Status → Type 0) where
  abbrev Says : List ℕ → Status → List (List ℕ) → Type 0
  Says file s lines = Fault file s lines ⊎ ((g : G) × Gives file g × work g s lines)

  abbrev Lies : List ℕ → Status → Type 0
  Lies file s = FileCause limit bad HasFault file s ⊎ ((g : G) × Gives file g × cause g s)

  module _ (fault : (file : List ℕ) (s : Status) (lines : List (List ℕ)) → Fault file s lines
      → FileCause limit bad HasFault file s) where
    judged_only : ((g : G) → Only (work g) (cause g)) → (told : Told)
        → Only (λ s lines. (file : List ℕ) × AreHeld told file × Says file s lines)
        (λ s. (file : List ℕ) × AreHeld told file × Lies file s)
    judged_only works told s lines c (file, is, inl h) = (file, is, inl (fault file s lines h))
    judged_only works told s lines c (file, is, inr (g, gives, does)) =
        (file, is, inr (g, gives, works g s lines c does))

    module _ (good : (file : List ℕ) (g : G) → Gives file g → (length file ≤ limit)
        × (HasFault file → ⊥))
        (one : (file : List ℕ) (g h : G) → Gives file g → Gives file h → h ≡ g) where
      not_both : (file : List ℕ) (g : G) (s : Status) → Gives file g
          → FileCause limit bad HasFault file s → ⊥
      not_both file g s gives (inl h) = let a = (good file g gives).0 in let b =
          h.1 in absurd (omega (arith, a, b))
      not_both file g s gives (inr h) = (good file g gives).1 h.2

      at_file : ((file : List ℕ) (g : G) → Gives file g → Always (work g) (cause g))
          → (file : List ℕ) → Always (Says file) (Lies file)
      at_file works file status s lines (inl why) (inl h) =
          one_cause limit bad HasFault file s status (fault file s lines h) why
      at_file works file status s lines (inl why) (inr (g, gives, does)) =
          absurd (not_both file g status gives why)
      at_file works file status s lines (inr (g, given, why)) (inl h) =
          absurd (not_both file g s given (fault file s lines h))
      at_file works file status s lines (inr (g, given, why)) (inr (h, gives, does)) =
          let same : h ≡ g = one file g h given gives in
          works file g given status s lines why (subst (λ (x : G). work x s lines) same does)

      judged_always : ((file : List ℕ) (g : G) → Gives file g → Always (work g) (cause g))
          → (told : Told) → IsSome told
          → Always (λ s lines. (file : List ℕ) × AreHeld told file × Says file s lines)
          (λ s. (file : List ℕ) × AreHeld told file × Lies file s)
      judged_always works told some status s lines (file, is, why) (other, there, said) =
          let same : other ≡ file = same_file told file other some is there in
          at_file works file status s lines why (subst (λ (b : List ℕ). Says b s lines) same said)

-- ---- FILE

problem_cause : (name file : List ℕ) (s : Status) (lines : List (List ℕ))
    → FileFault name file s lines → FileCause file_limit BadProblem HasProblemFault file s
problem_cause name file TooLong lines h = inl (refl, h.0)
problem_cause name file BadProblem lines h = inr (refl, h.0, (h.1.0, h.1.1, h.1.2))
problem_cause name file s lines h = absurd h

problem_good : (file : List ℕ) (p : Problem) → GivesProblem file p → (length file ≤ file_limit)
    × (HasProblemFault file → ⊥)
problem_good file p given = (
  given.within,
  λ fault. let e : ◌≡◌ {A = Result Problem problems.Fault} (Ok p) (Err (fault.0, fault.1)) =
      sym given.reads ∙ fault.2 in cc,
)

file_only : (held : List ℕ → Told) (name : List ℕ)
    (work : Problem → Status → List (List ℕ) → Type 0) (cause : Problem → Status → Type 0)
    → ((p : Problem) → Only (work p) (cause p))
    → Only (OnFile work held name) (InFile cause held name)
file_only held name work cause works =
    judged_only file_limit BadProblem HasProblemFault GivesProblem (FileFault name) work cause
    (problem_cause name) works (held name)

file_always : (held : List ℕ → Told) (name : List ℕ)
    (work : Problem → Status → List (List ℕ) → Type 0) (cause : Problem → Status → Type 0)
    → ((p : Problem) → IsValid p → Always (work p) (cause p)) → IsSome (held name)
    → Always (OnFile work held name) (InFile cause held name)
file_always held name work cause works told =
    judged_always file_limit BadProblem HasProblemFault GivesProblem (FileFault name) work cause
    (problem_cause name) problem_good one_problem
    (λ file p given. works p given.valid) (held name) told

-- a work that goes by the bytes of some file, and what it says on the file
abbrev OfSome : (List ℕ → Problem → Status → List (List ℕ) → Type 0) → Problem → Status
    → List (List ℕ) → Type 0
OfSome work p s lines = (file : List ℕ) × work file p s lines

on_file : (work : List ℕ → Problem → Status → List (List ℕ) → Type 0) (held : List ℕ → Told)
    (name : List ℕ) (s : Status) (lines : List (List ℕ)) → OnText work held name s lines
    → OnFile (OfSome work) held name s lines
on_file work held name s lines (file, is, inl h) = (file, is, inl h)
on_file work held name s lines (file, is, inr (p, gives, does)) =
    (file, is, inr (p, gives, (file, does)))

-- ---- SCRIPT, PLAN and RANK; nothing after them is a cause

no_behind : {G : Type 0} (limit : ℕ) (bad : Status) (HasFault : List ℕ → Type 0)
    (Gives : List ℕ → G → Type 0) (told : Told) (s : Status)
    → ((file : List ℕ) × AreHeld told file
    × (FileCause limit bad HasFault file s ⊎ ((g : G) × Gives file g × ⊥))) → (file : List ℕ)
    × AreHeld told file × FileCause limit bad HasFault file s
no_behind limit bad HasFault Gives told s (file, is, inl why) = (file, is, why)
no_behind limit bad HasFault Gives told s (file, is, inr rest) = absurd rest.2

script_cause : (name : List ℕ) (p : Problem) (file : List ℕ) (s : Status) (lines : List (List ℕ))
    → ScriptFault name p file s lines → FileCause file_limit BadEdit (HasScriptFault p) file s
script_cause name p file TooLong lines h = inl (refl, h.0)
script_cause name p file BadEdit lines h = inr (refl, h.0, (h.1.0, h.1.1, h.1.2))
script_cause name p file s lines h = absurd h

-- edits that have no fault have no first one
clear_checks : (cs : List edits.Check) (fault : edits.Fault) → edits.AreClear cs
    → edits.first_fault cs ≡ Some fault → ⊥
clear_checks [] fault clear e = cc
clear_checks (c ∷ cs) fault clear e = let passes = clear.0 in clear_checks cs fault clear.1 (cc)

not_first : (p : Problem) (es : List Edit) (k : ℕ) (fault : edits.Fault) → CanApply p es
    → IsFirstFault p es k fault → ⊥
not_first p [] k fault can first = absurd first
not_first p (e ∷ es) zero fault can first = clear_checks (edits.checks p e) fault can.0 first
not_first p (e ∷ es) (suc k) fault can first = not_first (effect p e) es k fault can.1 first.1

no_script_fault : (p : Problem) (file : List ℕ) (s : Script) (line : ℕ) (kind : EditKind)
    → GivesScript p file s → HasEditFault p file line kind → ⊥
no_script_fault p file s line kind given (inl fault) =
    let e : ◌≡◌ {A = Result Script scripts.Fault} (Ok s) (Err (line, kind)) =
    sym given.reads ∙ fault in cc
no_script_fault p file s line kind given (inr (t, reads, has)) =
    let same : ◌≡◌ {A = Result Script scripts.Fault} (Ok s) (Ok t) = sym given.reads ∙ reads in
    let one : s ≡ t = cc in
    not_first p t.edits has.stands.edit has.fault
    (subst (λ (x : Script). CanApply p x.edits) one given.taken) has.stands.first

script_good : (p : Problem) (file : List ℕ) (s : Script) → GivesScript p file s
    → (length file ≤ file_limit) × (HasScriptFault p file → ⊥)
script_good p file s given =
    (given.within, λ fault. no_script_fault p file s fault.0 fault.1 given fault.2)

one_script : (p : Problem) (file : List ℕ) (s t : Script) → GivesScript p file s
    → GivesScript p file t → t ≡ s
one_script p file s t given other = let e : ◌≡◌ {A = Result Script scripts.Fault} (Ok t) (Ok s) =
    sym other.reads ∙ given.reads in cc

module _ (work : Problem → List Edit → Status → List (List ℕ) → Type 0)
    (done : (p : Problem) (es : List Edit) (s : Status) (lines : List (List ℕ))
    → work p es s lines
    → s ≡ Done) (held : List ℕ → Told) (name : List ℕ) (p : Problem) where
  script_only : Only (OnScript work held name p) (InScript held name p)
  script_only s lines c h =
      no_behind file_limit BadEdit (HasScriptFault p) (GivesScript p) (held name) s
      (judged_only file_limit BadEdit (HasScriptFault p) (GivesScript p) (ScriptFault name p)
      (λ (script : Script). work p script.edits) (λ _ _. ⊥) (script_cause name p)
      (λ script t ls caused does. subst Caused (done p script.edits t ls does) caused) (held name)
      s
      lines c h)

  script_always : IsSome (held name) → Always (OnScript work held name p) (InScript held name p)
  script_always told status s lines cause h =
      judged_always file_limit BadEdit (HasScriptFault p) (GivesScript p) (ScriptFault name p)
      (λ (script : Script). work p script.edits) (λ _ _. ⊥) (script_cause name p)
      (script_good p) (one_script p)
      (λ file script given t u ls none does. absurd none) (held name) told status s lines
      (cause.0, cause.1, inl cause.2) h

plan_cause : (name : List ℕ) (p : Problem) (file : List ℕ) (s : Status) (lines : List (List ℕ))
    → PlanFileFault name p file s lines → FileCause file_limit BadPlan (HasPlanFault p) file s
plan_cause name p file TooLong lines h = inl (refl, h.0)
plan_cause name p file BadPlan lines h = inr (refl, h.0, (h.1.0, h.1.1, h.1.2))
plan_cause name p file s lines h = absurd h

plan_good : (p : Problem) (file : List ℕ) (plan : Plan) → GivesPlan p file plan
    → (length file ≤ file_limit) × (HasPlanFault p file → ⊥)
plan_good p file plan given = (
  given.0,
  λ fault. let e : ◌≡◌ {A = Result Plan plans.Fault} (Ok plan)
      (Err (fault.0, fault.1)) = sym given.1 ∙ fault.2 in cc,
)

one_plan : (p : Problem) (file : List ℕ) (plan other : Plan) → GivesPlan p file plan
    → GivesPlan p file other → other ≡ plan
one_plan p file plan other given gives =
    let e : ◌≡◌ {A = Result Plan plans.Fault} (Ok other) (Ok plan) = sym gives.1 ∙ given.1 in cc

module _ (work : Problem → Plan → Status → List (List ℕ) → Type 0)
    (plain : (p : Problem) (plan : Plan) (s : Status) (lines : List (List ℕ)) → Caused s
    → work p plan s lines → ⊥) (held : List ℕ → Told) (name : List ℕ) (p : Problem) where
  plan_only : Only (OnPlan work held name p) (InPlan held name p)
  plan_only s lines c h =
      no_behind file_limit BadPlan (HasPlanFault p) (GivesPlan p) (held name) s
      (judged_only file_limit BadPlan (HasPlanFault p) (GivesPlan p) (PlanFileFault name p)
      (work p)
      (λ _ _. ⊥) (plan_cause name p) (plain p) (held name) s lines c h)

  plan_always : IsSome (held name) → Always (OnPlan work held name p) (InPlan held name p)
  plan_always told status s lines cause h =
      judged_always file_limit BadPlan (HasPlanFault p) (GivesPlan p) (PlanFileFault name p)
      (work p) (λ _ _. ⊥) (plan_cause name p) (plan_good p) (one_plan p)
      (λ file plan given t u ls none does. absurd none) (held name) told status s lines
      (cause.0, cause.1, inl cause.2) h

rank_cause : (name : List ℕ) (p : Problem) (file : List ℕ) (s : Status) (lines : List (List ℕ))
    → RankFault name p file s lines → FileCause tree_limit BadTree (HasRankFault p) file s
rank_cause name p file TooLong lines h = inl (refl, h.0)
rank_cause name p file BadTree lines h = inr (refl, h.0, (h.1.0, h.1.1, h.1.2))
rank_cause name p file s lines h = absurd h

rank_good : (p : Problem) (file : List ℕ) (t : Text) → GivesRanking p file t
    → (length file ≤ tree_limit) × (HasRankFault p file → ⊥)
rank_good p file t given = (
  given.0,
  λ fault. let e : ◌≡◌ {A = Result Text trees.Fault} (Ok t) (Err (fault.0, fault.1)) =
      sym given.1 ∙ fault.2 in cc,
)

one_ranking : (p : Problem) (file : List ℕ) (t other : Text) → GivesRanking p file t
    → GivesRanking p file other → other ≡ t
one_ranking p file t other given gives =
    let e : ◌≡◌ {A = Result Text trees.Fault} (Ok other) (Ok t) = sym gives.1 ∙ given.1 in cc

rankcheck_plain : (p : Problem) (t : Text) (s : Status) (lines : List (List ℕ)) → Caused s
    → RankcheckWork p t s lines → ⊥
rankcheck_plain p t s lines c h =
    elim (rankcheck_status p t s lines h) [ inl q ↦ subst Caused q c | inr q ↦ subst Caused q c ]

module _ (held : List ℕ → Told) (name : List ℕ) (p : Problem) where
  rank_only : Only (OnRank held name p) (InRank held name p)
  rank_only s lines c h =
      no_behind tree_limit BadTree (HasRankFault p) (GivesRanking p) (held name) s
      (judged_only tree_limit BadTree (HasRankFault p) (GivesRanking p) (RankFault name p)
      (RankcheckWork p) (λ _ _. ⊥) (rank_cause name p) (rankcheck_plain p) (held name) s lines c
      h)

  rank_always : IsSome (held name) → Always (OnRank held name p) (InRank held name p)
  rank_always told status s lines cause h =
      judged_always tree_limit BadTree (HasRankFault p) (GivesRanking p) (RankFault name p)
      (RankcheckWork p) (λ _ _. ⊥) (rank_cause name p) (rank_good p) (one_ranking p)
      (λ file t given u v ls none does. absurd none) (held name) told status s lines
      (cause.0, cause.1, inl cause.2) h

not_bad_rank : (p : Problem) (file : List ℕ) (t : Text) (s : Status) → GivesRanking p file t
    → FileCause tree_limit BadTree (HasRankFault p) file s → ⊥
not_bad_rank p file t s given (inl h) = let a = given.0 in let b =
    h.1 in absurd (omega (arith, a, b))
not_bad_rank p file t s given (inr h) = (rank_good p file t given).1 h.2

-- ---- a tree that may have a head, and what follows it whatever it says

headed_cause : (name : List ℕ) (p : Problem) (file : List ℕ) (s : Status) (lines : List (List ℕ))
    → HeadedFault name p file s lines → FileCause tree_limit BadTree (HasHeadedFault p) file s
headed_cause name p file TooLong lines h = inl (refl, h.0)
headed_cause name p file BadTree lines h = inr (refl, h.0, (h.1.0, h.1.1, h.1.2))
headed_cause name p file s lines h = absurd h

headed_good : (p : Problem) (file : List ℕ) (t : trees.HeadedCertificate) → GivesHeaded p file t
    → (length file ≤ tree_limit) × (HasHeadedFault p file → ⊥)
headed_good p file t given = (
  given.0,
  λ fault. let e : ◌≡◌ {A = Result trees.HeadedCertificate trees.Fault} (Ok t)
      (Err (fault.0, fault.1)) =
      sym given.1 ∙ fault.2 in cc,
)

one_headed : (p : Problem) (file : List ℕ) (t other : trees.HeadedCertificate)
    → GivesHeaded p file t → GivesHeaded p file other → other ≡ t
one_headed p file t other given gives =
    let e : ◌≡◌ {A = Result trees.HeadedCertificate trees.Fault} (Ok other) (Ok t) =
    sym gives.1 ∙ given.1 in cc

check_plain : (p : Problem) (t : trees.HeadedCertificate) (s : Status) (lines : List (List ℕ))
    → Caused s → CheckWork p t s lines → ⊥
check_plain p t s lines c h =
    elim (check_status p t s lines h) [ inl q ↦ subst Caused q c | inr q ↦ subst Caused q c ]

not_bad_headed : (p : Problem) (file : List ℕ) (t : trees.HeadedCertificate) (s : Status)
    → GivesHeaded p file t → FileCause tree_limit BadTree (HasHeadedFault p) file s → ⊥
not_bad_headed p file t s given (inl h) = let a = given.0 in let b =
    h.1 in absurd (omega (arith, a, b))
not_bad_headed p file t s given (inr h) = (headed_good p file t given).1 h.2

module _ (work : Problem → trees.HeadedCertificate → Status → List (List ℕ) → Type 0)
    (behind : Problem → Status → Type 0) (held : List ℕ → Told) (name : List ℕ)
    (p : Problem) where
  headed_only : ((t : trees.HeadedCertificate) → Only (work p t) (behind p))
      → Only (OnHeaded work held name p) (InHeaded behind held name p)
  headed_only works =
      judged_only tree_limit BadTree (HasHeadedFault p) (GivesHeaded p) (HeadedFault name p)
      (work p) (λ t s. behind p s) (headed_cause name p) works (held name)

  headed_always : ((t : trees.HeadedCertificate) → Always (work p t) (behind p))
      → IsSome (held name) → Always (OnHeaded work held name p) (InHeaded behind held name p)
  headed_always works told =
      judged_always tree_limit BadTree (HasHeadedFault p) (GivesHeaded p) (HeadedFault name p)
      (work p) (λ t s. behind p s) (headed_cause name p) (headed_good p) (one_headed p)
      (λ file t given. works t) (held name) told

-- ---- TREE, and what follows it whatever it claims

pub tree_cause : (name : List ℕ) (p : Problem) (file : List ℕ) (s : Status)
    (lines : List (List ℕ))
    → TreeFault name p file s lines → FileCause tree_limit BadTree (HasTreeFault p) file s
tree_cause name p file TooLong lines h = inl (refl, h.0)
tree_cause name p file BadTree lines h = inr (refl, h.0, (h.1.0, h.1.1, h.1.2))
tree_cause name p file s lines h = absurd h

pub not_bad_tree : (p : Problem) (file : List ℕ) (claim : Claim) (tree : Tree) (s : Status)
    → GivesTree p file claim tree → FileCause tree_limit BadTree (HasTreeFault p) file s → ⊥
not_bad_tree p file claim tree s given (inl h) = let a = given.0 in let b =
    h.1 in absurd (omega (arith, a, b))
not_bad_tree p file claim tree s given (inr h) =
    let e : ◌≡◌ {A = Result trees.Certificate trees.Fault}
    (Ok (record { claim = claim; tree = tree; tail = given.1.0 })) (Err (h.2.0, h.2.1)) =
    sym given.1.1 ∙ h.2.2 in cc

module _ (work : Problem → Claim → Tree → Status → List (List ℕ) → Type 0)
    (behind : Problem → Status → Type 0) (held : List ℕ → Told) (name : List ℕ)
    (p : Problem) where
  tree_only : ((claim : Claim) (tree : Tree) → Only (work p claim tree) (behind p))
      → Only (OnTree work held name p) (InTree behind held name p)
  tree_only works s lines c (file, is, inl h) = (file, is, inl (tree_cause name p file s lines h))
  tree_only works s lines c (file, is, inr (claim, tree, gives, does)) =
      (file, is, inr (claim, tree, gives, works claim tree s lines c does))

  at_tree : ((claim : Claim) (tree : Tree) → Always (work p claim tree) (behind p))
      → (file : List ℕ) (status s : Status) (lines : List (List ℕ))
      → FileCause tree_limit BadTree (HasTreeFault p) file status
      ⊎ ((claim : Claim) × (tree : Tree) × GivesTree p file claim tree × behind p status)
      → TreeFault name p file s lines
      ⊎ ((claim : Claim) × (tree : Tree) × GivesTree p file claim tree
      × work p claim tree s lines)
      → s ≡ status
  at_tree works file status s lines (inl why) (inl h) =
      one_cause tree_limit BadTree (HasTreeFault p) file s status
      (tree_cause name p file s lines h)
      why
  at_tree works file status s lines (inl why) (inr (claim, tree, gives, does)) =
      absurd (not_bad_tree p file claim tree status gives why)
  at_tree works file status s lines (inr (claim, tree, given, why)) (inl h) =
      absurd (not_bad_tree p file claim tree s given (tree_cause name p file s lines h))
  at_tree works file status s lines (inr (claim, tree, given, why))
      (inr (other, its, gives, does)) = works other its status s lines why does

  tree_always : ((claim : Claim) (tree : Tree) → Always (work p claim tree) (behind p))
      → IsSome (held name) → Always (OnTree work held name p) (InTree behind held name p)
  tree_always works told status s lines (file, is, why) (other, there, said) =
      let same : other ≡ file = same_file (held name) file other told is there in
      at_tree works file status s lines why
      (subst (λ (b : List ℕ). TreeFault name p b s lines
      ⊎ ((claim : Claim) × (tree : Tree) × GivesTree p b claim tree
      × work p claim tree s lines)) same said)

-- ---- a tree or a ranking, after which nothing is a cause

module _ (on_tree : Problem → trees.HeadedCertificate → Status → List (List ℕ) → Type 0)
    (on_rank : Problem → Text → Status → List (List ℕ) → Type 0) (p : Problem) where
  module _ (tree_plain : (t : trees.HeadedCertificate) (s : Status) (lines : List (List ℕ))
      → Caused s → on_tree p t s lines → ⊥)
      (rank_plain : (t : Text) (s : Status) (lines : List (List ℕ)) → Caused s
      → on_rank p t s lines → ⊥) where
    kind_cause : (kind : Bool) (name file : List ℕ) (s : Status) (lines : List (List ℕ))
        → Caused s
        → by_kind kind (RankSays on_rank name p file s lines)
        (HeadedSays on_tree name p file s lines)
        → FileCause tree_limit BadTree
        (λ bytes. by_kind kind (HasRankFault p bytes) (HasHeadedFault p bytes)) file s
    kind_cause true name file s lines c (inl h) = rank_cause name p file s lines h
    kind_cause true name file s lines c (inr (t, gives, does)) =
        absurd (rank_plain t s lines c does)
    kind_cause false name file s lines c (inl h) = headed_cause name p file s lines h
    kind_cause false name file s lines c (inr (t, gives, does)) =
        absurd (tree_plain t s lines c does)

    either_only : (held : List ℕ → Told) (name : List ℕ)
        → Only (OnEither on_tree on_rank held name p) (InEither held name p)
    either_only held name s lines c (file, is, said) =
        (file, is, kind_cause (is_ranking file) name file s lines c said)

  kind_always : (kind : Bool) (name file : List ℕ) (status s : Status) (lines : List (List ℕ))
      → FileCause tree_limit BadTree
      (λ bytes. by_kind kind (HasRankFault p bytes) (HasHeadedFault p bytes)) file status
      → by_kind kind (RankSays on_rank name p file s lines)
      (HeadedSays on_tree name p file s lines)
      → s ≡ status
  kind_always true name file status s lines why (inl h) =
      one_cause tree_limit BadTree (HasRankFault p) file s status
      (rank_cause name p file s lines h) why
  kind_always true name file status s lines why (inr (t, gives, does)) =
      absurd (not_bad_rank p file t status gives why)
  kind_always false name file status s lines why (inl h) =
      one_cause tree_limit BadTree (HasHeadedFault p) file s status
      (headed_cause name p file s lines h) why
  kind_always false name file status s lines why (inr (t, gives, does)) =
      absurd (not_bad_headed p file t status gives why)

  either_always : (held : List ℕ → Told) (name : List ℕ) → IsSome (held name)
      → Always (OnEither on_tree on_rank held name p) (InEither held name p)
  either_always held name told status s lines (file, is, why) (other, there, said) =
      let same : other ≡ file = same_file (held name) file other told is there in
      kind_always (is_ranking file) name file status s lines why
      (subst (λ (b : List ℕ). EitherSays on_tree on_rank name p b s lines) same said)

-- ---- the words of a node

module _ (work : List ℕ → List ℕ → Problem → Status → List (List ℕ) → Type 0)
    (behind : Problem → Status → Type 0) (word other : List ℕ) (p : Problem) where
  node_only : ((inside outside : List ℕ) → Only (work inside outside p) (behind p))
      → Only (OnStart work word other p) (AtNode behind word other p)
  node_only works s lines c (inl bad) = inl (bad.0, bad.1)
  node_only works s lines c (inr (inside, outside, start, does)) =
      inr (inside, outside, start, works inside outside s lines c does)

  node_always : ((inside outside : List ℕ) → Always (work inside outside p) (behind p))
      → Always (OnStart work word other p) (AtNode behind word other p)
  node_always works status s lines (inl why) (inl bad) = bad.0 ∙ sym why.0
  node_always works status s lines (inl why) (inr (inside, outside, start, does)) =
      absurd (why.1 inside outside start)
  node_always works status s lines (inr (inside, outside, start, why)) (inl bad) =
      absurd (bad.1 inside outside start)
  node_always works status s lines (inr (inside, outside, start, why))
      (inr (into, out, begin, does)) = works into out status s lines why does

-- ---- the parts

part_cause : (several : Bool) (name : List ℕ) (p : Problem) (file : List ℕ) (s : Status)
    (lines : List (List ℕ)) → PartFault several name p file s lines
    → FileCause tree_limit BadTree (HasPartFault p) file s
part_cause several name p file TooLong lines h = inl (refl, h.0)
part_cause several name p file BadTree lines h = inr (refl, h.0, (h.1.0, h.1.1, h.1.2))
part_cause several name p file s lines h = absurd h

module _ (held : List ℕ → Told) (p : Problem) where
  -- the first fault is the cause
  pub first_part : (several : Bool) (names : List (List ℕ)) (place : ℕ) (name : List ℕ)
      (ps : List Part) (s : Status) (lines : List (List ℕ)) → place < length names
      → name ≡ get_or names place name → GiveParts held p (take place names) ps
      → PartFaults several held name p s lines → InParts held names p s
  first_part several [] place name ps s lines within is before fault =
      absurd (omega (arith, within))
  first_part several (other ∷ names) zero name ps s lines within is before fault = (
    fault.0,
    subst (λ (n : List ℕ). AreHeld (held n) fault.0) is fault.1,
    inl (part_cause several name p fault.0 s lines fault.2),
  )
  first_part several (other ∷ names) (suc place) name [] s lines within is before fault =
      absurd before
  first_part several (other ∷ names) (suc place) name (part ∷ ps) s lines within is before fault = (
    before.0.0,
    before.0.1,
    inr (
      part,
      before.0.2,
      first_part several names place name ps s lines (omega (arith, within)) is before.1 fault,
    ),
  )

  module _ (once : PartsAreReadOnce) (valid : IsValid p) where
    not_bad_part : (file : List ℕ) (part : Part) (s : Status) → GivesPart p file part
        → FileCause tree_limit BadTree (HasPartFault p) file s → ⊥
    not_bad_part file part s given (inl h) = let a = given.0 in let b =
        h.1 in absurd (omega (arith, a, b))
    not_bad_part file part s given (inr h) =
        let e : ◌≡◌ {A = Result Part trees.Fault} (Ok part) (Err (h.2.0, h.2.1)) =
        once p valid file (Ok part) (Err (h.2.0, h.2.1)) given.1 h.2.2 in cc

    -- no part is at fault if all are given
    pub not_parts : (names : List (List ℕ)) (ps : List Part) (s : Status)
        → ((name : List ℕ) → Contains names name → IsSome (held name)) → InParts held names p s
        → GiveParts held p names ps → ⊥
    not_parts [] ps s told why give = absurd why
    not_parts (name ∷ names) [] s told why give = absurd give
    not_parts (name ∷ names) (part ∷ ps) s told (file, is, inl why) give =
        let same : give.0.0 ≡ file =
        same_file (held name) file give.0.0 (told name (0, omega arith, refl)) is give.0.1 in
        not_bad_part file part s (subst (λ (b : List ℕ). GivesPart p b part) same give.0.2) why
    not_parts (name ∷ names) (part ∷ ps) s told (file, is, inr (q, given, why)) give =
        not_parts names ps s (λ n h. told n (suc h.0, let a = h.1 in omega (arith, a), h.2)) why
        give.1

    -- and one alone is the first
    same_part : (file : List ℕ) (names : List (List ℕ)) (s t : Status)
        → (InParts held names p s → InParts held names p t → s ≡ t)
        → FileCause tree_limit BadTree (HasPartFault p) file s
        ⊎ ((part : Part) × GivesPart p file part × InParts held names p s)
        → FileCause tree_limit BadTree (HasPartFault p) file t
        ⊎ ((part : Part) × GivesPart p file part × InParts held names p t) → s ≡ t
    same_part file names s t rest (inl h) (inl g) =
        one_cause tree_limit BadTree (HasPartFault p) file s t h g
    same_part file names s t rest (inl h) (inr (q, gives, g)) =
        absurd (not_bad_part file q s gives h)
    same_part file names s t rest (inr (q, given, h)) (inl g) =
        absurd (not_bad_part file q t given g)
    same_part file names s t rest (inr (q, given, h)) (inr (r, gives, g)) = rest h g

    one_part : (names : List (List ℕ)) (s t : Status)
        → ((name : List ℕ) → Contains names name → IsSome (held name)) → InParts held names p s
        → InParts held names p t → s ≡ t
    one_part [] s t told why because = absurd why
    one_part (name ∷ names) s t told (file, is, why) (other, there, because) =
        let same : other ≡ file =
        same_file (held name) file other (told name (0, omega arith, refl)) is there in
        same_part file names s t
        (one_part names s t (λ n c. told n (suc c.0, let a = c.1 in omega (arith, a), c.2))) why
        (subst (λ (b : List ℕ). FileCause tree_limit BadTree (HasPartFault p) b t
        ⊎ ((part : Part) × GivesPart p b part × InParts held names p t)) same because)

  module _ (names : List (List ℕ)) (claim : Claim) (tree : Tree) where
    fault_at : (s : Status) (lines : List (List ℕ)) → FirstFault held names p s lines
        → InParts held names p s
    fault_at s lines f =
        first_part (are_several names) names f.place f.name f.parts s lines f.within f.name_is
        f.before f.fault

    merge_only : Only (MergeWork held names p claim tree) (InParts held names p)
    merge_only s lines c (inl f) = fault_at s lines f
    merge_only s lines c (inr (ps, give, inl merged)) = absurd (subst Caused merged.done c)
    merge_only s lines c (inr (ps, give, inr stopped)) =
        elim
        (merge_fault_status (are_several names) (get_or names stopped.place []) stopped.fault s
        lines stopped.says) [
          | inl q ↦ absurd (subst Caused q c)
          | inr q
              ↦ absurd (subst Caused q c)
        ]

    merge_always : PartsAreReadOnce → IsValid p
        → ((name : List ℕ) → Contains names name → IsSome (held name))
        → Always (MergeWork held names p claim tree) (InParts held names p)
    merge_always once valid told status s lines why (inl f) =
        one_part once valid names s status told (fault_at s lines f) why
    merge_always once valid told status s lines why (inr (ps, give, says)) =
        absurd (not_parts once valid names ps status told why give)

-- ---- words that are judged on the problem

token_only : (word : List ℕ) (count : ℕ) (p : Problem)
    → Only (ListingWork word count p) (TokenCause word p)
token_only word count p BadToken lines c h = (refl, h.0)
token_only word count p Done lines c h = absurd c
token_only word count p s lines c h = absurd h

token_always : (word : List ℕ) (count : ℕ) (p : Problem)
    → Always (ListingWork word count p) (TokenCause word p)
token_always word count p status BadToken lines why h = sym why.0
token_always word count p status Done lines why h = absurd (why.1 h.0 h.1)
token_always word count p status s lines why h = absurd h

migration_only : (years : ℕ) (p : Problem) → Only (MigrateWork years p) (MigrationCause years p)
migration_only years p NotMigrated lines c (inl h) = (refl, inl h.0)
migration_only years p NotMigrated lines c (inr h) = (refl, inr (h.1.0, h.1.1))
migration_only years p Done lines c h = absurd c
migration_only years p s lines c h = absurd h

migration_always : (years : ℕ) (p : Problem)
    → Always (MigrateWork years p) (MigrationCause years p)
migration_always years p status NotMigrated lines why h = sym why.0
migration_always years p status Done lines (e, inl has) h = let a =
    h.0 in absurd (let f : false ≡ true = sym a ∙ has in cc)
migration_always years p status Done lines (e, inr at) h = let a =
    h.1 in absurd (let f : None ≡ Some at.0 = sym a ∙ at.1 in cc)
migration_always years p status s lines why h = absurd h

module _ (kind : SpotKind) (name : List ℕ) (budget : ℕ) (p : Problem) (claim : Claim)
    (tree : Tree) where
  name_only : Only (StableWork kind name budget p claim tree) (NameCause kind name p)
  name_only = at (spot_named p kind name) refl
    where
      at : (o : Option Spot) → spot_named p kind name ≡ o
          → Only (NamedWork o budget p claim tree) (NameCause kind name p)
      at None e s lines c h = (h.0, e)
      at (Some spot) e s lines c (inl refusal) = absurd (subst Caused refusal.0 c)
      at (Some spot) e s lines c (inr rest) =
          elim (spot_status spot budget p rest.0 s lines rest.2) [
            | inl q ↦ absurd (subst Caused q c)
            | inr o
                ↦ elim o [
                  | inl q ↦ absurd (subst Caused q c)
                  | inr o
                      ↦ elim o [
                        | inl q ↦ absurd (subst Caused q c)
                        | inr q
                            ↦ absurd (subst Caused q c)
                      ]
                ]
          ]

  name_always : Always (StableWork kind name budget p claim tree) (NameCause kind name p)
  name_always = at (spot_named p kind name) refl
    where
      at : (o : Option Spot) → spot_named p kind name ≡ o
          → Always (NamedWork o budget p claim tree) (NameCause kind name p)
      at None e status s lines why h = h.0 ∙ sym why.0
      at (Some spot) e status s lines why h =
          absurd (let f : None ≡ Some spot = sym why.1 ∙ e in cc)

-- ---- work that has no such cause

module _ (p : Problem) (s : Status) (lines : List (List ℕ)) (c : Caused s) where
  max_plain : MaxWork p s lines → ⊥
  max_plain h = subst Caused (max_status p s lines h) c

  lint_plain : OfSome LintWork p s lines → ⊥
  lint_plain h = subst Caused (lint_status h.0 p s lines h.1) c

  axioms_plain : (units : List (List ℕ)) → AxiomsWork units p s lines → ⊥
  axioms_plain units h =
      elim (names_status units p (first_stranger p units) s lines h)
      [ inl q ↦ subst Caused q c | inr q ↦ subst Caused q c ]

  flows_plain : (units : List (List ℕ)) → FlowsWork units p s lines → ⊥
  flows_plain units h = elim (flows_status units p (first_stranger p units) s lines h) [
    | inl q ↦ subst Caused q c
    | inr o ↦ elim o [ inl q ↦ subst Caused q c | inr q ↦ subst Caused q c ]
  ]

  drawing_plain : PlantGraphWork p s lines → ⊥
  drawing_plain h = subst Caused (plant_graph_status p s lines h) c

  stops_plain : (s ≡ Done) ⊎ ((s ≡ Spent) ⊎ (s ≡ Past)) → ⊥
  stops_plain (inl q) = subst Caused q c
  stops_plain (inr (inl q)) = subst Caused q c
  stops_plain (inr (inr q)) = subst Caused q c

  unclaimed_plain : (s ≡ Done) ⊎ (s ≡ BadClaim) → ⊥
  unclaimed_plain (inl q) = subst Caused q c
  unclaimed_plain (inr q) = subst Caused q c

  ranges_plain : (s ≡ BadClaim) ⊎ ((s ≡ Done) ⊎ (s ≡ NotBest)) → ⊥
  ranges_plain (inl q) = subst Caused q c
  ranges_plain (inr (inl q)) = subst Caused q c
  ranges_plain (inr (inr q)) = subst Caused q c

  claim_plain : (budget : ℕ) (inside outside : List ℕ) (claim : Claim) (tree : Tree)
      → ClaimSays budget inside outside p claim tree s lines → ⊥
  claim_plain budget inside outside claim tree h =
      elim (claim_status budget inside outside p claim tree s lines h)
      [ inl q ↦ subst Caused q c | inr o ↦ stops_plain o ]

-- ---- a table of ranges, a tree or a ranking as an object

not_bad_table : (p : Problem) (file : List ℕ) (rows : List Row) (s : Status)
    → (length file ≤ tree_limit) → read_table p file ≡ Ok rows
    → FileCause tree_limit BadTree (HasTableFault p) file s → ⊥
not_bad_table p file rows s short read (inl h) = let b = h.1 in absurd (omega (arith, short, b))
not_bad_table p file rows s short read (inr h) =
    let e : ◌≡◌ {A = Result (List Row) trees.Fault} (Ok rows) (Err (h.2.0, h.2.1)) =
    sym read ∙ h.2.2 in cc

module _ (p : Problem) (name file : List ℕ) where
  table_cause : (s : Status) (lines : List (List ℕ)) → Caused s → TableSays name p file s lines
      → FileCause tree_limit BadTree (HasTableFault p) file s
  table_cause Done lines c h = absurd c
  table_cause BadTree lines c h = inr (refl, h.0, (h.1.0, h.1.1, h.1.2))
  table_cause TooLong lines c h = inl (refl, h.0)
  table_cause s lines c h = absurd h

  table_always : (status s : Status) (lines : List (List ℕ))
      → FileCause tree_limit BadTree (HasTableFault p) file status
      → TableSays name p file s lines → s ≡ status
  table_always status Done lines why h =
      absurd (not_bad_table p file h.1.0 status h.0 h.1.1 why)
  table_always status BadTree lines why h =
      one_cause tree_limit BadTree (HasTableFault p) file BadTree status
      (table_cause BadTree lines tt h) why
  table_always status TooLong lines why h =
      one_cause tree_limit BadTree (HasTableFault p) file TooLong status
      (table_cause TooLong lines tt h) why
  table_always status s lines why h = absurd h

  any_cause : (kind : Bool) (s : Status) (lines : List (List ℕ)) → Caused s
      → by_kind kind (TableSays name p file s lines)
      (EitherSays JsonWork RankJsonWork name p file s lines)
      → FileCause tree_limit BadTree
      (λ bytes. by_kind kind (HasTableFault p bytes) (HasEitherFault p bytes)) file s
  any_cause true s lines c h = table_cause s lines c h
  any_cause false s lines c h =
      kind_cause JsonWork RankJsonWork p
      (λ t s lines c h. unclaimed_plain p s lines c (json_status p t s lines h))
      (λ t s lines c h. unclaimed_plain p s lines c (rank_json_status p t s lines h))
      (is_ranking file) name file s lines c h

  any_kind_always : (kind : Bool) (status s : Status) (lines : List (List ℕ))
      → FileCause tree_limit BadTree
      (λ bytes. by_kind kind (HasTableFault p bytes) (HasEitherFault p bytes)) file status
      → by_kind kind (TableSays name p file s lines)
      (EitherSays JsonWork RankJsonWork name p file s lines)
      → s ≡ status
  any_kind_always true status s lines why h = table_always status s lines why h
  any_kind_always false status s lines why h =
      kind_always JsonWork RankJsonWork p (is_ranking file) name file status s lines why h

any_only : (held : List ℕ → Told) (name : List ℕ) (p : Problem)
    → Only (OnAny held name p) (InAny held name p)
any_only held name p s lines c (file, is, said) =
    (file, is, any_cause p name file (is_table file) s lines c said)

any_always : (held : List ℕ → Told) (name : List ℕ) (p : Problem) → IsSome (held name)
    → Always (OnAny held name p) (InAny held name p)
any_always held name p told status s lines (file, is, why) (other, there, said) =
    let same : other ≡ file = same_file (held name) file other told is there in
    any_kind_always p name file (is_table file) status s lines why
    (subst (λ (b : List ℕ). AnySays name p b s lines) same said)

-- ---- all commands

module _ (held : List ℕ → Told) where
  pub command_only : (command : Command)
      → Only (CommandAnswers held command) (CauseOf held command)
  command_only (Max file) = file_only held file MaxWork NoCause max_plain
  command_only (Linting file) = λ s lines c h.
      file_only held file (OfSome LintWork) NoCause lint_plain s lines c
      (on_file LintWork held file s lines h)
  command_only (Axioms file units) =
      file_only held file (AxiomsWork units) NoCause
      (λ p s lines c. axioms_plain p s lines c units)
  command_only (Flows file units) =
      file_only held file (FlowsWork units) NoCause (λ p s lines c. flows_plain p s lines c units)
  command_only (Listing file after count) =
      file_only held file (ListingWork after count) (TokenCause after) (token_only after count)
  command_only (Make number units) = λ s lines c h. absurd (subst Caused h.0 c)
  command_only (Migrate file years) =
      file_only held file (MigrateWork years) (MigrationCause years) (migration_only years)
  command_only (Editing file script) =
      file_only held file (OnScript EditWork held script) (InScript held script)
      (script_only EditWork (λ p es s lines h. h.0) held script)
  command_only (Undoing file script) =
      file_only held file (OnScript UndoWork held script) (InScript held script)
      (script_only UndoWork (λ p es s lines h. h.0) held script)
  command_only (Checking file tree) =
      file_only held file (OnHeaded CheckWork held tree) (InHeaded NoCause held tree)
      (λ p. headed_only CheckWork NoCause held tree p (check_plain p))
  command_only (RankChecking file rank) =
      file_only held file (OnRank held rank) (InRank held rank) (rank_only held rank)
  command_only (Table file tree) =
      file_only held file (OnHeaded (AnyHead (OnNetwork TableWork)) held tree)
      (InHeaded NoCause held tree)
      (λ p. headed_only (AnyHead (OnNetwork TableWork)) NoCause held tree p
      (λ t s lines c h. unclaimed_plain p s lines c
      (network_status TableWork table_status p t.claim t.tree s lines h)))
  command_only (Splitting file tree) =
      file_only held file (OnTree SplitWork held tree) (InTree NoCause held tree)
      (λ p. tree_only SplitWork NoCause held tree p
      (λ claim its s lines c h. unclaimed_plain p s lines c
      (split_status p claim its s lines h)))
  command_only (Expanding file plan) =
      file_only held file (OnPlan ExpandWork held plan) (InPlan held plan)
      (plan_only ExpandWork (λ p its s lines c h. subst Caused h.0 c) held plan)
  command_only (Drawing file) = file_only held file PlantGraphWork NoCause drawing_plain
  command_only (DrawingNetwork file tree scene) =
      let drawn = NetworkGraphWork scene in
      file_only held file (OnEither (AnyHead (OnNetwork drawn)) (RankGraphWork scene) held tree)
      (InEither held tree)
      (λ p. either_only (AnyHead (OnNetwork drawn)) (RankGraphWork scene) p
      (λ t s lines c h. unclaimed_plain p s lines c
      (network_status drawn (graph_status scene) p t.claim t.tree s lines h))
      (λ t s lines c h. unclaimed_plain p s lines c (rank_graph_status scene p t s lines h)) held
      tree)
  command_only (Reporting file tree) = λ s lines c h.
      file_only held file (OfSome (ReportsOn held tree)) (InEither held tree)
      (λ p s lines c said. let ms = measures_of said.0 in
      either_only (ReportWork ms) (RankReportWork ms) p
      (λ t s lines c h. unclaimed_plain p s lines c (report_status ms p t s lines h))
      (λ t s lines c h. unclaimed_plain p s lines c (rank_report_status ms p t s lines h))
      held tree s lines c said.1) s lines c (on_file (ReportsOn held tree) held file s lines h)
  command_only (Json file tree) =
      file_only held file (OnAny held tree) (InAny held tree) (any_only held tree)
  command_only (Ranging file tree kind name budget) =
      file_only held file (OnHeaded (AnyHead (StableWork kind name budget)) held tree)
      (InHeaded (NameCause kind name) held tree)
      (λ p. headed_only (AnyHead (StableWork kind name budget)) (NameCause kind name) held tree p
      (λ t. name_only kind name budget p t.claim t.tree))
  command_only (RangingAll file tree budget) =
      file_only held file (OnHeaded (AnyHead (OnNetwork (RangesWork budget))) held tree)
      (InHeaded NoCause held tree)
      (λ p. headed_only (AnyHead (OnNetwork (RangesWork budget))) NoCause held tree p
      (λ t s lines c h. ranges_plain p s lines c
      (table_of_ranges_status budget p t.claim t.tree s lines h)))
  command_only (Planning file plan budget) =
      file_only held file (OnPlan (PeriodsWork budget) held plan) (InPlan held plan)
      (plan_only (PeriodsWork budget)
      (λ p its s lines c h. stops_plain p s lines c (periods_status budget p its s lines h))
      held plan)
  command_only (Parting file inside outside budget) =
      file_only held file (PartWork budget inside outside) (AtNode NoCause inside outside)
      (λ p. node_only (PartSays budget None) NoCause inside outside p
      (λ into out s lines c h. stops_plain p s lines c
      (part_status budget None into out p s lines h)))
  command_only (PartingAgainst file inside outside budget tree) =
      file_only held file (AgainstWork budget held tree inside outside)
      (AtNode (InTree NoCause held tree) inside outside)
      (λ p. node_only (λ into out. OnTree (ClaimSays budget into out) held tree)
      (InTree NoCause held tree) inside outside p
      (λ into out. tree_only (ClaimSays budget into out) NoCause held tree p
      (λ claim its s lines c h. claim_plain p s lines c budget into out claim its h)))
  command_only (Merging file tree parts) =
      file_only held file (OnTree (MergeWork held parts) held tree)
      (InTree (InParts held parts) held tree)
      (λ p. tree_only (MergeWork held parts) (InParts held parts) held tree p
      (merge_only held p parts))
  command_only (Solving file budget) =
      file_only held file (SolveWork budget) NoCause
      (λ p s lines c h. stops_plain p s lines c (solve_status budget p s lines h))
  command_only (Showing file budget) = λ s lines c h.
      file_only held file (OfSome (ShowWork budget)) NoCause
      (λ p s lines c said. stops_plain p s lines c
      (show_status budget said.0 p s lines said.1)) s lines c
      (on_file (ShowWork budget) held file s lines h)
  command_only (Ranking file count budget) =
      file_only held file (RankWork count budget) NoCause
      (λ p s lines c h. stops_plain p s lines c (rank_status count budget p s lines h))
  command_only (Alternatives file count budget) =
      file_only held file (AlternatesWork count budget) NoCause
      (λ p s lines c h. stops_plain p s lines c (alternatives_status count budget p s lines h))
  command_only (Trial number units budget) =
      λ s lines c h. stops_plain (generated number units) s lines c
      (search_status budget (generated number units) s lines h)
  command_only (Telling text) = λ s lines c h. absurd (subst Caused h.0 c)

  -- what has no cause of its own after the file
  alone : (file : List ℕ) (work : Problem → Status → List (List ℕ) → Type 0) → IsSome (held file)
      → Always (OnFile work held file) (InFile NoCause held file)
  alone file work told =
      file_always held file work NoCause (λ p valid status s lines none h. absurd none) told

  beside_tree : (file tree : List ℕ)
      (work : Problem → Claim → Tree → Status → List (List ℕ) → Type 0) → IsSome (held file)
      → IsSome (held tree)
      → Always (OnFile (OnTree work held tree) held file)
      (InFile (InTree NoCause held tree) held file)
  beside_tree file tree work told its =
      file_always held file (OnTree work held tree) (InTree NoCause held tree)
      (λ p valid. tree_always work NoCause held tree p
      (λ claim nodes status s lines none h. absurd none) its) told

  beside_headed : (file tree : List ℕ)
      (work : Problem → trees.HeadedCertificate → Status → List (List ℕ) → Type 0)
      → IsSome (held file) → IsSome (held tree)
      → Always (OnFile (OnHeaded work held tree) held file)
      (InFile (InHeaded NoCause held tree) held file)
  beside_headed file tree work told its =
      file_always held file (OnHeaded work held tree) (InHeaded NoCause held tree)
      (λ p valid. headed_always work NoCause held tree p
      (λ t status s lines none h. absurd none) its) told

  pub command_always : PartsAreReadOnce → (command : Command) → AreTold held command
      → Always (CommandAnswers held command) (CauseOf held command)
  command_always once (Max file) told = alone file MaxWork (told file refl)
  command_always once (Linting file) told = λ status s lines why h.
      alone file (OfSome LintWork) (told file refl) status s lines why
      (on_file LintWork held file s lines h)
  command_always once (Axioms file units) told = alone file (AxiomsWork units) (told file refl)
  command_always once (Flows file units) told = alone file (FlowsWork units) (told file refl)
  command_always once (Listing file after count) told =
      file_always held file (ListingWork after count) (TokenCause after)
      (λ p valid. token_always after count p) (told file refl)
  command_always once (Make number units) told = λ status s lines none h. absurd none
  command_always once (Migrate file years) told =
      file_always held file (MigrateWork years) (MigrationCause years)
      (λ p valid. migration_always years p) (told file refl)
  command_always once (Editing file script) told =
      file_always held file (OnScript EditWork held script) (InScript held script)
      (λ p valid. script_always EditWork (λ p es s lines h. h.0) held script p
      (told script (inr refl))) (told file (inl refl))
  command_always once (Undoing file script) told =
      file_always held file (OnScript UndoWork held script) (InScript held script)
      (λ p valid. script_always UndoWork (λ p es s lines h. h.0) held script p
      (told script (inr refl))) (told file (inl refl))
  command_always once (Checking file tree) told =
      beside_headed file tree CheckWork (told file (inl refl)) (told tree (inr refl))
  command_always once (RankChecking file rank) told =
      file_always held file (OnRank held rank) (InRank held rank)
      (λ p valid. rank_always held rank p (told rank (inr refl))) (told file (inl refl))
  command_always once (Table file tree) told =
      beside_headed file tree (AnyHead (OnNetwork TableWork)) (told file (inl refl))
      (told tree (inr refl))
  command_always once (Splitting file tree) told =
      beside_tree file tree SplitWork (told file (inl refl)) (told tree (inr refl))
  command_always once (Expanding file plan) told =
      file_always held file (OnPlan ExpandWork held plan) (InPlan held plan)
      (λ p valid. plan_always ExpandWork (λ p its s lines c h. subst Caused h.0 c) held plan p
      (told plan (inr refl))) (told file (inl refl))
  command_always once (Drawing file) told = alone file PlantGraphWork (told file refl)
  command_always once (DrawingNetwork file tree scene) told =
      let drawn = NetworkGraphWork scene in
      file_always held file
      (OnEither (AnyHead (OnNetwork drawn)) (RankGraphWork scene) held tree)
      (InEither held tree)
      (λ p valid. either_always (AnyHead (OnNetwork drawn)) (RankGraphWork scene) p held tree
      (told tree (inr refl))) (told file (inl refl))
  command_always once (Reporting file tree) told = λ status s lines why h.
      file_always held file (OfSome (ReportsOn held tree)) (InEither held tree)
      (λ p valid status s lines why said. let ms = measures_of said.0 in
      either_always (ReportWork ms) (RankReportWork ms) p held tree (told tree (inr refl)) status s
      lines why said.1)
      (told file (inl refl)) status s lines why (on_file (ReportsOn held tree) held file s lines h)
  command_always once (Json file tree) told =
      file_always held file (OnAny held tree) (InAny held tree)
      (λ p valid. any_always held tree p (told tree (inr refl)))
      (told file (inl refl))
  command_always once (Ranging file tree kind name budget) told =
      file_always held file (OnHeaded (AnyHead (StableWork kind name budget)) held tree)
      (InHeaded (NameCause kind name) held tree)
      (λ p valid. headed_always (AnyHead (StableWork kind name budget)) (NameCause kind name) held
      tree p (λ t. name_always kind name budget p t.claim t.tree) (told tree (inr refl)))
      (told file (inl refl))
  command_always once (RangingAll file tree budget) told =
      beside_headed file tree (AnyHead (OnNetwork (RangesWork budget))) (told file (inl refl))
      (told tree (inr refl))
  command_always once (Planning file plan budget) told =
      file_always held file (OnPlan (PeriodsWork budget) held plan) (InPlan held plan)
      (λ p valid. plan_always (PeriodsWork budget)
      (λ p its s lines c h. stops_plain p s lines c (periods_status budget p its s lines h))
      held plan p (told plan (inr refl))) (told file (inl refl))
  command_always once (Parting file inside outside budget) told =
      file_always held file (PartWork budget inside outside) (AtNode NoCause inside outside)
      (λ p valid. node_always (PartSays budget None) NoCause inside outside p
      (λ into out status s lines none h. absurd none)) (told file refl)
  command_always once (PartingAgainst file inside outside budget tree) told =
      file_always held file (AgainstWork budget held tree inside outside)
      (AtNode (InTree NoCause held tree) inside outside)
      (λ p valid. node_always (λ into out. OnTree (ClaimSays budget into out) held tree)
      (InTree NoCause held tree) inside outside p
      (λ into out. tree_always (ClaimSays budget into out) NoCause held tree p
      (λ claim its status s lines none h. absurd none) (told tree (inr refl))))
      (told file (inl refl))
  command_always once (Merging file tree parts) told =
      file_always held file (OnTree (MergeWork held parts) held tree)
      (InTree (InParts held parts) held tree)
      (λ p valid. tree_always (MergeWork held parts) (InParts held parts) held tree p
      (λ claim its. merge_always held p parts claim its once valid
      (λ name h. told name (inr (inr h)))) (told tree (inr (inl refl)))) (told file (inl refl))
  command_always once (Solving file budget) told = alone file (SolveWork budget) (told file refl)
  command_always once (Showing file budget) told = λ status s lines why h.
      alone file (OfSome (ShowWork budget)) (told file refl) status s lines why
      (on_file (ShowWork budget) held file s lines h)
  command_always once (Ranking file count budget) told =
      alone file (RankWork count budget) (told file refl)
  command_always once (Alternatives file count budget) told =
      alone file (AlternatesWork count budget) (told file refl)
  command_always once (Trial number units budget) told = λ status s lines none h. absurd none
  command_always once (Telling text) told = λ status s lines none h. absurd none

-- ---- the call

-- each status that has a cause comes just if it is so, unless reading, an output or memory fails
module _ (once : PartsAreReadOnce) (old new : ShelfState) (words : List (List ℕ))
    (before after : OutputsState) where
  pub exact_ends : (s : Status) → Ends (WordsSay old new words) before after s
      → (command : Command)
      → command_of words ≡ Some command → EndsExactly old.held command s
  exact_ends ReadFault e command is status named =
      record {
        only = λ q. absurd (subst Caused (sym q) (by_cases status named));
        always =
            λ told cause. inr (inl refl);
      }
  exact_ends WriteFault e command is status named =
      record {
        only = λ q. absurd (subst Caused (sym q) (by_cases status named));
        always =
            λ told cause. inr (inr (inl refl));
      }
  exact_ends Memory e command is status named =
      record {
        only = λ q. absurd (subst Caused (sym q) (by_cases status named));
        always =
            λ told cause. inr (inr (inr (inl refl)));
      }
  exact_ends s e command is status named =
      let told = subst (λ (f : Option Command). AnswersTo old.held f s e.1.0) is e.1.1 in
      record {
        only =
            λ q. subst (CauseOf old.held command) q
            (command_only old.held command s e.1.0 (subst Caused (sym q) (by_cases status named))
            told);
        always =
            λ all cause. inl (command_always old.held once command all status s e.1.0 cause told);
      }
