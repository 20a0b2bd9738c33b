-- The statuses with which a call may end.
use Rattle.std.specs.List.{Contains}
use Rattle.std.proofs.Common.{Bool, sym, ◌∙◌, ◌≡◌, ◌⊎◌, ◌<◌, ◌≤◌, ◌∷◌, [], Some, None, IsSomeAnd}
use Rattle.std.proofs.Common.{true, false, refl, inl, inr, List, ℕ, Option, subst, ap, arith}
use Rattle.std.proofs.Common.{length}
use Rattle.structure_commands.specs.problem_rules.Problem.{Problem}
use Rattle.structure_commands.specs.edit_rules.Edit.{Edit}
use Rattle.structure_commands.specs.pns_rules.declared.verdict.Verdict.{Verdict}
use Rattle.structure_commands.specs.pns_rules.declared.verdict.Verdict.TheVariants.{Meets, Breaks}
use Rattle.structure_commands.specs.text_rules.Outside.{HasRisen, Told, IsToldAnd}
use Rattle.structure_commands.specs.text_rules.State.{ShelfState, OutputsState}
use Rattle.structure_commands.specs.studio_rules.Command.{Command, Max, Axioms, Flows, Listing}
use Rattle.structure_commands.specs.studio_rules.Command.{Linting, Make}
use Rattle.structure_commands.specs.studio_rules.Command.{Migrate}
use Rattle.structure_commands.specs.studio_rules.Command.{Editing, Undoing, Checking, RankChecking}
use Rattle.structure_commands.specs.studio_rules.Command.{Solving, Showing}
use Rattle.structure_commands.specs.studio_rules.Command.{Alternatives}
use Rattle.structure_commands.specs.studio_rules.Command.{Ranking, Trial, Telling, command_of}
use Rattle.structure_commands.specs.studio_rules.Command.{IsFileOf, IsFileWord}
use Rattle.structure_commands.specs.studio_rules.Command.{Table, Splitting, Expanding, Drawing}
use Rattle.structure_commands.specs.studio_rules.Command.{DrawingNetwork}
use Rattle.structure_commands.specs.studio_rules.Command.{Reporting, Json, Ranging, Planning}
use Rattle.structure_commands.specs.studio_rules.Command.{Parting}
use Rattle.structure_commands.specs.studio_rules.Command.{PartingAgainst}
use Rattle.structure_commands.specs.studio_rules.Command.{Merging, RangingAll}
use Rattle.structure_commands.specs.studio_rules.Reading.{AreHeld, FileFault, file_limit}
use Rattle.structure_commands.specs.studio_rules.Max.{MaxWork}
use Rattle.structure_commands.specs.studio_rules.Lint.{LintWork}
use Rattle.structure_commands.specs.studio_rules.Listing.{ListingWork}
use Rattle.structure_commands.specs.studio_rules.Migrate.{MigrateWork}
use Rattle.structure_commands.specs.studio_rules.Flows.{FlowNamesSay, UnitsSay, FlowsSay}
use Rattle.structure_commands.specs.studio_rules.Script.{ScriptFault, OnScript}
use Rattle.structure_commands.specs.studio_rules.Plan.{PlanFileFault, OnPlan}
use Rattle.structure_commands.specs.studio_rules.Expand.{ExpandWork}
use Rattle.structure_commands.specs.plan_rules.Plan.{Plan}
use Rattle.structure_commands.specs.studio_rules.Edits.{EditWork, UndoWork}
use Rattle.structure_commands.specs.tree_rules.Claim.{Claim, Network}
use Rattle.structure_commands.specs.tree_rules.Accepted.{Tree}
use Rattle.structure_commands.specs.studio_rules.TreeFile.{TreeFault, OnTree, tree_limit}
use Rattle.structure_commands.specs.tree_text_rules.Read.{HeadedCertificate}
use Rattle.structure_commands.specs.studio_rules.HeadedFile.{AnyHead, HeadedFault, HeadedSays}
use Rattle.structure_commands.specs.studio_rules.HeadedFile.{OnHeaded}
use Rattle.structure_commands.specs.studio_rules.Check.{CheckWork}
use Rattle.structure_commands.specs.rank_rules.Text.{Text}
use Rattle.structure_commands.specs.studio_rules.Rank as rankings
use Rattle.structure_commands.specs.studio_rules.Rank.{RankWork}
use Rattle.structure_commands.specs.studio_rules.Alternates.{AlternatesHold, AlternatesWork}
use Rattle.structure_commands.specs.studio_rules.Rankcheck.{RankFault, RankcheckWork, FilesListBest}
use Rattle.structure_commands.specs.studio_rules.Rankcheck.{AcceptedAreBest}
use Rattle.structure_commands.specs.studio_rules.Network.{OnNetwork, ClaimRefusal}
use Rattle.structure_commands.specs.studio_rules.Table.{TableWork}
use Rattle.structure_commands.specs.report_rules.Measures.{Measures, measures_of}
use Rattle.structure_commands.specs.studio_rules.Report.{ReportWork}
use Rattle.structure_commands.specs.studio_rules.Json.{JsonWork}
use Rattle.structure_commands.specs.studio_rules.RankReport.{RankReportWork}
use Rattle.structure_commands.specs.studio_rules.RankJson.{RankJsonWork}
use Rattle.structure_commands.specs.studio_rules.RankGraph.{RankGraphWork}
use Rattle.structure_commands.specs.studio_rules.TextFile.{by_kind, RankSays, EitherSays, OnEither}
use Rattle.structure_commands.specs.studio_rules.RangesJson.{TableSays, OnAny}
use Rattle.structure_commands.specs.report_rules.RangeTable.{is_table}
use Rattle.structure_commands.specs.rank_rules.Headed.{is_ranking}
use Rattle.structure_commands.specs.studio_rules.Graph.{PlantGraphWork, NetworkGraphWork}
use Rattle.structure_commands.specs.studio_rules.Split.{SplitWork}
use Rattle.structure_commands.specs.studio_rules.PartFile.{PartFault, FirstFault, are_several}
use Rattle.structure_commands.specs.studio_rules.Merge.{MergeWork, MergeSays, FaultSays}
use Rattle.structure_commands.specs.tree_text_rules.declared.merge_fault.MergeFault.{MergeFault}
use Rattle.structure_commands.specs.tree_text_rules.declared.merge_fault.MergeFault.TheVariants as merging
use Rattle.structure_commands.specs.tree_rules.declared.refusal.Refusal.TheVariants as refusals
use Rattle.structure_commands.specs.studio_rules.Start.{OnStart}
use Rattle.structure_commands.specs.studio_rules.Part.{PartSays, PartWork, ClaimSays, AgainstWork}
use Rattle.structure_commands.specs.tree_rules.Claim.{network, infeasible, unknown}
use Rattle.structure_commands.specs.studio_rules.Periods.{PeriodsWork}
use Rattle.structure_commands.specs.report_rules.declared.spot.Spot.{Spot}
use Rattle.structure_commands.specs.report_rules.declared.spot.SpotKind.{SpotKind}
use Rattle.structure_commands.specs.studio_rules.Stable.{spot_named, SpotWork, NamedWork}
use Rattle.structure_commands.specs.studio_rules.Stable.{StableWork}
use Rattle.structure_commands.specs.studio_rules.StableTable.{RangesWork}
use Rattle.structure_commands.specs.studio_rules.Best.{FilesClaimBest, AcceptedIsBest}
use Rattle.structure_commands.specs.tree_rules.Tail.{Tail, whole, spent, past}
use Rattle.structure_commands.specs.problem_rules.Generated.{generated}
use Rattle.structure_commands.specs.studio_rules.Solve.{PlainWork, SolveWork, Holds, status_of}
use Rattle.structure_commands.specs.studio_rules.Solve.{CanFinish}
use Rattle.structure_commands.specs.studio_rules.Show.{ShowWork}
use Rattle.structure_commands.specs.studio_rules.Summary.{SummaryWork}
use Rattle.structure_commands.specs.studio_rules.Axioms.{NamesSay, VerdictSays, first_stranger}
use Rattle.structure_commands.specs.studio_rules.Ending.{Ends, IsOneOf, HasFault}
use Rattle.structure_commands.specs.studio_rules.Answers.{AnswersTo, CommandAnswers, WordsSay}
use Rattle.structure_commands.specs.studio_rules.Answers.{IsReadWithin}
use Rattle.structure_commands.specs.studio_rules.Answers.{IsUndisturbed, IsNotStopped, statuses_of}
use Rattle.structure_commands.specs.studio_rules.Answers.{first_file}
use Rattle.structure_commands.specs.studio_rules.declared.scene.Scene.{Scene}
use Rattle.structure_commands.specs.studio_rules.declared.status.Status.{Status}
use Rattle.structure_commands.specs.studio_rules.declared.status.Status.TheVariants.{Done, Refused}
use Rattle.structure_commands.specs.studio_rules.declared.status.Status.TheVariants.{Usage}
use Rattle.structure_commands.specs.studio_rules.declared.status.Status.TheVariants.{BadProblem}
use Rattle.structure_commands.specs.studio_rules.declared.status.Status.TheVariants.{Past, Spent}
use Rattle.structure_commands.specs.studio_rules.declared.status.Status.TheVariants.{ReadFault}
use Rattle.structure_commands.specs.studio_rules.declared.status.Status.TheVariants.{WriteFault}
use Rattle.structure_commands.specs.studio_rules.declared.status.Status.TheVariants.{Memory}
use Rattle.structure_commands.specs.studio_rules.declared.status.Status.TheVariants.{TooLong}
use Rattle.structure_commands.specs.studio_rules.declared.status.Status.TheVariants.{BadToken}
use Rattle.structure_commands.specs.studio_rules.declared.status.Status.TheVariants.{BadTree}
use Rattle.structure_commands.specs.studio_rules.declared.status.Status.TheVariants.{BadEdit}
use Rattle.structure_commands.specs.studio_rules.declared.status.Status.TheVariants.{NotMigrated}
use Rattle.structure_commands.specs.studio_rules.declared.status.Status.TheVariants.{BadPlan}
use Rattle.structure_commands.specs.studio_rules.declared.status.Status.TheVariants.{BadNode}
use Rattle.structure_commands.specs.studio_rules.declared.status.Status.TheVariants.{NoLeaf}
use Rattle.structure_commands.specs.studio_rules.declared.status.Status.TheVariants.{NotBest}
use Rattle.structure_commands.specs.studio_rules.declared.status.Status.TheVariants.{UnknownName}
use Rattle.structure_commands.specs.studio_rules.declared.status.Status.TheVariants.{BadClaim}

-- a file that gives no problem, within the limit or not
fault_status : (name file : List ℕ) (s : Status) (lines : List (List ℕ))
    → FileFault name file s lines → (s ≡ BadProblem)
    ⊎ ((s ≡ TooLong) × (file_limit < length file))
fault_status name file TooLong lines h = inr (refl, h.0)
fault_status name file BadProblem lines h = inl refl
fault_status name file s lines h = absurd h

pub max_status : (p : Problem) (s : Status) (lines : List (List ℕ)) → MaxWork p s lines → s ≡ Done
max_status p Done lines h = refl
max_status p s lines h = absurd h

pub lint_status : (file : List ℕ) (p : Problem) (s : Status) (lines : List (List ℕ))
    → LintWork file p s lines → s ≡ Done
lint_status file p Done lines h = refl
lint_status file p s lines h = absurd h

verdict_status : (p : Problem) (v : Verdict) (s : Status) (lines : List (List ℕ))
    → VerdictSays p v s lines → (s ≡ Done) ⊎ (s ≡ Refused)
verdict_status p Meets s lines h = inl h.0
verdict_status p (Breaks broken at) s lines h = inr h.0

pub names_status : (names : List (List ℕ)) (p : Problem) (o : Option (List ℕ)) (s : Status)
    (lines : List (List ℕ)) → NamesSay names p o s lines → (s ≡ Done) ⊎ (s ≡ Refused)
names_status names p (Some stranger) s lines h = inr h.0
names_status names p None s lines h = verdict_status p h.0 s lines h.2

flows_say_status : (p : Problem) (us : List ℕ) (s : Status) (lines : List (List ℕ))
    → FlowsSay p us s lines → (s ≡ Done) ⊎ (s ≡ Past)
flows_say_status p us Done lines h = inl refl
flows_say_status p us Past lines h = inr refl
flows_say_status p us s lines h = absurd h

three : {s : Status} → (s ≡ Done) ⊎ (s ≡ Past) → (s ≡ Done) ⊎ ((s ≡ Refused) ⊎ (s ≡ Past))
three (inl q) = inl q
three (inr q) = inr (inr q)

units_status : (names : List (List ℕ)) (p : Problem) (v : Verdict) (s : Status)
    (lines : List (List ℕ)) → UnitsSay names p v s lines → (s ≡ Done)
    ⊎ ((s ≡ Refused) ⊎ (s ≡ Past))
units_status names p Meets s lines h = three (flows_say_status p h.0 s lines h.3)
units_status names p (Breaks broken at) s lines h = inr (inl h.0)

pub flows_status : (names : List (List ℕ)) (p : Problem) (o : Option (List ℕ)) (s : Status)
    (lines : List (List ℕ)) → FlowNamesSay names p o s lines → (s ≡ Done)
    ⊎ ((s ≡ Refused) ⊎ (s ≡ Past))
flows_status names p (Some stranger) s lines h = inr (inl h.0)
flows_status names p None s lines h = units_status names p h.0 s lines h.2

listing_status : (word : List ℕ) (count : ℕ) (p : Problem) (s : Status) (lines : List (List ℕ))
    → ListingWork word count p s lines → (s ≡ Done) ⊎ (s ≡ BadToken)
listing_status word count p Done lines h = inl refl
listing_status word count p BadToken lines h = inr refl
listing_status word count p s lines h = absurd h

migrate_status : (years : ℕ) (p : Problem) (s : Status) (lines : List (List ℕ))
    → MigrateWork years p s lines → (s ≡ Done) ⊎ (s ≡ NotMigrated)
migrate_status years p Done lines h = inl refl
migrate_status years p NotMigrated lines h = inr refl
migrate_status years p s lines h = absurd h

script_status : (name : List ℕ) (p : Problem) (file : List ℕ) (s : Status) (lines : List (List ℕ))
    → ScriptFault name p file s lines → (s ≡ BadEdit)
    ⊎ ((s ≡ TooLong) × (file_limit < length file))
script_status name p file TooLong lines h = inr (refl, h.0)
script_status name p file BadEdit lines h = inl refl
script_status name p file s lines h = absurd h

pub plan_status : (name : List ℕ) (p : Problem) (file : List ℕ) (s : Status)
    (lines : List (List ℕ))
    → PlanFileFault name p file s lines → (s ≡ BadPlan)
    ⊎ ((s ≡ TooLong) × (file_limit < length file))
plan_status name p file TooLong lines h = inr (refl, h.0)
plan_status name p file BadPlan lines h = inl refl
plan_status name p file s lines h = absurd h

pub tree_status : (name : List ℕ) (p : Problem) (file : List ℕ) (s : Status)
    (lines : List (List ℕ))
    → TreeFault name p file s lines → (s ≡ BadTree) ⊎ ((s ≡ TooLong) × (tree_limit < length file))
tree_status name p file TooLong lines h = inr (refl, h.0)
tree_status name p file BadTree lines h = inl refl
tree_status name p file s lines h = absurd h

pub headed_status : (name : List ℕ) (p : Problem) (file : List ℕ) (s : Status)
    (lines : List (List ℕ)) → HeadedFault name p file s lines → (s ≡ BadTree)
    ⊎ ((s ≡ TooLong) × (tree_limit < length file))
headed_status name p file TooLong lines h = inr (refl, h.0)
headed_status name p file BadTree lines h = inl refl
headed_status name p file s lines h = absurd h

pub check_status : (p : Problem) (text : HeadedCertificate) (s : Status) (lines : List (List ℕ))
    → CheckWork p text s lines → (s ≡ Done) ⊎ (s ≡ Refused)
check_status p text Done lines h = inl refl
check_status p text Refused lines h = inr refl
check_status p text s lines h = absurd h

rank_file_status : (name : List ℕ) (p : Problem) (file : List ℕ) (s : Status)
    (lines : List (List ℕ)) → RankFault name p file s lines → (s ≡ BadTree)
    ⊎ ((s ≡ TooLong) × (tree_limit < length file))
rank_file_status name p file TooLong lines h = inr (refl, h.0)
rank_file_status name p file BadTree lines h = inl refl
rank_file_status name p file s lines h = absurd h

pub rankcheck_status : (p : Problem) (t : Text) (s : Status) (lines : List (List ℕ))
    → RankcheckWork p t s lines → (s ≡ Done) ⊎ (s ≡ Refused)
rankcheck_status p t Done lines h = inl refl
rankcheck_status p t Refused lines h = inr refl
rankcheck_status p t s lines h = absurd h

pub split_status : (p : Problem) (claim : Claim) (tree : Tree) (s : Status)
    (lines : List (List ℕ))
    → SplitWork p claim tree s lines → (s ≡ Done) ⊎ (s ≡ BadClaim)
split_status p claim tree Done lines h = inl refl
split_status p claim tree BadClaim lines h = inr refl
split_status p claim tree s lines h = absurd h

pub table_status : (p : Problem) (w : Network) (s : Status) (lines : List (List ℕ))
    → TableWork p w s lines → s ≡ Done
table_status p w Done lines h = refl
table_status p w s lines h = absurd h

pub report_status : (ms : Measures) (p : Problem) (text : HeadedCertificate) (s : Status)
    (lines : List (List ℕ)) → ReportWork ms p text s lines → (s ≡ Done) ⊎ (s ≡ BadClaim)
report_status ms p text Done lines h = inl refl
report_status ms p text BadClaim lines h = inr refl
report_status ms p text s lines h = absurd h

pub json_status : (p : Problem) (text : HeadedCertificate) (s : Status) (lines : List (List ℕ))
    → JsonWork p text s lines → (s ≡ Done) ⊎ (s ≡ BadClaim)
json_status p text Done lines h = inl refl
json_status p text BadClaim lines h = inr refl
json_status p text s lines h = absurd h

pub rank_report_status : (ms : Measures) (p : Problem) (t : Text) (s : Status)
    (lines : List (List ℕ))
    → RankReportWork ms p t s lines → (s ≡ Done) ⊎ (s ≡ BadClaim)
rank_report_status ms p t Done lines h = inl refl
rank_report_status ms p t BadClaim lines h = inr refl
rank_report_status ms p t s lines h = absurd h

pub rank_json_status : (p : Problem) (t : Text) (s : Status) (lines : List (List ℕ))
    → RankJsonWork p t s lines → (s ≡ Done) ⊎ (s ≡ BadClaim)
rank_json_status p t Done lines h = inl refl
rank_json_status p t BadClaim lines h = inr refl
rank_json_status p t s lines h = absurd h

-- a claim is refused, or the work on its network is done
pub network_status : (work : Problem → Network → Status → List (List ℕ) → Type 0)
    → ((p : Problem) (w : Network) (s : Status) (lines : List (List ℕ)) → work p w s lines
    → s ≡ Done) → (p : Problem) (claim : Claim) (tree : Tree) (s : Status) (lines : List (List ℕ))
    → OnNetwork work p claim tree s lines → (s ≡ Done) ⊎ (s ≡ BadClaim)
network_status work done p claim tree s lines (inl refusal) = inr refusal.0
network_status work done p claim tree s lines (inr rest) = inl (done p rest.0 s lines rest.2)

tail_status : (tail : Tail) (s : Status) → s ≡ status_of tail → (s ≡ Done)
    ⊎ ((s ≡ Spent) ⊎ (s ≡ Past))
tail_status whole s e = inl e
tail_status (spent next options) s e = inr (inl e)
tail_status (past node nonbasic place) s e = inr (inr e)

plain_status : (budget : ℕ) (p : Problem) (s : Status) (lines : List (List ℕ))
    → PlainWork budget p s lines → (s ≡ Done) ⊎ ((s ≡ Spent) ⊎ (s ≡ Past))
plain_status budget p s lines h = tail_status h.0.tail s h.1

pub solve_status : (budget : ℕ) (p : Problem) (s : Status) (lines : List (List ℕ))
    → SolveWork budget p s lines → (s ≡ Done) ⊎ ((s ≡ Spent) ⊎ (s ≡ Past))
solve_status budget p s lines (inl h) = plain_status budget p s lines h
solve_status budget p s lines (inr h) = inl h.1

pub show_status : (budget : ℕ) (file : List ℕ) (p : Problem) (s : Status)
    (lines : List (List ℕ))
    → ShowWork budget file p s lines → (s ≡ Done) ⊎ ((s ≡ Spent) ⊎ (s ≡ Past))
show_status budget file p s lines (inl h) = tail_status h.0.tail s h.2.0
show_status budget file p s lines (inr h) = inl h.2.0

pub rank_status : (count budget : ℕ) (p : Problem) (s : Status) (lines : List (List ℕ))
    → RankWork count budget p s lines → (s ≡ Done) ⊎ ((s ≡ Spent) ⊎ (s ≡ Past))
rank_status count budget p s lines h = tail_status h.0.tail s h.1

pub alternatives_status : (count budget : ℕ) (p : Problem) (s : Status) (lines : List (List ℕ))
    → AlternatesWork count budget p s lines → (s ≡ Done) ⊎ ((s ≡ Spent) ⊎ (s ≡ Past))
alternatives_status count budget p s lines h = tail_status h.0.tail s h.1

pub search_status : (budget : ℕ) (p : Problem) (s : Status) (lines : List (List ℕ))
    → SummaryWork budget p s lines → (s ≡ Done) ⊎ ((s ≡ Spent) ⊎ (s ≡ Past))
search_status budget p Done lines h = inl refl
search_status budget p s lines h = plain_status budget p s lines h

-- the statuses of a command, if its file is within the limit
within_limit : (held : Told) (limit : ℕ) (file : List ℕ)
    → IsToldAnd held (λ told. length told ≤ limit) → AreHeld held file → limit < length file → ⊥
within_limit None limit file h is long = absurd h
within_limit (Some None) limit file h is long = absurd h
within_limit (Some (Some told)) limit file h is long = let same =
    ap length is in absurd (omega arith)

edits_status : (work : Problem → List Edit → Status → List (List ℕ) → Type 0)
    (held : List ℕ → Told)
    (name : List ℕ) (p : Problem) (s : Status) (lines : List (List ℕ))
    → ((edits : List Edit) → work p edits s lines → s ≡ Done) → OnScript work held name p s lines
    → IsToldAnd (held name) (λ told. length told ≤ file_limit) → (s ≡ Done) ⊎ (s ≡ BadEdit)
edits_status work held name p s lines done (file, is, inl fault) short =
    elim (script_status name p file s lines fault) [
      | inl q ↦ inr q
      | inr q ↦ absurd (within_limit (held name) file_limit file short is q.1)
    ]
edits_status work held name p s lines done (file, is, inr rest) short =
    inl (done rest.0.edits rest.2)

plans_status : (work : Problem → Plan → Status → List (List ℕ) → Type 0) (held : List ℕ → Told)
    (name : List ℕ) (p : Problem) (s : Status) (lines : List (List ℕ))
    → ((plan : Plan) → work p plan s lines → s ≡ Done) → OnPlan work held name p s lines
    → IsToldAnd (held name) (λ told. length told ≤ file_limit) → (s ≡ Done) ⊎ (s ≡ BadPlan)
plans_status work held name p s lines done (file, is, inl fault) short =
    elim (plan_status name p file s lines fault) [
      | inl q ↦ inr q
      | inr q ↦ absurd (within_limit (held name) file_limit file short is q.1)
    ]
plans_status work held name p s lines done (file, is, inr rest) short = inl (done rest.0 rest.2)

-- end is the status with which the claim, or a node, is refused
trees_status : (end : Status) (work : Problem → Claim → Tree → Status → List (List ℕ) → Type 0)
    → ((p : Problem) (claim : Claim) (tree : Tree) (s : Status) (lines : List (List ℕ))
    → work p claim tree s lines → (s ≡ Done) ⊎ (s ≡ end))
    → (held : List ℕ → Told) (name : List ℕ) (p : Problem) (s : Status) (lines : List (List ℕ))
    → OnTree work held name p s lines → IsToldAnd (held name) (λ told. length told ≤ tree_limit)
    → IsOneOf (Done ∷ end ∷ BadProblem ∷ BadTree ∷ Memory ∷ []) s
trees_status end work status held name p s lines (file, is, inl fault) short =
    elim (tree_status name p file s lines fault) [
      | inl q ↦ inr (inr (inr (inl q)))
      | inr q ↦ absurd (within_limit (held name) tree_limit file short is q.1)
    ]
trees_status end work status held name p s lines (file, is, inr rest) short =
    elim (status p rest.0 rest.1 s lines rest.3) [
      | inl q ↦ inl q
      | inr q ↦ inr (inl q)
    ]

-- the same of trees that may have a head
heads_status : (end : Status)
    (work : Problem → HeadedCertificate → Status → List (List ℕ) → Type 0)
    → ((p : Problem) (text : HeadedCertificate) (s : Status) (lines : List (List ℕ))
    → work p text s lines → (s ≡ Done) ⊎ (s ≡ end))
    → (held : List ℕ → Told) (name : List ℕ) (p : Problem) (s : Status) (lines : List (List ℕ))
    → OnHeaded work held name p s lines → IsToldAnd (held name) (λ told. length told ≤ tree_limit)
    → IsOneOf (Done ∷ end ∷ BadProblem ∷ BadTree ∷ Memory ∷ []) s
heads_status end work status held name p s lines (file, is, inl fault) short =
    elim (headed_status name p file s lines fault) [
      | inl q ↦ inr (inr (inr (inl q)))
      | inr q ↦ absurd (within_limit (held name) tree_limit file short is q.1)
    ]
heads_status end work status held name p s lines (file, is, inr rest) short =
    elim (status p rest.0 s lines rest.2) [
      | inl q ↦ inl q
      | inr q ↦ inr (inl q)
    ]

-- a tree or a ranking; both works end with the same statuses
module _ (on_tree : Problem → HeadedCertificate → Status → List (List ℕ) → Type 0)
    (on_rank : Problem → Text → Status → List (List ℕ) → Type 0)
    (tree_ends : (p : Problem) (text : HeadedCertificate) (s : Status) (lines : List (List ℕ))
    → on_tree p text s lines → (s ≡ Done) ⊎ (s ≡ BadClaim))
    (rank_ends : (p : Problem) (t : Text) (s : Status) (lines : List (List ℕ))
    → on_rank p t s lines → (s ≡ Done) ⊎ (s ≡ BadClaim)) where
  -- the statuses of one file
  by_kind_status : (kind : Bool) (name : List ℕ) (p : Problem) (file : List ℕ) (s : Status)
      (lines : List (List ℕ))
      → by_kind kind (RankSays on_rank name p file s lines)
      (HeadedSays on_tree name p file s lines)
      → (s ≡ Done) ⊎ ((s ≡ BadClaim)
      ⊎ ((s ≡ BadTree) ⊎ ((s ≡ TooLong) × (tree_limit < length file))))
  by_kind_status true name p file s lines (inl fault) =
      inr (inr (rank_file_status name p file s lines fault))
  by_kind_status true name p file s lines (inr (t, gives, work)) =
      elim (rank_ends p t s lines work) [ inl q ↦ inl q | inr q ↦ inr (inl q) ]
  by_kind_status false name p file s lines (inl fault) =
      inr (inr (headed_status name p file s lines fault))
  by_kind_status false name p file s lines (inr (text, gives, work)) =
      elim (tree_ends p text s lines work) [ inl q ↦ inl q | inr q ↦ inr (inl q) ]

  either_status : (held : List ℕ → Told) (name : List ℕ) (p : Problem) (s : Status)
      (lines : List (List ℕ)) → OnEither on_tree on_rank held name p s lines
      → IsToldAnd (held name) (λ told. length told ≤ tree_limit)
      → IsOneOf (Done ∷ BadClaim ∷ BadProblem ∷ BadTree ∷ Memory ∷ []) s
  either_status held name p s lines (file, is, said) short =
      elim (by_kind_status (is_ranking file) name p file s lines said) [
        | inl q ↦ inl q
        | inr (inl q) ↦ inr (inl q)
        | inr (inr (inl q)) ↦ inr (inr (inr (inl q)))
        | inr (inr (inr q)) ↦ absurd (within_limit (held name) tree_limit file short is q.1)
      ]

  -- none of them is that of words without a form
  either_not_usage : (held : List ℕ → Told) (name : List ℕ) (p : Problem)
      (lines : List (List ℕ)) → OnEither on_tree on_rank held name p Usage lines → ⊥
  either_not_usage held name p lines (file, is, said) =
      elim (by_kind_status (is_ranking file) name p file Usage lines said) [
        | inl q ↦ cc
        | inr (inl q) ↦ cc
        | inr (inr (inl q)) ↦ cc
        | inr (inr (inr q)) ↦ let e = q.0 in cc
      ]

-- ---- a table of ranges, a tree or a ranking as an object

any_kind_status : (kind : Bool) (name : List ℕ) (p : Problem) (file : List ℕ) (s : Status)
    (lines : List (List ℕ))
    → by_kind kind (TableSays name p file s lines)
    (EitherSays JsonWork RankJsonWork name p file s lines)
    → (s ≡ Done) ⊎ ((s ≡ BadClaim)
    ⊎ ((s ≡ BadTree) ⊎ ((s ≡ TooLong) × (tree_limit < length file))))
any_kind_status true name p file Done lines h = inl refl
any_kind_status true name p file BadTree lines h = inr (inr (inl refl))
any_kind_status true name p file TooLong lines h = inr (inr (inr (refl, h.0)))
any_kind_status true name p file s lines h = absurd h
any_kind_status false name p file s lines h =
    by_kind_status JsonWork RankJsonWork json_status rank_json_status (is_ranking file) name p file
    s lines h

any_status : (held : List ℕ → Told) (name : List ℕ) (p : Problem) (s : Status)
    (lines : List (List ℕ)) → OnAny held name p s lines
    → IsToldAnd (held name) (λ told. length told ≤ tree_limit)
    → IsOneOf (Done ∷ BadClaim ∷ BadProblem ∷ BadTree ∷ Memory ∷ []) s
any_status held name p s lines (file, is, said) short =
    elim (any_kind_status (is_table file) name p file s lines said) [
      | inl q ↦ inl q
      | inr (inl q) ↦ inr (inl q)
      | inr (inr (inl q)) ↦ inr (inr (inr (inl q)))
      | inr (inr (inr q)) ↦ absurd (within_limit (held name) tree_limit file short is q.1)
    ]

any_not_usage : (held : List ℕ → Told) (name : List ℕ) (p : Problem) (lines : List (List ℕ))
    → OnAny held name p Usage lines → ⊥
any_not_usage held name p lines (file, is, said) =
    elim (any_kind_status (is_table file) name p file Usage lines said) [
      | inl q ↦ cc
      | inr (inl q) ↦ cc
      | inr (inr (inl q)) ↦ cc
      | inr (inr (inr q)) ↦ let e = q.0 in cc
    ]

-- ---- networks drawn and reported

pub plant_graph_status : (p : Problem) (s : Status) (lines : List (List ℕ))
    → PlantGraphWork p s lines → s ≡ Done
plant_graph_status p Done lines h = refl
plant_graph_status p s lines h = absurd h

pub graph_status : (scene : Scene) (p : Problem) (w : Network) (s : Status)
    (lines : List (List ℕ)) → NetworkGraphWork scene p w s lines → s ≡ Done
graph_status scene p w Done lines h = refl
graph_status scene p w s lines h = absurd h

pub rank_graph_status : (scene : Scene) (p : Problem) (t : Text) (s : Status)
    (lines : List (List ℕ)) → RankGraphWork scene p t s lines → (s ≡ Done) ⊎ (s ≡ BadClaim)
rank_graph_status scene p t Done lines h = inl refl
rank_graph_status scene p t BadClaim lines h = inr refl
rank_graph_status scene p t s lines h = absurd h

-- ---- designs

pub periods_status : (budget : ℕ) (p : Problem) (plan : Plan) (s : Status) (lines : List (List ℕ))
    → PeriodsWork budget p plan s lines → (s ≡ Done) ⊎ ((s ≡ Spent) ⊎ (s ≡ Past))
periods_status budget p plan Done lines h = inl refl
periods_status budget p plan s lines h = plain_status budget _ s lines h

-- ---- parts

pub part_status : (budget : ℕ) (known : Option Network) (inside outside : List ℕ) (p : Problem)
    (s : Status) (lines : List (List ℕ)) → PartSays budget known inside outside p s lines
    → (s ≡ Done) ⊎ ((s ≡ Spent) ⊎ (s ≡ Past))
part_status budget known inside outside p s lines h = tail_status h.found.tail s h.status_is

pub claim_status : (budget : ℕ) (inside outside : List ℕ) (p : Problem) (claim : Claim)
    (tree : Tree) (s : Status) (lines : List (List ℕ))
    → ClaimSays budget inside outside p claim tree s lines → (s ≡ BadClaim)
    ⊎ ((s ≡ Done) ⊎ ((s ≡ Spent) ⊎ (s ≡ Past)))
claim_status budget inside outside p (network w) tree s lines (inl refusal) = inl refusal.0
claim_status budget inside outside p (network w) tree s lines (inr rest) =
    inr (part_status budget (Some w) inside outside p s lines rest.1)
claim_status budget inside outside p infeasible tree s lines h =
    inr (part_status budget None inside outside p s lines h)
claim_status budget inside outside p unknown tree s lines h =
    inr (part_status budget None inside outside p s lines h)

-- a part that is not put back
pub merge_fault_status : (several : Bool) (name : List ℕ) (fault : MergeFault) (s : Status)
    (lines : List (List ℕ)) → FaultSays several name fault s lines → (s ≡ BadClaim) ⊎ (s ≡ NoLeaf)
merge_fault_status several name (merging.Tree (refusals.Claim why)) s lines h = inl h.0
merge_fault_status several name (merging.Tree (refusals.Node node why)) s lines h = inl h.0
merge_fault_status several name (merging.Part (refusals.Claim why)) s lines h = inl h.0
merge_fault_status several name (merging.Part (refusals.Node node why)) s lines h = inl h.0
merge_fault_status several name merging.NoLeaf s lines h = inr h.0
merge_fault_status several name fault s lines h = absurd h

part_file_status : (several : Bool) (name : List ℕ) (p : Problem) (file : List ℕ) (s : Status)
    (lines : List (List ℕ)) → PartFault several name p file s lines → (s ≡ BadTree)
    ⊎ ((s ≡ TooLong) × (tree_limit < length file))
part_file_status several name p file TooLong lines h = inr (refl, h.0)
part_file_status several name p file BadTree lines h = inl refl
part_file_status several name p file s lines h = absurd h

merge_status : (held : List ℕ → Told) (names : List (List ℕ)) (p : Problem) (claim : Claim)
    (tree : Tree) (s : Status) (lines : List (List ℕ)) → MergeWork held names p claim tree s lines
    → ((name : List ℕ) → Contains names name
    → IsToldAnd (held name) (λ told. length told ≤ tree_limit)) → (s ≡ Done)
    ⊎ ((s ≡ BadClaim) ⊎ ((s ≡ NoLeaf) ⊎ (s ≡ BadTree)))
merge_status held names p claim tree s lines (inl f) short =
    elim (part_file_status (are_several names) f.name p f.fault.0 s lines f.fault.2) [
      | inl q ↦ inr (inr (inr q))
      | inr q
          ↦ absurd
          (within_limit (held f.name) tree_limit f.fault.0
          (short f.name (f.place, f.within, sym f.name_is)) f.fault.1 q.1)
    ]
merge_status held names p claim tree s lines (inr (ps, give, inl merged)) short = inl merged.done
merge_status held names p claim tree s lines (inr (ps, give, inr stopped)) short =
    elim (merge_fault_status (are_several names) _ stopped.fault s lines stopped.says) [
      | inl q ↦ inr (inl q)
      | inr q ↦ inr (inr (inl q))
    ]

-- ---- ranges

pub spot_status : (spot : Spot) (budget : ℕ) (p : Problem) (w : Network) (s : Status)
    (lines : List (List ℕ)) → SpotWork spot budget p w s lines → (s ≡ Done)
    ⊎ ((s ≡ Spent) ⊎ ((s ≡ Past) ⊎ (s ≡ NotBest)))
spot_status spot budget p w Done lines h = inl refl
spot_status spot budget p w Spent lines h = inr (inl refl)
spot_status spot budget p w Past lines h = inr (inr (inl refl))
spot_status spot budget p w NotBest lines h = inr (inr (inr refl))
spot_status spot budget p w s lines h = absurd h

stable_status : (spot : Option Spot) (budget : ℕ) (p : Problem) (claim : Claim) (tree : Tree)
    (s : Status) (lines : List (List ℕ)) → NamedWork spot budget p claim tree s lines
    → (s ≡ UnknownName)
    ⊎ ((s ≡ BadClaim) ⊎ ((s ≡ Done) ⊎ ((s ≡ Spent) ⊎ ((s ≡ Past) ⊎ (s ≡ NotBest)))))
stable_status None budget p claim tree s lines h = inl h.0
stable_status (Some spot) budget p claim tree s lines (inl refusal) = inr (inl refusal.0)
stable_status (Some spot) budget p claim tree s lines (inr rest) =
    inr (inr (spot_status spot budget p rest.0 s lines rest.2))

ranges_status : (budget : ℕ) (p : Problem) (w : Network) (s : Status) (lines : List (List ℕ))
    → RangesWork budget p w s lines → (s ≡ Done) ⊎ (s ≡ NotBest)
ranges_status budget p w Done lines h = inl refl
ranges_status budget p w NotBest lines h = inr refl
ranges_status budget p w s lines h = absurd h

pub table_of_ranges_status : (budget : ℕ) (p : Problem) (claim : Claim) (tree : Tree) (s : Status)
    (lines : List (List ℕ)) → OnNetwork (RangesWork budget) p claim tree s lines → (s ≡ BadClaim)
    ⊎ ((s ≡ Done) ⊎ (s ≡ NotBest))
table_of_ranges_status budget p claim tree s lines (inl refusal) = inl refusal.0
table_of_ranges_status budget p claim tree s lines (inr rest) =
    inr (ranges_status budget p rest.0 s lines rest.2)

command_status : (held : List ℕ → Told) (command : Command) (s : Status) (lines : List (List ℕ))
    → CommandAnswers held command s lines
    → ((name : List ℕ) (limit : ℕ) → IsReadWithin command name limit
    → IsToldAnd (held name) (λ told. length told ≤ limit)) → IsOneOf (statuses_of command) s
command_status held (Max name) s lines (file, is, inl fault) short =
    elim (fault_status name file s lines fault) [
      | inl q ↦ inr (inl q)
      | inr q
          ↦ absurd
          (within_limit (held name) file_limit file (short name file_limit (refl, refl)) is q.1)
    ]
command_status held (Max name) s lines (file, is, inr work) short =
    inl (max_status work.0 s lines work.2)
command_status held (Linting name) s lines (file, is, inl fault) short =
    elim (fault_status name file s lines fault) [
      | inl q ↦ inr (inl q)
      | inr q
          ↦ absurd
          (within_limit (held name) file_limit file (short name file_limit (refl, refl)) is q.1)
    ]
command_status held (Linting name) s lines (file, is, inr work) short =
    inl (lint_status file work.0 s lines work.2)
command_status held (Axioms name units) s lines (file, is, inl fault) short =
    elim (fault_status name file s lines fault) [
      | inl q ↦ inr (inr (inl q))
      | inr q
          ↦ absurd
          (within_limit (held name) file_limit file (short name file_limit (refl, refl)) is q.1)
    ]
command_status held (Axioms name units) s lines (file, is, inr work) short =
    elim (names_status units work.0 (first_stranger work.0 units) s lines work.2) [
      | inl q ↦ inl q
      | inr q ↦ inr (inl q)
    ]
command_status held (Flows name units) s lines (file, is, inl fault) short =
    elim (fault_status name file s lines fault) [
      | inl q ↦ inr (inr (inr (inl q)))
      | inr q
          ↦ absurd
          (within_limit (held name) file_limit file (short name file_limit (refl, refl)) is q.1)
    ]
command_status held (Flows name units) s lines (file, is, inr work) short =
    elim (flows_status units work.0 (first_stranger work.0 units) s lines work.2) [
      | inl q ↦ inl q
      | inr o ↦ elim o [ inl q ↦ inr (inl q) | inr q ↦ inr (inr (inl q)) ]
    ]
command_status held (Listing name after count) s lines (file, is, inl fault) short =
    elim (fault_status name file s lines fault) [
      | inl q ↦ inr (inr (inl q))
      | inr q
          ↦ absurd
          (within_limit (held name) file_limit file (short name file_limit (refl, refl)) is q.1)
    ]
command_status held (Listing name after count) s lines (file, is, inr work) short =
    elim (listing_status after count work.0 s lines work.2) [
      | inl q ↦ inl q
      | inr q ↦ inr (inl q)
    ]
command_status held (Make number units) s lines h short = inl h.0
command_status held (Migrate name years) s lines (file, is, inl fault) short =
    elim (fault_status name file s lines fault) [
      | inl q ↦ inr (inr (inl q))
      | inr q
          ↦ absurd
          (within_limit (held name) file_limit file (short name file_limit (refl, refl)) is q.1)
    ]
command_status held (Migrate name years) s lines (file, is, inr work) short =
    elim (migrate_status years work.0 s lines work.2) [
      | inl q ↦ inl q
      | inr q ↦ inr (inl q)
    ]
command_status held (Editing name script) s lines (file, is, inl fault) short =
    elim (fault_status name file s lines fault) [
      | inl q ↦ inr (inr (inl q))
      | inr q
          ↦ absurd
          (within_limit (held name) file_limit file (short name file_limit (inl refl, refl)) is
          q.1)
    ]
command_status held (Editing name script) s lines (file, is, inr work) short =
    elim
    (edits_status EditWork held script work.0 s lines (λ edits h. h.0) work.2
    (short script file_limit (inr refl, refl))) [
      | inl q ↦ inl q
      | inr q ↦ inr (inl q)
    ]
command_status held (Undoing name script) s lines (file, is, inl fault) short =
    elim (fault_status name file s lines fault) [
      | inl q ↦ inr (inr (inl q))
      | inr q
          ↦ absurd
          (within_limit (held name) file_limit file (short name file_limit (inl refl, refl)) is
          q.1)
    ]
command_status held (Undoing name script) s lines (file, is, inr work) short =
    elim
    (edits_status UndoWork held script work.0 s lines (λ edits h. h.0) work.2
    (short script file_limit (inr refl, refl))) [
      | inl q ↦ inl q
      | inr q ↦ inr (inl q)
    ]
command_status held (Expanding name plan) s lines (file, is, inl fault) short =
    elim (fault_status name file s lines fault) [
      | inl q ↦ inr (inr (inl q))
      | inr q
          ↦ absurd
          (within_limit (held name) file_limit file (short name file_limit (inl refl, refl)) is
          q.1)
    ]
command_status held (Expanding name plan) s lines (file, is, inr work) short =
    elim
    (plans_status ExpandWork held plan work.0 s lines (λ plan h. h.0) work.2
    (short plan file_limit (inr refl, refl))) [
      | inl q ↦ inl q
      | inr q ↦ inr (inl q)
    ]
command_status held (Checking name tree) s lines (file, is, inl fault) short =
    elim (fault_status name file s lines fault) [
      | inl q ↦ inr (inr (inl q))
      | inr q
          ↦ absurd
          (within_limit (held name) file_limit file (short name file_limit (inl (refl, refl))) is
          q.1)
    ]
command_status held (Checking name tree) s lines (file, is, inr work) short =
    heads_status Refused CheckWork check_status held tree work.0 s lines work.2
    (short tree tree_limit (inr (refl, refl)))
command_status held (RankChecking name rank) s lines (file, is, inl fault) short =
    elim (fault_status name file s lines fault) [
      | inl q ↦ inr (inr (inl q))
      | inr q
          ↦ absurd
          (within_limit (held name) file_limit file (short name file_limit (inl (refl, refl))) is
          q.1)
    ]
command_status held (RankChecking name rank) s lines
    (file, is, inr (p, given, (bytes, there, inl fault))) short =
    elim (rank_file_status rank p bytes s lines fault) [
      | inl q ↦ inr (inr (inr (inl q)))
      | inr q
          ↦ absurd
          (within_limit (held rank) tree_limit bytes (short rank tree_limit (inr (refl, refl)))
          there
          q.1)
    ]
command_status held (RankChecking name rank) s lines
    (file, is, inr (p, given, (bytes, there, inr (t, gives, work)))) short =
    elim (rankcheck_status p t s lines work) [
      | inl q ↦ inl q
      | inr q ↦ inr (inl q)
    ]
command_status held (Table name tree) s lines (file, is, inl fault) short =
    elim (fault_status name file s lines fault) [
      | inl q ↦ inr (inr (inl q))
      | inr q
          ↦ absurd
          (within_limit (held name) file_limit file (short name file_limit (inl (refl, refl))) is
          q.1)
    ]
command_status held (Table name tree) s lines (file, is, inr work) short =
    heads_status BadClaim (AnyHead (OnNetwork TableWork))
    (λ p text. network_status TableWork table_status p text.claim text.tree) held tree work.0 s
    lines work.2 (short tree tree_limit (inr (refl, refl)))
command_status held (Reporting name tree) s lines (file, is, inl fault) short =
    elim (fault_status name file s lines fault) [
      | inl q ↦ inr (inr (inl q))
      | inr q
          ↦ absurd
          (within_limit (held name) file_limit file (short name file_limit (inl (refl, refl))) is
          q.1)
    ]
command_status held (Reporting name tree) s lines (file, is, inr work) short =
    let ms = measures_of file in
    either_status (ReportWork ms) (RankReportWork ms) (report_status ms) (rank_report_status ms)
    held tree work.0 s lines work.2 (short tree tree_limit (inr (refl, refl)))
command_status held (Json name tree) s lines (file, is, inl fault) short =
    elim (fault_status name file s lines fault) [
      | inl q ↦ inr (inr (inl q))
      | inr q
          ↦ absurd
          (within_limit (held name) file_limit file (short name file_limit (inl (refl, refl))) is
          q.1)
    ]
command_status held (Json name tree) s lines (file, is, inr work) short =
    any_status held tree work.0 s lines work.2 (short tree tree_limit (inr (refl, refl)))
command_status held (Splitting name tree) s lines (file, is, inl fault) short =
    elim (fault_status name file s lines fault) [
      | inl q ↦ inr (inr (inl q))
      | inr q
          ↦ absurd
          (within_limit (held name) file_limit file (short name file_limit (inl (refl, refl))) is
          q.1)
    ]
command_status held (Splitting name tree) s lines (file, is, inr work) short =
    trees_status BadClaim SplitWork split_status held tree work.0 s lines work.2
    (short tree tree_limit (inr (refl, refl)))
command_status held (Drawing name) s lines (file, is, inl fault) short =
    elim (fault_status name file s lines fault) [
      | inl q ↦ inr (inl q)
      | inr q
          ↦ absurd
          (within_limit (held name) file_limit file (short name file_limit (refl, refl)) is q.1)
    ]
command_status held (Drawing name) s lines (file, is, inr work) short =
    inl (plant_graph_status work.0 s lines work.2)
command_status held (DrawingNetwork name tree scene) s lines (file, is, inl fault) short =
    elim (fault_status name file s lines fault) [
      | inl q ↦ inr (inr (inl q))
      | inr q
          ↦ absurd
          (within_limit (held name) file_limit file (short name file_limit (inl (refl, refl))) is
          q.1)
    ]
command_status held (DrawingNetwork name tree scene) s lines (file, is, inr work) short =
    let drawn = NetworkGraphWork scene in
    either_status (AnyHead (OnNetwork drawn)) (RankGraphWork scene)
    (λ p text. network_status drawn (graph_status scene) p text.claim text.tree)
    (rank_graph_status scene) held tree work.0 s lines work.2
    (short tree tree_limit (inr (refl, refl)))
command_status held (Ranging name tree kind word budget) s lines (file, is, inl fault) short =
    elim (fault_status name file s lines fault) [
      | inl q ↦ inr (inr (inr (inr (inl q))))
      | inr q
          ↦ absurd
          (within_limit (held name) file_limit file (short name file_limit (inl (refl, refl))) is
          q.1)
    ]
command_status held (Ranging name tree kind word budget) s lines
    (file, is, inr (p, given, (bytes, there, inl fault))) short =
    elim (headed_status tree p bytes s lines fault) [
      | inl q ↦ inr (inr (inr (inr (inr (inl q)))))
      | inr q
          ↦ absurd
          (within_limit (held tree) tree_limit bytes (short tree tree_limit (inr (refl, refl)))
          there
          q.1)
    ]
command_status held (Ranging name tree kind word budget) s lines
    (file, is, inr (p, given, (bytes, there, inr rest))) short =
    elim
    (stable_status (spot_named p kind word) budget p rest.0.claim rest.0.tree s lines rest.2) [
      | inl q ↦ inr (inr (inr (inr (inr (inr (inr (inl q)))))))
      | inr o ↦ elim o [
        | inl q ↦ inr (inl q)
        | inr o ↦ elim o [
          | inl q ↦ inl q
          | inr o ↦ elim o [
            | inl q ↦ inr (inr (inl q))
            | inr o
                ↦ elim o [
                  | inl q ↦ inr (inr (inr (inl q)))
                  | inr q
                      ↦ inr (inr (inr (inr (inr (inr (inl q))))))
                ]
          ]
        ]
      ]
    ]
command_status held (RangingAll name tree budget) s lines (file, is, inl fault) short =
    elim (fault_status name file s lines fault) [
      | inl q ↦ inr (inr (inl q))
      | inr q
          ↦ absurd
          (within_limit (held name) file_limit file (short name file_limit (inl (refl, refl))) is
          q.1)
    ]
command_status held (RangingAll name tree budget) s lines
    (file, is, inr (p, given, (bytes, there, inl fault))) short =
    elim (headed_status tree p bytes s lines fault) [
      | inl q ↦ inr (inr (inr (inl q)))
      | inr q
          ↦ absurd
          (within_limit (held tree) tree_limit bytes (short tree tree_limit (inr (refl, refl)))
          there
          q.1)
    ]
command_status held (RangingAll name tree budget) s lines
    (file, is, inr (p, given, (bytes, there, inr rest))) short =
    elim (table_of_ranges_status budget p rest.0.claim rest.0.tree s lines rest.2) [
      | inl q ↦ inr (inl q)
      | inr o ↦ elim o [ inl q ↦ inl q | inr q ↦ inr (inr (inr (inr (inl q)))) ]
    ]
command_status held (Planning name plan budget) s lines (file, is, inl fault) short =
    elim (fault_status name file s lines fault) [
      | inl q ↦ inr (inr (inr (inr (inl q))))
      | inr q
          ↦ absurd
          (within_limit (held name) file_limit file (short name file_limit (inl refl, refl)) is
          q.1)
    ]
command_status held (Planning name plan budget) s lines
    (file, is, inr (p, given, (bytes, there, inl fault))) short =
    elim (plan_status plan p bytes s lines fault) [
      | inl q ↦ inr (inr (inr (inl q)))
      | inr q
          ↦ absurd
          (within_limit (held plan) file_limit bytes (short plan file_limit (inr refl, refl))
          there q.1)
    ]
command_status held (Planning name plan budget) s lines
    (file, is, inr (p, given, (bytes, there, inr rest))) short =
    elim (periods_status budget p rest.0 s lines rest.2) [
      | inl q ↦ inl q
      | inr o ↦ elim o [ inl q ↦ inr (inl q) | inr q ↦ inr (inr (inl q)) ]
    ]
command_status held (Parting name inside outside budget) s lines (file, is, inl fault) short =
    elim (fault_status name file s lines fault) [
      | inl q ↦ inr (inr (inr (inr (inl q))))
      | inr q
          ↦ absurd
          (within_limit (held name) file_limit file (short name file_limit (refl, refl)) is q.1)
    ]
command_status held (Parting name inside outside budget) s lines
    (file, is, inr (p, given, inl bad))
    short = inr (inr (inr (inl bad.0)))
command_status held (Parting name inside outside budget) s lines
    (file, is, inr (p, given, inr (into, out, start, says))) short =
    elim (part_status budget None into out p s lines says) [
      | inl q ↦ inl q
      | inr o ↦ elim o [ inl q ↦ inr (inl q) | inr q ↦ inr (inr (inl q)) ]
    ]
command_status held (PartingAgainst name inside outside budget tree) s lines (file, is, inl fault)
    short = elim (fault_status name file s lines fault) [
      | inl q ↦ inr (inr (inr (inr (inr (inl q)))))
      | inr q
          ↦ absurd
          (within_limit (held name) file_limit file (short name file_limit (inl (refl, refl))) is
          q.1)
    ]
command_status held (PartingAgainst name inside outside budget tree) s lines
    (file, is, inr (p, given, inl bad)) short = inr (inr (inr (inr (inl bad.0))))
command_status held (PartingAgainst name inside outside budget tree) s lines
    (file, is, inr (p, given, inr (into, out, start, (bytes, there, inl fault)))) short =
    elim (tree_status tree p bytes s lines fault) [
      | inl q ↦ inr (inr (inr (inr (inr (inr (inl q))))))
      | inr q
          ↦ absurd
          (within_limit (held tree) tree_limit bytes (short tree tree_limit (inr (refl, refl)))
          there
          q.1)
    ]
command_status held (PartingAgainst name inside outside budget tree) s lines
    (file, is, inr (p, given, inr (into, out, start, (bytes, there, inr rest)))) short =
    elim (claim_status budget into out p rest.0 rest.1 s lines rest.3) [
      | inl q ↦ inr (inl q)
      | inr o ↦ elim o [
        | inl q ↦ inl q
        | inr o ↦ elim o [ inl q ↦ inr (inr (inl q)) | inr q ↦ inr (inr (inr (inl q))) ]
      ]
    ]
command_status held (Merging name tree parts) s lines (file, is, inl fault) short =
    elim (fault_status name file s lines fault) [
      | inl q ↦ inr (inr (inr (inl q)))
      | inr q
          ↦ absurd
          (within_limit (held name) file_limit file (short name file_limit (inl (refl, refl))) is
          q.1)
    ]
command_status held (Merging name tree parts) s lines
    (file, is, inr (p, given, (bytes, there, inl fault))) short =
    elim (tree_status tree p bytes s lines fault) [
      | inl q ↦ inr (inr (inr (inr (inl q))))
      | inr q
          ↦ absurd
          (within_limit (held tree) tree_limit bytes
          (short tree tree_limit (inr (inl refl, refl)))
          there q.1)
    ]
command_status held (Merging name tree parts) s lines
    (file, is, inr (p, given, (bytes, there, inr rest))) short =
    elim
    (merge_status held parts p rest.0 rest.1 s lines rest.3
    (λ other h. short other tree_limit (inr (inr h, refl)))) [
      | inl q ↦ inl q
      | inr o ↦ elim o [
        | inl q ↦ inr (inl q)
        | inr o ↦ elim o [ inl q ↦ inr (inr (inl q)) | inr q ↦ inr (inr (inr (inr (inl q)))) ]
      ]
    ]
command_status held (Solving name budget) s lines (file, is, inl fault) short =
    elim (fault_status name file s lines fault) [
      | inl q ↦ inr (inr (inr (inl q)))
      | inr q
          ↦ absurd
          (within_limit (held name) file_limit file (short name file_limit (refl, refl)) is q.1)
    ]
command_status held (Solving name budget) s lines (file, is, inr work) short =
    elim (solve_status budget work.0 s lines work.2) [
      | inl q ↦ inl q
      | inr o ↦ elim o [ inl q ↦ inr (inl q) | inr q ↦ inr (inr (inl q)) ]
    ]
command_status held (Showing name budget) s lines (file, is, inl fault) short =
    elim (fault_status name file s lines fault) [
      | inl q ↦ inr (inr (inr (inl q)))
      | inr q
          ↦ absurd
          (within_limit (held name) file_limit file (short name file_limit (refl, refl)) is q.1)
    ]
command_status held (Showing name budget) s lines (file, is, inr work) short =
    elim (show_status budget file work.0 s lines work.2) [
      | inl q ↦ inl q
      | inr o ↦ elim o [ inl q ↦ inr (inl q) | inr q ↦ inr (inr (inl q)) ]
    ]
command_status held (Ranking name count budget) s lines (file, is, inl fault) short =
    elim (fault_status name file s lines fault) [
      | inl q ↦ inr (inr (inr (inl q)))
      | inr q
          ↦ absurd
          (within_limit (held name) file_limit file (short name file_limit (refl, refl)) is q.1)
    ]
command_status held (Ranking name count budget) s lines (file, is, inr work) short =
    elim (rank_status count budget work.0 s lines work.2) [
      | inl q ↦ inl q
      | inr o ↦ elim o [ inl q ↦ inr (inl q) | inr q ↦ inr (inr (inl q)) ]
    ]
command_status held (Alternatives name count budget) s lines (file, is, inl fault) short =
    elim (fault_status name file s lines fault) [
      | inl q ↦ inr (inr (inr (inl q)))
      | inr q
          ↦ absurd
          (within_limit (held name) file_limit file (short name file_limit (refl, refl)) is q.1)
    ]
command_status held (Alternatives name count budget) s lines (file, is, inr work) short =
    elim (alternatives_status count budget work.0 s lines work.2) [
      | inl q ↦ inl q
      | inr o ↦ elim o [ inl q ↦ inr (inl q) | inr q ↦ inr (inr (inl q)) ]
    ]
command_status held (Trial number units budget) s lines h short =
    elim (search_status budget (generated number units) s lines h) [
      | inl q ↦ inl q
      | inr o ↦ elim o [ inl q ↦ inr (inl q) | inr q ↦ inr (inr (inl q)) ]
    ]
command_status held (Telling text) s lines h short = inl h.0

-- parts that are put back never end with `usage`
usage_of_merge : (held : List ℕ → Told) (names : List (List ℕ)) (p : Problem) (claim : Claim)
    (tree : Tree) (lines : List (List ℕ)) → MergeWork held names p claim tree Usage lines → ⊥
usage_of_merge held names p claim tree lines (inl f) =
    elim (part_file_status (are_several names) f.name p f.fault.0 Usage lines f.fault.2)
    [ inl q ↦ cc | inr q ↦ let r : Usage ≡ TooLong = q.0 in cc ]
usage_of_merge held names p claim tree lines (inr (ps, give, inl merged)) = let q : Usage ≡ Done =
    merged.done in cc
usage_of_merge held names p claim tree lines (inr (ps, give, inr stopped)) =
    elim (merge_fault_status (are_several names) _ stopped.fault Usage lines stopped.says)
    [ inl q ↦ cc | inr q ↦ cc ]

-- some status of a command, whatever its file holds
answer_status : (held : List ℕ → Told) (command : Command) (lines : List (List ℕ))
    → CommandAnswers held command Usage lines → ⊥
answer_status held (Max name) lines (file, is, inl fault) = absurd fault
answer_status held (Max name) lines (file, is, inr work) = absurd work.2
answer_status held (Linting name) lines (file, is, inl fault) = absurd fault
answer_status held (Linting name) lines (file, is, inr work) = absurd work.2
answer_status held (Axioms name units) lines (file, is, inl fault) = absurd fault
answer_status held (Axioms name units) lines (file, is, inr work) =
    elim (names_status units work.0 (first_stranger work.0 units) Usage lines work.2)
    [ inl q ↦ cc | inr q ↦ cc ]
answer_status held (Flows name units) lines (file, is, inl fault) = absurd fault
answer_status held (Flows name units) lines (file, is, inr work) =
    elim (flows_status units work.0 (first_stranger work.0 units) Usage lines work.2)
    [ inl q ↦ cc | inr o ↦ elim o [ inl q ↦ cc | inr q ↦ cc ] ]
answer_status held (Listing name after count) lines (file, is, inl fault) = absurd fault
answer_status held (Listing name after count) lines (file, is, inr work) = absurd work.2
answer_status held (Make number units) lines h = let q : Usage ≡ Done = h.0 in cc
answer_status held (Migrate name years) lines (file, is, inl fault) = absurd fault
answer_status held (Migrate name years) lines (file, is, inr work) = absurd work.2
answer_status held (Editing name script) lines (file, is, inl fault) = absurd fault
answer_status held (Editing name script) lines
    (file, is, inr (p, given, (bytes, there, inl fault))) = absurd fault
answer_status held (Editing name script) lines
    (file, is, inr (p, given, (bytes, there, inr rest))) = let q : Usage ≡ Done = rest.2.0 in cc
answer_status held (Undoing name script) lines (file, is, inl fault) = absurd fault
answer_status held (Undoing name script) lines
    (file, is, inr (p, given, (bytes, there, inl fault))) = absurd fault
answer_status held (Undoing name script) lines
    (file, is, inr (p, given, (bytes, there, inr rest))) = let q : Usage ≡ Done = rest.2.0 in cc
answer_status held (Expanding name plan) lines (file, is, inl fault) = absurd fault
answer_status held (Expanding name plan) lines
    (file, is, inr (p, given, (bytes, there, inl fault))) = absurd fault
answer_status held (Expanding name plan) lines
    (file, is, inr (p, given, (bytes, there, inr rest))) = let q : Usage ≡ Done = rest.2.0 in cc
answer_status held (Checking name tree) lines (file, is, inl fault) = absurd fault
answer_status held (Checking name tree) lines
    (file, is, inr (p, given, (bytes, there, inl fault))) = absurd fault
answer_status held (Checking name tree) lines
    (file, is, inr (p, given, (bytes, there, inr rest))) =
    absurd rest.2
answer_status held (RankChecking name rank) lines (file, is, inl fault) = absurd fault
answer_status held (RankChecking name rank) lines
    (file, is, inr (p, given, (bytes, there, inl fault))) = absurd fault
answer_status held (RankChecking name rank) lines
    (file, is, inr (p, given, (bytes, there, inr (t, gives, work)))) = absurd work
answer_status held (Table name tree) lines (file, is, inl fault) = absurd fault
answer_status held (Table name tree) lines (file, is, inr (p, given, (bytes, there, inl fault))) =
    absurd fault
answer_status held (Table name tree) lines (file, is, inr (p, given, (bytes, there, inr rest))) =
    elim
    (network_status TableWork table_status p rest.0.claim rest.0.tree Usage lines rest.2)
    [ inl q ↦ cc | inr q ↦ cc ]
answer_status held (Reporting name tree) lines (file, is, inl fault) = absurd fault
answer_status held (Reporting name tree) lines (file, is, inr (p, given, said)) =
    let ms = measures_of file in
    absurd
    (either_not_usage (ReportWork ms) (RankReportWork ms) (report_status ms)
    (rank_report_status ms) held tree p lines said)
answer_status held (Json name tree) lines (file, is, inl fault) = absurd fault
answer_status held (Json name tree) lines (file, is, inr (p, given, said)) =
    absurd (any_not_usage held tree p lines said)
answer_status held (Splitting name tree) lines (file, is, inl fault) = absurd fault
answer_status held (Splitting name tree) lines
    (file, is, inr (p, given, (bytes, there, inl fault))) = absurd fault
answer_status held (Splitting name tree) lines
    (file, is, inr (p, given, (bytes, there, inr rest))) = absurd rest.3
answer_status held (Drawing name) lines (file, is, inl fault) = absurd fault
answer_status held (Drawing name) lines (file, is, inr work) = absurd work.2
answer_status held (DrawingNetwork name tree scene) lines (file, is, inl fault) = absurd fault
answer_status held (DrawingNetwork name tree scene) lines (file, is, inr (p, given, said)) =
    let drawn = NetworkGraphWork scene in
    absurd
    (either_not_usage (AnyHead (OnNetwork drawn)) (RankGraphWork scene)
    (λ p text. network_status drawn (graph_status scene) p text.claim text.tree)
    (rank_graph_status scene) held tree p lines said)
answer_status held (Ranging name tree kind word budget) lines (file, is, inl fault) = absurd fault
answer_status held (Ranging name tree kind word budget) lines
    (file, is, inr (p, given, (bytes, there, inl fault))) = absurd fault
answer_status held (Ranging name tree kind word budget) lines
    (file, is, inr (p, given, (bytes, there, inr rest))) =
    elim
    (stable_status (spot_named p kind word) budget p rest.0.claim rest.0.tree Usage lines rest.2) [
      | inl q ↦ cc
      | inr o
          ↦ elim o [
            | inl q ↦ cc
            | inr o
                ↦ elim o [
                  | inl q ↦ cc
                  | inr o
                      ↦ elim o [ inl q ↦ cc | inr o ↦ elim o [ inl q ↦ cc | inr q ↦ cc ] ]
                ]
          ]
    ]
answer_status held (RangingAll name tree budget) lines (file, is, inl fault) = absurd fault
answer_status held (RangingAll name tree budget) lines
    (file, is, inr (p, given, (bytes, there, inl fault))) = absurd fault
answer_status held (RangingAll name tree budget) lines
    (file, is, inr (p, given, (bytes, there, inr rest))) =
    elim (table_of_ranges_status budget p rest.0.claim rest.0.tree Usage lines rest.2)
    [ inl q ↦ cc | inr o ↦ elim o [ inl q ↦ cc | inr q ↦ cc ] ]
answer_status held (Planning name plan budget) lines (file, is, inl fault) = absurd fault
answer_status held (Planning name plan budget) lines
    (file, is, inr (p, given, (bytes, there, inl fault))) = absurd fault
answer_status held (Planning name plan budget) lines
    (file, is, inr (p, given, (bytes, there, inr rest))) =
    elim (periods_status budget p rest.0 Usage lines rest.2)
    [ inl q ↦ cc | inr o ↦ elim o [ inl q ↦ cc | inr q ↦ cc ] ]
answer_status held (Parting name inside outside budget) lines (file, is, inl fault) = absurd fault
answer_status held (Parting name inside outside budget) lines
    (file, is, inr (p, given, inl bad)) =
    let q : Usage ≡ BadNode = bad.0 in cc
answer_status held (Parting name inside outside budget) lines
    (file, is, inr (p, given, inr (into, out, start, says))) =
    elim (part_status budget None into out p Usage lines says)
    [ inl q ↦ cc | inr o ↦ elim o [ inl q ↦ cc | inr q ↦ cc ] ]
answer_status held (PartingAgainst name inside outside budget tree) lines (file, is, inl fault) =
    absurd fault
answer_status held (PartingAgainst name inside outside budget tree) lines
    (file, is, inr (p, given, inl bad)) = let q : Usage ≡ BadNode = bad.0 in cc
answer_status held (PartingAgainst name inside outside budget tree) lines
    (file, is, inr (p, given, inr (into, out, start, (bytes, there, inl fault)))) = absurd fault
answer_status held (PartingAgainst name inside outside budget tree) lines
    (file, is, inr (p, given, inr (into, out, start, (bytes, there, inr rest)))) =
    elim (claim_status budget into out p rest.0 rest.1 Usage lines rest.3)
    [ inl q ↦ cc | inr o ↦ elim o [ inl q ↦ cc | inr o ↦ elim o [ inl q ↦ cc | inr q ↦ cc ] ] ]
answer_status held (Merging name tree parts) lines (file, is, inl fault) = absurd fault
answer_status held (Merging name tree parts) lines
    (file, is, inr (p, given, (bytes, there, inl fault))) = absurd fault
answer_status held (Merging name tree parts) lines
    (file, is, inr (p, given, (bytes, there, inr rest))) =
    usage_of_merge held parts p rest.0 rest.1 lines rest.3
answer_status held (Solving name budget) lines (file, is, inl fault) = absurd fault
answer_status held (Solving name budget) lines (file, is, inr work) =
    elim (solve_status budget work.0 Usage lines work.2)
    [ inl q ↦ cc | inr o ↦ elim o [ inl q ↦ cc | inr q ↦ cc ] ]
answer_status held (Showing name budget) lines (file, is, inl fault) = absurd fault
answer_status held (Showing name budget) lines (file, is, inr work) =
    elim (show_status budget file work.0 Usage lines work.2)
    [ inl q ↦ cc | inr o ↦ elim o [ inl q ↦ cc | inr q ↦ cc ] ]
answer_status held (Ranking name count budget) lines (file, is, inl fault) = absurd fault
answer_status held (Ranking name count budget) lines (file, is, inr work) =
    elim (rank_status count budget work.0 Usage lines work.2)
    [ inl q ↦ cc | inr o ↦ elim o [ inl q ↦ cc | inr q ↦ cc ] ]
answer_status held (Alternatives name count budget) lines (file, is, inl fault) = absurd fault
answer_status held (Alternatives name count budget) lines (file, is, inr work) =
    elim (alternatives_status count budget work.0 Usage lines work.2)
    [ inl q ↦ cc | inr o ↦ elim o [ inl q ↦ cc | inr q ↦ cc ] ]
answer_status held (Trial number units budget) lines h =
    elim (search_status budget (generated number units) Usage lines h)
    [ inl q ↦ cc | inr o ↦ elim o [ inl q ↦ cc | inr q ↦ cc ] ]
answer_status held (Telling text) lines h = let q : Usage ≡ Done = h.0 in cc

usage_answers : (held : List ℕ → Told) (found : Option Command) (lines : List (List ℕ))
    → AnswersTo held found Usage lines → found ≡ None
usage_answers held None lines h = refl
usage_answers held (Some command) lines h = absurd (answer_status held command lines h)

memory_status : (command : Command) → IsOneOf (statuses_of command) Memory
memory_status (Max file) = inr (inr (inl refl))
memory_status (Linting file) = inr (inr (inl refl))
memory_status (Axioms file units) = inr (inr (inr (inl refl)))
memory_status (Flows file units) = inr (inr (inr (inr (inl refl))))
memory_status (Listing file after count) = inr (inr (inr (inl refl)))
memory_status (Make number units) = inr (inl refl)
memory_status (Migrate file years) = inr (inr (inr (inl refl)))
memory_status (Editing file script) = inr (inr (inr (inl refl)))
memory_status (Undoing file script) = inr (inr (inr (inl refl)))
memory_status (Expanding file plan) = inr (inr (inr (inl refl)))
memory_status (Checking file tree) = inr (inr (inr (inr (inl refl))))
memory_status (RankChecking file rank) = inr (inr (inr (inr (inl refl))))
memory_status (Table file tree) = inr (inr (inr (inr (inl refl))))
memory_status (Reporting file tree) = inr (inr (inr (inr (inl refl))))
memory_status (Json file tree) = inr (inr (inr (inr (inl refl))))
memory_status (Splitting file tree) = inr (inr (inr (inr (inl refl))))
memory_status (Drawing file) = inr (inr (inl refl))
memory_status (DrawingNetwork file tree scene) = inr (inr (inr (inr (inl refl))))
memory_status (Ranging file tree kind name budget) =
    inr (inr (inr (inr (inr (inr (inr (inr (inl refl))))))))
memory_status (RangingAll file tree budget) = inr (inr (inr (inr (inr (inl refl)))))
memory_status (Planning file plan budget) = inr (inr (inr (inr (inr (inl refl)))))
memory_status (Parting file inside outside budget) = inr (inr (inr (inr (inr (inl refl)))))
memory_status (PartingAgainst file inside outside budget tree) =
    inr (inr (inr (inr (inr (inr (inr (inl refl)))))))
memory_status (Merging file tree parts) = inr (inr (inr (inr (inr (inl refl)))))
memory_status (Solving file budget) = inr (inr (inr (inr (inl refl))))
memory_status (Showing file budget) = inr (inr (inr (inr (inl refl))))
memory_status (Ranking file count budget) = inr (inr (inr (inr (inl refl))))
memory_status (Alternatives file count budget) = inr (inr (inr (inr (inl refl))))
memory_status (Trial number units budget) = inr (inr (inr (inl refl)))
memory_status (Telling text) = inr (inl refl)

-- ---- a search that finishes

pub finished : (budget : ℕ) (p : Problem) (s : Status) (lines : List (List ℕ))
    → CanFinish budget p
    → PlainWork budget p s lines → IsNotStopped s
finished budget p s lines can (c, e, holds, text) = at c.tail e holds
  where
    at : (tail : Tail) → s ≡ status_of tail → Holds budget p c.claim c.tree tail → IsNotStopped s
    at whole e holds = ((λ q. cc), (λ q. cc))
    at (spent next options) e holds = absurd (can.enough holds.2)
    at (past node nonbasic place) e holds = let h =
        holds.1 in absurd (can.in_range h.node nonbasic place h.sound h.reduced h.past.past)

pub solve_finished : (budget : ℕ) (p : Problem) (s : Status) (lines : List (List ℕ))
    → CanFinish budget p → SolveWork budget p s lines → IsNotStopped s
solve_finished budget p s lines can (inl h) = finished budget p s lines can h
solve_finished budget p s lines can (inr h) = let e = h.1 in ((λ q. cc), (λ q. cc))

pub show_finished : (budget : ℕ) (file : List ℕ) (p : Problem) (s : Status)
    (lines : List (List ℕ))
    → CanFinish budget p → ShowWork budget file p s lines → IsNotStopped s
show_finished budget file p s lines can (inr h) = let e = h.2.0 in ((λ q. cc), (λ q. cc))
show_finished budget file p s lines can (inl (c, holds, shows)) = at c.tail shows.0 holds
  where
    at : (tail : Tail) → s ≡ status_of tail → Holds budget p c.claim c.tree tail → IsNotStopped s
    at whole e holds = ((λ q. cc), (λ q. cc))
    at (spent next options) e holds = absurd (can.enough holds.2)
    at (past node nonbasic place) e holds = let h =
        holds.1 in absurd (can.in_range h.node nonbasic place h.sound h.reduced h.past.past)

pub rank_finished : (count budget : ℕ) (p : Problem) (s : Status) (lines : List (List ℕ))
    → CanFinish budget p → RankWork count budget p s lines → IsNotStopped s
rank_finished count budget p s lines can (t, e, holds, text) = at t.tail e holds
  where
    at : (tail : Tail) → s ≡ status_of tail → rankings.Holds count budget p t tail
        → IsNotStopped s
    at whole e holds = ((λ q. cc), (λ q. cc))
    at (spent next options) e holds = absurd (can.enough holds.2)
    at (past node nonbasic place) e holds = let h =
        holds.1 in absurd (can.in_range h.node nonbasic place h.sound h.reduced h.past.past)

pub alternatives_finished : (count budget : ℕ) (p : Problem) (s : Status) (lines : List (List ℕ))
    → CanFinish budget p → AlternatesWork count budget p s lines → IsNotStopped s
alternatives_finished count budget p s lines can (t, e, holds, text) = at t.tail e holds
  where
    at : (tail : Tail) → s ≡ status_of tail → AlternatesHold count budget p t tail
        → IsNotStopped s
    at whole e holds = ((λ q. cc), (λ q. cc))
    at (spent next options) e holds = absurd (can.enough holds.2)
    at (past node nonbasic place) e holds = let h =
        holds.1 in absurd (can.in_range h.node nonbasic place h.sound h.reduced h.past.past)

pub search_finished : (budget : ℕ) (p : Problem) (s : Status) (lines : List (List ℕ))
    → CanFinish budget p → SummaryWork budget p s lines → IsNotStopped s
search_finished budget p Done lines can h = ((λ q. cc), (λ q. cc))
search_finished budget p s lines can h = finished budget p s lines can h

pub fault_not_stopped : (name file : List ℕ) (s : Status) (lines : List (List ℕ))
    → FileFault name file s lines → IsNotStopped s
fault_not_stopped name file s lines h = elim (fault_status name file s lines h) [
  | inl q ↦ ((λ r. cc), (λ r. cc))
  | inr q ↦ let q0 = q.0 in ((λ r. cc), (λ r. cc))
]

-- no bytes are those of a file that is known to be missing
nothing_held : (told : Told) (bytes : List ℕ) → told ≡ Some None → AreHeld told bytes → ⊥
nothing_held told bytes gone is = subst (λ (o : Told). AreHeld o bytes) gone is

-- so a command that reads it first has no answer
missing_says : (held : List ℕ → Told) (command : Command) (name : List ℕ) (s : Status)
    (lines : List (List ℕ)) → first_file command ≡ Some name → held name ≡ Some None
    → CommandAnswers held command s lines → ⊥
missing_says held (Make number units) name s lines first gone h = cc
missing_says held (Trial number units budget) name s lines first gone h = cc
missing_says held (Telling text) name s lines first gone h = cc
missing_says held (Max file) name s lines first gone h = let same : file ≡ name =
    cc in nothing_held (held file) h.0 (ap held same ∙ gone) h.1
missing_says held (Linting file) name s lines first gone h = let same : file ≡ name =
    cc in nothing_held (held file) h.0 (ap held same ∙ gone) h.1
missing_says held (Axioms file units) name s lines first gone h = let same : file ≡ name =
    cc in nothing_held (held file) h.0 (ap held same ∙ gone) h.1
missing_says held (Flows file units) name s lines first gone h = let same : file ≡ name =
    cc in nothing_held (held file) h.0 (ap held same ∙ gone) h.1
missing_says held (Listing file after count) name s lines first gone h = let same : file ≡ name =
    cc in nothing_held (held file) h.0 (ap held same ∙ gone) h.1
missing_says held (Migrate file years) name s lines first gone h = let same : file ≡ name =
    cc in nothing_held (held file) h.0 (ap held same ∙ gone) h.1
missing_says held (Editing file script) name s lines first gone h = let same : file ≡ name =
    cc in nothing_held (held file) h.0 (ap held same ∙ gone) h.1
missing_says held (Undoing file script) name s lines first gone h = let same : file ≡ name =
    cc in nothing_held (held file) h.0 (ap held same ∙ gone) h.1
missing_says held (Checking file tree) name s lines first gone h = let same : file ≡ name =
    cc in nothing_held (held file) h.0 (ap held same ∙ gone) h.1
missing_says held (RankChecking file rank) name s lines first gone h = let same : file ≡ name =
    cc in nothing_held (held file) h.0 (ap held same ∙ gone) h.1
missing_says held (Table file tree) name s lines first gone h = let same : file ≡ name =
    cc in nothing_held (held file) h.0 (ap held same ∙ gone) h.1
missing_says held (Reporting file tree) name s lines first gone h = let same : file ≡ name =
    cc in nothing_held (held file) h.0 (ap held same ∙ gone) h.1
missing_says held (Json file tree) name s lines first gone h = let same : file ≡ name =
    cc in nothing_held (held file) h.0 (ap held same ∙ gone) h.1
missing_says held (Splitting file tree) name s lines first gone h = let same : file ≡ name =
    cc in nothing_held (held file) h.0 (ap held same ∙ gone) h.1
missing_says held (Expanding file plan) name s lines first gone h = let same : file ≡ name =
    cc in nothing_held (held file) h.0 (ap held same ∙ gone) h.1
missing_says held (Drawing file) name s lines first gone h = let same : file ≡ name =
    cc in nothing_held (held file) h.0 (ap held same ∙ gone) h.1
missing_says held (DrawingNetwork file tree scene) name s lines first gone h =
    let same : file ≡ name = cc in nothing_held (held file) h.0 (ap held same ∙ gone) h.1
missing_says held (Ranging file tree kind word budget) name s lines first gone h =
    let same : file ≡ name = cc in nothing_held (held file) h.0 (ap held same ∙ gone) h.1
missing_says held (RangingAll file tree budget) name s lines first gone h =
    let same : file ≡ name = cc in nothing_held (held file) h.0 (ap held same ∙ gone) h.1
missing_says held (Planning file plan budget) name s lines first gone h = let same : file ≡ name =
    cc in nothing_held (held file) h.0 (ap held same ∙ gone) h.1
missing_says held (Parting file inside outside budget) name s lines first gone h =
    let same : file ≡ name = cc in nothing_held (held file) h.0 (ap held same ∙ gone) h.1
missing_says held (PartingAgainst file inside outside budget tree) name s lines first gone h =
    let same : file ≡ name = cc in nothing_held (held file) h.0 (ap held same ∙ gone) h.1
missing_says held (Merging file tree parts) name s lines first gone h = let same : file ≡ name =
    cc in nothing_held (held file) h.0 (ap held same ∙ gone) h.1
missing_says held (Ranking file count budget) name s lines first gone h = let same : file ≡ name =
    cc in nothing_held (held file) h.0 (ap held same ∙ gone) h.1
missing_says held (Alternatives file count budget) name s lines first gone h =
    let same : file ≡ name = cc in nothing_held (held file) h.0 (ap held same ∙ gone) h.1
missing_says held (Solving file budget) name s lines first gone h = let same : file ≡ name =
    cc in nothing_held (held file) h.0 (ap held same ∙ gone) h.1
missing_says held (Showing file budget) name s lines first gone h = let same : file ≡ name =
    cc in nothing_held (held file) h.0 (ap held same ∙ gone) h.1

module _ (old new : ShelfState) (words : List (List ℕ)) (before after : OutputsState) where
  pub usage_ends : (s : Status) → Ends (WordsSay old new words) before after s → s ≡ Usage
      → command_of words ≡ None
  usage_ends s e is =
      let said = subst (λ (t : Status). Ends (WordsSay old new words) before after t) is e in
      usage_answers old.held (command_of words) said.1.0 said.1.1

  pub read_fault_ends : (s : Status) → Ends (WordsSay old new words) before after s
      → s ≡ ReadFault
      → (name : List ℕ) × IsFileWord words name × HasRisen (old.faults name) (new.faults name)
  read_fault_ends s e is =
      let said = subst (λ (t : Status). Ends (WordsSay old new words) before after t) is e in
      (said.1.0, said.1.1, said.1.2)

  pub write_fault_ends : (s : Status) → Ends (WordsSay old new words) before after s
      → s ≡ WriteFault → HasFault before after
  write_fault_ends s e is =
      (subst (λ (t : Status). Ends (WordsSay old new words) before after t) is e).0

  -- words without a form end with `usage`, unless an output or memory fails
  pub no_form_ends : (s : Status) → Ends (WordsSay old new words) before after s
      → command_of words ≡ None → IsOneOf (Usage ∷ WriteFault ∷ Memory ∷ []) s
  no_form_ends WriteFault e none = inr (inl refl)
  no_form_ends Memory e none = inr (inr (inl refl))
  no_form_ends ReadFault e none =
      absurd
      (subst (λ (f : Option Command). IsSomeAnd f (λ command. IsFileOf command e.1.0)) none e.1.1)
  no_form_ends s e none =
      let told = subst (λ (f : Option Command). AnswersTo old.held f s e.1.0) none e.1.1 in
      inl told.0

  -- only memory that runs out stops a command that nothing disturbs
  pub complete_ends : (s : Status) → Ends (WordsSay old new words) before after s
      → (command : Command) → command_of words ≡ Some command
      → IsUndisturbed old new before after command → IsOneOf (statuses_of command) s
  complete_ends WriteFault e command is calm = absurd (calm.written e.0)
  complete_ends Memory e command is calm = memory_status command
  complete_ends ReadFault e command is calm =
      absurd
      (calm.read e.1.0
      (subst (λ (f : Option Command). IsSomeAnd f (λ command. IsFileOf command e.1.0)) is e.1.1)
      e.1.2)
  complete_ends s e command is calm =
      let told = subst (λ (f : Option Command). AnswersTo old.held f s e.1.0) is e.1.1 in
      command_status old.held command s e.1.0 told calm.held

  -- a claim that `check` accepts is best
  pub accepted_ends : AcceptedIsBest → (s : Status) → Ends (WordsSay old new words) before after s
      → (file tree : List ℕ) → command_of words ≡ Some (Checking file tree) → s ≡ Done
      → FilesClaimBest old.held file tree
  accepted_ends law s e file tree is done =
      let said = subst (λ (t : Status). Ends (WordsSay old new words) before after t) done e in
      law old.held file tree said.1.0
      (subst (λ (f : Option Command). AnswersTo old.held f Done said.1.0) is said.1.1)

  -- the networks of a ranking that `rankcheck` accepts are the best
  pub ranked_ends : AcceptedAreBest → (s : Status) → Ends (WordsSay old new words) before after s
      → (file rank : List ℕ) → command_of words ≡ Some (RankChecking file rank) → s ≡ Done
      → FilesListBest old.held file rank
  ranked_ends law s e file rank is done =
      let said = subst (λ (t : Status). Ends (WordsSay old new words) before after t) done e in
      law old.held file rank said.1.0
      (subst (λ (f : Option Command). AnswersTo old.held f Done said.1.0) is said.1.1)

  -- a command that reads a missing file first says so, unless an output or memory fails
  pub missing_ends : (s : Status) → Ends (WordsSay old new words) before after s
      → (command : Command) (name : List ℕ) → command_of words ≡ Some command
      → first_file command ≡ Some name → old.held name ≡ Some None
      → IsOneOf (ReadFault ∷ WriteFault ∷ Memory ∷ []) s
  missing_ends ReadFault e command name is first gone = inl refl
  missing_ends WriteFault e command name is first gone = inr (inl refl)
  missing_ends Memory e command name is first gone = inr (inr (inl refl))
  missing_ends s e command name is first gone =
      let told = subst (λ (f : Option Command). AnswersTo old.held f s e.1.0) is e.1.1 in
      absurd (missing_says old.held command name s e.1.0 first gone told)
