-- What each command says, from its words and from what the shelf holds.
use Rattle.std.specs.List.{Contains}
use Rattle.std.specs.Prelude.{◌≡◌, ◌≤◌, ◌⊎◌, ℕ, List, [], ◌∷◌, Option, Some, None, length, codes}
use Rattle.report_rules.specs.text_rules.Outside.{HasRisen, Told, IsToldAnd}
use Rattle.report_rules.specs.text_rules.State.{ShelfState, OutputsState}
use Rattle.studio_rules.specs.Command.{Command, command_of, IsFileOf, IsFileWord}
use Rattle.studio_rules.specs.Command.{Max, Axioms, Flows, Listing, Linting, Make, Migrate, Editing}
use Rattle.studio_rules.specs.Command.{Undoing, Checking, RankChecking, Solving, Showing, Ranking}
use Rattle.studio_rules.specs.Command.{Trial, Telling}
use Rattle.studio_rules.specs.Command.{Table, Splitting, Expanding, Drawing, DrawingNetwork}
use Rattle.studio_rules.specs.Command.{Reporting, Json, Ranging, Planning, Parting, PartingAgainst}
use Rattle.studio_rules.specs.Command.{Merging, Alternatives, RangingAll}
use Rattle.report_rules.specs.problem_rules.Generated.{generated}
use Rattle.report_rules.specs.problem_rules.Problem.{Problem}
use Rattle.report_rules.specs.tree_rules.Claim.{Network, network}
use Rattle.report_rules.specs.tree_text_rules.Read.{HeadedCertificate}
use Rattle.plan_rules.specs.Plan.{Plan}
use Rattle.plan_rules.specs.Expanded.{expanded}
use Rattle.report_rules.specs.declared.spot.Spot.{Spot}
use Rattle.report_rules.specs.declared.spot.SpotKind.{SpotKind}
use Rattle.studio_rules.specs.Reading.{AreHeld, GivesProblem, OnFile, OnText, file_limit}
use Rattle.studio_rules.specs.Max.{MaxWork}
use Rattle.studio_rules.specs.Axioms.{AxiomsWork}
use Rattle.studio_rules.specs.Flows.{FlowsWork, StaysInRange}
use Rattle.studio_rules.specs.Listing.{ListingWork}
use Rattle.studio_rules.specs.Lint.{LintWork}
use Rattle.studio_rules.specs.Make.{MakeWork}
use Rattle.studio_rules.specs.Script.{OnScript}
use Rattle.studio_rules.specs.Plan.{OnPlan, GivesPlan}
use Rattle.studio_rules.specs.Expand.{ExpandWork}
use Rattle.studio_rules.specs.Migrate.{MigrateWork}
use Rattle.studio_rules.specs.Edits.{EditWork, UndoWork}
use Rattle.studio_rules.specs.TreeFile.{OnTree, tree_limit}
use Rattle.studio_rules.specs.HeadedFile.{OnHeaded, GivesHeaded, AnyHead}
use Rattle.studio_rules.specs.Check.{CheckWork}
use Rattle.studio_rules.specs.Rankcheck.{OnRank}
use Rattle.studio_rules.specs.Rank.{RankWork}
use Rattle.studio_rules.specs.Alternates.{AlternatesWork}
use Rattle.studio_rules.specs.Network.{OnNetwork}
use Rattle.studio_rules.specs.Table.{TableWork}
use Rattle.studio_rules.specs.TextFile.{OnEither}
use Rattle.studio_rules.specs.RankReport.{ReportsOn}
use Rattle.studio_rules.specs.RankGraph.{RankGraphWork}
use Rattle.studio_rules.specs.RangesJson.{OnAny}
use Rattle.studio_rules.specs.Graph.{PlantGraphWork, NetworkGraphWork}
use Rattle.studio_rules.specs.Split.{SplitWork}
use Rattle.studio_rules.specs.Merge.{MergeWork}
use Rattle.studio_rules.specs.Part.{PartWork, AgainstWork}
use Rattle.studio_rules.specs.Periods.{PeriodsWork}
use Rattle.studio_rules.specs.Stable.{StableWork, CanRange, spot_named}
use Rattle.studio_rules.specs.StableTable.{RangesWork}
use Rattle.studio_rules.specs.Solve.{SolveWork, CanFinish}
use Rattle.studio_rules.specs.Show.{ShowWork}
use Rattle.studio_rules.specs.Trial.{TrialWork}
use Rattle.studio_rules.specs.Ending.{Says, HasFault}
use Rattle.studio_rules.specs.Lines.{text_of}
use Rattle.studio_rules.specs.declared.status.Status.{Status}
use Rattle.studio_rules.specs.declared.status.Status.TheVariants.{Done, Refused, Usage, BadProblem}
use Rattle.studio_rules.specs.declared.status.Status.TheVariants.{Past, Spent, Memory, BadToken}
use Rattle.studio_rules.specs.declared.status.Status.TheVariants.{BadTree, BadEdit, NotMigrated}
use Rattle.studio_rules.specs.declared.status.Status.TheVariants.{BadPlan, BadNode, NoLeaf, NotBest}
use Rattle.studio_rules.specs.declared.status.Status.TheVariants.{UnknownName, BadClaim}

-- The statuses and lines of a command that searches, while neither shelf, sink nor memory fails.
-- Other commands have none here.
abbrev pub SearchAnswers : (List ℕ → Told) → Command → Status → List (List ℕ) → Type 0
SearchAnswers held (Ranging file tree kind name budget) status lines =
    OnFile (OnHeaded (AnyHead (StableWork kind name budget)) held tree) held file status lines
SearchAnswers held (RangingAll file tree budget) status lines =
    OnFile (OnHeaded (AnyHead (OnNetwork (RangesWork budget))) held tree) held file status lines
SearchAnswers held (Planning file plan budget) status lines =
    OnFile (OnPlan (PeriodsWork budget) held plan) held file status lines
SearchAnswers held (Parting file inside outside budget) status lines =
    OnFile (PartWork budget inside outside) held file status lines
SearchAnswers held (PartingAgainst file inside outside budget tree) status lines =
    OnFile (AgainstWork budget held tree inside outside) held file status lines
SearchAnswers held (Solving file budget) status lines =
    OnFile (SolveWork budget) held file status lines
SearchAnswers held (Showing file budget) status lines =
    OnText (ShowWork budget) held file status lines
SearchAnswers held (Ranking file count budget) status lines =
    OnFile (RankWork count budget) held file status lines
SearchAnswers held (Alternatives file count budget) status lines =
    OnFile (AlternatesWork count budget) held file status lines
SearchAnswers held (Trial number units budget) status lines =
    TrialWork number units budget status lines
SearchAnswers held command status lines = ⊥

-- the statuses and lines of a command
abbrev pub CommandAnswers : (List ℕ → Told) → Command → Status → List (List ℕ) → Type 0
CommandAnswers held (Max file) status lines = OnFile MaxWork held file status lines
CommandAnswers held (Axioms file units) status lines =
    OnFile (AxiomsWork units) held file status lines
CommandAnswers held (Flows file units) status lines =
    OnFile (FlowsWork units) held file status lines
CommandAnswers held (Listing file after count) status lines =
    OnFile (ListingWork after count) held file status lines
CommandAnswers held (Linting file) status lines = OnText LintWork held file status lines
CommandAnswers held (Make number units) status lines = MakeWork number units status lines
CommandAnswers held (Migrate file years) status lines =
    OnFile (MigrateWork years) held file status lines
CommandAnswers held (Editing file script) status lines =
    OnFile (OnScript EditWork held script) held file status lines
CommandAnswers held (Undoing file script) status lines =
    OnFile (OnScript UndoWork held script) held file status lines
CommandAnswers held (Checking file tree) status lines =
    OnFile (OnHeaded CheckWork held tree) held file status lines
CommandAnswers held (RankChecking file rank) status lines =
    OnFile (OnRank held rank) held file status lines
CommandAnswers held (Table file tree) status lines =
    OnFile (OnHeaded (AnyHead (OnNetwork TableWork)) held tree) held file status lines
CommandAnswers held (Splitting file tree) status lines =
    OnFile (OnTree SplitWork held tree) held file status lines
CommandAnswers held (Expanding file plan) status lines =
    OnFile (OnPlan ExpandWork held plan) held file status lines
CommandAnswers held (Drawing file) status lines = OnFile PlantGraphWork held file status lines
CommandAnswers held (DrawingNetwork file tree scene) status lines =
    OnFile
    (OnEither (AnyHead (OnNetwork (NetworkGraphWork scene))) (RankGraphWork scene) held tree) held
    file status lines
CommandAnswers held (Reporting file tree) status lines =
    OnText (ReportsOn held tree) held file status lines
CommandAnswers held (Json file tree) status lines =
    OnFile (OnAny held tree) held file status lines
CommandAnswers held (Merging file tree parts) status lines =
    OnFile (OnTree (MergeWork held parts) held tree) held file status lines
CommandAnswers held (Telling text) status lines = (status ≡ Done) × (text ≡ text_of lines)
CommandAnswers held command status lines = SearchAnswers held command status lines

-- `usage` is the answer to words that have no form
abbrev pub AnswersTo : (List ℕ → Told) → Option Command → Status → List (List ℕ) → Type 0
AnswersTo held None status lines = (status ≡ Usage) × (lines ≡ codes "usage" ∷ [])
AnswersTo held (Some command) status lines = CommandAnswers held command status lines

abbrev pub Answers : (List ℕ → Told) → List (List ℕ) → Status → List (List ℕ) → Type 0
Answers held words = AnswersTo held (command_of words)

-- what may be written with a status, for a command and for the words of a call
abbrev pub CommandSays : ShelfState → ShelfState → Command → Status → List ℕ → Type 0
CommandSays old new command = Says (CommandAnswers old.held command) (IsFileOf command) old new

abbrev pub WordsSay : ShelfState → ShelfState → List (List ℕ) → Status → List ℕ → Type 0
WordsSay old new words = Says (Answers old.held words) (IsFileWord words) old new

-- the file that a command reads first, if it reads any
abbrev pub first_file : Command → Option (List ℕ)
first_file (Max file) = Some file
first_file (Axioms file units) = Some file
first_file (Flows file units) = Some file
first_file (Listing file after count) = Some file
first_file (Linting file) = Some file
first_file (Migrate file years) = Some file
first_file (Editing file script) = Some file
first_file (Undoing file script) = Some file
first_file (Checking file tree) = Some file
first_file (RankChecking file rank) = Some file
first_file (Table file tree) = Some file
first_file (Splitting file tree) = Some file
first_file (Expanding file plan) = Some file
first_file (Drawing file) = Some file
first_file (DrawingNetwork file tree scene) = Some file
first_file (Reporting file tree) = Some file
first_file (Json file tree) = Some file
first_file (Ranging file tree kind name budget) = Some file
first_file (RangingAll file tree budget) = Some file
first_file (Planning file plan budget) = Some file
first_file (Parting file inside outside budget) = Some file
first_file (PartingAgainst file inside outside budget tree) = Some file
first_file (Merging file tree parts) = Some file
first_file (Solving file budget) = Some file
first_file (Showing file budget) = Some file
first_file (Ranking file count budget) = Some file
first_file (Alternatives file count budget) = Some file
first_file command = None

-- the command reads the file, which is to hold no more bytes
abbrev pub IsReadWithin : Command → List ℕ → ℕ → Type 0
IsReadWithin (Checking file tree) name limit =
    ((name ≡ file) × (limit ≡ file_limit)) ⊎ ((name ≡ tree) × (limit ≡ tree_limit))
IsReadWithin (RankChecking file rank) name limit =
    ((name ≡ file) × (limit ≡ file_limit)) ⊎ ((name ≡ rank) × (limit ≡ tree_limit))
IsReadWithin (Table file tree) name limit =
    ((name ≡ file) × (limit ≡ file_limit)) ⊎ ((name ≡ tree) × (limit ≡ tree_limit))
IsReadWithin (Splitting file tree) name limit =
    ((name ≡ file) × (limit ≡ file_limit)) ⊎ ((name ≡ tree) × (limit ≡ tree_limit))
IsReadWithin (DrawingNetwork file tree scene) name limit =
    ((name ≡ file) × (limit ≡ file_limit)) ⊎ ((name ≡ tree) × (limit ≡ tree_limit))
IsReadWithin (Reporting file tree) name limit =
    ((name ≡ file) × (limit ≡ file_limit)) ⊎ ((name ≡ tree) × (limit ≡ tree_limit))
IsReadWithin (Json file tree) name limit =
    ((name ≡ file) × (limit ≡ file_limit)) ⊎ ((name ≡ tree) × (limit ≡ tree_limit))
IsReadWithin (Ranging file tree kind word budget) name limit =
    ((name ≡ file) × (limit ≡ file_limit)) ⊎ ((name ≡ tree) × (limit ≡ tree_limit))
IsReadWithin (RangingAll file tree budget) name limit =
    ((name ≡ file) × (limit ≡ file_limit)) ⊎ ((name ≡ tree) × (limit ≡ tree_limit))
IsReadWithin (PartingAgainst file inside outside budget tree) name limit =
    ((name ≡ file) × (limit ≡ file_limit)) ⊎ ((name ≡ tree) × (limit ≡ tree_limit))
IsReadWithin (Merging file tree parts) name limit =
    ((name ≡ file) × (limit ≡ file_limit))
    ⊎ (((name ≡ tree) ⊎ Contains parts name) × (limit ≡ tree_limit))
IsReadWithin command name limit = IsFileOf command name × (limit ≡ file_limit)

-- The files of the command are known and within their limits. Neither their counts of faults nor
-- those of the outputs rise.
pub record IsUndisturbed (old new : ShelfState) (before after : OutputsState)
    (command : Command) : Type 0 where
  pub held : (name : List ℕ) (limit : ℕ) → IsReadWithin command name limit
      → IsToldAnd (old.held name) (λ file. length file ≤ limit)
  pub read : (name : List ℕ) → IsFileOf command name → HasRisen (old.faults name) (new.faults name)
      → ⊥
  pub written : HasFault before after → ⊥

-- the statuses with which an undisturbed command may end
abbrev pub statuses_of : Command → List Status
statuses_of (Max file) = Done ∷ BadProblem ∷ Memory ∷ []
statuses_of (Axioms file units) = Done ∷ Refused ∷ BadProblem ∷ Memory ∷ []
statuses_of (Flows file units) = Done ∷ Refused ∷ Past ∷ BadProblem ∷ Memory ∷ []
statuses_of (Listing file after count) = Done ∷ BadToken ∷ BadProblem ∷ Memory ∷ []
statuses_of (Linting file) = Done ∷ BadProblem ∷ Memory ∷ []
statuses_of (Migrate file years) = Done ∷ NotMigrated ∷ BadProblem ∷ Memory ∷ []
statuses_of (Editing file script) = Done ∷ BadEdit ∷ BadProblem ∷ Memory ∷ []
statuses_of (Undoing file script) = Done ∷ BadEdit ∷ BadProblem ∷ Memory ∷ []
statuses_of (Checking file tree) = Done ∷ Refused ∷ BadProblem ∷ BadTree ∷ Memory ∷ []
statuses_of (RankChecking file rank) = Done ∷ Refused ∷ BadProblem ∷ BadTree ∷ Memory ∷ []
statuses_of (Table file tree) = Done ∷ BadClaim ∷ BadProblem ∷ BadTree ∷ Memory ∷ []
statuses_of (Splitting file tree) = Done ∷ BadClaim ∷ BadProblem ∷ BadTree ∷ Memory ∷ []
statuses_of (Expanding file plan) = Done ∷ BadPlan ∷ BadProblem ∷ Memory ∷ []
statuses_of (Drawing file) = Done ∷ BadProblem ∷ Memory ∷ []
statuses_of (DrawingNetwork file tree scene) =
    Done ∷ BadClaim ∷ BadProblem ∷ BadTree ∷ Memory ∷ []
statuses_of (Reporting file tree) = Done ∷ BadClaim ∷ BadProblem ∷ BadTree ∷ Memory ∷ []
statuses_of (Json file tree) = Done ∷ BadClaim ∷ BadProblem ∷ BadTree ∷ Memory ∷ []
statuses_of (Ranging file tree kind name budget) =
    Done ∷ BadClaim ∷ Spent ∷ Past ∷ BadProblem ∷ BadTree ∷ NotBest ∷ UnknownName ∷ Memory ∷ []
statuses_of (RangingAll file tree budget) =
    Done ∷ BadClaim ∷ BadProblem ∷ BadTree ∷ NotBest ∷ Memory ∷ []
statuses_of (Planning file plan budget) = Done ∷ Spent ∷ Past ∷ BadPlan ∷ BadProblem ∷ Memory ∷ []
statuses_of (Parting file inside outside budget) =
    Done ∷ Spent ∷ Past ∷ BadNode ∷ BadProblem ∷ Memory ∷ []
statuses_of (PartingAgainst file inside outside budget tree) =
    Done ∷ BadClaim ∷ Spent ∷ Past ∷ BadNode ∷ BadProblem ∷ BadTree ∷ Memory ∷ []
statuses_of (Merging file tree parts) =
    Done ∷ BadClaim ∷ NoLeaf ∷ BadProblem ∷ BadTree ∷ Memory ∷ []
statuses_of (Solving file budget) = Done ∷ Spent ∷ Past ∷ BadProblem ∷ Memory ∷ []
statuses_of (Showing file budget) = Done ∷ Spent ∷ Past ∷ BadProblem ∷ Memory ∷ []
statuses_of (Ranking file count budget) = Done ∷ Spent ∷ Past ∷ BadProblem ∷ Memory ∷ []
statuses_of (Alternatives file count budget) = Done ∷ Spent ∷ Past ∷ BadProblem ∷ Memory ∷ []
statuses_of (Trial number units budget) = Done ∷ Spent ∷ Past ∷ Memory ∷ []
statuses_of command = Done ∷ Memory ∷ []

-- P is true of whatever problem the file gives
abbrev pub OnGiven : (Problem → Type 0) → (List ℕ → Told) → List ℕ → Type 0
OnGiven P held name =
    (file : List ℕ) (p : Problem) → AreHeld (held name) file → GivesProblem file p → P p

-- nothing stops the search of the expanded problem, whatever plan the file gives for the problem
abbrev pub PlanCanFinish : ℕ → (List ℕ → Told) → List ℕ → Problem → Type 0
PlanCanFinish budget held name p =
    (file : List ℕ) (plan : Plan) → AreHeld (held name) file → GivesPlan p file plan
    → CanFinish budget (expanded p plan)

-- nothing stops the range of the named spot, whatever network the file claims
abbrev pub RangeCanFinish : SpotKind → List ℕ → ℕ → (List ℕ → Told) → List ℕ → Problem → Type 0
RangeCanFinish kind word budget held name p =
    (file : List ℕ) (text : HeadedCertificate) (w : Network) (spot : Spot)
    → AreHeld (held name) file → GivesHeaded p file text → text.claim ≡ network w
    → spot_named p kind word ≡ Some spot
    → CanRange budget p spot w

-- Nothing stops the search of the command before its end, whatever its files give. For `flows` the
-- search is the path of one program.
abbrev pub SearchCanFinish : (List ℕ → Told) → Command → Type 0
SearchCanFinish held (Solving name budget) = OnGiven (CanFinish budget) held name
SearchCanFinish held (Showing name budget) = OnGiven (CanFinish budget) held name
SearchCanFinish held (Ranking name count budget) = OnGiven (CanFinish budget) held name
SearchCanFinish held (Alternatives name count budget) = OnGiven (CanFinish budget) held name
SearchCanFinish held (Trial number units budget) = CanFinish budget (generated number units)
SearchCanFinish held (Parting name inside outside budget) = OnGiven (CanFinish budget) held name
SearchCanFinish held (PartingAgainst name inside outside budget tree) =
    OnGiven (CanFinish budget) held name
SearchCanFinish held (Planning name plan budget) =
    OnGiven (PlanCanFinish budget held plan) held name
SearchCanFinish held (Ranging name tree kind word budget) =
    OnGiven (RangeCanFinish kind word budget held tree) held name
SearchCanFinish held (Flows name units) = OnGiven (StaysInRange units) held name
SearchCanFinish held command = ⊥

-- a search finished: the status is neither `Spent` nor `Past`
abbrev pub IsNotStopped : Status → Type 0
IsNotStopped status = (status ≡ Spent → ⊥) × (status ≡ Past → ⊥)
