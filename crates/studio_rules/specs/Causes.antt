-- Why a call ends with a status that depends on its words and its files alone. The cause of each
-- status is in what the words are and in what the bytes of the files stand for. No line that is
-- printed is named here.
use Rattle.std.specs.Prelude.{◌≡◌, ◌<◌, ◌≤◌, ◌⊎◌, ℕ, true, List, [], ◌∷◌, Some, None, IsSome, Err}
use Rattle.std.specs.Prelude.{length, pos}
use Rattle.report_rules.specs.text_rules.Outside.{Told}
use Rattle.report_rules.specs.problem_rules.Problem.{Problem}
use Rattle.report_rules.specs.pns_rules.Shape.{shape_of}
use Rattle.report_rules.specs.text_rules.declared.TextKind.{TextKind}
use Rattle.report_rules.specs.edit_rules.Migration.{has_payout, out_of_range_at}
use Rattle.report_rules.specs.edit_rules.declared.EditKind.{EditKind}
use Rattle.plan_rules.specs.declared.PlanKind.{PlanKind}
use Rattle.plan_rules.specs.Meaning.{read_plan}
use Rattle.report_rules.specs.tree_rules.Claim.{Claim}
use Rattle.report_rules.specs.tree_rules.Accepted.{Tree}
use Rattle.report_rules.specs.tree_text_rules.declared.TreeKind.{TreeKind}
use Rattle.report_rules.specs.tree_text_rules.Read as trees
use Rattle.report_rules.specs.rank_rules.Read as ranks
use Rattle.report_rules.specs.rank_rules.Headed.{is_ranking}
use Rattle.report_rules.specs.RangeTable.{is_table, read_table}
use Rattle.report_rules.specs.tree_text_rules.Part.{Part}
use Rattle.report_rules.specs.tree_text_rules.PartRead.{PartReads}
use Rattle.report_rules.specs.declared.spot.SpotKind.{SpotKind}
use Rattle.studio_rules.specs.Reading.{AreHeld, GivesProblem, Reads, file_limit}
use Rattle.studio_rules.specs.Script.{HasEditFault}
use Rattle.studio_rules.specs.TreeFile.{GivesTree, tree_limit}
use Rattle.studio_rules.specs.HeadedFile.{GivesHeaded}
use Rattle.studio_rules.specs.TextFile.{by_kind}
use Rattle.studio_rules.specs.Listing.{IsBadToken}
use Rattle.studio_rules.specs.PartFile.{GivesPart}
use Rattle.studio_rules.specs.Start.{IsStart}
use Rattle.studio_rules.specs.Stable.{spot_named}
use Rattle.studio_rules.specs.Command.{Command, IsFileOf}
use Rattle.studio_rules.specs.Command.{Max, Axioms, Flows, Listing, Linting, Migrate, Editing}
use Rattle.studio_rules.specs.Command.{Undoing, Checking, RankChecking, Solving, Showing, Ranking}
use Rattle.studio_rules.specs.Command.{Table, Splitting, Expanding, Drawing, DrawingNetwork}
use Rattle.studio_rules.specs.Command.{Reporting, Json, Ranging, Planning, Parting, PartingAgainst}
use Rattle.studio_rules.specs.Command.{Merging, Alternatives, RangingAll}
use Rattle.studio_rules.specs.Ending.{IsOneOf}
use Rattle.studio_rules.specs.declared.status.Status.{Status}
use Rattle.studio_rules.specs.declared.status.Status.TheVariants.{BadProblem, ReadFault, WriteFault}
use Rattle.studio_rules.specs.declared.status.Status.TheVariants.{Memory, BadToken, BadTree}
use Rattle.studio_rules.specs.declared.status.Status.TheVariants.{BadEdit, TooLong, UnknownName}
use Rattle.studio_rules.specs.declared.status.Status.TheVariants.{NotMigrated, BadNode, BadPlan}

-- the statuses that have such a cause
abbrev pub caused : List Status
caused = BadProblem ∷ BadToken ∷ BadTree ∷ BadEdit ∷ TooLong ∷ UnknownName ∷ NotMigrated ∷ BadNode
    ∷ BadPlan ∷ []

-- ---- the text of a file

-- the file is above its limit, or it is within and its text has a first fault
abbrev pub FileCause : ℕ → Status → (List ℕ → Type 0) → List ℕ → Status → Type 0
FileCause limit bad HasFault file status =
    ((status ≡ TooLong) × (limit < length file))
    ⊎ ((status ≡ bad) × (length file ≤ limit) × HasFault file)

-- a first fault of the text of a problem, and of each other text for a problem
abbrev pub HasProblemFault : List ℕ → Type 0
HasProblemFault file = (line : ℕ) × (kind : TextKind) × Reads file (Err (line, kind))

abbrev pub HasScriptFault : Problem → List ℕ → Type 0
HasScriptFault p file = (line : ℕ) × (kind : EditKind) × HasEditFault p file line kind

abbrev pub HasPlanFault : Problem → List ℕ → Type 0
HasPlanFault p file = (line : ℕ) × (kind : PlanKind) × (read_plan p file ≡ Err (line, kind))

abbrev pub HasTreeFault : Problem → List ℕ → Type 0
HasTreeFault p file = (line : ℕ) × (kind : TreeKind) × (trees.read_text p file ≡ Err (line, kind))

abbrev pub HasHeadedFault : Problem → List ℕ → Type 0
HasHeadedFault p file =
    (line : ℕ) × (kind : TreeKind) × (trees.read_headed_text p file ≡ Err (line, kind))

abbrev pub HasRankFault : Problem → List ℕ → Type 0
HasRankFault p file = (line : ℕ) × (kind : TreeKind) × (ranks.read_text p file ≡ Err (line, kind))

-- of a tree that may have a head, or of a ranking if it is one by its first line
abbrev pub HasEitherFault : Problem → List ℕ → Type 0
HasEitherFault p file = by_kind (is_ranking file) (HasRankFault p file) (HasHeadedFault p file)

-- of a table of ranges, or else of a tree or of a ranking
abbrev pub HasTableFault : Problem → List ℕ → Type 0
HasTableFault p file = (line : ℕ) × (kind : TreeKind) × (read_table p file ≡ Err (line, kind))

abbrev pub HasAnyFault : Problem → List ℕ → Type 0
HasAnyFault p file = by_kind (is_table file) (HasTableFault p file) (HasEitherFault p file)

abbrev pub HasPartFault : Problem → List ℕ → Type 0
HasPartFault p file = (line : ℕ) × (kind : TreeKind) × PartReads p file (Err (line, kind))

-- ---- what is asked of a problem

abbrev pub NoCause : Problem → Status → Type 0
NoCause p status = ⊥

-- the word is neither `start` nor the token of a solution structure
abbrev pub TokenCause : List ℕ → Problem → Status → Type 0
TokenCause word p status = (status ≡ BadToken) × IsBadToken (shape_of p) word

-- The problem has a payout period or an investment cost, or the cost of a unit would leave its
-- range.
abbrev pub MigrationCause : ℕ → Problem → Status → Type 0
MigrationCause years p status =
    (status ≡ NotMigrated)
    × ((has_payout p ≡ true) ⊎ ((unit : ℕ) × (out_of_range_at (pos years) p ≡ Some unit)))

-- no material, or no unit, has the name
abbrev pub NameCause : SpotKind → List ℕ → Problem → Status → Type 0
NameCause kind name p status = (status ≡ UnknownName) × (spot_named p kind name ≡ None)

-- ---- the files in turn: the cause is the first file that is no good, or else in what they give

abbrev pub InFile : (Problem → Status → Type 0) → (List ℕ → Told) → List ℕ → Status → Type 0
InFile behind held name status =
    (file : List ℕ) × AreHeld (held name) file
    × (FileCause file_limit BadProblem HasProblemFault file status
    ⊎ ((p : Problem) × GivesProblem file p × behind p status))

-- a script, a plan or a ranking; nothing after it can be the cause
abbrev pub InScript : (List ℕ → Told) → List ℕ → Problem → Status → Type 0
InScript held name p status = (file : List ℕ) × AreHeld (held name) file
    × FileCause file_limit BadEdit (HasScriptFault p) file status

abbrev pub InPlan : (List ℕ → Told) → List ℕ → Problem → Status → Type 0
InPlan held name p status = (file : List ℕ) × AreHeld (held name) file
    × FileCause file_limit BadPlan (HasPlanFault p) file status

abbrev pub InRank : (List ℕ → Told) → List ℕ → Problem → Status → Type 0
InRank held name p status = (file : List ℕ) × AreHeld (held name) file
    × FileCause tree_limit BadTree (HasRankFault p) file status

abbrev pub InTree : (Problem → Status → Type 0) → (List ℕ → Told) → List ℕ → Problem → Status
    → Type 0
InTree behind held name p status =
    (file : List ℕ) × AreHeld (held name) file
    × (FileCause tree_limit BadTree (HasTreeFault p) file status
    ⊎ ((claim : Claim) × (tree : Tree) × GivesTree p file claim tree × behind p status))

-- a tree that may have a head
abbrev pub InHeaded : (Problem → Status → Type 0) → (List ℕ → Told) → List ℕ → Problem → Status
    → Type 0
InHeaded behind held name p status =
    (file : List ℕ) × AreHeld (held name) file
    × (FileCause tree_limit BadTree (HasHeadedFault p) file status
    ⊎ ((text : trees.HeadedCertificate) × GivesHeaded p file text × behind p status))

-- a tree or a ranking
abbrev pub InEither : (List ℕ → Told) → List ℕ → Problem → Status → Type 0
InEither held name p status = (file : List ℕ) × AreHeld (held name) file
    × FileCause tree_limit BadTree (HasEitherFault p) file status

-- a table, a tree or a ranking
abbrev pub InAny : (List ℕ → Told) → List ℕ → Problem → Status → Type 0
InAny held name p status = (file : List ℕ) × AreHeld (held name) file
    × FileCause tree_limit BadTree (HasAnyFault p) file status

abbrev pub InParts : (List ℕ → Told) → List (List ℕ) → Problem → Status → Type 0
InParts held [] p status = ⊥
InParts held (name ∷ names) p status =
    (file : List ℕ) × AreHeld (held name) file
    × (FileCause tree_limit BadTree (HasPartFault p) file status
    ⊎ ((part : Part) × GivesPart p file part × InParts held names p status))

-- two words that name no sound node, or else a node and the cause after it
abbrev pub AtNode : (Problem → Status → Type 0) → List ℕ → List ℕ → Problem → Status → Type 0
AtNode behind word other p status =
    ((status ≡ BadNode) × ((inside outside : List ℕ) → IsStart p word other inside outside → ⊥))
    ⊎ ((inside : List ℕ) × (outside : List ℕ) × IsStart p word other inside outside
    × behind p status)

-- ---- the cause

abbrev pub CauseOf : (List ℕ → Told) → Command → Status → Type 0
CauseOf held (Max file) status = InFile NoCause held file status
CauseOf held (Axioms file units) status = InFile NoCause held file status
CauseOf held (Flows file units) status = InFile NoCause held file status
CauseOf held (Listing file after count) status = InFile (TokenCause after) held file status
CauseOf held (Linting file) status = InFile NoCause held file status
CauseOf held (Migrate file years) status = InFile (MigrationCause years) held file status
CauseOf held (Editing file script) status = InFile (InScript held script) held file status
CauseOf held (Undoing file script) status = InFile (InScript held script) held file status
CauseOf held (Checking file tree) status = InFile (InHeaded NoCause held tree) held file status
CauseOf held (RankChecking file rank) status = InFile (InRank held rank) held file status
CauseOf held (Table file tree) status = InFile (InHeaded NoCause held tree) held file status
CauseOf held (Splitting file tree) status = InFile (InTree NoCause held tree) held file status
CauseOf held (Expanding file plan) status = InFile (InPlan held plan) held file status
CauseOf held (Drawing file) status = InFile NoCause held file status
CauseOf held (DrawingNetwork file tree scene) status =
    InFile (InEither held tree) held file status
CauseOf held (Reporting file tree) status = InFile (InEither held tree) held file status
CauseOf held (Json file tree) status = InFile (InAny held tree) held file status
CauseOf held (Ranging file tree kind name budget) status =
    InFile (InHeaded (NameCause kind name) held tree) held file status
CauseOf held (RangingAll file tree budget) status =
    InFile (InHeaded NoCause held tree) held file status
CauseOf held (Planning file plan budget) status = InFile (InPlan held plan) held file status
CauseOf held (Parting file inside outside budget) status =
    InFile (AtNode NoCause inside outside) held file status
CauseOf held (PartingAgainst file inside outside budget tree) status =
    InFile (AtNode (InTree NoCause held tree) inside outside) held file status
CauseOf held (Merging file tree parts) status =
    InFile (InTree (InParts held parts) held tree) held file status
CauseOf held (Solving file budget) status = InFile NoCause held file status
CauseOf held (Showing file budget) status = InFile NoCause held file status
CauseOf held (Ranking file count budget) status = InFile NoCause held file status
CauseOf held (Alternatives file count budget) status = InFile NoCause held file status
CauseOf held command status = ⊥

-- of each file of the command the shelf knows the bytes, or that there is none
abbrev pub AreTold : (List ℕ → Told) → Command → Type 0
AreTold held command = (name : List ℕ) → IsFileOf command name → IsSome (held name)

-- The call ends with the status only if the status has its cause. If it has, and the shelf knows
-- the files of the command, the call ends with it, unless reading, the sink or memory fails.
pub record IsExact (held : List ℕ → Told) (command : Command) (result status : Status) : Type
    0 where
  pub only : result ≡ status → CauseOf held command status
  pub always : AreTold held command → CauseOf held command status
      → IsOneOf (status ∷ ReadFault ∷ WriteFault ∷ Memory ∷ []) result

-- each status that has a cause is exact
abbrev pub EndsExactly : (List ℕ → Told) → Command → Status → Type 0
EndsExactly held command result = (status : Status) → IsOneOf caused status
    → IsExact held command result status
