-- The commands, and the forms of the words that call them.
use Rattle.std.specs.Prelude.{◌≡◌, ◌≤◌, ◌⊎◌, ◌==◌, ◌&&◌, ◌||◌, ◌*◌, nat_le, ℕ, Bool, true, false}
use Rattle.std.specs.Prelude.{List, [], ◌∷◌, Option, Some, None, IsSomeAnd, length, codes, not}
use Rattle.std.specs.Prelude.{option_map, if◌then◌else◌}
use Rattle.std.specs.List.{list_all, slice_split, Contains}
use Rattle.std.specs.Str.{bytes_eq, byte}
use Rattle.report_rules.specs.problem_rules.Names.{is_name, has_double}
use Rattle.studio_rules.specs.PageLines.{IsOfLines}
use Rattle.studio_rules.specs.Overview.{overview, version}
use Rattle.studio_rules.specs.Pages.{page_text, command_text}
use Rattle.report_rules.specs.declared.spot.SpotKind.{SpotKind}
use Rattle.report_rules.specs.declared.spot.SpotKind.TheVariants as kinds
use Rattle.studio_rules.specs.declared.scene.Scene.{Scene}
use Rattle.studio_rules.specs.declared.scene.Scene.TheVariants as scenes
use Rattle.studio_rules.specs.Numeral.{number_within, last_byte, but_last}

-- A command with its words: FILE, the names of UNITS, AFTER and COUNT, NUMBER and the count of
-- units, YEARS, SCRIPT, TREE, RANK, PLAN, N, BUDGET, KIND and NAME, INSIDE and OUTSIDE, the parts
-- of a tree. Or the text of the program itself that the words ask for.
pub data Command : Type 0 where
  Max : List ℕ → Command
  Axioms : List ℕ → List (List ℕ) → Command
  Flows : List ℕ → List (List ℕ) → Command
  Listing : List ℕ → List ℕ → ℕ → Command
  Linting : List ℕ → Command
  Make : ℕ → ℕ → Command
  Migrate : List ℕ → ℕ → Command
  Editing Undoing : List ℕ → List ℕ → Command
  Checking : List ℕ → List ℕ → Command
  RankChecking : List ℕ → List ℕ → Command
  Table : List ℕ → List ℕ → Command
  Splitting : List ℕ → List ℕ → Command
  Expanding : List ℕ → List ℕ → Command
  Drawing : List ℕ → Command
  DrawingNetwork : List ℕ → List ℕ → Scene → Command
  Reporting : List ℕ → List ℕ → Command
  Json : List ℕ → List ℕ → Command
  Ranging : List ℕ → List ℕ → SpotKind → List ℕ → ℕ → Command
  RangingAll : List ℕ → List ℕ → ℕ → Command
  Planning : List ℕ → List ℕ → ℕ → Command
  Parting : List ℕ → List ℕ → List ℕ → ℕ → Command
  PartingAgainst : List ℕ → List ℕ → List ℕ → ℕ → List ℕ → Command
  Merging : List ℕ → List ℕ → List (List ℕ) → Command
  Solving : List ℕ → ℕ → Command
  Showing : List ℕ → ℕ → Command
  Ranking Alternatives : List ℕ → ℕ → ℕ → Command
  Trial : ℕ → ℕ → ℕ → Command
  Telling : List ℕ → Command

-- the names of UNITS: none for `-`, else those between the commas, which are names and distinct
abbrev pub unit_names_of : List ℕ → Option (List (List ℕ))
unit_names_of word =
    if bytes_eq word (codes "-") then Some []
    else if list_all is_name (slice_split (λ c. c == byte ",") word) && not
    (has_double (slice_split (λ c. c == byte ",") word)) then
    Some (slice_split (λ c. c == byte ",") word)
    else None

-- COUNT is from 1 to 1,000,000,000
abbrev pub count_of : List ℕ → Option ℕ
count_of = number_within 1 1000000000

-- NUMBER is any number of 64 bits, the count of units from 1 to 128, YEARS from 1 to 100, N from 1
-- to 1,000.
abbrev pub seed_of : List ℕ → Option ℕ
seed_of = number_within 0 18446744073709551615

abbrev pub unit_count_of : List ℕ → Option ℕ
unit_count_of = number_within 1 128

abbrev pub years_of : List ℕ → Option ℕ
years_of = number_within 1 100

abbrev pub rank_count_of : List ℕ → Option ℕ
rank_count_of = number_within 1 1000

-- BUDGET is from 1 to 1,000,000: a number, or one in thousands followed by `k`, or in millions
-- followed by `M`.
abbrev pub nodes_of : List ℕ → Option ℕ
nodes_of = number_within 1 1000000

abbrev pub budget_of : List ℕ → Option ℕ
budget_of word =
    if last_byte word == byte "k" then option_map (λ thousands. 1000 * thousands)
    (number_within 1 1000 (but_last word))
    else if last_byte word == byte "M" then option_map (λ millions. 1000000 * millions)
    (number_within 1 1 (but_last word))
    else nodes_of word

-- the BUDGET of a call that gives none is the greatest one
abbrev pub full_budget : ℕ
full_budget = 1000000

-- a listing without AFTER and COUNT begins with the first structure, and has at most so many
abbrev pub first_listing : List ℕ → Command
first_listing file = Listing file (codes "start") 1000

-- FILE, SCRIPT, TREE, RANK, PLAN and PART are any words but the empty one; `-` is standard input
abbrev pub is_file_word : List ℕ → Bool
is_file_word word = not (length word == 0)

abbrev pub is_input : List ℕ → Bool
is_input word = bytes_eq word (codes "-")

-- Words that are files of one call. Standard input is read once: none of them is `-` if it is taken
-- already, and at most one if it is not.
abbrev pub are_files_where : Bool → List (List ℕ) → Bool
are_files_where taken [] = true
are_files_where taken (word ∷ words) =
    is_file_word word && not (taken && is_input word) && are_files_where (taken || is_input word)
    words

abbrev pub are_files : List (List ℕ) → Bool
are_files = are_files_where false

-- a problem is made by two numbers
abbrev pub made_by : Option ℕ → Option ℕ → Option Command
made_by (Some number) (Some units) = Some (Make number units)
made_by number units = None

-- and so is the problem of a trial, with a budget
abbrev pub tried_by : Option ℕ → Option ℕ → Option ℕ → Option Command
tried_by (Some number) (Some units) (Some budget) = Some (Trial number units budget)
tried_by number units budget = None

-- the best networks of a file are ranked, so many of them, within a budget
abbrev pub ranked_by : List ℕ → Option ℕ → Option ℕ → Option Command
ranked_by file (Some count) (Some budget) = Some (Ranking file count budget)
ranked_by file count budget = None

-- and so are the best of those that differ
abbrev pub alternatives_by : List ℕ → Option ℕ → Option ℕ → Option Command
alternatives_by file (Some count) (Some budget) = Some (Alternatives file count budget)
alternatives_by file count budget = None

-- KIND: what is varied, a price or a cost
abbrev pub kind_of : List ℕ → Option SpotKind
kind_of kind =
    if bytes_eq kind (codes "price") then Some kinds.Price
    else if bytes_eq kind (codes "fix") then Some kinds.Fix
    else if bytes_eq kind (codes "proportional") then Some kinds.Proportional
    else None

-- the range of one price or cost is found for a network, within a budget
abbrev pub ranged_by : List ℕ → List ℕ → Option SpotKind → List ℕ → Option ℕ → Option Command
ranged_by file tree (Some kind) name (Some budget) = Some (Ranging file tree kind name budget)
ranged_by file tree kind name budget = None

-- the last word of `graph` says that the network is drawn alone
abbrev pub scene_of : List ℕ → Option Scene
scene_of word = if bytes_eq word (codes "network") then Some scenes.Network else None

-- the commands of a file and a second file
abbrev pub with_file : List ℕ → List ℕ → List ℕ → Option Command
with_file word file second =
    if bytes_eq word (codes "edit") then Some (Editing file second)
    else if bytes_eq word (codes "undo") then Some (Undoing file second)
    else if bytes_eq word (codes "check") then Some (Checking file second)
    else if bytes_eq word (codes "rankcheck") then Some (RankChecking file second)
    else if bytes_eq word (codes "table") then Some (Table file second)
    else if bytes_eq word (codes "split") then Some (Splitting file second)
    else if bytes_eq word (codes "expand") then Some (Expanding file second)
    else if bytes_eq word (codes "graph") then Some
    (DrawingNetwork file second scenes.Plant)
    else if bytes_eq word (codes "report") then Some (Reporting file second)
    else if bytes_eq word (codes "json") then Some (Json file second)
    else if bytes_eq word (codes "periods") then Some (Planning file second full_budget)
    else if bytes_eq word (codes "stable") then Some (RangingAll file second full_budget)
    else None

-- the commands of a file and one more word
abbrev pub on_file : List ℕ → List ℕ → List ℕ → Option Command
on_file word file second =
    if bytes_eq word (codes "axioms") then option_map (Axioms file) (unit_names_of second)
    else if bytes_eq word (codes "flows") then option_map (Flows file) (unit_names_of second)
    else if bytes_eq word (codes "migrate") then option_map (Migrate file) (years_of second)
    else if bytes_eq word (codes "solve") then option_map (Solving file) (budget_of second)
    else if bytes_eq word (codes "show") then option_map (Showing file) (budget_of second)
    else if bytes_eq word (codes "rank") then ranked_by file (rank_count_of second)
    (Some full_budget)
    else if bytes_eq word (codes "alternatives") then alternatives_by file (rank_count_of second)
    (Some full_budget)
    else if are_files (file ∷ second ∷ []) then with_file word file second
    else None

-- the commands of a file alone
abbrev pub of_file : List ℕ → List ℕ → Option Command
of_file word file =
    if bytes_eq word (codes "max") then Some (Max file)
    else if bytes_eq word (codes "graph") then Some (Drawing file)
    else if bytes_eq word (codes "lint") then Some (Linting file)
    else if bytes_eq word (codes "list") then Some (first_listing file)
    else if bytes_eq word (codes "solve") then Some (Solving file full_budget)
    else if bytes_eq word (codes "show") then Some (Showing file full_budget)
    else None

-- help and the version, by any of their spellings
abbrev pub is_help_word : List ℕ → Bool
is_help_word word =
    bytes_eq word (codes "help") || bytes_eq word (codes "--help") || bytes_eq word (codes "-h")

abbrev pub is_version_word : List ℕ → Bool
is_version_word word =
    bytes_eq word (codes "version") || bytes_eq word (codes "--version") || bytes_eq word
    (codes "-V")

-- the page of a command, asked for by `--help` or `-h` right after it, whatever follows
abbrev pub is_page_word : List ℕ → Bool
is_page_word word = bytes_eq word (codes "--help") || bytes_eq word (codes "-h")

abbrev pub page_asked : List (List ℕ) → Option Command
page_asked (word ∷ next ∷ words) =
    if is_page_word next then option_map Telling (command_text word) else None
page_asked words = None

-- what a word asks for that is the only one
abbrev pub alone : List ℕ → Option Command
alone word =
    if is_help_word word then Some (Telling overview)
    else if is_version_word word then Some (Telling version)
    else None

-- a tree and the parts that are put back into it, at most a hundred
abbrev pub merging_of : List (List ℕ) → Option Command
merging_of (word ∷ file ∷ tree ∷ part ∷ parts) =
    if bytes_eq word (codes "merge") && are_files (file ∷ tree ∷ part ∷ parts) && nat_le
    (length (part ∷ parts)) 100 then
    Some (Merging file tree (part ∷ parts))
    else None
merging_of words = None

-- the forms of five and of six words
abbrev pub long_form_of : List (List ℕ) → Option Command
long_form_of (word ∷ first ∷ second ∷ third ∷ fourth ∷ []) =
    if bytes_eq word (codes "part") && is_file_word first then option_map
    (Parting first second third) (budget_of fourth)
    else if bytes_eq word (codes "stable") && are_files (first ∷ second ∷ []) then ranged_by first
    second (kind_of third) fourth (Some full_budget)
    else None
long_form_of (word ∷ first ∷ second ∷ third ∷ fourth ∷ fifth ∷ []) =
    if bytes_eq word (codes "part") && are_files (first ∷ fifth ∷ []) then
    option_map (λ budget. PartingAgainst first second third budget fifth) (budget_of fourth)
    else if bytes_eq word (codes "stable") && are_files (first ∷ second ∷ []) then
    ranged_by first second (kind_of third) fourth (budget_of fifth)
    else None
long_form_of words = None

-- the forms of the other commands, by the number of their words
abbrev pub form_of : List (List ℕ) → Option Command
form_of (word ∷ []) = alone word
form_of (word ∷ file ∷ []) =
    if bytes_eq word (codes "help") then option_map Telling (page_text file)
    else if is_file_word file then of_file word file
    else None
form_of (word ∷ first ∷ second ∷ []) =
    if bytes_eq word (codes "make") then made_by (seed_of first) (unit_count_of second)
    else if bytes_eq word (codes "trial") then tried_by (seed_of first) (unit_count_of second)
    (Some full_budget)
    else if is_file_word first then on_file word first second
    else None
form_of (word ∷ first ∷ second ∷ third ∷ []) =
    if bytes_eq word (codes "trial") then tried_by (seed_of first) (unit_count_of second)
    (budget_of third)
    else if bytes_eq word (codes "list") && is_file_word first then option_map
    (Listing first second) (count_of third)
    else if bytes_eq word (codes "periods") && are_files (first ∷ second ∷ []) then option_map
    (Planning first second) (budget_of third)
    else if bytes_eq word (codes "stable") && are_files (first ∷ second ∷ []) then option_map
    (RangingAll first second) (budget_of third)
    else if bytes_eq word (codes "graph") && are_files (first ∷ second ∷ []) then option_map
    (DrawingNetwork first second) (scene_of third)
    else if bytes_eq word (codes "rank") && is_file_word first then ranked_by first
    (rank_count_of second) (budget_of third)
    else if bytes_eq word (codes "alternatives") && is_file_word first then alternatives_by first
    (rank_count_of second) (budget_of third)
    else if bytes_eq word (codes "part") && is_file_word first then Some
    (Parting first second third full_budget)
    else None
form_of words = long_form_of words

-- the first command, or else the second
abbrev pub or_else : Option Command → Option Command → Option Command
or_else (Some command) other = Some command
or_else None other = other

-- the command that the words are, if they have a form
abbrev pub command_of : List (List ℕ) → Option Command
command_of words = or_else (page_asked words) (or_else (merging_of words) (form_of words))

-- the words that a form gives as files
abbrev pub IsFileOf : Command → List ℕ → Type 0
IsFileOf (Max file) name = name ≡ file
IsFileOf (Axioms file units) name = name ≡ file
IsFileOf (Flows file units) name = name ≡ file
IsFileOf (Listing file after count) name = name ≡ file
IsFileOf (Linting file) name = name ≡ file
IsFileOf (Migrate file years) name = name ≡ file
IsFileOf (Editing file script) name = (name ≡ file) ⊎ (name ≡ script)
IsFileOf (Undoing file script) name = (name ≡ file) ⊎ (name ≡ script)
IsFileOf (Checking file tree) name = (name ≡ file) ⊎ (name ≡ tree)
IsFileOf (RankChecking file rank) name = (name ≡ file) ⊎ (name ≡ rank)
IsFileOf (Table file tree) name = (name ≡ file) ⊎ (name ≡ tree)
IsFileOf (Splitting file tree) name = (name ≡ file) ⊎ (name ≡ tree)
IsFileOf (Expanding file plan) name = (name ≡ file) ⊎ (name ≡ plan)
IsFileOf (Drawing file) name = name ≡ file
IsFileOf (DrawingNetwork file tree scene) name = (name ≡ file) ⊎ (name ≡ tree)
IsFileOf (Reporting file tree) name = (name ≡ file) ⊎ (name ≡ tree)
IsFileOf (Json file tree) name = (name ≡ file) ⊎ (name ≡ tree)
IsFileOf (Ranging file tree kind word budget) name = (name ≡ file) ⊎ (name ≡ tree)
IsFileOf (RangingAll file tree budget) name = (name ≡ file) ⊎ (name ≡ tree)
IsFileOf (Planning file plan budget) name = (name ≡ file) ⊎ (name ≡ plan)
IsFileOf (Parting file inside outside budget) name = name ≡ file
IsFileOf (PartingAgainst file inside outside budget tree) name = (name ≡ file) ⊎ (name ≡ tree)
IsFileOf (Merging file tree parts) name = (name ≡ file) ⊎ ((name ≡ tree) ⊎ Contains parts name)
IsFileOf (Solving file budget) name = name ≡ file
IsFileOf (Showing file budget) name = name ≡ file
IsFileOf (Ranking file count budget) name = name ≡ file
IsFileOf (Alternatives file count budget) name = name ≡ file
IsFileOf command name = ⊥

-- The numbers of a command are within the bounds of its words. A text of the program is one of
-- whole lines.
abbrev pub AreWithin : Command → Type 0
AreWithin (Make number units) = (1 ≤ units) × (units ≤ 128)
AreWithin (Migrate file years) = (1 ≤ years) × (years ≤ 100)
AreWithin (Solving file budget) = (1 ≤ budget) × (budget ≤ 1000000)
AreWithin (Showing file budget) = (1 ≤ budget) × (budget ≤ 1000000)
AreWithin (Ranging file tree kind name budget) = (1 ≤ budget) × (budget ≤ 1000000)
AreWithin (RangingAll file tree budget) = (1 ≤ budget) × (budget ≤ 1000000)
AreWithin (Planning file plan budget) = (1 ≤ budget) × (budget ≤ 1000000)
AreWithin (Parting file inside outside budget) = (1 ≤ budget) × (budget ≤ 1000000)
AreWithin (PartingAgainst file inside outside budget tree) = (1 ≤ budget) × (budget ≤ 1000000)
AreWithin (Ranking file count budget) =
    ((1 ≤ count) × (count ≤ 1000)) × ((1 ≤ budget) × (budget ≤ 1000000))
AreWithin (Alternatives file count budget) =
    ((1 ≤ count) × (count ≤ 1000)) × ((1 ≤ budget) × (budget ≤ 1000000))
AreWithin (Trial number units budget) =
    ((1 ≤ units) × (units ≤ 128)) × ((1 ≤ budget) × (budget ≤ 1000000))
AreWithin (Telling text) = IsOfLines text
AreWithin command = Unit {0}

abbrev pub IsFileWord : List (List ℕ) → List ℕ → Type 0
IsFileWord words name = IsSomeAnd (command_of words) (λ command. IsFileOf command name)
