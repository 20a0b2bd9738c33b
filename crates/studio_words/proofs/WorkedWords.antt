-- Words of calls, and the commands that they are, by computation.
use Rattle.std.proofs.Common.{◌≡◌, [], ◌∷◌, Some, None, codes, option_map, refl}
use Rattle.studio_rules.specs.Pages.{command_text}
use Rattle.studio_rules.specs.Command.{command_of, budget_of, Max, Listing, Linting, Solving}
use Rattle.studio_rules.specs.Command.{Alternatives}
use Rattle.studio_rules.specs.Command.{Ranking, Planning, Parting, PartingAgainst, Ranging, Trial}
use Rattle.studio_rules.specs.Command.{Checking, Merging, Flows, Telling, RangingAll}
use Rattle.studio_rules.specs.Command.{DrawingNetwork}
use Rattle.studio_rules.specs.declared.scene.Scene.TheVariants as scenes
use Rattle.studio_rules.specs.report_rules.declared.spot.SpotKind.TheVariants as kinds

-- budgets
thousands : budget_of (codes "10k") ≡ Some 10000
thousands = refl

all_thousands : budget_of (codes "1000k") ≡ Some 1000000
all_thousands = refl

million : budget_of (codes "1M") ≡ Some 1000000
million = refl

plain_budget : budget_of (codes "100") ≡ Some 100
plain_budget = refl

letter_alone : budget_of (codes "k") ≡ None
letter_alone = refl

leading_zero : budget_of (codes "01k") ≡ None
leading_zero = refl

capital_thousand : budget_of (codes "1K") ≡ None
capital_thousand = refl

small_million : budget_of (codes "1m") ≡ None
small_million = refl

too_many_thousands : budget_of (codes "1001k") ≡ None
too_many_thousands = refl

too_many_millions : budget_of (codes "2M") ≡ None
too_many_millions = refl

no_thousands : budget_of (codes "0k") ≡ None
no_thousands = refl

no_budget : budget_of [] ≡ None
no_budget = refl

-- words that may be left out
solve_alone : command_of (codes "solve" ∷ codes "a" ∷ []) ≡ Some (Solving (codes "a") 1000000)
solve_alone = refl

solve_of_thousands : command_of (codes "solve" ∷ codes "a" ∷ codes "10k" ∷ [])
    ≡ Some (Solving (codes "a") 10000)
solve_of_thousands = refl

rank_alone : command_of (codes "rank" ∷ codes "a" ∷ codes "3" ∷ [])
    ≡ Some (Ranking (codes "a") 3 1000000)
rank_alone = refl

alternatives_alone : command_of (codes "alternatives" ∷ codes "a" ∷ codes "3" ∷ [])
    ≡ Some (Alternatives (codes "a") 3 1000000)
alternatives_alone = refl

periods_alone : command_of (codes "periods" ∷ codes "a" ∷ codes "p" ∷ [])
    ≡ Some (Planning (codes "a") (codes "p") 1000000)
periods_alone = refl

trial_alone : command_of (codes "trial" ∷ codes "0" ∷ codes "3" ∷ []) ≡ Some (Trial 0 3 1000000)
trial_alone = refl

stable_alone : command_of (codes "stable" ∷ codes "a" ∷ codes "t" ∷ codes "fix" ∷ codes "U2" ∷ [])
    ≡ Some (Ranging (codes "a") (codes "t") kinds.Fix (codes "U2") 1000000)
stable_alone = refl

stable_of_all : command_of (codes "stable" ∷ codes "a" ∷ codes "t" ∷ [])
    ≡ Some (RangingAll (codes "a") (codes "t") 1000000)
stable_of_all = refl

stable_of_all_within : command_of (codes "stable" ∷ codes "a" ∷ codes "t" ∷ codes "10k" ∷ [])
    ≡ Some (RangingAll (codes "a") (codes "t") 10000)
stable_of_all_within = refl

stable_without_name : command_of (codes "stable" ∷ codes "a" ∷ codes "t" ∷ codes "fix" ∷ []) ≡ None
stable_without_name = refl

graph_of_tree : command_of (codes "graph" ∷ codes "a" ∷ codes "t" ∷ [])
    ≡ Some (DrawingNetwork (codes "a") (codes "t") scenes.Plant)
graph_of_tree = refl

graph_of_network : command_of (codes "graph" ∷ codes "a" ∷ codes "t" ∷ codes "network" ∷ [])
    ≡ Some (DrawingNetwork (codes "a") (codes "t") scenes.Network)
graph_of_network = refl

graph_of_more : command_of (codes "graph" ∷ codes "a" ∷ codes "t" ∷ codes "networks" ∷ []) ≡ None
graph_of_more = refl

part_alone : command_of (codes "part" ∷ codes "a" ∷ codes "4" ∷ codes "8" ∷ [])
    ≡ Some (Parting (codes "a") (codes "4") (codes "8") 1000000)
part_alone = refl

list_alone : command_of (codes "list" ∷ codes "a" ∷ [])
    ≡ Some (Listing (codes "a") (codes "start") 1000)
list_alone = refl

list_without_count : command_of (codes "list" ∷ codes "a" ∷ codes "start" ∷ []) ≡ None
list_without_count = refl

-- the page of a command
page_behind : command_of (codes "solve" ∷ codes "--help" ∷ [])
    ≡ option_map Telling (command_text (codes "solve"))
unfolding command_text
page_behind = refl

page_whatever_follows : command_of
    (codes "merge" ∷ codes "-h" ∷ codes "a" ∷ codes "b" ∷ codes "c" ∷ [])
    ≡ option_map Telling (command_text (codes "merge"))
unfolding command_text
page_whatever_follows = refl

-- standard input is one file of a call at most
input_first : command_of (codes "check" ∷ codes "-" ∷ codes "t" ∷ [])
    ≡ Some (Checking (codes "-") (codes "t"))
input_first = refl

input_second : command_of (codes "check" ∷ codes "a" ∷ codes "-" ∷ [])
    ≡ Some (Checking (codes "a") (codes "-"))
input_second = refl

input_twice : command_of (codes "check" ∷ codes "-" ∷ codes "-" ∷ []) ≡ None
input_twice = refl

lint_alone : command_of (codes "lint" ∷ codes "a.pns" ∷ []) ≡ Some (Linting (codes "a.pns"))
lint_alone = refl

input_alone : command_of (codes "max" ∷ codes "-" ∷ []) ≡ Some (Max (codes "-"))
input_alone = refl

no_file_word : command_of (codes "flows" ∷ codes "-" ∷ codes "-" ∷ []) ≡ Some (Flows (codes "-") [])
no_file_word = refl

no_tokens : command_of
    (codes "part" ∷ codes "-" ∷ codes "-" ∷ codes "-" ∷ codes "5" ∷ codes "t" ∷ [])
    ≡ Some (PartingAgainst (codes "-") (codes "-") (codes "-") 5 (codes "t"))
no_tokens = refl

part_input_twice : command_of
    (codes "part" ∷ codes "-" ∷ codes "4" ∷ codes "8" ∷ codes "5" ∷ codes "-" ∷ []) ≡ None
part_input_twice = refl

merge_input : command_of (codes "merge" ∷ codes "a" ∷ codes "t" ∷ codes "-" ∷ codes "p" ∷ [])
    ≡ Some (Merging (codes "a") (codes "t") (codes "-" ∷ codes "p" ∷ []))
merge_input = refl

merge_input_twice : command_of (codes "merge" ∷ codes "a" ∷ codes "t" ∷ codes "-" ∷ codes "-" ∷ [])
    ≡ None
merge_input_twice = refl
