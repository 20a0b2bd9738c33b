-- The law of listed structures over calls of `studio` that read one plant.
use Rattle.std.specs.Prelude.{◌≡◌, ℕ, List, Option}
use Rattle.studio.specs.problem_rules.Each.{Each}
use Rattle.studio.specs.edit_rules.Formed.{IsName}
use Rattle.studio.specs.tree_rules.Claim.{CostOver}
use Rattle.studio.specs.tree_rules.Costs.{HasFallen}
use Rattle.studio.specs.studio_rules.Lines.{text_of}
use Rattle.studio.specs.studio_rules.Command.{Flows, Listing, Solving}
use Rattle.studio.specs.Calls.{Call, Calls, Puts, Holds}
use Rattle.call_laws.specs.OptimumLaws.{FlowsTell, SolveTells, Lists}

-- the text has lines that give the cost
abbrev pub TextTells : (List (List ℕ) → Option CostOver → Type 0) → List ℕ → Option CostOver
    → Type 0
TextTells Tell text v = (lines : List (List ℕ)) × (text ≡ text_of lines) × Tell lines v

-- What a call of `list` puts out has lines. For the units of each line that is one of a structure,
-- a call of `flows` prints a cost that is at least that of a call of `solve`.
abbrev pub CallsAgree : Type 0
CallsAgree =
    (solving listing : Call) (file bytes after : List ℕ) (count budget : ℕ) (solved listed : List ℕ)
    → Holds solving file bytes → Calls solving (Solving file budget) → Puts solving solved
    → Holds listing file bytes → Calls listing (Listing file after count) → Puts listing listed
    → (lines : List (List ℕ)) × (listed ≡ text_of lines)
    × ((names : List (List ℕ)) → Each IsName names → Lists lines names
    → (flowing : Call) (flowed : List ℕ)
    → Holds flowing file bytes → Calls flowing (Flows file names) → Puts flowing flowed
    → (v w : Option CostOver) × TextTells FlowsTell flowed v × TextTells SolveTells solved w
    × HasFallen v w)
