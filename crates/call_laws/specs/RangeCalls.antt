-- `stable` agrees with `edit` and `solve`, over calls on shelves that keep the files.
use Rattle.std.specs.Prelude.{◌≡◌, ℕ, List, [], ◌∷◌}
use Rattle.studio.specs.problem_rules.Problem.{Problem}
use Rattle.studio.specs.edit_rules.Edit.{Edit}
use Rattle.studio.specs.edit_rules.Printed.{script_text}
use Rattle.studio.specs.tree_rules.Claim.{CostOver}
use Rattle.studio.specs.report_rules.declared.spot.SpotKind.{SpotKind}
use Rattle.studio.specs.studio_rules.Command.{Editing, Solving, Ranging}
use Rattle.studio.specs.studio_rules.Lines.{text_of}
use Rattle.studio.specs.Calls.{Call, Calls, Puts, Holds}
use Rattle.call_laws.specs.Costs.{PrintsCost}
use Rattle.call_laws.specs.Ranges.{RangeIsSolved}

-- What a call of `edit` put out of a problem file, for the script of the edit, is kept as `edited`.
-- What a call of `solve` then puts out of the problem q claims a network of this cost.
abbrev pub CallsCost : List ℕ → Edit → Problem → CostOver → Type 0
CallsCost bytes edit q much =
    (editing solving : Call) (file script edited : List ℕ) (budget : ℕ) (changed solved : List ℕ)
    → Calls editing (Editing file script) → Puts editing changed → Holds editing file bytes
    → Holds editing script (script_text (edit ∷ []))
    → Calls solving (Solving edited budget) → Puts solving solved → Holds solving edited changed
    → (lines : List (List ℕ)) × (solved ≡ text_of lines) × PrintsCost q much lines

-- Each range that a call of `stable` puts out is solved so.
abbrev pub StableAgrees : Type 0
StableAgrees =
    (ranging : Call) (file bytes tree : List ℕ) (kind : SpotKind) (name : List ℕ) (budget : ℕ)
    (text : List ℕ)
    → Calls ranging (Ranging file tree kind name budget) → Puts ranging text
    → Holds ranging file bytes
    → (lines : List (List ℕ)) × (text ≡ text_of lines)
    × RangeIsSolved CallsCost ranging.shelf_before.held bytes tree kind name lines
