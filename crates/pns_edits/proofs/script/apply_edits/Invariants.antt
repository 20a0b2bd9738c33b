use Rattle.pns_edits.proofs.ScriptSteps.{IsAppliedAt}
use Rattle.pns_edits.proofs.script.apply_edits.Given as goal

abbrev pub invariant-applying : goal.invariant-applying
invariant-applying l = IsAppliedAt l.fn.parts l.parts l.edits l.back.items l.at
