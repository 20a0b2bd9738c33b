use Rattle.flow_evaluator.proofs.DecidedLemmas.{is_sound, is_decided}
use Rattle.flow_evaluator.proofs.laws.allowed_is_decided.Goals as goal

pub returns : goal.returns
returns c =
    λ p valid us structure allowed.
    (is_sound p us structure, is_decided p us structure (c.valid_is_proper.ensures p valid) allowed)
