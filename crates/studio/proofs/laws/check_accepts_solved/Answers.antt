use Rattle.studio.proofs.Calls.{check_accepts_solved}
use Rattle.studio.proofs.laws.check_accepts_solved.Goals as goal

pub returns : goal.returns
returns c = check_accepts_solved c.solved_is_accepted.ensures
