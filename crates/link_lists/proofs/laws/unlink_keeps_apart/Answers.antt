use Rattle.link_lists.proofs.Vacancies.{unlink_keeps_apart}
use Rattle.link_lists.proofs.laws.unlink_keeps_apart.Goals as goal

pub returns : goal.returns
returns c = unlink_keeps_apart
