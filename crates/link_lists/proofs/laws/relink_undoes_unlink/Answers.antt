use Rattle.link_lists.proofs.Vacancies.{relink_undoes_unlink}
use Rattle.link_lists.proofs.laws.relink_undoes_unlink.Goals as goal

pub returns : goal.returns
returns c = relink_undoes_unlink
