use Rattle.path_laws.proofs.TableauLawLemmas as law
use Rattle.path_laws.proofs.tableaux.tableau_is_one.Goals as goal

pub returns : goal.returns
returns c = law.tableau_is_one
