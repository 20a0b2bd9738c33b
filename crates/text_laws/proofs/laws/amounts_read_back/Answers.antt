use Rattle.text_laws.proofs.PrintedAmount.{amounts_read_back as law}
use Rattle.text_laws.proofs.laws.amounts_read_back.Goals as goal

pub returns : goal.returns
returns c = law
