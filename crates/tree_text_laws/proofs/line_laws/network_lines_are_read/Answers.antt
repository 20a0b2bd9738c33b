use Rattle.tree_text_laws.proofs.ClaimLines.{network_line, sizes_line, cost_line}
use Rattle.tree_text_laws.proofs.line_laws.network_lines_are_read.Goals as goal

pub returns : goal.returns
returns c = λ p valid. let formed = (c.valid_is_well_formed.ensures p).0 valid in
    record { units = network_line p formed; sizes = sizes_line; cost = cost_line }
