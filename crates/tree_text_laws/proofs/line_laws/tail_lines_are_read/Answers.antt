use Rattle.tree_text_laws.proofs.TailLines.{nonbasic_line, place_line, close_line}
use Rattle.tree_text_laws.proofs.line_laws.tail_lines_are_read.Goals as goal

pub returns : goal.returns
returns c = λ p valid. let formed = (c.valid_is_well_formed.ensures p).0 valid in
    record { nonbasic = nonbasic_line p formed; place = place_line p formed; end = close_line }
