use Rattle.tree_text_laws.proofs.NodeLines.{root_lines, option_lines, step_back, step_again}
use Rattle.tree_text_laws.proofs.NodeLines.{end_lines, set_back, set_again, front_back, front_again}
use Rattle.tree_text_laws.proofs.line_laws.node_lines_are_read.Goals as goal

pub returns : goal.returns
returns c = λ p valid. let formed = (c.valid_is_well_formed.ensures p).0 valid in record {
  root = root_lines p formed;
  options = option_lines p formed;
  step_back = step_back p formed;
  step_again = step_again p formed;
  ends = end_lines p formed;
  set_back = set_back p formed;
  set_again = set_again p formed;
  front_back = front_back p formed;
  front_again = front_again p formed;
}
