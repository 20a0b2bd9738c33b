use Rattle.report_commands.proofs.json_lines.network_text.Goals as goal

pub returns : goal.returns
returns c = (c.in_ok-marginals.marginals, c.in_ok-marginals.ensures, c.in_ok-bytes.ensures)
