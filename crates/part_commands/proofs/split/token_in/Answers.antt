use Rattle.std.proofs.Common.{IfOk, string_bytes, ◌≡◌, List, ℕ, sym, subst}
use Rattle.network_commands.proofs.number_sets.Cited.{listed-is}
use Rattle.network_commands.specs.pns_rules.Tokens.{token_of}
use Rattle.part_commands.proofs.split.token_in.Goals as goal

pub returns : goal.returns
returns c =
    subst (λ (s : List ℕ). IfOk c.print_token.result (λ text. string_bytes text ≡ token_of s))
    (sym (listed-is 128 c.args.set c.rises.ensures)) c.print_token.ensures
