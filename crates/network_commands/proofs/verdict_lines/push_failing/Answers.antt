use Rattle.std.proofs.Common.{◌++◌, ◌∷◌, [], ◌∙◌, ap, ℕ, List, codes, string_bytes, arith}
use Rattle.std.specs.Prelude.{decimal}
use Rattle.verdicts.proofs.pns_problem.Cited.{after}
use Rattle.command_files.specs.studio_rules.RefusalWords.{why_word}
use Rattle.network_commands.proofs.verdict_lines.push_failing.Goals as goal

pub returns : goal.returns
returns c =
    let t1 = string_bytes c.push_str.new.self in
    let t2 = string_bytes c.write.new.self in
    let t3 = string_bytes c.push.new.self in
    let t4 = string_bytes c.push_str-2.new.self in
    let node = decimal c.args.node in
    let why = why_word c.args.why in
    after (string_bytes c.args.text.now) t1 t4 (codes "NOT PROVED: node ") (node ++ 32 ∷ why)
    c.in_ok-push_str.ensures.bytes
    (after t1 t2 t4 node (32 ∷ why) c.in_ok-write.ensures.bytes
    (after t2 t3 t4 (32 ∷ []) why
    (c.in_ok-push.ensures.bytes
    ∙ ap (λ (t : List ℕ). t2 ++ t) (c.in_ok-push.ensures.ascii (omega arith)))
    (c.in_ok-push_str-2.ensures.bytes ∙ ap (λ (t : List ℕ). t3 ++ t) c.why_word.ensures)))
