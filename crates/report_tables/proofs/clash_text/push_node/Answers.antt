use Rattle.std.proofs.Common.{◌++◌, ◌∙◌, ap, ℕ, List, codes, string_bytes, append_assoc}
use Rattle.std.specs.Prelude.{decimal}
use Rattle.text_lines.specs.number_sets.Sets.{has}
use Rattle.report_amounts.specs.report_rules.Clash.{names_of}
use Rattle.report_tables.proofs.Pieces.{after}
use Rattle.report_tables.proofs.clash_text.push_node.Goals as goal

pub returns : goal.returns
returns c =
    let p = c.args.site.now in
    let t1 = string_bytes c.push_str.new.self in
    let t2 = string_bytes c.write.new.self in
    let t3 = string_bytes c.push_names.new.text in
    let t4 = string_bytes c.push_names-2.new.text in
    let number = decimal c.args.number in
    let first : List ℕ = codes "; inside:" in
    let inside = names_of p (has c.args.node.now.inside) in
    let rest = codes "; outside:" ++ names_of p (has c.args.node.now.outside) in
    after (string_bytes c.args.text.now) t1 t4 (codes "node ")
    (number ++ (first ++ (inside ++ rest))) c.in_ok-push_str.ensures.bytes
    (after t1 t2 t4 number (first ++ (inside ++ rest)) c.in_ok-write.ensures.bytes
    (after t2 t3 t4 (first ++ inside) rest c.in_ok-push_names.ensures c.in_ok-push_names-2.ensures
    ∙ ap (λ (t : List ℕ). t2 ++ t) (append_assoc first inside rest)))
