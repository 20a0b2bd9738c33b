use Rattle.std.proofs.Common.{◌++◌, ◌∷◌, [], ◌∙◌, sym, ap, ℕ, List, codes, string_bytes, arith}
use Rattle.std.proofs.Common.{append_assoc}
use Rattle.report_amounts.specs.report_rules.Report.{network_line, time_line}
use Rattle.report_tables.proofs.Pieces.{after, after_three}
use Rattle.report_tables.proofs.text.push_head.Goals as goal

pub returns : goal.returns
returns c =
    let old = string_bytes c.args.text.now in
    let t1 = string_bytes c.push_str.new.self in
    let t2 = string_bytes c.push_network.new.text in
    let t3 = string_bytes c.push.new.self in
    let t5 = string_bytes c.push_str-2.new.self in
    let first : List ℕ = codes "Rounded to 6 digits where needed; exact numbers: pns json\n" in
    let name : List ℕ = network_line c.args.plant.now.site.now c.args.network.now in
    let time : List ℕ = time_line c.args.plant.now.measures.now in
    after_three old t1 t3 t5 first (name ++ 10 ∷ []) (time ++ 10 ∷ 10 ∷ [])
    c.in_ok-push_str.ensures.bytes
    (after t1 t2 t3 name (10 ∷ []) c.in_ok-push_network.ensures
    (c.in_ok-push.ensures.bytes
    ∙ ap (λ (t : List ℕ). t2 ++ t) (c.in_ok-push.ensures.ascii (omega arith))))
    (after t3 (string_bytes c.push_time.new.text) t5 time (10 ∷ 10 ∷ [])
    c.in_ok-push_time.ensures c.in_ok-push_str-2.ensures.bytes)
    ∙ ap (λ (t : List ℕ). old ++ (first ++ ((name ++ 10 ∷ []) ++ t)))
    (sym (append_assoc time (10 ∷ []) (10 ∷ [])))
