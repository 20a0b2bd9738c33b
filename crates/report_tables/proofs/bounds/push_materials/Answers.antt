use Rattle.std.proofs.Common.{◌≡◌, ◌++◌, ◌∙◌, ap, refl, sym, subst, string_bytes, length, ℤ, pos}
use Rattle.std.proofs.Common.{get_or, SFits, rules}
use Rattle.std.specs.Int.{w64, w128}
use Rattle.std.proofs.lemmas.Int.{to_z-of_z}
use Rattle.std.specs.Prelude.{flat_map}
use Rattle.text_lines.specs.number_sets.Sets.{has, IsSet}
use Rattle.cert_check.specs.pns_rules.Structure.{mats}
use Rattle.cert_check.specs.pgraph.View.{node_of}
use Rattle.cert_check.specs.pns_problem.Printing.{printed}
use Rattle.cert_check.specs.flow_rules.Net.{net_of}
use Rattle.cert_check.specs.flow_rules.Relaxed.{stays, rows, lower_at}
use Rattle.cert_check.specs.flow_program.Entry.{entry}
use Rattle.cert_check.proofs.flow_program.Cited.{listed_had, next_of}
use Rattle.report_amounts.proofs.Cited.{all_within, next_within, rest_within}
use Rattle.report_amounts.specs.report_rules.Clash.{material_here, material_lines}
use Rattle.report_tables.proofs.Appended.{next_lines, last_lines}
use Rattle.report_tables.proofs.bounds.push_materials.Goals as goal

pub loop-j-init : goal.loop-j-init
loop-j-init c =
    let p = c.args.problem.now in
    let n = node_of c.args.node.now in
    let are : c.into_iter-j-iterator.result ≡ rows (net_of p) n =
    c.into_iter-j-iterator.ensures.into_iter_gives.0 ∙ c.requires.sets.rows_are in
    record {
      is_set =
          subst (IsSet 256) (sym c.into_iter-j-iterator.ensures.into_iter_gives.0)
          c.into_iter-j-iterator.ensures.into_iter_gives.1;
      within = all_within c.into_iter-j-iterator.result (rows (net_of p) n) are;
      text = λ i. string_bytes c.args.text.now
          ++ printed
          (flat_map (λ j. material_here p j (lower_at (net_of p) n j) (entry c.args.ys.now j))
          (are i));
    }

pub lower_at-lower-requires-clause-known : goal.lower_at-lower-requires-clause-known
lower_at-lower-requires-clause-known c =
    let p = c.args.problem.now in
    let n = node_of c.args.node.now in
    (listed_had (length p.materials) (mats (net_of p).graph (stays n)) (rows (net_of p) n)
    c.in-Some.j refl
    (next_within (has (rows (net_of p) n)) c.loop-j.j-iterator c.next.new.self c.in-Some.j
    c.in-Some.ensures.steps c.loop-j.invariant.within)).0

pub push_material-requires : goal.push_material-requires
push_material-requires c =
    let p = c.args.problem.now in
    let n = node_of c.args.node.now in
    (listed_had (length p.materials) (mats (net_of p).graph (stays n)) (rows (net_of p) n)
    c.in-Some.j refl
    (next_within (has (rows (net_of p) n)) c.loop-j.j-iterator c.next.new.self c.in-Some.j
    c.in-Some.ensures.steps c.loop-j.invariant.within)).0

pub loop-j-preserved : goal.loop-j-preserved
loop-j-preserved c =
    let p = c.args.problem.now in
    let n = node_of c.args.node.now in
    let j = c.in-Some.j in
    let text = string_bytes c.loop-j.text in
    let w : SFits w64 c.lower_at-lower.result = search rules in
    let y : SFits w128 (get_or c.args.ys.now j (pos 0)) = search rules in
    record {
      is_set =
          (next_of 256 c.loop-j.j-iterator j c.next.new.self c.loop-j.invariant.is_set
          c.in-Some.ensures.steps).set;
      within =
          rest_within (has (rows (net_of p) n)) c.loop-j.j-iterator c.next.new.self j
          c.in-Some.ensures.steps c.loop-j.invariant.within;
      text =
          next_lines (λ j. material_here p j (lower_at (net_of p) n j) (entry c.args.ys.now j))
          c.loop-j.j-iterator c.next.new.self j text (string_bytes c.push_material.new.text)
          (string_bytes c.args.text.now ++ printed (material_lines p n (entry c.args.ys.now)))
          c.in-Some.ensures.steps
          ((simp to_z-of_z at c.in_ok-push_material.ensures)
          ∙ ap (λ (z : ℤ). text ++ printed (material_here p j z (entry c.args.ys.now j)))
          c.lower_at-lower.ensures)
          c.loop-j.invariant.text;
    }

pub returns : goal.returns
returns c =
    let p = c.args.problem.now in
    let n = node_of c.args.node.now in
    last_lines (λ j. material_here p j (lower_at (net_of p) n j) (entry c.args.ys.now j))
    c.loop-j.j-iterator (string_bytes c.loop-j.text)
    (string_bytes c.args.text.now ++ printed (material_lines p n (entry c.args.ys.now)))
    c.in-None.ensures.steps.0 c.loop-j.invariant.text
