use Rattle.std.proofs.Common.{◌≡◌, ◌∙◌, ◌∷◌, [], false, Result, Err, OnOk, IfErr, ap, subst, sym}
use Rattle.tree_text_rules.specs.pns_rules.Shape.{shape_of}
use Rattle.charges.specs.pgraph.View.{node_of}
use Rattle.charges.specs.Known.{facts_of}
use Rattle.tree_text_rules.specs.tree_rules.Tree.{Pass}
use Rattle.tree_text_rules.specs.tree_rules.Accepted.{Tree}
use Rattle.tree_text_rules.specs.tree_rules.declared.head_refusal.HeadRefusal.{HeadRefusal}
use Rattle.tree_text_rules.specs.tree_rules.Headed.{LeafPassesBy, LeafFailsBy}
use Rattle.cert_check.specs.Shown.{cost_over}
use Rattle.cert_check.specs.Refusals.{NamesFault}
use Rattle.cert_check.specs.Headed.{NamesFaultBy}
use Rattle.cert_check.proofs.HeadedLemmas.{names_by}
use Rattle.cert_check.proofs.headed.check_known.Goals.{in-Ok, in-Err}
use Rattle.cert_check.proofs.headed.check_known.Goals as goal

abbrev refused : HeadRefusal → Result (Unit {0}) HeadRefusal
refused e = Err e

pub returns-clause-passes : goal.returns-clause-passes
returns-clause-passes c =
    let p = c.args.site.now in
    let P = LeafPassesBy (facts_of c.args.known.now.facts) false p (cost_over c.args.claimed) in
    let ns = node_of c.args.known.now.node ∷ [] in
    let passes = λ (a : Result (Unit {0}) HeadRefusal).
    OnOk a (Pass (shape_of p) P ns c.args.tree.now)
    in
    elim c.match-walk.branch [
      | in-Ok w ↦ subst passes (sym w.result-is)
          (subst (λ (ts : Tree). Pass (shape_of p) P ns ts) c.nodes.ensures w.in-Ok.ensures.passes)
      | in-Err w ↦ subst passes (sym w.result-is) tt
    ]

pub returns-clause-fault : goal.returns-clause-fault
returns-clause-fault c =
    let p = c.args.site.now in
    let f = facts_of c.args.known.now.facts in
    let P = LeafPassesBy f false p (cost_over c.args.claimed) in
    let F = LeafFailsBy f false p (cost_over c.args.claimed) in
    let ns = node_of c.args.known.now.node ∷ [] in
    let names = λ (a : Result (Unit {0}) HeadRefusal). IfErr a
    (NamesFaultBy (shape_of p) P F ns c.args.tree.now) in
    elim c.match-walk.branch [
      | in-Ok w ↦ subst names (sym w.result-is) tt
      | in-Err w ↦ subst names (sym (w.result-is ∙ ap refused w.refusal_by.ensures))
          (names_by (shape_of p) P F ns c.args.tree.now w.in-Err.refusal
          (subst (λ (ts : Tree). NamesFault (shape_of p) P F ns ts w.in-Err.refusal)
          c.nodes.ensures w.in-Err.ensures.fault))
    ]
