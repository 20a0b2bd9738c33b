use Rattle.std.proofs.Common.{List, [], ◌∷◌, sym, subst}
use Rattle.rank_laws.specs.pns_rules.Shape.{shape_of}
use Rattle.rank_laws.specs.tree_rules.Accepted.{first_node}
use Rattle.rank_laws.specs.tree_rules.declared.refusal.Refusal.{Refusal}
use Rattle.cert_check.specs.declared.open_leaf.OpenLeaf.{OpenLeaf}
use Rattle.cert_check.specs.OpenLeaves.{leaves_at, AreBefore}
use Rattle.rank_check.specs.Refusals.{NamesPlainFault, OpenPass, OpenFails}
use Rattle.rank_check.proofs.CheckLemmas.{mark_fails_before, node_fails_first}
use Rattle.rank_check.proofs.CheckLemmas.{known_if_stopped}
use Rattle.rank_check.specs.Marks.{AreKnown}
use Rattle.rank_check.proofs.check.judge_stop.Goals as goal

pub returns-in-Err : goal.returns-in-Err
returns-in-Err c =
    let p = c.args.site.now in
    let t = c.args.text.now in
    let found = leaves_at c.args.stop.now.leaves.items in
    mark_fails_before p t found c.in-Node.node c.in-Err.earlier c.in-Node.why c.in-Err.cause
    (subst (λ (r : Refusal). NamesPlainFault p t r) c.in-Node.is c.requires.fault)
    (subst (λ (r : Refusal). AreBefore (shape_of p) (first_node ∷ []) t.tree r found) c.in-Node.is
    c.requires.before)
    (subst (λ (ls : List OpenLeaf). OpenFails p t (leaves_at ls) c.in-Err.earlier c.in-Err.cause)
    c.deref.ensures.value c.in-Err.ensures.fails)

pub returns-in-Ok : goal.returns-in-Ok
returns-in-Ok c =
    let p = c.args.site.now in
    let t = c.args.text.now in
    let found = leaves_at c.args.stop.now.leaves.items in
    node_fails_first p t found c.in-Node.node c.in-Node.why
    (subst (λ (r : Refusal). NamesPlainFault p t r) c.in-Node.is c.requires.fault)
    (subst (λ (r : Refusal). AreBefore (shape_of p) (first_node ∷ []) t.tree r found) c.in-Node.is
    c.requires.before)
    (subst (λ (ls : List OpenLeaf). OpenPass p t (leaves_at ls)) c.deref.ensures.value
    c.in-Ok.ensures.passes)

pub judge_open-requires : goal.judge_open-requires
judge_open-requires c =
    let p = c.args.site.now in
    let t = c.args.text.now in
    let found = leaves_at c.args.stop.now.leaves.items in
    record {
      known =
          subst (λ (ls : List OpenLeaf). AreKnown p (leaves_at ls)) (sym c.deref.ensures.value)
          (known_if_stopped p t found c.in-Node.node c.in-Node.why
          (subst (λ (r : Refusal). NamesPlainFault p t r) c.in-Node.is c.requires.fault)
          (subst (λ (r : Refusal). AreBefore (shape_of p) (first_node ∷ []) t.tree r found)
          c.in-Node.is c.requires.before));
    }
