use Rattle.std.proofs.Common.{◌≡◌, ◌<◌, ℕ, List, [], ◌∷◌, ◌++◌, map, length, refl, sym, ap, ◌∙◌}
use Rattle.std.proofs.Common.{subst}
use Rattle.std.proofs.lemmas.List.{map-append}
use Rattle.pgraph.specs.number_sets.Sets.{listed, minus}
use Rattle.pgraph.specs.Tables.{shape}
use Rattle.pgraph.specs.View.{node_of, step_of}
use Rattle.pgraph.specs.pns_rules.Ends.{IsSound, Leads}
use Rattle.pgraph.specs.problem_rules.Each.{Each}
use Rattle.pgraph.specs.pns_rules.Nodes.{Step, after, is_free}
use Rattle.neutral_extension.specs.Moves.{HasSet}
use Rattle.neutral_extension.specs.Candidates.{Candidates}
use Rattle.neutral_extension.proofs.LeadLemmas.{Each-push}
use Rattle.neutral_extension.proofs.EndLemmas.{free_falls, sound_after, Leads-push, leads_family}
use Rattle.neutral_extension.proofs.extension.extend_from.Goals as goal

append_group : (xs ys zs : List ℕ) → (xs ++ ys) ++ zs ≡ xs ++ (ys ++ zs)
append_group [] ys zs = refl
append_group (x ∷ xs) ys zs = ap (λ ws. x ∷ ws) (append_group xs ys zs)

pub steps-smaller : goal.steps-smaller
steps-smaller c =
    let g = shape c.args.graph.now in
    let d = node_of c.steps.leaf.node in
    subst (λ e. length (listed g.units (is_free g e)) < length (listed g.units (is_free g d)))
    (sym c.leaf_after-leaf.ensures.node)
    (free_falls g d (step_of c.in-Take.step) c.in-Take.ensures.comes.possible)

pub steps-preserved : goal.steps-preserved
steps-preserved c =
    let g = shape c.args.graph.now in
    let d = node_of c.steps.leaf.node in
    let s = step_of c.in-Take.step in
    let inv = c.steps.invariant in
    let is = c.leaf_after-leaf.ensures in
    let gone = minus c.leaf_after-leaf.result.node.outside c.steps.leaf.node.outside in
    let items : map step_of c.push.new.self.items ≡ map step_of c.steps.steps.items ++ s ∷ [] =
    ap (map step_of) c.in_ok-push-in-Take.ensures.items
    ∙ map-append step_of c.steps.steps.items (c.in-Take.step ∷ []) in
    record {
      path =
          subst (λ e. Leads g (node_of c.args.node) (map step_of c.push.new.self.items) e)
          (sym is.node)
          (subst (λ ss. Leads g (node_of c.args.node) ss (after g d s)) (sym items)
          (Leads-push g (node_of c.args.node) d (map step_of c.steps.steps.items) s inv.path
          c.in-Take.ensures.comes));
      sound = subst (IsSound g) (sym is.node) (sound_after g d s inv.sound c.in-Take.ensures.comes);
      stands = is.stands;
      follows = is.follows;
      leading = c.in-Take.ensures.leading;
      makers = ap (λ (k : Candidates). k.makers) is.taken ∙ inv.makers;
      front = record {
        rest = inv.front.rest ++ gone;
        is = ap (λ (k : Candidates). k.taken) is.taken
            ∙ (ap (λ xs. xs ++ gone) inv.front.is
            ∙ append_group c.args.makers.now.taken inv.front.rest gone);
      };
      sets =
          subst (λ (ss : List Step). Each (HasSet g) ss) (sym items)
          (Each-push (HasSet g) (map step_of c.steps.steps.items) s inv.sets c.in-Take.ensures.set);
    }

pub returns-in-End-clause-extends : goal.returns-in-End-clause-extends
returns-in-End-clause-extends c = record {
  leads = c.steps.invariant.path;
  sound = c.steps.invariant.sound;
  same_family =
      leads_family (shape c.args.graph.now) (node_of c.args.node) (node_of c.steps.leaf.node)
      (map step_of c.steps.steps.items) c.is_proper.ensures.proper c.steps.invariant.path;
  ends = c.in-End.ensures.comes;
  sets = c.steps.invariant.sets;
}
