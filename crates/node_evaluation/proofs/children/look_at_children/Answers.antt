use Rattle.std.proofs.Common.{◌≡◌, ◌+◌, ◌<◌, ℕ, List, [], ◌∷◌, ◌++◌, None, length, map, drop}
use Rattle.std.proofs.Common.{get_or, refl, sym, ap, ◌∙◌, subst, append_assoc}
use Rattle.std.proofs.lemmas.List.{append-nil, drop_all, drop_more}
use Rattle.structure_list.specs.pns_rules.Shape.{Shape, shape_of}
use Rattle.neutral_extension.specs.Candidates.{AreMakersOf}
use Rattle.structure_list.specs.pgraph.View.{node_of}
use Rattle.search_tree.specs.tree_rules.Ways.{options_at}
use Rattle.node_evaluation.specs.Choices.{way_of}
use Rattle.search_tree.specs.Cells.{Cell}
use Rattle.search_tree.specs.declared.growth.Fresh.{Fresh}
use Rattle.node_evaluation.specs.Children.{IsKnown, cells_of, options_in}
use Rattle.node_evaluation.proofs.ChildLemmas.{looked_first, looked_all, comes}
use Rattle.node_evaluation.proofs.SolvedLemmas.{solved_first}
use Rattle.node_evaluation.proofs.OptionLemmas.{choice_known}
use Rattle.node_evaluation.proofs.children.look_at_children.Goals as goal

-- before the first child
none_yet : (fs : List Fresh) → fs ≡ [] → (os : List (List ℕ))
    → map (λ (d : Cell). d.option) (cells_of fs) ++ os ≡ os
none_yet fs e os = ap (λ (gs : List Fresh). map (λ (d : Cell). d.option) (cells_of gs) ++ os) e

-- the next one comes first of what is left
next_of : (done xs : List (List ℕ)) (i : ℕ) (x : List ℕ) → i < length xs → x ≡ get_or xs i x
    → done ++ x ∷ drop (i + 1) xs ≡ done ++ drop i xs
next_of done xs i x lt e =
    ap (λ r. done ++ r) (ap (λ y. y ∷ drop (i + 1) xs) e ∙ sym (drop_more xs i x lt))

pub options_of-requires : goal.options_of-requires
options_of-requires g c =
    subst (λ (s : Shape). IsKnown s c.args.choice) (sym c.graph-graph.ensures.same)
    (choice_known (shape_of c.args.site.now) (node_of c.args.node) c.args.choice
    c.graph-graph.ensures.proper c.graph-graph.ensures.few_units c.requires.choice)

pub options-init : goal.options-init
options-init g c = record {
  looked =
      looked_first g.E.Evaluator.past c.args.site.now (node_of c.args.node) (way_of c.args.choice)
      (record {
        nodes = c.new.result;
        ready = c.new-2.result;
        best = None;
        networks =
            c.new-3.result;
        stop = None;
      })
      c.new.ensures.items c.new-2.ensures.items refl refl;
  done = none_yet (c.new.result.items) c.new.ensures.items c.deref-option-items.result.now
      ∙ (c.deref-option-items.ensures.value
      ∙ (c.in_ok-options.ensures
      ∙ ap (λ (s : Shape). options_at s (node_of c.args.node) (way_of c.args.choice))
      c.graph-graph.ensures.same));
  solved =
      λ e. solved_first c.args.site.now c.new.result.items c.new-3.result.items c.new.ensures.items
      c.new-3.ensures.items;
  own = c.requires.own;
  makers = refl;
}

pub look_at_child-requires-clause-own : goal.look_at_child-requires-clause-own
look_at_child-requires-clause-own g c = c.options.invariant.own

pub look_at_child-requires-clause-makers : goal.look_at_child-requires-clause-makers
look_at_child-requires-clause-makers g c =
    subst (λ m. AreMakersOf (shape_of c.args.site.now) m) (sym c.options.invariant.makers)
    c.requires.makers

pub look_at_child-requires-clause-option : goal.look_at_child-requires-clause-option
look_at_child-requires-clause-option g c =
    comes (options_in c.options.children)
    (drop (c.options.option-index + 1) c.deref-option-items.result.now) c.option-item.result
    (options_at (shape_of c.args.site.now) (node_of c.args.node) (way_of c.args.choice))
    (next_of (options_in c.options.children) c.deref-option-items.result.now c.options.option-index
    c.option-item.result c.options-test.true c.option-item.is ∙ c.options.invariant.done)

pub look_at_child-requires-clause-looked : goal.look_at_child-requires-clause-looked
look_at_child-requires-clause-looked g c = c.options.invariant.looked

pub returns-in_err-children-clause-makers : goal.returns-in_err-children-clause-makers
returns-in_err-children-clause-makers g c =
    c.look_at_child.ensures.makers ∙ c.options.invariant.makers

pub options-preserved : goal.options-preserved
options-preserved g c = record {
  looked = c.in_ok-children.ensures.looked;
  solved = c.in_ok-children.ensures.solved;
  done =
      ap (λ os. os ++ drop (c.options.option-index + 1) c.deref-option-items.result.now)
      c.in_ok-children.ensures.options
      ∙ (append_assoc (options_in c.options.children) (c.option-item.result ∷ [])
      (drop (c.options.option-index + 1) c.deref-option-items.result.now)
      ∙ (next_of (options_in c.options.children) c.deref-option-items.result.now
      c.options.option-index c.option-item.result c.options-test.true c.option-item.is
      ∙ c.options.invariant.done));
  own = c.look_at_child.ensures.own;
  makers = c.look_at_child.ensures.makers ∙ c.options.invariant.makers;
}

pub returns-clause-seen : goal.returns-clause-seen
returns-clause-seen g c =
    looked_all g.E.Evaluator.past c.args.site.now (node_of c.args.node) (way_of c.args.choice)
    c.options.children c.options.invariant.looked
    (sym (append-nil (options_in c.options.children))
    ∙ (ap (λ os. options_in c.options.children ++ os)
    (sym (drop_all c.options.option-index c.deref-option-items.result.now c.options-test.false))
    ∙ c.options.invariant.done))

pub returns-clause-makers : goal.returns-clause-makers
returns-clause-makers g c = c.options.invariant.makers

pub look_at_child-requires-clause-solved : goal.look_at_child-requires-clause-solved
look_at_child-requires-clause-solved g c = c.options.invariant.solved

pub returns-clause-solved : goal.returns-clause-solved
returns-clause-solved g c = c.options.invariant.solved
