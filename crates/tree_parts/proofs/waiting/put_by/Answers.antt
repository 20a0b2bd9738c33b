use Rattle.std.proofs.Common.{◌≡◌, ◌++◌, List, take, drop, ap, ◌∙◌, sym, subst}
use Rattle.tree_text_laws.specs.number_sets.Sets.{has}
use Rattle.tree_text_laws.specs.pns_rules.Nodes.{Node}
use Rattle.tree_text_laws.specs.pgraph.View.{node_of}
use Rattle.tree_text_laws.specs.tree_rules.Accepted.{Tree}
use Rattle.tree_text_laws.specs.tree_text_rules.OpenLeaves.{IsAmong}
use Rattle.cert_check.specs.OpenLeaves.{leaves_at}
use Rattle.tree_parts.specs.Splices.{AllBelow, AllAbove}
use Rattle.tree_text_laws.specs.tree_text_rules.Part.{start_of}
use Rattle.tree_parts.specs.declared.waiting.Waiting.{Waiting}
use Rattle.tree_parts.specs.Waiting.{splices_of}
use Rattle.tree_parts.proofs.LaidNodes.{one_more}
use Rattle.tree_parts.proofs.waiting.put_by.Goals as goal

pub returns-in_default-clause-none : goal.returns-in_default-clause-none
returns-in_default-clause-none c =
    let start : node_of c.start-start.result ≡ start_of c.args.part.now =
    λ i. record {
      inside = has (c.start-start.ensures.inside i);
      outside =
          has (c.start-start.ensures.outside i);
    } in
    λ no empty k among. c.in_default.ensures.none k
    (subst
    (λ (n : Node). IsAmong (record { number = k; node = n }) (leaves_at c.args.leaves.now))
    (sym start) among)

pub returns-clause-put : goal.returns-clause-put
returns-clause-put c =
    let start : node_of c.start-start.result ≡ start_of c.args.part.now =
    λ i. record {
      inside = has (c.start-start.ensures.inside i);
      outside =
          has (c.start-start.ensures.outside i);
    } in
    let among =
    subst
    (λ (n : Node). IsAmong (record { number = c.in-Some.place; node = n })
    (leaves_at c.args.leaves.now)) start c.in-Some.ensures.some in
    λ yes.
    one_more (leaves_at c.args.leaves.now) c.args.part.now c.args.waiting.now.items
    c.insert.new.self.items (record { place = c.in-Some.place; nodes = c.push_copies.new.into })
    c.in-Some-slot.at among
    (subst
    (λ (ws : List Waiting). AllBelow c.in-Some.place (take c.in-Some-slot.at (splices_of ws)))
    c.deref.ensures.value c.in-Some-slot.ensures.low)
    (subst
    (λ (ws : List Waiting). AllAbove c.in-Some.place (drop c.in-Some-slot.at (splices_of ws)))
    c.deref.ensures.value c.in-Some-slot.ensures.high)
    (c.in_ok-push_copies.ensures
    ∙ ap (λ (us : Tree). us ++ c.nodes.result.now) c.new-nodes.ensures.items
    ∙ (c.nodes.ensures ∙ c.tree.ensures))
    c.in_ok-insert.ensures.items
