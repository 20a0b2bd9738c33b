use Rattle.std.proofs.Common.{◌≡◌, ℕ, true, refl, sym, ap, ◌∙◌, subst}
use Rattle.pgraph.specs.number_sets.Sets.{has}
use Rattle.pgraph.specs.pns_rules.Nodes.{Node}
use Rattle.pgraph.specs.pns_rules.Ends.{IsSound}
use Rattle.pgraph.specs.pns_rules.Structure.{is_used}
use Rattle.pgraph.specs.Tables.{shape}
use Rattle.pgraph.specs.View.{node_of, step_of}
use Rattle.neutral_extension.specs.Candidates.{Candidates, AreMakersOf}
use Rattle.neutral_extension.proofs.EndLemmas.{sound_after}
use Rattle.neutral_extension.proofs.LeafLemmas.{out_grows, in_grows, gone_known, gone_parts}
use Rattle.neutral_extension.proofs.LeafLemmas.{gone_fresh, out_after, counted_told, used_told}
use Rattle.neutral_extension.proofs.LeafLemmas.{unmade_at, single_at}
use Rattle.neutral_extension.proofs.open_leaf.leaf_after.Goals as goal

pub take_out_all-requires-clause-fresh : goal.take_out_all-requires-clause-fresh
take_out_all-requires-clause-fresh c =
    let g = shape c.args.graph.now in
    let s = c.args.leaf.now in
    let d = node_of s.node in
    let t = step_of c.args.step.now in
    let proper = c.is_proper.ensures.proper in
    let is = c.taken-node.ensures in
    let before = s.node.outside in
    let units = c.taken-node.result.outside in
    let grown = λ (u : ℕ) (h : has before u ≡ true). ap (λ (e : Node). e.outside u) is
    ∙ out_grows g d t u h in
    let gone = c.minus-gone.result in
    let e = c.minus-gone.ensures in
    gone_fresh before units gone e grown c.args.makers.now.taken c.requires.follows.out

pub intake_after-requires-clause-known : goal.intake_after-requires-clause-known
intake_after-requires-clause-known c =
    let g = shape c.args.graph.now in
    (subst (IsSound g) (sym c.taken-node.ensures)
    (sound_after g (node_of c.args.leaf.now.node) (step_of c.args.step.now) c.requires.sound
    c.requires.next)).known

pub intake_after-requires-clause-grown : goal.intake_after-requires-clause-grown
intake_after-requires-clause-grown c = λ u h.
    ap (λ (e : Node). e.inside u) c.taken-node.ensures
    ∙ in_grows (shape c.args.graph.now) (node_of c.args.leaf.now.node) (step_of c.args.step.now)
    u h

pub scarce_after-requires-clause-known : goal.scarce_after-requires-clause-known
scarce_after-requires-clause-known c = λ u h.
    let g = shape c.args.graph.now in
    let s = c.args.leaf.now in
    let d = node_of s.node in
    let t = step_of c.args.step.now in
    let proper = c.is_proper.ensures.proper in
    let is = c.taken-node.ensures in
    let before = s.node.outside in
    let units = c.taken-node.result.outside in
    let grown = λ (u : ℕ) (h : has before u ≡ true). ap (λ (e : Node). e.outside u) is
    ∙ out_grows g d t u h in
    let gone = c.minus-gone.result in
    let e = c.minus-gone.ensures in
    let p = gone_parts before units gone e grown u h in
    gone_known g d t u proper c.requires.next.possible
    (sym (ap (λ (f : Node). f.outside u) is) ∙ p.0) p.1

pub used_after-requires-clause-known : goal.used_after-requires-clause-known
used_after-requires-clause-known c = λ u h.
    let g = shape c.args.graph.now in
    let s = c.args.leaf.now in
    let d = node_of s.node in
    let t = step_of c.args.step.now in
    let proper = c.is_proper.ensures.proper in
    let is = c.taken-node.ensures in
    let before = s.node.outside in
    let units = c.taken-node.result.outside in
    let grown = λ (u : ℕ) (h : has before u ≡ true). ap (λ (e : Node). e.outside u) is
    ∙ out_grows g d t u h in
    let gone = c.minus-gone.result in
    let e = c.minus-gone.ensures in
    let p = gone_parts before units gone e grown u h in
    gone_known g d t u proper c.requires.next.possible
    (sym (ap (λ (f : Node). f.outside u) is) ∙ p.0) p.1

pub scarce_after-requires-clause-others : goal.scarce_after-requires-clause-others
scarce_after-requires-clause-others c =
    counted_told (shape c.args.graph.now) c.args.makers.now c.take_out_all.new.makers
    c.minus-gone.result c.args.leaf.now.scarce c.is_proper.ensures.proper
    c.requires.follows.same c.take_out_all.ensures c.requires.follows.counted

pub used_after-requires-clause-others : goal.used_after-requires-clause-others
used_after-requires-clause-others c =
    let g = shape c.args.graph.now in
    let s = c.args.leaf.now in
    let d = node_of s.node in
    let t = step_of c.args.step.now in
    let proper = c.is_proper.ensures.proper in
    let is = c.taken-node.ensures in
    let before = s.node.outside in
    let units = c.taken-node.result.outside in
    let grown = λ (u : ℕ) (h : has before u ≡ true). ap (λ (e : Node). e.outside u) is
    ∙ out_grows g d t u h in
    let gone = c.minus-gone.result in
    let e = c.minus-gone.ensures in
    used_told before units gone e grown g c.remaining_units-rest.result s.used d
    (node_of c.taken-node.result) refl refl c.requires.stands.used
    c.remaining_units-rest.ensures.is

pub returns-clause-stands : goal.returns-clause-stands
returns-clause-stands c =
    let g = shape c.args.graph.now in
    let s = c.args.leaf.now in
    let d = node_of s.node in
    let t = step_of c.args.step.now in
    let proper = c.is_proper.ensures.proper in
    let is = c.taken-node.ensures in
    let before = s.node.outside in
    let units = c.taken-node.result.outside in
    let grown = λ (u : ℕ) (h : has before u ≡ true). ap (λ (e : Node). e.outside u) is
    ∙ out_grows g d t u h in
    let gone = c.minus-gone.result in
    let e = c.minus-gone.ensures in
    let k = c.args.makers.now in
    let put = c.take_out_all.ensures in
    let same =
    subst (λ (j : Candidates). AreMakersOf g j.makers) (sym put) c.requires.follows.same in
    let out = λ (u : ℕ). ap (λ (j : Candidates). has j.taken u) put
    ∙ out_after before units gone e grown k.taken c.requires.follows.out u in
    record {
      intake = c.intake_after.ensures;
      unmade =
          unmade_at g c.take_out_all.new.makers (node_of c.taken-node.result) proper same out
          c.scarce_after.result c.scarce_after.ensures;
      single =
          single_at g c.take_out_all.new.makers (node_of c.taken-node.result) proper same out
          c.scarce_after.result c.scarce_after.ensures;
      used = c.used_after.ensures ∙ ap (is_used g) c.remaining_units-rest.ensures.is;
      raw_makers = c.requires.stands.raw_makers;
    }

pub returns-clause-follows : goal.returns-clause-follows
returns-clause-follows c =
    let g = shape c.args.graph.now in
    let s = c.args.leaf.now in
    let d = node_of s.node in
    let t = step_of c.args.step.now in
    let proper = c.is_proper.ensures.proper in
    let is = c.taken-node.ensures in
    let before = s.node.outside in
    let units = c.taken-node.result.outside in
    let grown = λ (u : ℕ) (h : has before u ≡ true). ap (λ (e : Node). e.outside u) is
    ∙ out_grows g d t u h in
    let gone = c.minus-gone.result in
    let e = c.minus-gone.ensures in
    let k = c.args.makers.now in
    let put = c.take_out_all.ensures in
    let same =
    subst (λ (j : Candidates). AreMakersOf g j.makers) (sym put) c.requires.follows.same in
    let out = λ (u : ℕ). ap (λ (j : Candidates). has j.taken u) put
    ∙ out_after before units gone e grown k.taken c.requires.follows.out u in
    record { same = same; out = out; counted = c.scarce_after.ensures }
