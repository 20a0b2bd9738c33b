use Rattle.std.proofs.Common.{ℕ, Bool, ◌&&◌, nat_lt, List, sym, ap, ◌∙◌, subst, arith}
use Rattle.pgraph.specs.number_sets.Sets.{has}
use Rattle.pgraph.proofs.pns_rules.Cited.{is_made-some}
use Rattle.pgraph.specs.Tables.{shape}
use Rattle.neutral_extension.specs.Candidates.{left}
use Rattle.neutral_extension.specs.OpenLeaf.{IsCounted, is_empty, is_single}
use Rattle.neutral_extension.proofs.LeafLemmas.{told_more, below_is, head_had, rest_had}
use Rattle.neutral_extension.proofs.scarce.scarce_after.Goals as goal

pub loop-x-init : goal.loop-x-init
loop-x-init c =
    let g = shape c.args.graph.now in
    let made = ap (λ (xs : List ℕ). has xs) c.into_iter-x-iterator.ensures.into_iter_gives.0
    ∙ c.made-x-items.ensures in
    record {
      known = λ x h.
          let k = is_made-some g (has c.args.gone) x (sym (ap (λ (f : ℕ → Bool). f x) made) ∙ h) in
          c.is_proper.ensures.proper.output_known k.0 x k.3;
      counted =
          subst (λ (b : ℕ → Bool). IsCounted c.args.makers.now g.materials b c.args.scarce.now)
          (sym made) c.requires.others;
    }

pub counted_at-scarce-requires-clause-material : goal.counted_at-scarce-requires-clause-material
counted_at-scarce-requires-clause-material c =
    let lt =
    c.loop-x.invariant.known c.in-Some.x
    (head_had c.loop-x.x-iterator c.in-Some.x c.next.new.self c.in-Some.ensures.steps) in
    let all = c.requires.all in
    omega arith

pub counted_at-scarce-requires-clause-few : goal.counted_at-scarce-requires-clause-few
counted_at-scarce-requires-clause-few c =
    let lt =
    c.loop-x.invariant.known c.in-Some.x
    (head_had c.loop-x.x-iterator c.in-Some.x c.next.new.self c.in-Some.ensures.steps) in
    let few = c.is_proper.ensures.few_materials in
    omega arith

pub loop-x-preserved : goal.loop-x-preserved
loop-x-preserved c =
    let x = c.in-Some.x in
    let k = c.args.makers.now in
    let n = (shape c.args.graph.now).materials in
    let inv = c.loop-x.invariant in
    let rest = c.next.new.self in
    let head = c.in-Some.ensures.steps in
    let lt = inv.known x (head_had c.loop-x.x-iterator x rest head) in
    let before = subst (λ (xs : List ℕ). IsCounted k n (has xs) c.loop-x.scarce) head inv.counted in
    let new = c.counted_at-scarce.result in
    record {
      known = λ y h. inv.known y (rest_had c.loop-x.x-iterator x rest y head h);
      counted = record {
        unmade =
            told_more rest c.loop-x.scarce.unmade new.unmade
            (λ y. nat_lt y n && is_empty (left k y)) x (is_empty (left k x)) before.unmade
            (below_is n x (is_empty (left k x)) lt) c.counted_at-scarce.ensures.unmade;
        single =
            told_more rest c.loop-x.scarce.single new.single
            (λ y. nat_lt y n && is_single (left k y)) x (is_single (left k x)) before.single
            (below_is n x (is_single (left k x)) lt) c.counted_at-scarce.ensures.single;
      };
    }
