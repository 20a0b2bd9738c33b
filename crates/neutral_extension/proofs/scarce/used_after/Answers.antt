use Rattle.std.proofs.Common.{ℕ, Bool, List, sym, ap, ◌∙◌, subst, arith}
use Rattle.pgraph.specs.number_sets.Sets.{has}
use Rattle.pgraph.specs.pns_rules.Structure.{is_used}
use Rattle.pgraph.proofs.pns_rules.Cited.{is_used-some}
use Rattle.pgraph.specs.Tables.{shape}
use Rattle.neutral_extension.specs.OpenLeaf.{IsTold}
use Rattle.neutral_extension.proofs.LeafLemmas.{told_more, head_had, rest_had}
use Rattle.neutral_extension.proofs.scarce.used_after.Goals as goal

pub loop-x-init : goal.loop-x-init
loop-x-init c =
    let g = shape c.args.graph.now in
    let used = ap (λ (xs : List ℕ). has xs) c.into_iter-x-iterator.ensures.into_iter_gives.0
    ∙ c.used-x-items.ensures in
    record {
      known = λ x h.
          let k = is_used-some g (has c.args.gone) x (sym (ap (λ (f : ℕ → Bool). f x) used) ∙ h) in
          c.is_proper.ensures.proper.input_known k.0 x k.3;
      told =
          subst (λ (b : ℕ → Bool). IsTold b (is_used g (has c.args.rest)) c.args.used) (sym used)
          c.requires.others;
    }

pub is_used-requires : goal.is_used-requires
is_used-requires c =
    c.loop-x.invariant.known c.in-Some.x
    (head_had c.loop-x.x-iterator c.in-Some.x c.next.new.self c.in-Some.ensures.steps)

pub with_exactly-used-requires : goal.with_exactly-used-requires
with_exactly-used-requires c =
    let lt =
    c.loop-x.invariant.known c.in-Some.x
    (head_had c.loop-x.x-iterator c.in-Some.x c.next.new.self c.in-Some.ensures.steps) in
    let few = c.is_proper.ensures.few_materials in
    omega arith

pub loop-x-preserved : goal.loop-x-preserved
loop-x-preserved c =
    let x = c.in-Some.x in
    let g = shape c.args.graph.now in
    let inv = c.loop-x.invariant in
    let rest = c.next.new.self in
    let head = c.in-Some.ensures.steps in
    record {
      known = λ y h. inv.known y (rest_had c.loop-x.x-iterator x rest y head h);
      told =
          told_more rest c.loop-x.used c.with_exactly-used.result (is_used g (has c.args.rest)) x
          c.is_used.result
          (subst (λ (xs : List ℕ). IsTold (has xs) (is_used g (has c.args.rest)) c.loop-x.used) head
          inv.told) c.is_used.ensures c.with_exactly-used.ensures;
    }
