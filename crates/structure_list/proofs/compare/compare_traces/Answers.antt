use Rattle.std.proofs.Common.{◌≡◌, ap, sym, ◌∙◌, ℕ}
use Rattle.pgraph.specs.number_sets.Sets.{has}
use Rattle.pgraph.proofs.number_sets.Cited.{same_sets}
use Rattle.pgraph.specs.pns_rules.Trace.{IsBefore}
use Rattle.pgraph.proofs.pns_rules.Cited.{before_apart, before_not_after}
use Rattle.pgraph.specs.Tables.{shape}
use Rattle.structure_list.proofs.CompareLemmas.{only_less, only_greater, only_equal, at_start}
use Rattle.structure_list.proofs.compare.compare_traces.Goals as goal

pub compare_from-requires-clause-a : goal.compare_from-requires-clause-a
compare_from-requires-clause-a c =
    at_start (shape c.args.graph.now) c.start.result.decided.node.inside
    c.start.result.decided.node.outside c.start.ensures.inside
    (c.start.ensures.outside ∙ c.empty.ensures) (has c.args.a) c.requires.a

pub compare_from-requires-clause-b : goal.compare_from-requires-clause-b
compare_from-requires-clause-b c =
    at_start (shape c.args.graph.now) c.start.result.decided.node.inside
    c.start.result.decided.node.outside c.start.ensures.inside
    (c.start.ensures.outside ∙ c.empty.ensures) (has c.args.b) c.requires.b

pub returns-clause-less : goal.returns-clause-less
returns-clause-less c =
    let g = shape c.args.graph.now in
    let a = has c.args.a in
    let b = has c.args.b in (
      c.compare_from.ensures.less,
      only_less c.compare_from.result (IsBefore g a b) (IsBefore g b a) ((u : ℕ) → a u ≡ b u)
          c.compare_from.ensures.greater c.compare_from.ensures.equal
          (λ h k. before_not_after g a b h k) (λ h k. before_apart g a b k h),
    )

pub returns-clause-greater : goal.returns-clause-greater
returns-clause-greater c =
    let g = shape c.args.graph.now in
    let a = has c.args.a in
    let b = has c.args.b in (
      c.compare_from.ensures.greater,
      only_greater c.compare_from.result (IsBefore g b a) (IsBefore g a b) ((u : ℕ) → a u ≡ b u)
          c.compare_from.ensures.less c.compare_from.ensures.equal
          (λ h k. before_not_after g b a h k) (λ h k. before_apart g b a (λ u. sym (k u)) h),
    )

pub returns-clause-equal : goal.returns-clause-equal
returns-clause-equal c =
    let g = shape c.args.graph.now in
    let a = has c.args.a in
    let b = has c.args.b in (
      (λ e. same_sets c.args.a c.args.b c.rises.ensures.rising c.rises-2.ensures.rising
          (c.compare_from.ensures.equal e)),
      (λ e. only_equal c.compare_from.result ((u : ℕ) → a u ≡ b u) (IsBefore g a b) (IsBefore g b a)
          c.compare_from.ensures.less c.compare_from.ensures.greater
          (λ k h. before_apart g a b k h) (λ k h. before_apart g b a (λ u. sym (k u)) h)
          (λ u. ap (λ xs. has xs u) e)),
    )
