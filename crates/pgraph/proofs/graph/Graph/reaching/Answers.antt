use Rattle.std.proofs.Common.{◌≡◌, ◌∙◌, sym, ap, subst, length, List, [], ℕ, suc, arith}
use Rattle.flow_rules.specs.number_sets.Sets.{has, first, minus, union}
use Rattle.flow_rules.proofs.number_sets.Cited.{length-with_number, length_below}
use Rattle.pgraph.specs.Tables.{shape}
use Rattle.pgraph.proofs.PathLemmas.{IsGrowing, growing_start, growing_more, taken_wanted}
use Rattle.pgraph.proofs.PathLemmas.{taken_fresh, fresh_makes, all_found}
use Rattle.pgraph.proofs.graph.Graph.reaching.Goals as goal

pub grow-init : goal.grow-init
grow-init c =
    let start =
    growing_start (shape c.args.self.now) (has c.args.set) (has c.products-wanted.result)
    c.is_proper.ensures.proper c.products-wanted.ensures in
    subst
    (λ (xs : List ℕ). IsGrowing (shape c.args.self.now) (has c.args.set) (has xs)
    (has c.products-wanted.result) (has c.empty-done.result)) (sym c.empty-found.ensures)
    (subst
    (λ (ys : List ℕ). IsGrowing (shape c.args.self.now) (has c.args.set) (has [])
    (has c.products-wanted.result) (has ys)) (sym c.empty-done.ensures) start)

pub returns-in_default : goal.returns-in_default
returns-in_default c =
    all_found (shape c.args.self.now) c.args.set c.grow.found c.grow.wanted c.grow.done
    c.grow.invariant (sym (c.least.ensures ∙ ap first c.minus.ensures) ∙ c.in_default.is)

pub producers-requires : goal.producers-requires
producers-requires c =
    c.grow.invariant.known c.in-Some.x
    (taken_wanted (shape c.args.self.now) c.is_proper.ensures.proper c.args.set c.grow.found
    c.grow.wanted c.grow.done c.grow.invariant c.in-Some.x
    (sym (c.least.ensures ∙ ap first c.minus.ensures) ∙ c.in-Some.is))

pub used-requires : goal.used-requires
used-requires c = λ u e.
    let g = shape c.args.self.now in
    let makes =
    fresh_makes g c.is_proper.ensures.proper c.args.set c.grow.found c.grow.wanted c.grow.done
    c.grow.invariant c.in-Some.x
    (sym (c.least.ensures ∙ ap first c.minus.ensures) ∙ c.in-Some.is)
    c.producers.result c.minus-fresh.result c.producers.ensures
    (c.minus-fresh.ensures ∙ ap (λ xs. minus xs c.grow.found) c.meet.ensures) u e in
    c.is_proper.ensures.proper.maker_known u c.in-Some.x makes.0

pub grow-smaller : goal.grow-smaller
grow-smaller c =
    let more : length c.with-more.result ≡ suc (length c.grow.done) =
    ap length c.with-more.ensures ∙ length-with_number c.in-Some.x c.grow.done
    (taken_fresh (shape c.args.self.now) c.is_proper.ensures.proper c.args.set c.grow.found
    c.grow.wanted c.grow.done c.grow.invariant c.in-Some.x
    (sym (c.least.ensures ∙ ap first c.minus.ensures) ∙ c.in-Some.is)) in
    let most =
    length_below 256 c.with-more.result c.rises-in-grow.ensures.rising
    c.rises-in-grow.ensures.below in
    omega arith

pub grow-preserved : goal.grow-preserved
grow-preserved c =
    let g = shape c.args.self.now in
    let set = has c.args.set in
    subst
    (λ (xs : List ℕ). IsGrowing g set (has xs) (has c.union-wanted.result)
    (has c.with-more.result)) (sym c.union-found.ensures)
    (subst
    (λ (ys : List ℕ). IsGrowing g set (has (union c.grow.found c.minus-fresh.result)) (has ys)
    (has c.with-more.result)) (sym c.union-wanted.ensures)
    (subst
    (λ (zs : List ℕ). IsGrowing g set (has (union c.grow.found c.minus-fresh.result))
    (has (union c.grow.wanted c.used.result)) (has zs)) (sym c.with-more.ensures)
    (growing_more g c.is_proper.ensures.proper c.args.set c.grow.found c.grow.wanted c.grow.done
    c.grow.invariant c.in-Some.x
    (sym (c.least.ensures ∙ ap first c.minus.ensures) ∙ c.in-Some.is)
    c.producers.result c.minus-fresh.result c.producers.ensures
    (c.minus-fresh.ensures ∙ ap (λ xs. minus xs c.grow.found) c.meet.ensures) c.used.result
    c.used.ensures)))
