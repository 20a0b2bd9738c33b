use Rattle.std.proofs.Common.{◌≡◌, ◌∷◌, length, sym, ap, ◌∙◌, subst, arith}
use Rattle.link_lists.specs.Lists.{IsListed}
use Rattle.link_lists.specs.Walk.{left_of, IsOnTheWay}
use Rattle.link_lists.proofs.Walks.{left_following, way_following}
use Rattle.link_lists.proofs.walk.WalkIterator.next.Goals as goal

pub invariant_of-self : goal.invariant_of-self
invariant_of-self c =
    let listed : IsListed c.self.inside.lists.now.lists c.in_ok-cell.cell =
    subst (IsOnTheWay c.self.inside.lists.now) c.in_ok-cell.was c.self.invariant in
    way_following c.self.inside.lists.now c.in_ok-cell.cell c.next-self-inside.result listed
    c.next-self-inside.ensures

pub returns-clause-steps : goal.returns-clause-steps
returns-clause-steps c =
    let listed : IsListed c.self.inside.lists.now.lists c.in_ok-cell.cell =
    subst (IsOnTheWay c.self.inside.lists.now) c.in_ok-cell.was c.self.invariant in
    sym c.self.view_is
    ∙ (ap (left_of c.self.inside.lists.now) c.in_ok-cell.was
    ∙ left_following c.self.inside.lists.now c.in_ok-cell.cell c.next-self-inside.result listed
    c.next-self-inside.ensures c.are_apart.ensures.apart)

pub returns-clause-goes : goal.returns-clause-goes
returns-clause-goes c =
    let listed : IsListed c.self.inside.lists.now.lists c.in_ok-cell.cell =
    subst (IsOnTheWay c.self.inside.lists.now) c.in_ok-cell.was c.self.invariant in
    let step : c.args.self.now ≡ c.in_ok-cell.cell
    ∷ left_of c.self.inside.lists.now c.next-self-inside.result =
    sym c.self.view_is
    ∙ (ap (left_of c.self.inside.lists.now) c.in_ok-cell.was
    ∙ left_following c.self.inside.lists.now c.in_ok-cell.cell c.next-self-inside.result listed
    c.next-self-inside.ensures c.are_apart.ensures.apart) in
    let shorter = ap length step in
    record { on = λ _. (tt, tt, omega arith); keeps = tt; rests = λ _. tt }
