use Rattle.std.proofs.Common.{subst}
use Rattle.link_lists.specs.Lists.{Rows, AreApart, AreBelow}
use Rattle.link_lists.proofs.States.{rep, apart_lists}
use Rattle.link_lists.proofs.lists.Lists.are_apart.Goals as goal

pub returns-clause-apart : goal.returns-clause-apart
returns-clause-apart c =
    let s = c.self.inside in
    let held = c.self.invariant in
    let ok = s.links.ok in
    let room_links = held.room_links in
    let small = held.few in
    subst (λ (r : Rows). AreApart r.lists) c.self.view_is
    (apart_lists s.lists s.cells s.links.items s.stack.items s.depth held)

pub returns-clause-below : goal.returns-clause-below
returns-clause-below c =
    let s = c.self.inside in
    let held = c.self.invariant in
    let ok = s.links.ok in
    let room_links = held.room_links in
    let small = held.few in
    subst (λ (r : Rows). AreBelow r.cells r.lists) c.self.view_is
    (rep s.lists s.cells s.links.items s.stack.items s.depth held).below
