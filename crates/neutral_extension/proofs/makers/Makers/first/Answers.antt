use Rattle.std.proofs.Common.{◌≡◌, ◌<◌, ℕ, not, List, length, take, sym, ap, ◌∙◌, subst}
use Rattle.pgraph.specs.number_sets.Sets.{has, first, kept}
use Rattle.link_lists.specs.Lists.{Rows, row, pushed, unlinked, relinked, with_pushed, opened}
use Rattle.link_lists.specs.Lists.{IsListed, IsTop, IsFree}
use Rattle.neutral_extension.specs.Cells.{makers_of}
use Rattle.neutral_extension.specs.Candidates.{Candidates, makers_at, left}
use Rattle.neutral_extension.proofs.KeptLemmas.{count_lists, row_is, first_some, first_none}
use Rattle.link_lists.specs.Lists as cells
use Rattle.neutral_extension.proofs.makers.Makers.first.Goals as goal

pub first-requires : goal.first-requires
first-requires c =
    let s = c.self.inside in
    let held = c.self.invariant in
    let mk : makers_of s.lists ≡ c.args.self.now.makers =
    ap (λ (k : Candidates). k.makers) c.self.view_is in
    let ts : take s.count s.order.items ≡ c.args.self.now.taken =
    ap (λ (k : Candidates). k.taken) c.self.view_is in
    let low : c.args.x < length (makers_of s.lists) =
    subst (λ (m : List (List ℕ)). c.args.x < length m) (sym mk) c.requires in
    let is = row_is s.lists (makers_of s.lists) s.order.items s.count held c.args.x low in
    let us =
    kept (λ v. not (has (take s.count s.order.items) v))
    (makers_at (makers_of s.lists) c.args.x) in
    subst (λ n. c.args.x < n)
    (sym (count_lists s.lists (makers_of s.lists) s.order.items s.count held)) low

pub overflow_sub-result : goal.overflow_sub-result
overflow_sub-result c =
    let s = c.self.inside in
    let held = c.self.invariant in
    let mk : makers_of s.lists ≡ c.args.self.now.makers =
    ap (λ (k : Candidates). k.makers) c.self.view_is in
    let ts : take s.count s.order.items ≡ c.args.self.now.taken =
    ap (λ (k : Candidates). k.taken) c.self.view_is in
    let low : c.args.x < length (makers_of s.lists) =
    subst (λ (m : List (List ℕ)). c.args.x < length m) (sym mk) c.requires in
    let is = row_is s.lists (makers_of s.lists) s.order.items s.count held c.args.x low in
    let us =
    kept (λ v. not (has (take s.count s.order.items) v))
    (makers_at (makers_of s.lists) c.args.x) in
    (first_some c.args.x us c.in-Some.cell
    (sym (ap cells.first is) ∙ (sym c.first.ensures ∙ c.in-Some.is))).1

pub returns-in-Some : goal.returns-in-Some
returns-in-Some c =
    let s = c.self.inside in
    let held = c.self.invariant in
    let mk : makers_of s.lists ≡ c.args.self.now.makers =
    ap (λ (k : Candidates). k.makers) c.self.view_is in
    let ts : take s.count s.order.items ≡ c.args.self.now.taken =
    ap (λ (k : Candidates). k.taken) c.self.view_is in
    let low : c.args.x < length (makers_of s.lists) =
    subst (λ (m : List (List ℕ)). c.args.x < length m) (sym mk) c.requires in
    let is = row_is s.lists (makers_of s.lists) s.order.items s.count held c.args.x low in
    let us =
    kept (λ v. not (has (take s.count s.order.items) v))
    (makers_at (makers_of s.lists) c.args.x) in
    sym (first_some c.args.x us c.in-Some.cell
    (sym (ap cells.first is) ∙ (sym c.first.ensures ∙ c.in-Some.is))).0
    ∙ ap (λ k. first (left k c.args.x)) c.self.view_is

pub returns-in-None : goal.returns-in-None
returns-in-None c =
    let s = c.self.inside in
    let held = c.self.invariant in
    let mk : makers_of s.lists ≡ c.args.self.now.makers =
    ap (λ (k : Candidates). k.makers) c.self.view_is in
    let ts : take s.count s.order.items ≡ c.args.self.now.taken =
    ap (λ (k : Candidates). k.taken) c.self.view_is in
    let low : c.args.x < length (makers_of s.lists) =
    subst (λ (m : List (List ℕ)). c.args.x < length m) (sym mk) c.requires in
    let is = row_is s.lists (makers_of s.lists) s.order.items s.count held c.args.x low in
    let us =
    kept (λ v. not (has (take s.count s.order.items) v))
    (makers_at (makers_of s.lists) c.args.x) in
    sym (first_none c.args.x us (sym (ap cells.first is) ∙ (sym c.first.ensures ∙ c.in-None.is)))
    ∙ ap (λ k. first (left k c.args.x)) c.self.view_is
