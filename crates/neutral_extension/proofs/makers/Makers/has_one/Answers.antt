use Rattle.std.proofs.Common.{◌≡◌, ◌<◌, ℕ, not, List, length, take, sym, ap, ◌∙◌, subst}
use Rattle.pgraph.specs.number_sets.Sets.{has, kept}
use Rattle.link_lists.specs.Lists.{row}
use Rattle.link_lists.specs.Lists as cells
use Rattle.neutral_extension.specs.Candidates.{Candidates, makers_at, left}
use Rattle.neutral_extension.specs.Cells.{makers_of}
use Rattle.neutral_extension.specs.OpenLeaf.{is_single}
use Rattle.neutral_extension.proofs.KeptLemmas.{count_lists, row_is, one_cell, one_alone, not_one}
use Rattle.neutral_extension.proofs.KeptLemmas.{lacks_from}
use Rattle.neutral_extension.proofs.makers.Makers.has_one.Goals as goal

pub first-requires : goal.first-requires
first-requires c =
    let s = c.self.inside in
    let held = c.self.invariant in
    let mk : makers_of s.lists ≡ c.args.self.now.makers =
    ap (λ (k : Candidates). k.makers) c.self.view_is in
    let low : c.args.x < length (makers_of s.lists) =
    subst (λ (m : List (List ℕ)). c.args.x < length m) (sym mk) c.requires in
    subst (λ n. c.args.x < n)
    (sym (count_lists s.lists (makers_of s.lists) s.order.items s.count held)) low

pub next-requires : goal.next-requires
next-requires c =
    let s = c.self.inside in
    let held = c.self.invariant in
    let mk : makers_of s.lists ≡ c.args.self.now.makers =
    ap (λ (k : Candidates). k.makers) c.self.view_is in
    let low : c.args.x < length (makers_of s.lists) =
    subst (λ (m : List (List ℕ)). c.args.x < length m) (sym mk) c.requires in
    let is = row_is s.lists (makers_of s.lists) s.order.items s.count held c.args.x low in
    let us =
    kept (λ v. not (has (take s.count s.order.items) v))
    (makers_at (makers_of s.lists) c.args.x) in
    record {
      list = c.args.x;
      there = ap (λ xs. cells.has xs c.in-Some.cell) is
          ∙ one_cell c.args.x us c.in-Some.cell
          (sym (ap cells.first is) ∙ (sym c.first.ensures ∙ c.in-Some.is));
    }

pub returns-in-Some : goal.returns-in-Some
returns-in-Some c =
    let s = c.self.inside in
    let held = c.self.invariant in
    let mk : makers_of s.lists ≡ c.args.self.now.makers =
    ap (λ (k : Candidates). k.makers) c.self.view_is in
    let low : c.args.x < length (makers_of s.lists) =
    subst (λ (m : List (List ℕ)). c.args.x < length m) (sym mk) c.requires in
    let is = row_is s.lists (makers_of s.lists) s.order.items s.count held c.args.x low in
    let us =
    kept (λ v. not (has (take s.count s.order.items) v))
    (makers_at (makers_of s.lists) c.args.x) in
    let head = sym (ap cells.first is) ∙ (sym c.first.ensures ∙ c.in-Some.is) in
    let there = ap (λ xs. cells.has xs c.in-Some.cell) is
    ∙ one_cell c.args.x us c.in-Some.cell head in
    lacks_from c.next.result c.is_none.result c.is_none.ensures
    ∙ (one_alone c.args.x us c.in-Some.cell c.next.result head
    (c.next.ensures c.args.x there ∙ ap (cells.following c.in-Some.cell) is)
    ∙ ap (λ k. is_single (left k c.args.x)) c.self.view_is)

pub returns-in-None : goal.returns-in-None
returns-in-None c =
    let s = c.self.inside in
    let held = c.self.invariant in
    let mk : makers_of s.lists ≡ c.args.self.now.makers =
    ap (λ (k : Candidates). k.makers) c.self.view_is in
    let low : c.args.x < length (makers_of s.lists) =
    subst (λ (m : List (List ℕ)). c.args.x < length m) (sym mk) c.requires in
    let is = row_is s.lists (makers_of s.lists) s.order.items s.count held c.args.x low in
    let us =
    kept (λ v. not (has (take s.count s.order.items) v))
    (makers_at (makers_of s.lists) c.args.x) in
    not_one c.args.x us (sym (ap cells.first is) ∙ (sym c.first.ensures ∙ c.in-None.is))
    ∙ ap (λ k. is_single (left k c.args.x)) c.self.view_is
