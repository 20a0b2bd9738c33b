use Rattle.std.proofs.Common.{◌≡◌, ◌<◌, ℕ, Bool, true, false, List, [], ◌∷◌, ◌++◌, ◌+◌, length}
use Rattle.std.proofs.Common.{take, slice_set, sym, ap, ap₂, ◌∙◌, subst, arith}
use Rattle.pgraph.specs.number_sets.Sets.{has}
use Rattle.link_lists.specs.Lists.{IsListed}
use Rattle.pgraph.specs.Tables.{shape}
use Rattle.neutral_extension.specs.Candidates.{Candidates}
use Rattle.neutral_extension.specs.Cells.{makers_of, cell_at, unit_cells, out_cells, makes_in}
use Rattle.neutral_extension.specs.Cells.{IsOrdered}
use Rattle.neutral_extension.proofs.KeptLemmas.{take_listed, take_room, take_out_of, take_all}
use Rattle.neutral_extension.proofs.KeptLemmas.{makers_out}
use Rattle.neutral_extension.proofs.makers.Makers.take_out.Goals as goal

pub unlink_cells-requires-clause-listed : goal.unlink_cells-requires-clause-listed
unlink_cells-requires-clause-listed c =
    let s = c.self.inside in
    let held = c.self.invariant in
    let mk : makers_of s.lists ≡ c.args.self.now.makers =
    ap (λ (k : Candidates). k.makers) c.self.view_is in
    let ts : take s.count s.order.items ≡ c.args.self.now.taken =
    ap (λ (k : Candidates). k.taken) c.self.view_is in
    let g = shape c.args.graph.now in
    let fresh : has (take s.count s.order.items) c.args.u ≡ false =
    ap (λ t. has t c.args.u) ts ∙ c.requires.fresh in
    let makes : makes_in (makers_of s.lists) ≡ g.makes =
    ap (makes_in) mk ∙ (λ i. λ u x. c.requires.same.makes x u i) in
    let count : length (makers_of s.lists) ≡ g.materials = ap length mk ∙ c.requires.same.count in
    subst (λ (n : ℕ). (x : ℕ) → x < n → g.makes c.args.u x ≡ true
    → IsListed (out_cells s.lists (unit_cells g.makes c.args.u x)).lists (cell_at x c.args.u))
    count
    (subst (λ (m : ℕ → ℕ → Bool). (x : ℕ) → x < length (makers_of s.lists) → m c.args.u x ≡ true
    → IsListed (out_cells s.lists (unit_cells m c.args.u x)).lists (cell_at x c.args.u)) makes
    (take_listed s.lists (makers_of s.lists) s.order.items s.count held c.args.u c.requires.unit
    fresh))

pub index_mut-requires : goal.index_mut-requires
index_mut-requires c =
    let s = c.self.inside in
    let held = c.self.invariant in
    let mk : makers_of s.lists ≡ c.args.self.now.makers =
    ap (λ (k : Candidates). k.makers) c.self.view_is in
    let ts : take s.count s.order.items ≡ c.args.self.now.taken =
    ap (λ (k : Candidates). k.taken) c.self.view_is in
    let g = shape c.args.graph.now in
    let fresh : has (take s.count s.order.items) c.args.u ≡ false =
    ap (λ t. has t c.args.u) ts ∙ c.requires.fresh in
    let makes : makes_in (makers_of s.lists) ≡ g.makes =
    ap (makes_in) mk ∙ (λ i. λ u x. c.requires.same.makes x u i) in
    let count : length (makers_of s.lists) ≡ g.materials = ap length mk ∙ c.requires.same.count in
    let room =
    take_room s.lists (makers_of s.lists) s.order.items s.count held c.args.u c.requires.unit
    fresh in
    let size = held.room in
    let ok = s.order.ok in
    omega arith

pub invariant_of-self : goal.invariant_of-self
invariant_of-self c =
    let s = c.self.inside in
    let held = c.self.invariant in
    let mk : makers_of s.lists ≡ c.args.self.now.makers =
    ap (λ (k : Candidates). k.makers) c.self.view_is in
    let ts : take s.count s.order.items ≡ c.args.self.now.taken =
    ap (λ (k : Candidates). k.taken) c.self.view_is in
    let g = shape c.args.graph.now in
    let fresh : has (take s.count s.order.items) c.args.u ≡ false =
    ap (λ t. has t c.args.u) ts ∙ c.requires.fresh in
    let makes : makes_in (makers_of s.lists) ≡ g.makes =
    ap (makes_in) mk ∙ (λ i. λ u x. c.requires.same.makes x u i) in
    let count : length (makers_of s.lists) ≡ g.materials = ap length mk ∙ c.requires.same.count in
    let is = c.unlink_cells.ensures
    ∙ ap₂ (λ m n. out_cells s.lists (unit_cells m c.args.u n)) (sym makes) (sym count) in
    let all =
    take_all s.lists (makers_of s.lists) s.order.items s.count held c.args.u c.requires.unit
    fresh c.unlink_cells.new.lists is in
    let still =
    makers_out (makes_in (makers_of s.lists)) c.args.u (length (makers_of s.lists)) s.lists
    c.unlink_cells.new.lists
    (take_out_of s.lists (makers_of s.lists) s.order.items s.count held c.args.u c.requires.unit
    fresh c.unlink_cells.new.lists is) in
    subst
    (λ (m : List (List ℕ)). IsOrdered c.unlink_cells.new.lists m
    (slice_set s.order.items s.count c.args.u) (s.count + 1)) (sym still) all.0

pub returns : goal.returns
returns c =
    let s = c.self.inside in
    let held = c.self.invariant in
    let mk : makers_of s.lists ≡ c.args.self.now.makers =
    ap (λ (k : Candidates). k.makers) c.self.view_is in
    let ts : take s.count s.order.items ≡ c.args.self.now.taken =
    ap (λ (k : Candidates). k.taken) c.self.view_is in
    let g = shape c.args.graph.now in
    let fresh : has (take s.count s.order.items) c.args.u ≡ false =
    ap (λ t. has t c.args.u) ts ∙ c.requires.fresh in
    let makes : makes_in (makers_of s.lists) ≡ g.makes =
    ap (makes_in) mk ∙ (λ i. λ u x. c.requires.same.makes x u i) in
    let count : length (makers_of s.lists) ≡ g.materials = ap length mk ∙ c.requires.same.count in
    let is = c.unlink_cells.ensures
    ∙ ap₂ (λ m n. out_cells s.lists (unit_cells m c.args.u n)) (sym makes) (sym count) in
    let all =
    take_all s.lists (makers_of s.lists) s.order.items s.count held c.args.u c.requires.unit
    fresh c.unlink_cells.new.lists is in
    let still =
    makers_out (makes_in (makers_of s.lists)) c.args.u (length (makers_of s.lists)) s.lists
    c.unlink_cells.new.lists
    (take_out_of s.lists (makers_of s.lists) s.order.items s.count held c.args.u c.requires.unit
    fresh c.unlink_cells.new.lists is) in
    λ i. record {
      makers = (still ∙ mk) i;
      taken =
          (all.1 ∙ ap (λ (t : List ℕ). t ++ c.args.u ∷ []) ts) i;
    }
