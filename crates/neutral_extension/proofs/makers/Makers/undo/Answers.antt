use Rattle.std.proofs.Common.{◌≡◌, ◌<◌, ◌+◌, ◌-◌, ℕ, Bool, List, length, take, sym, ap, ◌∙◌, subst}
use Rattle.std.proofs.Common.{arith}
use Rattle.std.proofs.lemmas.List.{get_or_read}
use Rattle.pgraph.specs.Tables.{shape}
use Rattle.neutral_extension.specs.Candidates.{Candidates}
use Rattle.neutral_extension.specs.Cells.{makers_of, full_rows, makes_in, out_units, IsOut}
use Rattle.neutral_extension.specs.Cells.{IsOrdered}
use Rattle.neutral_extension.proofs.KeptLemmas.{count_taken, undo_unit, undo_out, undo_all}
use Rattle.neutral_extension.proofs.KeptLemmas.{makers_out}
use Rattle.neutral_extension.proofs.makers.Makers.undo.Goals as goal

pub relink_cells-requires-clause-unit : goal.relink_cells-requires-clause-unit
relink_cells-requires-clause-unit c =
    let s = c.self.inside in
    let held = c.self.invariant in
    let mk : makers_of s.lists ≡ c.args.self.now.makers =
    ap (λ (k : Candidates). k.makers) c.self.view_is in
    let ts : take s.count s.order.items ≡ c.args.self.now.taken =
    ap (λ (k : Candidates). k.taken) c.self.view_is in
    let g = shape c.args.graph.now in
    let makes : makes_in (makers_of s.lists) ≡ g.makes =
    ap (makes_in) mk ∙ (λ i. λ u x. c.requires.same.makes x u i) in
    let count : length (makers_of s.lists) ≡ g.materials = ap length mk ∙ c.requires.same.count in
    let size = held.room in
    let ok = s.order.ok in
    let deep = held.deep in
    let n = count_taken s.lists (makers_of s.lists) s.order.items s.count held in
    let some : 0 < length (take s.count s.order.items) =
    subst (λ (t : List ℕ). 0 < length t) (sym ts) c.requires.some in
    let k = s.count - 1 in
    let more : s.count ≡ k + 1 = omega arith in
    let u = c.index-u.result.now in
    let is_u = get_or_read s.order.items k u (omega arith) c.index-u.ensures 0 in
    let b = out_units (makers_of s.lists) (full_rows (makers_of s.lists)) (take k s.order.items) in
    let out : IsOut g.makes u g.materials b s.lists =
    subst (λ (m : ℕ → ℕ → Bool). IsOut m u g.materials b s.lists) makes
    (subst (λ (j : ℕ). IsOut (makes_in (makers_of s.lists)) u j b s.lists) count
    (undo_out s.lists (makers_of s.lists) s.order.items s.count held k u more is_u)) in
    undo_unit s.lists (makers_of s.lists) s.order.items s.count held k u more is_u

pub relink_cells-requires-clause-out : goal.relink_cells-requires-clause-out
relink_cells-requires-clause-out c =
    let s = c.self.inside in
    let held = c.self.invariant in
    let mk : makers_of s.lists ≡ c.args.self.now.makers =
    ap (λ (k : Candidates). k.makers) c.self.view_is in
    let ts : take s.count s.order.items ≡ c.args.self.now.taken =
    ap (λ (k : Candidates). k.taken) c.self.view_is in
    let g = shape c.args.graph.now in
    let makes : makes_in (makers_of s.lists) ≡ g.makes =
    ap (makes_in) mk ∙ (λ i. λ u x. c.requires.same.makes x u i) in
    let count : length (makers_of s.lists) ≡ g.materials = ap length mk ∙ c.requires.same.count in
    let size = held.room in
    let ok = s.order.ok in
    let deep = held.deep in
    let n = count_taken s.lists (makers_of s.lists) s.order.items s.count held in
    let some : 0 < length (take s.count s.order.items) =
    subst (λ (t : List ℕ). 0 < length t) (sym ts) c.requires.some in
    let k = s.count - 1 in
    let more : s.count ≡ k + 1 = omega arith in
    let u = c.index-u.result.now in
    let is_u = get_or_read s.order.items k u (omega arith) c.index-u.ensures 0 in
    let b = out_units (makers_of s.lists) (full_rows (makers_of s.lists)) (take k s.order.items) in
    let out : IsOut g.makes u g.materials b s.lists =
    subst (λ (m : ℕ → ℕ → Bool). IsOut m u g.materials b s.lists) makes
    (subst (λ (j : ℕ). IsOut (makes_in (makers_of s.lists)) u j b s.lists) count
    (undo_out s.lists (makers_of s.lists) s.order.items s.count held k u more is_u)) in
    (b, out)

pub invariant_of-self : goal.invariant_of-self
invariant_of-self c =
    let s = c.self.inside in
    let held = c.self.invariant in
    let mk : makers_of s.lists ≡ c.args.self.now.makers =
    ap (λ (k : Candidates). k.makers) c.self.view_is in
    let ts : take s.count s.order.items ≡ c.args.self.now.taken =
    ap (λ (k : Candidates). k.taken) c.self.view_is in
    let g = shape c.args.graph.now in
    let makes : makes_in (makers_of s.lists) ≡ g.makes =
    ap (makes_in) mk ∙ (λ i. λ u x. c.requires.same.makes x u i) in
    let count : length (makers_of s.lists) ≡ g.materials = ap length mk ∙ c.requires.same.count in
    let size = held.room in
    let ok = s.order.ok in
    let deep = held.deep in
    let n = count_taken s.lists (makers_of s.lists) s.order.items s.count held in
    let some : 0 < length (take s.count s.order.items) =
    subst (λ (t : List ℕ). 0 < length t) (sym ts) c.requires.some in
    let k = s.count - 1 in
    let more : s.count ≡ k + 1 = omega arith in
    let u = c.index-u.result.now in
    let is_u = get_or_read s.order.items k u (omega arith) c.index-u.ensures 0 in
    let b = out_units (makers_of s.lists) (full_rows (makers_of s.lists)) (take k s.order.items) in
    let out : IsOut g.makes u g.materials b s.lists =
    subst (λ (m : ℕ → ℕ → Bool). IsOut m u g.materials b s.lists) makes
    (subst (λ (j : ℕ). IsOut (makes_in (makers_of s.lists)) u j b s.lists) count
    (undo_out s.lists (makers_of s.lists) s.order.items s.count held k u more is_u)) in
    let all =
    undo_all s.lists (makers_of s.lists) s.order.items s.count held k u more is_u
    c.relink_cells.new.lists (c.relink_cells.ensures b out) in
    let still : makers_of c.relink_cells.new.lists ≡ makers_of s.lists =
    ap makers_of (c.relink_cells.ensures b out)
    ∙ sym
    (makers_out (makes_in (makers_of s.lists)) u (length (makers_of s.lists)) b s.lists
    (undo_out s.lists (makers_of s.lists) s.order.items s.count held k u more is_u)) in
    subst (λ (m : List (List ℕ)). IsOrdered c.relink_cells.new.lists m s.order.items k) (sym still)
    all.0

pub returns : goal.returns
returns c =
    let s = c.self.inside in
    let held = c.self.invariant in
    let mk : makers_of s.lists ≡ c.args.self.now.makers =
    ap (λ (k : Candidates). k.makers) c.self.view_is in
    let ts : take s.count s.order.items ≡ c.args.self.now.taken =
    ap (λ (k : Candidates). k.taken) c.self.view_is in
    let g = shape c.args.graph.now in
    let makes : makes_in (makers_of s.lists) ≡ g.makes =
    ap (makes_in) mk ∙ (λ i. λ u x. c.requires.same.makes x u i) in
    let count : length (makers_of s.lists) ≡ g.materials = ap length mk ∙ c.requires.same.count in
    let size = held.room in
    let ok = s.order.ok in
    let deep = held.deep in
    let n = count_taken s.lists (makers_of s.lists) s.order.items s.count held in
    let some : 0 < length (take s.count s.order.items) =
    subst (λ (t : List ℕ). 0 < length t) (sym ts) c.requires.some in
    let k = s.count - 1 in
    let more : s.count ≡ k + 1 = omega arith in
    let u = c.index-u.result.now in
    let is_u = get_or_read s.order.items k u (omega arith) c.index-u.ensures 0 in
    let b = out_units (makers_of s.lists) (full_rows (makers_of s.lists)) (take k s.order.items) in
    let out : IsOut g.makes u g.materials b s.lists =
    subst (λ (m : ℕ → ℕ → Bool). IsOut m u g.materials b s.lists) makes
    (subst (λ (j : ℕ). IsOut (makes_in (makers_of s.lists)) u j b s.lists) count
    (undo_out s.lists (makers_of s.lists) s.order.items s.count held k u more is_u)) in
    let all =
    undo_all s.lists (makers_of s.lists) s.order.items s.count held k u more is_u
    c.relink_cells.new.lists (c.relink_cells.ensures b out) in
    let still : makers_of c.relink_cells.new.lists ≡ makers_of s.lists =
    ap makers_of (c.relink_cells.ensures b out)
    ∙ sym
    (makers_out (makes_in (makers_of s.lists)) u (length (makers_of s.lists)) b s.lists
    (undo_out s.lists (makers_of s.lists) s.order.items s.count held k u more is_u)) in
    λ i. record {
      makers = (still ∙ mk) i;
      taken =
          (all.1 ∙ ap (λ (t : List ℕ). take (length t - 1) t) ts) i;
    }
