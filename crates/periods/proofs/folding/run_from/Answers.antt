use Rattle.std.proofs.Common.{◌≡◌, ◌+◌, ◌∙◌, ◌++◌, ◌∷◌, [], ℕ, ℤ, pos, Bool, List, cond, sym, ap}
use Rattle.std.proofs.Common.{SFits, rules}
use Rattle.std.specs.Prelude.{slice_index_or}
use Rattle.std.specs.Int.{w128}
use Rattle.std.proofs.lemmas.Int.{to_z-of_z}
use Rattle.plan_laws.specs.number_sets.Sets.{has, with_number}
use Rattle.plan_laws.specs.tree_rules.Claim.{size_in}
use Rattle.periods.proofs.DesignsTaken.{none_taken, no_sizes, units_with, sizes_more}
use Rattle.periods.proofs.folding.run_from.Goals as goal

pub taking-init : goal.taking-init
taking-init c =
    let t : ℕ → Bool = λ i. has c.args.network.now.units (c.args.first + i) in
    record {
      units = c.empty-units.ensures ∙ none_taken t;
      sizes =
          c.new-sizes.ensures.items
          ∙ no_sizes (λ i. size_in c.args.network.now (c.args.first + i)) t;
    }

pub taking-preserved : goal.taking-preserved
taking-preserved c =
    let i : ℕ = c.taking.i in
    let t : ℕ → Bool = λ j. has c.args.network.now.units (c.args.first + j) in
    let b : Bool = c.has.result in
    let e : t i ≡ b = ap (λ (us : List ℕ). has us (c.args.first + i)) (sym c.units-all.ensures)
    ∙ sym c.has.ensures in
    let fits : SFits w128 (slice_index_or c.args.size_at.now (c.args.first + i) (pos 0)) =
    search rules in
    let more : c.take_if.new.sizes.items ≡ c.taking.sizes.items
    ++ cond b (slice_index_or c.args.size_at.now (c.args.first + i) (pos 0) ∷ []) [] =
    simp to_z-of_z at c.in_ok-units.ensures.sizes in
    record {
      units = c.in_ok-units.ensures.units
          ∙ (ap (λ (us : List ℕ). cond b (with_number i us) us) c.taking.invariant.units
          ∙ units_with i t b e);
      sizes =
          sizes_more (λ j. size_in c.args.network.now (c.args.first + j)) i t b _ _ _ e
          (λ is. c.requires.sizes (c.args.first + i) (e ∙ is)) c.taking.invariant.sizes more;
    }
