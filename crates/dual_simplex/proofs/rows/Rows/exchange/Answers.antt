use Rattle.std.proofs.Common.{rules, ◌≡◌, ◌≢◌, ◌<◌, ◌+◌, ◌*◌, ℕ, arith, sym, ap, ◌∙◌, subst, refl}
use Rattle.std.proofs.Common.{length, List, Bool, true, false, get_or, set, ◌≤◌}
use Rattle.std.proofs.lemmas.List.{with_items_is, length-set}
use Rattle.std.specs.Vec.{with_items}
use Rattle.dual_simplex.specs.Rows.{Rows, width, row_of, basis}
use Rattle.dual_simplex.specs.Exchange.{pivot_row, IsExchanged}
use Rattle.dual_simplex.proofs.RowExchangeLemmas.{exchanged_is}
use Rattle.dual_simplex.proofs.rows.Rows.exchange.Goals as goal

pub returns-clause-done : goal.returns-clause-done
returns-clause-done c =
    let inside = c.self.inside in
    let view : Rows =
    record {
      units = inside.units;
      rows = inside.rows;
      most_units =
          inside.most_units;
      most_rows = inside.most_rows;
      basic = inside.basic.items;
      entries =
          inside.entries.items;
    } in
    let is : view ≡ c.args.self.now = c.self.view_is in
    let new : Rows =
    record {
      units = inside.units;
      rows = inside.rows;
      most_units =
          inside.most_units;
      most_rows = inside.most_rows;
      basic =
          (with_items inside.basic c.exchange_flags.new.flags).items;
      entries =
          (with_items inside.entries c.exchange_block.new.entries).items;
    } in
    let size : length c.exchange_block.new.entries ≡ inside.entries.len =
    c.in_default.ensures.length ∙ c.deref_mut.ensures.len in
    let flags : c.exchange_flags.new.flags
    ≡ set (set inside.basic.items c.args.l false) c.args.e true =
    c.exchange_flags.ensures
    ∙ ap (λ b. set (set b c.args.l false) c.args.e true) c.deref_mut-2.ensures.value in
    let count : length c.exchange_flags.new.flags ≡ inside.basic.len =
    ap length flags ∙ length-set (set inside.basic.items c.args.l false) c.args.e true
    ∙ length-set inside.basic.items c.args.l false ∙ sym (ap length c.deref_mut-2.ensures.value)
    ∙ c.deref_mut-2.ensures.len in
    let wide : width c.args.self.now ≤ length inside.basic.items =
    subst (λ (o : Rows). width o ≤ length inside.basic.items) is c.self.invariant.flags in
    let below : (k : ℕ) → k < width c.args.self.now → k < length inside.basic.items =
    λ k h. omega arith in
    let apart : c.args.l ≢ c.args.e = λ s. let both : true ≡ false =
    sym c.requires.was ∙ (ap (basis c.args.self.now) s ∙ c.requires.free) in cc in
    subst
    (λ (o : Rows). IsExchanged o new c.args.l c.args.e
    (pivot_row c.args.negate (row_of o c.args.l))) is
    (exchanged_is view c.args.l c.args.e c.args.negate c.width-width.result
    (c.width-width.ensures ∙ ap width (sym is)) c.deref_mut.result.now c.deref_mut.ensures.value
    c.deref.result.now c.deref.ensures.value
    c.exchange_block.new.entries c.in_default.ensures.row c.in_default.ensures.done new refl
    (with_items_is inside.entries c.exchange_block.new.entries size)
    (with_items_is inside.basic c.exchange_flags.new.flags count ∙ flags)
    (below c.args.l c.requires.l) (below c.args.e c.requires.e) apart)
