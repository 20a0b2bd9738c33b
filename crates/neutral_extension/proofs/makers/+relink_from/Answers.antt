use Rattle.std.proofs.Common.{◌<◌, ◌≤◌, ◌+◌, ℕ, List, length, refl, sym, ap, ◌∙◌, subst, arith}
use Rattle.pgraph.proofs.number_sets.Cited.{first_none}
use Rattle.link_lists.specs.Lists.{Rows, relinked, IsTop}
use Rattle.pgraph.specs.Tables.{shape}
use Rattle.pgraph.proofs.Cited.{first_shorter}
use Rattle.neutral_extension.specs.Cells.{cell_at, unit_cells, out_cells, AreFrom}
use Rattle.neutral_extension.proofs.OutLemmas.{out_cells_push, cells_more, back_one, from_none}
use Rattle.neutral_extension.proofs.OutLemmas.{from_made, from_cells, from_more}
use Rattle.neutral_extension.proofs.makers.+relink_from.Goals as goal

pub returns-in_default : goal.returns-in_default
returns-in_default t c = λ b n le out is.
    let g = shape c.args.graph.now in
    out.is
    ∙ ap (out_cells b)
    (from_none g.makes c.args.u n c.args.outputs is g.materials le
    (first_none c.args.outputs (sym c.least.ensures ∙ c.in_default.is)))

pub relink_from-requires : goal.relink_from-requires
relink_from-requires t c =
    let g = shape c.args.graph.now in
    let u = c.args.u in
    let x = c.in-Some.x in
    let k = c.requires.out in
    let head = sym c.least.ensures ∙ c.in-Some.is in
    let m = from_made g.makes u k.1 c.args.outputs k.4 x c.rises.ensures.rising head in
    let lt = c.is_proper.ensures.proper.output_known u x m in
    let less : length c.without.result < length c.args.outputs =
    subst (λ (xs : List ℕ). length xs < length c.args.outputs) (sym c.without.ensures)
    (first_shorter c.args.outputs x head) in
    let measure = c.decreases in (
      omega arith,
      (
        c.requires.unit,
        (
          k.0,
          x + 1,
          omega arith,
          k.3,
          subst (λ (xs : List ℕ). AreFrom g.makes u (x + 1) xs) (sym c.without.ensures)
              (from_more g.makes u k.1 c.args.outputs k.4 x c.rises.ensures.rising head),
        ),
      ),
    )

pub relink-requires : goal.relink-requires
relink-requires t c =
    let g = shape c.args.graph.now in
    let u = c.args.u in
    let x = c.in-Some.x in
    let k = c.requires.out in
    let head = sym c.least.ensures ∙ c.in-Some.is in
    let m = from_made g.makes u k.1 c.args.outputs k.4 x c.rises.ensures.rising head in
    let lt = c.is_proper.ensures.proper.output_known u x m in
    let le : x + 1 ≤ g.materials = omega arith in
    let rest =
    subst (λ (xs : List ℕ). AreFrom g.makes u (x + 1) xs) (sym c.without.ensures)
    (from_more g.makes u k.1 c.args.outputs k.4 x c.rises.ensures.rising head) in
    let more = ap (out_cells k.0) (cells_more g.makes u x m)
    ∙ out_cells_push k.0 (unit_cells g.makes u x) (cell_at x u) in
    subst (λ (r : Rows). IsTop (cell_at x u) r.stack)
    (sym (c.relink_from.ensures k.0 (x + 1) le k.3 rest ∙ more)) refl

pub returns : goal.returns
returns t c = λ b n low out is.
    let g = shape c.args.graph.now in
    let u = c.args.u in
    let x = c.in-Some.x in
    let head = sym c.least.ensures ∙ c.in-Some.is in
    let m = from_made g.makes u n c.args.outputs is x c.rises.ensures.rising head in
    let lt = c.is_proper.ensures.proper.output_known u x m in
    let le : x + 1 ≤ g.materials = omega arith in
    let rest =
    subst (λ (xs : List ℕ). AreFrom g.makes u (x + 1) xs) (sym c.without.ensures)
    (from_more g.makes u n c.args.outputs is x c.rises.ensures.rising head) in
    let more = ap (out_cells b) (cells_more g.makes u x m)
    ∙ out_cells_push b (unit_cells g.makes u x) (cell_at x u) in
    c.relink.ensures
    ∙ (ap relinked (c.relink_from.ensures b (x + 1) le out rest ∙ more)
    ∙ (back_one g.makes u g.materials x b c.args.lists.now out lt m
    ∙ ap (out_cells b) (from_cells g.makes u n c.args.outputs is x c.rises.ensures.rising head)))
