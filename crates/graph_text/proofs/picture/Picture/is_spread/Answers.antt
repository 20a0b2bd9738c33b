use Rattle.std.proofs.Common.{◌<◌, ◌∙◌, sym, ap, subst, length, ℕ}
use Rattle.std.specs.Prelude.{nat_lt}
use Rattle.report_amounts.specs.pns_rules.Shape.{Shape, shape_of}
use Rattle.report_amounts.specs.report_rules.Drawn.{counts}
use Rattle.graph_text.specs.Kept.{picture_of}
use Rattle.graph_text.proofs.Users.{users_are}
use Rattle.graph_text.proofs.picture.Picture.is_spread.Goals as goal

pub consumers-requires : goal.consumers-requires
consumers-requires c =
    subst (λ (g : Shape). c.args.j < g.materials) (sym c.graph.ensures.same) c.requires

pub returns : goal.returns
returns c =
    let d = picture_of c.args.self.now in
    let p = d.problem in
    let j = c.args.j in
    ap (nat_lt 4) (c.count.ensures
    ∙ ap length
    (users_are (length p.units) (λ u. (shape_of p).uses u j) (counts d j) c.consumers.result
    c.counting.result c.meet-users.result
    c.meet-users.ensures
    (c.consumers.ensures ∙ ap (λ (g : Shape). λ (u : ℕ). g.uses u j) c.graph.ensures.same)
    c.counting.ensures.value c.rises.ensures.rising c.counting.ensures.known))
