use Rattle.std.proofs.Common.{◌≡◌, ◌<◌, ◌∙◌, Bool, true, false, not, refl, sym, ap, subst, length}
use Rattle.std.proofs.Common.{[]}
use Rattle.std.proofs.lemmas.Bool.{both_ways}
use Rattle.std.proofs.lemmas.List.{get_or_read}
use Rattle.flow_rules.specs.number_sets.Sets.{has, meet}
use Rattle.pgraph.specs.Arcs.{Arcs, joins_some, units_at}
use Rattle.pgraph.proofs.ArcLemmas.{meets_none, meets_some}
use Rattle.pgraph.proofs.arcs.Arcs.joins_some.Goals as goal

by : (b met : Bool) → (b ≡ true → met ≡ false) → (b ≡ false → met ≡ true) → not b ≡ met
by true met full void = sym (full refl)
by false met full void = sym (void refl)

pub returns : goal.returns
returns c =
    let a : Arcs =
    record { materials = c.self.inside.materials.items; units = c.self.inside.units.items } in
    let here : c.args.x < length a.units =
    subst (λ (b : Arcs). c.args.x < length b.units) (sym c.self.view_is) c.requires in
    let met : c.meet.result ≡ meet (units_at a c.args.x) c.args.set =
    c.meet.ensures
    ∙ ap (λ xs. meet xs c.args.set)
    (get_or_read a.units c.args.x c.index.result.now here c.index.ensures []) in
    by c.is_empty.result (joins_some a (has c.args.set) c.args.x)
    (λ e. meets_none a c.self.invariant c.args.set c.args.x (sym met ∙ c.is_empty.ensures.0 e))
    (λ q. meets_some a c.self.invariant c.args.set c.args.x
    (λ e. both_ways c.is_empty.result q (c.is_empty.ensures.1 (met ∙ e))))
    ∙ ap (λ (b : Arcs). joins_some b (has c.args.set) c.args.x) c.self.view_is
