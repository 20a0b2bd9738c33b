use Rattle.std.proofs.Common.{◌++◌, [], ◌∷◌, map, ap, ◌∙◌, string_bytes}
use Rattle.studio_rules.specs.problem_rules.Names.{is_among}
use Rattle.pns_problem.proofs.Cited.{names-insert_key}
use Rattle.studio_words.proofs.unit_names.UnitNames.push.Goals as goal

pub returns : goal.returns
returns c =
    let is = c.self.view_is in
    let same = c.in_ok-name.ensures.ok in
    ap (λ keys. map string_bytes keys) c.in_ok-insert.ensures.keys
    ∙ (names-insert_key c.self.inside.names.keys c.in_ok-name.name
    ((λ i. is_among (is i) (same i)) ∙ c.requires)
    ∙ (λ i. is i ++ same i ∷ []))
