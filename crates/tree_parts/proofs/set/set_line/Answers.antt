use Rattle.std.proofs.Common.{◌≡◌, ℕ, List, ◌∷◌, [], sym, ap, ◌∙◌, subst}
use Rattle.std.proofs.lemmas.Bool.{both_ways}
use Rattle.tree_text_laws.specs.number_sets.Sets.{has, Avoids}
use Rattle.cert_check.proofs.Cited.{apart_is}
use Rattle.tree_parts.proofs.Tokens.{one_set, wider}
use Rattle.tree_parts.proofs.set.set_line.Goals as goal

pub returns-then-is_empty-clause-ok : goal.returns-then-is_empty-clause-ok
returns-then-is_empty-clause-ok c =
    let units = c.in-Some-units_of.units in
    let formed = c.in-Some.ensures.some in
    let named = c.in-Some-units_of.ensures.some in (
      (formed.0, formed.1 ∙ ap (λ (token : List ℕ). c.args.word.now ∷ token ∷ []) named.1),
      (
        named.0,
        (apart_is c.args.before units c.meet.result c.meet.ensures).0
            (c.is_empty.ensures.0 c.if-is_empty.true),
      ),
    )

pub returns-else-is_empty-clause-fault : goal.returns-else-is_empty-clause-fault
returns-else-is_empty-clause-fault c =
    let units = c.in-Some-units_of.units in
    let named = c.in-Some-units_of.ensures.some in
    let few = c.is_valid.ensures.well_formed.few_units in (
      c.in-Some.token.now,
      c.in-Some.ensures.some,
      (λ others fits e.
          let same : units ≡ others =
          one_set _ c.in-Some.token.now units others few (wider _ units few named.0) fits.0
          named.1 e in
          both_ways c.is_empty.result c.if-is_empty.false
          (c.is_empty.ensures.1
          ((apart_is c.args.before units c.meet.result c.meet.ensures).1
          (subst (λ (us : List ℕ). Avoids (has c.args.before) (has us)) (sym same) fits.1)))),
    )
