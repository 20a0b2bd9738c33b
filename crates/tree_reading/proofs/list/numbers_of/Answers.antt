use Rattle.std.proofs.Common.{◌≡◌, Ok, ap, ◌∙◌, refl, rules}
use Rattle.std.proofs.lemmas.Result.{err_from_is_err_and}
use Rattle.text_lines.specs.Tells.{TellsLine}
use Rattle.tree_text_rules.specs.Token as token
use Rattle.tree_text_rules.specs.declared.TreeKind.TheVariants.{BadNumber}
use Rattle.tree_reading.specs.View.{tokens_in}
use Rattle.tree_reading.proofs.Failing.{line_fails}
use Rattle.tree_reading.proofs.Joining.{each_on}
use Rattle.tree_reading.proofs.list.numbers_of.Goals as goal

pub returns-in_err-map_err-clause-fault : goal.returns-in_err-map_err-clause-fault
returns-in_err-map_err-clause-fault c =
    let e =
    err_from_is_err_and c.from_residual-in_err-map_err.result
    c.from_residual-in_err-map_err.ensures.1 in
    let here : TellsLine (token.number_of c.first_token.result.0.now) c.in_err-map_err.field-0.0 =
    search rules in
    rw (e.1, e.2)
    (line_fails token.whole_number BadNumber refl c.in_err-map_err.field-0.0 c.reading.numbers.items
    c.first_token.result.0.now (tokens_in c.first_token.result.1) (tokens_in c.reading.rest) _
    here (ap tokens_in c.in-Some.is ∙ c.first_token.ensures.cut) c.reading.invariant.whole)

pub reading-preserved : goal.reading-preserved
reading-preserved c =
    let here : token.number_of c.first_token.result.0.now ≡ Ok c.in_ok-map_err.field-0 =
    search rules in
    record {
      whole =
          each_on token.number_of (Ok c.reading.numbers.items) (Ok c.push.new.self.items)
          c.first_token.result.0.now (tokens_in c.first_token.result.1) (tokens_in c.reading.rest)
          (token.each token.number_of (tokens_in c.args.fields))
          (rw here (search rules)) (ap tokens_in c.in-Some.is ∙ c.first_token.ensures.cut)
          c.reading.invariant.whole;
      range = search rules;
    }
