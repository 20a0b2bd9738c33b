use Rattle.std.proofs.Common.{ap}
use Rattle.std.proofs.lemmas.Result.{err_from_is_err_and}
use Rattle.text_lines.specs.View.{texts}
use Rattle.edit_scripts.proofs.BothSides.{listed, all_listed}
use Rattle.edit_scripts.proofs.sides.materials_once.Goals as goal

pub listing-init : goal.listing-init
listing-init c = ap texts c.new-names.ensures.items

pub returns-in_err-push : goal.returns-in_err-push
returns-in_err-push c = let e =
    err_from_is_err_and c.from_residual.result c.from_residual.ensures.1 in rw e.1 tt

pub listing-preserved : goal.listing-preserved
listing-preserved c =
    listed c.args.terms.now c.listing.term-index _ c.listing.names.items c.push.new.self.items
    c.listing-test.true c.listing.invariant c.in_ok-push.ensures.items

pub returns : goal.returns
returns c =
    rw (← all_listed c.args.terms.now c.listing.term-index c.listing.names.items c.deref.result.now
    c.listing-test.false c.deref.ensures.value c.listing.invariant) c.once.ensures
