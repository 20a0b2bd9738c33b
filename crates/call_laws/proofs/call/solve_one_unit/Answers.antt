use Rattle.std.proofs.Common.{◌≡◌, map, string_bytes, ap, ◌∙◌}
use Rattle.call_laws.proofs.Solved.{solve_words, solved}
use Rattle.call_laws.proofs.call.solve_one_unit.Goals as goal

pub returns : goal.returns
returns g c =
    let words : map string_bytes c.deref.result.now ≡ solve_words
    = ap (map string_bytes) c.deref.ensures.value ∙ c.in_ok-words.ensures in
    solved c.in_ok-shelf.shelf c.studio.new.shelf c.args.out.now c.studio.new.out
    (map string_bytes c.deref.result.now) c.studio.result
    c.one_unit_is_sure.ensures c.sure_call_is_done.ensures.done c.in_ok-shelf.ensures words
    c.studio.ensures.ends
