use Rattle.std.proofs.Common.{◌<◌, ◌≤◌, ◌∷◌, ◌++◌, ℕ, List, [], length, ap, ◌∙◌, arith}
use Rattle.text_lines.specs.text_rules.Field.{items_of}
use Rattle.pns_text.proofs.ItemLines.{items_more, items_last}
use Rattle.pns_text.proofs.item.items_of.Goals as goal

pub loop-items-preserved : goal.loop-items-preserved
loop-items-preserved c =
    let lt : c.place_of-at.result < length c.loop-items.rest.now = let b =
    c.if-at-rest.false in omega (arith, b) in
    items_more c.loop-items.items.items c.push.new.self.items (items_of c.args.text.now)
    c.loop-items.rest.now c.behind-rest.result.now c.place_of-at.result
    c.place_of-at.ensures.place lt
    (c.in_ok-push.ensures.items
    ∙ ap (λ (item : List ℕ). c.loop-items.items.items ++ item ∷ [])
    (c.of.ensures ∙ c.trim.ensures.value)) c.behind-rest.ensures c.loop-items.invariant

pub returns-then-at-rest : goal.returns-then-at-rest
returns-then-at-rest c =
    let le : length c.loop-items.rest.now ≤ c.place_of-at.result = let b =
    c.if-at-rest.true in omega (arith, b) in
    c.in_ok-push.ensures.items
    ∙ ap (λ (item : List ℕ). c.loop-items.items.items ++ item ∷ [])
    (c.of.ensures ∙ c.trim.ensures.value)
    ∙ items_last c.loop-items.items.items (items_of c.args.text.now) c.loop-items.rest.now
    c.place_of-at.result c.place_of-at.ensures.place le c.loop-items.invariant
