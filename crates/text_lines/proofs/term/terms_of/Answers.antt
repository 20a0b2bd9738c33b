use Rattle.std.proofs.Common.{◌≡◌, ◌∷◌, ◌+◌, ◌-◌, ◌<◌, ◌++◌, [], Some, None, option_map, Option}
use Rattle.std.proofs.Common.{refl, ℕ, List, ap, sym, ◌∙◌, arith, take, drop, length}
use Rattle.std.specs.List.{slice_split}
use Rattle.std.specs.Borrow.{Bor}
use borrow.Author.Tests.{eqb-false}
use Rattle.std.proofs.lemmas.List.{take-map, drop-map, length-map, map-append}
use Rattle.text_lines.proofs.Borrowed.{rest_all, texts-long}
use Rattle.text_lines.specs.declared.term.Term.{Term}
use Rattle.text_lines.specs.View.{texts}
use Rattle.edit_rules.specs.text_rules.Term.{Pair}
use Rattle.text_lines.specs.Terms.{term_view, terms_view, terms_read, begins, is_plus}
use Rattle.text_lines.proofs.Cutting.{split-first, split-at, behind}
use Rattle.text_lines.proofs.Sides.{terms-more, terms-bad, terms_some}
use Rattle.text_lines.proofs.term.terms_of.Goals as goal

same_found : (found : Option (List Pair)) → option_map (λ more. [] ++ more) found ≡ found
same_found None = refl
same_found (Some pairs) = refl

pub returns-in-None : goal.returns-in-None
returns-in-None c =
    let at : ℕ = c.place_of-at.result in
    let rest : List (Bor (List ℕ)) = c.loop-term.rest.now in
    let cut : slice_split is_plus (texts rest) ≡ texts (take at rest)
    ∷ behind is_plus (texts rest) at =
    split-first is_plus (texts rest) [] at c.place_of-at.ensures.place
    ∙ ap (λ (t : List (List ℕ)). t ∷ behind is_plus (texts rest) at)
    (take-map (λ (text : Bor (List ℕ)). text.now) at rest) in
    let bad : begins (texts (take at rest)) ≡ None = sym c.in-None.ensures in
    terms-bad (terms_view c.loop-term.terms.items) (texts (take at rest))
    (behind is_plus (texts rest) at) _ _ bad cut c.loop-term.invariant

pub loop-term-preserved : goal.loop-term-preserved
loop-term-preserved c =
    let at : ℕ = c.place_of-at.result in
    let rest : List (Bor (List ℕ)) = c.loop-term.rest.now in
    let lt : at < length (texts rest) = let a = c.place_of-at.ensures.within in let b =
    c.if-at-rest.false in omega (arith, length-map rest (λ (text : Bor (List ℕ)). text.now)) in
    let cut : slice_split is_plus (texts rest) ≡ texts (take at rest)
    ∷ slice_split is_plus (texts (drop (at + 1) rest)) =
    split-at is_plus (texts rest) [] at c.place_of-at.ensures.place lt
    ∙ ap (λ (t : List (List ℕ)). t ∷ slice_split is_plus (drop (at + 1) (texts rest)))
    (take-map (λ (text : Bor (List ℕ)). text.now) at rest)
    ∙ ap (λ (t : List (List ℕ)). texts (take at rest) ∷ slice_split is_plus t)
    (drop-map (λ (text : Bor (List ℕ)). text.now) (at + 1) rest) in
    let good = sym c.in-Some.ensures in
    let step =
    terms-more (terms_view c.loop-term.terms.items) _ (texts (take at rest))
    (slice_split is_plus (texts (drop (at + 1) rest))) _ _ good cut c.loop-term.invariant in
    let found : Term = c.in-Some.term in
    let pushed : terms_view c.push.new.self.items ≡ terms_view c.loop-term.terms.items
    ++ term_view found ∷ [] = ap terms_view c.in_ok-push-in-Some.ensures.items
    ∙ map-append term_view c.loop-term.terms.items (found ∷ []) in
    ap (λ (done : List Pair). option_map (λ more. done ++ more)
    (terms_read
    (slice_split is_plus (texts (take (length rest - (at + 1)) (drop (at + 1) rest)))))) pushed
    ∙ ap
    (λ (left : List (Bor (List ℕ))). option_map
    (λ more. (terms_view c.loop-term.terms.items ++ term_view found ∷ []) ++ more)
    (terms_read (slice_split is_plus (texts left)))) (rest_all rest at)
    ∙ step

pub loop-term-init : goal.loop-term-init
loop-term-init c =
    let some : 0 < length (texts c.args.tokens.now) = let e =
    eqb-false (length c.args.tokens.now) 0 (sym c.is_empty.ensures ∙ c.if-is_empty.false) in
    omega (arith, texts-long c.args.tokens.now) in
    ap (λ (items : List Term). option_map (λ more. terms_view items ++ more)
    (terms_read (slice_split is_plus (texts c.args.tokens.now)))) c.new-terms.ensures.items
    ∙ same_found (terms_read (slice_split is_plus (texts c.args.tokens.now)))
    ∙ ap terms_read (terms_some (texts c.args.tokens.now) some)
