use Rattle.std.specs.List.{slice_get}
use Rattle.std.proofs.Common.{◌≡◌, ℕ, Some, inl, inr, sym, ap, ◌∙◌, subst, arith, rules}
use Rattle.std.proofs.lemmas.Bool.{cases_eq}
use Rattle.std.proofs.lemmas.Option.{slice_get_within}
use Rattle.rank_search.specs.Found.{FoundAt}
use Rattle.rank_search.specs.Plants.{IsInside}
use Rattle.rank_search.proofs.NameLemmas.{item_there, same_item}
use Rattle.rank_search.proofs.plants.first_inside.Goals as goal

pub looking-preserved : goal.looking-preserved
looking-preserved c =
    let i = c.looking.one-index in
    let there : slice_get c.args.found.now c.looking.one-index ≡ Some c.one-item.result =
    item_there c.args.found.now c.looking.one-index c.one-item.result
    (let t = c.looking-test.true in omega (arith, t)) c.one-item.is in
    record {
      none = λ k f lt h is. elim (cases_eq k i) [
        | inl e ↦
            let q : f ≡ c.one-item.result =
            same_item f c.one-item.result
            (sym h ∙ (ap (λ (j : ℕ). slice_get c.args.found.now j) e ∙ there)) in
            let t =
            c.is_inside.ensures.1
            (subst (λ (o : FoundAt). IsInside o.network c.args.inside c.args.value.now)
            (q ∙ sym c.one.view_is) is) in
            search rules
        | inr ne ↦ c.looking.invariant.none k f (omega (arith, lt, ne)) h is
      ];
      counted = let n = c.looking.invariant.counted in omega (arith, n);
    }

pub returns-then-is_inside-clause-some : goal.returns-then-is_inside-clause-some
returns-then-is_inside-clause-some c =
    let there : slice_get c.args.found.now c.looking.one-index ≡ Some c.one-item.result =
    item_there c.args.found.now c.looking.one-index c.one-item.result
    (let t = c.looking-test.true in omega (arith, t)) c.one-item.is in
    record {
      one = c.one-item.result;
      there = ap (λ (j : ℕ). slice_get c.args.found.now j) c.looking.invariant.counted ∙ there;
      is_inside =
          subst (λ (o : FoundAt). IsInside o.network c.args.inside c.args.value.now) c.one.view_is
          (c.is_inside.ensures.0 c.if-is_inside.true);
    }

pub returns-clause-none : goal.returns-clause-none
returns-clause-none c k f h is =
    c.looking.invariant.none k f
    (let w = slice_get_within c.args.found.now k f h in
    let t = c.looking-test.false in
    omega (arith, w, t)) h is
