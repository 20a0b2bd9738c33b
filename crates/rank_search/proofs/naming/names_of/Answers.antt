use Rattle.std.specs.List.{slice_get}
use Rattle.std.proofs.Common.{◌≡◌, ◌+◌, ℕ, length, replicate, Some, None, refl, sym, ap, ◌∙◌, subst}
use Rattle.std.proofs.Common.{arith, inl, inr}
use Rattle.std.proofs.lemmas.Bool.{cases_eq}
use Rattle.std.proofs.lemmas.List.{length-set}
use Rattle.std.proofs.lemmas.Option.{slice_get_within}
use Rattle.rank_check.specs.tree_rules.Claim.{IsSized}
use Rattle.rank_search.specs.Found.{FoundAt}
use Rattle.rank_search.specs.Naming.{Names, names_with, names_of}
use Rattle.rank_search.proofs.NameLemmas.{no-length, names_next, within_next, each_sized}
use Rattle.rank_search.proofs.NameLemmas.{item_there, same_item, no_number}
use Rattle.rank_search.proofs.naming.names_of.Goals as goal

pub naming-init : goal.naming-init
naming-init c =
    let e : c.in_ok-names.names.items ≡ replicate c.args.nodes None =
    c.in_ok-names.ensures.items_if_clones_equal (no_number _ (λ k r. r)) in
    record {
      named = ap (λ (ns : Names). names_with ns 1 c.args.found.now) e;
      as_many = ap (λ (ns : Names). length ns) e ∙ no-length c.args.nodes;
      counted = refl;
      within = c.requires.within;
      sized = λ k f lt h. absurd (omega (arith, lt));
    }

pub naming-preserved : goal.naming-preserved
naming-preserved c =
    let i = c.naming.one-index in
    let there : slice_get c.args.found.now c.naming.one-index ≡ Some c.one-item.result =
    item_there c.args.found.now c.naming.one-index c.one-item.result
    (let t = c.naming-test.true in omega (arith, t)) c.one-item.is in
    record {
      named =
          names_next c.naming.names.items (names_of c.args.nodes c.args.found.now)
          (c.naming.number + 1) i c.args.found.now c.one-item.result
          (record { network = c.one.inside.network; leaf = c.one.inside.leaf }) there
          (sym c.one.view_is) c.naming.invariant.named;
      as_many = length-set c.naming.names.items c.one.inside.leaf (Some (c.naming.number + 1))
          ∙ c.naming.invariant.as_many;
      counted = let n = c.naming.invariant.counted in omega (arith, n);
      within =
          within_next c.args.nodes i c.args.found.now c.one-item.result there
          c.naming.invariant.within;
      sized = λ k f lt h. elim (cases_eq k i) [
        | inl e ↦
            let q : f ≡ c.one-item.result =
            same_item f c.one-item.result
            (sym h ∙ (ap (λ (j : ℕ). slice_get c.args.found.now j) e ∙ there)) in
            subst (λ (o : FoundAt). IsSized o.network) (sym (q ∙ sym c.one.view_is))
            c.is_sized.ensures.sized
        | inr ne ↦ c.naming.invariant.sized k f (omega (arith, lt, ne)) h
      ];
    }

pub returns-clause-sized : goal.returns-clause-sized
returns-clause-sized c =
    each_sized c.args.found.now
    (λ k f h. c.naming.invariant.sized k f
    (let w = slice_get_within c.args.found.now k f h in let t =
    c.naming-test.false in omega (arith, w, t)) h)
