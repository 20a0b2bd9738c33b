use Rattle.std.proofs.Common.{◌≡◌, ℕ, List, [], ◌∷◌, sym, ap, ◌∙◌, bytes_eq}
use Rattle.std.proofs.lemmas.Bool.{not-false}
use Rattle.std.specs.Cmp.Lexicographic.{bytes_decides}
use Rattle.tree_text_rules.specs.number_sets.Sets.{with_number}
use Rattle.cert_check.proofs.EitherLemmas.{two_are, second_of}
use Rattle.cert_check.proofs.either.are_in_and_out.Goals as goal

pub returns : goal.returns
returns c =
    let first : c.index-found-0.result ≡ c.args.u ∷ [] =
    (bytes_decides c.index-found-0.result c.with.result).0
    (not-false (bytes_eq c.index-found-0.result c.with.result)
    (sym c.ne.ensures ∙ c.if-ne.false))
    ∙ (c.with.ensures ∙ ap (λ (xs : List ℕ). with_number c.args.u xs) c.empty.ensures) in
    let both =
    two_are c.args.found.now c.index-found-0.result c.index-found-1.result c.if-found-ne2.false
    c.index-found-0.is c.index-found-1.is in (
      (λ h. both
          ∙ (ap (λ (a : List ℕ). a ∷ c.index-found-1.result ∷ []) first
          ∙ ap (λ (b : List ℕ). (c.args.u ∷ []) ∷ b ∷ []) (c.is_empty.ensures.0 h))),
      (λ e. c.is_empty.ensures.1
          (second_of c.index-found-0.result c.index-found-1.result (c.args.u ∷ []) []
          (sym both ∙ e))),
    )
