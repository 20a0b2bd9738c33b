-- The lines of a head, judged one after another.
use Rattle.std.proofs.Common.{◌≡◌, ℕ, zero, suc, ◌+◌, ◌≤◌, List, [], ◌∷◌, drop, Option, refl, sym}
use Rattle.std.proofs.Common.{ap}
use Rattle.std.proofs.Common.{◌∙◌, true, false, subst, arith}
use Rattle.tree_text_rules.specs.problem_rules.Problem.{Problem}
use Rattle.tree_text_rules.specs.pns_rules.Shape.{shape_of}
use Rattle.tree_text_rules.specs.tree_rules.Accepted.{first_node}
use Rattle.tree_text_rules.specs.tree_rules.Claim.{CostOver}
use Rattle.cert_check.specs.Known.{KnowsInside}
use Rattle.tree_text_rules.specs.tree_rules.declared.line_why.LineWhy.{LineWhy}
use Rattle.tree_text_rules.specs.tree_rules.Head.{HeadLine, Known, known_first, after_line}
use Rattle.tree_text_rules.specs.tree_rules.Head.{after_lines}
use Rattle.tree_text_rules.specs.tree_rules.Head.{LinePasses, LinesPass}
use Rattle.tree_text_rules.specs.tree_rules.HeadFaults.{LineFails, IsFirstToFail}

-- nothing is taken in before the first line
pub nothing_inside : (p : Problem) (k : Known) → k ≡ known_first p first_node
    → KnowsInside (shape_of p) k.node
nothing_inside p k e =
    subst (λ (x : Known). KnowsInside (shape_of p) x.node) (sym e)
    (λ u h. let no : false ≡ true = h in cc)

-- what is left of the lines, from what is known at its place on, decides of all of them
pub record Decides (p : Problem) (claimed : Option CostOver) (first : Known) (all : List HeadLine)
    (k : Known) (rest : List HeadLine) (i : ℕ) : Type 0 where
  pub passes : LinesPass p claimed k rest → LinesPass p claimed first all
  pub after : after_lines p k rest ≡ after_lines p first all
  pub fails : (j : ℕ) (why : LineWhy) → IsFirstToFail p claimed k rest j why
      → IsFirstToFail p claimed first all (i + j) why

module _ (p : Problem) (claimed : Option CostOver) (first : Known) (all : List HeadLine) where
  pub all_decide : (k : Known) → k ≡ first → Decides p claimed first all k all 0
  all_decide k e =
      subst (λ (x : Known). Decides p claimed first all x all 0) (sym e)
      (record {
        passes = λ h. h;
        after = refl;
        fails = λ j why h. subst (λ (m : ℕ). IsFirstToFail p claimed first all m why) (none j) h;
      })
    where
      none : (j : ℕ) → j ≡ 0 + j
      none j = omega arith

  module _ (k : Known) (i : ℕ) (rest : List HeadLine)
      (so_far : Decides p claimed first all k rest i)
      (line : HeadLine) (left : List HeadLine) (ahead : rest ≡ line ∷ left) where
    pub line_on : (next : Known) → LinePasses p claimed k line → next ≡ after_line p k line
        → Decides p claimed first all next left (suc i)
    line_on next passes e =
        subst (λ (x : Known). Decides p claimed first all x left (suc i)) (sym e)
        (record {
          passes =
              λ h. so_far.passes
              (subst (λ (ls : List HeadLine). LinesPass p claimed k ls) (sym ahead) (passes, h));
          after = ap (after_lines p k) (sym ahead) ∙ so_far.after;
          fails =
              λ j why h. subst (λ (m : ℕ). IsFirstToFail p claimed first all m why) (moved j)
              (so_far.fails (suc j) why
              (subst (λ (ls : List HeadLine). IsFirstToFail p claimed k ls (suc j) why) (sym ahead)
              (passes, h)));
        })
      where
        moved : (j : ℕ) → i + suc j ≡ suc i + j
        moved j = omega arith

    pub line_fails : (why : LineWhy) → LineFails p claimed k line why
        → IsFirstToFail p claimed first all i why
    line_fails why h =
        subst (λ (m : ℕ). IsFirstToFail p claimed first all m why) none
        (so_far.fails zero why
        (subst (λ (ls : List HeadLine). IsFirstToFail p claimed k ls zero why) (sym ahead) h))
      where
        none : i + zero ≡ i
        none = omega arith

  pub none_left : (k : Known) (i : ℕ) (rest : List HeadLine)
      → Decides p claimed first all k rest i → rest ≡ []
      → LinesPass p claimed first all × (k ≡ after_lines p first all)
  none_left k i rest so_far e = (
    so_far.passes (subst (λ (ls : List HeadLine). LinesPass p claimed k ls) (sym e) tt),
    ap (after_lines p k) (sym e) ∙ so_far.after,
  )
