-- Networks whose tree is accepted are the best.
use Rattle.std.proofs.Common.{◌≡◌, ℕ, Bool, false, List, [], inl, inr, subst}
use Rattle.rank_text.specs.problem_rules.Problem.{Problem}
use Rattle.rank_text.specs.problem_rules.Validity.{IsValid}
use Rattle.rank_text.specs.rank_rules.Ranked.{IsRanked}
use Rattle.rank_text.specs.rank_rules.Networks.{ArePassing}
use Rattle.rank_text.specs.rank_laws.Laws.{ListedAreLeast, OthersCostEnough, OthersHaveNone}
use Rattle.rank_text.specs.rank_laws.Laws.{AlternativesAreRight}
use Rattle.rank_text.specs.rank_rules.Text.{Text, ranking_of}
use Rattle.rank_text.specs.Laws.{ReadRanksAreSpelled}
use Rattle.searches.specs.studio_rules.Reading.{TwoFilesSay}
use Rattle.rank_text.specs.text_rules.State.{ShelfState, OutputsState}
use Rattle.searches.specs.studio_rules.Ending.{Ends}
use Rattle.searches.specs.studio_rules.declared.status.Status.{Status}
use Rattle.searches.specs.studio_rules.declared.status.Status.TheVariants.{Done}
use Rattle.searches.specs.studio_rules.Rankcheck.{OnRank, AreBest, FilesListBest, AcceptedAreBest}

module _ (listed : ListedAreLeast) (full : OthersCostEnough) (fewer : OthersHaveNone) where
  pub are_best : (p : Problem) → IsValid p → (t : Text) → IsRanked p (ranking_of t)
      → t.distinct ≡ false → AreBest p t.count t.networks
  are_best p valid t ranked plain =
      record {
        pass = subst (λ (d : Bool). ArePassing d p [] t.networks) plain ranked.listed;
        least = λ k w e. listed p valid (ranking_of t) ranked k w e;
        full =
            λ count s structure allowed other. full p valid (ranking_of t) ranked plain count s
            structure allowed other;
        fewer =
            λ count s structure allowed other z d flows. fewer p valid (ranking_of t) ranked plain
            count s structure allowed other z d flows;
      }

  module _ (right : AlternativesAreRight) (spelled : ReadRanksAreSpelled) where
    pub accepted_are_best : AcceptedAreBest
    accepted_are_best held file rank lines (bytes, there, inl fault) = absurd fault
    accepted_are_best held file rank lines (bytes, there, inr (p, given, (text, told, inl fault))) =
        absurd fault
    accepted_are_best held file rank lines
        (bytes, there, inr (p, given, (text, told, inr (t, gives, work)))) =
        let valid : IsValid p = given.valid in
        record {
          problem_text = bytes;
          problem_held = there;
          problem = p;
          gives_problem = given;
          valid = valid;
          rank_text = text;
          rank_held = told;
          text = t;
          gives_ranking = gives;
          best = are_best p valid t work.0;
          right =
              λ distinct. right p valid (ranking_of t) work.0 distinct
              (spelled p valid text t gives.1).fits.within;
        }

-- what is printed with status 0 is such an answer
pub done_ends : AcceptedAreBest
    → (old new : ShelfState) (file rank : List ℕ) (before after : OutputsState) (s : Status)
    → Ends (TwoFilesSay OnRank file rank old new) before after s → s ≡ Done
    → FilesListBest old.held file rank
done_ends law old new file rank before after s e done =
    let said =
    subst (λ (t : Status). Ends (TwoFilesSay OnRank file rank old new) before after t) done e in
    law old.held file rank said.1.0 said.1.1
