-- What is printed of a tree or of a ranking, in each form.
use Rattle.std.proofs.Common.{◌≡◌, ◌∷◌, [], true, false, refl, inl, sym, subst, Bool, ℕ, List}
use Rattle.std.proofs.Common.{length, arith}
use Rattle.std.specs.Borrow.{Bor}
use Rattle.rank_text.specs.problem_rules.Problem.{Problem}
use Rattle.rank_text.specs.tree_rules.Claim.{Network}
use Rattle.rank_text.specs.tree_text_rules.Read.{HeadedCertificate}
use Rattle.rank_text.specs.rank_rules.Headed.{is_ranking}
use Rattle.rank_text.specs.rank_rules.Networks.{ArePassing}
use Rattle.rank_text.specs.rank_rules.Ranked.{NetworkIsFault}
use Rattle.rank_text.specs.rank_rules.Text.{Text, ranking_of}
use Rattle.rank_text.specs.rank_rules.declared.why.RankWhy.{RankWhy}
use Rattle.json_text.specs.report_tables.First.{IsFirstFeasible}
use Rattle.json_text.specs.report_rules.Measures.{Measures}
use Rattle.json_text.specs.report_rules.RankVerdict.{IsRankVerdict}
use Rattle.json_text.specs.report_rules.declared.rank_verdict.RankVerdict.{RankVerdict}
use Rattle.json_text.specs.report_rules.RangeTable.{is_table}
use Rattle.report_commands.specs.Works.{TreeWork, RankWork, VerdictWork, RankLines, FormSays}
use Rattle.report_commands.specs.declared.form.Form.{Form}
use Rattle.report_commands.specs.declared.form.Form.TheVariants.{Report, Json, Graph}
use Rattle.report_commands.specs.declared.form.Reader.{Reader}
use Rattle.report_commands.specs.declared.form.Reader.TheVariants.{People, Programs}
use Rattle.network_commands.specs.studio_rules.Network.{OnNetwork}
use Rattle.network_commands.specs.studio_rules.Graph.{AreSceneLines, NetworkGraphWork}
use Rattle.network_commands.specs.studio_rules.RankGraph.{DrawsFirst}
use Rattle.network_commands.specs.studio_rules.Json.{JsonWork}
use Rattle.network_commands.specs.studio_rules.RankJson.{RankJsonWork}
use Rattle.network_commands.specs.studio_rules.RangesJson.{TableSays, AnySays}
use Rattle.network_commands.specs.studio_rules.Reading.{IsLong}
use Rattle.network_commands.specs.studio_rules.RankWords.{network_line}
use Rattle.network_commands.specs.studio_rules.Report.{ReportWork}
use Rattle.network_commands.specs.studio_rules.TextFile.{by_kind, RankSays, EitherSays}
use Rattle.network_commands.specs.studio_rules.TreeFile.{tree_limit}
use Rattle.network_commands.specs.studio_rules.HeadedFile.{HeadedSays}
use Rattle.network_commands.specs.studio_rules.declared.scene.Scene.{Scene}
use Rattle.network_commands.specs.studio_rules.declared.status.Status.{Status}
use Rattle.network_commands.specs.studio_rules.declared.status.Status.TheVariants.{Done, BadClaim}
use Rattle.network_commands.specs.studio_rules.declared.status.Status.TheVariants.{TooLong}

-- the first of networks that pass is feasible
pub first_feasible : (distinct : Bool) (p : Problem) (ws : List Network)
    → ArePassing distinct p [] ws → IsFirstFeasible p ws
first_feasible distinct p [] h = h
first_feasible distinct p (w ∷ ws) h = h.0

-- of a tree, in the form that is wanted
pub as_report : (form : Form) (ms : Bor Measures) → form ≡ Report ms → (p : Problem)
    (t : HeadedCertificate) (s : Status) (lines : List (List ℕ))
    → ReportWork ms.now p t s lines → TreeWork form p t s lines
as_report form ms e p t s lines h = subst (λ (f : Form). TreeWork f p t s lines) (sym e) h

pub as_json : (form : Form) → form ≡ Json → (p : Problem) (t : HeadedCertificate) (s : Status)
    (lines : List (List ℕ)) → JsonWork p t s lines → TreeWork form p t s lines
as_json form e p t s lines h = subst (λ (f : Form). TreeWork f p t s lines) (sym e) h

pub as_graph : (form : Form) (scene : Scene) → form ≡ Graph scene → (p : Problem)
    (t : HeadedCertificate) (s : Status) (lines : List (List ℕ))
    → OnNetwork (NetworkGraphWork scene) p t.claim t.tree s lines → TreeWork form p t s lines
as_graph form scene e p t s lines h = subst (λ (f : Form). TreeWork f p t s lines) (sym e) h

-- of a ranking with its verdict
pub done : (reader : Reader) (p : Problem) (t : Text) (verdict : RankVerdict)
    (lines : List (List ℕ)) → IsRankVerdict p (ranking_of t) verdict
    → RankLines reader p (ranking_of t) verdict lines → VerdictWork reader p t Done lines
done (People ms) p t verdict lines h says = (verdict, h, says)
done Programs p t verdict lines h says = (verdict, h, says)

pub refused : (reader : Reader) (p : Problem) (t : Text) (number : ℕ) (why : RankWhy)
    → NetworkIsFault p (ranking_of t) number why
    → VerdictWork reader p t BadClaim (network_line number why ∷ [])
refused (People ms) p t number why h = (number, why, h, refl)
refused Programs p t number why h = (number, why, h, refl)

pub none_of : (ws : List Network) → length ws ≡ 0 → ws ≡ []
none_of [] e = refl
none_of (w ∷ ws) e = absurd (omega arith)

-- the first of some networks is drawn
pub draws_first : (scene : Scene) (p : Problem) (w : Network) (rest ws : List Network)
    (lines : List (List ℕ)) → ws ≡ w ∷ rest → AreSceneLines scene p w ws lines
    → DrawsFirst scene p ws lines
draws_first scene p w rest ws lines e h =
    subst (λ (vs : List Network). DrawsFirst scene p vs lines) (sym e)
    (subst (λ (vs : List Network). AreSceneLines scene p w vs lines) e h)

module _ (form : Form) (name : List ℕ) (p : Problem) (file : List ℕ) where
  -- of a ranking, and of a tree
  pub of_ranking : is_ranking file ≡ true → (s : Status) (lines : List (List ℕ))
      → RankSays (RankWork form) name p file s lines
      → EitherSays (TreeWork form) (RankWork form) name p file s lines
  of_ranking e s lines h =
      subst (λ (kind : Bool). by_kind kind (RankSays (RankWork form) name p file s lines)
      (HeadedSays (TreeWork form) name p file s lines)) (sym e) h

  pub of_tree : is_ranking file ≡ false → (s : Status) (lines : List (List ℕ))
      → HeadedSays (TreeWork form) name p file s lines
      → EitherSays (TreeWork form) (RankWork form) name p file s lines
  of_tree e s lines h =
      subst (λ (kind : Bool). by_kind kind (RankSays (RankWork form) name p file s lines)
      (HeadedSays (TreeWork form) name p file s lines)) (sym e) h

module _ (name : List ℕ) (p : Problem) (file : List ℕ) where
  -- of a table, and of any other text
  pub of_table : is_table file ≡ true → (s : Status) (lines : List (List ℕ))
      → TableSays name p file s lines → AnySays name p file s lines
  of_table e s lines h =
      subst (λ (kind : Bool). by_kind kind (TableSays name p file s lines)
      (EitherSays JsonWork RankJsonWork name p file s lines)) (sym e) h

  pub of_other : is_table file ≡ false → (s : Status) (lines : List (List ℕ))
      → EitherSays JsonWork RankJsonWork name p file s lines → AnySays name p file s lines
  of_other e s lines h =
      subst (λ (kind : Bool). by_kind kind (TableSays name p file s lines)
      (EitherSays JsonWork RankJsonWork name p file s lines)) (sym e) h

  -- in the form that is wanted
  pub in_report : (form : Form) (ms : Bor Measures) → form ≡ Report ms → (s : Status)
      (lines : List (List ℕ))
      → EitherSays (TreeWork (Report ms)) (RankWork (Report ms)) name p file s lines
      → FormSays form name p file s lines
  in_report form ms e s lines h =
      subst (λ (f : Form). FormSays f name p file s lines) (sym e) h

  pub in_json : (form : Form) → form ≡ Json → (s : Status) (lines : List (List ℕ))
      → AnySays name p file s lines → FormSays form name p file s lines
  in_json form e s lines h = subst (λ (f : Form). FormSays f name p file s lines) (sym e) h

  pub in_graph : (form : Form) (scene : Scene) → form ≡ Graph scene → (s : Status)
      (lines : List (List ℕ))
      → EitherSays (TreeWork (Graph scene)) (RankWork (Graph scene)) name p file s lines
      → FormSays form name p file s lines
  in_graph form scene e s lines h = subst (λ (f : Form). FormSays f name p file s lines) (sym e) h

  -- of a file above the limit
  long_kind : (form : Form) (kind : Bool) (lines : List (List ℕ))
      → IsLong name tree_limit file lines
      → by_kind kind (RankSays (RankWork form) name p file TooLong lines)
      (HeadedSays (TreeWork form) name p file TooLong lines)
  long_kind form true lines h = inl h
  long_kind form false lines h = inl h

  long_any : (kind : Bool) (lines : List (List ℕ)) → IsLong name tree_limit file lines
      → by_kind kind (TableSays name p file TooLong lines)
      (EitherSays JsonWork RankJsonWork name p file TooLong lines)
  long_any true lines h = h
  long_any false lines h = long_kind Json (is_ranking file) lines h

  pub of_long : (form : Form) (lines : List (List ℕ)) → IsLong name tree_limit file lines
      → FormSays form name p file TooLong lines
  of_long (Report ms) lines h = long_kind (Report ms) (is_ranking file) lines h
  of_long Json lines h = long_any (is_table file) lines h
  of_long (Graph scene) lines h = long_kind (Graph scene) (is_ranking file) lines h
