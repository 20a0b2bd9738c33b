-- What is taken of a text, with the number of the line after it.
use Rattle.std.proofs.Common.{◌≡◌, ◌+◌, ℕ, suc, List, [], ◌∷◌, ◌++◌, length, map, None, Result, Ok}
use Rattle.std.proofs.Common.{sym, ◌∙◌, ap, arith, length-append}
use Rattle.std.proofs.lemmas.List.{length-map}
use Rattle.tree_text_rules.specs.problem_rules.Problem.{Problem}
use Rattle.tree_text_rules.specs.problem_rules.WellFormed.{IsWellFormed}
use Rattle.tree_text_rules.specs.pns_rules.Nodes as nodes
use Rattle.tree_text_rules.specs.flow_rules.Cover.{Cover}
use Rattle.tree_text_rules.specs.tree_rules.Claim as claims
use Rattle.tree_text_rules.specs.tree_rules.Accepted.{Tree}
use Rattle.tree_text_rules.specs.Line.{Token, Line}
use Rattle.tree_text_rules.specs.Read.{Fault, Taken, network_taken, claim_taken, end_taken}
use Rattle.tree_text_rules.specs.Read.{front_taken, tree_taken, tail_taken, rest_taken}
use Rattle.tree_text_rules.specs.Read.{headed_rest_taken}
use Rattle.tree_text_rules.specs.Spelling.{step_line, cover_line, covers_in, end_with_sets}
use Rattle.tree_text_rules.specs.Spelling.{node_lines, network_lines, claim_lines, tree_lines}
use Rattle.tree_text_rules.specs.Spelling.{front_lines, tail_lines, rest_lines}
use Rattle.tree_text_rules.specs.Spelling.{headed_rest_lines}
use Rattle.tree_text_rules.specs.tree_rules.HeadKnown.{KnowsHead}
use Rattle.tree_text_laws.specs.LineFits.{FitsEnd}
use Rattle.tree_text_laws.specs.Fits.{FitsNetwork, FitsClaim, FitsTree, FitsTail, Fits}
use Rattle.tree_text_laws.specs.Fits.{FitsHeaded}
use Rattle.tree_text_laws.specs.Lines.{lines_said, TakesJust, TakesBefore, ReadsJust, BeginsNoSet}
use Rattle.tree_text_laws.specs.Lines.{BeginsNoFront}
use Rattle.tree_text_laws.proofs.Claims.{network_back, network_again, claim_back, claim_again}
use Rattle.tree_text_laws.proofs.Claims.{behind_claim}
use Rattle.tree_text_laws.proofs.Ends.{end_back, end_again}
use Rattle.tree_text_laws.proofs.Fronts.{front_took, front_takes}
use Rattle.tree_text_laws.proofs.HeadedText.{headed_back, headed_again}
use Rattle.tree_text_laws.proofs.Nodes.{counted_so, tree_back, tree_again, behind_tree}
use Rattle.tree_text_laws.proofs.Nodes.{behind_nodes, behind_steps, behind_sets}
use Rattle.tree_text_laws.proofs.PartTexts.{good, good_is}
use Rattle.tree_text_laws.proofs.Tails.{tail_back, tail_again}
use Rattle.tree_text_laws.proofs.WholeText.{rest_back, rest_again}

-- A reading that takes the lines of each value that fits, and those of no other, goes on at the
-- number after them.
module _ {A : Type 0} (read : ℕ → List Line → Result (Taken A) Fault)
    (spell : A → List (List Token)) (Fit : A → Type 0)
    (takes : (a : A) (number : ℕ) (behind : List Line) → Fit a
    → read number (lines_said (spell a) ++ behind)
    ≡ Ok (record { what = a; number = number + length (spell a); behind = behind }))
    (back : (number : ℕ) (lines : List Line) (taken : Taken A) → read number lines ≡ Ok taken
    → (lines ≡ lines_said (spell taken.what) ++ taken.behind) × Fit taken.what) where
  number_at : (number : ℕ) (lines : List Line) (taken : Taken A) → read number lines ≡ Ok taken
      → taken.number ≡ number + length (spell taken.what)
  number_at number lines taken e =
      let b = back number lines taken e in
      let same : Taken A =
      record {
        what = taken.what;
        number = number + length (spell taken.what);
        behind =
            taken.behind;
      } in
      let is : taken ≡ same =
      good_is taken same (sym e ∙ ap (read number) b.0
      ∙ takes taken.what number taken.behind b.1) in
      ap (λ (t : Taken A). t.number) is

  pub takes_just : TakesJust read spell Fit
  takes_just = record {
    takes = takes;
    lines_are = λ number lines taken e. (back number lines taken e).0;
    number_is = number_at;
    fits = λ number lines taken e. (back number lines taken e).1;
  }

-- another number of the line that follows
numbered : {A : Type 0} (a : A) (behind : List Line) (n m : ℕ) → n ≡ m
    → good (let t : Taken A = record { what = a; number = n; behind = behind } in t)
    ≡ good (let t : Taken A = record { what = a; number = m; behind = behind } in t)
numbered a behind n m e =
    ap (λ (k : ℕ). good (let t : Taken _ = record { what = a; number = k; behind = behind } in t)) e

module _ (p : Problem) (formed : IsWellFormed p) where
  pub networks_taken : TakesJust (network_taken p) (network_lines p) (FitsNetwork p)
  networks_taken = takes_just (network_taken p) (network_lines p) (FitsNetwork p)
      (λ w number behind fits. network_again p formed w number behind fits.known fits.kept
      ∙ numbered w behind (suc (suc (suc number))) (number + length (network_lines p w))
      (let e : suc (suc (suc number)) ≡ number + 3 = omega arith in e))
      (λ number lines taken e. let b =
      network_back p formed number lines taken e in
      (b.lines_are, record { known = b.known; kept = b.kept }))

  claim_count : (c : claims.Claim) (number : ℕ)
      → behind_claim p formed c number ≡ number + length (claim_lines p c)
  claim_count (claims.network w) number = let e : suc (suc (suc number)) ≡ number + 3 =
      omega arith in e
  claim_count claims.infeasible number = let e : suc number ≡ number + 1 = omega arith in e
  claim_count claims.unknown number = let e : suc number ≡ number + 1 = omega arith in e

  pub claims_taken : TakesJust (claim_taken p) (claim_lines p) (FitsClaim p)
  claims_taken = takes_just (claim_taken p) (claim_lines p) (FitsClaim p)
      (λ c number behind fits. claim_again p formed c number behind fits.known fits.kept
      ∙ numbered c behind (behind_claim p formed c number) (number + length (claim_lines p c))
      (claim_count c number))
      (λ number lines taken e. let b =
      claim_back p formed number lines taken e in
      (b.lines_are, record { known = b.known; kept = b.kept }))

  pub ends_taken : TakesBefore (BeginsNoSet p) (end_taken p) (end_with_sets p) (FitsEnd p)
  ends_taken = record {
    takes = λ end number behind fits stops. end_again p formed end number behind fits stops;
    lines_are = λ number lines taken e. (end_back p formed number lines taken e).lines_are;
    number_is = λ number lines taken e. let b =
        end_back p formed number lines taken e in
        counted_so number (end_with_sets p taken.what) lines taken.number taken.behind b.counted
        b.lines_are;
    fits = λ number lines taken e. (end_back p formed number lines taken e).fits;
  }

  steps_count : (ss : List nodes.Step) (number : ℕ)
      → behind_steps p formed number ss ≡ number + length ss
  steps_count [] number = let e : number ≡ number + 0 = omega arith in e
  steps_count (s ∷ ss) number = steps_count ss (suc number)
      ∙ (let e : suc number + length ss ≡ number + suc (length ss) = omega arith in e)

  sets_count : (cs : List Cover) (number : ℕ) → behind_sets p formed number cs ≡ number + length cs
  sets_count [] number = let e : number ≡ number + 0 = omega arith in e
  sets_count (c ∷ cs) number = sets_count cs (suc number)
      ∙ (let e : suc number + length cs ≡ number + suc (length cs) = omega arith in e)

  nodes_count : (ts : Tree) (number : ℕ)
      → behind_nodes p formed number ts ≡ number + length (tree_lines p ts)
  nodes_count [] number = let e : number ≡ number + 0 = omega arith in e
  nodes_count (t ∷ ts) number =
      let here : ℕ = behind_steps p formed (suc number) t.steps in
      let steps : here ≡ suc number + length t.steps = steps_count t.steps (suc number) in
      let next : ℕ = behind_sets p formed (suc here) (covers_in t.end) in
      let sets : next ≡ suc here + length (covers_in t.end) =
      sets_count (covers_in t.end) (suc here) in
      let all : List (List Token) = map (step_line p) t.steps in
      let size : length all ≡ length t.steps = length-map t.steps (step_line p) in
      let covers : length (map (cover_line p) (covers_in t.end)) ≡ length (covers_in t.end) =
      length-map (covers_in t.end) (cover_line p) in
      let node : length (all ++ end_with_sets p t.end) ≡ length all
      + suc (length (map (cover_line p) (covers_in t.end))) =
      length-append all (end_with_sets p t.end) in
      let whole : length (node_lines p t ++ tree_lines p ts) ≡ length (node_lines p t)
      + length (tree_lines p ts) = length-append (node_lines p t) (tree_lines p ts) in
      nodes_count ts next ∙ omega (arith, steps, sets, size, covers, node, whole)

  pub trees_taken : TakesBefore (BeginsNoSet p) (tree_taken p) (tree_lines p) (FitsTree p)
  trees_taken = record {
    takes = λ ts number behind fits stops. tree_again p formed number ts behind fits stops
        ∙ numbered ts behind (behind_tree p formed number ts) (number + length (tree_lines p ts))
        (nodes_count ts number);
    lines_are = λ number lines taken e. (tree_back p formed number lines taken e).lines_are;
    number_is = λ number lines taken e. (tree_back p formed number lines taken e).number_is;
    fits = λ number lines taken e. (tree_back p formed number lines taken e).fits;
  }

  pub heads_taken : TakesBefore (BeginsNoFront p) (front_taken p None) (front_lines p) (KnowsHead p)
  heads_taken = record {
    takes = λ head number behind fits stops. front_takes p formed head number behind fits stops;
    lines_are = λ number lines taken e. (front_took p formed number lines taken e).lines_are;
    number_is = λ number lines taken e. (front_took p formed number lines taken e).number_is;
    fits = λ number lines taken e. (front_took p formed number lines taken e).known;
  }

  pub tails_read : ReadsJust (tail_taken p) (tail_lines p) (FitsTail p)
  tails_read = record {
    reads = λ tail number fits. tail_again p formed tail number fits;
    lines_are = λ number lines tail e. (tail_back p formed number lines tail e).0;
    fits = λ number lines tail e. (tail_back p formed number lines tail e).1;
  }

  pub rests_read : ReadsJust (rest_taken p) (λ c. rest_lines p c.claim c.tree c.tail) (Fits p)
  rests_read = record {
    reads = λ c number fits. rest_again p formed number c fits;
    lines_are = λ number lines c e. (rest_back p formed number lines c e).0;
    fits = λ number lines c e. (rest_back p formed number lines c e).1;
  }

  pub headed_rests_read : ReadsJust (headed_rest_taken p)
      (λ c. headed_rest_lines p c.claim c.head c.tree c.tail) (FitsHeaded p)
  headed_rests_read = record {
    reads = λ c number fits. headed_again p formed number c fits;
    lines_are = λ number lines c e. (headed_back p formed number lines c e).0;
    fits = λ number lines c e. (headed_back p formed number lines c e).1;
  }
