-- The whole text of a tree with a head, both ways.
use Rattle.std.proofs.Common.{◌≡◌, ◌+◌, ℕ, List, [], ◌∷◌, ◌++◌, length, map, None, Result, Ok, Err}
use Rattle.std.proofs.Common.{refl, sym, ◌∙◌, ap, ap₂, subst}
use Rattle.std.proofs.lemmas.List.{map-append}
use Rattle.text_laws.proofs.Cited.{each-append, each-to}
use Rattle.tree_text_rules.specs.problem_rules.Each.{Each}
use Rattle.tree_text_rules.specs.problem_rules.Problem.{Problem}
use Rattle.tree_text_rules.specs.problem_rules.WellFormed.{IsWellFormed}
use Rattle.tree_text_rules.specs.tree_rules.Claim as claims
use Rattle.tree_text_rules.specs.tree_rules.Accepted.{Tree}
use Rattle.tree_text_rules.specs.tree_rules.Tail as tails
use Rattle.tree_text_rules.specs.tree_rules.Head.{HeadLine}
use Rattle.tree_text_rules.specs.Line.{Token, Line, lines_of}
use Rattle.tree_text_rules.specs.LineRead.{file_type_read}
use Rattle.tree_text_rules.specs.Read.{Fault, Taken, then_read, claim_taken, front_taken}
use Rattle.tree_text_rules.specs.Read.{tree_taken, tail_taken, HeadedCertificate, with_parts}
use Rattle.tree_text_rules.specs.Read.{headed_rest_taken, headed_lines_taken, read_headed_text}
use Rattle.tree_text_rules.specs.Spelling.{claim_lines, front_lines, tree_lines, tail_lines}
use Rattle.tree_text_rules.specs.Spelling.{headed_rest_lines, headed_text_lines, headed_text}
use Rattle.tree_text_laws.specs.Fits.{FitsTree, FitsHeaded}
use Rattle.tree_text_laws.specs.Lines.{BeginsNoFront}
use Rattle.tree_text_laws.proofs.Claims.{claim_back, claim_again, claim_tokens, behind_claim}
use Rattle.tree_text_laws.proofs.Fronts.{front_took, front_takes, front_each}
use Rattle.tree_text_laws.proofs.NodeLines.{option_no_front, option_no_set}
use Rattle.tree_text_laws.proofs.Nodes.{tree_back, tree_again, tree_tokens, behind_tree}
use Rattle.tree_text_laws.proofs.PartTexts.{good_is, on_line_ok, then_ok}
use Rattle.tree_text_laws.proofs.Pieces.{text_back, text_again, HasNoFeed}
use Rattle.tree_text_laws.specs.Codes.{line_of, IsToken}
use Rattle.tree_text_laws.proofs.Said.{no_feed}
use Rattle.tree_text_laws.proofs.Tails.{tail_back, tail_again, tail_no_set, tail_tokens}
use Rattle.tree_text_laws.proofs.WholeText.{type_ok}

with_parts_ok : (claim : claims.Claim) (head : List HeadLine) (tree : Tree)
    (r : Result tails.Tail Fault) (c : HeadedCertificate) → with_parts claim head tree r ≡ Ok c
    → (tail : tails.Tail) × (r ≡ Ok tail)
    × (record { claim = claim; head = head; tree = tree; tail = tail } ≡ c)
with_parts_ok claim head tree (Ok tail) c e =
    (tail, refl, good_is (record { claim = claim; head = head; tree = tree; tail = tail }) c e)
with_parts_ok claim head tree (Err fault) c e = absurd cc

module _ (p : Problem) (formed : IsWellFormed p) where
  abbrev all_lines : HeadedCertificate → List (List Token)
  all_lines c = headed_rest_lines p c.claim c.head c.tree c.tail

  -- the lines of the four parts one after another
  parts_joined : (c : HeadedCertificate)
      → map line_of (all_lines c) ≡ map line_of (claim_lines p c.claim)
      ++ (map line_of (front_lines p c.head)
      ++ (map line_of (tree_lines p c.tree) ++ map line_of (tail_lines p c.tail)))
  parts_joined c =
      map-append line_of (claim_lines p c.claim)
      (front_lines p c.head ++ (tree_lines p c.tree ++ tail_lines p c.tail))
      ∙ ap (λ (ls : List Line). map line_of (claim_lines p c.claim) ++ ls)
      (map-append line_of (front_lines p c.head) (tree_lines p c.tree ++ tail_lines p c.tail)
      ∙ ap (λ (ls : List Line). map line_of (front_lines p c.head) ++ ls)
      (map-append line_of (tree_lines p c.tree) (tail_lines p c.tail)))

  -- what is read after a claim, after a head, and after a tree
  abbrev tail_then : claims.Claim → List HeadLine → Tree → ℕ → List Line
      → Result HeadedCertificate Fault
  tail_then claim head tree number lines = with_parts claim head tree (tail_taken p number lines)

  abbrev tree_then : claims.Claim → List HeadLine → ℕ → List Line → Result HeadedCertificate Fault
  tree_then claim head number lines =
      then_read (tree_taken p number lines) (tail_then claim head)

  abbrev head_then : claims.Claim → ℕ → List Line → Result HeadedCertificate Fault
  head_then claim number lines =
      then_read (front_taken p None number lines) (tree_then claim)

  took_parts : (c : HeadedCertificate) (lines behind more rest : List Line)
      → lines ≡ map line_of (claim_lines p c.claim) ++ behind
      → behind ≡ map line_of (front_lines p c.head) ++ more
      → more ≡ map line_of (tree_lines p c.tree) ++ rest
      → rest ≡ map line_of (tail_lines p c.tail) → lines ≡ map line_of (all_lines c)
  took_parts c lines behind more rest one two three four =
      one ∙ ap (λ (ls : List Line). map line_of (claim_lines p c.claim) ++ ls)
      (two ∙ ap (λ (ls : List Line). map line_of (front_lines p c.head) ++ ls)
      (three ∙ ap (λ (ls : List Line). map line_of (tree_lines p c.tree) ++ ls) four))
      ∙ sym (parts_joined c)

  pub headed_back : (number : ℕ) (lines : List Line) (c : HeadedCertificate)
      → headed_rest_taken p number lines ≡ Ok c
      → (lines ≡ map line_of (all_lines c)) × FitsHeaded p c
  headed_back number lines c e =
      let a = then_ok (claim_taken p number lines) head_then c e in
      let h = then_ok (front_taken p None a.0.number a.0.behind) (tree_then a.0.what) c a.2 in
      let b =
      then_ok (tree_taken p h.0.number h.0.behind) (tail_then a.0.what h.0.what) c h.2 in
      let d =
      with_parts_ok a.0.what h.0.what b.0.what (tail_taken p b.0.number b.0.behind) c b.2 in
      let claim = claim_back p formed number lines a.0 a.1 in
      let head = front_took p formed a.0.number a.0.behind h.0 h.1 in
      let tree = tree_back p formed h.0.number h.0.behind b.0 b.1 in
      let tail = tail_back p formed b.0.number b.0.behind d.0 d.1 in
      let found : HeadedCertificate =
      record { claim = a.0.what; head = h.0.what; tree = b.0.what; tail = d.0 } in
      let is =
      took_parts found lines a.0.behind h.0.behind b.0.behind claim.lines_are head.lines_are
      tree.lines_are tail.0 in
      subst (λ (x : HeadedCertificate). (lines ≡ map line_of (all_lines x)) × FitsHeaded p x) d.2 (
        is,
        record {
          claim = record { known = claim.known; kept = claim.kept };
          head = head.known;
          tree = tree.fits;
          tail = tail.1;
        },
      )

  -- a tree begins with no line of a head
  tree_no_front : (tree : Tree) (behind : List Line) → FitsTree p tree
      → BeginsNoFront p (map line_of (tree_lines p tree) ++ behind)
  tree_no_front [] behind fits = absurd fits.whole
  tree_no_front (t ∷ ts) behind fits = (
    option_no_front p formed t.option fits.known.0.option,
    option_no_set p formed t.option fits.known.0.option,
  )

  pub headed_again : (number : ℕ) (c : HeadedCertificate) → FitsHeaded p c
      → headed_rest_taken p number (map line_of (all_lines c)) ≡ Ok c
  headed_again number c fits =
      let tail : List Line = map line_of (tail_lines p c.tail) in
      let tree : List Line = map line_of (tree_lines p c.tree) ++ tail in
      let head : List Line = map line_of (front_lines p c.head) ++ tree in
      let here : ℕ = behind_claim p formed c.claim number in
      let next : ℕ = here + length (front_lines p c.head) in
      ap (headed_rest_taken p number) (parts_joined c)
      ∙ ap (λ (r : Result (Taken claims.Claim) Fault). then_read r head_then)
      (claim_again p formed c.claim number head fits.claim.known fits.claim.kept)
      ∙ ap (λ (r : Result (Taken (List HeadLine)) Fault). then_read r (tree_then c.claim))
      (front_takes p formed c.head here tree fits.head (tree_no_front c.tree tail fits.tree))
      ∙ ap (λ (r : Result (Taken Tree) Fault). then_read r (tail_then c.claim c.head))
      (tree_again p formed next c.tree tail fits.tree (tail_no_set p formed c.tail fits.tail))
      ∙ ap (with_parts c.claim c.head c.tree)
      (tail_again p formed c.tail (behind_tree p formed next c.tree) fits.tail)

  pub lines_back : (lines : List Line) (c : HeadedCertificate) → headed_lines_taken p lines ≡ Ok c
      → (lines ≡ map line_of (headed_text_lines p c.claim c.head c.tree c.tail)) × FitsHeaded p c
  lines_back [] c e = absurd cc
  lines_back (line ∷ lines) c e =
      let o = on_line_ok 1 (file_type_read line) (λ read. headed_rest_taken p 2 lines) c e in
      let b = headed_back 2 lines c o.2 in
      (ap₂ (λ (l : Line) (ls : List Line). l ∷ ls) (type_ok line o.0 o.1) b.0, b.1)

  lines_again : (c : HeadedCertificate) → FitsHeaded p c
      → headed_lines_taken p (map line_of (headed_text_lines p c.claim c.head c.tree c.tail)) ≡ Ok c
  lines_again c fits = headed_again 2 c fits

  rest_tokens : (c : HeadedCertificate) → FitsHeaded p c → Each (Each IsToken) (all_lines c)
  rest_tokens c fits =
      each-append (Each IsToken) (claim_lines p c.claim)
      (front_lines p c.head ++ (tree_lines p c.tree ++ tail_lines p c.tail))
      (claim_tokens p formed c.claim fits.claim.known fits.claim.kept)
      (each-append (Each IsToken) (front_lines p c.head)
      (tree_lines p c.tree ++ tail_lines p c.tail) (front_each p formed c.head fits.head)
      (each-append (Each IsToken) (tree_lines p c.tree) (tail_lines p c.tail)
      (tree_tokens p formed c.tree fits.tree) (tail_tokens p formed c.tail fits.tail)))

  pub headed_read : (c : HeadedCertificate) → FitsHeaded p c
      → read_headed_text p (headed_text p c.claim c.head c.tree c.tail) ≡ Ok c
  headed_read c fits =
      let rest : Each HasNoFeed (all_lines c) =
      each-to (Each IsToken) HasNoFeed no_feed (all_lines c) (rest_tokens c fits) in
      ap (headed_lines_taken p)
      (text_again (headed_text_lines p c.claim c.head c.tree c.tail) (refl, rest))
      ∙ lines_again c fits

  pub headed_spelled : (bytes : List ℕ) (c : HeadedCertificate) → read_headed_text p bytes ≡ Ok c
      → (bytes ≡ headed_text p c.claim c.head c.tree c.tail) × FitsHeaded p c
  headed_spelled bytes c e =
      let b = lines_back (lines_of bytes) c e in
      (text_back bytes (headed_text_lines p c.claim c.head c.tree c.tail) b.0, b.1)
