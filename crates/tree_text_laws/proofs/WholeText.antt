-- The whole text, both ways.
use Rattle.std.proofs.Common.{◌≡◌, Bool, true, false, ℕ, List, [], ◌∷◌, ◌++◌, map, Result, Ok, Err}
use Rattle.std.proofs.Common.{refl, sym, ◌∙◌, ap, ap₂, subst, if◌then◌else◌}
use Rattle.std.specs.Str.{bytes_eq}
use Rattle.std.proofs.lemmas.List.{map-append}
use Rattle.std.proofs.lemmas.Slice.Eq.{bytes_eq-Decides}
use Rattle.tree_text_rules.specs.problem_rules.Each.{Each}
use Rattle.tree_text_rules.specs.problem_rules.Problem.{Problem}
use Rattle.tree_text_rules.specs.problem_rules.WellFormed.{IsWellFormed}
use Rattle.tree_text_rules.specs.tree_rules.Claim as claims
use Rattle.tree_text_rules.specs.tree_rules.Accepted.{Tree}
use Rattle.text_laws.proofs.Cited.{each-append, each-to}
use Rattle.tree_text_rules.specs.tree_rules.Tail as tails
use Rattle.tree_text_rules.specs.Line.{Token, Line, file_type, lines_of}
use Rattle.tree_text_rules.specs.LineRead.{file_type_read}
use Rattle.tree_text_rules.specs.Read.{Fault, Taken, Certificate, then_read, with_tail, claim_taken}
use Rattle.tree_text_rules.specs.Read.{tree_taken, tail_taken, rest_taken, lines_taken, read_text}
use Rattle.tree_text_rules.specs.Spelling.{claim_lines, tree_lines, tail_lines, rest_lines}
use Rattle.tree_text_rules.specs.Spelling.{tree_text_lines, tree_text}
use Rattle.tree_text_rules.specs.declared.TreeKind.{TreeKind}
use Rattle.tree_text_rules.specs.declared.TreeKind.TheVariants.{FileType}
use Rattle.tree_text_laws.specs.Fits.{Fits}
use Rattle.tree_text_laws.proofs.Claims.{claim_back, claim_again, claim_tokens, behind_claim}
use Rattle.tree_text_laws.proofs.Nodes.{tree_back, tree_again, tree_tokens, behind_tree}
use Rattle.tree_text_laws.proofs.PartTexts.{good_is, on_line_ok, then_ok}
use Rattle.tree_text_laws.proofs.Pieces.{text_back, text_again, HasNoFeed}
use Rattle.tree_text_laws.specs.Codes.{line_of, IsToken}
use Rattle.tree_text_laws.proofs.Said.{no_feed}
use Rattle.tree_text_laws.proofs.Tails.{tail_back, tail_again, tail_no_set, tail_tokens}

-- ---- the first line

abbrev type_done : Unit {0} → Result (Unit {0}) TreeKind
type_done u = Ok u

pub type_ok : (line : Line) (u : Unit {0}) → file_type_read line ≡ Ok u
    → line ≡ line_of (file_type ∷ [])
type_ok line u e = at line.ended (bytes_eq line.text file_type) refl refl e where
  at : (a b : Bool) → line.ended ≡ a → bytes_eq line.text file_type ≡ b
      → (if a then (if b then Ok tt else Err FileType) else Err FileType) ≡ type_done u
      → line ≡ line_of (file_type ∷ [])
  at true true e f g =
      ap₂ (λ (t : List ℕ) (b : Bool). let l : Line = record { text = t; ended = b } in l)
      ((bytes_eq-Decides line.text file_type).0 f) e
  at true false e f g = absurd cc
  at false b e f g = absurd cc

with_tail_ok : (claim : claims.Claim) (tree : Tree) (r : Result tails.Tail Fault) (c : Certificate)
    → with_tail claim tree r ≡ Ok c → (tail : tails.Tail) × (r ≡ Ok tail)
    × (record { claim = claim; tree = tree; tail = tail } ≡ c)
with_tail_ok claim tree (Ok tail) c e =
    (tail, refl, good_is (record { claim = claim; tree = tree; tail = tail }) c e)
with_tail_ok claim tree (Err fault) c e = absurd cc

module _ (p : Problem) (formed : IsWellFormed p) where
  abbrev all_lines : Certificate → List (List Token)
  all_lines c = rest_lines p c.claim c.tree c.tail

  -- the lines of the three parts one after another
  parts_joined : (claim : claims.Claim) (tree : Tree) (tail : tails.Tail)
      → map line_of (rest_lines p claim tree tail) ≡ map line_of (claim_lines p claim)
      ++ (map line_of (tree_lines p tree) ++ map line_of (tail_lines p tail))
  parts_joined claim tree tail =
      map-append line_of (claim_lines p claim) (tree_lines p tree ++ tail_lines p tail)
      ∙ ap (λ (ls : List Line). map line_of (claim_lines p claim) ++ ls)
      (map-append line_of (tree_lines p tree) (tail_lines p tail))

  -- what is read after a claim, and after a tree
  abbrev tail_then : claims.Claim → Tree → ℕ → List Line → Result Certificate Fault
  tail_then claim tree number lines = with_tail claim tree (tail_taken p number lines)

  abbrev tree_then : claims.Claim → ℕ → List Line → Result Certificate Fault
  tree_then claim number lines = then_read (tree_taken p number lines) (tail_then claim)

  took_parts : (claim : claims.Claim) (tree : Tree) (tail : tails.Tail)
      (lines behind rest : List Line) → lines ≡ map line_of (claim_lines p claim) ++ behind
      → behind ≡ map line_of (tree_lines p tree) ++ rest → rest ≡ map line_of (tail_lines p tail)
      → lines ≡ map line_of (rest_lines p claim tree tail)
  took_parts claim tree tail lines behind rest one two three =
      one ∙ ap (λ (ls : List Line). map line_of (claim_lines p claim) ++ ls)
      (two ∙ ap (λ (ls : List Line). map line_of (tree_lines p tree) ++ ls) three)
      ∙ sym (parts_joined claim tree tail)

  pub rest_back : (number : ℕ) (lines : List Line) (c : Certificate)
      → rest_taken p number lines ≡ Ok c
      → (lines ≡ map line_of (rest_lines p c.claim c.tree c.tail)) × Fits p c
  rest_back number lines c e =
      let a = then_ok (claim_taken p number lines) tree_then c e in
      let b = then_ok (tree_taken p a.0.number a.0.behind) (tail_then a.0.what) c a.2 in
      let d = with_tail_ok a.0.what b.0.what (tail_taken p b.0.number b.0.behind) c b.2 in
      let claim = claim_back p formed number lines a.0 a.1 in
      let tree = tree_back p formed a.0.number a.0.behind b.0 b.1 in
      let tail = tail_back p formed b.0.number b.0.behind d.0 d.1 in
      let is =
      took_parts a.0.what b.0.what d.0 lines a.0.behind b.0.behind claim.lines_are
      tree.lines_are tail.0 in
      subst (λ (x : Certificate). (lines ≡ map line_of (rest_lines p x.claim x.tree x.tail))
      × Fits p x) d.2 (
        is,
        record {
          claim = record { known = claim.known; kept = claim.kept };
          tree =
              tree.fits;
          tail = tail.1;
        },
      )

  pub rest_again : (number : ℕ) (c : Certificate) → Fits p c
      → rest_taken p number (map line_of (rest_lines p c.claim c.tree c.tail)) ≡ Ok c
  rest_again number c fits =
      let tail : List Line = map line_of (tail_lines p c.tail) in
      let tree : List Line = map line_of (tree_lines p c.tree) ++ tail in
      let here : ℕ = behind_claim p formed c.claim number in
      ap (rest_taken p number) (parts_joined c.claim c.tree c.tail)
      ∙ ap (λ (r : Result (Taken claims.Claim) Fault). then_read r tree_then)
      (claim_again p formed c.claim number tree fits.claim.known fits.claim.kept)
      ∙ ap (λ (r : Result (Taken Tree) Fault). then_read r (tail_then c.claim))
      (tree_again p formed here c.tree tail fits.tree (tail_no_set p formed c.tail fits.tail))
      ∙ ap (with_tail c.claim c.tree)
      (tail_again p formed c.tail (behind_tree p formed here c.tree) fits.tail)

  pub lines_back : (lines : List Line) (c : Certificate) → lines_taken p lines ≡ Ok c
      → (lines ≡ map line_of (tree_text_lines p c.claim c.tree c.tail)) × Fits p c
  lines_back [] c e = absurd cc
  lines_back (line ∷ lines) c e =
      let o = on_line_ok 1 (file_type_read line) (λ read. rest_taken p 2 lines) c e in
      let b = rest_back 2 lines c o.2 in
      (ap₂ (λ (l : Line) (ls : List Line). l ∷ ls) (type_ok line o.0 o.1) b.0, b.1)

  lines_again : (c : Certificate) → Fits p c
      → lines_taken p (map line_of (tree_text_lines p c.claim c.tree c.tail)) ≡ Ok c
  lines_again c fits = rest_again 2 c fits

  rest_tokens : (c : Certificate) → Fits p c
      → Each (Each IsToken) (rest_lines p c.claim c.tree c.tail)
  rest_tokens c fits =
      each-append (Each IsToken) (claim_lines p c.claim)
      (tree_lines p c.tree ++ tail_lines p c.tail)
      (claim_tokens p formed c.claim fits.claim.known fits.claim.kept)
      (each-append (Each IsToken) (tree_lines p c.tree) (tail_lines p c.tail)
      (tree_tokens p formed c.tree fits.tree) (tail_tokens p formed c.tail fits.tail))

  pub text_read : (c : Certificate) → Fits p c
      → read_text p (tree_text p c.claim c.tree c.tail) ≡ Ok c
  text_read c fits =
      let rest : Each HasNoFeed (rest_lines p c.claim c.tree c.tail) =
      each-to (Each IsToken) HasNoFeed no_feed (rest_lines p c.claim c.tree c.tail)
      (rest_tokens c fits) in
      ap (lines_taken p) (text_again (tree_text_lines p c.claim c.tree c.tail) (refl, rest))
      ∙ lines_again c fits

  pub text_spelled : (bytes : List ℕ) (c : Certificate) → read_text p bytes ≡ Ok c
      → (bytes ≡ tree_text p c.claim c.tree c.tail) × Fits p c
  text_spelled bytes c e =
      let b = lines_back (lines_of bytes) c e in
      (text_back bytes (tree_text_lines p c.claim c.tree c.tail) b.0, b.1)
