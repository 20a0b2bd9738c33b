-- What is read of the parts of a text is joined.
use Rattle.std.proofs.Common.{if◌then◌else◌, true, false}
use Rattle.std.proofs.Common.{◌≡◌, ◌<◌, ◌≤◌, ◌-◌, ℕ, suc, Bool, List, [], ◌∷◌, ◌++◌, drop, map}
use Rattle.std.proofs.Common.{Option, Some, None, IfSome, IfNone, Result, Ok, Err, refl, sym, ap}
use Rattle.std.proofs.Common.{ap₂, ◌∙◌}
use Rattle.std.proofs.Common.{arith, append-nil}
use Rattle.tree_text_laws.specs.problem_rules.Problem.{Problem}
use Rattle.tree_text_laws.specs.tree_rules.Accepted.{Tree}
use Rattle.tree_text_laws.specs.tree_rules.Tail.{Tail}
use Rattle.tree_text_laws.specs.tree_rules.Claim as claims
use Rattle.tree_text_laws.specs.tree_rules.Claim.{Network}
use Rattle.tree_text_laws.specs.tree_text_rules.Line.{Line, lines_of, word_named}
use Rattle.tree_text_laws.specs.tree_text_rules.LineRead as reads
use Rattle.tree_text_laws.specs.tree_text_rules.LineRead.{opening_read}
use Rattle.tree_text_laws.specs.tree_text_rules.Read as rules
use Rattle.tree_text_laws.specs.tree_text_rules.Read.{Fault, Taken, Certificate, on_line, then_read}
use Rattle.tree_text_laws.specs.tree_text_rules.Read.{network_taken}
use Rattle.tree_text_laws.specs.tree_text_rules.Read.{claim_behind, tree_taken, tail_taken}
use Rattle.tree_text_laws.specs.tree_text_rules.declared.TreeKind.{TreeKind}
use Rattle.tree_text_laws.specs.tree_text_rules.declared.TreeKind.TheVariants.{BadLine}
use Rattle.tree_reading.specs.text_lines.Tells.{Tells}
use Rattle.tree_reading.specs.text_lines.declared.fault.TextFault.{TextFault}
use Rattle.tree_reading.specs.text_lines.declared.fault.TextFault.TheVariants.{At, Memory}
use Rattle.rank_check.specs.rank_rules.Marked.{Mark}
use Rattle.rank_check.specs.rank_rules.Text.{Text}
use Rattle.rank_check.specs.rank_rules.Opened.{opened, unknown_line, marks_taken, so_far}
use Rattle.rank_check.specs.rank_rules.Read.{Grown, with_network, with_tail, networks_taken}
use Rattle.rank_check.specs.rank_rules.Read.{grown_taken}
use Rattle.rank_check.specs.rank_rules.Read.{earlier, put_together, behind_networks, is_distinct}
use Rattle.rank_check.specs.rank_rules.Read.{listed_taken, asked_taken}

-- ---- networks

-- networks in front of those that are read next
abbrev pub with_networks : List Network → Result (Taken (List Network)) Fault
    → Result (Taken (List Network)) Fault
with_networks [] read = read
with_networks (w ∷ ws) read = with_network w (with_networks ws read)

last_network : (ws : List Network) (w : Network) (read : Result (Taken (List Network)) Fault)
    → with_networks (ws ++ w ∷ []) read ≡ with_networks ws (with_network w read)
last_network [] w read = refl
last_network (v ∷ vs) w read = ap (with_network v) (last_network vs w read)

networks_done : (ws : List Network) (number : ℕ) (lines : List Line)
    → with_networks ws (Ok (record { what = []; number = number; behind = lines }))
    ≡ Ok (record { what = ws; number = number; behind = lines })
networks_done [] number lines = refl
networks_done (w ∷ ws) number lines = ap (with_network w) (networks_done ws number lines)

networks_fail : (ws : List Network) (fault : Fault) → with_networks ws (Err fault) ≡ Err fault
networks_fail [] fault = refl
networks_fail (w ∷ ws) fault = ap (with_network w) (networks_fail ws fault)

module _ (p : Problem) (whole : Result (Taken (List Network)) Fault) (ws : List Network)
    (left number : ℕ) (lines : List Line)
    (leads : with_networks ws (networks_taken p left number lines) ≡ whole) where
  -- the next network is read, and after it the others
  abbrev next_then : Result (Taken Network) Fault → Result (Taken (List Network)) Fault
  next_then r =
      with_networks ws
      (then_read r (λ w number lines. with_network w (networks_taken p (left - 1) number lines)))

  at_network : 0 < left → next_then (network_taken p number lines) ≡ whole
  at_network some =
      ap (λ (n : ℕ). with_networks ws (networks_taken p n number lines))
      (let q : suc (left - 1) ≡ left = omega (arith, some) in q) ∙ leads

  pub network_on : 0 < left → (t : Taken Network) → network_taken p number lines ≡ Ok t
      → with_networks (ws ++ t.what ∷ []) (networks_taken p (left - 1) t.number t.behind) ≡ whole
  network_on some t e = last_network ws t.what (networks_taken p (left - 1) t.number t.behind)
      ∙ ap next_then (sym e) ∙ at_network some

  pub network_bad : 0 < left → (fault : TextFault TreeKind)
      → Tells (network_taken p number lines) fault → Tells whole fault
  network_bad some Memory h = tt
  network_bad some (At line kind) h = sym (at_network some) ∙ ap next_then h
      ∙ networks_fail ws (line, kind)

  pub networks_whole : left ≡ 0 → whole ≡ Ok (record { what = ws; number = number; behind = lines })
  networks_whole e = sym leads
      ∙ ap (λ (n : ℕ). with_networks ws (networks_taken p n number lines)) e
      ∙ networks_done ws number lines

-- ---- after the networks

-- the tree and the tail of what is read of a text that claims nothing
abbrev grown_of : Result Certificate Fault → Result Grown Fault
grown_of (Ok c) = Ok (record { tree = c.tree; tail = c.tail })
grown_of (Err fault) = Err fault

tail_grown : (tree : Tree) (r : Result Tail Fault)
    → grown_of (rules.with_tail claims.unknown tree r) ≡ with_tail tree r
tail_grown tree (Ok tail) = refl
tail_grown tree (Err fault) = refl

tree_grown : (p : Problem) (r : Result (Taken Tree) Fault)
    → grown_of
    (then_read r
    (λ tree number lines. rules.with_tail claims.unknown tree (tail_taken p number lines)))
    ≡ then_read r (λ tree number lines. with_tail tree (tail_taken p number lines))
tree_grown p (Ok taken) = tail_grown taken.what (tail_taken p taken.number taken.behind)
tree_grown p (Err fault) = refl

claims_nothing : (p : Problem) (number : ℕ) (lines : List Line)
    → grown_of (rules.rest_taken p number (unknown_line ∷ lines)) ≡ grown_taken p (suc number) lines
unfolding word_named
claims_nothing p number lines =
    let unknown : opening_read p unknown_line ≡ Ok reads.unknown = refl in
    ap (λ (r : Result reads.Opening TreeKind). grown_of
    (then_read (on_line number r (λ opening. claim_behind opening (suc number) lines))
    (λ claim number lines.
    then_read (tree_taken p number lines)
    (λ tree number lines. rules.with_tail claim tree (tail_taken p number lines))))) unknown
    ∙ tree_grown p (tree_taken p (suc number) lines)

-- the marks of a text of open leaves, and what is read of its lines
module _ (p : Problem) (count : ℕ) (distinct : Bool) (ws : List Network) (number : ℕ)
    (lines : List Line)
    (ms : List Mark) (fault : Option Fault) (place : ℕ) (made text : List ℕ)
    (marks : so_far ms fault (Ok []) ≡ marks_taken distinct number lines)
    (text_is : lines_of (drop place text) ≡ unknown_line ∷ map (opened distinct) lines)
    (made_is : made ≡ text) (some : 1 ≤ number) where
  abbrev IsRead : Result Certificate Fault → Type 0
  IsRead r = rules.rest_taken p (number - 1) (lines_of (drop place made)) ≡ r

  grown_read : (r : Result Certificate Fault) → IsRead r
      → grown_taken p number (map (opened distinct) lines) ≡ grown_of r
  grown_read r e =
      ap (λ (n : ℕ). grown_taken p n (map (opened distinct) lines))
      (let q : number ≡ suc (number - 1) = omega (arith, some) in q)
      ∙ sym (claims_nothing p (number - 1) (map (opened distinct) lines))
      ∙ ap (λ (all : List Line). grown_of (rules.rest_taken p (number - 1) all))
      (sym (ap (λ (bs : List ℕ). lines_of (drop place bs)) made_is ∙ text_is))
      ∙ ap grown_of e

  abbrev Stands : Result Text Fault → Type 0
  Stands r = behind_networks p count distinct ws number lines ≡ r

  together : (f : Option Fault) (r : Result Certificate Fault) → fault ≡ f → IsRead r
      → Stands (put_together count distinct ws (so_far ms f (Ok [])) (grown_of r))
  together f r is e =
      ap₂ (λ (m : Result (List Mark) Fault) (g : Result Grown Fault). put_together count distinct
      ws m g)
      (sym marks ∙ ap (λ (f : Option Fault). so_far ms f (Ok [])) is) (grown_read r e)

  -- without a fault of a line that names a network the marks are whole
  unmarred : (r : Result Certificate Fault) → fault ≡ None → IsRead r
      → Stands (put_together count distinct ws (Ok ms) (grown_of r))
  unmarred r is e = together None r is e
      ∙ ap (λ (xs : List Mark). put_together count distinct ws (Ok xs) (grown_of r)) (append-nil ms)

  pub both_ok : (c : Certificate) → fault ≡ None → IsRead (Ok c)
      → Stands
      (Ok (record {
        count = count;
        distinct = distinct;
        networks = ws;
        tree = c.tree;
        marks = ms;
        tail = c.tail;
      }))
  both_ok c none e = unmarred (Ok c) none e

  pub named_bad : (c : Certificate) (f : Fault) → fault ≡ Some f → IsRead (Ok c) → Stands (Err f)
  named_bad c f is e = together (Some f) (Ok c) is e

  pub both_bad : (other told : Fault) → IsRead (Err other)
      → IfSome fault (λ f. told ≡ earlier f other) → IfNone fault (told ≡ other) → Stands (Err told)
  both_bad other told e some none = at fault refl some none
    where
      at : (f : Option Fault) → fault ≡ f → IfSome f (λ f. told ≡ earlier f other)
          → IfNone f (told ≡ other) → Stands (Err told)
      at None is some none = unmarred (Err other) is e ∙ ap (λ (f : Fault). Err f) (sym none)
      at (Some f) is some none = together (Some f) (Err other) is e
          ∙ ap (λ (f : Fault). Err f) (sym some)

-- ---- the line of a list of alternatives, or none

module _ (p : Problem) (count number : ℕ) where
  abbrev either_listed : Line → List Line → Bool → Result Text Fault
  either_listed line lines b =
      if b then listed_taken p count true (suc number) lines
      else listed_taken p count false number (line ∷ lines)

  pub asked_distinct : (line : Line) (lines all : List Line) → all ≡ line ∷ lines
      → is_distinct line ≡ true
      → listed_taken p count true (suc number) lines ≡ asked_taken p count number all
  asked_distinct line lines all e is =
      sym (ap (asked_taken p count number) e ∙ ap (either_listed line lines) is)

  pub asked_ranking : (line : Line) (lines all : List Line) → all ≡ line ∷ lines
      → is_distinct line ≡ false
      → listed_taken p count false number all ≡ asked_taken p count number all
  asked_ranking line lines all e is =
      ap (listed_taken p count false number) e
      ∙ sym (ap (asked_taken p count number) e ∙ ap (either_listed line lines) is)

  pub asked_none : (all : List Line) → all ≡ [] → asked_taken p count number all
      ≡ Err (number, BadLine)
  asked_none all e = ap (asked_taken p count number) e
