-- The lines of a tree and a tail consist of tokens, and have a form with a place for the mark of
-- each open leaf. With the marks in these places they are the lines of the ranked tree.
use Rattle.std.proofs.Common.{◌≡◌, ◌+◌, ℕ, ℤ, Bool, List, [], ◌∷◌, ◌++◌, map, length, Option, Some}
use Rattle.std.proofs.Common.{None, Ok, refl, sym, ap, ◌∙◌, subst, append_assoc, append-nil}
use Rattle.std.proofs.Common.{zero-add}
use Rattle.tree_text_laws.specs.problem_rules.Each.{Each}
use Rattle.tree_text_laws.specs.problem_rules.Problem.{Problem}
use Rattle.tree_text_laws.specs.problem_rules.WellFormed.{IsWellFormed}
use Rattle.tree_text_laws.specs.pns_rules.Nodes as nodes
use Rattle.tree_text_laws.specs.flow_rules.Cover.{Cover}
use Rattle.tree_text_laws.specs.flow_rules.ChargeLeaf.{Handed}
use Rattle.tree_text_laws.specs.tree_rules.Ways as ways
use Rattle.tree_text_laws.specs.tree_rules.Tree as trees
use Rattle.tree_text_laws.specs.tree_rules.Leaf as leaves
use Rattle.tree_text_laws.specs.tree_rules.Accepted.{Tree}
use Rattle.tree_text_laws.specs.tree_rules.Claim.{Network}
use Rattle.tree_text_laws.specs.tree_rules.Tail as tails
use Rattle.tree_text_laws.proofs.text_laws.Cited.{each-append}
use Rattle.tree_text_laws.specs.tree_text_rules.Line.{Token, Line}
use Rattle.tree_text_laws.specs.tree_text_rules.Spelling as plain
use Rattle.tree_text_laws.specs.Codes.{IsToken}
use Rattle.tree_text_laws.specs.Fits.{FitsNetwork, FitsTree, FitsTail}
use Rattle.tree_text_laws.proofs.Cited.{network_line, sizes_line, cost_line, all_each, tree_tokens}
use Rattle.tree_text_laws.proofs.Cited.{tail_tokens}
use Rattle.tree_text_laws.specs.Lines.{lines_said}
use Rattle.rank_check.specs.rank_rules.Marked.{Mark, marked, marked_end, marked_leaf, marks_behind}
use Rattle.rank_check.specs.rank_rules.Marked.{first_mark}
use Rattle.rank_check.specs.rank_rules.Marked.{other_marks}
use Rattle.rank_check.specs.rank_rules.Opened.{opened, marks_taken}
use Rattle.rank_check.specs.rank_rules.Spelling.{end_with_sets, tree_lines}
use Rattle.rank_check.specs.rank_rules.Text.{IsBareAt, AreBare}
use Rattle.rank_text.specs.Fits.{FitsMark, opens, opens_at}
use Rattle.rank_text.proofs.OpenLines.{IsShut, IsLow, still, place, low, Form, AreShut, AreOpen}
use Rattle.rank_text.proofs.OpenLines.{filled, places, mark_line, open_tokens, Gives, gives, comes}

-- with these marks, and without any, the form is these lines
record Spells (ms : List Mark) (form : Form) (ranked plain : List (List Token)) (count : ℕ) : Type
    0 where
  filled_is : AreOpen ms form → filled ms form ≡ ranked
  plain_is : filled [] form ≡ plain
  places_are : places form ≡ count
  shut : AreShut form

shut_line : {ms : List Mark} {form : Form} {ranked plain : List (List Token)} {count : ℕ}
    (line : List Token) → IsShut line → Spells ms form ranked plain count
    → Spells ms (still line ∷ form) (line ∷ ranked) (line ∷ plain) count
shut_line line shut s = record {
  filled_is = λ opened. ap (λ (ls : List (List Token)). line ∷ ls) (s.filled_is opened);
  plain_is = ap (λ (ls : List (List Token)). line ∷ ls) s.plain_is;
  places_are = s.places_are;
  shut = (shut, s.shut);
}

shut_lines : {ms : List Mark} {form : Form} {ranked plain : List (List Token)} {count : ℕ}
    (lines : List (List Token)) → Each IsShut lines → Spells ms form ranked plain count
    → Spells ms (map still lines ++ form) (lines ++ ranked) (lines ++ plain) count
shut_lines [] each s = s
shut_lines (line ∷ lines) each s = shut_line line each.0 (shut_lines lines each.1 s)

-- the same lines in other words
spelled_as : {ms : List Mark} {form : Form}
    {ranked ranked' plain plain' : List (List Token)}
    {count : ℕ} → ranked ≡ ranked' → plain ≡ plain' → Spells ms form ranked plain count
    → Spells ms form ranked' plain' count
spelled_as e f s =
    record {
      filled_is = λ opened. s.filled_is opened ∙ e;
      plain_is = s.plain_is ∙ f;
      places_are =
          s.places_are;
      shut = s.shut;
    }

-- lines that stand for themselves have no leaf with a bound
open_still : (ms : List Mark) (lines : List (List Token)) (form : Form) → AreOpen ms form
    → AreOpen ms (map still lines ++ form)
open_still ms [] form opened = opened
open_still ms (line ∷ lines) form opened = open_still ms lines form opened

still_open : (ms : List Mark) (lines : List (List Token)) (form : Form)
    → AreOpen ms (map still lines ++ form) → AreOpen ms form
still_open ms [] form opened = opened
still_open ms (line ∷ lines) form opened = still_open ms lines form opened

module _ (p : Problem) where
  -- ---- the lines of a node

  steps_shut : (ss : List nodes.Step) → Each IsShut (map (plain.step_line p) ss)
  steps_shut [] = tt
  steps_shut (nodes.raw u ∷ ss) = ((refl, (refl, refl)), steps_shut ss)
  steps_shut (nodes.rival u ∷ ss) = ((refl, (refl, refl)), steps_shut ss)
  steps_shut (nodes.starve x ∷ ss) = ((refl, (refl, refl)), steps_shut ss)
  steps_shut (nodes.loose us ∷ ss) = ((refl, (refl, refl)), steps_shut ss)
  steps_shut (nodes.sole x u ∷ ss) = ((refl, (refl, refl)), steps_shut ss)

  set_shut : (weight : ℤ) (b : Option ℕ) (us : List ℕ)
      → IsShut (plain.set_line p weight b us)
  set_shut weight None us = (refl, (refl, refl))
  set_shut weight (Some u) us = (refl, (refl, refl))

  sets_shut : (cs : List Cover) → Each IsShut (map (plain.cover_line p) cs)
  sets_shut [] = tt
  sets_shut (c ∷ cs) = (set_shut c.weight c.beside c.units, sets_shut cs)

  mark_spelled : (m : Mark) → mark_line m ∷ []
      ≡ end_with_sets p (trees.leaf (marked_leaf None m))
  mark_spelled None = refl
  mark_spelled (Some m) = refl

  -- a leaf with a bound is spelled as it is if it names no network
  low_spelled : (l : leaves.Scaled) (m : Mark) → m ≡ None
      → plain.end_line p (trees.leaf (leaves.untried (Some l))) ∷ []
      ≡ end_with_sets p (trees.leaf (marked_leaf (Some l) m))
  low_spelled l m none =
      ap (λ (n : Mark). end_with_sets p (trees.leaf (marked_leaf (Some l) n))) (sym none)

  low_shut : (l : leaves.Scaled)
      → IsLow (plain.end_line p (trees.leaf (leaves.untried (Some l))))
  low_shut l = record { opens = refl; not_named = (refl, refl); more = λ e. absurd cc }

  -- the lines of an end, if the first mark is that of an open leaf
  abbrev end_form : trees.End leaves.Leaf → Form → Form
  end_form (trees.branch w) form = still (plain.end_line p (trees.branch w)) ∷ form
  end_form (trees.leaf (leaves.dead x)) form =
      still (plain.end_line p (trees.leaf (leaves.dead x))) ∷ form
  end_form (trees.leaf (leaves.clash k)) form =
      still (plain.end_line p (trees.leaf (leaves.clash k))) ∷ form
  end_form (trees.leaf (leaves.refuted ys)) form =
      still (plain.end_line p (trees.leaf (leaves.refuted ys))) ∷ form
  end_form (trees.leaf (leaves.bounded d ys)) form =
      still (plain.end_line p (trees.leaf (leaves.bounded d ys))) ∷ form
  end_form (trees.leaf (leaves.charged h)) form =
      map still (plain.end_with_sets p (trees.leaf (leaves.charged h))) ++ form
  end_form (trees.leaf (leaves.untried None)) form = place ∷ form
  end_form (trees.leaf (leaves.untried (Some l))) form =
      low (plain.end_line p (trees.leaf (leaves.untried (Some l)))) ∷ form

  module _ {form : Form} {ranked rest : List (List Token)} {count : ℕ}
      (ms : List Mark) where
    shut_end : (line : List Token) → IsShut line → Spells ms form ranked rest count
        → Spells ms (still line ∷ form) (line ∷ ranked) (line ∷ rest) (0 + count)
    shut_end line shut s =
        subst (λ (n : ℕ). Spells ms (still line ∷ form) (line ∷ ranked) (line ∷ rest) n)
        (sym (zero-add count)) (shut_line line shut s)

    shut_charge : (h : Handed) → Spells ms form ranked rest count
        → Spells ms (end_form (trees.leaf (leaves.charged h)) form)
        (plain.end_with_sets p (trees.leaf (leaves.charged h)) ++ ranked)
        (plain.end_with_sets p (trees.leaf (leaves.charged h)) ++ rest) (0 + count)
    shut_charge h s =
        let lines : List (List Token) =
        plain.end_with_sets p (trees.leaf (leaves.charged h)) in
        subst
        (λ (n : ℕ). Spells ms (map still lines ++ form) (lines ++ ranked) (lines ++ rest)
        n)
        (sym (zero-add count))
        (shut_lines lines ((refl, (refl, refl)), sets_shut h.covers) s)

    open_end : Spells (other_marks ms) form ranked rest count
        → Spells ms (place ∷ form)
        (end_with_sets p (trees.leaf (marked_leaf None (first_mark ms))) ++ ranked)
        (open_tokens ∷ rest) (1 + count)
    open_end s = record {
      filled_is =
          λ opened. ap (λ (ls : List (List Token)). mark_line (first_mark ms) ∷ ls)
          (s.filled_is opened)
          ∙ ap (λ (ls : List (List Token)). ls ++ ranked) (mark_spelled (first_mark ms));
      plain_is = ap (λ (ls : List (List Token)). open_tokens ∷ ls) s.plain_is;
      places_are = ap (λ (n : ℕ). 1 + n) s.places_are;
      shut = s.shut;
    }

    low_end : (l : leaves.Scaled) → Spells (other_marks ms) form ranked rest count
        → Spells ms (end_form (trees.leaf (leaves.untried (Some l))) form)
        (end_with_sets p (trees.leaf (marked_leaf (Some l) (first_mark ms))) ++ ranked)
        (plain.end_line p (trees.leaf (leaves.untried (Some l))) ∷ rest) (1 + count)
    low_end l s =
        let line : List Token = plain.end_line p (trees.leaf (leaves.untried (Some l))) in
        record {
          filled_is =
              λ opened. ap (λ (ls : List (List Token)). line ∷ ls) (s.filled_is opened.1)
              ∙ ap (λ (ls : List (List Token)). ls ++ ranked)
              (low_spelled l (first_mark ms) opened.0);
          plain_is = ap (λ (ls : List (List Token)). line ∷ ls) s.plain_is;
          places_are = ap (λ (n : ℕ). 1 + n) s.places_are;
          shut = (low_shut l, s.shut);
        }

    end_spells : (e : trees.End leaves.Leaf)
        → Spells (marks_behind ms e) form ranked rest count
        → Spells ms (end_form e form) (end_with_sets p (marked_end ms e) ++ ranked)
        (plain.end_with_sets p e ++ rest) (opens_at e + count)
    end_spells (trees.leaf (leaves.dead x)) s =
        shut_end (plain.end_line p (trees.leaf (leaves.dead x))) (refl, (refl, refl)) s
    end_spells (trees.leaf (leaves.clash k)) s =
        shut_end (plain.end_line p (trees.leaf (leaves.clash k))) (refl, (refl, refl)) s
    end_spells (trees.leaf (leaves.refuted ys)) s =
        shut_end (plain.end_line p (trees.leaf (leaves.refuted ys))) (refl, (refl, refl)) s
    end_spells (trees.leaf (leaves.bounded d ys)) s =
        shut_end (plain.end_line p (trees.leaf (leaves.bounded d ys))) (refl, (refl, refl)) s
    end_spells (trees.leaf (leaves.charged h)) s = shut_charge h s
    end_spells (trees.leaf (leaves.untried None)) s = open_end s
    end_spells (trees.leaf (leaves.untried (Some l))) s = low_end l s
    end_spells (trees.branch (ways.at_material x c)) s =
        shut_end (plain.end_line p (trees.branch (ways.at_material x c))) (refl, (refl, refl)) s
    end_spells (trees.branch (ways.either u)) s =
        shut_end (plain.end_line p (trees.branch (ways.either u))) (refl, (refl, refl)) s

  module _ (ms : List Mark) (form : Form) where
    -- an end with a bound names no network exactly if its form is open
    end_open : (e : trees.End leaves.Leaf) → IsBareAt (first_mark ms) e
        → AreOpen (marks_behind ms e) form → AreOpen ms (end_form e form)
    end_open (trees.branch w) bare opened = opened
    end_open (trees.leaf (leaves.dead x)) bare opened = opened
    end_open (trees.leaf (leaves.clash k)) bare opened = opened
    end_open (trees.leaf (leaves.refuted ys)) bare opened = opened
    end_open (trees.leaf (leaves.bounded d ys)) bare opened = opened
    end_open (trees.leaf (leaves.charged h)) bare opened =
        open_still ms (plain.end_with_sets p (trees.leaf (leaves.charged h))) form opened
    end_open (trees.leaf (leaves.untried None)) bare opened = opened
    end_open (trees.leaf (leaves.untried (Some l))) bare opened = (bare, opened)

    open_ended : (e : trees.End leaves.Leaf) → AreOpen ms (end_form e form)
        → IsBareAt (first_mark ms) e × AreOpen (marks_behind ms e) form
    open_ended (trees.branch w) opened = (tt, opened)
    open_ended (trees.leaf (leaves.dead x)) opened = (tt, opened)
    open_ended (trees.leaf (leaves.clash k)) opened = (tt, opened)
    open_ended (trees.leaf (leaves.refuted ys)) opened = (tt, opened)
    open_ended (trees.leaf (leaves.bounded d ys)) opened = (tt, opened)
    open_ended (trees.leaf (leaves.charged h)) opened = (
      tt,
      still_open ms (plain.end_with_sets p (trees.leaf (leaves.charged h))) form
          opened,
    )
    open_ended (trees.leaf (leaves.untried None)) opened = (tt, opened)
    open_ended (trees.leaf (leaves.untried (Some l))) opened = opened

  -- ---- the lines of a tree, in front of others

  abbrev tree_form : Tree → Form → Form
  tree_form [] form = form
  tree_form (t ∷ ts) form =
      map still (plain.head_lines p t.option t.steps)
      ++ end_form t.end (tree_form ts form)

  -- a head, an end and the lines after it
  apart : (head end lines rest : List (List Token))
      → head ++ (end ++ (lines ++ rest)) ≡ ((head ++ end) ++ lines) ++ rest
  apart head end lines rest =
      sym (append_assoc (head ++ end) lines rest ∙ append_assoc head end (lines ++ rest))

  tree_spells : (ts : Tree) (ms : List Mark) (form : Form) (rest : List (List Token))
      → ((ms : List Mark) → Spells ms form rest rest 0)
      → Spells ms (tree_form ts form) (tree_lines p (marked ms ts) ++ rest)
      (plain.tree_lines p ts ++ rest) (opens ts)
  tree_spells [] ms form rest spells = spells ms
  tree_spells (t ∷ ts) ms form rest spells =
      let head : List (List Token) = plain.head_lines p t.option t.steps in
      let s =
      shut_lines head ((refl, (refl, refl)), steps_shut t.steps)
      (end_spells ms t.end (tree_spells ts (marks_behind ms t.end) form rest spells)) in
      spelled_as
      (apart head (end_with_sets p (marked_end ms t.end))
      (tree_lines p (marked (marks_behind ms t.end) ts)) rest)
      (apart head (plain.end_with_sets p t.end) (plain.tree_lines p ts) rest) s

  tree_open : (ts : Tree) (ms : List Mark) (form : Form)
      → ((ms : List Mark) → AreOpen ms form)
      → AreBare ms ts → AreOpen ms (tree_form ts form)
  tree_open [] ms form opened bare = opened ms
  tree_open (t ∷ ts) ms form opened bare =
      open_still ms (plain.head_lines p t.option t.steps)
      (end_form t.end (tree_form ts form))
      (end_open ms (tree_form ts form) t.end bare.0
      (tree_open ts (marks_behind ms t.end) form opened bare.1))

  tree_bare : (ts : Tree) (ms : List Mark) (form : Form) → AreOpen ms (tree_form ts form)
      → AreBare ms ts
  tree_bare [] ms form opened = tt
  tree_bare (t ∷ ts) ms form opened =
      let e =
      open_ended ms (tree_form ts form) t.end
      (still_open ms (plain.head_lines p t.option t.steps)
      (end_form t.end (tree_form ts form))
      opened) in
      (e.0, tree_bare ts (marks_behind ms t.end) form e.1)

  -- ---- the lines of a tree and a tail

  tail_shut : (tail : tails.Tail) → Each IsShut (plain.tail_lines p tail)
  tail_shut tails.whole = ((refl, (refl, refl)), tt)
  tail_shut (tails.spent next options) = ((refl, (refl, refl)), ((refl, (refl, refl)), tt))
  tail_shut (tails.past node nonbasic at_place) = (
    (refl, (refl, refl)),
    ((refl, (refl, refl)), ((refl, (refl, refl)), ((refl, (refl, refl)), tt))),
  )

  tail_spells : (tail : tails.Tail) (ms : List Mark)
      → Spells ms (map still (plain.tail_lines p tail) ++ []) (plain.tail_lines p tail)
      (plain.tail_lines p tail) 0
  tail_spells tail ms =
      let lines : List (List Token) = plain.tail_lines p tail in
      let none : Spells ms [] [] [] 0 =
      record { filled_is = λ opened. refl; plain_is = refl; places_are = refl; shut = tt } in
      spelled_as (append-nil lines) (append-nil lines)
      (shut_lines lines (tail_shut tail) none)

  abbrev lines_of_both : Tree → tails.Tail → List (List Token)
  lines_of_both ts tail = plain.tree_lines p ts ++ plain.tail_lines p tail

  abbrev form_of : Tree → tails.Tail → Form
  form_of ts tail = tree_form ts (map still (plain.tail_lines p tail) ++ [])

  spelled : (ts : Tree) (tail : tails.Tail) (ms : List Mark)
      → Spells ms (form_of ts tail)
      (tree_lines p (marked ms ts) ++ plain.tail_lines p tail)
      (lines_of_both ts tail) (opens ts)
  spelled ts tail ms =
      tree_spells ts ms (map still (plain.tail_lines p tail) ++ [])
      (plain.tail_lines p tail)
      (tail_spells tail)

  module _ (distinct : Bool) (ts : Tree) (tail : tails.Tail) (ms : List Mark)
      (each : Each (Each IsToken) (lines_of_both ts tail)) where
    tokens : Each (Each IsToken) (filled [] (form_of ts tail))
    tokens =
        subst (λ (ls : List (List Token)). Each (Each IsToken) ls)
        (sym (spelled ts tail ms).plain_is) each

    -- the lines of the ranked tree give these lines and the marks
    pub both_given : Each (FitsMark distinct) ms → length ms ≡ opens ts → AreBare ms ts
        → Gives distinct ms (tree_lines p (marked ms ts) ++ plain.tail_lines p tail)
        (lines_of_both ts tail)
    both_given fits count bare =
        let s = spelled ts tail ms in
        let opened =
        tree_open ts ms (map still (plain.tail_lines p tail) ++ [])
        (λ ns. open_still ns (plain.tail_lines p tail) [] tt) bare in
        subst (λ (ls : List (List Token)). Gives distinct ms ls (lines_of_both ts tail))
        (s.filled_is opened)
        (subst (λ (ls : List (List Token)). Gives distinct ms (filled ms (form_of ts tail)) ls)
        s.plain_is
        (gives distinct (form_of ts tail) ms s.shut tokens fits (count ∙ sym s.places_are) opened))

    -- and no others do
    pub both_come : (lines : List Line) (number : ℕ)
        → map (opened distinct) lines ≡ lines_said (lines_of_both ts tail)
        → marks_taken distinct number lines ≡ Ok ms
        → (lines ≡ lines_said (tree_lines p (marked ms ts) ++ plain.tail_lines p tail))
        × Each (FitsMark distinct) ms × (length ms ≡ opens ts) × AreBare ms ts
    both_come lines number are read =
        let s = spelled ts tail ms in
        let c =
        comes distinct (form_of ts tail) lines s.shut tokens (are ∙ ap lines_said (sym s.plain_is))
        number ms read in (
          c.lines_are ∙ ap lines_said (s.filled_is c.opened),
          c.fits,
          c.count ∙ s.places_are,
          tree_bare ts ms (map still (plain.tail_lines p tail) ++ []) c.opened,
        )

module _ (p : Problem) (formed : IsWellFormed p) where
  pub network_tokens : (w : Network) → FitsNetwork p w
      → Each (Each IsToken) (plain.network_lines p w)
  network_tokens w fits =
      let kept = fits.kept in
      let sizes =
      (sizes_line (length w.units)).tokens (w.d, w.sizes) (
        ((kept.d_in_range, kept.sized.positive), all_each w.sizes kept.sizes_in_range),
        kept.sized.one_size,
      ) in (
        (network_line p formed).tokens w.units fits.known,
        (sizes, (cost_line.tokens w.cost kept.cost_in_range, tt)),
      )

  pub both_tokens : (ts : Tree) (tail : tails.Tail) → FitsTree p ts → FitsTail p tail
      → Each (Each IsToken) (plain.tree_lines p ts ++ plain.tail_lines p tail)
  both_tokens ts tail fits fits' =
      each-append (Each IsToken) (plain.tree_lines p ts) (plain.tail_lines p tail)
      (tree_tokens p formed ts fits) (tail_tokens p formed tail fits')
