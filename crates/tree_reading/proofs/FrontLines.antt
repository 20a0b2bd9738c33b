-- The head of a tree, read line by line.
use Rattle.std.proofs.Common.{◌≡◌, ◌++◌, ℕ, suc, ℤ, Bool, List, [], ◌∷◌, Option, Some, None}
use Rattle.std.proofs.Common.{Result, Ok, Err, refl, sym, ap, ◌∙◌, subst, append_assoc, append-nil}
use Rattle.tree_text_rules.specs.problem_rules.Problem.{Problem}
use Rattle.tree_text_rules.specs.flow_rules.Cover.{Cover}
use Rattle.tree_text_rules.specs.flow_rules.ChargeFacts.{Demand}
use Rattle.tree_text_rules.specs.tree_rules.Head.{HeadLine, step, cap, out, trim, uses}
use Rattle.tree_text_rules.specs.tree_rules.HeadKnown.{KnowsLine}
use Rattle.branch_tree.specs.HeadView.{line_of, lines_of}
use Rattle.branch_tree.specs.declared.line.HeadLine as values
use Rattle.tree_text_rules.specs.Line.{Token, Line, word_of, fields_of, is_formed}
use Rattle.tree_text_rules.specs.LineRead.{cap_of, out_of, use_of, one_and_more, next_cover}
use Rattle.tree_text_rules.specs.LineRead.{sets_of, head_by, head_read, formed_head}
use Rattle.tree_text_rules.specs.Token.{both, mapped, unit_of, material_of, weight_of, number_of}
use Rattle.tree_text_rules.specs.Read.{Fault, Taken, on_line, then_read, covers_taken}
use Rattle.tree_text_rules.specs.Read.{with_line, front_taken}
use Rattle.tree_text_rules.specs.declared.TreeKind.{TreeKind}
use Rattle.tree_text_rules.specs.declared.Word.{Word}
use Rattle.text_lines.specs.Tells.{Tells, TellsLine, fault_at}
use Rattle.text_lines.specs.declared.fault.LineFault.{LineFault}
use Rattle.text_lines.specs.declared.fault.LineFault.TheVariants as line
use Rattle.text_lines.specs.declared.fault.TextFault.{TextFault}
use Rattle.text_lines.specs.declared.fault.TextFault.TheVariants as faults
use Rattle.tree_reading.specs.Apart.{AreParts, formed_if_read}
use Rattle.tree_reading.specs.Front.{BearsNone, ReadsLine, line_behind}
use Rattle.tree_reading.specs.View.{tokens_in}
use Rattle.tree_reading.specs.declared.apart.LineParts.{LineParts}
use Rattle.tree_reading.proofs.FirstLines.{then_tells}
use Rattle.tree_reading.proofs.Joining.{lesser_assoc}

-- ---- one line without its sets

grouped : {A B C : Type 0} (f : A × (B × C) → HeadLine) (a : Result A TreeKind)
    (b : Result B TreeKind) (c : Result C TreeKind)
    → mapped f (both a (both b c))
    ≡ mapped (λ found. f (found.0.0, (found.0.1, found.1))) (both (both a b) c)
grouped f (Ok a) (Ok b) (Ok c) = refl
grouped f (Ok a) (Ok b) (Err k) = refl
grouped f (Ok a) (Err j) (Ok c) = refl
grouped f (Ok a) (Err j) (Err k) = refl
grouped f (Err i) (Ok b) (Ok c) = refl
grouped f (Err i) (Ok b) (Err k) = refl
grouped f (Err i) (Err j) (Ok c) = refl
grouped f (Err i) (Err j) (Err k) = ap (λ (kind : TreeKind). Err kind) (sym (lesser_assoc i j k))

mapped_told : {A B : Type 0} (f : A → B) (r : Result A TreeKind) (fault : LineFault TreeKind)
    → TellsLine r fault → TellsLine (mapped f r) fault
mapped_told f r line.Memory told = tt
mapped_told f r (line.Kind kind) told = ap (mapped f) told

module _ (p : Problem) (unit size : Token) (all next fields : List Token)
    (cut : all ≡ unit ∷ next) (cut' : next ≡ size ∷ fields) (first : Result (ℕ × ℤ) TreeKind)
    (first_is : first ≡ both (unit_of p unit) (weight_of size)) where
  cap_by : cap_of p all
      ≡ mapped (λ found. cap found.0.0 found.0.1 found.1.0 found.1.1 [])
      (both first (one_and_more number_of number_of fields))
  cap_by =
      ap (cap_of p) (cut ∙ ap (λ (ts : List Token). unit ∷ ts) cut')
      ∙ grouped
      (λ (found : ℕ × (ℤ × (ℤ × List ℤ))). cap found.0 found.1.0 found.1.1.0 found.1.1.1 [])
      (unit_of p unit) (weight_of size) (one_and_more number_of number_of fields)
      ∙ ap
      (λ (r : Result (ℕ × ℤ) TreeKind). mapped {B = HeadLine}
      (λ found. cap found.0.0 found.0.1 found.1.0 found.1.1 [])
      (both r (one_and_more number_of number_of fields))) (sym first_is)

  pub cap_read : (u : ℕ) (v d : ℤ) (ys : List ℤ) (covers : List Cover)
      → both first (one_and_more number_of number_of fields) ≡ Ok ((u, v), (d, ys))
      → covers ≡ [] → cap_of p all ≡ Ok (cap u v d ys covers)
  cap_read u v d ys covers e none =
      cap_by
      ∙ ap (mapped {B = HeadLine} (λ found. cap found.0.0 found.0.1 found.1.0 found.1.1 [])) e
      ∙ ap (λ (cs : List Cover). Ok (cap u v d ys cs)) (sym none)

  pub cap_told : (fault : LineFault TreeKind)
      → TellsLine (both first (one_and_more number_of number_of fields)) fault
      → TellsLine (cap_of p all) fault
  cap_told fault told =
      subst (λ (r : Result HeadLine TreeKind). TellsLine r fault) (sym cap_by)
      (mapped_told (λ found. cap found.0.0 found.0.1 found.1.0 found.1.1 [])
      (both first (one_and_more number_of number_of fields)) fault told)

module _ (p : Problem) (unit : Token) (all fields : List Token) (cut : all ≡ unit ∷ fields)
    (first : Result ℕ TreeKind) (first_is : first ≡ unit_of p unit) where
  out_by : out_of p all
      ≡ mapped (λ found. out found.0 found.1.0 found.1.1 [])
      (both first (one_and_more number_of number_of fields))
  out_by =
      ap (out_of p) cut
      ∙ ap
      (λ (r : Result ℕ TreeKind). mapped {B = HeadLine}
      (λ found. out found.0 found.1.0 found.1.1 [])
      (both r (one_and_more number_of number_of fields))) (sym first_is)

  pub out_read : (u : ℕ) (d : ℤ) (ys : List ℤ) (covers : List Cover)
      → both first (one_and_more number_of number_of fields) ≡ Ok (u, (d, ys))
      → covers ≡ [] → out_of p all ≡ Ok (out u d ys covers)
  out_read u d ys covers e none =
      out_by
      ∙ ap (mapped {B = HeadLine} (λ found. out found.0 found.1.0 found.1.1 [])) e
      ∙ ap (λ (cs : List Cover). Ok (out u d ys cs)) (sym none)

  pub out_told : (fault : LineFault TreeKind)
      → TellsLine (both first (one_and_more number_of number_of fields)) fault
      → TellsLine (out_of p all) fault
  out_told fault told =
      subst (λ (r : Result HeadLine TreeKind). TellsLine r fault) (sym out_by)
      (mapped_told (λ found. out found.0 found.1.0 found.1.1 [])
      (both first (one_and_more number_of number_of fields)) fault told)

module _ (p : Problem) (material amount worth : Token) (all next last fields : List Token)
    (cut : all ≡ material ∷ next) (cut' : next ≡ amount ∷ last) (cut'' : last ≡ worth ∷ fields)
    (first : Result ((ℕ × ℤ) × ℤ) TreeKind)
    (first_is
    : first ≡ both (both (material_of p material) (weight_of amount)) (weight_of worth)) where
  abbrev use_found : ((ℕ × ℤ) × ℤ) × (ℤ × List ℤ) → HeadLine
  use_found found =
      uses (record { of = found.0.0.0; amount = found.0.0.1; worth = found.0.1 }) found.1.0
      found.1.1 []

  use_by : use_of p all ≡ mapped use_found (both first (one_and_more number_of number_of fields))
  use_by =
      ap (use_of p)
      (cut
      ∙ ap (λ (ts : List Token). material ∷ ts)
      (cut' ∙ ap (λ (ts : List Token). amount ∷ ts) cut''))
      ∙ grouped
      (λ (found : ℕ × (ℤ × (ℤ × (ℤ × List ℤ)))). use_found
      (((found.0, found.1.0), found.1.1.0), found.1.1.1))
      (material_of p material) (weight_of amount)
      (both (weight_of worth) (one_and_more number_of number_of fields))
      ∙ grouped
      (λ (found : (ℕ × ℤ) × (ℤ × (ℤ × List ℤ))). use_found ((found.0, found.1.0), found.1.1))
      (both (material_of p material) (weight_of amount)) (weight_of worth)
      (one_and_more number_of number_of fields)
      ∙ ap
      (λ (r : Result ((ℕ × ℤ) × ℤ) TreeKind). mapped use_found
      (both r (one_and_more number_of number_of fields))) (sym first_is)

  pub use_told : (fault : LineFault TreeKind)
      → TellsLine (both first (one_and_more number_of number_of fields)) fault
      → TellsLine (use_of p all) fault
  use_told fault told =
      subst (λ (r : Result HeadLine TreeKind). TellsLine r fault) (sym use_by)
      (mapped_told use_found (both first (one_and_more number_of number_of fields)) fault told)

-- ---- a line with its sets, and the lines after them

abbrev pub Reading : Type 0
Reading = Result (Taken (List HeadLine)) Fault

abbrev go_on : Problem → HeadLine → ℕ → List Line → Reading
go_on p l number lines = with_line l (front_taken p None number lines)

-- the lines of sets come one by one
module _ (p : Problem) (number : ℕ) (line : Line) (lines : List Line)
    (begun : List Cover → HeadLine)
  where
    at_set : (covers : List Cover) (r : Option (Result Cover TreeKind)) (close : Reading)
        → close ≡ go_on p (begun covers) number (line ∷ lines)
        → ((cs : List Cover) → front_taken p (Some (begun cs)) (suc number) lines
        ≡ then_read (covers_taken p cs (suc number) lines) (λ cs n ls. go_on p (begun cs) n ls))
        → elim r [
          | Some read
              ↦ on_line number read
              (λ cover. front_taken p (Some (begun (covers ++ cover ∷ []))) (suc number) lines)
          | None ↦ close
        ]
        ≡ then_read (elim r [
          | None ↦ Ok (record { what = covers; number = number; behind = line ∷ lines })
          | Some read
              ↦ on_line number read
              (λ cover. covers_taken p (covers ++ cover ∷ []) (suc number) lines)
        ]) (λ cs n ls. go_on p (begun cs) n ls)
    at_set covers None close closed later = closed
    at_set covers (Some (Ok cover)) close closed later = later (covers ++ cover ∷ [])
    at_set covers (Some (Err kind)) close closed later = refl

cap_sets : (p : Problem) (u : ℕ) (v d : ℤ) (ys : List ℤ) (covers : List Cover) (number : ℕ)
    (lines : List Line)
    → front_taken p (Some (cap u v d ys covers)) number lines
    ≡ then_read (covers_taken p covers number lines) (λ cs n ls. go_on p (cap u v d ys cs) n ls)
unfolding front_taken
cap_sets p u v d ys covers number [] = refl
cap_sets p u v d ys covers number (line ∷ lines) =
    at_set p number line lines (λ cs. cap u v d ys cs) covers (next_cover p covers line)
    (go_on p (cap u v d ys covers) number (line ∷ lines)) refl
    (λ cs. cap_sets p u v d ys cs (suc number) lines)

out_sets : (p : Problem) (u : ℕ) (d : ℤ) (ys : List ℤ) (covers : List Cover) (number : ℕ)
    (lines : List Line)
    → front_taken p (Some (out u d ys covers)) number lines
    ≡ then_read (covers_taken p covers number lines) (λ cs n ls. go_on p (out u d ys cs) n ls)
unfolding front_taken
out_sets p u d ys covers number [] = refl
out_sets p u d ys covers number (line ∷ lines) =
    at_set p number line lines (λ cs. out u d ys cs) covers (next_cover p covers line)
    (go_on p (out u d ys covers) number (line ∷ lines)) refl
    (λ cs. out_sets p u d ys cs (suc number) lines)

use_sets : (p : Problem) (q : Demand) (d : ℤ) (ys : List ℤ) (covers : List Cover) (number : ℕ)
    (lines : List Line)
    → front_taken p (Some (uses q d ys covers)) number lines
    ≡ then_read (covers_taken p covers number lines) (λ cs n ls. go_on p (uses q d ys cs) n ls)
unfolding front_taken
use_sets p q d ys covers number [] = refl
use_sets p q d ys covers number (line ∷ lines) =
    at_set p number line lines (λ cs. uses q d ys cs) covers (next_cover p covers line)
    (go_on p (uses q d ys covers) number (line ∷ lines)) refl
    (λ cs. use_sets p q d ys cs (suc number) lines)

regroup : {A B C : Type 0} (r : Result (Taken A) Fault) (f : A → B)
    (read : B → ℕ → List Line → Result C Fault)
    → then_read r (λ a n ls. read (f a) n ls)
    ≡ then_read
    (then_read r (λ a n ls. Ok (record { what = f a; number = n; behind = ls })))
    read
regroup (Ok t) f read = refl
regroup (Err fault) f read = refl

-- what follows the line of a head: its sets, and then the other lines
begun_on : (p : Problem) (l : HeadLine) (number : ℕ) (lines : List Line)
    → front_taken p (Some l) number lines
    ≡ then_read (line_behind p l (sets_of l) number lines) (go_on p)
unfolding front_taken
begun_on p (step s) number [] = refl
begun_on p (step s) number (line ∷ lines) = refl
begun_on p (cap u v d ys covers) number lines =
    cap_sets p u v d ys covers number lines
    ∙ regroup (covers_taken p covers number lines) (λ cs. cap u v d ys cs) (go_on p)
begun_on p (out u d ys covers) number lines =
    out_sets p u d ys covers number lines
    ∙ regroup (covers_taken p covers number lines) (λ cs. out u d ys cs) (go_on p)
begun_on p (trim u) number [] = refl
begun_on p (trim u) number (line ∷ lines) = refl
begun_on p (uses q d ys covers) number lines =
    use_sets p q d ys covers number lines
    ∙ regroup (covers_taken p covers number lines) (λ cs. uses q d ys cs) (go_on p)

-- ---- a line of a head at a place

parts_read : (p : Problem) (parts : LineParts) (line : Line) → AreParts parts line
    → formed_if_read parts.formed (head_by p parts.word (tokens_in parts.fields)) ≡ head_read p line
parts_read p parts line are =
    ap (λ (b : Bool). formed_if_read b (head_by p parts.word (tokens_in parts.fields))) are.formed
    ∙ ap
    (λ (w : Option Word). formed_if_read (is_formed line) (head_by p w (tokens_in parts.fields)))
    are.word
    ∙ ap
    (λ (ts : List Token). formed_if_read (is_formed line) (head_by p (word_of line) ts)) are.fields
    ∙ same (head_by p (word_of line) (fields_of line))
  where
    same : (r : Option (Result HeadLine TreeKind))
        → formed_if_read (is_formed line) r ≡ formed_head line r
    same None = refl
    same (Some r) = refl

abbrev first_by : Problem → ℕ → Line → List Line → Option (Result HeadLine TreeKind) → Reading
first_by p number line lines None =
    Ok (record { what = []; number = number; behind = line ∷ lines })
first_by p number line lines (Some read) =
    on_line number read (λ next. front_taken p (Some next) (suc number) lines)

at_first : (p : Problem) (number : ℕ) (line : Line) (lines : List Line)
    → front_taken p None number (line ∷ lines) ≡ first_by p number line lines (head_read p line)
unfolding front_taken
at_first p number line lines = same (head_read p line)
  where
    same : (r : Option (Result HeadLine TreeKind))
        → elim r [
          | Some read ↦ on_line number read (λ next. front_taken p (Some next) (suc number) lines)
          | None ↦ Ok (record { what = []; number = number; behind = line ∷ lines })
        ]
        ≡ first_by p number line lines r
    same None = refl
    same (Some read) = refl

pub none_left : (p : Problem) (number : ℕ) (lines : List Line) → lines ≡ []
    → front_taken p None number lines
    ≡ Ok (record { what = []; number = number; behind = lines })
unfolding front_taken
none_left p number [] e = refl
none_left p number (line ∷ lines) e = absurd cc

told_at : (number : ℕ) (fault : LineFault TreeKind) (r : Result HeadLine TreeKind)
    (read : HeadLine → Reading)
    → TellsLine r fault → Tells (on_line number r read) (fault_at number fault)
told_at number line.Memory r read told = tt
told_at number (line.Kind kind) r read told = ap (λ r. on_line number r read) told

-- what a reader of the first line answers decides what is read
module _ (p : Problem) (number : ℕ) (all : List Line) (line : Line) (lines : List Line)
    (cut : all ≡ line ∷ lines) (parts : LineParts) (are : AreParts parts line) where
  abbrev here : Option (Result HeadLine TreeKind)
  here = formed_if_read parts.formed (head_by p parts.word (tokens_in parts.fields))

  by_here : front_taken p None number all ≡ first_by p number line lines here
  by_here =
      ap (front_taken p None number) cut ∙ at_first p number line lines
      ∙ ap (first_by p number line lines) (sym (parts_read p parts line are))

  other_here : (r : Option (Result HeadLine TreeKind)) → ReadsLine p r None
      → first_by p number line lines r
      ≡ Ok (record { what = []; number = number; behind = line ∷ lines })
  other_here None h = refl
  other_here (Some read) h = absurd h

  -- the line is another
  pub other_line : ReadsLine p here None
      → front_taken p None number all ≡ Ok (record { what = []; number = number; behind = all })
  other_line h =
      by_here ∙ other_here here h
      ∙ ap
      (λ (ls : List Line). Ok (record { what = []; number = number; behind = ls })) (sym cut)

  told_here : (r : Option (Result HeadLine TreeKind)) (fault : LineFault TreeKind)
      → ReadsLine p r (Some (Err fault))
      → Tells (first_by p number line lines r) (fault_at number fault)
  told_here None fault h = absurd h
  told_here (Some read) fault h =
      told_at number fault read (λ next. front_taken p (Some next) (suc number) lines) h

  -- the line has a fault
  pub line_told : (fault : LineFault TreeKind) → ReadsLine p here (Some (Err fault))
      → Tells (front_taken p None number all) (fault_at number fault)
  line_told fault h =
      subst (λ (r : Reading). Tells r (fault_at number fault)) (sym by_here)
      (told_here here fault h)

  begun_here : (r : Option (Result HeadLine TreeKind)) (l : values.HeadLine)
      → ReadsLine p r (Some (Ok l))
      → first_by p number line lines r ≡ front_taken p (Some (line_of l)) (suc number) lines
  begun_here None l h = absurd h
  begun_here (Some read) l h =
      ap
      (λ (r : Result HeadLine TreeKind). on_line number r
      (λ next. front_taken p (Some next) (suc number) lines)) h.reads

  begun_known : (r : Option (Result HeadLine TreeKind)) (l : values.HeadLine)
      → ReadsLine p r (Some (Ok l)) → KnowsLine p (line_of l) × BearsNone (line_of l)
  begun_known None l h = absurd h
  begun_known (Some read) l h = (h.known, h.bare)

  -- the line is one of the head
  module _ (l : values.HeadLine) (begun : ReadsLine p here (Some (Ok l))) where
    pub line_known : KnowsLine p (line_of l) × BearsNone (line_of l)
    line_known = begun_known here l begun

    then_on : front_taken p None number all
        ≡ then_read (line_behind p (line_of l) (sets_of (line_of l)) (suc number) lines) (go_on p)
    then_on = by_here ∙ begun_here here l begun ∙ begun_on p (line_of l) (suc number) lines

    pub sets_told : (next : ℕ) → next ≡ suc number → (fault : TextFault TreeKind)
        → Tells (line_behind p (line_of l) (sets_of (line_of l)) next lines) fault
        → Tells (front_taken p None number all) fault
    sets_told next e fault told =
        subst (λ (r : Reading). Tells r fault) (sym then_on)
        (then_tells (line_behind p (line_of l) (sets_of (line_of l)) (suc number) lines) (go_on p)
        fault
        (subst
        (λ (n : ℕ). Tells (line_behind p (line_of l) (sets_of (line_of l)) n lines) fault) e told))

    pub line_on : (next : ℕ) → next ≡ suc number → (found : HeadLine) (behind : ℕ)
        (left : List Line)
        → line_behind p (line_of l) (sets_of (line_of l)) next lines
        ≡ Ok (record { what = found; number = behind; behind = left })
        → front_taken p None number all ≡ with_line found (front_taken p None behind left)
    line_on next e found behind left read =
        then_on
        ∙ ap
        (λ (n : ℕ). then_read (line_behind p (line_of l) (sets_of (line_of l)) n lines) (go_on p))
        (sym e)
        ∙ ap (λ (r : Result (Taken HeadLine) Fault). then_read r (go_on p)) read

-- ---- lines that were read, and what is still read after them

abbrev pub before : List HeadLine → Reading → Reading
before front (Ok t) = Ok (record { what = front ++ t.what; number = t.number; behind = t.behind })
before front (Err fault) = Err fault

abbrev all_before : List HeadLine → ℕ → List Line → Reading
all_before front number lines = Ok (record { what = front; number = number; behind = lines })

none_before : (r : Reading) → before [] r ≡ r
none_before (Ok t) = refl
none_before (Err fault) = refl

pub nothing_before : (front : List HeadLine) (r : Reading) → front ≡ [] → before front r ≡ r
nothing_before front r e = ap (λ (ls : List HeadLine). before ls r) e ∙ none_before r

pub lines_last : (ls : List values.HeadLine) (l : values.HeadLine)
    → lines_of (ls ++ l ∷ []) ≡ lines_of ls ++ line_of l ∷ []
lines_last [] l = refl
lines_last (k ∷ ls) l = ap (λ (hs : List HeadLine). line_of k ∷ hs) (lines_last ls l)

one_more : (front : List HeadLine) (l : HeadLine) (r : Reading)
    → before front (with_line l r) ≡ before (front ++ l ∷ []) r
one_more front l (Ok t) =
    ap (λ (ls : List HeadLine). all_before ls t.number t.behind)
    (sym (append_assoc front (l ∷ []) t.what))
one_more front l (Err fault) = refl

pub more_before : (front now : List HeadLine) (l : HeadLine) (left next whole : Reading)
    → before front left ≡ whole → left ≡ with_line l next → now ≡ front ++ l ∷ []
    → before now next ≡ whole
more_before front now l left next whole leads e is =
    ap (λ (ls : List HeadLine). before ls next) is ∙ sym (one_more front l next)
    ∙ ap (before front) (sym e) ∙ leads

pub front_done : (front : List HeadLine) (number : ℕ) (lines : List Line) (left whole : Reading)
    → before front left ≡ whole → left ≡ Ok (record { what = []; number = number; behind = lines })
    → whole ≡ Ok (record { what = front; number = number; behind = lines })
front_done front number lines left whole leads e =
    sym leads ∙ ap (before front) e
    ∙ ap (λ (ls : List HeadLine). all_before ls number lines) (append-nil front)

pub front_told : (front : List HeadLine) (left whole : Reading) (fault : TextFault TreeKind)
    → before front left ≡ whole → Tells left fault → Tells whole fault
front_told front left whole faults.Memory leads told = tt
front_told front left whole (faults.At number kind) leads told =
    sym leads ∙ ap (before front) told
