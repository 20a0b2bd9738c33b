-- A tree that is read node by node.
use Rattle.std.proofs.Common.{◌≡◌, ◌+◌, ◌-◌, ◌<◌, ℕ, zero, suc, List, [], ◌∷◌, ◌++◌, Option, Some}
use Rattle.std.proofs.Common.{None, Result, Ok, Err, refl, sym, ap, ◌∙◌, subst, arith, append_assoc}
use Rattle.std.proofs.Common.{append-nil, zero-add}
use Rattle.tree_text_rules.specs.problem_rules.Each.{Each}
use Rattle.tree_text_rules.specs.problem_rules.Problem.{Problem}
use Rattle.tree_text_rules.specs.pns_rules.Nodes.{Step}
use Rattle.tree_text_rules.specs.tree_rules.Tree as trees
use Rattle.tree_text_rules.specs.tree_rules.Leaf.{Leaf}
use Rattle.tree_text_rules.specs.tree_rules.Accepted.{Tree}
use Rattle.tree_text_rules.specs.Line.{Line}
use Rattle.tree_text_rules.specs.flow_rules.Cover.{Cover}
use Rattle.tree_text_rules.specs.flow_rules.ChargeLeaf.{Handed}
use Rattle.tree_text_rules.specs.LineRead.{step_read, end_line_read, next_cover, option_read}
use Rattle.tree_text_rules.specs.Read.{Fault, Taken, Head, with_step, with_end, with_covers}
use Rattle.tree_text_rules.specs.Read.{charge_end, charge_of, with_node, between, at_steps}
use Rattle.tree_text_rules.specs.Read.{at_covers, on_line, first_line, then_read, steps_taken}
use Rattle.tree_text_rules.specs.Read.{covers_taken, end_behind, end_taken, nodes_taken}
use Rattle.tree_text_rules.specs.declared.TreeKind.{TreeKind}
use Rattle.tree_reading.specs.Gives.{begun, IsNode}
use Rattle.tree_reading.specs.Place.{lines_at}
use Rattle.tree_reading.specs.Taken.{line_taken}
use Rattle.tree_reading.specs.declared.cut.Cut.{Cut}
use Rattle.text_lines.specs.Tells.{Tells}
use Rattle.text_lines.specs.declared.fault.TextFault.{TextFault}
use Rattle.text_lines.specs.declared.fault.TextFault.TheVariants as faults
use Rattle.tree_reading.proofs.FirstLines.{first_next, first_tells, then_tells}

abbrev pub TreeNode : Type 0
TreeNode = trees.TreeNode Leaf

abbrev pub Reading : Type 0
Reading = Result (Taken Tree) Fault

-- ---- one node

-- what follows a node's end
abbrev behind_end : Problem → ℕ → Head → trees.End Leaf → ℕ → List Line → Reading
behind_end p count head end number lines =
    with_node (with_end head end) (nodes_taken p between (trees.children end + count) number lines)

-- the end of a node after its steps, and then what follows the node
abbrev pub after_steps : Problem → ℕ → Head → ℕ → List Line → Reading
after_steps p count head number lines =
    then_read (end_taken p number lines) (behind_end p count head)

-- ---- the sets of a charge

abbrev covers_on : Problem → Head → Handed → ℕ → ℕ → List Line → Reading
covers_on p head h count number lines =
    then_read (covers_taken p h.covers number lines)
    (λ covers number lines. behind_end p count head (charge_end (with_covers h covers)) number
    lines)

at_cover : (p : Problem) (head : Head) (h : Handed) (count number : ℕ) (line : Line)
    (lines : List Line) (r : Option (Result Cover TreeKind)) (close : Reading)
    → close ≡ behind_end p count head (charge_end h) number (line ∷ lines)
    → ((h' : Handed) → nodes_taken p (at_covers head h') count (suc number) lines
    ≡ covers_on p head h' count (suc number) lines)
    → elim r [
      | Some read
          ↦ on_line number read
          (λ cover. nodes_taken p (at_covers head (with_covers h (h.covers ++ cover ∷ []))) count
          (suc number) lines)
      | None ↦ close
    ]
    ≡ then_read (elim r [
      | None ↦ Ok (record { what = h.covers; number = number; behind = line ∷ lines })
      | Some read
          ↦ on_line number read
          (λ cover. covers_taken p (h.covers ++ cover ∷ []) (suc number) lines)
    ]) (λ covers number lines. behind_end p count head (charge_end (with_covers h covers)) number
    lines)
at_cover p head h count number line lines None close closed later = closed
at_cover p head h count number line lines (Some (Ok cover)) close closed later =
    later (with_covers h (h.covers ++ cover ∷ []))
at_cover p head h count number line lines (Some (Err kind)) close closed later = refl

-- a charge has no children
closed : (p : Problem) (head : Head) (h : Handed) (count number : ℕ) (lines : List Line)
    → with_node (with_end head (charge_end h)) (nodes_taken p between count number lines)
    ≡ behind_end p count head (charge_end h) number lines
closed p head h count number lines =
    ap
    (λ (n : ℕ). with_node (with_end head (charge_end h)) (nodes_taken p between n number lines))
    (sym (zero-add count))

nodes_by_covers : (p : Problem) (head : Head) (h : Handed) (count number : ℕ) (lines : List Line)
    → nodes_taken p (at_covers head h) count number lines ≡ covers_on p head h count number lines
unfolding nodes_taken
nodes_by_covers p head h zero number [] = closed p head h zero number []
nodes_by_covers p head h (suc count) number [] = closed p head h (suc count) number []
nodes_by_covers p head h zero number (line ∷ lines) =
    at_cover p head h zero number line lines (next_cover p h.covers line)
    (with_node (with_end head (charge_end h)) (nodes_taken p between zero number (line ∷ lines)))
    (closed p head h zero number (line ∷ lines))
    (λ h'. nodes_by_covers p head h' zero (suc number) lines)
nodes_by_covers p head h (suc count) number (line ∷ lines) =
    at_cover p head h (suc count) number line lines (next_cover p h.covers line)
    (with_node (with_end head (charge_end h))
    (nodes_taken p between (suc count) number (line ∷ lines)))
    (closed p head h (suc count) number (line ∷ lines))
    (λ h'. nodes_by_covers p head h' (suc count) (suc number) lines)

-- ---- ends

abbrev on_end : Problem → ℕ → Head → trees.End Leaf → Option Handed → ℕ → List Line → Reading
on_end p count head end o number lines = elim o [
  | Some h ↦ nodes_taken p (at_covers head h) count number lines
  | None ↦ behind_end p count head end number lines
]

then_then : (r : Result (Taken (List Cover)) Fault) (h : Handed)
    (next : trees.End Leaf → ℕ → List Line → Reading)
    → then_read r (λ covers number lines. next (charge_end (with_covers h covers)) number lines)
    ≡ then_read
    (then_read r
    (λ covers number lines. Ok
    (record { what = charge_end (with_covers h covers); number = number; behind = lines })))
    next
then_then (Ok taken) h next = refl
then_then (Err fault) h next = refl

end_by_behind : (p : Problem) (count : ℕ) (head : Head) (end : trees.End Leaf) (o : Option Handed)
    (number : ℕ) (lines : List Line)
    → on_end p count head end o number lines
    ≡ then_read (end_behind p end o number lines) (behind_end p count head)
end_by_behind p count head end None number lines = refl
end_by_behind p count head end (Some h) number lines =
    nodes_by_covers p head h count number lines
    ∙ then_then (covers_taken p h.covers number lines) h (behind_end p count head)

at_end : (p : Problem) (count : ℕ) (head : Head) (number : ℕ) (lines : List Line)
    (r : Result (trees.End Leaf) TreeKind)
    → on_line number r (λ end. on_end p count head end (charge_of end) (suc number) lines)
    ≡ then_read (on_line number r (λ end. end_behind p end (charge_of end) (suc number) lines))
    (behind_end p count head)
at_end p count head number lines (Ok end) =
    end_by_behind p count head end (charge_of end) (suc number) lines
at_end p count head number lines (Err kind) = refl

-- ---- steps

at_line : (p : Problem) (head : Head) (count number : ℕ) (line : Line) (lines : List Line)
    (r : Option (Result Step TreeKind))
    → ((head' : Head) → nodes_taken p (at_steps head') count (suc number) lines
    ≡ then_read (steps_taken p head' (suc number) lines) (after_steps p count))
    → elim r [
      | Some read
          ↦ on_line number read
          (λ step. nodes_taken p (at_steps (with_step head step)) count (suc number) lines)
      | None ↦ on_line number (end_line_read p line)
          (λ end. on_end p count head end (charge_of end) (suc number) lines)
    ]
    ≡ then_read (elim r [
      | None ↦ Ok (record { what = head; number = number; behind = line ∷ lines })
      | Some read
          ↦ on_line number read (λ step. steps_taken p (with_step head step) (suc number) lines)
    ]) (after_steps p count)
at_line p head count number line lines None later =
    at_end p count head number lines (end_line_read p line)
at_line p head count number line lines (Some (Ok step)) later = later (with_step head step)
at_line p head count number line lines (Some (Err kind)) later = refl

nodes_by_steps : (p : Problem) (head : Head) (count number : ℕ) (lines : List Line)
    → nodes_taken p (at_steps head) count number lines
    ≡ then_read (steps_taken p head number lines) (after_steps p count)
unfolding nodes_taken
nodes_by_steps p head count number [] = refl
nodes_by_steps p head count number (line ∷ lines) =
    at_line p head count number line lines (step_read p line)
    (λ head'. nodes_by_steps p head' count (suc number) lines)

module _ (p : Problem) (option : List ℕ) (number : ℕ) (lines : List Line) (head : Head)
    (number' : ℕ) (lines' : List Line)
    (steps : steps_taken p (record { option = option; steps = [] }) number lines
    ≡ Ok (record { what = head; number = number'; behind = lines' })) (count : ℕ) where
  behind_steps : begun p option count number lines ≡ after_steps p count head number' lines'
  behind_steps = nodes_by_steps p (record { option = option; steps = [] }) count number lines
      ∙ ap (λ (r : Result (Taken Head) Fault). then_read r (after_steps p count)) steps

  pub node_read : (end : trees.End Leaf) (number'' : ℕ) (lines'' : List Line)
      → end_taken p number' lines' ≡ Ok (record { what = end; number = number''; behind = lines'' })
      → begun p option count number lines
      ≡ with_node (with_end head end)
      (nodes_taken p between (trees.children end + count) number'' lines'')
  node_read end number'' lines'' e =
      behind_steps
      ∙ ap
      (λ (r : Result (Taken (trees.End Leaf)) Fault). then_read r (behind_end p count head)) e

  pub end_told : (fault : TextFault TreeKind) → Tells (end_taken p number' lines') fault
      → Tells (begun p option count number lines) fault
  end_told fault h =
      subst (λ (r : Reading). Tells r fault) (sym behind_steps)
      (then_tells (end_taken p number' lines') (behind_end p count head) fault h)

pub steps_told : (p : Problem) (option : List ℕ) (number : ℕ) (lines : List Line) (count : ℕ)
    (fault : TextFault TreeKind)
    → Tells (steps_taken p (record { option = option; steps = [] }) number lines) fault
    → Tells (begun p option count number lines) fault
steps_told p option number lines count fault h =
    let head : Head = record { option = option; steps = [] } in
    subst (λ (r : Reading). Tells r fault) (sym (nodes_by_steps p head count number lines))
    (then_tells (steps_taken p head number lines) (after_steps p count) fault h)

-- ---- nodes that were read, and what is still read after them

abbrev pub with_front : Tree → Reading → Reading
with_front front (Ok t) =
    Ok (record { what = front ++ t.what; number = t.number; behind = t.behind })
with_front front (Err fault) = Err fault

front_tells : (front : Tree) (r : Reading) (fault : TextFault TreeKind) → Tells r fault
    → Tells (with_front front r) fault
front_tells front r faults.Memory h = tt
front_tells front r (faults.At line kind) h = ap (with_front front) h

regroup : (front : Tree) (t : TreeNode) (r : Reading)
    → with_front front (with_node t r) ≡ with_front (front ++ t ∷ []) r
regroup front t (Ok r) =
    ap (λ (ts : Tree). Ok (record { what = ts; number = r.number; behind = r.behind }))
    (sym (append_assoc front (t ∷ []) r.what))
regroup front t (Err f) = refl

-- The line of a node with this option was read after these nodes. What is still read leads to the
-- whole. This node and `count` subtrees after it make one tree of the nodes.
pub record IsBegun (p : Problem) (whole : Reading) (front : Tree) (option : List ℕ)
    (count number : ℕ) (lines : List Line) : Type 0 where
  pub leads : with_front front (begun p option count number lines) ≡ whole
  pub shape : (t : TreeNode) (ts : Tree) → t.option ≡ option → trees.IsForest (suc count) (t ∷ ts)
      → trees.IsTree (front ++ t ∷ ts)

-- After these nodes `count` subtrees are left.
pub record IsOpen (p : Problem) (whole : Reading) (front : Tree) (count number : ℕ)
    (lines : List Line) : Type 0 where
  pub leads : with_front front (nodes_taken p between count number lines) ≡ whole
  pub shape : (ts : Tree) → trees.IsForest count ts → trees.IsTree (front ++ ts)

pub nothing_before : (p : Problem) (front : Tree) (option : List ℕ) (number : ℕ) (lines : List Line)
    → front ≡ [] → option ≡ [] → IsBegun p (begun p [] 0 number lines) front option 0 number lines
nothing_before p front option number lines e f =
    subst (λ (c : Tree × List ℕ). IsBegun p (begun p [] 0 number lines) c.0 c.1 0 number lines)
    (λ i. (sym e i, sym f i))
    (record { leads = same (begun p [] 0 number lines); shape = λ t ts is forest. (is, forest) })
  where
    same : (r : Reading) → with_front [] r ≡ r
    same (Ok t) = refl
    same (Err fault) = refl

pub node_told : {p : Problem} {whole : Reading} {front : Tree} {option : List ℕ} {count number : ℕ}
    {lines : List Line} → IsBegun p whole front option count number lines
    → (fault : TextFault TreeKind) → Tells (begun p option count number lines) fault
    → Tells whole fault
node_told {p} {whole} {front} {option} {count} {number} {lines} is fault h =
    subst (λ (r : Reading). Tells r fault) is.leads
    (front_tells front (begun p option count number lines) fault h)

pub node_on : {p : Problem} {whole : Reading} {front nodes : Tree} {option bytes : List ℕ}
    {count more : ℕ} {cut : Cut} {found : TreeNode × Cut}
    → IsNode p option bytes cut found
    → IsBegun p whole front option count cut.line (lines_at bytes cut)
    → nodes ≡ front ++ found.0 ∷ [] → more ≡ trees.children found.0.end + count
    → IsOpen p whole nodes more found.1.line (lines_at bytes found.1)
node_on {p} {whole} {front} {nodes} {option} {bytes} {count} {more} {cut} {found} node is q q' =
    let t : TreeNode = found.0 in
    let number : ℕ = found.1.line in
    let lines : List Line = lines_at bytes found.1 in
    subst (λ (c : Tree × ℕ). IsOpen p whole c.0 c.1 number lines) (λ i. (sym q i, sym q' i))
    (record {
      leads =
          sym (regroup front t (nodes_taken p between (trees.children t.end + count) number lines))
          ∙ ap (with_front front) (sym (node.reads count)) ∙ is.leads;
      shape =
          λ ts forest. subst (λ (us : Tree). trees.IsTree us) (sym (append_assoc front (t ∷ []) ts))
          (is.shape t ts node.option_is (node.whole, forest));
    })

module _ {p : Problem} {whole : Reading} {front : Tree} {count number : ℕ} {lines : List Line}
    (is : IsOpen p whole front count number lines) where
  pub nodes_done : count ≡ 0 → whole ≡ Ok (record { what = front; number = number; behind = lines })
  unfolding nodes_taken
  nodes_done e =
      sym is.leads ∙ ap (λ (n : ℕ). with_front front (nodes_taken p between n number lines)) e
      ∙ ap (λ (ts : Tree). Ok (record { what = ts; number = number; behind = lines }))
      (append-nil front)

  pub nodes_tree : count ≡ 0 → trees.IsTree front
  nodes_tree e =
      subst (λ (ts : Tree). trees.IsTree ts) (append-nil front)
      (is.shape [] (subst (λ (n : ℕ). trees.IsForest {L = Leaf} n []) (sym e) tt))

  module _ (some : 0 < count) where
    one_more : suc (count - 1) ≡ count
    one_more = omega arith

    by_option : (lines : List Line)
        → nodes_taken p between (suc (count - 1)) number lines
        ≡ first_line (option_read p) number lines
        (λ option lines. begun p option (count - 1) (suc number) lines)
    unfolding nodes_taken
    by_option [] = refl
    by_option (line ∷ lines) = refl

    at_option : with_front front
        (first_line (option_read p) number lines
        (λ option lines. begun p option (count - 1) (suc number) lines)) ≡ whole
    at_option =
        ap (with_front front) (sym (by_option lines)
        ∙ ap (λ (n : ℕ). nodes_taken p between n number lines) one_more) ∙ is.leads

    pub option_told : (fault : TextFault TreeKind)
        → Tells (line_taken (option_read p) number lines) fault → Tells whole fault
    option_told fault h =
        let read : List ℕ → List Line → Reading =
        λ option lines. begun p option (count - 1) (suc number) lines in
        subst (λ (r : Reading). Tells r fault) at_option
        (front_tells front (first_line (option_read p) number lines read) fault
        (first_tells (option_read p) number lines read fault h))

    pub option_on : (option : List ℕ) (number' : ℕ) (lines' : List Line)
        → line_taken (option_read p) number lines
        ≡ Ok (record { what = option; number = number'; behind = lines' })
        → IsBegun p whole front option (count - 1) number' lines'
    option_on option number' lines' e = record {
      leads =
          ap (with_front front)
          (sym
          (first_next (option_read p) number lines
          (λ option number lines. begun p option (count - 1) number lines)
          (record { what = option; number = number'; behind = lines' }) e)) ∙ at_option;
      shape =
          λ t ts same forest. is.shape (t ∷ ts)
          (subst (λ (n : ℕ). trees.IsForest n (t ∷ ts)) one_more forest);
    }

pub each_last : {X : Type 0} (P : X → Type 0) (xs : List X) (x : X) → Each P xs → P x
    → Each P (xs ++ x ∷ [])
each_last P [] x all one = (one, tt)
each_last P (y ∷ ys) x all one = (all.0, each_last P ys x all.1 one)
