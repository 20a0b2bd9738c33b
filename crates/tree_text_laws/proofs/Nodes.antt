-- The lines of a tree, both ways.
use Rattle.std.proofs.Common.{◌≡◌, ◌+◌, ◌<◌, ◌≤◌, ℕ, zero, suc, Bool, true, false, nat_lt, List, []}
use Rattle.std.proofs.Common.{◌∷◌, ◌++◌, length, map, Option, Some, None, Result, Ok, Err, refl}
use Rattle.std.proofs.Common.{sym, ◌∙◌, ap, ap₂, subst, append_assoc, append-nil, length-append}
use Rattle.std.proofs.Common.{arith, ltb-true, lt-ltb, if◌then◌else◌}
use Rattle.std.proofs.lemmas.List.{map-append, length-map}
use Rattle.tree_text_rules.specs.problem_rules.Each.{Each}
use Rattle.tree_text_rules.specs.problem_rules.Problem.{Problem}
use Rattle.tree_text_rules.specs.problem_rules.WellFormed.{IsWellFormed}
use Rattle.tree_text_rules.specs.pns_rules.Nodes as nodes
use Rattle.tree_text_rules.specs.flow_rules.Cover.{Cover}
use Rattle.tree_text_rules.specs.flow_rules.ChargeLeaf.{Handed}
use Rattle.tree_text_rules.specs.tree_rules.Tree as trees
use Rattle.tree_text_rules.specs.tree_rules.Leaf as leaves
use Rattle.tree_text_rules.specs.tree_rules.Accepted.{Tree}
use Rattle.text_laws.proofs.Cited.{each-append}
use Rattle.tree_text_rules.specs.tree_rules.Known.{AreUnits, KnowsStep, KnowsCover, KnowsCharge}
use Rattle.tree_text_rules.specs.tree_rules.Known.{KnowsEnd}
use Rattle.tree_text_rules.specs.tree_rules.Known.{KnowsNode, KnowsTree}
use Rattle.tree_text_rules.specs.Line.{Token, Line}
use Rattle.tree_text_rules.specs.LineRead.{step_read, end_line_read, cover_read, next_cover}
use Rattle.tree_text_rules.specs.LineRead.{option_read, root_read}
use Rattle.tree_text_rules.specs.Read.{Fault, Taken, Head, with_step, with_end, with_covers}
use Rattle.tree_text_rules.specs.Read.{charge_end, charge_of, with_node, Begun, between, at_steps}
use Rattle.tree_text_rules.specs.Read.{at_covers, at_option, on_line, nodes_taken, tree_taken}
use Rattle.tree_text_rules.specs.Spelling.{step_line, end_line, cover_line, covers_in}
use Rattle.tree_text_rules.specs.Spelling.{end_with_sets, option_line, node_lines, tree_lines}
use Rattle.tree_text_rules.specs.declared.TreeKind.{TreeKind}
use Rattle.tree_text_laws.specs.LineFits.{CountsEnd, FitsEnd, FitsEndLine}
use Rattle.tree_text_laws.specs.Fits.{CountsTree, FitsTree}
use Rattle.tree_text_laws.proofs.NodeLines.{step_back, step_again, step_line_tokens, end_lines}
use Rattle.tree_text_laws.proofs.NodeLines.{end_line_tokens, end_no_step, set_back, set_again}
use Rattle.tree_text_laws.proofs.NodeLines.{set_line_tokens, option_lines, option_no_set, root_back}
use Rattle.tree_text_laws.proofs.NodeLines.{root_again}
use Rattle.tree_text_laws.proofs.PartTexts.{good_is, on_line_ok}
use Rattle.tree_text_laws.specs.Codes.{line_of, IsToken}
use Rattle.tree_text_laws.specs.Lines.{BeginsNoSet}

abbrev TreeNode : Type 0
TreeNode = trees.TreeNode leaves.Leaf

abbrev End : Type 0
End = trees.End leaves.Leaf

with_node_ok : (t : TreeNode) (r : Result (Taken Tree) Fault) (q : Taken Tree)
    → with_node t r ≡ Ok q → (m : Taken Tree) × (r ≡ Ok m)
    × (record { what = t ∷ m.what; number = m.number; behind = m.behind } ≡ q)
with_node_ok t (Ok m) q e =
    (m, refl, good_is (record { what = t ∷ m.what; number = m.number; behind = m.behind }) q e)
with_node_ok t (Err f) q e = absurd cc

-- the lines of nodes, of steps and of sets before others
abbrev nodes_then : Problem → Tree → List Line → List Line
nodes_then p ts behind = map line_of (tree_lines p ts) ++ behind

abbrev steps_then : Problem → List nodes.Step → List Line → List Line
steps_then p ss behind = map line_of (map (step_line p) ss) ++ behind

abbrev sets_then : Problem → List Cover → List Line → List Line
sets_then p cs behind = map line_of (map (cover_line p) cs) ++ behind

-- the line of an end, and then lines after it
abbrev end_then : Problem → End → List Line → List Line
end_then p x behind = line_of (end_line p x) ∷ behind

-- the lines of a whole end before others
abbrev ends_then : Problem → End → List Line → List Line
ends_then p x behind = end_then p x (sets_then p (covers_in x) behind)

pub nodes_next : (p : Problem) (t : TreeNode) (ts : Tree) (behind : List Line)
    → nodes_then p (t ∷ ts) behind ≡ line_of (option_line p t.option)
    ∷ steps_then p t.steps (ends_then p t.end (nodes_then p ts behind))
nodes_next p t ts behind =
    let steps : List (List Token) = map (step_line p) t.steps in
    let last : List (List Token) = end_with_sets p t.end in
    let sets : List (List Token) = map (cover_line p) (covers_in t.end) in
    let rest : List (List Token) = tree_lines p ts in
    ap (λ (ls : List (List Token)). map line_of (option_line p t.option ∷ ls) ++ behind)
    (append_assoc steps last rest)
    ∙ ap (λ (ls : List Line). line_of (option_line p t.option) ∷ (ls ++ behind))
    (map-append line_of steps (last ++ rest))
    ∙ ap (λ (ls : List Line). line_of (option_line p t.option) ∷ ls)
    (append_assoc (map line_of steps) (map line_of (last ++ rest)) behind)
    ∙ ap (λ (ls : List Line). line_of (option_line p t.option)
    ∷ (map line_of steps ++ (line_of (end_line p t.end) ∷ (ls ++ behind))))
    (map-append line_of sets rest)
    ∙ ap (λ (ls : List Line). line_of (option_line p t.option)
    ∷ (map line_of steps ++ (line_of (end_line p t.end) ∷ ls)))
    (append_assoc (map line_of sets) (map line_of rest) behind)

-- ---- the charge of an end

pub charge_is : (x : End) (c : Handed) → charge_of x ≡ Some c → x ≡ charge_end c
charge_is (trees.branch w) c e = absurd cc
charge_is (trees.leaf (leaves.dead x)) c e = absurd cc
charge_is (trees.leaf (leaves.clash k)) c e = absurd cc
charge_is (trees.leaf (leaves.refuted ys)) c e = absurd cc
charge_is (trees.leaf (leaves.bounded d ys)) c e = absurd cc
charge_is (trees.leaf (leaves.charged h)) c e =
    let shown : Some h ≡ Some c = e in
    let same : h ≡ c = cc in
    ap charge_end same
charge_is (trees.leaf (leaves.untried low)) c e = absurd cc

pub no_covers : (x : End) → charge_of x ≡ None → covers_in x ≡ []
no_covers (trees.branch w) e = refl
no_covers (trees.leaf (leaves.dead x)) e = refl
no_covers (trees.leaf (leaves.clash k)) e = refl
no_covers (trees.leaf (leaves.refuted ys)) e = refl
no_covers (trees.leaf (leaves.bounded d ys)) e = refl
no_covers (trees.leaf (leaves.charged h)) e = absurd cc
no_covers (trees.leaf (leaves.untried low)) e = refl

-- ---- whether one more set may come

at_next : (p : Problem) (line : Line) (b : Bool) (r : Result Cover TreeKind)
    → (if b then cover_read p line else None) ≡ Some r → (b ≡ true) × (cover_read p line ≡ Some r)
at_next p line true r e = (refl, e)
at_next p line false r e = absurd cc

pub next_is : (p : Problem) (cs : List Cover) (line : Line) (r : Result Cover TreeKind)
    → next_cover p cs line ≡ Some r → (length cs < 1000000) × (cover_read p line ≡ Some r)
next_is p cs line r e =
    let n = at_next p line (nat_lt (length cs) 1000000) r e in
    (ltb-true (length cs) 1000000 n.0, n.1)

pub next_again : (p : Problem) (cs : List Cover) (line : Line) (r : Result Cover TreeKind)
    → length cs < 1000000 → cover_read p line ≡ Some r → next_cover p cs line ≡ Some r
next_again p cs line r lt e =
    ap (λ (b : Bool). if b then cover_read p line else None) (lt-ltb (length cs) 1000000 lt) ∙ e

at_none : (p : Problem) (line : Line) (b : Bool) → cover_read p line ≡ None
    → (if b then cover_read p line else None) ≡ None
at_none p line true e = e
at_none p line false e = refl

pub next_none : (p : Problem) (cs : List Cover) (line : Line) → cover_read p line ≡ None
    → next_cover p cs line ≡ None
next_none p cs line e = at_none p line (nat_lt (length cs) 1000000) e

-- the number of the next line, if each line counts one
pub counted_so : (number : ℕ) (said : List (List Token)) (lines : List Line) (n : ℕ)
    (behind : List Line) → n + length behind ≡ number + length lines
    → lines ≡ map line_of said ++ behind → n ≡ number + length said
counted_so number said lines n behind counted are =
    let all : length lines ≡ length (map line_of said) + length behind =
    ap length are ∙ length-append (map line_of said) behind in
    let size : length (map line_of said) ≡ length said = length-map said line_of in
    omega (arith, counted, all, size)

module _ (p : Problem) (formed : IsWellFormed p) where
  abbrev Fit : TreeNode → Type 0
  Fit t = KnowsNode p t × CountsEnd t.end

  -- lines that are those of count subtrees, and what follows them
  record Took (count number : ℕ) (lines : List Line) (r : Taken Tree) : Type 0 where
    counted : r.number + length r.behind ≡ number + length lines
    lines_are : lines ≡ nodes_then p r.what r.behind
    whole : trees.IsForest count r.what
    fit : Each Fit r.what

  -- the same after a node's first lines
  record TookMore (h : Head) (count number : ℕ) (lines : List Line) (r : Taken Tree) : Type 0 where
    counted : r.number + length r.behind ≡ number + length lines
    steps : List nodes.Step
    end : End
    others : Tree
    what_is : r.what ≡ record { option = h.option; steps = h.steps ++ steps; end = end } ∷ others
    lines_are : lines ≡ steps_then p steps (ends_then p end (nodes_then p others r.behind))
    whole : trees.IsForest (trees.children end + count) others
    steps_fit : Each (KnowsStep p) steps
    end_fits : FitsEnd p end
    fit : Each Fit others

  -- and after the line of a node's charge and some of its sets
  record TookSets (h : Head) (c : Handed) (count number : ℕ) (lines : List Line)
      (r : Taken Tree) : Type 0 where
    counted : r.number + length r.behind ≡ number + length lines
    covers : List Cover
    others : Tree
    what_is : r.what ≡ record {
      option = h.option;
      steps = h.steps;
      end =
          charge_end (with_covers c (c.covers ++ covers));
    } ∷ others
    lines_are : lines ≡ sets_then p covers (nodes_then p others r.behind)
    whole : trees.IsForest count others
    known : Each (KnowsCover p) covers
    few : length c.covers ≤ 1000000 → length (c.covers ++ covers) ≤ 1000000
    fit : Each Fit others

  abbrev Tooks : Begun → ℕ → ℕ → List Line → Taken Tree → Type 0
  Tooks between count number lines r = Took count number lines r
  Tooks (at_steps h) count number lines r = TookMore h count number lines r
  Tooks (at_covers h c) count number lines r = TookSets h c count number lines r

  -- after a node's line
  took_node : (count number : ℕ) (line : Line) (lines : List Line) (us : List ℕ) (r : Taken Tree)
      → line ≡ line_of (option_line p us) → AreUnits p us
      → TookMore (record { option = us; steps = [] }) count (suc number) lines r
      → Took (suc count) number (line ∷ lines) r
  took_node count number line lines us r e set t =
      let node : TreeNode = record { option = us; steps = t.steps; end = t.end } in
      let known : KnowsNode p node =
      record { option = set; steps = t.steps_fit; end = t.end_fits.known } in
      record {
        counted = omega (arith, t.counted);
        lines_are = ap₂ (λ (a : Line) (b : List Line). a ∷ b) e t.lines_are
            ∙ sym (nodes_next p node t.others r.behind)
            ∙ ap (λ (ts : Tree). nodes_then p ts r.behind) (sym t.what_is);
        whole =
            subst (λ (ts : Tree). trees.IsForest (suc count) ts) (sym t.what_is)
            (t.end_fits.some, t.whole);
        fit =
            subst (λ (ts : Tree). Each Fit ts) (sym t.what_is) ((known, t.end_fits.counted), t.fit);
      }

  took_step : (h : Head) (count number : ℕ) (line : Line) (lines : List Line) (s : nodes.Step)
      (r : Taken Tree) → line ≡ line_of (step_line p s) → KnowsStep p s
      → TookMore (with_step h s) count (suc number) lines r
      → TookMore h count number (line ∷ lines) r
  took_step h count number line lines s r e known t = record {
    counted = omega (arith, t.counted);
    steps = s ∷ t.steps;
    end = t.end;
    others = t.others;
    what_is = t.what_is
        ∙ ap (λ (ss : List nodes.Step). let n : TreeNode =
        record { option = h.option; steps = ss; end = t.end } in n ∷ t.others)
        (append_assoc h.steps (s ∷ []) t.steps);
    lines_are = ap₂ (λ (a : Line) (b : List Line). a ∷ b) e t.lines_are;
    whole = t.whole;
    steps_fit = (known, t.steps_fit);
    end_fits = t.end_fits;
    fit = t.fit;
  }

  took_end : (h : Head) (count number : ℕ) (line : Line) (lines : List Line) (x : End)
      (m r : Taken Tree) → line ≡ line_of (end_line p x) → FitsEndLine p x
      → Took (trees.children x + count) (suc number) lines m
      → record { what = with_end h x ∷ m.what; number = m.number; behind = m.behind } ≡ r
      → TookMore h count number (line ∷ lines) r
  took_end h count number line lines x m r e fits t is =
      subst (λ (q : Taken Tree). TookMore h count number (line ∷ lines) q) is record {
        counted = omega (arith, t.counted);
        steps = [];
        end = x;
        others = m.what;
        what_is =
            ap (λ (ss : List nodes.Step). let n : TreeNode =
            record { option = h.option; steps = ss; end = x } in n ∷ m.what)
            (sym (append-nil h.steps));
        lines_are = ap₂ (λ (a : Line) (b : List Line). a ∷ b) e t.lines_are
            ∙ ap (λ (cs : List Cover). end_then p x (sets_then p cs (nodes_then p m.what m.behind)))
            (sym fits.bare);
        whole = t.whole;
        steps_fit = tt;
        end_fits = fits.fits;
        fit = t.fit;
      }

  -- after the line of a charge
  took_charge : (h : Head) (count number : ℕ) (line : Line) (lines : List Line) (x : End)
      (c : Handed) (r : Taken Tree) → line ≡ line_of (end_line p x) → FitsEndLine p x
      → charge_of x ≡ Some c
      → TookSets h c count (suc number) lines r → TookMore h count number (line ∷ lines) r
  took_charge h count number line lines x c r e fits is_charge t =
      let is : x ≡ charge_end c = charge_is x c is_charge in
      let bare : c.covers ≡ [] = subst (λ (y : End). covers_in y ≡ []) is fits.bare in
      let known : KnowsCharge p c = subst (λ (y : End). KnowsEnd p y) is fits.fits.known in
      let all : t.covers ≡ c.covers ++ t.covers =
      ap (λ (cs : List Cover). cs ++ t.covers) (sym bare) in
      let no_child : count ≡ 0 + count = omega arith in
      record {
        counted = omega (arith, t.counted);
        steps = [];
        end = charge_end (with_covers c (c.covers ++ t.covers));
        others = t.others;
        what_is = t.what_is
            ∙ ap (λ (ss : List nodes.Step). let n : TreeNode =
            record {
              option = h.option;
              steps = ss;
              end =
                  charge_end (with_covers c (c.covers ++ t.covers));
            } in n ∷ t.others)
            (sym (append-nil h.steps));
        lines_are =
            ap₂ (λ (a : Line) (b : List Line). a ∷ b)
            (e ∙ ap (λ (y : End). line_of (end_line p y)) is) t.lines_are
            ∙ ap
            (λ (cs : List Cover). end_then p (charge_end c)
            (sets_then p cs (nodes_then p t.others r.behind))) all;
        whole = subst (λ (n : ℕ). trees.IsForest n t.others) no_child t.whole;
        steps_fit = tt;
        end_fits = record {
          known = record {
            scale = known.scale;
            multipliers = known.multipliers;
            few = t.few known.few;
            covers = subst (λ (cs : List Cover). Each (KnowsCover p) cs) all t.known;
          };
          some = tt;
          counted = tt;
        };
        fit = t.fit;
      }

  took_set : (h : Head) (c : Handed) (count number : ℕ) (line : Line) (lines : List Line)
      (s : Cover) (r : Taken Tree) → line ≡ line_of (cover_line p s) → KnowsCover p s
      → length c.covers < 1000000
      → TookSets h (with_covers c (c.covers ++ s ∷ [])) count (suc number) lines r
      → TookSets h c count number (line ∷ lines) r
  took_set h c count number line lines s r e known lt t =
      let one_more : length (c.covers ++ s ∷ []) ≡ length c.covers + 1 =
      length-append c.covers (s ∷ []) in
      record {
        counted = omega (arith, t.counted);
        covers = s ∷ t.covers;
        others = t.others;
        what_is = t.what_is
            ∙ ap (λ (cs : List Cover). let n : TreeNode =
            record { option = h.option; steps = h.steps; end = charge_end (with_covers c cs) } in
            n ∷ t.others) (append_assoc c.covers (s ∷ []) t.covers);
        lines_are = ap₂ (λ (a : Line) (b : List Line). a ∷ b) e t.lines_are;
        whole = t.whole;
        known = (known, t.known);
        few =
            λ le. subst (λ (cs : List Cover). length cs ≤ 1000000)
            (append_assoc c.covers (s ∷ []) t.covers) (t.few (omega (arith, one_more, lt)));
        fit = t.fit;
      }

  -- where no set follows
  took_closed : (h : Head) (c : Handed) (count number : ℕ) (lines : List Line) (m r : Taken Tree)
      → Took count number lines m
      → record { what = with_end h (charge_end c) ∷ m.what; number = m.number; behind = m.behind }
      ≡ r → TookSets h c count number lines r
  took_closed h c count number lines m r t is =
      subst (λ (q : Taken Tree). TookSets h c count number lines q) is record {
        counted = t.counted;
        covers = [];
        others = m.what;
        what_is =
            ap (λ (cs : List Cover). let n : TreeNode =
            record { option = h.option; steps = h.steps; end = charge_end (with_covers c cs) } in
            n ∷ m.what) (sym (append-nil c.covers));
        lines_are = t.lines_are;
        whole = t.whole;
        known = tt;
        few = λ le. subst (λ (cs : List Cover). length cs ≤ 1000000) (sym (append-nil c.covers)) le;
        fit = t.fit;
      }

  -- what is read after the line of an end
  abbrev on_end : Head → ℕ → ℕ → List Line → End → Option Handed → Result (Taken Tree) Fault
  on_end h count number lines end o = elim o [
    | Some c ↦ nodes_taken p (at_covers h c) count number lines
    | None
        ↦ with_node (with_end h end)
        (nodes_taken p between (trees.children end + count) number lines)
  ]

  -- what is read of a line after a head, and goes on with the lines after it
  abbrev goes_on : Head → ℕ → ℕ → Line → List Line → Option (Result nodes.Step TreeKind)
      → Result (Taken Tree) Fault
  goes_on h count number line lines o = elim o [
    | Some read
        ↦ on_line number read
        (λ step. nodes_taken p (at_steps (with_step h step)) count (suc number) lines)
    | None ↦ on_line number (end_line_read p line)
        (λ end. on_end h count (suc number) lines end (charge_of end))
  ]

  -- what is known of the lines that follow
  abbrev Follow : ℕ → List Line → Type 0
  Follow number lines = (g : Begun) (j : ℕ) (q : Taken Tree) → nodes_taken p g j number lines ≡ Ok q
      → Tooks g j number lines q

  took_at : (h : Head) (count number : ℕ) (line : Line) (lines : List Line) (r : Taken Tree)
      (x : End) (o : Option Handed) → charge_of x ≡ o → line ≡ line_of (end_line p x)
      → FitsEndLine p x
      → Follow (suc number) lines → on_end h count (suc number) lines x o ≡ Ok r
      → TookMore h count number (line ∷ lines) r
  took_at h count number line lines r x (Some c) is e fits later f =
      took_charge h count number line lines x c r e fits is (later (at_covers h c) count r f)
  took_at h count number line lines r x None is e fits later f =
      let w =
      with_node_ok (with_end h x)
      (nodes_taken p between (trees.children x + count) (suc number) lines) r f in
      took_end h count number line lines x w.0 r e fits
      (later between (trees.children x + count) w.0 w.1) w.2

  took_part : (h : Head) (count number : ℕ) (line : Line) (lines : List Line) (r : Taken Tree)
      (o : Option (Result nodes.Step TreeKind)) → step_read p line ≡ o
      → Follow (suc number) lines → goes_on h count number line lines o ≡ Ok r
      → TookMore h count number (line ∷ lines) r
  took_part h count number line lines r (Some read) is later e =
      let o =
      on_line_ok number read
      (λ step. nodes_taken p (at_steps (with_step h step)) count (suc number) lines) r e in
      let s =
      step_back p formed line o.0 (is ∙ ap (λ (x : Result nodes.Step TreeKind). Some x) o.1) in
      took_step h count number line lines o.0 r s.0 s.1
      (later (at_steps (with_step h o.0)) count r o.2)
  took_part h count number line lines r None is later e =
      let o =
      on_line_ok number (end_line_read p line)
      (λ end. on_end h count (suc number) lines end (charge_of end)) r e in
      let s = (end_lines p formed).back line o.0 o.1 in
      took_at h count number line lines r o.0 (charge_of o.0) refl s.0 s.1 later o.2

  -- what is read of a line after a charge; `close` is what is read if no set follows
  abbrev on_set : Head → Handed → ℕ → ℕ → List Line → Result (Taken Tree) Fault
      → Option (Result Cover TreeKind) → Result (Taken Tree) Fault
  on_set h c count number lines close o = elim o [
    | Some read
        ↦ on_line number read
        (λ cover. nodes_taken p (at_covers h (with_covers c (c.covers ++ cover ∷ []))) count
        (suc number) lines)
    | None ↦ with_node (with_end h (charge_end c)) close
  ]

  took_by : (h : Head) (c : Handed) (count number : ℕ) (line : Line) (lines : List Line)
      (r : Taken Tree) (close : Result (Taken Tree) Fault) (o : Option (Result Cover TreeKind))
      → next_cover p c.covers line ≡ o
      → Follow (suc number) lines
      → ((m : Taken Tree) → close ≡ Ok m → Took count number (line ∷ lines) m)
      → on_set h c count number lines close o ≡ Ok r
      → TookSets h c count number (line ∷ lines) r
  took_by h c count number line lines r close (Some read) is later closed e =
      let o =
      on_line_ok number read
      (λ cover. nodes_taken p (at_covers h (with_covers c (c.covers ++ cover ∷ []))) count
      (suc number) lines) r e in
      let n = next_is p c.covers line read is in
      let s = set_back p formed line o.0 (n.1 ∙ ap (λ (x : Result Cover TreeKind). Some x) o.1) in
      took_set h c count number line lines o.0 r s.0 s.1 n.0
      (later (at_covers h (with_covers c (c.covers ++ o.0 ∷ []))) count r o.2)
  took_by h c count number line lines r close None is later closed e =
      let w = with_node_ok (with_end h (charge_end c)) close r e in
      took_closed h c count number (line ∷ lines) w.0 r (closed w.0 w.1) w.2

  nothing_more : (number : ℕ) (lines : List Line) (r : Taken Tree)
      → ◌≡◌ {A = Result (Taken Tree) Fault}
      (Ok (record { what = []; number = number; behind = lines })) (Ok r) → Took zero number lines r
  nothing_more number lines r e =
      let t : Taken Tree = record { what = []; number = number; behind = lines } in
      subst (λ (m : Taken Tree). Took zero number lines m) (good_is t r e)
      record { counted = refl; lines_are = refl; whole = tt; fit = tt }

  next_node : (number count : ℕ) (line : Line) (lines : List Line) (r : Taken Tree)
      → Follow (suc number) lines
      → on_line number (option_read p line)
      (λ option. nodes_taken p (at_option option) count (suc number) lines) ≡ Ok r
      → Took (suc count) number (line ∷ lines) r
  next_node number count line lines r later e =
      let o =
      on_line_ok number (option_read p line)
      (λ option. nodes_taken p (at_option option) count (suc number) lines) r e in
      let b = (option_lines p formed).back line o.0 o.1 in
      took_node count number line lines o.0 r b.0 b.1 (later (at_option o.0) count r o.2)

  nodes_back : (number : ℕ) (g : Begun) (count : ℕ) (lines : List Line) (r : Taken Tree)
      → nodes_taken p g count number lines ≡ Ok r → Tooks g count number lines r
  unfolding nodes_taken
  nodes_back number between zero lines r e = nothing_more number lines r e
  nodes_back number between (suc count) [] r e = absurd cc
  nodes_back number between (suc count) (line ∷ lines) r e =
      next_node number count line lines r (λ g j q d. nodes_back (suc number) g j lines q d) e
  nodes_back number (at_steps h) count [] r e = absurd cc
  nodes_back number (at_steps h) count (line ∷ lines) r e =
      took_part h count number line lines r (step_read p line) refl
      (λ g j q d. nodes_back (suc number) g j lines q d) e
  nodes_back number (at_covers h c) zero [] r e =
      let w =
      with_node_ok (with_end h (charge_end c))
      (Ok (record { what = []; number = number; behind = [] })) r e in
      took_closed h c zero number [] w.0 r (nothing_more number [] w.0 w.1) w.2
  nodes_back number (at_covers h c) (suc count) [] r e = absurd cc
  nodes_back number (at_covers h c) zero (line ∷ lines) r e =
      took_by h c zero number line lines r
      (Ok (record { what = []; number = number; behind = line ∷ lines }))
      (next_cover p c.covers line) refl (λ g j q d. nodes_back (suc number) g j lines q d)
      (λ m f. nothing_more number (line ∷ lines) m f) e
  nodes_back number (at_covers h c) (suc count) (line ∷ lines) r e =
      took_by h c (suc count) number line lines r
      (on_line number (option_read p line)
      (λ option. nodes_taken p (at_option option) count (suc number) lines))
      (next_cover p c.covers line) refl
      (λ g j q d. nodes_back (suc number) g j lines q d)
      (λ m f. next_node number count line lines m (λ g j q d. nodes_back (suc number) g j lines q d)
      f) e

  -- ---- what fits is read

  -- the number of the line after steps, after sets, and after nodes
  abbrev pub behind_steps : ℕ → List nodes.Step → ℕ
  behind_steps number [] = number
  behind_steps number (s ∷ ss) = behind_steps (suc number) ss

  abbrev pub behind_sets : ℕ → List Cover → ℕ
  behind_sets number [] = number
  behind_sets number (c ∷ cs) = behind_sets (suc number) cs

  abbrev pub behind_nodes : ℕ → Tree → ℕ
  behind_nodes number [] = number
  behind_nodes number (t ∷ ts) =
      behind_nodes (behind_sets (suc (behind_steps (suc number) t.steps)) (covers_in t.end)) ts

  -- no set follows, or one does
  closes : (number : ℕ) (h : Head) (c : Handed) (count : ℕ) (lines : List Line)
      → BeginsNoSet p lines
      → nodes_taken p (at_covers h c) count number lines
      ≡ with_node (with_end h (charge_end c)) (nodes_taken p between count number lines)
  unfolding nodes_taken
  closes number h c zero [] stops = refl
  closes number h c (suc count) [] stops = refl
  closes number h c zero (line ∷ lines) stops =
      ap (on_set h c zero number lines
      (Ok (record { what = []; number = number; behind = line ∷ lines })))
      (next_none p c.covers line stops)
  closes number h c (suc count) (line ∷ lines) stops =
      ap (on_set h c (suc count) number lines
      (on_line number (option_read p line)
      (λ option. nodes_taken p (at_option option) count (suc number) lines)))
      (next_none p c.covers line stops)

  one_set : (number : ℕ) (h : Head) (c : Handed) (count : ℕ) (line : Line) (lines : List Line)
      (s : Cover) → next_cover p c.covers line ≡ Some (Ok s)
      → nodes_taken p (at_covers h c) count number (line ∷ lines)
      ≡ nodes_taken p (at_covers h (with_covers c (c.covers ++ s ∷ []))) count (suc number)
      lines
  unfolding nodes_taken
  one_set number h c zero line lines s e =
      ap (on_set h c zero number lines
      (Ok (record { what = []; number = number; behind = line ∷ lines }))) e
  one_set number h c (suc count) line lines s e =
      ap (on_set h c (suc count) number lines
      (on_line number (option_read p line)
      (λ option. nodes_taken p (at_option option) count (suc number) lines))) e

  sets_again : (cs : List Cover) (number : ℕ) (h : Head) (c : Handed) (count : ℕ)
      (lines : List Line) → Each (KnowsCover p) cs → length (c.covers ++ cs) ≤ 1000000
      → BeginsNoSet p lines
      → nodes_taken p (at_covers h c) count number (sets_then p cs lines)
      ≡ with_node (with_end h (charge_end (with_covers c (c.covers ++ cs))))
      (nodes_taken p between count (behind_sets number cs) lines)
  sets_again [] number h c count lines known few stops =
      closes number h c count lines stops
      ∙ ap
      (λ (all : List Cover). with_node (with_end h (charge_end (with_covers c all)))
      (nodes_taken p between count number lines)) (sym (append-nil c.covers))
  sets_again (s ∷ cs) number h c count lines known few stops =
      let size : length (c.covers ++ s ∷ cs) ≡ length c.covers + suc (length cs) =
      length-append c.covers (s ∷ cs) in
      let lt : length c.covers < 1000000 = omega (arith, size, few) in
      let all : (c.covers ++ s ∷ []) ++ cs ≡ c.covers ++ s ∷ cs =
      append_assoc c.covers (s ∷ []) cs in
      one_set number h c count (line_of (cover_line p s)) (sets_then p cs lines) s
      (next_again p c.covers (line_of (cover_line p s)) (Ok s) lt
      (set_again p formed s known.0))
      ∙ sets_again cs (suc number) h (with_covers c (c.covers ++ s ∷ [])) count lines known.1
      (subst (λ (xs : List Cover). length xs ≤ 1000000) (sym all) few) stops
      ∙ ap
      (λ (xs : List Cover). with_node (with_end h (charge_end (with_covers c xs)))
      (nodes_taken p between count (behind_sets (suc number) cs) lines)) all

  first_step : (number : ℕ) (h : Head) (count : ℕ) (line : Line) (lines : List Line)
      → nodes_taken p (at_steps h) count number (line ∷ lines)
      ≡ goes_on h count number line lines (step_read p line)
  unfolding nodes_taken
  first_step number h count line lines = refl

  -- what is read of the lines of a whole end
  abbrev EndAgain : ℕ → Head → ℕ → End → List Line → Type 0
  EndAgain number h count x lines =
      nodes_taken p (at_steps h) count number (ends_then p x lines)
      ≡ with_node (with_end h x)
      (nodes_taken p between (trees.children x + count) (behind_sets (suc number) (covers_in x))
      lines)

  charge_again : (number : ℕ) (h : Head) (count : ℕ) (c : Handed) (lines : List Line)
      → FitsEnd p (charge_end c) → BeginsNoSet p lines
      → EndAgain number h count (charge_end c) lines
  charge_again number h count c lines fits stops =
      let line : Line = line_of (end_line p (charge_end c)) in
      let rest : List Line = sets_then p c.covers lines in
      let no_child : count ≡ 0 + count = omega arith in
      let bare : FitsEndLine p (charge_end (with_covers c [])) = record {
        fits =
            record {
              known =
                  record {
                    scale = fits.known.scale;
                    multipliers = fits.known.multipliers;
                    few =
                        omega arith;
                    covers = tt;
                  };
              some = tt;
              counted = tt;
            };
        bare = refl;
      } in
      first_step number h count line rest
      ∙ ap (goes_on h count number line rest) (end_no_step p formed (charge_end c) fits)
      ∙ ap
      (λ (r : Result End TreeKind). on_line number r
      (λ end. on_end h count (suc number) rest end (charge_of end)))
      ((end_lines p formed).again (charge_end (with_covers c [])) bare)
      ∙ sets_again c.covers (suc number) h (with_covers c []) count lines fits.known.covers
      fits.known.few stops
      ∙ ap
      (λ (n : ℕ). with_node (with_end h (charge_end c))
      (nodes_taken p between n (behind_sets (suc number) c.covers) lines)) no_child

  end_again : (number : ℕ) (h : Head) (count : ℕ) (x : End) (lines : List Line) (o : Option Handed)
      → charge_of x ≡ o → FitsEnd p x → BeginsNoSet p lines → EndAgain number h count x lines
  end_again number h count x lines None e fits stops =
      let line : Line = line_of (end_line p x) in
      let bare : covers_in x ≡ [] = no_covers x e in
      ap (λ (cs : List Cover). nodes_taken p (at_steps h) count number
      (end_then p x (sets_then p cs lines))) bare
      ∙ first_step number h count line lines
      ∙ ap (goes_on h count number line lines) (end_no_step p formed x fits)
      ∙ ap
      (λ (r : Result End TreeKind). on_line number r
      (λ end. on_end h count (suc number) lines end (charge_of end)))
      ((end_lines p formed).again x (record { fits = fits; bare = bare }))
      ∙ ap (on_end h count (suc number) lines x) e
      ∙ ap
      (λ (cs : List Cover). with_node (with_end h x)
      (nodes_taken p between (trees.children x + count) (behind_sets (suc number) cs) lines))
      (sym bare)
  end_again number h count x lines (Some c) e fits stops =
      let is : x ≡ charge_end c = charge_is x c e in
      subst (λ (y : End). EndAgain number h count y lines) (sym is)
      (charge_again number h count c lines (subst (λ (y : End). FitsEnd p y) is fits) stops)

  steps_again : (number : ℕ) (h : Head) (count : ℕ) (ss : List nodes.Step) (x : End)
      (lines : List Line) → Each (KnowsStep p) ss → FitsEnd p x → BeginsNoSet p lines
      → nodes_taken p (at_steps h) count number (steps_then p ss (ends_then p x lines))
      ≡ with_node (record { option = h.option; steps = h.steps ++ ss; end = x })
      (nodes_taken p between (trees.children x + count)
      (behind_sets (suc (behind_steps number ss)) (covers_in x)) lines)
  steps_again number h count [] x lines known fits stops =
      end_again number h count x lines (charge_of x) refl fits stops
      ∙ ap (λ (ss : List nodes.Step). let n : TreeNode =
      record { option = h.option; steps = ss; end = x } in
      with_node n
      (nodes_taken p between (trees.children x + count) (behind_sets (suc number) (covers_in x))
      lines)) (sym (append-nil h.steps))
  steps_again number h count (s ∷ ss) x lines known fits stops =
      first_step number h count (line_of (step_line p s)) (steps_then p ss (ends_then p x lines))
      ∙ ap
      (goes_on h count number (line_of (step_line p s)) (steps_then p ss (ends_then p x lines)))
      (step_again p formed s known.0)
      ∙ steps_again (suc number) (with_step h s) count ss x lines known.1 fits stops
      ∙ ap (λ (all : List nodes.Step). let n : TreeNode =
      record { option = h.option; steps = all; end = x } in
      with_node n
      (nodes_taken p between (trees.children x + count)
      (behind_sets (suc (behind_steps (suc number) ss)) (covers_in x)) lines))
      (append_assoc h.steps (s ∷ []) ss)

  -- the lines of nodes begin with no set
  begins : (ts : Tree) (behind : List Line) → Each Fit ts → BeginsNoSet p behind
      → BeginsNoSet p (nodes_then p ts behind)
  begins [] behind fit stops = stops
  begins (t ∷ ts) behind fit stops = option_no_set p formed t.option fit.0.0.option

  nodes_again : (number count : ℕ) (ts : Tree) (behind : List Line) → trees.IsForest count ts
      → Each Fit ts → BeginsNoSet p behind
      → nodes_taken p between count number (nodes_then p ts behind)
      ≡ Ok (record { what = ts; number = behind_nodes number ts; behind = behind })
  unfolding nodes_taken
  nodes_again number zero [] behind whole fit stops = refl
  nodes_again number zero (t ∷ ts) behind whole fit stops = absurd whole
  nodes_again number (suc count) [] behind whole fit stops = absurd whole
  nodes_again number (suc count) (t ∷ ts) behind whole fit stops =
      let known : KnowsNode p t = fit.0.0 in
      let end_fits : FitsEnd p t.end =
      record { known = known.end; some = whole.0; counted = fit.0.1 } in
      ap (nodes_taken p between (suc count) number) (nodes_next p t ts behind)
      ∙ ap
      (λ (r : Result (List ℕ) TreeKind). on_line number r
      (λ option. nodes_taken p (at_option option) count (suc number)
      (steps_then p t.steps (ends_then p t.end (nodes_then p ts behind)))))
      ((option_lines p formed).again t.option known.option)
      ∙ steps_again (suc number) (record { option = t.option; steps = [] }) count t.steps t.end
      (nodes_then p ts behind) known.steps end_fits (begins ts behind fit.1 stops)
      ∙ ap (with_node t)
      (nodes_again (behind_sets (suc (behind_steps (suc number) t.steps)) (covers_in t.end))
      (trees.children t.end + count) ts behind whole.1 fit.1 stops)

  -- ---- one whole tree

  abbrev pub behind_tree : ℕ → Tree → ℕ
  behind_tree number ts = behind_nodes number ts

  pub record TookTree (number : ℕ) (lines : List Line) (r : Taken Tree) : Type 0 where
    pub lines_are : lines ≡ map line_of (tree_lines p r.what) ++ r.behind
    pub number_is : r.number ≡ number + length (tree_lines p r.what)
    pub fits : FitsTree p r.what

  fit_known : (ts : Tree) → Each Fit ts → KnowsTree p ts × CountsTree ts
  fit_known [] fit = (tt, tt)
  fit_known (t ∷ ts) fit = let rest = fit_known ts fit.1 in ((fit.0.0, rest.0), (fit.0.1, rest.1))

  known_fit : (ts : Tree) → KnowsTree p ts → CountsTree ts → Each Fit ts
  known_fit [] known counted = tt
  known_fit (t ∷ ts) known counted = ((known.0, counted.0), known_fit ts known.1 counted.1)

  root_set : AreUnits p []
  root_set = record { rising = tt; below = tt }

  is_tree : (ts : Tree) (steps : List nodes.Step) (end : End) (others : Tree)
      → ts ≡ record { option = []; steps = steps; end = end } ∷ others → trees.IsForest 1 ts
      → trees.IsTree ts
  is_tree ts steps end others e whole =
      subst (λ (x : Tree). trees.IsTree x) (sym e)
      (refl, subst (λ (x : Tree). trees.IsForest 1 x) e whole)

  pub tree_back : (number : ℕ) (lines : List Line) (r : Taken Tree)
      → tree_taken p number lines ≡ Ok r → TookTree number lines r
  tree_back number [] r e = absurd cc
  tree_back number (line ∷ lines) r e =
      let o =
      on_line_ok number (root_read line)
      (λ option. nodes_taken p (at_option option) 0 (suc number) lines) r e in
      let b = root_back p formed line o.0 o.1 in
      let none : nodes_taken p (at_option []) 0 (suc number) lines ≡ Ok r =
      ap (λ (us : List ℕ). nodes_taken p (at_option us) 0 (suc number) lines) (sym b.1) ∙ o.2 in
      let more = nodes_back (suc number) (at_option []) 0 lines r none in
      let t = took_node 0 number line lines [] r b.0 root_set more in
      let k = fit_known r.what t.fit in
      record {
        lines_are = t.lines_are;
        number_is =
            counted_so number (tree_lines p r.what) (line ∷ lines) r.number r.behind t.counted
            t.lines_are;
        fits =
            record {
              whole = is_tree r.what more.steps more.end more.others more.what_is t.whole;
              known = k.0;
              counted = k.1;
            };
      }

  pub tree_again : (number : ℕ) (ts : Tree) (behind : List Line) → FitsTree p ts
      → BeginsNoSet p behind → tree_taken p number (map line_of (tree_lines p ts) ++ behind)
      ≡ Ok (record { what = ts; number = behind_tree number ts; behind = behind })
  tree_again number [] behind fits stops = absurd fits.whole
  tree_again number (t ∷ ts) behind fits stops =
      let root : t.option ≡ [] = fits.whole.0 in
      let whole : trees.IsForest 1 (t ∷ ts) = fits.whole.1 in
      let fit : Each Fit (t ∷ ts) = known_fit (t ∷ ts) fits.known fits.counted in
      let known : KnowsNode p t = fit.0.0 in
      let end_fits : FitsEnd p t.end =
      record { known = known.end; some = whole.0; counted = fit.0.1 } in
      let rest : List Line = steps_then p t.steps (ends_then p t.end (nodes_then p ts behind)) in
      let next : ℕ = behind_sets (suc (behind_steps (suc number) t.steps)) (covers_in t.end) in
      ap (tree_taken p number) (nodes_next p t ts behind)
      ∙ ap (λ (us : List ℕ). tree_taken p number (line_of (option_line p us) ∷ rest)) root
      ∙ ap
      (λ (r : Result (List ℕ) TreeKind). on_line number r
      (λ option. nodes_taken p (at_option option) 0 (suc number) rest)) (root_again p formed)
      ∙ steps_again (suc number) (record { option = []; steps = [] }) 0 t.steps t.end
      (nodes_then p ts behind) known.steps end_fits (begins ts behind fit.1 stops)
      ∙ ap (λ (us : List ℕ). let n : TreeNode =
      record { option = us; steps = t.steps; end = t.end } in
      with_node n
      (nodes_taken p between (trees.children t.end + 0) next (nodes_then p ts behind)))
      (sym root)
      ∙ ap (with_node t) (nodes_again next (trees.children t.end + 0) ts behind whole.1 fit.1 stops)

  -- ---- the tokens of a tree's lines

  steps_tokens : (ss : List nodes.Step) → Each (KnowsStep p) ss
      → Each (Each IsToken) (map (step_line p) ss)
  steps_tokens [] known = tt
  steps_tokens (s ∷ ss) known = (step_line_tokens p formed s known.0, steps_tokens ss known.1)

  sets_tokens : (cs : List Cover) → Each (KnowsCover p) cs
      → Each (Each IsToken) (map (cover_line p) cs)
  sets_tokens [] known = tt
  sets_tokens (c ∷ cs) known = (set_line_tokens p formed c known.0, sets_tokens cs known.1)

  covers_known : (x : End) → KnowsEnd p x → Each (KnowsCover p) (covers_in x)
  covers_known (trees.branch w) known = tt
  covers_known (trees.leaf (leaves.dead x)) known = tt
  covers_known (trees.leaf (leaves.clash k)) known = tt
  covers_known (trees.leaf (leaves.refuted ys)) known = tt
  covers_known (trees.leaf (leaves.bounded d ys)) known = tt
  covers_known (trees.leaf (leaves.charged h)) known = known.covers
  covers_known (trees.leaf (leaves.untried low)) known = tt

  forest_tokens : (count : ℕ) (ts : Tree) → trees.IsForest count ts → Each Fit ts
      → Each (Each IsToken) (tree_lines p ts)
  forest_tokens zero [] whole fit = tt
  forest_tokens zero (t ∷ ts) whole fit = absurd whole
  forest_tokens (suc count) [] whole fit = absurd whole
  forest_tokens (suc count) (t ∷ ts) whole fit =
      let known : KnowsNode p t = fit.0.0 in
      let end_fits : FitsEnd p t.end =
      record { known = known.end; some = whole.0; counted = fit.0.1 } in
      let last : Each (Each IsToken) (end_with_sets p t.end) = (
        end_line_tokens p formed t.end end_fits,
        sets_tokens (covers_in t.end) (covers_known t.end known.end),
      ) in
      each-append (Each IsToken) (node_lines p t) (tree_lines p ts) (
        (option_lines p formed).tokens t.option known.option,
        each-append (Each IsToken) (map (step_line p) t.steps) (end_with_sets p t.end)
            (steps_tokens t.steps known.steps) last,
      )
      (forest_tokens (trees.children t.end + count) ts whole.1 fit.1)

  one_forest : (ts : Tree) → trees.IsTree ts → trees.IsForest 1 ts
  one_forest [] whole = absurd whole
  one_forest (t ∷ ts) whole = whole.1

  pub tree_tokens : (ts : Tree) → FitsTree p ts → Each (Each IsToken) (tree_lines p ts)
  tree_tokens ts fits =
      forest_tokens 1 ts (one_forest ts fits.whole) (known_fit ts fits.known fits.counted)
