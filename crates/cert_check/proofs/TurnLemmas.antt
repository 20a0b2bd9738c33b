-- A turn of the walk: the node on top of the stack is that of the next item.
use Rattle.std.proofs.Common.{◌≡◌, ℕ, ◌+◌, ◌<◌, List, [], ◌∷◌, ◌++◌, length, map, drop, get_or}
use Rattle.std.proofs.Common.{refl, sym, ap, ◌∙◌, subst, add-one, arith, ◌≤◌, append_assoc}
use Rattle.std.proofs.lemmas.List.{append-nil, drop_all, reverse-append}
use Rattle.tree_text_rules.specs.pns_rules.Shape.{Shape}
use Rattle.tree_text_rules.specs.pns_rules.Nodes as rules
use Rattle.tree_text_rules.specs.tree_rules.declared.why.Why.{Why}
use Rattle.tree_text_rules.specs.tree_rules.Tree.{End, branch, leaf, TreeNode, Pass, below}
use Rattle.tree_text_rules.specs.tree_rules.Tree.{after_all}
use Rattle.tree_text_rules.specs.tree_rules.Fault.{NodeFails, IsFirstFault}
use Rattle.tree_text_rules.specs.tree_rules.Leaf.{Leaf, dead, clash, refuted, bounded, charged}
use Rattle.tree_text_rules.specs.tree_rules.Leaf.{untried}
use Rattle.tree_text_rules.specs.tree_rules.Accepted.{Tree}
use Rattle.charges.specs.unit_sets.declared.node.Node.{Node}
use Rattle.charges.specs.pgraph.View.{node_of}
use Rattle.cert_check.specs.Known.{KnowsInside}
use Rattle.cert_check.specs.Subtrees.{stack_of, AllKnown}
use Rattle.tree_text_rules.specs.OpenLeaves.{OpenAt, open_here, open_leaves}
use Rattle.cert_check.specs.OpenLeaves.{AllBefore, NoneBefore, AreThoseBefore, AreBefore}
use Rattle.cert_check.specs.Refusals.{NamesFault}
use Rattle.cert_check.specs.Visits.{IsVisited, Halts, refusal_at}
use Rattle.cert_check.specs.declared.visit.Halt.{Halt}
use Rattle.cert_check.specs.declared.visit.Halt.TheVariants.{Memory, Fails}
use Rattle.cert_check.proofs.EndLemmas.{node_ahead}
use Rattle.cert_check.proofs.KnownLemmas.{known_after_all, known_below, known_both}
use Rattle.cert_check.proofs.WalkLemmas.{Leads, leads_on, leads_fault, leads_all}

pub stack_top : (rest : List Node) (n : Node)
    → stack_of (rest ++ n ∷ []) ≡ node_of n ∷ stack_of rest
stack_top rest n = ap (λ (ns : List Node). map node_of ns) (reverse-append rest (n ∷ []))

-- the open leaves that were found before item i, and those that are left
pub record AreFound (g : Shape) (starts : List rules.Node) (ts : Tree) (found : List OpenAt)
    (stack : List rules.Node) (i : ℕ) : Type 0 where
  pub all : open_leaves g starts ts 0 ≡ found ++ open_leaves g stack (drop i ts) i
  pub before : AllBefore i found

module _ (g : Shape) (P : rules.Node → Leaf → Type 0) (F : rules.Node → Leaf → Why → Type 0)
    (starts : List rules.Node) (ts : Tree) where
  -- what the walk knows before item i
  pub record IsAt (stack : List rules.Node) (i : ℕ) : Type 0 where
    pub leads : Leads g P F starts ts stack (drop i ts) i
    pub known : AllKnown g stack

  -- the node n is taken from the stack, for the item t
  pub record Opened (n : rules.Node) (t : TreeNode Leaf) (rest : List rules.Node) (i : ℕ) : Type
      0 where
    pub leads : Leads g P F starts ts (n ∷ rest) (t ∷ drop (i + 1) ts) i
    pub top_known : KnowsInside g n
    pub rest_known : AllKnown g rest

  pub opened : (stack rest : List Node) (n : Node) (i : ℕ) (t : TreeNode Leaf) → i < length ts
      → t ≡ get_or ts i t → stack ≡ rest ++ n ∷ [] → IsAt (stack_of stack) i
      → Opened (node_of n) t (stack_of rest) i
  opened stack rest n i t lt e s is =
      let top : stack_of stack ≡ node_of n ∷ stack_of rest =
      ap (λ (w : List Node). stack_of w) s ∙ stack_top rest n in
      let known : AllKnown g (node_of n ∷ stack_of rest) =
      subst (λ (ns : List rules.Node). AllKnown g ns) top is.known in
      record {
        leads =
            subst (λ (us : Tree). Leads g P F starts ts (node_of n ∷ stack_of rest) us i)
            (node_ahead ts i t lt e ∙ ap (λ (k : ℕ). t ∷ drop k ts) (sym (add-one i)))
            (subst (λ (ns : List rules.Node). Leads g P F starts ts ns (drop i ts) i) top is.leads);
        top_known = known.0;
        rest_known = known.1;
      }

  pub visited : (n : rules.Node) (t : TreeNode Leaf) (rest after : List rules.Node) (i : ℕ)
      → Opened n t rest i → IsVisited g P n t (drop (i + 1) ts) rest after → IsAt after (i + 1)
  visited n t rest after i o v =
      let m : rules.Node = after_all g n t.steps in
      record {
        leads =
            subst (λ (ns : List rules.Node). Leads g P F starts ts ns (drop (i + 1) ts) (i + 1))
            (sym v.children)
            (leads_on g P F starts ts n rest t (drop (i + 1) ts) i o.leads v.steps v.end);
        known = subst (λ (ns : List rules.Node). AllKnown g ns) (sym v.children)
            (known_both g (below g m t.end) rest
            (known_below g P m t.end (drop (i + 1) ts)
            (known_after_all g n t.steps o.top_known v.steps) v.end) o.rest_known);
      }

  failed : (n : rules.Node) (t : TreeNode Leaf) (rest : List rules.Node) (i : ℕ) (why : Why)
      → Opened n t rest i → NodeFails g F n t (drop (i + 1) ts) why
      → IsFirstFault g P F starts ts i why
  failed n t rest i why o h = leads_fault g P F starts ts n rest t (drop (i + 1) ts) i why o.leads h

  -- the node at which the walk halts is named
  pub halted : (n : rules.Node) (t : TreeNode Leaf) (rest : List rules.Node) (i : ℕ) (halt : Halt)
      → Opened n t rest i → Halts (NodeFails g F n t (drop (i + 1) ts)) halt
      → NamesFault g P F starts ts (refusal_at i halt)
  halted n t rest i Memory o h = tt
  halted n t rest i (Fails why) o h = failed n t rest i why o h

  pub all_visited : (stack : List rules.Node) (i : ℕ) → length ts ≤ i → IsAt stack i
      → Pass g P starts ts
  all_visited stack i le is =
      leads_all g P F starts ts stack i
      (subst (λ (us : Tree). Leads g P F starts ts stack us i) (drop_all i ts le) is.leads)

  -- the stack is without nodes only after the last item
  pub none_left : (i : ℕ) → IsAt [] i → Pass g P starts ts
  none_left i is = at (drop i ts) is.leads
    where
      at : (us : Tree) → Leads g P F starts ts [] us i → Pass g P starts ts
      at [] l = leads_all g P F starts ts [] i l
      at (u ∷ us) l = absurd l.forest

-- ---- the numbers of open leaves

before_more : (i : ℕ) (found : List OpenAt) (m : rules.Node) (e : End Leaf) → AllBefore i found
    → AllBefore (i + 1) (found ++ open_here i m e)
before_more i (l ∷ ls) m e h = (
  (let low : l.number < i = h.0 in let q : l.number < i + 1 = omega arith in q),
  before_more i ls m e h.1,
)
before_more i [] m (branch w) h = tt
before_more i [] m (leaf (dead x)) h = tt
before_more i [] m (leaf (clash x)) h = tt
before_more i [] m (leaf (refuted ys)) h = tt
before_more i [] m (leaf (bounded d ys)) h = tt
before_more i [] m (leaf (charged c)) h = tt
before_more i [] m (leaf (untried low)) h = ((let q : i < i + 1 = omega arith in q), tt)

none_sooner : (i : ℕ) (ls : List OpenAt) → NoneBefore (i + 1) ls → NoneBefore i ls
none_sooner i [] h = tt
none_sooner i (l ∷ ls) h = (
  (let low : i + 1 ≤ l.number = h.0 in let q : i ≤ l.number = omega arith in q),
  none_sooner i ls h.1,
)

here_and_behind : (i : ℕ) (m : rules.Node) (e : End Leaf) (ls : List OpenAt) → NoneBefore (i + 1) ls
    → NoneBefore i (open_here i m e ++ ls)
here_and_behind i m (branch w) ls h = none_sooner i ls h
here_and_behind i m (leaf (dead x)) ls h = none_sooner i ls h
here_and_behind i m (leaf (clash x)) ls h = none_sooner i ls h
here_and_behind i m (leaf (refuted ys)) ls h = none_sooner i ls h
here_and_behind i m (leaf (bounded d ys)) ls h = none_sooner i ls h
here_and_behind i m (leaf (charged c)) ls h = none_sooner i ls h
here_and_behind i m (leaf (untried low)) ls h =
    ((let q : i ≤ i = omega arith in q), none_sooner i ls h)

-- the open leaves of nodes from i on have numbers from i on
pub none_before : (g : Shape) (ns : List rules.Node) (ts : Tree) (i : ℕ)
    → NoneBefore i (open_leaves g ns ts i)
none_before g [] ts i = tt
none_before g (n ∷ ns) [] i = tt
none_before g (n ∷ ns) (t ∷ ts) i =
    here_and_behind i (after_all g n t.steps) t.end
    (open_leaves g (below g (after_all g n t.steps) t.end ++ ns) ts (i + 1))
    (none_before g (below g (after_all g n t.steps) t.end ++ ns) ts (i + 1))

-- those that were found before node i
found_before : (g : Shape) (starts : List rules.Node) (ts : Tree) (found : List OpenAt)
    (stack : List rules.Node) (i : ℕ) → AreFound g starts ts found stack i
    → AreThoseBefore g starts ts i found
found_before g starts ts found stack i is = record {
  others = open_leaves g stack (drop i ts) i;
  all = is.all;
  before = is.before;
  behind = none_before g stack (drop i ts) i;
}

pub halted_before : (g : Shape) (starts : List rules.Node) (ts : Tree) (found : List OpenAt)
    (stack : List rules.Node) (i : ℕ) (halt : Halt) → AreFound g starts ts found stack i
    → AreBefore g starts ts (refusal_at i halt) found
halted_before g starts ts found stack i Memory is = tt
halted_before g starts ts found stack i (Fails why) is = found_before g starts ts found stack i is

-- ---- the open leaves on the way

module _ (g : Shape) (starts : List rules.Node) (ts : Tree) where
  pub found_none : AreFound g starts ts [] starts 0
  found_none = record { all = refl; before = tt }

  -- the item t is visited at the node n
  pub found_more : (P : rules.Node → Leaf → Type 0) (before after rest : List rules.Node)
      (n m : rules.Node) (t : TreeNode Leaf) (found more : List OpenAt) (i : ℕ)
      → before ≡ n ∷ rest → drop i ts ≡ t ∷ drop (i + 1) ts → m ≡ after_all g n t.steps
      → IsVisited g P n t (drop (i + 1) ts) rest after → more ≡ found ++ open_here i m t.end
      → AreFound g starts ts found before i → AreFound g starts ts more after (i + 1)
  found_more P before after rest n m t found more i top here leads v grown is =
      let us : Tree = drop (i + 1) ts in
      let k : rules.Node = after_all g n t.steps in
      record {
        all =
            is.all
            ∙ ap (λ (ns : List rules.Node). found ++ open_leaves g ns (drop i ts) i) top
            ∙ ap (λ (vs : Tree). found ++ open_leaves g (n ∷ rest) vs i) here
            ∙ ap
            (λ (ns : List rules.Node). found
            ++ (open_here i k t.end ++ open_leaves g ns us (i + 1))) (sym v.children)
            ∙ ap
            (λ (j : rules.Node). found
            ++ (open_here i j t.end ++ open_leaves g after us (i + 1))) (sym leads)
            ∙ sym (append_assoc found (open_here i m t.end) (open_leaves g after us (i + 1)))
            ∙ ap (λ (fs : List OpenAt). fs ++ open_leaves g after us (i + 1)) (sym grown);
        before =
            subst (λ (fs : List OpenAt). AllBefore (i + 1) fs) (sym grown)
            (before_more i found m t.end is.before);
      }

  -- the node is taken from the top of the stack, for item i
  pub found_on : (P : rules.Node → Leaf → Type 0) (stack rest : List Node) (n reached : Node)
      (t : TreeNode Leaf) (after : List rules.Node) (found more : List OpenAt) (i : ℕ)
      → i < length ts → t ≡ get_or ts i t → stack ≡ rest ++ n ∷ []
      → node_of reached ≡ after_all g (node_of n) t.steps
      → IsVisited g P (node_of n) t (drop (i + 1) ts) (stack_of rest) after
      → more ≡ found ++ open_here i (node_of reached) t.end
      → AreFound g starts ts found (stack_of stack) i → AreFound g starts ts more after (i + 1)
  found_on P stack rest n reached t after found more i lt e s leads v grown is =
      found_more P (stack_of stack) after (stack_of rest) (node_of n) (node_of reached) t found more
      i
      (ap (λ (w : List Node). stack_of w) s ∙ stack_top rest n)
      (node_ahead ts i t lt e ∙ ap (λ (k : ℕ). t ∷ drop k ts) (sym (add-one i))) leads v grown
      is

  none_open : (ns : List rules.Node) (i : ℕ) → open_leaves g ns [] i ≡ []
  none_open [] i = refl
  none_open (n ∷ ns) i = refl

  pub found_all : (found : List OpenAt) (stack : List rules.Node) (i : ℕ) → length ts ≤ i
      → AreFound g starts ts found stack i → found ≡ open_leaves g starts ts 0
  found_all found stack i le is =
      sym (is.all ∙ ap (λ (us : Tree). found ++ open_leaves g stack us i) (drop_all i ts le)
      ∙ ap (λ (fs : List OpenAt). found ++ fs) (none_open stack i) ∙ append-nil found)

  pub found_whole : (found : List OpenAt) (i : ℕ) → AreFound g starts ts found [] i
      → found ≡ open_leaves g starts ts 0
  found_whole found i is = sym (is.all ∙ append-nil found)
