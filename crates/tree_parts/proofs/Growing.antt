-- Parts that wait for their places: the tree that they make together is that of the parts in turn.
use Rattle.std.proofs.Common.{◌≡◌, ◌+◌, ◌<◌, ◌≤◌, ℕ, List, [], ◌∷◌, ◌++◌, length, take, get_or}
use Rattle.std.proofs.Common.{refl, sym, ap, ◌∙◌, subst, arith, length-append, Result, Ok, Err}
use Rattle.std.proofs.Common.{IfOk, IfErr}
use Rattle.tree_text_laws.specs.problem_rules.Problem.{Problem}
use Rattle.tree_text_laws.specs.pns_rules.Shape.{shape_of}
use Rattle.tree_text_laws.specs.tree_rules.Tree.{IsTree}
use Rattle.tree_text_laws.specs.tree_rules.Claim.{Claim, claimed_cost}
use Rattle.tree_text_laws.specs.tree_rules.Accepted.{Tree, first_node, IsPartial}
use Rattle.tree_text_laws.specs.tree_text_rules.OpenLeaves.{open_leaves, IsAmong, StandsOpen}
use Rattle.tree_text_laws.specs.tree_text_rules.Graft.{claim_of_both}
use Rattle.tree_parts.specs.Laws.{OpenLeavesStand, GraftIsTree, GraftIsPartial}
use Rattle.tree_parts.specs.Splices.{Splice, spliced, AreRising, IsPut, ArePut, settled, cheapest}
use Rattle.tree_parts.proofs.SpliceLemmas.{IsIn, put_in, rising_more, put_more, first_claims}
use Rattle.tree_parts.proofs.SpliceLemmas.{next_claims}
use Rattle.tree_text_laws.specs.tree_text_rules.Part as parts
use Rattle.tree_text_laws.specs.tree_text_rules.Part.{start_of}
use Rattle.tree_text_laws.specs.tree_text_rules.Merge.{IsMerged, IsLeafOf, MergeFails}
use Rattle.tree_text_laws.specs.tree_text_rules.declared.merge_fault.MergeFault.{MergeFault}
use Rattle.tree_text_laws.specs.tree_text_rules.declared.merge_fault.MergeFault.TheVariants.{NoLeaf}
use Rattle.tree_text_laws.specs.tree_text_rules.declared.merge_fault.MergeFault.TheVariants.{Memory}
use Rattle.tree_text_laws.specs.tree_text_rules.Several.{AreMerged, StopsAt}
use Rattle.tree_text_laws.specs.branch_tree.View.{claim_of}
use Rattle.tree_parts.specs.declared.several.Merged.{Merged}
use Rattle.tree_parts.specs.declared.several.PartFault.{PartFault}
use Rattle.tree_parts.specs.declared.waiting.Waiting.{Waiting}
use Rattle.tree_parts.specs.Waiting.{splices_of, IsOneMore}
use Rattle.tree_parts.proofs.InTurn.{AreBack, one_back}

-- what is claimed so far: what the tree claims while no part waits, and then the cheapest network
abbrev pub IsRunning : List Splice → Claim → Claim → Tree → Type 0
IsRunning [] running both grown = both ≡ running
IsRunning (s ∷ ss) running both grown = both ≡ settled running grown

running_more : (front back : List Splice) (s : Splice) (running both : Claim) (grown : Tree)
    → both ≡ settled running grown → IsRunning (front ++ s ∷ back) running both grown
running_more [] back s running both grown e = e
running_more (f ∷ fs) back s running both grown e = e

next_running : (ws : List Splice) (running both other : Claim) (grown new : Tree)
    → IsRunning ws running both grown
    → claim_of_both both other new ≡ settled (cheapest running other) new
next_running [] running both other grown new e =
    ap (λ (c : Claim). claim_of_both c other new) e ∙ first_claims running other new
next_running (s ∷ ss) running both other grown new e =
    ap (λ (c : Claim). claim_of_both c other new) e ∙ next_claims running other grown new

length_more : (front back : List Splice) (s : Splice) (i : ℕ) → length (front ++ back) ≡ i
    → length (front ++ s ∷ back) ≡ i + 1
length_more front back s i e = let a = length-append front back in let b =
    length-append front (s ∷ back) in omega (arith, a, b, e)

pub no_items : (ws : List Waiting) (i : ℕ) → i ≡ 0 → length (splices_of ws) ≡ i → ws ≡ []
no_items [] i e l = refl
no_items (w ∷ ws) i e l = absurd (omega arith)

pub some_count : (r : Result Merged PartFault) (i : ℕ) → 0 < i → IfOk r (λ m. m.count ≡ i)
    → IfOk r (λ m. 0 < m.count)
some_count (Ok m) i some is = omega (arith, some, is)
some_count (Err e) i some is = tt

pub few_count : (r : Result Merged PartFault) (i n : ℕ) → i ≤ n → IfOk r (λ m. m.count ≡ i)
    → IfOk r (λ m. m.count ≤ n)
few_count (Ok m) i n few is = omega (arith, few, is)
few_count (Err e) i n few is = tt

module _ (p : Problem) where
  -- the parts before place i wait, and these are the tree and the claim that they make
  pub record IsGrowing (claim : Claim) (tree : Tree) (ps : List parts.Part) (i : ℕ)
      (ws : List Splice) (running : Claim) : Type 0 where
    pub both : Claim
    pub rising : AreRising ws
    pub put : ArePut p first_node tree ws
    pub back : AreBack p claim tree ps i both (spliced ws tree)
    pub partial : IsPartial p first_node both (spliced ws tree)
    pub whole : IsTree (spliced ws tree)
    pub claim_is : IsRunning ws running both (spliced ws tree)
    pub count : length ws ≡ i

  pub none_waits : (claim : Claim) (tree : Tree) (ps : List parts.Part) → IsTree tree
      → IsPartial p first_node claim tree → IsGrowing claim tree ps 0 [] claim
  none_waits claim tree ps h q = record {
    both = claim;
    rising = tt;
    put = tt;
    back = record { merged = (refl, refl) };
    partial = q;
    whole = h;
    claim_is = refl;
    count = refl;
  }

  -- ---- what is answered

  pub stops_first : (claim : Claim) (tree : Tree) (ps : List parts.Part) (fault : MergeFault)
      → 0 < length ps → ((part : parts.Part) → MergeFails p claim tree part fault)
      → StopsAt p claim tree ps 0 fault
  stops_first claim tree [] fault some f = absurd (omega arith)
  stops_first claim tree (x ∷ xs) fault some f =
      record {
        next = claim;
        grown = tree;
        part = x;
        within = omega arith;
        part_is = refl;
        before =
            (refl, refl);
        fails = f x;
      }

  pub stops_here : (claim : Claim) (tree : Tree) (ps : List parts.Part) (i : ℕ) (ws : List Splice)
      (running : Claim) (part : parts.Part) (fault : MergeFault)
      → IsGrowing claim tree ps i ws running → i < length ps → part ≡ get_or ps i part
      → ((both : Claim) (grown : Tree) → IsPartial p first_node both grown
      → MergeFails p both grown part fault) → StopsAt p claim tree ps i fault
  stops_here claim tree ps i ws running part fault g within here f = record {
    next = g.both;
    grown = spliced ws tree;
    part = part;
    within = within;
    part_is = here;
    before = g.back.merged;
    fails = f g.both (spliced ws tree) g.partial;
  }

  none_wait : (ws : List Splice) (i : ℕ) → i ≡ 0 → length ws ≡ i → ws ≡ []
  none_wait [] i e l = refl
  none_wait (w ∷ ws) i e l = absurd (omega arith)

  pub stops_without : OpenLeavesStand
      → (claim : Claim) (tree : Tree) (ps : List parts.Part) (i : ℕ) (ws : List Splice)
      (running : Claim) (part : parts.Part) → IsGrowing claim tree ps i ws running → i ≡ 0
      → i < length ps → part ≡ get_or ps i part
      → IsPartial p (start_of part) part.claim part.tree
      → ((k : ℕ)
      → IsAmong (record { number = k; node = start_of part })
      (open_leaves (shape_of p) (first_node ∷ []) tree 0) → ⊥)
      → StopsAt p claim tree ps i NoLeaf
  stops_without stand claim tree ps i ws running part g first within here is_partial none =
      let empty : ws ≡ [] = none_wait ws i first g.count in
      record {
        next = g.both;
        grown = spliced ws tree;
        part = part;
        within = within;
        part_is = here;
        before = g.back.merged;
        fails = (
          g.partial,
          is_partial,
          (λ k s. none k
              ((stand (shape_of p) first_node tree (record { number = k; node = start_of part })).1
              (subst (λ (us : List Splice). IsLeafOf p (spliced us tree) part k) empty s))),
        );
      }

  settled_so : (ws : List Splice) (i : ℕ) (running both : Claim) (grown : Tree) → 0 < i
      → length ws ≡ i → IsRunning ws running both grown → both ≡ settled running grown
  settled_so [] i running both grown some l e = absurd (omega arith)
  settled_so (w ∷ ws) i running both grown some l e = e

  grown_merged : (claim : Claim) (tree : Tree) (ps : List parts.Part) (i m : ℕ) (ws : List Splice)
      (running both : Claim) (whole : Tree) → IsGrowing claim tree ps i ws running → 0 < i → m ≡ i
      → whole ≡ spliced ws tree → both ≡ settled running (spliced ws tree)
      → AreMerged p claim tree (take m ps) both whole
  grown_merged claim tree ps i m ws running both whole g some same is claim_is =
      let now : both ≡ g.both = claim_is
      ∙ sym (settled_so ws i running g.both (spliced ws tree) some g.count g.claim_is) in
      subst (λ (c : Claim). AreMerged p claim tree (take m ps) c whole) (sym now)
      (subst (λ (t : Tree). AreMerged p claim tree (take m ps) g.both t) (sym is)
      (subst (λ (j : ℕ). AreMerged p claim tree (take j ps) g.both (spliced ws tree)) (sym same)
      g.back.merged))

  -- ---- what comes of the parts that wait

  pub all_merged : (claim : Claim) (tree : Tree) (ps : List parts.Part) (i : ℕ) (ws : List Splice)
      (running : Claim) (r : Result Merged PartFault) → IsGrowing claim tree ps i ws running → 0 < i
      → IfOk r (λ m. m.count ≡ i) → IfOk r (λ m. m.tree ≡ spliced ws tree)
      → IfOk r (λ m. claim_of m.claim ≡ settled running (spliced ws tree))
      → IfOk r (λ m. AreMerged p claim tree (take m.count ps) (claim_of m.claim) m.tree)
  all_merged claim tree ps i ws running (Ok m) g some count is claim_is =
      grown_merged claim tree ps i m.count ws running (claim_of m.claim) m.tree g some count is
      claim_is
  all_merged claim tree ps i ws running (Err e) g some count is claim_is = tt

  pub stops_at_first : (claim : Claim) (tree : Tree) (ps : List parts.Part)
      (r : Result Merged PartFault) → 0 < length ps
      → IfErr r (λ stop. stop ≡ record { part = 0; fault = Memory })
      → IfErr r (λ stop. StopsAt p claim tree ps stop.part stop.fault)
  stops_at_first claim tree ps (Ok m) some is = tt
  stops_at_first claim tree ps (Err stop) some is =
      subst (λ (s : PartFault). StopsAt p claim tree ps s.part s.fault) (sym is)
      (stops_first claim tree ps Memory some (λ part. tt))

  module _ (stand : OpenLeavesStand) (grafts_are_trees : GraftIsTree)
      (grafts_are_partial : GraftIsPartial) where
    pub one_waits : (claim : Claim) (tree : Tree) (ps : List parts.Part) (i : ℕ)
        (old new : List Splice) (running next : Claim) (part : parts.Part)
        → IsGrowing claim tree ps i old running
        → IsOneMore (open_leaves (shape_of p) (first_node ∷ []) tree 0) part old new
        → IsTree part.tree → IsPartial p (start_of part) part.claim part.tree
        → next ≡ cheapest running part.claim
        → i < length ps → part ≡ get_or ps i part → IsGrowing claim tree ps (i + 1) new next
    one_waits claim tree ps i old new running next part g o is_tree is_partial next_is within here =
        let s : Splice = record { place = o.place; part = part.tree } in
        let stands : StandsOpen (shape_of p) (first_node ∷ []) tree o.place (start_of part) =
        (stand (shape_of p) first_node tree
        (record { number = o.place; node = start_of part })).0 o.leaf_is in
        let is_put : IsPut p first_node tree s =
        record {
          node = start_of part;
          claimed = claimed_cost part.claim;
          stands =
              stands;
          whole = is_tree;
          passes = is_partial.passes;
        } in
        let rising : AreRising (o.front ++ o.back) = subst AreRising o.old_is g.rising in
        let put : ArePut p first_node tree (o.front ++ o.back) =
        subst (λ (ws : List Splice). ArePut p first_node tree ws) o.old_is g.put in
        let i_in : IsIn p first_node tree o.front o.back s (start_of part) =
        put_in p first_node tree o.front o.back s is_put rising o.low o.high put in
        let grown : Tree = spliced (o.front ++ o.back) tree in
        let whole : Tree = spliced (o.front ++ s ∷ o.back) tree in
        let partial : IsPartial p first_node g.both grown =
        subst (λ (ws : List Splice). IsPartial p first_node g.both (spliced ws tree)) o.old_is
        g.partial in
        let is_whole : IsTree grown =
        subst (λ (ws : List Splice). IsTree (spliced ws tree)) o.old_is g.whole in
        let both : Claim = claim_of_both g.both part.claim whole in
        let now_partial : IsPartial p first_node both whole =
        subst (λ (w : Tree). IsPartial p first_node (claim_of_both g.both part.claim w) w)
        (sym i_in.is)
        (grafts_are_partial p first_node (start_of part) g.both part.claim grown part.tree
        i_in.place is_whole is_tree partial is_partial i_in.stands) in
        let merged : IsMerged p g.both grown part both whole = record {
          tree_proves = partial;
          part_proves = is_partial;
          place = i_in.place;
          leaf_is = i_in.stands;
          tree_is = i_in.is;
          claim_is = refl;
          partial = now_partial;
        } in
        let before : AreBack p claim tree ps i g.both grown =
        subst (λ (ws : List Splice). AreBack p claim tree ps i g.both (spliced ws tree))
        o.old_is g.back in
        let running_now : IsRunning (o.front ++ o.back) running g.both grown =
        subst (λ (ws : List Splice). IsRunning ws running g.both (spliced ws tree)) o.old_is
        g.claim_is in
        let all : IsGrowing claim tree ps (i + 1) (o.front ++ s ∷ o.back) next = record {
          both = both;
          rising = rising_more p first_node tree o.front o.back s rising o.low o.high;
          put = put_more p first_node tree o.front o.back s is_put put;
          back = one_back p claim tree ps i part g.both both grown whole within here before merged;
          partial = now_partial;
          whole =
              subst IsTree (sym i_in.is)
              (grafts_are_trees (shape_of p) (first_node ∷ []) i_in.place (start_of part) grown
              part.tree i_in.stands is_whole is_tree);
          claim_is =
              running_more o.front o.back s next both whole
              (next_running (o.front ++ o.back) running g.both part.claim grown whole running_now
              ∙ ap (λ (c : Claim). settled c whole) (sym next_is));
          count =
              length_more o.front o.back s i
              (ap (λ (ws : List Splice). length ws) (sym o.old_is) ∙ g.count);
        } in
        subst (λ (ws : List Splice). IsGrowing claim tree ps (i + 1) ws next) (sym o.new_is) all
