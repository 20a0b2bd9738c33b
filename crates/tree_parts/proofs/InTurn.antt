-- Parts that are put back in turn, one more after the others.
use Rattle.std.proofs.Common.{◌≡◌, ◌<◌, ◌+◌, ℕ, zero, suc, List, [], ◌∷◌, ◌++◌, length, take}
use Rattle.std.proofs.Common.{get_or, refl, sym, ap, ◌∙◌, subst, add-one, arith, drop, ◌-◌, ◌≤◌}
use Rattle.std.proofs.Common.{take-add, length-drop}
use Rattle.std.proofs.Math.Seq.{take-suc, take-length}
use Rattle.std.proofs.lemmas.List.{get_or-drop, take_all}
use Rattle.tree_text_laws.specs.problem_rules.Each.{Each}
use Rattle.tree_text_laws.specs.problem_rules.Problem.{Problem}
use Rattle.tree_text_laws.specs.tree_rules.Claim.{Claim}
use Rattle.tree_text_laws.specs.tree_rules.Accepted.{Tree}
use Rattle.tree_text_laws.specs.tree_text_rules.Part.{Part}
use Rattle.tree_text_laws.specs.tree_text_rules.Merge.{IsMerged}
use Rattle.tree_text_laws.specs.tree_text_rules.Several.{AreMerged, StopsAt}
use Rattle.tree_text_laws.specs.tree_text_rules.declared.merge_fault.MergeFault.{MergeFault}

-- ---- the parts from a place on

pub rest_on : (ps : List Part) (i : ℕ) → take (length ps - i) (drop i ps) ≡ drop i ps
rest_on ps i =
    take_all (length ps - i) (drop i ps)
    (let long = length-drop i ps in let le : length (drop i ps) ≤ length ps - i =
    omega (arith, long) in le)

pub each_on : (P : Part → Type 0) (i : ℕ) (ps : List Part) → Each P ps → Each P (drop i ps)
each_on P zero ps h = h
each_on P (suc i) [] h = tt
each_on P (suc i) (x ∷ xs) h = each_on P i xs h.1

pub each_at : (P : Part → Type 0) (ps : List Part) (i : ℕ) (x : Part) → i < length ps
    → x ≡ get_or ps i x → Each P ps → P x
each_at P [] i x lt e h = absurd (omega arith)
each_at P (y ∷ ys) zero x lt e h = subst P (sym e) h.0
each_at P (y ∷ ys) (suc i) x lt e h = each_at P ys i x (omega arith) e h.1

module _ (p : Problem) where
  one_last : (claim : Claim) (tree : Tree) (front : List Part) (part : Part) (both next : Claim)
      (whole grown : Tree) → AreMerged p claim tree front both whole
      → IsMerged p both whole part next grown
      → AreMerged p claim tree (front ++ part ∷ []) next grown
  one_last claim tree [] part both next whole grown are is = (
    next,
    grown,
    subst (λ (c : Claim). IsMerged p c tree part next grown) are.0
        (subst (λ (t : Tree). IsMerged p both t part next grown) are.1 is),
    (refl, refl),
  )
  one_last claim tree (first ∷ front) part both next whole grown are is =
      (are.0, are.1, are.2, one_last are.0 are.1 front part both next whole grown are.3 is)

  -- the parts before this place are put back
  pub record AreBack (claim : Claim) (tree : Tree) (parts : List Part) (i : ℕ) (both : Claim)
      (whole : Tree) : Type 0 where
    pub merged : AreMerged p claim tree (take i parts) both whole

  pub none_back : (claim : Claim) (tree : Tree) (parts : List Part)
      → AreBack claim tree parts 0 claim tree
  none_back claim tree parts = record { merged = (refl, refl) }

  pub one_back : (claim : Claim) (tree : Tree) (parts : List Part) (i : ℕ) (part : Part)
      (both next : Claim) (whole grown : Tree) → i < length parts → part ≡ get_or parts i part
      → AreBack claim tree parts i both whole → IsMerged p both whole part next grown
      → AreBack claim tree parts (i + 1) next grown
  one_back claim tree parts i part both next whole grown lt here are is =
      let more : take (i + 1) parts ≡ take i parts ++ part ∷ [] =
      ap (λ (k : ℕ). take k parts) (add-one i) ∙ take-suc parts i part lt
      ∙ ap (λ (x : Part). take i parts ++ x ∷ []) (sym here) in
      record {
        merged =
            subst (λ (ps : List Part). AreMerged p claim tree ps next grown) (sym more)
            (one_last claim tree (take i parts) part both next whole grown are.merged is);
      }

  pub all_back : (claim : Claim) (tree : Tree) (parts : List Part) (i : ℕ) (both : Claim)
      (whole : Tree) → i ≡ length parts → AreBack claim tree parts i both whole
      → AreMerged p claim tree parts both whole
  all_back claim tree parts i both whole e are =
      subst (λ (ps : List Part). AreMerged p claim tree ps both whole)
      (ap (λ (k : ℕ). take k parts) e ∙ take-length parts) are.merged

  -- ---- some of them after others

  merged-append : (claim : Claim) (tree : Tree) (front back : List Part) (mid both : Claim)
      (grown whole : Tree) → AreMerged p claim tree front mid grown
      → AreMerged p mid grown back both whole → AreMerged p claim tree (front ++ back) both whole
  merged-append claim tree [] back mid both grown whole a b =
      subst (λ (c : Claim). AreMerged p c tree back both whole) a.0
      (subst (λ (t : Tree). AreMerged p mid t back both whole) a.1 b)
  merged-append claim tree (part ∷ more) back mid both grown whole a b =
      (a.0, a.1, a.2, merged-append a.0 a.1 more back mid both grown whole a.3 b)

  back_then : (claim : Claim) (tree : Tree) (parts : List Part) (i n : ℕ) (mid both : Claim)
      (grown whole : Tree) → AreBack claim tree parts i mid grown
      → AreMerged p mid grown (take n (drop i parts)) both whole
      → AreMerged p claim tree (take (i + n) parts) both whole
  back_then claim tree parts i n mid both grown whole a b =
      subst (λ (ps : List Part). AreMerged p claim tree ps both whole) (sym (take-add i n parts))
      (merged-append claim tree (take i parts) (take n (drop i parts)) mid both grown whole
      a.merged b)

  -- the parts before this place are put back; it is the place of a part, or follows that of the
  -- last
  pub record AreSoFar (claim : Claim) (tree : Tree) (parts : List Part) (i : ℕ) (both : Claim)
      (whole : Tree) : Type 0 where
    pub back : AreBack claim tree parts i both whole
    pub within : i ≤ length parts

  pub none_so_far : (claim : Claim) (tree : Tree) (parts : List Part)
      → AreSoFar claim tree parts 0 claim tree
  none_so_far claim tree parts = record { back = none_back claim tree parts; within = omega arith }

  pub more_back : (claim : Claim) (tree : Tree) (parts : List Part) (i n m : ℕ) (mid both : Claim)
      (grown whole : Tree) → m ≡ i + n → n ≤ length (drop i parts)
      → AreSoFar claim tree parts i mid grown
      → AreMerged p mid grown (take n (drop i parts)) both whole
      → AreSoFar claim tree parts m both whole
  more_back claim tree parts i n m mid both grown whole e le a b =
      subst (λ (j : ℕ). AreSoFar claim tree parts j both whole) (sym e)
      (record {
        back =
            record { merged = back_then claim tree parts i n mid both grown whole a.back b };
        within =
            (let l = length-drop i parts in let w = a.within in omega (arith, l, le, w));
      })

  pub all_so_far : (claim : Claim) (tree : Tree) (parts : List Part) (i : ℕ) (both : Claim)
      (whole : Tree) → length parts ≤ i → AreSoFar claim tree parts i both whole
      → AreMerged p claim tree parts both whole
  all_so_far claim tree parts i both whole high a =
      all_back claim tree parts i both whole (let w = a.within in omega (arith, w, high)) a.back

  -- one of the others is not
  pub stops_behind : (claim : Claim) (tree : Tree) (parts : List Part) (i j m : ℕ) (mid : Claim)
      (grown : Tree) (fault : MergeFault) → m ≡ i + j → AreSoFar claim tree parts i mid grown
      → StopsAt p mid grown (drop i parts) j fault
      → StopsAt p claim tree parts m fault
  stops_behind claim tree parts i j m mid grown fault e a s =
      subst (λ (k : ℕ). StopsAt p claim tree parts k fault) (sym e)
      (record {
        next = s.next;
        grown = s.grown;
        part = s.part;
        within =
            (let l = length-drop i parts in let w = s.within in let b =
            a.within in omega (arith, l, w, b));
        part_is = s.part_is ∙ get_or-drop i parts j s.part;
        before = back_then claim tree parts i j mid s.next grown s.grown a.back s.before;
        fails = s.fails;
      })
