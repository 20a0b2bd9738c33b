-- The lines of the head of a tree, both ways.
use Rattle.std.proofs.Common.{◌≡◌, ◌+◌, ◌<◌, ◌≤◌, ℕ, suc, List, [], ◌∷◌, ◌++◌, length, map, Option}
use Rattle.std.proofs.Common.{Some, None, Result, Ok, Err, refl, sym, ◌∙◌, ap, ap₂, subst, arith}
use Rattle.std.proofs.Common.{append_assoc, append-nil, length-append}
use Rattle.std.proofs.lemmas.List.{length-map, map-append}
use Rattle.tree_text_rules.specs.problem_rules.Each.{Each}
use Rattle.tree_text_rules.specs.problem_rules.Problem.{Problem}
use Rattle.tree_text_rules.specs.problem_rules.WellFormed.{IsWellFormed}
use Rattle.text_laws.proofs.Cited.{each-append}
use Rattle.tree_text_rules.specs.flow_rules.Cover.{Cover}
use Rattle.tree_text_rules.specs.tree_rules.Known.{KnowsCover}
use Rattle.tree_text_rules.specs.tree_rules.Head.{HeadLine, step, cap, out, trim, uses}
use Rattle.tree_text_rules.specs.tree_rules.HeadKnown.{KnowsLine, KnowsHead}
use Rattle.tree_text_rules.specs.Line.{Token, Line}
use Rattle.tree_text_rules.specs.LineRead.{head_read, sets_of, next_among, next_cover}
use Rattle.tree_text_rules.specs.Read.{Fault, Taken, on_line, with_set, with_line, front_taken}
use Rattle.tree_text_rules.specs.Spelling.{cover_line, front_line, sets_in, front_with_sets}
use Rattle.tree_text_rules.specs.Spelling.{front_lines}
use Rattle.tree_text_rules.specs.declared.TreeKind.{TreeKind}
use Rattle.tree_text_laws.specs.LineFits.{FitsFrontLine}
use Rattle.tree_text_laws.specs.Codes.{line_of, IsToken}
use Rattle.tree_text_laws.specs.Lines.{lines_said, BeginsNoSet, BeginsNoFront}
use Rattle.tree_text_laws.proofs.NodeLines.{set_back, set_again, set_line_tokens, front_back}
use Rattle.tree_text_laws.proofs.NodeLines.{front_again, front_no_set, front_line_tokens}
use Rattle.tree_text_laws.proofs.Nodes.{next_is, next_again, next_none, counted_so}
use Rattle.tree_text_laws.proofs.PartTexts.{good, good_is, on_line_ok}

abbrev Front : Type 0
Front = List HeadLine

-- the line with these sets after its own, and without any
abbrev with_sets : HeadLine → List Cover → HeadLine
with_sets (step s) cs = step s
with_sets (cap u v d ys covers) cs = cap u v d ys (covers ++ cs)
with_sets (out u d ys covers) cs = out u d ys (covers ++ cs)
with_sets (trim u) cs = trim u
with_sets (uses q d ys covers) cs = uses q d ys (covers ++ cs)

abbrev bare : HeadLine → HeadLine
bare (step s) = step s
bare (cap u v d ys covers) = cap u v d ys []
bare (out u d ys covers) = out u d ys []
bare (trim u) = trim u
bare (uses q d ys covers) = uses q d ys []

with_none : (l : HeadLine) → with_sets l [] ≡ l
with_none (step s) = refl
with_none (cap u v d ys covers) =
    ap (λ (cs : List Cover). cap u v d ys cs) (append-nil covers)
with_none (out u d ys covers) = ap (λ (cs : List Cover). out u d ys cs) (append-nil covers)
with_none (trim u) = refl
with_none (uses q d ys covers) = ap (λ (cs : List Cover). uses q d ys cs) (append-nil covers)

with_more : (l : HeadLine) (c : Cover) (cs : List Cover)
    → with_sets (with_set l c) cs ≡ with_sets l (c ∷ cs)
with_more (step s) c cs = refl
with_more (cap u v d ys covers) c cs =
    ap (λ (xs : List Cover). cap u v d ys xs) (append_assoc covers (c ∷ []) cs)
with_more (out u d ys covers) c cs =
    ap (λ (xs : List Cover). out u d ys xs) (append_assoc covers (c ∷ []) cs)
with_more (trim u) c cs = refl
with_more (uses q d ys covers) c cs =
    ap (λ (xs : List Cover). uses q d ys xs) (append_assoc covers (c ∷ []) cs)

with_own : (l : HeadLine) → with_sets (bare l) (sets_in l) ≡ l
with_own (step s) = refl
with_own (cap u v d ys covers) = refl
with_own (out u d ys covers) = refl
with_own (trim u) = refl
with_own (uses q d ys covers) = refl

-- what is read of an own line stays when sets come
same_line : (p : Problem) (l : HeadLine) (cs : List Cover)
    → front_line p (with_sets l cs) ≡ front_line p l
same_line p (step s) cs = refl
same_line p (cap u v d ys covers) cs = refl
same_line p (out u d ys covers) cs = refl
same_line p (trim u) cs = refl
same_line p (uses q d ys covers) cs = refl

bare_line : (p : Problem) (l : HeadLine) → front_line p (bare l) ≡ front_line p l
bare_line p (step s) = refl
bare_line p (cap u v d ys covers) = refl
bare_line p (out u d ys covers) = refl
bare_line p (trim u) = refl
bare_line p (uses q d ys covers) = refl

-- ---- which sets may come

sets_are : (l : HeadLine) (cs : List Cover) → sets_of l ≡ Some cs → sets_in l ≡ cs
sets_are (step s) cs e = absurd cc
sets_are (cap u v d ys covers) cs e = let is : Some covers ≡ Some cs = e in cc
sets_are (out u d ys covers) cs e = let is : Some covers ≡ Some cs = e in cc
sets_are (trim u) cs e = absurd cc
sets_are (uses q d ys covers) cs e = let is : Some covers ≡ Some cs = e in cc

among_is : (p : Problem) (o : Option (List Cover)) (line : Line) (r : Result Cover TreeKind)
    → next_among p o line ≡ Some r → (cs : List Cover) × (o ≡ Some cs)
    × (next_cover p cs line ≡ Some r)
among_is p None line r e = absurd cc
among_is p (Some cs) line r e = (cs, refl, e)

among_none : (p : Problem) (o : Option (List Cover)) (line : Line)
    → ((cs : List Cover) → next_cover p cs line ≡ None) → next_among p o line ≡ None
among_none p None line e = refl
among_none p (Some cs) line e = e cs

-- a line to which a set was added
with_set_sets : (l : HeadLine) (c : Cover) (cs : List Cover) → sets_of l ≡ Some cs
    → (sets_of (with_set l c) ≡ Some (cs ++ c ∷ []))
with_set_sets (step s) c cs e = absurd cc
with_set_sets (cap u v d ys covers) c cs e =
    ap (λ (o : Option (List Cover)). with_it o) e
  where
    with_it : Option (List Cover) → Option (List Cover)
    with_it None = None
    with_it (Some xs) = Some (xs ++ c ∷ [])
with_set_sets (out u d ys covers) c cs e =
    ap (λ (o : Option (List Cover)). with_it o) e
  where
    with_it : Option (List Cover) → Option (List Cover)
    with_it None = None
    with_it (Some xs) = Some (xs ++ c ∷ [])
with_set_sets (trim u) c cs e = absurd cc
with_set_sets (uses q d ys covers) c cs e =
    ap (λ (o : Option (List Cover)). with_it o) e
  where
    with_it : Option (List Cover) → Option (List Cover)
    with_it None = None
    with_it (Some xs) = Some (xs ++ c ∷ [])

with_line_ok : (l : HeadLine) (r : Result (Taken Front) Fault) (taken : Taken Front)
    → with_line l r ≡ Ok taken → (t : Taken Front) × (r ≡ Ok t)
    × (record { what = l ∷ t.what; number = t.number; behind = t.behind } ≡ taken)
with_line_ok l (Ok t) taken e =
    (t, refl, good_is (record { what = l ∷ t.what; number = t.number; behind = t.behind }) taken e)
with_line_ok l (Err fault) taken e = absurd cc

module _ (p : Problem) (formed : IsWellFormed p) where
  -- a line that is known stays so with sets that are, as long as there are not too many
  record MayGrow (l : HeadLine) (cs : List Cover) : Type 0 where
    sets : sets_in (with_sets l cs) ≡ sets_in l ++ cs
    known : KnowsLine p l → KnowsLine p (with_sets l cs)

  -- ---- what was read

  -- of a head: its lines, what follows them, and the number of these
  record TookHead (number : ℕ) (lines : List Line) (taken : Taken Front) : Type 0 where
    counted : taken.number + length taken.behind ≡ number + length lines
    lines_are : lines ≡ lines_said (front_lines p taken.what) ++ taken.behind
    known : KnowsHead p taken.what

  -- after a line that was begun: its sets, and then a head
  record TookMore (l : HeadLine) (number : ℕ) (lines : List Line) (taken : Taken Front) : Type
      0 where
    counted : taken.number + length taken.behind ≡ number + length lines
    sets : List Cover
    others : Front
    what_is : taken.what ≡ with_sets l sets ∷ others
    lines_are : lines ≡ lines_said (map (cover_line p) sets)
        ++ (lines_said (front_lines p others) ++ taken.behind)
    grows : MayGrow l sets
    known : KnowsHead p others

  abbrev Took : Option HeadLine → ℕ → List Line → Taken Front → Type 0
  Took None number lines taken = TookHead number lines taken
  Took (Some l) number lines taken = TookMore l number lines taken

  no_sets : (l : HeadLine) → MayGrow l []
  no_sets l = record {
    sets = ap sets_in (with_none l) ∙ sym (append-nil (sets_in l));
    known = λ h. subst (λ (m : HeadLine). KnowsLine p m) (sym (with_none l)) h;
  }

  one_set : (l : HeadLine) (c : Cover) (cs : List Cover) → sets_of l ≡ Some cs
      → length cs < 1000000 → KnowsCover p c → (sets_in (with_set l c) ≡ sets_in l ++ c ∷ [])
      × (KnowsLine p l → KnowsLine p (with_set l c))
  one_set (step s) c cs e lt k = absurd cc
  one_set (trim u) c cs e lt k = absurd cc
  one_set (cap u v d ys covers) c cs e lt k =
      let is : covers ≡ cs = sets_are (cap u v d ys covers) cs e in
      let size : length (covers ++ c ∷ []) ≡ length covers + 1 = length-append covers (c ∷ []) in
      let same : length covers ≡ length cs = ap length is in (
        refl,
        λ h. (
          h.0,
          h.1,
          record {
            scale = h.2.scale;
            multipliers = h.2.multipliers;
            few = omega (arith, size, lt, same);
            covers = each-append (KnowsCover p) covers (c ∷ []) h.2.covers (k, tt);
          },
        ),
      )
  one_set (out u d ys covers) c cs e lt k =
      let is : covers ≡ cs = sets_are (out u d ys covers) cs e in
      let size : length (covers ++ c ∷ []) ≡ length covers + 1 = length-append covers (c ∷ []) in
      let same : length covers ≡ length cs = ap length is in (
        refl,
        λ h. (
          h.0,
          record {
            scale = h.1.scale;
            multipliers = h.1.multipliers;
            few = omega (arith, size, lt, same);
            covers = each-append (KnowsCover p) covers (c ∷ []) h.1.covers (k, tt);
          },
        ),
      )
  one_set (uses q d ys covers) c cs e lt k =
      let is : covers ≡ cs = sets_are (uses q d ys covers) cs e in
      let size : length (covers ++ c ∷ []) ≡ length covers + 1 = length-append covers (c ∷ []) in
      let same : length covers ≡ length cs = ap length is in (
        refl,
        λ h. (
          h.0,
          h.1,
          h.2,
          record {
            scale = h.3.scale;
            multipliers = h.3.multipliers;
            few = omega (arith, size, lt, same);
            covers = each-append (KnowsCover p) covers (c ∷ []) h.3.covers (k, tt);
          },
        ),
      )

  -- nothing more was read
  took_nothing : (number : ℕ) (lines : List Line) (taken : Taken Front)
      → record { what = []; number = number; behind = lines } ≡ taken
      → TookHead number lines taken
  took_nothing number lines taken is =
      subst (λ (t : Taken Front). TookHead number lines t) is
      (record { counted = refl; lines_are = refl; known = tt })

  -- a line, and what was read after it
  took_line : (l : HeadLine) (number : ℕ) (line : Line) (lines : List Line) (taken : Taken Front)
      → line ≡ line_of (front_line p l) → FitsFrontLine p l
      → TookMore l (suc number) lines taken → TookHead number (line ∷ lines) taken
  took_line l number line lines taken is fits t =
      let whole : HeadLine = with_sets l t.sets in
      let sets : sets_in whole ≡ t.sets =
      t.grows.sets ∙ ap (λ (cs : List Cover). cs ++ t.sets) fits.bare in
      let said : List Line = lines_said (front_lines p t.others) ++ taken.behind in
      let own : lines_said (front_with_sets p whole) ≡ line_of (front_line p l)
      ∷ lines_said (map (cover_line p) t.sets) =
      ap₂ (λ (a : List Token) (cs : List Cover). line_of a
      ∷ lines_said (map (cover_line p) cs)) (same_line p l t.sets) sets in
      let all : lines_said (front_lines p (whole ∷ t.others))
      ≡ lines_said (front_with_sets p whole) ++ lines_said (front_lines p t.others) =
      map-append line_of (front_with_sets p whole) (front_lines p t.others) in
      record {
        counted = omega (arith, t.counted);
        lines_are =
            ap₂ (λ (a : Line) (b : List Line). a ∷ b) is t.lines_are
            ∙ ap (λ (ls : List Line). ls ++ said) (sym own)
            ∙ sym (append_assoc (lines_said (front_with_sets p whole))
            (lines_said (front_lines p t.others)) taken.behind)
            ∙ ap (λ (ls : List Line). ls ++ taken.behind) (sym all)
            ∙ ap (λ (h : Front). lines_said (front_lines p h) ++ taken.behind) (sym t.what_is);
        known =
            subst (λ (h : Front). KnowsHead p h) (sym t.what_is)
            (t.grows.known fits.known, t.known);
      }

  -- a line that was begun ends, and what was read after it
  took_end : (l : HeadLine) (number : ℕ) (lines : List Line) (t taken : Taken Front)
      → record { what = l ∷ t.what; number = t.number; behind = t.behind } ≡ taken
      → TookHead number lines t → TookMore l number lines taken
  took_end l number lines t taken is h =
      subst (λ (q : Taken Front). TookMore l number lines q) is (record {
        counted = h.counted;
        sets = [];
        others = t.what;
        what_is = ap (λ (m : HeadLine). m ∷ t.what) (sym (with_none l));
        lines_are = h.lines_are;
        grows = no_sets l;
        known = h.known;
      })

  -- a set, and what was read after it
  took_set : (l : HeadLine) (c : Cover) (number : ℕ) (line : Line) (lines : List Line)
      (taken : Taken Front) → line ≡ line_of (cover_line p c)
      → (sets_in (with_set l c) ≡ sets_in l ++ c ∷ [])
      → (KnowsLine p l → KnowsLine p (with_set l c))
      → TookMore (with_set l c) (suc number) lines taken → TookMore l number (line ∷ lines) taken
  took_set l c number line lines taken is sets known t = record {
    counted = omega (arith, t.counted);
    sets = c ∷ t.sets;
    others = t.others;
    what_is = t.what_is ∙ ap (λ (m : HeadLine). m ∷ t.others) (with_more l c t.sets);
    lines_are = ap₂ (λ (a : Line) (b : List Line). a ∷ b) is t.lines_are;
    grows = record {
      sets =
          ap sets_in (sym (with_more l c t.sets)) ∙ t.grows.sets
          ∙ ap (λ (cs : List Cover). cs ++ t.sets) sets
          ∙ append_assoc (sets_in l) (c ∷ []) t.sets;
      known = λ h. subst (λ (m : HeadLine). KnowsLine p m) (with_more l c t.sets)
          (t.grows.known (known h));
    };
    known = t.known;
  }

  -- what is read of a line where a line of a head may come
  abbrev front_on : ℕ → Line → List Line → Option (Result HeadLine TreeKind)
      → Result (Taken Front) Fault
  front_on number line lines o = elim o [
    | Some read
        ↦ on_line number read (λ next. front_taken p (Some next) (suc number) lines)
    | None ↦ Ok (record { what = []; number = number; behind = line ∷ lines })
  ]

  -- and if a set may come too
  abbrev set_on : HeadLine → ℕ → Line → List Line → Option (Result Cover TreeKind)
      → Result (Taken Front) Fault
  set_on l number line lines o = elim o [
    | Some read
        ↦ on_line number read
        (λ cover. front_taken p (Some (with_set l cover)) (suc number) lines)
    | None ↦ with_line l (front_on number line lines (head_read p line))
  ]

  at_head : (number : ℕ) (line : Line) (lines : List Line) (taken : Taken Front)
      (o : Option (Result HeadLine TreeKind)) → head_read p line ≡ o
      → ((l : HeadLine) → front_taken p (Some l) (suc number) lines ≡ Ok taken
      → TookMore l (suc number) lines taken)
      → front_on number line lines o ≡ Ok taken → TookHead number (line ∷ lines) taken
  at_head number line lines taken None is later e =
      took_nothing number (line ∷ lines) taken
      (good_is (record { what = []; number = number; behind = line ∷ lines }) taken e)
  at_head number line lines taken (Some read) is later e =
      let o =
      on_line_ok number read (λ next. front_taken p (Some next) (suc number) lines) taken e in
      let s =
      front_back p formed line o.0 (is ∙ ap (λ (x : Result HeadLine TreeKind). Some x) o.1) in
      took_line o.0 number line lines taken s.0 s.1 (later o.0 o.2)

  at_set : (l : HeadLine) (number : ℕ) (line : Line) (lines : List Line) (taken : Taken Front)
      (o : Option (Result Cover TreeKind)) → next_among p (sets_of l) line ≡ o
      → ((m : HeadLine) (t : Taken Front) → front_taken p (Some m) (suc number) lines ≡ Ok t
      → TookMore m (suc number) lines t)
      → set_on l number line lines o ≡ Ok taken → TookMore l number (line ∷ lines) taken
  at_set l number line lines taken None is later e =
      let w = with_line_ok l (front_on number line lines (head_read p line)) taken e in
      took_end l number (line ∷ lines) w.0 taken w.2
      (at_head number line lines w.0 (head_read p line) refl (λ m f. later m w.0 f) w.1)
  at_set l number line lines taken (Some read) is later e =
      let o =
      on_line_ok number read
      (λ cover. front_taken p (Some (with_set l cover)) (suc number) lines) taken e in
      let a = among_is p (sets_of l) line read is in
      let n = next_is p a.0 line read a.2 in
      let s = set_back p formed line o.0 (n.1 ∙ ap (λ (x : Result Cover TreeKind). Some x) o.1) in
      let g = one_set l o.0 a.0 a.1 n.0 s.1 in
      took_set l o.0 number line lines taken s.0 g.0 g.1 (later (with_set l o.0) taken o.2)

  took : (lines : List Line) (begun : Option HeadLine) (number : ℕ) (taken : Taken Front)
      → front_taken p begun number lines ≡ Ok taken → Took begun number lines taken
  unfolding front_taken
  took [] None number taken e =
      took_nothing number [] taken
      (good_is (record { what = []; number = number; behind = [] }) taken e)
  took [] (Some l) number taken e =
      let t : Taken Front = record { what = []; number = number; behind = [] } in
      took_end l number [] t taken
      (good_is (record { what = l ∷ []; number = number; behind = [] }) taken e)
      (took_nothing number [] t refl)
  took (line ∷ lines) None number taken e =
      at_head number line lines taken (head_read p line) refl
      (λ l f. took lines (Some l) (suc number) taken f) e
  took (line ∷ lines) (Some l) number taken e =
      at_set l number line lines taken (next_among p (sets_of l) line) refl
      (λ m t f. took lines (Some m) (suc number) t f) e

  -- the lines of a head, which is known
  pub record IsFrontOf (number : ℕ) (lines : List Line) (taken : Taken Front) : Type 0 where
    pub lines_are : lines ≡ lines_said (front_lines p taken.what) ++ taken.behind
    pub number_is : taken.number ≡ number + length (front_lines p taken.what)
    pub known : KnowsHead p taken.what

  pub front_took : (number : ℕ) (lines : List Line) (taken : Taken Front)
      → front_taken p None number lines ≡ Ok taken → IsFrontOf number lines taken
  front_took number lines taken e =
      let t : TookHead number lines taken = took lines None number taken e in
      record {
        lines_are = t.lines_are;
        number_is =
            counted_so number (front_lines p taken.what) lines taken.number taken.behind t.counted
            t.lines_are;
        known = t.known;
      }

  -- ---- what is read again

  begins_no_set : (head : Front) (behind : List Line) → KnowsHead p head → BeginsNoFront p behind
      → BeginsNoSet p (lines_said (front_lines p head) ++ behind)
  begins_no_set [] [] known stops = tt
  begins_no_set [] (line ∷ lines) known stops = stops.1
  begins_no_set (l ∷ ls) behind known stops = front_no_set p formed l known.0

  -- where no set comes, a line that was begun ends
  ends_there : (l : HeadLine) (number : ℕ) (lines : List Line) → BeginsNoSet p lines
      → front_taken p (Some l) number lines ≡ with_line l (front_taken p None number lines)
  unfolding front_taken
  ends_there l number [] stops = refl
  ends_there l number (line ∷ lines) stops =
      ap (set_on l number line lines)
      (among_none p (sets_of l) line (λ cs. next_none p cs line stops))

  set_taken : (l : HeadLine) (cs : List Cover) (c : Cover) (number : ℕ) (lines : List Line)
      → sets_of l ≡ Some cs → length cs < 1000000 → KnowsCover p c
      → front_taken p (Some l) number (line_of (cover_line p c) ∷ lines)
      ≡ front_taken p (Some (with_set l c)) (suc number) lines
  unfolding front_taken
  set_taken l cs c number lines e lt known =
      ap (set_on l number (line_of (cover_line p c)) lines)
      (ap (λ (o : Option (List Cover)). next_among p o (line_of (cover_line p c))) e
      ∙ next_again p cs (line_of (cover_line p c)) (Ok c) lt (set_again p formed c known))

  abbrev Again : Front → ℕ → List Line → Type 0
  Again head number behind =
      front_taken p None number (lines_said (front_lines p head) ++ behind)
      ≡ Ok
      (record { what = head; number = number + length (front_lines p head); behind = behind })

  -- of a line with sets that were begun
  sets_taken : (ss : List Cover) (l : HeadLine) (cs : List Cover) (number : ℕ) (lines : List Line)
      → sets_of l ≡ Some cs → Each (KnowsCover p) ss → length (cs ++ ss) ≤ 1000000
      → BeginsNoSet p lines
      → front_taken p (Some l) number (lines_said (map (cover_line p) ss) ++ lines)
      ≡ with_line (with_sets l ss) (front_taken p None (number + length ss) lines)
  sets_taken [] l cs number lines e known few stops =
      ends_there l number lines stops
      ∙ ap₂ (λ (m : HeadLine) (n : ℕ). with_line m (front_taken p None n lines))
      (sym (with_none l)) (let q : number ≡ number + 0 = omega arith in q)
  sets_taken (c ∷ ss) l cs number lines e known few stops =
      let size : length (cs ++ c ∷ ss) ≡ length cs + suc (length ss) = length-append cs (c ∷ ss) in
      let all : (cs ++ c ∷ []) ++ ss ≡ cs ++ c ∷ ss = append_assoc cs (c ∷ []) ss in
      set_taken l cs c number (lines_said (map (cover_line p) ss) ++ lines) e
      (omega (arith, size, few)) known.0
      ∙ sets_taken ss (with_set l c) (cs ++ c ∷ []) (suc number) lines
      (with_set_sets l c cs e) known.1
      (subst (λ (xs : List Cover). length xs ≤ 1000000) (sym all) few) stops
      ∙ ap₂ (λ (m : HeadLine) (n : ℕ). with_line m (front_taken p None n lines))
      (with_more l c ss)
      (let q : suc number + length ss ≡ number + suc (length ss) = omega arith in q)

  line_taken : (l : HeadLine) (number : ℕ) (lines : List Line) → FitsFrontLine p l
      → front_taken p None number (line_of (front_line p l) ∷ lines)
      ≡ front_taken p (Some l) (suc number) lines
  unfolding front_taken
  line_taken l number lines fits =
      ap (front_on number (line_of (front_line p l)) lines) (front_again p formed l fits)

  bare_fits : (l : HeadLine) → KnowsLine p l → FitsFrontLine p (bare l)
  bare_fits (step s) known = record { known = known; bare = refl }
  bare_fits (cap u v d ys covers) known = record {
    known = (
      known.0,
      known.1,
      record {
        scale = known.2.scale;
        multipliers = known.2.multipliers;
        few = omega arith;
        covers = tt;
      },
    );
    bare = refl;
  }
  bare_fits (out u d ys covers) known = record {
    known = (
      known.0,
      record {
        scale = known.1.scale;
        multipliers = known.1.multipliers;
        few = omega arith;
        covers = tt;
      },
    );
    bare = refl;
  }
  bare_fits (trim u) known = record { known = known; bare = refl }
  bare_fits (uses q d ys covers) known = record {
    known = (
      known.0,
      known.1,
      known.2,
      record {
        scale = known.3.scale;
        multipliers = known.3.multipliers;
        few = omega arith;
        covers = tt;
      },
    );
    bare = refl;
  }

  -- the sets of a line come after it
  own_sets : (l : HeadLine) (number : ℕ) (lines : List Line) → KnowsLine p l → BeginsNoSet p lines
      → front_taken p (Some (bare l)) number
      (lines_said (map (cover_line p) (sets_in l)) ++ lines)
      ≡ with_line l (front_taken p None (number + length (sets_in l)) lines)
  own_sets (step s) number lines known stops =
      ends_there (step s) number lines stops
      ∙ ap (λ (n : ℕ). with_line (step s) (front_taken p None n lines))
      (let q : number ≡ number + 0 = omega arith in q)
  own_sets (cap u v d ys covers) number lines known stops =
      sets_taken covers (cap u v d ys []) [] number lines refl known.2.covers known.2.few stops
  own_sets (out u d ys covers) number lines known stops =
      sets_taken covers (out u d ys []) [] number lines refl known.1.covers known.1.few stops
  own_sets (trim u) number lines known stops =
      ends_there (trim u) number lines stops
      ∙ ap (λ (n : ℕ). with_line (trim u) (front_taken p None n lines))
      (let q : number ≡ number + 0 = omega arith in q)
  own_sets (uses q d ys covers) number lines known stops =
      sets_taken covers (uses q d ys []) [] number lines refl known.3.covers known.3.few stops

  whole_line : (l : HeadLine) (number : ℕ) (lines : List Line) → KnowsLine p l
      → BeginsNoSet p lines
      → front_taken p None number (lines_said (front_with_sets p l) ++ lines)
      ≡ with_line l (front_taken p None (suc number + length (sets_in l)) lines)
  whole_line l number lines known stops =
      ap (λ (ts : List Token). front_taken p None number
      (line_of ts ∷ (lines_said (map (cover_line p) (sets_in l)) ++ lines))) (sym (bare_line p l))
      ∙ line_taken (bare l) number (lines_said (map (cover_line p) (sets_in l)) ++ lines)
      (bare_fits l known)
      ∙ own_sets l (suc number) lines known stops

  nothing_more : (number : ℕ) (behind : List Line) → BeginsNoFront p behind
      → front_taken p None number behind
      ≡ Ok (record { what = []; number = number; behind = behind })
  unfolding front_taken
  nothing_more number [] stops = refl
  nothing_more number (line ∷ lines) stops = ap (front_on number line lines) stops.0

  pub front_takes : (head : Front) (number : ℕ) (behind : List Line) → KnowsHead p head
      → BeginsNoFront p behind → Again head number behind
  front_takes [] number behind known stops =
      nothing_more number behind stops
      ∙ ap (λ (n : ℕ). good (let t : Taken Front =
      record { what = []; number = n; behind = behind } in t))
      (let q : number ≡ number + 0 = omega arith in q)
  front_takes (l ∷ ls) number behind known stops =
      let rest : List Line = lines_said (front_lines p ls) ++ behind in
      let here : ℕ = suc number + length (sets_in l) in
      let all : lines_said (front_lines p (l ∷ ls)) ≡ lines_said (front_with_sets p l)
      ++ lines_said (front_lines p ls) =
      map-append line_of (front_with_sets p l) (front_lines p ls) in
      let size : length (front_with_sets p l ++ front_lines p ls) ≡ length (front_with_sets p l)
      + length (front_lines p ls) = length-append (front_with_sets p l) (front_lines p ls) in
      let sets : length (map (cover_line p) (sets_in l)) ≡ length (sets_in l) =
      length-map (sets_in l) (cover_line p) in
      ap (λ (lines : List Line). front_taken p None number (lines ++ behind)) all
      ∙ ap (front_taken p None number)
      (append_assoc (lines_said (front_with_sets p l)) (lines_said (front_lines p ls)) behind)
      ∙ whole_line l number rest known.0 (begins_no_set ls behind known.1 stops)
      ∙ ap (with_line l) (front_takes ls here behind known.1 stops)
      ∙ ap (λ (n : ℕ). good (let t : Taken Front =
      record { what = l ∷ ls; number = n; behind = behind } in t))
      (let q : here + length (front_lines p ls) ≡ number + length (front_lines p (l ∷ ls)) =
      omega (arith, size, sets) in q)

  -- ---- tokens

  sets_tokens : (cs : List Cover) → Each (KnowsCover p) cs
      → Each (Each IsToken) (map (cover_line p) cs)
  sets_tokens [] known = tt
  sets_tokens (c ∷ cs) known = (set_line_tokens p formed c known.0, sets_tokens cs known.1)

  line_tokens : (l : HeadLine) → KnowsLine p l → Each (Each IsToken) (front_with_sets p l)
  line_tokens (step s) known = (front_line_tokens p formed (step s) known, tt)
  line_tokens (cap u v d ys covers) known =
      (front_line_tokens p formed (cap u v d ys covers) known, sets_tokens covers known.2.covers)
  line_tokens (out u d ys covers) known =
      (front_line_tokens p formed (out u d ys covers) known, sets_tokens covers known.1.covers)
  line_tokens (trim u) known = (front_line_tokens p formed (trim u) known, tt)
  line_tokens (uses q d ys covers) known =
      (front_line_tokens p formed (uses q d ys covers) known, sets_tokens covers known.3.covers)

  pub front_each : (head : Front) → KnowsHead p head → Each (Each IsToken) (front_lines p head)
  front_each [] known = tt
  front_each (l ∷ ls) known =
      each-append (Each IsToken) (front_with_sets p l) (front_lines p ls)
      (line_tokens l known.0) (front_each ls known.1)
