-- The lines of an end, both ways: its own line, and those of the sets of a charge.
use Rattle.std.proofs.Common.{◌≡◌, ◌+◌, ◌<◌, ◌≤◌, ℕ, suc, List, [], ◌∷◌, ◌++◌, length, map, Option}
use Rattle.std.proofs.Common.{Some, None, Result, Ok, refl, sym, ◌∙◌, ap, ap₂, subst, append_assoc}
use Rattle.std.proofs.Common.{append-nil, length-append, arith}
use Rattle.std.proofs.lemmas.List.{length-map}
use Rattle.tree_text_rules.specs.problem_rules.Each.{Each}
use Rattle.tree_text_rules.specs.problem_rules.Problem.{Problem}
use Rattle.tree_text_rules.specs.problem_rules.WellFormed.{IsWellFormed}
use Rattle.tree_text_rules.specs.flow_rules.Cover.{Cover}
use Rattle.tree_text_rules.specs.flow_rules.ChargeLeaf.{Handed}
use Rattle.tree_text_rules.specs.tree_rules.Tree as trees
use Rattle.tree_text_rules.specs.tree_rules.Leaf.{Leaf}
use Rattle.tree_text_rules.specs.tree_rules.Known.{KnowsCover, KnowsCharge, KnowsEnd}
use Rattle.tree_text_rules.specs.Line.{Line}
use Rattle.tree_text_rules.specs.LineRead.{end_line_read, next_cover}
use Rattle.tree_text_rules.specs.Read.{Fault, Taken, with_covers, charge_end, charge_of, on_line}
use Rattle.tree_text_rules.specs.Read.{then_read, covers_taken, end_behind, end_taken}
use Rattle.tree_text_rules.specs.Spelling.{end_line, cover_line, covers_in, end_with_sets}
use Rattle.tree_text_rules.specs.declared.TreeKind.{TreeKind}
use Rattle.tree_text_laws.specs.LineFits.{FitsEnd, FitsEndLine}
use Rattle.tree_text_laws.specs.Codes.{line_of}
use Rattle.tree_text_laws.specs.Lines.{lines_said, BeginsNoSet}
use Rattle.tree_text_laws.proofs.NodeLines.{end_lines, set_back, set_again}
use Rattle.tree_text_laws.proofs.Nodes.{charge_is, no_covers, next_is, next_again, next_none}
use Rattle.tree_text_laws.proofs.PartTexts.{good, good_is, on_line_ok, then_ok, first_back}
use Rattle.tree_text_laws.proofs.PartTexts.{first_again}

abbrev End : Type 0
End = trees.End Leaf

module _ (p : Problem) (formed : IsWellFormed p) where
  -- sets after others, and what follows them
  record TookCovers (cs : List Cover) (number : ℕ) (lines : List Line)
      (taken : Taken (List Cover)) : Type 0 where
    counted : taken.number + length taken.behind ≡ number + length lines
    covers : List Cover
    what_is : taken.what ≡ cs ++ covers
    lines_are : lines ≡ lines_said (map (cover_line p) covers) ++ taken.behind
    known : Each (KnowsCover p) covers
    few : length cs ≤ 1000000 → length (cs ++ covers) ≤ 1000000

  took_none : (cs : List Cover) (number : ℕ) (lines : List Line) (taken : Taken (List Cover))
      → record { what = cs; number = number; behind = lines } ≡ taken
      → TookCovers cs number lines taken
  took_none cs number lines taken is =
      subst (λ (t : Taken (List Cover)). TookCovers cs number lines t) is record {
        counted = refl;
        covers = [];
        what_is = sym (append-nil cs);
        lines_are = refl;
        known = tt;
        few = λ le. subst (λ (xs : List Cover). length xs ≤ 1000000) (sym (append-nil cs)) le;
      }

  took_one : (cs : List Cover) (number : ℕ) (line : Line) (lines : List Line) (c : Cover)
      (taken : Taken (List Cover)) → line ≡ line_of (cover_line p c) → KnowsCover p c
      → length cs < 1000000 → TookCovers (cs ++ c ∷ []) (suc number) lines taken
      → TookCovers cs number (line ∷ lines) taken
  took_one cs number line lines c taken e known lt t =
      let one_more : length (cs ++ c ∷ []) ≡ length cs + 1 = length-append cs (c ∷ []) in
      record {
        counted = omega (arith, t.counted);
        covers = c ∷ t.covers;
        what_is = t.what_is ∙ append_assoc cs (c ∷ []) t.covers;
        lines_are = ap₂ (λ (a : Line) (b : List Line). a ∷ b) e t.lines_are;
        known = (known, t.known);
        few =
            λ le. subst (λ (xs : List Cover). length xs ≤ 1000000)
            (append_assoc cs (c ∷ []) t.covers) (t.few (omega (arith, one_more, lt)));
      }

  -- what is read of a line after sets
  abbrev covers_on : List Cover → ℕ → Line → List Line → Option (Result Cover TreeKind)
      → Result (Taken (List Cover)) Fault
  covers_on cs number line lines o = elim o [
    | None ↦ Ok (record { what = cs; number = number; behind = line ∷ lines })
    | Some read
        ↦ on_line number read (λ cover. covers_taken p (cs ++ cover ∷ []) (suc number) lines)
  ]

  took_by : (cs : List Cover) (number : ℕ) (line : Line) (lines : List Line)
      (taken : Taken (List Cover)) (o : Option (Result Cover TreeKind)) → next_cover p cs line ≡ o
      → ((xs : List Cover) → covers_taken p xs (suc number) lines ≡ Ok taken
      → TookCovers xs (suc number) lines taken) → covers_on cs number line lines o ≡ Ok taken
      → TookCovers cs number (line ∷ lines) taken
  took_by cs number line lines taken None is later e =
      took_none cs number (line ∷ lines) taken
      (good_is (record { what = cs; number = number; behind = line ∷ lines }) taken e)
  took_by cs number line lines taken (Some read) is later e =
      let o =
      on_line_ok number read (λ cover. covers_taken p (cs ++ cover ∷ []) (suc number) lines)
      taken e in
      let n = next_is p cs line read is in
      let s = set_back p formed line o.0 (n.1 ∙ ap (λ (x : Result Cover TreeKind). Some x) o.1) in
      took_one cs number line lines o.0 taken s.0 s.1 n.0 (later (cs ++ o.0 ∷ []) o.2)

  covers_back : (lines : List Line) (cs : List Cover) (number : ℕ) (taken : Taken (List Cover))
      → covers_taken p cs number lines ≡ Ok taken → TookCovers cs number lines taken
  covers_back [] cs number taken e =
      took_none cs number [] taken
      (good_is (record { what = cs; number = number; behind = [] }) taken e)
  covers_back (line ∷ lines) cs number taken e =
      took_by cs number line lines taken (next_cover p cs line) refl
      (λ xs f. covers_back lines xs (suc number) taken f) e

  no_more : (cs : List Cover) (number : ℕ) (behind : List Line) → BeginsNoSet p behind
      → covers_taken p cs number behind
      ≡ Ok (record { what = cs; number = number; behind = behind })
  no_more cs number [] stops = refl
  no_more cs number (line ∷ lines) stops =
      ap (covers_on cs number line lines) (next_none p cs line stops)

  covers_again : (ss cs : List Cover) (number : ℕ) (behind : List Line) → Each (KnowsCover p) ss
      → length (cs ++ ss) ≤ 1000000 → BeginsNoSet p behind
      → covers_taken p cs number (lines_said (map (cover_line p) ss) ++ behind)
      ≡ Ok (record { what = cs ++ ss; number = number + length ss; behind = behind })
  covers_again [] cs number behind known few stops =
      no_more cs number behind stops
      ∙ ap₂
      (λ (xs : List Cover) (n : ℕ). good
      (let t : Taken (List Cover) = record { what = xs; number = n; behind = behind } in t))
      (sym (append-nil cs)) (let e : number ≡ number + 0 = omega arith in e)
  covers_again (c ∷ ss) cs number behind known few stops =
      let size : length (cs ++ c ∷ ss) ≡ length cs + suc (length ss) = length-append cs (c ∷ ss) in
      let lt : length cs < 1000000 = omega (arith, size, few) in
      let all : (cs ++ c ∷ []) ++ ss ≡ cs ++ c ∷ ss = append_assoc cs (c ∷ []) ss in
      ap (covers_on cs number (line_of (cover_line p c))
      (lines_said (map (cover_line p) ss) ++ behind))
      (next_again p cs (line_of (cover_line p c)) (Ok c) lt (set_again p formed c known.0))
      ∙ covers_again ss (cs ++ c ∷ []) (suc number) behind known.1
      (subst (λ (xs : List Cover). length xs ≤ 1000000) (sym all) few) stops
      ∙ ap₂
      (λ (xs : List Cover) (n : ℕ). good
      (let t : Taken (List Cover) = record { what = xs; number = n; behind = behind } in t)) all
      (let e : suc number + length ss ≡ number + suc (length ss) = omega arith in e)

  -- ---- ends

  -- the lines of an end, which fits
  pub record IsEndOf (number : ℕ) (lines : List Line) (taken : Taken End) : Type 0 where
    pub lines_are : lines ≡ lines_said (end_with_sets p taken.what) ++ taken.behind
    pub counted : taken.number + length taken.behind ≡ number + length lines
    pub fits : FitsEnd p taken.what

  behind_back : (x : End) (o : Option Handed) (number : ℕ) (rest : List Line) (taken : Taken End)
      → charge_of x ≡ o → FitsEndLine p x → end_behind p x o (suc number) rest ≡ Ok taken
      → IsEndOf number (line_of (end_line p x) ∷ rest) taken
  behind_back x None number rest taken is fits e =
      let t : Taken End = record { what = x; number = suc number; behind = rest } in
      subst (λ (q : Taken End). IsEndOf number (line_of (end_line p x) ∷ rest) q)
      (good_is t taken e) record {
        lines_are =
            ap (λ (cs : List Cover). line_of (end_line p x)
            ∷ (lines_said (map (cover_line p) cs) ++ rest)) (sym fits.bare);
        counted = omega arith;
        fits = fits.fits;
      }
  behind_back x (Some c) number rest taken is fits e =
      let same : x ≡ charge_end c = charge_is x c is in
      let bare : c.covers ≡ [] = subst (λ (y : End). covers_in y ≡ []) same fits.bare in
      let known : KnowsCharge p c = subst (λ (y : End). KnowsEnd p y) same fits.fits.known in
      let o =
      then_ok (covers_taken p c.covers (suc number) rest)
      (λ covers number lines. Ok
      (record { what = charge_end (with_covers c covers); number = number; behind = lines }))
      taken e in
      let t = covers_back rest c.covers (suc number) o.0 o.1 in
      let all : t.covers ≡ o.0.what = ap (λ (cs : List Cover). cs ++ t.covers) (sym bare)
      ∙ sym t.what_is in
      let found : Taken End =
      record {
        what = charge_end (with_covers c o.0.what);
        number = o.0.number;
        behind =
            o.0.behind;
      } in
      subst (λ (q : Taken End). IsEndOf number (line_of (end_line p x) ∷ rest) q)
      (good_is found taken o.2) record {
        lines_are =
            ap₂ (λ (a : Line) (b : List Line). a ∷ b)
            (ap (λ (y : End). line_of (end_line p y)) same) t.lines_are
            ∙ ap
            (λ (cs : List Cover). line_of (end_line p (charge_end c))
            ∷ (lines_said (map (cover_line p) cs) ++ o.0.behind)) all;
        counted = omega (arith, t.counted);
        fits = record {
          known = record {
            scale = known.scale;
            multipliers = known.multipliers;
            few =
                subst (λ (cs : List Cover). length cs ≤ 1000000) (sym t.what_is) (t.few known.few);
            covers = subst (λ (cs : List Cover). Each (KnowsCover p) cs) all t.known;
          };
          some = tt;
          counted = tt;
        };
      }

  pub end_back : (number : ℕ) (lines : List Line) (taken : Taken End)
      → end_taken p number lines ≡ Ok taken → IsEndOf number lines taken
  end_back number lines taken e =
      let a =
      first_back (end_line_read p) (end_line p) (FitsEndLine p) (end_lines p formed) number
      lines (λ end lines. end_behind p end (charge_of end) (suc number) lines) taken e in
      subst (λ (ls : List Line). IsEndOf number ls taken) (sym a.lines_are)
      (behind_back a.what (charge_of a.what) number a.rest taken refl a.fits a.reads)

  abbrev EndAgain : End → ℕ → List Line → Type 0
  EndAgain x number behind =
      end_taken p number (lines_said (end_with_sets p x) ++ behind)
      ≡ Ok (record { what = x; number = number + length (end_with_sets p x); behind = behind })

  abbrev then_behind : ℕ → End → List Line → Result (Taken End) Fault
  then_behind number end lines = end_behind p end (charge_of end) (suc number) lines

  charge_again : (c : Handed) (number : ℕ) (behind : List Line) → KnowsCharge p c
      → BeginsNoSet p behind → EndAgain (charge_end c) number behind
  charge_again c number behind known stops =
      let bare : FitsEndLine p (charge_end (with_covers c [])) = record {
        fits =
            record {
              known =
                  record {
                    scale = known.scale;
                    multipliers = known.multipliers;
                    few =
                        omega arith;
                    covers = tt;
                  };
              some = tt;
              counted = tt;
            };
        bare = refl;
      } in
      let rest : List Line = lines_said (map (cover_line p) c.covers) ++ behind in
      let size : length (map (cover_line p) c.covers) ≡ length c.covers =
      length-map c.covers (cover_line p) in
      let last : suc number + length c.covers ≡ number
      + suc (length (map (cover_line p) c.covers)) = omega (arith, size) in
      first_again (end_line_read p) (end_line p) (FitsEndLine p) (end_lines p formed) number
      (charge_end (with_covers c [])) rest (then_behind number) bare
      ∙ ap
      (λ (r : Result (Taken (List Cover)) Fault). then_read r
      (λ covers number lines. good
      (let t : Taken End =
      record { what = charge_end (with_covers c covers); number = number; behind = lines } in
      t)))
      (covers_again c.covers [] (suc number) behind known.covers known.few stops)
      ∙ ap
      (λ (n : ℕ). good (let t : Taken End =
      record { what = charge_end c; number = n; behind = behind } in t)) last

  by_charge : (x : End) (o : Option Handed) (number : ℕ) (behind : List Line) → charge_of x ≡ o
      → FitsEnd p x → BeginsNoSet p behind → EndAgain x number behind
  by_charge x None number behind e fits stops =
      let bare : covers_in x ≡ [] = no_covers x e in
      let one : suc number ≡ number + 1 = omega arith in
      ap (λ (cs : List Cover). end_taken p number
      (line_of (end_line p x) ∷ (lines_said (map (cover_line p) cs) ++ behind))) bare
      ∙ first_again (end_line_read p) (end_line p) (FitsEndLine p) (end_lines p formed) number x
      behind (then_behind number) (record { fits = fits; bare = bare })
      ∙ ap (λ (o : Option Handed). end_behind p x o (suc number) behind) e
      ∙ ap
      (λ (n : ℕ). good (let t : Taken End =
      record { what = x; number = n; behind = behind } in t)) one
      ∙ ap
      (λ (cs : List Cover). good (let t : Taken End =
      record {
        what = x;
        number = number + suc (length (map (cover_line p) cs));
        behind =
            behind;
      } in t)) (sym bare)
  by_charge x (Some c) number behind e fits stops =
      let same : x ≡ charge_end c = charge_is x c e in
      subst (λ (y : End). EndAgain y number behind) (sym same)
      (charge_again c number behind (subst (λ (y : End). KnowsEnd p y) same fits.known) stops)

  pub end_again : (x : End) (number : ℕ) (behind : List Line) → FitsEnd p x → BeginsNoSet p behind
      → EndAgain x number behind
  end_again x number behind fits stops = by_charge x (charge_of x) number behind refl fits stops
