-- The lines of a node, both ways.
use Rattle.std.proofs.Common.{◌≡◌, ◌<◌, Bool, true, ℕ, ℤ, List, [], ◌∷◌, map, decimal, arith}
use Rattle.std.proofs.Common.{Option, Some, None, IfSome, Result, Ok, refl, sym, ◌∙◌, ap, ap₂}
use Rattle.std.proofs.Common.{subst}
use Rattle.std.specs.Fmt.{signed_decimal}
use Rattle.std.proofs.lemmas.List.Elements.{All-cons, All-nil, All-head, All-tail}
use Rattle.tree_text_rules.specs.integer_laws.Range.{InRange, AllInRange}
use Rattle.tree_text_rules.specs.problem_rules.Each.{Each}
use Rattle.tree_text_rules.specs.problem_rules.Problem.{Problem}
use Rattle.tree_text_rules.specs.problem_rules.WellFormed.{IsWellFormed}
use Rattle.tree_text_rules.specs.pns_rules.Nodes as nodes
use Rattle.tree_text_rules.specs.flow_rules.Cover.{Cover}
use Rattle.tree_text_rules.specs.tree_rules.Ways as ways
use Rattle.tree_text_rules.specs.tree_rules.Tree as trees
use Rattle.tree_text_rules.specs.tree_rules.Leaf as leaves
use Rattle.tree_text_rules.specs.tree_rules.Known.{IsUnit, IsMaterial, IsExclusion, AreUnits}
use Rattle.tree_text_rules.specs.tree_rules.Known.{KnowsStep, KnowsCover}
use Rattle.tree_text_rules.specs.tree_rules.Known.{KnowsCharge}
use Rattle.tree_text_rules.specs.tree_rules.Charged.{handed}
use Rattle.tree_text_rules.specs.tree_rules.Head as heads
use Rattle.tree_text_rules.specs.tree_rules.Head.{HeadLine}
use Rattle.tree_text_rules.specs.tree_rules.HeadKnown.{KnowsLine}
use Rattle.tree_text_rules.specs.Line.{Token, Line, is_formed, word_text, word_of, fields_of}
use Rattle.tree_text_rules.specs.LineRead.{formed, one, two, one_and_more, step_by, formed_step}
use Rattle.tree_text_rules.specs.LineRead.{step_read, open_of, end_by, end_line_read, some_units}
use Rattle.tree_text_rules.specs.LineRead.{set_of, set_beside, cover_by, formed_cover, cover_read}
use Rattle.tree_text_rules.specs.LineRead.{cap_of, out_of, use_of, head_step, head_by}
use Rattle.tree_text_rules.specs.LineRead.{formed_head, head_read, option_by, option_read, root_by}
use Rattle.tree_text_rules.specs.LineRead.{root_read}
use Rattle.tree_text_rules.specs.Read.{with_covers, charge_end}
use Rattle.tree_text_rules.specs.Spelling.{unit_name, material_name, exclusion_name, step_line}
use Rattle.tree_text_rules.specs.Spelling.{end_line, set_line, cover_line, front_line}
use Rattle.tree_text_rules.specs.Spelling.{option_line}
use Rattle.tree_text_rules.specs.Token.{both, mapped, each, weight_of, unit_of, material_of}
use Rattle.tree_text_rules.specs.Token.{exclusion_of, units_of, number_of, children_of}
use Rattle.tree_text_rules.specs.declared.TreeKind.{TreeKind}
use Rattle.tree_text_rules.specs.declared.Word.{Word}
use Rattle.tree_text_rules.specs.declared.Word.TheVariants as words
use Rattle.tree_text_laws.specs.LineFits.{IsSomeCount, IsWeight, FitsEnd, FitsEndLine}
use Rattle.tree_text_laws.specs.LineFits.{FitsFrontLine}
use Rattle.tree_text_laws.proofs.Codes.{done, done_is, mapped_ok, both_ok, formed_ok, formed_again}
use Rattle.tree_text_laws.proofs.Codes.{alone_ok, AreFields, one_fields, two_fields, each_fields}
use Rattle.tree_text_laws.proofs.Codes.{more_fields, line_by, line_is}
use Rattle.tree_text_laws.proofs.Decimals.{number_code, weight_code, children}
use Rattle.tree_text_laws.proofs.Names.{unit_code, material_code, exclusion_code, units_fields}
use Rattle.tree_text_laws.specs.Codes.{line_of, IsToken, IsLineCode}
use Rattle.tree_text_laws.proofs.Said.{says_word, word_is_token}

-- ---- what is read of the tokens after a word is put into a value

pub mapped_back : {A B : Type 0} (f : A → B) (read : List Token → Result A TreeKind)
    (spell : A → List Token) (Fits : A → Type 0) (code : AreFields read spell Fits) (P : B → Type 0)
    → (tokens : List Token) → ((a : A) → tokens ≡ spell a → Fits a → P (f a)) → (b : B)
    → mapped f (read tokens) ≡ Ok b → P b
mapped_back f read spell Fits code P tokens shows b e =
    let m = mapped_ok f (read tokens) b e in
    let c = code.back tokens m.0 m.1 in
    subst P m.2 (shows m.0 c.0 c.1)

pub all_each : (ys : List ℤ) → AllInRange ys → Each InRange ys
all_each [] all = tt
all_each (y ∷ ys) all = (All-head InRange y ys all, all_each ys (All-tail InRange y ys all))

pub each_all : (ys : List ℤ) → Each InRange ys → AllInRange ys
each_all [] each = All-nil InRange
each_all (y ∷ ys) each = All-cons InRange y ys each.0 (each_all ys each.1)

pub numbers_fields : AreFields (each number_of) (map signed_decimal) AllInRange
numbers_fields =
    let numbers = each_fields number_of signed_decimal InRange number_code in
    record {
      back = λ tokens ys e. let b = numbers.back tokens ys e in (b.0, each_all ys b.1);
      again = λ ys all. numbers.again ys (all_each ys all);
      tokens = λ ys all. numbers.tokens ys (all_each ys all);
    }

module _ (p : Problem) (good : IsWellFormed p) where
  one_unit : AreFields (one (unit_of p)) (λ u. unit_name p u ∷ []) (IsUnit p)
  one_unit = one_fields (unit_of p) (unit_name p) (IsUnit p) (unit_code p good)

  one_material : AreFields (one (material_of p)) (λ x. material_name p x ∷ []) (IsMaterial p)
  one_material = one_fields (material_of p) (material_name p) (IsMaterial p) (material_code p good)

  one_exclusion : AreFields (one (exclusion_of p)) (λ k. exclusion_name p k ∷ []) (IsExclusion p)
  one_exclusion =
      one_fields (exclusion_of p) (exclusion_name p) (IsExclusion p) (exclusion_code p good)

  pair : AreFields (two (material_of p) (unit_of p))
      (λ c. material_name p c.0 ∷ unit_name p c.1 ∷ []) (λ c. IsMaterial p c.0 × IsUnit p c.1)
  pair =
      two_fields (material_of p) (material_name p) (IsMaterial p) (material_code p good) (unit_of p)
      (unit_name p) (IsUnit p) (unit_code p good)

  branching : AreFields (two (material_of p) children_of)
      (λ c. material_name p c.0 ∷ decimal c.1 ∷ []) (λ c. IsMaterial p c.0 × IsSomeCount c.1)
  branching =
      two_fields (material_of p) (material_name p) (IsMaterial p) (material_code p good) children_of
      decimal IsSomeCount children

  bounding : AreFields (one_and_more number_of number_of)
      (λ c. signed_decimal c.0 ∷ map signed_decimal c.1) (λ c. InRange c.0 × Each InRange c.1)
  bounding =
      more_fields number_of signed_decimal InRange number_code number_of signed_decimal InRange
      number_code

  -- ---- steps

  abbrev step_word : nodes.Step → Word
  step_word (nodes.raw u) = words.Raw
  step_word (nodes.rival u) = words.Rival
  step_word (nodes.starve x) = words.Starve
  step_word (nodes.loose us) = words.Loose
  step_word (nodes.sole x u) = words.Sole

  abbrev step_fields : nodes.Step → List Token
  step_fields (nodes.raw u) = unit_name p u ∷ []
  step_fields (nodes.rival u) = unit_name p u ∷ []
  step_fields (nodes.starve x) = material_name p x ∷ []
  step_fields (nodes.loose us) = map (unit_name p) us
  step_fields (nodes.sole x u) = material_name p x ∷ unit_name p u ∷ []

  step_is : (s : nodes.Step) → word_text (step_word s) ∷ step_fields s ≡ step_line p s
  step_is (nodes.raw u) = refl
  step_is (nodes.rival u) = refl
  step_is (nodes.starve x) = refl
  step_is (nodes.loose us) = refl
  step_is (nodes.sole x u) = refl

  step_tokens : (s : nodes.Step) → KnowsStep p s → Each IsToken (step_fields s)
  step_tokens (nodes.raw u) known = one_unit.tokens u known
  step_tokens (nodes.rival u) known = one_unit.tokens u known
  step_tokens (nodes.starve x) known = one_material.tokens x known
  step_tokens (nodes.loose us) known = (units_fields p good).tokens us known
  step_tokens (nodes.sole x u) known = pair.tokens (x, u) known

  by_again : (s : nodes.Step) → KnowsStep p s
      → step_by p (Some (step_word s)) (step_fields s) ≡ Some (Ok s)
  by_again (nodes.raw u) known =
      ap (λ (r : Result ℕ TreeKind). Some (mapped nodes.raw r)) (one_unit.again u known)
  by_again (nodes.rival u) known =
      ap (λ (r : Result ℕ TreeKind). Some (mapped nodes.rival r)) (one_unit.again u known)
  by_again (nodes.starve x) known =
      ap (λ (r : Result ℕ TreeKind). Some (mapped nodes.starve r)) (one_material.again x known)
  by_again (nodes.loose us) known =
      ap (λ (r : Result (List ℕ) TreeKind). Some (mapped nodes.loose r))
      ((units_fields p good).again us known)
  by_again (nodes.sole x u) known =
      ap (λ (r : Result (ℕ × ℕ) TreeKind). Some (mapped (λ found. nodes.sole found.0 found.1) r))
      (pair.again (x, u) known)

  pub step_again : (s : nodes.Step) → KnowsStep p s
      → step_read p (line_of (step_line p s)) ≡ Some (Ok s)
  step_again s known =
      let line : Line = line_of (word_text (step_word s) ∷ step_fields s) in
      let says = says_word (step_word s) (step_fields s) (step_tokens s known) in
      ap (λ (ts : List Token). step_read p (line_of ts)) (sym (step_is s))
      ∙ ap₂ (λ (w : Option Word) (ts : List Token). formed_step line (step_by p w ts)) says.word_is
      says.fields_are
      ∙ ap (formed_step line) (by_again s known)
      ∙ ap (λ (r : Result nodes.Step TreeKind). Some r) (formed_again line (done s) says.formed)

  pub step_line_tokens : (s : nodes.Step) → KnowsStep p s → Each IsToken (step_line p s)
  step_line_tokens s known =
      subst (λ (ts : List Token). Each IsToken ts) (step_is s)
      (word_is_token (step_word s), step_tokens s known)

  -- a line's word and tokens are those of a step
  abbrev SpellsStep : Option Word → List Token → nodes.Step → Type 0
  SpellsStep word tokens s = (word ≡ Some (step_word s)) × (tokens ≡ step_fields s) × KnowsStep p s

  some_is : {A : Type 0} (r s : Result A TreeKind) → Some r ≡ Some s → r ≡ s
  some_is r s e = cc

  by_back : (word : Option Word) (tokens : List Token) (r : Result nodes.Step TreeKind)
      → step_by p word tokens ≡ Some r → (s : nodes.Step) → r ≡ Ok s → SpellsStep word tokens s
  by_back (Some words.Raw) tokens r e s f =
      mapped_back nodes.raw (one (unit_of p)) (λ u. unit_name p u ∷ []) (IsUnit p) one_unit
      (SpellsStep (Some words.Raw) tokens) tokens (λ u is known. (refl, is, known)) s
      (some_is (mapped nodes.raw (one (unit_of p) tokens)) r e ∙ f)
  by_back (Some words.Rival) tokens r e s f =
      mapped_back nodes.rival (one (unit_of p)) (λ u. unit_name p u ∷ []) (IsUnit p) one_unit
      (SpellsStep (Some words.Rival) tokens) tokens (λ u is known. (refl, is, known)) s
      (some_is (mapped nodes.rival (one (unit_of p) tokens)) r e ∙ f)
  by_back (Some words.Starve) tokens r e s f =
      mapped_back nodes.starve (one (material_of p)) (λ x. material_name p x ∷ []) (IsMaterial p)
      one_material (SpellsStep (Some words.Starve) tokens) tokens
      (λ x is known. (refl, is, known)) s
      (some_is (mapped nodes.starve (one (material_of p) tokens)) r e ∙ f)
  by_back (Some words.Loose) tokens r e s f =
      mapped_back nodes.loose (units_of p) (map (unit_name p)) (AreUnits p) (units_fields p good)
      (SpellsStep (Some words.Loose) tokens) tokens (λ us is known. (refl, is, known)) s
      (some_is (mapped nodes.loose (units_of p tokens)) r e ∙ f)
  by_back (Some words.Sole) tokens r e s f =
      mapped_back (λ found. nodes.sole found.0 found.1) (two (material_of p) (unit_of p))
      (λ c. material_name p c.0 ∷ unit_name p c.1 ∷ []) (λ c. IsMaterial p c.0 × IsUnit p c.1)
      pair (SpellsStep (Some words.Sole) tokens) tokens
      (λ c is known. (refl, is, known)) s
      (some_is
      (mapped (λ found. nodes.sole found.0 found.1) (two (material_of p) (unit_of p) tokens)) r
      e ∙ f)
  by_back word tokens r e s f = absurd cc

  at_step : (line : Line) (o : Option (Result nodes.Step TreeKind)) (s : nodes.Step)
      → step_by p (word_of line) (fields_of line) ≡ o → formed_step line o ≡ Some (Ok s)
      → (line ≡ line_of (step_line p s)) × KnowsStep p s
  at_step line None s e f = absurd cc
  at_step line (Some r) s e f =
      let g = formed_ok line r s (some_is (formed line r) (done s) f) in
      let b = by_back (word_of line) (fields_of line) r e s g.1 in
      (line_is line (step_word s) (step_fields s) g.0 b.0 b.1 ∙ ap line_of (step_is s), b.2)

  pub step_back : (line : Line) (s : nodes.Step) → step_read p line ≡ Some (Ok s)
      → (line ≡ line_of (step_line p s)) × KnowsStep p s
  step_back line s e = at_step line (step_by p (word_of line) (fields_of line)) s refl e

  -- ---- ends

  abbrev end_word : trees.End leaves.Leaf → Word
  end_word (trees.leaf (leaves.dead x)) = words.Dead
  end_word (trees.leaf (leaves.clash k)) = words.Clash
  end_word (trees.leaf (leaves.refuted ys)) = words.Refuted
  end_word (trees.leaf (leaves.bounded d ys)) = words.Bound
  end_word (trees.leaf (leaves.charged h)) = words.Charge
  end_word (trees.leaf (leaves.untried low)) = words.Open
  end_word (trees.branch (ways.at_material x c)) = words.Branch
  end_word (trees.branch (ways.either u)) = words.Either

  abbrev end_fields : trees.End leaves.Leaf → List Token
  end_fields (trees.leaf (leaves.dead x)) = material_name p x ∷ []
  end_fields (trees.leaf (leaves.clash k)) = exclusion_name p k ∷ []
  end_fields (trees.leaf (leaves.refuted ys)) = map signed_decimal ys
  end_fields (trees.leaf (leaves.bounded d ys)) = signed_decimal d ∷ map signed_decimal ys
  end_fields (trees.leaf (leaves.charged h)) = signed_decimal h.d ∷ map signed_decimal h.ys
  end_fields (trees.leaf (leaves.untried None)) = []
  end_fields (trees.leaf (leaves.untried (Some low))) =
      signed_decimal low.d ∷ map signed_decimal low.ys
  end_fields (trees.branch (ways.at_material x c)) = material_name p x ∷ decimal c ∷ []
  end_fields (trees.branch (ways.either u)) = unit_name p u ∷ []

  end_is : (e : trees.End leaves.Leaf) → word_text (end_word e) ∷ end_fields e ≡ end_line p e
  end_is (trees.leaf (leaves.dead x)) = refl
  end_is (trees.leaf (leaves.clash k)) = refl
  end_is (trees.leaf (leaves.refuted ys)) = refl
  end_is (trees.leaf (leaves.bounded d ys)) = refl
  end_is (trees.leaf (leaves.charged h)) = refl
  end_is (trees.leaf (leaves.untried None)) = refl
  end_is (trees.leaf (leaves.untried (Some low))) = refl
  end_is (trees.branch (ways.at_material x c)) = refl
  end_is (trees.branch (ways.either u)) = refl

  end_tokens : (e : trees.End leaves.Leaf) → FitsEnd p e → Each IsToken (end_fields e)
  end_tokens (trees.leaf (leaves.dead x)) fits = one_material.tokens x fits.known
  end_tokens (trees.leaf (leaves.clash k)) fits = one_exclusion.tokens k fits.known
  end_tokens (trees.leaf (leaves.refuted ys)) fits = numbers_fields.tokens ys fits.known
  end_tokens (trees.leaf (leaves.bounded d ys)) fits =
      bounding.tokens (d, ys) (fits.known.0, all_each ys fits.known.1)
  end_tokens (trees.leaf (leaves.charged h)) fits =
      bounding.tokens (h.d, h.ys) (fits.known.scale, all_each h.ys fits.known.multipliers)
  end_tokens (trees.leaf (leaves.untried None)) fits = tt
  end_tokens (trees.leaf (leaves.untried (Some low))) fits =
      bounding.tokens (low.d, low.ys) (fits.known.0, all_each low.ys fits.known.1)
  end_tokens (trees.branch (ways.at_material x c)) fits =
      branching.tokens (x, c) (fits.known, (fits.some, fits.counted))
  end_tokens (trees.branch (ways.either u)) fits = one_unit.tokens u fits.known

  -- of a charge without the sets after its line
  end_again : (e : trees.End leaves.Leaf) → FitsEndLine p e
      → end_by p (Some (end_word e)) (end_fields e) ≡ Ok e
  end_again (trees.leaf (leaves.dead x)) f =
      ap (mapped (λ x. trees.leaf (leaves.dead x))) (one_material.again x f.fits.known)
  end_again (trees.leaf (leaves.clash k)) f =
      ap (mapped (λ k. trees.leaf (leaves.clash k))) (one_exclusion.again k f.fits.known)
  end_again (trees.leaf (leaves.refuted ys)) f =
      ap (mapped (λ ys. trees.leaf (leaves.refuted ys))) (numbers_fields.again ys f.fits.known)
  end_again (trees.leaf (leaves.bounded d ys)) f =
      ap (mapped (λ found. trees.leaf (leaves.bounded found.0 found.1)))
      (bounding.again (d, ys) (f.fits.known.0, all_each ys f.fits.known.1))
  end_again (trees.leaf (leaves.charged h)) f =
      ap (mapped
      (λ found. trees.leaf
      (leaves.charged (record { d = found.0; ys = found.1; covers = [] }))))
      (bounding.again (h.d, h.ys) (f.fits.known.scale, all_each h.ys f.fits.known.multipliers))
      ∙ ap (λ (cs : List Cover). done (charge_end (with_covers h cs))) (sym f.bare)
  end_again (trees.leaf (leaves.untried None)) f = refl
  end_again (trees.leaf (leaves.untried (Some low))) f =
      ap (λ (r : Result (ℤ × List ℤ) TreeKind). mapped (λ l. trees.leaf l)
      (mapped (λ found. leaves.untried (Some (record { d = found.0; ys = found.1 }))) r))
      (bounding.again (low.d, low.ys) (f.fits.known.0, all_each low.ys f.fits.known.1))
  end_again (trees.branch (ways.at_material x c)) f =
      ap (mapped (λ found. trees.branch (ways.at_material found.0 found.1)))
      (branching.again (x, c) (f.fits.known, (f.fits.some, f.fits.counted)))
  end_again (trees.branch (ways.either u)) f =
      ap (mapped (λ u. trees.branch (ways.either u))) (one_unit.again u f.fits.known)

  two_children : 0 < 2
  two_children = omega arith

  abbrev SpellsEnd : Option Word → List Token → trees.End leaves.Leaf → Type 0
  SpellsEnd word tokens e = (word ≡ Some (end_word e)) × (tokens ≡ end_fields e) × FitsEndLine p e

  open_back : (tokens : List Token) (e : trees.End leaves.Leaf)
      → mapped (λ l. trees.leaf l) (open_of tokens) ≡ Ok e → SpellsEnd (Some words.Open) tokens e
  open_back [] e f =
      subst (λ (x : trees.End leaves.Leaf). SpellsEnd (Some words.Open) [] x)
      (done_is (trees.leaf (leaves.untried None)) e f)
      (refl, refl, record { fits = record { known = tt; some = tt; counted = tt }; bare = refl })
  open_back (token ∷ tokens) e f =
      let m = mapped_ok (λ (l : leaves.Leaf). trees.leaf l) (open_of (token ∷ tokens)) e f in
      subst (λ (x : trees.End leaves.Leaf). SpellsEnd (Some words.Open) (token ∷ tokens) x) m.2
      (mapped_back (λ found. leaves.untried (Some (record { d = found.0; ys = found.1 })))
      (one_and_more number_of number_of) (λ c. signed_decimal c.0 ∷ map signed_decimal c.1)
      (λ c. InRange c.0 × Each InRange c.1) bounding
      (λ (l : leaves.Leaf). SpellsEnd (Some words.Open) (token ∷ tokens) (trees.leaf l))
      (token ∷ tokens)
      (λ c is known. (
        refl,
        is,
        record {
          fits =
              record { known = (known.0, each_all c.1 known.1); some = tt; counted = tt };
          bare =
              refl;
        },
      )) m.0 m.1)

  end_back : (word : Option Word) (tokens : List Token) (e : trees.End leaves.Leaf)
      → end_by p word tokens ≡ Ok e → SpellsEnd word tokens e
  end_back (Some words.Dead) tokens e f =
      mapped_back (λ x. trees.leaf (leaves.dead x)) (one (material_of p))
      (λ x. material_name p x ∷ []) (IsMaterial p) one_material
      (SpellsEnd (Some words.Dead) tokens) tokens
      (λ x is known. (
        refl,
        is,
        record { fits = record { known = known; some = tt; counted = tt }; bare = refl },
      )) e f
  end_back (Some words.Clash) tokens e f =
      mapped_back (λ k. trees.leaf (leaves.clash k)) (one (exclusion_of p))
      (λ k. exclusion_name p k ∷ []) (IsExclusion p) one_exclusion
      (SpellsEnd (Some words.Clash) tokens) tokens
      (λ k is known. (
        refl,
        is,
        record { fits = record { known = known; some = tt; counted = tt }; bare = refl },
      )) e f
  end_back (Some words.Refuted) tokens e f =
      mapped_back (λ ys. trees.leaf (leaves.refuted ys)) (each number_of) (map signed_decimal)
      AllInRange numbers_fields (SpellsEnd (Some words.Refuted) tokens) tokens
      (λ ys is known. (
        refl,
        is,
        record { fits = record { known = known; some = tt; counted = tt }; bare = refl },
      )) e f
  end_back (Some words.Bound) tokens e f =
      mapped_back (λ found. trees.leaf (leaves.bounded found.0 found.1))
      (one_and_more number_of number_of) (λ c. signed_decimal c.0 ∷ map signed_decimal c.1)
      (λ c. InRange c.0 × Each InRange c.1) bounding (SpellsEnd (Some words.Bound) tokens)
      tokens
      (λ c is known. (
        refl,
        is,
        record {
          fits =
              record { known = (known.0, each_all c.1 known.1); some = tt; counted = tt };
          bare =
              refl;
        },
      )) e f
  end_back (Some words.Branch) tokens e f =
      mapped_back (λ found. trees.branch (ways.at_material found.0 found.1))
      (two (material_of p) children_of) (λ c. material_name p c.0 ∷ decimal c.1 ∷ [])
      (λ c. IsMaterial p c.0 × IsSomeCount c.1) branching (SpellsEnd (Some words.Branch) tokens)
      tokens
      (λ c is known. (
        refl,
        is,
        record {
          fits = record { known = known.0; some = known.1.0; counted = known.1.1 };
          bare =
              refl;
        },
      )) e f
  end_back (Some words.Either) tokens e f =
      mapped_back (λ u. trees.branch (ways.either u)) (one (unit_of p)) (λ u. unit_name p u ∷ [])
      (IsUnit p) one_unit (SpellsEnd (Some words.Either) tokens) tokens
      (λ u is known. (
        refl,
        is,
        record {
          fits = record { known = known; some = two_children; counted = tt };
          bare =
              refl;
        },
      )) e f
  end_back (Some words.Charge) tokens e f =
      mapped_back
      (λ found. trees.leaf (leaves.charged (record { d = found.0; ys = found.1; covers = [] })))
      (one_and_more number_of number_of) (λ c. signed_decimal c.0 ∷ map signed_decimal c.1)
      (λ c. InRange c.0 × Each InRange c.1) bounding (SpellsEnd (Some words.Charge) tokens)
      tokens
      (λ c is known. (
        refl,
        is,
        record {
          fits =
              record {
                known =
                    record {
                      scale = known.0;
                      multipliers = each_all c.1 known.1;
                      few = omega arith;
                      covers =
                          tt;
                    };
                some = tt;
                counted = tt;
              };
          bare = refl;
        },
      )) e f
  end_back (Some words.Open) tokens e f = open_back tokens e f
  end_back word tokens e f = absurd cc

  end_lines_by : IsLineCode (end_line_read p) (λ e. word_text (end_word e) ∷ end_fields e)
      (FitsEndLine p)
  end_lines_by =
      line_by (end_by p) end_word end_fields (FitsEndLine p)
      (record { back = end_back; again = end_again; tokens = λ e f. end_tokens e f.fits })

  pub end_lines : IsLineCode (end_line_read p) (end_line p) (FitsEndLine p)
  end_lines = record {
    back = λ line e f. let b = end_lines_by.back line e f in (b.0 ∙ ap line_of (end_is e), b.1);
    again = λ e fits. ap (λ (ts : List Token). end_line_read p (line_of ts)) (sym (end_is e))
        ∙ end_lines_by.again e fits;
    tokens =
        λ e fits. subst (λ (ts : List Token). Each IsToken ts) (end_is e)
        (end_lines_by.tokens e fits);
  }

  pub end_line_tokens : (e : trees.End leaves.Leaf) → FitsEnd p e → Each IsToken (end_line p e)
  end_line_tokens e fits =
      subst (λ (ts : List Token). Each IsToken ts) (end_is e)
      (word_is_token (end_word e), end_tokens e fits)

  no_step : (e : trees.End leaves.Leaf) (tokens : List Token)
      → step_by p (Some (end_word e)) tokens ≡ None
  no_step (trees.leaf (leaves.dead x)) tokens = refl
  no_step (trees.leaf (leaves.clash k)) tokens = refl
  no_step (trees.leaf (leaves.refuted ys)) tokens = refl
  no_step (trees.leaf (leaves.bounded d ys)) tokens = refl
  no_step (trees.leaf (leaves.charged h)) tokens = refl
  no_step (trees.leaf (leaves.untried low)) tokens = refl
  no_step (trees.branch (ways.at_material x c)) tokens = refl
  no_step (trees.branch (ways.either u)) tokens = refl

  -- the line of an end is no step
  pub end_no_step : (e : trees.End leaves.Leaf) → FitsEnd p e
      → step_read p (line_of (end_line p e)) ≡ None
  end_no_step e fits =
      let line : Line = line_of (word_text (end_word e) ∷ end_fields e) in
      let says = says_word (end_word e) (end_fields e) (end_tokens e fits) in
      ap (λ (ts : List Token). step_read p (line_of ts)) (sym (end_is e))
      ∙ ap (λ (w : Option Word). formed_step line (step_by p w (fields_of line))) says.word_is
      ∙ ap (formed_step line) (no_step e (fields_of line))

  -- ---- sets of a charge

  some_back : (tokens : List Token) (us : List ℕ) → some_units p tokens ≡ Ok us
      → (tokens ≡ map (unit_name p) us) × (AreUnits p us × (us ≡ [] → ⊥))
  some_back [] us e = absurd cc
  some_back (token ∷ tokens) us e =
      let b = (units_fields p good).back (token ∷ tokens) us e in
      (b.0, (b.1, λ none. let no : token ∷ tokens ≡ [] = b.0 ∙ ap (map (unit_name p)) none in cc))

  some_again : (us : List ℕ) → AreUnits p us → (us ≡ [] → ⊥)
      → some_units p (map (unit_name p) us) ≡ Ok us
  some_again [] set some = absurd (some refl)
  some_again (u ∷ us) set some = (units_fields p good).again (u ∷ us) set

  abbrev set_word : Option ℕ → Word
  set_word None = words.SomeOf
  set_word (Some u) = words.With

  abbrev set_fields : ℤ → Option ℕ → List ℕ → List Token
  set_fields weight None us = signed_decimal weight ∷ map (unit_name p) us
  set_fields weight (Some u) us = signed_decimal weight ∷ unit_name p u ∷ map (unit_name p) us

  set_is : (weight : ℤ) (b : Option ℕ) (us : List ℕ)
      → word_text (set_word b) ∷ set_fields weight b us ≡ set_line p weight b us
  set_is weight None us = refl
  set_is weight (Some u) us = refl

  set_tokens : (weight : ℤ) (b : Option ℕ) (us : List ℕ) → IsWeight weight → IfSome b (IsUnit p)
      → AreUnits p us → Each IsToken (set_fields weight b us)
  set_tokens weight None us w u set =
      (weight_code.token weight w, (units_fields p good).tokens us set)
  set_tokens weight (Some u) us w known set = (
    weight_code.token weight w,
    ((unit_code p good).token u known, (units_fields p good).tokens us set),
  )

  -- the word and the tokens after it are those of the set
  abbrev SpellsSet : Option Word → List Token → Cover → Type 0
  SpellsSet word tokens c = (word ≡ Some (set_word c.beside))
      × (tokens ≡ set_fields c.weight c.beside c.units) × KnowsCover p c

  set_of_back : (tokens : List Token) (c : Cover) → set_of p tokens ≡ Ok c
      → SpellsSet (Some words.SomeOf) tokens c
  set_of_back [] c e = absurd cc
  set_of_back (token ∷ tokens) c e =
      let m =
      mapped_ok (λ (found : ℤ × List ℕ). let d : Cover =
      record { weight = found.0; beside = None; units = found.1 } in d)
      (both (weight_of token) (some_units p tokens)) c e in
      let b = both_ok (weight_of token) (some_units p tokens) m.0 m.1 in
      let w = weight_code.back token m.0.0 b.0 in
      let u = some_back tokens m.0.1 b.1 in
      subst (λ (d : Cover). SpellsSet (Some words.SomeOf) (token ∷ tokens) d) m.2 (
        refl,
        ap₂ (λ (t : Token) (ts : List Token). t ∷ ts) w.0 u.0,
        record { weight = w.1.0; not_negative = w.1.1; beside = tt; units = u.1.0; some = u.1.1 },
      )

  set_beside_back : (tokens : List Token) (c : Cover) → set_beside p tokens ≡ Ok c
      → SpellsSet (Some words.With) tokens c
  set_beside_back [] c e = absurd cc
  set_beside_back (token ∷ []) c e = absurd cc
  set_beside_back (token ∷ name ∷ tokens) c e =
      let named : Result (ℕ × List ℕ) TreeKind = both (unit_of p name) (some_units p tokens) in
      let m =
      mapped_ok (λ (found : ℤ × (ℕ × List ℕ)). let d : Cover =
      record { weight = found.0; beside = Some found.1.0; units = found.1.1 } in d)
      (both (weight_of token) named) c e in
      let b = both_ok (weight_of token) named m.0 m.1 in
      let n = both_ok (unit_of p name) (some_units p tokens) m.0.1 b.1 in
      let w = weight_code.back token m.0.0 b.0 in
      let v = (unit_code p good).back name m.0.1.0 n.0 in
      let u = some_back tokens m.0.1.1 n.1 in
      subst (λ (d : Cover). SpellsSet (Some words.With) (token ∷ name ∷ tokens) d) m.2 (
        refl,
        ap₂ (λ (t : Token) (ts : List Token). t ∷ ts) w.0
            (ap₂ (λ (t : Token) (ts : List Token). t ∷ ts) v.0 u.0),
        record { weight = w.1.0; not_negative = w.1.1; beside = v.1; units = u.1.0; some = u.1.1 },
      )

  cover_by_back : (word : Option Word) (tokens : List Token) (r : Result Cover TreeKind)
      → cover_by p word tokens ≡ Some r → (c : Cover) → r ≡ Ok c → SpellsSet word tokens c
  cover_by_back (Some words.SomeOf) tokens r e c f =
      set_of_back tokens c (some_is (set_of p tokens) r e ∙ f)
  cover_by_back (Some words.With) tokens r e c f =
      set_beside_back tokens c (some_is (set_beside p tokens) r e ∙ f)
  cover_by_back word tokens r e c f = absurd cc

  at_cover : (line : Line) (o : Option (Result Cover TreeKind)) (c : Cover)
      → cover_by p (word_of line) (fields_of line) ≡ o → formed_cover line o ≡ Some (Ok c)
      → (line ≡ line_of (cover_line p c)) × KnowsCover p c
  at_cover line None c e f = absurd cc
  at_cover line (Some r) c e f =
      let g = formed_ok line r c (some_is (formed line r) (done c) f) in
      let b = cover_by_back (word_of line) (fields_of line) r e c g.1 in (
        line_is line (set_word c.beside) (set_fields c.weight c.beside c.units) g.0 b.0 b.1
            ∙ ap line_of (set_is c.weight c.beside c.units),
        b.2,
      )

  pub set_back : (line : Line) (c : Cover) → cover_read p line ≡ Some (Ok c)
      → (line ≡ line_of (cover_line p c)) × KnowsCover p c
  set_back line c e = at_cover line (cover_by p (word_of line) (fields_of line)) c refl e

  cover_by_again : (weight : ℤ) (b : Option ℕ) (us : List ℕ) → IsWeight weight → IfSome b (IsUnit p)
      → AreUnits p us → (us ≡ [] → ⊥)
      → cover_by p (Some (set_word b)) (set_fields weight b us)
      ≡ Some (Ok (record { weight = weight; beside = b; units = us }))
  cover_by_again weight None us w u set some =
      ap₂ (λ (r : Result ℤ TreeKind) (s : Result (List ℕ) TreeKind). Some
      (mapped (λ (found : ℤ × List ℕ). let d : Cover =
      record { weight = found.0; beside = None; units = found.1 } in d) (both r s)))
      (weight_code.again weight w) (some_again us set some)
  cover_by_again weight (Some u) us w known set some =
      ap₂ (λ (r : Result ℤ TreeKind) (s : Result (ℕ × List ℕ) TreeKind). Some
      (mapped (λ (found : ℤ × (ℕ × List ℕ)). let d : Cover =
      record { weight = found.0; beside = Some found.1.0; units = found.1.1 } in d) (both r s)))
      (weight_code.again weight w)
      (ap₂ (λ (r : Result ℕ TreeKind) (s : Result (List ℕ) TreeKind). both r s)
      ((unit_code p good).again u known) (some_again us set some))

  pub set_line_tokens : (c : Cover) → KnowsCover p c → Each IsToken (cover_line p c)
  set_line_tokens c known =
      subst (λ (ts : List Token). Each IsToken ts) (set_is c.weight c.beside c.units) (
        word_is_token (set_word c.beside),
        set_tokens c.weight c.beside c.units (known.weight, known.not_negative) known.beside
            known.units,
      )

  pub set_again : (c : Cover) → KnowsCover p c
      → cover_read p (line_of (cover_line p c)) ≡ Some (Ok c)
  set_again c known =
      let fields : List Token = set_fields c.weight c.beside c.units in
      let line : Line = line_of (word_text (set_word c.beside) ∷ fields) in
      let says =
      says_word (set_word c.beside) fields
      (set_tokens c.weight c.beside c.units (known.weight, known.not_negative) known.beside
      known.units) in
      ap (λ (ts : List Token). cover_read p (line_of ts)) (sym (set_is c.weight c.beside c.units))
      ∙ ap₂ (λ (w : Option Word) (ts : List Token). formed_cover line (cover_by p w ts))
      says.word_is says.fields_are
      ∙ ap (formed_cover line)
      (cover_by_again c.weight c.beside c.units (known.weight, known.not_negative) known.beside
      known.units known.some)
      ∙ ap (λ (r : Result Cover TreeKind). Some r) (formed_again line (done c) says.formed)

  -- a line that says another word is no set
  pub no_set : (word : Word) (fields : List Token) → Each IsToken fields
      → ((tokens : List Token) → cover_by p (Some word) tokens ≡ None)
      → cover_read p (line_of (word_text word ∷ fields)) ≡ None
  no_set word fields each none =
      let line : Line = line_of (word_text word ∷ fields) in
      let says = says_word word fields each in
      ap (λ (w : Option Word). formed_cover line (cover_by p w (fields_of line))) says.word_is
      ∙ ap (formed_cover line) (none (fields_of line))

  pub option_no_set : (us : List ℕ) → AreUnits p us
      → cover_read p (line_of (option_line p us)) ≡ None
  option_no_set us set =
      no_set words.Node (map (unit_name p) us) ((units_fields p good).tokens us set)
      (λ tokens. refl)

  -- ---- lines of the head of a tree

  abbrev front_word : HeadLine → Word
  front_word (heads.step s) = step_word s
  front_word (heads.cap u v d ys covers) = words.Cap
  front_word (heads.out u d ys covers) = words.Out
  front_word (heads.trim u) = words.Trim
  front_word (heads.uses q d ys covers) = words.Use

  abbrev front_fields : HeadLine → List Token
  front_fields (heads.step s) = step_fields s
  front_fields (heads.cap u v d ys covers) =
      unit_name p u ∷ signed_decimal v ∷ signed_decimal d ∷ map signed_decimal ys
  front_fields (heads.out u d ys covers) =
      unit_name p u ∷ signed_decimal d ∷ map signed_decimal ys
  front_fields (heads.trim u) = unit_name p u ∷ []
  front_fields (heads.uses q d ys covers) =
      material_name p q.of ∷ signed_decimal q.amount ∷ signed_decimal q.worth ∷ signed_decimal d
      ∷ map signed_decimal ys

  front_is : (l : HeadLine) → word_text (front_word l) ∷ front_fields l ≡ front_line p l
  front_is (heads.step s) = step_is s
  front_is (heads.cap u v d ys covers) = refl
  front_is (heads.out u d ys covers) = refl
  front_is (heads.trim u) = refl
  front_is (heads.uses q d ys covers) = refl

  front_tokens : (l : HeadLine) → KnowsLine p l → Each IsToken (front_fields l)
  front_tokens (heads.step s) known = step_tokens s known
  front_tokens (heads.cap u v d ys covers) known = (
    (unit_code p good).token u known.0,
    (
      weight_code.token v known.1,
      bounding.tokens (d, ys) (known.2.scale, all_each ys known.2.multipliers),
    ),
  )
  front_tokens (heads.out u d ys covers) known = (
    (unit_code p good).token u known.0,
    bounding.tokens (d, ys) (known.1.scale, all_each ys known.1.multipliers),
  )
  front_tokens (heads.trim u) known = one_unit.tokens u known
  front_tokens (heads.uses q d ys covers) known = (
    (material_code p good).token q.of known.0,
    (
      weight_code.token q.amount known.1,
      (
        weight_code.token q.worth known.2,
        bounding.tokens (d, ys) (known.3.scale, all_each ys known.3.multipliers),
      ),
    ),
  )

  pub front_line_tokens : (l : HeadLine) → KnowsLine p l → Each IsToken (front_line p l)
  front_line_tokens l known =
      subst (λ (ts : List Token). Each IsToken ts) (front_is l)
      (word_is_token (front_word l), front_tokens l known)

  -- the word and the tokens after it are those of the line
  abbrev SpellsFront : Option Word → List Token → HeadLine → Type 0
  SpellsFront word tokens l = (word ≡ Some (front_word l)) × (tokens ≡ front_fields l)
      × FitsFrontLine p l

  bare_charge : (d : ℤ) (ys : List ℤ) → InRange d → Each InRange ys
      → KnowsCharge p (handed d ys [])
  bare_charge d ys r each =
      record { scale = r; multipliers = each_all ys each; few = omega arith; covers = tt }

  cap_back : (tokens : List Token) (l : HeadLine) → cap_of p tokens ≡ Ok l
      → SpellsFront (Some words.Cap) tokens l
  cap_back [] l e = absurd cc
  cap_back (token ∷ []) l e = absurd cc
  cap_back (token ∷ size ∷ tokens) l e =
      let behind : Result (ℤ × List ℤ) TreeKind = one_and_more number_of number_of tokens in
      let sized : Result (ℤ × (ℤ × List ℤ)) TreeKind = both (weight_of size) behind in
      let m =
      mapped_ok (λ (found : ℕ × (ℤ × (ℤ × List ℤ))). heads.cap found.0 found.1.0 found.1.1.0
      found.1.1.1 []) (both (unit_of p token) sized) l e in
      let b = both_ok (unit_of p token) sized m.0 m.1 in
      let n = both_ok (weight_of size) behind m.0.1 b.1 in
      let u = (unit_code p good).back token m.0.0 b.0 in
      let w = weight_code.back size m.0.1.0 n.0 in
      let r = bounding.back tokens m.0.1.1 n.1 in
      subst (λ (x : HeadLine). SpellsFront (Some words.Cap) (token ∷ size ∷ tokens) x) m.2 (
        refl,
        ap₂ (λ (t : Token) (ts : List Token). t ∷ ts) u.0
            (ap₂ (λ (t : Token) (ts : List Token). t ∷ ts) w.0 r.0),
        record {
          known = (u.1, w.1, bare_charge m.0.1.1.0 m.0.1.1.1 r.1.0 r.1.1);
          bare = refl;
        },
      )

  out_back : (tokens : List Token) (l : HeadLine) → out_of p tokens ≡ Ok l
      → SpellsFront (Some words.Out) tokens l
  out_back [] l e = absurd cc
  out_back (token ∷ tokens) l e =
      let behind : Result (ℤ × List ℤ) TreeKind = one_and_more number_of number_of tokens in
      let m =
      mapped_ok (λ (found : ℕ × (ℤ × List ℤ)). heads.out found.0 found.1.0 found.1.1 [])
      (both (unit_of p token) behind) l e in
      let b = both_ok (unit_of p token) behind m.0 m.1 in
      let u = (unit_code p good).back token m.0.0 b.0 in
      let r = bounding.back tokens m.0.1 b.1 in
      subst (λ (x : HeadLine). SpellsFront (Some words.Out) (token ∷ tokens) x) m.2 (
        refl,
        ap₂ (λ (t : Token) (ts : List Token). t ∷ ts) u.0 r.0,
        record { known = (u.1, bare_charge m.0.1.0 m.0.1.1 r.1.0 r.1.1); bare = refl },
      )

  abbrev use_found : ℕ × (ℤ × (ℤ × (ℤ × List ℤ))) → HeadLine
  use_found found =
      heads.uses (record { of = found.0; amount = found.1.0; worth = found.1.1.0 })
      found.1.1.1.0 found.1.1.1.1 []

  use_back : (tokens : List Token) (l : HeadLine) → use_of p tokens ≡ Ok l
      → SpellsFront (Some words.Use) tokens l
  use_back [] l e = absurd cc
  use_back (token ∷ []) l e = absurd cc
  use_back (token ∷ amount ∷ []) l e = absurd cc
  use_back (token ∷ amount ∷ worth ∷ tokens) l e =
      let behind : Result (ℤ × List ℤ) TreeKind = one_and_more number_of number_of tokens in
      let valued : Result (ℤ × (ℤ × List ℤ)) TreeKind = both (weight_of worth) behind in
      let used : Result (ℤ × (ℤ × (ℤ × List ℤ))) TreeKind = both (weight_of amount) valued in
      let m = mapped_ok use_found (both (material_of p token) used) l e in
      let b = both_ok (material_of p token) used m.0 m.1 in
      let n = both_ok (weight_of amount) valued m.0.1 b.1 in
      let o = both_ok (weight_of worth) behind m.0.1.1 n.1 in
      let x = (material_code p good).back token m.0.0 b.0 in
      let v = weight_code.back amount m.0.1.0 n.0 in
      let w = weight_code.back worth m.0.1.1.0 o.0 in
      let r = bounding.back tokens m.0.1.1.1 o.1 in
      subst (λ (k : HeadLine). SpellsFront (Some words.Use) (token ∷ amount ∷ worth ∷ tokens) k)
      m.2 (
        refl,
        ap₂ (λ (t : Token) (ts : List Token). t ∷ ts) x.0
            (ap₂ (λ (t : Token) (ts : List Token). t ∷ ts) v.0
            (ap₂ (λ (t : Token) (ts : List Token). t ∷ ts) w.0 r.0)),
        record {
          known = (x.1, v.1, w.1, bare_charge m.0.1.1.1.0 m.0.1.1.1.1 r.1.0 r.1.1);
          bare = refl;
        },
      )

  step_front : (word : Option Word) (tokens : List Token) (o : Option (Result nodes.Step TreeKind))
      → step_by p word tokens ≡ o → (r : Result HeadLine TreeKind) → head_step o ≡ Some r
      → (l : HeadLine) → r ≡ Ok l → SpellsFront word tokens l
  step_front word tokens None is r e l f = absurd cc
  step_front word tokens (Some read) is r e l f =
      let m = mapped_ok heads.step read l (some_is (mapped heads.step read) r e ∙ f) in
      let b = by_back word tokens read is m.0 m.1 in
      subst (λ (x : HeadLine). SpellsFront word tokens x) m.2
      (b.0, b.1, record { known = b.2; bare = refl })

  front_by_back : (word : Option Word) (tokens : List Token) (r : Result HeadLine TreeKind)
      → head_by p word tokens ≡ Some r → (l : HeadLine) → r ≡ Ok l → SpellsFront word tokens l
  front_by_back (Some words.Cap) tokens r e l f =
      cap_back tokens l (some_is (cap_of p tokens) r e ∙ f)
  front_by_back (Some words.Out) tokens r e l f =
      out_back tokens l (some_is (out_of p tokens) r e ∙ f)
  front_by_back (Some words.Trim) tokens r e l f =
      mapped_back heads.trim (one (unit_of p)) (λ u. unit_name p u ∷ []) (IsUnit p) one_unit
      (SpellsFront (Some words.Trim) tokens) tokens
      (λ u is known. (refl, is, record { known = known; bare = refl })) l
      (some_is (mapped heads.trim (one (unit_of p) tokens)) r e ∙ f)
  front_by_back (Some words.Use) tokens r e l f =
      use_back tokens l (some_is (use_of p tokens) r e ∙ f)
  front_by_back word tokens r e l f =
      step_front word tokens (step_by p word tokens) refl r e l f

  at_front : (line : Line) (o : Option (Result HeadLine TreeKind)) (l : HeadLine)
      → head_by p (word_of line) (fields_of line) ≡ o → formed_head line o ≡ Some (Ok l)
      → (line ≡ line_of (front_line p l)) × FitsFrontLine p l
  at_front line None l e f = absurd cc
  at_front line (Some r) l e f =
      let g = formed_ok line r l (some_is (formed line r) (done l) f) in
      let b = front_by_back (word_of line) (fields_of line) r e l g.1 in
      (line_is line (front_word l) (front_fields l) g.0 b.0 b.1 ∙ ap line_of (front_is l), b.2)

  pub front_back : (line : Line) (l : HeadLine) → head_read p line ≡ Some (Ok l)
      → (line ≡ line_of (front_line p l)) × FitsFrontLine p l
  front_back line l e = at_front line (head_by p (word_of line) (fields_of line)) l refl e

  step_by_again : (s : nodes.Step) → KnowsStep p s
      → head_by p (Some (step_word s)) (step_fields s) ≡ Some (Ok (heads.step s))
  step_by_again (nodes.raw u) known = ap head_step (by_again (nodes.raw u) known)
  step_by_again (nodes.rival u) known = ap head_step (by_again (nodes.rival u) known)
  step_by_again (nodes.starve x) known = ap head_step (by_again (nodes.starve x) known)
  step_by_again (nodes.loose us) known = ap head_step (by_again (nodes.loose us) known)
  step_by_again (nodes.sole x u) known = ap head_step (by_again (nodes.sole x u) known)

  front_by_again : (l : HeadLine) → FitsFrontLine p l
      → head_by p (Some (front_word l)) (front_fields l) ≡ Some (Ok l)
  front_by_again (heads.step s) f = step_by_again s f.known
  front_by_again (heads.cap u v d ys covers) f =
      ap₂ (λ (r : Result ℕ TreeKind) (s : Result (ℤ × (ℤ × List ℤ)) TreeKind). Some
      (mapped (λ (found : ℕ × (ℤ × (ℤ × List ℤ))). heads.cap found.0 found.1.0 found.1.1.0
      found.1.1.1 []) (both r s)))
      ((unit_code p good).again u f.known.0)
      (ap₂ (λ (r : Result ℤ TreeKind) (s : Result (ℤ × List ℤ) TreeKind). both r s)
      (weight_code.again v f.known.1)
      (bounding.again (d, ys) (f.known.2.scale, all_each ys f.known.2.multipliers)))
      ∙ ap (λ (cs : List Cover). Some (done (heads.cap u v d ys cs))) (sym f.bare)
  front_by_again (heads.out u d ys covers) f =
      ap₂ (λ (r : Result ℕ TreeKind) (s : Result (ℤ × List ℤ) TreeKind). Some
      (mapped (λ (found : ℕ × (ℤ × List ℤ)). heads.out found.0 found.1.0 found.1.1 [])
      (both r s)))
      ((unit_code p good).again u f.known.0)
      (bounding.again (d, ys) (f.known.1.scale, all_each ys f.known.1.multipliers))
      ∙ ap (λ (cs : List Cover). Some (done (heads.out u d ys cs))) (sym f.bare)
  front_by_again (heads.trim u) f =
      ap (λ (r : Result ℕ TreeKind). Some (mapped heads.trim r)) (one_unit.again u f.known)
  front_by_again (heads.uses q d ys covers) f =
      ap₂ (λ (r : Result ℕ TreeKind) (s : Result (ℤ × (ℤ × (ℤ × List ℤ))) TreeKind). Some
      (mapped use_found (both r s)))
      ((material_code p good).again q.of f.known.0)
      (ap₂ (λ (r : Result ℤ TreeKind) (s : Result (ℤ × (ℤ × List ℤ)) TreeKind). both r s)
      (weight_code.again q.amount f.known.1)
      (ap₂ (λ (r : Result ℤ TreeKind) (s : Result (ℤ × List ℤ) TreeKind). both r s)
      (weight_code.again q.worth f.known.2)
      (bounding.again (d, ys) (f.known.3.scale, all_each ys f.known.3.multipliers))))
      ∙ ap (λ (cs : List Cover). Some (done (heads.uses q d ys cs))) (sym f.bare)

  pub front_again : (l : HeadLine) → FitsFrontLine p l
      → head_read p (line_of (front_line p l)) ≡ Some (Ok l)
  front_again l f =
      let line : Line = line_of (word_text (front_word l) ∷ front_fields l) in
      let says = says_word (front_word l) (front_fields l) (front_tokens l f.known) in
      ap (λ (ts : List Token). head_read p (line_of ts)) (sym (front_is l))
      ∙ ap₂ (λ (w : Option Word) (ts : List Token). formed_head line (head_by p w ts)) says.word_is
      says.fields_are
      ∙ ap (formed_head line) (front_by_again l f)
      ∙ ap (λ (r : Result HeadLine TreeKind). Some r) (formed_again line (done l) says.formed)

  front_by_none : (l : HeadLine) (tokens : List Token)
      → cover_by p (Some (front_word l)) tokens ≡ None
  front_by_none (heads.step (nodes.raw u)) tokens = refl
  front_by_none (heads.step (nodes.rival u)) tokens = refl
  front_by_none (heads.step (nodes.starve x)) tokens = refl
  front_by_none (heads.step (nodes.loose us)) tokens = refl
  front_by_none (heads.step (nodes.sole x u)) tokens = refl
  front_by_none (heads.cap u v d ys covers) tokens = refl
  front_by_none (heads.out u d ys covers) tokens = refl
  front_by_none (heads.trim u) tokens = refl
  front_by_none (heads.uses q d ys covers) tokens = refl

  -- a line of a head is no set
  pub front_no_set : (l : HeadLine) → KnowsLine p l
      → cover_read p (line_of (front_line p l)) ≡ None
  front_no_set l known =
      ap (λ (ts : List Token). cover_read p (line_of ts)) (sym (front_is l))
      ∙ no_set (front_word l) (front_fields l) (front_tokens l known) (front_by_none l)

  -- a node's line is no line of a head
  pub option_no_front : (us : List ℕ) → AreUnits p us
      → head_read p (line_of (option_line p us)) ≡ None
  option_no_front us set =
      let line : Line = line_of (option_line p us) in
      let says =
      says_word words.Node (map (unit_name p) us) ((units_fields p good).tokens us set) in
      ap (λ (w : Option Word). formed_head line (head_by p w (fields_of line))) says.word_is

  -- ---- options and the root

  abbrev SpellsOption : Option Word → List Token → Bool → List ℕ → Type 0
  SpellsOption word tokens whole us = (word ≡ Some words.Node) × (tokens ≡ map (unit_name p) us)
      × (whole ≡ true) × AreUnits p us

  option_by_back : (word : Option Word) (tokens : List Token) (whole : Bool) (us : List ℕ)
      → option_by p word tokens whole ≡ Ok us → SpellsOption word tokens whole us
  option_by_back (Some words.Node) tokens true us e = let b =
      (units_fields p good).back tokens us e in (refl, b.0, refl, b.1)
  option_by_back (Some words.Spent) tokens whole us e = absurd cc
  option_by_back word tokens whole us e = absurd cc

  pub option_lines : IsLineCode (option_read p) (option_line p) (AreUnits p)
  option_lines = record {
    back = λ line us e. let b =
        option_by_back (word_of line) (fields_of line) (is_formed line) us e in
        (line_is line words.Node (map (unit_name p) us) b.2 b.0 b.1, b.3);
    again = λ us set.
        let fields = units_fields p good in
        let says = says_word words.Node (map (unit_name p) us) (fields.tokens us set) in
        let line : Line = line_of (option_line p us) in
        ap (λ (w : Option Word). option_by p w (fields_of line) (is_formed line)) says.word_is
        ∙ ap₂ (λ (ts : List Token) (b : Bool). option_by p (Some words.Node) ts b) says.fields_are
        says.formed
        ∙ fields.again us set;
    tokens = λ us set. (word_is_token words.Node, (units_fields p good).tokens us set);
  }

  root_by_back : (word : Option Word) (tokens : List Token) (whole : Bool) (us : List ℕ)
      → root_by word tokens whole ≡ Ok us → (word ≡ Some words.Node) × (tokens ≡ [])
      × (whole ≡ true) × (us ≡ [])
  root_by_back (Some words.Node) tokens true us e = let a =
      alone_ok [] us tokens e in (refl, a.0, refl, sym a.1)
  root_by_back (Some words.Spent) tokens whole us e = absurd cc
  root_by_back word tokens whole us e = absurd cc

  pub root_back : (line : Line) (us : List ℕ) → root_read line ≡ Ok us
      → (line ≡ line_of (option_line p [])) × (us ≡ [])
  root_back line us e = let b =
      root_by_back (word_of line) (fields_of line) (is_formed line) us e in
      (line_is line words.Node [] b.2 b.0 b.1, b.3)

  pub root_again : root_read (line_of (option_line p [])) ≡ Ok []
  root_again =
      let says = says_word words.Node [] tt in
      let line : Line = line_of (option_line p []) in
      ap (λ (w : Option Word). root_by w (fields_of line) (is_formed line)) says.word_is
      ∙ ap₂ (λ (ts : List Token) (b : Bool). root_by (Some words.Node) ts b) says.fields_are
      says.formed

  pub root_lines : IsLineCode root_read (option_line p) (λ us. us ≡ [])
  root_lines = record {
    back = λ line us e. let b = root_back line us e in
        (b.0 ∙ ap (λ (vs : List ℕ). line_of (option_line p vs)) (sym b.1), b.1);
    again = λ us none. ap (λ (vs : List ℕ). root_read (line_of (option_line p vs))) none
        ∙ root_again ∙ ap done (sym none);
    tokens =
        λ us none. subst (λ (vs : List ℕ). Each IsToken (option_line p vs)) (sym none)
        (word_is_token words.Node, tt);
  }
