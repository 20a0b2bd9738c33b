-- The lines of a claim, both ways.
use Rattle.std.proofs.Common.{◌≡◌, ◌==◌, ℕ, ℤ, List, [], ◌∷◌, length, map, Option, Some, Ok, refl}
use Rattle.std.proofs.Common.{ap, subst, eqb-true, eq-eqb}
use Rattle.std.specs.Fmt.{signed_decimal}
use Rattle.tree_text_rules.specs.integer_laws.Range.{InRange}
use Rattle.tree_text_rules.specs.problem_rules.Each.{Each}
use Rattle.tree_text_rules.specs.problem_rules.Problem.{Problem}
use Rattle.tree_text_rules.specs.problem_rules.WellFormed.{IsWellFormed}
use Rattle.tree_text_rules.specs.tree_rules.Known.{AreUnits}
use Rattle.tree_text_rules.specs.Line.{Token, word_text}
use Rattle.tree_text_rules.specs.LineRead.{one, one_and_more, Opening, network, infeasible, unknown}
use Rattle.tree_text_rules.specs.LineRead.{opening_by, opening_read, network_by, network_line_read}
use Rattle.tree_text_rules.specs.LineRead.{sizes_by, sizes_read, cost_by, cost_read}
use Rattle.tree_text_rules.specs.Spelling.{unit_name}
use Rattle.tree_text_rules.specs.Token.{mapped, units_of, number_of, denominator_of}
use Rattle.tree_text_rules.specs.declared.TreeKind.TheVariants.{WrongCount}
use Rattle.tree_text_rules.specs.declared.Word.{Word}
use Rattle.tree_text_rules.specs.declared.Word.TheVariants as words
use Rattle.tree_text_laws.specs.LineFits.{FitsSizes, IsDenominator}
use Rattle.tree_text_laws.specs.Codes.{IsToken, IsLineCode}
use Rattle.tree_text_laws.proofs.Codes.{judged_ok, judged_again, alone_ok, AreFields, one_fields}
use Rattle.tree_text_laws.proofs.Codes.{more_fields, line_by}
use Rattle.tree_text_laws.proofs.Decimals.{number_code, denominator_code}
use Rattle.tree_text_laws.proofs.Names.{units_fields}
use Rattle.tree_text_laws.proofs.NodeLines.{mapped_back}

module _ (p : Problem) (good : IsWellFormed p) where
  abbrev opening_word : Opening → Word
  opening_word (network us) = words.Network
  opening_word infeasible = words.Infeasible
  opening_word unknown = words.Unknown

  abbrev opening_fields : Opening → List Token
  opening_fields (network us) = map (unit_name p) us
  opening_fields infeasible = []
  opening_fields unknown = []

  abbrev pub opening_line : Opening → List Token
  opening_line o = word_text (opening_word o) ∷ opening_fields o

  abbrev pub FitsOpening : Opening → Type 0
  FitsOpening (network us) = AreUnits p us
  FitsOpening infeasible = Unit {0}
  FitsOpening unknown = Unit {0}

  opening_tokens : (o : Opening) → FitsOpening o → Each IsToken (opening_fields o)
  opening_tokens (network us) fits = (units_fields p good).tokens us fits
  opening_tokens infeasible fits = tt
  opening_tokens unknown fits = tt

  opening_again : (o : Opening) → FitsOpening o
      → opening_by p (Some (opening_word o)) (opening_fields o) ≡ Ok o
  opening_again (network us) fits = ap (mapped network) ((units_fields p good).again us fits)
  opening_again infeasible fits = refl
  opening_again unknown fits = refl

  abbrev SpellsOpening : Option Word → List Token → Opening → Type 0
  SpellsOpening word tokens o = (word ≡ Some (opening_word o)) × (tokens ≡ opening_fields o)
      × FitsOpening o

  opening_back : (word : Option Word) (tokens : List Token) (o : Opening)
      → opening_by p word tokens ≡ Ok o → SpellsOpening word tokens o
  opening_back (Some words.Network) tokens o e =
      mapped_back network (units_of p) (map (unit_name p)) (AreUnits p) (units_fields p good)
      (SpellsOpening (Some words.Network) tokens) tokens (λ us is set. (refl, is, set)) o e
  opening_back (Some words.Infeasible) tokens o e =
      let a = alone_ok infeasible o tokens e in
      subst (λ (x : Opening). SpellsOpening (Some words.Infeasible) tokens x) a.1 (refl, a.0, tt)
  opening_back (Some words.Unknown) tokens o e =
      let a = alone_ok unknown o tokens e in
      subst (λ (x : Opening). SpellsOpening (Some words.Unknown) tokens x) a.1 (refl, a.0, tt)
  opening_back word tokens o e = absurd cc

  pub opening_lines : IsLineCode (opening_read p) opening_line FitsOpening
  opening_lines =
      line_by (opening_by p) opening_word opening_fields FitsOpening
      (record { back = opening_back; again = opening_again; tokens = opening_tokens })

  -- ---- a network's three lines

  network_back : (word : Option Word) (tokens : List Token) (us : List ℕ)
      → network_by p word tokens ≡ Ok us → (word ≡ Some words.Network)
      × (tokens ≡ map (unit_name p) us) × AreUnits p us
  network_back (Some words.Network) tokens us e = let b =
      (units_fields p good).back tokens us e in (refl, b.0, b.1)
  network_back word tokens us e = absurd cc

  pub network_line : IsLineCode (network_line_read p)
      (λ us. word_text words.Network ∷ map (unit_name p) us) (AreUnits p)
  network_line =
      line_by (network_by p) (λ us. words.Network) (map (unit_name p)) (AreUnits p)
      (record {
        back = network_back;
        again = (units_fields p good).again;
        tokens =
            (units_fields p good).tokens;
      })

sizing : AreFields (one_and_more denominator_of number_of)
    (λ c. signed_decimal c.0 ∷ map signed_decimal c.1) (λ c. IsDenominator c.0 × Each InRange c.1)
sizing =
    more_fields denominator_of signed_decimal IsDenominator denominator_code number_of
    signed_decimal InRange number_code

sizes_back : (count : ℕ) (word : Option Word) (tokens : List Token) (c : ℤ × List ℤ)
    → sizes_by count word tokens ≡ Ok c → (word ≡ Some words.Sizes)
    × (tokens ≡ signed_decimal c.0 ∷ map signed_decimal c.1) × FitsSizes count c
sizes_back count (Some words.Sizes) tokens c e =
    let j =
    judged_ok (λ (found : ℤ × List ℤ). length found.1 == count) WrongCount
    (one_and_more denominator_of number_of tokens) c e in
    let b = sizing.back tokens c j.0 in
    (refl, b.0, (b.1, eqb-true (length c.1) count j.1))
sizes_back count word tokens c e = absurd cc

pub sizes_line : (count : ℕ)
    → IsLineCode (sizes_read count)
    (λ c. word_text words.Sizes ∷ signed_decimal c.0 ∷ map signed_decimal c.1) (FitsSizes count)
sizes_line count =
    line_by (sizes_by count) (λ c. words.Sizes) (λ c. signed_decimal c.0 ∷ map signed_decimal c.1)
    (FitsSizes count) (record {
      back = sizes_back count;
      again = λ c fits.
          judged_again (λ (found : ℤ × List ℤ). length found.1 == count) WrongCount
          (one_and_more denominator_of number_of (signed_decimal c.0 ∷ map signed_decimal c.1)) c
          (sizing.again c fits.0) (eq-eqb (length c.1) count fits.1);
      tokens = λ c fits. sizing.tokens c fits.0;
    })

costing : AreFields (one number_of) (λ z. signed_decimal z ∷ []) InRange
costing = one_fields number_of signed_decimal InRange number_code

cost_back : (word : Option Word) (tokens : List Token) (z : ℤ) → cost_by word tokens ≡ Ok z
    → (word ≡ Some words.Cost) × (tokens ≡ signed_decimal z ∷ []) × InRange z
cost_back (Some words.Cost) tokens z e = let b = costing.back tokens z e in (refl, b.0, b.1)
cost_back word tokens z e = absurd cc

pub cost_line : IsLineCode cost_read (λ z. word_text words.Cost ∷ signed_decimal z ∷ []) InRange
cost_line =
    line_by cost_by (λ z. words.Cost) (λ z. signed_decimal z ∷ []) InRange
    (record { back = cost_back; again = costing.again; tokens = costing.tokens })
