-- The lines of claims, both ways.
use Rattle.std.proofs.Common.{◌≡◌, ◌≤◌, ℕ, suc, ℤ, List, [], ◌∷◌, ◌++◌, length, map, Result, Ok}
use Rattle.std.proofs.Common.{refl, sym, ◌∙◌, ap, ap₂, subst, arith}
use Rattle.std.specs.Fmt.{signed_decimal}
use Rattle.tree_text_rules.specs.number_sets.Sets.{AreBelow}
use Rattle.tree_text_rules.specs.integer_laws.Range.{InRange}
use Rattle.tree_text_rules.specs.problem_rules.Each.{Each}
use Rattle.tree_text_rules.specs.problem_rules.Problem.{Problem}
use Rattle.tree_text_rules.specs.problem_rules.WellFormed.{IsWellFormed}
use Rattle.tree_text_rules.specs.tree_rules.Claim as claims
use Rattle.tree_text_rules.specs.tree_rules.Known.{AreUnits, KnowsClaim}
use Rattle.branch_tree.specs.Sized.{IsKept}
use Rattle.tree_text_rules.specs.Line.{Token, Line, word_text}
use Rattle.tree_text_rules.specs.LineRead.{Opening, network, infeasible, unknown, opening_read}
use Rattle.tree_text_rules.specs.LineRead.{network_line_read, sizes_read, cost_read}
use Rattle.tree_text_rules.specs.Read.{Fault, Taken, first_line, then_read, sizes_taken}
use Rattle.tree_text_rules.specs.Read.{network_taken, claim_behind, claim_taken}
use Rattle.tree_text_rules.specs.Spelling.{unit_name, network_lines, claim_lines}
use Rattle.tree_text_rules.specs.declared.Word.TheVariants as words
use Rattle.tree_text_laws.specs.LineFits.{FitsSizes}
use Rattle.tree_text_laws.specs.Fits.{KeepsClaim}
use Rattle.tree_text_laws.proofs.ClaimLines.{opening_line, FitsOpening, opening_lines, network_line}
use Rattle.tree_text_laws.proofs.ClaimLines.{sizes_line, cost_line}
use Rattle.tree_text_laws.proofs.NodeLines.{all_each, each_all}
use Rattle.tree_text_laws.proofs.PartTexts.{good, good_is, then_ok, first_back, first_again}
use Rattle.tree_text_laws.specs.Codes.{line_of, IsToken}

abbrev sizes_text : ℤ × List ℤ → List Token
sizes_text c = word_text words.Sizes ∷ signed_decimal c.0 ∷ map signed_decimal c.1

abbrev cost_text : ℤ → List Token
cost_text z = word_text words.Cost ∷ signed_decimal z ∷ []

-- ---- sizes and cost of units that are known

-- what is read after the sizes, and after the cost
abbrev cost_then : List ℕ → ℕ → ℤ × List ℤ → ℤ → List Line → Result (Taken claims.Network) Fault
cost_then units number c cost lines =
    Ok (record {
      what = record { units = units; sizes = c.1; d = c.0; cost = cost };
      number =
          suc (suc number);
      behind = lines;
    })

abbrev sizes_then : List ℕ → ℕ → ℤ × List ℤ → List Line → Result (Taken claims.Network) Fault
sizes_then units number c lines = first_line cost_read (suc number) lines (cost_then units number c)

-- what two lines say of a network with these units
record TookSizes (units : List ℕ) (number : ℕ) (lines : List Line)
    (taken : Taken claims.Network) : Type 0 where
  units_are : taken.what.units ≡ units
  number_is : taken.number ≡ suc (suc number)
  lines_are : lines ≡ line_of (sizes_text (taken.what.d, taken.what.sizes))
      ∷ line_of (cost_text taken.what.cost) ∷ taken.behind
  fits : FitsSizes (length units) (taken.what.d, taken.what.sizes)
  cost_fits : InRange taken.what.cost

sizes_back : (units : List ℕ) (number : ℕ) (lines : List Line) (taken : Taken claims.Network)
    → sizes_taken units number lines ≡ Ok taken → TookSizes units number lines taken
sizes_back units number lines taken e =
    let a =
    first_back (sizes_read (length units)) sizes_text (FitsSizes (length units))
    (sizes_line (length units)) number lines _ taken e in
    let b = first_back cost_read cost_text InRange cost_line (suc number) a.rest _ taken a.reads in
    let w : claims.Network =
    record { units = units; sizes = a.what.1; d = a.what.0; cost = b.what } in
    let t : Taken claims.Network =
    record { what = w; number = suc (suc number); behind = b.rest } in
    subst (λ (x : Taken claims.Network). TookSizes units number lines x) (good_is t taken b.reads)
    record {
      units_are = refl;
      number_is = refl;
      lines_are = a.lines_are
          ∙ ap (λ (rest : List Line). line_of (sizes_text a.what) ∷ rest) b.lines_are;
      fits = a.fits;
      cost_fits = b.fits;
    }

-- what a network's text keeps of its numbers
kept_fits : (w : claims.Network) → IsKept w → FitsSizes (length w.units) (w.d, w.sizes)
kept_fits w kept = (
  ((kept.d_in_range, kept.sized.positive), all_each w.sizes kept.sizes_in_range),
  kept.sized.one_size,
)

sizes_again : (w : claims.Network) (number : ℕ) (behind : List Line) → IsKept w
    → sizes_taken w.units number
    (line_of (sizes_text (w.d, w.sizes)) ∷ line_of (cost_text w.cost) ∷ behind)
    ≡ Ok (record { what = w; number = suc (suc number); behind = behind })
sizes_again w number behind kept =
    first_again (sizes_read (length w.units)) sizes_text (FitsSizes (length w.units))
    (sizes_line (length w.units)) number (w.d, w.sizes) (line_of (cost_text w.cost) ∷ behind)
    (sizes_then w.units number) (kept_fits w kept)
    ∙ first_again cost_read cost_text InRange cost_line (suc number) w.cost behind
    (cost_then w.units number (w.d, w.sizes)) kept.cost_in_range

module _ (p : Problem) (formed : IsWellFormed p) where
  below_more : (us : List ℕ) → AreBelow (length p.units) us → AreBelow 128 us
  below_more [] below = tt
  below_more (u ∷ us) below = (
    let few : length p.units ≤ 128 =
        formed.few_units in omega (arith, few, below.0),
    below_more us below.1,
  )

  kept_of : (units : List ℕ) (number : ℕ) (lines : List Line) (taken : Taken claims.Network)
      → AreUnits p units → TookSizes units number lines taken → AreUnits p taken.what.units
      × IsKept taken.what
  kept_of units number lines taken set t =
      let own : AreUnits p taken.what.units =
      subst (λ (us : List ℕ). AreUnits p us) (sym t.units_are) set in (
        own,
        record {
          sized =
              record {
                unit_set =
                    record { rising = own.rising; below = below_more taken.what.units own.below };
                one_size = t.fits.1 ∙ ap length (sym t.units_are);
                positive = t.fits.0.0.1;
              };
          sizes_in_range = each_all taken.what.sizes t.fits.0.1;
          d_in_range = t.fits.0.0.0;
          cost_in_range = t.cost_fits;
        },
      )

  -- ---- networks

  abbrev network_text : List ℕ → List Token
  network_text us = word_text words.Network ∷ map (unit_name p) us

  pub record TookNetwork (number : ℕ) (lines : List Line) (taken : Taken claims.Network) : Type
      0 where
    pub number_is : taken.number ≡ suc (suc (suc number))
    pub lines_are : lines ≡ map line_of (network_lines p taken.what) ++ taken.behind
    pub known : AreUnits p taken.what.units
    pub kept : IsKept taken.what

  took_network : (units : List ℕ) (number : ℕ) (lines rest : List Line)
      (taken : Taken claims.Network) → lines ≡ line_of (network_text units) ∷ rest
      → AreUnits p units → TookSizes units (suc number) rest taken → TookNetwork number lines taken
  took_network units number lines rest taken e set t =
      let k = kept_of units (suc number) rest taken set t in
      record {
        number_is = t.number_is;
        lines_are =
            e ∙ ap₂ (λ (us : List ℕ) (ls : List Line). line_of (network_text us) ∷ ls)
            (sym t.units_are) t.lines_are;
        known = k.0;
        kept = k.1;
      }

  pub network_back : (number : ℕ) (lines : List Line) (taken : Taken claims.Network)
      → network_taken p number lines ≡ Ok taken → TookNetwork number lines taken
  network_back number lines taken e =
      let a =
      first_back (network_line_read p) network_text (AreUnits p) (network_line p formed) number
      lines _ taken e in
      took_network a.what number lines a.rest taken a.lines_are a.fits
      (sizes_back a.what (suc number) a.rest taken a.reads)

  pub network_again : (w : claims.Network) (number : ℕ) (behind : List Line) → AreUnits p w.units
      → IsKept w → network_taken p number (map line_of (network_lines p w) ++ behind)
      ≡ Ok (record { what = w; number = suc (suc (suc number)); behind = behind })
  network_again w number behind set kept =
      first_again (network_line_read p) network_text (AreUnits p) (network_line p formed) number
      w.units (line_of (sizes_text (w.d, w.sizes)) ∷ line_of (cost_text w.cost) ∷ behind)
      (λ units lines. sizes_taken units (suc number) lines) set
      ∙ sizes_again w (suc number) behind kept

  -- ---- claims

  pub record TookClaim (lines : List Line) (taken : Taken claims.Claim) : Type 0 where
    pub lines_are : lines ≡ map line_of (claim_lines p taken.what) ++ taken.behind
    pub known : KnowsClaim p taken.what
    pub kept : KeepsClaim taken.what

  claim_behind_back : (o : Opening) (number : ℕ) (lines rest : List Line)
      (taken : Taken claims.Claim) → lines ≡ line_of (opening_line p formed o) ∷ rest
      → FitsOpening p formed o → claim_behind o (suc number) rest ≡ Ok taken → TookClaim lines taken
  claim_behind_back (network us) number lines rest taken is set e =
      let t = then_ok (sizes_taken us (suc number) rest) _ taken e in
      let n =
      took_network us number lines rest t.0 is set (sizes_back us (suc number) rest t.0 t.1) in
      let x : Taken claims.Claim =
      record { what = claims.network t.0.what; number = t.0.number; behind = t.0.behind } in
      subst (λ (y : Taken claims.Claim). TookClaim lines y) (good_is x taken t.2)
      record { lines_are = n.lines_are; known = n.known; kept = n.kept }
  claim_behind_back infeasible number lines rest taken is set e =
      let x : Taken claims.Claim =
      record { what = claims.infeasible; number = suc number; behind = rest } in
      subst (λ (y : Taken claims.Claim). TookClaim lines y) (good_is x taken e)
      record { lines_are = is; known = tt; kept = tt }
  claim_behind_back unknown number lines rest taken is set e =
      let x : Taken claims.Claim =
      record { what = claims.unknown; number = suc number; behind = rest } in
      subst (λ (y : Taken claims.Claim). TookClaim lines y) (good_is x taken e)
      record { lines_are = is; known = tt; kept = tt }

  pub claim_back : (number : ℕ) (lines : List Line) (taken : Taken claims.Claim)
      → claim_taken p number lines ≡ Ok taken → TookClaim lines taken
  claim_back number lines taken e =
      let a =
      first_back (opening_read p) (opening_line p formed) (FitsOpening p formed)
      (opening_lines p formed) number lines _ taken e in
      claim_behind_back a.what number lines a.rest taken a.lines_are a.fits a.reads

  -- the number of the line after a claim
  abbrev pub behind_claim : claims.Claim → ℕ → ℕ
  behind_claim (claims.network w) number = suc (suc (suc number))
  behind_claim claims.infeasible number = suc number
  behind_claim claims.unknown number = suc number

  opened : (o : Opening) (number : ℕ) (rest : List Line) → FitsOpening p formed o
      → claim_taken p number (line_of (opening_line p formed o) ∷ rest)
      ≡ claim_behind o (suc number) rest
  opened o number rest fits =
      first_again (opening_read p) (opening_line p formed) (FitsOpening p formed)
      (opening_lines p formed) number o rest (λ o lines. claim_behind o (suc number) lines) fits

  pub claim_again : (c : claims.Claim) (number : ℕ) (behind : List Line) → KnowsClaim p c
      → KeepsClaim c → claim_taken p number (map line_of (claim_lines p c) ++ behind)
      ≡ Ok (record { what = c; number = behind_claim c number; behind = behind })
  claim_again (claims.network w) number behind known kept =
      opened (network w.units) number
      (line_of (sizes_text (w.d, w.sizes)) ∷ line_of (cost_text w.cost) ∷ behind) known
      ∙ ap
      (λ (r : Result (Taken claims.Network) Fault). then_read r
      (λ w number lines. good
      (record { what = claims.network w; number = number; behind = lines })))
      (sizes_again w (suc number) behind kept)
  claim_again claims.infeasible number behind known kept = opened infeasible number behind tt
  claim_again claims.unknown number behind known kept = opened unknown number behind tt

  pub claim_tokens : (c : claims.Claim) → KnowsClaim p c → KeepsClaim c
      → Each (Each IsToken) (claim_lines p c)
  claim_tokens (claims.network w) known kept = (
    (network_line p formed).tokens w.units known,
    (
      (sizes_line (length w.units)).tokens (w.d, w.sizes) (kept_fits w kept),
      (cost_line.tokens w.cost kept.cost_in_range, tt),
    ),
  )
  claim_tokens claims.infeasible known kept = ((opening_lines p formed).tokens infeasible tt, tt)
  claim_tokens claims.unknown known kept = ((opening_lines p formed).tokens unknown tt, tt)
