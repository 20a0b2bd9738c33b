-- Places at which a number is out of range, both ways.
use Rattle.std.proofs.Common.{◌≡◌, true, List, [], ◌∷◌, codes, decimal, Option, Result, Ok, refl}
use Rattle.std.proofs.Common.{◌∙◌, ap, ap₂, subst}
use Rattle.std.specs.Str.{bytes_eq}
use Rattle.tree_text_rules.specs.problem_rules.Each.{Each}
use Rattle.tree_text_rules.specs.problem_rules.Problem.{Problem}
use Rattle.tree_text_rules.specs.problem_rules.WellFormed.{IsWellFormed}
use Rattle.tree_text_rules.specs.integer_laws.declared.which.Which.{Which}
use Rattle.tree_text_rules.specs.flow_rules.declared.place.Column.{Column}
use Rattle.tree_text_rules.specs.flow_rules.declared.place.Place.{Place}
use Rattle.tree_text_rules.specs.flow_rules.declared.place.Place.TheVariants as places
use Rattle.tree_text_rules.specs.tree_rules.Known.{IsUnit, KnowsColumn, KnowsPlace}
use Rattle.tree_text_rules.specs.Line.{Token}
use Rattle.tree_text_rules.specs.LineRead.{one, two, entry_of, place_of}
use Rattle.tree_text_rules.specs.Spelling.{unit_name, column_text, row_text, which_text, flow_text}
use Rattle.tree_text_rules.specs.Spelling.{place_fields}
use Rattle.tree_text_rules.specs.Token.{both, mapped, unit_of, count_of, column_of, row_of}
use Rattle.tree_text_rules.specs.Token.{which_of, flow_of}
use Rattle.tree_text_rules.specs.declared.TreeKind.{TreeKind}
use Rattle.tree_text_laws.specs.LineFits.{IsCount, FitsPlace}
use Rattle.tree_text_laws.specs.Codes.{IsToken}
use Rattle.tree_text_laws.specs.LineLaws.{Any}
use Rattle.tree_text_laws.proofs.Codes.{mapped_ok, both_ok, AreFields, one_fields, two_fields}
use Rattle.tree_text_laws.proofs.Columns.{choice_ok, none_ok, same_text, column_code, row_code}
use Rattle.tree_text_laws.proofs.Columns.{which_code, flow_code}
use Rattle.tree_text_laws.proofs.Decimals.{counts}
use Rattle.tree_text_laws.proofs.Names.{unit_code}
use Rattle.tree_text_laws.proofs.NodeLines.{mapped_back}

plain : {A B : Type 0} (a : A) (b : B) (r : Result A TreeKind) (s : Result B TreeKind) → r ≡ Ok a
    → s ≡ Ok b → both r s ≡ Ok (a, b)
plain a b r s e f = ap₂ (λ (x : Result _ TreeKind) (y : Result _ TreeKind). both x y) e f

module _ (p : Problem) (good : IsWellFormed p) where
  flowing : AreFields (two (unit_of p) flow_of) (λ c. unit_name p c.0 ∷ flow_text c.1 ∷ [])
      (λ c. IsUnit p c.0 × Any c.1)
  flowing =
      two_fields (unit_of p) (unit_name p) (IsUnit p) (unit_code p good) flow_of flow_text Any
      flow_code

  refuting : AreFields (two (column_of p) count_of) (λ c. column_text p c.0 ∷ decimal c.1 ∷ [])
      (λ c. KnowsColumn p c.0 × IsCount c.1)
  refuting =
      two_fields (column_of p) (column_text p) (KnowsColumn p) (column_code p good) count_of decimal
      IsCount counts

  counting : AreFields (one count_of) (λ n. decimal n ∷ []) IsCount
  counting = one_fields count_of decimal IsCount counts

  pub place_tokens : (place : Place) → FitsPlace p place → Each IsToken (place_fields p place)
  place_tokens (places.Entry leave enter row column which) fits = (
    record { some = refl; space = refl; feed = refl },
    (
      (column_code p good).token leave fits.known.0,
      (
        (column_code p good).token enter fits.known.1,
        (
          (row_code p good).token row fits.known.2,
          ((column_code p good).token column fits.known.3, (which_code.token which tt, tt)),
        ),
      ),
    ),
  )
  place_tokens (places.Flow unit which) fits = (
    record { some = refl; space = refl; feed = refl },
    flowing.tokens (unit, which) (fits.known, tt),
  )
  place_tokens (places.Cost at) fits =
      (record { some = refl; space = refl; feed = refl }, counting.tokens at fits.counted)
  place_tokens (places.FlowSum at) fits =
      (record { some = refl; space = refl; feed = refl }, counting.tokens at fits.counted)
  place_tokens (places.Bound at) fits =
      (record { some = refl; space = refl; feed = refl }, counting.tokens at fits.counted)
  place_tokens (places.Refute row at) fits = (
    record { some = refl; space = refl; feed = refl },
    refuting.tokens (row, at) (fits.known, fits.counted),
  )

  abbrev entry_at : Column × (Column × (Option Column × (Column × Which))) → Place
  entry_at found = places.Entry found.0 found.1.0 found.1.1.0 found.1.1.1.0 found.1.1.1.1

  entry_again : (leave enter : Column) (row : Option Column) (column : Column) (which : Which)
      → KnowsPlace p (places.Entry leave enter row column which)
      → entry_of p
      (column_text p leave ∷ column_text p enter ∷ row_text p row ∷ column_text p column
      ∷ which_text which ∷ []) ≡ Ok (places.Entry leave enter row column which)
  entry_again leave enter row column which known =
      let c = column_code p good in
      ap (mapped entry_at)
      (plain leave (enter, (row, (column, which))) (column_of p (column_text p leave)) _
      (c.again leave known.0)
      (plain enter (row, (column, which)) (column_of p (column_text p enter)) _
      (c.again enter known.1)
      (plain row (column, which) (row_of p (row_text p row)) _ ((row_code p good).again row known.2)
      (plain column which (column_of p (column_text p column)) (which_of (which_text which))
      (c.again column known.3) (which_code.again which tt)))))

  pub place_again : (place : Place) → FitsPlace p place
      → place_of p (place_fields p place) ≡ Ok place
  place_again (places.Entry leave enter row column which) fits =
      entry_again leave enter row column which fits.known
  place_again (places.Flow unit which) fits =
      ap (mapped (λ found. places.Flow found.0 found.1))
      (flowing.again (unit, which) (fits.known, tt))
  place_again (places.Cost at) fits = ap (mapped places.Cost) (counting.again at fits.counted)
  place_again (places.FlowSum at) fits = ap (mapped places.FlowSum) (counting.again at fits.counted)
  place_again (places.Bound at) fits = ap (mapped places.Bound) (counting.again at fits.counted)
  place_again (places.Refute row at) fits =
      ap (mapped (λ found. places.Refute found.0 found.1))
      (refuting.again (row, at) (fits.known, fits.counted))

  abbrev SpellsPlace : List Token → Place → Type 0
  SpellsPlace tokens place = (tokens ≡ place_fields p place) × FitsPlace p place

  entry_back : (word : Token) (tokens : List Token) (place : Place) → word ≡ codes "entry"
      → entry_of p tokens ≡ Ok place → SpellsPlace (word ∷ tokens) place
  entry_back word (leave ∷ enter ∷ row ∷ column ∷ which ∷ []) place w e =
      let c = column_code p good in
      let m =
      mapped_ok entry_at
      (both (column_of p leave)
      (both (column_of p enter)
      (both (row_of p row) (both (column_of p column) (which_of which))))) place e in
      let one =
      both_ok (column_of p leave)
      (both (column_of p enter)
      (both (row_of p row) (both (column_of p column) (which_of which)))) m.0 m.1 in
      let two =
      both_ok (column_of p enter)
      (both (row_of p row) (both (column_of p column) (which_of which))) m.0.1 one.1 in
      let three =
      both_ok (row_of p row) (both (column_of p column) (which_of which)) m.0.1.1 two.1 in
      let four = both_ok (column_of p column) (which_of which) m.0.1.1.1 three.1 in
      let a = c.back leave m.0.0 one.0 in
      let b = c.back enter m.0.1.0 two.0 in
      let r = (row_code p good).back row m.0.1.1.0 three.0 in
      let d = c.back column m.0.1.1.1.0 four.0 in
      let f = which_code.back which m.0.1.1.1.1 four.1 in
      subst (λ (x : Place). SpellsPlace (word ∷ leave ∷ enter ∷ row ∷ column ∷ which ∷ []) x) m.2 (
        ap₂ (λ (x y : Token). x ∷ y ∷ enter ∷ row ∷ column ∷ which ∷ []) w a.0
            ∙ ap₂
            (λ (x y : Token). codes "entry" ∷ column_text p m.0.0 ∷ x ∷ y ∷ column ∷ which ∷ [])
            b.0 r.0
            ∙ ap₂
            (λ (x y : Token). codes "entry" ∷ column_text p m.0.0 ∷ column_text p m.0.1.0
            ∷ row_text p m.0.1.1.0 ∷ x ∷ y ∷ []) d.0 f.0,
        record { known = (a.1, b.1, r.1, d.1); counted = tt },
      )
  entry_back word tokens place w e = absurd cc

  pub place_back : (tokens : List Token) (place : Place) → place_of p tokens ≡ Ok place
      → SpellsPlace tokens place
  place_back [] place e = absurd cc
  place_back (word ∷ tokens) place e =
      let P : Place → Type 0 = λ x. SpellsPlace (word ∷ tokens) x in
      let shows : (text : Token) → bytes_eq word text ≡ true → (fields : List Token)
      → tokens ≡ fields → (word ∷ tokens) ≡ text ∷ fields =
      λ text holds fields is. ap₂ (λ (x : Token) (y : List Token). x ∷ y)
      (same_text word text holds) is in
      choice_ok _ _ _ place P
      (λ holds f. entry_back word tokens place (same_text word (codes "entry") holds) f)
      (choice_ok _ _ _ place P
      (λ holds. mapped_back (λ found. places.Flow found.0 found.1) (two (unit_of p) flow_of)
      (λ c. unit_name p c.0 ∷ flow_text c.1 ∷ []) (λ c. IsUnit p c.0 × Any c.1) flowing P tokens
      (λ c is known. (
        shows (codes "flow") holds (unit_name p c.0 ∷ flow_text c.1 ∷ []) is,
        record { known = known.0; counted = tt },
      )) place)
      (choice_ok _ _ _ place P
      (λ holds. mapped_back places.Cost (one count_of) (λ n. decimal n ∷ []) IsCount counting P
      tokens
      (λ n is counted. (
        shows (codes "cost") holds (decimal n ∷ []) is,
        record { known = tt; counted = counted },
      )) place)
      (choice_ok _ _ _ place P
      (λ holds. mapped_back places.FlowSum (one count_of) (λ n. decimal n ∷ []) IsCount counting P
      tokens
      (λ n is counted. (
        shows (codes "flowsum") holds (decimal n ∷ []) is,
        record { known = tt; counted = counted },
      )) place)
      (choice_ok _ _ _ place P
      (λ holds. mapped_back places.Bound (one count_of) (λ n. decimal n ∷ []) IsCount counting P
      tokens
      (λ n is counted. (
        shows (codes "bound") holds (decimal n ∷ []) is,
        record { known = tt; counted = counted },
      )) place)
      (choice_ok _ _ _ place P
      (λ holds. mapped_back (λ found. places.Refute found.0 found.1) (two (column_of p) count_of)
      (λ c. column_text p c.0 ∷ decimal c.1 ∷ []) (λ c. KnowsColumn p c.0 × IsCount c.1)
      refuting P tokens
      (λ c is known. (
        shows (codes "refute") holds (column_text p c.0 ∷ decimal c.1 ∷ []) is,
        record { known = known.0; counted = known.1 },
      )) place)
      (none_ok place P)))))) e
