-- The parts of a listing joined.
use Rattle.std.proofs.Common.{◌≡◌, ◌++◌, ◌+◌, ◌<◌, ◌≤◌, ℕ, zero, suc, Bool, true, false, List, []}
use Rattle.std.proofs.Common.{◌∷◌, Option, Some, None, codes, length, map, take, drop, get_or}
use Rattle.std.proofs.Common.{nat_lt, refl, sym, ap, subst, ◌∙◌, arith, inl, inr, append_assoc}
use Rattle.std.proofs.Common.{cond}
use Rattle.std.proofs.lemmas.List.{length-append, length-take-le, take-append-drop}
use Rattle.std.proofs.lemmas.Bool.{ltb-true, ltb-false}
use Rattle.std.proofs.Math.Seq.{take-append_seam, get_or-append_seam, take-append-add}
use Rattle.text_lines.specs.number_sets.Sets.{has, IsRising}
use Rattle.text_lines.specs.number_sets.Options.{IsIn}
use Rattle.text_lines.specs.problem_rules.Problem.{Problem}
use Rattle.text_lines.specs.problem_rules.WellFormed.{IsWellFormed}
use Rattle.cert_check.specs.pns_rules.Shape.{shape_of}
use Rattle.cert_check.specs.pns_rules.Structure.{IsStructure}
use Rattle.cert_check.specs.pns_rules.Listing.{IsListed, IsListing}
use Rattle.cert_check.proofs.pns_rules.Cited.{listing_is_one, listing_resumes}
use Rattle.cert_check.specs.pns_rules.Tokens.{token_of}
use Rattle.cert_check.proofs.structure_list.Cited.{token_one}
use Rattle.command_files.specs.studio_rules.Listing.{IsAfter, structure_line, more_line, last_of}
use Rattle.command_files.specs.studio_rules.Listing.{last_line}
use Rattle.command_files.specs.studio_rules.Listing.{listing_lines, ListingWork}
use Rattle.command_files.specs.studio_rules.declared.status.Status.TheVariants.{Done}
use Rattle.structure_commands.proofs.Listings.{lines_cut}
use Rattle.structure_commands.proofs.ListingStart.{not_start, set_of}

-- ---- lists with one more element at the end

module _ {A : Type 0} (xs ys : List A) (x y : A) (e : xs ++ x ∷ [] ≡ ys ++ y ∷ []) where
  same_length : length xs ≡ length ys
  same_length = let all = ap length e in let left = length-append xs (x ∷ []) in let right =
      length-append ys (y ∷ []) in omega (arith, all, left, right)

  same_front : xs ≡ ys
  same_front =
      sym (take-append_seam xs (x ∷ []))
      ∙ (ap (take (length xs)) e
      ∙ (ap (λ k. take k (ys ++ y ∷ [])) same_length ∙ take-append_seam ys (y ∷ [])))

  same_last : x ≡ y
  same_last =
      sym (get_or-append_seam xs x [] x)
      ∙ (ap (λ zs. get_or zs (length xs) x) e
      ∙ (ap (λ k. get_or (ys ++ y ∷ []) k x) same_length ∙ get_or-append_seam ys y [] x))

-- ---- the last of a list

last_of-append : (xs : List (List ℕ)) (y : List ℕ) (ys : List (List ℕ))
    → last_of (xs ++ y ∷ ys) ≡ last_of (y ∷ ys)
last_of-append [] y ys = refl
last_of-append (x ∷ []) y ys = refl
last_of-append (x ∷ t ∷ xs) y ys = last_of-append (t ∷ xs) y ys

last_cut : (ss : List (List ℕ)) → 0 < length ss → (front : List (List ℕ))
    × (ss ≡ front ++ last_of ss ∷ [])
last_cut [] some = absurd (omega (arith, some))
last_cut (s ∷ []) some = ([], refl)
last_cut (s ∷ t ∷ ss) some = let cut =
    last_cut (t ∷ ss) (omega arith) in (s ∷ cut.0, ap (λ rest. s ∷ rest) cut.1)

is_in : (xs : List (List ℕ)) (z : List ℕ) (ys : List (List ℕ)) → IsIn z (xs ++ z ∷ ys)
is_in [] z ys = inl refl
is_in (x ∷ xs) z ys = inr (is_in xs z ys)

-- the last line of a listing is that of the structures after its first ones
module _ (given rest : List (List ℕ)) (m n : ℕ) (many : length given ≡ m) (some : 0 < n) where
  last_given : n < length rest → last_of (take (m + n) (given ++ rest)) ≡ last_of (take n rest)
  last_given less =
      ap last_of
      (ap (λ k. take k (given ++ rest))
      (let e : m + n ≡ length given + n = omega (arith, many) in e)
      ∙ take-append-add given rest n)
      ∙ at rest n some less
    where
      at : (rest : List (List ℕ)) (n : ℕ) → 0 < n → n < length rest
          → last_of (given ++ take n rest) ≡ last_of (take n rest)
      at rest zero some less = absurd (omega (arith, some))
      at [] (suc n) some less = absurd (omega (arith, less))
      at (r ∷ rs) (suc n) some less = last_of-append given r (take n rs)

  last_line-behind : last_line (m + n) (given ++ rest) ≡ last_line n rest
  last_line-behind = at (nat_lt n (length rest)) (nat_lt (m + n) (length (given ++ rest))) refl refl
    where
      long : length (given ++ rest) ≡ m + length rest
      long = let all = length-append given rest in omega (arith, all, many)

      at : (a b : Bool) → nat_lt n (length rest) ≡ a → nat_lt (m + n) (length (given ++ rest)) ≡ b
          → cond b (more_line (last_of (take (m + n) (given ++ rest)))) (codes "end")
          ≡ cond a (more_line (last_of (take n rest))) (codes "end")
      at true true e f = ap more_line (last_given (ltb-true n (length rest) e))
      at false false e f = refl
      at true false e f =
          absurd (let l = long in let a = ltb-true n (length rest) e in let b =
          ltb-false (m + n) (length (given ++ rest)) f in omega (arith, a, b, l))
      at false true e f =
          absurd (let l = long in let a = ltb-false n (length rest) e in let b =
          ltb-true (m + n) (length (given ++ rest)) f in omega (arith, a, b, l))

-- ---- the structure at which the second part begins

after_is : (p : Problem) (z : List ℕ) (token : List ℕ) (after : Option (List ℕ))
    → length p.units ≤ 128 → IsRising z → IsStructure (shape_of p) (has z) → token ≡ token_of z
    → IsAfter (shape_of p) token after → after ≡ Some z
after_is p z token None few up is e h = absurd (not_start token z e h)
after_is p z token (Some s) few up is e h =
    ap Some (token_one s z (set_of p s few h.0 h.1) (set_of p z few up is) (sym h.2 ∙ e))

-- `more` and a token, of a listing that goes on
module _ (count : ℕ) (all : List (List ℕ)) (token : List ℕ)
    (e : codes "more " ++ token ≡ last_line count all) where
  goes_on : count < length all
  goes_on = at (nat_lt count (length all)) refl e
    where
      at : (b : Bool) → nat_lt count (length all) ≡ b
          → codes "more " ++ token ≡ cond b (more_line (last_of (take count all))) (codes "end")
          → count < length all
      at true f h = ltb-true count (length all) f
      at false f h = absurd (let first = ap (λ l. get_or l 0 0) h in omega (arith, first))

  token_is : token ≡ token_of (last_of (take count all))
  token_is = at (nat_lt count (length all)) e
    where
      at : (b : Bool) → codes "more " ++ token
          ≡ cond b (more_line (last_of (take count all))) (codes "end")
          → token ≡ token_of (last_of (take count all))
      at true h = ap (drop 5) h
      at false h = absurd (let first = ap (λ l. get_or l 0 0) h in omega (arith, first))

module _ (p : Problem) (few : length p.units ≤ 128) (token : List ℕ) (m n : ℕ) (some : 0 < m)
    (some' : 0 < n) (after : Option (List ℕ)) (all : List (List ℕ))
    (listing : IsListing (shape_of p) after all) (less : m < length all)
    (token_e : token ≡ token_of (last_of (take m all))) where
  z : List ℕ
  z = last_of (take m all)

  long : length (take m all) ≡ m
  long = length-take-le m all (omega (arith, less))

  cut : (front : List (List ℕ)) × (take m all ≡ front ++ last_of (take m all) ∷ [])
  cut = last_cut (take m all) (let e = long in omega (arith, e, some))

  whole : all ≡ cut.0 ++ last_of (take m all) ∷ drop m all
  whole =
      sym (take-append-drop m all)
      ∙ (ap (λ ss. ss ++ drop m all) cut.1
      ∙ append_assoc cut.0 (last_of (take m all) ∷ []) (drop m all))

  listed : IsListed (shape_of p) after (last_of (take m all))
  listed =
      listing.no_more (last_of (take m all))
      (subst (IsIn (last_of (take m all))) (sym whole)
      (is_in cut.0 (last_of (take m all)) (drop m all)))

  behind : IsListing (shape_of p) (Some (last_of (take m all))) (drop m all)
  behind =
      listing_resumes (shape_of p) after cut.0 (last_of (take m all)) (drop m all)
      (subst (IsListing (shape_of p) after) whole listing)

  -- the second part lists what the first left
  pub rest_is : (after' : Option (List ℕ)) (all' : List (List ℕ))
      → IsAfter (shape_of p) token after' → IsListing (shape_of p) after' all' → all' ≡ drop m all
  rest_is after' all' is listing' =
      listing_is_one (shape_of p) (Some (last_of (take m all))) all' (drop m all)
      (subst (λ a. IsListing (shape_of p) a all')
      (after_is p (last_of (take m all)) token after' few listed.rising listed.meets token_e is)
      listing') behind

  pub lines_join : listing_lines p (m + n) all ≡ map (structure_line p) (take m all)
      ++ listing_lines p n (drop m all)
  lines_join =
      ap (listing_lines p (m + n)) (sym (take-append-drop m all))
      ∙ lines_cut p (take m all) (drop m all) (m + n) n (let e = long in omega (arith, e))
      ∙ ap (λ l. map (structure_line p) (take m all)
      ++ (map (structure_line p) (take n (drop m all)) ++ l ∷ []))
      (last_line-behind (take m all) (drop m all) m n long some')

pub parts_join : (p : Problem) (word token : List ℕ) (m n : ℕ) (first second : List (List ℕ))
    → IsWellFormed p → 0 < m → 0 < n
    → ListingWork word m p Done (first ++ (codes "more " ++ token) ∷ [])
    → ListingWork token n p Done second → ListingWork word (m + n) p Done (first ++ second)
parts_join p word token m n first second formed some some' (after, is, (all, listing, e))
    (after', is', (all', listing', e')) =
    let f : List ℕ → List ℕ = structure_line p in
    let front : first ≡ map f (take m all) =
    same_front first (map f (take m all)) (codes "more " ++ token) (last_line m all) e in
    let last : codes "more " ++ token ≡ last_line m all =
    same_last first (map f (take m all)) (codes "more " ++ token) (last_line m all) e in
    let less : m < length all = goes_on m all token last in
    let named : token ≡ token_of (last_of (take m all)) = token_is m all token last in
    let rest : all' ≡ drop m all =
    rest_is p formed.few_units token m n some some' after all listing less named after' all' is'
    listing' in
    let lines : first ++ second ≡ listing_lines p (m + n) all =
    ap (λ ls. ls ++ second) front
    ∙ (ap (λ ls. map f (take m all) ++ ls) (e' ∙ ap (listing_lines p n) rest)
    ∙ sym (lines_join p formed.few_units token m n some some' after all listing less named)) in
    (after, is, (all, listing, lines))
