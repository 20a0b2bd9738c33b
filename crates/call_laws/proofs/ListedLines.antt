-- The lines of a listing, and the structures that they are of.
use Rattle.std.proofs.Common.{◌≡◌, ◌<◌, ◌+◌, ◌==◌, ◌++◌, ◌∷◌, [], Bool, true, false}
use Rattle.std.proofs.Common.{cond, ℕ, zero, suc, List, Option, Some, None, length, map, take}
use Rattle.std.proofs.Common.{nat_lt, codes, get_or, refl, sym, ap, ◌∙◌, subst, arith, inl, inr}
use Rattle.std.proofs.Common.{append-nil, ltb-false, ne_eqb}
use Rattle.std.specs.List.{list_any, Contains, slice_split}
use Rattle.std.proofs.lemmas.Bool.{or_from}
use Rattle.std.proofs.lemmas.List.{length-append, take_all}
use Rattle.std.proofs.lemmas.List.Elements.{Contains-append_left, Contains-push_cases}
use Rattle.studio.specs.text_rules.Canonical.{joined}
use Rattle.studio.proofs.text_laws.Cited.{split_joined}
use Rattle.studio.specs.number_sets.Sets.{has, IsSet, IsRising}
use Rattle.studio.specs.number_sets.Options.{IsIn}
use Rattle.studio.proofs.number_sets.Cited.{below_from}
use Rattle.studio.specs.problem_rules.Each.{Each}
use Rattle.studio.specs.problem_rules.Problem.{Problem, unit_names}
use Rattle.studio.specs.problem_rules.WellFormed.{IsWellFormed}
use Rattle.studio.specs.edit_rules.Formed.{IsName}
use Rattle.studio.specs.pns_rules.Shape.{shape_of}
use Rattle.studio.specs.pns_rules.Structure.{IsStructure}
use Rattle.studio.specs.pns_rules.Listing.{IsListed}
use Rattle.studio.specs.pns_rules.Tokens.{digit, AreDigits, IsToken, token_of}
use Rattle.studio.proofs.structure_list.Cited.{token_has_form}
use Rattle.studio.specs.tree_text_rules.Line.{is_space}
use Rattle.studio.specs.tree_text_rules.Spelling.{unit_name}
use Rattle.studio.specs.studio_rules.Lines.{spaced_names, names_in}
use Rattle.studio.specs.studio_rules.Listing.{structure_line, more_line, last_of, last_line}
use Rattle.studio.specs.studio_rules.Listing.{listing_lines, ListingWork}
use Rattle.studio.specs.studio_rules.declared.status.Status.TheVariants.{Done}
use Rattle.call_laws.specs.OptimumLaws.{Lists}
use Rattle.call_laws.proofs.UnitNames.{IsSolid, name_solid, names_solid, names_of_set}

-- ---- lines of tokens

-- tokens without a space are known from their line
one_line : (x y : List ℕ) (xs ys : List (List ℕ)) → Each IsSolid (x ∷ xs) → Each IsSolid (y ∷ ys)
    → joined 32 (x ∷ xs) ≡ joined 32 (y ∷ ys) → ◌≡◌ {A = List (List ℕ)} (x ∷ xs) (y ∷ ys)
one_line x y xs ys solid other e =
    sym (split_joined is_space 32 x xs refl solid.0 solid.1)
    ∙ (ap (slice_split is_space) e ∙ split_joined is_space 32 y ys refl other.0 other.1)

heads : (x y : List ℕ) (xs ys : List (List ℕ)) → ◌≡◌ {A = List (List ℕ)} (x ∷ xs) (y ∷ ys) → (x ≡ y)
    × (xs ≡ ys)
heads x y xs ys e = let front : x ≡ y = cc in let rest : xs ≡ ys = cc in (front, rest)

-- a space and a name for each is the rest of a line
spaced_line : (token : List ℕ) (names : List (List ℕ)) → token ++ spaced_names names
    ≡ joined 32 (token ∷ names)
spaced_line token [] = append-nil token
spaced_line token (name ∷ names) = ap (λ (t : List ℕ). token ++ 32 ∷ t) (spaced_line name names)

-- ---- tokens of structures

digit_solid : (d : ℕ) → (digit d == 32) ≡ false
digit_solid d = at (nat_lt d 10)
  where
    at : (b : Bool) → (cond b (48 + d) (87 + d) == 32) ≡ false
    at true = ne_eqb (48 + d) 32 (λ e. omega (arith, e))
    at false = ne_eqb (87 + d) 32 (λ e. omega (arith, e))

digits_solid : (bs : List ℕ) → AreDigits bs → IsSolid bs
digits_solid [] are = refl
digits_solid (b ∷ bs) are =
    or_from (is_space b) (list_any is_space bs)
    (ap (λ (c : ℕ). c == 32) are.0.same ∙ digit_solid are.0.digit_is) (digits_solid bs are.1)

token_form : (s : List ℕ) → IsToken (token_of s)
token_form s = token_has_form (token_of s) s refl

token_solid : (token : List ℕ) → IsToken token → IsSolid token
token_solid token is = digits_solid token is.digits

set_of : (p : Problem) (s : List ℕ) → IsRising s → IsStructure (shape_of p) (has s)
    → IsSet (length p.units) s
set_of p s rising meets = record { rising = rising; below = below_from (length p.units) s meets.s3 }

-- the line of a structure
line_is : (p : Problem) (s : List ℕ) → IsSet (length p.units) s → structure_line p s
    ≡ joined 32 (token_of s ∷ map (unit_name p) s)
line_is p s set = ap (λ (names : List (List ℕ)). token_of s ++ spaced_names names)
    (names_of_set p s set) ∙ spaced_line (token_of s) (map (unit_name p) s)

-- ---- which lines there are

in_map : (f : List ℕ → List ℕ) (all : List (List ℕ)) (x : List ℕ) → Contains (map f all) x
    → (s : List ℕ) × IsIn s all × (f s ≡ x)
in_map f [] x (k, less, is) = absurd (omega (arith, less))
in_map f (a ∷ all) x (zero, less, is) = (a, inl refl, is)
in_map f (a ∷ all) x (suc k, less, is) = let more = in_map f all x (k, omega (arith, less), is) in
    (more.0, inr more.1, more.2)

to_map : (f : List ℕ → List ℕ) (all : List (List ℕ)) (s : List ℕ) → IsIn s all
    → Contains (map f all) (f s)
to_map f [] s here = absurd here
to_map f (a ∷ all) s (inl e) = (0, omega arith, ap f (sym e))
to_map f (a ∷ all) s (inr here) = let more = to_map f all s here in
    (suc more.0, (let less = more.1 in omega (arith, less)), more.2)

in_take : (n : ℕ) (all : List (List ℕ)) (s : List ℕ) → IsIn s (take n all) → IsIn s all
in_take zero all s here = absurd here
in_take (suc n) [] s here = here
in_take (suc n) (a ∷ all) s (inl e) = inl e
in_take (suc n) (a ∷ all) s (inr here) = inr (in_take n all s here)

-- the last line has no token of 32 digits in front
not_last : (count : ℕ) (all : List (List ℕ)) (token : List ℕ) (names : List (List ℕ))
    → IsToken token → Each IsSolid names → last_line count all ≡ joined 32 (token ∷ names) → ⊥
not_last count all token names is solid = at (nat_lt count (length all))
  where
    not_word : (word : List ℕ) (words : List (List ℕ)) → length word < 32
        → Each IsSolid (word ∷ words) → joined 32 (word ∷ words) ≡ joined 32 (token ∷ names) → ⊥
    not_word word words short other e =
        let same = heads word token words names
        (one_line word token words names other (token_solid token is, solid) e) in
        let long = is.long in let size = ap length same.0 in omega (arith, short, long, size)

    at : (b : Bool) → cond b (more_line (last_of (take count all))) (codes "end")
        ≡ joined 32 (token ∷ names) → ⊥
    at true e = not_word (codes "more") (token_of (last_of (take count all)) ∷ []) (omega arith) (
      refl,
      (
        token_solid (token_of (last_of (take count all)))
            (token_form (last_of (take count all))),
        tt,
      ),
    ) e
    at false e = not_word (codes "end") [] (omega arith) (refl, tt) e

-- a structure that is listed, and its names
pub record IsLineOf (p : Problem) (after : Option (List ℕ)) (names : List (List ℕ)) : Type 0 where
  pub units : List ℕ
  pub set : IsSet (length p.units) units
  pub listed : IsListed (shape_of p) after units
  pub names_are : names ≡ map (unit_name p) units

names_solid_too : (names : List (List ℕ)) → Each IsName names → Each IsSolid names
names_solid_too [] each = tt
names_solid_too (n ∷ ns) each = (name_solid n each.0, names_solid_too ns each.1)

pub listed_structure : (p : Problem) (word : List ℕ) (count : ℕ) (lines names : List (List ℕ))
    → IsWellFormed p → ListingWork word count p Done lines → Each IsName names → Lists lines names
    → (after : Option (List ℕ)) × IsLineOf p after names
listed_structure p word count lines names formed (after, is, (all, listing, e)) named
    (token, form, there) =
    let here : Contains (listing_lines p count all) (joined 32 (token ∷ names)) =
    subst (λ (ls : List (List ℕ)). Contains ls (joined 32 (token ∷ names))) e there in
    elim (Contains-push_cases (map (structure_line p) (take count all)) (last_line count all)
    (joined 32 (token ∷ names)) here) [
      | inl found ↦ (
        after,
        at (in_map (structure_line p) (take count all)
            (joined 32 (token ∷ names)) found),
      )
      | inr last ↦ absurd (not_last count all token names form (names_solid_too names named) last)
    ]
  where
    at : (s : List ℕ) × IsIn s (take count all) × (structure_line p s ≡ joined 32 (token ∷ names))
        → IsLineOf p after names
    at (s, here, same) =
        let listed = listing.no_more s (in_take count all s here) in
        let set = set_of p s listed.rising listed.meets in
        let line = one_line (token_of s) token (map (unit_name p) s) names
        (token_solid (token_of s) (token_form s), names_solid p s formed set.below)
        (token_solid token form, names_solid_too names named) (sym (line_is p s set) ∙ same) in
        record {
          units = s;
          set = set;
          listed = listed;
          names_are =
              sym (heads (token_of s) token (map (unit_name p) s) names line).1;
        }

-- ---- a listing with the line `end`

not_end : (s rest : List ℕ) → token_of s ++ rest ≡ codes "end" → ⊥
not_end s rest e = let long = (token_form s).long in let size = ap length e in
    let l = length-append (token_of s) rest in omega (arith, long, size, l)

whole_lines : (p : Problem) (count : ℕ) (all : List (List ℕ))
    → Contains (listing_lines p count all) (codes "end") → take count all ≡ all
whole_lines p count all there =
    elim (Contains-push_cases (map (structure_line p) (take count all)) (last_line count all)
    (codes "end") there) [
      | inl found ↦ absurd
          (let line = in_map (structure_line p) (take count all) (codes "end") found in
          not_end line.0 (spaced_names (names_in (has line.0) 0 (unit_names p.units))) line.2)
      | inr last ↦ at (nat_lt count (length all)) refl last
    ]
  where
    at : (b : Bool) → nat_lt count (length all) ≡ b
        → cond b (more_line (last_of (take count all))) (codes "end") ≡ codes "end" → take count all
        ≡ all
    at true is e = absurd (let first = ap (λ (t : List ℕ). get_or t 0 0) e in omega (arith, first))
    at false is e = take_all count all (ltb-false count (length all) is)

-- each structure of a whole listing has its line
pub has_line : (p : Problem) (count : ℕ) (lines : List (List ℕ)) (s : List ℕ)
    → ListingWork (codes "start") count p Done lines → Contains lines (codes "end")
    → IsListed (shape_of p) None s → Lists lines (map (unit_name p) s)
has_line p count lines s (Some after, is, (all, listing, e)) there listed =
    absurd (let size = ap length is.2 in let long = (token_form after).long in
    omega (arith, size, long))
has_line p count lines s (None, is, (all, listing, e)) there listed =
    let whole = whole_lines p count all
    (subst (λ (ls : List (List ℕ)). Contains ls (codes "end")) e there) in
    let set = set_of p s listed.rising listed.meets in
    let line : Contains (map (structure_line p) (take count all)) (structure_line p s) =
    subst (λ (ss : List (List ℕ)). Contains (map (structure_line p) ss) (structure_line p s))
    (sym whole) (to_map (structure_line p) all s (listing.has_all s listed)) in (
      token_of s,
      token_form s,
      subst (λ (ls : List (List ℕ)). Contains ls (joined 32 (token_of s ∷ map (unit_name p) s)))
          (sym e)
          (subst (λ (l : List ℕ). Contains (listing_lines p count all) l) (line_is p s set)
          (Contains-append_left (map (structure_line p) (take count all)) (last_line count all ∷ [])
          (structure_line p s) line)),
    )
