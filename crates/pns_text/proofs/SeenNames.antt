-- The names that were seen are those of the lines that were kept.
use Rattle.std.proofs.Common.{◌≡◌, ◌≤◌, ◌+◌, ◌&&◌, Bool, true, false, not, ℕ, List, [], ◌∷◌, ◌++◌}
use Rattle.std.proofs.Common.{length, map, if◌then◌else◌, refl, sym, ◌∙◌, ap, subst, arith}
use Rattle.std.proofs.Common.{length-append}
use Rattle.text_lines.specs.text_rules.declared.Section.{Section}
use Rattle.text_lines.specs.text_rules.declared.Section.TheVariants.{Defaults, Materials}
use Rattle.text_lines.specs.text_rules.declared.Section.TheVariants.{OperatingUnits}
use Rattle.text_lines.specs.text_rules.declared.Section.TheVariants.{Rates, Exclusions}
use Rattle.text_lines.specs.text_rules.Line.{Placed, is_section, is_at, lines_at, heads_at}
use Rattle.text_lines.specs.text_rules.Line.{is_meant, matters}
use Rattle.text_lines.specs.text_rules.Line.{head_of}
use Rattle.text_lines.specs.text_rules.Fault.{more_if}
use Rattle.text_lines.specs.text_rules.Value.{Names, names_all}
use Rattle.pns_text.specs.Walk.{Walk, kept_after, walk_past, IsPast, HasNames}

-- a line of a section that has a meaning is kept
meant : (section other : Section) (header : Bool) → is_meant section ≡ true
    → (is_section section other && not header) ≡ true → (not header && is_meant other) ≡ true
meant Defaults Defaults false e at = refl
meant Materials Materials false e at = refl
meant OperatingUnits OperatingUnits false e at = refl
meant Rates Rates false e at = refl
meant Exclusions Exclusions false e at = refl
meant section other header e at = cc

abbrev head : Placed → List ℕ
head line = head_of line.text

end_step : (a b : Bool) (k : Placed) (xs ys : List Placed) (name : List ℕ)
    → map head ys ≡ more_if b (map head xs) name
    → map head (if a then k ∷ ys else ys) ≡ more_if b (map head (if a then k ∷ xs else xs)) name
end_step false b k xs ys name e = e
end_step true true k xs ys name e = ap (λ (names : List (List ℕ)). head k ∷ names) e
end_step true false k xs ys name e = ap (λ (names : List (List ℕ)). head k ∷ names) e

end_one : (b : Bool) (line : Placed)
    → map head (if b then line ∷ [] else []) ≡ more_if b [] (head line)
end_one true line = refl
end_one false line = refl

heads_end : (section : Section) (kept : List Placed) (line : Placed)
    → heads_at section (kept ++ line ∷ [])
    ≡ more_if (is_at section line) (heads_at section kept) (head line)
heads_end section [] line = end_one (is_at section line) line
heads_end section (k ∷ kept) line =
    end_step (is_at section k) (is_at section line) k (lines_at section kept)
    (lines_at section (kept ++ line ∷ [])) (head line) (heads_end section kept line)

kept_by : (m a : Bool) (section : Section) (kept : List Placed) (line : Placed)
    → heads_at section (kept ++ line ∷ []) ≡ more_if a (heads_at section kept) (head line)
    → (a ≡ true → m ≡ true)
    → heads_at section (if m then kept ++ line ∷ [] else kept)
    ≡ more_if a (heads_at section kept) (head line)
kept_by true a section kept line e implied = e
kept_by false true section kept line e implied = let off : false ≡ true = implied refl in cc
kept_by false false section kept line e implied = refl

-- the names of a section that has a meaning, after a line
heads_kept : (section : Section) → is_meant section ≡ true
    → (names : List (List ℕ)) (kept : List Placed) (line : Placed) → names ≡ heads_at section kept
    → more_if (is_at section line) names (head line) ≡ heads_at section (kept_after kept line)
heads_kept section e names kept line has =
    ap (λ (known : List (List ℕ)). more_if (is_at section line) known (head line)) has
    ∙ sym
    (kept_by (matters line) (is_at section line) section kept line (heads_end section kept line)
    (λ at. meant section line.section line.header e at))

one_more : (b : Bool) (kept : List Placed) (line : Placed) (number : ℕ) → length kept + 2 ≤ number
    → length (if b then kept ++ line ∷ [] else kept) + 2 ≤ number + 1
one_more true kept line number le = let e = length-append kept (line ∷ []) in omega (arith, e, le)
one_more false kept line number le = omega (arith, le)

-- after a line
past_by : (w : Walk) (number : ℕ) → HasNames w number
    → (header : Bool) (section : Section) (k : ℕ) (text : List ℕ)
    → HasNames
    (walk_past w (record { number = k; section = section; header = header; text = text }))
    (number + 1)
past_by w number has true section k text =
    record {
      materials = has.materials;
      units = has.units;
      rates = has.rates;
      counted = let le =
          has.counted in omega (arith, le);
    }
past_by w number has false section k text =
    let line : Placed = record { number = k; section = section; header = false; text = text } in
    record {
      materials = heads_kept Materials refl w.seen.materials w.kept line has.materials;
      units = heads_kept OperatingUnits refl w.seen.units w.kept line has.units;
      rates = heads_kept Rates refl w.seen.rates w.kept line has.rates;
      counted = one_more (matters line) w.kept line number has.counted;
    }

pub names_past : (w next : Walk) (number : ℕ) (line : Placed) → HasNames w number
    → IsPast w line next → HasNames next (number + 1)
names_past w next number line has is =
    subst (λ (v : Walk). HasNames v (number + 1)) (sym is.past)
    (past_by w number has line.header line.section line.number line.text)

-- after an empty line
pub names_stay : (w : Walk) (number : ℕ) → HasNames w number → HasNames w (number + 1)
names_stay w number has =
    record {
      materials = has.materials;
      units = has.units;
      rates = has.rates;
      counted = let le =
          has.counted in omega (arith, le);
    }

-- the names of a walk
abbrev pub names_in : Walk → Names
names_in w = record { materials = w.seen.materials; units = w.seen.units; rates = w.seen.rates }

pub names_are : (w : Walk) (number : ℕ) → HasNames w number → names_in w ≡ names_all w.kept
names_are w number has =
    λ i. record { materials = has.materials i; units = has.units i; rates = has.rates i }
