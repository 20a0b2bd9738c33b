-- The numbers of a command are within the ranges of their words.
use Rattle.std.proofs.Common.{◌≡◌, ◌≤◌, ◌<◌, ◌&&◌, arith, length, ℕ, Bool, true, false, List, []}
use Rattle.std.proofs.Common.{◌∷◌, Option, Some, None, IfSome, refl, codes, map, String, Global}
use Rattle.std.proofs.Common.{string_bytes, option_map}
use Rattle.std.specs.Prelude.{◌==◌, ◌*◌, nat_le, if◌then◌else◌}
use Rattle.std.specs.Str.{bytes_eq, byte}
use Rattle.std.proofs.lemmas.Bool.{leb-true}
use Rattle.studio_rules.specs.text_rules.Amount.{number_of}
use Rattle.studio_rules.specs.Numeral.{is_numeral, number_within, last_byte, but_last}
use Rattle.studio_rules.specs.PageLines.{IsOfLines}
use Rattle.studio_rules.specs.Overview.{overview, version}
use Rattle.studio_rules.specs.Pages.{page_text, command_text}
use Rattle.studio_words.proofs.WholePages.{command_whole, page_whole, overview_whole, version_whole}
use Rattle.studio_rules.specs.Command.{Command, Max, Axioms, Flows, Listing, Linting, Migrate}
use Rattle.studio_rules.specs.Command.{Editing, Undoing, Checking, RankChecking, Solving, Showing}
use Rattle.studio_rules.specs.Command.{Telling, is_help_word, is_version_word, is_page_word}
use Rattle.studio_rules.specs.Command.{or_else, page_asked, merging_of, form_of, command_of}
use Rattle.studio_rules.specs.Command.{of_file, on_file, with_file, made_by, tried_by, ranged_by}
use Rattle.studio_rules.specs.Command.{ranked_by, alternatives_by, kind_of, unit_names_of}
use Rattle.studio_rules.specs.Command.{count_of, seed_of}
use Rattle.studio_rules.specs.Command.{unit_count_of, years_of, rank_count_of, budget_of}
use Rattle.studio_rules.specs.Command.{full_budget, is_file_word, are_files, AreWithin, Table}
use Rattle.studio_rules.specs.Command.{Splitting, Expanding, Drawing, DrawingNetwork, Reporting}
use Rattle.studio_rules.specs.Command.{Json, Planning, Parting, PartingAgainst, Merging}
use Rattle.studio_rules.specs.Command.{RangingAll, scene_of}
use Rattle.studio_rules.specs.declared.scene.Scene.{Scene}
use Rattle.studio_rules.specs.declared.scene.Scene.TheVariants as scenes
use Rattle.studio_rules.specs.report_rules.declared.spot.SpotKind.{SpotKind}

numeral_within : (least most : ℕ) (word : List ℕ)
    → IfSome (number_within least most word) (λ n. (least ≤ n) × (n ≤ most))
numeral_within least most word =
    at (is_numeral word) (nat_le least (number_of word)) (nat_le (number_of word) most) refl refl
  where
    at : (a b c : Bool) → nat_le least (number_of word) ≡ b → nat_le (number_of word) most ≡ c
        → IfSome (if a && b && c then Some (number_of word) else None)
        (λ n. (least ≤ n) × (n ≤ most))
    at true true true e f = (leb-true least (number_of word) e, leb-true (number_of word) most f)
    at true true false e f = tt
    at true false c e f = tt
    at false b c e f = tt

-- thousands and millions
thousands_within : (n : Option ℕ) → IfSome n (λ k. (1 ≤ k) × (k ≤ 1000))
    → IfSome (option_map (λ k. 1000 * k) n) (λ k. (1 ≤ k) × (k ≤ 1000000))
thousands_within None h = tt
thousands_within (Some k) h = let low = h.0 in let high =
    h.1 in (omega (arith, low), omega (arith, high))

millions_within : (n : Option ℕ) → IfSome n (λ k. (1 ≤ k) × (k ≤ 1))
    → IfSome (option_map (λ k. 1000000 * k) n) (λ k. (1 ≤ k) × (k ≤ 1000000))
millions_within None h = tt
millions_within (Some k) h = let low = h.0 in let high =
    h.1 in (omega (arith, low), omega (arith, high))

budget_within : (word : List ℕ) → IfSome (budget_of word) (λ n. (1 ≤ n) × (n ≤ 1000000))
budget_within word = at (last_byte word == byte "k") (last_byte word == byte "M")
  where
    at : (a b : Bool)
        → IfSome
        (if a then option_map (λ k. 1000 * k) (number_within 1 1000 (but_last word)) else if b
        then option_map (λ k. 1000000 * k) (number_within 1 1 (but_last word)) else number_within 1
        1000000 word) (λ n. (1 ≤ n) × (n ≤ 1000000))
    at true b =
        thousands_within (number_within 1 1000 (but_last word))
        (numeral_within 1 1000 (but_last word))
    at false true =
        millions_within (number_within 1 1 (but_last word)) (numeral_within 1 1 (but_last word))
    at false false = numeral_within 1 1000000 word

-- the budget of a call that gives none
full_within : IfSome (Some full_budget) (λ n. (1 ≤ n) × (n ≤ 1000000))
full_within = (omega arith, omega arith)

either_within : (b : Bool) (x y : Option Command) → IfSome x AreWithin → IfSome y AreWithin
    → IfSome (if b then x else y) AreWithin
either_within true x y p q = p
either_within false x y p q = q

made_within : (number units : Option ℕ) → IfSome units (λ n. (1 ≤ n) × (n ≤ 128))
    → IfSome (made_by number units) AreWithin
made_within None units p = tt
made_within (Some number) None p = tt
made_within (Some number) (Some units) p = p

axioms_within : (file : List ℕ) (units : Option (List (List ℕ)))
    → IfSome (option_map (Axioms file) units) AreWithin
axioms_within file None = tt
axioms_within file (Some units) = tt

flows_within : (file : List ℕ) (units : Option (List (List ℕ)))
    → IfSome (option_map (Flows file) units) AreWithin
flows_within file None = tt
flows_within file (Some units) = tt

migrate_within : (file : List ℕ) (years : Option ℕ) → IfSome years (λ n. (1 ≤ n) × (n ≤ 100))
    → IfSome (option_map (Migrate file) years) AreWithin
migrate_within file None p = tt
migrate_within file (Some years) p = p

solve_within : (file : List ℕ) (budget : Option ℕ) → IfSome budget (λ n. (1 ≤ n) × (n ≤ 1000000))
    → IfSome (option_map (Solving file) budget) AreWithin
solve_within file None p = tt
solve_within file (Some budget) p = p

show_within : (file : List ℕ) (budget : Option ℕ) → IfSome budget (λ n. (1 ≤ n) × (n ≤ 1000000))
    → IfSome (option_map (Showing file) budget) AreWithin
show_within file None p = tt
show_within file (Some budget) p = p

tried_within : (number units budget : Option ℕ) → IfSome units (λ n. (1 ≤ n) × (n ≤ 128))
    → IfSome budget (λ n. (1 ≤ n) × (n ≤ 1000000)) → IfSome (tried_by number units budget) AreWithin
tried_within None units budget p q = tt
tried_within (Some number) None budget p q = tt
tried_within (Some number) (Some units) None p q = tt
tried_within (Some number) (Some units) (Some budget) p q = (p, q)

planning_within : (file plan : List ℕ) (budget : Option ℕ)
    → IfSome budget (λ n. (1 ≤ n) × (n ≤ 1000000))
    → IfSome (option_map (Planning file plan) budget) AreWithin
planning_within file plan None p = tt
planning_within file plan (Some budget) p = p

ranging_within : (file tree : List ℕ) (budget : Option ℕ)
    → IfSome budget (λ n. (1 ≤ n) × (n ≤ 1000000))
    → IfSome (option_map (RangingAll file tree) budget) AreWithin
ranging_within file tree None p = tt
ranging_within file tree (Some budget) p = p

parting_within : (file inside outside : List ℕ) (budget : Option ℕ)
    → IfSome budget (λ n. (1 ≤ n) × (n ≤ 1000000))
    → IfSome (option_map (Parting file inside outside) budget) AreWithin
parting_within file inside outside None p = tt
parting_within file inside outside (Some budget) p = p

against_within : (file inside outside tree : List ℕ) (budget : Option ℕ)
    → IfSome budget (λ n. (1 ≤ n) × (n ≤ 1000000))
    → IfSome (option_map (λ n. PartingAgainst file inside outside n tree) budget) AreWithin
against_within file inside outside tree None p = tt
against_within file inside outside tree (Some budget) p = p

ranged_within : (file tree : List ℕ) (kind : Option SpotKind) (name : List ℕ) (budget : Option ℕ)
    → IfSome budget (λ n. (1 ≤ n) × (n ≤ 1000000))
    → IfSome (ranged_by file tree kind name budget) AreWithin
ranged_within file tree None name budget p = tt
ranged_within file tree (Some kind) name None p = tt
ranged_within file tree (Some kind) name (Some budget) p = p

ranked_within : (file : List ℕ) (count budget : Option ℕ) → IfSome count (λ n. (1 ≤ n) × (n ≤ 1000))
    → IfSome budget (λ n. (1 ≤ n) × (n ≤ 1000000)) → IfSome (ranked_by file count budget) AreWithin
ranked_within file None budget p q = tt
ranked_within file (Some count) None p q = tt
ranked_within file (Some count) (Some budget) p q = (p, q)

alternatives_within : (file : List ℕ) (count budget : Option ℕ)
    → IfSome count (λ n. (1 ≤ n) × (n ≤ 1000)) → IfSome budget (λ n. (1 ≤ n) × (n ≤ 1000000))
    → IfSome (alternatives_by file count budget) AreWithin
alternatives_within file None budget p q = tt
alternatives_within file (Some count) None p q = tt
alternatives_within file (Some count) (Some budget) p q = (p, q)

listing_within : (file after : List ℕ) (count : Option ℕ)
    → IfSome (option_map (Listing file after) count) AreWithin
listing_within file after None = tt
listing_within file after (Some count) = tt

drawing_within : (file tree : List ℕ) (scene : Option Scene)
    → IfSome (option_map (DrawingNetwork file tree) scene) AreWithin
drawing_within file tree None = tt
drawing_within file tree (Some scene) = tt

told_within : (text : Option (List ℕ)) → IfSome text IsOfLines
    → IfSome (option_map Telling text) AreWithin
told_within None h = tt
told_within (Some text) h = h

with_file_within : (word file second : List ℕ) → IfSome (with_file word file second) AreWithin
with_file_within word file second =
    (either_within (bytes_eq word (codes "edit")) (Some (Editing file second)) _ tt
    (either_within (bytes_eq word (codes "undo")) (Some (Undoing file second)) _ tt
    (either_within (bytes_eq word (codes "check")) (Some (Checking file second)) _ tt
    (either_within (bytes_eq word (codes "rankcheck")) (Some (RankChecking file second)) _ tt
    (either_within (bytes_eq word (codes "table")) (Some (Table file second)) _ tt
    (either_within (bytes_eq word (codes "split")) (Some (Splitting file second)) _ tt
    (either_within (bytes_eq word (codes "expand")) (Some (Expanding file second)) _ tt
    (either_within (bytes_eq word (codes "graph"))
    (Some (DrawingNetwork file second scenes.Plant)) _ tt
    (either_within (bytes_eq word (codes "report")) (Some (Reporting file second)) _ tt
    (either_within (bytes_eq word (codes "json")) (Some (Json file second)) _ tt
    (either_within (bytes_eq word (codes "periods")) (Some (Planning file second full_budget)) _
    full_within
    (either_within (bytes_eq word (codes "stable")) (Some (RangingAll file second full_budget)) None
    full_within tt))))))))))))

on_file_within : (word file second : List ℕ) → IfSome (on_file word file second) AreWithin
on_file_within word file second =
    either_within (bytes_eq word (codes "axioms")) (option_map (Axioms file) (unit_names_of second))
    _ (axioms_within file (unit_names_of second))
    (either_within (bytes_eq word (codes "flows")) (option_map (Flows file) (unit_names_of second))
    _ (flows_within file (unit_names_of second))
    (either_within (bytes_eq word (codes "migrate")) (option_map (Migrate file) (years_of second)) _
    (migrate_within file (years_of second) (numeral_within 1 100 second))
    (either_within (bytes_eq word (codes "solve")) (option_map (Solving file) (budget_of second)) _
    (solve_within file (budget_of second) (budget_within second))
    (either_within (bytes_eq word (codes "show")) (option_map (Showing file) (budget_of second)) _
    (show_within file (budget_of second) (budget_within second))
    (either_within (bytes_eq word (codes "rank"))
    (ranked_by file (rank_count_of second) (Some full_budget)) _
    (ranked_within file (rank_count_of second) (Some full_budget) (numeral_within 1 1000 second)
    full_within)
    (either_within (bytes_eq word (codes "alternatives"))
    (alternatives_by file (rank_count_of second) (Some full_budget)) _
    (alternatives_within file (rank_count_of second) (Some full_budget)
    (numeral_within 1 1000 second) full_within)
    (either_within (are_files (file ∷ second ∷ [])) (with_file word file second) None
    (with_file_within word file second) tt)))))))

of_file_within : (word file : List ℕ) → IfSome (of_file word file) AreWithin
of_file_within word file =
    either_within (bytes_eq word (codes "max")) (Some (Max file)) _ tt
    (either_within (bytes_eq word (codes "graph")) (Some (Drawing file)) _ tt
    (either_within (bytes_eq word (codes "lint")) (Some (Linting file)) _ tt
    (either_within (bytes_eq word (codes "list")) (Some (Listing file (codes "start") 1000)) _ tt
    (either_within (bytes_eq word (codes "solve")) (Some (Solving file full_budget)) _ full_within
    (either_within (bytes_eq word (codes "show")) (Some (Showing file full_budget)) None full_within
    tt)))))

forms_within : (words : List (List ℕ)) → IfSome (form_of words) AreWithin
forms_within [] = tt
forms_within (word ∷ []) =
    either_within (is_help_word word) (Some (Telling overview)) _ overview_whole
    (either_within (is_version_word word) (Some (Telling version)) None version_whole
    tt)
forms_within (word ∷ file ∷ []) =
    either_within (bytes_eq word (codes "help")) (option_map Telling (page_text file)) _
    (told_within (page_text file) (page_whole file))
    (either_within (is_file_word file) (of_file word file) None (of_file_within word file) tt)
forms_within (word ∷ first ∷ second ∷ []) =
    either_within (bytes_eq word (codes "make")) (made_by (seed_of first) (unit_count_of second)) _
    (made_within (seed_of first) (unit_count_of second) (numeral_within 1 128 second))
    (either_within (bytes_eq word (codes "trial"))
    (tried_by (seed_of first) (unit_count_of second) (Some full_budget)) _
    (tried_within (seed_of first) (unit_count_of second) (Some full_budget)
    (numeral_within 1 128 second) full_within)
    (either_within (is_file_word first) (on_file word first second) None
    (on_file_within word first second) tt))
forms_within (word ∷ first ∷ second ∷ third ∷ []) =
    either_within (bytes_eq word (codes "trial"))
    (tried_by (seed_of first) (unit_count_of second) (budget_of third)) _
    (tried_within (seed_of first) (unit_count_of second) (budget_of third)
    (numeral_within 1 128 second) (budget_within third))
    (either_within (bytes_eq word (codes "list") && is_file_word first)
    (option_map (Listing first second) (count_of third)) _
    (listing_within first second (count_of third))
    (either_within (bytes_eq word (codes "periods") && are_files (first ∷ second ∷ []))
    (option_map (Planning first second) (budget_of third)) _
    (planning_within first second (budget_of third) (budget_within third))
    (either_within (bytes_eq word (codes "stable") && are_files (first ∷ second ∷ []))
    (option_map (RangingAll first second) (budget_of third)) _
    (ranging_within first second (budget_of third) (budget_within third))
    (either_within (bytes_eq word (codes "graph") && are_files (first ∷ second ∷ []))
    (option_map (DrawingNetwork first second) (scene_of third)) _
    (drawing_within first second (scene_of third))
    (either_within (bytes_eq word (codes "rank") && is_file_word first)
    (ranked_by first (rank_count_of second) (budget_of third)) _
    (ranked_within first (rank_count_of second) (budget_of third) (numeral_within 1 1000 second)
    (budget_within third))
    (either_within (bytes_eq word (codes "alternatives") && is_file_word first)
    (alternatives_by first (rank_count_of second) (budget_of third)) _
    (alternatives_within first (rank_count_of second) (budget_of third)
    (numeral_within 1 1000 second) (budget_within third))
    (either_within (bytes_eq word (codes "part") && is_file_word first)
    (Some (Parting first second third full_budget)) None full_within tt)))))))
forms_within (word ∷ first ∷ second ∷ third ∷ fourth ∷ []) =
    either_within (bytes_eq word (codes "part") && is_file_word first)
    (option_map (Parting first second third) (budget_of fourth)) _
    (parting_within first second third (budget_of fourth) (budget_within fourth))
    (either_within (bytes_eq word (codes "stable") && are_files (first ∷ second ∷ []))
    (ranged_by first second (kind_of third) fourth (Some full_budget)) None
    (ranged_within first second (kind_of third) fourth (Some full_budget) full_within) tt)
forms_within (word ∷ first ∷ second ∷ third ∷ fourth ∷ fifth ∷ []) =
    either_within (bytes_eq word (codes "part") && are_files (first ∷ fifth ∷ []))
    (option_map (λ n. PartingAgainst first second third n fifth) (budget_of fourth)) _
    (against_within first second third fifth (budget_of fourth) (budget_within fourth))
    (either_within (bytes_eq word (codes "stable") && are_files (first ∷ second ∷ []))
    (ranged_by first second (kind_of third) fourth (budget_of fifth)) None
    (ranged_within first second (kind_of third) fourth (budget_of fifth) (budget_within fifth)) tt)
forms_within (a ∷ b ∷ c ∷ d ∷ e ∷ f ∷ g ∷ words) = tt

merging_within : (words : List (List ℕ)) → IfSome (merging_of words) AreWithin
merging_within [] = tt
merging_within (a ∷ []) = tt
merging_within (a ∷ b ∷ []) = tt
merging_within (a ∷ b ∷ c ∷ []) = tt
merging_within (word ∷ file ∷ tree ∷ part ∷ parts) =
    either_within
    (bytes_eq word (codes "merge") && are_files (file ∷ tree ∷ part ∷ parts) && nat_le
    (length (part ∷ parts)) 100) (Some (Merging file tree (part ∷ parts))) None tt tt

asked_within : (words : List (List ℕ)) → IfSome (page_asked words) AreWithin
asked_within [] = tt
asked_within (word ∷ []) = tt
asked_within (word ∷ next ∷ words) =
    either_within (is_page_word next) (option_map Telling (command_text word)) None
    (told_within (command_text word) (command_whole word)) tt

first_within : (x y : Option Command) → IfSome x AreWithin → IfSome y AreWithin
    → IfSome (or_else x y) AreWithin
first_within None y p q = q
first_within (Some x) y p q = p

pub words_within : (words : List (List ℕ)) → IfSome (command_of words) AreWithin
words_within words =
    first_within (page_asked words) (or_else (merging_of words) (form_of words))
    (asked_within words)
    (first_within (merging_of words) (form_of words) (merging_within words) (forms_within words))

-- no word, or more than six, have no form but that of `merge`
pub short_form : (words : List (String Global)) → length words < 1
    → None ≡ form_of (map string_bytes words)
short_form [] few = refl
short_form (word ∷ words) few = absurd (omega (arith, few))

pub long_form : (words : List (String Global)) → 7 ≤ length words
    → None ≡ form_of (map string_bytes words)
long_form [] many = absurd (omega (arith, many))
long_form (a ∷ []) many = absurd (omega (arith, many))
long_form (a ∷ b ∷ []) many = absurd (omega (arith, many))
long_form (a ∷ b ∷ c ∷ []) many = absurd (omega (arith, many))
long_form (a ∷ b ∷ c ∷ d ∷ []) many = absurd (omega (arith, many))
long_form (a ∷ b ∷ c ∷ d ∷ e ∷ []) many = absurd (omega (arith, many))
long_form (a ∷ b ∷ c ∷ d ∷ e ∷ f ∷ []) many = absurd (omega (arith, many))
long_form (a ∷ b ∷ c ∷ d ∷ e ∷ f ∷ g ∷ words) many = refl
