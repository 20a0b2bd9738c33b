-- At which structure a listing begins.
use Rattle.std.proofs.Common.{◌≡◌, ◌≤◌, ℕ, List, Option, Some, None, IfSome, IfNone, codes, length}
use Rattle.std.proofs.Common.{sym, ap, subst, ◌∙◌, arith}
use Rattle.text_lines.specs.number_sets.Sets.{has, IsRising, IsSet}
use Rattle.text_lines.proofs.number_sets.Cited.{below_from, AreBelow-higher}
use Rattle.text_lines.specs.problem_rules.Problem.{Problem}
use Rattle.cert_check.specs.pns_rules.Shape.{Shape, shape_of}
use Rattle.cert_check.specs.pns_rules.Structure.{IsStructure}
use Rattle.cert_check.specs.pns_rules.Listing.{IsListing}
use Rattle.cert_check.specs.pgraph.Tables.{Tables, shape}
use Rattle.cert_check.specs.pns_rules.Tokens.{token_of}
use Rattle.cert_check.specs.structure_list.Rest.{Rest, IsToCome}
use Rattle.cert_check.proofs.structure_list.Cited.{token_one, token_has_form}
use Rattle.command_files.specs.studio_rules.Listing.{IsAfter, IsBadToken, ListingWork}
use Rattle.structure_commands.specs.Listing.{RestSays}
use Rattle.command_files.specs.studio_rules.declared.status.Status.{Status}

pub not_start : (word s : List ℕ) → word ≡ token_of s → word ≡ codes "start" → ⊥
not_start word s e h = let five = ap length h in let long =
    (token_has_form word s e).long in omega (arith, five, long)

pub set_of : (p : Problem) (s : List ℕ) → length p.units ≤ 128 → IsRising s
    → IsStructure (shape_of p) (has s) → IsSet 128 s
set_of p s few up is = record {
  rising = up;
  below = AreBelow-higher (length p.units) 128 s few (below_from (length p.units) s is.s3);
}

pub no_after : (g : Shape) (word : List ℕ) → (word ≡ codes "start" → ⊥)
    → ((s : List ℕ) → word ≡ token_of s → ⊥) → IsBadToken g word
no_after g word start token None h = start h
no_after g word start token (Some s) h = token s h.2

not_structure : (p : Problem) (word s : List ℕ) → length p.units ≤ 128 → IsSet 128 s
    → word ≡ token_of s → (IsStructure (shape_of p) (has s) → ⊥) → IsBadToken (shape_of p) word
not_structure p word s few set e fails None h = not_start word s e h
not_structure p word s few set e fails (Some t) h =
    fails
    (subst (λ r. IsStructure (shape_of p) (has r))
    (token_one t s (set_of p t few h.0 h.1) set (sym h.2 ∙ e)) h.1)

pub bad_after : (p : Problem) (word : List ℕ) (after : Option (List ℕ)) → length p.units ≤ 128
    → IfSome after (λ s. IsSet 128 s × (word ≡ token_of s))
    → (IfSome after (λ s. IsStructure (shape_of p) (has s)) → ⊥) → IsBadToken (shape_of p) word
bad_after p word None few token fails = absurd (fails tt)
bad_after p word (Some s) few token fails = not_structure p word s few token.0 token.1 fails

pub is_after : (g : Shape) (word : List ℕ) (after : Option (List ℕ))
    → IfNone after (word ≡ codes "start") → IfSome after (λ s. IsSet 128 s × (word ≡ token_of s))
    → IfSome after (λ s. IsStructure g (has s)) → IsAfter g word after
is_after g word None start token meets = start
is_after g word (Some s) start token meets = (token.0.rising, meets, token.1)

pub work_of : (p : Problem) (word : List ℕ) (count : ℕ) (graph : Tables) (after : Option (List ℕ))
    (rest : Rest) → rest ≡ record { graph = graph; last = after } → shape graph ≡ shape_of p
    → IsAfter (shape_of p) word after → (s : Status) (lines : List (List ℕ))
    → RestSays p count rest s lines → ListingWork word count p s lines
work_of p word count graph after rest same shapes is s lines (e, (all, listed, lines_are)) =
    let here : IsToCome (record { graph = graph; last = after }) all =
    subst (λ (r : Rest). IsToCome r all) same listed in
    let there : IsListing (shape_of p) after all =
    subst (λ (g : Shape). IsListing g after all) shapes here in
    subst (λ (t : Status). ListingWork word count p t lines) (sym e)
    (after, is, (all, there, lines_are))
