-- Units of a set that make a raw material.
use Rattle.std.proofs.Common.{◌≡◌, ◌↔◌, ◌<◌, ℕ, Bool, true, ◌&&◌, List, ap, sym, ◌∙◌}
use Rattle.std.proofs.lemmas.Bool.{and_parts, and_from}
use Rattle.tree_text_laws.specs.number_sets.Sets.{has, Avoids}
use Rattle.tree_text_laws.proofs.number_sets.Cited.{any_below-from, any_below-some}
use Rattle.tree_text_laws.specs.pns_rules.Shape.{Shape}
use Rattle.tree_text_laws.specs.pns_rules.Structure.{is_made}

pub no_raw_made : (g : Shape) (set made raws : List ℕ) → has made ≡ is_made g (has set)
    → has raws ≡ g.raw → ((u : ℕ) → has set u ≡ true → u < g.units)
    → Avoids (has made) (has raws)
    ↔ ((u x : ℕ) → has set u ≡ true → g.makes u x ≡ true → g.raw x ≡ true → ⊥)
no_raw_made g set made raws is_made_by is_raw known = (
  (λ apart u x inside makes raw.
      apart x
      (ap (λ (f : ℕ → Bool). f x) is_made_by
      ∙ any_below-from g.units (λ v. has set v && g.makes v x) u (known u inside)
      (and_from (has set u) (g.makes u x) inside makes))
      (ap (λ (f : ℕ → Bool). f x) is_raw ∙ raw)),
  (λ none x made_there raw_there.
      let some =
      any_below-some g.units (λ v. has set v && g.makes v x)
      (ap (λ (f : ℕ → Bool). f x) (sym is_made_by) ∙ made_there) in
      let both = and_parts (has set some.0) (g.makes some.0 x) some.2 in
      none some.0 x both.0 both.1 (ap (λ (f : ℕ → Bool). f x) (sym is_raw) ∙ raw_there)),
)
