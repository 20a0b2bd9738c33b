use Rattle.std.proofs.Common.{◌≡◌, ◌<◌, ◌≤◌, ◌+◌, ◌++◌, ℕ, List, [], ◌∷◌, map, length, take, get_or}
use Rattle.std.proofs.Common.{sym, ap, ◌∙◌, rules}
use Rattle.std.proofs.lemmas.List.{map-append, take_more, take_all}
use Rattle.plan_laws.specs.problem_rules.Problem.{Material}
use Rattle.periods.proofs.plan.Period.of.Goals as goal

-- one number more
more : {X Y : Type 0} (f : X → Y) (xs : List X) (k : ℕ) (x : X) (y : Y) (made after : List Y)
    → k < length xs → x ≡ get_or xs k x → y ≡ f x → made ≡ map f (take k xs)
    → after ≡ made ++ y ∷ [] → after ≡ map f (take (k + 1) xs)
more f xs k x y made after less is same so_far pushed =
    pushed ∙ ap (λ ys. ys ++ y ∷ []) so_far ∙ ap (λ z. map f (take k xs) ++ z ∷ []) (same ∙ ap f is)
    ∙ sym (ap (map f) (take_more xs k x less) ∙ map-append f (take k xs) (get_or xs k x ∷ []))

all : {X Y : Type 0} (f : X → Y) (xs ys : List X) (k : ℕ) (made : List Y) → length xs ≤ k → xs ≡ ys
    → made ≡ map f (take k xs) → made ≡ map f ys
all f xs ys k made end same so_far = so_far ∙ ap (map f) (take_all k xs end ∙ same)

pub copying-preserved : goal.copying-preserved
copying-preserved c =
    let materials = c.materials-materials.result.now in
    let k = c.copying.material-index in
    let is = c.material-item.is in
    let same = c.material.view_is in
    let less = c.copying-test.true in
    let made = c.copying.invariant in
    let prices : c.push.new.self.items ≡ c.copying.prices.items ++ c.material.inside.price ∷ [] =
    search rules in
    let lowers : c.push-in-copying.new.self.items ≡ c.copying.lowers.items
    ++ c.material.inside.lower ∷ [] = search rules in
    let uppers : c.push-in-copying-2.new.self.items ≡ c.copying.uppers.items
    ++ c.material.inside.upper ∷ [] = search rules in
    record {
      prices =
          more (λ (m : Material). m.price) materials k _ _ _ _ less is
          (ap (λ (m : Material). m.price) same) made.prices prices;
      lowers =
          more (λ (m : Material). m.lower) materials k _ _ _ _ less is
          (ap (λ (m : Material). m.lower) same) made.lowers lowers;
      uppers =
          more (λ (m : Material). m.upper) materials k _ _ _ _ less is
          (ap (λ (m : Material). m.upper) same) made.uppers uppers;
    }

pub returns : goal.returns
returns c =
    let materials = c.materials-materials.result.now in
    let end = c.copying-test.false in
    let same = c.materials-materials.ensures in
    let made = c.copying.invariant in
    λ i. record {
      prices =
          all (λ (m : Material). m.price) materials c.args.problem.now.materials
          c.copying.material-index _ end same made.prices i;
      lowers =
          all (λ (m : Material). m.lower) materials c.args.problem.now.materials
          c.copying.material-index _ end same made.lowers i;
      uppers =
          all (λ (m : Material). m.upper) materials c.args.problem.now.materials
          c.copying.material-index _ end same made.uppers i;
    }
