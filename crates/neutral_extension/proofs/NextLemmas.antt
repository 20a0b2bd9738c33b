-- The next step, kind by kind.
use Rattle.std.proofs.Common.{◌≡◌, ℕ, ◌<◌, List, inl, inr, ◌⊎◌, arith}
use Rattle.pgraph.specs.pns_rules.Shape.{Shape}
use Rattle.pgraph.specs.pns_rules.Structure.{Clashes}
use Rattle.pgraph.specs.pns_rules.Nodes.{Node, Step, raw, rival, starve, loose, sole, IsPossible}
use Rattle.pgraph.specs.pns_rules.Ends.{IsDead, IsNever, IsFirst, IsEarlier, IsWhole, IsLive}
use Rattle.pgraph.specs.pns_rules.Ends.{IsNextStep}
use Rattle.pgraph.specs.pns_rules.Ends.{IsReduced}

late : (a b : ℕ) (X : Type 0) → b < a → ((a < b) ⊎ ((a ≡ b) × X)) → ⊥
late a b X h e = elim e [ inl lt ↦ omega arith | inr q ↦ let same = q.0 in omega arith ]

lower : (a v u : ℕ) → ((a < a) ⊎ ((a ≡ a) × (v < u))) → v < u
lower a v u e = elim e [ inl lt ↦ absurd (omega arith) | inr q ↦ q.1 ]

module _ (g : Shape) (d : Node) (s : Step)
    (raws : (u : ℕ) → IsPossible g d (raw u) → IsEarlier (raw u) s → ⊥)
    (rivals : (u : ℕ) → IsPossible g d (rival u) → IsEarlier (rival u) s → ⊥)
    (starves : (x : ℕ) → IsPossible g d (starve x) → IsEarlier (starve x) s → ⊥)
    (looses : (w : List ℕ) → IsPossible g d (loose w) → IsEarlier (loose w) s → ⊥)
    (soles : (x u : ℕ) → IsPossible g d (sole x u) → IsEarlier (sole x u) s → ⊥) where
  by_kind : (t : Step) → IsPossible g d t → IsEarlier t s → ⊥
  by_kind (raw u) p e = raws u p e
  by_kind (rival u) p e = rivals u p e
  by_kind (starve x) p e = starves x p e
  by_kind (loose w) p e = looses w p e
  by_kind (sole x u) p e = soles x u p e

module _ (g : Shape) (d : Node) (no_dead : IsNever (IsDead g d))
    (no_clash : IsNever (Clashes g d.inside)) where
  live : IsLive g d
  live = record { no_dead = no_dead; no_clash = no_clash }

  pub raw_next : (u : ℕ) → IsFirst (λ v. IsPossible g d (raw v)) u → IsNextStep g d (raw u)
  raw_next u f = record {
    live = live;
    possible = f.0;
    whole = tt;
    first =
        by_kind g d (raw u) (λ v p e. f.1 v (lower 0 v u e) p)
        (λ v p e. late 1 0 (v < u) (omega arith) e) (λ v p e. late 2 0 (v < u) (omega arith) e)
        (λ w p e. late 3 0 (0 < u) (omega arith) e) (λ y v p e. late 4 0 (y < u) (omega arith) e);
  }

  module _ (no_raw : IsNever (λ v. IsPossible g d (raw v))) where
    pub rival_next : (u : ℕ) → IsFirst (λ v. IsPossible g d (rival v)) u → IsNextStep g d (rival u)
    rival_next u f = record {
      live = live;
      possible = f.0;
      whole = tt;
      first =
          by_kind g d (rival u) (λ v p e. no_raw v p) (λ v p e. f.1 v (lower 1 v u e) p)
          (λ v p e. late 2 1 (v < u) (omega arith) e) (λ w p e. late 3 1 (0 < u) (omega arith) e)
          (λ y v p e. late 4 1 (y < u) (omega arith) e);
    }

    module _ (no_rival : IsNever (λ v. IsPossible g d (rival v))) where
      pub starve_next : (x : ℕ) → IsFirst (λ y. IsPossible g d (starve y)) x
          → IsNextStep g d (starve x)
      starve_next x f = record {
        live = live;
        possible = f.0;
        whole = tt;
        first =
            by_kind g d (starve x) (λ v p e. no_raw v p) (λ v p e. no_rival v p)
            (λ y p e. f.1 y (lower 2 y x e) p) (λ w p e. late 3 2 (0 < x) (omega arith) e)
            (λ y v p e. late 4 2 (y < x) (omega arith) e);
      }

      module _ (no_starve : IsNever (λ y. IsPossible g d (starve y))) where
        pub loose_next : (w : List ℕ) → IsPossible g d (loose w) → IsWhole g d (loose w)
            → IsNextStep g d (loose w)
        loose_next w p whole = record {
          live = live;
          possible = p;
          whole = whole;
          first =
              by_kind g d (loose w) (λ v p e. no_raw v p) (λ v p e. no_rival v p)
              (λ y p e. no_starve y p) (λ k p e. let lt = lower 3 0 0 e in omega arith)
              (λ y v p e. late 4 3 (y < 0) (omega arith) e);
        }

        module _ (no_loose : (w : List ℕ) → IsPossible g d (loose w) → ⊥) where
          pub sole_next : (x u : ℕ) → IsPossible g d (sole x u)
              → ((y v : ℕ) → y < x → IsPossible g d (sole y v) → ⊥) → IsNextStep g d (sole x u)
          sole_next x u p before = record {
            live = live;
            possible = p;
            whole = tt;
            first =
                by_kind g d (sole x u) (λ v p e. no_raw v p) (λ v p e. no_rival v p)
                (λ y p e. no_starve y p) (λ k p e. no_loose k p)
                (λ y v p e. before y v (lower 4 y x e) p);
          }

          pub reduced_from : ((x u : ℕ) → IsPossible g d (sole x u) → ⊥) → IsReduced g d
          reduced_from no_sole = record { live = live; no_step = none }
            where
              none : (t : Step) → IsPossible g d t → ⊥
              none (raw u) p = no_raw u p
              none (rival u) p = no_rival u p
              none (starve x) p = no_starve x p
              none (loose w) p = no_loose w p
              none (sole x u) p = no_sole x u p
