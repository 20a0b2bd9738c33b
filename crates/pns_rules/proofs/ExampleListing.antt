-- The solution structures of the example: U1 U3, then U2 U3, then U1 U2 U3. At C, which is decided
-- after P, the numbers of the makers are 1, 2 and 3.
use Rattle.std.proofs.Common.{◌≡◌, ℕ, List, [], ◌∷◌, refl, inl, inr, arith, None}
use Rattle.number_sets.specs.Sets.{has, listed}
use Rattle.pns_rules.specs.Shape.{Shape, shape_of}
use Rattle.pns_rules.specs.Trace.{Pair, IsTrace, IsBefore}
use Rattle.pns_rules.specs.Listing.{IsListing}
use Rattle.pns_rules.proofs.StructureList.{structures_of, listing_is}
use Rattle.pns_rules.proofs.ExampleProblem.{example, example_is_proper}

abbrev g : Shape
g = shape_of example

-- U3 makes P, and the set makes C
abbrev trace_with : List ℕ → List Pair
trace_with makers = record { material = 5; chosen = 2 ∷ [] }
    ∷ record { material = 2; chosen = makers } ∷ []

first_trace : IsTrace g (has (0 ∷ 2 ∷ [])) (trace_with (0 ∷ []))
unfolding listed
first_trace = (refl, refl, (refl, refl, refl))

second_trace : IsTrace g (has (1 ∷ 2 ∷ [])) (trace_with (1 ∷ []))
unfolding listed
second_trace = (refl, refl, (refl, refl, refl))

third_trace : IsTrace g (has (0 ∷ 1 ∷ 2 ∷ [])) (trace_with (0 ∷ 1 ∷ []))
unfolding listed
third_trace = (refl, refl, (refl, refl, refl))

first_before_second : IsBefore g (has (0 ∷ 2 ∷ [])) (has (1 ∷ 2 ∷ []))
first_before_second =
    record {
      trace_of_s = trace_with (0 ∷ []);
      trace_of_t = trace_with (1 ∷ []);
      of_s =
          first_trace;
      of_t = second_trace;
      less = (refl, inr (refl, (refl, inl (omega arith))));
    }

first_before_third : IsBefore g (has (0 ∷ 2 ∷ [])) (has (0 ∷ 1 ∷ 2 ∷ []))
first_before_third =
    record {
      trace_of_s = trace_with (0 ∷ []);
      trace_of_t = trace_with (0 ∷ 1 ∷ []);
      of_s =
          first_trace;
      of_t = third_trace;
      less = (refl, inr (refl, (refl, inl (omega arith))));
    }

second_before_third : IsBefore g (has (1 ∷ 2 ∷ [])) (has (0 ∷ 1 ∷ 2 ∷ []))
second_before_third =
    record {
      trace_of_s = trace_with (1 ∷ []);
      trace_of_t = trace_with (0 ∷ 1 ∷ []);
      of_s =
          second_trace;
      of_t = third_trace;
      less = (refl, inr (refl, (refl, inl (omega arith))));
    }

structures : structures_of g ≡ ((0 ∷ 2 ∷ []) ∷ (1 ∷ 2 ∷ []) ∷ (0 ∷ 1 ∷ 2 ∷ []) ∷ [])
structures = refl

the_listing : IsListing g None ((0 ∷ 2 ∷ []) ∷ (1 ∷ 2 ∷ []) ∷ (0 ∷ 1 ∷ 2 ∷ []) ∷ [])
the_listing =
    listing_is g example_is_proper _ structures
    ((first_before_second, (first_before_third, tt)), ((second_before_third, tt), (tt, tt)))
