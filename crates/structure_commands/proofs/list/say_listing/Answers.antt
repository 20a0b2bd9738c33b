use Rattle.std.proofs.Common.{◌≤◌, ◌∷◌, [], refl, sym, subst, inl, ℕ, List, codes, length, IfSome}
use Rattle.text_lines.specs.number_sets.Sets.{has}
use Rattle.cert_check.specs.pns_rules.Shape.{Shape, shape_of}
use Rattle.cert_check.specs.pns_rules.Structure.{IsStructure}
use Rattle.command_files.specs.studio_rules.Lines.{line}
use Rattle.command_files.specs.studio_rules.Listing.{ListingWork, IsBadToken}
use Rattle.structure_commands.specs.Listing.{RestSays}
use Rattle.command_files.specs.studio_rules.Ending.{Tells}
use Rattle.command_files.specs.studio_rules.declared.status.Status.{Status}
use Rattle.command_files.specs.studio_rules.declared.status.Status.TheVariants.{BadToken, Memory}
use Rattle.command_files.proofs.Cited.{Ends-map, only_in, Tells-map, one_line}
use Rattle.structure_commands.proofs.ListingStart.{no_after, bad_after, is_after, work_of}
use Rattle.structure_commands.proofs.list.say_listing.Goals as goal

pub returns-in_default : goal.returns-in_default
returns-in_default g c =
    let Q : Status → List ℕ → Type 0 =
    Tells (ListingWork c.args.after.now c.args.count c.args.problem.now) in
    Ends-map _ Q c.args.out.now _ _ (only_in Q Memory (line (codes "memory")) ([], inl refl, refl))
    c.say_memory.ensures

pub returns-in_default-after_of : goal.returns-in_default-after_of
returns-in_default-after_of g c =
    let p = c.args.problem.now in
    let Q : Status → List ℕ → Type 0 = Tells (ListingWork c.args.after.now c.args.count p) in
    let bad : IsBadToken (shape_of p) c.args.after.now =
    no_after (shape_of p) c.args.after.now c.in_default-after_of.ensures.other.0
    c.in_default-after_of.ensures.other.1 in
    Ends-map _ Q c.args.out.now _ _
    (only_in Q BadToken (line (codes "bad token"))
    (codes "bad token" ∷ [], (bad, refl), one_line (codes "bad token"))) c.say_bad_token.ensures

pub returns-in-Ok-open : goal.returns-in-Ok-open
returns-in-Ok-open g c =
    let p = c.args.problem.now in
    let word = c.args.after.now in
    let Q : Status → List ℕ → Type 0 = Tells (ListingWork word c.args.count p) in
    let meets : IfSome c.in-Some.behind (λ s. IsStructure (shape_of p) (has s)) =
    subst (λ (h : Shape). IfSome c.in-Some.behind (λ s. IsStructure h (has s))) c.in-Ok.ensures
    (c.in-Ok-open.ensures.structure.0 refl) in
    Ends-map (Tells (RestSays p c.args.count c.in-Ok-open.list)) Q c.args.out.now _ _
    (Tells-map (RestSays p c.args.count c.in-Ok-open.list) (ListingWork word c.args.count p)
    (work_of p word c.args.count c.in-Ok.graph c.in-Some.behind c.in-Ok-open.list
    c.in-Ok-open.ensures.ok c.in-Ok.ensures
    (is_after (shape_of p) word c.in-Some.behind c.in-Some.ensures.start c.in-Some.ensures.token
    meets)))
    c.say_rest.ensures

pub returns-in-Err-NotAStructure : goal.returns-in-Err-NotAStructure
returns-in-Err-NotAStructure g c =
    let p = c.args.problem.now in
    let word = c.args.after.now in
    let Q : Status → List ℕ → Type 0 = Tells (ListingWork word c.args.count p) in
    let few : length p.units ≤ 128 =
    subst (λ (h : Shape). h.units ≤ 128) c.in-Ok.ensures c.is_proper.ensures.few_units in
    let no : IfSome c.in-Some.behind (λ s. IsStructure (shape_of p) (has s)) → ⊥ = λ h.
    let ok =
    c.in-Err-NotAStructure.ensures.structure.1
    (subst (λ (k : Shape). IfSome c.in-Some.behind (λ s. IsStructure k (has s)))
    (sym c.in-Ok.ensures) h) in cc in
    let bad : IsBadToken (shape_of p) word =
    bad_after p word c.in-Some.behind few c.in-Some.ensures.token no in
    Ends-map _ Q c.args.out.now _ _
    (only_in Q BadToken (line (codes "bad token"))
    (codes "bad token" ∷ [], (bad, refl), one_line (codes "bad token")))
    c.say_bad_token-in-Err-NotAStructure.ensures
