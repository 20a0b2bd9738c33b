-- Lines that a walk keeps, each split once: the parts of a line are those that the grammar gives.
use Rattle.std.specs.Prelude.{◌≡◌, ℕ, true, false, List, Option, Some, None, Result, Ok, Err}
use Rattle.text_lines.specs.problem_rules.Names.{is_name, has_double}
use Rattle.text_lines.specs.text_rules.declared.TextKind.{TextKind}
use Rattle.text_lines.specs.text_rules.declared.Section.{Section}
use Rattle.text_lines.specs.text_rules.declared.Section.TheVariants.{Defaults, Materials}
use Rattle.text_lines.specs.text_rules.declared.Section.TheVariants.{OperatingUnits}
use Rattle.text_lines.specs.text_rules.declared.Section.TheVariants.{Rates, Exclusions}
use Rattle.text_lines.specs.text_rules.Line.{Placed, head_of, matters}
use Rattle.text_lines.specs.text_rules.Field.{items_of}
use Rattle.text_lines.specs.text_rules.Term.{pairs_at}
use Rattle.text_lines.specs.text_rules.Fault.{Seen, seen_after, line_fault}
use Rattle.text_lines.specs.View.{texts}
use Rattle.text_lines.specs.Terms.{sides_view}
use Rattle.text_lines.specs.declared.fault.TextFault.{TextFault}
use Rattle.pns_text.specs.Fault.{TellsKind}
use Rattle.pns_text.specs.declared.cut.Cut.{Cut}
use Rattle.pns_text.specs.declared.cut.Cut.TheVariants.{Default, Material, OperatingUnit, Flows}
use Rattle.pns_text.specs.declared.cut.Cut.TheVariants.{Exclusion}

abbrev pub section_of : Cut → Section
section_of Default = Defaults
section_of (Material items) = Materials
section_of (OperatingUnit items) = OperatingUnits
section_of (Flows sides) = Rates
section_of (Exclusion members) = Exclusions

-- the parts are those of the text; no member of an exclusion is there twice
abbrev pub IsCutOf : List ℕ → Cut → Type 0
IsCutOf text Default = Unit {0}
IsCutOf text (Material items) = items.items ≡ items_of text
IsCutOf text (OperatingUnit items) = items.items ≡ items_of text
IsCutOf text (Flows sides) = sides_view sides ≡ pairs_at text
IsCutOf text (Exclusion members) = (texts members.items ≡ items_of text)
    × (has_double (items_of text) ≡ false)

-- all but a default begin with a name
abbrev pub IsNamed : List ℕ → Cut → Type 0
IsNamed text Default = Unit {0}
IsNamed text cut = is_name (head_of text) ≡ true

pub record IsKept (text : List ℕ) (name : List ℕ) (cut : Cut) : Type 0 where
  pub head : name ≡ head_of text
  pub named : IsNamed text cut
  pub parts : IsCutOf text cut

-- the line of this number and text
abbrev pub line_cut : ℕ → List ℕ → Cut → Placed
line_cut number text cut =
    record { number = number; section = section_of cut; header = false; text = text }

-- the parts of a line that matters
pub record IsCutAt (line : Placed) (cut : Cut) : Type 0 where
  pub section : section_of cut ≡ line.section
  pub header : line.header ≡ false
  pub named : IsNamed line.text cut
  pub parts : IsCutOf line.text cut

abbrev pub Keeps : Placed → Option Cut → Type 0
Keeps line None = matters line ≡ false
Keeps line (Some cut) = IsCutAt line cut

-- a line without a fault was taken, and its parts
pub record IsTaken (old : Seen) (line : Placed) (new : Seen) (cut : Option Cut) : Type 0 where
  pub none : line_fault old line ≡ None
  pub seen : new ≡ seen_after old line
  pub kept : Keeps line cut

-- or the reason why not is reported
abbrev pub Takes : Seen → Placed → Seen → Result (Option Cut) (TextFault TextKind) → Type 0
Takes old line new (Ok cut) = IsTaken old line new cut
Takes old line new (Err fault) = TellsKind line.number (line_fault old line) fault
