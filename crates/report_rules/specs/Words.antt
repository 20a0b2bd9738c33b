-- The word of each kind of warning, and the sentence that says what it means.
use Rattle.std.specs.Prelude.{ℕ, List, codes}
use Rattle.report_rules.specs.declared.warning.Warning.{Warning}
use Rattle.report_rules.specs.declared.warning.Warning.TheVariants.{NoNetwork, UnusedMaterial}
use Rattle.report_rules.specs.declared.warning.Warning.TheVariants.{NoDemand, DefaultCapacity, Free}
use Rattle.report_rules.specs.declared.warning.Warning.TheVariants.{FreeRaw, NoLimit, Twins}
use Rattle.report_rules.specs.declared.warning.Warning.TheVariants.{FineRates, Alone}

abbrev pub kind_word : Warning → List ℕ
kind_word NoNetwork = codes "NoNetwork"
kind_word UnusedMaterial = codes "UnusedMaterial"
kind_word NoDemand = codes "NoDemand"
kind_word DefaultCapacity = codes "DefaultCapacity"
kind_word Free = codes "Free"
kind_word FreeRaw = codes "FreeRaw"
kind_word NoLimit = codes "NoLimit"
kind_word Twins = codes "Twins"
kind_word FineRates = codes "FineRates"
kind_word Alone = codes "Alone"

abbrev pub sentence : Warning → List ℕ
sentence NoNetwork = codes "No network can have this unit: it is outside the maximal structure."
sentence UnusedMaterial = codes "No unit of the maximal structure uses or makes this material."
sentence NoDemand =
    codes "The lower bound of this product is 0, so a network may deliver none of it."
sentence DefaultCapacity =
    codes "Its capacity is 1000000000, so bounds hardly count its fixed or investment cost."
sentence Free = codes "All costs of this unit are 0."
sentence FreeRaw = codes "The price of this raw material is 0."
sentence NoLimit =
    codes "What is left over of it is sold at its price, and nothing limits how much."
sentence Twins = codes "An earlier unit has the same bounds, costs, inputs and outputs."
sentence FineRates =
    codes "A rate of this unit has more than three decimals, so numbers may overflow."
sentence Alone =
    codes "At most one of its units is in the maximal structure, so it excludes nothing."
