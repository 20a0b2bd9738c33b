-- What the words `help` and `version` print: the commands on one screen, and which program this is.
use Rattle.std.specs.Prelude.{ℕ, List}
use Rattle.studio_rules.specs.declared.command_pages.TheConstants.{OVERVIEW, VERSION}

unfoldable pub overview : List ℕ
overview = OVERVIEW.now

unfoldable pub version : List ℕ
version = VERSION.now
