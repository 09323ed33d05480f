use Rattle.std.proofs.Common.{sym, ◌∙◌}
use Rattle.vk_rules_book.specs.Typings.{wanted_types}
use Rattle.vk_rules_names.specs.Seen.{meaning_seen}
use Rattle.vk_reading_trees.proofs.Passing.{wanted_there, wanted_nowhere}
use Rattle.vk_reading_trees.proofs.arguments.wanted_type.Goals as goal

pub returns-in-Some : goal.returns-in-Some
returns-in-Some c = wanted_there (wanted_types (meaning_seen c.args.known.now)) c.args.number c.in-Some.ctype (sym c.wanted.ensures ∙ c.in-Some.is)

pub returns-in-None : goal.returns-in-None
returns-in-None c = wanted_nowhere (wanted_types (meaning_seen c.args.known.now)) c.args.number (sym c.wanted.ensures ∙ c.in-None.is)
