use Rattle.vk_parse_directives.specs.Cuts.{is_colon}
use Rattle.vk_parse_directives.proofs.Cutting.{place_of, no_place_of, before_at, behind_at, before_none, behind_none}
use Rattle.vk_parse_directives.proofs.cuts.at_colon.Goals as goal

pub returns-in-Some-clause-before : goal.returns-in-Some-clause-before
returns-in-Some-clause-before c = before_at c.args.syms.now c.in-Some.at (place_of is_colon c.args.syms.now c.in-Some.at c.in-Some.ensures.place).0

pub returns-in-Some-clause-behind : goal.returns-in-Some-clause-behind
returns-in-Some-clause-behind c = behind_at c.args.syms.now c.in-Some.at c.in-Some.ensures.within (place_of is_colon c.args.syms.now c.in-Some.at c.in-Some.ensures.place).0

pub returns-in-None-clause-before : goal.returns-in-None-clause-before
returns-in-None-clause-before c = before_none c.args.syms.now (no_place_of is_colon c.args.syms.now c.in-None.ensures.place)

pub returns-in-None-clause-behind : goal.returns-in-None-clause-behind
returns-in-None-clause-behind c = behind_none c.args.syms.now (no_place_of is_colon c.args.syms.now c.in-None.ensures.place)
