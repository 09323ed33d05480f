use Rattle.std.proofs.Common.{◌∙◌, sym}
use Rattle.vk_object.specs.Tables.{tables_of}
use Rattle.vk_image.proofs.Parts.{with_cells, without_chains, without_codes, without_links, without_shape}
use Rattle.vk_image.proofs.image.is_image.Goals as goal

pub returns-then-not-has_shape : goal.returns-then-not-has_shape
returns-then-not-has_shape c = without_shape (tables_of c.args.tables.now) (sym c.has_shape.ensures ∙ c.if-not-has_shape.true)

pub returns-then-not-branch : goal.returns-then-not-branch
returns-then-not-branch c = without_codes (tables_of c.args.tables.now) (sym c.in_ok-are_codes.ensures ∙ c.if-not-branch.true)

pub returns-then-not-are_all_linked : goal.returns-then-not-are_all_linked
returns-then-not-are_all_linked c = without_links (tables_of c.args.tables.now) (sym c.are_all_linked.ensures ∙ c.if-not-are_all_linked.true)

pub returns-then-not-branch-2 : goal.returns-then-not-branch-2
returns-then-not-branch-2 c = without_chains (tables_of c.args.tables.now) (sym c.in_ok-are_chains_short.ensures ∙ c.if-not-branch-2.true)

pub returns : goal.returns
returns c =
    c.in_ok-are_cells_few.ensures ∙ with_cells (tables_of c.args.tables.now) (sym c.has_shape.ensures ∙ c.if-not-has_shape.false) (sym c.in_ok-are_codes.ensures ∙ c.if-not-branch.false)
    (sym c.are_all_linked.ensures ∙ c.if-not-are_all_linked.false) (sym c.in_ok-are_chains_short.ensures ∙ c.if-not-branch-2.false)
