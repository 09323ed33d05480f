use Rattle.std.proofs.Common.{◌∙◌, ◌&&◌, ap, sym}
use Rattle.std.specs.List.{list_all}
use Rattle.std.proofs.lemmas.List.Folds.{list_all-map}
use Rattle.vk_code.specs.declared.code.Code.{out-Code}
use Rattle.vk_code.specs.Listing.{listing_of, simd_site_of}
use Rattle.vk_code.specs.Tests.{all_good}
use Rattle.vk_code.specs.Valid.{verdicts}
use Rattle.vk_object.specs.Images.{has_body, names_of}
use Rattle.vk_object.specs.Tables.{tables_of}
use Rattle.vk_image.proofs.codes.is_code.Goals as goal

pub returns-then-have_bodies : goal.returns-then-have_bodies
returns-then-have_bodies c =
    let image = tables_of c.args.tables.now in
    let code = listing_of c.args.code.now in
    let bodies = list_all-map (has_body image) simd_site_of (out-Code c.args.code.now).loops.items ∙ (ap (list_all (λ l. has_body image (simd_site_of l))) (sym c.deref.ensures.value) ∙ sym c.have_bodies.ensures) in
    c.is_valid.ensures ∙ (ap (λ e. all_good (verdicts e code)) c.requires ∙ sym (ap (λ b. b && all_good (verdicts (names_of image) code)) (bodies ∙ c.if-have_bodies.true)))

pub returns-else-have_bodies : goal.returns-else-have_bodies
returns-else-have_bodies c =
    let image = tables_of c.args.tables.now in
    let code = listing_of c.args.code.now in
    let bodies = list_all-map (has_body image) simd_site_of (out-Code c.args.code.now).loops.items ∙ (ap (list_all (λ l. has_body image (simd_site_of l))) (sym c.deref.ensures.value) ∙ sym c.have_bodies.ensures) in
    c.if-have_bodies.false ∙ sym (ap (λ b. b && all_good (verdicts (names_of image) code)) (bodies ∙ c.if-have_bodies.false))
