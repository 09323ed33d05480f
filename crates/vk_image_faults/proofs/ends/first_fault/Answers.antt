use Rattle.std.proofs.Common.{◌≡◌, true, Some, ap, sym, ◌∙◌, arith}
use Rattle.std.specs.Prelude.{nat_lt, length}
use Rattle.std.specs.Option.{option_map}
use Rattle.std.proofs.lemmas.Bool.{lt-ltb}
use Rattle.vk_format.specs.declared.rules.ObjectRule.TheVariants.{O9}
use Rattle.vk_format.specs.Format.{fault}
use Rattle.vk_image_faults.proofs.Rules.{codes_first}
use Rattle.vk_image_faults.proofs.ends.first_fault.Goals as goal

pub returns-in-Some : goal.returns-in-Some
returns-in-Some c =
    let i = c.args.image.now in
    let inside : nat_lt i.main (length i.entries) ≡ true = lt-ltb _ _ (omega (arith, c.if-image-len.false, c.len.ensures)) in
    ap (λ f. Some f) c.fault-in-Some.ensures ∙ ap (option_map (λ n. fault n O9)) (sym c.in-Some.is)
    ∙ codes_first i c.args.end c.in_ok-told.told c.in-Some.at c.in-Some.is c.in_ok-told.ensures inside
