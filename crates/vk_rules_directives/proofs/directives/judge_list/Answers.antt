use Rattle.std.proofs.Common.{◌≡◌, ◌<◌, ◌&&◌, List, length, get_or, subst, map, take, refl, sym, ap, ◌∙◌}
use Rattle.vk_ast.specs.declared.directives.Directive.{Directive}
use Rattle.vk_ast.specs.Directives.{directive_of}
use Rattle.vk_ast.specs.Units.{function_of}
use Rattle.vk_rules_names.specs.Seen.{unit_of}
use Rattle.vk_rules_book.proofs.Noting.{found_none}
use Rattle.vk_rules_directives.specs.Inner.Signed.{seen, signed}
use Rattle.vk_rules_directives.proofs.Lists.{all_more, list_more, list_noted}
use Rattle.vk_rules_directives.proofs.directives.judge_list.Goals as goal

pub loop-d-init : goal.loop-d-init
loop-d-init c = record { noted = sym (found_none _ _); list = ap (map seen) c.new-list.ensures.items; all = refl; marks = c.requires.marks }

pub loop-d-preserved : goal.loop-d-preserved
loop-d-preserved c =
    let f = function_of c.args.f.now in
    let ds = c.args.f.now.directives.items in
    let before = map directive_of (take c.loop-d.d-index ds) in
    let lt : c.loop-d.d-index < length ds = subst (λ (xs : List Directive). c.loop-d.d-index < length xs) c.deref-d-items.ensures.value c.loop-d-test.true in
    let is : c.d-item.result ≡ get_or ds c.loop-d.d-index c.d-item.result = subst (λ (xs : List Directive). c.d-item.result ≡ get_or xs c.loop-d.d-index c.d-item.result) c.deref-d-items.ensures.value c.d-item.is in
    let same : map seen c.deref.result.now ≡ map (signed f) before = ap (map seen) c.deref.ensures.value ∙ c.loop-d.invariant.list in
    record {
      noted = list_noted (unit_of c.args.place.now) f ds c.loop-d.d-index c.d-item.result _ _ _ lt is c.loop-d.invariant.noted (c.in_ok-signature.ensures.noted before same);
      list = list_more f ds c.loop-d.d-index c.d-item.result c.loop-d.list.items c.push.new.self.items c.in_ok-signature.signature lt is c.loop-d.invariant.list
          c.in_ok-signature.ensures.signature c.in_ok-push.ensures.items;
      all = all_more f ds c.loop-d.d-index c.d-item.result (seen c.in_ok-signature.signature) c.loop-d.all _ lt is c.loop-d.invariant.all c.in_ok-signature.ensures.signature
          (c.both-all.ensures ∙ ap (λ b. c.loop-d.all && b) c.has_one.ensures);
      marks = c.in_ok-signature.ensures.marks;
    }
