use Rattle.std.proofs.Common.{Bor, List, ℕ, map, sym, subst}
use Rattle.vk_requests.specs.Command.{command_of, demangle, lanes, mangle}
use Rattle.vk_words.specs.Views.{mangle_asked}
use Rattle.vk_words_units.specs.Lanes.{lanes_asked}
use Rattle.vk_requests.specs.declared.request.Request.{Request}
use Rattle.vk_ends.specs.declared.ends.End.{End}
use Rattle.vk_arguments.specs.Arguments.{given}
use Rattle.vk_cmd_lanes.specs.Lanes.{LanesHolds}
use Rattle.vk_cli.specs.Commands.{CommandHolds, HasFixedLetter}
use Rattle.vk_cli.proofs.Answered.{told_holds}
use Rattle.vk_cli.proofs.call.carry_out.Goals as goal

pub returns-in-Demangle-clause-holds : goal.returns-in-Demangle-clause-holds
returns-in-Demangle-clause-holds g c =
    subst (λ (q : Request). CommandHolds (command_of q) (g.S.Store.state c.args.store.now) (g.S.Store.state c.demangle-end.new.store) (g.O.Sink.state c.args.out.now)
    (g.O.Sink.state c.demangle-end.new.out) c.report.result) (sym c.in-Demangle.is)
    (told_holds (demangle c.in-Demangle.file.now) _ _ _ _ c.demangle-end.result c.report.result c.report.ensures.end c.demangle-end.ensures)

pub returns-in-Lanes-clause-holds : goal.returns-in-Lanes-clause-holds
returns-in-Lanes-clause-holds g c =
    let request = c.in-Lanes.request in
    let Of : List (Bor (List ℕ)) → End → Type 0 = λ texts end. LanesHolds (record { isa = request.isa; unit = request.unit.now; name = request.name.now; given = given request.mask texts; turns = request.turns })
    (g.S.Store.state c.args.store.now) (g.S.Store.state c.lanes-end.new.store) (g.O.Sink.state c.args.out.now) (g.O.Sink.state c.lanes-end.new.out) end in
    subst (λ (q : Request). CommandHolds (command_of q) (g.S.Store.state c.args.store.now) (g.S.Store.state c.lanes-end.new.store) (g.O.Sink.state c.args.out.now)
    (g.O.Sink.state c.lanes-end.new.out) c.report-in-Lanes.result) (sym c.in-Lanes.is)
    (told_holds (lanes (lanes_asked request)) _ _ _ _ c.lanes-end.result c.report-in-Lanes.result c.report-in-Lanes.ensures.end
    (subst (λ texts. Of texts c.lanes-end.result) c.deref.ensures.value c.lanes-end.ensures))

pub returns-in-Mangle-clause-holds : goal.returns-in-Mangle-clause-holds
returns-in-Mangle-clause-holds g c =
    subst (λ (q : Request). CommandHolds (command_of q) (g.S.Store.state c.args.store.now) (g.S.Store.state c.mangle-end.new.store) (g.O.Sink.state c.args.out.now)
    (g.O.Sink.state c.mangle-end.new.out) c.report-in-Mangle.result) (sym c.in-Mangle.is)
    (told_holds (mangle (mangle_asked c.in-Mangle.request)) _ _ _ _ c.mangle-end.result c.report-in-Mangle.result c.report-in-Mangle.ensures.end c.mangle-end.ensures)

pub lanes-end-requires : goal.lanes-end-requires
lanes-end-requires g c = record { letter = subst (λ (q : Request). HasFixedLetter (command_of q)) c.in-Lanes.is c.requires.letter }
