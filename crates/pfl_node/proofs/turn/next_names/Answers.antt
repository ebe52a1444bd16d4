use Rattle.std.proofs.Common.{◌≡◌, None, Some, ◌∙◌, ap, sym, arith}
use Rattle.pfl_bulk.specs.declared.BulkServer.TheVariants as server
use Rattle.pfl_edits.specs.Maps as maps
use Rattle.pfl_receive.specs.table.Tables.{States, state_after}
use Rattle.pfl_node.specs.Turning.{is_eligible}
use Rattle.pfl_node.proofs.Risen.{after-none, next-passes, next-skipped, fewer-behind, gathered-first, gathered-more, gathered-skip, gathered-full}
use Rattle.pfl_node.proofs.Risen.{gathered-all}
use Rattle.pfl_node.proofs.Turned.{first-names}
use Rattle.pfl_node.proofs.turn.next_names.Goals as goal

pub loop-count-init : goal.loop-count-init
loop-count-init g c = gathered-first _ c.in-Serving.cursor c.args.names.now c.args.most c.requires.room

pub returns-in_default-after : goal.returns-in_default-after
returns-in_default-after g c =
    let n = c.args.parts.now in
    let so = c.loop-count.invariant in
    let within = so.within in
    let room = so.room in
    let serves : n.server ≡ server.Serving c.in-Serving.cursor c.in-Serving.since = sym c.server.ensures.server ∙ c.in-Serving.is in
    let none : state_after n.states c.loop-count.at ≡ None =
    ap (λ (m : States). state_after m c.loop-count.at) (sym c.states.ensures.states) ∙ sym c.in_default-after.ensures.state in
    let left = after-none (is_eligible n c.in-Serving.since) c.loop-count.at (maps.values n.states) none in
    record {
      few = omega (arith, within, room);
      names = gathered-all _ _ _ _ _ _ so left ∙ first-names n c.in-Serving.cursor c.in-Serving.since c.args.most serves;
    }

pub loop-count-preserved-then-is_eligible : goal.loop-count-preserved-then-is_eligible
loop-count-preserved-then-is_eligible g c =
    let n = c.args.parts.now in
    let found : state_after n.states c.loop-count.at ≡ Some c.in-Some.row.now.state =
    ap (λ (m : States). state_after m c.loop-count.at) (sym c.states.ensures.states) ∙ sym c.in-Some.ensures.state in
    let next = next-passes n.states c.requires.parts.states
    (is_eligible n c.in-Serving.since) c.loop-count.at c.in-Some.row.now.state c.name-at.result found c.name-at.ensures
    (sym c.is_eligible.ensures.eligible ∙ c.if-is_eligible.true) in
    gathered-more _ _ _ _ _ _ c.loop-count.invariant c.name-at.result c.loop-count-test.true next

pub loop-count-preserved : goal.loop-count-preserved
loop-count-preserved g c =
    let n = c.args.parts.now in
    let found : state_after n.states c.loop-count.at ≡ Some c.in-Some.row.now.state =
    ap (λ (m : States). state_after m c.loop-count.at) (sym c.states.ensures.states) ∙ sym c.in-Some.ensures.state in
    let next = next-skipped n.states c.requires.parts.states
    (is_eligible n c.in-Serving.since) c.loop-count.at c.in-Some.row.now.state c.name-at.result found c.name-at.ensures
    (sym c.is_eligible.ensures.eligible ∙ c.if-is_eligible.false) in
    gathered-skip _ _ _ _ _ _ c.loop-count.invariant c.name-at.result next

pub loop-count-smaller-then-is_eligible : goal.loop-count-smaller-then-is_eligible
loop-count-smaller-then-is_eligible g c =
    let n = c.args.parts.now in
    let found : state_after n.states c.loop-count.at ≡ Some c.in-Some.row.now.state =
    ap (λ (m : States). state_after m c.loop-count.at) (sym c.states.ensures.states) ∙ sym c.in-Some.ensures.state in
    fewer-behind n.states c.requires.parts.states c.loop-count.at c.in-Some.row.now.state c.name-at.result found c.name-at.ensures

pub loop-count-smaller : goal.loop-count-smaller
loop-count-smaller g c =
    let n = c.args.parts.now in
    let found : state_after n.states c.loop-count.at ≡ Some c.in-Some.row.now.state =
    ap (λ (m : States). state_after m c.loop-count.at) (sym c.states.ensures.states) ∙ sym c.in-Some.ensures.state in
    fewer-behind n.states c.requires.parts.states c.loop-count.at c.in-Some.row.now.state c.name-at.result found c.name-at.ensures

pub returns : goal.returns
returns g c =
    let n = c.args.parts.now in
    let so = c.loop-count.invariant in
    let within = so.within in
    let room = so.room in
    let serves : n.server ≡ server.Serving c.in-Serving.cursor c.in-Serving.since = sym c.server.ensures.server ∙ c.in-Serving.is in
    record {
      few = omega (arith, within, room);
      names = gathered-full _ _ _ _ _ _ so c.loop-count-test.false ∙ first-names n c.in-Serving.cursor c.in-Serving.since c.args.most serves;
    }
