use Rattle.std.proofs.Common.{◌∙◌, ap, sym, subst}
use Rattle.pfl_desk.specs.bulk.Bulk.{server_started}
use Rattle.pfl_desk.specs.Nodes.{Node, ServesSince}
use Rattle.pfl_receive.proofs.Serving.{started-past}
use Rattle.pfl_receive.proofs.records.serve.Goals as goal

pub set_server-requires-clause-past : goal.set_server-requires-clause-past
set_server-requires-clause-past g c =
    let n = c.args.desk.now.node in
    let same = c.start-server.ensures.server ∙ ((λ i. server_started (c.server.ensures.server i) c.args.begins (c.clock.ensures.clock i))
    ∙ ap (λ (m : Node). server_started m.server c.args.begins m.clock) c.parts-parts.ensures.parts) in
    let clocks = ap (λ (m : Node). m.clock) c.in_ok-announce_status.ensures.node in
    let after = c.announce_status.new.self.node in
    subst (ServesSince after) (sym same) (started-past n after c.args.begins c.known.ensures.parts clocks)
