-- The ends of a bulk update keep past times.
use Rattle.std.specs.Prelude.{◌≡◌, Bool, true, false}
use Rattle.std.proofs.Common.{arith}
use Rattle.pfl_desk.specs.bulk.declared.BulkServer.{BulkServer}
use Rattle.pfl_desk.specs.bulk.declared.BulkServer.TheVariants as server
use Rattle.pfl_desk.specs.bulk.Bulk.{server_started}
use Rattle.pfl_desk.specs.Nodes.{Node, AreParts, ServesSince}

serves : (n m : Node) (s : BulkServer) → m.clock ≡ n.clock → ServesSince n s → ServesSince m s
serves n m server.Idle same h = tt
serves n m (server.Serving cursor since) same h = omega (arith, same, h)

-- a server that begins, at a node that has the same clock
pub started-past : (n m : Node) (has_states : Bool) → AreParts n → m.clock ≡ n.clock → ServesSince m (server_started n.server has_states n.clock)
started-past n m true is same = omega (arith, same)
started-past n m false is same = serves n m n.server same is.serving
