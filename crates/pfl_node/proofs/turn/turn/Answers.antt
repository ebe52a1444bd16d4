use Rattle.std.proofs.Common.{◌≡◌, ◌∷◌, [], length, true, false, ◌∙◌, ap, sym, arith}
use Rattle.std.proofs.lemmas.Result.{IfOk-weaker}
use Rattle.std.specs.Prelude.{not}
use Rattle.pfl_base.specs.declared.refusal.Refusal.TheVariants.{NotSyncing}
use Rattle.pfl_bulk.specs.Bulk.{is_serving}
use Rattle.pfl_language.specs.declared.node_event.NodeOutcome.TheVariants.{Queued}
use Rattle.pfl_receive.specs.desk.Nodes.{full_tests, refused_by, points_refusal, Node}
use Rattle.pfl_node.specs.Turning.{turn_of, turned, turn_refusal}
use Rattle.pfl_node.proofs.Judged.{at-once, by-end}
use Rattle.pfl_node.proofs.Ready.{begins}
use Rattle.pfl_node.proofs.Turned.{turn-few}
use Rattle.pfl_node.proofs.turn.turn.Goals as goal

pub returns-then-not-is_serving : goal.returns-then-not-is_serving
returns-then-not-is_serving g c =
    let n = c.args.desk.now.node in
    let idle : is_serving n.server ≡ false = ap is_serving (sym (c.server.ensures.server ∙ ap (λ (k : Node). k.server) c.parts.ensures.parts)) ∙ (sym c.is_serving.ensures.serving ∙ c.if-not-is_serving.true) in
    at-once _ _ _ _ c.args.desk.now NotSyncing (ap (λ b. refused_by ((not b, NotSyncing) ∷ full_tests (turned n ∷ []))) idle)

pub queue_next-tried-requires : goal.queue_next-tried-requires
queue_next-tried-requires g c =
    let room = (begins c.args.desk.now c.requires.idle.ready).room in
    let states = c.requires.idle.node.parts.few in
    let few = turn-few c.args.desk.now.node in
    record { parts = c.requires.idle.node.parts; room = omega (arith, room, few, states) }

pub returns : goal.returns
returns g c =
    let a = c.args.desk.now in
    let n = a.node in
    let d = c.queue_next-tried.ensures in
    let j = c.judge.ensures in
    let count = length (turn_of n) in
    let serves : is_serving n.server ≡ true = ap is_serving (sym (c.server.ensures.server ∙ ap (λ (k : Node). k.server) c.parts.ensures.parts)) ∙ (sym c.is_serving.ensures.serving ∙ c.if-not-is_serving.false) in
    let why : turn_refusal n ≡ points_refusal (turned n ∷ []) = ap (λ b. refused_by ((not b, NotSyncing) ∷ full_tests (turned n ∷ []))) serves in
    by-end _ (turn_refusal n) (turned n) (λ k. Queued k ≡ Queued count) a c.queue_next-tried.new.desk c.queue_next-tried.result c.judge.result
    j.refused j.answer j.fits why d.full d.node
    (IfOk-weaker c.queue_next-tried.result (λ k. k ≡ count) (λ k. Queued k ≡ Queued count) (λ k same. ap Queued same) d.count) d.writes
