use Rattle.std.proofs.Common.{◌≡◌, ◌*◌, ◌∙◌, Bool, List, length, ap, subst, arith}
use Rattle.std.specs.Prelude.{IfOk, OnOk}
use Rattle.std.specs.List.{fold}
use Rattle.pfl_wire.specs.declared.message.Message.{Message}
use Rattle.pfl_wire.specs.Frames.{records_of}
use Rattle.pfl_desk.specs.Drafts.{Writes}
use Rattle.pfl_desk.specs.Nodes.{Node}
use Rattle.pfl_desk.specs.inner.Judging.{Went}
use Rattle.pfl_receive.specs.inner.Delivering.{paid_by}
use Rattle.pfl_receive.specs.Delivering.{records_work, same_rules, taken_points}
use Rattle.pfl_receive.specs.Receiving.{taken}
use Rattle.pfl_receive.proofs.Weighing.{paid-frame}
use Rattle.pfl_receive.proofs.frame.take_frame.Goals as goal

pub take_records-requires : goal.take_records-requires
take_records-requires g c =
    let room = c.requires.room in
    let pays = ap paid_by c.records.ensures in
    record { room = omega (arith, room, pays, paid-frame c.args.frame.now) }

pub returns : goal.returns
returns g c =
    let n = c.args.desk.now.node in
    let m = c.take_records.new.desk.node in
    let e = c.take_records.ensures in
    let has = c.has_same_rules-same_rules.ensures.same ∙ ap (λ (k : Node). same_rules k c.args.frame.now) c.parts.ensures.parts in
    let same : (c.has_same_rules-same_rules.result, c.records.result) ≡ (same_rules n c.args.frame.now, records_of c.args.frame.now) =
    λ i. (has i, c.records.ensures i) in
    record {
      went = subst (λ (p : Bool × List Message). Went c.take_records.result (taken_points n p.0 p.1)) same e.went;
      node = subst (λ (p : Bool × List Message). OnOk c.take_records.result (m ≡ fold (λ k r. taken k p.0 r) n p.1)) same e.node;
      count = subst (λ (p : Bool × List Message). IfOk c.take_records.result (λ r. r.0 ≡ length p.1)) same e.count;
      writes = subst (λ (p : Bool × List Message). Writes (12 * records_work n p.0 p.1) c.args.desk.now c.take_records.new.desk) same e.writes;
    }
