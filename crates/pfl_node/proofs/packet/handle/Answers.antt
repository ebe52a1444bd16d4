use Rattle.pfl_receive.specs.desk.Nodes.{Node}
use Rattle.std.proofs.Common.{◌≡◌, Some, None, ◌∙◌, ap, sym, arith}
use Rattle.std.specs.Option.{option_map}
use Rattle.std.proofs.lemmas.Result.{err_from_is_err_and}
use Rattle.pfl_base.specs.Keys.{key}
use Rattle.pfl_receive.specs.table.Tables.{States, found, states_of}
use Rattle.pfl_node.specs.Starting.{judged}
use Rattle.pfl_node.proofs.Fated.{handled-none, points-none, handled-some, points-some}
use Rattle.pfl_node.proofs.Points.{stops-last, ends, handles-as}
use Rattle.pfl_node.proofs.packet.handle.Goals as goal

pub returns-in_err-fate : goal.returns-in_err-fate
returns-in_err-fate g c =
    let q = err_from_is_err_and c.from_residual.result c.from_residual.ensures.1 in
    let n = c.args.desk.now.node in
    let p = c.args.packet.now in
    let at : found n.states (key p c.args.dir) c.args.dir ≡ None =
    ap (λ (t : States). found t (key p c.args.dir) c.args.dir) (sym (c.states.ensures.states ∙ ap (λ (k : Node). k.states) c.parts.ensures.parts))
    ∙ (ap (λ k. found (states_of c.states.result.now) k c.args.dir) (sym c.key.ensures.key)
    ∙ (sym c.find.ensures.state ∙ ap (option_map (λ r. r.1.now)) c.in_default.is)) in
    let tried = c.in_err-fate.ensures.done in
    record {
      done = rw q.1 (handles-as _ _ _ _ _ _ _ (handled-none n c.args.dir p at) (points-none n c.args.dir p at)
          (stops-last _ 9 _ _ (judged n c.args.dir p) _ (omega arith) tried.full tried.writes));
    }

pub returns-in_default : goal.returns-in_default
returns-in_default g c =
    let n = c.args.desk.now.node in
    let p = c.args.packet.now in
    let at : found n.states (key p c.args.dir) c.args.dir ≡ None =
    ap (λ (t : States). found t (key p c.args.dir) c.args.dir) (sym (c.states.ensures.states ∙ ap (λ (k : Node). k.states) c.parts.ensures.parts))
    ∙ (ap (λ k. found (states_of c.states.result.now) k c.args.dir) (sym c.key.ensures.key)
    ∙ (sym c.find.ensures.state ∙ ap (option_map (λ r. r.1.now)) c.in_default.is)) in
    let tried = c.in_ok-fate.ensures.done in
    record {
      done = handles-as _ _ _ _ _ _ _ (handled-none n c.args.dir p at) (points-none n c.args.dir p at)
          (ends _ _ 9 _ _ (judged n c.args.dir p)
          (omega arith) tried.step c.is_overcounted.ensures.room c.is_overcounted.ensures.counted tried.writes);
    }

pub follow-requires-clause-found : goal.follow-requires-clause-found
follow-requires-clause-found g c =
    let n = c.args.desk.now.node in
    let p = c.args.packet.now in
    ap (λ (t : States). found t (key p c.args.dir) c.args.dir) (sym (c.states.ensures.states ∙ ap (λ (k : Node). k.states) c.parts.ensures.parts))
    ∙ (ap (λ k. found (states_of c.states.result.now) k c.args.dir) (sym c.key.ensures.key)
    ∙ (sym c.find.ensures.state ∙ ap (option_map (λ r. r.1.now)) c.in-Some.is))

pub returns : goal.returns
returns g c =
    let n = c.args.desk.now.node in
    let p = c.args.packet.now in
    let s = c.in-Some.state.now in
    let at : found n.states (key p c.args.dir) c.args.dir ≡ Some s =
    ap (λ (t : States). found t (key p c.args.dir) c.args.dir) (sym (c.states.ensures.states ∙ ap (λ (k : Node). k.states) c.parts.ensures.parts))
    ∙ (ap (λ k. found (states_of c.states.result.now) k c.args.dir) (sym c.key.ensures.key)
    ∙ (sym c.find.ensures.state ∙ ap (option_map (λ r. r.1.now)) c.in-Some.is)) in
    record { done = handles-as _ _ _ _ _ _ _ (handled-some n c.args.dir p s at) (points-some n c.args.dir p s at) c.follow.ensures.done }
