use Rattle.std.proofs.Common.{◌≡◌, rules, refl, Some, Ok, Err}
use Rattle.pfl_script.specs.lines.declared.session.SessionLine.TheVariants.{View, Setup, Follow, Ask}
use Rattle.pfl_script.specs.Texts.{bad_text}
use Rattle.pfl_serve.specs.Seats.{site_of}
use Rattle.pfl_serve.proofs.Broken.{breaks-said, breaks-text}
use Rattle.pfl_serve.proofs.serving.Serving.answer.Goals as goal

-- the line of a fault was not written whole
pub returns-in-Some-Err-clause-breaks : goal.returns-in-Some-Err-clause-breaks
returns-in-Some-Err-clause-breaks g c =
    let is = c.in-Some-Err in
    let said : c.args.said.now ≡ Some (Err is.fault) = search rules in
    let text : c.as_bytes.result.now ≡ bad_text is.fault = search rules in
    breaks-said (site_of g.J.Which) _ _ _ _ c.write_text.result _ _ said
    (breaks-text c.write_text.result _ _ c.as_bytes.result.now _ _ (refl, text) c.write_text.ensures.fault c.write_text.ensures.part)

-- the line of a revision was not written whole
pub returns-in-Some-Ok-View-clause-breaks : goal.returns-in-Some-Ok-View-clause-breaks
returns-in-Some-Ok-View-clause-breaks g c =
    let is = c.in-Some-Ok-View in
    let said : c.args.said.now ≡ Some (Ok View) = search rules in
    breaks-said (site_of g.J.Which) _ _ _ _ c.answer_view.result _ _ said c.answer_view.ensures.breaks

-- the setup was not written whole
pub returns-in-Some-Ok-Setup-clause-breaks : goal.returns-in-Some-Ok-Setup-clause-breaks
returns-in-Some-Ok-Setup-clause-breaks g c =
    let is = c.in-Some-Ok-Setup in
    let write = c.write_text-in-Some-Ok-Setup in
    let said : c.args.said.now ≡ Some (Ok Setup) = search rules in
    breaks-said (site_of g.J.Which) _ _ _ _ write.result _ _ said
    (breaks-text write.result _ _ c.setup.result.now _ _ (refl, c.setup.ensures) write.ensures.fault write.ensures.part)

-- the journal was not shown whole
pub returns-in-Some-Ok-Follow-clause-breaks : goal.returns-in-Some-Ok-Follow-clause-breaks
returns-in-Some-Ok-Follow-clause-breaks g c =
    let is = c.in-Some-Ok-Follow in
    let said : c.args.said.now ≡ Some (Ok (Follow is.from)) = search rules in
    breaks-said (site_of g.J.Which) _ _ _ _ c.answer_follow.result _ _ said c.answer_follow.ensures.breaks

-- the reply was not written whole
pub returns-in-Some-Ok-Ask-clause-breaks : goal.returns-in-Some-Ok-Ask-clause-breaks
returns-in-Some-Ok-Ask-clause-breaks g c =
    let is = c.in-Some-Ok-Ask in
    let said : c.args.said.now ≡ Some (Ok (Ask is.command)) = search rules in
    breaks-said (site_of g.J.Which) _ _ _ _ c.pass_gate.result _ _ said c.pass_gate.ensures.breaks
