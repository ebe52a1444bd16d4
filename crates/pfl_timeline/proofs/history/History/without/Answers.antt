use Rattle.std.specs.Prelude.{◌≡◌, ◌+◌, ◌-◌, ◌≤◌, ◌<◌, ℕ, true, false, min, List, [], ◌∷◌, ◌++◌, length, get_or, refl}
use Rattle.std.proofs.Common.{◌∙◌, ap, subst, sym, arith}
use Rattle.std.proofs.lemmas.Option.{get_or_from_slice_get}
use Rattle.pfl_language.specs.declared.event.Event.{Event}
use Rattle.pfl_timeline.specs.Histories.{History}
use Rattle.pfl_timeline.specs.inner.Histories.{Sifts}
use Rattle.pfl_timeline.proofs.Sieving.{Going, going, going-fell, going-stood, going-kept, going_as, gone-fallen, gone-few, gone-rest}
use Rattle.pfl_timeline.proofs.history.History.without.Goals as goal
use Rattle.pfl_timeline.proofs.history.History.without.Goals.{then-not-branch+in_ok-reserve, else-not-branch+then-index-cursor}
use Rattle.pfl_timeline.proofs.history.History.without.Goals.{else-not-branch+else-index-cursor}

pub loop-index-init : goal.loop-index-init
loop-index-init g c =
    let h = c.args.self.now in
    let k = c.args.place in
    let count : min h.cursor (k - 1) ≡ c.min-standing.result = omega (arith, c.min-standing.ensures, c.cursor-cursor.ensures.cursor) in
    subst (λ n. Going h k k c.in_ok-rest.rest c.new-fallen.result.items n) count
    (going h c.known.ensures.history k c.requires.some c.requires.within c.in_ok-rest.rest c.new-fallen.result.items
    c.in_ok-rest.ensures.history c.new-fallen.ensures.items)

pub loop-index-preserved : goal.loop-index-preserved
loop-index-preserved g c =
    let h = c.args.self.now in
    let e : Event = c.get.result in
    let events = ap (λ (r : History). r.events) c.self.view_is in
    let within : c.loop-index.index < length h.events = omega (arith, c.loop-index-test.true, c.len-index-end.ensures.length, ap length events) in
    let here : e ≡ get_or h.events c.loop-index.index e =
    sym (get_or_from_slice_get c.self.inside.events c.loop-index.index e e c.get.ensures.event)
    ∙ ap (λ (es : List Event). get_or es c.loop-index.index e) events in
    elim c.if-not-branch.branch [
      | then-not-branch+in_ok-reserve w ↦
          let sifts : Sifts c.loop-index.rest e c.sift.new.self false =
          subst (Sifts c.loop-index.rest e c.sift.new.self) w.if-not-branch.true c.in_ok-sift.ensures in
          going_as h c.args.place (c.loop-index.index + 1) c.sift.new.self _ _ _ _
          (ap (λ v. v.items) w.fallen-is ∙ (rw w.unwrap.ensures at w.push.ensures.items)
          ∙ ap (λ (ns : List ℕ). ns ++ (c.loop-index.index + 1) ∷ []) w.in_ok-reserve.ensures.items)
          w.standing-is
          (going-fell h c.args.place c.loop-index.index e c.loop-index.auto.index within here c.loop-index.rest c.sift.new.self
          c.loop-index.fallen.items c.loop-index.standing c.loop-index.invariant sifts)
      | else-not-branch+then-index-cursor w ↦
          let sifts : Sifts c.loop-index.rest e c.sift.new.self true =
          subst (Sifts c.loop-index.rest e c.sift.new.self) w.if-not-branch.false c.in_ok-sift.ensures in
          let stood : c.loop-index.index < h.cursor = omega (arith, w.if-index-cursor.true, c.cursor-cursor.ensures.cursor) in
          going_as h c.args.place (c.loop-index.index + 1) c.sift.new.self _ _ _ _
          (ap (λ v. v.items) w.fallen-is)
          w.standing-is
          (going-stood h c.args.place c.loop-index.index e c.loop-index.auto.index within here c.loop-index.rest c.sift.new.self
          c.loop-index.fallen.items c.loop-index.standing c.loop-index.invariant sifts stood)
      | else-not-branch+else-index-cursor w ↦
          let sifts : Sifts c.loop-index.rest e c.sift.new.self true =
          subst (Sifts c.loop-index.rest e c.sift.new.self) w.if-not-branch.false c.in_ok-sift.ensures in
          let undone : h.cursor ≤ c.loop-index.index = omega (arith, w.if-index-cursor.false, c.cursor-cursor.ensures.cursor) in
          going_as h c.args.place (c.loop-index.index + 1) c.sift.new.self _ _ _ _
          (ap (λ v. v.items) w.fallen-is)
          w.standing-is
          (going-kept h c.args.place c.loop-index.index e c.loop-index.auto.index within here c.loop-index.rest c.sift.new.self
          c.loop-index.fallen.items c.loop-index.standing c.loop-index.invariant sifts undone)
    ]

pub take_back_to-requires : goal.take_back_to-requires
take_back_to-requires g c =
    let events = ap (λ (r : History). r.events) c.self.view_is in
    let all : length c.args.self.now.events ≤ c.loop-index.index = omega (arith, c.loop-index-test.false, c.len-index-end.ensures.length, ap length events) in
    record {
      within = gone-few c.args.self.now c.args.place c.loop-index.index all c.loop-index.rest c.loop-index.fallen.items
          c.loop-index.standing c.loop-index.invariant;
    }

pub returns-clause-fallen : goal.returns-clause-fallen
returns-clause-fallen g c =
    let events = ap (λ (r : History). r.events) c.self.view_is in
    let all : length c.args.self.now.events ≤ c.loop-index.index = omega (arith, c.loop-index-test.false, c.len-index-end.ensures.length, ap length events) in
    gone-fallen c.args.self.now c.args.place c.loop-index.index all c.loop-index.rest c.loop-index.fallen.items c.loop-index.standing c.loop-index.invariant

pub returns-clause-history : goal.returns-clause-history
returns-clause-history g c =
    let events = ap (λ (r : History). r.events) c.self.view_is in
    let all : length c.args.self.now.events ≤ c.loop-index.index = omega (arith, c.loop-index-test.false, c.len-index-end.ensures.length, ap length events) in
    c.take_back_to.ensures.history
    ∙ gone-rest c.args.self.now c.args.place c.loop-index.index all c.loop-index.rest c.loop-index.fallen.items c.loop-index.standing
    c.loop-index.invariant _ refl
