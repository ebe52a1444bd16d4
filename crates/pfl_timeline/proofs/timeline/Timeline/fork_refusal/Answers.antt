use Rattle.std.specs.Prelude.{length, not}
use Rattle.std.proofs.Common.{◌∙◌, ap, arith, sym}
use Rattle.std.proofs.lemmas.Bool.{lt-ltb, le-ltb, le-leb, lt-leb}
use Rattle.pfl_timeline.proofs.Keeping.{is_taken, is_bad, is_far, is_full, is_free}
use Rattle.pfl_timeline.proofs.Places.{has_branch, how_many}
use Rattle.pfl_timeline.proofs.timeline.Timeline.fork_refusal.Goals as goal

pub returns-then-contains_key : goal.returns-then-contains_key
returns-then-contains_key g c =
    let a = has_branch c.args.name.now _ _ c.self.view_is c.self.invariant ∙ sym c.contains_key.ensures ∙ c.if-contains_key.true in
    is_taken c.args.self.now c.args.place c.args.name.now c.args.from.now.branch a

pub returns-then-not-is_name : goal.returns-then-not-is_name
returns-then-not-is_name g c =
    let a = has_branch c.args.name.now _ _ c.self.view_is c.self.invariant ∙ sym c.contains_key.ensures ∙ c.if-contains_key.false in
    let b = ap not (sym c.is_name.ensures ∙ c.if-not-is_name.true) in
    is_bad c.args.self.now c.args.place c.args.name.now c.args.from.now.branch a b

pub returns-then-len-place : goal.returns-then-len-place
returns-then-len-place g c =
    let a = has_branch c.args.name.now _ _ c.self.view_is c.self.invariant ∙ sym c.contains_key.ensures ∙ c.if-contains_key.false in
    let b = ap not (sym c.is_name.ensures ∙ c.if-not-is_name.false) in
    let events = ap length c.events.ensures.events in
    let far = lt-ltb (length c.args.from.now.branch.events) c.args.place (omega (arith, events, c.len.ensures.length, c.if-len-place.true)) in
    is_far c.args.self.now c.args.place c.args.name.now c.args.from.now.branch a b far

pub returns-then-len-ge-MOST_BRANCHES : goal.returns-then-len-ge-MOST_BRANCHES
returns-then-len-ge-MOST_BRANCHES g c =
    let a = has_branch c.args.name.now _ _ c.self.view_is c.self.invariant ∙ sym c.contains_key.ensures ∙ c.if-contains_key.false in
    let b = ap not (sym c.is_name.ensures ∙ c.if-not-is_name.false) in
    let events = ap length c.events.ensures.events in
    let far = le-ltb (length c.args.from.now.branch.events) c.args.place (omega (arith, events, c.len.ensures.length, c.if-len-place.false)) in
    let d = le-leb 16 (length c.args.self.now.branches)
    (omega (arith, how_many _ _ c.self.view_is, c.len-else-len-place.ensures.len, c.if-len-ge-MOST_BRANCHES.true)) in
    is_full c.args.self.now c.args.place c.args.name.now c.args.from.now.branch a b far d

pub returns-else-len-ge-MOST_BRANCHES : goal.returns-else-len-ge-MOST_BRANCHES
returns-else-len-ge-MOST_BRANCHES g c =
    let a = has_branch c.args.name.now _ _ c.self.view_is c.self.invariant ∙ sym c.contains_key.ensures ∙ c.if-contains_key.false in
    let b = ap not (sym c.is_name.ensures ∙ c.if-not-is_name.false) in
    let events = ap length c.events.ensures.events in
    let far = le-ltb (length c.args.from.now.branch.events) c.args.place (omega (arith, events, c.len.ensures.length, c.if-len-place.false)) in
    let d = lt-leb 16 (length c.args.self.now.branches)
    (omega (arith, how_many _ _ c.self.view_is, c.len-else-len-place.ensures.len, c.if-len-ge-MOST_BRANCHES.false)) in
    is_free c.args.self.now c.args.place c.args.name.now c.args.from.now.branch a b far d
