use Rattle.std.specs.Prelude.{length}
use Rattle.std.proofs.Common.{◌∙◌, arith, sym}
use Rattle.std.proofs.lemmas.Bool.{le-leb, lt-leb}
use Rattle.pfl_timeline.proofs.Answering.{drop-asks}
use Rattle.pfl_timeline.proofs.ByName.{some_there, none_there}
use Rattle.pfl_timeline.proofs.Forking.{told-last, told-dropped, kept-dropped}
use Rattle.pfl_timeline.proofs.Places.{told-none, how_many}
use Rattle.pfl_timeline.proofs.timeline.Timeline.remove.Goals as goal

pub returns-then-not-contains_key : goal.returns-then-not-contains_key
returns-then-not-contains_key g c = record {
  step = drop-asks _ _
      ∙ told-none c.args.name.now _ _ c.self.view_is c.self.invariant
      (none_there _ (sym c.contains_key.ensures ∙ c.if-not-contains_key.true)) _;
}

pub returns-then-len-le1 : goal.returns-then-len-le1
returns-then-len-le1 g c =
    let there = some_there _ (sym c.contains_key.ensures ∙ c.if-not-contains_key.false) in
    let last = le-leb (length c.args.self.now.branches) 1 (omega (arith, how_many _ _ c.self.view_is, c.len.ensures.len, c.if-len-le1.true)) in
    record { step = drop-asks _ _ ∙ told-last c.args.name.now _ there.0 _ c.self.view_is c.self.invariant there.1 last }

pub invariant_of-self : goal.invariant_of-self
invariant_of-self g c =
    let there = some_there _ (sym c.contains_key.ensures ∙ c.if-not-contains_key.false) in
    let more = lt-leb (length c.args.self.now.branches) 1 (omega (arith, how_many _ _ c.self.view_is, c.len.ensures.len, c.if-len-le1.false)) in
    kept-dropped c.args.name.now _ there.0 _ c.self.view_is c.self.invariant there.1 more _ c.shift_remove.ensures.entries

pub returns : goal.returns
returns g c =
    let there = some_there _ (sym c.contains_key.ensures ∙ c.if-not-contains_key.false) in
    let more = lt-leb (length c.args.self.now.branches) 1 (omega (arith, how_many _ _ c.self.view_is, c.len.ensures.len, c.if-len-le1.false)) in
    record { step = drop-asks _ _ ∙ told-dropped c.args.name.now _ there.0 _ c.self.view_is c.self.invariant there.1 more _ c.shift_remove.ensures.entries }
