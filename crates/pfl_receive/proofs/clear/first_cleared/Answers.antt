use Rattle.std.proofs.Common.{true, false}
use Rattle.pfl_receive.proofs.First.{none-cleared, first-is}
use Rattle.pfl_receive.proofs.clear.first_cleared.Goals as goal

pub returns-in_default : goal.returns-in_default
returns-in_default g c = record {
  first = none-cleared c.args.parts.now c.args.creator c.args.bound c.first_from.ensures.parts.states _
      c.first_from.ensures.first c.in_default.is;
}

pub returns-then-is_cleared : goal.returns-then-is_cleared
returns-then-is_cleared g c =
    record {
      first = first-is c.args.parts.now c.args.creator c.args.bound c.first_from.ensures.parts.states _
          c.first_from.ensures.first c.in-Some.name true _ c.in-Some.is c.is_cleared.ensures c.if-is_cleared.true;
    }

pub returns-else-is_cleared : goal.returns-else-is_cleared
returns-else-is_cleared g c =
    record {
      first = first-is c.args.parts.now c.args.creator c.args.bound c.first_from.ensures.parts.states _
          c.first_from.ensures.first c.in-Some.name false _ c.in-Some.is c.is_cleared.ensures c.if-is_cleared.false;
    }
