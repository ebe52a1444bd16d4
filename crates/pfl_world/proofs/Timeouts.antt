-- Worked examples of timeouts that shorten as a table fills, computed.
use Rattle.std.specs.Prelude.{◌≡◌, ℕ, List, [], ◌∷◌, ◌++◌, map, replicate, Some, None, refl}
use Rattle.pfl_base.specs.declared.proto.Proto.TheVariants.{Udp}
use Rattle.pfl_base.specs.declared.packet.Packet.{Packet}
use Rattle.pfl_base.specs.declared.node_id.NodeId.TheVariants.{A, B}
use Rattle.pfl_node.specs.queue.declared.Kind.TheVariants.{Delete}
use Rattle.pfl_language.specs.declared.event.Event.{Event}
use Rattle.pfl_language.specs.declared.node_event.NodeOutcome.TheVariants as given
use Rattle.pfl_rules.specs.Rules.{timed}
use Rattle.pfl_world.specs.Worlds.{World, new_world}
use Rattle.pfl_world.proofs.Lab.{Answer, limits, opening, pass_out, rules, inside, outside, plain, u1, u2, u3, out, name, answers, final, computing}
use Rattle.pfl_world.proofs.Lab.{queue_at, queued, states_at, times, flush, deliver, tick, purge, passed, sent, taken, clock, did}

-- a pair with these limits, whose timeouts shrink between these numbers of states
abbrev between : ℕ → ℕ → World
between start end = opening (record limits { astart = Some start; aend = Some end })

u4 : Packet
u4 = plain Udp (inside 1003) (outside 53) 40

-- three states of `udp.first`, which has 60 seconds
abbrev three : List Event
three = out A u1 ∷ out A u2 ∷ out A u3 ∷ []

abbrev three_passed : List Answer
three_passed = passed 1 1 ∷ passed 1 2 ∷ passed 1 3 ∷ []

purged : ℕ → Answer
purged n = did (given.Purged n)

-- a pair whose rules set five seconds for `udp.first`
abbrev short : World
short = let five = timed (replicate 6 None ++ Some 5 ∷ replicate 7 None) (rules (pass_out ∷ [])) in new_world limits five five

set_timeout : answers short (out A u1 ∷ tick A 4999 ∷ purge A ∷ tick A 1 ∷ purge A ∷ []) ≡ passed 1 1 ∷ clock 4999 ∷ purged 0 ∷ clock 5000 ∷ purged 1 ∷ []
unfolding computing purged
set_timeout = refl

-- of three between two and four, half of the timeout is left
half_is_left : answers (between 2 4) (three ++ tick A 29999 ∷ purge A ∷ tick A 1 ∷ purge A ∷ []) ≡ three_passed ++ clock 29999 ∷ purged 0
    ∷ clock 30000 ∷ purged 3 ∷ []
unfolding computing purged
half_is_left = refl

-- at the end nothing of it is
nothing_is_left : answers (between 2 4) (three ++ out A u4 ∷ purge A ∷ []) ≡ three_passed ++ passed 1 4 ∷ purged 4 ∷ []
unfolding computing purged u4
nothing_is_left = refl

-- at the start all of it is
all_is_left : answers (between 3 4) (three ++ tick A 59999 ∷ purge A ∷ tick A 1 ∷ purge A ∷ []) ≡ three_passed ++ clock 59999 ∷ purged 0
    ∷ clock 60000 ∷ purged 3 ∷ []
unfolding computing purged
all_is_left = refl

-- 60 * 4 / 7 seconds, truncated
truncated : answers (between 0 7) (three ++ tick A 33999 ∷ purge A ∷ tick A 1 ∷ purge A ∷ []) ≡ three_passed ++ clock 33999 ∷ purged 0
    ∷ clock 34000 ∷ purged 3 ∷ []
unfolding computing purged
truncated = refl

turned_off : answers (between 0 0) (three ++ tick A 59999 ∷ purge A ∷ tick A 1 ∷ purge A ∷ []) ≡ three_passed ++ clock 59999 ∷ purged 0
    ∷ clock 60000 ∷ purged 3 ∷ []
unfolding computing purged
turned_off = refl

-- where six states are the limit, timeouts shrink from three on up to seven: 60 * 3 / 4 seconds
by_the_limit : answers (opening (record limits { states = 6 })) (three ++ out A u4 ∷ tick A 44999 ∷ purge A ∷ tick A 1 ∷ purge A ∷ [])
    ≡ three_passed ++ passed 1 4 ∷ clock 44999 ∷ purged 0 ∷ clock 45000 ∷ purged 4 ∷ []
unfolding computing purged u4
by_the_limit = refl

alone_at_a_limit_of_one : answers (opening (record limits { states = 1 })) (out A u1 ∷ purge A ∷ []) ≡ passed 1 1 ∷ purged 1 ∷ []
unfolding computing purged
alone_at_a_limit_of_one = refl

-- A announces that 30 seconds are left; B takes the states over with 60, since it has none, one, and two of them before
abbrev told : List Event
told = three ++ flush A ∷ tick B 50000 ∷ deliver 1 ∷ []

taken_over : map times (states_at (final (between 2 4) told) B) ≡ (20000, Some 50000) ∷ (20000, Some 50000) ∷ (20000, Some 50000) ∷ []
unfolding computing
taken_over = refl

-- and purges with three
purged_at_b : answers (between 2 4) (told ++ purge B ∷ []) ≡ three_passed ++ sent 1 396 ∷ clock 50000 ∷ taken 3 ∷ purged 3 ∷ []
unfolding computing purged
purged_at_b = refl

deleted_at_b : queue_at (final (between 2 4) (told ++ purge B ∷ [])) B ≡ queued Delete 1 (name 1 1) ∷ queued Delete 2 (name 1 2)
    ∷ queued Delete 3 (name 1 3) ∷ []
unfolding computing
deleted_at_b = refl
