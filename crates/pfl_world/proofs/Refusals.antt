-- Worked examples of refusals, computed.
use Rattle.std.specs.Prelude.{◌≡◌, ℕ, [], ◌∷◌, map, Some, None, Ok, Err, refl}
use Rattle.pfl_base.specs.declared.refusal.Refusal.TheVariants as refusal
use Rattle.pfl_base.specs.declared.node_id.NodeId.TheVariants.{A, B}
use Rattle.pfl_language.specs.declared.outcome.Outcome.TheVariants as outcome
use Rattle.pfl_language.specs.declared.node_event.NodeOutcome.TheVariants as given
use Rattle.pfl_world.specs.declared.fault.WorldFault.TheVariants as world
use Rattle.pfl_world.specs.Worlds.{World, node_at, new_world_at, world_fault}
use Rattle.pfl_world.proofs.Lab.{limits, rules, opening, pass_out, u1, u2, out, name, answers, computing, flush, deliver, repeat, tick, kill, clear}
use Rattle.pfl_world.proofs.Lab.{restart, turn, retry, passed, sent, taken, clock, final, lose, did, asked}

abbrev s : World
s = opening limits

nothing_there : answers (s) (flush A ∷ deliver 9 ∷ kill A (name 1 9) ∷ turn A ∷ tick A 1000000000001 ∷ []) ≡ Err refusal.NothingPending
    ∷ Err refusal.NoSuchFrame ∷ Err refusal.NoSuchState ∷ Err refusal.NotSyncing ∷ Err refusal.ClockFull ∷ []
unfolding computing
nothing_there = refl

link_full : answers (opening (record limits { frames = 1 })) (out A u1 ∷ flush A ∷ repeat 1 ∷ []) ≡ passed 1 1 ∷ sent 1 148 ∷ Err refusal.LinkFull ∷ []
unfolding computing
link_full = refl

queue_full : answers (opening (record limits { queue = 1 })) (out A u1 ∷ out A u2 ∷ []) ≡ passed 1 1 ∷ Err refusal.QueueFull ∷ []
unfolding computing
queue_full = refl

abbrev at : ℕ → World
at start = new_world_at limits (rules (pass_out ∷ [])) (rules (pass_out ∷ [])) start

last_numbers : answers (at 4294967294) (out A u1 ∷ out A u2 ∷ flush A ∷ repeat 4294967294 ∷ restart A ∷ restart B ∷ [])
    ≡ passed 1 4294967294 ∷ Err refusal.CountFull ∷ sent 4294967294 148 ∷ Err refusal.CountFull ∷ Ok (outcome.Boot 4294967294)
    ∷ Err refusal.CountFull ∷ []
unfolding computing
last_numbers = refl

no_numbers : answers (at 4294967295) (out A u1 ∷ restart A ∷ []) ≡ Err refusal.CountFull ∷ Err refusal.CountFull ∷ []
unfolding computing
no_numbers = refl

retry_too_early_and_full : answers (opening (record limits { queue = 1 })) (restart A ∷ flush A ∷ out A u1 ∷ retry A ∷ tick A 10000
    ∷ retry A ∷ []) ≡ Ok (outcome.Boot 3) ∷ sent 1 36 ∷ passed 3 1 ∷ Err refusal.TooEarly ∷ clock 10000 ∷ Err refusal.QueueFull ∷ []
unfolding computing
retry_too_early_and_full = refl

turn_idle_and_full : answers (opening (record limits { queue = 1 })) (out A u1 ∷ turn A ∷ []) ≡ passed 1 1 ∷ Err refusal.NotSyncing ∷ []
unfolding computing
turn_idle_and_full = refl

clear_makes_room : answers (opening (record limits { queue = 1 })) (out A u1 ∷ clear A ∷ flush A ∷ []) ≡ passed 1 1 ∷ did (given.Cleared 1) ∷ sent 1 36 ∷ []
unfolding computing
clear_makes_room = refl

-- a request that is on the list already takes no room, and the last try's end takes none either
retry_at_a_full_queue : answers (opening (record limits { queue = 1 })) (restart A ∷ tick A 10000 ∷ retry A ∷ []) ≡ Ok (outcome.Boot 3)
    ∷ clock 10000 ∷ asked 2 ∷ []
unfolding computing
retry_at_a_full_queue = refl

-- the turn that takes the last eligible name also queues the end
turn_at_a_small_queue : answers (opening (record limits { queue = 1 })) (out B u1 ∷ flush B ∷ lose 1 ∷ restart A ∷ flush A ∷ deliver 2
    ∷ flush B ∷ turn B ∷ []) ≡ passed 2 1 ∷ sent 1 148 ∷ Ok outcome.Lost ∷ Ok (outcome.Boot 3) ∷ sent 2 36 ∷ taken 1 ∷ sent 3 32
    ∷ Err refusal.QueueFull ∷ []
unfolding computing
turn_at_a_small_queue = refl

-- the bound of a clear is the last id given, and 0 after a boot
bounds_of_clears : map (λ es. map (λ c. c.bound) (node_at (final s es) A).queue.clears) ((clear A ∷ []) ∷ (out A u1 ∷ clear A ∷ [])
    ∷ (out A u1 ∷ restart A ∷ clear A ∷ []) ∷ []) ≡ (0 ∷ []) ∷ (1 ∷ []) ∷ (0 ∷ []) ∷ []
unfolding computing
bounds_of_clears = refl

-- ---- limits

too_large : world_fault (record limits { states = 65537 }) ≡ Some world.TooLarge
too_large = refl

too_small : world_fault (record limits { mtu = 147 }) ≡ Some world.TooSmall
too_small = refl

-- one too large and another too small: the first fault
both_wrong : world_fault (record limits { states = 65537; mtu = 147 }) ≡ Some world.TooSmall
both_wrong = refl

no_limit_wrong : world_fault limits ≡ None
no_limit_wrong = refl
