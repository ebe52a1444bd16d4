-- Worked examples of bulk updates, clears and restarts, computed.
use Rattle.std.specs.Prelude.{◌≡◌, [], ◌∷◌, Ok, Err, refl}
use Rattle.pfl_base.specs.declared.refusal.Refusal.TheVariants as refusal
use Rattle.pfl_base.specs.declared.node_id.NodeId.TheVariants.{A, B}
use Rattle.pfl_wire.specs.declared.message.BulkStatus.TheVariants as status
use Rattle.pfl_node.specs.bulk.declared.BulkClient.TheVariants as client
use Rattle.pfl_language.specs.declared.outcome.Outcome.TheVariants as outcome
use Rattle.pfl_language.specs.declared.node_event.NodeOutcome.TheVariants as given
use Rattle.pfl_language.specs.declared.retried.Retried.TheVariants as retried
use Rattle.pfl_world.specs.Worlds.{World, node_at}
use Rattle.pfl_world.proofs.Lab.{limits, opening, u1, u2, out, name, answers, final, computing, counts_at, counts, names_at, both, flush, deliver}
use Rattle.pfl_world.proofs.Lab.{lose, tick, clear, restart, turn, retry, passed, sent, taken, clock, did, asked}

abbrev s : World
s = opening limits

abbrev one_a_turn : World
one_a_turn = opening (record limits { batch = 1 })

bulk_update : answers (one_a_turn) (out B u1 ∷ out B u2 ∷ flush B ∷ lose 1 ∷ restart A ∷ flush A ∷ deliver 2 ∷ turn B ∷ flush B ∷ deliver 3
    ∷ turn B ∷ flush B ∷ lose 4 ∷ retry A ∷ tick A 10000 ∷ retry A ∷ tick A 10000 ∷ retry A ∷ tick A 10000 ∷ retry A ∷ tick A 10000
    ∷ retry A ∷ tick A 10000 ∷ retry A ∷ tick A 10000 ∷ retry A ∷ tick A 10000 ∷ retry A ∷ tick A 10000 ∷ retry A ∷ tick A 10000 ∷ retry A
    ∷ tick A 10000 ∷ retry A ∷ tick A 10000 ∷ retry A ∷ tick A 10000 ∷ retry A ∷ []) ≡ passed 2 1 ∷ passed 2 2 ∷ sent 1 272
    ∷ Ok outcome.Lost ∷ Ok (outcome.Boot 3) ∷ sent 2 36 ∷ taken 1 ∷ did (given.Queued 1) ∷ sent 3 160 ∷ taken 2 ∷ did (given.Queued 1)
    ∷ sent 4 160 ∷ Ok outcome.Lost ∷ Err refusal.TooEarly ∷ clock 10000 ∷ asked 2 ∷ clock 20000 ∷ asked 3 ∷ clock 30000 ∷ asked 4
    ∷ clock 40000 ∷ asked 5 ∷ clock 50000 ∷ asked 6 ∷ clock 60000 ∷ asked 7 ∷ clock 70000 ∷ asked 8 ∷ clock 80000 ∷ asked 9 ∷ clock 90000
    ∷ asked 10 ∷ clock 100000 ∷ asked 11 ∷ clock 110000 ∷ asked 12 ∷ clock 120000 ∷ did (given.Tried retried.Served) ∷ []
unfolding computing
bulk_update = refl

first_came : names_at (final (one_a_turn) (out B u1 ∷ out B u2 ∷ flush B ∷ lose 1 ∷ restart A ∷ flush A ∷ deliver 2 ∷ turn B ∷ flush B
    ∷ deliver 3 ∷ [])) A ≡ name 2 1 ∷ []
unfolding computing
first_came = refl

cleared : answers (s) (out A u1 ∷ flush A ∷ deliver 1 ∷ clear A ∷ out A u1 ∷ flush A ∷ deliver 2 ∷ []) ≡ passed 1 1 ∷ sent 1 148 ∷ taken 1
    ∷ did (given.Cleared 1) ∷ passed 1 2 ∷ sent 2 164 ∷ taken 2 ∷ []
unfolding computing
cleared = refl

cleared_after : both (counts_at (final (s) (out A u1 ∷ flush A ∷ deliver 1 ∷ clear A ∷ out A u1 ∷ flush A ∷ deliver 2 ∷ [])) B)
    (names_at (final (s) (out A u1 ∷ flush A ∷ deliver 1 ∷ clear A ∷ out A u1 ∷ flush A ∷ deliver 2 ∷ [])) B) ≡ both (counts 0 0 0 0 1 0 0) ([])
unfolding computing
cleared_after = refl

cleared_beside : names_at (final (s) (out A u1 ∷ flush A ∷ deliver 1 ∷ clear A ∷ out A u2 ∷ flush A ∷ deliver 2 ∷ [])) B ≡ name 1 2 ∷ []
unfolding computing
cleared_beside = refl

nothing_to_send : answers (s) (restart A ∷ flush A ∷ deliver 1 ∷ turn B ∷ flush B ∷ deliver 2 ∷ retry A ∷ []) ≡ Ok (outcome.Boot 3)
    ∷ sent 1 36 ∷ taken 1 ∷ Err refusal.NotSyncing ∷ sent 2 32 ∷ taken 1 ∷ Err refusal.NotSyncing ∷ []
unfolding computing
nothing_to_send = refl

end_at_once : (node_at (final (s) (restart A ∷ flush A ∷ deliver 1 ∷ [])) B).queue.statuses ≡ status.End ∷ []
unfolding computing
end_at_once = refl

client_idle : (node_at (final (s) (restart A ∷ flush A ∷ deliver 1 ∷ turn B ∷ flush B ∷ deliver 2 ∷ retry A ∷ [])) A).client ≡ client.Idle
unfolding computing
client_idle = refl
