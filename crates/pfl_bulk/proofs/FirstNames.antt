-- A turn sees no more than the first names after the cursor, one more than it sends: so not all names need be handed in.
use Rattle.std.specs.Prelude.{◌≡◌, ℕ, zero, suc, Bool, true, false, List, [], ◌∷◌, filter, take, refl, ◌<◌, nat_le, length, unwrap_or}
use Rattle.std.specs.Ordering.{is_lt}
use Rattle.std.proofs.Common.{cond, ◌∙◌, ap, arith}
use Rattle.std.proofs.lemmas.Bool.Decides.{nat_tests}
use Rattle.std.proofs.lemmas.List.{length-take, take-take}
use Rattle.pfl_base.specs.declared.state_name.StateName.{StateName}
use Rattle.pfl_base.specs.Names.{name_cmp}
use Rattle.pfl_base.specs.Lists.{last_of}
use Rattle.pfl_bulk.specs.declared.BulkServer.{BulkServer}
use Rattle.pfl_bulk.specs.declared.BulkServer.TheVariants as server
use Rattle.pfl_bulk.specs.Bulk.{names_after, turn_names, first_names, is_last_turn, after_turn}

-- ---- A turn sees no more than the first names after the cursor, one more than it sends. Proofs of the crates above cite
-- the lemmas, so that they need not hand in all names.

keeps : {X : Type 0} (p : X → Bool) (xs : List X) (n : ℕ) → filter p (take n (filter p xs)) ≡ take n (filter p xs)
keeps p xs zero = refl
keeps p [] (suc n) = refl
keeps p (x ∷ xs) (suc n) =
    elim (p x) as (λ b. p x ≡ b → filter p (take (suc n) (cond b (x ∷ filter p xs) (filter p xs))) ≡ take (suc n) (cond b (x ∷ filter p xs) (filter p xs))) [
      | true ↦ λ e. ap (λ b. cond b (x ∷ filter p (take n (filter p xs))) (filter p (take n (filter p xs)))) e ∙ ap (λ (ys : List _). x ∷ ys) (keeps p xs n)
      | false ↦ λ e. keeps p xs (suc n)
    ] refl

few_tests : {X : Type 0} (xs : List X) (n batch : ℕ) → batch < n → nat_le (length (take n xs)) batch ≡ nat_le (length xs) batch
few_tests xs n batch h = grind (arith, nat_tests, length-take n xs)

-- the names of the turn
pub turn_names-first : (s : BulkServer) (names : List StateName) (n batch : ℕ) → batch < n
    → turn_names s (first_names s names n) batch ≡ turn_names s names batch
turn_names-first server.Idle names n batch h = refl
turn_names-first (server.Serving cursor since) names n batch h =
    ap (take batch) (keeps (λ m. is_lt (name_cmp cursor m)) names n) ∙ take-take batch n (names_after cursor names) (omega arith)

-- whether it is the last
pub is_last_turn-first : (s : BulkServer) (names : List StateName) (n batch : ℕ) → batch < n
    → is_last_turn s (first_names s names n) batch ≡ is_last_turn s names batch
is_last_turn-first server.Idle names n batch h = refl
is_last_turn-first (server.Serving cursor since) names n batch h =
    ap (λ (ms : List StateName). nat_le (length ms) batch) (keeps (λ m. is_lt (name_cmp cursor m)) names n) ∙ few_tests (names_after cursor names) n batch h

-- and the server after it
pub after_turn-first : (s : BulkServer) (names : List StateName) (n batch : ℕ) → batch < n
    → after_turn s (first_names s names n) batch ≡ after_turn s names batch
after_turn-first server.Idle names n batch h = refl
after_turn-first (server.Serving cursor since) names n batch h =
    let last = is_last_turn-first (server.Serving cursor since) names n batch h in
    let sent = turn_names-first (server.Serving cursor since) names n batch h in
    ap (λ b. cond b server.Idle
    (server.Serving (unwrap_or
    (last_of (turn_names (server.Serving cursor since) (first_names (server.Serving cursor since) names n) batch)) cursor) since)) last
    ∙ ap (λ (ms : List StateName). cond (nat_le (length (names_after cursor names)) batch) server.Idle
    (server.Serving (unwrap_or (last_of ms) cursor) since)) sent
