-- The refused request returns `Err`, and owns nothing; any other one gets what the heap gives. The walk borrows `self` twice, for
-- `counts` and for `heap`, and hands the heap the layout that it was given.
use Rattle.test_devices.proofs.memory.RefusesOneAllocator.allocate.Statement.{statement}
use Rattle.test_devices.specs.contracts.memory.RefusesOneAllocator.allocate as f
use Rattle.test_devices.proofs.memory.RefusesOneAllocator.allocate.Code as code
use Rattle.test_devices.specs.contracts.memory.RefusesOne.{the_row as R}
use Rattle.test_devices.proofs.memory.RefusesOne.TheLaws as laws
use Rattle.test_devices.specs.contracts.memory.RefusesOne.counts as counts
use Rattle.test_devices.proofs.memory.RefusesOne.counts.Met as counts_met
use Rattle.test_devices.specs.contracts.memory.refused as refused
use Rattle.test_devices.proofs.memory.refused.Met as refused_met
use Rattle.test_devices.specs.contracts.memory.RefusesOne.heap as heap
use Rattle.test_devices.proofs.memory.RefusesOne.heap.Met as heap_met
use Rattle.std.specs.contracts.impls.GlobalAllocator.allocate as passed
use Rattle.std.proofs.impls.GlobalAllocator.allocate.Met as passed_met
use Rattle.std.specs.contracts.impls.GlobalAllocator.TheImpl.{ghosts}
use Rattle.std.specs.Allocator.{HasLayout, block_if_ok, alloc_error}
use Rattle.std.specs.contracts.alloc.Global.{the_row as G}
use Rattle.std.specs.contracts.alloc.AllocError.{the_row as E}
use Rattle.std.proofs.alloc.AllocError.TheLaws.{the_row_laws as E_laws}
use Rattle.std.specs.contracts.result.Result.{the_row as ResultOf}
use Rattle.std.proofs.result.Result.TheLaws.{the_row_laws as ResultOf_laws}
use Rattle.std.specs.Prelude.{Err}
use Rattle.std.proofs.Common.{◌≡◌, Bool, List, [], ◌∷◌, refl, ap, w64}
use Rattle.std.proofs.raw_atomic.Walks.{proved}
use base.Logic.{id⊢, emp}
use base.Fml.{ftrue, flft}
use borrow.Table.RawPtr.{ptr_laws}
use mir.Syntax.{named}
use mir.Val.{Val}
use contract.Monad.{fact, fact_i}
use contract.Running.{tables}
use types.Kit.{‵, use0, raw, ◌⊛◌, some, later, at_ret, ◌$◌, ◌∵◌, !, qed, done, move, keep, drop, use1, use2, split, join, pick, await, rewrite, suffices, group}
use types.Run.{enter, no_more, and_then, first, branches, skips, exec, returns, returns_within}
use types.ByLocal.{alloc_all, pass_all, free_all, look_at, get, lands_as, env}
use denote.Builtin.{bool, u64, RefOf}
use denote.Exit.{yes}
use denote.Laws.{shows}
use denote.Plain.{uint_Makes, uint_vals, uint_Tells, bool_Tells}
use denote.RattleType.{RattleType}
use denote.RawPtr.{RawPtr}
use denote.Ref.{Bor, ShrRef, shr_vals, shr_Tells, shr_copy}
use denote.Signature.{Slot, plain}
use denote.Steps.{nothing, owned, heard, peeks, facts, only}
use denote.Triple.Call.{calls_at}
use denote.Triple.Clauses.{lasts}
use denote.Triple.Spec.{triple_of}
use denote.Triple.Walked.{Stays, walk_of, stay_dropped, Goes-dropped, ends_at}
use denote.Triple.Table.{framed}

abbrev By_ref : Slot 1
By_ref = RefOf (0 ∷ []) tt (plain (λ _. R)) (λ _. tt)

abbrev stayed : Stays f.ended.signature.params f.ended.kept
stayed = (stay_dropped _ yes, (stay_dropped _ yes, (stay_dropped _ yes, tt)))

abbrev Answer : RattleType
Answer = ResultOf RawPtr E

pub allocate_spec : {M : Type 1} → statement M
allocate_spec 𝓤 𝓛 𝓜 𝓡 w =
    let c = f.clauses 𝓛 𝓜.mem 𝓡.returns in let W = walk_of 𝓛 f.ended stayed c in let 𝓣 = tables 𝓤 𝓛.H 𝓜 𝓡 𝓡.env in
    let number = Goes-dropped 𝓛 1 (plain (λ _. u64)) yes (λ κs x v. refl) in
    proved 𝓛 f.ended stayed c 𝓜 𝓡 (Goes-dropped 𝓛 1 By_ref yes (λ κs x v. refl), (number, (number, tt)))
    f.Key.name code.function (code.unfolded 𝓤 𝓛.H 𝓜 𝓡 w)
    (λ κs. (shr_vals, (uint_vals w64, (uint_vals w64, tt))))
    (λ κs. (shr_Tells (named 0) κs.0 R, (uint_Tells w64, (uint_Tells w64, tt))))
    (λ κs qs bounds a ty are.
    let κ = κs.0 in let q = qs.0 in let self = a.0 in let size = a.1.0 in let align = a.1.1.0 in let vs = shr_vals self in
    let Self = ‵ ((ShrRef (named 0) κ R).own_val self vs) in
    let called = framed 𝓤 𝓛.H 𝓜 𝓣 in
    let y : W.Ghost = ((κs, qs, bounds, a, (vs, (uint_vals w64 size, (uint_vals w64 align, tt)))), ty) in
    qed 𝓛 (((‵ (flft κ q) ⊛ ‵ ftrue) ⊛ Self ⊛ ‵ (u64.own_val size (uint_vals w64 size)) ⊛ ‵
    (u64.own_val align (uint_vals w64 align)) ⊛ ‵ ftrue) ∷ raw (fact 𝓤 (HasLayout ty size align)) ∷ []) ∵
    move ! (1 ∷ []) $ heard ! _ (λ layout. split ! $ split ! $ move ! (2 ∷ []) $ split ! $ keep ! (0 ∷ 2 ∷ []) $
    use1 𝓛 (Self ⊛ Self) ((shr_copy 𝓛 (named 0) κ R laws.the_row_laws.shr_laws).twice self vs) $ split ! $
    enter ! _ _ _ _ _ $ alloc_all ! (λ l. pass_all ! refl ((tt, tt), ((tt, record { fits = are.1.0.1 }), ((tt, record { fits = are.1.1.0.1 }), tt))) $
    -- [self; self; the token]
    let Counts = triple_of 𝓛 counts.signature (counts.spec 𝓛 𝓜.mem 𝓡.returns) in
    let counting : Counts.Ghost = ((κs, qs, tt, (self, tt), (vs, tt)), tt) in
    nothing ! $ move ! (1 ∷ 0 ∷ []) $ join ! $ nothing ! $ move ! (3 ∷ 0 ∷ []) $ join ! $ join ! $
    nothing ! $ move ! (1 ∷ 0 ∷ []) $ use2 𝓛 (raw (Counts.pre counting)) (id⊢ 𝓤 _) $
    calls_at ! called Counts (counts_met.met 𝓤 𝓛 𝓜 𝓡 (code.calls-test_devices::memory::RefusesOne::counts 𝓡.env w)) counting
    (and_then ! (get ! refl) (no_more !)) (λ v.
    use1 𝓛 (later (some (λ (u : Bool). ((‵ (flft κ q) ⊛ ‵ ftrue) ⊛ ‵ (bool.own_val u (v ∷ []))) ⊛
    some (λ (ws : Unit {0} × Unit {0}). ‵ (lasts counts.ended κs (self, tt) ws) ⊛ ‵ ftrue)))) (id⊢ 𝓤 _) $
    await ! tt $ pick ! (λ u. split ! $ split ! $ split ! $ move ! (2 ∷ []) $ facts ! bool _ (shows 𝓛 bool) u (v ∷ []) (λ is.
    move ! (1 ∷ 2 ∷ []) $ drop ! $ drop ! $
    -- [the token; self]
    lands_as ! (ap only (bool_Tells u (v ∷ []) is)) refl (tt, tt) $
    first ! $ branches ! (get ! refl)
    (λ is_refused.
    let Refuses = triple_of 𝓛 refused.signature (refused.spec 𝓛 𝓜.mem 𝓡.returns) in
    let refusing : Refuses.Ghost = ((tt, tt, tt, tt, tt), tt) in
    nothing ! $ nothing ! $ join ! $ nothing ! $ move ! (1 ∷ 0 ∷ []) $ use2 𝓛 (raw (Refuses.pre refusing)) (id⊢ 𝓤 _) $
    calls_at ! called Refuses (refused_met.met 𝓤 𝓛 𝓜 𝓡 (code.calls-test_devices::memory::refused 𝓡.env w)) refusing (no_more !) (λ v'.
    use1 𝓛 (later (some (λ (r : Answer.Denot). (‵ ftrue ⊛ ‵ (Answer.own_val r (v' ∷ []))) ⊛
    some (λ (ws : Unit {0}). ‵ (lasts refused.ended tt tt ws) ⊛ raw (fact 𝓤 (r ≡ Err alloc_error)))))) (id⊢ 𝓤 _) $
    await ! tt $ pick ! (λ r. split ! $ split ! $ drop ! $ move ! (1 ∷ []) $ pick ! (λ ws. split ! $ drop ! $ heard ! _ (λ is_err.
    -- [the answer; the token; self]
    rewrite ! 0 (λ (x : Answer.Denot). ‵ (Answer.own_val x (v' ∷ []))) is_err refl $
    peeks ! Answer _ (shows 𝓛 Answer) (Err alloc_error) (v' ∷ []) (λ has.
    lands_as ! refl refl (((ResultOf_laws RawPtr E ptr_laws E_laws).lawful 𝓛).typed (Err alloc_error) (v' ∷ []) has).0 $
    returns_within ! (W.post y) refl (look_at ! 0 refl) $ free_all ! refl $ nothing ! $ keep ! (1 ∷ 0 ∷ 2 ∷ []) $
    suffices ! _ (ends_at 𝓛 f.ended stayed c y v' (Err alloc_error) (tt, (tt, (tt, tt))) (tt, (tt, (tt, tt)))) $
    nothing ! $ nothing ! $ join ! $ nothing ! $ join ! $ nothing ! $ join ! $
    nothing ! $ move ! (4 ∷ 0 ∷ []) $ join ! $ group ! 3 $ done !))))))
    (λ is_passed. skips ! $ exec ! 𝓣.C 𝓣.Λ (env code.Mir.locals l) code.Mir.t-3 (at_ret _ (W.post y)) $
    let Lends = triple_of 𝓛 heap.signature (heap.spec 𝓛 𝓜.mem 𝓡.returns) in
    let lending : Lends.Ghost = ((κs, qs, tt, (self, tt), (vs, tt)), tt) in
    nothing ! $ move ! (2 ∷ 0 ∷ []) $ join ! $ nothing ! $ move ! (2 ∷ 0 ∷ []) $ join ! $ join ! $
    nothing ! $ move ! (1 ∷ 0 ∷ []) $ use2 𝓛 (raw (Lends.pre lending)) (id⊢ 𝓤 _) $
    calls_at ! called Lends (heap_met.met 𝓤 𝓛 𝓜 𝓡 (code.calls-test_devices::memory::RefusesOne::heap 𝓡.env w)) lending
    (and_then ! (get ! refl) (no_more !)) (λ v'.
    use1 𝓛 (later (some (λ (h : Bor G.Denot). ((‵ (flft κ q) ⊛ ‵ ftrue) ⊛ ‵ ((ShrRef (named 0) κ G).own_val h (v' ∷ []))) ⊛
    some (λ (ws : Unit {0} × Unit {0}). ‵ (lasts heap.ended κs (self, tt) ws) ⊛ ‵ ftrue)))) (id⊢ 𝓤 _) $
    await ! tt $ pick ! (λ h. split ! $ split ! $ split ! $ move ! (2 ∷ 0 ∷ []) $
    peeks ! (ShrRef (named 0) κ G) _ (shows 𝓛 (ShrRef (named 0) κ G)) h (v' ∷ []) (λ is_h.
    let word = shr_Tells (named 0) κ G h (v' ∷ []) is_h in
    lands_as ! (ap only word) refl (tt, tt) $
    rewrite ! 0 (λ (us : List Val). ‵ ((ShrRef (named 0) κ G).own_val h us)) word refl $
    -- [the heap; the token]
    let Passes = triple_of 𝓛 passed.signature (passed.spec 𝓛 𝓜.mem 𝓡.returns) in
    let passing : Passes.Ghost = ((κs, qs, tt, (h, (size, (align, tt))), (shr_vals h, (uint_vals w64 size, (uint_vals w64 align, tt)))), ty) in
    nothing ! $ owned ! u64 _ (uint_Makes 𝓛 w64) align _ (refl, are.1.1.0.1) $ join ! $
    owned ! u64 _ (uint_Makes 𝓛 w64) size _ (refl, are.1.0.1) $ join ! $
    move ! (1 ∷ 0 ∷ []) $ join ! $ nothing ! $ move ! (2 ∷ 0 ∷ []) $ join ! $ join ! $
    use0 𝓛 (raw (fact 𝓤 (HasLayout ty size align))) (fact_i 𝓤 (HasLayout ty size align) (emp 𝓤) layout) $
    move ! (1 ∷ 0 ∷ []) $ use2 𝓛 (raw (Passes.pre passing)) (id⊢ 𝓤 _) $
    calls_at ! called Passes (passed_met.met 𝓤 𝓛 𝓜 𝓡 (code.calls-std_heap::GlobalAllocator::allocate 𝓡.env w)) passing
    (and_then ! (get ! refl) (and_then ! (get ! refl) (and_then ! (get ! refl) (no_more !)))) (λ v″.
    use1 𝓛 (later (some (λ (r : Answer.Denot). ((‵ (flft κ q) ⊛ ‵ ftrue) ⊛ ‵ (Answer.own_val r (v″ ∷ []))) ⊛
    some (λ (ws : Unit {0} × (Unit {0} × (Unit {0} × Unit {0}))). ‵ (lasts passed.ended κs passing.0.3 ws) ⊛ ‵
    (block_if_ok (ghosts.dealloc_token h.now) ty r))))) (id⊢ 𝓤 _) $
    await ! tt $ pick ! (λ r. split ! $ split ! $ split ! $ move ! (3 ∷ []) $ pick ! (λ ws. split ! $ drop ! $
    -- [the block; the token; nothing; the answer]
    move ! (3 ∷ 0 ∷ 1 ∷ []) $ peeks ! Answer _ (shows 𝓛 Answer) r (v″ ∷ []) (λ has.
    lands_as ! refl refl (((ResultOf_laws RawPtr E ptr_laws E_laws).lawful 𝓛).typed r (v″ ∷ []) has).0 $
    returns ! (look_at ! 0 refl) $ free_all ! refl $ keep ! (0 ∷ 1 ∷ 2 ∷ []) $
    suffices ! _ (ends_at 𝓛 f.ended stayed c y v″ r (tt, (tt, (tt, tt))) (tt, (tt, (tt, tt)))) $
    nothing ! $ nothing ! $ join ! $ nothing ! $ join ! $ nothing ! $ join ! $
    nothing ! $ move ! (4 ∷ 0 ∷ []) $ join ! $ group ! 3 $ done !))))))))))))))
