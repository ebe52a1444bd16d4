-- The block goes back to the heap that gave it, by the same right.
use Rattle.test_devices.proofs.memory.RefusesOneAllocator.deallocate.Statement.{statement}
use Rattle.test_devices.specs.contracts.memory.RefusesOneAllocator.deallocate as f
use Rattle.test_devices.proofs.memory.RefusesOneAllocator.deallocate.Code as code
use Rattle.test_devices.specs.contracts.memory.RefusesOne.{the_row as R}
use Rattle.test_devices.specs.contracts.memory.RefusesOne.heap as heap
use Rattle.test_devices.proofs.memory.RefusesOne.heap.Met as heap_met
use Rattle.std.specs.contracts.impls.GlobalAllocator.deallocate as passed
use Rattle.std.proofs.impls.GlobalAllocator.deallocate.Met as passed_met
use Rattle.std.specs.contracts.impls.GlobalAllocator.TheImpl.{ghosts}
use Rattle.std.specs.Allocator.{HasLayout, owned_block}
use Rattle.std.specs.contracts.alloc.Global.{the_row as G}
use Rattle.std.proofs.Common.{List, [], ◌∷◌, refl, sym, ap, subst, w64}
use Rattle.std.proofs.raw_atomic.Walks.{proved}
use base.Logic.{id⊢, emp}
use base.Fml.{ftrue, flft}
use lib.Dec.{T}
use mir.Syntax.{named, ty_unit}
use mir.Val.{Val, vunit, has_ty, WT}
use contract.Monad.{fact, fact_i}
use contract.Running.{tables}
use types.Kit.{‵, use0, raw, ◌⊛◌, some, later, at_ret, ◌$◌, ◌∵◌, !, qed, done, move, keep, use1, use2, split, join, feq_i, feq_l, pick, await}
use types.Kit.{rewrite, suffices, group}
use types.Run.{enter, of_opd, unit_lit, no_more, and_then, first, blocks, exec, returns}
use types.ByLocal.{alloc_all, pass_all, free_all, look_at, get, sets, lands_as, lands_last, env}
use denote.Builtin.{u64, unit, RefOf}
use denote.Exit.{yes}
use denote.Laws.{shows}
use denote.Plain.{uint_Makes, uint_vals, uint_Tells}
use denote.RawPtr.{RawPtr, rawptr_vals, rawptr_Tells, rawptr_Lawful, rawptr_Makes}
use denote.Ref.{Bor, ShrRef, shr_vals, shr_Tells}
use denote.Signature.{Slot, plain}
use denote.Steps.{nothing, owned, heard, peeks, only}
use denote.Triple.Call.{calls_at, calls_at_last}
use denote.Triple.Clauses.{lasts}
use denote.Triple.Spec.{triple_of}
use denote.Triple.Walked.{Stays, walk_of, stay_dropped, Goes-dropped, ends_at}
use denote.Triple.Table.{framed}

abbrev By_ref : Slot 1
By_ref = RefOf (0 ∷ []) tt (plain (λ _. R)) (λ _. tt)

abbrev stayed : Stays f.ended.signature.params f.ended.kept
stayed = (stay_dropped _ yes, (stay_dropped _ yes, (stay_dropped _ yes, (stay_dropped _ yes, tt))))

pub deallocate_spec : {M : Type 1} → statement M
deallocate_spec 𝓤 𝓛 𝓜 𝓡 w =
    let c = f.clauses 𝓛 𝓜.mem 𝓡.returns in let W = walk_of 𝓛 f.ended stayed c in let 𝓣 = tables 𝓤 𝓛.H 𝓜 𝓡 𝓡.env in
    let number = Goes-dropped 𝓛 1 (plain (λ _. u64)) yes (λ κs x v. refl) in
    proved 𝓛 f.ended stayed c 𝓜 𝓡
    (Goes-dropped 𝓛 1 By_ref yes (λ κs x v. refl), (Goes-dropped 𝓛 1 (plain (λ _. RawPtr)) yes (λ κs x v. refl), (number, (number, tt))))
    f.Key.name code.function (code.unfolded 𝓤 𝓛.H 𝓜 𝓡 w)
    (λ κs. (shr_vals, (rawptr_vals, (uint_vals w64, (uint_vals w64, tt)))))
    (λ κs. (shr_Tells (named 0) κs.0 R, (rawptr_Tells, (uint_Tells w64, (uint_Tells w64, tt)))))
    (λ κs qs bounds a ty are.
    let κ = κs.0 in let q = qs.0 in let self = a.0 in let ptr = a.1.0 in let size = a.1.1.0 in let align = a.1.1.1.0 in let vs = shr_vals self in
    let Self = ‵ ((ShrRef (named 0) κ R).own_val self vs) in
    let called = framed 𝓤 𝓛.H 𝓜 𝓣 in
    let y : W.Ghost = ((κs, qs, bounds, a, (vs, (rawptr_vals ptr, (uint_vals w64 size, (uint_vals w64 align, tt))))), ty) in
    qed 𝓛 (((‵ (flft κ q) ⊛ ‵ ftrue) ⊛ Self ⊛ ‵ (RawPtr.own_val ptr (rawptr_vals ptr)) ⊛ ‵ (u64.own_val size (uint_vals w64 size)) ⊛ ‵
    (u64.own_val align (uint_vals w64 align)) ⊛ ‵ ftrue)
    ∷ (raw (fact 𝓤 (HasLayout ty size align)) ⊛ ‵ (owned_block (ghosts.dealloc_token self.now.heap) ty ptr)) ∷ []) ∵
    move ! (1 ∷ []) $ split ! $ heard ! _ (λ layout. move ! (1 ∷ []) $ split ! $ split ! $ move ! (2 ∷ []) $ split ! $ keep ! (0 ∷ 2 ∷ 4 ∷ []) $
    enter ! _ _ _ _ _ $ alloc_all !
    (λ l. pass_all ! refl (
      (tt, tt),
      (
        ((rawptr_Lawful 𝓛).typed ptr (rawptr_vals ptr) refl).0,
        ((tt, record { fits = are.1.1.0.1 }), ((tt, record { fits = are.1.1.1.0.1 }), tt)),
      ),
    ) $
    -- [self; the token; the block]
    let Lends = triple_of 𝓛 heap.signature (heap.spec 𝓛 𝓜.mem 𝓡.returns) in
    let lending : Lends.Ghost = ((κs, qs, tt, (self, tt), (vs, tt)), tt) in
    nothing ! $ move ! (1 ∷ 0 ∷ []) $ join ! $ nothing ! $ move ! (2 ∷ 0 ∷ []) $ join ! $ join ! $
    nothing ! $ move ! (1 ∷ 0 ∷ []) $ use2 𝓛 (raw (Lends.pre lending)) (id⊢ 𝓤 _) $
    calls_at ! called Lends (heap_met.met 𝓤 𝓛 𝓜 𝓡 (code.calls-test_devices::memory::RefusesOne::heap 𝓡.env w)) lending
    (and_then ! (get ! refl) (no_more !)) (λ v.
    use1 𝓛 (later (some (λ (h : Bor G.Denot). ((‵ (flft κ q) ⊛ ‵ ftrue) ⊛ ‵ ((ShrRef (named 0) κ G).own_val h (v ∷ []))) ⊛
    some (λ (ws : Unit {0} × Unit {0}). ‵ (lasts heap.ended κs (self, tt) ws) ⊛ ‵ ftrue)))) (id⊢ 𝓤 _) $
    await ! tt $ pick ! (λ h. split ! $ split ! $ split ! $ move ! (2 ∷ 0 ∷ 4 ∷ []) $
    peeks ! (ShrRef (named 0) κ G) _ (shows 𝓛 (ShrRef (named 0) κ G)) h (v ∷ []) (λ is_h.
    let word = shr_Tells (named 0) κ G h (v ∷ []) is_h in
    lands_as ! (ap only word) refl (tt, tt) $
    rewrite ! 0 (λ (us : List Val). ‵ ((ShrRef (named 0) κ G).own_val h us)) word refl $
    -- [the heap; the token; the block]
    let Passes = triple_of 𝓛 passed.signature (passed.spec 𝓛 𝓜.mem 𝓡.returns) in
    let passing : Passes.Ghost =
    ((κs, qs, tt, (h, (ptr, (size, (align, tt)))), (shr_vals h, (rawptr_vals ptr, (uint_vals w64 size, (uint_vals w64 align, tt))))), ty) in
    nothing ! $ owned ! u64 _ (uint_Makes 𝓛 w64) align _ (refl, are.1.1.1.0.1) $ join ! $
    owned ! u64 _ (uint_Makes 𝓛 w64) size _ (refl, are.1.1.0.1) $ join ! $
    owned ! RawPtr _ (rawptr_Makes 𝓛) ptr (rawptr_vals ptr) refl $ join ! $
    move ! (1 ∷ 0 ∷ []) $ join ! $ nothing ! $ move ! (2 ∷ 0 ∷ []) $ join ! $ join ! $
    move ! (1 ∷ []) $ use0 𝓛 (raw (fact 𝓤 (HasLayout ty size align))) (fact_i 𝓤 (HasLayout ty size align) (emp 𝓤) layout) $ join ! $
    move ! (1 ∷ 0 ∷ []) $ use2 𝓛 (raw (Passes.pre passing)) (id⊢ 𝓤 _) $
    first ! $ blocks ! $
    calls_at_last ! called Passes (passed_met.met 𝓤 𝓛 𝓜 𝓡 (code.calls-std_heap::GlobalAllocator::deallocate 𝓡.env w)) passing
    (and_then ! (get ! refl) (and_then ! (get ! refl) (and_then ! (get ! refl) (and_then ! (get ! refl) (no_more !))))) (λ v'.
    use1 𝓛 (later (some (λ (r : Unit {0}). ((‵ (flft κ q) ⊛ ‵ ftrue) ⊛ ‵ (unit.own_val r (v' ∷ []))) ⊛
    some (λ (ws : Unit {0} × (Unit {0} × (Unit {0} × (Unit {0} × Unit {0})))). ‵ (lasts passed.ended κs passing.0.3 ws) ⊛ ‵ ftrue)))) (id⊢ 𝓤 _) $
    await ! tt $ pick ! (λ r. split ! $ split ! $ split ! $ move ! (2 ∷ []) $ feq_l ! (λ is_unit.
    -- [the token]
    lands_last ! refl (subst (λ (z : Val). T (has_ty ty_unit z) × WT z) (sym (ap only is_unit)) (tt, tt)) $
    exec ! 𝓣.C 𝓣.Λ (env code.Mir.locals l) code.Mir.t-3 (at_ret _ (W.post y)) $
    sets ! (of_opd ! (unit_lit !)) refl (tt, tt) $
    returns ! (look_at ! 0 refl) $ free_all ! refl $ keep ! (0 ∷ []) $
    suffices ! _ (ends_at 𝓛 f.ended stayed c y vunit tt (tt, (tt, (tt, (tt, tt)))) (tt, (tt, (tt, (tt, tt))))) $
    nothing ! $ feq_i ! _ (vunit ∷ []) _ refl $
    nothing ! $ nothing ! $ join ! $ nothing ! $ join ! $ nothing ! $ join ! $ nothing ! $ join ! $
    nothing ! $ move ! (4 ∷ 0 ∷ []) $ join ! $ group ! 3 $ done !)))))))))
