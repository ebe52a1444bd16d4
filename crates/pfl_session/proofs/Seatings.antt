-- New passes, one for each session, are passes of the lab.
use Rattle.std.specs.Prelude.{◌≡◌, ◌≤◌, ℕ, suc, ◌+◌, ◌-◌, List, [], ◌∷◌, ◌++◌, length, slice_get, nat_lt, Bool, true, false, ◌||◌, Some, None}
use Rattle.std.specs.Prelude.{if◌then◌else◌, refl}
use Rattle.std.specs.List.{AllByRecursion}
use Rattle.std.proofs.lemmas.Bool.{ltb-false}
use Rattle.std.proofs.Common.{sym, ◌∙◌, ap, subst, arith}
use Rattle.atomic_table.specs.Seated.{TableId}
use Rattle.pfl_publish.specs.Count.{Count}
use Rattle.pfl_publish.specs.Revisions.{Log}
use Rattle.pfl_session.specs.declared.entry.Entry.{Entry}
use Rattle.pfl_session.specs.declared.mark.Mark.{Mark}
use Rattle.pfl_session.specs.Journals.{count_of, counts_of}
use Rattle.pfl_session.specs.Passes.{Seen, IsPassOf}
use Rattle.pfl_session.specs.Labs.{lab_fault, IsNewPass, AreNewPasses}
use Rattle.pfl_session.specs.declared.fault.LabFault.TheVariants as fault

fits : (a b c : Bool) → (if a then Some fault.Sessions else (if b || c then Some fault.Journal else None)) ≡ None → c ≡ false
fits true b c is = absurd cc
fits false true c is = absurd cc
fits false false true is = absurd cc
fits false false false is = refl

-- the journal of a lab is not too long
pub no-fault : (sessions journal : ℕ) → lab_fault sessions journal ≡ None → journal ≤ 1000000
no-fault sessions journal is = ltb-false 1000000 journal (fits (nat_lt sessions 1 || nat_lt 8 sessions) (nat_lt journal 1) (nat_lt 1000000 journal) is)

module _ {M : Type 0} where
  -- one session more
  pub passes-snoc : (publisher : TableId) (seen : Log (Mark M)) (k : ℕ) (ts : List TableId) (ps : List (Seen M)) (t : TableId) (p : Seen M)
      → AreNewPasses publisher seen k ts ps → IsNewPass publisher seen (k + length ts) t p
      → AreNewPasses publisher seen k (ts ++ t ∷ []) (ps ++ p ∷ [])
  passes-snoc publisher seen k [] [] t p all is = (
    record {
      session_is = is.session_is ∙ omega arith;
      tally_is = is.tally_is;
      publisher_is = is.publisher_is;
      seen_is = is.seen_is;
      called = is.called;
      loaded = is.loaded;
    },
    tt,
  )
  passes-snoc publisher seen k [] (q ∷ ps) t p all is = absurd all
  passes-snoc publisher seen k (s ∷ ts) [] t p all is = absurd all
  passes-snoc publisher seen k (s ∷ ts) (q ∷ ps) t p all is =
      let same : k + length (s ∷ ts) ≡ suc k + length ts = omega arith in (
        all.0,
        passes-snoc publisher seen (suc k) ts ps t p all.1
            (record {
              session_is = is.session_is ∙ same;
              tally_is = is.tally_is;
              publisher_is = is.publisher_is;
              seen_is = is.seen_is;
              called = is.called;
              loaded = is.loaded;
            }),
      )

  -- as many passes as sessions
  pub passes-many : (publisher : TableId) (seen : Log (Mark M)) (k : ℕ) (ts : List TableId) (ps : List (Seen M))
      → AreNewPasses publisher seen k ts ps → length ps ≡ length ts
  passes-many publisher seen k [] [] all = refl
  passes-many publisher seen k [] (q ∷ ps) all = absurd all
  passes-many publisher seen k (s ∷ ts) [] all = absurd all
  passes-many publisher seen k (s ∷ ts) (q ∷ ps) all = ap suc (passes-many publisher seen (suc k) ts ps all.1)

  passes-from : (publisher : TableId) (seen : Log (Mark M)) (whole : List TableId) (k : ℕ) (ts : List TableId) (ps : List (Seen M))
      → ((i : ℕ) → slice_get whole (k + i) ≡ slice_get ts i) → AreNewPasses publisher seen (suc k) ts ps
      → AllByRecursion (IsPassOf publisher whole) ps
  passes-from publisher seen whole k [] [] at all = tt
  passes-from publisher seen whole k [] (q ∷ ps) at all = absurd all
  passes-from publisher seen whole k (s ∷ ts) [] at all = absurd all
  passes-from publisher seen whole k (s ∷ ts) (q ∷ ps) at all =
      let place : q.session - 1 ≡ k + 0 = omega (arith, all.0.session_is) in (
        record { publisher_is = all.0.publisher_is; tally_is = ap (slice_get whole) place ∙ (at 0 ∙ ap (λ (t : TableId). Some t) (sym all.0.tally_is)) },
        passes-from publisher seen whole (suc k) ts ps (λ i. let next : suc k + i ≡ k + suc i = omega arith in ap (slice_get whole) next ∙ at (suc i)) all.1,
      )

  -- they are passes of the lab
  pub passes-of : (publisher : TableId) (seen : Log (Mark M)) (ts : List TableId) (ps : List (Seen M))
      → AreNewPasses publisher seen 1 ts ps → AllByRecursion (IsPassOf publisher ts) ps
  passes-of publisher seen ts ps all = passes-from publisher seen ts 0 ts ps (λ i. let same : 0 + i ≡ i = omega arith in ap (slice_get ts) same) all

  -- no entries yet
  pub counts-snoc : (k : ℕ) (ts : List TableId) (t : TableId) (js : List (Entry M)) → js ≡ []
      → counts_of k ts js ++ (record { table = t; count = 0 }) ∷ [] ≡ counts_of k (ts ++ t ∷ []) js
  counts-snoc k [] t js none = let zero_is : 0 ≡ count_of k js = sym (ap (count_of k) none) in λ z. record { table = t; count = zero_is z } ∷ []
  counts-snoc k (s ∷ ts) t js none = ap (λ (l : List Count). record { table = s; count = count_of k js } ∷ l) (counts-snoc (suc k) ts t js none)

  -- ---- the lists of an opened lab

  pub counts-kept : (ts ts' : List TableId) (hs hs' : List Count) (js : List (Entry M)) → ts' ≡ ts → hs' ≡ hs → hs ≡ counts_of 1 ts js
      → hs' ≡ counts_of 1 ts' js
  counts-kept ts ts' hs hs' js same here is = here ∙ (is ∙ ap (λ (l : List TableId). counts_of 1 l js) (sym same))

  pub passes-kept : (publisher : TableId) (seen : Log (Mark M)) (ts ts' : List TableId) (ps ps' : List (Seen M)) → ts' ≡ ts → ps' ≡ ps
      → AreNewPasses publisher seen 1 ts ps → AreNewPasses publisher seen 1 ts' ps'
  passes-kept publisher seen ts ts' ps ps' same here are =
      subst (λ (l : List TableId). AreNewPasses publisher seen 1 l ps') (sym same)
      (subst (λ (l : List (Seen M)). AreNewPasses publisher seen 1 ts l) (sym here) are)

  pub counts-added : (ts ts' : List TableId) (hs hs' : List Count) (js : List (Entry M)) (t : TableId) (h : Count) → js ≡ []
      → hs ≡ counts_of 1 ts js → h.table ≡ t → h.count ≡ 0 → ts' ≡ ts ++ t ∷ [] → hs' ≡ hs ++ h ∷ [] → hs' ≡ counts_of 1 ts' js
  counts-added ts ts' hs hs' js t h none is table zero_is longer more =
      more ∙ ((λ z. is z ++ (record { table = table z; count = zero_is z }) ∷ [])
      ∙ (counts-snoc 1 ts t js none ∙ ap (λ (l : List TableId). counts_of 1 l js) (sym longer)))

  pub passes-added : (publisher : TableId) (seen : Log (Mark M)) (ts ts' : List TableId) (ps ps' : List (Seen M)) (t : TableId)
      (p : Seen M) → AreNewPasses publisher seen 1 ts ps → IsNewPass publisher seen (1 + length ts) t p → ts' ≡ ts ++ t ∷ [] → ps' ≡ ps ++ p ∷ []
      → AreNewPasses publisher seen 1 ts' ps'
  passes-added publisher seen ts ts' ps ps' t p are is longer more =
      passes-kept publisher seen (ts ++ t ∷ []) ts' (ps ++ p ∷ []) ps' longer more (passes-snoc publisher seen 1 ts ps t p are is)
