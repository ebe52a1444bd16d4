-- Timeouts are read class by class.
use Rattle.std.proofs.Common.{◌≡◌, ◌<◌, ◌≤◌, ℕ, ◌+◌, List, [], ◌∷◌, ◌++◌, length, take, drop, get_or, set, Option, Some, None, Ok, Err, refl, sym, ap}
use Rattle.std.proofs.Common.{subst, cond, ◌∙◌, append_assoc, add-one, drop-cons}
use Rattle.std.specs.Prelude.{suc, true, false, bytes_eq, codes, unwrap_or}
use Rattle.std.proofs.Math.ListN.{drop_of_length-le}
use Rattle.std.proofs.lemmas.List.{take_more_set, take_all, append-nil}
use Rattle.pfl_base.specs.declared.class.Class.{Class}
use Rattle.pfl_lines.specs.declared.fault.LineFault.{LineFault}
use Rattle.pfl_lines.specs.Readings.{◌>>=◌, Reading}
use Rattle.pfl_base.specs.Texts.{class_text}
use Rattle.pfl_lines.specs.Rules.{behind_word, behind_class, timeout_at, timeouts_at}

-- after `timeout`, the class's word is what is looked for
pub class_behind : (class : Class) (ws rest : List (List ℕ)) → behind_word (codes "timeout") ws ≡ Some rest
    → behind_class class ws ≡ behind_word (class_text class) rest
class_behind class [] rest e = cc
class_behind class (word ∷ []) rest e =
    elim (bytes_eq word (codes "timeout")) as (λ b. cond b (Some []) None ≡ Some rest → None ≡ behind_word (class_text class) rest) [
      | true ↦ λ h. subst (λ ws. None ≡ behind_word (class_text class) ws) (ap (λ o. unwrap_or o []) h) refl
      | false ↦ λ h. cc
    ] e
class_behind class (word ∷ name ∷ ws) rest e =
    elim (bytes_eq word (codes "timeout")) as (λ b. cond b (Some (name ∷ ws)) None ≡ Some rest
    → cond b (behind_word (class_text class) (name ∷ ws)) None ≡ behind_word (class_text class) rest) [
      | true ↦ λ h. ap (λ o. behind_word (class_text class) (unwrap_or o [])) h
      | false ↦ λ h. cc
    ] e

-- these timeouts go before those that are read
abbrev pub behind_those : List (Option ℕ) → Reading (List (Option ℕ)) → Reading (List (Option ℕ))
behind_those before (Ok x) = Ok (before ++ x.0, x.1)
behind_those before (Err e) = Err e

-- no class is left
pub timeouts-none : (ws : List (List ℕ)) → timeouts_at [] ws ≡ Ok ([], ws)
unfolding timeouts_at
timeouts-none ws = refl

-- the next class's timeout is read
pub timeouts-next : (class : Class) (rest : List Class) (ws others : List (List ℕ)) (seconds : Option ℕ) →
    timeout_at class ws ≡ Ok (seconds, others) → timeouts_at (class ∷ rest) ws ≡ behind_those (seconds ∷ []) (timeouts_at rest others)
unfolding timeouts_at
timeouts-next class rest ws others seconds e = rw e (last (timeouts_at rest others)) where
  last : (r : Reading (List (Option ℕ))) → (r >>= λ x. Ok (seconds ∷ x.0, x.1)) ≡ behind_those (seconds ∷ []) r
  last (Ok x) = refl
  last (Err e) = refl

-- the next class's timeout has a fault
pub timeouts-fault : (class : Class) (rest : List Class) (ws : List (List ℕ)) (fault : LineFault) →
    timeout_at class ws ≡ Err fault → timeouts_at (class ∷ rest) ws ≡ Err fault
unfolding timeouts_at
timeouts-fault class rest ws fault e = rw e refl

-- one timeout after others
pub behind-next : (before : List (Option ℕ)) (seconds : Option ℕ) (r : Reading (List (Option ℕ))) →
    behind_those before (behind_those (seconds ∷ []) r) ≡ behind_those (before ++ seconds ∷ []) r
behind-next before seconds (Ok x) = ap (λ (s : List (Option ℕ)). Ok (s, x.1)) (sym (append_assoc before (seconds ∷ []) x.0))
behind-next before seconds (Err e) = refl

-- one timeout more is read
pub read-next : (cs : List Class) (d : Class) (line rest others : List (List ℕ)) (timeouts : List (Option ℕ)) (i : ℕ) (seconds : Option ℕ) →
    i < length cs → i < length timeouts → timeouts_at cs line ≡ behind_those (take i timeouts) (timeouts_at (drop i cs) rest) →
    timeout_at (get_or cs i d) rest ≡ Ok (seconds, others) →
    timeouts_at cs line ≡ behind_those (take (i + 1) (set timeouts i seconds)) (timeouts_at (drop (i + 1) cs) others)
read-next cs d line rest others timeouts i seconds h k read e =
    rw (
      take_more_set timeouts i seconds k,
      ← behind-next (take i timeouts) seconds (timeouts_at (drop (i + 1) cs) others),
      ← timeouts-next (get_or cs i d) (drop (i + 1) cs) rest others seconds e,
      add-one,
      ← drop-cons cs i d h,
    ) read

-- a fault is read
pub read-fault : (cs : List Class) (d : Class) (line rest : List (List ℕ)) (timeouts : List (Option ℕ)) (i : ℕ) (fault : LineFault) →
    i < length cs → timeouts_at cs line ≡ behind_those (take i timeouts) (timeouts_at (drop i cs) rest) →
    timeout_at (get_or cs i d) rest ≡ Err fault → timeouts_at cs line ≡ Err fault
read-fault cs d line rest timeouts i fault h read e =
    read ∙ rw (drop-cons cs i d h, timeouts-fault (get_or cs i d) (drop (suc i) cs) rest fault e) refl

-- all are read
pub read-all : (cs : List Class) (line rest : List (List ℕ)) (timeouts : List (Option ℕ)) (i : ℕ) →
    length cs ≤ i → length timeouts ≤ i → timeouts_at cs line ≡ behind_those (take i timeouts) (timeouts_at (drop i cs) rest) →
    timeouts_at cs line ≡ Ok (timeouts, rest)
read-all cs line rest timeouts i h k read =
    read ∙ rw (drop_of_length-le cs {i = i} h, timeouts-none rest, take_all i timeouts k, append-nil timeouts) refl
