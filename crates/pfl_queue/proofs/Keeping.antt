-- What keeps the pending queues queues.
use Rattle.std.proofs.Common.{◌≡◌, inl, inr, ℕ, ◌+◌, ◌-◌, ◌<◌, ◌≤◌, Bool, true, false, cond, not, ◌&&◌, ◌||◌, List, [], ◌∷◌, ◌++◌, length, drop}
use Rattle.std.proofs.Common.{Option, Some, None, is_some, refl, sym, ◌∙◌, ap, subst, T, arith, nat_le}
use Rattle.std.specs.Prelude.{if◌then◌else◌}
use Rattle.std.specs.List.{IsDistinct, AllByRecursion, list_any, insert}
use Rattle.std.proofs.lemmas.Bool.Decides.{nat_tests}
use Rattle.std.proofs.lemmas.List.{length-append}
use Rattle.std.proofs.lemmas.List.Edits.{insert_end}
use Rattle.std.proofs.lemmas.List.Sorted.{IsPermutation-sym, IsPermutation-to_front}
use Rattle.std.proofs.lemmas.Map.Keys.{IsDistinct-cons, IsDistinct-tail, IsDistinct-IsPermutation}
use Rattle.pfl_base.specs.declared.state_name.StateName.{StateName}
use Rattle.pfl_base.specs.Names.{name_cmp, is_name}
use Rattle.pfl_base.proofs.ForCallers.{names_total, names_exact, is_name-itself, is_name-same}
use Rattle.pfl_edits.specs.Maps as maps
use Rattle.pfl_edits.proofs.ForCallers.{get-empty, len-empty, len-insert, len-remove, get-set_at_cases, set_at-same, some_is_none}
use Rattle.pfl_wire.specs.declared.message.BulkStatus.{BulkStatus}
use Rattle.pfl_queue.specs.declared.Cleared.{Cleared}
use Rattle.pfl_queue.specs.declared.Kind.{Kind}
use Rattle.pfl_queue.specs.declared.Mark.{Mark}
use Rattle.pfl_queue.specs.declared.QueueFault.TheVariants.{QueueFull, CountFull}
use Rattle.pfl_queue.specs.Queues.{Queue, IsQueue, pending, empty_queue, mark_fault, list_fault, unmarked, is_requested, most_numbers, room_fault}
use Rattle.pfl_queue.specs.declared.Entry.{Entry}
use Rattle.pfl_queue.specs.declared.Entry.TheVariants.{Marked, Request, Status, Clear}
use Rattle.pfl_queue.specs.Edits.{with_mark}
use Rattle.pfl_queue.specs.Taking.{gone}

-- an empty map has nothing at a name
nothing : {A : Type 0} (n : StateName) (m : Mark) → maps.get (maps.empty {R = name_cmp}) n ≡ Some m → A
nothing n m is = absurd (some_is_none m (sym is ∙ get-empty name_cmp n))

-- nothing pending is a queue
pub empty_kept : (limit next : ℕ) → next ≤ most_numbers → IsQueue (empty_queue limit next)
unfolding IsDistinct
empty_kept limit next low = record {
  few = subst (λ (k : ℕ). k + 0 + 0 + 0 ≤ limit) (sym (len-empty name_cmp Mark)) (omega arith);
  filed = λ n m is. nothing n m is;
  below = λ n m is. nothing n m is;
  one_number = λ n o m k is there. nothing n m is;
  asked_once = tt;
  countable = low;
}

-- what is set where nothing stood is a queue as before, and what was there is a queue without it
pub unmarked_absent : (q : Queue) (name : StateName) → maps.get q.marks name ≡ None → q ≡ unmarked q name
unmarked_absent q name is = ap (λ m. record q { marks = m }) (sym (set_at-same names_total names_exact q.marks name None is))

either : (a b : Bool) → (a || b) ≡ false → (a ≡ false) × (b ≡ false)
either true b e = absurd (subst T e tt)
either false b e = (refl, e)

-- no name of the list passes
none_passes : (p : StateName → Bool) (names : List StateName) → list_any p names ≡ false → AllByRecursion (λ n. p n ≡ false) names
none_passes p [] e = tt
none_passes p (n ∷ names) e = let both = either (p n) (list_any p names) e in (both.0, none_passes p names both.1)

-- a name is another, whichever is asked of which
pub same_other_way : (a b : StateName) → is_name a b ≡ is_name b a
same_other_way a b = elim (is_name a b) as (λ t. is_name a b ≡ t → t ≡ is_name b a) [
  | true ↦ λ t. sym (is_name-itself b a (sym (is_name-same a b t)))
  | false ↦ λ t. elim (is_name b a) as (λ u. is_name b a ≡ u → false ≡ u) [
    | true ↦ λ u. sym t ∙ is_name-itself a b (sym (is_name-same b a u))
    | false ↦ λ u. refl
  ] refl
] refl

-- a name that was not listed is listed once
asked_once_more : (names : List StateName) (name : StateName) → list_any (is_name name) names ≡ false → IsDistinct is_name names
    → IsDistinct is_name (names ++ name ∷ [])
asked_once_more names name new once =
    IsDistinct-IsPermutation is_name same_other_way (name ∷ names) (names ++ name ∷ []) (IsPermutation-sym _ _ (IsPermutation-to_front names name))
    (IsDistinct-cons is_name name names (none_passes (is_name name) names new) once)

no_longer : {X : Type 0} (xs : List X) → length (drop 1 xs) ≤ length xs
no_longer [] = omega arith
no_longer (x ∷ xs) = omega arith

still_once : (names : List StateName) → IsDistinct is_name names → IsDistinct is_name (drop 1 names)
still_once [] once = once
still_once (n ∷ names) once = IsDistinct-tail is_name n names once

-- where nothing keeps a name from being marked, there is room for it and a number
module _ (q : Queue) (name : StateName) (free : mark_fault q name ≡ None) where
  pub has_room : room_fault q name ≡ None
  has_room = through (not (is_some (maps.get q.marks name)) && nat_le q.limit (pending q)) (nat_le 4294967295 q.next) free
    where
      through : (a b : Bool) → (if a then Some QueueFull else (if b then Some CountFull else None)) ≡ None → (if a then Some QueueFull else None) ≡ None
      through true b n = absurd (some_is_none QueueFull n)
      through false b n = refl

  pub has_number : q.next < most_numbers
  has_number = through (not (is_some (maps.get q.marks name)) && nat_le q.limit (pending q)) (nat_le 4294967295 q.next) refl free
    where
      through : (a b : Bool) → nat_le 4294967295 q.next ≡ b → (if a then Some QueueFull else (if b then Some CountFull else None)) ≡ None
          → q.next < most_numbers
      through true b e n = absurd (some_is_none QueueFull n)
      through false true e n = absurd (some_is_none CountFull n)
      through false false e n =
          let low : q.next < 4294967295 = grind (arith, nat_tests) in
          omega (arith, low)

module _ (q : Queue) (is : IsQueue q) where
  less : (b : Bool) (n rest limit : ℕ) → n + rest ≤ limit → cond b (n - 1) n + rest ≤ limit
  less true n rest limit h = omega arith
  less false n rest limit h = h

  -- a mark less
  module _ (name : StateName) where
    pub kept : (n : StateName) (m : Mark) → maps.get (maps.remove q.marks name) n ≡ Some m → maps.get q.marks n ≡ Some m
    kept n m at = elim (get-set_at_cases names_total names_exact q.marks name None n m at) [
      | inl h ↦ absurd (some_is_none m (sym h.1))
      | inr h ↦ h.1
    ]

    pub unmarked_kept : IsQueue (unmarked q name)
    unmarked_kept = record {
      few = rw (len-remove names_total q.marks name)
          (let h = less (maps.contains_key q.marks name) (maps.len q.marks)
          (length q.requests + length q.statuses + length q.clears) q.limit (omega (arith, is.few)) in omega (arith, h));
      filed = λ n m at. is.filed n m (kept n m at);
      below = λ n m at. is.below n m (kept n m at);
      one_number = λ n o m k at there same. is.one_number n o m k (kept n m at) (kept o k there) same;
      asked_once = is.asked_once;
      countable = is.countable;
    }

  -- a mark more, or another one
  module _ (name : StateName) (kind : Kind) (free : room_fault q name ≡ None) (low : q.next < most_numbers) where
    room : maps.get q.marks name ≡ None → pending q < q.limit
    room at = through (nat_le q.limit (pending q)) refl
      where
        through : (b : Bool) → nat_le q.limit (pending q) ≡ b → pending q < q.limit
        through true e = absurd (some_is_none QueueFull
            (sym (ap (λ (o : Option Mark). if not (is_some o) && nat_le q.limit (pending q) then Some QueueFull else None) at
            ∙ ap (λ b. if b then Some QueueFull else None) e) ∙ free))
        through false e = grind (arith, nat_tests)

    few_more : (o : Option Mark) → maps.get q.marks name ≡ o
        → cond (is_some o) (maps.len q.marks) (maps.len q.marks + 1) + length q.requests + length q.statuses + length q.clears ≤ q.limit
    few_more None at = let r = room at in omega (arith, r)
    few_more (Some m) at = is.few

    pub marked_kept : IsQueue (with_mark q name (Some (record { kind = kind; number = q.next; name = name })) (q.next + 1))
    marked_kept =
        let cases = get-set_at_cases names_total names_exact q.marks name (Some (record { kind = kind; number = q.next; name = name })) in
        record {
          few = rw (len-insert names_total q.marks name (record { kind = kind; number = q.next; name = name })) (few_more (maps.get q.marks name) refl);
          filed = λ n m at. elim (cases n m at) [
            | inl h ↦ (let same : record { kind = kind; number = q.next; name = name } ≡ m = cc
                in ap (λ (g : Mark). g.name) (sym same)) ∙ sym h.0
            | inr old ↦ is.filed n m old.1
          ];
          below = λ n m at. elim (cases n m at) [
            | inl h ↦ let same : record { kind = kind; number = q.next; name = name } ≡ m = cc in let number =
                ap (λ (g : Mark). g.number) same in omega (arith, number)
            | inr old ↦ omega (arith, is.below n m old.1)
          ];
          one_number = λ n o m k at there same. elim (cases n m at) [
            | inl h ↦ elim (cases o k there) [
              | inl j ↦ h.0 ∙ sym j.0
              | inr old ↦ absurd (let is_new : record { kind = kind; number = q.next; name = name } ≡ m = cc
                  in let a = ap (λ (g : Mark). g.number) is_new in omega (arith, is.below o k old.1, same, a))
            ]
            | inr old ↦ elim (cases o k there) [
              | inl j ↦ absurd (let is_new : record { kind = kind; number = q.next; name = name } ≡ k = cc
                  in let a = ap (λ (g : Mark). g.number) is_new in omega (arith, is.below n m old.1, same, a))
              | inr older ↦ is.one_number n o m k old.1 older.1 same
            ]
          ];
          asked_once = is.asked_once;
          countable = omega (arith, low);
        }

  -- a request more, where there is room
  module _ (free : list_fault q ≡ None) where
    pub not_full : pending q < q.limit
    not_full = through (nat_le q.limit (pending q)) refl
      where
        through : (b : Bool) → nat_le q.limit (pending q) ≡ b → pending q < q.limit
        through true e = absurd (some_is_none QueueFull (sym (ap (λ b. if b then Some QueueFull else None) e) ∙ free))
        through false e = grind (arith, nat_tests)

    pub status_kept : (status : BulkStatus) → IsQueue (record q { statuses = q.statuses ++ status ∷ [] })
    status_kept status = record {
      few = omega (arith, not_full, length-append q.statuses (status ∷ []));
      filed = is.filed;
      below = is.below;
      one_number = is.one_number;
      asked_once = is.asked_once;
      countable = is.countable;
    }

    pub clear_kept : (cleared : Cleared) → IsQueue (record q { clears = q.clears ++ cleared ∷ [] })
    clear_kept cleared = record {
      few = omega (arith, not_full, length-append q.clears (cleared ∷ []));
      filed = is.filed;
      below = is.below;
      one_number = is.one_number;
      asked_once = is.asked_once;
      countable = is.countable;
    }

    module _ (name : StateName) (new : is_requested q name ≡ false) where
      pub request_kept : IsQueue (record q { requests = q.requests ++ name ∷ [] })
      request_kept = record {
        few = omega (arith, not_full, length-append q.requests (name ∷ []));
        filed = is.filed;
        below = is.below;
        one_number = is.one_number;
        asked_once = asked_once_more q.requests name new is.asked_once;
        countable = is.countable;
      }

      pub request_put : (n : ℕ) → n ≡ length q.requests → IsQueue (record q { requests = insert q.requests n name })
      request_put n last = rw (last, insert_end q.requests name) request_kept

  -- what a frame takes
  pub gone_kept : (e : Entry) → IsQueue (gone q e)
  gone_kept (Marked kind number name) = unmarked_kept name
  gone_kept (Request name) = record {
    few = omega (arith, is.few, no_longer q.requests);
    filed = is.filed;
    below = is.below;
    one_number = is.one_number;
    asked_once = still_once q.requests is.asked_once;
    countable = is.countable;
  }
  gone_kept (Status status) = record {
    few = omega (arith, is.few, no_longer q.statuses);
    filed = is.filed;
    below = is.below;
    one_number = is.one_number;
    asked_once = is.asked_once;
    countable = is.countable;
  }
  gone_kept (Clear creator bound) = record {
    few = omega (arith, is.few, no_longer q.clears);
    filed = is.filed;
    below = is.below;
    one_number = is.one_number;
    asked_once = is.asked_once;
    countable = is.countable;
  }
