-- What is known of the entries of a frame: their marks stand in the queues, and the frame has room for them.
use Rattle.std.proofs.Common.{◌≡◌, ℕ, ◌≤◌, Bool, true, false, cond, List, [], ◌∷◌, ◌++◌, Some, refl, sym, subst, arith, nat_le}
use Rattle.std.specs.Prelude.{filter}
use Rattle.std.specs.List.{AllByRecursion}
use Rattle.std.proofs.lemmas.Bool.Decides.{nat_tests}
use Rattle.pfl_base.specs.Lists.{prefixes}
use Rattle.pfl_base.specs.declared.state_name.StateName.{StateName}
use Rattle.pfl_base.proofs.ForCallers.{each-weaker}
use Rattle.pfl_edits.specs.Maps as maps
use Rattle.pfl_queue.specs.declared.Entry.{Entry}
use Rattle.pfl_queue.specs.declared.Entry.TheVariants.{Marked, Request, Status, Clear}
use Rattle.pfl_queue.specs.declared.Mark.{Mark}
use Rattle.pfl_queue.specs.Edits.{FindsFormer, taking}
use Rattle.pfl_queue.specs.inner.Fitting.{entry_bytes, longest}
use Rattle.pfl_queue.specs.Queues.{Queue, IsQueue}
use Rattle.pfl_queue.specs.Taking.{in_turn, gone, next_frame}
use Rattle.pfl_queue.proofs.Fitting.{next_frame-longest}
use Rattle.pfl_queue.proofs.Fronts.{BeginsWith, longest_begins, last_or, first_found, front_gone}
use Rattle.pfl_queue.proofs.Keeping.{kept, gone_kept}

-- ---- the entries are the first ones

pub frame_begins : (q : Queue) (mtu : ℕ) → BeginsWith (in_turn q) (next_frame q mtu)
frame_begins q mtu = subst (BeginsWith (in_turn q)) (sym (next_frame-longest q mtu)) (longest_begins (in_turn q) mtu)

-- ---- the marks of the entries

-- the mark of the entry stands under its name
abbrev pub Stands : Queue → Entry → Type 0
Stands q (Marked kind number name) = maps.get q.marks name ≡ Some (record { name = name; kind = kind; number = number })
Stands q (Request name) = Unit {0}
Stands q (Status status) = Unit {0}
Stands q (Clear creator bound) = Unit {0}

found_stands : (q : Queue) (e : Entry) → FindsFormer (taking e) q → Stands q e
found_stands q (Marked kind number name) found = found
found_stands q (Request name) found = tt
found_stands q (Status status) found = tt
found_stands q (Clear creator bound) found = tt

-- a mark that is left was there
pub mark_stood : (q : Queue) → IsQueue q → (e : Entry) (name : StateName) (m : Mark) → maps.get (gone q e).marks name ≡ Some m → maps.get q.marks name ≡ Some m
mark_stood q is (Marked kind number taken) name m at = kept q is taken name m at
mark_stood q is (Request asked) name m at = at
mark_stood q is (Status status) name m at = at
mark_stood q is (Clear creator bound) name m at = at

stood : (q : Queue) → IsQueue q → (e f : Entry) → Stands (gone q e) f → Stands q f
stood q is e (Marked kind number name) at = mark_stood q is e name (record { name = name; kind = kind; number = number }) at
stood q is e (Request name) at = tt
stood q is e (Status status) at = tt
stood q is e (Clear creator bound) at = tt

first_stand : (es : List Entry) (q : Queue) → IsQueue q → (rest : List Entry) → es ++ rest ≡ in_turn q → AllByRecursion (Stands q) es
first_stand [] q is rest turn = tt
first_stand (e ∷ es) q is rest turn = (
  found_stands q e (first_found q is e (es ++ rest) (sym turn)),
  each-weaker (Stands (gone q e)) (Stands q) (stood q is e) es (first_stand es (gone q e) (gone_kept q is e) rest (sym (front_gone q is e (es ++ rest) (sym turn)))),
)

pub frame_stands : (q : Queue) (mtu : ℕ) → IsQueue q → AllByRecursion (Stands q) (next_frame q mtu)
frame_stands q mtu is = let begins = frame_begins q mtu in first_stand (next_frame q mtu) q is begins.rest begins.is

-- ---- the bytes of the entries

all_pass : {X : Type 0} (p : X → Bool) (xs : List X) → AllByRecursion (λ x. p x ≡ true) (filter p xs)
all_pass p [] = tt
all_pass p (x ∷ xs) = elim (p x) as (λ b. p x ≡ b → AllByRecursion (λ y. p y ≡ true) (cond b (x ∷ filter p xs) (filter p xs))) [
  | true ↦ λ e. (e, all_pass p xs)
  | false ↦ λ e. all_pass p xs
] refl

at_most : (n mtu : ℕ) → n ≤ mtu → nat_le n mtu ≡ true
at_most n mtu h = grind (arith, nat_tests)

is_at_most : (n mtu : ℕ) → nat_le n mtu ≡ true → n ≤ mtu
is_at_most n mtu h = grind (arith, nat_tests)

-- a frame has at most mtu bytes, where a header has
pub frame_fits : (q : Queue) (mtu : ℕ) → 20 ≤ mtu → entry_bytes (next_frame q mtu) ≤ mtu
frame_fits q mtu header =
    let fits : List Entry → Bool = λ front. nat_le (entry_bytes front) mtu in
    let so = last_or (λ front. fits front ≡ true) [] (filter fits (prefixes (in_turn q))) (at_most 20 mtu header) (all_pass fits (prefixes (in_turn q))) in
    subst (λ (es : List Entry). entry_bytes es ≤ mtu) (sym (next_frame-longest q mtu)) (is_at_most (entry_bytes (longest (in_turn q) mtu)) mtu so)
