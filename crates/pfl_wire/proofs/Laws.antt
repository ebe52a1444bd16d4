-- The two laws of frames: what is read is spelled so, and what is spelled is read again.
use Rattle.std.proofs.Common.{◌≡◌, ℕ, zero, suc, All, ◌*◌, ◌+◌, ◌^◌, ◌<◌, ◌≤◌, true, false, ltb, List, [], ◌∷◌, ◌++◌, length, get_or, take, drop}
use Rattle.std.proofs.Common.{Some, Result, Ok, Err, refl, sym, ap, subst, ◌∙◌, append_assoc, arith, inl, inr}
use Rattle.std.specs.Prelude.{◌==◌, nat_le, IfOk, OnOk, Vec, slice_get}
use Rattle.std.specs.List.{flat_map, AllByRecursion, sum_by}
use Rattle.std.proofs.lemmas.Bool.{eqb-true, ltb-false, le-ltb, cases_lt}
use Rattle.std.proofs.lemmas.Bool.Decides.{nat_tests}
use Rattle.std.proofs.lemmas.List.{append-nil, take_more, map_push, length-append, take-append-drop, length-take-le, length-take, take_at, drop_at}
use Rattle.std.proofs.lemmas.List.{get_or-take, get_or_past}
use Rattle.std.proofs.lemmas.List.Concat.{flat_map-cons, flat_map-append}
use Rattle.std.proofs.lemmas.List.Sums.{sum_by-cons}
use Rattle.std.proofs.lemmas.List.Elements.{All-from_recursion, recursion_from_All, All-same, All-push}
use Rattle.pfl_wire.specs.declared.action.Action.{Action}
use Rattle.pfl_wire.specs.declared.message.Message.{Message}
use Rattle.pfl_wire.specs.declared.fault.FrameFault.{FrameFault}
use Rattle.pfl_wire.specs.declared.fault.BadFrame.{BadFrame}
use Rattle.pfl_wire.specs.declared.fault.BadFrame.TheVariants as bad
use Rattle.pfl_wire.specs.Faults.{frame_fault}
use Rattle.pfl_wire.specs.Frames.{Frame, lists, FitsMessage, RuleFits, IsGroupOf, IsGroup, IsFrame, IsSendable, action_of, group_len, frame_len}
use Rattle.pfl_wire.specs.Actions.{record_len}
use Rattle.pfl_wire.specs.Spelling.{number_bytes, record_bytes, group_bytes, spelling, Spells}
use Rattle.pfl_wire.specs.Fields.{wanted, byte_at, number_at}
use Rattle.pfl_wire.specs.Reading.{groups_at, print_at, header_at, reading}
use Rattle.pfl_wire.specs.Answers.{Decodes}
use Rattle.pfl_wire.proofs.Fields.{IsBytes, IsBytes-drop, IsBytes-rest, bind_then, guard_ok, wanted_ok, ok_is, Takes, Takes-then, byte_takes}
use Rattle.pfl_wire.proofs.Fields.{number_takes, number_again, length-number_bytes}
use Rattle.pfl_wire.proofs.RecordBytes.{bind_again, wanted_again, le_test, Takes-byte}
use Rattle.pfl_wire.proofs.Groups.{length-record_bytes, length-records, groups_take, groups_again}

le_refl : (n : ℕ) → n ≤ n
le_refl n = omega arith

-- ---- lengths

length-all_records : (ms : List Message) → length (flat_map record_bytes ms) ≡ sum_by (λ m. record_len (action_of m)) ms
length-all_records [] = refl
length-all_records (m ∷ ms) =
    ap length (flat_map-cons record_bytes m ms) ∙ length-append (record_bytes m) (flat_map record_bytes ms)
    ∙ sums (length-record_bytes m) (length-all_records ms) ∙ sym (sum_by-cons (λ n. record_len (action_of n)) m ms)
  where
    sums : {p q r s : ℕ} → p ≡ q → r ≡ s → p + r ≡ q + s
    sums e f = omega (arith, e, f)

length-group_bytes : (g : List Message) → IsGroup g → length (group_bytes g) ≡ group_len g
unfolding group_bytes
length-group_bytes [] is = absurd is
length-group_bytes (m ∷ ms) is =
    omega (
      arith,
      length-append (number_bytes 2 (length (m ∷ ms))) (flat_map record_bytes (m ∷ ms)),
      length-number_bytes 2
          (length (m ∷ ms)),
      length-all_records (m ∷ ms),
    )

pub length-groups : (gs : List (List Message)) → AllByRecursion IsGroup gs → length (flat_map group_bytes gs) ≡ sum_by group_len gs
length-groups [] are = refl
length-groups (g ∷ gs) are =
    ap length (flat_map-cons group_bytes g gs) ∙ length-append (group_bytes g) (flat_map group_bytes gs)
    ∙ sums (length-group_bytes g are.0) (length-groups gs are.1) ∙ sym (sum_by-cons group_len g gs)
  where
    sums : {p q r s : ℕ} → p ≡ q → r ≡ s → p + r ≡ q + s
    sums e f = omega (arith, e, f)

-- how many bytes spell a frame
pub spelled_len : (bytes : List ℕ) (f : Frame) → Spells bytes f → length bytes ≡ frame_len f.groups
unfolding spelling
spelled_len bytes f spells =
    let is = spells.is_frame in
    let body = flat_map group_bytes f.groups in
    let size = number_bytes 2 (20 + length body) in
    omega (
      arith,
      ap length spells.spelled,
      length-append (size ++ f.print) body,
      length-append size f.print,
      length-number_bytes 2
          (20 + length body),
      length-groups f.groups is.groups,
      is.print,
    )

-- ---- the checksum

all_bytes : (xs : List ℕ) → IsBytes xs → AllByRecursion (λ b. b < 256) xs
all_bytes [] fits = tt
all_bytes (x ∷ xs) fits = (fits 0, all_bytes xs (IsBytes-rest x xs fits))

IsBytes-take : (n : ℕ) (bytes : List ℕ) → IsBytes bytes → IsBytes (take n bytes)
IsBytes-take n bytes h i =
    elim (cases_lt i n) [
      | inl lt ↦ rw (get_or-take n bytes i 0 lt) (h i)
      | inr le ↦ rw (get_or_past (take n bytes) i 0 (omega (arith, length-take n bytes))) (omega arith)
    ]

record IsPrintRead (bytes : List ℕ) (x : List ℕ × List ℕ) : Type 0 where
  pub takes : Takes bytes x.0 x.1
  pub long : length x.0 ≡ 16
  pub in_range : AllByRecursion (λ b. b < 256) x.0

print_takes : (bytes : List ℕ) (x : List ℕ × List ℕ) → IsBytes bytes → print_at bytes ≡ Ok x → IsPrintRead bytes x
unfolding print_at
print_takes bytes x fits e =
    let g = guard_ok (ltb (length bytes) 16) bad.Short (Ok (take 16 bytes, drop 16 bytes)) x e in
    let long : 16 ≤ length bytes = ltb-false _ _ g.0 in
    subst (λ (y : List ℕ × List ℕ). IsPrintRead bytes y) (ok_is (take 16 bytes, drop 16 bytes) x g.1)
    (record {
      takes = record { parts = sym (take-append-drop 16 bytes); rest_fits = IsBytes-drop 16 bytes fits };
      long = length-take-le 16 bytes long;
      in_range = all_bytes (take 16 bytes) (IsBytes-take 16 bytes fits);
    })

print_again : (print rest : List ℕ) → length print ≡ 16 → print_at (print ++ rest) ≡ Ok (print, rest)
unfolding print_at
print_again print rest len =
    let long : ltb (length (print ++ rest)) 16 ≡ false = le-ltb _ _ (omega (arith, length-append print rest)) in
    rw (long, take_at print rest 16 len, drop_at print rest 16 len) refl

-- ---- frames

eq_test : (n m : ℕ) → n ≡ m → (n == m) ≡ true
eq_test n m e = grind (arith, nat_tests)

-- what is read of a header
record IsHeaderRead (bytes : List ℕ) (x : List ℕ × List ℕ) : Type 0 where
  pub parts : bytes ≡ (5 ∷ []) ++ (0 ∷ []) ++ number_bytes 2 (length bytes) ++ x.0 ++ x.1
  pub long : length x.0 ≡ 16
  pub in_range : AllByRecursion (λ b. b < 256) x.0
  pub rest_fits : IsBytes x.1
  pub short : length bytes < 2 ^ 16

header_takes : (bytes : List ℕ) (x : List ℕ × List ℕ) → IsBytes bytes → header_at bytes ≡ Ok x → IsHeaderRead bytes x
unfolding header_at
header_takes bytes x fits e =
    bind_then (wanted (nat_le 20 (length bytes)) bad.Short) _ x e (λ long long_is e0.
    bind_then (byte_at bytes) _ x e0 (λ version version_is e1.
    bind_then (wanted (version.0 == 5) bad.Version) _ x e1 (λ five five_is e2.
    bind_then (byte_at version.1) _ x e2 (λ pad pad_is e3.
    bind_then (number_at 2 pad.1) _ x e3 (λ len len_is e4.
    bind_then (wanted (len.0 == length bytes) bad.Length) _ x e4 (λ same same_is e5.
    bind_then (wanted (pad.0 == 0) bad.Value) _ x e5 (λ zero zero_is e6.
    let t0 = byte_takes bytes version fits version_is in
    let t1 = byte_takes version.1 pad t0.0.rest_fits pad_is in
    let t2 = number_takes 2 pad.1 len t1.0.rest_fits len_is in
    let t3 = print_takes len.1 x t2.0.rest_fits e6 in
    let b0 = Takes-byte bytes version.1 version.0 5 t0.0 (sym (eqb-true version.0 5 (wanted_ok _ _ _ five_is))) in
    let b1 = Takes-byte version.1 pad.1 pad.0 0 t1.0 (sym (eqb-true pad.0 0 (wanted_ok _ _ _ zero_is))) in
    let c1 = Takes-then bytes (5 ∷ []) version.1 (0 ∷ []) pad.1 b0 b1 in
    let c2 = Takes-then bytes _ pad.1 (number_bytes 2 len.0) len.1 c1 t2.0 in
    let c3 = Takes-then bytes _ len.1 x.0 x.1 c2 t3.takes in
    let is_len : len.0 ≡ length bytes = eqb-true _ _ (wanted_ok _ _ _ same_is) in
    record {
      parts = c3.parts ∙ ap (λ (n : ℕ). (5 ∷ []) ++ (0 ∷ []) ++ number_bytes 2 n ++ x.0 ++ x.1) is_len;
      long = t3.long;
      in_range = t3.in_range;
      rest_fits = t3.takes.rest_fits;
      short = omega (arith, t2.1, is_len);
    })))))))

header_again : (print rest : List ℕ) (n : ℕ) → length print ≡ 16 → n ≡ 20 + length rest → n < 2 ^ 16
    → header_at (5 ∷ 0 ∷ (number_bytes 2 n ++ (print ++ rest))) ≡ Ok (print, rest)
unfolding header_at
header_again print rest n long is short =
    let len : length (5 ∷ 0 ∷ (number_bytes 2 n ++ (print ++ rest))) ≡ n = counts (number_bytes 2 n) print rest n (length-number_bytes 2 n) long is in
    bind_again _ _ _ _ (wanted_again _ bad.Short (le_test 20 (length (5 ∷ 0 ∷ (number_bytes 2 n ++ (print ++ rest)))) (omega (arith, len, is))))
    (bind_again _ _ _ _ (number_again 2 n (print ++ rest) (omega (arith, short)))
    (bind_again _ _ _ _ (wanted_again _ bad.Length (eq_test _ _ (sym len)))
    (print_again print rest long)))
  where
    counts : (number print rest : List ℕ) (n : ℕ) → length number ≡ 2 → length print ≡ 16 → n ≡ 20 + length rest
        → length (5 ∷ 0 ∷ (number ++ (print ++ rest))) ≡ n
    counts number print rest n p q e = omega (arith, length-append number (print ++ rest), length-append print rest)

pub reading_takes : (bytes : List ℕ) (f : Frame) → IsBytes bytes → reading bytes ≡ Ok f → Spells bytes f
unfolding reading spelling
reading_takes bytes f fits e =
    bind_then (header_at bytes) _ f e (λ print print_is e1.
    bind_then (groups_at (length print.1) print.1) _ f e1 (λ groups groups_is e2.
    let t0 = header_takes bytes print fits print_is in
    let t1 = groups_take (length print.1) print.1 groups t0.rest_fits groups_is in
    let whole : bytes ≡ (5 ∷ []) ++ (0 ∷ []) ++ number_bytes 2 (length bytes) ++ print.0 ++ flat_map group_bytes groups.0 =
    t0.parts ∙ ap (λ (t : List ℕ). (5 ∷ []) ++ (0 ∷ []) ++ number_bytes 2 (length bytes) ++ print.0 ++ t) t1.whole in
    let counted : length bytes ≡ 20 + length (flat_map group_bytes groups.0) =
    counts bytes (number_bytes 2 (length bytes)) print.0 (flat_map group_bytes groups.0) (length-number_bytes 2 (length bytes)) t0.long whole in
    let made : Frame = record { print = print.0; groups = groups.0 } in
    subst (λ (g : Frame). Spells bytes g) (ok_is made f e2)
    (record {
      is_frame = record {
        print = t0.long;
        print_bytes = t0.in_range;
        groups = t1.are;
        short = omega (arith, length-groups groups.0 t1.are, t0.short, counted);
      };
      spelled = whole ∙ ap (λ (n : ℕ). (5 ∷ []) ++ (0 ∷ []) ++ number_bytes 2 n ++ print.0 ++ flat_map group_bytes groups.0) counted;
    })))
  where
    counts : (bytes number print body : List ℕ) → length number ≡ 2 → length print ≡ 16
        → bytes ≡ (5 ∷ []) ++ (0 ∷ []) ++ number ++ print ++ body → length bytes ≡ 20 + length body
    counts bytes number print body p q e = omega (arith, ap length e, length-append (number ++ print) body, length-append number print)

pub reading_again : (f : Frame) → IsFrame f → reading (spelling f) ≡ Ok f
unfolding reading spelling
reading_again f is =
    let regrouped : spelling f ≡ 5 ∷ 0 ∷ (number_bytes 2 (20 + length (flat_map group_bytes f.groups)) ++ (f.print ++ flat_map group_bytes f.groups)) =
    ap (λ (t : List ℕ). 5 ∷ 0 ∷ t) (append_assoc (number_bytes 2 (20 + length (flat_map group_bytes f.groups))) f.print (flat_map group_bytes f.groups)) in
    ap reading regrouped
    ∙ bind_again _ _ _ _ (header_again f.print (flat_map group_bytes f.groups) (20 + length (flat_map group_bytes f.groups)) is.print refl
    (omega (arith, is.short, length-groups f.groups is.groups)))
    (bind_again _ _ _ _ (groups_again (length (flat_map group_bytes f.groups)) f.groups is.groups (le_refl (length (flat_map group_bytes f.groups))))
    refl)

-- ---- sizes, as the code computes them

pub group_len-first : (a : Action) (ms : List Message) → AllByRecursion (λ n. action_of n ≡ a) ms → group_len ms ≡ 4 + length ms * record_len a
group_len-first a ms are = omega (arith, length-all_records ms, length-records a ms are)

-- the groups in vectors, one by one
groups_are : {A : Type 0} (P : Message → Type 0) (gs : List (Vec Message A)) → AllByRecursion (IsGroupOf P) (lists gs)
    → AllByRecursion (λ (g : Vec Message A). IsGroupOf P g.items) gs
groups_are P [] are = tt
groups_are P (g ∷ gs) are = (are.0, groups_are P gs are.1)

pub each_group : {A : Type 0} (P : Message → Type 0) (gs : List (Vec Message A)) → AllByRecursion (IsGroupOf P) (lists gs)
    → All (λ (g : Vec Message A). IsGroupOf P g.items) gs
each_group {A = A} P gs are = All-from_recursion (λ (g : Vec Message A). IsGroupOf P g.items) gs (groups_are P gs are)

-- a group whose records have a spelling
pub group_is : (ms : List Message) → IsGroupOf RuleFits ms → All FitsMessage ms → IsGroup ms
group_is [] is fit = absurd is
group_is (m ∷ ms) is fit = (is.0, is.1, recursion_from_All FitsMessage (m ∷ ms) fit)

pub group_ok : {E : Type 0} (r : Result (Unit {0}) E) (ms : List Message) → IsGroupOf RuleFits ms → OnOk r (All FitsMessage ms) → OnOk r (IsGroup ms)
group_ok (Ok x) ms is fit = group_is ms is fit
group_ok (Err e) ms is fit = tt

-- ---- one item more was written

pub bytes_more : {X : Type 0} (f : X → List ℕ) (xs ys : List X) (y : X) (a b c : List ℕ) → ys ≡ xs ++ y ∷ [] → b ≡ a ++ flat_map f xs
    → c ≡ b ++ f y → c ≡ a ++ flat_map f ys
bytes_more f xs ys y a b c more before after =
    after ∙ ap (λ (t : List ℕ). t ++ f y) before ∙ append_assoc a (flat_map f xs) (f y)
    ∙ ap (λ (t : List ℕ). a ++ t) (sym (ap (flat_map f) more ∙ flat_map-append f xs (y ∷ []) ∙ ap (λ (t : List ℕ). flat_map f xs ++ t) (append-nil (f y))))

pub all_more : {X : Type 0} (P : X → Type 0) (xs ys : List X) (y : X) → ys ≡ xs ++ y ∷ [] → All P xs → P y → All P ys
all_more P xs ys y more are is = All-same P ys (xs ++ y ∷ []) more (All-push P xs y are is)

pub record_more : (ms : List Message) (i : ℕ) (m : Message) → i < length ms → m ≡ get_or ms i m → take (i + 1) ms ≡ take i ms ++ m ∷ []
record_more ms i m lt is = take_more ms i m lt ∙ ap (λ (n : Message). take i ms ++ n ∷ []) (sym is)

pub group_more : {A : Type 0} (gs : List (Vec Message A)) (i : ℕ) (g : Vec Message A) (ms : List Message) → i < length gs
    → g ≡ get_or gs i g → ms ≡ g.items → lists (take (i + 1) gs) ≡ lists (take i gs) ++ ms ∷ []
group_more {A = A} gs i g ms lt is e =
    ap lists (take_more gs i g lt ∙ ap (λ (h : Vec Message A). take i gs ++ h ∷ []) (sym is)) ∙ map_push (λ (h : Vec Message A). h.items) (take i gs) g
    ∙ ap (λ (ns : List Message). lists (take i gs) ++ ns ∷ []) (sym e)

-- what decoding returns where reading meets a fault
pub fault_decodes : {Y : Type 0} (view : Y → Frame) (e : BadFrame) (read : Result Frame BadFrame) → read ≡ Err e → Decodes view (Err (frame_fault e)) read
fault_decodes view bad.Short read is = is
fault_decodes view bad.Version read is = is
fault_decodes view bad.Length read is = is
fault_decodes view bad.Action read is = is
fault_decodes view bad.Count read is = is
fault_decodes view bad.Value read is = is

-- what decoding returns is spelled by the bytes
pub decodes_found : {Y : Type 0} (view : Y → Frame) (r : Result Y FrameFault) (bytes : List ℕ) → IsBytes bytes
    → Decodes view r (reading bytes) → IfOk r (λ y. Spells bytes (view y))
decodes_found view (Ok y) bytes fits given = reading_takes bytes (view y) fits given
decodes_found view (Err e) bytes fits given = tt

-- what is spelled is what decoding returns, or memory is wanting
pub decodes_only : {Y : Type 0} (view : Y → Frame) (r : Result Y FrameFault) (bytes : List ℕ) (f : Frame) → Spells bytes f
    → Decodes view r (reading bytes) → Decodes view r (Ok f)
decodes_only view r bytes f spells given =
    subst (λ (read : Result Frame BadFrame). Decodes view r read) (ap reading spells.spelled ∙ reading_again f spells.is_frame) given

pub sum_by-take_lists : {A : Type 0} (n : ℕ) (gs : List (Vec Message A)) → sum_by group_len (lists (take n gs)) ≤ sum_by group_len (lists gs)
sum_by-take_lists zero gs = omega arith
sum_by-take_lists (suc n) [] = omega arith
sum_by-take_lists (suc n) (g ∷ gs) =
    omega (arith, sum_by-cons group_len g.items (lists (take n gs)), sum_by-cons group_len g.items (lists gs), sum_by-take_lists n gs)

-- what was spelled is read again
pub spelled_again : {A E : Type 0} (r : Result (Vec ℕ A) E) (f : Frame) → IfOk r (λ v. Spells v.items f) → IfOk r (λ v. reading v.items ≡ Ok f)
spelled_again (Ok v) f given = ap reading given.spelled ∙ reading_again f given.is_frame
spelled_again (Err e) f given = tt

-- nothing else spells the frame
pub spelled_only : {A E : Type 0} (r : Result (Vec ℕ A) E) (f : Frame) → IfOk r (λ v. Spells v.items f)
    → IfOk r (λ v. (bytes : List ℕ) → Spells bytes f → bytes ≡ v.items)
spelled_only (Ok v) f given = λ bytes spells. spells.spelled ∙ sym given.spelled
spelled_only (Err e) f given = tt

-- a frame has a spelling, if what types keep of it is so
pub frame_is : (f : Frame) → IsSendable f → length f.print ≡ 16 → All (λ b. b < 256) f.print → All IsGroup f.groups → IsFrame f
frame_is f is long bytes are =
    record { print = long; print_bytes = recursion_from_All (λ b. b < 256) f.print bytes; groups = recursion_from_All IsGroup f.groups are; short = is.short }

-- what the code wrote, with the size that it computed, is the spelling
pub spelled_as : (f : Frame) (out : List ℕ) (size : ℕ) → IsFrame f → size ≡ frame_len f.groups
    → out ≡ ((((5 ∷ []) ++ (0 ∷ [])) ++ number_bytes 2 size) ++ f.print) ++ flat_map group_bytes f.groups → Spells out f
unfolding spelling
spelled_as f out size is e made =
    let spelled : out ≡ spelling f =
    made ∙ ap (λ (n : ℕ). ((((5 ∷ []) ++ (0 ∷ [])) ++ number_bytes 2 n) ++ f.print) ++ flat_map group_bytes f.groups)
    (omega (arith, e, length-groups f.groups is.groups)) in
    record { is_frame = is; spelled = spelled }

some_same : {X : Type 0} (x y : X) → Some x ≡ Some y → x ≡ y
some_same x y e = cc

-- the size of a group, from its first record
pub group_size_is : (P : Message → Type 0) (g : List Message) (first : Message) (a : Action) (size : ℕ) → IsGroupOf P g
    → Some first ≡ slice_get g 0 → a ≡ action_of first → size ≡ record_len a
    → 4 + length g * size ≡ group_len g
group_size_is P [] first a size is at e f = absurd is
group_size_is P (m ∷ ms) first a size is at e f =
    let of_first : action_of m ≡ a = ap action_of (sym (some_same first m at)) ∙ sym e in
    let size_is : size ≡ record_len (action_of m) = f ∙ ap record_len (sym of_first) in
    ap (λ (n : ℕ). 4 + length (m ∷ ms) * n) size_is ∙ sym (group_len-first (action_of m) (m ∷ ms) (refl, is.1))
